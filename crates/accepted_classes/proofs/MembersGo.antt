-- The members of a class in which the rules on types find nothing: their names, their declarations, and what their bodies call.
use Rattle.std.proofs.Common.{◌≡◌, ℕ, zero, suc, ◌+◌, ◌<◌, ◌≤◌, Bool, true, false, not, ◌||◌, nat_le, List, [], ◌∷◌, ◌++◌, length, map, fold, slice_get, Some, refl, sym, ap, subst, ◌∙◌, append_assoc, append-nil, length-append, arith}
use Rattle.std.specs.List.{list_any}
use Rattle.std.proofs.lemmas.Bool.Decides.{nat_tests}
use Rattle.std.proofs.lemmas.Option.{slice_get_within}
use Rattle.java_tree.specs.declared.tree.Member.{Member}
use Rattle.java_tree.specs.declared.tree.Member.TheVariants as member
use Rattle.java_tree.specs.declared.tree.Field.{Field}
use Rattle.java_tree.specs.declared.tree.Method.{Method}
use Rattle.java_tree.specs.Kinds.{kind_of}
use Rattle.java_tree.specs.Words.{is_reserved}
use Rattle.java_types.specs.declared.walk.Env.{Env}
use Rattle.java_types.specs.declared.walk.Signature.{Signature}
use Rattle.java_types.specs.Fits.{is_known}
use Rattle.java_types.specs.Names.{entry_of}
use Rattle.java_types.specs.Walks.{most_fields, most_methods}
use Rattle.java_types.specs.Declarations.{result_type, param_type, is_sound, Methods, with_method}
use Rattle.java_types.specs.Members.{named_member, Membering, member_walk}
use Rattle.access_blocks.specs.declared.scope.Scope.{Scope}
use Rattle.access_blocks.specs.Programs.{fields_in, methods_in}
use Rattle.accepted_classes.proofs.Steps.{IsKnown}
use Rattle.accepted_classes.proofs.Naming.{Name, AreNew, names_in, with_new, names_push, few_names, entry_there, entry_from}
use Rattle.accepted_classes.proofs.MethodsGo.{named_new, field_still, method_goes, IsSoundMethod, method_sound, IsSoundField, field_sound}

the_same : {A : Type 0} {x y : A} → Some x ≡ Some y → x ≡ y
the_same e = cc

-- ---- names and declarations

abbrev pub field_names : List Member → List Name
field_names ms = map (λ f. f.name) (fields_in ms)

abbrev pub method_names : List Member → List Name
method_names ms = map (λ m. m.name) (methods_in ms)

pub record IsDeclared (m : Method) : Type 0 where
  pub sound : IsSoundMethod m
  pub plain : is_reserved m.name ≡ false

pub record IsDeclaredField (f : Field) : Type 0 where
  pub sound : IsSoundField f
  pub plain : is_reserved f.name ≡ false

pub record AreSound (b : Membering) (ms : List Member) : Type 0 where
  pub back : b.walk.findings ≡ []
  pub fields : AreNew (names_in b.seen.fields) 64 (field_names ms)
  pub methods : AreNew (names_in b.seen.methods) 256 (method_names ms)
  pub declared : (i : ℕ) (m : Method) → slice_get (methods_in ms) i ≡ Some m → IsDeclared m
  pub declared_fields : (i : ℕ) (f : Field) → slice_get (fields_in ms) i ≡ Some f → IsDeclaredField f

none : Scope
none = record { fields = []; methods = [] }

first_or : {A : Type 0} {P : A → Type 0} (m : A) (ms : List A) → P m → ((i : ℕ) (n : A) → slice_get ms i ≡ Some n → P n) → (i : ℕ) (n : A) → slice_get (m ∷ ms) i ≡ Some n → P n
first_or {P = P} m ms first rest zero n is = subst P (the_same is) first
first_or m ms first rest (suc i) n is = rest i n is

pub members_sound : (env : Env) (ms : List Member) (b : Membering) → (fold (member_walk env) b ms).walk.findings ≡ [] → AreSound b ms
members_sound env [] b q = record { back = q; fields = tt; methods = tt; declared = λ i m is. absurd (cc); declared_fields = λ i f is. absurd (cc) }
members_sound env (member.Field f ∷ ms) b q =
    let next = member_walk env b (member.Field f) in
    let rest = members_sound env ms next q in
    let named = named_member f.name most_fields b.walk.at b.seen.fields b.walk in
    let new = named_new f.name most_fields b.walk.at b.seen.fields b.walk ((field_still env f b.walk.at named.walk).back rest.back) in
    record {
      back = new.back;
      fields = (new.new, new.room, subst (λ (seen : List Name). AreNew seen 64 (field_names ms)) new.more rest.fields);
      methods = rest.methods;
      declared = rest.declared;
      declared_fields = first_or {P = IsDeclaredField} f (fields_in ms) (record { sound = field_sound env f b.walk.at named.walk rest.back; plain = new.plain }) rest.declared_fields;
    }
members_sound env (member.Method m ∷ ms) b q =
    let next = member_walk env b (member.Method m) in
    let rest = members_sound env ms next q in
    let named = named_member m.name most_methods b.walk.at b.seen.methods b.walk in
    let new = named_new m.name most_methods b.walk.at b.seen.methods b.walk ((method_goes (λ n. Unit {0}) env none m named.walk).back rest.back) in
    record {
      back = new.back;
      fields = rest.fields;
      methods = (new.new, new.room, subst (λ (seen : List Name). AreNew seen 256 (method_names ms)) new.more rest.methods);
      declared = first_or {P = IsDeclared} m (methods_in ms) (record { sound = method_sound env m named.walk rest.back; plain = new.plain }) rest.declared;
      declared_fields = rest.declared_fields;
    }

-- ---- the methods that the rules know

abbrev pub signature : ℕ → Method → Signature
signature n m = record { number = n; is_sound = is_sound n m; kind = kind_of m; result = result_type m.result; params = map param_type m.params }

abbrev pub numbered : ℕ → List Method → Methods
numbered n [] = []
numbered n (m ∷ ms) = (m.name, signature n m) ∷ numbered (n + 1) ms

pub methods_numbered : (ms : List Member) (known : Methods) → AreNew (names_in known) 256 (method_names ms) → fold with_method known ms ≡ known ++ numbered (length known) (methods_in ms)
methods_numbered [] known new = sym (append-nil known)
methods_numbered (member.Field f ∷ ms) known new = methods_numbered ms known new
methods_numbered (member.Method m ∷ ms) known new =
    let s = signature (length known) m in
    let one : with_method known (member.Method m) ≡ known ++ (m.name, s) ∷ [] = with_new m.name s known new.0 in
    let Goal : Methods → Type 0 = λ now. fold with_method now ms ≡ known ++ (m.name, s) ∷ numbered (length known + 1) (methods_in ms) in
    let more = methods_numbered ms (known ++ (m.name, s) ∷ []) (subst (λ (seen : List Name). AreNew seen 256 (method_names ms)) (sym (names_push known m.name s)) new.2) in
    subst Goal (sym one)
    (more ∙ (ap (λ (n : ℕ). (known ++ (m.name, s) ∷ []) ++ numbered n (methods_in ms)) (length-append known ((m.name, s) ∷ [])) ∙ append_assoc known ((m.name, s) ∷ []) (numbered (length known + 1) (methods_in ms))))

pub numbered_names : (n : ℕ) (ms : List Method) → names_in (numbered n ms) ≡ map (λ m. m.name) ms
numbered_names n [] = refl
numbered_names n (m ∷ ms) = ap (λ (rest : List Name). m.name ∷ rest) (numbered_names (n + 1) ms)

pub numbered_at : (n : ℕ) (ms : List Method) (i : ℕ) (m : Method) → slice_get ms i ≡ Some m → slice_get (numbered n ms) i ≡ Some (m.name, signature (n + i) m)
numbered_at n [] i m is = absurd (cc)
numbered_at n (k ∷ ms) zero m is =
    let at : n ≡ n + 0 = omega arith in
    ap (λ (j : ℕ). Some (k.name, signature j k)) at ∙ ap (λ (x : Method). Some (x.name, signature (n + 0) x)) (the_same is)
numbered_at n (k ∷ ms) (suc i) m is =
    let at : n + 1 + i ≡ n + suc i = omega arith in
    numbered_at (n + 1) ms i m is ∙ ap (λ (j : ℕ). Some (m.name, signature j m)) at

-- which method an entry is of
pub record IsOf (n : ℕ) (ms : List Method) (i : ℕ) (s : Signature) : Type 0 where
  pub method : Method
  pub at : slice_get ms i ≡ Some method
  pub is : s ≡ signature (n + i) method

pub numbered_from : (n : ℕ) (ms : List Method) (i : ℕ) (name : Name) (s : Signature) → slice_get (numbered n ms) i ≡ Some (name, s) → IsOf n ms i s
numbered_from n [] i name s is = absurd (cc)
numbered_from n (m ∷ ms) zero name s is =
    let at : n ≡ n + 0 = omega arith in
    record { method = m; at = refl; is = sym (ap (λ (e : Name × Signature). e.1) (the_same is)) ∙ ap (λ (j : ℕ). signature j m) at }
numbered_from n (m ∷ ms) (suc i) name s is =
    let at : n + 1 + i ≡ n + suc i = omega arith in
    let r = numbered_from (n + 1) ms i name s is in
    record { method = r.method; at = r.at; is = r.is ∙ ap (λ (j : ℕ). signature j r.method) at }

sound_by : (reserved over known others : Bool) → reserved ≡ false → over ≡ false → known ≡ true → others ≡ false → not (reserved || (over || (not known || others))) ≡ true
sound_by true over known others a b c d = absurd (cc)
sound_by false true known others a b c d = absurd (cc)
sound_by false false false others a b c d = absurd (cc)
sound_by false false true true a b c d = absurd (cc)
sound_by false false true false a b c d = refl

below_most : (n : ℕ) → n < 256 → nat_le most_methods n ≡ false
below_most n lt = grind (arith, nat_tests)

module _ (env : Env) (ms : List Member) (known : env.methods ≡ numbered 0 (methods_in ms)) (new : AreNew [] 256 (method_names ms)) (declared : (i : ℕ) (m : Method) → slice_get (methods_in ms) i ≡ Some m → IsDeclared m) where
  few : length (method_names ms) ≤ 256
  few = let h : 0 + length (method_names ms) ≤ 256 = few_names [] 256 (method_names ms) (omega arith) new in omega (arith, h)

  as_many : (xs : List Method) → length (map (λ m. m.name) xs) ≡ length xs
  as_many [] = refl
  as_many (x ∷ xs) = ap suc (as_many xs)

  found : (name : Name) (s : Signature) → entry_of name env.methods ≡ Some s → (i : ℕ) × (i < 256) × IsOf 0 (methods_in ms) i s
  found name s is =
      let e = entry_from env.methods name s is in
      let o = numbered_from 0 (methods_in ms) e.0 e.1 s (ap (λ (es : Methods). slice_get es e.0) (sym known) ∙ e.2) in
      let within = slice_get_within (methods_in ms) e.0 o.method o.at in
      (e.0, omega (arith, within, few, as_many (methods_in ms)), o)

  pub env_known : IsKnown env
  env_known = record {
    sound = λ name s is.
        let f = found name s is in
        let d = declared f.0 f.2.method f.2.at in
        let lt : 0 + f.0 < 256 = omega (arith, f.1) in
        ap (λ (x : Signature). x.is_sound) f.2.is
        ∙ sound_by (is_reserved f.2.method.name) (nat_le most_methods (0 + f.0)) (is_known (result_type f.2.method.result)) (list_any (λ p. not (is_known (param_type p))) f.2.method.params)
        d.plain (below_most (0 + f.0) lt) d.sound.result d.sound.params;
    few = λ name s is.
        let f = found name s is in
        let number : s.number ≡ 0 + f.0 = ap (λ (x : Signature). x.number) f.2.is in
        omega (arith, f.1, number);
  }

  -- each method is known by its name, with its number
  pub known_there : (i : ℕ) (m : Method) → slice_get (methods_in ms) i ≡ Some m → entry_of m.name env.methods ≡ Some (signature (0 + i) m)
  known_there i m is =
      subst (λ (es : Methods). entry_of m.name es ≡ Some (signature (0 + i) m)) (sym known)
      (entry_there [] 256 (numbered 0 (methods_in ms)) i m.name (signature (0 + i) m) (subst (AreNew [] 256) (sym (numbered_names 0 (methods_in ms))) new) (numbered_at 0 (methods_in ms) i m is))
