-- What agreement gives and what keeps it.
use Rattle.std.proofs.Common.{◌≡◌, ◌≢◌, ◌≤◌, ◌<◌, refl, sym, ap, subst, ◌∙◌, ℕ, zero, suc, arith, Bool, true, false, ◌||◌, not, nat_eq, List, [], ◌∷◌, length, Option, Some, None, slice_get, slice_set, inl, inr, ◌⊎◌}
use Rattle.std.specs.List.{AllByRecursion, list_all}
use Rattle.std.proofs.lemmas.Bool.{false≢true, eqb-true}
use Rattle.sdg_base.specs.declared.val.Val.{Val}
use Rattle.sdg_base.specs.declared.value_type.ValueType.{ValueType}
use Rattle.sdg_base.specs.Types as values
use Rattle.state_classes.specs.States.{State}
use Rattle.java_tree.specs.declared.types.ValueType.{ValueType as VariableType}
use Rattle.java_tree.specs.declared.method_kinds.MethodKind.{MethodKind}
use Rattle.java_tree.specs.declared.method_kinds.MethodKind.TheVariants.{Entry, Helper, Merge}
use Rattle.access_blocks.specs.Statements.{Machine, seen_by, with_turns, with_variable}
use Rattle.body_code.specs.declared.callee.Callee.{Callee}
use Rattle.body_code.specs.Early.{is_in}
use Rattle.body_code.specs.Typing.{Context, Needs, variable_type, variable_type_in, one_type}
use Rattle.body_code.specs.Checking.{Surroundings, Standing, with_known, same_number, same_value, is_none, are_known, covers, has_key, is_merge_of, takes_values, takes_gathered, are_met, is_type, are_types, takes}
use Rattle.code_meaning.specs.Evaluating.{AreOf, HasSame, MergesThese, Meets}
use Rattle.code_meaning.specs.Running.{Below, Ground, IsGround, FieldsAgree, Agrees}
use Rattle.code_meaning.proofs.Lists.{none_some, both_true, get_within, get_set, get_set_other, length_set, same_or_not}
use Rattle.code_meaning.proofs.Values.{same_is, same_are}

-- ---- tests over lists

pub each_of : {A : Type 0} (P : A → Type 0) (p : A → Bool) → ((x : A) → p x ≡ true → P x) → (xs : List A) → list_all p xs ≡ true → AllByRecursion P xs
each_of P p h [] is = tt
each_of P p h (x ∷ xs) is = let k = both_true (p x) (list_all p xs) is in (h x k.0, each_of P p h xs k.1)

pub in_more : (w v : ℕ) (vs : List ℕ) → is_in w (v ∷ vs) ≡ true → (w ≡ v) ⊎ (is_in w vs ≡ true)
in_more w v vs is = by (nat_eq w v) refl is
  where
    by : (b : Bool) → nat_eq w v ≡ b → (b || is_in w vs) ≡ true → (w ≡ v) ⊎ (is_in w vs ≡ true)
    by true same is = inl (eqb-true w v same)
    by false same is = inr is

pub in_known : (known vs : List ℕ) → list_all (λ v. is_in v known) vs ≡ true → (v : ℕ) → is_in v vs ≡ true → is_in v known ≡ true
in_known known [] all v is = absurd (false≢true is)
in_known known (x ∷ xs) all v is =
    let k = both_true (is_in x known) (list_all (λ v. is_in v known) xs) all in
    by k.0 (in_known known xs k.1 v) (in_more v x xs is)
  where
    by : is_in x known ≡ true → (is_in v xs ≡ true → is_in v known ≡ true) → (v ≡ x) ⊎ (is_in v xs ≡ true) → is_in v known ≡ true
    by here more (inl e) = ap (λ w. is_in w known) e ∙ here
    by here more (inr h) = more h

pub same_number_is : (a b : Option ℕ) → same_number a b ≡ true → a ≡ b
same_number_is None None is = refl
same_number_is (Some a) (Some b) is = ap Some (eqb-true a b is)
same_number_is None (Some b) is = absurd (false≢true is)
same_number_is (Some a) None is = absurd (false≢true is)

pub same_value_is : (a b : Option ValueType) → same_value a b ≡ true → a ≡ b
same_value_is None None is = refl
same_value_is (Some a) (Some b) is = ap Some (same_is a b is)
same_value_is None (Some b) is = absurd (false≢true is)
same_value_is (Some a) None is = absurd (false≢true is)

pub is_type_is : (o : Option ValueType) (t : ValueType) → is_type o t ≡ true → o ≡ Some t
is_type_is None t is = absurd (false≢true is)
is_type_is (Some u) t is = ap Some (same_is u t is)

pub are_types_are : (o : Option (List ValueType)) (ts : List ValueType) → are_types o ts ≡ true → o ≡ Some ts
are_types_are None ts is = absurd (false≢true is)
are_types_are (Some us) ts is = ap Some (same_are us ts is)

-- ---- what a standing has of another one

none_or_same : {A : Type 0} (same : Option A → Option A → Bool) → ((x y : Option A) → same x y ≡ true → x ≡ y) → (a b : Option A) → (is_none b || same a b) ≡ true → (x : A) → b ≡ Some x → a ≡ Some x
none_or_same same h a None is x e = absurd (none_some x e)
none_or_same same h a (Some y) is x e = h a (Some y) is ∙ e

pub covers_below : (a b : Standing) → covers a b ≡ true → Below a b
covers_below a b is =
    let k = both_true (are_known a b.known) _ is in
    let l = both_true (is_none b.field || same_number a.field b.field) _ k.1 in
    record {
      known = in_known a.known b.known k.0;
      field = none_or_same same_number same_number_is a.field b.field l.0;
      gathered = none_or_same same_value same_value_is a.gathered b.gathered l.1;
    }

-- ---- agreement

key_below : (around : Surroundings) (a b : Option ℕ) → ((f : ℕ) → b ≡ Some f → a ≡ Some f) → has_key around b ≡ true → has_key around a ≡ true
key_below around a None h is = absurd (false≢true is)
key_below around a (Some f) h is = ap (has_key around) (h f refl) ∙ is

pub agrees_below : {g : Ground} {a b : Standing} {variables : List Val} {state : State} {m : Machine} → Below a b → Agrees g a variables state m → Agrees g b variables state m
agrees_below {g} {a} {b} l h = record {
  known = λ v is. h.known v (l.known v is);
  room = h.room;
  room_there = h.room_there;
  few = h.few;
  gathers = h.gathers;
  gathered = λ t is. h.gathered t (l.gathered t is);
  key = λ is. h.key (key_below g.around a.field b.field l.field is);
  at_site = λ f is. h.at_site f (l.field f is);
  fields = h.fields;
}

pub fields_fewer : {g : Ground} {state : State} {m : Machine} (left : ℕ) → FieldsAgree g state m → FieldsAgree g state (with_turns left m)
fields_fewer left h = record { same_fields = h.same_fields; same_instance = h.same_instance; of_class = h.of_class }

pub agrees_fewer : {g : Ground} {st : Standing} {variables : List Val} {state : State} {m : Machine} (left : ℕ) → left ≤ m.turns → Agrees g st variables state m → Agrees g st variables state (with_turns left m)
agrees_fewer left l h = record {
  known = h.known;
  room = h.room;
  room_there = h.room_there;
  few = let k = h.few in omega arith;
  gathers = record { same = h.gathers.same; members = h.gathers.members; are_values = h.gathers.are_values };
  gathered = h.gathered;
  key = h.key;
  at_site = h.at_site;
  fields = fields_fewer left h.fields;
}

-- ---- variables

one_within : (variables : List VariableType) (v : ℕ) (t : ValueType) → one_type (slice_get variables v) ≡ Some t → v < length variables
one_within variables v t is = by (slice_get variables v) refl is
  where
    by : (o : Option VariableType) → slice_get variables v ≡ o → one_type o ≡ Some t → v < length variables
    by None e is = absurd (none_some t is)
    by (Some x) e is = get_within variables v x e

in_within : (members : Option ValueType) (variables : List VariableType) (v : ℕ) (t : ValueType) → variable_type_in members variables v ≡ Some t → v < length variables
in_within None variables v t is = one_within variables v t is
in_within (Some m) variables zero t is = absurd (none_some t is)
in_within (Some m) variables (suc v) t is = one_within variables (suc v) t is

pub variable_within : (c : Context) (v : ℕ) (t : ValueType) → variable_type c v ≡ Some t → v < length c.variables
variable_within c v t is = in_within c.members c.variables v t is

same_set : (c : Context) (here there : List Val) (v w : ℕ) (x : Val) (t : ValueType) → variable_type c v ≡ Some t → values.type_of x ≡ t → v < length here → v < length there
    → (w ≡ v) ⊎ (w ≢ v) → (w ≢ v → HasSame c here there w) → HasSame c (slice_set here v x) (slice_set there v x) w
same_set c here there v w x t is has in_here in_there (inl e) more =
    record { type = t; value = x; is_type = ap (variable_type c) e ∙ is; has_type = has; is_here = ap (slice_get (slice_set here v x)) e ∙ get_set here v x in_here; is_there = ap (slice_get (slice_set there v x)) e ∙ get_set there v x in_there }
same_set c here there v w x t is has in_here in_there (inr other) more =
    let k = more other in
    record { type = k.type; value = k.value; is_type = k.is_type; has_type = k.has_type; is_here = get_set_other here v w x other ∙ k.is_here; is_there = get_set_other there v w x other ∙ k.is_there }

not_same : (w v : ℕ) (known : List ℕ) → w ≢ v → is_in w (v ∷ known) ≡ true → is_in w known ≡ true
not_same w v known other is = by (in_more w v known is)
  where
    by : (w ≡ v) ⊎ (is_in w known ≡ true) → is_in w known ≡ true
    by (inl e) = absurd (other e)
    by (inr h) = h

pub agrees_set : {g : Ground} {st : Standing} {variables : List Val} {state : State} {m : Machine} → IsGround g → (v : ℕ) (x : Val) (t : ValueType) → variable_type g.around.context v ≡ Some t → values.type_of x ≡ t
    → Agrees g st variables state m → Agrees g (with_known v st) (slice_set variables v x) state (with_variable v x m)
agrees_set {g} {st} {variables} {state} {m} ground v x t is has h =
    let within : v < length g.around.context.variables = variable_within g.around.context v t is in
    let r = ground.room in let r1 = h.room in let r2 = h.room_there in
    let in_here : v < length variables = omega arith in
    let in_there : v < length m.variables = omega arith in
    record {
      known = λ w known. same_set g.around.context variables m.variables v w x t is has in_here in_there (same_or_not w v) (λ other. h.known w (not_same w v st.known other known));
      room = subst (λ n. n ≡ g.many) (sym (length_set variables v x)) h.room;
      room_there = subst (λ n. length g.around.context.variables ≤ n) (sym (length_set m.variables v x)) h.room_there;
      few = h.few;
      gathers = record { same = h.gathers.same; members = h.gathers.members; are_values = h.gathers.are_values };
      gathered = h.gathered;
      key = h.key;
      at_site = h.at_site;
      fields = record { same_fields = h.fields.same_fields; same_instance = h.fields.same_instance; of_class = h.fields.of_class };
    }

-- ---- what is needed is met

merges_there : (c : Context) (gathered : List Val) (m : ℕ) (t : ValueType) (o : Option Callee) → slice_get c.methods m ≡ o → AreOf t gathered → takes_values o t ≡ true → MergesThese c gathered m
merges_there c gathered m t None is are takes = absurd (false≢true takes)
merges_there c gathered m t (Some callee) is are takes = by callee.kind refl takes
  where
    by : (k : MethodKind) → callee.kind ≡ k → is_merge_of t k callee.params ≡ true → MergesThese c gathered m
    by Merge e takes = record { callee = callee; is_callee = is; merges = e; type = t; takes = same_are callee.params (t ∷ []) takes; are_of = are }
    by Entry e takes = absurd (false≢true takes)
    by Helper e takes = absurd (false≢true takes)

merges_these : (around : Surroundings) (gathered : List Val) (o : Option ValueType) → ((t : ValueType) → o ≡ Some t → AreOf t gathered) → (m : ℕ) → takes_gathered around o m ≡ true → MergesThese around.context gathered m
merges_these around gathered None are m takes = absurd (false≢true takes)
merges_these around gathered (Some t) are m takes = merges_there around.context gathered m t (slice_get around.context.methods m) refl (are t refl) takes

or_not : (a b : Bool) → (not a || b) ≡ true → a ≡ true → b ≡ true
or_not true b is e = is
or_not false b is e = absurd (false≢true e)

pub meets_of : {g : Ground} {st : Standing} {variables : List Val} {state : State} {m : Machine} → Agrees g st variables state m → (n : Needs) → are_met g.around st n ≡ true
    → Meets g.around.context g.setting variables (seen_by m) n
meets_of {g} {st} {variables} {state} {m} h n is =
    let k = both_true (are_known st n.variables) _ is in
    let l = both_true (list_all (takes_gathered g.around st.gathered) n.merges) _ k.1 in
    record {
      variables = each_of (HasSame g.around.context variables m.variables) (λ v. is_in v st.known) (λ v known. h.known v known) n.variables k.0;
      merges = each_of (MergesThese g.around.context m.gathered) (takes_gathered g.around st.gathered) (merges_these g.around m.gathered st.gathered h.gathered) n.merges l.0;
      key = λ e. h.key (or_not n.key (has_key g.around st.field) l.1 e);
    }
