-- What the labels of its bodies say of the code of a typed class.
use Rattle.std.proofs.Common.{◌≡◌, ◌≢◌, refl, sym, ap, subst, ℕ, zero, suc, ◌+◌, ◌<◌, ◌≤◌, arith, Bool, true, false, List, [], ◌∷◌, map, length, length-append, Some, slice_get, inl, inr}
use Rattle.std.specs.Prelude.{nat_eq}
use Rattle.std.specs.List.{range_with_len}
use Rattle.std.proofs.lemmas.Bool.{false≢true, eqb-true}
use Rattle.java_tree.specs.declared.tree.Class.{Class}
use Rattle.java_tree.specs.declared.tree.Method.{Method}
use Rattle.java_tree.specs.declared.method_kinds.MethodKind.{MethodKind}
use Rattle.java_tree.specs.declared.method_kinds.MethodKind.TheVariants as source_kind
use Rattle.flat_code.specs.declared.graph.GraphField.{GraphField}
use Rattle.flat_code.specs.declared.graph.GraphMethod.{GraphMethod}
use Rattle.flat_code.specs.declared.graph.Instr.{Instr}
use Rattle.flat_code.specs.declared.graph.Instr.TheVariants as instr
use Rattle.flat_code.specs.declared.graph.MethodKind.TheVariants as method_kind
use Rattle.flat_code.specs.declared.graph.Task.{Task}
use Rattle.flat_code.specs.declared.graph.VariableType.TheVariants.{One}
use Rattle.flat_code.specs.Ways.{IsIn, needs, variables_of, IsFree, One as FreeOne, More, IsNeeded, NeededHere, NeededLater}
use Rattle.flat_code.specs.Verified.{AreNames, IsMethod, IsOfBody, is_of_entry, is_of_merge}
use Rattle.access_blocks.specs.declared.body.Body.{Body}
use Rattle.access_blocks.specs.declared.body.Program.{Program}
use Rattle.access_blocks.specs.Programs.{fields_in, methods_in}
use Rattle.body_code.specs.declared.callee.Callee.{Callee}
use Rattle.body_code.specs.Early.{is_in}
use Rattle.body_code.specs.ClassCode.{graph_kind, graph_methods, tasks_of, body_piece, variables_of as flat_variables}
use Rattle.body_code.specs.Checking.{Standing, known_parameters, IsOne, IsTypedBody, IsTyped}
use Rattle.verified_code.proofs.Labels.{Setting, MayRead, IsKnown, IsCollection}
use Rattle.verified_code.proofs.Making.{next_is}
use Rattle.verified_code.proofs.Simple.{or_is}
use Rattle.verified_code.proofs.Classes.{method_of, graph, own, fields, cs, setting, whole, first_task, names_same}
use Rattle.verified_code.proofs.Bodies.{Labelled, at_first, body_labels, many_variables}

-- ---- of one body

module _ (s : Setting) (first : Standing) (code : List Instr) (l : Labelled s first code) where
  pub free_falls : (at to : ℕ) → IsFree code at to → (l.lab to).rank < (l.lab at).rank
  free_falls at to (FreeOne a next i is no_turn goes) = (l.right a i is).ranks next goes no_turn
  free_falls at to (More a next t i is no_turn goes way) =
      let first : (l.lab next).rank < (l.lab a).rank = (l.right a i is).ranks next goes no_turn in
      let rest : (l.lab t).rank < (l.lab next).rank = free_falls next t way in
      omega (arith, first, rest)

  pub no_free : (at : ℕ) → IsFree code at at → ⊥
  no_free at way = let h : (l.lab at).rank < (l.lab at).rank = free_falls at at way in omega (arith, h)

  -- what is needed may be read
  pub needed_known : (tasks : List Task) → ((at t v : ℕ) → slice_get code at ≡ Some (instr.Cut t) → IsIn v (variables_of (slice_get tasks t)) → MayRead s (l.lab at).standing v)
      → (v at : ℕ) → IsNeeded tasks code v at → MayRead s (l.lab at).standing v
  needed_known tasks cuts v at (NeededHere a i is needs_it) = by i is needs_it
    where
      by : (i : Instr) → slice_get code a ≡ Some i → IsIn v (needs tasks i) → MayRead s (l.lab a).standing v
      by (instr.Cut t) is h = cuts a t v is h
      by i is h = (l.right a i is).may_read v h
  needed_known tasks cuts v at (NeededLater a next i is clear goes later) = by (needed_known tasks cuts v next later)
    where
      by : MayRead s (l.lab next).standing v → MayRead s (l.lab a).standing v
      by (IsKnown k) = elim ((l.right a i is).knows next (next_is a i next goes) v k) [ inl known ↦ IsKnown known | inr writing ↦ absurd (clear writing) ]
      by (IsCollection t e z) = IsCollection t e z

-- ---- of the class

in_range : (v at n : ℕ) → is_in v (range_with_len at n) ≡ true → v < at + n
in_range v at zero h = absurd (false≢true h)
in_range v at (suc n) h = elim (or_is (nat_eq v at) (is_in v (range_with_len (at + 1) n)) h) [
  | inl e ↦ (let same = eqb-true v at e in omega (arith, same))
  | inr later ↦ (let less : v < (at + 1) + n = in_range v (at + 1) n later in omega (arith, less))
]

known_first : (k : MethodKind) (arity v : ℕ) → is_in v (known_parameters k arity) ≡ true → v < arity
known_first source_kind.Entry arity v h = let less : v < 0 + arity = in_range v 0 arity h in omega (arith, less)
known_first source_kind.Helper arity v h = let less : v < 0 + arity = in_range v 0 arity h in omega (arith, less)
known_first source_kind.Merge arity v h = absurd (false≢true h)

one_parameter : (k : MethodKind) (arity v : ℕ) → IsOne k arity → k ≡ source_kind.Merge → v ≡ 0 → v < arity
one_parameter source_kind.Merge arity v one e z = omega (arith, one, z)
one_parameter source_kind.Entry arity v one e z = absurd (cc)
one_parameter source_kind.Helper arity v one e z = absurd (cc)

of_body : (k : MethodKind) (i : Instr) → (is_of_entry i ≡ true → k ≡ source_kind.Entry) → (is_of_merge i ≡ true → k ≡ source_kind.Merge) → IsOfBody (graph_kind k) i
of_body source_kind.Entry i entry merge = by (is_of_merge i) merge
  where
    by : (b : Bool) → (b ≡ true → source_kind.Entry ≡ source_kind.Merge) → b ≡ false
    by true h = absurd (let e = h refl in cc)
    by false h = refl
of_body source_kind.Helper i entry merge = (no_entry (is_of_entry i) entry, no_merge (is_of_merge i) merge)
  where
    no_entry : (b : Bool) → (b ≡ true → source_kind.Helper ≡ source_kind.Entry) → b ≡ false
    no_entry true h = absurd (let e = h refl in cc)
    no_entry false h = refl

    no_merge : (b : Bool) → (b ≡ true → source_kind.Helper ≡ source_kind.Merge) → b ≡ false
    no_merge true h = absurd (let e = h refl in cc)
    no_merge false h = refl
of_body source_kind.Merge i entry merge = by (is_of_entry i) entry
  where
    by : (b : Bool) → (b ≡ true → source_kind.Merge ≡ source_kind.Entry) → b ≡ false
    by true h = absurd (let e = h refl in cc)
    by false h = refl

pub methods_many : (fs : List GraphField) (ks : List Callee) (ms : List Method) (bs : List Body) (task : ℕ) → length ms ≡ length bs → length (graph_methods fs ks ms bs task) ≡ length ms
methods_many fs ks [] [] task e = refl
methods_many fs ks [] (b ∷ bs) task e = absurd (omega (arith, e))
methods_many fs ks (m ∷ ms) [] task e = absurd (omega (arith, e))
methods_many fs ks (m ∷ ms) (b ∷ bs) task e = ap suc (methods_many fs ks ms bs (task + tasks_of fs ks b) (omega (arith, e)))

method_names_same : (fs : List GraphField) (ks : List Callee) (ms : List Method) (bs : List Body) (task : ℕ) → length ms ≡ length bs → map (λ (m : GraphMethod). m.name) (graph_methods fs ks ms bs task) ≡ map (λ (m : Method). m.name) ms
method_names_same fs ks [] [] task e = refl
method_names_same fs ks [] (b ∷ bs) task e = absurd (omega (arith, e))
method_names_same fs ks (m ∷ ms) [] task e = absurd (omega (arith, e))
method_names_same fs ks (m ∷ ms) (b ∷ bs) task e = ap (λ (ns : List (List ℕ)). m.name ∷ ns) (method_names_same fs ks ms bs (task + tasks_of fs ks b) (omega (arith, e)))

many_names : {A : Type 0} (f : A → List ℕ) (xs : List A) → length (map f xs) ≡ length xs
many_names f [] = refl
many_names f (x ∷ xs) = ap suc (many_names f xs)

module _ (class : Class) (program : Program) (tasks : List Task) (typed : IsTyped class program) where
  -- a method of the class, with its labels
  pub record Lays (n : ℕ) (gm : GraphMethod) : Type 0 where
    pub m : Method
    pub b : Body
    pub task : ℕ
    pub is_m : slice_get (methods_in class.members) n ≡ Some m
    pub is_b : slice_get program.methods n ≡ Some b
    pub numbered : task ≡ first_task (fields class program tasks) (cs class program tasks) (methods_in class.members) program.methods 0 n
    pub is : own class program tasks m b task ≡ gm
    pub body : IsTypedBody program.fields (cs class program tasks) m b
    pub labels : Labelled (setting class program tasks m b task) (at_first b) (own class program tasks m b task).code

  pub lays : (n : ℕ) (gm : GraphMethod) → IsMethod (graph class program tasks) n gm → Lays n gm
  lays n gm e =
      let k = method_of (fields class program tasks) (cs class program tasks) (methods_in class.members) program.methods 0 n gm e in
      let task = first_task (fields class program tasks) (cs class program tasks) (methods_in class.members) program.methods 0 n in
      let body = typed.bodies n k.m k.b k.is_m k.is_b in
      record { m = k.m; b = k.b; task = task; is_m = k.is_m; is_b = k.is_b; numbered = refl; is = k.is; body = body; labels = body_labels class program tasks typed k.m k.b task body }

  pub first_read : (m : Method) (b : Body) (task v : ℕ) → IsTypedBody program.fields (cs class program tasks) m b → (l : Labelled (setting class program tasks m b task) (at_first b) (own class program tasks m b task).code)
      → MayRead (setting class program tasks m b task) (l.lab 0).standing v → v < b.arity
  first_read m b task v body l (IsKnown k) = known_first b.kind b.arity v (l.first_is.known v k)
  first_read m b task v body l (IsCollection t e z) = one_parameter b.kind b.arity v body.one ((whole class program tasks typed m b task).fit.merging t e) z

  pub parameters_few : (n : ℕ) (gm : GraphMethod) → IsMethod (graph class program tasks) n gm → gm.params ≤ length gm.vars
  parameters_few n gm e =
      let k = lays n gm e in
      let carried = map One (body_piece (fields class program tasks) (cs class program tasks) k.b).carried in
      let many = many_variables class program tasks typed k.b.kind k.b.variables in
      let both = length-append (flat_variables k.b.kind k.b.variables) carried in
      let few = k.body.arity in
      subst (λ (z : GraphMethod). z.params ≤ length z.vars) k.is (omega (arith, many, both, few))

  pub bodies_right : (n : ℕ) (gm : GraphMethod) (at : ℕ) (i : Instr) → IsMethod (graph class program tasks) n gm → slice_get gm.code at ≡ Some i → IsOfBody gm.kind i
  bodies_right n gm at i e =
      let k = lays n gm e in
      subst (λ (z : GraphMethod). slice_get z.code at ≡ Some i → IsOfBody z.kind i) k.is (λ is. (let r = k.labels.right at i is in of_body k.b.kind i r.kind.entry r.kind.merge))

  pub turns_spent : (n : ℕ) (gm : GraphMethod) (at : ℕ) → IsMethod (graph class program tasks) n gm → IsFree gm.code at at → ⊥
  turns_spent n gm at e =
      let k = lays n gm e in
      subst (λ (z : GraphMethod). IsFree z.code at at → ⊥) k.is (no_free (setting class program tasks k.m k.b k.task) (at_first k.b) (own class program tasks k.m k.b k.task).code k.labels at)

  is_entry : (k : MethodKind) → k ≡ source_kind.Entry → graph_kind k ≡ method_kind.Entry
  is_entry k e = ap graph_kind e

  pub helpers_read : (n : ℕ) (gm : GraphMethod) (v : ℕ) → IsMethod (graph class program tasks) n gm → gm.kind ≢ method_kind.Entry → IsNeeded tasks gm.code v 0 → v < gm.params
  helpers_read n gm v e =
      let k = lays n gm e in
      subst (λ (z : GraphMethod). z.kind ≢ method_kind.Entry → IsNeeded tasks z.code v 0 → v < z.params) k.is (λ no_entry needed.
      first_read k.m k.b k.task v k.body k.labels
      (needed_known (setting class program tasks k.m k.b k.task) (at_first k.b) (own class program tasks k.m k.b k.task).code k.labels tasks
      (λ at t u is h. absurd (no_entry (is_entry k.b.kind ((k.labels.right at (instr.Cut t) is).kind.entry refl)))) v 0 needed))

  pub fields_sound : AreNames (map (λ (field : GraphField). field.name) (fields class program tasks))
  fields_sound = subst AreNames (sym (names_same (fields_in class.members) program.fields typed.same_fields)) typed.names.field_names

  pub methods_sound : AreNames (map (λ (m : GraphMethod). m.name) (graph class program tasks).methods)
  methods_sound = subst AreNames (sym (method_names_same (fields class program tasks) (cs class program tasks) (methods_in class.members) program.methods 0 typed.same_methods)) typed.names.method_names

  pub few : length (fields class program tasks) ≤ 64
  few =
      let same = ap length (names_same (fields_in class.members) program.fields typed.same_fields) in
      let one = many_names (λ (field : GraphField). field.name) (fields class program tasks) in
      let other = many_names (λ f. f.name) (fields_in class.members) in
      let most = typed.names.few_fields in
      omega (arith, same, one, other, most)
