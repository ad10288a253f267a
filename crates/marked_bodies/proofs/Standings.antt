-- What holds behind a statement that is typed before marks stand in it.
use Rattle.std.proofs.Common.{◌≡◌, refl, sym, ap, subst, ◌∙◌, ℕ, Bool, true, false, not, ◌&&◌, map, Option, Some, None, slice_get, inl, inr, ◌⊎◌}
use Rattle.std.specs.Prelude.{nat_eq}
use Rattle.std.proofs.lemmas.Bool.{false≢true, eq-eqb}
use Rattle.sdg_base.specs.declared.value_type.ValueType.{ValueType}
use Rattle.sdg_base.specs.Signatures.{Signature}
use Rattle.access_blocks.specs.declared.body.Access.{Access}
use Rattle.access_blocks.specs.declared.body.Expression.{Expression}
use Rattle.access_blocks.specs.declared.body.Gather.{Gather}
use Rattle.access_blocks.specs.declared.body.Statement.{Statement, out-Statement}
use Rattle.access_blocks.specs.declared.body.Statement.TheOpen.{Statement-F}
use Rattle.access_blocks.specs.declared.body.Statement.TheOpen as s
use Rattle.access_blocks.specs.declared.body.Statement.TheFolds.{fold_out-Statement, map-Statement}
use Rattle.access_blocks.specs.declared.body.Target.{Target}
use Rattle.access_blocks.specs.declared.body.Target.TheVariants as target
use Rattle.access_blocks.specs.Marks.{assigns, assigns_step, is_target}
use Rattle.body_code.specs.Early.{is_in}
use Rattle.body_code.specs.Typing.{needs, type_of, variable_type}
use Rattle.body_code.specs.Checking.{Surroundings, Standing, Around, Checking, outside, with_known, gathering, is_type, are_met, assigned, set_element, evaluated, targeted, gather, signature_of, is_result, covers, jumping, returning, looping, in_order, takes, takes_all, is_entry, is_partial, is_void, has_type}
use Rattle.marked_bodies.specs.Unmarked.{is_unmarked_access, unmarked_access, unmarked, unmarked_step}
use Rattle.marked_bodies.proofs.Facts.{none_some, some_is, if_so_is, if_then, in_more}
use Rattle.marked_bodies.proofs.Typed.{outside_is, behind_is, branches_good}

pub nat_same : (n : ℕ) → nat_eq n n ≡ true
nat_same n = eq-eqb n n refl

-- ---- simple statements

pub assigned_is : (around : Surroundings) (v : ℕ) (o : Option ValueType) (met : Bool) (st end : Standing) → assigned around v o met st ≡ Some end
    → (t : ValueType) × (o ≡ Some t) × (met ≡ true) × (is_type (variable_type around.context v) t ≡ true) × (with_known v st ≡ end)
assigned_is around v None met st end is = absurd (none_some end is)
assigned_is around v (Some t) false st end is = absurd (none_some end is)
assigned_is around v (Some t) true st end is = let k = if_so_is (is_type (variable_type around.context v) t) (with_known v st) end is in (t, refl, refl, k.0, k.1)

-- which standing an access leaves
pub data Leaves (around : Surroundings) (to : Target) (t : ValueType) (st end : Standing) : Type 0 where
  Nowhere : to ≡ target.Dropped → st ≡ end → Leaves around to t st end
  ToVariable : (v : ℕ) → to ≡ target.Variable v → is_type (variable_type around.context v) t ≡ true → with_known v st ≡ end → Leaves around to t st end
  ToResult : to ≡ target.Returned → is_result around t ≡ true → st ≡ end → Leaves around to t st end

pub targeted_is : (around : Surroundings) (to : Target) (t : ValueType) (st end : Standing) → targeted around to t st ≡ Some end → Leaves around to t st end
targeted_is around target.Dropped t st end is = Nowhere refl (some_is st end is)
targeted_is around (target.Variable v) t st end is = let k = if_so_is (is_type (variable_type around.context v) t) (with_known v st) end is in ToVariable v refl k.0 k.1
targeted_is around target.Returned t st end is = let k = if_so_is (is_result around t) st end is in ToResult refl k.0 k.1

pub unmarked_access_is : (around : Surroundings) (a : Access) (o : Option Signature) (st end : Standing) → unmarked_access around a o st ≡ Some end
    → (sig : Signature) × (o ≡ Some sig) × (is_unmarked_access around a sig st ≡ true) × Leaves around a.target sig.result st end
unmarked_access_is around a None st end is = absurd (none_some end is)
unmarked_access_is around a (Some sig) st end is =
    let k = if_then (is_unmarked_access around a sig st) (targeted around a.target sig.result st) end is in
    (sig, refl, k.0, targeted_is around a.target sig.result st end k.1)

pub gather_is : (around : Surroundings) (g : Gather) (o : Option Signature) (st end : Standing) → gather around g o st ≡ Some end
    → (sig : Signature) × (o ≡ Some sig) × ((is_entry around.kind && (is_partial (slice_get around.fields g.field) && takes_all around st g.args sig.arguments)) ≡ true) × (gathering sig.result st ≡ end)
gather_is around g None st end is = absurd (none_some end is)
gather_is around g (Some sig) st end is = let k = if_so_is _ (gathering sig.result st) end is in (sig, refl, k.0, k.1)

pub jumping_is : (exits : Around) (st end : Standing) → jumping exits st ≡ Some end → (need : Standing) × (exits ≡ Some need) × (covers st need ≡ true) × (st ≡ end)
jumping_is None st end is = absurd (none_some end is)
jumping_is (Some need) st end is = let k = if_so_is (covers st need) st end is in (need, refl, k.0, k.1)

pub returning_is : (around : Surroundings) (x : Option Expression) (st end : Standing) → returning around x st ≡ Some end → st ≡ end
returning_is around None st end is = (if_so_is (is_void around.result) st end is).1
returning_is around (Some x) st end is = (if_so_is (takes around st x around.result && not (is_void around.result)) st end is).1

-- ---- what a statement ends in

pub data Ends (x : Statement) (st end : Standing) : Type 0 where
  Stays : outside st ≡ end → Ends x st end
  Adds : (v : ℕ) → assigns v x ≡ true → outside (with_known v st) ≡ end → Ends x st end
  Gathers : (g : Gather) (t : ValueType) → out-Statement x ≡ s.Gather g → gathering t st ≡ end → Ends x st end

module _ (around : Surroundings) where
  abbrev checks : Statement-F Statement → Statement-F Checking
  checks = map-Statement Statement Checking (unmarked around)

  pub unmarked_out : (x : Statement) (y : Statement-F Statement) (exits : Around) (st end : Standing) → out-Statement x ≡ y → unmarked around x exits st ≡ Some end → unmarked_step around (checks y) exits st ≡ Some end
  unmarked_out x y exits st end is e =
      let same = fold_out-Statement Checking (unmarked_step around) x in
      subst (λ (z : Statement-F Statement). unmarked_step around (checks z) exits st ≡ Some end) is (subst (λ (c : Checking). c exits st ≡ Some end) same e)

  assigns_out : (v : ℕ) (x : Statement) (y : Statement-F Statement) → out-Statement x ≡ y → assigns v x ≡ assigns_step v (map-Statement Statement Bool (assigns v) y)
  assigns_out v x y is = fold_out-Statement Bool (assigns_step v) x ∙ ap (λ (z : Statement-F Statement). assigns_step v (map-Statement Statement Bool (assigns v) z)) is

  access_ends : (x : Statement) (a : Access) (t : ValueType) (st end : Standing) → out-Statement x ≡ s.Access a → Leaves around a.target t (outside st) end → Ends x st end
  access_ends x a t st end is (Nowhere to e) = Stays e
  access_ends x a t st end is (ToVariable v to typed e) = Adds v (assigns_out v x (s.Access a) is ∙ ap (is_target v) to ∙ nat_same v) e
  access_ends x a t st end is (ToResult to typed e) = Stays e

  ends_cases : (x : Statement) (y : Statement-F Statement) (exits : Around) (st end : Standing) → out-Statement x ≡ y → unmarked_step around (checks y) exits st ≡ Some end → Ends x st end
  ends_cases x (s.Assign v a) exits st end is e =
      let k = outside_is (assigned around v (type_of around.context a) (are_met around st (needs a)) st) end e in
      let l = assigned_is around v (type_of around.context a) (are_met around st (needs a)) st k.0 k.1 in
      Adds v (assigns_out v x (s.Assign v a) is ∙ nat_same v) (ap outside l.4 ∙ k.2)
  ends_cases x (s.SetElement v at a) exits st end is e =
      let k = outside_is (set_element around v at a st) end e in
      Stays (ap outside (if_so_is _ st k.0 k.1).1 ∙ k.2)
  ends_cases x (s.Evaluate a) exits st end is e =
      let k = outside_is (evaluated around a st) end e in
      Stays (ap outside (if_so_is (are_met around st (needs a) && has_type (type_of around.context a)) st k.0 k.1).1 ∙ k.2)
  ends_cases x (s.Access a) exits st end is e =
      let k = unmarked_access_is around a (signature_of around a.field a.method) (outside st) end e in
      access_ends x a k.0.result st end is k.3
  ends_cases x (s.Gather g) exits st end is e =
      let k = gather_is around g (signature_of around g.field g.method) st end e in
      Gathers g k.0.result is k.3
  ends_cases x (s.Marked mark body) exits st end is e = absurd (none_some end e)
  ends_cases x (s.Opened body) exits st end is e = absurd (none_some end e)
  ends_cases x (s.Block items) exits st end is e = Stays (behind_is st (in_order (map (unmarked around) items) exits (outside st)) end e).2
  ends_cases x (s.If test first None) exits st end is e = Stays (branches_good around test (unmarked around first) None exits (outside st) end e).5
  ends_cases x (s.If test first (Some second)) exits st end is e = Stays (branches_good around test (unmarked around first) (Some (unmarked around second)) exits (outside st) end e).5
  ends_cases x (s.Loop start test update body) exits st end is e =
      Stays (behind_is st (looping around (map (unmarked around) start) test (map (unmarked around) update) (unmarked around body) exits (outside st)) end e).2
  ends_cases x s.Break exits st end is e = Stays (jumping_is exits (outside st) end e).3
  ends_cases x s.Continue exits st end is e = Stays (jumping_is exits (outside st) end e).3
  ends_cases x (s.Return a) exits st end is e =
      let k = outside_is (returning around a st) end e in
      Stays (ap outside (returning_is around a st k.0 k.1) ∙ k.2)

  pub ends_in : (x : Statement) (exits : Around) (st end : Standing) → unmarked around x exits st ≡ Some end → Ends x st end
  ends_in x exits st end e = ends_cases x (out-Statement x) exits st end refl (unmarked_out x (out-Statement x) exits st end refl e)

-- A variable that is not assigned is not known anew.
pub not_anew : (x : Statement) (st end : Standing) → Ends x st end → (v : ℕ) → assigns v x ≡ false → is_in v end.known ≡ true → is_in v st.known ≡ true
not_anew x st end (Stays e) v none h = subst (λ (z : Standing). is_in v z.known ≡ true) (sym e) h
not_anew x st end (Gathers g t is e) v none h = subst (λ (z : Standing). is_in v z.known ≡ true) (sym e) h
not_anew x st end (Adds w so e) v none h = by (in_more v w st.known (subst (λ (z : Standing). is_in v z.known ≡ true) (sym e) h))
  where
    by : (v ≡ w) ⊎ (is_in v st.known ≡ true) → is_in v st.known ≡ true
    by (inl same) = absurd (false≢true (sym none ∙ subst (λ (n : ℕ). assigns n x ≡ true) (sym same) so))
    by (inr there) = there

-- outside of blocks, and with nothing gathered but by a gathering access
pub ends_outside : (x : Statement) (st end : Standing) → Ends x st end → end.field ≡ None
ends_outside x st end (Stays e) = ap (λ (z : Standing). z.field) (sym e)
ends_outside x st end (Adds v so e) = ap (λ (z : Standing). z.field) (sym e)
ends_outside x st end (Gathers g t is e) = ap (λ (z : Standing). z.field) (sym e)
