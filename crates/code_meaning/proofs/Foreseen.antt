-- How a typed statement completes is foreseen.
use mathlib.Core.Path.{transport}
use Rattle.std.proofs.Common.{◌≡◌, refl, sym, ap, subst, ◌∙◌, ℕ, zero, suc, Bool, true, false, ◌&&◌, ◌||◌, not, if◌then◌else◌, List, [], ◌∷◌, map, Option, Some, None, is_some, slice_get}
use Rattle.std.proofs.lemmas.Bool.{false≢true}
use Rattle.sdg_base.specs.declared.val.Val.{Val}
use Rattle.sdg_base.specs.declared.val.Val.TheVariants as val
use Rattle.sdg_base.specs.declared.val.Outcome.{Outcome}
use Rattle.sdg_base.specs.declared.val.Outcome.TheVariants as outcome
use Rattle.sdg_base.specs.declared.value_type.ValueType.TheVariants as type
use Rattle.state_classes.specs.declared.method.Method.{Method}
use Rattle.state_classes.specs.States.{State, called}
use Rattle.access_blocks.specs.declared.body.Access.{Access}
use Rattle.access_blocks.specs.declared.body.Expression.{Expression}
use Rattle.access_blocks.specs.declared.body.Target.{Target}
use Rattle.access_blocks.specs.declared.body.Target.TheVariants as target
use Rattle.access_blocks.specs.declared.body.Statement.{Statement, roll-Statement}
use Rattle.access_blocks.specs.declared.body.Statement.TheOpen.{Statement-F}
use Rattle.access_blocks.specs.declared.body.Statement.TheOpen as s
use Rattle.access_blocks.specs.declared.body.Statement.TheFolds.{fold-roll-Statement, ind-Statement, map-Statement}
use Rattle.access_blocks.specs.Expressions.{Calls, Ended, Gives, Ends, is_true, value_of, values_of}
use Rattle.access_blocks.specs.Statements.{Machine, Completion, Normal, Breaks, Continues, Returns, Halts, Completed, completed, normal, seen_by, with_turns, with_variable, with_value, evaluated, spending, spent, with_element, element_set, variable_in, part_of, with_state, called_on, targeted, Running, going_on, after, tested, looping, after_body, passes, looped, returned, statement_step, meaning, meanings}
use Rattle.body_code.specs.Completing.{Is, is_constant_true, goes_on, constant_of, Leaving, leaving, completing, breaking, of_second, is_returned, leaving_step, leaving_of, Constant, IsNone, HasNoValue}
use Rattle.body_code.specs.Checking.{Surroundings, Standing, Around, Checking, in_block, outside, opened, met, takes, with_known, is_type, checked_step, checked, checked_list}
use Rattle.body_code.specs.Checking as checking
use Rattle.sdg_base.specs.declared.value_type.ValueType.{ValueType}
use Rattle.sdg_base.specs.Signatures.{Signature}
use Rattle.body_code.specs.Typing.{variable_type, type_of, needs}
use Rattle.code_meaning.specs.Running.{all_plain, plain_step, is_plain}
use Rattle.code_meaning.specs.Foreseen.{IsForeseen, HasPart, CompletionsAreForeseen}
use Rattle.code_meaning.proofs.Lists.{none_some, some_is, both_true}
use Rattle.code_meaning.proofs.Growing.{next_is, if_so_is, if_then}
use Rattle.code_meaning.proofs.Plain.{opened_is as opened_as, met_is, compound_is, ends_as_is, each_bool}
use Rattle.code_meaning.proofs.Agreeing.{same_number_is}
use Rattle.code_meaning.proofs.Leaving.{constant_value}
use Rattle.code_meaning.proofs.Sites.{part_stays}

opened_is : (st : Standing) (o : Option Standing) (end : Standing) → opened st o ≡ Some end → (a : Standing) × (o ≡ Some a)
opened_is st None end is = absurd (none_some end is)
opened_is st (Some a) end is = (a, refl)

pub passing_is : (around : Surroundings) (before st end : Standing) (test : Option Expression) (cu cb : Checking)
    → checking.if_so (checking.is_condition around st test && (checking.ends_as st (cb (Some st) st) && checking.ends_as st (cu None st))) (checking.after_compound before st) ≡ Some end
    → ((stb : Standing) × (cb (Some st) st ≡ Some stb)) × ((stu : Standing) × (cu None st ≡ Some stu)) × (checking.after_compound before st ≡ end)
passing_is around before st end test cu cb is =
    let k = if_so_is (checking.is_condition around st test && (checking.ends_as st (cb (Some st) st) && checking.ends_as st (cu None st))) (checking.after_compound before st) end is in
    let l = both_true (checking.is_condition around st test) _ k.0 in
    let n = both_true (checking.ends_as st (cb (Some st) st)) (checking.ends_as st (cu None st)) l.1 in
    let b = ends_as_is st (cb (Some st) st) n.0 in
    let u = ends_as_is st (cu None st) n.1 in
    ((b.0, b.1), (u.0, u.1), k.1)

-- ---- where no loop is around, no `break` leaves

abbrev pub Unbroken : Checking → Leaving → Type 0
Unbroken check l = (st end : Standing) → check None st ≡ Some end → l.breaks ≡ false

neither : (a b : Bool) → a ≡ false → b ≡ false → (a || b) ≡ false
neither true b is also = is
neither false b is also = also

module _ (around : Surroundings) where
  abbrev Kept : Type 0
  Kept = (x : Statement) × Unbroken (checked around x) (leaving_of x)

  abbrev only : Statement-F Kept → Statement-F Statement
  only = map-Statement Kept Statement (λ x. x.0)

  abbrev checks : Statement-F Statement → Statement-F Checking
  checks = map-Statement Statement Checking (checked around)

  abbrev leavings : Statement-F Statement → Statement-F Leaving
  leavings = map-Statement Statement Leaving leaving_of

  kept_list : (xs : List Kept) (st end : Standing) → checked_list around (map (λ (x : Kept). x.0) xs) None st ≡ Some end → breaking (map leaving_of (map (λ (x : Kept). x.0) xs)) ≡ false
  kept_list [] st end is = refl
  kept_list (x ∷ xs) st end is =
      let k = next_is (checked_list around (map (λ (y : Kept). y.0) xs) None) (checked around x.0 None st) end is in
      neither (leaving_of x.0).breaks (breaking (map leaving_of (map (λ (y : Kept). y.0) xs))) (x.1 st k.0 k.1) (kept_list xs k.0 end k.2)

  layer_kept : (y : Statement-F Kept) → Unbroken (checked_step around (checks (only y))) (leaving_step (leavings (only y)))
  layer_kept (s.Marked mark body) st end is = body.1 (in_block mark.field st) end (if_then _ (checked around body.0 None (in_block mark.field st)) end is).1
  layer_kept (s.Opened body) st end is = let k = opened_is st (checked around body.0 None (outside st)) end is in body.1 (outside st) k.0 k.1
  layer_kept (s.Block items) st end is = let k = compound_is st (checked_list around (map (λ (x : Kept). x.0) items) None st) end is in kept_list items st k.0 k.1
  layer_kept (s.If test first None) st end is =
      let l = met_is st (checked around first.0 None st) (Some st) end (if_then (takes around st test type.Boolean) (met st (checked around first.0 None st) (Some st)) end is).1 in
      first.1 st l.0 l.2
  layer_kept (s.If test first (Some second)) st end is =
      let l = met_is st (checked around first.0 None st) (checked around second.0 None st) end (if_then (takes around st test type.Boolean) (met st (checked around first.0 None st) (checked around second.0 None st)) end is).1 in
      neither (leaving_of first.0).breaks (leaving_of second.0).breaks (first.1 st l.0 l.2) (second.1 st l.1 l.3)
  layer_kept s.Break st end is = absurd (none_some end is)
  layer_kept (s.Assign v x) st end is = refl
  layer_kept (s.SetElement v at x) st end is = refl
  layer_kept (s.Evaluate x) st end is = refl
  layer_kept (s.Access a) st end is = refl
  layer_kept (s.Gather a) st end is = refl
  layer_kept (s.Loop start test update body) st end is = refl
  layer_kept s.Continue st end is = refl
  layer_kept (s.Return x) st end is = refl

  made_kept : (x : Statement-F Statement) (y : Statement-F Kept) → only y ≡ x → Unbroken (checked around (roll-Statement x)) (leaving_of (roll-Statement x))
  made_kept x y is =
      let c = fold-roll-Statement Checking (checked_step around) x in
      let l = fold-roll-Statement Leaving leaving_step x in
      let P : Statement-F Statement → Type 0 = λ x. Unbroken (checked_step around (checks x)) (leaving_step (leavings x)) in
      let whole : Unbroken (checked around (roll-Statement x)) (leaving_of (roll-Statement x)) ≡ P x = λ i. Unbroken (c i) (l i) in
      transport (sym whole) (subst P is (layer_kept y))

  statement_unbroken : (x : Statement) → Unbroken (checked around x) (leaving_of x)
  statement_unbroken = ind-Statement (λ x. Unbroken (checked around x) (leaving_of x)) made_kept

  pub list_unbroken : (xs : List Statement) (st end : Standing) → checked_list around xs None st ≡ Some end → breaking (map leaving_of xs) ≡ false
  list_unbroken [] st end is = refl
  list_unbroken (x ∷ xs) st end is =
      let k = next_is (checked_list around xs None) (checked around x None st) end is in
      neither (leaving_of x).breaks (breaking (map leaving_of xs)) (statement_unbroken x st k.0 k.1) (list_unbroken xs k.0 end k.2)

-- ---- simple completions, where the part that a block works on is there

module _ (site : Option ℕ) where
  abbrev Foresees : Leaving → Completed → Type 0
  Foresees l c = IsForeseen l c.completion × HasPart site c.machine

  same_part : {m n : Machine} → HasPart site m → m.fields ≡ n.fields → m.instance ≡ n.instance → HasPart site n
  same_part p fields instance = record { is_there = λ f is. sym (λ i. is_some (part_of (slice_get (fields i) f) (instance i))) ∙ p.is_there f is }

  fewer : (left : ℕ) {m : Machine} → HasPart site m → HasPart site (with_turns left m)
  fewer left p = record { is_there = p.is_there }

  valued : {A : Type 0} (l : Leaving) (x : Ended A) (m : Machine) (k : A → Machine → Completed) → HasPart site m → ((a : A) (n : Machine) → HasPart site n → Foresees l (k a n)) → Foresees l (with_value x m k)
  valued l (Gives a left) m k p each = each a (with_turns left m) (fewer left p)
  valued l (Ends h) m k p each = (tt, p)

  spends : (l : Leaving) (turns : ℕ) (m : Machine) (f : Running) → HasPart site m → ((n : Machine) → HasPart site n → Foresees l (f n)) → Foresees l (spending turns m f)
  spends l zero m f p each = (tt, p)
  spends l (suc left) m f p each = each (with_turns left m) (fewer left p)

  sets : (o : Option Val) (v : ℕ) (m : Machine) → HasPart site m → Foresees (leaving true false) (element_set v o m)
  sets None v m p = (tt, p)
  sets (Some x) v m p = (refl, record { is_there = p.is_there })

  targets : (to : Target) (o : Outcome) (m : Machine) → HasPart site m → Foresees (leaving (not (is_returned to)) false) (targeted to o m)
  targets target.Dropped (outcome.Value v) m p = (refl, p)
  targets (target.Variable x) (outcome.Value v) m p = (refl, record { is_there = p.is_there })
  targets target.Returned (outcome.Value v) m p = (tt, p)
  targets to (outcome.Throws e) m p = (tt, p)
  targets to outcome.Limit m p = (tt, p)

  -- An access to the part leaves one there.
  calls_on : (o : Option State) (field : ℕ) (to : Target) (method : Method) (args : List Val) (m : Machine) → site ≡ Some field → part_of (slice_get m.fields field) m.instance ≡ o → HasPart site m
      → Foresees (leaving (not (is_returned to)) false) (called_on o field to method args m)
  calls_on None field to method args m on is p = absurd (false≢true (ap is_some (sym is) ∙ p.is_there field on))
  calls_on (Some state) field to method args m on is p =
      targets to (called method args state).0 (with_state field (called method args state).1 m) (record { is_there = λ f at. part_stays field f state (called method args state).1 m is (some_is field f (sym on ∙ at)) })

  -- ---- control

  after_one : (l next both : Leaving) (c : Completed) (f : Running) → Foresees l c → (l.breaks ≡ true → both.breaks ≡ true) → ((m : Machine) → HasPart site m → Foresees both (f m)) → Foresees both (after c f)
  after_one l next both c f h breaks each = by c.completion c.machine h
    where
      by : (k : Completion) (m : Machine) → IsForeseen l k × HasPart site m → Foresees both (going_on k m f)
      by Normal m h = each m h.1
      by Breaks m h = (breaks h.0, h.1)
      by Continues m h = (tt, h.1)
      by (Returns v) m h = (tt, h.1)
      by (Halts z) m h = (tt, h.1)

or_first : (a b : Bool) → a ≡ true → (a || b) ≡ true
or_first true b is = refl
or_first false b is = absurd (false≢true is)

or_second : (a b : Bool) → b ≡ true → (a || b) ≡ true
or_second true b is = refl
or_second false b is = is

pub constant_true : (k : Constant) → is_constant_true k ≡ true → k ≡ Is (val.Bool true)
constant_true (Is (val.Bool true)) is = refl
constant_true (Is (val.Bool false)) is = absurd (false≢true is)
constant_true (Is (val.Int n)) is = absurd (false≢true is)
constant_true (Is (val.Long n)) is = absurd (false≢true is)
constant_true (Is (val.Vector n)) is = absurd (false≢true is)
constant_true (Is val.Unit) is = absurd (false≢true is)
constant_true IsNone is = absurd (false≢true is)
constant_true HasNoValue is = absurd (false≢true is)

weaker : (a b : Leaving) (c : Completion) → (a.completes ≡ true → b.completes ≡ true) → (a.breaks ≡ true → b.breaks ≡ true) → IsForeseen a c → IsForeseen b c
weaker a b Normal hc hb h = hc h
weaker a b Breaks hc hb h = hb h
weaker a b Continues hc hb h = tt
weaker a b (Returns v) hc hb h = tt
weaker a b (Halts z) hc hb h = tt

module _ (site : Option ℕ) (around : Surroundings) (calls : Calls) where
  -- in no block, or in one on the part that is there
  abbrev IsIn : Standing → Type 0
  IsIn st = (f : ℕ) → st.field ≡ Some f → site ≡ Some f

  abbrev Fits : Checking → Leaving → Running → Type 0
  Fits check l run = (loop : Around) (st end : Standing) → check loop st ≡ Some end → IsIn st → (m : Machine) → HasPart site m → Foresees site l (run m)

  -- before and after
  abbrev Keeps : Checking → Type 0
  Keeps check = (loop : Around) (st end : Standing) → check loop st ≡ Some end → IsIn st → IsIn end

  -- ---- lists

  abbrev of_list : List Leaving → Leaving
  of_list ls = leaving (completing ls) (breaking ls)

  list_more : (c : Checking) (cs : Checking) (l : Leaving) (ls : List Leaving) (r rs : Running) → ((ls ≡ []) → (m : Machine) → rs m ≡ normal m) → Keeps c → Fits c l r → Fits cs (of_list ls) rs
      → Fits (λ loop st. checking.next (cs loop) (c loop st)) (of_list (l ∷ ls)) (λ m. after (r m) rs)
  list_more c cs l [] r rs none keeps fits more loop st end is out m p =
      let k = next_is (cs loop) (c loop st) end is in
      by (r m).completion (r m).machine (fits loop st k.0 k.1 out m p)
    where
      by : (z : Completion) (n : Machine) → IsForeseen l z × HasPart site n → Foresees site (of_list (l ∷ [])) (going_on z n rs)
      by Normal n h = subst (λ (c : Completed). Foresees site (of_list (l ∷ [])) c) (sym (none refl n)) h
      by Breaks n h = (or_first l.breaks false h.0, h.1)
      by Continues n h = (tt, h.1)
      by (Returns v) n h = (tt, h.1)
      by (Halts z) n h = (tt, h.1)
  list_more c cs l (l2 ∷ ls) r rs none keeps fits more loop st end is out m p =
      let k = next_is (cs loop) (c loop st) end is in
      after_one site l (of_list (l2 ∷ ls)) (of_list (l ∷ l2 ∷ ls)) (r m) rs (fits loop st k.0 k.1 out m p) (or_first l.breaks (breaking (l2 ∷ ls)))
      (λ n q. let z = more loop k.0 end k.2 (keeps loop st k.0 k.1 out) n q in (weaker (of_list (l2 ∷ ls)) (of_list (l ∷ l2 ∷ ls)) (rs n).completion (λ h. h) (or_second l.breaks (breaking (l2 ∷ ls))) z.0, z.1))

  -- ---- loops

  -- The condition of a loop is true, or the loop may complete.
  condition_goes : (l : Leaving) (test : Option Expression) (m : Machine) (k : Val → Machine → Completed) → HasPart site m → ((n : Machine) → HasPart site n → Foresees site l (k (val.Bool true) n))
      → ((v : Val) (n : Machine) → HasPart site n → goes_on test ≡ false → Foresees site l (k v n)) → Foresees site l (tested calls test m k)
  condition_goes l None m k p first other = first m p
  condition_goes l (Some x) m k p first other = by (goes_on (Some x)) refl
    where
      by : (b : Bool) → goes_on (Some x) ≡ b → Foresees site l (with_value (value_of calls x (seen_by m) m.turns) m k)
      by true is = subst (λ (z : Ended Val). Foresees site l (with_value z m k)) (sym (constant_value calls x (val.Bool true) (constant_true (constant_of x) is) (seen_by m) m.turns)) (first (with_turns m.turns m) (fewer site m.turns p))
      by false is = valued site l (value_of calls x (seen_by m) m.turns) m k p (λ v n q. other v n q is)

  module _ (test : Option Expression) (body : Leaving) (update_runs body_runs : Running) (unbroken : Leaving) (is_unbroken : unbroken.breaks ≡ false)
      (update_fits : (m : Machine) → HasPart site m → Foresees site unbroken (update_runs m)) (body_fits : (m : Machine) → HasPart site m → Foresees site body (body_runs m)) where
    abbrev whole : Leaving
    whole = leaving (not (goes_on test) || body.breaks) false

    update_after : (f : Running) → ((m : Machine) → HasPart site m → Foresees site whole (f m)) → (m : Machine) → HasPart site m → Foresees site whole (after (update_runs m) f)
    update_after f each m p = after_one site unbroken whole whole (update_runs m) f (update_fits m p) (λ h. absurd (false≢true (sym is_unbroken ∙ h))) each

    body_after : (c : Completed) (f : Running) → Foresees site body c → ((m : Machine) → HasPart site m → Foresees site whole (f m)) → Foresees site whole (after_body c f)
    body_after c f h each = by c.completion c.machine h
      where
        by : (k : Completion) (m : Machine) → IsForeseen body k × HasPart site m → Foresees site whole (looping k m f)
        by Normal m h = each m h.1
        by Continues m h = each m h.1
        by Breaks m h = (or_second (not (goes_on test)) body.breaks h.0, h.1)
        by (Returns v) m h = (tt, h.1)
        by (Halts z) m h = (tt, h.1)

    pub passes_fit : (most : ℕ) (m : Machine) → HasPart site m → Foresees site whole (passes calls test update_runs body_runs most m)
    passes_fit zero m p = (tt, p)
    passes_fit (suc most) m p =
        let turn : (n : Machine) → HasPart site n → Foresees site whole (spent n (λ left. after_body (body_runs left) (λ o. after (update_runs o) (passes calls test update_runs body_runs most)))) =
        λ n q. spends site whole n.turns n (λ left. after_body (body_runs left) (λ o. after (update_runs o) (passes calls test update_runs body_runs most))) q
        (λ left q. body_after (body_runs left) (λ o. after (update_runs o) (passes calls test update_runs body_runs most)) (body_fits left q) (update_after (passes calls test update_runs body_runs most) (passes_fit most))) in
        condition_goes whole test m (λ holds n. if is_true holds then spent n (λ left. after_body (body_runs left) (λ o. after (update_runs o) (passes calls test update_runs body_runs most))) else normal n) p turn
        (λ v n q stops. each_bool (λ b. Foresees site whole (if b then spent n (λ left. after_body (body_runs left) (λ o. after (update_runs o) (passes calls test update_runs body_runs most))) else normal n)) (turn n q)
        (or_first (not (goes_on test)) body.breaks (ap not stops), q) (is_true v))

  -- ---- statements

  same_keeps : (a b : Standing) → a ≡ b → IsIn a → IsIn b
  same_keeps a b is out = subst IsIn is out

  if_keeps : (b : Bool) (st end : Standing) → checking.if_so b st ≡ Some end → IsIn st → IsIn end
  if_keeps b st end is out = same_keeps st end (if_so_is b st end is).1 out

  to_keeps : (v : ℕ) (t : ValueType) (st end : Standing) → checking.to_variable around v t st ≡ Some end → IsIn st → IsIn end
  to_keeps v t st end is out = if_keeps (is_type (variable_type around.context v) t) (with_known v st) end is out

  assigned_keeps : (v : ℕ) (o : Option ValueType) (b : Bool) (st end : Standing) → checking.assigned around v o b st ≡ Some end → IsIn st → IsIn end
  assigned_keeps v None b st end is out = absurd (none_some end is)
  assigned_keeps v (Some t) b st end is out = to_keeps v t st end (if_then b (checking.to_variable around v t st) end is).1 out

  -- An access is one to the part.
  is_to_part : (a : Access) (o : Option Signature) (st end : Standing) → checking.access around a o st ≡ Some end → IsIn st → site ≡ Some a.field
  is_to_part a None st end is out = absurd (none_some end is)
  is_to_part a (Some sig) st end is out =
      let k = (if_then (checking.is_access around a sig st) (checking.targeted around a.target sig.result st) end is).0 in
      out a.field (same_number_is st.field (Some a.field) (both_true (checking.same_number st.field (Some a.field)) _ k).0)

  target_keeps : (to : Target) (t : ValueType) (st end : Standing) → checking.targeted around to t st ≡ Some end → IsIn st → IsIn end
  target_keeps target.Dropped t st end is out = same_keeps st end (some_is st end is) out
  target_keeps (target.Variable v) t st end is out = to_keeps v t st end is out
  target_keeps target.Returned t st end is out = if_keeps _ st end is out

  access_keeps : (a : Access) (o : Option Signature) (st end : Standing) → checking.access around a o st ≡ Some end → IsIn st → IsIn end
  access_keeps a None st end is out = absurd (none_some end is)
  access_keeps a (Some sig) st end is out = target_keeps a.target sig.result st end (if_then (checking.is_access around a sig st) (checking.targeted around a.target sig.result st) end is).1 out

  common_in : (b : Bool) (o : Option ℕ) → ((f : ℕ) → o ≡ Some f → site ≡ Some f) → (f : ℕ) → checking.common b o ≡ Some f → site ≡ Some f
  common_in true o h f is = h f is
  common_in false o h f is = absurd (none_some f is)

  jumping_keeps : (loop : Around) (st end : Standing) → checking.jumping loop st ≡ Some end → IsIn st → IsIn end
  jumping_keeps None st end is out = absurd (none_some end is)
  jumping_keeps (Some need) st end is out = if_keeps (checking.covers st need) st end is out

  returning_keeps : (x : Option Expression) (st end : Standing) → checking.returning around x st ≡ Some end → IsIn st → IsIn end
  returning_keeps None st end is out = if_keeps _ st end is out
  returning_keeps (Some x) st end is out = if_keeps _ st end is out

  returns_fit : (x : Option Expression) (m : Machine) → HasPart site m → Foresees site (leaving false false) (returned calls x m)
  returns_fit None m p = (tt, p)
  returns_fit (Some x) m p = valued site (leaving false false) (value_of calls x (seen_by m) m.turns) m (λ v n. completed (Returns v) n) p (λ v n q. (tt, q))

  abbrev IsRight : Statement → Type 0
  IsRight x = is_plain x ≡ true → Keeps (checked around x) × Fits (checked around x) (leaving_of x) (meaning calls x)

  abbrev Part : Type 0
  Part = (x : Statement) × IsRight x

  abbrev bare : Statement-F Part → Statement-F Statement
  bare = map-Statement Part Statement (λ x. x.0)

  abbrev plains : Statement-F Statement → Statement-F Bool
  plains = map-Statement Statement Bool is_plain

  abbrev checking_of : Statement-F Statement → Statement-F Checking
  checking_of = map-Statement Statement Checking (checked around)

  abbrev leavings_of : Statement-F Statement → Statement-F Leaving
  leavings_of = map-Statement Statement Leaving leaving_of

  abbrev meant : Statement-F Statement → Statement-F Running
  meant = map-Statement Statement Running (meaning calls)

  abbrev LayerRight : Statement-F Statement → Type 0
  LayerRight y = plain_step (plains y) ≡ true → Keeps (checked_step around (checking_of y)) × Fits (checked_step around (checking_of y)) (leaving_step (leavings_of y)) (statement_step calls (meant y))

  abbrev ListRight : List Statement → Type 0
  ListRight xs = Keeps (checked_list around xs) × Fits (checked_list around xs) (of_list (map leaving_of xs)) (meanings calls xs)

  none_runs : (xs : List Statement) → (map leaving_of xs ≡ []) → (m : Machine) → meanings calls xs m ≡ normal m
  none_runs [] is m = refl
  none_runs (x ∷ xs) is m = absurd (cc)

  more_right : (x : Statement) (xs : List Statement) → Keeps (checked around x) × Fits (checked around x) (leaving_of x) (meaning calls x) → ListRight xs → ListRight (x ∷ xs)
  more_right x xs h hs = (
    (λ loop st end is out. let k = next_is (checked_list around xs loop) (checked around x loop st) end is in hs.0 loop k.0 end k.2 (h.0 loop st k.0 k.1 out)),
    list_more (checked around x) (checked_list around xs) (leaving_of x) (map leaving_of xs) (meaning calls x) (meanings calls xs) (none_runs xs) h.0 h.1 hs.1,
  )

  no_more : ListRight []
  no_more = ((λ loop st end is out. same_keeps st end (some_is st end is) out), (λ loop st end is out m p. (refl, p)))

  list_right : (xs : List Part) → all_plain (map is_plain (map (λ (x : Part). x.0) xs)) ≡ true → ListRight (map (λ (x : Part). x.0) xs)
  list_right [] is = no_more
  list_right (x ∷ xs) is =
      let k = both_true (is_plain x.0) (all_plain (map is_plain (map (λ (y : Part). y.0) xs))) is in
      more_right x.0 (map (λ (y : Part). y.0) xs) (x.1 k.0) (list_right xs k.1)

  layer_right : (y : Statement-F Part) → LayerRight (bare y)
  layer_right (s.Assign v x) plain = (
    (λ loop st end is out. assigned_keeps v (type_of around.context x) (checking.are_met around st (needs x)) st end is out),
    (λ loop st end is out m p. valued site (leaving true false) (value_of calls x (seen_by m) m.turns) m (λ value n. normal (with_variable v value n)) p (λ value n q. (refl, record { is_there = q.is_there }))),
  )
  layer_right (s.SetElement v at x) plain = (
    (λ loop st end is out. if_keeps _ st end is out),
    (λ loop st end is out m p. valued site (leaving true false) (value_of calls at (seen_by m) m.turns) m (λ i n. evaluated calls x n (λ value o. element_set v (with_element (variable_in o v) i value) o)) p (λ i n q.
        valued site (leaving true false) (value_of calls x (seen_by n) n.turns) n (λ value o. element_set v (with_element (variable_in o v) i value) o) q (λ value o r. sets site (with_element (variable_in o v) i value) v o r))),
  )
  layer_right (s.Evaluate x) plain = (
    (λ loop st end is out. if_keeps _ st end is out),
    (λ loop st end is out m p. valued site (leaving true false) (value_of calls x (seen_by m) m.turns) m (λ value n. normal n) p (λ value n q. (refl, q))),
  )
  layer_right (s.Access a) plain = (
    (λ loop st end is out. access_keeps a (checking.signature_of around a.field a.method) st end is out),
    (λ loop st end is out m p. valued site (leaving (not (is_returned a.target)) false) (values_of calls a.args (seen_by m) m.turns) m (λ args n. called_on (part_of (slice_get n.fields a.field) n.instance) a.field a.target a.method args n) p
        (λ args n q. calls_on site (part_of (slice_get n.fields a.field) n.instance) a.field a.target a.method args n (is_to_part a (checking.signature_of around a.field a.method) st end is out) refl q)),
  )
  layer_right (s.Gather a) plain = absurd (false≢true plain)
  layer_right (s.Marked mark body) plain = absurd (false≢true plain)
  layer_right (s.Opened body) plain = (
    (λ loop st end is out. let k = opened_as st (checked around body.0 loop (outside st)) end is in same_keeps (outside st) end k.2 (λ f e. absurd (none_some f e))),
    (λ loop st end is out m p. let k = opened_as st (checked around body.0 loop (outside st)) end is in (body.1 plain).1 loop (outside st) k.0 k.1 (λ f e. absurd (none_some f e)) m p),
  )
  layer_right (s.Block items) plain =
      let xs = map (λ (x : Part). x.0) items in
      let h = list_right items plain in (
        (λ loop st end is out. let k = compound_is st (checked_list around xs loop st) end is in same_keeps (checking.after_compound st k.0) end k.2 (h.0 loop st k.0 k.1 out)),
        (λ loop st end is out m p. let k = compound_is st (checked_list around xs loop st) end is in h.1 loop st k.0 k.1 out m p),
      )
  layer_right (s.If test first None) plain =
      let h = first.1 (both_true (is_plain first.0) true plain).0 in (
        (λ loop st end is out.
            let l = met_is st (checked around first.0 loop st) (Some st) end (if_then (takes around st test type.Boolean) (met st (checked around first.0 loop st) (Some st)) end is).1 in
            same_keeps (checking.meet st l.0 l.1) end l.4 (common_in (checking.same_number l.0.field l.1.field) l.0.field (h.0 loop st l.0 l.2 out))),
        (λ loop st end is out m p.
            let l = met_is st (checked around first.0 loop st) (Some st) end (if_then (takes around st test type.Boolean) (met st (checked around first.0 loop st) (Some st)) end is).1 in
            let both : Leaving = leaving true (leaving_of first.0).breaks in
            valued site both (value_of calls test (seen_by m) m.turns) m (λ holds n. if is_true holds then meaning calls first.0 n else normal n) p (λ holds n q.
            each_bool (λ b. Foresees site both (if b then meaning calls first.0 n else normal n)) (let f = h.1 loop st l.0 l.2 out n q in (weaker (leaving_of first.0) both (meaning calls first.0 n).completion (λ z. refl) (λ z. z) f.0, f.1)) (refl, q) (is_true holds))),
      )
  layer_right (s.If test first (Some second)) plain =
      let k = both_true (is_plain first.0) (is_plain second.0) plain in
      let h = first.1 k.0 in
      let h2 = second.1 k.1 in (
        (λ loop st end is out.
            let l = met_is st (checked around first.0 loop st) (checked around second.0 loop st) end (if_then (takes around st test type.Boolean) (met st (checked around first.0 loop st) (checked around second.0 loop st)) end is).1 in
            same_keeps (checking.meet st l.0 l.1) end l.4 (common_in (checking.same_number l.0.field l.1.field) l.0.field (h.0 loop st l.0 l.2 out))),
        (λ loop st end is out m p.
            let l = met_is st (checked around first.0 loop st) (checked around second.0 loop st) end (if_then (takes around st test type.Boolean) (met st (checked around first.0 loop st) (checked around second.0 loop st)) end is).1 in
            let both : Leaving = of_second (leaving_of first.0) (Some (leaving_of second.0)) in
            valued site both (value_of calls test (seen_by m) m.turns) m (λ holds n. if is_true holds then meaning calls first.0 n else meaning calls second.0 n) p (λ holds n q.
            each_bool (λ b. Foresees site both (if b then meaning calls first.0 n else meaning calls second.0 n))
            (let f = h.1 loop st l.0 l.2 out n q in (weaker (leaving_of first.0) both (meaning calls first.0 n).completion (or_first (leaving_of first.0).completes (leaving_of second.0).completes) (or_first (leaving_of first.0).breaks (leaving_of second.0).breaks) f.0, f.1))
            (let f = h2.1 loop st l.1 l.3 out n q in (weaker (leaving_of second.0) both (meaning calls second.0 n).completion (or_second (leaving_of first.0).completes (leaving_of second.0).completes) (or_second (leaving_of first.0).breaks (leaving_of second.0).breaks) f.0, f.1)) (is_true holds))),
      )
  layer_right (s.Loop start test update body) plain =
      let ss = map (λ (x : Part). x.0) start in
      let us = map (λ (x : Part). x.0) update in
      let k = both_true (all_plain (map is_plain ss)) (is_plain body.0 && all_plain (map is_plain us)) plain in
      let l = both_true (is_plain body.0) (all_plain (map is_plain us)) k.1 in
      let hs = list_right start k.0 in
      let hu = list_right update l.1 in
      let hb = body.1 l.0 in (
        (λ loop st end is out.
            let n = next_is (checking.passing around st test (map (checked around) us) (checked around body.0)) (checked_list around ss None st) end is in
            let q = passing_is around st n.0 end test (checked_list around us) (checked around body.0) n.2 in
            same_keeps (checking.after_compound st n.0) end q.2 (hs.0 None st n.0 n.1 out)),
        (λ loop st end is out m p.
            let n = next_is (checking.passing around st test (map (checked around) us) (checked around body.0)) (checked_list around ss None st) end is in
            let q = passing_is around st n.0 end test (checked_list around us) (checked around body.0) n.2 in
            let inside = hs.0 None st n.0 n.1 out in
            let whole : Leaving = leaving (not (goes_on test) || (leaving_of body.0).breaks) false in
            after_one site (of_list (map leaving_of ss)) whole whole (meanings calls ss m) (looped calls test (meanings calls us) (meaning calls body.0)) (hs.1 None st n.0 n.1 out m p)
            (λ z. absurd (false≢true (sym (list_unbroken around ss st n.0 n.1) ∙ z)))
            (λ o q2. passes_fit test (leaving_of body.0) (meanings calls us) (meaning calls body.0) (of_list (map leaving_of us)) (list_unbroken around us n.0 q.1.0 q.1.1)
            (λ r. hu.1 None n.0 q.1.0 q.1.1 inside r) (λ r. hb.1 (Some n.0) n.0 q.0.0 q.0.1 inside r) (suc o.turns) o q2)),
      )
  layer_right s.Break plain = ((λ loop st end is out. jumping_keeps loop st end is out), (λ loop st end is out m p. (refl, p)))
  layer_right s.Continue plain = ((λ loop st end is out. jumping_keeps loop st end is out), (λ loop st end is out m p. (tt, p)))
  layer_right (s.Return x) plain = ((λ loop st end is out. returning_keeps x st end is out), (λ loop st end is out m p. returns_fit x m p))

  made_right : (x : Statement-F Statement) (y : Statement-F Part) → bare y ≡ x → IsRight (roll-Statement x)
  made_right x y is =
      let b = fold-roll-Statement Bool plain_step x in
      let c = fold-roll-Statement Checking (checked_step around) x in
      let l = fold-roll-Statement Leaving leaving_step x in
      let r = fold-roll-Statement Running (statement_step calls) x in
      let whole : IsRight (roll-Statement x) ≡ LayerRight x = λ i. b i ≡ true → Keeps (c i) × Fits (c i) (l i) (r i) in
      transport (sym whole) (subst LayerRight is (layer_right y))

  pub statement_foreseen : (x : Statement) → IsRight x
  statement_foreseen = ind-Statement IsRight made_right

  pub list_foreseen : (xs : List Statement) → all_plain (map is_plain xs) ≡ true → ListRight xs
  list_foreseen [] is = no_more
  list_foreseen (x ∷ xs) is =
      let k = both_true (is_plain x) (all_plain (map is_plain xs)) is in
      more_right x xs (statement_foreseen x k.0) (list_foreseen xs k.1)

pub completions_are_foreseen : CompletionsAreForeseen
completions_are_foreseen around calls x plain loop st end is site within m part = ((statement_foreseen site around calls x plain).1 loop st end is within m part).0
