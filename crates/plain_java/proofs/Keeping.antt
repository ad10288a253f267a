-- What a statement keeps: turns never rise, and where every field is whole and nothing is gathered, it stays so.
use Rattle.std.proofs.Common.{◌≡◌, ◌≤◌, ℕ, zero, suc, Bool, true, false, if◌then◌else◌, List, [], ◌∷◌, map, Option, Some, None, slice_get, slice_set, refl, sym, subst, arith}
use Rattle.std.specs.List.{AllByRecursion}
use Rattle.sdg_base.specs.declared.val.Val.{Val}
use Rattle.sdg_base.specs.declared.val.Val.TheVariants as val
use Rattle.sdg_base.specs.declared.val.Outcome.{Outcome}
use Rattle.sdg_base.specs.declared.val.Outcome.TheVariants as outcome
use Rattle.state_classes.specs.declared.method.Method.{Method}
use Rattle.state_classes.specs.States.{State, called}
use Rattle.access_blocks.specs.declared.body.Expression.{Expression}
use Rattle.access_blocks.specs.declared.body.Access.{Access}
use Rattle.access_blocks.specs.declared.body.Target.{Target}
use Rattle.access_blocks.specs.declared.body.Target.TheVariants as target
use Rattle.access_blocks.specs.declared.body.Statement.{Statement, roll-Statement}
use Rattle.access_blocks.specs.declared.body.Statement.TheOpen.{Statement-F}
use Rattle.access_blocks.specs.declared.body.Statement.TheOpen as s
use Rattle.access_blocks.specs.declared.body.Statement.TheFolds.{fold-roll-Statement, ind-Statement, map-Statement}
use Rattle.access_blocks.specs.Expressions.{Ended, Gives, Ends, Calls, is_true, value_of, values_of}
use Rattle.access_blocks.specs.Statements.{Field, Whole, Instances, Machine, Completion, Normal, Breaks, Continues, Returns, Halts, Completed, completed, normal, seen_by, with_turns, with_variable, with_value, evaluated, spending, spent, with_element, element_set, variable_in, part_of, with_part, changed_field, with_state, targeted, called_on, access, marked, gathering, Running, going_on, after, in_order, tested, looping, after_body, passes, looped, returned, statement_step, meaning, meanings}
use Rattle.plain_java.proofs.Turns.{AtMost, CallsFall, value_falls, values_fall}

abbrev pub IsWhole : Field → Type 0
IsWhole (Whole state) = Unit {0}
IsWhole (Instances states) = ⊥

abbrev pub AllWhole : List Field → Type 0
AllWhole = AllByRecursion IsWhole

-- A machine on whole fields.
pub record IsPlain (m : Machine) : Type 0 where
  pub whole : AllWhole m.fields
  pub nothing_gathered : m.gathered ≡ []
  pub no_instance : m.instance ≡ 0

pub record Kept (m n : Machine) : Type 0 where
  pub falls : n.turns ≤ m.turns
  pub keeps : IsPlain m → IsPlain n

pub kept : {m : Machine} → Kept m m
kept = record { falls = omega arith; keeps = λ p. p }

pub further : {m n o : Machine} → Kept m n → Kept n o → Kept m o
further p q = record { falls = omega (arith, p.falls, q.falls); keeps = λ h. q.keeps (p.keeps h) }

abbrev pub Keeps : Running → Type 0
Keeps run = (m : Machine) → Kept m (run m).machine

-- ---- parts of statements

with_fewer_turns : (left : ℕ) (m : Machine) → left ≤ m.turns → Kept m (with_turns left m)
with_fewer_turns left m less = record {
  falls = less;
  keeps = λ p. record { whole = p.whole; nothing_gathered = p.nothing_gathered; no_instance = p.no_instance };
}

varied : (v : ℕ) (x : Val) (m : Machine) → Kept m (with_variable v x m)
varied v x m = record {
  falls = omega arith;
  keeps = λ p. record { whole = p.whole; nothing_gathered = p.nothing_gathered; no_instance = p.no_instance };
}

valued : {A : Type 0} (e : Ended A) (m : Machine) (f : A → Machine → Completed) → AtMost m.turns e → ((a : A) (n : Machine) → Kept n (f a n).machine) → Kept m (with_value e m f).machine
valued (Gives a left) m f h each = further (with_fewer_turns left m h.leaves) (each a (with_turns left m))
valued (Ends x) m f h each = kept

spending_keeps : (turns : ℕ) (m : Machine) (f : Running) → m.turns ≡ turns → Keeps f → Kept m (spending turns m f).machine
spending_keeps zero m f is each = kept
spending_keeps (suc left) m f is each = further (with_fewer_turns left m (omega arith)) (each (with_turns left m))

spent_keeps : (m : Machine) (f : Running) → Keeps f → Kept m (spent m f).machine
spent_keeps m f each = spending_keeps m.turns m f refl each

element_set_keeps : (v : ℕ) (o : Option Val) (m : Machine) → Kept m (element_set v o m).machine
element_set_keeps v None m = kept
element_set_keeps v (Some x) m = varied v x m

-- ---- accesses

pub part_whole : (fields : List Field) (i : ℕ) (old : Field) → AllWhole fields → slice_get fields i ≡ Some old → IsWhole old
part_whole [] i old h is = cc
part_whole (x ∷ xs) zero old h is = let e : x ≡ old = cc in subst IsWhole e h.0
part_whole (x ∷ xs) (suc i) old h is = part_whole xs i old h.1 is

with_part_whole : (old : Field) (instance : ℕ) (state : State) → IsWhole old → IsWhole (with_part old instance state)
with_part_whole (Whole x) instance state h = tt
with_part_whole (Instances xs) instance state h = absurd h

set_whole : (fields : List Field) (i : ℕ) (x : Field) → AllWhole fields → IsWhole x → AllWhole (slice_set fields i x)
set_whole [] i x h hx = tt
set_whole (y ∷ ys) zero x h hx = (hx, h.1)
set_whole (y ∷ ys) (suc i) x h hx = (h.0, set_whole ys i x h.1 hx)

changed_whole : (old : Option Field) (field : ℕ) (state : State) (fields : List Field) (instance : ℕ) → slice_get fields field ≡ old → AllWhole fields → AllWhole (changed_field old field state fields instance)
changed_whole None field state fields instance is h = h
changed_whole (Some old) field state fields instance is h = set_whole fields field (with_part old instance state) h (with_part_whole old instance state (part_whole fields field old h is))

with_state_keeps : (field : ℕ) (state : State) (m : Machine) → Kept m (with_state field state m)
with_state_keeps field state m = record {
  falls = omega arith;
  keeps = λ p. record {
    whole = changed_whole (slice_get m.fields field) field state m.fields m.instance refl p.whole;
    nothing_gathered = p.nothing_gathered;
    no_instance = p.no_instance;
  };
}

targeted_keeps : (to : Target) (o : Outcome) (m : Machine) → Kept m (targeted to o m).machine
targeted_keeps target.Dropped (outcome.Value v) m = kept
targeted_keeps (target.Variable x) (outcome.Value v) m = varied x v m
targeted_keeps target.Returned (outcome.Value v) m = kept
targeted_keeps to (outcome.Throws e) m = kept
targeted_keeps to outcome.Limit m = kept

answered_keeps : (to : Target) (field : ℕ) (answer : Outcome × State) (m : Machine) → Kept m (targeted to answer.0 (with_state field answer.1 m)).machine
answered_keeps to field answer m = further (with_state_keeps field answer.1 m) (targeted_keeps to answer.0 (with_state field answer.1 m))

called_on_keeps : (part : Option State) (field : ℕ) (to : Target) (method : Method) (args : List Val) (m : Machine) → Kept m (called_on part field to method args m).machine
called_on_keeps None field to method args m = kept
called_on_keeps (Some state) field to method args m = answered_keeps to field (called method args state) m

-- ---- control

going_on_keeps : (c : Completion) (m : Machine) (f : Running) → Keeps f → Kept m (going_on c m f).machine
going_on_keeps Normal m f each = each m
going_on_keeps Breaks m f each = kept
going_on_keeps Continues m f each = kept
going_on_keeps (Returns v) m f each = kept
going_on_keeps (Halts h) m f each = kept

pub after_keeps : (m : Machine) (c : Completed) (f : Running) → Kept m c.machine → Keeps f → Kept m (after c f).machine
after_keeps m c f h each = further h (going_on_keeps c.completion c.machine f each)

looping_keeps : (c : Completion) (m : Machine) (f : Running) → Keeps f → Kept m (looping c m f).machine
looping_keeps Normal m f each = each m
looping_keeps Breaks m f each = kept
looping_keeps Continues m f each = each m
looping_keeps (Returns v) m f each = kept
looping_keeps (Halts h) m f each = kept

after_body_keeps : (m : Machine) (c : Completed) (f : Running) → Kept m c.machine → Keeps f → Kept m (after_body c f).machine
after_body_keeps m c f h each = further h (looping_keeps c.completion c.machine f each)

choose : (b : Bool) (x y : Completed) (m : Machine) → Kept m x.machine → Kept m y.machine → Kept m (if b then x else y).machine
choose true x y m hx hy = hx
choose false x y m hx hy = hy

module _ (calls : Calls) (fall : CallsFall calls) where
  pub evaluated_keeps : (x : Expression) (m : Machine) (f : Val → Machine → Completed) → ((v : Val) (n : Machine) → Kept n (f v n).machine) → Kept m (evaluated calls x m f).machine
  evaluated_keeps x m f each = valued (value_of calls x (seen_by m) m.turns) m f (value_falls calls fall x (seen_by m) m.turns) each

  all_evaluated_keep : (xs : List Expression) (m : Machine) (f : List Val → Machine → Completed) → ((v : List Val) (n : Machine) → Kept n (f v n).machine)
      → Kept m (with_value (values_of calls xs (seen_by m) m.turns) m f).machine
  all_evaluated_keep xs m f each = valued (values_of calls xs (seen_by m) m.turns) m f (values_fall calls fall xs (seen_by m) m.turns) each

  access_keeps : (a : Access) → Keeps (access calls a)
  access_keeps a m =
      all_evaluated_keep a.args m (λ args n. called_on (part_of (slice_get n.fields a.field) n.instance) a.field a.target a.method args n)
      (λ args n. called_on_keeps (part_of (slice_get n.fields a.field) n.instance) a.field a.target a.method args n)

  with_key : (k : Val) (m : Machine) → Kept m (record m { key = k })
  with_key k m = record { falls = omega arith; keeps = λ p. record { whole = p.whole; nothing_gathered = p.nothing_gathered; no_instance = p.no_instance } }

  marked_keeps : (key : Option Expression) (f : Running) → Keeps f → Keeps (λ m. marked calls key m f)
  marked_keeps None f each m = spent_keeps m f each
  marked_keeps (Some key) f each m =
      evaluated_keeps key m (λ k n. spent n (λ left. f (record left { key = k })))
      (λ k n. spent_keeps n (λ left. f (record left { key = k })) (λ left. further (with_key k left) (each (record left { key = k }))))

  gathered_none : (m : Machine) → Kept m (record m { key = val.Unit; gathered = [] })
  gathered_none m = record { falls = omega arith; keeps = λ p. record { whole = p.whole; nothing_gathered = refl; no_instance = p.no_instance } }

  gathering_keeps : (args : List Expression) → Keeps (gathering calls args)
  gathering_keeps args m =
      all_evaluated_keep args m (λ vs n. spent n (λ left. normal (record left { key = val.Unit; gathered = [] })))
      (λ vs n. spent_keeps n (λ left. normal (record left { key = val.Unit; gathered = [] })) gathered_none)

  tested_keeps : (test : Option Expression) (m : Machine) (f : Val → Machine → Completed) → ((v : Val) (n : Machine) → Kept n (f v n).machine) → Kept m (tested calls test m f).machine
  tested_keeps None m f each = each (val.Bool true) m
  tested_keeps (Some x) m f each = evaluated_keeps x m f each

  pub passes_keep : (test : Option Expression) (update body : Running) (most : ℕ) → Keeps update → Keeps body → Keeps (passes calls test update body most)
  passes_keep test update body zero hu hb m = kept
  passes_keep test update body (suc most) hu hb m =
      let rest : Keeps (passes calls test update body most) = passes_keep test update body most hu hb in
      let rest_of : Running = λ o. after (update o) (passes calls test update body most) in
      tested_keeps test m (λ holds n. if is_true holds then spent n (λ left. after_body (body left) rest_of) else normal n) (λ holds n.
      choose (is_true holds) (spent n (λ left. after_body (body left) rest_of)) (normal n) n
      (spent_keeps n (λ left. after_body (body left) rest_of) (λ left.
      after_body_keeps left (body left) rest_of (hb left) (λ o. after_keeps o (update o) (passes calls test update body most) (hu o) rest))) kept)

  returned_keeps : (x : Option Expression) → Keeps (returned calls x)
  returned_keeps None m = kept
  returned_keeps (Some x) m = evaluated_keeps x m (λ v n. completed (Returns v) n) (λ v n. kept)

  -- ---- statements

  abbrev Part : Type 0
  Part = (x : Statement) × Keeps (meaning calls x)

  abbrev bare : Statement-F Part → Statement-F Statement
  bare = map-Statement Part Statement (λ x. x.0)

  abbrev meant : Statement-F Statement → Statement-F Running
  meant = map-Statement Statement Running (meaning calls)

  in_order_keep : (xs : List Part) → Keeps (in_order (map (meaning calls) (map (λ x. x.0) xs)))
  in_order_keep [] m = kept
  in_order_keep (x ∷ xs) m = after_keeps m (meaning calls x.0 m) (in_order (map (meaning calls) (map (λ (y : Part). y.0) xs))) (x.1 m) (in_order_keep xs)

  layer_keeps : (y : Statement-F Part) → Keeps (statement_step calls (meant (bare y)))
  layer_keeps (s.Assign v x) m = evaluated_keeps x m (λ value n. normal (with_variable v value n)) (λ value n. varied v value n)
  layer_keeps (s.SetElement v at x) m =
      evaluated_keeps at m (λ i n. evaluated calls x n (λ value o. element_set v (with_element (variable_in o v) i value) o))
      (λ i n. evaluated_keeps x n (λ value o. element_set v (with_element (variable_in o v) i value) o) (λ value o. element_set_keeps v (with_element (variable_in o v) i value) o))
  layer_keeps (s.Evaluate x) m = evaluated_keeps x m (λ value n. normal n) (λ value n. kept)
  layer_keeps (s.Access a) m = access_keeps a m
  layer_keeps (s.Gather g) m = gathering_keeps g.args m
  layer_keeps (s.Marked mark body) m = marked_keeps mark.key (meaning calls body.0) body.1 m
  layer_keeps (s.Opened body) m = body.1 m
  layer_keeps (s.Block items) m = in_order_keep items m
  layer_keeps (s.If test first None) m =
      evaluated_keeps test m (λ holds n. if is_true holds then meaning calls first.0 n else normal n)
      (λ holds n. choose (is_true holds) (meaning calls first.0 n) (normal n) n (first.1 n) kept)
  layer_keeps (s.If test first (Some second)) m =
      evaluated_keeps test m (λ holds n. if is_true holds then meaning calls first.0 n else meaning calls second.0 n)
      (λ holds n. choose (is_true holds) (meaning calls first.0 n) (meaning calls second.0 n) n (first.1 n) (second.1 n))
  layer_keeps (s.Loop start test update body) m =
      after_keeps m (in_order (map (meaning calls) (map (λ (y : Part). y.0) start)) m) (looped calls test (in_order (map (meaning calls) (map (λ (y : Part). y.0) update))) (meaning calls body.0)) (in_order_keep start m)
      (λ n. passes_keep test (in_order (map (meaning calls) (map (λ (y : Part). y.0) update))) (meaning calls body.0) (suc n.turns) (in_order_keep update) body.1 n)
  layer_keeps s.Break m = kept
  layer_keeps s.Continue m = kept
  layer_keeps (s.Return x) m = returned_keeps x m

  made_keeps : (x : Statement-F Statement) (y : Statement-F Part) → bare y ≡ x → Keeps (meaning calls (roll-Statement x))
  made_keeps x y is =
      let P : Statement-F Statement → Type 0 = λ x. Keeps (statement_step calls (meant x)) in
      subst Keeps (sym (fold-roll-Statement Running (statement_step calls) x)) (subst P is (layer_keeps y))

  pub meaning_keeps : (x : Statement) → Keeps (meaning calls x)
  meaning_keeps = ind-Statement (λ x. Keeps (meaning calls x)) made_keeps

  pub meanings_keep : (xs : List Statement) → Keeps (meanings calls xs)
  meanings_keep [] m = kept
  meanings_keep (x ∷ xs) m = after_keeps m (meaning calls x m) (meanings calls xs) (meaning_keeps x m) (meanings_keep xs)
