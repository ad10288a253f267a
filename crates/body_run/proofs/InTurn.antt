-- Statements one after the other, and passes of a loop one after the other.
use Rattle.std.proofs.Common.{◌≡◌, ◌≢◌, ℕ, suc, ◌+◌, ◌-◌, ◌<◌, true, if◌then◌else◌, List, length, drop, get_or, Option, Some, None, Result, Ok, Err, refl, ap, sym, ◌∙◌, add-one, drop-cons, arith}
use Rattle.std.proofs.lemmas.Grind.{common_steps}
use Rattle.sdg_base.specs.declared.val.Val.{Val}
use Rattle.access_blocks.specs.declared.body.Expression.{Expression}
use Rattle.access_blocks.specs.declared.body.Statement.{Statement}
use Rattle.access_blocks.specs.Expressions.{Calls, Gives, is_true, value_of}
use Rattle.access_blocks.specs.Statements.{Machine, Completed, Running, Normal, completed, normal, seen_by, with_turns, with_value, going_on, after, meaning, meanings, passes}
use Rattle.body_run.specs.declared.completion.Completion.{Completion}
use Rattle.body_run.specs.declared.completion.Completion.TheVariants as completion
use Rattle.body_run.specs.declared.stop.Stop.{Stop}
use Rattle.body_run.specs.declared.stop.Stop.TheVariants as stop
use Rattle.body_run.specs.Seen.{completion_of, StopsAt, Goes}
use Rattle.body_run.specs.Passes.{pass, round}

first_of_rest : (calls : Calls) (ss : List Statement) (i : ℕ) (s : Statement) (m : Machine) → i < length ss → s ≡ get_or ss i s
    → meanings calls (drop i ss) m ≡ after (meaning calls s m) (meanings calls (drop (i + 1) ss))
first_of_rest calls ss i s m within is = rw (add-one, drop-cons ss i s, ← is) refl

first_gives : (calls : Calls) (ss : List Statement) (i : ℕ) (s : Statement) (m : Machine) (one all : Completed) → i < length ss → s ≡ get_or ss i s
    → meaning calls s m ≡ one → meanings calls (drop i ss) m ≡ all → all ≡ after one (meanings calls (drop (i + 1) ss))
first_gives calls ss i s m one all within is gives before =
    sym before ∙ first_of_rest calls ss i s m within is ∙ ap (λ e. after e (meanings calls (drop (i + 1) ss))) gives

pub goes_on : (calls : Calls) (ss : List Statement) (i : ℕ) (s : Statement) (m n : Machine) (c : Completion) (all : Completed) → i < length ss → s ≡ get_or ss i s
    → c ≡ completion.Normal → meaning calls s m ≡ completed (completion_of c) n → meanings calls (drop i ss) m ≡ all → meanings calls (drop (i + 1) ss) n ≡ all
goes_on calls ss i s m n c all within is same gives before =
    sym (first_gives calls ss i s m (completed Normal n) all within is (gives ∙ ap (λ one. completed (completion_of one) n) same) before)

stays : (c : Completion) (n : Machine) (f : Running) → c ≢ completion.Normal → going_on (completion_of c) n f ≡ completed (completion_of c) n
stays completion.Normal n f other = absurd (other refl)
stays completion.Breaks n f other = refl
stays completion.Continues n f other = refl
stays (completion.Returns v) n f other = refl
stays (completion.Halts h) n f other = refl

pub ends_there : (calls : Calls) (ss : List Statement) (i : ℕ) (s : Statement) (m n : Machine) (c : Completion) (all : Completed) → i < length ss → s ≡ get_or ss i s
    → c ≢ completion.Normal → meaning calls s m ≡ completed (completion_of c) n → meanings calls (drop i ss) m ≡ all → all ≡ completed (completion_of c) n
ends_there calls ss i s m n c all within is other gives before =
    first_gives calls ss i s m (completed (completion_of c) n) all within is gives before ∙ stays c n (meanings calls (drop (i + 1) ss)) other

pub stops_there : (calls : Calls) (ss : List Statement) (i : ℕ) (s : Statement) (m n : Machine) (stop : Stop) (all : Completed) → i < length ss → s ≡ get_or ss i s
    → StopsAt stop n (meaning calls s m) → meanings calls (drop i ss) m ≡ all → StopsAt stop n all
stops_there calls ss i s m n stop.Memory all within is stops before = stops
stops_there calls ss i s m n (stop.Halt h) all within is stops before = first_gives calls ss i s m _ all within is stops before

-- ---- passes

some_is_not_none : {c : Completion} → Some c ≢ None
some_is_not_none e = grind (arith, common_steps, e)

same_inside : {c d : Completion} → Some c ≡ Some d → c ≡ d
same_inside e = grind (arith, common_steps, e)

module _ (calls : Calls) (test : Option Expression) (update body : Running) where
  left_passes : (most counter : ℕ) (m : Machine) → counter < most
      → passes calls test update body (most - counter) m ≡ pass calls test update body m (passes calls test update body (most - (counter + 1)))
  left_passes most counter m below = let one_more : most - counter ≡ suc (most - (counter + 1)) = omega arith in ap (λ k. passes calls test update body k m) one_more

  pub passes_on : (most counter : ℕ) (m n : Machine) (o : Option Completion) (all : Completed) → counter < most → o ≡ None → Goes (Ok o) n (pass calls test update body m)
      → passes calls test update body (most - counter) m ≡ all → passes calls test update body (most - (counter + 1)) n ≡ all
  passes_on most counter m n (Some c) all below is goes before = absurd (some_is_not_none is)
  passes_on most counter m n None all below is goes before =
      sym (goes (passes calls test update body (most - (counter + 1)))) ∙ sym (left_passes most counter m below) ∙ before

  passes_no_more : (most counter : ℕ) (m : Machine) (all end : Completed) → counter < most → ((f : Running) → pass calls test update body m f ≡ end)
      → passes calls test update body (most - counter) m ≡ all → all ≡ end
  passes_no_more most counter m all end below ends before =
      sym before ∙ left_passes most counter m below ∙ ends (passes calls test update body (most - (counter + 1)))

  pub passes_end : (most counter : ℕ) (m n : Machine) (o : Option Completion) (c : Completion) (all : Completed) → counter < most → o ≡ Some c → Goes (Ok o) n (pass calls test update body m)
      → passes calls test update body (most - counter) m ≡ all → all ≡ completed (completion_of c) n
  passes_end most counter m n None c all below is goes before = absurd (some_is_not_none (sym is))
  passes_end most counter m n (Some d) c all below is goes before =
      passes_no_more most counter m all _ below goes before ∙ ap (λ one. completed (completion_of one) n) (same_inside is)

  pub passes_stop : (most counter : ℕ) (m n : Machine) (all : Completed) (s : Stop) → counter < most → ((f : Running) → StopsAt s n (pass calls test update body m f))
      → passes calls test update body (most - counter) m ≡ all → StopsAt s n all
  passes_stop most counter m n all stop.Memory below stops before = stops (λ k. normal k)
  passes_stop most counter m n all (stop.Halt h) below stops before = passes_no_more most counter m all _ below stops before

pub goes_same : (r : Result (Option Completion) Stop) (n : Machine) (e e' : Running → Completed) → ((f : Running) → e' f ≡ e f) → Goes r n e → Goes r n e'
goes_same (Ok None) n e e' same goes = λ f. same f ∙ goes f
goes_same (Ok (Some c)) n e e' same goes = λ f. same f ∙ goes f
goes_same (Err stop.Memory) n e e' same goes = goes
goes_same (Err (stop.Halt h)) n e e' same goes = λ f. same f ∙ goes f

pub holding : (calls : Calls) (test : Option Expression) (x : Expression) (update body : Running) (m : Machine) (v : Val) (left : ℕ)
    → test ≡ Some x → value_of calls x (seen_by m) m.turns ≡ Gives v left → is_true v ≡ true
    → (f : Running) → pass calls test update body m f ≡ round update body (with_turns left m) f
holding calls test x update body m v left is gives holds f =
    ap (λ t. pass calls t update body m f) is
    ∙ ap (λ e. with_value e m (λ b n. if is_true b then round update body n f else normal n)) gives
    ∙ ap (λ b. if b then round update body (with_turns left m) f else normal (with_turns left m)) holds
