-- Each move of a call takes a turn, or makes what is left to run until the next turn less.
use Rattle.std.proofs.Common.{◌≡◌, ℕ, zero, suc, ◌+◌, ◌≤◌, ◌<◌, Bool, true, false, List, [], ◌∷◌, Option, Some, None, inl, inr, ◌⊎◌, refl, arith}
use Rattle.access_blocks.specs.declared.body.Expression.{Expression}
use Rattle.access_blocks.specs.declared.body.Gather.{Gather}
use Rattle.access_blocks.specs.declared.body.Mark.{Mark}
use Rattle.access_blocks.specs.declared.body.Statement.{Statement, out-Statement}
use Rattle.access_blocks.specs.declared.body.Statement.TheOpen.{Statement-F}
use Rattle.access_blocks.specs.declared.body.Statement.TheOpen as s
use Rattle.access_blocks.specs.Expressions.{Calls, Ended as Evaluated, Gives, Ends, is_true, value_of, values_of}
use Rattle.access_blocks.specs.Source.{Frame, Then, Test, Again, CallState, Move, Moves, Rests, having, spending, completing, after, entering, at_mark, at_gather, branch, opening, move_statement, pass, move_test, move}
use Rattle.access_blocks.specs.Statements.{Field, Machine, Completion, Normal, Breaks, Continues, Returns, Halts, seen_by, with_turns, meaning, meanings}
use Rattle.plain_java.proofs.Keeping.{meaning_keeps, meanings_keep}
use Rattle.plain_java.proofs.Turns.{AtMost, CallsFall, value_falls, values_fall}
use Rattle.resting_runs.proofs.Weights.{weight, all_weights, weight_of, weights, weight_is, weight_step, something, left_weighs_less, next_weighs_less}

abbrev pub IsNearer : Move → (left turns : ℕ) → Type 0
IsNearer (Moves frames m) left turns = (m.turns < turns) ⊎ ((m.turns ≤ turns) × (weight_of frames < left))
IsNearer (Rests state fields) left turns = Unit {0}

-- A move comes nearer to the rest of the call: from so much that is left until the next turn, and so many turns.
pub record Nearer (move : Move) (left turns : ℕ) : Type 0 where
  pub is : IsNearer move left turns

lighter : (frames : List Frame) (m : Machine) (left turns : ℕ) → m.turns ≤ turns → weight_of frames < left → Nearer (Moves frames m) left turns
lighter frames m left turns few less = record { is = inr (few, less) }

rests : {state : CallState} {fields : List Field} {left turns : ℕ} → Nearer (Rests state fields) left turns
rests = record { is = tt }

having_nearer : {A : Type 0} (e : Evaluated A) (m : Machine) (g : A → ℕ → Move) (left turns : ℕ) → AtMost turns e → ((a : A) (n : ℕ) → n ≤ turns → Nearer (g a n) left turns)
    → Nearer (having e m g) left turns
having_nearer (Gives a n) m g left turns h each = each a n h.leaves
having_nearer (Ends x) m g left turns h each = record { is = tt }

completing_nearer : (c : Completion) (m : Machine) (frames : List Frame) (left turns : ℕ) → m.turns ≤ turns → weight_of frames < left → Nearer (completing c m frames) left turns
completing_nearer Normal m frames left turns few less = lighter frames m left turns few less
completing_nearer Breaks m frames left turns few less = let l = left_weighs_less frames in record { is = inr (few, omega (arith, l, less)) }
completing_nearer Continues m frames left turns few less = let l = next_weighs_less frames in record { is = inr (few, omega (arith, l, less)) }
completing_nearer (Returns v) m frames left turns few less = record { is = tt }
completing_nearer (Halts h) m frames left turns few less = record { is = tt }

entering_nearer : (c : Completion) (m : Machine) (test : Option Expression) (update : List Statement) (body : Statement) (frames : List Frame) (left turns : ℕ)
    → m.turns ≤ turns → 1 + weight_of frames < left → Nearer (entering c m (Test test update body) frames) left turns
entering_nearer Normal m test update body frames left turns few less = lighter (Test test update body ∷ frames) m left turns few less
entering_nearer Breaks m test update body frames left turns few less = completing_nearer Breaks m frames left turns few (omega (arith, less))
entering_nearer Continues m test update body frames left turns few less = completing_nearer Continues m frames left turns few (omega (arith, less))
entering_nearer (Returns v) m test update body frames left turns few less = record { is = tt }
entering_nearer (Halts h) m test update body frames left turns few less = record { is = tt }

module _ (calls : Calls) (fall : CallsFall calls) where
  -- ---- marks

  spending_rests : (n : ℕ) (m : Machine) (state : ℕ → CallState) (left turns : ℕ) → Nearer (spending n m (λ l. Rests (state l) m.fields)) left turns
  spending_rests zero m state left turns = record { is = tt }
  spending_rests (suc n) m state left turns = record { is = tt }

  at_mark_nearer : (mark : Mark) (key : Option Expression) (block : Statement) (frames : List Frame) (m : Machine) (left : ℕ) → Nearer (at_mark calls mark key block frames m) left m.turns
  at_mark_nearer mark None block frames m left = spending_rests m.turns m _ left m.turns
  at_mark_nearer mark (Some key) block frames m left =
      having_nearer (value_of calls key (seen_by m) m.turns) m _ left m.turns (value_falls calls fall key (seen_by m) m.turns) (λ k n less. spending_rests n m _ left m.turns)

  at_gather_nearer : (g : Gather) (frames : List Frame) (m : Machine) (left : ℕ) → Nearer (at_gather calls g frames m) left m.turns
  at_gather_nearer g frames m left =
      having_nearer (values_of calls g.args (seen_by m) m.turns) m _ left m.turns (values_fall calls fall g.args (seen_by m) m.turns) (λ args n less. spending_rests n m _ left m.turns)

  -- ---- statements

  after_nearer : (st : Statement) (frames : List Frame) (m : Machine) (left : ℕ) → weight_of frames < left → Nearer (after (meaning calls st m) frames) left m.turns
  after_nearer st frames m left less = completing_nearer (meaning calls st m).completion (meaning calls st m).machine frames left m.turns (meaning_keeps calls fall st m).falls less

  branch_weighs : (holds : Bool) (first : Statement) → all_weights (branch holds first None) ≤ weight first
  branch_weighs true first = omega arith
  branch_weighs false first = omega arith

  branch_of_two_weighs : (holds : Bool) (first second : Statement) → all_weights (branch holds first (Some second)) ≤ weight first + weight second
  branch_of_two_weighs true first second = omega arith
  branch_of_two_weighs false first second = omega arith

  opening_nearer : (st : Statement) (y : Statement-F Statement) (frames : List Frame) (m : Machine) (left : ℕ) → weight st ≡ weight_step (weights y) → suc (suc (weight st)) + weight_of frames ≤ left
      → Nearer (opening calls st y frames m) left m.turns
  opening_nearer st (s.Block items) frames m left is less = lighter (Then items ∷ frames) m left m.turns (omega arith) (omega (arith, is, less))
  opening_nearer st (s.If test first None) frames m left is less =
      having_nearer (value_of calls test (seen_by m) m.turns) m (λ holds n. Moves (Then (branch (is_true holds) first None) ∷ frames) (with_turns n m)) left m.turns
      (value_falls calls fall test (seen_by m) m.turns) (λ holds n few.
      let b = branch_weighs (is_true holds) first in lighter (Then (branch (is_true holds) first None) ∷ frames) (with_turns n m) left m.turns few (omega (arith, is, less, b)))
  opening_nearer st (s.If test first (Some second)) frames m left is less =
      having_nearer (value_of calls test (seen_by m) m.turns) m (λ holds n. Moves (Then (branch (is_true holds) first (Some second)) ∷ frames) (with_turns n m)) left m.turns
      (value_falls calls fall test (seen_by m) m.turns) (λ holds n few.
      let b = branch_of_two_weighs (is_true holds) first second in
      lighter (Then (branch (is_true holds) first (Some second)) ∷ frames) (with_turns n m) left m.turns few (omega (arith, is, less, b)))
  opening_nearer st (s.Loop start test update body) frames m left is less =
      entering_nearer (meanings calls start m).completion (meanings calls start m).machine test update body frames left m.turns (meanings_keep calls fall start m).falls (omega (arith, is, less))
  opening_nearer st y frames m left is less = after_nearer st frames m left (omega (arith, less))

  statement_nearer : (st : Statement) (y : Statement-F Statement) (frames : List Frame) (m : Machine) (left : ℕ) → weight st ≡ weight_step (weights y) → weight st + weight_of frames ≤ left
      → Nearer (move_statement calls st y frames m) left m.turns
  statement_nearer st (s.Marked mark block) frames m left is less = at_mark_nearer mark mark.key block frames m left
  statement_nearer st (s.Gather g) frames m left is less = at_gather_nearer g frames m left
  statement_nearer st (s.Opened body) frames m left is less = opening_nearer body (out-Statement body) frames m left (weight_is body (out-Statement body) refl) (omega (arith, is, less))
  statement_nearer st y frames m left is less = let some = something (weights y) in after_nearer st frames m left (omega (arith, is, less, some))

  -- ---- loops

  pass_nearer : (holds : Bool) (test : Option Expression) (update : List Statement) (body : Statement) (frames : List Frame) (n : ℕ) (m : Machine) (left : ℕ) → n ≤ m.turns → weight_of frames < left
      → Nearer (pass holds test update body frames n m) left m.turns
  pass_nearer true test update body frames zero m left few less = record { is = tt }
  pass_nearer true test update body frames (suc n) m left few less = record { is = inl few }
  pass_nearer false test update body frames n m left few less = lighter frames (with_turns n m) left m.turns few less

  move_test_nearer : (test : Option Expression) (update : List Statement) (body : Statement) (frames : List Frame) (m : Machine) (left : ℕ) → weight_of frames < left
      → Nearer (move_test calls test update body frames m) left m.turns
  move_test_nearer None update body frames m left less = pass_nearer true None update body frames m.turns m left (omega arith) less
  move_test_nearer (Some test) update body frames m left less =
      having_nearer (value_of calls test (seen_by m) m.turns) m (λ holds n. pass (is_true holds) (Some test) update body frames n m) left m.turns (value_falls calls fall test (seen_by m) m.turns)
      (λ holds n few. pass_nearer (is_true holds) (Some test) update body frames n m left few less)

  pub move_nearer : (frames : List Frame) (m : Machine) → Nearer (move calls frames m) (weight_of frames) m.turns
  move_nearer [] m = record { is = tt }
  move_nearer (Then [] ∷ frames) m = lighter frames m _ m.turns (omega arith) (omega arith)
  move_nearer (Then (st ∷ ss) ∷ frames) m = statement_nearer st (out-Statement st) (Then ss ∷ frames) m _ (weight_is st (out-Statement st) refl) (omega arith)
  move_nearer (Test test update body ∷ frames) m = move_test_nearer test update body frames m _ (omega arith)
  move_nearer (Again test update body ∷ frames) m =
      entering_nearer (meanings calls update m).completion (meanings calls update m).machine test update body frames _ m.turns (meanings_keep calls fall update m).falls (omega arith)
