-- How much of a call is left to run until its next turn.
use Rattle.std.proofs.Common.{◌≡◌, ℕ, suc, ◌+◌, ◌≤◌, List, [], ◌∷◌, map, Some, None, ap, ◌∙◌, arith}
use Rattle.access_blocks.specs.declared.body.Statement.{Statement, out-Statement}
use Rattle.access_blocks.specs.declared.body.Statement.TheOpen.{Statement-F}
use Rattle.access_blocks.specs.declared.body.Statement.TheOpen as s
use Rattle.access_blocks.specs.declared.body.Statement.TheFolds.{fold-Statement, fold_out-Statement, map-Statement}
use Rattle.access_blocks.specs.Source.{Frame, Then, Test, Again, left_loop, next_pass}

abbrev pub total : List ℕ → ℕ
total [] = 0
total (n ∷ ns) = n + total ns

-- What is opened weighs more than the frame that it leaves, and a loop no more than the frame of its test.
abbrev pub weight_step : Statement-F ℕ → ℕ
weight_step (s.Opened body) = suc (suc body)
weight_step (s.Block items) = suc (total items)
weight_step (s.If test first None) = suc first
weight_step (s.If test first (Some second)) = suc (first + second)
weight_step _ = 1

abbrev pub weight : Statement → ℕ
weight = fold-Statement ℕ weight_step

abbrev pub all_weights : List Statement → ℕ
all_weights ss = total (map weight ss)

abbrev pub frame_weight : Frame → ℕ
frame_weight (Then ss) = suc (all_weights ss)
frame_weight (Test test update body) = 1
frame_weight (Again test update body) = 2

abbrev pub weight_of : List Frame → ℕ
weight_of [] = 0
weight_of (f ∷ frames) = frame_weight f + weight_of frames

abbrev pub weights : Statement-F Statement → Statement-F ℕ
weights = map-Statement Statement ℕ weight

pub weight_is : (st : Statement) (y : Statement-F Statement) → out-Statement st ≡ y → weight st ≡ weight_step (weights y)
weight_is st y is = fold_out-Statement ℕ weight_step st ∙ ap (λ (z : Statement-F Statement). weight_step (weights z)) is

pub something : (y : Statement-F ℕ) → 1 ≤ weight_step y
something (s.Opened body) = omega arith
something (s.Block items) = omega arith
something (s.If test first None) = omega arith
something (s.If test first (Some second)) = omega arith
something _ = omega arith

pub left_weighs_less : (frames : List Frame) → weight_of (left_loop frames) ≤ weight_of frames
left_weighs_less [] = omega arith
left_weighs_less (Then ss ∷ frames) = let less = left_weighs_less frames in omega (arith, less)
left_weighs_less (Test test update body ∷ frames) = omega arith
left_weighs_less (Again test update body ∷ frames) = omega arith

pub next_weighs_less : (frames : List Frame) → weight_of (next_pass frames) ≤ weight_of frames
next_weighs_less [] = omega arith
next_weighs_less (Then ss ∷ frames) = let less = next_weighs_less frames in omega (arith, less)
next_weighs_less (Test test update body ∷ frames) = omega arith
next_weighs_less (Again test update body ∷ frames) = omega arith
