-- Where blocks begin and instances are visited in a body: only where steps come to, in statements that are opened.
use Rattle.std.specs.Prelude.{◌≡◌, Bool, true, false, ◌&&◌, List, [], ◌∷◌, map, Option, Some, None}
use Rattle.access_blocks.specs.declared.body.Statement.{Statement}
use Rattle.access_blocks.specs.declared.body.Statement.TheOpen.{Statement-F}
use Rattle.access_blocks.specs.declared.body.Statement.TheOpen as s
use Rattle.access_blocks.specs.declared.body.Statement.TheFolds.{fold-Statement, map-Statement}
use Rattle.access_blocks.specs.Marks.{with_marks}
use Rattle.code_meaning.specs.Running.{all_plain, plain_step}

-- whether nothing in a statement is a step of its own; whether it may stand opened; whether it may stand in a list that is run
-- statement by statement; and whether nothing is marked in it yet
pub record Placing : Type 0 where
  pub plain : Bool
  pub opened : Bool
  pub placed : Bool
  pub unmarked : Bool

abbrev pub all_placed : List Placing → Bool
all_placed [] = true
all_placed (a ∷ others) = a.placed && all_placed others

abbrev pub second_placed : Option Placing → Bool
second_placed None = true
second_placed (Some a) = a.placed

abbrev pub plain_in : Statement-F Placing → Bool
plain_in layer = plain_step (map-Statement Placing Bool (λ a. a.plain) layer)

-- The start and the update of a loop are run whole.
abbrev pub opened_in : Statement-F Placing → Bool
opened_in (s.Block items) = all_placed items
opened_in (s.If test first second) = first.placed && second_placed second
opened_in (s.Loop start test update body) = all_plain (map (λ (a : Placing). a.plain) start) && (body.placed && all_plain (map (λ (a : Placing). a.plain) update))
opened_in layer = plain_in layer

abbrev pub placed_in : Statement-F Placing → Bool
placed_in (s.Gather g) = true
placed_in (s.Marked mark block) = block.placed
placed_in (s.Opened body) = body.opened
placed_in layer = plain_in layer

-- ---- before blocks are marked

abbrev pub all_unmarked : List Placing → Bool
all_unmarked [] = true
all_unmarked (a ∷ others) = a.unmarked && all_unmarked others

abbrev pub second_unmarked : Option Placing → Bool
second_unmarked None = true
second_unmarked (Some a) = a.unmarked

-- Nothing is marked or opened, and no instances are visited in the start and the update of a loop.
abbrev pub unmarked_in : Statement-F Placing → Bool
unmarked_in (s.Marked mark block) = false
unmarked_in (s.Opened body) = false
unmarked_in (s.Block items) = all_unmarked items
unmarked_in (s.If test first second) = first.unmarked && second_unmarked second
unmarked_in (s.Loop start test update body) = all_plain (map (λ (a : Placing). a.plain) start) && (all_plain (map (λ (a : Placing). a.plain) update) && body.unmarked)
unmarked_in _ = true

abbrev pub placing_step : Statement-F Placing → Placing
placing_step layer = record { plain = plain_in layer; opened = opened_in layer; placed = placed_in layer; unmarked = unmarked_in layer }

abbrev pub placing_of : Statement → Placing
placing_of = fold-Statement Placing placing_step

abbrev pub are_placed : List Statement → Bool
are_placed ss = all_placed (map placing_of ss)

abbrev pub are_unmarked : List Statement → Bool
are_unmarked ss = all_unmarked (map placing_of ss)

-- Blocks are marked only where steps come to.
abbrev pub MarkedArePlaced : Type 0
MarkedArePlaced = (body : List Statement) → are_unmarked body ≡ true → are_placed (with_marks body) ≡ true
