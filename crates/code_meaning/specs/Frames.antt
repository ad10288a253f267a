-- How what is left to run of a call is laid in code: the rest of a list of statements at a place, behind it the rest of the list
-- around it, and loops round them, of which the test or the update comes next.
use Rattle.std.specs.Prelude.{◌≡◌, ◌⊎◌, ◌≤◌, ◌+◌, ℕ, zero, suc, Bool, true, not, ◌||◌, List, [], ◌∷◌, length, map, Option, Some, None, slice_get}
use Rattle.sdg_base.specs.declared.value_type.ValueType.TheVariants as type
use Rattle.flat_code.specs.declared.graph.GraphField.{GraphField}
use Rattle.flat_code.specs.declared.graph.Instr.{Instr}
use Rattle.flat_code.specs.declared.graph.Instr.TheVariants as instr
use Rattle.access_blocks.specs.declared.body.Expression.{Expression}
use Rattle.access_blocks.specs.declared.body.Statement.{Statement}
use Rattle.access_blocks.specs.Source.{Frame, Then, Test, Again}
use Rattle.body_code.specs.Completing.{leaving_of, goes_on, breaking, body_completes}
use Rattle.body_code.specs.StatementCode.{Place, Exits, Scope, Piece, tested, passes, next_pass, piece_of, pieces_of}
use Rattle.body_code.specs.Checking.{Surroundings, Standing, Around, is_condition, checked, checked_list}
use Rattle.code_meaning.specs.Laid.{IsLaid}
use Rattle.code_meaning.specs.Running.{Below, all_plain, is_plain}
use Rattle.code_meaning.specs.Placed.{placing_of, are_placed}

-- the code of a body: what the body stands in, how many variables a frame has, and how many steps are enough between two turns
pub record Coded : Type 0 where
  pub around : Surroundings
  pub graph : List GraphField
  pub code : List Instr
  pub many : ℕ
  pub whole : ℕ

abbrev pub scope_in : Coded → Scope
scope_in c = record { fields = c.graph; context = c.around.context }

-- the loop around: what holds where its exits go, where they go, and whether a `break` leaves it
pub record Level : Type 0 where
  pub loop : Around
  pub exits : Exits
  pub breaks : Bool

-- to a place on: there already, or by a jump, in so many steps
abbrev pub Comes : Coded → ℕ → ℕ → ℕ → Type 0
Comes c zero from to = from ≡ to
Comes c (suc n) from to = slice_get c.code from ≡ Some (instr.Jump to)

-- ---- the rest of a list

pub record ListStands (c : Coded) (ss : List Statement) (level : Level) (at : ℕ) (st : Standing) (goes_on : Bool) (jump to : ℕ) (next : Standing) : Type 0 where
  pub place : Place
  pub is_at : place.at ≡ at
  pub laid : IsLaid c.code place.at ((pieces_of (scope_in c) ss).from place level.exits)
  pub end : Standing
  pub checked : checked_list c.around ss level.loop st ≡ Some end
  pub below : Below end next
  pub placed : are_placed ss ≡ true
  pub comes : Comes c jump (place.at + (pieces_of (scope_in c) ss).size) to
  pub completes : body_completes ss ≡ true → goes_on ≡ true
  pub breaks : breaking (map leaving_of ss) ≡ true → level.breaks ≡ true
  pub first : length c.around.context.variables ≤ place.variable
  pub room : place.variable + length (pieces_of (scope_in c) ss).carried ≤ c.many

-- what is laid behind: whether it may be come to, where, what holds there, and in how many steps a turn or an end comes
pub record ThenIsLaid (c : Coded) (ss : List Statement) (Rest : Bool → ℕ → Standing → ℕ → Type 0) (level : Level) (may : Bool) (at : ℕ) (st : Standing) (left : ℕ) : Type 0 where
  pub goes_on : Bool
  pub jump : ℕ
  pub to : ℕ
  pub next : Standing
  pub later : ℕ
  pub here : may ≡ true → ListStands c ss level at st goes_on jump to next
  pub few : (pieces_of (scope_in c) ss).size + jump + later ≤ left
  pub rest : Rest goes_on to next later

-- ---- loops

abbrev pub test_size : Coded → Option Expression → ℕ
test_size c test = (tested c.around.context test).size

abbrev pub update_size : Coded → List Statement → ℕ
update_size c update = (pieces_of (scope_in c) update).size

abbrev pub body_size : Coded → Statement → ℕ
body_size c body = (piece_of (scope_in c) body).size

abbrev pub loop_piece : Coded → Option Expression → List Statement → Statement → Piece
loop_piece c test update body = passes c.around.context test (map (piece_of (scope_in c)) update) (piece_of (scope_in c) body)

-- behind the body
abbrev pub update_at : Coded → Option Expression → Statement → ℕ → ℕ
update_at c test body at = at + test_size c test + 1 + body_size c body

abbrev pub inner_exits : Coded → Option Expression → List Statement → Statement → ℕ → Exits
inner_exits c test update body at = record {
  break_to = at + (loop_piece c test update body).size;
  continue_to = next_pass at (update_at c test body at) (map (piece_of (scope_in c)) update);
}

pub record LoopStands (c : Coded) (test : Option Expression) (update : List Statement) (body : Statement) (level : Level) (Rest : Level → Bool → ℕ → Standing → ℕ → Type 0) : Type 0 where
  pub place : Place
  pub outer : Level
  pub laid : IsLaid c.code place.at ((loop_piece c test update body).from place outer.exits)
  pub need : Standing
  pub loop : level.loop ≡ Some need
  pub exits : level.exits ≡ inner_exits c test update body place.at
  pub breaks : level.breaks ≡ (leaving_of body).breaks
  pub condition : is_condition c.around need test ≡ true
  pub after_body : Standing
  pub body_checked : checked c.around body (Some need) need ≡ Some after_body
  pub body_below : Below after_body need
  pub after_update : Standing
  pub update_checked : checked_list c.around update None need ≡ Some after_update
  pub update_below : Below after_update need
  pub update_plain : all_plain (map is_plain update) ≡ true
  pub body_placed : (placing_of body).placed ≡ true
  pub first : length c.around.context.variables ≤ place.variable
  pub room : place.variable + length (loop_piece c test update body).carried ≤ c.many
  pub next : Standing
  pub next_below : Below need next
  pub later : ℕ
  pub few : (loop_piece c test update body).size + later ≤ c.whole
  pub rest : Rest outer (not (goes_on test) || (leaving_of body).breaks) (place.at + (loop_piece c test update body).size) next later

-- The test comes next: nothing leaves the loop before it.
pub record TestIsLaid (c : Coded) (test : Option Expression) (update : List Statement) (body : Statement) (level : Level) (Rest : Level → Bool → ℕ → Standing → ℕ → Type 0) (may : Bool) (at : ℕ) (st : Standing) (left : ℕ) : Type 0 where
  pub no_loop : level.loop ≡ None
  pub inner : Level
  pub stands : LoopStands c test update body inner Rest
  pub is_at : may ≡ true → stands.place.at ≡ at
  pub below : may ≡ true → Below st stands.need
  pub few : test_size c test + 1 + stands.later ≤ left

-- The update comes next, and where there is none the test.
pub record AgainIsLaid (c : Coded) (test : Option Expression) (update : List Statement) (body : Statement) (level : Level) (Rest : Level → Bool → ℕ → Standing → ℕ → Type 0) (may : Bool) (at : ℕ) (st : Standing) (left : ℕ) : Type 0 where
  pub stands : LoopStands c test update body level Rest
  pub is_at : may ≡ true → (update_at c test body stands.place.at ≡ at) ⊎ ((update ≡ []) × (stands.place.at ≡ at))
  pub below : may ≡ true → Below st stands.need
  pub few : update_size c update + 1 + (test_size c test + 1 + stands.later) ≤ left

-- ---- frames

-- A body that may complete is void.
pub record EndIsLaid (c : Coded) (level : Level) (may : Bool) (at left : ℕ) : Type 0 where
  pub no_loop : level.loop ≡ None
  pub here : may ≡ true → slice_get c.code at ≡ Some instr.ReturnVoid
  pub is_void : may ≡ true → c.around.result ≡ type.Void
  pub few : 1 ≤ left

abbrev pub AreLaid : Coded → List Frame → Level → Bool → ℕ → Standing → ℕ → Type 0
AreLaid c [] level may at st left = EndIsLaid c level may at left
AreLaid c (Then ss ∷ frames) level may at st left = ThenIsLaid c ss (λ may at st left. AreLaid c frames level may at st left) level may at st left
AreLaid c (Test test update body ∷ frames) level may at st left = TestIsLaid c test update body level (λ level may at st left. AreLaid c frames level may at st left) may at st left
AreLaid c (Again test update body ∷ frames) level may at st left = AgainIsLaid c test update body level (λ level may at st left. AreLaid c frames level may at st left) may at st left
