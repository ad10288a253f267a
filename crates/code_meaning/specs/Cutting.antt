-- What the code of a mark does: where the source rests at the mark, the code ends at a cut, with the key on its stack.
use Rattle.std.specs.Prelude.{◌≡◌, ◌+◌, ℕ, true, List, [], ◌∷◌, Option, Some, None, slice_get}
use Rattle.sdg_base.specs.declared.val.Val.{Val}
use Rattle.state_classes.specs.States.{State}
use Rattle.flat_code.specs.Machine.{Frame, CutTo}
use Rattle.access_blocks.specs.declared.body.Mark.{Mark}
use Rattle.access_blocks.specs.declared.body.Statement.{Statement}
use Rattle.access_blocks.specs.Statements.{Machine}
use Rattle.access_blocks.specs.Source as source
use Rattle.access_blocks.specs.Source.{Move, Rests, At, Ended, at_mark}
use Rattle.body_code.specs.StatementCode.{Place, Exits, Piece, key_code, marked}
use Rattle.body_code.specs.Checking.{Standing, is_key_of}
use Rattle.code_meaning.specs.Laid.{IsLaid, frame, EndsSo, Stops}
use Rattle.code_meaning.specs.Running.{Ground, IsGround, scope_on, Agrees}

abbrev pub stack_of : Option Val → List Val
stack_of None = []
stack_of (Some key) = key ∷ []

-- at the cut for a task, which stands at a place, or at the end of the call
abbrev pub RestsSo : Ground → ℕ → Frame → State → ℕ → ℕ → List Val → Machine → Move → Type 0
RestsSo g size f state task at variables m (Rests (At field key block now) fields) =
    EndsSo g.setting g.code size f state (CutTo task) (frame at (stack_of key) variables now.turns) state × (now.variables ≡ m.variables) × (fields ≡ m.fields)
RestsSo g size f state task at variables m (Rests (Ended how) fields) = Stops g.setting g.code size f state how state × (fields ≡ m.fields)
RestsSo g size f state task at variables m _ = ⊥

abbrev pub MarksAreCuts : Type 0
MarksAreCuts =
    (g : Ground) → IsGround g → (mark : Mark) (block : Statement) (body : Piece) (st : Standing) → is_key_of g.around st (slice_get g.around.fields mark.field) mark.key ≡ true
    → (p : Place) (exits : Exits) → IsLaid g.code p.at ((marked (scope_on g) mark body).from p exits)
    → (frames : List source.Frame) (variables : List Val) (state : State) (m : Machine) → Agrees g st variables state m
    → RestsSo g ((key_code (scope_on g) mark.key).size + 2) (frame p.at [] variables m.turns) state p.task (p.at + (key_code (scope_on g) mark.key).size + 1) variables m (at_mark g.calls mark mark.key block frames m)
