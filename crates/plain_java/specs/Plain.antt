-- Plain Java: whole calls, one after the other over whole fields (JLS 14, 15). No list of statements is cut: a mark counts
-- only as a turn that is spent.
use Rattle.std.specs.Prelude.{List, [], ◌∷◌, map, slice_get, Option, Some, None}
use Rattle.sdg_base.specs.declared.val.Val.{Val}
use Rattle.sdg_base.specs.declared.val.Val.TheVariants as val
use Rattle.sdg_base.specs.declared.val.Outcome.{Outcome}
use Rattle.sdg_base.specs.declared.call.Call.{Call}
use Rattle.sdg_base.specs.Limits.{turns_at_start}
use Rattle.access_blocks.specs.declared.body.Body.{Body}
use Rattle.access_blocks.specs.declared.body.Program.{Program}
use Rattle.access_blocks.specs.Statements.{Field, Machine, Completed, normal, meanings}
use Rattle.access_blocks.specs.Calls.{machine_at_start, calls_of, outcome_by}
use Rattle.access_blocks.specs.Source.{field_at_start}

-- a machine with fields alone, where there is no such method
abbrev pub idle : List Field → Machine
idle fields = record { variables = []; key = val.Unit; gathered = []; turns = 0; fields = fields; instance = 0 }

abbrev pub body_completed : Program → Option Body → List Val → List Field → Completed
body_completed program None args fields = normal (idle fields)
body_completed program (Some body) args fields =
    meanings (calls_of program.methods) body.statements (machine_at_start body args [] turns_at_start fields)

-- how the body of a call completes on the fields as they are, and what it leaves
abbrev pub call_completed : Program → Call → List Field → Completed
call_completed program call fields = body_completed program (slice_get program.methods call.method) call.args fields

-- the outcomes of calls, one after the other
abbrev pub plain_from : Program → List Call → List Field → List Outcome
plain_from program [] fields = []
plain_from program (call ∷ calls) fields =
    let c = call_completed program call fields in
    outcome_by c.completion ∷ plain_from program calls c.machine.fields

-- from fields without entries on
abbrev pub plain : Program → List Call → List Outcome
plain program calls = plain_from program calls (map (field_at_start 0) program.fields)
