-- What calls of methods give: a body run on its arguments (JLS 15.12).
use Rattle.std.specs.Prelude.{ℕ, zero, suc, pos, false, List, [], ◌++◌, map, drop, slice_get, Option, Some, None}
use Rattle.sdg_base.specs.declared.val.Val.{Val}
use Rattle.sdg_base.specs.declared.val.Val.TheVariants as val
use Rattle.sdg_base.specs.declared.val.Outcome.{Outcome}
use Rattle.sdg_base.specs.declared.val.Outcome.TheVariants as outcome
use Rattle.sdg_base.specs.Limits.{turns_at_start}
use Rattle.java_tree.specs.declared.types.ValueType.{ValueType}
use Rattle.java_tree.specs.declared.types.ValueType.TheVariants as value_types
use Rattle.access_blocks.specs.declared.body.Body.{Body}
use Rattle.access_blocks.specs.declared.halt.Halt.TheVariants.{OutOfTurns}
use Rattle.access_blocks.specs.Expressions.{Calls, Ended, Gives, Ends, outcome_of}
use Rattle.access_blocks.specs.Statements.{Field, Machine, Completion, Normal, Breaks, Continues, Returns, Halts, Completed, meanings}

-- what a local without initialiser starts as
abbrev pub start_value : ValueType → Val
start_value value_types.Int = val.Int (pos 0)
start_value value_types.Long = val.Long (pos 0)
start_value value_types.Boolean = val.Bool false
start_value value_types.Vector = val.Vector []

-- the arguments, and each local at its start
abbrev pub variables_at_start : Body → List Val → List Val
variables_at_start b args = args ++ map start_value (drop b.arity b.variables)

abbrev pub machine_at_start : Body → List Val → List Val → ℕ → List Field → Machine
machine_at_start b args gathered turns fields = record {
  variables = variables_at_start b args;
  key = val.Unit;
  gathered = gathered;
  turns = turns;
  fields = fields;
  instance = 0;
}

-- what a body gives that has completed; a void body may complete normally
abbrev pub given_by : Completion → ℕ → Ended Val
given_by (Returns v) turns = Gives v turns
given_by (Halts h) turns = Ends h
given_by _ turns = Gives val.Unit turns

abbrev pub result_of : Completed → Ended Val
result_of c = given_by c.completion c.machine.turns

-- the body of a helper or of a merge method, which works on no field
abbrev pub ran : Calls → Option Body → List Val → List Val → ℕ → Ended Val
ran calls None args gathered turns = Gives val.Unit turns
ran calls (Some b) args gathered turns = result_of (meanings calls b.statements (machine_at_start b args gathered turns []))

-- A call spends a turn. Calls stand at most so deep in each other.
abbrev pub calls_within : ℕ → List Body → Calls
calls_within zero methods m args gathered turns = Ends OutOfTurns
calls_within (suc depth) methods m args gathered zero = Ends OutOfTurns
calls_within (suc depth) methods m args gathered (suc left) = ran (calls_within depth methods) (slice_get methods m) args gathered left

-- No call has more turns than it starts with, so none stands deeper in others.
abbrev pub calls_of : List Body → Calls
calls_of = calls_within turns_at_start

-- how a call has ended whose body has completed
abbrev pub outcome_by : Completion → Outcome
outcome_by (Returns v) = outcome.Value v
outcome_by (Halts h) = outcome_of h
outcome_by _ = outcome.Value val.Unit
