-- What is known while a class is read from its first token to its last, and what each step adds.
use Rattle.std.specs.Prelude.{ℕ, ◌+◌, min, Bool, true, false, ◌||◌, nat_le, nat_lt, List, [], ◌∷◌, ◌++◌, length, take, slice_set, Option, Some, None, if◌then◌else◌}
use Rattle.java_tree.specs.declared.types.ExprType.{ExprType}
use Rattle.java_tree.specs.declared.types.ExprType.TheVariants.{Unknown}
use Rattle.java_types.specs.declared.calls.Call.{Call}
use Rattle.java_types.specs.declared.walk.Variable.{Variable}
use Rattle.java_types.specs.declared.walk.Finding.{Finding}
use Rattle.java_types.specs.declared.walk.Env.{Env}
use Rattle.java_types.specs.declared.walk.Walk.{Walk}
use Rattle.java_types.specs.Fits.{is_void, unless}
use Rattle.java_types.specs.Names.{entry_of}
use Rattle.java_types.specs.Calls.{reaches}

-- a type, and what is known then
pub record Typing : Type 0 where
  pub found : ExprType
  pub walk : Walk

-- whether something holds, and what is known then
pub record Tested : Type 0 where
  pub holds : Bool
  pub walk : Walk

-- behind the next tokens, as far as there are places
unfoldable pub past : Env → ℕ → Walk → Walk
past env tokens w = record w { at = min (w.at + tokens) env.limit }

abbrev pub past_if : Env → Bool → ℕ → Walk → Walk
past_if env test tokens w = if test then past env tokens w else w

abbrev pub finding : ℕ → ℕ → Finding
finding token rule = record { token = token; rule = rule }

-- Where a rule is broken, that is a finding.
unfoldable pub noted : Bool → ℕ → ℕ → Walk → Walk
noted broken token rule w = if broken then record w { findings = w.findings ++ finding token rule ∷ [] } else w

-- The type of an expression stands before those of its parts.
unfoldable pub opened : Walk → Walk
opened w = record w { types = w.types ++ Unknown ∷ [] }

unfoldable pub closed : ℕ → ExprType → Walk → Walk
closed slot t w = if nat_lt slot (length w.types) then record w { types = slice_set w.types slot t } else w

-- the end of the block in which the variables after the first are in scope
unfoldable pub left : ℕ → Walk → Walk
left outer w = record w { variables = take outer w.variables }

abbrev pub first_of : Option Variable → Option Variable → Option Variable
first_of (Some v) other = Some v
first_of None other = other

-- A local or a parameter hides a field of its name.
unfoldable pub variable : Env → Walk → List ℕ → Option Variable
variable env w name = first_of (entry_of name w.variables) (entry_of name env.fields)

abbrev pub used_as : ℕ → Walk → Option Variable → Typing
used_as at w (Some v) = record { found = v.found; walk = record w { names = w.names ++ v.declaration ∷ [] } }
used_as at w None = record { found = Unknown; walk = noted true at 3 w }

-- Rule 3: the name of a variable comes next.
unfoldable pub named : Env → List ℕ → Walk → Typing
named env name w = used_as w.at (past env 1 w) (variable env w name)

-- Rule 7: a void call as a value, which has no type.
unfoldable pub used : ℕ → Typing → Typing
used at t = record { found = unless (is_void t.found) t.found; walk = noted (is_void t.found) at 7 t.walk }

abbrev pub most_fields : ℕ
most_fields = 64

abbrev pub most_methods : ℕ
most_methods = 256

abbrev pub call : ℕ → ℕ → Call
call caller callee = record { caller = caller; callee = callee }

-- Rule 13: a call closes a cycle where its callee reaches its caller already, by the calls before it. Methods past the limit break
-- another rule, and nothing rests on them.
unfoldable pub called : ℕ → Walk → Tested
called callee w =
    if nat_le most_methods w.caller || nat_le most_methods callee then record { holds = false; walk = w }
    else record { holds = reaches w.calls callee w.caller; walk = record w { calls = w.calls ++ call w.caller callee ∷ [] } }
