-- What an object of a class that holds state holds, and what a call of a method answers and leaves.
use Rattle.std.specs.Prelude.{ℕ, List, Option, Some, None, codes}
use Rattle.sdg_base.specs.declared.val.Val.{Val}
use Rattle.sdg_base.specs.declared.val.Outcome.{Outcome}
use Rattle.sdg_base.specs.declared.val.Outcome.TheVariants.{Value}
use Rattle.early_tables.specs.declared.method.Method.{Method}
use Rattle.early_tables.specs.declared.method.Method.TheVariants as method
use Rattle.early_tables.specs.Entries.{Entries}
use Rattle.early_tables.specs.Methods.{called}

-- nothing, as in a cell without a field, or the entries of a table
pub data State : Type 0 where
  Nothing : State
  OfTable : Entries → State

abbrev pub method_text : Method → List ℕ
method_text method.Get = codes "get"
method_text method.Put = codes "put"

abbrev pub arity : Method → ℕ
arity method.Get = 1
arity method.Put = 2

abbrev pub answered : Option (Val × Entries) → Option (Outcome × State)
answered None = None
answered (Some change) = Some (Value change.0, OfTable change.1)

-- the outcome of a call and the state after it; None where the state has no such method, or the arguments are of other types
abbrev pub call_on : Method → List Val → State → Option (Outcome × State)
call_on m args Nothing = None
call_on m args (OfTable entries) = answered (called (method_text m) args entries)
