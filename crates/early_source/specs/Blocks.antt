-- A call from one mark to the next: the statements of straight lists (JLS 14), with state accesses cut at marks.
use Rattle.std.specs.Prelude.{ℕ, zero, suc, if◌then◌else◌, List, [], ◌∷◌, Option, Some, None}
use Rattle.sdg_base.specs.declared.val.Val.{Val}
use Rattle.sdg_base.specs.declared.val.Val.TheVariants as val
use Rattle.sdg_base.specs.declared.val.Outcome.{Outcome}
use Rattle.sdg_base.specs.declared.val.Outcome.TheVariants.{Value, Limit}
use Rattle.java_tree.specs.declared.tree.Value.{Value as Written}
use Rattle.java_tree.specs.declared.tree.Stmt.{Stmt, out-Stmt}
use Rattle.java_tree.specs.declared.tree.BlockItem.{BlockItem, out-BlockItem}
use Rattle.java_tree.specs.declared.tree.BlockItem.TheOpen.{BlockItem-F, Stmt-F}
use Rattle.java_tree.specs.declared.tree.BlockItem.TheOpen as s
use Rattle.early_tables.specs.Entries.{Entries}
use Rattle.early_tables.specs.Methods.{called}
use Rattle.early_source.specs.Variables.{Variables, Tables, named, renewed}
use Rattle.early_source.specs.Expressions.{as_long, long_of, longs_of, cons_if}
use Rattle.early_source.specs.Sites.{Access, Site, access_of, site_of, is_marked, after_declaration}

-- Where a call stands: at a mark before the first of these statements, with its key, or at its end.
pub data Place : Type 0 where
  AtMark : (rest : List BlockItem) (variables : Variables) (turns : ℕ) (key : Val) → Place
  AtEnd : Outcome → Place

-- None where the program has no meaning today
abbrev pub Stop : Type 0
Stop = Option (Place × Tables)

-- the statements that follow, from this site, these variables, turns and tables on
abbrev pub Next : Type 0
Next = Option Site → Variables → ℕ → Tables → Stop

-- ---- a state access

-- the key's value, where the access has a key
abbrev pub key_value : List Written → Variables → Option Val
key_value [] variables = None
key_value (v ∷ vs) variables = long_of v variables

abbrev pub behind : List Written → List Written
behind [] = []
behind (v ∷ vs) = vs

abbrev pub changed : List ℕ → Tables → Option (Val × Entries) → Option (Val × Tables)
changed field tables None = None
changed field tables (Some change) = Some (change.0, renewed field change.1 tables)

abbrev pub with_args : Access → Tables → Option Entries → Option (List Val) → Option (Val × Tables)
with_args a tables (Some entries) (Some args) = changed a.field tables (called a.method args entries)
with_args a tables _ _ = None

-- the value that an access gives under a key, and the tables after it; the other arguments are evaluated now
abbrev pub accessed : Access → Val → Variables → Tables → Option (Val × Tables)
accessed a key variables tables = with_args a tables (named a.field tables) (cons_if (Some key) (longs_of (behind a.args) variables))

-- ---- a statement, once the value in it is known

abbrev pub ended : Tables → Option Val → Stop
ended tables None = None
ended tables (Some v) = Some (AtEnd (Value v), tables)

abbrev pub declared : Next → List ℕ → Option Site → Variables → ℕ → Tables → Option Val → Stop
declared next name site variables turns tables None = None
declared next name site variables turns tables (Some v) = next (after_declaration name site) ((name, v) ∷ variables) turns tables

abbrev pub finish_statement : Next → Stmt-F BlockItem Stmt → Option Site → Val → Variables → ℕ → Tables → Stop
finish_statement next (s.Simple x) site v variables turns tables = next site variables turns tables
finish_statement next (s.Return (Some w)) site v variables turns tables = ended tables (as_long v)
finish_statement next _ site v variables turns tables = None

-- a local takes the value, a statement drops it, and a return ends the call with it
abbrev pub finish : Next → BlockItem-F BlockItem Stmt → Option Site → Val → Variables → ℕ → Tables → Stop
finish next (s.Local l) site v variables turns tables = declared next l.name site variables turns tables (as_long v)
finish next (s.Stmt x) site v variables turns tables = finish_statement next (out-Stmt x) site v variables turns tables

abbrev pub finish_with : Next → BlockItem → Option Site → Variables → ℕ → Option (Val × Tables) → Stop
finish_with next item site variables turns None = None
finish_with next item site variables turns (Some r) = finish next (out-BlockItem item) site r.0 variables turns r.1

-- the access of a statement, and the rest of the statement
abbrev pub perform : Next → BlockItem → Access → Val → Variables → ℕ → Tables → Stop
perform next item a key variables turns tables = finish_with next item (Some (site_of a)) variables turns (accessed a key variables tables)

-- ---- from one mark to the next

-- The key is evaluated, and then the turn is spent.
abbrev pub reach : List BlockItem → Variables → ℕ → Tables → Option Val → Stop
reach rest variables turns tables None = None
reach rest variables zero tables (Some key) = Some (AtEnd Limit, tables)
reach rest variables (suc turns) tables (Some key) = Some (AtMark rest variables turns key, tables)

abbrev pub go_on : Next → BlockItem → Access → Variables → ℕ → Tables → Option Val → Stop
go_on next item a variables turns tables None = None
go_on next item a variables turns tables (Some key) = perform next item a key variables turns tables

abbrev pub long_if : Option Written → Variables → Option Val
long_if None variables = None
long_if (Some v) variables = long_of v variables

abbrev pub statement_value : Stmt-F BlockItem Stmt → Variables → Option Val
statement_value (s.Return v) variables = long_if v variables
statement_value _ variables = None

-- the value in a statement without access
abbrev pub plain_value : BlockItem-F BlockItem Stmt → Variables → Option Val
plain_value (s.Local l) variables = long_if l.value variables
plain_value (s.Stmt x) variables = statement_value (out-Stmt x) variables

abbrev pub plainly : Next → BlockItem → Option Site → Variables → ℕ → Tables → Option Val → Stop
plainly next item site variables turns tables None = None
plainly next item site variables turns tables (Some v) = finish next (out-BlockItem item) site v variables turns tables

abbrev pub first_of_list : Next → BlockItem → List BlockItem → Option Access → Next
first_of_list next item rest None site variables turns tables = plainly next item site variables turns tables (plain_value (out-BlockItem item) variables)
first_of_list next item rest (Some a) site variables turns tables =
    if is_marked site a
    then reach (item ∷ rest) variables turns tables (key_value a.args variables)
    else go_on next item a variables turns tables (key_value a.args variables)

-- from the start of a list to its first mark or the call's end
abbrev pub run_from : List (List ℕ) → List BlockItem → Next
run_from fields [] site variables turns tables = Some (AtEnd (Value val.Unit), tables)
run_from fields (item ∷ rest) site variables turns tables = first_of_list (run_from fields rest) item rest (access_of fields (out-BlockItem item)) site variables turns tables

-- from a mark to the next or to the call's end
abbrev pub marked_access : List (List ℕ) → BlockItem → List BlockItem → Option Access → Variables → ℕ → Val → Tables → Stop
marked_access fields item rest None variables turns key tables = None
marked_access fields item rest (Some a) variables turns key tables = perform (run_from fields rest) item a key variables turns tables

abbrev pub run_block : List (List ℕ) → List BlockItem → Variables → ℕ → Val → Tables → Stop
run_block fields [] variables turns key tables = None
run_block fields (item ∷ rest) variables turns key tables = marked_access fields item rest (access_of fields (out-BlockItem item)) variables turns key tables
