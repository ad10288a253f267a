-- The code of statements, with the tasks that it cuts and the variables that it adds for the arguments of gathering accesses.
use Rattle.std.specs.Prelude.{ℕ, suc, ◌+◌, List, [], ◌∷◌, ◌++◌, length, map, Option, Some, None, slice_get}
use Rattle.std.specs.List.{range_with_len, flat_map}
use Rattle.sdg_base.specs.declared.value_type.ValueType.{ValueType}
use Rattle.sdg_base.specs.declared.value_type.ValueType.TheVariants as type
use Rattle.sdg_base.specs.Signatures.{Signature}
use Rattle.state_classes.specs.declared.method.Method.{Method}
use Rattle.state_classes.specs.Methods.{signature}
use Rattle.flat_code.specs.declared.graph.GraphField.{GraphField}
use Rattle.flat_code.specs.declared.graph.Instr.{Instr}
use Rattle.flat_code.specs.declared.graph.Instr.TheVariants as instr
use Rattle.flat_code.specs.declared.graph.VarType.{VarType}
use Rattle.flat_code.specs.declared.graph.VarType.TheVariants as var
use Rattle.access_blocks.specs.declared.body.Access.{Access}
use Rattle.access_blocks.specs.declared.body.Expression.{Expression}
use Rattle.access_blocks.specs.declared.body.Gather.{Gather}
use Rattle.access_blocks.specs.declared.body.Mark.{Mark}
use Rattle.access_blocks.specs.declared.body.Statement.{Statement}
use Rattle.access_blocks.specs.declared.body.Statement.TheOpen.{Statement-F}
use Rattle.access_blocks.specs.declared.body.Statement.TheOpen as s
use Rattle.access_blocks.specs.declared.body.Statement.TheFolds.{fold-Statement}
use Rattle.access_blocks.specs.declared.body.Target.{Target}
use Rattle.access_blocks.specs.declared.body.Target.TheVariants as target
use Rattle.body_code.specs.Typing.{Context, type_of}
use Rattle.body_code.specs.Codes.{Code, plain, nothing, followed_by}
use Rattle.body_code.specs.ExpressionCode.{behind, code_of, codes_of}

-- where code is put: at an instruction, where a task and a variable come next
pub record Place : Type 0 where
  pub at : ℕ
  pub task : ℕ
  pub variable : ℕ

-- where `break` and `continue` go
pub record Exits : Type 0 where
  pub break_to : ℕ
  pub continue_to : ℕ

-- how long it is, how many tasks it cuts, the types of the variables that it adds, and its instructions from a place on
pub record Piece : Type 0 where
  pub size : ℕ
  pub tasks : ℕ
  pub carried : List VarType
  pub from : Place → Exits → List Instr

abbrev pub moved : ℕ → Place → Place
moved n p = record { at = p.at + n; task = p.task; variable = p.variable }

-- the place behind a piece
abbrev pub behind_piece : Place → Piece → Place
behind_piece p piece = record { at = p.at + piece.size; task = p.task + piece.tasks; variable = p.variable + length piece.carried }

abbrev pub of_code : Code → Piece
of_code c = record { size = c.size; tasks = 0; carried = []; from = λ p exits. c.from p.at }

abbrev pub of_instructions : List Instr → Piece
of_instructions is = of_code (plain is)

abbrev pub then_piece : Piece → Piece → Piece
then_piece a b = record {
  size = a.size + b.size;
  tasks = a.tasks + b.tasks;
  carried = a.carried ++ b.carried;
  from = λ p exits. a.from p exits ++ b.from (behind_piece p a) exits;
}

abbrev pub in_order : List Piece → Piece
in_order [] = of_code nothing
in_order (p ∷ ps) = then_piece p (in_order ps)

-- what statements stand in: the fields of the class, and what expressions stand in
pub record Scope : Type 0 where
  pub fields : List GraphField
  pub context : Context

-- ---- accesses

abbrev pub name_in : Option GraphField → List ℕ
name_in None = []
name_in (Some field) = field.name

abbrev pub field_name : Scope → ℕ → List ℕ
field_name scope n = name_in (slice_get scope.fields n)

abbrev pub signature_in : Option GraphField → Method → Option Signature
signature_in None m = None
signature_in (Some field) m = signature field.class m

abbrev pub signature_of : Scope → ℕ → Method → Option Signature
signature_of scope n m = signature_in (slice_get scope.fields n) m

abbrev pub result_of : Option Signature → ValueType
result_of None = type.Void
result_of (Some sig) = sig.result

abbrev pub popped : ValueType → List Instr
popped type.Void = []
popped t = instr.Pop ∷ []

abbrev pub targeted : Target → ValueType → List Instr
targeted target.Dropped t = popped t
targeted (target.Variable v) t = instr.Store v ∷ []
targeted target.Returned t = instr.Return ∷ []

abbrev pub access : Scope → Access → Code
access scope a =
    followed_by (codes_of scope.context a.args)
    (plain (instr.Access (field_name scope a.field) a.method ∷ targeted a.target (result_of (signature_of scope a.field a.method))))

-- ---- marks

abbrev pub key_code : Scope → Option Expression → Code
key_code scope None = nothing
key_code scope (Some key) = code_of scope.context key

-- the cut, and behind it the block
abbrev pub cut : Piece
cut = record { size = 2; tasks = 1; carried = []; from = λ p exits. instr.Turn ∷ instr.Cut p.task ∷ [] }

abbrev pub marked : Scope → Mark → Piece → Piece
marked scope mark body = then_piece (of_code (key_code scope mark.key)) (then_piece cut body)

-- Each argument is carried to the visits by a variable of its own.
abbrev pub stored_from : Context → List Expression → ℕ → Code
stored_from c [] v = nothing
stored_from c (x ∷ xs) v = followed_by (behind (code_of c x) (instr.Store v)) (stored_from c xs (suc v))

abbrev pub stored : Context → List Expression → Piece
stored c xs = record { size = (stored_from c xs 0).size; tasks = 0; carried = []; from = λ p exits. (stored_from c xs p.variable).from p.at }

abbrev pub var_type : ValueType → List VarType
var_type type.Int = var.Int ∷ []
var_type type.Long = var.Long ∷ []
var_type type.Boolean = var.Boolean ∷ []
var_type type.Vector = var.Vector ∷ []
var_type type.Void = []

abbrev pub arguments_of : Option Signature → List ValueType
arguments_of None = []
arguments_of (Some sig) = sig.arguments

-- The visit loads the arguments, accesses its instance, and brings its part to the join, which is the next task.
abbrev pub visit : Scope → Gather → Piece
visit scope g = record {
  size = length g.args + 2;
  tasks = 1;
  carried = flat_map var_type (arguments_of (signature_of scope g.field g.method));
  from = λ p exits. map instr.Load (range_with_len p.variable (length g.args)) ++ (instr.Access (field_name scope g.field) g.method ∷ instr.Part p.task ∷ []);
}

abbrev pub gather : Scope → Gather → Piece
gather scope g = then_piece (stored scope.context g.args) (then_piece cut (visit scope g))

-- ---- control

-- a piece behind a test, and where it goes if that is false: so far behind the piece
abbrev pub guarded : ℕ → Piece → Piece
guarded over body = record {
  size = body.size + 1;
  tasks = body.tasks;
  carried = body.carried;
  from = λ p exits. instr.IfFalse (p.at + 1 + body.size + over) ∷ body.from (moved 1 p) exits;
}

-- a piece behind a jump over it
abbrev pub jumped_over : Piece → Piece
jumped_over body = record {
  size = body.size + 1;
  tasks = body.tasks;
  carried = body.carried;
  from = λ p exits. instr.Jump (p.at + 1 + body.size) ∷ body.from (moved 1 p) exits;
}

abbrev pub branches : Code → Piece → Option Piece → Piece
branches test first None = then_piece (of_code test) (guarded 0 first)
branches test first (Some second) = then_piece (of_code test) (then_piece (guarded 1 first) (jumped_over second))

-- the condition of a loop, which leaves it where it is false
abbrev pub tested : Context → Option Expression → Piece
tested c None = of_code nothing
tested c (Some x) = record { size = (code_of c x).size + 1; tasks = 0; carried = []; from = λ p exits. (behind (code_of c x) (instr.IfFalse exits.break_to)).from p.at }

-- the test, a turn, the body, the update, and the way back
abbrev pub pass : Context → Option Expression → List Piece → Piece → ℕ → Piece
pass c test update body again =
    in_order (tested c test ∷ of_instructions (instr.Turn ∷ []) ∷ body ∷ in_order update ∷ of_instructions (instr.Jump again ∷ []) ∷ [])

-- `continue` goes to the update, where there is one (JLS 14.16)
abbrev pub next_pass : ℕ → ℕ → List Piece → ℕ
next_pass again behind [] = again
next_pass again behind (u ∷ us) = behind

abbrev pub passes : Context → Option Expression → List Piece → Piece → Piece
passes c test update body = record {
  size = (pass c test update body 0).size;
  tasks = (pass c test update body 0).tasks;
  carried = (pass c test update body 0).carried;
  from = λ p exits. (pass c test update body p.at).from p (record {
    break_to = p.at + (pass c test update body 0).size;
    continue_to = next_pass p.at (p.at + (tested c test).size + 1 + body.size) update;
  });
}

abbrev pub looped : Context → List Piece → Option Expression → List Piece → Piece → Piece
looped c start test update body = then_piece (in_order start) (passes c test update body)

abbrev pub jump_to : (Exits → ℕ) → Piece
jump_to exit = record { size = 1; tasks = 0; carried = []; from = λ p exits. instr.Jump (exit exits) ∷ [] }

abbrev pub returned : Context → Option Expression → Code
returned c None = plain (instr.ReturnVoid ∷ [])
returned c (Some x) = behind (code_of c x) instr.Return

-- what is dropped of a value
abbrev pub dropped : Option ValueType → List Instr
dropped None = []
dropped (Some t) = popped t

-- ---- statements

abbrev pub piece_step : Scope → Statement-F Piece → Piece
piece_step scope (s.Assign v x) = of_code (behind (code_of scope.context x) (instr.Store v))
piece_step scope (s.SetElement v at x) =
    of_code (behind (followed_by (code_of scope.context at) (code_of scope.context x)) (instr.VectorSet v))
piece_step scope (s.Evaluate x) = of_code (followed_by (code_of scope.context x) (plain (dropped (type_of scope.context x))))
piece_step scope (s.Access a) = of_code (access scope a)
piece_step scope (s.Gather g) = gather scope g
piece_step scope (s.Marked mark body) = marked scope mark body
piece_step scope (s.Opened body) = body
piece_step scope (s.Block items) = in_order items
piece_step scope (s.If test first second) = branches (code_of scope.context test) first second
piece_step scope (s.Loop start test update body) = looped scope.context start test update body
piece_step scope s.Break = jump_to (λ exits. exits.break_to)
piece_step scope s.Continue = jump_to (λ exits. exits.continue_to)
piece_step scope (s.Return x) = of_code (returned scope.context x)

abbrev pub piece_of : Scope → Statement → Piece
piece_of scope = fold-Statement Piece (piece_step scope)

abbrev pub pieces_of : Scope → List Statement → Piece
pieces_of scope ss = in_order (map (piece_of scope) ss)
