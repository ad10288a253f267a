-- Which statement the first tokens begin (JLS 14.5).
use Rattle.java_tree.specs.declared.token.Kind.TheVariants as k
use Rattle.java_tree.specs.declared.token.Reserved.{Reserved}
use Rattle.java_tree.specs.declared.token.Reserved.TheVariants as word
use Rattle.java_tree.specs.declared.token.Symbol.{Symbol}
use Rattle.java_tree.specs.declared.token.Symbol.TheVariants as symbol
use Rattle.java_tree.specs.declared.tree.AssignOp.{AssignOp}
use Rattle.java_tree.specs.declared.tree.AssignOp.TheVariants as assigned
use Rattle.java_tree.specs.Tokens.{Kinds}
use Rattle.std.specs.Prelude.{◌∷◌, if◌then◌else◌, Option, Some, None}
use denote.Enum.Bare.{sameb}
use Rattle.java_tree.specs.contracts.token.Reserved.{the_type as reserved}
use Rattle.java_parser.specs.declared.forms.SimpleForm.{SimpleForm}
use Rattle.java_parser.specs.declared.forms.SimpleForm.TheVariants as simple
use Rattle.java_parser.specs.declared.forms.StatementForm.{StatementForm}
use Rattle.java_parser.specs.declared.forms.StatementForm.TheVariants as statement

-- which of the statements that are expressions the first token begins, and which goes on behind a name
abbrev pub form_before : Symbol → SimpleForm
form_before symbol.PlusPlus = simple.PreIncrement
form_before symbol.MinusMinus = simple.PreDecrement
form_before symbol.At = simple.GlobalCall
form_before _ = simple.Call

abbrev pub assignment_of : Symbol → Option AssignOp
assignment_of symbol.Assign = Some assigned.Assign
assignment_of symbol.PlusAssign = Some assigned.Add
assignment_of symbol.MinusAssign = Some assigned.Sub
assignment_of symbol.StarAssign = Some assigned.Mul
assignment_of symbol.SlashAssign = Some assigned.Div
assignment_of symbol.PercentAssign = Some assigned.Rem
assignment_of symbol.AmpersandAssign = Some assigned.And
assignment_of symbol.BarAssign = Some assigned.Or
assignment_of symbol.CaretAssign = Some assigned.Xor
assignment_of symbol.ShiftLeftAssign = Some assigned.Shl
assignment_of symbol.ShiftRightAssign = Some assigned.Shr
assignment_of symbol.ShiftRightUnsignedAssign = Some assigned.UShr
assignment_of _ = None

abbrev pub form_assigned : Option AssignOp → SimpleForm
form_assigned (Some op) = simple.Assign op
form_assigned None = simple.Call

abbrev pub form_behind : Symbol → SimpleForm
form_behind symbol.PlusPlus = simple.PostIncrement
form_behind symbol.MinusMinus = simple.PostDecrement
form_behind other = form_assigned (assignment_of other)

unfoldable pub simple_form : Kinds → SimpleForm
simple_form (k.Symbol s ∷ rest) = form_before s
simple_form (k.Identifier name ∷ k.Symbol s ∷ rest) = form_behind s
simple_form _ = simple.Call

-- which statement the first token begins

abbrev pub reserved_form : Reserved → StatementForm
reserved_form w =
    if sameb reserved w word.If then statement.If
    else if sameb reserved w word.While then statement.While
    else if sameb reserved w word.For then statement.For
    else if sameb reserved w word.Break then statement.Break
    else if sameb reserved w word.Continue then statement.Continue
    else if sameb reserved w word.Return then statement.Return
    else statement.Simple

abbrev pub symbol_form : Symbol → StatementForm
symbol_form symbol.OpenBrace = statement.Block
symbol_form symbol.Semicolon = statement.Empty
symbol_form _ = statement.Simple

unfoldable pub statement_form : Kinds → StatementForm
statement_form (k.Reserved w ∷ rest) = reserved_form w
statement_form (k.Symbol s ∷ rest) = symbol_form s
statement_form _ = statement.Simple
