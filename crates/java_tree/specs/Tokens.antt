-- The tokens of a tree, in their order: the grammar of the Java profile, one equation a production, and the place of each.
use Rattle.std.specs.Prelude.{ℕ, Bool, true, false, if◌then◌else◌, List, [], ◌∷◌, ◌++◌, map, Option, Some, None, codes}
use Rattle.std.specs.List.{flat_map, zip}
use Rattle.sdg_base.specs.declared.operator.BinOp.{BinOp}
use Rattle.sdg_base.specs.declared.operator.BinOp.TheVariants as bin
use Rattle.sdg_base.specs.declared.operator.UnOp.{UnOp}
use Rattle.sdg_base.specs.declared.operator.UnOp.TheVariants as un
use Rattle.sdg_base.specs.declared.val.Num.{Num}
use Rattle.sdg_base.specs.declared.val.Num.TheVariants as num
use Rattle.java_tree.specs.declared.token.Kind.{Kind}
use Rattle.java_tree.specs.declared.token.Kind.TheVariants as k
use Rattle.java_tree.specs.declared.token.Reserved.TheVariants as word
use Rattle.java_tree.specs.declared.token.Symbol.{Symbol}
use Rattle.java_tree.specs.declared.token.Symbol.TheVariants as symbol
use Rattle.java_tree.specs.declared.token.Place.{Place}
use Rattle.java_tree.specs.declared.token.Token.{Token}
use Rattle.java_tree.specs.declared.tree.QualifiedName.{QualifiedName}
use Rattle.java_tree.specs.declared.tree.Import.{Import}
use Rattle.java_tree.specs.declared.tree.Modifier.{Modifier}
use Rattle.java_tree.specs.declared.tree.Modifier.TheVariants as modifier
use Rattle.java_tree.specs.declared.tree.FieldModifier.{FieldModifier}
use Rattle.java_tree.specs.declared.tree.FieldModifier.TheVariants as field_modifier
use Rattle.java_tree.specs.declared.tree.Class.{Class}
use Rattle.java_tree.specs.declared.tree.Member.{Member}
use Rattle.java_tree.specs.declared.tree.Member.TheVariants as member
use Rattle.java_tree.specs.declared.tree.Field.{Field}
use Rattle.java_tree.specs.declared.tree.TypeName.{TypeName}
use Rattle.java_tree.specs.declared.tree.TypeName.TheVariants as type_name
use Rattle.java_tree.specs.declared.tree.ResultType.{ResultType}
use Rattle.java_tree.specs.declared.tree.ResultType.TheVariants as result_type
use Rattle.java_tree.specs.declared.tree.Param.{Param}
use Rattle.java_tree.specs.declared.tree.Method.{Method}
use Rattle.java_tree.specs.declared.tree.Local.{Local}
use Rattle.java_tree.specs.declared.tree.AssignOp.{AssignOp}
use Rattle.java_tree.specs.declared.tree.AssignOp.TheVariants as assign
use Rattle.java_tree.specs.declared.tree.Simple.{Simple}
use Rattle.java_tree.specs.declared.tree.Simple.TheVariants as simple
use Rattle.java_tree.specs.declared.tree.ForInit.{ForInit}
use Rattle.java_tree.specs.declared.tree.ForInit.TheVariants as for_init
use Rattle.java_tree.specs.declared.tree.ForHeader.{ForHeader}
use Rattle.java_tree.specs.declared.tree.Expr.{Expr}
use Rattle.java_tree.specs.declared.tree.Value.{Value}
use Rattle.java_tree.specs.declared.tree.CallForm.{CallForm}
use Rattle.java_tree.specs.declared.tree.CallForm.TheOpen.{CallForm-F, Expr-F, Value-F}
use Rattle.java_tree.specs.declared.tree.CallForm.TheOpen as e
use Rattle.java_tree.specs.declared.tree.BlockItem.{BlockItem}
use Rattle.java_tree.specs.declared.tree.BlockItem.TheOpen.{BlockItem-F, Stmt-F}
use Rattle.java_tree.specs.declared.tree.BlockItem.TheOpen as s
use Rattle.java_tree.specs.declared.tree.BlockItem.TheFolds.{fold-BlockItem, fold-Stmt}
use Rattle.java_tree.specs.declared.tree.Stmt.{Stmt}
use Rattle.java_tree.specs.declared.tree.CallForm.TheFolds.{fold-CallForm, fold-Expr, fold-Value}

abbrev pub Kinds : Type 0
Kinds = List Kind

abbrev sym : Symbol → Kinds
sym s = k.Symbol s ∷ []

abbrev id : List ℕ → Kinds
id name = k.Identifier name ∷ []

-- each after a comma but the first
abbrev pub separated : List Kinds → Kinds
separated [] = []
separated (x ∷ xs) = x ++ flat_map (λ y. k.Symbol symbol.Comma ∷ y) xs

abbrev pub in_parentheses : Kinds → Kinds
in_parentheses x = k.Symbol symbol.OpenParen ∷ (x ++ sym symbol.CloseParen)

abbrev pub annotation : List ℕ → Kinds
annotation name = k.Symbol symbol.At ∷ k.Identifier name ∷ []

abbrev pub global : Bool → Kinds
global is_global = if is_global then annotation (codes "Global") else []

-- ---- expressions

abbrev pub operator_symbol : BinOp → Symbol
operator_symbol bin.Mul = symbol.Star
operator_symbol bin.Div = symbol.Slash
operator_symbol bin.Rem = symbol.Percent
operator_symbol bin.Add = symbol.Plus
operator_symbol bin.Sub = symbol.Minus
operator_symbol bin.Shl = symbol.ShiftLeft
operator_symbol bin.Shr = symbol.ShiftRight
operator_symbol bin.UShr = symbol.ShiftRightUnsigned
operator_symbol bin.Lt = symbol.Less
operator_symbol bin.Le = symbol.LessEqual
operator_symbol bin.Gt = symbol.Greater
operator_symbol bin.Ge = symbol.GreaterEqual
operator_symbol bin.Eq = symbol.EqualEqual
operator_symbol bin.Ne = symbol.NotEqual
operator_symbol bin.And = symbol.Ampersand
operator_symbol bin.Xor = symbol.Caret
operator_symbol bin.Or = symbol.Bar
operator_symbol bin.AndAlso = symbol.AndAnd
operator_symbol bin.OrElse = symbol.BarBar

abbrev pub unary_symbol : UnOp → Symbol
unary_symbol un.Plus = symbol.Plus
unary_symbol un.Minus = symbol.Minus
unary_symbol un.Complement = symbol.Tilde
unary_symbol un.Not = symbol.Bang

abbrev pub number_type : Num → Kinds
number_type num.Int = k.Reserved word.Int ∷ []
number_type num.Long = k.Reserved word.Long ∷ []

-- One level of an expression, with the tokens of each part in its place.
abbrev pub expr_step : Expr-F Kinds Kinds Kinds → Kinds
expr_step (e.Conditional test first second) = test ++ (k.Symbol symbol.Question ∷ (first ++ (k.Symbol symbol.Colon ∷ second)))
expr_step (e.Binary op left right) = left ++ (k.Symbol (operator_symbol op) ∷ right)
expr_step (e.Unary op operand) = k.Symbol (unary_symbol op) ∷ operand
expr_step (e.Cast to operand) = in_parentheses (number_type to) ++ operand
expr_step (e.Number digits decimal long) = k.Number digits decimal long ∷ []
expr_step (e.Bool true) = k.Reserved word.True ∷ []
expr_step (e.Bool false) = k.Reserved word.False ∷ []
expr_step (e.Paren inner) = in_parentheses inner
expr_step (e.New name size) = k.Reserved word.New ∷ k.Identifier name ∷ in_parentheses size
expr_step (e.Name name) = id name
expr_step (e.Index name at) = k.Identifier name ∷ k.Symbol symbol.OpenBracket ∷ (at ++ sym symbol.CloseBracket)
expr_step (e.Member object name) = k.Identifier object ∷ k.Symbol symbol.Dot ∷ id name
expr_step (e.Call call) = call

abbrev pub value_step : Value-F Kinds Kinds Kinds → Kinds
value_step v = global v.is_global ++ v.expr

abbrev pub call_step : CallForm-F Kinds Kinds Kinds → Kinds
call_step (e.Own name args) = k.Identifier name ∷ in_parentheses (separated args)
call_step (e.Of object name args) = k.Identifier object ∷ k.Symbol symbol.Dot ∷ k.Identifier name ∷ in_parentheses (separated args)
call_step (e.OfMember object at name args) =
    k.Identifier object ∷ k.Symbol symbol.OpenBracket ∷ (at ++ (k.Symbol symbol.CloseBracket ∷ k.Symbol symbol.Dot ∷ k.Identifier name ∷ in_parentheses (separated args)))

abbrev pub expr_tokens : Expr → Kinds
expr_tokens = fold-Expr Kinds Kinds Kinds call_step expr_step value_step

abbrev pub value_tokens : Value → Kinds
value_tokens = fold-Value Kinds Kinds Kinds call_step expr_step value_step

abbrev pub call_tokens : CallForm → Kinds
call_tokens = fold-CallForm Kinds Kinds Kinds call_step expr_step value_step

-- ---- statements

abbrev pub type_tokens : TypeName → Kinds
type_tokens type_name.Int = k.Reserved word.Int ∷ []
type_tokens type_name.Long = k.Reserved word.Long ∷ []
type_tokens type_name.Boolean = k.Reserved word.Boolean ∷ []
type_tokens (type_name.Named name) = id name

abbrev pub initialiser : Option Value → Kinds
initialiser None = []
initialiser (Some v) = k.Symbol symbol.Assign ∷ value_tokens v

abbrev pub partial : Bool → Kinds
partial is_partial = if is_partial then annotation (codes "Partial") else []

abbrev pub local_tokens : Local → Kinds
local_tokens l = partial l.is_partial ++ (type_tokens l.type_name ++ (k.Identifier l.name ∷ initialiser l.value))

abbrev pub assign_symbol : AssignOp → Symbol
assign_symbol assign.Assign = symbol.Assign
assign_symbol assign.Add = symbol.PlusAssign
assign_symbol assign.Sub = symbol.MinusAssign
assign_symbol assign.Mul = symbol.StarAssign
assign_symbol assign.Div = symbol.SlashAssign
assign_symbol assign.Rem = symbol.PercentAssign
assign_symbol assign.And = symbol.AmpersandAssign
assign_symbol assign.Or = symbol.BarAssign
assign_symbol assign.Xor = symbol.CaretAssign
assign_symbol assign.Shl = symbol.ShiftLeftAssign
assign_symbol assign.Shr = symbol.ShiftRightAssign
assign_symbol assign.UShr = symbol.ShiftRightUnsignedAssign

abbrev pub simple_tokens : Simple → Kinds
simple_tokens (simple.Assign name op v) = k.Identifier name ∷ k.Symbol (assign_symbol op) ∷ value_tokens v
simple_tokens (simple.PostIncrement name) = k.Identifier name ∷ sym symbol.PlusPlus
simple_tokens (simple.PostDecrement name) = k.Identifier name ∷ sym symbol.MinusMinus
simple_tokens (simple.PreIncrement name) = k.Symbol symbol.PlusPlus ∷ id name
simple_tokens (simple.PreDecrement name) = k.Symbol symbol.MinusMinus ∷ id name
simple_tokens (simple.Call is_global call) = global is_global ++ call_tokens call

abbrev pub init_tokens : ForInit → Kinds
init_tokens for_init.Nothing = []
init_tokens (for_init.Local l) = local_tokens l
init_tokens (for_init.Simples all) = separated (map simple_tokens all)

abbrev pub condition : Option Expr → Kinds
condition None = []
condition (Some c) = expr_tokens c

abbrev pub header_tokens : ForHeader → Kinds
header_tokens h =
    init_tokens h.init
    ++ (k.Symbol symbol.Semicolon ∷ (condition h.test ++ (k.Symbol symbol.Semicolon ∷ separated (map simple_tokens h.update))))

abbrev pub otherwise : Option Kinds → Kinds
otherwise None = []
otherwise (Some body) = k.Reserved word.Else ∷ body

abbrev pub returned : Option Value → Kinds
returned None = []
returned (Some v) = value_tokens v

abbrev pub in_braces : Kinds → Kinds
in_braces x = k.Symbol symbol.OpenBrace ∷ (x ++ sym symbol.CloseBrace)

-- One level of a statement, with the tokens of each part in its place.
abbrev pub item_step : BlockItem-F Kinds Kinds → Kinds
item_step (s.Local l) = local_tokens l ++ sym symbol.Semicolon
item_step (s.Stmt body) = body

abbrev pub statement_step : Stmt-F Kinds Kinds → Kinds
statement_step (s.Block items) = in_braces (flat_map (λ x. x) items)
statement_step s.Empty = sym symbol.Semicolon
statement_step (s.Simple x) = simple_tokens x ++ sym symbol.Semicolon
statement_step (s.If test first second) = k.Reserved word.If ∷ (in_parentheses (expr_tokens test) ++ (first ++ otherwise second))
statement_step (s.While test body) = k.Reserved word.While ∷ (in_parentheses (expr_tokens test) ++ body)
statement_step (s.For header body) = k.Reserved word.For ∷ (in_parentheses (header_tokens header) ++ body)
statement_step s.Break = k.Reserved word.Break ∷ sym symbol.Semicolon
statement_step s.Continue = k.Reserved word.Continue ∷ sym symbol.Semicolon
statement_step (s.Return v) = k.Reserved word.Return ∷ (returned v ++ sym symbol.Semicolon)

abbrev pub item_tokens : BlockItem → Kinds
item_tokens = fold-BlockItem Kinds Kinds item_step statement_step

abbrev pub statement_tokens : Stmt → Kinds
statement_tokens = fold-Stmt Kinds Kinds item_step statement_step

-- ---- members

abbrev pub qualified : QualifiedName → Kinds
qualified q = k.Identifier q.first ∷ flat_map (λ name. k.Symbol symbol.Dot ∷ id name) q.others

abbrev pub package_tokens : Option QualifiedName → Kinds
package_tokens None = []
package_tokens (Some q) = k.Reserved word.Package ∷ (qualified q ++ sym symbol.Semicolon)

abbrev pub import_tokens : Import → Kinds
import_tokens i =
    k.Reserved word.Import
    ∷ ((if i.is_static then k.Reserved word.Static ∷ [] else [])
    ++ (qualified i.name ++ ((if i.is_on_demand then k.Symbol symbol.Dot ∷ sym symbol.Star else []) ++ sym symbol.Semicolon)))

abbrev pub modifier_tokens : Modifier → Kinds
modifier_tokens modifier.Public = k.Reserved word.Public ∷ []
modifier_tokens modifier.Private = k.Reserved word.Private ∷ []
modifier_tokens modifier.Static = k.Reserved word.Static ∷ []

abbrev pub field_modifier_tokens : FieldModifier → Kinds
field_modifier_tokens field_modifier.Partitioned = annotation (codes "Partitioned")
field_modifier_tokens field_modifier.Partial = annotation (codes "Partial")
field_modifier_tokens field_modifier.Public = k.Reserved word.Public ∷ []
field_modifier_tokens field_modifier.Private = k.Reserved word.Private ∷ []

abbrev pub field_tokens : Field → Kinds
field_tokens f =
    flat_map field_modifier_tokens f.modifiers
    ++ (k.Identifier f.type_name ∷ k.Identifier f.name ∷ k.Symbol symbol.Assign ∷ k.Reserved word.New ∷ k.Identifier f.maker
    ∷ k.Symbol symbol.OpenParen ∷ k.Symbol symbol.CloseParen ∷ sym symbol.Semicolon)

abbrev pub result_tokens : ResultType → Kinds
result_tokens result_type.Void = k.Reserved word.Void ∷ []
result_tokens (result_type.Type t) = type_tokens t

abbrev pub param_tokens : Param → Kinds
param_tokens p =
    (if p.is_collection then annotation (codes "Collection") else [])
    ++ (type_tokens p.type_name ++ ((if p.is_array then k.Symbol symbol.OpenBracket ∷ sym symbol.CloseBracket else []) ++ id p.name))

abbrev pub method_tokens : Method → Kinds
method_tokens m =
    flat_map modifier_tokens m.modifiers
    ++ (result_tokens m.result ++ (k.Identifier m.name ∷ (in_parentheses (separated (map param_tokens m.params)) ++ in_braces (flat_map item_tokens m.body))))

abbrev pub member_tokens : Member → Kinds
member_tokens (member.Field f) = field_tokens f
member_tokens (member.Method m) = method_tokens m

abbrev pub kinds_of : Class → Kinds
kinds_of c =
    package_tokens c.package
    ++ (flat_map import_tokens c.imports
    ++ (flat_map modifier_tokens c.modifiers ++ (k.Reserved word.Class ∷ k.Identifier c.name ∷ in_braces (flat_map member_tokens c.members))))

-- ---- places

abbrev pub token_at : Kind × Place → Token
token_at at = record { kind = at.0; place = at.1 }

-- Each kind stands at the place of its number.
abbrev pub tokens_of : Class → List Token
tokens_of c = map token_at (zip (kinds_of c) c.places)
