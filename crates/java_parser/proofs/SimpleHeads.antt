-- What the tokens of a statement that is an expression begin with.
use Rattle.std.proofs.Common.{◌≡◌, ℕ, true, false, List, ◌∷◌, ◌++◌, refl, sym, subst}
use Rattle.java_tree.specs.declared.token.Kind.TheVariants as k
use Rattle.java_tree.specs.declared.token.Symbol.{Symbol}
use Rattle.java_tree.specs.declared.token.Symbol.TheVariants as symbol
use Rattle.java_tree.specs.declared.tree.AssignOp.{AssignOp}
use Rattle.java_tree.specs.declared.tree.AssignOp.TheVariants as assigned
use Rattle.java_tree.specs.declared.tree.Simple.{Simple}
use Rattle.java_tree.specs.declared.tree.Simple.TheVariants as simple
use Rattle.java_tree.specs.declared.tree.Value.{Value}
use Rattle.java_tree.specs.declared.tree.CallForm.{CallForm, out-CallForm, roll-CallForm, roll-out-CallForm}
use Rattle.java_tree.specs.declared.tree.CallForm.TheOpen.{CallForm-F}
use Rattle.java_tree.specs.declared.tree.CallForm.TheOpen as layer
use Rattle.java_tree.specs.declared.tree.CallForm.TheFolds.{fold-roll-CallForm}
use Rattle.java_tree.specs.declared.tree.Expr.{Expr}
use Rattle.java_tree.specs.Tokens.{Kinds, assign_symbol, simple_tokens, value_tokens, call_tokens, call_step, expr_step, value_step}
use Rattle.java_parser.specs.declared.forms.SimpleForm.{SimpleForm}
use Rattle.java_parser.specs.declared.forms.SimpleForm.TheVariants as form
use Rattle.java_parser.specs.declared.forms.StatementForm.TheVariants as statement
use Rattle.java_parser.specs.Words.{same_token, begins}
use Rattle.java_parser.specs.Members.{semicolon, close_paren, behind, is_named}
use Rattle.java_parser.specs.Forms.{form_behind, simple_form, statement_form}
use Rattle.java_parser.specs.Simples.{begins_name, local_ahead}
use Rattle.java_parser.specs.Statements.{else_word, has_more}

abbrev pub form_of : Simple → SimpleForm
form_of (simple.Assign name op v) = form.Assign op
form_of (simple.PostIncrement name) = form.PostIncrement
form_of (simple.PostDecrement name) = form.PostDecrement
form_of (simple.PreIncrement name) = form.PreIncrement
form_of (simple.PreDecrement name) = form.PreDecrement
form_of (simple.Call true call) = form.GlobalCall
form_of (simple.Call false call) = form.Call

-- what the tokens of a simple statement begin with
pub record BeginsSimple (f : SimpleForm) (ks : Kinds) : Type 0 where
  pub form_is : simple_form ks ≡ f
  pub not_local : local_ahead ks ≡ false
  pub not_semicolon : begins semicolon ks ≡ false
  pub not_close : begins close_paren ks ≡ false
  pub statement_is : statement_form ks ≡ statement.Simple
  pub goes_on : has_more ks ≡ true
  pub not_else : begins else_word ks ≡ false

named_head : (s : Symbol) (name : List ℕ) (more : Kinds) → BeginsSimple (form_behind s) (k.Identifier name ∷ k.Symbol s ∷ more)
unfolding simple_form local_ahead begins_name begins same_token statement_form has_more
named_head s name more = record { form_is = refl; not_local = refl; not_semicolon = refl; not_close = refl; statement_is = refl; goes_on = refl; not_else = refl }

call_layer_begins : (x : CallForm-F CallForm Expr Value) (rest : Kinds) → BeginsSimple form.Call (call_tokens (roll-CallForm x) ++ rest)
call_layer_begins (layer.Own name args) rest =
    subst (λ (ks : Kinds). BeginsSimple form.Call (ks ++ rest)) (sym (fold-roll-CallForm Kinds Kinds Kinds call_step expr_step value_step (layer.Own name args))) (named_head symbol.OpenParen name _)
call_layer_begins (layer.Of object name args) rest =
    subst (λ (ks : Kinds). BeginsSimple form.Call (ks ++ rest)) (sym (fold-roll-CallForm Kinds Kinds Kinds call_step expr_step value_step (layer.Of object name args))) (named_head symbol.Dot object _)
call_layer_begins (layer.OfMember object at name args) rest =
    subst (λ (ks : Kinds). BeginsSimple form.Call (ks ++ rest)) (sym (fold-roll-CallForm Kinds Kinds Kinds call_step expr_step value_step (layer.OfMember object at name args))) (named_head symbol.OpenBracket object _)

call_begins : (c : CallForm) (rest : Kinds) → BeginsSimple form.Call (call_tokens c ++ rest)
call_begins c rest = subst (λ (d : CallForm). BeginsSimple form.Call (call_tokens d ++ rest)) (roll-out-CallForm c) (call_layer_begins (out-CallForm c) rest)

assign_is : (op : AssignOp) → form_behind (assign_symbol op) ≡ form.Assign op
assign_is assigned.Assign = refl
assign_is assigned.Add = refl
assign_is assigned.Sub = refl
assign_is assigned.Mul = refl
assign_is assigned.Div = refl
assign_is assigned.Rem = refl
assign_is assigned.And = refl
assign_is assigned.Or = refl
assign_is assigned.Xor = refl
assign_is assigned.Shl = refl
assign_is assigned.Shr = refl
assign_is assigned.UShr = refl

pub simple_begins : (x : Simple) (rest : Kinds) → BeginsSimple (form_of x) (simple_tokens x ++ rest)
unfolding simple_form local_ahead begins_name is_named behind begins same_token statement_form has_more
simple_begins (simple.Assign name op v) rest = subst (λ f. BeginsSimple f (k.Identifier name ∷ k.Symbol (assign_symbol op) ∷ (value_tokens v ++ rest))) (assign_is op) (named_head (assign_symbol op) name (value_tokens v ++ rest))
simple_begins (simple.PostIncrement name) rest = named_head symbol.PlusPlus name rest
simple_begins (simple.PostDecrement name) rest = named_head symbol.MinusMinus name rest
simple_begins (simple.PreIncrement name) rest = record { form_is = refl; not_local = refl; not_semicolon = refl; not_close = refl; statement_is = refl; goes_on = refl; not_else = refl }
simple_begins (simple.PreDecrement name) rest = record { form_is = refl; not_local = refl; not_semicolon = refl; not_close = refl; statement_is = refl; goes_on = refl; not_else = refl }
simple_begins (simple.Call true call) rest = record { form_is = refl; not_local = refl; not_semicolon = refl; not_close = refl; statement_is = refl; goes_on = refl; not_else = refl }
simple_begins (simple.Call false call) rest = call_begins call rest
