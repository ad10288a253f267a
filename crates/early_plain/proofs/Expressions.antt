-- The value of each expression that a sum is written with.
use Rattle.std.proofs.Common.{◌≡◌, ℕ, Bool, List, [], ◌∷◌, Option, refl, sym, ◌∙◌, ap}
use Rattle.sdg_base.specs.declared.val.Val.{Val}
use Rattle.sdg_base.specs.declared.operator.BinOp.{BinOp}
use Rattle.sdg_base.specs.declared.operator.BinOp.TheVariants as bin
use Rattle.java_tree.specs.declared.tree.Expr.{Expr, fold-roll-Expr}
use Rattle.java_tree.specs.declared.tree.Expr.TheVariants as e
use Rattle.java_tree.specs.declared.tree.CallForm.TheOpen as layer
use Rattle.early_forms.specs.declared.straight.Atom.{Atom}
use Rattle.early_forms.specs.Trees.{atom_tree, chain}
use Rattle.early_source.specs.Variables.{Variables, named}
use Rattle.early_source.specs.Expressions.{Meaning, value_of, literal, sum, applied, call_step, expr_step, value_step}

pub value_of-Number : (digits : ℕ) (decimal long : Bool) (variables : Variables) → value_of (e.Number digits decimal long) variables ≡ literal digits decimal long
value_of-Number digits decimal long variables =
    ap (λ x. value_of x variables) (sym (e.rolls-Number digits decimal long))
    ∙ ap (λ (m : Meaning). m variables) (fold-roll-Expr (Unit {0}) Meaning Meaning call_step expr_step value_step (layer.Number digits decimal long))

pub value_of-Name : (name : List ℕ) (variables : Variables) → value_of (e.Name name) variables ≡ named name variables
value_of-Name name variables =
    ap (λ x. value_of x variables) (sym (e.rolls-Name name))
    ∙ ap (λ (m : Meaning). m variables) (fold-roll-Expr (Unit {0}) Meaning Meaning call_step expr_step value_step (layer.Name name))

value_of-Binary : (op : BinOp) (left right : Expr) (variables : Variables)
    → value_of (e.Binary op left right) variables ≡ applied op (value_of left variables) (value_of right variables)
value_of-Binary op left right variables =
    ap (λ x. value_of x variables) (sym (e.rolls-Binary op left right))
    ∙ ap (λ (m : Meaning). m variables) (fold-roll-Expr (Unit {0}) Meaning Meaning call_step expr_step value_step (layer.Binary op left right))

-- what is added to a value by these atoms
abbrev pub added : Variables → Option Val → List Atom → Option Val
added variables so_far [] = so_far
added variables so_far (atom ∷ atoms) = added variables (sum so_far (value_of (atom_tree atom) variables)) atoms

pub value_of-chain : (left : Expr) (atoms : List Atom) (variables : Variables) → value_of (chain left atoms) variables ≡ added variables (value_of left variables) atoms
value_of-chain left [] variables = refl
value_of-chain left (atom ∷ atoms) variables =
    value_of-chain (e.Binary bin.Add left (atom_tree atom)) atoms variables
    ∙ ap (λ o. added variables o atoms) (value_of-Binary bin.Add left (atom_tree atom) variables)
