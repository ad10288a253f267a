-- The site of an access is the one of its field and its key as it is written.
use Rattle.std.proofs.Common.{◌≡◌, ℕ, true, false, List, [], ◌∷◌, sym, ◌∙◌, ap}
use Rattle.sdg_base.specs.declared.operator.BinOp.{BinOp}
use Rattle.sdg_base.specs.declared.operator.BinOp.TheVariants as bin
use Rattle.java_tree.specs.declared.tree.Expr.{Expr, fold-roll-Expr}
use Rattle.java_tree.specs.declared.tree.Expr.TheVariants as e
use Rattle.java_tree.specs.declared.tree.CallForm.TheOpen as layer
use Rattle.early_forms.specs.declared.straight.Atom.{Atom}
use Rattle.early_forms.specs.declared.straight.Atom.TheVariants.{Literal, Variable}
use Rattle.early_forms.specs.declared.straight.Sum.{Sum}
use Rattle.early_forms.specs.Trees.{atom_tree, chain, sum_tree}
use Rattle.early_source.specs.Sites.{Key, LiteralKey, VariableKey, Compound, Site, key_of, key_step}
use Rattle.early_plain.specs.Keys.{atom_key, chain_key, written_site}

key_of-Number : (n : ℕ) → key_of (e.Number n true false) ≡ LiteralKey n
key_of-Number n = ap key_of (sym (e.rolls-Number n true false)) ∙ fold-roll-Expr (Unit {0}) Key (Unit {0}) (λ _. tt) key_step (λ _. tt) (layer.Number n true false)

key_of-Name : (name : List ℕ) → key_of (e.Name name) ≡ VariableKey name
key_of-Name name = ap key_of (sym (e.rolls-Name name)) ∙ fold-roll-Expr (Unit {0}) Key (Unit {0}) (λ _. tt) key_step (λ _. tt) (layer.Name name)

key_of-Binary : (op : BinOp) (left right : Expr) → key_of (e.Binary op left right) ≡ Compound
key_of-Binary op left right =
    ap key_of (sym (e.rolls-Binary op left right)) ∙ fold-roll-Expr (Unit {0}) Key (Unit {0}) (λ _. tt) key_step (λ _. tt) (layer.Binary op left right)

-- behind an operator
key_of-more : (op : BinOp) (left right : Expr) (atoms : List Atom) → key_of (chain (e.Binary op left right) atoms) ≡ Compound
key_of-more op left right [] = key_of-Binary op left right
key_of-more op left right (atom ∷ atoms) = key_of-more bin.Add (e.Binary op left right) (atom_tree atom) atoms

key_of-atom_tree : (atom : Atom) → key_of (atom_tree atom) ≡ atom_key atom
key_of-atom_tree (Literal n) = key_of-Number n
key_of-atom_tree (Variable name) = key_of-Name name

key_of-chain : (first : Atom) (others : List Atom) → key_of (chain (atom_tree first) others) ≡ chain_key first others
key_of-chain first [] = key_of-atom_tree first
key_of-chain first (atom ∷ atoms) = key_of-more bin.Add (atom_tree first) (atom_tree atom) atoms

pub site-written : (field : List ℕ) (key : Sum) → ◌≡◌ {A = Site} (record { field = field; key = key_of (sum_tree key) }) (written_site field key)
site-written field key = ap (λ (k : Key). record { field = field; key = k }) (key_of-chain key.first key.others)
