-- The accesses in the statements of the form, and the statements that have none.
use Rattle.std.proofs.Common.{◌≡◌, ℕ, zero, suc, Contains, sym, arith, Bool, ◌||◌, true, false, List, [], ◌∷◌, map, Some, None, if◌then◌else◌, ◌∙◌, ap, refl}
use Rattle.std.specs.List.{list_any}
use Rattle.std.specs.Str.{bytes_eq}
use Rattle.std.proofs.lemmas.Slice.Eq.{bytes_eq-Decides}
use Rattle.sdg_base.specs.declared.operator.BinOp.{BinOp}
use Rattle.sdg_base.specs.declared.operator.BinOp.TheVariants as bin
use Rattle.java_tree.specs.declared.tree.TypeName.TheVariants as type_name
use Rattle.java_tree.specs.declared.tree.Local.{Local}
use Rattle.java_tree.specs.declared.tree.Value.{Value}
use Rattle.java_tree.specs.declared.tree.Expr.{Expr, out-Expr}
use Rattle.java_tree.specs.declared.tree.Expr.TheVariants as e
use Rattle.java_tree.specs.declared.tree.CallForm.{out-CallForm}
use Rattle.java_tree.specs.declared.tree.CallForm.TheVariants as call
use Rattle.java_tree.specs.declared.tree.Simple.TheVariants as simple
use Rattle.java_tree.specs.declared.tree.Stmt.TheVariants as stmt
use Rattle.java_tree.specs.declared.tree.BlockItem.{out-BlockItem}
use Rattle.java_tree.specs.declared.tree.BlockItem.TheVariants as item
use Rattle.early_forms.specs.declared.straight.Atom.{Atom}
use Rattle.early_forms.specs.declared.straight.Atom.TheVariants.{Literal, Variable}
use Rattle.early_forms.specs.declared.straight.Sum.{Sum}
use Rattle.early_forms.specs.Trees.{atom_tree, chain, sum_tree, plain, access, return_value, long_local}
use Rattle.early_source.specs.Sites.{Access, access_in, expr_access, access_of, statement_access, held_access}

-- an access of the field, with these arguments
abbrev pub made : List ℕ → List ℕ → List Expr → Access
made field method args = record { field = field; method = method; args = map plain args }

-- the declaration of a local
abbrev pub local_of : List ℕ → Value → Local
local_of name v = record { is_partial = false; type_name = type_name.Long; name = name; value = Some v }

pub itself : (name : List ℕ) → bytes_eq name name ≡ true
itself name = (bytes_eq-Decides name name).1 refl

-- A field is among the names.
any-there : (fields : List (List ℕ)) (field : List ℕ) → Contains fields field → list_any (bytes_eq field) fields ≡ true
any-there [] field (k, l, e) = absurd (omega arith)
any-there (x ∷ fields) field (zero, l, e) = ap (λ b. b || list_any (bytes_eq field) fields) ((bytes_eq-Decides field x).1 (sym e))
any-there (x ∷ fields) field (suc k, l, e) = later (bytes_eq field x) (any-there fields field (k, omega arith, e))
  where
    later : (b : Bool) → list_any (bytes_eq field) fields ≡ true → (b || list_any (bytes_eq field) fields) ≡ true
    later true is = refl
    later false is = is

access_in-access : (fields : List (List ℕ)) (field method : List ℕ) (args : List Expr) → Contains fields field → access_in fields (out-CallForm (access field method args)) ≡ Some (made field method args)
access_in-access fields field method args there =
    ap (access_in fields) (call.outs-Of field method (map plain args))
    ∙ ap (λ (b : Bool). if b then Some (made field method args) else None) (any-there fields field there)

-- a call of a method of the field as a value
held_access-call : (fields : List (List ℕ)) (field method : List ℕ) (args : List Expr) → Contains fields field → held_access fields (Some (plain (e.Call (access field method args)))) ≡ Some (made field method args)
held_access-call fields field method args there = ap (expr_access fields) (e.outs-Call (access field method args)) ∙ access_in-access fields field method args there

-- as a statement
pub access_of-call : (fields : List (List ℕ)) (field method : List ℕ) (args : List Expr) → Contains fields field
    → access_of fields (out-BlockItem (item.Stmt (stmt.Simple (simple.Call false (access field method args))))) ≡ Some (made field method args)
access_of-call fields field method args there =
    ap (access_of fields) (item.outs-Stmt (stmt.Simple (simple.Call false (access field method args))))
    ∙ ap (statement_access fields) (stmt.outs-Simple (simple.Call false (access field method args)))
    ∙ access_in-access fields field method args there

-- as what is returned
pub access_of-return : (fields : List (List ℕ)) (field method : List ℕ) (args : List Expr) → Contains fields field
    → access_of fields (out-BlockItem (return_value (plain (e.Call (access field method args))))) ≡ Some (made field method args)
access_of-return fields field method args there =
    ap (access_of fields) (item.outs-Stmt (stmt.Return (Some (plain (e.Call (access field method args))))))
    ∙ ap (statement_access fields) (stmt.outs-Return (Some (plain (e.Call (access field method args)))))
    ∙ held_access-call fields field method args there

-- as the initialiser of a local
pub access_of-local : (fields : List (List ℕ)) (field name method : List ℕ) (args : List Expr) → Contains fields field
    → access_of fields (out-BlockItem (long_local name (plain (e.Call (access field method args))))) ≡ Some (made field method args)
access_of-local fields field name method args there = ap (access_of fields) (item.outs-Local (local_of name (plain (e.Call (access field method args))))) ∙ held_access-call fields field method args there

-- Atoms and sums have none.
no_access-atom : (fields : List (List ℕ)) (atom : Atom) → expr_access fields (out-Expr (atom_tree atom)) ≡ None
no_access-atom fields (Literal n) = ap (expr_access fields) (e.outs-Number n true false)
no_access-atom fields (Variable name) = ap (expr_access fields) (e.outs-Name name)

no_access-more : (fields : List (List ℕ)) (op : BinOp) (left right : Expr) (atoms : List Atom) → expr_access fields (out-Expr (chain (e.Binary op left right) atoms)) ≡ None
no_access-more fields op left right [] = ap (expr_access fields) (e.outs-Binary op left right)
no_access-more fields op left right (atom ∷ atoms) = no_access-more fields bin.Add (e.Binary op left right) (atom_tree atom) atoms

no_access-chain : (fields : List (List ℕ)) (first : Atom) (others : List Atom) → expr_access fields (out-Expr (chain (atom_tree first) others)) ≡ None
no_access-chain fields first [] = no_access-atom fields first
no_access-chain fields first (atom ∷ atoms) = no_access-more fields bin.Add (atom_tree first) (atom_tree atom) atoms

pub no_access-return : (fields : List (List ℕ)) (s : Sum) → access_of fields (out-BlockItem (return_value (plain (sum_tree s)))) ≡ None
no_access-return fields s =
    ap (access_of fields) (item.outs-Stmt (stmt.Return (Some (plain (sum_tree s)))))
    ∙ ap (statement_access fields) (stmt.outs-Return (Some (plain (sum_tree s))))
    ∙ no_access-chain fields s.first s.others

pub no_access-local : (fields : List (List ℕ)) (name : List ℕ) (s : Sum) → access_of fields (out-BlockItem (long_local name (plain (sum_tree s)))) ≡ None
no_access-local fields name s = ap (access_of fields) (item.outs-Local (local_of name (plain (sum_tree s)))) ∙ no_access-chain fields s.first s.others
