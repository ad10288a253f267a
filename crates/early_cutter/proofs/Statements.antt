-- The statements of the straight form: what accesses them, and what each does to a call of the source.
use Rattle.std.proofs.Common.{◌≡◌, refl, ℕ, zero, suc, Bool, ◌||◌, true, false, if◌then◌else◌, List, [], ◌∷◌, map, Option, Some, None, codes, sym, ap, ◌∙◌, Contains, arith}
use Rattle.std.specs.Str.{bytes_eq}
use Rattle.std.specs.List.{list_any}
use Rattle.std.proofs.lemmas.Slice.Eq.{bytes_eq-Decides}
use Rattle.sdg_base.specs.declared.val.Val.{Val}
use Rattle.sdg_base.specs.declared.operator.BinOp.{BinOp}
use Rattle.sdg_base.specs.declared.operator.BinOp.TheVariants as bin
use Rattle.java_tree.specs.declared.tree.TypeName.TheVariants as type_name
use Rattle.java_tree.specs.declared.tree.Local.{Local}
use Rattle.java_tree.specs.declared.tree.Value.{Value}
use Rattle.java_tree.specs.declared.tree.Expr.{Expr, out-Expr}
use Rattle.java_tree.specs.declared.tree.Expr.TheVariants as e
use Rattle.java_tree.specs.declared.tree.CallForm.{out-CallForm}
use Rattle.java_tree.specs.declared.tree.CallForm.TheVariants as call
use Rattle.java_tree.specs.declared.tree.Simple.TheVariants as simple
use Rattle.java_tree.specs.declared.tree.Stmt.TheVariants as stmt
use Rattle.java_tree.specs.declared.tree.BlockItem.{out-BlockItem}
use Rattle.java_tree.specs.declared.tree.BlockItem.TheVariants as item
use Rattle.early_forms.specs.declared.straight.Atom.{Atom}
use Rattle.early_forms.specs.declared.straight.Atom.TheVariants.{Literal, Variable}
use Rattle.early_forms.specs.declared.straight.Sum.{Sum}
use Rattle.early_forms.specs.Trees.{atom_tree, chain, sum_tree, plain, access, got, return_value, long_local, put_statement}
use Rattle.early_source.specs.Variables.{Variables, Tables}
use Rattle.early_source.specs.Expressions.{as_long}
use Rattle.early_source.specs.Sites.{Access, Site, access_in, expr_access, access_of, statement_access, held_access, site_of}
use Rattle.early_source.specs.Blocks.{Next, finish, finish_statement, declared, ended}
use Rattle.early_plain.specs.Keys.{written_site}
use Rattle.early_plain.proofs.SitesOfTrees.{site-written}

-- an access of the field, with these arguments
abbrev pub made : List ℕ → List ℕ → List Expr → Access
made field method args = record { field = field; method = method; args = map plain args }

-- the declaration of a local
abbrev pub local_of : List ℕ → Value → Local
local_of name v = record { is_partial = false; type_name = type_name.Long; name = name; value = Some v }

-- ---- accesses

any_later : (field x : List ℕ) (xs : List (List ℕ)) (b : Bool) → bytes_eq field x ≡ b → Contains (x ∷ xs) field → (Contains xs field → list_any (bytes_eq field) xs ≡ true)
    → (b || list_any (bytes_eq field) xs) ≡ true
any_later field x xs true at contains later = refl
any_later field x xs false at (zero, within, is) later = let t = (bytes_eq-Decides field x).1 (sym is) in absurd (cc)
any_later field x xs false at (suc k, within, is) later = later (k, omega arith, is)

any_field : (field : List ℕ) (fields : List (List ℕ)) → Contains fields field → list_any (bytes_eq field) fields ≡ true
any_field field [] (k, within, is) = absurd (omega arith)
any_field field (x ∷ xs) contains = any_later field x xs (bytes_eq field x) refl contains (any_field field xs)

access_in-access : (fields : List (List ℕ)) (field method : List ℕ) (args : List Expr) → Contains fields field
    → access_in fields (out-CallForm (access field method args)) ≡ Some (made field method args)
access_in-access fields field method args contains =
    ap (access_in fields) (call.outs-Of field method (map plain args))
    ∙ ap (λ (b : Bool). if b then Some (made field method args) else None) (any_field field fields contains)

-- a call of a method of a field as a value
held_access-call : (fields : List (List ℕ)) (field method : List ℕ) (args : List Expr) → Contains fields field
    → held_access fields (Some (plain (e.Call (access field method args)))) ≡ Some (made field method args)
held_access-call fields field method args contains =
    ap (expr_access fields) (e.outs-Call (access field method args)) ∙ access_in-access fields field method args contains

-- as a statement
pub access_of-put : (fields : List (List ℕ)) (field : List ℕ) (key value : Sum) → Contains fields field
    → access_of fields (out-BlockItem (put_statement field key value)) ≡ Some (made field (codes "put") (sum_tree key ∷ sum_tree value ∷ []))
access_of-put fields field key value contains =
    let args = sum_tree key ∷ sum_tree value ∷ [] in
    ap (access_of fields) (item.outs-Stmt (stmt.Simple (simple.Call false (access field (codes "put") args))))
    ∙ ap (statement_access fields) (stmt.outs-Simple (simple.Call false (access field (codes "put") args)))
    ∙ access_in-access fields field (codes "put") args contains

-- as what is returned
pub access_of-return : (fields : List (List ℕ)) (field : List ℕ) (key : Sum) → Contains fields field
    → access_of fields (out-BlockItem (return_value (got field key))) ≡ Some (made field (codes "get") (sum_tree key ∷ []))
access_of-return fields field key contains =
    ap (access_of fields) (item.outs-Stmt (stmt.Return (Some (got field key))))
    ∙ ap (statement_access fields) (stmt.outs-Return (Some (got field key)))
    ∙ held_access-call fields field (codes "get") (sum_tree key ∷ []) contains

-- as the initialiser of a local
pub access_of-local : (fields : List (List ℕ)) (name field : List ℕ) (key : Sum) → Contains fields field
    → access_of fields (out-BlockItem (long_local name (got field key))) ≡ Some (made field (codes "get") (sum_tree key ∷ []))
access_of-local fields name field key contains =
    ap (access_of fields) (item.outs-Local (local_of name (got field key))) ∙ held_access-call fields field (codes "get") (sum_tree key ∷ []) contains

-- the site of an access
pub site_of-made : (field method : List ℕ) (key : Sum) (others : List Expr) → site_of (made field method (sum_tree key ∷ others)) ≡ written_site field key
site_of-made field method key others = site-written field key

-- Atoms and sums have none.
no_access-atom : (fields : List (List ℕ)) (atom : Atom) → expr_access fields (out-Expr (atom_tree atom)) ≡ None
no_access-atom fields (Literal n) = ap (expr_access fields) (e.outs-Number n true false)
no_access-atom fields (Variable name) = ap (expr_access fields) (e.outs-Name name)

no_access-more : (fields : List (List ℕ)) (op : BinOp) (left right : Expr) (atoms : List Atom) → expr_access fields (out-Expr (chain (e.Binary op left right) atoms)) ≡ None
no_access-more fields op left right [] = ap (expr_access fields) (e.outs-Binary op left right)
no_access-more fields op left right (atom ∷ atoms) = no_access-more fields bin.Add (e.Binary op left right) (atom_tree atom) atoms

no_access-chain : (fields : List (List ℕ)) (first : Atom) (others : List Atom) → expr_access fields (out-Expr (chain (atom_tree first) others)) ≡ None
no_access-chain fields first [] = no_access-atom fields first
no_access-chain fields first (atom ∷ atoms) = no_access-more fields bin.Add (atom_tree first) (atom_tree atom) atoms

pub no_access-return : (fields : List (List ℕ)) (v : Sum) → access_of fields (out-BlockItem (return_value (plain (sum_tree v)))) ≡ None
no_access-return fields v =
    ap (access_of fields) (item.outs-Stmt (stmt.Return (Some (plain (sum_tree v)))))
    ∙ ap (statement_access fields) (stmt.outs-Return (Some (plain (sum_tree v))))
    ∙ no_access-chain fields v.first v.others

pub no_access-local : (fields : List (List ℕ)) (name : List ℕ) (v : Sum) → access_of fields (out-BlockItem (long_local name (plain (sum_tree v)))) ≡ None
no_access-local fields name v = ap (access_of fields) (item.outs-Local (local_of name (plain (sum_tree v)))) ∙ no_access-chain fields v.first v.others

-- ---- the end of a statement

pub finish-local : (next : Next) (name : List ℕ) (v : Value) (site : Option Site) (w : Val) (variables : Variables) (turns : ℕ) (tables : Tables)
    → finish next (out-BlockItem (long_local name v)) site w variables turns tables ≡ declared next name site variables turns tables (as_long w)
finish-local next name v site w variables turns tables = ap (λ x. finish next x site w variables turns tables) (item.outs-Local (local_of name v))

pub finish-put : (next : Next) (field : List ℕ) (key value : Sum) (site : Option Site) (w : Val) (variables : Variables) (turns : ℕ) (tables : Tables)
    → finish next (out-BlockItem (put_statement field key value)) site w variables turns tables ≡ next site variables turns tables
finish-put next field key value site w variables turns tables =
    let c = simple.Call false (access field (codes "put") (sum_tree key ∷ sum_tree value ∷ [])) in
    ap (λ x. finish next x site w variables turns tables) (item.outs-Stmt (stmt.Simple c))
    ∙ ap (λ x. finish_statement next x site w variables turns tables) (stmt.outs-Simple c)

pub finish-return : (next : Next) (v : Value) (site : Option Site) (w : Val) (variables : Variables) (turns : ℕ) (tables : Tables)
    → finish next (out-BlockItem (return_value v)) site w variables turns tables ≡ ended tables (as_long w)
finish-return next v site w variables turns tables =
    ap (λ x. finish next x site w variables turns tables) (item.outs-Stmt (stmt.Return (Some v)))
    ∙ ap (λ x. finish_statement next x site w variables turns tables) (stmt.outs-Return (Some v))
