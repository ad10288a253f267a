-- Parts of parts, through the layers of a tree.
use Rattle.std.proofs.Common.{◌≡◌, ◌≢◌, ℕ, List, [], ◌∷◌, Option, Some, None, false, codes, sym, ap, ◌∙◌}
use Rattle.java_tree.specs.declared.tree.Value.{Value, out-Value}
use Rattle.java_tree.specs.declared.tree.CallForm.{CallForm, out-CallForm}
use Rattle.java_tree.specs.declared.tree.CallForm.TheVariants as call
use Rattle.java_tree.specs.declared.tree.Expr.{out-Expr}
use Rattle.java_tree.specs.declared.tree.Expr.TheVariants as e
use Rattle.java_tree.specs.declared.tree.BlockItem.{BlockItem}
use Rattle.java_tree.specs.declared.tree.BlockItem.TheVariants as item
use Rattle.java_tree.specs.declared.tree.Stmt.TheVariants as stmt
use Rattle.java_tree.specs.declared.tree.Simple.TheVariants as simple
use Rattle.early_forms.specs.declared.straight.Sum.{Sum}
use Rattle.early_forms.specs.declared.straight.Statement.{Statement}
use Rattle.early_forms.specs.declared.straight.Statement.TheVariants.{Get, Set, Put}
use Rattle.early_forms.specs.declared.straight.Ending.{Ending}
use Rattle.early_forms.specs.declared.straight.Ending.TheVariants as ending
use Rattle.early_forms.specs.Trees.{sum_tree, plain, got, put_statement, return_value, long_local, statement_tree, ending_tree}
use Rattle.early_forms.specs.Parts.{PartsOf}

abbrev pub IsInjective : {P T : Type 0} → (P → T) → Type 0
IsInjective {P} f = (a b : P) → f a ≡ f b → a ≡ b

pub parts_within :
    {P Q T : Type 0} (f : Q → T) (g : P → Q) → IsInjective f →
    (tree : T) (inner : Q) (found : Option P) → tree ≡ f inner → PartsOf g inner found → PartsOf (λ p. f (g p)) tree found
parts_within f g injective tree inner None is refused = λ p same. refused p (injective inner (g p) (sym is ∙ same))
parts_within f g injective tree inner (Some p) is found = is ∙ ap f found

pub parts_none :
    {P Q T : Type 0} (f : Q → T) (g : P → Q) (tree : T) → ((q : Q) → tree ≢ f q) → (p : P) → tree ≢ f (g p)
parts_none f g tree refused p same = refused (g p) same

pub plain_injective : IsInjective plain
plain_injective a b same = let h = ap (λ v. (out-Value v).expr) same in cc

pub call_injective : (method : List ℕ) (f g : List ℕ) (a b : List Value) → call.Of f method a ≡ call.Of g method b → (f ≡ g) × (a ≡ b)
call_injective method f g a b same =
    let h = ap out-CallForm same in
    let first = call.outs-Of f method a in
    let second = call.outs-Of g method b in
    (cc, cc)

-- a call of a method of another name
pub of_another :
    (form : CallForm) (field name method : List ℕ) (arguments : List Value) → form ≡ call.Of field name arguments → name ≢ method →
    (g : List ℕ) (b : List Value) → form ≢ call.Of g method b
of_another form field name method arguments is other g b same =
    let h = ap out-CallForm (sym is ∙ same) in
    let first = call.outs-Of field name arguments in
    let second = call.outs-Of g method b in
    other (cc)

-- a call as an expression
pub called_injective : (a b : CallForm) → e.Call a ≡ e.Call b → a ≡ b
called_injective a b same =
    let h = ap out-Expr same in
    let first = e.outs-Call a in
    let second = e.outs-Call b in
    cc

-- no field and key of a `get`, where one of its layers has none
pub got_none_call :
    (value : Value) → ((form : CallForm) → value ≢ plain (e.Call form)) → (p : List ℕ × Sum) → value ≢ got p.0 p.1
got_none_call value refused p same = refused (call.Of p.0 (codes "get") (plain (sum_tree p.1) ∷ [])) same

pub got_none_access :
    (value : Value) (form : CallForm) → value ≡ plain (e.Call form) →
    ((field : List ℕ) (arguments : List Value) → form ≢ call.Of field (codes "get") arguments) → (p : List ℕ × Sum) → value ≢ got p.0 p.1
got_none_access value form outer refused p same =
    let other = call.Of p.0 (codes "get") (plain (sum_tree p.1) ∷ []) in
    let forms = called_injective form other (plain_injective (e.Call form) (e.Call other) (sym outer ∙ same)) in
    refused p.0 (plain (sum_tree p.1) ∷ []) forms

pub got_none_key :
    (value : Value) (form : CallForm) (field : List ℕ) (arguments : List Value) → value ≡ plain (e.Call form) →
    form ≡ call.Of field (codes "get") arguments → ((s : Sum) → arguments ≢ plain (sum_tree s) ∷ []) → (p : List ℕ × Sum) → value ≢ got p.0 p.1
got_none_key value form field arguments outer inner refused p same =
    let other = call.Of p.0 (codes "get") (plain (sum_tree p.1) ∷ []) in
    let forms = called_injective form other (plain_injective (e.Call form) (e.Call other) (sym outer ∙ same)) in
    refused p.1 (call_injective (codes "get") field p.0 arguments (plain (sum_tree p.1) ∷ []) (sym inner ∙ forms)).1

-- no field, key and value of a `put`, likewise
put_form :
    (tree : BlockItem) (form other : CallForm) → tree ≡ item.Stmt (stmt.Simple (simple.Call false form)) →
    tree ≡ item.Stmt (stmt.Simple (simple.Call false other)) → form ≡ other
put_form tree form other outer same = cc

pub put_none_access :
    (tree : BlockItem) (form : CallForm) → tree ≡ item.Stmt (stmt.Simple (simple.Call false form)) →
    ((field : List ℕ) (arguments : List Value) → form ≢ call.Of field (codes "put") arguments) →
    (p : List ℕ × Sum × Sum) → tree ≢ put_statement p.0 p.1 p.2
put_none_access tree form outer refused p same =
    refused p.0 (plain (sum_tree p.1) ∷ plain (sum_tree p.2) ∷ [])
    (put_form tree form (call.Of p.0 (codes "put") (plain (sum_tree p.1) ∷ plain (sum_tree p.2) ∷ [])) outer same)

pub put_none_sums :
    (tree : BlockItem) (form : CallForm) (field : List ℕ) (arguments : List Value) → tree ≡ item.Stmt (stmt.Simple (simple.Call false form)) →
    form ≡ call.Of field (codes "put") arguments → ((q : Sum × Sum) → arguments ≢ plain (sum_tree q.0) ∷ plain (sum_tree q.1) ∷ []) →
    (p : List ℕ × Sum × Sum) → tree ≢ put_statement p.0 p.1 p.2
put_none_sums tree form field arguments outer inner refused p same =
    let others = plain (sum_tree p.1) ∷ plain (sum_tree p.2) ∷ [] in
    let forms = put_form tree form (call.Of p.0 (codes "put") others) outer same in
    refused (p.1, p.2) (call_injective (codes "put") field p.0 arguments others (sym inner ∙ forms)).1

abbrev pub local_name : BlockItem → List ℕ
local_name (item.Local l) = l.name
local_name _ = []

abbrev pub local_value : BlockItem → Option Value
local_value (item.Local l) = l.value
local_value _ = None

pub local_injective : (n m : List ℕ) (v w : Value) → long_local n v ≡ long_local m w → (n ≡ m) × (v ≡ w)
local_injective n m v w same = (ap local_name same, (let h = ap local_value same in cc))

-- a declaration of a value that is neither a `get` nor a sum is no statement of the form
pub declaration_none :
    (local : List ℕ) (value : Value) →
    ((p : List ℕ × Sum) → value ≢ got p.0 p.1) → ((s : Sum) → value ≢ plain (sum_tree s)) →
    (s : Statement) → long_local local value ≢ statement_tree s
declaration_none local value no_get no_sum (Get l f k) same = no_get (f, k) (local_injective local l value (got f k) same).1
declaration_none local value no_get no_sum (Set l v) same = no_sum v (local_injective local l value (plain (sum_tree v)) same).1
declaration_none local value no_get no_sum (Put f k v) same = cc

-- nor is what is neither a declaration nor a `put`
pub statement_none :
    (tree : BlockItem) →
    ((name : List ℕ) (value : Value) → tree ≢ long_local name value) → ((p : List ℕ × Sum × Sum) → tree ≢ put_statement p.0 p.1 p.2) →
    (s : Statement) → tree ≢ statement_tree s
statement_none tree no_local no_put (Get l f k) same = no_local l (got f k) same
statement_none tree no_local no_put (Set l v) same = no_local l (plain (sum_tree v)) same
statement_none tree no_local no_put (Put f k v) same = no_put (f, k, v) same

-- what is no `return` ends no body
pub ending_none_return : (tree : BlockItem) → ((v : Value) → tree ≢ return_value v) → (end : Ending) → tree ∷ [] ≢ ending_tree end
ending_none_return tree refused ending.Nothing same = cc
ending_none_return tree refused (ending.Get f k) same = refused (got f k) (cc)
ending_none_return tree refused (ending.Sum v) same = refused (plain (sum_tree v)) (cc)

returned : (v w : Value) → return_value v ∷ [] ≡ return_value w ∷ [] → v ≡ w
returned v w same = cc

pub ending_none_value :
    (tree : BlockItem) (value : Value) → tree ≡ return_value value →
    ((p : List ℕ × Sum) → value ≢ got p.0 p.1) → ((s : Sum) → value ≢ plain (sum_tree s)) → (end : Ending) → tree ∷ [] ≢ ending_tree end
ending_none_value tree value is no_get no_sum ending.Nothing same = cc
ending_none_value tree value is no_get no_sum (ending.Get f k) same = no_get (f, k) (returned value (got f k) (cc))
ending_none_value tree value is no_get no_sum (ending.Sum v) same = no_sum v (returned value (plain (sum_tree v)) (cc))
