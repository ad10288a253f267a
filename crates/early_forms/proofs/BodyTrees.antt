-- Where the statements of a body end and its ending begins.
use Rattle.std.proofs.Common.{◌≡◌, ◌≢◌, refl, List, [], ◌∷◌, ◌++◌, length, map, Option, None, Some, sym, ap, ◌∙◌, arith}
use Rattle.java_tree.specs.declared.tree.BlockItem.{BlockItem}
use Rattle.early_forms.specs.declared.straight.Statement.{Statement}
use Rattle.early_forms.specs.declared.straight.Statement.TheVariants.{Get, Set, Put}
use Rattle.early_forms.specs.declared.straight.Ending.{Ending}
use Rattle.early_forms.specs.declared.straight.Ending.TheVariants as ending
use Rattle.std.proofs.lemmas.List.{append-nil}
use Rattle.early_forms.specs.Trees.{sum_tree, plain, got, return_value, statement_tree, ending_tree, body_tree}
use Rattle.early_forms.specs.Parts.{PartsOf, StatementsBefore, paired_body}

-- no statement is a `return`
pub return_no_statement : (end : Ending) (s : Statement) (rest : List BlockItem) → ending_tree end ≢ statement_tree s ∷ rest
return_no_statement ending.Nothing s rest same = cc
return_no_statement (ending.Get f k) (Get l g j) rest same = cc
return_no_statement (ending.Get f k) (Set l v) rest same = cc
return_no_statement (ending.Get f k) (Put g j v) rest same = cc
return_no_statement (ending.Sum v) (Get l g j) rest same = cc
return_no_statement (ending.Sum v) (Set l w) rest same = cc
return_no_statement (ending.Sum v) (Put g j w) rest same = cc

snoc_no_nil : {X : Type 0} (xs : List X) (x : X) → xs ++ x ∷ [] ≢ []
snoc_no_nil [] x same = cc
snoc_no_nil (y ∷ ys) x same = cc

pub snoc_parts : {X : Type 0} (xs ys : List X) (x y : X) → xs ++ x ∷ [] ≡ ys ++ y ∷ [] → (xs ≡ ys) × (x ≡ y)
snoc_parts [] [] x y same = (refl, cc)
snoc_parts [] (z ∷ zs) x y same = absurd (snoc_no_nil zs y (cc))
snoc_parts (z ∷ zs) [] x y same = absurd (snoc_no_nil zs x (cc))
snoc_parts (z ∷ zs) (w ∷ ws) x y same =
    let tails : zs ++ x ∷ [] ≡ ws ++ y ∷ [] = cc in
    let parts = snoc_parts zs ws x y tails in
    let front = parts.0 in
    (cc, parts.1)

-- behind statements alone stands no `return`
return_no_last : (front : List BlockItem) (last : BlockItem) (end : Ending) → last ∷ [] ≡ ending_tree end → (ss : List Statement) → front ++ last ∷ [] ≢ map statement_tree ss
return_no_last [] last end is [] same = cc
return_no_last [] last end is (s ∷ ss) same = return_no_statement end s (map statement_tree ss) (sym is ∙ same)
return_no_last (x ∷ xs) last end is [] same = cc
return_no_last (x ∷ xs) last end is (s ∷ ss) same = return_no_last xs last end is ss (cc)

-- a body that ends with a `return`, where what stands before it are no statements
pub body_none_ended :
    (trees front : List BlockItem) (last : BlockItem) (end : Ending) → trees ≡ front ++ last ∷ [] → last ∷ [] ≡ ending_tree end →
    ((ss : List Statement) → front ≢ map statement_tree ss) → (ss : List Statement) (other : Ending) → trees ≢ body_tree ss other
body_none_ended trees front last end split is refused ss ending.Nothing same =
    return_no_last front last end is ss (sym split ∙ same ∙ append-nil (map statement_tree ss))
body_none_ended trees front last end split is refused ss (ending.Get f k) same =
    refused ss (snoc_parts front (map statement_tree ss) last (return_value (got f k)) (sym split ∙ same)).0
body_none_ended trees front last end split is refused ss (ending.Sum v) same =
    refused ss (snoc_parts front (map statement_tree ss) last (return_value (plain (sum_tree v))) (sym split ∙ same)).0

-- a body that does not end so
pub body_none_open :
    (trees front : List BlockItem) (last : BlockItem) → trees ≡ front ++ last ∷ [] → ((end : Ending) → last ∷ [] ≢ ending_tree end) →
    ((ss : List Statement) → trees ≢ map statement_tree ss) → (ss : List Statement) (other : Ending) → trees ≢ body_tree ss other
body_none_open trees front last split no_end refused ss ending.Nothing same = refused ss (same ∙ append-nil (map statement_tree ss))
body_none_open trees front last split no_end refused ss (ending.Get f k) same =
    let here = (snoc_parts front (map statement_tree ss) last (return_value (got f k)) (sym split ∙ same)).1 in
    no_end (ending.Get f k) (ap (λ x. x ∷ []) here)
body_none_open trees front last split no_end refused ss (ending.Sum v) same =
    let here = (snoc_parts front (map statement_tree ss) last (return_value (plain (sum_tree v))) (sym split ∙ same)).1 in
    no_end (ending.Sum v) (ap (λ x. x ∷ []) here)

body_alone : (trees : List BlockItem) (p : List Statement × Ending) → (trees ≡ map statement_tree p.0) × (p.1 ≡ ending.Nothing) → trees ≡ body_tree p.0 p.1
body_alone trees p found =
    found.0 ∙ sym (append-nil (map statement_tree p.0)) ∙ ap (λ end. map statement_tree p.0 ++ ending_tree end) (sym found.1)

-- the statements before the ending of a body
pub body_ended :
    (trees front : List BlockItem) (last : BlockItem) (end : Ending) (found : Option (List Statement × Ending)) →
    trees ≡ front ++ last ∷ [] → last ∷ [] ≡ ending_tree end → StatementsBefore end front found → PartsOf paired_body trees found
body_ended trees front last end None split is refused = λ p same. body_none_ended trees front last end split is refused p.0 p.1 same
body_ended trees front last end (Some p) split is found =
    split ∙ ap (λ xs. xs ++ last ∷ []) found.0 ∙ ap (λ xs. map statement_tree p.0 ++ xs) (is ∙ ap ending_tree (sym found.1))

-- the statements of a body that no `return` ends
pub body_open :
    (trees front : List BlockItem) (last : BlockItem) (found : Option (List Statement × Ending)) →
    trees ≡ front ++ last ∷ [] → ((end : Ending) → last ∷ [] ≢ ending_tree end) →
    StatementsBefore ending.Nothing trees found → PartsOf paired_body trees found
body_open trees front last None split no_end refused = λ p same. body_none_open trees front last split no_end refused p.0 p.1 same
body_open trees front last (Some p) split no_end found = body_alone trees p found

pub body_empty :
    (trees : List BlockItem) (found : Option (List Statement × Ending)) → length trees ≡ 0 →
    StatementsBefore ending.Nothing trees found → PartsOf paired_body trees found
body_empty [] None none refused = absurd (refused [] refl)
body_empty (x ∷ xs) None none refused = absurd (omega (arith, none))
body_empty trees (Some p) none found = body_alone trees p found
