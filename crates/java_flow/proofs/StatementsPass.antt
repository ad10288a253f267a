-- The walk over a statement passes as many places as it has tokens.
use Rattle.std.proofs.Common.{◌≡◌, ℕ, ◌+◌, List, [], ◌∷◌, ◌++◌, map, length, drop, Some, None, refl, sym, ap, subst, ◌∙◌, arith, length-append}
use Rattle.std.specs.List.{flat_map}
use Rattle.std.proofs.lemmas.List.{drop-drop}
use Rattle.java_tree.specs.declared.token.Kind.{Kind}
use Rattle.java_tree.specs.declared.token.Kind.TheVariants as k
use Rattle.java_tree.specs.declared.token.Reserved.TheVariants as word
use Rattle.java_tree.specs.declared.token.Symbol.TheVariants as symbol
use Rattle.java_tree.specs.declared.tree.BlockItem.{BlockItem, roll-BlockItem, map-BlockItem}
use Rattle.java_tree.specs.declared.tree.Stmt.{Stmt, roll-Stmt, map-Stmt}
use Rattle.java_tree.specs.declared.tree.BlockItem.TheOpen.{BlockItem-F, Stmt-F}
use Rattle.java_tree.specs.declared.tree.BlockItem.TheOpen as s
use Rattle.java_tree.specs.declared.tree.BlockItem.TheFolds.{fold-roll-BlockItem, fold-roll-Stmt, ind-BlockItem, ind-Stmt}
use Rattle.java_tree.specs.Tokens as tokens
use Rattle.java_tree.specs.Tokens.{Kinds, in_parentheses, in_braces, item_tokens, header_tokens, expr_tokens, simple_tokens, local_tokens, value_tokens, statement_tokens}
use Rattle.java_flow.specs.Points.{Point, behind, begun}
use Rattle.java_flow.specs.Statements as walks
use Rattle.java_flow.specs.Statements.{Item, item_of, statement_walk, items_walk}
use Rattle.java_flow.specs.Laws.{Passes}
use Rattle.java_flow.proofs.Passing.{begun_places, one_more, one_behind}
use Rattle.java_flow.proofs.ExpressionsPass.{expr_passes, value_passes}
use Rattle.java_flow.proofs.SimplesPass.{local_passes, simple_passes, header_passes}

abbrev ItemPasses : BlockItem → Type 0
ItemPasses i = Passes (item_tokens i) (item_of i).walk

abbrev StatementPasses : Stmt → Type 0
StatementPasses x = Passes (statement_tokens x) (statement_walk x)

-- ---- from a layer to what it is a layer of

rolled_item : (x : BlockItem-F BlockItem Stmt) → Passes (tokens.item_step (map-BlockItem _ _ _ _ item_tokens statement_tokens x)) (walks.item_step (map-BlockItem _ _ _ _ item_of statement_walk x)).walk
    → ItemPasses (roll-BlockItem x)
rolled_item x passes p =
    subst (λ (i : Item). (i.walk p).places ≡ drop (length (item_tokens (roll-BlockItem x))) p.places) (sym (fold-roll-BlockItem Item (Point → Point) walks.item_step walks.statement_step x))
    (subst (λ (t : Kinds). ((walks.item_step (map-BlockItem _ _ _ _ item_of statement_walk x)).walk p).places ≡ drop (length t) p.places)
    (sym (fold-roll-BlockItem Kinds Kinds tokens.item_step tokens.statement_step x))
    (passes p))

rolled_statement : (x : Stmt-F BlockItem Stmt) → Passes (tokens.statement_step (map-Stmt _ _ _ _ item_tokens statement_tokens x)) (walks.statement_step (map-Stmt _ _ _ _ item_of statement_walk x))
    → StatementPasses (roll-Stmt x)
rolled_statement x passes p =
    subst (λ (w : Point → Point). (w p).places ≡ drop (length (statement_tokens (roll-Stmt x))) p.places) (sym (fold-roll-Stmt Item (Point → Point) walks.item_step walks.statement_step x))
    (subst (λ (t : Kinds). (walks.statement_step (map-Stmt _ _ _ _ item_of statement_walk x) p).places ≡ drop (length t) p.places)
    (sym (fold-roll-Stmt Kinds Kinds tokens.item_step tokens.statement_step x))
    (passes p))

-- ---- numbers of tokens

while_count : (test body : Kinds) → 2 + length test + 1 + length body ≡ length (k.Reserved word.While ∷ (in_parentheses test ++ body))
while_count test body = grind (arith, length-append {A = Kind})

if_count : (test first : Kinds) → 2 + length test + 1 + length first ≡ length (k.Reserved word.If ∷ (in_parentheses test ++ (first ++ [])))
if_count test first = grind (arith, length-append {A = Kind})

else_count : (test first second : Kinds)
    → 2 + length test + 1 + length first + 1 + length second ≡ length (k.Reserved word.If ∷ (in_parentheses test ++ (first ++ (k.Reserved word.Else ∷ second))))
else_count test first second = grind (arith, length-append {A = Kind})

-- ---- each layer

items_pass : (xs : List ((i : BlockItem) × ItemPasses i)) → Passes (flat_map (λ t. t) (map item_tokens (map (λ i. i.0) xs))) (items_walk (map item_of (map (λ i. i.0) xs)))
items_pass [] p = refl
items_pass (x ∷ xs) p = simp (items_pass xs, x.1, drop-drop) (grind (arith, length-append {A = Kind}))

item_layer : (y : BlockItem-F ((i : BlockItem) × ItemPasses i) ((x : Stmt) × StatementPasses x)) → ItemPasses (roll-BlockItem (map-BlockItem _ _ _ _ (λ i. i.0) (λ x. x.0) y))
item_layer (s.Local l) =
    rolled_item (s.Local l)
    (λ p. ap (drop 1) (local_passes l (begun p)) ∙ simp (begun_places, drop-drop) (ap (λ (n : ℕ). drop n p.places) (one_behind (local_tokens l) (k.Symbol symbol.Semicolon))))
item_layer (s.Stmt body) = rolled_item (s.Stmt body.0) body.1

statement_layer : (y : Stmt-F ((i : BlockItem) × ItemPasses i) ((x : Stmt) × StatementPasses x)) → StatementPasses (roll-Stmt (map-Stmt _ _ _ _ (λ i. i.0) (λ x. x.0) y))
statement_layer (s.Block items) = rolled_statement (s.Block (map (λ i. i.0) items)) (λ p. simp (items_pass items, begun_places, drop-drop) (grind (arith, length-append {A = Kind})))
statement_layer s.Empty = rolled_statement s.Empty (λ p. simp begun_places)
statement_layer (s.Simple x) = rolled_statement (s.Simple x) (λ p. simp (simple_passes x, begun_places, drop-drop) (grind (arith, length-append {A = Kind})))
statement_layer (s.If test first None) =
    rolled_statement (s.If test first.0 None)
    (λ p. simp (expr_passes test, first.1, begun_places, drop-drop) (ap (λ (n : ℕ). drop n p.places) (if_count (expr_tokens test) (statement_tokens first.0))))
statement_layer (s.If test first (Some second)) =
    rolled_statement (s.If test first.0 (Some second.0))
    (λ p. simp (expr_passes test, first.1, second.1, begun_places, drop-drop) (ap (λ (n : ℕ). drop n p.places) (else_count (expr_tokens test) (statement_tokens first.0) (statement_tokens second.0))))
statement_layer (s.While test body) =
    rolled_statement (s.While test body.0)
    (λ p. simp (expr_passes test, body.1, begun_places, drop-drop) (ap (λ (n : ℕ). drop n p.places) (while_count (expr_tokens test) (statement_tokens body.0))))
statement_layer (s.For header body) =
    rolled_statement (s.For header body.0)
    (λ p. body.1 _
    ∙ (ap (drop (length (statement_tokens body.0))) (header_passes header (behind 1 (begun p)))
    ∙ simp (begun_places, drop-drop) (ap (λ (n : ℕ). drop n p.places) (one_more (k.Reserved word.For) (in_parentheses (header_tokens header)) (statement_tokens body.0)))))
statement_layer s.Break = rolled_statement s.Break (λ p. simp begun_places)
statement_layer s.Continue = rolled_statement s.Continue (λ p. simp begun_places)
statement_layer (s.Return None) = rolled_statement (s.Return None) (λ p. simp (begun_places, drop-drop))
statement_layer (s.Return (Some v)) = rolled_statement (s.Return (Some v)) (λ p. simp (value_passes v, begun_places, drop-drop) (grind (arith, length-append {A = Kind})))

-- ---- by induction

pub item_passes : (i : BlockItem) → ItemPasses i
item_passes =
    ind-BlockItem ItemPasses StatementPasses (λ x y is. subst (λ z. ItemPasses (roll-BlockItem z)) is (item_layer y)) (λ x y is. subst (λ z. StatementPasses (roll-Stmt z)) is (statement_layer y))

pub statement_passes : (x : Stmt) → StatementPasses x
statement_passes =
    ind-Stmt ItemPasses StatementPasses (λ x y is. subst (λ z. ItemPasses (roll-BlockItem z)) is (item_layer y)) (λ x y is. subst (λ z. StatementPasses (roll-Stmt z)) is (statement_layer y))

pub body_passes : (items : List BlockItem) → Passes (flat_map item_tokens items) (items_walk (map item_of items))
body_passes [] p = refl
body_passes (x ∷ xs) p = simp (body_passes xs, item_passes x, drop-drop) (grind (arith, length-append {A = Kind}))
