-- Each statement only adds findings and leaves a loop that was left before, and begins where it can be reached.
use Rattle.std.proofs.Common.{◌≡◌, Bool, true, false, ◌||◌, List, [], ◌∷◌, map, Some, None, refl, sym, subst, ◌∙◌}
use Rattle.java_tree.specs.declared.tree.Expr.{Expr}
use Rattle.java_tree.specs.declared.tree.ForHeader.{ForHeader}
use Rattle.java_tree.specs.declared.tree.BlockItem.{BlockItem, roll-BlockItem, map-BlockItem}
use Rattle.java_tree.specs.declared.tree.Stmt.{Stmt, roll-Stmt, map-Stmt}
use Rattle.java_tree.specs.declared.tree.BlockItem.TheOpen.{BlockItem-F, Stmt-F}
use Rattle.java_tree.specs.declared.tree.BlockItem.TheOpen as s
use Rattle.java_tree.specs.declared.tree.BlockItem.TheFolds.{fold-roll-BlockItem, fold-roll-Stmt, ind-BlockItem, ind-Stmt}
use Rattle.java_types.proofs.Lists.{map_map}
use Rattle.java_flow.specs.declared.branches.Test.{Test}
use Rattle.java_flow.specs.Points.{Point, begun, behind}
use Rattle.java_flow.specs.Simples.{simples_walk}
use Rattle.java_flow.specs.Statements as walks
use Rattle.java_flow.specs.Statements.{Item, Outside, outside, loop_start, loop_end, if_walk, while_walk, for_end, for_walk, fresh, behind_update, update_start, when_true, when_false, branch_start, test_of, test_walk, items_walk, block_walk, item_of, statement_walk}
use Rattle.ending_bodies.proofs.Calm.{Calm, after, behind_calm, expr_calm}
use Rattle.ending_bodies.proofs.Passing.{local_calm, simple_calm, simples_calm, init_calm, test_calm, returned_calm, begun_calm, Has, begins, Grows, grows_by, stays, then_grows, has_before}

pub record Starts (p q : Point) : Type 0 where
  pub grows : Grows p q
  pub begins : q.findings ≡ [] → Has q.places → p.is_reachable ≡ true

pub starts_by : {p q : Point} → Grows (begun p) q → Starts p q
starts_by {p = p} g = record {
  grows = then_grows (grows_by (begun_calm p)) g;
  begins = λ quiet has. begins p (g.back quiet) (has_before (grows_by (begun_calm p)) (has_before g has));
}

abbrev pub Starting : (Point → Point) → Type 0
Starting walk = (p : Point) → Starts p (walk p)

or_true : (a : Bool) → a ≡ true → (b : Bool) → (a || b) ≡ true
or_true true e b = refl
or_true false e b = absurd (cc)

module _ {A : Type 0} (item : A → Item) (each : (x : A) → Starting (item x).walk) where
  pub items_grow : (xs : List A) (p : Point) → Grows p (items_walk (map item xs) p)
  items_grow [] p = stays p
  items_grow (x ∷ xs) p = then_grows (each x p).grows (items_grow xs ((item x).walk p))

  pub block_grows : (xs : List A) (p : Point) → Grows p (block_walk (map item xs) p)
  block_grows xs p =
      let g = then_grows (grows_by (behind_calm 1 p)) (items_grow xs (behind 1 p)) in
      record { back = g.back; left = g.left; ends = g.ends }

-- ---- branches and loops, from behind the condition on

pub first_grows : (t : Test) (first : Point → Point) → Starting first → (p : Point) → Grows p (first (when_true t p))
first_grows t first each p = let g = (each (when_true t p)).grows in record { back = g.back; left = g.left; ends = g.ends }

pub second_grows : (t : Test) (second : Point → Point) → Starting second → (p q : Point) → Grows q (second (behind 1 (branch_start (when_false t p) q)))
second_grows t second each p q =
    let g = then_grows (grows_by (behind_calm 1 (branch_start (when_false t p) q))) (each (behind 1 (branch_start (when_false t p) q))).grows in
    record { back = g.back; left = g.left; ends = g.ends }

pub if_grows : (t : Test) (first : Point → Point) → Starting first → (p : Point) → Grows p (if_walk t first None p)
if_grows t first each p = let g = first_grows t first each p in record { back = g.back; left = g.left; ends = g.ends }

pub else_grows : (t : Test) (first second : Point → Point) → Starting first → Starting second → (p : Point) → Grows p (if_walk t first (Some second) p)
else_grows t first second each other p =
    let g = then_grows (first_grows t first each p) (second_grows t second other p (first (when_true t p))) in
    record { back = g.back; left = g.left; ends = g.ends }

pub while_grows : (t : Test) (body : Point → Point) → Starting body → (p : Point) → Grows p (while_walk t body p)
while_grows t body each p =
    let g = (each (loop_start t p)).grows in
    record { back = g.back; left = λ e. e; ends = g.ends }

pub update_ends : (h : ForHeader) (p : Point) → p.places ≡ [] → (behind_update h p).places ≡ []
update_ends h p none =
    let c = simples_calm h.update (fresh p.places) in
    let q : Point = record p { places = (simples_walk h.update (fresh p.places)).places } in
    (behind_calm 1 q).ends (c.ends none)

pub for_grows : (t : Test) (h : ForHeader) (body : Point → Point) → Starting body → (p : Point) → Grows p (for_walk t h body p)
for_grows t h body each p =
    let start = loop_start t (behind_update h p) in
    let g = (each start).grows in
    let u = simples_calm h.update (update_start p.places (body start)) in
    record { back = λ quiet. g.back (u.back quiet); left = λ e. e; ends = λ none. g.ends (update_ends h p none) }

-- ---- each layer

abbrev ItemStarts : BlockItem → Type 0
ItemStarts i = Starting (item_of i).walk

abbrev StatementStarts : Stmt → Type 0
StatementStarts x = Starting (statement_walk x)

abbrev OneItem : Type 0
OneItem = (i : BlockItem) × ItemStarts i

abbrev Part : Type 0
Part = (x : Stmt) × StatementStarts x

abbrev walked : Stmt-F BlockItem Stmt → Stmt-F Item (Point → Point)
walked = map-Stmt BlockItem Stmt Item (Point → Point) item_of statement_walk

abbrev bare : Stmt-F OneItem Part → Stmt-F BlockItem Stmt
bare = map-Stmt OneItem Part BlockItem Stmt (λ i. i.0) (λ x. x.0)

abbrev item_at : OneItem → Item
item_at i = item_of i.0

block_layer : (items : List OneItem) (p : Point) → Grows p (block_walk (map item_of (map (λ i. i.0) items)) p)
block_layer items p =
    let Q : List Item → Type 0 = λ all. Grows p (block_walk all p) in
    subst Q (sym (map_map item_of (λ (i : OneItem). i.0) items)) (block_grows item_at (λ i. i.1) items p)

pub to_test : (test : Expr) (p : Point) → Calm p (behind 1 (test_walk test (behind 2 p)))
to_test test p = after (behind_calm 2 p) (after (expr_calm test false _) (behind_calm 1 _))

pub to_header : (h : ForHeader) (p : Point) → Calm p (walks.header_test_walk h.test (behind 1 (walks.init_walk h.init (behind 1 p))))
to_header h p = after (behind_calm 1 p) (after (init_calm h.init _) (after (behind_calm 1 _) (test_calm h.test _)))

left_grows : (p : Point) → Grows p (behind 2 (walks.break_here p))
left_grows p = record { back = λ q. q; left = λ e. or_true p.is_left e p.is_reachable; ends = λ none. (behind_calm 2 p).ends none }

continue_grows : (p : Point) → Grows p (behind 2 (walks.continue_here p))
continue_grows p = record { back = λ q. q; left = λ e. e; ends = λ none. (behind_calm 2 p).ends none }

statement_layer : (y : Stmt-F OneItem Part) → Starting (walks.statement_step (walked (bare y)))
statement_layer (s.Block items) p = starts_by (then_grows (block_layer items (begun p)) (grows_by (behind_calm 1 _)))
statement_layer s.Empty p = starts_by (grows_by (behind_calm 1 _))
statement_layer (s.Simple x) p = starts_by (then_grows (grows_by (simple_calm x (begun p))) (grows_by (behind_calm 1 _)))
statement_layer (s.If test first None) p = starts_by (then_grows (grows_by (to_test test (begun p))) (if_grows (test_of test) (statement_walk first.0) first.1 _))
statement_layer (s.If test first (Some second)) p =
    starts_by (then_grows (grows_by (to_test test (begun p))) (else_grows (test_of test) (statement_walk first.0) (statement_walk second.0) first.1 second.1 _))
statement_layer (s.While test body) p = starts_by (then_grows (grows_by (to_test test (begun p))) (while_grows (test_of test) (statement_walk body.0) body.1 _))
statement_layer (s.For header body) p =
    let g = then_grows (grows_by (to_header header (begun p))) (for_grows (walks.header_test header.test) header (statement_walk body.0) body.1 _) in
    starts_by (record { back = g.back; left = g.left; ends = g.ends })
statement_layer s.Break p = starts_by (left_grows (begun p))
statement_layer s.Continue p = starts_by (continue_grows (begun p))
statement_layer (s.Return v) p =
    let c = after (behind_calm 1 (begun p)) (returned_calm v (behind 1 (begun p))) in
    let q = walks.returned v (behind 1 (begun p)) in
    starts_by (record { back = c.back; left = λ e. c.left ∙ e; ends = λ none. (behind_calm 1 q).ends (c.ends none) })

statement_made : (x : Stmt-F BlockItem Stmt) (y : Stmt-F OneItem Part) → bare y ≡ x → StatementStarts (roll-Stmt x)
statement_made x y is =
    let Q : Stmt-F BlockItem Stmt → Type 0 = λ x. Starting (walks.statement_step (walked x)) in
    subst Starting (sym (fold-roll-Stmt Item (Point → Point) walks.item_step walks.statement_step x)) (subst Q is (statement_layer y))

abbrev walked_item : BlockItem-F BlockItem Stmt → BlockItem-F Item (Point → Point)
walked_item = map-BlockItem BlockItem Stmt Item (Point → Point) item_of statement_walk

abbrev bare_item : BlockItem-F OneItem Part → BlockItem-F BlockItem Stmt
bare_item = map-BlockItem OneItem Part BlockItem Stmt (λ i. i.0) (λ x. x.0)

item_layer : (y : BlockItem-F OneItem Part) → Starting (walks.item_step (walked_item (bare_item y))).walk
item_layer (s.Local l) p = starts_by (then_grows (grows_by (local_calm l (begun p))) (grows_by (behind_calm 1 _)))
item_layer (s.Stmt body) p = body.1 p

item_made : (x : BlockItem-F BlockItem Stmt) (y : BlockItem-F OneItem Part) → bare_item y ≡ x → ItemStarts (roll-BlockItem x)
item_made x y is =
    let Q : BlockItem-F BlockItem Stmt → Type 0 = λ x. Starting (walks.item_step (walked_item x)).walk in
    let R : Item → Type 0 = λ i. Starting i.walk in
    subst R (sym (fold-roll-BlockItem Item (Point → Point) walks.item_step walks.statement_step x)) (subst Q is (item_layer y))

pub item_starts : (i : BlockItem) → ItemStarts i
item_starts = ind-BlockItem ItemStarts StatementStarts item_made statement_made

pub statement_starts : (x : Stmt) → StatementStarts x
statement_starts = ind-Stmt ItemStarts StatementStarts item_made statement_made
