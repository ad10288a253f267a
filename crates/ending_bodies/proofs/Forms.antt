-- Each form of statement leaves as it is resolved, where its parts do.
use Rattle.std.proofs.Common.{◌≡◌, ℕ, Bool, true, false, not, ◌||◌, List, [], map, Some, None, sym, ◌∙◌}
use Rattle.java_tree.specs.declared.tree.Expr.{Expr}
use Rattle.java_tree.specs.declared.tree.ForHeader.{ForHeader}
use Rattle.java_tree.specs.declared.tree.BlockItem.TheOpen as s
use Rattle.java_flow.specs.Points.{Point, begun, behind}
use Rattle.java_flow.specs.Statements as walks
use Rattle.java_flow.specs.Statements.{Item, if_walk, while_walk, for_walk, test_of, test_walk, block_walk}
use Rattle.body_code.specs.Completing.{Leaving, leaving, completing, breaking, of_second}
use Rattle.ending_bodies.proofs.Calm.{Calm, behind_calm}
use Rattle.ending_bodies.proofs.Passing.{begun_calm, begins, Has, Grows, grows_by, then_grows, has_before}
use Rattle.ending_bodies.proofs.Grown.{Starting, to_test, to_header, block_grows, if_grows, else_grows, while_grows, for_grows}
use Rattle.ending_bodies.proofs.Leaving.{Leaves, LeavesBy, AllLeave, no_break, right_or, block_leaves, if_leaves, else_leaves, while_leaves, for_leaves}

-- ---- from where a statement begins

-- from a point on that can be reached
abbrev pub LeavesFrom : Leaving → (Point → Point) → Type 0
LeavesFrom l walk = (p : Point) → p.is_reachable ≡ true → (walk p).findings ≡ [] → Has (walk p).places → Leaves l (walk p)

pub from_begun : (l : Leaving) (walk : Point → Point) → ((p : Point) → Grows p (walk p)) → LeavesFrom l walk → LeavesBy l (λ p. walk (begun p))
from_begun l walk grows leaves p quiet has =
    let g = grows (begun p) in
    let reached = (begun_calm p).reachable ∙ begins p (g.back quiet) (has_before (grows_by (begun_calm p)) (has_before g has)) in
    leaves (begun p) reached quiet has

-- behind calm steps
pub behind_calm_steps : (l : Leaving) (steps walk : Point → Point) → ((p : Point) → Calm p (steps p)) → LeavesFrom l walk → LeavesFrom l (λ p. walk (steps p))
behind_calm_steps l steps walk calm leaves p reached quiet has = leaves (steps p) ((calm p).reachable ∙ reached) quiet has

-- and before some tokens
pub before_tokens : (l : Leaving) (walk : Point → Point) (n : ℕ) → LeavesBy l walk → LeavesBy l (λ p. behind n (walk p))
before_tokens l walk n leaves p quiet has =
    let h = leaves p quiet (has_before (grows_by (behind_calm n (walk p))) has) in
    record { completes = h.completes; breaks = h.breaks }

-- ---- statements that go on

-- What is calm goes on, whatever it is resolved to, and leaves no loop.
pub calm_leaves : (l : Leaving) → l.breaks ≡ false → (walk : Point → Point) → ((p : Point) → Calm p (walk p)) → LeavesBy l (λ p. walk (begun p))
calm_leaves l none walk calm =
    from_begun l walk (λ p. grows_by (calm p)) (λ p reached quiet has. record { completes = λ e. (calm p).reachable ∙ reached; breaks = λ e. no_break (sym none ∙ e) })

-- ---- statements that stop

-- what neither completes nor leaves a loop
pub stop_leaves : (l : Leaving) → l.completes ≡ false → l.breaks ≡ false → (walk : Point → Point) → LeavesBy l walk
stop_leaves l stops none walk p quiet has = record { completes = λ e. no_break (sym stops ∙ e); breaks = λ e. no_break (sym none ∙ e) }

pub break_leaves : LeavesBy (leaving false true) (walks.statement_step s.Break)
break_leaves p quiet has =
    let q = begun p in
    let reached = (begun_calm p).reachable ∙ begins p quiet (has_before (grows_by (begun_calm p)) (has_before (grows_by (behind_calm 2 q)) has)) in
    record { completes = λ e. no_break e; breaks = λ e. right_or q.is_left q.is_reachable reached }

-- ---- blocks

module _ {A : Type 0} (item : A → Item) (starts : (x : A) → Starting (item x).walk) where
  pub block_form : (ls : List Leaving) (xs : List A) → AllLeave item starts ls xs → LeavesBy (leaving (completing ls) (breaking ls)) (walks.statement_step (s.Block (map item xs)))
  block_form ls xs all =
      before_tokens (leaving (completing ls) (breaking ls)) (λ p. block_walk (map item xs) (begun p)) 1
      (from_begun (leaving (completing ls) (breaking ls)) (block_walk (map item xs)) (block_grows item starts xs) (block_leaves item starts ls xs all))

-- ---- branches

module _ (test : Expr) where
  abbrev at_test : Point → Point
  at_test p = behind 1 (test_walk test (behind 2 p))

  pub if_form : (l : Leaving) (first : Point → Point) → Starting first → LeavesBy l first → LeavesBy (of_second l None) (walks.statement_step (s.If test first None))
  if_form l first starts by =
      from_begun (of_second l None) (λ p. if_walk (test_of test) first None (at_test p))
      (λ p. then_grows (grows_by (to_test test p)) (if_grows (test_of test) first starts (at_test p)))
      (behind_calm_steps (of_second l None) at_test (if_walk (test_of test) first None) (to_test test) (if_leaves (test_of test) l first by))

  pub else_form : (l k : Leaving) (first second : Point → Point) → Starting first → Starting second → LeavesBy l first → LeavesBy k second
      → LeavesBy (of_second l (Some k)) (walks.statement_step (s.If test first (Some second)))
  else_form l k first second starts others by other =
      from_begun (of_second l (Some k)) (λ p. if_walk (test_of test) first (Some second) (at_test p))
      (λ p. then_grows (grows_by (to_test test p)) (else_grows (test_of test) first second starts others (at_test p)))
      (λ p reached. else_leaves (test_of test) l k first second others by other (at_test p))

  -- ---- loops

  pub while_form : (goes : Bool) (l : Leaving) (body : Point → Point) → Starting body → ((test_of test).is_true ≡ true → goes ≡ true) → LeavesBy l body
      → LeavesBy (leaving (not goes || l.breaks) false) (walks.statement_step (s.While test body))
  while_form goes l body starts agrees by =
      from_begun (leaving (not goes || l.breaks) false) (λ p. while_walk (test_of test) body (at_test p))
      (λ p. then_grows (grows_by (to_test test p)) (while_grows (test_of test) body starts (at_test p)))
      (behind_calm_steps (leaving (not goes || l.breaks) false) at_test (while_walk (test_of test) body) (to_test test) (while_leaves (test_of test) goes l body agrees by))

module _ (h : ForHeader) where
  abbrev at_body : Point → Point
  at_body p = walks.header_test_walk h.test (behind 1 (walks.init_walk h.init (behind 1 p)))

  abbrev around : Point → Point
  around p = walks.scope_end (walks.init_names h.init) p

  pub for_form : (goes : Bool) (l : Leaving) (body : Point → Point) → Starting body → ((walks.header_test h.test).is_true ≡ true → goes ≡ true) → LeavesBy l body
      → LeavesBy (leaving (not goes || l.breaks) false) (walks.statement_step (s.For h body))
  for_form goes l body starts agrees by p quiet has =
      let t = walks.header_test h.test in
      let k : Leaving = leaving (not goes || l.breaks) false in
      let inside =
      from_begun k (λ p. for_walk t h body (at_body p))
      (λ p. then_grows (grows_by (to_header h p)) (for_grows t h body starts (at_body p)))
      (behind_calm_steps k at_body (for_walk t h body) (to_header h) (for_leaves t h goes l body agrees by)) in
      let end = inside p quiet has in
      record { completes = end.completes; breaks = end.breaks }
