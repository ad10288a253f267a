-- The items of a block go where each goes, and so do the statements of a body: what they declare is out of scope behind them.
use Rattle.std.proofs.Common.{◌≡◌, List, length, map, fold, None, sym, ap, subst, ◌∙◌}
use Rattle.java_types.specs.declared.statements.Around.{Around}
use Rattle.java_types.specs.declared.walk.Walk.{Walk}
use Rattle.java_types.specs.Walks.{past}
use Rattle.java_types.specs.Statements as types
use Rattle.java_types.proofs.Lists.{fold_map}
use Rattle.annotations.specs.declared.walk.Walk.{Walk as MarkingWalk}
use Rattle.annotations.specs.Statements as marking
use Rattle.annotations.specs.Walks as marks
use Rattle.access_blocks.specs.declared.body.Statement.{Statement}
use Rattle.access_blocks.specs.ResolvingStatements.{Stating, list_of, block_of}
use Rattle.marked_bodies.specs.Unmarked.{unmarked_list}
use Rattle.typed_statements.specs.Points.{Setting, Point}
use Rattle.typed_statements.specs.Checks.{AssignBelow, Typed, AllTyped, all_assigned}
use Rattle.typed_statements.specs.Goes.{Goes}
use Rattle.typed_statements.specs.Leaves.{Stated}
use Rattle.typed_statements.proofs.Going.{still}
use Rattle.typed_statements.proofs.InTurn.{Stable, before, behind}
use Rattle.typed_statements.proofs.Standings.{checks_stable, longer}
use Rattle.typed_statements.proofs.Lists.{list_goes}
use Rattle.typed_statements.proofs.Steps.{past_still, past_unmoved, unmerged_merges_none}
use Rattle.typed_statements.proofs.Jumping.{none_waits}
use Rattle.typed_statements.proofs.Closing.{closed_knows}
use Rattle.typed_statements.proofs.Blocks.{Closing, closing}
use Rattle.typed_statements.proofs.BlocksGo.{block_goes}

-- Statements in braces are typed as they were, where nothing waits behind the braces.
body_typed : (k : Setting) (a : Around) (at inside to : Point) (ss : List Statement) → to.marks.awaited ≡ None → Closing k at inside to → AllTyped k a at inside ss → AllTyped k a at to ss
body_typed k a at inside to ss none c h = record {
  longer = longer c.closes.variables;
  below = subst (λ d. AssignBelow (length d.variables) (all_assigned ss)) (sym c.same_cursor) h.below;
  checked = λ st exits seen r.
      let e = h.checked st exits seen r in
      record {
        after = e.after;
        is = e.is;
        keeps = e.keeps;
        knows = λ v t scope type. e.keeps v (closed_knows k at to c.begins c.closes st r.knows v t scope type);
        waits = none_waits k to e.after none;
      };
}

module _ {A : Type 0} (k : Setting) (a : Around) (run : A → types.Running) (walking : A → marking.Running) (reading : A → Stating)
    (each : (x : A) (w : Walk) (u : MarkingWalk) → Goes k w (run x a w) u (walking x u) (reading x) (Typed k a)) where
  abbrev run_all : List A → Walk → Walk
  run_all xs w = fold (λ w (i : types.Running). i a w) w (map run xs)

  abbrev walk_all : List A → MarkingWalk → MarkingWalk
  walk_all xs u = fold (λ u (i : marking.Running). i u) u (map walking xs)

  items_go : (xs : List A) (w : Walk) (u : MarkingWalk) → Goes k w (run_all xs w) u (walk_all xs u) (list_of (map reading xs)) (AllTyped k a)
  items_go xs w u =
      let step : Walk → A → Walk = λ w x. run x a w in
      let mark : MarkingWalk → A → MarkingWalk = λ u x. walking x u in
      let Types : Walk → Type 0 = λ v. Goes k w v u (fold mark u xs) (list_of (map reading xs)) (AllTyped k a) in
      let Marks : MarkingWalk → Type 0 = λ x. Goes k w (run_all xs w) u x (list_of (map reading xs)) (AllTyped k a) in
      subst Marks (sym (fold_map (λ u (i : marking.Running). i u) walking u xs))
      (subst Types (sym (fold_map (λ w (i : types.Running). i a w) run w xs)) (list_goes k a step mark reading each xs w u))

  pub items_block_goes : (xs : List A) (w : Walk) (u : MarkingWalk)
      → Goes k w (types.in_block k.env (map run xs) a w) u (marking.in_block k.marks (map walking xs) (marks.unmerged u)) (block_of (map reading xs)) (Stated k a)
  items_block_goes xs w u =
      let v = past k.env 1 w in
      let x = marks.past k.marks 1 (marks.unmerged u) in
      block_goes k a w (run_all xs v) u (walk_all xs x) (list_of (map reading xs)) (items_go xs v x)

  pub items_body_goes : (xs : List A) (w : Walk) (u : MarkingWalk)
      → Goes k w (types.in_block k.env (map run xs) a w) u (marking.in_block k.marks (map walking xs) u) (list_of (map reading xs)) (AllTyped k a)
  items_body_goes xs w u =
      let lists : Stable k (AllTyped k a) = checks_stable k a (unmarked_list k.around) all_assigned in
      let v = past k.env 1 w in
      let x = marks.past k.marks 1 u in
      let y = walk_all xs x in
      let ends = unmerged_merges_none y in
      let p = past_unmoved k.marks 1 (marks.unmerged y) in
      let inner = behind k lists (behind k lists (before k lists (past_still k.env 1 w) (past_unmoved k.marks 1 u) (items_go xs v x)) (still (run_all xs v)) ends.moved)
      (past_still k.env 1 (run_all xs v)) p in
      closing k w (past k.env 1 (run_all xs v)) u (marks.past k.marks 1 (marks.unmerged y)) (list_of (map reading xs)) (AllTyped k a) (AllTyped k a) (λ ss. ss)
      (λ at inside behind ss quiet is_at is_behind c h.
      body_typed k a at inside behind ss (ap (λ (m : MarkingWalk). m.awaited) is_behind ∙ (p.awaited quiet ∙ ends.none (p.back quiet))) c h) inner
