-- The parts of the header of a `for` go: its start, its test and its update.
use Rattle.std.proofs.Common.{◌≡◌, true, List, [], ◌∷◌, map, fold, Option, Some, None, refl, ◌∙◌}
use Rattle.java_tree.specs.declared.tree.Expr.{Expr}
use Rattle.java_tree.specs.declared.tree.ForInit.{ForInit}
use Rattle.java_tree.specs.declared.tree.ForInit.TheVariants as for_init
use Rattle.java_tree.specs.declared.tree.Local.{Local}
use Rattle.java_tree.specs.declared.tree.Simple.{Simple}
use Rattle.java_types.specs.declared.statements.Around.{Around}
use Rattle.java_types.specs.declared.walk.Walk.{Walk}
use Rattle.java_types.specs.Walks.{past}
use Rattle.java_types.specs.Simples as types_simples
use Rattle.java_types.specs.Statements as types
use Rattle.annotations.specs.declared.walk.Awaited.{Awaited}
use Rattle.annotations.specs.declared.walk.Env.{Env as MarkingEnv}
use Rattle.annotations.specs.declared.walk.Walk.{Walk as MarkingWalk}
use Rattle.annotations.specs.declared.position.Position.TheVariants.{Inside}
use Rattle.annotations.specs.Simples as marking_simples
use Rattle.annotations.specs.Statements as marking
use Rattle.annotations.specs.Walks as marks
use Rattle.access_blocks.specs.declared.body.Expression.{Expression}
use Rattle.access_blocks.specs.declared.body.Statement.{Statement}
use Rattle.access_blocks.specs.declared.resolved.Resolved.{Resolved}
use Rattle.access_blocks.specs.Cursors.{read}
use Rattle.access_blocks.specs.ResolvingStatements.{nothing, local, simple_of, list_of, condition, init_of, update_of}
use Rattle.body_code.specs.Checking.{Standing, is_condition}
use Rattle.body_code.specs.Early.{assigned_in}
use Rattle.marked_bodies.specs.Unmarked.{unmarked, unmarked_list}
use Rattle.typed_statements.specs.Points.{Setting, Point, place_at, IsPoint, IsSoundSomewhere, Knows}
use Rattle.typed_statements.specs.Checks.{Typed, AllTyped, all_assigned}
use Rattle.typed_statements.specs.Goes.{Meaning, Goes}
use Rattle.typed_statements.specs.Leaves.{LeavesGo}
use Rattle.typed_statements.proofs.Going.{still}
use Rattle.typed_statements.proofs.InTurn.{Stable, before, behind, unread, made, made_there, stays}
use Rattle.typed_statements.proofs.Standings.{checks_stable}
use Rattle.typed_statements.proofs.Lists.{none_typed, one_more, list_goes}
use Rattle.typed_statements.proofs.Steps.{past_still, past_unmoved, unmerged_merges_none}
use Rattle.typed_statements.proofs.Braces.{block_typed}
use Rattle.typed_statements.proofs.Keeping.{keeps_past}
use Rattle.typed_statements.proofs.ExpressionsKeep.{expression_keeps}
use Rattle.typed_statements.proofs.Gathering.{AllGatherNone}
use Rattle.typed_statements.proofs.Ungathered.{local_none}
use Rattle.typed_statements.proofs.SimplesInHeaders.{stepped, each_keeps, simples_keep, simples_still, simples_unmoved, each_goes}
use Rattle.typed_statements.proofs.StatedStatements.{closes_here}

-- ---- what the parts mean

-- Behind the start nothing waits, and it has gathered nothing.
pub record Starts (k : Setting) (a : Around) (at to : Point) (xs : List Statement) : Type 0 where
  pub typed : AllTyped k a at to xs
  pub ungathered : AllGatherNone xs
  pub none_awaited : to.marks.awaited ≡ None

pub record Conditions (k : Setting) (at to : Point) (test : Option Expression) : Type 0 where
  pub same_known : to.types.variables ≡ at.types.variables
  pub awaited : to.marks.awaited ≡ at.marks.awaited
  pub holds : (st : Standing) → Knows (place_at k at) st → is_condition k.around st test ≡ true

pub record Updated (k : Setting) (a : Around) (at to : Point) (xs : List Statement) : Type 0 where
  pub typed : AllTyped k a at to xs
  pub same_known : to.types.variables ≡ at.types.variables
  pub none_awaited : to.marks.awaited ≡ None

-- where nothing waits before
abbrev pub Updates : Setting → Around → Meaning (List Statement)
Updates k a at to xs = at.marks.awaited ≡ None → Updated k a at to xs

lists_stable : (k : Setting) (a : Around) → Stable k (AllTyped k a)
lists_stable k a = checks_stable k a (unmarked_list k.around) all_assigned

pub starts_stable : (k : Setting) (a : Around) → Stable k (Starts k a)
starts_stable k a =
    let lists = lists_stable k a in
    record {
      from = λ at mid to xs s c. record { typed = lists.from at mid to xs s c.typed; ungathered = c.ungathered; none_awaited = c.none_awaited };
      to = λ at mid to xs s c. record { typed = lists.to at mid to xs s c.typed; ungathered = c.ungathered; none_awaited = s.awaited ∙ c.none_awaited };
    }

pub updates_stable : (k : Setting) (a : Around) → Stable k (Updates k a)
updates_stable k a =
    let lists = lists_stable k a in
    record {
      from = λ at mid to xs s h none.
          let c = h (s.awaited ∙ none) in
          record { typed = lists.from at mid to xs s c.typed; same_known = c.same_known ∙ s.alike.known; none_awaited = c.none_awaited };
      to = λ at mid to xs s h none.
          let c = h none in
          record { typed = lists.to at mid to xs s c.typed; same_known = s.alike.known ∙ c.same_known; none_awaited = s.awaited ∙ c.none_awaited };
    }

-- ---- nothing waits in a header

unmerged_by : (o : Option Awaited) (u : MarkingWalk) → u.awaited ≡ o → (marks.unmerged_from o u).awaited ≡ None
unmerged_by None u is = is
unmerged_by (Some a) u is = refl

pub unmerged_awaits_none : (u : MarkingWalk) → (marks.unmerged u).awaited ≡ None
unfolding marks.unmerged
unmerged_awaits_none u = unmerged_by u.awaited u refl

pub init_awaits_none : (env : MarkingEnv) (init : ForInit) (u : MarkingWalk) → u.awaited ≡ None → (marking.init_walk env init u).awaited ≡ None
init_awaits_none env for_init.Nothing u none = (keeps_past env 1 u).none none
init_awaits_none env (for_init.Local l) u none = unmerged_awaits_none _
init_awaits_none env (for_init.Simples all) u none = (simples_keep env all u).none none

pub test_awaits_none : (env : MarkingEnv) (test : Option Expr) (u : MarkingWalk) → u.awaited ≡ None → (marking.test_walk env test u).awaited ≡ None
test_awaits_none env None u none = none
test_awaits_none env (Some x) u none = (expression_keeps env x Inside None u).none none

-- ---- the parts

-- the empty statement where no update is written
nothing_updates : (k : Setting) (a : Around) (at : Point) → IsPoint k at → Updates k a at at (nothing ∷ [])
nothing_updates k a at is none = record {
  typed = one_more k a at at at nothing [] (block_typed k a at at at [] none none (closes_here (stays k at is) refl) (none_typed k a at is)) (none_typed k a at is);
  same_known = refl;
  none_awaited = none;
}

module _ (leaves : LeavesGo) (k : Setting) (sound : IsSoundSomewhere k) (a : Around) where
  local_goes : (l : Local) (w : Walk) (u : MarkingWalk)
      → Goes k w (types_simples.local k.env l (past k.env 1 w)) u (marks.unmerged (marking_simples.local k.marks l (marks.past k.marks 1 u))) (list_of (local k.scope l ∷ [])) (Starts k a)
  local_goes l w u =
      let ones : Stable k (Typed k a) = checks_stable k a (unmarked k.around) assigned_in in
      let step : Walk → Local → Walk = λ w l. types_simples.local k.env l (past k.env 1 w) in
      let mark : MarkingWalk → Local → MarkingWalk = λ u l. marks.unmerged (marking_simples.local k.marks l (marks.past k.marks 1 u)) in
      let each : (l : Local) (w : Walk) (u : MarkingWalk) → Goes k w (step w l) u (mark u l) (local k.scope l) (Typed k a) = λ l w u.
      behind k ones (before k ones (past_still k.env 1 w) (past_unmoved k.marks 1 u) (leaves.locals k sound l a (past k.env 1 w) (marks.past k.marks 1 u)))
      (still (step w l)) (unmerged_merges_none (marking_simples.local k.marks l (marks.past k.marks 1 u))).moved in
      made_there k w (step w l) u (mark u l) (list_of (local k.scope l ∷ [])) (λ (xs : List Statement). xs)
      (λ c quiet way typed. record {
        typed = typed;
        ungathered = AllGatherNone.OneMore _ _ (local_none k.marks k.scope l (marks.past k.marks 1 u) c quiet) AllGatherNone.NoMore;
        none_awaited = unmerged_awaits_none _;
      })
      (list_goes k a step mark (local k.scope) each (l ∷ []) w u)

  simples_start : (all : List Simple) (w : Walk) (u : MarkingWalk) → u.in_header ≡ true → u.awaited ≡ None
      → Goes k w (types_simples.simples k.env all w) u (marking_simples.simples k.marks all u) (list_of (map (simple_of k.scope) all)) (Starts k a)
  simples_start all w u head none =
      behind k (starts_stable k a)
      (made_there k w (fold (λ w x. types_simples.simple_walk k.env x (past k.env 1 w)) w all) u (fold (stepped k.marks) u all) (list_of (map (simple_of k.scope) all)) (λ (xs : List Statement). xs)
      (λ c quiet way s. record { typed = s.typed; ungathered = s.ungathered head; none_awaited = (each_keeps k.marks all u).none none }) (each_goes leaves k sound a all w u none))
      (simples_still k.env all w) (simples_unmoved k.marks all u)

  nothing_starts : (w : Walk) (u : MarkingWalk) → u.awaited ≡ None → Goes k w (past k.env 1 w) u (marks.past k.marks 1 u) (λ c. read [] c) (Starts k a)
  nothing_starts w u none =
      behind k (starts_stable k a)
      (made_there k w w u u (λ c. read [] c) {First = AllTyped k a} (λ (xs : List Statement). xs) (λ c quiet way typed. record { typed = typed; ungathered = AllGatherNone.NoMore; none_awaited = none })
      (unread k w u [] (none_typed k a)))
      (past_still k.env 1 w) (past_unmoved k.marks 1 u)

  pub init_goes : (init : ForInit) (w : Walk) (u : MarkingWalk) → u.in_header ≡ true → u.awaited ≡ None
      → Goes k w (types.init_walk k.env init w) u (marking.init_walk k.marks init u) (init_of k.scope init) (Starts k a)
  init_goes for_init.Nothing w u head none = nothing_starts w u none
  init_goes (for_init.Local l) w u head none = local_goes l w u
  init_goes (for_init.Simples all) w u head none = simples_start all w u head none

  pub test_goes : (test : Option Expr) (w : Walk) (u : MarkingWalk) → Goes k w (types.test_walk k.env test w) u (marking.test_walk k.marks test u) (condition k.scope test) (Conditions k)
  test_goes None w u = unread k w u None (λ at is. record { same_known = refl; awaited = refl; holds = λ st h. refl })
  test_goes (Some x) w u =
      made k (λ (r : Resolved). Some r.expression) (λ at to r way t. record { same_known = t.same_known; awaited = t.awaited; holds = t.holds }) (leaves.tests k sound x w u)

  pub update_goes : (all : List Simple) (w : Walk) (u : MarkingWalk) → u.awaited ≡ None
      → Goes k w (types_simples.simples k.env all w) u (marking_simples.simples k.marks all u) (update_of k.scope all) (Updates k a)
  update_goes [] w u none =
      behind k (updates_stable k a) (unread k w u (nothing ∷ []) (nothing_updates k a)) (simples_still k.env [] w) (simples_unmoved k.marks [] u)
  update_goes (x ∷ all) w u none =
      behind k (updates_stable k a)
      (made_there k w (fold (λ w x. types_simples.simple_walk k.env x (past k.env 1 w)) w (x ∷ all)) u (fold (stepped k.marks) u (x ∷ all)) (list_of (map (simple_of k.scope) (x ∷ all)))
      (λ (xs : List Statement). xs)
      (λ c quiet way s. λ e. record { typed = s.typed; same_known = s.same_known; none_awaited = (each_keeps k.marks (x ∷ all) u).none none }) (each_goes leaves k sound a (x ∷ all) w u none))
      (simples_still k.env (x ∷ all) w) (simples_unmoved k.marks (x ∷ all) u)
