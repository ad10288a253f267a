-- Simple statements in the header of a loop go one after the other: nothing waits between them, and they declare no name.
use Rattle.std.proofs.Common.{◌≡◌, ℕ, Bool, true, false, List, [], ◌∷◌, length, map, fold, nat_eq, None, refl, ap, subst, ◌∙◌}
use Rattle.java_tree.specs.declared.tree.Simple.{Simple}
use Rattle.java_tree.specs.declared.tree.Simple.TheVariants as simple
use Rattle.java_types.specs.declared.statements.Around.{Around}
use Rattle.java_types.specs.declared.walk.Env.{Env}
use Rattle.java_types.specs.declared.walk.Walk.{Walk}
use Rattle.java_types.specs.Walks.{past, past_if}
use Rattle.java_types.specs.Simples.{simple_walk, simples}
use Rattle.annotations.specs.declared.position.Position.TheVariants.{Statement as Alone}
use Rattle.annotations.specs.declared.walk.Env.{Env as MarkingEnv}
use Rattle.annotations.specs.declared.walk.Walk.{Walk as MarkingWalk}
use Rattle.annotations.specs.Walks as marks
use Rattle.annotations.specs.Positions.{assigned_by}
use Rattle.annotations.specs.Simples as marking
use Rattle.access_blocks.specs.declared.body.Statement.{Statement}
use Rattle.access_blocks.specs.ResolvingStatements.{simple_of, list_of}
use Rattle.typed_statements.specs.Points.{Setting, Point, IsPoint, IsSoundSomewhere}
use Rattle.typed_statements.specs.Checks.{AllTyped}
use Rattle.typed_statements.specs.Goes.{Goes}
use Rattle.typed_statements.specs.Leaves.{Stated, LeavesGo}
use Rattle.typed_statements.proofs.Going.{Still, Unmoved, still}
use Rattle.typed_statements.proofs.InTurn.{Way, before, made_there}
use Rattle.typed_statements.proofs.Lists.{none_typed, one_more, list_means}
use Rattle.typed_statements.proofs.Steps.{past_still, past_unmoved, past_if_unmoved}
use Rattle.typed_statements.proofs.Keeping.{Keeps, kept, keeps_on, keeps_past, keeps_past_if, keeps_named, keeps_unmerged}
use Rattle.typed_statements.proofs.ExpressionsKeep.{value_keeps, call_keeps}
use Rattle.typed_statements.proofs.Gathering.{GathersNone, AllGatherNone}
use Rattle.typed_statements.proofs.Ungathered.{simple_none}
use Rattle.typed_statements.proofs.StatedStatements.{stated_stable}

-- ---- the walk of the rules on annotations

module _ (env : MarkingEnv) where
  pub simple_keeps : (x : Simple) (u : MarkingWalk) → Keeps u (marking.simple_walk env x u)
  simple_keeps (simple.Assign name op v) u = keeps_on (keeps_named env u) (keeps_on (keeps_past env 1 _) (value_keeps env v (assigned_by op) _))
  simple_keeps (simple.PostIncrement name) u = keeps_on (keeps_named env u) (keeps_past env 1 _)
  simple_keeps (simple.PostDecrement name) u = keeps_on (keeps_named env u) (keeps_past env 1 _)
  simple_keeps (simple.PreIncrement name) u = keeps_on (keeps_past env 1 u) (keeps_named env _)
  simple_keeps (simple.PreDecrement name) u = keeps_on (keeps_past env 1 u) (keeps_named env _)
  simple_keeps (simple.Call is_global call) u = keeps_on (keeps_past_if env is_global 2 u) (call_keeps env call Alone (marks.token_if is_global u.at) _)

  -- one behind a token, up to its end
  abbrev pub stepped : MarkingWalk → Simple → MarkingWalk
  stepped u x = marking.simple_walk env x (marks.past env 1 u)

  abbrev pub ended : MarkingWalk → Simple → MarkingWalk
  ended u x = marks.unmerged (stepped u x)

  stepped_keeps : (x : Simple) (u : MarkingWalk) → Keeps u (stepped u x)
  stepped_keeps x u = keeps_on (keeps_past env 1 u) (simple_keeps x _)

  merged_already : (u : MarkingWalk) → u.awaited ≡ None → marks.unmerged u ≡ u
  unfolding marks.unmerged
  merged_already u none = ap (λ o. marks.unmerged_from o u) none

  -- Where nothing waits before, nothing is merged at the end of each.
  pub ended_same : (xs : List Simple) (u : MarkingWalk) → u.awaited ≡ None → fold ended u xs ≡ fold stepped u xs
  ended_same [] u none = refl
  ended_same (x ∷ xs) u none =
      let e = (stepped_keeps x u).none none in
      ap (λ z. fold ended z xs) (merged_already (stepped u x) e) ∙ ended_same xs (stepped u x) e

  pub each_keeps : (xs : List Simple) (u : MarkingWalk) → Keeps u (fold stepped u xs)
  each_keeps [] u = kept u
  each_keeps (x ∷ xs) u = keeps_on (stepped_keeps x u) (each_keeps xs _)

  pub simples_keep : (xs : List Simple) (u : MarkingWalk) → Keeps u (marking.simples env xs u)
  unfolding marking.simples
  simples_keep xs u = keeps_on (each_keeps xs u) (keeps_past_if env (nat_eq (length xs) 0) 1 _)

-- ---- tokens that there may be

past_if_still : (env : Env) (test : Bool) (n : ℕ) (w : Walk) → Still w (past_if env test n w)
past_if_still env true n w = past_still env n w
past_if_still env false n w = still w

-- behind a list of them there is one token more where it is empty
pub simples_still : (env : Env) (xs : List Simple) (w : Walk) → Still (fold (λ w x. simple_walk env x (past env 1 w)) w xs) (simples env xs w)
unfolding simples
simples_still env xs w = past_if_still env (nat_eq (length xs) 0) 1 _

pub simples_unmoved : (env : MarkingEnv) (xs : List Simple) (u : MarkingWalk) → Unmoved (fold (stepped env) u xs) (marking.simples env xs u)
unfolding marking.simples
simples_unmoved env xs u = past_if_unmoved env (nat_eq (length xs) 0) 1 _

-- ---- what they mean

-- in a header one gathers nothing
pub record Simply (k : Setting) (a : Around) (at to : Point) (x : Statement) : Type 0 where
  pub stated : Stated k a at to x
  pub in_header : to.marks.in_header ≡ at.marks.in_header
  pub ungathered : at.marks.in_header ≡ true → GathersNone x

pub record AllSimply (k : Setting) (a : Around) (at to : Point) (xs : List Statement) : Type 0 where
  pub typed : AllTyped k a at to xs
  pub same_known : to.types.variables ≡ at.types.variables
  pub ungathered : at.marks.in_header ≡ true → AllGatherNone xs

none_simply : (k : Setting) (a : Around) (at : Point) → IsPoint k at → AllSimply k a at at []
none_simply k a at is = record { typed = none_typed k a at is; same_known = refl; ungathered = λ e. AllGatherNone.NoMore }

more_simply : (k : Setting) (a : Around) (at mid to : Point) (x : Statement) (xs : List Statement) → Way k at mid → Way k mid to → Simply k a at mid x → AllSimply k a mid to xs → AllSimply k a at to (x ∷ xs)
more_simply k a at mid to x xs p q one all = record {
  typed = one_more k a at mid to x xs one.stated.typed all.typed;
  same_known = all.same_known ∙ one.stated.same_known;
  ungathered = λ e. AllGatherNone.OneMore x xs (one.ungathered e) (all.ungathered (one.in_header ∙ e));
}

module _ (leaves : LeavesGo) (k : Setting) (sound : IsSoundSomewhere k) (a : Around) where
  simple_goes : (x : Simple) (w : Walk) (u : MarkingWalk) → Goes k w (simple_walk k.env x (past k.env 1 w)) u (ended k.marks u x) (simple_of k.scope x) (Simply k a)
  simple_goes x w u =
      let s = before k (stated_stable k a) (past_still k.env 1 w) (past_unmoved k.marks 1 u) (leaves.simples k sound x a (past k.env 1 w) (marks.past k.marks 1 u)) in
      made_there k w (simple_walk k.env x (past k.env 1 w)) u (ended k.marks u x) (simple_of k.scope x) (λ (z : Statement). z)
      (λ c quiet way stated. record {
        stated = stated;
        in_header = (keeps_unmerged k.marks (stepped k.marks u x)).in_header ∙ (stepped_keeps k.marks x u).in_header;
        ungathered = λ head. simple_none k.marks k.scope x (marks.past k.marks 1 u) c ((keeps_past k.marks 1 u).in_header ∙ head) ((keeps_unmerged k.marks (stepped k.marks u x)).back quiet);
      }) s

  -- up to the token behind them where there is one
  pub each_goes : (xs : List Simple) (w : Walk) (u : MarkingWalk) → u.awaited ≡ None
      → Goes k w (fold (λ w x. simple_walk k.env x (past k.env 1 w)) w xs) u (fold (stepped k.marks) u xs) (list_of (map (simple_of k.scope) xs)) (AllSimply k a)
  each_goes xs w u none =
      subst (λ (x : MarkingWalk). Goes k w (fold (λ w x. simple_walk k.env x (past k.env 1 w)) w xs) u x (list_of (map (simple_of k.scope) xs)) (AllSimply k a)) (ended_same k.marks xs u none)
      (list_means k (Simply k a) (AllSimply k a) (λ w x. simple_walk k.env x (past k.env 1 w)) (ended k.marks) (simple_of k.scope) (none_simply k a) (more_simply k a) simple_goes xs w u)
