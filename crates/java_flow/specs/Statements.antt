-- Which statements can be reached and complete normally (JLS 14.22), and what is assigned behind each (JLS 16.2).
use Rattle.std.specs.Prelude.{ℕ, Bool, true, false, not, ◌&&◌, ◌||◌, List, [], ◌∷◌, Option, Some, None}
use Rattle.std.specs.List.{flat_map}
use Rattle.java_tree.specs.declared.token.Place.{Place}
use Rattle.java_tree.specs.declared.tree.Expr.{Expr}
use Rattle.java_tree.specs.declared.tree.Value.{Value}
use Rattle.java_tree.specs.declared.tree.Stmt.{Stmt}
use Rattle.java_tree.specs.declared.tree.ForInit.{ForInit}
use Rattle.java_tree.specs.declared.tree.ForInit.TheVariants as for_init
use Rattle.java_tree.specs.declared.tree.ForHeader.{ForHeader}
use Rattle.java_tree.specs.declared.tree.BlockItem.{BlockItem}
use Rattle.java_tree.specs.declared.tree.BlockItem.TheOpen.{BlockItem-F, Stmt-F}
use Rattle.java_tree.specs.declared.tree.BlockItem.TheOpen as s
use Rattle.java_tree.specs.declared.tree.BlockItem.TheFolds.{fold-BlockItem, fold-Stmt}
use Rattle.java_flow.specs.declared.branches.Test.{Test}
use Rattle.java_flow.specs.declared.verdict.Verdict.{Verdict}
use Rattle.java_flow.specs.Assigned.{Assigned, all_assigned, both, unless, out_of_scope}
use Rattle.java_flow.specs.Points.{Point, behind, begun, with_assigned, stopped}
use Rattle.java_flow.specs.Constants.{is_true, is_false}
use Rattle.java_flow.specs.Expressions.{judged, verdict_of}
use Rattle.java_flow.specs.Simples.{value_here, local_walk, simple_walk, simples_walk}

-- ---- conditions

abbrev pub told : Verdict → Test
told v = record { is_true = is_true v.constant; is_false = is_false v.constant; when_true = v.when_true; when_false = v.when_false }

abbrev pub test_of : Expr → Test
test_of x = told (verdict_of (judged x) false)

-- what stands for no condition (JLS 14.14.1.2)
abbrev pub always : Test
always = record { is_true = true; is_false = false; when_true = false; when_false = true }

abbrev pub test_walk : Expr → Point → Point
test_walk x p = (judged x).walk false p

-- ---- branches

-- what is known at the other branch: at its start, or at its end
pub record Branch : Type 0 where
  pub is_reachable : Bool
  pub assigned : Assigned

abbrev pub when_true : Test → Point → Point
when_true t p = with_assigned (unless t.when_true) p

-- where the condition is false
abbrev pub when_false : Test → Point → Branch
when_false t p = record { is_reachable = p.is_reachable; assigned = unless t.when_false p.assigned }

abbrev pub branch_end : Point → Branch
branch_end p = record { is_reachable = p.is_reachable; assigned = p.assigned }

-- a branch begins here
abbrev pub branch_start : Branch → Point → Point
branch_start b p = record p { is_reachable = b.is_reachable; assigned = b.assigned }

-- a branch ends here, and the other one has ended
abbrev pub joined : Branch → Point → Point
joined b p = record p { is_reachable = p.is_reachable || b.is_reachable; assigned = both p.assigned b.assigned }

-- from behind the condition on
abbrev pub if_walk : Test → (Point → Point) → Option (Point → Point) → Point → Point
if_walk t first None p = joined (when_false t p) (first (when_true t p))
if_walk t first (Some second) p =
    joined (branch_end (first (when_true t p))) (second (behind 1 (branch_start (when_false t p) (first (when_true t p)))))

-- ---- loops

-- what is known round a loop: where its condition is false, and of the loop that it stands in
pub record Outside : Type 0 where
  pub exit : Branch
  pub is_left : Bool
  pub at_breaks : Assigned
  pub at_continues : Assigned

abbrev pub outside : Test → Point → Outside
outside t p = record { exit = when_false t p; is_left = p.is_left; at_breaks = p.at_breaks; at_continues = p.at_continues }

-- A body is entered but where its condition is the constant `false`. Nothing has left it yet.
abbrev pub loop_start : Test → Point → Point
loop_start t p = record p {
  is_reachable = p.is_reachable && not t.is_false;
  assigned = unless t.when_true p.assigned;
  is_left = false;
  at_breaks = all_assigned;
  at_continues = all_assigned;
}

-- A loop completes normally where its condition isn't the constant `true`, or a reachable `break` leaves it.
abbrev pub loop_end : Test → Outside → Point → Point
loop_end t o p = record p {
  is_reachable = o.exit.is_reachable && (not t.is_true || p.is_left);
  assigned = both o.exit.assigned p.at_breaks;
  is_left = o.is_left;
  at_breaks = o.at_breaks;
  at_continues = o.at_continues;
}

abbrev pub while_walk : Test → (Point → Point) → Point → Point
while_walk t body p = loop_end t (outside t p) (body (loop_start t p))

-- a point of which only the places count
abbrev pub fresh : List Place → Point
fresh places = record {
  places = places;
  is_reachable = true;
  assigned = all_assigned;
  is_left = false;
  at_breaks = all_assigned;
  at_continues = all_assigned;
  findings = [];
}

-- elsewhere in the text
abbrev pub at_places : List Place → Point → Point
at_places places p = record p { places = places }

-- behind the update, whose text stands before the body's, and the parenthesis
abbrev pub behind_update : ForHeader → Point → Point
behind_update h p = behind 1 (at_places (simples_walk h.update (fresh p.places)).places p)

-- Before the update a variable is assigned where it is after the body and before each `continue`.
abbrev pub update_start : List Place → Point → Point
update_start places end = record end { places = places; assigned = both end.assigned end.at_continues }

-- from behind the body on; the places are the update's
abbrev pub for_end : Test → ForHeader → List Place → Outside → Point → Point
for_end t h places o end = at_places end.places (loop_end t o (simples_walk h.update (update_start places end)))

-- from behind the condition on
abbrev pub for_walk : Test → ForHeader → (Point → Point) → Point → Point
for_walk t h body p = for_end t h p.places (outside t p) (body (loop_start t (behind_update h p)))

abbrev pub init_walk : ForInit → Point → Point
init_walk for_init.Nothing p = behind 1 p
init_walk (for_init.Local l) p = local_walk l (behind 1 p)
init_walk (for_init.Simples all) p = simples_walk all p

abbrev pub init_names : ForInit → List (List ℕ)
init_names (for_init.Local l) = l.name ∷ []
init_names _ = []

abbrev pub header_test : Option Expr → Test
header_test None = always
header_test (Some x) = test_of x

abbrev pub header_test_walk : Option Expr → Point → Point
header_test_walk None p = p
header_test_walk (Some x) p = test_walk x p

-- ---- leaving

abbrev pub break_here : Point → Point
break_here p = stopped (record p { is_left = p.is_left || p.is_reachable; at_breaks = both p.at_breaks p.assigned })

abbrev pub continue_here : Point → Point
continue_here p = stopped (record p { at_continues = both p.at_continues p.assigned })

abbrev pub returned : Option Value → Point → Point
returned None p = p
returned (Some v) p = value_here v p

-- these locals' scope ends
abbrev pub scope_end : List (List ℕ) → Point → Point
scope_end names p = record p {
  assigned = out_of_scope names p.assigned;
  at_breaks = out_of_scope names p.at_breaks;
  at_continues = out_of_scope names p.at_continues;
}

-- ---- a statement, with what each one in it does in its place

pub record Item : Type 0 where
  -- the local that it declares, if it is a declaration
  pub names : List (List ℕ)
  pub walk : Point → Point

abbrev pub item_step : BlockItem-F Item (Point → Point) → Item
item_step (s.Local l) = record { names = l.name ∷ []; walk = λ p. behind 1 (local_walk l (begun p)) }
item_step (s.Stmt body) = record { names = []; walk = body }

abbrev pub items_walk : List Item → Point → Point
items_walk [] p = p
items_walk (i ∷ is) p = items_walk is (i.walk p)

abbrev pub block_walk : List Item → Point → Point
block_walk items p = scope_end (flat_map (λ i. i.names) items) (items_walk items (behind 1 p))

abbrev pub statement_step : Stmt-F Item (Point → Point) → Point → Point
statement_step (s.Block items) p = behind 1 (block_walk items (begun p))
statement_step s.Empty p = behind 1 (begun p)
statement_step (s.Simple x) p = behind 1 (simple_walk x (begun p))
statement_step (s.If test first second) p = if_walk (test_of test) first second (behind 1 (test_walk test (behind 2 (begun p))))
statement_step (s.While test body) p = while_walk (test_of test) body (behind 1 (test_walk test (behind 2 (begun p))))
statement_step (s.For h body) p =
    scope_end (init_names h.init) (for_walk (header_test h.test) h body (header_test_walk h.test (behind 1 (init_walk h.init (behind 1 (begun p))))))
statement_step s.Break p = behind 2 (break_here (begun p))
statement_step s.Continue p = behind 2 (continue_here (begun p))
statement_step (s.Return v) p = behind 1 (stopped (returned v (behind 1 (begun p))))

abbrev pub item_of : BlockItem → Item
item_of = fold-BlockItem Item (Point → Point) item_step statement_step

abbrev pub statement_walk : Stmt → Point → Point
statement_walk = fold-Stmt Item (Point → Point) item_step statement_step
