-- The statements without statements inside, and the conditions: that they go, as the induction over statements asks it of them.
use Rattle.std.specs.Prelude.{◌≡◌, true, Option, None}
use Rattle.sdg_base.specs.declared.value_type.ValueType.TheVariants as type
use Rattle.java_tree.specs.declared.tree.BlockItem.TheOpen as s
use Rattle.java_tree.specs.declared.tree.Expr.{Expr}
use Rattle.java_tree.specs.declared.tree.ForHeader.{ForHeader}
use Rattle.java_tree.specs.declared.tree.Local.{Local}
use Rattle.java_tree.specs.declared.tree.Simple.{Simple}
use Rattle.java_tree.specs.declared.tree.Value.{Value}
use Rattle.java_types.specs.declared.statements.Around.{Around}
use Rattle.java_types.specs.declared.walk.Walk.{Walk}
use Rattle.java_types.specs.Statements as types
use Rattle.java_types.specs.Simples as types_simples
use Rattle.annotations.specs.declared.walk.Walk.{Walk as MarkingWalk}
use Rattle.annotations.specs.Expressions as marking_expressions
use Rattle.annotations.specs.Simples as marking_simples
use Rattle.annotations.specs.Statements as marking
use Rattle.annotations.specs.Walks.{unmerged}
use Rattle.access_blocks.specs.declared.body.Statement.{Statement}
use Rattle.access_blocks.specs.declared.resolved.Resolved.{Resolved}
use Rattle.access_blocks.specs.Resolving.{expression_of, wanted_by}
use Rattle.access_blocks.specs.ResolvingStatements.{Stating, local, simple_of, return_of, while_of, for_of}
use Rattle.body_code.specs.Checking.{Standing, takes}
use Rattle.typed_statements.specs.Points.{Setting, IsSoundSomewhere, Point, place_at, Knows}
use Rattle.typed_statements.specs.Goes.{Goes}
use Rattle.typed_statements.specs.Checks.{Typed}

-- between two points: a truth value wherever the variables in scope are known, with no name declared and nothing awaited
pub record Tested (k : Setting) (at to : Point) (r : Resolved) : Type 0 where
  pub same_known : to.types.variables ≡ at.types.variables
  pub same_variables : to.cursor.variables ≡ at.cursor.variables
  pub same_locals : to.cursor.locals ≡ at.cursor.locals
  pub same_marks : to.marks.locals ≡ at.marks.locals
  pub awaited : to.marks.awaited ≡ at.marks.awaited
  pub holds : (st : Standing) → Knows (place_at k at) st → takes k.around st r.expression type.Boolean ≡ true

-- between two points: typed; it declares no name for what is behind it, and nothing waits there
pub record Stated (k : Setting) (a : Around) (at to : Point) (s : Statement) : Type 0 where
  pub typed : Typed k a at to s
  pub same_known : to.types.variables ≡ at.types.variables
  pub none_awaited : to.marks.awaited ≡ None

-- A statement that merges what waits, or nothing, ends there.
pub record LeavesGo : Type 0 where
  pub locals : (k : Setting) → IsSoundSomewhere k → (l : Local) (a : Around) (w : Walk) (u : MarkingWalk)
      → Goes k w (types_simples.local k.env l w) u (marking_simples.local k.marks l u) (local k.scope l) (Typed k a)
  pub simples : (k : Setting) → IsSoundSomewhere k → (s : Simple) (a : Around) (w : Walk) (u : MarkingWalk)
      → Goes k w (types_simples.simple_walk k.env s w) u (unmerged (marking_simples.simple_walk k.marks s u)) (simple_of k.scope s) (Stated k a)
  pub tests : (k : Setting) → IsSoundSomewhere k → (test : Expr) (w : Walk) (u : MarkingWalk)
      → Goes k w (types.condition k.env test w) u (marking_expressions.inside (marking_expressions.expr_of k.marks test) u) (expression_of k.scope test) (Tested k)
  pub returns : (k : Setting) → IsSoundSomewhere k → (v : Option Value) (a : Around) (w : Walk) (u : MarkingWalk) → a.result ≡ wanted_by k.around.result
      → Goes k w (types.returned k.env a.result v w) u (unmerged (marking.returned k.marks v u)) (return_of k.scope (wanted_by k.around.result) v) (Stated k a)

-- Loops go where their bodies go.
pub record LoopsGo : Type 0 where
  pub whiles : (k : Setting) → IsSoundSomewhere k → (test : Expr) (a : Around) (body : types.Running) (marks : marking.Running) (reading : Stating)
      → ((w : Walk) (u : MarkingWalk) → Goes k w (body (types.in_loop a) w) u (marks u) reading (Stated k (types.in_loop a)))
      → (w : Walk) (u : MarkingWalk)
      → Goes k w (types.statement_step k.env (s.While test body) a w) u (marking.statement_step k.marks (s.While test marks) u) (while_of k.scope test reading) (Stated k a)
  pub fors : (k : Setting) → IsSoundSomewhere k → (header : ForHeader) (a : Around) (body : types.Running) (marks : marking.Running) (reading : Stating)
      → ((w : Walk) (u : MarkingWalk) → Goes k w (body (types.in_loop a) w) u (marks u) reading (Stated k (types.in_loop a)))
      → (w : Walk) (u : MarkingWalk)
      → Goes k w (types.statement_step k.env (s.For header body) a w) u (marking.statement_step k.marks (s.For header marks) u) (for_of k.scope header reading) (Stated k a)
