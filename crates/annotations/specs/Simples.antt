-- The rules on declarations of locals, and on statements that are expressions.
use Rattle.std.specs.Prelude.{ℕ, Bool, false, not, ◌&&◌, List, [], ◌∷◌, ◌++◌, length, fold, Option, Some, None, if◌then◌else◌}
use Rattle.java_tree.specs.declared.tree.Local.{Local}
use Rattle.java_tree.specs.declared.tree.Simple.{Simple}
use Rattle.java_tree.specs.declared.tree.Simple.TheVariants as simple
use Rattle.java_tree.specs.declared.tree.Expr.{Expr, out-Expr}
use Rattle.java_tree.specs.declared.tree.Value.{Value, out-Value}
use Rattle.java_tree.specs.declared.tree.CallForm.{CallForm, out-CallForm}
use Rattle.java_tree.specs.declared.tree.CallForm.TheOpen.{CallForm-F, Expr-F}
use Rattle.java_tree.specs.declared.tree.CallForm.TheOpen as e
use Rattle.java_tree.specs.declared.types.Declaration.{Declaration}
use Rattle.java_tree.specs.declared.types.Declaration.TheVariants as declaration
use Rattle.annotations.specs.declared.position.Position.TheVariants.{Statement}
use Rattle.annotations.specs.declared.walk.Env.{Env}
use Rattle.annotations.specs.declared.walk.Walk.{Walk}
use Rattle.annotations.specs.Positions.{assigned_by, initialiser_of}
use Rattle.annotations.specs.Walks.{past, past_if, past_none, token_if, noted, coming, named, unmerged}
use Rattle.annotations.specs.Accesses.{answers_value, method_at}
use Rattle.annotations.specs.Expressions.{value_of, call_of}

-- ---- what a `@Partial` local is initialised with

abbrev pub answers_by : Env → List ℕ → Option Declaration → Bool
answers_by env name (Some (declaration.Field n)) = answers_value (method_at env n name)
answers_by env name _ = false

abbrev pub answers_call : {C E V : Type 0} → Env → Walk → CallForm-F C E V → Bool
answers_call env w (e.Own name args) = false
answers_call env w (e.Of object name args) = answers_by env name (coming env w)
answers_call env w (e.OfMember object at name args) = false

abbrev pub answers_layer : {E V : Type 0} → Env → Walk → Expr-F CallForm E V → Bool
answers_layer env w (e.Call call) = answers_call env w (out-CallForm call)
answers_layer env w _ = false

-- The expression that comes next is an access that answers a value.
abbrev pub answers : Env → Walk → Expr → Bool
answers env w x = answers_layer env w (out-Expr x)

-- So does it behind `@Global`.
abbrev pub gathers : Env → Walk → Value → Bool
gathers env w v = (out-Value v).is_global && answers env w (out-Value v).expr

-- ---- declarations

-- Rule 7: a local that is `@Partial` or not and begins at a token.
abbrev pub initialised : Env → Bool → ℕ → Option Value → Walk → Walk
initialised env is_partial at None w = noted is_partial at 7 w
initialised env is_partial at (Some v) w =
    let b = past env 1 w in
    (value_of env v).walk (initialiser_of is_partial) (noted (is_partial && not (gathers env b v)) at 7 b)

-- one more local, up to what follows its name
unfoldable pub declared : Env → Bool → ℕ → Walk → Walk
declared env is_partial at w = past env 2 (past_if env is_partial 2 (record w { locals = w.locals ++ token_if is_partial at ∷ [] }))

-- The next statement is to merge it.
unfoldable pub awaiting : Bool → ℕ → ℕ → Walk → Walk
awaiting is_partial local at w = if is_partial then record w { awaited = Some (record { local = local; token = at }) } else w

unfoldable pub local : Env → Local → Walk → Walk
local env l w =
    awaiting l.is_partial (length w.locals) w.at (unmerged (initialised env l.is_partial w.at l.value (declared env l.is_partial w.at w)))

-- ---- statements

abbrev pub call_alone : Env → Bool → CallForm → Walk → Walk
call_alone env is_global call w = call_of env call Statement (token_if is_global w.at) (past_if env is_global 2 w)

abbrev pub simple_walk : Env → Simple → Walk → Walk
simple_walk env (simple.Assign name op v) w = (value_of env v).walk (assigned_by op) (past env 1 (named env w))
simple_walk env (simple.PostIncrement name) w = past env 1 (named env w)
simple_walk env (simple.PostDecrement name) w = past env 1 (named env w)
simple_walk env (simple.PreIncrement name) w = named env (past env 1 w)
simple_walk env (simple.PreDecrement name) w = named env (past env 1 w)
simple_walk env (simple.Call is_global call) w = call_alone env is_global call w

-- simple statements with one token before each, and one where there is none
unfoldable pub simples : Env → List Simple → Walk → Walk
simples env all w = past_none env all (fold (λ w s. simple_walk env s (past env 1 w)) w all)
