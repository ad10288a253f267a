-- The rules on expressions: which names and accesses stand where.
use Rattle.std.specs.Prelude.{ℕ, Bool, false, not, ◌&&◌, nat_eq, List, [], ◌∷◌, length, fold, Option, Some, None, is_some, if◌then◌else◌}
use Rattle.java_tree.specs.declared.tree.Expr.{Expr}
use Rattle.java_tree.specs.declared.tree.Value.{Value}
use Rattle.java_tree.specs.declared.tree.CallForm.{CallForm}
use Rattle.java_tree.specs.declared.tree.CallForm.TheOpen.{CallForm-F, Expr-F, Value-F}
use Rattle.java_tree.specs.declared.tree.CallForm.TheOpen as e
use Rattle.java_tree.specs.declared.tree.CallForm.TheFolds.{fold-CallForm, fold-Expr, fold-Value}
use Rattle.java_tree.specs.declared.types.Declaration.{Declaration}
use Rattle.java_tree.specs.declared.types.Declaration.TheVariants as declaration
use Rattle.annotations.specs.declared.site.Key.{Key}
use Rattle.annotations.specs.declared.site.Key.TheVariants as keys
use Rattle.annotations.specs.declared.position.Position.{Position}
use Rattle.annotations.specs.declared.position.Position.TheVariants.{Inside, Merged}
use Rattle.annotations.specs.declared.walk.Awaited.{Awaited}
use Rattle.annotations.specs.declared.walk.Env.{Env}
use Rattle.annotations.specs.declared.walk.Walk.{Walk}
use Rattle.annotations.specs.Positions.{is_for_merge, merges}
use Rattle.annotations.specs.Walks.{past, past_if, past_none, token_if, noted, noted_at, coming, taken, is_collection, named, unfit, unexpected, kind_at, is_merge_method, sited}
use Rattle.annotations.specs.Accesses.{accessed, literal_value, variable_key, reach_of}

-- An expression is read at a position, behind `@Global` at some token or not. As the first argument of an access it is a key.
pub record Reading : Type 0 where
  pub key : Walk → Key
  pub walk : Position → Option ℕ → Walk → Walk

pub record Argument : Type 0 where
  pub key : Walk → Key
  pub walk : Position → Walk → Walk

abbrev pub Calling : Type 0
Calling = Position → Option ℕ → Walk → Walk

abbrev pub inside : Reading → Walk → Walk
inside part w = part.walk Inside None w

-- ---- names

abbrev pub is_local : ℕ → Option Awaited → Bool
is_local n None = false
is_local n (Some a) = nat_eq n a.local

abbrev pub is_awaited : Option Declaration → Option Awaited → Bool
is_awaited (Some (declaration.Local n)) awaited = is_local n awaited
is_awaited _ awaited = false

-- A name is the `@Partial` local that the statement before declares, where it is to be merged.
abbrev pub is_merged : Env → Position → Option ℕ → Walk → Bool
is_merged env position global w = merges position && (is_some global && is_awaited (coming env w) w.awaited)

-- Rule 12: a merge method takes a name behind `@Global` alone.
abbrev pub alone : Position → Option ℕ → Walk → Walk
alone position None w = unfit position w
alone position (Some at) w = w

-- Rules 9, 10 and 12: a name of a variable that isn't merged. A collection stands before `.length` and `[e]` alone.
unfoldable pub unmerged_name : Env → Position → Option ℕ → Walk → Walk
unmerged_name env position global w = named env (noted (is_collection w (coming env w)) w.at 12 (noted_at global 10 (alone position global w)))

unfoldable pub variable : Env → Position → Option ℕ → Walk → Walk
variable env position global w =
    if is_merged env position global w then record (taken env w) { awaited = None } else unmerged_name env position global w

-- ---- arguments

abbrev pub arguments : Env → Position → List Argument → Walk → Walk
arguments env position args w = past env 1 (past_none env args (fold (λ w a. a.walk position (past env 1 w)) w args))

-- the first argument as a key
abbrev pub first_key : List Argument → Walk → Key
first_key [] w = keys.Compound
first_key (a ∷ more) w = a.key w

-- ---- calls

abbrev pub argument_position : Bool → ℕ → Bool → Position
argument_position of_merge at merging = if of_merge then Merged at merging else Inside

-- Rule 12: a call of a merge method has one argument.
unfoldable pub own_head : Env → ℕ → Walk → Walk
own_head env count w = taken env (noted (is_merge_method env (coming env w) && not (nat_eq count 1)) w.at 12 w)

-- A call merges where it is a whole value, and `@Global` doesn't stand before it.
abbrev pub own_call : Env → Position → Option ℕ → List Argument → Walk → Walk
own_call env position global args w =
    let n = noted_at global 10 w in
    arguments env (argument_position (is_merge_method env (coming env n)) n.at (is_for_merge position && not (is_some global))) args (own_head env (length args) n)

-- an access up to its arguments, of which the first is a key
unfoldable pub access_head : Env → ℕ → Position → Option ℕ → List ℕ → (Walk → Key) → Walk → Walk
access_head env field position global name key w =
    let o = taken env (accessed env field position global name w) in
    past env 2 (sited field (reach_of (kind_at env field) (is_some global) (key o)) o)

-- another call of a method of what a name stands for, up to its arguments
unfoldable pub dotted_head : Env → Option ℕ → Walk → Walk
dotted_head env global w = past env 2 (named env (noted_at global 10 w))

abbrev pub head_of : Env → Position → Option ℕ → List ℕ → (Walk → Key) → Option Declaration → Walk → Walk
head_of env position global name key (Some (declaration.Field n)) w = access_head env n position global name key w
head_of env position global name key _ w = dotted_head env global w

abbrev pub call_step : Env → CallForm-F Calling Reading Argument → Calling
call_step env (e.Own name args) position global w = own_call env position global args w
call_step env (e.Of object name args) position global w =
    arguments env Inside args (head_of env position global name (first_key args) (coming env w) w)
call_step env (e.OfMember object at name args) position global w =
    arguments env Inside args (past env 3 (inside at (past env 1 (named env (noted_at global 10 w)))))

-- ---- expressions

-- Parentheses round a literal or a name don't count.
abbrev pub key_step : Env → Expr-F Calling Reading Argument → Walk → Key
key_step env (e.Number digits decimal long) w = keys.Literal (literal_value digits long)
key_step env (e.Name name) w = variable_key (coming env w)
key_step env (e.Paren inner) w = inner.key w
key_step env _ w = keys.Compound

-- the parts of an expression, of which none is a whole
abbrev pub parts : Env → Expr-F Calling Reading Argument → Walk → Walk
parts env (e.Conditional test first second) w = inside second (past env 1 (inside first (past env 1 (inside test w))))
parts env (e.Binary op left right) w = inside right (past env 1 (inside left w))
parts env (e.Unary op operand) w = inside operand (past env 1 w)
parts env (e.Cast to operand) w = inside operand (past env 3 w)
parts env (e.Number digits decimal long) w = past env 1 w
parts env (e.Bool value) w = past env 1 w
parts env (e.Paren inner) w = past env 1 (inside inner (past env 1 w))
parts env (e.New name size) w = past env 1 (inside size (past env 3 w))
parts env (e.Name name) w = w
parts env (e.Index name at) w = past env 1 (inside at (past env 1 (named env w)))
parts env (e.Member object name) w = past env 2 (named env w)
parts env (e.Call call) w = w

abbrev pub walk_step : Env → Expr-F Calling Reading Argument → Position → Option ℕ → Walk → Walk
walk_step env (e.Name name) position global w = variable env position global w
walk_step env (e.Call call) position global w = call position global (unfit position w)
walk_step env layer position global w = parts env layer (unexpected position global w)

abbrev pub expr_step : Env → Expr-F Calling Reading Argument → Reading
expr_step env layer = record { key = key_step env layer; walk = walk_step env layer }

abbrev pub value_key : Bool → Key → Key
value_key is_global key = if is_global then keys.Compound else key

abbrev pub value_step : Env → Value-F Calling Reading Argument → Argument
value_step env v = record {
  key = λ w. value_key v.is_global (v.expr.key w);
  walk = λ position w. v.expr.walk position (token_if v.is_global w.at) (past_if env v.is_global 2 w);
}

abbrev pub expr_of : Env → Expr → Reading
expr_of env = fold-Expr Calling Reading Argument (call_step env) (expr_step env) (value_step env)

abbrev pub value_of : Env → Value → Argument
value_of env = fold-Value Calling Reading Argument (call_step env) (expr_step env) (value_step env)

abbrev pub call_of : Env → CallForm → Calling
call_of env = fold-CallForm Calling Reading Argument (call_step env) (expr_step env) (value_step env)
