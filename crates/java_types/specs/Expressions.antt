-- The rules on expressions, and their types.
use Rattle.std.specs.Prelude.{ℕ, ◌+◌, Bool, true, false, not, ◌&&◌, ◌||◌, nat_eq, List, [], ◌∷◌, ◌++◌, length, fold, slice_get, Option, Some, None, unwrap_or, if◌then◌else◌}
use Rattle.sdg_base.specs.declared.operator.BinOp.{BinOp}
use Rattle.sdg_base.specs.declared.operator.UnOp.{UnOp}
use Rattle.sdg_base.specs.declared.val.Num.{Num}
use Rattle.java_tree.specs.declared.tree.Expr.{Expr}
use Rattle.java_tree.specs.declared.tree.Value.{Value}
use Rattle.java_tree.specs.declared.tree.CallForm.{CallForm}
use Rattle.java_tree.specs.declared.tree.CallForm.TheOpen.{CallForm-F, Expr-F, Value-F}
use Rattle.java_tree.specs.declared.tree.CallForm.TheOpen as e
use Rattle.java_tree.specs.declared.tree.CallForm.TheFolds.{fold-CallForm, fold-Expr, fold-Value}
use Rattle.java_tree.specs.declared.types.ValueType.TheVariants as value_types
use Rattle.java_tree.specs.declared.types.ExprType.{ExprType}
use Rattle.java_tree.specs.declared.types.ExprType.TheVariants as types
use Rattle.java_tree.specs.declared.types.Declaration.TheVariants as declaration
use Rattle.java_types.specs.declared.fits.Sort.{Sort}
use Rattle.java_types.specs.declared.fits.Sort.TheVariants as sort
use Rattle.java_types.specs.declared.expressions.Operand.{Operand}
use Rattle.java_types.specs.declared.methods.Params.TheVariants as params
use Rattle.java_types.specs.declared.methods.Shape.{Shape}
use Rattle.java_types.specs.declared.walk.Env.{Env}
use Rattle.java_types.specs.declared.walk.Given.{Given}
use Rattle.java_tree.specs.declared.method_kinds.MethodKind.{MethodKind}
use Rattle.java_tree.specs.declared.method_kinds.MethodKind.TheVariants.{Entry, Helper, Merge}
use Rattle.java_types.specs.declared.walk.Signature.{Signature}
use Rattle.java_types.specs.declared.walk.Walk.{Walk}
use Rattle.java_types.specs.Fits.{is_known, unless, with_part, item_type, may_be_number, may_be_boolean, may_be_collection, may_be_passed, may_have_length, fits, sort_of, is_operand, are_vectors_compared, misfits_behind, outcome, choice, takes, type_of_num, literal, is_minimum, is_minus, made_type}
use Rattle.java_types.specs.Methods.{params_of, method_of}
use Rattle.java_types.specs.Names.{entry_of}
use Rattle.java_types.specs.Walks.{Typing, Tested, past, past_if, noted, opened, closed, named, used, called}
use Rattle.java_tree.specs.Words.{is_type, is_vector_name}

-- ---- rules, each for the parts of one expression

-- Rule 7: what does not fit an operator.
unfoldable pub clash : Sort → ℕ → Operand → Operand → Walk → Tested
clash s at a b w =
    if are_vectors_compared s a.found b.found then record { holds = true; walk = noted true at 7 w }
    else record {
      holds = not (is_operand s a.found) || misfits_behind s a.found b.found;
      walk = noted (misfits_behind s a.found b.found) b.at 7 (noted (not (is_operand s a.found)) a.at 7 w);
    }

unfoldable pub operated : BinOp → Operand → Operand → Walk → Typing
operated op a b w =
    let t = clash (sort_of op) a.at a b w in
    record { found = outcome t.holds (sort_of op) a.found b.found; walk = t.walk }

unfoldable pub chosen : Operand → Operand → Operand → Walk → Typing
chosen test a b w =
    let untested = not (may_be_boolean test.found) in
    let t = clash sort.Equality test.at a b (noted untested test.at 7 w) in
    record { found = choice (untested || t.holds) test.found a.found b.found; walk = t.walk }

unfoldable pub unary : UnOp → Operand → Walk → Typing
unary op a w =
    let broken = not (takes op a.found) in
    record { found = unless broken a.found; walk = noted broken a.at 7 w }

unfoldable pub cast : Num → Operand → Walk → Typing
cast to a w =
    let broken = not (may_be_number a.found) in
    record { found = with_part broken a.found (type_of_num to); walk = noted broken a.at 7 w }

-- Rule 1: a literal that stands behind a minus alone.
unfoldable pub number : Env → Bool → Bool → Walk → Typing
number env broken long w = record { found = unless broken (literal long); walk = past env 1 (noted broken w.at 1 w) }

-- Rules 3 and 6: `new` with a name, up to its argument. Only vectors are made of a number.
unfoldable pub made : Env → List ℕ → Walk → Tested
made env name w =
    let declared = is_type env.class_name name in
    let behind = past env 1 w in
    record {
      holds = is_vector_name name;
      walk = past env 2 (noted (declared && not (is_vector_name name)) w.at 6 (noted (not declared) behind.at 3 behind));
    }

-- Rule 7: a size or an index is an `int`.
unfoldable pub sized : ExprType → Operand → Walk → Typing
sized whole a w =
    let broken = not (fits (types.Value value_types.Int) a.found) in
    record { found = with_part broken a.found whole; walk = noted broken a.at 7 w }

-- Rule 7: only collections have members.
unfoldable pub indexed : Env → List ℕ → Walk → Typing
indexed env name w =
    let t = named env name w in
    record { found = item_type t.found; walk = noted (not (may_be_collection t.found)) w.at 7 (past env 1 t.walk) }

-- Rule 3: a name behind a dot.
unfoldable pub member : Env → List ℕ → List ℕ → Walk → Typing
member env object name w =
    let t = named env object w in
    let behind = past env 1 t.walk in
    let broken = not (may_have_length t.found name) in
    record { found = with_part broken t.found (types.Value value_types.Int); walk = past env 1 (noted broken behind.at 3 behind) }

-- Rule 7: what is passed for a parameter.
unfoldable pub passed : ExprType → Given → ℕ → Walk → Tested
passed wanted given at w =
    let fit = may_be_passed wanted given in
    record { holds = fit && is_known given.found; walk = noted (not fit) at 7 w }

abbrev pub is_entry : MethodKind → Bool
is_entry Entry = true
is_entry Helper = false
is_entry Merge = false

abbrev pub refused_call : Signature → Walk → Tested
refused_call s w = if is_entry s.kind then record { holds = true; walk = w } else called s.number w

-- Rules 6 and 13, where a method of this signature is called with as many arguments.
abbrev pub sound_call : ℕ → ℕ → Signature → Walk → Typing
sound_call at count s w =
    let r = refused_call s w in
    let miscounted = not (nat_eq (length s.params) count) in
    record { found = unless (r.holds || miscounted) s.result; walk = noted miscounted at 6 (noted r.holds at 13 r.walk) }

-- A call of a method whose declaration breaks a rule has no type, and breaks none.
abbrev pub called_by : ℕ → ℕ → Signature → Walk → Typing
called_by at count s w = if s.is_sound then sound_call at count s w else record { found = types.Unknown; walk = w }

abbrev pub own_of : ℕ → ℕ → Walk → Option Signature → Typing
own_of at count w None = record { found = types.Unknown; walk = noted true at 3 w }
own_of at count w (Some s) = called_by at count s (record w { names = w.names ++ declaration.Method s.number ∷ [] })

unfoldable pub own : Env → List ℕ → ℕ → Walk → Typing
own env name count w = own_of w.at count (past env 1 w) (entry_of name env.methods)

abbrev pub params_in : Option Signature → List ExprType
params_in None = []
params_in (Some s) = if s.is_sound then s.params else []

unfoldable pub own_params : Env → List ℕ → List ExprType
own_params env name = params_in (entry_of name env.methods)

-- a method of what stands before the dot: its parameters, the type of a call, and what is known then
pub record Callee : Type 0 where
  pub shape : Shape
  pub walk : Walk

-- Rules 3 and 6.
abbrev pub callee_of : ℕ → ℕ → ℕ → Bool → Walk → Option Shape → Callee
callee_of at name_at count known w None = record { shape = record { params = params.Nothing; result = types.Unknown }; walk = noted known name_at 3 w }
callee_of at name_at count known w (Some s) =
    let miscounted = not (nat_eq (length (params_of s.params)) count) in
    record { shape = record { params = s.params; result = unless miscounted s.result }; walk = noted miscounted at 6 w }

unfoldable pub of : Env → ℕ → ExprType → List ℕ → ℕ → Walk → Callee
of env at owner name count w =
    let behind = past env 1 w in
    callee_of at behind.at count (is_known owner) (past env 1 behind) (method_of owner name)

-- ---- expressions

-- An expression is read where it is the operand of a minus or is not; an argument has a type and whether `@Global` stands before it.
abbrev pub Reading : Type 0
Reading = Bool → Walk → Typing

pub record Passing : Type 0 where
  pub given : Given
  pub walk : Walk

abbrev pub Argument : Type 0
Argument = Walk → Passing

abbrev pub Calling : Type 0
Calling = Walk → Typing

-- a part with the number of its first token
pub record Placed : Type 0 where
  pub operand : Operand
  pub walk : Walk

abbrev pub placed : Reading → Bool → Walk → Placed
placed part negated w = record { operand = record { found = (part negated w).found; at = w.at }; walk = (part negated w).walk }

abbrev pub conditional : Env → Reading → Reading → Reading → Walk → Typing
conditional env test first second w =
    let t = placed test false w in
    let a = placed first false (past env 1 t.walk) in
    let b = placed second false (past env 1 a.walk) in
    chosen t.operand a.operand b.operand b.walk

abbrev pub binary : Env → BinOp → Reading → Reading → Walk → Typing
binary env op left right w =
    let a = placed left false w in
    let b = placed right false (past env 1 a.walk) in
    operated op a.operand b.operand b.walk

abbrev pub behind_operator : Env → UnOp → Reading → Walk → Typing
behind_operator env op part w = let a = placed part (is_minus op) (past env 1 w) in unary op a.operand a.walk

abbrev pub behind_type : Env → Num → Reading → Walk → Typing
behind_type env to part w = let a = placed part false (past env 3 w) in cast to a.operand a.walk

abbrev pub in_parentheses : Env → Reading → Walk → Typing
in_parentheses env part w = let t = part false (past env 1 w) in record { found = t.found; walk = past env 1 t.walk }

abbrev pub made_of : Env → List ℕ → Reading → Walk → Typing
made_of env name size w =
    let m = made env name w in
    let a = placed size false m.walk in
    sized (made_type m.holds) a.operand (past env 1 a.walk)

abbrev pub item : Env → List ℕ → Reading → Walk → Typing
item env name index w =
    let t = indexed env name w in
    let a = placed index false t.walk in
    sized t.found a.operand (past env 1 a.walk)

abbrev pub called_value : Calling → Walk → Typing
called_value call w = used w.at (call w)

-- The parts of an expression, each with its own reading.
abbrev pub parts : Env → Expr-F Calling Reading Argument → Bool → Walk → Typing
parts env (e.Conditional test first second) negated w = conditional env test first second w
parts env (e.Binary op left right) negated w = binary env op left right w
parts env (e.Unary op operand) negated w = behind_operator env op operand w
parts env (e.Cast to operand) negated w = behind_type env to operand w
parts env (e.Number digits decimal long) negated w = number env (is_minimum digits decimal long && not negated) long w
parts env (e.Bool value) negated w = record { found = types.Value value_types.Boolean; walk = past env 1 w }
parts env (e.Paren inner) negated w = in_parentheses env inner w
parts env (e.New name size) negated w = made_of env name size w
parts env (e.Name name) negated w = named env name w
parts env (e.Index name at) negated w = item env name at w
parts env (e.Member object name) negated w = member env object name w
parts env (e.Call call) negated w = called_value call w

abbrev pub typed : Walk → Typing → Typing
typed w t = record { found = t.found; walk = closed (length w.types) t.found t.walk }

abbrev pub expr_step : Env → Expr-F Calling Reading Argument → Reading
expr_step env layer negated w = typed w (parts env layer negated (opened w))

abbrev pub passing : Bool → Typing → Passing
passing is_global t = record { given = record { is_global = is_global; found = t.found }; walk = t.walk }

abbrev pub value_step : Env → Value-F Calling Reading Argument → Argument
value_step env v w = passing v.is_global (v.expr false (past_if env v.is_global 2 w))

-- ---- calls

-- arguments so far: how many, whether all fit, and what is known then
pub record Argued : Type 0 where
  pub count : ℕ
  pub fit : Bool
  pub walk : Walk

abbrev pub param_at : List ExprType → ℕ → ExprType
param_at params at = unwrap_or (slice_get params at) types.Unknown

-- one argument, with the token before it
abbrev pub argument : Env → ExprType → Argument → Walk → Tested
argument env wanted part w = let p = part (past env 1 w) in passed wanted p.given (past env 1 w).at p.walk

abbrev pub argued : Env → List ExprType → Argued → Argument → Argued
argued env params a part =
    let t = argument env (param_at params a.count) part a.walk in
    record { count = a.count + 1; fit = a.fit && t.holds; walk = t.walk }

abbrev pub all_argued : Env → List ExprType → List Argument → Walk → Argued
all_argued env params args w = fold (argued env params) (record { count = 0; fit = true; walk = w }) args

-- Where there is nothing in parentheses, the opening one is still to be passed.
abbrev pub past_none : {A : Type 0} → Env → List A → Walk → Walk
past_none env xs w = past_if env (nat_eq (length xs) 0) 1 w

abbrev pub arguments : Env → List ExprType → List Argument → Walk → Tested
arguments env params args w =
    let a = all_argued env params args w in
    record { holds = a.fit; walk = past env 1 (past_none env args a.walk) }

abbrev pub answered : ExprType → Tested → Typing
answered t a = record { found = unless (not a.holds) t; walk = a.walk }

abbrev pub own_call : Env → List ℕ → List Argument → Calling
own_call env name args w =
    let t = own env name (length args) w in
    answered t.found (arguments env (own_params env name) args t.walk)

abbrev pub call_of : Env → ℕ → Typing → List ℕ → List Argument → Typing
call_of env at t name args =
    let c = of env at t.found name (length args) t.walk in
    answered c.shape.result (arguments env (params_of c.shape.params) args c.walk)

abbrev pub call_step : Env → CallForm-F Calling Reading Argument → Calling
call_step env (e.Own name args) w = own_call env name args w
call_step env (e.Of object name args) w = call_of env w.at (named env object w) name args
call_step env (e.OfMember object at name args) w = call_of env w.at (item env object at w) name args

abbrev pub expr_walk : Env → Expr → Reading
expr_walk env = fold-Expr Calling Reading Argument (call_step env) (expr_step env) (value_step env)

abbrev pub value_walk : Env → Value → Argument
value_walk env = fold-Value Calling Reading Argument (call_step env) (expr_step env) (value_step env)

abbrev pub call_walk : Env → CallForm → Calling
call_walk env = fold-CallForm Calling Reading Argument (call_step env) (expr_step env) (value_step env)
