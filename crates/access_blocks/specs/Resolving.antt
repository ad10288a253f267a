-- The expressions of a method, resolved: a name is what the rules on types found it to stand for, and a cast stands where
-- Java converts (JLS 5.6, 15.25).
use Rattle.std.specs.Prelude.{ℕ, Bool, true, false, ◌&&◌, ◌||◌, ◌==◌, List, [], ◌∷◌, ◌++◌, length, map, fold, remove, nat_lt, slice_get, slice_index_or, unwrap_or, Option, Some, None, if◌then◌else◌, codes}
use Rattle.std.specs.Int.{cast_signed, w64}
use Rattle.std.specs.Str.{bytes_eq}
use Rattle.sdg_base.specs.declared.operator.BinOp.{BinOp}
use Rattle.sdg_base.specs.declared.operator.BinOp.TheVariants as bin
use Rattle.sdg_base.specs.declared.operator.UnOp.{UnOp}
use Rattle.sdg_base.specs.declared.operator.UnOp.TheVariants as un
use Rattle.sdg_base.specs.declared.store.ClassName.{ClassName}
use Rattle.sdg_base.specs.declared.store.ClassName.TheVariants.{Table}
use Rattle.sdg_base.specs.declared.val.Num.{Num}
use Rattle.sdg_base.specs.declared.val.Num.TheVariants as num
use Rattle.sdg_base.specs.declared.value_type.ValueType.{ValueType as SignatureType}
use Rattle.sdg_base.specs.declared.value_type.ValueType.TheVariants as signature_types
use Rattle.sdg_base.specs.Arithmetic.{wrap}
use Rattle.sdg_base.specs.Signatures.{Signature, state_method, vector_method}
use Rattle.java_tree.specs.declared.tree.Expr.{Expr}
use Rattle.java_tree.specs.declared.tree.Value.{Value as Written}
use Rattle.java_tree.specs.declared.tree.CallForm.{CallForm}
use Rattle.java_tree.specs.declared.tree.CallForm.TheOpen.{CallForm-F, Expr-F, Value-F}
use Rattle.java_tree.specs.declared.tree.CallForm.TheOpen as e
use Rattle.java_tree.specs.declared.tree.CallForm.TheFolds.{fold-CallForm, fold-Expr, fold-Value}
use Rattle.java_tree.specs.declared.types.ValueType.TheVariants.{Int, Long, Boolean, Vector}
use Rattle.java_tree.specs.declared.types.ExprType.{ExprType}
use Rattle.java_tree.specs.declared.types.ExprType.TheVariants.{Unknown, Void, Value}
use Rattle.java_tree.specs.declared.types.Declaration.{Declaration}
use Rattle.java_tree.specs.declared.types.Declaration.TheVariants as declaration
use Rattle.annotations.specs.declared.site.Key.{Key}
use Rattle.annotations.specs.declared.site.Key.TheVariants as key
use Rattle.annotations.specs.declared.site.Reach.{Reach}
use Rattle.annotations.specs.declared.site.Reach.TheVariants as reach
use Rattle.annotations.specs.declared.site.Site.{Site}
use Rattle.state_classes.specs.declared.method.Method.{Method}
use Rattle.access_blocks.specs.declared.body.Choice.{Choice}
use Rattle.access_blocks.specs.declared.body.Choice.TheVariants as choice
use Rattle.access_blocks.specs.declared.body.Expression.{Expression}
use Rattle.access_blocks.specs.declared.body.Expression.TheVariants as x
use Rattle.access_blocks.specs.declared.body.Target.TheVariants.{Dropped}
use Rattle.access_blocks.specs.declared.scope.Header.{Header}
use Rattle.access_blocks.specs.declared.scope.Scope.{Scope}
use Rattle.access_blocks.specs.declared.resolved.Invoked.{Invoked}
use Rattle.access_blocks.specs.declared.resolved.Invoked.TheVariants as invoked
use Rattle.access_blocks.specs.declared.resolved.Resolved.{Resolved}
use Rattle.access_blocks.specs.Cursors.{Cursor, Read, read, type_here, behind_type, name_here, behind_name, site_here, behind_site, variable_of}
use Rattle.state_classes.specs.Methods.{method_named}

-- ---- conversions

abbrev pub is_long : ExprType → Bool
is_long (Value Long) = true
is_long _ = false

-- a number of one type where a number of another is wanted
abbrev pub converted_to : ExprType → ExprType → Expression → Expression
converted_to (Value Long) (Value Int) a = x.Cast num.Long a
converted_to (Value Int) (Value Long) a = x.Cast num.Int a
converted_to _ _ a = a

-- Where one of two operands is a long, both are (JLS 5.6).
abbrev pub promoted : ExprType → ExprType → ExprType
promoted a b = if is_long a || is_long b then Value Long else a

abbrev pub taken : ExprType → Resolved → Expression
taken wanted r = converted_to wanted r.found r.expression

abbrev pub resolved : Expression → ExprType → Resolved
resolved a t = record { expression = a; found = t; is_minimum = false }

-- ---- parts of expressions

abbrev pub is_shift : BinOp → Bool
is_shift bin.Shl = true
is_shift bin.Shr = true
is_shift bin.UShr = true
is_shift _ = false

-- A shift has the type of its left operand, and its distance is an int (JLS 15.19).
abbrev pub operated : BinOp → Resolved → Resolved → Expression
operated op a b =
    if is_shift op then x.Binary op a.expression (taken (Value Int) b)
    else x.Binary op (taken (promoted a.found b.found) a) (taken (promoted a.found b.found) b)

-- the type of what it gives where it isn't a comparison
abbrev pub operated_type : BinOp → ExprType → ExprType → ExprType
operated_type op a b = if is_shift op then a else promoted a b

abbrev pub chosen_between : ExprType → Resolved → Resolved → Resolved → Expression
chosen_between t test a b = x.Conditional test.expression (taken t a) (taken t b)

abbrev pub vector_of : Resolved → Expression
vector_of size = x.NewVector (taken (Value Int) size)

abbrev pub gathered_at : Resolved → Expression
gathered_at at = x.Gathered (taken (Value Int) at)

-- The literal that a minus alone may stand before has its value already.
abbrev pub negated : UnOp → Resolved → Expression
negated un.Plus a = a.expression
negated un.Minus a = if a.is_minimum then a.expression else x.Unary un.Minus a.expression
negated op a = x.Unary op a.expression

abbrev pub number_type : Num → ExprType
number_type num.Int = Value Int
number_type num.Long = Value Long

-- A literal is what its digits write in two's complement (JLS 3.10.1).
abbrev pub literal : ℕ → Bool → Expression
literal digits true = x.Long (cast_signed w64 digits)
literal digits false = x.Int (wrap num.Int (cast_signed w64 digits))

-- the decimal literals of the least numbers
abbrev pub is_minimum : ℕ → Bool → Bool → Bool
is_minimum digits decimal long = decimal && digits == (if long then 0x8000000000000000 else 0x80000000)

abbrev pub number : ℕ → Bool → Bool → ExprType → Resolved
number digits decimal long t = record { expression = literal digits long; found = t; is_minimum = is_minimum digits decimal long }

-- ---- calls

abbrev pub header_at : Scope → Option Declaration → Option Header
header_at scope (Some (declaration.Method m)) = slice_get scope.methods m
header_at scope _ = None

abbrev pub params_of : Option Header → List ExprType
params_of None = []
params_of (Some h) = h.params

abbrev pub own_call : ℕ → Option Header → List Expression → Invoked
own_call m None args = invoked.Value x.Nothing
own_call m (Some h) args = if h.is_merge then invoked.Value (x.Merge m) else invoked.Value (x.Call m args)

abbrev pub own : Option Declaration → Option Header → List Expression → Invoked
own (Some (declaration.Method m)) h args = own_call m h args
own _ h args = invoked.Value x.Nothing

abbrev pub wanted_by : SignatureType → ExprType
wanted_by signature_types.Int = Value Int
wanted_by signature_types.Long = Value Long
wanted_by signature_types.Boolean = Value Boolean
wanted_by signature_types.Vector = Value Vector
wanted_by signature_types.Void = Void

abbrev pub params_by : Option Signature → List ExprType
params_by None = []
params_by (Some s) = map wanted_by s.arguments

abbrev pub argument : List Expression → ℕ → Expression
argument args n = slice_index_or args n x.Nothing

-- the other arguments
abbrev pub without_argument : List Expression → ℕ → List Expression
without_argument args n = if nat_lt n (length args) then remove args n else args

-- a method of the vector in a variable
abbrev pub vector_call : ℕ → List ℕ → List Expression → Invoked
vector_call v name args =
    if bytes_eq name (codes "size") then invoked.Value (x.VectorSize v)
    else (if bytes_eq name (codes "get") then invoked.Value (x.VectorElement v (argument args 0))
    else (if bytes_eq name (codes "set") then invoked.Sets v (argument args 0) (argument args 1) else invoked.Value x.Nothing))

-- a method of a gathered vector
abbrev pub member_call : Expression → List ℕ → List Expression → Invoked
member_call at name args =
    if bytes_eq name (codes "size") then invoked.Value (x.GatheredSize at)
    else (if bytes_eq name (codes "get") then invoked.Value (x.GatheredElement at (argument args 0)) else invoked.Value x.Nothing)

-- ---- accesses

abbrev pub class_at : Scope → ℕ → ClassName
class_at scope field = unwrap_or (slice_get scope.fields field) Table

abbrev pub chosen_by : Cursor → Key → Choice
chosen_by c (key.Literal n) = choice.Literal n
chosen_by c (key.Variable d) = choice.Variable (variable_of c (Some d))
chosen_by c key.Compound = choice.Compound

abbrev pub chosen_in : Cursor → Reach → Choice
chosen_in c (reach.Key k) = chosen_by c k
chosen_in c _ = choice.Instance

abbrev pub chosen : Cursor → Option Site → Choice
chosen c None = choice.Instance
chosen c (Some s) = chosen_in c s.reach

abbrev pub accessed : ℕ → Choice → Option Method → List Expression → Invoked
accessed field how None args = invoked.Value x.Nothing
accessed field how (Some m) args = invoked.Accesses (record { target = Dropped; field = field; choice = how; method = m; args = args })

-- ---- expressions

abbrev pub Resolving : Type 0
Resolving = Cursor → Read Resolved

abbrev pub Calling : Type 0
Calling = Cursor → Read Invoked

abbrev pub from : Resolving → (Resolved → Expression) → ExprType → Cursor → Read Resolved
from part f t c = read (resolved (f (part c).it) t) (part c).cursor

abbrev pub conditional : Resolving → Resolving → Resolving → ExprType → Cursor → Read Resolved
conditional test first second t c =
    let p = test c in
    let a = first p.cursor in
    let b = second a.cursor in
    read (resolved (chosen_between t p.it a.it b.it) t) b.cursor

abbrev pub binary : BinOp → Resolving → Resolving → ExprType → Cursor → Read Resolved
binary op left right t c =
    let a = left c in
    let b = right a.cursor in
    read (resolved (operated op a.it b.it) t) b.cursor

abbrev pub expression_in : Invoked → Expression
expression_in (invoked.Value a) = a
expression_in _ = x.Nothing

-- with the type of the whole, which comes before those of its parts
abbrev pub parts : Scope → Expr-F Calling Resolving Resolving → ExprType → Cursor → Read Resolved
parts scope (e.Conditional test first second) t c = conditional test first second t c
parts scope (e.Binary op left right) t c = binary op left right t c
parts scope (e.Unary op operand) t c = from operand (negated op) t c
parts scope (e.Cast to operand) t c = from operand (taken (number_type to)) t c
parts scope (e.Number digits decimal long) t c = read (number digits decimal long t) c
parts scope (e.Bool b) t c = read (resolved (x.Bool b) t) c
parts scope (e.Paren inner) t c = from inner (λ r. r.expression) t c
parts scope (e.New name size) t c = from size vector_of t c
parts scope (e.Name name) t c = read (resolved (x.Variable (variable_of c (name_here c))) t) (behind_name c)
parts scope (e.Index name at) t c = from at gathered_at t (behind_name c)
parts scope (e.Member object name) t c = read (resolved x.GatheredLength t) (behind_name c)
parts scope (e.Call call) t c = read (resolved (expression_in (call c).it) t) (call c).cursor

abbrev pub expr_step : Scope → Expr-F Calling Resolving Resolving → Resolving
expr_step scope layer c = parts scope layer (type_here c) (behind_type c)

abbrev pub value_step : Value-F Calling Resolving Resolving → Resolving
value_step v = v.expr

-- the type of a parameter; what has none takes everything
abbrev pub param_at : List ExprType → ℕ → ExprType
param_at params n = slice_index_or params n Unknown

-- the next argument, as its parameter wants it
abbrev pub argued : List ExprType → Read (List Expression) → Resolving → Read (List Expression)
argued params args part =
    let r = part args.cursor in
    read (args.it ++ taken (param_at params (length args.it)) r.it ∷ []) r.cursor

abbrev pub arguments : List ExprType → List Resolving → Cursor → Read (List Expression)
arguments params args c = fold (argued params) (read [] c) args

abbrev pub own_step : Scope → List Resolving → Option Declaration → Cursor → Read Invoked
own_step scope args d c =
    let a = arguments (params_of (header_at scope d)) args c in
    read (own d (header_at scope d) a.it) a.cursor

abbrev pub vector_step : ℕ → List ℕ → List Resolving → Cursor → Read Invoked
vector_step v name args c =
    let a = arguments (params_by (vector_method name)) args c in
    read (vector_call v name a.it) a.cursor

abbrev pub access_step : Scope → ℕ → List ℕ → List Resolving → Cursor → Read Invoked
access_step scope field name args c =
    let a = arguments (params_by (state_method (class_at scope field) name)) args (behind_site c) in
    read (accessed field (chosen c (site_here c)) (method_named (class_at scope field) name) a.it) a.cursor

abbrev pub of_step : Scope → List ℕ → List Resolving → Option Declaration → Cursor → Read Invoked
of_step scope name args (Some (declaration.Field field)) c = access_step scope field name args c
of_step scope name args d c = vector_step (variable_of c d) name args c

abbrev pub member_step : Resolving → List ℕ → List Resolving → Cursor → Read Invoked
member_step at name args c =
    let i = at c in
    let a = arguments (params_by (vector_method name)) args i.cursor in
    read (member_call (taken (Value Int) i.it) name a.it) a.cursor

abbrev pub call_step : Scope → CallForm-F Calling Resolving Resolving → Calling
call_step scope (e.Own name args) c = own_step scope args (name_here c) (behind_name c)
call_step scope (e.Of object name args) c = of_step scope name args (name_here c) (behind_name c)
call_step scope (e.OfMember object at name args) c = member_step at name args (behind_name c)

abbrev pub expression_of : Scope → Expr → Resolving
expression_of scope = fold-Expr Calling Resolving Resolving (call_step scope) (expr_step scope) value_step

abbrev pub value_of : Scope → Written → Resolving
value_of scope = fold-Value Calling Resolving Resolving (call_step scope) (expr_step scope) value_step

abbrev pub call_of : Scope → CallForm → Calling
call_of scope = fold-CallForm Calling Resolving Resolving (call_step scope) (expr_step scope) value_step
