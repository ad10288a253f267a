-- No name, call or new vector is a constant when it is resolved.
use Rattle.std.proofs.Common.{◌≡◌, ℕ, Bool, true, false, List, Option, Some, None, if◌then◌else◌, codes, sym, subst}
use Rattle.std.specs.Str.{bytes_eq}
use Rattle.java_tree.specs.declared.tree.CallForm.{CallForm, roll-CallForm}
use Rattle.java_tree.specs.declared.tree.CallForm.TheOpen.{CallForm-F}
use Rattle.java_tree.specs.declared.tree.CallForm.TheOpen as call
use Rattle.java_tree.specs.declared.tree.CallForm.TheFolds.{fold-roll-CallForm, map-CallForm}
use Rattle.java_tree.specs.declared.tree.Expr.{Expr}
use Rattle.java_tree.specs.declared.tree.Value.{Value}
use Rattle.java_tree.specs.declared.types.Declaration.{Declaration}
use Rattle.java_tree.specs.declared.types.Declaration.TheVariants as declaration
use Rattle.java_tree.specs.declared.types.ValueType.TheVariants.{Int}
use Rattle.java_tree.specs.declared.types.ExprType.TheVariants.{Value as OfType}
use Rattle.sdg_base.specs.Signatures.{vector_method}
use Rattle.state_classes.specs.declared.method.Method.{Method}
use Rattle.access_blocks.specs.declared.body.Choice.{Choice}
use Rattle.access_blocks.specs.declared.body.Expression.{Expression}
use Rattle.access_blocks.specs.declared.body.Expression.TheOpen as e
use Rattle.access_blocks.specs.declared.body.Expression.TheVariants as x
use Rattle.access_blocks.specs.declared.resolved.Invoked.{Invoked}
use Rattle.access_blocks.specs.declared.resolved.Invoked.TheVariants as invoked
use Rattle.access_blocks.specs.declared.scope.Header.{Header}
use Rattle.access_blocks.specs.declared.scope.Scope.{Scope}
use Rattle.access_blocks.specs.Cursors.{Cursor, name_here, behind_name, variable_of}
use Rattle.access_blocks.specs.Resolving.{Calling, Resolving, own, own_call, vector_call, member_call, argument, accessed, expression_in, arguments, params_by, taken, vector_step, of_step, member_step, call_step, expr_step, value_step, call_of, expression_of, value_of}
use Rattle.body_code.specs.Completing.{IsNone, constant_of}
use Rattle.resolved_constants.proofs.Operands.{from_layer}

-- what a call is, as a value
abbrev pub IsNoConstant : Invoked → Type 0
IsNoConstant i = constant_of (expression_in i) ≡ IsNone

-- ---- forms

pub nothing_none : constant_of x.Nothing ≡ IsNone
nothing_none = from_layer e.Nothing x.rolls-Nothing

pub variable_none : (v : ℕ) → constant_of (x.Variable v) ≡ IsNone
variable_none v = from_layer (e.Variable v) (x.rolls-Variable v)

pub new_vector_none : (size : Expression) → constant_of (x.NewVector size) ≡ IsNone
new_vector_none size = from_layer (e.NewVector size) (x.rolls-NewVector size)

pub gathered_length_none : constant_of x.GatheredLength ≡ IsNone
gathered_length_none = from_layer e.GatheredLength x.rolls-GatheredLength

pub gathered_none : (at : Expression) → constant_of (x.Gathered at) ≡ IsNone
gathered_none at = from_layer (e.Gathered at) (x.rolls-Gathered at)

-- ---- calls

own_call_none : (m : ℕ) (h : Option Header) (args : List Expression) → IsNoConstant (own_call m h args)
own_call_none m None args = nothing_none
own_call_none m (Some h) args = by h.is_merge
  where
    by : (b : Bool) → IsNoConstant (if b then invoked.Value (x.Merge m) else invoked.Value (x.Call m args))
    by true = from_layer (e.Merge m) (x.rolls-Merge m)
    by false = from_layer (e.Call m args) (x.rolls-Call m args)

own_none : (d : Option Declaration) (h : Option Header) (args : List Expression) → IsNoConstant (own d h args)
own_none None h args = nothing_none
own_none (Some (declaration.Field n)) h args = nothing_none
own_none (Some (declaration.Method m)) h args = own_call_none m h args
own_none (Some (declaration.Parameter n)) h args = nothing_none
own_none (Some (declaration.Local n)) h args = nothing_none

vector_call_none : (v : ℕ) (name : List ℕ) (args : List Expression) → IsNoConstant (vector_call v name args)
vector_call_none v name args = by (bytes_eq name (codes "size")) (bytes_eq name (codes "get")) (bytes_eq name (codes "set"))
  where
    by : (a b c : Bool) → IsNoConstant (if a then invoked.Value (x.VectorSize v)
        else (if b then invoked.Value (x.VectorElement v (argument args 0)) else (if c then invoked.Sets v (argument args 0) (argument args 1) else invoked.Value x.Nothing)))
    by true b c = from_layer (e.VectorSize v) (x.rolls-VectorSize v)
    by false true c = from_layer (e.VectorElement v (argument args 0)) (x.rolls-VectorElement v (argument args 0))
    by false false true = nothing_none
    by false false false = nothing_none

member_call_none : (at : Expression) (name : List ℕ) (args : List Expression) → IsNoConstant (member_call at name args)
member_call_none at name args = by (bytes_eq name (codes "size")) (bytes_eq name (codes "get"))
  where
    by : (a b : Bool) → IsNoConstant (if a then invoked.Value (x.GatheredSize at) else (if b then invoked.Value (x.GatheredElement at (argument args 0)) else invoked.Value x.Nothing))
    by true b = from_layer (e.GatheredSize at) (x.rolls-GatheredSize at)
    by false true = from_layer (e.GatheredElement at (argument args 0)) (x.rolls-GatheredElement at (argument args 0))
    by false false = nothing_none

accessed_none : (field : ℕ) (how : Choice) (m : Option Method) (args : List Expression) → IsNoConstant (accessed field how m args)
accessed_none field how None args = nothing_none
accessed_none field how (Some m) args = nothing_none

vector_none : (v : ℕ) (name : List ℕ) (args : List Resolving) (c : Cursor) → IsNoConstant (vector_step v name args c).it
vector_none v name args c = vector_call_none v name (arguments (params_by (vector_method name)) args c).it

of_none : (scope : Scope) (name : List ℕ) (args : List Resolving) (d : Option Declaration) (c : Cursor) → IsNoConstant (of_step scope name args d c).it
of_none scope name args None c = vector_none (variable_of c None) name args c
of_none scope name args (Some (declaration.Field n)) c = accessed_none n _ _ _
of_none scope name args (Some (declaration.Method m)) c = vector_none (variable_of c (Some (declaration.Method m))) name args c
of_none scope name args (Some (declaration.Parameter n)) c = vector_none (variable_of c (Some (declaration.Parameter n))) name args c
of_none scope name args (Some (declaration.Local n)) c = vector_none (variable_of c (Some (declaration.Local n))) name args c

member_none : (at : Resolving) (name : List ℕ) (args : List Resolving) (c : Cursor) → IsNoConstant (member_step at name args c).it
member_none at name args c = member_call_none (taken (OfType Int) (at c).it) name (arguments (params_by (vector_method name)) args (at c).cursor).it

step_none : (scope : Scope) (layer : CallForm-F Calling Resolving Resolving) (c : Cursor) → IsNoConstant (call_step scope layer c).it
step_none scope (call.Own name args) c = own_none _ _ _
step_none scope (call.Of object name args) c = of_none scope name args (name_here c) (behind_name c)
step_none scope (call.OfMember object at name args) c = member_none at name args (behind_name c)

module _ (scope : Scope) where
  pub rolled_none : (k : CallForm-F CallForm Expr Value) (c : Cursor) → IsNoConstant (call_of scope (roll-CallForm k) c).it
  rolled_none k c =
      subst (λ (it : Calling). IsNoConstant (it c).it) (sym (fold-roll-CallForm Calling Resolving Resolving (call_step scope) (expr_step scope) value_step k))
      (step_none scope (map-CallForm CallForm Expr Value Calling Resolving Resolving (call_of scope) (expression_of scope) (value_of scope) k) c)
