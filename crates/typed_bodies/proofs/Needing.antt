-- What each form of expression needs is in scope where what its parts need is.
use Rattle.std.proofs.Common.{◌≡◌, ℕ, zero, suc, ℤ, Bool, true, false, ◌||◌, List, [], ◌∷◌, ◌++◌, Option, Some, None, codes, if◌then◌else◌, refl, sym, ap, subst, ◌∙◌, arith}
use Rattle.std.specs.Prelude.{All}
use Rattle.std.specs.Str.{bytes_eq}
use Rattle.std.proofs.lemmas.List.Elements.{All-append, All-cons, All-nil}
use Rattle.sdg_base.specs.declared.operator.BinOp.{BinOp}
use Rattle.sdg_base.specs.declared.operator.UnOp.{UnOp}
use Rattle.sdg_base.specs.declared.operator.UnOp.TheVariants as un
use Rattle.sdg_base.specs.declared.val.Num.{Num}
use Rattle.sdg_base.specs.declared.val.Num.TheVariants as num
use Rattle.state_classes.specs.declared.method.Method.{Method}
use Rattle.java_tree.specs.declared.types.ValueType.TheVariants as value
use Rattle.java_tree.specs.declared.types.ExprType.{ExprType}
use Rattle.java_tree.specs.declared.types.ExprType.TheVariants.{Value}
use Rattle.access_blocks.specs.declared.body.Choice.{Choice}
use Rattle.access_blocks.specs.declared.body.Expression.{Expression, roll-Expression}
use Rattle.access_blocks.specs.declared.body.Expression.TheOpen.{Expression-F}
use Rattle.access_blocks.specs.declared.body.Expression.TheOpen as e
use Rattle.access_blocks.specs.declared.body.Expression.TheFolds.{fold-roll-Expression, map-Expression}
use Rattle.access_blocks.specs.declared.body.Expression.TheVariants as x
use Rattle.access_blocks.specs.declared.resolved.Invoked.{Invoked}
use Rattle.access_blocks.specs.declared.resolved.Invoked.TheVariants as invoked
use Rattle.access_blocks.specs.declared.resolved.Resolved.{Resolved}
use Rattle.access_blocks.specs.Resolving.{converted_to, promoted, is_shift, operated, chosen_between, vector_of, gathered_at, negated, literal, argument, vector_call, member_call, accessed, expression_in}
use Rattle.body_code.specs.Typing.{Needs, nothing, variable_alone, both, needs, needs_of_all, needs_step}
use Rattle.typed_bodies.specs.Reading.{Place}
use Rattle.typed_bodies.specs.Needing.{InScope, IsWithin, IsWithinCall}

from_layer : (layer : Expression-F Expression) {a : Expression} → roll-Expression layer ≡ a → needs a ≡ needs_step (map-Expression Expression Needs needs layer)
from_layer layer rolled = ap needs (sym rolled) ∙ fold-roll-Expression Needs needs_step layer

module _ (p : Place) where
  by : {n m : Needs} → n ≡ m → IsWithin p m → IsWithin p n
  by e w = subst (λ (k : Needs). IsWithin p k) (sym e) w

  pub within_nothing : IsWithin p nothing
  within_nothing = record { variables = All-nil (InScope p); merges = refl; no_key = refl }

  pub within_alone : (v : ℕ) → InScope p v → IsWithin p (variable_alone v)
  within_alone v s = record { variables = All-cons (InScope p) v [] s (All-nil (InScope p)); merges = refl; no_key = refl }

  pub within_both : (a b : Needs) → IsWithin p a → IsWithin p b → IsWithin p (both a b)
  within_both a b f g = record {
    variables = All-append (InScope p) a.variables b.variables f.variables g.variables;
    merges = ap (λ (ms : List ℕ). ms ++ b.merges) f.merges ∙ g.merges;
    no_key = ap (λ k. k || b.key) f.no_key ∙ g.no_key;
  }

  nothing_left : (xs ys : List ℕ) → xs ++ ys ≡ [] → xs ≡ [] × ys ≡ []
  nothing_left [] ys e = (refl, e)
  nothing_left (z ∷ xs) ys e = absurd (cc)

  neither_true : (a b : Bool) → (a || b) ≡ false → a ≡ false × b ≡ false
  neither_true true b e = absurd (cc)
  neither_true false b e = (refl, e)

  all_parts : (xs ys : List ℕ) → All (InScope p) (xs ++ ys) → All (InScope p) xs × All (InScope p) ys
  all_parts [] ys f = (All-nil (InScope p), f)
  all_parts (z ∷ xs) ys f =
      let rest = all_parts xs ys (λ k d l. f (suc k) d (omega arith)) in
      (All-cons (InScope p) z xs (f zero z (omega arith)) rest.0, rest.1)

  pub within_parts : (a b : Needs) → IsWithin p (both a b) → IsWithin p a × IsWithin p b
  within_parts a b w =
      let vs = all_parts a.variables b.variables w.variables in
      let ms = nothing_left a.merges b.merges w.merges in
      let ks = neither_true a.key b.key w.no_key in
      (record { variables = vs.0; merges = ms.0; no_key = ks.0 }, record { variables = vs.1; merges = ms.1; no_key = ks.1 })

  -- ---- forms

  pub within_absent : IsWithin p (needs x.Nothing)
  within_absent = by (from_layer e.Nothing x.rolls-Nothing) within_nothing

  pub within_int : (n : ℤ) → IsWithin p (needs (x.Int n))
  within_int n = by (from_layer (e.Int n) (x.rolls-Int n)) within_nothing

  pub within_long : (n : ℤ) → IsWithin p (needs (x.Long n))
  within_long n = by (from_layer (e.Long n) (x.rolls-Long n)) within_nothing

  pub within_bool : (b : Bool) → IsWithin p (needs (x.Bool b))
  within_bool b = by (from_layer (e.Bool b) (x.rolls-Bool b)) within_nothing

  pub within_variable : (v : ℕ) → InScope p v → IsWithin p (needs (x.Variable v))
  within_variable v s = by (from_layer (e.Variable v) (x.rolls-Variable v)) (within_alone v s)

  within_unary : (op : UnOp) (a : Expression) → IsWithin p (needs a) → IsWithin p (needs (x.Unary op a))
  within_unary op a w = by (from_layer (e.Unary op a) (x.rolls-Unary op a)) w

  pub within_binary : (op : BinOp) (a b : Expression) → IsWithin p (needs a) → IsWithin p (needs b) → IsWithin p (needs (x.Binary op a b))
  within_binary op a b f g = by (from_layer (e.Binary op a b) (x.rolls-Binary op a b)) (within_both (needs a) (needs b) f g)

  within_cast : (to : Num) (a : Expression) → IsWithin p (needs a) → IsWithin p (needs (x.Cast to a))
  within_cast to a w = by (from_layer (e.Cast to a) (x.rolls-Cast to a)) w

  within_conditional : (test a b : Expression) → IsWithin p (needs test) → IsWithin p (needs a) → IsWithin p (needs b) → IsWithin p (needs (x.Conditional test a b))
  within_conditional test a b f g h =
      by (from_layer (e.Conditional test a b) (x.rolls-Conditional test a b)) (within_both (needs test) (both (needs a) (needs b)) f (within_both (needs a) (needs b) g h))

  within_new_vector : (n : Expression) → IsWithin p (needs n) → IsWithin p (needs (x.NewVector n))
  within_new_vector n w = by (from_layer (e.NewVector n) (x.rolls-NewVector n)) w

  within_size : (v : ℕ) → InScope p v → IsWithin p (needs (x.VectorSize v))
  within_size v s = by (from_layer (e.VectorSize v) (x.rolls-VectorSize v)) (within_alone v s)

  within_element : (v : ℕ) (at : Expression) → InScope p v → IsWithin p (needs at) → IsWithin p (needs (x.VectorElement v at))
  within_element v at s w = by (from_layer (e.VectorElement v at) (x.rolls-VectorElement v at)) (within_both (needs at) (variable_alone v) w (within_alone v s))

  pub within_gathered_length : IsWithin p (needs x.GatheredLength)
  within_gathered_length = by (from_layer e.GatheredLength x.rolls-GatheredLength) within_nothing

  within_gathered : (at : Expression) → IsWithin p (needs at) → IsWithin p (needs (x.Gathered at))
  within_gathered at w = by (from_layer (e.Gathered at) (x.rolls-Gathered at)) w

  within_gathered_size : (at : Expression) → IsWithin p (needs at) → IsWithin p (needs (x.GatheredSize at))
  within_gathered_size at w = by (from_layer (e.GatheredSize at) (x.rolls-GatheredSize at)) w

  within_gathered_element : (at index : Expression) → IsWithin p (needs at) → IsWithin p (needs index) → IsWithin p (needs (x.GatheredElement at index))
  within_gathered_element at index f g =
      by (from_layer (e.GatheredElement at index) (x.rolls-GatheredElement at index)) (within_both (needs at) (needs index) f g)

  pub within_call : (m : ℕ) (args : List Expression) → IsWithin p (needs_of_all args) → IsWithin p (needs (x.Call m args))
  within_call m args w = by (from_layer (e.Call m args) (x.rolls-Call m args)) w

  -- ---- conversions and operators

  pub needs_converted : (wanted found : ExprType) (a : Expression) → needs (converted_to wanted found a) ≡ needs a
  needs_converted (Value value.Long) (Value value.Int) a = from_layer (e.Cast num.Long a) (x.rolls-Cast num.Long a)
  needs_converted (Value value.Int) (Value value.Long) a = from_layer (e.Cast num.Int a) (x.rolls-Cast num.Int a)
  needs_converted _ _ a = refl

  pub needs_variable : (v : ℕ) → needs (x.Variable v) ≡ variable_alone v
  needs_variable v = from_layer (e.Variable v) (x.rolls-Variable v)

  pub needs_literal : (digits : ℕ) (long : Bool) → needs (literal digits long) ≡ nothing
  needs_literal digits true = from_layer (e.Long _) (x.rolls-Long _)
  needs_literal digits false = from_layer (e.Int _) (x.rolls-Int _)

  pub within_converted : (wanted found : ExprType) (a : Expression) → IsWithin p (needs a) → IsWithin p (needs (converted_to wanted found a))
  within_converted (Value value.Long) (Value value.Int) a w = within_cast num.Long a w
  within_converted (Value value.Int) (Value value.Long) a w = within_cast num.Int a w
  within_converted _ _ a w = w

  within_either : (b : Bool) (a a' : Expression) → IsWithin p (needs a) → IsWithin p (needs a') → IsWithin p (needs (if b then a else a'))
  within_either true a a' f g = f
  within_either false a a' f g = g

  pub within_operated : (op : BinOp) (a b : Resolved) → IsWithin p (needs a.expression) → IsWithin p (needs b.expression) → IsWithin p (needs (operated op a b))
  within_operated op a b f g =
      within_either (is_shift op) _ _ (within_binary op _ _ f (within_converted (Value value.Int) b.found b.expression g))
      (within_binary op _ _ (within_converted (promoted a.found b.found) a.found a.expression f) (within_converted (promoted a.found b.found) b.found b.expression g))

  pub within_chosen : (t : ExprType) (test a b : Resolved) → IsWithin p (needs test.expression) → IsWithin p (needs a.expression) → IsWithin p (needs b.expression)
      → IsWithin p (needs (chosen_between t test a b))
  within_chosen t test a b f g h = within_conditional _ _ _ f (within_converted t a.found a.expression g) (within_converted t b.found b.expression h)

  pub within_negated : (op : UnOp) (a : Resolved) → IsWithin p (needs a.expression) → IsWithin p (needs (negated op a))
  within_negated un.Plus a w = w
  within_negated un.Minus a w = within_either a.is_minimum _ _ w (within_unary un.Minus a.expression w)
  within_negated un.Complement a w = within_unary un.Complement a.expression w
  within_negated un.Not a w = within_unary un.Not a.expression w

  pub within_vector : (size : Resolved) → IsWithin p (needs size.expression) → IsWithin p (needs (vector_of size))
  within_vector size w = within_new_vector _ (within_converted (Value value.Int) size.found size.expression w)

  pub within_gathered_at : (at : Resolved) → IsWithin p (needs at.expression) → IsWithin p (needs (gathered_at at))
  within_gathered_at at w = within_gathered _ (within_converted (Value value.Int) at.found at.expression w)

  pub within_literal : (digits : ℕ) (long : Bool) → IsWithin p (needs (literal digits long))
  within_literal digits true = within_long _
  within_literal digits false = within_int _

  -- ---- arguments

  pub within_more : (args : List Expression) (last : Expression) → IsWithin p (needs_of_all args) → IsWithin p (needs last) → IsWithin p (needs_of_all (args ++ last ∷ []))
  within_more [] last f g = within_both (needs last) nothing g within_nothing
  within_more (a ∷ args) last f g =
      let parts = within_parts (needs a) (needs_of_all args) f in
      within_both (needs a) (needs_of_all (args ++ last ∷ [])) parts.0 (within_more args last parts.1 g)

  within_argument : (args : List Expression) (n : ℕ) → IsWithin p (needs_of_all args) → IsWithin p (needs (argument args n))
  within_argument [] n w = within_absent
  within_argument (a ∷ args) zero w = (within_parts (needs a) (needs_of_all args) w).0
  within_argument (a ∷ args) (suc n) w = within_argument args n (within_parts (needs a) (needs_of_all args) w).1

  -- ---- calls

  call_either : (b : Bool) (i j : Invoked) → IsWithinCall p i → IsWithinCall p j → IsWithinCall p (if b then i else j)
  call_either true i j f g = f
  call_either false i j f g = g

  pub within_vector_call : (v : ℕ) (name : List ℕ) (args : List Expression) → InScope p v → IsWithin p (needs_of_all args) → IsWithinCall p (vector_call v name args)
  within_vector_call v name args s w =
      call_either (bytes_eq name (codes "size")) _ _ (within_size v s)
      (call_either (bytes_eq name (codes "get")) _ _ (within_element v (argument args 0) s (within_argument args 0 w))
      (call_either (bytes_eq name (codes "set")) (invoked.Sets v (argument args 0) (argument args 1)) (invoked.Value x.Nothing) (s, within_argument args 0 w, within_argument args 1 w) within_absent))

  pub within_member_call : (at : Expression) (name : List ℕ) (args : List Expression) → IsWithin p (needs at) → IsWithin p (needs_of_all args) → IsWithinCall p (member_call at name args)
  within_member_call at name args f w =
      call_either (bytes_eq name (codes "size")) _ _ (within_gathered_size at f)
      (call_either (bytes_eq name (codes "get")) _ _ (within_gathered_element at (argument args 0) f (within_argument args 0 w)) within_absent)

  pub within_accessed : (field : ℕ) (how : Choice) (o : Option Method) (args : List Expression) → IsWithin p (needs_of_all args) → IsWithinCall p (accessed field how o args)
  within_accessed field how None args w = within_absent
  within_accessed field how (Some m) args w = w

  pub within_expression_in : (i : Invoked) → IsWithinCall p i → IsWithin p (needs (expression_in i))
  within_expression_in (invoked.Value a) w = w
  within_expression_in (invoked.Sets v at b) w = within_absent
  within_expression_in (invoked.Accesses a) w = within_absent
