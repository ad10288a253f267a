-- Turns never rise while an expression is evaluated.
use Rattle.std.proofs.Common.{◌≡◌, ◌≤◌, ℕ, Bool, true, false, if◌then◌else◌, List, [], ◌∷◌, map, Option, Some, None, sym, subst, arith}
use Rattle.std.specs.Prelude.{pos, negsuc, Ok, Err, nat_lt}
use Rattle.sdg_base.specs.declared.val.Val.{Val}
use Rattle.sdg_base.specs.declared.val.Val.TheVariants as val
use Rattle.sdg_base.specs.declared.operator.BinOp.{BinOp}
use Rattle.sdg_base.specs.declared.operator.BinOp.TheVariants as bin
use Rattle.sdg_base.specs.Operations.{Answer, operation}
use Rattle.access_blocks.specs.declared.body.Expression.{Expression, roll-Expression}
use Rattle.access_blocks.specs.declared.body.Expression.TheOpen.{Expression-F}
use Rattle.access_blocks.specs.declared.body.Expression.TheOpen as e
use Rattle.access_blocks.specs.declared.body.Expression.TheFolds.{fold-roll-Expression, ind-Expression, map-Expression}
use Rattle.access_blocks.specs.declared.halt.Halt.{Halt}
use Rattle.access_blocks.specs.Expressions.{Ended, Gives, Ends, followed, Seen, Calls, Meaning, answered, is_true, after_first, new_vector, most_elements, member_at, found, longs_in, variable_of, gathered_at, all_of, expression_step, value_of, values_of}

abbrev Leaves : {A : Type 0} → ℕ → Ended A → Type 0
Leaves turns (Gives a left) = left ≤ turns
Leaves turns (Ends h) = Unit {0}

-- What is evaluated leaves at most so many turns.
pub record AtMost {A : Type 0} (turns : ℕ) (e : Ended A) : Type 0 where
  pub leaves : Leaves turns e

pub gives : {A : Type 0} {a : A} {turns : ℕ} → AtMost turns (Gives a turns)
gives = record { leaves = omega arith }

pub ended : {A : Type 0} {h : Halt} {turns : ℕ} → AtMost {A = A} turns (Ends h)
ended = record { leaves = tt }

pub lower : {A : Type 0} (e : Ended A) (few many : ℕ) → few ≤ many → AtMost few e → AtMost many e
lower (Gives a left) few many less h = let l : left ≤ few = h.leaves in record { leaves = omega arith }
lower (Ends h) few many less _ = ended

pub follows : {A B : Type 0} (e : Ended A) (f : A → ℕ → Ended B) (turns : ℕ) → AtMost turns e → ((a : A) (left : ℕ) → AtMost left (f a left)) → AtMost turns (followed e f)
follows (Gives a left) f turns h each = lower (f a left) left turns h.leaves (each a left)
follows (Ends h) f turns _ each = ended

either : {A : Type 0} {x y : Ended A} {turns : ℕ} (b : Bool) → AtMost turns x → AtMost turns y → AtMost turns (if b then x else y)
either true hx hy = hx
either false hx hy = hy

answers : (a : Answer) (turns : ℕ) → AtMost turns (answered a turns)
answers None turns = gives
answers (Some (Ok v)) turns = gives
answers (Some (Err x)) turns = ended

finds : {A : Type 0} (f : A → Val) (o : Option A) (turns : ℕ) → AtMost turns (found f o turns)
finds f None turns = ended
finds f (Some a) turns = gives

makes : (v : Val) (turns : ℕ) → AtMost turns (new_vector v turns)
makes (val.Int (pos n)) turns = either (nat_lt most_elements n) ended gives
makes (val.Int (negsuc n)) turns = ended
makes _ turns = gives

-- ---- expressions

abbrev Falls : Meaning → Type 0
Falls f = (seen : Seen) (turns : ℕ) → AtMost turns (f seen turns)

-- No call leaves more turns than it had.
abbrev pub CallsFall : Calls → Type 0
CallsFall calls = (m : ℕ) (args gathered : List Val) (turns : ℕ) → AtMost turns (calls m args gathered turns)

operates : (op : BinOp) (a : Val) (second : ℕ → Ended Val) (turns : ℕ) → ((t : ℕ) → AtMost t (second t)) → AtMost turns (after_first op a second turns)
operates bin.AndAlso a second turns falls = either (is_true a) (falls turns) gives
operates bin.OrElse a second turns falls = either (is_true a) gives (falls turns)
operates op a second turns falls = follows (second turns) (λ b left. answered (operation op a b) left) turns (falls turns) (λ b left. answers (operation op a b) left)

module _ (calls : Calls) (fall : CallsFall calls) where
  abbrev Part : Type 0
  Part = (x : Expression) × Falls (value_of calls x)

  abbrev bare : Expression-F Part → Expression-F Expression
  bare = map-Expression Part Expression (λ x. x.0)

  abbrev meant : Expression-F Expression → Expression-F Meaning
  meant = map-Expression Expression Meaning (value_of calls)

  arguments_fall : (xs : List Part) (seen : Seen) (turns : ℕ) → AtMost turns (all_of (map (value_of calls) (map (λ x. x.0) xs)) seen turns)
  arguments_fall [] seen turns = gives
  arguments_fall (x ∷ xs) seen turns =
      follows (value_of calls x.0 seen turns) _ turns (x.1 seen turns) (λ v left.
      follows (all_of (map (value_of calls) (map (λ (y : Part). y.0) xs)) seen left) _ left (arguments_fall xs seen left) (λ vs rest. gives))

  layer_falls : (y : Expression-F Part) → Falls (expression_step calls (meant (bare y)))
  layer_falls e.Nothing seen turns = gives
  layer_falls (e.Int n) seen turns = gives
  layer_falls (e.Long n) seen turns = gives
  layer_falls (e.Bool b) seen turns = gives
  layer_falls (e.Variable v) seen turns = gives
  layer_falls e.CarriedKey seen turns = gives
  layer_falls (e.Unary op a) seen turns = follows (value_of calls a.0 seen turns) _ turns (a.1 seen turns) (λ v left. gives)
  layer_falls (e.Binary op a b) seen turns =
      follows (value_of calls a.0 seen turns) _ turns (a.1 seen turns) (λ v left. operates op v (value_of calls b.0 seen) left (b.1 seen))
  layer_falls (e.Cast to a) seen turns = follows (value_of calls a.0 seen turns) _ turns (a.1 seen turns) (λ v left. gives)
  layer_falls (e.Conditional test a b) seen turns =
      follows (value_of calls test.0 seen turns) _ turns (test.1 seen turns) (λ v left. either (is_true v) (a.1 seen left) (b.1 seen left))
  layer_falls (e.NewVector n) seen turns = follows (value_of calls n.0 seen turns) _ turns (n.1 seen turns) makes
  layer_falls (e.VectorSize v) seen turns = gives
  layer_falls (e.VectorElement v at) seen turns =
      follows (value_of calls at.0 seen turns) _ turns (at.1 seen turns) (λ i left. finds val.Long (member_at i (longs_in (variable_of seen v))) left)
  layer_falls e.GatheredLength seen turns = gives
  layer_falls (e.Gathered at) seen turns =
      follows (value_of calls at.0 seen turns) _ turns (at.1 seen turns) (λ i left. finds (λ v. v) (member_at i seen.gathered) left)
  layer_falls (e.GatheredSize at) seen turns =
      follows (value_of calls at.0 seen turns) _ turns (at.1 seen turns) (λ i left.
      follows (gathered_at seen i left) _ left (finds (λ v. v) (member_at i seen.gathered) left) (λ v rest. gives))
  layer_falls (e.GatheredElement at index) seen turns =
      follows (value_of calls at.0 seen turns) _ turns (at.1 seen turns) (λ i left.
      follows (gathered_at seen i left) _ left (finds (λ v. v) (member_at i seen.gathered) left) (λ v rest.
      follows (value_of calls index.0 seen rest) _ rest (index.1 seen rest) (λ k last. finds val.Long (member_at k (longs_in v)) last)))
  layer_falls (e.Call m args) seen turns =
      follows (all_of (map (value_of calls) (map (λ (y : Part). y.0) args)) seen turns) _ turns (arguments_fall args seen turns) (λ vs left. fall m vs [] left)
  layer_falls (e.Merge m) seen turns = fall m (val.Unit ∷ []) seen.gathered turns

  made_falls : (x : Expression-F Expression) (y : Expression-F Part) → bare y ≡ x → Falls (value_of calls (roll-Expression x))
  made_falls x y is =
      let P : Expression-F Expression → Type 0 = λ x. Falls (expression_step calls (meant x)) in
      subst Falls (sym (fold-roll-Expression Meaning (expression_step calls) x)) (subst P is (layer_falls y))

  pub value_falls : (x : Expression) → Falls (value_of calls x)
  value_falls = ind-Expression (λ x. Falls (value_of calls x)) made_falls

  pub values_fall : (xs : List Expression) (seen : Seen) (turns : ℕ) → AtMost turns (values_of calls xs seen turns)
  values_fall [] seen turns = gives
  values_fall (x ∷ xs) seen turns =
      follows (value_of calls x seen turns) _ turns (value_falls x seen turns) (λ v left.
      follows (values_of calls xs seen left) _ left (values_fall xs seen left) (λ vs rest. gives))
