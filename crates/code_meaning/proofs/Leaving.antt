-- How a typed statement completes is foreseen by the rules on which statements can complete.
use mathlib.Core.Path.{transport}
use Rattle.std.proofs.Common.{◌≡◌, refl, sym, ap, subst, ◌∙◌, ℕ, true, false, if◌then◌else◌, Option, Some, None, Result, Ok, Err, inl, inr, ◌⊎◌}
use Rattle.sdg_base.specs.declared.operator.BinOp.{BinOp}
use Rattle.sdg_base.specs.declared.operator.BinOp.TheVariants as bin
use Rattle.sdg_base.specs.declared.val.Exn.{Exn}
use Rattle.sdg_base.specs.declared.val.Val.{Val}
use Rattle.sdg_base.specs.declared.val.Val.TheVariants as val
use Rattle.sdg_base.specs.Operations.{operation, unary_operation, converted}
use Rattle.access_blocks.specs.declared.body.Expression.{Expression, roll-Expression}
use Rattle.access_blocks.specs.declared.body.Expression.TheOpen.{Expression-F}
use Rattle.access_blocks.specs.declared.body.Expression.TheOpen as e
use Rattle.access_blocks.specs.declared.body.Expression.TheFolds.{fold-roll-Expression, ind-Expression, map-Expression}
use Rattle.access_blocks.specs.Expressions.{Calls, Ended, Gives, Seen, Meaning, followed, after_first, answered, given, is_true, expression_step, value_of}
use Rattle.body_code.specs.Completing.{Constant, IsNone, HasNoValue, Is, on_one, on_two, chosen, operated, constant_step, constant_of}
use Rattle.body_code.specs.Completing as completing

-- ---- constants

is_value : (a b : Val) → Is a ≡ Is b → a ≡ b
is_value a b is = cc

chosen_is : (test a b : Constant) (v : Val) → chosen test a b ≡ Is v → ((test ≡ Is (val.Bool true)) × (a ≡ Is v)) ⊎ ((test ≡ Is (val.Bool false)) × (b ≡ Is v))
chosen_is IsNone a b v is = absurd (cc)
chosen_is HasNoValue IsNone IsNone v is = absurd (cc)
chosen_is HasNoValue IsNone HasNoValue v is = absurd (cc)
chosen_is HasNoValue IsNone (Is b) v is = absurd (cc)
chosen_is HasNoValue HasNoValue IsNone v is = absurd (cc)
chosen_is HasNoValue HasNoValue HasNoValue v is = absurd (cc)
chosen_is HasNoValue HasNoValue (Is b) v is = absurd (cc)
chosen_is HasNoValue (Is a) IsNone v is = absurd (cc)
chosen_is HasNoValue (Is a) HasNoValue v is = absurd (cc)
chosen_is HasNoValue (Is a) (Is b) v is = absurd (cc)
chosen_is (Is (val.Bool true)) IsNone IsNone v is = absurd (cc)
chosen_is (Is (val.Bool true)) IsNone HasNoValue v is = absurd (cc)
chosen_is (Is (val.Bool true)) IsNone (Is b) v is = absurd (cc)
chosen_is (Is (val.Bool true)) HasNoValue IsNone v is = absurd (cc)
chosen_is (Is (val.Bool true)) HasNoValue HasNoValue v is = inl (refl, is)
chosen_is (Is (val.Bool true)) HasNoValue (Is b) v is = inl (refl, is)
chosen_is (Is (val.Bool true)) (Is a) IsNone v is = absurd (cc)
chosen_is (Is (val.Bool true)) (Is a) HasNoValue v is = inl (refl, is)
chosen_is (Is (val.Bool true)) (Is a) (Is b) v is = inl (refl, is)
chosen_is (Is (val.Bool false)) IsNone IsNone v is = absurd (cc)
chosen_is (Is (val.Bool false)) IsNone HasNoValue v is = absurd (cc)
chosen_is (Is (val.Bool false)) IsNone (Is b) v is = absurd (cc)
chosen_is (Is (val.Bool false)) HasNoValue IsNone v is = absurd (cc)
chosen_is (Is (val.Bool false)) HasNoValue HasNoValue v is = inr (refl, is)
chosen_is (Is (val.Bool false)) HasNoValue (Is b) v is = inr (refl, is)
chosen_is (Is (val.Bool false)) (Is a) IsNone v is = absurd (cc)
chosen_is (Is (val.Bool false)) (Is a) HasNoValue v is = inr (refl, is)
chosen_is (Is (val.Bool false)) (Is a) (Is b) v is = inr (refl, is)
chosen_is (Is (val.Int n)) IsNone IsNone v is = absurd (cc)
chosen_is (Is (val.Int n)) IsNone HasNoValue v is = absurd (cc)
chosen_is (Is (val.Int n)) IsNone (Is b) v is = absurd (cc)
chosen_is (Is (val.Int n)) HasNoValue IsNone v is = absurd (cc)
chosen_is (Is (val.Int n)) HasNoValue HasNoValue v is = absurd (cc)
chosen_is (Is (val.Int n)) HasNoValue (Is b) v is = absurd (cc)
chosen_is (Is (val.Int n)) (Is a) IsNone v is = absurd (cc)
chosen_is (Is (val.Int n)) (Is a) HasNoValue v is = absurd (cc)
chosen_is (Is (val.Int n)) (Is a) (Is b) v is = absurd (cc)
chosen_is (Is (val.Long n)) IsNone IsNone v is = absurd (cc)
chosen_is (Is (val.Long n)) IsNone HasNoValue v is = absurd (cc)
chosen_is (Is (val.Long n)) IsNone (Is b) v is = absurd (cc)
chosen_is (Is (val.Long n)) HasNoValue IsNone v is = absurd (cc)
chosen_is (Is (val.Long n)) HasNoValue HasNoValue v is = absurd (cc)
chosen_is (Is (val.Long n)) HasNoValue (Is b) v is = absurd (cc)
chosen_is (Is (val.Long n)) (Is a) IsNone v is = absurd (cc)
chosen_is (Is (val.Long n)) (Is a) HasNoValue v is = absurd (cc)
chosen_is (Is (val.Long n)) (Is a) (Is b) v is = absurd (cc)
chosen_is (Is (val.Vector n)) IsNone IsNone v is = absurd (cc)
chosen_is (Is (val.Vector n)) IsNone HasNoValue v is = absurd (cc)
chosen_is (Is (val.Vector n)) IsNone (Is b) v is = absurd (cc)
chosen_is (Is (val.Vector n)) HasNoValue IsNone v is = absurd (cc)
chosen_is (Is (val.Vector n)) HasNoValue HasNoValue v is = absurd (cc)
chosen_is (Is (val.Vector n)) HasNoValue (Is b) v is = absurd (cc)
chosen_is (Is (val.Vector n)) (Is a) IsNone v is = absurd (cc)
chosen_is (Is (val.Vector n)) (Is a) HasNoValue v is = absurd (cc)
chosen_is (Is (val.Vector n)) (Is a) (Is b) v is = absurd (cc)
chosen_is (Is val.Unit) IsNone IsNone v is = absurd (cc)
chosen_is (Is val.Unit) IsNone HasNoValue v is = absurd (cc)
chosen_is (Is val.Unit) IsNone (Is b) v is = absurd (cc)
chosen_is (Is val.Unit) HasNoValue IsNone v is = absurd (cc)
chosen_is (Is val.Unit) HasNoValue HasNoValue v is = absurd (cc)
chosen_is (Is val.Unit) HasNoValue (Is b) v is = absurd (cc)
chosen_is (Is val.Unit) (Is a) IsNone v is = absurd (cc)
chosen_is (Is val.Unit) (Is a) HasNoValue v is = absurd (cc)
chosen_is (Is val.Unit) (Is a) (Is b) v is = absurd (cc)

given_is : (o : Option Val) (v : Val) → completing.given o ≡ Is v → o ≡ Some v
given_is None v is = absurd (cc)
given_is (Some w) v is = ap Some (is_value w v is)

answered_is : (o : Option (Result Val Exn)) (v : Val) → completing.answered o ≡ Is v → o ≡ Some (Ok v)
answered_is None v is = absurd (cc)
answered_is (Some (Ok w)) v is = ap (λ (z : Val). Some (Ok z)) (is_value w v is)
answered_is (Some (Err x)) v is = absurd (cc)

abbrev Fixed : Constant → Meaning → Type 0
Fixed k value = (v : Val) → k ≡ Is v → (seen : Seen) (turns : ℕ) → value seen turns ≡ Gives v turns

one_fixed : (f : Val → Option Val) (k : Constant) (value : Meaning) → Fixed k value → Fixed (on_one f k) (λ seen turns. followed (value seen turns) (λ v left. given (f v) left))
one_fixed f (Is w) value fixed v is seen turns =
    ap (λ (x : Ended Val). followed x (λ v left. given (f v) left)) (fixed w refl seen turns) ∙ ap (λ o. given o turns) (given_is (f w) v is)
one_fixed f IsNone value fixed v is seen turns = absurd (cc)
one_fixed f HasNoValue value fixed v is seen turns = absurd (cc)

two_fixed : (op : BinOp) (a b : Constant) (va vb : Meaning) → Fixed a va → Fixed b vb → Fixed (on_two op a b) (λ seen turns. followed (va seen turns) (λ v left. followed (vb seen left) (λ w rest. answered (operation op v w) rest)))
two_fixed op (Is a) (Is b) va vb fa fb v is seen turns =
    ap (λ (x : Ended Val). followed x (λ v left. followed (vb seen left) (λ w rest. answered (operation op v w) rest))) (fa a refl seen turns)
    ∙ ap (λ (x : Ended Val). followed x (λ w rest. answered (operation op a w) rest)) (fb b refl seen turns) ∙ ap (λ o. answered o turns) (answered_is (operation op a b) v is)
two_fixed op IsNone b va vb fa fb v is seen turns = absurd (cc)
two_fixed op HasNoValue IsNone va vb fa fb v is seen turns = absurd (cc)
two_fixed op HasNoValue HasNoValue va vb fa fb v is seen turns = absurd (cc)
two_fixed op HasNoValue (Is b) va vb fa fb v is seen turns = absurd (cc)
two_fixed op (Is a) IsNone va vb fa fb v is seen turns = absurd (cc)
two_fixed op (Is a) HasNoValue va vb fa fb v is seen turns = absurd (cc)

chosen_fixed : (k a b : Constant) (vk va vb : Meaning) → Fixed k vk → Fixed a va → Fixed b vb → Fixed (chosen k a b) (λ seen turns. followed (vk seen turns) (λ v left. if is_true v then va seen left else vb seen left))
chosen_fixed k a b vk va vb fk fa fb v is seen turns = by (chosen_is k a b v is)
  where
    by : ((k ≡ Is (val.Bool true)) × (a ≡ Is v)) ⊎ ((k ≡ Is (val.Bool false)) × (b ≡ Is v)) → followed (vk seen turns) (λ v left. if is_true v then va seen left else vb seen left) ≡ Gives v turns
    by (inl h) = ap (λ (x : Ended Val). followed x (λ v left. if is_true v then va seen left else vb seen left)) (fk (val.Bool true) h.0 seen turns) ∙ fa v h.1 seen turns
    by (inr h) = ap (λ (x : Ended Val). followed x (λ v left. if is_true v then va seen left else vb seen left)) (fk (val.Bool false) h.0 seen turns) ∙ fb v h.1 seen turns

literal_fixed : (w : Val) → Fixed (Is w) (λ seen turns. Gives w turns)
literal_fixed w v is seen turns = ap (λ z. Gives z turns) (is_value w v is)

binary_fixed : (op : BinOp) (a b : Constant) (va vb : Meaning) → Fixed a va → Fixed b vb → Fixed (operated op a b) (λ seen turns. followed (va seen turns) (λ v left. after_first op v (vb seen) left))
binary_fixed bin.AndAlso a b va vb fa fb v is seen turns = chosen_fixed a b (Is (val.Bool false)) va vb (λ seen turns. Gives (val.Bool false) turns) fa fb (literal_fixed (val.Bool false)) v is seen turns
binary_fixed bin.OrElse a b va vb fa fb v is seen turns = chosen_fixed a (Is (val.Bool true)) b va (λ seen turns. Gives (val.Bool true) turns) vb fa (literal_fixed (val.Bool true)) fb v is seen turns
binary_fixed op a b va vb fa fb v is seen turns = two_fixed op a b va vb fa fb v is seen turns

module _ (calls : Calls) where
  abbrev IsFixed : Expression → Type 0
  IsFixed x = Fixed (constant_of x) (value_of calls x)

  abbrev Part : Type 0
  Part = (x : Expression) × IsFixed x

  abbrev bare : Expression-F Part → Expression-F Expression
  bare = map-Expression Part Expression (λ x. x.0)

  abbrev constants : Expression-F Expression → Expression-F Constant
  constants = map-Expression Expression Constant constant_of

  abbrev meant : Expression-F Expression → Expression-F Meaning
  meant = map-Expression Expression Meaning (value_of calls)

  abbrev LayerFixed : Expression-F Expression → Type 0
  LayerFixed y = Fixed (constant_step (constants y)) (expression_step calls (meant y))

  layer_fixed : (y : Expression-F Part) → LayerFixed (bare y)
  layer_fixed (e.Int n) = literal_fixed (val.Int n)
  layer_fixed (e.Long n) = literal_fixed (val.Long n)
  layer_fixed (e.Bool b) = literal_fixed (val.Bool b)
  layer_fixed (e.Unary op a) = one_fixed (unary_operation op) (constant_of a.0) (value_of calls a.0) a.1
  layer_fixed (e.Binary op a b) = binary_fixed op (constant_of a.0) (constant_of b.0) (value_of calls a.0) (value_of calls b.0) a.1 b.1
  layer_fixed (e.Cast to a) = one_fixed (converted to) (constant_of a.0) (value_of calls a.0) a.1
  layer_fixed (e.Conditional k a b) = chosen_fixed (constant_of k.0) (constant_of a.0) (constant_of b.0) (value_of calls k.0) (value_of calls a.0) (value_of calls b.0) k.1 a.1 b.1
  layer_fixed _ = λ v is seen turns. absurd (cc)

  made_fixed : (x : Expression-F Expression) (y : Expression-F Part) → bare y ≡ x → IsFixed (roll-Expression x)
  made_fixed x y is =
      let k = fold-roll-Expression Constant constant_step x in
      let v = fold-roll-Expression Meaning (expression_step calls) x in
      let whole : IsFixed (roll-Expression x) ≡ LayerFixed x = λ i. Fixed (k i) (v i) in
      transport (sym whole) (subst LayerFixed is (layer_fixed y))

  -- A constant expression gives its constant.
  pub constant_value : (x : Expression) → IsFixed x
  constant_value = ind-Expression IsFixed made_fixed
