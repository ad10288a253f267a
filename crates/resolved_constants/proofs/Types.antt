-- Types of constants, and the type of a whole where no rule on types is broken.
use Rattle.std.proofs.Common.{◌≡◌, Bool, true, false, not, ◌||◌, if◌then◌else◌, refl, ap, ◌∙◌}
use Rattle.sdg_base.specs.declared.operator.BinOp.{BinOp}
use Rattle.sdg_base.specs.declared.operator.BinOp.TheVariants as bin
use Rattle.java_tree.specs.declared.types.ValueType.TheVariants.{Int, Long, Boolean, Vector}
use Rattle.java_tree.specs.declared.types.ExprType.{ExprType}
use Rattle.java_tree.specs.declared.types.ExprType.TheVariants.{Unknown, Void, Value, Collection, State}
use Rattle.java_types.specs.declared.fits.Sort.{Sort}
use Rattle.java_types.specs.declared.fits.Sort.TheVariants as sort
use Rattle.java_types.specs.Fits.{is_known, is_long, unless, with_part, may_be_number, may_be_boolean, promoted, sort_of, is_operand, misfits_behind, given_by, outcome, choice}
use Rattle.java_flow.specs.Constants.{binary_is_long}
use Rattle.resolved_constants.specs.Constants.{is_simple}

-- ---- types of constants

pub simple_known : (t : ExprType) → is_simple t ≡ true → is_known t ≡ true
simple_known Unknown h = absurd (cc)
simple_known t h = refl

truth_alone : (t : ExprType) → is_simple t ≡ true → not (may_be_boolean t) ≡ false → t ≡ Value Boolean
truth_alone Unknown h fit = absurd (cc)
truth_alone Void h fit = absurd (cc)
truth_alone (Value Int) h fit = absurd (cc)
truth_alone (Value Long) h fit = absurd (cc)
truth_alone (Value Boolean) h fit = refl
truth_alone (Value Vector) h fit = absurd (cc)
truth_alone (Collection t) h fit = absurd (cc)
truth_alone (State class) h fit = absurd (cc)

neither : (a b : Bool) → (a || b) ≡ false → (a ≡ false) × (b ≡ false)
neither true b h = absurd (cc)
neither false b h = (refl, h)

-- the operands of `&&` and `||` are truth values
abbrev pub AreTruths : BinOp → ExprType → ExprType → Type 0
AreTruths bin.AndAlso fa fb = (fa ≡ Value Boolean) × (fb ≡ Value Boolean)
AreTruths bin.OrElse fa fb = (fa ≡ Value Boolean) × (fb ≡ Value Boolean)
AreTruths _ fa fb = Unit {0}

pub truths_are : (op : BinOp) (fa fb : ExprType) → is_simple fa ≡ true → is_simple fb ≡ true → not (is_operand (sort_of op) fa) ≡ false → misfits_behind (sort_of op) fa fb ≡ false → AreTruths op fa fb
truths_are bin.AndAlso fa fb sa sb one two = (truth_alone fa sa one, truth_alone fb sb (neither (not (may_be_boolean fb)) _ two).0)
truths_are bin.OrElse fa fb sa sb one two = (truth_alone fa sa one, truth_alone fb sb (neither (not (may_be_boolean fb)) _ two).0)
truths_are op fa fb sa sb one two = tt

-- two numbers of one length, or two truth values
pub alike : (fa fb : ExprType) → is_simple fa ≡ true → is_simple fb ≡ true → misfits_behind sort.Equality fa fb ≡ false → is_long fa ≡ false → is_long fb ≡ false → fa ≡ fb
alike (Value Int) (Value Int) sa sb fit la lb = refl
alike (Value Int) (Value Boolean) sa sb fit la lb = absurd (cc)
alike (Value Boolean) (Value Int) sa sb fit la lb = absurd (cc)
alike (Value Boolean) (Value Boolean) sa sb fit la lb = refl
alike (Value Long) fb sa sb fit la lb = absurd (cc)
alike Unknown fb sa sb fit la lb = absurd (cc)
alike Void fb sa sb fit la lb = absurd (cc)
alike (Value Vector) fb sa sb fit la lb = absurd (cc)
alike (Collection t) fb sa sb fit la lb = absurd (cc)
alike (State class) fb sa sb fit la lb = absurd (cc)
alike fa (Value Long) sa sb fit la lb = absurd (cc)
alike fa Unknown sa sb fit la lb = absurd (cc)
alike fa Void sa sb fit la lb = absurd (cc)
alike fa (Value Vector) sa sb fit la lb = absurd (cc)
alike fa (Collection t) sa sb fit la lb = absurd (cc)
alike fa (State class) sa sb fit la lb = absurd (cc)

-- two numbers, where one is long
pub numbers_are : (fa fb : ExprType) → is_simple fa ≡ true → is_simple fb ≡ true → misfits_behind sort.Equality fa fb ≡ false → (is_long fa || is_long fb) ≡ true
    → (may_be_number fa ≡ true) × (may_be_number fb ≡ true)
numbers_are (Value Int) (Value Int) sa sb fit long = (refl, refl)
numbers_are (Value Int) (Value Long) sa sb fit long = (refl, refl)
numbers_are (Value Int) (Value Boolean) sa sb fit long = absurd (cc)
numbers_are (Value Long) (Value Int) sa sb fit long = (refl, refl)
numbers_are (Value Long) (Value Long) sa sb fit long = (refl, refl)
numbers_are (Value Long) (Value Boolean) sa sb fit long = absurd (cc)
numbers_are (Value Boolean) (Value Int) sa sb fit long = absurd (cc)
numbers_are (Value Boolean) (Value Long) sa sb fit long = absurd (cc)
numbers_are (Value Boolean) (Value Boolean) sa sb fit long = absurd (cc)
numbers_are Unknown fb sa sb fit long = absurd (cc)
numbers_are Void fb sa sb fit long = absurd (cc)
numbers_are (Value Vector) fb sa sb fit long = absurd (cc)
numbers_are (Collection t) fb sa sb fit long = absurd (cc)
numbers_are (State class) fb sa sb fit long = absurd (cc)
numbers_are fa Unknown sa sb fit long = absurd (cc)
numbers_are fa Void sa sb fit long = absurd (cc)
numbers_are fa (Value Vector) sa sb fit long = absurd (cc)
numbers_are fa (Collection t) sa sb fit long = absurd (cc)
numbers_are fa (State class) sa sb fit long = absurd (cc)

-- ---- whether a type is long

either_long : (c : Bool) (a : ExprType) (b : Bool) → c ≡ is_long a || b → c ≡ is_long (if c then Value Long else a)
either_long true a b e = refl
either_long false a b e = no_first (is_long a) b e
  where
    no_first : (x y : Bool) → false ≡ x || y → false ≡ x
    no_first true y e = absurd (cc)
    no_first false y e = refl

pub promoted_long : (a b : ExprType) → (is_long a || is_long b) ≡ is_long (promoted a b)
promoted_long a b = either_long (is_long a || is_long b) a (is_long b) refl

pub long_by : (op : BinOp) (a b : ExprType) → binary_is_long op (is_long a) (is_long b) ≡ is_long (given_by (sort_of op) a b)
long_by bin.Mul a b = promoted_long a b
long_by bin.Div a b = promoted_long a b
long_by bin.Rem a b = promoted_long a b
long_by bin.Add a b = promoted_long a b
long_by bin.Sub a b = promoted_long a b
long_by bin.And a b = promoted_long a b
long_by bin.Xor a b = promoted_long a b
long_by bin.Or a b = promoted_long a b
long_by bin.Shl a b = refl
long_by bin.Shr a b = refl
long_by bin.UShr a b = refl
long_by bin.Lt a b = refl
long_by bin.Le a b = refl
long_by bin.Gt a b = refl
long_by bin.Ge a b = refl
long_by bin.Eq a b = refl
long_by bin.Ne a b = refl
long_by bin.AndAlso a b = refl
long_by bin.OrElse a b = refl

pub promoted_simple : (a b : ExprType) → is_simple a ≡ true → is_simple (promoted a b) ≡ true
promoted_simple a b h = by (is_long a || is_long b)
  where
    by : (c : Bool) → is_simple (if c then Value Long else a) ≡ true
    by true = refl
    by false = h

pub simple_by : (op : BinOp) (a b : ExprType) → is_simple a ≡ true → is_simple (given_by (sort_of op) a b) ≡ true
simple_by bin.Mul a b h = promoted_simple a b h
simple_by bin.Div a b h = promoted_simple a b h
simple_by bin.Rem a b h = promoted_simple a b h
simple_by bin.Add a b h = promoted_simple a b h
simple_by bin.Sub a b h = promoted_simple a b h
simple_by bin.And a b h = promoted_simple a b h
simple_by bin.Xor a b h = promoted_simple a b h
simple_by bin.Or a b h = promoted_simple a b h
simple_by bin.Shl a b h = h
simple_by bin.Shr a b h = h
simple_by bin.UShr a b h = h
simple_by bin.Lt a b h = refl
simple_by bin.Le a b h = refl
simple_by bin.Gt a b h = refl
simple_by bin.Ge a b h = refl
simple_by bin.Eq a b h = refl
simple_by bin.Ne a b h = refl
simple_by bin.AndAlso a b h = refl
simple_by bin.OrElse a b h = refl

-- ---- types of wholes, where nothing is broken

pub outcome_is : (broken : Bool) (s : Sort) (a b : ExprType) → broken ≡ false → is_known a ≡ true → is_known b ≡ true → outcome broken s a b ≡ given_by s a b
outcome_is broken s a b e f g =
    ap (λ h. if h || (not (is_known a) || not (is_known b)) then Unknown else given_by s a b) e
    ∙ (ap (λ k. if not k || not (is_known b) then Unknown else given_by s a b) f ∙ ap (λ k. if not k then Unknown else given_by s a b) g)

pub choice_is : (broken : Bool) (t a b : ExprType) → broken ≡ false → is_known t ≡ true → is_known a ≡ true → is_known b ≡ true → choice broken t a b ≡ promoted a b
choice_is broken t a b e d f g =
    ap (λ h. if h || (not (is_known t) || (not (is_known a) || not (is_known b))) then Unknown else promoted a b) e
    ∙ (ap (λ k. if not k || (not (is_known a) || not (is_known b)) then Unknown else promoted a b) d
    ∙ (ap (λ k. if not k || not (is_known b) then Unknown else promoted a b) f ∙ ap (λ k. if not k then Unknown else promoted a b) g))

pub unless_is : (broken : Bool) (t : ExprType) → broken ≡ false → unless broken t ≡ t
unless_is true t e = absurd (cc)
unless_is false t e = refl

pub with_part_is : (broken : Bool) (part whole : ExprType) → broken ≡ false → is_known part ≡ true → with_part broken part whole ≡ whole
with_part_is broken part whole e f = ap (λ b. if b || not (is_known part) then Unknown else whole) e ∙ ap (λ b. if not b then Unknown else whole) f
