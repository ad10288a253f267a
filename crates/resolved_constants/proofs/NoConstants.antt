-- Where the whole of an expression is no constant, neither is what is resolved of it.
use Rattle.std.proofs.Common.{◌≡◌, ℕ, Bool, true, false, not, ◌||◌, Option, Some, None, if◌then◌else◌, refl, sym, ap, ap₂, ◌∙◌}
use Rattle.sdg_base.specs.declared.operator.BinOp.{BinOp}
use Rattle.sdg_base.specs.declared.operator.BinOp.TheVariants as bin
use Rattle.sdg_base.specs.declared.operator.UnOp.{UnOp}
use Rattle.sdg_base.specs.declared.operator.UnOp.TheVariants as un
use Rattle.sdg_base.specs.declared.val.Num.{Num}
use Rattle.sdg_base.specs.declared.val.Num.TheVariants as num
use Rattle.sdg_base.specs.declared.val.Val.{Val}
use Rattle.sdg_base.specs.declared.val.Val.TheVariants as val
use Rattle.sdg_base.specs.Operations.{unary_operation}
use Rattle.java_tree.specs.declared.types.ValueType.TheVariants.{Int}
use Rattle.java_tree.specs.declared.types.ExprType.{ExprType}
use Rattle.java_tree.specs.declared.types.ExprType.TheVariants.{Value}
use Rattle.java_types.specs.declared.fits.Sort.TheVariants as sort
use Rattle.java_types.specs.Fits.{is_long, may_be_number, may_be_boolean, sort_of, is_operand, misfits_behind, takes}
use Rattle.java_flow.specs.Constants as flow
use Rattle.access_blocks.specs.declared.body.Expression.TheVariants as x
use Rattle.access_blocks.specs.declared.resolved.Resolved.{Resolved}
use Rattle.access_blocks.specs.Resolving.{taken}
use Rattle.access_blocks.specs.Resolving as resolving
use Rattle.body_code.specs.Completing.{Constant, IsNone, HasNoValue, Is, on_one, chosen, operated, constant_of}
use Rattle.resolved_constants.specs.Constants.{constant_from, IsOfFound, HasNoConstant, Agrees}
use Rattle.resolved_constants.proofs.Types.{truths_are, numbers_are}
use Rattle.resolved_constants.proofs.Operands.{unary_is, binary_is, conditional_is, unmoved_taken}
use Rattle.resolved_constants.proofs.Forms.{binary_same}
use Rattle.resolved_constants.proofs.OneOperand.{negated_same}

none_taken : (wanted : ExprType) (a : Resolved) → constant_of a.expression ≡ IsNone → constant_of (taken wanted a) ≡ IsNone
none_taken wanted a h = unmoved_taken IsNone (λ to. refl) wanted a.found a.expression h

-- ---- two operands

no_first : (op : BinOp) (b : Constant) → operated op IsNone b ≡ IsNone
no_first bin.AndAlso b = refl
no_first bin.OrElse b = refl
no_first op b = refl

no_second : (op : BinOp) (a : Constant) → operated op a IsNone ≡ IsNone
no_second op IsNone = no_first op IsNone
no_second bin.AndAlso HasNoValue = refl
no_second bin.OrElse HasNoValue = refl
no_second op HasNoValue = refl
no_second bin.AndAlso (Is v) = refl
no_second bin.OrElse (Is v) = refl
no_second op (Is v) = refl

first_none : (op : BinOp) (a b : Resolved) → constant_of a.expression ≡ IsNone → constant_of (resolving.operated op a b) ≡ IsNone
first_none op a b h = by (resolving.is_shift op) (resolving.promoted a.found b.found)
  where
    by : (s : Bool) (t : ExprType) → constant_of (if s then x.Binary op a.expression (taken (Value Int) b) else x.Binary op (taken t a) (taken t b)) ≡ IsNone
    by true t = binary_is op a.expression (taken (Value Int) b) ∙ (ap (λ l. operated op l (constant_of (taken (Value Int) b))) h ∙ no_first op (constant_of (taken (Value Int) b)))
    by false t = binary_is op (taken t a) (taken t b) ∙ (ap (λ l. operated op l (constant_of (taken t b))) (none_taken t a h) ∙ no_first op (constant_of (taken t b)))

second_none : (op : BinOp) (a b : Resolved) → constant_of b.expression ≡ IsNone → constant_of (resolving.operated op a b) ≡ IsNone
second_none op a b h = by (resolving.is_shift op) (resolving.promoted a.found b.found)
  where
    by : (s : Bool) (t : ExprType) → constant_of (if s then x.Binary op a.expression (taken (Value Int) b) else x.Binary op (taken t a) (taken t b)) ≡ IsNone
    by true t = binary_is op a.expression (taken (Value Int) b) ∙ (ap (λ r. operated op (constant_of a.expression) r) (none_taken (Value Int) b h) ∙ no_second op (constant_of a.expression))
    by false t = binary_is op (taken t a) (taken t b) ∙ (ap (λ r. operated op (constant_of (taken t a)) r) (none_taken t b h) ∙ no_second op (constant_of (taken t a)))

pub binary_none : (op : BinOp) (fa fb : ExprType) (la lb : Bool) (ca cb : flow.Constant) (a b : Resolved) → not (is_operand (sort_of op) fa) ≡ false → misfits_behind (sort_of op) fa fb ≡ false
    → a.found ≡ fa → b.found ≡ fb → Agrees fa la ca a → Agrees fb lb cb b → flow.binary_constant op ca cb ≡ None → constant_of (resolving.operated op a b) ≡ IsNone
binary_none op fa fb la lb None cb a b one two is_a is_b lacks hb h = first_none op a b lacks.same
binary_none op fa fb la lb (Some ka) None a b one two is_a is_b ha lacks h = second_none op a b lacks.same
binary_none op fa fb la lb (Some ka) (Some kb) a b one two is_a is_b ha hb h =
    binary_same op fa fb la lb ka kb a b (truths_are op fa fb ha.simple hb.simple one two) is_a is_b ha hb ∙ ap constant_from h

-- ---- one operand

none_negated : (op : UnOp) (a : Resolved) → HasNoConstant a → constant_of (resolving.negated op a) ≡ IsNone
none_negated un.Plus a lacks = lacks.same
none_negated un.Minus a lacks =
    ap (λ least. constant_of (if least then a.expression else x.Unary un.Minus a.expression)) lacks.minimum
    ∙ (unary_is un.Minus a.expression ∙ ap (on_one (unary_operation un.Minus)) lacks.same)
none_negated un.Complement a lacks = unary_is un.Complement a.expression ∙ ap (on_one (unary_operation un.Complement)) lacks.same
none_negated un.Not a lacks = unary_is un.Not a.expression ∙ ap (on_one (unary_operation un.Not)) lacks.same

pub unary_none : (op : UnOp) (fa : ExprType) (la : Bool) (ca : flow.Constant) (a : Resolved) → takes op fa ≡ true → Agrees fa la ca a → flow.unary_constant op ca ≡ None
    → constant_of (resolving.negated op a) ≡ IsNone
unary_none op fa la None a fit lacks h = none_negated op a lacks
unary_none op fa la (Some ka) a fit ha h = negated_same op fa la ka a fit ha ∙ ap constant_from h

-- a number is a number when it is cast
number_cast : (to : Num) (fa : ExprType) (k : Option Val) → may_be_number fa ≡ true → IsOfFound fa k → flow.cast_constant to (Some k) ≡ None → ⊥
number_cast to fa None number of h = cc
number_cast num.Int fa (Some (val.Int n)) number of h = cc
number_cast num.Int fa (Some (val.Long n)) number of h = cc
number_cast num.Long fa (Some (val.Int n)) number of h = cc
number_cast num.Long fa (Some (val.Long n)) number of h = cc
number_cast to fa (Some (val.Bool b)) number of h = let e : true ≡ false = sym number ∙ ap may_be_number of in cc
number_cast to fa (Some (val.Vector ns)) number of h = let e : true ≡ false = sym number ∙ ap may_be_number of in cc
number_cast to fa (Some val.Unit) number of h = let e : true ≡ false = sym number ∙ ap may_be_number of in cc

pub cast_none : (to : Num) (fa : ExprType) (la : Bool) (ca : flow.Constant) (a : Resolved) → may_be_number fa ≡ true → Agrees fa la ca a → flow.cast_constant to ca ≡ None
    → constant_of (taken (resolving.number_type to) a) ≡ IsNone
cast_none to fa la None a number lacks h = none_taken (resolving.number_type to) a lacks.same
cast_none to fa la (Some ka) a number ha h = absurd (number_cast to fa ka number ha.of_found h)

-- ---- one of two

no_first_choice : (test b : Constant) → chosen test IsNone b ≡ IsNone
no_first_choice IsNone b = refl
no_first_choice HasNoValue b = refl
no_first_choice (Is v) b = refl

no_second_choice : (test a : Constant) → chosen test a IsNone ≡ IsNone
no_second_choice IsNone a = refl
no_second_choice HasNoValue IsNone = refl
no_second_choice HasNoValue HasNoValue = refl
no_second_choice HasNoValue (Is u) = refl
no_second_choice (Is v) IsNone = refl
no_second_choice (Is v) HasNoValue = refl
no_second_choice (Is v) (Is u) = refl

long_given : (l : Bool) (fa : ExprType) (k : Option Val) → (l ≡ true → may_be_number fa ≡ true) → IsOfFound fa k → flow.long_if l (Some k) ≡ None → ⊥
long_given true fa k number of h = number_cast num.Long fa k (number refl) of h
long_given false fa k number of h = cc

-- A truth value chooses.
truth_chooses : (l : Bool) (ft fa fb : ExprType) (kt ka kb : Option Val) → not (may_be_boolean ft) ≡ false → (l ≡ true → (may_be_number fa ≡ true) × (may_be_number fb ≡ true))
    → IsOfFound ft kt → IsOfFound fa ka → IsOfFound fb kb → flow.conditional_constant l (Some kt) (Some ka) (Some kb) ≡ None → ⊥
truth_chooses l ft fa fb None ka kb test numbers of_t of_a of_b h = cc
truth_chooses l ft fa fb (Some (val.Bool true)) ka kb test numbers of_t of_a of_b h = long_given l fa ka (λ is. (numbers is).0) of_a h
truth_chooses l ft fa fb (Some (val.Bool false)) ka kb test numbers of_t of_a of_b h = long_given l fb kb (λ is. (numbers is).1) of_b h
truth_chooses l ft fa fb (Some (val.Int n)) ka kb test numbers of_t of_a of_b h = let e : true ≡ false = ap (λ t. not (may_be_boolean t)) (sym of_t) ∙ test in cc
truth_chooses l ft fa fb (Some (val.Long n)) ka kb test numbers of_t of_a of_b h = let e : true ≡ false = ap (λ t. not (may_be_boolean t)) (sym of_t) ∙ test in cc
truth_chooses l ft fa fb (Some (val.Vector ns)) ka kb test numbers of_t of_a of_b h = let e : true ≡ false = ap (λ t. not (may_be_boolean t)) (sym of_t) ∙ test in cc
truth_chooses l ft fa fb (Some val.Unit) ka kb test numbers of_t of_a of_b h = let e : true ≡ false = ap (λ t. not (may_be_boolean t)) (sym of_t) ∙ test in cc

pub conditional_none : (whole ft fa fb : ExprType) (lt la lb : Bool) (ct ca cb : flow.Constant) (t a b : Resolved) → not (may_be_boolean ft) ≡ false → misfits_behind sort.Equality fa fb ≡ false
    → Agrees ft lt ct t → Agrees fa la ca a → Agrees fb lb cb b → flow.conditional_constant (la || lb) ct ca cb ≡ None → constant_of (resolving.chosen_between whole t a b) ≡ IsNone
conditional_none whole ft fa fb lt la lb None ca cb t a b test fit lacks ha hb h =
    conditional_is t.expression (taken whole a) (taken whole b) ∙ ap (λ c. chosen c (constant_of (taken whole a)) (constant_of (taken whole b))) lacks.same
conditional_none whole ft fa fb lt la lb (Some kt) None cb t a b test fit ht lacks hb h =
    conditional_is t.expression (taken whole a) (taken whole b)
    ∙ (ap (λ c. chosen (constant_of t.expression) c (constant_of (taken whole b))) (none_taken whole a lacks.same) ∙ no_first_choice (constant_of t.expression) (constant_of (taken whole b)))
conditional_none whole ft fa fb lt la lb (Some kt) (Some ka) None t a b test fit ht ha lacks h =
    conditional_is t.expression (taken whole a) (taken whole b)
    ∙ (ap (λ c. chosen (constant_of t.expression) (constant_of (taken whole a)) c) (none_taken whole b lacks.same) ∙ no_second_choice (constant_of t.expression) (constant_of (taken whole a)))
conditional_none whole ft fa fb lt la lb (Some kt) (Some ka) (Some kb) t a b test fit ht ha hb h =
    let l : (la || lb) ≡ (is_long fa || is_long fb) = ap₂ (λ s u. s || u) ha.long hb.long in
    absurd (truth_chooses (la || lb) ft fa fb kt ka kb test (λ is. numbers_are fa fb ha.simple hb.simple fit (sym l ∙ is)) ht.of_found ha.of_found hb.of_found h)

-- ---- literals

pub number_given : (digits : ℕ) (long : Bool) → flow.literal digits long ≡ None → ⊥
number_given digits true h = cc
number_given digits false h = cc
