-- What the rules on types and on annotations know of the parameters of a method.
use Rattle.std.proofs.Common.{◌≡◌, ℕ, Bool, true, false, not, ◌||◌, ◌&&◌, nat_eq, List, [], ◌∷◌, length, map, slice_get, unwrap_or, Option, Some, None, if◌then◌else◌, refl, sym, ap, ap₂, ◌∙◌, eqb-true, arith}
use Rattle.std.specs.List.{list_any}
use Rattle.java_tree.specs.declared.tree.Class.{Class}
use Rattle.java_tree.specs.declared.tree.Method.{Method}
use Rattle.java_tree.specs.declared.tree.Param.{Param}
use Rattle.java_tree.specs.declared.tree.ResultType.{ResultType}
use Rattle.java_tree.specs.declared.tree.ResultType.TheVariants as result_types
use Rattle.java_tree.specs.declared.tree.TypeName.{TypeName}
use Rattle.java_tree.specs.declared.method_kinds.MethodKind.{MethodKind}
use Rattle.java_tree.specs.declared.method_kinds.MethodKind.TheVariants.{Entry, Helper, Merge}
use Rattle.java_tree.specs.declared.types.ValueType.{ValueType}
use Rattle.java_tree.specs.declared.types.ValueType.TheVariants.{Int, Long, Boolean, Vector}
use Rattle.java_tree.specs.declared.types.ExprType.{ExprType}
use Rattle.java_tree.specs.declared.types.ExprType.TheVariants.{Value, Collection}
use Rattle.java_tree.specs.Kinds.{kind_of, is_private}
use Rattle.java_types.specs.Check.{types_of}
use Rattle.java_types.specs.Declarations as declarations
use Rattle.java_types.specs.Fits.{is_known}
use Rattle.java_types.specs.Simples.{value_or_none}
use Rattle.access_blocks.specs.ResolvingStatements.{declared_type}
use Rattle.access_blocks.specs.Programs.{methods_in, param_type, param_variable}
use Rattle.access_blocks.specs.Resolving.{wanted_by}
use Rattle.body_code.specs.ClassCode.{result_type}
use Rattle.body_code.specs.Typing.{type_by}
use Rattle.accepted_classes.specs.Classes.{IsQuiet, AreKnownAs}
use Rattle.accepted_classes.proofs.Whole.{class_sound}
use Rattle.java_types.proofs.Lists.{length_map}
use Rattle.java_tree.specs.Words.{value_type}
use Rattle.body_code.specs.Checking.{IsOne}
use Rattle.accepted_classes.proofs.RuledMembers.{well_collected_in, arrays_collected}

-- ---- types

pub wanted_is : (t : ValueType) → wanted_by (type_by t) ≡ Value t
wanted_is Int = refl
wanted_is Long = refl
wanted_is Boolean = refl
wanted_is Vector = refl

known_value : (o : Option ValueType) → is_known (value_or_none o) ≡ true → value_or_none o ≡ Value (unwrap_or o Int)
known_value None h = absurd (cc)
known_value (Some t) h = refl

declared_is : (name : TypeName) → is_known (value_or_none (value_type name)) ≡ true → value_or_none (value_type name) ≡ Value (declared_type name)
declared_is name h = known_value (value_type name) h

pub result_is : (r : ResultType) → is_known (declarations.result_type r) ≡ true → declarations.result_type r ≡ wanted_by (result_type r)
result_is result_types.Void h = refl
result_is (result_types.Type name) h = declared_is name h ∙ sym (wanted_is (declared_type name))

collected_by : (is_array : Bool) (o : Option ValueType) → is_known (if is_array then declarations.collection_of (value_or_none o) else value_or_none o) ≡ true
    → (if is_array then Collection (unwrap_or o Int) else Value (unwrap_or o Int)) ≡ (if is_array then declarations.collection_of (value_or_none o) else value_or_none o)
collected_by true None h = absurd (cc)
collected_by true (Some t) h = refl
collected_by false None h = absurd (cc)
collected_by false (Some t) h = refl

param_is : (p : Param) → is_known (declarations.param_type p) ≡ true → param_type p ≡ declarations.param_type p
param_is p h = collected_by p.is_array (value_type p.type_name) h

pub both_false : (a b : Bool) → (a || b) ≡ false → (a ≡ false) × (b ≡ false)
both_false true b h = absurd (cc)
both_false false b h = (refl, h)

not_false : (b : Bool) → not b ≡ false → b ≡ true
not_false true h = refl
not_false false h = absurd (cc)

pub params_are : (ps : List Param) → list_any (λ p. not (is_known (declarations.param_type p))) ps ≡ false → map param_type ps ≡ map declarations.param_type ps
params_are [] h = refl
params_are (p ∷ ps) h =
    let two = both_false (not (is_known (declarations.param_type p))) (list_any (λ p. not (is_known (declarations.param_type p))) ps) h in
    ap₂ (λ (t : ExprType) (ts : List ExprType). t ∷ ts) (param_is p (not_false (is_known (declarations.param_type p)) two.0)) (params_are ps two.1)

-- ---- arrays

none_of : (a b : Bool) → a ≡ false → b ≡ false → (a || b) ≡ false
none_of true b e f = absurd (cc)
none_of false b e f = f

no_array : (array collection : Bool) → (array && not collection) ≡ false → collection ≡ false → array ≡ false
no_array true true h k = absurd (cc)
no_array true false h k = absurd (cc)
no_array false collection h k = refl

no_arrays : (ps : List Param) → list_any (λ p. p.is_array && not p.is_collection) ps ≡ false → list_any (λ p. p.is_collection) ps ≡ false → list_any (λ p. p.is_array) ps ≡ false
no_arrays [] h k = refl
no_arrays (p ∷ ps) h k =
    let one = both_false (p.is_array && not p.is_collection) (list_any (λ p. p.is_array && not p.is_collection) ps) h in
    let two = both_false p.is_collection (list_any (λ p. p.is_collection) ps) k in
    none_of p.is_array (list_any (λ p. p.is_array) ps) (no_array p.is_array p.is_collection one.0 two.0) (no_arrays ps one.1 two.1)

value_by : (is_array : Bool) (o : Option ValueType) → is_array ≡ false → is_known (if is_array then declarations.collection_of (value_or_none o) else value_or_none o) ≡ true
    → (if is_array then declarations.collection_of (value_or_none o) else value_or_none o) ≡ Value (unwrap_or o Int)
value_by true o e h = absurd (cc)
value_by false o e h = known_value o h

array_by : (is_array : Bool) (o : Option ValueType) → is_array ≡ true → is_known (if is_array then declarations.collection_of (value_or_none o) else value_or_none o) ≡ true
    → (if is_array then declarations.collection_of (value_or_none o) else value_or_none o) ≡ Collection (unwrap_or o Int)
array_by true None e h = absurd (cc)
array_by true (Some t) e h = refl
array_by false o e h = absurd (cc)

abbrev AreTyped : List Param → Type 0
AreTyped ps = list_any (λ p. not (is_known (declarations.param_type p))) ps ≡ false

-- values, where none is an array
are_values : (ps : List Param) → list_any (λ p. p.is_array) ps ≡ false → AreTyped ps → map declarations.param_type ps ≡ map (λ p. Value (param_variable p)) ps
are_values [] a h = refl
are_values (p ∷ ps) a h =
    let one = both_false p.is_array (list_any (λ p. p.is_array) ps) a in
    let two = both_false (not (is_known (declarations.param_type p))) (list_any (λ p. not (is_known (declarations.param_type p))) ps) h in
    ap₂ (λ (t : ExprType) (ts : List ExprType). t ∷ ts)
    (value_by p.is_array (value_type p.type_name) one.0 (not_false (is_known (declarations.param_type p)) two.0)) (are_values ps one.1 two.1)

-- ---- kinds

abbrev IsCollected : List Param → Type 0
IsCollected ps = (item : ValueType) × (map declarations.param_type ps ≡ Collection item ∷ []) × (map param_variable ps ≡ item ∷ [])

collected_by_one : (collection counted others : Bool) → collection ≡ true → (collection && (not counted || others)) ≡ false → (counted ≡ true) × (others ≡ false)
collected_by_one true true others c h = (refl, h)
collected_by_one true false others c h = absurd (cc)
collected_by_one false counted others c h = absurd (cc)

is_collected : (ps : List Param) → length ps ≡ 1 → list_any (λ p. not p.is_array) ps ≡ false → AreTyped ps → IsCollected ps
is_collected [] one arrays typed = absurd (omega (arith, one))
is_collected (p ∷ q ∷ ps) one arrays typed = absurd (omega (arith, one))
is_collected (p ∷ []) one arrays typed =
    let is_array = both_false (not p.is_array) false arrays in
    let is_typed = both_false (not (is_known (declarations.param_type p))) false typed in
    let is = array_by p.is_array (value_type p.type_name) (not_false p.is_array is_array.0) (not_false (is_known (declarations.param_type p)) is_typed.0) in
    (declared_type p.type_name, ap (λ (t : ExprType). t ∷ []) is, refl)

known_by : (collection private : Bool) (ps : List Param) → (collection ≡ true → IsCollected ps) → (collection ≡ false → map declarations.param_type ps ≡ map (λ p. Value (param_variable p)) ps)
    → AreKnownAs (if collection then Merge else (if private then Helper else Entry)) ps
known_by true private ps one values = one refl
known_by false true ps one values = values refl
known_by false false ps one values = values refl

-- in a class in which the rules find nothing
pub params_known : (c : Class) → IsQuiet c → (i : ℕ) (m : Method) → slice_get (methods_in c.members) i ≡ Some m → AreKnownAs (kind_of m) m.params
params_known c quiet i m is =
    let typed = ((class_sound c quiet.types).declared i m is).sound.params in
    let names = (types_of c).names in
    known_by (list_any (λ p. p.is_collection) m.params) (list_any is_private m.modifiers) m.params
    (λ some.
    let w = collected_by_one (list_any (λ p. p.is_collection) m.params) (nat_eq (length m.params) 1) (list_any (λ p. not p.is_array) m.params) some (well_collected_in c names quiet.annotations i m is) in
    is_collected m.params (eqb-true (length m.params) 1 w.0) w.1 typed)
    (λ none. are_values m.params (no_arrays m.params (arrays_collected c names quiet.annotations i m is) none) typed)

one_long : (ps : List Param) → IsCollected ps → length ps ≡ 1
one_long ps is = sym (length_map param_variable ps) ∙ ap (λ (ts : List ValueType). length ts) is.2

-- as many as the kind of a method takes
pub as_many_as : (kind : MethodKind) (ps : List Param) → AreKnownAs kind ps → IsOne kind (length ps)
as_many_as Entry ps is = tt
as_many_as Helper ps is = tt
as_many_as Merge ps is = one_long ps is
