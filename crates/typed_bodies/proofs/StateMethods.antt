-- The methods of the classes that hold state: a key is a long and comes first, and none answers an int.
use Rattle.std.proofs.Common.{◌≡◌, ℕ, Bool, true, false, not, ◌&&◌, ◌||◌, List, [], ◌∷◌, Option, Some, if◌then◌else◌, refl, sym, ap, ◌∙◌}
use Rattle.std.specs.List.{list_all}
use Rattle.std.specs.Str.{bytes_eq}
use Rattle.sdg_base.specs.declared.store.ClassName.{ClassName}
use Rattle.sdg_base.specs.declared.store.ClassName.TheVariants as class_name
use Rattle.sdg_base.specs.declared.value_type.ValueType.{ValueType}
use Rattle.sdg_base.specs.declared.value_type.ValueType.TheVariants as type
use Rattle.sdg_base.specs.Signatures.{Signature, Methods, methods_of, named, state_method}
use Rattle.java_tree.specs.declared.types.ValueType.{ValueType as VariableType}
use Rattle.java_tree.specs.declared.types.ValueType.TheVariants as variable
use Rattle.java_tree.specs.declared.types.ExprType.TheVariants.{Value}
use Rattle.java_types.specs.Fits.{fits}
use Rattle.access_blocks.specs.Resolving.{wanted_by}
use Rattle.body_code.specs.Typing.{type_by}

abbrev begins_long : List ValueType → Bool
begins_long (type.Long ∷ types) = true
begins_long _ = false

abbrev pub is_no_int : ValueType → Bool
is_no_int type.Int = false
is_no_int _ = true

abbrev is_right : Signature → Bool
is_right s = (not s.keyed || begins_long s.arguments) && is_no_int s.result

if_right : (b : Bool) (s : Signature) (rest : Option Signature) (found : Signature) → (if b then Some s else rest) ≡ Some found → is_right s ≡ true
    → (rest ≡ Some found → is_right found ≡ true) → is_right found ≡ true
if_right true s rest found is right more = ap is_right (sym (same_some is)) ∙ right
  where
    same_some : {A : Type 0} {x y : A} → Some x ≡ Some y → x ≡ y
    same_some e = cc
if_right false s rest found is right more = more is

both_true : (a b : Bool) → (a && b) ≡ true → a ≡ true × b ≡ true
both_true true b e = (refl, e)
both_true false b e = absurd (cc)

named_right : (name : List ℕ) (ms : Methods) → list_all (λ m. is_right m.1) ms ≡ true → (s : Signature) → named name ms ≡ Some s → is_right s ≡ true
named_right name [] all s is = absurd (cc)
named_right name (m ∷ ms) all s is =
    let parts = both_true (is_right m.1) (list_all (λ m. is_right m.1) ms) all in
    if_right (bytes_eq name m.0) m.1 (named name ms) s is parts.0 (named_right name ms parts.1 s)

all_right : (class : ClassName) → list_all (λ m. is_right m.1) (methods_of class) ≡ true
all_right class_name.Table = refl
all_right class_name.Matrix = refl
all_right class_name.Counter = refl

method_right : (class : ClassName) (name : List ℕ) (s : Signature) → state_method class name ≡ Some s → is_right s ≡ true
method_right class name s is = named_right name (methods_of class) (all_right class) s is

first_long : (ts : List ValueType) → begins_long ts ≡ true → (rest : List ValueType) × (ts ≡ type.Long ∷ rest)
first_long [] e = absurd (cc)
first_long (type.Int ∷ ts) e = absurd (cc)
first_long (type.Long ∷ ts) e = (ts, refl)
first_long (type.Boolean ∷ ts) e = absurd (cc)
first_long (type.Vector ∷ ts) e = absurd (cc)
first_long (type.Void ∷ ts) e = absurd (cc)

keyed_long : (keyed long : Bool) → (not keyed || long) ≡ true → keyed ≡ true → long ≡ true
keyed_long true long e is = e
keyed_long false long e is = absurd (cc)

-- the key of a method that has one
pub key_first : (class : ClassName) (name : List ℕ) (s : Signature) → state_method class name ≡ Some s → s.keyed ≡ true → (rest : List ValueType) × (s.arguments ≡ type.Long ∷ rest)
key_first class name s is keyed =
    first_long s.arguments (keyed_long s.keyed (begins_long s.arguments) (both_true (not s.keyed || begins_long s.arguments) (is_no_int s.result) (method_right class name s is)).0 keyed)

pub answers_no_int : (class : ClassName) (name : List ℕ) (s : Signature) → state_method class name ≡ Some s → is_no_int s.result ≡ true
answers_no_int class name s is = (both_true (not s.keyed || begins_long s.arguments) (is_no_int s.result) (method_right class name s is)).1

-- What is no int goes only where its own type is wanted.
pub fits_alone : (t : VariableType) (r : ValueType) → fits (Value t) (wanted_by r) ≡ true → is_no_int r ≡ true → type_by t ≡ r
fits_alone variable.Int type.Int e no_int = absurd (cc)
fits_alone variable.Int type.Long e no_int = absurd (cc)
fits_alone variable.Int type.Boolean e no_int = absurd (cc)
fits_alone variable.Int type.Vector e no_int = absurd (cc)
fits_alone variable.Int type.Void e no_int = absurd (cc)
fits_alone variable.Long type.Int e no_int = absurd (cc)
fits_alone variable.Long type.Long e no_int = refl
fits_alone variable.Long type.Boolean e no_int = absurd (cc)
fits_alone variable.Long type.Vector e no_int = absurd (cc)
fits_alone variable.Long type.Void e no_int = absurd (cc)
fits_alone variable.Boolean type.Int e no_int = absurd (cc)
fits_alone variable.Boolean type.Long e no_int = absurd (cc)
fits_alone variable.Boolean type.Boolean e no_int = refl
fits_alone variable.Boolean type.Vector e no_int = absurd (cc)
fits_alone variable.Boolean type.Void e no_int = absurd (cc)
fits_alone variable.Vector type.Int e no_int = absurd (cc)
fits_alone variable.Vector type.Long e no_int = absurd (cc)
fits_alone variable.Vector type.Boolean e no_int = absurd (cc)
fits_alone variable.Vector type.Vector e no_int = refl
fits_alone variable.Vector type.Void e no_int = absurd (cc)

pub type_back : (t : VariableType) → wanted_by (type_by t) ≡ Value t
type_back variable.Int = refl
type_back variable.Long = refl
type_back variable.Boolean = refl
type_back variable.Vector = refl
