-- Calls that fit the methods as a caller sees them fit the class.
use Rattle.std.proofs.Common.{◌≡◌, ℕ, zero, suc, ◌+◌, List, [], ◌∷◌, map, length, Some, All, refl, ap, sym, subst, arith}
use Rattle.std.specs.Prelude.{slice_get}
use Rattle.std.specs.List.{AllZip, AllByRecursion}
use Rattle.std.proofs.lemmas.List.Elements.{All-nil, All-cons, recursion_from_All}
use Rattle.sdg_base.specs.declared.val.Val.{Val}
use Rattle.sdg_base.specs.declared.val.Val.TheVariants as val
use Rattle.sdg_base.specs.declared.call.Call.{Call}
use Rattle.early_forms.specs.declared.straight.StraightMethod.{StraightMethod}
use Rattle.early_forms.specs.declared.straight.StraightClass.{StraightClass}
use Rattle.early_forms.specs.Names.{IsProper}
use Rattle.early_forms.specs.Trees.{class_tree}
use Rattle.early_plain.specs.Fits.{IsLong, CallFits}
use Rattle.run_text.specs.declared.entrance.ValueType.{ValueType}
use Rattle.run_text.specs.declared.entrance.ValueType.TheVariants.{Long}
use Rattle.run_text.specs.declared.entrance.Entrance.{Entrance}
use Rattle.run_text.specs.Values.{Fits}
use Rattle.run_text.specs.Calls.{CallFits as FitsEntrance}
use Rattle.sdg_top.specs.Entrances.{entrances_of}
use Rattle.sdg_top.proofs.Members.{straight_entrance, straight_entrances, entrances-class_tree}

-- where the entrances have one, the methods have its method, and that is its number
entrance_at : (number place : ℕ) (ms : List StraightMethod) (e : Entrance) → slice_get (straight_entrances number ms) place ≡ Some e
    → (m : StraightMethod) × (slice_get ms place ≡ Some m) × (e.number ≡ number + place) × (map (λ _. Long) m.parameters ≡ e.parameters)
entrance_at number place [] e is = absurd cc
entrance_at number zero (m ∷ ms) e is =
    let same : e ≡ straight_entrance number m = cc in
    let here : e.number ≡ number = ap (λ (x : Entrance). x.number) same in
    (m, refl, omega (arith, here), ap (λ (x : Entrance). x.parameters) (sym same))
entrance_at number (suc place) (m ∷ ms) e is =
    let found = entrance_at (suc number) place ms e is in
    (found.0, found.1, omega (arith, found.2), found.3)

one_long : (v : Val) → Fits Long v → IsLong v
one_long (val.Int n) fits = fits
one_long (val.Long n) fits = tt
one_long (val.Bool b) fits = fits
one_long (val.Vector ns) fits = fits
one_long val.Unit fits = fits

as_many_longs : (names : List (List ℕ)) (args : List Val) → AllZip Fits (map (λ _. Long) names) args → length args ≡ length names
as_many_longs [] [] fits = refl
as_many_longs [] (v ∷ vs) fits = absurd fits
as_many_longs (name ∷ names) [] fits = absurd fits
as_many_longs (name ∷ names) (v ∷ vs) fits = ap suc (as_many_longs names vs fits.1)

all_longs : (names : List (List ℕ)) (args : List Val) → AllZip Fits (map (λ _. Long) names) args → All IsLong args
all_longs [] [] fits = All-nil IsLong
all_longs [] (v ∷ vs) fits = absurd fits
all_longs (name ∷ names) [] fits = absurd fits
all_longs (name ∷ names) (v ∷ vs) fits = All-cons IsLong v vs (one_long v fits.0) (all_longs names vs fits.1)

fits_class : (c : StraightClass) (call : Call) → IsProper c → FitsEntrance (entrances_of (class_tree c)) call → CallFits c call
fits_class c call proper fits =
    let at : slice_get (straight_entrances 0 c.methods) fits.place ≡ Some fits.entrance = subst (λ (es : List Entrance). slice_get es fits.place ≡ Some fits.entrance) (entrances-class_tree c proper) fits.method in
    let found = entrance_at 0 fits.place c.methods fits.entrance at in
    let args : AllZip Fits (map (λ _. Long) found.0.parameters) call.args = subst (λ (types : List ValueType). AllZip Fits types call.args) (sym found.3) fits.args in
    let number : call.method ≡ fits.place = omega (arith, fits.number, found.2) in
    record {
      method = found.0;
      is_method = subst (λ n. slice_get c.methods n ≡ Some found.0) (sym number) found.1;
      as_many = as_many_longs found.0.parameters call.args args;
      longs = all_longs found.0.parameters call.args args;
    }

all_by_recursion : (c : StraightClass) (es : List Entrance) (calls : List Call) → IsProper c → es ≡ entrances_of (class_tree c) → AllByRecursion (FitsEntrance es) calls → AllByRecursion (CallFits c) calls
all_by_recursion c es [] proper e fits = tt
all_by_recursion c es (call ∷ calls) proper e fits = (fits_class c call proper (subst (λ (all : List Entrance). FitsEntrance all call) e fits.0), all_by_recursion c es calls proper e fits.1)

-- Calls that fit the methods as a caller sees them fit the class.
pub all_fit : (c : StraightClass) (es : List Entrance) (calls : List Call) → IsProper c → es ≡ entrances_of (class_tree c) → All (FitsEntrance es) calls → AllByRecursion (CallFits c) calls
all_fit c es calls proper e fits = all_by_recursion c es calls proper e (recursion_from_All (FitsEntrance es) calls fits)
