-- A keyed call depends on the part of its key and changes nothing else, so that the parts of a field together are the whole field.
use Rattle.std.specs.Prelude.{◌≡◌, ◌≢◌, ℤ, Bool, List, ◌∷◌, Option, Some, None, IfSome, IsTrue}
use Rattle.std.specs.declared.cmp.Ordering.{Ordering}
use Rattle.std.specs.declared.cmp.Ordering.TheVariants.{Equal}
use Rattle.sdg_base.specs.declared.val.Val.{Val}
use Rattle.sdg_base.specs.declared.val.Val.TheVariants as val
use Rattle.state_classes.specs.declared.method.Method.{Method}
use Rattle.state_classes.specs.declared.plan.Plan.{Plan}
use Rattle.state_classes.specs.Entries.{Entries, MatrixKey, entry_at, changed}

-- the key, or the row, that chooses the part
abbrev pub part_named : List Val → Option ℤ
part_named (val.Long part ∷ others) = Some part
part_named _ = None

-- two plans are the same, and what they change lies in a part
pub record KeepsTo {K V : Type 0} (IsInPart : K → Type 0) (here there : Plan K V) : Type 0 where
  pub same : here ≡ there
  pub within : IfSome here.change (λ change. IsInPart change.0)

-- The part of a table's key is this key, and the part of a matrix's row is each key of this row.
abbrev pub IsKey : ℤ → ℤ → Type 0
IsKey part key = key ≡ part

abbrev pub IsInRow : ℤ → MatrixKey → Type 0
IsInRow row key = key.0 ≡ row

-- A keyed call is planned the same on entries that agree on its part, and it changes an entry of this part alone.
abbrev pub CallsKeepToTheirPart : {K V : Type 0} → (K → K → Ordering) → (ℤ → K → Type 0) → (Method → Bool) → (Method → List Val → List (K × V) → Plan K V) → Type 0
CallsKeepToTheirPart {K} {V} cmp IsInPart keyed planned =
    (m : Method) (args : List Val) (part : ℤ) (here there : List (K × V))
    → IsTrue (keyed m) → part_named args ≡ Some part
    → ((key : K) → IsInPart part key → entry_at cmp key here ≡ entry_at cmp key there)
    → KeepsTo (IsInPart part) (planned m args here) (planned m args there)

-- a change leaves each entry of another key as it was
abbrev pub OthersStay : {K : Type 0} → (K → K → Ordering) → Type 0
OthersStay {K} cmp = (change : Option (K × Option ℤ)) (other : K) (entries : Entries K) → IfSome change (λ c. cmp other c.0 ≢ Equal) → entry_at cmp other (changed cmp change entries) ≡ entry_at cmp other entries
