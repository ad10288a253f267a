-- Variables by name, among parameters beside their arguments.
use Rattle.std.proofs.Common.{◌≡◌, ℕ, ◌++◌, zero, suc, ℤ, ◌+◌, ◌<◌, Bool, true, false, ◌≤◌, List, [], ◌∷◌, Option, Some, if◌then◌else◌, length, drop, get_or, add-one, All, Contains, sym, ◌∙◌, ap, subst, refl, arith}
use Rattle.std.specs.List.{AllByRecursion, zip}
use Rattle.std.specs.Str.{bytes_eq}
use Rattle.std.proofs.Math.Seq.{drop-cons}
use Rattle.std.proofs.lemmas.List.{drop_all}
use Rattle.std.proofs.lemmas.Option.{none-some, same_Some}
use Rattle.std.proofs.lemmas.Slice.Eq.{bytes_eq-Decides}
use Rattle.std.proofs.lemmas.List.Elements.{All-head, All-tail}
use Rattle.sdg_base.specs.declared.val.Val.{Val}
use Rattle.sdg_base.specs.declared.val.Val.TheVariants as val
use Rattle.sdg_base.specs.Operators.{IsNumber, widened}
use Rattle.early_source.specs.Variables.{Variables, named}
use Rattle.early_plain.specs.Fits.{IsLong}
use Rattle.early_plain.specs.Scopes.{names_in, with_locals}
use Rattle.early_plain.specs.declared.scope.Local.{Local}

-- a long is made of a whole number
pub long_in : (v : Val) → IsLong v → (n : ℤ) × (v ≡ val.Long n)
long_in (val.Int n) h = absurd h
long_in (val.Long n) h = (n, refl)
long_in (val.Bool b) h = absurd h
long_in (val.Vector xs) h = absurd h
long_in val.Unit h = absurd h

-- an element that isn't the first
pub Contains_later : (x : List ℕ) (xs : List (List ℕ)) (y : List ℕ) → bytes_eq x y ≡ false → Contains (x ∷ xs) y → Contains xs y
Contains_later x xs y h (zero, l, e) = let t = (bytes_eq-Decides x y).1 e in absurd (cc)
Contains_later x xs y h (suc k, l, e) = (k, omega arith, e)

pub here_or_later : (b : Bool) (v : Val) (later : Option Val) → IsLong v → (b ≡ false → (n : ℤ) × (later ≡ Some (val.Long n)))
    → (n : ℤ) × ((if b then Some v else later) ≡ Some (val.Long n))
here_or_later true v later h k = let n = long_in v h in (n.0, ap Some n.1)
here_or_later false v later h k = k refl

-- A parameter has its argument as its value.
pub named_known : (names : List (List ℕ)) (args : List Val) (name : List ℕ) → length args ≡ length names → All IsLong args → Contains names name
    → (n : ℤ) × (named name (zip names args) ≡ Some (val.Long n))
named_known [] args name e longs (k, l, h) = absurd (omega arith)
named_known (x ∷ names) [] name e longs h = absurd (omega arith)
named_known (x ∷ names) (v ∷ args) name e longs h =
    here_or_later (bytes_eq x name) v (named name (zip names args)) (All-head IsLong v args longs)
    (λ (other : bytes_eq x name ≡ false). named_known names args name (omega arith) (All-tail IsLong v args longs) (Contains_later x names name other h))

-- from a place on, the variable there and then the others
named_from : (names : List (List ℕ)) (args : List Val) (name : List ℕ) (i : ℕ) (d : List ℕ) (v : Val) → i < length names → length args ≡ length names
    → named name (zip (drop i names) (drop i args)) ≡ (if bytes_eq (get_or names i d) name then Some (get_or args i v) else named name (zip (drop (i + 1) names) (drop (i + 1) args)))
named_from names args name i d v l e =
    let m : i < length args = omega arith in
    rw (add-one, drop-cons names i d, drop-cons args i v)

-- where it has another
pub named_later : (names : List (List ℕ)) (args : List Val) (name : List ℕ) (i : ℕ) (x : List ℕ)
    → i < length names → length args ≡ length names → x ≡ get_or names i x → bytes_eq x name ≡ false
    → named name (zip (drop i names) (drop i args)) ≡ named name (zip names args) → named name (zip (drop (i + 1) names) (drop (i + 1) args)) ≡ named name (zip names args)
named_later names args name i x l e at_x other so_far =
    let step = named_from names args name i x val.Unit l e in
    let is : bytes_eq (get_or names i x) name ≡ false = rw (← at_x) other in
    sym (rw is at step) ∙ so_far

-- One more local is declared last.
pub with_locals-push : (variables : Variables) (locals : List Local) (local : Local) → with_locals variables (locals ++ local ∷ []) ≡ (local.name.now, local.value) ∷ with_locals variables locals
with_locals-push variables [] local = refl
with_locals-push variables (x ∷ locals) local = with_locals-push ((x.name.now, x.value) ∷ variables) locals local

-- the value of a variable after these locals, from its value before
abbrev pub latest : List ℕ → Option Val → List Local → Option Val
latest name found [] = found
latest name found (local ∷ locals) = latest name (if bytes_eq local.name.now name then Some local.value else found) locals

pub named-with_locals : (name : List ℕ) (variables : Variables) (locals : List Local) → named name (with_locals variables locals) ≡ latest name (named name variables) locals
named-with_locals name variables [] = refl
named-with_locals name variables (local ∷ locals) = named-with_locals name ((local.name.now, local.value) ∷ variables) locals

-- once no local is left
pub latest-none : (name : List ℕ) (found : Option Val) (locals : List Local) (n : ℕ) → length locals ≤ n → latest name found (drop n locals) ≡ found
latest-none name found locals n l = ap (latest name found) (drop_all n locals l)

-- A variable that is there has a value.
pub named-there : {A : Type 0} (name : List ℕ) (variables : List (List ℕ × A)) → Contains (names_in variables) name → (v : A) × (named name variables ≡ Some v)
named-there name [] (k, l, e) = absurd (omega arith)
named-there {A} name (x ∷ variables) there = found (bytes_eq x.0 name) refl (λ other. named-there name variables (Contains_later x.0 (names_in variables) name other there))
  where
    found : (b : Bool) → bytes_eq x.0 name ≡ b → (bytes_eq x.0 name ≡ false → (v : A) × (named name variables ≡ Some v)) → (v : A) × ((if b then Some x.1 else named name variables) ≡ Some v)
    found true same later = (x.1, refl)
    found false other later = later other

-- ---- all values are longs

abbrev pub HoldLongs : Variables → Type 0
HoldLongs variables = AllByRecursion (λ variable. IsLong variable.1) variables

pub HoldLongs-zip : (names : List (List ℕ)) (args : List Val) → All IsLong args → HoldLongs (zip names args)
HoldLongs-zip [] args longs = tt
HoldLongs-zip (name ∷ names) [] longs = tt
HoldLongs-zip (name ∷ names) (v ∷ args) longs = (All-head IsLong v args longs, HoldLongs-zip names args (All-tail IsLong v args longs))

pub HoldLongs-with_locals : (variables : Variables) (locals : List Local) → HoldLongs variables → All (λ l. IsLong l.value) locals → HoldLongs (with_locals variables locals)
HoldLongs-with_locals variables [] longs locals_are = longs
HoldLongs-with_locals variables (local ∷ locals) longs locals_are =
    HoldLongs-with_locals ((local.name.now, local.value) ∷ variables) locals (All-head (λ l. IsLong l.value) local locals locals_are, longs) (All-tail (λ l. IsLong l.value) local locals locals_are)

pub named-long : (name : List ℕ) (variables : Variables) (v : Val) → HoldLongs variables → named name variables ≡ Some v → IsLong v
named-long name [] v longs is = absurd (none-some v is)
named-long name (x ∷ variables) v longs is = found (bytes_eq x.0 name) is (named-long name variables v longs.1)
  where
    found : (b : Bool) → (if b then Some x.1 else named name variables) ≡ Some v → (named name variables ≡ Some v → IsLong v) → IsLong v
    found true is_here later = subst IsLong (same_Some x.1 v is_here) longs.0
    found false is_later later = later is_later

-- each variable of a scope has a long
pub scope_long : (names : List (List ℕ)) (args : List Val) (locals : List Local) (scope : Variables) (name : List ℕ) (v : Val) → with_locals (zip names args) locals ≡ scope
    → All IsLong args → All (λ l. IsLong l.value) locals → named name scope ≡ Some v → IsLong v
scope_long names args locals scope name v scope_is longs locals_are is =
    named-long name scope v (subst HoldLongs scope_is (HoldLongs-with_locals (zip names args) locals (HoldLongs-zip names args longs) locals_are)) is

pub long_is_number : (v : Val) → IsLong v → IsNumber v
long_is_number (val.Long n) h = tt
long_is_number (val.Int n) h = absurd h
long_is_number (val.Bool b) h = absurd h
long_is_number (val.Vector xs) h = absurd h
long_is_number val.Unit h = absurd h

pub widened-long : (v : Val) → IsLong v → widened v ≡ v
widened-long (val.Long n) h = refl
widened-long (val.Int n) h = absurd h
widened-long (val.Bool b) h = refl
widened-long (val.Vector xs) h = refl
widened-long val.Unit h = refl
