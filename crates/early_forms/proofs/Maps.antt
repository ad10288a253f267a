-- A list that is the map of another, element by element.
use Rattle.std.proofs.Common.{◌≡◌, ◌≢◌, refl, ℕ, zero, suc, ◌+◌, ◌<◌, ◌≤◌, List, [], ◌∷◌, ◌++◌, map, length, get_or, take, ap, arith}
use Rattle.std.proofs.lemmas.List.{take_more, take_all, map-append}

-- one more element of each
pub map_more :
    {X Y : Type 0} (f : Y → X) (xs : List X) (i : ℕ) (x : X) (ys : List Y) (y : Y) →
    i < length xs → x ≡ get_or xs i x → take i xs ≡ map f ys → x ≡ f y → take (i + 1) xs ≡ map f (ys ++ y ∷ [])
map_more f xs i x ys y within read done here =
    let step = take_more xs i x within in
    let both = map-append f ys (y ∷ []) in
    cc

pub map_all : {X Y : Type 0} (f : Y → X) (xs : List X) (i : ℕ) (ys : List Y) → length xs ≤ i → take i xs ≡ map f ys → xs ≡ map f ys
map_all f xs i ys past done = let whole = take_all i xs past in cc

get_or-map : {X Y : Type 0} (f : Y → X) (ys : List Y) (i : ℕ) (d : X) → i < length (map f ys) → (y : Y) × (get_or (map f ys) i d ≡ f y)
get_or-map f [] i d within = absurd (omega arith)
get_or-map f (y ∷ ys) zero d within = (y, refl)
get_or-map f (y ∷ ys) (suc i) d within = get_or-map f ys i d (omega arith)

-- an element that is no image
pub map_none :
    {X Y : Type 0} (f : Y → X) (xs : List X) (i : ℕ) (x : X) →
    i < length xs → x ≡ get_or xs i x → ((y : Y) → x ≢ f y) → (ys : List Y) → xs ≢ map f ys
map_none f xs i x within read refused ys same =
    let within' : i < length (map f ys) = omega (arith, ap length same) in
    let found = get_or-map f ys i x within' in
    refused found.0 (let a = ap (λ zs. get_or zs i x) same in let b = found.1 in cc)

-- the images of one list beside the images of another, one more of each
pub maps_more :
    {X Y Z : Type 0} (f : X → Y) (g : Z → Y) (xs : List X) (i : ℕ) (x : X) (zs : List Z) (z : Z) →
    i < length xs → x ≡ get_or xs i x → map g zs ≡ map f (take i xs) → g z ≡ f x → map g (zs ++ z ∷ []) ≡ map f (take (i + 1) xs)
maps_more f g xs i x zs z within read done here =
    let step = ap (λ ys. map f ys) (take_more xs i x within) in
    let left = map-append g zs (z ∷ []) in
    let right = map-append f (take i xs) (get_or xs i x ∷ []) in
    cc
