-- Lists that a loop goes over.
use Rattle.std.proofs.Common.{◌≡◌, suc, List, [], ◌∷◌, ◌++◌, map, flat_map, fold, length, refl, ap}
use Rattle.std.proofs.lemmas.List.Folds.{fold-map}

pub length_map : {A B : Type 0} (f : A → B) (xs : List A) → length (map f xs) ≡ length xs
length_map f [] = refl
length_map f (x ∷ xs) = ap suc (length_map f xs)

pub map_map : {A B C : Type 0} (f : B → C) (g : A → B) (xs : List A) → map f (map g xs) ≡ map (λ x. f (g x)) xs
map_map f g [] = refl
map_map f g (x ∷ xs) = ap (λ (rest : List _). f (g x) ∷ rest) (map_map f g xs)

pub flat_map_map : {A B : Type 0} (f : A → List B) (xs : List A) → flat_map (λ x. x) (map f xs) ≡ flat_map f xs
flat_map_map f [] = refl
flat_map_map f (x ∷ xs) = ap (λ rest. f x ++ rest) (flat_map_map f xs)

pub flat_map_fuse : {A B C : Type 0} (f : B → List C) (g : A → B) (xs : List A) → flat_map f (map g xs) ≡ flat_map (λ x. f (g x)) xs
flat_map_fuse f g [] = refl
flat_map_fuse f g (x ∷ xs) = ap (λ rest. f (g x) ++ rest) (flat_map_fuse f g xs)

pub fold_map : {A B C : Type 0} (f : B → A → B) (h : C → A) (a : B) (xs : List C) → fold f a (map h xs) ≡ fold (λ b x. f b (h x)) a xs
fold_map f h a xs = fold-map f h a xs
