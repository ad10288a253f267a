-- Lists that a loop goes over.
use Rattle.std.proofs.Common.{◌≡◌, List, map, fold}
use Rattle.std.proofs.lemmas.List.Folds.{fold-map}

pub fold_map : {A B C : Type 0} (f : B → A → B) (h : C → A) (a : B) (xs : List C) → fold f a (map h xs) ≡ fold (λ b x. f b (h x)) a xs
fold_map f h a xs = fold-map f h a xs
