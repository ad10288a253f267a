-- Which statements of a list complete, from the first one on.
use Rattle.std.proofs.Common.{◌≡◌, Bool, true, List, [], ◌∷◌, refl}
use Rattle.body_code.specs.Completing.{Leaving, completing}

-- whether a list completes where what stands before it does or doesn't
abbrev pub from : Bool → List Leaving → Bool
from before [] = before
from before (l ∷ ls) = from l.completes ls

pub from_first : (l : Leaving) (ls : List Leaving) → from l.completes ls ≡ completing (l ∷ ls)
from_first l [] = refl
from_first l (m ∷ ms) = from_first m ms

pub from_start : (ls : List Leaving) → from true ls ≡ completing ls
from_start [] = refl
from_start (l ∷ ls) = from_first l ls
