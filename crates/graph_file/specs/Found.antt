-- What reading a part of a file finds: what stands there, or the path below that part where the form first fails. A path has `/` and a key or an index for each level.
use Rattle.std.specs.Prelude.{◌≡◌, ℕ, List, [], ◌∷◌, ◌++◌, Option, Some, None, Result, Ok, Err}
use Rattle.graph_file.specs.declared.fault.Fault.{Fault}
use Rattle.graph_file.specs.declared.fault.Fault.TheVariants as fault

abbrev pub Found : Type 0 → Type 0
Found A = Result A (List ℕ)

infixl 10 ◌>>=◌
abbrev pub ◌>>=◌ : {A B : Type 0} → Found A → (A → Found B) → Found B
Ok x >>= f = f x
Err path >>= f = Err path

-- what is there, or the path of the part itself
abbrev pub or_here : {A : Type 0} → Option A → Found A
or_here None = Err []
or_here (Some x) = Ok x

abbrev pub path_under : List ℕ → List ℕ → List ℕ
path_under step path = 47 ∷ (step ++ path)

-- the same of the part that holds it at this key or index
abbrev pub under : {A : Type 0} → List ℕ → Found A → Found A
under step (Ok x) = Ok x
under step (Err path) = Err (path_under step path)

-- ---- what a function that reads answers

abbrev pub Tells : {A : Type 0} → Found A → Result A Fault → Type 0
Tells found (Ok x) = found ≡ Ok x
Tells found (Err (fault.Misfit path)) = found ≡ Err path
Tells found (Err fault.Memory) = Unit {0}

-- the fault of the part that holds the faulty one
abbrev pub IsUnder : List ℕ → Fault → Fault → Type 0
IsUnder step (fault.Misfit path) (fault.Misfit longer) = longer ≡ path_under step path
IsUnder step _ fault.Memory = Unit {0}
IsUnder step fault.Memory (fault.Misfit longer) = ⊥
