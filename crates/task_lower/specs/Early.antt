-- Assigned variables with whether they are read for their value, and sets of variables.
use Rattle.std.specs.Prelude.{◌≡◌, ℕ, Bool, nat_eq, nat_lt, ◌||◌, if◌then◌else◌, List, [], ◌∷◌, ◌++◌}
use Rattle.std.specs.HashSet.{contains}
use Rattle.std.specs.HashSet.{HashSet}
use Rattle.body_code.specs.Early as spec
use Rattle.body_code.specs.Early.{is_in}
use Rattle.task_lower.specs.declared.early.Assigned.{Assigned}

abbrev pub noted : spec.Assigned → Assigned
noted a = record { variable = a.variable; is_read = is_in a.variable a.reads }

-- the same behind a key that reads some variables
abbrev pub with_key : (ℕ → Bool) → Assigned → Assigned
with_key key a = record { variable = a.variable; is_read = key a.variable || a.is_read }

abbrev pub also : ℕ → (ℕ → Bool) → ℕ → Bool
also v seen w = nat_eq v w || seen w

-- where some variables are assigned already
abbrev pub early_by : (ℕ → Bool) → List Assigned → List ℕ
early_by seen [] = []
early_by seen (a ∷ others) =
    if seen a.variable then early_by seen others else if a.is_read then a.variable ∷ early_by (also a.variable seen) others else early_by (also a.variable seen) others

-- a set has what it had, and these variables
pub record AreAlso {S : Type 0} (vs : List ℕ) (old new : HashSet ℕ S) : Type 0 where
  pub each : (v : ℕ) → contains nat_eq new v ≡ (is_in v vs || contains nat_eq old v)

-- Those that are early from here on are as many as before, once one assigned variable is looked at.
pub record Notes {S : Type 0} (arity : ℕ) (a : Assigned) (seen seen_2 : HashSet ℕ S) (early early_2 : List ℕ) : Type 0 where
  pub rest : (others : List Assigned)
      → early_2 ++ early_by (λ v. nat_lt v arity || contains nat_eq seen_2 v) others ≡ early ++ early_by (λ v. nat_lt v arity || contains nat_eq seen v) (a ∷ others)
