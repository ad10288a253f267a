-- Which locals are definitely assigned (JLS 16).
use Rattle.std.specs.Prelude.{ℕ, Bool, true, not, ◌&&◌, ◌||◌, if◌then◌else◌, List, [], ◌∷◌}
use Rattle.std.specs.List.{list_any}
use Rattle.std.specs.Str.{bytes_eq}

-- Which variables are definitely assigned, by name: no two in scope share one. A name of no local in scope is: it is a
-- parameter's or a field's.
abbrev pub Assigned : Type 0
Assigned = List ℕ → Bool

-- after what doesn't complete normally, and where a constant lets no evaluation come
abbrev pub all_assigned : Assigned
all_assigned = λ name. true

-- where two ways meet
abbrev pub both : Assigned → Assigned → Assigned
both a b = λ name. a name && b name

-- where every variable is, or what is assigned otherwise
abbrev pub unless : Bool → Assigned → Assigned
unless is_cut a = if is_cut then all_assigned else a

abbrev pub also : List ℕ → Assigned → Assigned
also one a = λ name. bytes_eq name one || a name

abbrev pub except : List ℕ → Assigned → Assigned
except one a = λ name. not (bytes_eq name one) && a name

-- these are no locals in scope any more
abbrev pub out_of_scope : List (List ℕ) → Assigned → Assigned
out_of_scope [] a = a
out_of_scope (one ∷ more) a = out_of_scope more (also one a)

-- All of these but no other variables are not assigned.
abbrev pub all_but : List (List ℕ) → Assigned
all_but names = λ name. not (list_any (bytes_eq name) names)
