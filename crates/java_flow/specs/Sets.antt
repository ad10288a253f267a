-- Sets of locals, as the code has them: those that have a number as bits, and any other by name.
use Rattle.std.specs.Prelude.{ℕ, Bool, not, nat_eq, get_or, ◌/◌, ◌%◌, List, Option, Some, None}
use Rattle.std.specs.Int.{bit_at}
use Rattle.std.specs.List.{position}
use Rattle.std.specs.Str.{bytes_eq}
use Rattle.java_flow.specs.Assigned.{Assigned, all_but}
use Rattle.java_flow.specs.declared.names.Unassigned.{Unassigned}

-- the number of a name
abbrev pub number_of : List ℕ → List (List ℕ) → Option ℕ
number_of name names = position (bytes_eq name) names

-- whether a number is in a set, each word of which has 64
unfoldable pub bit : List ℕ → ℕ → Bool
bit words number = nat_eq (bit_at (get_or words (number / 64) 0) (number % 64)) 1

-- whether a name, which has this number or none, is not in a set
abbrev pub is_out : Option ℕ → Unassigned → List ℕ → Bool
is_out None set name = all_but set.others.items name
is_out (Some number) set name = not (bit set.numbered.items number)

-- All variables but those in a set are assigned.
unfoldable pub stands : List (List ℕ) → Unassigned → Assigned
stands numbers set = λ name. is_out (number_of name numbers) set name
