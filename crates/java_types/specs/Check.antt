-- The findings of a class, which of them comes first, and its types.
use Rattle.std.specs.Prelude.{◌≡◌, ℕ, Bool, false, nat_eq, nat_lt, List, [], length, map, slice_get, unwrap_or, fold, All, Contains, Option, Some, None, if◌then◌else◌}
use Rattle.java_tree.specs.declared.token.Place.{Place}
use Rattle.java_tree.specs.declared.tree.Class.{Class}
use Rattle.java_tree.specs.declared.types.Types.{Types}
use Rattle.java_types.specs.declared.checking.Refused.{Refused}
use Rattle.java_types.specs.declared.error.TypeError.{TypeError}
use Rattle.java_types.specs.declared.error.TypeError.TheVariants as errors
use Rattle.java_types.specs.declared.walk.Env.{Env}
use Rattle.java_types.specs.declared.walk.Finding.{Finding}
use Rattle.java_types.specs.declared.walk.Walk.{Walk}
use Rattle.java_types.specs.Declarations.{fields_of, methods_of}
use Rattle.java_types.specs.Members.{members_walk}

-- where a token stands; one without a place stands before all others
abbrev pub place_at : List Place → ℕ → Place
place_at places token = unwrap_or (slice_get places token) (record { line = 0; column = 0 })

abbrev pub refused_at : List Place → Finding → Refused
refused_at places f = record { place = place_at places f.token; rule = f.rule }

-- one comes before the other: by line, then by column, then by rule
abbrev pub is_before : Refused → Refused → Bool
is_before a b =
    if nat_eq a.place.line b.place.line
    then (if nat_eq a.place.column b.place.column then nat_lt a.rule b.rule else nat_lt a.place.column b.place.column)
    else nat_lt a.place.line b.place.line

abbrev pub earlier : Option Refused → Refused → Option Refused
earlier None other = Some other
earlier (Some first) other = if is_before other first then Some other else Some first

-- the first of them; of those that tie, the one that is listed first
abbrev pub first_of : List Refused → Option Refused
first_of = fold earlier None

-- one of them, before which none of them comes
pub record IsLeast (all : List Refused) (f : Refused) : Type 0 where
  pub is_one : Contains all f
  pub is_first : All (λ g. is_before g f ≡ false) all

-- what is declared in the class
abbrev pub env_of : Class → Env
env_of c = record { limit = length c.places; class_name = c.name; fields = fields_of c.members; methods = methods_of c.members }

-- what is known before the first token
abbrev pub start : Walk
start = record { at = 0; caller = 0; variables = []; locals = []; calls = []; types = []; names = []; findings = [] }

-- what is known behind the last member
unfoldable pub whole : Class → Walk
whole c = members_walk (env_of c) c start

-- each rule that the class breaks, at the place where it does
abbrev pub findings_of : Class → List Refused
findings_of c = map (refused_at c.places) (whole c).findings

abbrev pub types_of : Class → Types
types_of c = record { exprs = (whole c).types; names = (whole c).names }

-- what a refusal says: the least of what is broken, if it is not want of memory
abbrev pub IsRefusal : Class → TypeError → Type 0
IsRefusal c (errors.Rule rule place) = IsLeast (findings_of c) (record { place = place; rule = rule })
IsRefusal c errors.Memory = Unit {0}
