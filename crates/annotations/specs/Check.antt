-- The findings of a class, which of them comes first, and its sites.
use Rattle.std.specs.Prelude.{◌≡◌, ℕ, Bool, false, nat_eq, nat_lt, List, [], map, slice_get, unwrap_or, fold, All, Contains, Option, Some, None, if◌then◌else◌}
use Rattle.java_tree.specs.declared.token.Place.{Place}
use Rattle.java_tree.specs.declared.tree.Class.{Class}
use Rattle.java_tree.specs.declared.types.Declaration.{Declaration}
use Rattle.java_tree.specs.declared.types.Typed.{Typed}
use Rattle.annotations.specs.declared.checking.Refused.{Refused}
use Rattle.annotations.specs.declared.error.AnnotError.{AnnotError}
use Rattle.annotations.specs.declared.error.AnnotError.TheVariants as errors
use Rattle.annotations.specs.declared.site.Site.{Site}
use Rattle.annotations.specs.declared.walk.Finding.{Finding}
use Rattle.annotations.specs.declared.walk.Walk.{Walk}
use Rattle.annotations.specs.Environment.{env_of}
use Rattle.annotations.specs.Members.{members_walk}

-- where a token stands; one without a place stands before all others
abbrev pub place_at : List Place → ℕ → Place
place_at places token = unwrap_or (slice_get places token) (record { line = 0; column = 0 })

abbrev pub refused_at : List Place → Finding → Refused
refused_at places f = record { place = place_at places f.token; rule = f.rule }

-- one comes before the other: by line, then by column, then by rule
abbrev pub is_before : Refused → Refused → Bool
is_before a b =
    if nat_eq a.place.line b.place.line
    then (if nat_eq a.place.column b.place.column then nat_lt a.rule b.rule else nat_lt a.place.column b.place.column)
    else nat_lt a.place.line b.place.line

abbrev pub earlier : Option Refused → Refused → Option Refused
earlier None other = Some other
earlier (Some first) other = if is_before other first then Some other else Some first

-- the first of them; of those that tie, the one that is listed first
abbrev pub first_of : List Refused → Option Refused
first_of = fold earlier None

-- one of them, before which none of them comes
pub record IsLeast (all : List Refused) (f : Refused) : Type 0 where
  pub is_one : Contains all f
  pub is_first : All (λ g. is_before g f ≡ false) all

-- what is known before the first token
abbrev pub start : Walk
start = record { at = 0; used = 0; in_entry = false; in_header = false; collections = []; locals = []; awaited = None; partial = None; sites = []; findings = [] }

-- what is known behind the last member, where the names of the class stand for these declarations
unfoldable pub whole : Class → List Declaration → Walk
whole c names = members_walk (env_of c names) c start

abbrev pub broken : Class → List Declaration → List Refused
broken c names = map (refused_at c.places) (whole c names).findings

-- each rule that the class breaks, at the place where it does
abbrev pub findings_of : Typed → List Refused
findings_of t = broken t.class t.types.names

-- of each access to state, in text order
abbrev pub sites_of : Typed → List Site
sites_of t = (whole t.class t.types.names).sites

abbrev pub place_if : List Place → Option ℕ → Option Place
place_if places None = None
place_if places (Some token) = Some (place_at places token)

-- where the first partial field begins, if there is one
abbrev pub first_partial : Typed → Option Place
first_partial t = place_if t.class.places (whole t.class t.types.names).partial

-- what a refusal says: the least of what is broken, if it is not want of memory
abbrev pub Refuses : List Refused → AnnotError → Type 0
Refuses all (errors.Rule rule place) = IsLeast all (record { place = place; rule = rule })
Refuses all errors.Memory = Unit {0}
