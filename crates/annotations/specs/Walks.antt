-- What is known while a class is read from its first token to its last, and what each step adds.
use Rattle.std.specs.Prelude.{ℕ, ◌+◌, min, Bool, true, false, nat_eq, List, [], ◌∷◌, ◌++◌, length, slice_get, Option, Some, None, unwrap_or, if◌then◌else◌}
use Rattle.java_tree.specs.declared.types.Declaration.{Declaration}
use Rattle.java_tree.specs.declared.types.Declaration.TheVariants as declaration
use Rattle.java_tree.specs.declared.method_kinds.MethodKind.{MethodKind}
use Rattle.java_tree.specs.declared.method_kinds.MethodKind.TheVariants.{Merge}
use Rattle.annotations.specs.declared.site.FieldKind.{FieldKind}
use Rattle.annotations.specs.declared.site.FieldKind.TheVariants.{Partial}
use Rattle.annotations.specs.declared.site.Reach.{Reach}
use Rattle.annotations.specs.declared.position.Position.{Position}
use Rattle.annotations.specs.declared.position.Position.TheVariants.{Merged}
use Rattle.annotations.specs.declared.walk.Awaited.{Awaited}
use Rattle.annotations.specs.declared.walk.Finding.{Finding}
use Rattle.annotations.specs.declared.walk.Env.{Env}
use Rattle.annotations.specs.declared.walk.Walk.{Walk}

-- ---- tokens

-- behind the next tokens, as far as there are places
unfoldable pub past : Env → ℕ → Walk → Walk
past env tokens w = record w { at = min (w.at + tokens) env.limit }

abbrev pub past_if : Env → Bool → ℕ → Walk → Walk
past_if env test tokens w = if test then past env tokens w else w

-- Where there is nothing in parentheses, the opening one is still to be passed.
abbrev pub past_none : {A : Type 0} → Env → List A → Walk → Walk
past_none env xs w = past_if env (nat_eq (length xs) 0) 1 w

abbrev pub token_if : Bool → ℕ → Option ℕ
token_if test token = if test then Some token else None

-- ---- findings

abbrev pub finding : ℕ → ℕ → Finding
finding token rule = record { token = token; rule = rule }

-- Where a rule is broken, that is a finding.
unfoldable pub noted : Bool → ℕ → ℕ → Walk → Walk
noted broken token rule w = if broken then record w { findings = w.findings ++ finding token rule ∷ [] } else w

-- There may be a token where it is broken.
abbrev pub noted_at : Option ℕ → ℕ → Walk → Walk
noted_at None rule w = w
noted_at (Some token) rule w = noted true token rule w

-- ---- names

-- what the next name stands for
abbrev pub coming : Env → Walk → Option Declaration
coming env w = slice_get env.names w.used

-- behind a name
unfoldable pub taken : Env → Walk → Walk
taken env w = past env 1 (record w { used = min (w.used + 1) (length env.names) })

-- where the local is declared that a name stands for, if it is a `@Partial` one
abbrev pub partial_at : Walk → Option Declaration → Option ℕ
partial_at w (Some (declaration.Local n)) = unwrap_or (slice_get w.locals n) None
partial_at w _ = None

abbrev pub is_collection : Walk → Option Declaration → Bool
is_collection w (Some (declaration.Parameter n)) = unwrap_or (slice_get w.collections n) false
is_collection w _ = false

-- Rule 9: a `@Partial` local is used otherwise than by the call that merges it.
unfoldable pub named : Env → Walk → Walk
named env w = taken env (noted_at (partial_at w (coming env w)) 9 w)

abbrev pub unmerged_from : Option Awaited → Walk → Walk
unmerged_from None w = w
unmerged_from (Some a) w = record (noted true a.token 9 w) { awaited = None }

-- Rule 9: at the end of a statement the `@Partial` local is not merged that the statement before declares.
unfoldable pub unmerged : Walk → Walk
unmerged w = unmerged_from w.awaited w

-- ---- positions

-- Rule 12: a merge method takes a name behind `@Global` alone.
abbrev pub unfit : Position → Walk → Walk
unfit (Merged call merging) w = noted true call 12 w
unfit _ w = w

-- Rule 10: `@Global` stands before nothing but names and accesses.
abbrev pub unexpected : Position → Option ℕ → Walk → Walk
unexpected position global w = noted_at global 10 (unfit position w)

-- ---- fields and methods

-- A field past the last has a kind that nothing rests on.
abbrev pub kind_at : Env → ℕ → FieldKind
kind_at env field = unwrap_or (slice_get env.kinds field) Partial

abbrev pub is_merge : Option MethodKind → Bool
is_merge (Some Merge) = true
is_merge _ = false

abbrev pub is_merge_method : Env → Option Declaration → Bool
is_merge_method env (Some (declaration.Method n)) = is_merge (slice_get env.methods n)
is_merge_method env _ = false

-- one more access
unfoldable pub sited : ℕ → Reach → Walk → Walk
sited field reach w = record w { sites = w.sites ++ record { field = field; reach = reach } ∷ [] }
