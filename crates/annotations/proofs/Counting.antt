-- How many tokens each step of the walk passes.
use Rattle.std.proofs.Common.{◌≡◌, ℕ, suc, ◌+◌, ◌≤◌, min, Bool, true, false, nat_eq, List, [], ◌∷◌, length, map, fold, Option, None, Some, if◌then◌else◌, flat_map, refl, ◌∙◌, arith}
use Rattle.std.proofs.lemmas.List.{length-append}
use Rattle.std.proofs.lemmas.Bool.Decides.{nat_tests}
use Rattle.java_tree.specs.declared.token.Kind.TheVariants as k
use Rattle.java_tree.specs.declared.token.Symbol.TheVariants as symbol
use Rattle.java_tree.specs.Tokens.{Kinds, separated}
use Rattle.annotations.specs.declared.walk.Env.{Env}
use Rattle.annotations.specs.declared.site.Reach.{Reach}
use Rattle.annotations.specs.declared.position.Position.{Position}
use Rattle.annotations.specs.declared.position.Position.TheVariants.{Inside, Merged, Whole, Statement, Gathered}
use Rattle.annotations.specs.declared.walk.Awaited.{Awaited}
use Rattle.annotations.specs.declared.walk.Walk.{Walk}
use Rattle.annotations.specs.Walks.{past, past_if, past_none, noted, noted_at, taken, named, unmerged, unmerged_from, unfit, unexpected, sited}

-- no token is passed
pub record Stays (w v : Walk) : Type 0 where
  pub at : v.at ≡ w.at

-- as many tokens are passed, as far as there are places
pub record Passed (env : Env) (n : ℕ) (w v : Walk) : Type 0 where
  pub at : v.at ≡ min (w.at + n) env.limit

-- ---- one step after another

pub none : {env : Env} (w : Walk) → w.at ≤ env.limit → Passed env 0 w w
none w h = record { at = omega arith }

pub within : {env : Env} {n : ℕ} {w v : Walk} → Passed env n w v → v.at ≤ env.limit
within p = omega (arith, p.at)

pub over : {env : Env} {n : ℕ} {w v : Walk} (m : ℕ) → Passed env n w v → Passed env (n + m) w (past env m v)
unfolding past
over m p = record { at = omega (arith, p.at) }

pub over_if : {env : Env} {n : ℕ} {w v : Walk} (test : Bool) (m : ℕ) → Passed env n w v → Passed env (n + (if test then m else 0)) w (past_if env test m v)
over_if true m p = over m p
over_if false m p = record { at = omega (arith, p.at) }

pub further : {env : Env} {n m : ℕ} {w v u : Walk} → Passed env n w v → Passed env m v u → Passed env (n + m) w u
further p q = record { at = omega (arith, p.at, q.at) }

pub stays : {env : Env} {n : ℕ} {w v u : Walk} → Passed env n w v → Stays v u → Passed env n w u
stays p s = record { at = s.at ∙ p.at }

-- by another spelling of the number
pub counted : {env : Env} {n m : ℕ} {w v : Walk} → Passed env n w v → n ≡ m → Passed env m w v
counted p e = record { at = omega (arith, p.at, e) }

pub from_none : {env : Env} {n : ℕ} {w v : Walk} → Passed env (0 + n) w v → Passed env n w v
from_none p = counted p (omega arith)

pub after : {w v u : Walk} → Stays w v → Stays v u → Stays w u
after s t = record { at = t.at ∙ s.at }

pub here : (w : Walk) → Stays w w
here w = record { at = refl }

-- ---- steps that pass no token

pub noted_stays : (broken : Bool) (token rule : ℕ) (w : Walk) → Stays w (noted broken token rule w)
unfolding noted
noted_stays true token rule w = record { at = refl }
noted_stays false token rule w = record { at = refl }

pub noted_at_stays : (token : Option ℕ) (rule : ℕ) (w : Walk) → Stays w (noted_at token rule w)
noted_at_stays None rule w = here w
noted_at_stays (Some token) rule w = noted_stays true token rule w

unmerged_from_stays : (a : Option Awaited) (w : Walk) → Stays w (unmerged_from a w)
unmerged_from_stays None w = here w
unmerged_from_stays (Some a) w = let s = noted_stays true a.token 9 w in record { at = s.at }

pub unmerged_stays : (w : Walk) → Stays w (unmerged w)
unfolding unmerged
unmerged_stays w = unmerged_from_stays w.awaited w

pub unfit_stays : (position : Position) (w : Walk) → Stays w (unfit position w)
unfit_stays Inside w = here w
unfit_stays (Merged call merging) w = noted_stays true call 12 w
unfit_stays Whole w = here w
unfit_stays Statement w = here w
unfit_stays Gathered w = here w

pub unexpected_stays : (position : Position) (global : Option ℕ) (w : Walk) → Stays w (unexpected position global w)
unexpected_stays position global w = after (unfit_stays position w) (noted_at_stays global 10 _)

pub sited_stays : (field : ℕ) (reach : Reach) (w : Walk) → Stays w (sited field reach w)
unfolding sited
sited_stays field reach w = record { at = refl }

-- ---- a name

pub taken_passes : {env : Env} {n : ℕ} {w v : Walk} → Passed env n w v → Passed env (n + 1) w (taken env v)
unfolding taken
taken_passes p = over 1 (stays p (record { at = refl }))

pub named_passes : {env : Env} {n : ℕ} {w v : Walk} → Passed env n w v → Passed env (n + 1) w (named env v)
unfolding named
named_passes {v = v} p = taken_passes (stays p (noted_at_stays _ 9 v))

-- ---- lists with one token before each

pub before : List Kinds → Kinds
before all = flat_map (λ y. k.Symbol symbol.Comma ∷ y) all

module _ {A S : Type 0} (env : Env) (walk_of : S → Walk) (step : S → A → S) (tokens : A → Kinds)
    (each : (s : S) (x : A) → (walk_of s).at ≤ env.limit → Passed env (suc (length (tokens x))) (walk_of s) (walk_of (step s x))) where
  pub all_pass : (xs : List A) (s : S) → (walk_of s).at ≤ env.limit → Passed env (length (before (map tokens xs))) (walk_of s) (walk_of (fold step s xs))
  unfolding before
  all_pass [] s h = none (walk_of s) h
  all_pass (x ∷ xs) s h =
      let p = each s x h in
      counted (further p (all_pass xs (step s x) (within p))) (simp length-append (omega arith))

not_over : {env : Env} {n : ℕ} {w v : Walk} (test : Bool) (m : ℕ) → test ≡ false → Passed env n w v → Passed env n w (past_if env test m v)
not_over true m e p = absurd (cc)
not_over false m e p = p

not_none : {A : Type 0} (x : A) (xs : List A) → nat_eq (length (x ∷ xs)) 0 ≡ false
not_none x xs = grind (arith, nat_tests)

-- with the one that stands first where there is none, which is the opening parenthesis
pub past_none_passes : {A : Type 0} {env : Env} {w v : Walk} (xs : List A) (all : List Kinds) → length xs ≡ length all
    → Passed env (length (before all)) w v → Passed env (suc (length (separated all))) w (past_none env xs v)
unfolding before
past_none_passes [] [] same p = counted (over 1 p) (omega arith)
past_none_passes [] (t ∷ all) same p = absurd (omega arith)
past_none_passes (x ∷ xs) [] same p = absurd (omega arith)
past_none_passes (x ∷ xs) (t ∷ all) same p = not_over _ 1 (not_none x xs) (counted p (simp length-append (omega arith)))

-- ---- lists with nothing between

module _ {A S : Type 0} (env : Env) (walk_of : S → Walk) (step : S → A → S) (tokens : A → Kinds)
    (each : (s : S) (x : A) → (walk_of s).at ≤ env.limit → Passed env (length (tokens x)) (walk_of s) (walk_of (step s x))) where
  pub flat_pass : (xs : List A) (s : S) → (walk_of s).at ≤ env.limit → Passed env (length (flat_map tokens xs)) (walk_of s) (walk_of (fold step s xs))
  flat_pass [] s h = none (walk_of s) h
  flat_pass (x ∷ xs) s h =
      let p = each s x h in
      counted (further p (flat_pass xs (step s x) (within p))) (simp length-append (omega arith))
