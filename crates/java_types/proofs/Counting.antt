-- How many tokens each step of the walk passes.
use Rattle.std.proofs.Common.{◌≡◌, ℕ, suc, ◌+◌, ◌≤◌, min, Bool, true, false, nat_eq, nat_lt, nat_le, ◌||◌, List, [], ◌∷◌, length, map, fold, Option, None, Some, if◌then◌else◌, flat_map, refl, ◌∙◌, arith}
use Rattle.std.proofs.lemmas.List.{length-append}
use Rattle.std.proofs.lemmas.Bool.Decides.{nat_tests}
use Rattle.java_tree.specs.declared.token.Kind.TheVariants as k
use Rattle.java_tree.specs.declared.token.Symbol.TheVariants as symbol
use Rattle.java_tree.specs.declared.types.ExprType.{ExprType}
use Rattle.java_tree.specs.Tokens.{Kinds, separated}
use Rattle.java_types.specs.declared.walk.Env.{Env}
use Rattle.java_types.specs.declared.walk.Variable.{Variable}
use Rattle.java_types.specs.declared.walk.Walk.{Walk}
use Rattle.java_types.specs.Walks.{Typing, Tested, past, past_if, noted, opened, closed, left, used_as, named, used, called, most_methods, variable}
use Rattle.java_types.specs.Expressions.{typed, past_none}

-- no token is passed
pub record Stays (w v : Walk) : Type 0 where
  pub at : v.at ≡ w.at

-- as many tokens are passed, as far as there are places
pub record Passed (env : Env) (n : ℕ) (w v : Walk) : Type 0 where
  pub at : v.at ≡ min (w.at + n) env.limit

-- ---- one step after another

pub none : {env : Env} (w : Walk) → w.at ≤ env.limit → Passed env 0 w w
none w h = record { at = omega arith }

pub within : {env : Env} {n : ℕ} {w v : Walk} → Passed env n w v → v.at ≤ env.limit
within p = omega (arith, p.at)

pub over : {env : Env} {n : ℕ} {w v : Walk} (m : ℕ) → Passed env n w v → Passed env (n + m) w (past env m v)
unfolding past
over m p = record { at = omega (arith, p.at) }

pub over_if : {env : Env} {n : ℕ} {w v : Walk} (test : Bool) (m : ℕ) → Passed env n w v → Passed env (n + (if test then m else 0)) w (past_if env test m v)
over_if true m p = over m p
over_if false m p = record { at = omega (arith, p.at) }

pub further : {env : Env} {n m : ℕ} {w v u : Walk} → Passed env n w v → Passed env m v u → Passed env (n + m) w u
further p q = record { at = omega (arith, p.at, q.at) }

pub stays : {env : Env} {n : ℕ} {w v u : Walk} → Passed env n w v → Stays v u → Passed env n w u
stays p s = record { at = s.at ∙ p.at }

-- by another spelling of the number
pub counted : {env : Env} {n m : ℕ} {w v : Walk} → Passed env n w v → n ≡ m → Passed env m w v
counted p e = record { at = omega (arith, p.at, e) }

pub from_none : {env : Env} {n : ℕ} {w v : Walk} → Passed env (0 + n) w v → Passed env n w v
from_none p = counted p (omega arith)

pub after : {w v u : Walk} → Stays w v → Stays v u → Stays w u
after s t = record { at = t.at ∙ s.at }

pub here : (w : Walk) → Stays w w
here w = record { at = refl }

pub either : {w : Walk} (test : Bool) (x y : Tested) → Stays w x.walk → Stays w y.walk → Stays w (if test then x else y).walk
either true x y s t = s
either false x y s t = t

-- ---- steps that pass no token

pub noted_stays : (broken : Bool) (token rule : ℕ) (w : Walk) → Stays w (noted broken token rule w)
unfolding noted
noted_stays true token rule w = record { at = refl }
noted_stays false token rule w = record { at = refl }

pub opened_stays : (w : Walk) → Stays w (opened w)
unfolding opened
opened_stays w = record { at = refl }

pub opened_within : {env : Env} {n : ℕ} {w v : Walk} → Passed env n w v → (opened v).at ≤ env.limit
opened_within {v = v} p = within (stays p (opened_stays v))

closed_by : (b : Bool) (w v : Walk) → Stays w v → Stays w (if b then v else w)
closed_by true w v s = s
closed_by false w v s = here w

pub closed_stays : (slot : ℕ) (t : ExprType) (w : Walk) → Stays w (closed slot t w)
unfolding closed
closed_stays slot t w = closed_by (nat_lt slot (length w.types)) w _ (record { at = refl })

pub left_stays : (outer : ℕ) (w : Walk) → Stays w (left outer w)
unfolding left
left_stays outer w = record { at = refl }

used_as_stays : (at : ℕ) (w : Walk) (v : Option Variable) → Stays w (used_as at w v).walk
used_as_stays at w None = noted_stays true at 3 w
used_as_stays at w (Some v) = record { at = refl }

pub used_stays : (at : ℕ) (t : Typing) → Stays t.walk (used at t).walk
unfolding used
used_stays at t = noted_stays _ at 7 t.walk

pub called_stays : (callee : ℕ) (w : Walk) → Stays w (called callee w).walk
unfolding called
called_stays callee w = either (nat_le most_methods w.caller || nat_le most_methods callee) _ _ (here w) (record { at = refl })

-- ---- a name, and an expression with a type of its own

pub named_passes : {env : Env} {n : ℕ} {w v : Walk} (name : List ℕ) → Passed env n w v → Passed env (n + 1) w (named env name v).walk
unfolding named
named_passes {env = env} {v = v} name p = stays (over 1 p) (used_as_stays v.at (past env 1 v) (variable env v name))

pub typed_passes : {env : Env} {n : ℕ} {v : Walk} (t : Typing) → Passed env n (opened v) t.walk → Passed env n v (typed v t).walk
typed_passes {v = v} t p = let s = opened_stays v in let c = closed_stays (length v.types) t.found t.walk in record { at = c.at ∙ (omega (arith, p.at, s.at)) }

-- ---- lists with one token before each

pub before : List Kinds → Kinds
before all = flat_map (λ y. k.Symbol symbol.Comma ∷ y) all

module _ {A S : Type 0} (env : Env) (walk_of : S → Walk) (step : S → A → S) (tokens : A → Kinds)
    (each : (s : S) (x : A) → (walk_of s).at ≤ env.limit → Passed env (suc (length (tokens x))) (walk_of s) (walk_of (step s x))) where
  pub all_pass : (xs : List A) (s : S) → (walk_of s).at ≤ env.limit → Passed env (length (before (map tokens xs))) (walk_of s) (walk_of (fold step s xs))
  unfolding before
  all_pass [] s h = none (walk_of s) h
  all_pass (x ∷ xs) s h =
      let p = each s x h in
      counted (further p (all_pass xs (step s x) (within p))) (simp length-append (omega arith))

not_over : {env : Env} {n : ℕ} {w v : Walk} (test : Bool) (m : ℕ) → test ≡ false → Passed env n w v → Passed env n w (past_if env test m v)
not_over true m e p = absurd (cc)
not_over false m e p = p

not_none : {A : Type 0} (x : A) (xs : List A) → nat_eq (length (x ∷ xs)) 0 ≡ false
not_none x xs = grind (arith, nat_tests)

-- with the one that stands first where there is none, which is the opening parenthesis
pub past_none_passes : {A : Type 0} {env : Env} {w v : Walk} (xs : List A) (all : List Kinds) → length xs ≡ length all
    → Passed env (length (before all)) w v → Passed env (suc (length (separated all))) w (past_none env xs v)
unfolding before
past_none_passes [] [] same p = counted (over 1 p) (omega arith)
past_none_passes [] (t ∷ all) same p = absurd (omega arith)
past_none_passes (x ∷ xs) [] same p = absurd (omega arith)
past_none_passes (x ∷ xs) (t ∷ all) same p = not_over _ 1 (not_none x xs) (counted p (simp length-append (omega arith)))

-- ---- lists with nothing between

module _ {A S : Type 0} (env : Env) (walk_of : S → Walk) (step : S → A → S) (tokens : A → Kinds)
    (each : (s : S) (x : A) → (walk_of s).at ≤ env.limit → Passed env (length (tokens x)) (walk_of s) (walk_of (step s x))) where
  pub flat_pass : (xs : List A) (s : S) → (walk_of s).at ≤ env.limit → Passed env (length (flat_map tokens xs)) (walk_of s) (walk_of (fold step s xs))
  flat_pass [] s h = none (walk_of s) h
  flat_pass (x ∷ xs) s h =
      let p = each s x h in
      counted (further p (flat_pass xs (step s x) (within p))) (simp length-append (omega arith))
