-- What the walk of the rules on annotations adds one by one, beside what is read.
use Rattle.std.proofs.Common.{◌≡◌, ℕ, zero, suc, ◌+◌, min, Bool, true, false, List, [], ◌∷◌, ◌++◌, length, drop, slice_get, Option, Some, None, if◌then◌else◌, refl, sym, ap, ◌∙◌, arith}
use Rattle.annotations.specs.declared.position.Position.{Position}
use Rattle.annotations.specs.declared.position.Position.TheVariants.{Inside, Merged, Whole, Statement, Gathered}
use Rattle.annotations.specs.declared.site.Reach.{Reach}
use Rattle.annotations.specs.declared.walk.Awaited.{Awaited}
use Rattle.annotations.specs.declared.walk.Env.{Env}
use Rattle.annotations.specs.declared.walk.Walk.{Walk}
use Rattle.annotations.specs.Walks.{past, past_if, past_none, noted, noted_at, coming, taken, named, partial_at, unfit, unexpected, unmerged, unmerged_from, sited}
use Rattle.access_blocks.specs.Cursors.{Cursor, name_here, behind_name}
use Rattle.resolved_bodies.specs.Together.{AreTogether, Goes}

-- ---- names

none_left : {A : Type 0} (n : ℕ) → drop {A = A} n [] ≡ []
none_left zero = refl
none_left (suc n) = refl

drop_next : {A : Type 0} (xs : List A) (n : ℕ) → drop (min (n + 1) (length xs)) xs ≡ drop 1 (drop n xs)
drop_next {A = A} [] n = none_left (min (n + 1) (length {A = A} [])) ∙ sym (ap (λ (xs : List A). drop 1 xs) (none_left n))
drop_next (x ∷ xs) zero = ap (λ k. drop k (x ∷ xs)) (let e : min (zero + 1) (length (x ∷ xs)) ≡ 1 = omega arith in e)
drop_next (x ∷ xs) (suc n) =
    ap (λ k. drop k (x ∷ xs)) (let e : min (suc n + 1) (length (x ∷ xs)) ≡ suc (min (n + 1) (length xs)) = omega arith in e) ∙ drop_next xs n

get_drop : {A : Type 0} (xs : List A) (n : ℕ) → slice_get xs n ≡ slice_get (drop n xs) 0
get_drop [] zero = refl
get_drop [] (suc n) = refl
get_drop (x ∷ xs) zero = refl
get_drop (x ∷ xs) (suc n) = get_drop xs n

some_left : {A : Type 0} (xs : List A) (x : A) → xs ++ x ∷ [] ≡ [] → ⊥
some_left [] x e = cc
some_left (y ∷ xs) x e = cc

module _ (env : Env) where
  -- the name that comes next is the same for both
  pub same_coming : (w : Walk) (c : Cursor) → AreTogether env w c → coming env w ≡ name_here c
  same_coming w c t = get_drop env.names w.used ∙ ap (λ ns. slice_get ns 0) t

  -- ---- one step

  pub here : (w : Walk) (c : Cursor) → Goes env w w c c
  here w c = record { grows = λ q. q; stays = refl; together = λ t. t }

  -- one after the other
  pub further : {w v u : Walk} {c k l : Cursor} → Goes env w v c k → Goes env v u k l → Goes env w u c l
  further a b = record { grows = λ q. a.grows (b.grows q); stays = b.stays ∙ a.stays; together = λ t. b.together (a.together t) }

  pub going_past : (n : ℕ) (w : Walk) (c : Cursor) → Goes env w (past env n w) c c
  unfolding past
  going_past n w c = record { grows = λ q. q; stays = refl; together = λ t. t }

  pub going_past_if : (test : Bool) (n : ℕ) (w : Walk) (c : Cursor) → Goes env w (past_if env test n w) c c
  going_past_if true n w c = going_past n w c
  going_past_if false n w c = here w c

  pub going_noted : (broken : Bool) (token rule : ℕ) (w : Walk) (c : Cursor) → Goes env w (noted broken token rule w) c c
  unfolding noted
  going_noted true token rule w c = record { grows = λ q. absurd (some_left w.findings _ q); stays = refl; together = λ t. t }
  going_noted false token rule w c = here w c

  pub never_quiet : (token rule : ℕ) (w : Walk) → (noted true token rule w).findings ≡ [] → ⊥
  unfolding noted
  never_quiet token rule w q = some_left w.findings _ q

  pub going_noted_at : (global : Option ℕ) (rule : ℕ) (w : Walk) (c : Cursor) → Goes env w (noted_at global rule w) c c
  going_noted_at None rule w c = here w c
  going_noted_at (Some at) rule w c = going_noted true at rule w c

  pub going_taken : (w : Walk) (c : Cursor) → Goes env w (taken env w) c (behind_name c)
  unfolding taken past
  going_taken w c = record { grows = λ q. q; stays = refl; together = λ t. drop_next env.names w.used ∙ ap (λ ns. drop 1 ns) t }

  pub going_named : (w : Walk) (c : Cursor) → Goes env w (named env w) c (behind_name c)
  unfolding named
  going_named w c = further (going_noted_at (partial_at w (coming env w)) 9 w c) (going_taken _ c)

  pub going_unfit : (position : Position) (w : Walk) (c : Cursor) → Goes env w (unfit position w) c c
  going_unfit Inside w c = here w c
  going_unfit (Merged at merging) w c = going_noted true at 12 w c
  going_unfit Whole w c = here w c
  going_unfit Statement w c = here w c
  going_unfit Gathered w c = here w c

  pub going_unexpected : (position : Position) (global : Option ℕ) (w : Walk) (c : Cursor) → Goes env w (unexpected position global w) c c
  going_unexpected position global w c = further (going_unfit position w c) (going_noted_at global 10 _ c)

  pub going_sited : (field : ℕ) (reach : Reach) (w : Walk) (c : Cursor) → Goes env w (sited field reach w) c c
  unfolding sited
  going_sited field reach w c = record { grows = λ q. q; stays = refl; together = λ t. t }

  unmerged_by : (o : Option Awaited) (w : Walk) (c : Cursor) → Goes env w (unmerged_from o w) c c
  unmerged_by None w c = here w c
  unmerged_by (Some a) w c = let n = going_noted true a.token 9 w c in record { grows = n.grows; stays = n.stays; together = n.together }

  pub going_unmerged : (w : Walk) (c : Cursor) → Goes env w (unmerged w) c c
  unfolding unmerged
  going_unmerged w c = unmerged_by w.awaited w c
