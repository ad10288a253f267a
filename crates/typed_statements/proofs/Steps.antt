-- Steps of the walks between statements: they pass tokens, note what is not broken, and leave scopes.
use Rattle.std.proofs.Common.{◌≡◌, ℕ, Bool, true, false, List, [], ◌∷◌, ◌++◌, length, take, Option, Some, None, refl, sym, subst}
use Rattle.std.proofs.Math.Seq.{take-append_seam}
use Rattle.java_types.specs.declared.walk.Env.{Env}
use Rattle.java_types.specs.declared.walk.Walk.{Walk}
use Rattle.java_types.specs.Walks.{past, noted, left}
use Rattle.annotations.specs.declared.walk.Awaited.{Awaited}
use Rattle.annotations.specs.declared.walk.Env.{Env as MarkingEnv}
use Rattle.annotations.specs.declared.walk.Walk.{Walk as MarkingWalk}
use Rattle.annotations.specs.Walks as marking
use Rattle.typed_statements.specs.Goes.{Grows}
use Rattle.typed_statements.proofs.Going.{Still, Unmoved, still, unmoved}

pub some_left : {A : Type 0} (xs : List A) (y : A) → xs ++ y ∷ [] ≡ [] → ⊥
some_left [] y e = absurd (cc)
some_left (x ∷ xs) y e = absurd (cc)

-- ---- the walk of the rules on types

pub past_still : (env : Env) (n : ℕ) (w : Walk) → Still w (past env n w)
unfolding past
past_still env n w = record { back = λ q. q; types = refl; names = refl; variables = refl; locals = refl }

pub noted_still : (broken : Bool) (token rule : ℕ) (w : Walk) → Still w (noted broken token rule w)
unfolding noted
noted_still true token rule w = record { back = λ q. absurd (some_left w.findings _ q); types = refl; names = refl; variables = refl; locals = refl }
noted_still false token rule w = still w

-- what is not noted is not broken
pub not_noted : (broken : Bool) (token rule : ℕ) (w : Walk) → (noted broken token rule w).findings ≡ [] → broken ≡ false
unfolding noted
not_noted true token rule w q = absurd (some_left w.findings _ q)
not_noted false token rule w q = refl

cut : {A : Type 0} (xs ys : List A) → Grows xs ys → take (length xs) ys ≡ xs
cut {A = A} xs ys g = subst (λ (zs : List A). take (length xs) zs ≡ xs) (sym g.is) (take-append_seam xs g.more)

-- What is declared since is out of scope again.
pub record Leaves (w v y : Walk) : Type 0 where
  pub findings : y.findings ≡ v.findings
  pub types : y.types ≡ v.types
  pub names : y.names ≡ v.names
  pub locals : y.locals ≡ v.locals
  pub variables : y.variables ≡ w.variables

pub left_leaves : (w v : Walk) → Grows w.variables v.variables → Leaves w v (left (length w.variables) v)
unfolding left
left_leaves w v g = record {
  findings = refl;
  types = refl;
  names = refl;
  locals = refl;
  variables = cut w.variables v.variables g;
}

pub left_quiet : (n : ℕ) (v : Walk) → (left n v).findings ≡ v.findings
unfolding left
left_quiet n v = refl

-- ---- the walk of the rules on annotations

pub past_unmoved : (env : MarkingEnv) (n : ℕ) (u : MarkingWalk) → Unmoved u (marking.past env n u)
unfolding marking.past
past_unmoved env n u = record { back = λ q. q; used = refl; in_entry = refl; locals = refl; awaited = λ q. refl; sites = refl }

pub past_if_unmoved : (env : MarkingEnv) (test : Bool) (n : ℕ) (u : MarkingWalk) → Unmoved u (marking.past_if env test n u)
past_if_unmoved env true n u = past_unmoved env n u
past_if_unmoved env false n u = unmoved u

pub noted_findings : (token rule : ℕ) (u : MarkingWalk) → (marking.noted true token rule u).findings ≡ [] → ⊥
unfolding marking.noted
noted_findings token rule u q = some_left u.findings _ q

noted_unmoved : (token rule : ℕ) (u : MarkingWalk) → Unmoved u (marking.noted true token rule u)
unfolding marking.noted
noted_unmoved token rule u = record { back = λ q. absurd (some_left u.findings _ q); used = refl; in_entry = refl; locals = refl; awaited = λ q. refl; sites = refl }

-- Behind what merges nothing, nothing waits.
pub record Unmerged (u x : MarkingWalk) : Type 0 where
  pub moved : Unmoved u x
  pub none : x.findings ≡ [] → x.awaited ≡ None

from_unmerged : (a : Option Awaited) (u : MarkingWalk) → u.awaited ≡ a → Unmerged u (marking.unmerged_from a u)
from_unmerged None u is = record { moved = unmoved u; none = λ q. is }
from_unmerged (Some a) u is =
    let n = noted_unmoved a.token 9 u in
    let not = noted_findings a.token 9 u in
    record {
      moved = record { back = n.back; used = n.used; in_entry = n.in_entry; locals = n.locals; awaited = λ q. absurd (not q); sites = n.sites };
      none = λ q. refl;
    }

pub unmerged_merges_none : (u : MarkingWalk) → Unmerged u (marking.unmerged u)
unfolding marking.unmerged
unmerged_merges_none u = from_unmerged u.awaited u refl
