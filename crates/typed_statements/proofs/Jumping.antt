-- `break` and `continue` are typed, and so is the empty statement.
use Rattle.std.proofs.Common.{◌≡◌, ℕ, Bool, true, false, ◌&&◌, ◌||◌, nat_eq, List, [], ◌∷◌, Some, None, refl, ap, ◌∙◌, arith}
use Rattle.std.proofs.lemmas.Bool.Decides.{nat_tests}
use Rattle.std.specs.List.{list_all}
use Rattle.body_code.specs.Checking.{Standing, Around as Exits, outside, covers, are_known, is_none, if_so, jumping}
use Rattle.body_code.specs.Early.{is_in}
use Rattle.marked_bodies.proofs.Facts.{or_second}
use Rattle.typed_statements.specs.Points.{Setting, Point, place_at, Waits}
use Rattle.typed_statements.specs.Checks.{Leads}

nat_same : (n : ℕ) → nat_eq n n ≡ true
nat_same n = grind (arith, nat_tests)

or_first : (b c : Bool) → b ≡ true → (b || c) ≡ true
or_first true c e = refl
or_first false c e = absurd (cc)

pub and_both : (b c : Bool) → b ≡ true → c ≡ true → (b && c) ≡ true
and_both true c e d = d
and_both false c e d = absurd (cc)

all_known : (need st : List ℕ) → ((v : ℕ) → is_in v need ≡ true → is_in v st ≡ true) → list_all (λ v. is_in v st) need ≡ true
all_known [] st h = refl
all_known (x ∷ need) st h =
    and_both (is_in x st) (list_all (λ v. is_in v st) need) (h x (or_first (nat_eq x x) (is_in x need) (nat_same x)))
    (all_known need st (λ v e. h v (or_second (nat_eq v x) (is_in v need) e)))

pub covered : (st need : Standing) → need.field ≡ None → need.gathered ≡ None → ((v : ℕ) → is_in v need.known ≡ true → is_in v st.known ≡ true) → covers st need ≡ true
covered st need no_field no_gathered h =
    and_both (are_known st need.known) _ (all_known need.known st.known h)
    (and_both _ _ (or_first (is_none need.field) _ (ap is_none no_field)) (or_first (is_none need.gathered) _ (ap is_none no_gathered)))

-- what is known outside of blocks is enough for where the jump goes
pub jumps : (exits : Exits) (st : Standing) → Leads exits st → jumping exits (outside st) ≡ Some (outside st)
jumps exits st l =
    let c : covers (outside st) l.need ≡ true = covered (outside st) l.need l.no_field l.no_gathered l.known in
    ap (λ (e : Exits). jumping e (outside st)) l.is ∙ ap (λ b. if_so b (outside st)) c

-- Nothing waits at such a point, so that a standing stays ready outside of blocks.
pub none_waits : (k : Setting) (at : Point) (st : Standing) → at.marks.awaited ≡ None → Waits (place_at k at) at.marks.awaited st
none_waits k at st none local token is = absurd (cc)
