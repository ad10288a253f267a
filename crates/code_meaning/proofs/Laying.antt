-- What is laid behind a statement, and where `break` and `continue` go.
use Rattle.std.proofs.Common.{◌≡◌, ◌≤◌, ◌+◌, ◌⊎◌, inl, inr, refl, sym, ap, subst, ◌∙◌, ℕ, suc, arith, Bool, true, false, not, ◌||◌, List, [], ◌∷◌, ◌++◌, length, map, Some, length-append}
use Rattle.std.proofs.lemmas.Bool.{false≢true}
use Rattle.flat_code.specs.declared.graph.Instr.{Instr}
use Rattle.access_blocks.specs.declared.body.Statement.{Statement}
use Rattle.access_blocks.specs.Source.{Frame, Then, Test, Again, left_loop}
use Rattle.access_blocks.specs.Source as source
use Rattle.body_code.specs.Completing.{Leaving, leaving_of, goes_on, breaking, body_completes}
use Rattle.body_code.specs.StatementCode.{Place, Exits, Piece, behind_piece, next_pass, piece_of, pieces_of}
use Rattle.body_code.specs.Checking.{Standing, Checking, checked, checked_list}
use Rattle.body_code.specs.Checking as checking
use Rattle.code_meaning.specs.Laid.{IsLaid}
use Rattle.code_meaning.specs.Running.{Below}
use Rattle.code_meaning.specs.Placed.{placing_of, are_placed}
use Rattle.code_meaning.specs.Frames.{Coded, scope_in, Level, Comes, ListStands, update_at, inner_exits, loop_piece, AreLaid}
use Rattle.code_meaning.proofs.Lists.{none_some, some_is, both_true, and_true}
use Rattle.code_meaning.proofs.Running.{laid_two}
use Rattle.code_meaning.proofs.PieceSizes.{piece_sized}
use Rattle.code_meaning.proofs.Growing.{next_is}

pub either_first : (a b : Bool) → a ≡ true → (a || b) ≡ true
either_first true b is = refl
either_first false b is = absurd (false≢true is)

pub either_second : (a b : Bool) → b ≡ true → (a || b) ≡ true
either_second true b is = refl
either_second false b is = is

or_nothing : (a : Bool) → (a || false) ≡ true → a ≡ true
or_nothing true is = refl
or_nothing false is = is

pub same_below : (a b : Standing) → a ≡ b → Below a b
same_below a b is = subst (Below a) is (record { known = λ v h. h; field = λ f h. h; gathered = λ t h. h })

laid_alone : (code : List Instr) (at : ℕ) (xs : List Instr) → IsLaid code at xs → IsLaid code at (xs ++ [])
laid_alone code at [] h = tt
laid_alone code at (x ∷ xs) h = (h.0, laid_alone code (suc at) xs h.1)

module _ (c : Coded) where
  -- ---- out of a loop, and to its next pass

  pub record BreakIsLaid (frames : List Frame) (need : Standing) (exits : Exits) (left : ℕ) : Type 0 where
    pub outer : Level
    pub next : Standing
    pub below : Below need next
    pub later : ℕ
    pub few : later ≤ left
    pub laid : AreLaid c (left_loop frames) outer true exits.break_to next later

  pub break_laid : (frames : List Frame) (level : Level) (may : Bool) (at : ℕ) (st : Standing) (left : ℕ) (need : Standing) → AreLaid c frames level may at st left → level.loop ≡ Some need → level.breaks ≡ true → BreakIsLaid frames need level.exits left
  break_laid [] level may at st left need h is broken = absurd (none_some need (sym h.no_loop ∙ is))
  break_laid (Then ss ∷ frames) level may at st left need h is broken =
      let k = break_laid frames level h.goes_on h.to h.next h.later need h.rest is broken in
      record { outer = k.outer; next = k.next; below = k.below; later = k.later; few = (let x = h.few in let y = k.few in omega arith); laid = k.laid }
  break_laid (Test test update body ∷ frames) level may at st left need h is broken = absurd (none_some need (sym h.no_loop ∙ is))
  break_laid (Again test update body ∷ frames) level may at st left need h is broken =
      let z = h.stands in
      let same : z.need ≡ need = some_is z.need need (sym z.loop ∙ is) in
      let may_end : (not (goes_on test) || (leaving_of body).breaks) ≡ true = either_second (not (goes_on test)) (leaving_of body).breaks (sym z.breaks ∙ broken) in
      record {
        outer = z.outer;
        next = z.next;
        below = subst (λ n. Below n z.next) same z.next_below;
        later = z.later;
        few = (let x = h.few in omega arith);
        laid =
            subst (λ a. AreLaid c frames z.outer true a z.next z.later) (sym (ap (λ (e : Exits). e.break_to) z.exits))
            (subst (λ b. AreLaid c frames z.outer b (z.place.at + (loop_piece c test update body).size) z.next z.later) may_end z.rest);
      }

  pub record ContinueIsLaid (frames : List Frame) (need : Standing) (level : Level) (left : ℕ) : Type 0 where
    pub later : ℕ
    pub few : later ≤ left
    pub laid : AreLaid c (source.next_pass frames) level true level.exits.continue_to need later

  continue_at : (update : List Statement) (again behind : ℕ) (ps : List Piece) → map (piece_of (scope_in c)) update ≡ ps → (behind ≡ next_pass again behind ps) ⊎ ((update ≡ []) × (again ≡ next_pass again behind ps))
  continue_at [] again behind [] is = inr (refl, refl)
  continue_at (x ∷ xs) again behind [] is = absurd (cc)
  continue_at update again behind (p ∷ ps) is = inl refl

  pub continue_laid : (frames : List Frame) (level : Level) (may : Bool) (at : ℕ) (st : Standing) (left : ℕ) (need : Standing) → AreLaid c frames level may at st left → level.loop ≡ Some need → ContinueIsLaid frames need level left
  continue_laid [] level may at st left need h is = absurd (none_some need (sym h.no_loop ∙ is))
  continue_laid (Then ss ∷ frames) level may at st left need h is =
      let k = continue_laid frames level h.goes_on h.to h.next h.later need h.rest is in
      record { later = k.later; few = (let x = h.few in let y = k.few in omega arith); laid = k.laid }
  continue_laid (Test test update body ∷ frames) level may at st left need h is = absurd (none_some need (sym h.no_loop ∙ is))
  continue_laid (Again test update body ∷ frames) level may at st left need h is =
      let z = h.stands in
      let same : z.need ≡ need = some_is z.need need (sym z.loop ∙ is) in
      let there : (inner_exits c test update body z.place.at).continue_to ≡ level.exits.continue_to = sym (ap (λ (e : Exits). e.continue_to) z.exits) in
      record {
        later = left;
        few = omega arith;
        laid = record {
          stands = z;
          is_at = λ e. subst (λ a. (update_at c test body z.place.at ≡ a) ⊎ ((update ≡ []) × (z.place.at ≡ a))) there (continue_at update z.place.at (update_at c test body z.place.at) (map (piece_of (scope_in c)) update) refl);
          below = λ e. same_below need z.need (sym same);
          few = h.few;
        };
      }

  -- ---- the first statement of a list, and what is laid behind it

  pub record Head (frames : List Frame) (piece : Piece) (check : Checking) (leave : Leaving) (placed : Bool) (level : Level) (at : ℕ) (st : Standing) (left : ℕ) : Type 0 where
    pub place : Place
    pub is_at : place.at ≡ at
    pub laid : IsLaid c.code place.at (piece.from place level.exits)
    pub mid : Standing
    pub checked : check level.loop st ≡ Some mid
    pub breaks : leave.breaks ≡ true → level.breaks ≡ true
    pub first : length c.around.context.variables ≤ place.variable
    pub room : place.variable + length piece.carried ≤ c.many
    pub is_placed : placed ≡ true
    pub later : ℕ
    pub few : piece.size + later ≤ left
    pub rest : AreLaid c frames level leave.completes (place.at + piece.size) mid later

  more_complete : (x : Statement) (ss : List Statement) (b : Bool) → (body_completes (x ∷ ss) ≡ true → b ≡ true) → (leaving_of x).completes ≡ true → body_completes ss ≡ true → b ≡ true
  more_complete x [] b f completes is = f completes
  more_complete x (y ∷ ys) b f completes is = f is

  moved_comes : (jump from to there : ℕ) → from ≡ there → Comes c jump from to → Comes c jump there to
  moved_comes jump from to there is h = subst (λ a. Comes c jump a to) is h

  -- The rest of a list stands behind its first statement.
  rest_stands : (x : Statement) (ss : List Statement) (level : Level) (at : ℕ) (st : Standing) (b : Bool) (jump to : ℕ) (next : Standing) (h : ListStands c (x ∷ ss) level at st b jump to next) (mid : Standing) → checked_list c.around ss level.loop mid ≡ Some h.end
      → (leaving_of x).completes ≡ true → ListStands c ss level (h.place.at + (piece_of (scope_in c) x).size) mid b jump to next
  rest_stands x ss level at st b jump to next h mid checks completes =
      let piece = piece_of (scope_in c) x in
      let more = pieces_of (scope_in c) ss in
      let e : h.place.at + (piece.size + more.size) ≡ h.place.at + piece.size + more.size = omega arith in
      let z = length-append piece.carried more.carried in
      let r = h.room in
      record {
        place = behind_piece h.place piece;
        is_at = refl;
        laid = (laid_two c.code h.place.at piece.size (piece.from h.place level.exits) (more.from (behind_piece h.place piece) level.exits) (piece_sized (scope_in c) x h.place level.exits) h.laid).1;
        end = h.end;
        checked = checks;
        below = h.below;
        placed = (both_true (placing_of x).placed (are_placed ss) h.placed).1;
        comes = moved_comes jump (h.place.at + (piece.size + more.size)) to (h.place.at + piece.size + more.size) e h.comes;
        completes = more_complete x ss b h.completes completes;
        breaks = λ is. h.breaks (either_second (leaving_of x).breaks (breaking (map leaving_of ss)) is);
        first = (let f = h.first in omega arith);
        room = omega arith;
      }

  pub head_of : (x : Statement) (ss : List Statement) (frames : List Frame) (level : Level) (at : ℕ) (st : Standing) (left : ℕ) → AreLaid c (Then (x ∷ ss) ∷ frames) level true at st left
      → Head (Then ss ∷ frames) (piece_of (scope_in c) x) (checked c.around x) (leaving_of x) (placing_of x).placed level at st left
  head_of x ss frames level at st left h =
      let k : ListStands c (x ∷ ss) level at st h.goes_on h.jump h.to h.next = h.here refl in
      let piece = piece_of (scope_in c) x in
      let more = pieces_of (scope_in c) ss in
      let n = next_is (checked_list c.around ss level.loop) (checked c.around x level.loop st) k.end k.checked in
      let z = length-append piece.carried more.carried in
      let r = k.room in
      record {
        place = k.place;
        is_at = k.is_at;
        laid = (laid_two c.code k.place.at piece.size (piece.from k.place level.exits) (more.from (behind_piece k.place piece) level.exits) (piece_sized (scope_in c) x k.place level.exits) k.laid).0;
        mid = n.0;
        checked = n.1;
        breaks = λ is. k.breaks (either_first (leaving_of x).breaks (breaking (map leaving_of ss)) is);
        first = k.first;
        room = omega arith;
        is_placed = (both_true (placing_of x).placed (are_placed ss) k.placed).0;
        later = more.size + h.jump + h.later;
        few = (let f = h.few in omega arith);
        rest = record {
          goes_on = h.goes_on;
          jump = h.jump;
          to = h.to;
          next = h.next;
          later = h.later;
          here = λ completes. rest_stands x ss level at st h.goes_on h.jump h.to h.next k n.0 n.2 completes;
          few = omega arith;
          rest = h.rest;
        };
      }

  -- One statement alone is laid, as a list.
  pub alone_laid : (x : Statement) (frames : List Frame) (level : Level) (q : Place) (st mid : Standing) (b : Bool) (jump to : ℕ) (next : Standing) (later left : ℕ) → IsLaid c.code q.at ((piece_of (scope_in c) x).from q level.exits)
      → checked c.around x level.loop st ≡ Some mid → Below mid next → (placing_of x).placed ≡ true → Comes c jump (q.at + (piece_of (scope_in c) x).size) to → ((leaving_of x).completes ≡ true → b ≡ true)
      → ((leaving_of x).breaks ≡ true → level.breaks ≡ true) → length c.around.context.variables ≤ q.variable → q.variable + length (piece_of (scope_in c) x).carried ≤ c.many → (piece_of (scope_in c) x).size + jump + later ≤ left
      → AreLaid c frames level b to next later → AreLaid c (Then (x ∷ []) ∷ frames) level true q.at st left
  alone_laid x frames level q st mid b jump to next later left laid checks below placed comes completes breaks first room few rest =
      let piece = piece_of (scope_in c) x in
      let e : q.at + piece.size ≡ q.at + (piece.size + 0) = omega arith in
      let z = length-append piece.carried [] in
      record {
        goes_on = b;
        jump = jump;
        to = to;
        next = next;
        later = later;
        here = λ is. record {
          place = q;
          is_at = refl;
          laid = laid_alone c.code q.at (piece.from q level.exits) laid;
          end = mid;
          checked = ap (checking.next (λ s. Some s)) checks;
          below = below;
          placed = and_true (placing_of x).placed true placed refl;
          comes = moved_comes jump (q.at + piece.size) to (q.at + (piece.size + 0)) e comes;
          completes = completes;
          breaks = λ is. breaks (or_nothing (leaving_of x).breaks is);
          first = first;
          room = omega arith;
        };
        few = omega arith;
        rest = rest;
      }
