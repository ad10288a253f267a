-- A loop that is opened, move by move: its start is run whole, and leads to its test.
use Rattle.std.proofs.Common.{◌≡◌, ◌≤◌, ◌+◌, refl, sym, subst, ℕ, arith, Bool, true, false, not, ◌&&◌, ◌||◌, List, [], map, Option, Some, None, length-append}
use Rattle.sdg_base.specs.declared.val.Val.{Val}
use Rattle.state_classes.specs.States.{State}
use Rattle.access_blocks.specs.declared.body.Expression.{Expression}
use Rattle.access_blocks.specs.declared.body.Statement.{Statement}
use Rattle.access_blocks.specs.Statements.{Machine, meanings}
use Rattle.access_blocks.specs.Source as source
use Rattle.access_blocks.specs.Source.{Test, entered}
use Rattle.body_code.specs.Completing.{leaving, goes_on, leaving_of}
use Rattle.body_code.specs.StatementCode.{Piece, behind_piece, looped, piece_of, pieces_of}
use Rattle.body_code.specs.Checking.{Standing, Checking, outside, looping, checked, checked_list}
use Rattle.body_code.specs.Checking as checking
use Rattle.code_meaning.specs.Laid.{frame}
use Rattle.code_meaning.specs.Running.{Ground, IsGround, scope_on, Agrees, all_plain, is_plain}
use Rattle.code_meaning.specs.Placed.{Placing, placing_of}
use Rattle.code_meaning.specs.Frames.{Level, LoopStands, inner_exits, loop_piece, AreLaid}
use Rattle.code_meaning.specs.Stepping.{coded}
use Rattle.code_meaning.proofs.Lists.{both_true}
use Rattle.code_meaning.proofs.Running.{laid_two}
use Rattle.code_meaning.proofs.Agreeing.{agrees_below}
use Rattle.code_meaning.proofs.PieceSizes.{pieces_sized}
use Rattle.code_meaning.proofs.Growing.{next_is, list_checked_grows}
use Rattle.code_meaning.proofs.Plain.{opened_is, passing_is, statements_right}
use Rattle.code_meaning.proofs.Placing.{lists_plain}
use Rattle.code_meaning.proofs.Laying.{Head, same_below}
use Rattle.code_meaning.proofs.Layers.{opened_check}
use Rattle.code_meaning.proofs.Moving.{Gives}
use Rattle.code_meaning.proofs.Opening.{outside_below, grown_below}
use Rattle.code_meaning.proofs.Rounds.{at_test, test_laid, entering_gives}

module _ {g : Ground} (ground : IsGround g) (whole : ℕ) where
  abbrev pub looped_piece : List Statement → Option Expression → List Statement → Statement → Piece
  looped_piece start test update body = looped g.around.context (map (piece_of (scope_on g)) start) test (map (piece_of (scope_on g)) update) (piece_of (scope_on g) body)

  abbrev pub loop_check : List Statement → Option Expression → List Statement → Statement → Checking
  loop_check start test update body = looping g.around (map (checked g.around) start) test (map (checked g.around) update) (checked g.around body)

  abbrev pub loop_placed : List Statement → List Statement → Statement → Bool
  loop_placed start update body =
      all_plain (map (λ (a : Placing). a.plain) (map placing_of start)) && ((placing_of body).placed && all_plain (map (λ (a : Placing). a.plain) (map placing_of update)))

  list_plain : (xs : List Statement) → all_plain (map (λ (a : Placing). a.plain) (map placing_of xs)) ≡ true → all_plain (map is_plain xs) ≡ true
  list_plain xs is = subst (λ ys. all_plain ys ≡ true) (lists_plain xs) is

  abbrev pub LoopHead : List Statement → Option Expression → List Statement → Statement → List source.Frame → Level → ℕ → Standing → ℕ → Type 0
  LoopHead start test update body frames level at st left =
      Head (coded g whole) frames (looped_piece start test update body) (opened_check (coded g whole) (loop_check start test update body)) (leaving (not (goes_on test) || (leaving_of body).breaks) false) (loop_placed start update body) level at st left

  abbrev pub Rest : List source.Frame → Level → Bool → ℕ → Standing → ℕ → Type 0
  Rest frames level may at st left = AreLaid (coded g whole) frames level may at st left

  -- the start has been checked, and the loop stands behind it
  record Stands (start : List Statement) (test : Option Expression) (update : List Statement) (body : Statement) (frames : List source.Frame) (level : Level) (st : Standing) {at left : ℕ} (h : LoopHead start test update body frames level at st left) : Type 0 where
    pub need : Standing
    pub start_checked : checked_list g.around start None (outside st) ≡ Some need
    pub start_plain : all_plain (map is_plain start) ≡ true
    pub inner : Level
    pub stands : LoopStands (coded g whole) test update body inner (Rest frames)
    pub same : stands.need ≡ need
    pub is_at : stands.place.at ≡ h.place.at + (pieces_of (scope_on g) start).size
    pub later : stands.later ≡ h.later

  loop_stands : (start : List Statement) (test : Option Expression) (update : List Statement) (body : Statement) (frames : List source.Frame) (level : Level) (st : Standing) {at left : ℕ} (h : LoopHead start test update body frames level at st left) → left ≤ whole
      → Stands start test update body frames level st h
  loop_stands start test update body frames level st h room =
      let p = h.place in
      let starts = pieces_of (scope_on g) start in
      let piece = loop_piece (coded g whole) test update body in
      let q = behind_piece p starts in
      let cu = checked_list g.around update in
      let cb = checked g.around body in
      let before = outside st in
      let k = opened_is st (loop_check start test update body level.loop before) h.mid h.checked in
      let n = next_is (checking.passing g.around before test (map (checked g.around) update) cb) (checked_list g.around start None before) k.0 k.1 in
      let l = passing_is ground before n.0 k.0 test cu cb n.2 in
      let b1 = both_true (all_plain (map (λ (a : Placing). a.plain) (map placing_of start))) ((placing_of body).placed && all_plain (map (λ (a : Placing). a.plain) (map placing_of update))) h.is_placed in
      let b2 = both_true (placing_of body).placed (all_plain (map (λ (a : Placing). a.plain) (map placing_of update))) b1.1 in
      let z = length-append starts.carried piece.carried in
      let r = h.room in
      let f = h.few in
      let fi = h.first in
      let e : p.at + (starts.size + piece.size) ≡ p.at + starts.size + piece.size = omega arith in
      record {
        need = n.0;
        start_checked = n.1;
        start_plain = list_plain start b1.0;
        inner = record { loop = Some n.0; exits = inner_exits (coded g whole) test update body q.at; breaks = (leaving_of body).breaks };
        stands = record {
          place = q;
          outer = level;
          laid = (laid_two g.code p.at starts.size (starts.from p level.exits) (piece.from q level.exits) (pieces_sized (scope_on g) start p level.exits) h.laid).1;
          need = n.0;
          loop = refl;
          exits = refl;
          breaks = refl;
          condition = l.0;
          after_body = l.1.0;
          body_checked = l.1.1;
          body_below = l.1.2;
          after_update = l.2.0;
          update_checked = l.2.1;
          update_below = l.2.2;
          update_plain = list_plain update b2.1;
          body_placed = b2.0;
          first = omega arith;
          room = omega arith;
          next = h.mid;
          next_below = grown_below st n.0 h.mid (list_checked_grows g.around start None before n.0 n.1) k.2;
          later = h.later;
          few = omega arith;
          rest = subst (λ a. Rest frames level (not (goes_on test) || (leaving_of body).breaks) a h.mid h.later) e h.rest;
        };
        same = refl;
        is_at = refl;
        later = refl;
      }

  pub loop_gives : (start : List Statement) (test : Option Expression) (update : List Statement) (body : Statement) {frames : List source.Frame} {level : Level} {at left : ℕ} {st : Standing} → LoopHead start test update body frames level at st left
      → left ≤ whole → {variables : List Val} {state : State} {m : Machine} → Agrees g st variables state m → Gives g whole left (frame at [] variables m.turns) state (entered (meanings g.calls start m) (Test test update body) frames)
  loop_gives start test update body {frames} {level} {at} {left} {st} h room {variables} {state} {m} agrees =
      let p = h.place in
      let starts = pieces_of (scope_on g) start in
      let piece = loop_piece (coded g whole) test update body in
      let k = loop_stands start test update body frames level st h room in
      let z = k.stands in
      let c = meanings g.calls start m in
      let parts = laid_two g.code p.at starts.size (starts.from p level.exits) (piece.from (behind_piece p starts) level.exits) (pieces_sized (scope_on g) start p level.exits) h.laid in
      let f = h.few in
      let la = k.later in
      subst (λ a. Gives g whole left (frame a [] variables m.turns) state (entered c (Test test update body) frames)) h.is_at
      (entering_gives ground whole 0 c.completion c.machine test update body frames (at_test ground whole k.inner)
      (statements_right ground start k.start_plain None (outside st) k.need p level.exits k.start_checked parts.0 variables state m (agrees_below (outside_below st) agrees)) (sym k.is_at) (same_below k.need z.need (sym k.same))
      (test_laid ground whole test update body frames k.inner z) (omega arith) room)
