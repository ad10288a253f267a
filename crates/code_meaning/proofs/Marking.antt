-- Where a mark is come to, the code ends at its cut, and behind the cut stands the block.
use Rattle.std.proofs.Common.{◌≡◌, ◌≤◌, ◌+◌, refl, subst, ℕ, zero, suc, arith, Bool, true, false, not, ◌&&◌, List, [], ◌∷◌, Option, Some, None, slice_get}
use Rattle.std.proofs.lemmas.Bool.{false≢true}
use Rattle.sdg_base.specs.declared.val.Val.{Val}
use Rattle.sdg_base.specs.declared.val.Outcome.TheVariants as outcome
use Rattle.sdg_base.specs.declared.value_type.ValueType.TheVariants as type
use Rattle.sdg_base.specs.Types as values
use Rattle.state_classes.specs.States.{State}
use Rattle.flat_code.specs.declared.graph.Instr.TheVariants as instr
use Rattle.access_blocks.specs.declared.body.Expression.{Expression}
use Rattle.access_blocks.specs.declared.body.Holder.{Holder}
use Rattle.access_blocks.specs.declared.body.Mark.{Mark}
use Rattle.access_blocks.specs.declared.body.Statement.{Statement}
use Rattle.access_blocks.specs.Expressions.{Ended, Gives as GivesValue, Ends, value_of}
use Rattle.access_blocks.specs.Statements.{Machine, seen_by}
use Rattle.access_blocks.specs.Source as source
use Rattle.access_blocks.specs.Source.{Move, Rests, At, Then, at_mark, having, spending, standing}
use Rattle.body_code.specs.Completing.{leaving_of}
use Rattle.body_code.specs.StatementCode.{Place, Piece, cut, then_piece, of_code, behind_piece, key_code, marked, piece_of}
use Rattle.body_code.specs.Checking.{Standing, Checking, is_entry, is_key_of, takes, in_block, checked}
use Rattle.body_code.specs.Checking as checking
use Rattle.code_meaning.specs.Laid.{IsLaid, frame}
use Rattle.code_meaning.specs.Evaluating.{Evaluates}
use Rattle.code_meaning.specs.Running.{Ground, IsGround, scope_on, Agrees}
use Rattle.code_meaning.specs.Cutting.{RestsSo}
use Rattle.code_meaning.specs.Placed.{placing_of}
use Rattle.code_meaning.specs.Frames.{Level, AreLaid}
use Rattle.code_meaning.specs.Resting.{SameVariables, IsKeyFor, BlockStands}
use Rattle.code_meaning.specs.Stepping.{coded}
use Rattle.code_meaning.proofs.Lists.{both_true}
use Rattle.code_meaning.proofs.Running.{laid_two}
use Rattle.code_meaning.proofs.PieceSizes.{key_sized}
use Rattle.code_meaning.proofs.Simple.{evaluates_taken}
use Rattle.code_meaning.proofs.Growing.{if_then}
use Rattle.code_meaning.proofs.Cutting.{key_taken, rests}
use Rattle.code_meaning.proofs.Reaching.{ends_by}
use Rattle.code_meaning.proofs.Laying.{Head, same_below, alone_laid}
use Rattle.code_meaning.proofs.Moving.{Gives, fields_left, stop_gives, halt_gives}

not_so : (b : Bool) → not b ≡ true → b ≡ false
not_so true is = absurd (false≢true is)
not_so false is = refl

no_key : (around : checking.Surroundings) (st : Standing) (o : Option Holder) → is_key_of around st o None ≡ true → IsKeyFor o None
no_key around st None is = absurd (false≢true is)
no_key around st (Some h) is = is

a_key : (around : checking.Surroundings) (st : Standing) (o : Option Holder) (key : Expression) (v : Val) → is_key_of around st o (Some key) ≡ true → values.type_of v ≡ type.Long → IsKeyFor o (Some v)
a_key around st None key v is has = absurd (false≢true is)
a_key around st (Some h) key v is has = (not_so h.is_partial (both_true (not h.is_partial) (takes around st key type.Long) is).0, has)

-- the variables that are known, where a call rests
pub variables_rest : {g : Ground} (whole : ℕ) {st : Standing} {variables : List Val} {state : State} {m : Machine} → Agrees g st variables state m → SameVariables (coded g whole) st variables m.variables
variables_rest whole h = record { known = h.known; room = h.room; room_there = h.room_there }

module _ {g : Ground} (ground : IsGround g) (whole : ℕ) where
  abbrev mark_check : Mark → Statement → Checking
  mark_check mark block = checking.marked g.around mark (checked g.around block)

  abbrev pub MarkHead : Mark → Statement → List source.Frame → Level → ℕ → Standing → ℕ → Type 0
  MarkHead mark block frames level at st left = Head (coded g whole) frames (marked (scope_on g) mark (piece_of (scope_on g) block)) (mark_check mark block) (leaving_of block) (placing_of block).placed level at st left

  module _ (mark : Mark) (block : Statement) (frames : List source.Frame) {level : Level} {at left : ℕ} {st : Standing} (h : MarkHead mark block frames level at st left) (room : left ≤ whole) where
    abbrev nk : ℕ
    nk = (key_code (scope_on g) mark.key).size

    abbrev body : Piece
    body = piece_of (scope_on g) block

    abbrev cut_at : ℕ
    cut_at = h.place.at + nk + 1

    abbrev behind_cut : Place
    behind_cut = behind_piece (behind_piece h.place (of_code (key_code (scope_on g) mark.key))) cut

    checks : (is_entry g.around.kind ≡ true) × (is_key_of g.around st (slice_get g.around.fields mark.field) mark.key ≡ true) × (checked g.around block level.loop (in_block mark.field st) ≡ Some h.mid)
    checks =
        let k = if_then (is_entry g.around.kind && is_key_of g.around st (slice_get g.around.fields mark.field) mark.key) (checked g.around block level.loop (in_block mark.field st)) h.mid h.checked in
        let l = both_true (is_entry g.around.kind) (is_key_of g.around st (slice_get g.around.fields mark.field) mark.key) k.0 in
        (l.0, l.1, k.1)

    laid_key : IsLaid g.code h.place.at ((key_code (scope_on g) mark.key).from h.place.at) × IsLaid g.code (h.place.at + nk) ((then_piece cut body).from (behind_piece h.place (of_code (key_code (scope_on g) mark.key))) level.exits)
    laid_key = laid_two g.code h.place.at nk ((key_code (scope_on g) mark.key).from h.place.at) ((then_piece cut body).from (behind_piece h.place (of_code (key_code (scope_on g) mark.key))) level.exits) (key_sized (scope_on g) mark.key h.place.at) h.laid

    laid_cut : IsLaid g.code (h.place.at + nk) (cut.from (behind_piece h.place (of_code (key_code (scope_on g) mark.key))) level.exits) × IsLaid g.code behind_cut.at (body.from behind_cut level.exits)
    laid_cut = laid_two g.code (h.place.at + nk) 2 (cut.from (behind_piece h.place (of_code (key_code (scope_on g) mark.key))) level.exits) (body.from behind_cut level.exits) refl laid_key.1

    abbrev later : ℕ
    later = body.size + 0 + h.later

    block_laid : AreLaid (coded g whole) (Then (block ∷ []) ∷ frames) level true (cut_at + 1) (in_block mark.field st) later
    block_laid =
        let e : behind_cut.at ≡ cut_at + 1 = omega arith in
        let e1 : behind_cut.at + body.size ≡ h.place.at + (nk + (2 + body.size)) = omega arith in
        let r = h.room in
        let fi = h.first in
        subst (λ a. AreLaid (coded g whole) (Then (block ∷ []) ∷ frames) level true a (in_block mark.field st) later) e
        (alone_laid (coded g whole) block frames level behind_cut (in_block mark.field st) h.mid (leaving_of block).completes 0 (h.place.at + (nk + (2 + body.size))) h.mid h.later later laid_cut.1
        checks.2 (same_below h.mid h.mid refl) h.is_placed e1 (λ z. z) h.breaks (omega arith) (omega arith) (omega arith) h.rest)

    stands : {variables : List Val} {state : State} {m : Machine} (key : Option Val) (turns : ℕ) → IsKeyFor (slice_get g.around.fields mark.field) key → Agrees g st variables state m
        → BlockStands (coded g whole) cut_at h.place.task mark.field key block (standing frames m turns) variables
    stands key turns is_key agrees =
        let f = h.few in
        let e : suc (h.place.at + nk) ≡ cut_at = omega arith in
        let t : h.place.task + 0 ≡ h.place.task = omega arith in
        record {
          is_cut = subst (λ k. slice_get g.code cut_at ≡ Some (instr.Cut k)) t (subst (λ a. slice_get g.code a ≡ Some (instr.Cut (h.place.task + 0))) e laid_cut.0.1.0);
          is_key = is_key;
          before = st;
          level = level;
          left = later;
          laid = block_laid;
          few = omega arith;
          same = variables_rest whole agrees;
        }

    spend_gives : {variables : List Val} {state : State} {m : Machine} (key : Option Val) (turns : ℕ) → turns ≤ m.turns → IsKeyFor (slice_get g.around.fields mark.field) key → Agrees g st variables state m
        → RestsSo g (nk + 2) (frame h.place.at [] variables m.turns) state h.place.task cut_at variables m (spending turns m (λ rest. Rests (At mark.field key block (standing frames m rest)) m.fields))
        → Gives g whole left (frame h.place.at [] variables m.turns) state (spending turns m (λ rest. Rests (At mark.field key block (standing frames m rest)) m.fields))
    spend_gives {m = m} key zero less is_key agrees q = (let f = h.few in stop_gives g whole outcome.Limit m refl tt q.0 (omega arith) room agrees.fields)
    spend_gives {variables} {state} {m} key (suc turns) less is_key agrees q =
        let f = h.few in
        record {
          gives = record {
            at = cut_at;
            task = h.place.task;
            variables = variables;
            next = state;
            ends = ends_by g.setting g.code whole (omega arith) (omega arith) q.0;
            stands = stands key turns is_key agrees;
            falls = omega arith;
            left = fields_left agrees.fields;
          };
        }

    keyed_gives : {variables : List Val} {state : State} {m : Machine} {n to : ℕ} (x : Ended Val) → Evaluates g.setting g.code n (frame h.place.at [] variables m.turns) state to [] variables type.Long x → Agrees g st variables state m
        → ((v : Val) → values.type_of v ≡ type.Long → IsKeyFor (slice_get g.around.fields mark.field) (Some v))
        → RestsSo g (nk + 2) (frame h.place.at [] variables m.turns) state h.place.task cut_at variables m (having x m (λ k turns. spending turns m (λ rest. Rests (At mark.field (Some k) block (standing frames m rest)) m.fields)))
        → Gives g whole left (frame h.place.at [] variables m.turns) state (having x m (λ k turns. spending turns m (λ rest. Rests (At mark.field (Some k) block (standing frames m rest)) m.fields)))
    keyed_gives (GivesValue v turns) q agrees is_key r = spend_gives (Some v) turns q.does.1.falls (is_key v q.does.0) agrees r
    keyed_gives {m = m} (Ends s) q agrees is_key r = (let f = h.few in halt_gives g whole s m r.0 (omega arith) room agrees.fields)

    any_gives : {variables : List Val} {state : State} {m : Machine} → Agrees g st variables state m → (key : Option Expression) → mark.key ≡ key
        → RestsSo g (nk + 2) (frame h.place.at [] variables m.turns) state h.place.task cut_at variables m (at_mark g.calls mark key block frames m)
        → Gives g whole left (frame h.place.at [] variables m.turns) state (at_mark g.calls mark key block frames m)
    any_gives {m = m} agrees None is q = spend_gives None m.turns (omega arith) (no_key g.around st (slice_get g.around.fields mark.field) (subst (λ k. is_key_of g.around st (slice_get g.around.fields mark.field) k ≡ true) is checks.1)) agrees q
    any_gives {m = m} agrees (Some key) is q =
        let so = subst (λ k. is_key_of g.around st (slice_get g.around.fields mark.field) k ≡ true) is checks.1 in
        keyed_gives (value_of g.calls key (seen_by m) m.turns)
        (evaluates_taken ground agrees key type.Long h.place.at [] (key_taken g.around st (slice_get g.around.fields mark.field) key so) (subst (λ k. IsLaid g.code h.place.at ((key_code (scope_on g) k).from h.place.at)) is laid_key.0)) agrees
        (λ v has. a_key g.around st (slice_get g.around.fields mark.field) key v so has) q

    pub mark_gives : {variables : List Val} {state : State} {m : Machine} → Agrees g st variables state m → Gives g whole left (frame at [] variables m.turns) state (at_mark g.calls mark mark.key block frames m)
    mark_gives {variables} {state} {m} agrees =
        subst (λ a. Gives g whole left (frame a [] variables m.turns) state (at_mark g.calls mark mark.key block frames m)) h.is_at
        (any_gives agrees mark.key refl (rests g mark block frames ground mark.key body st checks.1 h.place level.exits h.laid variables state m agrees))
