-- A choice of two statements: the code goes on in the one that is chosen, and behind the first jumps over the second.
use Rattle.std.proofs.Common.{◌≡◌, ◌≤◌, ◌+◌, refl, subst, ◌∙◌, ℕ, suc, arith, Bool, true, false, ◌&&◌, ◌||◌, List, [], ◌∷◌, Some, slice_get, length-append}
use Rattle.sdg_base.specs.declared.val.Val.{Val}
use Rattle.sdg_base.specs.declared.val.Val.TheVariants as val
use Rattle.sdg_base.specs.declared.value_type.ValueType.TheVariants as type
use Rattle.state_classes.specs.States.{State}
use Rattle.flat_code.specs.declared.graph.Instr.TheVariants as instr
use Rattle.access_blocks.specs.declared.body.Expression.{Expression}
use Rattle.access_blocks.specs.declared.body.Statement.{Statement}
use Rattle.access_blocks.specs.Expressions.{Gives as GivesValue, is_true, value_of}
use Rattle.access_blocks.specs.Statements.{Machine, seen_by, with_turns}
use Rattle.access_blocks.specs.Source as source
use Rattle.access_blocks.specs.Source.{Move, Moves, Then, having, branch}
use Rattle.body_code.specs.Completing.{leaving, leaving_of}
use Rattle.body_code.specs.ExpressionCode.{code_of}
use Rattle.body_code.specs.StatementCode.{Place, moved, behind_piece, of_code, then_piece, guarded, jumped_over, branches, piece_of}
use Rattle.body_code.specs.Checking.{Standing, outside, met, takes, branching, checked}
use Rattle.code_meaning.specs.Laid.{IsLaid, frame, Leads}
use Rattle.code_meaning.specs.Running.{Ground, IsGround, scope_on, Agrees}
use Rattle.code_meaning.specs.Placed.{placing_of}
use Rattle.code_meaning.specs.Frames.{Level}
use Rattle.code_meaning.specs.Stepping.{coded}
use Rattle.code_meaning.proofs.Lists.{both_true}
use Rattle.code_meaning.proofs.Running.{laid_two, one_step, leads_on, leads_to}
use Rattle.code_meaning.proofs.Sizes.{code_sized}
use Rattle.code_meaning.proofs.Agreeing.{agrees_below, agrees_fewer}
use Rattle.code_meaning.proofs.PieceSizes.{guarded_sized, piece_sized}
use Rattle.code_meaning.proofs.Growing.{if_then, checked_grows}
use Rattle.code_meaning.proofs.Plain.{met_is, opened_is}
use Rattle.code_meaning.proofs.Simple.{evaluates_taken}
use Rattle.code_meaning.proofs.Reaching.{reaches_by}
use Rattle.code_meaning.proofs.Laying.{Head, alone_laid, either_first, either_second}
use Rattle.code_meaning.proofs.Moving.{Gives}
use Rattle.code_meaning.proofs.Opening.{outside_below, grown_below, tested_gives, Branching}

module _ {g : Ground} (ground : IsGround g) (whole : ℕ) where
  pub chosen_gives : (test : Expression) (first second : Statement) {frames : List source.Frame} {level : Level} {at left : ℕ} {st : Standing}
      → Head (coded g whole) frames (branches (code_of g.around.context test) (piece_of (scope_on g) first) (Some (piece_of (scope_on g) second))) (Branching ground whole test first (Some (checked g.around second)))
      (leaving ((leaving_of first).completes || (leaving_of second).completes) ((leaving_of first).breaks || (leaving_of second).breaks)) ((placing_of first).placed && (placing_of second).placed) level at st left
      → left ≤ whole → {variables : List Val} {state : State} {m : Machine} → Agrees g st variables state m
      → Gives g whole left (frame at [] variables m.turns) state (having (value_of g.calls test (seen_by m) m.turns) m (λ holds turns. Moves (Then (branch (is_true holds) first (Some second)) ∷ frames) (with_turns turns m)))
  chosen_gives test first second {frames} {level} {at} {left} {st} h room {variables} {state} {m} agrees =
      let a = piece_of (scope_on g) first in
      let b = piece_of (scope_on g) second in
      let c = code_of g.around.context test in
      let ca = checked g.around first in
      let cb = checked g.around second in
      let p = h.place in
      let k = opened_is st (branching g.around test ca (Some cb) level.loop (outside st)) h.mid h.checked in
      let n = if_then (takes g.around (outside st) test type.Boolean) (met (outside st) (ca level.loop (outside st)) (cb level.loop (outside st))) k.0 k.1 in
      let l = met_is (outside st) (ca level.loop (outside st)) (cb level.loop (outside st)) k.0 n.1 in
      let q : Place = behind_piece p (of_code c) in
      let r : Place = behind_piece q (guarded 1 a) in
      let parts = laid_two g.code p.at c.size (c.from p.at) ((then_piece (guarded 1 a) (jumped_over b)).from q level.exits) (code_sized g.around.context test p.at) h.laid in
      let more = laid_two g.code q.at (a.size + 1) ((guarded 1 a).from q level.exits) ((jumped_over b).from r level.exits) (guarded_sized 1 a (piece_sized (scope_on g) first) q level.exits) parts.1 in
      let inside = agrees_below (outside_below st) agrees in
      let to = p.at + (c.size + (a.size + 1 + (b.size + 1))) in
      let e : suc q.at ≡ q.at + 1 = omega arith in
      let e1 : q.at + (a.size + 1) ≡ q.at + 1 + a.size = omega arith in
      let e2 : q.at + (a.size + 1) + 1 + b.size ≡ to = omega arith in
      let e3 : q.at + 1 + a.size + 1 ≡ suc (q.at + (a.size + 1)) = omega arith in
      let e4 : suc (q.at + (a.size + 1)) ≡ q.at + (a.size + 1) + 1 = omega arith in
      let there : IsLaid g.code (q.at + 1) (a.from (moved 1 q) level.exits) = subst (λ k. IsLaid g.code k (a.from (moved 1 q) level.exits)) e more.0.1 in
      let there_b : IsLaid g.code (q.at + (a.size + 1) + 1) (b.from (moved 1 r) level.exits) = subst (λ z. IsLaid g.code z (b.from (moved 1 r) level.exits)) e4 more.1.1 in
      let jump1 : slice_get g.code (q.at + 1 + a.size) ≡ Some (instr.Jump (q.at + (a.size + 1) + 1 + b.size)) = subst (λ z. slice_get g.code z ≡ Some (instr.Jump (q.at + (a.size + 1) + 1 + b.size))) e1 more.1.0 in
      let jump : slice_get g.code (q.at + 1 + a.size) ≡ Some (instr.Jump to) = subst (λ z. slice_get g.code (q.at + 1 + a.size) ≡ Some (instr.Jump z)) e2 jump1 in
      let f = h.few in
      let ro = h.room in
      let z = length-append a.carried b.carried in
      let fi = h.first in
      let each : (v : Bool) (turns : ℕ) → value_of g.calls test (seen_by m) m.turns ≡ GivesValue (val.Bool v) turns → turns ≤ m.turns → Leads g.setting g.code c.size (frame p.at [] variables m.turns) state (frame q.at (val.Bool v ∷ []) variables turns) state
      → Gives g whole left (frame p.at [] variables m.turns) state (Moves (Then (branch v first (Some second)) ∷ frames) (with_turns turns m)) =
      λ v. elim v as (λ v. (turns : ℕ) → value_of g.calls test (seen_by m) m.turns ≡ GivesValue (val.Bool v) turns → turns ≤ m.turns → Leads g.setting g.code c.size (frame p.at [] variables m.turns) state (frame q.at (val.Bool v ∷ []) variables turns) state
      → Gives g whole left (frame p.at [] variables m.turns) state (Moves (Then (branch v first (Some second)) ∷ frames) (with_turns turns m))) [
        | false ↦ λ turns is less lead. record {
          gives = record {
            level = level;
            at = q.at + (a.size + 1) + 1;
            standing = outside st;
            later = b.size + 0 + h.later;
            variables = variables;
            next = state;
            laid = alone_laid (coded g whole) second frames level (moved 1 r) (outside st) l.1 ((leaving_of first).completes || (leaving_of second).completes) 0 to h.mid h.later (b.size + 0 + h.later) there_b l.3
                (grown_below st l.1 h.mid (checked_grows g.around second level.loop (outside st) l.1 l.3) k.2) (both_true (placing_of first).placed (placing_of second).placed h.is_placed).1 e2
                (either_second (leaving_of first).completes (leaving_of second).completes) (λ z. h.breaks (either_second (leaving_of first).breaks (leaving_of second).breaks z)) (omega arith) (omega arith) (omega arith) h.rest;
            within = omega arith;
            reaches = reaches_by g.setting g.code whole {n = c.size + 1} (omega arith) (omega arith) (leads_on g.setting g.code lead (leads_to g.setting g.code (e3 ∙ e4) (one_step g.setting g.code (instr.IfFalse (q.at + 1 + a.size + 1)) more.0.0 refl (omega arith))));
            agrees = agrees_fewer turns less inside;
          };
        }
        | true ↦ λ turns is less lead. record {
          gives = record {
            level = level;
            at = q.at + 1;
            standing = outside st;
            later = a.size + 1 + h.later;
            variables = variables;
            next = state;
            laid = alone_laid (coded g whole) first frames level (moved 1 q) (outside st) l.0 ((leaving_of first).completes || (leaving_of second).completes) 1 to h.mid h.later (a.size + 1 + h.later) there l.2
                (grown_below st l.0 h.mid (checked_grows g.around first level.loop (outside st) l.0 l.2) k.2) (both_true (placing_of first).placed (placing_of second).placed h.is_placed).0 jump
                (either_first (leaving_of first).completes (leaving_of second).completes) (λ z. h.breaks (either_first (leaving_of first).breaks (leaving_of second).breaks z)) (omega arith) (omega arith) (omega arith) h.rest;
            within = omega arith;
            reaches = reaches_by g.setting g.code whole {n = c.size + 1} (omega arith) (omega arith) (leads_on g.setting g.code lead (leads_to g.setting g.code e (one_step g.setting g.code (instr.IfFalse (q.at + 1 + a.size + 1)) more.0.0 refl (omega arith))));
            agrees = agrees_fewer turns less inside;
          };
        }
      ] in
      subst (λ x. Gives g whole left (frame x [] variables m.turns) state (having (value_of g.calls test (seen_by m) m.turns) m (λ holds turns. Moves (Then (branch (is_true holds) first (Some second)) ∷ frames) (with_turns turns m)))) h.is_at
      (tested_gives ground whole (value_of g.calls test (seen_by m) m.turns) (λ holds turns. Moves (Then (branch (is_true holds) first (Some second)) ∷ frames) (with_turns turns m)) refl (omega arith) room agrees.fields (evaluates_taken ground inside test type.Boolean p.at [] n.0 parts.0) each)
