-- The code of a mark ends at a cut where the source rests at the mark.
use Rattle.std.proofs.Common.{◌≡◌, refl, subst, ℕ, zero, suc, ◌+◌, arith, true, not, List, [], ◌∷◌, Option, Some, None, slice_get}
use Rattle.std.proofs.lemmas.Bool.{false≢true}
use Rattle.sdg_base.specs.declared.val.Val.{Val}
use Rattle.sdg_base.specs.declared.val.Outcome.TheVariants as outcome
use Rattle.sdg_base.specs.declared.value_type.ValueType.TheVariants as type
use Rattle.state_classes.specs.States.{State}
use Rattle.flat_code.specs.declared.graph.Instr.TheVariants as instr
use Rattle.flat_code.specs.Machine.{Frame, CutTo}
use Rattle.access_blocks.specs.declared.body.Expression.{Expression}
use Rattle.access_blocks.specs.declared.body.Holder.{Holder}
use Rattle.access_blocks.specs.declared.body.Mark.{Mark}
use Rattle.access_blocks.specs.declared.body.Statement.{Statement}
use Rattle.access_blocks.specs.Expressions.{Ended, Gives, Ends, value_of}
use Rattle.access_blocks.specs.Statements.{Machine, seen_by}
use Rattle.access_blocks.specs.Source as source
use Rattle.access_blocks.specs.Source.{Move, Rests, At, at_mark, having, spending, standing}
use Rattle.body_code.specs.ExpressionCode.{code_of}
use Rattle.body_code.specs.StatementCode.{Place, Exits, Piece, cut, then_piece, of_code, behind_piece, key_code}
use Rattle.body_code.specs.Checking.{Surroundings, Standing, takes, is_key_of}
use Rattle.code_meaning.specs.Laid.{IsLaid, frame, Leads, EndsSo, Stops}
use Rattle.code_meaning.specs.Evaluating.{Evaluates}
use Rattle.code_meaning.specs.Running.{Ground, IsGround, scope_on, Agrees}
use Rattle.code_meaning.specs.Cutting.{stack_of, RestsSo, MarksAreCuts}
use Rattle.code_meaning.proofs.Lists.{both_true}
use Rattle.code_meaning.proofs.Running.{laid_two, one_step, one_end, one_stop, stays, leads_to, ends_on, stops_on, ends_wider, stops_wider}
use Rattle.code_meaning.proofs.Sizes.{code_sized}
use Rattle.code_meaning.proofs.Operands.{on_stack}
use Rattle.code_meaning.proofs.Simple.{evaluates_taken}

pub key_taken : (around : Surroundings) (st : Standing) (o : Option Holder) (key : Expression) → is_key_of around st o (Some key) ≡ true → takes around st key type.Long ≡ true
key_taken around st None key is = absurd (false≢true is)
key_taken around st (Some h) key is = (both_true (not h.is_partial) (takes around st key type.Long) is).1

-- a turn is spent, and then comes the cut
pub cut_after : (g : Ground) {n at task left : ℕ} {f : Frame} {state : State} {stack variables : List Val} → Leads g.setting g.code n f state (frame at stack variables (suc left)) state → IsLaid g.code at (instr.Turn ∷ instr.Cut task ∷ [])
    → EndsSo g.setting g.code (n + 2) f state (CutTo task) (frame (at + 1) stack variables left) state
cut_after g {n} {at} {task} {left} {f} {state} {stack} {variables} q laid =
    let e : suc at ≡ at + 1 = omega arith in
    let turn : Leads g.setting g.code 1 (frame at stack variables (suc left)) state (frame (at + 1) stack variables left) state = leads_to g.setting g.code e (one_step g.setting g.code instr.Turn laid.0 refl (omega arith)) in
    let there : slice_get g.code (at + 1) ≡ Some (instr.Cut task) = subst (λ k. slice_get g.code k ≡ Some (instr.Cut task)) e laid.1.0 in
    ends_wider g.setting g.code (omega arith) (ends_on g.setting g.code q (ends_on g.setting g.code turn (one_end g.setting g.code (instr.Cut task) there refl)))

-- where none is left
pub no_turn_left : (g : Ground) {n at task : ℕ} {f : Frame} {state : State} {stack variables : List Val} → Leads g.setting g.code n f state (frame at stack variables zero) state → IsLaid g.code at (instr.Turn ∷ instr.Cut task ∷ [])
    → Stops g.setting g.code (n + 2) f state outcome.Limit state
no_turn_left g q laid = stops_wider g.setting g.code (omega arith) (stops_on g.setting g.code q (one_stop g.setting g.code instr.Turn laid.0 refl))

module _ (g : Ground) (mark : Mark) (block : Statement) (frames : List source.Frame) where
  -- a turn, and the cut
  cuts : {n at task : ℕ} {f : Frame} {state : State} {variables : List Val} (m : Machine) (key : Option Val) (left : ℕ) → Leads g.setting g.code n f state (frame at (stack_of key) variables left) state
      → IsLaid g.code at (instr.Turn ∷ instr.Cut task ∷ [])
      → RestsSo g (n + 2) f state task (at + 1) variables m (spending left m (λ left. Rests (At mark.field key block (standing frames m left)) m.fields))
  cuts m key zero q laid = (no_turn_left g q laid, refl)
  cuts m key (suc left) q laid = (cut_after g q laid, refl, refl)

  keyed : {n at task : ℕ} {f : Frame} {state : State} {variables : List Val} (m : Machine) (x : Ended Val) → Evaluates g.setting g.code n f state at [] variables type.Long x → IsLaid g.code at (instr.Turn ∷ instr.Cut task ∷ [])
      → RestsSo g (n + 2) f state task (at + 1) variables m (having x m (λ k turns. spending turns m (λ left. Rests (At mark.field (Some k) block (standing frames m left)) m.fields)))
  keyed {n} {at} {f = f} {state = state} {variables = variables} m (Gives v left) q laid =
      cuts m (Some v) left (subst (λ stack. Leads g.setting g.code n f state (frame at stack variables left) state) (on_stack type.Long v [] tt q.does.0) q.does.1) laid
  keyed m (Ends h) q laid = (stops_wider g.setting g.code (omega arith) q.does, refl)

  pub rests : IsGround g → (key : Option Expression) (body : Piece) (st : Standing) → is_key_of g.around st (slice_get g.around.fields mark.field) key ≡ true
      → (p : Place) (exits : Exits) → IsLaid g.code p.at ((then_piece (of_code (key_code (scope_on g) key)) (then_piece cut body)).from p exits)
      → (variables : List Val) (state : State) (m : Machine) → Agrees g st variables state m
      → RestsSo g ((key_code (scope_on g) key).size + 2) (frame p.at [] variables m.turns) state p.task (p.at + (key_code (scope_on g) key).size + 1) variables m (at_mark g.calls mark key block frames m)
  rests ground None body st is p exits laid variables state m h =
      let q : Place = behind_piece p (of_code (key_code (scope_on g) None)) in
      let e : p.task + 0 ≡ p.task = omega arith in
      let z : p.at ≡ p.at + 0 = omega arith in
      let parts = laid_two g.code q.at 2 (cut.from q exits) (body.from (behind_piece q cut) exits) refl (subst (λ k. IsLaid g.code k ((then_piece cut body).from q exits)) z laid) in
      cuts m None m.turns (leads_to g.setting g.code z (stays g.setting g.code)) (subst (λ t. IsLaid g.code q.at (instr.Turn ∷ instr.Cut t ∷ [])) e parts.0)
  rests ground (Some key) body st is p exits laid variables state m h =
      let c = code_of g.around.context key in
      let q : Place = behind_piece p (of_code c) in
      let e : p.task + 0 ≡ p.task = omega arith in
      let outer = laid_two g.code p.at c.size (c.from p.at) ((then_piece cut body).from q exits) (code_sized g.around.context key p.at) laid in
      let parts = laid_two g.code q.at 2 (cut.from q exits) (body.from (behind_piece q cut) exits) refl outer.1 in
      keyed m (value_of g.calls key (seen_by m) m.turns) (evaluates_taken ground h key type.Long p.at [] (key_taken g.around st (slice_get g.around.fields mark.field) key is) outer.0)
      (subst (λ t. IsLaid g.code q.at (instr.Turn ∷ instr.Cut t ∷ [])) e parts.0)

pub marks_are_cuts : MarksAreCuts
marks_are_cuts g ground mark block body st is p exits laid frames variables state m h = rests g mark block frames ground mark.key body st is p exits laid variables state m h
