-- Opened blocks and choices: the code goes on in the list that is chosen.
use Rattle.std.proofs.Common.{◌≡◌, ◌≤◌, ◌+◌, refl, subst, ℕ, suc, arith, Bool, true, false, ◌&&◌, List, [], ◌∷◌, map, Option, Some, None, length-append}
use Rattle.std.proofs.lemmas.Bool.{false≢true}
use Rattle.sdg_base.specs.declared.val.Val.{Val}
use Rattle.sdg_base.specs.declared.val.Val.TheVariants as val
use Rattle.sdg_base.specs.declared.value_type.ValueType.TheVariants as type
use Rattle.state_classes.specs.States.{State}
use Rattle.flat_code.specs.declared.graph.Instr.TheVariants as instr
use Rattle.flat_code.specs.Machine.{Frame}
use Rattle.access_blocks.specs.declared.body.Expression.{Expression}
use Rattle.access_blocks.specs.declared.body.Statement.{Statement}
use Rattle.access_blocks.specs.Expressions.{Ended as Evaluated, Gives as GivesValue, Ends, is_true, value_of}
use Rattle.access_blocks.specs.Statements.{Machine, seen_by, with_turns}
use Rattle.access_blocks.specs.Source as source
use Rattle.access_blocks.specs.Source.{Move, Moves, Then, having, branch}
use Rattle.body_code.specs.Completing.{leaving, completing, breaking, leaving_of}
use Rattle.body_code.specs.Early.{is_in}
use Rattle.body_code.specs.ExpressionCode.{code_of}
use Rattle.body_code.specs.StatementCode.{Place, moved, behind_piece, of_code, guarded, branches, piece_of, pieces_of}
use Rattle.body_code.specs.Checking.{Standing, Checking, outside, compound, met, takes, branching, checked, checked_list}
use Rattle.code_meaning.specs.Laid.{IsLaid, frame, Leads}
use Rattle.code_meaning.specs.Evaluating.{Evaluates}
use Rattle.code_meaning.specs.Running.{Below, Ground, IsGround, scope_on, FieldsAgree, Agrees}
use Rattle.code_meaning.specs.Placed.{placing_of, all_placed}
use Rattle.code_meaning.specs.Frames.{Level}
use Rattle.code_meaning.specs.Stepping.{coded}
use Rattle.code_meaning.proofs.Lists.{none_some, both_true}
use Rattle.code_meaning.proofs.Running.{laid_two, one_step, leads_on, leads_to}
use Rattle.code_meaning.proofs.Evaluations.{boolean_cases}
use Rattle.code_meaning.proofs.Operands.{on_stack}
use Rattle.code_meaning.proofs.Sizes.{code_sized}
use Rattle.code_meaning.proofs.Agreeing.{agrees_below, agrees_fewer}
use Rattle.code_meaning.proofs.Growing.{if_then, checked_grows, list_checked_grows}
use Rattle.code_meaning.proofs.Plain.{met_is, compound_is, opened_is}
use Rattle.code_meaning.proofs.Simple.{evaluates_taken}
use Rattle.code_meaning.proofs.Reaching.{reaches_by, reaches_here}
use Rattle.code_meaning.proofs.Laying.{Head, alone_laid, same_below}
use Rattle.code_meaning.proofs.Layers.{opened_check}
use Rattle.code_meaning.proofs.Moving.{Gives, halt_gives}

pub outside_below : (st : Standing) → Below st (outside st)
outside_below st = record { known = λ v z. z; field = λ f z. absurd (none_some f z); gathered = λ t z. absurd (none_some t z) }

-- what was known before, in no block
pub grown_below : (st end mid : Standing) → ((v : ℕ) → is_in v st.known ≡ true → is_in v end.known ≡ true) → outside st ≡ mid → Below end mid
grown_below st end mid grows is = subst (Below end) is (record { known = grows; field = λ f z. absurd (none_some f z); gathered = λ t z. absurd (none_some t z) })

module _ {g : Ground} (ground : IsGround g) (whole : ℕ) where
  abbrev pub list_check : List Statement → Checking
  list_check items exits st = compound st (checked_list g.around items exits st)

  pub block_gives : (items : List Statement) {frames : List source.Frame} {level : Level} {at left : ℕ} {st : Standing}
      → Head (coded g whole) frames (pieces_of (scope_on g) items) (opened_check (coded g whole) (list_check items)) (leaving (completing (map leaving_of items)) (breaking (map leaving_of items))) (all_placed (map placing_of items)) level at st left
      → left ≤ whole → {variables : List Val} {state : State} {m : Machine} → Agrees g st variables state m → Gives g whole left (frame at [] variables m.turns) state (Moves (Then items ∷ frames) m)
  block_gives items {frames} {level} {at} {left} {st} h room {variables} {state} {m} agrees =
      let k = opened_is st (compound (outside st) (checked_list g.around items level.loop (outside st))) h.mid h.checked in
      let l = compound_is (outside st) (checked_list g.around items level.loop (outside st)) k.0 k.1 in
      let f = h.few in
      record {
        gives = record {
          level = level;
          at = at;
          standing = outside st;
          later = left;
          variables = variables;
          next = state;
          laid = record {
            goes_on = completing (map leaving_of items);
            jump = 0;
            to = h.place.at + (pieces_of (scope_on g) items).size;
            next = h.mid;
            later = h.later;
            here = λ is. record {
              place = h.place;
              is_at = h.is_at;
              laid = h.laid;
              end = l.0;
              checked = l.1;
              below = grown_below st l.0 h.mid (list_checked_grows g.around items level.loop (outside st) l.0 l.1) k.2;
              placed = h.is_placed;
              comes = refl;
              completes = λ z. z;
              breaks = h.breaks;
              first = h.first;
              room = h.room;
            };
            few = omega arith;
            rest = h.rest;
          };
          within = room;
          reaches = reaches_here g.setting g.code whole (omega arith);
          agrees = agrees_below (outside_below st) agrees;
        };
      }

  -- ---- a choice

  -- the value of the test, and what follows
  pub tested_gives : {left n at : ℕ} {f : Frame} {variables : List Val} {state : State} {m : Machine} (v : Evaluated Val) (k : Val → ℕ → Move) → f.turns ≡ m.turns → n ≤ left → left ≤ whole → FieldsAgree g state m
      → Evaluates g.setting g.code n f state at [] variables type.Boolean v
      → ((b : Bool) (turns : ℕ) → v ≡ GivesValue (val.Bool b) turns → turns ≤ m.turns → Leads g.setting g.code n f state (frame at (val.Bool b ∷ []) variables turns) state → Gives g whole left f state (k (val.Bool b) turns))
      → Gives g whole left f state (having v m k)
  tested_gives {left} {n} {at} {f} {variables} {state} {m} (GivesValue v turns) k same fits room fields q each =
      let less : turns ≤ m.turns = (let x = q.does.1.falls in omega arith) in
      boolean_cases (λ w. GivesValue v turns ≡ GivesValue w turns → Leads g.setting g.code n f state (frame at (w ∷ []) variables turns) state → Gives g whole left f state (k w turns)) v q.does.0 (λ b is p. each b turns is less p) refl
      (subst (λ stack. Leads g.setting g.code n f state (frame at stack variables turns) state) (on_stack type.Boolean v [] tt q.does.0) q.does.1)
  tested_gives {m = m} (Ends h) k same fits room fields q each = halt_gives g whole h m q.does fits room fields

  abbrev pub Branching : Expression → Statement → Option Checking → Checking
  Branching test first second = opened_check (coded g whole) (branching g.around test (checked g.around first) second)

  pub alone_gives : (test : Expression) (first : Statement) {frames : List source.Frame} {level : Level} {at left : ℕ} {st : Standing}
      → Head (coded g whole) frames (branches (code_of g.around.context test) (piece_of (scope_on g) first) None) (Branching test first None) (leaving true (leaving_of first).breaks) ((placing_of first).placed && true) level at st left
      → left ≤ whole → {variables : List Val} {state : State} {m : Machine} → Agrees g st variables state m
      → Gives g whole left (frame at [] variables m.turns) state (having (value_of g.calls test (seen_by m) m.turns) m (λ holds turns. Moves (Then (branch (is_true holds) first None) ∷ frames) (with_turns turns m)))
  alone_gives test first {frames} {level} {at} {left} {st} h room {variables} {state} {m} agrees =
      let a = piece_of (scope_on g) first in
      let c = code_of g.around.context test in
      let ca = checked g.around first in
      let p = h.place in
      let k = opened_is st (branching g.around test ca None level.loop (outside st)) h.mid h.checked in
      let n = if_then (takes g.around (outside st) test type.Boolean) (met (outside st) (ca level.loop (outside st)) (Some (outside st))) k.0 k.1 in
      let l = met_is (outside st) (ca level.loop (outside st)) (Some (outside st)) k.0 n.1 in
      let q : Place = behind_piece p (of_code c) in
      let parts = laid_two g.code p.at c.size (c.from p.at) ((guarded 0 a).from q level.exits) (code_sized g.around.context test p.at) h.laid in
      let inside = agrees_below (outside_below st) agrees in
      let e : suc q.at ≡ q.at + 1 = omega arith in
      let there : IsLaid g.code (q.at + 1) (a.from (moved 1 q) level.exits) = subst (λ k. IsLaid g.code k (a.from (moved 1 q) level.exits)) e parts.1.1 in
      let f = h.few in
      let r = h.room in
      let z = length-append a.carried [] in
      let fi = h.first in
      let e1 : q.at + 1 + a.size ≡ p.at + (c.size + (a.size + 1)) = omega arith in
      let e2 : q.at + 1 + a.size + 0 ≡ p.at + (c.size + (a.size + 1)) = omega arith in
      let each : (b : Bool) (turns : ℕ) → value_of g.calls test (seen_by m) m.turns ≡ GivesValue (val.Bool b) turns → turns ≤ m.turns → Leads g.setting g.code c.size (frame p.at [] variables m.turns) state (frame q.at (val.Bool b ∷ []) variables turns) state
      → Gives g whole left (frame p.at [] variables m.turns) state (Moves (Then (branch b first None) ∷ frames) (with_turns turns m)) =
      λ b. elim b as (λ b. (turns : ℕ) → value_of g.calls test (seen_by m) m.turns ≡ GivesValue (val.Bool b) turns → turns ≤ m.turns → Leads g.setting g.code c.size (frame p.at [] variables m.turns) state (frame q.at (val.Bool b ∷ []) variables turns) state
      → Gives g whole left (frame p.at [] variables m.turns) state (Moves (Then (branch b first None) ∷ frames) (with_turns turns m))) [
        | false ↦ λ turns is less lead. record {
          gives = record {
            level = level;
            at = p.at + (c.size + (a.size + 1));
            standing = outside st;
            later = h.later;
            variables = variables;
            next = state;
            laid = record {
              goes_on = true;
              jump = 0;
              to = p.at + (c.size + (a.size + 1));
              next = h.mid;
              later = h.later;
              here = λ is. record {
                place = record { at = p.at + (c.size + (a.size + 1)); task = 0; variable = p.variable };
                is_at = refl;
                laid = tt;
                end = outside st;
                checked = refl;
                below = same_below (outside st) h.mid k.2;
                placed = refl;
                comes = (let e0 : p.at + (c.size + (a.size + 1)) + 0 ≡ p.at + (c.size + (a.size + 1)) = omega arith in e0);
                completes = λ z. refl;
                breaks = λ z. absurd (false≢true z);
                first = fi;
                room = omega arith;
              };
              few = omega arith;
              rest = h.rest;
            };
            within = omega arith;
            reaches = reaches_by g.setting g.code whole {n = c.size + 1} (omega arith) (omega arith) (leads_on g.setting g.code lead (leads_to g.setting g.code e2 (one_step g.setting g.code (instr.IfFalse (q.at + 1 + a.size + 0)) parts.1.0 refl (omega arith))));
            agrees = agrees_fewer turns less inside;
          };
        }
        | true ↦ λ turns is less lead. record {
          gives = record {
            level = level;
            at = q.at + 1;
            standing = outside st;
            later = a.size + 0 + h.later;
            variables = variables;
            next = state;
            laid = alone_laid (coded g whole) first frames level (moved 1 q) (outside st) l.0 true 0 (p.at + (c.size + (a.size + 1))) h.mid h.later (a.size + 0 + h.later) there l.2
                (grown_below st l.0 h.mid (checked_grows g.around first level.loop (outside st) l.0 l.2) k.2) (both_true (placing_of first).placed true h.is_placed).0 e1 (λ z. refl) h.breaks (omega arith) (omega arith) (omega arith) h.rest;
            within = omega arith;
            reaches = reaches_by g.setting g.code whole {n = c.size + 1} (omega arith) (omega arith) (leads_on g.setting g.code lead (leads_to g.setting g.code e (one_step g.setting g.code (instr.IfFalse (q.at + 1 + a.size + 0)) parts.1.0 refl (omega arith))));
            agrees = agrees_fewer turns less inside;
          };
        }
      ] in
      subst (λ x. Gives g whole left (frame x [] variables m.turns) state (having (value_of g.calls test (seen_by m) m.turns) m (λ holds turns. Moves (Then (branch (is_true holds) first None) ∷ frames) (with_turns turns m)))) h.is_at
      (tested_gives (value_of g.calls test (seen_by m) m.turns) (λ holds turns. Moves (Then (branch (is_true holds) first None) ∷ frames) (with_turns turns m)) refl (omega arith) room agrees.fields (evaluates_taken ground inside test type.Boolean p.at [] n.0 parts.0) each)
