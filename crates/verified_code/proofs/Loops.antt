-- The labels of loops: a way back spends a turn.
use Rattle.std.proofs.Common.{◌≡◌, refl, sym, subst, ◌∙◌, ℕ, suc, ◌+◌, ◌≤◌, arith, true, ◌&&◌, List, [], ◌∷◌, ◌++◌, length, length-append, Option, Some, None, ◌⊎◌, inl, inr}
use Rattle.sdg_base.specs.declared.value_type.ValueType.TheVariants as type
use Rattle.flat_code.specs.declared.graph.Instr.{Instr}
use Rattle.flat_code.specs.declared.graph.Instr.TheVariants as instr
use Rattle.access_blocks.specs.declared.body.Expression.{Expression}
use Rattle.body_code.specs.Typing.{Context}
use Rattle.body_code.specs.ExpressionCode.{code_of, behind}
use Rattle.body_code.specs.StatementCode.{Place, Exits, Piece, behind_piece, of_instructions, in_order, tested, pass, next_pass, passes, looped}
use Rattle.body_code.specs.Checking.{Surroundings, Standing, Around, Checking, after_compound, is_condition, ends_as, passing, looping, takes}
use Rattle.body_code.specs.Checking as checking
use Rattle.verified_code.proofs.Labels.{Anything, Label, label, Setting, Knows, Eases, eases_on, same_eases, Good, Agrees, good_both, agrees_left, agrees_right, begins_with, joined, Made}
use Rattle.verified_code.proofs.Making.{none, both, jump, test}
use Rattle.verified_code.proofs.Typed.{and_left, and_right}
use Rattle.verified_code.proofs.Firsts.{no_part_both, Placed, placed_left, placed_right, Headed, tested_first}
use Rattle.verified_code.proofs.Expressions.{Proper, Anywhere, behind_place}
use Rattle.verified_code.proofs.Simple.{Whole, scope, Leads, Carries, Pieced, so_is, Covers, covered, takes_is, value_made, value_long, anywhere, same_standing, same_known}
use Rattle.verified_code.proofs.Control.{turn_right, carries_left, carries_right, ends_is, compound_covers, next_of_is}
use Rattle.verified_code.proofs.Making as making

module _ (s : Setting) (w : Whole s) where
  abbrev c : Context
  c = s.around.context

  abbrev Leaves : Standing → ℕ → ℕ → (ℕ → Label) → Type 0
  Leaves st r end lab = Eases (label st [] r) (lab end)

  abbrev Goes : Standing → ℕ → ℕ → ℕ → (ℕ → Label) → Type 0
  Goes st r end again lab = Eases (label st [] r) (lab end) × Eases (label st [] r) (lab again)

  loop_made : (Out : (ℕ → Label) → Type 0) (at turn_at body_at update_at jump_at end again : ℕ) (T B U : List Instr) (st after : Standing) (r : ℕ)
      → turn_at ≡ at + length T → body_at ≡ suc turn_at → update_at ≡ body_at + length B → jump_at ≡ update_at + length U → end ≡ suc jump_at → (again ≡ at) ⊎ (again ≡ update_at) → Covers st after
      → (t : Made s (Leaves st r end) at T st [] (label st [] r)) (u : Made s Anywhere update_at U st [] (label st [] (suc t.rank))) → Made s (Goes st u.rank end again) body_at B st [] (label st [] u.rank)
      → Made s Out at (T ++ (instr.Turn ∷ (B ++ (U ++ (instr.Jump at ∷ []))))) st [] (label after [] r)
  loop_made Out at turn_at body_at update_at jump_at end again T B U st after r turn_is body_is update_is jump_is end_of again_is covers t u b =
      let turn_label = label st [] r in
      let jump_label = label st [] (suc t.rank) in
      let above_t : r ≤ t.rank = t.above in
      let above_u : suc t.rank ≤ u.rank = u.above in
      let long_t = t.long in
      let long_u = u.long in
      let long_b = b.long in
      let code_u = U ++ (instr.Jump at ∷ []) in
      let code_b = B ++ code_u in
      let labels_u = u.labels ++ (jump_label ∷ []) in
      let labels_b = b.labels ++ labels_u in
      let many_u = length-append U (instr.Jump at ∷ []) in
      let many_b = length-append B code_u in
      let many_t = length-append T (instr.Turn ∷ code_b) in
      let many_labels_u = length-append u.labels (jump_label ∷ []) in
      let many_labels_b = length-append b.labels labels_u in
      let many_labels_t = length-append t.labels (turn_label ∷ labels_b) in
      record {
        rank = t.rank;
        above = above_t;
        labels = t.labels ++ (turn_label ∷ labels_b);
        long = omega (arith, long_t, long_u, long_b, many_u, many_b, many_t, many_labels_u, many_labels_b, many_labels_t);
        begins = joined t.labels (turn_label ∷ labels_b) (label st [] t.rank) turn_label (label after [] r) t.begins (same_eases st [] r r (omega arith));
        good = λ lab last last_is agrees eases out.
            (let last_end : last ≡ end = omega (arith, last_is, many_u, many_b, many_t, turn_is, body_is, update_is, jump_is, end_of) in
            let own_t = agrees_left lab at t.labels (turn_label ∷ labels_b) agrees in
            let rest = agrees_right lab at turn_at t.labels (turn_label ∷ labels_b) (omega (arith, turn_is, long_t)) agrees in
            let at_body : Agrees lab body_at labels_b = subst (λ (n : ℕ). Agrees lab n labels_b) (sym body_is) rest.1 in
            let own_b = agrees_left lab body_at b.labels labels_u at_body in
            let at_update = agrees_right lab body_at update_at b.labels labels_u (omega (arith, update_is, long_b)) at_body in
            let own_u = agrees_left lab update_at u.labels (jump_label ∷ []) at_update in
            let at_jump = agrees_right lab update_at jump_at u.labels (jump_label ∷ []) (omega (arith, jump_is, long_u)) at_update in
            let leaves : Eases (label st [] r) (lab end) = eases_on (covered st after [] r r (omega arith) covers) (subst (λ (n : ℕ). Eases (label after [] r) (lab n)) last_end eases) in
            let to_turn : Eases turn_label (lab turn_at) = subst (λ (l : Label). Eases turn_label l) (sym rest.0) (same_eases st [] r r (omega arith)) in
            let to_start = begins_with lab at turn_at t.labels st [] t.rank turn_label t.begins (omega (arith, turn_is, long_t)) own_t to_turn in
            let to_jump : Eases jump_label (lab jump_at) = subst (λ (l : Label). Eases jump_label l) (sym at_jump.0) (same_eases st [] (suc t.rank) (suc t.rank) (omega arith)) in
            let to_update = begins_with lab update_at jump_at u.labels st [] u.rank jump_label u.begins (omega (arith, jump_is, long_u)) own_u to_jump in
            let to_body = begins_with lab body_at update_at b.labels st [] b.rank (label st [] u.rank) b.begins (omega (arith, update_is, long_b)) own_b to_update in
            let leaves_body : Eases (label st [] u.rank) (lab end) = eases_on (same_eases st [] r u.rank (omega (arith, above_t, above_u))) leaves in
            let goes_again : Eases (label st [] u.rank) (lab again) = elim again_is [
              | inl first ↦ subst (λ (n : ℕ). Eases (label st [] u.rank) (lab n)) (sym first) (eases_on (same_eases st [] t.rank u.rank (omega (arith, above_u))) to_start)
              | inr second ↦ subst (λ (n : ℕ). Eases (label st [] u.rank) (lab n)) (sym second) to_update
            ] in
            let good_t = t.good lab turn_at turn_is own_t to_turn leaves in
            let good_b = b.good lab update_at update_is own_b to_update (leaves_body, goes_again) in
            let good_u = u.good lab jump_at jump_is own_u to_jump tt in
            let turn = turn_right s lab turn_at st r b.rank rest.0 (subst (λ (n : ℕ). Eases (label st [] b.rank) (lab n)) body_is to_body) in
            let back = jump s lab jump_at at st [] t.rank at_jump.0 to_start (subst (λ (n : ℕ). (lab n).behind ≡ Anything) end_of leaves.behind) in
            let from_update = good_both s lab update_at jump_at U (instr.Jump at ∷ []) jump_is good_u (back, tt) in
            let from_body = good_both s lab body_at update_at B code_u update_is good_b from_update in
            good_both s lab at turn_at T (instr.Turn ∷ code_b) turn_is good_t (turn, subst (λ (n : ℕ). Good s lab n code_b) body_is from_body));
      }

  -- ---- the test

  leave : (at end : ℕ) (st : Standing) (r : ℕ) → Made s (Leaves st r end) at (instr.IfFalse end ∷ []) st (type.Boolean ∷ []) (label st [] r)
  leave at end st r = record {
    rank = suc r;
    above = omega arith;
    labels = label st (type.Boolean ∷ []) (suc r) ∷ [];
    long = refl;
    begins = same_eases st (type.Boolean ∷ []) (suc r) (suc r) (omega arith);
    good = λ lab last last_is agrees eases out.
        (let here : last ≡ suc at = omega (arith, last_is) in
        (test s lab at end st [] r agrees.0 (subst (λ (n : ℕ). Eases (label st [] r) (lab n)) here eases) out, tt));
  }

  tested_made : (x : Option Expression) (st : Standing) → Proper s st → is_condition s.around st x ≡ true → (p : Place) (to : Exits) (r : ℕ) → Made s (Leaves st r to.break_to) p.at ((tested c x).from p to) st [] (label st [] r)
  tested_made None st proper e p to r = none s (Leaves st r to.break_to) p.at st [] r
  tested_made (Some x) st proper e p to r =
      let place = p.at + (code_of c x).size in
      let last = leave place to.break_to st r in
      both s (Leaves st r to.break_to) p.at place ((code_of c x).from p.at) (instr.IfFalse to.break_to ∷ []) st st [] (type.Boolean ∷ []) (label st [] r) (behind_place s w.fit (code_of c x) (value_long s w x) p.at) last
      (anywhere s w (Leaves st r to.break_to) p.at ((code_of c x).from p.at) st [] (label st (type.Boolean ∷ []) last.rank) (value_made s w x type.Boolean st proper (takes_is s.around st x type.Boolean e) p.at [] last.rank))

  tested_long : (x : Option Expression) (p : Place) (to : Exits) → length ((tested c x).from p to) ≡ (tested c x).size
  tested_long None p to = refl
  tested_long (Some x) p to = let e = value_long s w x p.at in let many = length-append ((code_of c x).from p.at) (instr.IfFalse to.break_to ∷ []) in omega (arith, e, many)

  -- ---- the whole loop

  pub record IsPassed (st : Standing) (x : Option Expression) (update : List Checking) (body : Checking) (start after : Standing) : Type 0 where
    pub tested : is_condition s.around start x ≡ true
    pub body_end : Standing
    pub is_body : body (Some start) start ≡ Some body_end
    pub body_covers : Covers body_end start
    pub update_end : Standing
    pub is_update : checking.in_order update None start ≡ Some update_end
    pub update_covers : Covers update_end start
    pub after_is : after_compound st start ≡ after

  pub passed_is : (st : Standing) (x : Option Expression) (update : List Checking) (body : Checking) (start after : Standing) → passing s.around st x update body start ≡ Some after → IsPassed st x update body start after
  passed_is st x update body start after e =
      let a = is_condition s.around start x in
      let b = ends_as start (body (Some start) start) in
      let d = ends_as start (checking.in_order update None start) in
      let k = so_is (a && (b && d)) (after_compound st start) after e in
      let rest = and_right a (b && d) k.0 in
      let m = ends_is start (body (Some start) start) (and_left b d rest) in
      let n = ends_is start (checking.in_order update None start) (and_right b d rest) in
      record { tested = and_left a (b && d) k.0; body_end = m.0; is_body = m.1; body_covers = m.2; update_end = n.0; is_update = n.1; update_covers = n.2; after_is = k.1 }

  again_is : (at behind : ℕ) (update : List Piece) → (next_pass at behind update ≡ at) ⊎ (next_pass at behind update ≡ behind)
  again_is at behind [] = inl refl
  again_is at behind (u ∷ us) = inr refl

  either_place : (n at behind other : ℕ) → behind ≡ other → (n ≡ at) ⊎ (n ≡ behind) → (n ≡ at) ⊎ (n ≡ other)
  either_place n at behind other e (inl h) = inl h
  either_place n at behind other e (inr h) = inr (h ∙ e)

  module _ (x : Option Expression) (update : List Piece) (update_checks : List Checking) (body : Piece) (body_check : Checking) (headed : Headed (in_order update)) (u : Pieced s (in_order update) (checking.in_order update_checks)) (b : Pieced s body body_check) where
    abbrev turn_piece : Piece
    turn_piece = of_instructions (instr.Turn ∷ [])

    passes_long : (p : Place) (to : Exits) → length ((passes c x update body).from p to) ≡ (passes c x update body).size
    passes_long p to =
        let exits : Exits = record { break_to = p.at + (pass c x update body 0).size; continue_to = next_pass p.at (p.at + (tested c x).size + 1 + body.size) update } in
        let turn_at = behind_piece p (tested c x) in
        let body_at = behind_piece turn_at turn_piece in
        let update_at = behind_piece body_at body in
        let e = tested_long x p exits in
        let f = b.long body_at exits in
        let g = u.long update_at exits in
        let code_u = (in_order update).from update_at exits ++ (instr.Jump p.at ∷ []) in
        let many_u = length-append ((in_order update).from update_at exits) (instr.Jump p.at ∷ []) in
        let many_b = length-append (body.from body_at exits) code_u in
        let many = length-append ((tested c x).from p exits) (instr.Turn ∷ (body.from body_at exits ++ code_u)) in
        omega (arith, e, f, g, many_u, many_b, many)

    passes_made : (Out : (ℕ → Label) → Type 0) (st start after : Standing) → Proper s start → IsPassed st x update_checks body_check start after → ((v : ℕ) → Knows st v → Knows start v) → (p : Place) (to : Exits) (r : ℕ) → Carries s (passes c x update body).carried p.variable → Placed s p.at ((passes c x update body).from p to)
        → Made s Out p.at ((passes c x update body).from p to) start [] (label after [] r)
    passes_made Out st start after proper h grows p to r carries placed =
        let exits : Exits = record { break_to = p.at + (pass c x update body 0).size; continue_to = next_pass p.at (p.at + (tested c x).size + 1 + body.size) update } in
        let turn_at = behind_piece p (tested c x) in
        let body_at = behind_piece turn_at turn_piece in
        let update_at = behind_piece body_at body in
        let e = tested_long x p exits in
        let f = b.long body_at exits in
        let g = u.long update_at exits in
        let jump_at = update_at.at + (in_order update).size in
        let v : p.variable ≡ body_at.variable = variables x p in
        let rest : Carries s (body.carried ++ ((in_order update).carried ++ [])) body_at.variable = subst (λ (n : ℕ). Carries s (body.carried ++ ((in_order update).carried ++ [])) n) v (carried x p.variable carries) in
        let B = body.from body_at exits in
        let U = (in_order update).from update_at exits in
        let J : List Instr = instr.Jump p.at ∷ [] in
        let turn_placed = placed_right s p.at turn_at.at ((tested c x).from p exits) (instr.Turn ∷ (B ++ (U ++ J))) (omega (arith, e)) placed in
        let body_placed = placed_right s turn_at.at body_at.at (instr.Turn ∷ []) (B ++ (U ++ J)) (omega arith) turn_placed in
        let update_placed = placed_right s body_at.at update_at.at B (U ++ J) (omega (arith, f)) body_placed in
        let t = tested_made x start proper h.tested p exits r in
        let u_made = making.eased s Anywhere update_at.at ((in_order update).from update_at exits) start [] (label h.update_end [] (suc t.rank)) (label start [] (suc t.rank))
        (u.made None start h.update_end proper h.is_update update_at exits 0 (suc t.rank) (omega arith) (carries_left s (in_order update).carried [] update_at.variable (carries_right s body.carried ((in_order update).carried ++ []) body_at.variable rest)) (placed_left s update_at.at U J tt update_placed))
        (covered h.update_end start [] (suc t.rank) (suc t.rank) (omega arith) h.update_covers) in
        let b_made = making.eased s (Goes start u_made.rank exits.break_to exits.continue_to) body_at.at (body.from body_at exits) start [] (label h.body_end [] u_made.rank) (label start [] u_made.rank)
        (b.made (Some start) start h.body_end proper h.is_body body_at exits u_made.rank u_made.rank (omega arith) (carries_left s body.carried ((in_order update).carried ++ []) body_at.variable rest)
        (placed_left s body_at.at B (U ++ J) (no_part_both U J (headed update_at exits) tt) body_placed))
        (covered h.body_end start [] u_made.rank u_made.rank (omega arith) h.body_covers) in
        let end_of : exits.break_to ≡ suc jump_at = omega arith in
        let behind_body : p.at + (tested c x).size + 1 + body.size ≡ update_at.at = omega arith in
        subst (λ (z : Standing). Made s Out p.at ((passes c x update body).from p to) start [] (label z [] r)) h.after_is
        (loop_made Out p.at turn_at.at body_at.at update_at.at jump_at exits.break_to exits.continue_to ((tested c x).from p exits) (body.from body_at exits) ((in_order update).from update_at exits) start (after_compound st start) r
        (omega (arith, e)) (omega arith) (omega (arith, f)) (omega (arith, g)) end_of (either_place exits.continue_to p.at (p.at + (tested c x).size + 1 + body.size) update_at.at behind_body (again_is p.at (p.at + (tested c x).size + 1 + body.size) update))
        (compound_covers s w st start grows) t u_made b_made)
      where
        variables : (x : Option Expression) (p : Place) → p.variable ≡ (behind_piece (behind_piece p (tested c x)) turn_piece).variable
        variables None p = omega arith
        variables (Some x) p = omega arith

        carried : (x : Option Expression) (v : ℕ) → Carries s (passes c x update body).carried v → Carries s (body.carried ++ ((in_order update).carried ++ [])) v
        carried None v h = h
        carried (Some x) v h = h

    passes_headed : Headed (passes c x update body)
    passes_headed p to =
        let exits : Exits = record { break_to = p.at + (pass c x update body 0).size; continue_to = next_pass p.at (p.at + (tested c x).size + 1 + body.size) update } in
        no_part_both ((tested c x).from p exits) ((in_order (turn_piece ∷ body ∷ in_order update ∷ of_instructions (instr.Jump p.at ∷ []) ∷ [])).from (behind_piece p (tested c x)) exits) ((tested_first (scope s) x).head p exits) tt

    pub loop_done : (start : List Piece) (start_checks : List Checking) → Pieced s (in_order start) (checking.in_order start_checks) → Pieced s (looped c start x update body) (looping s.around start_checks x update_checks body_check)
    loop_done start start_checks a =
        let first = in_order start in
        let second = passes c x update body in
        record {
          long = λ p to. (let e = a.long p to in let f = passes_long (behind_piece p first) to in let many = length-append (first.from p to) (second.from (behind_piece p first) to) in omega (arith, e, f, many));
          proper = λ exits st after proper e.
              (let m = next_of_is (passing s.around st x update_checks body_check) (checking.in_order start_checks None st) after e in
              let h = passed_is st x update_checks body_check m.0 after m.2 in
              same_standing s w after (after_compound st m.0) h.after_is (a.proper None st m.0 proper m.1));
          grows = λ exits st after e v known.
              (let m = next_of_is (passing s.around st x update_checks body_check) (checking.in_order start_checks None st) after e in
              let h = passed_is st x update_checks body_check m.0 after m.2 in
              same_known s w after (after_compound st m.0) h.after_is v known);
          made = λ exits st after proper e p to least r less carries placed.
              (let m = next_of_is (passing s.around st x update_checks body_check) (checking.in_order start_checks None st) after e in
              let h = passed_is st x update_checks body_check m.0 after m.2 in
              let Out = Leads exits to least in
              let behind = behind_piece p first in
              let long = a.long p to in
              let rest = passes_made Out st m.0 after (a.proper None st m.0 proper m.1) h (a.grows None st m.0 m.1) behind to r (carries_right s first.carried second.carried p.variable carries)
              (placed_right s p.at behind.at (first.from p to) (second.from behind to) (omega (arith, long)) placed) in
              both s Out p.at behind.at (first.from p to) (second.from behind to) st m.0 [] [] (label after [] r) (omega (arith, long)) rest
              (anywhere s w Out p.at (first.from p to) st [] (label m.0 [] rest.rank) (a.made None st m.0 proper m.1 p to 0 rest.rank (omega arith) (carries_left s first.carried second.carried p.variable carries)
              (placed_left s p.at (first.from p to) (second.from behind to) (passes_headed behind to) placed))));
        }
