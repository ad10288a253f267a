-- The labels of gathering accesses: the arguments are stored, each visit loads them, and ends in a part.
use Rattle.std.proofs.Common.{◌≡◌, refl, sym, ap, subst, ◌∙◌, ℕ, zero, suc, ◌+◌, ◌<◌, ◌≤◌, arith, true, false, ◌&&◌, List, [], ◌∷◌, ◌++◌, map, length, length-append, Option, Some, None, slice_get, ◌⊎◌, inl, inr}
use Rattle.std.specs.List.{range_with_len, flat_map}
use Rattle.std.proofs.lemmas.Bool.{false≢true}
use Rattle.sdg_base.specs.declared.value_type.ValueType.{ValueType}
use Rattle.sdg_base.specs.declared.value_type.ValueType.TheVariants as type
use Rattle.sdg_base.specs.Signatures.{Signature}
use Rattle.java_tree.specs.declared.method_kinds.MethodKind.TheVariants as source_kind
use Rattle.flat_code.specs.declared.graph.Instr.{Instr}
use Rattle.flat_code.specs.declared.graph.Instr.TheVariants as instr
use Rattle.flat_code.specs.declared.graph.VarType.{VarType}
use Rattle.flat_code.specs.Types.{type_by, type_of_variable}
use Rattle.flat_code.specs.Ways.{IsIn}
use Rattle.flat_code.specs.Verified.{Stack, without, on_top, with_result, pushing, stored_type, accessed_type, is_of_merge}
use Rattle.access_blocks.specs.declared.body.Expression.{Expression}
use Rattle.access_blocks.specs.declared.body.Gather.{Gather}
use Rattle.access_blocks.specs.declared.body.Holder.{Holder}
use Rattle.body_code.specs.Early.{is_in}
use Rattle.body_code.specs.Typing.{Context, Needs, needs, needs_of_all, type_of, types_of}
use Rattle.body_code.specs.ExpressionCode.{code_of, behind}
use Rattle.body_code.specs.StatementCode.{Place, Exits, Piece, behind_piece, then_piece, cut, stored_from, stored, var_type, arguments_of, visit, name_in}
use Rattle.body_code.specs.StatementCode as code
use Rattle.body_code.specs.Checking.{Surroundings, Standing, Around, Checking, with_known, outside, gathering, if_so, are_met, are_known, is_partial, takes_all, are_types, is_entry, takes_gathered, has_key}
use Rattle.body_code.specs.Checking as checking
use Rattle.verified_code.proofs.Labels.{Behind, Anything, Accessing, Label, label, Setting, Knows, MayRead, IsKnown, Stays, Eases, Takes, Suits, OfKind, InVisit, Visiting, ToVisit, Right, Good, Agrees, agrees_left, agrees_right, Begins, joined, Made}
use Rattle.verified_code.proofs.Making.{only_one, in_none, Follows, right_by, one, none, both, turning, turned}
use Rattle.verified_code.proofs.Making as making
use Rattle.verified_code.proofs.Typed.{none_some, some_is, is_value, are_values, pushed, without_pushed, one_off, and_left, and_right}
use Rattle.verified_code.proofs.Needed.{IsMet, is_met, met_left, met_right, and_both}
use Rattle.verified_code.proofs.Expressions.{Proper, Anywhere, behind_place, long_behind, long_both, with_is}
use Rattle.verified_code.proofs.Simple.{Whole, FieldMeets, scope, Leads, Carries, Pieced, so_is, known_more, still_known, now_known, TypedBy, value_made, value_long, anywhere, same_known, types_are}
use Rattle.verified_code.proofs.Control.{entry_is}

abbrev pub know_from : ℕ → List ValueType → Standing → Standing
know_from v [] st = st
know_from v (t ∷ ts) st = know_from (suc v) ts (with_known v st)

abbrev pub AllKnown : Standing → ℕ → List ValueType → Type 0
AllKnown st v [] = Unit {0}
AllKnown st v (t ∷ ts) = Knows st v × AllKnown st (suc v) ts

know_more : (v : ℕ) (ts : List ValueType) (st : Standing) (u : ℕ) → Knows st u → Knows (know_from v ts st) u
know_more v [] st u h = h
know_more v (t ∷ ts) st u h = know_more (suc v) ts (with_known v st) u (still_known u v st h)

all_known : (v : ℕ) (ts : List ValueType) (st : Standing) → AllKnown (know_from v ts st) v ts
all_known v [] st = tt
all_known v (t ∷ ts) st = (know_more (suc v) ts (with_known v st) v (now_known v st), all_known (suc v) ts (with_known v st))

field_from : (v : ℕ) (ts : List ValueType) (st : Standing) → ((know_from v ts st).field ≡ st.field) × ((know_from v ts st).gathered ≡ st.gathered)
field_from v [] st = (refl, refl)
field_from v (t ∷ ts) st = field_from (suc v) ts (with_known v st)

met_more : (around : Surroundings) (st : Standing) (v : ℕ) (n : Needs) → IsMet around st n → IsMet around (with_known v st) n
met_more around st v n h = record { known = more n.variables h.known; merges = h.merges; key = h.key }
  where
    more : (vs : List ℕ) → are_known st vs ≡ true → are_known (with_known v st) vs ≡ true
    more [] e = refl
    more (u ∷ vs) e = and_both (is_in u (with_known v st).known) (are_known (with_known v st) vs) (still_known u v st (and_left (is_in u st.known) (are_known st vs) e)) (more vs (and_right (is_in u st.known) (are_known st vs) e))

none_of : {A : Type 0} {o : Option A} → (o ≡ None) ⊎ (o ≡ None) → o ≡ None
none_of (inl e) = e
none_of (inr e) = e

module _ (s : Setting) (w : Whole s) where
  abbrev c : Context
  c = s.around.context

  abbrev Holds : List ValueType → ℕ → Type 0
  Holds [] v = Unit {0}
  Holds (t ∷ ts) v = (type_of_variable s.of v ≡ Some t) × Holds ts (suc v)

  shifted : (x : VarType) (xs : List VarType) (v : ℕ) → Carries s (x ∷ xs) v → Carries s xs (suc v)
  shifted x xs v h k t e = let place : v + suc k ≡ suc v + k = omega arith in subst (λ (n : ℕ). type_of_variable s.of n ≡ Some (type_by t)) place (h (suc k) t e)

  first_held : (x : VarType) (xs : List VarType) (v : ℕ) → Carries s (x ∷ xs) v → type_of_variable s.of v ≡ Some (type_by x)
  first_held x xs v h = let place : v + 0 ≡ v = omega arith in subst (λ (n : ℕ). type_of_variable s.of n ≡ Some (type_by x)) place (h 0 x refl)

  holds : (ts : List ValueType) (v : ℕ) → are_values ts ≡ true → Carries s (flat_map var_type ts) v → Holds ts v
  holds [] v e h = tt
  holds (type.Int ∷ ts) v e h = (first_held _ (flat_map var_type ts) v h, holds ts (suc v) e (shifted _ (flat_map var_type ts) v h))
  holds (type.Long ∷ ts) v e h = (first_held _ (flat_map var_type ts) v h, holds ts (suc v) e (shifted _ (flat_map var_type ts) v h))
  holds (type.Boolean ∷ ts) v e h = (first_held _ (flat_map var_type ts) v h, holds ts (suc v) e (shifted _ (flat_map var_type ts) v h))
  holds (type.Vector ∷ ts) v e h = (first_held _ (flat_map var_type ts) v h, holds ts (suc v) e (shifted _ (flat_map var_type ts) v h))
  holds (type.Void ∷ ts) v e h = absurd (false≢true e)

  -- ---- the arguments are stored

  pub stored_long : (xs : List Expression) (v at : ℕ) → length ((stored_from c xs v).from at) ≡ (stored_from c xs v).size
  stored_long [] v at = refl
  stored_long (x ∷ xs) v at = long_both s w.fit (behind (code_of c x) (instr.Store v)) (stored_from c xs (suc v)) (long_behind s w.fit (code_of c x) (instr.Store v) (value_long s w x)) (stored_long xs (suc v)) at

  pub stored_size : (xs : List Expression) (v u : ℕ) → (stored_from c xs v).size ≡ (stored_from c xs u).size
  stored_size [] v u = refl
  stored_size (x ∷ xs) v u = ap (λ (n : ℕ). (code_of c x).size + 1 + n) (stored_size xs (suc v) (suc u))

  carry_made : (at v : ℕ) (t : ValueType) (st : Standing) (r : ℕ) → type_of_variable s.of v ≡ Some t → is_value t ≡ true → Made s Anywhere at (instr.Store v ∷ []) st (on_top t []) (label (with_known v st) [] r)
  carry_made at v t st r is value =
      one s Anywhere at (instr.Store v) st (on_top t []) (label (with_known v st) [] r) refl
      (record {
        falls = omega arith;
        knows = λ u h. elim (known_more u v st h) [ inl k ↦ inl k | inr e ↦ inr (ap Some (sym e)) ];
        may_read = λ u h. absurd (in_none u h);
        stays = λ next h. record { field = inr refl; gathered = inr refl; visit = refl };
        takes = ap (λ o. stored_type o (on_top t [])) is ∙ one_off t [] value;
        kind = making.plain s (instr.Store v) refl refl;
      })
      (λ lab here. ap (λ (l : Label). l.visit) here)

  stored_made : (xs : List Expression) (ts : List ValueType) (v : ℕ) (st : Standing) → Proper s st → IsMet s.around st (needs_of_all xs) → types_of c xs ≡ Some ts → are_values ts ≡ true → Holds ts v → (at r : ℕ)
      → Made s Anywhere at ((stored_from c xs v).from at) st [] (label (know_from v ts st) [] r)
  stored_made [] ts v st proper met e values h at r = subst (λ (us : List ValueType). Made s Anywhere at [] st [] (label (know_from v us st) [] r)) (some_is {A = List ValueType} [] ts e) (none s Anywhere at st [] r)
  stored_made (x ∷ xs) [] v st proper met e values h at r = absurd (let k = with_is (type_of c x) (types_of c xs) [] e in let m = k.4 in cc)
  stored_made (x ∷ xs) (t ∷ ts) v st proper met e values h at r =
      let k = with_is (type_of c x) (types_of c xs) (t ∷ ts) e in
      let both_are = k.4 in
      let first : type_of c x ≡ Some t = k.2 ∙ (let m : k.0 ≡ t = cc in ap Some m) in
      let others : types_of c xs ≡ Some ts = k.3 ∙ (let m : k.1 ≡ ts = cc in ap Some m) in
      let met_first = met_left s.around st (needs x) (needs_of_all xs) met in
      let met_rest = met_more s.around st v (needs_of_all xs) (met_right s.around st (needs x) (needs_of_all xs) met) in
      let place = at + (code_of c x).size in
      let front = behind (code_of c x) (instr.Store v) in
      let next_at = at + front.size in
      let rest = stored_made xs ts (suc v) (with_known v st) proper met_rest others (and_right (is_value t) (are_values ts) values) h.1 next_at r in
      let storing = carry_made place v t st rest.rank h.0 (and_left (is_value t) (are_values ts) values) in
      let typed : TypedBy s.around st x t = record { met = met_first; typed = first } in
      let value = value_made s w x t st proper typed at [] storing.rank in
      let assigned = both s Anywhere at place ((code_of c x).from at) (instr.Store v ∷ []) st st [] (on_top t []) (label (with_known v st) [] rest.rank) (behind_place s w.fit (code_of c x) (value_long s w x) at) storing value in
      both s Anywhere at next_at (front.from at) ((stored_from c xs (suc v)).from next_at) st (with_known v st) [] [] (label (know_from (suc v) ts (with_known v st)) [] r)
      (behind_place s w.fit front (long_behind s w.fit (code_of c x) (instr.Store v) (value_long s w x)) at) rest assigned

  -- ---- a visit

  abbrev visiting : ℕ → Standing → Stack → ℕ → Label
  visiting part st stack rank = record { stack = stack; standing = st; visit = Some part; behind = Anything; rank = rank }

  abbrev parting : ℕ → Standing → Stack → ℕ → Label
  parting part st stack rank = record { stack = stack; standing = st; visit = Some part; behind = Accessing; rank = rank }

  abbrev visit_labels : ℕ → Standing → ValueType → ℕ → List ValueType → Stack → List Label
  visit_labels part st result r [] stack = visiting part st stack (r + 2) ∷ parting part st (on_top result []) (suc r) ∷ []
  visit_labels part st result r (t ∷ ts) stack = visiting part st stack (r + 2 + suc (length ts)) ∷ visit_labels part st result r ts (on_top t stack)

  visit_many : (part : ℕ) (st : Standing) (result : ValueType) (r : ℕ) (ts : List ValueType) (stack : Stack) → length (visit_labels part st result r ts stack) ≡ length ts + 2
  visit_many part st result r [] stack = refl
  visit_many part st result r (t ∷ ts) stack = let e = visit_many part st result r ts (on_top t stack) in omega (arith, e)

  visit_begins : (lab : ℕ → Label) (at part : ℕ) (st : Standing) (result : ValueType) (r : ℕ) (ts : List ValueType) (stack : Stack) → Agrees lab at (visit_labels part st result r ts stack) → lab at ≡ visiting part st stack (r + 2 + length ts)
  visit_begins lab at part st result r [] stack h = let e : r + 2 ≡ r + 2 + 0 = omega arith in h.0 ∙ ap (visiting part st stack) e
  visit_begins lab at part st result r (t ∷ ts) stack h = h.0

  visit_eases : (part : ℕ) (st : Standing) (stack : Stack) (r : ℕ) → Eases (visiting part st stack r) (visiting part st stack r)
  visit_eases part st stack r = record { stack = refl; known = λ v h. h; stays = record { field = inr refl; gathered = inr refl; visit = refl }; behind = refl; rank = omega arith }

  entry_kind : (i : Instr) → is_of_merge i ≡ false → s.around.kind ≡ source_kind.Entry → OfKind s i
  entry_kind i e entry = record { entry = λ h. entry; merge = λ h. absurd (false≢true (sym e ∙ h)) }

  module _ (g : Gather) (holder : Holder) (is_field : slice_get s.around.fields g.field ≡ Some holder) (partial : holder.is_partial ≡ true) (sig : Signature) (meets : FieldMeets s g.field g.method sig) (entry : s.around.kind ≡ source_kind.Entry) (st before : Standing) (grown : (v : ℕ) → Knows st v → Knows before v) where
    abbrev name : List ℕ
    name = name_in (slice_get s.graph.fields g.field)

    abbrev last_code : ℕ → List Instr
    last_code t = instr.Access name g.method ∷ instr.Part t ∷ []

    visit_good : (lab : ℕ → Label) (t part r : ℕ) (ts : List ValueType) (v at : ℕ) (stack : Stack) → part ≡ at + length ts + 1 → without sig.arguments (pushed ts stack) ≡ Some [] → Holds ts v → AllKnown before v ts
        → Agrees lab at (visit_labels part (outside before) sig.result r ts stack) → Eases (label (gathering sig.result st) [] r) (lab (suc part)) → Good s lab at (map instr.Load (range_with_len v (length ts)) ++ last_code t)
    visit_good lab t part r [] v at stack place taken held known agrees eases =
        let part_is : part ≡ suc at = omega (arith, place) in
        let here : visiting part (outside before) stack (r + 2) ≡ lab at = sym agrees.0 in
        let there : parting part (outside before) (on_top sig.result []) (suc r) ≡ lab (suc at) = sym agrees.1.0 in
        let behind : Eases (label (gathering sig.result st) [] r) (lab (suc (suc at))) = subst (λ (n : ℕ). Eases (label (gathering sig.result st) [] r) (lab (suc n))) part_is eases in
        let to : (P : Label → Type 0) (next : ℕ) → IsIn next (suc at ∷ []) → P (parting part (outside before) (on_top sig.result []) (suc r)) → P (lab next) =
        (λ P next h p. subst (λ (n : ℕ). P (lab n)) (sym (only_one next (suc at) h)) (subst P there p)) in
        let less : suc r < r + 2 = omega arith in
        let end : (next : ℕ) → IsIn next (suc (suc at) ∷ []) → Eases (label (gathering sig.result st) [] r) (lab next) = (λ next h. subst (λ (n : ℕ). Eases (label (gathering sig.result st) [] r) (lab n)) (sym (only_one next (suc (suc at)) h)) behind) in
        let accessing : Right s lab at (instr.Access name g.method) = record {
          after = on_top sig.result [];
          takes = subst (λ (l : Label). Takes s (instr.Access name g.method) l.stack (on_top sig.result [])) here (ap (λ o. accessed_type o stack) meets.of_graph ∙ ap (λ o. with_result sig.result o) taken);
          stacks = λ next h. to (λ l. l.stack ≡ on_top sig.result []) next h refl;
          ranks = λ next h no_turn. to (λ l. l.rank < (lab at).rank) next h (subst (λ (l : Label). suc r < l.rank) here less);
          knows = λ next h u k. inl (subst (λ (l : Label). Knows l.standing u) here (to (λ l. Knows l.standing u → Knows (outside before) u) next h (λ k. k) k));
          may_read = λ u h. absurd (in_none u h);
          jumps = λ next j. absurd j;
          stays = λ next h. to (λ l. Stays (lab at) l) next h (subst (λ (l : Label). Stays l (parting part (outside before) (on_top sig.result []) (suc r))) here (record { field = inr refl; gathered = inr refl; visit = refl }));
          own = InVisit g.field holder sig is_field partial (subst (λ (l : Label). l.visit ≡ Some (suc at)) here (ap Some part_is)) refl meets.of_graph (subst (λ (l : Label). l.stack ≡ on_top sig.result []) there refl) behind.stays.gathered;
          suits = subst (λ (l : Label). Suits (instr.Access name g.method) l.behind) there tt;
          kind = entry_kind (instr.Access name g.method) refl entry;
        } in
        let ending : Right s lab (suc at) (instr.Part t) = record {
          after = [];
          takes = refl;
          stacks = λ next h. (end next h).stack;
          ranks = λ next h no_turn. (let below : (lab next).rank ≤ r = (end next h).rank in subst (λ (l : Label). (lab next).rank < l.rank) there (omega (arith, below)));
          knows = λ next h u k. inl (subst (λ (l : Label). Knows l.standing u) there (grown u ((end next h).known u k)));
          may_read = λ u h. absurd (in_none u h);
          jumps = λ next j. absurd j;
          stays = λ next h. absurd (in_none next h);
          own = record {
            visit = subst (λ (l : Label). l.visit ≡ Some (suc at)) there (ap Some part_is);
            behind = subst (λ (l : Label). l.behind ≡ Accessing) there refl;
            plain = behind.stays.visit;
            no_field = none_of behind.stays.field;
          };
          suits = subst (λ (b : Behind). Suits (instr.Part t) b) (sym behind.behind) tt;
          kind = entry_kind (instr.Part t) refl entry;
        } in
        (accessing, (ending, tt))
    visit_good lab t part r (x ∷ ts) v at stack place taken held known agrees eases =
        let stack_after = on_top x stack in
        let rest = visit_good lab t part r ts (suc v) (suc at) stack_after (omega (arith, place)) taken held.1 known.1 agrees.1 eases in
        let next_is = visit_begins lab (suc at) part (outside before) sig.result r ts stack_after agrees.1 in
        let l = visiting part (outside before) stack (r + 2 + suc (length ts)) in
        let e = visiting part (outside before) stack_after (r + 2 + length ts) in
        let goes : Eases e (lab (suc at)) = subst (λ (z : Label). Eases e z) (sym next_is) (visit_eases part (outside before) stack_after (r + 2 + length ts)) in
        let step : Right s lab at (instr.Load v) =
        right_by s lab at (instr.Load v) l e agrees.0
        (record {
          falls = omega arith;
          knows = λ u h. inl h;
          may_read = λ u h. subst (λ (n : ℕ). MayRead s (outside before) n) (sym (only_one u v h)) (IsKnown known.0);
          stays = λ next h. record { field = inr refl; gathered = inr refl; visit = refl };
          takes = ap (λ o. pushing o (Some stack)) held.0;
          kind = making.plain s (instr.Load v) refl refl;
        })
        (λ next h. subst (λ (n : ℕ). Eases e (lab n)) (sym (only_one next (suc at) h)) goes)
        (Visiting part (ap (λ (z : Label). z.visit) agrees.0) (omega (arith, place))) goes.behind in
        let k : v + 1 ≡ suc v = omega arith in
        (step, subst (λ (n : ℕ). Good s lab (suc at) (map instr.Load (range_with_len n (length ts)) ++ last_code t)) (sym k) rest)

    labels_begin : (part r : ℕ) (ts : List ValueType) (stack : Stack) (after : Label) → Begins (visit_labels part (outside before) sig.result r ts stack) (visiting part (outside before) stack (r + 2 + length ts)) after
    labels_begin part r [] stack after = (let e : r + 2 + 0 ≡ r + 2 = omega arith in subst (λ (n : ℕ). Eases (visiting part (outside before) stack n) (visiting part (outside before) stack (r + 2))) (sym e) (visit_eases part (outside before) stack (r + 2)))
    labels_begin part r (t ∷ ts) stack after = visit_eases part (outside before) stack (r + 2 + suc (length ts))

    visit_made : (Out : (ℕ → Label) → Type 0) (at t u v : ℕ) (r : ℕ) → Holds sig.arguments v → AllKnown before v sig.arguments
        → Made s Out at (instr.Turn ∷ instr.Cut t ∷ (map instr.Load (range_with_len v (length sig.arguments)) ++ last_code u)) before [] (label (gathering sig.result st) [] r)
    visit_made Out at t u v r held known =
        let ts = sig.arguments in
        let k = suc (suc at) in
        let part = k + length ts + 1 in
        let e = visiting part (outside before) [] (r + 2 + length ts) in
        let vls = visit_labels part (outside before) sig.result r ts [] in
        let code_v = map instr.Load (range_with_len v (length ts)) ++ last_code u in
        let m = turned s Out at (instr.Cut t) before [] e refl
        (record { falls = omega arith; knows = λ w k. inl k; may_read = λ w k. absurd (in_none w k); stays = λ next k. absurd (in_none next k); takes = refl; kind = entry_kind (instr.Cut t) refl entry })
        (λ lab here behind. record {
          plain = ap (λ (l : Label). l.visit) here;
          turned = ap (λ (l : Label). l.behind) here;
          to = ToVisit g.field part holder is_field partial (ap (λ (l : Label). l.stack) here) behind.stays.visit (omega arith) (none_of behind.stays.field) (none_of behind.stays.gathered);
        }) in
        let above_m : r + 2 + length ts ≤ m.rank = m.above in
        let long_m = m.long in
        let many_labels = length-append m.labels vls in
        let many_visit = visit_many part (outside before) sig.result r ts [] in
        let long_code = code_long v ts u in
        record {
          rank = m.rank;
          above = omega (arith, above_m);
          labels = m.labels ++ vls;
          long = omega (arith, many_labels, many_visit, long_code, long_m);
          begins = joined m.labels vls (label before [] m.rank) e (label (gathering sig.result st) [] r) m.begins (labels_begin part r ts [] (label (gathering sig.result st) [] r));
          good = λ lab last last_is agrees eases out.
              (let own_m = agrees_left lab at m.labels vls agrees in
              let own_v : Agrees lab k vls = agrees_right lab at k m.labels vls (omega (arith, long_m)) agrees in
              let first = visit_begins lab k part (outside before) sig.result r ts [] own_v in
              let to_visit : Eases e (lab k) = subst (λ (z : Label). Eases e z) (sym first) (visit_eases part (outside before) [] (r + 2 + length ts)) in
              let last_of : last ≡ suc part = omega (arith, last_is, long_code) in
              let ends : Eases (label (gathering sig.result st) [] r) (lab (suc part)) = subst (λ (n : ℕ). Eases (label (gathering sig.result st) [] r) (lab n)) last_of eases in
              let good_m : Good s lab at (instr.Turn ∷ instr.Cut t ∷ []) = m.good lab k (omega arith) own_m to_visit out in
              let good_v : Good s lab k code_v = visit_good lab u part r ts v k [] (omega arith) (without_pushed ts [] meets.values) held known own_v ends in
              (good_m.0, (good_m.1.0, good_v)));
        }
      where
        code_long : (v : ℕ) (ts : List ValueType) (u : ℕ) → length (map instr.Load (range_with_len v (length ts)) ++ last_code u) ≡ length ts + 2
        code_long v [] u = refl
        code_long v (t ∷ ts) u = let e = code_long (v + 1) ts u in omega (arith, e)

  -- ---- the whole access

  pub record IsGathered (g : Gather) (o : Option Signature) (st after : Standing) : Type 0 where
    pub sig : Signature
    pub is : o ≡ Some sig
    pub entry : s.around.kind ≡ source_kind.Entry
    pub holder : Holder
    pub is_field : slice_get s.around.fields g.field ≡ Some holder
    pub partial : holder.is_partial ≡ true
    pub met : IsMet s.around st (needs_of_all g.args)
    pub typed : types_of c g.args ≡ Some sig.arguments
    pub after_is : gathering sig.result st ≡ after

  holder_is : (o : Option Holder) → is_partial o ≡ true → (h : Holder) × (o ≡ Some h) × (h.is_partial ≡ true)
  holder_is None e = absurd (false≢true e)
  holder_is (Some h) e = (h, refl, e)

  gathered_is : (g : Gather) (o : Option Signature) (st after : Standing) → checking.gather s.around g o st ≡ Some after → IsGathered g o st after
  gathered_is g None st after e = absurd (none_some after e)
  gathered_is g (Some sig) st after e =
      let a = is_entry s.around.kind in
      let b = is_partial (slice_get s.around.fields g.field) in
      let d = takes_all s.around st g.args sig.arguments in
      let k = so_is (a && (b && d)) (gathering sig.result st) after e in
      let rest = and_right a (b && d) k.0 in
      let needed = are_met s.around st (needs_of_all g.args) in
      let typed = are_types (types_of c g.args) sig.arguments in
      let args = and_right b d rest in
      let h = holder_is (slice_get s.around.fields g.field) (and_left b d rest) in
      record {
        sig = sig;
        is = refl;
        entry = entry_is s w s.around.kind (and_left a (b && d) k.0);
        holder = h.0;
        is_field = h.1;
        partial = h.2;
        met = is_met s.around st (needs_of_all g.args) (and_left needed typed args);
        typed = types_are (types_of c g.args) sig.arguments (and_right needed typed args);
        after_is = k.1;
      }

  types_many : (xs : List Expression) (ts : List ValueType) → types_of c xs ≡ Some ts → length xs ≡ length ts
  types_many [] ts e = ap length (some_is {A = List ValueType} [] ts e)
  types_many (x ∷ xs) ts e = let k = with_is (type_of c x) (types_of c xs) ts e in ap suc (types_many xs k.1 k.3) ∙ ap length k.4

  pub gather_done : (g : Gather) → Pieced s (code.gather (scope s) g) (λ exits st. checking.gather s.around g (checking.signature_of s.around g.field g.method) st)
  gather_done g = record {
    long = λ p to.
        (let first = stored c g.args in
        let cut_at = behind_piece p first in
        let visit_at = behind_piece cut_at cut in
        let e = stored_long g.args p.variable p.at in
        let f = stored_size g.args p.variable 0 in
        let n = loads_long visit_at.variable (length g.args) in
        let many = length-append (first.from p to) ((then_piece cut (visit (scope s) g)).from cut_at to) in
        let more = length-append (map instr.Load (range_with_len visit_at.variable (length g.args))) (instr.Access (code.field_name (scope s) g.field) g.method ∷ instr.Part visit_at.task ∷ []) in
        omega (arith, e, f, n, many, more));
    proper = λ exits st after proper e. (let k = gathered_is g (checking.signature_of s.around g.field g.method) st after e in inl k.entry);
    grows = λ exits st after e u h. (let k = gathered_is g (checking.signature_of s.around g.field g.method) st after e in same_known s w after (gathering k.sig.result st) k.after_is u h);
    made = λ exits st after proper e p to least r less carries placed.
        (let k = gathered_is g (checking.signature_of s.around g.field g.method) st after e in
        let meets = w.fields g.field g.method k.sig k.is in
        let Out = Leads exits to least in
        let first = stored c g.args in
        let cut_at = behind_piece p first in
        let visit_at = behind_piece cut_at cut in
        let ts = k.sig.arguments in
        let before = know_from p.variable ts st in
        let carried : Carries s (flat_map var_type ts) p.variable = subst (λ (o : Option Signature). Carries s (flat_map var_type (arguments_of o)) p.variable) meets.of_code carries in
        let held = holds ts p.variable meets.values carried in
        let v : p.variable ≡ visit_at.variable = omega arith in
        let many : length ts ≡ length g.args = sym (types_many g.args ts k.typed) in
        let visited = visit_made g k.holder k.is_field k.partial k.sig meets k.entry st before (know_more p.variable ts st) Out cut_at.at cut_at.task visit_at.task p.variable r held (all_known p.variable ts st) in
        let tail : List Instr = instr.Access (code.field_name (scope s) g.field) g.method ∷ instr.Part visit_at.task ∷ [] in
        let by_place : Made s Out cut_at.at (instr.Turn ∷ instr.Cut cut_at.task ∷ (map instr.Load (range_with_len visit_at.variable (length ts)) ++ tail)) before [] (label (gathering k.sig.result st) [] r) =
        subst (λ (n : ℕ). Made s Out cut_at.at (instr.Turn ∷ instr.Cut cut_at.task ∷ (map instr.Load (range_with_len n (length ts)) ++ tail)) before [] (label (gathering k.sig.result st) [] r)) v visited in
        let rest : Made s Out cut_at.at ((then_piece cut (visit (scope s) g)).from cut_at to) before [] (label (gathering k.sig.result st) [] r) =
        subst (λ (n : ℕ). Made s Out cut_at.at (instr.Turn ∷ instr.Cut cut_at.task ∷ (map instr.Load (range_with_len visit_at.variable n) ++ tail)) before [] (label (gathering k.sig.result st) [] r)) many by_place in
        let long = stored_long g.args p.variable p.at in
        let size = stored_size g.args p.variable 0 in
        subst (λ (z : Standing). Made s Out p.at ((code.gather (scope s) g).from p to) st [] (label z [] r)) k.after_is
        (both s Out p.at cut_at.at (first.from p to) ((then_piece cut (visit (scope s) g)).from cut_at to) st before [] [] (label (gathering k.sig.result st) [] r) (omega (arith, long, size)) rest
        (anywhere s w Out p.at (first.from p to) st [] (label before [] rest.rank) (stored_made g.args ts p.variable st proper k.met k.typed meets.values held p.at rest.rank))));
  }
    where
      loads_long : (v n : ℕ) → length (map instr.Load (range_with_len v n)) ≡ n
      loads_long v zero = refl
      loads_long v (suc n) = ap suc (loads_long (v + 1) n)
