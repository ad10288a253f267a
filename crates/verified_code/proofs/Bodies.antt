-- The whole code of a typed body has labels, and no way leaves it.
use Rattle.std.proofs.Common.{◌≡◌, refl, sym, ap, subst, ◌∙◌, ℕ, zero, suc, ◌+◌, ◌<◌, ◌≤◌, arith, Bool, true, false, cond, List, [], ◌∷◌, ◌++◌, map, length, length-append, drop, append_assoc, Option, Some, None, slice_get, ◌⊎◌, inl, inr}
use Rattle.std.specs.Prelude.{nat_eq, pos, ◌||◌}
use Rattle.std.specs.List.{flat_map, list_any, range_with_len}
use Rattle.std.proofs.lemmas.Bool.{false≢true, eqb-true, eq-eqb}
use Rattle.std.proofs.lemmas.List.{drop_at}
use Rattle.sdg_base.specs.declared.value_type.ValueType.{ValueType}
use Rattle.sdg_base.specs.declared.value_type.ValueType.TheVariants as type
use Rattle.java_tree.specs.declared.tree.Class.{Class}
use Rattle.java_tree.specs.declared.tree.Method.{Method}
use Rattle.java_tree.specs.declared.method_kinds.MethodKind.{MethodKind}
use Rattle.java_tree.specs.declared.method_kinds.MethodKind.TheVariants as source_kind
use Rattle.java_tree.specs.declared.types.ValueType.{ValueType as VariableType}
use Rattle.java_tree.specs.declared.types.ValueType.TheVariants as variable
use Rattle.flat_code.specs.declared.graph.Instr.{Instr}
use Rattle.flat_code.specs.declared.graph.Instr.TheVariants as instr
use Rattle.flat_code.specs.declared.graph.Task.{Task}
use Rattle.flat_code.specs.declared.graph.VarType.{VarType}
use Rattle.flat_code.specs.declared.graph.VariableType.TheVariants.{One}
use Rattle.flat_code.specs.Types.{one_type, in_variable}
use Rattle.flat_code.specs.Ways.{IsIn, next_of, reads, writes}
use Rattle.flat_code.specs.Verified.{Stack, on_top, IsJumpTo}
use Rattle.access_blocks.specs.declared.body.Body.{Body}
use Rattle.access_blocks.specs.declared.body.Program.{Program}
use Rattle.body_code.specs.Early.{is_in, early, all_of, assigned_in}
use Rattle.body_code.specs.Typing.{variable_type, variable_type_in}
use Rattle.body_code.specs.Typing as typing
use Rattle.body_code.specs.Completing.{body_completes}
use Rattle.body_code.specs.ClassCode.{var_type_by, start_code, start_of, set_at_start, started, body_place, no_exits, is_jump_to, ending, body_piece, one_of, variables_of, result_type}
use Rattle.body_code.specs.Checking.{Standing, with_known, known_parameters, at_start, is_void, IsTypedBody, IsTyped}
use Rattle.verified_code.proofs.Labels.{Anything, Turning, Label, label, Setting, Knows, Eases, same_eases, Own, Takes, OfKind, AtAccess, InBlock, InVisit, AtCut, ToBlock, ToVisit, AtLoad, Plainly, Visiting, Right, Good, Agrees, begins_with, Made}
use Rattle.verified_code.proofs.Making.{in_none, only_one, one_or_other, Follows, one, last, none, both, jump}
use Rattle.verified_code.proofs.Making as making
use Rattle.verified_code.proofs.Typed.{none_some, some_is}
use Rattle.verified_code.proofs.Firsts.{NoPart, Placed}
use Rattle.verified_code.proofs.Expressions.{Anywhere}
use Rattle.verified_code.proofs.Simple.{Whole, Carries, Covers, still_known, now_known, store_made, void_takes, or_is}
use Rattle.verified_code.proofs.Control.{get_right, from_more, turn_right}
use Rattle.verified_code.proofs.Statements.{statements_done}
use Rattle.verified_code.proofs.Classes.{setting, whole, own, fields, cs}
use Rattle.verified_code.proofs.Early.{HasType, AllHave, early_have, statements_typed}
use Rattle.verified_code.proofs.Stopping.{Ends, Stops, stops_behind, statements_halt}

abbrev pub at_first : Body → Standing
at_first b = record { known = known_parameters b.kind b.arity; field = None; gathered = None }

abbrev pub know : List ℕ → Standing → Standing
know [] st = st
know (v ∷ vs) st = know vs (with_known v st)

know_kept : (vs : List ℕ) (st : Standing) (v : ℕ) → Knows st v → Knows (know vs st) v
know_kept [] st v h = h
know_kept (u ∷ vs) st v h = know_kept vs (with_known u st) v (still_known v u st h)

know_has : (vs : List ℕ) (st : Standing) (v : ℕ) → is_in v vs ≡ true → Knows (know vs st) v
know_has [] st v h = absurd (false≢true h)
know_has (u ∷ vs) st v h = elim (or_is (nat_eq v u) (is_in v vs) h) [
  | inl e ↦ know_kept vs (with_known u st) v (subst (λ (n : ℕ). Knows (with_known n st) v) (eqb-true v u e) (now_known v st))
  | inr later ↦ know_has vs (with_known u st) v later
]

in_both : (v : ℕ) (xs ys : List ℕ) → is_in v (xs ++ ys) ≡ true → (is_in v xs ≡ true) ⊎ (is_in v ys ≡ true)
in_both v [] ys h = inr h
in_both v (x ∷ xs) ys h = by (nat_eq v x) (in_both v xs ys) h
  where
    by : (b : Bool) → (is_in v (xs ++ ys) ≡ true → (is_in v xs ≡ true) ⊎ (is_in v ys ≡ true)) → (b || is_in v (xs ++ ys)) ≡ true → ((b || is_in v xs) ≡ true) ⊎ (is_in v ys ≡ true)
    by true more h = inl refl
    by false more h = more h

know_plain : (vs : List ℕ) (st : Standing) → ((know vs st).field ≡ st.field) × ((know vs st).gathered ≡ st.gathered)
know_plain [] st = (refl, refl)
know_plain (v ∷ vs) st = know_plain vs (with_known v st)

first_covers : (b : Body) → Covers (know (early b) (at_first b)) (at_start b)
first_covers b = record {
  known = λ v h. elim (in_both v (known_parameters b.kind b.arity) (early b) h) [ inl k ↦ know_kept (early b) (at_first b) v k | inr k ↦ know_has (early b) (at_first b) v k ];
  field = inl refl;
  gathered = inl refl;
}

variable_slot : (members : Option ValueType) (vs : List VariableType) (v : ℕ) (t : ValueType) → variable_type_in members vs v ≡ Some t → (u : VariableType) × (slice_get vs v ≡ Some u) × (typing.type_by u ≡ t)
variable_slot None vs v t e = by (slice_get vs v) e
  where
    by : (o : Option VariableType) → typing.one_type o ≡ Some t → (u : VariableType) × (o ≡ Some u) × (typing.type_by u ≡ t)
    by None e = absurd (none_some t e)
    by (Some u) e = (u, refl, some_is (typing.type_by u) t e)
variable_slot (Some m) vs zero t e = absurd (none_some t e)
variable_slot (Some m) vs (suc v) t e = by (slice_get vs (suc v)) e
  where
    by : (o : Option VariableType) → typing.one_type o ≡ Some t → (u : VariableType) × (o ≡ Some u) × (typing.type_by u ≡ t)
    by None e = absurd (none_some t e)
    by (Some u) e = (u, refl, some_is (typing.type_by u) t e)

-- ---- labels by number

abbrev pub far : Label
far = record { stack = []; standing = record { known = []; field = None; gathered = None }; visit = None; behind = Turning; rank = 0 }

abbrev pub look : List Label → ℕ → Label
look [] n = far
look (l ∷ ls) zero = l
look (l ∷ ls) (suc n) = look ls n

look_front : (ls : List Label) (e : Label) (n : ℕ) (l : Label) → slice_get ls n ≡ Some l → look (ls ++ e ∷ []) n ≡ l
look_front [] e n l h = absurd (none_some l h)
look_front (x ∷ ls) e zero l h = some_is x l h
look_front (x ∷ ls) e (suc n) l h = look_front ls e n l h

look_end : (ls : List Label) (e : Label) → look (ls ++ e ∷ []) (length ls) ≡ e
look_end [] e = refl
look_end (x ∷ ls) e = look_end ls e

look_far : (ls : List Label) (e : Label) (n : ℕ) → length ls < n → look (ls ++ e ∷ []) n ≡ far
look_far [] e zero h = absurd (omega (arith, h))
look_far [] e (suc n) h = refl
look_far (x ∷ ls) e zero h = absurd (omega (arith, h))
look_far (x ∷ ls) e (suc n) h = look_far ls e n (omega (arith, h))

agrees_by : (lab : ℕ → Label) (at : ℕ) (ls : List Label) → ((k : ℕ) (l : Label) → slice_get ls k ≡ Some l → lab (at + k) ≡ l) → Agrees lab at ls
agrees_by lab at [] h = tt
agrees_by lab at (l ∷ ls) h =
    let here : at + 0 ≡ at = omega arith in
    (subst (λ (n : ℕ). lab n ≡ l) here (h 0 l refl), agrees_by lab (suc at) ls (λ k x e. (let place : at + suc k ≡ suc at + k = omega arith in subst (λ (n : ℕ). lab n ≡ x) place (h (suc k) x e))))

right_at : (s : Setting) (lab : ℕ → Label) (at : ℕ) (code : List Instr) (k place : ℕ) (i : Instr) → place ≡ at + k → Good s lab at code → slice_get code k ≡ Some i → Right s lab place i
right_at s lab at [] k place i p h e = absurd (none_some i e)
right_at s lab at (x ∷ code) zero place i p h e = (let here : at ≡ place = omega (arith, p) in subst (λ (n : ℕ). Right s lab n i) here (subst (λ (z : Instr). Right s lab at z) (some_is x i e) h.0))
right_at s lab at (x ∷ code) (suc k) place i p h e = right_at s lab (suc at) code k place i (omega (arith, p)) h.1 e

-- ---- ways stay inside

pub comes : (at : ℕ) (i : Instr) (next : ℕ) → IsIn next (next_of at i) → (next ≡ suc at) ⊎ IsJumpTo next i
comes at (instr.Jump to) next h = inr (sym (only_one next to h))
comes at (instr.IfFalse to) next h = elim (one_or_other next (suc at) to h) [ inl e ↦ inl e | inr e ↦ inr (sym e) ]
comes at instr.Return next h = absurd (in_none next h)
comes at instr.ReturnVoid next h = absurd (in_none next h)
comes at _ next h = inl (only_one next (suc at) h)

ends_jump : (at : ℕ) (i : Instr) (next : ℕ) → Ends i → IsIn next (next_of at i) → IsJumpTo next i
ends_jump at (instr.Jump to) next k h = sym (only_one next to h)
ends_jump at instr.Return next k h = absurd (in_none next h)
ends_jump at instr.ReturnVoid next k h = absurd (in_none next h)
ends_jump at _ next k h = absurd k

last_ends : (code : List Instr) (at : ℕ) (i : Instr) → Stops code → slice_get code at ≡ Some i → suc at ≡ length code → Ends i
last_ends [] at i h e l = absurd h
last_ends (x ∷ []) zero i h e l = subst Ends (some_is x i e) h
last_ends (x ∷ []) (suc at) i h e l = absurd (none_some i e)
last_ends (x ∷ y ∷ code) zero i h e l = absurd (omega (arith, l))
last_ends (x ∷ y ∷ code) (suc at) i h e l = last_ends (y ∷ code) at i h e (omega (arith, l))

none_any : {A : Type 0} (p : A → Bool) (xs : List A) (k : ℕ) (x : A) → list_any p xs ≡ false → slice_get xs k ≡ Some x → p x ≡ false
none_any p [] k x e h = absurd (none_some x h)
none_any p (y ∷ xs) zero x e h = subst (λ z. p z ≡ false) (some_is y x h) (by (p y) e)
  where
    by : (b : Bool) → (b || list_any p xs) ≡ false → b ≡ false
    by true e = absurd (false≢true (sym e))
    by false e = refl
none_any p (y ∷ xs) (suc k) x e h = none_any p xs k x (by (p y) e) h
  where
    by : (b : Bool) → (b || list_any p xs) ≡ false → list_any p xs ≡ false
    by true e = absurd (false≢true (sym e))
    by false e = e

jumps_tested : (at : ℕ) (i : Instr) → IsJumpTo at i → is_jump_to at i ≡ true
jumps_tested at (instr.Jump to) e = eq-eqb to at e
jumps_tested at (instr.IfFalse to) e = eq-eqb to at e
jumps_tested at _ e = absurd e

pub below_or : (a b : ℕ) → (a < b) ⊎ (b ≤ a)
below_or a zero = inr (omega arith)
below_or zero (suc b) = inl (omega arith)
below_or (suc a) (suc b) = elim (below_or a b) [ inl l ↦ inl (omega (arith, l)) | inr l ↦ inr (omega (arith, l)) ]

pub get_within : {A : Type 0} → (xs : List A) (i : ℕ) (x : A) → slice_get xs i ≡ Some x → i < length xs
get_within [] i x e = absurd (none_some x e)
get_within (y ∷ xs) zero x e = omega arith
get_within (y ∷ xs) (suc i) x e = let h = get_within xs i x e in omega (arith, h)

some_none : (o : Option ℕ) (n : ℕ) → o ≡ None → o ≡ Some n → ⊥
some_none o n e h = cc

-- a place of which a visit is said that can't be
no_end : (s : Setting) (lab : ℕ → Label) (at : ℕ) (i : Instr) (next : ℕ) → Right s lab at i → IsIn next (next_of at i) → (lab next).visit ≡ Some 0 → ⊥
no_end s lab at instr.Key next r h e = some_none (lab at).visit 0 r.own.plain (sym (r.stays next h).visit ∙ e)
no_end s lab at (instr.Merge n) next r h e = some_none (lab at).visit 0 r.own.plain (sym (r.stays next h).visit ∙ e)
no_end s lab at (instr.Call n) next r h e = some_none (lab at).visit 0 r.own.plain (sym (r.stays next h).visit ∙ e)
no_end s lab at (instr.Access name m) next r h e = by r.own
  where
    by : AtAccess s lab at name m → ⊥
    by (InBlock field plain f n) = some_none (lab at).visit 0 plain (sym (r.stays next h).visit ∙ e)
    by (InVisit field holder sig is p visit n g k o) = (let same : Some (suc at) ≡ Some 0 = sym visit ∙ sym (r.stays next h).visit ∙ e in let z = some_is (suc at) 0 same in omega (arith, z))
no_end s lab at (instr.Cut t) next r h e = by r.own.to
  where
    here : (lab (suc at)).visit ≡ Some 0
    here = subst (λ (n : ℕ). (lab n).visit ≡ Some 0) (only_one next (suc at) h) e

    by : AtCut s lab at → ⊥
    by (ToBlock field holder is key plain f g first no_visit) = some_none (lab (suc at)).visit 0 plain here
    by (ToVisit field part holder is p k visit less f g) = (let z = some_is part 0 (sym visit ∙ here) in omega (arith, z, less))
no_end s lab at (instr.Part t) next r h e = some_none (lab (suc at)).visit 0 r.own.plain (subst (λ (n : ℕ). (lab n).visit ≡ Some 0) (only_one next (suc at) h) e)
no_end s lab at (instr.Load v) next r h e = by r.own
  where
    by : AtLoad lab at → ⊥
    by (Plainly plain) = some_none (lab at).visit 0 plain (sym (r.stays next h).visit ∙ e)
    by (Visiting part visit less) = (let z = some_is part 0 (sym visit ∙ sym (r.stays next h).visit ∙ e) in omega (arith, z, less))
no_end s lab at instr.Return next r h e = in_none next h
no_end s lab at instr.ReturnVoid next r h e = in_none next h
no_end s lab at _ next r h e = some_none (lab at).visit 0 r.own (sym (r.stays next h).visit ∙ e)

-- the labels of a body
pub record Labelled (s : Setting) (first : Standing) (code : List Instr) : Type 0 where
  pub lab : ℕ → Label
  pub right : (at : ℕ) (i : Instr) → slice_get code at ≡ Some i → Right s lab at i
  pub rank : ℕ
  pub first_is : Eases (label first [] rank) (lab 0)
  pub inside : (at : ℕ) (i : Instr) (next : ℕ) → slice_get code at ≡ Some i → IsIn next (next_of at i) → next < length code
  pub some : 0 < length code

labelled : (s : Setting) (first : Standing) (code : List Instr) (e : Label) → e.behind ≡ Anything → 0 < length code → Made s Anywhere 0 code first [] e
    → ((lab : ℕ → Label) (at : ℕ) (i : Instr) (next : ℕ) → lab (length code) ≡ e → Right s lab at i → slice_get code at ≡ Some i → IsIn next (next_of at i) → next ≡ length code → ⊥) → Labelled s first code
labelled s first code e open_end some m closed =
    let ls = m.labels ++ e ∷ [] in
    let lab : ℕ → Label = look ls in
    let long = m.long in
    let at_end : lab (length code) ≡ e = subst (λ (n : ℕ). lab n ≡ e) long (look_end m.labels e) in
    let same : Eases e e = record { stack = refl; known = λ v h. h; stays = record { field = inr refl; gathered = inr refl; visit = refl }; behind = open_end; rank = omega arith } in
    let eases : Eases e (lab (length code)) = subst (λ (l : Label). Eases e l) (sym at_end) same in
    let end_is : length code ≡ 0 + length code = omega arith in
    let agrees : Agrees lab 0 m.labels = agrees_by lab 0 m.labels (λ k l h. (let place : k ≡ 0 + k = omega arith in subst (λ (n : ℕ). lab n ≡ l) place (look_front m.labels e k l h))) in
    let good = m.good lab (length code) end_is agrees eases tt in
    let right : (at : ℕ) (i : Instr) → slice_get code at ≡ Some i → Right s lab at i = (λ at i h. right_at s lab 0 code at at i (omega arith) good h) in
    record {
      lab = lab;
      right = right;
      rank = m.rank;
      first_is = begins_with lab 0 (length code) m.labels first [] m.rank e m.begins (omega (arith, long)) agrees eases;
      inside = λ at i next h goes.
          elim (below_or next (length code)) [
            | inl less ↦ less
            | inr more ↦ absurd (elim (below_or (length code) next) [
              | inr least ↦ closed lab at i next at_end (right at i h) h goes (omega (arith, least, more))
              | inl beyond ↦ (let is_far : lab next ≡ far = look_far m.labels e next (omega (arith, beyond, long)) in
                  let w = get_within code at i h in
                  elim (comes at i next goes) [
                    | inl step ↦ omega (arith, step, beyond, w)
                    | inr j ↦ (let anything : far.behind ≡ Anything = subst (λ (l : Label). l.behind ≡ Anything) is_far ((right at i h).jumps next j) in not_turning anything)
                  ])
            ])
          ];
      some = some;
    }
  where
    not_turning : Turning ≡ Anything → ⊥
    not_turning h = cc

-- ---- what stands before and behind the statements

module _ (s : Setting) (w : Whole s) where
  push : (at : ℕ) (i : Instr) (st : Standing) (stack after : Stack) (r : ℕ) → next_of at i ≡ suc at ∷ [] → Takes s i stack after → ((v : ℕ) → IsIn v (reads i) → ⊥) → OfKind s i
      → ((lab : ℕ → Label) → (lab at).visit ≡ None → Own s lab at i) → ((v : ℕ) → writes i ≡ None) → Made s Anywhere at (i ∷ []) st stack (label st after r)
  push at i st stack after r straight takes reads_none kind own writes_none =
      one s Anywhere at i st stack (label st after r) straight
      (record { falls = omega arith; knows = λ v h. inl h; may_read = λ v h. absurd (reads_none v h); stays = λ next h. record { field = inr refl; gathered = inr refl; visit = refl }; takes = takes; kind = kind })
      (λ lab here. own lab (ap (λ (l : Label). l.visit) here))

  start_made : (u : VariableType) (at : ℕ) (st : Standing) (r : ℕ) → Made s Anywhere at (start_code (var_type_by u)) st [] (label st (on_top (typing.type_by u) []) r)
  start_made variable.Int at st r = push at (instr.Int (pos 0)) st [] (type.Int ∷ []) r refl refl in_none (making.plain s (instr.Int (pos 0)) refl refl) (λ lab h. h) (λ v. refl)
  start_made variable.Long at st r = push at (instr.Long (pos 0)) st [] (type.Long ∷ []) r refl refl in_none (making.plain s (instr.Long (pos 0)) refl refl) (λ lab h. h) (λ v. refl)
  start_made variable.Boolean at st r = push at (instr.Bool false) st [] (type.Boolean ∷ []) r refl refl in_none (making.plain s (instr.Bool false) refl refl) (λ lab h. h) (λ v. refl)
  start_made variable.Vector at st r =
      let new = push (suc at) instr.NewVector st (type.Int ∷ []) (type.Vector ∷ []) r refl refl in_none (making.plain s instr.NewVector refl refl) (λ lab h. h) (λ v. refl) in
      both s Anywhere at (suc at) (instr.Int (pos 0) ∷ []) (instr.NewVector ∷ []) st st [] (type.Int ∷ []) (label st (type.Vector ∷ []) r) (omega arith) new
      (push at (instr.Int (pos 0)) st [] (type.Int ∷ []) new.rank refl refl in_none (making.plain s (instr.Int (pos 0)) refl refl) (λ lab h. h) (λ v. refl))

  module _ (b : Body) (variables_same : b.variables ≡ s.around.context.variables) where
    set_made : (v : ℕ) → HasType s w v → (at : ℕ) (st : Standing) (r : ℕ) → Made s Anywhere at (set_at_start b v) st [] (label (with_known v st) [] r)
    set_made v h at st r =
        let k = variable_slot s.around.context.members s.around.context.variables v h.0 h.1 in
        let slot : slice_get b.variables v ≡ Some k.0 = ap (λ (vs : List VariableType). slice_get vs v) variables_same ∙ k.1 in
        let code : List Instr = start_code (var_type_by k.0) in
        let place = at + length code in
        let storing = store_made s w place v h.0 st r h.1 in
        let starting : Made s Anywhere at code st [] (label st (on_top h.0 []) storing.rank) = subst (λ (t : ValueType). Made s Anywhere at code st [] (label st (on_top t []) storing.rank)) k.2 (start_made k.0 at st storing.rank) in
        subst (λ (o : Option VariableType). Made s Anywhere at (start_of o ++ instr.Store v ∷ []) st [] (label (with_known v st) [] r)) (sym slot)
        (both s Anywhere at place code (instr.Store v ∷ []) st st [] (on_top h.0 []) (label (with_known v st) [] r) refl storing starting)

    started_made : (vs : List ℕ) → AllHave s w vs → (at : ℕ) (st : Standing) (r : ℕ) → Made s Anywhere at (flat_map (set_at_start b) vs) st [] (label (know vs st) [] r)
    started_made [] h at st r = none s Anywhere at st [] r
    started_made (v ∷ vs) h at st r =
        let place = at + length (set_at_start b v) in
        let rest = started_made vs h.1 place (with_known v st) r in
        both s Anywhere at place (set_at_start b v) (flat_map (set_at_start b) vs) st (with_known v st) [] [] (label (know vs (with_known v st)) [] r) refl rest (set_made v h.0 at st rest.rank)

  -- ---- behind the last statement

  abbrev closing : Label
  closing = record { stack = []; standing = far.standing; visit = Some 0; behind = Anything; rank = 0 }

  closed_here : (code : List Instr) (lab : ℕ → Label) (at : ℕ) (i : Instr) (next : ℕ) → lab (length code) ≡ closing → Right s lab at i → slice_get code at ≡ Some i → IsIn next (next_of at i) → next ≡ length code → ⊥
  closed_here code lab at i next is r h goes e = no_end s lab at i next r goes (ap (λ (l : Label). l.visit) (ap lab e ∙ is))

  return_last : (at : ℕ) (st : Standing) → is_void s.around.result ≡ true → Made s Anywhere at (instr.ReturnVoid ∷ []) st [] closing
  return_last at st is =
      last s Anywhere at instr.ReturnVoid st [] [] closing refl (void_takes s.of.result s.around.result w.result is) (λ v h. absurd (in_none v h)) (making.plain s instr.ReturnVoid refl refl)
      (λ lab here. ap (λ (l : Label). l.visit) here)

  waiting : (at : ℕ) (st : Standing) → Made s Anywhere at (instr.Turn ∷ instr.Jump at ∷ []) st [] closing
  waiting at st = record {
    rank = 0;
    above = omega arith;
    labels = label st [] 0 ∷ label st [] 1 ∷ [];
    long = refl;
    begins = same_eases st [] 0 0 (omega arith);
    good = λ lab end end_is agrees eases out.
        (let to_turn : Eases (label st [] 0) (lab at) = subst (λ (l : Label). Eases (label st [] 0) l) (sym agrees.0) (same_eases st [] 0 0 (omega arith)) in
        let to_jump : Eases (label st [] 1) (lab (suc at)) = subst (λ (l : Label). Eases (label st [] 1) l) (sym agrees.1.0) (same_eases st [] 1 1 (omega arith)) in
        let last_is : end ≡ suc (suc at) = omega (arith, end_is) in
        (turn_right s lab at st 0 1 agrees.0 to_jump, (jump s lab (suc at) at st [] 0 agrees.1.0 to_turn (subst (λ (n : ℕ). (lab n).behind ≡ Anything) last_is eases.behind), tt)));
  }

  nothing_behind : (xs : List Instr) → xs ++ [] ≡ xs
  nothing_behind [] = refl
  nothing_behind (x ∷ xs) = ap (λ (ys : List Instr). x ∷ ys) (nothing_behind xs)

  front_some : (xs ys : List Instr) → 0 < length ys → 0 < length (xs ++ ys)
  front_some xs ys h = let e = length-append xs ys in omega (arith, e, h)

  stops_some : (xs : List Instr) → Stops xs → 0 < length xs
  stops_some [] h = absurd h
  stops_some (x ∷ xs) h = omega arith

  ended_by : (first st : Standing) (code : List Instr) (completes jumps : Bool) → ((r : ℕ) → Made s Anywhere 0 code first [] (label st [] r)) → (completes ≡ true → is_void s.around.result ≡ true) → (completes ≡ false → Stops code)
      → list_any (is_jump_to (length code)) code ≡ jumps → Labelled s first (code ++ cond completes (instr.ReturnVoid ∷ []) (cond jumps (instr.Turn ∷ instr.Jump (length code) ∷ []) []))
  ended_by first st code true jumps made void stops is =
      let m = return_last (length code) st (void refl) in
      labelled s first (code ++ instr.ReturnVoid ∷ []) closing refl (front_some code (instr.ReturnVoid ∷ []) (omega arith))
      (both s Anywhere 0 (length code) code (instr.ReturnVoid ∷ []) first st [] [] closing (omega arith) m (made m.rank)) (closed_here (code ++ instr.ReturnVoid ∷ []))
  ended_by first st code false true made void stops is =
      let end = instr.Turn ∷ instr.Jump (length code) ∷ [] in
      let m = waiting (length code) st in
      labelled s first (code ++ end) closing refl (front_some code end (omega arith)) (both s Anywhere 0 (length code) code end first st [] [] closing (omega arith) m (made m.rank)) (closed_here (code ++ end))
  ended_by first st code false false made void stops is =
      subst (λ (xs : List Instr). Labelled s first xs) (sym (nothing_behind code))
      (labelled s first code (label st [] 0) refl (stops_some code (stops refl)) (made 0)
      (λ lab at i next end r h goes e. (let no_jump = none_any (is_jump_to (length code)) code at i is h in
      let stay : IsJumpTo next i → ⊥ = (λ j. false≢true (sym no_jump ∙ jumps_tested (length code) i (subst (λ (n : ℕ). IsJumpTo n i) e j))) in
      elim (comes at i next goes) [
        | inr j ↦ stay j
        | inl step ↦ stay (ends_jump at i next (last_ends code at i (stops refl) h (sym step ∙ e)) goes)
      ])))

-- ---- the body

module _ (class : Class) (program : Program) (tasks : List Task) (typed : IsTyped class program) where
  pub many_variables : (k : MethodKind) (vs : List VariableType) → length (variables_of k vs) ≡ length vs
  many_variables source_kind.Entry vs = many vs
    where
      many : (vs : List VariableType) → length (map one_of vs) ≡ length vs
      many [] = refl
      many (v ∷ vs) = ap suc (many vs)
  many_variables source_kind.Helper vs = many vs
    where
      many : (vs : List VariableType) → length (map one_of vs) ≡ length vs
      many [] = refl
      many (v ∷ vs) = ap suc (many vs)
  many_variables source_kind.Merge [] = refl
  many_variables source_kind.Merge (v ∷ vs) = ap suc (many vs)
    where
      many : (vs : List VariableType) → length (map one_of vs) ≡ length vs
      many [] = refl
      many (v ∷ vs) = ap suc (many vs)

  one_at : (carried : List VarType) (k : ℕ) (t : VarType) → slice_get carried k ≡ Some t → slice_get (map One carried) k ≡ Some (One t)
  one_at [] k t e = absurd (none_some t e)
  one_at (x ∷ carried) zero t e = ap (λ (z : VarType). Some (One z)) (some_is x t e)
  one_at (x ∷ carried) (suc k) t e = one_at carried k t e

  carries : (m : Method) (b : Body) (task : ℕ) → Carries (setting class program tasks m b task) (body_piece (fields class program tasks) (cs class program tasks) b).carried (length b.variables)
  carries m b task k t e =
      let carried = (body_piece (fields class program tasks) (cs class program tasks) b).carried in
      let many = many_variables b.kind b.variables in
      let place : length b.variables + k ≡ length (variables_of b.kind b.variables) + k = omega (arith, many) in
      ap (in_variable one_type) (get_right (variables_of b.kind b.variables) (map One carried) (length b.variables + k) k place ∙ one_at carried k t e)

  void_of : (t : ValueType) → t ≡ type.Void → is_void t ≡ true
  void_of t e = ap is_void e

  ending_is : (completes : Bool) (code : List Instr) → ending completes code ≡ cond completes (instr.ReturnVoid ∷ []) (cond (list_any (is_jump_to (length code)) code) (instr.Turn ∷ instr.Jump (length code) ∷ []) [])
  ending_is true code = refl
  ending_is false code = refl

  no_part_ending : (completes : Bool) (code : List Instr) → NoPart (ending completes code)
  no_part_ending true code = tt
  no_part_ending false code = by (list_any (is_jump_to (length code)) code)
    where
      by : (jumps : Bool) → NoPart (cond jumps (instr.Turn ∷ instr.Jump (length code) ∷ []) [])
      by true = tt
      by false = tt

  body_placed : (s : Setting) (xs ys end : List Instr) → NoPart end → s.of.code ≡ (xs ++ ys) ++ end → Placed s (length xs) ys
  body_placed s xs ys end plain is = record { rest = end; stands = ap (drop (length xs)) (is ∙ append_assoc xs ys end) ∙ drop_at xs (ys ++ end) (length xs) refl; no_part = plain }

  pub body_labels : (m : Method) (b : Body) (task : ℕ) → IsTypedBody program.fields (cs class program tasks) m b → Labelled (setting class program tasks m b task) (at_first b) (own class program tasks m b task).code
  body_labels m b task h =
      let s = setting class program tasks m b task in
      let w = whole class program tasks typed m b task in
      let piece = body_piece (fields class program tasks) (cs class program tasks) b in
      let place = body_place b task in
      let done = statements_done s w b.statements h.blocks in
      let have = early_have s w (range_with_len 0 b.arity) (all_of (map assigned_in b.statements)) (statements_typed s w b.statements None (at_start b) h.after h.checked) in
      let code = started b ++ piece.from place no_exits in
      let end = ending (body_completes b.statements) code in
      let stands = body_placed s (started b) (piece.from place no_exits) end (no_part_ending (body_completes b.statements) code) refl in
      let front : (r : ℕ) → Made s Anywhere 0 code (at_first b) [] (label h.after [] r) = (λ r.
      (let stated = done.made None (at_start b) h.after (inr (refl, refl)) h.checked place no_exits 0 r (omega arith) (carries m b task) stands in
      let more = from_more s Anywhere place.at (piece.from place no_exits) (at_start b) (know (early b) (at_first b)) [] (label h.after [] r) (first_covers b) stated in
      both s Anywhere 0 place.at (started b) (piece.from place no_exits) (at_first b) (know (early b) (at_first b)) [] [] (label h.after [] r) (omega arith) more
      (started_made s w b refl (early b) have 0 (at_first b) more.rank))) in
      let stops : body_completes b.statements ≡ false → Stops code = (λ e. stops_behind (started b) (piece.from place no_exits) (statements_halt (record { fields = s.graph.fields; context = s.around.context }) b.statements e place no_exits)) in
      subst (λ (end : List Instr). Labelled s (at_first b) (code ++ end)) (sym (ending_is (body_completes b.statements) code))
      (ended_by s w (at_first b) h.after code (body_completes b.statements) (list_any (is_jump_to (length code)) code) front (λ e. void_of (result_type m.result) (h.returns e)) stops refl)
