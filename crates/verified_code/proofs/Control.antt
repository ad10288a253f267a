-- The labels of statements with statements inside.
use Rattle.std.proofs.Common.{◌≡◌, refl, sym, ap, subst, ◌∙◌, ℕ, zero, suc, ◌+◌, ◌≤◌, arith, Bool, true, false, cond, ◌&&◌, List, [], ◌∷◌, ◌++◌, length, length-append, drop, Option, Some, None, slice_get, ◌⊎◌, inl, inr}
use Rattle.std.specs.Prelude.{not}
use Rattle.std.proofs.lemmas.Bool.{false≢true}
use Rattle.sdg_base.specs.declared.value_type.ValueType.TheVariants as type
use Rattle.java_tree.specs.declared.method_kinds.MethodKind.{MethodKind}
use Rattle.java_tree.specs.declared.method_kinds.MethodKind.TheVariants as source_kind
use Rattle.flat_code.specs.declared.graph.Instr.{Instr}
use Rattle.flat_code.specs.declared.graph.Instr.TheVariants as instr
use Rattle.flat_code.specs.declared.graph.VarType.{VarType}
use Rattle.flat_code.specs.Types.{type_by, type_of_variable}
use Rattle.flat_code.specs.Ways.{IsIn}
use Rattle.flat_code.specs.Verified.{Stack}
use Rattle.access_blocks.specs.declared.body.Expression.{Expression}
use Rattle.access_blocks.specs.declared.body.Holder.{Holder}
use Rattle.access_blocks.specs.declared.body.Mark.{Mark}
use Rattle.body_code.specs.Typing.{Context}
use Rattle.body_code.specs.Codes.{nothing}
use Rattle.body_code.specs.ExpressionCode.{code_of}
use Rattle.body_code.specs.StatementCode.{Place, Exits, Piece, field_name, moved, behind_piece, of_code, then_piece, in_order, cut, key_code, marked, guarded, jumped_over, branches}
use Rattle.body_code.specs.Checking.{Surroundings, Standing, Around, Checking, if_so, with_known, outside, in_block, after_compound, same_number, same_value, common, meet, takes, is_entry, is_key_of, next, opened, compound, met, otherwise, branching, is_condition, ends_as, passing, looping, is_partitioned}
use Rattle.body_code.specs.Checking as checking
use Rattle.task_cutter.specs.Tasks.{first_field, is_visit}
use Rattle.verified_code.proofs.Labels.{Behind, Label, label, Setting, Knows, Stays, Eases, eases_on, same_eases, Takes, Suits, ToBlock, KeyIs, Right, Good, Agrees, Begins, begins_with, Made}
use Rattle.verified_code.proofs.Making.{only_one, in_none, Follows, right_by, none, eased, within, both, jump, test, if_else, turning, turned}
use Rattle.verified_code.proofs.Making as making
use Rattle.verified_code.proofs.Typed.{none_some, some_is, and_left, and_right}
use Rattle.verified_code.proofs.Firsts.{FirstAccess, placed_left, placed_right, first_placed, AllHeaded, headed_in_order}
use Rattle.verified_code.proofs.Expressions.{Proper, Anywhere, behind_place}
use Rattle.verified_code.proofs.Simple.{Whole, scope, Leads, Carries, Pieced, number_is, value_is, Covers, covers_is, covered, TypedBy, takes_is, value_made, value_long, anywhere, same_standing, same_known}

pub get_left : {A : Type 0} (xs ys : List A) (k : ℕ) (x : A) → slice_get xs k ≡ Some x → slice_get (xs ++ ys) k ≡ Some x
get_left [] ys k x e = absurd (none_some x e)
get_left (z ∷ xs) ys zero x e = e
get_left (z ∷ xs) ys (suc k) x e = get_left xs ys k x e

pub get_right : {A : Type 0} (xs ys : List A) (n k : ℕ) → n ≡ length xs + k → slice_get (xs ++ ys) n ≡ slice_get ys k
get_right [] ys n k e = let f : n ≡ k = omega (arith, e) in ap (slice_get ys) f
get_right (z ∷ xs) ys zero k e = absurd (omega (arith, e))
get_right (z ∷ xs) ys (suc n) k e = get_right xs ys n k (omega (arith, e))

pub carries_left : (s : Setting) (a b : List VarType) (v : ℕ) → Carries s (a ++ b) v → Carries s a v
carries_left s a b v h k t e = h k t (get_left a b k t e)

pub carries_right : (s : Setting) (a b : List VarType) (v : ℕ) → Carries s (a ++ b) v → Carries s b (v + length a)
carries_right s a b v h k t e =
    let place : v + (length a + k) ≡ (v + length a) + k = omega arith in
    subst (λ (n : ℕ). type_of_variable s.of n ≡ Some (type_by t)) place (h (length a + k) t (get_right a b (length a + k) k refl ∙ e))

-- ---- what the walk says

pub next_of_is : (f : Standing → Option Standing) (o : Option Standing) (after : Standing) → next f o ≡ Some after → (mid : Standing) × (o ≡ Some mid) × (f mid ≡ Some after)
next_of_is f None after e = absurd (none_some after e)
next_of_is f (Some mid) after e = (mid, refl, e)

pub opened_is : (st : Standing) (o : Option Standing) (after : Standing) → opened st o ≡ Some after → (end : Standing) × (o ≡ Some end) × (outside st ≡ after)
opened_is st None after e = absurd (none_some after e)
opened_is st (Some end) after e = (end, refl, some_is (outside st) after e)

pub compound_is : (st : Standing) (o : Option Standing) (after : Standing) → compound st o ≡ Some after → (end : Standing) × (o ≡ Some end) × (after_compound st end ≡ after)
compound_is st None after e = absurd (none_some after e)
compound_is st (Some end) after e = (end, refl, some_is (after_compound st end) after e)

pub met_is : (st : Standing) (o p : Option Standing) (after : Standing) → met st o p ≡ Some after → (a : Standing) × (b : Standing) × (o ≡ Some a) × (p ≡ Some b) × (meet st a b ≡ after)
met_is st None p after e = absurd (none_some after e)
met_is st (Some a) None after e = absurd (none_some after e)
met_is st (Some a) (Some b) after e = (a, b, refl, refl, some_is (meet st a b) after e)

pub if_is : {A : Type 0} (b : Bool) (o : Option A) (a : A) → cond b o None ≡ Some a → (b ≡ true) × (o ≡ Some a)
if_is true o a e = (refl, e)
if_is false o a e = absurd (none_some a e)

common_first : {A : Type 0} (b : Bool) (a : Option A) → (common b a ≡ None) ⊎ (common b a ≡ a)
common_first true a = inr refl
common_first false a = inl refl

common_second : {A : Type 0} (b : Bool) (a o : Option A) → (b ≡ true → a ≡ o) → (common b a ≡ None) ⊎ (common b a ≡ o)
common_second true a o same = inr (same refl)
common_second false a o same = inl refl

pub meets_first : (st a b : Standing) → ((v : ℕ) → Knows st v → Knows a v) → Covers a (meet st a b)
meets_first st a b grows = record { known = grows; field = common_first (same_number a.field b.field) a.field; gathered = common_first (same_value a.gathered b.gathered) a.gathered }

pub meets_second : (st a b : Standing) → ((v : ℕ) → Knows st v → Knows b v) → Covers b (meet st a b)
meets_second st a b grows = record {
  known = grows;
  field = common_second (same_number a.field b.field) a.field b.field (number_is a.field b.field);
  gathered = common_second (same_value a.gathered b.gathered) a.gathered b.gathered (value_is a.gathered b.gathered);
}

pub ends_is : (need : Standing) (o : Option Standing) → ends_as need o ≡ true → (end : Standing) × (o ≡ Some end) × Covers end need
ends_is need None e = absurd (false≢true e)
ends_is need (Some end) e = (end, refl, covers_is end need e)

-- code whose first place knows less
pub from_more : (s : Setting) (Out : (ℕ → Label) → Type 0) (at : ℕ) (code : List Instr) (st more : Standing) (stack : Stack) (e : Label) → Covers more st → Made s Out at code st stack e → Made s Out at code more stack e
from_more s Out at code st more stack e h a =
    let eases : Eases (label more stack a.rank) (label st stack a.rank) = covered more st stack a.rank a.rank (omega arith) h in
    record { rank = a.rank; above = a.above; labels = a.labels; long = a.long; begins = begins_more a.labels (label st stack a.rank) (label more stack a.rank) e eases a.begins; good = a.good }
  where
    begins_more : (ls : List Label) (first other after : Label) → Eases other first → Begins ls first after → Begins ls other after
    begins_more [] first other after h b = eases_on h b
    begins_more (l ∷ ls) first other after h b = eases_on h b

if_only : (s : Setting) (Out : (ℕ → Label) → Type 0) (at k end : ℕ) (xs : List Instr) (st after : Standing) (r : ℕ) → k ≡ suc at → end ≡ k + length xs → Covers st after → Made s Out k xs st [] (label after [] r)
    → Made s Out at (instr.IfFalse end ∷ xs) st (type.Boolean ∷ []) (label after [] r)
if_only s Out at k end xs st after r k_is end_of covers a =
    let top = label st (type.Boolean ∷ []) (suc a.rank) in
    let long = a.long in
    let above : r ≤ a.rank = a.above in
    record {
      rank = suc a.rank;
      above = omega (arith, above);
      labels = top ∷ a.labels;
      long = ap suc a.long;
      begins = same_eases st (type.Boolean ∷ []) (suc a.rank) (suc a.rank) (omega arith);
      good = λ lab last last_is agrees eases out.
          (let same : end ≡ last = omega (arith, end_of, last_is, k_is) in
          let rest : Agrees lab k a.labels = subst (λ (n : ℕ). Agrees lab n a.labels) (sym k_is) agrees.1 in
          let enters = begins_with lab k last a.labels st [] a.rank (label after [] r) a.begins (omega (arith, last_is, long, k_is)) rest eases in
          let on : Eases (label st [] a.rank) (lab (suc at)) = subst (λ (n : ℕ). Eases (label st [] a.rank) (lab n)) k_is enters in
          let over : Eases (label st [] a.rank) (lab end) = subst (λ (n : ℕ). Eases (label st [] a.rank) (lab n)) (sym same) (eases_on (covered st after [] r a.rank above covers) eases) in
          let code : Good s lab k xs = a.good lab last (omega (arith, last_is, k_is)) rest eases out in
          (test s lab at end st [] a.rank agrees.0 on over, subst (λ (n : ℕ). Good s lab n xs) k_is code));
    }

-- a turn of which the next place may be anything
pub turn_right : (s : Setting) (lab : ℕ → Label) (at : ℕ) (st : Standing) (r q : ℕ) → lab at ≡ label st [] r → Eases (label st [] q) (lab (suc at)) → Right s lab at instr.Turn
turn_right s lab at st r q is goes =
    let from : label st [] r ≡ lab at = sym is in
    let to : (next : ℕ) → IsIn next (suc at ∷ []) → Eases (label st [] q) (lab next) = (λ next h. subst (λ (n : ℕ). Eases (label st [] q) (lab n)) (sym (only_one next (suc at) h)) goes) in
    record {
      after = [];
      takes = subst (λ (x : Label). Takes s instr.Turn x.stack []) from refl;
      stacks = λ next h. (to next h).stack;
      ranks = λ next h no_turn. absurd (no_turn refl);
      knows = λ next h v known. inl (subst (λ (x : Label). Knows x.standing v) from ((to next h).known v known));
      may_read = λ v h. absurd (in_none v h);
      jumps = λ next j. absurd j;
      stays = λ next h. (let k = (to next h).stays in let same : Stays (label st [] r) (lab next) = record { field = k.field; gathered = k.gathered; visit = k.visit } in subst (λ (x : Label). Stays x (lab next)) from same);
      own = ap (λ (l : Label). l.visit) is;
      suits = subst (λ (b : Behind). Suits instr.Turn b) (sym goes.behind) tt;
      kind = making.plain s instr.Turn refl refl;
    }

module _ (s : Setting) (w : Whole s) where
  abbrev c : Context
  c = s.around.context

  -- ---- one after the other

  abbrev pub AllDone : List Piece → List Checking → Type 0
  AllDone [] [] = Unit {0}
  AllDone (p ∷ ps) (k ∷ ks) = Pieced s p k × AllDone ps ks
  AllDone _ _ = ⊥

  nothing_done : Pieced s (in_order []) (checking.in_order [])
  nothing_done = record {
    long = λ p to. refl;
    proper = λ exits st after proper e. same_standing s w after st (some_is st after e) proper;
    grows = λ exits st after e v h. same_known s w after st (some_is st after e) v h;
    made = λ exits st after proper e p to least r less carries placed.
        subst (λ (z : Standing). Made s (Leads exits to least) p.at [] st [] (label z [] r)) (some_is st after e) (none s (Leads exits to least) p.at st [] r);
  }

  more_done : (p : Piece) (k : Checking) (ps : List Piece) (ks : List Checking) → AllHeaded ps → Pieced s p k → Pieced s (in_order ps) (checking.in_order ks) → Pieced s (in_order (p ∷ ps)) (checking.in_order (k ∷ ks))
  more_done piece k ps ks headed a b = record {
    long = λ p to. (let e = a.long p to in let f = b.long (behind_piece p piece) to in let many = length-append (piece.from p to) ((in_order ps).from (behind_piece p piece) to) in omega (arith, e, f, many));
    proper = λ exits st after proper e. (let m = next_of_is (checking.in_order ks exits) (k exits st) after e in b.proper exits m.0 after (a.proper exits st m.0 proper m.1) m.2);
    grows = λ exits st after e v h. (let m = next_of_is (checking.in_order ks exits) (k exits st) after e in b.grows exits m.0 after m.2 v (a.grows exits st m.0 m.1 v h));
    made = λ exits st after proper e p to least r less carries placed.
        (let m = next_of_is (checking.in_order ks exits) (k exits st) after e in
        let behind = behind_piece p piece in
        let long = a.long p to in
        let last = (in_order ps).from behind to in
        let rest = b.made exits m.0 after (a.proper exits st m.0 proper m.1) m.2 behind to least r less (carries_right s piece.carried (in_order ps).carried p.variable carries) (placed_right s p.at behind.at (piece.from p to) last (omega (arith, long)) placed) in
        let above = rest.above in
        both s (Leads exits to least) p.at behind.at (piece.from p to) ((in_order ps).from behind to) st m.0 [] [] (label after [] r) (omega (arith, long)) rest
        (a.made exits st m.0 proper m.1 p to least rest.rank (omega (arith, less, above)) (carries_left s piece.carried (in_order ps).carried p.variable carries)
        (placed_left s p.at (piece.from p to) last (headed_in_order ps headed behind to) placed)));
  }

  pub list_done : (ps : List Piece) (ks : List Checking) → AllDone ps ks → AllHeaded ps → Pieced s (in_order ps) (checking.in_order ks)
  list_done [] [] h headed = nothing_done
  list_done (p ∷ ps) (k ∷ ks) h headed = more_done p k ps ks headed.1 h.0 (list_done ps ks h.1 headed.1)
  list_done [] (k ∷ ks) h headed = absurd h
  list_done (p ∷ ps) [] h headed = absurd h

  -- ---- what ends in less

  pub compound_covers : (st end : Standing) → ((v : ℕ) → Knows st v → Knows end v) → Covers end (after_compound st end)
  compound_covers st end grows = record { known = grows; field = inr refl; gathered = inr refl }

  pub block_done : (piece : Piece) (k : Checking) → Pieced s piece k → Pieced s piece (λ exits st. compound st (k exits st))
  block_done piece k a = record {
    long = a.long;
    proper = λ exits st after proper e. (let m = compound_is st (k exits st) after e in same_standing s w after (after_compound st m.0) m.2 (a.proper exits st m.0 proper m.1));
    grows = λ exits st after e v h. (let m = compound_is st (k exits st) after e in same_known s w after (after_compound st m.0) m.2 v h);
    made = λ exits st after proper e p to least r less carries placed.
        (let m = compound_is st (k exits st) after e in
        subst (λ (z : Standing). Made s (Leads exits to least) p.at (piece.from p to) st [] (label z [] r)) m.2
        (eased s (Leads exits to least) p.at (piece.from p to) st [] (label m.0 [] r) (label (after_compound st m.0) [] r) (a.made exits st m.0 proper m.1 p to least r less carries placed)
        (covered m.0 (after_compound st m.0) [] r r (omega arith) (compound_covers st m.0 (a.grows exits st m.0 m.1)))));
  }

  outside_proper : (st : Standing) → Proper s st → Proper s (outside st)
  outside_proper st (inl entry) = inl entry
  outside_proper st (inr _) = inr (refl, refl)

  outside_covers : (st end : Standing) → ((v : ℕ) → Knows (outside st) v → Knows end v) → Covers end (outside st)
  outside_covers st end grows = record { known = grows; field = inl refl; gathered = inl refl }

  pub opened_done : (piece : Piece) (k : Checking) → Pieced s piece k → Pieced s piece (λ exits st. opened st (k exits (outside st)))
  opened_done piece k a = record {
    long = a.long;
    proper = λ exits st after proper e. (let m = opened_is st (k exits (outside st)) after e in same_standing s w after (outside st) m.2 (outside_proper st proper));
    grows = λ exits st after e v h. (let m = opened_is st (k exits (outside st)) after e in same_known s w after (outside st) m.2 v h);
    made = λ exits st after proper e p to least r less carries placed.
        (let m = opened_is st (k exits (outside st)) after e in
        subst (λ (z : Standing). Made s (Leads exits to least) p.at (piece.from p to) st [] (label z [] r)) m.2
        (from_more s (Leads exits to least) p.at (piece.from p to) (outside st) st [] (label (outside st) [] r) (outside_covers st st (λ v h. h))
        (eased s (Leads exits to least) p.at (piece.from p to) (outside st) [] (label m.0 [] r) (label (outside st) [] r) (a.made exits (outside st) m.0 (outside_proper st proper) m.1 p to least r less carries placed)
        (covered m.0 (outside st) [] r r (omega arith) (outside_covers st m.0 (a.grows exits (outside st) m.0 m.1))))));
  }

  -- ---- branches

  meet_proper : (st a b : Standing) → Proper s a → Proper s (meet st a b)
  meet_proper st a b (inl entry) = inl entry
  meet_proper st a b (inr nothing) = inr (empty (same_number a.field b.field) a.field nothing.0, empty (same_value a.gathered b.gathered) a.gathered nothing.1)
    where
      empty : {A : Type 0} (t : Bool) (o : Option A) → o ≡ None → common t o ≡ None
      empty true o e = e
      empty false o e = refl

  pub record IsBranch (x : Expression) (exits : Around) (first second : Checking) (st after : Standing) : Type 0 where
    pub typed : TypedBy s.around st x type.Boolean
    pub one : Standing
    pub other : Standing
    pub is_one : first exits st ≡ Some one
    pub is_other : second exits st ≡ Some other
    pub after_is : meet st one other ≡ after

  pub branch_is : (x : Expression) (exits : Around) (first : Checking) (second : Option Checking) (st after : Standing) → branching s.around x first second exits st ≡ Some after → IsBranch x exits first (otherwise second) st after
  branch_is x exits first second st after e =
      let k = if_is (takes s.around st x type.Boolean) (met st (first exits st) (otherwise second exits st)) after e in
      let m = met_is st (first exits st) (otherwise second exits st) after k.1 in
      record { typed = takes_is s.around st x type.Boolean k.0; one = m.0; other = m.1; is_one = m.2; is_other = m.3; after_is = m.4 }

  pub if_done : (x : Expression) (piece : Piece) (k : Checking) → Pieced s piece k → Pieced s (branches (code_of c x) piece None) (branching s.around x k None)
  if_done x piece k a = record {
    long = λ p to. (let e = value_long s w x p.at in let f = a.long (moved 1 (behind_piece p (of_code (code_of c x)))) to in
        let many = length-append ((code_of c x).from p.at) ((guarded 0 piece).from (behind_piece p (of_code (code_of c x))) to) in omega (arith, e, f, many));
    proper = λ exits st after proper e. (let m = branch_is x exits k None st after e in same_standing s w after (meet st m.one m.other) m.after_is (meet_proper st m.one m.other (a.proper exits st m.one proper m.is_one)));
    grows = λ exits st after e v h. (let m = branch_is x exits k None st after e in same_known s w after (meet st m.one m.other) m.after_is v h);
    made = λ exits st after proper e p to least r less carries placed.
        (let m = branch_is x exits k None st after e in
        let Out = Leads exits to least in
        let test_at = behind_piece p (of_code (code_of c x)) in
        let body_at = moved 1 test_at in
        let meeting = meet st m.one m.other in
        let carried : Carries s piece.carried body_at.variable = (let v : p.variable ≡ p.variable + 0 = omega arith in subst (λ (n : ℕ). Carries s piece.carried n) v carries) in
        let second : st ≡ m.other = some_is st m.other m.is_other in
        let covers : Covers st meeting = subst (λ (z : Standing). Covers z meeting) (sym second) (meets_second st m.one m.other (λ v h. subst (λ (z : Standing). Knows z v) second h)) in
        let long_body = a.long body_at to in
        let guard_placed = placed_right s p.at test_at.at ((code_of c x).from p.at) ((guarded 0 piece).from test_at to) (behind_place s w.fit (code_of c x) (value_long s w x) p.at) placed in
        let body_placed = placed_right s test_at.at body_at.at (instr.IfFalse (test_at.at + 1 + piece.size + 0) ∷ []) (piece.from body_at to) (omega arith) guard_placed in
        let body = eased s Out body_at.at (piece.from body_at to) st [] (label m.one [] r) (label meeting [] r) (a.made exits st m.one proper m.is_one body_at to least r less carried body_placed)
        (covered m.one meeting [] r r (omega arith) (meets_first st m.one m.other (a.grows exits st m.one m.is_one))) in
        let tested_body = if_only s Out test_at.at body_at.at (test_at.at + 1 + piece.size + 0) (piece.from body_at to) st meeting r (omega arith) (omega (arith, long_body)) covers body in
        subst (λ (z : Standing). Made s Out p.at ((branches (code_of c x) piece None).from p to) st [] (label z [] r)) m.after_is
        (both s Out p.at test_at.at ((code_of c x).from p.at) ((guarded 0 piece).from test_at to) st st [] (type.Boolean ∷ []) (label meeting [] r) (behind_place s w.fit (code_of c x) (value_long s w x) p.at) tested_body
        (anywhere s w Out p.at ((code_of c x).from p.at) st [] (label st (type.Boolean ∷ []) tested_body.rank) (value_made s w x type.Boolean st proper m.typed p.at [] tested_body.rank))));
  }

  pub if_else_done : (x : Expression) (one : Piece) (k : Checking) (two : Piece) (l : Checking) → Pieced s one k → Pieced s two l → Pieced s (branches (code_of c x) one (Some two)) (branching s.around x k (Some l))
  if_else_done x one k two l a b = record {
    long = λ p to. (let e = value_long s w x p.at in
        let test_at = behind_piece p (of_code (code_of c x)) in
        let other_at = behind_piece test_at (guarded 1 one) in
        let f = a.long (moved 1 test_at) to in
        let g = b.long (moved 1 other_at) to in
        let some = length-append (one.from (moved 1 test_at) to) ((jumped_over two).from other_at to) in
        let many = length-append ((code_of c x).from p.at) ((then_piece (guarded 1 one) (jumped_over two)).from test_at to) in omega (arith, e, f, g, some, many));
    proper = λ exits st after proper e. (let m = branch_is x exits k (Some l) st after e in same_standing s w after (meet st m.one m.other) m.after_is (meet_proper st m.one m.other (a.proper exits st m.one proper m.is_one)));
    grows = λ exits st after e v h. (let m = branch_is x exits k (Some l) st after e in same_known s w after (meet st m.one m.other) m.after_is v h);
    made = λ exits st after proper e p to least r less carries placed.
        (let m = branch_is x exits k (Some l) st after e in
        let Out = Leads exits to least in
        let test_at = behind_piece p (of_code (code_of c x)) in
        let body_at = moved 1 test_at in
        let jump_at = behind_piece test_at (guarded 1 one) in
        let other_at = moved 1 jump_at in
        let meeting = meet st m.one m.other in
        let v : p.variable ≡ p.variable + 0 = omega arith in
        let whole : Carries s (one.carried ++ two.carried) (p.variable + 0) = subst (λ (n : ℕ). Carries s (one.carried ++ two.carried) n) v carries in
        let long_one = a.long body_at to in
        let long_two = b.long other_at to in
        let front = (guarded 1 one).from test_at to in
        let back = (jumped_over two).from jump_at to in
        let both_placed = placed_right s p.at test_at.at ((code_of c x).from p.at) ((then_piece (guarded 1 one) (jumped_over two)).from test_at to) (behind_place s w.fit (code_of c x) (value_long s w x) p.at) placed in
        let one_placed = placed_right s test_at.at body_at.at (instr.IfFalse (test_at.at + 1 + one.size + 1) ∷ []) (one.from body_at to) (omega arith) (placed_left s test_at.at front back tt both_placed) in
        let two_placed = placed_right s jump_at.at other_at.at (instr.Jump (jump_at.at + 1 + two.size) ∷ []) (two.from other_at to) (omega arith) (placed_right s test_at.at jump_at.at front back (omega (arith, long_one)) both_placed) in
        let first = eased s Out body_at.at (one.from body_at to) st [] (label m.one [] (suc r)) (label meeting [] (suc r)) (a.made exits st m.one proper m.is_one body_at to least (suc r) (omega (arith, less)) (carries_left s one.carried two.carried (p.variable + 0) whole) one_placed)
        (covered m.one meeting [] (suc r) (suc r) (omega arith) (meets_first st m.one m.other (a.grows exits st m.one m.is_one))) in
        let second = eased s Out other_at.at (two.from other_at to) st [] (label m.other [] r) (label meeting [] r) (b.made exits st m.other proper m.is_other other_at to least r less (carries_right s one.carried two.carried (p.variable + 0) whole) two_placed)
        (covered m.other meeting [] r r (omega arith) (meets_second st m.one m.other (b.grows exits st m.other m.is_other))) in
        let same : test_at.at + 1 + one.size + 1 ≡ other_at.at = omega arith in
        let tested_both = if_else s Out test_at.at body_at.at other_at.at (jump_at.at + 1 + two.size) (one.from body_at to) (two.from other_at to) st meeting [] [] r (omega arith) (omega (arith, long_one)) (omega (arith, long_two)) first second in
        let here : Made s Out test_at.at ((then_piece (guarded 1 one) (jumped_over two)).from test_at to) st (type.Boolean ∷ []) (label meeting [] r) =
        subst (λ (n : ℕ). Made s Out test_at.at (instr.IfFalse n ∷ (one.from body_at to ++ (instr.Jump (jump_at.at + 1 + two.size) ∷ two.from other_at to))) st (type.Boolean ∷ []) (label meeting [] r)) (sym same) tested_both in
        subst (λ (z : Standing). Made s Out p.at ((branches (code_of c x) one (Some two)).from p to) st [] (label z [] r)) m.after_is
        (both s Out p.at test_at.at ((code_of c x).from p.at) ((then_piece (guarded 1 one) (jumped_over two)).from test_at to) st st [] (type.Boolean ∷ []) (label meeting [] r) (behind_place s w.fit (code_of c x) (value_long s w x) p.at) here
        (anywhere s w Out p.at ((code_of c x).from p.at) st [] (label st (type.Boolean ∷ []) here.rank) (value_made s w x type.Boolean st proper m.typed p.at [] here.rank))));
  }

  -- ---- marks

  pub record KeyOf (st : Standing) (o : Option Holder) (key : Option Expression) : Type 0 where
    pub holder : Holder
    pub is : o ≡ Some holder
    pub stack : Stack
    pub fits : KeyIs (is_partitioned (Some holder)) stack
    pub made : (at r : ℕ) → Made s Anywhere at ((key_code (scope s) key).from at) st [] (label st stack r)

  keyed : (st : Standing) → Proper s st → (o : Option Holder) (key : Option Expression) → is_key_of s.around st o key ≡ true → KeyOf st o key
  keyed st proper None key e = absurd (false≢true e)
  keyed st proper (Some h) None e = record {
    holder = h;
    is = refl;
    stack = [];
    fits = subst (λ (b : Bool). KeyIs (not b) []) (sym e) refl;
    made = λ at r. none s Anywhere at st [] r;
  }
  keyed st proper (Some h) (Some key) e = record {
    holder = h;
    is = refl;
    stack = type.Long ∷ [];
    fits = subst (λ (b : Bool). KeyIs b (type.Long ∷ [])) (sym (and_left (not h.is_partial) (takes s.around st key type.Long) e)) refl;
    made = λ at r. value_made s w key type.Long st proper (takes_is s.around st key type.Long (and_right (not h.is_partial) (takes s.around st key type.Long) e)) at [] r;
  }

  key_long : (key : Option Expression) (at : ℕ) → length ((key_code (scope s) key).from at) ≡ (key_code (scope s) key).size
  key_long None at = refl
  key_long (Some key) at = value_long s w key at

  pub entry_is : (k : MethodKind) → is_entry k ≡ true → k ≡ source_kind.Entry
  entry_is source_kind.Entry e = refl
  entry_is source_kind.Helper e = absurd (false≢true e)
  entry_is source_kind.Merge e = absurd (false≢true e)

  pub marked_is : (mark : Mark) (k : Checking) (exits : Around) (st after : Standing) → checking.marked s.around mark k exits st ≡ Some after
      → (s.around.kind ≡ source_kind.Entry) × (is_key_of s.around st (slice_get s.around.fields mark.field) mark.key ≡ true) × (k exits (in_block mark.field st) ≡ Some after)
  marked_is mark k exits st after e =
      let a = is_entry s.around.kind in
      let b = is_key_of s.around st (slice_get s.around.fields mark.field) mark.key in
      let m = if_is (a && b) (k exits (in_block mark.field st)) after e in
      (entry_is s.around.kind (and_left a b m.0), and_right a b m.0, m.1)

  cut_made : (Out : (ℕ → Label) → Type 0) (at t : ℕ) (st : Standing) (field : ℕ) (r : ℕ) (key : Option Expression) (h : KeyOf st (slice_get s.around.fields field) key) → s.around.kind ≡ source_kind.Entry
      → first_field (drop (suc (suc at)) s.of.code) ≡ Some (field_name (scope s) field) → is_visit (drop (suc (suc at)) s.of.code) ≡ false → Made s Out at (instr.Turn ∷ instr.Cut t ∷ []) st h.stack (label (in_block field st) [] r)
  cut_made Out at t st field r key h entry first no_visit =
      turned s Out at (instr.Cut t) st h.stack (label (in_block field st) [] r) refl
      (record { falls = omega arith; knows = λ v k. inl k; may_read = λ v k. absurd (in_none v k); stays = λ next k. absurd (in_none next k); takes = refl; kind = record { entry = λ k. entry; merge = λ k. absurd (false≢true k) } })
      (λ lab here behind. record {
        plain = ap (λ (l : Label). l.visit) here;
        turned = ap (λ (l : Label). l.behind) here;
        to = ToBlock field h.holder h.is (subst (λ (l : Label). KeyIs (is_partitioned (Some h.holder)) l.stack) (sym here) h.fits) behind.stays.visit behind.stays.field (both_none behind.stays.gathered) first no_visit;
      })
    where
      both_none : {A : Type 0} {o : Option A} → (o ≡ None) ⊎ (o ≡ None) → o ≡ None
      both_none (inl e) = e
      both_none (inr e) = e

  pub marked_done : (mark : Mark) (piece : Piece) (k : Checking) → ((p : Place) (to : Exits) → FirstAccess (field_name (scope s) mark.field) (piece.from p to)) → Pieced s piece k → Pieced s (marked (scope s) mark piece) (checking.marked s.around mark k)
  marked_done mark piece k first a =
      let key = of_code (key_code (scope s) mark.key) in
      record {
        long = λ p to. (let e = key_long mark.key p.at in
            let f = a.long (behind_piece (behind_piece p key) cut) to in
            let many = length-append (key.from p to) ((then_piece cut piece).from (behind_piece p key) to) in omega (arith, e, f, many));
        proper = λ exits st after proper e. (let m = marked_is mark k exits st after e in a.proper exits (in_block mark.field st) after (inl m.0) m.2);
        grows = λ exits st after e v h. (let m = marked_is mark k exits st after e in a.grows exits (in_block mark.field st) after m.2 v h);
        made = λ exits st after proper e p to least r less carries placed.
            (let m = marked_is mark k exits st after e in
            let Out = Leads exits to least in
            let h = keyed st proper (slice_get s.around.fields mark.field) mark.key m.1 in
            let cut_at = behind_piece p key in
            let body_at = behind_piece cut_at cut in
            let v : p.variable ≡ body_at.variable = omega arith in
            let cut_placed = placed_right s p.at cut_at.at (key.from p to) ((then_piece cut piece).from cut_at to) (behind_place s w.fit (key_code (scope s) mark.key) (key_long mark.key) p.at) placed in
            let body_placed = placed_right s cut_at.at body_at.at (instr.Turn ∷ instr.Cut cut_at.task ∷ []) (piece.from body_at to) (omega arith) cut_placed in
            let body = a.made exits (in_block mark.field st) after (inl m.0) m.2 body_at to least r less (subst (λ (n : ℕ). Carries s piece.carried n) v carries) body_placed in
            let its = first_placed s body_at.at (field_name (scope s) mark.field) (piece.from body_at to) (first body_at to) body_placed in
            let here : body_at.at ≡ suc (suc cut_at.at) = omega arith in
            let first_here : first_field (drop (suc (suc cut_at.at)) s.of.code) ≡ Some (field_name (scope s) mark.field) = subst (λ (n : ℕ). first_field (drop n s.of.code) ≡ Some (field_name (scope s) mark.field)) here its.0 in
            let no_visit : is_visit (drop (suc (suc cut_at.at)) s.of.code) ≡ false = subst (λ (n : ℕ). is_visit (drop n s.of.code) ≡ false) here its.1 in
            let cutting = cut_made Out cut_at.at cut_at.task st mark.field body.rank mark.key h m.0 first_here no_visit in
            let rest = both s Out cut_at.at body_at.at (instr.Turn ∷ instr.Cut cut_at.task ∷ []) (piece.from body_at to) st (in_block mark.field st) h.stack [] (label after [] r) (omega arith) body cutting in
            both s Out p.at cut_at.at (key.from p to) ((then_piece cut piece).from cut_at to) st st [] h.stack (label after [] r) (behind_place s w.fit (key_code (scope s) mark.key) (key_long mark.key) p.at) rest
            (anywhere s w Out p.at (key.from p to) st [] (label st h.stack rest.rank) (h.made p.at rest.rank)));
      }
