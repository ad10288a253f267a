-- The code of typed statements has labels.
use Rattle.std.proofs.Common.{◌≡◌, sym, ap, subst, ◌∙◌, ℕ, Bool, true, ◌&&◌, List, [], ◌∷◌, map, Option, Some, None}
use Rattle.std.proofs.lemmas.Bool.{false≢true}
use Rattle.access_blocks.specs.declared.body.Statement.{Statement, roll-Statement}
use Rattle.access_blocks.specs.declared.body.Statement.TheOpen.{Statement-F}
use Rattle.access_blocks.specs.declared.body.Statement.TheOpen as s
use Rattle.access_blocks.specs.declared.body.Statement.TheFolds.{fold-roll-Statement, ind-Statement, map-Statement}
use Rattle.body_code.specs.StatementCode.{Place, Exits, Piece, field_name, piece_step, piece_of, pieces_of, in_order}
use Rattle.body_code.specs.Checking.{Checking, checked_step, checked, checked_list, Reach, ToPart, ToEach, Accessing, is_to_part, one_by_one, accessing_step, accessing_in}
use Rattle.body_code.specs.Checking as checking
use Rattle.verified_code.proofs.Labels.{Setting}
use Rattle.verified_code.proofs.Typed.{and_left, and_right}
use Rattle.verified_code.proofs.Firsts.{FirstAccess, FirstIs, headed_in_order, statement_first, statements_headed}
use Rattle.verified_code.proofs.Simple.{Whole, scope, nat_is, Pieced, assign_done, set_done, evaluate_done, access_done, jump_done, return_done}
use Rattle.verified_code.proofs.Control.{AllDone, list_done, block_done, opened_done, if_done, if_else_done, marked_done}
use Rattle.verified_code.proofs.Loops.{loop_done}
use Rattle.verified_code.proofs.Visits.{gather_done}

to_part : (field : ℕ) (o : Option Reach) → is_to_part field o ≡ true → o ≡ Some (ToPart field)
to_part field None e = absurd (false≢true e)
to_part field (Some (ToPart f)) e = ap (λ (n : ℕ). Some (ToPart n)) (nat_is f field e)
to_part field (Some ToEach) e = absurd (false≢true e)

module _ (set : Setting) (w : Whole set) where
  abbrev Good : Statement → Type 0
  Good st = (accessing_in st).is_right ≡ true → Pieced set (piece_of (scope set) st) (checked set.around st)

  abbrev Part : Type 0
  Part = (st : Statement) × Good st

  abbrev bare : Statement-F Part → Statement-F Statement
  bare = map-Statement Part Statement (λ p. p.0)

  abbrev bares : List Part → List Statement
  bares ps = map (λ (p : Part). p.0) ps

  abbrev are_right : List Statement → Bool
  are_right xs = (one_by_one (map accessing_in xs)).is_right

  parts_done : (ps : List Part) → are_right (bares ps) ≡ true → AllDone set w (map (piece_of (scope set)) (bares ps)) (map (checked set.around) (bares ps))
  parts_done [] h = tt
  parts_done (p ∷ ps) h = (p.1 (and_left (accessing_in p.0).is_right (are_right (bares ps)) h), parts_done ps (and_right (accessing_in p.0).is_right (are_right (bares ps)) h))

  parts_in_order : (ps : List Part) → are_right (bares ps) ≡ true → Pieced set (in_order (map (piece_of (scope set)) (bares ps))) (checking.in_order (map (checked set.around) (bares ps)))
  parts_in_order ps h = list_done set w (map (piece_of (scope set)) (bares ps)) (map (checked set.around) (bares ps)) (parts_done ps h) (statements_headed (scope set) (bares ps))

  -- the first access in the code of a marked statement
  marked_first : (field : ℕ) (x : Statement) → is_to_part field (accessing_in x).first ≡ true → (p : Place) (to : Exits) → FirstAccess (field_name (scope set) field) ((piece_of (scope set) x).from p to)
  marked_first field x h p to = subst (λ (o : Option Reach). FirstIs (scope set) o ((piece_of (scope set) x).from p to)) (to_part field (accessing_in x).first h) ((statement_first (scope set) x).first p to)

  layer : (y : Statement-F Part) → (accessing_step (map-Statement Statement Accessing accessing_in (bare y))).is_right ≡ true → Pieced set (piece_step (scope set) (map-Statement Statement Piece (piece_of (scope set)) (bare y))) (checked_step set.around (map-Statement Statement Checking (checked set.around) (bare y)))
  layer (s.Assign v x) h = assign_done set w v x
  layer (s.SetElement v at x) h = set_done set w v at x
  layer (s.Evaluate x) h = evaluate_done set w x
  layer (s.Access a) h = access_done set w a
  layer (s.Gather g) h = gather_done set w g
  layer (s.Marked mark body) h =
      let a = (accessing_in body.0).is_right in
      let b = is_to_part mark.field (accessing_in body.0).first in
      marked_done set w mark (piece_of (scope set) body.0) (checked set.around body.0) (marked_first mark.field body.0 (and_right a b h)) (body.1 (and_left a b h))
  layer (s.Opened body) h = opened_done set w (piece_of (scope set) body.0) (checked set.around body.0) (body.1 h)
  layer (s.Block items) h = block_done set w (in_order (map (piece_of (scope set)) (bares items))) (checking.in_order (map (checked set.around) (bares items))) (parts_in_order items h)
  layer (s.If test first None) h = if_done set w test (piece_of (scope set) first.0) (checked set.around first.0) (first.1 h)
  layer (s.If test first (Some second)) h =
      let a = (accessing_in first.0).is_right in
      let b = (accessing_in second.0).is_right in
      if_else_done set w test (piece_of (scope set) first.0) (checked set.around first.0) (piece_of (scope set) second.0) (checked set.around second.0) (first.1 (and_left a b h)) (second.1 (and_right a b h))
  layer (s.Loop start test update body) h =
      let a = are_right (bares start) in
      let b = (accessing_in body.0).is_right in
      let d = are_right (bares update) in
      let rest = and_right a (b && d) h in
      loop_done set w test (map (piece_of (scope set)) (bares update)) (map (checked set.around) (bares update)) (piece_of (scope set) body.0) (checked set.around body.0)
      (headed_in_order (map (piece_of (scope set)) (bares update)) (statements_headed (scope set) (bares update))) (parts_in_order update (and_right b d rest)) (body.1 (and_left b d rest))
      (map (piece_of (scope set)) (bares start)) (map (checked set.around) (bares start)) (parts_in_order start (and_left a (b && d) h))
  layer s.Break h = jump_done set w (λ exits. exits.break_to) (λ need to least lab leads. leads.0)
  layer s.Continue h = jump_done set w (λ exits. exits.continue_to) (λ need to least lab leads. leads.1)
  layer (s.Return x) h = return_done set w x

  made_good : (x : Statement-F Statement) (y : Statement-F Part) → bare y ≡ x → Good (roll-Statement x)
  made_good x y is =
      let piece = fold-roll-Statement Piece (piece_step (scope set)) x in
      let check = fold-roll-Statement Checking (checked_step set.around) x in
      let found = fold-roll-Statement Accessing accessing_step x in
      let P : Statement-F Statement → Type 0 = λ z. (accessing_step (map-Statement Statement Accessing accessing_in z)).is_right ≡ true → Pieced set (piece_step (scope set) (map-Statement Statement Piece (piece_of (scope set)) z)) (checked_step set.around (map-Statement Statement Checking (checked set.around) z)) in
      let all : P x = subst P is (layer y) in
      λ h.
      subst (λ (p : Piece). Pieced set p (checked set.around (roll-Statement x))) (sym piece)
      (subst (λ (k : Checking). Pieced set (piece_step (scope set) (map-Statement Statement Piece (piece_of (scope set)) x)) k) (sym check) (all (ap (λ (a : Accessing). a.is_right) (sym found) ∙ h)))

  pub statement_done : (st : Statement) → (accessing_in st).is_right ≡ true → Pieced set (piece_of (scope set) st) (checked set.around st)
  statement_done = ind-Statement Good made_good

  all_done : (xs : List Statement) → are_right xs ≡ true → AllDone set w (map (piece_of (scope set)) xs) (map (checked set.around) xs)
  all_done [] h = tt
  all_done (x ∷ xs) h = (statement_done x (and_left (accessing_in x).is_right (are_right xs) h), all_done xs (and_right (accessing_in x).is_right (are_right xs) h))

  pub statements_done : (xs : List Statement) → (one_by_one (map accessing_in xs)).is_right ≡ true → Pieced set (pieces_of (scope set) xs) (checked_list set.around xs)
  statements_done xs h = list_done set w (map (piece_of (scope set)) xs) (map (checked set.around) xs) (all_done xs h) (statements_headed (scope set) xs)
