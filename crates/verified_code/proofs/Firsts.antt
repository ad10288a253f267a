-- The first access in the code of statements: the one that the rule on blocks finds, and it is no visit's.
use Rattle.std.proofs.Common.{◌≡◌, refl, sym, ap, subst, ◌∙◌, ℕ, ◌+◌, false, List, [], ◌∷◌, ◌++◌, map, length, drop, append_assoc, Option, Some, None, slice_get}
use Rattle.std.proofs.lemmas.List.{drop-drop, drop_at}
use Rattle.flat_code.specs.declared.graph.Instr.{Instr}
use Rattle.flat_code.specs.declared.graph.Instr.TheVariants as instr
use Rattle.access_blocks.specs.declared.body.Access.{Access}
use Rattle.access_blocks.specs.declared.body.Gather.{Gather}
use Rattle.access_blocks.specs.declared.body.Expression.{Expression}
use Rattle.access_blocks.specs.declared.body.Statement.{Statement, roll-Statement}
use Rattle.access_blocks.specs.declared.body.Statement.TheOpen.{Statement-F}
use Rattle.access_blocks.specs.declared.body.Statement.TheOpen as s
use Rattle.access_blocks.specs.declared.body.Statement.TheFolds.{fold-roll-Statement, ind-Statement, map-Statement}
use Rattle.body_code.specs.Typing.{Context, type_of}
use Rattle.body_code.specs.Codes.{Code, plain, followed_by}
use Rattle.body_code.specs.ExpressionCode.{code_of, codes_of, behind}
use Rattle.body_code.specs.StatementCode.{Place, Exits, Piece, Scope, moved, behind_piece, of_code, of_instructions, then_piece, in_order, cut, key_code, guarded, jumped_over, branches, tested, pass, next_pass, passes, stored, visit, dropped, returned, field_name, signature_of, result_of, piece_step, piece_of}
use Rattle.body_code.specs.StatementCode as code
use Rattle.body_code.specs.Checking.{Reach, ToPart, ToEach, Accessing, first_of, one_by_one, accessing_step, accessing_in, calling, in_all}
use Rattle.task_cutter.specs.Tasks.{first_field, is_visit, is_part}
use Rattle.verified_code.proofs.Labels.{Setting}
use Rattle.verified_code.proofs.Shapes.{Quiet, quiet_both, expression_quiet, expressions_quiet, targeted_quiet, dropped_quiet, stored_quiet}

-- ---- code that begins with no part, code without accesses, and code whose first access is to a field and of no visit

abbrev pub NoPart : List Instr → Type 0
NoPart (instr.Part t ∷ is) = ⊥
NoPart _ = Unit {0}

abbrev pub NoAccess : List Instr → Type 0
NoAccess [] = Unit {0}
NoAccess (instr.Access name m ∷ is) = ⊥
NoAccess (i ∷ is) = NoAccess is

abbrev pub FirstAccess : List ℕ → List Instr → Type 0
FirstAccess name [] = ⊥
FirstAccess name (instr.Access n m ∷ is) = (n ≡ name) × NoPart is
FirstAccess name (i ∷ is) = FirstAccess name is

pub no_part_both : (xs ys : List Instr) → NoPart xs → NoPart ys → NoPart (xs ++ ys)
no_part_both [] ys h k = k
no_part_both (instr.Part t ∷ xs) ys h k = absurd h
no_part_both (i ∷ xs) ys h k = tt

no_access_both : (xs ys : List Instr) → NoAccess xs → NoAccess ys → NoAccess (xs ++ ys)
no_access_both [] ys h k = k
no_access_both (instr.Access name m ∷ xs) ys h k = absurd h
no_access_both (i ∷ xs) ys h k = no_access_both xs ys h k

first_past : (name : List ℕ) (xs ys : List Instr) → NoAccess xs → FirstAccess name ys → FirstAccess name (xs ++ ys)
first_past name [] ys h k = k
first_past name (instr.Access n m ∷ xs) ys h k = absurd h
first_past name (i ∷ xs) ys h k = first_past name xs ys h k

first_before : (name : List ℕ) (xs ys : List Instr) → FirstAccess name xs → NoPart ys → FirstAccess name (xs ++ ys)
first_before name [] ys h k = absurd h
first_before name (instr.Access n m ∷ xs) ys h k = (h.0, no_part_both xs ys h.1 k)
first_before name (i ∷ xs) ys h k = first_before name xs ys h k

quiet_no_part : (ms : List ℕ) (is : List Instr) → Quiet ms is → NoPart is
quiet_no_part ms [] h = tt
quiet_no_part ms (instr.Part t ∷ is) h = absurd h.0
quiet_no_part ms (i ∷ is) h = tt

quiet_no_access : (ms : List ℕ) (is : List Instr) → Quiet ms is → NoAccess is
quiet_no_access ms [] h = tt
quiet_no_access ms (instr.Access name m ∷ is) h = absurd h.0
quiet_no_access ms (i ∷ is) h = quiet_no_access ms is h.1

is_no_part : (is : List Instr) → NoPart is → is_part (slice_get is 0) ≡ false
is_no_part [] h = refl
is_no_part (instr.Part t ∷ is) h = absurd h
is_no_part (i ∷ is) h = refl

-- the first access is that of a cut's task
pub first_is : (name : List ℕ) (is : List Instr) → FirstAccess name is → (first_field is ≡ Some name) × (is_visit is ≡ false)
first_is name [] h = absurd h
first_is name (instr.Access n m ∷ is) h = (ap Some h.0, is_no_part is h.1)
first_is name (i ∷ is) h = first_is name is h

-- ---- code that stands in a method

pub record Placed (s : Setting) (at : ℕ) (is : List Instr) : Type 0 where
  pub rest : List Instr
  pub stands : drop at s.of.code ≡ is ++ rest
  pub no_part : NoPart rest

pub placed_left : (s : Setting) (at : ℕ) (xs ys : List Instr) → NoPart ys → Placed s at (xs ++ ys) → Placed s at xs
placed_left s at xs ys plain h = record { rest = ys ++ h.rest; stands = h.stands ∙ append_assoc xs ys h.rest; no_part = no_part_both ys h.rest plain h.no_part }

pub placed_right : (s : Setting) (at k : ℕ) (xs ys : List Instr) → k ≡ at + length xs → Placed s at (xs ++ ys) → Placed s k ys
placed_right s at k xs ys place h = record {
  rest = h.rest;
  stands = ap (λ (n : ℕ). drop n s.of.code) place ∙ sym (drop-drop (length xs) at s.of.code) ∙ ap (drop (length xs)) (h.stands ∙ append_assoc xs ys h.rest) ∙ drop_at xs (ys ++ h.rest) (length xs) refl;
  no_part = h.no_part;
}

pub first_placed : (s : Setting) (at : ℕ) (name : List ℕ) (is : List Instr) → FirstAccess name is → Placed s at is → (first_field (drop at s.of.code) ≡ Some name) × (is_visit (drop at s.of.code) ≡ false)
first_placed s at name is first h =
    let k = first_is name (is ++ h.rest) (first_before name is h.rest first h.no_part) in
    (ap first_field h.stands ∙ k.0, ap is_visit h.stands ∙ k.1)

-- ---- pieces

abbrev pub Headed : Piece → Type 0
Headed piece = (p : Place) (to : Exits) → NoPart (piece.from p to)

abbrev pub AllHeaded : List Piece → Type 0
AllHeaded [] = Unit {0}
AllHeaded (p ∷ ps) = Headed p × AllHeaded ps

pub headed_in_order : (ps : List Piece) → AllHeaded ps → Headed (in_order ps)
headed_in_order [] h p to = tt
headed_in_order (x ∷ ps) h p to = no_part_both (x.from p to) ((in_order ps).from (behind_piece p x) to) (h.0 p to) (headed_in_order ps h.1 (behind_piece p x) to)

-- ---- statements

module _ (scope : Scope) where
  abbrev c : Context
  c = scope.context

  abbrev pub FirstIs : Option Reach → List Instr → Type 0
  FirstIs None is = NoAccess is
  FirstIs (Some (ToPart field)) is = FirstAccess (field_name scope field) is
  FirstIs (Some ToEach) is = Unit {0}

  pub record First (piece : Piece) (reach : Option Reach) : Type 0 where
    pub head : (p : Place) (to : Exits) → NoPart (piece.from p to)
    pub first : (p : Place) (to : Exits) → FirstIs reach (piece.from p to)

  past : (r : Option Reach) (xs ys : List Instr) → NoAccess xs → FirstIs r ys → FirstIs r (xs ++ ys)
  past None xs ys h k = no_access_both xs ys h k
  past (Some (ToPart field)) xs ys h k = first_past (field_name scope field) xs ys h k
  past (Some ToEach) xs ys h k = tt

  both_first : (r q : Option Reach) (xs ys : List Instr) → NoPart ys → FirstIs r xs → FirstIs q ys → FirstIs (first_of r q) (xs ++ ys)
  both_first None q xs ys plain h k = past q xs ys h k
  both_first (Some (ToPart field)) q xs ys plain h k = first_before (field_name scope field) xs ys h plain
  both_first (Some ToEach) q xs ys plain h k = tt

  quiet_first : (ms : List ℕ) (a : Code) → ((at : ℕ) → Quiet ms (a.from at)) → First (of_code a) None
  quiet_first ms a h = record { head = λ p to. quiet_no_part ms (a.from p.at) (h p.at); first = λ p to. quiet_no_access ms (a.from p.at) (h p.at) }

  then_first : (a b : Piece) (r q : Option Reach) → First a r → First b q → First (then_piece a b) (first_of r q)
  then_first a b r q h k = record {
    head = λ p to. no_part_both (a.from p to) (b.from (behind_piece p a) to) (h.head p to) (k.head (behind_piece p a) to);
    first = λ p to. both_first r q (a.from p to) (b.from (behind_piece p a) to) (k.head (behind_piece p a) to) (h.first p to) (k.first (behind_piece p a) to);
  }

  none_after : (piece : Piece) (r : Option Reach) → First piece (first_of r None) → First piece r
  none_after piece None h = h
  none_after piece (Some a) h = h

  abbrev AllFirst : List Piece → List Accessing → Type 0
  AllFirst [] [] = Unit {0}
  AllFirst (p ∷ ps) (a ∷ found) = First p a.first × AllFirst ps found
  AllFirst _ _ = ⊥

  nothing_first : First (in_order []) None
  nothing_first = record { head = λ p to. tt; first = λ p to. tt }

  list_first : (ps : List Piece) (found : List Accessing) → AllFirst ps found → First (in_order ps) (one_by_one found).first
  list_first [] [] h = nothing_first
  list_first (p ∷ ps) (a ∷ found) h = then_first p (in_order ps) a.first (one_by_one found).first h.0 (list_first ps found h.1)
  list_first [] (a ∷ found) h = absurd h
  list_first (p ∷ ps) [] h = absurd h

  test_first : (x : Expression) → First (of_code (code_of c x)) None
  test_first x = quiet_first (calling x) (code_of c x) (expression_quiet c x)

  key_first : (key : Option Expression) → First (of_code (key_code scope key)) None
  key_first None = nothing_first
  key_first (Some key) = test_first key

  cut_first : First cut None
  cut_first = record { head = λ p to. tt; first = λ p to. tt }

  guarded_first : (over : ℕ) (a : Piece) (r : Option Reach) → First a r → First (guarded over a) r
  guarded_first over a r h = record { head = λ p to. tt; first = λ p to. past r (instr.IfFalse (p.at + 1 + a.size + over) ∷ []) (a.from (moved 1 p) to) tt (h.first (moved 1 p) to) }

  jumped_first : (a : Piece) (r : Option Reach) → First a r → First (jumped_over a) r
  jumped_first a r h = record { head = λ p to. tt; first = λ p to. past r (instr.Jump (p.at + 1 + a.size) ∷ []) (a.from (moved 1 p) to) tt (h.first (moved 1 p) to) }

  access_first : (a : Access) → First (of_code (code.access scope a)) (Some (ToPart a.field))
  access_first a =
      let args = in_all (map calling a.args) in
      let r = result_of (signature_of scope a.field a.method) in
      let end : List Instr = instr.Access (field_name scope a.field) a.method ∷ code.targeted a.target r in
      record {
        head = λ p to. no_part_both ((codes_of c a.args).from p.at) end (quiet_no_part args ((codes_of c a.args).from p.at) (expressions_quiet c a.args p.at)) tt;
        first = λ p to. first_past (field_name scope a.field) ((codes_of c a.args).from p.at) end (quiet_no_access args ((codes_of c a.args).from p.at) (expressions_quiet c a.args p.at))
            (refl, quiet_no_part [] (code.targeted a.target r) (targeted_quiet scope a.target r));
      }

  gather_first : (g : Gather) → First (code.gather scope g) (Some ToEach)
  gather_first g = record {
    head = λ p to. (let q = behind_piece p (stored c g.args) in
        no_part_both ((stored c g.args).from p to) ((then_piece cut (visit scope g)).from q to) (quiet_no_part (in_all (map calling g.args)) ((stored c g.args).from p to) (stored_quiet scope g.args p.variable p.at)) tt);
    first = λ p to. tt;
  }

  pub tested_first : (x : Option Expression) → First (tested c x) None
  tested_first None = nothing_first
  tested_first (Some x) = record {
    head = λ p to. no_part_both ((code_of c x).from p.at) (instr.IfFalse to.break_to ∷ []) (quiet_no_part (calling x) ((code_of c x).from p.at) (expression_quiet c x p.at)) tt;
    first = λ p to. no_access_both ((code_of c x).from p.at) (instr.IfFalse to.break_to ∷ []) (quiet_no_access (calling x) ((code_of c x).from p.at) (expression_quiet c x p.at)) tt;
  }

  turn_first : First (of_instructions (instr.Turn ∷ [])) None
  turn_first = record { head = λ p to. tt; first = λ p to. tt }

  back_first : (again : ℕ) → First (in_order (of_instructions (instr.Jump again ∷ []) ∷ [])) None
  back_first again = record { head = λ p to. tt; first = λ p to. tt }

  pass_first : (x : Option Expression) (update : List Piece) (body : Piece) (again : ℕ) (r q : Option Reach) → First body r → First (in_order update) q → First (pass c x update body again) (first_of r q)
  pass_first x update body again r q b u =
      let last = in_order (of_instructions (instr.Jump again ∷ []) ∷ []) in
      let tail = none_after (then_piece (in_order update) last) q (then_first (in_order update) last q None u (back_first again)) in
      let from_body = then_first body (then_piece (in_order update) last) r q b tail in
      then_first (tested c x) (then_piece (of_instructions (instr.Turn ∷ [])) (then_piece body (then_piece (in_order update) last))) None (first_of r q) (tested_first x)
      (then_first (of_instructions (instr.Turn ∷ [])) (then_piece body (then_piece (in_order update) last)) None (first_of r q) turn_first from_body)

  passes_first : (x : Option Expression) (update : List Piece) (body : Piece) (r q : Option Reach) → First body r → First (in_order update) q → First (passes c x update body) (first_of r q)
  passes_first x update body r q b u = record {
    head = λ p to. (pass_first x update body p.at r q b u).head p (record { break_to = p.at + (pass c x update body 0).size; continue_to = next_pass p.at (p.at + (tested c x).size + 1 + body.size) update });
    first = λ p to. (pass_first x update body p.at r q b u).first p (record { break_to = p.at + (pass c x update body 0).size; continue_to = next_pass p.at (p.at + (tested c x).size + 1 + body.size) update });
  }

  abbrev Well : Statement → Type 0
  Well st = First (piece_of scope st) (accessing_in st).first

  abbrev One : Type 0
  One = (st : Statement) × Well st

  abbrev bare_one : Statement-F One → Statement-F Statement
  bare_one = map-Statement One Statement (λ p. p.0)

  abbrev bare_ones : List One → List Statement
  bare_ones ps = map (λ (p : One). p.0) ps

  ones_first : (ps : List One) → AllFirst (map (piece_of scope) (bare_ones ps)) (map accessing_in (bare_ones ps))
  ones_first [] = tt
  ones_first (p ∷ ps) = (p.1, ones_first ps)

  ones_in_order : (ps : List One) → First (in_order (map (piece_of scope) (bare_ones ps))) (one_by_one (map accessing_in (bare_ones ps))).first
  ones_in_order ps = list_first (map (piece_of scope) (bare_ones ps)) (map accessing_in (bare_ones ps)) (ones_first ps)

  statement_layer : (y : Statement-F One) → First (piece_step scope (map-Statement Statement Piece (piece_of scope) (bare_one y))) (accessing_step (map-Statement Statement Accessing accessing_in (bare_one y))).first
  statement_layer (s.Assign v x) = quiet_first (calling x) (behind (code_of c x) (instr.Store v)) (λ at. quiet_both (calling x) ((code_of c x).from at) (instr.Store v ∷ []) (expression_quiet c x at) (tt, tt))
  statement_layer (s.SetElement v i x) =
      let front = followed_by (code_of c i) (code_of c x) in
      none_after (of_code (behind front (instr.VectorSet v))) None
      (then_first (then_piece (of_code (code_of c i)) (of_code (code_of c x))) (of_instructions (instr.VectorSet v ∷ [])) None None
      (then_first (of_code (code_of c i)) (of_code (code_of c x)) None None (test_first i) (test_first x))
      (quiet_first [] (plain (instr.VectorSet v ∷ [])) (λ at. (tt, tt))))
  statement_layer (s.Evaluate x) =
      quiet_first (calling x) (followed_by (code_of c x) (plain (dropped (type_of c x)))) (λ at. quiet_both (calling x) ((code_of c x).from at) (dropped (type_of c x)) (expression_quiet c x at) (dropped_quiet scope (calling x) (type_of c x)))
  statement_layer (s.Access a) = access_first a
  statement_layer (s.Gather g) = gather_first g
  statement_layer (s.Marked mark body) =
      then_first (of_code (key_code scope mark.key)) (then_piece cut (piece_of scope body.0)) None (accessing_in body.0).first (key_first mark.key) (then_first cut (piece_of scope body.0) None (accessing_in body.0).first cut_first body.1)
  statement_layer (s.Opened body) = body.1
  statement_layer (s.Block items) = ones_in_order items
  statement_layer (s.If test first None) =
      then_first (of_code (code_of c test)) (guarded 0 (piece_of scope first.0)) None (accessing_in first.0).first (test_first test) (guarded_first 0 (piece_of scope first.0) (accessing_in first.0).first first.1)
  statement_layer (s.If test first (Some second)) =
      let r = (accessing_in first.0).first in
      let q = (accessing_in second.0).first in
      then_first (of_code (code_of c test)) (then_piece (guarded 1 (piece_of scope first.0)) (jumped_over (piece_of scope second.0))) None (first_of r q) (test_first test)
      (then_first (guarded 1 (piece_of scope first.0)) (jumped_over (piece_of scope second.0)) r q (guarded_first 1 (piece_of scope first.0) r first.1) (jumped_first (piece_of scope second.0) q second.1))
  statement_layer (s.Loop start test update body) =
      let r = (accessing_in body.0).first in
      let q = (one_by_one (map accessing_in (bare_ones update))).first in
      then_first (in_order (map (piece_of scope) (bare_ones start))) (passes c test (map (piece_of scope) (bare_ones update)) (piece_of scope body.0)) (one_by_one (map accessing_in (bare_ones start))).first (first_of r q)
      (ones_in_order start) (passes_first test (map (piece_of scope) (bare_ones update)) (piece_of scope body.0) r q body.1 (ones_in_order update))
  statement_layer s.Break = record { head = λ p to. tt; first = λ p to. tt }
  statement_layer s.Continue = record { head = λ p to. tt; first = λ p to. tt }
  statement_layer (s.Return None) = record { head = λ p to. tt; first = λ p to. tt }
  statement_layer (s.Return (Some x)) = quiet_first (calling x) (behind (code_of c x) instr.Return) (λ at. quiet_both (calling x) ((code_of c x).from at) (instr.Return ∷ []) (expression_quiet c x at) (tt, tt))

  statement_made : (x : Statement-F Statement) (y : Statement-F One) → bare_one y ≡ x → Well (roll-Statement x)
  statement_made x y is =
      let piece = fold-roll-Statement Piece (piece_step scope) x in
      let found = fold-roll-Statement Accessing accessing_step x in
      let P : Statement-F Statement → Type 0 = λ z. First (piece_step scope (map-Statement Statement Piece (piece_of scope) z)) (accessing_step (map-Statement Statement Accessing accessing_in z)).first in
      let all : P x = subst P is (statement_layer y) in
      subst (λ (p : Piece). First p (accessing_in (roll-Statement x)).first) (sym piece) (subst (λ (a : Accessing). First (piece_step scope (map-Statement Statement Piece (piece_of scope) x)) a.first) (sym found) all)

  pub statement_first : (st : Statement) → First (piece_of scope st) (accessing_in st).first
  statement_first = ind-Statement Well statement_made

  pub statements_headed : (xs : List Statement) → AllHeaded (map (piece_of scope) xs)
  statements_headed [] = tt
  statements_headed (x ∷ xs) = ((statement_first x).head, statements_headed xs)
