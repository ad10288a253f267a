-- The code of statements is as long as its size says, whatever its place.
use Rattle.std.proofs.Common.{◌≡◌, ◌+◌, ℕ, zero, suc, List, [], ◌∷◌, length, map, Option, Some, None, refl, sym, ap, subst, ◌∙◌, length-append, arith}
use Rattle.std.specs.List.{range_with_len}
use Rattle.flat_code.specs.declared.graph.Instr.{Instr}
use Rattle.flat_code.specs.declared.graph.Instr.TheVariants as instr
use Rattle.access_blocks.specs.declared.body.Access.{Access}
use Rattle.access_blocks.specs.declared.body.Expression.{Expression}
use Rattle.access_blocks.specs.declared.body.Gather.{Gather}
use Rattle.access_blocks.specs.declared.body.Mark.{Mark}
use Rattle.access_blocks.specs.declared.body.Statement.{Statement, roll-Statement}
use Rattle.access_blocks.specs.declared.body.Statement.TheOpen.{Statement-F}
use Rattle.access_blocks.specs.declared.body.Statement.TheOpen as s
use Rattle.access_blocks.specs.declared.body.Statement.TheFolds.{fold-roll-Statement, ind-Statement, map-Statement}
use Rattle.body_code.specs.Typing.{Context, type_of}
use Rattle.body_code.specs.Codes.{Code, plain, nothing, followed_by}
use Rattle.body_code.specs.ExpressionCode.{behind, code_of, codes_of}
use Rattle.body_code.specs.StatementCode.{Piece, Scope, moved, behind_piece, of_code, of_instructions, then_piece, in_order, access, targeted, result_of, signature_of, field_name, key_code, cut, marked, stored_from, stored, visit, gather, guarded, jumped_over, branches, tested, passes, returned, dropped, piece_step, piece_of, pieces_of}
use Rattle.code_meaning.specs.Laid.{IsSized, IsSizedPiece}
use Rattle.code_meaning.proofs.Sizes.{followed_sized, behind_sized, code_sized, codes_sized}

pub of_code_sized : (k : Code) → IsSized k → IsSizedPiece (of_code k)
of_code_sized k h p exits = h p.at

pub plain_sized : (is : List Instr) → IsSized (plain is)
plain_sized is at = refl

pub then_sized : (a b : Piece) → IsSizedPiece a → IsSizedPiece b → IsSizedPiece (then_piece a b)
then_sized a b ha hb p exits =
    let x = length-append (a.from p exits) (b.from (behind_piece p a) exits) in
    let y = ha p exits in
    let z = hb (behind_piece p a) exits in
    omega arith

pub guarded_sized : (over : ℕ) (a : Piece) → IsSizedPiece a → IsSizedPiece (guarded over a)
guarded_sized over a ha p exits = let y = ha (moved 1 p) exits in omega arith

jumped_sized : (a : Piece) → IsSizedPiece a → IsSizedPiece (jumped_over a)
jumped_sized a ha p exits = let y = ha (moved 1 p) exits in omega arith

pub SizedSecond : Option Piece → Type 0
SizedSecond None = Unit {0}
SizedSecond (Some a) = IsSizedPiece a

pub branches_sized : (test : Code) (a : Piece) (o : Option Piece) → IsSized test → IsSizedPiece a → SizedSecond o → IsSizedPiece (branches test a o)
unfolding SizedSecond
branches_sized test a None ht ha ho = then_sized (of_code test) (guarded 0 a) (of_code_sized test ht) (guarded_sized 0 a ha)
branches_sized test a (Some b) ht ha ho =
    then_sized (of_code test) (then_piece (guarded 1 a) (jumped_over b)) (of_code_sized test ht) (then_sized (guarded 1 a) (jumped_over b) (guarded_sized 1 a ha) (jumped_sized b ho))

pub tested_sized : (c : Context) (test : Option Expression) → IsSizedPiece (tested c test)
tested_sized c None p exits = refl
tested_sized c (Some x) p exits = behind_sized (code_of c x) (instr.IfFalse exits.break_to) (code_sized c x) p.at

-- a pass from its end on
abbrev pub way_back : ℕ → Piece
way_back again = then_piece (of_instructions (instr.Jump again ∷ [])) (of_code nothing)

abbrev pub updated : Piece → ℕ → Piece
updated update again = then_piece update (way_back again)

abbrev pub bodied : Piece → Piece → ℕ → Piece
bodied update body again = then_piece body (updated update again)

abbrev pub turned : Piece → Piece → ℕ → Piece
turned update body again = then_piece (of_instructions (instr.Turn ∷ [])) (bodied update body again)

pub back_sized : (again : ℕ) → IsSizedPiece (way_back again)
back_sized again p exits = refl

pub pass_sized : (c : Context) (test : Option Expression) (update body : Piece) (again : ℕ) → IsSizedPiece update → IsSizedPiece body → IsSizedPiece (then_piece (tested c test) (turned update body again))
pass_sized c test update body again hu hb =
    then_sized (tested c test) (turned update body again) (tested_sized c test)
    (then_sized (of_instructions (instr.Turn ∷ [])) (bodied update body again) (λ p exits. refl)
    (then_sized body (updated update again) hb (then_sized update (way_back again) hu (back_sized again))))

pub passes_sized : (c : Context) (test : Option Expression) (update : List Piece) (body : Piece) → IsSizedPiece (in_order update) → IsSizedPiece body → IsSizedPiece (passes c test update body)
passes_sized c test update body hu hb p exits = pass_sized c test (in_order update) body p.at hu hb p _

targeted_sized : (scope : Scope) (a : Access) → IsSized (access scope a)
targeted_sized scope a =
    followed_sized (codes_of scope.context a.args) (plain (instr.Access (field_name scope a.field) a.method ∷ targeted a.target (result_of (signature_of scope a.field a.method)))) (codes_sized scope.context a.args) (λ at. refl)

pub stored_sized : (c : Context) (xs : List Expression) (v : ℕ) → IsSized (stored_from c xs v)
stored_sized c [] v at = refl
stored_sized c (x ∷ xs) v at = followed_sized (behind (code_of c x) (instr.Store v)) (stored_from c xs (suc v)) (behind_sized (code_of c x) (instr.Store v) (code_sized c x)) (stored_sized c xs (suc v)) at

-- The variables that are stored to do not change the size.
pub stored_size : (c : Context) (xs : List Expression) (v w : ℕ) → (stored_from c xs v).size ≡ (stored_from c xs w).size
stored_size c [] v w = refl
stored_size c (x ∷ xs) v w = ap (λ n. (code_of c x).size + 1 + n) (stored_size c xs (suc v) (suc w))

pub stored_piece_sized : (c : Context) (xs : List Expression) → IsSizedPiece (stored c xs)
stored_piece_sized c xs p exits = stored_sized c xs p.variable p.at ∙ stored_size c xs p.variable 0

pub loads_length : (v n : ℕ) → length (map instr.Load (range_with_len v n)) ≡ n
loads_length v zero = refl
loads_length v (suc n) = ap suc (loads_length (v + 1) n)

visit_sized : (scope : Scope) (g : Gather) → IsSizedPiece (visit scope g)
visit_sized scope g p exits =
    let x = length-append (map instr.Load (range_with_len p.variable (length g.args))) (instr.Access (field_name scope g.field) g.method ∷ instr.Part p.task ∷ []) in
    let y = loads_length p.variable (length g.args) in
    omega arith

pub key_sized : (scope : Scope) (key : Option Expression) → IsSized (key_code scope key)
key_sized scope None at = refl
key_sized scope (Some x) at = code_sized scope.context x at

pub marked_sized : (scope : Scope) (mark : Mark) (body : Piece) → IsSizedPiece body → IsSizedPiece (marked scope mark body)
marked_sized scope mark body hb =
    then_sized (of_code (key_code scope mark.key)) (then_piece cut body) (of_code_sized (key_code scope mark.key) (key_sized scope mark.key)) (then_sized cut body (λ p exits. refl) hb)

pub gather_sized : (scope : Scope) (g : Gather) → IsSizedPiece (gather scope g)
gather_sized scope g =
    then_sized (stored scope.context g.args) (then_piece cut (visit scope g)) (stored_piece_sized scope.context g.args) (then_sized cut (visit scope g) (λ p exits. refl) (visit_sized scope g))

returned_sized : (c : Context) (x : Option Expression) → IsSized (returned c x)
returned_sized c None at = refl
returned_sized c (Some x) at = behind_sized (code_of c x) instr.Return (code_sized c x) at

module _ (scope : Scope) where
  abbrev Part : Type 0
  Part = (x : Statement) × IsSizedPiece (piece_of scope x)

  abbrev bare : Statement-F Part → Statement-F Statement
  bare = map-Statement Part Statement (λ x. x.0)

  abbrev pieces : Statement-F Statement → Statement-F Piece
  pieces = map-Statement Statement Piece (piece_of scope)

  list_sized : (xs : List Part) → IsSizedPiece (in_order (map (piece_of scope) (map (λ x. x.0) xs)))
  list_sized [] p exits = refl
  list_sized (x ∷ xs) p exits = then_sized (piece_of scope x.0) (in_order (map (piece_of scope) (map (λ (y : Part). y.0) xs))) x.1 (list_sized xs) p exits

  layer_sized : (y : Statement-F Part) → IsSizedPiece (piece_step scope (pieces (bare y)))
  unfolding SizedSecond
  layer_sized (s.Assign v x) = of_code_sized _ (behind_sized (code_of scope.context x) (instr.Store v) (code_sized scope.context x))
  layer_sized (s.SetElement v at x) =
      of_code_sized _ (behind_sized (followed_by (code_of scope.context at) (code_of scope.context x)) (instr.VectorSet v) (followed_sized (code_of scope.context at) (code_of scope.context x) (code_sized scope.context at) (code_sized scope.context x)))
  layer_sized (s.Evaluate x) = of_code_sized _ (followed_sized (code_of scope.context x) (plain (dropped (type_of scope.context x))) (code_sized scope.context x) (λ at. refl))
  layer_sized (s.Access a) = of_code_sized _ (targeted_sized scope a)
  layer_sized (s.Gather g) = gather_sized scope g
  layer_sized (s.Marked mark body) = marked_sized scope mark (piece_of scope body.0) body.1
  layer_sized (s.Opened body) = body.1
  layer_sized (s.Block items) = list_sized items
  layer_sized (s.If test first None) = branches_sized (code_of scope.context test) (piece_of scope first.0) None (code_sized scope.context test) first.1 tt
  layer_sized (s.If test first (Some second)) = branches_sized (code_of scope.context test) (piece_of scope first.0) (Some (piece_of scope second.0)) (code_sized scope.context test) first.1 second.1
  layer_sized (s.Loop start test update body) =
      then_sized (in_order (map (piece_of scope) (map (λ (x : Part). x.0) start))) (passes scope.context test (map (piece_of scope) (map (λ (x : Part). x.0) update)) (piece_of scope body.0)) (list_sized start)
      (passes_sized scope.context test (map (piece_of scope) (map (λ (x : Part). x.0) update)) (piece_of scope body.0) (list_sized update) body.1)
  layer_sized s.Break = λ p exits. refl
  layer_sized s.Continue = λ p exits. refl
  layer_sized (s.Return x) = of_code_sized _ (returned_sized scope.context x)

  made_sized : (x : Statement-F Statement) (y : Statement-F Part) → bare y ≡ x → IsSizedPiece (piece_of scope (roll-Statement x))
  made_sized x y is =
      let P : Statement-F Statement → Type 0 = λ x. IsSizedPiece (piece_step scope (pieces x)) in
      subst IsSizedPiece (sym (fold-roll-Statement Piece (piece_step scope) x)) (subst P is (layer_sized y))

  pub piece_sized : (x : Statement) → IsSizedPiece (piece_of scope x)
  piece_sized = ind-Statement (λ x. IsSizedPiece (piece_of scope x)) made_sized

  pub pieces_sized : (xs : List Statement) → IsSizedPiece (pieces_of scope xs)
  pieces_sized [] p exits = refl
  pieces_sized (x ∷ xs) p exits = then_sized (piece_of scope x) (pieces_of scope xs) (piece_sized x) (pieces_sized xs) p exits
