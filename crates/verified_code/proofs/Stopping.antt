-- The code of statements that can't complete ends in an instruction behind which nothing goes on.
use Rattle.std.proofs.Common.{◌≡◌, refl, sym, subst, Bool, true, false, ◌+◌, List, [], ◌∷◌, ◌++◌, map, Option, Some, None}
use Rattle.std.specs.Prelude.{◌||◌}
use Rattle.std.proofs.lemmas.Bool.{false≢true}
use Rattle.flat_code.specs.declared.graph.Instr.{Instr}
use Rattle.flat_code.specs.declared.graph.Instr.TheVariants as instr
use Rattle.access_blocks.specs.declared.body.Access.{Access}
use Rattle.access_blocks.specs.declared.body.Expression.{Expression}
use Rattle.access_blocks.specs.declared.body.Target.{Target}
use Rattle.access_blocks.specs.declared.body.Target.TheVariants as target
use Rattle.access_blocks.specs.declared.body.Statement.{Statement, roll-Statement}
use Rattle.access_blocks.specs.declared.body.Statement.TheOpen.{Statement-F}
use Rattle.access_blocks.specs.declared.body.Statement.TheOpen as s
use Rattle.access_blocks.specs.declared.body.Statement.TheFolds.{fold-roll-Statement, ind-Statement, map-Statement}
use Rattle.sdg_base.specs.declared.value_type.ValueType.{ValueType}
use Rattle.body_code.specs.ExpressionCode.{code_of, codes_of}
use Rattle.body_code.specs.StatementCode.{Place, Exits, Piece, Scope, moved, behind_piece, of_code, of_instructions, then_piece, in_order, cut, key_code, guarded, jumped_over, tested, pass, next_pass, passes, field_name, signature_of, result_of, piece_step, piece_of, pieces_of}
use Rattle.body_code.specs.StatementCode as code
use Rattle.body_code.specs.Completing.{Leaving, leaving_step, leaving_of, completing, body_completes}

abbrev pub Ends : Instr → Type 0
Ends (instr.Jump to) = Unit {0}
Ends instr.Return = Unit {0}
Ends instr.ReturnVoid = Unit {0}
Ends _ = ⊥

abbrev pub Stops : List Instr → Type 0
Stops [] = ⊥
Stops (i ∷ []) = Ends i
Stops (i ∷ j ∷ is) = Stops (j ∷ is)

pub stops_behind : (xs ys : List Instr) → Stops ys → Stops (xs ++ ys)
stops_behind [] ys h = h
stops_behind (x ∷ []) [] h = absurd h
stops_behind (x ∷ []) (y ∷ ys) h = h
stops_behind (x ∷ z ∷ xs) ys h = stops_behind (z ∷ xs) ys h

stops_before_none : (xs : List Instr) → Stops xs → Stops (xs ++ [])
stops_before_none [] h = h
stops_before_none (x ∷ []) h = h
stops_before_none (x ∷ z ∷ xs) h = stops_before_none (z ∷ xs) h

or_none : (a b : Bool) → (a || b) ≡ false → (a ≡ false) × (b ≡ false)
or_none true b e = absurd (false≢true (sym e))
or_none false b e = (refl, e)

module _ (scope : Scope) where
  abbrev Halts : Piece → Leaving → Type 0
  Halts piece l = l.completes ≡ false → (p : Place) (to : Exits) → Stops (piece.from p to)

  abbrev Good : Statement → Type 0
  Good x = Halts (piece_of scope x) (leaving_of x)

  abbrev Part : Type 0
  Part = (x : Statement) × Good x

  abbrev bare : Statement-F Part → Statement-F Statement
  bare = map-Statement Part Statement (λ p. p.0)

  abbrev bares : List Part → List Statement
  bares ps = map (λ (p : Part). p.0) ps

  list_halts : (ps : List Part) → completing (map leaving_of (bares ps)) ≡ false → (p : Place) (to : Exits) → Stops ((in_order (map (piece_of scope) (bares ps))).from p to)
  list_halts [] e p to = absurd (false≢true (sym e))
  list_halts (x ∷ []) e p to = stops_before_none ((piece_of scope x.0).from p to) (x.1 e p to)
  list_halts (x ∷ y ∷ ps) e p to =
      stops_behind ((piece_of scope x.0).from p to) ((in_order (map (piece_of scope) (bares (y ∷ ps)))).from (behind_piece p (piece_of scope x.0)) to) (list_halts (y ∷ ps) e (behind_piece p (piece_of scope x.0)) to)

  access_halts : (a : Access) → Halts (of_code (code.access scope a)) (leaving_step (s.Access a))
  access_halts a e p to = by a.target e (result_of (signature_of scope a.field a.method))
    where
      by : (t : Target) → (leaving_step (s.Access (record a { target = t }))).completes ≡ false → (r : ValueType) → Stops ((codes_of scope.context a.args).from p.at ++ (instr.Access (field_name scope a.field) a.method ∷ code.targeted t r))
      by target.Dropped e r = absurd (false≢true (sym e))
      by (target.Variable v) e r = absurd (false≢true (sym e))
      by target.Returned e r = stops_behind ((codes_of scope.context a.args).from p.at) (instr.Access (field_name scope a.field) a.method ∷ instr.Return ∷ []) tt

  loop_halts : (start : Piece) (x : Option Expression) (update : List Piece) (body : Piece) (p : Place) (to : Exits) → Stops ((then_piece start (passes scope.context x update body)).from p to)
  loop_halts start x update body p to =
      let q = behind_piece p start in
      let exits : Exits = record { break_to = q.at + (pass scope.context x update body 0).size; continue_to = next_pass q.at (q.at + (tested scope.context x).size + 1 + body.size) update } in
      let turn_at = behind_piece q (tested scope.context x) in
      let body_at = behind_piece turn_at (of_instructions (instr.Turn ∷ [])) in
      let update_at = behind_piece body_at body in
      let jump : List Instr = instr.Jump q.at ∷ [] in
      let code_u = (in_order update).from update_at exits ++ jump in
      let code_b = body.from body_at exits ++ code_u in
      stops_behind (start.from p to) ((tested scope.context x).from q exits ++ (instr.Turn ∷ code_b))
      (stops_behind ((tested scope.context x).from q exits) (instr.Turn ∷ code_b)
      (stops_behind (instr.Turn ∷ []) code_b (stops_behind (body.from body_at exits) code_u (stops_behind ((in_order update).from update_at exits) jump tt))))

  layer : (y : Statement-F Part) → Halts (piece_step scope (map-Statement Statement Piece (piece_of scope) (bare y))) (leaving_step (map-Statement Statement Leaving leaving_of (bare y)))
  layer (s.Assign v x) e p to = absurd (false≢true (sym e))
  layer (s.SetElement v at x) e p to = absurd (false≢true (sym e))
  layer (s.Evaluate x) e p to = absurd (false≢true (sym e))
  layer (s.Access a) e p to = access_halts a e p to
  layer (s.Gather g) e p to = absurd (false≢true (sym e))
  layer (s.Marked mark body) e p to =
      let key = of_code (key_code scope mark.key) in
      let cut_at = behind_piece p key in
      let body_at = behind_piece cut_at cut in
      stops_behind (key.from p to) (cut.from cut_at to ++ (piece_of scope body.0).from body_at to) (stops_behind (cut.from cut_at to) ((piece_of scope body.0).from body_at to) (body.1 e body_at to))
  layer (s.Opened body) e p to = body.1 e p to
  layer (s.Block items) e p to = list_halts items e p to
  layer (s.If test first None) e p to = absurd (false≢true (sym e))
  layer (s.If test first (Some second)) e p to =
      let none = or_none (leaving_of first.0).completes (leaving_of second.0).completes e in
      let test_at = behind_piece p (of_code (code_of scope.context test)) in
      let jump_at = behind_piece test_at (guarded 1 (piece_of scope first.0)) in
      let last = (jumped_over (piece_of scope second.0)).from jump_at to in
      stops_behind ((code_of scope.context test).from p.at) ((guarded 1 (piece_of scope first.0)).from test_at to ++ last)
      (stops_behind ((guarded 1 (piece_of scope first.0)).from test_at to) last
      (stops_behind (instr.Jump (jump_at.at + 1 + (piece_of scope second.0).size) ∷ []) ((piece_of scope second.0).from (moved 1 jump_at) to) (second.1 none.1 (moved 1 jump_at) to)))
  layer (s.Loop start test update body) e p to = loop_halts (in_order (map (piece_of scope) (bares start))) test (map (piece_of scope) (bares update)) (piece_of scope body.0) p to
  layer s.Break e p to = tt
  layer s.Continue e p to = tt
  layer (s.Return None) e p to = tt
  layer (s.Return (Some x)) e p to = stops_behind ((code_of scope.context x).from p.at) (instr.Return ∷ []) tt

  made_good : (x : Statement-F Statement) (y : Statement-F Part) → bare y ≡ x → Good (roll-Statement x)
  made_good x y is =
      let piece = fold-roll-Statement Piece (piece_step scope) x in
      let leaves = fold-roll-Statement Leaving leaving_step x in
      let P : Statement-F Statement → Type 0 = λ z. Halts (piece_step scope (map-Statement Statement Piece (piece_of scope) z)) (leaving_step (map-Statement Statement Leaving leaving_of z)) in
      let all : P x = subst P is (layer y) in
      subst (λ (p : Piece). Halts p (leaving_of (roll-Statement x))) (sym piece) (subst (λ (l : Leaving). Halts (piece_step scope (map-Statement Statement Piece (piece_of scope) x)) l) (sym leaves) all)

  statement_halts : (x : Statement) → Good x
  statement_halts = ind-Statement Good made_good

  pub statements_halt : (xs : List Statement) → body_completes xs ≡ false → (p : Place) (to : Exits) → Stops ((pieces_of scope xs).from p to)
  statements_halt [] e p to = absurd (false≢true (sym e))
  statements_halt (x ∷ []) e p to = stops_before_none ((piece_of scope x).from p to) (statement_halts x e p to)
  statements_halt (x ∷ y ∷ xs) e p to =
      stops_behind ((piece_of scope x).from p to) ((pieces_of scope (y ∷ xs)).from (behind_piece p (piece_of scope x)) to) (statements_halt (y ∷ xs) e (behind_piece p (piece_of scope x)) to)
