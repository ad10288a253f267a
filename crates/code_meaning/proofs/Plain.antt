-- The code of statements without marks does what they mean.
use mathlib.Core.Path.{transport}
use Rattle.std.proofs.Common.{◌≡◌, ◌<◌, refl, sym, subst, ◌∙◌, ℕ, suc, ◌+◌, arith, Bool, true, false, ◌&&◌, if◌then◌else◌, List, [], ◌∷◌, map, Option, Some, None, slice_get}
use Rattle.std.proofs.lemmas.Bool.{false≢true}
use Rattle.sdg_base.specs.declared.val.Val.{Val}
use Rattle.sdg_base.specs.declared.val.Val.TheVariants as val
use Rattle.sdg_base.specs.declared.value_type.ValueType.TheVariants as type
use Rattle.state_classes.specs.States.{State}
use Rattle.flat_code.specs.declared.graph.Instr.TheVariants as instr
use Rattle.access_blocks.specs.declared.body.Expression.{Expression}
use Rattle.access_blocks.specs.declared.body.Statement.{Statement, roll-Statement}
use Rattle.access_blocks.specs.declared.body.Statement.TheOpen.{Statement-F}
use Rattle.access_blocks.specs.declared.body.Statement.TheOpen as s
use Rattle.access_blocks.specs.declared.body.Statement.TheFolds.{fold-roll-Statement, ind-Statement, map-Statement}
use Rattle.access_blocks.specs.Expressions.{is_true, value_of}
use Rattle.access_blocks.specs.Statements.{Machine, Completed, normal, seen_by, with_turns, evaluated, after, Running, looped, statement_step, meaning, meanings}
use Rattle.body_code.specs.Early.{is_in}
use Rattle.body_code.specs.Codes.{nothing}
use Rattle.body_code.specs.ExpressionCode.{code_of}
use Rattle.body_code.specs.StatementCode.{Place, Exits, Piece, moved, behind_piece, of_code, then_piece, in_order, guarded, jumped_over, branches, looped as looped_piece, passes as passes_piece, piece_step, piece_of, pieces_of}
use Rattle.body_code.specs.Checking.{Surroundings, Standing, Around, Checking, after_compound, meet, common, same_number, same_value, compound, met, takes, is_condition, ends_as, covers, checked_step, checked, checked_list}
use Rattle.body_code.specs.Checking as checking
use Rattle.code_meaning.specs.Laid.{IsSizedPiece, IsLaid, frame, Leads}
use Rattle.code_meaning.specs.Running.{Below, Ground, IsGround, scope_on, Agrees, Completes, all_plain, plain_step, is_plain, PlainStatementsDoWhatTheyMean}
use Rattle.code_meaning.proofs.Lists.{none_some, some_is, both_true}
use Rattle.code_meaning.proofs.Running.{laid_two, one_step, leads_to}
use Rattle.code_meaning.proofs.Evaluations.{boolean_cases}
use Rattle.code_meaning.proofs.Sizes.{code_sized}
use Rattle.code_meaning.proofs.Agreeing.{agrees_below, same_number_is, same_value_is, covers_below, agrees_fewer}
use Rattle.code_meaning.proofs.Completing.{completes_on, completes_wider, completes_to, completes_below, after_goes, completes_already, value_goes, completes_jump}
use Rattle.code_meaning.proofs.PieceSizes.{guarded_sized, piece_sized, pieces_sized}
use Rattle.code_meaning.proofs.Growing.{Grows, AllGrow, if_so_is, if_then, next_is, checked_grows, list_checked_grows}
use Rattle.code_meaning.proofs.Simple.{Does, assign_does, set_element_does, evaluate_does, return_does, break_does, continue_does, access_does, evaluates_taken}
use Rattle.code_meaning.proofs.Loops.{not_broken, passes_go}

-- ---- standings

pub compound_below : (st end : Standing) → Grows st end → Below end (after_compound st end)
compound_below st end grows = record { known = grows; field = λ f is. is; gathered = λ t is. is }

common_is : {A : Type 0} (b : Bool) (o : Option A) (x : A) → common b o ≡ Some x → (b ≡ true) × (o ≡ Some x)
common_is true o x is = (refl, is)
common_is false o x is = absurd (none_some x is)

pub meet_first : (st a b : Standing) → Grows st a → Below a (meet st a b)
meet_first st a b grows = record {
  known = grows;
  field = λ f is. (common_is (same_number a.field b.field) a.field f is).1;
  gathered = λ t is. (common_is (same_value a.gathered b.gathered) a.gathered t is).1;
}

pub meet_second : (st a b : Standing) → Grows st b → Below b (meet st a b)
meet_second st a b grows = record {
  known = grows;
  field = λ f is. let k = common_is (same_number a.field b.field) a.field f is in sym (same_number_is a.field b.field k.0) ∙ k.1;
  gathered = λ t is. let k = common_is (same_value a.gathered b.gathered) a.gathered t is in sym (same_value_is a.gathered b.gathered k.0) ∙ k.1;
}

pub met_is : (st : Standing) (o p : Option Standing) (end : Standing) → met st o p ≡ Some end → (a : Standing) × (b : Standing) × (o ≡ Some a) × (p ≡ Some b) × (meet st a b ≡ end)
met_is st (Some a) (Some b) end is = (a, b, refl, refl, some_is (meet st a b) end is)
met_is st (Some a) None end is = absurd (none_some end is)
met_is st None p end is = absurd (none_some end is)

pub compound_is : (st : Standing) (o : Option Standing) (end : Standing) → compound st o ≡ Some end → (a : Standing) × (o ≡ Some a) × (after_compound st a ≡ end)
compound_is st None end is = absurd (none_some end is)
compound_is st (Some a) end is = (a, refl, some_is (after_compound st a) end is)

pub opened_is : (st : Standing) (o : Option Standing) (end : Standing) → checking.opened st o ≡ Some end → (a : Standing) × (o ≡ Some a) × (checking.outside st ≡ end)
opened_is st None end is = absurd (none_some end is)
opened_is st (Some a) end is = (a, refl, some_is (checking.outside st) end is)

pub ends_as_is : (need : Standing) (o : Option Standing) → ends_as need o ≡ true → (a : Standing) × (o ≡ Some a) × Below a need
ends_as_is need None is = absurd (false≢true is)
ends_as_is need (Some a) is = (a, refl, covers_below a need is)

pub each_bool : (P : Bool → Type 0) → P true → P false → (b : Bool) → P b
each_bool P t f true = t
each_bool P t f false = f

module _ {g : Ground} (ground : IsGround g) where
  -- ---- one after the other

  pub nothing_does : Does ground (λ loop st. Some st) (of_code nothing) normal
  nothing_does loop st end p exits is laid variables state m h =
      let e : p.at ≡ p.at + 0 = omega arith in
      subst (λ z. Completes g loop exits 0 (frame p.at [] variables m.turns) state (p.at + 0) z (normal m)) (some_is st end is) (completes_to e (completes_already h))

  pub then_does : (ca cb : Checking) (a b : Piece) (ra rb : Running) → IsSizedPiece a → Does ground ca a ra → Does ground cb b rb
      → Does ground (λ loop st. checking.next (cb loop) (ca loop st)) (then_piece a b) (λ m. after (ra m) rb)
  then_does ca cb a b ra rb sized da db loop st end p exits is laid variables state m h =
      let k = next_is (cb loop) (ca loop st) end is in
      let parts = laid_two g.code p.at a.size (a.from p exits) (b.from (behind_piece p a) exits) (sized p exits) laid in
      let e : p.at + a.size + b.size ≡ p.at + (a.size + b.size) = omega arith in
      completes_to e (after_goes (ra m) rb (da loop st k.0 p exits k.1 parts.0 variables state m h) (λ ws b' h'. db loop k.0 end (behind_piece p a) exits k.2 parts.1 ws b' (ra m).machine h'))

  -- ---- one of two

  guarded_true : {loop : Around} {exits : Exits} {end : Standing} {variables : List Val} {state : State} (m : Machine) (over : ℕ) (a : Piece) (p : Place) (c : Completed) → IsLaid g.code p.at ((guarded over a).from p exits)
      → (IsLaid g.code (p.at + 1) (a.from (moved 1 p) exits) → Completes g loop exits a.size (frame (p.at + 1) [] variables m.turns) state (p.at + 1 + a.size) end c)
      → Completes g loop exits (1 + a.size) (frame p.at (val.Bool true ∷ []) variables m.turns) state (p.at + 1 + a.size) end c
  guarded_true {exits = exits} m over a p c laid first =
      let e : suc p.at ≡ p.at + 1 = omega arith in
      completes_on (leads_to g.setting g.code e (one_step g.setting g.code (instr.IfFalse (p.at + 1 + a.size + over)) laid.0 refl (omega arith))) (first (subst (λ k. IsLaid g.code k (a.from (moved 1 p) exits)) e laid.1))

  guarded_false : (exits : Exits) {variables : List Val} {state : State} {turns : ℕ} (over : ℕ) (a : Piece) (p : Place) → IsLaid g.code p.at ((guarded over a).from p exits)
      → Leads g.setting g.code 1 (frame p.at (val.Bool false ∷ []) variables turns) state (frame (p.at + 1 + a.size + over) [] variables turns) state
  guarded_false exits over a p laid = one_step g.setting g.code (instr.IfFalse (p.at + 1 + a.size + over)) laid.0 refl (omega arith)

  pub if_alone_does : (test : Expression) (ca : Checking) (a : Piece) (ra : Running) → AllGrow ca → Does ground ca a ra
      → Does ground (checking.branching g.around test ca None) (branches (code_of g.around.context test) a None) (λ m. evaluated g.calls test m (λ holds n. if is_true holds then ra n else normal n))
  if_alone_does test ca a ra grows da loop st end p exits is laid variables state m h =
      let k = if_then (takes g.around st test type.Boolean) (met st (ca loop st) (Some st)) end is in
      let l = met_is st (ca loop st) (Some st) end k.1 in
      let c = code_of g.around.context test in
      let parts = laid_two g.code p.at c.size (c.from p.at) ((guarded 0 a).from (behind_piece p (of_code c)) exits) (code_sized g.around.context test p.at) laid in
      let q : Place = behind_piece p (of_code c) in
      let e1 : q.at + 1 + a.size ≡ p.at + (c.size + (a.size + 1)) = omega arith in
      let e2 : q.at + 1 + a.size + 0 ≡ p.at + (c.size + (a.size + 1)) = omega arith in
      let same : st ≡ l.1 = some_is st l.1 l.3 in
      subst (λ z. Completes g loop exits (c.size + (a.size + 1)) (frame p.at [] variables m.turns) state (p.at + (c.size + (a.size + 1))) z (evaluated g.calls test m (λ holds n. if is_true holds then ra n else normal n))) l.4
      (value_goes (value_of g.calls test (seen_by m) m.turns) m (λ holds n. if is_true holds then ra n else normal n) tt h.fields (evaluates_taken ground h test type.Boolean p.at [] k.0 parts.0) (λ v left has less.
      let later = agrees_fewer left less h in
      boolean_cases (λ v. Completes g loop exits (a.size + 1) (frame q.at (v ∷ []) variables left) state (p.at + (c.size + (a.size + 1))) (meet st l.0 l.1) (if is_true v then ra (with_turns left m) else normal (with_turns left m))) v has
      (each_bool (λ b. Completes g loop exits (a.size + 1) (frame q.at (val.Bool b ∷ []) variables left) state (p.at + (c.size + (a.size + 1))) (meet st l.0 l.1) (if b then ra (with_turns left m) else normal (with_turns left m)))
      (completes_below (meet_first st l.0 l.1 (grows loop st l.0 l.2)) (completes_wider (omega arith) (completes_to e1 (guarded_true (with_turns left m) 0 a q (ra (with_turns left m)) parts.1 (λ there. da loop st l.0 (moved 1 q) exits l.2 there variables state (with_turns left m) later)))))
      (completes_below (meet_second st l.0 l.1 (λ v known. subst (λ (z : Standing). is_in v z.known ≡ true) same known)) (completes_wider (omega arith) (completes_to e2 (completes_on (guarded_false exits 0 a q parts.1) (completes_already (subst (λ z. Agrees g z variables state (with_turns left m)) same later)))))))))

  pub if_else_does : (test : Expression) (ca cb : Checking) (a b : Piece) (ra rb : Running) → IsSizedPiece a → AllGrow ca → AllGrow cb → Does ground ca a ra → Does ground cb b rb
      → Does ground (checking.branching g.around test ca (Some cb)) (branches (code_of g.around.context test) a (Some b)) (λ m. evaluated g.calls test m (λ holds n. if is_true holds then ra n else rb n))
  if_else_does test ca cb a b ra rb sized ga gb da db loop st end p exits is laid variables state m h =
      let k = if_then (takes g.around st test type.Boolean) (met st (ca loop st) (cb loop st)) end is in
      let l = met_is st (ca loop st) (cb loop st) end k.1 in
      let c = code_of g.around.context test in
      let q : Place = behind_piece p (of_code c) in
      let r : Place = behind_piece q (guarded 1 a) in
      let parts = laid_two g.code p.at c.size (c.from p.at) ((then_piece (guarded 1 a) (jumped_over b)).from q exits) (code_sized g.around.context test p.at) laid in
      let more = laid_two g.code q.at (a.size + 1) ((guarded 1 a).from q exits) ((jumped_over b).from r exits) (guarded_sized 1 a sized q exits) parts.1 in
      let to = p.at + (c.size + (a.size + 1 + (b.size + 1))) in
      let e1 : q.at + (a.size + 1) ≡ q.at + 1 + a.size = omega arith in
      let e2 : q.at + (a.size + 1) + 1 + b.size ≡ p.at + (c.size + (a.size + 1 + (b.size + 1))) = omega arith in
      let e3 : q.at + 1 + a.size + 1 ≡ suc (q.at + (a.size + 1)) = omega arith in
      let e4 : suc (q.at + (a.size + 1)) ≡ q.at + (a.size + 1) + 1 = omega arith in
      let jump : slice_get g.code (q.at + 1 + a.size) ≡ Some (instr.Jump (q.at + (a.size + 1) + 1 + b.size)) = subst (λ z. slice_get g.code z ≡ Some (instr.Jump (q.at + (a.size + 1) + 1 + b.size))) e1 more.1.0 in
      let there_b : IsLaid g.code (q.at + (a.size + 1) + 1) (b.from (moved 1 r) exits) = subst (λ z. IsLaid g.code z (b.from (moved 1 r) exits)) e4 more.1.1 in
      subst (λ z. Completes g loop exits (c.size + (a.size + 1 + (b.size + 1))) (frame p.at [] variables m.turns) state to z (evaluated g.calls test m (λ holds n. if is_true holds then ra n else rb n))) l.4
      (value_goes (value_of g.calls test (seen_by m) m.turns) m (λ holds n. if is_true holds then ra n else rb n) tt h.fields (evaluates_taken ground h test type.Boolean p.at [] k.0 parts.0) (λ v left has less.
      let later = agrees_fewer left less h in
      boolean_cases (λ v. Completes g loop exits (a.size + 1 + (b.size + 1)) (frame q.at (v ∷ []) variables left) state to (meet st l.0 l.1) (if is_true v then ra (with_turns left m) else rb (with_turns left m))) v has
      (each_bool (λ z. Completes g loop exits (a.size + 1 + (b.size + 1)) (frame q.at (val.Bool z ∷ []) variables left) state to (meet st l.0 l.1) (if z then ra (with_turns left m) else rb (with_turns left m)))
      (completes_below (meet_first st l.0 l.1 (ga loop st l.0 l.2)) (completes_wider (omega arith) (completes_to e2 (completes_jump jump (guarded_true (with_turns left m) 1 a q (ra (with_turns left m)) more.0 (λ there. da loop st l.0 (moved 1 q) exits l.2 there variables state (with_turns left m) later))))))
      (completes_below (meet_second st l.0 l.1 (gb loop st l.1 l.3)) (completes_wider (omega arith) (completes_to e2
      (completes_on (leads_to g.setting g.code (e3 ∙ e4) (guarded_false exits 1 a q more.0)) (db loop st l.1 (moved 1 r) exits l.3 there_b variables state (with_turns left m) later))))))))

  -- ---- loops

  pub passing_is : (before st end : Standing) (test : Option Expression) (cu cb : Checking) → checking.if_so (is_condition g.around st test && (ends_as st (cb (Some st) st) && ends_as st (cu None st))) (after_compound before st) ≡ Some end
      → (is_condition g.around st test ≡ true) × ((stb : Standing) × (cb (Some st) st ≡ Some stb) × Below stb st) × ((stu : Standing) × (cu None st ≡ Some stu) × Below stu st) × (after_compound before st ≡ end)
  passing_is before st end test cu cb is =
      let k = if_so_is (is_condition g.around st test && (ends_as st (cb (Some st) st) && ends_as st (cu None st))) (after_compound before st) end is in
      let l = both_true (is_condition g.around st test) _ k.0 in
      let n = both_true (ends_as st (cb (Some st) st)) (ends_as st (cu None st)) l.1 in
      (l.0, ends_as_is st (cb (Some st) st) n.0, ends_as_is st (cu None st) n.1, k.1)

  pub loop_does : (test : Option Expression) (starts us : List Piece) (body : Piece) (cs : Checking) (cu : List Checking) (cb : Checking) (rs ru rb : Running) → ((us ≡ []) → (m : Machine) → ru m ≡ normal m)
      → IsSizedPiece (in_order starts) → IsSizedPiece (in_order us) → IsSizedPiece body → ((st : Standing) (end : Standing) → cs None st ≡ Some end → Grows st end)
      → Does ground cs (in_order starts) rs → Does ground (checking.in_order cu) (in_order us) ru → Does ground cb body rb
      → Does ground (λ loop st. checking.next (checking.passing g.around st test cu cb) (cs None st)) (looped_piece g.around.context starts test us body) (λ m. after (rs m) (looped g.calls test ru rb))
  loop_does test starts us body cs cu cb rs ru rb none hs hu hb grows ds du db loop st end p exits is laid variables state m h =
      let k = next_is (checking.passing g.around st test cu cb) (cs None st) end is in
      let l = passing_is st k.0 end test (checking.in_order cu) cb k.2 in
      let whole = passes_piece g.around.context test us body in
      let parts = laid_two g.code p.at (in_order starts).size ((in_order starts).from p exits) (whole.from (behind_piece p (in_order starts)) exits) (hs p exits) laid in
      let e : p.at + (in_order starts).size + whole.size ≡ p.at + ((in_order starts).size + whole.size) = omega arith in
      completes_to e
      (after_goes (rs m) (looped g.calls test ru rb) (not_broken (rs m).machine (rs m).completion (ds None st k.0 p exits k.1 parts.0 variables state m h)) (λ ws b h'.
      let n = (rs m).machine in
      let less : n.turns < suc n.turns = omega arith in
      subst (λ z. Completes g loop exits whole.size (frame (p.at + (in_order starts).size) [] ws n.turns) b (p.at + (in_order starts).size + whole.size) z (looped g.calls test ru rb n)) l.3
      (completes_below (compound_below st k.0 (grows st k.0 k.1))
      (passes_go ground test us body (checking.in_order cu) cb ru rb none hu hb db du k.0 l.0 (l.1.0) (l.1.1) (l.1.2) (l.2.0) (l.2.1) (l.2.2) (behind_piece p (in_order starts)) loop exits parts.1 (suc n.turns) ws b n less h'))))

  pub compound_does : (check : Checking) (a : Piece) (run : Running) → AllGrow check → Does ground check a run → Does ground (λ loop st. compound st (check loop st)) a run
  compound_does check a run grows does loop st end p exits is laid variables state m h =
      let k = compound_is st (check loop st) end is in
      subst (λ z. Completes g loop exits a.size (frame p.at [] variables m.turns) state (p.at + a.size) z (run m)) k.2
      (completes_below (compound_below st k.0 (grows loop st k.0 k.1)) (does loop st k.0 p exits k.1 laid variables state m h))

  pub opened_does : (check : Checking) (a : Piece) (run : Running) → AllGrow check → Does ground check a run → Does ground (λ loop st. checking.opened st (check loop (checking.outside st))) a run
  opened_does check a run grows does loop st end p exits is laid variables state m h =
      let k = opened_is st (check loop (checking.outside st)) end is in
      let in_it : Below st (checking.outside st) = record { known = λ v z. z; field = λ f z. absurd (none_some f z); gathered = λ t z. absurd (none_some t z) } in
      let behind : Below k.0 (checking.outside st) = record { known = grows loop (checking.outside st) k.0 k.1; field = λ f z. absurd (none_some f z); gathered = λ t z. absurd (none_some t z) } in
      subst (λ z. Completes g loop exits a.size (frame p.at [] variables m.turns) state (p.at + a.size) z (run m)) k.2
      (completes_below behind (does loop (checking.outside st) k.0 p exits k.1 laid variables state m (agrees_below in_it h)))

  -- ---- all statements without marks

  abbrev IsRight : Statement → Type 0
  IsRight x = is_plain x ≡ true → Does ground (checked g.around x) (piece_of (scope_on g) x) (meaning g.calls x)

  abbrev Part : Type 0
  Part = (x : Statement) × IsRight x

  abbrev bare : Statement-F Part → Statement-F Statement
  bare = map-Statement Part Statement (λ x. x.0)

  abbrev plains : Statement-F Statement → Statement-F Bool
  plains = map-Statement Statement Bool is_plain

  abbrev checks : Statement-F Statement → Statement-F Checking
  checks = map-Statement Statement Checking (checked g.around)

  abbrev pieces : Statement-F Statement → Statement-F Piece
  pieces = map-Statement Statement Piece (piece_of (scope_on g))

  abbrev meant : Statement-F Statement → Statement-F Running
  meant = map-Statement Statement Running (meaning g.calls)

  abbrev LayerRight : Statement-F Statement → Type 0
  LayerRight y = plain_step (plains y) ≡ true → Does ground (checked_step g.around (checks y)) (piece_step (scope_on g) (pieces y)) (statement_step g.calls (meant y))

  list_right : (xs : List Part) → all_plain (map is_plain (map (λ (x : Part). x.0) xs)) ≡ true
      → Does ground (checked_list g.around (map (λ (x : Part). x.0) xs)) (pieces_of (scope_on g) (map (λ (x : Part). x.0) xs)) (meanings g.calls (map (λ (x : Part). x.0) xs))
  list_right [] is = nothing_does
  list_right (x ∷ xs) is =
      let k = both_true (is_plain x.0) (all_plain (map is_plain (map (λ (y : Part). y.0) xs))) is in
      then_does (checked g.around x.0) (checked_list g.around (map (λ (y : Part). y.0) xs)) (piece_of (scope_on g) x.0) (pieces_of (scope_on g) (map (λ (y : Part). y.0) xs)) (meaning g.calls x.0) (meanings g.calls (map (λ (y : Part). y.0) xs))
      (piece_sized (scope_on g) x.0) (x.1 k.0) (list_right xs k.1)

  none_of : (xs : List Part) → (map (piece_of (scope_on g)) (map (λ (x : Part). x.0) xs) ≡ []) → (m : Machine) → meanings g.calls (map (λ (x : Part). x.0) xs) m ≡ normal m
  none_of [] is m = refl
  none_of (x ∷ xs) is m = absurd (cc)

  layer_right : (y : Statement-F Part) → LayerRight (bare y)
  layer_right (s.Assign v x) plain = assign_does ground v x
  layer_right (s.SetElement v at x) plain = set_element_does ground v at x
  layer_right (s.Evaluate x) plain = evaluate_does ground x
  layer_right (s.Access a) plain = access_does ground a
  layer_right (s.Gather a) plain = absurd (false≢true plain)
  layer_right (s.Marked mark body) plain = absurd (false≢true plain)
  layer_right (s.Opened body) plain = opened_does (checked g.around body.0) (piece_of (scope_on g) body.0) (meaning g.calls body.0) (checked_grows g.around body.0) (body.1 plain)
  layer_right (s.Block items) plain =
      compound_does (checked_list g.around (map (λ (x : Part). x.0) items)) (pieces_of (scope_on g) (map (λ (x : Part). x.0) items)) (meanings g.calls (map (λ (x : Part). x.0) items)) (list_checked_grows g.around (map (λ (x : Part). x.0) items)) (list_right items plain)
  layer_right (s.If test first None) plain =
      let k = both_true (is_plain first.0) true plain in
      if_alone_does test (checked g.around first.0) (piece_of (scope_on g) first.0) (meaning g.calls first.0) (checked_grows g.around first.0) (first.1 k.0)
  layer_right (s.If test first (Some second)) plain =
      let k = both_true (is_plain first.0) (is_plain second.0) plain in
      if_else_does test (checked g.around first.0) (checked g.around second.0) (piece_of (scope_on g) first.0) (piece_of (scope_on g) second.0) (meaning g.calls first.0) (meaning g.calls second.0)
      (piece_sized (scope_on g) first.0) (checked_grows g.around first.0) (checked_grows g.around second.0) (first.1 k.0) (second.1 k.1)
  layer_right (s.Loop start test update body) plain =
      let k = both_true (all_plain (map is_plain (map (λ (x : Part). x.0) start))) (is_plain body.0 && all_plain (map is_plain (map (λ (x : Part). x.0) update))) plain in
      let l = both_true (is_plain body.0) (all_plain (map is_plain (map (λ (x : Part). x.0) update))) k.1 in
      loop_does test (map (piece_of (scope_on g)) (map (λ (x : Part). x.0) start)) (map (piece_of (scope_on g)) (map (λ (x : Part). x.0) update)) (piece_of (scope_on g) body.0)
      (checked_list g.around (map (λ (x : Part). x.0) start)) (map (checked g.around) (map (λ (x : Part). x.0) update)) (checked g.around body.0)
      (meanings g.calls (map (λ (x : Part). x.0) start)) (meanings g.calls (map (λ (x : Part). x.0) update)) (meaning g.calls body.0) (none_of update)
      (pieces_sized (scope_on g) (map (λ (x : Part). x.0) start)) (pieces_sized (scope_on g) (map (λ (x : Part). x.0) update)) (piece_sized (scope_on g) body.0)
      (λ st end is. list_checked_grows g.around (map (λ (x : Part). x.0) start) None st end is) (list_right start k.0) (list_right update l.1) (body.1 l.0)
  layer_right s.Break plain = break_does ground
  layer_right s.Continue plain = continue_does ground
  layer_right (s.Return x) plain = return_does ground x

  made_right : (x : Statement-F Statement) (y : Statement-F Part) → bare y ≡ x → IsRight (roll-Statement x)
  made_right x y is =
      let b = fold-roll-Statement Bool plain_step x in
      let c = fold-roll-Statement Checking (checked_step g.around) x in
      let a = fold-roll-Statement Piece (piece_step (scope_on g)) x in
      let r = fold-roll-Statement Running (statement_step g.calls) x in
      let whole : IsRight (roll-Statement x) ≡ LayerRight x = λ i. b i ≡ true → Does ground (c i) (a i) (r i) in
      transport (sym whole) (subst LayerRight is (layer_right y))

  pub statement_right : (x : Statement) → IsRight x
  statement_right = ind-Statement IsRight made_right

  pub statements_right : (xs : List Statement) → all_plain (map is_plain xs) ≡ true → Does ground (checked_list g.around xs) (pieces_of (scope_on g) xs) (meanings g.calls xs)
  statements_right [] is = nothing_does
  statements_right (x ∷ xs) is =
      let k = both_true (is_plain x) (all_plain (map is_plain xs)) is in
      then_does (checked g.around x) (checked_list g.around xs) (piece_of (scope_on g) x) (pieces_of (scope_on g) xs) (meaning g.calls x) (meanings g.calls xs) (piece_sized (scope_on g) x) (statement_right x k.0) (statements_right xs k.1)

pub plain_statements_do_what_they_mean : PlainStatementsDoWhatTheyMean
plain_statements_do_what_they_mean g ground x plain loop st end p exits is laid variables state m h = statement_right ground x plain loop st end p exits is laid variables state m h
