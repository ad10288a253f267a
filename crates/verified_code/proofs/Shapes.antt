-- Which tasks code names, in their order, and which methods it calls.
use Rattle.std.proofs.Common.{◌≡◌, refl, sym, subst, ℕ, zero, suc, ◌+◌, arith, Bool, true, false, List, [], ◌∷◌, ◌++◌, map, length, Option, Some, None}
use Rattle.std.specs.Prelude.{nat_eq, ◌||◌}
use Rattle.std.specs.List.{flat_map, range_with_len}
use Rattle.std.proofs.lemmas.Bool.{false≢true, eq-eqb}
use Rattle.sdg_base.specs.declared.operator.BinOp.{BinOp}
use Rattle.sdg_base.specs.declared.operator.BinOp.TheVariants as bin
use Rattle.sdg_base.specs.declared.operator.UnOp.{UnOp}
use Rattle.sdg_base.specs.declared.operator.UnOp.TheVariants as un
use Rattle.sdg_base.specs.declared.value_type.ValueType.{ValueType}
use Rattle.sdg_base.specs.declared.value_type.ValueType.TheVariants as type
use Rattle.flat_code.specs.declared.graph.Instr.{Instr}
use Rattle.flat_code.specs.declared.graph.Instr.TheVariants as instr
use Rattle.access_blocks.specs.declared.body.Access.{Access}
use Rattle.access_blocks.specs.declared.body.Gather.{Gather}
use Rattle.access_blocks.specs.declared.body.Target.{Target}
use Rattle.access_blocks.specs.declared.body.Target.TheVariants as target
use Rattle.access_blocks.specs.declared.body.Expression.{Expression, roll-Expression}
use Rattle.access_blocks.specs.declared.body.Expression.TheOpen.{Expression-F}
use Rattle.access_blocks.specs.declared.body.Expression.TheOpen as e
use Rattle.access_blocks.specs.declared.body.Expression.TheFolds.{fold-roll-Expression, ind-Expression, map-Expression}
use Rattle.access_blocks.specs.declared.body.Statement.{Statement, roll-Statement}
use Rattle.access_blocks.specs.declared.body.Statement.TheOpen.{Statement-F}
use Rattle.access_blocks.specs.declared.body.Statement.TheOpen as s
use Rattle.access_blocks.specs.declared.body.Statement.TheFolds.{fold-roll-Statement, ind-Statement, map-Statement}
use Rattle.body_code.specs.Early.{is_in}
use Rattle.body_code.specs.Typing.{Context, type_of}
use Rattle.body_code.specs.Codes.{Code, plain, followed_by}
use Rattle.body_code.specs.Codes as codes
use Rattle.body_code.specs.ExpressionCode.{Lowered, lowered, lowered_step, code_of, codes_of, behind, either, unary, binary, operand_of}
use Rattle.body_code.specs.StatementCode.{Place, Exits, Piece, Scope, moved, behind_piece, of_code, of_instructions, then_piece, in_order, cut, key_code, guarded, jumped_over, branches, tested, pass, next_pass, passes, looped, stored_from, stored, visit, popped, dropped, returned, field_name, signature_of, result_of, piece_step, piece_of, pieces_of}
use Rattle.body_code.specs.StatementCode as code
use Rattle.body_code.specs.Checking.{calling_step, calling, calling_maybe, in_all, called_step, called_in}

-- ---- calls to some methods alone, and no accesses and ends of tasks

abbrev pub QuietAt : List ℕ → Instr → Type 0
QuietAt ms (instr.Call n) = is_in n ms ≡ true
QuietAt ms (instr.Merge n) = is_in n ms ≡ true
QuietAt ms (instr.Cut t) = ⊥
QuietAt ms (instr.Part t) = ⊥
QuietAt ms (instr.Access name m) = ⊥
QuietAt ms _ = Unit {0}

abbrev pub Quiet : List ℕ → List Instr → Type 0
Quiet ms [] = Unit {0}
Quiet ms (i ∷ is) = QuietAt ms i × Quiet ms is

-- the same, where tasks may end
abbrev pub CallsAt : List ℕ → Instr → Type 0
CallsAt ms (instr.Call n) = is_in n ms ≡ true
CallsAt ms (instr.Merge n) = is_in n ms ≡ true
CallsAt ms _ = Unit {0}

abbrev pub AllCalls : List ℕ → List Instr → Type 0
AllCalls ms [] = Unit {0}
AllCalls ms (i ∷ is) = CallsAt ms i × AllCalls ms is

-- tasks are named one after the other
abbrev pub Counts : ℕ → List Instr → ℕ → Type 0
Counts n [] m = n ≡ m
Counts n (instr.Cut t ∷ is) m = (t ≡ n) × Counts (suc n) is m
Counts n (instr.Part t ∷ is) m = (t ≡ n) × Counts (suc n) is m
Counts n (i ∷ is) m = Counts n is m

pub in_left : (n : ℕ) (xs ys : List ℕ) → is_in n xs ≡ true → is_in n (xs ++ ys) ≡ true
in_left n [] ys h = absurd (false≢true h)
in_left n (x ∷ xs) ys h = by (nat_eq n x) (in_left n xs ys) h
  where
    by : (b : Bool) → (is_in n xs ≡ true → is_in n (xs ++ ys) ≡ true) → (b || is_in n xs) ≡ true → (b || is_in n (xs ++ ys)) ≡ true
    by true more h = refl
    by false more h = more h

pub in_right : (n : ℕ) (xs ys : List ℕ) → is_in n ys ≡ true → is_in n (xs ++ ys) ≡ true
in_right n [] ys h = h
in_right n (x ∷ xs) ys h = by (nat_eq n x) (in_right n xs ys h)
  where
    by : (b : Bool) → is_in n (xs ++ ys) ≡ true → (b || is_in n (xs ++ ys)) ≡ true
    by true h = refl
    by false h = h

quiet_at_more : (ms ns : List ℕ) (i : Instr) → ((n : ℕ) → is_in n ms ≡ true → is_in n ns ≡ true) → QuietAt ms i → QuietAt ns i
quiet_at_more ms ns (instr.Call n) more h = more n h
quiet_at_more ms ns (instr.Merge n) more h = more n h
quiet_at_more ms ns (instr.Cut t) more h = h
quiet_at_more ms ns (instr.Part t) more h = h
quiet_at_more ms ns (instr.Access name m) more h = h
quiet_at_more ms ns _ more h = h

pub quiet_more : (ms ns : List ℕ) (is : List Instr) → ((n : ℕ) → is_in n ms ≡ true → is_in n ns ≡ true) → Quiet ms is → Quiet ns is
quiet_more ms ns [] more h = tt
quiet_more ms ns (i ∷ is) more h = (quiet_at_more ms ns i more h.0, quiet_more ms ns is more h.1)

pub quiet_both : (ms : List ℕ) (xs ys : List Instr) → Quiet ms xs → Quiet ms ys → Quiet ms (xs ++ ys)
quiet_both ms [] ys h k = k
quiet_both ms (x ∷ xs) ys h k = (h.0, quiet_both ms xs ys h.1 k)

quiet_joined : (ms ns : List ℕ) (xs ys : List Instr) → Quiet ms xs → Quiet ns ys → Quiet (ms ++ ns) (xs ++ ys)
quiet_joined ms ns xs ys h k = quiet_both (ms ++ ns) xs ys (quiet_more ms (ms ++ ns) xs (λ n. in_left n ms ns) h) (quiet_more ns (ms ++ ns) ys (λ n. in_right n ms ns) k)

calls_at_more : (ms ns : List ℕ) (i : Instr) → ((n : ℕ) → is_in n ms ≡ true → is_in n ns ≡ true) → CallsAt ms i → CallsAt ns i
calls_at_more ms ns (instr.Call n) more h = more n h
calls_at_more ms ns (instr.Merge n) more h = more n h
calls_at_more ms ns _ more h = h

calls_more : (ms ns : List ℕ) (is : List Instr) → ((n : ℕ) → is_in n ms ≡ true → is_in n ns ≡ true) → AllCalls ms is → AllCalls ns is
calls_more ms ns [] more h = tt
calls_more ms ns (i ∷ is) more h = (calls_at_more ms ns i more h.0, calls_more ms ns is more h.1)

pub calls_both : (ms : List ℕ) (xs ys : List Instr) → AllCalls ms xs → AllCalls ms ys → AllCalls ms (xs ++ ys)
calls_both ms [] ys h k = k
calls_both ms (x ∷ xs) ys h k = (h.0, calls_both ms xs ys h.1 k)

calls_joined : (ms ns : List ℕ) (xs ys : List Instr) → AllCalls ms xs → AllCalls ns ys → AllCalls (ms ++ ns) (xs ++ ys)
calls_joined ms ns xs ys h k = calls_both (ms ++ ns) xs ys (calls_more ms (ms ++ ns) xs (λ n. in_left n ms ns) h) (calls_more ns (ms ++ ns) ys (λ n. in_right n ms ns) k)

quiet_calls_at : (ms : List ℕ) (i : Instr) → QuietAt ms i → CallsAt ms i
quiet_calls_at ms (instr.Call n) h = h
quiet_calls_at ms (instr.Merge n) h = h
quiet_calls_at ms (instr.Cut t) h = tt
quiet_calls_at ms (instr.Part t) h = tt
quiet_calls_at ms (instr.Access name m) h = tt
quiet_calls_at ms _ h = tt

pub quiet_calls : (ms : List ℕ) (is : List Instr) → Quiet ms is → AllCalls ms is
quiet_calls ms [] h = tt
quiet_calls ms (i ∷ is) h = (quiet_calls_at ms i h.0, quiet_calls ms is h.1)

quiet_step : (ms : List ℕ) (n : ℕ) (i : Instr) (is : List Instr) → QuietAt ms i → Counts n is n → Counts n (i ∷ is) n
quiet_step ms n (instr.Cut t) is h k = absurd h
quiet_step ms n (instr.Part t) is h k = absurd h
quiet_step ms n _ is h k = k

pub quiet_counts : (ms : List ℕ) (n : ℕ) (is : List Instr) → Quiet ms is → Counts n is n
quiet_counts ms n [] h = refl
quiet_counts ms n (i ∷ is) h = quiet_step ms n i is h.0 (quiet_counts ms n is h.1)

pub counts_both : (n k m : ℕ) (xs ys : List Instr) → Counts n xs k → Counts k ys m → Counts n (xs ++ ys) m
counts_both n k m [] ys h g = subst (λ (j : ℕ). Counts j ys m) (sym h) g
counts_both n k m (instr.Cut t ∷ xs) ys h g = (h.0, counts_both (suc n) k m xs ys h.1 g)
counts_both n k m (instr.Part t ∷ xs) ys h g = (h.0, counts_both (suc n) k m xs ys h.1 g)
counts_both n k m (i ∷ xs) ys h g = counts_both n k m xs ys h g

-- ---- expressions

module _ (c : Context) where
  abbrev QuietCode : List ℕ → Code → Type 0
  QuietCode ms a = (at : ℕ) → Quiet ms (a.from at)

  then_quiet : (ms ns : List ℕ) (a b : Code) → QuietCode ms a → QuietCode ns b → QuietCode (ms ++ ns) (followed_by a b)
  then_quiet ms ns a b h k at = quiet_joined ms ns (a.from at) (b.from (at + a.size)) (h at) (k (at + a.size))

  with_quiet : (ms : List ℕ) (a : Code) (i : Instr) → QuietCode ms a → QuietAt ms i → QuietCode ms (behind a i)
  with_quiet ms a i h k at = quiet_both ms (a.from at) (i ∷ []) (h at) (k, tt)

  either_quiet : (ms ns : List ℕ) (a b : Code) → QuietCode ms a → QuietCode ns b → QuietCode (ms ++ ns) (either a b)
  either_quiet ms ns a b h k at = (tt, quiet_joined ms ns (a.from (at + 1)) (instr.Jump (at + a.size + b.size + 2) ∷ b.from (at + a.size + 2)) (h (at + 1)) (tt, k (at + a.size + 2)))

  none_right : (ms : List ℕ) (a : Code) → QuietCode (ms ++ []) a → QuietCode ms a
  none_right ms a h at = quiet_more (ms ++ []) ms (a.from at) (λ n k. from ms n k) (h at)
    where
      from : (xs : List ℕ) (n : ℕ) → is_in n (xs ++ []) ≡ true → is_in n xs ≡ true
      from [] n k = k
      from (x ∷ xs) n k = by (nat_eq n x) (from xs n) k
        where
          by : (b : Bool) → (is_in n (xs ++ []) ≡ true → is_in n xs ≡ true) → (b || is_in n (xs ++ [])) ≡ true → (b || is_in n xs) ≡ true
          by true more k = refl
          by false more k = more k

  unary_quiet : (op : UnOp) (ms : List ℕ) (a : Code) → QuietCode ms a → QuietCode ms (unary op a)
  unary_quiet un.Plus ms a h = h
  unary_quiet un.Minus ms a h = with_quiet ms a (instr.Un un.Minus) h tt
  unary_quiet un.Complement ms a h = with_quiet ms a (instr.Un un.Complement) h tt
  unary_quiet un.Not ms a h = with_quiet ms a (instr.Un un.Not) h tt

  binary_quiet : (op : BinOp) (ms ns : List ℕ) (a b : Lowered) → QuietCode ms a.code → QuietCode ns b.code → QuietCode (ms ++ ns) (binary op a b)
  binary_quiet bin.AndAlso ms ns a b h k = then_quiet ms ns a.code (either b.code (plain (instr.Bool false ∷ []))) h (none_right ns (either b.code (plain (instr.Bool false ∷ []))) (either_quiet ns [] b.code (plain (instr.Bool false ∷ [])) k (λ at. (tt, tt))))
  binary_quiet bin.OrElse ms ns a b h k = then_quiet ms ns a.code (either (plain (instr.Bool true ∷ [])) b.code) h (either_quiet [] ns (plain (instr.Bool true ∷ [])) b.code (λ at. (tt, tt)) k)
  binary_quiet op ms ns a b h k = with_quiet (ms ++ ns) (followed_by a.code b.code) (instr.Bin op (operand_of a.type)) (then_quiet ms ns a.code b.code h k) tt

  abbrev Good : Expression → Type 0
  Good x = QuietCode (calling x) (lowered c x).code

  abbrev Part : Type 0
  Part = (x : Expression) × Good x

  abbrev bare : Expression-F Part → Expression-F Expression
  bare = map-Expression Part Expression (λ p. p.0)

  abbrev bares : List Part → List Expression
  bares ps = map (λ (p : Part). p.0) ps

  parts_quiet : (ps : List Part) → QuietCode (flat_map (λ (ms : List ℕ). ms) (map calling (bares ps))) (codes.all_of (map (λ (l : Lowered). l.code) (map (lowered c) (bares ps))))
  parts_quiet [] at = tt
  parts_quiet (p ∷ ps) at =
      then_quiet (calling p.0) (flat_map (λ (ms : List ℕ). ms) (map calling (bares ps))) (lowered c p.0).code (codes.all_of (map (λ (l : Lowered). l.code) (map (lowered c) (bares ps)))) p.1 (parts_quiet ps) at

  itself : (n : ℕ) → is_in n (n ∷ []) ≡ true
  itself n = by (nat_eq n n) (eq-eqb n n refl)
    where
      by : (b : Bool) → b ≡ true → (b || false) ≡ true
      by true e = refl
      by false e = e

  layer : (y : Expression-F Part) → QuietCode (calling_step (map-Expression Expression (List ℕ) calling (bare y))) (lowered_step c (map-Expression Expression Lowered (lowered c) (bare y))).code
  layer e.Nothing at = (tt, tt)
  layer (e.Int n) at = (tt, tt)
  layer (e.Long n) at = (tt, tt)
  layer (e.Bool b) at = (tt, tt)
  layer (e.Variable v) at = (tt, tt)
  layer e.CarriedKey at = (tt, tt)
  layer (e.Unary op a) at = unary_quiet op (calling a.0) (lowered c a.0).code a.1 at
  layer (e.Binary op a b) at = binary_quiet op (calling a.0) (calling b.0) (lowered c a.0) (lowered c b.0) a.1 b.1 at
  layer (e.Cast to a) at = with_quiet (calling a.0) (lowered c a.0).code (instr.Cast to) a.1 tt at
  layer (e.Conditional test a b) at =
      then_quiet (calling test.0) (calling a.0 ++ calling b.0) (lowered c test.0).code (either (lowered c a.0).code (lowered c b.0).code) test.1 (either_quiet (calling a.0) (calling b.0) (lowered c a.0).code (lowered c b.0).code a.1 b.1) at
  layer (e.NewVector n) at = with_quiet (calling n.0) (lowered c n.0).code instr.NewVector n.1 tt at
  layer (e.VectorSize v) at = (tt, tt)
  layer (e.VectorElement v i) at = with_quiet (calling i.0) (lowered c i.0).code (instr.VectorGet v) i.1 tt at
  layer e.GatheredLength at = (tt, tt)
  layer (e.Gathered i) at = with_quiet (calling i.0) (lowered c i.0).code (instr.CollectionItem 0) i.1 tt at
  layer (e.GatheredSize i) at = with_quiet (calling i.0) (lowered c i.0).code (instr.CollectionSize 0) i.1 tt at
  layer (e.GatheredElement i index) at =
      with_quiet (calling i.0 ++ calling index.0) (followed_by (behind (lowered c i.0).code (instr.CollectionCheck 0)) (lowered c index.0).code) (instr.CollectionGet 0)
      (then_quiet (calling i.0) (calling index.0) (behind (lowered c i.0).code (instr.CollectionCheck 0)) (lowered c index.0).code (with_quiet (calling i.0) (lowered c i.0).code (instr.CollectionCheck 0) i.1 tt) index.1) tt at
  layer (e.Call m args) at =
      then_quiet (flat_map (λ (ms : List ℕ). ms) (map calling (bares args))) (m ∷ []) (codes.all_of (map (λ (l : Lowered). l.code) (map (lowered c) (bares args)))) (plain (instr.Turn ∷ instr.Call m ∷ [])) (parts_quiet args) (λ k. (tt, (itself m, tt))) at
  layer (e.Merge m) at = (tt, (itself m, tt))

  made_good : (x : Expression-F Expression) (y : Expression-F Part) → bare y ≡ x → Good (roll-Expression x)
  made_good x y is =
      let low = fold-roll-Expression Lowered (lowered_step c) x in
      let called = fold-roll-Expression (List ℕ) calling_step x in
      let P : Expression-F Expression → Type 0 = λ z. QuietCode (calling_step (map-Expression Expression (List ℕ) calling z)) (lowered_step c (map-Expression Expression Lowered (lowered c) z)).code in
      let all : P x = subst P is (layer y) in
      subst (λ (l : Lowered). QuietCode (calling (roll-Expression x)) l.code) (sym low) (subst (λ (ms : List ℕ). QuietCode ms (lowered_step c (map-Expression Expression Lowered (lowered c) x)).code) (sym called) all)

  pub expression_quiet : (x : Expression) (at : ℕ) → Quiet (calling x) ((code_of c x).from at)
  expression_quiet = ind-Expression Good made_good

  pub expressions_quiet : (xs : List Expression) (at : ℕ) → Quiet (in_all (map calling xs)) ((codes_of c xs).from at)
  expressions_quiet [] at = tt
  expressions_quiet (x ∷ xs) at = then_quiet (calling x) (in_all (map calling xs)) (code_of c x) (codes_of c xs) (expression_quiet x) (expressions_quiet xs) at

-- ---- statements

module _ (scope : Scope) where
  abbrev c : Context
  c = scope.context

  -- what a piece calls, and that its cuts and parts are numbered from its place on
  pub record Shaped (piece : Piece) (ms : List ℕ) : Type 0 where
    pub calls : (p : Place) (to : Exits) → AllCalls ms (piece.from p to)
    pub counts : (p : Place) (to : Exits) → Counts p.task (piece.from p to) (p.task + piece.tasks)

  no_tasks : (n : ℕ) (is : List Instr) → Counts n is n → Counts n is (n + 0)
  no_tasks n is h = let e : n ≡ n + 0 = omega arith in subst (λ (m : ℕ). Counts n is m) e h

  quiet_shaped : (ms : List ℕ) (a : Code) → ((at : ℕ) → Quiet ms (a.from at)) → Shaped (of_code a) ms
  quiet_shaped ms a h = record { calls = λ p to. quiet_calls ms (a.from p.at) (h p.at); counts = λ p to. no_tasks p.task (a.from p.at) (quiet_counts ms p.task (a.from p.at) (h p.at)) }

  then_shaped : (a b : Piece) (ms ns : List ℕ) → Shaped a ms → Shaped b ns → Shaped (then_piece a b) (ms ++ ns)
  then_shaped a b ms ns h k = record {
    calls = λ p to. calls_joined ms ns (a.from p to) (b.from (behind_piece p a) to) (h.calls p to) (k.calls (behind_piece p a) to);
    counts = λ p to. (let e : (p.task + a.tasks) + b.tasks ≡ p.task + (a.tasks + b.tasks) = omega arith in
        subst (λ (m : ℕ). Counts p.task (a.from p to ++ b.from (behind_piece p a) to) m) e
        (counts_both p.task (p.task + a.tasks) ((p.task + a.tasks) + b.tasks) (a.from p to) (b.from (behind_piece p a) to) (h.counts p to) (k.counts (behind_piece p a) to)));
  }

  more_shaped : (piece : Piece) (ms ns : List ℕ) → ((n : ℕ) → is_in n ms ≡ true → is_in n ns ≡ true) → Shaped piece ms → Shaped piece ns
  more_shaped piece ms ns more h = record { calls = λ p to. calls_more ms ns (piece.from p to) more (h.calls p to); counts = h.counts }

  abbrev AllShaped : List Piece → List (List ℕ) → Type 0
  AllShaped [] [] = Unit {0}
  AllShaped (p ∷ ps) (ms ∷ mss) = Shaped p ms × AllShaped ps mss
  AllShaped _ _ = ⊥

  list_shaped : (ps : List Piece) (mss : List (List ℕ)) → AllShaped ps mss → Shaped (in_order ps) (in_all mss)
  list_shaped [] [] h = quiet_shaped [] (plain []) (λ at. tt)
  list_shaped (p ∷ ps) (ms ∷ mss) h = then_shaped p (in_order ps) ms (in_all mss) h.0 (list_shaped ps mss h.1)
  list_shaped [] (ms ∷ mss) h = absurd h
  list_shaped (p ∷ ps) [] h = absurd h

  test_shaped : (x : Expression) → Shaped (of_code (code_of c x)) (calling x)
  test_shaped x = quiet_shaped (calling x) (code_of c x) (expression_quiet c x)

  cut_shaped : Shaped cut []
  cut_shaped = record { calls = λ p to. (tt, (tt, tt)); counts = λ p to. (refl, (let e : suc p.task ≡ p.task + 1 = omega arith in e)) }

  same_in : (ms : List ℕ) → (n : ℕ) → is_in n ms ≡ true → is_in n ms ≡ true
  same_in ms n h = h

  end_in : (ms : List ℕ) (n : ℕ) → is_in n (ms ++ []) ≡ true → is_in n ms ≡ true
  end_in [] n k = k
  end_in (x ∷ ms) n k = by (nat_eq n x) (end_in ms n) k
    where
      by : (b : Bool) → (is_in n (ms ++ []) ≡ true → is_in n ms ≡ true) → (b || is_in n (ms ++ [])) ≡ true → (b || is_in n ms) ≡ true
      by true more k = refl
      by false more k = more k

  guarded_shaped : (over : ℕ) (a : Piece) (ms : List ℕ) → Shaped a ms → Shaped (guarded over a) ms
  guarded_shaped over a ms h = record { calls = λ p to. (tt, h.calls (moved 1 p) to); counts = λ p to. h.counts (moved 1 p) to }

  jumped_shaped : (a : Piece) (ms : List ℕ) → Shaped a ms → Shaped (jumped_over a) ms
  jumped_shaped a ms h = record { calls = λ p to. (tt, h.calls (moved 1 p) to); counts = λ p to. h.counts (moved 1 p) to }

  pub targeted_quiet : (t : Target) (r : ValueType) → Quiet [] (code.targeted t r)
  targeted_quiet target.Dropped type.Int = (tt, tt)
  targeted_quiet target.Dropped type.Long = (tt, tt)
  targeted_quiet target.Dropped type.Boolean = (tt, tt)
  targeted_quiet target.Dropped type.Vector = (tt, tt)
  targeted_quiet target.Dropped type.Void = tt
  targeted_quiet (target.Variable v) r = (tt, tt)
  targeted_quiet target.Returned r = (tt, tt)

  pub dropped_quiet : (ms : List ℕ) (o : Option ValueType) → Quiet ms (dropped o)
  dropped_quiet ms None = tt
  dropped_quiet ms (Some type.Int) = (tt, tt)
  dropped_quiet ms (Some type.Long) = (tt, tt)
  dropped_quiet ms (Some type.Boolean) = (tt, tt)
  dropped_quiet ms (Some type.Vector) = (tt, tt)
  dropped_quiet ms (Some type.Void) = tt

  accessing_shaped : (name : List ℕ) (a : Access) (r : ValueType) → Shaped (of_code (plain (instr.Access name a.method ∷ code.targeted a.target r))) []
  accessing_shaped name a r = record {
    calls = λ p to. (tt, quiet_calls [] (code.targeted a.target r) (targeted_quiet a.target r));
    counts = λ p to. no_tasks p.task (code.targeted a.target r) (quiet_counts [] p.task (code.targeted a.target r) (targeted_quiet a.target r));
  }

  access_shaped : (a : Access) → Shaped (of_code (code.access scope a)) (in_all (map calling a.args))
  access_shaped a =
      let args = in_all (map calling a.args) in
      let first = quiet_shaped args (codes_of c a.args) (expressions_quiet c a.args) in
      let r = result_of (signature_of scope a.field a.method) in
      let second = accessing_shaped (field_name scope a.field) a r in
      record {
        calls = λ p to. calls_both args ((codes_of c a.args).from p.at) (instr.Access (field_name scope a.field) a.method ∷ code.targeted a.target r) (first.calls p to)
            (calls_more [] args (instr.Access (field_name scope a.field) a.method ∷ code.targeted a.target r) (λ n h. absurd (false≢true h)) (second.calls p to));
        counts = λ p to. (let e : p.task + 0 ≡ p.task = omega arith in
            counts_both p.task p.task (p.task + 0) ((codes_of c a.args).from p.at) (instr.Access (field_name scope a.field) a.method ∷ code.targeted a.target r)
            (quiet_counts args p.task ((codes_of c a.args).from p.at) (expressions_quiet c a.args p.at)) (second.counts p to));
      }

  pub stored_quiet : (xs : List Expression) (v at : ℕ) → Quiet (in_all (map calling xs)) ((stored_from c xs v).from at)
  stored_quiet [] v at = tt
  stored_quiet (x ∷ xs) v at =
      quiet_joined (calling x) (in_all (map calling xs)) ((behind (code_of c x) (instr.Store v)).from at) ((stored_from c xs (suc v)).from (at + (behind (code_of c x) (instr.Store v)).size))
      (quiet_both (calling x) ((code_of c x).from at) (instr.Store v ∷ []) (expression_quiet c x at) (tt, tt)) (stored_quiet xs (suc v) (at + (behind (code_of c x) (instr.Store v)).size))

  stored_shaped : (xs : List Expression) → Shaped (stored c xs) (in_all (map calling xs))
  stored_shaped xs = record {
    calls = λ p to. quiet_calls (in_all (map calling xs)) ((stored_from c xs p.variable).from p.at) (stored_quiet xs p.variable p.at);
    counts = λ p to. no_tasks p.task ((stored_from c xs p.variable).from p.at) (quiet_counts (in_all (map calling xs)) p.task ((stored_from c xs p.variable).from p.at) (stored_quiet xs p.variable p.at));
  }

  loads_quiet : (v n : ℕ) → Quiet [] (map instr.Load (range_with_len v n))
  loads_quiet v zero = tt
  loads_quiet v (suc n) = (tt, loads_quiet (v + 1) n)

  visit_shaped : (g : Gather) → Shaped (visit scope g) []
  visit_shaped g = record {
    calls = λ p to. calls_both [] (map instr.Load (range_with_len p.variable (length g.args))) (instr.Access (field_name scope g.field) g.method ∷ instr.Part p.task ∷ [])
        (quiet_calls [] (map instr.Load (range_with_len p.variable (length g.args))) (loads_quiet p.variable (length g.args))) (tt, (tt, tt));
    counts = λ p to. counts_both p.task p.task (p.task + 1) (map instr.Load (range_with_len p.variable (length g.args))) (instr.Access (field_name scope g.field) g.method ∷ instr.Part p.task ∷ [])
        (quiet_counts [] p.task (map instr.Load (range_with_len p.variable (length g.args))) (loads_quiet p.variable (length g.args))) (refl, (let e : suc p.task ≡ p.task + 1 = omega arith in e));
  }

  gather_shaped : (g : Gather) → Shaped (code.gather scope g) (in_all (map calling g.args))
  gather_shaped g =
      let args = in_all (map calling g.args) in
      more_shaped (code.gather scope g) (args ++ []) args (end_in args) (then_shaped (stored c g.args) (then_piece cut (visit scope g)) args [] (stored_shaped g.args) (then_shaped cut (visit scope g) [] [] cut_shaped (visit_shaped g)))

  key_shaped : (key : Option Expression) → Shaped (of_code (key_code scope key)) (calling_maybe key)
  key_shaped None = quiet_shaped [] (plain []) (λ at. tt)
  key_shaped (Some key) = test_shaped key

  tested_shaped : (x : Option Expression) → Shaped (tested c x) (calling_maybe x)
  tested_shaped None = quiet_shaped [] (plain []) (λ at. tt)
  tested_shaped (Some x) = record {
    calls = λ p to. calls_both (calling x) ((code_of c x).from p.at) (instr.IfFalse to.break_to ∷ []) (quiet_calls (calling x) ((code_of c x).from p.at) (expression_quiet c x p.at)) (tt, tt);
    counts = λ p to. no_tasks p.task ((code_of c x).from p.at ++ instr.IfFalse to.break_to ∷ []) (counts_both p.task p.task p.task ((code_of c x).from p.at) (instr.IfFalse to.break_to ∷ []) (quiet_counts (calling x) p.task ((code_of c x).from p.at) (expression_quiet c x p.at)) refl);
  }

  turn_shaped : Shaped (of_instructions (instr.Turn ∷ [])) []
  turn_shaped = quiet_shaped [] (plain (instr.Turn ∷ [])) (λ at. (tt, tt))

  back_shaped : (again : ℕ) → Shaped (of_instructions (instr.Jump again ∷ [])) []
  back_shaped again = quiet_shaped [] (plain (instr.Jump again ∷ [])) (λ at. (tt, tt))

  pass_shaped : (x : Option Expression) (update : List Piece) (body : Piece) (again : ℕ) (ns ms : List ℕ) → Shaped (in_order update) ns → Shaped body ms → Shaped (pass c x update body again) (calling_maybe x ++ (ms ++ ns))
  pass_shaped x update body again ns ms u b =
      let last = then_shaped (of_instructions (instr.Jump again ∷ [])) (in_order []) [] [] (back_shaped again) (quiet_shaped [] (plain []) (λ at. tt)) in
      let tail = more_shaped (in_order (in_order update ∷ of_instructions (instr.Jump again ∷ []) ∷ [])) (ns ++ []) ns (end_in ns) (then_shaped (in_order update) (in_order (of_instructions (instr.Jump again ∷ []) ∷ [])) ns [] u last) in
      then_shaped (tested c x) (in_order (of_instructions (instr.Turn ∷ []) ∷ body ∷ in_order update ∷ of_instructions (instr.Jump again ∷ []) ∷ [])) (calling_maybe x) (ms ++ ns) (tested_shaped x)
      (then_shaped (of_instructions (instr.Turn ∷ [])) (in_order (body ∷ in_order update ∷ of_instructions (instr.Jump again ∷ []) ∷ [])) [] (ms ++ ns) turn_shaped
      (then_shaped body (in_order (in_order update ∷ of_instructions (instr.Jump again ∷ []) ∷ [])) ms ns b tail))

  passes_shaped : (x : Option Expression) (update : List Piece) (body : Piece) (ns ms : List ℕ) → Shaped (in_order update) ns → Shaped body ms → Shaped (passes c x update body) (calling_maybe x ++ (ms ++ ns))
  passes_shaped x update body ns ms u b = record {
    calls = λ p to. (pass_shaped x update body p.at ns ms u b).calls p (record { break_to = p.at + (pass c x update body 0).size; continue_to = next_pass p.at (p.at + (tested c x).size + 1 + body.size) update });
    counts = λ p to. (pass_shaped x update body p.at ns ms u b).counts p (record { break_to = p.at + (pass c x update body 0).size; continue_to = next_pass p.at (p.at + (tested c x).size + 1 + body.size) update });
  }

  abbrev Well : Statement → Type 0
  Well st = Shaped (piece_of scope st) (called_in st)

  abbrev One : Type 0
  One = (st : Statement) × Well st

  abbrev bare_one : Statement-F One → Statement-F Statement
  bare_one = map-Statement One Statement (λ p. p.0)

  abbrev bare_ones : List One → List Statement
  bare_ones ps = map (λ (p : One). p.0) ps

  ones_shaped : (ps : List One) → AllShaped (map (piece_of scope) (bare_ones ps)) (map called_in (bare_ones ps))
  ones_shaped [] = tt
  ones_shaped (p ∷ ps) = (p.1, ones_shaped ps)

  ones_in_order : (ps : List One) → Shaped (in_order (map (piece_of scope) (bare_ones ps))) (in_all (map called_in (bare_ones ps)))
  ones_in_order ps = list_shaped (map (piece_of scope) (bare_ones ps)) (map called_in (bare_ones ps)) (ones_shaped ps)

  statement_layer : (y : Statement-F One) → Shaped (piece_step scope (map-Statement Statement Piece (piece_of scope) (bare_one y))) (called_step (map-Statement Statement (List ℕ) called_in (bare_one y)))
  statement_layer (s.Assign v x) = quiet_shaped (calling x) (behind (code_of c x) (instr.Store v)) (λ at. quiet_both (calling x) ((code_of c x).from at) (instr.Store v ∷ []) (expression_quiet c x at) (tt, tt))
  statement_layer (s.SetElement v i x) =
      quiet_shaped (calling i ++ calling x) (behind (followed_by (code_of c i) (code_of c x)) (instr.VectorSet v))
      (λ at. quiet_both (calling i ++ calling x) ((followed_by (code_of c i) (code_of c x)).from at) (instr.VectorSet v ∷ [])
      (quiet_joined (calling i) (calling x) ((code_of c i).from at) ((code_of c x).from (at + (code_of c i).size)) (expression_quiet c i at) (expression_quiet c x (at + (code_of c i).size))) (tt, tt))
  statement_layer (s.Evaluate x) =
      quiet_shaped (calling x) (followed_by (code_of c x) (plain (dropped (type_of c x)))) (λ at. quiet_both (calling x) ((code_of c x).from at) (dropped (type_of c x)) (expression_quiet c x at) (dropped_quiet (calling x) (type_of c x)))
  statement_layer (s.Access a) = access_shaped a
  statement_layer (s.Gather g) = gather_shaped g
  statement_layer (s.Marked mark body) =
      then_shaped (of_code (key_code scope mark.key)) (then_piece cut (piece_of scope body.0)) (calling_maybe mark.key) (called_in body.0) (key_shaped mark.key) (then_shaped cut (piece_of scope body.0) [] (called_in body.0) cut_shaped body.1)
  statement_layer (s.Opened body) = body.1
  statement_layer (s.Block items) = ones_in_order items
  statement_layer (s.If test first None) =
      then_shaped (of_code (code_of c test)) (guarded 0 (piece_of scope first.0)) (calling test) (called_in first.0 ++ []) (test_shaped test)
      (more_shaped (guarded 0 (piece_of scope first.0)) (called_in first.0) (called_in first.0 ++ []) (λ n h. in_left n (called_in first.0) [] h) (guarded_shaped 0 (piece_of scope first.0) (called_in first.0) first.1))
  statement_layer (s.If test first (Some second)) =
      then_shaped (of_code (code_of c test)) (then_piece (guarded 1 (piece_of scope first.0)) (jumped_over (piece_of scope second.0))) (calling test) (called_in first.0 ++ called_in second.0) (test_shaped test)
      (then_shaped (guarded 1 (piece_of scope first.0)) (jumped_over (piece_of scope second.0)) (called_in first.0) (called_in second.0)
      (guarded_shaped 1 (piece_of scope first.0) (called_in first.0) first.1) (jumped_shaped (piece_of scope second.0) (called_in second.0) second.1))
  statement_layer (s.Loop start test update body) =
      then_shaped (in_order (map (piece_of scope) (bare_ones start))) (passes c test (map (piece_of scope) (bare_ones update)) (piece_of scope body.0))
      (in_all (map called_in (bare_ones start))) (calling_maybe test ++ (called_in body.0 ++ in_all (map called_in (bare_ones update)))) (ones_in_order start)
      (passes_shaped test (map (piece_of scope) (bare_ones update)) (piece_of scope body.0) (in_all (map called_in (bare_ones update))) (called_in body.0) (ones_in_order update) body.1)
  statement_layer s.Break = record { calls = λ p to. (tt, tt); counts = λ p to. no_tasks p.task (instr.Jump to.break_to ∷ []) refl }
  statement_layer s.Continue = record { calls = λ p to. (tt, tt); counts = λ p to. no_tasks p.task (instr.Jump to.continue_to ∷ []) refl }
  statement_layer (s.Return None) = quiet_shaped [] (plain (instr.ReturnVoid ∷ [])) (λ at. (tt, tt))
  statement_layer (s.Return (Some x)) = quiet_shaped (calling x) (behind (code_of c x) instr.Return) (λ at. quiet_both (calling x) ((code_of c x).from at) (instr.Return ∷ []) (expression_quiet c x at) (tt, tt))

  statement_made : (x : Statement-F Statement) (y : Statement-F One) → bare_one y ≡ x → Well (roll-Statement x)
  statement_made x y is =
      let piece = fold-roll-Statement Piece (piece_step scope) x in
      let called = fold-roll-Statement (List ℕ) called_step x in
      let P : Statement-F Statement → Type 0 = λ z. Shaped (piece_step scope (map-Statement Statement Piece (piece_of scope) z)) (called_step (map-Statement Statement (List ℕ) called_in z)) in
      let all : P x = subst P is (statement_layer y) in
      subst (λ (p : Piece). Shaped p (called_in (roll-Statement x))) (sym piece) (subst (λ (ms : List ℕ). Shaped (piece_step scope (map-Statement Statement Piece (piece_of scope) x)) ms) (sym called) all)

  statement_shaped : (st : Statement) → Well st
  statement_shaped = ind-Statement Well statement_made

  all_shaped : (xs : List Statement) → AllShaped (map (piece_of scope) xs) (map called_in xs)
  all_shaped [] = tt
  all_shaped (x ∷ xs) = (statement_shaped x, all_shaped xs)

  pub statements_shaped : (xs : List Statement) → Shaped (pieces_of scope xs) (in_all (map called_in xs))
  statements_shaped xs = list_shaped (map (piece_of scope) xs) (map called_in xs) (all_shaped xs)
