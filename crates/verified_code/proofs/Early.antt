-- The locals that are set before a typed body are variables of a type.
use Rattle.std.proofs.Common.{◌≡◌, sym, subst, ℕ, Bool, true, false, cond, List, [], ◌∷◌, ◌++◌, map, Some, None}
use Rattle.sdg_base.specs.declared.value_type.ValueType.{ValueType}
use Rattle.access_blocks.specs.declared.body.Target.{Target}
use Rattle.access_blocks.specs.declared.body.Target.TheVariants as target
use Rattle.access_blocks.specs.declared.body.Statement.{Statement, roll-Statement}
use Rattle.access_blocks.specs.declared.body.Statement.TheOpen.{Statement-F}
use Rattle.access_blocks.specs.declared.body.Statement.TheOpen as s
use Rattle.access_blocks.specs.declared.body.Statement.TheFolds.{fold-roll-Statement, ind-Statement, map-Statement}
use Rattle.body_code.specs.Early.{Assigned, to_target, with_reads, key_reads, all_of, assigned_step, assigned_in, is_in, early_after}
use Rattle.body_code.specs.Typing.{variable_type, needs, needs_of_all, type_of}
use Rattle.body_code.specs.Checking.{Standing, Around, Checking, checked_step, checked, targeted, are_met, is_type, with_known, otherwise, outside, passing, in_block}
use Rattle.body_code.specs.Checking as checking
use Rattle.verified_code.proofs.Labels.{Setting}
use Rattle.verified_code.proofs.Simple.{Whole, so_is, type_is, assigned_is, accessed_is}
use Rattle.verified_code.proofs.Control.{next_of_is, opened_is, compound_is, branch_is, marked_is}
use Rattle.verified_code.proofs.Loops.{passed_is}

module _ (set : Setting) (w : Whole set) where
  abbrev pub HasType : ℕ → Type 0
  HasType v = (t : ValueType) × (variable_type set.around.context v ≡ Some t)

  abbrev pub AllTyped : List Assigned → Type 0
  AllTyped [] = Unit {0}
  AllTyped (a ∷ found) = HasType a.variable × AllTyped found

  abbrev pub AllHave : List ℕ → Type 0
  AllHave [] = Unit {0}
  AllHave (v ∷ vs) = HasType v × AllHave vs

  typed_both : (xs ys : List Assigned) → AllTyped xs → AllTyped ys → AllTyped (xs ++ ys)
  typed_both [] ys h k = k
  typed_both (x ∷ xs) ys h k = (h.0, typed_both xs ys h.1 k)

  typed_more : (r : List ℕ) (xs : List Assigned) → AllTyped xs → AllTyped (map (with_reads r) xs)
  typed_more r [] h = tt
  typed_more r (x ∷ xs) h = (h.0, typed_more r xs h.1)

  abbrev Typed : Checking → List Assigned → Type 0
  Typed k found = (exits : Around) (st after : Standing) → k exits st ≡ Some after → AllTyped found

  abbrev Good : Statement → Type 0
  Good x = Typed (checked set.around x) (assigned_in x)

  abbrev Part : Type 0
  Part = (x : Statement) × Good x

  abbrev bare : Statement-F Part → Statement-F Statement
  bare = map-Statement Part Statement (λ p. p.0)

  abbrev bares : List Part → List Statement
  bares ps = map (λ (p : Part). p.0) ps

  parts_typed : (ps : List Part) → Typed (checking.in_order (map (checked set.around) (bares ps))) (all_of (map assigned_in (bares ps)))
  parts_typed [] exits st after e = tt
  parts_typed (p ∷ ps) exits st after e =
      let m = next_of_is (checking.in_order (map (checked set.around) (bares ps)) exits) (checked set.around p.0 exits st) after e in
      typed_both (assigned_in p.0) (all_of (map assigned_in (bares ps))) (p.1 exits st m.0 m.1) (parts_typed ps exits m.0 after m.2)

  target_typed : (to : Target) (t : ValueType) (reads : List ℕ) (st after : Standing) → targeted set.around to t st ≡ Some after → AllTyped (to_target to reads)
  target_typed target.Dropped t reads st after e = tt
  target_typed target.Returned t reads st after e = tt
  target_typed (target.Variable v) t reads st after e =
      let k = so_is (is_type (variable_type set.around.context v) t) (with_known v st) after e in
      ((t, type_is (variable_type set.around.context v) t k.0), tt)

  layer : (y : Statement-F Part) → Typed (checked_step set.around (map-Statement Statement Checking (checked set.around) (bare y))) (assigned_step (map-Statement Statement (List Assigned) assigned_in (bare y)))
  layer (s.Assign v x) exits st after e = (let k = assigned_is set w v (type_of set.around.context x) (are_met set.around st (needs x)) st after e in ((k.t, k.variable), tt))
  layer (s.SetElement v at x) exits st after e = tt
  layer (s.Evaluate x) exits st after e = tt
  layer (s.Access a) exits st after e =
      let k = accessed_is set w a (checking.signature_of set.around a.field a.method) st after e in
      target_typed a.target k.sig.result (needs_of_all a.args).variables st after k.after_is
  layer (s.Gather g) exits st after e = tt
  layer (s.Marked mark body) exits st after e =
      let m = marked_is set w mark (checked set.around body.0) exits st after e in
      typed_more (key_reads mark.key) (assigned_in body.0) (body.1 exits (in_block mark.field st) after m.2)
  layer (s.Opened body) exits st after e = (let m = opened_is st (checked set.around body.0 exits (outside st)) after e in body.1 exits (outside st) m.0 m.1)
  layer (s.Block items) exits st after e =
      let m = compound_is st (checking.in_order (map (checked set.around) (bares items)) exits st) after e in parts_typed items exits st m.0 m.1
  layer (s.If test first None) exits st after e =
      let m = branch_is set w test exits (checked set.around first.0) None st after e in
      typed_both (assigned_in first.0) [] (first.1 exits st m.one m.is_one) tt
  layer (s.If test first (Some second)) exits st after e =
      let m = branch_is set w test exits (checked set.around first.0) (Some (checked set.around second.0)) st after e in
      typed_both (assigned_in first.0) (assigned_in second.0) (first.1 exits st m.one m.is_one) (second.1 exits st m.other m.is_other)
  layer (s.Loop start test update body) exits st after e =
      let checks = map (checked set.around) (bares update) in
      let m = next_of_is (passing set.around st test checks (checked set.around body.0)) (checking.in_order (map (checked set.around) (bares start)) None st) after e in
      let h = passed_is set w st test checks (checked set.around body.0) m.0 after m.2 in
      typed_both (all_of (map assigned_in (bares start))) (all_of (map assigned_in (bares update)) ++ assigned_in body.0) (parts_typed start None st m.0 m.1)
      (typed_both (all_of (map assigned_in (bares update))) (assigned_in body.0) (parts_typed update None m.0 h.update_end h.is_update) (body.1 (Some m.0) m.0 h.body_end h.is_body))
  layer s.Break exits st after e = tt
  layer s.Continue exits st after e = tt
  layer (s.Return x) exits st after e = tt

  made_good : (x : Statement-F Statement) (y : Statement-F Part) → bare y ≡ x → Good (roll-Statement x)
  made_good x y is =
      let check = fold-roll-Statement Checking (checked_step set.around) x in
      let assigned = fold-roll-Statement (List Assigned) assigned_step x in
      let P : Statement-F Statement → Type 0 = λ z. Typed (checked_step set.around (map-Statement Statement Checking (checked set.around) z)) (assigned_step (map-Statement Statement (List Assigned) assigned_in z)) in
      let all : P x = subst P is (layer y) in
      subst (λ (k : Checking). Typed k (assigned_in (roll-Statement x))) (sym check)
      (subst (λ (found : List Assigned). Typed (checked_step set.around (map-Statement Statement Checking (checked set.around) x)) found) (sym assigned) all)

  statement_typed : (x : Statement) → Good x
  statement_typed = ind-Statement Good made_good

  pub statements_typed : (xs : List Statement) → Typed (checking.in_order (map (checked set.around) xs)) (all_of (map assigned_in xs))
  statements_typed [] exits st after e = tt
  statements_typed (x ∷ xs) exits st after e =
      let m = next_of_is (checking.in_order (map (checked set.around) xs) exits) (checked set.around x exits st) after e in
      typed_both (assigned_in x) (all_of (map assigned_in xs)) (statement_typed x exits st m.0 m.1) (statements_typed xs exits m.0 after m.2)

  pub early_have : (seen : List ℕ) (found : List Assigned) → AllTyped found → AllHave (early_after seen found)
  early_have seen [] h = tt
  early_have seen (a ∷ found) h = by (is_in a.variable seen) (is_in a.variable a.reads) (early_have seen found h.1) (early_have (a.variable ∷ seen) found h.1)
    where
      by : (b d : Bool) → AllHave (early_after seen found) → AllHave (early_after (a.variable ∷ seen) found)
          → AllHave (cond b (early_after seen found) (cond d (a.variable ∷ early_after (a.variable ∷ seen) found) (early_after (a.variable ∷ seen) found)))
      by true d x y = x
      by false true x y = (h.0, y)
      by false false x y = y
