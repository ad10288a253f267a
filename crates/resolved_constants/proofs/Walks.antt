-- Each form of expression is read in step with the walk of the rules on types, and judged, where its parts are.
use Rattle.std.proofs.Common.{◌≡◌, ℕ, Bool, true, false, not, ◌||◌, List, [], refl, sym, subst}
use Rattle.sdg_base.specs.declared.operator.BinOp.{BinOp}
use Rattle.sdg_base.specs.declared.operator.UnOp.{UnOp}
use Rattle.sdg_base.specs.declared.val.Num.{Num}
use Rattle.java_tree.specs.declared.tree.CallForm.TheOpen as e
use Rattle.java_tree.specs.declared.types.ValueType.TheVariants.{Boolean}
use Rattle.java_tree.specs.declared.types.ExprType.TheVariants.{Value}
use Rattle.java_tree.specs.declared.types.Declaration.{Declaration}
use Rattle.java_types.specs.declared.fits.Sort.TheVariants as sort
use Rattle.java_types.specs.declared.walk.Walk.{Walk}
use Rattle.java_types.specs.Fits.{is_minus, unless, with_part, may_be_number, may_be_boolean, sort_of, outcome, choice, takes, type_of_num}
use Rattle.java_types.specs.Walks.{past, noted}
use Rattle.java_types.specs.Expressions.{Reading, clash, operated, chosen, unary, cast, number, conditional, binary, behind_operator, behind_type, in_parentheses}
use Rattle.java_flow.specs.Expressions.{Judged, expr_step}
use Rattle.access_blocks.specs.declared.body.Expression.TheVariants as x
use Rattle.access_blocks.specs.declared.resolved.Resolved.{Resolved}
use Rattle.access_blocks.specs.Cursors.{Cursor, Read, read}
use Rattle.access_blocks.specs.Resolving.{Resolving, resolved, taken}
use Rattle.access_blocks.specs.Resolving as resolving
use Rattle.typed_bodies.specs.Reading.{Place, Follows}
use Rattle.typed_bodies.proofs.Steps.{unbroken, adds_none, follows_noted, past_follows, follows_past, past_quiet, then_made, follows_two}
use Rattle.typed_bodies.proofs.Layers.{goes}
use Rattle.resolved_constants.specs.Constants.{IsJudged}
use Rattle.resolved_constants.proofs.Judging.{binary_judged, conditional_judged, unary_judged, cast_judged, paren_judged, number_judged, truth_judged}

follows_to : {A : Type 0} {w u v : Walk} (p : Place) {reading : Cursor → Read A} {Fits : List Declaration → A → Type 0} → v ≡ u → Follows p w u reading Fits → Follows p w v reading Fits
follows_to {w = w} p {reading = reading} {Fits = Fits} e f = subst (λ (end : Walk). Follows p w end reading Fits) (sym e) f

neither : (a b : Bool) → a ≡ false → b ≡ false → (a || b) ≡ false
neither true b e f = e
neither false b e f = f

not_false : (b : Bool) → not b ≡ false → b ≡ true
not_false true e = refl
not_false false e = absurd (cc)

-- an expression that is read in step and judged
abbrev pub ReadsPart : Place → Reading → Resolving → Judged → Type 0
ReadsPart p walk reading j = (negated : Bool) (w : Walk) → (walk negated w).walk.findings ≡ [] → Follows p w (walk negated w).walk reading (λ names. IsJudged (walk negated w).found j)

module _ (p : Place) where
  pub binary_kept : (op : BinOp) (left right : Reading) (a b : Resolving) (i j : Judged) → ReadsPart p left a i → ReadsPart p right b j → (w : Walk)
      → (binary p.env op left right w).walk.findings ≡ []
      → Follows p w (binary p.env op left right w).walk (resolving.binary op a b (binary p.env op left right w).found) (λ names. IsJudged (binary p.env op left right w).found (expr_step (e.Binary op i j)))
  unfolding operated
  binary_kept op left right a b i j reads_left reads_right w quiet =
      let l = left false w in
      let between = past p.env 1 l.walk in
      let r = right false between in
      let t = clash (sort_of op) w.at (record { found = l.found; at = w.at }) (record { found = r.found; at = between.at }) r.walk in
      let g = goes (sort_of op) w.at (record { found = l.found; at = w.at }) (record { found = r.found; at = between.at }) r.walk quiet in
      let two = reads_right false between g.quiet in
      let one = reads_left false w (past_quiet p.env 1 l.walk two.added.no_findings) in
      let whole = outcome t.holds (sort_of op) l.found r.found in
      follows_to p g.same
      (follows_two p (λ names. IsJudged l.found i) (λ names. IsJudged r.found j) (λ x y. resolved (resolving.operated op x y) whole) (λ names. IsJudged whole (expr_step (e.Binary op i j)))
      (λ names more x y is_x is_y. binary_judged op l.found r.found t.holds i j x y g.holds g.first g.second is_x is_y)
      one (past_follows p p.env 1 two))

  pub conditional_kept : (test first second : Reading) (t a b : Resolving) (h i j : Judged) → ReadsPart p test t h → ReadsPart p first a i → ReadsPart p second b j → (w : Walk)
      → (conditional p.env test first second w).walk.findings ≡ []
      → Follows p w (conditional p.env test first second w).walk (resolving.conditional t a b (conditional p.env test first second w).found)
      (λ names. IsJudged (conditional p.env test first second w).found (expr_step (e.Conditional h i j)))
  unfolding chosen
  conditional_kept test first second t a b h i j reads_test reads_first reads_second w quiet =
      let q = test false w in
      let w1 = past p.env 1 q.walk in
      let l = first false w1 in
      let w2 = past p.env 1 l.walk in
      let r = second false w2 in
      let untested = not (may_be_boolean q.found) in
      let c = clash sort.Equality w.at (record { found = l.found; at = w1.at }) (record { found = r.found; at = w2.at }) (noted untested w.at 7 r.walk) in
      let g = goes sort.Equality w.at (record { found = l.found; at = w1.at }) (record { found = r.found; at = w2.at }) (noted untested w.at 7 r.walk) quiet in
      let u = unbroken untested w.at 7 r.walk g.quiet in
      let three = reads_second false w2 u.quiet in
      let two = reads_first false w1 (past_quiet p.env 1 l.walk three.added.no_findings) in
      let one = reads_test false w (past_quiet p.env 1 q.walk two.added.no_findings) in
      let whole = choice (untested || c.holds) q.found l.found r.found in
      follows_to p g.same (follows_noted p u
      (follows_two p (λ names (x : Resolved × Resolved). IsJudged q.found h x.0 × IsJudged l.found i x.1) (λ names. IsJudged r.found j)
      (λ (x : Resolved × Resolved) z. resolved (resolving.chosen_between whole x.0 x.1 z) whole) (λ names. IsJudged whole (expr_step (e.Conditional h i j)))
      (λ names others x z both is_z. conditional_judged q.found l.found r.found (untested || c.holds) h i j x.0 x.1 z (neither _ _ u.holds g.holds) u.holds g.second both.0 both.1 is_z)
      (follows_two p (λ names. IsJudged q.found h) (λ names. IsJudged l.found i) (λ x y. (x, y)) (λ names (x : Resolved × Resolved). IsJudged q.found h x.0 × IsJudged l.found i x.1)
      (λ names more x y is_x is_y. (is_x, is_y))
      one (past_follows p p.env 1 two))
      (past_follows p p.env 1 three)))

  pub unary_kept : (op : UnOp) (part : Reading) (a : Resolving) (j : Judged) → ReadsPart p part a j → (w : Walk) → (behind_operator p.env op part w).walk.findings ≡ []
      → Follows p w (behind_operator p.env op part w).walk (resolving.from a (resolving.negated op) (behind_operator p.env op part w).found)
      (λ names. IsJudged (behind_operator p.env op part w).found (expr_step (e.Unary op j)))
  unfolding unary
  unary_kept op part a j reads w quiet =
      let w1 = past p.env 1 w in
      let t = part (is_minus op) w1 in
      let u = unbroken (not (takes op t.found)) w1.at 7 t.walk quiet in
      let whole = unless (not (takes op t.found)) t.found in
      past_follows p p.env 1 (follows_noted p u
      (then_made p (λ r. resolved (resolving.negated op r) whole) (λ names. IsJudged whole (expr_step (e.Unary op j)))
      (λ names r is. unary_judged op t.found (not (takes op t.found)) j r u.holds (not_false (takes op t.found) u.holds) is)
      (reads (is_minus op) w1 u.quiet)))

  pub cast_kept : (to : Num) (part : Reading) (a : Resolving) (j : Judged) → ReadsPart p part a j → (w : Walk) → (behind_type p.env to part w).walk.findings ≡ []
      → Follows p w (behind_type p.env to part w).walk (resolving.from a (taken (resolving.number_type to)) (behind_type p.env to part w).found)
      (λ names. IsJudged (behind_type p.env to part w).found (expr_step (e.Cast to j)))
  unfolding cast
  cast_kept to part a j reads w quiet =
      let w1 = past p.env 3 w in
      let t = part false w1 in
      let u = unbroken (not (may_be_number t.found)) w1.at 7 t.walk quiet in
      let whole = with_part (not (may_be_number t.found)) t.found (type_of_num to) in
      past_follows p p.env 3 (follows_noted p u
      (then_made p (λ r. resolved (taken (resolving.number_type to) r) whole) (λ names. IsJudged whole (expr_step (e.Cast to j)))
      (λ names r is. cast_judged to t.found (not (may_be_number t.found)) j r u.holds (not_false (may_be_number t.found) u.holds) is)
      (reads false w1 u.quiet)))

  pub paren_kept : (part : Reading) (a : Resolving) (j : Judged) → ReadsPart p part a j → (w : Walk) → (in_parentheses p.env part w).walk.findings ≡ []
      → Follows p w (in_parentheses p.env part w).walk (resolving.from a (λ r. r.expression) (in_parentheses p.env part w).found)
      (λ names. IsJudged (in_parentheses p.env part w).found (expr_step (e.Paren j)))
  paren_kept part a j reads w quiet =
      let t = part false (past p.env 1 w) in
      past_follows p p.env 1 (follows_past p p.env 1
      (then_made p (λ r. resolved r.expression t.found) (λ names. IsJudged t.found (expr_step (e.Paren j))) (λ names r is. paren_judged t.found j r is)
      (reads false (past p.env 1 w) (past_quiet p.env 1 t.walk quiet))))

  pub number_kept : (broken decimal long : Bool) (digits : ℕ) (w : Walk) → (number p.env broken long w).walk.findings ≡ []
      → Follows p w (number p.env broken long w).walk (λ c. read (resolving.number digits decimal long (number p.env broken long w).found) c)
      (λ names. IsJudged (number p.env broken long w).found (expr_step (e.Number digits decimal long)))
  unfolding number
  number_kept broken decimal long digits w quiet =
      let u = unbroken broken w.at 1 w (past_quiet p.env 1 _ quiet) in
      follows_past p p.env 1 (follows_noted p u (record {
        added = adds_none w u.quiet;
        in_step = λ known c types names stands. record { behind = stands; fits = number_judged digits decimal long broken u.holds };
      }))

  pub truth_kept : (b : Bool) (w : Walk) → (past p.env 1 w).findings ≡ []
      → Follows p w (past p.env 1 w) (λ c. read (resolved (x.Bool b) (Value Boolean)) c) (λ names. IsJudged (Value Boolean) (expr_step (e.Bool b)))
  truth_kept b w quiet =
      follows_past p p.env 1 (record {
        added = adds_none w (past_quiet p.env 1 w quiet);
        in_step = λ known c types names stands. record { behind = stands; fits = truth_judged b };
      })
