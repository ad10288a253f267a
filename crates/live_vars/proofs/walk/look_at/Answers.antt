use Rattle.std.proofs.Common.{◌≡◌, ◌||◌, true, false, ℕ, List, ◌++◌, ◌∷◌, [], ◌+◌, ◌≤◌, length, slice_set, refl, sym, ap, subst, ◌∙◌, arith, length-append}
use Rattle.std.proofs.lemmas.Option.{slice_get_read}
use Rattle.live_vars.specs.Steps.{is_written, ends_in}
use Rattle.live_vars.specs.Walks.{IsWalk, left}
use Rattle.live_vars.proofs.Lists.{same_at}
use Rattle.live_vars.proofs.Walking.{walk_ends, walk_goes_on, or_false}
use Rattle.live_vars.proofs.Measure.{left_less}
use Rattle.live_vars.proofs.walk.look_at.Goals as goal

pub returns-then-is_end-clause-walk : goal.returns-then-is_end-clause-walk
returns-then-is_end-clause-walk c =
    let code = c.args.code.now in
    let sets = c.args.sets.now.items in
    let at = c.args.at in
    let v = c.args.variable in
    let i = c.index-code-at.result in
    let row = c.index.result.now in
    let many = c.requires.walk.so_far.as_many in
    let within = c.requires.within in
    let P : List ℕ → Type 0 = λ r. (is_written i v || ends_in r v) ≡ true in
    walk_ends code v sets c.args.work.now.items at i row (slice_get_read code (length code) at i refl within c.index-code-at.is)
    (slice_get_read sets (length sets) at row refl (omega (arith, many, within)) c.index.ensures)
    (subst P c.as_slice.ensures (sym c.is_end.ensures ∙ c.if-is_end.true)) c.requires.walk

pub returns-clause-walk : goal.returns-clause-walk
returns-clause-walk c =
    let code = c.args.code.now in
    let sets = c.args.sets.now.items in
    let before = c.args.before.now in
    let work = c.args.work.now.items in
    let at = c.args.at in
    let v = c.args.variable in
    let i = c.index-code-at.result in
    let row = c.index.result.now in
    let before_at = c.index-before-at.result in
    let many = c.requires.walk.so_far.as_many in
    let many_before = c.requires.before.as_many in
    let within = c.requires.within in
    let is_row = slice_get_read sets (length sets) at row refl (omega (arith, many, within)) c.index.ensures in
    let is_row_2 = slice_get_read sets (length sets) at c.index_mut.result.now refl (omega (arith, many, within)) c.index_mut.ensures.value in
    let same = same_at sets at c.index_mut.result.now row is_row_2 is_row in
    let pushed : c.push.new.self ≡ row ++ v ∷ [] = c.in_ok-push.ensures.ok ∙ ap (λ r. r ++ v ∷ []) same in
    let extended : c.extend_from_slice.new.self.items ≡ work ++ before_at = c.in_ok-extend_from_slice.ensures.items ∙ ap (λ r. work ++ r) c.as_slice-2.ensures in
    let P : List ℕ → Type 0 = λ r. (is_written i v || ends_in r v) ≡ false in
    let Q : List ℕ → Type 0 = λ r. IsWalk code v (slice_set sets at r) c.extend_from_slice.new.self.items in
    let R : List ℕ → Type 0 = λ ks. IsWalk code v (slice_set sets at (row ++ v ∷ [])) ks in
    subst Q (sym pushed) (subst R (sym extended)
    (walk_goes_on code v sets work at i row before_at before (slice_get_read code (length code) at i refl within c.index-code-at.is) is_row
    (subst P c.as_slice.ensures (sym c.is_end.ensures ∙ c.if-is_end.false))
    (slice_get_read before (length before) at before_at refl (omega (arith, many_before, within)) c.index-before-at.is) c.requires.before c.requires.walk))

fewer : (a b c l more : ℕ) → c ≡ a + more → l + more ≡ b → c + l ≤ a + b
fewer a b c l more e f = omega (arith, e, f)

pub returns-clause-less : goal.returns-clause-less
returns-clause-less c =
    let sets = c.args.sets.now.items in
    let before = c.args.before.now in
    let work = c.args.work.now.items in
    let at = c.args.at in
    let v = c.args.variable in
    let i = c.index-code-at.result in
    let row = c.index.result.now in
    let before_at = c.index-before-at.result in
    let many = c.requires.walk.so_far.as_many in
    let many_before = c.requires.before.as_many in
    let within = c.requires.within in
    let is_row = slice_get_read sets (length sets) at row refl (omega (arith, many, within)) c.index.ensures in
    let is_row_2 = slice_get_read sets (length sets) at c.index_mut.result.now refl (omega (arith, many, within)) c.index_mut.ensures.value in
    let same = same_at sets at c.index_mut.result.now row is_row_2 is_row in
    let pushed : c.push.new.self ≡ row ++ v ∷ [] = c.in_ok-push.ensures.ok ∙ ap (λ r. r ++ v ∷ []) same in
    let extended : c.extend_from_slice.new.self.items ≡ work ++ before_at = c.in_ok-extend_from_slice.ensures.items ∙ ap (λ r. work ++ r) c.as_slice-2.ensures in
    let P : List ℕ → Type 0 = λ r. (is_written i v || ends_in r v) ≡ false in
    let goes_on = subst P c.as_slice.ensures (sym c.is_end.ensures ∙ c.if-is_end.false) in
    let less = left_less v sets before at row before_at is_row (slice_get_read before (length before) at before_at refl (omega (arith, many_before, within)) c.index-before-at.is)
    (or_false (is_written i v) (ends_in row v) goes_on).1 in
    let Q : List ℕ → Type 0 = λ r. length c.extend_from_slice.new.self.items + left v (slice_set sets at r) before ≤ length work + left v sets before in
    subst Q (sym pushed)
    (fewer (length work) (left v sets before) (length c.extend_from_slice.new.self.items) (left v (slice_set sets at (row ++ v ∷ [])) before) (length before_at)
    (ap length extended ∙ length-append work before_at) less)
