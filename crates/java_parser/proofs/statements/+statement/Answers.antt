use Rattle.std.proofs.Common.{◌≡◌, ℕ, ◌-◌, ◌<◌, suc, Err, ap, ◌∙◌, arith}
use Rattle.std.proofs.lemmas.List.{length-map}
use Rattle.java_parser.specs.Words.{kinds}
use Rattle.java_parser.specs.Words.Fault.{TooDeep}
use Rattle.java_parser.specs.Statements.{statement_at}
use Rattle.java_parser.proofs.statements.+statement.Goals as goal

one_inside : {A : Type 0} (f : ℕ → A) (n : ℕ) → 0 < n → f n ≡ f (suc (n - 1))
one_inside f n lt = let more : n ≡ suc (n - 1) = omega arith in ap f more

pub returns-then-levels-eq0 : goal.returns-then-levels-eq0
unfolding statement_at
returns-then-levels-eq0 t c =
    let none : c.args.levels ≡ 0 = omega arith in
    ap (λ n. statement_at n (kinds c.args.tokens.now)) none ∙ ap (λ left. Err (TooDeep left)) (length-map c.args.tokens.now (λ t. t.kind))

pub returns : goal.returns
unfolding statement_at
returns t c =
    let read = rw c.statement_form.ensures at c.of_form.ensures in
    rw (one_inside (λ n. statement_at n (kinds c.args.tokens.now)) c.args.levels (omega arith)) read
