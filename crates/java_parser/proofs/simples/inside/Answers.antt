use Rattle.std.proofs.Common.{◌≡◌, Err, ap, ◌∙◌, suc, arith, ◌-◌}
use Rattle.std.proofs.lemmas.List.{length-map}
use Rattle.java_parser.specs.Words.{kinds}
use Rattle.java_parser.specs.Words.Fault.{TooDeep}
use Rattle.java_parser.specs.Simples.{inside}
use Rattle.java_parser.proofs.simples.inside.Goals as goal

pub returns-then-levels-eq0 : goal.returns-then-levels-eq0
unfolding inside
returns-then-levels-eq0 c =
    let none : c.args.levels ≡ 0 = omega arith in
    ap (λ n. inside n (kinds c.args.tokens.now)) none ∙ ap (λ left. Err (TooDeep left)) (length-map c.args.tokens.now (λ t. t.kind))

pub returns : goal.returns
unfolding inside
returns c =
    let more : c.args.levels ≡ suc (c.args.levels - 1) = omega arith in
    ap (λ n. inside n (kinds c.args.tokens.now)) more
