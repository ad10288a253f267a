use Rattle.std.proofs.Common.{◌≡◌, None, pos, rules, arith}
use Rattle.run_text.proofs.Decimal.{no_upto, only_upto}
use Rattle.run_text.proofs.number.number_upto.Goals as goal

pub returns-in_err-number : goal.returns-in_err-number
returns-in_err-number c =
    let none : c.from_residual.result ≡ None = search rules in
    rw none (no_upto c.args.bytes.now c.args.most (omega (arith, c.ranges.most.fits)) c.in_err-number.ensures)

pub returns-then-number-lt1 : goal.returns-then-number-lt1
returns-then-number-lt1 c = λ n within text.
    let same : c.in_ok-number.number ≡ pos n = only_upto c.args.bytes.now c.args.most n c.in_ok-number.number (omega (arith, c.ranges.most.fits)) c.in_ok-number.ensures.0 c.in_ok-number.ensures.1 within.1 text in
    first_of (grind (arith, same, c.if-number-lt1.true, within.0), search rules)

pub returns-then-from-number : goal.returns-then-from-number
returns-then-from-number c = λ n within text.
    let same : c.in_ok-number.number ≡ pos n = only_upto c.args.bytes.now c.args.most n c.in_ok-number.number (omega (arith, c.ranges.most.fits)) c.in_ok-number.ensures.0 c.in_ok-number.ensures.1 within.1 text in
    first_of (grind (arith, same, c.if-from-number.true, c.from.ensures, within.1), search rules)
