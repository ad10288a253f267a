use Rattle.std.proofs.Common.{◌≡◌, arith, sym, ◌∙◌}
use Rattle.std.proofs.lemmas.Fmt.{decimal_injective}
use Rattle.run_text.proofs.number.number_within.Goals as goal
use Rattle.run_text.proofs.number.number_within.Goals.{then-number-low-via-then-number-low, then-number-low-via-else-number-low+then-high-number}

pub returns-then-number-low : goal.returns-then-number-low
returns-then-number-low c = λ n low high text.
    let same : n ≡ c.in_ok-number.number = decimal_injective n c.in_ok-number.number (omega (arith, c.ranges.high.fits)) (omega (arith, c.in_ok-number.ensures.0)) (text ∙ sym c.in_ok-number.ensures.1) in
    elim c.then-number-low.branch [ then-number-low-via-then-number-low w ↦ omega arith | then-number-low-via-else-number-low+then-high-number w ↦ omega arith ]
