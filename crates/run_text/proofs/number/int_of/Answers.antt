use Rattle.std.proofs.lemmas.Int.{to_z-of_z}
use Rattle.std.specs.Int.{w64}
use Rattle.run_text.proofs.Decimal.{int_from_long}
use Rattle.run_text.proofs.number.int_of.Goals as goal

pub returns-in-Some : goal.returns-in-Some
returns-in-Some c =
    rw c.ok.ensures.value (int_from_long c.args.bytes.now c.in-Some.n _ c.try_from.result c.in-Some.ensures (to_z-of_z w64 c.in-Some.n c.in-Some.ensures.0) c.try_from.ensures)
