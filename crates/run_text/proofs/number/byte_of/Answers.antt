use Rattle.std.proofs.lemmas.Int.{to_z-of_z}
use Rattle.std.specs.Int.{w64}
use Rattle.run_text.proofs.Decimal.{byte_from_long, no_byte}
use Rattle.run_text.proofs.number.byte_of.Goals as goal

pub returns-in-Some : goal.returns-in-Some
returns-in-Some c =
    rw c.ok.ensures.value (byte_from_long c.args.bytes.now c.in-Some.n _ c.try_from.result c.in-Some.ensures (to_z-of_z w64 c.in-Some.n c.in-Some.ensures.0) c.try_from.ensures)

pub returns-in-None : goal.returns-in-None
returns-in-None c = no_byte c.args.bytes.now c.in-None.ensures
