use Rattle.plain_java.proofs.Histories.{serial_is_plain}
use Rattle.plain_java.proofs.serial.serial_is_plain.Goals as goal

pub returns : goal.returns
returns c = record { plain = serial_is_plain }
