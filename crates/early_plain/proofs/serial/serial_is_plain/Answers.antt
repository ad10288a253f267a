use Rattle.early_plain.proofs.SerialCalls.{first_are_plain, serial_is_plain}
use Rattle.early_plain.proofs.serial.serial_is_plain.Goals as goal

pub returns-clause-plain : goal.returns-clause-plain
returns-clause-plain c = serial_is_plain

pub returns-clause-first : goal.returns-clause-first
returns-clause-first c = first_are_plain
