use Rattle.std.proofs.Common.{◌≡◌, ◌+◌, drop}
use Rattle.early_cutter.specs.Points.{number_in}
use Rattle.early_cutter.proofs.lowering.field_number.Given as goal

abbrev pub invariant-loop-number : goal.invariant-loop-number
invariant-loop-number l = number_in l.fields l.name ≡ l.number + number_in (drop l.number l.fields) l.name
