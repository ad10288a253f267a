use Rattle.std.proofs.Common.{◌≡◌, ◌+◌, ◌++◌, map}
use Rattle.std.specs.List.{range_with_len}
use Rattle.flat_code.specs.declared.graph.Instr.TheVariants as instr
use Rattle.task_lower.proofs.accesses.load_arguments.Given as goal

abbrev pub invariant-loop : goal.invariant-loop
invariant-loop l = record {
  variable : l.variable ≡ l.first + l.counter;
  code : l.code ≡ l.initial.code ++ map instr.Load (range_with_len l.first l.counter);
}
