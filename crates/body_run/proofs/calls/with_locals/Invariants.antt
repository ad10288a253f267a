use Rattle.std.proofs.Common.{◌≡◌, ◌++◌, map, drop}
use Rattle.access_blocks.specs.Calls.{start_value}
use Rattle.body_run.proofs.calls.with_locals.Given as goal

abbrev pub invariant-loop-local : goal.invariant-loop-local
invariant-loop-local l = l.variables.items ++ map start_value (drop l.local-index l.locals) ≡ l.fn.args.items ++ map start_value l.locals
