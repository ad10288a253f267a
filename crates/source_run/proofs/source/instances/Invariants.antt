use Rattle.std.proofs.Common.{◌≡◌, replicate}
use Rattle.state_classes.specs.States.{empty_state}
use Rattle.source_run.proofs.source.instances.Given as goal

abbrev pub invariant-loop-instance : goal.invariant-loop-instance
invariant-loop-instance l = l.states.items ≡ replicate l._instance (empty_state l.class)
