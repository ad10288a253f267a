use Rattle.std.proofs.Common.{refl}
use Rattle.run_text.specs.Schedules.{StrangeReceiver, StrangeSender}
use Rattle.run_text.proofs.event.take_from.Goals as goal

pub returns-in_default-clause-bad : goal.returns-in_default-clause-bad
returns-in_default-clause-bad c = StrangeReceiver c.args.to.now c.args.from.now c.args.pick.now refl c.in_default.ensures

pub returns-in_default-sender_of-clause-bad : goal.returns-in_default-sender_of-clause-bad
returns-in_default-sender_of-clause-bad c = StrangeSender c.args.to.now c.args.from.now c.args.pick.now refl c.in_default-sender_of.ensures
