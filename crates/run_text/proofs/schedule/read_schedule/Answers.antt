use Rattle.std.specs.Str.Lines.{lines}
use Rattle.run_text.proofs.ScheduleLaws.{range, fits, broken, only_schedule, only_bad}
use Rattle.run_text.proofs.schedule.read_schedule.Goals as goal

pub returns-clause-range : goal.returns-clause-range
returns-clause-range c = range c.args.fields.now (lines c.args.bytes.now) c.schedule_of.result c.schedule_of.ensures.found

pub returns-clause-fits : goal.returns-clause-fits
returns-clause-fits c = fits c.args.fields.now (lines c.args.bytes.now) c.schedule_of.result c.schedule_of.ensures.found

pub returns-clause-broken : goal.returns-clause-broken
returns-clause-broken c = λ place rule b. broken c.args.fields.now (lines c.args.bytes.now) c.schedule_of.result place rule c.schedule_of.ensures.found b

pub returns-clause-only_schedule : goal.returns-clause-only_schedule
returns-clause-only_schedule c = λ schedule is. only_schedule c.args.fields.now (lines c.args.bytes.now) c.schedule_of.result schedule c.schedule_of.ensures.found c.schedule_of.ensures.bad is

pub returns-clause-only_bad : goal.returns-clause-only_bad
returns-clause-only_bad c = λ line rule first. only_bad c.args.fields.now (lines c.args.bytes.now) c.schedule_of.result line rule c.schedule_of.ensures.found c.schedule_of.ensures.bad first
