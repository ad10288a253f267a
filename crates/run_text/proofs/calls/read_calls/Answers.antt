use Rattle.std.specs.Str.Lines.{lines}
use Rattle.run_text.proofs.Laws.{written, fits, broken, only_calls, only_bad}
use Rattle.run_text.proofs.calls.read_calls.Goals as goal

pub returns-clause-written : goal.returns-clause-written
returns-clause-written c = written c.args.entrances.now (lines c.args.bytes.now) c.calls_of.result c.calls_of.ensures.found

pub returns-clause-fits : goal.returns-clause-fits
returns-clause-fits c = fits c.args.entrances.now (lines c.args.bytes.now) c.calls_of.result c.calls_of.ensures.found

pub returns-clause-broken : goal.returns-clause-broken
returns-clause-broken c = λ place rule b. broken c.args.entrances.now (lines c.args.bytes.now) c.calls_of.result place rule c.calls_of.ensures.found b

pub returns-clause-only_calls : goal.returns-clause-only_calls
returns-clause-only_calls c = λ calls are. only_calls c.args.entrances.now (lines c.args.bytes.now) c.calls_of.result calls c.calls_of.ensures.found c.calls_of.ensures.bad are

pub returns-clause-only_bad : goal.returns-clause-only_bad
returns-clause-only_bad c = λ line rule first. only_bad c.args.entrances.now (lines c.args.bytes.now) c.calls_of.result line rule c.calls_of.ensures.found c.calls_of.ensures.bad first
