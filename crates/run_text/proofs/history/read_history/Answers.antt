use Rattle.std.proofs.Common.{arith}
use Rattle.std.specs.Str.Lines.{lines}
use Rattle.run_text.proofs.HistoryLaws.{range, fits, numbered, broken, before, only_history, only_bad}
use Rattle.run_text.proofs.history.read_history.Goals as goal

pub returns-clause-range : goal.returns-clause-range
returns-clause-range c = range c.args.fields.now c.args.calls (lines c.args.bytes.now) c.history_of.result c.history_of.ensures.found

pub returns-clause-fits : goal.returns-clause-fits
returns-clause-fits c = fits c.args.fields.now c.args.calls (lines c.args.bytes.now) c.history_of.result c.history_of.ensures.found

pub returns-clause-numbered : goal.returns-clause-numbered
returns-clause-numbered c = numbered c.args.fields.now c.args.calls (lines c.args.bytes.now) c.history_of.result c.history_of.ensures.found

pub returns-clause-broken : goal.returns-clause-broken
returns-clause-broken c = λ place rule b. broken c.args.fields.now c.args.calls (lines c.args.bytes.now) c.history_of.result place rule (omega (arith, c.ranges.calls.fits)) c.history_of.ensures.found b

pub returns-clause-only_history : goal.returns-clause-only_history
returns-clause-only_history c = λ history is. only_history c.args.fields.now c.args.calls (lines c.args.bytes.now) c.history_of.result history (omega (arith, c.ranges.calls.fits)) c.history_of.ensures.found c.history_of.ensures.bad is

pub returns-clause-only_bad : goal.returns-clause-only_bad
returns-clause-only_bad c = λ line rule first. only_bad c.args.fields.now c.args.calls (lines c.args.bytes.now) c.history_of.result line rule (omega (arith, c.ranges.calls.fits)) c.history_of.ensures.found c.history_of.ensures.bad first

pub returns-clause-before : goal.returns-clause-before
returns-clause-before c = before c.args.fields.now c.args.calls (lines c.args.bytes.now) c.history_of.result c.history_of.ensures.bad
