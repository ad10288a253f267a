use Rattle.std.specs.Str.Lines.{lines}
use Rattle.run_text.proofs.HistoryText.{begun_headed, begun_plain}
use Rattle.run_text.proofs.history.beginning.Goals as goal

pub returns-in-Some-opening_of-clause-begun : goal.returns-in-Some-opening_of-clause-begun
returns-in-Some-opening_of-clause-begun c = begun_headed (lines c.args.bytes.now) c.in-Some.passed c.in-Some.line.now (lines c.in-Some.more.now) c.in-Some-opening_of.header c.in-Some.ensures.found c.in-Some-opening_of.ensures

pub returns-in-None-clause-begun : goal.returns-in-None-clause-begun
returns-in-None-clause-begun c = begun_plain (lines c.args.bytes.now) c.in-Some.passed c.in-Some.line.now (lines c.in-Some.more.now) c.in-Some.ensures.found c.in-None.ensures
