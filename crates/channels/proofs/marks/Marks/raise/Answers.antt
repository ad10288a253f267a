use Rattle.std.proofs.Common.{◌≡◌, ◌+◌, Some, None}
use Rattle.std.specs.List.{position}
use Rattle.channels.specs.Marks.{is_from}
use Rattle.channels.proofs.Marked.{mark_of-set, mark_of-set_other, mark_of-push, mark_of-push_other}
use Rattle.channels.proofs.marks.Marks.raise.Goals as goal

pub returns-in-Some-clause-ok : goal.returns-in-Some-clause-ok
returns-in-Some-clause-ok c =
    let there : position (is_from c.args.from) c.args.self.now ≡ Some c.in-Some.at = cc in
    let written = mark_of-set c.args.self.now c.args.from c.in-Some.at (c.get.result + 1) there in
    cc

pub returns-in-Some-clause-others : goal.returns-in-Some-clause-others
returns-in-Some-clause-others c other differs =
    let there : position (is_from c.args.from) c.args.self.now ≡ Some c.in-Some.at = cc in
    let written = mark_of-set_other c.args.self.now c.args.from other c.in-Some.at (c.get.result + 1) there differs in
    cc

pub returns-in_ok-push-in-None-clause-ok : goal.returns-in_ok-push-in-None-clause-ok
returns-in_ok-push-in-None-clause-ok c =
    let nowhere : position (is_from c.args.from) c.args.self.now ≡ None = cc in
    let pushed = mark_of-push c.args.self.now c.args.from (c.get.result + 1) nowhere in
    cc (c.in_ok-push-in-None.ensures.ok)

pub returns-in_ok-push-in-None-clause-others : goal.returns-in_ok-push-in-None-clause-others
returns-in_ok-push-in-None-clause-others c other differs =
    let pushed = mark_of-push_other c.args.self.now c.args.from other (c.get.result + 1) differs in
    cc (c.in_ok-push-in-None.ensures.ok)
