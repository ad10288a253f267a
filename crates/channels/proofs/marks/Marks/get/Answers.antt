use Rattle.std.proofs.Common.{◌≡◌, Some, None}
use Rattle.std.specs.List.{position}
use Rattle.sdg_base.specs.declared.port.Port.TheVariants as port
use Rattle.channels.specs.Marks.{is_from}
use Rattle.channels.proofs.Marked.{mark_of-at, mark_of-none}
use Rattle.channels.proofs.marks.Marks.get.Goals as goal

pub returns-in-Some : goal.returns-in-Some
returns-in-Some c =
    let there : position (is_from c.args.from) c.args.self.now ≡ Some c.in-Some.at = cc in
    let taken = mark_of-at c.args.self.now c.args.from c.in-Some.at (record { from = port.Caller; taken = 0 }) there in
    cc

pub returns-in-None : goal.returns-in-None
returns-in-None c =
    let nowhere : position (is_from c.args.from) c.args.self.now ≡ None = cc in
    let taken = mark_of-none c.args.self.now c.args.from nowhere in
    cc
