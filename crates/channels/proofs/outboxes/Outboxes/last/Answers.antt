use Rattle.std.proofs.Common.{◌≡◌, Some, None, sym, ap}
use Rattle.channels.specs.declared.outbox.Outbox.{Outbox}
use Rattle.std.specs.List.{position}
use Rattle.channels.specs.Outboxes.{is_to}
use Rattle.channels.proofs.Sendings.{outbox_of-read, outbox_of-none}
use Rattle.channels.proofs.outboxes.Outboxes.last.Goals as goal

pub returns-in-Some : goal.returns-in-Some
returns-in-Some c =
    let there : position (is_to c.args.to) c.args.self.now ≡ Some c.in-Some.at = cc in
    let read = outbox_of-read c.args.self.now c.args.to c.in-Some.at c.index.result.now there cc in
    cc

pub returns-in-None : goal.returns-in-None
returns-in-None c =
    let nowhere : position (is_to c.args.to) c.args.self.now ≡ None = cc in
    sym (ap (λ (o : Outbox). o.last) (outbox_of-none c.args.self.now c.args.to nowhere))
