use Rattle.std.proofs.Common.{◌≡◌, Some, None, List, get_or, sym, ap, ◌∙◌}
use Rattle.std.specs.List.{position}
use Rattle.channels.specs.declared.outbox.Outbox.{Outbox}
use Rattle.channels.specs.declared.sending.Sending.{Sending}
use Rattle.channels.specs.Outboxes.{is_to}
use Rattle.channels.specs.Sent.{trimmed}
use Rattle.channels.proofs.Sendings.{outbox_of-read, outbox_of-none}
use Rattle.channels.proofs.outboxes.Outboxes.trimmed.Goals as goal

pub returns-in-Some : goal.returns-in-Some
returns-in-Some c =
    let there : position (is_to c.args.to) c.args.self.now ≡ Some c.in-Some.place = cc in
    let read = c.index.ensures ∙ ap (λ (xs : List Sending). get_or xs c.in-Some.place c.index.result.now) c.self.view_is in
    let box = outbox_of-read c.args.self.now c.args.to c.in-Some.place c.index.result.now there read in
    c.trimmed.ensures ∙ ap (λ (box : Outbox). trimmed box) box

pub returns-in-None : goal.returns-in-None
returns-in-None c =
    let nowhere : position (is_to c.args.to) c.args.self.now ≡ None = cc in
    sym (ap (λ (box : Outbox). trimmed box) (outbox_of-none c.args.self.now c.args.to nowhere))
