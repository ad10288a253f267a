use Rattle.std.proofs.Common.{◌≡◌, ◌-◌, Some, None, drop, sym, ap, ◌∙◌}
use Rattle.std.specs.List.{position}
use Rattle.channels.specs.declared.outbox.Outbox.{Outbox}
use Rattle.channels.specs.Sent.{trimmed}
use Rattle.channels.specs.Outboxes.{is_to}
use Rattle.channels.proofs.Sendings.{replaces-set, trim-none}
use Rattle.channels.proofs.outboxes.Outboxes.trim.Goals as goal

pub returns-in-Some-clause-last : goal.returns-in-Some-clause-last
returns-in-Some-clause-last c =
    let there : position (is_to c.args.to) c.args.self.now ≡ Some c.in-Some.at = cc in
    let trims = replaces-set c.args.self.now c.self.inside.sendings.items c.args.to c.in-Some.at c.index_mut-sending.result.now c.trim.new.self c.self.view_is there cc in
    cc

pub returns-in-Some-clause-kept : goal.returns-in-Some-clause-kept
returns-in-Some-clause-kept c =
    let there : position (is_to c.args.to) c.args.self.now ≡ Some c.in-Some.at = cc in
    let trims = replaces-set c.args.self.now c.self.inside.sendings.items c.args.to c.in-Some.at c.index_mut-sending.result.now c.trim.new.self c.self.view_is there cc in
    ap (λ (o : Outbox). o.kept) trims.after_is ∙ c.trim.ensures.kept ∙ ap (λ (o : Outbox). drop (c.args.upto - trimmed o) o.kept) (sym trims.before_is)

pub returns-in-Some-clause-others : goal.returns-in-Some-clause-others
returns-in-Some-clause-others c =
    let there : position (is_to c.args.to) c.args.self.now ≡ Some c.in-Some.at = cc in
    let trims = replaces-set c.args.self.now c.self.inside.sendings.items c.args.to c.in-Some.at c.index_mut-sending.result.now c.trim.new.self c.self.view_is there cc in
    trims.others

pub returns-in-None-clause-kept : goal.returns-in-None-clause-kept
returns-in-None-clause-kept c =
    let nowhere : position (is_to c.args.to) c.args.self.now ≡ None = cc in
    trim-none c.args.self.now c.args.to c.args.upto nowhere
