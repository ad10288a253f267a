use Rattle.std.proofs.Common.{◌≡◌, ℕ, ◌+◌, ◌++◌, ◌∷◌, [], Some, None, List, sym, ap, ◌∙◌, arith}
use Rattle.std.specs.List.{position}
use Rattle.sdg_base.specs.declared.item.Item.{Item}
use Rattle.channels.specs.declared.outbox.Outbox.{Outbox}
use Rattle.channels.specs.Outboxes.{is_to}
use Rattle.channels.proofs.Sendings.{replaces-set, replaces-push, replaces_at, on_err, outbox_of-read}
use Rattle.channels.proofs.outboxes.Outboxes.send.Goals as goal

pub send-requires : goal.send-requires
send-requires c =
    let there : position (is_to c.args.to) c.args.self.now ≡ Some c.in-Some.at = cc in
    let read = outbox_of-read c.args.self.now c.args.to c.in-Some.at c.index_mut-sending.result.now there cc in
    let last = ap (λ (o : Outbox). o.last) read in
    omega (arith, last, c.requires)

pub returns-in_err-seq-in-Some-clause-others : goal.returns-in_err-seq-in-Some-clause-others
returns-in_err-seq-in-Some-clause-others c =
    let there : position (is_to c.args.to) c.args.self.now ≡ Some c.in-Some.at = cc in
    let sends = replaces-set c.args.self.now c.self.inside.sendings.items c.args.to c.in-Some.at c.index_mut-sending.result.now c.send.new.self c.self.view_is there cc in
    sends.others

pub returns-in_err-seq-in-Some-clause-err : goal.returns-in_err-seq-in-Some-clause-err
returns-in_err-seq-in-Some-clause-err c =
    let there : position (is_to c.args.to) c.args.self.now ≡ Some c.in-Some.at = cc in
    let sends = replaces-set c.args.self.now c.self.inside.sendings.items c.args.to c.in-Some.at c.index_mut-sending.result.now c.send.new.self c.self.view_is there cc in
    let kept = c.in_err-seq-in-Some.ensures.err in
    on_err c.from_residual.result (record { last = cc; kept = cc })

pub returns-in_ok-seq-in-Some-clause-number : goal.returns-in_ok-seq-in-Some-clause-number
returns-in_ok-seq-in-Some-clause-number c =
    let there : position (is_to c.args.to) c.args.self.now ≡ Some c.in-Some.at = cc in
    let sends = replaces-set c.args.self.now c.self.inside.sendings.items c.args.to c.in-Some.at c.index_mut-sending.result.now c.send.new.self c.self.view_is there cc in
    c.in_ok-seq-in-Some.ensures.number ∙ ap (λ (o : Outbox). o.last) (sym sends.after_is)

pub returns-in_ok-seq-in-Some-clause-last : goal.returns-in_ok-seq-in-Some-clause-last
returns-in_ok-seq-in-Some-clause-last c =
    let there : position (is_to c.args.to) c.args.self.now ≡ Some c.in-Some.at = cc in
    let sends = replaces-set c.args.self.now c.self.inside.sendings.items c.args.to c.in-Some.at c.index_mut-sending.result.now c.send.new.self c.self.view_is there cc in
    ap (λ (o : Outbox). o.last) sends.after_is ∙ c.in_ok-seq-in-Some.ensures.last ∙ ap (λ (o : Outbox). o.last + 1) (sym sends.before_is)

pub returns-in_ok-seq-in-Some-clause-kept : goal.returns-in_ok-seq-in-Some-clause-kept
returns-in_ok-seq-in-Some-clause-kept c =
    let there : position (is_to c.args.to) c.args.self.now ≡ Some c.in-Some.at = cc in
    let sends = replaces-set c.args.self.now c.self.inside.sendings.items c.args.to c.in-Some.at c.index_mut-sending.result.now c.send.new.self c.self.view_is there cc in
    ap (λ (o : Outbox). o.kept) sends.after_is ∙ c.in_ok-seq-in-Some.ensures.kept ∙ ap (λ (o : Outbox). o.kept ++ c.args.item ∷ []) (sym sends.before_is)

pub returns-in_ok-seq-in-Some-clause-others : goal.returns-in_ok-seq-in-Some-clause-others
returns-in_ok-seq-in-Some-clause-others c =
    let there : position (is_to c.args.to) c.args.self.now ≡ Some c.in-Some.at = cc in
    let sends = replaces-set c.args.self.now c.self.inside.sendings.items c.args.to c.in-Some.at c.index_mut-sending.result.now c.send.new.self c.self.view_is there cc in
    sends.others

pub returns-in_ok-push-in-None-clause-number : goal.returns-in_ok-push-in-None-clause-number
returns-in_ok-push-in-None-clause-number c =
    let nowhere : position (is_to c.args.to) c.args.self.now ≡ None = cc in
    let items : c.push.new.self.items ≡ c.args.self.now ++ record { to = c.args.to; outbox = c.send-in-None.new.self } ∷ [] = cc (c.in_ok-push-in-None.ensures.items, c.self.view_is) in
    let sends = replaces_at c.args.self.now c.push.new.self.items c.args.to c.send-in-None.new.self items (replaces-push c.args.self.now c.args.to c.send-in-None.new.self nowhere) in
    c.in_ok-seq-in-None.ensures.number ∙ ap (λ (o : Outbox). o.last) (sym sends.after_is)

pub returns-in_ok-push-in-None-clause-last : goal.returns-in_ok-push-in-None-clause-last
returns-in_ok-push-in-None-clause-last c =
    let nowhere : position (is_to c.args.to) c.args.self.now ≡ None = cc in
    let items : c.push.new.self.items ≡ c.args.self.now ++ record { to = c.args.to; outbox = c.send-in-None.new.self } ∷ [] = cc (c.in_ok-push-in-None.ensures.items, c.self.view_is) in
    let sends = replaces_at c.args.self.now c.push.new.self.items c.args.to c.send-in-None.new.self items (replaces-push c.args.self.now c.args.to c.send-in-None.new.self nowhere) in
    ap (λ (o : Outbox). o.last) sends.after_is ∙ c.in_ok-seq-in-None.ensures.last ∙ ap (λ (n : ℕ). n + 1) (c.new-outbox.ensures.last ∙ ap (λ (o : Outbox). o.last) (sym sends.before_is))

pub returns-in_ok-push-in-None-clause-kept : goal.returns-in_ok-push-in-None-clause-kept
returns-in_ok-push-in-None-clause-kept c =
    let nowhere : position (is_to c.args.to) c.args.self.now ≡ None = cc in
    let items : c.push.new.self.items ≡ c.args.self.now ++ record { to = c.args.to; outbox = c.send-in-None.new.self } ∷ [] = cc (c.in_ok-push-in-None.ensures.items, c.self.view_is) in
    let sends = replaces_at c.args.self.now c.push.new.self.items c.args.to c.send-in-None.new.self items (replaces-push c.args.self.now c.args.to c.send-in-None.new.self nowhere) in
    ap (λ (o : Outbox). o.kept) sends.after_is ∙ c.in_ok-seq-in-None.ensures.kept ∙ ap (λ (items : List Item). items ++ c.args.item ∷ []) (c.new-outbox.ensures.kept ∙ ap (λ (o : Outbox). o.kept) (sym sends.before_is))

pub returns-in_ok-push-in-None-clause-others : goal.returns-in_ok-push-in-None-clause-others
returns-in_ok-push-in-None-clause-others c =
    let nowhere : position (is_to c.args.to) c.args.self.now ≡ None = cc in
    let items : c.push.new.self.items ≡ c.args.self.now ++ record { to = c.args.to; outbox = c.send-in-None.new.self } ∷ [] = cc (c.in_ok-push-in-None.ensures.items, c.self.view_is) in
    let sends = replaces_at c.args.self.now c.push.new.self.items c.args.to c.send-in-None.new.self items (replaces-push c.args.self.now c.args.to c.send-in-None.new.self nowhere) in
    sends.others
