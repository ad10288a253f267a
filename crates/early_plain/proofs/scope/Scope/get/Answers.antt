use Rattle.std.proofs.Common.{Some, rules, w64, sym, ◌∙◌, ap}
use Rattle.std.specs.List.{zip}
use Rattle.std.specs.Option.{option_copied}
use Rattle.std.proofs.lemmas.Int.{to_z-of_z}
use Rattle.std.proofs.lemmas.Option.{none-some}
use Rattle.sdg_base.specs.declared.val.Val.TheVariants as val
use Rattle.early_source.specs.Variables.{named}
use Rattle.early_plain.proofs.Lookups.{latest, latest-none, named-with_locals, named-there, scope_long, long_is_number, widened-long}
use Rattle.early_plain.proofs.scope.Scope.get.Goals as goal

pub loop-local-init : goal.loop-local-init
loop-local-init c =
    ap (named c.args.name.now) (sym c.self.view_is)
    ∙ named-with_locals c.args.name.now (zip c.self.inside.parameters.now c.self.inside.arguments.now) c.self.inside.locals.items
    ∙ ap (λ o. latest c.args.name.now o c.self.inside.locals.items) (sym c.argument_of-found.ensures)
    ∙ ap (latest c.args.name.now (option_copied c.argument_of-found.result)) (sym c.deref-local-items.ensures.value)

pub widen-requires : goal.widen-requires
widen-requires c =
    let at_end = c.loop-local.invariant ∙ latest-none _ (option_copied c.loop-local.found) _ _ c.loop-local-test.false ∙ ap option_copied c.in-Some.is in
    long_is_number c.in-Some.value.now (scope_long _ _ _ _ _ c.in-Some.value.now c.self.view_is c.self.invariant.1 c.self.invariant.2 at_end)

pub unreachable-requires : goal.unreachable-requires
unreachable-requires c =
    let at_end = c.loop-local.invariant ∙ latest-none _ (option_copied c.loop-local.found) _ _ c.loop-local-test.false ∙ ap option_copied c.in-None.is in
    let there = named-there c.args.name.now c.args.self.now c.requires in
    none-some there.0 (sym at_end ∙ there.1)

pub returns : goal.returns
returns c =
    let at_end = c.loop-local.invariant ∙ latest-none _ (option_copied c.loop-local.found) _ _ c.loop-local-test.false ∙ ap option_copied c.in-Some.is in
    let long = scope_long _ _ _ _ _ c.in-Some.value.now c.self.view_is c.self.invariant.1 c.self.invariant.2 at_end in
    at_end ∙ ap Some (sym (widened-long c.in-Some.value.now long) ∙ sym c.widen.ensures ∙ ap (λ n. val.Long n) (sym (to_z-of_z w64 c.widen.result (search rules))))
