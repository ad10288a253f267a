use Rattle.std.proofs.Common.{ℤ, rules, w64, ◌∙◌, ◌∷◌, ap}
use Rattle.std.specs.List.{zip}
use Rattle.std.proofs.lemmas.Int.{to_z-of_z}
use Rattle.sdg_base.specs.declared.val.Val.TheVariants as val
use Rattle.early_source.specs.Variables.{Variables}
use Rattle.early_plain.specs.Scopes.{with_locals}
use Rattle.early_plain.proofs.Lookups.{with_locals-push}
use Rattle.early_plain.proofs.scope.Scope.declare.Goals as goal

pub returns : goal.returns
returns c =
    let before : Variables = with_locals (zip c.self.inside.parameters.now c.self.inside.arguments.now) c.self.inside.locals.items in
    ap (with_locals (zip c.self.inside.parameters.now c.self.inside.arguments.now)) c.in_ok-push.ensures.items
    ∙ with_locals-push _ c.self.inside.locals.items _
    ∙ ap (λ (n : ℤ). (c.args.name.now, val.Long n) ∷ before) (to_z-of_z w64 c.args.value (search rules))
    ∙ ap (λ (vs : Variables). (c.args.name.now, val.Long c.args.value) ∷ vs) c.self.view_is
