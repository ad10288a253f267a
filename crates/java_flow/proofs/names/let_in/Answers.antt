use Rattle.std.proofs.Common.{rules, ap, not, ◌∙◌}
use Rattle.std.specs.Str.{bytes_eq}
use Rattle.std.proofs.lemmas.Fn.{filter_same}
use Rattle.java_flow.specs.Assigned.{all_but}
use Rattle.java_flow.proofs.NameSets.{assigned}
use Rattle.java_flow.proofs.names.let_in.Goals as goal

pub returns : goal.returns
returns c =
    ap all_but (filter_same _ (λ name. not (bytes_eq name c.args.name.now)) _ (λ x b f told. search rules) _ _ c.retain.ensures.filtered)
    ∙ assigned c.args.name.now c.args.names.now.items
