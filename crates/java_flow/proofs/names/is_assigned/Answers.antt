use Rattle.std.proofs.Common.{not, sym, ap, ◌∙◌}
use Rattle.java_flow.specs.Assigned.{all_but}
use Rattle.java_flow.specs.Sets.{bit}
use Rattle.java_flow.proofs.Standing.{by_number, by_name}
use Rattle.java_flow.proofs.names.is_assigned.Goals as goal

pub returns-in-Some : goal.returns-in-Some
returns-in-Some c =
    ap not c.has.ensures ∙ ap (λ words. not (bit words c.in-Some.number)) c.deref.ensures.value
    ∙ by_number c.args.numbers.now c.args.set.now c.args.name.now c.in-Some.number (sym c.number.ensures ∙ c.in-Some.is)

pub returns-in-None : goal.returns-in-None
returns-in-None c =
    ap not c.is_in.ensures ∙ ap (λ names. all_but names c.args.name.now) c.deref-in-None.ensures.value
    ∙ by_name c.args.numbers.now c.args.set.now c.args.name.now (sym c.number.ensures ∙ c.in-None.is)
