use Rattle.std.proofs.Common.{not, ◌||◌, refl, sym, ap, ◌∙◌, nat_eq}
use Rattle.java_flow.specs.Sets.{bit}
use Rattle.java_flow.proofs.Standing.{numbered, named, not_out}
use Rattle.java_flow.proofs.names.assign.Goals as goal

pub returns-in-Some : goal.returns-in-Some
returns-in-Some c =
    numbered ◌||◌ (λ b. refl) c.args.numbers.now c.args.name.now c.args.set.now (record { numbered = c.take.new.words; others = c.args.set.now.others }) c.in-Some.number (sym c.number.ensures ∙ c.in-Some.is)
    (λ k. ap not (c.take.ensures k) ∙ not_out (nat_eq k c.in-Some.number) (bit c.args.set.now.numbered.items k))
    refl

pub returns-in-None : goal.returns-in-None
returns-in-None c =
    named ◌||◌ (λ b. refl) c.args.numbers.now c.args.name.now c.args.set.now (record { numbered = c.args.set.now.numbered; others = c.let_in.new.names }) (sym c.number.ensures ∙ c.in-None.is) c.let_in.ensures refl
