use Rattle.std.proofs.Common.{Bool, not, ◌&&◌, refl, sym, ap, ◌∙◌, nat_eq}
use Rattle.java_flow.specs.Sets.{bit}
use Rattle.std.proofs.lemmas.Result.{on_ok_weaker}
use Rattle.java_flow.proofs.Standing.{numbered, named, neither}
use Rattle.java_flow.proofs.names.declare.Goals as goal

abbrev left_out : Bool → Bool → Bool
left_out here before = not here && before

pub returns-in-Some : goal.returns-in-Some
returns-in-Some c =
    on_ok_weaker c.put.result
    (λ put.
    numbered left_out (λ b. refl) c.args.numbers.now c.args.name.now c.args.set.now (record { numbered = c.put.new.words; others = c.args.set.now.others }) c.in-Some.number (sym c.number.ensures ∙ c.in-Some.is)
    (λ k. ap not (put k) ∙ neither (nat_eq k c.in-Some.number) (bit c.args.set.now.numbered.items k))
    refl)
    c.put.ensures

pub returns-in-None : goal.returns-in-None
returns-in-None c =
    on_ok_weaker c.leave_out.result
    (λ left.
    named left_out (λ b. refl) c.args.numbers.now c.args.name.now c.args.set.now (record { numbered = c.args.set.now.numbered; others = c.leave_out.new.names }) (sym c.number.ensures ∙ c.in-None.is) left
    refl)
    c.leave_out.ensures
