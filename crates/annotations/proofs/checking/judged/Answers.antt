use Rattle.std.proofs.Common.{◌≡◌, map, None, Some, sym, ap, subst, ◌∙◌, List}
use Rattle.annotations.specs.declared.error.AnnotError.{AnnotError}
use Rattle.annotations.specs.declared.walk.Finding.{Finding}
use Rattle.annotations.specs.Check as spec
use Rattle.annotations.proofs.Earliest.{least}
use Rattle.annotations.proofs.Firsts.{none_left}
use Rattle.annotations.proofs.checking.judged.Goals as goal

pub returns-in-None-clause-sound : goal.returns-in-None-clause-sound
returns-in-None-clause-sound c =
    let none : spec.first_of (map (spec.refused_at c.args.class.now.places) c.in-Ok.found.findings) ≡ None = cc (c.in-None.ensures) in
    ap (λ (fs : List Finding). map (spec.refused_at c.args.class.now.places) fs) (sym c.in-Ok.ensures.findings)
    ∙ none_left (map (spec.refused_at c.args.class.now.places) c.in-Ok.found.findings) none

pub returns-in-Some-clause-refused : goal.returns-in-Some-clause-refused
returns-in-Some-clause-refused c =
    let first : spec.first_of (map (spec.refused_at c.args.class.now.places) c.in-Ok.found.findings) ≡ Some c.in-Some.refused = cc (c.in-Some.ensures) in
    let is : spec.first_of (spec.broken c.args.class.now c.args.names) ≡ Some c.in-Some.refused =
    ap (λ (fs : List Finding). spec.first_of (map (spec.refused_at c.args.class.now.places) fs)) (sym c.in-Ok.ensures.findings) ∙ first in
    let P : AnnotError → Type 0 = spec.Refuses (spec.broken c.args.class.now c.args.names) in
    subst P (sym c.refusal.ensures) (least (spec.broken c.args.class.now c.args.names) c.in-Some.refused is)
