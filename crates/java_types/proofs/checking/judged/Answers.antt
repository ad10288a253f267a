use Rattle.std.proofs.Common.{◌≡◌, map, None, Some, sym, ap, subst, ◌∙◌}
use Rattle.java_types.specs.declared.error.TypeError.{TypeError}
use Rattle.java_types.specs.declared.walk.Walk.{Walk}
use Rattle.java_types.specs.Check as spec
use Rattle.java_types.proofs.Earliest.{least}
use Rattle.java_types.proofs.Firsts.{none_left, types_in}
use Rattle.java_types.proofs.checking.judged.Goals as goal

pub returns-in-None-clause-found : goal.returns-in-None-clause-found
returns-in-None-clause-found c =
    let none : spec.first_of (map (spec.refused_at c.args.class.now.places) c.in-Ok.walk.findings) ≡ None = cc (c.in-None.ensures) in (
      ap types_in c.in-Ok.ensures,
      ap (λ (w : Walk). map (spec.refused_at c.args.class.now.places) w.findings) (sym c.in-Ok.ensures) ∙ none_left (map (spec.refused_at c.args.class.now.places) c.in-Ok.walk.findings) none,
    )

pub returns-in-Some-clause-refused : goal.returns-in-Some-clause-refused
returns-in-Some-clause-refused c =
    let first : spec.first_of (map (spec.refused_at c.args.class.now.places) c.in-Ok.walk.findings) ≡ Some c.in-Some.refused = cc (c.in-Some.ensures) in
    let is : spec.first_of (spec.findings_of c.args.class.now) ≡ Some c.in-Some.refused =
    ap (λ (w : Walk). spec.first_of (map (spec.refused_at c.args.class.now.places) w.findings)) (sym c.in-Ok.ensures) ∙ first in
    let P : TypeError → Type 0 = spec.IsRefusal c.args.class.now in
    subst P (sym c.refusal.ensures) (least (spec.findings_of c.args.class.now) c.in-Some.refused is)
