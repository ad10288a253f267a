-- What the tests of a method and of a class add up to.
use Rattle.std.proofs.Common.{◌≡◌, ◌↔◌, ℕ, List, ◌∷◌, ◌++◌, map, All, Bor, Bool, IsTrue}
use Rattle.early_forms.specs.declared.straight.StraightMethod.{StraightMethod}
use Rattle.early_forms.specs.declared.straight.StraightClass.{StraightClass}
use Rattle.early_forms.specs.Names.{AreFree, AreDistinct, BodyIsKnown, MethodIsProper, HasFormSize, IsProper, variables}
use Rattle.early_forms.proofs.Distinct.{texts}

pub method_proper :
    (fields : List (List ℕ)) (m : StraightMethod) (in_class own : List (Bor (List ℕ))) (free : Bool) →
    texts in_class ≡ fields ++ variables m → texts own ≡ m.name ∷ variables m →
    AreDistinct (texts in_class) → BodyIsKnown fields m.parameters m.statements m.ending → IsTrue free ↔ AreFree (texts own) →
    IsTrue free ↔ MethodIsProper fields m
method_proper fields m in_class own free scope names distinct known says =
    let apart : AreDistinct (fields ++ variables m) = rw scope at distinct in
    let both : IsTrue free ↔ AreFree (m.name ∷ variables m) = rw names at says in
    (λ yes. record { distinct = apart; known = known; free = both.0 yes }, λ proper. both.1 proper.free)

pub class_proper :
    (c : StraightClass) (free : Bool) → HasFormSize c → AreDistinct c.fields → AreDistinct (map (λ m. m.name) c.methods) →
    All (MethodIsProper c.fields) c.methods → IsTrue free ↔ AreFree (c.name ∷ c.fields) → IsTrue free ↔ IsProper c
class_proper c free size fields_differ methods_differ methods says = (
  λ yes. record { size = size; fields_differ = fields_differ; methods_differ = methods_differ; methods = methods; free = says.0 yes },
  λ proper. says.1 proper.free,
)
