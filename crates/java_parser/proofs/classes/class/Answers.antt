use Rattle.std.proofs.Common.{◌≡◌, ◌<◌, List, [], ◌∷◌, length, Ok, Err, if◌then◌else◌, ap, arith}
use Rattle.std.proofs.lemmas.List.{length-map}
use Rattle.java_tree.specs.declared.token.Token.{Token}
use Rattle.java_tree.specs.declared.tree.Class.{Class}
use Rattle.java_parser.specs.Words.{kinds, refused}
use Rattle.java_parser.specs.Words.Fault.{NoClass}
use Rattle.java_parser.specs.Classes.{is_empty, class_at}
use Rattle.java_parser.proofs.Laws.{then_is}
use Rattle.java_parser.proofs.classes.class.Goals as goal

-- tokens are left behind the class
some_left : (made : Class) (rest : List Token) → 0 < length rest → (if is_empty (kinds rest) then Ok made else refused (kinds rest)) ≡ Err (NoClass (length rest))
some_left made [] more = absurd (omega (arith, more))
some_left made (t ∷ rest) more = ap (λ left. Err (NoClass left)) (length-map (t ∷ rest) (λ t. t.kind))

pub returns-in_default : goal.returns-in_default
unfolding class_at
returns-in_default c =
    then_is _ _ (c.in_ok-package.package, kinds c.in_ok-package.rest.now) _ c.in_ok-package.ensures
    (then_is _ _ (c.in_ok-imports.imports, kinds c.in_ok-imports.rest.now) _ c.in_ok-imports.ensures
    (then_is _ _ (c.in_ok-modifiers.modifiers, kinds c.in_ok-modifiers.rest.now) _ c.in_ok-modifiers.ensures
    (then_is _ _ (kinds c.in_ok-rest.rest.now) _ c.in_ok-rest.ensures
    (then_is _ _ (c.in_ok-name.name, kinds c.in_ok-name.rest.now) _ c.in_ok-name.ensures
    (then_is _ _ (kinds c.in_ok-rest-2.rest.now) _ c.in_ok-rest-2.ensures
    (then_is _ _ (c.in_ok-members.members, kinds c.in_ok-members.rest.now) _ c.in_ok-members.ensures
    (then_is _ _ (kinds c.in_ok-rest-3.rest.now) _ c.in_ok-rest-3.ensures
    (some_left _ c.in_ok-rest-3.rest.now c.in_default.len_at_least))))))))
