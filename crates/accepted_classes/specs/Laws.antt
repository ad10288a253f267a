-- What an accepted class is beside the statements of its bodies.
use Rattle.std.specs.Prelude.{◌≡◌, ℕ, [], length, slice_get, Some}
use Rattle.java_tree.specs.declared.tree.Class.{Class}
use Rattle.java_tree.specs.declared.tree.Method.{Method}
use Rattle.java_types.specs.Check.{findings_of}
use Rattle.access_blocks.specs.declared.body.Body.{Body}
use Rattle.access_blocks.specs.Programs.{fields_in, methods_in}
use Rattle.body_code.specs.Checking.{AreNamed, CallsMethod, IsTyped}
use Rattle.accepted_classes.specs.Classes.{resolved_of, HasIdentifiers, IsSpelled, IsQuiet, HasParameters, AreTypedStatements}

-- The names of a class whose tokens a text spells are identifiers.
abbrev pub SpelledClassesHaveIdentifiers : Type 0
SpelledClassesHaveIdentifiers = (class : Class) → IsSpelled class → HasIdentifiers class

-- Where the rules on types find nothing, there are few fields and methods, and their names differ.
abbrev pub ClassesAreNamed : Type 0
ClassesAreNamed = (class : Class) → findings_of class ≡ [] → HasIdentifiers class → AreNamed class

-- A class is resolved to as many fields and methods as it has.
pub record ClassesAreResolvedWhole : Type 0 where
  pub fields : (class : Class) → length (fields_in class.members) ≡ length (resolved_of class).fields
  pub methods : (class : Class) → length (methods_in class.members) ≡ length (resolved_of class).methods

-- Where neither the rules on types nor those on annotations find anything, each body takes its method's parameters.
abbrev pub BodiesHaveParameters : Type 0
BodiesHaveParameters =
    (class : Class) → IsQuiet class → (n : ℕ) (m : Method) (b : Body) → slice_get (methods_in class.members) n ≡ Some m → slice_get (resolved_of class).methods n ≡ Some b
    → HasParameters m b

-- Where the rules on types find nothing, no method calls itself, not through others either.
abbrev pub NoMethodCallsItself : Type 0
NoMethodCallsItself = (class : Class) → findings_of class ≡ [] → (n : ℕ) → CallsMethod (resolved_of class).methods n n → ⊥

-- A class whose tokens a text spells, and in which no rule on types and none on annotations has a finding, is typed where the
-- statements of its bodies are.
abbrev pub ClassesOfTypedStatementsAreTyped : Type 0
ClassesOfTypedStatementsAreTyped = (class : Class) → IsSpelled class → IsQuiet class → AreTypedStatements class → IsTyped class (resolved_of class)
