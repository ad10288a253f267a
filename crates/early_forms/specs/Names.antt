-- What the names and literals of a class of the straight form have to keep.
use Rattle.std.specs.Prelude.{◌≢◌, ℕ, ◌<◌, ◌≤◌, ◌^◌, List, [], ◌∷◌, ◌++◌, length, map, codes, All, AllPairs, Contains}
use Rattle.early_forms.specs.declared.straight.Atom.{Atom}
use Rattle.early_forms.specs.declared.straight.Atom.TheVariants.{Literal, Variable}
use Rattle.early_forms.specs.declared.straight.Sum.{Sum}
use Rattle.early_forms.specs.declared.straight.Statement.{Statement}
use Rattle.early_forms.specs.declared.straight.Statement.TheVariants.{Get, Set, Put}
use Rattle.early_forms.specs.declared.straight.Ending.{Ending}
use Rattle.early_forms.specs.declared.straight.Ending.TheVariants as ending
use Rattle.early_forms.specs.declared.straight.StraightMethod.{StraightMethod}
use Rattle.early_forms.specs.declared.straight.StraightClass.{StraightClass}

-- the classes that hold state, and the vector: no declaration has their names
abbrev pub class_names : List (List ℕ)
class_names = codes "Table" ∷ codes "Matrix" ∷ codes "Counter" ∷ codes "Vector" ∷ []

abbrev pub AreFree : List (List ℕ) → Type 0
AreFree names = All (λ name. Contains class_names name → ⊥) names

abbrev pub AreDistinct : List (List ℕ) → Type 0
AreDistinct names = AllPairs (λ a b. a ≢ b) names

-- a literal of type int (JLS 3.10.1), or one of the variables in scope
abbrev pub AtomIsKnown : List (List ℕ) → Atom → Type 0
AtomIsKnown scope (Literal n) = n < 2 ^ 31
AtomIsKnown scope (Variable name) = Contains scope name

abbrev pub SumIsKnown : List (List ℕ) → Sum → Type 0
SumIsKnown scope s = All (AtomIsKnown scope) (s.first ∷ s.others)

abbrev pub StatementIsKnown : List (List ℕ) → List (List ℕ) → Statement → Type 0
StatementIsKnown fields scope (Get local field key) = Contains fields field × SumIsKnown scope key
StatementIsKnown fields scope (Set local value) = SumIsKnown scope value
StatementIsKnown fields scope (Put field key value) = Contains fields field × SumIsKnown scope key × SumIsKnown scope value

abbrev pub EndingIsKnown : List (List ℕ) → List (List ℕ) → Ending → Type 0
EndingIsKnown fields scope ending.Nothing = Unit {0}
EndingIsKnown fields scope (ending.Get field key) = Contains fields field × SumIsKnown scope key
EndingIsKnown fields scope (ending.Sum value) = SumIsKnown scope value

abbrev pub declared_names : Statement → List (List ℕ)
declared_names (Get local field key) = local ∷ []
declared_names (Set local value) = local ∷ []
declared_names (Put field key value) = []

-- a local is in scope from the statement after its declaration on (JLS 6.3); in its own initialiser it is not assigned (JLS 16)
abbrev pub BodyIsKnown : List (List ℕ) → List (List ℕ) → List Statement → Ending → Type 0
BodyIsKnown fields scope [] end = EndingIsKnown fields scope end
BodyIsKnown fields scope (s ∷ ss) end = StatementIsKnown fields scope s × BodyIsKnown fields (scope ++ declared_names s) ss end

abbrev pub locals : List Statement → List (List ℕ)
locals [] = []
locals (s ∷ ss) = declared_names s ++ locals ss

-- the names of a method beside its own
abbrev pub variables : StraightMethod → List (List ℕ)
variables m = m.parameters ++ locals m.statements

pub record MethodIsProper (fields : List (List ℕ)) (m : StraightMethod) : Type 0 where
  pub distinct : AreDistinct (fields ++ variables m)
  pub known : BodyIsKnown fields m.parameters m.statements m.ending
  pub free : AreFree (m.name ∷ variables m)

-- one or two fields, and as many methods as a number of 16 bits can name
pub record HasFormSize (c : StraightClass) : Type 0 where
  pub some_field : 0 < length c.fields
  pub few_fields : length c.fields ≤ 2
  pub few_methods : length c.methods ≤ 2 ^ 16

pub record IsProper (c : StraightClass) : Type 0 where
  pub size : HasFormSize c
  pub fields_differ : AreDistinct c.fields
  pub methods_differ : AreDistinct (map (λ m. m.name) c.methods)
  pub methods : All (MethodIsProper c.fields) c.methods
  pub free : AreFree (c.name ∷ c.fields)
