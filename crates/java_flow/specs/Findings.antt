-- The findings of a class, and the least of them.
use Rattle.std.specs.Prelude.{◌≡◌, ℕ, Bool, true, false, not, ◌||◌, nat_lt, if◌then◌else◌, List, [], ◌∷◌, map, length, All, Contains, Option, Some, None}
use Rattle.java_tree.specs.declared.token.Place.{Place}
use Rattle.java_tree.specs.declared.tree.QualifiedName.{QualifiedName}
use Rattle.java_tree.specs.declared.tree.Import.{Import}
use Rattle.java_tree.specs.declared.tree.FieldModifier.{FieldModifier}
use Rattle.java_tree.specs.declared.tree.FieldModifier.TheVariants as modifier
use Rattle.java_tree.specs.declared.tree.Field.{Field}
use Rattle.java_tree.specs.declared.tree.Param.{Param}
use Rattle.java_tree.specs.declared.tree.ResultType.{ResultType}
use Rattle.java_tree.specs.declared.tree.ResultType.TheVariants as result_type
use Rattle.java_tree.specs.declared.tree.Method.{Method}
use Rattle.java_tree.specs.declared.tree.Member.{Member}
use Rattle.java_tree.specs.declared.tree.Member.TheVariants as member
use Rattle.java_tree.specs.declared.tree.Class.{Class}
use Rattle.java_flow.specs.declared.finding.Finding.{Finding}
use Rattle.java_flow.specs.declared.finding.Rule.{Rule}
use Rattle.java_flow.specs.declared.finding.Rule.TheVariants as rule
use Rattle.java_flow.specs.declared.error.FlowError.{FlowError}
use Rattle.java_flow.specs.declared.error.FlowError.TheVariants as error
use Rattle.java_flow.specs.Points.{Point, behind, behind_if, found_unless}
use Rattle.java_flow.specs.Expressions.{opening}
use Rattle.java_flow.specs.Statements.{fresh, item_of, block_walk}

-- ---- the text of a class around the bodies of its methods

abbrev pub behind_name : QualifiedName → Point → Point
behind_name q p = behind (length q.others) (behind (length q.others) (behind 1 p))

abbrev pub behind_package : Option QualifiedName → Point → Point
behind_package None p = p
behind_package (Some q) p = behind 1 (behind_name q (behind 1 p))

abbrev pub behind_import : Import → Point → Point
behind_import i p = behind 1 (behind_if i.is_on_demand 2 (behind_name i.name (behind_if i.is_static 1 (behind 1 p))))

abbrev pub behind_imports : List Import → Point → Point
behind_imports [] p = p
behind_imports (i ∷ is) p = behind_imports is (behind_import i p)

abbrev pub is_annotation : FieldModifier → Bool
is_annotation modifier.Partitioned = true
is_annotation modifier.Partial = true
is_annotation _ = false

abbrev pub behind_modifiers : List FieldModifier → Point → Point
behind_modifiers [] p = p
behind_modifiers (m ∷ ms) p = behind_modifiers ms (behind 1 (behind_if (is_annotation m) 1 p))

abbrev pub behind_field : Field → Point → Point
behind_field f p = behind 8 (behind_modifiers f.modifiers p)

-- One token stands before each.
abbrev pub behind_params : List Param → Point → Point
behind_params [] p = p
behind_params (x ∷ xs) p = behind_params xs (behind 3 (behind_if x.is_array 2 (behind_if x.is_collection 2 p)))

-- ---- its methods

abbrev pub is_void : ResultType → Bool
is_void result_type.Void = true
is_void (result_type.Type t) = false

-- A method's body is reachable, and its parameters are assigned (JLS 8.4.7, 16.3).
abbrev pub body_start : Point → Point
body_start p = record (fresh p.places) { findings = p.findings }

-- At the closing brace a body of a method with a result must not complete normally.
abbrev pub body_end : ResultType → Point → Point
body_end r p = behind 1 (found_unless (is_void r || not p.is_reachable) rule.MissingReturn p)

abbrev pub behind_header : Method → Point → Point
behind_header m p = behind 1 (behind_params m.params (opening m.params (behind 2 (behind (length m.modifiers) p))))

abbrev pub method_walk : Method → Point → Point
method_walk m p = body_end m.result (block_walk (map item_of m.body) (body_start (behind_header m p)))

abbrev pub member_walk : Member → Point → Point
member_walk (member.Field f) p = behind_field f p
member_walk (member.Method m) p = method_walk m p

abbrev pub members_walk : List Member → Point → Point
members_walk [] p = p
members_walk (m ∷ ms) p = members_walk ms (member_walk m p)

abbrev pub class_walk : Class → Point → Point
class_walk c p = members_walk c.members (behind 3 (behind (length c.modifiers) (behind_imports c.imports (behind_package c.package p))))

unfoldable pub findings : Class → List Finding
findings c = (class_walk c (fresh c.places)).findings

-- ---- the least: by its place, and at one place by its rule

abbrev pub number : Rule → ℕ
number rule.Unreachable = 1
number rule.MissingReturn = 2
number rule.Unassigned = 3

-- the first of two numbers that differ decides
abbrev pub is_less : ℕ → ℕ → Bool → Bool
is_less a b otherwise = if nat_lt a b then true else (if nat_lt b a then false else otherwise)

abbrev pub is_earlier : Finding → Finding → Bool
is_earlier f g = is_less f.place.line g.place.line (is_less f.place.column g.place.column (nat_lt (number f.rule) (number g.rule)))

abbrev pub earlier_of : Finding → Finding → Finding
earlier_of f g = if is_earlier f g then f else g

pub record IsLeast (all : List Finding) (f : Finding) : Type 0 where
  pub is_one : Contains all f
  pub is_first : All (λ g. is_earlier g f ≡ false) all

abbrev pub at : Rule → Place → Finding
at r place = record { rule = r; place = place }

-- why a class with these findings is refused
abbrev pub Refuses : List Finding → FlowError → Type 0
Refuses all (error.Unreachable place) = IsLeast all (at rule.Unreachable place)
Refuses all (error.MissingReturn place) = IsLeast all (at rule.MissingReturn place)
Refuses all (error.Unassigned place) = IsLeast all (at rule.Unassigned place)
Refuses all error.Memory = Unit {0}
