-- Outside of bodies the walk of the rules on types notes no type and no name.
use Rattle.std.proofs.Common.{◌≡◌, ℕ, Bool, true, false, List, [], ◌∷◌, length, fold, Option, Some, None, refl, ◌∙◌}
use Rattle.java_tree.specs.declared.tree.Class.{Class}
use Rattle.java_tree.specs.declared.tree.Field.{Field}
use Rattle.java_tree.specs.declared.tree.FieldModifier.{FieldModifier}
use Rattle.java_tree.specs.declared.tree.FieldModifier.TheVariants as field_modifier
use Rattle.java_tree.specs.declared.tree.Import.{Import}
use Rattle.java_tree.specs.declared.tree.Method.{Method}
use Rattle.java_tree.specs.declared.tree.QualifiedName.{QualifiedName}
use Rattle.java_tree.specs.declared.tree.ResultType.{ResultType}
use Rattle.java_tree.specs.declared.tree.ResultType.TheVariants as result_types
use Rattle.java_tree.specs.declared.tree.TypeName.{TypeName}
use Rattle.java_tree.specs.Words.{is_reserved}
use Rattle.java_types.specs.declared.walk.Env.{Env}
use Rattle.java_types.specs.declared.walk.Walk.{Walk}
use Rattle.java_types.specs.Members.{named_member, past_field_modifier, field_walk, result_walk, past_qualified, past_package, past_import, head_walk}
use Rattle.java_types.specs.Simples.{typed_name}
use Rattle.java_types.specs.Walks.{past, past_if, noted}

pub record Keeps (w v : Walk) : Type 0 where
  pub types : v.types ≡ w.types
  pub names : v.names ≡ w.names

same : (w : Walk) → Keeps w w
same w = record { types = refl; names = refl }

pub both : {w u v : Walk} → Keeps w u → Keeps u v → Keeps w v
both s t = record { types = t.types ∙ s.types; names = t.names ∙ s.names }

past_keeps : (env : Env) (n : ℕ) (w : Walk) → Keeps w (past env n w)
unfolding past
past_keeps env n w = record { types = refl; names = refl }

past_if_keeps : (env : Env) (test : Bool) (n : ℕ) (w : Walk) → Keeps w (past_if env test n w)
past_if_keeps env true n w = past_keeps env n w
past_if_keeps env false n w = same w

noted_keeps : (broken : Bool) (token rule : ℕ) (w : Walk) → Keeps w (noted broken token rule w)
unfolding noted
noted_keeps true token rule w = record { types = refl; names = refl }
noted_keeps false token rule w = same w

fold_keeps : {A : Type 0} (step : Walk → A → Walk) → ((w : Walk) (x : A) → Keeps w (step w x)) → (xs : List A) (w : Walk) → Keeps w (fold step w xs)
fold_keeps step each [] w = same w
fold_keeps step each (x ∷ xs) w = both (each w x) (fold_keeps step each xs (step w x))

-- ---- members

pub named_keeps : (name : List ℕ) (most at : ℕ) (seen : List (List ℕ × Unit {0})) (w : Walk) → Keeps w (named_member name most at seen w).walk
unfolding named_member
named_keeps name most at seen w = both (noted_keeps _ at 2 w) (noted_keeps _ at 14 _)

modifier_keeps : (env : Env) (w : Walk) (m : FieldModifier) → Keeps w (past_field_modifier env w m)
modifier_keeps env w field_modifier.Partitioned = past_keeps env 2 w
modifier_keeps env w field_modifier.Partial = past_keeps env 2 w
modifier_keeps env w field_modifier.Public = past_keeps env 1 w
modifier_keeps env w field_modifier.Private = past_keeps env 1 w

pub field_keeps : (env : Env) (f : Field) (at : ℕ) (w : Walk) → Keeps w (field_walk env f at w)
unfolding field_walk
field_keeps env f at w =
    both (noted_keeps _ at 4 w)
    (both (fold_keeps (past_field_modifier env) (modifier_keeps env) f.modifiers _)
    (both (noted_keeps _ _ 3 _) (both (past_keeps env 4 _) (both (noted_keeps _ _ 3 _) (past_keeps env 4 _)))))

typed_name_keeps : (env : Env) (at : ℕ) (name : TypeName) (w : Walk) → Keeps w (typed_name env at name w).walk
unfolding typed_name
typed_name_keeps env at name w = both (noted_keeps _ w.at 3 w) (both (noted_keeps _ at 5 _) (past_keeps env 1 _))

result_keeps : (env : Env) (r : ResultType) (w : Walk) → Keeps w (result_walk env r w)
result_keeps env result_types.Void w = past_keeps env 1 w
result_keeps env (result_types.Type name) w = typed_name_keeps env w.at name w

-- behind the modifiers, the result and the name of a method
abbrev pub at_params : Env → Method → Walk → Walk
at_params env m w = past env 1 (result_walk env m.result (past env (length m.modifiers) w))

pub at_params_keeps : (env : Env) (m : Method) (w : Walk) → Keeps w (at_params env m w)
at_params_keeps env m w = both (past_keeps env (length m.modifiers) w) (both (result_keeps env m.result _) (past_keeps env 1 _))

-- ---- up to the first member

qualified_keeps : (env : Env) (q : QualifiedName) (w : Walk) → Keeps w (past_qualified env q w)
unfolding past_qualified
qualified_keeps env q w = both (past_keeps env 1 w) (both (past_keeps env (length q.others) _) (past_keeps env (length q.others) _))

package_keeps : (env : Env) (q : Option QualifiedName) (w : Walk) → Keeps w (past_package env q w)
package_keeps env None w = same w
package_keeps env (Some q) w = both (past_keeps env 2 w) (qualified_keeps env q _)

import_keeps : (env : Env) (w : Walk) (i : Import) → Keeps w (past_import env w i)
unfolding past_import
import_keeps env w i = both (past_keeps env 2 w) (both (past_if_keeps env i.is_static 1 _) (both (qualified_keeps env i.name _) (past_if_keeps env i.is_on_demand 2 _)))

pub head_keeps : (env : Env) (c : Class) (w : Walk) → Keeps w (head_walk env c w)
unfolding head_walk
head_keeps env c w =
    both (noted_keeps (is_reserved c.name) 0 2 w)
    (both (package_keeps env c.package _) (both (fold_keeps (past_import env) (import_keeps env) c.imports _) (both (past_keeps env (length c.modifiers) _) (past_keeps env 3 _))))
