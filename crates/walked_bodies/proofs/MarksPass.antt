-- Outside of bodies the walk of the rules on annotations passes no name and no access, and takes no finding away.
use Rattle.std.proofs.Common.{◌≡◌, ℕ, Bool, true, false, not, ◌&&◌, List, [], ◌∷◌, length, map, fold, Option, Some, None, refl, sym, ap, subst, ◌∙◌}
use Rattle.java_tree.specs.declared.tree.Class.{Class}
use Rattle.java_tree.specs.declared.tree.Field.{Field}
use Rattle.java_tree.specs.declared.tree.FieldModifier.{FieldModifier}
use Rattle.java_tree.specs.declared.tree.Import.{Import}
use Rattle.java_tree.specs.declared.tree.Member.{Member}
use Rattle.java_tree.specs.declared.tree.Member.TheVariants as member
use Rattle.java_tree.specs.declared.tree.Method.{Method}
use Rattle.java_tree.specs.declared.tree.Param.{Param}
use Rattle.java_tree.specs.declared.tree.QualifiedName.{QualifiedName}
use Rattle.java_tree.specs.declared.types.Declaration.{Declaration}
use Rattle.java_tree.specs.Kinds.{kind_of}
use Rattle.annotations.specs.declared.site.FieldKind.{FieldKind}
use Rattle.annotations.specs.declared.site.FieldKind.TheVariants.{Partitioned, Partial}
use Rattle.annotations.specs.declared.walk.Env.{Env}
use Rattle.annotations.specs.declared.walk.Walk.{Walk}
use Rattle.annotations.specs.Kinds.{kind_of_field}
use Rattle.annotations.specs.Members.{is_annotation, past_modifier, met, field_walk, param_walk, params_walk, is_entry, entered, is_ill_collected, method_walk, member_walk, past_qualified, past_package, past_import, past_head}
use Rattle.annotations.specs.Statements.{in_block, item_walk}
use Rattle.annotations.specs.Walks.{past, past_if, noted, unmerged}
use Rattle.accepted_classes.specs.Beginning.{at_marked_body}
use Rattle.accepted_classes.proofs.RuledExpressions.{Back, after, past_back, past_if_back, past_none_back, noted_back, fold_back}
use Rattle.accepted_classes.proofs.RuledStatements.{block_back, item_back}
use Rattle.annotations.specs.Environment.{env_of}
use Rattle.typed_statements.proofs.Steps.{past_unmoved, unmerged_merges_none}

pub record Keeps (u x : Walk) : Type 0 where
  pub back : x.findings ≡ [] → u.findings ≡ []
  pub used : x.used ≡ u.used
  pub awaited : x.awaited ≡ u.awaited
  pub sites : x.sites ≡ u.sites

same : (u : Walk) → Keeps u u
same u = record { back = λ q. q; used = refl; awaited = refl; sites = refl }

pub both : {u v x : Walk} → Keeps u v → Keeps v x → Keeps u x
both s t = record { back = λ q. s.back (t.back q); used = t.used ∙ s.used; awaited = t.awaited ∙ s.awaited; sites = t.sites ∙ s.sites }

past_keeps : (env : Env) (n : ℕ) (u : Walk) → Keeps u (past env n u)
unfolding past
past_keeps env n u = record { back = λ q. q; used = refl; awaited = refl; sites = refl }

past_if_keeps : (env : Env) (test : Bool) (n : ℕ) (u : Walk) → Keeps u (past_if env test n u)
past_if_keeps env true n u = past_keeps env n u
past_if_keeps env false n u = same u

noted_keeps : (broken : Bool) (token rule : ℕ) (u : Walk) → Keeps u (noted broken token rule u)
unfolding noted
noted_keeps true token rule u = record { back = (noted_back true token rule u).back; used = refl; awaited = refl; sites = refl }
noted_keeps false token rule u = same u

fold_keeps : {A : Type 0} (step : Walk → A → Walk) → ((u : Walk) (a : A) → Keeps u (step u a)) → (xs : List A) (u : Walk) → Keeps u (fold step u xs)
fold_keeps step each [] u = same u
fold_keeps step each (a ∷ xs) u = both (each u a) (fold_keeps step each xs (step u a))

-- ---- fields

modifier_keeps : (env : Env) (u : Walk) (m : FieldModifier) → Keeps u (past_modifier env u m)
modifier_keeps env u m = both (past_if_keeps env (is_annotation m) 1 u) (past_keeps env 1 _)

met_keeps : (kind : FieldKind) (u : Walk) → Keeps u (met kind u)
met_keeps Partitioned u = same u
met_keeps Partial u = record { back = λ q. q; used = refl; awaited = refl; sites = refl }

pub field_keeps : (env : Env) (f : Field) (u : Walk) → Keeps u (field_walk env f u)
unfolding field_walk
field_keeps env f u =
    both (met_keeps (kind_of_field f) u)
    (both (noted_keeps _ u.at 1 _) (both (noted_keeps _ u.at 2 _) (both (fold_keeps (past_modifier env) (modifier_keeps env) f.modifiers _) (past_keeps env 8 _))))

-- ---- methods

-- behind the modifiers, the result and the name of a method
abbrev pub at_params : Env → Method → Walk → Walk
at_params env m u = past env 2 (past env (length m.modifiers) (noted (is_ill_collected m.params) u.at 11 u))

pub at_params_keeps : (env : Env) (m : Method) (u : Walk) → Keeps u (at_params env m u)
at_params_keeps env m u = both (noted_keeps (is_ill_collected m.params) u.at 11 u) (both (past_keeps env (length m.modifiers) _) (past_keeps env 2 _))

past_entered : (env : Env) (n : ℕ) (entry : Bool) (u : Walk) → past env n (entered entry u) ≡ entered entry (past env n u)
unfolding past entered
past_entered env n entry u = refl

pub method_is : (class : Class) (names : List Declaration) (m : Method) (u : Walk)
    → method_walk (env_of class names) m u ≡ in_block (env_of class names) (map (item_walk (env_of class names)) m.body) (at_marked_body class names m (at_params (env_of class names) m u))
unfolding method_walk
method_is class names m u =
    let env = env_of class names in
    let body : Walk → Walk = λ v. in_block env (map (item_walk env) m.body) (params_walk env m.params v) in
    let e = is_entry (kind_of m) in
    let v = noted (is_ill_collected m.params) u.at 11 u in
    ap (λ x. body (past env 2 x)) (past_entered env (length m.modifiers) e v) ∙ ap body (past_entered env 2 e (past env (length m.modifiers) v))

block_awaits_none : (env : Env) (items : List (Walk → Walk)) (w : Walk) → (in_block env items w).findings ≡ [] → (in_block env items w).awaited ≡ None
block_awaits_none env items w q =
    let y = fold (λ v i. i v) (past env 1 w) items in
    let p = past_unmoved env 1 (unmerged y) in
    p.awaited q ∙ (unmerged_merges_none y).none (p.back q)

-- Nothing waits behind a method.
pub method_awaits_none : (class : Class) (names : List Declaration) (m : Method) (u : Walk) → (method_walk (env_of class names) m u).findings ≡ [] → (method_walk (env_of class names) m u).awaited ≡ None
method_awaits_none class names m u =
    let env = env_of class names in
    subst (λ (x : Walk). x.findings ≡ [] → x.awaited ≡ None) (sym (method_is class names m u))
    (block_awaits_none env (map (item_walk env) m.body) (at_marked_body class names m (at_params env m u)))

param_back : (env : Env) (u : Walk) (p : Param) → Back u (param_walk env u p)
unfolding param_walk
param_back env u p =
    let n = noted_back (p.is_array && not p.is_collection) (past env 1 u).at 11 (past env 1 u) in
    after (past_back env 1 u) (after (record { back = n.back }) (after (past_if_back env p.is_collection 2 _) (after (past_if_back env p.is_array 2 _) (past_back env 2 _))))

params_back : (env : Env) (all : List Param) (u : Walk) → Back u (params_walk env all u)
unfolding params_walk
params_back env all u = after (fold_back (param_walk env) (param_back env) all u) (after (past_none_back env all _) (past_back env 1 _))

entered_back : (entry : Bool) (u : Walk) → Back u (entered entry u)
unfolding entered
entered_back entry u = record { back = λ q. q }

method_back : (env : Env) (m : Method) (u : Walk) → Back u (method_walk env m u)
unfolding method_walk
method_back env m u =
    after (noted_back (is_ill_collected m.params) u.at 11 u)
    (after (entered_back (is_entry (kind_of m)) _)
    (after (past_back env (length m.modifiers) _) (after (past_back env 2 _) (after (params_back env m.params _) (block_back env (item_walk env) (item_back env) m.body _)))))

member_back : (env : Env) (u : Walk) (m : Member) → Back u (member_walk env u m)
member_back env u (member.Field f) = record { back = (field_keeps env f u).back }
member_back env u (member.Method m) = method_back env m u

pub members_back : (env : Env) (ms : List Member) (u : Walk) → (fold (member_walk env) u ms).findings ≡ [] → u.findings ≡ []
members_back env ms u = (fold_back (member_walk env) (member_back env) ms u).back

-- ---- up to the first member

qualified_keeps : (env : Env) (q : QualifiedName) (u : Walk) → Keeps u (past_qualified env q u)
unfolding past_qualified
qualified_keeps env q u = both (past_keeps env 1 u) (both (past_keeps env (length q.others) _) (past_keeps env (length q.others) _))

package_keeps : (env : Env) (q : Option QualifiedName) (u : Walk) → Keeps u (past_package env q u)
package_keeps env None u = same u
package_keeps env (Some q) u = both (past_keeps env 2 u) (qualified_keeps env q _)

import_keeps : (env : Env) (u : Walk) (i : Import) → Keeps u (past_import env u i)
unfolding past_import
import_keeps env u i = both (past_keeps env 2 u) (both (past_if_keeps env i.is_static 1 _) (both (qualified_keeps env i.name _) (past_if_keeps env i.is_on_demand 2 _)))

pub head_keeps : (env : Env) (c : Class) (u : Walk) → Keeps u (past_head env c u)
unfolding past_head
head_keeps env c u =
    both (package_keeps env c.package u) (both (fold_keeps (past_import env) (import_keeps env) c.imports _) (both (past_keeps env (length c.modifiers) _) (past_keeps env 3 _)))
