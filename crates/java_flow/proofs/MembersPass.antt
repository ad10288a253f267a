-- The walk over a member passes as many places as it has tokens, and that over a class all but its closing brace.
use Rattle.std.proofs.Common.{◌≡◌, ℕ, suc, ◌+◌, Bool, true, false, if◌then◌else◌, List, [], ◌∷◌, ◌++◌, map, length, drop, Option, Some, None, refl, sym, ap, ◌∙◌, append_assoc, arith, length-append}
use Rattle.std.specs.List.{flat_map}
use Rattle.std.proofs.lemmas.List.{drop-drop}
use Rattle.java_tree.specs.declared.token.Kind.{Kind}
use Rattle.java_tree.specs.declared.token.Kind.TheVariants as k
use Rattle.java_tree.specs.declared.token.Reserved.TheVariants as word
use Rattle.java_tree.specs.declared.token.Symbol.TheVariants as symbol
use Rattle.java_tree.specs.declared.tree.QualifiedName.{QualifiedName}
use Rattle.java_tree.specs.declared.tree.Import.{Import}
use Rattle.java_tree.specs.declared.tree.Modifier.{Modifier}
use Rattle.java_tree.specs.declared.tree.Modifier.TheVariants as modifier
use Rattle.java_tree.specs.declared.tree.FieldModifier.{FieldModifier}
use Rattle.java_tree.specs.declared.tree.FieldModifier.TheVariants as field_modifier
use Rattle.java_tree.specs.declared.tree.Field.{Field}
use Rattle.java_tree.specs.declared.tree.TypeName.{TypeName}
use Rattle.java_tree.specs.declared.tree.Param.{Param}
use Rattle.java_tree.specs.declared.tree.ResultType.{ResultType}
use Rattle.java_tree.specs.declared.tree.ResultType.TheVariants as result_type
use Rattle.java_tree.specs.declared.tree.Method.{Method}
use Rattle.java_tree.specs.declared.tree.Member.{Member}
use Rattle.java_tree.specs.declared.tree.Member.TheVariants as member
use Rattle.java_tree.specs.declared.tree.Class.{Class}
use Rattle.java_tree.specs.Tokens.{Kinds, separated, in_parentheses, qualified, package_tokens, import_tokens, modifier_tokens, field_modifier_tokens, field_tokens, result_tokens, param_tokens, item_tokens, method_tokens, member_tokens}
use Rattle.java_flow.specs.Points.{Point, behind, behind_if}
use Rattle.java_flow.specs.Expressions.{opening}
use Rattle.java_flow.specs.Findings.{behind_name, behind_package, behind_import, behind_imports, behind_modifiers, behind_field, behind_params, behind_header, body_start, method_walk, member_walk, members_walk, class_walk}
use Rattle.java_flow.specs.Statements.{item_of, block_walk}
use Rattle.java_flow.specs.Laws.{Passes, PassesClass}
use Rattle.java_flow.proofs.Passing.{found_places, one_more, one_behind, passes_both}
use Rattle.java_flow.proofs.SimplesPass.{one_type}
use Rattle.java_flow.proofs.StatementsPass.{body_passes}

-- ---- names and imports

name_count : (others : List (List ℕ)) → length others + length others ≡ length (flat_map (λ name. k.Symbol symbol.Dot ∷ k.Identifier name ∷ []) others)
name_count [] = refl
name_count (x ∷ xs) = omega (arith, name_count xs)

name_length : (q : QualifiedName) → 1 + length q.others + length q.others ≡ length (qualified q)
name_length q = omega (arith, name_count q.others)

name_passes : (q : QualifiedName) → Passes (qualified q) (behind_name q)
name_passes q p = simp drop-drop (ap (λ (n : ℕ). drop n p.places) (name_length q))

package_passes : (o : Option QualifiedName) → Passes (package_tokens o) (behind_package o)
package_passes None p = refl
package_passes (Some q) p =
    ap (drop 1) (name_passes q (behind 1 p))
    ∙ simp drop-drop (ap (λ (n : ℕ). drop n p.places) (one_more (k.Reserved word.Package) (qualified q) (k.Symbol symbol.Semicolon ∷ [])))

static_passes : (is_static : Bool) → Passes (if is_static then k.Reserved word.Static ∷ [] else []) (behind_if is_static 1)
static_passes true p = refl
static_passes false p = refl

on_demand_passes : (is_on_demand : Bool) → Passes (if is_on_demand then k.Symbol symbol.Dot ∷ k.Symbol symbol.Star ∷ [] else []) (behind_if is_on_demand 2)
on_demand_passes true p = refl
on_demand_passes false p = refl

import_passes : (i : Import) → Passes (import_tokens i) (behind_import i)
import_passes i =
    let static = if i.is_static then k.Reserved word.Static ∷ [] else [] in
    let on_demand = if i.is_on_demand then k.Symbol symbol.Dot ∷ k.Symbol symbol.Star ∷ [] else [] in
    let end : Kinds = k.Symbol symbol.Semicolon ∷ [] in
    let behind_end : Point → Point = λ p. behind 1 (behind_if i.is_on_demand 2 p) in
    passes_both (k.Reserved word.Import ∷ []) (static ++ (qualified i.name ++ (on_demand ++ end))) (behind 1) (λ p. behind_end (behind_name i.name (behind_if i.is_static 1 p))) (λ p. refl)
    (passes_both static (qualified i.name ++ (on_demand ++ end)) (behind_if i.is_static 1) (λ p. behind_end (behind_name i.name p)) (static_passes i.is_static)
    (passes_both (qualified i.name) (on_demand ++ end) (behind_name i.name) behind_end (name_passes i.name)
    (passes_both on_demand end (behind_if i.is_on_demand 2) (behind 1) (on_demand_passes i.is_on_demand) (λ p. refl))))

imports_pass : (all : List Import) → Passes (flat_map import_tokens all) (behind_imports all)
imports_pass [] p = refl
imports_pass (i ∷ is) p = passes_both (import_tokens i) (flat_map import_tokens is) (behind_import i) (behind_imports is) (import_passes i) (imports_pass is) p

-- ---- fields

modifier_count : (all : List Modifier) → length all ≡ length (flat_map modifier_tokens all)
modifier_count [] = refl
modifier_count (modifier.Public ∷ ms) = omega (arith, modifier_count ms)
modifier_count (modifier.Private ∷ ms) = omega (arith, modifier_count ms)
modifier_count (modifier.Static ∷ ms) = omega (arith, modifier_count ms)

modifiers_pass : (all : List FieldModifier) → Passes (flat_map field_modifier_tokens all) (behind_modifiers all)
modifiers_pass [] p = refl
modifiers_pass (field_modifier.Partitioned ∷ ms) p = simp (modifiers_pass ms, drop-drop) (grind arith)
modifiers_pass (field_modifier.Partial ∷ ms) p = simp (modifiers_pass ms, drop-drop) (grind arith)
modifiers_pass (field_modifier.Public ∷ ms) p = simp (modifiers_pass ms, drop-drop) (grind arith)
modifiers_pass (field_modifier.Private ∷ ms) p = simp (modifiers_pass ms, drop-drop) (grind arith)

field_passes : (f : Field) → Passes (field_tokens f) (behind_field f)
field_passes f p = simp (modifiers_pass f.modifiers, drop-drop) (grind (arith, length-append {A = Kind}))

-- ---- methods

param_parts : (token : Kind) (is_collection : Bool) (t : TypeName) (is_array : Bool) (name : List ℕ)
    → Passes (token ∷ param_tokens (record { is_collection = is_collection; type_name = t; is_array = is_array; name = name })) (λ p. behind 3 (behind_if is_array 2 (behind_if is_collection 2 p)))
param_parts token false t false name p = grind (arith, one_type t, length-append {A = Kind})
param_parts token false t true name p = simp drop-drop (grind (arith, one_type t, length-append {A = Kind}))
param_parts token true t false name p = simp drop-drop (grind (arith, one_type t, length-append {A = Kind}))
param_parts token true t true name p = simp drop-drop (grind (arith, one_type t, length-append {A = Kind}))

abbrev behind_param : Param → Point → Point
behind_param x p = behind 3 (behind_if x.is_array 2 (behind_if x.is_collection 2 p))

param_passes : (token : Kind) (x : Param) → Passes (token ∷ param_tokens x) (behind_param x)
param_passes token x = param_parts token x.is_collection x.type_name x.is_array x.name

abbrev others : List Param → Kinds
others all = flat_map (λ y. k.Symbol symbol.Comma ∷ y) (map param_tokens all)

other_params_pass : (all : List Param) → Passes (others all) (behind_params all)
other_params_pass [] p = refl
other_params_pass (x ∷ xs) p = passes_both (k.Symbol symbol.Comma ∷ param_tokens x) (others xs) (behind_param x) (behind_params xs) (param_passes (k.Symbol symbol.Comma) x) (other_params_pass xs) p

params_pass : (token : Kind) (all : List Param) → Passes (token ∷ separated (map param_tokens all)) (λ p. behind_params all (opening all p))
params_pass token [] p = refl
params_pass token (x ∷ xs) p = passes_both (token ∷ param_tokens x) (others xs) (behind_param x) (behind_params xs) (param_passes token x) (other_params_pass xs) p

one_result : (r : ResultType) → length (result_tokens r) ≡ 1
one_result result_type.Void = refl
one_result (result_type.Type t) = one_type t

method_count : (all : List Modifier) (r : ResultType) (name : List ℕ) (params body : Kinds)
    → length all + 2 + suc (length params) + 1 + 1 + length body ≡ length (flat_map modifier_tokens all ++ (result_tokens r ++ (k.Identifier name ∷ (in_parentheses params ++ (k.Symbol symbol.OpenBrace ∷ body)))))
method_count all r name params body = grind (arith, modifier_count all, one_result r, length-append {A = Kind})

module _ (m : Method) where
  abbrev params : Kinds
  params = separated (map param_tokens m.params)

  abbrev statements : Kinds
  statements = flat_map item_tokens m.body

  abbrev before_end : Kinds
  before_end = flat_map modifier_tokens m.modifiers ++ (result_tokens m.result ++ (k.Identifier m.name ∷ (in_parentheses params ++ (k.Symbol symbol.OpenBrace ∷ statements))))

  before_end_passes : Passes before_end (λ p. block_walk (map item_of m.body) (body_start (behind_header m p)))
  before_end_passes p =
      simp (body_passes m.body, params_pass (k.Symbol symbol.OpenParen) m.params, drop-drop) (ap (λ (n : ℕ). drop n p.places) (method_count m.modifiers m.result m.name params statements))

  whole_method : before_end ++ k.Symbol symbol.CloseBrace ∷ [] ≡ method_tokens m
  whole_method = simp append_assoc

  method_passes : Passes (method_tokens m) (method_walk m)
  method_passes p =
      ap (drop 1) (found_places _ _ _ ∙ before_end_passes p)
      ∙ (drop-drop 1 (length before_end) p.places ∙ ap (λ (n : ℕ). drop n p.places) (one_behind before_end (k.Symbol symbol.CloseBrace) ∙ ap length whole_method))

-- ---- members

pub member_passes : (m : Member) → Passes (member_tokens m) (member_walk m)
member_passes (member.Field f) = field_passes f
member_passes (member.Method m) = method_passes m

members_pass : (all : List Member) → Passes (flat_map member_tokens all) (members_walk all)
members_pass [] p = refl
members_pass (m ∷ ms) p = passes_both (member_tokens m) (flat_map member_tokens ms) (member_walk m) (members_walk ms) (member_passes m) (members_pass ms) p

module _ (c : Class) where
  abbrev heading : Kinds
  heading = k.Reserved word.Class ∷ k.Identifier c.name ∷ k.Symbol symbol.OpenBrace ∷ []

  abbrev body : Kinds
  body = flat_map member_tokens c.members

  abbrev modifiers : Kinds
  modifiers = flat_map modifier_tokens c.modifiers

  abbrev imports : Kinds
  imports = flat_map import_tokens c.imports

  abbrev front : Kinds
  front = package_tokens c.package ++ (imports ++ (modifiers ++ (heading ++ body)))

  front_passes : Passes front (class_walk c)
  front_passes =
      passes_both (package_tokens c.package) (imports ++ (modifiers ++ (heading ++ body))) (behind_package c.package)
      (λ p. members_walk c.members (behind 3 (behind (length c.modifiers) (behind_imports c.imports p)))) (package_passes c.package)
      (passes_both imports (modifiers ++ (heading ++ body)) (behind_imports c.imports) (λ p. members_walk c.members (behind 3 (behind (length c.modifiers) p))) (imports_pass c.imports)
      (passes_both modifiers (heading ++ body) (behind (length c.modifiers)) (λ p. members_walk c.members (behind 3 p)) (λ p. ap (λ (n : ℕ). drop n p.places) (modifier_count c.modifiers))
      (passes_both heading body (behind 3) (members_walk c.members) (λ p. refl) (members_pass c.members))))

  pub class_passes : PassesClass c
  class_passes = record { front = front; tokens = sym (simp append_assoc); passes = front_passes }
