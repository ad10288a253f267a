-- A merge of what was gathered has the type that its method answers, and is met where what waits was gathered.
use Rattle.std.proofs.Common.{◌≡◌, ℕ, Bool, true, false, ◌&&◌, List, [], ◌∷◌, slice_get, Option, Some, if◌then◌else◌, refl, sym, ap, ap₂, subst, ◌∙◌}
use Rattle.sdg_base.specs.declared.value_type.ValueType.{ValueType as SignatureType}
use Rattle.sdg_base.specs.declared.value_type.ValueType.TheVariants as type
use Rattle.java_tree.specs.declared.method_kinds.MethodKind.{MethodKind}
use Rattle.java_tree.specs.declared.method_kinds.MethodKind.TheVariants.{Merge}
use Rattle.java_tree.specs.declared.types.ValueType.{ValueType}
use Rattle.java_tree.specs.declared.types.ValueType.TheVariants as value
use Rattle.java_tree.specs.declared.types.ExprType.{ExprType}
use Rattle.java_tree.specs.declared.types.ExprType.TheVariants.{Collection}
use Rattle.java_types.specs.declared.walk.Given.{Given}
use Rattle.java_types.specs.declared.walk.Signature.{Signature}
use Rattle.java_types.specs.Expressions.{param_at}
use Rattle.java_types.specs.Fits.{is_known, is_value_of, is_collection_of, may_be_passed}
use Rattle.annotations.specs.declared.walk.Walk.{Walk}
use Rattle.access_blocks.specs.declared.body.Expression.{Expression}
use Rattle.access_blocks.specs.declared.body.Expression.TheOpen as e
use Rattle.access_blocks.specs.declared.body.Expression.TheFolds.{fold-roll-Expression}
use Rattle.access_blocks.specs.declared.body.Expression.TheVariants as x
use Rattle.access_blocks.specs.declared.resolved.Invoked.{Invoked}
use Rattle.access_blocks.specs.Resolving.{wanted_by}
use Rattle.body_code.specs.declared.callee.Callee.{Callee}
use Rattle.body_code.specs.Typing.{Context, Needs, merge_alone, merged_by, merged_type, needs, needs_step, type_by, type_of}
use Rattle.body_code.specs.Checking.{Surroundings, Standing, are_met, takes_gathered, takes_values, is_merge_of}
use Rattle.typed_bodies.specs.Reading.{Place, IsOneMethod, IsOfType}
use Rattle.typed_bodies.specs.Wholes.{MergesAll}
use Rattle.typed_bodies.specs.Targets.{StandsIn, IsReady}
use Rattle.typed_bodies.proofs.Conversions.{merge_is}
use Rattle.typed_bodies.proofs.Running.{same_refl}
use Rattle.java_tree.specs.declared.types.Declaration.{Declaration}

known_answer : (t : SignatureType) → is_known (wanted_by t) ≡ true
known_answer type.Int = refl
known_answer type.Long = refl
known_answer type.Boolean = refl
known_answer type.Vector = refl
known_answer type.Void = refl

pub typed_as : (c : Context) (t : SignatureType) (a : Expression) → type_of c a ≡ Some t → IsOfType c (wanted_by t) a
typed_as c type.Int a is = is
typed_as c type.Long a is = is
typed_as c type.Boolean a is = is
typed_as c type.Vector a is = is
typed_as c type.Void a is = is

-- a value of a type makes a collection of members of that type alone
value_is : (item : ValueType) (t : SignatureType) → is_value_of item (wanted_by t) ≡ true → type_by item ≡ t
value_is value.Int type.Int e = refl
value_is value.Int type.Long e = absurd (cc)
value_is value.Int type.Boolean e = absurd (cc)
value_is value.Int type.Vector e = absurd (cc)
value_is value.Int type.Void e = absurd (cc)
value_is value.Long type.Int e = absurd (cc)
value_is value.Long type.Long e = refl
value_is value.Long type.Boolean e = absurd (cc)
value_is value.Long type.Vector e = absurd (cc)
value_is value.Long type.Void e = absurd (cc)
value_is value.Boolean type.Int e = absurd (cc)
value_is value.Boolean type.Long e = absurd (cc)
value_is value.Boolean type.Boolean e = refl
value_is value.Boolean type.Vector e = absurd (cc)
value_is value.Boolean type.Void e = absurd (cc)
value_is value.Vector type.Int e = absurd (cc)
value_is value.Vector type.Long e = absurd (cc)
value_is value.Vector type.Boolean e = absurd (cc)
value_is value.Vector type.Vector e = refl
value_is value.Vector type.Void e = absurd (cc)

no_collection_of : (item : ValueType) (t : SignatureType) → is_collection_of item (wanted_by t) ≡ true → ⊥
no_collection_of item type.Int e = cc
no_collection_of item type.Long e = cc
no_collection_of item type.Boolean e = cc
no_collection_of item type.Vector e = cc
no_collection_of item type.Void e = cc

item_is : (item : ValueType) (t : SignatureType) (is_global : Bool) → (if is_global then is_value_of item (wanted_by t) else is_collection_of item (wanted_by t)) ≡ true → type_by item ≡ t
item_is item t true e = value_is item t e
item_is item t false e = absurd (no_collection_of item t e)

passed_item : (wanted : ExprType) (item : ValueType) (given : Given) (t : SignatureType) → wanted ≡ Collection item → given.found ≡ wanted_by t → may_be_passed wanted given ≡ true → type_by item ≡ t
passed_item wanted item given t is found fit =
    item_is item t given.is_global
    (ap (λ (f : ExprType). if given.is_global then is_value_of item f else is_collection_of item f) (sym found) ∙ (ap (λ (w : ExprType). may_be_passed w given) (sym is) ∙ fit))

needs_merge : (n : ℕ) → needs (x.Merge n) ≡ merge_alone n
needs_merge n = ap needs (sym (x.rolls-Merge n)) ∙ fold-roll-Expression Needs needs_step (e.Merge n)

-- what a merge is in a standing that is ready
pub record Merged (p : Place) (around : Surroundings) (st : Standing) (found : ExprType) (number : ℕ) : Type 0 where
  pub typed : IsOfType p.context found (x.Merge number)
  pub met : are_met around st (needs (x.Merge number)) ≡ true

module _ (p : Place) (around : Surroundings) (stands : StandsIn p around) (st : Standing) where
  takes_members : (by : Signature) (m : IsOneMethod p by) (t : SignatureType) (item : ValueType) → by.kind ≡ Merge → m.callee.params ≡ type_by item ∷ [] → type_by item ≡ t
      → st.gathered ≡ Some t → takes_gathered around st.gathered by.number ≡ true
  takes_members by m t item merges params same gathered =
      ap (λ o. takes_gathered around o by.number) gathered
      ∙ (ap (λ (c : Context). takes_values (slice_get c.methods by.number) t) stands.context
      ∙ (ap (λ o. takes_values o t) m.is_callee
      ∙ (ap₂ (λ (k : MethodKind) (ts : List SignatureType). is_merge_of t k ts) (m.kind ∙ merges) (params ∙ ap (λ (s : SignatureType). s ∷ []) same)
      ∙ ap (λ b. if b then true else false) (same_refl t))))

  pub merged : (global : Option ℕ) (found : ExprType) (i : Invoked) (names rest : List Declaration) (u v : Walk) (all : MergesAll p global found i names rest u v) → (reads : List ℕ) → IsReady p around u st reads
      → Merged p around st found all.by.number
  merged global found i names rest u v all reads ready =
      let g = ready.waits (record { local = all.one.local; token = all.one.token }) all.one.name all.one.it all.one.waits all.one.is all.one.declared in
      let given : all.given.found ≡ wanted_by g.type = all.one.of ∙ g.found in
      let m = all.method in
      let item = m.merged all.merges in
      let answers : found ≡ wanted_by m.callee.result = all.gives (ap is_known given ∙ known_answer g.type) ∙ m.gives in
      let same : type_by item.0 ≡ g.type = passed_item (param_at all.by.params 0) item.0 all.given g.type (ap (λ (ps : List ExprType). param_at ps 0) item.1) given all.fit in
      let merge_type : type_of p.context (x.Merge all.by.number) ≡ Some m.callee.result =
      merge_is p.context all.by.number ∙ (ap merged_type m.is_callee ∙ kind_merges m.callee.kind (m.kind ∙ all.merges) m.callee) in
      record {
        typed = subst (λ (t : ExprType). IsOfType p.context t (x.Merge all.by.number)) (sym answers) (typed_as p.context m.callee.result _ merge_type);
        met = ap (λ (n : Needs). are_met around st n) (needs_merge all.by.number)
            ∙ ap (λ b. (b && true) && true) (takes_members all.by m g.type item.0 all.merges item.2 same g.gathered);
      }
    where
      kind_merges : (k : MethodKind) → k ≡ Merge → (c : Callee) → merged_by k c.result ≡ Some c.result
      kind_merges k is c = ap (λ k. merged_by k c.result) is
