-- An access to a field goes to its target, with the place that its site says.
use Rattle.std.proofs.Common.{◌≡◌, ℕ, Bool, true, false, not, ◌&&◌, nat_eq, List, [], ◌∷◌, slice_get, Some, refl, sym, ap, ap₂, subst, ◌∙◌, arith}
use Rattle.std.proofs.lemmas.Bool.Decides.{nat_tests}
use Rattle.sdg_base.specs.declared.store.ClassName.{ClassName}
use Rattle.sdg_base.specs.declared.value_type.ValueType.{ValueType as SignatureType}
use Rattle.sdg_base.specs.declared.value_type.ValueType.TheVariants as type
use Rattle.sdg_base.specs.Signatures.{Signature, state_method}
use Rattle.flat_code.specs.Types.{same_type}
use Rattle.java_tree.specs.declared.types.ValueType.{ValueType}
use Rattle.java_tree.specs.declared.types.ExprType.{ExprType}
use Rattle.java_tree.specs.declared.types.ExprType.TheVariants.{Value}
use Rattle.java_types.specs.Fits.{fits}
use Rattle.annotations.specs.declared.site.FieldKind.{FieldKind}
use Rattle.annotations.specs.declared.site.FieldKind.TheVariants.{Partitioned, Partial}
use Rattle.annotations.specs.declared.site.Key.{Key}
use Rattle.annotations.specs.declared.site.Key.TheVariants as key
use Rattle.annotations.specs.Accesses.{is_keyed, method_in, reach_of}
use Rattle.annotations.specs.Accesses as rules
use Rattle.access_blocks.specs.declared.body.Access.{Access}
use Rattle.access_blocks.specs.declared.body.Expression.{Expression}
use Rattle.access_blocks.specs.declared.body.Holder.{Holder}
use Rattle.access_blocks.specs.declared.body.Target.{Target}
use Rattle.access_blocks.specs.declared.body.Target.TheVariants as target
use Rattle.access_blocks.specs.Marks.{first_argument}
use Rattle.access_blocks.specs.Resolving.{argument, chosen_by, chosen_in, wanted_by}
use Rattle.body_code.specs.Typing.{Context, needs, type_by, type_of, types_of, variable_type}
use Rattle.body_code.specs.Checking.{Surroundings, Standing, if_so, is_type, is_partial, is_partitioned, is_void, outside, with_known, targeted}
use Rattle.marked_bodies.specs.Unmarked.{has_place, is_key, is_chosen_so, reads_only, reads_nothing}
use Rattle.typed_bodies.specs.Reading.{Place, cursor_at}
use Rattle.typed_bodies.specs.Marking.{IsKey}
use Rattle.typed_bodies.specs.Targets.{put_in}
use Rattle.typed_bodies.proofs.Running.{same_refl, is_of_type, both_hold}
use Rattle.typed_bodies.proofs.Signed.{first_typed}
use Rattle.typed_bodies.proofs.StateMethods.{is_no_int, key_first, fits_alone, type_back}
use Rattle.typed_bodies.proofs.ValuesGo.{Meets}

-- ---- where the answer goes

module _ (around : Surroundings) (st : Standing) where
  result_fits : (t : ValueType) (wanted found : ExprType) (r : SignatureType) → wanted ≡ Value t → fits wanted found ≡ true → found ≡ wanted_by r → is_no_int r ≡ true → type_by t ≡ r
  result_fits t wanted found r is fit gives no_int = fits_alone t r (ap₂ (λ (w f : ExprType). fits w f) (sym is) (sym gives) ∙ fit) no_int

  no_void : (t : ValueType) → is_void (type_by t) ≡ false
  no_void t = of_back (type_by t) (type_back t)
    where
      of_back : (r : SignatureType) → wanted_by r ≡ Value t → is_void r ≡ false
      of_back type.Int e = refl
      of_back type.Long e = refl
      of_back type.Boolean e = refl
      of_back type.Vector e = refl
      of_back type.Void e = absurd (cc)

  pub answer_goes : (to : Target) (wanted from found : ExprType) (r : SignatureType) → Meets around false to wanted from found → found ≡ wanted_by r → is_no_int r ≡ true
      → targeted around to r (outside st) ≡ Some (put_in to st)
  answer_goes target.Dropped wanted from found r meets gives no_int = refl
  answer_goes (target.Variable v) wanted from found r meets gives no_int =
      let takes = meets.0 in
      let same = result_fits takes.0 wanted found r takes.1 meets.1.1 gives no_int in
      ap (λ b. if_so b (with_known v (outside st))) (is_of_type (variable_type around.context v) r (takes.2 refl ∙ ap (λ (t : SignatureType). Some t) same))
  answer_goes target.Returned wanted from found r meets gives no_int =
      let takes = meets.0 in
      let same = result_fits takes.0 wanted found r takes.1 meets.1.1 gives no_int in
      ap (λ (result : SignatureType). if_so (same_type r result && not (is_void r)) (outside st)) (takes.2 ∙ same)
      ∙ ap (λ b. if_so b (outside st)) (both_hold (same_type r r) (not (is_void r)) (same_refl r) (ap (λ (t : SignatureType). not (is_void t)) (sym same) ∙ ap not (no_void takes.0)))

-- what is gathered is of the type that is wanted
pub gathers_type : (around : Surroundings) (is_global : Bool) (to : Target) (wanted from found : ExprType) (r : SignatureType) → Meets around is_global to wanted from found → found ≡ wanted_by r → is_no_int r ≡ true
    → (t : ValueType) → wanted ≡ Value t → wanted ≡ wanted_by r
gathers_type around is_global target.Dropped wanted from found r meets gives no_int t is = let none = meets.0 in absurd (cc)
gathers_type around is_global (target.Variable v) wanted from found r meets gives no_int t is =
    is ∙ (sym (type_back t) ∙ ap wanted_by (fits_alone t r (ap₂ (λ (w f : ExprType). fits w f) (sym is) (sym gives) ∙ meets.1.1) no_int))
gathers_type around is_global target.Returned wanted from found r meets gives no_int t is =
    is ∙ (sym (type_back t) ∙ ap wanted_by (fits_alone t r (ap₂ (λ (w f : ExprType). fits w f) (sym is) (sym gives) ∙ meets.1.1) no_int))

-- ---- the place of an access

-- the first argument, which is a long
record FirstLong (c : Context) (args : List Expression) : Type 0 where
  it : Expression
  is : first_argument args ≡ Some it
  same : argument args 0 ≡ it
  typed : type_of c it ≡ Some type.Long

first_of : (c : Context) (args : List Expression) (rest : List SignatureType) → types_of c args ≡ Some (type.Long ∷ rest) → FirstLong c args
first_of c [] rest e = absurd (cc)
first_of c (a ∷ args) rest e = record { it = a; is = refl; same = refl; typed = first_typed c (a ∷ args) type.Long rest e }

itself : (n : ℕ) → nat_eq n n ≡ true
itself n = grind (arith, nat_tests)

not_not : (b : Bool) → not (not b) ≡ b
not_not true = refl
not_not false = refl

module _ (p : Place) (around : Surroundings) (a : Access) (sig : Signature) where
  by_key : (k : Key) (it : Expression) → IsKey p k (needs it) → is_chosen_so (chosen_by (cursor_at p) k) it ≡ true
  by_key (key.Literal n) it is = ap reads_nothing is
  by_key (key.Variable d) it is = ap (reads_only _) is ∙ ap (λ b. (b && true) && true) (itself _)
  by_key key.Compound it is = refl

  key_is : (k : Key) (it : Expression) → first_argument a.args ≡ Some it → type_of around.context it ≡ Some type.Long → IsKey p k (needs it) → is_key around (chosen_by (cursor_at p) k) (first_argument a.args) ≡ true
  key_is k it first typed is =
      ap (λ o. is_key around (chosen_by (cursor_at p) k) o) first
      ∙ both_hold (is_chosen_so (chosen_by (cursor_at p) k) it) (is_type (type_of around.context it) type.Long) (by_key k it is) (is_of_type _ type.Long typed)

  key_place : (k : Key) → (is_partitioned (slice_get around.fields a.field) && (sig.keyed && is_key around (chosen_by (cursor_at p) k) (first_argument a.args))) ≡ true → has_place around a sig (chosen_by (cursor_at p) k) ≡ true
  key_place (key.Literal n) e = e
  key_place (key.Variable d) e = e
  key_place key.Compound e = e

  kind_place : (kind : FieldKind) (k : Key) (h : Holder) → slice_get around.fields a.field ≡ Some h → h.is_partial ≡ not (rules.is_partitioned kind)
      → (rules.is_partitioned kind ≡ true → (sig.keyed && is_key around (chosen_by (cursor_at p) k) (first_argument a.args)) ≡ true)
      → has_place around a sig (chosen_in (cursor_at p) (reach_of kind false k)) ≡ true
  kind_place Partitioned k h is same keyed = key_place k (both_hold _ _ (ap is_partitioned is ∙ ap not same) (keyed refl))
  kind_place Partial k h is same keyed = ap is_partial is ∙ same

  -- an access by the key that its site says, or of an instance
  pub placed : (class : ClassName) (name : List ℕ) → state_method class name ≡ Some sig → (k : Key) (kind : FieldKind)
      → (h : Holder) → slice_get around.fields a.field ≡ Some h → h.is_partial ≡ not (rules.is_partitioned kind)
      → (rules.is_partitioned kind ≡ true → sig.keyed ≡ true) → types_of around.context a.args ≡ Some sig.arguments → IsKey p k (needs (argument a.args 0))
      → has_place around a sig (chosen_in (cursor_at p) (reach_of kind false k)) ≡ true
  placed class name is k kind h there same keyed typed key =
      kind_place kind k h there same (λ partitioned.
      let f = key_first class name sig is (keyed partitioned) in
      let first = first_of around.context a.args f.0 (typed ∙ ap (λ (ts : List SignatureType). Some ts) f.1) in
      both_hold sig.keyed _ (keyed partitioned) (key_is k first.it first.is first.typed (subst (λ (e : Expression). IsKey p k (needs e)) first.same key)))
