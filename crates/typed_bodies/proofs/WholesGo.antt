-- A call that is a whole goes to its target: as a plain value, as an access to a field, or as a merge.
use Rattle.std.proofs.Common.{◌≡◌, ℕ, Bool, true, false, not, List, ◌++◌, slice_get, unwrap_or, is_some, Option, Some, None, refl, sym, ap, ◌∙◌}
use Rattle.sdg_base.specs.declared.store.ClassName.{ClassName}
use Rattle.sdg_base.specs.declared.value_type.ValueType.{ValueType as SignatureType}
use Rattle.sdg_base.specs.declared.value_type.ValueType.TheVariants as type
use Rattle.sdg_base.specs.Signatures.{Signature, state_method}
use Rattle.state_classes.specs.Methods.{signature}
use Rattle.java_tree.specs.declared.types.ValueType.{ValueType}
use Rattle.java_tree.specs.declared.types.ValueType.TheVariants as value
use Rattle.java_tree.specs.declared.types.ExprType.{ExprType}
use Rattle.java_tree.specs.declared.types.ExprType.TheVariants.{Unknown, Void, Value, Collection, State}
use Rattle.java_tree.specs.declared.types.Declaration.{Declaration}
use Rattle.java_types.specs.Fits.{fits}
use Rattle.annotations.specs.declared.position.Position.{Position}
use Rattle.annotations.specs.declared.walk.Walk.{Walk}
use Rattle.annotations.specs.Accesses.{is_keyed, is_partitioned, method_at, method_in, reach_of}
use Rattle.annotations.specs.Walks.{kind_at, token_if}
use Rattle.access_blocks.specs.declared.body.Access.{Access}
use Rattle.access_blocks.specs.declared.body.Expression.{Expression}
use Rattle.access_blocks.specs.declared.body.Expression.TheVariants as x
use Rattle.access_blocks.specs.declared.body.Holder.{Holder}
use Rattle.access_blocks.specs.declared.body.Target.{Target}
use Rattle.access_blocks.specs.declared.body.Target.TheVariants as target
use Rattle.access_blocks.specs.declared.resolved.Invoked.{Invoked}
use Rattle.access_blocks.specs.declared.resolved.Invoked.TheVariants as invoked
use Rattle.access_blocks.specs.Resolving.{chosen_in, class_at}
use Rattle.access_blocks.specs.ResolvingStatements.{given_to}
use Rattle.body_code.specs.Typing.{Context, type_of, types_of, variable_type, needs, needs_of_all}
use Rattle.body_code.specs.Early.{assigned_in}
use Rattle.body_code.specs.Checking.{Surroundings, Standing, Around, outside, is_partial, signature_of, signature_in}
use Rattle.marked_bodies.specs.Unmarked.{unmarked, has_place}
use Rattle.typed_bodies.specs.Reading.{Place, cursor_at, are_plain}
use Rattle.typed_bodies.specs.Needing.{IsWithinCall}
use Rattle.typed_bodies.specs.Expressions.{IsInvoked, is_access}
use Rattle.typed_bodies.specs.Wholes.{StaysPlain, Reaches, MergesAll}
use Rattle.typed_bodies.specs.Targets.{StandsIn, IsReady, put_in, Goes}
use Rattle.typed_bodies.proofs.Assigns.{IsDropped, reads_in, value_assigns, access_assigns, gather_assigns, call_assigns}
use Rattle.typed_bodies.proofs.Running.{first_in, knows_more, knows_left, knows_right, plain_met, all_met, set_runs, access_runs, gather_runs}
use Rattle.typed_bodies.proofs.ValuesGo.{Meets, is_collection, has_type_of, value_runs}
use Rattle.typed_bodies.proofs.StateMethods.{answers_no_int}
use Rattle.typed_bodies.proofs.AccessesGo.{answer_goes, gathers_type, placed}
use Rattle.typed_bodies.proofs.MergesGo.{merged}

-- what is known of a call that reaches no state
pub record IsPlainCall (p : Place) (found : ExprType) (names : List Declaration) (i : Invoked) : Type 0 where
  pub typed : are_plain p names ≡ true → IsInvoked p found i
  pub within : are_plain p names ≡ true → IsWithinCall p i
  pub no_access : are_plain p names ≡ true → is_access i ≡ false

-- its access has the choice that its site says
abbrev pub IsSited : (p : Place) (position : Position) (global : Option ℕ) (found : ExprType) (i : Invoked) (names rest : List Declaration) (u v : Walk)
    → Reaches p position global found i names rest u v → Type 0
IsSited p position global found i names rest u v r =
    (a : Access) → i ≡ invoked.Accesses a → a.choice ≡ chosen_in (cursor_at p) (reach_of (kind_at p.marks r.field) (is_some global) r.key)

no_item : (t item : ValueType) → fits (Value t) (Collection item) ≡ true → ⊥
no_item value.Int item e = cc
no_item value.Long item e = cc
no_item value.Boolean item e = cc
no_item value.Vector item e = cc

fits_one : (t : ValueType) (found : ExprType) → fits (Value t) found ≡ true → is_collection found ≡ false
fits_one t (Collection item) e = absurd (no_item t item e)
fits_one t Unknown e = refl
fits_one t Void e = refl
fits_one t (Value s) e = refl
fits_one t (State class) e = refl

no_void : (t : ValueType) → fits (Value t) Void ≡ true → ⊥
no_void value.Int e = cc
no_void value.Long e = cc
no_void value.Boolean e = cc
no_void value.Vector e = cc

fits_value : (t : ValueType) (found : ExprType) → fits (Value t) found ≡ true → found ≡ Void → ⊥
fits_value t found e is = no_void t (ap (λ (f : ExprType). fits (Value t) f) (sym is) ∙ e)

module _ (around : Surroundings) where
  one_value : (is_global : Bool) (to : Target) (wanted from found : ExprType) → Meets around is_global to wanted from found → is_collection found ≡ false
  one_value is_global target.Dropped wanted from found meets = meets.1
  one_value is_global (target.Variable v) wanted from found meets = fits_one meets.0.0 found (ap (λ (w : ExprType). fits w found) (sym meets.0.1) ∙ meets.1.1)
  one_value is_global target.Returned wanted from found meets = fits_one meets.0.0 found (ap (λ (w : ExprType). fits w found) (sym meets.0.1) ∙ meets.1.1)

  -- what has no value goes nowhere
  void_dropped : (is_global : Bool) (to : Target) (wanted from found : ExprType) → Meets around is_global to wanted from found → found ≡ Void → to ≡ target.Dropped
  void_dropped is_global target.Dropped wanted from found meets is = refl
  void_dropped is_global (target.Variable v) wanted from found meets is = absurd (fits_value meets.0.0 found (ap (λ (w : ExprType). fits w found) (sym meets.0.1) ∙ meets.1.1) is)
  void_dropped is_global target.Returned wanted from found meets is = absurd (fits_value meets.0.0 found (ap (λ (w : ExprType). fits w found) (sym meets.0.1) ∙ meets.1.1) is)

module _ (p : Place) (around : Surroundings) (stands : StandsIn p around) where
  in_body : (a : Expression) (t : SignatureType) → type_of p.context a ≡ Some t → type_of around.context a ≡ Some t
  in_body a t typed = ap (λ (c : Context). type_of c a) stands.context ∙ typed

  -- ---- what reaches no state

  plain_runs : (to : Target) (wanted from found : ExprType) (i : Invoked) → Meets around false to wanted from found → IsInvoked p found i → IsWithinCall p i → is_access i ≡ false
      → (u : Walk) (exits : Around) (st : Standing) → IsReady p around u st (reads_in i) → unmarked around (given_to false to wanted from i) exits st ≡ Some (put_in to st)
  plain_runs to wanted from found (invoked.Value a) meets typed within free u exits st ready =
      let t = has_type_of p.context found a (one_value around false to wanted from found meets) typed in
      value_runs p around stands exits st to wanted from found a meets typed (plain_met p st around a t.0 t.1 within ready.known)
  plain_runs to wanted from found (invoked.Sets v at a) meets sets within free u exits st ready =
      let dropped = void_dropped around false to wanted from found meets sets.is_void in
      let others = knows_more p st v ((needs at).variables ++ (needs a).variables) ready.known in
      let vector : variable_type around.context v ≡ Some type.Vector = ap (λ (c : Context). variable_type c v) stands.context ∙ sets.is_vector in
      set_runs around exits st v at a vector (ready.known v (first_in v ((needs at).variables ++ (needs a).variables)) within.0 type.Vector sets.is_vector)
      (in_body at type.Int sets.is_index) (plain_met p st around at type.Int sets.is_index within.1 (knows_left p st (needs at).variables (needs a).variables others))
      (in_body a type.Long sets.is_value) (plain_met p st around a type.Long sets.is_value within.2 (knows_right p st (needs at).variables (needs a).variables others))
      ∙ ap (λ (t : Target). Some (put_in t st)) (sym dropped)
  plain_runs to wanted from found (invoked.Accesses a) meets typed within free u exits st ready = absurd (cc)

  sets_dropped : (to : Target) (wanted from found : ExprType) (i : Invoked) → Meets around false to wanted from found → IsInvoked p found i → IsDropped i to
  sets_dropped to wanted from found (invoked.Value a) meets typed = tt
  sets_dropped to wanted from found (invoked.Sets v at a) meets sets = void_dropped around false to wanted from found meets sets.is_void
  sets_dropped to wanted from found (invoked.Accesses a) meets typed = tt

  pub plain_goes : (is_global : Bool) (at : ℕ) (to : Target) (wanted from found : ExprType) (i : Invoked) (names rest : List Declaration) (u v : Walk) → Meets around is_global to wanted from found
      → IsPlainCall p found names i → StaysPlain p (token_if is_global at) names rest u v → Goes p around is_global to wanted u (given_to is_global to wanted from i)
  plain_goes true at to wanted from found i names rest u v meets is plain = let none = plain.local in absurd (cc)
  plain_goes false at to wanted from found i names rest u v meets is plain = record {
    reads = reads_in i;
    assigns = call_assigns p to wanted from i (sets_dropped to wanted from found i meets (is.typed plain.plain));
    brings = type.Void;
    of_type = λ e. absurd (cc);
    runs = λ exits st ready. plain_runs to wanted from found i meets (is.typed plain.plain) (is.within plain.plain) (is.no_access plain.plain) u exits st ready;
  }

  -- ---- a merge

  pub merge_goes : (is_global : Bool) (at : ℕ) (to : Target) (wanted from found : ExprType) (i : Invoked) (names rest : List Declaration) (u v : Walk) → Meets around is_global to wanted from found
      → MergesAll p (token_if is_global at) found i names rest u v → Goes p around is_global to wanted u (given_to is_global to wanted from i)
  merge_goes true at to wanted from found i names rest u v meets all = let none = all.local in absurd (cc)
  merge_goes false at to wanted from found i names rest u v meets all = record {
    reads = (needs (x.Merge all.by.number)).variables;
    assigns = ap (λ (i : Invoked). assigned_in (given_to false to wanted from i)) all.is ∙ value_assigns p to wanted from (x.Merge all.by.number);
    brings = type.Void;
    of_type = λ e. absurd (cc);
    runs = λ exits st ready.
        let m = merged p around stands st None found i names rest u v all (needs (x.Merge all.by.number)).variables ready in
        ap (λ (i : Invoked). unmarked around (given_to false to wanted from i) exits st) all.is
        ∙ value_runs p around stands exits st to wanted from found (x.Merge all.by.number) meets m.typed m.met;
  }

  -- ---- an access

  keyed_by : (field : ℕ) (name : List ℕ) (class : ClassName) (sig : Signature) → unwrap_or (slice_get p.marks.classes field) None ≡ Some class → state_method class name ≡ Some sig
      → is_keyed (method_at p.marks field name) ≡ true → sig.keyed ≡ true
  keyed_by field name class sig there is keyed =
      ap is_keyed (sym is) ∙ (ap (λ o. is_keyed (method_in o name)) (sym there) ∙ keyed)

  -- an access as the body knows it
  record Held (field : ℕ) (name : List ℕ) (a : Access) (sig : Signature) : Type 0 where
    holder : Holder
    there : slice_get around.fields a.field ≡ Some holder
    kind : holder.is_partial ≡ not (is_partitioned (kind_at p.marks field))
    signed : signature_of around a.field a.method ≡ Some sig
    typed : types_of around.context a.args ≡ Some sig.arguments
    keyed : is_partitioned (kind_at p.marks field) ≡ true → sig.keyed ≡ true

  held_by : (position : Position) (global : Option ℕ) (found : ExprType) (i : Invoked) (names rest : List Declaration) (u v : Walk) (r : Reaches p position global found i names rest u v)
      → Held r.field r.method r.of.access r.of.of_method
  held_by position global found i names rest u v r =
      let a = r.of.access in
      let h = stands.fields r.object r.variable r.field r.is_object r.declared in
      let there : slice_get around.fields a.field ≡ Some h.holder = ap (λ n. slice_get around.fields n) r.of.of_field ∙ h.is in
      record {
        holder = h.holder;
        there = there;
        kind = h.kind;
        signed = ap (λ o. signature_in o a.method) there ∙ (ap (λ (c : ClassName). signature c a.method) h.of_class ∙ r.of.signed);
        typed = ap (λ (c : Context). types_of c a.args) stands.context ∙ r.of.takes;
        keyed = λ partitioned. keyed_by r.field r.method (class_at p.scope r.field) r.of.of_method h.to_rules r.of.named (r.keyed partitioned);
      }

  pub reach_goes : (is_global : Bool) (at : ℕ) (to : Target) (wanted from found : ExprType) (i : Invoked) (names rest : List Declaration) (position : Position) (u v : Walk)
      → Meets around is_global to wanted from found → (r : Reaches p position (token_if is_global at) found i names rest u v) → IsSited p position (token_if is_global at) found i names rest u v r
      → Goes p around is_global to wanted u (given_to is_global to wanted from i)
  reach_goes false at to wanted from found i names rest position u v meets r sited =
      let a = r.of.access in
      let sig = r.of.of_method in
      let h = held_by position None found i names rest u v r in
      let to_it : Access = record a { target = to } in
      let choice : a.choice ≡ chosen_in (cursor_at p) (reach_of (kind_at p.marks r.field) false r.key) = sited a r.of.is in
      let place = placed p around to_it sig (class_at p.scope r.field) r.method r.of.named r.key (kind_at p.marks r.field) h.holder h.there h.kind h.keyed h.typed (r.is_key a r.of.is) in
      record {
        reads = (needs_of_all a.args).variables;
        assigns = ap (λ (i : Invoked). assigned_in (given_to false to wanted from i)) r.of.is ∙ access_assigns to_it;
        brings = sig.result;
        of_type = λ e. absurd (cc);
        runs = λ exits st ready.
            ap (λ (i : Invoked). unmarked around (given_to false to wanted from i) exits st) r.of.is
            ∙ access_runs around exits st to_it sig h.signed (ready.entry r.entry) h.typed
            (ap (λ c. has_place around to_it sig c) choice ∙ place)
            (all_met p (outside st) around a.args sig.arguments r.of.takes r.of.within ready.known)
            (answer_goes around st to wanted from found sig.result meets r.of.gives (answers_no_int _ r.method sig r.of.named));
      }
  reach_goes true at to wanted from found i names rest position u v meets r sited =
      let a = r.of.access in
      let sig = r.of.of_method in
      let h = held_by position (Some at) found i names rest u v r in
      let partial : is_partial (slice_get around.fields a.field) ≡ true = ap is_partial h.there ∙ (h.kind ∙ ap not (r.globally refl).0) in
      record {
        reads = (needs_of_all a.args).variables;
        assigns = ap (λ (i : Invoked). assigned_in (given_to true to wanted from i)) r.of.is ∙ gather_assigns (record { field = a.field; method = a.method; args = a.args });
        brings = sig.result;
        of_type = λ e. gathers_type around true to wanted from found sig.result meets r.of.gives (answers_no_int _ r.method sig r.of.named);
        runs = λ exits st ready.
            ap (λ (i : Invoked). unmarked around (given_to true to wanted from i) exits st) r.of.is
            ∙ gather_runs around exits st a sig h.signed (ready.entry r.entry) h.typed partial (all_met p st around a.args sig.arguments r.of.takes r.of.within ready.known);
      }
