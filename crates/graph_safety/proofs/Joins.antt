-- Parts at the join go right.
use Rattle.std.proofs.Common.{◌≡◌, refl, sym, ap, subst, ◌∙◌, ℕ, zero, suc, arith, Bool, true, false, cond, ◌&&◌, nat_lt, List, [], ◌∷◌, length, Option, Some, None, slice_get}
use Rattle.std.proofs.lemmas.Bool.{false≢true, ltb-true}
use Rattle.sdg_base.specs.declared.val.Val.{Val}
use Rattle.sdg_base.specs.declared.val.Val.TheVariants as val
use Rattle.sdg_base.specs.declared.val.Outcome.{Outcome}
use Rattle.sdg_base.specs.declared.val.Outcome.TheVariants as outcome
use Rattle.sdg_base.specs.declared.value_type.ValueType.{ValueType}
use Rattle.sdg_base.specs.declared.port.Port.TheVariants as port
use Rattle.sdg_base.specs.declared.item.Item.{Item}
use Rattle.sdg_base.specs.declared.item.Item.TheVariants as item
use Rattle.sdg_base.specs.Types.{type_of}
use Rattle.state_classes.specs.States.{State}
use Rattle.flat_code.specs.declared.graph.GraphMethod.{GraphMethod}
use Rattle.flat_code.specs.declared.graph.MethodKind.TheVariants as method_kind
use Rattle.flat_code.specs.declared.graph.Graph.{Graph}
use Rattle.flat_code.specs.declared.graph.Task.{Task}
use Rattle.flat_code.specs.declared.graph.TaskKind.{TaskKind}
use Rattle.flat_code.specs.declared.graph.TaskKind.TheVariants as kind
use Rattle.flat_code.specs.declared.graph.VariableType.{VariableType}
use Rattle.flat_code.specs.declared.graph.VariableType.TheVariants.{One, Collection}
use Rattle.flat_code.specs.Types.{type_by, in_variable, member_type}
use Rattle.flat_code.specs.Machine.{first_variables}
use Rattle.flat_code.specs.Items.{Wait, Sender, sender, with_part, instance_of, Gathered, AllValues, FirstOther, gathered_of, gathered_in, joined_with, joined_from, joined}
use Rattle.flat_code.specs.Fits.{is_type, brought, is_brought, brings, takes, is_instance, joining, fits}
use Rattle.flat_code.specs.Verified.{IsVerified, IsMethod, StandsRight, TakesBrought}
use Rattle.graph_safety.specs.Safe.{AreWidths, AreOfOneJoin, ArePartsBeside, turns_of, turns_of_first, method_for, result_of}
use Rattle.graph_safety.proofs.Values.{same_is}
use Rattle.graph_safety.proofs.Lists.{none_some, some_is, both_true}
use Rattle.graph_safety.proofs.Frames.{AreOf, HoldsIn, Holds, HasNoValue, ArgsFit}
use Rattle.graph_safety.proofs.Items.{Taking, taking}
use Rattle.graph_safety.proofs.Outputs.{GivesRight, no_value_has}
use Rattle.graph_safety.proofs.Starts.{task_item, method_is}

-- ---- each of a list

abbrev EachOf : {A : Type 0} → (A → Type 0) → List A → Type 0
EachOf P [] = Unit {0}
EachOf P (x ∷ xs) = P x × EachOf P xs

each_of : {A : Type 0} (P : A → Type 0) (xs : List A) → ((n : ℕ) (x : A) → slice_get xs n ≡ Some x → P x) → EachOf P xs
each_of P [] h = tt
each_of P (x ∷ xs) h = (h zero x refl, each_of P xs (λ n y e. h (suc n) y e))

with_part_each : (P : Item → Type 0) (p : Item) (parts : List Item) → P p → EachOf P parts → EachOf P (with_part p parts)
with_part_each P p [] h k = (h, tt)
with_part_each P p (other ∷ others) h k = by (nat_lt (instance_of p) (instance_of other)) (with_part_each P p others h k.1)
  where
    by : (b : Bool) → EachOf P (with_part p others) → EachOf P (cond b (p ∷ other ∷ others) (other ∷ with_part p others))
    by true more = (h, k)
    by false more = (k.0, more)

with_part_some : (p : Item) (parts : List Item) → with_part p parts ≡ [] → ⊥
with_part_some p [] e = cc
with_part_some p (other ∷ others) e = by (nat_lt (instance_of p) (instance_of other)) e
  where
    by : (b : Bool) → cond b (p ∷ other ∷ others) (other ∷ with_part p others) ≡ [] → ⊥
    by true e = cc
    by false e = cc

-- ---- what parts bring together

abbrev AllTyped : Option ValueType → List Val → Type 0
AllTyped t vs = EachOf (λ v. is_type t v ≡ true) vs

abbrev GatheredFits : Option ValueType → Gathered → Type 0
GatheredFits t (AllValues vs) = AllTyped t vs
GatheredFits t (FirstOther how) = HasNoValue how

gathered_in_fits : (t : Option ValueType) (how : Outcome) (others : Gathered) → is_brought t how ≡ true → GatheredFits t others → GatheredFits t (gathered_in how others)
gathered_in_fits t (outcome.Value v) (AllValues vs) e h = (e, h)
gathered_in_fits t (outcome.Value v) (FirstOther how) e h = h
gathered_in_fits t (outcome.Throws x) others e h = tt
gathered_in_fits t outcome.Limit others e h = tt

are_of : (s : ValueType) (vs : List Val) → AllTyped (Some s) vs → AreOf s vs
are_of s [] h = tt
are_of s (v ∷ vs) h = (same_is (type_of v) s h.0, are_of s vs h.1)

-- the collection of a merge method holds them
merge_holds : (o : Option VariableType) (t : Option ValueType) (v : Val) (vs : List Val) → in_variable member_type o ≡ t → AllTyped t (v ∷ vs) → HoldsIn o (v ∷ vs) (Some val.Unit)
merge_holds None t v vs e h = let none : None ≡ t = e in absurd (false≢true (ap (λ (p : Option ValueType). is_type p v) none ∙ h.0))
merge_holds (Some (One s)) t v vs e h = let none : None ≡ t = e in absurd (false≢true (ap (λ (p : Option ValueType). is_type p v) none ∙ h.0))
merge_holds (Some (Collection s)) t v vs e h = are_of (type_by s) (v ∷ vs) (subst (λ (p : Option ValueType). AllTyped p (v ∷ vs)) (sym e) h)

-- a part of a call for a join, which fits
abbrev IsOfJoin : ℕ → ℕ → Item → Type 0
IsOfJoin call t (item.Part c u w i s ws h) = (c ≡ call) × (u ≡ t)
IsOfJoin call t _ = ⊥

abbrev IsJoining : Graph → List ℕ → ℕ → ℕ → Item → Type 0
IsJoining graph widths call t x = (fits graph widths port.Join x ≡ true) × IsOfJoin call t x

of_one_join : (call t width instance turns : ℕ) (vs : List Val) (how : Outcome) (other : Item) → AreOfOneJoin (item.Part call t width instance turns vs how) other → IsOfJoin call t other
of_one_join call t width instance turns vs how (item.Part c u w i s ws h) k = (k.0, k.1)
of_one_join call t width instance turns vs how _ k = absurd k

join_parts : (graph : Graph) (widths : List ℕ) (call t width instance turns : ℕ) (vs : List Val) (how : Outcome) → fits graph widths port.Join (item.Part call t width instance turns vs how) ≡ true → joining graph t width instance turns vs how ≡ true
unfolding fits
join_parts graph widths call t width instance turns vs how e = e

brings_brought : (graph : Graph) (o : Option Task) (t : Task) (how : Outcome) → o ≡ Some t → brings graph o how ≡ true → is_brought (brought graph t) how ≡ true
brings_brought graph o t how is e = ap (λ (p : Option Task). brings graph p how) (sym is) ∙ e

module _ (graph : Graph) (verified : IsVerified graph) (widths : List ℕ) (are : AreWidths graph widths) where
  gathered_fits : (call k : ℕ) (t : Task) → slice_get graph.tasks k ≡ Some t → (ps : List Item) → EachOf (IsJoining graph widths call k) ps → GatheredFits (brought graph t) (gathered_of ps)
  gathered_fits call k t is [] h = tt
  gathered_fits call k t is (item.Part c u w i s ws how ∷ ps) h =
      let j = join_parts graph widths c u w i s ws how h.0.0 in
      let b = (both_true (takes graph kind.Join (slice_get graph.tasks u) s ws && is_instance w i) (brings graph (slice_get graph.tasks u) how) j).1 in
      gathered_in_fits (brought graph t) how (gathered_of ps) (brings_brought graph (slice_get graph.tasks u) t how (ap (λ (n : ℕ). slice_get graph.tasks n) h.0.1.1 ∙ is) b) (gathered_fits call k t is ps h.1)
  gathered_fits call k t is (_ ∷ ps) h = absurd h.0.1

  merges : (t : Task) (v : Val) (values : List Val) → AllTyped (brought graph t) (v ∷ values) → (c : ℕ) → TakesBrought graph t c → (of : GraphMethod) → IsMethod graph c of → of.kind ≡ method_kind.Merge → ArgsFit of (val.Unit ∷ []) (v ∷ values)
  merges t v values typed c takes_it of is is_kind =
      let same : takes_it.of ≡ of = some_is takes_it.of of (sym takes_it.is_method ∙ is) in
      let one : of.params ≡ 1 = subst (λ (o : GraphMethod). o.params ≡ 1) same takes_it.one in
      let members : in_variable member_type (slice_get of.vars 0) ≡ brought graph t = subst (λ (o : GraphMethod). in_variable member_type (slice_get o.vars 0) ≡ brought graph t) same takes_it.members in
      let held = merge_holds (slice_get of.vars 0) (brought graph t) v values members typed in
      record {
        no_entry = λ e. let q = sym e ∙ is_kind in absurd (cc);
        as_many = sym one;
        hold = λ w within. let first : 0 ≡ w = omega arith in subst (λ (n : ℕ). Holds of (v ∷ values) (first_variables of (val.Unit ∷ [])) n) first held;
      }

  module _ (call k width instance turns : ℕ) (vs : List Val) (how : Outcome) (parts : List Item) (pick : ℕ) (state : State) (it : Taking graph kind.Join (slice_get graph.tasks k) turns vs) where
    abbrev part : Item
    part = item.Part call k width instance turns vs how

    abbrev joins : Sender
    joins = sender graph widths pick call None

    -- with the turns and variables of the first part
    from_first : (first : ℕ) (ws : List Val) (g : Gathered) → turns_of part parts ≡ first → (its : Taking graph kind.Join (slice_get graph.tasks k) first ws) → GatheredFits (brought graph its.t) g
        → (g ≡ AllValues [] → ⊥) → GivesRight graph widths port.Join part parts state (joined_with joins k first ws g state)
    from_first first ws (FirstOther other) e its h some = (record { no_visit = tt; done = (refl, no_value_has (result_of (method_for graph part)) other h) }, refl)
    from_first first ws (AllValues []) e its h some = absurd (some refl)
    from_first first ws (AllValues (v ∷ values)) e its h some =
        let right = verified.tasks k its.t its.is in
        let no_field = (subst (λ (j : TaskKind). StandsRight graph k right.of its.t j) its.of_kind right.stands).1 in
        task_item graph verified widths are port.Join part parts k kind.Join None (v ∷ values) ws first pick call None state its (λ q. absurd (cc)) (λ q. merges its.t v values h)
        (record { of_call = refl; with_turns = e; runs_method = method_is graph verified widths are k kind.Join first ws its; for = (tt, λ q. let r = sym its.of_kind ∙ q in absurd (cc)) })
        (λ name own. absurd (none_some name (sym no_field ∙ own)))

    not_empty : (h : Outcome) (g : Gathered) → gathered_in h g ≡ AllValues [] → ⊥
    not_empty (outcome.Value v) (AllValues ws) e = cc
    not_empty (outcome.Value v) (FirstOther o) e = cc
    not_empty (outcome.Throws x) g e = cc
    not_empty outcome.Limit g e = cc

    from_parts : (ps : List Item) → with_part part parts ≡ ps → EachOf (IsJoining graph widths call k) ps → GivesRight graph widths port.Join part parts state (joined_from joins ps state)
    from_parts [] e h = absurd (with_part_some part parts e)
    from_parts (item.Part c u w i s ws o ∷ ps) e h =
        let j = join_parts graph widths c u w i s ws o h.0.0 in
        let a = (both_true (takes graph kind.Join (slice_get graph.tasks u) s ws && is_instance w i) (brings graph (slice_get graph.tasks u) o) j).0 in
        let b = (both_true (takes graph kind.Join (slice_get graph.tasks u) s ws) (is_instance w i) a).0 in
        let its = taking graph kind.Join (slice_get graph.tasks k) s ws (ap (λ (n : ℕ). takes graph kind.Join (slice_get graph.tasks n) s ws) (sym h.0.1.1) ∙ b) in
        subst (λ (n : ℕ). GivesRight graph widths port.Join part parts state (joined_with joins n s ws (gathered_of (item.Part c u w i s ws o ∷ ps)) state)) (sym h.0.1.1)
        (from_first s ws (gathered_of (item.Part c u w i s ws o ∷ ps)) (ap turns_of_first e) its (gathered_fits call k its.t its.is (item.Part c u w i s ws o ∷ ps) h) (not_empty o (gathered_of ps)))
    from_parts (_ ∷ ps) e h = absurd h.0.1

    at_join : EachOf (IsJoining graph widths call k) (with_part part parts) → GivesRight graph widths port.Join part parts state (joined joins width (with_part part parts) state)
    at_join h = by (nat_lt (length (with_part part parts)) width) refl
      where
        by : (b : Bool) → nat_lt (length (with_part part parts)) width ≡ b → GivesRight graph widths port.Join part parts state (cond b (Some (record { output = Wait; state = state })) (joined_from joins (with_part part parts) state))
        by true e = (ltb-true (length (with_part part parts)) width e, refl)
        by false e = from_parts (with_part part parts) refl h

  pub part_item : (call k width instance turns : ℕ) (vs : List Val) (how : Outcome) (parts : List Item) (pick : ℕ) (state : State) → fits graph widths port.Join (item.Part call k width instance turns vs how) ≡ true
      → ArePartsBeside graph widths (item.Part call k width instance turns vs how) parts
      → GivesRight graph widths port.Join (item.Part call k width instance turns vs how) parts state (joined (sender graph widths pick call None) width (with_part (item.Part call k width instance turns vs how) parts) state)
  part_item call k width instance turns vs how parts pick state e beside =
      let a = (both_true (takes graph kind.Join (slice_get graph.tasks k) turns vs && is_instance width instance) (brings graph (slice_get graph.tasks k) how) (join_parts graph widths call k width instance turns vs how e)).0 in
      let it = taking graph kind.Join (slice_get graph.tasks k) turns vs (both_true (takes graph kind.Join (slice_get graph.tasks k) turns vs) (is_instance width instance) a).0 in
      at_join call k width instance turns vs how parts pick state it
      (with_part_each (IsJoining graph widths call k) (item.Part call k width instance turns vs how) parts (e, (refl, refl))
      (each_of (IsJoining graph widths call k) parts (λ n other is. let b = beside n other is in (b.0, of_one_join call k width instance turns vs how other b.1))))
