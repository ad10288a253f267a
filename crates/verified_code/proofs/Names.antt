-- Every number in the code of a typed class names something.
use Rattle.std.proofs.Common.{◌≡◌, refl, sym, ap, subst, ◌∙◌, ℕ, suc, ◌<◌, Bool, true, false, List, [], ◌∷◌, length, drop, Option, Some, None, slice_get}
use Rattle.sdg_base.specs.Signatures.{Signature}
use Rattle.sdg_base.specs.declared.value_type.ValueType.{ValueType}
use Rattle.java_tree.specs.declared.tree.Class.{Class}
use Rattle.flat_code.specs.declared.graph.Flat.{Flat}
use Rattle.flat_code.specs.declared.graph.Graph.{Graph}
use Rattle.flat_code.specs.declared.graph.GraphField.{GraphField}
use Rattle.flat_code.specs.declared.graph.GraphMethod.{GraphMethod}
use Rattle.flat_code.specs.declared.graph.Instr.{Instr}
use Rattle.flat_code.specs.declared.graph.Instr.TheVariants as instr
use Rattle.flat_code.specs.declared.graph.MethodKind.TheVariants as method_kind
use Rattle.flat_code.specs.declared.graph.VariableType.{VariableType}
use Rattle.flat_code.specs.Types.{in_variable, one_type, member_type, type_of_variable, members_of_variable, field_named, signature_at}
use Rattle.flat_code.specs.Ways.{IsFirst, IsLater}
use Rattle.flat_code.specs.Verified.{Stack, IsMethod, NamesSomething, IsCutKind, IsPartKind, HasTask, pushing, if_type, if_members, stored_type, accessed_type}
use Rattle.access_blocks.specs.declared.body.Program.{Program}
use Rattle.body_code.specs.ClassCode.{code_of_class, graph_kind}
use Rattle.body_code.specs.Checking.{IsTyped}
use Rattle.live_vars.specs.Sets.{AreLiveSets}
use Rattle.task_cutter.specs.Tasks.{graph_of, first_field, is_visit, cut_kind, kind_by, is_partitioned}
use Rattle.task_cutter.specs.Numbers.{AreCutBehind}
use Rattle.verified_code.proofs.Typed.{none_some}
use Rattle.verified_code.proofs.Classes.{own}
use Rattle.verified_code.proofs.Bodies.{get_within}
use Rattle.verified_code.proofs.Clauses.{Lays, lays}
use Rattle.verified_code.proofs.Cutting.{tasks_are_cut}
use Rattle.verified_code.proofs.Counting.{cut_named, part_named}

held_within : (f : VariableType → Option ValueType) (vars : List VariableType) (v : ℕ) (t : ValueType) → in_variable f (slice_get vars v) ≡ Some t → v < length vars
held_within f vars v t e = by (slice_get vars v) refl e
  where
    by : (o : Option VariableType) → slice_get vars v ≡ o → in_variable f o ≡ Some t → v < length vars
    by None is e = absurd (none_some t e)
    by (Some x) is e = get_within vars v x is

pushed_some : (o : Option ValueType) (s : Option Stack) (after : Stack) → pushing o s ≡ Some after → (t : ValueType) × (o ≡ Some t)
pushed_some None s after e = absurd (none_some after e)
pushed_some (Some t) s after e = (t, refl)

stored_some : (o : Option ValueType) (s : Stack) (after : Stack) → stored_type o s ≡ Some after → (t : ValueType) × (o ≡ Some t)
stored_some None s after e = absurd (none_some after e)
stored_some (Some t) s after e = (t, refl)

typed_some : (o : Option ValueType) (t : ValueType) (s : Option Stack) (after : Stack) → if_type o t s ≡ Some after → (t : ValueType) × (o ≡ Some t)
typed_some None t s after e = absurd (none_some after e)
typed_some (Some u) t s after e = (u, refl)

members_some : (o : Option ValueType) (s : Option Stack) (after : Stack) → if_members o s ≡ Some after → (t : ValueType) × (o ≡ Some t)
members_some None s after e = absurd (none_some after e)
members_some (Some t) s after e = (t, refl)

accessed_some : (o : Option Signature) (s : Stack) (after : Stack) → accessed_type o s ≡ Some after → (t : Signature) × (o ≡ Some t)
accessed_some None s after e = absurd (none_some after e)
accessed_some (Some t) s after e = (t, refl)

kind_of_cut : (a b : Bool) → IsCutKind (kind_by a b)
kind_of_cut true b = tt
kind_of_cut false true = tt
kind_of_cut false false = tt

cut_is : (fields : List GraphField) (name : Option (List ℕ)) (visit : Bool) → IsCutKind (cut_kind fields name visit)
cut_is fields None visit = kind_of_cut false visit
cut_is fields (Some name) visit = kind_of_cut (is_partitioned (field_named name fields)) visit

module _ (class : Class) (program : Program) (live : List (List (List ℕ))) (typed : IsTyped class program) (sets : AreLiveSets (code_of_class class program).methods live) where
  abbrev flat : Flat
  flat = code_of_class class program

  abbrev graph : Graph
  graph = graph_of flat live

  abbrev behinds : AreCutBehind flat graph
  behinds = tasks_are_cut flat live sets

  cut_names : (n at t : ℕ) (m : GraphMethod) → IsMethod graph n m → m.kind ≡ method_kind.Entry → slice_get m.code at ≡ Some (instr.Cut t) → HasTask graph t IsCutKind
  cut_names n at t m is entry code =
      let c = behinds.cuts n at t m (record { is_method = is; is_entry = entry; is_code = code }) in
      let number = cut_named class program graph.tasks typed n at t m is entry code in
      record { of = c.of; is_task = ap (slice_get graph.tasks) number ∙ c.is_task; is_kind = subst IsCutKind (sym c.has_kind) (cut_is flat.fields (first_field (drop (suc at) m.code)) (is_visit (drop (suc at) m.code))) }

  part_names : (n at t : ℕ) (m : GraphMethod) → IsMethod graph n m → m.kind ≡ method_kind.Entry → slice_get m.code at ≡ Some (instr.Part t) → HasTask graph t IsPartKind
  part_names n at t m is entry code =
      let c = behinds.parts n at t m (record { is_method = is; is_entry = entry; is_code = code }) in
      let number = part_named class program graph.tasks typed n at t m is entry code in
      record { of = c.of; is_task = ap (slice_get graph.tasks) number ∙ c.is_task; is_kind = subst IsPartKind (sym c.has_kind) tt }

  module _ (n : ℕ) (m : GraphMethod) (is : IsMethod graph n m) (k : Lays class program graph.tasks typed n m) where
    abbrev body : GraphMethod
    body = own class program graph.tasks k.m k.b k.task

    variable_named : (v : ℕ) → (t : ValueType) × (type_of_variable body v ≡ Some t) → v < length body.vars
    variable_named v h = held_within one_type body.vars v h.0 h.1

    members_named : (v : ℕ) → (t : ValueType) × (members_of_variable body v ≡ Some t) → v < length body.vars
    members_named v h = held_within member_type body.vars v h.0 h.1

    whole_code : (at : ℕ) (i : Instr) → slice_get body.code at ≡ Some i → slice_get m.code at ≡ Some i
    whole_code at i e = ap (λ (z : GraphMethod). slice_get z.code at) (sym k.is) ∙ e

    entry_of : (at : ℕ) (i : Instr) (e : slice_get body.code at ≡ Some i) → graph_kind k.b.kind ≡ method_kind.Entry → m.kind ≡ method_kind.Entry
    entry_of at i e h = ap (λ (z : GraphMethod). z.kind) (sym k.is) ∙ h

    named : (at : ℕ) (i : Instr) → slice_get body.code at ≡ Some i → NamesSomething graph body i
    named at (instr.Load v) e = variable_named v (pushed_some (type_of_variable body v) _ _ (k.labels.right at (instr.Load v) e).takes)
    named at (instr.Store v) e = variable_named v (stored_some (type_of_variable body v) _ _ (k.labels.right at (instr.Store v) e).takes)
    named at (instr.Jump to) e = k.labels.inside at (instr.Jump to) to e (IsFirst [])
    named at (instr.IfFalse to) e = k.labels.inside at (instr.IfFalse to) to e (IsLater (suc at) (to ∷ []) (IsFirst []))
    named at (instr.VectorSize v) e = variable_named v (typed_some (type_of_variable body v) _ _ _ (k.labels.right at (instr.VectorSize v) e).takes)
    named at (instr.VectorGet v) e = variable_named v (typed_some (type_of_variable body v) _ _ _ (k.labels.right at (instr.VectorGet v) e).takes)
    named at (instr.VectorSet v) e = variable_named v (typed_some (type_of_variable body v) _ _ _ (k.labels.right at (instr.VectorSet v) e).takes)
    named at (instr.CollectionLength v) e = members_named v (members_some (members_of_variable body v) _ _ (k.labels.right at (instr.CollectionLength v) e).takes)
    named at (instr.CollectionItem v) e = members_named v (pushed_some (members_of_variable body v) _ _ (k.labels.right at (instr.CollectionItem v) e).takes)
    named at (instr.CollectionSize v) e = members_named v (typed_some (members_of_variable body v) _ _ _ (k.labels.right at (instr.CollectionSize v) e).takes)
    named at (instr.CollectionCheck v) e = members_named v (members_some (members_of_variable body v) _ _ (k.labels.right at (instr.CollectionCheck v) e).takes)
    named at (instr.CollectionGet v) e = members_named v (typed_some (members_of_variable body v) _ _ _ (k.labels.right at (instr.CollectionGet v) e).takes)
    named at (instr.Call x) e = (k.labels.right at (instr.Call x) e).own.helps
    named at (instr.Merge x) e = (k.labels.right at (instr.Merge x) e).own.merges
    named at (instr.Access name method) e =
        let h = accessed_some (signature_at graph.fields name method) _ _ (k.labels.right at (instr.Access name method) e).takes in record { of = h.0; is_signature = h.1 }
    named at (instr.Cut t) e = cut_names n at t m is (entry_of at (instr.Cut t) e (ap graph_kind ((k.labels.right at (instr.Cut t) e).kind.entry refl))) (whole_code at (instr.Cut t) e)
    named at (instr.Part t) e = part_names n at t m is (entry_of at (instr.Part t) e (ap graph_kind ((k.labels.right at (instr.Part t) e).kind.entry refl))) (whole_code at (instr.Part t) e)
    named at _ e = tt

    named_whole : (at : ℕ) (i : Instr) → slice_get m.code at ≡ Some i → NamesSomething graph m i
    named_whole at i = subst (λ (z : GraphMethod). slice_get z.code at ≡ Some i → NamesSomething graph z i) k.is (named at i)

  pub numbers : (n : ℕ) (m : GraphMethod) (at : ℕ) (i : Instr) → IsMethod graph n m → slice_get m.code at ≡ Some i → NamesSomething graph m i
  numbers n m at i is code = named_whole n m is (lays class program graph.tasks typed n m is) at i code
