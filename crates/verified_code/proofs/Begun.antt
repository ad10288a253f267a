-- What each task is, and what its cut begins: a block of the field that its first access is to, or a visit.
use Rattle.std.proofs.Common.{◌≡◌, refl, sym, ap, subst, ◌∙◌, ℕ, suc, ◌-◌, arith, Bool, true, false, List, [], drop, Option, Some, None, slice_get, ◌⊎◌, inl, inr}
use Rattle.std.specs.Prelude.{not}
use Rattle.java_tree.specs.declared.tree.Class.{Class}
use Rattle.flat_code.specs.declared.graph.FieldKind.{FieldKind}
use Rattle.flat_code.specs.declared.graph.FieldKind.TheVariants as field_kind
use Rattle.flat_code.specs.declared.graph.Flat.{Flat}
use Rattle.flat_code.specs.declared.graph.Graph.{Graph}
use Rattle.flat_code.specs.declared.graph.GraphField.{GraphField}
use Rattle.flat_code.specs.declared.graph.GraphMethod.{GraphMethod}
use Rattle.flat_code.specs.declared.graph.Instr.{Instr}
use Rattle.flat_code.specs.declared.graph.Instr.TheVariants as instr
use Rattle.flat_code.specs.declared.graph.MethodKind.TheVariants as method_kind
use Rattle.flat_code.specs.declared.graph.Task.{Task}
use Rattle.flat_code.specs.declared.graph.TaskKind.{TaskKind}
use Rattle.flat_code.specs.declared.graph.TaskKind.TheVariants as kind
use Rattle.flat_code.specs.Fits.{parameters}
use Rattle.flat_code.specs.Types.{field_named}
use Rattle.flat_code.specs.Ways.{IsFirst}
use Rattle.flat_code.specs.Verified.{IsTask, IsMethod, is_of_entry}
use Rattle.access_blocks.specs.declared.body.Holder.{Holder}
use Rattle.access_blocks.specs.declared.body.Program.{Program}
use Rattle.body_code.specs.StatementCode.{name_in}
use Rattle.body_code.specs.ClassCode.{code_of_class, graph_kind, kind_by}
use Rattle.body_code.specs.Checking.{IsTyped}
use Rattle.live_vars.specs.Sets.{AreLive, AreLiveSets}
use Rattle.task_cutter.specs.Tasks.{graph_of, first_field, is_visit, cut_kind, is_partitioned, is_partitioned_kind}
use Rattle.task_cutter.specs.Tasks as cutter
use Rattle.task_cutter.specs.Numbers.{number_behind, AreCutBehind}
use Rattle.verified_code.proofs.Labels.{KeyIs, AtCut, ToBlock, ToVisit}
use Rattle.verified_code.proofs.Classes.{setting, field_is}
use Rattle.verified_code.proofs.Bodies.{Labelled, at_first}
use Rattle.verified_code.proofs.Clauses.{Lays, lays}
use Rattle.verified_code.proofs.Cutting.{tasks_are_cut}
use Rattle.verified_code.proofs.Counting.{cut_named, part_named}
use Rattle.verified_code.proofs.Tasks.{Starts, BehindCut, BehindPart, task_is, same_task, same_method, labels_of}
use Rattle.verified_code.proofs.Ways.{VisitWay, visit_way}

-- the kind of the task of a block
abbrev pub block_kind : Bool → TaskKind
block_kind true = kind.Local
block_kind false = kind.Keyed

block_kind_is : (fields : List GraphField) (of : GraphField) (partial : Bool) → field_named of.name fields ≡ Some of → of.kind ≡ kind_by partial → cut_kind fields (Some of.name) false ≡ block_kind partial
block_kind_is fields of partial named is = ap (λ (o : Option GraphField). cutter.kind_by (is_partitioned o) false) named ∙ ap (λ (k : FieldKind). cutter.kind_by (is_partitioned_kind k) false) is ∙ by partial
  where
    by : (b : Bool) → cutter.kind_by (is_partitioned_kind (kind_by b)) false ≡ block_kind b
    by true = refl
    by false = refl

visit_kind_is : (fields : List GraphField) (name : List ℕ) (of : GraphField) → field_named name fields ≡ Some of → of.kind ≡ field_kind.Partial → cut_kind fields (Some name) true ≡ kind.Visit
visit_kind_is fields name of named is = ap (λ (o : Option GraphField). cutter.kind_by (is_partitioned o) true) named ∙ ap (λ (k : FieldKind). cutter.kind_by (is_partitioned_kind k) true) is

module _ (class : Class) (program : Program) (live : List (List (List ℕ))) (typed : IsTyped class program) (sets : AreLiveSets (code_of_class class program).methods live) where
  abbrev flat : Flat
  flat = code_of_class class program

  abbrev graph : Graph
  graph = graph_of flat live

  abbrev behinds : AreCutBehind flat graph
  behinds = tasks_are_cut flat live sets

  abbrev pub Own : (n : ℕ) (m : GraphMethod) → Type 0
  Own n m = Lays class program graph.tasks typed n m

  abbrev pub of_own : (n : ℕ) (m : GraphMethod) (k : Own n m) → Labelled (setting class program graph.tasks k.m k.b k.task) (at_first k.b) m.code
  of_own n m k = labels_of class program live typed sets n m k

  pub entry_of : (n : ℕ) (m : GraphMethod) → IsMethod graph n m → (at : ℕ) (i : Instr) → slice_get m.code at ≡ Some i → is_of_entry i ≡ true → m.kind ≡ method_kind.Entry
  entry_of n m is at i code h = (let k = lays class program graph.tasks typed n m is in ap (λ (z : GraphMethod). z.kind) (sym k.is) ∙ ap graph_kind (((of_own n m k).right at i code).kind.entry h))

  -- ---- the tasks behind cuts and parts

  pub record CutIs (n : ℕ) (m : GraphMethod) (at names : ℕ) (t : Task) : Type 0 where
    pub is_task : IsTask graph names t
    pub in_method : t.method ≡ n
    pub behind : t.at ≡ suc at
    pub has_kind : t.kind ≡ cut_kind flat.fields (first_field (drop (suc at) m.code)) (is_visit (drop (suc at) m.code))
    pub has_field : t.field ≡ first_field (drop (suc at) m.code)
    pub vars : AreLive m.code (suc at) t.vars

  pub record PartIs (n : ℕ) (m : GraphMethod) (at names : ℕ) (t : Task) : Type 0 where
    pub is_task : IsTask graph names t
    pub in_method : t.method ≡ n
    pub behind : t.at ≡ suc at
    pub has_kind : t.kind ≡ kind.Join
    pub has_field : t.field ≡ None
    pub vars : AreLive m.code (suc at) t.vars

  pub cut_is : (n at names : ℕ) (m : GraphMethod) → IsMethod graph n m → slice_get m.code at ≡ Some (instr.Cut names) → (t : Task) × CutIs n m at names t
  cut_is n at names m is code =
      let entry = entry_of n m is at (instr.Cut names) code refl in
      let c = behinds.cuts n at names m (record { is_method = is; is_entry = entry; is_code = code }) in
      let number = cut_named class program graph.tasks typed n at names m is entry code in
      (c.of, record { is_task = ap (slice_get graph.tasks) number ∙ c.is_task; in_method = c.in_method; behind = c.right_behind; has_kind = c.has_kind; has_field = c.has_field; vars = c.variables })

  pub part_is : (n at names : ℕ) (m : GraphMethod) → IsMethod graph n m → slice_get m.code at ≡ Some (instr.Part names) → (t : Task) × PartIs n m at names t
  part_is n at names m is code =
      let entry = entry_of n m is at (instr.Part names) code refl in
      let c = behinds.parts n at names m (record { is_method = is; is_entry = entry; is_code = code }) in
      let number = part_named class program graph.tasks typed n at names m is entry code in
      (c.of, record { is_task = ap (slice_get graph.tasks) number ∙ c.is_task; in_method = c.in_method; behind = c.right_behind; has_kind = c.has_kind; has_field = c.has_field; vars = c.variables })

  pub task_method : (k : ℕ) (t : Task) → IsTask graph k t → (m : GraphMethod) × IsMethod graph t.method m
  task_method k t is_task =
      elim (task_is class program live typed sets k t is_task) [
        | Starts n x is_x number in_method at_first starting vars entry no_field ↦ (x, ap (slice_get graph.methods) in_method ∙ is_x)
        | BehindCut n at u x is_x code number in_method behind other vars ↦ (x, ap (slice_get graph.methods) in_method ∙ is_x)
        | BehindPart n at u x is_x code number in_method behind joins vars ↦ (x, ap (slice_get graph.methods) in_method ∙ is_x)
      ]

  pub data TaskOf (k : ℕ) (t : Task) (m : GraphMethod) : Type 0 where
    OfStart : m.kind ≡ method_kind.Entry → t.at ≡ 0 → t.kind ≡ kind.Start → t.field ≡ None → t.vars ≡ parameters m → TaskOf k t m
    OfCut : (at : ℕ) → slice_get m.code at ≡ Some (instr.Cut k) → CutIs t.method m at k t → TaskOf k t m
    OfPart : (at : ℕ) → slice_get m.code at ≡ Some (instr.Part k) → PartIs t.method m at k t → TaskOf k t m

  pub task_of : (k : ℕ) (t : Task) (m : GraphMethod) → IsTask graph k t → IsMethod graph t.method m → TaskOf k t m
  task_of k t m is_task is =
      elim (task_is class program live typed sets k t is_task) [
        | Starts n x is_x number in_method at_first starting vars entry no_field ↦ OfStart (ap (λ (z : GraphMethod). z.kind) (sym (same n x is_x in_method)) ∙ entry) at_first starting no_field (vars ∙ ap parameters (same n x is_x in_method))
        | BehindCut n at u x is_x code number in_method behind other vars ↦ cutting n at u x is_x code number in_method
        | BehindPart n at u x is_x code number in_method behind joins vars ↦ joining n at u x is_x code number in_method
      ]
    where
      same : (n : ℕ) (x : GraphMethod) → IsMethod graph n x → t.method ≡ n → x ≡ m
      same n x is_x in_method = same_method class program live typed sets t.method m x is (ap (slice_get graph.methods) in_method ∙ is_x)

      cutting : (n at u : ℕ) (x : GraphMethod) → IsMethod graph n x → slice_get x.code at ≡ Some (instr.Cut u) → k ≡ number_behind flat.methods n x at → t.method ≡ n → TaskOf k t m
      cutting n at u x is_x code number in_method =
          let c = cut_is n at u x is_x code in
          let named : u ≡ k = cut_named class program graph.tasks typed n at u x is_x (entry_of n x is_x at (instr.Cut u) code refl) code ∙ sym number in
          let its : c.0 ≡ t = same_task class program live typed sets k u t c.0 is_task (sym named) c.1.is_task in
          let of_x : slice_get m.code at ≡ Some (instr.Cut k) = ap (λ (z : GraphMethod). slice_get z.code at) (sym (same n x is_x in_method)) ∙ code ∙ ap (λ (j : ℕ). Some (instr.Cut j)) named in
          OfCut at of_x (subst (λ (z : GraphMethod). CutIs t.method z at k t) (same n x is_x in_method) (subst (λ (j : ℕ). CutIs j x at k t) (sym in_method) (subst (λ (j : ℕ). CutIs n x at j t) named (subst (λ (z : Task). CutIs n x at u z) its c.1))))

      joining : (n at u : ℕ) (x : GraphMethod) → IsMethod graph n x → slice_get x.code at ≡ Some (instr.Part u) → k ≡ number_behind flat.methods n x at → t.method ≡ n → TaskOf k t m
      joining n at u x is_x code number in_method =
          let c = part_is n at u x is_x code in
          let named : u ≡ k = part_named class program graph.tasks typed n at u x is_x (entry_of n x is_x at (instr.Part u) code refl) code ∙ sym number in
          let its : c.0 ≡ t = same_task class program live typed sets k u t c.0 is_task (sym named) c.1.is_task in
          let of_x : slice_get m.code at ≡ Some (instr.Part k) = ap (λ (z : GraphMethod). slice_get z.code at) (sym (same n x is_x in_method)) ∙ code ∙ ap (λ (j : ℕ). Some (instr.Part j)) named in
          OfPart at of_x (subst (λ (z : GraphMethod). PartIs t.method z at k t) (same n x is_x in_method) (subst (λ (j : ℕ). PartIs j x at k t) (sym in_method) (subst (λ (j : ℕ). PartIs n x at j t) named (subst (λ (z : Task). PartIs n x at u z) its c.1))))

  -- ---- what a cut begins

  pub record BlockAt (n : ℕ) (m : GraphMethod) (k : Own n m) (at : ℕ) (t : Task) : Type 0 where
    pub field : ℕ
    pub holder : Holder
    pub is_field : slice_get program.fields field ≡ Some holder
    pub of : GraphField
    pub its : slice_get flat.fields field ≡ Some of
    pub named : field_named of.name flat.fields ≡ Some of
    pub kind_is : of.kind ≡ kind_by holder.is_partial
    pub has_field : t.field ≡ Some of.name
    pub has_kind : t.kind ≡ block_kind holder.is_partial
    pub key : KeyIs (not holder.is_partial) ((of_own n m k).lab at).stack
    pub plain : ((of_own n m k).lab (suc at)).visit ≡ None
    pub standing : (((of_own n m k).lab (suc at)).standing.field ≡ None) ⊎ (((of_own n m k).lab (suc at)).standing.field ≡ Some field)
    pub gathered : ((of_own n m k).lab (suc at)).standing.gathered ≡ None

  pub record VisitAt (n : ℕ) (m : GraphMethod) (k : Own n m) (at : ℕ) (t : Task) : Type 0 where
    pub part : ℕ
    pub way : VisitWay (setting class program graph.tasks k.m k.b k.task) (at_first k.b) m.code (of_own n m k) (suc at) part
    pub of : GraphField
    pub named : field_named way.name flat.fields ≡ Some of
    pub partial : of.kind ≡ field_kind.Partial
    pub has_field : t.field ≡ Some way.name
    pub has_kind : t.kind ≡ kind.Visit
    pub empty : ((of_own n m k).lab at).stack ≡ []
    pub visit : ((of_own n m k).lab (suc at)).visit ≡ Some part
    pub no_field : ((of_own n m k).lab (suc at)).standing.field ≡ None
    pub gathered : ((of_own n m k).lab (suc at)).standing.gathered ≡ None

  pub cut_begins : (n at names : ℕ) (m : GraphMethod) (k : Own n m) (t : Task) → slice_get m.code at ≡ Some (instr.Cut names) → CutIs n m at names t → BlockAt n m k at t ⊎ VisitAt n m k at t
  cut_begins n at names m k t is c = by ((of_own n m k).right at (instr.Cut names) is).own.to
    where
      by : AtCut (setting class program graph.tasks k.m k.b k.task) (of_own n m k).lab at → BlockAt n m k at t ⊎ VisitAt n m k at t
      by (ToBlock f h is_field key plain standing gathered first straight) =
          let x = field_is class program graph.tasks typed f h is_field in
          let here : first_field (drop (suc at) m.code) ≡ Some x.field.name = ap (λ (z : GraphMethod). first_field (drop (suc at) z.code)) (sym k.is) ∙ first ∙ ap (λ (o : Option GraphField). Some (name_in o)) x.is in
          let no_visit : is_visit (drop (suc at) m.code) ≡ false = ap (λ (z : GraphMethod). is_visit (drop (suc at) z.code)) (sym k.is) ∙ straight in
          inl (record {
            field = f;
            holder = h;
            is_field = is_field;
            of = x.field;
            its = x.is;
            named = x.named;
            kind_is = x.kind_is;
            has_field = c.has_field ∙ here;
            has_kind = c.has_kind ∙ ap (λ (o : Option (List ℕ)). cut_kind flat.fields o (is_visit (drop (suc at) m.code))) here ∙ ap (λ (b : Bool). cut_kind flat.fields (Some x.field.name) b) no_visit
                ∙ block_kind_is flat.fields x.field h.is_partial x.named x.kind_is;
            key = key;
            plain = plain;
            standing = standing;
            gathered = gathered;
          })
      by (ToVisit f part h is_field partial stack visit less no_field gathered) =
          let l = of_own n m k in
          let within = l.inside at (instr.Cut names) (suc at) is (IsFirst []) in
          let way = visit_way (setting class program graph.tasks k.m k.b k.task) (at_first k.b) m.code l (part - suc (suc at)) (suc at) part (omega (arith, less)) visit within in
          let x = field_is class program graph.tasks typed way.field way.holder way.is_field in
          let same : way.name ≡ x.field.name = way.is_name ∙ ap name_in x.is in
          let named : field_named way.name flat.fields ≡ Some x.field = ap (λ (name : List ℕ). field_named name flat.fields) same ∙ x.named in
          let is_partial : x.field.kind ≡ field_kind.Partial = x.kind_is ∙ ap kind_by way.partial in
          inr (record {
            part = part;
            way = way;
            of = x.field;
            named = named;
            partial = is_partial;
            has_field = c.has_field ∙ way.first_access;
            has_kind = c.has_kind ∙ ap (λ (o : Option (List ℕ)). cut_kind flat.fields o (is_visit (drop (suc at) m.code))) way.first_access ∙ ap (λ (b : Bool). cut_kind flat.fields (Some way.name) b) way.visits
                ∙ visit_kind_is flat.fields way.name x.field named is_partial;
            empty = stack;
            visit = visit;
            no_field = no_field;
            gathered = gathered;
          })
