-- Each instruction that a task comes to suits the task, and a visit comes to one part.
use Rattle.std.proofs.Common.{◌≡◌, ◌≢◌, refl, sym, ap, subst, ◌∙◌, ℕ, suc, arith, Bool, true, false, not, List, [], ◌∷◌, drop, Option, Some, None, slice_get, ◌⊎◌, inl, inr}
use Rattle.std.proofs.lemmas.Bool.{false≢true}
use Rattle.sdg_base.specs.declared.value_type.ValueType.{ValueType}
use Rattle.state_classes.specs.declared.method.Method.{Method}
use Rattle.java_tree.specs.declared.tree.Class.{Class}
use Rattle.java_tree.specs.declared.method_kinds.MethodKind.{MethodKind}
use Rattle.java_tree.specs.declared.method_kinds.MethodKind.TheVariants as source_kind
use Rattle.java_tree.specs.declared.types.ValueType.{ValueType as VariableType}
use Rattle.flat_code.specs.declared.graph.Flat.{Flat}
use Rattle.flat_code.specs.declared.graph.Graph.{Graph}
use Rattle.flat_code.specs.declared.graph.GraphField.{GraphField}
use Rattle.flat_code.specs.declared.graph.GraphMethod.{GraphMethod}
use Rattle.flat_code.specs.declared.graph.Instr.{Instr}
use Rattle.flat_code.specs.declared.graph.Instr.TheVariants as instr
use Rattle.flat_code.specs.declared.graph.Task.{Task}
use Rattle.flat_code.specs.declared.graph.TaskKind.TheVariants as kind
use Rattle.flat_code.specs.Fits.{brought}
use Rattle.flat_code.specs.Items.{first_part}
use Rattle.flat_code.specs.Ways.{Reaches}
use Rattle.flat_code.specs.Verified.{IsTask, IsMethod, ReachesCode, TakesBrought, IsOfTask, HasPart}
use Rattle.access_blocks.specs.declared.body.Holder.{Holder}
use Rattle.access_blocks.specs.declared.body.Program.{Program}
use Rattle.access_blocks.specs.Programs.{methods_in}
use Rattle.body_code.specs.declared.callee.Callee.{Callee}
use Rattle.body_code.specs.StatementCode.{name_in}
use Rattle.body_code.specs.ClassCode.{code_of_class, taken_types, members_of, first_type}
use Rattle.body_code.specs.Typing as typing
use Rattle.body_code.specs.Checking as checking
use Rattle.body_code.specs.Checking.{has_key, takes_gathered, takes_values, is_merge_of, IsOne, IsTyped}
use Rattle.live_vars.specs.Sets.{AreLiveSets}
use Rattle.task_cutter.specs.Tasks.{graph_of}
use Rattle.verified_code.proofs.Labels.{Setting, AtAccess, InBlock, InVisit, Right}
use Rattle.verified_code.proofs.Typed.{none_some, some_is, same_are}
use Rattle.verified_code.proofs.Classes.{fields, cs, own, setting, whole, first_task, callee_at, method_at}
use Rattle.verified_code.proofs.Bodies.{Labelled, at_first}
use Rattle.verified_code.proofs.Clauses.{lays}
use Rattle.verified_code.proofs.Tasks.{same_method}
use Rattle.verified_code.proofs.Ways.{same_visit, field_before, gathered_before, part_behind}
use Rattle.verified_code.proofs.Begun.{Own, of_own, CutIs, PartIs, OfStart, OfCut, OfPart, task_method, task_of, BlockAt, VisitAt, cut_begins, block_kind}
use Rattle.verified_code.proofs.Stacks.{brought_is}

either_none : {A : Type 0} (o : Option A) (a : A) → (o ≡ None) ⊎ (o ≡ None) → o ≡ Some a → ⊥
either_none o a (inl e) is = none_some a (sym e ∙ is)
either_none o a (inr e) is = none_some a (sym e ∙ is)

either_same : {A : Type 0} (o : Option A) (a b : A) → (o ≡ None) ⊎ (o ≡ Some b) → o ≡ Some a → b ≡ a
either_same o a b (inl e) is = absurd (none_some a (sym e ∙ is))
either_same o a b (inr e) is = some_is b a (sym e ∙ is)

no_block_visit : (partial : Bool) → block_kind partial ≢ kind.Visit
no_block_visit true e = absurd (cc)
no_block_visit false e = absurd (cc)

keyed_block : (partial : Bool) → not partial ≡ true → block_kind partial ≡ kind.Keyed
keyed_block true e = absurd (false≢true e)
keyed_block false e = refl

-- a method that merges values of a type
merging : (k : MethodKind) (arity : ℕ) (vs : List VariableType) (t : ValueType) → IsOne k arity → is_merge_of t k (taken_types arity vs) ≡ true → (arity ≡ 1) × (members_of k vs ≡ Some t)
merging source_kind.Entry arity vs t one e = absurd (false≢true e)
merging source_kind.Helper arity vs t one e = absurd (false≢true e)
merging source_kind.Merge arity vs t one e = (one, first vs (subst (λ (n : ℕ). taken_types n vs ≡ t ∷ []) one (same_are (taken_types arity vs) (t ∷ []) e)))
  where
    first : (vs : List VariableType) → taken_types 1 vs ≡ t ∷ [] → first_type vs ≡ Some t
    first [] e = absurd (cc)
    first (v ∷ vs) e = (let same : typing.type_by v ≡ t = cc in ap Some same)

module _ (class : Class) (program : Program) (live : List (List (List ℕ))) (typed : IsTyped class program) (sets : AreLiveSets (code_of_class class program).methods live) where
  abbrev flat : Flat
  flat = code_of_class class program

  abbrev graph : Graph
  graph = graph_of flat live

  -- what a task's label says of the task, where it begins
  record Says (n : ℕ) (m : GraphMethod) (k : Own class program live typed sets n m) (t : Task) : Type 0 where
    field : (f : ℕ) → ((of_own class program live typed sets n m k).lab t.at).standing.field ≡ Some f → t.field ≡ Some (name_in (slice_get flat.fields f))
    keyed : (f : ℕ) → ((of_own class program live typed sets n m k).lab t.at).standing.field ≡ Some f → has_key (setting class program graph.tasks k.m k.b k.task).around (Some f) ≡ true → t.kind ≡ kind.Keyed
    gathered : (u : ValueType) → ((of_own class program live typed sets n m k).lab t.at).standing.gathered ≡ Some u → (t.kind ≡ kind.Join) × (brought graph t ≡ Some u)
    visit : (part : ℕ) → ((of_own class program live typed sets n m k).lab t.at).visit ≡ Some part → t.kind ≡ kind.Visit
    visited : (part before : ℕ) (name : List ℕ) (method : Method) → ((of_own class program live typed sets n m k).lab t.at).visit ≡ Some part → part ≡ suc before → slice_get m.code before ≡ Some (instr.Access name method) → t.field ≡ Some name
    plain : ((of_own class program live typed sets n m k).lab t.at).visit ≡ None → t.kind ≢ kind.Visit

  module _ (n : ℕ) (m : GraphMethod) (is : IsMethod graph n m) (k : Own class program live typed sets n m) (q : ℕ) (t : Task) (is_task : IsTask graph q t) (in_method : t.method ≡ n) where
    abbrev s : Setting
    s = setting class program graph.tasks k.m k.b k.task

    abbrev l : Labelled s (at_first k.b) m.code
    l = of_own class program live typed sets n m k

    start_says : t.at ≡ 0 → t.kind ≡ kind.Start → Says n m k t
    start_says first starting =
        let stays = l.first_is.stays in
        let field : ((l.lab t.at).standing.field ≡ None) ⊎ ((l.lab t.at).standing.field ≡ None) = subst (λ (a : ℕ). ((l.lab a).standing.field ≡ None) ⊎ ((l.lab a).standing.field ≡ None)) (sym first) stays.field in
        let gathered : ((l.lab t.at).standing.gathered ≡ None) ⊎ ((l.lab t.at).standing.gathered ≡ None) = subst (λ (a : ℕ). ((l.lab a).standing.gathered ≡ None) ⊎ ((l.lab a).standing.gathered ≡ None)) (sym first) stays.gathered in
        let visit : (l.lab t.at).visit ≡ None = subst (λ (a : ℕ). (l.lab a).visit ≡ None) (sym first) stays.visit in
        record {
          field = λ f e. absurd (either_none (l.lab t.at).standing.field f field e);
          keyed = λ f e h. absurd (either_none (l.lab t.at).standing.field f field e);
          gathered = λ u e. absurd (either_none (l.lab t.at).standing.gathered u gathered e);
          visit = λ part e. absurd (none_some part (sym visit ∙ e));
          visited = λ part before name method e. absurd (none_some part (sym visit ∙ e));
          plain = λ e visiting. (let same : kind.Start ≡ kind.Visit = sym starting ∙ visiting in cc);
        }

    part_says : (at : ℕ) → slice_get m.code at ≡ Some (instr.Part q) → PartIs class program live typed sets t.method m at q t → Says n m k t
    part_says at code c =
        let own = (l.right at (instr.Part q) code).own in
        let b = part_behind s (at_first k.b) m.code l at q code in
        let here = sym c.behind in
        let no_field : (l.lab t.at).standing.field ≡ None = subst (λ (a : ℕ). (l.lab a).standing.field ≡ None) here own.no_field in
        let gathered : ((l.lab t.at).standing.gathered ≡ None) ⊎ ((l.lab t.at).standing.gathered ≡ Some b.sig.result) = subst (λ (a : ℕ). ((l.lab a).standing.gathered ≡ None) ⊎ ((l.lab a).standing.gathered ≡ Some b.sig.result)) here b.gathered in
        let visit : (l.lab t.at).visit ≡ None = subst (λ (a : ℕ). (l.lab a).visit ≡ None) here own.plain in
        record {
          field = λ f e. absurd (none_some f (sym no_field ∙ e));
          keyed = λ f e h. absurd (none_some f (sym no_field ∙ e));
          gathered = λ u e. (c.has_kind, brought_is class program live typed sets n at q m k t is in_method c.behind b ∙ ap Some (either_same (l.lab t.at).standing.gathered u b.sig.result gathered e));
          visit = λ part e. absurd (none_some part (sym visit ∙ e));
          visited = λ part before name method e. absurd (none_some part (sym visit ∙ e));
          plain = λ e visiting. (let same : kind.Join ≡ kind.Visit = sym c.has_kind ∙ visiting in cc);
        }

    block_says : (at : ℕ) → t.at ≡ suc at → BlockAt class program live typed sets n m k at t → Says n m k t
    block_says at behind b =
        let here = sym behind in
        let field : ((l.lab t.at).standing.field ≡ None) ⊎ ((l.lab t.at).standing.field ≡ Some b.field) = subst (λ (a : ℕ). ((l.lab a).standing.field ≡ None) ⊎ ((l.lab a).standing.field ≡ Some b.field)) here b.standing in
        let no_gathered : (l.lab t.at).standing.gathered ≡ None = subst (λ (a : ℕ). (l.lab a).standing.gathered ≡ None) here b.gathered in
        let visit : (l.lab t.at).visit ≡ None = subst (λ (a : ℕ). (l.lab a).visit ≡ None) here b.plain in
        record {
          field = λ f e. b.has_field ∙ ap (λ (o : Option GraphField). Some (name_in o)) (sym b.its) ∙ ap (λ (j : ℕ). Some (name_in (slice_get flat.fields j))) (either_same (l.lab t.at).standing.field f b.field field e);
          keyed = λ f e h.
              (let same : b.field ≡ f = either_same (l.lab t.at).standing.field f b.field field e in
              let keyed : has_key s.around (Some b.field) ≡ true = subst (λ (j : ℕ). has_key s.around (Some j) ≡ true) (sym same) h in
              let partitioned : not b.holder.is_partial ≡ true = subst (λ (o : Option Holder). checking.is_partitioned o ≡ true) b.is_field keyed in
              b.has_kind ∙ keyed_block b.holder.is_partial partitioned);
          gathered = λ u e. absurd (none_some u (sym no_gathered ∙ e));
          visit = λ part e. absurd (none_some part (sym visit ∙ e));
          visited = λ part before name method e. absurd (none_some part (sym visit ∙ e));
          plain = λ e visiting. no_block_visit b.holder.is_partial (sym b.has_kind ∙ visiting);
        }

    visit_says : (at : ℕ) → t.at ≡ suc at → VisitAt class program live typed sets n m k at t → Says n m k t
    visit_says at behind v =
        let here = sym behind in
        let no_field : (l.lab t.at).standing.field ≡ None = subst (λ (a : ℕ). (l.lab a).standing.field ≡ None) here v.no_field in
        let no_gathered : (l.lab t.at).standing.gathered ≡ None = subst (λ (a : ℕ). (l.lab a).standing.gathered ≡ None) here v.gathered in
        let visit : (l.lab t.at).visit ≡ Some v.part = subst (λ (a : ℕ). (l.lab a).visit ≡ Some v.part) here v.visit in
        record {
          field = λ f e. absurd (none_some f (sym no_field ∙ e));
          keyed = λ f e h. absurd (none_some f (sym no_field ∙ e));
          gathered = λ u e. absurd (none_some u (sym no_gathered ∙ e));
          visit = λ part e. v.has_kind;
          visited = λ part before name method e place code.
              (let same : v.part ≡ part = some_is v.part part (sym visit ∙ e) in
              let its = v.way.place in
              let there : v.way.before ≡ before = omega (arith, same, its, place) in
              let both : Some (instr.Access v.way.name v.way.method) ≡ Some (instr.Access name method) = sym v.way.access ∙ ap (slice_get m.code) there ∙ code in
              let name_is : v.way.name ≡ name = cc in
              v.has_field ∙ ap Some name_is);
          plain = λ e visiting. none_some v.part (sym e ∙ visit);
        }

    says : Says n m k t
    says =
        elim (task_of class program live typed sets q t m is_task (ap (slice_get graph.methods) in_method ∙ is)) [
          | OfStart entry first starting field vars ↦ start_says first starting
          | OfPart at code c ↦ part_says at code c
          | OfCut at code c ↦
              elim (cut_begins class program live typed sets n at q m k t code (subst (λ (j : ℕ). CutIs class program live typed sets j m at q t) in_method c)) [
                | inl b ↦ block_says at c.behind b
                | inr v ↦ visit_says at c.behind v
              ]
        ]

    takes_brought : (x : ℕ) (u : ValueType) → takes_values (slice_get (cs class program graph.tasks) x) u ≡ true → brought graph t ≡ Some u → TakesBrought graph t x
    takes_brought x u e bring = by (slice_get (cs class program graph.tasks) x) refl e
      where
        by : (o : Option Callee) → slice_get (cs class program graph.tasks) x ≡ o → takes_values o u ≡ true → TakesBrought graph t x
        by None is_callee h = absurd (false≢true h)
        by (Some c) is_callee h =
            let callee = callee_at (methods_in class.members) program.methods x c is_callee in
            let task = first_task (fields class program graph.tasks) (cs class program graph.tasks) (methods_in class.members) program.methods 0 x in
            let body = typed.bodies x callee.m callee.b callee.is_m callee.is_b in
            let merges : is_merge_of u callee.b.kind (taken_types callee.b.arity callee.b.variables) ≡ true = subst (λ (z : Callee). is_merge_of u z.kind z.params ≡ true) (sym callee.is) h in
            let members = merging callee.b.kind callee.b.arity callee.b.variables u body.one merges in
            record {
              of = own class program graph.tasks callee.m callee.b task;
              is_method = method_at (fields class program graph.tasks) (cs class program graph.tasks) (methods_in class.members) program.methods 0 x callee.m callee.b callee.is_m callee.is_b;
              one = members.0;
              members = (whole class program graph.tasks typed callee.m callee.b task).fit.members u members.1 ∙ sym bring;
            }

    key_field : (at : ℕ) → Reaches m.code t.at at → (o : Option ℕ) → (l.lab at).standing.field ≡ o → has_key s.around o ≡ true → t.kind ≡ kind.Keyed
    key_field at way None e h = absurd (false≢true h)
    key_field at way (Some f) e h = says.keyed f (field_before s (at_first k.b) m.code l t.at at f way e) h

    merge_of : (at x : ℕ) → Reaches m.code t.at at → (o : Option ValueType) → (l.lab at).standing.gathered ≡ o → takes_gathered s.around o x ≡ true → (t.kind ≡ kind.Join) × TakesBrought graph t x
    merge_of at x way None e h = absurd (false≢true h)
    merge_of at x way (Some u) e h = (let g = says.gathered u (gathered_before s (at_first k.b) m.code l t.at at u way e) in (g.0, takes_brought x u h g.1))

    visit_there : (at : ℕ) → Reaches m.code t.at at → (o : Option ℕ) → (l.lab at).visit ≡ o → (l.lab t.at).visit ≡ o
    visit_there at way o e = same_visit s (at_first k.b) m.code l t.at at way ∙ e

    of_task : (at : ℕ) (i : Instr) → Reaches m.code t.at at → slice_get m.code at ≡ Some i → Right s l.lab at i → IsOfTask graph t i
    of_task at (instr.Access name method) way code r = by r.own
      where
        by : AtAccess s l.lab at name method → t.field ≡ Some name
        by (InBlock f plain here is_name) = says.field f (field_before s (at_first k.b) m.code l t.at at f way here) ∙ ap Some (sym is_name)
        by (InVisit f h sig is_field partial visit is_name a b c) = says.visited (suc at) at name method (visit_there at way (Some (suc at)) visit) refl code
    of_task at instr.Key way code r = key_field at way (l.lab at).standing.field refl r.own.keyed
    of_task at (instr.Merge x) way code r = merge_of at x way (l.lab at).standing.gathered refl r.own.gathered
    of_task at (instr.Part x) way code r = says.visit at (visit_there at way (Some at) r.own.visit)
    of_task at (instr.Cut x) way code r = says.plain (visit_there at way None r.own.plain)
    of_task at instr.Return way code r = says.plain (visit_there at way None r.own)
    of_task at instr.ReturnVoid way code r = says.plain (visit_there at way None r.own)
    of_task at _ way code r = tt

  pub in_tasks : (q : ℕ) (t : Task) (at : ℕ) (i : Instr) → IsTask graph q t → ReachesCode graph t at i → IsOfTask graph t i
  in_tasks q t at i is_task way =
      let k = lays class program graph.tasks typed t.method way.of way.is_method in
      of_task t.method way.of way.is_method k q t is_task refl at i way.reaches way.is_code ((of_own class program live typed sets t.method way.of k).right at i way.is_code)

  -- ---- the part of a visit

  pub parts : (q : ℕ) (t : Task) → IsTask graph q t → t.kind ≡ kind.Visit → HasPart graph t
  parts q t is_task visiting =
      let f = task_method class program live typed sets q t is_task in
      let m = f.0 in
      let k = lays class program graph.tasks typed t.method m f.1 in
      elim (task_of class program live typed sets q t m is_task f.1) [
        | OfStart entry first starting field vars ↦ absurd (let same : kind.Start ≡ kind.Visit = sym starting ∙ visiting in cc)
        | OfPart at code c ↦ absurd (let same : kind.Join ≡ kind.Visit = sym c.has_kind ∙ visiting in cc)
        | OfCut at code c ↦
            elim (cut_begins class program live typed sets t.method at q m k t code c) [
              | inl b ↦ absurd (no_block_visit b.holder.is_partial (sym b.has_kind ∙ visiting))
              | inr v ↦ part_of q t m f.1 k at c.behind v
            ]
      ]
    where
      part_of : (q : ℕ) (t : Task) (m : GraphMethod) (is : IsMethod graph t.method m) (k : Own class program live typed sets t.method m) (at : ℕ) → t.at ≡ suc at → VisitAt class program live typed sets t.method m k at t → HasPart graph t
      part_of q t m is k at behind v =
          let l = of_own class program live typed sets t.method m k in
          let visit : (l.lab t.at).visit ≡ Some v.part = subst (λ (a : ℕ). (l.lab a).visit ≡ Some v.part) (sym behind) v.visit in
          record {
            of = m;
            is_method = is;
            join = v.way.join;
            first = ap (λ (a : ℕ). first_part (drop a m.code)) behind ∙ v.way.first_join;
            at = v.part;
            reached = record { of = m; is_method = is; reaches = subst (λ (a : ℕ). Reaches m.code a v.part) (sym behind) v.way.reaches; is_code = v.way.is_part };
            only = λ other j way.
                (let same : way.of ≡ m = same_method class program live typed sets t.method m way.of is way.is_method in
                let reaches : Reaches m.code t.at other = subst (λ (z : GraphMethod). Reaches z.code t.at other) same way.reaches in
                let code : slice_get m.code other ≡ Some (instr.Part j) = subst (λ (z : GraphMethod). slice_get z.code other ≡ Some (instr.Part j)) same way.is_code in
                let own = (l.right other (instr.Part j) code).own in
                some_is other v.part (sym own.visit ∙ sym (same_visit (setting class program graph.tasks k.m k.b k.task) (at_first k.b) m.code l t.at other reaches) ∙ visit));
          }
