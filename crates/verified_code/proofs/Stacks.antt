-- The types of the stacks of typed bodies: each instruction that a run comes to has one stack on all ways to it.
use Rattle.std.proofs.Common.{◌≡◌, refl, sym, ap, subst, ◌∙◌, ℕ, suc, Bool, true, false, cond, not, List, [], ◌∷◌, Option, Some, None, slice_get, inl, inr}
use Rattle.sdg_base.specs.declared.value_type.ValueType.{ValueType}
use Rattle.java_tree.specs.declared.tree.Class.{Class}
use Rattle.flat_code.specs.declared.graph.Graph.{Graph}
use Rattle.flat_code.specs.declared.graph.GraphMethod.{GraphMethod}
use Rattle.flat_code.specs.declared.graph.Instr.{Instr}
use Rattle.flat_code.specs.declared.graph.Instr.TheVariants as instr
use Rattle.flat_code.specs.declared.graph.Task.{Task}
use Rattle.flat_code.specs.declared.graph.TaskKind.{TaskKind}
use Rattle.flat_code.specs.declared.graph.TaskKind.TheVariants as kind
use Rattle.flat_code.specs.Fits.{result_of, result_at, access_before, brought_by, brought}
use Rattle.flat_code.specs.Types.{same_types}
use Rattle.flat_code.specs.Ways.{IsIn, IsFirst, next_of}
use Rattle.flat_code.specs.Verified.{IsMethod, Stack, on_top, types_after, cut_to_kind, cut_type, only_type, part_type, IsTypedAt, Begins, TaskBegins, MethodBegins, IsTypedMethod}
use Rattle.access_blocks.specs.declared.body.Program.{Program}
use Rattle.body_code.specs.ClassCode.{code_of_class}
use Rattle.body_code.specs.Checking.{IsTyped}
use Rattle.live_vars.specs.Sets.{AreLiveSets}
use Rattle.task_cutter.specs.Tasks.{graph_of}
use Rattle.verified_code.proofs.Labels.{Setting, KeyIs, Takes}
use Rattle.verified_code.proofs.Making.{next_is}
use Rattle.verified_code.proofs.Typed.{none_some, some_is, same_refl}
use Rattle.verified_code.proofs.Classes.{own, setting}
use Rattle.verified_code.proofs.Bodies.{Labelled, at_first}
use Rattle.verified_code.proofs.Clauses.{lays}
use Rattle.verified_code.proofs.Ways.{there, PartBehind, part_behind}
use Rattle.verified_code.proofs.Begun.{Own, of_own, cut_is, part_is, OfStart, OfCut, OfPart, task_of, cut_begins, block_kind}

-- the stack at an instruction
abbrev pub at_code : Option Instr → Stack → Option Stack
at_code None stack = None
at_code (Some i) stack = Some stack

at_some : (o : Option Instr) (stack found : Stack) → at_code o stack ≡ Some found → (i : Instr) × (o ≡ Some i) × (stack ≡ found)
at_some None stack found e = absurd (none_some found e)
at_some (Some i) stack found e = (i, refl, some_is stack found e)

is_at : (o : Option Instr) (i : Instr) (stack after : Stack) → o ≡ Some i → stack ≡ after → at_code o stack ≡ Some after
is_at o i stack after e same = ap (λ (p : Option Instr). at_code p stack) e ∙ ap Some same

block_takes : (partial : Bool) (k : TaskKind) (stack : Stack) → k ≡ block_kind partial → KeyIs (not partial) stack → cut_to_kind k stack ≡ Some []
block_takes true k stack e key = ap (λ (z : TaskKind). cut_to_kind z stack) e ∙ ap (cut_to_kind kind.Local) key
block_takes false k stack e key = ap (λ (z : TaskKind). cut_to_kind z stack) e ∙ ap (cut_to_kind kind.Keyed) key

visit_takes : (k : TaskKind) (stack : Stack) → k ≡ kind.Visit → stack ≡ [] → cut_to_kind k stack ≡ Some []
visit_takes k stack e empty = ap (λ (z : TaskKind). cut_to_kind z stack) e ∙ ap (cut_to_kind kind.Visit) empty

same_types_refl : (ts : List ValueType) → same_types ts ts ≡ true
same_types_refl [] = refl
same_types_refl (t ∷ ts) = ap (λ (b : Bool). cond b (same_types ts ts) false) (same_refl t) ∙ same_types_refl ts

only_this : (t : ValueType) (stack : Stack) → stack ≡ on_top t [] → only_type (Some t) stack ≡ Some []
only_this t stack e = ap (λ (s : Stack). cond (same_types s (on_top t [])) (Some []) None) e ∙ ap (λ (b : Bool). cond b (Some []) None) (same_types_refl (on_top t []))

module _ (class : Class) (program : Program) (live : List (List (List ℕ))) (typed : IsTyped class program) (sets : AreLiveSets (code_of_class class program).methods live) where
  abbrev graph : Graph
  graph = graph_of (code_of_class class program) live

  -- what a part's task is brought
  pub brought_is : (n at join : ℕ) (m : GraphMethod) (k : Own class program live typed sets n m) (t : Task) → IsMethod graph n m → t.method ≡ n → t.at ≡ suc at
      → (b : PartBehind (setting class program graph.tasks k.m k.b k.task) (at_first k.b) m.code (of_own class program live typed sets n m k) at) → brought graph t ≡ Some b.sig.result
  brought_is n at join m k t is in_method behind b =
      ap (λ (o : Option GraphMethod). brought_by graph o t) (ap (slice_get graph.methods) in_method ∙ is)
      ∙ ap (λ (place : ℕ). result_at graph (access_before m.code place)) (behind ∙ ap suc b.place)
      ∙ ap (result_at graph) b.access
      ∙ ap result_of b.is_signature

  module _ (n : ℕ) (m : GraphMethod) (is : IsMethod graph n m) (k : Own class program live typed sets n m) where
    abbrev s : Setting
    s = setting class program graph.tasks k.m k.b k.task

    abbrev l : Labelled s (at_first k.b) m.code
    l = of_own class program live typed sets n m k

    abbrev stacks : ℕ → Option Stack
    stacks at = at_code (slice_get m.code at) (l.lab at).stack

    cut_takes : (at names : ℕ) → slice_get m.code at ≡ Some (instr.Cut names) → cut_type (slice_get graph.tasks names) (l.lab at).stack ≡ Some []
    cut_takes at names code =
        let c = cut_is class program live typed sets n at names m is code in
        ap (λ (o : Option Task). cut_type o (l.lab at).stack) c.1.is_task
        ∙ elim (cut_begins class program live typed sets n at names m k c.0 code c.1) [
          | inl b ↦ block_takes b.holder.is_partial c.0.kind (l.lab at).stack b.has_kind b.key
          | inr v ↦ visit_takes c.0.kind (l.lab at).stack v.has_kind v.empty
        ]

    part_takes : (at names : ℕ) → slice_get m.code at ≡ Some (instr.Part names) → part_type graph (slice_get graph.tasks names) (l.lab at).stack ≡ Some []
    part_takes at names code =
        let c = part_is class program live typed sets n at names m is code in
        let b = part_behind s (at_first k.b) m.code l at names code in
        ap (λ (o : Option Task). part_type graph o (l.lab at).stack) c.1.is_task
        ∙ ap (λ (o : Option ValueType). only_type o (l.lab at).stack) (brought_is n at names m k c.0 is c.1.in_method c.1.behind b)
        ∙ only_this b.sig.result (l.lab at).stack b.stack

    takes : (at : ℕ) (i : Instr) (after : Stack) → slice_get m.code at ≡ Some i → Takes s i (l.lab at).stack after → types_after graph (own class program graph.tasks k.m k.b k.task) i (l.lab at).stack ≡ Some after
    takes at (instr.Cut names) after code h = cut_takes at names code ∙ ap Some (sym h)
    takes at (instr.Part names) after code h = part_takes at names code ∙ ap Some (sym h)
    takes at _ after code h = h

    first_stack : stacks 0 ≡ Some []
    first_stack = (let i = there m.code 0 l.some in is_at (slice_get m.code 0) i.0 (l.lab 0).stack [] i.1 l.first_is.stack)

    behind_stack : (at : ℕ) (i : Instr) → slice_get m.code at ≡ Some i → IsIn (suc at) (next_of at i) → ((after : Stack) → Takes s i (l.lab at).stack after → after ≡ []) → stacks (suc at) ≡ Some []
    behind_stack at i code goes empty =
        let r = l.right at i code in
        let j = there m.code (suc at) (l.inside at i (suc at) code goes) in
        is_at (slice_get m.code (suc at)) j.0 (l.lab (suc at)).stack [] j.1 (r.stacks (suc at) goes ∙ empty r.after r.takes)

    starts : (at : ℕ) → Begins graph n m at → stacks at ≡ Some []
    starts at (TaskBegins q t is_task in_method) =
        elim (task_of class program live typed sets q t m is_task (ap (slice_get graph.methods) in_method ∙ is)) [
          | OfStart entry first kind_is field vars ↦ subst (λ (a : ℕ). stacks a ≡ Some []) (sym first) first_stack
          | OfCut place code c ↦ subst (λ (a : ℕ). stacks a ≡ Some []) (sym c.behind) (behind_stack place (instr.Cut q) code (IsFirst []) (λ after h. h))
          | OfPart place code c ↦ subst (λ (a : ℕ). stacks a ≡ Some []) (sym c.behind) (behind_stack place (instr.Part q) code (IsFirst []) (λ after h. h))
        ]
    starts at (MethodBegins helper) = first_stack

    typed_at : (at : ℕ) (stack : Stack) → stacks at ≡ Some stack → IsTypedAt graph m stacks at stack
    typed_at at stack e =
        let f = at_some (slice_get m.code at) (l.lab at).stack stack e in
        let i = f.0 in
        let r = l.right at i f.1 in
        record {
          i = i;
          is_code = f.1;
          after = r.after;
          takes = subst (λ (st : Stack). types_after graph m i st ≡ Some r.after) f.2 (subst (λ (z : GraphMethod). types_after graph z i (l.lab at).stack ≡ Some r.after) k.is (takes at i r.after f.1 r.takes));
          leaves = λ next h. (let goes = next_is at i next h in let j = there m.code next (l.inside at i next f.1 goes) in is_at (slice_get m.code next) j.0 (l.lab next).stack r.after j.1 (r.stacks next goes));
        }

  pub types : (n : ℕ) (m : GraphMethod) → IsMethod graph n m → IsTypedMethod graph n m
  types n m is = (let k = lays class program graph.tasks typed n m is in record { stacks = stacks n m is k; starts = starts n m is k; typed = typed_at n m is k })
