-- Each task stands where its kind wants it: a start at the first instruction, a block or a visit behind its cut, a join behind its part.
use Rattle.std.proofs.Common.{◌≡◌, refl, sym, ap, subst, ◌∙◌, ℕ, zero, suc, ◌+◌, ◌<◌, arith, Bool, true, false, List, [], ◌∷◌, length, Some, slice_get, inl, inr}
use Rattle.std.specs.Prelude.{All}
use Rattle.std.specs.List.{range_with_len}
use Rattle.std.proofs.lemmas.List.Elements.{All-nil, All-cons}
use Rattle.java_tree.specs.declared.tree.Class.{Class}
use Rattle.flat_code.specs.declared.graph.Graph.{Graph}
use Rattle.flat_code.specs.declared.graph.GraphMethod.{GraphMethod}
use Rattle.flat_code.specs.declared.graph.Instr.{Instr}
use Rattle.flat_code.specs.declared.graph.Instr.TheVariants as instr
use Rattle.flat_code.specs.declared.graph.Task.{Task}
use Rattle.flat_code.specs.declared.graph.TaskKind.{TaskKind}
use Rattle.flat_code.specs.Fits.{parameters}
use Rattle.flat_code.specs.Ways.{IsIn, IsFirst, IsLater, reads, IsLive, IsRead, IsReadLater}
use Rattle.flat_code.specs.Verified.{IsTask, IsMethod, NamesSomething, StandsAfter, StandsRight, IsRightTask}
use Rattle.access_blocks.specs.declared.body.Program.{Program}
use Rattle.body_code.specs.ClassCode.{code_of_class, kind_by}
use Rattle.body_code.specs.Checking.{IsTyped}
use Rattle.live_vars.specs.Sets.{AreLiveSets}
use Rattle.task_cutter.specs.Tasks.{graph_of}
use Rattle.verified_code.proofs.Making.{Among, among, only_one, in_none}
use Rattle.verified_code.proofs.Typed.{some_is}
use Rattle.verified_code.proofs.Clauses.{lays, parameters_few}
use Rattle.verified_code.proofs.Names.{numbers}
use Rattle.verified_code.proofs.Begun.{Own, entry_of, CutIs, cut_is, part_is, OfStart, OfCut, OfPart, task_method, task_of, BlockAt, cut_begins, block_kind}

all_in : (P : ℕ → Type 0) (vs : List ℕ) → ((v : ℕ) → IsIn v vs → P v) → All P vs
all_in P [] h = All-nil P
all_in P (v ∷ vs) h = All-cons P v vs (h v (IsFirst vs)) (all_in P vs (λ w k. h w (IsLater v vs k)))

range_within : (v at n : ℕ) → Among v (range_with_len at n) → v < at + n
range_within v at zero h = absurd h
range_within v at (suc n) (inl e) = omega (arith, e)
range_within v at (suc n) (inr h) = (let less : v < (at + 1) + n = range_within v (at + 1) n h in omega (arith, less))

named_read : (graph : Graph) (m : GraphMethod) (i : Instr) (v : ℕ) → NamesSomething graph m i → IsIn v (reads i) → v < length m.vars
named_read graph m (instr.Load w) v h k = subst (λ (x : ℕ). x < length m.vars) (sym (only_one v w k)) h
named_read graph m (instr.VectorSize w) v h k = subst (λ (x : ℕ). x < length m.vars) (sym (only_one v w k)) h
named_read graph m (instr.VectorGet w) v h k = subst (λ (x : ℕ). x < length m.vars) (sym (only_one v w k)) h
named_read graph m (instr.VectorSet w) v h k = subst (λ (x : ℕ). x < length m.vars) (sym (only_one v w k)) h
named_read graph m (instr.CollectionLength w) v h k = subst (λ (x : ℕ). x < length m.vars) (sym (only_one v w k)) h
named_read graph m (instr.CollectionItem w) v h k = subst (λ (x : ℕ). x < length m.vars) (sym (only_one v w k)) h
named_read graph m (instr.CollectionSize w) v h k = subst (λ (x : ℕ). x < length m.vars) (sym (only_one v w k)) h
named_read graph m (instr.CollectionCheck w) v h k = subst (λ (x : ℕ). x < length m.vars) (sym (only_one v w k)) h
named_read graph m (instr.CollectionGet w) v h k = subst (λ (x : ℕ). x < length m.vars) (sym (only_one v w k)) h
named_read graph m _ v h k = absurd (in_none v k)

module _ (class : Class) (program : Program) (live : List (List (List ℕ))) (typed : IsTyped class program) (sets : AreLiveSets (code_of_class class program).methods live) where
  abbrev graph : Graph
  graph = graph_of (code_of_class class program) live

  live_within : (n : ℕ) (m : GraphMethod) → IsMethod graph n m → (v at : ℕ) → IsLive m.code v at → v < length m.vars
  live_within n m is v at (IsRead a i code h) = named_read graph m i v (numbers class program live typed sets n m a i is code) h
  live_within n m is v at (IsReadLater a next i code clear goes later) = live_within n m is v next later

  module _ (q : ℕ) (t : Task) (m : GraphMethod) (is_task : IsTask graph q t) (is : IsMethod graph t.method m) where
    behind_cut : (at : ℕ) → slice_get m.code at ≡ Some (instr.Cut q) → t.at ≡ suc at → StandsAfter graph t (instr.Cut q)
    behind_cut at code behind = record {
      before = at;
      behind = behind;
      named = record { of = m; is_method = is; is_code = code };
      only = λ method place h.
          (let d = cut_is class program live typed sets method place q h.of h.is_method h.is_code in
          let same : d.0 ≡ t = some_is d.0 t (sym d.1.is_task ∙ is_task) in
          let places : suc place ≡ suc at = sym d.1.behind ∙ ap (λ (z : Task). z.at) same ∙ behind in
          (sym d.1.in_method ∙ ap (λ (z : Task). z.method) same, (let e : place ≡ at = omega (arith, places) in e)));
    }

    behind_part : (at : ℕ) → slice_get m.code at ≡ Some (instr.Part q) → t.at ≡ suc at → StandsAfter graph t (instr.Part q)
    behind_part at code behind = record {
      before = at;
      behind = behind;
      named = record { of = m; is_method = is; is_code = code };
      only = λ method place h.
          (let d = part_is class program live typed sets method place q h.of h.is_method h.is_code in
          let same : d.0 ≡ t = some_is d.0 t (sym d.1.is_task ∙ is_task) in
          let places : suc place ≡ suc at = sym d.1.behind ∙ ap (λ (z : Task). z.at) same ∙ behind in
          (sym d.1.in_method ∙ ap (λ (z : Task). z.method) same, (let e : place ≡ at = omega (arith, places) in e)));
    }

    block_stands : (k : Own class program live typed sets t.method m) (at : ℕ) → StandsAfter graph t (instr.Cut q) → (b : BlockAt class program live typed sets t.method m k at t) → (partial : Bool) → b.of.kind ≡ kind_by partial
        → StandsRight graph q m t (block_kind partial)
    block_stands k at after b true e = (after, record { name = b.of.name; is_name = b.has_field; of = b.of; is_field = b.named; is_kind = e })
    block_stands k at after b false e = (after, record { name = b.of.name; is_name = b.has_field; of = b.of; is_field = b.named; is_kind = e })

    cut_stands : (k : Own class program live typed sets t.method m) (at : ℕ) → slice_get m.code at ≡ Some (instr.Cut q) → CutIs class program live typed sets t.method m at q t → StandsRight graph q m t t.kind
    cut_stands k at code c =
        let after = behind_cut at code c.behind in
        elim (cut_begins class program live typed sets t.method at q m k t code c) [
          | inl b ↦ subst (λ (z : TaskKind). StandsRight graph q m t z) (sym b.has_kind) (block_stands k at after b b.holder.is_partial b.kind_is)
          | inr v ↦ subst (λ (z : TaskKind). StandsRight graph q m t z) (sym v.has_kind) (after, record { name = v.way.name; is_name = v.has_field; of = v.of; is_field = v.named; is_kind = v.partial })
        ]

    right_task : IsRightTask graph q t
    right_task =
        elim (task_of class program live typed sets q t m is_task is) [
          | OfStart entry first starting field vars ↦ record {
            of = m;
            is_method = is;
            is_entry = entry;
            variables = subst (λ (vs : List ℕ). All (λ v. v < length m.vars) vs) (sym vars) (all_in (λ v. v < length m.vars) (parameters m)
                (λ v h. (let less : v < 0 + m.params = range_within v 0 m.params (among v (parameters m) h) in let few = parameters_few class program graph.tasks typed t.method m is in omega (arith, less, few))));
            stands = subst (λ (z : TaskKind). StandsRight graph q m t z) (sym starting) (record { first = first; parameters = vars; no_field = field });
          }
          | OfCut at code c ↦ record {
            of = m;
            is_method = is;
            is_entry = entry_of class program live typed sets t.method m is at (instr.Cut q) code refl;
            variables = all_in (λ v. v < length m.vars) t.vars (λ v h. live_within t.method m is v (suc at) (c.vars.live v h));
            stands = cut_stands (lays class program graph.tasks typed t.method m is) at code c;
          }
          | OfPart at code c ↦ record {
            of = m;
            is_method = is;
            is_entry = entry_of class program live typed sets t.method m is at (instr.Part q) code refl;
            variables = all_in (λ v. v < length m.vars) t.vars (λ v h. live_within t.method m is v (suc at) (c.vars.live v h));
            stands = subst (λ (z : TaskKind). StandsRight graph q m t z) (sym c.has_kind) (behind_part at code c.behind, c.has_field);
          }
        ]

  pub tasks : (q : ℕ) (t : Task) → IsTask graph q t → IsRightTask graph q t
  tasks q t is_task = (let f = task_method class program live typed sets q t is_task in right_task q t f.0 is_task f.1)
