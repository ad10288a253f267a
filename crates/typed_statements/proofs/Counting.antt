-- `++` and `--` go, before a name and behind it.
use Rattle.std.proofs.Common.{◌≡◌, ℕ, true, false, not, List, [], ◌∷◌, Some, refl, sym, ap, subst, ◌∙◌, append-nil}
use Rattle.sdg_base.specs.declared.operator.BinOp.{BinOp}
use Rattle.java_tree.specs.declared.types.ExprType.{ExprType}
use Rattle.java_tree.specs.declared.types.ExprType.TheVariants as expression_type
use Rattle.java_tree.specs.declared.types.Declaration.{Declaration}
use Rattle.java_types.specs.declared.statements.Around.{Around}
use Rattle.java_types.specs.declared.walk.Env.{Env}
use Rattle.java_types.specs.declared.walk.Variable.{Variable}
use Rattle.java_types.specs.declared.walk.Walk.{Walk}
use Rattle.java_types.specs.Fits.{may_be_number}
use Rattle.java_types.specs.Simples.{target, type_of, stepped, is_of_method, is_collection}
use Rattle.java_types.specs.Walks.{past, variable}
use Rattle.annotations.specs.declared.walk.Walk.{Walk as MarkingWalk}
use Rattle.annotations.specs.Walks as marking_walks
use Rattle.annotations.specs.Walks.{unmerged}
use Rattle.access_blocks.specs.Cursors.{Cursor, Read, read, name_here, behind_name, variable_of}
use Rattle.access_blocks.specs.Cursors as cursors
use Rattle.access_blocks.specs.ResolvingStatements.{step_of}
use Rattle.access_blocks.specs.ResolvingStatements as resolving
use Rattle.typed_bodies.specs.Marking.{Passes}
use Rattle.typed_bodies.specs.PartLaws.{PartsAreTyped, is_step}
use Rattle.typed_bodies.specs.Reading.{Adds, Stands, cursor_at}
use Rattle.typed_bodies.proofs.Marking.{past_grows, named_grows, stays_all}
use Rattle.typed_bodies.proofs.Names.{AddsName, known_there}
use Rattle.typed_bodies.proofs.Steps.{unbroken, past_quiet}
use Rattle.typed_statements.specs.Points.{Setting, point, place_at, IsPoint}
use Rattle.typed_statements.specs.Goes.{Goes}
use Rattle.typed_statements.specs.Leaves.{Stated}
use Rattle.typed_statements.proofs.Ended.{unmerged_ends, change_steps}
use Rattle.typed_statements.proofs.Fitting.{stands_in, stands_at, Steps, stepping_goes}
use Rattle.typed_statements.proofs.NameRead.{passes_behind, passes_before, name_read}
use Rattle.typed_statements.proofs.Naming.{not_false, target_quiet, name_past}
use Rattle.typed_statements.proofs.Steps.{unmerged_merges_none}

-- ---- the walk of the rules on types

-- the name of a number that may be assigned
pub record Counts (env : Env) (name : List ℕ) (w v : Walk) : Type 0 where
  pub it : Variable
  pub is : variable env w name ≡ Some it
  pub adds : AddsName w v it.declaration
  pub of_method : is_of_method it.declaration ≡ true
  pub no_collection : is_collection it.found ≡ false
  pub number : may_be_number it.found ≡ true

stepped_counts : (env : Env) (at : ℕ) (name : List ℕ) (w : Walk) → (stepped env at name w).findings ≡ [] → Counts env name w (stepped env at name w)
unfolding stepped
stepped_counts env at name w quiet =
    let t = target env at name w in
    let u = unbroken (not (may_be_number (type_of t.variable))) w.at 7 t.walk quiet in
    let s = target_quiet env at name w u.quiet in
    record {
      it = s.it;
      is = s.is;
      adds = subst (λ (v : Walk). AddsName w v s.it.declaration) (sym u.same) s.adds;
      of_method = s.of_method;
      no_collection = s.no_collection;
      number = ap (λ o. may_be_number (type_of o)) (sym s.found) ∙ not_false _ u.holds;
    }

counts_past : (env : Env) (n : ℕ) (name : List ℕ) {w v : Walk} → Counts env name w v → Counts env name w (past env n v)
counts_past env n name c = record { it = c.it; is = c.is; adds = name_past env n c.adds; of_method = c.of_method; no_collection = c.no_collection; number = c.number }

past_counts : (env : Env) (n : ℕ) (name : List ℕ) {w v : Walk} → Counts env name (past env n w) v → Counts env name w v
unfolding past variable
past_counts env n name c = record {
  it = c.it;
  is = c.is;
  adds = record { no_findings = c.adds.no_findings; same_types = c.adds.same_types; to_names = c.adds.to_names; same_variables = c.adds.same_variables; same_locals = c.adds.same_locals };
  of_method = c.of_method;
  no_collection = c.no_collection;
  number = c.number;
}

abbrev counts_add : {env : Env} {name : List ℕ} {w v : Walk} → Counts env name w v → Adds w v
counts_add {w = w} c = record {
  types = [];
  names = c.it.declaration ∷ [];
  no_findings = c.adds.no_findings;
  to_types = c.adds.same_types ∙ sym (append-nil w.types);
  to_names = c.adds.to_names;
  same_variables = c.adds.same_variables;
  same_locals = c.adds.same_locals;
}

-- ---- both walks

module _ (parts : PartsAreTyped) (k : Setting) (a : Around) (name : List ℕ) (op : BinOp) (step : is_step op ≡ true) where
  counted_steps : (w v : Walk) (u : MarkingWalk) (passed : MarkingWalk → MarkingWalk) (c : Cursor) (types : List ExprType) (names : List Declaration) → IsPoint k (point w u c) → (counts : Counts k.env name w v)
      → Passes (place_at k (point w u c)) passed false (counts.it.declaration ∷ []) → (unmerged (passed u)).findings ≡ [] → Stands (place_at k (point w u c)) c types (counts.it.declaration ∷ names)
      → Steps k w v u (unmerged (passed u)) c (resolving.stepped op c) types names (Stated k a)
  counted_steps w v u passed c types names is counts passes quiet stands =
      let p = place_at k (point w u c) in
      let it = counts.it in
      let x = unmerged (passed u) in
      let end = unmerged_ends (passed u) quiet in
      let n = name_read k w u c is passed name it types names (known_there p name w refl counts.is) counts.of_method counts.no_collection passes (end.moved.back quiet) stands in
      let number = variable_of (cursor_at p) (Some it.declaration) in
      let changes = parts.steps p k.around (stands_in k (point w u c) is.agree) op step number n.variable.type n.variable.is (ap may_be_number (sym n.variable.found) ∙ counts.number) in
      let r = read (step_of op number (expression_type.Value n.variable.type)) (behind_name c) in
      let steps : Steps k w v u x c r types names (Stated k a) =
      change_steps k a w v u c types names is u (passed u) x r number (counts_add counts) (stays_all u) n.passed refl n.stands changes n.variable.below end in
      subst (λ (m : ℕ). Steps k w v u x c (read (step_of op m (cursors.type_of c m)) (behind_name c)) types names (Stated k a)) (sym n.number)
      (subst (λ (z : ExprType). Steps k w v u x c (read (step_of op number z) (behind_name c)) types names (Stated k a)) (sym n.type) steps)

  pub post_goes : (w : Walk) (u : MarkingWalk) → Goes k w (past k.env 1 (stepped k.env w.at name w)) u (unmerged (marking_walks.past k.marks 1 (marking_walks.named k.marks u))) (resolving.stepped op) (Stated k a)
  post_goes w u =
      let passed : MarkingWalk → MarkingWalk = λ u. marking_walks.past k.marks 1 (marking_walks.named k.marks u) in
      let counts : (past k.env 1 (stepped k.env w.at name w)).findings ≡ [] → Counts k.env name w (past k.env 1 (stepped k.env w.at name w)) =
      λ quiet. counts_past k.env 1 name (stepped_counts k.env w.at name w (past_quiet k.env 1 _ quiet)) in
      stepping_goes k (record {
        back = λ quiet. named_grows k.marks u (past_grows k.marks 1 _ ((unmerged_merges_none (passed u)).moved.back quiet));
        keeps = λ c. refl;
        added = λ quiet. counts_add (counts quiet);
        behind = λ quiet quiet_marks c types names is ts ns.
            counted_steps w _ u passed c types names is (counts quiet) (passes_behind (place_at k (point w u c)) (counts quiet).it.declaration (counts quiet).of_method) quiet_marks
            (stands_at k w u c types ((counts quiet).it.declaration ∷ names) ts ns);
      })

  pub pre_goes : (w : Walk) (u : MarkingWalk) → Goes k w (stepped k.env w.at name (past k.env 1 w)) u (unmerged (marking_walks.named k.marks (marking_walks.past k.marks 1 u))) (resolving.stepped op) (Stated k a)
  pre_goes w u =
      let passed : MarkingWalk → MarkingWalk = λ u. marking_walks.named k.marks (marking_walks.past k.marks 1 u) in
      let counts : (stepped k.env w.at name (past k.env 1 w)).findings ≡ [] → Counts k.env name w (stepped k.env w.at name (past k.env 1 w)) =
      λ quiet. past_counts k.env 1 name (stepped_counts k.env w.at name (past k.env 1 w) quiet) in
      stepping_goes k (record {
        back = λ quiet. past_grows k.marks 1 u (named_grows k.marks _ ((unmerged_merges_none (passed u)).moved.back quiet));
        keeps = λ c. refl;
        added = λ quiet. counts_add (counts quiet);
        behind = λ quiet quiet_marks c types names is ts ns.
            counted_steps w _ u passed c types names is (counts quiet) (passes_before (place_at k (point w u c)) (counts quiet).it.declaration (counts quiet).of_method) quiet_marks
            (stands_at k w u c types ((counts quiet).it.declaration ∷ names) ts ns);
      })
