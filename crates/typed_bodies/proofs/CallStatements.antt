-- A call that stands alone, in which no rule has a finding, is a statement that is typed.
use Rattle.std.proofs.Common.{◌≡◌, ℕ, Bool, true, false, not, ◌&&◌, ◌||◌, List, [], length, map, Option, Some, None, codes, if◌then◌else◌, refl, sym, ap, ap₂, subst, ◌∙◌}
use Rattle.std.specs.Str.{bytes_eq}
use Rattle.java_tree.specs.declared.tree.CallForm.{CallForm, out-CallForm, roll-out-CallForm}
use Rattle.java_tree.specs.declared.tree.CallForm.TheOpen.{CallForm-F}
use Rattle.java_tree.specs.declared.tree.CallForm.TheOpen as e
use Rattle.java_tree.specs.declared.tree.CallForm.TheFolds.{fold-roll-CallForm, map-CallForm}
use Rattle.java_tree.specs.declared.tree.Expr.{Expr}
use Rattle.java_tree.specs.declared.tree.Value.{Value as Written}
use Rattle.java_tree.specs.declared.types.ExprType.{ExprType}
use Rattle.java_tree.specs.declared.types.ExprType.TheVariants.{Unknown, Void, Value, Collection, State}
use Rattle.java_types.specs.declared.walk.Env.{Env}
use Rattle.java_types.specs.declared.walk.Variable.{Variable}
use Rattle.java_types.specs.declared.walk.Walk.{Walk}
use Rattle.java_types.specs.Expressions.{Reading, Argument, Calling, call_of, call_step, call_walk, expr_step, expr_walk, indexed, item, sized, typed, value_step, value_walk}
use Rattle.java_types.specs.Fits.{is_known, is_vector, is_void, item_type, with_part}
use Rattle.java_types.specs.Simples.{call_alone, type_of, writes, writes_layer}
use Rattle.java_types.specs.Walks.{named, noted, opened, closed, past_if, used_as, variable}
use Rattle.annotations.specs.declared.position.Position.TheVariants.{Statement}
use Rattle.annotations.specs.Expressions as marking
use Rattle.annotations.specs.Simples as marking_simples
use Rattle.access_blocks.specs.declared.body.Target.TheVariants.{Dropped}
use Rattle.access_blocks.specs.Cursors.{read, behind_type}
use Rattle.access_blocks.specs.Resolving as resolving
use Rattle.access_blocks.specs.ResolvingStatements.{called_alone}
use Rattle.body_code.specs.Checking.{Surroundings}
use Rattle.typed_bodies.specs.Reading.{Place, IsSound}
use Rattle.typed_bodies.specs.Expressions.{is_of_member, of_member_layer}
use Rattle.typed_bodies.specs.Marking.{Marks, is_state}
use Rattle.typed_bodies.specs.Targets.{StandsIn, Puts}
use Rattle.typed_bodies.proofs.CallTypes.{own_plain, dotted_plain, dotted_void}
use Rattle.typed_bodies.proofs.CallValues.{call_reads}
use Rattle.typed_bodies.proofs.ExpressionsFollow.{call_follows_all, closed_quiet}
use Rattle.typed_bodies.proofs.Steps.{unbroken}
use Rattle.typed_bodies.proofs.ValuesGo.{is_collection}
use Rattle.typed_bodies.proofs.ValuesPut.{value_puts}
use Rattle.typed_bodies.proofs.ValueStatements.{puts_past}

-- ---- a method of a member of a collection

named_found : (at : ℕ) (w : Walk) (o : Option Variable) → (used_as at w o).found ≡ type_of o
named_found at w None = refl
named_found at w (Some v) = refl

part_vector : (b : Bool) (part whole : ExprType) → is_vector (with_part b part whole) ≡ true → is_vector whole ≡ true
part_vector b part whole is = by (b || not (is_known part)) is
  where
    by : (c : Bool) → is_vector (if c then Unknown else whole) ≡ true → is_vector whole ≡ true
    by true e = absurd (cc)
    by false e = e

item_no_state : (f : ExprType) → is_state (item_type f) ≡ false
item_no_state Unknown = refl
item_no_state Void = refl
item_no_state (Value t) = refl
item_no_state (Collection t) = refl
item_no_state (State class) = refl

part_no_state : (b : Bool) (part whole : ExprType) → is_state whole ≡ false → is_state (with_part b part whole) ≡ false
part_no_state b part whole is = by (b || not (is_known part))
  where
    by : (c : Bool) → is_state (if c then Unknown else whole) ≡ false
    by true = refl
    by false = is

item_is_no_state : (env : Env) (object : List ℕ) (at : Reading) (w : Walk) → is_state (item env object at w).found ≡ false
unfolding sized indexed
item_is_no_state env object at w = part_no_state _ _ _ (item_no_state (named env object w).found)

item_is_vector : (env : Env) (object : List ℕ) (at : Reading) (w : Walk) → is_vector (item env object at w).found ≡ true → is_vector (item_type (type_of (variable env w object))) ≡ true
unfolding sized indexed named
item_is_vector env object at w is =
    ap (λ (f : ExprType). is_vector (item_type f)) (sym (named_found w.at _ (variable env w object))) ∙ part_vector _ _ _ is

same_opened : (env : Env) (object : List ℕ) (w : Walk) → variable env (opened w) object ≡ variable env w object
unfolding variable opened
same_opened env object w = refl

never_true : (b : Bool) → (b ≡ true → ⊥) → b ≡ false
never_true true f = absurd (f refl)
never_true false f = refl

member_written : (env : Env) (object : List ℕ) (at : Reading) (name : List ℕ) (args : List Argument) (w : Walk)
    → (bytes_eq name (codes "set") && is_vector (item_type (type_of (variable env w object)))) ≡ false → is_void (call_of env (opened w).at (item env object at (opened w)) name args).found ≡ false
member_written env object at name args w unwritten =
    never_true _ (λ void.
    let d = dotted_void env (opened w).at (item env object at (opened w)) name args (item_is_no_state env object at (opened w)) void in
    let vector : is_vector (item_type (type_of (variable env w object))) ≡ true =
    ap (λ o. is_vector (item_type (type_of o))) (sym (same_opened env object w)) ∙ item_is_vector env object at (opened w) d.0 in
    let there : true ≡ false = ap₂ (λ a b. a && b) (sym d.1) (sym vector) ∙ unwritten in
    cc)

-- ---- calls

module _ (env : Env) where
  abbrev walks : CallForm-F CallForm Expr Written → CallForm-F Calling Reading Argument
  walks = map-CallForm CallForm Expr Written Calling Reading Argument (call_walk env) (expr_walk env) (value_walk env)

  call_walked : (call : CallForm) → call_walk env call ≡ call_step env (walks (out-CallForm call))
  call_walked call = ap (λ c. call_walk env c) (sym (roll-out-CallForm call)) ∙ fold-roll-CallForm Calling Reading Argument (call_step env) (expr_step env) (value_step env) (out-CallForm call)

  layer_written : (y : CallForm-F CallForm Expr Written) (w : Walk) → writes_layer env w y ≡ false → (of_member_layer y && is_void (call_step env (walks y) (opened w)).found) ≡ false
  layer_written (e.Own name args) w unwritten = refl
  layer_written (e.Of object name args) w unwritten = refl
  layer_written (e.OfMember object at name args) w unwritten = member_written env object (expr_walk env at) name (map (value_walk env) args) w unwritten

  call_written : (call : CallForm) (w : Walk) → writes env w call ≡ false → (is_of_member call && is_void (call_walk env call (opened w)).found) ≡ false
  call_written call w unwritten =
      ap (λ (s : Calling). is_of_member call && is_void (s (opened w)).found) (call_walked call) ∙ layer_written (out-CallForm call) w unwritten

module _ (p : Place) (sound : IsSound p) where
  layer_plain : (y : CallForm-F CallForm Expr Written) (w : Walk) → is_collection (call_step p.env (walks p.env y) w).found ≡ false
  layer_plain (e.Own name args) w = own_plain p sound name (map (value_walk p.env) args) w
  layer_plain (e.Of object name args) w = dotted_plain p.env w.at (named p.env object w) name (map (value_walk p.env) args)
  layer_plain (e.OfMember object at name args) w = dotted_plain p.env w.at (item p.env object (expr_walk p.env at) w) name (map (value_walk p.env) args)

  call_plain : (call : CallForm) (w : Walk) → is_collection (call_walk p.env call w).found ≡ false
  call_plain call w = ap (λ (s : Calling). is_collection (s w).found) (call_walked p.env call) ∙ layer_plain (out-CallForm call) w

  -- ---- as a statement

  module _ (around : Surroundings) (stands : StandsIn p around) (is_global : Bool) (call : CallForm) where
    alone_put : (w : Walk) → (typed w (call_walk p.env call (opened w))).walk.findings ≡ [] → writes p.env w call ≡ false
        → Puts p around is_global Dropped Unknown w (typed w (call_walk p.env call (opened w))).walk (λ position u. marking_simples.call_alone p.marks is_global call u) (called_alone p.scope is_global call)
    alone_put w quiet unwritten =
        let t = call_walk p.env call (opened w) in
        let m : Marks = λ position global u. marking.call_of p.marks call Statement global u in
        value_puts p around stands is_global Dropped Unknown t.found (λ from. from ≡ Unknown) (λ from same. (refl, call_plain call (opened w))) m w (closed (length w.types) t.found t.walk)
        (λ c. read (record { invoked = (resolving.call_of p.scope call (behind_type c)).it; found = Unknown }) (resolving.call_of p.scope call (behind_type c)).cursor)
        (call_reads p sound call w (λ found. Unknown) (λ from. from ≡ Unknown) m (λ position whole. (Statement, refl, λ global u. refl)) refl (closed_quiet (length w.types) t.found t.walk quiet) (call_written p.env call w unwritten))

    start_quiet : (w : Walk) → (typed w (call_walk p.env call (opened w))).walk.findings ≡ [] → w.findings ≡ []
    unfolding opened
    start_quiet w quiet = (call_follows_all p sound call (opened w) (closed_quiet (length w.types) _ _ quiet)).added.no_findings

    -- a call alone is typed
    pub call_is_put : (w : Walk) → (call_alone p.env is_global call w).findings ≡ []
        → Puts p around is_global Dropped Unknown w (call_alone p.env is_global call w) (λ position u. marking_simples.call_alone p.marks is_global call u) (called_alone p.scope is_global call)
    unfolding call_alone
    call_is_put w quiet =
        let b = past_if p.env is_global 2 w in
        let n = noted (writes p.env b call) w.at 10 b in
        let u = unbroken (writes p.env b call) w.at 10 b (start_quiet n quiet) in
        let P : Walk → Type 0 = λ s. Puts p around is_global Dropped Unknown w (typed s (call_walk p.env call (opened s))).walk (λ position u. marking_simples.call_alone p.marks is_global call u) (called_alone p.scope is_global call) in
        subst P (sym u.same)
        (puts_past p around is_global Dropped Unknown is_global 2 w _ _ _
        (alone_put b (ap (λ (s : Walk). (typed s (call_walk p.env call (opened s))).walk.findings) (sym u.same) ∙ quiet) u.holds))
