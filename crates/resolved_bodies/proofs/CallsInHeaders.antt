-- Where the rules on annotations find nothing in a call in the header of a loop, it is resolved to no access.
use Rattle.std.proofs.Common.{◌≡◌, ℕ, Bool, true, false, not, ◌||◌, List, [], ◌∷◌, length, map, fold, nat_eq, codes, bytes_eq, Option, Some, None, if◌then◌else◌, refl, sym, ap, subst, ◌∙◌}
use Rattle.sdg_base.specs.Signatures.{vector_method}
use Rattle.java_tree.specs.declared.tree.Value.{Value}
use Rattle.java_tree.specs.declared.tree.Expr.{Expr}
use Rattle.java_tree.specs.declared.tree.CallForm.{CallForm, roll-CallForm, out-CallForm, roll-out-CallForm}
use Rattle.java_tree.specs.declared.tree.CallForm.TheOpen.{CallForm-F}
use Rattle.java_tree.specs.declared.tree.CallForm.TheOpen as e
use Rattle.java_tree.specs.declared.tree.CallForm.TheFolds.{fold-roll-CallForm, map-CallForm}
use Rattle.java_tree.specs.declared.types.Declaration.{Declaration}
use Rattle.java_tree.specs.declared.types.Declaration.TheVariants as declaration
use Rattle.java_tree.specs.declared.types.ValueType.TheVariants.{Int}
use Rattle.java_tree.specs.declared.types.ExprType.TheVariants as types
use Rattle.annotations.specs.declared.position.Position.{Position}
use Rattle.annotations.specs.declared.position.Position.TheVariants.{Inside}
use Rattle.annotations.specs.declared.site.Key.{Key}
use Rattle.annotations.specs.declared.walk.Env.{Env}
use Rattle.annotations.specs.declared.walk.Walk.{Walk}
use Rattle.annotations.specs.Walks.{past, past_none, noted, coming, taken, kind_at, sited}
use Rattle.annotations.specs.Positions.{is_whole}
use Rattle.annotations.specs.Accesses.{accessed, reach_of}
use Rattle.annotations.specs.Expressions as walks
use Rattle.annotations.specs.Expressions.{Argument, Reading, arguments, access_head, head_of, expr_of, value_of, call_of}
use Rattle.access_blocks.specs.declared.body.Expression.{Expression}
use Rattle.access_blocks.specs.declared.body.Expression.TheVariants as x
use Rattle.access_blocks.specs.declared.resolved.Invoked.{Invoked}
use Rattle.access_blocks.specs.declared.resolved.Invoked.TheVariants as invoked
use Rattle.access_blocks.specs.declared.scope.Header.{Header}
use Rattle.access_blocks.specs.declared.scope.Scope.{Scope}
use Rattle.access_blocks.specs.Cursors.{Cursor, name_here, behind_name}
use Rattle.access_blocks.specs.Resolving as reads
use Rattle.access_blocks.specs.Resolving.{Resolving, own, own_call, argument, vector_call, member_call, vector_step, params_by, params_of, header_at, of_step, expression_of}
use Rattle.resolved_bodies.specs.Together.{AreTogether}
use Rattle.resolved_bodies.proofs.Going.{same_coming, going_past, going_past_if, going_noted, never_quiet}
use Rattle.resolved_bodies.proofs.ExpressionsGo.{going_accessed, value_goes}

abbrev pub is_access : Invoked → Bool
is_access (invoked.Value a) = false
is_access (invoked.Sets v at a) = false
is_access (invoked.Accesses a) = true

-- ---- calls of no field

record NoAccess (i : Invoked) : Type 0 where
  none : is_access i ≡ false

no_value : (a : Expression) → NoAccess (invoked.Value a)
no_value a = record { none = refl }

no_choice : {f g : Invoked} (b : Bool) → NoAccess f → NoAccess g → NoAccess (if b then f else g)
no_choice true p q = p
no_choice false p q = q

no_own : (m : ℕ) (h : Option Header) (args : List Expression) → NoAccess (own_call m h args)
no_own m None args = no_value _
no_own m (Some h) args = no_choice h.is_merge (no_value _) (no_value _)

no_own_of : (d : Option Declaration) (h : Option Header) (args : List Expression) → NoAccess (own d h args)
no_own_of None h args = no_value _
no_own_of (Some (declaration.Method m)) h args = no_own m h args
no_own_of (Some (declaration.Field n)) h args = no_value _
no_own_of (Some (declaration.Parameter n)) h args = no_value _
no_own_of (Some (declaration.Local n)) h args = no_value _

no_vector : (v : ℕ) (name : List ℕ) (args : List Expression) → NoAccess (vector_call v name args)
no_vector v name args =
    no_choice (bytes_eq name (codes "size")) (no_value (x.VectorSize v))
    (no_choice (bytes_eq name (codes "get")) (no_value (x.VectorElement v (argument args 0)))
    (no_choice {f = invoked.Sets v (argument args 0) (argument args 1)} (bytes_eq name (codes "set")) (record { none = refl }) (no_value x.Nothing)))

no_member : (at : Expression) (name : List ℕ) (args : List Expression) → NoAccess (member_call at name args)
no_member at name args =
    no_choice (bytes_eq name (codes "size")) (no_value (x.GatheredSize at))
    (no_choice (bytes_eq name (codes "get")) (no_value (x.GatheredElement at (argument args 0))) (no_value x.Nothing))

no_vector_step : (v : ℕ) (name : List ℕ) (args : List Resolving) (c : Cursor) → is_access (vector_step v name args c).it ≡ false
no_vector_step v name args c = (no_vector v name (reads.arguments (params_by (vector_method name)) args c).it).none

module _ (env : Env) (scope : Scope) where
  -- ---- calls of methods of fields

  always : (a : Bool) → (a || true) ≡ true
  always true = refl
  always false = refl

  refused_by : (broken : Bool) (token rule : ℕ) (u : Walk) → broken ≡ true → (noted broken token rule u).findings ≡ [] → ⊥
  refused_by true token rule u is quiet = never_quiet env token rule u quiet
  refused_by false token rule u is quiet = absurd (cc)

  accessed_refused : (field : ℕ) (position : Position) (global : Option ℕ) (name : List ℕ) (w : Walk) (c : Cursor) → w.in_header ≡ true → (accessed env field position global name w).findings ≡ [] → ⊥
  unfolding accessed
  accessed_refused field position global name w c in_header quiet =
      let q = (going_noted env (not w.in_entry) w.at 6 _ c).grows quiet in
      refused_by (not (is_whole position) || w.in_header) w.at 5 _ (ap (λ b. not (is_whole position) || b) in_header ∙ always (not (is_whole position))) q

  head_refused : (field : ℕ) (position : Position) (global : Option ℕ) (name : List ℕ) (key : Walk → Key) (w : Walk) (c : Cursor) → w.in_header ≡ true → (access_head env field position global name key w).findings ≡ [] → ⊥
  unfolding access_head taken past sited
  head_refused field position global name key w c in_header quiet = accessed_refused field position global name w c in_header quiet

  args_grow : (args : List Value) (position : Position) (c : Cursor) (w : Walk) → (fold (λ w a. a.walk position (past env 1 w)) w (map (value_of env) args)).findings ≡ [] → w.findings ≡ []
  args_grow [] position c w q = q
  args_grow (v ∷ args) position c w q = (going_past env 1 w c).grows ((value_goes env scope v position _ c).grows (args_grow args position c _ q))

  arguments_grow : (args : List Value) (position : Position) (c : Cursor) (w : Walk) → (arguments env position (map (value_of env) args) w).findings ≡ [] → w.findings ≡ []
  arguments_grow args position c w q =
      args_grow args position c w ((going_past_if env (nat_eq (length (map (value_of env) args)) 0) 1 _ c).grows ((going_past env 1 _ c).grows q))

  quiet_of : (position : Position) (global : Option ℕ) (name : List ℕ) (args : List Value) (as_read : List Resolving) (key : Walk → Key) (d : Option Declaration) (w : Walk) (c : Cursor)
      → w.in_header ≡ true → (arguments env Inside (map (value_of env) args) (head_of env position global name key d w)).findings ≡ [] → is_access (of_step scope name as_read d c).it ≡ false
  quiet_of position global name args as_read key (Some (declaration.Field n)) w c in_header quiet =
      absurd (head_refused n position global name key w c in_header (arguments_grow args Inside c _ quiet))
  quiet_of position global name args as_read key None w c in_header quiet = no_vector_step _ name as_read c
  quiet_of position global name args as_read key (Some (declaration.Method n)) w c in_header quiet = no_vector_step _ name as_read c
  quiet_of position global name args as_read key (Some (declaration.Parameter n)) w c in_header quiet = no_vector_step _ name as_read c
  quiet_of position global name args as_read key (Some (declaration.Local n)) w c in_header quiet = no_vector_step _ name as_read c

  -- ---- calls

  abbrev InHeaders : walks.Calling → reads.Calling → Type 0
  InHeaders r s = (position : Position) (global : Option ℕ) (w : Walk) (c : Cursor) → AreTogether env w c → (r position global w).findings ≡ [] → w.in_header ≡ true → is_access (s c).it ≡ false

  abbrev walking : CallForm-F CallForm Expr Value → CallForm-F walks.Calling Reading Argument
  walking = map-CallForm CallForm Expr Value walks.Calling Reading Argument (call_of env) (expr_of env) (value_of env)

  abbrev reading : CallForm-F CallForm Expr Value → CallForm-F reads.Calling Resolving Resolving
  reading = map-CallForm CallForm Expr Value reads.Calling Resolving Resolving (reads.call_of scope) (expression_of scope) (reads.value_of scope)

  layer_in_headers : (y : CallForm-F CallForm Expr Value) → InHeaders (walks.call_step env (walking y)) (reads.call_step scope (reading y))
  layer_in_headers (e.Own name args) position global w c together quiet in_header =
      let d = name_here c in
      (no_own_of d (header_at scope d) (reads.arguments (params_of (header_at scope d)) (map (reads.value_of scope) args) (behind_name c)).it).none
  layer_in_headers (e.Of object name args) position global w c together quiet in_header =
      let ms = map (value_of env) args in
      let P : Option Declaration → Type 0 = λ d. (arguments env Inside ms (head_of env position global name (walks.first_key ms) d w)).findings ≡ [] in
      quiet_of position global name args (map (reads.value_of scope) args) (walks.first_key ms) (name_here c) w (behind_name c) in_header (subst P (same_coming env w c together) quiet)
  layer_in_headers (e.OfMember object at name args) position global w c together quiet in_header =
      let i = expression_of scope at (behind_name c) in
      (no_member (reads.taken (types.Value Int) i.it) name (reads.arguments (params_by (vector_method name)) (map (reads.value_of scope) args) i.cursor).it).none

  pub call_in_header : (x : CallForm) → InHeaders (call_of env x) (reads.call_of scope x)
  call_in_header x =
      let y = out-CallForm x in
      let S : CallForm → Type 0 = λ z. InHeaders (call_of env z) (reads.call_of scope z) in
      subst S (roll-out-CallForm x)
      (subst (λ (s : reads.Calling). InHeaders (call_of env (roll-CallForm y)) s) (sym (fold-roll-CallForm reads.Calling Resolving Resolving (reads.call_step scope) (reads.expr_step scope) reads.value_step y))
      (subst (λ (r : walks.Calling). InHeaders r (reads.call_step scope (reading y))) (sym (fold-roll-CallForm walks.Calling Reading Argument (walks.call_step env) (walks.expr_step env) (walks.value_step env) y))
      (layer_in_headers y)))
