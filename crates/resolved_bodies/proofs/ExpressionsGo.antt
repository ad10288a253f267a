-- The walk of the rules on annotations over an expression passes the names that are read as it is resolved, and no others.
use Rattle.std.proofs.Common.{◌≡◌, ℕ, zero, suc, Bool, true, false, List, [], ◌∷◌, length, map, fold, slice_get, Option, Some, None, nat_eq, ◌&&◌, ◌||◌, not, if◌then◌else◌, is_some, refl, sym, ap, subst, ◌∙◌}
use Rattle.java_tree.specs.declared.tree.Expr.{Expr, roll-Expr}
use Rattle.java_tree.specs.declared.tree.Value.{Value, roll-Value}
use Rattle.java_tree.specs.declared.tree.CallForm.{CallForm, roll-CallForm}
use Rattle.java_tree.specs.declared.tree.CallForm.TheOpen.{CallForm-F, Expr-F, Value-F}
use Rattle.java_tree.specs.declared.tree.CallForm.TheOpen as e
use Rattle.java_tree.specs.declared.tree.CallForm.TheFolds.{fold-roll-CallForm, fold-roll-Expr, fold-roll-Value, ind-CallForm, ind-Expr, ind-Value, map-CallForm, map-Expr, map-Value}
use Rattle.java_tree.specs.declared.types.ExprType.{ExprType}
use Rattle.java_tree.specs.declared.types.Declaration.{Declaration}
use Rattle.java_tree.specs.declared.types.Declaration.TheVariants as declaration
use Rattle.annotations.specs.declared.position.Position.{Position}
use Rattle.annotations.specs.declared.position.Position.TheVariants.{Inside}
use Rattle.annotations.specs.declared.site.Key.{Key}
use Rattle.annotations.specs.declared.walk.Env.{Env}
use Rattle.annotations.specs.declared.walk.Walk.{Walk}
use Rattle.annotations.specs.Walks.{past, past_if, past_none, token_if, noted, noted_at, coming, taken, named, is_collection, is_merge_method, kind_at}
use Rattle.annotations.specs.Positions.{is_whole, is_for_global, is_for_merge}
use Rattle.annotations.specs.Accesses.{accessed, globally, is_partitioned, is_keyed, method_at, reach_of}
use Rattle.annotations.specs.Expressions as walks
use Rattle.annotations.specs.Expressions.{Argument, Reading, is_merged, alone, unmerged_name, variable, inside, arguments, argument_position, own_head, own_call, access_head, dotted_head, head_of, expr_of, value_of, call_of}
use Rattle.access_blocks.specs.declared.body.Expression.{Expression}
use Rattle.access_blocks.specs.declared.scope.Scope.{Scope}
use Rattle.access_blocks.specs.Cursors.{Cursor, Read, read, type_here, behind_type, name_here, behind_name, behind_site, variable_of}
use Rattle.access_blocks.specs.Resolving as reads
use Rattle.access_blocks.specs.Resolving.{Resolving, argued, expression_of}
use Rattle.resolved_bodies.specs.Together.{Goes}
use Rattle.resolved_bodies.proofs.Going.{here, further, going_past, going_past_if, going_noted, going_noted_at, going_taken, going_named, going_unfit, going_unexpected, going_sited}

module _ (env : Env) where
  -- ---- names

  going_alone : (position : Position) (global : Option ℕ) (w : Walk) (c : Cursor) → Goes env w (alone position global w) c c
  going_alone position None w c = going_unfit env position w c
  going_alone position (Some at) w c = here env w c

  going_unmerged_name : (position : Position) (global : Option ℕ) (w : Walk) (c : Cursor) → Goes env w (unmerged_name env position global w) c (behind_name c)
  unfolding unmerged_name
  going_unmerged_name position global w c =
      further env (going_alone position global w c) (further env (going_noted_at env global 10 _ c)
      (further env (going_noted env (is_collection w (coming env w)) w.at 12 _ c) (going_named env _ c)))

  merged_or_not : (b : Bool) (position : Position) (global : Option ℕ) (w : Walk) (c : Cursor)
      → Goes env w (if b then (record (taken env w) { awaited = None }) else unmerged_name env position global w) c (behind_name c)
  merged_or_not true position global w c = let t = going_taken env w c in record { grows = t.grows; stays = t.stays; together = t.together }
  merged_or_not false position global w c = going_unmerged_name position global w c

  going_variable : (position : Position) (global : Option ℕ) (w : Walk) (c : Cursor) → Goes env w (variable env position global w) c (behind_name c)
  unfolding variable
  going_variable position global w c = merged_or_not (is_merged env position global w) position global w c

  -- ---- accesses

  going_globally : (position : Position) (global : Option ℕ) (partitioned : Bool) (w : Walk) (c : Cursor) → Goes env w (globally position global partitioned w) c c
  going_globally position None partitioned w c = here env w c
  going_globally position (Some at) partitioned w c = further env (going_noted env partitioned at 4 w c) (going_noted env (not (is_for_global position)) at 8 _ c)

  pub going_accessed : (field : ℕ) (position : Position) (global : Option ℕ) (name : List ℕ) (w : Walk) (c : Cursor) → Goes env w (accessed env field position global name w) c c
  unfolding accessed
  going_accessed field position global name w c =
      let partitioned = is_partitioned (kind_at env field) in
      further env (going_noted env (partitioned && not (is_keyed (method_at env field name))) w.at 3 w c)
      (further env (going_globally position global partitioned _ c)
      (further env (going_noted env (not (is_whole position) || w.in_header) w.at 5 _ c) (going_noted env (not w.in_entry) w.at 6 _ c)))

  pub going_access_head : (field : ℕ) (position : Position) (global : Option ℕ) (name : List ℕ) (key : Walk → Key) (w : Walk) (c : Cursor)
      → Goes env w (access_head env field position global name key w) c (behind_name c)
  unfolding access_head
  going_access_head field position global name key w c =
      let o = taken env (accessed env field position global name w) in
      further env (going_accessed field position global name w c) (further env (going_taken env _ c)
      (further env (going_sited env field (reach_of (kind_at env field) (is_some global) (key o)) o _) (going_past env 2 _ _)))

  going_dotted_head : (global : Option ℕ) (w : Walk) (c : Cursor) → Goes env w (dotted_head env global w) c (behind_name c)
  unfolding dotted_head
  going_dotted_head global w c = further env (going_noted_at env global 10 w c) (further env (going_named env _ c) (going_past env 2 _ _))

  going_head : (position : Position) (global : Option ℕ) (name : List ℕ) (key : Walk → Key) (d : Option Declaration) (w : Walk) (c : Cursor)
      → Goes env w (head_of env position global name key d w) c (behind_name c)
  going_head position global name key None w c = going_dotted_head global w c
  going_head position global name key (Some (declaration.Field n)) w c = going_access_head n position global name key w c
  going_head position global name key (Some (declaration.Method n)) w c = going_dotted_head global w c
  going_head position global name key (Some (declaration.Parameter n)) w c = going_dotted_head global w c
  going_head position global name key (Some (declaration.Local n)) w c = going_dotted_head global w c

  going_own_head : (count : ℕ) (w : Walk) (c : Cursor) → Goes env w (own_head env count w) c (behind_name c)
  unfolding own_head
  going_own_head count w c = further env (going_noted env (is_merge_method env (coming env w) && not (nat_eq count 1)) w.at 12 w c) (going_taken env _ c)

  module _ (scope : Scope) where
    -- ---- what goes over a part of an expression, and over its arguments

    abbrev Part : Reading → Resolving → Type 0
    Part r s = (position : Position) (global : Option ℕ) (w : Walk) (c : Cursor) → Goes env w (r.walk position global w) c (s c).cursor

    abbrev Arg : Argument → Resolving → Type 0
    Arg a s = (position : Position) (w : Walk) (c : Cursor) → Goes env w (a.walk position w) c (s c).cursor

    abbrev Call : walks.Calling → reads.Calling → Type 0
    Call r s = (position : Position) (global : Option ℕ) (w : Walk) (c : Cursor) → Goes env w (r position global w) c (s c).cursor

    abbrev GoesCall : CallForm → Type 0
    GoesCall x = Call (call_of env x) (reads.call_of scope x)

    abbrev GoesPart : Expr → Type 0
    GoesPart x = Part (expr_of env x) (expression_of scope x)

    abbrev GoesArg : Value → Type 0
    GoesArg x = Arg (value_of env x) (reads.value_of scope x)

    abbrev TheCall : Type 0
    TheCall = (x : CallForm) × GoesCall x

    abbrev ThePart : Type 0
    ThePart = (x : Expr) × GoesPart x

    abbrev TheArg : Type 0
    TheArg = (x : Value) × GoesArg x

    abbrev bare : Expr-F TheCall ThePart TheArg → Expr-F CallForm Expr Value
    bare = map-Expr TheCall ThePart TheArg CallForm Expr Value (λ c. c.0) (λ x. x.0) (λ v. v.0)

    abbrev walking : Expr-F CallForm Expr Value → Expr-F walks.Calling Reading Argument
    walking = map-Expr CallForm Expr Value walks.Calling Reading Argument (call_of env) (expr_of env) (value_of env)

    abbrev reading : Expr-F CallForm Expr Value → Expr-F reads.Calling Resolving Resolving
    reading = map-Expr CallForm Expr Value reads.Calling Resolving Resolving (reads.call_of scope) (expression_of scope) (reads.value_of scope)

    -- ---- arguments

    -- before the arguments that are read so far
    going_arguments_of : (position : Position) (params : List ExprType) (args : List TheArg) (before : Read (List Expression)) (w : Walk)
        → Goes env w (fold (λ w a. a.walk position (past env 1 w)) w (map (value_of env) (map (λ (v : TheArg). v.0) args))) before.cursor
        (fold (argued params) before (map (reads.value_of scope) (map (λ (v : TheArg). v.0) args))).cursor
    going_arguments_of position params [] before w = here env w before.cursor
    going_arguments_of position params (v ∷ args) before w =
        further env (going_past env 1 w before.cursor) (further env (v.1 position _ before.cursor)
        (going_arguments_of position params args (argued params before (reads.value_of scope v.0)) _))

    going_arguments : (position : Position) (params : List ExprType) (args : List TheArg) (w : Walk) (c : Cursor)
        → Goes env w (arguments env position (map (value_of env) (map (λ (v : TheArg). v.0) args)) w) c
        (reads.arguments params (map (reads.value_of scope) (map (λ (v : TheArg). v.0) args)) c).cursor
    going_arguments position params args w c =
        let ms = map (value_of env) (map (λ (v : TheArg). v.0) args) in
        further env (going_arguments_of position params args (read [] c) w) (further env (going_past_if env (nat_eq (length ms) 0) 1 _ _) (going_past env 1 _ _))

    -- ---- expressions

    going_expr : (y : Expr-F TheCall ThePart TheArg) (position : Position) (global : Option ℕ) (t : ExprType) (w : Walk) (c : Cursor)
        → Goes env w (walks.walk_step env (walking (bare y)) position global w) c (reads.parts scope (reading (bare y)) t c).cursor
    going_expr (e.Name name) position global t w c = going_variable position global w c
    going_expr (e.Call call) position global t w c = further env (going_unfit env position w c) (call.1 position global _ c)
    going_expr (e.Conditional test first second) position global t w c =
        further env (going_unexpected env position global w c) (further env (test.1 Inside None _ _) (further env (going_past env 1 _ _)
        (further env (first.1 Inside None _ _) (further env (going_past env 1 _ _) (second.1 Inside None _ _)))))
    going_expr (e.Binary op left right) position global t w c =
        further env (going_unexpected env position global w c) (further env (left.1 Inside None _ _) (further env (going_past env 1 _ _) (right.1 Inside None _ _)))
    going_expr (e.Unary op part) position global t w c = further env (going_unexpected env position global w c) (further env (going_past env 1 _ _) (part.1 Inside None _ _))
    going_expr (e.Cast to part) position global t w c = further env (going_unexpected env position global w c) (further env (going_past env 3 _ _) (part.1 Inside None _ _))
    going_expr (e.Number digits decimal long) position global t w c = further env (going_unexpected env position global w c) (going_past env 1 _ _)
    going_expr (e.Bool b) position global t w c = further env (going_unexpected env position global w c) (going_past env 1 _ _)
    going_expr (e.Paren inner) position global t w c =
        further env (going_unexpected env position global w c) (further env (going_past env 1 _ _) (further env (inner.1 Inside None _ _) (going_past env 1 _ _)))
    going_expr (e.New name size) position global t w c =
        further env (going_unexpected env position global w c) (further env (going_past env 3 _ _) (further env (size.1 Inside None _ _) (going_past env 1 _ _)))
    going_expr (e.Index name at) position global t w c =
        further env (going_unexpected env position global w c) (further env (going_named env _ _) (further env (going_past env 1 _ _)
        (further env (at.1 Inside None _ _) (going_past env 1 _ _))))
    going_expr (e.Member object name) position global t w c =
        further env (going_unexpected env position global w c) (further env (going_named env _ _) (going_past env 2 _ _))

    -- with its type, which is read before its parts
    of_type : {w v : Walk} (c : Cursor) {k : Cursor} → Goes env w v (behind_type c) k → Goes env w v c k
    of_type c g = record { grows = g.grows; stays = g.stays; together = g.together }

    expr_made : (x : Expr-F CallForm Expr Value) (y : Expr-F TheCall ThePart TheArg) → bare y ≡ x → GoesPart (roll-Expr x)
    expr_made x y is =
        let P : Expr-F CallForm Expr Value → Type 0 = λ x. Part (walks.expr_step env (walking x)) (reads.expr_step scope (reading x)) in
        let Q : Reading → Type 0 = λ r. Part r (reads.expr_step scope (reading x)) in
        let R : Resolving → Type 0 = λ s. Part (expr_of env (roll-Expr x)) s in
        subst R (sym (fold-roll-Expr reads.Calling Resolving Resolving (reads.call_step scope) (reads.expr_step scope) reads.value_step x))
        (subst Q (sym (fold-roll-Expr walks.Calling Reading Argument (walks.call_step env) (walks.expr_step env) (walks.value_step env) x))
        (subst P is (λ position global w c. of_type c (going_expr y position global (type_here c) w (behind_type c)))))

    -- ---- values

    abbrev bare_value : Value-F TheCall ThePart TheArg → Value-F CallForm Expr Value
    bare_value = map-Value TheCall ThePart TheArg CallForm Expr Value (λ c. c.0) (λ x. x.0) (λ v. v.0)

    abbrev walking_value : Value-F CallForm Expr Value → Value-F walks.Calling Reading Argument
    walking_value = map-Value CallForm Expr Value walks.Calling Reading Argument (call_of env) (expr_of env) (value_of env)

    abbrev reading_value : Value-F CallForm Expr Value → Value-F reads.Calling Resolving Resolving
    reading_value = map-Value CallForm Expr Value reads.Calling Resolving Resolving (reads.call_of scope) (expression_of scope) (reads.value_of scope)

    value_made : (x : Value-F CallForm Expr Value) (y : Value-F TheCall ThePart TheArg) → bare_value y ≡ x → GoesArg (roll-Value x)
    value_made x y is =
        let P : Value-F CallForm Expr Value → Type 0 = λ x. Arg (walks.value_step env (walking_value x)) (reads.value_step (reading_value x)) in
        let Q : Argument → Type 0 = λ r. Arg r (reads.value_step (reading_value x)) in
        let R : Resolving → Type 0 = λ s. Arg (value_of env (roll-Value x)) s in
        subst R (sym (fold-roll-Value reads.Calling Resolving Resolving (reads.call_step scope) (reads.expr_step scope) reads.value_step x))
        (subst Q (sym (fold-roll-Value walks.Calling Reading Argument (walks.call_step env) (walks.expr_step env) (walks.value_step env) x))
        (subst P is (λ position w c. further env (going_past_if env y.is_global 2 w c) (y.expr.1 position (token_if y.is_global w.at) _ c))))

    -- ---- calls

    abbrev bare_call : CallForm-F TheCall ThePart TheArg → CallForm-F CallForm Expr Value
    bare_call = map-CallForm TheCall ThePart TheArg CallForm Expr Value (λ c. c.0) (λ x. x.0) (λ v. v.0)

    abbrev walking_call : CallForm-F CallForm Expr Value → CallForm-F walks.Calling Reading Argument
    walking_call = map-CallForm CallForm Expr Value walks.Calling Reading Argument (call_of env) (expr_of env) (value_of env)

    abbrev reading_call : CallForm-F CallForm Expr Value → CallForm-F reads.Calling Resolving Resolving
    reading_call = map-CallForm CallForm Expr Value reads.Calling Resolving Resolving (reads.call_of scope) (expression_of scope) (reads.value_of scope)

    -- behind a name, of what the name stands for
    going_of : (name : List ℕ) (args : List TheArg) (d : Option Declaration) (w : Walk) (c : Cursor)
        → Goes env w (arguments env Inside (map (value_of env) (map (λ (v : TheArg). v.0) args)) w) c
        (reads.of_step scope name (map (reads.value_of scope) (map (λ (v : TheArg). v.0) args)) d c).cursor
    going_of name args None w c = going_arguments Inside _ args w c
    going_of name args (Some (declaration.Field n)) w c =
        let g = going_arguments Inside (reads.params_by _) args w (behind_site c) in
        record { grows = g.grows; stays = g.stays; together = g.together }
    going_of name args (Some (declaration.Method n)) w c = going_arguments Inside _ args w c
    going_of name args (Some (declaration.Parameter n)) w c = going_arguments Inside _ args w c
    going_of name args (Some (declaration.Local n)) w c = going_arguments Inside _ args w c

    call_layer : (y : CallForm-F TheCall ThePart TheArg) → Call (walks.call_step env (walking_call (bare_call y))) (reads.call_step scope (reading_call (bare_call y)))
    call_layer (e.Own name args) position global w c =
        let ms = map (value_of env) (map (λ (v : TheArg). v.0) args) in
        further env (going_noted_at env global 10 w c) (further env (going_own_head (length ms) _ c) (going_arguments _ _ args _ (behind_name c)))
    call_layer (e.Of object name args) position global w c =
        let ms = map (value_of env) (map (λ (v : TheArg). v.0) args) in
        further env (going_head position global name (walks.first_key ms) (coming env w) w c) (going_of name args (name_here c) _ (behind_name c))
    call_layer (e.OfMember object at name args) position global w c =
        further env (going_noted_at env global 10 w c) (further env (going_named env _ c) (further env (going_past env 1 _ _)
        (further env (at.1 Inside None _ _) (further env (going_past env 3 _ _) (going_arguments Inside _ args _ _)))))

    call_made : (x : CallForm-F CallForm Expr Value) (y : CallForm-F TheCall ThePart TheArg) → bare_call y ≡ x → GoesCall (roll-CallForm x)
    call_made x y is =
        let P : CallForm-F CallForm Expr Value → Type 0 = λ x. Call (walks.call_step env (walking_call x)) (reads.call_step scope (reading_call x)) in
        let Q : walks.Calling → Type 0 = λ r. Call r (reads.call_step scope (reading_call x)) in
        let R : reads.Calling → Type 0 = λ s. Call (call_of env (roll-CallForm x)) s in
        subst R (sym (fold-roll-CallForm reads.Calling Resolving Resolving (reads.call_step scope) (reads.expr_step scope) reads.value_step x))
        (subst Q (sym (fold-roll-CallForm walks.Calling Reading Argument (walks.call_step env) (walks.expr_step env) (walks.value_step env) x))
        (subst P is (call_layer y)))

    pub expression_goes : (x : Expr) → GoesPart x
    expression_goes = ind-Expr GoesCall GoesPart GoesArg call_made expr_made value_made

    pub value_goes : (x : Value) → GoesArg x
    value_goes = ind-Value GoesCall GoesPart GoesArg call_made expr_made value_made

    pub call_goes : (x : CallForm) → GoesCall x
    call_goes = ind-CallForm GoesCall GoesPart GoesArg call_made expr_made value_made
