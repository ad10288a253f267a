-- A whole value stands behind no `@Global` where the rules on annotations find nothing in it, but for what a `@Partial` local gathers.
use Rattle.std.proofs.Common.{◌≡◌, ℕ, Bool, true, false, not, List, [], ◌∷◌, map, Option, Some, None, refl, sym, ap, subst, ◌∙◌}
use Rattle.java_tree.specs.declared.tree.Expr.{Expr, out-Expr, roll-out-Expr}
use Rattle.java_tree.specs.declared.tree.Value.{Value, out-Value, roll-out-Value}
use Rattle.java_tree.specs.declared.tree.CallForm.{CallForm, out-CallForm, roll-out-CallForm}
use Rattle.java_tree.specs.declared.tree.CallForm.TheOpen.{CallForm-F, Expr-F, Value-F}
use Rattle.java_tree.specs.declared.tree.CallForm.TheOpen as e
use Rattle.java_tree.specs.declared.tree.CallForm.TheFolds.{fold-roll-CallForm, fold-roll-Expr, fold-roll-Value, map-CallForm, map-Expr, map-Value}
use Rattle.java_tree.specs.declared.types.Declaration.{Declaration}
use Rattle.java_tree.specs.declared.types.Declaration.TheVariants as declaration
use Rattle.annotations.specs.declared.position.Position.{Position}
use Rattle.annotations.specs.declared.position.Position.TheVariants.{Inside, Whole}
use Rattle.annotations.specs.declared.site.Key.{Key}
use Rattle.annotations.specs.declared.walk.Env.{Env}
use Rattle.annotations.specs.declared.walk.Walk.{Walk}
use Rattle.annotations.specs.Accesses.{accessed, is_partitioned}
use Rattle.annotations.specs.Expressions.{Argument, Calling, Reading, access_head, call_of, call_step, dotted_head, expr_of, expr_step, first_key, head_of, unmerged_name, value_of, value_step, variable}
use Rattle.annotations.specs.Walks.{coming, kind_at, noted, past, past_if, sited, token_if}
use Rattle.typed_bodies.specs.Expressions.{all_marked}
use Rattle.typed_bodies.specs.Reading.{Place}
use Rattle.typed_bodies.specs.StayLaws.{PartsStay}
use Rattle.typed_bodies.proofs.Marking.{named_grows, never_quiet, noted_grows, past_grows, taken_grows}
use Rattle.typed_bodies.proofs.Marks.{arguments_grow, own_no_global}

module _ (stay : PartsStay) (p : Place) where
  abbrev env : Env
  env = p.marks

  abbrev Refuses : Calling → Type 0
  Refuses call = (at : ℕ) (u : Walk) → (call Whole (Some at) u).findings ≡ [] → ⊥

  -- ---- calls

  args_stay : (args : List Value) (position : Position) (u : Walk) → (all_marked env position (map (value_of env) args) u).findings ≡ [] → u.findings ≡ []
  args_stay [] position u quiet = quiet
  args_stay (v ∷ args) position u quiet = past_grows env 1 u (stay.found_before_value p v position (past env 1 u) (args_stay args position _ quiet))

  access_refused : (n : ℕ) (name : List ℕ) (key : Walk → Key) (at : ℕ) (u : Walk) → (access_head env n Whole (Some at) name key u).findings ≡ [] → ⊥
  unfolding access_head accessed sited
  access_refused n name key at u quiet =
      never_quiet at 8 (noted (is_partitioned (kind_at env n)) at 4 (noted _ u.at 3 u))
      (noted_grows _ u.at 5 _ (noted_grows (not u.in_entry) u.at 6 _ (taken_grows env _ (past_grows env 2 _ quiet))))

  dotted_refused : (at : ℕ) (u : Walk) → (dotted_head env (Some at) u).findings ≡ [] → ⊥
  unfolding dotted_head
  dotted_refused at u quiet = never_quiet at 10 u (named_grows env _ (past_grows env 2 _ quiet))

  head_refused : (name : List ℕ) (key : Walk → Key) (d : Option Declaration) (at : ℕ) (u : Walk) → (head_of env Whole (Some at) name key d u).findings ≡ [] → ⊥
  head_refused name key (Some (declaration.Field n)) at u quiet = access_refused n name key at u quiet
  head_refused name key (Some (declaration.Method n)) at u quiet = dotted_refused at u quiet
  head_refused name key (Some (declaration.Parameter n)) at u quiet = dotted_refused at u quiet
  head_refused name key (Some (declaration.Local n)) at u quiet = dotted_refused at u quiet
  head_refused name key None at u quiet = dotted_refused at u quiet

  abbrev marked_call : CallForm-F CallForm Expr Value → CallForm-F Calling Reading Argument
  marked_call = map-CallForm CallForm Expr Value Calling Reading Argument (call_of env) (expr_of env) (value_of env)

  call_layer : (y : CallForm-F CallForm Expr Value) → Refuses (call_step env (marked_call y))
  call_layer (e.Own name args) at u quiet = own_no_global p (map (value_of env) args) (args_stay args) Whole at u quiet
  call_layer (e.Of object name args) at u quiet =
      let ms = map (value_of env) args in
      head_refused name (first_key ms) (coming env u) at u (arguments_grow p ms (args_stay args) Inside _ quiet)
  call_layer (e.OfMember object index name args) at u quiet =
      let ms = map (value_of env) args in
      never_quiet at 10 u (named_grows env _ (past_grows env 1 _ (stay.found_before p index Inside None _ (past_grows env 3 _ (arguments_grow p ms (args_stay args) Inside _ quiet)))))

  call_refused : (c : CallForm) → Refuses (call_of env c)
  call_refused c =
      subst Refuses (sym (ap (λ (z : CallForm). call_of env z) (sym (roll-out-CallForm c)) ∙ fold-roll-CallForm Calling Reading Argument (call_step env) (expr_step env) (value_step env) (out-CallForm c)))
      (call_layer (out-CallForm c))

  -- ---- expressions

  name_refused : (at : ℕ) (u : Walk) → (variable env Whole (Some at) u).findings ≡ [] → ⊥
  unfolding variable unmerged_name
  name_refused at u quiet = never_quiet at 10 u (noted_grows _ u.at 12 _ (named_grows env _ quiet))

  abbrev marked : Expr-F CallForm Expr Value → Expr-F Calling Reading Argument
  marked = map-Expr CallForm Expr Value Calling Reading Argument (call_of env) (expr_of env) (value_of env)

  abbrev StaysInside : Reading → Type 0
  StaysInside r = (u : Walk) → (r.walk Inside None u).findings ≡ [] → u.findings ≡ []

  abbrev RefusesRead : Reading → Type 0
  RefusesRead r = (at : ℕ) (u : Walk) → (r.walk Whole (Some at) u).findings ≡ [] → ⊥

  layer_refused : (y : Expr-F CallForm Expr Value) → StaysInside (expr_step env (marked y)) → RefusesRead (expr_step env (marked y))
  layer_refused (e.Conditional test first second) stays at u quiet = never_quiet at 10 u (stays _ quiet)
  layer_refused (e.Binary op left right) stays at u quiet = never_quiet at 10 u (stays _ quiet)
  layer_refused (e.Unary op part) stays at u quiet = never_quiet at 10 u (stays _ quiet)
  layer_refused (e.Cast to part) stays at u quiet = never_quiet at 10 u (stays _ quiet)
  layer_refused (e.Number digits decimal long) stays at u quiet = never_quiet at 10 u (stays _ quiet)
  layer_refused (e.Bool b) stays at u quiet = never_quiet at 10 u (stays _ quiet)
  layer_refused (e.Paren inner) stays at u quiet = never_quiet at 10 u (stays _ quiet)
  layer_refused (e.New name size) stays at u quiet = never_quiet at 10 u (stays _ quiet)
  layer_refused (e.Name name) stays at u quiet = name_refused at u quiet
  layer_refused (e.Index name index) stays at u quiet = never_quiet at 10 u (stays _ quiet)
  layer_refused (e.Member object name) stays at u quiet = never_quiet at 10 u (stays _ quiet)
  layer_refused (e.Call call) stays at u quiet = call_refused call at u quiet

  expression_refused : (x : Expr) → RefusesRead (expr_of env x)
  expression_refused x =
      let is : expr_of env x ≡ expr_step env (marked (out-Expr x)) =
      ap (λ (z : Expr). expr_of env z) (sym (roll-out-Expr x)) ∙ fold-roll-Expr Calling Reading Argument (call_step env) (expr_step env) (value_step env) (out-Expr x) in
      subst RefusesRead (sym is) (layer_refused (out-Expr x) (subst StaysInside is (stay.found_before p x Inside None)))

  -- ---- values

  abbrev of_value : Value → Argument
  of_value v = value_step env (map-Value CallForm Expr Value Calling Reading Argument (call_of env) (expr_of env) (value_of env) (out-Value v))

  pub whole_no_global : (v : Value) (u : Walk) → ((value_of env v).walk Whole u).findings ≡ [] → (out-Value v).is_global ≡ false
  whole_no_global v u quiet =
      let is : value_of env v ≡ of_value v =
      ap (λ (z : Value). value_of env z) (sym (roll-out-Value v)) ∙ fold-roll-Value Calling Reading Argument (call_step env) (expr_step env) (value_step env) (out-Value v) in
      by (out-Value v).is_global (ap (λ (m : Argument). (m.walk Whole u).findings) (sym is) ∙ quiet)
    where
      by : (b : Bool) → ((expr_of env (out-Value v).expr).walk Whole (token_if b u.at) (past_if env b 2 u)).findings ≡ [] → b ≡ false
      by true q = absurd (expression_refused (out-Value v).expr u.at (past_if env true 2 u) q)
      by false q = refl
