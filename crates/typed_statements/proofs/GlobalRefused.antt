-- Where the rules on annotations find nothing, no whole value stands behind `@Global`, and in the header of a loop no call does.
use Rattle.std.proofs.Common.{◌≡◌, ℕ, Bool, true, false, not, ◌&&◌, ◌||◌, List, [], ◌∷◌, length, map, fold, nat_eq, Option, Some, None, refl, sym, ap, subst, ◌∙◌, ◌⊎◌, inl, inr}
use Rattle.java_tree.specs.declared.tree.Expr.{Expr, out-Expr, roll-out-Expr}
use Rattle.java_tree.specs.declared.tree.Value.{Value, out-Value, roll-out-Value}
use Rattle.java_tree.specs.declared.tree.CallForm.{CallForm, out-CallForm, roll-out-CallForm}
use Rattle.java_tree.specs.declared.tree.CallForm.TheOpen.{CallForm-F, Expr-F}
use Rattle.java_tree.specs.declared.tree.CallForm.TheOpen as e
use Rattle.java_tree.specs.declared.tree.CallForm.TheFolds.{fold-roll-CallForm, fold-roll-Expr, fold-roll-Value, map-CallForm, map-Expr}
use Rattle.java_tree.specs.declared.types.Declaration.{Declaration}
use Rattle.java_tree.specs.declared.types.Declaration.TheVariants as declaration
use Rattle.annotations.specs.declared.position.Position.{Position}
use Rattle.annotations.specs.declared.position.Position.TheVariants.{Inside, Whole}
use Rattle.annotations.specs.declared.site.Key.{Key}
use Rattle.annotations.specs.declared.walk.Env.{Env}
use Rattle.annotations.specs.declared.walk.Walk.{Walk}
use Rattle.annotations.specs.Walks.{past, past_if, token_if, noted, coming, taken, is_collection, kind_at, sited}
use Rattle.annotations.specs.Positions.{is_whole, is_for_global}
use Rattle.annotations.specs.Accesses.{accessed, globally, is_partitioned, is_keyed, method_at}
use Rattle.annotations.specs.Expressions.{Argument, Reading, Calling, unmerged_name, variable, arguments, first_key, access_head, dotted_head, head_of, call_step, expr_step, value_step, walk_step, expr_of, value_of, call_of}
use Rattle.typed_statements.proofs.Keeping.{Keeps, kept, keeps_on, keeps_past, keeps_past_if, keeps_noted, keeps_named, keeps_own_head}
use Rattle.typed_statements.proofs.ExpressionsKeep.{expression_keeps, value_keeps}
use Rattle.typed_statements.proofs.Steps.{noted_findings}

refused_by : (broken : Bool) (token rule : ℕ) (u : Walk) → broken ≡ true → (noted broken token rule u).findings ≡ [] → ⊥
refused_by true token rule u is quiet = noted_findings token rule u quiet
refused_by false token rule u is quiet = absurd (cc)

-- no place for what stands behind `@Global`
abbrev pub IsNoPlace : Position → Walk → Type 0
IsNoPlace position u = (is_for_global position ≡ false) ⊎ (u.in_header ≡ true)

or_true : (a b : Bool) → b ≡ true → (a || b) ≡ true
or_true true b e = refl
or_true false b e = e

module _ (env : Env) where
  -- ---- calls

  keeps_each : (args : List Value) (position : Position) (u : Walk) → Keeps u (fold (λ u a. a.walk position (past env 1 u)) u (map (value_of env) args))
  keeps_each [] position u = kept u
  keeps_each (v ∷ args) position u = keeps_on (keeps_past env 1 u) (keeps_on (value_keeps env v position _) (keeps_each args position _))

  keeps_arguments : (args : List Value) (position : Position) (u : Walk) → Keeps u (arguments env position (map (value_of env) args) u)
  keeps_arguments args position u =
      keeps_on (keeps_each args position u) (keeps_on (keeps_past_if env (nat_eq (length (map (value_of env) args)) 0) 1 _) (keeps_past env 1 _))

  globally_refused : (position : Position) (at : ℕ) (partitioned : Bool) (u : Walk) → is_for_global position ≡ false → (globally position (Some at) partitioned u).findings ≡ [] → ⊥
  globally_refused position at partitioned u none q = refused_by (not (is_for_global position)) at 8 _ (ap not none) q

  accessed_refused : (field : ℕ) (position : Position) (at : ℕ) (name : List ℕ) (u : Walk) → IsNoPlace position u → (accessed env field position (Some at) name u).findings ≡ [] → ⊥
  unfolding accessed
  accessed_refused field position at name u none q =
      let partitioned = is_partitioned (kind_at env field) in
      let keyed = noted (partitioned && not (is_keyed (method_at env field name))) u.at 3 u in
      let global = globally position (Some at) partitioned keyed in
      let before_entry = (keeps_noted env (not u.in_entry) u.at 6 (noted (not (is_whole position) || u.in_header) u.at 5 global)).back q in
      place none (λ n. globally_refused position at partitioned keyed n ((keeps_noted env (not (is_whole position) || u.in_header) u.at 5 global).back before_entry))
      (λ h. refused_by (not (is_whole position) || u.in_header) u.at 5 global (or_true (not (is_whole position)) u.in_header h) before_entry)
    where
      place : IsNoPlace position u → (is_for_global position ≡ false → ⊥) → (u.in_header ≡ true → ⊥) → ⊥
      place (inl n) f g = f n
      place (inr h) f g = g h

  access_refused : (field : ℕ) (position : Position) (at : ℕ) (name : List ℕ) (key : Walk → Key) (u : Walk) → IsNoPlace position u → (access_head env field position (Some at) name key u).findings ≡ [] → ⊥
  unfolding access_head taken past sited
  access_refused field position at name key u none q = accessed_refused field position at name u none q

  dotted_refused : (at : ℕ) (u : Walk) → (dotted_head env (Some at) u).findings ≡ [] → ⊥
  unfolding dotted_head
  dotted_refused at u q = noted_findings at 10 u ((keeps_named env (noted true at 10 u)).back ((keeps_past env 2 _).back q))

  head_refused : (position : Position) (at : ℕ) (name : List ℕ) (key : Walk → Key) (d : Option Declaration) (u : Walk) → IsNoPlace position u
      → (head_of env position (Some at) name key d u).findings ≡ [] → ⊥
  head_refused position at name key None u none q = dotted_refused at u q
  head_refused position at name key (Some (declaration.Field n)) u none q = access_refused n position at name key u none q
  head_refused position at name key (Some (declaration.Method n)) u none q = dotted_refused at u q
  head_refused position at name key (Some (declaration.Parameter n)) u none q = dotted_refused at u q
  head_refused position at name key (Some (declaration.Local n)) u none q = dotted_refused at u q

  abbrev Refuses : Calling → Type 0
  Refuses r = (position : Position) (at : ℕ) (u : Walk) → IsNoPlace position u → (r position (Some at) u).findings ≡ [] → ⊥

  abbrev walking_call : CallForm-F CallForm Expr Value → CallForm-F Calling Reading Argument
  walking_call = map-CallForm CallForm Expr Value Calling Reading Argument (call_of env) (expr_of env) (value_of env)

  layer_refused : (y : CallForm-F CallForm Expr Value) → Refuses (call_step env (walking_call y))
  layer_refused (e.Own name args) position at u none q =
      noted_findings at 10 u ((keeps_own_head env (length (map (value_of env) args)) (noted true at 10 u)).back ((keeps_arguments args _ _).back q))
  layer_refused (e.Of object name args) position at u none q =
      head_refused position at name (first_key (map (value_of env) args)) (coming env u) u none ((keeps_arguments args Inside _).back q)
  layer_refused (e.OfMember object index name args) position at u none q =
      noted_findings at 10 u ((keeps_named env (noted true at 10 u)).back ((keeps_past env 1 _).back ((expression_keeps env index Inside None _).back ((keeps_past env 3 _).back ((keeps_arguments args Inside _).back q)))))

  pub call_refused : (x : CallForm) → Refuses (call_of env x)
  call_refused x =
      subst (λ (z : CallForm). Refuses (call_of env z)) (roll-out-CallForm x)
      (subst Refuses (sym (fold-roll-CallForm Calling Reading Argument (call_step env) (expr_step env) (value_step env) (out-CallForm x))) (layer_refused (out-CallForm x)))

  -- ---- whole values

  unmerged_refused : (at : ℕ) (u : Walk) → (unmerged_name env Whole (Some at) u).findings ≡ [] → ⊥
  unfolding unmerged_name
  unmerged_refused at u q = noted_findings at 10 u ((keeps_noted env (is_collection u (coming env u)) u.at 12 _).back ((keeps_named env _).back q))

  variable_refused : (at : ℕ) (u : Walk) → (variable env Whole (Some at) u).findings ≡ [] → ⊥
  unfolding variable
  variable_refused at u q = unmerged_refused at u q

  abbrev walking : Expr-F CallForm Expr Value → Expr-F Calling Reading Argument
  walking = map-Expr CallForm Expr Value Calling Reading Argument (call_of env) (expr_of env) (value_of env)

  -- an expression whose parts stand behind what is found
  parts_refused : (x : Expr) (layer : Expr-F CallForm Expr Value) → expr_of env x ≡ expr_step env (walking layer) → (at : ℕ) (u : Walk)
      → walk_step env (walking layer) Whole (Some at) u ≡ walk_step env (walking layer) Inside None (noted true at 10 u)
      → ((expr_of env x).walk Whole (Some at) u).findings ≡ [] → ⊥
  parts_refused x layer is at u alike q =
      let one : (expr_of env x).walk Whole (Some at) u ≡ walk_step env (walking layer) Whole (Some at) u = ap (λ (r : Reading). r.walk Whole (Some at) u) is in
      let other : (expr_of env x).walk Inside None (noted true at 10 u) ≡ walk_step env (walking layer) Inside None (noted true at 10 u) =
      ap (λ (r : Reading). r.walk Inside None (noted true at 10 u)) is in
      noted_findings at 10 u ((expression_keeps env x Inside None (noted true at 10 u)).back (ap (λ (v : Walk). v.findings) (other ∙ (sym alike ∙ sym one)) ∙ q))

  whole_refused : (x : Expr) (layer : Expr-F CallForm Expr Value) → expr_of env x ≡ expr_step env (walking layer) → (at : ℕ) (u : Walk) → ((expr_of env x).walk Whole (Some at) u).findings ≡ [] → ⊥
  whole_refused x (e.Name name) is at u q = variable_refused at u (ap (λ (r : Reading). (r.walk Whole (Some at) u).findings) (sym is) ∙ q)
  whole_refused x (e.Call call) is at u q = call_refused call Whole at u (inl refl) (ap (λ (r : Reading). (r.walk Whole (Some at) u).findings) (sym is) ∙ q)
  whole_refused x (e.Conditional test first second) is at u q = parts_refused x (e.Conditional test first second) is at u refl q
  whole_refused x (e.Binary op left right) is at u q = parts_refused x (e.Binary op left right) is at u refl q
  whole_refused x (e.Unary op part) is at u q = parts_refused x (e.Unary op part) is at u refl q
  whole_refused x (e.Cast to part) is at u q = parts_refused x (e.Cast to part) is at u refl q
  whole_refused x (e.Number digits decimal long) is at u q = parts_refused x (e.Number digits decimal long) is at u refl q
  whole_refused x (e.Bool b) is at u q = parts_refused x (e.Bool b) is at u refl q
  whole_refused x (e.Paren inner) is at u q = parts_refused x (e.Paren inner) is at u refl q
  whole_refused x (e.New name size) is at u q = parts_refused x (e.New name size) is at u refl q
  whole_refused x (e.Index name index) is at u q = parts_refused x (e.Index name index) is at u refl q
  whole_refused x (e.Member object name) is at u q = parts_refused x (e.Member object name) is at u refl q

  expression_refused : (x : Expr) (at : ℕ) (u : Walk) → ((expr_of env x).walk Whole (Some at) u).findings ≡ [] → ⊥
  expression_refused x =
      whole_refused x (out-Expr x) (ap (λ (z : Expr). expr_of env z) (sym (roll-out-Expr x)) ∙ fold-roll-Expr Calling Reading Argument (call_step env) (expr_step env) (value_step env) (out-Expr x))

  value_walked : (v : Value) (position : Position) (u : Walk)
      → (value_of env v).walk position u ≡ (expr_of env (out-Value v).expr).walk position (token_if (out-Value v).is_global u.at) (past_if env (out-Value v).is_global 2 u)
  value_walked v position u =
      ap (λ (z : Value). (value_of env z).walk position u) (sym (roll-out-Value v))
      ∙ ap (λ (a : Argument). a.walk position u) (fold-roll-Value Calling Reading Argument (call_step env) (expr_step env) (value_step env) (out-Value v))

  pub whole_value_alone : (v : Value) (u : Walk) → ((value_of env v).walk Whole u).findings ≡ [] → (out-Value v).is_global ≡ false
  whole_value_alone v u q = by (out-Value v).is_global refl
    where
      by : (b : Bool) → (out-Value v).is_global ≡ b → b ≡ false
      by false is = refl
      by true is =
          let W : Bool → Walk = λ b. (expr_of env (out-Value v).expr).walk Whole (token_if b u.at) (past_if env b 2 u) in
          absurd (expression_refused (out-Value v).expr u.at (past env 2 u) (ap (λ b. (W b).findings) (sym is) ∙ (ap (λ (x : Walk). x.findings) (sym (value_walked v Whole u)) ∙ q)))
