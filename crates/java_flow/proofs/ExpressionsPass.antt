-- The walk over an expression passes as many places as it has tokens.
use Rattle.std.proofs.Common.{◌≡◌, ℕ, ◌+◌, Bool, true, false, List, [], ◌∷◌, ◌++◌, map, length, drop, refl, sym, ap, subst, arith, length-append}
use Rattle.std.specs.List.{flat_map}
use Rattle.std.proofs.lemmas.List.{drop-drop}
use Rattle.sdg_base.specs.declared.val.Num.TheVariants as num
use Rattle.java_tree.specs.declared.token.Kind.{Kind}
use Rattle.java_tree.specs.declared.token.Kind.TheVariants as k
use Rattle.java_tree.specs.declared.token.Symbol.TheVariants as symbol
use Rattle.java_tree.specs.declared.tree.Expr.{Expr, roll-Expr, map-Expr}
use Rattle.java_tree.specs.declared.tree.Value.{Value, roll-Value, map-Value}
use Rattle.java_tree.specs.declared.tree.CallForm.{CallForm, roll-CallForm, map-CallForm}
use Rattle.java_tree.specs.declared.tree.CallForm.TheOpen.{CallForm-F, Expr-F, Value-F}
use Rattle.java_tree.specs.declared.tree.CallForm.TheOpen as e
use Rattle.java_tree.specs.declared.tree.CallForm.TheFolds.{fold-roll-CallForm, fold-roll-Expr, fold-roll-Value, ind-CallForm, ind-Expr, ind-Value}
use Rattle.java_tree.specs.Tokens as tokens
use Rattle.java_tree.specs.Tokens.{Kinds, expr_tokens, value_tokens, call_tokens, separated, in_parentheses}
use Rattle.java_flow.specs.Expressions as walks
use Rattle.java_flow.specs.Expressions.{Walking, Judged, judged, value_walk, call_walk, each_walk, args_walk}
use Rattle.java_flow.specs.Laws.{Passes}
use Rattle.java_flow.proofs.Passing.{reading_places, one_more}

abbrev CallPasses : CallForm → Type 0
CallPasses c = (cut : Bool) → Passes (call_tokens c) (call_walk c cut)

abbrev ExprPasses : Expr → Type 0
ExprPasses x = (cut : Bool) → Passes (expr_tokens x) ((judged x).walk cut)

abbrev ValuePasses : Value → Type 0
ValuePasses v = (cut : Bool) → Passes (value_tokens v) (value_walk v cut)

-- ---- from a layer to what it is a layer of

rolled_expr : (x : Expr-F CallForm Expr Value)
    → ((cut : Bool) → Passes (tokens.expr_step (map-Expr _ _ _ _ _ _ call_tokens expr_tokens value_tokens x)) ((walks.expr_step (map-Expr _ _ _ _ _ _ call_walk judged value_walk x)).walk cut))
    → ExprPasses (roll-Expr x)
rolled_expr x passes cut p =
    subst (λ (j : Judged). (j.walk cut p).places ≡ drop (length (expr_tokens (roll-Expr x))) p.places) (sym (fold-roll-Expr Walking Judged Walking walks.call_step walks.expr_step walks.value_step x))
    (subst (λ (t : Kinds). ((walks.expr_step (map-Expr _ _ _ _ _ _ call_walk judged value_walk x)).walk cut p).places ≡ drop (length t) p.places)
    (sym (fold-roll-Expr Kinds Kinds Kinds tokens.call_step tokens.expr_step tokens.value_step x))
    (passes cut p))

rolled_value : (x : Value-F CallForm Expr Value)
    → ((cut : Bool) → Passes (tokens.value_step (map-Value _ _ _ _ _ _ call_tokens expr_tokens value_tokens x)) (walks.value_step (map-Value _ _ _ _ _ _ call_walk judged value_walk x) cut))
    → ValuePasses (roll-Value x)
rolled_value x passes cut p =
    subst (λ (w : Walking). (w cut p).places ≡ drop (length (value_tokens (roll-Value x))) p.places) (sym (fold-roll-Value Walking Judged Walking walks.call_step walks.expr_step walks.value_step x))
    (subst (λ (t : Kinds). (walks.value_step (map-Value _ _ _ _ _ _ call_walk judged value_walk x) cut p).places ≡ drop (length t) p.places)
    (sym (fold-roll-Value Kinds Kinds Kinds tokens.call_step tokens.expr_step tokens.value_step x))
    (passes cut p))

rolled_call : (x : CallForm-F CallForm Expr Value)
    → ((cut : Bool) → Passes (tokens.call_step (map-CallForm _ _ _ _ _ _ call_tokens expr_tokens value_tokens x)) (walks.call_step (map-CallForm _ _ _ _ _ _ call_walk judged value_walk x) cut))
    → CallPasses (roll-CallForm x)
rolled_call x passes cut p =
    subst (λ (w : Walking). (w cut p).places ≡ drop (length (call_tokens (roll-CallForm x))) p.places) (sym (fold-roll-CallForm Walking Judged Walking walks.call_step walks.expr_step walks.value_step x))
    (subst (λ (t : Kinds). (walks.call_step (map-CallForm _ _ _ _ _ _ call_walk judged value_walk x) cut p).places ≡ drop (length t) p.places)
    (sym (fold-roll-CallForm Kinds Kinds Kinds tokens.call_step tokens.expr_step tokens.value_step x))
    (passes cut p))

-- ---- arguments

each_passes : (vs : List ((v : Value) × ValuePasses v)) (cut : Bool)
    → Passes (flat_map (λ y. k.Symbol symbol.Comma ∷ y) (map value_tokens (map (λ v. v.0) vs))) (each_walk (map value_walk (map (λ v. v.0) vs)) cut)
each_passes [] cut p = refl
each_passes (v ∷ vs) cut p =
    simp (each_passes vs, v.1, drop-drop)
    (ap (λ (n : ℕ). drop n p.places) (one_more (k.Symbol symbol.Comma) (value_tokens v.0) (flat_map (λ y. k.Symbol symbol.Comma ∷ y) (map value_tokens (map (λ v. v.0) vs)))))

args_pass : (vs : List ((v : Value) × ValuePasses v)) (cut : Bool) → Passes (in_parentheses (separated (map value_tokens (map (λ v. v.0) vs)))) (args_walk (map value_walk (map (λ v. v.0) vs)) cut)
args_pass [] cut p = simp drop-drop
args_pass (v ∷ vs) cut p = simp (each_passes vs, v.1, drop-drop) (grind (arith, length-append {A = Kind}))

-- ---- each layer

expr_layer : (y : Expr-F ((c : CallForm) × CallPasses c) ((x : Expr) × ExprPasses x) ((v : Value) × ValuePasses v)) → ExprPasses (roll-Expr (map-Expr _ _ _ _ _ _ (λ c. c.0) (λ x. x.0) (λ v. v.0) y))
expr_layer (e.Conditional test first second) =
    rolled_expr (e.Conditional test.0 first.0 second.0) (λ cut p. simp (test.1, first.1, second.1, drop-drop) (grind (arith, length-append {A = Kind})))
expr_layer (e.Binary op left right) = rolled_expr (e.Binary op left.0 right.0) (λ cut p. simp (left.1, right.1, drop-drop) (grind (arith, length-append {A = Kind})))
expr_layer (e.Unary op operand) = rolled_expr (e.Unary op operand.0) (λ cut p. simp (operand.1, drop-drop) (grind arith))
expr_layer (e.Cast num.Int operand) = rolled_expr (e.Cast num.Int operand.0) (λ cut p. simp (operand.1, drop-drop) (grind arith))
expr_layer (e.Cast num.Long operand) = rolled_expr (e.Cast num.Long operand.0) (λ cut p. simp (operand.1, drop-drop) (grind arith))
expr_layer (e.Number digits decimal long) = rolled_expr (e.Number digits decimal long) (λ cut p. refl)
expr_layer (e.Bool true) = rolled_expr (e.Bool true) (λ cut p. refl)
expr_layer (e.Bool false) = rolled_expr (e.Bool false) (λ cut p. refl)
expr_layer (e.Paren inner) = rolled_expr (e.Paren inner.0) (λ cut p. simp (inner.1, drop-drop) (grind (arith, length-append {A = Kind})))
expr_layer (e.New name size) = rolled_expr (e.New name size.0) (λ cut p. simp (size.1, drop-drop) (grind (arith, length-append (expr_tokens size.0) (k.Symbol symbol.CloseParen ∷ []))))
expr_layer (e.Name name) = rolled_expr (e.Name name) (λ cut p. simp reading_places)
expr_layer (e.Index name at) = rolled_expr (e.Index name at.0) (λ cut p. simp (at.1, reading_places, drop-drop) (grind (arith, length-append {A = Kind})))
expr_layer (e.Member object name) = rolled_expr (e.Member object name) (λ cut p. simp reading_places)
expr_layer (e.Call call) = rolled_expr (e.Call call.0) call.1

of_member_count : (object name : List ℕ) (at args : Kinds)
    → 2 + length at + 3 + length args ≡ length (k.Identifier object ∷ k.Symbol symbol.OpenBracket ∷ (at ++ (k.Symbol symbol.CloseBracket ∷ k.Symbol symbol.Dot ∷ k.Identifier name ∷ args)))
of_member_count object name at args = omega (arith, length-append {A = Kind})

call_layer : (y : CallForm-F ((c : CallForm) × CallPasses c) ((x : Expr) × ExprPasses x) ((v : Value) × ValuePasses v))
    → CallPasses (roll-CallForm (map-CallForm _ _ _ _ _ _ (λ c. c.0) (λ x. x.0) (λ v. v.0) y))
call_layer (e.Own name args) = rolled_call (e.Own name (map (λ v. v.0) args)) (λ cut p. simp (args_pass args, drop-drop) (grind arith))
call_layer (e.Of object name args) = rolled_call (e.Of object name (map (λ v. v.0) args)) (λ cut p. simp (args_pass args, reading_places, drop-drop) (grind arith))
call_layer (e.OfMember object at name args) =
    rolled_call (e.OfMember object at.0 name (map (λ v. v.0) args))
    (λ cut p. simp (args_pass args, at.1, reading_places, drop-drop) (ap (λ (n : ℕ). drop n p.places) (of_member_count object name (expr_tokens at.0) (in_parentheses (separated (map value_tokens (map (λ v. v.0) args)))))))

valued : (is_global : Bool) (x : Expr) → ExprPasses x → ValuePasses (roll-Value (record { is_global = is_global; expr = x }))
valued true x passes = rolled_value (record { is_global = true; expr = x }) (λ cut p. simp (passes, drop-drop) (grind arith))
valued false x passes = rolled_value (record { is_global = false; expr = x }) passes

value_layer : (y : Value-F ((c : CallForm) × CallPasses c) ((x : Expr) × ExprPasses x) ((v : Value) × ValuePasses v))
    → ValuePasses (roll-Value (map-Value _ _ _ _ _ _ (λ c. c.0) (λ x. x.0) (λ v. v.0) y))
value_layer y = valued y.is_global y.expr.0 y.expr.1

-- ---- by induction

pub expr_passes : (x : Expr) → ExprPasses x
expr_passes =
    ind-Expr CallPasses ExprPasses ValuePasses (λ x y is. subst (λ z. CallPasses (roll-CallForm z)) is (call_layer y)) (λ x y is. subst (λ z. ExprPasses (roll-Expr z)) is (expr_layer y))
    (λ x y is. subst (λ z. ValuePasses (roll-Value z)) is (value_layer y))

pub value_passes : (v : Value) → ValuePasses v
value_passes =
    ind-Value CallPasses ExprPasses ValuePasses (λ x y is. subst (λ z. CallPasses (roll-CallForm z)) is (call_layer y)) (λ x y is. subst (λ z. ExprPasses (roll-Expr z)) is (expr_layer y))
    (λ x y is. subst (λ z. ValuePasses (roll-Value z)) is (value_layer y))

pub call_passes : (c : CallForm) → CallPasses c
call_passes =
    ind-CallForm CallPasses ExprPasses ValuePasses (λ x y is. subst (λ z. CallPasses (roll-CallForm z)) is (call_layer y)) (λ x y is. subst (λ z. ExprPasses (roll-Expr z)) is (expr_layer y))
    (λ x y is. subst (λ z. ValuePasses (roll-Value z)) is (value_layer y))
