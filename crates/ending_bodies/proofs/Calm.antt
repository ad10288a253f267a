-- Expressions keep whether a point can be reached and whether a loop is left, and only add findings.
use Rattle.std.proofs.Common.{◌≡◌, ℕ, zero, suc, Bool, true, false, ◌||◌, List, [], ◌∷◌, ◌++◌, map, drop, refl, sym, subst, ◌∙◌}
use Rattle.java_tree.specs.declared.tree.Expr.{Expr, roll-Expr, map-Expr}
use Rattle.java_tree.specs.declared.tree.Value.{Value, roll-Value, map-Value}
use Rattle.java_tree.specs.declared.tree.CallForm.{CallForm, roll-CallForm, map-CallForm}
use Rattle.java_tree.specs.declared.tree.CallForm.TheOpen.{CallForm-F, Expr-F, Value-F}
use Rattle.java_tree.specs.declared.tree.CallForm.TheOpen as e
use Rattle.java_tree.specs.declared.tree.CallForm.TheFolds.{fold-roll-CallForm, fold-roll-Expr, fold-roll-Value, ind-CallForm, ind-Expr, ind-Value}
use Rattle.java_types.proofs.Lists.{map_map}
use Rattle.java_flow.specs.declared.finding.Rule.{Rule}
use Rattle.java_flow.specs.declared.finding.Rule.TheVariants as rule
use Rattle.java_flow.specs.Points.{Point, behind, behind_if, finding, found, found_unless, reading}
use Rattle.java_flow.specs.Expressions as walks
use Rattle.java_flow.specs.Expressions.{Walking, Judged, judged, value_walk, call_walk, opening, each_walk, args_walk}

pub record Calm (p q : Point) : Type 0 where
  pub back : q.findings ≡ [] → p.findings ≡ []
  pub reachable : q.is_reachable ≡ p.is_reachable
  pub left : q.is_left ≡ p.is_left
  -- where no token is left, none is behind
  pub ends : p.places ≡ [] → q.places ≡ []

pub here : (p : Point) → Calm p p
here p = record { back = λ q. q; reachable = refl; left = refl; ends = λ q. q }

pub after : {p q r : Point} → Calm p q → Calm q r → Calm p r
after s t = record { back = λ q. s.back (t.back q); reachable = t.reachable ∙ s.reachable; left = t.left ∙ s.left; ends = λ q. t.ends (s.ends q) }

pub drop_none : {A : Type 0} (n : ℕ) (xs : List A) → xs ≡ [] → drop n xs ≡ []
drop_none zero [] e = refl
drop_none (suc n) [] e = refl
drop_none n (x ∷ xs) e = absurd (cc)

pub behind_calm : (n : ℕ) (p : Point) → Calm p (behind n p)
behind_calm n p = record { back = λ q. q; reachable = refl; left = refl; ends = λ q. drop_none n p.places q }

pub behind_if_calm : (test : Bool) (n : ℕ) (p : Point) → Calm p (behind_if test n p)
behind_if_calm true n p = behind_calm n p
behind_if_calm false n p = here p

pub none_before : {A : Type 0} (xs ys : List A) → xs ++ ys ≡ [] → xs ≡ []
none_before [] ys e = refl
none_before (x ∷ xs) ys e = absurd (cc)

pub found_calm : (r : Rule) (p : Point) → Calm p (found r p)
found_calm r p = record { back = λ q. none_before p.findings (finding r p.places) q; reachable = refl; left = refl; ends = λ q. q }

pub found_unless_calm : (is_fine : Bool) (r : Rule) (p : Point) → Calm p (found_unless is_fine r p)
found_unless_calm true r p = here p
found_unless_calm false r p = found_calm r p

pub reading_calm : (cut : Bool) (name : List ℕ) (p : Point) → Calm p (reading cut name p)
reading_calm cut name p = found_unless_calm (cut || p.assigned name) rule.Unassigned p

-- ---- expressions

abbrev pub IsCalm : Walking → Type 0
IsCalm walk = (cut : Bool) (p : Point) → Calm p (walk cut p)

pub opening_calm : {A : Type 0} (xs : List A) (p : Point) → Calm p (opening xs p)
opening_calm [] p = behind_calm 1 p
opening_calm (x ∷ xs) p = here p

module _ {A : Type 0} (walk : A → Walking) (each : (x : A) → IsCalm (walk x)) where
  each_calm : (xs : List A) → IsCalm (each_walk (map walk xs))
  each_calm [] cut p = here p
  each_calm (x ∷ xs) cut p = after (behind_calm 1 p) (after (each x cut _) (each_calm xs cut _))

  args_calm : (xs : List A) → IsCalm (args_walk (map walk xs))
  args_calm xs cut p = after (opening_calm (map walk xs) p) (after (each_calm xs cut _) (behind_calm 1 _))

  own_calm : (name : List ℕ) (xs : List A) → IsCalm (walks.call_step (e.Own name (map walk xs)))
  own_calm name xs cut p = after (behind_calm 1 p) (args_calm xs cut _)

  of_calm : (object name : List ℕ) (xs : List A) → IsCalm (walks.call_step (e.Of object name (map walk xs)))
  of_calm object name xs cut p = after (reading_calm cut object p) (after (behind_calm 3 _) (args_calm xs cut _))

  of_member_calm : (object : List ℕ) (at : Judged) (name : List ℕ) (xs : List A) → IsCalm at.walk → IsCalm (walks.call_step (e.OfMember object at name (map walk xs)))
  of_member_calm object at name xs part cut p = after (reading_calm cut object p) (after (behind_calm 2 _) (after (part cut _) (after (behind_calm 3 _) (args_calm xs cut _))))

abbrev CallCalm : CallForm → Type 0
CallCalm c = IsCalm (call_walk c)

abbrev ExprCalm : Expr → Type 0
ExprCalm x = IsCalm (judged x).walk

abbrev ValueCalm : Value → Type 0
ValueCalm v = IsCalm (value_walk v)

abbrev Call : Type 0
Call = (c : CallForm) × CallCalm c

abbrev Part : Type 0
Part = (x : Expr) × ExprCalm x

abbrev Arg : Type 0
Arg = (v : Value) × ValueCalm v

abbrev walked : Expr-F CallForm Expr Value → Expr-F Walking Judged Walking
walked = map-Expr CallForm Expr Value Walking Judged Walking call_walk judged value_walk

abbrev bare : Expr-F Call Part Arg → Expr-F CallForm Expr Value
bare = map-Expr Call Part Arg CallForm Expr Value (λ c. c.0) (λ x. x.0) (λ v. v.0)

expr_layer : (y : Expr-F Call Part Arg) → IsCalm (walks.walk_step (walked (bare y)))
expr_layer (e.Conditional test first second) cut p =
    after (test.1 cut p) (after (behind_calm 1 _) (after (first.1 _ _) (after (behind_calm 1 _) (second.1 _ _))))
expr_layer (e.Binary op left right) cut p = after (left.1 cut p) (after (behind_calm 1 _) (right.1 _ _))
expr_layer (e.Unary op operand) cut p = after (behind_calm 1 p) (operand.1 cut _)
expr_layer (e.Cast to operand) cut p = after (behind_calm 3 p) (operand.1 cut _)
expr_layer (e.Number digits decimal long) cut p = behind_calm 1 p
expr_layer (e.Bool value) cut p = behind_calm 1 p
expr_layer (e.Paren inner) cut p = after (behind_calm 1 p) (after (inner.1 cut _) (behind_calm 1 _))
expr_layer (e.New name size) cut p = after (behind_calm 3 p) (after (size.1 cut _) (behind_calm 1 _))
expr_layer (e.Name name) cut p = after (reading_calm cut name p) (behind_calm 1 _)
expr_layer (e.Index name at) cut p = after (reading_calm cut name p) (after (behind_calm 2 _) (after (at.1 cut _) (behind_calm 1 _)))
expr_layer (e.Member object name) cut p = after (reading_calm cut object p) (behind_calm 3 _)
expr_layer (e.Call call) cut p = call.1 cut p

expr_made : (x : Expr-F CallForm Expr Value) (y : Expr-F Call Part Arg) → bare y ≡ x → ExprCalm (roll-Expr x)
expr_made x y is =
    let Q : Expr-F CallForm Expr Value → Type 0 = λ x. IsCalm (walks.walk_step (walked x)) in
    let R : Judged → Type 0 = λ j. IsCalm j.walk in
    subst R (sym (fold-roll-Expr Walking Judged Walking walks.call_step walks.expr_step walks.value_step x)) (subst Q is (expr_layer y))

abbrev walked_value : Value-F CallForm Expr Value → Value-F Walking Judged Walking
walked_value = map-Value CallForm Expr Value Walking Judged Walking call_walk judged value_walk

abbrev bare_value : Value-F Call Part Arg → Value-F CallForm Expr Value
bare_value = map-Value Call Part Arg CallForm Expr Value (λ c. c.0) (λ x. x.0) (λ v. v.0)

value_layer : (y : Value-F Call Part Arg) → IsCalm (walks.value_step (walked_value (bare_value y)))
value_layer y cut p = after (behind_if_calm y.is_global 2 p) (y.expr.1 cut _)

value_made : (x : Value-F CallForm Expr Value) (y : Value-F Call Part Arg) → bare_value y ≡ x → ValueCalm (roll-Value x)
value_made x y is =
    let Q : Value-F CallForm Expr Value → Type 0 = λ x. IsCalm (walks.value_step (walked_value x)) in
    subst IsCalm (sym (fold-roll-Value Walking Judged Walking walks.call_step walks.expr_step walks.value_step x)) (subst Q is (value_layer y))

abbrev walked_call : CallForm-F CallForm Expr Value → CallForm-F Walking Judged Walking
walked_call = map-CallForm CallForm Expr Value Walking Judged Walking call_walk judged value_walk

abbrev bare_call : CallForm-F Call Part Arg → CallForm-F CallForm Expr Value
bare_call = map-CallForm Call Part Arg CallForm Expr Value (λ c. c.0) (λ x. x.0) (λ v. v.0)

abbrev walk_of : Arg → Walking
walk_of v = value_walk v.0

all_args : (Q : List Walking → Type 0) (args : List Arg) → Q (map walk_of args) → Q (map value_walk (map (λ v. v.0) args))
all_args Q args made = subst Q (sym (map_map value_walk (λ (v : Arg). v.0) args)) made

call_layer : (y : CallForm-F Call Part Arg) → IsCalm (walks.call_step (walked_call (bare_call y)))
call_layer (e.Own name args) = all_args (λ ws. IsCalm (walks.call_step (e.Own name ws))) args (own_calm walk_of (λ v. v.1) name args)
call_layer (e.Of object name args) = all_args (λ ws. IsCalm (walks.call_step (e.Of object name ws))) args (of_calm walk_of (λ v. v.1) object name args)
call_layer (e.OfMember object at name args) =
    all_args (λ ws. IsCalm (walks.call_step (e.OfMember object (judged at.0) name ws))) args (of_member_calm walk_of (λ v. v.1) object (judged at.0) name args at.1)

call_made : (x : CallForm-F CallForm Expr Value) (y : CallForm-F Call Part Arg) → bare_call y ≡ x → CallCalm (roll-CallForm x)
call_made x y is =
    let Q : CallForm-F CallForm Expr Value → Type 0 = λ x. IsCalm (walks.call_step (walked_call x)) in
    subst IsCalm (sym (fold-roll-CallForm Walking Judged Walking walks.call_step walks.expr_step walks.value_step x)) (subst Q is (call_layer y))

pub expr_calm : (x : Expr) → ExprCalm x
expr_calm = ind-Expr CallCalm ExprCalm ValueCalm call_made expr_made value_made

pub value_calm : (v : Value) → ValueCalm v
value_calm = ind-Value CallCalm ExprCalm ValueCalm call_made expr_made value_made

pub call_calm : (c : CallForm) → CallCalm c
call_calm = ind-CallForm CallCalm ExprCalm ValueCalm call_made expr_made value_made
