-- Which locals an expression reads where they aren't definitely assigned (JLS 16.1). No expression assigns: inside it and
-- after it a variable is assigned where it is before it, or where every variable is, since a constant lets no evaluation
-- come. So 'cut' says that every variable is assigned.
use Rattle.std.specs.Prelude.{Bool, false, ◌&&◌, ◌||◌, List, [], ◌∷◌, Some, None}
use Rattle.sdg_base.specs.declared.operator.BinOp.{BinOp}
use Rattle.sdg_base.specs.declared.operator.BinOp.TheVariants as bin
use Rattle.sdg_base.specs.declared.operator.UnOp.{UnOp}
use Rattle.sdg_base.specs.declared.operator.UnOp.TheVariants as un
use Rattle.sdg_base.specs.declared.val.Val.TheVariants as val
use Rattle.java_tree.specs.declared.tree.Expr.{Expr}
use Rattle.java_tree.specs.declared.tree.Value.{Value}
use Rattle.java_tree.specs.declared.tree.CallForm.{CallForm}
use Rattle.java_tree.specs.declared.tree.CallForm.TheOpen.{CallForm-F, Expr-F, Value-F}
use Rattle.java_tree.specs.declared.tree.CallForm.TheOpen as e
use Rattle.java_tree.specs.declared.tree.CallForm.TheFolds.{fold-CallForm, fold-Expr, fold-Value}
use Rattle.java_flow.specs.declared.verdict.Verdict.{Verdict}
use Rattle.java_flow.specs.Points.{Point, behind, behind_if, reading}
use Rattle.java_flow.specs.Constants.{Constant, literal, unary_constant, cast_constant, binary_constant, conditional_constant, is_long_number, binary_is_long, is_true, is_false}

-- from the first token to behind the last, in text order
abbrev pub Walking : Type 0
Walking = Bool → Point → Point

pub record Judged : Type 0 where
  pub constant : Constant
  pub is_long : Bool
  -- whether every variable is assigned after it when true, and when false, where every one is before it or not
  pub when_true : Bool → Bool
  pub when_false : Bool → Bool
  pub walk : Walking

-- ---- its value and its type, if it is constant

abbrev pub constant_step : Expr-F Walking Judged Walking → Constant
constant_step (e.Conditional test first second) = conditional_constant (first.is_long || second.is_long) test.constant first.constant second.constant
constant_step (e.Binary op left right) = binary_constant op left.constant right.constant
constant_step (e.Unary op operand) = unary_constant op operand.constant
constant_step (e.Cast to operand) = cast_constant to operand.constant
constant_step (e.Number digits decimal long) = literal digits long
constant_step (e.Bool value) = Some (Some (val.Bool value))
constant_step (e.Paren inner) = inner.constant
constant_step _ = None

abbrev pub is_long_step : Expr-F Walking Judged Walking → Bool
is_long_step (e.Conditional test first second) = first.is_long || second.is_long
is_long_step (e.Binary op left right) = binary_is_long op left.is_long right.is_long
is_long_step (e.Unary op operand) = operand.is_long
is_long_step (e.Cast to operand) = is_long_number to
is_long_step (e.Number digits decimal long) = long
is_long_step (e.Paren inner) = inner.is_long
is_long_step _ = false

-- ---- what is assigned after it

-- before the second operand, where it is so after the first when true, when false, and before the whole
abbrev pub cut_between : BinOp → Bool → Bool → Bool → Bool
cut_between bin.AndAlso when_true when_false cut = when_true
cut_between bin.OrElse when_true when_false cut = when_false
cut_between _ when_true when_false cut = cut

abbrev pub between : BinOp → Judged → Bool → Bool
between op a cut = cut_between op (a.when_true cut) (a.when_false cut) cut

-- when true: after `a && b` where it is so after a or after b, and after `a || b` where it is so after both
abbrev pub binary_true : BinOp → Bool → Bool → Bool → Bool
binary_true bin.AndAlso a b cut = a || b
binary_true bin.OrElse a b cut = a && b
binary_true _ a b cut = cut

-- when false, the other way round
abbrev pub binary_false : BinOp → Bool → Bool → Bool → Bool
binary_false bin.AndAlso a b cut = a && b
binary_false bin.OrElse a b cut = a || b
binary_false _ a b cut = cut

abbrev pub unary_true : UnOp → Judged → Bool → Bool
unary_true un.Not a cut = a.when_false cut
unary_true _ a cut = cut

abbrev pub unary_false : UnOp → Judged → Bool → Bool
unary_false un.Not a cut = a.when_true cut
unary_false _ a cut = cut

abbrev pub true_step : Expr-F Walking Judged Walking → Bool → Bool
true_step (e.Conditional test first second) cut = first.when_true (test.when_true cut) && second.when_true (test.when_false cut)
true_step (e.Binary op left right) cut = binary_true op (left.when_true cut) (right.when_true (between op left cut)) cut
true_step (e.Unary op operand) cut = unary_true op operand cut
true_step (e.Paren inner) cut = inner.when_true cut
true_step _ cut = cut

abbrev pub false_step : Expr-F Walking Judged Walking → Bool → Bool
false_step (e.Conditional test first second) cut = first.when_false (test.when_true cut) && second.when_false (test.when_false cut)
false_step (e.Binary op left right) cut = binary_false op (left.when_false cut) (right.when_false (between op left cut)) cut
false_step (e.Unary op operand) cut = unary_false op operand cut
false_step (e.Paren inner) cut = inner.when_false cut
false_step _ cut = cut

-- ---- what it reads

abbrev pub walk_step : Expr-F Walking Judged Walking → Walking
walk_step (e.Conditional test first second) cut p =
    second.walk (test.when_false cut) (behind 1 (first.walk (test.when_true cut) (behind 1 (test.walk cut p))))
walk_step (e.Binary op left right) cut p = right.walk (between op left cut) (behind 1 (left.walk cut p))
walk_step (e.Unary op operand) cut p = operand.walk cut (behind 1 p)
walk_step (e.Cast to operand) cut p = operand.walk cut (behind 3 p)
walk_step (e.Number digits decimal long) cut p = behind 1 p
walk_step (e.Bool value) cut p = behind 1 p
walk_step (e.Paren inner) cut p = behind 1 (inner.walk cut (behind 1 p))
walk_step (e.New name size) cut p = behind 1 (size.walk cut (behind 3 p))
walk_step (e.Name name) cut p = behind 1 (reading cut name p)
walk_step (e.Index name at) cut p = behind 1 (at.walk cut (behind 2 (reading cut name p)))
walk_step (e.Member object name) cut p = behind 3 (reading cut object p)
walk_step (e.Call call) cut p = call cut p

abbrev pub expr_step : Expr-F Walking Judged Walking → Judged
expr_step x = record {
  constant = constant_step x;
  is_long = is_long_step x;
  when_true = λ cut. is_false (constant_step x) || true_step x cut;
  when_false = λ cut. is_true (constant_step x) || false_step x cut;
  walk = walk_step x;
}

abbrev pub value_step : Value-F Walking Judged Walking → Walking
value_step v cut p = v.expr.walk cut (behind_if v.is_global 2 p)

-- One token stands before each part of a list, and one where there is none.
abbrev pub opening : {A : Type 0} → List A → Point → Point
opening [] p = behind 1 p
opening (x ∷ xs) p = p

abbrev pub each_walk : List Walking → Walking
each_walk [] cut p = p
each_walk (x ∷ xs) cut p = each_walk xs cut (x cut (behind 1 p))

-- with the parentheses round it
abbrev pub args_walk : List Walking → Walking
args_walk args cut p = behind 1 (each_walk args cut (opening args p))

abbrev pub call_step : CallForm-F Walking Judged Walking → Walking
call_step (e.Own name args) cut p = args_walk args cut (behind 1 p)
call_step (e.Of object name args) cut p = args_walk args cut (behind 3 (reading cut object p))
call_step (e.OfMember object at name args) cut p = args_walk args cut (behind 3 (at.walk cut (behind 2 (reading cut object p))))

abbrev pub judged : Expr → Judged
judged = fold-Expr Walking Judged Walking call_step expr_step value_step

abbrev pub value_walk : Value → Walking
value_walk = fold-Value Walking Judged Walking call_step expr_step value_step

abbrev pub call_walk : CallForm → Walking
call_walk = fold-CallForm Walking Judged Walking call_step expr_step value_step

-- ---- the same of one expression, once it is known whether every variable is assigned before it

abbrev pub settled : Constant → Bool → Bool → Bool → Verdict
settled constant is_long when_true when_false = record {
  constant = constant;
  is_long = is_long;
  when_true = is_false constant || when_true;
  when_false = is_true constant || when_false;
}

abbrev pub binary_verdict : BinOp → Verdict → Verdict → Bool → Verdict
binary_verdict op a b cut =
    settled (binary_constant op a.constant b.constant) (binary_is_long op a.is_long b.is_long) (binary_true op a.when_true b.when_true cut) (binary_false op a.when_false b.when_false cut)

abbrev pub conditional_verdict : Verdict → Verdict → Verdict → Verdict
conditional_verdict test first second =
    settled (conditional_constant (first.is_long || second.is_long) test.constant first.constant second.constant) (first.is_long || second.is_long) (first.when_true && second.when_true) (first.when_false && second.when_false)

abbrev pub verdict_of : Judged → Bool → Verdict
verdict_of j cut = record { constant = j.constant; is_long = j.is_long; when_true = j.when_true cut; when_false = j.when_false cut }
