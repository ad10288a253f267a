-- The parts of an expression that is well placed and on no more than the levels are so too.
use Rattle.std.proofs.Common.{◌≡◌, ℕ, suc, ◌<◌, ◌≤◌, true, ◌&&◌, List, ◌∷◌, sym, ap, ◌∙◌, arith}
use Rattle.sdg_base.specs.declared.operator.BinOp.{BinOp}
use Rattle.sdg_base.specs.declared.operator.UnOp.{UnOp}
use Rattle.sdg_base.specs.declared.val.Num.{Num}
use Rattle.java_tree.specs.declared.tree.Expr.{Expr}
use Rattle.java_tree.specs.declared.tree.Expr.TheVariants as e
use Rattle.java_tree.specs.declared.tree.Value.{Value, out-Value, roll-out-Value}
use Rattle.java_tree.specs.declared.tree.CallForm.{CallForm}
use Rattle.java_tree.specs.declared.tree.CallForm.TheVariants as call
use Rattle.java_tree.specs.Levels.{operator_level}
use Rattle.java_tree.specs.Placed.{is_from, is_above, standing_of, is_placed_value}
use Rattle.java_tree.specs.Heights.{expr_height, value_height}
use Rattle.java_parser.specs.Expressions.{valued}
use Rattle.java_parser.proofs.Laws.{both}
use Rattle.java_parser.proofs.TreeHeights.{conditional_height, binary_height, unary_height, cast_height, paren_height, maker_height, index_height, called_height, own_height, of_height, of_member_height, valued_height, values_height_first}
use Rattle.java_parser.proofs.TreeStandings.{args_placed, conditional_standing, binary_standing, unary_standing, cast_standing, paren_standing, maker_standing, index_standing, called_standing, own_placed, of_placed, of_member_placed, valued_placed}
use Rattle.java_parser.proofs.Sound.{Sound, SoundValue, SoundValues, SoundCall, at_least, below}

-- one part, at any tightness
inside : (n : ℕ) (x y : Expr) → (standing_of y).is_placed ≡ (standing_of x).is_placed → expr_height y ≡ suc (expr_height x) → (looseness : ℕ) → Sound (suc n) looseness y → Sound n 11 x
inside n x y placed high looseness i = let h = i.height in record { placed = sym placed ∙ i.placed; tight = omega arith; height = omega arith }

-- one part, which holds tighter than 10
operand_inside : (n : ℕ) (x y : Expr) → (standing_of y).is_placed ≡ is_above 10 (standing_of x) → expr_height y ≡ suc (expr_height x) → (looseness : ℕ) → Sound (suc n) looseness y → Sound n 0 x
operand_inside n x y placed high looseness i =
    let h = i.height in
    let a = below 10 (standing_of x) (sym placed ∙ i.placed) in
    record { placed = a.0; tight = omega (arith, a.1); height = omega arith }

module _ (n looseness : ℕ) where
  pub in_paren : (x : Expr) → Sound (suc n) looseness (e.Paren x) → Sound n 11 x
  in_paren x i = inside n x (e.Paren x) (ap (λ s. s.is_placed) (paren_standing x)) (paren_height x) looseness i

  pub in_maker : (name : List ℕ) (x : Expr) → Sound (suc n) looseness (e.New name x) → Sound n 11 x
  in_maker name x i = inside n x (e.New name x) (ap (λ s. s.is_placed) (maker_standing name x)) (maker_height name x) looseness i

  pub in_index : (name : List ℕ) (x : Expr) → Sound (suc n) looseness (e.Index name x) → Sound n 11 x
  in_index name x i = inside n x (e.Index name x) (ap (λ s. s.is_placed) (index_standing name x)) (index_height name x) looseness i

  pub in_unary : (op : UnOp) (x : Expr) → Sound (suc n) looseness (e.Unary op x) → Sound n 0 x
  in_unary op x i = operand_inside n x (e.Unary op x) (ap (λ s. s.is_placed) (unary_standing op x)) (unary_height op x) looseness i

  pub in_cast : (to : Num) (x : Expr) → Sound (suc n) looseness (e.Cast to x) → Sound n 0 x
  in_cast to x i = operand_inside n x (e.Cast to x) (ap (λ s. s.is_placed) (cast_standing to x)) (cast_height to x) looseness i

  pub in_called : (c : CallForm) → Sound (suc n) looseness (e.Call c) → SoundCall (suc n) c
  in_called c i =
      let h = i.height in
      let f = called_height c in
      record { placed = sym (ap (λ s. s.is_placed) (called_standing c)) ∙ i.placed; height = omega arith }

  pub in_conditional : (test first second : Expr) → Sound (suc n) looseness (e.Conditional test first second) → Sound (suc n) 10 test × (expr_height test ≤ n) × Sound n 11 first × Sound n 11 second
  in_conditional test first second i =
      let h = i.height in
      let f = conditional_height test first second in
      let p = both (is_above 0 (standing_of test)) ((standing_of first).is_placed && (standing_of second).is_placed) (sym (ap (λ s. s.is_placed) (conditional_standing test first second)) ∙ i.placed) in
      let q = both (standing_of first).is_placed (standing_of second).is_placed p.1 in
      let a = below 0 (standing_of test) p.0 in (
        record { placed = a.0; tight = omega (arith, a.1); height = omega arith },
        omega arith,
        record { placed = q.0; tight = omega arith; height = omega arith },
        record { placed = q.1; tight = omega arith; height = omega arith },
      )

-- the operands of an operator, the first at its level and the second tighter
pub in_binary : (n looseness : ℕ) (op : BinOp) (left right : Expr) → Sound (suc n) looseness (e.Binary op left right)
    → ((standing_of left).is_placed ≡ true) × (operator_level op ≤ (standing_of left).tightness) × (expr_height left ≤ n)
    × ((standing_of right).is_placed ≡ true) × (operator_level op < (standing_of right).tightness) × (expr_height right ≤ n)
in_binary n looseness op left right i =
    let h = i.height in
    let f = binary_height op left right in
    let p = both (is_from (operator_level op) (standing_of left)) (is_above (operator_level op) (standing_of right)) (sym (ap (λ s. s.is_placed) (binary_standing op left right)) ∙ i.placed) in
    let a = at_least (operator_level op) (standing_of left) p.0 in
    let b = below (operator_level op) (standing_of right) p.1 in
    (a.0, a.1, omega arith, b.0, b.1, omega arith)

pub in_own : (n : ℕ) (name : List ℕ) (args : List Value) → SoundCall (suc n) (call.Own name args) → SoundValues n args
in_own n name args i = let h = i.height in let f = own_height name args in record { placed = sym (own_placed name args) ∙ i.placed; height = omega arith }

pub in_of : (n : ℕ) (object name : List ℕ) (args : List Value) → SoundCall (suc n) (call.Of object name args) → SoundValues n args
in_of n object name args i = let h = i.height in let f = of_height object name args in record { placed = sym (of_placed object name args) ∙ i.placed; height = omega arith }

pub in_of_member : (n : ℕ) (object : List ℕ) (at : Expr) (name : List ℕ) (args : List Value) → SoundCall (suc n) (call.OfMember object at name args) → Sound n 11 at × SoundValues n args
in_of_member n object at name args i =
    let h = i.height in
    let f = of_member_height object at name args in
    let p = both (standing_of at).is_placed (args_placed args) (sym (of_member_placed object at name args) ∙ i.placed) in
    (record { placed = p.0; tight = omega arith; height = omega arith }, record { placed = p.1; height = omega arith })

abbrev pub expr_of : Value → Expr
expr_of v = (out-Value v).expr

pub value_is : (v : Value) → valued (out-Value v).is_global (expr_of v) ≡ v
value_is v = roll-out-Value v

pub in_value : (n : ℕ) (v : Value) → SoundValue n v → Sound n 11 (expr_of v)
in_value n v i =
    let h = i.height in
    let f : value_height v ≡ expr_height (expr_of v) = ap value_height (sym (value_is v)) ∙ valued_height (out-Value v).is_global (expr_of v) in
    let p : is_placed_value v ≡ (standing_of (expr_of v)).is_placed = ap is_placed_value (sym (value_is v)) ∙ valued_placed (out-Value v).is_global (expr_of v) in
    record { placed = sym p ∙ i.placed; tight = omega arith; height = omega arith }

pub in_values : (n : ℕ) (v : Value) (values : List Value) → SoundValues n (v ∷ values) → SoundValue n v × SoundValues n values
unfolding args_placed
in_values n v values i =
    let h = i.height in
    let f = values_height_first v values in
    let p = both (is_placed_value v) (args_placed values) i.placed in
    (record { placed = p.0; height = omega arith }, record { placed = p.1; height = omega arith })
