-- What a read expression is: well placed, holding tightly enough, and on no more than the levels.
use Rattle.std.proofs.Common.{◌≡◌, ℕ, suc, ◌+◌, ◌-◌, ◌<◌, ◌≤◌, Bool, true, ◌&&◌, nat_le, nat_lt, List, [], ◌∷◌, refl, arith}
use Rattle.std.proofs.lemmas.Bool.Decides.{Decides-ltb, nat_tests}
use Rattle.sdg_base.specs.declared.operator.BinOp.{BinOp}
use Rattle.sdg_base.specs.declared.operator.UnOp.{UnOp}
use Rattle.sdg_base.specs.declared.val.Num.{Num}
use Rattle.java_tree.specs.declared.tree.Expr.{Expr}
use Rattle.java_tree.specs.declared.tree.Expr.TheVariants as e
use Rattle.java_tree.specs.declared.tree.Value.{Value}
use Rattle.java_tree.specs.declared.tree.CallForm.{CallForm}
use Rattle.java_tree.specs.declared.tree.CallForm.TheVariants as call
use Rattle.java_tree.specs.Levels.{operator_level}
use Rattle.java_tree.specs.Placed.{Standing, holding, is_from, is_above, standing_of, is_placed_value, is_placed_call}
use Rattle.java_tree.specs.Heights.{expr_height, value_height, call_height}
use Rattle.java_parser.specs.Expressions.{valued}
use Rattle.java_parser.specs.Deeper.{values_height}
use Rattle.java_parser.proofs.Laws.{both}
use Rattle.java_parser.proofs.TreeHeights.{conditional_height, binary_height, unary_height, cast_height, number_height, truth_height, paren_height, maker_height, name_height, index_height, member_height, called_height, own_height, of_height, of_member_height, valued_height, values_height_first}
use Rattle.java_parser.proofs.TreeStandings.{args_placed, conditional_standing, binary_standing, unary_standing, cast_standing, number_standing, truth_standing, paren_standing, maker_standing, name_standing, index_standing, member_standing, called_standing, own_placed, of_placed, of_member_placed, valued_placed}

-- The looseness is what is left to the tightest operators: an operand that may hold at a level has the looseness 11 less it.
pub record Sound (levels looseness : ℕ) (x : Expr) : Type 0 where
  pub placed : (standing_of x).is_placed ≡ true
  pub tight : 11 ≤ looseness + (standing_of x).tightness
  pub height : expr_height x ≤ levels

pub record SoundValue (levels : ℕ) (v : Value) : Type 0 where
  pub placed : is_placed_value v ≡ true
  pub height : value_height v ≤ levels

pub record SoundValues (levels : ℕ) (values : List Value) : Type 0 where
  pub placed : args_placed values ≡ true
  pub height : values_height values ≤ levels

pub record SoundCall (levels : ℕ) (c : CallForm) : Type 0 where
  pub placed : is_placed_call c ≡ true
  pub height : call_height c ≤ levels

pub made : {levels looseness : ℕ} (x : Expr) (s : Standing) (h : ℕ) → standing_of x ≡ s → expr_height x ≡ h → s.is_placed ≡ true → 11 ≤ looseness + s.tightness → h ≤ levels → Sound levels looseness x
made x s h e f placed tight height = record { placed = rw e placed; tight = rw e tight; height = rw f height }

pub looser : {levels looseness : ℕ} {x : Expr} → Sound levels looseness x → Sound levels (suc looseness) x
looser i = let h = i.tight in record { placed = i.placed; tight = omega arith; height = i.height }

pub anyhow : {levels looseness : ℕ} {x : Expr} → Sound levels looseness x → Sound levels 11 x
anyhow i = record { placed = i.placed; tight = omega arith; height = i.height }

pub and_true : (a b : Bool) → a ≡ true → b ≡ true → (a && b) ≡ true
and_true a b e f = rw (e, f) refl

pub above : (level : ℕ) (s : Standing) → s.is_placed ≡ true → level < s.tightness → is_above level s ≡ true
above level s placed lt = and_true s.is_placed (nat_lt level s.tightness) placed ((Decides-ltb level s.tightness).1 lt)

is_le : (a b : ℕ) → a ≤ b → nat_le a b ≡ true
is_le a b le = grind (arith, nat_tests)

le_is : (a b : ℕ) → nat_le a b ≡ true → a ≤ b
le_is a b h = grind (arith, nat_tests)

pub from : (level : ℕ) (s : Standing) → s.is_placed ≡ true → level ≤ s.tightness → is_from level s ≡ true
from level s placed le = and_true s.is_placed (nat_le level s.tightness) placed (is_le level s.tightness le)

pub at_least : (level : ℕ) (s : Standing) → is_from level s ≡ true → (s.is_placed ≡ true) × (level ≤ s.tightness)
at_least level s h = let p = both s.is_placed (nat_le level s.tightness) h in (p.0, le_is level s.tightness p.1)

pub below : (level : ℕ) (s : Standing) → is_above level s ≡ true → (s.is_placed ≡ true) × (level < s.tightness)
below level s h = let p = both s.is_placed (nat_lt level s.tightness) h in (p.0, (Decides-ltb level s.tightness).0 p.1)

-- ---- from the parts

module _ (n : ℕ) where
  pub sound_number : (digits : ℕ) (decimal long : Bool) → Sound (suc n) 0 (e.Number digits decimal long)
  sound_number digits decimal long = made (e.Number digits decimal long) (holding 12 true) 1 (number_standing digits decimal long) (number_height digits decimal long) refl (omega arith) (omega arith)

  pub sound_truth : (value : Bool) → Sound (suc n) 0 (e.Bool value)
  sound_truth value = made (e.Bool value) (holding 12 true) 1 (truth_standing value) (truth_height value) refl (omega arith) (omega arith)

  pub sound_name : (name : List ℕ) → Sound (suc n) 0 (e.Name name)
  sound_name name = made (e.Name name) (holding 12 true) 1 (name_standing name) (name_height name) refl (omega arith) (omega arith)

  pub sound_member : (object name : List ℕ) → Sound (suc n) 0 (e.Member object name)
  sound_member object name = made (e.Member object name) (holding 12 true) 1 (member_standing object name) (member_height object name) refl (omega arith) (omega arith)

  pub sound_paren : (x : Expr) → Sound n 11 x → Sound (suc n) 0 (e.Paren x)
  sound_paren x i = let h = i.height in made (e.Paren x) (holding 12 (standing_of x).is_placed) (suc (expr_height x)) (paren_standing x) (paren_height x) i.placed (omega arith) (omega arith)

  pub sound_maker : (name : List ℕ) (x : Expr) → Sound n 11 x → Sound (suc n) 0 (e.New name x)
  sound_maker name x i = let h = i.height in made (e.New name x) (holding 12 (standing_of x).is_placed) (suc (expr_height x)) (maker_standing name x) (maker_height name x) i.placed (omega arith) (omega arith)

  pub sound_index : (name : List ℕ) (x : Expr) → Sound n 11 x → Sound (suc n) 0 (e.Index name x)
  sound_index name x i = let h = i.height in made (e.Index name x) (holding 12 (standing_of x).is_placed) (suc (expr_height x)) (index_standing name x) (index_height name x) i.placed (omega arith) (omega arith)

  pub sound_unary : (op : UnOp) (x : Expr) → Sound n 0 x → Sound (suc n) 0 (e.Unary op x)
  sound_unary op x i =
      let h = i.height in
      let t = i.tight in
      made (e.Unary op x) (holding 11 (is_above 10 (standing_of x))) (suc (expr_height x)) (unary_standing op x) (unary_height op x) (above 10 (standing_of x) i.placed (omega arith)) (omega arith) (omega arith)

  pub sound_cast : (to : Num) (x : Expr) → Sound n 0 x → Sound (suc n) 0 (e.Cast to x)
  sound_cast to x i =
      let h = i.height in
      let t = i.tight in
      made (e.Cast to x) (holding 11 (is_above 10 (standing_of x))) (suc (expr_height x)) (cast_standing to x) (cast_height to x) (above 10 (standing_of x) i.placed (omega arith)) (omega arith) (omega arith)

  pub sound_called : (c : CallForm) → SoundCall (suc n) c → Sound (suc n) 0 (e.Call c)
  sound_called c i = made (e.Call c) (holding 12 (is_placed_call c)) (call_height c) (called_standing c) (called_height c) i.placed (omega arith) i.height

  pub sound_own : (name : List ℕ) (args : List Value) → SoundValues n args → SoundCall (suc n) (call.Own name args)
  sound_own name args i = let h = i.height in record { placed = rw (own_placed name args) i.placed; height = rw (own_height name args) (omega arith) }

  pub sound_of : (object name : List ℕ) (args : List Value) → SoundValues n args → SoundCall (suc n) (call.Of object name args)
  sound_of object name args i = let h = i.height in record { placed = rw (of_placed object name args) i.placed; height = rw (of_height object name args) (omega arith) }

  pub sound_of_member : (object : List ℕ) (at : Expr) (name : List ℕ) (args : List Value) → Sound n 11 at → SoundValues n args → SoundCall (suc n) (call.OfMember object at name args)
  sound_of_member object at name args i j =
      let h = i.height in
      let g = j.height in
      record { placed = rw (of_member_placed object at name args) (and_true (standing_of at).is_placed (args_placed args) i.placed j.placed); height = rw (of_member_height object at name args) (omega arith) }

  pub sound_conditional : (test first second : Expr) → Sound (suc n) 10 test → expr_height test ≤ n → Sound n 11 first → Sound n 11 second → Sound (suc n) 11 (e.Conditional test first second)
  sound_conditional test first second i low j l =
      let t = i.tight in
      let h = j.height in
      let g = l.height in
      made (e.Conditional test first second) (holding 0 (is_above 0 (standing_of test) && ((standing_of first).is_placed && (standing_of second).is_placed))) _
      (conditional_standing test first second) (conditional_height test first second)
      (and_true _ _ (above 0 (standing_of test) i.placed (omega arith)) (and_true _ _ j.placed l.placed)) (omega arith) (omega arith)

  pub sound_valued : (is_global : Bool) (x : Expr) → Sound n 11 x → SoundValue n (valued is_global x)
  sound_valued is_global x i = record { placed = rw (valued_placed is_global x) i.placed; height = rw (valued_height is_global x) i.height }

  pub sound_none : SoundValues n []
  unfolding args_placed values_height
  sound_none = record { placed = refl; height = omega arith }

  pub sound_more : (v : Value) (values : List Value) → SoundValue n v → SoundValues n values → SoundValues n (v ∷ values)
  unfolding args_placed
  sound_more v values i j =
      let h = i.height in
      let g = j.height in
      record { placed = and_true _ _ i.placed j.placed; height = rw (values_height_first v values) (omega arith) }

  -- an operator of a level between what holds at least as tightly and what holds tighter
  pub sound_binary : (looseness : ℕ) (op : BinOp) (left right : Expr) → looseness ≤ 10 → operator_level op ≡ 10 - looseness → Sound (suc n) (suc looseness) left → expr_height left ≤ n → Sound n looseness right
      → Sound (suc n) (suc looseness) (e.Binary op left right)
  sound_binary looseness op left right le at i low j =
      let t = i.tight in
      let u = j.tight in
      let h = j.height in
      made (e.Binary op left right) (holding (operator_level op) (is_from (operator_level op) (standing_of left) && is_above (operator_level op) (standing_of right))) _ (binary_standing op left right) (binary_height op left right)
      (and_true _ _ (from (operator_level op) (standing_of left) i.placed (omega (arith, at))) (above (operator_level op) (standing_of right) j.placed (omega (arith, at)))) (omega (arith, at)) (omega arith)
