-- The methods that expressions and statements call, where those of their parts have a property.
use Rattle.std.proofs.Common.{◌≡◌, ℕ, ℤ, zero, suc, Bool, true, false, ◌||◌, nat_eq, List, [], ◌∷◌, ◌++◌, map, Option, Some, None, if◌then◌else◌, refl, sym, ap, subst, ◌∙◌, eqb-true}
use Rattle.sdg_base.specs.declared.operator.BinOp.{BinOp}
use Rattle.sdg_base.specs.declared.operator.UnOp.{UnOp}
use Rattle.sdg_base.specs.declared.operator.UnOp.TheVariants as un
use Rattle.sdg_base.specs.declared.val.Num.{Num}
use Rattle.java_tree.specs.declared.types.ValueType.TheVariants.{Int, Long}
use Rattle.java_tree.specs.declared.types.ExprType.{ExprType}
use Rattle.java_tree.specs.declared.types.ExprType.TheVariants.{Value}
use Rattle.access_blocks.specs.declared.body.Access.{Access}
use Rattle.access_blocks.specs.declared.body.Gather.{Gather}
use Rattle.access_blocks.specs.declared.body.Expression.{Expression, roll-Expression}
use Rattle.access_blocks.specs.declared.body.Expression.TheOpen.{Expression-F}
use Rattle.access_blocks.specs.declared.body.Expression.TheOpen as e
use Rattle.access_blocks.specs.declared.body.Expression.TheFolds.{fold-roll-Expression, map-Expression}
use Rattle.access_blocks.specs.declared.body.Expression.TheVariants as x
use Rattle.access_blocks.specs.declared.body.Statement.{Statement, roll-Statement}
use Rattle.access_blocks.specs.declared.body.Statement.TheOpen.{Statement-F}
use Rattle.access_blocks.specs.declared.body.Statement.TheOpen as s
use Rattle.access_blocks.specs.declared.body.Statement.TheFolds.{fold-roll-Statement, map-Statement}
use Rattle.access_blocks.specs.declared.body.Statement.TheVariants as statement
use Rattle.access_blocks.specs.declared.resolved.Resolved.{Resolved}
use Rattle.access_blocks.specs.Resolving.{converted_to, taken, promoted, is_shift, operated, negated, argument}
use Rattle.body_code.specs.Early.{is_in}
use Rattle.body_code.specs.Checking.{calling, calling_step, calling_maybe, in_all, called_in, called_step}

-- each of the numbers has the property
abbrev pub Each : (ℕ → Type 0) → List ℕ → Type 0
Each P [] = Unit {0}
Each P (m ∷ ms) = P m × Each P ms

pub each_both : (P : ℕ → Type 0) (xs ys : List ℕ) → Each P xs → Each P ys → Each P (xs ++ ys)
each_both P [] ys h k = k
each_both P (m ∷ xs) ys h k = (h.0, each_both P xs ys h.1 k)

pub each_first : (P : ℕ → Type 0) (xs ys : List ℕ) → Each P (xs ++ ys) → Each P xs
each_first P [] ys h = tt
each_first P (m ∷ xs) ys h = (h.0, each_first P xs ys h.1)

pub each_second : (P : ℕ → Type 0) (xs ys : List ℕ) → Each P (xs ++ ys) → Each P ys
each_second P [] ys h = h
each_second P (m ∷ xs) ys h = each_second P xs ys h.1

or_case : (P : ℕ → Type 0) (m n : ℕ) (same more : Bool) → nat_eq m n ≡ same → (same || more) ≡ true → P n → (more ≡ true → P m) → P m
or_case P m n true more is h here there = subst P (sym (eqb-true m n is)) here
or_case P m n false more is h here there = there h

pub each_has : (P : ℕ → Type 0) (m : ℕ) (xs : List ℕ) → Each P xs → is_in m xs ≡ true → P m
each_has P m [] h is = absurd (cc)
each_has P m (n ∷ xs) h is = or_case P m n (nat_eq m n) (is_in m xs) refl is h.0 (each_has P m xs h.1)

-- ---- expressions

calls_from : (layer : Expression-F Expression) {a : Expression} → roll-Expression layer ≡ a → calling a ≡ calling_step (map-Expression Expression (List ℕ) calling layer)
calls_from layer rolled = ap calling (sym rolled) ∙ fold-roll-Expression (List ℕ) calling_step layer

module _ (P : ℕ → Type 0) where
  -- each method that an expression calls has the property
  abbrev pub Calls : Expression → Type 0
  Calls a = Each P (calling a)

  abbrev pub CallsAll : List Expression → Type 0
  CallsAll args = Each P (in_all (map calling args))

  by_layer : (layer : Expression-F Expression) {a : Expression} → roll-Expression layer ≡ a → Each P (calling_step (map-Expression Expression (List ℕ) calling layer)) → Calls a
  by_layer layer rolled h = subst (Each P) (sym (calls_from layer rolled)) h

  pub nothing_calls : Calls x.Nothing
  nothing_calls = by_layer e.Nothing x.rolls-Nothing tt

  pub int_calls : (n : ℤ) → Calls (x.Int n)
  int_calls n = by_layer (e.Int n) (x.rolls-Int n) tt

  pub long_calls : (n : ℤ) → Calls (x.Long n)
  long_calls n = by_layer (e.Long n) (x.rolls-Long n) tt

  pub bool_calls : (b : Bool) → Calls (x.Bool b)
  bool_calls b = by_layer (e.Bool b) (x.rolls-Bool b) tt

  pub variable_calls : (v : ℕ) → Calls (x.Variable v)
  variable_calls v = by_layer (e.Variable v) (x.rolls-Variable v) tt

  pub unary_calls : (op : UnOp) (a : Expression) → Calls a → Calls (x.Unary op a)
  unary_calls op a h = by_layer (e.Unary op a) (x.rolls-Unary op a) h

  pub binary_calls : (op : BinOp) (a b : Expression) → Calls a → Calls b → Calls (x.Binary op a b)
  binary_calls op a b h k = by_layer (e.Binary op a b) (x.rolls-Binary op a b) (each_both P (calling a) (calling b) h k)

  pub cast_calls : (to : Num) (a : Expression) → Calls a → Calls (x.Cast to a)
  cast_calls to a h = by_layer (e.Cast to a) (x.rolls-Cast to a) h

  pub conditional_calls : (test a b : Expression) → Calls test → Calls a → Calls b → Calls (x.Conditional test a b)
  conditional_calls test a b t h k =
      by_layer (e.Conditional test a b) (x.rolls-Conditional test a b) (each_both P (calling test) (calling a ++ calling b) t (each_both P (calling a) (calling b) h k))

  pub new_calls : (n : Expression) → Calls n → Calls (x.NewVector n)
  new_calls n h = by_layer (e.NewVector n) (x.rolls-NewVector n) h

  pub size_calls : (v : ℕ) → Calls (x.VectorSize v)
  size_calls v = by_layer (e.VectorSize v) (x.rolls-VectorSize v) tt

  pub element_calls : (v : ℕ) (at : Expression) → Calls at → Calls (x.VectorElement v at)
  element_calls v at h = by_layer (e.VectorElement v at) (x.rolls-VectorElement v at) h

  pub length_calls : Calls x.GatheredLength
  length_calls = by_layer e.GatheredLength x.rolls-GatheredLength tt

  pub gathered_calls : (at : Expression) → Calls at → Calls (x.Gathered at)
  gathered_calls at h = by_layer (e.Gathered at) (x.rolls-Gathered at) h

  pub gathered_size_calls : (at : Expression) → Calls at → Calls (x.GatheredSize at)
  gathered_size_calls at h = by_layer (e.GatheredSize at) (x.rolls-GatheredSize at) h

  pub gathered_element_calls : (at index : Expression) → Calls at → Calls index → Calls (x.GatheredElement at index)
  gathered_element_calls at index h k =
      by_layer (e.GatheredElement at index) (x.rolls-GatheredElement at index) (each_both P (calling at) (calling index) h k)

  pub call_calls : (m : ℕ) (args : List Expression) → P m → CallsAll args → Calls (x.Call m args)
  call_calls m args here h = by_layer (e.Call m args) (x.rolls-Call m args) (each_both P (in_all (map calling args)) (m ∷ []) h (here, tt))

  pub merge_calls : (m : ℕ) → P m → Calls (x.Merge m)
  merge_calls m here = by_layer (e.Merge m) (x.rolls-Merge m) (here, tt)

  -- ---- lists of expressions

  pub push_calls : (args : List Expression) (a : Expression) → CallsAll args → Calls a → CallsAll (args ++ a ∷ [])
  push_calls [] a h k = each_both P (calling a) [] k tt
  push_calls (b ∷ args) a h k =
      each_both P (calling b) (in_all (map calling (args ++ a ∷ []))) (each_first P (calling b) (in_all (map calling args)) h)
      (push_calls args a (each_second P (calling b) (in_all (map calling args)) h) k)

  pub argument_calls : (args : List Expression) (n : ℕ) → CallsAll args → Calls (argument args n)
  argument_calls [] n h = nothing_calls
  argument_calls (a ∷ args) zero h = each_first P (calling a) (in_all (map calling args)) h
  argument_calls (a ∷ args) (suc n) h = argument_calls args n (each_second P (calling a) (in_all (map calling args)) h)

  -- ---- what is made of expressions

  pub converted_calls : (wanted found : ExprType) (a : Expression) → Calls a → Calls (converted_to wanted found a)
  converted_calls (Value Long) (Value Int) a h = cast_calls _ a h
  converted_calls (Value Int) (Value Long) a h = cast_calls _ a h
  converted_calls wanted found a h = h

  pub taken_calls : (wanted : ExprType) (r : Resolved) → Calls r.expression → Calls (taken wanted r)
  taken_calls wanted r h = converted_calls wanted r.found r.expression h

  either_calls : (b : Bool) (a c : Expression) → Calls a → Calls c → Calls (if b then a else c)
  either_calls true a c h k = h
  either_calls false a c h k = k

  pub operated_calls : (op : BinOp) (a b : Resolved) → Calls a.expression → Calls b.expression → Calls (operated op a b)
  operated_calls op a b h k =
      let t = promoted a.found b.found in
      either_calls (is_shift op) (x.Binary op a.expression (taken (Value Int) b)) (x.Binary op (taken t a) (taken t b))
      (binary_calls op a.expression (taken (Value Int) b) h (taken_calls (Value Int) b k)) (binary_calls op (taken t a) (taken t b) (taken_calls t a h) (taken_calls t b k))

  pub negated_calls : (op : UnOp) (a : Resolved) → Calls a.expression → Calls (negated op a)
  negated_calls un.Plus a h = h
  negated_calls un.Minus a h = either_calls a.is_minimum _ _ h (unary_calls un.Minus a.expression h)
  negated_calls op a h = unary_calls op a.expression h

-- ---- statements

called_from : (layer : Statement-F Statement) {a : Statement} → roll-Statement layer ≡ a → called_in a ≡ called_step (map-Statement Statement (List ℕ) called_in layer)
called_from layer rolled = ap called_in (sym rolled) ∙ fold-roll-Statement (List ℕ) called_step layer

module _ (P : ℕ → Type 0) where
  abbrev pub CallsIn : Statement → Type 0
  CallsIn a = Each P (called_in a)

  abbrev pub CallsInAll : List Statement → Type 0
  CallsInAll all = Each P (in_all (map called_in all))

  abbrev pub CallsMaybe : Option Expression → Type 0
  CallsMaybe a = Each P (calling_maybe a)

  abbrev pub CallsInSecond : Option Statement → Type 0
  CallsInSecond None = Unit {0}
  CallsInSecond (Some a) = CallsIn a

  of_layer : (layer : Statement-F Statement) {a : Statement} → roll-Statement layer ≡ a → Each P (called_step (map-Statement Statement (List ℕ) called_in layer)) → CallsIn a
  of_layer layer rolled h = subst (Each P) (sym (called_from layer rolled)) h

  pub assign_calls : (v : ℕ) (a : Expression) → Calls P a → CallsIn (statement.Assign v a)
  assign_calls v a h = of_layer (s.Assign v a) (statement.rolls-Assign v a) h

  pub set_calls : (v : ℕ) (at a : Expression) → Calls P at → Calls P a → CallsIn (statement.SetElement v at a)
  set_calls v at a h k = of_layer (s.SetElement v at a) (statement.rolls-SetElement v at a) (each_both P (calling at) (calling a) h k)

  pub evaluate_calls : (a : Expression) → Calls P a → CallsIn (statement.Evaluate a)
  evaluate_calls a h = of_layer (s.Evaluate a) (statement.rolls-Evaluate a) h

  pub access_calls : (a : Access) → CallsAll P a.args → CallsIn (statement.Access a)
  access_calls a h = of_layer (s.Access a) (statement.rolls-Access a) h

  pub gather_calls : (g : Gather) → CallsAll P g.args → CallsIn (statement.Gather g)
  gather_calls g h = of_layer (s.Gather g) (statement.rolls-Gather g) h

  pub block_calls : (items : List Statement) → CallsInAll items → CallsIn (statement.Block items)
  block_calls items h = of_layer (s.Block items) (statement.rolls-Block items) h

  pub if_calls : (test : Expression) (first : Statement) (second : Option Statement) → Calls P test → CallsIn first → CallsInSecond second → CallsIn (statement.If test first second)
  if_calls test first None t h k =
      of_layer (s.If test first None) (statement.rolls-If test first None) (each_both P (calling test) (called_in first ++ []) t (each_both P (called_in first) [] h tt))
  if_calls test first (Some second) t h k =
      of_layer (s.If test first (Some second)) (statement.rolls-If test first (Some second))
      (each_both P (calling test) (called_in first ++ called_in second) t (each_both P (called_in first) (called_in second) h k))

  pub loop_calls : (start : List Statement) (test : Option Expression) (update : List Statement) (body : Statement)
      → CallsInAll start → CallsMaybe test → CallsInAll update → CallsIn body → CallsIn (statement.Loop start test update body)
  loop_calls start test update body i t u b =
      of_layer (s.Loop start test update body) (statement.rolls-Loop start test update body)
      (each_both P (in_all (map called_in start)) (calling_maybe test ++ (called_in body ++ in_all (map called_in update))) i
      (each_both P (calling_maybe test) (called_in body ++ in_all (map called_in update)) t
      (each_both P (called_in body) (in_all (map called_in update)) b u)))

  pub break_calls : CallsIn statement.Break
  break_calls = of_layer s.Break statement.rolls-Break tt

  pub continue_calls : CallsIn statement.Continue
  continue_calls = of_layer s.Continue statement.rolls-Continue tt

  pub return_calls : (a : Option Expression) → CallsMaybe a → CallsIn (statement.Return a)
  return_calls None h = of_layer (s.Return None) (statement.rolls-Return None) tt
  return_calls (Some a) h = of_layer (s.Return (Some a)) (statement.rolls-Return (Some a)) h

  pub push_statement : (all : List Statement) (a : Statement) → CallsInAll all → CallsIn a → CallsInAll (all ++ a ∷ [])
  push_statement [] a h k = each_both P (called_in a) [] k tt
  push_statement (b ∷ all) a h k =
      each_both P (called_in b) (in_all (map called_in (all ++ a ∷ []))) (each_first P (called_in b) (in_all (map called_in all)) h)
      (push_statement all a (each_second P (called_in b) (in_all (map called_in all)) h) k)
