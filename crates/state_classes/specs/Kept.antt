-- The calls of each class keep to the part of their key, and a class takes what its plans change. The laws of the trait want
-- these proofs here.
use Rattle.std.proofs.Common.{◌≡◌, ℕ, ℤ, pos, int_lt, is_some, List, [], ◌∷◌, Bool, true, false, cond, Option, Some, None, IfSome, IsSome, IsTrue, unwrap_or, map, unsigned_abs, refl, sym, ap, subst, ◌∙◌}
use mathlib.Core.Bool.{true≢false}
use Rattle.std.specs.List.{range_with_len}
use Rattle.std.specs.Ordering.{int_cmp, nat_cmp}
use Rattle.sdg_base.specs.declared.store.ClassName.TheVariants as class_name
use Rattle.sdg_base.specs.declared.val.Exn.TheVariants.{Index, NegativeSize}
use Rattle.sdg_base.specs.declared.val.Outcome.TheVariants.{Throws, Limit}
use Rattle.sdg_base.specs.declared.val.Val.{Val}
use Rattle.sdg_base.specs.declared.val.Val.TheVariants as val
use Rattle.state_classes.specs.declared.method.Method.{Method}
use Rattle.state_classes.specs.declared.method.Method.TheVariants as method
use Rattle.state_classes.specs.declared.plan.Plan.{Plan}
use Rattle.state_classes.specs.Arguments.{nothing, one_long, two_longs, three_longs, long_and_int}
use Rattle.state_classes.specs.Entries.{Entries, MatrixKey, by_row_and_column, entry_at, has_entry, value_at}
use Rattle.state_classes.specs.Laws.{KeepsTo, IsKey, IsInRow, part_named, CallsKeepToTheirPart}
use Rattle.state_classes.specs.Methods.{is_keyed}
use Rattle.state_classes.specs.Plans.{planned_on_table, planned_on_matrix, planned_on_held_counter, on, gives, sets, ends, sum_of, element, at_column, is_column, row_plan, row_of}

-- ---- the argument that is named is the part

one-part : (args : List Val) (a key : ℤ) → one_long args ≡ Some a → part_named args ≡ Some key → a ≡ key
one-part (val.Long x ∷ []) a key e h = ap (λ o. unwrap_or o x) (sym e ∙ h)
one-part _ a key e h = absurd (true≢false (sym (ap is_some e)))

two-part : (args : List Val) (a : ℤ × ℤ) (key : ℤ) → two_longs args ≡ Some a → part_named args ≡ Some key → a.0 ≡ key
two-part (val.Long x ∷ val.Long y ∷ []) a key e h = ap (λ o. (unwrap_or {T = ℤ × ℤ} o (x, y)).0) (sym e) ∙ ap (λ o. unwrap_or o x) h
two-part _ a key e h = absurd (true≢false (sym (ap is_some e)))

three-part : (args : List Val) (a : ℤ × ℤ × ℤ) (key : ℤ) → three_longs args ≡ Some a → part_named args ≡ Some key → a.0 ≡ key
three-part (val.Long x ∷ val.Long y ∷ val.Long z ∷ []) a key e h = ap (λ o. (unwrap_or {T = ℤ × ℤ × ℤ} o (x, y, z)).0) (sym e) ∙ ap (λ o. unwrap_or o x) h
three-part _ a key e h = absurd (true≢false (sym (ap is_some e)))

sized-part : (args : List Val) (a : ℤ × ℤ) (key : ℤ) → long_and_int args ≡ Some a → part_named args ≡ Some key → a.0 ≡ key
sized-part (val.Long x ∷ val.Int y ∷ []) a key e h = ap (λ o. (unwrap_or {T = ℤ × ℤ} o (x, y)).0) (sym e) ∙ ap (λ o. unwrap_or o x) h
sized-part _ a key e h = absurd (true≢false (sym (ap is_some e)))

-- ---- a plan on arguments keeps to a part where it does on each that there may be

module _ {K : Type 0} (P : K → Type 0) where
  keeps-on : {A : Type 0} (o : Option A) (f g : A → Plan K ℤ) → ((a : A) → o ≡ Some a → KeepsTo P (f a) (g a)) → KeepsTo P (on o f) (on o g)
  keeps-on None f g h = record { same = refl; within = tt }
  keeps-on (Some a) f g h = h a refl

  answers : (v w : Val) → v ≡ w → KeepsTo P (gives v) (gives w)
  answers v w e = record { same = ap gives e; within = tt }

  stays : (v : Val) → KeepsTo P (gives v) (gives v)
  stays v = answers v v refl

  writes : (key : K) (v w : ℤ) → P key → v ≡ w → KeepsTo P (sets key v) (sets key w)
  writes key v w p e = record { same = ap (sets key) e; within = p }

-- ---- Table

module _ (args : List Val) (key : ℤ) (here there : Entries ℤ) (named : part_named args ≡ Some key) (agree : entry_at int_cmp key here ≡ entry_at int_cmp key there) where
  at_key : (a : ℤ) → a ≡ key → entry_at int_cmp a here ≡ entry_at int_cmp a there
  at_key a e = let P : ℤ → Type 0 = λ k. entry_at int_cmp k here ≡ entry_at int_cmp k there in subst P (sym e) agree

  value-at_key : (a : ℤ) → a ≡ key → value_at int_cmp a here ≡ value_at int_cmp a there
  value-at_key a e = ap (λ o. unwrap_or o (pos 0)) (at_key a e)

  has-at_key : (a : ℤ) → a ≡ key → has_entry int_cmp a here ≡ has_entry int_cmp a there
  unfolding has_entry
  has-at_key a e = ap is_some (at_key a e)

  on_table : (m : Method) → IsTrue (is_keyed class_name.Table m) → KeepsTo (λ k. k ≡ key) (planned_on_table m args here) (planned_on_table m args there)
  on_table method.Get k = keeps-on _ (one_long args) _ _ (λ a e. answers _ _ _ (ap val.Long (value-at_key a (one-part args a key e named))))
  on_table method.Has k = keeps-on _ (one_long args) _ _ (λ a e. answers _ _ _ (ap val.Bool (has-at_key a (one-part args a key e named))))
  on_table method.Put k = keeps-on _ (two_longs args) _ _ (λ a e. writes _ a.0 _ _ (two-part args a key e named) refl)
  on_table method.Add k = keeps-on _ (two_longs args) _ _ (λ a e. let p = two-part args a key e named in writes _ a.0 _ _ p (ap (λ v. sum_of v a.1) (value-at_key a.0 p)))
  on_table method.Remove k = keeps-on _ (one_long args) _ _ (λ a e. record { same = refl; within = one-part args a key e named })
  on_table method.Size k = absurd (true≢false (sym k))
  on_table _ k = stays _ val.Unit

pub table_keeps : CallsKeepToTheirPart int_cmp IsKey (is_keyed class_name.Table) planned_on_table
table_keeps m args key here there k named agree = on_table args key here there named (agree key refl) m k

-- ---- Matrix

module _ (args : List Val) (row : ℤ) (here there : Entries MatrixKey) (named : part_named args ≡ Some row) (agree : (column : ℤ) → entry_at by_row_and_column (row, column) here ≡ entry_at by_row_and_column (row, column) there) where
  in_row : (r column : ℤ) → r ≡ row → element r column here ≡ element r column there
  in_row r column e = let P : ℤ → Type 0 = λ r. element r column here ≡ element r column there in subst P (sym e) (ap (λ o. unwrap_or o (pos 0)) (agree column))

  at_columns : (column : ℤ) (p q : Plan MatrixKey ℤ) → KeepsTo (IsInRow row) p q → KeepsTo (IsInRow row) (at_column column p) (at_column column q)
  at_columns column p q h = by (is_column column)
    where
      by : (b : Bool) → KeepsTo (IsInRow row) (cond b p (ends (Throws Index))) (cond b q (ends (Throws Index)))
      by true = h
      by false = record { same = refl; within = tt }

  rows : (r : ℤ) (n : ℕ) → r ≡ row → row_of r n here ≡ row_of r n there
  rows r n e i = map (λ column. in_row r (pos column) e i) (range_with_len 0 n)

  row_plans : (r n : ℤ) → r ≡ row → KeepsTo (IsInRow row) (row_plan r n here) (row_plan r n there)
  row_plans r n e = by (int_lt n (pos 0)) (int_lt (pos 4096) n)
    where
      by : (b c : Bool) → KeepsTo (IsInRow row) (cond b (ends (Throws NegativeSize)) (cond c (ends Limit) (gives (val.Vector (row_of r (unsigned_abs n) here))))) (cond b (ends (Throws NegativeSize)) (cond c (ends Limit) (gives (val.Vector (row_of r (unsigned_abs n) there)))))
      by true c = record { same = refl; within = tt }
      by false true = record { same = refl; within = tt }
      by false false = answers _ _ _ (ap val.Vector (rows r (unsigned_abs n) e))

  on_matrix : (m : Method) → IsTrue (is_keyed class_name.Matrix m) → KeepsTo (IsInRow row) (planned_on_matrix m args here) (planned_on_matrix m args there)
  on_matrix method.GetElement k = keeps-on _ (two_longs args) _ _ (λ a e. at_columns a.1 _ _ (answers _ _ _ (ap val.Long (in_row a.0 a.1 (two-part args a row e named)))))
  on_matrix method.SetElement k = keeps-on _ (three_longs args) _ _ (λ a e. at_columns a.1 _ _ (writes _ (a.0, a.1) _ _ (three-part args a row e named) refl))
  on_matrix method.AddElement k = keeps-on _ (three_longs args) _ _ (λ a e. let p = three-part args a row e named in at_columns a.1 _ _ (writes _ (a.0, a.1) _ _ p (ap (λ v. sum_of v a.2) (in_row a.0 a.1 p))))
  on_matrix method.GetRow k = keeps-on _ (long_and_int args) _ _ (λ a e. row_plans a.0 a.1 (sized-part args a row e named))
  on_matrix method.Multiply k = absurd (true≢false (sym k))
  on_matrix method.Size k = absurd (true≢false (sym k))
  on_matrix _ k = stays _ val.Unit

pub matrix_keeps : CallsKeepToTheirPart by_row_and_column IsInRow (is_keyed class_name.Matrix) planned_on_matrix
matrix_keeps m args row here there k named agree = on_matrix args row here there named (λ column. agree (row, column) refl) m k

-- ---- Counter, which has no keyed method

pub counter_keeps : CallsKeepToTheirPart nat_cmp (λ part key. ⊥) (is_keyed class_name.Counter) planned_on_held_counter
counter_keeps m args part here there k named agree = none m k
  where
    none : (m : Method) → IsTrue (is_keyed class_name.Counter m) → KeepsTo (λ key. ⊥) (planned_on_held_counter m args here) (planned_on_held_counter m args there)
    none method.Get k = absurd (true≢false (sym k))
    none method.Add k = absurd (true≢false (sym k))
    none method.Set k = absurd (true≢false (sym k))
    none _ k = record { same = refl; within = tt }

-- ---- the changes that plans make are those that the class takes

pub any_is_taken : {K : Type 0} (plan : Plan K ℤ) → IfSome plan.change (λ change. Unit {0})
any_is_taken plan = by plan.change
  where
    by : {A : Type 0} (o : Option A) → IfSome o (λ change. Unit {0})
    by None = tt
    by (Some change) = tt

taken-on : {A : Type 0} (o : Option A) (f : A → Plan ℕ ℤ) → ((a : A) → IfSome (f a).change (λ change. (change.0 ≡ 0) × IsSome change.1)) → IfSome (on o f).change (λ change. (change.0 ≡ 0) × IsSome change.1)
taken-on None f h = tt
taken-on (Some a) f h = h a

pub counter_is_taken : (m : Method) (args : List Val) (entries : Entries ℕ) → IfSome (planned_on_held_counter m args entries).change (λ change. (change.0 ≡ 0) × IsSome change.1)
counter_is_taken method.Get args entries = taken-on (nothing args) (λ _. gives (val.Long (value_at nat_cmp 0 entries))) (λ a. tt)
counter_is_taken method.Add args entries = taken-on (one_long args) (λ n. sets 0 (sum_of (value_at nat_cmp 0 entries) n)) (λ a. (refl, refl))
counter_is_taken method.Set args entries = taken-on (one_long args) (λ n. sets 0 n) (λ a. (refl, refl))
counter_is_taken _ args entries = tt
