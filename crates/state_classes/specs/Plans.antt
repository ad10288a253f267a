-- What each method of the classes that hold state answers, and which entry it changes.
use Rattle.std.specs.Prelude.{ℕ, ◌+◌, ℤ, pos, ◌+ℤ◌, ◌*ℤ◌, unsigned_abs, int_lt, int_le, Bool, ◌&&◌, List, [], ◌∷◌, length, map, Option, Some, None, if◌then◌else◌}
use Rattle.std.specs.List.{range_with_len}
use Rattle.std.specs.Ordering.{int_cmp, nat_cmp}
use Rattle.sdg_base.specs.declared.val.Exn.TheVariants.{Index, NegativeSize}
use Rattle.sdg_base.specs.declared.val.Num.TheVariants as num
use Rattle.sdg_base.specs.declared.val.Outcome.{Outcome}
use Rattle.sdg_base.specs.declared.val.Outcome.TheVariants.{Value, Throws, Limit}
use Rattle.sdg_base.specs.declared.val.Val.{Val}
use Rattle.sdg_base.specs.declared.val.Val.TheVariants as val
use Rattle.sdg_base.specs.Arithmetic.{wrap}
use Rattle.state_classes.specs.declared.method.Method.{Method}
use Rattle.state_classes.specs.declared.method.Method.TheVariants as method
use Rattle.state_classes.specs.declared.plan.Plan.{Plan}
use Rattle.state_classes.specs.Arguments.{nothing, one_long, two_longs, three_longs, long_and_int, one_vector}
use Rattle.state_classes.specs.Entries.{Entries, MatrixKey, by_row_and_column, has_entry, value_at}

-- ---- an outcome, and the change of at most one entry

module _ {K : Type 0} where
  abbrev pub ends : Outcome → Plan K ℤ
  ends outcome = record { outcome = outcome; change = None }

  abbrev pub gives : Val → Plan K ℤ
  gives value = ends (Value value)

  abbrev pub sets : K → ℤ → Plan K ℤ
  sets key value = record { outcome = Value val.Unit; change = Some (key, Some value) }

  abbrev pub removes : K → Plan K ℤ
  removes key = record { outcome = Value val.Unit; change = Some (key, None) }

  -- Arguments of other types, and methods that a class does not have, answer nothing and change nothing.
  abbrev pub on : {A : Type 0} → Option A → (A → Plan K ℤ) → Plan K ℤ
  on None plan = gives val.Unit
  on (Some args) plan = plan args

-- Sums and products of `long`s wrap around at 64 bits.
abbrev pub sum_of : ℤ → ℤ → ℤ
sum_of a b = wrap num.Long (a +ℤ b)

abbrev pub product_of : ℤ → ℤ → ℤ
product_of a b = wrap num.Long (a *ℤ b)

-- ---- Table

abbrev pub planned_on_table : Method → List Val → Entries ℤ → Plan ℤ ℤ
planned_on_table method.Get args entries = on (one_long args) (λ key. gives (val.Long (value_at int_cmp key entries)))
planned_on_table method.Has args entries = on (one_long args) (λ key. gives (val.Bool (has_entry int_cmp key entries)))
planned_on_table method.Put args entries = on (two_longs args) (λ a. sets a.0 a.1)
planned_on_table method.Add args entries = on (two_longs args) (λ a. sets a.0 (sum_of (value_at int_cmp a.0 entries) a.1))
planned_on_table method.Remove args entries = on (one_long args) removes
planned_on_table method.Size args entries = on (nothing args) (λ _. gives (val.Long (pos (length entries))))
planned_on_table _ args entries = gives val.Unit

-- ---- Matrix

abbrev pub element : ℤ → ℤ → Entries MatrixKey → ℤ
element row column entries = value_at by_row_and_column (row, column) entries

-- Columns are from 0 to 4095.
abbrev pub is_column : ℤ → Bool
is_column column = int_le (pos 0) column && int_lt column (pos 4096)

abbrev pub at_column : ℤ → Plan MatrixKey ℤ → Plan MatrixKey ℤ
at_column column plan = if is_column column then plan else ends (Throws Index)

-- the elements of a row at the first n columns
abbrev pub row_of : ℤ → ℕ → Entries MatrixKey → List ℤ
row_of row n entries = map (λ column. element row (pos column) entries) (range_with_len 0 n)

-- A vector has at most 4096 elements.
abbrev pub row_plan : ℤ → ℤ → Entries MatrixKey → Plan MatrixKey ℤ
row_plan row n entries = if int_lt n (pos 0) then ends (Throws NegativeSize) else (if int_lt (pos 4096) n then ends Limit else gives (val.Vector (row_of row (unsigned_abs n) entries)))

-- the sum over the columns from one on of the row's element there times the vector's
abbrev pub weighted : ℤ → ℕ → List ℤ → Entries MatrixKey → ℤ
weighted row column [] entries = pos 0
weighted row column (x ∷ xs) entries = (element row (pos column) entries *ℤ x) +ℤ weighted row (column + 1) xs entries

-- the matrix's first rows times the vector, as many as it has elements; sums and products wrap around at 64 bits
abbrev pub product : List ℤ → Entries MatrixKey → List ℤ
product v entries = map (λ row. wrap num.Long (weighted (pos row) 0 v entries)) (range_with_len 0 (length v))

abbrev pub planned_on_matrix : Method → List Val → Entries MatrixKey → Plan MatrixKey ℤ
planned_on_matrix method.GetElement args entries = on (two_longs args) (λ a. at_column a.1 (gives (val.Long (element a.0 a.1 entries))))
planned_on_matrix method.SetElement args entries = on (three_longs args) (λ a. at_column a.1 (sets (a.0, a.1) a.2))
planned_on_matrix method.AddElement args entries = on (three_longs args) (λ a. at_column a.1 (sets (a.0, a.1) (sum_of (element a.0 a.1 entries) a.2)))
planned_on_matrix method.GetRow args entries = on (long_and_int args) (λ a. row_plan a.0 a.1 entries)
planned_on_matrix method.Multiply args entries = on (one_vector args) (λ v. gives (val.Vector (product v entries)))
planned_on_matrix method.Size args entries = on (nothing args) (λ _. gives (val.Long (pos (length entries))))
planned_on_matrix _ args entries = gives val.Unit

-- ---- Counter, whose only key is 0

abbrev pub planned_on_counter : Method → List Val → ℤ → Plan ℕ ℤ
planned_on_counter method.Get args value = on (nothing args) (λ _. gives (val.Long value))
planned_on_counter method.Add args value = on (one_long args) (λ n. sets 0 (sum_of value n))
planned_on_counter method.Set args value = on (one_long args) (λ n. sets 0 n)
planned_on_counter _ args value = gives val.Unit

-- the same on whatever holds its one entry
abbrev pub planned_on_held_counter : Method → List Val → Entries ℕ → Plan ℕ ℤ
planned_on_held_counter m args entries = planned_on_counter m args (value_at nat_cmp 0 entries)
