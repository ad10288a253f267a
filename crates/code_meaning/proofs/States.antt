-- A call of a state's method gives a value of the method's type, and the state stays of its class.
use Rattle.std.proofs.Common.{◌≡◌, refl, ℤ, pos, int_lt, Bool, true, false, cond, List, [], ◌∷◌, map, unsigned_abs, Option, Some, None}
use Rattle.sdg_base.specs.declared.store.ClassName.TheVariants as class_name
use Rattle.sdg_base.specs.declared.val.Exn.TheVariants.{Index, NegativeSize}
use Rattle.sdg_base.specs.declared.val.Outcome.{Outcome}
use Rattle.sdg_base.specs.declared.val.Outcome.TheVariants as outcome
use Rattle.sdg_base.specs.declared.val.Val.{Val}
use Rattle.sdg_base.specs.declared.val.Val.TheVariants as val
use Rattle.sdg_base.specs.declared.value_type.ValueType.{ValueType}
use Rattle.sdg_base.specs.declared.value_type.ValueType.TheVariants as type
use Rattle.sdg_base.specs.Signatures.{Signature}
use Rattle.sdg_base.specs.Types.{type_of}
use Rattle.state_classes.specs.declared.method.Method.{Method}
use Rattle.state_classes.specs.declared.method.Method.TheVariants as method
use Rattle.state_classes.specs.declared.plan.Plan.{Plan}
use Rattle.state_classes.specs.Arguments.{nothing, one_long, two_longs, three_longs, long_and_int, one_vector}
use Rattle.state_classes.specs.Entries.{Entries, MatrixKey}
use Rattle.state_classes.specs.Methods.{signature}
use Rattle.state_classes.specs.Plans.{on, ends, gives, planned_on_table, planned_on_matrix, planned_on_counter, at_column, is_column, row_plan, row_of}
use Rattle.state_classes.specs.States.{State, OfTable, OfMatrix, OfCounter, class_of, called}

abbrev pub OutcomeHas : ValueType → Outcome → Type 0
OutcomeHas t (outcome.Value v) = type_of v ≡ t
OutcomeHas t _ = Unit {0}

-- on arguments of the types of a signature an outcome is of its type
abbrev pub Answers : Option Signature → List Val → Outcome → Type 0
Answers None args how = Unit {0}
Answers (Some sig) args how = map type_of args ≡ sig.arguments → OutcomeHas sig.result how

module _ {K : Type 0} (t : ValueType) where
  on_nothing : (args : List Val) (f : Unit {0} → Plan K ℤ) → ((a : Unit {0}) → OutcomeHas t (f a).outcome) → map type_of args ≡ [] → OutcomeHas t (on (nothing args) f).outcome
  on_nothing [] f h e = h tt
  on_nothing (v ∷ vs) f h e = absurd (cc)

  on_long : (args : List Val) (f : ℤ → Plan K ℤ) → ((a : ℤ) → OutcomeHas t (f a).outcome) → map type_of args ≡ type.Long ∷ [] → OutcomeHas t (on (one_long args) f).outcome
  on_long (val.Long a ∷ []) f h e = h a
  on_long _ f h e = absurd (cc)

  on_two : (args : List Val) (f : ℤ × ℤ → Plan K ℤ) → ((a : ℤ × ℤ) → OutcomeHas t (f a).outcome) → map type_of args ≡ type.Long ∷ type.Long ∷ [] → OutcomeHas t (on (two_longs args) f).outcome
  on_two (val.Long a ∷ val.Long b ∷ []) f h e = h (a, b)
  on_two _ f h e = absurd (cc)

  on_three : (args : List Val) (f : ℤ × ℤ × ℤ → Plan K ℤ) → ((a : ℤ × ℤ × ℤ) → OutcomeHas t (f a).outcome) → map type_of args ≡ type.Long ∷ type.Long ∷ type.Long ∷ [] → OutcomeHas t (on (three_longs args) f).outcome
  on_three (val.Long a ∷ val.Long b ∷ val.Long c ∷ []) f h e = h (a, b, c)
  on_three _ f h e = absurd (cc)

  on_sized : (args : List Val) (f : ℤ × ℤ → Plan K ℤ) → ((a : ℤ × ℤ) → OutcomeHas t (f a).outcome) → map type_of args ≡ type.Long ∷ type.Int ∷ [] → OutcomeHas t (on (long_and_int args) f).outcome
  on_sized (val.Long a ∷ val.Int b ∷ []) f h e = h (a, b)
  on_sized _ f h e = absurd (cc)

  on_vector : (args : List Val) (f : List ℤ → Plan K ℤ) → ((a : List ℤ) → OutcomeHas t (f a).outcome) → map type_of args ≡ type.Vector ∷ [] → OutcomeHas t (on (one_vector args) f).outcome
  on_vector (val.Vector a ∷ []) f h e = h a
  on_vector _ f h e = absurd (cc)

at_columns : (t : ValueType) (column : ℤ) (p : Plan MatrixKey ℤ) → OutcomeHas t p.outcome → OutcomeHas t (at_column column p).outcome
at_columns t column p h = by (is_column column)
  where
    by : (b : Bool) → OutcomeHas t (cond b p (ends (outcome.Throws Index))).outcome
    by true = h
    by false = tt

rows : (row n : ℤ) (entries : Entries MatrixKey) → OutcomeHas type.Vector (row_plan row n entries).outcome
rows row n entries = by (int_lt n (pos 0)) (int_lt (pos 4096) n)
  where
    by : (b c : Bool) → OutcomeHas type.Vector (cond b (ends {K = MatrixKey} (outcome.Throws NegativeSize)) (cond c (ends outcome.Limit) (gives (val.Vector (row_of row (unsigned_abs n) entries))))).outcome
    by true c = tt
    by false true = tt
    by false false = refl

table_answers : (k : Method) (args : List Val) (entries : Entries ℤ) → Answers (signature class_name.Table k) args (planned_on_table k args entries).outcome
table_answers method.Get args entries = λ e. on_long _ args _ (λ a. refl) e
table_answers method.Has args entries = λ e. on_long _ args _ (λ a. refl) e
table_answers method.Put args entries = λ e. on_two _ args _ (λ a. refl) e
table_answers method.Add args entries = λ e. on_two _ args _ (λ a. refl) e
table_answers method.Remove args entries = λ e. on_long _ args _ (λ a. refl) e
table_answers method.Size args entries = λ e. on_nothing _ args _ (λ a. refl) e
table_answers _ args entries = tt

matrix_answers : (k : Method) (args : List Val) (entries : Entries MatrixKey) → Answers (signature class_name.Matrix k) args (planned_on_matrix k args entries).outcome
matrix_answers method.GetElement args entries = λ e. on_two _ args _ (λ a. at_columns _ a.1 _ refl) e
matrix_answers method.SetElement args entries = λ e. on_three _ args _ (λ a. at_columns _ a.1 _ refl) e
matrix_answers method.AddElement args entries = λ e. on_three _ args _ (λ a. at_columns _ a.1 _ refl) e
matrix_answers method.GetRow args entries = λ e. on_sized _ args _ (λ a. rows a.0 a.1 entries) e
matrix_answers method.Multiply args entries = λ e. on_vector _ args _ (λ a. refl) e
matrix_answers method.Size args entries = λ e. on_nothing _ args _ (λ a. refl) e
matrix_answers _ args entries = tt

counter_answers : (k : Method) (args : List Val) (value : ℤ) → Answers (signature class_name.Counter k) args (planned_on_counter k args value).outcome
counter_answers method.Get args value = λ e. on_nothing _ args _ (λ a. refl) e
counter_answers method.Add args value = λ e. on_long _ args _ (λ a. refl) e
counter_answers method.Set args value = λ e. on_long _ args _ (λ a. refl) e
counter_answers _ args value = tt

pub call_answers : (k : Method) (args : List Val) (state : State) → Answers (signature (class_of state) k) args (called k args state).0
unfolding called
call_answers k args (OfTable entries) = table_answers k args entries
call_answers k args (OfMatrix entries) = matrix_answers k args entries
call_answers k args (OfCounter value) = counter_answers k args value

pub call_keeps : (k : Method) (args : List Val) (state : State) → class_of (called k args state).1 ≡ class_of state
unfolding called
call_keeps k args (OfTable entries) = refl
call_keeps k args (OfMatrix entries) = refl
call_keeps k args (OfCounter value) = refl
