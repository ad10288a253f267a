-- The form of a graph file: what each part of its JSON is read as, or the first path where the form fails. An object's keys come before its members, and the members in the order of their keys.
use Rattle.std.specs.Prelude.{ℕ, ℤ, pos, negsuc, suc, ◌^◌, ◌==◌, List, [], ◌∷◌, Bool, true, false, not, nat_lt, int_lt, if◌then◌else◌, Option, Some, None, Ok, Err, is_some, option_and_then, codes, decimal}
use Rattle.serde_json.specs.Data.{Data, string, array, object, Items, no_items, item}
use Rattle.serde_json.specs.Find.{get, as_number, as_bool, as_u64, as_i64}
use Rattle.serde_json.specs.Events.{members_len}
use Rattle.state_classes.specs.Methods.{method_text}
use Rattle.flat_code.specs.declared.graph.GraphField.{GraphField}
use Rattle.flat_code.specs.declared.graph.Instr.{Instr}
use Rattle.flat_code.specs.declared.graph.Instr.TheVariants as instr
use Rattle.flat_code.specs.declared.graph.GraphMethod.{GraphMethod}
use Rattle.flat_code.specs.declared.graph.VariableType.{VariableType}
use Rattle.flat_code.specs.declared.graph.TaskKind.{TaskKind}
use Rattle.flat_code.specs.declared.graph.TaskKind.TheVariants as kind
use Rattle.flat_code.specs.declared.graph.Task.{Task}
use Rattle.flat_code.specs.declared.graph.Graph.{Graph}
use Rattle.graph_file.specs.declared.mnemonic.Mnemonic.{Mnemonic}
use Rattle.graph_file.specs.declared.mnemonic.Mnemonic.TheVariants as mnemonic
use Rattle.graph_file.specs.Mnemonics.{mnemonic_word, mnemonics, instr_alone, instr_with}
use Rattle.graph_file.specs.Words.{first_named, class_word, classes, field_kind_word, field_kinds, method_kind_word, method_kinds, task_kind_word, task_kinds, operand_word, operand_types, num_word, nums, bin_word, bin_ops, un_word, un_ops, methods, variable_word, variable_types, result_word, result_types}
use Rattle.graph_file.specs.Found.{Found, ◌>>=◌, or_here, path_under, under}

-- ---- texts, words and numbers

abbrev pub name_form : Data → Found (List ℕ)
name_form (string s) = Ok s
name_form _ = Err []

-- what a word names
abbrev pub word_of : {A : Type 0} → (A → List ℕ) → List A → Data → Option A
word_of word all (string s) = first_named word s all
word_of word all _ = None

abbrev pub word_form : {A : Type 0} → (A → List ℕ) → List A → Data → Found A
word_form word all d = or_here (word_of word all d)

abbrev pub natural : Data → Option ℕ
natural d = option_and_then as_u64 (as_number d)

abbrev pub below : ℕ → Option ℕ → Found ℕ
below limit None = Err []
below limit (Some n) = if nat_lt n limit then Ok n else Err []

-- a number that fits so many bits
abbrev pub number_form : ℕ → Data → Found ℕ
number_form bits d = below (2 ^ bits) (natural d)

abbrev pub integer : Data → Option ℤ
integer d = option_and_then as_i64 (as_number d)

abbrev pub long_form : Data → Found ℤ
long_form d = or_here (integer d)

-- an int: a long within 32 bits
abbrev pub narrow : Option ℤ → Found ℤ
narrow None = Err []
narrow (Some n) = if int_lt n (negsuc 2147483647) then Err [] else (if int_lt (pos 2147483647) n then Err [] else Ok n)

abbrev pub int_form : Data → Found ℤ
int_form d = narrow (integer d)

abbrev pub bool_form : Data → Found Bool
bool_form d = or_here (as_bool d)

-- ---- lists

-- the members of a list from this index on
abbrev pub items_form : {A : Type 0} → (Data → Found A) → ℕ → Items → Found (List A)
items_form form i no_items = Ok []
items_form form i (item d ds) = do
  x ← under (decimal i) (form d)
  xs ← items_form form (suc i) ds
  Ok (x ∷ xs)

abbrev pub list_form : {A : Type 0} → (Data → Found A) → Data → Found (List A)
list_form form (array ds) = items_form form 0 ds
list_form form _ = Err []

-- ---- fields

abbrev pub field_parts : Data → Data → Data → Found GraphField
field_parts name class kind = do
  n ← under (codes "0") (name_form name)
  c ← under (codes "1") (word_form class_word classes class)
  k ← under (codes "2") (word_form field_kind_word field_kinds kind)
  Ok (record { name = n; class = c; kind = k })

abbrev pub field_form : Data → Found GraphField
field_form (array (item name (item class (item kind no_items)))) = field_parts name class kind
field_form _ = Err []

-- ---- instructions: a word and its operands

abbrev pub none : Items → Instr → Found Instr
none no_items i = Ok i
none _ i = Err []

abbrev pub one : {A : Type 0} → (Data → Found A) → Items → Found A
one form (item d no_items) = under (codes "1") (form d)
one form _ = Err []

abbrev pub bin_parts : Data → Data → Found Instr
bin_parts d e = do
  op ← under (codes "1") (word_form bin_word bin_ops d)
  t ← under (codes "2") (word_form operand_word operand_types e)
  Ok (instr.Bin op t)

abbrev pub bin_form : Items → Found Instr
bin_form (item d (item e no_items)) = bin_parts d e
bin_form _ = Err []

abbrev pub access_parts : Data → Data → Found Instr
access_parts d e = do
  name ← under (codes "1") (name_form d)
  m ← under (codes "2") (word_form method_text methods e)
  Ok (instr.Access name m)

abbrev pub access_form : Items → Found Instr
access_form (item d (item e no_items)) = access_parts d e
access_form _ = Err []

abbrev pub operands_form : Mnemonic → Items → Found Instr
operands_form mnemonic.Int ds = one int_form ds >>= λ n. Ok (instr.Int n)
operands_form mnemonic.Long ds = one long_form ds >>= λ n. Ok (instr.Long n)
operands_form mnemonic.Bool ds = one bool_form ds >>= λ b. Ok (instr.Bool b)
operands_form mnemonic.Bin ds = bin_form ds
operands_form mnemonic.Un ds = one (word_form un_word un_ops) ds >>= λ op. Ok (instr.Un op)
operands_form mnemonic.Cast ds = one (word_form num_word nums) ds >>= λ t. Ok (instr.Cast t)
operands_form mnemonic.Call ds = one (number_form 16) ds >>= λ m. Ok (instr.Call m)
operands_form mnemonic.Access ds = access_form ds
operands_form mnemonic.Merge ds = one (number_form 16) ds >>= λ m. Ok (instr.Merge m)
operands_form (mnemonic.Alone word) ds = none ds (instr_alone word)
operands_form (mnemonic.Numbered word) ds = one (number_form 32) ds >>= λ n. Ok (instr_with word n)

abbrev pub instr_form : Data → Found Instr
instr_form (array (item word operands)) = under (codes "0") (word_form mnemonic_word mnemonics word) >>= λ m. operands_form m operands
instr_form _ = Err []

-- ---- objects: exactly the members of the form, so as many as it has, and each of them

-- how many members an object has
abbrev pub count : Data → ℕ
count (object ms) = members_len ms
count _ = 0

abbrev pub variable_form : Data → Found VariableType
variable_form d = word_form variable_word variable_types d

abbrev pub method_members : Data → Data → Data → Data → Data → Data → Found GraphMethod
method_members code kind name params result vars = do
  c ← under (codes "code") (list_form instr_form code)
  k ← under (codes "kind") (word_form method_kind_word method_kinds kind)
  n ← under (codes "name") (name_form name)
  p ← under (codes "params") (number_form 32 params)
  r ← under (codes "result") (word_form result_word result_types result)
  v ← under (codes "vars") (list_form variable_form vars)
  Ok (record { code = c; kind = k; name = n; params = p; result = r; vars = v })

abbrev pub method_parts : Option Data → Option Data → Option Data → Option Data → Option Data → Option Data → Found GraphMethod
method_parts (Some code) (Some kind) (Some name) (Some params) (Some result) (Some vars) = method_members code kind name params result vars
method_parts _ _ _ _ _ _ = Err []

abbrev pub method_form : Data → Found GraphMethod
method_form d =
    if count d == 6 then method_parts (get (codes "code") d) (get (codes "kind") d) (get (codes "name") d) (get (codes "params") d) (get (codes "result") d) (get (codes "vars") d) else Err []

-- ---- tasks

-- tasks of these kinds have a field
abbrev pub has_field : TaskKind → Bool
has_field kind.Keyed = true
has_field kind.Local = true
has_field kind.Visit = true
has_field _ = false

abbrev pub same : Bool → Bool → Bool
same true b = b
same false b = not b

-- the kind, if it is known, has a field exactly where there is one
abbrev pub suits : Option TaskKind → Bool → Bool
suits None there = true
suits (Some k) there = same (has_field k) there

abbrev pub task_field : Option Data → Found (Option (List ℕ))
task_field None = Ok None
task_field (Some d) = under (codes "field") (name_form d) >>= λ name. Ok (Some name)

abbrev pub task_members : Data → Option Data → Data → Data → Data → Found Task
task_members at field kind method vars = do
  a ← under (codes "at") (number_form 32 at)
  f ← task_field field
  k ← under (codes "kind") (word_form task_kind_word task_kinds kind)
  m ← under (codes "method") (number_form 16 method)
  v ← under (codes "vars") (list_form (number_form 32) vars)
  Ok (record { at = a; field = f; kind = k; method = m; vars = v })

abbrev pub task_parts : Option Data → Option Data → Option Data → Option Data → Option Data → Found Task
task_parts (Some at) field (Some kind) (Some method) (Some vars) =
    if suits (word_of task_kind_word task_kinds kind) (is_some field) then task_members at field kind method vars else Err []
task_parts _ _ _ _ _ = Err []

abbrev pub task_count : Option Data → ℕ
task_count None = 4
task_count (Some field) = 5

abbrev pub task_form : Data → Found Task
task_form d =
    if count d == task_count (get (codes "field") d) then task_parts (get (codes "at") d) (get (codes "field") d) (get (codes "kind") d) (get (codes "method") d) (get (codes "vars") d) else Err []

-- ---- graphs

abbrev pub is_version : Option ℕ → Bool
is_version None = false
is_version (Some n) = n == 1

abbrev pub versioned : Data → Graph → Found Graph
versioned version g = if is_version (natural version) then Ok g else Err (path_under (codes "version") [])

abbrev pub graph_members : Data → Data → Data → Data → Data → Found Graph
graph_members class fields methods tasks version = do
  c ← under (codes "class") (name_form class)
  f ← under (codes "fields") (list_form field_form fields)
  m ← under (codes "methods") (list_form method_form methods)
  t ← under (codes "tasks") (list_form task_form tasks)
  versioned version (record { class = c; fields = f; methods = m; tasks = t })

abbrev pub graph_parts : Option Data → Option Data → Option Data → Option Data → Option Data → Found Graph
graph_parts (Some class) (Some fields) (Some methods) (Some tasks) (Some version) = graph_members class fields methods tasks version
graph_parts _ _ _ _ _ = Err []

abbrev pub graph_form : Data → Found Graph
graph_form d =
    if count d == 5 then graph_parts (get (codes "class") d) (get (codes "fields") d) (get (codes "methods") d) (get (codes "tasks") d) (get (codes "version") d) else Err []
