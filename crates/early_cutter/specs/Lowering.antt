-- The flat code of a method of the straight form, with a cut at each mark.
use Rattle.std.specs.Prelude.{ℕ, ◌+◌, if◌then◌else◌, List, [], ◌∷◌, ◌++◌, length, replicate, Option, Some, None}
use Rattle.sdg_base.specs.declared.store.ClassName.TheVariants as class_name
use Rattle.early_tables.specs.declared.method.Method.TheVariants as method
use Rattle.early_source.specs.Sites.{Key, Compound, same_site}
use Rattle.early_task_code.specs.declared.graph.Instr.{Instr}
use Rattle.early_task_code.specs.declared.graph.Instr.TheVariants as instr
use Rattle.early_task_code.specs.declared.graph.VarType.{VarType}
use Rattle.early_task_code.specs.declared.graph.VarType.TheVariants as var_type
use Rattle.early_task_code.specs.declared.graph.MethodKind.TheVariants as method_kind
use Rattle.early_task_code.specs.declared.graph.FieldKind.TheVariants as field_kind
use Rattle.early_task_code.specs.declared.graph.GraphField.{GraphField}
use Rattle.early_task_code.specs.declared.graph.GraphMethod.{GraphMethod}
use Rattle.early_forms.specs.declared.straight.Sum.{Sum}
use Rattle.early_forms.specs.declared.straight.Statement.{Statement}
use Rattle.early_forms.specs.declared.straight.Statement.TheVariants.{Get, Set, Put}
use Rattle.early_forms.specs.declared.straight.Ending.{Ending}
use Rattle.early_forms.specs.declared.straight.Ending.TheVariants as ending
use Rattle.early_forms.specs.declared.straight.StraightMethod.{StraightMethod}
use Rattle.early_forms.specs.Names.{variables}
use Rattle.early_plain.specs.Keys.{written_key, written_site}
use Rattle.early_cutter.specs.Points.{Point, number_in, point_at, point_after}
use Rattle.early_cutter.specs.Sums.{long_code}

-- ---- an access

-- A mark stands where the site is not the current one: the key is evaluated, a turn is spent, and the task ends.
abbrev pub mark_code : Point → List ℕ → Sum → List Instr
mark_code p field key =
    if same_site p.site (written_site field key) then [] else long_code p.scope key ++ instr.Turn ∷ instr.Cut p.task ∷ []

-- A compound key is not evaluated again: it is the one that was carried to the task.
abbrev pub argument_code : Key → List (List ℕ) → Sum → List Instr
argument_code Compound scope key = instr.Key ∷ []
argument_code _ scope key = long_code scope key

abbrev pub key_code : Point → List ℕ → Sum → List Instr
key_code p field key = mark_code p field key ++ argument_code (written_key key) p.scope key

abbrev pub get_code : List (List ℕ) → Point → List ℕ → Sum → List Instr
get_code fields p field key = key_code p field key ++ instr.Access (number_in fields field) method.Get ∷ []

abbrev pub put_code : List (List ℕ) → Point → List ℕ → Sum → Sum → List Instr
put_code fields p field key value = (key_code p field key ++ long_code p.scope value) ++ instr.Access (number_in fields field) method.Put ∷ []

-- ---- a body

-- a local is stored as the next variable
abbrev pub statement_code : List (List ℕ) → Point → Statement → List Instr
statement_code fields p (Get local field key) = get_code fields p field key ++ instr.Store (length p.scope) ∷ []
statement_code fields p (Set local value) = long_code p.scope value ++ instr.Store (length p.scope) ∷ []
statement_code fields p (Put field key value) = put_code fields p field key value

abbrev pub ending_code : List (List ℕ) → Point → Ending → List Instr
ending_code fields p ending.Nothing = instr.ReturnVoid ∷ []
ending_code fields p (ending.Get field key) = get_code fields p field key ++ instr.Return ∷ []
ending_code fields p (ending.Sum value) = long_code p.scope value ++ instr.Return ∷ []

abbrev pub body_code : List (List ℕ) → Point → List Statement → Ending → List Instr
body_code fields p [] end = ending_code fields p end
body_code fields p (s ∷ ss) end = statement_code fields p s ++ body_code fields (point_after s p) ss end

-- ---- methods

-- The first task of a method is its start task, and each cut begins one more.
abbrev pub first_point : ℕ → StraightMethod → Point
first_point start m = record { scope = m.parameters; site = None; task = start + 1 }

abbrev pub lowered : List (List ℕ) → ℕ → StraightMethod → List Instr
lowered fields start m = body_code fields (first_point start m) m.statements m.ending

abbrev pub result_type : Ending → Option VarType
result_type ending.Nothing = None
result_type _ = Some var_type.Long

abbrev pub lowered_method : List (List ℕ) → ℕ → StraightMethod → GraphMethod
lowered_method fields start m =
    record {
      code = lowered fields start m;
      kind = method_kind.Entry;
      name = m.name;
      params = length m.parameters;
      result = result_type m.ending;
      vars = replicate (length (variables m)) var_type.Long;
    }

abbrev pub point_at_end : Point → List Statement → Point
point_at_end p [] = p
point_at_end p (s ∷ ss) = point_at_end (point_after s p) ss

abbrev pub task_at_end : Point → Ending → ℕ
task_at_end p ending.Nothing = p.task
task_at_end p (ending.Get field key) = (point_at field key p).task
task_at_end p (ending.Sum value) = p.task

-- the first task behind those of a method
abbrev pub task_behind : ℕ → StraightMethod → ℕ
task_behind start m = task_at_end (point_at_end (first_point start m) m.statements) m.ending

abbrev pub lowered_methods : List (List ℕ) → ℕ → List StraightMethod → List GraphMethod
lowered_methods fields start [] = []
lowered_methods fields start (m ∷ ms) = lowered_method fields start m ∷ lowered_methods fields (task_behind start m) ms

abbrev pub table_field : List ℕ → GraphField
table_field name = record { name = name; class = class_name.Table; kind = field_kind.Partitioned }
