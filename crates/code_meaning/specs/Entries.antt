-- The steps of a call of an entry method of a typed class: what they stand on, and where the call rests first.
use Rattle.std.specs.Prelude.{◌≡◌, ◌≤◌, ◌+◌, ◌*◌, ℕ, suc, true, List, [], ◌∷◌, length, map, Option, Some, None, slice_get, ℤ}
use Rattle.sdg_base.specs.Limits.{turns_at_start}
use Rattle.sdg_base.specs.declared.val.Val.{Val}
use Rattle.sdg_base.specs.Types as values
use Rattle.state_classes.specs.States.{State}
use Rattle.java_tree.specs.declared.tree.Class.{Class}
use Rattle.java_tree.specs.declared.tree.Method.{Method}
use Rattle.java_tree.specs.declared.method_kinds.MethodKind.TheVariants.{Entry}
use Rattle.flat_code.specs.declared.graph.GraphField.{GraphField}
use Rattle.flat_code.specs.declared.graph.GraphMethod.{GraphMethod}
use Rattle.flat_code.specs.declared.graph.Instr.{Instr}
use Rattle.flat_code.specs.Machine as machine
use Rattle.flat_code.specs.Machine.{Setting, Frame, Ending, first_variables, run}
use Rattle.access_blocks.specs.declared.body.Body.{Body}
use Rattle.access_blocks.specs.declared.body.Holder.{Holder}
use Rattle.access_blocks.specs.declared.body.Program.{Program}
use Rattle.access_blocks.specs.Calls.{machine_at_start, calls_of}
use Rattle.access_blocks.specs.Programs.{methods_in}
use Rattle.access_blocks.specs.Statements.{Field, part_of}
use Rattle.access_blocks.specs.Source.{CallState, Then, Runs}
use Rattle.body_code.specs.ClassCode.{taken_types, graph_method, fields_of, callees_of, code_of_class}
use Rattle.body_code.specs.Checking.{surroundings, IsTyped}
use Rattle.code_meaning.specs.Running.{Ground}
use Rattle.code_meaning.specs.Placed.{are_placed}
use Rattle.code_meaning.specs.Resting.{EndsIn}
use Rattle.code_meaning.specs.Steps.{StepsOn, RestsFrom}

-- what a step works on: the part of a field, where it works on one, the key that it carries, and what was gathered
pub record Working : Type 0 where
  pub site : Option ℕ
  pub instance : ℕ
  pub key : Option ℤ
  pub gathered : List Val

-- A call begins on no part.
abbrev pub on_nothing : Working
on_nothing = record { site = None; instance = 0; key = None; gathered = [] }

abbrev pub own_name : Option GraphField → Option (List ℕ)
own_name None = None
own_name (Some field) = Some field.name

abbrev pub site_name : List GraphField → Option ℕ → Option (List ℕ)
site_name fields None = None
site_name fields (Some field) = own_name (slice_get fields field)

-- ---- an entry method

pub record IsEntry (class : Class) (program : Program) (n : ℕ) (m : Method) (b : Body) : Type 0 where
  pub is_method : slice_get (methods_in class.members) n ≡ Some m
  pub is_body : slice_get program.methods n ≡ Some b
  pub is_entry : b.kind ≡ Entry

-- its code, whose tasks count from this one on
abbrev pub entry_code : Class → Program → Method → Body → ℕ → GraphMethod
entry_code class program m b task = graph_method (fields_of class program) (callees_of class program) m b task

abbrev pub entry_setting : Class → Program → Working → Setting
entry_setting class program on = record {
  fields = fields_of class program;
  methods = (code_of_class class program).methods;
  calls = machine.calls_of (fields_of class program) (code_of_class class program).methods;
  field = site_name (fields_of class program) on.site;
  key = on.key;
  gathered = on.gathered;
}

abbrev pub entry_ground : Class → Program → Method → Body → ℕ → Working → List Field → Ground
entry_ground class program m b task on fields = record {
  around = surroundings program.fields (callees_of class program) m b;
  graph = fields_of class program;
  calls = calls_of program.methods;
  setting = entry_setting class program on;
  code = (entry_code class program m b task).code;
  site = on.site;
  instance = on.instance;
  fields = fields;
  many = length (entry_code class program m b task).vars;
  most = turns_at_start;
}

-- The field that a step works on is one of the class, and has the part.
pub record PartIsThere (program : Program) (fields : List Field) (on : Working) (field : ℕ) : Type 0 where
  pub holder : Holder
  pub is_holder : slice_get program.fields field ≡ Some holder
  pub old : Field
  pub is_old : slice_get fields field ≡ Some old
  pub part : State
  pub is_part : part_of (Some old) on.instance ≡ Some part

abbrev pub EntriesStandOnTheirCode : Type 0
EntriesStandOnTheirCode =
    (class : Class) (program : Program) → IsTyped class program → (n : ℕ) (m : Method) (b : Body) → IsEntry class program n m b
    → (task : ℕ) (on : Working) (fields : List Field) → ((field : ℕ) → on.site ≡ Some field → PartIsThere program fields on field) → StepsOn (entry_ground class program m b task on fields)

-- ---- runs

-- A run of code that ends in so few steps is the code's run.
abbrev pub EndsAreRuns : Type 0
EndsAreRuns =
    (s : Setting) (code : List Instr) (most : ℕ) (f : Frame) (state : State) (ending : Ending) (last : Frame) (next : State) → most ≤ suc (length code) + suc (length code) * f.turns
    → EndsIn s code most f state ending last next → run s code f state ≡ Some (record { ending = ending; frame = last; state = next })

-- ---- where a call rests first

-- more steps than it has instructions
abbrev pub whole_of : GraphMethod → ℕ
whole_of code = suc (length code.code)

abbrev pub EntriesRest : Type 0
EntriesRest =
    (class : Class) (program : Program) → IsTyped class program → (n : ℕ) (m : Method) (b : Body) → IsEntry class program n m b → are_placed b.statements ≡ true
    → (task : ℕ) (args : List Val) → map values.type_of args ≡ taken_types b.arity b.variables
    → (fields next : List Field) (state : State) (call : CallState) → Runs (calls_of program.methods) (Then b.statements ∷ []) (machine_at_start b args [] turns_at_start fields) call next
    → RestsFrom (entry_ground class program m b task on_nothing fields) (whole_of (entry_code class program m b task)) 0 (first_variables (entry_code class program m b task) args) turns_at_start state call next
