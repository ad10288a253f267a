-- The methods and the fields of a typed class are as its bodies take them to be.
use Rattle.std.proofs.Common.{◌≡◌, refl, sym, ap, subst, ◌∙◌, ℕ, zero, suc, ◌+◌, ◌≤◌, arith, Bool, true, false, cond, List, [], ◌∷◌, ◌++◌, map, length, Option, Some, None, slice_get}
use Rattle.std.specs.Str.{bytes_eq}
use Rattle.std.specs.List.{range_with_len}
use Rattle.std.proofs.lemmas.Slice.Eq.{bytes_eq-Decides}
use Rattle.sdg_base.specs.declared.value_type.ValueType.{ValueType}
use Rattle.sdg_base.specs.Signatures.{Signature}
use Rattle.state_classes.specs.declared.method.Method.{Method as StateMethod}
use Rattle.state_classes.specs.Methods.{signature}
use Rattle.java_tree.specs.declared.tree.Class.{Class}
use Rattle.java_tree.specs.declared.tree.Field.{Field}
use Rattle.java_tree.specs.declared.tree.Method.{Method}
use Rattle.java_tree.specs.declared.tree.ResultType.{ResultType}
use Rattle.java_tree.specs.declared.tree.ResultType.TheVariants as result
use Rattle.java_tree.specs.declared.method_kinds.MethodKind.{MethodKind}
use Rattle.java_tree.specs.declared.method_kinds.MethodKind.TheVariants as source_kind
use Rattle.java_tree.specs.declared.types.ValueType.{ValueType as VariableType}
use Rattle.java_tree.specs.declared.types.ValueType.TheVariants as variable
use Rattle.flat_code.specs.declared.graph.Graph.{Graph}
use Rattle.flat_code.specs.declared.graph.GraphField.{GraphField}
use Rattle.flat_code.specs.declared.graph.GraphMethod.{GraphMethod}
use Rattle.flat_code.specs.declared.graph.Task.{Task}
use Rattle.flat_code.specs.declared.graph.VariableType.{VariableType as FlatType}
use Rattle.flat_code.specs.declared.graph.VariableType.TheVariants.{One}
use Rattle.flat_code.specs.Types.{type_by, result_by, one_type, member_type, in_variable, type_of_variable, field_named, signature_in, signature_at}
use Rattle.flat_code.specs.Fits.{parameters}
use Rattle.flat_code.specs.Verified.{AreDistinct, types_of_variables, with_first_type}
use Rattle.access_blocks.specs.declared.body.Body.{Body}
use Rattle.access_blocks.specs.declared.body.Holder.{Holder}
use Rattle.access_blocks.specs.declared.body.Program.{Program}
use Rattle.access_blocks.specs.ResolvingStatements.{declared_type}
use Rattle.access_blocks.specs.Programs.{fields_in, methods_in}
use Rattle.body_code.specs.declared.callee.Callee.{Callee}
use Rattle.body_code.specs.Typing.{Context, variable_type, variable_type_in}
use Rattle.body_code.specs.Typing as typing
use Rattle.body_code.specs.StatementCode.{name_in}
use Rattle.body_code.specs.StatementCode as code
use Rattle.body_code.specs.ClassCode.{kind_by, graph_field, graph_fields, var_type_by, result_of, result_type, taken_types, callee, callees, members_of, context_of, body_piece, one_of, variables_of, graph_method, tasks_of, graph_methods, fields_of, callees_of}
use Rattle.body_code.specs.Checking.{Surroundings, surroundings, IsOne, IsTypedBody, AreNamed, IsTyped}
use Rattle.body_code.specs.Checking as checking
use Rattle.verified_code.proofs.Labels.{Setting}
use Rattle.verified_code.proofs.Typed.{none_some, some_is, is_value, are_values, arguments_values}
use Rattle.verified_code.proofs.Needed.{and_both}
use Rattle.verified_code.proofs.Expressions.{Meets}
use Rattle.verified_code.proofs.Simple.{Whole, FieldMeets}

-- ---- types by their names

same_name : (t : VariableType) → type_by (var_type_by t) ≡ typing.type_by t
same_name variable.Int = refl
same_name variable.Long = refl
same_name variable.Boolean = refl
same_name variable.Vector = refl

named_value : (t : VariableType) → is_value (typing.type_by t) ≡ true
named_value variable.Int = refl
named_value variable.Long = refl
named_value variable.Boolean = refl
named_value variable.Vector = refl

pub result_same : (r : ResultType) → result_by (result_of r) ≡ result_type r
result_same result.Void = refl
result_same (result.Type name) = same_name (declared_type name)

-- ---- variables

one_value : (o : Option VariableType) (t : ValueType) → typing.one_type o ≡ Some t → is_value t ≡ true
one_value None t e = absurd (none_some t e)
one_value (Some u) t e = subst (λ (w : ValueType). is_value w ≡ true) (some_is (typing.type_by u) t e) (named_value u)

held_one : (vs : List VariableType) (more : List FlatType) (v : ℕ) (t : ValueType) → typing.one_type (slice_get vs v) ≡ Some t → in_variable one_type (slice_get (map one_of vs ++ more) v) ≡ Some t
held_one [] more v t e = absurd (none_some t e)
held_one (u ∷ vs) more zero t e = ap Some (same_name u) ∙ e
held_one (u ∷ vs) more (suc v) t e = held_one vs more v t e

variable_held : (k : MethodKind) (vs : List VariableType) (more : List FlatType) (v : ℕ) (t : ValueType) → variable_type_in (members_of k vs) vs v ≡ Some t → in_variable one_type (slice_get (variables_of k vs ++ more) v) ≡ Some t
variable_held source_kind.Entry vs more v t e = held_one vs more v t e
variable_held source_kind.Helper vs more v t e = held_one vs more v t e
variable_held source_kind.Merge [] more v t e = absurd (none_some t e)
variable_held source_kind.Merge (u ∷ vs) more zero t e = absurd (none_some t e)
variable_held source_kind.Merge (u ∷ vs) more (suc v) t e = held_one vs more v t e

variable_value : (members : Option ValueType) (vs : List VariableType) (v : ℕ) (t : ValueType) → variable_type_in members vs v ≡ Some t → is_value t ≡ true
variable_value None vs v t e = one_value (slice_get vs v) t e
variable_value (Some m) vs zero t e = absurd (none_some t e)
variable_value (Some m) vs (suc v) t e = one_value (slice_get vs (suc v)) t e

members_held : (k : MethodKind) (vs : List VariableType) (more : List FlatType) (t : ValueType) → members_of k vs ≡ Some t → (in_variable member_type (slice_get (variables_of k vs ++ more) 0) ≡ Some t) × (is_value t ≡ true) × (k ≡ source_kind.Merge)
members_held source_kind.Entry vs more t e = absurd (none_some t e)
members_held source_kind.Helper vs more t e = absurd (none_some t e)
members_held source_kind.Merge [] more t e = absurd (none_some t e)
members_held source_kind.Merge (u ∷ vs) more t e = (ap Some (same_name u) ∙ e, subst (λ (w : ValueType). is_value w ≡ true) (some_is (typing.type_by u) t e) (named_value u), refl)

taken_values : (n : ℕ) (vs : List VariableType) → are_values (taken_types n vs) ≡ true
taken_values zero vs = refl
taken_values (suc n) [] = refl
taken_values (suc n) (u ∷ vs) = and_both (is_value (typing.type_by u)) (are_values (taken_types n vs)) (named_value u) (taken_values n vs)

parameters_held : (m : GraphMethod) (n v : ℕ) (vs : List VariableType) → n ≤ length vs → ((i : ℕ) (u : VariableType) → slice_get vs i ≡ Some u → type_of_variable m (v + i) ≡ Some (typing.type_by u))
    → types_of_variables m (range_with_len v n) ≡ Some (taken_types n vs)
parameters_held m zero v vs less held = refl
parameters_held m (suc n) v [] less held = absurd (omega (arith, less))
parameters_held m (suc n) v (u ∷ vs) less held =
    let here : v + 0 ≡ v = omega arith in
    let first : type_of_variable m v ≡ Some (typing.type_by u) = subst (λ (k : ℕ). type_of_variable m k ≡ Some (typing.type_by u)) here (held 0 u refl) in
    let rest = parameters_held m n (v + 1) vs (omega (arith, less)) (λ i x e. (let place : v + suc i ≡ (v + 1) + i = omega arith in subst (λ (k : ℕ). type_of_variable m k ≡ Some (typing.type_by x)) place (held (suc i) x e))) in
    ap (λ o. with_first_type o (types_of_variables m (range_with_len (v + 1) n))) first ∙ ap (λ o. with_first_type (Some (typing.type_by u)) o) rest

-- ---- methods

pub record CalleeOf (ms : List Method) (bs : List Body) (n : ℕ) (c : Callee) : Type 0 where
  pub m : Method
  pub b : Body
  pub is_m : slice_get ms n ≡ Some m
  pub is_b : slice_get bs n ≡ Some b
  pub is : callee m b ≡ c

pub callee_at : (ms : List Method) (bs : List Body) (n : ℕ) (c : Callee) → slice_get (callees ms bs) n ≡ Some c → CalleeOf ms bs n c
callee_at [] bs n c e = absurd (none_some c e)
callee_at (m ∷ ms) [] n c e = absurd (none_some c e)
callee_at (m ∷ ms) (b ∷ bs) zero c e = record { m = m; b = b; is_m = refl; is_b = refl; is = some_is (callee m b) c e }
callee_at (m ∷ ms) (b ∷ bs) (suc n) c e = let k = callee_at ms bs n c e in record { m = k.m; b = k.b; is_m = k.is_m; is_b = k.is_b; is = k.is }

-- the number of the first task of a method
abbrev pub first_task : List GraphField → List Callee → List Method → List Body → ℕ → ℕ → ℕ
first_task fields cs (m ∷ ms) (b ∷ bs) task (suc n) = first_task fields cs ms bs (task + tasks_of fields cs b) n
first_task fields cs _ _ task n = task

pub method_at : (fields : List GraphField) (cs : List Callee) (ms : List Method) (bs : List Body) (task n : ℕ) (m : Method) (b : Body) → slice_get ms n ≡ Some m → slice_get bs n ≡ Some b
    → slice_get (graph_methods fields cs ms bs task) n ≡ Some (graph_method fields cs m b (first_task fields cs ms bs task n))
method_at fields cs [] bs task n m b e f = absurd (none_some m e)
method_at fields cs (x ∷ ms) [] task n m b e f = absurd (none_some b f)
method_at fields cs (x ∷ ms) (y ∷ bs) task zero m b e f =
    let same_m = some_is x m e in
    let same_b = some_is y b f in
    ap (λ (z : Method). Some (graph_method fields cs z y task)) same_m ∙ ap (λ (z : Body). Some (graph_method fields cs m z task)) same_b
method_at fields cs (x ∷ ms) (y ∷ bs) task (suc n) m b e f = method_at fields cs ms bs (task + tasks_of fields cs y) n m b e f

pub record MethodOf (fields : List GraphField) (cs : List Callee) (ms : List Method) (bs : List Body) (task n : ℕ) (gm : GraphMethod) : Type 0 where
  pub m : Method
  pub b : Body
  pub is_m : slice_get ms n ≡ Some m
  pub is_b : slice_get bs n ≡ Some b
  pub is : graph_method fields cs m b (first_task fields cs ms bs task n) ≡ gm

pub method_of : (fields : List GraphField) (cs : List Callee) (ms : List Method) (bs : List Body) (task n : ℕ) (gm : GraphMethod) → slice_get (graph_methods fields cs ms bs task) n ≡ Some gm → MethodOf fields cs ms bs task n gm
method_of fields cs [] bs task n gm e = absurd (none_some gm e)
method_of fields cs (x ∷ ms) [] task n gm e = absurd (none_some gm e)
method_of fields cs (x ∷ ms) (y ∷ bs) task zero gm e = record { m = x; b = y; is_m = refl; is_b = refl; is = some_is (graph_method fields cs x y task) gm e }
method_of fields cs (x ∷ ms) (y ∷ bs) task (suc n) gm e =
    let k = method_of fields cs ms bs (task + tasks_of fields cs y) n gm e in record { m = k.m; b = k.b; is_m = k.is_m; is_b = k.is_b; is = k.is }

-- ---- fields

pub record FieldOf (fs : List Field) (hs : List Holder) (n : ℕ) (h : Holder) : Type 0 where
  pub f : Field
  pub is_f : slice_get fs n ≡ Some f
  pub is : slice_get (graph_fields fs hs) n ≡ Some (graph_field f h)

pub field_at : (fs : List Field) (hs : List Holder) (n : ℕ) (h : Holder) → length fs ≡ length hs → slice_get hs n ≡ Some h → FieldOf fs hs n h
field_at [] [] n h same e = absurd (none_some h e)
field_at [] (x ∷ hs) n h same e = absurd (omega (arith, same))
field_at (f ∷ fs) [] n h same e = absurd (none_some h e)
field_at (f ∷ fs) (x ∷ hs) zero h same e = record { f = f; is_f = refl; is = ap (λ (z : Holder). Some (graph_field f z)) (some_is x h e) }
field_at (f ∷ fs) (x ∷ hs) (suc n) h same e = let k = field_at fs hs n h (omega (arith, same)) e in record { f = k.f; is_f = k.is_f; is = k.is }

pub names_same : (fs : List Field) (hs : List Holder) → length fs ≡ length hs → map (λ (field : GraphField). field.name) (graph_fields fs hs) ≡ map (λ (f : Field). f.name) fs
names_same [] [] same = refl
names_same [] (x ∷ hs) same = absurd (omega (arith, same))
names_same (f ∷ fs) [] same = absurd (omega (arith, same))
names_same (f ∷ fs) (x ∷ hs) same = ap (λ (ns : List (List ℕ)). f.name ∷ ns) (names_same fs hs (omega (arith, same)))

pub name_at : (fields : List GraphField) (n : ℕ) (field : GraphField) → slice_get fields n ≡ Some field → slice_get (map (λ (f : GraphField). f.name) fields) n ≡ Some field.name
name_at [] n field e = absurd (none_some field e)
name_at (x ∷ fields) zero field e = ap Some (ap (λ (f : GraphField). f.name) (some_is x field e))
name_at (x ∷ fields) (suc n) field e = name_at fields n field e

later_distinct : (name : List ℕ) (names : List (List ℕ)) → AreDistinct (name ∷ names) → AreDistinct names
later_distinct name names h i j x e f = let k = h (suc i) (suc j) x e f in omega (arith, k)

-- the first field of the name of a field is that field
pub named_is : (fields : List GraphField) (n : ℕ) (field : GraphField) → AreDistinct (map (λ (f : GraphField). f.name) fields) → slice_get fields n ≡ Some field → field_named field.name fields ≡ Some field
named_is [] n field h e = absurd (none_some field e)
named_is (x ∷ fields) zero field h e =
    let same = some_is x field e in
    let named : bytes_eq field.name x.name ≡ true = (bytes_eq-Decides field.name x.name).1 (ap (λ (f : GraphField). f.name) (sym same)) in
    ap (λ (b : Bool). cond b (Some x) (field_named field.name fields)) named ∙ ap Some same
named_is (x ∷ fields) (suc n) field h e = by (bytes_eq field.name x.name) refl (named_is fields n field (later_distinct x.name (map (λ (f : GraphField). f.name) fields) h) e)
  where
    by : (b : Bool) → bytes_eq field.name x.name ≡ b → field_named field.name fields ≡ Some field → cond b (Some x) (field_named field.name fields) ≡ Some field
    by false is rest = rest
    by true is rest = absurd (let same = (bytes_eq-Decides field.name x.name).0 is in let k = h zero (suc n) field.name (ap Some (sym same)) (name_at fields n field e) in omega (arith, k))

module _ (class : Class) (program : Program) (tasks : List Task) where
  abbrev pub fields : List GraphField
  fields = fields_of class program

  abbrev pub cs : List Callee
  cs = callees_of class program

  abbrev pub graph : Graph
  graph = record { class = class.name; fields = fields; methods = graph_methods fields cs (methods_in class.members) program.methods 0; tasks = tasks }

  abbrev pub own : Method → Body → ℕ → GraphMethod
  own m b task = graph_method fields cs m b task

  abbrev pub setting : Method → Body → ℕ → Setting
  setting m b task = record { graph = graph; of = own m b task; around = surroundings program.fields cs m b }

  module _ (typed : IsTyped class program) where
    variable_of : (b : Body) (m : Method) (task v : ℕ) (t : ValueType) → variable_type (context_of cs b) v ≡ Some t → type_of_variable (own m b task) v ≡ Some t
    variable_of b m task v t e = variable_held b.kind b.variables (map One (body_piece fields cs b).carried) v t e

    helper_variables : (m : Method) (b : Body) (task : ℕ) → b.kind ≡ source_kind.Helper → b.arity ≤ length b.variables → types_of_variables (own m b task) (parameters (own m b task)) ≡ Some (taken_types b.arity b.variables)
    helper_variables m b task helper less =
        parameters_held (own m b task) b.arity 0 b.variables less
        (λ i u e. (let place : 0 + i ≡ i = omega arith in
        let none : members_of b.kind b.variables ≡ None = ap (λ (k : MethodKind). members_of k b.variables) helper in
        let is : variable_type_in (members_of b.kind b.variables) b.variables i ≡ Some (typing.type_by u) = ap (λ (o : Option ValueType). variable_type_in o b.variables i) none ∙ ap typing.one_type e in
        subst (λ (k : ℕ). type_of_variable (own m b task) k ≡ Some (typing.type_by u)) (sym place) (variable_of b m task i (typing.type_by u) is)))

    meets : (m : Method) (b : Body) (task n : ℕ) (c : Callee) → slice_get cs n ≡ Some c → Meets (setting m b task) n c
    meets m b task n c e =
        let k = callee_at (methods_in class.members) program.methods n c e in
        let number = first_task fields cs (methods_in class.members) program.methods 0 n in
        let is_method = method_at fields cs (methods_in class.members) program.methods 0 n k.m k.b k.is_m k.is_b in
        let body = typed.bodies n k.m k.b k.is_m k.is_b in
        subst (λ (z : Callee). Meets (setting m b task) n z) k.is (record {
          of = own k.m k.b number;
          is_method = is_method;
          kind = refl;
          result = result_same k.m.result;
          values = taken_values k.b.arity k.b.variables;
          helper = λ h. helper_variables k.m k.b number h body.arity;
        })

    pub record FieldIs (n : ℕ) (h : Holder) : Type 0 where
      pub field : GraphField
      pub is : slice_get fields n ≡ Some field
      pub class_is : field.class ≡ h.class
      pub kind_is : field.kind ≡ kind_by h.is_partial
      pub named : field_named field.name fields ≡ Some field

    pub field_is : (n : ℕ) (h : Holder) → slice_get program.fields n ≡ Some h → FieldIs n h
    field_is n h e =
        let k = field_at (fields_in class.members) program.fields n h typed.same_fields e in
        let distinct : AreDistinct (map (λ (f : GraphField). f.name) fields) = subst (λ (ns : List (List ℕ)). AreDistinct ns) (sym (names_same (fields_in class.members) program.fields typed.same_fields)) typed.names.field_names.distinct in
        record { field = graph_field k.f h; is = k.is; class_is = refl; kind_is = refl; named = named_is fields n (graph_field k.f h) distinct k.is }

    signature_is : (o : Option Holder) (m : StateMethod) (sig : Signature) → checking.signature_in o m ≡ Some sig → (h : Holder) × (o ≡ Some h) × (signature h.class m ≡ Some sig)
    signature_is None m sig e = absurd (none_some sig e)
    signature_is (Some h) m sig e = (h, refl, e)

    field_meets : (m : Method) (b : Body) (task n : ℕ) (method : StateMethod) (sig : Signature) → checking.signature_in (slice_get program.fields n) method ≡ Some sig → FieldMeets (setting m b task) n method sig
    field_meets m b task n method sig e =
        let k = signature_is (slice_get program.fields n) method sig e in
        let f = field_is n k.0 k.1 in
        let in_class : signature f.field.class method ≡ Some sig = ap (λ c. signature c method) f.class_is ∙ k.2 in
        record {
          of_code = ap (λ (o : Option GraphField). code.signature_in o method) f.is ∙ in_class;
          of_graph = ap (λ (o : Option GraphField). signature_at fields (name_in o) method) f.is ∙ ap (λ (o : Option GraphField). signature_in o method) f.named ∙ in_class;
          values = arguments_values k.0.class method sig k.2;
        }

    pub whole : (m : Method) (b : Body) (task : ℕ) → Whole (setting m b task)
    whole m b task = record {
      fit = record {
        variables = λ v t e. variable_of b m task v t e;
        values = λ v t e. variable_value (members_of b.kind b.variables) b.variables v t e;
        members = λ t e. (members_held b.kind b.variables (map One (body_piece fields cs b).carried) t e).0;
        member_values = λ t e. (members_held b.kind b.variables (map One (body_piece fields cs b).carried) t e).1;
        merging = λ t e. (members_held b.kind b.variables (map One (body_piece fields cs b).carried) t e).2;
        methods = λ n c e. meets m b task n c e;
      };
      fields = λ n method sig e. field_meets m b task n method sig e;
      result = result_same m.result;
    }
