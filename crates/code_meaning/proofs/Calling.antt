-- Calls of the code of a typed class give what calls of its source give: by how deep they are.
use Rattle.std.proofs.Common.{◌≡◌, ◌≢◌, ◌≤◌, ◌<◌, refl, sym, ap, ap₂, subst, ◌∙◌, ℕ, zero, suc, ◌+◌, ◌*◌, arith, true, List, [], ◌∷◌, map, length, Option, Some, None, slice_get, mul-le-mul_right, mul_comm}
use Rattle.std.specs.List.{AllByRecursion, range_with_len}
use Rattle.std.proofs.lemmas.Bool.{false≢true}
use Rattle.sdg_base.specs.Limits.{turns_at_start}
use Rattle.sdg_base.specs.declared.val.Val.{Val}
use Rattle.sdg_base.specs.declared.val.Val.TheVariants as val
use Rattle.sdg_base.specs.declared.value_type.ValueType.{ValueType}
use Rattle.sdg_base.specs.Types as values
use Rattle.state_classes.specs.States.{State}
use Rattle.java_tree.specs.declared.tree.Class.{Class}
use Rattle.java_tree.specs.declared.tree.Method.{Method}
use Rattle.java_tree.specs.declared.types.ValueType.{ValueType as VariableType}
use Rattle.java_tree.specs.declared.method_kinds.MethodKind.{MethodKind}
use Rattle.java_tree.specs.declared.method_kinds.MethodKind.TheVariants.{Entry, Helper, Merge}
use Rattle.flat_code.specs.declared.graph.GraphField.{GraphField}
use Rattle.flat_code.specs.declared.graph.GraphMethod.{GraphMethod}
use Rattle.flat_code.specs.declared.graph.Instr.TheVariants as instr
use Rattle.flat_code.specs.Machine as machine
use Rattle.flat_code.specs.Machine.{Setting, Frame, Ending, Returned, Stopped, Ran, Called, Gave, Failed, first_variables, first_frame, no_state, given, given_by, in_method, method_run, run, run_within, most_steps}
use Rattle.access_blocks.specs.declared.body.Body.{Body}
use Rattle.access_blocks.specs.declared.body.Holder.{Holder}
use Rattle.access_blocks.specs.declared.body.Program.{Program}
use Rattle.access_blocks.specs.declared.halt.Halt.TheVariants.{OutOfTurns}
use Rattle.access_blocks.specs.Expressions.{Calls, Ends}
use Rattle.access_blocks.specs.Statements.{Machine, Completion, Normal, Breaks, Continues, Returns, Halts, completed, meanings}
use Rattle.access_blocks.specs.Calls as source
use Rattle.access_blocks.specs.Calls.{start_value, variables_at_start, machine_at_start, result_of, ran}
use Rattle.body_code.specs.declared.callee.Callee.{Callee}
use Rattle.access_blocks.specs.Programs.{methods_in}
use Rattle.body_code.specs.Typing.{type_by, one_type, variable_type, variable_type_in}
use Rattle.body_code.specs.Completing.{body_completes, completing, breaking, leaving, leaving_of}
use Rattle.code_meaning.specs.Foreseen.{IsForeseen}
use Rattle.body_code.specs.Early.{is_in}
use Rattle.body_code.specs.ClassCode as code
use Rattle.body_code.specs.ClassCode.{taken_types, callee, callees, result_type, first_type, members_of, context_of, set_at_start, started, body_place, no_exits, ending, ended, body_piece, body_code, variables_of, with_collection, one_of, graph_method, tasks_of, graph_methods}
use Rattle.body_code.specs.Checking.{surroundings, at_start, known_parameters, IsOne, IsTypedBody, IsTyped}
use Rattle.code_meaning.specs.Laid.{frame, EndsSo}
use Rattle.code_meaning.specs.Evaluating.{IsValue, AreOf, CallAgrees, HelperAgrees, CallsAgree}
use Rattle.code_meaning.specs.Running.{Ground, Completes, all_plain, is_plain}
use Rattle.code_meaning.specs.Calling.{CallsMeanTheirCode}
use Rattle.code_meaning.proofs.Lists.{none_some, some_is}
use Rattle.code_meaning.proofs.Running.{more_fuel, one_end, ends_on, stops_on, ends_wider, stops_wider}
use Rattle.code_meaning.proofs.Operands.{variable_value}
use Rattle.code_meaning.proofs.Plain.{statements_right}
use Rattle.code_meaning.proofs.NoBlocks.{body_plain}
use Rattle.code_meaning.proofs.Foreseen.{list_foreseen}
use Rattle.code_meaning.proofs.Bodies as bodies
use Rattle.code_meaning.proofs.Bodies.{Call, IsCall}
use Rattle.code_meaning.proofs.Parts.{range_in}

-- ---- arguments

pub taken_length : (n : ℕ) (vs : List VariableType) → n ≤ length vs → length (taken_types n vs) ≡ n
taken_length zero vs less = refl
taken_length (suc n) [] less = absurd (omega arith)
taken_length (suc n) (v ∷ vs) less = let l : n ≤ length vs = omega arith in ap suc (taken_length n vs l)

taken_values : (n : ℕ) (vs : List VariableType) → AllByRecursion IsValue (taken_types n vs)
taken_values zero vs = tt
taken_values (suc n) [] = tt
taken_values (suc n) (v ∷ vs) = (variable_value v, taken_values n vs)

pub map_length : (vs : List Val) → length (map values.type_of vs) ≡ length vs
map_length [] = refl
map_length (v ∷ vs) = ap suc (map_length vs)

argument_typed : (n : ℕ) (vs : List VariableType) (args : List Val) (i : ℕ) → map values.type_of args ≡ taken_types n vs → n ≤ length vs → i < n
    → (k : VariableType) × (x : Val) × (slice_get vs i ≡ Some k) × (slice_get args i ≡ Some x) × (values.type_of x ≡ type_by k)
argument_typed zero vs args i is room less = absurd (omega arith)
argument_typed (suc n) [] args i is room less = absurd (omega arith)
argument_typed (suc n) (v ∷ vs) [] i is room less = absurd (cc)
argument_typed (suc n) (v ∷ vs) (x ∷ args) zero is room less = let h : values.type_of x ≡ type_by v = cc in (v, x, refl, refl, h)
argument_typed (suc n) (v ∷ vs) (x ∷ args) (suc i) is room less =
    let h : map values.type_of args ≡ taken_types n vs = cc in
    let r : n ≤ length vs = omega arith in
    let l : i < n = omega arith in
    argument_typed n vs args i h r l

-- ---- the run of a body

module _ (holders : List Holder) (methods : List Callee) (graph : List GraphField) (graph_codes : List GraphMethod) (calls : Calls) (flat : machine.Calls) (turns : ℕ) (agree : CallsAgree methods graph_codes calls flat turns)
    (m : Method) (b : Body) (task : ℕ) (typed : IsTypedBody holders methods m b) (no_entry : b.kind ≢ Entry) (plain : all_plain (map is_plain b.statements) ≡ true) (args gathered : List Val) (as_many : length args ≡ b.arity)
    (arguments : (v : ℕ) → is_in v (known_parameters b.kind b.arity) ≡ true → (k : VariableType) × (x : Val) × (variable_type (context_of methods b) v ≡ Some (type_by k)) × (slice_get args v ≡ Some x) × (values.type_of x ≡ type_by k))
    (members : (t : ValueType) → (context_of methods b).members ≡ Some t → AreOf t gathered × IsValue t) where
  abbrev call : Call
  call = record {
    holders = holders;
    methods = methods;
    graph = graph;
    graph_codes = graph_codes;
    calls = calls;
    flat = flat;
    turns = turns;
    method = m;
    body = b;
    task = task;
    args = args;
    gathered = gathered;
    fields = [];
    state = no_state;
  }

  right : IsCall call
  right = record { agree = agree; typed = typed; as_many = as_many; arguments = arguments; members = members }

  abbrev gm : GraphMethod
  gm = bodies.gm call

  abbrev g : Ground
  g = bodies.ground_of call

  abbrev begun : Machine
  begun = bodies.begun call

  abbrev before : List Val
  before = bodies.before call

  abbrev piece_size : ℕ
  piece_size = bodies.piece_size call

  abbrev whole : ℕ
  whole = bodies.whole call

  abbrev started_with : List Val
  started_with = (bodies.set call right).variables

  -- ---- its end

  completes : Completes g None no_exits piece_size (frame (length (started b)) [] started_with turns) no_state (length (started b) + piece_size) typed.after (meanings calls b.statements begun)
  completes = statements_right (bodies.is_ground call right) b.statements plain None (at_start b) typed.after (body_place b task) no_exits typed.checked (bodies.laid_pieces call right) started_with no_state begun (bodies.agrees call right)

  abbrev result : Option Called
  result = given_by (run g.setting gm.code (first_frame gm args turns) no_state)

  runs : {how : Ending} {last : Frame} {next : State} → EndsSo g.setting gm.code whole (frame 0 [] before turns) no_state how last next → result ≡ given how last
  runs {how} {last} {next} q =
      let k : q.steps ≤ suc (length gm.code) * suc turns = (let a = mul-le-mul_right (suc turns) (bodies.enough call right) in let f = q.few in omega arith) in
      let l : q.steps + 0 ≤ suc turns * suc (length gm.code) = subst (λ n. q.steps + 0 ≤ n) (mul_comm (suc (length gm.code)) (suc turns)) (omega arith) in
      ap given_by (more_fuel g.setting gm.code (q.steps + 0) (suc turns * suc (length gm.code)) l (frame 0 [] before turns) no_state (record { ending = how; frame = last; state = next }) (q.same 0))

  gives : (n : Machine) (c : Completion) → Completes g None no_exits piece_size (frame (length (started b)) [] started_with turns) no_state (length (started b) + piece_size) typed.after (completed c n)
      → (c ≡ Normal → body_completes b.statements ≡ true) → CallAgrees (result_type m.result) turns (result_of (completed c n)) result
  gives n Normal h may =
      let is = may refl in
      let e : length (started b) + piece_size + 1 ≡ whole = omega arith in
      let q : EndsSo g.setting gm.code (length (started b) + (piece_size + 1)) (frame 0 [] before turns) no_state (Returned val.Unit) (frame (length (started b) + piece_size) [] h.does.variables n.turns) h.does.next =
      ends_on g.setting gm.code (bodies.start_leads call right) (ends_on g.setting gm.code h.does.leads (one_end g.setting gm.code instr.ReturnVoid (bodies.void_end call right is) refl)) in
      (runs q, sym (typed.returns is), h.does.leads.falls)
  gives n Breaks h may = absurd (none_some h.does.need h.does.in_loop)
  gives n Continues h may = absurd (none_some h.does.need h.does.in_loop)
  gives n (Returns v) h may =
      let q : EndsSo g.setting gm.code whole (frame 0 [] before turns) no_state (Returned v) h.does.last h.does.next = ends_wider g.setting gm.code (omega arith) (ends_on g.setting gm.code (bodies.start_leads call right) h.does.ends) in
      (runs q ∙ ap (λ k. Some (Gave v k)) h.does.turns, h.does.of_result, h.does.falls)
  gives n (Halts z) h may =
      let q = stops_wider g.setting gm.code {m = whole} (omega arith) (stops_on g.setting gm.code (bodies.start_leads call right) h.does.stops) in
      (q.last.turns, runs q.ends)

  pub body_gives : CallAgrees (result_type m.result) turns (result_of (meanings calls b.statements begun)) result
  body_gives =
      gives (meanings calls b.statements begun).machine (meanings calls b.statements begun).completion completes
      (λ is. subst (λ z. IsForeseen (leaving (completing (map leaving_of b.statements)) (breaking (map leaving_of b.statements))) z) is ((list_foreseen None (surroundings holders methods m b) calls b.statements plain).1 None (at_start b) typed.after typed.checked (λ f e. absurd (none_some f e)) begun (record { is_there = λ f e. absurd (none_some f e) })).0)

-- ---- methods by number

callee_at : (ms : List Method) (bs : List Body) (n : ℕ) (k : Callee) → slice_get (callees ms bs) n ≡ Some k → (m : Method) × (b : Body) × (slice_get ms n ≡ Some m) × (slice_get bs n ≡ Some b) × (callee m b ≡ k)
callee_at [] bs n k is = absurd (none_some k is)
callee_at (m ∷ ms) [] n k is = absurd (none_some k is)
callee_at (m ∷ ms) (b ∷ bs) zero k is = (m, b, refl, refl, some_is (callee m b) k is)
callee_at (m ∷ ms) (b ∷ bs) (suc n) k is = callee_at ms bs n k is

graph_at : (fields : List GraphField) (cs : List Callee) (ms : List Method) (bs : List Body) (task n : ℕ) (m : Method) (b : Body) → slice_get ms n ≡ Some m → slice_get bs n ≡ Some b
    → (t : ℕ) × (slice_get (graph_methods fields cs ms bs task) n ≡ Some (graph_method fields cs m b t))
graph_at fields cs [] bs task n m b im ib = absurd (none_some m im)
graph_at fields cs (x ∷ ms) [] task n m b im ib = absurd (none_some b ib)
graph_at fields cs (x ∷ ms) (y ∷ bs) task zero m b im ib = (task, ap₂ (λ u v. Some (graph_method fields cs u v task)) (some_is x m im) (some_is y b ib))
graph_at fields cs (x ∷ ms) (y ∷ bs) task (suc n) m b im ib = graph_at fields cs ms bs (task + tasks_of fields cs y) n m b im ib

-- ---- arguments by kind

abbrev pub Arguments : MethodKind → ℕ → List VariableType → List Val → Type 0
Arguments kind arity variables args =
    (v : ℕ) → is_in v (known_parameters kind arity) ≡ true → (k : VariableType) × (x : Val) × (variable_type_in (members_of kind variables) variables v ≡ Some (type_by k)) × (slice_get args v ≡ Some x) × (values.type_of x ≡ type_by k)

abbrev Members : MethodKind → List VariableType → List Val → Type 0
Members kind variables gathered = (t : ValueType) → members_of kind variables ≡ Some t → AreOf t gathered × IsValue t

pub own_arguments : (arity : ℕ) (variables : List VariableType) (args : List Val) → arity ≤ length variables → map values.type_of args ≡ taken_types arity variables → (v : ℕ) → is_in v (range_with_len 0 arity) ≡ true
    → (k : VariableType) × (x : Val) × (one_type (slice_get variables v) ≡ Some (type_by k)) × (slice_get args v ≡ Some x) × (values.type_of x ≡ type_by k)
own_arguments arity variables args room has v known =
    let less : v < arity = (let z = range_in v 0 arity known in omega arith) in
    let k = argument_typed arity variables args v has room less in
    (k.0, k.1, ap one_type k.2, k.3, k.4)

helper_arguments : (kind : MethodKind) (arity : ℕ) (variables : List VariableType) (args : List Val) → kind ≡ Helper → arity ≤ length variables → map values.type_of args ≡ taken_types arity variables → Arguments kind arity variables args
helper_arguments Helper arity variables args is room has v known = own_arguments arity variables args room has v known
helper_arguments Entry arity variables args is room has v known = absurd (cc)
helper_arguments Merge arity variables args is room has v known = absurd (cc)

pub entry_arguments : (kind : MethodKind) (arity : ℕ) (variables : List VariableType) (args : List Val) → kind ≡ Entry → arity ≤ length variables → map values.type_of args ≡ taken_types arity variables → Arguments kind arity variables args
entry_arguments Entry arity variables args is room has v known = own_arguments arity variables args room has v known
entry_arguments Helper arity variables args is room has v known = absurd (cc)
entry_arguments Merge arity variables args is room has v known = absurd (cc)

pub entry_members : (kind : MethodKind) (variables : List VariableType) → kind ≡ Entry → members_of kind variables ≡ None
entry_members Entry variables is = refl
entry_members Helper variables is = absurd (cc)
entry_members Merge variables is = absurd (cc)

helper_members : (kind : MethodKind) (variables : List VariableType) (gathered : List Val) → kind ≡ Helper → Members kind variables gathered
helper_members Helper variables gathered is t e = absurd (none_some t e)
helper_members Entry variables gathered is t e = absurd (cc)
helper_members Merge variables gathered is t e = absurd (cc)

merge_arguments : (kind : MethodKind) (arity : ℕ) (variables : List VariableType) (args : List Val) → kind ≡ Merge → Arguments kind arity variables args
merge_arguments Merge arity variables args is v known = absurd (false≢true known)
merge_arguments Entry arity variables args is v known = absurd (cc)
merge_arguments Helper arity variables args is v known = absurd (cc)

merge_members : (kind : MethodKind) (variables : List VariableType) (gathered : List Val) (t : ValueType) → kind ≡ Merge → taken_types 1 variables ≡ t ∷ [] → AreOf t gathered → Members kind variables gathered
merge_members Merge [] gathered t is takes are u e = absurd (none_some u e)
merge_members Merge (v ∷ vs) gathered t is takes are u e =
    let same : type_by v ≡ u = some_is (type_by v) u e in
    let first : type_by v ≡ t = cc in
    (subst (λ z. AreOf z gathered) (sym first ∙ same) are, subst IsValue same (variable_value v))
merge_members Entry variables gathered t is takes are u e = absurd (cc)
merge_members Helper variables gathered t is takes are u e = absurd (cc)

one_argument : (kind : MethodKind) (arity : ℕ) → kind ≡ Merge → IsOne kind arity → arity ≡ 1
one_argument Merge arity is one = one
one_argument Entry arity is one = absurd (cc)
one_argument Helper arity is one = absurd (cc)

helper_no_entry : (kind : MethodKind) → kind ≡ Helper → kind ≢ Entry
helper_no_entry kind is e = cc

merge_no_entry : (kind : MethodKind) → kind ≡ Merge → kind ≢ Entry
merge_no_entry kind is e = cc

module _ (class : Class) (program : Program) (typed : IsTyped class program) where
  abbrev cs : List Callee
  cs = code.callees_of class program

  abbrev fields : List GraphField
  fields = code.fields_of class program

  abbrev ms : List Method
  ms = methods_in class.members

  abbrev gms : List GraphMethod
  gms = graph_methods fields cs ms program.methods 0

  -- what a call of a body gives, with fewer turns than these
  abbrev AllAnswer : Calls → machine.Calls → ℕ → Type 0
  AllAnswer calls flat most =
      (n : ℕ) (m : Method) (b : Body) → slice_get ms n ≡ Some m → slice_get program.methods n ≡ Some b → b.kind ≢ Entry → (args gathered : List Val) → length args ≡ b.arity → Arguments b.kind b.arity b.variables args
      → Members b.kind b.variables gathered → (turns : ℕ) → turns < most → CallAgrees (result_type m.result) turns (calls n args gathered (suc turns)) (flat n args gathered turns)

  agree_by : (calls : Calls) (flat : machine.Calls) (most : ℕ) → ((n : ℕ) (args gathered : List Val) → calls n args gathered zero ≡ Ends OutOfTurns) → AllAnswer calls flat most → CallsAgree cs gms calls flat most
  agree_by calls flat most out answer = record {
    want_a_turn = out;
    helpers = λ n k is kind. helper n k (callee_at ms program.methods n k is) kind;
    merges = λ n k t gathered turns is kind takes are less. merge n k t gathered turns (callee_at ms program.methods n k is) kind takes are less;
  }
    where
      helper : (n : ℕ) (k : Callee) → (m : Method) × (b : Body) × (slice_get ms n ≡ Some m) × (slice_get program.methods n ≡ Some b) × (callee m b ≡ k) → k.kind ≡ Helper → HelperAgrees n k gms calls flat most
      helper n k z kind =
          let m = z.0 in let b = z.1 in
          let is : b.kind ≡ Helper = ap (λ (c : Callee). c.kind) z.4 ∙ kind in
          let t : IsTypedBody program.fields cs m b = typed.bodies n m b z.2 z.3 in
          let there = graph_at fields cs ms program.methods 0 n m b z.2 z.3 in
          let one : HelperAgrees n (callee m b) gms calls flat most = record {
            method = graph_method fields cs m b there.0;
            is_method = there.1;
            as_many = sym (taken_length b.arity b.variables t.arity);
            take_values = taken_values b.arity b.variables;
            agrees = λ args turns has less. answer n m b z.2 z.3 (helper_no_entry b.kind is) args [] (sym (map_length args) ∙ ap length has ∙ taken_length b.arity b.variables t.arity) (helper_arguments b.kind b.arity b.variables args is t.arity has)
                (helper_members b.kind b.variables [] is) turns less;
          } in
          subst (λ c. HelperAgrees n c gms calls flat most) z.4 one

      merge : (n : ℕ) (k : Callee) (t : ValueType) (gathered : List Val) (turns : ℕ) → (m : Method) × (b : Body) × (slice_get ms n ≡ Some m) × (slice_get program.methods n ≡ Some b) × (callee m b ≡ k) → k.kind ≡ Merge → k.params ≡ t ∷ [] → AreOf t gathered → turns < most
          → CallAgrees k.result turns (calls n (val.Unit ∷ []) gathered (suc turns)) (flat n (val.Unit ∷ []) gathered turns)
      merge n k t gathered turns z kind takes are less =
          let m = z.0 in let b = z.1 in
          let is : b.kind ≡ Merge = ap (λ (c : Callee). c.kind) z.4 ∙ kind in
          let ty : IsTypedBody program.fields cs m b = typed.bodies n m b z.2 z.3 in
          let one : b.arity ≡ 1 = one_argument b.kind b.arity is ty.one in
          let params : taken_types 1 b.variables ≡ t ∷ [] = ap (λ a. taken_types a b.variables) (sym one) ∙ ap (λ (c : Callee). c.params) z.4 ∙ takes in
          subst (λ (c : Callee). CallAgrees c.result turns (calls n (val.Unit ∷ []) gathered (suc turns)) (flat n (val.Unit ∷ []) gathered turns)) z.4
          (answer n m b z.2 z.3 (merge_no_entry b.kind is) (val.Unit ∷ []) gathered (sym one) (merge_arguments b.kind b.arity b.variables (val.Unit ∷ []) is) (merge_members b.kind b.variables gathered t is params are) turns less)

  out_of_turns : (d n : ℕ) (args gathered : List Val) → source.calls_within d program.methods n args gathered zero ≡ Ends OutOfTurns
  out_of_turns zero n args gathered = refl
  out_of_turns (suc d) n args gathered = refl

  within_same : (e n : ℕ) (of : GraphMethod) (args gathered : List Val) (turns : ℕ) → slice_get gms n ≡ Some of
      → machine.calls_within (suc e) fields gms n args gathered turns ≡ given_by (run (in_method fields gms (machine.calls_within e fields gms) gathered) of.code (first_frame of args turns) no_state)
  unfolding machine.calls_within
  within_same e n of args gathered turns is = ap (λ o. method_run fields gms (machine.calls_within e fields gms) o args gathered turns) is

  pub calls_agree : (d e most : ℕ) → most ≤ d → most ≤ e → CallsAgree cs gms (source.calls_within d program.methods) (machine.calls_within e fields gms) most
  calls_agree zero e most l k = agree_by _ _ most (out_of_turns zero) (λ n m b im ib no args gathered many arguments members turns less. absurd (omega arith))
  calls_agree (suc d) zero most l k = agree_by _ _ most (out_of_turns (suc d)) (λ n m b im ib no args gathered many arguments members turns less. absurd (omega arith))
  calls_agree (suc d) (suc e) most l k = agree_by _ _ most (out_of_turns (suc d)) (λ n m b im ib no args gathered many arguments members turns less.
      let ld : turns ≤ d = omega arith in
      let le : turns ≤ e = omega arith in
      let there = graph_at fields cs ms program.methods 0 n m b im ib in
      subst (λ x. CallAgrees (result_type m.result) turns x (machine.calls_within (suc e) fields gms n args gathered turns)) (sym (ap (λ o. ran (source.calls_within d program.methods) o args gathered turns) ib))
      (subst (λ y. CallAgrees (result_type m.result) turns (result_of (meanings (source.calls_within d program.methods) b.statements (machine_at_start b args gathered turns []))) y) (sym (within_same e n (graph_method fields cs m b there.0) args gathered turns there.1))
      (body_gives program.fields cs fields gms (source.calls_within d program.methods) (machine.calls_within e fields gms) turns (calls_agree d e turns ld le) m b there.0 (typed.bodies n m b im ib) no (body_plain (surroundings program.fields cs m b) no b.statements None (at_start b) (typed.bodies n m b im ib).after (typed.bodies n m b im ib).checked) args gathered many arguments members)))

pub calls_mean_their_code : CallsMeanTheirCode
calls_mean_their_code class program typed = calls_agree class program typed turns_at_start turns_at_start turns_at_start (omega arith) (omega arith)
