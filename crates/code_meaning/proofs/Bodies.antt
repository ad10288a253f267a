-- The start of a call of a body: its parameters have the arguments, the variables that are set early have their first values, and
-- behind that the code of its statements is laid.
use Rattle.std.proofs.Common.{◌≡◌, ◌≤◌, refl, sym, ap, subst, ◌∙◌, ℕ, suc, ◌+◌, ◌-◌, arith, true, List, [], ◌∷◌, ◌++◌, map, length, drop, replicate, Some, None, slice_get, inl, inr, ◌⊎◌, length-append}
use Rattle.std.specs.List.{AllByRecursion, range_with_len}
use Rattle.std.proofs.lemmas.Bool.{false≢true}
use Rattle.std.proofs.lemmas.List.{length-replicate}
use Rattle.sdg_base.specs.declared.val.Val.{Val}
use Rattle.sdg_base.specs.declared.val.Val.TheVariants as val
use Rattle.sdg_base.specs.declared.value_type.ValueType.{ValueType}
use Rattle.sdg_base.specs.Types as values
use Rattle.state_classes.specs.States.{State}
use Rattle.java_tree.specs.declared.tree.Method.{Method}
use Rattle.java_tree.specs.declared.types.ValueType.{ValueType as VariableType}
use Rattle.flat_code.specs.declared.graph.GraphField.{GraphField}
use Rattle.flat_code.specs.declared.graph.GraphMethod.{GraphMethod}
use Rattle.flat_code.specs.declared.graph.Instr.{Instr}
use Rattle.flat_code.specs.declared.graph.Instr.TheVariants as instr
use Rattle.flat_code.specs.declared.graph.VariableType.TheVariants.{One}
use Rattle.flat_code.specs.Machine as machine
use Rattle.flat_code.specs.Machine.{first_variables, in_method}
use Rattle.access_blocks.specs.declared.body.Body.{Body}
use Rattle.access_blocks.specs.declared.body.Holder.{Holder}
use Rattle.access_blocks.specs.Expressions.{Calls}
use Rattle.access_blocks.specs.Statements.{Field, Machine}
use Rattle.access_blocks.specs.Calls.{start_value, variables_at_start, machine_at_start}
use Rattle.body_code.specs.declared.callee.Callee.{Callee}
use Rattle.body_code.specs.Typing.{type_by, variable_type}
use Rattle.body_code.specs.Completing.{body_completes}
use Rattle.body_code.specs.Early.{is_in, early, all_of, assigned_in}
use Rattle.body_code.specs.ClassCode as code
use Rattle.body_code.specs.ClassCode.{members_of, context_of, started, body_place, no_exits, ending, body_piece, variables_of, with_collection, one_of, graph_method}
use Rattle.body_code.specs.Checking.{surroundings, at_start, known_parameters, IsTypedBody}
use Rattle.code_meaning.specs.Laid.{IsLaid, frame, Leads}
use Rattle.code_meaning.specs.Evaluating.{IsValue, AreOf, HasSame, CallsAgree}
use Rattle.code_meaning.specs.Running.{Ground, IsGround, Agrees}
use Rattle.code_meaning.proofs.Lists.{none_some}
use Rattle.code_meaning.proofs.Running.{laid_parts, leads_to}
use Rattle.code_meaning.proofs.PieceSizes.{pieces_sized}
use Rattle.code_meaning.proofs.Starting.{IsEarly, StartsThere, IsSet, list_typed, early_typed, in_there, sets_all}
use Rattle.code_meaning.proofs.Parts.{append_before, append_behind, dropped_get, laid_in, in_either, unseen_behind, mapped_length, dropped_length, variables_length}

-- ---- a call of a body

pub record Call : Type 0 where
  pub holders : List Holder
  pub methods : List Callee
  pub graph : List GraphField
  pub graph_codes : List GraphMethod
  pub calls : Calls
  pub flat : machine.Calls
  pub turns : ℕ
  pub method : Method
  pub body : Body
  pub task : ℕ
  pub args : List Val
  pub gathered : List Val
  pub fields : List Field
  pub state : State

pub record IsCall (c : Call) : Type 0 where
  pub agree : CallsAgree c.methods c.graph_codes c.calls c.flat c.turns
  pub typed : IsTypedBody c.holders c.methods c.method c.body
  pub as_many : length c.args ≡ (c.body).arity
  pub arguments : (v : ℕ) → is_in v (known_parameters (c.body).kind (c.body).arity) ≡ true
      → (k : VariableType) × (x : Val) × (variable_type (context_of c.methods c.body) v ≡ Some (type_by k)) × (slice_get c.args v ≡ Some x) × (values.type_of x ≡ type_by k)
  pub members : (t : ValueType) → (context_of c.methods c.body).members ≡ Some t → AreOf t c.gathered × IsValue t

module _ (c : Call) where
  abbrev b : Body
  b = c.body

  abbrev pub gm : GraphMethod
  gm = graph_method c.graph c.methods c.method b c.task

  abbrev pub ground_of : Ground
  ground_of = record {
    around = surroundings c.holders c.methods c.method b;
    graph = c.graph;
    calls = c.calls;
    setting = in_method c.graph c.graph_codes c.flat c.gathered;
    code = gm.code;
    site = None;
    instance = 0;
    fields = c.fields;
    many = length gm.vars;
    most = c.turns;
  }

  abbrev pub there : List Val
  there = variables_at_start b c.args

  abbrev pub before : List Val
  before = first_variables gm c.args

  abbrev pub pieces : List Instr
  pieces = (body_piece c.graph c.methods b).from (body_place b c.task) no_exits

  abbrev pub piece_size : ℕ
  piece_size = (body_piece c.graph c.methods b).size

  abbrev pub begun : Machine
  begun = machine_at_start b c.args c.gathered c.turns c.fields

  abbrev pub whole : ℕ
  whole = length (started b) + (piece_size + 1)

  pub vars_length : length gm.vars ≡ length b.variables + length (map One (body_piece c.graph c.methods b).carried)
  vars_length =
      length-append (variables_of b.kind b.variables) (map One (body_piece c.graph c.methods b).carried) ∙ ap (λ n. n + length (map One (body_piece c.graph c.methods b).carried)) (variables_length b.kind b.variables)

  module _ (right : IsCall c) where
    pub is_ground : IsGround ground_of
    is_ground = record { same_fields = refl; calls_agree = right.agree; room = (let z = vars_length in omega arith); site_agrees = λ field is. absurd (none_some field is) }

    abbrev Starts : List ℕ → Type 0
    Starts vs = AllByRecursion (StartsThere ground_of.setting gm.code (context_of c.methods b) there) vs

    starts : (vs : List ℕ) → AllByRecursion (IsEarly (context_of c.methods b) (range_with_len 0 b.arity)) vs → Starts vs
    starts [] h = tt
    starts (v ∷ vs) h =
        let k = in_there (members_of b.kind b.variables) b.variables v h.0.typed.type h.0.typed.is in
        let behind : b.arity ≤ v = unseen_behind v b.arity h.0.unseen in (
          record {
            type = k.0;
            is_variable = h.0.typed.is ∙ ap Some (sym k.2);
            in_body = k.1;
            is_there = append_behind c.args (map start_value (drop b.arity b.variables)) b.arity v right.as_many behind ∙ dropped_get start_value b.variables b.arity v k.0 k.1 behind;
          },
          starts vs h.1,
        )

    early_starts : Starts (early b)
    early_starts =
        starts (early b) (early_typed (context_of c.methods b) (range_with_len 0 b.arity) (all_of (map assigned_in b.statements))
        (list_typed (surroundings c.holders c.methods c.method b) b.statements None (at_start b) right.typed.after right.typed.checked))

    pub before_length : length before ≡ length gm.vars
    before_length =
        let z = length-append c.args (replicate (length gm.vars - length c.args) val.Unit) in
        let y = length-replicate (length gm.vars - length c.args) val.Unit in
        let r = right.typed.arity in let q = vars_length in let w = right.as_many in
        omega arith

    parts : IsLaid gm.code 0 (started b ++ pieces) × IsLaid gm.code (0 + length (started b ++ pieces)) (ending (body_completes b.statements) (started b ++ pieces))
    parts = laid_parts gm.code 0 (started b ++ pieces) (ending (body_completes b.statements) (started b ++ pieces)) (laid_in [] gm.code)

    both : IsLaid gm.code 0 (started b) × IsLaid gm.code (0 + length (started b)) pieces
    both = laid_parts gm.code 0 (started b) pieces parts.0

    pub set : IsSet ground_of.setting gm.code (context_of c.methods b) there (length (started b)) 0 c.turns before c.state (early b)
    set = let r = before_length in let q = vars_length in sets_all ground_of.setting gm.code (context_of c.methods b) there b refl (early b) 0 c.turns before c.state early_starts (omega arith) both.0

    parameters : (v : ℕ) → is_in v (known_parameters b.kind b.arity) ≡ true → HasSame (context_of c.methods b) before there v
    parameters v is =
        let k = right.arguments v is in
        record {
          type = type_by k.0;
          value = k.1;
          is_type = k.2;
          has_type = k.4;
          is_here = append_before c.args (replicate (length gm.vars - length c.args) val.Unit) v k.1 k.3;
          is_there = append_before c.args (map start_value (drop b.arity b.variables)) v k.1 k.3;
        }

    known : (v : ℕ) → is_in v (known_parameters b.kind b.arity ++ early b) ≡ true → HasSame (context_of c.methods b) set.variables there v
    known v is = by (in_either v (known_parameters b.kind b.arity) (early b) is)
      where
        by : (is_in v (known_parameters b.kind b.arity) ≡ true) ⊎ (is_in v (early b) ≡ true) → HasSame (context_of c.methods b) set.variables there v
        by (inl h) = set.keeps v (parameters v h)
        by (inr h) = set.sets v h

    pub agrees : Agrees ground_of (at_start b) set.variables c.state begun
    agrees = record {
      known = known;
      room = (let z = set.as_many in let y = before_length in omega arith);
      room_there =
          (let z = length-append c.args (map start_value (drop b.arity b.variables)) in let y = mapped_length start_value (drop b.arity b.variables) in let x = dropped_length b.arity b.variables right.typed.arity in let w = right.as_many in omega arith);
      few = omega arith;
      gathers = record { same = refl; members = λ t is. (right.members t is).0; are_values = λ t is. (right.members t is).1 };
      gathered = λ t is. absurd (none_some t is);
      key = λ is. absurd (false≢true is);
      at_site = λ f is. absurd (none_some f is);
      fields = record { same_fields = refl; same_instance = refl; of_class = λ f h is. absurd (none_some f is) };
    }

    -- ---- the code of the statements

    pub pieces_length : length pieces ≡ piece_size
    pieces_length = pieces_sized (code.scope_of c.graph c.methods b) b.statements (body_place b c.task) no_exits

    pub start_leads : Leads ground_of.setting gm.code (length (started b)) (frame 0 [] before c.turns) c.state (frame (length (started b)) [] set.variables c.turns) c.state
    start_leads = let e : 0 + length (started b) ≡ length (started b) = omega arith in leads_to ground_of.setting gm.code e set.leads

    pub laid_pieces : IsLaid gm.code (length (started b)) pieces
    laid_pieces = let e : 0 + length (started b) ≡ length (started b) = omega arith in subst (λ k. IsLaid gm.code k pieces) e both.1

    pub enough : whole ≤ suc (length gm.code)
    enough =
        let x = length-append (started b ++ pieces) (ending (body_completes b.statements) (started b ++ pieces)) in
        let y = length-append (started b) pieces in
        let z = pieces_length in
        omega arith

    pub void_end : body_completes b.statements ≡ true → slice_get gm.code (length (started b) + piece_size) ≡ Some instr.ReturnVoid
    void_end is =
        let e : 0 + length (started b ++ pieces) ≡ length (started b) + piece_size = (let x = length-append (started b) pieces in let z = pieces_length in omega arith) in
        let found : IsLaid gm.code (0 + length (started b ++ pieces)) (instr.ReturnVoid ∷ []) = subst (λ z. IsLaid gm.code (0 + length (started b ++ pieces)) (ending z (started b ++ pieces))) is parts.1 in
        subst (λ k. slice_get gm.code k ≡ Some instr.ReturnVoid) e found.0
