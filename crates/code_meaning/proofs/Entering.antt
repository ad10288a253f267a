-- Calls of entry methods: their steps stand on their code, and the code comes from its start to where the call rests first.
use Rattle.std.proofs.Common.{◌≤◌, ◌+◌, ◌*◌, ◌≡◌, refl, sym, ap, ◌∙◌, ℕ, suc, subst, mul_comm, arith, true, List, [], ◌∷◌, map, length, Some, None}
use Rattle.sdg_base.specs.Limits.{turns_at_start}
use Rattle.sdg_base.specs.declared.val.Val.{Val}
use Rattle.sdg_base.specs.declared.value_type.ValueType.{ValueType}
use Rattle.sdg_base.specs.Types as values
use Rattle.state_classes.specs.States.{State}
use Rattle.java_tree.specs.declared.tree.Class.{Class}
use Rattle.java_tree.specs.declared.tree.Method.{Method}
use Rattle.flat_code.specs.declared.graph.VariableType.TheVariants.{One}
use Rattle.flat_code.specs.Machine as machine
use Rattle.flat_code.specs.Machine.{no_state}
use Rattle.access_blocks.specs.declared.body.Body.{Body}
use Rattle.access_blocks.specs.declared.body.Program.{Program}
use Rattle.access_blocks.specs.Calls.{calls_of}
use Rattle.access_blocks.specs.Statements.{Field}
use Rattle.access_blocks.specs.Source.{CallState, Then, Runs}
use Rattle.body_code.specs.Completing.{body_completes}
use Rattle.body_code.specs.ClassCode.{taken_types, started, body_place, no_exits, body_piece, fields_of, callees_of, code_of_class}
use Rattle.body_code.specs.Checking.{at_start, IsTypedBody, IsTyped}
use Rattle.code_meaning.specs.Running.{Ground, SiteAgrees}
use Rattle.code_meaning.specs.Placed.{are_placed}
use Rattle.code_meaning.specs.Frames.{Level, AreLaid}
use Rattle.code_meaning.specs.Stepping.{coded}
use Rattle.code_meaning.specs.Steps.{StepsOn, RestsFrom}
use Rattle.code_meaning.specs.Entries.{Working, on_nothing, own_name, site_name, IsEntry, entry_ground, PartIsThere, EntriesStandOnTheirCode, EndsAreRuns, whole_of, EntriesRest}
use Rattle.code_meaning.proofs.Lists.{none_some}
use Rattle.code_meaning.proofs.Running.{more_fuel}
use Rattle.code_meaning.proofs.Reaching.{reaches_by}
use Rattle.code_meaning.proofs.Laying.{same_below}
use Rattle.code_meaning.proofs.Moving.{rests_on}
use Rattle.code_meaning.proofs.Onward.{run_rests}
use Rattle.code_meaning.proofs.Naming.{fields_named}
use Rattle.code_meaning.proofs.Bodies as bodies
use Rattle.code_meaning.proofs.Bodies.{Call, IsCall}
use Rattle.code_meaning.proofs.Parts.{mapped_length}
use Rattle.code_meaning.proofs.Calling.{taken_length, map_length, entry_arguments, entry_members, calls_mean_their_code}

module _ (class : Class) (program : Program) (typed : IsTyped class program) (n : ℕ) (m : Method) (b : Body) (entry : IsEntry class program n m b) (task : ℕ) where
  body_typed : IsTypedBody program.fields (callees_of class program) m b
  body_typed = typed.bodies n m b entry.is_method entry.is_body

  abbrev call : List Val → List Field → State → Call
  call args fields state = record {
    holders = program.fields;
    methods = callees_of class program;
    graph = fields_of class program;
    graph_codes = (code_of_class class program).methods;
    calls = calls_of program.methods;
    flat = machine.calls_of (fields_of class program) (code_of_class class program).methods;
    turns = turns_at_start;
    method = m;
    body = b;
    task = task;
    args = args;
    gathered = [];
    fields = fields;
    state = state;
  }

  is_call : (args : List Val) (fields : List Field) (state : State) → map values.type_of args ≡ taken_types b.arity b.variables → IsCall (call args fields state)
  is_call args fields state has = record {
    agree = calls_mean_their_code class program typed;
    typed = body_typed;
    as_many = sym (map_length args) ∙ ap (λ (ts : List ValueType). length ts) has ∙ taken_length b.arity b.variables body_typed.arity;
    arguments = entry_arguments b.kind b.arity b.variables args entry.is_entry body_typed.arity has;
    members = λ t is. absurd (none_some t (sym (entry_members b.kind b.variables entry.is_entry) ∙ is));
  }

  site_there : (on : Working) (fields : List Field) (field : ℕ) → on.site ≡ Some field → PartIsThere program fields on field → SiteAgrees (entry_ground class program m b task on fields) field
  site_there on fields field is there =
      let named = fields_named class program typed field there.holder there.is_holder in
      record {
        holder = there.holder;
        is_holder = there.is_holder;
        named = named;
        own = ap (site_name (fields_of class program)) is ∙ ap own_name named.is_named;
        old = there.old;
        is_old = there.is_old;
        part = there.part;
        is_part = there.is_part;
      }

  pub stands_on : (on : Working) (fields : List Field) → ((field : ℕ) → on.site ≡ Some field → PartIsThere program fields on field) → StepsOn (entry_ground class program m b task on fields)
  stands_on on fields there = record {
    stands = record { same_fields = refl; calls_agree = calls_mean_their_code class program typed; room = (let v = bodies.vars_length (call [] fields no_state) in omega arith); site_agrees = λ field is. site_there on fields field is (there field is) };
    named = fields_named class program typed;
    no_members = entry_members b.kind b.variables entry.is_entry;
  }

  module _ (args : List Val) (has : map values.type_of args ≡ taken_types b.arity b.variables) (fields : List Field) (state : State) (placed : are_placed b.statements ≡ true) where
    abbrev c : Call
    c = call args fields state

    right : IsCall c
    right = is_call args fields state has

    abbrev whole : ℕ
    whole = whole_of (bodies.gm c)

    abbrev g : Ground
    g = bodies.ground_of c

    -- nothing is around a body
    abbrev outermost : Level
    outermost = record { loop = None; exits = no_exits; breaks = true }

    abbrev left : ℕ
    left = bodies.piece_size c + 0 + 1

    statements_laid : AreLaid (coded g whole) (Then b.statements ∷ []) outermost true (length (started b)) (at_start b) left
    statements_laid =
        let v = bodies.vars_length c in
        let l = mapped_length One (body_piece (fields_of class program) (callees_of class program) b).carried in
        record {
          goes_on = body_completes b.statements;
          jump = 0;
          to = length (started b) + bodies.piece_size c;
          next = body_typed.after;
          later = 1;
          here = λ e. record {
            place = body_place b task;
            is_at = refl;
            laid = bodies.laid_pieces c right;
            end = body_typed.after;
            checked = body_typed.checked;
            below = same_below body_typed.after body_typed.after refl;
            placed = placed;
            comes = refl;
            completes = λ z. z;
            breaks = λ z. refl;
            first = omega arith;
            room = omega arith;
          };
          few = omega arith;
          rest = record { no_loop = refl; here = bodies.void_end c right; is_void = body_typed.returns; few = omega arith };
        }

    pub rests_first : (next : List Field) (end : CallState) → Runs (calls_of program.methods) (Then b.statements ∷ []) (bodies.begun c) end next → RestsFrom g whole 0 (bodies.before c) turns_at_start state end next
    rests_first next end runs =
        let on = stands_on on_nothing fields (λ field is. absurd (none_some field is)) in
        let e = bodies.enough c right in
        rests_on g whole (reaches_by g.setting g.code whole {n = length (started b)} {left = whole} {later = left} (omega arith) (omega arith) (bodies.start_leads c right)) end next
        (run_rests on.stands whole on.named (Then b.statements ∷ []) outermost (length (started b)) left (at_start b) statements_laid (omega arith) (bodies.set c right).variables state (bodies.begun c) (bodies.agrees c right) end next runs)

pub ends_are_runs : EndsAreRuns
ends_are_runs s code most f state ending last next room q =
    let l : q.steps + 0 ≤ suc f.turns * suc (length code) = (let a = q.few in let m = mul_comm (suc (length code)) (suc f.turns) in subst (λ n. q.steps + 0 ≤ n) m (steps_within (suc (length code)) q.steps f.turns (omega arith))) in
    more_fuel s code (q.steps + 0) (suc f.turns * suc (length code)) l f state (record { ending = ending; frame = last; state = next }) (q.same 0)
  where
    steps_within : (n s t : ℕ) → s ≤ n + n * t → s + 0 ≤ n * suc t
    steps_within n s t h = omega arith

pub entries_stand_on_their_code : EntriesStandOnTheirCode
entries_stand_on_their_code class program typed n m b entry task on fields there = stands_on class program typed n m b entry task on fields there

pub entries_rest : EntriesRest
entries_rest class program typed n m b entry placed task args has fields next state end runs = rests_first class program typed n m b entry task args has fields state placed next end runs
