-- The visit of an instance: the arguments are loaded, the instance is accessed, and what it answers is brought to the join.
use Rattle.std.proofs.Common.{◌≡◌, ◌≤◌, ◌+◌, ◌*◌, refl, sym, ap, subst, ◌∙◌, ℕ, zero, suc, arith, List, [], ◌∷◌, map, length, Some, slice_get, add_assoc}
use Rattle.std.specs.List.{AllByRecursion, range_with_len}
use Rattle.sdg_base.specs.declared.val.Val.{Val}
use Rattle.sdg_base.specs.declared.val.Val.TheVariants as val
use Rattle.sdg_base.specs.declared.val.Outcome.{Outcome}
use Rattle.sdg_base.specs.declared.val.Outcome.TheVariants as outcome
use Rattle.sdg_base.specs.declared.value_type.ValueType.{ValueType}
use Rattle.sdg_base.specs.Signatures.{Signature}
use Rattle.sdg_base.specs.Types as values
use Rattle.state_classes.specs.declared.method.Method.{Method}
use Rattle.state_classes.specs.Methods.{signature}
use Rattle.state_classes.specs.States.{State, called}
use Rattle.flat_code.specs.declared.graph.Instr.TheVariants as instr
use Rattle.flat_code.specs.Machine as machine
use Rattle.flat_code.specs.Machine.{Frame, Ending, PartFor, Performed, Accesses, pushed_result, part_value, perform_on, run_within}
use Rattle.access_blocks.specs.declared.body.Holder.{Holder}
use Rattle.body_code.specs.StatementCode.{field_name}
use Rattle.code_meaning.specs.Laid.{IsLaid, frame, Leads}
use Rattle.code_meaning.specs.Evaluating.{IsValue}
use Rattle.code_meaning.specs.Running.{Ground, IsGround, scope_on}
use Rattle.code_meaning.specs.Resting.{IsOfResult, EndsIn}
use Rattle.code_meaning.specs.Steps.{brought_to, VisitsBringTheirParts}
use Rattle.code_meaning.proofs.Lists.{some_is, get_within}
use Rattle.code_meaning.proofs.Running.{laid_two, stays, one_step, one_access, end_step, refused_step, leads_on, leads_to}
use Rattle.code_meaning.proofs.Operands.{a_value_is, pushed_all}
use Rattle.code_meaning.proofs.PieceSizes.{loads_length}
use Rattle.code_meaning.proofs.States.{OutcomeHas, call_keeps}
use Rattle.code_meaning.proofs.Simple.{arguments_are_values, answers_type, access_works}

part_brought : (v : Val) → part_value (pushed_result v []) ≡ v
part_brought (val.Int n) = refl
part_brought (val.Long n) = refl
part_brought (val.Bool b) = refl
part_brought (val.Vector longs) = refl
part_brought val.Unit = refl

answer_typed : (t : ValueType) (how : Outcome) → OutcomeHas t how → IsOfResult t how
answer_typed t (outcome.Value v) has = has
answer_typed t (outcome.Throws e) has = tt
answer_typed t outcome.Limit has = tt

typed_values : (vs : List Val) (ts : List ValueType) → map values.type_of vs ≡ ts → AllByRecursion IsValue ts → AllByRecursion (λ v. IsValue (values.type_of v)) vs
typed_values vs ts is h = by vs (subst (AllByRecursion IsValue) (sym is) h)
  where
    by : (vs : List Val) → AllByRecursion IsValue (map values.type_of vs) → AllByRecursion (λ v. IsValue (values.type_of v)) vs
    by [] h = tt
    by (v ∷ vs) h = (h.0, by vs h.1)

module _ {g : Ground} (ground : IsGround g) where
  -- the arguments come on the stack
  loads : (vs : List Val) (variable at turns : ℕ) (stack variables : List Val) (state : State) → AllByRecursion (λ v. IsValue (values.type_of v)) vs → ((n : ℕ) (v : Val) → slice_get vs n ≡ Some v → slice_get variables (variable + n) ≡ Some v)
      → IsLaid g.code at (map instr.Load (range_with_len variable (length vs))) → Leads g.setting g.code (length vs) (frame at stack variables turns) state (frame (at + length vs) (pushed_all vs stack) variables turns) state
  loads [] variable at turns stack variables state h carried laid = let e : at ≡ at + 0 = omega arith in leads_to g.setting g.code e (stays g.setting g.code)
  loads (v ∷ vs) variable at turns stack variables state h carried laid =
      let z : variable + 0 ≡ variable = omega arith in
      let here : slice_get variables variable ≡ Some v = sym (ap (slice_get variables) z) ∙ carried zero v refl in
      let pushes : perform_on g.setting (instr.Load variable) stack (frame at stack variables turns) ≡ machine.goes (v ∷ stack) (frame at stack variables turns) =
      ap (λ o. machine.pushed (machine.a_value o) stack (frame at stack variables turns)) here ∙ ap (λ o. machine.pushed o stack (frame at stack variables turns)) (a_value_is (values.type_of v) v h.0 refl) in
      let e : suc at + length vs ≡ at + suc (length vs) = omega arith in
      let less : turns ≤ turns = omega arith in
      leads_to g.setting g.code e (wide e (leads_on g.setting g.code (one_step g.setting g.code (instr.Load variable) laid.0 pushes less)
      (loads vs (variable + 1) (suc at) turns (v ∷ stack) variables state h.1 (λ n w is. let k : variable + 1 + n ≡ variable + suc n = omega arith in ap (slice_get variables) k ∙ carried (suc n) w is) laid.1)))
    where
      wide : {f h : Frame} {a b : State} → suc at + length vs ≡ at + suc (length vs) → Leads g.setting g.code (1 + length vs) f a h b → Leads g.setting g.code (suc (length vs)) f a h b
      wide {f} {h} {a} {b} e p = let z : 1 + length vs ≡ suc (length vs) = omega arith in subst (λ n. Leads g.setting g.code n f a h b) z p

  -- ---- runs in which no turn is spent

  few_same : (n s t : ℕ) → s + n * t ≤ n * suc t → s ≤ n
  few_same n s t h = omega arith

  lead_then : {n k a b turns : ℕ} {stack more variables vars : List Val} {x y z : State} {ending : Ending} {last : Frame} → Leads g.setting g.code n (frame a stack variables turns) x (frame b more vars turns) y
      → EndsIn g.setting g.code k (frame b more vars turns) y ending last z → EndsIn g.setting g.code (n + k) (frame a stack variables turns) x ending last z
  lead_then {n} {k} {a} {b} {turns} {stack} {more} {variables} {vars} {x} p q = record {
    steps = p.steps + q.steps;
    same = λ i. ap (λ j. run_within j g.setting g.code (frame a stack variables turns) x) (add_assoc p.steps q.steps i) ∙ p.same (q.steps + i) ∙ q.same i;
    few = (let l = few_same n p.steps turns p.few in let r = q.few in omega arith);
  }

  -- the access, and what is brought
  record Brought (at join turns : ℕ) (stack variables : List Val) (state : State) (answer : Outcome × State) : Type 0 where
    pub last : Frame
    pub ends : EndsIn g.setting g.code 2 (frame at stack variables turns) state (brought_to join answer.0) last answer.1
    pub same_turns : last.turns ≡ turns
    pub same_variables : last.variables ≡ variables

  brings : (name : List ℕ) (k : Method) (args : List Val) (at join turns : ℕ) (variables : List Val) (state : State) (answer : Outcome × State) → called k args state ≡ answer
      → IsLaid g.code at (instr.Access name k ∷ instr.Part join ∷ [])
      → perform_on g.setting (instr.Access name k) (pushed_all args []) (frame at (pushed_all args []) variables turns) ≡ Some (Accesses k args (frame (suc at) [] variables turns))
      → Brought at join turns (pushed_all args []) variables state answer
  brings name k args at join turns variables state (outcome.Value v, next) answers laid does =
      let less : turns ≤ turns = omega arith in
      let f : Frame = frame (suc at) (pushed_result v []) variables turns in
      let lead : Leads g.setting g.code 1 (frame at (pushed_all args []) variables turns) state f next = one_access g.setting g.code (instr.Access name k) k args laid.0 does less answers in
      let end = end_step g.setting g.code (instr.Part join) f f next (PartFor join v) laid.1.0 (ap (λ w. Some (machine.Ends (PartFor join w) f)) (part_brought v)) in
      record { last = f; ends = lead_then {n = 1} {k = 1} lead (record { steps = 1; same = end; few = omega arith }); same_turns = refl; same_variables = refl }
  brings name k args at join turns variables state (outcome.Throws e, next) answers laid does =
      record { last = frame (suc at) [] variables turns; ends = record { steps = 1; same = refused_step g.setting g.code (instr.Access name k) k args (frame at (pushed_all args []) variables turns) (frame (suc at) [] variables turns) state next (outcome.Throws e) laid.0 does answers (λ v e. cc); few = omega arith }; same_turns = refl; same_variables = refl }
  brings name k args at join turns variables state (outcome.Limit, next) answers laid does =
      record { last = frame (suc at) [] variables turns; ends = record { steps = 1; same = refused_step g.setting g.code (instr.Access name k) k args (frame at (pushed_all args []) variables turns) (frame (suc at) [] variables turns) state next outcome.Limit laid.0 does answers (λ v e. cc); few = omega arith }; same_turns = refl; same_variables = refl }

  -- the holder of a site is the field's
  site_signature : (field : ℕ) (on : g.site ≡ Some field) (holder : Holder) (k : Method) (sig : Signature) → slice_get g.around.fields field ≡ Some holder → signature holder.class k ≡ Some sig
      → signature (ground.site_agrees field on).holder.class k ≡ Some sig
  site_signature field on holder k sig is signed =
      let site = ground.site_agrees field on in
      ap (λ (h : Holder). signature h.class k) (some_is site.holder holder (sym site.is_holder ∙ is)) ∙ signed

pub visits_bring_their_parts : VisitsBringTheirParts
visits_bring_their_parts g on whole at task field method args now variables v state part turns =
    let name = field_name (scope_on g) field in
    let load_code = map instr.Load (range_with_len v.variable (length args)) in
    let there = at + 1 + length args in
    let parts = laid_two g.code (at + 1) (length args) load_code (instr.Access name method ∷ instr.Part (suc task) ∷ []) (loads_length v.variable (length args)) v.visit in
    let values_are = typed_values args v.sig.arguments v.types (arguments_are_values v.holder.class method v.sig v.is_signature) in
    let signed = site_signature on.stands field part.site v.holder method v.sig v.is_holder v.is_signature in
    let b = brings on.stands name method args there (suc task) turns variables state (called method args state) refl parts.1
    (access_works on.stands field part.site method v.sig args (frame there (pushed_all args []) variables turns) signed v.types refl) in
    record {
      last = b.last;
      ends = lead_then on.stands (loads on.stands args v.variable (at + 1) turns [] variables state values_are v.carried parts.0) b.ends;
      same_turns = b.same_turns;
      same_variables = b.same_variables;
      of_result = answer_typed v.sig.result (called method args state).0 (answers_type v.holder.class method v.sig args state (part.of_class v.holder v.is_holder) v.is_signature v.types);
      same_class = call_keeps method args state;
      few = (let z = get_within g.code (suc there) (instr.Part (suc task)) parts.1.1.0 in omega arith);
    }
