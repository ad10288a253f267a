-- A run of typed code from a place where a task or a method begins comes to an end that fits, before its steps are out.
use Rattle.std.proofs.Common.{◌≡◌, ◌≢◌, refl, sym, ap, subst, ◌∙◌, ℕ, ℤ, zero, suc, ◌<◌, ◌≤◌, arith, Bool, true, false, List, [], ◌∷◌, map, length, Option, Some, None, slice_get, inl, inr, ◌⊎◌}
use Rattle.std.proofs.lemmas.Bool.{false≢true}
use Rattle.sdg_base.specs.declared.val.Val.{Val}
use Rattle.sdg_base.specs.declared.val.Outcome.{Outcome}
use Rattle.sdg_base.specs.declared.val.Outcome.TheVariants as outcome
use Rattle.sdg_base.specs.declared.value_type.ValueType.{ValueType}
use Rattle.sdg_base.specs.Signatures.{Signature}
use Rattle.sdg_base.specs.Types.{type_of}
use Rattle.state_classes.specs.declared.method.Method.{Method}
use Rattle.state_classes.specs.Methods.{signature}
use Rattle.state_classes.specs.States.{State, class_of, called}
use Rattle.flat_code.specs.declared.graph.Graph.{Graph}
use Rattle.flat_code.specs.declared.graph.GraphField.{GraphField}
use Rattle.flat_code.specs.declared.graph.GraphMethod.{GraphMethod}
use Rattle.flat_code.specs.declared.graph.Instr.{Instr}
use Rattle.flat_code.specs.declared.graph.Instr.TheVariants as instr
use Rattle.flat_code.specs.Types.{result_by, field_named, signature_in, signature_at}
use Rattle.flat_code.specs.Machine as machine
use Rattle.flat_code.specs.Machine.{Frame, Calls, Ending, Returned, Stopped, CutTo, PartFor, Performed, Goes, Accesses, Ends, Ran, Running, perform, perform_on, run, run_within, most_steps, after_access, part_value}
use Rattle.flat_code.specs.Ways.{IsIn, IsFirst, next_in_task, writes, Reaches, ReachesNext, IsFree, One, IsNeeded, NeededHere, NeededLater}
use Rattle.flat_code.specs.Verified.{IsVerified, IsMethod, HasCode, Stack, Begins, IsTypedAt, IsBehindTurn, IsJumpTo, on_top}
use Rattle.graph_safety.specs.Safe.{IsStateOf}
use Rattle.graph_safety.proofs.Lists.{none_some, some_is, is_some_or_not, get_within}
use Rattle.graph_safety.proofs.States.{OutcomeHas, Answers, call_answers, call_keeps}
use Rattle.graph_safety.proofs.Frames.{Holds, HasNoValue, CallsFit, setting_of, Allowed, is_turn, IsReturn, frame, StepTo, AccessFits, EndFits, StepFits, Leaves}
use Rattle.graph_safety.proofs.Steps.{pushed_types}
use Rattle.graph_safety.proofs.Instructions.{step}
use Rattle.graph_safety.proofs.Ways.{Among, reads_needed, next_is, comes, free_more, Suffices, suffices_at_first, suffices_next, suffices_spent, suffices_some}

-- what a run of a method stands on, from where it begins, with the variables that were carried to it and its turns
pub record Standing (graph : Graph) (n : ℕ) (m : GraphMethod) (calls : Calls) (field : Option (List ℕ)) (key : Option ℤ) (gathered : List Val) (start most : ℕ) : Type 0 where
  pub is_method : IsMethod graph n m
  pub begins : Begins graph n m start
  pub allowed : (at : ℕ) (i : Instr) → Reaches m.code start at → slice_get m.code at ≡ Some i → Allowed graph field key gathered i
  pub fits : (turns : ℕ) → turns < most → CallsFit graph calls turns

-- the state is of the class of the field, where there is one
abbrev pub IsStateFor : Graph → Option (List ℕ) → State → Type 0
IsStateFor graph field state = (name : List ℕ) → field ≡ Some name → IsStateOf (field_named name graph.fields) state

turn_is : (i : Instr) → (is_turn i ≡ true → ⊥) → i ≢ instr.Turn
turn_is i other e = other (ap is_turn e)

true_or_not : (b : Bool) → (b ≡ true) ⊎ (b ≡ true → ⊥)
true_or_not true = inl refl
true_or_not false = inr false≢true

module _ (graph : Graph) (verified : IsVerified graph) (n : ℕ) (m : GraphMethod) (calls : Calls) (field : Option (List ℕ)) (key : Option ℤ) (gathered : List Val) (start most : ℕ) (vs : List ℕ)
    (on : Standing graph n m calls field key gathered start most) where
  -- a frame of the run
  pub record FrameFits (f : Frame) : Type 0 where
    pub reached : Reaches m.code start f.at
    pub stacked : (verified.types n m on.is_method).stacks f.at ≡ Some (map type_of f.stack)
    pub needed : (v : ℕ) → IsNeeded graph.tasks m.code v f.at → Holds m gathered f.variables v
    pub carried : (v : ℕ) → IsIn v vs → Holds m gathered f.variables v
    pub room : length f.variables ≡ length m.vars
    pub turns : f.turns ≤ most
    pub spent : IsBehindTurn graph n f.at → f.turns < most

  abbrev pub EndsRight : Ending → Frame → Type 0
  EndsRight (Returned v) f = FrameFits f × (i : Instr) × (slice_get m.code f.at ≡ Some i) × IsReturn i × (type_of v ≡ result_by m.result)
  EndsRight (Stopped how) f = HasNoValue how
  EndsRight (CutTo t) f = FrameFits f × (slice_get m.code f.at ≡ Some (instr.Cut t))
  EndsRight (PartFor join v) f = FrameFits f × (slice_get m.code f.at ≡ Some (instr.Part join)) × (v ≡ part_value f.stack)

  pub record RanRight (state : State) (ran : Ran) : Type 0 where
    pub carried : (v : ℕ) → IsIn v vs → Holds m gathered ran.frame.variables v
    pub turns : ran.frame.turns ≤ most
    pub class : class_of ran.state ≡ class_of state
    pub ends : EndsRight ran.ending ran.frame

  abbrev pub RunsRight : State → Option Ran → Type 0
  RunsRight state None = ⊥
  RunsRight state (Some ran) = RanRight state ran

  runs_from : (state other : State) (o : Option Ran) → class_of other ≡ class_of state → RunsRight other o → RunsRight state o
  runs_from state other None e h = h
  runs_from state other (Some ran) e h = record { carried = h.carried; turns = h.turns; class = h.class ∙ e; ends = h.ends }

  -- what stands at a frame
  typed_at : (f : Frame) (fits : FrameFits f) → IsTypedAt graph m (verified.types n m on.is_method).stacks f.at (map type_of f.stack)
  typed_at f fits = (verified.types n m on.is_method).typed f.at (map type_of f.stack) fits.stacked

  code_at : (f : Frame) (i : Instr) → slice_get m.code f.at ≡ Some i → HasCode graph n f.at i
  code_at f i is_code = record { of = m; is_method = on.is_method; is_code = is_code }

  turn_at : (before : ℕ) (i : Instr) → HasCode graph n before instr.Turn → slice_get m.code before ≡ Some i → is_turn i ≡ true
  turn_at before i has is_code =
      let same : has.of ≡ m = some_is has.of m (sym has.is_method ∙ on.is_method) in
      let there : slice_get m.code before ≡ Some instr.Turn = subst (λ (o : GraphMethod). slice_get o.code before ≡ Some instr.Turn) same has.is_code in
      ap is_turn (some_is i instr.Turn (sym is_code ∙ there))

  spends_before : (f g : Frame) (i : Instr) → slice_get m.code f.at ≡ Some i → IsIn g.at (next_in_task f.at i) → (is_turn i ≡ true → g.turns < f.turns) → f.turns ≤ most → IsBehindTurn graph n g.at → g.turns < most
  spends_before f g i is_code is_next spent turns behind = by (comes f.at i g.at is_next)
    where
      by : (g.at ≡ suc f.at) ⊎ IsJumpTo g.at i → g.turns < most
      by (inl e) =
          let h = behind.only.behind in
          let same : f.at ≡ behind.before = omega arith in
          let fell = spent (turn_at behind.before i behind.turn (subst (λ (k : ℕ). slice_get m.code k ≡ Some i) same is_code)) in
          omega arith
      by (inr j) = absurd (behind.only.no_jump f.at i (code_at f i is_code) j)

  moved : (f g : Frame) (i : Instr) (after : Stack) → FrameFits f → slice_get m.code f.at ≡ Some i → ((next : ℕ) → IsIn next (next_in_task f.at i) → (verified.types n m on.is_method).stacks next ≡ Some after)
      → StepTo m gathered i f g after → FrameFits g
  moved f g i after fits is_code leaves to = record {
    reached = ReachesNext f.at g.at i fits.reached is_code to.next;
    stacked = leaves g.at to.next ∙ ap Some (sym to.typed);
    needed = λ v h. needs v h (is_some_or_not (writes i) v);
    carried = λ v h. to.kept v (fits.carried v h);
    room = to.as_many ∙ fits.room;
    turns = let a = to.turns in let b = fits.turns in omega arith;
    spent = spends_before f g i is_code to.next to.spent fits.turns;
  }
    where
      needs : (v : ℕ) → IsNeeded graph.tasks m.code v g.at → (writes i ≡ Some v) ⊎ (writes i ≢ Some v) → Holds m gathered g.variables v
      needs v h (inl e) = to.written v e
      needs v h (inr ne) = to.kept v (fits.needed v (NeededLater f.at g.at i is_code ne to.next h))

  -- an access that gave a value
  accessed : (f g : Frame) (i : Instr) (k : Method) (args : List Val) (after : Stack) (v : Val) (a : AccessFits graph field i k args f g after) → type_of v ≡ a.sig.result
      → StepTo m gathered i f (frame g.at (machine.pushed_result v g.stack) g.variables g.turns) after
  accessed f g i k args after v a e = record {
    next = subst (λ (j : Instr). IsIn g.at (next_in_task f.at j)) (sym a.is) (subst (λ (to : ℕ). IsIn to (suc f.at ∷ [])) (sym a.at) (IsFirst []));
    typed = pushed_types v g.stack ∙ ap (λ (t : ValueType). on_top t (map type_of g.stack)) e ∙ a.top;
    as_many = ap length a.variables;
    kept = λ w h. subst (λ (l : List Val). Holds m gathered l w) (sym a.variables) h;
    written = λ w q. absurd (none_some w (ap writes (sym a.is) ∙ q));
    turns = let t = a.turns in omega arith;
    spent = λ q. absurd (false≢true (ap is_turn (sym a.is) ∙ q));
  }

  class_is : (name : List ℕ) (k : Method) (sig : Signature) (state : State) → IsStateOf (field_named name graph.fields) state → signature_at graph.fields name k ≡ Some sig → signature (class_of state) k ≡ Some sig
  class_is name k sig state = by (field_named name graph.fields)
    where
      by : (o : Option GraphField) → IsStateOf o state → signature_in o k ≡ Some sig → signature (class_of state) k ≡ Some sig
      by None h e = absurd h
      by (Some of) h e = ap (λ c. signature c k) h ∙ e

  answered : (a : Option Signature) (sig : Signature) (args : List Val) (how : Outcome) → a ≡ Some sig → Answers a args how → map type_of args ≡ sig.arguments → OutcomeHas sig.result how
  answered a sig args how e h of = (subst (λ o. Answers o args how) e h) of

  -- what comes after an access
  after_call : (next : Running) (f g : Frame) (i : Instr) (k : Method) (args : List Val) (after : Stack) (state : State) (fits : FrameFits f) (a : AccessFits graph field i k args f g after) (r : Outcome × State)
      → OutcomeHas a.sig.result r.0 → class_of r.1 ≡ class_of state
      → ((to : Frame) (other : State) → class_of other ≡ class_of state → StepTo m gathered i f to after → RunsRight other (next to other))
      → RunsRight state (after_access next g r)
  after_call next f g i k args after state fits a (outcome.Value v, other) has class more = runs_from state other _ class (more _ other class (accessed f g i k args after v a has))
  after_call next f g i k args after state fits a (outcome.Throws e, other) has class more = record {
    carried = λ v h. subst (λ (l : List Val). Holds m gathered l v) (sym a.variables) (fits.carried v h);
    turns = let b = fits.turns in let t = a.turns in omega arith;
    class = class;
    ends = tt;
  }
  after_call next f g i k args after state fits a (outcome.Limit, other) has class more = record {
    carried = λ v h. subst (λ (l : List Val). Holds m gathered l v) (sym a.variables) (fits.carried v h);
    turns = let b = fits.turns in let t = a.turns in omega arith;
    class = class;
    ends = tt;
  }

  -- an end, at the frame of its instruction
  ended : (f : Frame) (i : Instr) (ending : Ending) → FrameFits f → slice_get m.code f.at ≡ Some i → EndFits m i f ending → EndsRight ending f
  ended f i (Returned v) fits is_code h = (fits, i, is_code, h.0, h.1)
  ended f i (Stopped how) fits is_code h = h
  ended f i (CutTo t) fits is_code h = (fits, is_code ∙ ap Some h)
  ended f i (PartFor join v) fits is_code h = (fits, is_code ∙ ap Some h.0, h.1)

  -- what an end leaves of the frame of its instruction
  left : (f g : Frame) (ending : Ending) → Leaves ending f g → (g.variables ≡ f.variables) × (g.turns ≤ f.turns)
  left f g (Returned v) h = (ap (λ l. l.variables) h, let e = ap (λ (l : Frame). l.turns) h in omega arith)
  left f g (Stopped how) h = (ap (λ l. l.variables) h.is, h.turns)
  left f g (CutTo t) h = (ap (λ l. l.variables) h, let e = ap (λ (l : Frame). l.turns) h in omega arith)
  left f g (PartFor join v) h = (ap (λ l. l.variables) h, let e = ap (λ (l : Frame). l.turns) h in omega arith)

  ended_at : (f g : Frame) (i : Instr) (ending : Ending) → Leaves ending f g → FrameFits f → slice_get m.code f.at ≡ Some i → EndFits m i f ending → EndsRight ending g
  ended_at f g i (Returned v) same fits is_code h = subst (λ (l : Frame). EndsRight (Returned v) l) (sym same) (ended f i (Returned v) fits is_code h)
  ended_at f g i (Stopped how) same fits is_code h = h
  ended_at f g i (CutTo t) same fits is_code h = subst (λ (l : Frame). EndsRight (CutTo t) l) (sym same) (ended f i (CutTo t) fits is_code h)
  ended_at f g i (PartFor join v) same fits is_code h = subst (λ (l : Frame). EndsRight (PartFor join v) l) (sym same) (ended f i (PartFor join v) fits is_code h)

  performed : (next : Running) (f : Frame) (i : Instr) (after : Stack) (state : State) (p : Option Performed) → FrameFits f → slice_get m.code f.at ≡ Some i → IsStateFor graph field state
      → StepFits graph m field gathered i f after p
      → ((to : Frame) (other : State) → class_of other ≡ class_of state → StepTo m gathered i f to after → RunsRight other (next to other))
      → RunsRight state (machine.after next state p)
  performed next f i after state None fits is_code at h more = h
  performed next f i after state (Some (Goes g)) fits is_code at h more = more g state refl h
  performed next f i after state (Some (Accesses k args g)) fits is_code at h more =
      after_call next f g i k args after state fits h (called k args state)
      (answered (signature (class_of state) k) h.sig args (called k args state).0 (class_is h.name k h.sig state (at h.name h.own) h.is_signature) (call_answers k args state) h.of)
      (call_keeps k args state) more
  performed next f i after state (Some (Ends ending g)) fits is_code at h more = record {
    carried = λ v k. subst (λ (l : List Val). Holds m gathered l v) (sym (left f g ending h.0).0) (fits.carried v k);
    turns = let less = (left f g ending h.0).1 in let most = fits.turns in omega arith;
    class = refl;
    ends = ended_at f g i ending h.0 fits is_code h.1;
  }

  state_stays : (state other : State) → class_of other ≡ class_of state → IsStateFor graph field state → IsStateFor graph field other
  state_stays state other e h name own = by (field_named name graph.fields) (h name own)
    where
      by : (o : Option GraphField) → IsStateOf o state → IsStateOf o other
      by None k = k
      by (Some of) k = e ∙ k

  abbrev AllFree : List ℕ → ℕ → Type 0
  AllFree passed at = (p : ℕ) → Among p passed → IsFree m.code p at

  free_next : (passed : List ℕ) (at next : ℕ) (i : Instr) → AllFree passed at → slice_get m.code at ≡ Some i → i ≢ instr.Turn → IsIn next (next_in_task at i) → AllFree (at ∷ passed) next
  free_next passed at next i free is_code plain is_next p (inl e) = subst (λ (q : ℕ). IsFree m.code q next) (sym e) (One at next i is_code plain (next_is at i next is_next))
  free_next passed at next i free is_code plain is_next p (inr h) = free_more m.code p at next i (free p h) is_code plain (next_is at i next is_next)

  new_at : (passed : List ℕ) (at : ℕ) → AllFree passed at → Among at passed → ⊥
  new_at passed at free h = verified.turns n m at on.is_method (free at h)

  pub runs_within : (steps : ℕ) (passed : List ℕ) (f : Frame) (state : State) → FrameFits f → IsStateFor graph field state → AllFree passed f.at → Suffices (length m.code) f.turns passed steps
      → RunsRight state (run_within steps (setting_of graph calls field key gathered) m.code f state)
  unfolding run_within
  runs_within zero passed f state fits at free enough = absurd (suffices_some (length m.code) f.turns passed enough)
  runs_within (suc steps) passed f state fits at free enough =
      let typed = typed_at f fits in
      let s = setting_of graph calls field key gathered in
      let does = step graph m calls field key gathered typed.i f.at f.stack f.variables f.turns typed.after
      (verified.numbers n m f.at typed.i on.is_method typed.is_code) (on.allowed f.at typed.i fits.reached typed.is_code)
      (λ v h. fits.needed v (NeededHere f.at typed.i typed.is_code (reads_needed graph.tasks typed.i v h))) fits.room
      (λ spends. on.fits f.turns (fits.spent (verified.spends n f.at typed.i (code_at f typed.i typed.is_code) spends))) typed.takes in
      subst (λ (o : Option Instr). RunsRight state (machine.after (run_within steps s m.code) state (perform s o f))) (sym typed.is_code)
      (performed (run_within steps s m.code) f typed.i typed.after state (perform_on s typed.i f.stack f) fits typed.is_code at does
      (λ to other same stepped. by to other stepped same (true_or_not (is_turn typed.i)) (λ passed. runs_within steps passed to other)))
    where
      by : (to : Frame) (other : State) → StepTo m gathered (typed_at f fits).i f to (typed_at f fits).after → class_of other ≡ class_of state
          → ((is_turn (typed_at f fits).i ≡ true) ⊎ (is_turn (typed_at f fits).i ≡ true → ⊥))
          → ((passed : List ℕ) → FrameFits to → IsStateFor graph field other → AllFree passed to.at → Suffices (length m.code) to.turns passed steps
          → RunsRight other (run_within steps (setting_of graph calls field key gathered) m.code to other))
          → RunsRight other (run_within steps (setting_of graph calls field key gathered) m.code to other)
      by to other stepped same (inl turn) more =
          more [] (moved f to (typed_at f fits).i (typed_at f fits).after fits (typed_at f fits).is_code (typed_at f fits).leaves stepped) (state_stays state other same at) (λ p h. absurd h)
          (suffices_spent (length m.code) f.turns to.turns passed steps enough (stepped.spent turn))
      by to other stepped same (inr plain) more =
          more (f.at ∷ passed) (moved f to (typed_at f fits).i (typed_at f fits).after fits (typed_at f fits).is_code (typed_at f fits).leaves stepped) (state_stays state other same at)
          (free_next passed f.at to.at (typed_at f fits).i free (typed_at f fits).is_code (turn_is (typed_at f fits).i plain) stepped.next)
          (suffices_next (length m.code) f.turns to.turns passed f.at steps enough stepped.turns (get_within m.code f.at (typed_at f fits).i (typed_at f fits).is_code) (new_at passed f.at free))

  pub runs_right : (f : Frame) (state : State) → FrameFits f → IsStateFor graph field state → RunsRight state (run (setting_of graph calls field key gathered) m.code f state)
  runs_right f state fits at = runs_within (most_steps m.code f.turns) [] f state fits at (λ p h. absurd h) (suffices_at_first (length m.code) f.turns)
