-- The start of a body: locals that may be read before their text are set as the source sets them.
use mathlib.Core.Path.{transport}
use Rattle.std.proofs.Common.{◌≡◌, ◌≢◌, ◌≤◌, ◌<◌, refl, sym, ap, subst, ◌∙◌, ℕ, zero, suc, ◌+◌, pos, arith, Bool, true, false, cond, ◌&&◌, ◌||◌, nat_eq, List, [], ◌∷◌, ◌++◌, map, length, Option, Some, None, slice_get, slice_set, inl, inr, ◌⊎◌, length-append}
use Rattle.std.specs.List.{AllByRecursion, flat_map}
use Rattle.std.proofs.lemmas.Bool.{false≢true, lt-ltb}
use Rattle.sdg_base.specs.declared.val.Val.{Val}
use Rattle.sdg_base.specs.declared.val.Val.TheVariants as val
use Rattle.sdg_base.specs.declared.value_type.ValueType.{ValueType}
use Rattle.sdg_base.specs.declared.value_type.ValueType.TheVariants as type
use Rattle.sdg_base.specs.Signatures.{Signature}
use Rattle.sdg_base.specs.Types as values
use Rattle.state_classes.specs.States.{State}
use Rattle.java_tree.specs.declared.types.ValueType.{ValueType as VariableType}
use Rattle.java_tree.specs.declared.types.ValueType.TheVariants as variable
use Rattle.flat_code.specs.declared.graph.Instr.{Instr}
use Rattle.flat_code.specs.declared.graph.Instr.TheVariants as instr
use Rattle.flat_code.specs.Machine.{Setting, Goes}
use Rattle.access_blocks.specs.declared.body.Access.{Access}
use Rattle.access_blocks.specs.declared.body.Body.{Body}
use Rattle.access_blocks.specs.declared.body.Target.{Target}
use Rattle.access_blocks.specs.declared.body.Target.TheVariants as target
use Rattle.access_blocks.specs.declared.body.Statement.{Statement, roll-Statement}
use Rattle.access_blocks.specs.declared.body.Statement.TheOpen.{Statement-F}
use Rattle.access_blocks.specs.declared.body.Statement.TheOpen as s
use Rattle.access_blocks.specs.declared.body.Statement.TheFolds.{fold-roll-Statement, ind-Statement, map-Statement}
use Rattle.access_blocks.specs.Calls.{start_value}
use Rattle.body_code.specs.Typing.{Context, type_by, one_type, type_of, needs, needs_of_all, variable_type, variable_type_in}
use Rattle.body_code.specs.Early.{Assigned, with_reads, key_reads, is_in, if_early, early_after, assigned_step, assigned_in, to_target, all_of}
use Rattle.body_code.specs.ClassCode.{var_type_by, start_code, start_of, set_at_start}
use Rattle.body_code.specs.Checking.{Surroundings, Standing, Around, Checking, with_known, is_type, met, takes, checked_step, checked, checked_list}
use Rattle.body_code.specs.Checking as checking
use Rattle.code_meaning.specs.Laid.{IsLaid, frame, Leads}
use Rattle.code_meaning.specs.Evaluating.{HasSame}
use Rattle.code_meaning.proofs.Lists.{none_some, some_is, get_within, get_set, get_set_other, length_set, same_or_not}
use Rattle.code_meaning.proofs.Running.{laid_parts, one_step, stays, leads_on, leads_to}
use Rattle.code_meaning.proofs.Growing.{next_is, if_so_is, if_then}
use Rattle.code_meaning.proofs.Agreeing.{is_type_is, in_more}
use Rattle.code_meaning.proofs.Plain.{opened_is, met_is, compound_is}
use Rattle.code_meaning.proofs.Foreseen.{passing_is}

-- ---- what is assigned is typed

pub record HasType (c : Context) (v : ℕ) : Type 0 where
  pub type : ValueType
  pub is : variable_type c v ≡ Some type

abbrev TypedIn : Surroundings → Checking → List Assigned → Type 0
TypedIn around check all = (loop : Around) (st end : Standing) → check loop st ≡ Some end → AllByRecursion (λ (a : Assigned). HasType around.context a.variable) all

both_typed : (P : Assigned → Type 0) (xs ys : List Assigned) → AllByRecursion P xs → AllByRecursion P ys → AllByRecursion P (xs ++ ys)
both_typed P [] ys hx hy = hy
both_typed P (x ∷ xs) ys hx hy = (hx.0, both_typed P xs ys hx.1 hy)

-- Where more is read, the same is assigned.
reads_typed : (P : Assigned → Type 0) → ((a b : Assigned) → a.variable ≡ b.variable → P a → P b) → (reads : List ℕ) (xs : List Assigned) → AllByRecursion P xs → AllByRecursion P (map (with_reads reads) xs)
reads_typed P keep reads [] h = tt
reads_typed P keep reads (x ∷ xs) h = (keep x (with_reads reads x) refl h.0, reads_typed P keep reads xs h.1)

to_typed : (around : Surroundings) (v : ℕ) (t : ValueType) (st end : Standing) → checking.to_variable around v t st ≡ Some end → HasType around.context v
to_typed around v t st end is = record { type = t; is = is_type_is (variable_type around.context v) t (if_so_is (is_type (variable_type around.context v) t) (with_known v st) end is).0 }

assigned_typed : (around : Surroundings) (v : ℕ) (o : Option ValueType) (b : Bool) (st end : Standing) → checking.assigned around v o b st ≡ Some end → HasType around.context v
assigned_typed around v None b st end is = absurd (none_some end is)
assigned_typed around v (Some t) b st end is = to_typed around v t st end (if_then b (checking.to_variable around v t st) end is).1

target_typed : (around : Surroundings) (to : Target) (reads : List ℕ) (t : ValueType) (st end : Standing) → checking.targeted around to t st ≡ Some end → AllByRecursion (λ (a : Assigned). HasType around.context a.variable) (to_target to reads)
target_typed around target.Dropped reads t st end is = tt
target_typed around (target.Variable v) reads t st end is = (to_typed around v t st end is, tt)
target_typed around target.Returned reads t st end is = tt

access_typed : (around : Surroundings) (a : Access) (o : Option Signature) (st end : Standing) → checking.access around a o st ≡ Some end
    → AllByRecursion (λ (x : Assigned). HasType around.context x.variable) (to_target a.target (needs_of_all a.args).variables)
access_typed around a None st end is = absurd (none_some end is)
access_typed around a (Some sig) st end is = target_typed around a.target (needs_of_all a.args).variables sig.result st end (if_then (checking.is_access around a sig st) (checking.targeted around a.target sig.result st) end is).1

module _ (around : Surroundings) where
  abbrev Is : Assigned → Type 0
  Is a = HasType around.context a.variable

  abbrev IsRight : Statement → Type 0
  IsRight x = TypedIn around (checked around x) (assigned_in x)

  abbrev Part : Type 0
  Part = (x : Statement) × IsRight x

  abbrev bare : Statement-F Part → Statement-F Statement
  bare = map-Statement Part Statement (λ x. x.0)

  abbrev checks : Statement-F Statement → Statement-F Checking
  checks = map-Statement Statement Checking (checked around)

  abbrev assigns : Statement-F Statement → Statement-F (List Assigned)
  assigns = map-Statement Statement (List Assigned) assigned_in

  abbrev LayerRight : Statement-F Statement → Type 0
  LayerRight y = TypedIn around (checked_step around (checks y)) (assigned_step (assigns y))

  list_right : (xs : List Part) → TypedIn around (checked_list around (map (λ (x : Part). x.0) xs)) (all_of (map assigned_in (map (λ (x : Part). x.0) xs)))
  list_right [] loop st end checked_is = tt
  list_right (x ∷ xs) loop st end checked_is =
      let n = next_is (checked_list around (map (λ (y : Part). y.0) xs) loop) (checked around x.0 loop st) end checked_is in
      both_typed Is (assigned_in x.0) (all_of (map assigned_in (map (λ (y : Part). y.0) xs))) (x.1 loop st n.0 n.1) (list_right xs loop n.0 end n.2)

  layer_right : (y : Statement-F Part) → LayerRight (bare y)
  layer_right (s.Assign v x) loop st end is = (assigned_typed around v (type_of around.context x) (checking.are_met around st (needs x)) st end is, tt)
  layer_right (s.Access a) loop st end is = access_typed around a (checking.signature_of around a.field a.method) st end is
  layer_right (s.Marked mark body) loop st end is =
      reads_typed Is (λ a b same h. subst (HasType around.context) same h) (key_reads mark.key) (assigned_in body.0)
      (body.1 loop (checking.in_block mark.field st) end
      (if_then (checking.is_entry around.kind && checking.is_key_of around st (slice_get around.fields mark.field) mark.key) (checked around body.0 loop (checking.in_block mark.field st)) end is).1)
  layer_right (s.Opened body) loop st end is = let k = opened_is st (checked around body.0 loop (checking.outside st)) end is in body.1 loop (checking.outside st) k.0 k.1
  layer_right (s.Block items) loop st end is =
      let k = compound_is st (checked_list around (map (λ (x : Part). x.0) items) loop st) end is in list_right items loop st k.0 k.1
  layer_right (s.If test first None) loop st end is =
      let l = met_is st (checked around first.0 loop st) (Some st) end (if_then (takes around st test type.Boolean) (met st (checked around first.0 loop st) (Some st)) end is).1 in
      both_typed Is (assigned_in first.0) [] (first.1 loop st l.0 l.2) tt
  layer_right (s.If test first (Some second)) loop st end is =
      let l = met_is st (checked around first.0 loop st) (checked around second.0 loop st) end (if_then (takes around st test type.Boolean) (met st (checked around first.0 loop st) (checked around second.0 loop st)) end is).1 in
      both_typed Is (assigned_in first.0) (assigned_in second.0) (first.1 loop st l.0 l.2) (second.1 loop st l.1 l.3)
  layer_right (s.Loop start test update body) loop st end is =
      let ss = map (λ (x : Part). x.0) start in
      let us = map (λ (x : Part). x.0) update in
      let n = next_is (checking.passing around st test (map (checked around) us) (checked around body.0)) (checked_list around ss None st) end is in
      let q = passing_is around st n.0 end test (checked_list around us) (checked around body.0) n.2 in
      both_typed Is (all_of (map assigned_in ss)) (all_of (map assigned_in us) ++ assigned_in body.0) (list_right start None st n.0 n.1)
      (both_typed Is (all_of (map assigned_in us)) (assigned_in body.0) (list_right update None n.0 q.1.0 q.1.1) (body.1 (Some n.0) n.0 q.0.0 q.0.1))
  layer_right _ loop st end is = tt

  made_right : (x : Statement-F Statement) (y : Statement-F Part) → bare y ≡ x → IsRight (roll-Statement x)
  made_right x y is =
      let c = fold-roll-Statement Checking (checked_step around) x in
      let a = fold-roll-Statement (List Assigned) assigned_step x in
      let whole : IsRight (roll-Statement x) ≡ LayerRight x = λ i. TypedIn around (c i) (a i) in
      transport (sym whole) (subst LayerRight is (layer_right y))

  statement_typed : (x : Statement) → IsRight x
  statement_typed = ind-Statement IsRight made_right

  pub list_typed : (xs : List Statement) → TypedIn around (checked_list around xs) (all_of (map assigned_in xs))
  list_typed [] loop st end checked_is = tt
  list_typed (x ∷ xs) loop st end checked_is =
      let n = next_is (checked_list around xs loop) (checked around x loop st) end checked_is in
      both_typed Is (assigned_in x) (all_of (map assigned_in xs)) (statement_typed x loop st n.0 n.1) (list_typed xs loop n.0 end n.2)

-- ---- which variables are set early: typed ones that are no parameters

pub record IsEarly (c : Context) (seen : List ℕ) (v : ℕ) : Type 0 where
  pub typed : HasType c v
  pub unseen : is_in v seen ≡ false

less_seen : (v w : ℕ) (seen : List ℕ) → is_in v (w ∷ seen) ≡ false → is_in v seen ≡ false
less_seen v w seen is = by (nat_eq v w) is
  where
    by : (b : Bool) → (b || is_in v seen) ≡ false → is_in v seen ≡ false
    by true is = absurd (false≢true (sym is))
    by false is = is

all_less : (c : Context) (w : ℕ) (seen vs : List ℕ) → AllByRecursion (IsEarly c (w ∷ seen)) vs → AllByRecursion (IsEarly c seen) vs
all_less c w seen [] h = tt
all_less c w seen (v ∷ vs) h = (record { typed = h.0.typed; unseen = less_seen v w seen h.0.unseen }, all_less c w seen vs h.1)

pub early_typed : (c : Context) (seen : List ℕ) (all : List Assigned) → AllByRecursion (λ (a : Assigned). HasType c a.variable) all → AllByRecursion (IsEarly c seen) (early_after seen all)
early_typed c seen [] h = tt
early_typed c seen (a ∷ others) h = by (is_in a.variable seen) refl (early_typed c seen others h.1) (all_less c a.variable seen (early_after (a.variable ∷ seen) others) (early_typed c (a.variable ∷ seen) others h.1))
  where
    first : (b : Bool) → is_in a.variable seen ≡ false → AllByRecursion (IsEarly c seen) (early_after (a.variable ∷ seen) others) → AllByRecursion (IsEarly c seen) (cond b (a.variable ∷ early_after (a.variable ∷ seen) others) (early_after (a.variable ∷ seen) others))
    first true unseen more = (record { typed = h.0; unseen = unseen }, more)
    first false unseen more = more

    by : (b : Bool) → is_in a.variable seen ≡ b → AllByRecursion (IsEarly c seen) (early_after seen others) → AllByRecursion (IsEarly c seen) (early_after (a.variable ∷ seen) others)
        → AllByRecursion (IsEarly c seen) (cond b (early_after seen others) (if_early a (early_after (a.variable ∷ seen) others)))
    by true is same more = same
    by false is same more = first (is_in a.variable a.reads) is more

-- ---- the code that sets them

one_there : (variables : List VariableType) (v : ℕ) (o : Option VariableType) (t : ValueType) → slice_get variables v ≡ o → one_type o ≡ Some t → (k : VariableType) × (slice_get variables v ≡ Some k) × (type_by k ≡ t)
one_there variables v None t is e = absurd (none_some t e)
one_there variables v (Some k) t is e = (k, is, some_is (type_by k) t e)

pub in_there : (members : Option ValueType) (variables : List VariableType) (v : ℕ) (t : ValueType) → variable_type_in members variables v ≡ Some t → (k : VariableType) × (slice_get variables v ≡ Some k) × (type_by k ≡ t)
in_there None variables v t is = one_there variables v (slice_get variables v) t refl is
in_there (Some m) variables zero t is = absurd (none_some t is)
in_there (Some m) variables (suc v) t is = one_there variables (suc v) (slice_get variables (suc v)) t refl is

pub start_type : (k : VariableType) → values.type_of (start_value k) ≡ type_by k
start_type variable.Int = refl
start_type variable.Long = refl
start_type variable.Boolean = refl
start_type variable.Vector = refl

module _ (s : Setting) (code : List Instr) (c : Context) (there : List Val) where
  pushes : {variables : List Val} {state : State} (k : VariableType) (at turns : ℕ) → IsLaid code at (start_code (var_type_by k))
      → Leads s code (length (start_code (var_type_by k))) (frame at [] variables turns) state (frame (at + length (start_code (var_type_by k))) (start_value k ∷ []) variables turns) state
  pushes variable.Int at turns laid = let e : suc at ≡ at + 1 = omega arith in leads_to s code e (one_step s code (instr.Int (pos 0)) laid.0 refl (omega arith))
  pushes variable.Long at turns laid = let e : suc at ≡ at + 1 = omega arith in leads_to s code e (one_step s code (instr.Long (pos 0)) laid.0 refl (omega arith))
  pushes variable.Boolean at turns laid = let e : suc at ≡ at + 1 = omega arith in leads_to s code e (one_step s code (instr.Bool false) laid.0 refl (omega arith))
  pushes {variables} {state} variable.Vector at turns laid =
      let e : suc (suc at) ≡ at + 2 = omega arith in
      let first : Leads s code 1 (frame at [] variables turns) state (frame (suc at) (val.Int (pos 0) ∷ []) variables turns) state = one_step s code (instr.Int (pos 0)) laid.0 refl (omega arith) in
      let second : Leads s code 1 (frame (suc at) (val.Int (pos 0) ∷ []) variables turns) state (frame (suc (suc at)) (val.Vector [] ∷ []) variables turns) state = one_step s code instr.NewVector laid.1.0 refl (omega arith) in
      leads_to s code e (leads_on s code first second)

  -- a list of variables, each set as it is there
  pub record IsSet (size : ℕ) (at turns : ℕ) (before : List Val) (state : State) (vs : List ℕ) : Type 0 where
    pub variables : List Val
    pub leads : Leads s code size (frame at [] before turns) state (frame (at + size) [] variables turns) state
    pub as_many : length variables ≡ length before
    pub keeps : (w : ℕ) → HasSame c before there w → HasSame c variables there w
    pub sets : (w : ℕ) → is_in w vs ≡ true → HasSame c variables there w

  -- a variable that starts as its type says
  pub record StartsThere (v : ℕ) : Type 0 where
    pub type : VariableType
    pub is_variable : variable_type c v ≡ Some (type_by type)
    pub in_body : slice_get c.variables v ≡ Some type
    pub is_there : slice_get there v ≡ Some (start_value type)

  kept : (v w : ℕ) (x : Val) (before : List Val) → HasSame c (slice_set before v x) there v → HasSame c before there w → (w ≡ v) ⊎ (w ≢ v) → HasSame c (slice_set before v x) there w
  kept v w x before here z (inl e) = subst (HasSame c (slice_set before v x) there) (sym e) here
  kept v w x before here z (inr other) =
      record { type = z.type; value = z.value; is_type = z.is_type; has_type = z.has_type; is_here = get_set_other before v w x other ∙ z.is_here; is_there = z.is_there }

  found : {n at turns : ℕ} {state : State} (v w : ℕ) (vs : List ℕ) (now : List Val) (more : IsSet n at turns now state vs) → (w ≡ v) ⊎ (is_in w vs ≡ true) → HasSame c now there v → HasSame c more.variables there w
  found v w vs now more (inl e) here = more.keeps w (subst (HasSame c now there) (sym e) here)
  found v w vs now more (inr is) here = more.sets w is

  pub sets_all : (b : Body) → b.variables ≡ c.variables → (vs : List ℕ) (at turns : ℕ) (before : List Val) (state : State) → AllByRecursion StartsThere vs → length c.variables ≤ length before → IsLaid code at (flat_map (set_at_start b) vs)
      → IsSet (length (flat_map (set_at_start b) vs)) at turns before state vs
  sets_all b same [] at turns before state h room laid = record {
    variables = before;
    leads = (let e : at ≡ at + 0 = omega arith in leads_to s code e (stays s code));
    as_many = refl;
    keeps = λ w k. k;
    sets = λ w is. absurd (false≢true is);
  }
  sets_all b same (v ∷ vs) at turns before state h room laid =
      let k = h.0 in
      let x : Val = start_value k.type in
      let within : v < length before = (let w = get_within c.variables v k.type k.in_body in omega arith) in
      let start : List Instr = start_code (var_type_by k.type) in
      let is_start : set_at_start b v ≡ start ++ instr.Store v ∷ [] = ap (λ o. start_of o ++ instr.Store v ∷ []) (ap (λ l. slice_get l v) same ∙ k.in_body) in
      let rest : List Instr = flat_map (set_at_start b) vs in
      let outer = laid_parts code at (set_at_start b v) rest laid in
      let head : IsLaid code at (start ++ instr.Store v ∷ []) = subst (IsLaid code at) is_start outer.0 in
      let inner = laid_parts code at start (instr.Store v ∷ []) head in
      let size : length (set_at_start b v) ≡ length start + 1 = ap length is_start ∙ length-append start (instr.Store v ∷ []) in
      let e : suc (at + length start) ≡ at + length (set_at_start b v) = omega arith in
      let now : List Val = slice_set before v x in
      let store : Leads s code 1 (frame (at + length start) (x ∷ []) before turns) state (frame (at + length (set_at_start b v)) [] now turns) state =
      leads_to s code e (one_step s code (instr.Store v) inner.1.0 (ap (λ z. cond z (Some (Goes (frame (suc (at + length start)) [] now turns))) None) (lt-ltb v (length before) within)) (omega arith)) in
      let first : Leads s code (length start + 1) (frame at [] before turns) state (frame (at + length (set_at_start b v)) [] now turns) state = leads_on s code (pushes k.type at turns inner.0) store in
      let less : length c.variables ≤ length now = subst (λ n. length c.variables ≤ n) (sym (length_set before v x)) room in
      let more : IsSet (length rest) (at + length (set_at_start b v)) turns now state vs = sets_all b same vs (at + length (set_at_start b v)) turns now state h.1 less outer.1 in
      let whole : length (set_at_start b v ++ rest) ≡ length start + 1 + length rest = length-append (set_at_start b v) rest ∙ ap (λ n. n + length rest) size in
      let e2 : at + length (set_at_start b v) + length rest ≡ at + (length start + 1 + length rest) = omega arith in
      let here : HasSame c now there v = record { type = type_by k.type; value = x; is_type = k.is_variable; has_type = start_type k.type; is_here = get_set before v x within; is_there = k.is_there } in
      let one : (w : ℕ) → HasSame c before there w → HasSame c now there w = λ w z. kept v w x before here z (same_or_not w v) in
      record {
        variables = more.variables;
        leads = subst (λ n. Leads s code n (frame at [] before turns) state (frame (at + n) [] more.variables turns) state) (sym whole) (leads_to s code e2 (leads_on s code first more.leads));
        as_many = more.as_many ∙ length_set before v x;
        keeps = λ w z. more.keeps w (one w z);
        sets = λ w is. found v w vs now more (in_more w v vs is) here;
      }
