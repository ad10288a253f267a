-- The small graph is verified.
use Rattle.std.proofs.Common.{◌≡◌, ◌≢◌, refl, sym, ap, subst, ◌∙◌, ℕ, zero, suc, ◌<◌, ◌≤◌, arith, Bool, true, false, List, [], ◌∷◌, length, All, Option, Some, None, codes, slice_get}
use Rattle.std.specs.List.{AllPass}
use Rattle.std.proofs.lemmas.Bool.{false≢true}
use Rattle.sdg_base.specs.declared.value_type.ValueType.TheVariants as type
use Rattle.state_classes.specs.declared.method.Method.TheVariants as method
use Rattle.flat_code.specs.declared.graph.GraphMethod.{GraphMethod}
use Rattle.flat_code.specs.declared.graph.MethodKind.TheVariants as method_kind
use Rattle.flat_code.specs.declared.graph.Task.{Task}
use Rattle.flat_code.specs.declared.graph.TaskKind.TheVariants as kind
use Rattle.flat_code.specs.declared.graph.Instr.{Instr}
use Rattle.flat_code.specs.declared.graph.Instr.TheVariants as instr
use Rattle.flat_code.specs.Ways.{IsIn, IsFirst, next_of, next_in_task, needs, Reaches, ReachesStart, ReachesNext, IsFree, One, More, IsNeeded, NeededHere, NeededLater}
use Rattle.flat_code.specs.Verified.{is_word_byte, IsIdentifier, AreNames, AreDistinct, IsMethod, IsTask, HasCode, NamesSomething, IsRightTask, HasStart, Stack, IsTypedAt, Begins, TaskBegins, MethodBegins, IsTypedMethod, IsOfBody, IsOfTask, ReachesCode, Calls, Direct, Gathering, Through, SpendsBefore, IsJumpTo, IsBehindTurn, IsVerified}
use Rattle.graph_safety.specs.Small.{small_field, small_code, small_method, small_start, small_keyed, small_graph}
use Rattle.graph_safety.proofs.Lists.{none_some, some_is}
use Rattle.graph_safety.proofs.Ways.{among, only_one}

-- ---- what holds of each method, task and instruction

each_method : (P : ℕ → GraphMethod → Type 0) → P 0 small_method → (n : ℕ) (m : GraphMethod) → IsMethod small_graph n m → P n m
each_method P h zero m e = subst (λ (o : GraphMethod). P 0 o) (some_is small_method m e) h
each_method P h (suc n) m e = absurd (none_some m e)

each_task : (P : ℕ → Task → Type 0) → P 0 small_start → P 1 small_keyed → (n : ℕ) (t : Task) → IsTask small_graph n t → P n t
each_task P h k zero t e = subst (λ (o : Task). P 0 o) (some_is small_start t e) h
each_task P h k (suc zero) t e = subst (λ (o : Task). P 1 o) (some_is small_keyed t e) k
each_task P h k (suc (suc n)) t e = absurd (none_some t e)

-- of the instructions by number
pub record Each (P : ℕ → Instr → Type 0) : Type 0 where
  pub load : P 0 (instr.Load 0)
  pub turn : P 1 instr.Turn
  pub cut : P 2 (instr.Cut 1)
  pub key : P 3 instr.Key
  pub access : P 4 (instr.Access (codes "t") method.Get)
  pub return : P 5 instr.Return

each_instruction : (P : ℕ → Instr → Type 0) → Each P → (at : ℕ) (i : Instr) → slice_get small_code at ≡ Some i → P at i
each_instruction P h zero i e = subst (λ (j : Instr). P 0 j) (some_is (instr.Load 0) i e) h.load
each_instruction P h (suc zero) i e = subst (λ (j : Instr). P 1 j) (some_is instr.Turn i e) h.turn
each_instruction P h (suc (suc zero)) i e = subst (λ (j : Instr). P 2 j) (some_is (instr.Cut 1) i e) h.cut
each_instruction P h (suc (suc (suc zero))) i e = subst (λ (j : Instr). P 3 j) (some_is instr.Key i e) h.key
each_instruction P h (suc (suc (suc (suc zero)))) i e = subst (λ (j : Instr). P 4 j) (some_is (instr.Access (codes "t") method.Get) i e) h.access
each_instruction P h (suc (suc (suc (suc (suc zero))))) i e = subst (λ (j : Instr). P 5 j) (some_is instr.Return i e) h.return
each_instruction P h (suc (suc (suc (suc (suc (suc at)))))) i e = absurd (none_some i e)

each_code : (P : ℕ → ℕ → Instr → Type 0) → Each (P 0) → (n at : ℕ) (i : Instr) → HasCode small_graph n at i → P n at i
each_code P h n at i has = each_method (λ k m. slice_get m.code at ≡ Some i → P k at i) (each_instruction (P 0) h at i) n has.of has.is_method has.is_code

the_method : (n : ℕ) (m : GraphMethod) → IsMethod small_graph n m → m ≡ small_method
the_method = each_method (λ n m. m ≡ small_method) refl

-- ---- names

letters : (name : List ℕ) → 0 < length name → AllPass is_word_byte name → IsIdentifier name → AreNames (name ∷ [])
letters name some each is = record { each = all; distinct = distinct }
  where
    all : All IsIdentifier (name ∷ [])
    all zero d h = is
    all (suc k) d h = absurd (omega arith)

    distinct : AreDistinct (name ∷ [])
    distinct zero zero n e h = refl
    distinct zero (suc j) n e h = absurd (none_some n h)
    distinct (suc i) j n e h = absurd (none_some n e)

t_bytes : AllPass is_word_byte (codes "t")
t_bytes zero d h = refl
t_bytes (suc k) d h = absurd (omega arith)

get_bytes : AllPass is_word_byte (codes "get")
get_bytes zero d h = refl
get_bytes (suc zero) d h = refl
get_bytes (suc (suc zero)) d h = refl
get_bytes (suc (suc (suc k))) d h = absurd (omega arith)

-- ---- ways

start_reaches : (at : ℕ) → Reaches small_code 0 at → at ≤ 2
start_reaches at ReachesStart = omega arith
start_reaches at (ReachesNext before next i reached is_code is_next) =
    each_instruction (λ n j. n ≤ 2 → IsIn next (next_in_task n j) → next ≤ 2)
    (record {
      load = λ h k. let e = only_one next 1 k in omega arith;
      turn = λ h k. let e = only_one next 2 k in omega arith;
      cut = λ h k. absurd (among next [] k);
      key = λ h k. absurd (omega arith);
      access = λ h k. absurd (omega arith);
      return = λ h k. absurd (omega arith);
    }) before i is_code (start_reaches before reached) is_next

keyed_reaches : (at : ℕ) → Reaches small_code 3 at → 3 ≤ at
keyed_reaches at ReachesStart = omega arith
keyed_reaches at (ReachesNext before next i reached is_code is_next) =
    each_instruction (λ n j. 3 ≤ n → IsIn next (next_in_task n j) → 3 ≤ next)
    (record {
      load = λ h k. absurd (omega arith);
      turn = λ h k. absurd (omega arith);
      cut = λ h k. absurd (omega arith);
      key = λ h k. let e = only_one next 4 k in omega arith;
      access = λ h k. let e = only_one next 5 k in omega arith;
      return = λ h k. absurd (among next [] k);
    }) before i is_code (keyed_reaches before reached) is_next

onward : (at next : ℕ) (i : Instr) → slice_get small_code at ≡ Some i → IsIn next (next_of at i) → at < next
onward at next i is_code is_next = each_instruction (λ n j. IsIn next (next_of n j) → n < next)
    (record {
      load = λ k. let e = only_one next 1 k in omega arith;
      turn = λ k. let e = only_one next 2 k in omega arith;
      cut = λ k. let e = only_one next 3 k in omega arith;
      key = λ k. let e = only_one next 4 k in omega arith;
      access = λ k. let e = only_one next 5 k in omega arith;
      return = λ k. absurd (among next [] k);
    }) at i is_code is_next

forward : (from to : ℕ) → IsFree small_code from to → from < to
forward from to (One at next i is_code plain is_next) = onward at next i is_code is_next
forward from to (More at next last i is_code plain is_next way) =
    let a = onward at next i is_code is_next in
    let b = forward next last way in
    omega arith

-- the one variable is needed where the start task begins, and nowhere else
needed_where : (v at : ℕ) → IsNeeded small_graph.tasks small_code v at → (v ≡ 0) × (at ≡ 0)
needed_where v at (NeededHere n i is_code is_in) = each_instruction (λ n j. IsIn v (needs small_graph.tasks j) → (v ≡ 0) × (n ≡ 0))
    (record {
      load = λ k. (only_one v 0 k, refl);
      turn = λ k. absurd (among v [] k);
      cut = λ k. absurd (among v [] k);
      key = λ k. absurd (among v [] k);
      access = λ k. absurd (among v [] k);
      return = λ k. absurd (among v [] k);
    }) n i is_code is_in
needed_where v at (NeededLater n next i is_code other is_next later) =
    let first = (needed_where v next later).1 in
    each_instruction (λ n j. IsIn next (next_in_task n j) → (v ≡ 0) × (n ≡ 0))
    (record {
      load = λ k. let e = only_one next 1 k in absurd (omega arith);
      turn = λ k. let e = only_one next 2 k in absurd (omega arith);
      cut = λ k. absurd (among next [] k);
      key = λ k. let e = only_one next 4 k in absurd (omega arith);
      access = λ k. let e = only_one next 5 k in absurd (omega arith);
      return = λ k. absurd (among next [] k);
    }) n i is_code is_next

abbrev is_call : Instr → Bool
is_call (instr.Call n) = true
is_call (instr.Merge n) = true
is_call _ = false

abbrev is_part : Instr → Bool
is_part (instr.Part n) = true
is_part _ = false

no_call : (n at : ℕ) (i : Instr) → HasCode small_graph n at i → is_call i ≡ false
no_call = each_code (λ n at i. is_call i ≡ false) (record { load = refl; turn = refl; cut = refl; key = refl; access = refl; return = refl })

no_part : (n at : ℕ) (i : Instr) → HasCode small_graph n at i → is_part i ≡ false
no_part = each_code (λ n at i. is_part i ≡ false) (record { load = refl; turn = refl; cut = refl; key = refl; access = refl; return = refl })

no_calls : (n k : ℕ) → Calls small_graph n k → ⊥
no_calls n k (Direct from to at has) = false≢true (sym (no_call from at (instr.Call to) has))
no_calls n k (Gathering from to at has) = false≢true (sym (no_call from at (instr.Merge to) has))
no_calls n k (Through from via to a b) = no_calls from via a

no_visits : (n : ℕ) (t : Task) → IsTask small_graph n t → t.kind ≢ kind.Visit
no_visits = each_task (λ n t. t.kind ≢ kind.Visit) (λ e. absurd (cc)) (λ e. absurd (cc))

entries : (n : ℕ) (m : GraphMethod) → IsMethod small_graph n m → m.kind ≡ method_kind.Entry
entries = each_method (λ n m. m.kind ≡ method_kind.Entry) refl

-- ---- types

abbrev small_stacks : ℕ → Option Stack
small_stacks zero = Some []
small_stacks (suc zero) = Some (type.Long ∷ [])
small_stacks (suc (suc zero)) = Some (type.Long ∷ [])
small_stacks (suc (suc (suc zero))) = Some []
small_stacks (suc (suc (suc (suc zero)))) = Some (type.Long ∷ [])
small_stacks (suc (suc (suc (suc (suc zero))))) = Some (type.Long ∷ [])
small_stacks (suc (suc (suc (suc (suc (suc at)))))) = None

leads_on : (from to : ℕ) (after : Stack) → small_stacks to ≡ Some after → (next : ℕ) → IsIn next (to ∷ []) → small_stacks next ≡ Some after
leads_on from to after e next h = ap small_stacks (only_one next to h) ∙ e

small_typed : (at : ℕ) (stack : Stack) → small_stacks at ≡ Some stack → IsTypedAt small_graph small_method small_stacks at stack
small_typed zero stack e = subst (λ (s : Stack). IsTypedAt small_graph small_method small_stacks 0 s) (some_is [] stack e)
    (record { i = instr.Load 0; is_code = refl; after = type.Long ∷ []; takes = refl; leaves = leads_on 0 1 (type.Long ∷ []) refl })
small_typed (suc zero) stack e = subst (λ (s : Stack). IsTypedAt small_graph small_method small_stacks 1 s) (some_is (type.Long ∷ []) stack e)
    (record { i = instr.Turn; is_code = refl; after = type.Long ∷ []; takes = refl; leaves = leads_on 1 2 (type.Long ∷ []) refl })
small_typed (suc (suc zero)) stack e = subst (λ (s : Stack). IsTypedAt small_graph small_method small_stacks 2 s) (some_is (type.Long ∷ []) stack e)
    (record { i = instr.Cut 1; is_code = refl; after = []; takes = refl; leaves = λ next h. absurd (among next [] h) })
small_typed (suc (suc (suc zero))) stack e = subst (λ (s : Stack). IsTypedAt small_graph small_method small_stacks 3 s) (some_is [] stack e)
    (record { i = instr.Key; is_code = refl; after = type.Long ∷ []; takes = refl; leaves = leads_on 3 4 (type.Long ∷ []) refl })
small_typed (suc (suc (suc (suc zero)))) stack e = subst (λ (s : Stack). IsTypedAt small_graph small_method small_stacks 4 s) (some_is (type.Long ∷ []) stack e)
    (record { i = instr.Access (codes "t") method.Get; is_code = refl; after = type.Long ∷ []; takes = refl; leaves = leads_on 4 5 (type.Long ∷ []) refl })
small_typed (suc (suc (suc (suc (suc zero))))) stack e = subst (λ (s : Stack). IsTypedAt small_graph small_method small_stacks 5 s) (some_is (type.Long ∷ []) stack e)
    (record { i = instr.Return; is_code = refl; after = []; takes = refl; leaves = λ next h. absurd (among next [] h) })
small_typed (suc (suc (suc (suc (suc (suc at)))))) stack e = absurd (none_some stack e)

begin_empty : (n at : ℕ) (m : GraphMethod) → IsMethod small_graph n m → Begins small_graph n m at → small_stacks at ≡ Some []
begin_empty n at m is (TaskBegins k t is_task e) = each_task (λ k t. small_stacks t.at ≡ Some []) refl refl k t is_task
begin_empty n at m is (MethodBegins other) = absurd (other (entries n m is))

typed_method : (n : ℕ) (m : GraphMethod) → IsMethod small_graph n m → IsTypedMethod small_graph n m
typed_method n m is = record {
  stacks = small_stacks;
  starts = λ at begins. begin_empty n at m is begins;
  typed = λ at stack e. subst (λ (o : GraphMethod). IsTypedAt small_graph o small_stacks at stack) (sym (the_method n m is)) (small_typed at stack e);
}

-- ---- tasks

first_variable : All (λ (v : ℕ). v < length small_method.vars) (0 ∷ [])
first_variable zero d h = omega arith
first_variable (suc k) d h = absurd (omega arith)

no_variable : All (λ (v : ℕ). v < length small_method.vars) []
no_variable k d h = absurd (omega arith)

cut_at : (at : ℕ) (i : Instr) → slice_get small_code at ≡ Some i → i ≡ instr.Cut 1 → at ≡ 2
cut_at = each_instruction (λ n j. j ≡ instr.Cut 1 → n ≡ 2)
    (record { load = λ e. absurd (cc); turn = λ e. absurd (cc); cut = λ e. refl; key = λ e. absurd (cc); access = λ e. absurd (cc); return = λ e. absurd (cc) })

only_cut : (n at : ℕ) → HasCode small_graph n at (instr.Cut 1) → (n ≡ 0) × (at ≡ 2)
only_cut n at has = each_method (λ k m. slice_get m.code at ≡ Some (instr.Cut 1) → (k ≡ 0) × (at ≡ 2)) (λ e. (refl, cut_at at (instr.Cut 1) e refl)) n has.of has.is_method has.is_code

right_tasks : (n : ℕ) (t : Task) → IsTask small_graph n t → IsRightTask small_graph n t
right_tasks = each_task (λ n t. IsRightTask small_graph n t)
    (record { of = small_method; is_method = refl; is_entry = refl; variables = first_variable; stands = record { first = refl; parameters = refl; no_field = refl } })
    (record {
      of = small_method;
      is_method = refl;
      is_entry = refl;
      variables = no_variable;
      stands = (
        record { before = 2; behind = refl; named = record { of = small_method; is_method = refl; is_code = refl }; only = only_cut },
        record { name = codes "t"; is_name = refl; of = small_field; is_field = refl; is_kind = refl },
      );
    })

small_start_of : (n : ℕ) (m : GraphMethod) → IsMethod small_graph n m → HasStart small_graph n
small_start_of = each_method (λ n m. HasStart small_graph n)
    (record {
      number = 0;
      of = small_start;
      is_task = refl;
      is_start = refl;
      of_method = refl;
      only = each_task (λ n t. t.kind ≡ kind.Start → t.method ≡ 0 → n ≡ 0) (λ e h. refl) (λ e h. absurd (cc));
    })

numbers : (at : ℕ) (i : Instr) → slice_get small_code at ≡ Some i → NamesSomething small_graph small_method i
numbers = each_instruction (λ at i. NamesSomething small_graph small_method i)
    (record { load = omega arith; turn = tt; cut = record { of = small_keyed; is_task = refl; is_kind = tt }; key = tt; access = record { of = _; is_signature = refl }; return = tt })

-- what the tasks come to
code_there : (t : Task) (at : ℕ) (i : Instr) → t.method ≡ 0 → ReachesCode small_graph t at i → Reaches small_code t.at at × (slice_get small_code at ≡ Some i)
code_there t at i zeroth r =
    let same = the_method t.method r.of r.is_method in
    (subst (λ (m : GraphMethod). Reaches m.code t.at at) same r.reaches, subst (λ (m : GraphMethod). slice_get m.code at ≡ Some i) same r.is_code)

start_allows : (at : ℕ) (i : Instr) → slice_get small_code at ≡ Some i → at ≤ 2 → IsOfTask small_graph small_start i
start_allows = each_instruction (λ n j. n ≤ 2 → IsOfTask small_graph small_start j)
    (record { load = λ h. tt; turn = λ h. tt; cut = λ h e. absurd (cc); key = λ h. absurd (omega arith); access = λ h. absurd (omega arith); return = λ h. absurd (omega arith) })

keyed_allows : (at : ℕ) (i : Instr) → slice_get small_code at ≡ Some i → 3 ≤ at → IsOfTask small_graph small_keyed i
keyed_allows = each_instruction (λ n j. 3 ≤ n → IsOfTask small_graph small_keyed j)
    (record { load = λ h. tt; turn = λ h. tt; cut = λ h. absurd (omega arith); key = λ h. refl; access = λ h. refl; return = λ h e. absurd (cc) })

in_tasks : (n : ℕ) (t : Task) (at : ℕ) (i : Instr) → IsTask small_graph n t → ReachesCode small_graph t at i → IsOfTask small_graph t i
in_tasks n t at i is = each_task (λ n t. ReachesCode small_graph t at i → IsOfTask small_graph t i)
    (λ r. let c = code_there small_start at i refl r in start_allows at i c.1 (start_reaches at c.0))
    (λ r. let c = code_there small_keyed at i refl r in keyed_allows at i c.1 (keyed_reaches at c.0))
    n t is

needs_carried : (n : ℕ) (t : Task) (m : GraphMethod) (v : ℕ) → IsTask small_graph n t → IsMethod small_graph t.method m → IsNeeded small_graph.tasks m.code v t.at → IsIn v t.vars
needs_carried n t m v is_task is_method needed =
    each_task (λ n t. IsNeeded small_graph.tasks small_code v t.at → IsIn v t.vars)
    (λ h. subst (λ (w : ℕ). IsIn w (0 ∷ [])) (sym (needed_where v 0 h).0) (IsFirst []))
    (λ h. let e = (needed_where v 3 h).1 in absurd (omega arith))
    n t is_task (subst (λ (o : GraphMethod). IsNeeded small_graph.tasks o.code v t.at) (the_method t.method m is_method) needed)

part_reached : (n : ℕ) (t : Task) (at join : ℕ) → ReachesCode small_graph t at (instr.Part join) → ⊥
part_reached n t at join r = false≢true (sym (no_part t.method at (instr.Part join) (record { of = r.of; is_method = r.is_method; is_code = r.is_code })))

-- the cut stands behind the turn
no_jump_to : (at n other : ℕ) (i : Instr) → HasCode small_graph n other i → IsJumpTo at i → ⊥
no_jump_to at = each_code (λ n other i. IsJumpTo at i → ⊥) (record { load = λ h. h; turn = λ h. h; cut = λ h. h; key = λ h. h; access = λ h. h; return = λ h. h })

behind_turn : IsBehindTurn small_graph 0 2
behind_turn = record {
  before = 1;
  only = record { behind = refl; no_jump = λ other i has h. no_jump_to 2 0 other i has h; no_start = each_task (λ n t. t.method ≡ 0 → t.at ≢ 2) (λ h e. absurd (omega arith)) (λ h e. absurd (omega arith)) };
  turn = record { of = small_method; is_method = refl; is_code = refl };
}

spends : (n at : ℕ) (i : Instr) → HasCode small_graph n at i → SpendsBefore i → IsBehindTurn small_graph n at
spends n at i has = each_method (λ k m. slice_get m.code at ≡ Some i → SpendsBefore i → IsBehindTurn small_graph k at)
    (each_instruction (λ at i. SpendsBefore i → IsBehindTurn small_graph 0 at)
    (record { load = λ h. absurd h; turn = λ h. absurd h; cut = λ h. behind_turn; key = λ h. absurd h; access = λ h. absurd h; return = λ h. absurd h }) at i)
    n has.of has.is_method has.is_code

pub small_is_verified : IsVerified small_graph
small_is_verified = record {
  few_fields = omega arith;
  few_methods = omega arith;
  field_names = letters (codes "t") (omega arith) t_bytes (record { not_empty = omega arith; each = t_bytes; first = refl });
  method_names = letters (codes "get") (omega arith) get_bytes (record { not_empty = omega arith; each = get_bytes; first = refl });
  parameters = each_method (λ n m. m.params ≤ length m.vars) (omega arith);
  numbers = λ n m at i is is_code. each_method (λ n m. slice_get m.code at ≡ Some i → NamesSomething small_graph m i) (numbers at i) n m is is_code;
  tasks = right_tasks;
  starts = λ n m is entry. small_start_of n m is;
  types = typed_method;
  bodies = λ n m at i is is_code. each_method (λ n m. slice_get m.code at ≡ Some i → IsOfBody m.kind i)
      (each_instruction (λ at i. IsOfBody method_kind.Entry i) (record { load = refl; turn = refl; cut = refl; key = refl; access = refl; return = refl }) at i) n m is is_code;
  in_tasks = in_tasks;
  parts = λ n t is visit. absurd (no_visits n t is visit);
  one_visit_a_part = λ n k join t u at other is also visit others h g. absurd (no_visits n t is visit);
  no_cycle = λ n h. no_calls n n h;
  variables = needs_carried;
  helpers = λ n m v is other needed. absurd (other (entries n m is));
  joins = λ n join at t u v is r also h. absurd (part_reached n t at join r);
  turns = λ n m at is way. let h = forward at at (subst (λ (o : GraphMethod). IsFree o.code at at) (the_method n m is) way) in omega arith;
  spends = spends;
  accesses = λ n at part has. absurd (false≢true (sym (no_part n at (instr.Part part) has)));
}
