-- A small class, by hand: counters by key in two slots, and a counter that is partial. A call adds one to the counter of a key, adds one to some
-- instance, or reads every instance and gives the sum.
use Rattle.std.specs.Prelude.{◌≡◌, ℕ, ℤ, pos, zero, suc, ◌+◌, ◌%◌, ◌==◌, ◌&&◌, nat_lt, unsigned_abs, Bool, if◌then◌else◌, List, [], ◌∷◌, ◌++◌, Option, Some, None, true, replicate, IsSome}
use Rattle.std.specs.Ordering.{int_eq}
use Rattle.sdg_base.specs.declared.val.Val.{Val}
use Rattle.sdg_base.specs.declared.val.Val.TheVariants as val
use Rattle.sdg_base.specs.declared.val.Outcome.{Outcome}
use Rattle.sdg_base.specs.declared.val.Outcome.TheVariants as outcome
use Rattle.sdg_base.specs.declared.call.Call.{Call}
use Rattle.sdg_base.specs.declared.call.Step.{Step}
use Rattle.sdg_base.specs.declared.call.Step.TheVariants as step
use Rattle.sdg_base.specs.declared.port.Port.{Port}
use Rattle.sdg_base.specs.declared.port.Port.TheVariants as port
use Rattle.sdg_base.specs.declared.item.Item.{Item}
use Rattle.sdg_base.specs.declared.item.Item.TheVariants as item
use Rattle.tagged_agreement.specs.Machine.{Out, Send, Broadcast, ToJoin, Result, Wait, Ignore, Ran, Parts, Machine, Taken}
use Rattle.tagged_agreement.specs.History.{Setup, Happening, Took, Grew, wider, Follows, HappensAfter, IsHistory, now_of, steps_of}
use Rattle.tagged_agreement.specs.Source.{Site, Keyed, Local, Global, AtMark, AtEnd, Program, Source, all_there, source, outcome}
use Rattle.tagged_agreement.specs.Simulation.{Piece, OfKey, OfInstance, Reading, Simulates}
use Rattle.tagged_agreement.specs.Laws.{IsGiven, Falls}

-- ---- what a call is for

pub data Wish : Type 0 where
  ToPut : ℤ → Wish
  ToAdd : Wish
  ToRead : Wish

abbrev pub key_in : List Val → ℤ
key_in (val.Long key ∷ args) = key
key_in args = pos 0

-- method 0 puts, method 1 adds, and the others read
abbrev pub wish : ℕ → List Val → Wish
wish zero args = ToPut (key_in args)
wish (suc zero) args = ToAdd
wish (suc (suc n)) args = ToRead

-- ---- counters by piece

abbrev pub Counts : Type 0
Counts = Piece → ℕ

abbrev pub same_piece : Piece → Piece → Bool
same_piece (OfKey f k) (OfKey g l) = f == g && int_eq k l
same_piece (OfInstance f n) (OfInstance g m) = f == g && n == m
same_piece _ _ = nat_lt 1 0

-- one more in one place
abbrev pub bumped : Piece → Counts → Counts
bumped piece counts q = if same_piece q piece then counts q + 1 else counts q

abbrev pub count : ℕ → Outcome
count n = outcome.Value (val.Int (pos n))

abbrev pub counted : Outcome → ℕ
counted (outcome.Value (val.Int (pos n))) = n
counted _ = 0

abbrev pub sum_of : List Outcome → ℕ
sum_of [] = 0
sum_of (o ∷ os) = counted o + sum_of os

abbrev pub nothing : Outcome
nothing = outcome.Value val.Unit

-- ---- the source

pub record Counters : Type 0 where
  pub widths : ℕ → ℕ
  pub counts : Counts

-- the piece that a block changes
abbrev pub changed : Wish → Option ℕ → Piece
changed (ToPut key) instance = OfKey 0 key
changed w None = OfInstance 1 0
changed w (Some number) = OfInstance 1 number

abbrev pub site_of : Wish → Site
site_of (ToPut key) = Keyed 0 key
site_of ToAdd = Local 1
site_of ToRead = Global 1

abbrev pub program : Program Wish Counters
program =
    record {
      first = record { widths = λ _. 2; counts = λ _. 0 };
      width = λ fields. fields.widths;
      is_partial = λ field. field == 1;
      begun = λ call. AtMark (wish call.method call.args);
      site = site_of;
      block = λ w instance fields. (AtEnd nothing, record { widths = fields.widths; counts = bumped (changed w instance) fields.counts });
      visit = λ w number fields. (count (fields.counts (OfInstance 1 number)), fields);
      joined = λ w outcomes. AtEnd (count (sum_of outcomes));
      grown = λ field fields. record { widths = λ f. wider field fields.widths f; counts = fields.counts };
    }

-- ---- the machine

-- even keys and odd ones
abbrev pub slot_of : ℤ → ℕ
slot_of key = unsigned_abs key % 2

-- an add goes to the instance that the pick is of, modulo the width
abbrev pub started : ℕ → Wish → ℕ → (ℕ → ℕ) → Out
started c (ToPut key) pick widths = Send (port.Slot 0 (slot_of key)) (item.Work c 0 (Some key) 0 [])
started c ToAdd pick widths = Send (port.Inst 1 (pick % widths 1)) (item.Work c 1 None 0 [])
started c ToRead pick widths = Broadcast 1 (widths 1) (item.Visit c 2 (widths 1) 0 [])

-- what the parts so far say, by instance, with one that comes
abbrev pub value_in : Option Item → Option Outcome
value_in (Some (item.Part c t width instance turns vars value)) = Some value
value_in _ = None

abbrev pub answer_of : Parts → ℕ → Outcome → ℕ → Option Outcome
answer_of parts number value k = if k == number then Some value else value_in (parts k)

abbrev pub answers : Parts → ℕ → Outcome → ℕ → ℕ → List (Option Outcome)
answers parts number value k zero = []
answers parts number value k (suc left) = answer_of parts number value k ∷ answers parts number value (suc k) left

-- it collects what there is below the width, and counts nothing
abbrev pub collected : ℕ → Option (List Outcome) → Out
collected c None = Wait
collected c (Some outcomes) = Result (item.Done c (count (sum_of outcomes)))

abbrev pub runs : Port → Item → Parts → Counts → ℕ → (ℕ → ℕ) → Ran Counts
runs port.Front (item.Start c method args) parts counts pick widths = record { out = started c (wish method args) pick widths; state = counts }
runs port.Join (item.Part c t width number turns vars value) parts counts pick widths = record { out = collected c (all_there (answers parts number value 0 width)); state = counts }
runs (port.Slot field at) (item.Work c t (Some key) turns vars) parts counts pick widths = record { out = Result (item.Done c nothing); state = bumped (OfKey field key) counts }
runs (port.Inst field number) (item.Work c t key turns vars) parts counts pick widths = record { out = Result (item.Done c nothing); state = bumped (OfInstance field number) counts }
runs (port.Inst field number) (item.Visit c t width turns vars) parts counts pick widths =
    record { out = ToJoin (item.Part c t width number turns vars (count (counts (OfInstance field number)))); state = counts }
runs to x parts counts pick widths = record { out = Ignore; state = counts }

abbrev pub machine : Machine Counts
machine = record { first = λ _ _. 0; runs = runs }

abbrev pub setup : List Call → Setup Counts
setup calls = record { machine = machine; calls = calls; is_partial = λ field. field == 1; width = 2; slot_of = slot_of }

abbrev pub reading : Reading Counts Counters ℕ
reading = record { held = λ counts piece. counts piece; value = λ fields piece. fields.counts piece; is_kind = λ _ _. true; is_whole = λ _. true }

-- work on a key carries that key
abbrev pub Agrees : Item → Wish → Type 0
Agrees (item.Work c t key turns vars) (ToPut k) = key ≡ Some k
Agrees x w = Unit {0}

-- ---- a history

-- an add, a read, another add, and a put of key 7
abbrev pub four_calls : List Call
four_calls =
    record { method = 1; args = [] }
    ∷ record { method = 2; args = [] }
    ∷ record { method = 1; args = [] }
    ∷ record { method = 0; args = val.Long (pos 7) ∷ [] }
    ∷ []

abbrev pub two : ℕ → ℕ
two _ = 2

abbrev pub three : ℕ → ℕ
three f = wider 1 two f

abbrev pub entry : Port → Port → ℕ → ℕ → ℕ → (ℕ → ℕ) → ℕ → Item → Taken
entry cell from number pick growths widths at x =
    record { cell = cell; from = from; number = number; pick = pick; growths = growths; step = at; widths = widths; item = x }

abbrev pub visit_of : ℕ → Item
visit_of c = item.Visit c 2 2 0 []

abbrev pub part_for : ℕ → ℕ → ℕ → Item
part_for c number n = item.Part c 2 2 number 0 [] (count n)

-- The first add goes to instance 0. The read is broadcast to two instances, and then the field grows. The second add has the same pick, and goes to
-- the instance that was grown.
abbrev pub opening : List Happening
opening =
    Took (entry port.Front port.Caller 1 2 0 two 1 (item.Start 1 1 []))
    ∷ Took (entry port.Front port.Caller 2 0 0 two 2 (item.Start 2 2 []))
    ∷ Grew 1 1 3
    ∷ Took (entry port.Front port.Caller 3 2 1 three 4 (item.Start 3 1 []))
    ∷ []

-- instance 1 is visited, and its part waits
abbrev pub middle : List Happening
middle =
    Took (entry (port.Inst 1 1) port.Front 1 0 1 three 5 (visit_of 2))
    ∷ Took (entry port.Join (port.Inst 1 1) 1 0 1 three 6 (part_for 2 1 0))
    ∷ []

-- Both adds run, and the put in a slot; then instance 0 is visited, and its part is the last.
abbrev pub ending : List Happening
ending =
    Took (entry (port.Inst 1 2) port.Front 1 0 1 three 7 (item.Work 3 1 None 0 []))
    ∷ Took (entry port.Front port.Caller 4 0 1 three 8 (item.Start 4 0 (val.Long (pos 7) ∷ [])))
    ∷ Took (entry (port.Inst 1 0) port.Front 1 0 1 three 9 (item.Work 1 1 None 0 []))
    ∷ Took (entry (port.Slot 0 1) port.Front 1 0 1 three 10 (item.Work 4 0 (Some (pos 7)) 0 []))
    ∷ Took (entry (port.Inst 1 0) port.Front 2 0 1 three 11 (visit_of 2))
    ∷ Took (entry port.Join (port.Inst 1 0) 1 0 1 three 12 (part_for 2 0 1))
    ∷ []

abbrev pub history : List Happening
history = opening ++ middle ++ ending

-- the part that waits shows nothing
abbrev pub steps : List Step
steps =
    step.Begin 1
    ∷ step.Begin 2
    ∷ step.Grow 1
    ∷ step.Begin 3
    ∷ step.Visit 2 1
    ∷ step.Block 3 (Some 2)
    ∷ step.Begin 4
    ∷ step.Block 1 (Some 0)
    ∷ step.Block 4 None
    ∷ step.Visit 2 0
    ∷ step.Join 2
    ∷ []

-- ---- what it is to show

-- The machine does what the program does, and a call passes one mark at most.
pub record ExampleSimulates : Type 0 where
  pub simulates : (calls : List Call) → Simulates (setup calls) program reading Agrees
  pub falls : Falls program (λ _. 0) 1

-- It is a history, with these steps and these results; stepped so, the source ends the calls with the same outcomes.
pub record ExampleRuns : Type 0 where
  pub is_history : IsHistory (setup four_calls) history
  pub shows : steps_of (setup four_calls) history ≡ steps
  pub first_add : IsGiven (setup four_calls) history (port.Inst 1 0) 0 (item.Done 1 nothing)
  pub read : IsGiven (setup four_calls) history port.Join 0 (item.Done 2 (count 1))
  pub second_add : IsGiven (setup four_calls) history (port.Inst 1 2) 0 (item.Done 3 nothing)
  pub put : IsGiven (setup four_calls) history (port.Slot 0 1) 0 (item.Done 4 nothing)
  pub end : Source Wish Counters
  pub legal : source program four_calls steps ≡ Some end
  pub reads_one : outcome end 2 ≡ Some (count 1)
  pub grown_counts : end.fields.counts (OfInstance 1 2) ≡ 1

-- an entry that can be in no history after these happenings
abbrev pub CannotFollow : List Happening → Port → Port → Item → Type 0
CannotFollow hist cell from x = (number pick growths at : ℕ) (widths : ℕ → ℕ) → Follows (now_of (setup four_calls) hist) (entry cell from number pick growths widths at x) → ⊥

-- the steps up to the first visit
abbrev pub first_steps : List Step
first_steps = step.Begin 1 ∷ step.Begin 2 ∷ step.Grow 1 ∷ step.Begin 3 ∷ step.Visit 2 1 ∷ []

-- a growth that can be in no history after these happenings
abbrev pub CannotGrow : List Happening → ℕ → Type 0
CannotGrow hist field = (number at : ℕ) → HappensAfter (setup four_calls) (now_of (setup four_calls) hist) (Grew number field at) → ⊥

-- so many growths
abbrev pub growths_from : ℕ → ℕ → List Happening
growths_from n zero = []
growths_from n (suc left) = Grew n 1 n ∷ growths_from (n + 1) left

-- Wrong histories are none, and the source refuses the steps that they would show.
pub record ExampleRefuses : Type 0 where
  -- a visit of the instance that was grown after the broadcast
  pub grown_visit : CannotFollow opening (port.Inst 1 2) port.Front (visit_of 2)
  pub grown_visit_step : source program four_calls (first_steps ++ step.Visit 2 2 ∷ []) ≡ None
  -- an add by its pick modulo the width before the growth
  pub wrong_width : CannotFollow opening (port.Inst 1 0) port.Front (item.Work 3 1 None 0 [])
  -- a part that is counted twice
  pub second_part : CannotFollow (opening ++ middle) port.Join (port.Inst 1 1) (part_for 2 1 0)
  pub second_visit : CannotFollow (opening ++ middle) (port.Inst 1 1) port.Front (visit_of 2)
  pub second_visit_step : source program four_calls (first_steps ++ step.Visit 2 1 ∷ []) ≡ None
  -- a join before the last part
  pub shows_no_join : steps_of (setup four_calls) (opening ++ middle) ≡ first_steps
  pub early_join_step : source program four_calls (first_steps ++ step.Join 2 ∷ []) ≡ None
  -- a result before it is there
  pub no_result_yet : (how : Outcome) → IsGiven (setup four_calls) (opening ++ middle) port.Join 0 (item.Done 2 how) → ⊥
  -- a call that begins twice
  pub second_begin : CannotFollow opening port.Front port.Caller (item.Start 1 1 [])
  pub second_begin_step : source program four_calls (first_steps ++ step.Begin 1 ∷ []) ≡ None
  -- a block at a site that isn't local
  pub block_of_read : source program four_calls (first_steps ++ step.Block 2 (Some 0) ∷ []) ≡ None
  -- a block on an instance that isn't there
  pub block_beyond : source program four_calls (first_steps ++ step.Block 3 (Some 3) ∷ []) ≡ None
  -- a growth past 64 instances, and one of a field that isn't partial
  pub full : CannotGrow (growths_from 1 62) 1
  pub last_growth_step : IsSome (source program four_calls (replicate 62 (step.Grow 1)))
  pub full_step : source program four_calls (replicate 63 (step.Grow 1)) ≡ None
  pub not_partial : CannotGrow [] 0
  pub not_partial_step : source program four_calls (step.Grow 0 ∷ []) ≡ None
