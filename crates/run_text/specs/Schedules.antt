-- A text of a schedule: its header and its events, and which rules a line can break.
use Rattle.std.specs.Prelude.{◌≡◌, ◌≢◌, ℕ, ◌+◌, ◌<◌, ◌≤◌, false, List, [], ◌∷◌, ◌++◌, length, take, Some, slice_get, unwrap_or, codes, decimal, All}
use Rattle.std.specs.List.{AllZip}
use Rattle.sdg_base.specs.declared.port.Port.{Port as PortOf}
use Rattle.sdg_base.specs.declared.port.Port.TheVariants as port
use Rattle.placement.specs.declared.event.Header.{Header as HeaderOf}
use Rattle.placement.specs.declared.event.Event.{Event as EventOf}
use Rattle.placement.specs.declared.event.Event.TheVariants as event
use Rattle.placement.specs.declared.event.Schedule.{Schedule}
use Rattle.placement.specs.Defaults.{default_header}
use Rattle.placement.specs.Ports.{IsCellAmong, IsSenderAmong}
use Rattle.run_text.specs.declared.error.TextError.{TextError}
use Rattle.run_text.specs.declared.error.TextError.TheVariants as t
use Rattle.run_text.specs.declared.error.ScheduleRule.{ScheduleRule}
use Rattle.run_text.specs.declared.error.ScheduleRule.TheVariants.{Spelling, Header, Event, Port, Number, Limit}
use Rattle.run_text.specs.Lines.{is_skipped, said_lines, words, IsWellSpelled}
use Rattle.run_text.specs.Numbers.{IsNumber}

abbrev pub Words : Type 0
Words = List (List ℕ)

-- ---- the header

-- four words, each behind what it counts
abbrev pub form_words : List ℕ → List ℕ → List ℕ → List ℕ → Words
form_words nodes slots stores width = codes "sdg" ∷ codes "nodes" ∷ nodes ∷ codes "slots" ∷ slots ∷ codes "stores" ∷ stores ∷ codes "width" ∷ width ∷ []

abbrev pub header_words : HeaderOf → Words
header_words h = form_words (decimal h.nodes) (decimal h.slots) (decimal h.stores) (decimal h.width)

-- 1 to 32 nodes, one slot of each field today, 1 to 8 stores, a width from 1 to 64
pub record IsInRange (h : HeaderOf) : Type 0 where
  pub some_nodes : 1 ≤ h.nodes
  pub most_nodes : h.nodes ≤ 32
  pub one_slot : h.slots ≡ 1
  pub some_stores : 1 ≤ h.stores
  pub most_stores : h.stores ≤ 8
  pub some_width : 1 ≤ h.width
  pub most_width : h.width ≤ 64

-- the line is this header
pub record IsHeaderLine (line : List ℕ) (h : HeaderOf) : Type 0 where
  pub spelled : IsWellSpelled line
  pub range : IsInRange h
  pub words : words line ≡ header_words h

-- ---- events

abbrev pub port_text : Words → PortOf → List ℕ
port_text fields port.Caller = codes "caller"
port_text fields port.Sink = codes "sink"
port_text fields port.Front = codes "in"
port_text fields port.Join = codes "join"
port_text fields (port.Slot field slot) = unwrap_or (slice_get fields field) [] ++ (codes "/" ++ decimal slot)
port_text fields (port.Inst field number) = unwrap_or (slice_get fields field) [] ++ (codes "#" ++ decimal number)

abbrev pub take_words : List ℕ → List ℕ → List ℕ → Words
take_words to from pick = codes "take" ∷ to ∷ from ∷ pick ∷ []

abbrev pub sink_words : List ℕ → Words
sink_words from = codes "sink" ∷ from ∷ []

abbrev pub event_words : Words → EventOf → Words
event_words fields (event.Take to from pick) = take_words (port_text fields to) (port_text fields from) (decimal pick)
event_words fields (event.Sink from) = sink_words (port_text fields from)

-- a take by a cell from a cell or the caller with a pick below 64, or a commit of a cell's result
abbrev pub Fits : ℕ → ℕ → EventOf → Type 0
Fits fields slots (event.Take to from pick) = IsCellAmong fields slots to × IsSenderAmong fields slots from × (pick < 64)
Fits fields slots (event.Sink from) = IsCellAmong fields slots from

-- A slot's field is the first of its name: in a class no two have one name, and where two had, the first would count.
abbrev pub HasFirstField : Words → PortOf → Type 0
HasFirstField fields (port.Slot field slot) = All (λ other. other ≢ unwrap_or (slice_get fields field) []) (take field fields)
HasFirstField fields p = Unit {0}

abbrev pub HasFirstFields : Words → EventOf → Type 0
HasFirstFields fields (event.Take to from pick) = HasFirstField fields to × HasFirstField fields from
HasFirstFields fields (event.Sink from) = HasFirstField fields from

-- the line is this event
pub record IsEventLine (fields : Words) (slots : ℕ) (line : List ℕ) (e : EventOf) : Type 0 where
  pub spelled : IsWellSpelled line
  pub fits : Fits (length fields) slots e
  pub first : HasFirstFields fields e
  pub words : words line ≡ event_words fields e

-- ---- a schedule

-- the first line is the header and each other an event; no lines are the default header alone
abbrev pub AreOf : Words → Words → Schedule → Type 0
AreOf fields [] schedule = (schedule.header ≡ default_header) × (schedule.events ≡ [])
AreOf fields (first ∷ rest) schedule = IsHeaderLine first schedule.header × AllZip (IsEventLine fields schedule.header.slots) rest schedule.events

-- The schedule of the lines that aren't skipped.
pub record IsSchedule (fields ls : Words) (schedule : Schedule) : Type 0 where
  pub lines : AreOf fields (said_lines ls) schedule
  pub few : length schedule.events ≤ 1000000

-- ---- rules

-- the number of a rule in a report
abbrev pub rule_number : ScheduleRule → ℕ
rule_number Spelling = 1
rule_number Header = 2
rule_number Event = 3
rule_number Port = 4
rule_number Number = 5
rule_number Limit = 7

-- the nine words of a header with four numbers of any size
pub record IsHeaderForm (ws : Words) : Type 0 where
  pub nodes : List ℕ
  pub slots : List ℕ
  pub stores : List ℕ
  pub width : List ℕ
  pub words : ws ≡ form_words nodes slots stores width
  pub nodes_number : IsNumber nodes
  pub slots_number : IsNumber slots
  pub stores_number : IsNumber stores
  pub width_number : IsNumber width

-- a known event's word and as many words as it has
pub data IsEventForm (ws : Words) : Type 0 where
  TakeForm : (to from pick : List ℕ) → ws ≡ take_words to from pick → IsEventForm ws
  SinkForm : (from : List ℕ) → ws ≡ sink_words from → IsEventForm ws

abbrev pub IsNoCell : Words → ℕ → List ℕ → Type 0
IsNoCell fields slots word = (p : PortOf) → IsCellAmong (length fields) slots p → port_text fields p ≢ word

abbrev pub IsNoSender : Words → ℕ → List ℕ → Type 0
IsNoSender fields slots word = (p : PortOf) → IsSenderAmong (length fields) slots p → port_text fields p ≢ word

-- a port that such fields with so many slots each can't have
pub data HasStrangePort (fields : Words) (slots : ℕ) (ws : Words) : Type 0 where
  StrangeReceiver : (to from pick : List ℕ) → ws ≡ take_words to from pick → IsNoCell fields slots to → HasStrangePort fields slots ws
  StrangeSender : (to from pick : List ℕ) → ws ≡ take_words to from pick → IsNoSender fields slots from → HasStrangePort fields slots ws
  StrangeResult : (from : List ℕ) → ws ≡ sink_words from → IsNoCell fields slots from → HasStrangePort fields slots ws

-- a pick that is no number below 64
pub record HasNoPick (ws : Words) : Type 0 where
  pub to : List ℕ
  pub from : List ℕ
  pub pick : List ℕ
  pub words : ws ≡ take_words to from pick
  pub none : (n : ℕ) → n < 64 → decimal n ≢ pick

-- the first line that isn't skipped has to be a header in range
abbrev pub FirstBreaks : List ℕ → ScheduleRule → Type 0
FirstBreaks line Spelling = ¬ IsWellSpelled line
FirstBreaks line Header = (h : HeaderOf) → IsInRange h → words line ≢ header_words h
FirstBreaks line _ = ⊥

-- each line behind it an event, where there are so many slots and so many events before
abbrev pub LaterBreaks : Words → ℕ → ℕ → List ℕ → ScheduleRule → Type 0
LaterBreaks fields slots before line Spelling = ¬ IsWellSpelled line
LaterBreaks fields slots before line Header = IsHeaderForm (words line)
LaterBreaks fields slots before line Event = ¬ IsEventForm (words line)
LaterBreaks fields slots before line Port = HasStrangePort fields slots (words line)
LaterBreaks fields slots before line Number = HasNoPick (words line)
LaterBreaks fields slots before line Limit = 1000000 ≤ before

-- a line behind these lines breaks a rule
abbrev pub Breaks : Words → Words → List ℕ → ScheduleRule → Type 0
Breaks fields [] line rule = FirstBreaks line rule
Breaks fields (first ∷ events) line rule = (header : HeaderOf) × IsHeaderLine first header × LaterBreaks fields header.slots (length events) line rule

-- The line at this place, from 0, breaks a rule. Skipped lines break none.
pub record BreaksAt (fields ls : Words) (place : ℕ) (rule : ScheduleRule) : Type 0 where
  pub line : List ℕ
  pub here : slice_get ls place ≡ Some line
  pub said : is_skipped line ≡ false
  pub broken : Breaks fields (said_lines (take place ls)) line rule

-- The first line that breaks a rule has this number, from 1, and the least rule that it breaks has this number.
pub record IsFirstScheduleBreak (fields ls : Words) (number rule : ℕ) : Type 0 where
  pub place : ℕ
  pub which : ScheduleRule
  pub number_is : number ≡ place + 1
  pub rule_is : rule ≡ rule_number which
  pub broken : BreaksAt fields ls place which
  pub least : (other : ScheduleRule) → rule_number other < rule → ¬ BreaksAt fields ls place other
  pub first : (earlier : ℕ) (other : ScheduleRule) → earlier < place → ¬ BreaksAt fields ls earlier other

-- a text was refused by the first line that breaks a rule
abbrev pub IsScheduleRefusal : Words → Words → TextError → Type 0
IsScheduleRefusal fields ls t.Memory = Unit {0}
IsScheduleRefusal fields ls (t.Bad line rule) = IsFirstScheduleBreak fields ls line rule
