-- What histories in which calls don't interleave give.
use Rattle.std.specs.Prelude.{◌≡◌, List, ◌++◌, length}
use Rattle.sdg_base.specs.declared.val.Outcome.{Outcome}
use Rattle.sdg_base.specs.declared.call.Call.{Call}
use Rattle.sdg_base.specs.declared.call.Step.{Step}
use Rattle.java_tree.specs.declared.tree.Class.{Class}
use Rattle.early_source.specs.Source.{Explains, numbered}
use Rattle.early_source.specs.Serial.{IsSerial}
use Rattle.early_plain.specs.Plain.{ArePlain}

-- Where calls don't interleave, the steps of the annotated source give the first calls, which have ended, the outcomes that plain
-- Java gives them, whatever becomes of the calls beyond.
abbrev pub FirstArePlain : Type 0
FirstArePlain =
    (class : Class) (calls beyond : List Call) (history : List Step) (outcomes : List Outcome)
    → IsSerial history
    → length outcomes ≡ length calls
    → Explains class (calls ++ beyond) history (numbered 1 outcomes)
    → ArePlain class calls outcomes

-- The same where all calls have ended.
abbrev pub SerialIsPlain : Type 0
SerialIsPlain =
    (class : Class) (calls : List Call) (history : List Step) (outcomes : List Outcome)
    → IsSerial history
    → length outcomes ≡ length calls
    → Explains class calls history (numbered 1 outcomes)
    → ArePlain class calls outcomes
