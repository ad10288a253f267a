-- What histories in which calls don't interleave give.
use Rattle.std.specs.Prelude.{◌≡◌, ℕ, ◌+◌, false, List, [], ◌∷◌, ◌++◌, All, Some}
use Rattle.sdg_base.specs.declared.val.Outcome.{Outcome}
use Rattle.sdg_base.specs.declared.call.Call.{Call}
use Rattle.sdg_base.specs.declared.call.Step.{Step}
use Rattle.access_blocks.specs.declared.body.Program.{Program}
use Rattle.access_blocks.specs.Serial.{IsSerial}
use Rattle.access_blocks.specs.Source.{Source, source_at_start, Follows, outcome_of_call}
use Rattle.plain_java.specs.Plain.{plain}

-- The calls from a number on, one after the other, have ended with these outcomes.
abbrev pub HaveEnded : Source → ℕ → List Call → List Outcome → Type 0
HaveEnded end c [] [] = Unit {0}
HaveEnded end c (call ∷ calls) (o ∷ outcomes) = (outcome_of_call end c ≡ Some o) × HaveEnded end (c + 1) calls outcomes
HaveEnded end c _ _ = ⊥

-- Where no field is partial and calls don't interleave, a legal history gives the first calls, which have ended, the outcomes of
-- plain Java, whatever becomes of the calls beyond.
abbrev pub SerialIsPlain : Type 0
SerialIsPlain =
    (program : Program) (calls beyond : List Call) (width : ℕ) (history : List Step) (end : Source) (outcomes : List Outcome)
    → All (λ h. h.is_partial ≡ false) program.fields
    → IsSerial history
    → Follows program (calls ++ beyond) (source_at_start program (calls ++ beyond) width) history end
    → HaveEnded end 1 calls outcomes
    → outcomes ≡ plain program calls
