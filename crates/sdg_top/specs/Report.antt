-- The report of a run, as bytes.
use Rattle.std.specs.Prelude.{ℕ, Some, None, unwrap_or, List, [], ◌∷◌, ◌++◌, length, slice_get, codes, decimal}
use Rattle.std.specs.List.{flat_map, enumerate_from}
use Rattle.placement.specs.declared.Header.{Header}
use Rattle.placement.specs.declared.Word.{Word}
use Rattle.sdg_base.specs.declared.call.Step.{Step}
use Rattle.sdg_base.specs.declared.call.Step.TheVariants.{Begin, Block, Visit, Join, Grow}
use Rattle.sdg_base.specs.declared.val.Outcome.{Outcome}
use Rattle.sdg_top.specs.Texts.{line, word_text, outcome_text}

unfoldable pub header_line : Header → List ℕ
header_line header =
    line (codes "sdg nodes" ∷ decimal header.nodes ∷ codes "slots" ∷ decimal header.slots
    ∷ codes "stores" ∷ decimal header.stores ∷ codes "width" ∷ decimal header.width ∷ [])

-- the number of an event and its word
unfoldable pub event_line : ℕ × Word → List ℕ
event_line event = line (codes "event" ∷ decimal event.0 ∷ word_text event.1 ∷ [])

-- a node whose restore failed in the drain, and the word
unfoldable pub drain_line : ℕ × Word → List ℕ
drain_line failure = line (codes "drain" ∷ decimal failure.0 ∷ word_text failure.1 ∷ [])

-- a call and how it ended
unfoldable pub result_line : ℕ × Outcome → List ℕ
result_line result = line (codes "result" ∷ decimal result.0 ∷ outcome_text result.1 ∷ [])

-- the name of a field by its number, and no bytes past the last field
abbrev pub field_name : List (List ℕ) → ℕ → List ℕ
field_name fields field = unwrap_or (slice_get fields field) []

-- a step, where fields are the names of the fields
unfoldable pub step_line : List (List ℕ) → Step → List ℕ
step_line fields (Begin call) = line (codes "step begin" ∷ decimal call ∷ [])
step_line fields (Block call None) = line (codes "step block" ∷ decimal call ∷ [])
step_line fields (Block call (Some instance)) = line (codes "step block" ∷ decimal call ∷ decimal instance ∷ [])
step_line fields (Visit call instance) = line (codes "step visit" ∷ decimal call ∷ decimal instance ∷ [])
step_line fields (Join call) = line (codes "step join" ∷ decimal call ∷ [])
step_line fields (Grow field) = line (codes "step grow" ∷ field_name fields field ∷ [])

-- a call without a result
unfoldable pub unfinished_line : ℕ → List ℕ
unfinished_line call = line (codes "unfinished" ∷ decimal call ∷ [])

unfoldable pub end_line : ℕ → ℕ → ℕ → List ℕ
end_line results steps kept =
    line (codes "end" ∷ decimal results ∷ codes "results," ∷ decimal steps ∷ codes "steps," ∷ decimal kept ∷ codes "kept" ∷ [])

-- The header; the words of the events, numbered from 1; the restores that failed in the drain; the
-- results in the order in which they were committed; the history; the calls without a result; and
-- how many results, steps and kept items there are.
unfoldable pub report_text : Header → List (List ℕ) → List Word → List (ℕ × Word) → List (ℕ × Outcome) → List Step → List ℕ → ℕ → List ℕ
report_text header fields words drained results history unfinished kept =
    header_line header
    ++ flat_map event_line (enumerate_from 1 words)
    ++ flat_map drain_line drained
    ++ flat_map result_line results
    ++ flat_map (step_line fields) history
    ++ flat_map unfinished_line unfinished
    ++ end_line (length results) (length history) kept
