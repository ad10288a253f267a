-- What `plain` and `replay` write, as bytes.
use Rattle.std.specs.Prelude.{ℕ, List, [], ◌∷◌, ◌++◌, length, codes, decimal}
use Rattle.std.specs.List.{flat_map, enumerate_from}
use Rattle.sdg_base.specs.declared.val.Outcome.{Outcome}
use Rattle.sdg_top.specs.Report.{result_line}
use Rattle.sdg_top.specs.Texts.{line}

unfoldable pub plain_end_line : ℕ → List ℕ
plain_end_line results = line (codes "end" ∷ decimal results ∷ codes "results" ∷ [])

-- how each call ended, by its number from 1 on, and how many there are
unfoldable pub plain_text : List Outcome → List ℕ
plain_text outcomes = flat_map result_line (enumerate_from 1 outcomes) ++ plain_end_line (length outcomes)

unfoldable pub replay_end_line : ℕ → ℕ → List ℕ
replay_end_line results steps = line (codes "end" ∷ decimal results ∷ codes "results," ∷ decimal steps ∷ codes "steps" ∷ [])

-- how calls ended, in the order in which they did, how many did, and how many steps there are
unfoldable pub replay_text : List (ℕ × Outcome) → ℕ → List ℕ
replay_text results steps = flat_map result_line results ++ replay_end_line (length results) steps
