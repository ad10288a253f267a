-- The calls of which each stands for another, by number.
use Rattle.std.proofs.Common.{◌≡◌, ℕ, zero, suc, List, map, refl}
use Rattle.std.specs.Option.{option_map}
use Rattle.std.proofs.lemmas.Option.{slice_get-map}
use Rattle.access_blocks.specs.Source.{nth}
use Rattle.source_run.specs.declared.call_state.CallState.{CallState as Kept}
use Rattle.source_run.specs.Seen.{state_of}

pub nth_mapped : (calls : List Kept) (call : ℕ) → nth (map state_of calls) call ≡ option_map state_of (nth calls call)
nth_mapped calls zero = refl
nth_mapped calls (suc place) = slice_get-map state_of calls place
