-- A number that no call has.
use Rattle.std.specs.Prelude.{◌≡◌, ℕ, List, None}
use Rattle.access_blocks.specs.Source as source

abbrev pub IsNoCall : List source.CallState → ℕ → Type 0
IsNoCall calls call = (source.nth calls call ≡ None) × ((state : source.CallState) → source.with_call call state calls ≡ calls)
