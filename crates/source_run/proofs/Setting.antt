-- Where a call stands is taken, and set again.
use Rattle.std.proofs.Common.{◌≡◌, ℕ, suc, ◌<◌, ◌≤◌, List, map, length, slice_set, get_or, unwrap_or, refl, set-set}
use Rattle.std.proofs.lemmas.List.{length-map, map-set, set_past}
use Rattle.std.proofs.lemmas.Option.{slice_get_past, slice_get_read}
use Rattle.access_blocks.specs.Source as source
use Rattle.source_run.specs.declared.call_state.CallState.{CallState}
use Rattle.source_run.specs.Calling.{IsNoCall}
use Rattle.source_run.specs.Seen.{state_of}
use Rattle.source_run.proofs.Counting.{nth_mapped}

past : (calls : List source.CallState) (place : ℕ) → length calls ≤ place → IsNoCall calls (suc place)
past calls place h = (slice_get_past calls place h, λ state. set_past calls place state h)

pub no_call : (calls : List CallState) (call place : ℕ) → call ≡ suc place → length calls ≤ place → IsNoCall (map state_of calls) call
no_call calls call place is h = rw is (past (map state_of calls) place (rw length-map h))

pub set_there : (calls : List CallState) (call place : ℕ) (state : CallState) → call ≡ suc place
    → map state_of (slice_set calls place state) ≡ source.with_call call (state_of state) (map state_of calls)
set_there calls call place state is = rw is (map-set state_of calls place state)

pub taken : (calls : List CallState) (call place : ℕ) (old : CallState) → call ≡ suc place → place < length calls → old ≡ get_or calls place old
    → state_of old ≡ unwrap_or (source.nth (map state_of calls) call) source.Fresh
taken calls call place old is within found = rw (is, nth_mapped, slice_get_read calls (length calls) place old refl within found) refl

pub set_again : (calls : List CallState) (call place : ℕ) (kept : CallState) → call ≡ suc place → (state : source.CallState)
    → source.with_call call state (map state_of (slice_set calls place kept)) ≡ source.with_call call state (map state_of calls)
set_again calls call place kept is state = rw (is, map-set) (set-set (map state_of calls) place (state_of kept) state)
