-- The mark of a port where one is written or joined at the end.
use Rattle.std.proofs.Common.{◌≡◌, ◌≢◌, ℕ, List, [], ◌∷◌, ◌++◌, get_or, Option, Some, None, refl, ap}
use Rattle.std.proofs.Math.ListN.{set}
use Rattle.std.specs.List.{position}
use Rattle.std.specs.Option.{option_map_or}
use Rattle.sdg_base.specs.declared.port.Port.{Port}
use Rattle.channels.specs.declared.mark.Mark.{Mark}
use Rattle.channels.specs.Marks.{is_from, mark_of}
use Rattle.channels.proofs.ByPort.{found, missing, find-written, find-written_other, find-pushed, find-pushed_other}

abbrev taken_in : Option Mark → ℕ
taken_in o = option_map_or (λ m. m.taken) o 0

pub mark_of-at : (marks : List Mark) (from : Port) (i : ℕ) (d : Mark) → position (is_from from) marks ≡ Some i → mark_of marks from ≡ (get_or marks i d).taken
mark_of-at marks from i d e = ap taken_in (found (is_from from) marks i d e)

pub mark_of-none : (marks : List Mark) (from : Port) → position (is_from from) marks ≡ None → mark_of marks from ≡ 0
mark_of-none marks from e = ap taken_in (missing (is_from from) marks e)

pub mark_of-set : (marks : List Mark) (from : Port) (i n : ℕ) → position (is_from from) marks ≡ Some i → mark_of (set marks i (record { from = from; taken = n })) from ≡ n
mark_of-set marks from i n e = ap taken_in (find-written (λ (m : Mark). m.from) marks from i (record { from = from; taken = n }) e refl)

pub mark_of-set_other : (marks : List Mark) (from other : Port) (i n : ℕ) → position (is_from from) marks ≡ Some i → other ≢ from → mark_of (set marks i (record { from = from; taken = n })) other ≡ mark_of marks other
mark_of-set_other marks from other i n e differs = ap taken_in (find-written_other (λ (m : Mark). m.from) marks from other i (record { from = from; taken = n }) e refl differs)

pub mark_of-push : (marks : List Mark) (from : Port) (n : ℕ) → position (is_from from) marks ≡ None → mark_of (marks ++ record { from = from; taken = n } ∷ []) from ≡ n
mark_of-push marks from n e = ap taken_in (find-pushed (λ (m : Mark). m.from) marks from (record { from = from; taken = n }) e refl)

pub mark_of-push_other : (marks : List Mark) (from other : Port) (n : ℕ) → other ≢ from → mark_of (marks ++ record { from = from; taken = n } ∷ []) other ≡ mark_of marks other
mark_of-push_other marks from other n differs = ap taken_in (find-pushed_other (λ (m : Mark). m.from) marks from other (record { from = from; taken = n }) refl differs)
