use Rattle.std.proofs.Common.{slice_set, ◌∷◌, [], List, ℕ, length, refl, sym, subst, arith}
use Rattle.std.proofs.lemmas.Option.{slice_get_read}
use Rattle.live_vars.specs.Steps.{AreNoted}
use Rattle.live_vars.proofs.Noting.{noted_in, past_noted}
use Rattle.live_vars.proofs.table.note_in.Goals as goal

pub returns-in_ok-push : goal.returns-in_ok-push
returns-in_ok-push c =
    let table = c.args.table.now.items in
    let row = c.args.row in
    let numbers = c.index_mut.result.now in
    let P : List ℕ → Type 0 = λ ns. AreNoted (row ∷ []) c.args.number table (slice_set table row ns) in
    subst P (sym (c.in_ok-push.ensures.ok)) (noted_in table row c.args.number numbers (slice_get_read table (length table) row numbers refl (omega arith) c.index_mut.ensures.value))

pub returns-else-row-len : goal.returns-else-row-len
returns-else-row-len c = past_noted c.args.row c.args.number c.args.table.now.items (omega arith)
