use Rattle.std.proofs.Common.{subst, ℕ, List}
use Rattle.live_vars.specs.Steps.{AreNoted, behind, targets}
use Rattle.live_vars.proofs.Noting.{both_noted, next_parts}
use Rattle.live_vars.proofs.table.note_next.Goals as goal

pub returns : goal.returns
returns c =
    let at = c.args.at in
    let instr = c.args.instr.now in
    let start = c.args.table.now.items in
    let between = c.note.new.table.items in
    let end = c.note-2.new.table.items in
    let P : List ℕ → Type 0 = λ rows. AreNoted rows at start between in
    let Q : List ℕ → Type 0 = λ rows. AreNoted rows at between end in
    let R : List ℕ → Type 0 = λ rows. AreNoted rows at start end in
    subst R (next_parts at instr)
    (both_noted (behind at instr) (targets instr) at start between end (subst P c.behind.ensures c.in_ok-note.ensures) (subst Q c.target.ensures c.in_ok-note-2.ensures))
