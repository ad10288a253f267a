-- The number of a status.
use Rattle.std.specs.Prelude.{ℕ}
use Rattle.sdg_top.specs.declared.status.Status.{Status}
use Rattle.sdg_top.specs.declared.status.Status.TheVariants as status

abbrev pub code_of : Status → ℕ
code_of status.Done = 0
code_of status.Words = 1
code_of status.Class = 2
code_of status.Text = 3
code_of status.Unfinished = 4
code_of status.Read = 5
code_of status.Write = 6
code_of status.Memory = 7
code_of status.TooLong = 8
