use Rattle.std.proofs.Common.{ap, ◌∙◌}
use Rattle.std.specs.String.{string_bytes}
use Rattle.std.proofs.Common.{refl}
use Rattle.sdg_top.specs.Answers.{unreadable_line, too_long_line}
use Rattle.sdg_top.specs.Read.{NoRead, NoRoom}
use Rattle.sdg_top.proofs.run.answer_unread.Goals as goal

pub returns-in_ok-unreadable-in-Failed : goal.returns-in_ok-unreadable-in-Failed
returns-in_ok-unreadable-in-Failed c =
    rw c.in-Failed.is (NoRead (string_bytes c.in-Failed.name) refl (c.in_ok-unreadable-in-Failed.ensures ∙ ap unreadable_line c.as_bytes.ensures.value))

pub returns-in_ok-too_long-in-TooLong : goal.returns-in_ok-too_long-in-TooLong
returns-in_ok-too_long-in-TooLong c =
    rw c.in-TooLong.is (NoRoom (string_bytes c.in-TooLong.name) refl (c.in_ok-too_long-in-TooLong.ensures ∙ ap too_long_line c.as_bytes-in-TooLong.ensures.value))
