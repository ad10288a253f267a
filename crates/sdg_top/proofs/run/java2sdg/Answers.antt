use Rattle.std.proofs.Common.{sym, ◌∙◌}
use Rattle.sdg_top.proofs.Dues.{read_rises, unread, not_write, prefix_of_due, given_read}
use Rattle.sdg_top.proofs.run.java2sdg.Goals as goal

pub returns-in-Ok-clause-read : goal.returns-in-Ok-clause-read
returns-in-Ok-clause-read g c = λ is. read_rises _ _ _ _ c.in-Ok.ensures.due (sym (c.say.ensures.given (given_read _ is)).0 ∙ is)

pub returns-in-Ok-clause-unread : goal.returns-in-Ok-clause-unread
returns-in-Ok-clause-unread g c = λ rose given. (c.say.ensures.given given).0 ∙ unread _ _ _ _ c.in-Ok.ensures.due rose

pub returns-in-Ok-clause-write : goal.returns-in-Ok-clause-write
returns-in-Ok-clause-write g c = λ is. c.say.ensures.fault is (not_write _ _ _ _ c.in-Ok.ensures.due)

pub returns-in-Ok-clause-prefix : goal.returns-in-Ok-clause-prefix
returns-in-Ok-clause-prefix g c = prefix_of_due _ _ _ _ _ _ c.in-Ok.ensures.due c.say.ensures.prefix
