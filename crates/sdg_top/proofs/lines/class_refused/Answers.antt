use Rattle.std.proofs.Common.{rules, append_assoc}
use Rattle.sdg_top.specs.Answers.{class_refused_line}
use Rattle.sdg_top.proofs.lines.class_refused.Goals as goal

pub returns : goal.returns
unfolding class_refused_line
returns c = simp append_assoc (search rules)
