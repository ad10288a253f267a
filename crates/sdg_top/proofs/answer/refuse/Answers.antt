use Rattle.std.proofs.Common.{◌∙◌}
use Rattle.sdg_top.specs.Answers.{class_refused_line}
use Rattle.sdg_top.proofs.Replying.{retold}
use Rattle.sdg_top.proofs.answer.refuse.Goals as goal

pub returns-clause-text : goal.returns-clause-text
returns-clause-text c =
    retold c.refuse_class.result (λ p. class_refused_line p c.args.at.line c.args.at.column) _ _ (c.as_str.ensures.value ∙ c.in_ok-name.ensures) c.refuse_class.ensures.text
