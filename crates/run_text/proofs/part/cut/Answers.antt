use Rattle.run_text.proofs.Parts.{parts_none, parts_cut}
use Rattle.run_text.proofs.part.cut.Goals as goal

pub returns-in_default-clause-parts : goal.returns-in_default-clause-parts
returns-in_default-clause-parts c = parts_none c.args.separator c.args.bytes.now c.in_default.ensures

pub returns-clause-parts : goal.returns-clause-parts
returns-clause-parts c =
    parts_cut c.args.separator c.in-Some.at c.args.bytes.now c.split_at.result.0.now c.split_at.result.1.now c.split_at-2.result.1.now c.in-Some.ensures c.split_at.ensures.front c.split_at.ensures.back c.split_at-2.ensures.back
