use Rattle.std.proofs.Common.{arith}
use Rattle.source_run.proofs.Visiting.{no_field, visits}
use Rattle.source_run.proofs.visits.visit_part.Goals as goal

pub returns-then-field-len : goal.returns-then-field-len
returns-then-field-len c =
    visits c.args.field c.args.instance c.args.method c.args.args.now c.args.fields.now.items c.index_mut.result.now c.call.new.self c.call.result (omega arith)
    c.index_mut.ensures.value c.call.ensures.outcome c.call.ensures.state

pub returns-else-field-len : goal.returns-else-field-len
returns-else-field-len c = no_field c.args.field c.args.instance c.args.method c.args.args.now c.args.fields.now.items (omega arith)
