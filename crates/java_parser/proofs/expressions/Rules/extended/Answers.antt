use Rattle.std.proofs.lemmas.Result.{err_from_is_err_and}
use Rattle.java_parser.specs.Words.{kinds}
use Rattle.java_parser.specs.Expressions.{read_at}
use Rattle.java_parser.proofs.RowLoops.{extended_start, extended_more, extended_fails}
use Rattle.java_parser.proofs.expressions.Rules.extended.Goals as goal

pub loop-tighter-init : goal.loop-tighter-init
loop-tighter-init g c = record {
  read = extended_start (read_at c.args.self.now.levels) c.args.self.now.levels c.args.operand (kinds c.args.tokens.now);
  spare = c.requires.spare;
}

pub returns-in_err-looser-clause-finds : goal.returns-in_err-looser-clause-finds
returns-in_err-looser-clause-finds g c =
    let p = err_from_is_err_and c.from_residual.result c.from_residual.ensures.1 in
    rw (p.1, p.2) (extended_fails (read_at c.args.self.now.levels) c.args.self.now.levels c.args.operand (kinds c.args.tokens.now) _ c.loop-tighter.tighter c.args.looseness c.loop-tighter.x (kinds c.loop-tighter.rest.now) c.loop-tighter-test.true c.loop-tighter.invariant.read c.in_err-looser.ensures.finds)

pub loop-tighter-preserved : goal.loop-tighter-preserved
loop-tighter-preserved g c = record {
  read = extended_more (read_at c.args.self.now.levels) c.args.self.now.levels c.args.operand (kinds c.args.tokens.now) c.loop-tighter.tighter c.loop-tighter.x (kinds c.loop-tighter.rest.now) (c.in_ok-looser.looser, kinds c.in_ok-looser.behind.now) c.loop-tighter.invariant.read c.in_ok-looser.ensures.finds;
  spare = c.in_ok-looser.ensures.measures;
}
