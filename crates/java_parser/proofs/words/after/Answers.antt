use Rattle.std.proofs.Common.{map, ◌+◌, drop, sym, ◌∙◌}
use Rattle.std.proofs.lemmas.Result.{err_from_is_err_and}
use Rattle.java_parser.specs.Words.{kinds, kind_of, after}
use Rattle.java_parser.proofs.Steps.{goes_on, fails}
use Rattle.java_parser.proofs.After.{after_one, after_all}
use Rattle.java_parser.proofs.words.after.Goals as goal

pub returns-in_err-rest : goal.returns-in_err-rest
returns-in_err-rest c =
    let words = c.args.words.now in
    let p = err_from_is_err_and c.from_residual.result c.from_residual.ensures.1 in
    rw (p.1, p.2) (fails _ _ (after (map kind_of (drop (c.loop-word.word-index + 1) words))) _ _ (after_one words _ c.loop-word.word-index (kinds c.loop-word.rest.now) c.loop-word-test.true) c.in_err-rest.ensures c.loop-word.invariant)

pub loop-word-preserved : goal.loop-word-preserved
loop-word-preserved c =
    let words = c.args.words.now in
    goes_on _ (kinds c.in_ok-rest.rest.now) (after (map kind_of (drop (c.loop-word.word-index + 1) words))) _ _ (after_one words _ c.loop-word.word-index (kinds c.loop-word.rest.now) c.loop-word-test.true) c.in_ok-rest.ensures c.loop-word.invariant

pub returns : goal.returns
returns c = sym c.loop-word.invariant ∙ after_all c.args.words.now c.loop-word.word-index (kinds c.loop-word.rest.now) c.loop-word-test.false
