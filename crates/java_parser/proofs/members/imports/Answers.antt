use Rattle.std.proofs.Common.{length, sym}
use Rattle.std.proofs.lemmas.Result.{err_from_is_err_and}
use Rattle.java_tree.specs.declared.token.Kind.TheVariants as k
use Rattle.java_tree.specs.declared.token.Reserved.TheVariants as word
use Rattle.java_parser.specs.Words.{kinds, begins}
use Rattle.java_parser.specs.Members.{import_at, imports_at}
use Rattle.java_parser.proofs.Many.{many_start, many_more, many_fails, many_done, many_out}
use Rattle.java_parser.proofs.members.imports.Goals as goal

pub loop-init : goal.loop-init
unfolding imports_at
loop-init c = rw c.new-imports.ensures (many_start (begins (k.Reserved word.Import)) import_at c.args.tokens.now)

pub returns-then-not-begins : goal.returns-then-not-begins
returns-then-not-begins c =
    many_done (begins (k.Reserved word.Import)) import_at c.loop.imports (length c.args.tokens.now) c.loop.counter (kinds c.loop.rest.now) _ c.loop-test.true (sym c.if-not-begins.ensures) c.loop.invariant

pub returns-in_err-import : goal.returns-in_err-import
returns-in_err-import c =
    let p = err_from_is_err_and c.from_residual.result c.from_residual.ensures.1 in
    rw (p.1, p.2) (many_fails (begins (k.Reserved word.Import)) import_at _ c.loop.imports (length c.args.tokens.now) c.loop.counter (kinds c.loop.rest.now) _ c.loop-test.true (sym c.if-not-begins.ensures) c.in_err-import.ensures c.loop.invariant)

pub loop-preserved : goal.loop-preserved
loop-preserved c =
    rw c.in_ok-push.ensures.ok (many_more (begins (k.Reserved word.Import)) import_at c.loop.imports (length c.args.tokens.now) c.loop.counter (kinds c.loop.rest.now) c.in_ok-import.import (kinds c.in_ok-import.behind.now) _ c.loop-test.true (sym c.if-not-begins.ensures) c.in_ok-import.ensures c.loop.invariant)

pub returns : goal.returns
returns c = many_out (begins (k.Reserved word.Import)) import_at c.loop.imports (length c.args.tokens.now) c.loop.counter c.loop.rest.now _ c.loop-test.false c.loop.invariant
