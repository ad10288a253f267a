use Rattle.std.proofs.Common.{rules, arith, sym, ap, ◌∙◌, IsTrue}
use Rattle.std.specs.Option.{option_copied}
use Rattle.std.proofs.lemmas.Result.{err_from_is_err_and}
use Rattle.run_text.specs.Lines.{IsWellSpelled}
use Rattle.run_text.specs.Parts.{parts_of}
use Rattle.run_text.proofs.Rules.{Found, found, found_count, found_args, found_call, words_long}
use Rattle.run_text.proofs.calls.call_of.Goals as goal

pub returns-then-spaces-len-clause-bad : goal.returns-then-spaces-len-clause-bad
returns-then-spaces-len-clause-bad c = λ before.
    let es = c.args.entrances.now in
    let line = c.args.line.now in
    let entrance = c.in-Some.entrance.now in
    let spelled : IsWellSpelled line = search rules in
    let f : Found es c.in-Some.ensures.0 entrance line = found es c.in-Some.ensures.0 entrance line c.cut.result.0.now (parts_of 32 (option_copied c.cut.result.1)) spelled (c.in-Some.ensures.1, c.in-Some.ensures.2) c.cut.ensures.parts in
    found_count es c.in-Some.ensures.0 entrance line c.spaces.result before f c.spaces.ensures (λ same. search rules)

pub values_of-requires : goal.values_of-requires
values_of-requires c = omega (arith, words_long c.args.line.now, c.spaces.ensures, c.len.ensures, ap Rattle.std.proofs.Common.length c.as_slice.ensures)

pub returns-in_err-args-clause-bad : goal.returns-in_err-args-clause-bad
returns-in_err-args-clause-bad c =
    let es = c.args.entrances.now in
    let line = c.args.line.now in
    let entrance = c.in-Some.entrance.now in
    let spelled : IsWellSpelled line = search rules in
    let f : Found es c.in-Some.ensures.0 entrance line = found es c.in-Some.ensures.0 entrance line c.cut.result.0.now (parts_of 32 (option_copied c.cut.result.1)) spelled (c.in-Some.ensures.1, c.in-Some.ensures.2) c.cut.ensures.parts in
    let misfit = rw c.as_slice.ensures at c.in_err-args.ensures.bad in
    let p = err_from_is_err_and c.from_residual.result c.from_residual.ensures.1 in
    rw (p.1, p.2) (λ before. found_args es c.in-Some.ensures.0 entrance line c.spaces.result before c.in_err-args.field-0.0 f c.spaces.ensures (search rules) misfit)

pub returns-clause-found : goal.returns-clause-found
returns-clause-found c =
    let es = c.args.entrances.now in
    let line = c.args.line.now in
    let entrance = c.in-Some.entrance.now in
    let spelled : IsWellSpelled line = search rules in
    let f : Found es c.in-Some.ensures.0 entrance line = found es c.in-Some.ensures.0 entrance line c.cut.result.0.now (parts_of 32 (option_copied c.cut.result.1)) spelled (c.in-Some.ensures.1, c.in-Some.ensures.2) c.cut.ensures.parts in
    found_call es c.in-Some.ensures.0 entrance line c.in_ok-args.args f (rw c.as_slice.ensures at c.in_ok-args.ensures.found)
