use Rattle.std.proofs.Common.{◌∙◌, ap, get_or}
use Rattle.early_plain.specs.Scopes.{names_in}
use Rattle.early_plain.proofs.WholeCalls.{is_method, runs_call, if_ok}
use Rattle.early_plain.proofs.run.run_call.Goals as goal

pub returns-clause-runs : goal.returns-clause-runs
returns-clause-runs c =
    let m = c.index-as_slice-from.result in
    let at = c.index-as_slice-from.is ∙ ap (λ i. get_or c.as_slice.result.now i m) c.from.ensures in
    let is = is_method c.args.class.now c.args.call.now m c.as_slice.result.now c.requires.fits c.as_slice.ensures at in
    if_ok c.run_method.result
    (λ end completes. runs_call c.args.class.now c.args.call.now m (names_in c.args.tables.now) c.as_slice-2.result.now c.args.tables.now end c.run_method.new.tables c.requires.fits is c.requires.fields c.as_slice-2.ensures completes)
    c.run_method.ensures.runs
