use Rattle.code_meaning.proofs.Running.{more_fuel}
use Rattle.code_meaning.proofs.Cutting.{marks_are_cuts}
use Rattle.code_meaning.proofs.Calling.{calls_mean_their_code}
use Rattle.code_meaning.proofs.Entering.{ends_are_runs, entries_stand_on_their_code, entries_rest}
use Rattle.code_meaning.proofs.Expressions.{expressions_give_their_values}
use Rattle.code_meaning.proofs.Foreseen.{completions_are_foreseen}
use Rattle.code_meaning.proofs.PieceSizes.{piece_sized}
use Rattle.code_meaning.proofs.Onward.{runs_rest_where_the_source_rests}
use Rattle.code_meaning.proofs.Plain.{plain_statements_do_what_they_mean}
use Rattle.code_meaning.proofs.Resuming.{blocks_run, joins_go_on}
use Rattle.code_meaning.proofs.Visiting.{visits_bring_their_parts}
use Rattle.code_meaning.proofs.law.flat_code_means_its_source.Goals as goal

pub returns-clause-expressions : goal.returns-clause-expressions
returns-clause-expressions c = expressions_give_their_values

pub returns-clause-sizes : goal.returns-clause-sizes
returns-clause-sizes c = piece_sized

pub returns-clause-statements : goal.returns-clause-statements
returns-clause-statements c = plain_statements_do_what_they_mean

pub returns-clause-completions : goal.returns-clause-completions
returns-clause-completions c = completions_are_foreseen

pub returns-clause-calls : goal.returns-clause-calls
returns-clause-calls c = calls_mean_their_code

pub returns-clause-marks : goal.returns-clause-marks
returns-clause-marks c = marks_are_cuts

pub returns-clause-fuel : goal.returns-clause-fuel
returns-clause-fuel c = more_fuel

pub returns-clause-runs : goal.returns-clause-runs
returns-clause-runs c = runs_rest_where_the_source_rests

pub returns-clause-blocks : goal.returns-clause-blocks
returns-clause-blocks c = blocks_run

pub returns-clause-visits : goal.returns-clause-visits
returns-clause-visits c = visits_bring_their_parts

pub returns-clause-joins : goal.returns-clause-joins
returns-clause-joins c = joins_go_on

pub returns-clause-entries : goal.returns-clause-entries
returns-clause-entries c = entries_stand_on_their_code

pub returns-clause-starts : goal.returns-clause-starts
returns-clause-starts c = entries_rest

pub returns-clause-ends : goal.returns-clause-ends
returns-clause-ends c = ends_are_runs
