use Rattle.code_meaning.proofs.MarkedBodies.{marked_are_placed}
use Rattle.code_meaning.proofs.Sources.{steps_keep_standing, sources_stand}
use Rattle.code_meaning.proofs.Standing.{rests_stand, blocks_rest, visits_bring, joins_rest}
use Rattle.code_meaning.proofs.law.calls_stand_at_their_code.Goals as goal

pub returns-clause-rests : goal.returns-clause-rests
returns-clause-rests c = rests_stand

pub returns-clause-blocks : goal.returns-clause-blocks
returns-clause-blocks c = blocks_rest

pub returns-clause-visits : goal.returns-clause-visits
returns-clause-visits c = visits_bring

pub returns-clause-joins : goal.returns-clause-joins
returns-clause-joins c = joins_rest

pub returns-clause-steps : goal.returns-clause-steps
returns-clause-steps c = steps_keep_standing

pub returns-clause-sources : goal.returns-clause-sources
returns-clause-sources c = sources_stand

pub returns-clause-marked : goal.returns-clause-marked
returns-clause-marked c = marked_are_placed
