use Rattle.access_blocks.specs.Source as source
use Rattle.source_run.proofs.Entering.{not_entered}
use Rattle.source_run.proofs.moves.entering.Goals as goal

pub returns-in_default : goal.returns-in_default
returns-in_default c m =
    rw (not_entered c.args.completion m (source.Test c.args.around.test.now c.args.around.update.now c.args.around.body.now) _ c.in_default.not-Normal) (c.completing.ensures m)
