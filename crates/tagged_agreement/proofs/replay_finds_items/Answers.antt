use Rattle.tagged_agreement.proofs.Replay.{replay_finds_items}
use Rattle.tagged_agreement.proofs.replay_finds_items.Goals as goal

pub returns : goal.returns
returns g c = replay_finds_items _
