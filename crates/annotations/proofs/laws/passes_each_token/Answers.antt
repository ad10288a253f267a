use Rattle.annotations.proofs.MemberCounts.{passes_each_token}
use Rattle.annotations.proofs.laws.passes_each_token.Goals as goal

pub returns : goal.returns
returns c = passes_each_token
