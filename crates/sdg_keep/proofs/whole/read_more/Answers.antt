use Rattle.std.proofs.Common.{rules}
use Rattle.std.proofs.lemmas.Result.{err_from_is_err_and}
use Rattle.sdg_keep.proofs.Prefixes.{IsPrefixOf-read}
use Rattle.sdg_keep.proofs.ReadOn.{ReadsOn-fault, ReadsOn-memory}
use Rattle.sdg_keep.proofs.whole.read_more.Goals as goal

pub returns-in_err-count-clause-reads : goal.returns-in_err-count-clause-reads
returns-in_err-count-clause-reads g c =
    let p = err_from_is_err_and c.from_residual.result c.from_residual.ensures.1 in
    rw p.1 (rw p.2 (ReadsOn-fault _ _ _ _ _ _ _ c.in_err-count.field-0.0 c.in_err-count.ensures.noted (search rules) (search rules)))

pub returns-in-Ok-clause-front : goal.returns-in-Ok-clause-front
returns-in-Ok-clause-front g c =
    IsPrefixOf-read _ _ c.read.new.into _ _ _ c.len-start.result c.in_ok-count.count (search rules) c.in_ok-count.ensures.count c.in_ok-count.ensures.bytes c.split_at.ensures.front c.in-Ok.ensures.items

pub returns-in-Err-clause-reads : goal.returns-in-Err-clause-reads
returns-in-Err-clause-reads g c = ReadsOn-memory _ _ _ _ _ _ _ c.in_ok-count.count c.in_ok-count.ensures.noted (search rules) (search rules) (search rules) (search rules)
