use Rattle.std.proofs.Common.{[], map, sym, subst}
use Rattle.std.specs.String.{string_bytes}
use Rattle.sdg_keep.specs.Endings.{AllRead, told}
use Rattle.sdg_top.specs.declared.status.Status.TheVariants as status
use Rattle.sdg_top.specs.Commands.{Text}
use Rattle.sdg_top.specs.Due.{Due, NoCommand, NoneAsks}
use Rattle.sdg_top.proofs.Dues.{reads_none}
use Rattle.sdg_top.proofs.run.answer.Goals as goal

pub returns-in_err-usage-in-None-clause-reads : goal.returns-in_err-usage-in-None-clause-reads
returns-in_err-usage-in-None-clause-reads g c = ([], AllRead [], NoneAsks c.in-None.ensures, reads_none _ _ _)

pub returns-in_ok-usage-in-None-clause-reads : goal.returns-in_ok-usage-in-None-clause-reads
returns-in_ok-usage-in-None-clause-reads g c = ([], AllRead [], NoneAsks c.in-None.ensures, reads_none _ _ _)

pub returns-in_ok-usage-in-None-clause-due : goal.returns-in_ok-usage-in-None-clause-due
returns-in_ok-usage-in-None-clause-due g c =
    subst (λ (t : Text). Due (map string_bytes c.args.words.now) (told g.F.Files.content g.F.Files.faults g.F.Files.reads c.args.files.now c.args.files.now) status.Words t) (sym c.in_ok-usage-in-None.ensures)
    (NoCommand c.in-None.ensures (reads_none _ _ _))
