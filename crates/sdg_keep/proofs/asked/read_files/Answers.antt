use Rattle.std.proofs.Common.{◌≡◌, ℕ, List, map, Option, Err, refl, ap, subst, ◌∙◌, rules}
use Rattle.std.specs.Prelude.{IfSome}
use Rattle.std.specs.String.{string_bytes}
use Rattle.std.proofs.lemmas.List.{at_drop_all}
use Rattle.std.proofs.lemmas.Result.{err_from_is_err_and}
use Rattle.sdg_keep.specs.Endings.{file_asked}
use Rattle.sdg_keep.proofs.InOrder.{HasRead-start, HasRead-left, HasRead-next, Reads-all, Reads-between, Reads-not}
use Rattle.sdg_keep.proofs.asked.read_files.Goals as goal

pub loop-file-init : goal.loop-file-init
loop-file-init g c = record {
  read = rw c.new-texts.ensures (HasRead-start _ _ _);
  same = λ other. refl;
  faults = refl;
}

pub returns-in_err-name-clause-reads : goal.returns-in_err-name-clause-reads
returns-in_err-name-clause-reads g c =
    let p = err_from_is_err_and c.from_residual.result c.from_residual.ensures.1 in
    rw p.1 (rw p.2 (Reads-between _ _ _ _ _ _ _ _ c.loop-file.invariant.read c.loop-file.invariant.faults))

pub returns-in_err-push-in-Ok-clause-reads : goal.returns-in_err-push-in-Ok-clause-reads
returns-in_err-push-in-Ok-clause-reads g c =
    let p = err_from_is_err_and c.from_residual-in_err-push-in-Ok.result c.from_residual-in_err-push-in-Ok.ensures.1 in
    let so = HasRead-left _ _ _ _ c.args.asked.now c.loop-file.file-index c.file-item.result _ c.loop-file.invariant.read c.loop-file-test.true (search rules) in
    rw p.1 (rw p.2 (Reads-between _ _ _ _ _ _ _ _ (HasRead-next _ _ (g.F.Files.reads c.loop-file.files) _ _ _ _ _ _ c.in-Ok.text so c.in-Ok.ensures.reads (record { within = c.in-Ok.ensures.limited; whole = subst (λ (o : Option (List ℕ)). IfSome o (λ file. c.in-Ok.text ≡ file)) (c.loop-file.invariant.same _) c.in-Ok.ensures.bytes })) (search rules)))

pub returns-in-Err-clause-reads : goal.returns-in-Err-clause-reads
returns-in-Err-clause-reads g c =
    let so = HasRead-left _ _ _ _ c.args.asked.now c.loop-file.file-index c.file-item.result _ c.loop-file.invariant.read c.loop-file-test.true (search rules) in
    let name : string_bytes c.in_ok-name.name ≡ string_bytes c.file-item.result.name = search rules in
    rw c.of_file.ensures (rw name (Reads-not _ _ _ _ _ _ (g.F.Files.faults c.loop-file.files) (g.F.Files.reads c.loop-file.files) _ _ _ _ (g.F.Files.content c.loop-file.files (string_bytes c.file-item.result.name)) c.in-Err.error so c.in-Err.ensures.reads (c.loop-file.invariant.same _) (λ is. c.in-Err.ensures.too_long (ap Err is)) c.loop-file.invariant.faults c.in-Err.ensures.cause))

pub loop-file-preserved : goal.loop-file-preserved
loop-file-preserved g c =
    let so = HasRead-left _ _ _ _ c.args.asked.now c.loop-file.file-index c.file-item.result _ c.loop-file.invariant.read c.loop-file-test.true (search rules) in
    record {
      read = rw c.in_ok-push-in-Ok.ensures.ok (HasRead-next _ _ (g.F.Files.reads c.loop-file.files) _ _ _ _ _ _ c.in-Ok.text so c.in-Ok.ensures.reads (record { within = c.in-Ok.ensures.limited; whole = subst (λ (o : Option (List ℕ)). IfSome o (λ file. c.in-Ok.text ≡ file)) (c.loop-file.invariant.same _) c.in-Ok.ensures.bytes }));
      same = λ other. c.in-Ok.ensures.same other ∙ c.loop-file.invariant.same other;
      faults = search rules;
    }

pub returns-clause-reads : goal.returns-clause-reads
returns-clause-reads g c = Reads-all _ _ _ _ _ _ _ _ c.loop-file.invariant.read (at_drop_all (map file_asked) c.args.asked.now c.loop-file.file-index (search rules)) c.loop-file.invariant.faults
