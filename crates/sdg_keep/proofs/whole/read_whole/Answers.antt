use Rattle.std.proofs.Common.{ℕ, Ok, rules, subst, sym, vec_len}
use Rattle.std.proofs.lemmas.Result.{err_from_is_err_and}
use Rattle.std.specs.String.{string_bytes}
use Rattle.sdg_keep.specs.Readings.{ReadsUpTo, ReadsOn}
use Rattle.sdg_keep.proofs.ReadOn.{ReadsUpTo-start, ReadsUpTo-more, ReadsWhole-end, ReadsWhole-fault, ReadsWhole-none}
use Rattle.sdg_keep.proofs.whole.read_whole.Goals as goal

pub returns-in_err-buffer-clause-reads : goal.returns-in_err-buffer-clause-reads
returns-in_err-buffer-clause-reads g c =
    let p = err_from_is_err_and c.from_residual.result c.from_residual.ensures.1 in
    rw p.1 (rw p.2 (ReadsWhole-none _ _ _))

pub reading-init : goal.reading-init
reading-init g c = record {
  room = search rules;
  limited = search rules;
  front = search rules;
  same = search rules;
  faults = search rules;
  reads = subst (λ (n : ℕ). ReadsUpTo (g.F.Files.reads c.args.files.now) (g.F.Files.reads c.args.files.now) (string_bytes c.args.name.now) c.args.limit n) (sym c.new-bytes.ensures.len) (ReadsUpTo-start _ _ _);
}

pub returns-in_err-read_more-clause-reads : goal.returns-in_err-read_more-clause-reads
returns-in_err-read_more-clause-reads g c =
    let p = err_from_is_err_and c.from_residual-in_err-read_more.result c.from_residual-in_err-read_more.ensures.1 in
    rw p.1 (rw p.2 (ReadsWhole-fault _ (g.F.Files.reads c.reading.files) _ _ _ (vec_len c.reading.bytes) c.in_err-read_more.field-0.0 c.reading.invariant.reads c.in_err-read_more.ensures.reads))

pub returns-then-branch-eq0-clause-reads : goal.returns-then-branch-eq0-clause-reads
returns-then-branch-eq0-clause-reads g c =
    ReadsWhole-end _ (g.F.Files.reads c.reading.files) _ _ _ _ (vec_len c.reading.bytes) c.reading.invariant.reads (subst (λ (n : ℕ). ReadsOn (g.F.Files.reads c.reading.files) (g.F.Files.reads c.read_more.new.files) (string_bytes c.args.name.now) c.args.limit (vec_len c.reading.bytes) (Ok n)) (search rules) c.in_ok-read_more.ensures.reads) (search rules)

pub reading-preserved : goal.reading-preserved
reading-preserved g c = record {
  room = search rules;
  limited = search rules;
  front = search rules;
  same = search rules;
  faults = search rules;
  reads =
      subst (λ (n : ℕ). ReadsUpTo (g.F.Files.reads c.args.files.now) (g.F.Files.reads c.read_more.new.files) (string_bytes c.args.name.now) c.args.limit n) (sym c.in_ok-read_more.ensures.count)
      (ReadsUpTo-more _ (g.F.Files.reads c.reading.files) _ _ _ (vec_len c.reading.bytes) _ c.reading.invariant.reads c.in_ok-read_more.ensures.reads (search rules));
}
