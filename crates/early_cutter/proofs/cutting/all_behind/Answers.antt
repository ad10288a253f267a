use Rattle.std.proofs.Common.{refl, sym, ap, ◌∙◌, ◌≡◌, [], drop, reverse, arith}
use Rattle.std.proofs.lemmas.List.{drop_all}
use Rattle.early_cutter.proofs.LiveSets.{none_filter}
use Rattle.early_cutter.proofs.cutting.all_behind.Goals as goal

pub loop-at-init : goal.loop-at-init
loop-at-init c =
    let code = c.args.code.now in
    let none : drop c.args.len code ≡ [] = drop_all c.args.len code (omega (arith, c.requires)) in
    record {
      within = omega (arith, c.requires);
      behind = rw none (record {
        live = c.new.ensures.empty ∙ sym (none_filter 0 c.args.count);
        field = refl;
        tasks = ap reverse c.new-2.ensures.items;
      });
    }
