use Rattle.std.proofs.Common.{sym, ◌∙◌}
use Rattle.early_cutter.proofs.Numbering.{numbers_known, numbers_added}
use Rattle.early_cutter.proofs.point.declare.Goals as goal
use Rattle.early_cutter.proofs.point.declare.Goals.{then-not-contains_key+in_ok-insert, else-not-contains_key}

pub returns : goal.returns
returns c names held =
    elim c.if-not-contains_key.branch [
      | then-not-contains_key+in_ok-insert w ↦
          let absent = rw c.as_slice-text.ensures at (sym c.contains_key.ensures ∙ w.if-not-contains_key.true) in
          let updates = rw c.as_slice-text.ensures at w.in_ok-insert.ensures.updates in
          rw w.scope-is (numbers_added c.args.scope.now names c.args.name.now w.insert.new.self c.in_ok-count.count absent c.in_ok-count.ensures updates held)
      | else-not-contains_key w ↦
          let there = rw c.as_slice-text.ensures at (sym c.contains_key.ensures ∙ w.if-not-contains_key.false) in
          rw w.scope-is (numbers_known c.args.scope.now names c.args.name.now c.in_ok-count.count there c.in_ok-count.ensures held)
    ]
