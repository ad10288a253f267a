use Rattle.std.proofs.Common.{sym, ◌∙◌}
use Rattle.run_text.proofs.Names.{next_known_member, next_added_member}
use Rattle.run_text.proofs.index.class_index_of.Goals as goal
use Rattle.run_text.proofs.index.class_index_of.Goals.{then-not-contains_key+in_ok-insert, else-not-contains_key}

pub loop-number-preserved : goal.loop-number-preserved
loop-number-preserved c =
    let es = c.args.fields.now in
    let e = c.index-fields-number.result in
    elim c.if-not-contains_key.branch [
      | then-not-contains_key+in_ok-insert w ↦
          let absent = rw c.as_slice-name.ensures at (sym c.contains_key.ensures ∙ w.if-not-contains_key.true) in
          let updates = rw c.as_slice-name.ensures at w.in_ok-insert.ensures.updates in
          rw w.index-is (next_added_member es c.loop-number.number e c.loop-number.index w.insert.new.self c.loop-number-test.true c.index-fields-number.is absent updates c.loop-number.invariant)
      | else-not-contains_key w ↦
          let there = rw c.as_slice-name.ensures at (sym c.contains_key.ensures ∙ w.if-not-contains_key.false) in
          rw w.index-is (next_known_member es c.loop-number.number e c.loop-number.index c.loop-number-test.true c.index-fields-number.is there c.loop-number.invariant)
    ]
