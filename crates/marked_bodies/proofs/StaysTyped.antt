-- A list of statements that is typed before marks stand in it stays typed with its marks.
use Rattle.std.proofs.Common.{None}
use Rattle.marked_bodies.specs.Laws.{MarkedBodiesStayTyped}
use Rattle.marked_bodies.proofs.Typed.{list_good}
use Rattle.marked_bodies.proofs.Opening.{typed_with_marks}
use Rattle.marked_bodies.proofs.Blocks.{blocks_are_right}
use Rattle.marked_bodies.proofs.Completing.{completes_as}
use Rattle.marked_bodies.proofs.Reading.{reads_as_early}
use Rattle.marked_bodies.proofs.Calling.{calls_no_others}

pub marked_bodies_stay_typed : MarkedBodiesStayTyped
marked_bodies_stay_typed around ss st field gathered typed =
    let good = list_good around ss None st typed.after typed.walked in
    let k = typed_with_marks around ss st typed.after field gathered typed.headers typed.walked in
    record {
      after = k.0;
      checked = k.1;
      blocks = blocks_are_right around ss good;
      completes = completes_as around ss good;
      early = reads_as_early around ss good;
      calls = calls_no_others around ss good;
    }
