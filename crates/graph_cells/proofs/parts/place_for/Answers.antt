use Rattle.std.proofs.Common.{◌≡◌, Some, None}
use Rattle.std.specs.List.{position}
use Rattle.graph_cells.specs.Gathered.{is_before}
use Rattle.graph_cells.proofs.Inserting.{place_is, place_past}
use Rattle.graph_cells.proofs.parts.place_for.Goals as goal

pub returns-in-Some-clause-place : goal.returns-in-Some-clause-place
returns-in-Some-clause-place c =
    let there : position (is_before c.args.part.now) c.args.others.now ≡ Some c.in-Some.place = cc in
    (place_is (is_before c.args.part.now) c.args.others.now c.in-Some.place there).0

pub returns-in-Some-clause-within : goal.returns-in-Some-clause-within
returns-in-Some-clause-within c =
    let there : position (is_before c.args.part.now) c.args.others.now ≡ Some c.in-Some.place = cc in
    (place_is (is_before c.args.part.now) c.args.others.now c.in-Some.place there).1

pub returns-in-None-clause-place : goal.returns-in-None-clause-place
returns-in-None-clause-place c =
    let nowhere : position (is_before c.args.part.now) c.args.others.now ≡ None = cc in
    place_past (is_before c.args.part.now) c.args.others.now nowhere
