-- The bodies of a class that breaks no rule are typed before marks stand in them.
use Rattle.walked_bodies.specs.Begun.{before}
use Rattle.walked_bodies.specs.Walked.{BodiesAreWalked}
use Rattle.walked_bodies.proofs.Bodies.{body_at}
use Rattle.ending_bodies.specs.Laws.{BodiesComplete}
use Rattle.typed_classes.specs.Laws.{HeadersAreBare, BodiesAreTyped}

pub bodies_typed : BodiesAreWalked → HeadersAreBare → BodiesComplete → BodiesAreTyped
bodies_typed walked headers complete class spelled keeps n m is =
    let w = walked class keeps n m is in
    record {
      before = before class n;
      is = body_at class n m is;
      bare = record {
        statements = record { after = w.after; walked = w.walked; headers = headers class keeps n m is w.met };
        returns = complete class spelled keeps n m is w.met;
      };
    }
