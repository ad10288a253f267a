-- A class that is accepted, with its program.
use Rattle.std.specs.Prelude.{◌≡◌}
use Rattle.access_blocks.specs.declared.programs.Marked.{Marked}
use Rattle.accepted_classes.specs.Classes.{IsSpelled}
use Rattle.typed_bodies.specs.Bodies.{BreaksNoRule, resolved_of}

pub record IsAccepted (marked : Marked) : Type 0 where
  pub spelled : IsSpelled marked.annotated.typed.class
  pub quiet : BreaksNoRule marked.annotated.typed.class
  pub program : marked.program ≡ resolved_of marked.annotated.typed.class
