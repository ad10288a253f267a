-- No access stands in the header of a loop of a class in which the rules on annotations find nothing.
use Rattle.access_blocks.specs.Programs.{scope_of}
use Rattle.resolved_bodies.specs.Laws.{HeadersAreKept}
use Rattle.walked_bodies.specs.Begun.{before, marks_of}
use Rattle.typed_classes.specs.Laws.{HeadersAreBare}

pub headers_bare : HeadersAreKept → HeadersAreBare
headers_bare kept class keeps n m is met = (kept (marks_of class) (scope_of class) m met.marks (before class n) met.passed met.quiet_marks).headers
