-- Where the walk of the rules on annotations stands in the names of a class, and where the reading of what is resolved stands.
use Rattle.std.specs.Prelude.{◌≡◌, drop, List, []}
use Rattle.annotations.specs.declared.walk.Env.{Env}
use Rattle.annotations.specs.declared.walk.Walk.{Walk}
use Rattle.access_blocks.specs.Cursors.{Cursor}

-- before the same names
abbrev pub AreTogether : Env → Walk → Cursor → Type 0
AreTogether env w c = drop w.used env.names ≡ c.names

-- What is found and read between two points of both: findings stay, and so does whether the header of a loop is walked.
pub record Goes (env : Env) (w v : Walk) (c k : Cursor) : Type 0 where
  pub grows : v.findings ≡ [] → w.findings ≡ []
  pub stays : v.in_header ≡ w.in_header
  pub together : AreTogether env w c → AreTogether env v k
