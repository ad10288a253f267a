-- What is resolved of a part of a method reads variables that are in scope there, and nothing else.
use Rattle.std.specs.Prelude.{◌≡◌, ℕ, true, false, List, [], All, Some}
use Rattle.java_types.specs.declared.walk.Variable.{Variable}
use Rattle.access_blocks.specs.declared.resolved.Invoked.{Invoked}
use Rattle.access_blocks.specs.declared.resolved.Invoked.TheVariants as invoked
use Rattle.access_blocks.specs.Cursors.{variable_of}
use Rattle.body_code.specs.Typing.{Needs, needs, needs_of_all}
use Rattle.typed_bodies.specs.Reading.{Place, cursor_at, known_as, is_plain}

-- the variable of a name in scope, which stands for a value by itself
pub record InScope (p : Place) (v : ℕ) : Type 0 where
  pub name : List ℕ
  pub it : Variable
  pub is : known_as p name ≡ Some it
  pub plain : is_plain p it.declaration ≡ true
  pub number : v ≡ variable_of (cursor_at p) (Some it.declaration)

-- Only variables in scope are read; nothing is merged, and no key is read.
pub record IsWithin (p : Place) (n : Needs) : Type 0 where
  pub variables : All (InScope p) n.variables
  pub merges : n.merges ≡ []
  pub no_key : n.key ≡ false

-- the same of what a call is
abbrev pub IsWithinCall : Place → Invoked → Type 0
IsWithinCall p (invoked.Value a) = IsWithin p (needs a)
IsWithinCall p (invoked.Sets v at value) = InScope p v × IsWithin p (needs at) × IsWithin p (needs value)
IsWithinCall p (invoked.Accesses a) = IsWithin p (needs_of_all a.args)
