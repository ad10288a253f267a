-- What the methods of a class are for.
use Rattle.std.specs.Prelude.{Bool, true, false, if◌then◌else◌}
use Rattle.std.specs.List.{list_any}
use Rattle.java_tree.specs.declared.tree.Modifier.{Modifier}
use Rattle.java_tree.specs.declared.tree.Modifier.TheVariants as modifier
use Rattle.java_tree.specs.declared.tree.Method.{Method}
use Rattle.java_tree.specs.declared.method_kinds.MethodKind.{MethodKind}
use Rattle.java_tree.specs.declared.method_kinds.MethodKind.TheVariants.{Entry, Helper, Merge}

abbrev pub is_private : Modifier → Bool
is_private modifier.Public = false
is_private modifier.Private = true
is_private modifier.Static = false

-- A method with `@Collection` is a merge method, another private one a helper, and every other an entry method.
abbrev pub kind_of : Method → MethodKind
kind_of m = if list_any (λ p. p.is_collection) m.params then Merge else (if list_any is_private m.modifiers then Helper else Entry)
