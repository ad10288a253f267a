-- Where a body stands between two statements: the variables in scope by number, the current site, and the next task.
use Rattle.std.specs.Prelude.{ℕ, suc, ◌+◌, if◌then◌else◌, List, [], ◌∷◌, ◌++◌, Option, Some}
use Rattle.std.specs.Str.{bytes_eq}
use Rattle.early_source.specs.Sites.{Site, same_site, after_declaration}
use Rattle.early_forms.specs.declared.straight.Sum.{Sum}
use Rattle.early_forms.specs.declared.straight.Statement.{Statement}
use Rattle.early_forms.specs.declared.straight.Statement.TheVariants.{Get, Set, Put}
use Rattle.early_plain.specs.Keys.{written_site}

-- the place of a name in a list, from 0; of a name that is not there the list's length
abbrev pub number_in : List (List ℕ) → List ℕ → ℕ
number_in [] name = 0
number_in (x ∷ xs) name = if bytes_eq x name then 0 else suc (number_in xs name)

-- The names in scope have their numbers by their places: the parameters, and then the locals in text order.
pub record Point : Type 0 where
  pub scope : List (List ℕ)
  pub site : Option Site
  pub task : ℕ

-- the next task behind an access: one more where a mark stands before it
abbrev pub task_after_access : Option Site → Site → ℕ → ℕ
task_after_access current site task = if same_site current site then task else task + 1

-- behind an access
abbrev pub point_at : List ℕ → Sum → Point → Point
point_at field key p = record { scope = p.scope; site = Some (written_site field key); task = task_after_access p.site (written_site field key) p.task }

-- behind the declaration of a local
abbrev pub point_with : List ℕ → Point → Point
point_with local p = record { scope = p.scope ++ local ∷ []; site = after_declaration local p.site; task = p.task }

abbrev pub point_after : Statement → Point → Point
point_after (Get local field key) p = point_with local (point_at field key p)
point_after (Set local value) p = point_with local p
point_after (Put field key value) p = point_at field key p
