-- What running a part of a method does, as what it says of the whole list of statements.
use Rattle.std.specs.Prelude.{◌≡◌, ℕ, Bool, true, false, List, ◌∷◌, ◌++◌, None}
use Rattle.sdg_base.specs.declared.val.Outcome.{Outcome}
use Rattle.sdg_base.specs.declared.val.Outcome.TheVariants.{Limit}
use Rattle.java_tree.specs.declared.tree.BlockItem.{BlockItem}
use Rattle.early_forms.specs.declared.straight.Statement.{Statement}
use Rattle.early_forms.specs.Names.{declared_names}
use Rattle.early_forms.specs.Trees.{statement_tree}
use Rattle.early_source.specs.Variables.{Variables, Tables}
use Rattle.sdg_base.specs.Limits.{turns_at_start}
use Rattle.early_plain.specs.Plain.{Machine, Completes}
use Rattle.early_plain.specs.Scopes.{names_in}

-- A statement is run, or it ends the call for want of a turn.
abbrev pub Leads : List (List ℕ) → Statement → Machine → Machine → Bool → Type 0
Leads fields s old new true = (rest : List BlockItem) (end : Outcome) (tables : Tables) → Completes fields rest new end tables → Completes fields (statement_tree s ∷ rest) old end tables
Leads fields s old new false = (rest : List BlockItem) → Completes fields (statement_tree s ∷ rest) old Limit new.tables

abbrev pub Declared : Statement → Machine → Machine → Bool → Type 0
Declared s old new true = names_in new.variables ≡ declared_names s ++ names_in old.variables
Declared s old new false = Unit {0}

pub record StatementRuns (s : Statement) (old new : Machine) (goes_on : Bool) : Type 0 where
  pub leads : Leads (names_in old.tables) s old new goes_on
  pub declared : Declared s old new goes_on
  pub fields : names_in new.tables ≡ names_in old.tables

-- the machine as a body begins
abbrev pub begin_at : Variables → Tables → Machine
begin_at variables tables = record { site = None; variables = variables; turns = turns_at_start; tables = tables }
