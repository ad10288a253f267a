-- What an access and a declaration do to where a body stands.
use Rattle.std.specs.Prelude.{◌≡◌, ℕ, ℤ, ◌+◌, Bool, true, false, if◌then◌else◌, List, ◌∷◌, Some}
use Rattle.sdg_base.specs.declared.val.Val.TheVariants as val
use Rattle.early_source.specs.Variables.{Tables}
use Rattle.early_source.specs.Sites.{Site, same_site, after_declaration}
use Rattle.early_plain.specs.declared.machine.Machine.{Machine}
use Rattle.early_plain.specs.Plain.{Machine as Plain}

-- the machine with the fields as they are
abbrev pub at : Machine → Tables → Plain
at m tables = record { site = m.site; variables = m.scope; turns = m.turns; tables = tables }

-- a mark is passed, or there is none
pub record PassesMark (site : Site) (old new : Machine) : Type 0 where
  pub spends : old.turns ≡ (if same_site old.site site then 0 else 1) + new.turns
  pub goes_to : new.site ≡ Some site
  pub scope : new.scope ≡ old.scope

-- there is a mark, and no turn for it
pub record StopsAtMark (site : Site) (old new : Machine) : Type 0 where
  pub marked : same_site old.site site ≡ false
  pub spent : old.turns ≡ 0

abbrev pub Passes : Site → Machine → Machine → Bool → Type 0
Passes site old new true = PassesMark site old new
Passes site old new false = StopsAtMark site old new

pub record DeclaresVariable (name : List ℕ) (value : ℤ) (old new : Machine) : Type 0 where
  pub scope : new.scope ≡ (name, val.Long value) ∷ old.scope
  pub site : new.site ≡ after_declaration name old.site
  pub turns : new.turns ≡ old.turns
