-- What calls of an accepted class run on.
use Rattle.std.specs.Prelude.{◌≡◌, Option, Some, None}
use Rattle.java_tree.specs.declared.tree.Class.{Class}
use Rattle.early_forms.specs.Forms.{IsStraightForm}
use Rattle.early_forms.specs.Names.{IsProper}
use Rattle.early_forms.specs.Trees.{class_tree}
use Rattle.sdg_top.specs.declared.called.Called.{Called}
use Rattle.sdg_top.specs.declared.called.Form.{Form}
use Rattle.sdg_top.specs.Accepted.{program_of}
use Rattle.sdg_top.specs.Entrances.{entrances_of, fields_of}

pub record IsCalled (class : Class) (called : Called) : Type 0 where
  pub program : called.program ≡ program_of class
  pub entrances : called.entrances.items ≡ entrances_of class
  pub fields : called.fields.items ≡ fields_of class

-- the form of the class, or it has none
abbrev pub IsFormOf : Class → Option Form → Type 0
IsFormOf class None = IsStraightForm class → ⊥
IsFormOf class (Some form) = (class ≡ class_tree form.class) × IsProper form.class × (form.entrances.items ≡ entrances_of class)
