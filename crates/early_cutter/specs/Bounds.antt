-- Literals that are ints.
use Rattle.std.specs.Prelude.{◌<◌, ◌^◌, All}
use Rattle.early_forms.specs.declared.straight.Atom.{Atom}
use Rattle.early_forms.specs.declared.straight.Atom.TheVariants.{Literal, Variable}
use Rattle.early_forms.specs.declared.straight.Sum.{Sum}
use Rattle.early_forms.specs.declared.straight.Statement.{Statement}
use Rattle.early_forms.specs.declared.straight.Statement.TheVariants.{Get, Set, Put}
use Rattle.early_forms.specs.declared.straight.Ending.{Ending}
use Rattle.early_forms.specs.declared.straight.Ending.TheVariants as ending
use Rattle.early_forms.specs.declared.straight.StraightMethod.{StraightMethod}

abbrev pub AtomFits : Atom → Type 0
AtomFits (Literal n) = n < 2 ^ 31
AtomFits (Variable name) = Unit {0}

pub record SumFits (s : Sum) : Type 0 where
  pub first : AtomFits s.first
  pub others : All AtomFits s.others

abbrev pub StatementFits : Statement → Type 0
StatementFits (Get local field key) = SumFits key
StatementFits (Set local value) = SumFits value
StatementFits (Put field key value) = SumFits key × SumFits value

abbrev pub EndingFits : Ending → Type 0
EndingFits ending.Nothing = Unit {0}
EndingFits (ending.Get field key) = SumFits key
EndingFits (ending.Sum value) = SumFits value

pub record MethodFits (m : StraightMethod) : Type 0 where
  pub statements : All StatementFits m.statements
  pub end : EndingFits m.ending
