-- What values of this crate stand for.
use Rattle.body_code.specs.Completing as spec
use Rattle.task_lower.specs.declared.completing.Leaving.{Leaving}
use Rattle.task_lower.specs.declared.constants.Constant.{Constant}
use Rattle.task_lower.specs.declared.constants.Constant.TheVariants.{IsNone, HasNoValue, Is}

abbrev pub constant_by : Constant → spec.Constant
constant_by IsNone = spec.IsNone
constant_by HasNoValue = spec.HasNoValue
constant_by (Is v) = spec.Is v

abbrev pub leaving_by : Leaving → spec.Leaving
leaving_by l = spec.leaving l.completes l.breaks
