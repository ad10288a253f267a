-- The code of a typed class is sound.
use Rattle.std.proofs.Common.{arith}
use Rattle.access_blocks.specs.Programs.{methods_in}
use Rattle.verified_code.specs.Sound.{TypedClassesAreSound}
use Rattle.verified_code.proofs.Classes.{fields, cs}
use Rattle.verified_code.proofs.Clauses.{methods_many, parameters_few, bodies_right, turns_spent, helpers_read, fields_sound, methods_sound, few}
use Rattle.verified_code.proofs.Counting.{no_cycle}

pub typed_classes_are_sound : TypedClassesAreSound
unfolding TypedClassesAreSound
typed_classes_are_sound class program tasks typed = record {
  few_fields = few class program tasks typed;
  few_methods = (let same = methods_many (fields class program tasks) (cs class program tasks) (methods_in class.members) program.methods 0 typed.same_methods in let most = typed.names.few_methods in omega (arith, same, most));
  field_names = fields_sound class program tasks typed;
  method_names = methods_sound class program tasks typed;
  parameters = parameters_few class program tasks typed;
  bodies = bodies_right class program tasks typed;
  helpers = helpers_read class program tasks typed;
  no_cycle = no_cycle class program tasks typed;
  turns = turns_spent class program tasks typed;
}
