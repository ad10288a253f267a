-- The graph that is cut of a typed class is verified.
use Rattle.verified_code.specs.Verified.{TypedClassesAreVerified}
use Rattle.body_code.specs.ClassCode.{code_of_class}
use Rattle.task_cutter.specs.Tasks.{graph_of}
use Rattle.verified_code.specs.Sound.{TypedClassesAreSound}
use Rattle.verified_code.proofs.Sound.{typed_classes_are_sound}
use Rattle.verified_code.proofs.Tasks.{starts, variables, joins, one_visit_a_part, spends, accesses}
use Rattle.verified_code.proofs.Names.{numbers}
use Rattle.verified_code.proofs.RightTasks.{tasks}
use Rattle.verified_code.proofs.Stacks.{types}
use Rattle.verified_code.proofs.InTasks.{in_tasks, parts}

pub typed_classes_are_verified : TypedClassesAreVerified
unfolding TypedClassesAreVerified TypedClassesAreSound
typed_classes_are_verified class program live typed sets =
    let its = typed_classes_are_sound class program (graph_of (code_of_class class program) live).tasks typed in
    record {
      few_fields = its.few_fields;
      few_methods = its.few_methods;
      field_names = its.field_names;
      method_names = its.method_names;
      parameters = its.parameters;
      numbers = numbers class program live typed sets;
      tasks = tasks class program live typed sets;
      starts = starts class program live typed sets;
      types = types class program live typed sets;
      bodies = its.bodies;
      in_tasks = in_tasks class program live typed sets;
      parts = parts class program live typed sets;
      one_visit_a_part = one_visit_a_part class program live typed sets;
      no_cycle = its.no_cycle;
      variables = variables class program live typed sets;
      helpers = its.helpers;
      joins = joins class program live typed sets;
      turns = its.turns;
      spends = spends class program live typed sets;
      accesses = accesses class program live typed sets;
    }
