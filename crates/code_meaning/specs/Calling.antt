-- Calls of helper and merge methods: the code of a typed class gives what its source gives.
use Rattle.sdg_base.specs.Limits.{turns_at_start}
use Rattle.java_tree.specs.declared.tree.Class.{Class}
use Rattle.flat_code.specs.Machine as machine
use Rattle.access_blocks.specs.declared.body.Program.{Program}
use Rattle.access_blocks.specs.Calls.{calls_of}
use Rattle.body_code.specs.ClassCode.{fields_of, callees_of, code_of_class}
use Rattle.body_code.specs.Checking.{IsTyped}
use Rattle.code_meaning.specs.Evaluating.{CallsAgree}

abbrev pub CallsMeanTheirCode : Type 0
CallsMeanTheirCode =
    (class : Class) (program : Program) → IsTyped class program
    → CallsAgree (callees_of class program) (code_of_class class program).methods (calls_of program.methods) (machine.calls_of (fields_of class program) (code_of_class class program).methods) turns_at_start
