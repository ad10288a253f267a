use Rattle.std.proofs.Common.{List, [], ◌∷◌, ◌++◌, map, subst}
use Rattle.sdg_base.specs.declared.value_type.ValueType.{ValueType}
use Rattle.flat_code.specs.declared.graph.Instr.TheVariants as instr
use Rattle.access_blocks.specs.declared.body.Expression.{Expression}
use Rattle.body_code.specs.Codes.{Code, plain, all_of}
use Rattle.body_code.specs.ExpressionCode.{lowered, codes_of}
use Rattle.body_code.specs.StatementCode.{field_name, result_of, signature_of, targeted}
use Rattle.task_lower.specs.Pushing.{Pushes}
use Rattle.task_lower.proofs.Pushed.{then_pushed, both_pushed}
use Rattle.task_lower.proofs.Typed.{codes_are}
use Rattle.task_lower.proofs.accesses.access.Goals as goal

pub returns : goal.returns
returns c =
    let scope = c.args.scope.now in
    let a = c.args.access.now in
    let s0 = c.args.code.now in
    let s1 = c.expressions.new.code in
    let P : List Expression → Type 0 = λ args. Pushes (all_of (map (λ a. a.code) (map (lowered scope.context) args))) s0 s1 in
    let Q : List Code → Type 0 = λ codes. Pushes (all_of codes) s0 s1 in
    let R : ValueType → Type 0 = λ t. Pushes (plain (targeted a.target t)) c.access_field.new.code c.put.new.code in
    let access = instr.Access (field_name scope a.field) a.method ∷ [] in
    let target = targeted a.target (result_of (signature_of scope a.field a.method)) in
    then_pushed (codes_of scope.context a.args) (plain (access ++ target)) s0 s1 c.put.new.code
    (subst Q (codes_are scope.context a.args) (subst P c.as_slice.ensures c.in_ok-expressions.ensures.code))
    (both_pushed access target s1 c.access_field.new.code c.put.new.code c.in_ok-access_field.ensures (subst R c.result_type-found.ensures c.in_ok-put.ensures))
