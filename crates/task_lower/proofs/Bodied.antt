-- The code of a body from its parts.
use Rattle.std.proofs.Common.{◌≡◌, ℕ, Bool, List, ◌++◌, Option, ap, subst, ◌∙◌}
use Rattle.sdg_base.specs.declared.value_type.ValueType.{ValueType}
use Rattle.java_tree.specs.declared.types.ValueType.{ValueType as VariableType}
use Rattle.flat_code.specs.declared.graph.GraphField.{GraphField}
use Rattle.flat_code.specs.declared.graph.Instr.{Instr}
use Rattle.access_blocks.specs.declared.body.Body.{Body}
use Rattle.body_code.specs.declared.callee.Callee.{Callee}
use Rattle.body_code.specs.Completing.{body_completes}
use Rattle.body_code.specs.StatementCode.{Scope, pieces_of}
use Rattle.body_code.specs.ClassCode.{scope_of, started, body_place, no_exits, ended, body_code}
use Rattle.task_lower.specs.declared.draft.Draft.{Draft}
use Rattle.task_lower.specs.declared.draft.Hole.{Hole}
use Rattle.task_lower.specs.Drafting.{Emits, filled, place_of}

abbrev scope_by : List GraphField → List Callee → List VariableType → Option ValueType → Scope
scope_by fields methods variables members = record { fields = fields; context = record { variables = variables; methods = methods; members = members } }

pub scope_is : (s : Scope) (fields : List GraphField) (methods : List Callee) (variables : List VariableType) (members : Option ValueType)
    → s.fields ≡ fields → s.context.methods ≡ methods → s.context.variables ≡ variables → s.context.members ≡ members → s ≡ scope_by fields methods variables members
scope_is s fields methods variables members e f g h =
    ap (λ x. scope_by x s.context.methods s.context.variables s.context.members) e
    ∙ ap (λ x. scope_by fields x s.context.variables s.context.members) f
    ∙ ap (λ x. scope_by fields methods x s.context.members) g
    ∙ ap (λ x. scope_by fields methods variables x) h

pub body_is : (fields : List GraphField) (methods : List Callee) (b : Body) (task : ℕ) (scope : Scope) (s0 s1 : Draft) (holes : List Hole) (code end : List Instr) (completes : Bool)
    → scope ≡ scope_of fields methods b → s0.code ≡ started b → place_of s0 ≡ body_place b task → Emits (pieces_of scope b.statements) s0 s1 holes → code ≡ filled s1.code holes no_exits
    → completes ≡ body_completes b.statements → end ≡ ended completes code → end ≡ body_code fields methods b task
body_is fields methods b task scope s0 s1 holes code end completes is_scope is_started is_place e is_code is_completes is_end =
    let P : Scope → Type 0 = λ s. Emits (pieces_of s b.statements) s0 s1 holes in
    let here = subst P is_scope e in
    let whole : code ≡ started b ++ (pieces_of (scope_of fields methods b) b.statements).from (body_place b task) no_exits =
    is_code ∙ here.is no_exits
    ∙ ap (λ c. c ++ (pieces_of (scope_of fields methods b) b.statements).from (place_of s0) no_exits) is_started
    ∙ ap (λ p. started b ++ (pieces_of (scope_of fields methods b) b.statements).from p no_exits) is_place in
    is_end ∙ ap (λ t. ended t code) is_completes ∙ ap (ended (body_completes b.statements)) whole
