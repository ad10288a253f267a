-- Straight code from a place on.
use Rattle.std.proofs.Common.{◌≡◌, ℕ, ◌<◌, ◌≤◌, ◌+◌, List, length, get_or, drop, IsSome, sym, ap, subst, ◌∙◌}
use Rattle.std.proofs.lemmas.Bool.{false≢true}
use Rattle.std.proofs.lemmas.List.{drop_more, drop_all}
use Rattle.sdg_base.specs.declared.val.Val.{Val}
use Rattle.early_tables.specs.States.{State}
use Rattle.early_task_code.specs.declared.graph.Instr.{Instr}
use Rattle.early_task_code.specs.declared.instructions.Step.{Step}
use Rattle.early_task_code.specs.Machine.{Setting, Runs, run, perform}
use Rattle.early_task_code.specs.Steps.{CanPerform, Performs, leads}

run-drop : (s : Setting) (code : List Instr) (at : ℕ) (d : Instr) (stack vars : List Val) (turns : ℕ) (state : State) → at < length code → run s (drop at code) stack vars turns state ≡ perform s (get_or code at d) (run s (drop (at + 1) code)) stack vars turns state
run-drop s code at d stack vars turns state within = ap (λ (is : List Instr). run s is stack vars turns state) (drop_more code at d within)

pub run_can : (s : Setting) (code : List Instr) (at : ℕ) (d : Instr) (stack vars : List Val) (turns : ℕ) (state : State) (whole : Runs) → run s (drop at code) stack vars turns state ≡ whole → IsSome whole → at < length code → CanPerform s (get_or code at d) stack vars turns state
run_can s code at d stack vars turns state whole same some within =
    (run s (drop (at + 1) code), subst (λ (r : Runs). IsSome r) (sym same ∙ run-drop s code at d stack vars turns state within) some)

pub run_leads : (s : Setting) (code : List Instr) (at : ℕ) (d : Instr) (stack vars stack' vars' : List Val) (turns turns' : ℕ) (state state' : State) (to : Step) → at < length code → Performs s (get_or code at d) stack vars turns state stack' vars' turns' state' to → run s (drop at code) stack vars turns state ≡ leads (run s (drop (at + 1) code)) to stack' vars' turns' state'
run_leads s code at d stack vars stack' vars' turns turns' state state' to within performs =
    run-drop s code at d stack vars turns state within ∙ performs (run s (drop (at + 1) code))

pub run_ends : (s : Setting) (code : List Instr) (at : ℕ) (stack vars : List Val) (turns : ℕ) (state : State) (whole : Runs) → run s (drop at code) stack vars turns state ≡ whole → IsSome whole → length code ≤ at → ⊥
run_ends s code at stack vars turns state whole same some beyond =
    false≢true (subst (λ (r : Runs). IsSome r) (sym same ∙ ap (λ (is : List Instr). run s is stack vars turns state) (drop_all at code beyond)) some)
