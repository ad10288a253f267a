use Rattle.std.proofs.Common.{◌≡◌, ◌+◌, Some, List, [], ◌∷◌, ◌++◌, map, take, refl, sym, ap, subst, ◌∙◌, arith}
use Rattle.access_blocks.specs.declared.body.Statement.{Statement}
use Rattle.flat_code.specs.declared.graph.Instr.TheVariants as instr
use Rattle.body_code.specs.Codes.{plain}
use Rattle.body_code.specs.ExpressionCode.{code_of}
use Rattle.body_code.specs.StatementCode.{branches, of_code, key_code, in_order, next_pass, tested, passes, pass, piece_of}
use Rattle.task_lower.specs.declared.draft.Draft.{Draft}
use Rattle.task_lower.specs.declared.draft.Hole.{Hole}
use Rattle.task_lower.specs.Drafting.{Emits}
use Rattle.task_lower.proofs.Listed.{taken_more}
use Rattle.task_lower.proofs.Looped.{loop_emitted, listed_emitted}
use Rattle.task_lower.proofs.Emitted.{code_emitted, guarded_emitted, jumped_emitted, pass_emitted, passes_emitted, marked_emitted, alone_emitted, else_emitted}
use Rattle.task_lower.proofs.statements.+lowering.Goals as goal

pub guarded-returns : goal.guarded-returns
guarded-returns t c =
    let s0 = c.args.draft.now in
    let s1 : Draft = record { code = c.branch-draft.new.code; tasks = s0.tasks; variables = s0.variables } in
    let s2 = c.statement.new.draft in
    let s3 : Draft = record { code = c.branch_behind.new.code; tasks = s2.tasks; variables = s2.variables } in
    guarded_emitted c.args.over (piece_of c.args.scope.now c.args.body.now) s0 s1 s2 s3 c.in_ok-holes.holes c.in_ok-at.at c.in_ok-at.ensures.at c.in_ok-at.ensures.code refl refl c.in_ok-holes.ensures
    c.in_ok-branch_behind.ensures refl refl

pub jumped_over-returns : goal.jumped_over-returns
jumped_over-returns t c =
    let s0 = c.args.draft.now in
    let s1 : Draft = record { code = c.leave.new.code; tasks = s0.tasks; variables = s0.variables } in
    let s2 = c.statement.new.draft in
    let s3 : Draft = record { code = c.leave_behind.new.code; tasks = s2.tasks; variables = s2.variables } in
    jumped_emitted (piece_of c.args.scope.now c.args.body.now) s0 s1 s2 s3 c.in_ok-holes.holes c.in_ok-at.at c.in_ok-at.ensures.at c.in_ok-at.ensures.code refl refl c.in_ok-holes.ensures
    c.in_ok-leave_behind.ensures refl refl

pub if_alone-returns : goal.if_alone-returns
if_alone-returns t c =
    let s0 = c.args.draft.now in
    let scope = c.args.scope.now in
    let s1 : Draft = record { code = c.expression.new.code; tasks = s0.tasks; variables = s0.variables } in
    alone_emitted (code_of scope.context c.args.test.now) (piece_of scope c.args.first.now) s0 s1 c.guarded.new.draft c.in_ok-holes.holes c.in_ok-expression.ensures.code refl refl c.in_ok-holes.ensures

pub if_else-returns : goal.if_else-returns
if_else-returns t c =
    let s0 = c.args.draft.now in
    let scope = c.args.scope.now in
    let s1 : Draft = record { code = c.expression.new.code; tasks = s0.tasks; variables = s0.variables } in
    let first = piece_of scope c.args.first.now in
    let second = piece_of scope c.args.second.now in
    let test = code_of scope.context c.args.test.now in
    let P : List Hole → Type 0 = λ holes. Emits (branches test first (Some second)) s0 c.jumped_over.new.draft holes in
    subst P (sym c.in_ok-append.ensures)
    (else_emitted test first second s0 s1 c.guarded.new.draft c.jumped_over.new.draft c.in_ok-holes.holes c.in_ok-later.later c.in_ok-expression.ensures.code refl refl c.in_ok-holes.ensures
    c.in_ok-later.ensures)

pub marked-returns : goal.marked-returns
marked-returns t c =
    let scope = c.args.scope.now in
    marked_emitted (of_code (key_code scope c.args.before.now.key)) (piece_of scope c.args.body.now) c.args.draft.now c.mark.new.draft c.statement.new.draft c.in_ok-holes.holes c.in_ok-mark.ensures
    c.in_ok-holes.ensures

pub passes-returns : goal.passes-returns
passes-returns t c =
    let scope = c.args.scope.now in
    let ctx = scope.context in
    let test = c.args.test.now in
    let update = map (piece_of scope) c.args.update.now in
    let body = piece_of scope c.args.body.now in
    let s0 = c.args.draft.now in
    let s1 = c.tested.new.draft in
    let s2 : Draft = record { code = c.push.new.code; tasks = s1.tasks; variables = s1.variables } in
    let s3 = c.statement.new.draft in
    let s4 = c.statements.new.draft in
    let s5 : Draft = record { code = c.push-2.new.code; tasks = s4.tasks; variables = s4.variables } in
    let s6 : Draft = record { code = c.fill.new.code; tasks = s4.tasks; variables = s4.variables } in
    let again = c.in_ok-again.again in
    let t_holes = c.in_ok-holes.holes in
    let b_holes = c.in_ok-within.within in
    let u_holes = c.in_ok-later.later in
    let turned = code_emitted (plain (instr.Turn ∷ [])) s1 s2 c.in_ok-push.ensures refl refl in
    let back = code_emitted (plain (instr.Jump again ∷ [])) s4 s5 c.in_ok-push-2.ensures refl refl in
    let whole = pass_emitted ctx test update body again s0 s1 s2 s3 s4 s5 t_holes b_holes u_holes c.in_ok-holes.ensures turned c.in_ok-within.ensures c.in_ok-later.ensures back in
    let is_holes : c.append-2.new.self ≡ (t_holes ++ b_holes) ++ u_holes = c.in_ok-append-2.ensures ∙ ap (λ (hs : List Hole). hs ++ u_holes) c.in_ok-append.ensures in
    let P : List Hole → Type 0 = λ hs. Emits (pass ctx test update body again) s0 s5 hs in
    let l1 = c.in_ok-holes.ensures.long in
    let l2 = c.in_ok-push.ensures.long in
    let l3 = c.in_ok-within.ensures.long in
    let is_again = c.in_ok-again.ensures in
    let is_behind = c.in_ok-behind.ensures in
    let behind : c.in_ok-behind.behind ≡ again + (tested ctx test).size + 1 + body.size = omega (arith, l1, l2, l3, is_again, is_behind) in
    passes_emitted ctx test update body s0 s5 s6 c.append-2.new.self again c.in_ok-end.end c.next_pass-next.result is_again (subst P (sym is_holes) whole) c.in_ok-end.ensures
    (c.next_pass-next.ensures (piece_of scope) ∙ ap (λ n. next_pass again n update) behind) c.fill.ensures refl refl

pub statement-returns-in_ok-passes-in-Loop : goal.statement-returns-in_ok-passes-in-Loop
statement-returns-in_ok-passes-in-Loop t c =
    let scope = c.args.scope.now in
    let s0 = c.args.draft.now in
    let s1 = c.statements-in-Loop.new.draft in
    let s2 = c.passes.new.draft in
    let h = c.in_ok-holes-in-Loop.holes in
    let P : List Statement → Type 0 = λ xs. Emits (in_order (map (piece_of scope) xs)) s0 s1 h in
    let Q : List Statement → Type 0 = λ xs. Emits (passes scope.context c.in-Loop.test (map (piece_of scope) xs) (piece_of scope c.get-in-Loop.result.now)) s1 s2 [] in
    let R : Statement → Type 0 = λ x. Emits (passes scope.context c.in-Loop.test (map (piece_of scope) c.in-Loop.update) (piece_of scope x)) s1 s2 [] in
    loop_emitted scope c.in-Loop.start c.in-Loop.test c.in-Loop.update c.in-Loop.body c.args.st.now s0 s1 s2 h c.in-Loop.is (subst P c.as_slice-in-Loop.ensures c.in_ok-holes-in-Loop.ensures)
    (subst R c.get-in-Loop.ensures (subst Q c.as_slice-in-Loop-2.ensures c.in_ok-passes-in-Loop.ensures))

pub statements-loop-st-preserved : goal.statements-loop-st-preserved
statements-loop-st-preserved t c =
    let all = c.args.all.now in
    let i = c.loop-st.st-index in
    let x = c.st-item.result in
    listed_emitted c.args.scope.now (take i all) (take (i + 1) all) x c.args.draft.now c.loop-st.draft c.statement.new.draft c.loop-st.holes c.in_ok-more.more c.append.new.self
    (taken_more all i x (omega arith) c.st-item.is) c.in_ok-append.ensures c.loop-st.invariant c.in_ok-more.ensures
