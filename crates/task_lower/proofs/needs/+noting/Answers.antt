use Rattle.std.proofs.Common.{ℕ, List, ◌++◌, sym, ap, subst, ◌∙◌}
use Rattle.access_blocks.specs.declared.body.Expression.{Expression}
use Rattle.body_code.specs.Typing.{needs}
use Rattle.task_lower.specs.Early.{AreAlso}
use Rattle.task_lower.proofs.ReadSets.{also_both}
use Rattle.task_lower.proofs.Needed.{needs_conditional}
use Rattle.task_lower.proofs.needs.+noting.Goals as goal

pub note_reads-returns-in_ok-note_reads-in-Conditional-3 : goal.note_reads-returns-in_ok-note_reads-in-Conditional-3
note_reads-returns-in_ok-note_reads-in-Conditional-3 t c =
    let s0 = c.args.known.now in
    let s1 = c.note_reads-in-Conditional.new.known in
    let s2 = c.note_reads-in-Conditional-2.new.known in
    let s3 = c.note_reads-in-Conditional-3.new.known in
    let test = c.in-Conditional.test in
    let a = c.in-Conditional.a in
    let b = c.in-Conditional.b in
    let P : Expression → Type 0 = λ y. AreAlso (needs y).variables s0 s1 in
    let Q : Expression → Type 0 = λ y. AreAlso (needs y).variables s1 s2 in
    let R : Expression → Type 0 = λ y. AreAlso (needs y).variables s2 s3 in
    let W : List ℕ → Type 0 = λ vs. AreAlso vs s0 s3 in
    subst W (sym (ap (λ y. (needs y).variables) c.in-Conditional.is ∙ needs_conditional test a b))
    (also_both (needs test).variables ((needs a).variables ++ (needs b).variables) s0 s1 s3 (subst P c.get-in-Conditional.ensures c.in_ok-note_reads-in-Conditional.ensures)
    (also_both (needs a).variables (needs b).variables s1 s2 s3 (subst Q c.get-in-Conditional-2.ensures c.in_ok-note_reads-in-Conditional-2.ensures)
    (subst R c.get-in-Conditional-3.ensures c.in_ok-note_reads-in-Conditional-3.ensures)))
