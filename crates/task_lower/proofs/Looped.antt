-- Statements as the pieces that they are.
use Rattle.std.proofs.Common.{◌≡◌, List, [], ◌∷◌, ◌++◌, map, Option, sym, ap, subst, ◌∙◌}
use Rattle.std.proofs.lemmas.List.{append-nil}
use Rattle.access_blocks.specs.declared.body.Expression.{Expression}
use Rattle.access_blocks.specs.declared.body.Statement.{Statement}
use Rattle.access_blocks.specs.declared.body.Statement.TheOpen as s
use Rattle.access_blocks.specs.declared.body.Statement.TheVariants as statement
use Rattle.access_blocks.specs.declared.body.Statement.TheFolds.{fold-roll-Statement}
use Rattle.body_code.specs.StatementCode.{Scope, Piece, in_order, passes, piece_step, piece_of}
use Rattle.task_lower.specs.declared.draft.Draft.{Draft}
use Rattle.task_lower.specs.declared.draft.Hole.{Hole}
use Rattle.task_lower.specs.Drafting.{Emits}
use Rattle.task_lower.proofs.Listed.{mapped_more}
use Rattle.task_lower.proofs.Emitted.{then_emitted, snoc_emitted}

abbrev passes_of : Scope → Option Expression → List Statement → Statement → Piece
passes_of scope test update body = passes scope.context test (map (piece_of scope) update) (piece_of scope body)

pub loop_emitted : (scope : Scope) (start : List Statement) (test : Option Expression) (update : List Statement) (body st : Statement) (s0 s1 s2 : Draft) (h : List Hole)
    → st ≡ statement.Loop start test update body → Emits (in_order (map (piece_of scope) start)) s0 s1 h → Emits (passes_of scope test update body) s1 s2 [] → Emits (piece_of scope st) s0 s2 h
loop_emitted scope start test update body st s0 s1 s2 h is a b =
    let both = then_emitted (in_order (map (piece_of scope) start)) (passes_of scope test update body) s0 s1 s2 h [] a b in
    let P : Piece → Type 0 = λ p. Emits p s0 s2 (h ++ []) in
    let Q : List Hole → Type 0 = λ holes. Emits (piece_of scope st) s0 s2 holes in
    subst Q (append-nil h)
    (subst P
    (sym (ap (piece_of scope) is
    ∙ ap (piece_of scope) (sym (statement.rolls-Loop start test update body))
    ∙ fold-roll-Statement Piece (piece_step scope) (s.Loop start test update body)))
    both)

pub listed_emitted : (scope : Scope) (xs more : List Statement) (x : Statement) (s0 s1 s2 : Draft) (h g holes : List Hole) → more ≡ xs ++ x ∷ [] → holes ≡ h ++ g
    → Emits (in_order (map (piece_of scope) xs)) s0 s1 h → Emits (piece_of scope x) s1 s2 g → Emits (in_order (map (piece_of scope) more)) s0 s2 holes
listed_emitted scope xs more x s0 s1 s2 h g holes is_more is_holes a b =
    let P : List Piece → Type 0 = λ ps. Emits (in_order ps) s0 s2 holes in
    let Q : List Hole → Type 0 = λ hs. Emits (in_order (map (piece_of scope) xs ++ piece_of scope x ∷ [])) s0 s2 hs in
    subst P (sym (ap (map (piece_of scope)) is_more ∙ mapped_more (piece_of scope) xs x))
    (subst Q (sym is_holes) (snoc_emitted (map (piece_of scope) xs) (piece_of scope x) s0 s1 s2 h g a b))
