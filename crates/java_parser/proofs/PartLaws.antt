-- The conditions and values of statements: what reading them takes, and that their tokens are read as them.
use Rattle.std.proofs.Common.{◌≡◌, ℕ, ◌≤◌, true, [], ◌∷◌, ◌++◌, Option, Some, None, Ok, inl, inr, refl, sym, ap, ◌∙◌, append_assoc, arith}
use Rattle.java_tree.specs.declared.tree.Expr.{Expr}
use Rattle.java_tree.specs.declared.tree.Value.{Value}
use Rattle.java_tree.specs.Tokens.{Kinds, in_parentheses, expr_tokens, value_tokens, returned}
use Rattle.java_tree.specs.Placed.{is_placed_expr}
use Rattle.java_tree.specs.Heights.{expr_height}
use Rattle.java_parser.specs.Words.{begins, after}
use Rattle.java_parser.specs.Members.{semicolon, open_paren, close_paren}
use Rattle.java_parser.specs.Expressions.{expr_at, value_at}
use Rattle.java_parser.specs.Statements.{test_at, returned_at}
use Rattle.java_parser.proofs.Laws.{bind_ok, chosen, then_is, Takes, Keeps, Again, Any, given, kept, after_takes, after_again, begins_same}
use Rattle.java_parser.proofs.ExpressionLaws.{expr_takes, expr_keeps, expr_again, value_takes, value_keeps, value_again, value_not_semicolon}
use Rattle.java_parser.proofs.Ends.{semicolon_ends, paren_ends}
use Rattle.java_parser.proofs.LocalLaws.{ValueFits}

abbrev pub TestFits : ℕ → Expr → Type 0
TestFits n c = (is_placed_expr c ≡ true) × (expr_height c ≤ n)

abbrev pub test_tokens : Expr → Kinds
test_tokens c = in_parentheses (expr_tokens c)

pub test_takes : (n : ℕ) → Takes (test_at n) test_tokens
unfolding test_at
test_takes n ks x e =
    let a = bind_ok (after (open_paren ∷ []) ks) _ x e in
    let b = bind_ok (expr_at n a.0) _ x a.2 in
    let c = bind_ok (after (close_paren ∷ []) b.0.1) _ x b.2 in
    given test_tokens ks (b.0.0, c.0) x c.2
    (after_takes (open_paren ∷ []) ks a.0 a.1 ∙ ap (λ (t : Kinds). open_paren ∷ t) (expr_takes n a.0 b.0 b.1 ∙ ap (λ (t : Kinds). expr_tokens b.0.0 ++ t) (after_takes (close_paren ∷ []) b.0.1 c.0 c.1)
    ∙ sym (append_assoc (expr_tokens b.0.0) (close_paren ∷ []) c.0)))

pub test_keeps : (n : ℕ) → Keeps (test_at n) (TestFits n)
unfolding test_at
test_keeps n ks x e =
    let a = bind_ok (after (open_paren ∷ []) ks) _ x e in
    let b = bind_ok (expr_at n a.0) _ x a.2 in
    let c = bind_ok (after (close_paren ∷ []) b.0.1) _ x b.2 in
    kept (TestFits n) (b.0.0, c.0) x c.2 (expr_keeps n a.0 b.0 b.1)

pub test_again : (n : ℕ) → Again (test_at n) test_tokens (TestFits n) Any
unfolding test_at
test_again n c rest p g =
    ap (λ (t : Kinds). test_at n (open_paren ∷ t)) (append_assoc (expr_tokens c) (close_paren ∷ []) rest)
    ∙ then_is _ _ (expr_tokens c ++ (close_paren ∷ rest)) _ (after_again (open_paren ∷ []) _ refl)
    (then_is _ _ (c, close_paren ∷ rest) _ (expr_again n c (close_paren ∷ rest) p (paren_ends rest).ended)
    (then_is _ _ rest _ (after_again (close_paren ∷ []) rest refl) refl))

pub returned_takes : (n : ℕ) → Takes (returned_at n) returned
unfolding returned_at
returned_takes n ks x e =
    elim (chosen (begins semicolon ks) (Ok (None, ks)) _ (Ok x) e) [
      | inl h ↦ given returned ks (None, ks) x h.1 refl
      | inr h ↦ let a = bind_ok (value_at n ks) _ x h.1 in given returned ks (Some a.0.0, a.0.1) x a.2 (value_takes n ks a.0 a.1)
    ]

pub returned_keeps : (n : ℕ) → Keeps (returned_at n) (ValueFits n)
unfolding returned_at
returned_keeps n ks x e =
    elim (chosen (begins semicolon ks) (Ok (None, ks)) _ (Ok x) e) [
      | inl h ↦ kept (ValueFits n) (None, ks) x h.1 (refl, omega arith)
      | inr h ↦ let a = bind_ok (value_at n ks) _ x h.1 in kept (ValueFits n) (Some a.0.0, a.0.1) x a.2 (value_keeps n ks a.0 a.1)
    ]

pub returned_again : (n : ℕ) (v : Option Value) (rest : Kinds) → ValueFits n v → returned_at n (returned v ++ (semicolon ∷ rest)) ≡ Ok (v, semicolon ∷ rest)
unfolding returned_at
returned_again n None rest p = rw (begins_same semicolon rest refl) refl
returned_again n (Some v) rest p =
    let read = value_again n v (semicolon ∷ rest) p (semicolon_ends rest).ended in
    rw (value_not_semicolon n (value_tokens v ++ (semicolon ∷ rest)) (v, semicolon ∷ rest) read) (then_is _ _ (v, semicolon ∷ rest) _ read refl)
