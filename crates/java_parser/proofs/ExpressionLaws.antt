-- Expressions, values and calls: what reading them takes and gives, that their tokens are read as them where they end, and
-- what they cannot begin with.
use Rattle.std.proofs.Common.{◌≡◌, ℕ, suc, ◌≤◌, Bool, true, false, [], ◌∷◌, ◌++◌, codes, Ok, refl, sym, ap, subst, ◌∙◌, arith}
use Rattle.java_tree.specs.declared.token.Kind.TheVariants as k
use Rattle.java_tree.specs.declared.tree.Expr.{Expr, out-Expr, roll-Expr, roll-out-Expr}
use Rattle.java_tree.specs.declared.tree.Expr.TheVariants as expr
use Rattle.java_tree.specs.declared.tree.Value.{Value}
use Rattle.java_tree.specs.declared.tree.CallForm.{CallForm}
use Rattle.java_tree.specs.declared.tree.CallForm.TheOpen.{Expr-F}
use Rattle.java_tree.specs.declared.tree.CallForm.TheOpen as layer
use Rattle.java_tree.specs.Tokens.{Kinds, expr_tokens, value_tokens, call_tokens}
use Rattle.java_tree.specs.Placed.{is_placed_expr, is_placed_value, is_placed_call}
use Rattle.java_tree.specs.Heights.{expr_height, value_height, call_height}
use Rattle.java_parser.specs.Words.{same_token, begins}
use Rattle.java_parser.specs.Members.{at_sign, semicolon, optional_at}
use Rattle.java_parser.specs.Expressions.{opening_of, begins_expr, follows, all_rows, called_in, value_in, call_of, read_at, expr_at, value_at, call_at}
use Rattle.java_parser.proofs.Laws.{bind_ok, same_Ok, then_is, Takes, Keeps, Again}
use Rattle.java_parser.proofs.Around.{optional, optional_takes}
use Rattle.java_parser.proofs.TreeTokens.{called_tokens}
use Rattle.java_parser.proofs.Sound.{Sound}
use Rattle.java_parser.proofs.ExprTakes.{Taken, read_takes, called_reads, value_reads}
use Rattle.java_parser.proofs.Follows.{not_opened}
use Rattle.java_parser.proofs.Splits.{in_called}
use Rattle.java_parser.proofs.ExprAgain.{Deeper, read_opens, read_again, value_again as value_in_again, called_again}

-- whether an expression may end before these tokens
abbrev pub ends : Kinds → Bool
ends rest = follows 0 rest

abbrev pub IsExpr : ℕ → Expr → Type 0
IsExpr n x = (is_placed_expr x ≡ true) × (expr_height x ≤ n)

abbrev pub IsValue : ℕ → Value → Type 0
IsValue n v = (is_placed_value v ≡ true) × (value_height v ≤ n)

abbrev pub IsCall : ℕ → CallForm → Type 0
IsCall n c = (is_placed_call c ≡ true) × (call_height c ≤ suc n)

deeper : (n : ℕ) → Deeper n (read_at n)
deeper n = record { again = read_again n; opens = read_opens n }

-- ---- expressions

pub expr_takes : (n : ℕ) → Takes (expr_at n) expr_tokens
expr_takes n ks x e = (read_takes n 11 (omega arith) ks x e).spelled

pub expr_keeps : (n : ℕ) → Keeps (expr_at n) (IsExpr n)
expr_keeps n ks x e = let i = (read_takes n 11 (omega arith) ks x e).sound in (i.placed, i.height)

pub expr_again : (n : ℕ) → Again (expr_at n) expr_tokens (IsExpr n) (λ rest. ends rest ≡ true)
expr_again n x rest p f = read_again n 11 x rest (omega arith) (record { placed = p.0; tight = omega arith; height = p.1 }) f

pub expr_begins : (n : ℕ) (ks : Kinds) (x : Expr × Kinds) → expr_at n ks ≡ Ok x → begins_expr ks ≡ true
expr_begins n ks x e = read_opens n 11 ks x e

pub expr_not_semicolon : (n : ℕ) (ks : Kinds) (x : Expr × Kinds) → expr_at n ks ≡ Ok x → begins semicolon ks ≡ false
unfolding opening_of
expr_not_semicolon n ks x e = not_opened semicolon ks (λ t. refl) (expr_begins n ks x e)

-- ---- values

pub value_takes : (n : ℕ) → Takes (value_at n) value_tokens
value_takes n ks x e = (value_reads n (read_at n) (read_takes n) ks x e).spelled

pub value_keeps : (n : ℕ) → Keeps (value_at n) (IsValue n)
value_keeps n ks x e = let i = (value_reads n (read_at n) (read_takes n) ks x e).sound in (i.placed, i.height)

pub value_again : (n : ℕ) → Again (value_at n) value_tokens (IsValue n) (λ rest. ends rest ≡ true)
value_again n v rest p f = value_in_again n (read_at n) (deeper n) v rest (record { placed = p.0; height = p.1 }) f

at_no_semicolon : (ks rest : Kinds) → ks ≡ at_sign ∷ rest → begins semicolon ks ≡ false
unfolding begins same_token
at_no_semicolon ks rest h = rw h refl

value_starts : (n : ℕ) (ks : Kinds) (is_global : Bool) (x : Expr × Kinds) (rest : Kinds) → ks ≡ optional at_sign (k.Identifier (codes "Global") ∷ []) is_global ++ rest → expr_at n rest ≡ Ok x → begins semicolon ks ≡ false
value_starts n ks true x rest is e = at_no_semicolon ks (k.Identifier (codes "Global") ∷ rest) is
value_starts n ks false x rest is e = let same : ks ≡ rest = is in rw same (expr_not_semicolon n rest x e)

pub value_not_semicolon : (n : ℕ) (ks : Kinds) (x : Value × Kinds) → value_at n ks ≡ Ok x → begins semicolon ks ≡ false
unfolding value_in
value_not_semicolon n ks x e =
    let a = bind_ok (optional_at at_sign (k.Identifier (codes "Global") ∷ []) ks) _ x e in
    let b = bind_ok (read_at n all_rows a.0.1) _ x a.2 in
    value_starts n ks a.0.0 b.0 a.0.1 (optional_takes at_sign (k.Identifier (codes "Global") ∷ []) ks a.0 a.1) b.1

-- ---- calls

-- an expression that is the call that was given
call_is : (l : Expr-F CallForm Expr Value) (rest : Kinds) (c : CallForm × Kinds) → call_of l rest ≡ Ok c → (l ≡ layer.Call c.0) × (rest ≡ c.1)
call_is (layer.Call d) rest c e = let same = same_Ok (d, rest) c e in (ap (λ (z : CallForm × Kinds). layer.Call z.0) same, ap (λ (z : CallForm × Kinds). z.1) same)
call_is _ rest c e = absurd cc

expr_is : (x : Expr) (c : CallForm) → out-Expr x ≡ layer.Call c → x ≡ expr.Call c
expr_is x c h = sym (roll-out-Expr x) ∙ ap roll-Expr h ∙ expr.rolls-Call c

pair : {A B : Type 0} (a b : A) (x y : B) → a ≡ b → x ≡ y → ◌≡◌ {A = A × B} (a, x) (b, y)
pair a b x y e f = cc

-- what was read as an expression is the call
call_reads : (n : ℕ) (ks : Kinds) (c : CallForm × Kinds) → call_at n ks ≡ Ok c → Taken expr_tokens (Sound (suc n) 0) ks (expr.Call c.0, c.1)
unfolding call_at
call_reads n ks c e =
    let a = bind_ok (called_in (read_at n) ks) _ c e in
    let i = called_reads n (read_at n) (read_takes n) ks a.0 a.1 in
    let p = call_is (out-Expr a.0.0) a.0.1 c a.2 in
    let same : ◌≡◌ {A = Expr × Kinds} a.0 (expr.Call c.0, c.1) = pair a.0.0 (expr.Call c.0) a.0.1 c.1 (expr_is a.0.0 c.0 p.0) p.1 in
    subst (λ (z : Expr × Kinds). Taken expr_tokens (Sound (suc n) 0) ks z) same i

pub call_takes : (n : ℕ) → Takes (call_at n) call_tokens
call_takes n ks c e = (call_reads n ks c e).spelled ∙ ap (λ (t : Kinds). t ++ c.1) (called_tokens c.0)

pub call_keeps : (n : ℕ) → Keeps (call_at n) (IsCall n)
call_keeps n ks c e = let i = in_called n 0 c.0 (call_reads n ks c e).sound in (i.placed, i.height)

pub call_again : (n : ℕ) → Again (call_at n) call_tokens (IsCall n) (λ rest. Unit {0})
unfolding call_at
call_again n c rest p f = then_is _ _ (expr.Call c, rest) _ (called_again n (read_at n) (deeper n) c rest (record { placed = p.0; height = p.1 })) (rw (expr.outs-Call c) refl)
