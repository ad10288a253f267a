-- What readers of expressions say: what is read, and how many of its levels it leaves. A function value that reads expressions on a number of
-- levels says both.
use Rattle.std.specs.Prelude.{◌≡◌, ℕ, ◌+◌, List, Result, IfOk, map}
use Rattle.std.specs.declared.alloc.Global.{Global}
use denote.Ref.{Bor}
use Rattle.java_tree.specs.declared.token.Token.{Token}
use Rattle.java_tree.specs.declared.tree.Expr.{Expr}
use Rattle.java_tree.specs.declared.tree.Value.{Value}
use Rattle.java_tree.specs.Heights.{greatest, expr_height, value_height}
use Rattle.java_parser.specs.declared.error.Refusal.{Refusal}
use Rattle.java_parser.specs.Words.{Reading, ReturnsReading, kinds}
use Rattle.java_parser.specs.Expressions.{read_at}

-- a thing, how many levels it leaves, and the tokens after it
abbrev pub Found : Type 0 → Type 0
Found A = A × ℕ × Bor (List Token)

unfoldable pub values_height : List Value → ℕ
values_height values = greatest (map value_height values)

abbrev pub Finds : {A : Type 0} → Result (Found A) Refusal → Reading A → Type 0
Finds r read = ReturnsReading (λ x. (x.0, kinds x.2.now)) r read

-- what is left of the levels around the thing
abbrev pub Measures : {A : Type 0} → (A → ℕ) → ℕ → Result (Found A) Refusal → Type 0
Measures height levels r = IfOk r (λ x. x.1 + height x.0 ≡ levels)

pub record Reads (levels : ℕ) (pre : Global → ℕ → ℕ → Bor (List Token) → Type 0)
    (post : Global → ℕ → ℕ → Bor (List Token) → Result (Found Expr) Refusal → Type 0) : Type 0 where
  pub callable : (alloc : Global) (looseness : ℕ) (tokens : Bor (List Token)) → pre alloc levels looseness tokens
  pub finds : (alloc : Global) (looseness : ℕ) (tokens : Bor (List Token)) (r : Result (Found Expr) Refusal) → post alloc levels looseness tokens r
      → Finds r (read_at levels looseness (kinds tokens.now))
  pub measures : (alloc : Global) (looseness : ℕ) (tokens : Bor (List Token)) (r : Result (Found Expr) Refusal) → post alloc levels looseness tokens r
      → Measures expr_height levels r
