-- What a function value that reads statements on a number of levels says.
use Rattle.std.specs.Prelude.{ℕ, List, Result}
use Rattle.std.specs.declared.alloc.Global.{Global}
use denote.Ref.{Bor}
use Rattle.java_tree.specs.declared.token.Token.{Token}
use Rattle.java_tree.specs.declared.tree.Stmt.{Stmt}
use Rattle.java_parser.specs.declared.error.Refusal.{Refusal}
use Rattle.java_parser.specs.Words.{ReturnsReading, kinds}
use Rattle.java_parser.specs.Statements.{statement_at}

pub record ReadsStatements (levels : ℕ) (pre : Global → ℕ → Bor (List Token) → Type 0) (post : Global → ℕ → Bor (List Token) → Result (Stmt × Bor (List Token)) Refusal → Type 0) : Type 0 where
  pub callable : (alloc : Global) (tokens : Bor (List Token)) → pre alloc levels tokens
  pub reads : (alloc : Global) (tokens : Bor (List Token)) (r : Result (Stmt × Bor (List Token)) Refusal) → post alloc levels tokens r
      → ReturnsReading (λ x. (x.0, kinds x.1.now)) r (statement_at levels (kinds tokens.now))
