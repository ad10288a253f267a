-- What a function value that calls methods says.
use Rattle.std.specs.Prelude.{ℕ, List, Result}
use Rattle.std.specs.declared.alloc.Global.{Global}
use Rattle.std.specs.declared.vec.Vec.{Vec}
use denote.Ref.{Bor}
use Rattle.sdg_base.specs.declared.val.Val.{Val}
use Rattle.access_blocks.specs.declared.body.Body.{Body}
use Rattle.access_blocks.specs.Calls.{calls_within}
use Rattle.body_run.specs.declared.stop.Stop.{Stop}
use Rattle.body_run.specs.Seen.{Evaluates}

-- on methods, so deep at most
pub record Calls (methods : Bor (List Body)) (depth : ℕ) (pre : Global → Bor (List Body) → ℕ → ℕ → Vec Val Global → Bor (List Val) → ℕ → Type 0)
    (post : Global → Bor (List Body) → ℕ → ℕ → Vec Val Global → Bor (List Val) → ℕ → Result (Val × ℕ) Stop → Type 0) : Type 0 where
  pub callable : (alloc : Global) (m : ℕ) (args : Vec Val Global) (gathered : Bor (List Val)) (turns : ℕ) → pre alloc methods depth m args gathered turns
  pub gives : (alloc : Global) (m : ℕ) (args : Vec Val Global) (gathered : Bor (List Val)) (turns : ℕ) (r : Result (Val × ℕ) Stop) → post alloc methods depth m args gathered turns r
      → Evaluates (λ v. v) r (calls_within depth methods.now m args.items gathered.now turns)
