-- Every run comes to a rest, and to one alone.
use Rattle.std.proofs.Common.{◌≡◌, ℕ, zero, suc, ◌≤◌, ◌<◌, List, inl, inr, ◌⊎◌, refl, sym, subst, ◌∙◌, arith}
use Rattle.access_blocks.specs.declared.body.Program.{Program}
use Rattle.access_blocks.specs.Calls.{calls_of}
use Rattle.access_blocks.specs.Expressions.{Calls}
use Rattle.access_blocks.specs.Source.{Frame, CallState, Move, Moves, Rests, move, Runs, Rest, Go}
use Rattle.access_blocks.specs.Statements.{Field, Machine}
use Rattle.plain_java.proofs.CallTurns.{calls_of_fall}
use Rattle.plain_java.proofs.Turns.{CallsFall}
use Rattle.resting_runs.specs.Resting.{Rested}
use Rattle.resting_runs.proofs.Falling.{Nearer, move_nearer}
use Rattle.resting_runs.proofs.Weights.{weight_of}

module _ (calls : Calls) (fall : CallsFall calls) where
  behind : (frames next : List Frame) (m n : Machine) → move calls frames m ≡ Moves next n → Rested calls next n → Rested calls frames m
  behind frames next m n is r = record { state = r.state; fields = r.fields; runs = Go frames next m n r.state r.fields is r.runs }

  abbrev RestsFrom : (turns left : ℕ) → Type 0
  RestsFrom turns left = (frames : List Frame) (m : Machine) → m.turns ≤ turns → weight_of frames < left → Rested calls frames m

  abbrev RestsBelow : ℕ → Type 0
  RestsBelow turns = (frames : List Frame) (m : Machine) → m.turns < turns → Rested calls frames m

  -- one move more
  moved_on : (turns left : ℕ) → RestsBelow turns → RestsFrom turns left → RestsFrom turns (suc left)
  moved_on turns left fewer closer frames m few less = by (move calls frames m) refl (move_nearer calls fall frames m)
    where
      next_rests : (next : List Frame) (n : Machine) → (n.turns < m.turns) ⊎ ((n.turns ≤ m.turns) × (weight_of next < weight_of frames)) → Rested calls next n
      next_rests next n (inl lower) = fewer next n (omega (arith, lower, few))
      next_rests next n (inr both) =
          let low = both.0 in
          let light = both.1 in
          closer next n (omega (arith, low, few)) (omega (arith, light, less))

      by : (v : Move) → move calls frames m ≡ v → Nearer v (weight_of frames) m.turns → Rested calls frames m
      by (Rests state fields) is nearer = record { state = state; fields = fields; runs = Rest frames m state fields is }
      by (Moves next n) is nearer = behind frames next m n is (next_rests next n nearer.is)

  within : (turns left : ℕ) → RestsBelow turns → RestsFrom turns left
  within turns zero fewer frames m few less = absurd (omega (arith, less))
  within turns (suc left) fewer frames m few less = moved_on turns left fewer (within turns left fewer) frames m few less

  below : (turns : ℕ) → RestsBelow turns
  below zero frames m few = absurd (omega (arith, few))
  below (suc turns) frames m few = within turns (suc (weight_of frames)) (below turns) frames m (omega (arith, few)) (omega arith)

pub rested : (program : Program) (frames : List Frame) (m : Machine) → Rested (calls_of program.methods) frames m
rested program frames m = below (calls_of program.methods) (calls_of_fall program.methods) (suc m.turns) frames m (omega arith)

-- ---- one rest

pub once : (calls : Calls) (frames : List Frame) (m : Machine) (a b : CallState) (fs gs : List Field) → Runs calls frames m a fs → Runs calls frames m b gs → (a ≡ b) × (fs ≡ gs)
once calls frames m a b fs gs (Rest _ _ _ _ p) (Rest _ _ _ _ q) = let same = sym p ∙ q in (cc, cc)
once calls frames m a b fs gs (Rest _ _ _ _ p) (Go _ next _ n _ _ q t) = let same = sym p ∙ q in absurd (cc)
once calls frames m a b fs gs (Go _ next _ n _ _ p r) (Rest _ _ _ _ q) = let same = sym p ∙ q in absurd (cc)
once calls frames m a b fs gs (Go _ next _ n _ _ p r) (Go _ other _ o _ _ q t) = once calls next n a b fs gs r (moved (sym q ∙ p) t)
  where
    moved : Moves other o ≡ Moves next n → Runs calls other o b gs → Runs calls next n b gs
    moved same run =
        let frames_same : other ≡ next = cc in
        let machine_same : o ≡ n = cc in
        subst (λ (k : Machine). Runs calls next k b gs) machine_same (subst (λ (f : List Frame). Runs calls f o b gs) frames_same run)
