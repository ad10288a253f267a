-- Runs from one place to another in so many steps: what is left until a turn is spent, and more for each turn.
use Rattle.std.proofs.Common.{◌≡◌, ◌≤◌, ◌+◌, ◌-◌, ◌*◌, ℕ, suc, List, Some, slice_get, ap, subst, ◌∙◌, add_assoc, zero-add, mul-le-mul_left, arith}
use Rattle.sdg_base.specs.declared.val.Val.{Val}
use Rattle.state_classes.specs.States.{State}
use Rattle.flat_code.specs.declared.graph.Instr.{Instr}
use Rattle.flat_code.specs.declared.graph.Instr.TheVariants as instr
use Rattle.flat_code.specs.Machine.{Setting, Frame, Ending, run_within}
use Rattle.code_meaning.specs.Laid.{frame, Leads, EndsSo}
use Rattle.code_meaning.specs.Resting.{EndsIn}
use Rattle.code_meaning.proofs.Running.{one_turn}

few_in : (size more left later s t0 t1 : ℕ) → t1 ≤ t0 → s + size * t1 ≤ size * suc t0 → size + later ≤ left → s + later + (size + more) * t1 ≤ left + (size + more) * t0
few_in size more left later s t0 t1 l h room = omega (arith, mul-le-mul_left more l)

few_within : (size whole left later s t0 t1 : ℕ) → size ≤ whole → t1 ≤ t0 → s + size * t1 ≤ size * suc t0 → size + later ≤ left → s + later + whole * t1 ≤ left + whole * t0
few_within size whole left later s t0 t1 w l h room =
    let e : size + (whole - size) ≡ whole = omega arith in
    subst (λ k. s + later + k * t1 ≤ left + k * t0) e (few_in size (whole - size) left later s t0 t1 l h room)

few_end_in : (size more left s t : ℕ) → s ≤ size * suc t → size ≤ left → s ≤ left + (size + more) * t
few_end_in size more left s t h room = let z : 0 ≤ t = omega arith in omega (arith, mul-le-mul_left more z)

few_end : (size whole left s t : ℕ) → size ≤ whole → s ≤ size * suc t → size ≤ left → s ≤ left + whole * t
few_end size whole left s t w h room =
    let e : size + (whole - size) ≡ whole = omega arith in
    subst (λ k. s ≤ left + k * t) e (few_end_in size (whole - size) left s t h room)

few_turned : (whole left later s t0 t1 : ℕ) → s + 1 + whole * suc t1 ≤ left + whole * t0 → later ≤ whole → (s + 1) + later + whole * t1 ≤ left + whole * t0
few_turned whole left later s t0 t1 h l = omega arith

-- A run leads from one frame and state to another; so many steps may come before the next turn there, and so many from here.
pub record Reaches (s : Setting) (code : List Instr) (whole left later : ℕ) (f : Frame) (state : State) (g : Frame) (next : State) : Type 0 where
  pub steps : ℕ
  pub same : (n : ℕ) → run_within (steps + n) s code f state ≡ run_within n s code g next
  pub falls : g.turns ≤ f.turns
  pub few : steps + later + whole * g.turns ≤ left + whole * f.turns

module _ (s : Setting) (code : List Instr) (whole : ℕ) where
  pub reaches_by : {n left later : ℕ} {f g : Frame} {a b : State} → n ≤ whole → n + later ≤ left → Leads s code n f a g b → Reaches s code whole left later f a g b
  reaches_by {n} {left} {later} {f} {g} room fits p =
      record { steps = p.steps; same = p.same; falls = p.falls; few = few_within n whole left later p.steps f.turns g.turns room p.falls p.few fits }

  pub reaches_here : {left later : ℕ} {f : Frame} {a : State} → later ≤ left → Reaches s code whole left later f a f a
  reaches_here {left} {later} {f} {a} fits = record { steps = 0; same = λ n. ap (λ k. run_within k s code f a) (zero-add n); falls = omega arith; few = omega arith }

  pub reaches_on : {left mid later : ℕ} {f g h : Frame} {a b c : State} → Reaches s code whole left mid f a g b → Reaches s code whole mid later g b h c → Reaches s code whole left later f a h c
  reaches_on {left} {mid} {later} {f} {g} {h} {a} {b} {c} p q = record {
    steps = p.steps + q.steps;
    same = λ n. ap (λ k. run_within k s code f a) (add_assoc p.steps q.steps n) ∙ p.same (q.steps + n) ∙ q.same n;
    falls = omega (arith, p.falls, q.falls);
    few = (let x = p.few in let y = q.few in omega arith);
  }

  -- A turn is spent, and as many steps as ever may come behind it.
  pub reaches_turned : {left later : ℕ} {f : Frame} {a b : State} {at turns : ℕ} {stack variables : List Val} → later ≤ whole → slice_get code at ≡ Some instr.Turn → Reaches s code whole left 1 f a (frame at stack variables (suc turns)) b
      → Reaches s code whole left later f a (frame (at + 1) stack variables turns) b
  reaches_turned {left} {later} {f} {a} {b} {at} {turns} {stack} {variables} room is p = record {
    steps = p.steps + 1;
    same = λ n. ap (λ k. run_within k s code f a) (add_assoc p.steps 1 n) ∙ p.same (1 + n) ∙ one_turn s code at turns stack variables b is n;
    falls = (let x = p.falls in omega arith);
    few = few_turned whole left later p.steps f.turns turns p.few room;
  }

  pub ends_by : {n left : ℕ} {f g : Frame} {a b : State} {ending : Ending} → n ≤ whole → n ≤ left → EndsSo s code n f a ending g b → EndsIn s code (left + whole * f.turns) f a ending g b
  ends_by {n} {left} {f} room fits p = record { steps = p.steps; same = p.same; few = few_end n whole left p.steps f.turns room p.few fits }

  pub ends_reached : {left later : ℕ} {f g h : Frame} {a b c : State} {ending : Ending} → Reaches s code whole left later f a g b → EndsIn s code (later + whole * g.turns) g b ending h c → EndsIn s code (left + whole * f.turns) f a ending h c
  ends_reached {left} {later} {f} {g} {h} {a} {b} {c} p q = record {
    steps = p.steps + q.steps;
    same = λ n. ap (λ k. run_within k s code f a) (add_assoc p.steps q.steps n) ∙ p.same (q.steps + n) ∙ q.same n;
    few = (let x = p.few in let y = q.few in omega arith);
  }
