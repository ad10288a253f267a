-- Single instructions: when each may run, and what it leads to.
use Rattle.std.specs.Prelude.{◌≡◌, ℕ, ◌<◌, List, [], ◌∷◌, length, Option, Some, None, IsSome, slice_set}
use Rattle.sdg_base.specs.declared.val.Val.{Val}
use Rattle.sdg_base.specs.declared.val.Num.{Num}
use Rattle.sdg_base.specs.declared.operator.BinOp.{BinOp}
use Rattle.sdg_base.specs.declared.port.Port.{Port}
use Rattle.sdg_base.specs.declared.port.Port.TheVariants as port
use Rattle.sdg_base.specs.declared.item.Item.{Item}
use Rattle.early_tables.specs.declared.method.Method.{Method}
use Rattle.early_tables.specs.States.{State, arity, call_on}
use Rattle.early_task_code.specs.declared.graph.Instr.{Instr}
use Rattle.early_task_code.specs.declared.out.Out.{Out}
use Rattle.early_task_code.specs.declared.out.Out.TheVariants as out
use Rattle.early_task_code.specs.declared.instructions.Step.{Step}
use Rattle.early_task_code.specs.declared.instructions.Step.TheVariants as step
use Rattle.early_task_code.specs.Machine.{Setting, Rest, Runs, perform, operated, casted, arguments}

-- A result is for the sink.
abbrev pub outputs_of : Out → List (Port × Item)
outputs_of (out.Send to x) = (to, x) ∷ []
outputs_of (out.Result x) = (port.Sink, x) ∷ []

-- What is sent is for a cell: only a result is for the sink.
abbrev pub IsAddressed : Out → Type 0
IsAddressed (out.Send port.Sink x) = ⊥
IsAddressed o = Unit {0}

-- what a run that gave this comes to
abbrev pub ran : Out → State → Runs
ran o state = Some (record { outputs = outputs_of o; state = state })

-- what the instructions behind give, or the end
abbrev pub leads : Rest → Step → Rest
leads next step.Next stack vars turns state = next stack vars turns state
leads next (step.End o) stack vars turns state = ran o state

-- where it ends the task, as it should
abbrev pub EndsAddressed : Step → Type 0
EndsAddressed step.Next = Unit {0}
EndsAddressed (step.End o) = IsAddressed o

-- An instruction may run where it gives something before some rest.
abbrev pub CanPerform : Setting → Instr → List Val → List Val → ℕ → State → Type 0
CanPerform s i stack vars turns state = (next : Rest) × IsSome (perform s i next stack vars turns state)

-- what it leads to, whatever is behind it
abbrev pub Performs : Setting → Instr → List Val → List Val → ℕ → State → List Val → List Val → ℕ → State → Step → Type 0
Performs s i stack vars turns state stack' vars' turns' state' to =
    (next : Rest) → perform s i next stack vars turns state ≡ leads next to stack' vars' turns' state'

-- ---- parts of it

-- a value goes onto the stack
pub record Pushes (o : Option Val) (old new : List Val) : Type 0 where
  pub value : Val
  pub is : o ≡ Some value
  pub stack : new ≡ value ∷ old

abbrev pub CanOperate : BinOp → Num → List Val → Type 0
CanOperate op num (b ∷ a ∷ stack) = IsSome (operated op num a b)
CanOperate op num _ = ⊥

abbrev pub Operates : BinOp → Num → List Val → List Val → Type 0
Operates op num (b ∷ a ∷ stack) new = Pushes (operated op num a b) stack new
Operates op num _ new = ⊥

abbrev pub CanCast : Num → List Val → Type 0
CanCast num (a ∷ stack) = IsSome (casted num a)
CanCast num [] = ⊥

abbrev pub Casts : Num → List Val → List Val → Type 0
Casts num (a ∷ stack) new = Pushes (casted num a) stack new
Casts num [] new = ⊥

abbrev pub CanStore : ℕ → List Val → List Val → Type 0
CanStore v (x ∷ stack) vars = v < length vars
CanStore v [] vars = ⊥

abbrev pub Stores : ℕ → List Val → List Val → List Val → List Val → Type 0
Stores v (x ∷ stack) vars stack' vars' = (stack' ≡ stack) × (vars' ≡ slice_set vars v x)
Stores v [] vars stack' vars' = ⊥

abbrev pub CanCall : Method → Option (List Val × List Val) → State → Type 0
CanCall m None state = ⊥
CanCall m (Some taken) state = IsSome (call_on m taken.0 state)

abbrev pub CanAccess : Method → List Val → State → Type 0
CanAccess m stack state = CanCall m (arguments (arity m) stack) state
