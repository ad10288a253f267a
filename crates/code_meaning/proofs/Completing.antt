-- One completion after the other.
use Rattle.std.proofs.Common.{◌≡◌, ◌≤◌, refl, sym, subst, ℕ, ◌+◌, arith, List, [], ◌∷◌, Some, slice_get}
use Rattle.sdg_base.specs.declared.val.Val.{Val}
use Rattle.sdg_base.specs.declared.value_type.ValueType.{ValueType}
use Rattle.sdg_base.specs.Types as values
use Rattle.state_classes.specs.States.{State}
use Rattle.flat_code.specs.declared.graph.Instr.TheVariants as instr
use Rattle.flat_code.specs.Machine.{Frame, pushed_result}
use Rattle.access_blocks.specs.Expressions.{Ended, Gives, Ends}
use Rattle.access_blocks.specs.Statements.{Machine, Completion, Normal, Breaks, Continues, Returns, Halts, Completed, completed, normal, with_turns, with_value, going_on, after, Running}
use Rattle.body_code.specs.StatementCode.{Exits}
use Rattle.body_code.specs.Checking.{Standing, Around}
use Rattle.code_meaning.specs.Laid.{frame, Leads}
use Rattle.code_meaning.specs.Evaluating.{IsValue, Evaluates}
use Rattle.code_meaning.specs.Running.{Below, Ground, FieldsAgree, Agrees, GoesTo, Completes}
use Rattle.code_meaning.proofs.Running.{one_step, stays, leads_on, ends_on, stops_on, wider, ends_wider, stops_wider}
use Rattle.code_meaning.proofs.Operands.{on_stack}
use Rattle.code_meaning.proofs.Agreeing.{agrees_below}

module _ {g : Ground} where
  -- ---- a run before

  goes_on : {na nb to : ℕ} {f h : Frame} {a b : State} {need : Standing} {m : Machine} → Leads g.setting g.code na f a h b → GoesTo g nb h b to need m → GoesTo g (na + nb) f a to need m
  goes_on p q = record { variables = q.variables; next = q.next; leads = leads_on g.setting g.code p q.leads; agrees = q.agrees }

  completing_on : {na nb to : ℕ} {f h : Frame} {a b : State} {loop : Around} {exits : Exits} {end : Standing} (m : Machine) (c : Completion) → Leads g.setting g.code na f a h b
      → Completes g loop exits nb h b to end (completed c m) → Completes g loop exits (na + nb) f a to end (completed c m)
  completing_on m Normal p q = record { does = goes_on p q.does }
  completing_on m Breaks p q = record { does = record { need = q.does.need; in_loop = q.does.in_loop; goes = goes_on p q.does.goes } }
  completing_on m Continues p q = record { does = record { need = q.does.need; in_loop = q.does.in_loop; goes = goes_on p q.does.goes } }
  completing_on m (Returns v) p q = record { does = record { last = q.does.last; next = q.does.next; ends = ends_on g.setting g.code p q.does.ends; turns = q.does.turns; falls = (let k = q.does.falls in let l = p.falls in omega arith); fields = q.does.fields; of_result = q.does.of_result } }
  completing_on m (Halts h) p q = record { does = record { next = q.does.next; stops = stops_on g.setting g.code p q.does.stops; fields = q.does.fields } }

  pub completes_on : {na nb to : ℕ} {f h : Frame} {a b : State} {loop : Around} {exits : Exits} {end : Standing} {c : Completed} → Leads g.setting g.code na f a h b
      → Completes g loop exits nb h b to end c → Completes g loop exits (na + nb) f a to end c
  completes_on {c = c} p q = completing_on c.machine c.completion p q

  -- ---- in more code

  goes_wider : {n k to : ℕ} {f : Frame} {a : State} {need : Standing} {m : Machine} → n ≤ k → GoesTo g n f a to need m → GoesTo g k f a to need m
  goes_wider l q = record { variables = q.variables; next = q.next; leads = wider g.setting g.code l q.leads; agrees = q.agrees }

  completing_wider : {n k to : ℕ} {f : Frame} {a : State} {loop : Around} {exits : Exits} {end : Standing} (m : Machine) (c : Completion) → n ≤ k
      → Completes g loop exits n f a to end (completed c m) → Completes g loop exits k f a to end (completed c m)
  completing_wider m Normal l q = record { does = goes_wider l q.does }
  completing_wider m Breaks l q = record { does = record { need = q.does.need; in_loop = q.does.in_loop; goes = goes_wider l q.does.goes } }
  completing_wider m Continues l q = record { does = record { need = q.does.need; in_loop = q.does.in_loop; goes = goes_wider l q.does.goes } }
  completing_wider m (Returns v) l q = record { does = record { last = q.does.last; next = q.does.next; ends = ends_wider g.setting g.code l q.does.ends; turns = q.does.turns; falls = q.does.falls; fields = q.does.fields; of_result = q.does.of_result } }
  completing_wider m (Halts h) l q = record { does = record { next = q.does.next; stops = stops_wider g.setting g.code l q.does.stops; fields = q.does.fields } }

  pub completes_wider : {n k to : ℕ} {f : Frame} {a : State} {loop : Around} {exits : Exits} {end : Standing} {c : Completed} → n ≤ k → Completes g loop exits n f a to end c → Completes g loop exits k f a to end c
  completes_wider {c = c} l q = completing_wider c.machine c.completion l q

  pub completes_to : {n at to : ℕ} {f : Frame} {a : State} {loop : Around} {exits : Exits} {end : Standing} {c : Completed} → at ≡ to → Completes g loop exits n f a at end c → Completes g loop exits n f a to end c
  completes_to {n} {f = f} {a = a} {loop = loop} {exits = exits} {end = end} {c = c} is q = subst (λ k. Completes g loop exits n f a k end c) is q

  -- ---- with less known

  completing_below : {n to : ℕ} {f : Frame} {a : State} {loop : Around} {exits : Exits} {end less : Standing} (m : Machine) (c : Completion) → Below end less
      → Completes g loop exits n f a to end (completed c m) → Completes g loop exits n f a to less (completed c m)
  completing_below m Normal l q = record { does = record { variables = q.does.variables; next = q.does.next; leads = q.does.leads; agrees = agrees_below l q.does.agrees } }
  completing_below m Breaks l q = record { does = q.does }
  completing_below m Continues l q = record { does = q.does }
  completing_below m (Returns v) l q = record { does = q.does }
  completing_below m (Halts h) l q = record { does = q.does }

  pub completes_below : {n to : ℕ} {f : Frame} {a : State} {loop : Around} {exits : Exits} {end less : Standing} {c : Completed} → Below end less → Completes g loop exits n f a to end c → Completes g loop exits n f a to less c
  completes_below {c = c} l q = completing_below c.machine c.completion l q

  -- ---- one after the other

  going_after : {na nb between to : ℕ} {f : Frame} {a : State} {loop : Around} {exits : Exits} {middle end : Standing} (m : Machine) (c : Completion) (run : Running)
      → Completes g loop exits na f a between middle (completed c m)
      → ((variables : List Val) (b : State) → Agrees g middle variables b m → Completes g loop exits nb (frame between [] variables m.turns) b to end (run m))
      → Completes g loop exits (na + nb) f a to end (going_on c m run)
  going_after m Normal run q more = completes_on q.does.leads (more q.does.variables q.does.next q.does.agrees)
  going_after m Breaks run q more = completing_wider m Breaks (omega arith) (record { does = q.does })
  going_after m Continues run q more = completing_wider m Continues (omega arith) (record { does = q.does })
  going_after m (Returns v) run q more = completing_wider m (Returns v) (omega arith) (record { does = q.does })
  going_after m (Halts h) run q more = completing_wider m (Halts h) (omega arith) (record { does = q.does })

  pub after_goes : {na nb between to : ℕ} {f : Frame} {a : State} {loop : Around} {exits : Exits} {middle end : Standing} (c : Completed) (run : Running)
      → Completes g loop exits na f a between middle c
      → ((variables : List Val) (b : State) → Agrees g middle variables b c.machine → Completes g loop exits nb (frame between [] variables c.machine.turns) b to end (run c.machine))
      → Completes g loop exits (na + nb) f a to end (after c run)
  after_goes c run q more = going_after c.machine c.completion run q more

  pub completes_already : {to : ℕ} {variables : List Val} {a : State} {loop : Around} {exits : Exits} {end : Standing} {m : Machine} → Agrees g end variables a m → Completes g loop exits 0 (frame to [] variables m.turns) a to end (normal m)
  completes_already {variables = variables} {a = a} h = record { does = record { variables = variables; next = a; leads = stays g.setting g.code; agrees = h } }

  -- ---- an expression, and what follows

  pub valued_goes : {na nb at to : ℕ} {f : Frame} {variables : List Val} {a : State} {loop : Around} {exits : Exits} {end : Standing} {stack : List Val} {t : ValueType} (x : Ended Val) (m : Machine) (k : Val → Machine → Completed)
      → FieldsAgree g a m → Evaluates g.setting g.code na f a at stack variables t x
      → ((v : Val) (left : ℕ) → values.type_of v ≡ t → left ≤ f.turns → Completes g loop exits nb (frame at (pushed_result v stack) variables left) a to end (k v (with_turns left m)))
      → Completes g loop exits (na + nb) f a to end (with_value x m k)
  valued_goes (Gives v left) m k fields q more = completes_on q.does.1 (more v left q.does.0 q.does.1.falls)
  valued_goes {a = a} (Ends h) m k fields q more = record { does = record { next = a; stops = stops_wider g.setting g.code (omega arith) q.does; fields = fields } }

  -- the same with a value on the stack
  pub value_goes : {na nb at to : ℕ} {f : Frame} {variables : List Val} {a : State} {loop : Around} {exits : Exits} {end : Standing} {stack : List Val} {t : ValueType} (x : Ended Val) (m : Machine) (k : Val → Machine → Completed)
      → IsValue t → FieldsAgree g a m → Evaluates g.setting g.code na f a at stack variables t x
      → ((v : Val) (left : ℕ) → values.type_of v ≡ t → left ≤ f.turns → Completes g loop exits nb (frame at (v ∷ stack) variables left) a to end (k v (with_turns left m)))
      → Completes g loop exits (na + nb) f a to end (with_value x m k)
  value_goes {nb = nb} {at = at} {to = to} {variables = variables} {a = a} {loop = loop} {exits = exits} {end = end} {stack = stack} {t = t} x m k value fields q more =
      valued_goes x m k fields q (λ v left has l. subst (λ st. Completes g loop exits nb (frame at st variables left) a to end (k v (with_turns left m))) (sym (on_stack t v stack value has)) (more v left has l))

  -- a jump behind a completion
  jumping : {n at to : ℕ} {f : Frame} {a : State} {loop : Around} {exits : Exits} {end : Standing} (m : Machine) (c : Completion) → slice_get g.code at ≡ Some (instr.Jump to)
      → Completes g loop exits n f a at end (completed c m) → Completes g loop exits (n + 1) f a to end (completed c m)
  jumping m Normal is q = record { does = record { variables = q.does.variables; next = q.does.next; leads = leads_on g.setting g.code q.does.leads (one_step g.setting g.code (instr.Jump _) is refl (omega arith)); agrees = q.does.agrees } }
  jumping m Breaks is q = completing_wider m Breaks (omega arith) (record { does = q.does })
  jumping m Continues is q = completing_wider m Continues (omega arith) (record { does = q.does })
  jumping m (Returns v) is q = completing_wider m (Returns v) (omega arith) (record { does = q.does })
  jumping m (Halts h) is q = completing_wider m (Halts h) (omega arith) (record { does = q.does })

  pub completes_jump : {n at to : ℕ} {f : Frame} {a : State} {loop : Around} {exits : Exits} {end : Standing} {c : Completed} → slice_get g.code at ≡ Some (instr.Jump to)
      → Completes g loop exits n f a at end c → Completes g loop exits (n + 1) f a to end c
  completes_jump {c = c} is q = jumping c.machine c.completion is q
