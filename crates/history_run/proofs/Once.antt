-- A step that is made leads to one source.
use Rattle.std.proofs.Common.{◌≡◌, ℕ, List, refl, sym, ◌∙◌, ap, subst}
use Rattle.sdg_base.specs.declared.call.Call.{Call}
use Rattle.sdg_base.specs.declared.call.Step.{Step}
use Rattle.sdg_base.specs.declared.call.Step.TheVariants.{Begin, Block, Visit, Join, Grow}
use Rattle.access_blocks.specs.declared.body.Program.{Program}
use Rattle.access_blocks.specs.Expressions.{Calls}
use Rattle.access_blocks.specs.Statements.{Field, Machine}
use Rattle.access_blocks.specs.Calls.{calls_of}
use Rattle.access_blocks.specs.Source.{Frame, CallState, Source, Move, Moves, Rests, move, Runs, Rest, Go, nth, Started, Goes, Stays, begun, block_run, visit_run, join_run, left, Leads, ByRunning, AtOnce, state_of, Steps}

-- ---- a call comes to rest in one state

-- A call that makes this move comes to rest so.
abbrev Comes : Calls → Move → CallState → List Field → Type 0
Comes calls (Rests state fields) s f = (state ≡ s) × (fields ≡ f)
Comes calls (Moves frames m) s f = Runs calls frames m s f

comes : (calls : Calls) (frames : List Frame) (m : Machine) (s : CallState) (f : List Field) → Runs calls frames m s f → Comes calls (move calls frames m) s f
comes calls frames m s f (Rest _ _ _ _ is) = subst (λ (x : Move). Comes calls x s f) (sym is) (refl, refl)
comes calls frames m s f (Go _ next _ n _ _ is later) = subst (λ (x : Move). Comes calls x s f) (sym is) later

pub runs_once : (calls : Calls) (frames : List Frame) (m : Machine) (s t : CallState) (f g : List Field) → Runs calls frames m s f → Runs calls frames m t g → (s ≡ t) × (f ≡ g)
runs_once calls frames m s t f g (Rest _ _ _ _ is) other = subst (λ (x : Move). Comes calls x t g) is (comes calls frames m t g other)
runs_once calls frames m s t f g (Go _ next _ n _ _ is later) other =
    runs_once calls next n s t f g later (subst (λ (x : Move). Comes calls x t g) is (comes calls frames m t g other))

-- ---- and the step leads to one source

-- What starts so leads to this source.
abbrev Led : Program → Source → ℕ → Started → Source → Type 0
Led program now c (Goes frames m) next = (state : CallState) × (fields : List Field) × Runs (calls_of program.methods) frames m state fields × (next ≡ left c state fields now)
Led program now c (Stays state fields) next = next ≡ left c state fields now

led : (program : Program) (now : Source) (c : ℕ) (started : Started) (next : Source) → Leads program now c started next → Led program now c started next
led program now c started next (ByRunning frames m state fields runs) = (state, fields, runs, refl)
led program now c started next (AtOnce state fields) = refl

same_left : (c : ℕ) (now : Source) (s t : CallState) (f g : List Field) → s ≡ t → f ≡ g → left c s f now ≡ left c t g now
same_left c now s t f g p q = ap (λ (x : CallState). left c x f now) p ∙ ap (λ (x : List Field). left c t x now) q

led_once : (program : Program) (now : Source) (c : ℕ) (started : Started) (a b : Source) → Led program now c started a → Led program now c started b → a ≡ b
led_once program now c (Goes frames m) a b p q =
    let same = runs_once (calls_of program.methods) frames m p.0 q.0 p.1 q.1 p.2 q.2 in
    p.3 ∙ same_left c now p.0 q.0 p.1 q.1 same.0 same.1 ∙ sym q.3
led_once program now c (Stays state fields) a b p q = p ∙ sym q

leads_once : (program : Program) (now : Source) (c : ℕ) (started : Started) (a b : Source) → Leads program now c started a → Leads program now c started b → a ≡ b
leads_once program now c started a b p q = led_once program now c started a b (led program now c started a p) (led program now c started b q)

pub steps_once : (program : Program) (calls : List Call) (now : Source) (step : Step) (a b : Source) → Steps program calls now step a → Steps program calls now step b → a ≡ b
steps_once program calls now (Begin c) a b p q = leads_once program now c (begun program now (nth calls c)) a b p.does q.does
steps_once program calls now (Block c i) a b p q = leads_once program now c (block_run now i (state_of now c)) a b p.does q.does
steps_once program calls now (Visit c i) a b p q = leads_once program now c (visit_run now i (state_of now c)) a b p.does q.does
steps_once program calls now (Join c) a b p q = leads_once program now c (join_run now (state_of now c)) a b p.does q.does
steps_once program calls now (Grow field) a b p q = p.does ∙ sym q.does
