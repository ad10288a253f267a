-- What a step leaves and answers.
use Rattle.std.specs.Prelude.{◌≡◌, List, Option, Some, None, Result, Ok, Err}
use Rattle.sdg_base.specs.declared.call.Call.{Call}
use Rattle.sdg_base.specs.declared.call.Step.{Step}
use Rattle.access_blocks.specs.declared.body.Program.{Program}
use Rattle.access_blocks.specs.Source as source
use Rattle.source_run.specs.declared.step_error.StepError.{StepError}
use Rattle.source_run.specs.declared.step_error.StepError.TheVariants as error

-- the error that tells a refusal
abbrev pub AsRefused : Option source.Refusal → StepError → Type 0
AsRefused refusal error.Unknown = refusal ≡ Some source.Unknown
AsRefused refusal error.NoInstance = refusal ≡ Some source.NoInstance
AsRefused refusal (error.NotNext call) = refusal ≡ Some (source.NotNext call)
AsRefused refusal error.Memory = ⊥

-- Where memory was short the source is spent. A step that is refused changes nothing.
abbrev pub Fails : source.Source → Step → StepError → Option source.Source → Type 0
Fails now step error.Memory new = new ≡ None
Fails now step e new = (AsRefused (source.refusal now step) e) × (new ≡ Some now)

-- a step of a program's source on these calls: what there was, what it left and what it answered
abbrev pub After : Program → List Call → Step → Option source.Source → Option source.Source → Result (Unit {0}) StepError → Type 0
After program calls step None new r = (new ≡ None) × (r ≡ Err error.Memory)
After program calls step (Some now) new (Ok done) = (next : source.Source) × ((source.Steps program calls now step next) × (new ≡ Some next))
After program calls step (Some now) new (Err e) = Fails now step e new
