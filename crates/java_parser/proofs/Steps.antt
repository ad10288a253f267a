-- One step of a reading, as a loop takes it.
use Rattle.std.proofs.Common.{◌≡◌, Result, Ok, sym, ap, ◌∙◌}
use Rattle.java_parser.specs.declared.error.Refusal.{Refusal}
use Rattle.java_parser.specs.declared.error.Refusal.TheVariants as refusal
use Rattle.java_parser.specs.Words.{◌>>=◌, Fault, Fails}

-- a step that gives x leaves what is done with x
pub goes_on : {A B : Type 0} (r : Result A Fault) (x : A) (f : A → Result B Fault) (now whole : Result B Fault) → now ≡ (r >>= f) → r ≡ Ok x → now ≡ whole → f x ≡ whole
goes_on r x f now whole step h so_far = sym (ap (λ (o : Result _ Fault). o >>= f) h) ∙ sym step ∙ so_far

-- a step that fails ends it
pub fails : {A B : Type 0} (e : Refusal) (r : Result A Fault) (f : A → Result B Fault) (now whole : Result B Fault) → now ≡ (r >>= f) → Fails e r → now ≡ whole → Fails e whole
fails refusal.Memory r f now whole step h so_far = tt
fails (refusal.NoClass left) r f now whole step h so_far = sym so_far ∙ step ∙ ap (λ (o : Result _ Fault). o >>= f) h
fails (refusal.TooDeep left) r f now whole step h so_far = sym so_far ∙ step ∙ ap (λ (o : Result _ Fault). o >>= f) h
