-- The steps of a history up to a place have been made.
use Rattle.std.proofs.Common.{◌≡◌, ℕ, zero, suc, ◌+◌, ◌<◌, get_or, List, [], ◌∷◌, ◌++◌, length, take, Some, refl, sym, ◌∙◌, ap, subst, add-one}
use Rattle.std.specs.Prelude.{slice_get}
use Rattle.std.proofs.lemmas.Option.{same_Some, slice_get-get_or}
use Rattle.sdg_base.specs.declared.val.Outcome.{Outcome}
use Rattle.sdg_base.specs.declared.call.Call.{Call}
use Rattle.sdg_base.specs.declared.call.Step.{Step}
use Rattle.access_blocks.specs.declared.body.Program.{Program}
use Rattle.access_blocks.specs.Source.{Source, Steps, source_at_start}
use Rattle.run_text.specs.declared.told.History.{History}
use Rattle.source_run.specs.declared.source.Source.{Source as Kept}
use Rattle.source_run.specs.declared.step_error.StepError.{StepError}
use Rattle.source_run.specs.declared.step_error.StepError.TheVariants as error
use Rattle.source_run.specs.Sources.{given_to, program_of, source_of}
use Rattle.history_run.specs.Stepping.{Gives, Done}
use Rattle.history_run.specs.Made.{IsMade, IsNotMade, error_of, IsIllegal}
use Rattle.history_run.proofs.Legal.{gives_more}

-- The first steps of a history, so many, are legal, and they lead to what is kept, with these results.
pub record SoFar (program : Program) (calls : List Call) (history : History) (place : ℕ) (results : List (ℕ × Outcome)) (kept : Kept) : Type 0 where
  pub of_program : program_of kept ≡ program
  pub of_calls : given_to kept ≡ calls
  pub now : Source
  pub is : source_of kept ≡ Some now
  pub legal : Gives program calls (source_at_start program calls history.width) (take place history.steps) results now

take_more : {A : Type 0} (xs : List A) (i : ℕ) (x : A) → slice_get xs i ≡ Some x → take (suc i) xs ≡ take i xs ++ x ∷ []
take_more [] i x is = absurd cc
take_more (y ∷ xs) zero x is = ap (λ z. z ∷ []) (same_Some y x is)
take_more (y ∷ xs) (suc i) x is = ap (λ zs. y ∷ zs) (take_more xs i x is)

pub begun : (program : Program) (calls : List Call) (history : History) (kept : Kept) → source_of kept ≡ Some (source_at_start program calls history.width) → program_of kept ≡ program → given_to kept ≡ calls
    → SoFar program calls history 0 [] kept
begun program calls history kept is p g = record { of_program = p; of_calls = g; now = source_at_start program calls history.width; is = is; legal = Done (source_at_start program calls history.width) }

pub one_more : (program : Program) (calls : List Call) (history : History) (place : ℕ) (old new : List (ℕ × Outcome)) (kept left : Kept) (step : Step) (h : SoFar program calls history place old kept)
    → slice_get history.steps place ≡ Some step → IsMade (program_of kept) (given_to kept) h.now step old (source_of left) new → program_of left ≡ program_of kept → given_to left ≡ given_to kept
    → SoFar program calls history (place + 1) new left
one_more program calls history place old new kept left step h here made p g =
    let by_program : Steps program (given_to kept) h.now step made.next = subst (λ (x : Program). Steps x (given_to kept) h.now step made.next) h.of_program made.legal in
    let legal : Steps program calls h.now step made.next = subst (λ (x : List Call). Steps program x h.now step made.next) h.of_calls by_program in
    let start = source_at_start program calls history.width in
    let more = gives_more program calls start (take place history.steps) old h.now step made.next h.legal legal in
    let steps : take place history.steps ++ step ∷ [] ≡ take (place + 1) history.steps = sym (ap (λ n. take n history.steps) (add-one place) ∙ take_more history.steps place step here) in
    let by_results = subst (λ (xs : List (ℕ × Outcome)). Gives program calls start (take place history.steps ++ step ∷ []) xs made.next) (sym made.told) more in
    record { of_program = p ∙ h.of_program; of_calls = g ∙ h.of_calls; now = made.next; is = made.leads; legal = subst (λ (xs : List Step). Gives program calls start xs new made.next) steps by_results }

pub stopped : (program : Program) (calls : List Call) (history : History) (place : ℕ) (results : List (ℕ × Outcome)) (kept : Kept) (step : Step) (line : ℕ) (e : StepError) (h : SoFar program calls history place results kept)
    → slice_get history.steps place ≡ Some step → slice_get history.lines place ≡ Some line → IsNotMade h.now step e → IsIllegal program calls history (error_of e line)
stopped program calls history place results kept step line error.Memory h here number reason = tt
stopped program calls history place results kept step line error.Unknown h here number reason =
    record { place = place; illegal = record { results = results; now = h.now; legal = h.legal; step = step; here = here; reason = reason.0; refused = reason.1 }; number = number; rule_is = refl }
stopped program calls history place results kept step line error.NoInstance h here number reason =
    record { place = place; illegal = record { results = results; now = h.now; legal = h.legal; step = step; here = here; reason = reason.0; refused = reason.1 }; number = number; rule_is = refl }
stopped program calls history place results kept step line (error.NotNext c) h here number reason =
    record { place = place; illegal = record { results = results; now = h.now; legal = h.legal; step = step; here = here; reason = reason.0; refused = reason.1 }; number = number; rule_is = refl }

-- an element of a list that is read
pub read_at : {A : Type 0} (xs ys : List A) (i : ℕ) (d : A) → xs ≡ ys → i < length xs → slice_get ys i ≡ Some (get_or xs i d)
read_at xs ys i d same within = ap (λ zs. slice_get zs i) (sym same) ∙ slice_get-get_or xs i d within
