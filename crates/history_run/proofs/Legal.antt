-- Legal steps one after the other have one end and one list of results, and one step is the first that is not legal.
use Rattle.std.proofs.Common.{◌≡◌, ℕ, zero, suc, List, [], ◌∷◌, ◌++◌, take, Some, refl, sym, ◌∙◌, ap, subst, append_assoc}
use Rattle.std.proofs.lemmas.List.{append-nil}
use Rattle.std.proofs.lemmas.Option.{none-some, same_Some}
use Rattle.sdg_base.specs.declared.val.Outcome.{Outcome}
use Rattle.sdg_base.specs.declared.call.Call.{Call}
use Rattle.sdg_base.specs.declared.call.Step.{Step}
use Rattle.access_blocks.specs.declared.body.Program.{Program}
use Rattle.access_blocks.specs.Source.{Source, Refusal, refusal, Steps}
use Rattle.history_run.specs.Stepping.{ended_by, Gives, Done, Next, IsFirstIllegal}
use Rattle.history_run.proofs.Once.{steps_once}

-- the first of these steps, and what the others give
record First (program : Program) (calls : List Call) (now : Source) (step : Step) (steps : List Step) (results : List (ℕ × Outcome)) (end : Source) : Type 0 where
  between : Source
  legal : Steps program calls now step between
  rest : List (ℕ × Outcome)
  gives : Gives program calls between steps rest end
  is : results ≡ ended_by step between ++ rest

record Nothing (now : Source) (results : List (ℕ × Outcome)) (end : Source) : Type 0 where
  is : results ≡ []
  stays : now ≡ end

-- two ends
pub record Same (r q : List (ℕ × Outcome)) (a b : Source) : Type 0 where
  pub results : r ≡ q
  pub ends : a ≡ b

module _ (program : Program) (calls : List Call) where
  first : (now : Source) (s : Step) (steps : List Step) (results : List (ℕ × Outcome)) (end : Source) → Gives program calls now (s ∷ steps) results end → First program calls now s steps results end
  first now s steps results end (Next from between to step later rest legal gives) = record { between = between; legal = legal; rest = rest; gives = gives; is = refl }

  nothing : (now : Source) (results : List (ℕ × Outcome)) (end : Source) → Gives program calls now [] results end → Nothing now results end
  nothing now results end (Done same) = record { is = refl; stays = refl }

  same_results : (s : Step) (a b : Source) (r q : List (ℕ × Outcome)) → a ≡ b → r ≡ q → ended_by s a ++ r ≡ ended_by s b ++ q
  same_results s a b r q e f = ap (λ (n : Source). ended_by s n ++ r) e ∙ ap (λ (xs : List (ℕ × Outcome)). ended_by s b ++ xs) f

  pub gives_once : (now : Source) (steps : List Step) (r q : List (ℕ × Outcome)) (a b : Source) → Gives program calls now steps r a → Gives program calls now steps q b → Same r q a b
  gives_once now [] r q a b x y =
      let f = nothing now r a x in
      let g = nothing now q b y in
      record { results = f.is ∙ sym g.is; ends = sym f.stays ∙ g.stays }
  gives_once now (s ∷ steps) r q a b x y =
      let f = first now s steps r a x in
      let g = first now s steps q b y in
      let one : f.between ≡ g.between = steps_once program calls now s f.between g.between f.legal g.legal in
      let moved : Gives program calls f.between steps g.rest b = subst (λ (n : Source). Gives program calls n steps g.rest b) (sym one) g.gives in
      let same = gives_once f.between steps f.rest g.rest a b f.gives moved in
      record { results = f.is ∙ same_results s f.between g.between f.rest g.rest one same.results ∙ sym g.is; ends = same.ends }

  -- one step more
  pub gives_more : (now : Source) (steps : List Step) (results : List (ℕ × Outcome)) (end : Source) (step : Step) (next : Source)
      → Gives program calls now steps results end → Steps program calls end step next → Gives program calls now (steps ++ step ∷ []) (results ++ ended_by step next) next
  gives_more now steps results end step next (Done same) legal =
      subst (λ (xs : List (ℕ × Outcome)). Gives program calls now (step ∷ []) xs next) (append-nil (ended_by step next)) (Next now next next step [] [] legal (Done next))
  gives_more now steps results end step next (Next from between to s later rest first_legal gives) legal =
      subst (λ (xs : List (ℕ × Outcome)). Gives program calls now (s ∷ (later ++ step ∷ [])) xs next) (sym (append_assoc (ended_by s between) rest (ended_by step next)))
      (Next now between next s (later ++ step ∷ []) (rest ++ ended_by step next) first_legal (gives_more between later rest end step next gives legal))

  -- ---- the first step that is not legal

  refused_now : (now : Source) (s : Step) (steps : List Step) → IsFirstIllegal program calls now (s ∷ steps) 0 → (reason : Refusal) × (refusal now s ≡ Some reason)
  refused_now now s steps h =
      let none = nothing now h.results h.now h.legal in
      let here : s ≡ h.step = same_Some s h.step h.here in
      (h.reason, ap (λ (n : Source). refusal n s) none.stays ∙ ap (λ (x : Step). refusal h.now x) here ∙ h.refused)

  refused_later : (now : Source) (s : Step) (steps : List Step) (place : ℕ) (between : Source) → IsFirstIllegal program calls now (s ∷ steps) (suc place) → Steps program calls now s between
      → IsFirstIllegal program calls between steps place
  refused_later now s steps place between h legal =
      let f = first now s (take place steps) h.results h.now h.legal in
      let one : f.between ≡ between = steps_once program calls now s f.between between f.legal legal in
      record {
        results = f.rest;
        now = h.now;
        legal = subst (λ (n : Source). Gives program calls n (take place steps) f.rest h.now) one f.gives;
        step = h.step;
        here = h.here;
        reason = h.reason;
        refused = h.refused;
      }

  legal_first : (now : Source) (s : Step) (steps : List Step) (place : ℕ) → IsFirstIllegal program calls now (s ∷ steps) (suc place) → (between : Source) × Steps program calls now s between
  legal_first now s steps place h = let f = first now s (take place steps) h.results h.now h.legal in (f.between, f.legal)

  refused_legal : (now : Source) (s : Step) (steps : List Step) (between : Source) → IsFirstIllegal program calls now (s ∷ steps) 0 → Steps program calls now s between → ⊥
  refused_legal now s steps between h legal = let r = refused_now now s steps h in none-some r.0 (sym legal.legal ∙ r.1)

  pub all_legal : (now : Source) (steps : List Step) (results : List (ℕ × Outcome)) (end : Source) (place : ℕ) → Gives program calls now steps results end → IsFirstIllegal program calls now steps place → ⊥
  all_legal now [] results end place gives h = none-some h.step h.here
  all_legal now (s ∷ steps) results end zero gives h =
      let f = first now s steps results end gives in refused_legal now s steps f.between h f.legal
  all_legal now (s ∷ steps) results end (suc place) gives h =
      let f = first now s steps results end gives in
      all_legal f.between steps f.rest end place f.gives (refused_later now s steps place f.between h f.legal)

  pub one_illegal : (now : Source) (steps : List Step) (i j : ℕ) → IsFirstIllegal program calls now steps i → IsFirstIllegal program calls now steps j → i ≡ j
  one_illegal now [] i j p q = absurd (none-some p.step p.here)
  one_illegal now (s ∷ steps) zero zero p q = refl
  one_illegal now (s ∷ steps) zero (suc j) p q = let l = legal_first now s steps j q in absurd (refused_legal now s steps l.0 p l.1)
  one_illegal now (s ∷ steps) (suc i) zero p q = let l = legal_first now s steps i p in absurd (refused_legal now s steps l.0 q l.1)
  one_illegal now (s ∷ steps) (suc i) (suc j) p q =
      let l = legal_first now s steps i p in
      ap suc (one_illegal l.0 steps i j (refused_later now s steps i l.0 p l.1) (refused_later now s steps j l.0 q l.1))
