-- A text has one answer: what it gives, or the first line that breaks a rule.
use Rattle.std.proofs.Common.{◌≡◌, ℕ, ◌-◌, ◌^◌, ◌<◌, List, length, take, Result, Ok, Err, refl, sym, ◌∙◌, ap, subst, inl, inr, ◌⊎◌}
use Rattle.std.specs.Prelude.{MatchResult, slice_get}
use Rattle.std.proofs.lemmas.Option.{same_Some}
use Rattle.sdg_base.specs.declared.val.Outcome.{Outcome}
use Rattle.sdg_base.specs.declared.call.Call.{Call}
use Rattle.access_blocks.specs.declared.body.Program.{Program}
use Rattle.access_blocks.specs.Source.{Source, source_at_start}
use Rattle.run_text.specs.declared.field.Field.{Field}
use Rattle.run_text.specs.declared.told.History.{History}
use Rattle.run_text.specs.declared.error.TextError.{TextError}
use Rattle.run_text.specs.declared.error.TextError.TheVariants.{Bad, Memory}
use Rattle.run_text.specs.Schedules.{Words}
use Rattle.run_text.specs.Histories.{IsHistory, IsFirstHistoryBreak}
use Rattle.run_text.proofs.HistoryBreaks.{one_history, history_breaks_none}
use Rattle.run_text.proofs.HistoryLaws.{only_bad}
use Rattle.history_run.specs.declared.replayed.Replayed.{Replayed}
use Rattle.history_run.specs.Stepping.{Gives, IsFirstIllegal}
use Rattle.history_run.specs.Replays.{IsReplayed, IsRead, Whole, Front, IsIllegalLine, IsBrokenLine, illegal_rule, Illegal, Broken, Replays}
use Rattle.history_run.proofs.Legal.{gives_once, all_legal, one_illegal}

module _ (fields : List Field) (calls : ℕ) (ls : Words) (few : calls < 2 ^ 32) where
  same_bad : (m r n s : ℕ) → (Bad m r ≡ Bad n s) ⊎ (Bad m r ≡ Memory) → (m ≡ n) × (r ≡ s)
  same_bad m r n s (inl e) = let p : m ≡ n = cc in let q : r ≡ s = cc in (p, q)
  same_bad m r n s (inr e) = absurd cc

  pub one_break : (m r n s : ℕ) → IsFirstHistoryBreak fields calls ls m r → IsFirstHistoryBreak fields calls ls n s → (m ≡ n) × (r ≡ s)
  one_break m r n s p q = same_bad m r n s (only_bad fields calls ls (Err (Bad m r)) n s few tt p q)

  pub unbroken : (history : History) (line rule : ℕ) → IsHistory fields calls ls history → IsFirstHistoryBreak fields calls ls line rule → ⊥
  unbroken history line rule is first = history_breaks_none fields calls ls history first.place first.which few is first.broken

  pub read_once : (g h : History) → IsRead fields calls ls g → IsRead fields calls ls h → g ≡ h
  read_once g h (Whole p) (Whole q) = one_history fields calls ls g h few p q
  read_once g h (Whole p) (Front line rule first before) = absurd (unbroken g line rule p first)
  read_once g h (Front line rule first before) (Whole q) = absurd (unbroken h line rule q first)
  read_once g h (Front m r p before) (Front n s q front) =
      let same : m ≡ n = (one_break m r n s p q).0 in
      one_history fields calls (take (m - 1) ls) g h few before (subst (λ (k : ℕ). IsHistory fields calls (take (k - 1) ls) h) (sym same) front)

module _ (program : Program) (calls : List Call) (fields : List Field) (ls : Words) (few : length calls < 2 ^ 32) where
  abbrev start : History → Source
  start history = source_at_start program calls history.width

  -- ---- the causes exclude each other

  legal_illegal : (g h : History) (results : List (ℕ × Outcome)) (end : Source) (place : ℕ) → g ≡ h → Gives program calls (start g) g.steps results end
      → IsFirstIllegal program calls (start h) h.steps place → ⊥
  legal_illegal g h results end place same legal illegal =
      all_legal program calls (start h) h.steps results end place (subst (λ (k : History). Gives program calls (start k) k.steps results end) same legal) illegal

  replayed_illegal : (replayed : Replayed) (line : ℕ) → IsReplayed program calls fields ls replayed → IsIllegalLine program calls fields ls line → ⊥
  replayed_illegal replayed line p q =
      legal_illegal p.history q.history replayed.results p.end q.place (read_once fields (length calls) ls few p.history q.history (Whole p.is) q.is) p.legal q.illegal

  replayed_broken : (replayed : Replayed) (line rule : ℕ) → IsReplayed program calls fields ls replayed → IsBrokenLine program calls fields ls line rule → ⊥
  replayed_broken replayed line rule p q = unbroken fields (length calls) ls few p.history line rule p.is q.first

  illegal_broken : (line number rule : ℕ) → IsIllegalLine program calls fields ls line → IsBrokenLine program calls fields ls number rule → ⊥
  illegal_broken line number rule p q =
      legal_illegal q.history p.history q.results q.end p.place (read_once fields (length calls) ls few q.history p.history (Front number rule q.first q.before) p.is) q.legal p.illegal

  -- ---- and each has one answer

  same_replayed : (r q : List (ℕ × Outcome)) (m n : ℕ) → r ≡ q → m ≡ n → (let a : Replayed = record { results = r; steps = m } in a) ≡ record { results = q; steps = n }
  same_replayed r q m n e f = cc

  one_replayed : (a b : Replayed) → IsReplayed program calls fields ls a → IsReplayed program calls fields ls b → a ≡ b
  one_replayed a b p q =
      let history : p.history ≡ q.history = one_history fields (length calls) ls p.history q.history few p.is q.is in
      let legal : Gives program calls (start q.history) q.history.steps a.results p.end = subst (λ (k : History). Gives program calls (start k) k.steps a.results p.end) history p.legal in
      let same = gives_once program calls (start q.history) q.history.steps a.results b.results p.end q.end legal q.legal in
      same_replayed a.results b.results a.steps b.steps same.results (p.counted ∙ ap (λ (k : History). length k.steps) history ∙ sym q.counted)

  one_illegal_line : (m n : ℕ) → IsIllegalLine program calls fields ls m → IsIllegalLine program calls fields ls n → m ≡ n
  one_illegal_line m n p q =
      let history : p.history ≡ q.history = read_once fields (length calls) ls few p.history q.history p.is q.is in
      let illegal : IsFirstIllegal program calls (start q.history) q.history.steps p.place = subst (λ (k : History). IsFirstIllegal program calls (start k) k.steps p.place) history p.illegal in
      let place : p.place ≡ q.place = one_illegal program calls (start q.history) q.history.steps p.place q.place illegal q.illegal in
      same_Some m n (sym p.number ∙ ap (λ (k : History). slice_get k.lines p.place) history ∙ ap (slice_get q.history.lines) place ∙ q.number)

  -- ---- what an answer with its cause says of any cause

  pub complete : (r : Result Replayed TextError) (replayed : Replayed) → Replays program calls fields ls r → IsReplayed program calls fields ls replayed
      → MatchResult r (λ found. found ≡ replayed) (λ error. error ≡ Memory)
  complete (Ok found) replayed p q = one_replayed found replayed p q
  complete (Err Memory) replayed p q = refl
  complete (Err (Bad line rule)) replayed (Illegal is p) q = absurd (replayed_illegal replayed line q p)
  complete (Err (Bad line rule)) replayed (Broken p) q = absurd (replayed_broken replayed line rule q p)

  same_error : (m r n s : ℕ) → m ≡ n → r ≡ s → (Bad m r ≡ Bad n s) ⊎ (Bad m r ≡ Memory)
  same_error m r n s p q = inl (ap (λ (k : ℕ). Bad k r) p ∙ ap (λ (k : ℕ). Bad n k) q)

  pub illegal : (r : Result Replayed TextError) (line : ℕ) → Replays program calls fields ls r → IsIllegalLine program calls fields ls line
      → MatchResult r (λ _. ⊥) (λ error. (error ≡ Bad line illegal_rule) ⊎ (error ≡ Memory))
  illegal (Ok found) line p q = replayed_illegal found line p q
  illegal (Err Memory) line p q = inr refl
  illegal (Err (Bad number rule)) line (Illegal is p) q = same_error number rule line illegal_rule (one_illegal_line number line p q) is
  illegal (Err (Bad number rule)) line (Broken p) q = absurd (illegal_broken line number rule q p)

  pub broken : (r : Result Replayed TextError) (line rule : ℕ) → Replays program calls fields ls r → IsBrokenLine program calls fields ls line rule
      → MatchResult r (λ _. ⊥) (λ error. (error ≡ Bad line rule) ⊎ (error ≡ Memory))
  broken (Ok found) line rule p q = replayed_broken found line rule p q
  broken (Err Memory) line rule p q = inr refl
  broken (Err (Bad number other)) line rule (Illegal is p) q = absurd (illegal_broken number line rule p q)
  broken (Err (Bad number other)) line rule (Broken p) q =
      let same = one_break fields (length calls) ls few number other line rule p.first q.first in same_error number other line rule same.0 same.1
