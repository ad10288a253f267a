-- The results of a run whose calls don't interleave, as outcomes by call.
use Rattle.std.proofs.Common.{◌≡◌, ℕ, zero, suc, ◌+◌, ◌<◌, ◌≤◌, List, [], ◌∷◌, map, length, Some, inl, inr, refl, ap, sym, ◌∙◌, subst, arith}
use Rattle.std.specs.List.{AllByRecursion}
use Rattle.sdg_base.specs.declared.val.Outcome.{Outcome}
use Rattle.java_tree.specs.declared.tree.Class.{Class}
use Rattle.early_source.specs.Source.{Source, outcome, numbered, Explains}
use Rattle.early_source.specs.Serial.{IsSerial}
use Rattle.early_plain.specs.Serial.{SerialIsPlain}
use Rattle.cluster.specs.History.{Setup, steps_of}
use Rattle.cluster.specs.World.{World, world_of, results_of, numbers_from}
use Rattle.agreement.specs.Results.{Results, HasResult, RunAgrees}
use Rattle.early_cutter.specs.Runs.{RunsInTurn, ArePlainResults, ArePlainInOrder}

-- what holds of all results holds of one
result_holds : (end : Source) (results : Results) → AllByRecursion (λ r. outcome end r.0 ≡ Some r.1) results → (c : ℕ) (how : Outcome) → HasResult c how results → outcome end c ≡ Some how
result_holds end [] all c how h = absurd h
result_holds end (r ∷ results) all c how (inl e) = let P : ℕ × Outcome → Type 0 = λ z. outcome end z.0 ≡ Some z.1 in subst P (sym e) all.0
result_holds end (r ∷ results) all c how (inr h) = result_holds end results all.1 c how h

-- the outcomes of so many calls, the first of this number
pub record Gathered (results : Results) (n count : ℕ) : Type 0 where
  pub outcomes : List Outcome
  pub as_many : length outcomes ≡ count
  pub same : (c : ℕ) (how : Outcome) → HasResult c how (numbered n outcomes) → HasResult c how results

gather : (results : Results) (n count : ℕ) → ((c : ℕ) → n ≤ c → c < n + count → (how : Outcome) × HasResult c how results) → Gathered results n count
gather results n zero each = record { outcomes = []; as_many = refl; same = λ c how h. absurd h }
gather results n (suc count) each =
    let first = each n (itself n) (first_within n count) in
    let rest = gather results (n + 1) count (λ c l u. each c (later n c l) (within n count c u)) in
    record {
      outcomes = first.0 ∷ rest.outcomes;
      as_many = ap suc rest.as_many;
      same = λ c how h. elim h [
        | inl e ↦ (let P : ℕ × Outcome → Type 0 = λ z. HasResult z.0 z.1 results in subst P (sym e) first.1)
        | inr m ↦ rest.same c how m
      ];
    }
  where
    itself : (n : ℕ) → n ≤ n
    itself n = omega arith

    first_within : (n count : ℕ) → n < n + suc count
    first_within n count = omega arith

    later : (n c : ℕ) → n + 1 ≤ c → n ≤ c
    later n c l = omega arith

    within : (n count c : ℕ) → c < n + 1 + count → c < n + suc count
    within n count c u = omega arith

-- what is said of each result by number is said of all
all_numbered : (end : Source) (n : ℕ) (outcomes : List Outcome) → ((c : ℕ) (how : Outcome) → HasResult c how (numbered n outcomes) → outcome end c ≡ Some how)
    → AllByRecursion (λ r. outcome end r.0 ≡ Some r.1) (numbered n outcomes)
all_numbered end n [] h = tt
all_numbered end n (o ∷ outcomes) h = (h n o (inl refl), all_numbered end (n + 1) outcomes (λ c how m. h c how (inr m)))

pub serial_results : SerialIsPlain → (class : Class) (s : Setup) (w : World) → RunAgrees class s w → IsSerial (steps_of w.hist) → ArePlainResults class s.calls (results_of s w)
serial_results law class s w agrees serial =
    let g = gather (results_of s w) 1 (length s.calls) (λ c l u. agrees.one_each.each c l (at_most c (length s.calls) u)) in
    let explained : Explains class s.calls (steps_of w.hist) (numbered 1 g.outcomes) = record {
      end = agrees.explained.end;
      legal = agrees.explained.legal;
      gives = all_numbered agrees.explained.end 1 g.outcomes (λ c how h. result_holds agrees.explained.end (results_of s w) agrees.explained.gives c how (g.same c how h));
    } in
    record {
      outcomes = g.outcomes;
      one_each = g.as_many;
      plain = law class s.calls (steps_of w.hist) g.outcomes serial g.as_many explained;
      same = g.same;
    }
  where
    at_most : (c n : ℕ) → c < 1 + n → c ≤ n
    at_most c n u = omega arith

-- results under these numbers are the numbered outcomes
renumbered : (n count : ℕ) (results : Results) → map (λ r. r.0) results ≡ numbers_from n count → (numbered n (map (λ r. r.1) results) ≡ results) × (length (map (λ r. r.1) results) ≡ count)
renumbered n zero [] e = (refl, refl)
renumbered n zero (r ∷ results) e = absurd cc
renumbered n (suc count) [] e = absurd cc
renumbered n (suc count) (r ∷ results) e =
    let first : r.0 ≡ n = cc in
    let others : map (λ q. q.0) results ≡ numbers_from (n + 1) count = cc in
    let rest = renumbered (n + 1) count results others in (
      ap (λ (m : ℕ). let z : Results = (m, r.1) ∷ numbered (n + 1) (map (λ q. q.1) results) in z) (sym first) ∙ ap (λ (rs : Results). let z : Results = r ∷ rs in z) rest.0,
      ap suc rest.1,
    )

pub ordered_results : SerialIsPlain → (class : Class) (s : Setup) → RunAgrees class s (world_of s []) → RunsInTurn s → ArePlainInOrder class s.calls (results_of s (world_of s []))
ordered_results law class s agrees turns =
    let w = world_of s [] in
    let outcomes = map (λ r. r.1) (results_of s w) in
    let e = renumbered 1 (length s.calls) (results_of s w) turns.in_order in
    let P : Results → Type 0 = λ rs. Explains class s.calls (steps_of w.hist) rs in
    record {
      outcomes = outcomes;
      plain = law class s.calls (steps_of w.hist) outcomes turns.serial e.1 (subst P (sym e.0) agrees.explained);
      in_order = sym e.0;
    }
