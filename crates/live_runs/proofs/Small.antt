-- The small graph's live variables, its tasks and its runs are as they were computed by hand.
use Rattle.std.proofs.Common.{◌≡◌, refl, sym, subst, ℕ, zero, suc, arith, List, [], ◌∷◌, Some, codes, replicate, slice_get}
use Rattle.state_classes.specs.declared.method.Method.TheVariants as method
use Rattle.state_classes.specs.States.{called}
use Rattle.flat_code.specs.declared.graph.GraphMethod.{GraphMethod}
use Rattle.flat_code.specs.declared.graph.Instr.{Instr}
use Rattle.flat_code.specs.declared.graph.Instr.TheVariants as instr
use Rattle.flat_code.specs.Items.{runs}
use Rattle.flat_code.specs.Machine.{run_within}
use Rattle.flat_code.specs.Ways.{IsIn, IsFirst, next_of, reads, IsLive, IsRead, IsReadLater}
use Rattle.graph_safety.specs.Small.{small_code, small_method}
use Rattle.graph_safety.proofs.Lists.{none_some, some_is}
use Rattle.graph_safety.proofs.Small.{Each}
use Rattle.graph_safety.proofs.Ways.{among, only_one}
use Rattle.live_runs.specs.Small.{small_flat, small_live, SmallRuns}
use Rattle.live_vars.specs.Sets.{AreLive, HasSets}

each_instruction : (P : ℕ → Instr → Type 0) → Each P → (at : ℕ) (i : Instr) → slice_get small_code at ≡ Some i → P at i
each_instruction P h zero i e = subst (P 0) (some_is (instr.Load 0) i e) h.load
each_instruction P h (suc zero) i e = subst (P 1) (some_is instr.Turn i e) h.turn
each_instruction P h (suc (suc zero)) i e = subst (P 2) (some_is (instr.Cut 1) i e) h.cut
each_instruction P h (suc (suc (suc zero))) i e = subst (P 3) (some_is instr.Key i e) h.key
each_instruction P h (suc (suc (suc (suc zero)))) i e = subst (P 4) (some_is (instr.Access (codes "t") method.Get) i e) h.access
each_instruction P h (suc (suc (suc (suc (suc zero))))) i e = subst (P 5) (some_is instr.Return i e) h.return
each_instruction P h (suc (suc (suc (suc (suc (suc at)))))) i e = absurd (none_some i e)

-- The one variable is read at the first instruction alone, and no way leads back to that.
live_where : (v at : ℕ) → IsLive small_code v at → (v ≡ 0) × (at ≡ 0)
live_where v at (IsRead n i is_code is_read) = each_instruction (λ n j. IsIn v (reads j) → (v ≡ 0) × (n ≡ 0))
    (record {
      load = λ k. (only_one v 0 k, refl);
      turn = λ k. absurd (among v [] k);
      cut = λ k. absurd (among v [] k);
      key = λ k. absurd (among v [] k);
      access = λ k. absurd (among v [] k);
      return = λ k. absurd (among v [] k);
    }) n i is_code is_read
live_where v at (IsReadLater n next i is_code unwritten is_next later) =
    let first = (live_where v next later).1 in
    absurd (each_instruction (λ n j. IsIn next (next_of n j) → ⊥)
    (record {
      load = λ k. let e = only_one next 1 k in omega arith;
      turn = λ k. let e = only_one next 2 k in omega arith;
      cut = λ k. let e = only_one next 3 k in omega arith;
      key = λ k. let e = only_one next 4 k in omega arith;
      access = λ k. let e = only_one next 5 k in omega arith;
      return = λ k. among next [] k;
    }) n i is_code is_next)

first_live : AreLive small_code 0 (0 ∷ [])
first_live = record {
  live = λ v h. subst (λ (w : ℕ). IsLive small_code w 0) (sym (only_one v 0 h)) (IsRead 0 (instr.Load 0) refl (IsFirst []));
  whole = λ v h. subst (λ (w : ℕ). IsIn w (0 ∷ [])) (sym (live_where v 0 h).0) (IsFirst []);
  upwards = (omega arith, tt);
}

none_live : (at : ℕ) → AreLive small_code (suc at) []
none_live at = record { live = λ v h. absurd (among v [] h); whole = λ v h. let e = (live_where v (suc at) h).1 in absurd (omega arith); upwards = tt }

empty_sets : (many n : ℕ) (vars : List ℕ) → slice_get (replicate many []) n ≡ Some vars → [] ≡ vars
empty_sets zero n vars e = absurd (none_some vars e)
empty_sets (suc many) zero vars e = some_is [] vars e
empty_sets (suc many) (suc n) vars e = empty_sets many n vars e

small_sets : (at : ℕ) (vars : List ℕ) → slice_get ((0 ∷ []) ∷ replicate 5 []) at ≡ Some vars → AreLive small_code at vars
small_sets zero vars e = subst (AreLive small_code 0) (some_is (0 ∷ []) vars e) first_live
small_sets (suc at) vars e = subst (AreLive small_code (suc at)) (empty_sets 5 at vars e) (none_live at)

small_sets_of : (n : ℕ) (m : GraphMethod) (of : List (List ℕ)) → slice_get small_flat.methods n ≡ Some m → slice_get small_live n ≡ Some of → HasSets m.code of
small_sets_of zero m of is is_of =
    subst (HasSets m.code) (some_is ((0 ∷ []) ∷ replicate 5 []) of is_of) (subst (λ (o : GraphMethod). HasSets o.code ((0 ∷ []) ∷ replicate 5 [])) (some_is small_method m is) (record { as_many = refl; each = small_sets }))
small_sets_of (suc n) m of is is_of = absurd (none_some m is)

pub small_runs : SmallRuns
unfolding run_within runs called
small_runs = record {
  live = record { as_many = refl; each = small_sets_of };
  cut = refl;
  starts = refl;
  ends = λ x. refl;
  gives = λ n call pick widths. refl;
}
