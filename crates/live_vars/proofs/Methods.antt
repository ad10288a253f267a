-- The sets of one method more.
use Rattle.std.proofs.Common.{ℕ, ◌+◌, List, [], ◌∷◌, ◌++◌, inl, inr, sym, ap, subst, ◌∙◌, arith, length-append}
use Rattle.std.proofs.lemmas.Option.{slice_get_within}
use Rattle.flat_code.specs.declared.graph.GraphMethod.{GraphMethod}
use Rattle.live_vars.specs.Sets.{HasSets, AreLiveSets}
use Rattle.live_vars.proofs.Lists.{last_or_before}

pub more_sets : (methods : List GraphMethod) (sets : List (List (List ℕ))) (m : GraphMethod) (of : List (List ℕ)) → AreLiveSets methods sets → HasSets m.code of
    → AreLiveSets (methods ++ m ∷ []) (sets ++ of ∷ [])
more_sets methods sets m of so_far has = record {
  as_many = length-append sets (of ∷ []) ∙ ap (λ n. n + 1) so_far.as_many ∙ sym (length-append methods (m ∷ []));
  each = λ n l ls is_method is_sets.
      let long = so_far.as_many in
      elim (last_or_before methods m n l is_method) [
        | inl old ↦ elim (last_or_before sets of n ls is_sets) [
          | inl there ↦ so_far.each n l ls old there
          | inr end ↦ let w = slice_get_within methods n l old in let e = end.0 in absurd (omega (arith, w, e, long))
        ]
        | inr end ↦ elim (last_or_before sets of n ls is_sets) [
          | inl there ↦ let w = slice_get_within sets n ls there in let e = end.0 in absurd (omega (arith, w, e, long))
          | inr at ↦
              let P : GraphMethod → Type 0 = λ k. HasSets k.code ls in
              let Q : List (List ℕ) → Type 0 = λ s. HasSets m.code s in
              subst P (sym end.1) (subst Q (sym at.1) has)
        ]
      ];
}
