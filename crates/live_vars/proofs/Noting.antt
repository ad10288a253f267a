-- What a number more in a row changes, and how a table grows along the code.
use Rattle.std.proofs.Common.{◌≡◌, ◌≢◌, ℕ, zero, suc, ◌+◌, ◌<◌, ◌≤◌, List, [], ◌∷◌, ◌++◌, length, Some, ◌⊎◌, inl, inr, slice_get, slice_set, replicate, refl, sym, ap, subst, ◌∙◌, arith}
use Rattle.std.proofs.lemmas.Option.{slice_get_within}
use Rattle.flat_code.specs.declared.graph.Instr.{Instr}
use Rattle.flat_code.specs.declared.graph.Instr.TheVariants as instr
use Rattle.flat_code.specs.Ways.{IsIn, IsFirst, next_of, reads}
use Rattle.live_vars.specs.Steps.{behind, targets, Has, AreNoted, Leads, AreBefore, ReadsAt, AreReadBelow, AreReaders, HaveRead}
use Rattle.live_vars.proofs.Lists.{in_none, in_one, in_left, in_right, in_either, set_same, set_other, set_as_many, empty_row, same_at}

pub same_or_other : (i j : ℕ) → (i ≡ j) ⊎ (i ≢ j)
same_or_other zero zero = inl refl
same_or_other zero (suc j) = inr (λ e. absurd cc)
same_or_other (suc i) zero = inr (λ e. absurd cc)
same_or_other (suc i) (suc j) = elim (same_or_other i j) [ inl e ↦ inl (ap suc e) | inr ne ↦ inr (λ e. ne (let same : i ≡ j = cc in same)) ]

pub noted_in : (table : List (List ℕ)) (row n : ℕ) (numbers : List ℕ) → slice_get table row ≡ Some numbers → AreNoted (row ∷ []) n table (slice_set table row (numbers ++ n ∷ []))
noted_in table row n numbers is =
    let new = slice_set table row (numbers ++ n ∷ []) in
    let at_row : slice_get new row ≡ Some (numbers ++ n ∷ []) = set_same table row numbers (numbers ++ n ∷ []) is in
    record {
      as_many = set_as_many table row (numbers ++ n ∷ []);
      kept = λ r m has.
          elim (same_or_other r row) [
            | inl e ↦
                let old : slice_get table row ≡ Some has.numbers = ap (λ k. slice_get table k) (sym e) ∙ has.is_row in
                let same : has.numbers ≡ numbers = same_at table row has.numbers numbers old is in
                let P : List ℕ → Type 0 = λ ns. IsIn m ns in
                record { numbers = numbers ++ n ∷ []; is_row = ap (λ k. slice_get new k) e ∙ at_row; is_in = in_left m numbers (n ∷ []) (subst P same has.is_in) }
            | inr ne ↦ record { numbers = has.numbers; is_row = set_other table row r (numbers ++ n ∷ []) ne ∙ has.is_row; is_in = has.is_in }
          ];
      noted = λ r is_in within.
          let e : r ≡ row = in_one r row is_in in
          record { numbers = numbers ++ n ∷ []; is_row = ap (λ k. slice_get new k) e ∙ at_row; is_in = in_right n numbers (n ∷ []) (IsFirst []) };
      others = λ r m has.
          elim (same_or_other r row) [
            | inl e ↦
                let now : slice_get new row ≡ Some has.numbers = ap (λ k. slice_get new k) (sym e) ∙ has.is_row in
                let same : has.numbers ≡ numbers ++ n ∷ [] = same_at new row has.numbers (numbers ++ n ∷ []) now at_row in
                let P : List ℕ → Type 0 = λ ns. IsIn m ns in
                elim (in_either m numbers (n ∷ []) (subst P same has.is_in)) [
                  | inl old ↦ inl (record { numbers = numbers; is_row = ap (λ k. slice_get table k) e ∙ is; is_in = old })
                  | inr one ↦ inr (let Q : ℕ → Type 0 = λ k. IsIn k (row ∷ []) in subst Q (sym e) (IsFirst []), in_one m n one)
                ]
            | inr ne ↦ inl (record { numbers = has.numbers; is_row = sym (set_other table row r (numbers ++ n ∷ []) ne) ∙ has.is_row; is_in = has.is_in })
          ];
    }

pub none_noted : (n : ℕ) (table : List (List ℕ)) → AreNoted [] n table table
none_noted n table = record {
  as_many = refl;
  kept = λ r m has. has;
  noted = λ r is_in within. absurd (in_none r is_in);
  others = λ r m has. inl has;
}

pub has_within : (table : List (List ℕ)) (row m : ℕ) → Has table row m → row < length table
has_within table row m has = slice_get_within table row has.numbers has.is_row

pub past_noted : (row n : ℕ) (table : List (List ℕ)) → length table ≤ row → AreNoted (row ∷ []) n table table
past_noted row n table past = record {
  as_many = refl;
  kept = λ r m has. has;
  noted = λ r is_in within. let e : r ≡ row = in_one r row is_in in absurd (omega arith);
  others = λ r m has. inl has;
}

pub both_noted : (rows more : List ℕ) (n : ℕ) (a b c : List (List ℕ)) → AreNoted rows n a b → AreNoted more n b c → AreNoted (rows ++ more) n a c
both_noted rows more n a b c first second = record {
  as_many = second.as_many ∙ first.as_many;
  kept = λ r m has. second.kept r m (first.kept r m has);
  noted = λ r is_in within.
      elim (in_either r rows more is_in) [
        | inl left ↦ second.kept r n (first.noted r left within)
        | inr right ↦ second.noted r right (let e = first.as_many in omega (arith, within, e))
      ];
  others = λ r m has.
      elim (second.others r m has) [
        | inl old ↦ elim (first.others r m old) [ inl older ↦ inl older | inr new ↦ inr (in_left r rows more new.0, new.1) ]
        | inr new ↦ inr (in_right r rows more new.0, new.1)
      ];
}

pub next_parts : (at : ℕ) (i : Instr) → behind at i ++ targets i ≡ next_of at i
next_parts at (instr.Jump to) = refl
next_parts at (instr.IfFalse to) = refl
next_parts at instr.Return = refl
next_parts at instr.ReturnVoid = refl
next_parts at _ = refl

-- ---- tables along the code

no_rows : (count row m : ℕ) → Has (replicate count []) row m → ⊥
no_rows count row m has =
    let none : has.numbers ≡ [] = empty_row count row has.numbers has.is_row in
    let P : List ℕ → Type 0 = λ ns. IsIn m ns in
    in_none m (subst P none has.is_in)

pub none_before : (code : List Instr) (table : List (List ℕ)) → table ≡ replicate (length code) [] → length table ≡ length code → AreBefore code 0 table
none_before code table is as_many =
    let P : List (List ℕ) → Type 0 = λ t. (next at : ℕ) → Has t next at → Leads code at next in
    record {
      as_many = as_many;
      sound = subst P (sym is) (λ next at has. absurd (no_rows (length code) next at has));
      whole = λ next at below within leads. absurd (omega (arith, below));
    }

pub more_before : (code : List Instr) (at : ℕ) (i : Instr) (table new : List (List ℕ)) → slice_get code at ≡ Some i → AreBefore code at table → AreNoted (next_of at i) at table new
    → AreBefore code (at + 1) new
more_before code at i table new is so_far noted = record {
  as_many = noted.as_many ∙ so_far.as_many;
  sound = λ next from has.
      elim (noted.others next from has) [
        | inl old ↦ so_far.sound next from old
        | inr now ↦ let P : ℕ → Type 0 = λ k. Leads code k next in subst P (sym now.1) (record { i = i; is_code = is; goes = now.0 })
      ];
  whole = λ next from below within leads.
      elim (same_or_other from at) [
        | inl e ↦
            let there : slice_get code at ≡ Some leads.i = ap (λ k. slice_get code k) (sym e) ∙ leads.is_code in
            let same : leads.i ≡ i = same_at code at leads.i i there is in
            let P : Instr → Type 0 = λ j. IsIn next (next_of from j) in
            let goes : IsIn next (next_of from i) = subst P same leads.goes in
            let Q : ℕ → Type 0 = λ k. IsIn next (next_of k i) in
            let R : ℕ → Type 0 = λ k. Has new next k in
            let fits : next < length table = let m = so_far.as_many in omega (arith, within, m) in
            subst R (sym e) (noted.noted next (subst Q e goes) fits)
        | inr ne ↦ noted.kept next from (so_far.whole next from (omega (arith, below, ne)) within leads)
      ];
}

pub none_read : (code : List Instr) (count : ℕ) (table : List (List ℕ)) → table ≡ replicate count [] → AreReaders code 0 table
none_read code count table is =
    let P : List (List ℕ) → Type 0 = λ t. (v at : ℕ) → Has t v at → ReadsAt code v at in
    record {
      sound = subst P (sym is) (λ v at has. absurd (no_rows count v at has));
      whole = λ v at below reads. absurd (omega (arith, below));
    }

pub more_read : (code : List Instr) (at end : ℕ) (i : Instr) (table new : List (List ℕ)) → slice_get code at ≡ Some i → AreReadBelow code (length code) end → length table ≡ end
    → AreReaders code at table → AreNoted (reads i) at table new → AreReaders code (at + 1) new
more_read code at end i table new is below_end long so_far noted = record {
  sound = λ v from has.
      elim (noted.others v from has) [
        | inl old ↦ so_far.sound v from old
        | inr now ↦ let P : ℕ → Type 0 = λ k. ReadsAt code v k in subst P (sym now.1) (record { i = i; is_code = is; is_read = now.0 })
      ];
  whole = λ v from below reading.
      elim (same_or_other from at) [
        | inl e ↦
            let there : slice_get code at ≡ Some reading.i = ap (λ k. slice_get code k) (sym e) ∙ reading.is_code in
            let same : reading.i ≡ i = same_at code at reading.i i there is in
            let P : Instr → Type 0 = λ j. IsIn v (reads j) in
            let R : ℕ → Type 0 = λ k. Has new v k in
            let within = slice_get_within code from reading.i reading.is_code in
            let fits : v < length table = let b = below_end.below v from within reading in omega (arith, b, long) in
            subst R (sym e) (noted.noted v (subst P same reading.is_read) fits)
        | inr ne ↦ noted.kept v from (so_far.whole v from (omega (arith, below, ne)) reading)
      ];
}

pub one_row : (code : List Instr) (table : List (List ℕ)) (v : ℕ) (row : List ℕ) → AreReaders code (length code) table → slice_get table v ≡ Some row → HaveRead code v row
one_row code table v row all is = record {
  sound = λ at is_in. all.sound v at (record { numbers = row; is_row = is; is_in = is_in });
  whole = λ at reading.
      let has = all.whole v at (slice_get_within code at reading.i reading.is_code) reading in
      let P : List ℕ → Type 0 = λ ns. IsIn at ns in
      subst P (same_at table v has.numbers row has.is_row is) has.is_in;
}

-- ---- the end of the variables that are read

pub none_read_below : (code : List Instr) (end : ℕ) → AreReadBelow code 0 end
none_read_below code end = record { below = λ v at below reading. absurd (omega (arith, below)) }

pub more_read_below : (code : List Instr) (n end more new : ℕ) (i : Instr) → slice_get code n ≡ Some i → AreReadBelow code n end → ((v : ℕ) → IsIn v (reads i) → v < more) → end ≤ new → more ≤ new
    → AreReadBelow code (n + 1) new
more_read_below code n end more new i is so_far here up up_more = record {
  below = λ v at below reading.
      elim (same_or_other at n) [
        | inl e ↦
            let there : slice_get code n ≡ Some reading.i = ap (λ k. slice_get code k) (sym e) ∙ reading.is_code in
            let P : Instr → Type 0 = λ j. IsIn v (reads j) in
            let h = here v (subst P (same_at code n reading.i i there is) reading.is_read) in
            omega (arith, h, up_more)
        | inr ne ↦ let h = so_far.below v at (omega (arith, below, ne)) reading in omega (arith, h, up)
      ];
}
