-- The walk backward with one variable.
use Rattle.std.proofs.Common.{◌≡◌, ◌≢◌, ◌==◌, ℕ, suc, ◌<◌, ◌≤◌, Bool, true, false, ◌||◌, List, [], ◌∷◌, ◌++◌, length, Some, ◌⊎◌, inl, inr, slice_get, slice_set, replicate, refl, sym, ap, subst, ◌∙◌, arith, eq-eqb, eqb-true}
use Rattle.std.proofs.lemmas.List.{length-replicate}
use Rattle.std.proofs.lemmas.Option.{slice_get_within}
use Rattle.flat_code.specs.declared.graph.Instr.{Instr}
use Rattle.flat_code.specs.declared.graph.Instr.TheVariants as instr
use Rattle.flat_code.specs.Ways.{IsIn, IsFirst, next_of, reads, writes, IsLive, IsRead, IsReadLater}
use Rattle.live_vars.specs.Sets.{HasSets}
use Rattle.live_vars.specs.Steps.{Has, AreNoted, Leads, AreBefore, ReadsAt, AreReaders, HaveRead, is_written, ends_in}
use Rattle.live_vars.specs.Walks.{IsSet, AreSets, IsWalk}
use Rattle.live_vars.proofs.Lists.{in_none, in_one, in_left, in_right, in_either, set_same, set_other, set_as_many, empty_row, same_at}
use Rattle.live_vars.proofs.Noting.{same_or_other, noted_in, has_within}
use Rattle.live_vars.proofs.Rising.{ends_is_in, in_ends, rise_more}

-- ---- instructions

pub not_written : (i : Instr) (v : ℕ) → is_written i v ≡ false → writes i ≢ Some v
not_written (instr.Store w) v unwritten e = let same : w ≡ v = cc in let there = eq-eqb w v same in cc
not_written i v unwritten e = cc

pub unwritten : (i : Instr) (v : ℕ) → writes i ≢ Some v → is_written i v ≡ false
unwritten (instr.Store w) v ne = false_from w v (w == v) refl ne
  where
    false_from : (w v : ℕ) (b : Bool) → (w == v) ≡ b → (Some w ≢ Some v) → (w == v) ≡ false
    false_from w v true e ne = absurd (ne (ap (λ n. Some n) (eqb-true w v e)))
    false_from w v false e ne = e
unwritten i v ne = refl

-- What reads a variable does not write it.
pub read_not_written : (i : Instr) (v : ℕ) → IsIn v (reads i) → is_written i v ≡ false
read_not_written (instr.Store w) v is_in = absurd (in_none v is_in)
read_not_written i v is_in = refl

-- ---- the start

pub empty_sets : (code : List Instr) (sets : List (List ℕ)) → sets ≡ replicate (length code) [] → AreSets code 0 0 sets
empty_sets code sets is = record {
  as_many = ap length is ∙ length-replicate (length code) [];
  each = λ at vars here.
      let none : vars ≡ [] = empty_row (length code) at vars (ap (λ s. slice_get s at) (sym is) ∙ here) in
      let P : List ℕ → Type 0 = λ vs. IsSet code at 0 0 vs in
      subst P (sym none) (record {
        live = λ x is_in. absurd (in_none x is_in);
        whole = λ x below live. absurd (omega (arith, below));
        upwards = tt;
        below = λ x is_in. absurd (in_none x is_in);
      });
}

pub walk_starts : (code : List Instr) (v : ℕ) (sets : List (List ℕ)) (readers : List ℕ) → HaveRead code v readers → AreSets code v v sets → IsWalk code v sets readers
walk_starts code v sets readers have so_far = record {
  so_far = record {
    as_many = so_far.as_many;
    each = λ at vars here.
        let s = so_far.each at vars here in
        record { live = s.live; whole = s.whole; upwards = s.upwards; below = λ x is_in. let b = s.below x is_in in omega (arith, b) };
  };
  within = λ at is_in. let r = have.sound at is_in in slice_get_within code at r.i r.is_code;
  leads = λ at i is_in here clear.
      let r = have.sound at is_in in
      IsRead at r.i r.is_code r.is_read;
  readers = λ at reading. inr (have.whole at reading);
  closed = λ at next i here clear goes has.
      let b = (so_far.each next has.numbers has.is_row).below v has.is_in in
      absurd (omega (arith, b));
}

-- ---- a step that ends the walk

or_cases : (a b : Bool) → (a || b) ≡ true → (a ≡ true) ⊎ (b ≡ true)
or_cases true b e = inl refl
or_cases false b e = inr e

pub or_false : (a b : Bool) → (a || b) ≡ false → (a ≡ false) × (b ≡ false)
or_false true b e = absurd cc
or_false false b e = (refl, e)

pub walk_ends : (code : List Instr) (v : ℕ) (sets : List (List ℕ)) (work : List ℕ) (at : ℕ) (i : Instr) (row : List ℕ) → slice_get code at ≡ Some i → slice_get sets at ≡ Some row
    → (is_written i v || ends_in row v) ≡ true → IsWalk code v sets (work ++ at ∷ []) → IsWalk code v sets work
walk_ends code v sets work at i row is_i is_row ends w = record {
  so_far = w.so_far;
  within = λ k is_in. w.within k (in_left k work (at ∷ []) is_in);
  leads = λ k j is_in here clear. w.leads k j (in_left k work (at ∷ []) is_in) here clear;
  readers = λ k reading.
      elim (w.readers k reading) [
        | inl has ↦ inl has
        | inr is_in ↦ passed k reading.i reading.is_code (read_not_written reading.i v reading.is_read) is_in
      ];
  closed = λ k next j here clear goes has.
      elim (w.closed k next j here clear goes has) [ inl done ↦ inl done | inr is_in ↦ passed k j here clear is_in ];
}
  where
    passed : (k : ℕ) (j : Instr) → slice_get code k ≡ Some j → is_written j v ≡ false → IsIn k (work ++ at ∷ []) → Has sets k v ⊎ IsIn k work
    passed k j here clear is_in =
        elim (in_either k work (at ∷ []) is_in) [
          | inl before ↦ inr before
          | inr one ↦
              let e : k ≡ at = in_one k at one in
              let there : slice_get code at ≡ Some j = ap (λ n. slice_get code n) (sym e) ∙ here in
              let same : j ≡ i = same_at code at j i there is_i in
              let unwritten : is_written i v ≡ false = ap (λ x. is_written x v) (sym same) ∙ clear in
              elim (or_cases (is_written i v) (ends_in row v) ends) [
                | inl written ↦ absurd cc
                | inr last ↦ inl (record { numbers = row; is_row = ap (λ n. slice_get sets n) e ∙ is_row; is_in = ends_is_in row v last })
              ]
        ]

-- ---- a step that goes on

module _ (code : List Instr) (v : ℕ) (sets : List (List ℕ)) (work : List ℕ) (at : ℕ) (i : Instr) (row before_at : List ℕ) (before : List (List ℕ)) where
  pub walk_goes_on : slice_get code at ≡ Some i → slice_get sets at ≡ Some row → (is_written i v || ends_in row v) ≡ false → slice_get before at ≡ Some before_at
      → AreBefore code (length code) before → IsWalk code v sets (work ++ at ∷ []) → IsWalk code v (slice_set sets at (row ++ v ∷ [])) (work ++ before_at)
  walk_goes_on is_i is_row goes_on is_before table w =
      let clear = (or_false (is_written i v) (ends_in row v) goes_on).0 in
      let not_last = (or_false (is_written i v) (ends_in row v) goes_on).1 in
      let more : List (List ℕ) = slice_set sets at (row ++ v ∷ []) in
      let noted : AreNoted (at ∷ []) v sets more = noted_in sets at v row is_row in
      let is_live : IsLive code v at = w.leads at i (in_right at work (at ∷ []) (IsFirst [])) is_i clear in
      let set = w.so_far.each at row is_row in
      let within = slice_get_within code at i is_i in
      let added : Has more at v = record { numbers = row ++ v ∷ []; is_row = set_same sets at row (row ++ v ∷ []) is_row; is_in = in_right v row (v ∷ []) (IsFirst []) } in
      let absent : IsIn v row → ⊥ = λ is_in. let last = in_ends row 0 v set.upwards set.below is_in in cc in
      let smaller : (x : ℕ) → IsIn x row → x < v = λ x is_in.
      let b = set.below x is_in in
      elim (same_or_other x v) [
        | inl e ↦ absurd (absent (let P : ℕ → Type 0 = λ n. IsIn n row in subst P e is_in))
        | inr ne ↦ omega (arith, b, ne)
      ]
      in
      let now : IsSet code at v (suc v) (row ++ v ∷ []) = record {
        live = λ x is_in.
            elim (in_either x row (v ∷ []) is_in) [
              | inl old ↦ set.live x old
              | inr one ↦ let P : ℕ → Type 0 = λ n. IsLive code n at in subst P (sym (in_one x v one)) is_live
            ];
        whole = λ x below live. in_left x row (v ∷ []) (set.whole x below live);
        upwards = rise_more row 0 v set.upwards smaller (omega arith);
        below = λ x is_in.
            elim (in_either x row (v ∷ []) is_in) [
              | inl old ↦ set.below x old
              | inr one ↦ let e = in_one x v one in omega (arith, e)
            ];
      } in
      let still : (k : ℕ) → Has sets k v ⊎ IsIn k (work ++ at ∷ []) → Has more k v ⊎ IsIn k (work ++ before_at) = λ k h.
      elim h [
        | inl has ↦ inl (noted.kept k v has)
        | inr is_in ↦ elim (in_either k work (at ∷ []) is_in) [
          | inl old ↦ inr (in_left k work before_at old)
          | inr one ↦ inl (let P : ℕ → Type 0 = λ n. Has more n v in subst P (sym (in_one k at one)) added)
        ]
      ]
      in
      let leading : (k : ℕ) → IsIn k before_at → Leads code k at = λ k is_in. table.sound at k (record { numbers = before_at; is_row = is_before; is_in = is_in }) in
      record {
        so_far = record {
          as_many = set_as_many sets at (row ++ v ∷ []) ∙ w.so_far.as_many;
          each = λ k vars here.
              elim (same_or_other k at) [
                | inl e ↦
                    let at_row : slice_get more at ≡ Some vars = ap (λ n. slice_get more n) (sym e) ∙ here in
                    let same : vars ≡ row ++ v ∷ [] = same_at more at vars (row ++ v ∷ []) at_row added.is_row in
                    let P : ℕ → Type 0 = λ n. IsSet code n v (suc v) vars in
                    let Q : List ℕ → Type 0 = λ vs. IsSet code at v (suc v) vs in
                    subst P (sym e) (subst Q (sym same) now)
                | inr ne ↦ w.so_far.each k vars (sym (set_other sets at k (row ++ v ∷ []) ne) ∙ here)
              ];
        };
        within = λ k is_in.
            elim (in_either k work before_at is_in) [
              | inl old ↦ w.within k (in_left k work (at ∷ []) old)
              | inr new ↦ let l = leading k new in slice_get_within code k l.i l.is_code
            ];
        leads = λ k j is_in here unwritten.
            elim (in_either k work before_at is_in) [
              | inl old ↦ w.leads k j (in_left k work (at ∷ []) old) here unwritten
              | inr new ↦
                  let l = leading k new in
                  let same : l.i ≡ j = same_at code k l.i j l.is_code here in
                  let P : Instr → Type 0 = λ x. IsIn at (next_of k x) in
                  IsReadLater k at j here (not_written j v unwritten) (subst P same l.goes) is_live
            ];
        readers = λ k reading. still k (w.readers k reading);
        closed = λ k next j here unwritten goes has.
            elim (noted.others next v has) [
              | inl old ↦ still k (w.closed k next j here unwritten goes old)
              | inr new ↦
                  let e : next ≡ at = in_one next at new.0 in
                  let P : ℕ → Type 0 = λ n. IsIn n (next_of k j) in
                  let h = table.whole at k (slice_get_within code k j here) within (record { i = j; is_code = here; goes = subst P e goes }) in
                  let Q : List ℕ → Type 0 = λ ns. IsIn k ns in
                  inr (in_right k work before_at (subst Q (same_at before at h.numbers before_at h.is_row is_before) h.is_in))
            ];
      }

-- ---- the end

pub all_found : (code : List Instr) (v : ℕ) (sets : List (List ℕ)) → IsWalk code v sets [] → (at : ℕ) → IsLive code v at → Has sets at v
all_found code v sets w at (IsRead _ i here is_read) =
    elim (w.readers at (record { i = i; is_code = here; is_read = is_read })) [ inl has ↦ has | inr none ↦ absurd (in_none at none) ]
all_found code v sets w at (IsReadLater _ next i here clear goes later) =
    let has = all_found code v sets w next later in
    elim (w.closed at next i here (unwritten i v clear) goes has) [ inl h ↦ h | inr none ↦ absurd (in_none at none) ]

pub walk_done : (code : List Instr) (v : ℕ) (sets : List (List ℕ)) (work : List ℕ) → work ≡ [] → IsWalk code v sets work → AreSets code (suc v) (suc v) sets
walk_done code v sets work none walk =
    let P : List ℕ → Type 0 = λ ks. IsWalk code v sets ks in
    let w = subst P none walk in
    record {
      as_many = w.so_far.as_many;
      each = λ at vars here.
          let s = w.so_far.each at vars here in
          record {
            live = s.live;
            whole = λ x below live.
                elim (same_or_other x v) [
                  | inl e ↦
                      let Q : ℕ → Type 0 = λ n. IsLive code n at in
                      let has = all_found code v sets w at (subst Q e live) in
                      let R : List ℕ → Type 0 = λ ns. IsIn v ns in
                      let in_vars = subst R (same_at sets at has.numbers vars has.is_row here) has.is_in in
                      let S : ℕ → Type 0 = λ n. IsIn n vars in
                      subst S (sym e) in_vars
                  | inr ne ↦ s.whole x (omega (arith, below, ne)) live
                ];
            upwards = s.upwards;
            below = s.below;
          };
    }

-- What is live is read somewhere.
pub read_somewhere : (code : List Instr) (v at : ℕ) → IsLive code v at → (k : ℕ) × ReadsAt code v k
read_somewhere code v at (IsRead _ i here is_read) = (at, record { i = i; is_code = here; is_read = is_read })
read_somewhere code v at (IsReadLater _ next i here clear goes later) = read_somewhere code v next later

pub sets_are_live : (code : List Instr) (readers sets : List (List ℕ)) (n : ℕ) → length readers ≤ n → AreReaders code (length code) readers → AreSets code n n sets → HasSets code sets
sets_are_live code readers sets n all_of table so_far = record {
  as_many = so_far.as_many;
  each = λ at vars here.
      let s = so_far.each at vars here in
      record {
        live = s.live;
        whole = λ v live.
            let r = read_somewhere code v at live in
            let has = table.whole v r.0 (slice_get_within code r.0 r.1.i r.1.is_code) r.1 in
            let b = has_within readers v r.0 has in
            s.whole v (omega (arith, b, all_of)) live;
        upwards = s.upwards;
      };
}
