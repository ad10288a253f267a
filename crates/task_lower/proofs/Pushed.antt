-- Code behind code.
use Rattle.std.proofs.Common.{◌≡◌, ℕ, ◌+◌, List, [], ◌∷◌, ◌++◌, length, slice_set, refl, sym, ap, ◌∙◌, append_assoc, length-append, arith}
use Rattle.std.proofs.lemmas.List.{append-nil}
use Rattle.flat_code.specs.declared.graph.Instr.{Instr}
use Rattle.flat_code.specs.declared.graph.Instr.TheVariants as instr
use Rattle.body_code.specs.Codes.{Code, plain, nothing, followed_by, all_of}
use Rattle.body_code.specs.ExpressionCode.{either}
use Rattle.task_lower.specs.Pushing.{Pushes}

pub nothing_pushed : (s : List Instr) → Pushes nothing s s
nothing_pushed s = record { is = sym (append-nil s); long = omega arith }

pub pushed : (is s0 s1 : List Instr) → s1 ≡ s0 ++ is → Pushes (plain is) s0 s1
pushed is s0 s1 e = record { is = e; long = ap length e ∙ length-append s0 is }

pub then_pushed : (a b : Code) (s0 s1 s2 : List Instr) → Pushes a s0 s1 → Pushes b s1 s2 → Pushes (followed_by a b) s0 s2
then_pushed a b s0 s1 s2 p q =
    let at = p.long in
    let more = q.long in
    record {
      is =
          q.is
          ∙ ap (λ n. s1 ++ b.from n) at
          ∙ ap (λ s. s ++ b.from (length s0 + a.size)) p.is
          ∙ append_assoc s0 (a.from (length s0)) (b.from (length s0 + a.size));
      long = omega (arith, at, more);
    }

-- the first several, and one more
pub snoc_pushed : (cs : List Code) (c : Code) (s0 s1 s2 : List Instr) → Pushes (all_of cs) s0 s1 → Pushes c s1 s2 → Pushes (all_of (cs ++ c ∷ [])) s0 s2
snoc_pushed cs c s0 s1 s2 p q =
    let at = p.long in
    let more = q.long in
    record {
      is = q.is ∙ ap (λ n. s1 ++ c.from n) at ∙ ap (λ s. s ++ c.from (length s0 + (all_of cs).size)) p.is ∙ append_assoc s0 ((all_of cs).from (length s0)) (c.from (length s0 + (all_of cs).size))
          ∙ ap (λ is. s0 ++ is) (sym (snoc_from cs c (length s0)));
      long = let size = snoc_size cs c in omega (arith, at, more, size);
    }
  where
    snoc_from : (cs : List Code) (c : Code) (at : ℕ) → (all_of (cs ++ c ∷ [])).from at ≡ (all_of cs).from at ++ c.from (at + (all_of cs).size)
    snoc_from [] c at = append-nil (c.from at) ∙ ap (λ n. c.from n) (let e : at ≡ at + 0 = omega arith in e)
    snoc_from (d ∷ cs) c at =
        ap (λ is. d.from at ++ is) (snoc_from cs c (at + d.size))
        ∙ sym (append_assoc (d.from at) ((all_of cs).from (at + d.size)) (c.from (at + d.size + (all_of cs).size)))
        ∙ ap (λ n. (d.from at ++ (all_of cs).from (at + d.size)) ++ c.from n) (let e : at + d.size + (all_of cs).size ≡ at + (d.size + (all_of cs).size) = omega arith in e)

    snoc_size : (cs : List Code) (c : Code) → (all_of (cs ++ c ∷ [])).size ≡ (all_of cs).size + c.size
    snoc_size [] c = omega arith
    snoc_size (d ∷ cs) c = let e = snoc_size cs c in omega (arith, e)

pub two_pushed : (i j : Instr) (s0 s1 s2 : List Instr) → s1 ≡ s0 ++ i ∷ [] → s2 ≡ s1 ++ j ∷ [] → Pushes (plain (i ∷ j ∷ [])) s0 s2
two_pushed i j s0 s1 s2 e f = pushed (i ∷ j ∷ []) s0 s2 (f ∙ ap (λ s. s ++ j ∷ []) e ∙ append_assoc s0 (i ∷ []) (j ∷ []))

-- what stands at a seam is set
pub set_seam : {A : Type 0} (xs : List A) (x : A) (ys : List A) (y : A) → slice_set (xs ++ x ∷ ys) (length xs) y ≡ xs ++ y ∷ ys
set_seam [] x ys y = refl
set_seam (z ∷ xs) x ys y = ap (λ rest. z ∷ rest) (set_seam xs x ys y)

pub set_at_seam : {A : Type 0} (all xs : List A) (x : A) (ys : List A) (at : ℕ) (y : A) → all ≡ xs ++ x ∷ ys → at ≡ length xs → slice_set all at y ≡ xs ++ y ∷ ys
set_at_seam all xs x ys at y e f = ap (λ s. slice_set s at y) e ∙ ap (λ n. slice_set (xs ++ x ∷ ys) n y) f ∙ set_seam xs x ys y

snoc_assoc : {A : Type 0} (xs : List A) (x : A) (ys : List A) → (xs ++ x ∷ []) ++ ys ≡ xs ++ x ∷ ys
snoc_assoc xs x ys = append_assoc xs (x ∷ []) ys

-- one of two, whose jumps get their targets when they are known
pub either_pushed : (a b : Code) (s0 s1 s2 s3 s4 s5 s6 : List Instr) (to_second to_end : ℕ) (i j : Instr)
    → to_second ≡ length s0 → s1 ≡ s0 ++ i ∷ []
    → Pushes a s1 s2
    → to_end ≡ length s2 → s3 ≡ s2 ++ j ∷ []
    → s4 ≡ slice_set s3 to_second (instr.IfFalse (length s3 + 0))
    → Pushes b s4 s5
    → s6 ≡ slice_set s5 to_end (instr.Jump (length s5))
    → Pushes (either a b) s0 s6
either_pushed a b s0 s1 s2 s3 s4 s5 s6 to_second to_end i j at_second is1 p at_end is3 is4 q is6 =
    let n = length s0 in
    let code_a = a.from (n + 1) in
    let code_b = b.from (n + a.size + 2) in
    let long1 : length s1 ≡ n + 1 = ap length is1 ∙ length-append s0 (i ∷ []) in
    let long2 : length s2 ≡ n + 1 + a.size = let l = p.long in omega (arith, l, long1) in
    let long3 : length s3 ≡ n + a.size + 2 = let l = ap length is3 ∙ length-append s2 (j ∷ []) in omega (arith, l, long2) in
    let is2 : s2 ≡ s0 ++ i ∷ code_a = p.is ∙ ap (λ k. s1 ++ a.from k) long1 ∙ ap (λ s. s ++ code_a) is1 ∙ snoc_assoc s0 i code_a in
    let whole3 : s3 ≡ s0 ++ i ∷ (code_a ++ j ∷ []) = is3 ∙ ap (λ s. s ++ j ∷ []) is2 ∙ append_assoc s0 (i ∷ code_a) (j ∷ []) in
    let first = instr.IfFalse (n + a.size + 2) in
    let to3 : length s3 + 0 ≡ n + a.size + 2 = omega (arith, long3) in
    let whole4 : s4 ≡ s0 ++ first ∷ (code_a ++ j ∷ []) =
    is4 ∙ ap (λ k. slice_set s3 to_second (instr.IfFalse k)) to3 ∙ set_at_seam s3 s0 i (code_a ++ j ∷ []) to_second first whole3 at_second in
    let long4 : length s4 ≡ n + a.size + 2 =
    let l4 = ap length whole4 ∙ length-append s0 (first ∷ (code_a ++ j ∷ [])) in let l3 = ap length whole3 ∙ length-append s0 (i ∷ (code_a ++ j ∷ [])) in omega (arith, l4, l3, long3) in
    let front = s0 ++ first ∷ code_a in
    let front4 : s4 ≡ front ++ j ∷ [] = whole4 ∙ sym (append_assoc s0 (first ∷ code_a) (j ∷ [])) in
    let whole5 : s5 ≡ front ++ j ∷ code_b = q.is ∙ ap (λ k. s4 ++ b.from k) long4 ∙ ap (λ s. s ++ code_b) front4 ∙ snoc_assoc front j code_b in
    let long5 : length s5 ≡ n + a.size + b.size + 2 = let l = q.long in omega (arith, l, long4) in
    let long_front : to_end ≡ length front =
    let l2 = ap length is2 ∙ length-append s0 (i ∷ code_a) in let l = length-append s0 (first ∷ code_a) in omega (arith, l2, l, at_end) in
    let last = instr.Jump (n + a.size + b.size + 2) in
    let whole6 : s6 ≡ front ++ last ∷ code_b = is6 ∙ ap (λ k. slice_set s5 to_end (instr.Jump k)) long5 ∙ set_at_seam s5 front j code_b to_end last whole5 long_front in
    record {
      is = whole6 ∙ append_assoc s0 (first ∷ code_a) (last ∷ code_b);
      long =
          let l6 = ap length whole6 ∙ length-append front (last ∷ code_b) in
          let l5 = ap length whole5 ∙ length-append front (j ∷ code_b) in
          omega (arith, l6, l5, long5);
    }

pub both_pushed : (is js s0 s1 s2 : List Instr) → Pushes (plain is) s0 s1 → Pushes (plain js) s1 s2 → Pushes (plain (is ++ js)) s0 s2
both_pushed is js s0 s1 s2 p q = pushed (is ++ js) s0 s2 (q.is ∙ ap (λ s. s ++ js) p.is ∙ append_assoc s0 is js)

pub set_code : (start s0 s1 s2 : List Instr) (v w : ℕ) → s1 ≡ s0 ++ start → s2 ≡ s1 ++ instr.Store w ∷ [] → w ≡ v → s2 ≡ s0 ++ (start ++ instr.Store v ∷ [])
set_code start s0 s1 s2 v w e f g = f ∙ ap (λ s. s ++ instr.Store w ∷ []) e ∙ append_assoc s0 start (instr.Store w ∷ []) ∙ ap (λ n. s0 ++ (start ++ instr.Store n ∷ [])) g
