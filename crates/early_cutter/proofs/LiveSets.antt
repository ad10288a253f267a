-- Rising lists of the numbers that pass a test, with one number more or less.
use Rattle.std.proofs.Common.{◌≡◌, ◌≢◌, refl, ℕ, zero, suc, ◌+◌, ◌<◌, ◌≤◌, ◌==◌, Bool, true, false, not, ◌&&◌, ◌||◌, cond, List, [], ◌∷◌, filter, sym, ap, ◌∙◌, arith}
use Rattle.std.specs.declared.cmp.Ordering.TheVariants.{Less, Equal, Greater}
use Rattle.std.specs.List.{range_with_len}
use Rattle.std.specs.Ordering.{nat_cmp, match_ordering, is_eq}
use Rattle.std.specs.BTreeSet.{insert_key}
use Rattle.std.specs.Set.{remove_key}

eq_true : (v a : ℕ) → (v == a) ≡ true → v ≡ a
eq_true v a h = grind arith

eq_false : (v a : ℕ) → (v == a) ≡ false → v ≢ a
eq_false v a h = grind arith

differs : (v a : ℕ) → v ≢ a → (v == a) ≡ false
differs v a h = grind arith

is_less : (v a : ℕ) → v < a → nat_cmp v a ≡ Less
is_less v a h = grind arith

is_equal : (v a : ℕ) → v ≡ a → nat_cmp v a ≡ Equal
is_equal v a h = grind arith

is_greater : (v a : ℕ) → a < v → nat_cmp v a ≡ Greater
is_greater v a h = grind arith

-- tests that are the same from a number on give the same list
same_filter : (p q : ℕ → Bool) (a n : ℕ) → ((x : ℕ) → a ≤ x → p x ≡ q x) → filter p (range_with_len a n) ≡ filter q (range_with_len a n)
same_filter p q a zero same = refl
same_filter p q a (suc n) same =
    let here = same a (omega arith) in
    let rest = same_filter p q (a + 1) n (λ x above. same x (omega arith)) in
    cc

below_step :
    (b : Bool) (v a : ℕ) (later : List ℕ) → nat_cmp v a ≡ Less → insert_key nat_cmp later v ≡ v ∷ later →
    insert_key nat_cmp (cond b (a ∷ later) later) v ≡ v ∷ cond b (a ∷ later) later
below_step true v a later is ih = ap (λ o. match_ordering o (v ∷ a ∷ later) (a ∷ later) (a ∷ insert_key nat_cmp later v)) is
below_step false v a later is ih = ih

insert_below : (p : ℕ → Bool) (v a n : ℕ) → v < a → insert_key nat_cmp (filter p (range_with_len a n)) v ≡ v ∷ filter p (range_with_len a n)
insert_below p v a zero below = refl
insert_below p v a (suc n) below =
    below_step (p a) v a (filter p (range_with_len (a + 1) n)) (is_less v a below) (insert_below p v (a + 1) n (omega arith))

-- the number itself
insert_here :
    (b : Bool) (v a : ℕ) (later : List ℕ) → nat_cmp v a ≡ Equal → v ≡ a → insert_key nat_cmp later v ≡ v ∷ later →
    insert_key nat_cmp (cond b (a ∷ later) later) v ≡ a ∷ later
insert_here true v a later is same ih = ap (λ o. match_ordering o (v ∷ a ∷ later) (a ∷ later) (a ∷ insert_key nat_cmp later v)) is
insert_here false v a later is same ih = ih ∙ ap (λ x. x ∷ later) same

-- a greater one
insert_later :
    (b : Bool) (v a : ℕ) (later more : List ℕ) → nat_cmp v a ≡ Greater → insert_key nat_cmp later v ≡ more →
    insert_key nat_cmp (cond b (a ∷ later) later) v ≡ cond b (a ∷ more) more
insert_later true v a later more is ih =
    ap (λ o. match_ordering o (v ∷ a ∷ later) (a ∷ later) (a ∷ insert_key nat_cmp later v)) is ∙ ap (λ xs. a ∷ xs) ih
insert_later false v a later more is ih = ih

differs_later : (v a x : ℕ) → v ≡ a → a + 1 ≤ x → (v == x) ≡ false
differs_later v a x same above = differs v x (λ is. absurd (omega (arith, same, is)))

insert_at :
    (p : ℕ → Bool) (v a n : ℕ) (e : Bool) → (v == a) ≡ e → a ≤ v →
    (v ≢ a → insert_key nat_cmp (filter p (range_with_len (a + 1) n)) v ≡ filter (λ x. (v == x) || p x) (range_with_len (a + 1) n)) →
    insert_key nat_cmp (filter p (range_with_len a (suc n))) v ≡ filter (λ x. (v == x) || p x) (range_with_len a (suc n))
insert_at p v a n true is above ih =
    let same = eq_true v a is in
    let later = filter p (range_with_len (a + 1) n) in
    let more = filter (λ x. (v == x) || p x) (range_with_len (a + 1) n) in
    let left = insert_here (p a) v a later (is_equal v a same) same (insert_below p v (a + 1) n (omega (arith, same))) in
    let others : later ≡ more = same_filter p (λ x. (v == x) || p x) (a + 1) n (λ x after. ap (λ e. e || p x) (sym (differs_later v a x same after))) in
    let right : cond ((v == a) || p a) (a ∷ more) more ≡ a ∷ more = ap (λ e. cond (e || p a) (a ∷ more) more) is in
    left ∙ ap (λ xs. a ∷ xs) others ∙ sym right
insert_at p v a n false is above ih =
    let apart = eq_false v a is in
    let later = filter p (range_with_len (a + 1) n) in
    let more = filter (λ x. (v == x) || p x) (range_with_len (a + 1) n) in
    let right : cond ((v == a) || p a) (a ∷ more) more ≡ cond (p a) (a ∷ more) more = ap (λ e. cond (e || p a) (a ∷ more) more) is in
    insert_later (p a) v a later more (is_greater v a (grind arith)) (ih apart) ∙ sym right

pub insert_filter :
    (p : ℕ → Bool) (v a n : ℕ) → a ≤ v → v < a + n →
    insert_key nat_cmp (filter p (range_with_len a n)) v ≡ filter (λ x. (v == x) || p x) (range_with_len a n)
insert_filter p v a zero above below = absurd (omega arith)
insert_filter p v a (suc n) above below =
    insert_at p v a n (v == a) refl above (λ apart. insert_filter p v (a + 1) n (grind (arith, apart)) (omega arith))

is_other : (v a : ℕ) → v ≢ a → is_eq (nat_cmp v a) ≡ false
is_other v a apart = grind arith

-- no number here is the one that goes
remove_step :
    (b : Bool) (v a : ℕ) (later more : List ℕ) → is_eq (nat_cmp v a) ≡ false → remove_key (λ x. is_eq (nat_cmp v x)) later ≡ more →
    remove_key (λ x. is_eq (nat_cmp v x)) (cond b (a ∷ later) later) ≡ cond b (a ∷ more) more
remove_step true v a later more is ih =
    ap (λ e. cond e later (a ∷ remove_key (λ x. is_eq (nat_cmp v x)) later)) is ∙ ap (λ xs. a ∷ xs) ih
remove_step false v a later more is ih = ih

remove_below : (p : ℕ → Bool) (v a n : ℕ) → v < a → remove_key (λ x. is_eq (nat_cmp v x)) (filter p (range_with_len a n)) ≡ filter p (range_with_len a n)
remove_below p v a zero below = refl
remove_below p v a (suc n) below =
    remove_step (p a) v a (filter p (range_with_len (a + 1) n)) (filter p (range_with_len (a + 1) n))
    (is_other v a (λ same. absurd (omega (arith, same)))) (remove_below p v (a + 1) n (omega arith))

remove_here :
    (b : Bool) (v a : ℕ) (later : List ℕ) → nat_cmp v a ≡ Equal → remove_key (λ x. is_eq (nat_cmp v x)) later ≡ later →
    remove_key (λ x. is_eq (nat_cmp v x)) (cond b (a ∷ later) later) ≡ later
remove_here true v a later is ih = ap (λ o. cond (is_eq o) later (a ∷ remove_key (λ x. is_eq (nat_cmp v x)) later)) is
remove_here false v a later is ih = ih

remove_at :
    (p : ℕ → Bool) (v a n : ℕ) (e : Bool) → (v == a) ≡ e →
    remove_key (λ x. is_eq (nat_cmp v x)) (filter p (range_with_len (a + 1) n)) ≡ filter (λ x. not (v == x) && p x) (range_with_len (a + 1) n) →
    remove_key (λ x. is_eq (nat_cmp v x)) (filter p (range_with_len a (suc n))) ≡ filter (λ x. not (v == x) && p x) (range_with_len a (suc n))
remove_at p v a n true is ih =
    let same = eq_true v a is in
    let later = filter p (range_with_len (a + 1) n) in
    let more = filter (λ x. not (v == x) && p x) (range_with_len (a + 1) n) in
    let left = remove_here (p a) v a later (is_equal v a same) (remove_below p v (a + 1) n (omega (arith, same))) in
    let others : later ≡ more = same_filter p (λ x. not (v == x) && p x) (a + 1) n (λ x after. ap (λ e. not e && p x) (sym (differs_later v a x same after))) in
    let right : cond (not (v == a) && p a) (a ∷ more) more ≡ more = ap (λ e. cond (not e && p a) (a ∷ more) more) is in
    left ∙ others ∙ sym right
remove_at p v a n false is ih =
    let later = filter p (range_with_len (a + 1) n) in
    let more = filter (λ x. not (v == x) && p x) (range_with_len (a + 1) n) in
    let right : cond (not (v == a) && p a) (a ∷ more) more ≡ cond (p a) (a ∷ more) more = ap (λ e. cond (not e && p a) (a ∷ more) more) is in
    remove_step (p a) v a later more (is_other v a (eq_false v a is)) ih ∙ sym right

pub remove_filter :
    (p : ℕ → Bool) (v a n : ℕ) →
    remove_key (λ x. is_eq (nat_cmp v x)) (filter p (range_with_len a n)) ≡ filter (λ x. not (v == x) && p x) (range_with_len a n)
remove_filter p v a zero = refl
remove_filter p v a (suc n) = remove_at p v a n (v == a) refl (remove_filter p v (a + 1) n)

pub none_filter : (a n : ℕ) → filter (λ x. false) (range_with_len a n) ≡ []
none_filter a zero = refl
none_filter a (suc n) = none_filter (a + 1) n

-- a number that is not in the range changes nothing
pub same_outside : (p : ℕ → Bool) (v a n : ℕ) → a + n ≤ v → filter p (range_with_len a n) ≡ filter (λ x. (v == x) || p x) (range_with_len a n)
same_outside p v a zero past = refl
same_outside p v a (suc n) past =
    let here = ap (λ b. b || p a) (differs v a (λ same. absurd (omega (arith, same)))) in
    let rest = same_outside p v (a + 1) n (omega arith) in
    cc
