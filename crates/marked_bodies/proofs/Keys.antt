-- The key of a unit is known before the unit.
use Rattle.std.proofs.Common.{◌≡◌, refl, sym, ap, subst, ◌∙◌, ℕ, Bool, true, false, not, ◌&&◌, ◌||◌, List, [], ◌∷◌, ◌++◌, Option, Some, None, slice_get}
use Rattle.std.specs.Prelude.{nat_eq}
use Rattle.std.specs.List.{list_all}
use Rattle.std.proofs.lemmas.Bool.{false≢true}
use Rattle.sdg_base.specs.declared.value_type.ValueType.TheVariants as type
use Rattle.access_blocks.specs.declared.body.Choice.{Choice}
use Rattle.access_blocks.specs.declared.body.Choice.TheVariants as choice
use Rattle.access_blocks.specs.declared.body.Expression.{Expression}
use Rattle.access_blocks.specs.declared.place.Site.{Site}
use Rattle.access_blocks.specs.Marks.{first_of}
use Rattle.body_code.specs.Early.{is_in}
use Rattle.body_code.specs.Typing.{Needs, needs, type_of, both}
use Rattle.body_code.specs.Checking.{Surroundings, Standing, has_key, takes_gathered, are_met, is_type, is_entry, is_partial, is_partitioned}
use Rattle.marked_bodies.specs.Unmarked.{is_empty, reads_only, reads_nothing}
use Rattle.marked_bodies.proofs.Facts.{both_true, and_true, all_both, nat_is}
use Rattle.marked_bodies.proofs.Standings.{nat_same}
use Rattle.marked_bodies.proofs.Within.{IsMet, is_met}

-- a key reads nothing but the variable that chooses the part
pub data Reads (how : Option Choice) (n : Needs) : Type 0 where
  Nothing : n.variables ≡ [] → n.merges ≡ [] → not n.key ≡ true → Reads how n
  One : (v : ℕ) → how ≡ Some (choice.Variable v) → list_all (nat_eq v) n.variables ≡ true → n.merges ≡ [] → not n.key ≡ true → Reads how n

-- the key of accesses that are all to one part
pub data KeyFits (around : Surroundings) (known : List ℕ) (part : Site) (sites : List Site) (key : Option Expression) : Type 0 where
  NoAccess : sites ≡ [] → key ≡ None → KeyFits around known part sites key
  ByInstance : is_entry around.kind ≡ true → is_partial (slice_get around.fields part.field) ≡ true → key ≡ None → KeyFits around known part sites key
  ByKey : (k : Expression) → is_entry around.kind ≡ true → key ≡ Some k → is_partitioned (slice_get around.fields part.field) ≡ true → is_type (type_of around.context k) type.Long ≡ true → Reads part.choice (needs k)
      → list_all (λ v. is_in v known) (needs k).variables ≡ true → KeyFits around known part sites key

empty_is : (ns : List ℕ) → is_empty ns ≡ true → ns ≡ []
empty_is [] e = refl
empty_is (n ∷ ns) e = absurd (false≢true e)

-- a variable of a key is the one that chooses the part
reads_one : (how : Option Choice) (n : Needs) → Reads how n → (w : ℕ) → is_in w n.variables ≡ true → how ≡ Some (choice.Variable w)
reads_one how n (Nothing none m k) w h = absurd (false≢true (ap (is_in w) (sym none) ∙ h))
reads_one how n (One v is all m k) w h = by n.variables all h
  where
    by : (vs : List ℕ) → list_all (nat_eq v) vs ≡ true → is_in w vs ≡ true → how ≡ Some (choice.Variable w)
    by [] all h = absurd (false≢true h)
    by (u ∷ vs) all h =
        let k = both_true (nat_eq v u) (list_all (nat_eq v) vs) all in
        here (nat_eq w u) refl k.0 (by vs k.1) h
      where
        here : (b : Bool) → nat_eq w u ≡ b → nat_eq v u ≡ true → (is_in w vs ≡ true → how ≡ Some (choice.Variable w)) → (b || is_in w vs) ≡ true → how ≡ Some (choice.Variable w)
        here true same vu more h = is ∙ ap (λ (x : ℕ). Some (choice.Variable x)) (nat_is v u vu ∙ sym (nat_is w u same))
        here false same vu more h = more h

pub key_reads_one : (how : Option Choice) (n : Needs) → Reads how n → (w : ℕ) → is_in w n.variables ≡ true → how ≡ Some (choice.Variable w)
key_reads_one = reads_one

-- ---- one part after another

-- a variable of the key, that was known before, where it is known behind
abbrev pub Kept : Site → List ℕ → List ℕ → Type 0
Kept part before known = (v : ℕ) → part.choice ≡ Some (choice.Variable v) → is_in v known ≡ true → is_in v before ≡ true

each_known : (P : ℕ → Bool) (xs : List ℕ) → ((w : ℕ) → is_in w xs ≡ true → P w ≡ true) → list_all P xs ≡ true
each_known P [] h = refl
each_known P (x ∷ xs) h = and_true (P x) (list_all P xs) (h x (first x xs)) (each_known P xs (λ w is. h w (more w x xs is)))
  where
    first : (x : ℕ) (xs : List ℕ) → is_in x (x ∷ xs) ≡ true
    first x xs = ap (λ b. b || is_in x xs) (nat_same x)

    more : (w x : ℕ) (xs : List ℕ) → is_in w xs ≡ true → is_in w (x ∷ xs) ≡ true
    more w x xs is = by (nat_eq w x)
      where
        by : (b : Bool) → (b || is_in w xs) ≡ true
        by true = refl
        by false = is

all_in : (known vs : List ℕ) → list_all (λ v. is_in v known) vs ≡ true → (w : ℕ) → is_in w vs ≡ true → is_in w known ≡ true
all_in known [] all w is = absurd (false≢true is)
all_in known (v ∷ vs) all w is =
    let k = both_true (is_in v known) (list_all (λ v. is_in v known) vs) all in
    by (nat_eq w v) refl k.0 (all_in known vs k.1 w) is
  where
    by : (b : Bool) → nat_eq w v ≡ b → is_in v known ≡ true → (is_in w vs ≡ true → is_in w known ≡ true) → (b || is_in w vs) ≡ true → is_in w known ≡ true
    by true same here more is = ap (λ n. is_in n known) (nat_is w v same) ∙ here
    by false same here more is = more is

pub fits_before : (around : Surroundings) (before known : List ℕ) (part : Site) (sites : List Site) (key : Option Expression) → Kept part before known → KeyFits around known part sites key → KeyFits around before part sites key
fits_before around before known part sites key kept (NoAccess e h) = NoAccess e h
fits_before around before known part sites key kept (ByInstance a e h) = ByInstance a e h
fits_before around before known part sites key kept (ByKey k a e h t r all) =
    ByKey k a e h t r (each_known (λ v. is_in v before) (needs k).variables (λ w is. kept w (reads_one part.choice (needs k) r w is) (all_in known (needs k).variables all w is)))

pub after_none : (around : Surroundings) (known : List ℕ) (part : Site) (xs ys : List Site) (b : Option Expression) → KeyFits around known part ys b → xs ≡ [] → KeyFits around known part (xs ++ ys) b
after_none around known part xs ys b h e = subst (λ (zs : List Site). KeyFits around known part (zs ++ ys) b) (sym e) h

pub one_after : (around : Surroundings) (known : List ℕ) (part : Site) (xs ys : List Site) (a b : Option Expression) → KeyFits around known part xs a → KeyFits around known part ys b → KeyFits around known part (xs ++ ys) (first_of a b)
one_after around known part xs ys a b (NoAccess e h) g = subst (λ (o : Option Expression). KeyFits around known part (xs ++ ys) (first_of o b)) (sym h) (after_none around known part xs ys b g e)
one_after around known part xs ys a b (ByKey k n e h t r all) g = ByKey k n (ap (λ (o : Option Expression). first_of o b) e) h t r all
one_after around known part xs ys a b (ByInstance n e h) g = subst (λ (o : Option Expression). KeyFits around known part (xs ++ ys) (first_of o b)) (sym h) (by g)
  where
    by : KeyFits around known part ys b → KeyFits around known part (xs ++ ys) b
    by (NoAccess e2 h2) = ByInstance n e h2
    by (ByInstance n2 e2 h2) = ByInstance n e h2
    by (ByKey k n2 e2 h2 t r all) = ByKey k n2 e2 h2 t r all

-- ---- accesses

pub met_first : (around : Surroundings) (st : Standing) (a b : Needs) → are_met around st (both a b) ≡ true → IsMet around st a
met_first around st a b is =
    let h = is_met around st (both a b) is in
    record {
      known = (all_both (λ v. is_in v st.known) a.variables b.variables h.known).0;
      merges = (all_both (takes_gathered around st.gathered) a.merges b.merges h.merges).0;
      key = by a.key h.key;
    }
  where
    has : Bool
    has = has_key around st.field

    by : (x : Bool) → (not (x || b.key) || has) ≡ true → (not x || has) ≡ true
    by true e = e
    by false e = refl

pub literal_reads : (how : Option Choice) (n : Needs) → reads_nothing n ≡ true → Reads how n
literal_reads how n is =
    let k = both_true (is_empty n.variables) (is_empty n.merges && not n.key) is in
    let l = both_true (is_empty n.merges) (not n.key) k.1 in
    Nothing (empty_is n.variables k.0) (empty_is n.merges l.0) l.1

pub variable_reads : (how : Option Choice) (v : ℕ) (n : Needs) → how ≡ Some (choice.Variable v) → reads_only v n ≡ true → Reads how n
variable_reads how v n e is =
    let k = both_true (list_all (nat_eq v) n.variables) (is_empty n.merges && not n.key) is in
    let l = both_true (is_empty n.merges) (not n.key) k.1 in
    One v e k.0 (empty_is n.merges l.0) l.1
