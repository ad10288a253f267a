-- A body with its marks calls no other methods.
use Rattle.std.proofs.Common.{◌≡◌, sym, ap, subst, ◌∙◌, ℕ, true, List, [], ◌∷◌, ◌++◌, map, Option, Some, None, inl, inr, ◌⊎◌}
use Rattle.std.proofs.lemmas.Bool.{false≢true}
use Rattle.access_blocks.specs.declared.body.Access.{Access}
use Rattle.access_blocks.specs.declared.body.Choice.{Choice}
use Rattle.access_blocks.specs.declared.body.Choice.TheVariants as choice
use Rattle.access_blocks.specs.declared.body.Expression.{Expression}
use Rattle.access_blocks.specs.declared.body.Expression.TheOpen as e
use Rattle.access_blocks.specs.declared.body.Expression.TheVariants as x
use Rattle.access_blocks.specs.declared.body.Expression.TheFolds.{fold-roll-Expression}
use Rattle.access_blocks.specs.declared.body.Statement.{Statement, roll-Statement, out-Statement}
use Rattle.access_blocks.specs.declared.body.Statement.TheOpen.{Statement-F}
use Rattle.access_blocks.specs.declared.body.Statement.TheOpen as s
use Rattle.access_blocks.specs.declared.body.Statement.TheFolds.{fold-roll-Statement, ind-Statement, map-Statement}
use Rattle.access_blocks.specs.declared.place.Site.{Site}
use Rattle.access_blocks.specs.Marks.{with_marks, unit_of, first_of, first_in, key_by, key_step, key_of, carried_args, carrying_access, carrying_in, marked}
use Rattle.body_code.specs.Early.{is_in}
use Rattle.body_code.specs.Checking.{Surroundings, calling_step, calling, calling_maybe, in_all, called_step, called_in}
use Rattle.marked_bodies.proofs.Facts as facts
use Rattle.marked_bodies.proofs.Typed.{AreGood}
use Rattle.marked_bodies.proofs.Keeping.{Each, Keeps, list_kept}
use Rattle.marked_bodies.proofs.Units.{IsUnit, Simple, Several, unit_is, marked_fold, access_fold, simple_fold}

abbrev Within : List ℕ → List ℕ → Type 0
Within xs ys = (m : ℕ) → is_in m xs ≡ true → is_in m ys ≡ true

both_within : (ones bs cs ds : List ℕ) → Within ones bs → Within cs ds → Within (ones ++ cs) (bs ++ ds)
both_within ones bs cs ds h k m is = by (facts.in_either m ones cs is)
  where
    by : (is_in m ones ≡ true) ⊎ (is_in m cs ≡ true) → is_in m (bs ++ ds) ≡ true
    by (inl a) = facts.in_first m bs ds (h m a)
    by (inr c) = facts.in_second m bs ds (k m c)

two_within : (ones cs ds : List ℕ) → Within ones ds → Within cs ds → Within (ones ++ cs) ds
two_within ones cs ds h k m is = by (facts.in_either m ones cs is)
  where
    by : (is_in m ones ≡ true) ⊎ (is_in m cs ≡ true) → is_in m ds ≡ true
    by (inl a) = h m a
    by (inr c) = k m c

none_within : (ys : List ℕ) → Within [] ys
none_within ys m is = absurd (false≢true is)

-- ---- the key of a statement is an argument of an access in it

first_within : (a b : Option Expression) (xs ys : List ℕ) → Within (calling_maybe a) xs → Within (calling_maybe b) ys → Within (calling_maybe (first_of a b)) (xs ++ ys)
first_within (Some k) b xs ys h g m is = facts.in_first m xs ys (h m is)
first_within None b xs ys h g m is = facts.in_second m xs ys (g m is)

argument_within : (how : Choice) (args : List Expression) → Within (calling_maybe (key_by how args)) (in_all (map calling args))
argument_within choice.Instance args = none_within (in_all (map calling args))
argument_within (choice.Literal n) [] = none_within []
argument_within (choice.Literal n) (k ∷ args) = λ m is. facts.in_first m (calling k) (in_all (map calling args)) is
argument_within (choice.Variable v) [] = none_within []
argument_within (choice.Variable v) (k ∷ args) = λ m is. facts.in_first m (calling k) (in_all (map calling args)) is
argument_within choice.Compound [] = none_within []
argument_within choice.Compound (k ∷ args) = λ m is. facts.in_first m (calling k) (in_all (map calling args)) is

abbrev KeyWithin : Statement → Type 0
KeyWithin z = Within (calling_maybe (key_of z)) (called_in z)

abbrev Part : Type 0
Part = (z : Statement) × KeyWithin z

abbrev bare : Statement-F Part → Statement-F Statement
bare = map-Statement Part Statement (λ p. p.0)

abbrev bares : List Part → List Statement
bares ps = map (λ (p : Part). p.0) ps

list_within : (ps : List Part) → Within (calling_maybe (first_in (map key_of (bares ps)))) (in_all (map called_in (bares ps)))
list_within [] = none_within []
list_within (p ∷ ps) = first_within (key_of p.0) (first_in (map key_of (bares ps))) (called_in p.0) (in_all (map called_in (bares ps))) p.1 (list_within ps)

more_within : (k : Option Expression) (xs ys : List ℕ) → Within (calling_maybe k) ys → Within (calling_maybe k) (xs ++ ys)
more_within k xs ys h m is = facts.in_second m xs ys (h m is)

-- the update of a loop stands before its body, and its code behind
turned : (us bs : List ℕ) → Within (us ++ bs) (bs ++ us)
turned us bs = two_within us bs (bs ++ us) (λ m is. facts.in_second m bs us is) (λ m is. facts.in_first m bs us is)

abbrev keys : Statement-F Statement → Statement-F (Option Expression)
keys = map-Statement Statement (Option Expression) key_of

abbrev calls : Statement-F Statement → Statement-F (List ℕ)
calls = map-Statement Statement (List ℕ) called_in

layer : (y : Statement-F Part) → Within (calling_maybe (key_step (keys (bare y)))) (called_step (calls (bare y)))
layer (s.Access a) = argument_within a.choice a.args
layer (s.Marked mark body) = more_within (key_of body.0) (calling_maybe mark.key) (called_in body.0) body.1
layer (s.Opened body) = body.1
layer (s.Block items) = list_within items
layer (s.If test first None) = more_within (first_of (key_of first.0) None) (calling test) (called_in first.0 ++ []) (first_within (key_of first.0) None (called_in first.0) [] first.1 (none_within []))
layer (s.If test first (Some second)) =
    more_within (first_of (key_of first.0) (key_of second.0)) (calling test) (called_in first.0 ++ called_in second.0) (first_within (key_of first.0) (key_of second.0) (called_in first.0) (called_in second.0) first.1 second.1)
layer (s.Loop start test update body) =
    let ks = first_in (map key_of (bares start)) in
    let ku = first_in (map key_of (bares update)) in
    let ss = in_all (map called_in (bares start)) in
    let us = in_all (map called_in (bares update)) in
    let bs = called_in body.0 in
    first_within ks (first_of ku (key_of body.0)) ss (calling_maybe test ++ (bs ++ us)) (list_within start)
    (more_within (first_of ku (key_of body.0)) (calling_maybe test) (bs ++ us) (λ m is. turned us bs m (first_within ku (key_of body.0) us bs (list_within update) body.1 m is)))
layer (s.Assign v a) = none_within (calling a)
layer (s.SetElement v at a) = none_within (calling at ++ calling a)
layer (s.Evaluate a) = none_within (calling a)
layer (s.Gather g) = none_within (in_all (map calling g.args))
layer s.Break = none_within []
layer s.Continue = none_within []
layer (s.Return a) = none_within (calling_maybe a)

made : (z : Statement-F Statement) (y : Statement-F Part) → bare y ≡ z → KeyWithin (roll-Statement z)
made z y is =
    let P : Statement-F Statement → Type 0 = λ w. Within (calling_maybe (key_step (keys w))) (called_step (calls w)) in
    let all : P z = subst P is (layer y) in
    subst (λ (k : Option Expression). Within (calling_maybe k) (called_in (roll-Statement z))) (sym (fold-roll-Statement (Option Expression) key_step z))
    (subst (λ (ms : List ℕ). Within (calling_maybe (key_step (keys z))) ms) (sym (fold-roll-Statement (List ℕ) called_step z)) all)

key_within : (z : Statement) → KeyWithin z
key_within = ind-Statement KeyWithin made

-- ---- units

carried_within : (args : List Expression) → Within (in_all (map calling (carried_args args))) (in_all (map calling args))
carried_within [] = none_within []
carried_within (k ∷ args) =
    let none : calling x.CarriedKey ≡ [] = ap calling (sym x.rolls-CarriedKey) ∙ fold-roll-Expression (List ℕ) calling_step e.CarriedKey in
    both_within (calling x.CarriedKey) (calling k) (in_all (map calling args)) (in_all (map calling args)) (subst (λ (ms : List ℕ). Within ms (calling k)) (sym none) (none_within (calling k))) (λ m is. is)

access_within : (a : Access) (how : Choice) → Within (in_all (map calling (carrying_access a how).args)) (in_all (map calling a.args))
access_within a (choice.Literal n) = λ m is. is
access_within a (choice.Variable v) = λ m is. is
access_within a choice.Compound = carried_within a.args
access_within a choice.Instance = λ m is. is

unit_within : (z : Statement) (site : Site) → IsUnit z site → Within (called_in (carrying_in z (out-Statement z))) (called_in z)
unit_within z site (Simple a is at same) =
    let there : called_in (carrying_in z (out-Statement z)) ≡ in_all (map calling (carrying_access a a.choice).args) = ap called_in same ∙ access_fold (List ℕ) called_step (carrying_access a a.choice) in
    let here : called_in z ≡ in_all (map calling a.args) = simple_fold (List ℕ) called_step z a is in
    λ m h. subst (λ (ms : List ℕ). is_in m ms ≡ true) (sym here) (access_within a a.choice m (subst (λ (ms : List ℕ). is_in m ms ≡ true) there h))
unit_within z site (Several one same) = λ m h. subst (λ (w : Statement). is_in m (called_in w) ≡ true) same h

marked_within : (site : Site) (z : Statement) → unit_of z ≡ Some site → Within (called_in (marked site z)) (called_in z)
marked_within site z is =
    subst (λ (ms : List ℕ). Within ms (called_in z)) (sym (marked_fold (List ℕ) called_step site z))
    (two_within (calling_maybe (key_of z)) (called_in (carrying_in z (out-Statement z))) (called_in z) (key_within z) (unit_within z site (unit_is z site is)))

-- ---- lists

all_within : (ones bs : List (List ℕ)) → Each Within ones bs → Within (in_all ones) (in_all bs)
all_within [] [] h = none_within []
all_within (a ∷ ones) (b ∷ bs) h = both_within a b (in_all ones) (in_all bs) h.0 (all_within ones bs h.1)
all_within [] (b ∷ bs) h = absurd h
all_within (a ∷ ones) [] h = absurd h

calls_keep : (around : Surroundings) → Keeps around (List ℕ) called_step Within
calls_keep around = record {
  same = λ a m is. is;
  unit = λ site z good is. marked_within site z is;
  opened = λ a b h. h;
  block = λ ones bs h. all_within ones bs h;
  if_alone = λ test a b h. both_within (calling test) (calling test) (a ++ []) (b ++ []) (λ m is. is) (both_within a b [] [] h (λ m is. is));
  if_both = λ test a b c d h g. both_within (calling test) (calling test) (a ++ c) (b ++ d) (λ m is. is) (both_within a b c d h g);
  loop = λ start test update a b h.
      both_within (in_all start) (in_all start) (calling_maybe test ++ (a ++ in_all update)) (calling_maybe test ++ (b ++ in_all update)) (λ m is. is)
      (both_within (calling_maybe test) (calling_maybe test) (a ++ in_all update) (b ++ in_all update) (λ m is. is) (both_within a b (in_all update) (in_all update) h (λ m is. is)));
}

pub calls_no_others : (around : Surroundings) (xs : List Statement) → AreGood around xs → (m : ℕ) → is_in m (in_all (map called_in (with_marks xs))) ≡ true → is_in m (in_all (map called_in xs)) ≡ true
calls_no_others around xs good =
    all_within (map called_in (with_marks xs)) (map called_in xs) (list_kept around (List ℕ) called_step Within (calls_keep around) None xs good)
