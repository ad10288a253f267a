-- Which variables a body reads early is as it was: the key of a mark reads no variable that its unit assigns, or only what the
-- access reads.
use Rattle.std.proofs.Common.{◌≡◌, refl, sym, ap, subst, ◌∙◌, ℕ, Bool, true, false, cond, ◌||◌, List, [], ◌∷◌, ◌++◌, map, Option, None}
use Rattle.std.specs.Prelude.{nat_eq}
use Rattle.std.proofs.lemmas.Bool.{false≢true}
use Rattle.access_blocks.specs.declared.body.Access.{Access}
use Rattle.access_blocks.specs.declared.body.Choice.{Choice}
use Rattle.access_blocks.specs.declared.body.Choice.TheVariants as choice
use Rattle.access_blocks.specs.declared.body.Expression.{Expression}
use Rattle.access_blocks.specs.declared.body.Statement.{Statement, out-Statement}
use Rattle.access_blocks.specs.declared.body.Statement.TheOpen as s
use Rattle.access_blocks.specs.declared.body.Statement.TheVariants as statement
use Rattle.access_blocks.specs.declared.body.Target.{Target}
use Rattle.access_blocks.specs.declared.body.Target.TheVariants as target
use Rattle.access_blocks.specs.declared.place.Site.{Site}
use Rattle.access_blocks.specs.Marks.{assigns, first_argument, key_by, key_step, key_of, sites_in, carried_args, carrying_access, carrying_in, with_marks}
use Rattle.body_code.specs.Early.{Assigned, to_target, with_reads, key_reads, all_of, assigned_step, assigned_in, is_in, early_after}
use Rattle.body_code.specs.Typing.{Needs, needs, needs_of_all}
use Rattle.body_code.specs.Checking.{Surroundings}
use Rattle.marked_bodies.proofs.Facts.{any_of_both, either_false}
use Rattle.marked_bodies.proofs.Typed.{IsGood, AreGood}
use Rattle.marked_bodies.proofs.Standings.{nat_same}
use Rattle.marked_bodies.proofs.Keys.{KeyFits, NoAccess, ByInstance, ByKey, key_reads_one}
use Rattle.marked_bodies.proofs.UnitKeys.{LeavesKey, statement_keyed}
use Rattle.marked_bodies.proofs.UnitSites.{several_are}
use Rattle.marked_bodies.proofs.Keying.{carried_needs}
use Rattle.marked_bodies.proofs.Keeping.{Each, Keeps, list_kept}
use Rattle.marked_bodies.proofs.Completing.{carried_target}
use Rattle.marked_bodies.proofs.Assigning.{any_is, assigns_any}
use Rattle.marked_bodies.proofs.Units.{IsUnit, Simple, Several, unit_is, marked_fold, access_fold, simple_fold}

-- one variable is assigned, which both read or neither
abbrev pub ReadsAlike : Assigned → Assigned → Type 0
ReadsAlike a b = (a.variable ≡ b.variable) × (is_in a.variable a.reads ≡ is_in b.variable b.reads)

abbrev pub Alike : List Assigned → List Assigned → Type 0
Alike = Each ReadsAlike

alike_same : (xs : List Assigned) → Alike xs xs
alike_same [] = tt
alike_same (a ∷ xs) = ((refl, refl), alike_same xs)

alike_both : (ones bs cs ds : List Assigned) → Alike ones bs → Alike cs ds → Alike (ones ++ cs) (bs ++ ds)
alike_both [] [] cs ds h k = k
alike_both (a ∷ ones) (b ∷ bs) cs ds h k = (h.0, alike_both ones bs cs ds h.1 k)
alike_both [] (b ∷ bs) cs ds h k = absurd h
alike_both (a ∷ ones) [] cs ds h k = absurd h

alike_all : (ones bs : List (List Assigned)) → Each Alike ones bs → Alike (all_of ones) (all_of bs)
alike_all [] [] h = tt
alike_all (a ∷ ones) (b ∷ bs) h = alike_both a b (all_of ones) (all_of bs) h.0 (alike_all ones bs h.1)
alike_all [] (b ∷ bs) h = absurd h
alike_all (a ∷ ones) [] h = absurd h

one_early : (seen : List ℕ) (v w : ℕ) (a b : Bool) (p q : List ℕ) (ps qs : List ℕ → List ℕ) → v ≡ w → a ≡ b → p ≡ q → ((more : List ℕ) → ps more ≡ qs more)
    → cond (is_in v seen) p (cond a (v ∷ ps (v ∷ seen)) (ps (v ∷ seen))) ≡ cond (is_in w seen) q (cond b (w ∷ qs (w ∷ seen)) (qs (w ∷ seen)))
one_early seen v w a b p q ps qs same alike rest more =
    let e = more (v ∷ seen) in
    ap (λ (z : List ℕ). cond (is_in v seen) p (cond a (v ∷ z) z)) e
    ∙ ap (λ (z : List ℕ). cond (is_in v seen) z (cond a (v ∷ qs (v ∷ seen)) (qs (v ∷ seen)))) rest
    ∙ ap (λ (z : Bool). cond (is_in v seen) q (cond z (v ∷ qs (v ∷ seen)) (qs (v ∷ seen)))) alike
    ∙ ap (λ (z : ℕ). cond (is_in z seen) q (cond b (z ∷ qs (z ∷ seen)) (qs (z ∷ seen)))) same

early_alike : (xs ys : List Assigned) → Alike xs ys → (seen : List ℕ) → early_after seen xs ≡ early_after seen ys
early_alike [] [] h seen = refl
early_alike (a ∷ xs) (b ∷ ys) h seen =
    one_early seen a.variable b.variable (is_in a.variable a.reads) (is_in b.variable b.reads) (early_after seen xs) (early_after seen ys) (λ more. early_after more xs) (λ more. early_after more ys)
    h.0.0 h.0.1 (early_alike xs ys h.1 seen) (early_alike xs ys h.1)
early_alike [] (b ∷ ys) h seen = absurd h
early_alike (a ∷ xs) [] h seen = absurd h

-- ---- what the key of a mark reads

in_again : (v : ℕ) (xs ys : List ℕ) → is_in v (xs ++ (xs ++ ys)) ≡ is_in v (xs ++ ys)
in_again v xs ys = any_of_both (nat_eq v) xs (xs ++ ys) ∙ ap (λ b. is_in v xs || b) (any_of_both (nat_eq v) xs ys) ∙ by (is_in v xs) (is_in v ys) ∙ sym (any_of_both (nat_eq v) xs ys)
  where
    by : (a b : Bool) → (a || (a || b)) ≡ (a || b)
    by true b = refl
    by false b = refl

argument_again : (v : ℕ) (args : List Expression) → is_in v (key_reads (first_argument args) ++ (needs_of_all args).variables) ≡ is_in v (needs_of_all args).variables
argument_again v [] = refl
argument_again v (k ∷ args) = in_again v (needs k).variables (needs_of_all args).variables

argument_carried : (v : ℕ) (args : List Expression) → is_in v (key_reads (first_argument args) ++ (needs_of_all (carried_args args)).variables) ≡ is_in v (needs_of_all args).variables
argument_carried v [] = refl
argument_carried v (k ∷ args) = ap (λ (n : Needs). is_in v ((needs k).variables ++ (n.variables ++ (needs_of_all args).variables))) carried_needs

key_alike : (a : Access) (how : Choice) (v : ℕ) → is_in v (key_reads (key_by how a.args) ++ (needs_of_all (carrying_access a how).args).variables) ≡ is_in v (needs_of_all a.args).variables
key_alike a choice.Instance v = refl
key_alike a choice.Compound v = argument_carried v a.args
key_alike a (choice.Literal n) v = argument_again v a.args
key_alike a (choice.Variable w) v = argument_again v a.args

target_alike : (to : Target) (more read was : List ℕ) → ((v : ℕ) → is_in v (more ++ read) ≡ is_in v was) → Alike (map (with_reads more) (to_target to read)) (to_target to was)
target_alike target.Dropped more read was same = tt
target_alike (target.Variable v) more read was same = ((refl, same v), tt)
target_alike target.Returned more read was same = tt

-- a key that reads no variable that is assigned
unassigned_alike : (more : List ℕ) (xs : List Assigned) → ((v : ℕ) → is_in v more ≡ true → any_is v xs ≡ false) → Alike (map (with_reads more) xs) xs
unassigned_alike more [] none = tt
unassigned_alike more (a ∷ xs) none = ((refl, any_of_both (nat_eq a.variable) more a.reads ∙ by (is_in a.variable more) refl), unassigned_alike more xs (λ v is. others v (none v is)))
  where
    others : (v : ℕ) → any_is v (a ∷ xs) ≡ false → any_is v xs ≡ false
    others v is = (either_false (nat_eq a.variable v) (any_is v xs) is).1

    by : (b : Bool) → is_in a.variable more ≡ b → (b || is_in a.variable a.reads) ≡ is_in a.variable a.reads
    by true is = absurd (false≢true (sym (none a.variable is) ∙ ap (λ b. b || any_is a.variable xs) (nat_same a.variable)))
    by false is = refl

key_unassigned : (around : Surroundings) (known : List ℕ) (part : Site) (sites : List Site) (key : Option Expression) (assigned : ℕ → Bool) → KeyFits around known part sites key → LeavesKey part assigned
    → (v : ℕ) → is_in v (key_reads key) ≡ true → assigned v ≡ false
key_unassigned around known part sites key assigned (NoAccess none is) leaves v reads = absurd (false≢true (ap (λ o. is_in v (key_reads o)) (sym is) ∙ reads))
key_unassigned around known part sites key assigned (ByInstance entry partial is) leaves v reads = absurd (false≢true (ap (λ o. is_in v (key_reads o)) (sym is) ∙ reads))
key_unassigned around known part sites key assigned (ByKey k entry is partitioned long one all) leaves v reads =
    leaves v (key_reads_one part.choice (needs k) one v (ap (λ o. is_in v (key_reads o)) (sym is) ∙ reads))

-- ---- units

simple_alike : (x : Statement) (a : Access) → out-Statement x ≡ s.Access a → carrying_in x (out-Statement x) ≡ statement.Access (carrying_access a a.choice)
    → Alike (map (with_reads (key_reads (key_of x))) (assigned_in (carrying_in x (out-Statement x)))) (assigned_in x)
simple_alike x a is same =
    let b = carrying_access a a.choice in
    let read = (needs_of_all b.args).variables in
    let was = (needs_of_all a.args).variables in
    let more = key_reads (key_by a.choice a.args) in
    let inner : assigned_in (carrying_in x (out-Statement x)) ≡ to_target a.target read =
    ap assigned_in same ∙ access_fold (List Assigned) assigned_step b ∙ ap (λ to. to_target to read) (carried_target a a.choice) in
    let outer : assigned_in x ≡ to_target a.target was = simple_fold (List Assigned) assigned_step x a is in
    let key : key_of x ≡ key_by a.choice a.args = simple_fold (Option Expression) key_step x a is in
    subst (λ (o : Option Expression). Alike (map (with_reads (key_reads o)) (assigned_in (carrying_in x (out-Statement x)))) (assigned_in x)) (sym key)
    (subst (λ (xs : List Assigned). Alike (map (with_reads more) xs) (assigned_in x)) (sym inner)
    (subst (λ (xs : List Assigned). Alike (map (with_reads more) (to_target a.target read)) xs) (sym outer) (target_alike a.target more read was (key_alike a a.choice))))

unit_alike : (around : Surroundings) (site : Site) (x : Statement) → IsGood around x → IsUnit x site → Alike (map (with_reads (key_reads (key_of x))) (assigned_in (carrying_in x (out-Statement x)))) (assigned_in x)
unit_alike around site x good (Simple a is at same) = simple_alike x a is same
unit_alike around site x good (Several one same) =
    let more = key_reads (key_of x) in
    let are = several_are x site one in
    let fits = statement_keyed around x site good.0 good.1 good.2 are.all are.leaves good.3 in
    subst (λ (z : Statement). Alike (map (with_reads more) (assigned_in z)) (assigned_in x)) (sym same)
    (unassigned_alike more (assigned_in x) (λ v is. sym (assigns_any v x) ∙ key_unassigned around good.1.known site (sites_in x) (key_of x) (λ w. assigns w x) fits are.leaves v is))

reads_keep : (around : Surroundings) → Keeps around (List Assigned) assigned_step Alike
reads_keep around = record {
  same = alike_same;
  unit = λ site x good is. subst (λ (xs : List Assigned). Alike xs (assigned_in x)) (sym (marked_fold (List Assigned) assigned_step site x)) (unit_alike around site x good (unit_is x site is));
  opened = λ a b h. h;
  block = alike_all;
  if_alone = λ test a b h. alike_both a b [] [] h tt;
  if_both = λ test a b c d h g. alike_both a b c d h g;
  loop = λ start test update a b h. alike_both (all_of start) (all_of start) (all_of update ++ a) (all_of update ++ b) (alike_same (all_of start)) (alike_both (all_of update) (all_of update) a b (alike_same (all_of update)) h);
}

pub reads_as_early : (around : Surroundings) (xs : List Statement) → AreGood around xs → (seen : List ℕ) → early_after seen (all_of (map assigned_in (with_marks xs))) ≡ early_after seen (all_of (map assigned_in xs))
reads_as_early around xs good =
    early_alike (all_of (map assigned_in (with_marks xs))) (all_of (map assigned_in xs))
    (alike_all (map assigned_in (with_marks xs)) (map assigned_in xs) (list_kept around (List Assigned) assigned_step Alike (reads_keep around) None xs good))
