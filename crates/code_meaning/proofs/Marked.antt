-- Blocks are marked only where steps come to.
use Rattle.std.proofs.Common.{◌≡◌, refl, sym, ap, subst, ◌∙◌, Bool, true, false, cond, not, nat_eq, List, [], ◌∷◌, Option, Some, None, is_some}
use Rattle.std.specs.List.{list_all, list_any}
use Rattle.std.proofs.lemmas.Bool.{false≢true}
use Rattle.access_blocks.specs.declared.body.Access.{Access}
use Rattle.access_blocks.specs.declared.body.Choice.{Choice}
use Rattle.access_blocks.specs.declared.body.Expression.{Expression}
use Rattle.access_blocks.specs.declared.body.Mark.{Mark}
use Rattle.access_blocks.specs.declared.body.Statement.{Statement, roll-Statement, out-Statement}
use Rattle.access_blocks.specs.declared.body.Statement.TheVariants as statement
use Rattle.access_blocks.specs.declared.body.Statement.TheOpen.{Statement-F}
use Rattle.access_blocks.specs.declared.body.Statement.TheOpen as s
use Rattle.access_blocks.specs.declared.body.Statement.TheFolds.{fold-roll-Statement, fold_out-Statement, map-Statement}
use Rattle.access_blocks.specs.declared.place.Site.{Site}
use Rattle.access_blocks.specs.Marks.{same_part, same_site, sites_in, changes_key, site_if, is_one, one_of, unit_in, unit_of, has_access, key_of, carrying_access, carrying_in, marked, is_current, Marking, placed_as, placed, branch_in, branch}
use Rattle.code_meaning.specs.Running.{plain_step, is_plain}
use Rattle.code_meaning.specs.Placed.{Placing, placing_step, placing_of}
use Rattle.code_meaning.proofs.Lists.{none_some, both_true, and_true}
use Rattle.code_meaning.proofs.Wholly.{plain_stands}
use Rattle.code_meaning.proofs.Units.{is_of_part, AreOfParts, whole_of_parts}

-- ---- accesses to one part

part_some : (a b : Option Choice) → same_part a b ≡ true → is_some b ≡ true
part_some (Some a) (Some b) is = refl
part_some (Some a) None is = absurd (false≢true is)
part_some None b is = absurd (false≢true is)

all_parts : (first : Site) (sites : List Site) → list_all (same_site first) sites ≡ true → AreOfParts sites
all_parts first [] is = refl
all_parts first (x ∷ xs) is =
    let k = both_true (same_site first x) (list_all (same_site first) xs) is in
    and_true (is_of_part x) (list_all is_of_part xs) (part_some first.choice x.choice (both_true (nat_eq first.field x.field) (same_part first.choice x.choice) k.0).1) (all_parts first xs k.1)

site_so : (b : Bool) (a site : Site) → site_if b a ≡ Some site → b ≡ true
site_so true a site is = refl
site_so false a site is = absurd (none_some site is)

one_parts : (st : Statement) (sites : List Site) (site : Site) → one_of st sites ≡ Some site → AreOfParts sites
one_parts st [] site is = absurd (none_some site is)
one_parts st (x ∷ xs) site is = all_parts x (x ∷ xs) (both_true (list_all (same_site x) (x ∷ xs)) (not (changes_key x.choice st)) (site_so (is_one st x (x ∷ xs)) x site is)).0

no_parts : (sites : List Site) → list_any (λ site. true) sites ≡ false → AreOfParts sites
no_parts [] is = refl
no_parts (x ∷ xs) is = absurd (false≢true (sym is))

module _ (st : Statement) (free : (placing_of st).unmarked ≡ true) where
  by_parts : AreOfParts (sites_in st) → is_plain st ≡ true
  by_parts parts = whole_of_parts st free parts

  -- a statement that is a unit is run whole
  unit_plain : (y : Statement-F Statement) (site : Site) → out-Statement st ≡ y → unit_in st y ≡ Some site → is_plain st ≡ true
  unit_plain (s.Access a) site is unit = fold_out-Statement Bool plain_step st ∙ ap (λ (z : Statement-F Statement). plain_step (map-Statement Statement Bool is_plain z)) is
  unit_plain (s.Gather g) site is unit = absurd (none_some site unit)
  unit_plain (s.Marked mark body) site is unit = by_parts (one_parts st (sites_in st) site unit)
  unit_plain (s.Opened body) site is unit = by_parts (one_parts st (sites_in st) site unit)
  unit_plain (s.Block items) site is unit = by_parts (one_parts st (sites_in st) site unit)
  unit_plain (s.If test first second) site is unit = by_parts (one_parts st (sites_in st) site unit)
  unit_plain (s.Loop start test update body) site is unit = by_parts (one_parts st (sites_in st) site unit)
  unit_plain (s.Assign v e) site is unit = by_parts (one_parts st (sites_in st) site unit)
  unit_plain (s.SetElement v a e) site is unit = by_parts (one_parts st (sites_in st) site unit)
  unit_plain (s.Evaluate e) site is unit = by_parts (one_parts st (sites_in st) site unit)
  unit_plain s.Break site is unit = by_parts (one_parts st (sites_in st) site unit)
  unit_plain s.Continue site is unit = by_parts (one_parts st (sites_in st) site unit)
  unit_plain (s.Return e) site is unit = by_parts (one_parts st (sites_in st) site unit)

-- ---- what is placed

abbrev pub IsPlaced : Statement → Type 0
IsPlaced x = (placing_of x).placed ≡ true

pub rolled : (y : Statement-F Statement) → (placing_step (map-Statement Statement Placing placing_of y)).placed ≡ true → IsPlaced (roll-Statement y)
rolled y is = ap (λ (a : Placing). a.placed) (fold-roll-Statement Placing placing_step y) ∙ is

-- the variants are made so
variant_opened : (x : Statement) → roll-Statement (s.Opened x) ≡ statement.Opened x
unfolding roll-Statement denote.Hole.Carrier.roll
variant_opened x = refl

variant_access : (a : Access) → roll-Statement (s.Access a) ≡ statement.Access a
unfolding roll-Statement denote.Hole.Carrier.roll
variant_access a = refl

variant_marked : (mark : Mark) (x : Statement) → roll-Statement (s.Marked mark x) ≡ statement.Marked mark x
unfolding roll-Statement denote.Hole.Carrier.roll
variant_marked mark x = refl

pub variant_block : (xs : List Statement) → roll-Statement (s.Block xs) ≡ statement.Block xs
unfolding roll-Statement denote.Hole.Carrier.roll
variant_block xs = refl

pub variant_if : (test : Expression) (x : Statement) (second : Option Statement) → roll-Statement (s.If test x second) ≡ statement.If test x second
unfolding roll-Statement denote.Hole.Carrier.roll
variant_if test x second = refl

pub variant_loop : (start : List Statement) (test : Option Expression) (update : List Statement) (x : Statement) → roll-Statement (s.Loop start test update x) ≡ statement.Loop start test update x
unfolding roll-Statement denote.Hole.Carrier.roll
variant_loop start test update x = refl

pub rolled_opened : (y : Statement-F Statement) → (placing_step (map-Statement Statement Placing placing_of y)).opened ≡ true → IsPlaced (statement.Opened (roll-Statement y))
rolled_opened y is = subst IsPlaced (variant_opened (roll-Statement y)) (rolled (s.Opened (roll-Statement y)) (ap (λ (a : Placing). a.opened) (fold-roll-Statement Placing placing_step y) ∙ is))

carried_placed : (st : Statement) (y : Statement-F Statement) → IsPlaced st → IsPlaced (carrying_in st y)
carried_placed st (s.Access a) is = subst IsPlaced (variant_access (carrying_access a a.choice)) (rolled (s.Access (carrying_access a a.choice)) refl)
carried_placed st (s.Gather g) is = is
carried_placed st (s.Marked mark body) is = is
carried_placed st (s.Opened body) is = is
carried_placed st (s.Block items) is = is
carried_placed st (s.If test first second) is = is
carried_placed st (s.Loop start test update body) is = is
carried_placed st (s.Assign v e) is = is
carried_placed st (s.SetElement v a e) is = is
carried_placed st (s.Evaluate e) is = is
carried_placed st s.Break is = is
carried_placed st s.Continue is = is
carried_placed st (s.Return e) is = is

marked_placed : (site : Site) (st : Statement) → IsPlaced st → IsPlaced (marked site st)
marked_placed site st is =
    let mark : Mark = record { field = site.field; key = key_of st } in
    subst IsPlaced (variant_marked mark (carrying_in st (out-Statement st))) (rolled (s.Marked mark (carrying_in st (out-Statement st))) (carried_placed st (out-Statement st) is))

either_placed : (b : Bool) (x y : Statement) → IsPlaced x → IsPlaced y → IsPlaced (cond b x y)
either_placed true x y hx hy = hx
either_placed false x y hx hy = hy

-- a statement before its marks, and the same with them
pub record MayBePlaced (m : Marking) : Type 0 where
  pub free : (placing_of m.whole).unmarked ≡ true
  pub opened : IsPlaced m.opened

placed_by : (m : Marking) → MayBePlaced m → (current : Option Site) (unit : Option Site) (accesses : Bool) → unit_of m.whole ≡ unit → has_access m.whole ≡ accesses → IsPlaced (placed_as current unit accesses m).statement
placed_by m h current (Some site) accesses unit is =
    let stands = (plain_stands m.whole (unit_plain m.whole h.free (out-Statement m.whole) site refl unit)).1 in
    either_placed (is_current current site) m.whole (marked site m.whole) stands (marked_placed site m.whole stands)
placed_by m h current None true unit is = h.opened
placed_by m h current None false unit is = (plain_stands m.whole (by_parts m.whole h.free (no_parts (sites_in m.whole) is))).1

pub is_placed : (m : Marking) → MayBePlaced m → (current : Option Site) → IsPlaced (placed current m).statement
is_placed m h current = placed_by m h current (unit_of m.whole) (has_access m.whole) refl refl

branch_by : (m : Marking) → MayBePlaced m → (y : Statement-F Statement) → IsPlaced (branch_in y m)
branch_by m h (s.Block items) = by (has_access m.whole) refl
  where
    by : (b : Bool) → has_access m.whole ≡ b → IsPlaced (cond b m.opened m.whole)
    by true is = h.opened
    by false is = (plain_stands m.whole (by_parts m.whole h.free (no_parts (sites_in m.whole) is))).1
branch_by m h (s.Marked mark body) = is_placed m h None
branch_by m h (s.Gather g) = is_placed m h None
branch_by m h (s.Opened body) = is_placed m h None
branch_by m h (s.If test first second) = is_placed m h None
branch_by m h (s.Loop start test update body) = is_placed m h None
branch_by m h (s.Assign v e) = is_placed m h None
branch_by m h (s.SetElement v a e) = is_placed m h None
branch_by m h (s.Evaluate e) = is_placed m h None
branch_by m h (s.Access a) = is_placed m h None
branch_by m h s.Break = is_placed m h None
branch_by m h s.Continue = is_placed m h None
branch_by m h (s.Return e) = is_placed m h None

pub branch_placed : (m : Marking) → MayBePlaced m → IsPlaced (branch m)
branch_placed m h = branch_by m h (out-Statement m.whole)
