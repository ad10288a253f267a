-- What is kept by each unit is kept by a list with its marks.
use Rattle.std.proofs.Common.{◌≡◌, refl, sym, ap, subst, Bool, true, false, if◌then◌else◌, List, Option, Some, None}
use Rattle.access_blocks.specs.declared.body.Statement.{Statement, out-Statement}
use Rattle.access_blocks.specs.declared.body.Statement.TheOpen.{Statement-F}
use Rattle.access_blocks.specs.declared.body.Statement.TheOpen as s
use Rattle.access_blocks.specs.declared.place.Placed.{Placed}
use Rattle.access_blocks.specs.declared.place.Site.{Site}
use Rattle.access_blocks.specs.Marks.{Marking, marking_of, unit_of, has_access, unit_placed, opened, without, placed_as, placed, branch_in, branch}
use Rattle.access_blocks.proofs.Markings.{whole_is}

-- ---- the cases of what is placed

-- a statement's marking, with the statement itself in the place of its copy
pub marking_is : (st : Statement) → marking_of st ≡ record { whole = st; opened = (marking_of st).opened }
marking_is st = ap (λ (w : Statement). record { whole = w; opened = (marking_of st).opened }) (whole_is st)

pub placed_is : (current : Option Site) (st : Statement) (R : Placed → Type 0)
    → ((site : Site) → unit_of st ≡ Some site → R (unit_placed current site st))
    → (unit_of st ≡ None → has_access st ≡ true → R (opened (marking_of st).opened))
    → (unit_of st ≡ None → has_access st ≡ false → R (without current st))
    → R (placed current (marking_of st))
placed_is current st R unit inside none =
    subst (λ (m : Marking). R (placed current m)) (sym (marking_is st)) (by (unit_of st) (has_access st) refl refl)
  where
    by : (o : Option Site) (b : Bool) → unit_of st ≡ o → has_access st ≡ b → R (placed_as current o b (record { whole = st; opened = (marking_of st).opened }))
    by (Some site) b is has = unit site is
    by None true is has = inside is has
    by None false is has = none is has

pub branch_is : (st : Statement) (R : Statement → Type 0)
    → ((items : List Statement) → out-Statement st ≡ s.Block items → has_access st ≡ true → R (marking_of st).opened)
    → (has_access st ≡ false → R st)
    → R (placed None (marking_of st)).statement
    → R (branch (marking_of st))
branch_is st R inside none one = subst (λ (m : Marking). R (branch m)) (sym (marking_is st)) (by (out-Statement st) refl)
  where
    m : Marking
    m = record { whole = st; opened = (marking_of st).opened }

    same : R (placed None m).statement
    same = subst (λ (n : Marking). R (placed None n).statement) (marking_is st) one

    of_block : (items : List Statement) (b : Bool) → out-Statement st ≡ s.Block items → has_access st ≡ b → R (if b then m.opened else m.whole)
    of_block items true is has = inside items is has
    of_block items false is has = none has

    by : (y : Statement-F Statement) → out-Statement st ≡ y → R (branch_in y m)
    by (s.Block items) is = of_block items (has_access st) is refl
    by _ is = same
