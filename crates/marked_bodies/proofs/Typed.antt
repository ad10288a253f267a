-- Statements within a typed one are typed, before marks stand in them.
use Rattle.std.proofs.Common.{◌≡◌, refl, true, ◌&&◌, List, [], ◌∷◌, Option, Some, None}
use Rattle.std.proofs.lemmas.Bool.{false≢true}
use Rattle.sdg_base.specs.declared.value_type.ValueType.TheVariants as type
use Rattle.access_blocks.specs.declared.body.Expression.{Expression}
use Rattle.access_blocks.specs.declared.body.Statement.{Statement}
use Rattle.body_code.specs.Checking.{Surroundings, Standing, Around, Checking, outside, in_order, otherwise, takes, covers, after_compound, is_condition, ends_as, passing, looping}
use Rattle.marked_bodies.specs.Unmarked.{and_outside, behind, behind_both, unmarked_branching, unmarked, unmarked_list}
use Rattle.marked_bodies.proofs.Facts.{none_some, some_is, both_true, if_so_is, if_then, next_is}

pub outside_is : (o : Option Standing) (end : Standing) → and_outside o ≡ Some end → (a : Standing) × (o ≡ Some a) × (outside a ≡ end)
outside_is None end is = absurd (none_some end is)
outside_is (Some a) end is = (a, refl, some_is (outside a) end is)

pub behind_is : (st : Standing) (o : Option Standing) (end : Standing) → behind st o ≡ Some end → (a : Standing) × (o ≡ Some a) × (outside st ≡ end)
behind_is st None end is = absurd (none_some end is)
behind_is st (Some a) end is = (a, refl, some_is (outside st) end is)

pub both_behind : (st : Standing) (o p : Option Standing) (end : Standing) → behind_both st o p ≡ Some end → (a : Standing) × (b : Standing) × (o ≡ Some a) × (p ≡ Some b) × (outside st ≡ end)
both_behind st (Some a) (Some b) end is = (a, b, refl, refl, some_is (outside st) end is)
both_behind st (Some a) None end is = absurd (none_some end is)
both_behind st None p end is = absurd (none_some end is)

pub ends_is : (need : Standing) (o : Option Standing) → ends_as need o ≡ true → (a : Standing) × (o ≡ Some a) × (covers a need ≡ true)
ends_is need None is = absurd (false≢true is)
ends_is need (Some a) is = (a, refl, is)

-- what a typed loop is made of
pub record Passed (around : Surroundings) (need : Standing) (test : Option Expression) (body update : Option Standing) : Type 0 where
  pub condition : is_condition around need test ≡ true
  pub body_end : Standing
  pub body_is : body ≡ Some body_end
  pub body_covers : covers body_end need ≡ true
  pub update_end : Standing
  pub update_is : update ≡ Some update_end
  pub update_covers : covers update_end need ≡ true

pub passed : (around : Surroundings) (before : Standing) (test : Option Expression) (update : List Checking) (body : Checking) (st end : Standing) → passing around before test update body st ≡ Some end
    → Passed around st test (body (Some st) st) (in_order update None st)
passed around before test update body st end is =
    let k = if_so_is (is_condition around st test && (ends_as st (body (Some st) st) && ends_as st (in_order update None st))) (after_compound before st) end is in
    let l = both_true (is_condition around st test) (ends_as st (body (Some st) st) && ends_as st (in_order update None st)) k.0 in
    let n = both_true (ends_as st (body (Some st) st)) (ends_as st (in_order update None st)) l.1 in
    let b = ends_is st (body (Some st) st) n.0 in
    let u = ends_is st (in_order update None st) n.1 in
    record { condition = l.0; body_end = b.0; body_is = b.1; body_covers = b.2; update_end = u.0; update_is = u.1; update_covers = u.2 }

-- typed from some standing on
abbrev pub IsSo : Checking → Type 0
IsSo check = (exits : Around) × (st : Standing) × (end : Standing) × (check exits st ≡ Some end)

abbrev pub IsGood : Surroundings → Statement → Type 0
IsGood around x = IsSo (unmarked around x)

abbrev pub AreGood : Surroundings → List Statement → Type 0
AreGood around [] = Unit {0}
AreGood around (x ∷ xs) = IsGood around x × AreGood around xs

pub list_good : (around : Surroundings) (xs : List Statement) (exits : Around) (st end : Standing) → unmarked_list around xs exits st ≡ Some end → AreGood around xs
list_good around [] exits st end is = tt
list_good around (x ∷ xs) exits st end is =
    let k = next_is (unmarked_list around xs exits) (unmarked around x exits st) end is in
    ((exits, st, k.0, k.1), list_good around xs exits k.0 end k.2)

pub branches_good : (around : Surroundings) (test : Expression) (first : Checking) (second : Option Checking) (exits : Around) (st end : Standing) → unmarked_branching around test first second exits st ≡ Some end
    → (takes around st test type.Boolean ≡ true) × (a : Standing) × (b : Standing) × (first exits st ≡ Some a) × (otherwise second exits st ≡ Some b) × (outside st ≡ end)
branches_good around test first second exits st end is =
    let k = if_then (takes around st test type.Boolean) (behind_both st (first exits st) (otherwise second exits st)) end is in
    let l = both_behind st (first exits st) (otherwise second exits st) end k.1 in
    (k.0, l.0, l.1, l.2, l.3, l.4)

-- a typed loop
pub record Looped (around : Surroundings) (start : List Checking) (test : Option Expression) (update : List Checking) (body : Checking) (st : Standing) : Type 0 where
  pub need : Standing
  pub started : in_order start None st ≡ Some need
  pub passed : Passed around need test (body (Some need) need) (in_order update None need)

pub looped : (around : Surroundings) (start : List Checking) (test : Option Expression) (update : List Checking) (body : Checking) (exits : Around) (st end : Standing) → looping around start test update body exits st ≡ Some end
    → Looped around start test update body st
looped around start test update body exits st end is =
    let k = next_is (passing around st test update body) (in_order start None st) end is in
    record { need = k.0; started = k.1; passed = passed around st test update body k.0 end k.2 }
