-- Where accesses stand in lists of statements, and in single statements.
use Rattle.std.proofs.Common.{◌≡◌, Bool, true, false, not, ◌&&◌, ◌||◌, List, [], ◌∷◌, ◌++◌, map, Option, Some, None, refl, sym, ap, ap₂, ◌∙◌}
use Rattle.access_blocks.specs.declared.body.Statement.{Statement, roll-Statement}
use Rattle.access_blocks.specs.declared.body.Statement.TheOpen.{Statement-F}
use Rattle.access_blocks.specs.declared.body.Statement.TheOpen as s
use Rattle.access_blocks.specs.declared.body.Statement.TheFolds.{fold-roll-Statement, map-Statement}
use Rattle.marked_bodies.specs.Unmarked.{Headed, headed_step, headed_in, one_by_one}

-- No access stands in the header of a loop of a statement, and none in it at all.
abbrev pub IsRight : Statement → Type 0
IsRight x = (headed_in x).is_right ≡ true

abbrev pub HasNone : Statement → Type 0
HasNone x = (headed_in x).accesses ≡ false

abbrev pub AreRight : List Statement → Type 0
AreRight xs = (one_by_one (map headed_in xs)).is_right ≡ true

abbrev pub HaveNone : List Statement → Type 0
HaveNone xs = (one_by_one (map headed_in xs)).accesses ≡ false

pub headed_of : (x : Statement-F Statement) → headed_in (roll-Statement x) ≡ headed_step (map-Statement Statement Headed headed_in x)
headed_of x = fold-roll-Statement Headed headed_step x

-- of a statement that is made of a layer
pub right_as : (x : Statement-F Statement) {made : Statement} → roll-Statement x ≡ made → (headed_step (map-Statement Statement Headed headed_in x)).is_right ≡ true → IsRight made
right_as x is e = ap (λ (z : Statement). (headed_in z).is_right) (sym is) ∙ (ap (λ (h : Headed). h.is_right) (headed_of x) ∙ e)

pub none_as : (x : Statement-F Statement) {made : Statement} → roll-Statement x ≡ made → (headed_step (map-Statement Statement Headed headed_in x)).accesses ≡ false → HasNone made
none_as x is e = ap (λ (z : Statement). (headed_in z).accesses) (sym is) ∙ (ap (λ (h : Headed). h.accesses) (headed_of x) ∙ e)

pub both_true : {a b : Bool} → a ≡ true → b ≡ true → (a && b) ≡ true
both_true p q = ap₂ (λ x y. x && y) p q

pub both_false : {a b : Bool} → a ≡ false → b ≡ false → (a || b) ≡ false
both_false p q = ap₂ (λ x y. x || y) p q

both_hold : (a b : Bool) → (a && b) ≡ true → a ≡ true × b ≡ true
both_hold true true e = (refl, refl)
both_hold true false e = absurd (cc)
both_hold false b e = absurd (cc)

neither_holds : (a b : Bool) → (a || b) ≡ false → a ≡ false × b ≡ false
neither_holds true b e = absurd (cc)
neither_holds false true e = absurd (cc)
neither_holds false false e = (refl, refl)

pub right_with : (xs : List Statement) (x : Statement) → AreRight xs → IsRight x → AreRight (xs ++ x ∷ [])
right_with [] x all one = both_true one refl
right_with (y ∷ xs) x all one = let h = both_hold (headed_in y).is_right (one_by_one (map headed_in xs)).is_right all in both_true h.0 (right_with xs x h.1 one)

pub none_with : (xs : List Statement) (x : Statement) → HaveNone xs → HasNone x → HaveNone (xs ++ x ∷ [])
none_with [] x all one = both_false one refl
none_with (y ∷ xs) x all one = let h = neither_holds (headed_in y).accesses (one_by_one (map headed_in xs)).accesses all in both_false h.0 (none_with xs x h.1 one)
