-- Marks keep a body as it is: typed, with its accesses in blocks, and for the rest what it was.
use Rattle.std.specs.Prelude.{◌≡◌, ℕ, true, List, map, Some, None}
use Rattle.access_blocks.specs.declared.body.Statement.{Statement}
use Rattle.access_blocks.specs.Marks.{with_marks}
use Rattle.body_code.specs.Completing.{body_completes}
use Rattle.body_code.specs.Early.{assigned_in, all_of, early_after, is_in}
use Rattle.body_code.specs.Checking.{Surroundings, Standing, checked_list, accessing_in, one_by_one, called_in, in_all}
use Rattle.marked_bodies.specs.Unmarked.{AreUnmarkedTyped}

-- a list of statements that is typed without marks, with its marks
pub record StaysTyped (around : Surroundings) (ss : List Statement) (st : Standing) : Type 0 where
  pub after : Standing
  pub checked : checked_list around (with_marks ss) None st ≡ Some after
  pub blocks : (one_by_one (map accessing_in (with_marks ss))).is_right ≡ true
  pub completes : body_completes (with_marks ss) ≡ body_completes ss
  pub early : (seen : List ℕ) → early_after seen (all_of (map assigned_in (with_marks ss))) ≡ early_after seen (all_of (map assigned_in ss))
  pub calls : (m : ℕ) → is_in m (in_all (map called_in (with_marks ss))) ≡ true → is_in m (in_all (map called_in ss)) ≡ true

abbrev pub MarkedBodiesStayTyped : Type 0
MarkedBodiesStayTyped =
    (around : Surroundings) (ss : List Statement) (st : Standing) → st.field ≡ None → st.gathered ≡ None → AreUnmarkedTyped around ss st → StaysTyped around ss st
