-- What is resolved of statements is typed before marks stand in it: in each standing that knows the variables in scope.
use Rattle.std.specs.Prelude.{◌≡◌, ℕ, ◌<◌, ◌≤◌, true, List, [], ◌∷◌, length, map, Option, Some, None}
use Rattle.java_types.specs.declared.statements.Around.{Around as TypesAround}
use Rattle.access_blocks.specs.declared.body.Statement.{Statement}
use Rattle.body_code.specs.Checking.{Standing, Around, Checking}
use Rattle.body_code.specs.Early.{Assigned, assigned_in, all_of, early_after, is_in}
use Rattle.marked_bodies.specs.Unmarked.{unmarked, unmarked_list}
use Rattle.typed_statements.specs.Points.{Setting, Point, place_at, Knows, Waits}

-- Where a `break` or a `continue` goes needs no more than is known.
pub record Leads (exits : Around) (st : Standing) : Type 0 where
  pub need : Standing
  pub is : exits ≡ Some need
  pub no_field : need.field ≡ None
  pub no_gathered : need.gathered ≡ None
  pub known : (v : ℕ) → is_in v need.known ≡ true → is_in v st.known ≡ true

-- What holds before statements: so do the locals that they read before they assign them, where some are assigned already.
pub record Ready (k : Setting) (a : TypesAround) (at : Point) (st : Standing) (exits : Around) (seen : List ℕ) (assigns : List Assigned) : Type 0 where
  pub knows : Knows (place_at k at) st
  pub waits : Waits (place_at k at) at.marks.awaited st
  pub leads : a.in_loop ≡ true → Leads exits st
  pub are_seen : (v : ℕ) → is_in v seen ≡ true → v < length at.cursor.variables
  pub early : (v : ℕ) → is_in v (early_after seen assigns) ≡ true → is_in v st.known ≡ true

-- The walk goes on, and knows what is in scope behind.
pub record Checked (k : Setting) (to : Point) (st : Standing) (result : Option Standing) : Type 0 where
  pub after : Standing
  pub is : result ≡ Some after
  pub keeps : (v : ℕ) → is_in v st.known ≡ true → is_in v after.known ≡ true
  pub knows : Knows (place_at k to) after
  pub waits : Waits (place_at k to) to.marks.awaited after

-- Only variables below a number are assigned.
abbrev pub AssignBelow : ℕ → List Assigned → Type 0
AssignBelow bound [] = Unit {0}
AssignBelow bound (x ∷ xs) = (x.variable < bound) × AssignBelow bound xs

-- between two points: what assigns only variables so far, and is typed
pub record Checks (k : Setting) (a : TypesAround) (at to : Point) (check : Checking) (assigns : List Assigned) : Type 0 where
  pub longer : length at.cursor.variables ≤ length to.cursor.variables
  pub below : AssignBelow (length to.cursor.variables) assigns
  pub checked : (st : Standing) (exits : Around) (seen : List ℕ) → Ready k a at st exits seen assigns → Checked k to st (check exits st)

abbrev pub Typed : Setting → TypesAround → Point → Point → Statement → Type 0
Typed k a at to s = Checks k a at to (unmarked k.around s) (assigned_in s)

abbrev pub all_assigned : List Statement → List Assigned
all_assigned ss = all_of (map assigned_in ss)

abbrev pub AllTyped : Setting → TypesAround → Point → Point → List Statement → Type 0
AllTyped k a at to ss = Checks k a at to (unmarked_list k.around ss) (all_assigned ss)
