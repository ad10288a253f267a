-- The name of a variable that is assigned is read: both walks pass it, and the cursor stands behind it.
use Rattle.std.proofs.Common.{◌≡◌, ℕ, Bool, true, false, ◌&&◌, List, [], ◌∷◌, ◌++◌, Some, refl, ap, ◌∙◌}
use Rattle.java_tree.specs.declared.types.ExprType.{ExprType}
use Rattle.java_tree.specs.declared.types.ExprType.TheVariants.{Value}
use Rattle.java_tree.specs.declared.types.Declaration.{Declaration}
use Rattle.java_types.specs.declared.walk.Variable.{Variable}
use Rattle.java_types.specs.declared.walk.Walk.{Walk}
use Rattle.java_types.specs.Simples.{is_of_method, is_collection}
use Rattle.annotations.specs.declared.walk.Walk.{Walk as MarkingWalk}
use Rattle.annotations.specs.Walks.{past, named}
use Rattle.access_blocks.specs.Cursors.{Cursor, name_here, behind_name, variable_of, type_of, value_or_none}
use Rattle.typed_bodies.specs.Marking.{Begins, Passed, Passes}
use Rattle.typed_bodies.specs.Reading.{Place, Stands, cursor_at, known_as, is_plain}
use Rattle.typed_bodies.proofs.Marking.{agrees_too, passes_past, past_passes, passes_name}
use Rattle.typed_bodies.proofs.Names.{variable_by}
use Rattle.typed_bodies.proofs.Steps.{name_stands, name_passed}
use Rattle.typed_statements.specs.Points.{Setting, point, place_at, IsPoint}
use Rattle.typed_statements.proofs.Fitting.{agrees_at, begins_at}
use Rattle.typed_statements.proofs.Naming.{IsAssignable, assignable_variable, no_field, no_method}

and_true : (b : Bool) → (b && true) ≡ true → b ≡ true
and_true true e = refl
and_true false e = absurd (cc)

-- the walk of the rules on annotations passes the name, with the token behind it or before it
pub passes_behind : (p : Place) (d : Declaration) → is_of_method d ≡ true → Passes p (λ u. past p.marks 1 (named p.marks u)) false (d ∷ [])
passes_behind p d of_method = passes_past p 1 (passes_name p false d (no_method d of_method) (λ no. no_field d of_method))

pub passes_before : (p : Place) (d : Declaration) → is_of_method d ≡ true → Passes p (λ u. named p.marks (past p.marks 1 u)) false (d ∷ [])
passes_before p d of_method = past_passes p 1 (passes_name p false d (no_method d of_method) (λ no. no_field d of_method))

module _ (k : Setting) (w : Walk) (u : MarkingWalk) (c : Cursor) where
  abbrev p : Place
  p = place_at k (point w u c)

  -- behind the name of a variable that is assigned
  pub record NameRead (it : Variable) (m : MarkingWalk) (types : List ExprType) (names : List Declaration) : Type 0 where
    pub passed : Passed p u m names
    pub stands : Stands p (behind_name c) types names
    pub variable : IsAssignable k (point w u c) it (variable_of (cursor_at p) (Some it.declaration))
    pub number : variable_of c (name_here c) ≡ variable_of (cursor_at p) (Some it.declaration)
    pub type : type_of (behind_name c) (variable_of (cursor_at p) (Some it.declaration)) ≡ Value variable.type

  pub name_read : IsPoint k (point w u c) → (walk : MarkingWalk → MarkingWalk) (name : List ℕ) (it : Variable) (types : List ExprType) (names : List Declaration) → known_as p name ≡ Some it
      → is_of_method it.declaration ≡ true → is_collection it.found ≡ false → Passes p walk false (it.declaration ∷ []) → (walk u).findings ≡ [] → Stands p c types (it.declaration ∷ names)
      → NameRead it (walk u) types names
  name_read is walk name it types names known of_method no_collection passes quiet stands =
      let begins = begins_at k w u c walk (it.declaration ∷ []) names is stands.are_names quiet in
      let plain = and_true (is_plain p it.declaration) (passes.plain u names begins refl) in
      let v = assignable_variable k (point w u c) is.agree name it known plain no_collection in
      record {
        passed = passes.passed u names begins;
        stands = name_passed p stands;
        variable = v;
        number = ap (variable_of c) (name_stands p stands) ∙ variable_by (Some it.declaration) c (cursor_at p) refl refl;
        type = ap value_or_none v.is.so_far;
      }

  -- what begins behind it
  pub begins_behind : {it : Variable} {m : MarkingWalk} {types : List ExprType} {all : List Declaration} (walk : MarkingWalk → MarkingWalk) (names rest : List Declaration) → NameRead it m types all → all ≡ names ++ rest
      → (walk m).findings ≡ [] → Begins p walk names m rest
  begins_behind walk names rest n same quiet = record { agrees = agrees_too p n.passed.stays (agrees_at k (point w u c)); before = n.passed.behind ∙ same; quiet = quiet }
