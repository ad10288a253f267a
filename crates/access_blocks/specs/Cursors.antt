-- What is read of a class from its first member to its last: what is left of the declarations of its names, of the types of
-- its expressions and of the sites of its accesses, and which variables the method has so far.
use Rattle.std.specs.Prelude.{ℕ, Bool, List, [], ◌∷◌, ◌++◌, length, drop, slice_get, unwrap_or, Option, Some, None, if◌then◌else◌}
use Rattle.java_tree.specs.declared.types.ValueType.{ValueType}
use Rattle.java_tree.specs.declared.types.ExprType.{ExprType}
use Rattle.java_tree.specs.declared.types.ExprType.TheVariants.{Unknown, Value}
use Rattle.java_tree.specs.declared.types.Declaration.{Declaration}
use Rattle.java_tree.specs.declared.types.Declaration.TheVariants as declaration
use Rattle.annotations.specs.declared.site.Site.{Site}

pub record Cursor : Type 0 where
  pub names : List Declaration
  pub types : List ExprType
  pub sites : List Site
  -- the types of the variables of the method, by number
  pub variables : List ValueType
  -- the variable of each of its locals
  pub locals : List ℕ

-- something, and where the reading goes on
pub record Read (A : Type 0) : Type 0 where
  pub it : A
  pub cursor : Cursor

abbrev pub read : {A : Type 0} → A → Cursor → Read A
read a c = record { it = a; cursor = c }

-- before the first member
abbrev pub begin : List Declaration → List ExprType → List Site → Cursor
begin names types sites = record { names = names; types = types; sites = sites; variables = []; locals = [] }

-- A method has its parameters as variables, and no locals yet.
abbrev pub entered : List ValueType → Cursor → Cursor
entered parameters c = record c { variables = parameters; locals = [] }

-- the type of the expression that comes next
abbrev pub type_here : Cursor → ExprType
type_here c = unwrap_or (slice_get c.types 0) Unknown

abbrev pub behind_type : Cursor → Cursor
behind_type c = record c { types = drop 1 c.types }

-- what the name that comes next stands for
abbrev pub name_here : Cursor → Option Declaration
name_here c = slice_get c.names 0

abbrev pub behind_name : Cursor → Cursor
behind_name c = record c { names = drop 1 c.names }

abbrev pub site_here : Cursor → Option Site
site_here c = slice_get c.sites 0

abbrev pub behind_site : Cursor → Cursor
behind_site c = record c { sites = drop 1 c.sites }

-- ---- variables

-- a number that no variable has
abbrev pub no_variable : Cursor → ℕ
no_variable c = length c.variables

-- the number of a variable: of a parameter its own
abbrev pub variable_of : Cursor → Option Declaration → ℕ
variable_of c (Some (declaration.Parameter n)) = n
variable_of c (Some (declaration.Local n)) = unwrap_or (slice_get c.locals n) (no_variable c)
variable_of c _ = no_variable c

abbrev pub value_or_none : Option ValueType → ExprType
value_or_none None = Unknown
value_or_none (Some t) = Value t

abbrev pub type_of : Cursor → ℕ → ExprType
type_of c v = value_or_none (slice_get c.variables v)

-- A local is declared. One that is `@Partial` has no variable.
abbrev pub declared : Bool → ValueType → Cursor → Cursor
declared is_partial t c = record c {
  variables = if is_partial then c.variables else c.variables ++ t ∷ [];
  locals = c.locals ++ length c.variables ∷ [];
}
