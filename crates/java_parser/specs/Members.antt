-- Reading what stands around the bodies of methods: package, imports, modifiers, fields, types and parameters.
use Rattle.std.specs.Prelude.{ℕ, Bool, true, false, not, ◌&&◌, if◌then◌else◌, List, [], ◌∷◌, Option, Some, None, is_some, Result, Ok, codes}
use Rattle.java_tree.specs.declared.token.Kind.{Kind}
use Rattle.java_tree.specs.declared.token.Kind.TheVariants as k
use Rattle.java_tree.specs.declared.token.Reserved.{Reserved}
use Rattle.java_tree.specs.declared.token.Reserved.TheVariants as word
use Rattle.java_tree.specs.declared.token.Symbol.TheVariants as symbol
use Rattle.java_tree.specs.declared.tree.QualifiedName.{QualifiedName}
use Rattle.java_tree.specs.declared.tree.Import.{Import}
use Rattle.java_tree.specs.declared.tree.Modifier.{Modifier}
use Rattle.java_tree.specs.declared.tree.Modifier.TheVariants as modifier
use Rattle.java_tree.specs.declared.tree.FieldModifier.{FieldModifier}
use Rattle.java_tree.specs.declared.tree.FieldModifier.TheVariants as field_modifier
use Rattle.java_tree.specs.declared.tree.Field.{Field}
use Rattle.java_tree.specs.declared.tree.TypeName.{TypeName}
use Rattle.java_tree.specs.declared.tree.TypeName.TheVariants as type_name
use Rattle.java_tree.specs.declared.tree.ResultType.{ResultType}
use Rattle.java_tree.specs.declared.tree.ResultType.TheVariants as result_type
use Rattle.java_tree.specs.declared.tree.Param.{Param}
use Rattle.java_tree.specs.Tokens.{Kinds}
use Rattle.java_parser.specs.Words.{◌>>=◌, Fault, Reading, refused, begins, after, name_at, all_at}

abbrev pub dot : Kind
dot = k.Symbol symbol.Dot

abbrev pub star : Kind
star = k.Symbol symbol.Star

abbrev pub at_sign : Kind
at_sign = k.Symbol symbol.At

abbrev pub assign : Kind
assign = k.Symbol symbol.Assign

abbrev pub comma : Kind
comma = k.Symbol symbol.Comma

abbrev pub semicolon : Kind
semicolon = k.Symbol symbol.Semicolon

abbrev pub open_paren : Kind
open_paren = k.Symbol symbol.OpenParen

abbrev pub close_paren : Kind
close_paren = k.Symbol symbol.CloseParen

abbrev pub open_bracket : Kind
open_bracket = k.Symbol symbol.OpenBracket

abbrev pub close_bracket : Kind
close_bracket = k.Symbol symbol.CloseBracket

-- the test of what stands behind the first token
unfoldable pub behind : (Kinds → Bool) → Kinds → Bool
behind test [] = false
behind test (x ∷ rest) = test rest

-- words that may be left out, of which the first tells whether they are there
unfoldable pub optional_at : Kind → Kinds → Kinds → Reading Bool
optional_at w words rest = if begins w rest then (do
  rest ← after (w ∷ []) rest
  rest ← after words rest
  Ok (true, rest)) else Ok (false, rest)

-- ---- names with dots between them

unfoldable pub dotted_at : Kinds → Reading (List ℕ)
dotted_at rest = do
  rest ← after (dot ∷ []) rest
  name_at rest

-- A dot goes on, unless it is that of a last '.*', which an import may have.
unfoldable pub has_dotted : Bool → Kinds → Bool
has_dotted is_import rest = begins dot rest && not (is_import && behind (begins star) rest)

unfoldable pub names_at : Bool → Kinds → Reading (List (List ℕ))
names_at is_import = all_at (has_dotted is_import) dotted_at

unfoldable pub qualified_at : Bool → Kinds → Reading QualifiedName
qualified_at is_import rest = do
  first ← name_at rest
  others ← names_at is_import first.1
  Ok (record { first = first.0; others = others.0 }, others.1)

unfoldable pub package_at : Kinds → Reading (Option QualifiedName)
package_at rest = if begins (k.Reserved word.Package) rest then (do
  rest ← after (k.Reserved word.Package ∷ []) rest
  name ← qualified_at false rest
  rest ← after (semicolon ∷ []) name.1
  Ok (Some name.0, rest)) else Ok (None, rest)

unfoldable pub import_at : Kinds → Reading Import
import_at rest = do
  rest ← after (k.Reserved word.Import ∷ []) rest
  static ← optional_at (k.Reserved word.Static) [] rest
  name ← qualified_at true static.1
  on_demand ← optional_at dot (star ∷ []) name.1
  rest ← after (semicolon ∷ []) on_demand.1
  Ok (record { is_static = static.0; name = name.0; is_on_demand = on_demand.0 }, rest)

unfoldable pub imports_at : Kinds → Reading (List Import)
imports_at = all_at (begins (k.Reserved word.Import)) import_at

-- ---- modifiers

abbrev pub modifier_of : Reserved → Option Modifier
modifier_of word.Public = Some modifier.Public
modifier_of word.Private = Some modifier.Private
modifier_of word.Static = Some modifier.Static
modifier_of _ = None

-- the modifier that the tokens begin with
unfoldable pub modifier_ahead : Kinds → Option Modifier
modifier_ahead (k.Reserved w ∷ rest) = modifier_of w
modifier_ahead _ = None

abbrev pub has_modifier : Kinds → Bool
has_modifier rest = is_some (modifier_ahead rest)

-- a thing that the first token alone is
unfoldable pub first_is : {A : Type 0} → Option A → Kinds → Reading A
first_is (Some x) (y ∷ rest) = Ok (x, rest)
first_is _ rest = refused rest

unfoldable pub modifier_at : Kinds → Reading Modifier
modifier_at rest = first_is (modifier_ahead rest) rest

unfoldable pub modifiers_at : Kinds → Reading (List Modifier)
modifiers_at = all_at has_modifier modifier_at

-- ---- fields

-- what follows '@' and this name, and whether the name stands behind the first token
unfoldable pub annotated : List ℕ → Kinds → Result Kinds Fault
annotated name = after (at_sign ∷ k.Identifier name ∷ [])

unfoldable pub is_named : List ℕ → Kinds → Bool
is_named name = behind (begins (k.Identifier name))

-- an annotation of a field
unfoldable pub annotation_at : Kinds → Reading FieldModifier
annotation_at rest = if is_named (codes "Partitioned") rest then (do
  rest ← annotated (codes "Partitioned") rest
  Ok (field_modifier.Partitioned, rest)) else (do
    rest ← annotated (codes "Partial") rest
    Ok (field_modifier.Partial, rest))

unfoldable pub access_of : Modifier → Option FieldModifier
access_of modifier.Public = Some field_modifier.Public
access_of modifier.Private = Some field_modifier.Private
access_of modifier.Static = None

unfoldable pub access_ahead : Kinds → Option FieldModifier
access_ahead rest = elim (modifier_ahead rest) [ Some m ↦ access_of m | None ↦ None ]

unfoldable pub has_field_modifier : Kinds → Bool
has_field_modifier rest = if begins at_sign rest then true else is_some (access_ahead rest)

unfoldable pub field_modifier_at : Kinds → Reading FieldModifier
field_modifier_at rest = if begins at_sign rest then annotation_at rest else first_is (access_ahead rest) rest

unfoldable pub field_modifiers_at : Kinds → Reading (List FieldModifier)
field_modifiers_at = all_at has_field_modifier field_modifier_at

unfoldable pub field_at : Kinds → Reading Field
field_at rest = do
  modifiers ← field_modifiers_at rest
  type_name ← name_at modifiers.1
  name ← name_at type_name.1
  rest ← after (assign ∷ k.Reserved word.New ∷ []) name.1
  maker ← name_at rest
  rest ← after (open_paren ∷ close_paren ∷ semicolon ∷ []) maker.1
  Ok (record { modifiers = modifiers.0; type_name = type_name.0; name = name.0; maker = maker.0 }, rest)

-- ---- types and parameters

abbrev pub type_of : Reserved → Option TypeName
type_of word.Int = Some type_name.Int
type_of word.Long = Some type_name.Long
type_of word.Boolean = Some type_name.Boolean
type_of _ = None

unfoldable pub type_ahead : Kinds → Option TypeName
type_ahead (k.Reserved w ∷ rest) = type_of w
type_ahead (k.Identifier name ∷ rest) = Some (type_name.Named name)
type_ahead _ = None

unfoldable pub type_at : Kinds → Reading TypeName
type_at rest = first_is (type_ahead rest) rest

unfoldable pub result_at : Kinds → Reading ResultType
result_at rest = if begins (k.Reserved word.Void) rest then (do
  rest ← after (k.Reserved word.Void ∷ []) rest
  Ok (result_type.Void, rest)) else (do
    type_name ← type_at rest
    Ok (result_type.Type type_name.0, type_name.1))

unfoldable pub param_at : Kinds → Reading Param
param_at rest = do
  collection ← optional_at at_sign (k.Identifier (codes "Collection") ∷ []) rest
  type_name ← type_at collection.1
  array ← optional_at open_bracket (close_bracket ∷ []) type_name.1
  name ← name_at array.1
  Ok (record { is_collection = collection.0; type_name = type_name.0; is_array = array.0; name = name.0 }, name.1)

unfoldable pub other_param_at : Kinds → Reading Param
other_param_at rest = do
  rest ← after (comma ∷ []) rest
  param_at rest

unfoldable pub other_params_at : Kinds → Reading (List Param)
other_params_at = all_at (begins comma) other_param_at

unfoldable pub params_at : Kinds → Reading (List Param)
params_at rest = if begins close_paren rest then Ok ([], rest) else (do
  first ← param_at rest
  others ← other_params_at first.1
  Ok (first.0 ∷ others.0, others.1))
