-- What a reader of trees finds.
use Rattle.std.specs.Prelude.{◌≡◌, ◌≢◌, None, [], ◌∷◌, ◌++◌, ◌≤◌, List, length, drop, map, ℕ, Option, MatchOption}
use Rattle.java_tree.specs.declared.token.Place.{Place}
use Rattle.java_tree.specs.declared.tree.Class.{Class}
use Rattle.java_tree.specs.declared.tree.Member.{Member}
use Rattle.java_tree.specs.declared.tree.BlockItem.{BlockItem}
use Rattle.early_forms.specs.declared.straight.Statement.{Statement}
use Rattle.early_forms.specs.declared.straight.Ending.{Ending}
use Rattle.early_forms.specs.declared.straight.StraightClass.{StraightClass}
use Rattle.early_forms.specs.Trees.{statement_tree, body_tree, table_member, class_tree}

-- the parts of which the tree is made, or None where it is made of none
abbrev pub PartsOf : {P T : Type 0} → (P → T) → T → Option P → Type 0
PartsOf {P} tree_of tree found = MatchOption found ((parts : P) → tree ≢ tree_of parts) (λ parts. tree ≡ tree_of parts)

abbrev pub paired_body : (List Statement × Ending) → List BlockItem
paired_body (statements, end) = body_tree statements end

-- statements alone, with the ending that is given
abbrev pub StatementsBefore : Ending → List BlockItem → Option (List Statement × Ending) → Type 0
StatementsBefore end trees found =
    MatchOption found ((ss : List Statement) → trees ≢ map statement_tree ss) (λ p. (trees ≡ map statement_tree p.0) × (p.1 ≡ end))

-- the tables at the head of a list of members, as many as stand there
pub record TablesAtHead (members : List Member) (fields : List (List ℕ)) : Type 0 where
  pub within : length fields ≤ length members
  pub parted : members ≡ map table_member fields ++ drop (length fields) members
  pub ended : (name : List ℕ) (others : List Member) → drop (length fields) members ≢ table_member name ∷ others

-- a class of which the name, the members and the places of its tokens alone are written
abbrev pub class_of : List ℕ → List Member → List Place → Class
class_of name members places = record { «package» = None; imports = []; modifiers = []; name = name; members = members; places = places }

abbrev pub MembersOf : List ℕ → List Member → List Place → Option StraightClass → Type 0
MembersOf name members places = PartsOf class_tree (class_of name members places)
