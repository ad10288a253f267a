-- What a run of the source and a run of the machine have in common, from one place to the next mark or the end.
use Rattle.std.proofs.Common.{◌≡◌, refl, ℕ, ℤ, pos, ◌≤◌, Bool, true, false, if◌then◌else◌, List, [], ◌∷◌, Option, Some, None, unwrap_or, sym, ap, subst, ◌∙◌, arith}
use Rattle.std.specs.Str.{bytes_eq}
use Rattle.std.proofs.lemmas.Bool.{eqb-true}
use Rattle.std.proofs.lemmas.Slice.Eq.{bytes_eq-Decides}
use Rattle.sdg_base.specs.declared.val.Val.{Val}
use Rattle.sdg_base.specs.declared.val.Val.TheVariants as val
use Rattle.early_forms.specs.declared.straight.Atom.{Atom}
use Rattle.early_forms.specs.declared.straight.Atom.TheVariants.{Literal, Variable}
use Rattle.early_forms.specs.declared.straight.Sum.{Sum}
use Rattle.early_forms.specs.declared.straight.Statement.{Statement}
use Rattle.early_forms.specs.declared.straight.Ending.{Ending}
use Rattle.early_forms.specs.Names.{SumIsKnown}
use Rattle.early_forms.specs.Trees.{body_tree}
use Rattle.early_tables.specs.Entries.{Entries}
use Rattle.early_tables.specs.Contents.{entry_at}
use Rattle.early_tables.specs.States.{State, OfTable}
use Rattle.early_source.specs.Variables.{Variables, Tables, named}
use Rattle.early_source.specs.Sites.{Key, LiteralKey, VariableKey, Compound, Site, same_key, same_site, is_key, after_declaration}
use Rattle.early_source.specs.Blocks.{Place, Stop, run_from, run_block}
use Rattle.early_source.specs.Source.{state_of}
use Rattle.agreement.specs.Simulation.{entry_in, field_names, left, Gives}
use Rattle.early_task_code.specs.declared.graph.GraphMethod.{GraphMethod}
use Rattle.early_task_code.specs.Machine.{Setting, Runs, run}
use Rattle.early_plain.specs.Keys.{written_key, written_site}
use Rattle.early_cutter.specs.Points.{Point, number_in}
use Rattle.early_cutter.specs.Lowering.{body_code}
use Rattle.early_cutter.specs.Values.{AreLongs, long_value, whole_of}
use Rattle.early_cutter.specs.Agrees.{Agrees, StandsAt, first_access, unmarked_code}
use Rattle.early_cutter.proofs.Moves.{Moves, Moves-both}

-- Both come to the same place, and change the field's table and the slot's entries at the key alone.
pub record Steps (fields : List (List ℕ)) (s : Setting) (field : ℕ) (key : ℤ) (source : Stop) (machine : Runs) (turns : ℕ) (tables : Tables) (state : State) : Type 0 where
  pub place : Place
  pub after : Tables
  pub state_after : State
  pub source_is : source ≡ Some (place, after)
  pub gives : Gives (Agrees fields s.graph s.slots) s.call machine state_after (state_of place)
  pub moves : Moves field key tables state after state_after
  pub fewer : left (state_of place) ≤ turns

-- runs that go on as others do
pub steps_from : (fields : List (List ℕ)) (s : Setting) (field : ℕ) (key : ℤ) (source source' : Stop) (machine machine' : Runs) (turns : ℕ) (tables tables' : Tables) (state state' : State)
    → source ≡ source' → machine ≡ machine' → Moves field key tables state tables' state' → Steps fields s field key source' machine' turns tables' state'
    → Steps fields s field key source machine turns tables state
steps_from fields s field key source source' machine machine' turns tables tables' state state' sources machines moves steps = record {
  place = steps.place;
  after = steps.after;
  state_after = steps.state_after;
  source_is = sources ∙ steps.source_is;
  gives = record {
    to = steps.gives.to;
    output = steps.gives.output;
    gives = machines ∙ steps.gives.gives;
    of_call = steps.gives.of_call;
    agrees = steps.gives.agrees;
  };
  moves = Moves-both field key tables tables' steps.after state state' steps.state_after moves steps.moves;
  fewer = steps.fewer;
}

-- ---- the current site

-- The machine is in the slot of the key, and its entries agree with the field's table there.
pub record IsHere (fields : List (List ℕ)) (s : Setting) (name : List ℕ) (field : ℕ) (key : ℤ) (tables : Tables) (state : State) : Type 0 where
  pub own : s.field ≡ Some field
  pub carries : s.key ≡ Some key
  pub is_field : field ≡ number_in fields name
  pub names : field_names tables ≡ fields
  pub entries : Entries
  pub is_state : state ≡ OfTable entries
  pub agree : entry_at key entries ≡ entry_in tables field key

-- the value of a key that is a literal or a variable
abbrev pub KeyIs : Key → Variables → ℤ → Type 0
KeyIs (LiteralKey n) variables key = key ≡ pos n
KeyIs (VariableKey name) variables key = named name variables ≡ Some (val.Long key)
KeyIs Compound variables key = Unit {0}

abbrev pub SiteHolds : List (List ℕ) → Setting → Option Site → Variables → ℕ → ℤ → Tables → State → Type 0
SiteHolds fields s None variables field key tables state = Unit {0}
SiteHolds fields s (Some site) variables field key tables state = IsHere fields s site.field field key tables state × KeyIs site.key variables key

-- the key of a sum, whose value is this
key_is_from : (scope : List (List ℕ)) (variables : Variables) (first : Atom) (others : List Atom) (key : ℤ) → AreLongs scope variables
    → (let v : Sum = record { first = first; others = others } in SumIsKnown scope v → long_value variables v ≡ key → KeyIs (written_key v) variables key)
key_is_from scope variables (Literal n) [] key longs known is = sym is
key_is_from scope variables (Variable name) [] key longs known is =
    let found = longs name (known 0 (Variable name) (omega arith)) in
    let value : found.0 ≡ key = ap (λ o. whole_of (unwrap_or o val.Unit)) (sym found.1) ∙ is in
    found.1 ∙ ap (λ n. Some (val.Long n)) value
key_is_from scope variables (Literal n) (atom ∷ atoms) key longs known is = tt
key_is_from scope variables (Variable name) (atom ∷ atoms) key longs known is = tt

pub key_is : (scope : List (List ℕ)) (variables : Variables) (v : Sum) (key : ℤ) → AreLongs scope variables → SumIsKnown scope v → long_value variables v ≡ key → KeyIs (written_key v) variables key
key_is scope variables v key longs known is = key_is_from scope variables v.first v.others key longs known is

-- A sum whose key is the current one has its value.
same_value : (variables : Variables) (current : Key) (first : Atom) (others : List Atom) (key : ℤ)
    → (let v : Sum = record { first = first; others = others } in same_key current (written_key v) ≡ true → KeyIs current variables key → long_value variables v ≡ key)
same_value variables (LiteralKey m) (Literal n) [] key same is = sym (is ∙ ap pos (eqb-true m n same))
same_value variables (LiteralKey m) (Variable name) [] key same is = absurd (cc)
same_value variables (LiteralKey m) (Literal n) (atom ∷ atoms) key same is = absurd (cc)
same_value variables (LiteralKey m) (Variable name) (atom ∷ atoms) key same is = absurd (cc)
same_value variables (VariableKey x) (Literal n) [] key same is = absurd (cc)
same_value variables (VariableKey x) (Variable name) [] key same is =
    let e = (bytes_eq-Decides x name).0 same in ap (λ y. whole_of (unwrap_or (named y variables) val.Unit)) (sym e) ∙ ap (λ o. whole_of (unwrap_or o val.Unit)) is
same_value variables (VariableKey x) (Literal n) (atom ∷ atoms) key same is = absurd (cc)
same_value variables (VariableKey x) (Variable name) (atom ∷ atoms) key same is = absurd (cc)
same_value variables Compound first others key same is = absurd (cc)

if_true : (b c : Bool) → (if b then c else false) ≡ true → (b ≡ true) × (c ≡ true)
if_true true c is = (refl, is)
if_true false c is = absurd (cc)

pub record AtSite (fields : List (List ℕ)) (s : Setting) (name : List ℕ) (written : Sum) (variables : Variables) (field : ℕ) (key : ℤ) (tables : Tables) (state : State) : Type 0 where
  pub here : IsHere fields s name field key tables state
  pub value : long_value variables written ≡ key

pub at_site : (fields : List (List ℕ)) (s : Setting) (site : Option Site) (name : List ℕ) (written : Sum) (variables : Variables) (field : ℕ) (key : ℤ) (tables : Tables) (state : State)
    → SiteHolds fields s site variables field key tables state → same_site site (written_site name written) ≡ true → AtSite fields s name written variables field key tables state
at_site fields s None name written variables field key tables state holds same = absurd (cc)
at_site fields s (Some site) name written variables field key tables state holds same =
    let both = if_true (bytes_eq site.field name) (same_key site.key (written_key written)) same in
    let e = (bytes_eq-Decides site.field name).0 both.0 in
    record {
      here = subst (λ n. IsHere fields s n field key tables state) e holds.0;
      value = same_value variables site.key written.first written.others key both.1 holds.1;
    }

-- ---- the site after a declaration

key_kept : (local : List ℕ) (v : Val) (key : Key) (variables : Variables) (k : ℤ) → is_key local key ≡ false → KeyIs key variables k → KeyIs key ((local, v) ∷ variables) k
key_kept local v (LiteralKey n) variables k other is = is
key_kept local v (VariableKey name) variables k other is = apart (bytes_eq local name) refl
  where
    apart : (b : Bool) → bytes_eq local name ≡ b → (if b then Some v else named name variables) ≡ Some (val.Long k)
    apart true at = (let e = (bytes_eq-Decides name local).1 (sym ((bytes_eq-Decides local name).0 at)) in absurd (cc))
    apart false at = is
key_kept local v Compound variables k other is = tt

holds_declared : (fields : List (List ℕ)) (s : Setting) (site : Site) (local : List ℕ) (v : Val) (variables : Variables) (field : ℕ) (key : ℤ) (tables : Tables) (state : State) (b : Bool)
    → is_key local site.key ≡ b → IsHere fields s site.field field key tables state × KeyIs site.key variables key
    → SiteHolds fields s (if b then None else Some site) ((local, v) ∷ variables) field key tables state
holds_declared fields s site local v variables field key tables state true at holds = tt
holds_declared fields s site local v variables field key tables state false at holds = (holds.0, key_kept local v site.key variables key at holds.1)

pub holds_after : (fields : List (List ℕ)) (s : Setting) (site : Option Site) (local : List ℕ) (v : Val) (variables : Variables) (field : ℕ) (key : ℤ) (tables : Tables) (state : State)
    → SiteHolds fields s site variables field key tables state → SiteHolds fields s (after_declaration local site) ((local, v) ∷ variables) field key tables state
holds_after fields s None local v variables field key tables state holds = tt
holds_after fields s (Some site) local v variables field key tables state holds =
    holds_declared fields s site local v variables field key tables state (is_key local site.key) refl holds

-- ---- what is to be shown of a body, and of the part behind a mark

abbrev pub BodySteps : List (List ℕ) → List Statement → Ending → Type 0
BodySteps fields ss end =
    (s : Setting) (number : ℕ) (m : GraphMethod) (at : ℕ) (p : Point) (variables : Variables) (env : List Val) (turns : ℕ) (tables : Tables) (state : State) (field : ℕ) (key : ℤ)
    → StandsAt fields s.graph number m at (body_code fields p ss end) p.scope ss end variables env
    → SiteHolds fields s p.site variables field key tables state
    → Steps fields s field key (run_from fields (body_tree ss end) p.site variables turns tables) (run s (body_code fields p ss end) [] env turns state) turns tables state

abbrev pub UnmarkedSteps : List (List ℕ) → List Statement → Ending → Type 0
UnmarkedSteps fields ss end =
    (s : Setting) (number : ℕ) (m : GraphMethod) (at : ℕ) (p : Point) (variables : Variables) (env : List Val) (turns : ℕ) (tables : Tables) (state : State) (field : ℕ) (key : ℤ)
    (name : List ℕ) (written : Sum)
    → StandsAt fields s.graph number m at (unmarked_code fields p ss end) p.scope ss end variables env
    → first_access ss end ≡ Some (name, written) → AtSite fields s name written variables field key tables state
    → Steps fields s field key (run_block fields (body_tree ss end) variables turns (val.Long key) tables) (run s (unmarked_code fields p ss end) [] env turns state) turns tables state
