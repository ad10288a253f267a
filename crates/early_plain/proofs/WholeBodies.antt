-- A body statement by statement, as what completes the rest completes the whole.
use Rattle.std.proofs.Common.{◌≡◌, ℕ, ◌+◌, ◌<◌, ◌≤◌, Bool, true, false, List, ◌∷◌, ◌++◌, length, drop, get_or, add-one, Contains, inl, inr, ◌⊎◌, sym, ◌∙◌, ap, subst, refl}
use Rattle.std.specs.List.{zip}
use Rattle.std.proofs.Math.Seq.{drop-cons}
use Rattle.std.proofs.lemmas.List.{drop_all}
use Rattle.std.proofs.lemmas.List.Elements.{Contains-append_left, Contains-append_right, Contains-append_cases}
use Rattle.std.proofs.lemmas.Slice.Zip.{firsts-zip}
use Rattle.sdg_base.specs.declared.val.Val.{Val}
use Rattle.sdg_base.specs.declared.val.Outcome.{Outcome}
use Rattle.sdg_base.specs.declared.val.Outcome.TheVariants.{Limit}
use Rattle.early_forms.specs.declared.straight.Atom.{Atom}
use Rattle.early_forms.specs.declared.straight.Atom.TheVariants.{Literal, Variable}
use Rattle.early_forms.specs.declared.straight.Sum.{Sum}
use Rattle.early_forms.specs.declared.straight.Statement.{Statement}
use Rattle.early_forms.specs.declared.straight.Statement.TheVariants.{Get, Set, Put}
use Rattle.early_forms.specs.declared.straight.Ending.{Ending}
use Rattle.early_forms.specs.declared.straight.Ending.TheVariants as ending
use Rattle.early_forms.specs.Names.{AtomIsKnown, SumIsKnown, StatementIsKnown, EndingIsKnown, BodyIsKnown, declared_names}
use Rattle.early_forms.specs.Trees.{statement_tree, ending_tree, body_tree}
use Rattle.early_source.specs.Variables.{Tables}
use Rattle.early_plain.specs.Bodies.{StatementRuns}
use Rattle.early_plain.specs.Plain.{Machine, Completes}
use Rattle.early_plain.specs.Scopes.{names_in}

-- ---- what is known in a scope is known in a wider one

abbrev pub Covers : List (List ℕ) → List (List ℕ) → Type 0
Covers scope names = (name : List ℕ) → Contains scope name → Contains names name

atom_known : (scope names : List (List ℕ)) → Covers scope names → (atom : Atom) → AtomIsKnown scope atom → AtomIsKnown names atom
atom_known scope names covers (Literal n) known = known
atom_known scope names covers (Variable name) known = covers name known

sum_known : (scope names : List (List ℕ)) → Covers scope names → (s : Sum) → SumIsKnown scope s → SumIsKnown names s
sum_known scope names covers s known = λ k x l. atom_known scope names covers _ (known k x l)

statement_known : (fields scope names : List (List ℕ)) → Covers scope names → (s : Statement) → StatementIsKnown fields scope s → StatementIsKnown fields names s
statement_known fields scope names covers (Get local field key) known = (known.0, sum_known scope names covers key known.1)
statement_known fields scope names covers (Set local value) known = sum_known scope names covers value known
statement_known fields scope names covers (Put field key value) known = (known.0, sum_known scope names covers key known.1, sum_known scope names covers value known.2)

ending_known : (fields scope names : List (List ℕ)) → Covers scope names → (e : Ending) → EndingIsKnown fields scope e → EndingIsKnown fields names e
ending_known fields scope names covers ending.Nothing known = tt
ending_known fields scope names covers (ending.Get field key) known = (known.0, sum_known scope names covers key known.1)
ending_known fields scope names covers (ending.Sum value) known = sum_known scope names covers value known

-- ---- from a statement on

-- what is known before a statement of a body
pub record BodyFrom (fields : List (List ℕ)) (statements : List Statement) (e : Ending) (start : Machine) (n : ℕ) (now : Machine) : Type 0 where
  pub fields_are : names_in now.tables ≡ fields
  pub scope : List (List ℕ)
  pub covers : Covers scope (names_in now.variables)
  pub known : BodyIsKnown fields scope (drop n statements) e
  pub whole : (end : Outcome) (last : Tables) → Completes fields (body_tree (drop n statements) e) now end last → Completes fields (body_tree statements e) start end last

pub body_starts : (statements : List Statement) (e : Ending) (parameters : List (List ℕ)) (args : List Val) (start now : Machine) → length args ≡ length parameters
    → BodyIsKnown (names_in start.tables) parameters statements e → start.variables ≡ zip parameters args → now ≡ start
    → BodyFrom (names_in start.tables) statements e start 0 now
body_starts statements e parameters args start now as_many known variables_are same =
    let names : names_in start.variables ≡ parameters = ap names_in variables_are ∙ firsts-zip parameters args as_many in
    let begins : BodyFrom (names_in start.tables) statements e start 0 start = record {
      fields_are = refl;
      scope = parameters;
      covers = λ name there. subst (λ (xs : List (List ℕ)). Contains xs name) (sym names) there;
      known = known;
      whole = λ end last completes. completes;
    } in
    subst (BodyFrom (names_in start.tables) statements e start 0) (sym same) begins

module _ (fields : List (List ℕ)) (statements : List Statement) (e : Ending) (start : Machine) (n : ℕ) (now : Machine) (so_far : BodyFrom fields statements e start n now) where
  module _ (s : Statement) (l : n < length statements) (is : s ≡ get_or statements n s) where
    here : drop n statements ≡ s ∷ drop (n + 1) statements
    here = rw (add-one, drop-cons statements n s, ← is)

    known_here : StatementIsKnown fields so_far.scope s × BodyIsKnown fields (so_far.scope ++ declared_names s) (drop (n + 1) statements) e
    known_here = subst (λ (ss : List Statement). BodyIsKnown fields so_far.scope ss e) here so_far.known

    pub next_known : StatementIsKnown (names_in now.tables) (names_in now.variables) s
    next_known = subst (λ (names : List (List ℕ)). StatementIsKnown names (names_in now.variables) s) (sym so_far.fields_are) (statement_known fields so_far.scope (names_in now.variables) so_far.covers s known_here.0)

    leads_on : (next : Machine) → StatementRuns s now next true → (end : Outcome) (last : Tables) → Completes fields (body_tree (drop (n + 1) statements) e) next end last
        → Completes fields (body_tree statements e) start end last
    leads_on next runs end last completes =
        let rest = body_tree (drop (n + 1) statements) e in
        let led : Completes fields (statement_tree s ∷ rest) now end last =
        subst (λ (names : List (List ℕ)). Completes names (statement_tree s ∷ rest) now end last) so_far.fields_are
        (runs.leads rest end last (subst (λ (names : List (List ℕ)). Completes names rest next end last) (sym so_far.fields_are) completes)) in
        so_far.whole end last (subst (λ (ss : List Statement). Completes fields (body_tree ss e) now end last) (sym here) led)

    pub body_goes_on : (next : Machine) → StatementRuns s now next true → BodyFrom fields statements e start (n + 1) next
    body_goes_on next runs = record {
      fields_are = runs.fields ∙ so_far.fields_are;
      scope = so_far.scope ++ declared_names s;
      covers = λ name there. subst (λ (xs : List (List ℕ)). Contains xs name) (sym runs.declared) (either name (Contains-append_cases so_far.scope (declared_names s) name there));
      known = known_here.1;
      whole = leads_on next runs;
    }
      where
        either : (name : List ℕ) → Contains so_far.scope name ⊎ Contains (declared_names s) name → Contains (declared_names s ++ names_in now.variables) name
        either name (inl before) = Contains-append_right (declared_names s) (names_in now.variables) name (so_far.covers name before)
        either name (inr new) = Contains-append_left (declared_names s) (names_in now.variables) name new

    pub body_stops : (next : Machine) → StatementRuns s now next false → Completes fields (body_tree statements e) start Limit next.tables
    body_stops next runs =
        let rest = body_tree (drop (n + 1) statements) e in
        let led : Completes fields (statement_tree s ∷ rest) now Limit next.tables =
        subst (λ (names : List (List ℕ)). Completes names (statement_tree s ∷ rest) now Limit next.tables) so_far.fields_are (runs.leads rest) in
        so_far.whole Limit next.tables (subst (λ (ss : List Statement). Completes fields (body_tree ss e) now Limit next.tables) (sym here) led)

    pub fields_stay : (next : Machine) (goes_on : Bool) → StatementRuns s now next goes_on → names_in next.tables ≡ fields
    fields_stay next goes_on runs = runs.fields ∙ so_far.fields_are

  module _ (l : length statements ≤ n) where
    pub end_known : EndingIsKnown (names_in now.tables) (names_in now.variables) e
    end_known =
        let known : EndingIsKnown fields so_far.scope e = subst (λ (ss : List Statement). BodyIsKnown fields so_far.scope ss e) (drop_all n statements l) so_far.known in
        subst (λ (names : List (List ℕ)). EndingIsKnown names (names_in now.variables) e) (sym so_far.fields_are) (ending_known fields so_far.scope (names_in now.variables) so_far.covers e known)

    pub body_ends : (end : Outcome) (last : Tables) → Completes (names_in now.tables) (ending_tree e) now end last → Completes fields (body_tree statements e) start end last
    body_ends end last completes =
        let ended : Completes fields (ending_tree e) now end last = subst (λ (names : List (List ℕ)). Completes names (ending_tree e) now end last) so_far.fields_are completes in
        so_far.whole end last (subst (λ (ss : List Statement). Completes fields (body_tree ss e) now end last) (sym (drop_all n statements l)) ended)
