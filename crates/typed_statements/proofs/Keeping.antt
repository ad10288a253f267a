-- What the walk of the rules on annotations keeps over its steps: it stays in the header of a loop or outside of one, and where
-- nothing waits to be merged nothing waits behind; what it found it has found still.
use Rattle.std.proofs.Common.{◌≡◌, ℕ, Bool, true, false, not, ◌&&◌, ◌||◌, nat_eq, List, [], is_some, Option, Some, None, refl, ◌∙◌, if◌then◌else◌}
use Rattle.java_tree.specs.declared.types.Declaration.{Declaration}
use Rattle.java_tree.specs.declared.types.Declaration.TheVariants as declaration
use Rattle.annotations.specs.declared.position.Position.{Position}
use Rattle.annotations.specs.declared.position.Position.TheVariants.{Inside, Merged, Whole, Statement, Gathered}
use Rattle.annotations.specs.declared.site.Key.{Key}
use Rattle.annotations.specs.declared.site.Reach.{Reach}
use Rattle.annotations.specs.declared.walk.Awaited.{Awaited}
use Rattle.annotations.specs.declared.walk.Env.{Env}
use Rattle.annotations.specs.declared.walk.Walk.{Walk}
use Rattle.annotations.specs.Walks.{past, past_if, noted, noted_at, coming, taken, partial_at, is_collection, named, unmerged_from, unmerged, unfit, unexpected, kind_at, is_merge_method, sited}
use Rattle.annotations.specs.Positions.{is_whole, is_for_global}
use Rattle.annotations.specs.Accesses.{is_keyed, method_at, is_partitioned, reach_of, globally, accessed}
use Rattle.annotations.specs.Expressions.{is_merged, alone, unmerged_name, variable, own_head, access_head, dotted_head, head_of}
use Rattle.typed_statements.proofs.Steps.{some_left}

pub record Keeps (u v : Walk) : Type 0 where
  pub back : v.findings ≡ [] → u.findings ≡ []
  pub in_header : v.in_header ≡ u.in_header
  pub none : u.awaited ≡ None → v.awaited ≡ None

pub kept : (u : Walk) → Keeps u u
kept u = record { back = λ q. q; in_header = refl; none = λ e. e }

-- one after the other
pub keeps_on : {u v x : Walk} → Keeps u v → Keeps v x → Keeps u x
keeps_on a b = record { back = λ q. a.back (b.back q); in_header = b.in_header ∙ a.in_header; none = λ e. b.none (a.none e) }

module _ (env : Env) where
  -- ---- tokens, findings and names

  pub keeps_past : (n : ℕ) (u : Walk) → Keeps u (past env n u)
  unfolding past
  keeps_past n u = record { back = λ q. q; in_header = refl; none = λ e. e }

  pub keeps_past_if : (test : Bool) (n : ℕ) (u : Walk) → Keeps u (past_if env test n u)
  keeps_past_if true n u = keeps_past n u
  keeps_past_if false n u = kept u

  pub keeps_noted : (broken : Bool) (token rule : ℕ) (u : Walk) → Keeps u (noted broken token rule u)
  unfolding noted
  keeps_noted true token rule u = record { back = λ q. absurd (some_left u.findings _ q); in_header = refl; none = λ e. e }
  keeps_noted false token rule u = kept u

  pub keeps_noted_at : (at : Option ℕ) (rule : ℕ) (u : Walk) → Keeps u (noted_at at rule u)
  keeps_noted_at None rule u = kept u
  keeps_noted_at (Some at) rule u = keeps_noted true at rule u

  pub keeps_taken : (u : Walk) → Keeps u (taken env u)
  unfolding taken past
  keeps_taken u = record { back = λ q. q; in_header = refl; none = λ e. e }

  pub keeps_named : (u : Walk) → Keeps u (named env u)
  unfolding named
  keeps_named u = keeps_on (keeps_noted_at (partial_at u (coming env u)) 9 u) (keeps_taken _)

  unmerged_by : (o : Option Awaited) (u : Walk) → Keeps u (unmerged_from o u)
  unmerged_by None u = kept u
  unmerged_by (Some a) u = let n = keeps_noted true a.token 9 u in record { back = n.back; in_header = n.in_header; none = λ e. refl }

  pub keeps_unmerged : (u : Walk) → Keeps u (unmerged u)
  unfolding unmerged
  keeps_unmerged u = unmerged_by u.awaited u

  pub keeps_unfit : (position : Position) (u : Walk) → Keeps u (unfit position u)
  keeps_unfit Inside u = kept u
  keeps_unfit (Merged call merging) u = keeps_noted true call 12 u
  keeps_unfit Whole u = kept u
  keeps_unfit Statement u = kept u
  keeps_unfit Gathered u = kept u

  pub keeps_unexpected : (position : Position) (global : Option ℕ) (u : Walk) → Keeps u (unexpected position global u)
  keeps_unexpected position global u = keeps_on (keeps_unfit position u) (keeps_noted_at global 10 _)

  -- ---- variables

  keeps_alone : (position : Position) (global : Option ℕ) (u : Walk) → Keeps u (alone position global u)
  keeps_alone position None u = keeps_unfit position u
  keeps_alone position (Some at) u = kept u

  pub keeps_unmerged_name : (position : Position) (global : Option ℕ) (u : Walk) → Keeps u (unmerged_name env position global u)
  unfolding unmerged_name
  keeps_unmerged_name position global u =
      keeps_on (keeps_alone position global u) (keeps_on (keeps_noted_at global 10 _) (keeps_on (keeps_noted (is_collection u (coming env u)) u.at 12 _) (keeps_named _)))

  variable_by : (merged : Bool) (position : Position) (global : Option ℕ) (u : Walk)
      → Keeps u (if merged then record (taken env u) { awaited = None } else unmerged_name env position global u)
  variable_by true position global u = let t = keeps_taken u in record { back = t.back; in_header = t.in_header; none = λ e. refl }
  variable_by false position global u = keeps_unmerged_name position global u

  pub keeps_variable : (position : Position) (global : Option ℕ) (u : Walk) → Keeps u (variable env position global u)
  unfolding variable
  keeps_variable position global u = variable_by (is_merged env position global u) position global u

  -- ---- calls, up to their arguments

  keeps_globally : (position : Position) (global : Option ℕ) (partitioned : Bool) (u : Walk) → Keeps u (globally position global partitioned u)
  keeps_globally position None partitioned u = kept u
  keeps_globally position (Some at) partitioned u = keeps_on (keeps_noted partitioned at 4 u) (keeps_noted (not (is_for_global position)) at 8 _)

  pub keeps_accessed : (field : ℕ) (position : Position) (global : Option ℕ) (name : List ℕ) (u : Walk) → Keeps u (accessed env field position global name u)
  unfolding accessed
  keeps_accessed field position global name u =
      let partitioned = is_partitioned (kind_at env field) in
      keeps_on (keeps_noted (partitioned && not (is_keyed (method_at env field name))) u.at 3 u)
      (keeps_on (keeps_globally position global partitioned _) (keeps_on (keeps_noted (not (is_whole position) || u.in_header) u.at 5 _) (keeps_noted (not u.in_entry) u.at 6 _)))

  pub keeps_sited : (field : ℕ) (reach : Reach) (u : Walk) → Keeps u (sited field reach u)
  unfolding sited
  keeps_sited field reach u = record { back = λ q. q; in_header = refl; none = λ e. e }

  keeps_access_head : (field : ℕ) (position : Position) (global : Option ℕ) (name : List ℕ) (key : Walk → Key) (u : Walk)
      → Keeps u (access_head env field position global name key u)
  unfolding access_head
  keeps_access_head field position global name key u =
      let o = taken env (accessed env field position global name u) in
      keeps_on (keeps_accessed field position global name u)
      (keeps_on (keeps_taken _) (keeps_on (keeps_sited field (reach_of (kind_at env field) (is_some global) (key o)) o) (keeps_past 2 _)))

  pub keeps_dotted_head : (global : Option ℕ) (u : Walk) → Keeps u (dotted_head env global u)
  unfolding dotted_head
  keeps_dotted_head global u = keeps_on (keeps_noted_at global 10 u) (keeps_on (keeps_named _) (keeps_past 2 _))

  pub keeps_head : (position : Position) (global : Option ℕ) (name : List ℕ) (key : Walk → Key) (d : Option Declaration) (u : Walk)
      → Keeps u (head_of env position global name key d u)
  keeps_head position global name key None u = keeps_dotted_head global u
  keeps_head position global name key (Some (declaration.Field n)) u = keeps_access_head n position global name key u
  keeps_head position global name key (Some (declaration.Method n)) u = keeps_dotted_head global u
  keeps_head position global name key (Some (declaration.Parameter n)) u = keeps_dotted_head global u
  keeps_head position global name key (Some (declaration.Local n)) u = keeps_dotted_head global u

  pub keeps_own_head : (count : ℕ) (u : Walk) → Keeps u (own_head env count u)
  unfolding own_head
  keeps_own_head count u = keeps_on (keeps_noted (is_merge_method env (coming env u) && not (nat_eq count 1)) u.at 12 u) (keeps_taken _)
