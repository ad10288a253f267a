-- The statements of a body as plain Java runs them.
use Rattle.std.proofs.Common.{◌≡◌, ℕ, ℤ, ◌+◌, Bool, true, false, not, if◌then◌else◌, List, [], ◌∷◌, Some, None, codes, Contains, sym, ◌∙◌, ap, subst, refl}
use Rattle.std.specs.List.{zip}
use Rattle.sdg_base.specs.declared.val.Val.{Val}
use Rattle.sdg_base.specs.declared.val.Val.TheVariants as val
use Rattle.sdg_base.specs.declared.val.Outcome.{Outcome}
use Rattle.sdg_base.specs.declared.val.Outcome.TheVariants as outcome
use Rattle.java_tree.specs.declared.tree.Value.{Value}
use Rattle.java_tree.specs.declared.tree.Simple.TheVariants as simple
use Rattle.java_tree.specs.declared.tree.Stmt.TheVariants as stmt
use Rattle.java_tree.specs.declared.tree.BlockItem.{BlockItem, out-BlockItem}
use Rattle.java_tree.specs.declared.tree.BlockItem.TheVariants as item
use Rattle.early_forms.specs.declared.straight.Sum.{Sum}
use Rattle.early_forms.specs.declared.straight.Statement.TheVariants.{Get, Set, Put}
use Rattle.early_forms.specs.Trees.{sum_tree, plain, access, got, return_value, long_local, put_statement}
use Rattle.early_tables.specs.Contents.{value_at, with_value}
use Rattle.early_source.specs.Variables.{Tables, renewed}
use Rattle.early_source.specs.Expressions.{long_of}
use Rattle.early_source.specs.Sites.{Access, Site, access_of, site_of, same_site, is_marked, after_declaration}
use Rattle.early_source.specs.Blocks.{key_value}
use Rattle.early_plain.specs.declared.machine.Machine.{Machine}
use Rattle.sdg_base.specs.Limits.{turns_at_start}
use Rattle.early_plain.specs.Bodies.{StatementRuns, begin_at}
use Rattle.early_plain.specs.Fields.{entries_of}
use Rattle.early_plain.specs.Keys.{written_site}
use Rattle.early_plain.specs.Machines.{at, PassesMark, StopsAtMark, DeclaresVariable}
use Rattle.early_plain.specs.Plain.{Machine as Plain, Accesses, Gives, FromAccess, FromExpression, Completes, Declares, Calls, Returns, RunsOut, turn_at, written_in, written_in_statement}
use Rattle.early_plain.specs.Scopes.{names_in}
use Rattle.early_plain.proofs.Accesses.{get_of, put_of, accesses_get, accesses_put}
use Rattle.early_plain.proofs.FieldTables.{names_in-renewed}
use Rattle.early_plain.proofs.SitesOfTrees.{site-written}
use Rattle.early_plain.proofs.Statements.{local_of, access_of-call, access_of-return, access_of-local, no_access-local, no_access-return}

-- ---- marks

abbrev turn_if : Bool → ℕ
turn_if marked = if marked then 1 else 0

abbrev turn_unless : Bool → ℕ
turn_unless same = if same then 0 else 1

turn_if-not : (same : Bool) → turn_unless same ≡ turn_if (not same)
turn_if-not true = refl
turn_if-not false = refl

module _ (field : List ℕ) (key : Sum) (a : Access) (site_is : site_of a ≡ written_site field key) where
  -- the turn that is spent at an access
  spends : (old new : Machine) → PassesMark (written_site field key) old new → old.turns ≡ turn_at old.site a + new.turns
  spends old new passes =
      let turn : turn_unless (same_site old.site (written_site field key)) ≡ turn_at old.site a =
      ap (λ (s : Site). turn_unless (same_site old.site s)) (sym site_is) ∙ turn_if-not (same_site old.site (site_of a)) in
      passes.spends ∙ ap (λ (n : ℕ). n + new.turns) turn

  marked : (old new : Machine) → StopsAtMark (written_site field key) old new → is_marked old.site a ≡ true
  marked old new stops = ap not (ap (same_site old.site) site_is ∙ stops.marked)

  -- an access gives its value
  gives : (names : List (List ℕ)) (i : BlockItem) (old new : Machine) (tables after : Tables) (v : Val) → access_of names (out-BlockItem i) ≡ Some a → PassesMark (written_site field key) old new
      → Accesses a old.scope tables v after → Gives names i (at old tables) v (at new after)
  gives names i old new tables after v is passes accesses =
      let m : Plain = record { site = Some (site_of a); variables = old.scope; turns = new.turns; tables = after } in
      let same : m ≡ at new after = cc (site_is, passes.goes_to, passes.scope) in
      subst (Gives names i (at old tables) v) same (FromAccess i a (at old tables) v after new.turns is (spends old new passes) accesses)

  -- no turn is left for it
  runs_out : (names : List (List ℕ)) (i : BlockItem) (rest : List BlockItem) (old new : Machine) (tables : Tables) (k : Val) → access_of names (out-BlockItem i) ≡ Some a
      → key_value a.args old.scope ≡ Some k → StopsAtMark (written_site field key) old new → Completes names (i ∷ rest) (at old tables) outcome.Limit tables
  runs_out names i rest old new tables k is key_is stops = RunsOut i rest a (at old tables) k is key_is (marked old new stops) stops.spent

-- ---- statements

-- a declaration, once its value is known
declares : (fields : List (List ℕ)) (local : List ℕ) (v : Value) (rest : List BlockItem) (old : Plain) (mid new : Machine) (tables : Tables) (n : ℤ) (end : Outcome) (last : Tables)
    → Gives fields (long_local local v) old (val.Long n) (at mid tables) → DeclaresVariable local n mid new → Completes fields rest (at new tables) end last
    → Completes fields (long_local local v ∷ rest) old end last
declares fields local v rest old mid new tables n end last gives declares_it completes =
    let m : Plain = record { site = after_declaration local mid.site; variables = (local, val.Long n) ∷ mid.scope; turns = mid.turns; tables = tables } in
    let same : at new tables ≡ m = cc (declares_it.scope, declares_it.site, declares_it.turns) in
    Declares (long_local local v) rest (local_of local v) old (at mid tables) (val.Long n) (val.Long n) end last (item.outs-Local (local_of local v)) gives refl
    (subst (λ (x : Plain). Completes fields rest x end last) same completes)

-- an expression's value
gives_sum-local : (fields : List (List ℕ)) (local : List ℕ) (s : Sum) (m : Plain) (n : ℤ) → long_of (plain (sum_tree s)) m.variables ≡ Some (val.Long n)
    → Gives fields (long_local local (plain (sum_tree s))) m (val.Long n) m
gives_sum-local fields local s m n is =
    let v = plain (sum_tree s) in
    FromExpression (long_local local v) v m (val.Long n) (no_access-local fields local s) (ap written_in (item.outs-Local (local_of local v))) is

pub set_runs : (local : List ℕ) (s : Sum) (old new : Machine) (tables : Tables) (n value : ℤ) → long_of (plain (sum_tree s)) old.scope ≡ Some (val.Long n) → value ≡ n
    → DeclaresVariable local value old new → StatementRuns (Set local s) (at old tables) (at new tables) true
set_runs local s old new tables n value is value_is declares_it =
    let is_value : long_of (plain (sum_tree s)) old.scope ≡ Some (val.Long value) = is ∙ ap (λ (x : ℤ). Some (val.Long x)) (sym value_is) in
    record {
      leads = λ rest end last completes.
          declares (names_in tables) local (plain (sum_tree s)) rest (at old tables) old new tables value end last (gives_sum-local (names_in tables) local s (at old tables) value is_value) declares_it completes;
      declared = ap names_in declares_it.scope;
      fields = refl;
    }

module _ (field : List ℕ) (key : Sum) (old : Machine) (tables : Tables) (k : ℤ) (there : Contains (names_in tables) field) (key_is : long_of (plain (sum_tree key)) old.scope ≡ Some (val.Long k)) where
  got_value : (i : BlockItem) (mid : Machine) (place n value : ℤ) → access_of (names_in tables) (out-BlockItem i) ≡ Some (get_of field key) → PassesMark (written_site field key) old mid
      → place ≡ k → n ≡ value_at place (entries_of field tables) → value ≡ n → Gives (names_in tables) i (at old tables) (val.Long value) (at mid tables)
  got_value i mid place n value is passes place_is n_is value_is =
      let value_at_key : value_at k (entries_of field tables) ≡ value = sym (value_is ∙ n_is ∙ ap (λ (x : ℤ). value_at x (entries_of field tables)) place_is) in
      gives field key (get_of field key) (site-written field key) (names_in tables) i old mid tables tables (val.Long value) is passes
      (subst (λ (x : ℤ). Accesses (get_of field key) old.scope tables (val.Long x) tables) value_at_key (accesses_get field key old.scope tables k there key_is))

  pub get_runs : (local : List ℕ) (mid new : Machine) (place n value : ℤ) → PassesMark (written_site field key) old mid → place ≡ k → n ≡ value_at place (entries_of field tables) → value ≡ n
      → DeclaresVariable local value mid new → StatementRuns (Get local field key) (at old tables) (at new tables) true
  get_runs local mid new place n value passes place_is n_is value_is declares_it = record {
    leads = λ rest end last completes.
        declares (names_in tables) local (got field key) rest (at old tables) mid new tables value end last
        (got_value (long_local local (got field key)) mid place n value (access_of-local (names_in tables) field local (codes "get") (sum_tree key ∷ []) there) passes place_is n_is value_is)
        declares_it completes;
    declared = ap names_in declares_it.scope ∙ ap (λ vs. local ∷ names_in vs) passes.scope;
    fields = refl;
  }

  pub get_stops : (local : List ℕ) (new : Machine) → StopsAtMark (written_site field key) old new → StatementRuns (Get local field key) (at old tables) (at new tables) false
  get_stops local new stops = record {
    leads = λ rest.
        runs_out field key (get_of field key) (site-written field key) (names_in tables) (long_local local (got field key)) rest old new tables (val.Long k)
        (access_of-local (names_in tables) field local (codes "get") (sum_tree key ∷ []) there) key_is stops;
    declared = tt;
    fields = refl;
  }

  pub put_runs : (value : Sum) (new : Machine) (after : Tables) (v place written : ℤ) → PassesMark (written_site field key) old new → long_of (plain (sum_tree value)) new.scope ≡ Some (val.Long v)
      → place ≡ k → written ≡ v → after ≡ renewed field (with_value place written (entries_of field tables)) tables
      → StatementRuns (Put field key value) (at old tables) (at new after) true
  put_runs value new after v place written passes value_is place_is written_is after_is =
      let old_value : long_of (plain (sum_tree value)) old.scope ≡ Some (val.Long v) = ap (long_of (plain (sum_tree value))) (sym passes.scope) ∙ value_is in
      let args = sum_tree key ∷ sum_tree value ∷ [] in
      let call = access field (codes "put") args in
      let left : renewed field (with_value k v (entries_of field tables)) tables ≡ after =
      sym (after_is ∙ ap (λ (x : ℤ). renewed field (with_value x written (entries_of field tables)) tables) place_is ∙ ap (λ (x : ℤ). renewed field (with_value k x (entries_of field tables)) tables) written_is) in
      let accesses : Accesses (put_of field key value) old.scope tables val.Unit after =
      subst (Accesses (put_of field key value) old.scope tables val.Unit) left (accesses_put field key value old.scope tables k v there key_is old_value) in
      record {
        leads = λ rest end last completes.
            Calls (put_statement field key value) rest (stmt.Simple (simple.Call false call)) call (at old tables) (at new after) val.Unit end last
            (item.outs-Stmt (stmt.Simple (simple.Call false call))) (stmt.outs-Simple (simple.Call false call))
            (gives field key (put_of field key value) (site-written field key) (names_in tables) (put_statement field key value) old new tables after val.Unit
            (access_of-call (names_in tables) field (codes "put") args there) passes accesses) completes;
        declared = ap names_in passes.scope;
        fields = ap names_in (sym left) ∙ names_in-renewed field (with_value k v (entries_of field tables)) tables;
      }

  pub put_stops : (value : Sum) (new : Machine) → StopsAtMark (written_site field key) old new → StatementRuns (Put field key value) (at old tables) (at new tables) false
  put_stops value new stops = record {
    leads = λ rest.
        runs_out field key (put_of field key value) (site-written field key) (names_in tables) (put_statement field key value) rest old new tables (val.Long k)
        (access_of-call (names_in tables) field (codes "put") (sum_tree key ∷ sum_tree value ∷ []) there) key_is stops;
    declared = tt;
    fields = refl;
  }

  -- ---- endings

  pub get_ends : (mid : Machine) (place n value : ℤ) → PassesMark (written_site field key) old mid → place ≡ k → n ≡ value_at place (entries_of field tables) → value ≡ n
      → Completes (names_in tables) (return_value (got field key) ∷ []) (at old tables) (outcome.Value (val.Long value)) tables
  get_ends mid place n value passes place_is n_is value_is =
      let written = Some (got field key) in
      Returns (return_value (got field key)) [] (stmt.Return written) written (at old tables) (at mid tables) (val.Long value) (val.Long value)
      (item.outs-Stmt (stmt.Return written)) (stmt.outs-Return written)
      (got_value (return_value (got field key)) mid place n value (access_of-return (names_in tables) field (codes "get") (sum_tree key ∷ []) there) passes place_is n_is value_is) refl

  pub get_ends_short : (new : Machine) → StopsAtMark (written_site field key) old new → Completes (names_in tables) (return_value (got field key) ∷ []) (at old tables) outcome.Limit tables
  get_ends_short new stops =
      runs_out field key (get_of field key) (site-written field key) (names_in tables) (return_value (got field key)) [] old new tables (val.Long k)
      (access_of-return (names_in tables) field (codes "get") (sum_tree key ∷ []) there) key_is stops

pub sum_ends : (s : Sum) (m : Machine) (tables : Tables) (n value : ℤ) → long_of (plain (sum_tree s)) m.scope ≡ Some (val.Long n) → value ≡ n
    → Completes (names_in tables) (return_value (plain (sum_tree s)) ∷ []) (at m tables) (outcome.Value (val.Long value)) tables
sum_ends s m tables n value is value_is =
    let v = plain (sum_tree s) in
    let is_value : long_of v m.scope ≡ Some (val.Long value) = is ∙ ap (λ (x : ℤ). Some (val.Long x)) (sym value_is) in
    Returns (return_value v) [] (stmt.Return (Some v)) (Some v) (at m tables) (at m tables) (val.Long value) (val.Long value)
    (item.outs-Stmt (stmt.Return (Some v))) (stmt.outs-Return (Some v))
    (FromExpression (return_value v) v (at m tables) (val.Long value) (no_access-return (names_in tables) s)
    (ap written_in (item.outs-Stmt (stmt.Return (Some v))) ∙ ap written_in_statement (stmt.outs-Return (Some v))) is_value) refl

-- a call begins
pub machine_begins : (m : Machine) (parameters items : List (List ℕ)) (args : List Val) (tables : Tables) → items ≡ parameters → m.site ≡ None → m.scope ≡ zip items args → m.turns ≡ turns_at_start
    → at m tables ≡ begin_at (zip parameters args) tables
machine_begins m parameters items args tables same site_is scope_is turns_is =
    let scope : m.scope ≡ zip parameters args = scope_is ∙ ap (λ (names : List (List ℕ)). zip names args) same in
    λ i. record { site = site_is i; variables = scope i; turns = turns_is i; tables = tables }
