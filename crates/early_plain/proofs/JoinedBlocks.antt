-- A call whose blocks run one after the other, with nothing of other calls between, is a call of plain Java.
use Rattle.std.proofs.Common.{◌≡◌, ℕ, zero, suc, ◌+◌, Bool, true, false, if◌then◌else◌, List, [], ◌∷◌, Option, Some, None, sym, ◌∙◌, ap, subst, refl, arith}
use Rattle.std.proofs.lemmas.Option.{same_Some}
use Rattle.sdg_base.specs.declared.val.Val.{Val}
use Rattle.sdg_base.specs.declared.val.Val.TheVariants as val
use Rattle.sdg_base.specs.declared.val.Outcome.{Outcome}
use Rattle.sdg_base.specs.declared.val.Outcome.TheVariants.{Value, Limit}
use Rattle.java_tree.specs.declared.tree.Value.{Value as Written}
use Rattle.java_tree.specs.declared.tree.Local.{Local}
use Rattle.java_tree.specs.declared.tree.CallForm.{CallForm}
use Rattle.java_tree.specs.declared.tree.Simple.{Simple}
use Rattle.java_tree.specs.declared.tree.Simple.TheVariants as simple
use Rattle.java_tree.specs.declared.tree.Stmt.{Stmt, out-Stmt}
use Rattle.java_tree.specs.declared.tree.BlockItem.{BlockItem, out-BlockItem}
use Rattle.java_tree.specs.declared.tree.BlockItem.TheOpen.{BlockItem-F, Stmt-F}
use Rattle.java_tree.specs.declared.tree.BlockItem.TheOpen as s
use Rattle.early_tables.specs.Entries.{Entries}
use Rattle.early_tables.specs.Methods.{called}
use Rattle.early_source.specs.Variables.{Variables, Tables, named, renewed}
use Rattle.early_source.specs.Expressions.{as_long, long_of, longs_of, cons_if}
use Rattle.early_source.specs.Sites.{Access, Site, access_of, site_of, simple_access, statement_access, is_marked, after_declaration}
use Rattle.early_source.specs.Blocks.{Place, AtMark, AtEnd, Stop, run_from, run_block, first_of_list, reach, go_on, marked_access, finish, finish_with, finish_statement, declared, ended, plainly, plain_value, statement_value, long_if, key_value, behind, accessed, with_args, changed}
use Rattle.early_plain.specs.Plain.{Machine, Accesses, Gives, FromAccess, FromExpression, Completes, Falls, Declares, Calls, Returns, RunsOut, turn_at, written_in, written_in_statement}

-- From this place on, block after block, the call ends so and leaves these tables.
pub data Ends (fields : List (List ℕ)) : Place → Tables → Outcome → Tables → Type 0 where
  IsOver : (end : Outcome) (tables : Tables) → Ends fields (AtEnd end) tables end tables
  GoesOn : (rest : List BlockItem) (variables : Variables) (turns : ℕ) (key : Val) (old : Tables) (place : Place) (between : Tables) (end : Outcome) (new : Tables)
      → run_block fields rest variables turns key old ≡ Some (place, between)
      → Ends fields place between end new
      → Ends fields (AtMark rest variables turns key) old end new

-- the same from where a block stops
abbrev pub EndsFrom : List (List ℕ) → Stop → Outcome → Tables → Type 0
EndsFrom fields None end new = ⊥
EndsFrom fields (Some r) end new = Ends fields r.0 r.1 end new

pub ends_from : (fields : List (List ℕ)) (stop : Stop) (place : Place) (between : Tables) (end : Outcome) (new : Tables)
    → stop ≡ Some (place, between) → Ends fields place between end new → EndsFrom fields stop end new
ends_from fields stop place between end new is ends = subst (λ (t : Stop). EndsFrom fields t end new) (sym is) ends

at_end : (fields : List (List ℕ)) (P : Outcome → Tables → Type 0) (e : Outcome) (old : Tables) (end : Outcome) (new : Tables) → Ends fields (AtEnd e) old end new → P e old → P end new
at_end fields P e old end new (IsOver f t) p = p

-- ---- a state access

-- the turn that is spent where there is a mark
abbrev turn_if : Bool → ℕ
turn_if marked = if marked then 1 else 0

-- The key was evaluated at the mark, in the same variables.
longs_of-key : (args : List Written) (variables : Variables) (key : Val) → key_value args variables ≡ Some key
    → longs_of args variables ≡ cons_if (Some key) (longs_of (behind args) variables)
longs_of-key [] variables key is = cc
longs_of-key (v ∷ vs) variables key is = ap (λ o. cons_if o (longs_of vs variables)) is

accesses-changed : (a : Access) (variables : Variables) (old : Tables) (args : List Val) (entries : Entries) (change : Option (Val × Entries)) (r : Val × Tables)
    → longs_of a.args variables ≡ Some args → named a.field old ≡ Some entries → called a.method args entries ≡ change → changed a.field old change ≡ Some r
    → Accesses a variables old r.0 r.1
accesses-changed a variables old args entries None r args_are is_field is_called is = cc
accesses-changed a variables old args entries (Some c) r args_are is_field is_called is =
    let same : (c.0, renewed a.field c.1 old) ≡ r = same_Some (c.0, renewed a.field c.1 old) r is in
    subst (λ (q : Val × Tables). Accesses a variables old q.0 q.1) same (record {
      args = args;
      are_args = args_are;
      entries = entries;
      is_field = is_field;
      after = c.1;
      is_called = is_called;
      leaves = refl;
    })

accesses-with_args : (a : Access) (variables : Variables) (old : Tables) (entries : Option Entries) (args : Option (List Val)) (r : Val × Tables)
    → longs_of a.args variables ≡ args → named a.field old ≡ entries → with_args a old entries args ≡ Some r → Accesses a variables old r.0 r.1
accesses-with_args a variables old None None r args_are is_field is = cc
accesses-with_args a variables old None (Some args) r args_are is_field is = cc
accesses-with_args a variables old (Some entries) None r args_are is_field is = cc
accesses-with_args a variables old (Some entries) (Some args) r args_are is_field is =
    accesses-changed a variables old args entries (called a.method args entries) r args_are is_field refl is

accesses-accessed : (a : Access) (variables : Variables) (old : Tables) (key : Val) (r : Val × Tables) → key_value a.args variables ≡ Some key → accessed a key variables old ≡ Some r
    → Accesses a variables old r.0 r.1
accesses-accessed a variables old key r key_is is =
    accesses-with_args a variables old (named a.field old) (cons_if (Some key) (longs_of (behind a.args) variables)) r (longs_of-key a.args variables key key_is) refl is

-- ---- the value that a statement holds

written-statement : (x : Stmt-F BlockItem Stmt) (variables : Variables) (value : Val) → statement_value x variables ≡ Some value
    → (w : Written) × (written_in_statement x ≡ Some w) × (long_of w variables ≡ Some value)
written-statement (s.Return (Some w)) variables value is = (w, refl, is)
written-statement (s.Return None) variables value is = cc
written-statement _ variables value is = cc

written-item : (x : BlockItem-F BlockItem Stmt) (variables : Variables) (value : Val) → plain_value x variables ≡ Some value
    → (w : Written) × (written_in x ≡ Some w) × (long_of w variables ≡ Some value)
written-item (s.Local l) variables value is = written-initialiser l.value is
  where
    written-initialiser : (o : Option Written) → long_if o variables ≡ Some value → (w : Written) × (o ≡ Some w) × (long_of w variables ≡ Some value)
    written-initialiser None is = cc
    written-initialiser (Some w) is = (w, refl, is)
written-item (s.Stmt x) variables value is = written-statement (out-Stmt x) variables value is

-- A statement of an expression that gives a value is a call.
call-simple : (fields : List (List ℕ)) (x : Simple) (a : Access) → simple_access fields x ≡ Some a → (call : CallForm) × (x ≡ simple.Call false call)
call-simple fields (simple.Call false call) a is = (call, refl)
call-simple fields _ a is = cc

call-gives : (fields : List (List ℕ)) (item : BlockItem) (x : Stmt) (y : Simple) (m n : Machine) (value : Val) → out-BlockItem item ≡ s.Stmt x → out-Stmt x ≡ s.Simple y
    → Gives fields item m value n → (call : CallForm) × (y ≡ simple.Call false call)
call-gives fields item x y m n value item_is x_is (FromAccess i a k v tables turns is spent accesses) =
    call-simple fields y a (sym (ap (access_of fields) item_is ∙ ap (statement_access fields) x_is) ∙ is)
call-gives fields item x y m n value item_is x_is (FromExpression i w k v none is gives) =
    let is_nothing : None ≡ Some w = sym (ap written_in item_is ∙ ap written_in_statement x_is) ∙ is in
    cc

-- ---- a statement, and those that follow it

-- where a body stands
abbrev at : Option Site → Variables → ℕ → Tables → Machine
at site variables turns tables = record { site = site; variables = variables; turns = turns; tables = tables }

-- what is known of the statements that follow
abbrev Follow : List (List ℕ) → List BlockItem → Type 0
Follow fields rest = (site : Option Site) (variables : Variables) (turns : ℕ) (tables : Tables) (end : Outcome) (new : Tables)
    → EndsFrom fields (run_from fields rest site variables turns tables) end new → Completes fields rest (at site variables turns tables) end new

module _ (fields : List (List ℕ)) (item : BlockItem) (rest : List BlockItem) (follow : Follow fields rest) (m : Machine) where
  declares : (l : Local) (n : Machine) (v : Val) (w : Option Val) (end : Outcome) (new : Tables) → out-BlockItem item ≡ s.Local l → Gives fields item m v n → as_long v ≡ w
      → EndsFrom fields (declared (run_from fields rest) l.name n.site n.variables n.turns n.tables w) end new → Completes fields (item ∷ rest) m end new
  declares l n v None end new item_is gives is ends = absurd ends
  declares l n v (Some w) end new item_is gives is ends =
      Declares item rest l m n v w end new item_is gives is (follow (after_declaration l.name n.site) ((l.name, w) ∷ n.variables) n.turns n.tables end new ends)

  returns : (x : Stmt) (written : Written) (n : Machine) (v : Val) (w : Option Val) (end : Outcome) (new : Tables)
      → out-BlockItem item ≡ s.Stmt x → out-Stmt x ≡ s.Return (Some written) → Gives fields item m v n → as_long v ≡ w
      → EndsFrom fields (ended n.tables w) end new → Completes fields (item ∷ rest) m end new
  returns x written n v None end new item_is x_is gives is ends = absurd ends
  returns x written n v (Some w) end new item_is x_is gives is ends =
      at_end fields (λ e t. Completes fields (item ∷ rest) m e t) (Value w) n.tables end new ends (Returns item rest x (Some written) m n v w item_is x_is gives is)

  states : (x : Stmt) (y : Stmt-F BlockItem Stmt) (n : Machine) (v : Val) (end : Outcome) (new : Tables) → out-BlockItem item ≡ s.Stmt x → out-Stmt x ≡ y → Gives fields item m v n
      → EndsFrom fields (finish_statement (run_from fields rest) y n.site v n.variables n.turns n.tables) end new → Completes fields (item ∷ rest) m end new
  states x (s.Simple y) n v end new item_is x_is gives ends =
      let is_call = call-gives fields item x y m n v item_is x_is gives in
      Calls item rest x is_call.0 m n v end new item_is (x_is ∙ ap (λ z. s.Simple z) is_call.1) gives (follow n.site n.variables n.turns n.tables end new ends)
  states x (s.Return (Some w)) n v end new item_is x_is gives ends = returns x w n v (as_long v) end new item_is x_is gives refl ends
  states x (s.Return None) n v end new item_is x_is gives ends = absurd ends
  states x _ n v end new item_is x_is gives ends = absurd ends

  -- what follows once the value in the statement is known
  finishes : (x : BlockItem-F BlockItem Stmt) (n : Machine) (v : Val) (end : Outcome) (new : Tables) → out-BlockItem item ≡ x → Gives fields item m v n
      → EndsFrom fields (finish (run_from fields rest) x n.site v n.variables n.turns n.tables) end new → Completes fields (item ∷ rest) m end new
  finishes (s.Local l) n v end new item_is gives ends = declares l n v (as_long v) end new item_is gives refl ends
  finishes (s.Stmt x) n v end new item_is gives ends = states x (out-Stmt x) n v end new item_is refl gives ends

  -- without an access
  plain_statement : (value : Option Val) (end : Outcome) (new : Tables) → access_of fields (out-BlockItem item) ≡ None → plain_value (out-BlockItem item) m.variables ≡ value
      → EndsFrom fields (plainly (run_from fields rest) item m.site m.variables m.turns m.tables value) end new → Completes fields (item ∷ rest) m end new
  plain_statement None end new none is ends = absurd ends
  plain_statement (Some v) end new none is ends =
      let w = written-item (out-BlockItem item) m.variables v is in
      finishes (out-BlockItem item) m v end new refl (FromExpression item w.0 m v none w.1 w.2) ends

  -- the access, once its mark is passed
  accesses : (a : Access) (key : Val) (turns : ℕ) (r : Option (Val × Tables)) (end : Outcome) (new : Tables) → access_of fields (out-BlockItem item) ≡ Some a
      → key_value a.args m.variables ≡ Some key → m.turns ≡ turn_at m.site a + turns → accessed a key m.variables m.tables ≡ r
      → EndsFrom fields (finish_with (run_from fields rest) item (Some (site_of a)) m.variables turns r) end new → Completes fields (item ∷ rest) m end new
  accesses a key turns None end new is key_is spent gives ends = absurd ends
  accesses a key turns (Some r) end new is key_is spent gives ends =
      finishes (out-BlockItem item) (at (Some (site_of a)) m.variables turns r.1) r.0 end new refl
      (FromAccess item a m r.0 r.1 turns is spent (accesses-accessed a m.variables m.tables key r key_is gives)) ends

  -- in the block of the access before
  goes_on : (a : Access) (key : Option Val) (end : Outcome) (new : Tables) → access_of fields (out-BlockItem item) ≡ Some a → is_marked m.site a ≡ false → key_value a.args m.variables ≡ key
      → EndsFrom fields (go_on (run_from fields rest) item a m.variables m.turns m.tables key) end new → Completes fields (item ∷ rest) m end new
  goes_on a None end new is unmarked key_is ends = absurd ends
  goes_on a (Some key) end new is unmarked key_is ends =
      let none : turn_at m.site a ≡ 0 = ap turn_if unmarked in
      let spent : m.turns ≡ turn_at m.site a + m.turns = omega arith in
      accesses a key m.turns (accessed a key m.variables m.tables) end new is key_is spent refl ends

  -- at a mark
  past_mark : (a : Access) (key : Val) (turns : ℕ) (end : Outcome) (new : Tables) → access_of fields (out-BlockItem item) ≡ Some a → is_marked m.site a ≡ true → key_value a.args m.variables ≡ Some key
      → m.turns ≡ suc turns → Ends fields (AtMark (item ∷ rest) m.variables turns key) m.tables end new → Completes fields (item ∷ rest) m end new
  past_mark a key turns end new is marked key_is turns_is (GoesOn rs vs ts k old place between e n runs ends) =
      let one : turn_at m.site a ≡ 1 = ap turn_if marked in
      let spent : m.turns ≡ turn_at m.site a + turns = omega arith in
      let runs_access : EndsFrom fields (marked_access fields item rest (access_of fields (out-BlockItem item)) m.variables turns key m.tables) end new =
      ends_from fields (run_block fields (item ∷ rest) m.variables turns key m.tables) place between end new runs ends in
      accesses a key turns (accessed a key m.variables m.tables) end new is key_is spent refl
      (subst (λ (o : Option Access). EndsFrom fields (marked_access fields item rest o m.variables turns key m.tables) end new) is runs_access)

  reaches : (a : Access) (key : Option Val) (turns : ℕ) (end : Outcome) (new : Tables) → access_of fields (out-BlockItem item) ≡ Some a → is_marked m.site a ≡ true → key_value a.args m.variables ≡ key
      → m.turns ≡ turns → EndsFrom fields (reach (item ∷ rest) m.variables turns m.tables key) end new → Completes fields (item ∷ rest) m end new
  reaches a None turns end new is marked key_is turns_is ends = absurd ends
  reaches a (Some key) zero end new is marked key_is turns_is ends =
      at_end fields (λ e t. Completes fields (item ∷ rest) m e t) Limit m.tables end new ends (RunsOut item rest a m key is key_is marked turns_is)
  reaches a (Some key) (suc turns) end new is marked key_is turns_is ends = past_mark a key turns end new is marked key_is turns_is ends

  first_access : (a : Access) (marked : Bool) (end : Outcome) (new : Tables) → access_of fields (out-BlockItem item) ≡ Some a → is_marked m.site a ≡ marked
      → EndsFrom fields (if marked then reach (item ∷ rest) m.variables m.turns m.tables (key_value a.args m.variables) else go_on (run_from fields rest) item a m.variables m.turns m.tables (key_value a.args m.variables)) end new
      → Completes fields (item ∷ rest) m end new
  first_access a true end new is marked ends = reaches a (key_value a.args m.variables) m.turns end new is marked refl refl ends
  first_access a false end new is marked ends = goes_on a (key_value a.args m.variables) end new is marked refl ends

  first_statement : (a : Option Access) (end : Outcome) (new : Tables) → access_of fields (out-BlockItem item) ≡ a
      → EndsFrom fields (first_of_list (run_from fields rest) item rest a m.site m.variables m.turns m.tables) end new → Completes fields (item ∷ rest) m end new
  first_statement None end new is ends = plain_statement (plain_value (out-BlockItem item) m.variables) end new is refl ends
  first_statement (Some a) end new is ends = first_access a (is_marked m.site a) end new is refl ends

pub completes : (fields : List (List ℕ)) (items : List BlockItem) → Follow fields items
completes fields [] site variables turns tables end new ends = at_end fields (λ e t. Completes fields [] (at site variables turns tables) e t) (Value val.Unit) tables end new ends (Falls (at site variables turns tables))
completes fields (item ∷ rest) site variables turns tables end new ends =
    first_statement fields item rest (completes fields rest) (at site variables turns tables) (access_of fields (out-BlockItem item)) end new refl ends
