-- An access of a field's table and of the slot's entries.
use Rattle.std.proofs.Common.{◌≡◌, ◌≢◌, refl, ℕ, ℤ, ◌<◌, Bool, true, if◌then◌else◌, List, [], ◌∷◌, length, Option, Some, None, slice_get, codes, sym, ap, subst, ◌∙◌, Contains}
use Rattle.std.proofs.lemmas.Bool.{eq-eqb}
use Rattle.sdg_base.specs.declared.val.Val.{Val}
use Rattle.sdg_base.specs.declared.val.Val.TheVariants as val
use Rattle.early_forms.specs.declared.straight.Sum.{Sum}
use Rattle.early_forms.specs.Names.{SumIsKnown}
use Rattle.early_forms.specs.Trees.{sum_tree, plain}
use Rattle.early_tables.specs.Entries.{Entries}
use Rattle.early_tables.specs.Contents.{entry_at, value_at, with_value}
use Rattle.early_tables.specs.States.{State, OfTable, arity}
use Rattle.early_tables.specs.declared.method.Method.TheVariants as method
use Rattle.early_source.specs.Variables.{Variables, Tables, named, renewed}
use Rattle.early_source.specs.Expressions.{long_of, cons_if}
use Rattle.early_source.specs.Sites.{Key, LiteralKey, VariableKey, Compound}
use Rattle.early_source.specs.Blocks.{accessed, with_args}
use Rattle.agreement.specs.Simulation.{entries_in, entry_in, field_names}
use Rattle.early_task_code.specs.declared.graph.Instr.{Instr}
use Rattle.early_task_code.specs.declared.graph.Instr.TheVariants as instr
use Rattle.early_task_code.specs.Machine as machine
use Rattle.early_task_code.specs.Machine.{Setting, Runs, run, pushed, key_value, is_own_field, arguments}
use Rattle.early_plain.specs.Keys.{written_key}
use Rattle.early_cutter.specs.Points.{number_in}
use Rattle.early_cutter.specs.Lowering.{argument_code}
use Rattle.early_cutter.specs.Values.{long_value}
use Rattle.early_cutter.specs.Agrees.{Matches, key_code}
use Rattle.early_cutter.proofs.Moves.{Moves, moves_at, number_within, named_number, renewed_same, field_names-renewed, with_value_same, with_value_other}
use Rattle.early_cutter.proofs.SumCode.{Pushes, long_runs}
use Rattle.early_cutter.proofs.Statements.{made}
use Rattle.early_cutter.proofs.Steps.{IsHere}

-- ---- the machine

argument_runs : (s : Setting) (scope : List (List ℕ)) (env : List Val) (variables : Variables) (written : Sum) (key : ℤ) (kind : Key) → Matches scope variables env → SumIsKnown scope written
    → s.key ≡ Some key → long_value variables written ≡ key → Pushes s env (argument_code kind scope written) (val.Long key)
argument_runs s scope env variables written key Compound matches known carries value rest stack turns state =
    ap (λ o. pushed (run s rest) (key_value o) stack env turns state) carries
argument_runs s scope env variables written key (LiteralKey n) matches known carries value rest stack turns state =
    long_runs s scope env variables written matches known rest stack turns state ∙ ap (λ k. run s rest (val.Long k ∷ stack) env turns state) value
argument_runs s scope env variables written key (VariableKey name) matches known carries value rest stack turns state =
    long_runs s scope env variables written matches known rest stack turns state ∙ ap (λ k. run s rest (val.Long k ∷ stack) env turns state) value

pub key_runs : (s : Setting) (scope : List (List ℕ)) (env : List Val) (variables : Variables) (written : Sum) (key : ℤ) → Matches scope variables env → SumIsKnown scope written
    → s.key ≡ Some key → long_value variables written ≡ key → Pushes s env (key_code scope written) (val.Long key)
key_runs s scope env variables written key matches known carries value = argument_runs s scope env variables written key (written_key written) matches known carries value

own : (o : Option ℕ) (field n : ℕ) → o ≡ Some field → field ≡ n → is_own_field o n ≡ true
own o field n is same = ap (λ x. is_own_field x n) is ∙ eq-eqb field n same

pub get_runs : (s : Setting) (field n : ℕ) (key : ℤ) (entries : Entries) (rest : List Instr) (env : List Val) (turns : ℕ) → s.field ≡ Some field → field ≡ n
    → run s (instr.Access n method.Get ∷ rest) (val.Long key ∷ []) env turns (OfTable entries) ≡ run s rest (val.Long (value_at key entries) ∷ []) env turns (OfTable entries)
get_runs s field n key entries rest env turns is same =
    ap (λ (b : Bool). if b then machine.accessed s (run s rest) method.Get (arguments (arity method.Get) (val.Long key ∷ [])) env turns (OfTable entries) else None) (own s.field field n is same)

pub put_runs : (s : Setting) (field n : ℕ) (key value : ℤ) (entries : Entries) (rest : List Instr) (env : List Val) (turns : ℕ) → s.field ≡ Some field → field ≡ n
    → run s (instr.Access n method.Put ∷ rest) (val.Long value ∷ val.Long key ∷ []) env turns (OfTable entries) ≡ run s rest [] env turns (OfTable (with_value key value entries))
put_runs s field n key value entries rest env turns is same =
    ap (λ (b : Bool). if b then machine.accessed s (run s rest) method.Put (arguments (arity method.Put) (val.Long value ∷ val.Long key ∷ [])) env turns (OfTable entries) else None) (own s.field field n is same)

-- ---- the source

-- the entries of a field's table
abbrev pub table_of : List (List ℕ) → List ℕ → Tables → Entries
table_of fields name tables = entries_in (slice_get tables (number_in fields name))

pub named_table : (fields : List (List ℕ)) (name : List ℕ) (tables : Tables) → field_names tables ≡ fields → Contains fields name → named name tables ≡ Some (table_of fields name tables)
named_table fields name tables names contains =
    let P : List (List ℕ) → Type 0 = λ fs. Contains fs name → named name tables ≡ Some (table_of fs name tables) in
    subst P names (λ there. named_number name tables (number_within name (field_names tables) there)) contains

pub accessed-get : (name : List ℕ) (written : Sum) (key : ℤ) (variables : Variables) (tables : Tables) (entries : Entries) → named name tables ≡ Some entries
    → accessed (made name (codes "get") (sum_tree written ∷ [])) (val.Long key) variables tables ≡ Some (val.Long (value_at key entries), renewed name entries tables)
accessed-get name written key variables tables entries is =
    ap (λ o. with_args (made name (codes "get") (sum_tree written ∷ [])) tables o (Some (val.Long key ∷ []))) is

pub accessed-put : (name : List ℕ) (written value : Sum) (key v : ℤ) (variables : Variables) (tables : Tables) (entries : Entries) → named name tables ≡ Some entries
    → long_of (plain (sum_tree value)) variables ≡ Some (val.Long v)
    → accessed (made name (codes "put") (sum_tree written ∷ sum_tree value ∷ [])) (val.Long key) variables tables ≡ Some (val.Unit, renewed name (with_value key v entries) tables)
accessed-put name written value key v variables tables entries is value_is =
    let a = made name (codes "put") (sum_tree written ∷ sum_tree value ∷ []) in
    ap (λ o. with_args a tables (named name tables) (cons_if (Some (val.Long key)) (cons_if o (Some [])))) value_is
    ∙ ap (λ o. with_args a tables o (Some (val.Long key ∷ val.Long v ∷ []))) is

-- ---- both

pub record Moved (fields : List (List ℕ)) (s : Setting) (name : List ℕ) (field : ℕ) (key : ℤ) (tables : Tables) (state : State) (after : Tables) (state_after : State) : Type 0 where
  pub moves : Moves field key tables state after state_after
  pub here : IsHere fields s name field key after state_after

-- the new entries of the table and of the slot, which differ from the old at the key alone and agree there
moved_at : (s : Setting) (name : List ℕ) (key : ℤ) (tables : Tables) (new entries entries_after : Entries)
    → (let n = number_in (field_names tables) name in
    n < length (field_names tables) → s.field ≡ Some n → s.key ≡ Some key
    → ((k : ℤ) → k ≢ key → entry_at k new ≡ entry_in tables n k)
    → ((k : ℤ) → k ≢ key → entry_at k entries_after ≡ entry_at k entries)
    → entry_at key entries_after ≡ entry_at key new
    → Moved (field_names tables) s name n key tables (OfTable entries) (renewed name new tables) (OfTable entries_after))
moved_at s name key tables new entries entries_after within own_is carries table_others slot_others same = record {
  moves = moves_at name key tables new entries entries_after within table_others slot_others (λ agree. same);
  here = record {
    own = own_is;
    carries = carries;
    is_field = refl;
    names = field_names-renewed name new tables;
    entries = entries_after;
    is_state = refl;
    agree = same ∙ sym (ap (λ o. entry_at key (entries_in o)) (renewed_same name new tables within));
  };
}

moved_by : (fields : List (List ℕ)) (s : Setting) (name : List ℕ) (field : ℕ) (key : ℤ) (tables : Tables) (new entries entries_after : Entries)
    → field_names tables ≡ fields → Contains fields name → s.field ≡ Some field → s.key ≡ Some key → field ≡ number_in fields name
    → ((k : ℤ) → k ≢ key → entry_at k new ≡ entry_at k (table_of fields name tables))
    → ((k : ℤ) → k ≢ key → entry_at k entries_after ≡ entry_at k entries)
    → entry_at key entries_after ≡ entry_at key new
    → Moved fields s name field key tables (OfTable entries) (renewed name new tables) (OfTable entries_after)
moved_by fields s name field key tables new entries entries_after names contains own_is carries is_field table_others slot_others same =
    let P : List (List ℕ) → ℕ → Type 0 = λ fs n. s.field ≡ Some n → Moved fs s name n key tables (OfTable entries) (renewed name new tables) (OfTable entries_after) in
    let Q : List (List ℕ) → Type 0 = λ fs. Contains fs name → ((k : ℤ) → k ≢ key → entry_at k new ≡ entry_at k (table_of fs name tables)) → P fs (number_in fs name) in
    let whole : Q fields = subst Q names (λ there others own_field. moved_at s name key tables new entries entries_after (number_within name (field_names tables) there) own_field carries others slot_others same) in
    subst (P fields) (sym is_field) (whole contains table_others) own_is

-- A `get` changes neither.
pub get_moves : (fields : List (List ℕ)) (s : Setting) (name : List ℕ) (field : ℕ) (key : ℤ) (tables : Tables) (entries : Entries)
    → field_names tables ≡ fields → Contains fields name → s.field ≡ Some field → s.key ≡ Some key → field ≡ number_in fields name → entry_at key entries ≡ entry_in tables field key
    → Moved fields s name field key tables (OfTable entries) (renewed name (table_of fields name tables) tables) (OfTable entries)
get_moves fields s name field key tables entries names contains own_is carries is_field agree =
    moved_by fields s name field key tables (table_of fields name tables) entries entries names contains own_is carries is_field (λ k other. refl) (λ k other. refl)
    (agree ∙ ap (λ n. entry_in tables n key) is_field)

-- A `put` changes both at the key, to the same value.
pub put_moves : (fields : List (List ℕ)) (s : Setting) (name : List ℕ) (field : ℕ) (key value : ℤ) (tables : Tables) (entries : Entries)
    → field_names tables ≡ fields → Contains fields name → s.field ≡ Some field → s.key ≡ Some key → field ≡ number_in fields name
    → Moved fields s name field key tables (OfTable entries) (renewed name (with_value key value (table_of fields name tables)) tables) (OfTable (with_value key value entries))
put_moves fields s name field key value tables entries names contains own_is carries is_field =
    moved_by fields s name field key tables (with_value key value (table_of fields name tables)) entries (with_value key value entries) names contains own_is carries is_field
    (λ k other. with_value_other key value k (table_of fields name tables) other) (λ k other. with_value_other key value k entries other)
    (with_value_same key value entries ∙ sym (with_value_same key value (table_of fields name tables)))
