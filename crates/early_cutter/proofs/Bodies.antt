-- Each statement, and by induction each body: the machine does what the source does.
use Rattle.std.proofs.Common.{◌≡◌, refl, ℕ, suc, ℤ, pos, ◌+◌, ◌<◌, Bool, true, false, if◌then◌else◌, List, [], ◌∷◌, ◌++◌, length, Some, None, slice_set, unwrap_or, codes, sym, ap, subst, ◌∙◌, arith, Contains, append_assoc}
use Rattle.std.proofs.lemmas.Bool.{lt-ltb}
use Rattle.std.proofs.lemmas.List.{append-nil, length-append}
use Rattle.std.proofs.lemmas.Option.{some_pair_parts}
use Rattle.sdg_base.specs.declared.val.Val.{Val}
use Rattle.sdg_base.specs.declared.val.Val.TheVariants as val
use Rattle.sdg_base.specs.declared.val.Outcome.{Outcome}
use Rattle.sdg_base.specs.declared.val.Outcome.TheVariants as outcome
use Rattle.sdg_base.specs.declared.port.Port.TheVariants as port
use Rattle.sdg_base.specs.declared.item.Item.TheVariants as item
use Rattle.java_tree.specs.declared.tree.BlockItem.{BlockItem, out-BlockItem}
use Rattle.java_tree.specs.declared.tree.BlockItem.TheVariants as block_item
use Rattle.java_tree.specs.declared.tree.Stmt.TheVariants as stmt
use Rattle.early_forms.specs.declared.straight.Sum.{Sum}
use Rattle.early_forms.specs.declared.straight.Statement.{Statement}
use Rattle.early_forms.specs.declared.straight.Statement.TheVariants as statement
use Rattle.early_forms.specs.declared.straight.Ending.{Ending}
use Rattle.early_forms.specs.declared.straight.Ending.TheVariants as ending
use Rattle.early_forms.specs.Names.{BodyIsKnown, declared_names, locals}
use Rattle.early_forms.specs.Trees.{sum_tree, plain, got, return_value, long_local, put_statement, body_tree}
use Rattle.early_tables.specs.Entries.{Entries}
use Rattle.early_tables.specs.Contents.{entry_at, value_at, with_value}
use Rattle.early_tables.specs.States.{State, OfTable}
use Rattle.early_tables.specs.declared.method.Method.TheVariants as method
use Rattle.early_source.specs.Variables.{Variables, Tables, renewed}
use Rattle.early_source.specs.Expressions.{as_long}
use Rattle.early_source.specs.Sites.{Access, access_of, site_of, same_site, after_declaration}
use Rattle.early_source.specs.Blocks.{accessed, AtEnd, Stop, run_from, run_block, first_of_list, marked_access, finish, finish_with, declared, ended, plainly, plain_value, statement_value, reach}
use Rattle.agreement.specs.Simulation.{entry_in}
use Rattle.early_task_code.specs.declared.graph.GraphMethod.{GraphMethod}
use Rattle.early_task_code.specs.declared.graph.Instr.{Instr}
use Rattle.early_task_code.specs.declared.graph.Instr.TheVariants as instr
use Rattle.early_task_code.specs.Machine as machine
use Rattle.early_task_code.specs.Machine.{Setting, Runs, run}
use Rattle.early_plain.specs.Keys.{written_site}
use Rattle.early_cutter.specs.Points.{Point, number_in, point_after}
use Rattle.early_cutter.specs.Sums.{long_code}
use Rattle.early_cutter.specs.Lowering.{body_code}
use Rattle.early_cutter.specs.Values.{long_value}
use Rattle.early_cutter.specs.Agrees.{LocalsAreNew, Matches, StandsAt, first_access, key_code, unmarked_code}
use Rattle.early_cutter.proofs.Lists.{length-slice_set}
use Rattle.early_cutter.proofs.Scopes.{Matches-local}
use Rattle.early_cutter.proofs.SumCode.{long_runs}
use Rattle.early_cutter.proofs.SumTrees.{long_of-sum}
use Rattle.early_cutter.proofs.Statements.{made, local_of, access_of-put, access_of-return, access_of-local, no_access-return, no_access-local, finish-local, finish-put, finish-return, site_of-made}
use Rattle.early_cutter.proofs.Places.{first_mark, body_split}
use Rattle.early_cutter.proofs.Moves.{Moves, Moves-none}
use Rattle.early_cutter.proofs.Accesses.{key_runs, get_runs, put_runs, table_of, named_table, accessed-get, accessed-put, get_moves, put_moves}
use Rattle.early_cutter.proofs.Heads.{head_known, head_of, runs_to_mark, runs_through}
use Rattle.early_cutter.proofs.Marks.{stands_behind, mark_steps}
use Rattle.early_cutter.proofs.Steps.{Steps, steps_from, IsHere, SiteHolds, key_is, at_site, holds_after, BodySteps, UnmarkedSteps}

-- ---- ends

pub ends : (fields : List (List ℕ)) (s : Setting) (field : ℕ) (key : ℤ) (source : Stop) (given : Runs) (turns : ℕ) (tables after : Tables) (state state_after : State) (how : Outcome)
    → source ≡ Some (AtEnd how, after) → given ≡ machine.ended s how state_after → Moves field key tables state after state_after
    → Steps fields s field key source given turns tables state
ends fields s field key source given turns tables after state state_after how source_is given_is moves = record {
  place = AtEnd how;
  after = after;
  state_after = state_after;
  source_is = source_is;
  gives = record { to = port.Sink; output = item.Done s.call how; gives = given_is; of_call = refl; agrees = refl };
  moves = moves;
  fewer = omega arith;
}

-- ---- the place after a statement

-- the same place after a local is stored
stands_local : (fields : List (List ℕ)) (s : Setting) (number : ℕ) (m : GraphMethod) (at : ℕ) (code : List Instr) (scope : List (List ℕ)) (ss : List Statement) (end : Ending) (variables : Variables) (env : List Val)
    (st : Statement) (local : List ℕ) (n : ℤ) → declared_names st ≡ local ∷ []
    → StandsAt fields s.graph number m at code scope (st ∷ ss) end variables env
    → StandsAt fields s.graph number m at code (scope ++ declared_names st) ss end ((local, val.Long n) ∷ variables) (slice_set env (length scope) (val.Long n))
stands_local fields s number m at code scope ss end variables env st local n names stands =
    let declares : length (declared_names st ++ locals ss) ≡ suc (length (locals ss)) = ap (λ ns. length (ns ++ locals ss)) names in
    let room = stands.room in
    let space : length scope < length env = omega arith in
    let P : List (List ℕ) → Type 0 = λ ns. Matches (scope ++ ns) ((local, val.Long n) ∷ variables) (slice_set env (length scope) (val.Long n)) in
    let new : Contains scope local → ⊥ = stands.new.0 local (subst (λ ns. Contains ns local) (sym names) (0, omega arith, refl)) in
    let one : length (declared_names st) ≡ 1 = ap length names in
    let same = length-slice_set env (length scope) (val.Long n) in
    record {
      is_method = stands.is_method;
      is_code = stands.is_code;
      cuts = stands.cuts;
      known = stands.known.1;
      new = stands.new.1;
      matches = subst P (sym names) (Matches-local scope variables env local n stands.matches new space);
      as_many = same ∙ stands.as_many;
      room = omega (arith, length-append scope (declared_names st));
    }

-- and after a `put`
stands_put : (fields : List (List ℕ)) (s : Setting) (number : ℕ) (m : GraphMethod) (at : ℕ) (code : List Instr) (scope : List (List ℕ)) (ss : List Statement) (end : Ending) (variables : Variables) (env : List Val)
    (field : List ℕ) (key value : Sum)
    → StandsAt fields s.graph number m at code scope (statement.Put field key value ∷ ss) end variables env
    → StandsAt fields s.graph number m at code scope ss end variables env
stands_put fields s number m at code scope ss end variables env field key value stands = record {
  is_method = stands.is_method;
  is_code = stands.is_code;
  cuts = stands.cuts;
  known = subst (λ names. BodyIsKnown fields names ss end) (append-nil scope) stands.known.1;
  new = subst (λ names. LocalsAreNew names ss) (append-nil scope) stands.new.1;
  matches = stands.matches;
  as_many = stands.as_many;
  room = stands.room;
}

store_runs : (s : Setting) (n : ℕ) (v : Val) (rest : List Instr) (env : List Val) (turns : ℕ) (state : State) → n < length env
    → run s (instr.Store n ∷ rest) (v ∷ []) env turns state ≡ run s rest [] (slice_set env n v) turns state
store_runs s n v rest env turns state room = ap (λ (b : Bool). if b then run s rest [] (slice_set env n v) turns state else None) (lt-ltb n (length env) room)

-- ---- behind a mark

-- the source's run from a mark, once the access has given its value
past_access : (fields : List (List ℕ)) (first : BlockItem) (rest : List BlockItem) (a : Access) (variables : Variables) (turns : ℕ) (key : Val) (tables : Tables) (v : Val) (after : Tables)
    → access_of fields (out-BlockItem first) ≡ Some a → accessed a key variables tables ≡ Some (v, after)
    → run_block fields (first ∷ rest) variables turns key tables ≡ finish (run_from fields rest) (out-BlockItem first) (Some (site_of a)) v variables turns after
past_access fields first rest a variables turns key tables v after is gives =
    ap (λ o. marked_access fields first rest o variables turns key tables) is
    ∙ ap (finish_with (run_from fields rest) first (Some (site_of a)) variables turns) gives

-- the value of a key in the slot's entries and in the field's table
same_value_at : (fields : List (List ℕ)) (name : List ℕ) (field : ℕ) (key : ℤ) (tables : Tables) (entries : Entries) → field ≡ number_in fields name → entry_at key entries ≡ entry_in tables field key
    → val.Long (value_at key (table_of fields name tables)) ≡ val.Long (value_at key entries)
same_value_at fields name field key tables entries is_field agree =
    sym (ap (λ o. val.Long (unwrap_or o (pos 0))) (agree ∙ ap (λ n. entry_in tables n key) is_field))

unmarked_end_get : (fields : List (List ℕ)) (s : Setting) (number : ℕ) (m : GraphMethod) (at : ℕ) (p : Point) (variables : Variables) (env : List Val) (turns : ℕ) (tables : Tables)
    (entries : Entries) (field : ℕ) (key : ℤ) (name : List ℕ) (written : Sum)
    → StandsAt fields s.graph number m at (unmarked_code fields p [] (ending.Get name written)) p.scope [] (ending.Get name written) variables env
    → IsHere fields s name field key tables (OfTable entries) → entry_at key entries ≡ entry_in tables field key → long_value variables written ≡ key
    → Steps fields s field key (run_block fields (body_tree [] (ending.Get name written)) variables turns (val.Long key) tables)
    (run s (unmarked_code fields p [] (ending.Get name written)) [] env turns (OfTable entries)) turns tables (OfTable entries)
unmarked_end_get fields s number m at p variables env turns tables entries field key name written stands here agree value =
    let contains = stands.known.0 in
    let table = table_of fields name tables in
    let v = value_at key entries in
    let first = return_value (got name written) in
    let a = made name (codes "get") (sum_tree written ∷ []) in
    let after = renewed name table tables in
    let n = number_in fields name in
    let moved = get_moves fields s name field key tables entries here.names contains here.own here.carries here.is_field agree in
    ends fields s field key (run_block fields (first ∷ []) variables turns (val.Long key) tables)
    (run s (key_code p.scope written ++ (instr.Access n method.Get ∷ instr.Return ∷ [])) [] env turns (OfTable entries))
    turns tables after (OfTable entries) (OfTable entries) (outcome.Value (val.Long v))
    (past_access fields first [] a variables turns (val.Long key) tables (val.Long (value_at key table)) after
    (access_of-return fields name written contains) (accessed-get name written key variables tables table (named_table fields name tables here.names contains))
    ∙ finish-return (run_from fields []) (got name written) (Some (site_of a)) (val.Long (value_at key table)) variables turns after
    ∙ ap (λ w. ended after (as_long w)) (same_value_at fields name field key tables entries here.is_field agree))
    (key_runs s p.scope env variables written key stands.matches stands.known.1 here.carries value (instr.Access n method.Get ∷ instr.Return ∷ []) [] turns (OfTable entries)
    ∙ get_runs s field n key entries (instr.Return ∷ []) env turns here.own here.is_field)
    moved.moves

unmarked_get : (fields : List (List ℕ)) (ss : List Statement) (end : Ending) → BodySteps fields ss end → (local : List ℕ)
    (s : Setting) (number : ℕ) (m : GraphMethod) (at : ℕ) (p : Point) (variables : Variables) (env : List Val) (turns : ℕ) (tables : Tables)
    (entries : Entries) (field : ℕ) (key : ℤ) (name : List ℕ) (written : Sum)
    → StandsAt fields s.graph number m at (unmarked_code fields p (statement.Get local name written ∷ ss) end) p.scope (statement.Get local name written ∷ ss) end variables env
    → IsHere fields s name field key tables (OfTable entries) → entry_at key entries ≡ entry_in tables field key → long_value variables written ≡ key
    → Steps fields s field key (run_block fields (body_tree (statement.Get local name written ∷ ss) end) variables turns (val.Long key) tables)
    (run s (unmarked_code fields p (statement.Get local name written ∷ ss) end) [] env turns (OfTable entries)) turns tables (OfTable entries)
unmarked_get fields ss end later local s number m at p variables env turns tables entries field key name written stands here agree value =
    let contains = stands.known.0.0 in
    let table = table_of fields name tables in
    let v = value_at key entries in
    let st = statement.Get local name written in
    let first = long_local local (got name written) in
    let rest = body_tree ss end in
    let a = made name (codes "get") (sum_tree written ∷ []) in
    let after = renewed name table tables in
    let n = number_in fields name in
    let p' = point_after st p in
    let code = body_code fields p' ss end in
    let access : List Instr = instr.Access n method.Get ∷ instr.Store (length p.scope) ∷ [] in
    let inner : Variables = (local, val.Long v) ∷ variables in
    let moved = get_moves fields s name field key tables entries here.names contains here.own here.carries here.is_field agree in
    let behind = stands_behind fields s number m at (key_code p.scope written ++ access) code p.scope (st ∷ ss) end variables env stands in
    let room = stands.room in
    let space : length p.scope < length env = omega arith in
    let env' = slice_set env (length p.scope) (val.Long v) in
    let is_key = key_is p.scope variables written key stands.matches.longs stands.known.0.1 value in
    steps_from fields s field key (run_block fields (first ∷ rest) variables turns (val.Long key) tables) (run_from fields rest p'.site inner turns after)
    (run s ((key_code p.scope written ++ access) ++ code) [] env turns (OfTable entries)) (run s code [] env' turns (OfTable entries))
    turns tables after (OfTable entries) (OfTable entries)
    (past_access fields first rest a variables turns (val.Long key) tables (val.Long (value_at key table)) after
    (access_of-local fields local name written contains) (accessed-get name written key variables tables table (named_table fields name tables here.names contains))
    ∙ finish-local (run_from fields rest) local (got name written) (Some (site_of a)) (val.Long (value_at key table)) variables turns after
    ∙ ap (λ w. declared (run_from fields rest) local (Some (site_of a)) variables turns after (as_long w)) (same_value_at fields name field key tables entries here.is_field agree)
    ∙ ap (λ x. run_from fields rest (after_declaration local (Some x)) inner turns after) (site_of-made name (codes "get") written []))
    (ap (λ is. run s is [] env turns (OfTable entries)) (append_assoc (key_code p.scope written) access code)
    ∙ key_runs s p.scope env variables written key stands.matches stands.known.0.1 here.carries value (access ++ code) [] turns (OfTable entries)
    ∙ get_runs s field n key entries (instr.Store (length p.scope) ∷ code) env turns here.own here.is_field
    ∙ store_runs s (length p.scope) (val.Long v) code env turns (OfTable entries) space)
    moved.moves
    (later s number m (at + length (key_code p.scope written ++ access)) p' inner env' turns after (OfTable entries) field key
    (stands_local fields s number m (at + length (key_code p.scope written ++ access)) code p.scope ss end variables env st local v refl behind)
    (holds_after fields s (Some (written_site name written)) local (val.Long v) variables field key after (OfTable entries) (moved.here, is_key)))

unmarked_put : (fields : List (List ℕ)) (ss : List Statement) (end : Ending) → BodySteps fields ss end → (written_value : Sum)
    (s : Setting) (number : ℕ) (m : GraphMethod) (at : ℕ) (p : Point) (variables : Variables) (env : List Val) (turns : ℕ) (tables : Tables)
    (entries : Entries) (field : ℕ) (key : ℤ) (name : List ℕ) (written : Sum)
    → StandsAt fields s.graph number m at (unmarked_code fields p (statement.Put name written written_value ∷ ss) end) p.scope (statement.Put name written written_value ∷ ss) end variables env
    → IsHere fields s name field key tables (OfTable entries) → entry_at key entries ≡ entry_in tables field key → long_value variables written ≡ key
    → Steps fields s field key (run_block fields (body_tree (statement.Put name written written_value ∷ ss) end) variables turns (val.Long key) tables)
    (run s (unmarked_code fields p (statement.Put name written written_value ∷ ss) end) [] env turns (OfTable entries)) turns tables (OfTable entries)
unmarked_put fields ss end later written_value s number m at p variables env turns tables entries field key name written stands here agree value =
    let contains = stands.known.0.0 in
    let table = table_of fields name tables in
    let v = long_value variables written_value in
    let st = statement.Put name written written_value in
    let first = put_statement name written written_value in
    let rest = body_tree ss end in
    let a = made name (codes "put") (sum_tree written ∷ sum_tree written_value ∷ []) in
    let after = renewed name (with_value key v table) tables in
    let n = number_in fields name in
    let p' = point_after st p in
    let code = body_code fields p' ss end in
    let access : List Instr = instr.Access n method.Put ∷ [] in
    let moved = put_moves fields s name field key v tables entries here.names contains here.own here.carries here.is_field in
    let whole = key_code p.scope written ++ (long_code p.scope written_value ++ access) in
    let behind = stands_behind fields s number m at whole code p.scope (st ∷ ss) end variables env stands in
    let is_key = key_is p.scope variables written key stands.matches.longs stands.known.0.1 value in
    let entries' = OfTable (with_value key v entries) in
    steps_from fields s field key (run_block fields (first ∷ rest) variables turns (val.Long key) tables) (run_from fields rest p'.site variables turns after)
    (run s (whole ++ code) [] env turns (OfTable entries)) (run s code [] env turns entries')
    turns tables after (OfTable entries) entries'
    (past_access fields first rest a variables turns (val.Long key) tables val.Unit after
    (access_of-put fields name written written_value contains)
    (accessed-put name written written_value key v variables tables table (named_table fields name tables here.names contains)
    (long_of-sum p.scope variables written_value stands.matches.longs stands.known.0.2))
    ∙ finish-put (run_from fields rest) name written written_value (Some (site_of a)) val.Unit variables turns after
    ∙ ap (λ x. run_from fields rest (Some x) variables turns after) (site_of-made name (codes "put") written (sum_tree written_value ∷ [])))
    (ap (λ is. run s is [] env turns (OfTable entries))
    (append_assoc (key_code p.scope written) (long_code p.scope written_value ++ access) code ∙ ap (λ xs. key_code p.scope written ++ xs) (append_assoc (long_code p.scope written_value) access code))
    ∙ key_runs s p.scope env variables written key stands.matches stands.known.0.1 here.carries value (long_code p.scope written_value ++ (access ++ code)) [] turns (OfTable entries)
    ∙ long_runs s p.scope env variables written_value stands.matches stands.known.0.2 (access ++ code) (val.Long key ∷ []) turns (OfTable entries)
    ∙ put_runs s field n key v entries code env turns here.own here.is_field)
    moved.moves
    (later s number m (at + length whole) p' variables env turns after entries' field key
    (stands_put fields s number m (at + length whole) code p.scope ss end variables env name written written_value behind)
    (moved.here, is_key))

-- ---- a mark, or none

marked_by : (fields : List (List ℕ)) (ss : List Statement) (end : Ending) → UnmarkedSteps fields ss end
    → (s : Setting) (number : ℕ) (m : GraphMethod) (at : ℕ) (p : Point) (variables : Variables) (env : List Val) (turns : ℕ) (tables : Tables) (state : State) (field : ℕ) (key : ℤ)
    (name : List ℕ) (written : Sum) (b : Bool)
    → first_access ss end ≡ Some (name, written)
    → same_site p.site (written_site name written) ≡ b
    → (let code = (if b then [] else long_code p.scope written ++ (instr.Turn ∷ instr.Cut p.task ∷ [])) ++ unmarked_code fields p ss end in
    StandsAt fields s.graph number m at code p.scope ss end variables env
    → SiteHolds fields s p.site variables field key tables state
    → Steps fields s field key (run_from fields (body_tree ss end) p.site variables turns tables) (run s code [] env turns state) turns tables state)
marked_by fields ss end unmarked s number m at p variables env turns tables state field key name written true is_access same stands holds =
    let known = head_known fields p.scope ss end name written is_access stands.known in
    let head = head_of fields ss end name written is_access known.field in
    let there = at_site fields s p.site name written variables field key tables state holds same in
    let is = long_of-sum p.scope variables written stands.matches.longs known.key ∙ ap (λ k. Some (val.Long k)) there.value in
    let code = unmarked_code fields p ss end in
    steps_from fields s field key (run_from fields (body_tree ss end) p.site variables turns tables) (run_block fields (body_tree ss end) variables turns (val.Long key) tables)
    (run s code [] env turns state) (run s code [] env turns state) turns tables tables state state
    (runs_through fields (body_tree ss end) p.site name written variables turns tables key head same is) refl (Moves-none field key tables state)
    (unmarked s number m at p variables env turns tables state field key name written stands is_access there)
marked_by fields ss end unmarked s number m at p variables env turns tables state field key name written false is_access other stands holds =
    let known = head_known fields p.scope ss end name written is_access stands.known in
    let head = head_of fields ss end name written is_access known.field in
    let k = long_value variables written in
    let is = long_of-sum p.scope variables written stands.matches.longs known.key in
    let code = (long_code p.scope written ++ (instr.Turn ∷ instr.Cut p.task ∷ [])) ++ unmarked_code fields p ss end in
    steps_from fields s field key (run_from fields (body_tree ss end) p.site variables turns tables) (reach (body_tree ss end) variables turns tables (Some (val.Long k)))
    (run s code [] env turns state) (run s code [] env turns state) turns tables tables state state
    (runs_to_mark fields (body_tree ss end) p.site name written variables turns tables k head other is) refl (Moves-none field key tables state)
    (mark_steps fields s number m at p p.task ss end variables env turns tables state field key name written stands is_access known.field known.key)

-- ---- by induction

-- an access as what it is: of this field, under this key, on a table's entries
abbrev AccessSteps : List (List ℕ) → List Statement → Ending → List ℕ → Sum → Type 0
AccessSteps fields ss end name written =
    (s : Setting) (number : ℕ) (m : GraphMethod) (at : ℕ) (p : Point) (variables : Variables) (env : List Val) (turns : ℕ) (tables : Tables)
    (entries : Entries) (field : ℕ) (key : ℤ)
    → StandsAt fields s.graph number m at (unmarked_code fields p ss end) p.scope ss end variables env
    → IsHere fields s name field key tables (OfTable entries) → entry_at key entries ≡ entry_in tables field key → long_value variables written ≡ key
    → Steps fields s field key (run_block fields (body_tree ss end) variables turns (val.Long key) tables) (run s (unmarked_code fields p ss end) [] env turns (OfTable entries)) turns tables (OfTable entries)

unmarked_from : (fields : List (List ℕ)) (ss : List Statement) (end : Ending) (own_name : List ℕ) (own_key : Sum) → first_access ss end ≡ Some (own_name, own_key)
    → AccessSteps fields ss end own_name own_key → UnmarkedSteps fields ss end
unmarked_from fields ss end own_name own_key is access s number m at p variables env turns tables state field key name written stands is_access there =
    let same = some_pair_parts own_name name own_key written (sym is ∙ is_access) in
    let here : IsHere fields s own_name field key tables state = subst (λ n. IsHere fields s n field key tables state) (sym same.0) there.here in
    let value : long_value variables own_key ≡ key = ap (long_value variables) same.1 ∙ there.value in
    let at_table : IsHere fields s own_name field key tables (OfTable there.here.entries) = subst (IsHere fields s own_name field key tables) there.here.is_state here in
    let P : State → Type 0 = λ st. Steps fields s field key (run_block fields (body_tree ss end) variables turns (val.Long key) tables)
    (run s (unmarked_code fields p ss end) [] env turns st) turns tables st in
    subst P (sym there.here.is_state)
    (access s number m at p variables env turns tables there.here.entries field key stands at_table there.here.agree value)

-- statements that begin with an access, by whether it has a mark
from_split : (fields : List (List ℕ)) (ss : List Statement) (end : Ending) (name : List ℕ) (written : Sum) → first_access ss end ≡ Some (name, written) → UnmarkedSteps fields ss end
    → ((p : Point) → first_mark p (first_access ss end) ≡ (if same_site p.site (written_site name written) then [] else long_code p.scope written ++ (instr.Turn ∷ instr.Cut p.task ∷ [])))
    → BodySteps fields ss end
from_split fields ss end name written is_access unmarked is_mark s number m at p variables env turns tables state field key stands holds =
    let mark = if same_site p.site (written_site name written) then [] else long_code p.scope written ++ (instr.Turn ∷ instr.Cut p.task ∷ []) in
    let parted : body_code fields p ss end ≡ mark ++ unmarked_code fields p ss end = body_split fields p ss end ∙ ap (λ xs. xs ++ unmarked_code fields p ss end) (is_mark p) in
    subst (λ is. Steps fields s field key (run_from fields (body_tree ss end) p.site variables turns tables) (run s is [] env turns state) turns tables state) (sym parted)
    (marked_by fields ss end unmarked s number m at p variables env turns tables state field key name written (same_site p.site (written_site name written)) is_access refl
    (subst (λ is. StandsAt fields s.graph number m at is p.scope ss end variables env) parted stands) holds)

set_steps : (fields : List (List ℕ)) (ss : List Statement) (end : Ending) → BodySteps fields ss end → (local : List ℕ) (value : Sum) → BodySteps fields (statement.Set local value ∷ ss) end
set_steps fields ss end later local value s number m at p variables env turns tables state field key stands holds =
    let st = statement.Set local value in
    let v = long_value variables value in
    let w = plain (sum_tree value) in
    let first = long_local local w in
    let rest = body_tree ss end in
    let p' = point_after st p in
    let inner : Variables = (local, val.Long v) ∷ variables in
    let env' = slice_set env (length p.scope) (val.Long v) in
    let code = body_code fields p' ss end in
    let store : List Instr = instr.Store (length p.scope) ∷ [] in
    let next_steps = run_from fields rest in
    let behind = stands_behind fields s number m at (long_code p.scope value ++ store) code p.scope (st ∷ ss) end variables env stands in
    let room = stands.room in
    let space : length p.scope < length env = omega arith in
    steps_from fields s field key (run_from fields (first ∷ rest) p.site variables turns tables) (run_from fields rest p'.site inner turns tables)
    (run s ((long_code p.scope value ++ store) ++ code) [] env turns state) (run s code [] env' turns state) turns tables tables state state
    (ap (λ o. first_of_list next_steps first rest o p.site variables turns tables) (no_access-local fields local value)
    ∙ ap (λ x. plainly next_steps first p.site variables turns tables (plain_value x variables)) (block_item.outs-Local (local_of local w))
    ∙ ap (plainly next_steps first p.site variables turns tables) (long_of-sum p.scope variables value stands.matches.longs stands.known.0)
    ∙ finish-local next_steps local w p.site (val.Long v) variables turns tables)
    (ap (λ is. run s is [] env turns state) (append_assoc (long_code p.scope value) store code)
    ∙ long_runs s p.scope env variables value stands.matches stands.known.0 (store ++ code) [] turns state
    ∙ store_runs s (length p.scope) (val.Long v) code env turns state space)
    (Moves-none field key tables state)
    (later s number m (at + length (long_code p.scope value ++ store)) p' inner env' turns tables state field key
    (stands_local fields s number m (at + length (long_code p.scope value ++ store)) code p.scope ss end variables env st local v refl behind)
    (holds_after fields s p.site local (val.Long v) variables field key tables state holds))

end_steps : (fields : List (List ℕ)) (end : Ending) → BodySteps fields [] end
end_steps fields ending.Nothing = λ s number m at p variables env turns tables state field key stands holds.
    ends fields s field key (run_from fields [] p.site variables turns tables) (run s (instr.ReturnVoid ∷ []) [] env turns state) turns tables tables state state (outcome.Value val.Unit) refl refl
    (Moves-none field key tables state)
end_steps fields (ending.Sum value) = λ s number m at p variables env turns tables state field key stands holds.
    let v = long_value variables value in
    let w = plain (sum_tree value) in
    let first = return_value w in
    let next_steps = run_from fields [] in
    ends fields s field key (run_from fields (first ∷ []) p.site variables turns tables) (run s (long_code p.scope value ++ (instr.Return ∷ [])) [] env turns state) turns tables tables state state (outcome.Value (val.Long v))
    (ap (λ o. first_of_list next_steps first [] o p.site variables turns tables) (no_access-return fields value)
    ∙ ap (λ x. plainly next_steps first p.site variables turns tables (plain_value x variables)) (block_item.outs-Stmt (stmt.Return (Some w)))
    ∙ ap (λ x. plainly next_steps first p.site variables turns tables (statement_value x variables)) (stmt.outs-Return (Some w))
    ∙ ap (plainly next_steps first p.site variables turns tables) (long_of-sum p.scope variables value stands.matches.longs stands.known)
    ∙ finish-return next_steps w p.site (val.Long v) variables turns tables)
    (long_runs s p.scope env variables value stands.matches stands.known (instr.Return ∷ []) [] turns state)
    (Moves-none field key tables state)
end_steps fields (ending.Get name written) =
    from_split fields [] (ending.Get name written) name written refl
    (unmarked_from fields [] (ending.Get name written) name written refl
    (λ s number m at p variables env turns tables entries field key. unmarked_end_get fields s number m at p variables env turns tables entries field key name written))
    (λ p. refl)

unmarked_statement_get : (fields : List (List ℕ)) (ss : List Statement) (end : Ending) → BodySteps fields ss end → (local name : List ℕ) (written : Sum)
    → UnmarkedSteps fields (statement.Get local name written ∷ ss) end
unmarked_statement_get fields ss end later local name written =
    unmarked_from fields (statement.Get local name written ∷ ss) end name written refl
    (λ s number m at p variables env turns tables entries field key.
    unmarked_get fields ss end later local s number m at p variables env turns tables entries field key name written)

unmarked_statement_put : (fields : List (List ℕ)) (ss : List Statement) (end : Ending) → BodySteps fields ss end → (name : List ℕ) (written value : Sum)
    → UnmarkedSteps fields (statement.Put name written value ∷ ss) end
unmarked_statement_put fields ss end later name written value =
    unmarked_from fields (statement.Put name written value ∷ ss) end name written refl
    (λ s number m at p variables env turns tables entries field key.
    unmarked_put fields ss end later value s number m at p variables env turns tables entries field key name written)

-- From any place of a body on, the machine does what the source does up to the next mark or the end.
pub body_steps : (fields : List (List ℕ)) (ss : List Statement) (end : Ending) → BodySteps fields ss end
body_steps fields [] end = end_steps fields end
body_steps fields (statement.Set local value ∷ ss) end = set_steps fields ss end (body_steps fields ss end) local value
body_steps fields (statement.Get local name written ∷ ss) end =
    from_split fields (statement.Get local name written ∷ ss) end name written refl (unmarked_statement_get fields ss end (body_steps fields ss end) local name written) (λ p. refl)
body_steps fields (statement.Put name written value ∷ ss) end =
    from_split fields (statement.Put name written value ∷ ss) end name written refl (unmarked_statement_put fields ss end (body_steps fields ss end) name written value) (λ p. refl)

-- and so it does behind a mark
pub unmarked_steps : (fields : List (List ℕ)) (ss : List Statement) (end : Ending) → UnmarkedSteps fields ss end
unmarked_steps fields [] ending.Nothing = λ s number m at p variables env turns tables state field key name written stands is_access there. absurd (cc)
unmarked_steps fields [] (ending.Sum value) = λ s number m at p variables env turns tables state field key name written stands is_access there. absurd (cc)
unmarked_steps fields [] (ending.Get name written) =
    unmarked_from fields [] (ending.Get name written) name written refl
    (λ s number m at p variables env turns tables entries field key. unmarked_end_get fields s number m at p variables env turns tables entries field key name written)
unmarked_steps fields (statement.Set local value ∷ ss) end = λ s number m at p variables env turns tables state field key name written stands is_access there. absurd (cc)
unmarked_steps fields (statement.Get local name written ∷ ss) end = unmarked_statement_get fields ss end (body_steps fields ss end) local name written
unmarked_steps fields (statement.Put name written value ∷ ss) end = unmarked_statement_put fields ss end (body_steps fields ss end) name written value
