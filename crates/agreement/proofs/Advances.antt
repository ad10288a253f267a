-- An item that a cell takes, and the step of the source that goes with it.
use Rattle.std.proofs.Common.{◌≡◌, ◌≢◌, int_eq, ℕ, ◌*◌, ◌/◌, ◌%◌, ◌^◌, w64, ◌<◌, ◌≤◌, ℤ, true, false, List, [], ◌∷◌, length, Option, Some, None, ◌⊎◌, inl, inr, slice_get, refl, ap, sym, ◌∙◌, subst, arith}
use Rattle.std.specs.Int.{cast_unsigned}
use Rattle.std.proofs.lemmas.Bool.Decides.{Decides-int_eq}
use Rattle.sdg_base.specs.declared.val.Val.{Val}
use Rattle.sdg_base.specs.declared.call.Call.{Call}
use Rattle.sdg_base.specs.declared.call.Step.TheVariants as step
use Rattle.sdg_base.specs.declared.port.Port.{Port}
use Rattle.sdg_base.specs.declared.port.Port.TheVariants as port
use Rattle.sdg_base.specs.declared.item.Item.{Item}
use Rattle.sdg_base.specs.declared.item.Item.TheVariants as item
use Rattle.sdg_base.specs.Ports.{same_port}
use Rattle.java_tree.specs.declared.tree.Class.{Class}
use Rattle.java_tree.specs.declared.tree.BlockItem.{BlockItem}
use Rattle.early_tables.specs.Entries.{Entries}
use Rattle.early_tables.specs.Contents.{entry_at}
use Rattle.early_tables.specs.States.{State, Nothing, OfTable}
use Rattle.early_source.specs.Variables.{Variables, Tables}
use Rattle.early_source.specs.Members.{fields, methods}
use Rattle.early_source.specs.Blocks.{Place, AtMark, AtEnd}
use Rattle.early_source.specs.Source.{CallState, Fresh, At, Ended, Source, nth, begins, begun, goes_on, moved, steps_from, state_of}
use Rattle.placement.specs.Slots.{slot}
use Rattle.early_task_code.specs.declared.graph.Graph.{Graph}
use Rattle.early_task_code.specs.Machine.{runs}
use Rattle.early_task_code.specs.Progress.{Progress}
use Rattle.cluster.specs.History.{IsCell, call_of, shown_entry}
use Rattle.agreement.specs.Simulation.{Fitting, Simulation, entry_in, field_names, left}
use Rattle.sdg_base.proofs.Ports.{same_port-refl, same_port-other}
use Rattle.agreement.proofs.Invariant.{Spot, IsIn, IsReceiver, IsStart, SameEntry, Agreement}
use Rattle.agreement.proofs.Channels.{one, stepped, stepped_own, stepped_other, bool_cases, port_cases}
use Rattle.agreement.proofs.Moves.{now_after}

-- the cells once the item was taken
abbrev pub AreStepped : Port → Port → Port → Item → State → (Port → Progress) → (Port → Progress) → Type 0
AreStepped own from to out state cells cells' = (p : Port) → cells' p ≡ stepped own from (one to out state) cells p

-- What the item gives, and what the source comes to by the step that is shown.
pub record Advances (class : Class) (graph : Graph) (calls : List Call) (slots : ℕ) (Agrees : Port → Item → CallState → Type 0) (cells : Port → Progress) (now : Source) (own from : Port) (x : Item) (old : CallState) : Type 0 where
  pub to : Port
  pub out : Item
  pub state : State
  pub runs_so : runs graph slots own x (cells own).state ≡ Some (one to out state)
  pub of_call : call_of out ≡ call_of x
  pub new : CallState
  pub agrees : Agrees to out new
  pub start : IsStart calls to out
  pub own_in : IsIn class slots own
  pub to_in : IsReceiver class slots own to
  pub after : Tables
  pub same_fields : field_names after ≡ fields class
  pub tables : (cells' : Port → Progress) → AreStepped own from to out state cells cells' → (field : ℕ) (key : ℤ) → SameEntry cells' slots (now_after now (call_of x) new after) field key
  pub front : (cells' : Port → Progress) → AreStepped own from to out state cells cells' → (cells' port.Front).state ≡ Nothing
  pub legal : steps_from class calls (Some now) (shown_entry own (call_of x)) ≡ Some (now_after now (call_of x) new after)
  pub fewer : left new < left old

-- No item is given to the cell that begins calls.
not_a_start : (class : Class) (calls : List Call) (slots : ℕ) (to : Port) (out : Item) (place : Place) → Fitting class slots to out (state_of place) → IsStart calls to out
not_a_start class calls slots port.Caller out place h = tt
not_a_start class calls slots port.Sink out place h = tt
not_a_start class calls slots port.Join out place h = tt
not_a_start class calls slots (port.Slot f at) out place h = tt
not_a_start class calls slots (port.Inst f n) out place h = tt
not_a_start class calls slots port.Front (item.Start n m args) (AtMark rest variables turns key) h = absurd h
not_a_start class calls slots port.Front (item.Start n m args) (AtEnd outcome) h = absurd h
not_a_start class calls slots port.Front (item.Work n t key turns vars) place h = absurd h
not_a_start class calls slots port.Front (item.Visit n t width turns vars) place h = absurd h
not_a_start class calls slots port.Front (item.Part n t width number turns vars value) place h = absurd h
not_a_start class calls slots port.Front (item.Done n outcome) place h = absurd h

apart : (f s : ℕ) → same_port port.Front (port.Slot f s) ≡ false
apart f s = same_port-other port.Front (port.Slot f s) (λ e. absurd cc)

not_front : (f s : ℕ) → same_port (port.Slot f s) port.Front ≡ false
not_front f s = same_port-other (port.Slot f s) port.Front (λ e. absurd cc)

not_here : (f g s t : ℕ) → same_port (port.Slot f s) (port.Slot g t) ≡ false → f ≡ g → s ≡ t → ⊥
not_here f g s t other e h =
    let yes : same_port (port.Slot f s) (port.Slot g t) ≡ true =
    ap (λ (q : ℕ). same_port (port.Slot f s) (port.Slot q t)) (sym e) ∙ ap (λ (q : ℕ). same_port (port.Slot f s) (port.Slot f q)) (sym h) ∙ same_port-refl (port.Slot f s) in
    absurd cc

rest_below : (n slots : ℕ) → 1 ≤ slots → (n % (2 ^ 64)) / (2 ^ 58) % slots < slots
rest_below n slots some = mod_below ((n % (2 ^ 64)) / (2 ^ 58)) slots some
  where
    mod_below : (m slots : ℕ) → 1 ≤ slots → m % slots < slots
    mod_below m slots some = omega arith

slot_in : (at : ℕ) (key : ℤ) (slots : ℕ) → 1 ≤ slots → at ≡ slot key slots → at < slots
slot_in at key slots some e = let P : ℕ → Type 0 = λ n. n < slots in subst P (sym e) (rest_below (cast_unsigned w64 key * 0x9E3779B97F4A7C15) slots some)

fitting_in : (class : Class) (slots : ℕ) → 1 ≤ slots → (own to : Port) (out : Item) (place : Place) → IsIn class slots own → Fitting class slots to out (state_of place) → IsReceiver class slots own to
fitting_in class slots some own port.Caller out place own_in h = absurd h
fitting_in class slots some own port.Sink out place own_in h = own_in
fitting_in class slots some own port.Front out place own_in h = tt
fitting_in class slots some own port.Join out place own_in h = absurd h
fitting_in class slots some own (port.Inst f n) out place own_in h = absurd h
fitting_in class slots some own (port.Slot f at) (item.Work n t (Some key) turns vars) (AtMark rest variables turns' carried) own_in h = (h.0, slot_in at key slots some h.1)
fitting_in class slots some own (port.Slot f at) (item.Work n t (Some key) turns vars) (AtEnd outcome) own_in h = absurd h
fitting_in class slots some own (port.Slot f at) (item.Work n t None turns vars) place own_in h = absurd h
fitting_in class slots some own (port.Slot f at) (item.Start n m args) place own_in h = absurd h
fitting_in class slots some own (port.Slot f at) (item.Visit n t width turns vars) place own_in h = absurd h
fitting_in class slots some own (port.Slot f at) (item.Part n t width number turns vars value) place own_in h = absurd h
fitting_in class slots some own (port.Slot f at) (item.Done n outcome) place own_in h = absurd h

-- ---- a call begins

begin_legal : (class : Class) (calls : List Call) (now : Source) (n : ℕ) (call : Call) (place : Place) → nth now.calls n ≡ Some Fresh → nth calls n ≡ Some call
    → moved now n (begun class (slice_get (methods class) call.method) call.args now.tables) ≡ Some (now_after now n (state_of place) now.tables)
    → steps_from class calls (Some now) (step.Begin n ∷ []) ≡ Some (now_after now n (state_of place) now.tables)
begin_legal class calls now n call place is_fresh is_call goes =
    ap (λ (o : Option CallState). begins class now n o (nth calls n)) is_fresh ∙ ap (begins class now n (Some Fresh)) is_call ∙ goes

pub advance_begin : (class : Class) (graph : Graph) (calls : List Call) (slots : ℕ) (Fits : Call → Type 0) (Agrees : Port → Item → CallState → Type 0) (cells : Port → Progress) (now : Source) (place : ℕ → Spot) (from : Port) (n m : ℕ) (args : List Val)
    → 1 ≤ slots
    → Simulation class graph slots Fits Agrees
    → ((c : ℕ) (call : Call) → nth calls c ≡ Some call → Fits call)
    → Agreement class calls slots Agrees cells now place
    → nth now.calls n ≡ Some Fresh
    → IsStart calls port.Front (item.Start n m args)
    → Advances class graph calls slots Agrees cells now port.Front from (item.Start n m args) Fresh
advance_begin class graph calls slots Fits Agrees cells now place from n m args some sim fit a is_fresh start =
    let call = start.0 in
    let b = sim.begins n call now.tables (fit n call start.1) in
    record {
      to = b.gives.to;
      out = b.gives.output;
      state = Nothing;
      runs_so =
          ap (λ (y : Item). runs graph slots port.Front y (cells port.Front).state) start.2
          ∙ ap (runs graph slots port.Front (item.Start n call.method call.args)) a.front
          ∙ b.gives.gives;
      of_call = b.gives.of_call;
      new = state_of b.place;
      agrees = b.gives.agrees;
      start = not_a_start class calls slots b.gives.to b.gives.output b.place (sim.fitting b.gives.to b.gives.output (state_of b.place) b.gives.agrees);
      own_in = tt;
      to_in = fitting_in class slots some port.Front b.gives.to b.gives.output b.place tt (sim.fitting b.gives.to b.gives.output (state_of b.place) b.gives.agrees);
      after = now.tables;
      same_fields = a.same_fields;
      tables = λ cells' are field key. (
          let old = a.tables field key in
          record {
            entries = old.entries;
            held = ap (λ (p : Progress). p.state) (are (port.Slot field (slot key slots)) ∙ stepped_other port.Front from (one b.gives.to b.gives.output Nothing) cells (port.Slot field (slot key slots)) (apart field (slot key slots))) ∙ old.held;
            same = old.same;
          });
      front = λ cells' are. ap (λ (p : Progress). p.state) (are port.Front ∙ stepped_own port.Front from (one b.gives.to b.gives.output Nothing) cells port.Front refl);
      legal = begin_legal class calls now n call b.place is_fresh start.1 (ap (moved now n) b.source);
      fewer = b.fewer;
    }

-- ---- a call runs a block

block_legal : (class : Class) (calls : List Call) (now : Source) (n : ℕ) (rest : List BlockItem) (variables : Variables) (turns : ℕ) (carried : Val) (next : Option Source) → nth now.calls n ≡ Some (At rest variables turns carried)
    → goes_on class now n (Some (At rest variables turns carried)) ≡ next
    → steps_from class calls (Some now) (step.Block n None ∷ []) ≡ next
block_legal class calls now n rest variables turns carried next is goes = ap (goes_on class now n) is ∙ goes

-- the slot of this field that holds this key is this one
slot_parts : (f g s t : ℕ) → ◌≡◌ {A = Port} (port.Slot f s) (port.Slot g t) → (f ≡ g) × (s ≡ t)
slot_parts f g s t e = (cc, cc)

same_entries : (state : State) (a b : Entries) → state ≡ OfTable a → state ≡ OfTable b → a ≡ b
same_entries state a b e f = let g : ◌≡◌ {A = State} (OfTable a) (OfTable b) = sym e ∙ f in cc

clash : (k key : ℤ) → int_eq k key ≡ false → int_eq k key ≡ true → ⊥
clash k key e f = absurd cc

key_cases : (k key : ℤ) → (k ≡ key) ⊎ (k ≢ key)
key_cases k key = elim (bool_cases (int_eq k key)) [ inl e ↦ inl ((Decides-int_eq k key).0 e) | inr e ↦ inr (λ same. absurd (clash k key e ((Decides-int_eq k key).1 same))) ]

-- the tables after a block, where the slot's entries changed at the key alone
block_tables : (slots : ℕ) (cells cells' : Port → Progress) (now : Source) (c field at : ℕ) (key : ℤ) (from to : Port) (out : Item) (new : CallState) (after : Tables) (entries entries_after : Entries)
    → at ≡ slot key slots
    → (cells (port.Slot field at)).state ≡ OfTable entries
    → entry_at key entries_after ≡ entry_in after field key
    → ((k : ℤ) → k ≢ key → entry_at k entries_after ≡ entry_at k entries)
    → ((other : ℕ) (k : ℤ) → (other ≡ field → k ≡ key → ⊥) → entry_in after other k ≡ entry_in now.tables other k)
    → AreStepped (port.Slot field at) from to out (OfTable entries_after) cells cells'
    → (f : ℕ) (k : ℤ) → SameEntry cells slots now f k
    → SameEntry cells' slots (now_after now c new after) f k
block_tables slots cells cells' now c field at key from to out new after entries entries_after is_slot held same other_entries other_tables are f k old =
    let own = port.Slot field at in
    let here = port.Slot f (slot k slots) in
    elim (port_cases own here) [
      | inl one_cell ↦
          let parts = slot_parts field f at (slot k slots) one_cell in
          let new_state : (cells' here).state ≡ OfTable entries_after = ap (λ (p : Progress). p.state) (are here ∙ stepped_own own from (one to out (OfTable entries_after)) cells here one_cell) in
          record {
            entries = entries_after;
            held = new_state;
            same = elim (key_cases k key) [
              | inl e ↦ ap (λ (q : ℤ). entry_at q entries_after) e ∙ same ∙ ap (λ (q : ℤ). entry_in after field q) (sym e) ∙ ap (λ (g : ℕ). entry_in after g k) parts.0
              | inr ne ↦
                  let cell_state : (cells here).state ≡ OfTable entries = ap (λ (p : Port). (cells p).state) (sym one_cell) ∙ held in
                  other_entries k ne ∙ ap (entry_at k) (same_entries (cells here).state entries old.entries cell_state old.held) ∙ old.same ∙ sym (other_tables f k (λ _ e. ne e))
            ];
          }
      | inr other ↦ record {
        entries = old.entries;
        held = ap (λ (p : Progress). p.state) (are here ∙ stepped_other own from (one to out (OfTable entries_after)) cells here other) ∙ old.held;
        same = old.same ∙ sym (other_tables f k (λ e g. not_here field f at (slot k slots) other (sym e) (is_slot ∙ ap (λ (q : ℤ). slot q slots) (sym g))));
      }
    ]

pub advance_block : (class : Class) (graph : Graph) (calls : List Call) (slots : ℕ) (Fits : Call → Type 0) (Agrees : Port → Item → CallState → Type 0) (cells : Port → Progress) (now : Source) (place : ℕ → Spot) (from : Port)
    (field at n t : ℕ) (key : ℤ) (turns : ℕ) (vars : List Val) (rest : List BlockItem) (variables : Variables) (turns' : ℕ) (carried : Val)
    → 1 ≤ slots
    → Simulation class graph slots Fits Agrees
    → Agreement class calls slots Agrees cells now place
    → nth now.calls n ≡ Some (At rest variables turns' carried)
    → Agrees (port.Slot field at) (item.Work n t (Some key) turns vars) (At rest variables turns' carried)
    → field < length (fields class)
    → at ≡ slot key slots
    → Advances class graph calls slots Agrees cells now (port.Slot field at) from (item.Work n t (Some key) turns vars) (At rest variables turns' carried)
advance_block class graph calls slots Fits Agrees cells now place from field at n t key turns vars rest variables turns' carried some sim a is_state agrees is_field is_slot =
    let own = port.Slot field at in
    let x = item.Work n t (Some key) turns vars in
    let own_in : IsIn class slots own = (is_field, slot_in at key slots some is_slot) in
    let table = a.tables field key in
    let held : (cells own).state ≡ OfTable table.entries = ap (λ (q : ℕ). (cells (port.Slot field q)).state) is_slot ∙ table.held in
    let b = sim.continues field at n t key turns vars rest variables turns' carried now.tables table.entries agrees a.same_fields table.same in
    record {
      to = b.gives.to;
      out = b.gives.output;
      state = OfTable b.entries_after;
      runs_so = ap (runs graph slots own x) held ∙ b.gives.gives;
      of_call = b.gives.of_call;
      new = state_of b.place;
      agrees = b.gives.agrees;
      start = not_a_start class calls slots b.gives.to b.gives.output b.place (sim.fitting b.gives.to b.gives.output (state_of b.place) b.gives.agrees);
      own_in = own_in;
      to_in = fitting_in class slots some own b.gives.to b.gives.output b.place own_in (sim.fitting b.gives.to b.gives.output (state_of b.place) b.gives.agrees);
      after = b.after;
      same_fields = b.other_tables.same_fields ∙ a.same_fields;
      tables = λ cells' are f k. block_tables slots cells cells' now n field at key from b.gives.to b.gives.output (state_of b.place) b.after table.entries b.entries_after
          is_slot held b.same b.other_entries b.other_tables.others are f k (a.tables f k);
      front = λ cells' are. ap (λ (p : Progress). p.state) (are port.Front ∙ stepped_other own from (one b.gives.to b.gives.output (OfTable b.entries_after)) cells port.Front (not_front field at)) ∙ a.front;
      legal = block_legal class calls now n rest variables turns' carried (Some (now_after now n (state_of b.place) b.after)) is_state (ap (moved now n) b.source);
      fewer = b.fewer;
    }

-- ---- any item

pub advance : (class : Class) (graph : Graph) (calls : List Call) (slots : ℕ) (Fits : Call → Type 0) (Agrees : Port → Item → CallState → Type 0) (cells : Port → Progress) (now : Source) (place : ℕ → Spot) (own from : Port) (x : Item) (state : CallState)
    → 1 ≤ slots
    → Simulation class graph slots Fits Agrees
    → ((c : ℕ) (call : Call) → nth calls c ≡ Some call → Fits call)
    → Agreement class calls slots Agrees cells now place
    → IsCell own
    → nth now.calls (call_of x) ≡ Some state
    → Agrees own x state
    → IsStart calls own x
    → Fitting class slots own x state
    → Advances class graph calls slots Agrees cells now own from x state
advance class graph calls slots Fits Agrees cells now place port.Front from (item.Start n m args) Fresh some sim fit a is_cell is_state agrees start h =
    advance_begin class graph calls slots Fits Agrees cells now place from n m args some sim fit a is_state start
advance class graph calls slots Fits Agrees cells now place (port.Slot field at) from (item.Work n t (Some key) turns vars) (At rest variables turns' carried) some sim fit a is_cell is_state agrees start h =
    advance_block class graph calls slots Fits Agrees cells now place from field at n t key turns vars rest variables turns' carried some sim a is_state agrees h.0 h.1
advance class graph calls slots Fits Agrees cells now place port.Sink from (item.Done n outcome) (Ended outcome') some sim fit a is_cell is_state agrees start h = absurd is_cell
advance class graph calls slots Fits Agrees cells now place own from x state some sim fit a is_cell is_state agrees start h = absurd h
