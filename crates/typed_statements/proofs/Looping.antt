-- A loop is typed where its header and its body are: what holds before the first pass holds before each, and the standing behind
-- is the one before.
use Rattle.std.proofs.Common.{◌≡◌, ℕ, ◌≤◌, true, false, List, ◌++◌, length, map, Option, Some, None, refl, sym, ap, subst, ◌∙◌, arith}
use Rattle.java_types.specs.declared.statements.Around.{Around}
use Rattle.java_types.specs.Statements.{in_loop}
use Rattle.access_blocks.specs.declared.body.Expression.{Expression}
use Rattle.access_blocks.specs.declared.body.Statement.{Statement}
use Rattle.access_blocks.specs.declared.body.Statement.TheVariants as statement
use Rattle.access_blocks.specs.declared.body.Statement.TheOpen as s
use Rattle.access_blocks.specs.declared.body.Statement.TheFolds.{fold-roll-Statement}
use Rattle.body_code.specs.Checking.{Surroundings, Checking, Standing, Around as Exits, outside, next, if_so, is_condition, ends_as, passing, looping, after_compound}
use Rattle.body_code.specs.Early.{Assigned, assigned_step, assigned_in, early_after, is_in}
use Rattle.marked_bodies.specs.Unmarked.{unmarked, unmarked_step, unmarked_list, behind}
use Rattle.typed_statements.specs.Points.{Setting, Point, place_at, Knows}
use Rattle.typed_statements.specs.Checks.{Ready, Checked, Typed, AllTyped, AssignBelow, all_assigned}
use Rattle.typed_statements.proofs.Early.{seen_after, early_first, early_second, AllBelow, seen_below}
use Rattle.typed_statements.proofs.Standings.{longer, at_most, less_than, all_below, below_both}
use Rattle.typed_statements.proofs.Jumping.{and_both, covered, none_waits}
use Rattle.typed_statements.proofs.Closing.{closed_knows}
use Rattle.typed_statements.proofs.Blocks.{Closing}
use Rattle.typed_statements.proofs.Braces.{checks_as}

-- ---- what is checked and assigned of a loop

abbrev looped : Surroundings → List Statement → Option Expression → List Statement → Statement → Checking
looped around start test update body exits st =
    behind st (looping around (map (unmarked around) start) test (map (unmarked around) update) (unmarked around body) exits (outside st))

loop_checked : (around : Surroundings) (start : List Statement) (test : Option Expression) (update : List Statement) (body : Statement)
    → unmarked around (statement.Loop start test update body) ≡ looped around start test update body
loop_checked around start test update body =
    ap (unmarked around) (sym (statement.rolls-Loop start test update body)) ∙ fold-roll-Statement Checking (unmarked_step around) (s.Loop start test update body)

loop_assigns : (start : List Statement) (test : Option Expression) (update : List Statement) (body : Statement)
    → assigned_in (statement.Loop start test update body) ≡ all_assigned start ++ (all_assigned update ++ assigned_in body)
loop_assigns start test update body =
    ap assigned_in (sym (statement.rolls-Loop start test update body)) ∙ fold-roll-Statement (List Assigned) assigned_step (s.Loop start test update body)

-- ---- the parts of a loop

-- in no block, with nothing gathered
pub record IsBare (st : Standing) : Type 0 where
  pub no_field : st.field ≡ None
  pub no_gathered : st.gathered ≡ None

-- `break` and `continue` lead nowhere in a header
abbrev pub in_head : Around → Around
in_head a = record { result = a.result; in_loop = false }

-- The start, the test, the update and the body of a loop, and the points between them; nothing waits there, and behind the start
-- no more names come into scope.
pub record Turns (k : Setting) (a : Around) (at begun tested ready ended : Point) (start : List Statement) (test : Option Expression) (update : List Statement) (body : Statement) : Type 0 where
  pub starts : AllTyped k (in_head a) at begun start
  pub bare : (exits : Exits) (st after : Standing) → IsBare st → unmarked_list k.around start exits st ≡ Some after → IsBare after
  pub holds : (st : Standing) → Knows (place_at k begun) st → is_condition k.around st test ≡ true
  pub longer_tested : length begun.cursor.variables ≤ length tested.cursor.variables
  pub known_tested : (st : Standing) → Knows (place_at k begun) st → Knows (place_at k tested) st
  pub updates : AllTyped k (in_head a) tested ready update
  pub known_ready : (st : Standing) → Knows (place_at k begun) st → Knows (place_at k ready) st
  pub runs_body : Typed k (in_loop a) ready ended body
  pub none_at : at.marks.awaited ≡ None
  pub none_tested : tested.marks.awaited ≡ None
  pub none_ready : ready.marks.awaited ≡ None

module _ (k : Setting) (a : Around) (at begun tested ready ended : Point) (start : List Statement) (test : Option Expression) (update : List Statement) (body : Statement)
    (t : Turns k a at begun tested ready ended start test update body) where
  abbrev starting : List Assigned
  starting = all_assigned start

  abbrev updating : List Assigned
  updating = all_assigned update

  abbrev all : List Assigned
  all = starting ++ (updating ++ assigned_in body)

  -- ---- before the first pass

  abbrev First : Standing → List ℕ → Type 0
  First st seen = Checked k begun st (unmarked_list k.around start None (outside st))

  first : (st : Standing) (exits : Exits) (seen : List ℕ) → Ready k a at st exits seen all → First st seen
  first st exits seen r =
      let c = t.starts.checked (outside st) None seen (record {
        knows = r.knows;
        waits = none_waits k at (outside st) t.none_at;
        leads = λ e. absurd (cc);
        are_seen = r.are_seen;
        early = λ v e. r.early v (early_first seen starting (updating ++ assigned_in body) v e);
      }) in
      record { after = c.after; is = c.is; keeps = c.keeps; knows = c.knows; waits = c.waits }

  seen_begun : (st : Standing) (exits : Exits) (seen : List ℕ) → Ready k a at st exits seen all → AllBelow (length tested.cursor.variables) (seen_after seen starting)
  seen_begun st exits seen r =
      seen_below (length tested.cursor.variables) seen starting (λ v e. less_than v _ _ (r.are_seen v e) (at_most _ _ _ t.starts.longer t.longer_tested))
      (all_below _ _ t.longer_tested starting t.starts.below)

  known_after : (st entry : Standing) (exits : Exits) (seen : List ℕ) → Ready k a at st exits seen all → ((v : ℕ) → is_in v st.known ≡ true → is_in v entry.known ≡ true)
      → (v : ℕ) → is_in v (early_after (seen_after seen starting) (updating ++ assigned_in body)) ≡ true → is_in v entry.known ≡ true
  known_after st entry exits seen r keeps v e = keeps v (r.early v (early_second seen starting (updating ++ assigned_in body) v e))

  -- ---- a pass

  update_ends : (st entry : Standing) (exits : Exits) (seen : List ℕ) → Ready k a at st exits seen all → ((v : ℕ) → is_in v st.known ≡ true → is_in v entry.known ≡ true)
      → Knows (place_at k begun) entry → Checked k ready entry (unmarked_list k.around update None entry)
  update_ends st entry exits seen r keeps knows =
      t.updates.checked entry None (seen_after seen starting) (record {
        knows = t.known_tested entry knows;
        waits = none_waits k tested entry t.none_tested;
        leads = λ e. absurd (cc);
        are_seen = seen_begun st exits seen r;
        early = λ v e. known_after st entry exits seen r keeps v (early_first (seen_after seen starting) updating (assigned_in body) v e);
      })

  body_ends : (st entry : Standing) (exits : Exits) (seen : List ℕ) → Ready k a at st exits seen all → ((v : ℕ) → is_in v st.known ≡ true → is_in v entry.known ≡ true)
      → Knows (place_at k begun) entry → IsBare entry → Checked k ended entry (unmarked k.around body (Some entry) entry)
  body_ends st entry exits seen r keeps knows bare =
      t.runs_body.checked entry (Some entry) (seen_after (seen_after seen starting) updating) (record {
        knows = t.known_ready entry knows;
        waits = none_waits k ready entry t.none_ready;
        leads = λ e. record { need = entry; is = refl; no_field = bare.no_field; no_gathered = bare.no_gathered; known = λ v e. e };
        are_seen = seen_below (length ready.cursor.variables) (seen_after seen starting) updating (λ v e. less_than v _ _ (seen_begun st exits seen r v e) t.updates.longer) t.updates.below;
        early = λ v e. known_after st entry exits seen r keeps v (early_second (seen_after seen starting) updating (assigned_in body) v e);
      })

  ends : (to : Point) (entry : Standing) (o : Option Standing) → IsBare entry → Checked k to entry o → ends_as entry o ≡ true
  ends to entry o bare c = ap (ends_as entry) c.is ∙ covered c.after entry bare.no_field bare.no_gathered c.keeps

  passes : (st entry : Standing) (exits : Exits) (seen : List ℕ) → Ready k a at st exits seen all → ((v : ℕ) → is_in v st.known ≡ true → is_in v entry.known ≡ true)
      → Knows (place_at k begun) entry → IsBare entry
      → passing k.around (outside st) test (map (unmarked k.around) update) (unmarked k.around body) entry ≡ Some (after_compound (outside st) entry)
  passes st entry exits seen r keeps knows bare =
      ap (λ b. if_so b (after_compound (outside st) entry))
      (and_both (is_condition k.around entry test) _ (t.holds entry knows)
      (and_both (ends_as entry (unmarked k.around body (Some entry) entry)) _ (ends ended entry _ bare (body_ends st entry exits seen r keeps knows bare))
      (ends ready entry _ bare (update_ends st entry exits seen r keeps knows))))

  runs : (st : Standing) (exits : Exits) (seen : List ℕ) → Ready k a at st exits seen all → looped k.around start test update body exits st ≡ Some (outside st)
  runs st exits seen r =
      let c = first st exits seen r in
      let bare = t.bare None (outside st) c.after (record { no_field = refl; no_gathered = refl }) c.is in
      ap (λ o. behind st (next (passing k.around (outside st) test (map (unmarked k.around) update) (unmarked k.around body)) o)) c.is
      ∙ ap (behind st) (passes st c.after exits seen r c.keeps c.knows bare)

  -- ---- behind the loop

  assigns_below : (to : Point) → length ended.cursor.variables ≤ length to.cursor.variables → AssignBelow (length to.cursor.variables) all
  assigns_below to e =
      let n = length to.cursor.variables in
      let from_ready : length ready.cursor.variables ≤ n = at_most _ _ _ t.runs_body.longer e in
      let from_begun : length begun.cursor.variables ≤ n = at_most _ _ _ (at_most _ _ _ t.longer_tested t.updates.longer) from_ready in
      below_both n starting (updating ++ assigned_in body) (all_below _ n from_begun starting t.starts.below)
      (below_both n updating (assigned_in body) (all_below _ n from_ready updating t.updates.below) (all_below _ n e (assigned_in body) t.runs_body.below))

  pub loop_typed : (to : Point) → Closing k at ended to → to.marks.awaited ≡ None → Typed k a at to (statement.Loop start test update body)
  loop_typed to c none_behind = checks_as k a at to (loop_checked k.around start test update body) (loop_assigns start test update body) (record {
    longer = longer c.closes.variables;
    below = assigns_below to (subst (λ d. length ended.cursor.variables ≤ length d.variables) (sym c.same_cursor) (not_more (length ended.cursor.variables)));
    checked = λ st exits seen r. record {
      after = outside st;
      is = runs st exits seen r;
      keeps = λ v e. e;
      knows = closed_knows k at to c.begins c.closes (outside st) r.knows;
      waits = none_waits k to (outside st) none_behind;
    };
  })
    where
      not_more : (n : ℕ) → n ≤ n
      not_more n = grind (arith)
