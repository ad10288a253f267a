-- Each move of a call in which no access comes before the next mark is the same on other fields, and what is left to run stays so.
use Rattle.std.proofs.Common.{◌≡◌, ℕ, zero, suc, Bool, true, false, ◌&&◌, ◌||◌, List, [], ◌∷◌, replicate, Option, Some, None, refl, sym, ap, ◌∙◌}
use Rattle.sdg_base.specs.declared.val.Outcome.{Outcome}
use Rattle.access_blocks.specs.declared.body.Expression.{Expression}
use Rattle.access_blocks.specs.declared.body.Gather.{Gather}
use Rattle.access_blocks.specs.declared.body.Mark.{Mark}
use Rattle.access_blocks.specs.declared.body.Statement.{Statement, out-Statement}
use Rattle.access_blocks.specs.declared.body.Statement.TheOpen.{Statement-F}
use Rattle.access_blocks.specs.declared.body.Statement.TheOpen as s
use Rattle.access_blocks.specs.declared.body.Statement.TheFolds.{fold_out-Statement, map-Statement}
use Rattle.access_blocks.specs.Expressions.{Calls, Ended as Evaluated, Gives, Ends, is_true, value_of, values_of}
use Rattle.access_blocks.specs.Source.{Frame, Then, Test, Again, CallState, At, Visiting, Move, Moves, Rests, having, spending, standing, left_loop, next_pass, completing, after, entering, at_mark, at_gather, width_of, branch, opening, move_statement, pass, move_test, move}
use Rattle.access_blocks.specs.Statements.{Field, Machine, Completion, Normal, Breaks, Continues, Returns, Halts, Completed, seen_by, with_turns, meaning, meanings}
use Rattle.marked_bodies.proofs.Facts.{both_true, and_true, or_second}
use Rattle.quiet_runs.specs.Quiet.{Quieted, quieting, quieted, quiet_in, opened_in, marks_in, are_quiet, are_bare, frame_is_quiet, frames_are_quiet, state_is_quiet, on_fields, rest_on}
use Rattle.quiet_runs.proofs.Bare.{says, meanings_commute}

abbrev pub moved_on : List Field → Move → Move
moved_on fields (Moves frames m) = Moves frames (on_fields fields m)
moved_on fields (Rests state left) = Rests (rest_on fields state) fields

abbrev pub StaysQuiet : Move → Type 0
StaysQuiet (Moves frames m) = frames_are_quiet frames ≡ true
StaysQuiet (Rests state left) = state_is_quiet state ≡ true

-- a move here, and what it is on other fields
pub record IsKnown (there : List Field → Move) (here : Move) : Type 0 where
  pub others : (fields : List Field) → there fields ≡ moved_on fields here
  pub quiet : StaysQuiet here

-- a move from a machine, by what is done on it
abbrev pub Knows : (Machine → Move) → Machine → Type 0
Knows moving m = IsKnown (λ fields. moving (on_fields fields m)) (moving m)

-- ---- frames

behind : (f : Frame) (frames : List Frame) → frames_are_quiet (f ∷ frames) ≡ true → frames_are_quiet frames ≡ true
behind f frames h = (both_true (frame_is_quiet f) (frames_are_quiet frames) h).1

left_quiet : (frames : List Frame) → frames_are_quiet frames ≡ true → frames_are_quiet (left_loop frames) ≡ true
left_quiet [] h = h
left_quiet (Then ss ∷ frames) h = left_quiet frames (behind (Then ss) frames h)
left_quiet (Test test update body ∷ frames) h = behind (Test test update body) frames h
left_quiet (Again test update body ∷ frames) h = behind (Again test update body) frames h

next_quiet : (frames : List Frame) → frames_are_quiet frames ≡ true → frames_are_quiet (next_pass frames) ≡ true
next_quiet [] h = h
next_quiet (Then ss ∷ frames) h = next_quiet frames (behind (Then ss) frames h)
next_quiet (Test test update body ∷ frames) h = h
next_quiet (Again test update body ∷ frames) h = h

-- ---- completions

completing_others : (c : Completion) (m : Machine) (frames : List Frame) (fields : List Field) → completing c (on_fields fields m) frames ≡ moved_on fields (completing c m frames)
completing_others Normal m frames fields = refl
completing_others Breaks m frames fields = refl
completing_others Continues m frames fields = refl
completing_others (Returns v) m frames fields = refl
completing_others (Halts h) m frames fields = refl

completing_quiet : (c : Completion) (m : Machine) (frames : List Frame) → frames_are_quiet frames ≡ true → StaysQuiet (completing c m frames)
completing_quiet Normal m frames h = h
completing_quiet Breaks m frames h = left_quiet frames h
completing_quiet Continues m frames h = next_quiet frames h
completing_quiet (Returns v) m frames h = refl
completing_quiet (Halts x) m frames h = refl

entering_others : (c : Completion) (m : Machine) (loop : Frame) (frames : List Frame) (fields : List Field) → entering c (on_fields fields m) loop frames ≡ moved_on fields (entering c m loop frames)
entering_others Normal m loop frames fields = refl
entering_others Breaks m loop frames fields = refl
entering_others Continues m loop frames fields = refl
entering_others (Returns v) m loop frames fields = refl
entering_others (Halts h) m loop frames fields = refl

entering_quiet : (c : Completion) (m : Machine) (loop : Frame) (frames : List Frame) → frame_is_quiet loop ≡ true → frames_are_quiet frames ≡ true → StaysQuiet (entering c m loop frames)
entering_quiet Normal m loop frames l h = and_true (frame_is_quiet loop) (frames_are_quiet frames) l h
entering_quiet Breaks m loop frames l h = left_quiet frames h
entering_quiet Continues m loop frames l h = next_quiet frames h
entering_quiet (Returns v) m loop frames l h = refl
entering_quiet (Halts x) m loop frames l h = refl

-- ---- what is evaluated

having_knows : {A : Type 0} (e : Evaluated A) (f : Machine → A → ℕ → Move) (m : Machine) → ((a : A) (turns : ℕ) → Knows (λ n. f n a turns) m)
    → IsKnown (λ fields. having e (on_fields fields m) (f (on_fields fields m))) (having e m (f m))
having_knows (Gives a turns) f m each = each a turns
having_knows (Ends x) f m each = record { others = λ fields. refl; quiet = refl }

spending_knows : (turns : ℕ) (state : ℕ → Machine → CallState) (m : Machine) → ((left : ℕ) → state_is_quiet (state left m) ≡ true) → ((left : ℕ) (fields : List Field) → state left (on_fields fields m) ≡ rest_on fields (state left m))
    → IsKnown (λ fields. spending turns (on_fields fields m) (λ left. Rests (state left (on_fields fields m)) fields)) (spending turns m (λ left. Rests (state left m) m.fields))
spending_knows zero state m quiet each = record { others = λ fields. refl; quiet = refl }
spending_knows (suc left) state m quiet each = record { others = λ fields. ap (λ (x : CallState). Rests x fields) (each left fields); quiet = quiet left }

module _ (calls : Calls) where
  -- ---- marks

  at_mark_knows : (mark : Mark) (key : Option Expression) (block : Statement) (frames : List Frame) (m : Machine) → Knows (at_mark calls mark key block frames) m
  at_mark_knows mark None block frames m = spending_knows m.turns (λ left n. At mark.field None block (standing frames n left)) m (λ left. refl) (λ left fields. refl)
  at_mark_knows mark (Some key) block frames m =
      having_knows (value_of calls key (seen_by m) m.turns) (λ n k turns. spending turns n (λ left. Rests (At mark.field (Some k) block (standing frames n left)) n.fields)) m
      (λ k turns. spending_knows turns (λ left n. At mark.field (Some k) block (standing frames n left)) m (λ left. refl) (λ left fields. refl))

  at_gather_knows : (g : Gather) (frames : List Frame) (m : Machine) → frames_are_quiet frames ≡ true → Knows (at_gather calls g frames) m
  at_gather_knows g frames m h =
      let parts : ℕ → List (Option Outcome) = λ n. replicate n None in
      having_knows (values_of calls g.args (seen_by m) m.turns)
      (λ n args turns. spending turns n (λ left. Rests (Visiting g.field g.method args (parts (width_of g.field n.fields)) (standing frames n left)) n.fields)) m
      (λ args turns. spending_knows turns (λ left n. Visiting g.field g.method args (parts (width_of g.field n.fields)) (standing frames n left)) m (λ left. h) (λ left fields. refl))

  -- ---- statements

  abbrev quiets : Statement-F Statement → Statement-F Quieted
  quiets = map-Statement Statement Quieted quieted

  quieted_is : (st : Statement) (y : Statement-F Statement) → out-Statement st ≡ y → quieted st ≡ quieting (quiets y)
  quieted_is st y is = fold_out-Statement Quieted quieting st ∙ ap (λ (z : Statement-F Statement). quieting (quiets z)) is

  after_knows : (st : Statement) (frames : List Frame) (m : Machine) → (quieted st).bare ≡ true → frames_are_quiet frames ≡ true → Knows (λ n. after (meaning calls st n) frames) m
  after_knows st frames m bare h =
      let c = meaning calls st m in
      record {
        others = λ fields. ap (λ (d : Completed). after d frames) (says calls st bare m fields) ∙ completing_others c.completion c.machine frames fields;
        quiet = completing_quiet c.completion c.machine frames h;
      }

  entering_knows : (ss : List Statement) (loop : Frame) (frames : List Frame) (m : Machine) → are_bare ss ≡ true → frame_is_quiet loop ≡ true → frames_are_quiet frames ≡ true
      → Knows (λ n. entering (meanings calls ss n).completion (meanings calls ss n).machine loop frames) m
  entering_knows ss loop frames m bare l h =
      let c = meanings calls ss m in
      record {
        others = λ fields. ap (λ (d : Completed). entering d.completion d.machine loop frames) (meanings_commute calls ss bare m fields) ∙ entering_others c.completion c.machine loop frames fields;
        quiet = entering_quiet c.completion c.machine loop frames l h;
      }

  branch_quiet : (holds : Bool) (first : Statement) → (quieted first).quiet ≡ true → are_quiet (branch holds first None) ≡ true
  branch_quiet true first h = and_true (quieted first).quiet ((quieted first).marks || true) h (or_second (quieted first).marks true refl)
  branch_quiet false first h = refl

  branch_of_two_quiet : (holds : Bool) (first second : Statement) → (quieted first).quiet ≡ true → (quieted second).quiet ≡ true → are_quiet (branch holds first (Some second)) ≡ true
  branch_of_two_quiet true first second h k = and_true (quieted first).quiet ((quieted first).marks || true) h (or_second (quieted first).marks true refl)
  branch_of_two_quiet false first second h k = and_true (quieted second).quiet ((quieted second).marks || true) k (or_second (quieted second).marks true refl)

  opening_knows : (st : Statement) (y : Statement-F Statement) (frames : List Frame) (m : Machine) → quieted st ≡ quieting (quiets y) → opened_in (quiets y) ≡ true → frames_are_quiet frames ≡ true
      → Knows (opening calls st y frames) m
  opening_knows st (s.Block items) frames m is o h = record { others = λ fields. refl; quiet = and_true (are_quiet items) (frames_are_quiet frames) o h }
  opening_knows st (s.If test first None) frames m is o h =
      let both = both_true (quieted first).quiet true o in
      having_knows (value_of calls test (seen_by m) m.turns) (λ n holds turns. Moves (Then (branch (is_true holds) first None) ∷ frames) (with_turns turns n)) m (λ holds turns.
      record { others = λ fields. refl; quiet = and_true (are_quiet (branch (is_true holds) first None)) (frames_are_quiet frames) (branch_quiet (is_true holds) first both.0) h })
  opening_knows st (s.If test first (Some second)) frames m is o h =
      let both = both_true (quieted first).quiet (quieted second).quiet o in
      having_knows (value_of calls test (seen_by m) m.turns) (λ n holds turns. Moves (Then (branch (is_true holds) first (Some second)) ∷ frames) (with_turns turns n)) m (λ holds turns. record {
        others = λ fields. refl;
        quiet = and_true (are_quiet (branch (is_true holds) first (Some second))) (frames_are_quiet frames) (branch_of_two_quiet (is_true holds) first second both.0 both.1) h;
      })
  opening_knows st (s.Loop start test update body) frames m is o h =
      let both = both_true (are_bare start) (are_bare update && (quieted body).quiet) o in
      entering_knows start (Test test update body) frames m both.0 both.1 h
  opening_knows st y frames m is o h = after_knows st frames m (ap (λ (q : Quieted). q.bare) is ∙ o) h

  statement_knows : (st : Statement) (y : Statement-F Statement) (ss : List Statement) (frames : List Frame) (m : Machine) → quieted st ≡ quieting (quiets y) → quiet_in (quiets y) ≡ true
      → (marks_in (quiets y) || are_quiet ss) ≡ true → frames_are_quiet frames ≡ true → Knows (move_statement calls st y (Then ss ∷ frames)) m
  statement_knows st (s.Marked mark block) ss frames m is q r h = at_mark_knows mark mark.key block (Then ss ∷ frames) m
  statement_knows st (s.Gather g) ss frames m is q r h = at_gather_knows g (Then ss ∷ frames) m (and_true (are_quiet ss) (frames_are_quiet frames) r h)
  statement_knows st (s.Opened body) ss frames m is q r h =
      let its = quieted_is body (out-Statement body) refl in
      opening_knows body (out-Statement body) (Then ss ∷ frames) m its (sym (ap (λ (x : Quieted). x.opened) its) ∙ q) (and_true (are_quiet ss) (frames_are_quiet frames) r h)
  statement_knows st y ss frames m is q r h = after_knows st (Then ss ∷ frames) m (ap (λ (x : Quieted). x.bare) is ∙ q) (and_true (are_quiet ss) (frames_are_quiet frames) r h)

  -- ---- loops

  pass_knows : (holds : Bool) (test : Option Expression) (update : List Statement) (body : Statement) (frames : List Frame) (turns : ℕ) (m : Machine) → frame_is_quiet (Again test update body) ≡ true
      → frames_are_quiet frames ≡ true → Knows (pass holds test update body frames turns) m
  pass_knows true test update body frames zero m l h = record { others = λ fields. refl; quiet = refl }
  pass_knows true test update body frames (suc left) m l h =
      let both = both_true (are_bare update) (quieted body).quiet l in
      let one : are_quiet (body ∷ []) ≡ true = and_true (quieted body).quiet ((quieted body).marks || true) both.1 (or_second (quieted body).marks true refl) in
      let rest : frames_are_quiet (Again test update body ∷ frames) ≡ true = and_true (are_bare update && (quieted body).quiet) (frames_are_quiet frames) l h in
      record { others = λ fields. refl; quiet = and_true (are_quiet (body ∷ [])) (frames_are_quiet (Again test update body ∷ frames)) one rest }
  pass_knows false test update body frames turns m l h = record { others = λ fields. refl; quiet = h }

  move_test_knows : (test : Option Expression) (update : List Statement) (body : Statement) (frames : List Frame) (m : Machine) → frame_is_quiet (Test test update body) ≡ true
      → frames_are_quiet frames ≡ true → Knows (move_test calls test update body frames) m
  move_test_knows None update body frames m l h = pass_knows true None update body frames m.turns m l h
  move_test_knows (Some test) update body frames m l h =
      having_knows (value_of calls test (seen_by m) m.turns) (λ n holds turns. pass (is_true holds) (Some test) update body frames turns n) m
      (λ holds turns. pass_knows (is_true holds) (Some test) update body frames turns m l h)

  pub move_knows : (frames : List Frame) (m : Machine) → frames_are_quiet frames ≡ true → Knows (move calls frames) m
  move_knows [] m h = record { others = λ fields. refl; quiet = refl }
  move_knows (Then [] ∷ frames) m h = record { others = λ fields. refl; quiet = h }
  move_knows (Then (st ∷ ss) ∷ frames) m h =
      let both = both_true ((quieted st).quiet && ((quieted st).marks || are_quiet ss)) (frames_are_quiet frames) h in
      let its = both_true (quieted st).quiet ((quieted st).marks || are_quiet ss) both.0 in
      let is = quieted_is st (out-Statement st) refl in
      statement_knows st (out-Statement st) ss frames m is (sym (ap (λ (x : Quieted). x.quiet) is) ∙ its.0) (sym (ap (λ (x : Quieted). x.marks || are_quiet ss) is) ∙ its.1) both.1
  move_knows (Test test update body ∷ frames) m h =
      let both = both_true (frame_is_quiet (Test test update body)) (frames_are_quiet frames) h in move_test_knows test update body frames m both.0 both.1
  move_knows (Again test update body ∷ frames) m h =
      let both = both_true (frame_is_quiet (Again test update body)) (frames_are_quiet frames) h in
      let its = both_true (are_bare update) (quieted body).quiet both.0 in
      entering_knows update (Test test update body) frames m its.0 both.0 both.1
