-- One event more keeps what leads to a world, and what it changes of it.
use Rattle.std.proofs.Common.{◌≡◌, ◌≢◌, ℕ, zero, suc, ◌+◌, ◌-◌, ◌<◌, ◌≤◌, Bool, true, false, if◌then◌else◌, List, [], ◌∷◌, ◌++◌, length, Option, Some, slice_get, refl, ap, ◌∙◌, sym, subst, arith, length-append}
use Rattle.std.specs.List.{AllByRecursion, filter_map, cons_option}
use Rattle.std.proofs.lemmas.List.{append-nil}
use Rattle.std.proofs.lemmas.List.Elements.{filter_map-append}
use Rattle.std.proofs.lemmas.Option.{slice_get_within}
use Rattle.sdg_base.specs.declared.port.Port.{Port}
use Rattle.sdg_base.specs.declared.port.Port.TheVariants as port
use Rattle.sdg_base.specs.declared.item.Item.{Item}
use Rattle.sdg_base.specs.declared.item.Item.TheVariants as item
use Rattle.sdg_base.specs.declared.val.Outcome.{Outcome}
use Rattle.sdg_base.specs.Ports.{same_port}
use Rattle.early_task_code.specs.Progress.{Taken, Progress, progress_after}
use Rattle.cluster.specs.History.{Setup, Took, after_entry, at_start, IsCell}
use Rattle.cluster.specs.World.{World, first_world, cell, next_item, entry, with_entry, committed, next_result, with_commit, result_in, result_of, results_of, last_step}
use Rattle.cluster.specs.Standing.{IsReady, IsReached, IsGiven}
use Rattle.cluster.proofs.Lists.{all_append, all_of}
use Rattle.sdg_base.proofs.Ports.{same_port-true}
use Rattle.cluster.proofs.Histories.{after_all-push, IsHistoryFrom-push, after_cases}
use Rattle.cluster.proofs.Along.{Along, along}

-- ---- the start

-- no call goes wrong, so far
pub first_reached : (s : Setup) → IsReached s first_world
first_reached s = record { history = tt; next_step = refl; in_range = omega arith; given = tt; in_turn = λ from. omega arith }

-- what is known of the ports of a world
pub known : (s : Setup) (w : World) → IsReady s → IsReached s w → Along s (length w.hist) (λ p. cell s w p)
known s w ready reached = along s w.hist ready.safe reached.history

-- ---- a take

-- what a port has come to after a take
pub cell-with_entry : (s : Setup) (w : World) (to from : Port) (pick : ℕ) (x : Item) (p : Port)
    → cell s (with_entry s w to from pick x) p ≡ after_entry s (entry s w to from pick x) (λ q. cell s w q) p
cell-with_entry s w to from pick x p = after_all-push s (at_start s.calls) w.hist (Took (entry s w to from pick x)) p

-- what was given before is given after
pub record Grows (old new : Progress) : Type 0 where
  pub more : Port → List Item
  pub gave : (to : Port) → new.gave to ≡ old.gave to ++ more to

grows_none : (now : Progress) → Grows now now
grows_none now = record { more = λ to. []; gave = λ to. sym (append-nil (now.gave to)) }

grows_own : (s : Setup) (e : Taken) (now : Progress) → Grows now (progress_after s.graph s.header.slots e now)
grows_own s e now = record { more = λ to. _; gave = λ to. refl }

pub grows : (s : Setup) (w : World) (to from : Port) (pick : ℕ) (x : Item) (p : Port) → Grows (cell s w p) (cell s (with_entry s w to from pick x) p)
grows s w to from pick x p =
    let e = entry s w to from pick x in
    let P : Progress → Type 0 = λ now. Grows (cell s w p) now in
    subst P (sym (cell-with_entry s w to from pick x p))
    (after_cases P s e (λ q. cell s w q) p (λ _. grows_own s e (cell s w p)) (λ _. grows_none (cell s w p)))

grown-length : (old new : Progress) → Grows old new → (to : Port) → length (old.gave to) ≤ length (new.gave to)
grown-length old new g to = let long : length (new.gave to) ≡ length (old.gave to) + length (g.more to) = ap length (g.gave to) ∙ length-append (old.gave to) (g.more to) in omega arith

pub reached-with_entry : (s : Setup) (w : World) (to from : Port) (pick : ℕ) (x : Item) → IsCell to → w.next_step ≢ last_step → next_item s w to from ≡ Some x → IsReached s w
    → IsReached s (with_entry s w to from pick x)
reached-with_entry s w to from pick x is_cell goes_on is reached = record {
  history = IsHistoryFrom-push s (at_start s.calls) w.hist (Took (entry s w to from pick x)) reached.history (record { is_cell = is_cell; next = refl; given = is });
  next_step = (let n : w.next_step ≡ length w.hist + 1 = reached.next_step in rw length-append (omega arith));
  in_range = (let r : w.next_step ≤ last_step = reached.in_range in omega arith);
  given =
      all_of (IsGiven s w) (IsGiven s (with_entry s w to from pick x)) w.commits
      (λ (c : Port × ℕ) (g : IsGiven s w c).
      let longer : length ((cell s w c.0).gave port.Sink) ≤ length ((cell s (with_entry s w to from pick x) c.0).gave port.Sink) = grown-length _ _ (grows s w to from pick x c.0) port.Sink in
      let within : c.1 ≤ length ((cell s w c.0).gave port.Sink) = g.1 in
      (g.0, omega arith))
      reached.given;
  in_turn = λ p.
      (let longer : length ((cell s w p).gave port.Sink) ≤ length ((cell s (with_entry s w to from pick x) p).gave port.Sink) = grown-length _ _ (grows s w to from pick x p) port.Sink in
      let before : committed p w.commits ≤ length ((cell s w p).gave port.Sink) = reached.in_turn p in
      omega arith);
}

-- ---- results stay

below_append : {A : Type 0} (xs ys : List A) (i : ℕ) → i < length xs → slice_get (xs ++ ys) i ≡ slice_get xs i
below_append [] ys i l = absurd (omega arith)
below_append (x ∷ xs) ys zero l = refl
below_append (x ∷ xs) ys (suc i) l = below_append xs ys i (omega arith)

result_stays : (s : Setup) (w : World) (to from : Port) (pick : ℕ) (x : Item) (c : Port × ℕ) → IsGiven s w c → result_of s (with_entry s w to from pick x) c ≡ result_of s w c
result_stays s w to from pick x c given =
    let g = grows s w to from pick x c.0 in
    let some : 1 ≤ c.1 = given.0 in
    let within : c.1 ≤ length ((cell s w c.0).gave port.Sink) = given.1 in
    ap (λ items. result_in (slice_get items (c.1 - 1))) (g.gave port.Sink)
    ∙ ap result_in (below_append ((cell s w c.0).gave port.Sink) (g.more port.Sink) (c.1 - 1) (omega arith))

filter_map_same : {A B : Type 0} (f g : A → Option B) (P : A → Type 0) → ((x : A) → P x → f x ≡ g x) → (xs : List A) → AllByRecursion P xs → filter_map f xs ≡ filter_map g xs
filter_map_same f g P same [] all = refl
filter_map_same {A} {B} f g P same (x ∷ xs) all =
    ap (λ o. cons_option o (filter_map f xs)) (same x all.0) ∙ ap (λ rest. cons_option (g x) rest) (filter_map_same f g P same xs all.1)

pub results-with_entry : (s : Setup) (w : World) (to from : Port) (pick : ℕ) (x : Item) → IsReached s w → results_of s (with_entry s w to from pick x) ≡ results_of s w
results-with_entry s w to from pick x reached =
    filter_map_same (result_of s (with_entry s w to from pick x)) (result_of s w) (IsGiven s w) (λ (c : Port × ℕ) (g : IsGiven s w c). result_stays s w to from pick x c g) w.commits reached.given

-- ---- a commit

-- one more of a port, or of another
one_more : (b c : Bool) (n m : ℕ) → m ≡ (if c then n + 1 else n) → (if b then m + 1 else m) ≡ (if c then (if b then n + 1 else n) + 1 else (if b then n + 1 else n))
one_more true true n m e = ap (λ k. k + 1) e
one_more true false n m e = ap (λ k. k + 1) e
one_more false true n m e = e
one_more false false n m e = e

pub committed-push : (p from : Port) (n : ℕ) (commits : List (Port × ℕ)) → committed p (commits ++ (from, n) ∷ []) ≡ (if same_port from p then committed p commits + 1 else committed p commits)
committed-push p from n [] = refl
committed-push p from n (c ∷ commits) = one_more (same_port c.0 p) (same_port from p) (committed p commits) (committed p (commits ++ (from, n) ∷ [])) (committed-push p from n commits)

one_more_fits : (b : Bool) (n m : ℕ) → (b ≡ true → n < m) → n ≤ m → (if b then n + 1 else n) ≤ m
one_more_fits true n m own other = let below : n < m = own refl in omega arith
one_more_fits false n m own other = other

pub reached-with_commit : (s : Setup) (w : World) (from : Port) (x : Item) → next_result s w from ≡ Some x → IsReached s w → IsReached s (with_commit w from)
reached-with_commit s w from x is reached =
    let l : committed from w.commits < length ((cell s w from).gave port.Sink) = slice_get_within ((cell s w from).gave port.Sink) (committed from w.commits) x is in
    record {
      history = reached.history;
      next_step = reached.next_step;
      in_range = reached.in_range;
      given = all_append (IsGiven s w) w.commits _ reached.given (((omega arith), (omega arith)), tt);
      in_turn = λ p.
          (let P : ℕ → Type 0 = λ n. n ≤ length ((cell s w p).gave port.Sink) in
          let Q : Port → Type 0 = λ q. committed q w.commits < length ((cell s w q).gave port.Sink) in
          subst P (sym (committed-push p from (committed from w.commits + 1) w.commits))
          (one_more_fits (same_port from p) (committed p w.commits) (length ((cell s w p).gave port.Sink)) (λ (own : same_port from p ≡ true). subst Q (same_port-true from p own) l) (reached.in_turn p)));
    }

pub results-with_commit : (s : Setup) (w : World) (from : Port) (call : ℕ) (outcome : Outcome) → next_result s w from ≡ Some (item.Done call outcome)
    → results_of s (with_commit w from) ≡ results_of s w ++ (call, outcome) ∷ []
results-with_commit s w from call outcome is =
    let number : committed from w.commits + 1 - 1 ≡ committed from w.commits = omega arith in
    let this : result_of s w (from, committed from w.commits + 1) ≡ Some (call, outcome) =
    ap (λ i. result_in (slice_get ((cell s w from).gave port.Sink) i)) number ∙ ap result_in is in
    filter_map-append (result_of s w) w.commits ((from, committed from w.commits + 1) ∷ [])
    ∙ ap (λ o. results_of s w ++ cons_option o []) this
