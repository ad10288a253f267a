-- The lines of a text of calls, one after the other.
use Rattle.std.proofs.Common.{◌≡◌, ℕ, suc, zero, ◌+◌, ◌^◌, ◌<◌, ◌≤◌, Bool, true, false, cond, List, [], ◌∷◌, ◌++◌, length, take, drop, Option, Some, refl, sym, ap, ◌∙◌, subst, arith, add-one, not}
use Rattle.std.specs.Prelude.{slice_get}
use Rattle.std.specs.List.{AllZip}
use Rattle.std.proofs.lemmas.List.{take-take, take_all, append-nil, length-append, length-drop}
use Rattle.std.proofs.lemmas.List.Elements.{filter-append}
use Rattle.std.proofs.lemmas.Slice.Zip.{AllZip-long}
use Rattle.sdg_base.specs.declared.call.Call.{Call}
use Rattle.run_text.specs.declared.entrance.Entrance.{Entrance}
use Rattle.run_text.specs.declared.error.CallRule.{CallRule}
use Rattle.run_text.specs.declared.error.LineError.{LineError}
use Rattle.run_text.specs.declared.error.LineError.TheVariants as e
use Rattle.run_text.specs.Lines.{is_skipped, said_lines}
use Rattle.run_text.specs.Calls.{IsCall, AreCalls, Breaks, BreaksAt, IsRefusal}
use Rattle.run_text.specs.Reading.{IsLeastBreak, error_at}
use Rattle.run_text.proofs.Arguments.{AllZip_push}
use Rattle.run_text.proofs.Rules.{call_breaks_none, slice_get-take}

-- ---- The next line

pub record Next (ls : List (List ℕ)) (i : ℕ) (line : List ℕ) (more : List (List ℕ)) : Type 0 where
  pub here : slice_get ls i ≡ Some line
  pub coming : drop (i + 1) ls ≡ more
  pub gone : take (i + 1) ls ≡ take i ls ++ line ∷ []

pub next : (ls : List (List ℕ)) (i : ℕ) (line : List ℕ) (more : List (List ℕ)) → drop i ls ≡ line ∷ more → Next ls i line more
next [] zero line more h = absurd cc
next [] (suc i) line more h = absurd cc
next (l ∷ ls) zero line more h =
    let same : l ≡ line = cc in
    let rest : ls ≡ more = cc in
    record { here = ap (λ (x : List ℕ). Some x) same; coming = rest; gone = ap (λ (x : List ℕ). x ∷ []) same }
next (l ∷ ls) (suc i) line more h =
    let n = next ls i line more h in
    record { here = n.here; coming = rw add-one (rw add-one at n.coming); gone = rw add-one (ap (λ (xs : List (List ℕ)). l ∷ xs) (rw add-one at n.gone)) }

-- ---- The calls so far

pub said_push : (ls : List (List ℕ)) (line : List ℕ) → said_lines (ls ++ line ∷ []) ≡ said_lines ls ++ cond (not (is_skipped line)) (line ∷ []) []
said_push ls line = filter-append (λ l. not (is_skipped l)) ls (line ∷ [])

pub skip_line : (es : List Entrance) (ls : List (List ℕ)) (line : List ℕ) (calls : List Call) → is_skipped line ≡ true → AreCalls es ls calls → AreCalls es (ls ++ line ∷ []) calls
skip_line es ls line calls skipped so_far =
    let same : said_lines (ls ++ line ∷ []) ≡ said_lines ls = said_push ls line ∙ rw skipped (append-nil (said_lines ls)) in
    record { each = rw same so_far.each; few = so_far.few }

pub add_call : (es : List Entrance) (ls : List (List ℕ)) (line : List ℕ) (calls : List Call) (call : Call) → is_skipped line ≡ false → AreCalls es ls calls → IsCall es line call → length calls < 2 ^ 16 → AreCalls es (ls ++ line ∷ []) (calls ++ call ∷ [])
add_call es ls line calls call said so_far is room =
    let same : said_lines (ls ++ line ∷ []) ≡ said_lines ls ++ line ∷ [] = said_push ls line ∙ rw said refl in
    record { each = rw same (AllZip_push (IsCall es) (said_lines ls) calls line call so_far.each is); few = omega (arith, length-append calls (call ∷ [])) }

pub calls_long : (es : List Entrance) (ls : List (List ℕ)) (calls : List Call) → AreCalls es ls calls → length calls ≡ length (said_lines ls)
calls_long es ls calls h = AllZip-long (IsCall es) (said_lines ls) calls h.each

-- ---- Lines that are calls break no rule.

-- the call of a line, and how many calls come before
pub record CallAt (es : List Entrance) (ls : List (List ℕ)) (calls : List Call) (i : ℕ) (line : List ℕ) : Type 0 where
  pub call : Call
  pub is : IsCall es line call
  pub before : length (said_lines (take i ls)) < length calls

abbrev Each : List Entrance → List ℕ → List (List ℕ) → Bool → List Call → Type 0
Each es l ls b cs = AllZip (IsCall es) (cond (not b) (l ∷ said_lines ls) (said_lines ls)) cs

call_after : (es : List Entrance) (l : List ℕ) (ls : List (List ℕ)) (line : List ℕ) (b : Bool) → is_skipped l ≡ b → is_skipped line ≡ false → ((cs : List Call) (k : ℕ) → AllZip (IsCall es) (said_lines ls) cs → slice_get ls k ≡ Some line → CallAt es ls cs k line)
    → (cs : List Call) (k : ℕ) → Each es l ls b cs → slice_get (l ∷ ls) k ≡ Some line → CallAt es (l ∷ ls) cs k line
call_after es l ls line true s said later cs zero h at = let same : l ≡ line = cc in absurd (let both = sym s ∙ ap is_skipped same ∙ said in cc)
call_after es l ls line true s said later cs (suc k) h at =
    let c = later cs k h at in
    record { call = c.call; is = c.is; before = rw s c.before }
call_after es l ls line false s said later [] k h at = absurd h
call_after es l ls line false s said later (c ∷ cs) zero h at =
    let same : l ≡ line = cc in
    record { call = c; is = subst (λ (x : List ℕ). IsCall es x c) same h.0; before = omega arith }
call_after es l ls line false s said later (c ∷ cs) (suc k) h at =
    let d = later cs k h.1 at in
    record { call = d.call; is = d.is; before = rw s (omega (arith, d.before)) }

call_at : (es : List Entrance) (ls : List (List ℕ)) (calls : List Call) (i : ℕ) (line : List ℕ) → AllZip (IsCall es) (said_lines ls) calls → slice_get ls i ≡ Some line → is_skipped line ≡ false → CallAt es ls calls i line
call_at es [] calls i line each here said = absurd cc
call_at es (l ∷ ls) calls i line each here said = call_after es l ls line (is_skipped l) refl said (λ cs k h at. call_at es ls cs k line h at said) calls i each here

pub calls_break_none : (es : List Entrance) (ls : List (List ℕ)) (calls : List Call) (i : ℕ) (rule : CallRule) → AreCalls es ls calls → ¬ BreaksAt es ls i rule
calls_break_none es ls calls i rule are b =
    let c = call_at es ls calls i b.line are.each b.here b.said in
    call_breaks_none es (length (said_lines (take i ls))) b.line c.call rule c.is (omega (arith, c.before, are.few)) b.broken

-- a break of one of the first lines is one of the text that they make
break_in_front : (es : List Entrance) (ls : List (List ℕ)) (n i : ℕ) (rule : CallRule) → i < n → BreaksAt es ls i rule → BreaksAt es (take n ls) i rule
break_in_front es ls n i rule lt b =
    record { line = b.line; here = slice_get-take n ls i lt ∙ b.here; said = b.said; broken = subst (λ (xs : List (List ℕ)). Breaks es (length (said_lines xs)) b.line rule) (sym (take-take i n ls (omega arith))) b.broken }

-- ---- The first break

abbrev one_line : List ℕ → Option (List ℕ)
one_line l = Some l

pub same_line : (a b : List ℕ) → one_line a ≡ one_line b → a ≡ b
same_line a b h = cc

pub refused : (es : List Entrance) (ls : List (List ℕ)) (i : ℕ) (line : List ℕ) (calls : List Call) (error : LineError) → AreCalls es (take i ls) calls → slice_get ls i ≡ Some line → is_skipped line ≡ false → IsLeastBreak es (length calls) line error → IsRefusal es ls (error_at (i + 1) error)
refused es ls i line calls e.Memory so_far here said least = tt
refused es ls i line calls (e.Breaks rule) so_far here said least =
    let long = calls_long es (take i ls) calls so_far in
    record {
      place = i;
      which = rule;
      number_is = refl;
      rule_is = refl;
      broken = record { line = line; here = here; said = said; broken = subst (λ n. Breaks es n line rule) long least.0 };
      least = λ other lt b.
          let same : b.line ≡ line = same_line b.line line (sym b.here ∙ here) in
          least.1 other lt (subst (λ n. Breaks es n line other) (sym long) (subst (λ (x : List ℕ). Breaks es (length (said_lines (take i ls))) x other) same b.broken));
      first = λ earlier other lt b. calls_break_none es (take i ls) calls earlier other so_far (break_in_front es ls i earlier other lt b);
    }

pub all_lines : (es : List Entrance) (ls : List (List ℕ)) (i : ℕ) (calls : List Call) → drop i ls ≡ [] → AreCalls es (take i ls) calls → AreCalls es ls calls
all_lines es ls i calls none so_far =
    let short : length ls ≤ i = omega (arith, length-drop i ls, ap length none) in
    subst (λ (xs : List (List ℕ)). AreCalls es xs calls) (take_all i ls short) so_far
