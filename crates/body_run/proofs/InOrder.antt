-- Arguments one after the other.
use Rattle.std.proofs.Common.{◌≡◌, ℕ, ◌+◌, ◌<◌, List, [], ◌∷◌, ◌++◌, length, drop, get_or, refl, ap, sym, ◌∙◌, append_assoc, add-one, drop-cons}
use Rattle.sdg_base.specs.declared.val.Val.{Val}
use Rattle.access_blocks.specs.declared.body.Expression.{Expression}
use Rattle.access_blocks.specs.declared.halt.Halt.{Halt}
use Rattle.access_blocks.specs.Expressions.{Ended, Gives, Ends, Calls, Seen, followed, value_of, values_of}
use Rattle.body_run.specs.declared.stop.Stop.{Stop}
use Rattle.body_run.specs.declared.stop.Stop.TheVariants as stop
use Rattle.body_run.specs.Seen.{Stops}

-- what is given with others before it
abbrev pub behind : {A : Type 0} → List A → Ended (List A) → Ended (List A)
behind xs (Gives ys turns) = Gives (xs ++ ys) turns
behind xs (Ends h) = Ends h

one_more : {A : Type 0} (xs : List A) (x : A) (e : Ended (List A)) → behind xs (followed e (λ ys turns. Gives (x ∷ ys) turns)) ≡ behind (xs ++ x ∷ []) e
one_more xs x (Gives ys turns) = ap (λ all. Gives all turns) (sym (append_assoc xs (x ∷ []) ys))
one_more xs x (Ends h) = refl

abbrev with_first : Ended Val → (ℕ → Ended (List Val)) → Ended (List Val)
with_first e others = followed e (λ v left. followed (others left) (λ vs rest. Gives (v ∷ vs) rest))

rest_of : (calls : Calls) (xs : List Expression) (i : ℕ) (x : Expression) (seen : Seen) (turns : ℕ) → i < length xs → x ≡ get_or xs i x
    → values_of calls (drop i xs) seen turns ≡ with_first (value_of calls x seen turns) (values_of calls (drop (i + 1) xs) seen)
rest_of calls xs i x seen turns within is = rw (add-one, drop-cons xs i x, ← is) refl

pub given_more : (calls : Calls) (xs : List Expression) (i : ℕ) (x : Expression) (seen : Seen) (left rest : ℕ) (v : Val) (vs : List Val) (all : Ended (List Val))
    → i < length xs → x ≡ get_or xs i x → value_of calls x seen left ≡ Gives v rest
    → behind vs (values_of calls (drop i xs) seen left) ≡ all → behind (vs ++ v ∷ []) (values_of calls (drop (i + 1) xs) seen rest) ≡ all
given_more calls xs i x seen left rest v vs all within is gives before =
    sym (one_more vs v (values_of calls (drop (i + 1) xs) seen rest))
    ∙ sym (ap (λ e. behind vs (with_first e (values_of calls (drop (i + 1) xs) seen))) gives)
    ∙ sym (ap (behind vs) (rest_of calls xs i x seen left within is)) ∙ before

pub ended_there : (calls : Calls) (xs : List Expression) (i : ℕ) (x : Expression) (seen : Seen) (left : ℕ) (h : Halt) (vs : List Val) (all : Ended (List Val))
    → i < length xs → x ≡ get_or xs i x → value_of calls x seen left ≡ Ends h
    → behind vs (values_of calls (drop i xs) seen left) ≡ all → all ≡ Ends h
ended_there calls xs i x seen left h vs all within is ends before =
    sym before ∙ ap (behind vs) (rest_of calls xs i x seen left within is)
    ∙ ap (λ e. behind vs (with_first e (values_of calls (drop (i + 1) xs) seen))) ends

pub stopped_there : (calls : Calls) (xs : List Expression) (i : ℕ) (x : Expression) (seen : Seen) (left : ℕ) (s : Stop) (vs : List Val) (all : Ended (List Val))
    → i < length xs → x ≡ get_or xs i x → Stops s (value_of calls x seen left)
    → behind vs (values_of calls (drop i xs) seen left) ≡ all → Stops s all
stopped_there calls xs i x seen left stop.Memory vs all within is stops before = stops
stopped_there calls xs i x seen left (stop.Halt h) vs all within is stops before = ended_there calls xs i x seen left h vs all within is stops before
