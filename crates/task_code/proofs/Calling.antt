-- Calls of methods: what they stand on, and what follows them.
use Rattle.std.proofs.Common.{◌≡◌, ℕ, zero, suc, ◌<◌, ◌-◌, List, Option, Some, None, IsSome, refl, ap, subst, ◌∙◌, arith}
use Rattle.std.proofs.lemmas.Bool.{false≢true}
use Rattle.std.specs.List.{slice_get}
use Rattle.sdg_base.specs.declared.val.Val.{Val}
use Rattle.flat_code.specs.declared.graph.GraphField.{GraphField}
use Rattle.flat_code.specs.declared.graph.GraphMethod.{GraphMethod}
use Rattle.flat_code.specs.Machine.{Frame, Called, Performed, after_call, calls_within, method_run, Ran, Ending, Returned, Stopped, CutTo, PartFor, given, given_by}
use Rattle.task_code.specs.Seen.{seen, seen_frame, seen_ran}

some_called : (o : Option Called) (stack : List Val) (f : Frame) → IsSome (after_call o stack f) → IsSome o
some_called None stack f some = absurd (false≢true some)
some_called (Some called) stack f some = refl

seen_some : (p q : Option Performed) → seen p ≡ seen q → IsSome p → IsSome q
seen_some None q e some = absurd (false≢true some)
seen_some (Some p) None e some = cc
seen_some (Some p) (Some q) e some = refl

-- what an instruction that calls a method calls is there
pub can_call : (p : Option Performed) (o : Option Called) (stack : List Val) (f : Frame) → seen p ≡ seen (after_call o stack f) → IsSome p → IsSome o
can_call p o stack f e some = some_called o stack f (seen_some p (after_call o stack f) e some)

pub deeper : (depth : ℕ) (fields : List GraphField) (methods : List GraphMethod) (m : ℕ) (args gathered : List Val) (turns : ℕ) → 0 < depth → calls_within depth fields methods m args gathered turns ≡ method_run fields methods (calls_within (depth - 1) fields methods) (slice_get methods m) args gathered turns
unfolding calls_within
deeper zero fields methods m args gathered turns some = absurd (omega arith)
deeper (suc depth) fields methods m args gathered turns some =
    ap (λ (d : ℕ). method_run fields methods (calls_within d fields methods) (slice_get methods m) args gathered turns) (omega arith)

pub no_depth : (depth : ℕ) (fields : List GraphField) (methods : List GraphMethod) (m : ℕ) (args gathered : List Val) (turns : ℕ) → depth ≡ 0 → calls_within depth fields methods m args gathered turns ≡ None
unfolding calls_within
no_depth zero fields methods m args gathered turns e = refl
no_depth (suc depth) fields methods m args gathered turns e = absurd (omega arith)

pub none_is_not : {A : Type 0} (o : Option A) → o ≡ None → IsSome o → ⊥
none_is_not None e some = false≢true some
none_is_not (Some x) e some = cc

pub some_along : {A : Type 0} (o p : Option A) → o ≡ p → IsSome o → IsSome p
some_along o p e some = subst (λ (q : Option _). IsSome q) e some

given_seen : (e : Ending) (f : Frame) → given e (seen_frame e f) ≡ given e f
given_seen (Returned v) f = refl
given_seen (Stopped how) f = refl
given_seen (CutTo t) f = refl
given_seen (PartFor t v) f = refl

pub seen_given : (o : Option Ran) → given_by (seen_ran o) ≡ given_by o
seen_given None = refl
seen_given (Some r) = given_seen r.ending r.frame

-- a method that was looked up
pub method_found : (depth : ℕ) (fields : List GraphField) (methods slice : List GraphMethod) (m k : ℕ) (method : GraphMethod) (args gathered : List Val) (turns : ℕ) → 0 < depth → slice ≡ methods → k ≡ m → Some method ≡ slice_get slice k → calls_within depth fields methods m args gathered turns ≡ method_run fields methods (calls_within (depth - 1) fields methods) (Some method) args gathered turns
method_found depth fields methods slice m k method args gathered turns some same number found =
    let there : slice_get methods m ≡ Some method = cc in
    deeper depth fields methods m args gathered turns some
    ∙ ap (λ (o : Option GraphMethod). method_run fields methods (calls_within (depth - 1) fields methods) o args gathered turns) there

pub method_missing : (depth : ℕ) (fields : List GraphField) (methods slice : List GraphMethod) (m k : ℕ) (args gathered : List Val) (turns : ℕ) → 0 < depth → slice ≡ methods → k ≡ m → None ≡ slice_get slice k → calls_within depth fields methods m args gathered turns ≡ None
method_missing depth fields methods slice m k args gathered turns some same number missing =
    let there : slice_get methods m ≡ None = cc in
    deeper depth fields methods m args gathered turns some
    ∙ ap (λ (o : Option GraphMethod). method_run fields methods (calls_within (depth - 1) fields methods) o args gathered turns) there
