-- An instance of a field answers, and changes by itself.
use Rattle.std.proofs.Common.{◌≡◌, ℕ, ◌<◌, ◌≤◌, List, Option, Some, None, Result, Ok, Err, IfOk, OnOk, slice_get, slice_set, get_or, length, refl, ap, sym, ◌∙◌}
use Rattle.std.specs.Option.{option_map}
use Rattle.std.specs.declared.alloc.AllocError.{AllocError}
use Rattle.std.proofs.lemmas.List.{set-get_or}
use Rattle.std.proofs.lemmas.Option.{slice_get_read, slice_get_past}
use Rattle.sdg_base.specs.declared.val.Outcome.{Outcome}
use Rattle.sdg_base.specs.declared.val.Val.{Val}
use Rattle.state_classes.specs.declared.method.Method.{Method}
use Rattle.state_classes.specs.States.{State, called}
use Rattle.access_blocks.specs.Source as source
use Rattle.access_blocks.specs.Statements.{Field, part_of}
use Rattle.body_run.specs.Fields.{replaced, field_after}
use Rattle.source_run.specs.Visiting.{with_answer}

unchanged : {X : Type 0} (xs : List X) (i : ℕ) (x : X) → x ≡ get_or xs i x → xs ≡ slice_set xs i x
unchanged xs i x is = sym (ap (slice_set xs i) is ∙ set-get_or xs i x)

by_part : (field i : ℕ) (method : Method) (args : List Val) (parts : List (Option Outcome)) (at : source.Standing) (fields : List Field) (old : Field) → old ≡ get_or fields field old → (part : Option State)
    → source.visited_part field method args parts at i (Some old) fields part
    ≡ source.Stays (source.Visiting field method args (with_answer parts i (option_map (λ state. (called method args state).0) part)) at) (slice_set fields field (replaced (λ state. (called method args state).1) old i part))
by_part field i method args parts at fields old is None = ap (source.Stays (source.Visiting field method args parts at)) (unchanged fields field old is)
by_part field i method args parts at fields old is (Some state) = refl

pub no_field : (field i : ℕ) (method : Method) (args : List Val) (fields : List Field) → length fields ≤ field → (parts : List (Option Outcome)) (at : source.Standing)
    → source.visited_part field method args parts at i (slice_get fields field) fields (part_of (slice_get fields field) i) ≡ source.Stays (source.Visiting field method args parts at) fields
no_field field i method args fields past parts at = ap (λ one. source.visited_part field method args parts at i one fields (part_of one i)) (slice_get_past fields field past)

pub visits : (field i : ℕ) (method : Method) (args : List Val) (fields : List Field) (old new : Field) (r : Result (Option Outcome) AllocError)
    → field < length fields → old ≡ get_or fields field old
    → IfOk r (λ answer. answer ≡ option_map (λ state. (called method args state).0) (part_of (Some old) i))
    → OnOk r (new ≡ field_after (λ state. (called method args state).1) old i)
    → (parts : List (Option Outcome)) (at : source.Standing)
    → IfOk r (λ answer. source.visited_part field method args parts at i (slice_get fields field) fields (part_of (slice_get fields field) i)
    ≡ source.Stays (source.Visiting field method args (with_answer parts i answer) at) (slice_set fields field new))
visits field i method args fields old new (Ok answer) within is answers changes parts at =
    ap (λ one. source.visited_part field method args parts at i one fields (part_of one i)) (slice_get_read fields (length fields) field old refl within is)
    ∙ by_part field i method args parts at fields old is (part_of (Some old) i)
    ∙ sym (ap (λ one. source.Stays (source.Visiting field method args (with_answer parts i (option_map (λ state. (called method args state).0) (part_of (Some old) i))) at) (slice_set fields field one)) changes)
    ∙ sym (ap (λ one. source.Stays (source.Visiting field method args (with_answer parts i one) at) (slice_set fields field new)) answers)
visits field i method args fields old new (Err e) within is answers changes parts at = tt
