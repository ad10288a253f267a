-- What tasks carry: values of the types of their variables, which are single values.
use Rattle.std.proofs.Common.{◌≡◌, ◌≢◌, refl, sym, ap, subst, ◌∙◌, ℕ, ◌<◌, arith, true, List, [], ◌∷◌, length, replicate, Option, Some, None, slice_get, slice_set, inl, inr, ◌⊎◌}
use Rattle.std.proofs.lemmas.Bool.{false≢true}
use Rattle.std.proofs.lemmas.List.{length-replicate}
use Rattle.sdg_base.specs.declared.val.Val.{Val}
use Rattle.sdg_base.specs.declared.val.Val.TheVariants as val
use Rattle.sdg_base.specs.declared.value_type.ValueType.{ValueType}
use Rattle.sdg_base.specs.Types.{type_of}
use Rattle.flat_code.specs.declared.graph.Graph.{Graph}
use Rattle.flat_code.specs.declared.graph.GraphMethod.{GraphMethod}
use Rattle.flat_code.specs.declared.graph.Task.{Task}
use Rattle.flat_code.specs.declared.graph.Instr.{Instr}
use Rattle.flat_code.specs.declared.graph.Instr.TheVariants as instr
use Rattle.flat_code.specs.declared.graph.VariableType.{VariableType}
use Rattle.flat_code.specs.declared.graph.VariableType.TheVariants.{One, Collection}
use Rattle.flat_code.specs.Types.{type_by, in_variable, one_type, type_of_variable}
use Rattle.flat_code.specs.Items.{with_first, carried, set_all, carried_variables}
use Rattle.flat_code.specs.Ways.{IsIn, IsFirst, IsLater, writes, next_in_task, Reaches, ReachesStart, ReachesNext, IsNeeded, NeededLater}
use Rattle.flat_code.specs.Fits.{is_type, has_types}
use Rattle.flat_code.specs.Verified.{IsVerified, IsTask, IsMethod, IsTypedAt, Stack, TaskBegins, stored_type, types_after}
use Rattle.graph_safety.proofs.Values.{is_same}
use Rattle.graph_safety.proofs.Lists.{none_some, some_is, both_true, and_true, is_some_or_not, length_set}
use Rattle.graph_safety.proofs.Frames.{HoldsIn, Holds, value_holds, is_declared, set_holds, set_keeps}
use Rattle.graph_safety.proofs.Ways.{Among, among}

-- a variable of one value
pub record IsOne (m : GraphMethod) (v : ℕ) : Type 0 where
  pub of : ValueType
  pub is : type_of_variable m v ≡ Some of

one_of_value : (m : GraphMethod) (v : ℕ) (x : Val) → is_type (type_of_variable m v) x ≡ true → IsOne m v
one_of_value m v x e = by (type_of_variable m v) refl e
  where
    by : (o : Option ValueType) → type_of_variable m v ≡ o → is_type o x ≡ true → IsOne m v
    by None is e = absurd (false≢true e)
    by (Some t) is e = record { of = t; is = is }

pub ones : (m : GraphMethod) (ns : List ℕ) (vs : List Val) → has_types m ns vs ≡ true → (v : ℕ) → Among v ns → IsOne m v
ones m [] vs e v h = absurd h
ones m (n ∷ ns) [] e v h = absurd (false≢true e)
ones m (n ∷ ns) (x ∷ xs) e v (inl same) =
    subst (λ (k : ℕ). IsOne m k) (sym same) (one_of_value m n x (both_true (is_type (type_of_variable m n) x) (has_types m ns xs) e).0)
ones m (n ∷ ns) (x ∷ xs) e v (inr h) = ones m ns xs (both_true (is_type (type_of_variable m n) x) (has_types m ns xs) e).1 v h

-- ---- a task finds what its item carries

pub set_all_length : (ns : List ℕ) (vs variables : List Val) → length (set_all ns vs variables) ≡ length variables
set_all_length [] vs variables = refl
set_all_length (n ∷ ns) [] variables = refl
set_all_length (n ∷ ns) (x ∷ xs) variables = set_all_length ns xs (slice_set variables n x) ∙ length_set variables n x

set_all_holds : (m : GraphMethod) (gathered : List Val) (ns : List ℕ) (vs variables : List Val) → length variables ≡ length m.vars → has_types m ns vs ≡ true
    → (v : ℕ) → Holds m gathered variables v ⊎ Among v ns → Holds m gathered (set_all ns vs variables) v
set_all_holds m gathered [] [] variables room e v (inl h) = h
set_all_holds m gathered [] [] variables room e v (inr h) = absurd h
set_all_holds m gathered [] (x ∷ xs) variables room e v o = absurd (false≢true e)
set_all_holds m gathered (n ∷ ns) [] variables room e v o = absurd (false≢true e)
set_all_holds m gathered (n ∷ ns) (x ∷ xs) variables room e v o =
    set_all_holds m gathered ns xs (slice_set variables n x) (length_set variables n x ∙ room) both.1 v (by o)
  where
    both : (is_type (type_of_variable m n) x ≡ true) × (has_types m ns xs ≡ true)
    both = both_true (is_type (type_of_variable m n) x) (has_types m ns xs) e

    within : n < length variables
    within = let h = is_declared m n x both.0 in omega arith

    has : HoldsIn (slice_get m.vars n) gathered (Some x)
    has = value_holds m gathered n x both.0

    by : Holds m gathered variables v ⊎ Among v (n ∷ ns) → Holds m gathered (slice_set variables n x) v ⊎ Among v ns
    by (inl h) = inl (set_keeps m gathered variables n x within has v h)
    by (inr (inl same)) = inl (subst (λ (k : ℕ). Holds m gathered (slice_set variables n x) k) (sym same) (set_holds m gathered variables n x within has))
    by (inr (inr h)) = inr h

pub carried_room : (m : GraphMethod) (t : Task) (vs : List Val) → length (carried_variables m t vs) ≡ length m.vars
carried_room m t vs = set_all_length t.vars vs (replicate (length m.vars) val.Unit) ∙ length-replicate (length m.vars) val.Unit

pub carried_hold : (m : GraphMethod) (t : Task) (gathered vs : List Val) → has_types m t.vars vs ≡ true → (v : ℕ) → IsIn v t.vars → Holds m gathered (carried_variables m t vs) v
carried_hold m t gathered vs e v h = set_all_holds m gathered t.vars vs (replicate (length m.vars) val.Unit) (length-replicate (length m.vars) val.Unit) e v (inr (among v t.vars h))

-- ---- what is sent on

pub record Carries (m : GraphMethod) (ns : List ℕ) (variables : List Val) : Type 0 where
  pub values : List Val
  pub is : carried ns variables ≡ Some values
  pub typed : has_types m ns values ≡ true

one_value : (gathered : List Val) (o : Option VariableType) (x : Option Val) (t : ValueType) → in_variable one_type o ≡ Some t → HoldsIn o gathered x → (v : Val) × (x ≡ Some v) × (is_type (in_variable one_type o) v ≡ true)
one_value gathered None x t e h = absurd h
one_value gathered (Some (Collection s)) x t e h = absurd (none_some t e)
one_value gathered (Some (One s)) None t e h = absurd h
one_value gathered (Some (One s)) (Some v) t e h = (v, refl, is_same (type_of v) (type_by s) h)

pub carries : (m : GraphMethod) (gathered : List Val) (ns : List ℕ) (variables : List Val) → ((v : ℕ) → IsIn v ns → Holds m gathered variables v) → ((v : ℕ) → IsIn v ns → IsOne m v) → Carries m ns variables
carries m gathered [] variables holds one = record { values = []; is = refl; typed = refl }
carries m gathered (n ∷ ns) variables holds one =
    let o = one n (IsFirst ns) in
    let v = one_value gathered (slice_get m.vars n) (slice_get variables n) o.of o.is (holds n (IsFirst ns)) in
    let more = carries m gathered ns variables (λ k h. holds k (IsLater n ns h)) (λ k h. one k (IsLater n ns h)) in
    record {
      values = v.0 ∷ more.values;
      is = ap (λ (p : Option Val). with_first p (carried ns variables)) v.1 ∙ ap (λ (p : Option (List Val)). with_first (Some v.0) p) more.is;
      typed = and_true (is_type (type_of_variable m n) v.0) (has_types m ns more.values) v.2 more.typed;
    }

-- ---- what a task needs has one value each, where its item carries such

store_writes : (i : Instr) (v : ℕ) → writes i ≡ Some v → i ≡ instr.Store v
store_writes (instr.Store w) v e = ap instr.Store (some_is w v e)
store_writes _ v e = absurd (none_some v e)

one_stored : (graph : Graph) (m : GraphMethod) (v : ℕ) (types after : Stack) → types_after graph m (instr.Store v) types ≡ Some after → IsOne m v
one_stored graph m v types after e = by (type_of_variable m v) refl e
  where
    by : (o : Option ValueType) → type_of_variable m v ≡ o → stored_type o types ≡ Some after → IsOne m v
    by None is e = absurd (none_some after e)
    by (Some t) is e = record { of = t; is = is }

pub record OnesAt (graph : Graph) (m : GraphMethod) (stacks : ℕ → Option Stack) (at : ℕ) : Type 0 where
  pub types : Stack
  pub stacked : stacks at ≡ Some types
  pub one : (v : ℕ) → IsNeeded graph.tasks m.code v at → IsOne m v

module _ (graph : Graph) (verified : IsVerified graph) (k : ℕ) (t : Task) (m : GraphMethod) (is_task : IsTask graph k t) (is_method : IsMethod graph t.method m) (carries_ones : (v : ℕ) → IsIn v t.vars → IsOne m v) where
  abbrev pub stacks_of : ℕ → Option Stack
  stacks_of = (verified.types t.method m is_method).stacks

  ones_next : (at next : ℕ) (i : Instr) → OnesAt graph m stacks_of at → slice_get m.code at ≡ Some i → IsIn next (next_in_task at i) → OnesAt graph m stacks_of next
  ones_next at next i here is_code is_next = record { types = typed.after; stacked = typed.leaves next (subst (λ (j : Instr). IsIn next (next_in_task at j)) same is_next); one = λ v h. by v h (is_some_or_not (writes i) v) }
    where
      typed : IsTypedAt graph m stacks_of at here.types
      typed = (verified.types t.method m is_method).typed at here.types here.stacked

      same : i ≡ typed.i
      same = some_is i typed.i (sym is_code ∙ typed.is_code)

      by : (v : ℕ) → IsNeeded graph.tasks m.code v next → (writes i ≡ Some v) ⊎ (writes i ≢ Some v) → IsOne m v
      by v h (inl e) =
          let store : typed.i ≡ instr.Store v = sym same ∙ store_writes i v e in
          one_stored graph m v here.types typed.after (subst (λ (j : Instr). types_after graph m j here.types ≡ Some typed.after) store typed.takes)
      by v h (inr ne) = here.one v (NeededLater at next i is_code ne is_next h)

  pub ones_at : (at : ℕ) → Reaches m.code t.at at → OnesAt graph m stacks_of at
  ones_at at ReachesStart = record {
    types = [];
    stacked = (verified.types t.method m is_method).starts t.at (TaskBegins k t is_task refl);
    one = λ v h. carries_ones v (verified.variables k t m v is_task is_method h);
  }
  ones_at at (ReachesNext before next i reached is_code is_next) = ones_next before next i (ones_at before reached) is_code is_next
