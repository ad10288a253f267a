-- What items that fit say of their tasks and fields, and of which tasks and fields an item fits.
use Rattle.std.proofs.Common.{◌≡◌, refl, sym, ap, subst, ◌∙◌, ℕ, ℤ, zero, suc, ◌<◌, ◌≤◌, arith, mod-lt, Bool, true, false, cond, ◌&&◌, not, nat_lt, List, [], ◌∷◌, length, Option, Some, None, slice_get, unwrap_or}
use Rattle.std.specs.Str.{bytes_eq}
use Rattle.std.proofs.lemmas.Bool.{false≢true, ltb-false, lt-ltb, le-ltb, eqb-true, eq-eqb}
use Rattle.sdg_base.specs.Limits.{turns_at_start}
use Rattle.sdg_base.specs.declared.val.Val.{Val}
use Rattle.state_classes.specs.States.{State}
use Rattle.placement.specs.Slots.{slot}
use Rattle.flat_code.specs.declared.graph.FieldKind.{FieldKind}
use Rattle.flat_code.specs.declared.graph.GraphField.{GraphField}
use Rattle.flat_code.specs.declared.graph.GraphMethod.{GraphMethod}
use Rattle.flat_code.specs.declared.graph.Graph.{Graph}
use Rattle.flat_code.specs.declared.graph.Task.{Task}
use Rattle.flat_code.specs.declared.graph.TaskKind.{TaskKind}
use Rattle.flat_code.specs.declared.graph.TaskKind.TheVariants as kind
use Rattle.flat_code.specs.Types.{number_of, counted, field_named}
use Rattle.flat_code.specs.Items.{field_number, width_of}
use Rattle.flat_code.specs.Fits.{has_types, values_fit, is_kind, is_number, takes, is_field, is_instance}
use Rattle.flat_code.specs.Verified.{IsOf}
use Rattle.graph_safety.specs.Safe.{IsWidth, AreWidths, IsStateOf, IsFieldOf}
use Rattle.graph_safety.proofs.Lists.{none_some, some_is, both_true, and_true, get_within, within_get}
use Rattle.graph_safety.proofs.Runs.{IsStateFor}

not_is : (b : Bool) → not b ≡ true → b ≡ false
not_is true e = absurd (false≢true e)
not_is false e = refl

is_not : (b : Bool) → b ≡ false → not b ≡ true
is_not b e = ap not e

kinds_same : (j k : TaskKind) → is_kind j k ≡ true → k ≡ j
kinds_same kind.Start kind.Start e = refl
kinds_same kind.Keyed kind.Keyed e = refl
kinds_same kind.Local kind.Local e = refl
kinds_same kind.Visit kind.Visit e = refl
kinds_same kind.Join kind.Join e = refl
kinds_same _ _ e = absurd (false≢true e)

kind_itself : (k : TaskKind) → is_kind k k ≡ true
kind_itself kind.Start = refl
kind_itself kind.Keyed = refl
kind_itself kind.Local = refl
kind_itself kind.Visit = refl
kind_itself kind.Join = refl

-- ---- tasks

pub record Taking (graph : Graph) (k : TaskKind) (o : Option Task) (turns : ℕ) (vs : List Val) : Type 0 where
  pub t : Task
  pub is : o ≡ Some t
  pub of_kind : t.kind ≡ k
  pub few : turns ≤ turns_at_start
  pub m : GraphMethod
  pub is_method : slice_get graph.methods t.method ≡ Some m
  pub typed : has_types m t.vars vs ≡ true

fitting : (o : Option GraphMethod) (t : Task) (vs : List Val) → values_fit o t vs ≡ true → (m : GraphMethod) × (o ≡ Some m) × (has_types m t.vars vs ≡ true)
fitting None t vs e = absurd (false≢true e)
fitting (Some m) t vs e = (m, refl, e)

pub taking : (graph : Graph) (k : TaskKind) (o : Option Task) (turns : ℕ) (vs : List Val) → takes graph k o turns vs ≡ true → Taking graph k o turns vs
taking graph k None turns vs e = absurd (false≢true e)
taking graph k (Some t) turns vs e =
    let a = both_true (is_kind k t.kind && not (nat_lt turns_at_start turns)) (values_fit (slice_get graph.methods t.method) t vs) e in
    let b = both_true (is_kind k t.kind) (not (nat_lt turns_at_start turns)) a.0 in
    let c = fitting (slice_get graph.methods t.method) t vs a.1 in
    record { t = t; is = refl; of_kind = kinds_same k t.kind b.0; few = ltb-false turns_at_start turns (not_is (nat_lt turns_at_start turns) b.1); m = c.0; is_method = c.1; typed = c.2 }

pub taken : (graph : Graph) (k : TaskKind) (o : Option Task) (t : Task) (turns : ℕ) (vs : List Val) (m : GraphMethod) → o ≡ Some t → t.kind ≡ k → turns ≤ turns_at_start
    → slice_get graph.methods t.method ≡ Some m → has_types m t.vars vs ≡ true → takes graph k o turns vs ≡ true
taken graph k o t turns vs m is of_kind most is_method typed =
    ap (λ (p : Option Task). takes graph k p turns vs) is
    ∙ and_true (is_kind k t.kind && not (nat_lt turns_at_start turns)) (values_fit (slice_get graph.methods t.method) t vs)
    (and_true (is_kind k t.kind) (not (nat_lt turns_at_start turns)) (ap (λ j. is_kind k j) of_kind ∙ kind_itself k) (is_not (nat_lt turns_at_start turns) (le-ltb turns_at_start turns most)))
    (ap (λ (p : Option GraphMethod). values_fit p t vs) is_method ∙ typed)

-- ---- fields

is_number_of : (o : Option ℕ) (f : ℕ) → is_number o f ≡ true → o ≡ Some f
is_number_of None f e = absurd (false≢true e)
is_number_of (Some n) f e = ap Some (eqb-true n f e)

pub field_is : (graph : Graph) (o : Option Task) (t : Task) (f : ℕ) → o ≡ Some t → is_field graph o f ≡ true → field_number graph t.field ≡ Some f
field_is graph o t f is e = is_number_of (field_number graph t.field) f (ap (λ (p : Option Task). is_field graph p f) (sym is) ∙ e)

pub is_of_field : (graph : Graph) (o : Option Task) (t : Task) (f : ℕ) → o ≡ Some t → field_number graph t.field ≡ Some f → is_field graph o f ≡ true
is_of_field graph o t f is e = ap (λ (p : Option Task). is_field graph p f) is ∙ ap (λ n. is_number n f) e ∙ eq-eqb f f refl

counted_is : (o : Option ℕ) (f : ℕ) → counted o ≡ Some f → (n : ℕ) × (o ≡ Some n) × (suc n ≡ f)
counted_is None f e = absurd (none_some f e)
counted_is (Some n) f e = (n, refl, some_is (suc n) f e)

number_named : (name : List ℕ) (fields : List GraphField) (f : ℕ) → number_of name fields ≡ Some f → slice_get fields f ≡ field_named name fields
number_named name [] f e = absurd (none_some f e)
number_named name (field ∷ fields) f e = by (bytes_eq name field.name) e (λ n. number_named name fields n)
  where
    by : (b : Bool) → cond b (Some zero) (counted (number_of name fields)) ≡ Some f → ((n : ℕ) → number_of name fields ≡ Some n → slice_get fields n ≡ field_named name fields)
        → slice_get (field ∷ fields) f ≡ cond b (Some field) (field_named name fields)
    by true e more = ap (λ n. slice_get (field ∷ fields) n) (sym (some_is zero f e))
    by false e more = let c = counted_is (number_of name fields) f e in ap (λ n. slice_get (field ∷ fields) n) (sym c.2) ∙ more c.0 c.1

named_number : (name : List ℕ) (fields : List GraphField) (of : GraphField) → field_named name fields ≡ Some of → (f : ℕ) × (number_of name fields ≡ Some f)
named_number name [] of e = absurd (none_some of e)
named_number name (field ∷ fields) of e = by (bytes_eq name field.name) e (named_number name fields of)
  where
    by : (b : Bool) → cond b (Some field) (field_named name fields) ≡ Some of → (field_named name fields ≡ Some of → (f : ℕ) × (number_of name fields ≡ Some f)) → (f : ℕ) × (cond b (Some zero) (counted (number_of name fields)) ≡ Some f)
    by true e more = (zero, refl)
    by false e more = let n = more e in (suc n.0, ap counted n.1)

pub record Numbered (graph : Graph) (named : Option (List ℕ)) (kind : FieldKind) : Type 0 where
  pub number : ℕ
  pub is : field_number graph named ≡ Some number
  pub of_field : IsFieldOf graph number kind

pub numbered : (graph : Graph) (named : Option (List ℕ)) (kind : FieldKind) → IsOf graph.fields named kind → Numbered graph named kind
numbered graph named kind of =
    let n = named_number of.name graph.fields of.of of.is_field in
    record {
      number = n.0;
      is = ap (λ (o : Option (List ℕ)). field_number graph o) of.is_name ∙ n.1;
      of_field = record { of = of.of; is_field = number_named of.name graph.fields n.0 n.1 ∙ of.is_field; is_kind = of.is_kind };
    }

-- the state at a port is that of the task's field
pub state_for : (graph : Graph) (named : Option (List ℕ)) (f : ℕ) (state : State) → field_number graph named ≡ Some f → IsStateOf (slice_get graph.fields f) state → IsStateFor graph named state
state_for graph named f state e h name own =
    subst (λ (o : Option GraphField). IsStateOf o state) (number_named name graph.fields f (ap (λ (o : Option (List ℕ)). field_number graph o) (sym own) ∙ e)) h

-- ---- widths

pub width_is : (graph : Graph) (widths : List ℕ) (f : ℕ) (kind : FieldKind) → AreWidths graph widths → IsFieldOf graph f kind → IsWidth (width_of widths f)
width_is graph widths f kind are of =
    let within = get_within graph.fields f of.of of.is_field in
    let many = are.one_a_field in
    let there : f < length widths = omega arith in
    let w = within_get widths f there in
    subst IsWidth (ap (λ (o : Option ℕ). unwrap_or o 1) (sym w.1)) (are.each f w.0 w.1)

pub slot_within : (key : ℤ) (slots : ℕ) → 0 < slots → slot key slots < slots
slot_within key slots some = mod-lt _ some

pub instance_is : (width i : ℕ) → i < width → width ≤ 64 → is_instance width i ≡ true
instance_is width i within most = and_true (nat_lt i width) (not (nat_lt 64 width)) (lt-ltb i width within) (is_not (nat_lt 64 width) (le-ltb 64 width most))
