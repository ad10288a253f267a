-- Where a call rests it stands at its code, and from there its steps go on.
use Rattle.std.proofs.Common.{◌≡◌, ◌≤◌, refl, sym, ap, subst, ◌∙◌, ℕ, zero, suc, arith, List, [], ◌∷◌, replicate, unwrap_or, Option, Some, None, slice_get, ℤ}
use Rattle.std.specs.List.{filter_map}
use Rattle.sdg_base.specs.Limits.{turns_at_start}
use Rattle.sdg_base.specs.declared.val.Val.{Val}
use Rattle.sdg_base.specs.declared.val.Val.TheVariants as val
use Rattle.sdg_base.specs.declared.val.Outcome.{Outcome}
use Rattle.sdg_base.specs.declared.val.Outcome.TheVariants as outcome
use Rattle.sdg_base.specs.declared.value_type.ValueType.{ValueType}
use Rattle.sdg_base.specs.declared.value_type.ValueType.TheVariants as type
use Rattle.sdg_base.specs.Types as values
use Rattle.state_classes.specs.States.{State}
use Rattle.access_blocks.specs.declared.body.Holder.{Holder}
use Rattle.access_blocks.specs.Statements.{Field, part_of}
use Rattle.access_blocks.specs.Source.{CallState, Fresh, At, Visiting, Ended, width_of, value_in}
use Rattle.code_meaning.specs.Evaluating.{AreOf, HasKey}
use Rattle.code_meaning.specs.Resting.{IsKeyFor, IsOfResult, FieldsAreLeft}
use Rattle.code_meaning.specs.Steps.{StepsOn, OnPart, CarriesKey}
use Rattle.code_meaning.specs.Entries.{Working, PartIsThere, whole_of}
use Rattle.code_meaning.specs.Standing.{Entered, IsEntered, ground_on, code_for, RestsNow, FieldsFit, StandsAgain, RestsStand, key_number, block_works, BlocksRest, visit_works, VisitsBring, join_works, JoinsRest}
use Rattle.code_meaning.proofs.Lists.{none_some, some_is}
use Rattle.code_meaning.proofs.Resuming.{blocks_run, joins_go_on}
use Rattle.code_meaning.proofs.Visiting.{visits_bring_their_parts}
use Rattle.code_meaning.proofs.Entering.{stands_on}
use Rattle.code_meaning.proofs.Fitting.{part_class, changed_fit, block_part}

-- ---- rests

none_yet : (n i : ℕ) (how : Outcome) → slice_get (replicate n None) i ≡ Some (Some how) → ⊥
none_yet zero i how is = none_some (Some how) is
none_yet (suc n) zero how is = none_some how (some_is {A = Option Outcome} None (Some how) is)
none_yet (suc n) (suc i) how is = none_yet n i how is

module _ (e : Entered) (is : IsEntered e) (on : Working) (fields : List Field) (fit : FieldsFit e.program fields) where
  left_fit : (state : State) (next : List Field) → FieldsAreLeft (ground_on e on fields) state next → FieldsFit e.program next
  left_fit state next left = subst (FieldsFit e.program) (sym left.same_fields) (changed_fit e.program fields on.site on.instance state (λ field h here there. left.of_class field h here there) fit)

  again : (at turns : ℕ) → turns ≤ turns_at_start → (variables : List Val) (state : State) (call : CallState) (next : List Field) → RestsNow e on fields at variables turns state call next → StandsAgain e call next
  again at turns few variables state Fresh next r = absurd r
  again at turns few variables state (At field key block now) next r = record {
    stands = record { at = r.at; task = r.task; variables = r.variables; stands = r.stands; few = (let x = r.falls in omega arith) };
    fit = left_fit r.next next r.left;
  }
  again at turns few variables state (Visiting field method args parts now) next r = record {
    stands = record {
      at = r.at;
      task = r.task;
      variables = r.variables;
      stands = r.stands;
      few = (let x = r.falls in omega arith);
      typed = λ i how there. absurd (none_yet (width_of field next) i how (sym (ap (λ ps. slice_get ps i) r.none_made) ∙ there));
    };
    fit = left_fit r.next next r.left;
  }
  again at turns few variables state (Ended how) next r = record { stands = r.of_result; fit = left_fit r.next next r.left }

pub rests_stand : RestsStand
rests_stand e is on fields fit at turns few variables state call next r = again e is on fields fit at turns few variables state call next r

-- ---- the part that a step works on

a_holder : (o : Option Holder) (key : Option Val) → IsKeyFor o key → (h : Holder) × (o ≡ Some h) × (IsKeyFor (Some h) key)
a_holder None key is = absurd is
a_holder (Some h) key is = (h, refl, is)

a_field : (o : Option Field) (i : ℕ) (part : State) → part_of o i ≡ Some part → (old : Field) × (o ≡ Some old)
a_field None i part is = absurd (none_some part is)
a_field (Some old) i part is = (old, refl)

module _ (e : Entered) (is : IsEntered e) (fields : List Field) (fit : FieldsFit e.program fields) where
  on_part : (field i : ℕ) (key : Option ℤ) (gathered : List Val) (h : Holder) → slice_get e.program.fields field ≡ Some h → (part : State) → part_of (slice_get fields field) i ≡ Some part
      → StepsOn (ground_on e (record { site = Some field; instance = i; key = key; gathered = gathered }) fields) × OnPart (ground_on e (record { site = Some field; instance = i; key = key; gathered = gathered }) fields) field part
  on_part field i key gathered h is_h part is_part =
      let f = a_field (slice_get fields field) i part is_part in
      let there : PartIsThere e.program fields (record { site = Some field; instance = i; key = key; gathered = gathered }) field =
      record { holder = h; is_holder = is_h; old = f.0; is_old = f.1; part = part; is_part = sym (ap (λ o. part_of o i) f.1) ∙ is_part } in (
        stands_on e.class e.program is.typed e.number e.method e.body is.entry e.task (record { site = Some field; instance = i; key = key; gathered = gathered }) fields
            (λ k same. subst (PartIsThere e.program fields (record { site = Some field; instance = i; key = key; gathered = gathered })) (some_is field k same) there),
        record {
          site = refl;
          is_part = is_part;
          of_class = λ x there. part_class x (slice_get fields field) i part (fit field x there) is_part;
        },
      )

-- the key is carried as a number
number_of : (v : Val) → values.type_of v ≡ type.Long → HasKey (key_number (Some v)) v
number_of (val.Long n) has = record { number = n; is_here = refl; is_there = refl }
number_of (val.Int n) has = absurd (cc)
number_of (val.Bool b) has = absurd (cc)
number_of (val.Vector longs) has = absurd (cc)
number_of val.Unit has = absurd (cc)

carries : (h : Holder) (key : Option Val) → IsKeyFor (Some h) key → CarriesKey (key_number key) key
carries h None is = tt
carries h (Some v) is = number_of v is.1

pub blocks_rest : BlocksRest
blocks_rest e is fields fit field key block now s i legal call next runs =
    let h = a_holder (slice_get e.program.fields field) key s.stands.is_key in
    let p = block_part h.0 (slice_get fields field) key i (fit field h.0 h.1) h.2 legal in
    let w = on_part e is fields fit field (unwrap_or i 0) (key_number key) [] h.0 h.1 p.0 p.1 in
    record {
      part = p.0;
      is_part = p.1;
      rests = blocks_run (ground_on e (block_works field key i) fields) w.0 (whole_of (code_for e)) s.at s.task field key block now s.variables s.stands p.0 w.1 (carries h.0 key h.2) refl s.few call next runs;
    }

-- ---- visits and joins

pub visits_bring : VisitsBring
visits_bring e is fields fit field method args parts now s i part is_part =
    let w = on_part e is fields fit field i None [] s.stands.holder s.stands.is_holder part is_part in
    visits_bring_their_parts (ground_on e (visit_works field i) fields) w.0 (whole_of (code_for e)) s.at s.task field method args now s.variables s.stands part w.1 now.turns

-- the values of the parts are of the type of the method
values_typed : (t : ValueType) (parts : List (Option Outcome)) → ((i : ℕ) (how : Outcome) → slice_get parts i ≡ Some (Some how) → IsOfResult t how) → AreOf t (filter_map value_in parts)
values_typed t [] typed n v is = absurd (none_some v is)
values_typed t (None ∷ parts) typed n v is = values_typed t parts (λ i how there. typed (suc i) how there) n v is
values_typed t (Some (outcome.Value x) ∷ parts) typed zero v is = ap values.type_of (sym (some_is x v is)) ∙ typed zero (outcome.Value x) refl
values_typed t (Some (outcome.Value x) ∷ parts) typed (suc n) v is = values_typed t parts (λ i how there. typed (suc i) how there) n v is
values_typed t (Some (outcome.Throws y) ∷ parts) typed n v is = values_typed t parts (λ i how there. typed (suc i) how there) n v is
values_typed t (Some outcome.Limit ∷ parts) typed n v is = values_typed t parts (λ i how there. typed (suc i) how there) n v is

pub joins_rest : JoinsRest
joins_rest e is fields field method args parts now s state call next runs =
    let gathered = filter_map value_in parts in
    let on = stands_on e.class e.program is.typed e.number e.method e.body is.entry e.task (join_works gathered) fields (λ k same. absurd (none_some k same)) in
    joins_go_on (ground_on e (join_works gathered) fields) on (whole_of (code_for e)) s.at s.task field method args now s.variables s.stands gathered (values_typed s.stands.sig.result parts s.typed) refl refl s.few state call next runs
