-- Each legal step of the source leads to where its call stands again.
use Rattle.std.proofs.Common.{◌≡◌, ◌≢◌, ◌<◌, ◌+◌, refl, sym, ap, subst, ◌∙◌, ℕ, arith, Bool, true, false, cond, List, [], ◌∷◌, length, Option, Some, None, slice_get, slice_set, inl, inr, ◌⊎◌}
use Rattle.std.proofs.lemmas.Bool.{false≢true}
use Rattle.std.specs.List.{filter_map}
use Rattle.sdg_base.specs.Limits.{turns_at_start}
use Rattle.sdg_base.specs.declared.val.Val.{Val}
use Rattle.sdg_base.specs.declared.val.Outcome.{Outcome}
use Rattle.sdg_base.specs.declared.val.Outcome.TheVariants as outcome
use Rattle.sdg_base.specs.declared.value_type.ValueType.{ValueType}
use Rattle.sdg_base.specs.declared.call.Call.{Call}
use Rattle.state_classes.specs.declared.method.Method.{Method}
use Rattle.state_classes.specs.States.{State, called}
use Rattle.flat_code.specs.Machine.{no_state, first_variables}
use Rattle.access_blocks.specs.declared.body.Program.{Program}
use Rattle.access_blocks.specs.Calls.{calls_of}
use Rattle.access_blocks.specs.Statements.{Field, Machine, part_of}
use Rattle.access_blocks.specs.Source as source
use Rattle.access_blocks.specs.Source.{Frame, CallState, Fresh, At, Visiting, Ended, Source, Runs, Started, Goes, Stays, Refusal, refused, is_fresh, is_next_block, is_next_visit, is_next_join, begun, begun_in, block_run, visited_part, visit_run, joined, join_run, first_failure, value_in}
use Rattle.code_meaning.specs.Resting.{IsOfResult}
use Rattle.code_meaning.specs.Entries.{on_nothing}
use Rattle.code_meaning.specs.Standing.{Entered, code_for, StandsAtVisits, Stands, FieldsFit, StandsAgain, block_works, join_works}
use Rattle.code_meaning.specs.Following.{IsCallOf}
use Rattle.code_meaning.proofs.Lists.{none_some, some_is, get_within, get_set, get_set_other, length_set, same_or_not}
use Rattle.code_meaning.proofs.Entering.{entries_rest}
use Rattle.code_meaning.proofs.Fitting.{part_class, changed_fit}
use Rattle.code_meaning.proofs.Standing.{rests_stand, blocks_rest, visits_bring, joins_rest}

-- ---- what is legal

pub record IsLegal (there : Bool) (is_next : CallState → Bool) (o : Option CallState) : Type 0 where
  pub state : CallState
  pub is_state : o ≡ Some state
  pub next : is_next state ≡ true

some_none : {A : Type 0} → (x : A) → Some x ≡ None → ⊥
some_none x is = none_some x (sym is)

if_legal : (b : Bool) (r : Refusal) → cond b None (Some r) ≡ None → b ≡ true
if_legal true r is = refl
if_legal false r is = absurd (some_none r is)

pub legal_is : (c : ℕ) (there : Bool) (is_next : CallState → Bool) (o : Option CallState) → refused c there is_next o ≡ None → IsLegal there is_next o
legal_is c there is_next None is = absurd (some_none source.Unknown is)
legal_is c false is_next (Some state) is = absurd (some_none source.NoInstance is)
legal_is c true is_next (Some state) is = record { state = state; is_state = refl; next = if_legal (is_next state) (source.NotNext c) is }

-- ---- parts

part_typed : (t : ValueType) (parts : List (Option Outcome)) (i : ℕ) (how : Outcome) → IsOfResult t how → ((k : ℕ) (other : Outcome) → slice_get parts k ≡ Some (Some other) → IsOfResult t other)
    → (k : ℕ) (other : Outcome) → slice_get (slice_set parts i (Some how)) k ≡ Some (Some other) → IsOfResult t other
part_typed t parts i how has typed k other is = by (same_or_not k i)
  where
    by : (k ≡ i) ⊎ (k ≢ i) → IsOfResult t other
    by (inl e) =
        let there : slice_get (slice_set parts i (Some how)) i ≡ Some (Some other) = sym (ap (slice_get (slice_set parts i (Some how))) e) ∙ is in
        let within : i < length parts = subst (λ n. i < n) (length_set parts i (Some how)) (get_within (slice_set parts i (Some how)) i (Some other) there) in
        subst (IsOfResult t) (some_is how other (some_is (Some how) (Some other) (sym (get_set parts i (Some how) within) ∙ there))) has
    by (inr differs) = typed k other (sym (get_set_other parts i k (Some how) differs) ∙ is)

failure_typed : (t : ValueType) (parts : List (Option Outcome)) (how : Outcome) → first_failure parts ≡ Some how → IsOfResult t how
failure_typed t [] how is = absurd (none_some how is)
failure_typed t (None ∷ parts) how is = failure_typed t parts how is
failure_typed t (Some (outcome.Value v) ∷ parts) how is = failure_typed t parts how is
failure_typed t (Some (outcome.Throws e) ∷ parts) how is = subst (IsOfResult t) (some_is (outcome.Throws e) how is) tt
failure_typed t (Some outcome.Limit ∷ parts) how is = subst (IsOfResult t) (some_is outcome.Limit how is) tt

module _ (program : Program) (call : Call) (e : Entered) (of : IsCallOf program call e) (now : Source) (fit : FieldsFit program now.fields) where
  -- what a step that lets a call run, or that leaves it, must see to
  abbrev pub StandsBehind : Started → Type 0
  StandsBehind (Goes frames m) = (state : CallState) (fields : List Field) → Runs (calls_of program.methods) frames m state fields → StandsAgain e state fields
  StandsBehind (Stays state fields) = StandsAgain e state fields

  own_fit : FieldsFit e.program now.fields
  own_fit = subst (λ p. FieldsFit p now.fields) (sym of.same_program) fit

  own_runs : {frames : List Frame} {m : Machine} {state : CallState} {fields : List Field} → Runs (calls_of program.methods) frames m state fields → Runs (calls_of e.program.methods) frames m state fields
  own_runs {frames} {m} {state} {fields} runs = subst (λ (p : Program). Runs (calls_of p.methods) frames m state fields) (sym of.same_program) runs

  own_body : slice_get program.methods call.method ≡ Some e.body
  own_body =
      subst (λ n. slice_get program.methods n ≡ Some e.body) of.same_number
      (subst (λ (p : Program). slice_get p.methods e.number ≡ Some e.body) of.same_program of.entered.entry.is_body)

  begun_stands : StandsBehind (begun_in now call.args (Some e.body))
  begun_stands state fields runs =
      rests_stand e of.entered on_nothing now.fields own_fit 0 turns_at_start (omega arith) (first_variables (code_for e) call.args) no_state state fields
      (entries_rest e.class e.program of.entered.typed e.number e.method e.body of.entered.entry of.entered.placed e.task call.args of.typed now.fields fields no_state state (own_runs runs))

  pub begin_stands : StandsBehind (begun program now (Some call))
  begin_stands = subst (λ o. StandsBehind (begun_in now call.args o)) (sym own_body) begun_stands

  pub block_stands : (i : Option ℕ) (state : CallState) → is_next_block now i state ≡ true → Stands e state → StandsBehind (block_run now i state)
  block_stands i (At field key block at) legal s = λ state fields runs.
      let b = blocks_rest e of.entered now.fields own_fit field key block at s i legal state fields (own_runs runs) in
      rests_stand e of.entered (block_works field key i) now.fields own_fit (s.at + 1) at.turns s.few s.variables b.part state fields b.rests
  block_stands i Fresh legal s = absurd (false≢true legal)
  block_stands i (Visiting field method args parts at) legal s = absurd (false≢true legal)
  block_stands i (Ended how) legal s = absurd (false≢true legal)

  visited_stands : (i field : ℕ) (method : Method) (args : List Val) (parts : List (Option Outcome)) (at : source.Standing) → StandsAtVisits e field method args parts at → (o : Option State) → part_of (slice_get now.fields field) i ≡ o
      → StandsBehind (visited_part field method args parts at i (slice_get now.fields field) now.fields o)
  visited_stands i field method args parts at s None is = record { stands = s; fit = own_fit }
  visited_stands i field method args parts at s (Some part) is =
      let b = visits_bring e of.entered now.fields own_fit field method args parts at s i part is in
      record {
        stands = record {
          at = s.at;
          task = s.task;
          variables = s.variables;
          stands = s.stands;
          few = s.few;
          typed = part_typed s.stands.sig.result parts i (called method args part).0 b.of_result s.typed;
        };
        fit = changed_fit e.program now.fields (Some field) i (called method args part).1
            (λ f h here there. b.same_class ∙ part_class h (slice_get now.fields f) i part (own_fit f h there) (subst (λ k. part_of (slice_get now.fields k) i ≡ Some part) (some_is field f here) is)) own_fit;
      }

  pub visit_stands : (i : ℕ) (state : CallState) → is_next_visit i state ≡ true → Stands e state → StandsBehind (visit_run now i state)
  visit_stands i (Visiting field method args parts at) legal s = visited_stands i field method args parts at s (part_of (slice_get now.fields field) i) refl
  visit_stands i Fresh legal s = absurd (false≢true legal)
  visit_stands i (At field key block at) legal s = absurd (false≢true legal)
  visit_stands i (Ended how) legal s = absurd (false≢true legal)

  joined_stands : (field : ℕ) (method : Method) (args : List Val) (parts : List (Option Outcome)) (at : source.Standing) → StandsAtVisits e field method args parts at → (o : Option Outcome) → first_failure parts ≡ o
      → StandsBehind (joined o parts at now.fields)
  joined_stands field method args parts at s (Some failure) is = record { stands = failure_typed _ parts failure is; fit = own_fit }
  joined_stands field method args parts at s None is = λ state fields runs.
      rests_stand e of.entered (join_works (filter_map value_in parts)) now.fields own_fit (s.at + 1 + (length args + 2)) at.turns s.few s.variables no_state state fields
      (joins_rest e of.entered now.fields field method args parts at s no_state state fields (own_runs runs))

  pub join_stands : (state : CallState) → is_next_join state ≡ true → Stands e state → StandsBehind (join_run now state)
  join_stands (Visiting field method args parts at) legal s = joined_stands field method args parts at s (first_failure parts) refl
  join_stands Fresh legal s = absurd (false≢true legal)
  join_stands (At field key block at) legal s = absurd (false≢true legal)
  join_stands (Ended how) legal s = absurd (false≢true legal)
