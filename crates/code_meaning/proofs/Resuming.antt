-- The steps behind a rest: a block is run on its part, and a call goes on with what its visits brought.
use Rattle.std.proofs.Common.{◌≡◌, ◌≤◌, ◌+◌, refl, sym, ap, subst, ◌∙◌, ℕ, zero, suc, true, not, List, [], ◌∷◌, length, unwrap_or, Option, Some, None, slice_get, slice_set, ℤ}
use Rattle.std.proofs.lemmas.Bool.{false≢true}
use Rattle.sdg_base.specs.declared.val.Val.{Val}
use Rattle.sdg_base.specs.declared.val.Val.TheVariants as val
use Rattle.sdg_base.specs.declared.value_type.ValueType.{ValueType}
use Rattle.state_classes.specs.States.{State}
use Rattle.access_blocks.specs.declared.body.Holder.{Holder}
use Rattle.access_blocks.specs.Statements.{Field, Whole, Instances, Machine, part_of, with_part, changed_field}
use Rattle.access_blocks.specs.Source as source
use Rattle.access_blocks.specs.Source.{CallState, Frame, Runs, machine_of}
use Rattle.body_code.specs.Checking.{Standing, is_partitioned, in_block, gathering}
use Rattle.code_meaning.specs.Evaluating.{AreOf, HasKey}
use Rattle.code_meaning.specs.Running.{Ground, fields_with, Agrees}
use Rattle.code_meaning.specs.Frames.{Level, AreLaid}
use Rattle.code_meaning.specs.Resting.{SameVariables, IsKeyFor}
use Rattle.code_meaning.specs.Stepping.{coded}
use Rattle.code_meaning.specs.Steps.{StepsOn, OnPart, CarriesKey, RestsFrom, BlocksRun, JoinsGoOn}
use Rattle.code_meaning.proofs.Lists.{none_some, some_is}
use Rattle.code_meaning.proofs.Reaching.{reaches_here}
use Rattle.code_meaning.proofs.Moving.{rests_on}
use Rattle.code_meaning.proofs.Onward.{run_rests}

-- ---- a part that is there

set_same : {A : Type 0} (xs : List A) (i : ℕ) (x : A) → slice_get xs i ≡ Some x → slice_set xs i x ≡ xs
set_same [] i x is = refl
set_same (y ∷ xs) zero x is = ap (λ z. z ∷ xs) (sym (some_is y x is))
set_same (y ∷ xs) (suc i) x is = ap (λ l. y ∷ l) (set_same xs i x is)

part_same : (old : Field) (i : ℕ) (state : State) → part_of (Some old) i ≡ Some state → with_part old i state ≡ old
part_same (Whole part) i state is = ap Whole (sym (some_is part state is))
part_same (Instances states) i state is = ap Instances (set_same states i state is)

-- A field keeps all that it has where its own part is set.
fields_same : (fields : List Field) (field i : ℕ) (state : State) (o : Option Field) → slice_get fields field ≡ o → part_of o i ≡ Some state → changed_field o field state fields i ≡ fields
fields_same fields field i state None is part = refl
fields_same fields field i state (Some old) is part = ap (λ x. slice_set fields field x) (part_same old i state part) ∙ set_same fields field old is

pub site_same : (g : Ground) (field : ℕ) (state : State) → OnPart g field state → fields_with g.site g.instance state g.fields ≡ g.fields
site_same g field state on = ap (λ s. fields_with s g.instance state g.fields) on.site ∙ fields_same g.fields field g.instance state (slice_get g.fields field) refl on.is_part

none_same : (g : Ground) (state : State) → g.site ≡ None → fields_with g.site g.instance state g.fields ≡ g.fields
none_same g state is = ap (λ s. fields_with s g.instance state g.fields) is

-- ---- the key of a block

carried_key : (o : Option Holder) (carried : Option ℤ) (key : Option Val) → IsKeyFor o key → CarriesKey carried key → is_partitioned o ≡ true → HasKey carried (unwrap_or key val.Unit)
carried_key None carried key is carries has = absurd (false≢true has)
carried_key (Some h) carried None is carries has = absurd (false≢true (sym (ap not is) ∙ has))
carried_key (Some h) carried (Some key) is carries has = carries

nothing_of : (t : ValueType) → AreOf t []
nothing_of t n v is = absurd (none_some v is)

module _ {g : Ground} (on : StepsOn g) (whole : ℕ) where
  pub from_here : (frames : List Frame) (level : Level) (at left : ℕ) (st : Standing) → AreLaid (coded g whole) frames level true at st left → left ≤ whole
      → (variables : List Val) (state : State) (m : Machine) → Agrees g st variables state m → (call : CallState) (fields : List Field) → Runs g.calls frames m call fields → RestsFrom g whole at variables m.turns state call fields
  from_here frames level at left st laid few variables state m agrees call fields runs =
      rests_on g whole (reaches_here g.setting g.code whole few) call fields (run_rests on.stands whole on.named frames level at left st laid few variables state m agrees call fields runs)

  block_agrees : (field : ℕ) (key : Option Val) (now : source.Standing) (before : Standing) (variables : List Val) (state : State) → SameVariables (coded g whole) before variables now.variables → IsKeyFor (slice_get g.around.fields field) key
      → OnPart g field state → CarriesKey g.setting.key key → g.setting.gathered ≡ [] → now.turns ≤ g.most → Agrees g (in_block field before) variables state (machine_of now (unwrap_or key val.Unit) [] g.fields g.instance)
  block_agrees field key now before variables state same is_key part carries none few = record {
    known = same.known;
    room = same.room;
    room_there = same.room_there;
    few = few;
    gathers = record { same = none; members = λ t is. nothing_of t; are_values = λ t is. absurd (none_some t (sym on.no_members ∙ is)) };
    gathered = λ t is. nothing_of t;
    key = λ has. carried_key (slice_get g.around.fields field) g.setting.key key is_key carries has;
    at_site = λ f is. part.site ∙ is;
    fields = record {
      same_fields = sym (site_same g field state part);
      same_instance = refl;
      of_class = λ f h is there. part.of_class h (ap (slice_get g.around.fields) (some_is field f (sym part.site ∙ is)) ∙ there);
    };
  }

  join_agrees : (t : ValueType) (now : source.Standing) (before : Standing) (variables gathered : List Val) (state : State) → SameVariables (coded g whole) before variables now.variables → AreOf t gathered
      → g.setting.gathered ≡ gathered → g.site ≡ None → now.turns ≤ g.most → Agrees g (gathering t before) variables state (machine_of now val.Unit gathered g.fields g.instance)
  join_agrees t now before variables gathered state same are of_setting nowhere few = record {
    known = same.known;
    room = same.room;
    room_there = same.room_there;
    few = few;
    gathers = record { same = of_setting; members = λ u is. absurd (none_some u (sym on.no_members ∙ is)); are_values = λ u is. absurd (none_some u (sym on.no_members ∙ is)) };
    gathered = λ u is. subst (λ z. AreOf z gathered) (some_is t u is) are;
    key = λ has. absurd (false≢true has);
    at_site = λ f is. absurd (none_some f is);
    fields = record { same_fields = sym (none_same g state nowhere); same_instance = refl; of_class = λ f h is there. absurd (none_some f (sym nowhere ∙ is)) };
  }

pub blocks_run : BlocksRun
blocks_run g on whole at task field key block now variables b state part carries none few call fields runs =
    from_here on whole (source.Then (block ∷ []) ∷ now.frames) b.level (at + 1) b.left (in_block field b.before) b.laid b.few variables state (machine_of now (unwrap_or key val.Unit) [] g.fields g.instance)
    (block_agrees on whole field key now b.before variables state b.same b.is_key part carries none few) call fields runs

pub joins_go_on : JoinsGoOn
joins_go_on g on whole at task field method args now variables v gathered are of_setting nowhere few state call fields runs =
    from_here on whole now.frames v.level (at + 1 + (length args + 2)) v.left (gathering v.sig.result v.before) v.laid v.few variables state (machine_of now val.Unit gathered g.fields g.instance)
    (join_agrees on whole v.sig.result now v.before variables gathered state v.same are of_setting nowhere few) call fields runs
