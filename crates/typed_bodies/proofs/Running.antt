-- Each statement that a whole is made into is typed where what it needs is there.
use Rattle.std.proofs.Common.{◌≡◌, ℕ, zero, suc, Bool, true, false, not, ◌&&◌, ◌||◌, List, [], ◌∷◌, ◌++◌, nat_eq, slice_get, Option, Some, None, if◌then◌else◌, refl, sym, ap, ap₂, ◌∙◌, arith}
use Rattle.std.specs.Prelude.{All}
use Rattle.std.proofs.lemmas.Bool.Decides.{nat_tests}
use Rattle.std.specs.List.{list_all}
use Rattle.sdg_base.specs.declared.value_type.ValueType.{ValueType}
use Rattle.sdg_base.specs.declared.value_type.ValueType.TheVariants as type
use Rattle.sdg_base.specs.Signatures.{Signature}
use Rattle.flat_code.specs.Types.{same_type, same_types}
use Rattle.access_blocks.specs.declared.body.Access.{Access}
use Rattle.access_blocks.specs.declared.body.Expression.{Expression}
use Rattle.access_blocks.specs.declared.body.Gather.{Gather}
use Rattle.access_blocks.specs.declared.body.Statement.{Statement, roll-Statement}
use Rattle.access_blocks.specs.declared.body.Statement.TheOpen.{Statement-F}
use Rattle.access_blocks.specs.declared.body.Statement.TheOpen as s
use Rattle.access_blocks.specs.declared.body.Statement.TheVariants as statement
use Rattle.access_blocks.specs.declared.body.Statement.TheFolds.{fold-roll-Statement, map-Statement}
use Rattle.body_code.specs.Early.{is_in}
use Rattle.body_code.specs.Typing.{Needs, variable_type, type_of, types_of, needs, needs_of_all}
use Rattle.body_code.specs.Checking.{Surroundings, Standing, Around, Checking, outside, with_known, gathering, if_so, are_known, are_met, is_type, is_void, is_entry, is_partial, takes_gathered, assigned, targeted, gather, signature_of, takes_all, are_types, has_type, has_key}
use Rattle.marked_bodies.specs.Unmarked.{unmarked, unmarked_step, unmarked_access, and_outside, has_place}
use Rattle.typed_bodies.specs.Reading.{Place}
use Rattle.typed_bodies.specs.Needing.{InScope, IsWithin}
use Rattle.typed_bodies.specs.Targets.{Knows, KnowsRead, put_in}
use Rattle.typed_bodies.proofs.TypedVariables.{HasType, variables_typed, all_variables_typed}

-- ---- types

pub same_refl : (t : ValueType) → same_type t t ≡ true
same_refl type.Int = refl
same_refl type.Long = refl
same_refl type.Boolean = refl
same_refl type.Vector = refl
same_refl type.Void = refl

same_all : (ts : List ValueType) → same_types ts ts ≡ true
same_all [] = refl
same_all (t ∷ ts) = ap (λ b. if b then same_types ts ts else false) (same_refl t) ∙ same_all ts

pub is_of_type : (o : Option ValueType) (t : ValueType) → o ≡ Some t → is_type o t ≡ true
is_of_type o t e = ap (λ u. is_type u t) e ∙ same_refl t

pub both_hold : (a b : Bool) → a ≡ true → b ≡ true → (a && b) ≡ true
both_hold a b e f = ap₂ (λ c d. c && d) e f

-- ---- needs

itself : (n : ℕ) → nat_eq n n ≡ true
itself n = grind (arith, nat_tests)

or_second : (a b : Bool) → b ≡ true → (a || b) ≡ true
or_second true b e = refl
or_second false b e = e

pub first_in : (v : ℕ) (vs : List ℕ) → is_in v (v ∷ vs) ≡ true
first_in v vs = ap (λ b. b || is_in v vs) (itself v)

either : (b x y : Bool) → (x ≡ true → y ≡ true) → (b || x) ≡ true → (b || y) ≡ true
either true x y f e = refl
either false x y f e = f e

in_first : (v : ℕ) (vs us : List ℕ) → is_in v vs ≡ true → is_in v (vs ++ us) ≡ true
in_first v [] us e = absurd (cc)
in_first v (w ∷ vs) us e = either (nat_eq v w) (is_in v vs) (is_in v (vs ++ us)) (in_first v vs us) e

in_second : (v : ℕ) (vs us : List ℕ) → is_in v us ≡ true → is_in v (vs ++ us) ≡ true
in_second v [] us e = e
in_second v (w ∷ vs) us e = or_second (nat_eq v w) (is_in v (vs ++ us)) (in_second v vs us e)

module _ (p : Place) (st : Standing) where
  -- where everything is known, so is what is read
  pub knows_read : Knows p st → (reads : List ℕ) → KnowsRead p st reads
  knows_read knows reads v read scope t typed = knows v scope t typed

  pub knows_more : (v : ℕ) (vs : List ℕ) → KnowsRead p st (v ∷ vs) → KnowsRead p st vs
  knows_more v vs knows u read scope t typed = knows u (or_second (nat_eq u v) (is_in u vs) read) scope t typed

  pub knows_left : (vs us : List ℕ) → KnowsRead p st (vs ++ us) → KnowsRead p st vs
  knows_left vs us knows v read scope t typed = knows v (in_first v vs us read) scope t typed

  pub knows_right : (vs us : List ℕ) → KnowsRead p st (vs ++ us) → KnowsRead p st us
  knows_right vs us knows v read scope t typed = knows v (in_second v vs us read) scope t typed

  all_known : (vs : List ℕ) → All (InScope p) vs → All (HasType p.context) vs → KnowsRead p st vs → are_known st vs ≡ true
  all_known [] f g knows = refl
  all_known (v ∷ vs) f g knows =
      let typed = g zero v (omega arith) in
      both_hold (is_in v st.known) (are_known st vs) (knows v (first_in v vs) (f zero v (omega arith)) typed.0 typed.1)
      (all_known vs (λ k d less. f (suc k) d (omega arith)) (λ k d less. g (suc k) d (omega arith)) (knows_more v vs knows))

  within_met : (around : Surroundings) (n : Needs) → All (HasType p.context) n.variables → IsWithin p n → KnowsRead p st n.variables → are_met around st n ≡ true
  within_met around n typed w knows =
      both_hold (are_known st n.variables) _ (all_known n.variables w.variables typed knows)
      (both_hold (list_all (takes_gathered around st.gathered) n.merges) _ (ap (λ (ms : List ℕ). list_all (takes_gathered around st.gathered) ms) w.merges)
      (ap (λ k. not k || has_key around st.field) w.no_key))

  pub plain_met : (around : Surroundings) (a : Expression) (t : ValueType) → type_of p.context a ≡ Some t → IsWithin p (needs a) → KnowsRead p st (needs a).variables → are_met around st (needs a) ≡ true
  plain_met around a t typed w knows = within_met around (needs a) (variables_typed p.context a t typed) w knows

  pub all_met : (around : Surroundings) (args : List Expression) (ts : List ValueType) → types_of p.context args ≡ Some ts → IsWithin p (needs_of_all args) → KnowsRead p st (needs_of_all args).variables
      → are_met around st (needs_of_all args) ≡ true
  all_met around args ts typed w knows = within_met around (needs_of_all args) (all_variables_typed p.context args ts typed) w knows

-- ---- statements

module _ (around : Surroundings) (exits : Around) (st : Standing) where
  at_layer : (layer : Statement-F Statement) {made : Statement} → roll-Statement layer ≡ made
      → unmarked around made exits st ≡ unmarked_step around (map-Statement Statement Checking (unmarked around) layer) exits st
  at_layer layer rolled =
      ap (λ (made : Statement). unmarked around made exits st) (sym rolled)
      ∙ ap (λ (check : Checking). check exits st) (fold-roll-Statement Checking (unmarked_step around) layer)

  pub assign_runs : (v : ℕ) (a : Expression) (t : ValueType) → type_of around.context a ≡ Some t → variable_type around.context v ≡ Some t → are_met around st (needs a) ≡ true
      → unmarked around (statement.Assign v a) exits st ≡ Some (with_known v (outside st))
  assign_runs v a t typed to met =
      at_layer (s.Assign v a) (statement.rolls-Assign v a)
      ∙ ap₂ (λ o b. and_outside (assigned around v o b st)) typed met
      ∙ ap (λ b. and_outside (if_so b (with_known v st))) (is_of_type _ t to)

  pub evaluate_runs : (a : Expression) (t : ValueType) → type_of around.context a ≡ Some t → are_met around st (needs a) ≡ true
      → unmarked around (statement.Evaluate a) exits st ≡ Some (outside st)
  evaluate_runs a t typed met =
      at_layer (s.Evaluate a) (statement.rolls-Evaluate a)
      ∙ ap₂ (λ b o. and_outside (if_so (b && has_type o) st)) met typed

  pub return_runs : (a : Expression) → type_of around.context a ≡ Some around.result → is_void around.result ≡ false → are_met around st (needs a) ≡ true
      → unmarked around (statement.Return (Some a)) exits st ≡ Some (outside st)
  return_runs a typed value met =
      at_layer (s.Return (Some a)) (statement.rolls-Return (Some a))
      ∙ ap (λ b. and_outside (if_so b st)) (both_hold _ _ (both_hold _ _ met (is_of_type _ around.result typed)) (ap not value))

  pub set_runs : (v : ℕ) (at a : Expression) → variable_type around.context v ≡ Some type.Vector → is_in v st.known ≡ true
      → type_of around.context at ≡ Some type.Int → are_met around st (needs at) ≡ true
      → type_of around.context a ≡ Some type.Long → are_met around st (needs a) ≡ true
      → unmarked around (statement.SetElement v at a) exits st ≡ Some (outside st)
  set_runs v at a to known index index_met value value_met =
      at_layer (s.SetElement v at a) (statement.rolls-SetElement v at a)
      ∙ ap (λ b. and_outside (if_so b st)) (both_hold _ _ (is_of_type _ type.Vector to) (both_hold _ _ known
      (both_hold _ _ (both_hold _ _ index_met (is_of_type _ type.Int index)) (both_hold _ _ value_met (is_of_type _ type.Long value)))))

  all_taken : (at : Standing) (args : List Expression) (ts : List ValueType) → types_of around.context args ≡ Some ts → are_met around at (needs_of_all args) ≡ true → takes_all around at args ts ≡ true
  all_taken at args ts typed met = both_hold _ _ met (ap (λ o. are_types o ts) typed ∙ same_all ts)

  -- an access in an entry method, with arguments of the types that its method takes
  module _ (a : Access) (sig : Signature) (signed : signature_of around a.field a.method ≡ Some sig) (entry : is_entry around.kind ≡ true) (typed : types_of around.context a.args ≡ Some sig.arguments) where
    pub access_runs : has_place around a sig a.choice ≡ true → are_met around (outside st) (needs_of_all a.args) ≡ true
        → targeted around a.target sig.result (outside st) ≡ Some (put_in a.target st) → unmarked around (statement.Access a) exits st ≡ Some (put_in a.target st)
    access_runs place met goes =
        at_layer (s.Access a) (statement.rolls-Access a)
        ∙ (ap (λ o. unmarked_access around a o (outside st)) signed
        ∙ (ap (λ b. if b then targeted around a.target sig.result (outside st) else None) (both_hold _ _ entry (both_hold _ _ place (all_taken (outside st) a.args sig.arguments typed met)))
        ∙ goes))

    pub gather_runs : is_partial (slice_get around.fields a.field) ≡ true → are_met around st (needs_of_all a.args) ≡ true
        → unmarked around (statement.Gather (record { field = a.field; method = a.method; args = a.args })) exits st ≡ Some (gathering sig.result st)
    gather_runs partial met =
        let g : Gather = record { field = a.field; method = a.method; args = a.args } in
        at_layer (s.Gather g) (statement.rolls-Gather g)
        ∙ (ap (λ o. gather around g o st) signed
        ∙ ap (λ b. if_so b (gathering sig.result st)) (both_hold _ _ entry (both_hold _ _ partial (all_taken st a.args sig.arguments typed met))))
