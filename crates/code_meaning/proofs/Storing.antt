-- The arguments of an access to each instance are carried by variables of their own: each is evaluated and stored, and those of the
-- body stay as they are.
use Rattle.std.proofs.Common.{◌≡◌, ◌≢◌, ◌≤◌, ◌<◌, ◌+◌, refl, sym, ap, subst, ◌∙◌, ℕ, zero, suc, arith, List, [], ◌∷◌, map, length, Option, Some, None, slice_get, slice_set}
use Rattle.std.specs.List.{AllByRecursion}
use Rattle.sdg_base.specs.declared.val.Val.{Val}
use Rattle.sdg_base.specs.declared.value_type.ValueType.{ValueType}
use Rattle.sdg_base.specs.Types as values
use Rattle.state_classes.specs.States.{State}
use Rattle.flat_code.specs.declared.graph.Instr.TheVariants as instr
use Rattle.access_blocks.specs.declared.body.Expression.{Expression}
use Rattle.access_blocks.specs.Expressions.{Ended, Gives, Ends, Seen, outcome_of, followed, value_of, values_of}
use Rattle.access_blocks.specs.Statements.{Machine}
use Rattle.body_code.specs.Typing.{Context, with_type, type_of, types_of, needs, needs_of_all}
use Rattle.body_code.specs.ExpressionCode.{behind, code_of}
use Rattle.body_code.specs.StatementCode.{stored_from}
use Rattle.body_code.specs.Checking.{Standing}
use Rattle.code_meaning.specs.Laid.{IsLaid, frame, Leads, Stops}
use Rattle.code_meaning.specs.Evaluating.{IsValue, HasSame, Meets, GathersSame, Evaluates}
use Rattle.code_meaning.specs.Running.{Ground, IsGround, Agrees}
use Rattle.code_meaning.proofs.Lists.{none_some, some_is, get_set, get_set_other, length_set}
use Rattle.code_meaning.proofs.Running.{laid_two, stays, leads_on, leads_to, stops_on, stops_wider}
use Rattle.code_meaning.proofs.Sizes.{code_sized, behind_sized}
use Rattle.code_meaning.proofs.Operands.{on_stack}
use Rattle.code_meaning.proofs.Expressions.{meets_both, expression_right}
use Rattle.code_meaning.proofs.Agreeing.{variable_within}
use Rattle.code_meaning.proofs.Simple.{stores}

differs : (a b : ℕ) → a < b → a ≢ b
differs a b less e = let z : a < a = subst (λ c. a < c) (sym e) less in absurd (below z)
  where
    below : a < a → ⊥
    below z = omega arith

-- ---- variables behind those of the body

same_stored : (c : Context) (here there : List Val) (v : ℕ) (x : Val) → length c.variables ≤ v → (w : ℕ) → HasSame c here there w → HasSame c (slice_set here v x) there w
same_stored c here there v x behind_all w h =
    let a = variable_within c w h.type h.is_type in
    let less : w < v = omega arith in
    record { type = h.type; value = h.value; is_type = h.is_type; has_type = h.has_type; is_here = get_set_other here v w x (differs w v less) ∙ h.is_here; is_there = h.is_there }

all_same : (c : Context) (here there : List Val) (v : ℕ) (x : Val) → length c.variables ≤ v → (ws : List ℕ) → AllByRecursion (HasSame c here there) ws → AllByRecursion (HasSame c (slice_set here v x) there) ws
all_same c here there v x behind_all [] h = tt
all_same c here there v x behind_all (w ∷ ws) h = (same_stored c here there v x behind_all w h.0, all_same c here there v x behind_all ws h.1)

-- those of the body are as they were
pub agrees_kept : {g : Ground} {st : Standing} {variables : List Val} {state : State} {m : Machine} (v : ℕ) (after : List Val) → length g.around.context.variables ≤ v → ((w : ℕ) → w < v → slice_get after w ≡ slice_get variables w) → length after ≡ length variables
    → Agrees g st variables state m → Agrees g st after state m
agrees_kept {g} {st} {variables} {state} {m} v after behind_all before long h = record {
  known = λ w is.
      let k = h.known w is in
      let a = variable_within g.around.context w k.type k.is_type in
      let less : w < v = omega arith in
      record { type = k.type; value = k.value; is_type = k.is_type; has_type = k.has_type; is_here = before w less ∙ k.is_here; is_there = k.is_there };
  room = subst (λ n. n ≡ g.many) (sym long) h.room;
  room_there = h.room_there;
  few = h.few;
  gathers = h.gathers;
  gathered = h.gathered;
  key = h.key;
  at_site = h.at_site;
  fields = h.fields;
}

-- ---- arguments that are stored

pub record KeepsAll (g : Ground) (n at turns : ℕ) (before : List Val) (state : State) (to v : ℕ) (ts : List ValueType) (vs : List Val) (left : ℕ) : Type 0 where
  pub types : map values.type_of vs ≡ ts
  pub variables : List Val
  pub leads : Leads g.setting g.code n (frame at [] before turns) state (frame to [] variables left) state
  pub carried : (k : ℕ) (x : Val) → slice_get vs k ≡ Some x → slice_get variables (v + k) ≡ Some x
  pub kept : (w : ℕ) → w < v → slice_get variables w ≡ slice_get before w
  pub long : length variables ≡ length before

abbrev pub Keeps : (g : Ground) (n at turns : ℕ) (before : List Val) (state : State) (to v : ℕ) (ts : List ValueType) → Ended (List Val) → Type 0
Keeps g n at turns before state to v ts (Gives vs left) = KeepsAll g n at turns before state to v ts vs left
Keeps g n at turns before state to v ts (Ends h) = Stops g.setting g.code n (frame at [] before turns) state (outcome_of h) state

pub record StoresAll (g : Ground) (n at turns : ℕ) (before : List Val) (state : State) (to v : ℕ) (ts : List ValueType) (given : Ended (List Val)) : Type 0 where
  pub does : Keeps g n at turns before state to v ts given

carried_more : (after vs : List Val) (v : ℕ) (x : Val) → slice_get after v ≡ Some x → ((k : ℕ) (y : Val) → slice_get vs k ≡ Some y → slice_get after (suc v + k) ≡ Some y) → (k : ℕ) (y : Val) → slice_get (x ∷ vs) k ≡ Some y → slice_get after (v + k) ≡ Some y
carried_more after vs v x first more zero y is = let e : v + 0 ≡ v = omega arith in ap (slice_get after) e ∙ first ∙ is
carried_more after vs v x first more (suc k) y is = let e : v + suc k ≡ suc v + k = omega arith in ap (slice_get after) e ∙ more k y is

module _ {g : Ground} (ground : IsGround g) (seen : Seen) (same : GathersSame g.around.context g.setting seen) where
  with_rest : {na nb at a left turns to v : ℕ} {before : List Val} {state : State} {r : ValueType} {rs : List ValueType} (x : Val) (more : Ended (List Val)) → values.type_of x ≡ r → v < length before
      → Leads g.setting g.code na (frame at [] before turns) state (frame a [] (slice_set before v x) left) state → StoresAll g nb a left (slice_set before v x) state to (suc v) rs more
      → StoresAll g (na + nb) at turns before state to v (r ∷ rs) (followed more (λ vs rest. Gives (x ∷ vs) rest))
  with_rest {v = v} {before} x (Gives vs rest) has within p q =
      let here : v < suc v = omega arith in
      record {
        does = record {
          types = (λ i. has i ∷ q.does.types i);
          variables = q.does.variables;
          leads = leads_on g.setting g.code p q.does.leads;
          carried = carried_more q.does.variables vs v x (q.does.kept v here ∙ get_set before v x within) q.does.carried;
          kept = λ w less. let l : w < suc v = omega arith in q.does.kept w l ∙ get_set_other before v w x (differs w v less);
          long = q.does.long ∙ length_set before v x;
        };
      }
  with_rest x (Ends h) has within p q = record { does = stops_on g.setting g.code p q.does }

  first_and_rest : {na nb at a turns to v : ℕ} {before : List Val} {state : State} {r : ValueType} {rs : List ValueType} (x : Ended Val) (more : ℕ → Ended (List Val)) → IsValue r → v < length before → slice_get g.code a ≡ Some (instr.Store v)
      → Evaluates g.setting g.code na (frame at [] before turns) state a [] before r x
      → ((y : Val) (left : ℕ) → left ≤ turns → StoresAll g nb (a + 1) left (slice_set before v y) state to (suc v) rs (more left))
      → StoresAll g (na + 1 + nb) at turns before state to v (r ∷ rs) (followed x (λ y left. followed (more left) (λ vs rest. Gives (y ∷ vs) rest)))
  first_and_rest {na} {at = at} {a} {turns} {v = v} {before} {state} {r} (Gives y left) more value within is q each =
      with_rest y (more left) q.does.0 within
      (leads_on g.setting g.code (subst (λ stack. Leads g.setting g.code na (frame at [] before turns) state (frame a stack before left) state) (on_stack r y [] value q.does.0) q.does.1) (stores ground v y a left [] within is)) (each y left q.does.1.falls)
  first_and_rest (Ends h) more value within is q each = record { does = stops_wider g.setting g.code (omega arith) q.does }

  types_apart : (o : Option ValueType) (os : Option (List ValueType)) (ts : List ValueType) → with_type o os ≡ Some ts → (r : ValueType) × (rs : List ValueType) × (o ≡ Some r) × (os ≡ Some rs) × (r ∷ rs ≡ ts)
  types_apart (Some r) (Some rs) ts is = (r, rs, refl, refl, some_is (r ∷ rs) ts is)
  types_apart (Some r) None ts is = absurd (none_some ts is)
  types_apart None os ts is = absurd (none_some ts is)

  pub stores_all : (xs : List Expression) (ts : List ValueType) (v at turns : ℕ) (before : List Val) (state : State) → types_of g.around.context xs ≡ Some ts → AllByRecursion IsValue ts → Meets g.around.context g.setting before seen (needs_of_all xs)
      → length g.around.context.variables ≤ v → v + length xs ≤ length before → IsLaid g.code at ((stored_from g.around.context xs v).from at) → turns ≤ g.most
      → StoresAll g (stored_from g.around.context xs v).size at turns before state (at + (stored_from g.around.context xs v).size) v ts (values_of g.calls xs seen turns)
  stores_all [] ts v at turns before state is value meets behind_all room laid less =
      let z : at ≡ at + 0 = omega arith in
      record { does = record { types = some_is {A = List ValueType} [] ts is; variables = before; leads = leads_to g.setting g.code z (stays g.setting g.code); carried = λ k x e. absurd (none_some x e); kept = λ w l. refl; long = refl } }
  stores_all (x ∷ xs) ts v at turns before state is value meets behind_all room laid less =
      let c = g.around.context in
      let k = code_of c x in
      let rest = stored_from c xs (suc v) in
      let ty = types_apart (type_of c x) (types_of c xs) ts is in
      let hs : AllByRecursion IsValue (ty.0 ∷ ty.1) = subst (AllByRecursion IsValue) (sym ty.4) value in
      let outer = laid_two g.code at (k.size + 1) ((behind k (instr.Store v)).from at) (rest.from (at + (k.size + 1))) (behind_sized k (instr.Store v) (code_sized c x) at) laid in
      let inner = laid_two g.code at k.size (k.from at) (instr.Store v ∷ []) (code_sized c x at) outer.0 in
      let m = meets_both c g.setting before seen (needs x) (needs_of_all xs) meets in
      let within : v < length before = omega arith in
      let e1 : at + (k.size + 1) ≡ at + k.size + 1 = omega arith in
      let e2 : at + k.size + 1 + rest.size ≡ at + (k.size + 1 + rest.size) = omega arith in
      let there : IsLaid g.code (at + k.size + 1) (rest.from (at + k.size + 1)) = subst (λ a. IsLaid g.code a (rest.from a)) e1 outer.1 in
      subst (λ z. StoresAll g (k.size + 1 + rest.size) at turns before state z v ts (values_of g.calls (x ∷ xs) seen turns)) e2
      (subst (λ z. StoresAll g (k.size + 1 + rest.size) at turns before state (at + k.size + 1 + rest.size) v z (values_of g.calls (x ∷ xs) seen turns)) ty.4
      (first_and_rest (value_of g.calls x seen turns) (values_of g.calls xs seen) hs.0 within inner.1.0
      (expression_right c g.calls g.setting g.code g.most ground.calls_agree before seen same x ty.0 at turns [] state ty.2 m.0 inner.0 less) (λ y left fewer.
      let long : length (slice_set before v y) ≡ length before = length_set before v y in
      stores_all xs ty.1 (suc v) (at + k.size + 1) left (slice_set before v y) state ty.3 hs.1
      (record { variables = all_same c before seen.variables v y behind_all (needs_of_all xs).variables m.1.variables; merges = m.1.merges; key = m.1.key })
      (omega arith) (omega arith) there (omega arith))))
