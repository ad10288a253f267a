-- Where an access to each instance is come to, the code ends at a cut, and behind the cut stands the visit with its arguments.
use Rattle.std.proofs.Common.{◌≡◌, ◌≤◌, ◌+◌, refl, sym, ap, subst, ◌∙◌, ℕ, zero, suc, arith, true, false, ◌&&◌, List, [], ◌∷◌, ◌++◌, map, replicate, length, Option, Some, None, slice_get, length-append}
use Rattle.std.proofs.lemmas.Bool.{false≢true}
use Rattle.std.specs.List.{AllByRecursion, range_with_len, flat_map}
use Rattle.sdg_base.specs.declared.val.Val.{Val}
use Rattle.sdg_base.specs.declared.val.Outcome.TheVariants as outcome
use Rattle.sdg_base.specs.declared.value_type.ValueType.{ValueType}
use Rattle.sdg_base.specs.declared.value_type.ValueType.TheVariants as type
use Rattle.sdg_base.specs.Signatures.{Signature}
use Rattle.sdg_base.specs.Types as values
use Rattle.state_classes.specs.Methods.{signature}
use Rattle.state_classes.specs.States.{State}
use Rattle.flat_code.specs.declared.graph.Instr.{Instr}
use Rattle.flat_code.specs.declared.graph.Instr.TheVariants as instr
use Rattle.access_blocks.specs.declared.body.Expression.{Expression}
use Rattle.access_blocks.specs.declared.body.Gather.{Gather}
use Rattle.access_blocks.specs.declared.body.Holder.{Holder}
use Rattle.access_blocks.specs.Expressions.{Ended, Gives as GivesValue, Ends, values_of}
use Rattle.access_blocks.specs.Statements.{Machine, seen_by}
use Rattle.access_blocks.specs.Source as source
use Rattle.access_blocks.specs.Source.{Rests, Visiting, width_of, at_gather, having, spending, standing}
use Rattle.body_code.specs.Completing.{leaving}
use Rattle.body_code.specs.Typing.{Context, type_of, types_of, with_type, needs_of_all}
use Rattle.body_code.specs.StatementCode.{Place, cut, then_piece, stored, stored_from, visit, gather, behind_piece, var_type, arguments_of, field_name}
use Rattle.body_code.specs.StatementCode as code
use Rattle.body_code.specs.Checking.{Standing, Checking, is_entry, is_partial, takes_all, are_met, are_types, gathering}
use Rattle.body_code.specs.Checking as checking
use Rattle.code_meaning.specs.Laid.{IsLaid, frame}
use Rattle.code_meaning.specs.Evaluating.{IsValue}
use Rattle.code_meaning.specs.Running.{Ground, IsGround, scope_on, Agrees}
use Rattle.code_meaning.specs.Frames.{Level, AreLaid}
use Rattle.code_meaning.specs.Resting.{VisitStands}
use Rattle.code_meaning.specs.Stepping.{AreNamed, coded}
use Rattle.code_meaning.proofs.Lists.{none_some, some_is, both_true}
use Rattle.code_meaning.proofs.Running.{laid_two}
use Rattle.code_meaning.proofs.Agreeing.{are_types_are, meets_of}
use Rattle.code_meaning.proofs.PieceSizes.{stored_size, stored_piece_sized}
use Rattle.code_meaning.proofs.Growing.{if_so_is}
use Rattle.code_meaning.proofs.Simple.{arguments_are_values}
use Rattle.code_meaning.proofs.Storing.{KeepsAll, StoresAll, agrees_kept, stores_all}
use Rattle.code_meaning.proofs.Cutting.{cut_after, no_turn_left}
use Rattle.code_meaning.proofs.Marking.{variables_rest}
use Rattle.code_meaning.proofs.Reaching.{ends_by}
use Rattle.code_meaning.proofs.Laying.{Head}
use Rattle.code_meaning.proofs.Moving.{Gives, fields_left, stop_gives, halt_gives}

-- ---- how many variables are added

one_each : (t : ValueType) → IsValue t → length (var_type t) ≡ 1
one_each type.Int h = refl
one_each type.Long h = refl
one_each type.Boolean h = refl
one_each type.Vector h = refl
one_each type.Void h = absurd h

as_many : (ts : List ValueType) → AllByRecursion IsValue ts → length (flat_map var_type ts) ≡ length ts
as_many [] h = refl
as_many (t ∷ ts) h = (let a = one_each t h.0 in let b = as_many ts h.1 in let z = length-append (var_type t) (flat_map var_type ts) in omega arith)

length_typed : (o : Option ValueType) (os : Option (List ValueType)) (ts : List ValueType) → with_type o os ≡ Some ts → (rs : List ValueType) × (os ≡ Some rs) × (length ts ≡ suc (length rs))
length_typed (Some r) (Some rs) ts is = (rs, refl, sym (ap (λ (z : List ValueType). length z) (some_is (r ∷ rs) ts is)))
length_typed (Some r) None ts is = absurd (none_some ts is)
length_typed None os ts is = absurd (none_some ts is)

types_as_many : (c : Context) (xs : List Expression) (ts : List ValueType) → types_of c xs ≡ Some ts → length xs ≡ length ts
types_as_many c [] ts is = ap (λ (z : List ValueType). length z) (some_is {A = List ValueType} [] ts is)
types_as_many c (x ∷ xs) ts is =
    let k = length_typed (type_of c x) (types_of c xs) ts is in
    ap suc (types_as_many c xs k.0 k.1) ∙ sym k.2

values_as_many : (vs : List Val) → length (map values.type_of vs) ≡ length vs
values_as_many [] = refl
values_as_many (v ∷ vs) = ap suc (values_as_many vs)

a_holder : (o : Option Holder) → is_partial o ≡ true → (h : Holder) × (o ≡ Some h) × (h.is_partial ≡ true)
a_holder None is = absurd (false≢true is)
a_holder (Some h) is = (h, refl, is)

module _ {g : Ground} (ground : IsGround g) (whole : ℕ) (named : AreNamed g) where
  abbrev pub gather_check : Gather → Checking
  gather_check ga exits st = checking.gather g.around ga (checking.signature_of g.around ga.field ga.method) st

  -- what is checked of the access
  record IsGather (ga : Gather) (st mid : Standing) : Type 0 where
    pub sig : Signature
    pub holder : Holder
    pub is_holder : slice_get g.around.fields ga.field ≡ Some holder
    pub is_partial : holder.is_partial ≡ true
    pub is_signature : signature holder.class ga.method ≡ Some sig
    pub met : are_met g.around st (needs_of_all ga.args) ≡ true
    pub types : types_of g.around.context ga.args ≡ Some sig.arguments
    pub is_mid : gathering sig.result st ≡ mid

  is_gather : (ga : Gather) (o : Option Signature) (st mid : Standing) → checking.signature_of g.around ga.field ga.method ≡ o → checking.gather g.around ga o st ≡ Some mid → IsGather ga st mid
  is_gather ga None st mid signed is = absurd (none_some mid is)
  is_gather ga (Some sig) st mid signed is =
      let k = if_so_is (is_entry g.around.kind && (is_partial (slice_get g.around.fields ga.field) && takes_all g.around st ga.args sig.arguments)) (gathering sig.result st) mid is in
      let l = both_true (is_entry g.around.kind) (is_partial (slice_get g.around.fields ga.field) && takes_all g.around st ga.args sig.arguments) k.0 in
      let n = both_true (is_partial (slice_get g.around.fields ga.field)) (takes_all g.around st ga.args sig.arguments) l.1 in
      let p = both_true (are_met g.around st (needs_of_all ga.args)) (are_types (types_of g.around.context ga.args) sig.arguments) n.1 in
      let h = a_holder (slice_get g.around.fields ga.field) n.0 in
      record {
        sig = sig;
        holder = h.0;
        is_holder = h.1;
        is_partial = h.2;
        is_signature = sym (ap (λ o. checking.signature_in o ga.method) h.1) ∙ signed;
        met = p.0;
        types = are_types_are (types_of g.around.context ga.args) sig.arguments p.1;
        is_mid = k.1;
      }

  abbrev pub GatherHead : Gather → List source.Frame → Level → ℕ → Standing → ℕ → Type 0
  GatherHead ga frames level at st left = Head (coded g whole) frames (gather (scope_on g) ga) (gather_check ga) (leaving true false) true level at st left

  module _ (ga : Gather) (frames : List source.Frame) {level : Level} {at left : ℕ} {st : Standing} (h : GatherHead ga frames level at st left) (room : left ≤ whole) where
    abbrev p : Place
    p = h.place

    abbrev ns : ℕ
    ns = (stored g.around.context ga.args).size

    abbrev p1 : Place
    p1 = behind_piece p (stored g.around.context ga.args)

    abbrev p2 : Place
    p2 = behind_piece p1 cut

    abbrev cut_at : ℕ
    cut_at = p.at + ns + 1

    checks : IsGather ga st h.mid
    checks = is_gather ga (checking.signature_of g.around ga.field ga.method) st h.mid refl h.checked

    laid_stores : IsLaid g.code p.at ((stored g.around.context ga.args).from p level.exits) × IsLaid g.code p1.at ((then_piece cut (visit (scope_on g) ga)).from p1 level.exits)
    laid_stores = laid_two g.code p.at ns ((stored g.around.context ga.args).from p level.exits) ((then_piece cut (visit (scope_on g) ga)).from p1 level.exits) (stored_piece_sized g.around.context ga.args p level.exits) h.laid

    laid_cut : IsLaid g.code p1.at (cut.from p1 level.exits) × IsLaid g.code p2.at ((visit (scope_on g) ga).from p2 level.exits)
    laid_cut = laid_two g.code p1.at 2 (cut.from p1 level.exits) ((visit (scope_on g) ga).from p2 level.exits) refl laid_stores.1

    values_taken : AllByRecursion IsValue checks.sig.arguments
    values_taken = arguments_are_values checks.holder.class ga.method checks.sig checks.is_signature

    -- the graph has the signature too
    in_graph : code.signature_of (scope_on g) ga.field ga.method ≡ Some checks.sig
    in_graph =
        let n = named ga.field checks.holder checks.is_holder in
        ap (λ o. code.signature_in o ga.method) n.is_named ∙ ap (λ z. signature z ga.method) n.same_class ∙ checks.is_signature

    enough : p.variable + length ga.args ≤ g.many
    enough =
        let r = h.room in
        let a = types_as_many g.around.context ga.args checks.sig.arguments checks.types in
        let b = as_many checks.sig.arguments values_taken in
        let e : length (visit (scope_on g) ga).carried ≡ length (flat_map var_type checks.sig.arguments) = ap (λ o. length (flat_map var_type (arguments_of o))) in_graph in
        omega arith

    cut_laid : IsLaid g.code (p.at + ns) (instr.Turn ∷ instr.Cut p.task ∷ [])
    cut_laid = let t : p.task + 0 ≡ p.task = omega arith in subst (λ k. IsLaid g.code (p.at + ns) (instr.Turn ∷ instr.Cut k ∷ [])) t laid_cut.0

    abbrev visit_of : ℕ → ℕ → ℕ → List Instr
    visit_of variable many task = map instr.Load (range_with_len variable many) ++ (instr.Access (field_name (scope_on g) ga.field) ga.method ∷ instr.Part task ∷ [])

    visit_laid : (many : ℕ) → length ga.args ≡ many → IsLaid g.code (cut_at + 1) (visit_of p.variable many (suc p.task))
    visit_laid many is =
        let e : p2.at ≡ cut_at + 1 = omega arith in
        let v : p2.variable ≡ p.variable = omega arith in
        let t : p2.task ≡ suc p.task = omega arith in
        subst (λ a. IsLaid g.code a (visit_of p.variable many (suc p.task))) e
        (subst (λ k. IsLaid g.code p2.at (visit_of p.variable many k)) t
        (subst (λ k. IsLaid g.code p2.at (visit_of k many p2.task)) v (subst (λ k. IsLaid g.code p2.at (visit_of p2.variable k p2.task)) is laid_cut.1)))

    stands : {before : List Val} {state : State} {m : Machine} {to turns : ℕ} (vs : List Val) (rest left : ℕ) → (q : KeepsAll g ns p.at turns before state to p.variable checks.sig.arguments vs left) → Agrees g st before state m
        → VisitStands (coded g whole) cut_at p.task ga.field ga.method vs (standing frames m rest) q.variables
    stands vs rest left q agrees =
        let f = h.few in
        let fi = h.first in
        let e : suc (p.at + ns) ≡ cut_at = omega arith in
        let many : length ga.args ≡ length vs = types_as_many g.around.context ga.args checks.sig.arguments checks.types ∙ sym (ap (λ (l : List ValueType). length l) q.types) ∙ values_as_many vs in
        let behind : p.at + (ns + (2 + (length ga.args + 2))) ≡ cut_at + 1 + (length vs + 2) = omega arith in
        record {
          is_cut = subst (λ a. slice_get g.code a ≡ Some (instr.Cut p.task)) e cut_laid.1.0;
          holder = checks.holder;
          is_holder = checks.is_holder;
          is_partial = checks.is_partial;
          sig = checks.sig;
          is_signature = checks.is_signature;
          types = q.types;
          variable = p.variable;
          visit = visit_laid (length vs) many;
          carried = q.carried;
          before = st;
          level = level;
          left = h.later;
          laid =
              subst (λ a. AreLaid (coded g whole) frames level true a (gathering checks.sig.result st) h.later) behind
              (subst (λ s. AreLaid (coded g whole) frames level true (p.at + (ns + (2 + (length ga.args + 2)))) s h.later) (sym checks.is_mid) h.rest);
          few = omega arith;
          same = variables_rest whole (agrees_kept p.variable q.variables fi q.kept q.long agrees);
        }

    spend_gives : {before : List Val} {state : State} {m : Machine} (vs : List Val) (left_turns : ℕ) → KeepsAll g ns p.at m.turns before state (p.at + ns) p.variable checks.sig.arguments vs left_turns → Agrees g st before state m
        → Gives g whole left (frame p.at [] before m.turns) state (spending left_turns m (λ rest. Rests (Visiting ga.field ga.method vs (replicate (width_of ga.field m.fields) None) (standing frames m rest)) m.fields))
    spend_gives {m = m} vs zero q agrees = (let f = h.few in stop_gives g whole outcome.Limit m refl tt (no_turn_left g q.leads cut_laid) (omega arith) room agrees.fields)
    spend_gives {before} {state} {m} vs (suc rest) q agrees =
        let f = h.few in
        let l = q.leads.falls in
        record {
          gives = record {
            at = cut_at;
            task = p.task;
            variables = q.variables;
            next = state;
            ends = ends_by g.setting g.code whole (omega arith) (omega arith) (cut_after g q.leads cut_laid);
            stands = stands vs rest (suc rest) q agrees;
            none_made = refl;
            falls = omega arith;
            left = fields_left agrees.fields;
          };
        }

    args_gives : {before : List Val} {state : State} {m : Machine} (x : Ended (List Val)) → StoresAll g ns p.at m.turns before state (p.at + ns) p.variable checks.sig.arguments x → Agrees g st before state m
        → Gives g whole left (frame p.at [] before m.turns) state (having x m (λ vs turns. spending turns m (λ rest. Rests (Visiting ga.field ga.method vs (replicate (width_of ga.field m.fields) None) (standing frames m rest)) m.fields)))
    args_gives (GivesValue vs turns) q agrees = spend_gives vs turns q.does agrees
    args_gives {m = m} (Ends s) q agrees = (let f = h.few in halt_gives g whole s m q.does (omega arith) room agrees.fields)

    pub gather_gives : {variables : List Val} {state : State} {m : Machine} → Agrees g st variables state m → Gives g whole left (frame at [] variables m.turns) state (at_gather g.calls ga frames m)
    gather_gives {variables} {state} {m} agrees =
        let c = g.around.context in
        let n = stored_size c ga.args p.variable 0 in
        let fi = h.first in
        let r = agrees.room in
        let en = enough in
        let stores : StoresAll g (stored_from c ga.args p.variable).size p.at m.turns variables state (p.at + (stored_from c ga.args p.variable).size) p.variable checks.sig.arguments (values_of g.calls ga.args (seen_by m) m.turns) =
        stores_all ground (seen_by m) agrees.gathers ga.args checks.sig.arguments p.variable p.at m.turns variables state checks.types values_taken (meets_of agrees (needs_of_all ga.args) checks.met) fi (omega arith) laid_stores.0 agrees.few in
        subst (λ a. Gives g whole left (frame a [] variables m.turns) state (at_gather g.calls ga frames m)) h.is_at
        (args_gives (values_of g.calls ga.args (seen_by m) m.turns)
        (subst (λ k. StoresAll g k p.at m.turns variables state (p.at + k) p.variable checks.sig.arguments (values_of g.calls ga.args (seen_by m) m.turns)) n stores) agrees)
