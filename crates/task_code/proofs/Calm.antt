-- Where no field's state is there, no instruction accesses one.
use Rattle.std.proofs.Common.{◌≡◌, ℤ, ℕ, zero, suc, Bool, true, false, List, [], ◌∷◌, Option, Some, None, Result, Ok, Err, refl, sym, ap, ◌∙◌, arith}
use Rattle.std.specs.Prelude.{if◌then◌else◌}
use Rattle.std.proofs.lemmas.Bool.{false≢true}
use Rattle.std.proofs.lemmas.Grind.{common_steps}
use Rattle.std.specs.List.{slice_get}
use Rattle.sdg_base.specs.declared.val.Exn.{Exn}
use Rattle.sdg_base.specs.declared.val.Val.{Val}
use Rattle.sdg_base.specs.declared.val.Val.TheVariants as val
use Rattle.sdg_base.specs.Operations.{unary_operation, converted}
use Rattle.state_classes.specs.declared.method.Method.{Method}
use Rattle.flat_code.specs.declared.graph.GraphMethod.{GraphMethod}
use Rattle.flat_code.specs.declared.graph.Instr.{Instr}
use Rattle.flat_code.specs.declared.graph.Instr.TheVariants as instr
use Rattle.flat_code.specs.Machine.{Setting, Frame, Performed, Called, Gave, Failed, Calls, Goes, Accesses, Ends, perform_on, pushed, answered, operated, stored, turned, new_vector, element, element_set, set_at, member, with_member, with_found, member_size, member_checked, member_element, found, item_at, at_index, size_of, variable_in, call, call_on, arguments, after_call, access, access_by, is_own_field, key_value}
use Rattle.flat_code.specs.Types.{signature_at}
use Rattle.task_code.specs.Seen.{seen}

abbrev pub is_calm : Option Performed → Bool
is_calm (Some (Accesses m args f)) = false
is_calm p = true

calm-pushed : (o : Option Val) (stack : List Val) (f : Frame) → is_calm (pushed o stack f) ≡ true
calm-pushed None stack f = refl
calm-pushed (Some v) stack f = refl

calm-answered : (o : Option (Result Val Exn)) (stack : List Val) (f : Frame) → is_calm (answered o stack f) ≡ true
calm-answered None stack f = refl
calm-answered (Some (Ok v)) stack f = refl
calm-answered (Some (Err e)) stack f = refl

calm-stored : (v : ℕ) (x : Val) (stack : List Val) (f : Frame) → is_calm (stored v x stack f) ≡ true
calm-stored v x stack f = grind (arith, common_steps)

calm-turned : (n : ℕ) (f : Frame) → is_calm (turned n f) ≡ true
calm-turned zero f = refl
calm-turned (suc n) f = refl

calm-new_vector : (n : Val) (stack : List Val) (f : Frame) → is_calm (new_vector n stack f) ≡ true
calm-new_vector n stack f = grind (arith, common_steps)

calm-found : (o : Option Val) (stack : List Val) (f : Frame) → is_calm (found o stack f) ≡ true
calm-found None stack f = refl
calm-found (Some v) stack f = refl

calm-element : (o : Option Val) (i : Val) (stack : List Val) (f : Frame) → is_calm (element o i stack f) ≡ true
calm-element o i stack f = grind (arith, common_steps, calm-found)

calm-set_at : (v : ℕ) (longs : List ℤ) (i : Option ℕ) (x : ℤ) (stack : List Val) (f : Frame) → is_calm (set_at v longs i x stack f) ≡ true
calm-set_at v longs i x stack f = grind (arith, common_steps)

calm-element_set : (v : ℕ) (o : Option Val) (i x : Val) (stack : List Val) (f : Frame) → is_calm (element_set v o i x stack f) ≡ true
calm-element_set v o i x stack f = grind (arith, common_steps, calm-set_at)

calm-member : (members : List Val) (i : Val) (stack : List Val) (f : Frame) → is_calm (member members i stack f) ≡ true
calm-member members i stack f = grind (arith, common_steps, calm-found)

calm-with_found : (o : Option Val) (g : Val → Option Performed) (f : Frame) → ((v : Val) → is_calm (g v) ≡ true) → is_calm (with_found o g f) ≡ true
calm-with_found None g f calm = refl
calm-with_found (Some v) g f calm = calm v

calm-with_member : (members : List Val) (i : Val) (g : Val → Option Performed) (f : Frame) → ((v : Val) → is_calm (g v) ≡ true) → is_calm (with_member members i g f) ≡ true
calm-with_member members (val.Int i) g f calm = calm-with_found (item_at members (at_index i)) g f calm
calm-with_member members (val.Long i) g f calm = refl
calm-with_member members (val.Bool i) g f calm = refl
calm-with_member members (val.Vector i) g f calm = refl
calm-with_member members val.Unit g f calm = refl

calm-after_call : (o : Option Called) (stack : List Val) (f : Frame) → is_calm (after_call o stack f) ≡ true
calm-after_call None stack f = refl
calm-after_call (Some (Gave v turns)) stack f = refl
calm-after_call (Some (Failed how turns)) stack f = refl

calm-call_on : (calls : Calls) (m : ℕ) (taken : Option (List Val × List Val)) (f : Frame) → is_calm (call_on calls m taken f) ≡ true
calm-call_on calls m None f = refl
calm-call_on calls m (Some taken) f = calm-after_call (calls m taken.0 [] f.turns) taken.1 f

calm-call : (calls : Calls) (m : ℕ) (method : Option GraphMethod) (stack : List Val) (f : Frame) → is_calm (call calls m method stack f) ≡ true
calm-call calls m None stack f = refl
calm-call calls m (Some method) stack f = calm-call_on calls m (arguments method.params stack) f

calm-access : (s : Setting) (name : List ℕ) (m : Method) (stack : List Val) (f : Frame) → s.field ≡ None → is_calm (access s name m stack f) ≡ true
calm-access s name m stack f none =
    ap (λ (own : Option (List ℕ)). is_calm (if is_own_field own name then access_by m (signature_at s.fields name m) stack f else None)) none

calm : (s : Setting) (i : Instr) (stack : List Val) (f : Frame) → s.field ≡ None → is_calm (perform_on s i stack f) ≡ true
calm s (instr.Int n) stack f none = refl
calm s (instr.Long n) stack f none = refl
calm s (instr.Bool b) stack f none = refl
calm s (instr.Load v) stack f none = calm-pushed (variable_in f v) stack f
calm s (instr.Store v) [] f none = refl
calm s (instr.Store v) (x ∷ stack) f none = calm-stored v x stack f
calm s instr.Pop [] f none = refl
calm s instr.Pop (x ∷ stack) f none = refl
calm s (instr.Bin op t) [] f none = refl
calm s (instr.Bin op t) (b ∷ []) f none = refl
calm s (instr.Bin op t) (b ∷ a ∷ stack) f none = calm-answered (operated op t a b) stack f
calm s (instr.Un op) [] f none = refl
calm s (instr.Un op) (a ∷ stack) f none = calm-pushed (unary_operation op a) stack f
calm s (instr.Cast t) [] f none = refl
calm s (instr.Cast t) (a ∷ stack) f none = calm-pushed (converted t a) stack f
calm s (instr.Jump to) stack f none = refl
calm s (instr.IfFalse to) stack f none = grind (arith, common_steps)
calm s instr.Turn stack f none = calm-turned f.turns f
calm s instr.NewVector [] f none = refl
calm s instr.NewVector (n ∷ stack) f none = calm-new_vector n stack f
calm s (instr.VectorSize v) stack f none = calm-pushed (size_of (variable_in f v)) stack f
calm s (instr.VectorGet v) [] f none = refl
calm s (instr.VectorGet v) (i ∷ stack) f none = calm-element (variable_in f v) i stack f
calm s (instr.VectorSet v) [] f none = refl
calm s (instr.VectorSet v) (x ∷ []) f none = refl
calm s (instr.VectorSet v) (x ∷ i ∷ stack) f none = calm-element_set v (variable_in f v) i x stack f
calm s (instr.CollectionLength v) stack f none = refl
calm s (instr.CollectionItem v) [] f none = refl
calm s (instr.CollectionItem v) (i ∷ stack) f none = calm-member s.gathered i stack f
calm s (instr.CollectionSize v) [] f none = refl
calm s (instr.CollectionSize v) (i ∷ stack) f none = calm-with_member s.gathered i (member_size stack f) f (λ x. calm-pushed (size_of (Some x)) stack f)
calm s (instr.CollectionCheck v) [] f none = refl
calm s (instr.CollectionCheck v) (i ∷ stack) f none = calm-with_member s.gathered i (member_checked i stack f) f (λ x. refl)
calm s (instr.CollectionGet v) [] f none = refl
calm s (instr.CollectionGet v) (j ∷ []) f none = refl
calm s (instr.CollectionGet v) (j ∷ i ∷ stack) f none = calm-with_member s.gathered i (member_element j stack f) f (λ x. calm-element (Some x) j stack f)
calm s (instr.Call m) stack f none = calm-call s.calls m (slice_get s.methods m) stack f
calm s instr.Key stack f none = calm-pushed (key_value s.key) stack f
calm s (instr.Access name m) stack f none = calm-access s name m stack f none
calm s (instr.Cut t) stack f none = refl
calm s (instr.Part t) stack f none = refl
calm s (instr.Merge m) stack f none = calm-after_call (s.calls m (val.Unit ∷ []) s.gathered f.turns) stack f
calm s instr.Return [] f none = refl
calm s instr.Return (v ∷ stack) f none = refl
calm s instr.ReturnVoid stack f none = refl

seen_calm : (p : Option Performed) → is_calm (seen p) ≡ is_calm p
seen_calm None = refl
seen_calm (Some (Goes f)) = refl
seen_calm (Some (Accesses m args f)) = refl
seen_calm (Some (Ends e f)) = refl

pub no_access : (s : Setting) (i : Instr) (stack : List Val) (f f' : Frame) (m : Method) (args : List Val) → s.field ≡ None → seen (perform_on s i stack f) ≡ Some (Accesses m args f') → ⊥
no_access s i stack f f' m args none e =
    false≢true (sym (ap is_calm e) ∙ seen_calm (perform_on s i stack f) ∙ calm s i stack f none)
