-- The calls of a class of the form, one after the other, as plain Java runs them.
use Rattle.std.proofs.Common.{◌≡◌, ℕ, ◌+◌, ◌<◌, ◌≤◌, Result, Ok, Err, List, [], ◌∷◌, ◌++◌, map, Some, length, drop, get_or, add-one, length-append, sym, ◌∙◌, ap, subst, refl, arith}
use Rattle.std.specs.List.{zip}
use Rattle.std.specs.Result.{IfOk}
use Rattle.std.proofs.Math.Seq.{drop-cons, append_snoc}
use Rattle.std.proofs.lemmas.List.{drop_all, append-nil}
use Rattle.std.proofs.lemmas.Option.{slice_get_within, get_or_from_slice_get}
use Rattle.sdg_base.specs.declared.val.Val.{Val}
use Rattle.sdg_base.specs.declared.val.Outcome.{Outcome}
use Rattle.sdg_base.specs.declared.call.Call.{Call}
use Rattle.early_forms.specs.declared.straight.StraightMethod.{StraightMethod}
use Rattle.early_forms.specs.declared.straight.StraightClass.{StraightClass}
use Rattle.early_forms.specs.Names.{IsProper, MethodIsProper, BodyIsKnown}
use Rattle.early_forms.specs.Trees.{class_tree, method_tree, body_tree}
use Rattle.early_tables.specs.Entries.{Entries}
use Rattle.early_source.specs.Variables.{Variables, Tables}
use Rattle.early_source.specs.Members.{fields, empty_tables}
use Rattle.early_plain.specs.Bodies.{begin_at}
use Rattle.early_plain.specs.Fits.{CallFits}
use Rattle.early_plain.specs.Plain.{Completes, Runs, RunAll, ArePlain}
use Rattle.early_plain.specs.Scopes.{names_in}
use Rattle.early_plain.proofs.ClassTrees.{fields-class_tree, empty_tables-class_tree, method_at, variables_of-method_tree}

-- the method of a call
pub is_method : (c : StraightClass) (call : Call) (m : StraightMethod) (ms : List StraightMethod) (fits : CallFits c call) → ms ≡ c.methods → m ≡ get_or ms call.method m → m ≡ fits.method
is_method c call m ms fits same is = is ∙ ap (λ (xs : List StraightMethod). get_or xs call.method m) same ∙ get_or_from_slice_get c.methods call.method fits.method m fits.is_method

method_known : (c : StraightClass) (call : Call) → IsProper c → (fits : CallFits c call) → BodyIsKnown c.fields fits.method.parameters fits.method.statements fits.method.ending
method_known c call proper fits =
    (subst (MethodIsProper c.fields) (get_or_from_slice_get c.methods call.method fits.method fits.method fits.is_method) (proper.methods call.method fits.method (slice_get_within c.methods call.method fits.method fits.is_method))).known

pub call_known : (c : StraightClass) (call : Call) (m : StraightMethod) (names : List (List ℕ)) → IsProper c → (fits : CallFits c call) → m ≡ fits.method → names ≡ c.fields
    → BodyIsKnown names m.parameters m.statements m.ending
call_known c call m names proper fits is same =
    subst (λ (xs : List (List ℕ)). BodyIsKnown xs m.parameters m.statements m.ending) (sym same)
    (subst (λ (x : StraightMethod). BodyIsKnown c.fields x.parameters x.statements x.ending) (sym is) (method_known c call proper fits))

pub runs_call : (c : StraightClass) (call : Call) (m : StraightMethod) (names : List (List ℕ)) (args : List Val) (old : Tables) (end : Outcome) (new : Tables) (fits : CallFits c call) → m ≡ fits.method → names ≡ c.fields
    → args ≡ call.args → Completes names (body_tree m.statements m.ending) (begin_at (zip m.parameters args) old) end new → Runs (class_tree c) call old end new
runs_call c call m names args old end new fits is same args_are completes =
    let by_fields : Completes (fields (class_tree c)) (body_tree m.statements m.ending) (begin_at (zip m.parameters args) old) end new =
    subst (λ (xs : List (List ℕ)). Completes xs (body_tree m.statements m.ending) (begin_at (zip m.parameters args) old) end new) (same ∙ sym (fields-class_tree c)) completes in
    let variables = ap (zip m.parameters) args_are ∙ sym (variables_of-method_tree m call.args) in
    record {
      method = method_tree m;
      is_method = method_at c call.method m (fits.is_method ∙ ap Some (sym is));
      completes = subst (λ (vs : Variables). Completes (fields (class_tree c)) (body_tree m.statements m.ending) (begin_at vs old) end new) variables by_fields;
    }

-- ---- call after call

-- what is known before a call
pub record CallsFrom (c : StraightClass) (calls : List Call) (n : ℕ) (now : Tables) (ends : List Outcome) : Type 0 where
  pub fields_are : names_in now ≡ c.fields
  pub count : length ends ≡ n
  pub whole : (later : List Outcome) (last : Tables) → RunAll (class_tree c) (drop n calls) now later last → RunAll (class_tree c) calls (empty_tables (class_tree c)) (ends ++ later) last

names_in-empty : (names : List (List ℕ)) → names_in {A = Entries} (map (λ name. (name, [])) names) ≡ names
names_in-empty [] = refl
names_in-empty (name ∷ names) = ap (λ (xs : List (List ℕ)). name ∷ xs) (names_in-empty names)

pub calls_start : (c : StraightClass) (calls : List Call) (names : List (List ℕ)) (now : Tables) → names ≡ c.fields → now ≡ map (λ name. (name, [])) names → CallsFrom c calls 0 now []
calls_start c calls names now same is =
    let empty : now ≡ map (λ name. (name, [])) c.fields = is ∙ ap (map (λ name. (name, []))) same in
    record {
      fields_are = ap names_in empty ∙ names_in-empty c.fields;
      count = refl;
      whole = λ later last all. subst (λ (old : Tables). RunAll (class_tree c) calls old later last) (empty ∙ sym (empty_tables-class_tree c)) all;
    }

pub calls_go_on : (c : StraightClass) (calls items : List Call) (n : ℕ) (now : Tables) (ends : List Outcome) (call : Call) (end : Outcome) (next : Tables) → CallsFrom c calls n now ends → items ≡ calls
    → n < length items → call ≡ get_or items n call → Runs (class_tree c) call now end next → names_in next ≡ c.fields → CallsFrom c calls (n + 1) next (ends ++ end ∷ [])
calls_go_on c calls items n now ends call end next so_far same l is runs fields_are =
    let within : n < length calls = rw same at l in
    let at : call ≡ get_or calls n call = is ∙ ap (λ (xs : List Call). get_or xs n call) same in
    let here : drop n calls ≡ call ∷ drop (n + 1) calls = rw (add-one, drop-cons calls n call, ← at) in
    record {
      fields_are = fields_are;
      count = length-append ends (end ∷ []) ∙ ap (λ (k : ℕ). k + 1) so_far.count;
      whole = λ later last all.
          subst (λ (outcomes : List Outcome). RunAll (class_tree c) calls (empty_tables (class_tree c)) outcomes last) (sym (append_snoc ends end later))
          (so_far.whole (end ∷ later) last (subst (λ (xs : List Call). RunAll (class_tree c) xs now (end ∷ later) last) (sym here) (next, runs, all)));
    }

module _ (c : StraightClass) (calls items : List Call) (n : ℕ) (now : Tables) (ends : List Outcome) (so_far : CallsFrom c calls n now ends) (same : items ≡ calls) (l : length items ≤ n) where
  pub calls_end : ArePlain (class_tree c) calls ends
  calls_end =
      let past : length calls ≤ n = rw same at l in
      let none : RunAll (class_tree c) (drop n calls) now [] now = subst (λ (xs : List Call). RunAll (class_tree c) xs now [] now) (sym (drop_all n calls past)) refl in
      (now, subst (λ (outcomes : List Outcome). RunAll (class_tree c) calls (empty_tables (class_tree c)) outcomes now) (append-nil ends) (so_far.whole [] now none))

  pub ends_each : n ≤ length items → length ends ≡ length calls
  ends_each m = let e : length items ≡ length calls = ap length same in let count : length ends ≡ n = so_far.count in omega arith

pub if_ok : {A E : Type 0} {P Q : A → Type 0} (r : Result A E) → ((x : A) → P x → Q x) → IfOk r P → IfOk r Q
if_ok (Ok x) f p = f x p
if_ok (Err e) f p = p
