-- A vector whose index is outside stays.
use Rattle.std.proofs.Common.{◌≡◌, ℕ, ◌<◌, List, ◌∷◌, length, get_or, Option, Some, None, IsSome, inl, inr, refl, ap, subst, ◌∙◌, arith}
use Rattle.std.proofs.Math.ListN.{set}
use Rattle.std.proofs.lemmas.Bool.{cases_lt, false≢true}
use Rattle.std.proofs.lemmas.Option.{slice_get_read, slice_get_past}
use Rattle.std.proofs.lemmas.Grind.{common_steps}
use Rattle.sdg_base.specs.declared.val.Val.{Val}
use Rattle.sdg_base.specs.declared.val.Exn.TheVariants as exn
use Rattle.flat_code.specs.declared.graph.Instr.TheVariants as instr
use Rattle.flat_code.specs.Machine.{Setting, Frame, Performed, perform_on, element_set, a_value, throws}
use Rattle.task_code.specs.Indices.{with_element}

set_to_same : (xs : List Val) (v : ℕ) (x : Val) → v < length xs → x ≡ get_or xs v x → set xs v x ≡ xs
set_to_same xs v x within there = grind (arith, common_steps)

element_outside : (v : ℕ) (was index element : Val) (stack : List Val) (f : Frame) → with_element was index element ≡ None → IsSome (element_set v (a_value (Some was)) index element stack f) → element_set v (a_value (Some was)) index element stack f ≡ throws exn.Index f
element_outside v was index element stack f outside some = grind (arith, common_steps)

pub is_variable : (s : Setting) (v : ℕ) (f : Frame) (element index : Val) (mid rest : List Val) → f.stack ≡ element ∷ mid → mid ≡ index ∷ rest → IsSome (perform_on s (instr.VectorSet v) f.stack f) → v < length f.variables
is_variable s v f element index mid rest top below some =
    let stack : f.stack ≡ element ∷ index ∷ rest = cc in
    let is = ap (λ (vs : List Val). perform_on s (instr.VectorSet v) vs f) stack in
    elim (cases_lt v (length f.variables)) [
      | inl within ↦ within
      | inr past ↦ absurd (false≢true (subst (λ (o : Option Performed). IsSome o) (is ∙ ap (λ (o : Option Val). element_set v (a_value o) index element rest f) (slice_get_past f.variables v past)) some))
    ]

pub not_set : (s : Setting) (v : ℕ) (f : Frame) (element index was : Val) (mid rest : List Val) → f.stack ≡ element ∷ mid → mid ≡ index ∷ rest → v < length f.variables → was ≡ get_or f.variables v was → with_element was index element ≡ None → IsSome (perform_on s (instr.VectorSet v) f.stack f) → perform_on s (instr.VectorSet v) f.stack f ≡ throws exn.Index f
not_set s v f element index was mid rest top below within there outside some =
    let stack : f.stack ≡ element ∷ index ∷ rest = cc in
    let found = slice_get_read f.variables (length f.variables) v was refl within there in
    let is : perform_on s (instr.VectorSet v) f.stack f ≡ element_set v (a_value (Some was)) index element rest f =
    ap (λ (vs : List Val). perform_on s (instr.VectorSet v) vs f) stack ∙ ap (λ (o : Option Val). element_set v (a_value o) index element rest f) found in
    is ∙ element_outside v was index element rest f outside (subst (λ (o : Option Performed). IsSome o) is some)

pub stays : (xs : List Val) (v : ℕ) (was new : Val) → v < length xs → was ≡ get_or xs v was → new ≡ was → set xs v new ≡ xs
stays xs v was new within there same = ap (λ (x : Val). set xs v x) same ∙ set_to_same xs v was within there
