-- What stands beside nothing is left out.
use Rattle.std.proofs.Common.{◌≡◌, ℕ, zero, suc, ◌<◌, false, List, [], ◌∷◌, ◌++◌, length, drop, refl, ap, ◌∙◌, arith}
use Rattle.std.proofs.lemmas.List.{append-nil}
use Rattle.sdg_base.specs.declared.value_type.ValueType.{ValueType}
use Rattle.java_tree.specs.declared.tree.Field.{Field}
use Rattle.java_tree.specs.declared.tree.Method.{Method}
use Rattle.flat_code.specs.declared.graph.GraphField.{GraphField}
use Rattle.flat_code.specs.Types.{same_types}
use Rattle.access_blocks.specs.declared.body.Body.{Body}
use Rattle.access_blocks.specs.declared.body.Holder.{Holder}
use Rattle.body_code.specs.declared.callee.Callee.{Callee}
use Rattle.body_code.specs.ClassCode.{graph_fields, callees, graph_methods}

pub none_left : (left rest : List ValueType) (i : ℕ) → i < length left → length rest < 1 → same_types (drop i left) rest ≡ false
none_left [] rest i h k = absurd (omega (arith, h))
none_left (s ∷ left) [] zero h k = refl
none_left (s ∷ left) (t ∷ rest) zero h k = absurd (omega (arith, k))
none_left (s ∷ left) rest (suc i) h k = none_left left rest i (omega (arith, h)) k

pub no_holders : (all : List GraphField) (fs : List Field) (hs : List Holder) → length hs < 1 → all ++ graph_fields fs hs ≡ all
no_holders all fs (h ∷ hs) k = absurd (omega (arith, k))
no_holders all [] [] k = append-nil all
no_holders all (f ∷ fs) [] k = append-nil all

pub no_callees : (all : List Callee) (ms : List Method) (bs : List Body) → length bs < 1 → all ++ callees ms bs ≡ all
no_callees all ms (b ∷ bs) k = absurd (omega (arith, k))
no_callees all [] [] k = append-nil all
no_callees all (m ∷ ms) [] k = append-nil all

pub no_methods : {A : Type 0} (all : List A) (rest : List A) → rest ≡ [] → all ++ rest ≡ all
no_methods all rest e = ap (λ more. all ++ more) e ∙ append-nil all

pub no_bodies : (fields : List GraphField) (methods : List Callee) (ms : List Method) (bs : List Body) (task : ℕ) → length bs < 1 → graph_methods fields methods ms bs task ≡ []
no_bodies fields methods ms (b ∷ bs) task k = absurd (omega (arith, k))
no_bodies fields methods [] [] task k = refl
no_bodies fields methods (m ∷ ms) [] task k = refl
