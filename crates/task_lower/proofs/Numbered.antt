-- Methods one after the other, each with the tasks behind those of the one before.
use Rattle.std.proofs.Common.{◌≡◌, ℕ, ◌+◌, ◌-◌, ◌<◌, ◌≤◌, take, List, [], ◌∷◌, ◌++◌, length, drop, get_or, sym, ap, ◌∙◌, append_assoc, arith}
use Rattle.java_tree.specs.declared.tree.Member.{Member}
use Rattle.java_tree.specs.declared.tree.Member.TheVariants as member
use Rattle.java_tree.specs.declared.tree.Method.{Method}
use Rattle.flat_code.specs.declared.graph.GraphField.{GraphField}
use Rattle.flat_code.specs.declared.graph.GraphMethod.{GraphMethod}
use Rattle.access_blocks.specs.declared.body.Body.{Body}
use Rattle.access_blocks.specs.Programs.{methods_in}
use Rattle.body_code.specs.declared.callee.Callee.{Callee}
use Rattle.body_code.specs.ClassCode.{graph_method, graph_methods, tasks_of}
use Rattle.task_lower.proofs.ReadSets.{dropped}
use Rattle.task_lower.proofs.Taken.{take_past}

pub with_method : (fields : List GraphField) (callees : List Callee) (members : List Member) (i : ℕ) (x : Member) (m : Method) (all all_2 : List GraphMethod) (rest rest_2 : List Body) (b : Body)
    (task task_2 : ℕ) (whole : List GraphMethod) → i < length members → x ≡ get_or members i x → x ≡ member.Method m → rest ≡ b ∷ rest_2
    → all ++ graph_methods fields callees (methods_in (drop i members)) rest task ≡ whole → all_2 ≡ all ++ graph_method fields callees m b task ∷ [] → task_2 ≡ task + tasks_of fields callees b
    → all_2 ++ graph_methods fields callees (methods_in (drop (i + 1) members)) rest_2 task_2 ≡ whole
with_method fields callees members i x m all all_2 rest rest_2 b task task_2 whole h is is_method is_rest before is_all is_task =
    let ms = methods_in (drop (i + 1) members) in
    let one = graph_method fields callees m b task in
    let here : drop i members ≡ member.Method m ∷ drop (i + 1) members = dropped members i x h ∙ ap (λ (y : Member). y ∷ drop (i + 1) members) (sym is ∙ is_method) in
    let now : graph_methods fields callees (methods_in (drop i members)) rest task ≡ one ∷ graph_methods fields callees ms rest_2 (task + tasks_of fields callees b) =
    ap (λ (xs : List Member). graph_methods fields callees (methods_in xs) rest task) here ∙ ap (λ (bs : List Body). graph_methods fields callees (m ∷ ms) bs task) is_rest in
    ap (λ (xs : List GraphMethod). xs ++ graph_methods fields callees ms rest_2 task_2) is_all
    ∙ append_assoc all (one ∷ []) (graph_methods fields callees ms rest_2 task_2)
    ∙ ap (λ n. all ++ (one ∷ graph_methods fields callees ms rest_2 n)) is_task
    ∙ ap (λ (xs : List GraphMethod). all ++ xs) (sym now) ∙ before

pub first_body : (bs : List Body) (b : Body) → 1 ≤ length bs → b ≡ get_or bs 0 b → bs ≡ b ∷ take (length bs - 1) (drop 1 bs)
first_body [] b h is = absurd (omega (arith, h))
first_body (x ∷ bs) b h is = ap (λ (y : Body). y ∷ bs) (sym is) ∙ ap (λ (rest : List Body). b ∷ rest) (sym (take_past bs (length (x ∷ bs) - 1) (omega arith)))
