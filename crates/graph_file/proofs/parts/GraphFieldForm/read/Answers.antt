use Rattle.std.proofs.Common.{◌≢◌, length, ap, ◌∙◌, subst, arith}
use Rattle.serde_json.specs.View.{view}
use Rattle.serde_json.proofs.Views.{view-Array}
use Rattle.graph_file.specs.Forms.{field_form}
use Rattle.graph_file.proofs.Others.{field_else}
use Rattle.graph_file.proofs.parts.GraphFieldForm.read.Goals as goal

pub returns-in_default-as_slice-clause-told : goal.returns-in_default-as_slice-clause-told
returns-in_default-as_slice-clause-told c =
    let list = c.in-Array.list in
    let seen = ap view c.in-Array.is ∙ view-Array list in
    let other : length c.as_slice.result.now ≢ 3 = grind arith in
    rw c.here.ensures (ap field_form seen ∙ field_else list.items (subst (λ xs. length xs ≢ 3) c.as_slice.ensures.value other))
