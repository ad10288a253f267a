use Rattle.std.proofs.Common.{sym, ap, ◌∙◌}
use Rattle.serde_json.specs.View.{view}
use Rattle.serde_json.proofs.Views.{view-Object, members_len-members_view}
use Rattle.graph_file.specs.Forms.{count}
use Rattle.graph_file.proofs.parts.count.Goals as goal

pub returns-in-Object : goal.returns-in-Object
returns-in-Object c =
    let m = c.in-Object.members in
    c.len.ensures.len ∙ sym (ap (λ v. count (view v)) c.in-Object.is ∙ ap count (view-Object m) ∙ members_len-members_view m.entries)
