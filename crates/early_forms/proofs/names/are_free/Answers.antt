use Rattle.std.proofs.Common.{Contains}
use Rattle.early_forms.specs.Names.{class_names}
use Rattle.early_forms.proofs.Lists.{none_map, iff_not}
use Rattle.early_forms.proofs.names.are_free.Goals as goal

pub returns : goal.returns
returns c =
    iff_not _ c.has_class_name.ensures (none_map (λ name. Contains class_names name) (λ name. name.now) c.args.names.now)
