use Rattle.std.proofs.Common.{ap, ◌∙◌}
use Rattle.std.specs.Str.{bytes_eq}
use Rattle.java_flow.specs.Sets.{number_of}
use Rattle.java_flow.proofs.Standing.{position-map}
use Rattle.java_flow.proofs.numbers.Numbers.number.Goals as goal

pub returns : goal.returns
returns c =
    c.get_index_of.ensures.index
    ∙ position-map (λ key. key.items) (bytes_eq c.as_slice.result.now) c.self.inside.names.keys
    ∙ ap (number_of c.as_slice.result.now) c.self.view_is
    ∙ ap (λ name. number_of name c.args.self.now) c.as_slice.ensures
