use Rattle.std.proofs.Common.{◌∙◌, sym}
use Rattle.java_lexer.proofs.Spaces.{white_one, white_two}
use Rattle.java_lexer.proofs.element.white_space.Goals as goal

pub returns-then-starts_with : goal.returns-then-starts_with
returns-then-starts_with c = white_two c.args.text.now (sym c.starts_with.ensures.value ∙ c.if-starts_with.true)

pub returns-else-starts_with : goal.returns-else-starts_with
returns-else-starts_with c = white_one c.args.text.now c.requires (sym c.starts_with.ensures.value ∙ c.if-starts_with.false)
