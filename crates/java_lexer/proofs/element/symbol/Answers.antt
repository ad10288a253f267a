use Rattle.java_lexer.proofs.Fronts.{bad_byte}
use Rattle.java_lexer.proofs.element.symbol.Goals as goal

pub returns-in_default-clause-refused : goal.returns-in_default-clause-refused
returns-in_default-clause-refused c = bad_byte c.args.text.now c.requires.some c.requires.no_space c.requires.no_word (λ s. c.in_default.ensures s)
