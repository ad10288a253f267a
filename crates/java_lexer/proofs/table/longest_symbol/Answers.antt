use Rattle.java_lexer.proofs.Tables.{longest_of_all}
use Rattle.java_lexer.proofs.table.longest_symbol.Goals as goal

pub returns : goal.returns
returns c = longest_of_all c.args.text.now c.longest_among.result c.longest_among.ensures
