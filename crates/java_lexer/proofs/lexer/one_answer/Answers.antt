use Rattle.java_lexer.proofs.Laws.{one_spelling, spelled_or_refused, one_refusal}
use Rattle.java_lexer.proofs.Positions.{end_place}
use Rattle.java_lexer.proofs.lexer.one_answer.Goals as goal

pub returns : goal.returns
returns c = record {
  one_spelling = λ at end other tokens others text. one_spelling at text tokens others end other;
  end_place = λ at end tokens text. end_place at text tokens end;
  never_both = λ at end tokens text error. spelled_or_refused at text tokens end error;
  one_refusal = λ at text error other. one_refusal at text error other;
}
