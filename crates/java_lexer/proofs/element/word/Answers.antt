use Rattle.std.proofs.Common.{◌∙◌, take, ap, sym, subst}
use Rattle.java_lexer.specs.declared.element.Element.TheVariants as element
use Rattle.java_lexer.specs.Spelling.{is_word_byte}
use Rattle.java_lexer.specs.Reading.{Stands, reserved_of, word_kind}
use Rattle.java_lexer.proofs.Fronts.{run_of, word_found}
use Rattle.java_lexer.proofs.element.word.Goals as goal

pub returns-clause-found : goal.returns-clause-found
returns-clause-found c =
    let text = c.args.text.now in
    let run = c.split_at.ensures.front ∙ ap (λ n. take n text) c.run_len-len.ensures.value in
    let own = c.in_ok-kind_of.ensures ∙ ap (λ name. word_kind (reserved_of name) name) run in
    subst (λ kind. Stands (element.Token kind) c.run_len-len.result text) (sym own)
    (subst (λ len. Stands (element.Token (word_kind (reserved_of (run_of is_word_byte text)) (run_of is_word_byte text))) len text) (sym c.run_len-len.ensures.value)
    (word_found text c.requires.first c.requires.no_digit))
