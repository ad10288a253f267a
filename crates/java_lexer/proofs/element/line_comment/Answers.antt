use Rattle.std.proofs.Common.{◌∙◌, ◌≡◌, ◌+◌, drop, ap, sym, subst}
use Rattle.std.specs.List.{prefix_len}
use Rattle.java_lexer.specs.declared.element.Element.TheVariants as element
use Rattle.java_lexer.specs.Spelling.{is_in_line}
use Rattle.java_lexer.specs.Reading.{Stands}
use Rattle.java_lexer.proofs.Spaces.{line_found}
use Rattle.java_lexer.proofs.element.line_comment.Goals as goal

pub returns : goal.returns
returns c =
    let text = c.args.text.now in
    let size : 2 + prefix_len is_in_line (drop 2 text) ≡ 2 + c.run_len.result = ap (λ t. 2 + prefix_len is_in_line t) (sym c.split_at.ensures.back) ∙ ap (λ n. 2 + n) (sym c.run_len.ensures.value) in
    subst (λ n. Stands element.Space n text) size (line_found text c.requires.front)
