use Rattle.std.proofs.Common.{◌≡◌, ◌∙◌, ap, sym, None, drop}
use Rattle.java_lexer.specs.Reading.{closed_from}
use Rattle.java_lexer.proofs.Spaces.{comment_found, open_comment}
use Rattle.java_lexer.proofs.element.comment.Goals as goal

pub returns-in_default-clause-refused : goal.returns-in_default-clause-refused
returns-in_default-clause-refused c =
    let text = c.args.text.now in
    let none : closed_from 0 (drop 2 text) ≡ None = ap (closed_from 0) (sym c.split_at.ensures.back) ∙ sym c.in_default.ensures.value in
    let own = open_comment text c.requires.front none in
    record { body = drop 2 text; spelled = own.0; unclosed = own.1 }

pub returns-clause-found : goal.returns-clause-found
returns-clause-found c =
    let text = c.args.text.now in
    comment_found text c.in-Some.len c.requires.front (ap (closed_from 0) (sym c.split_at.ensures.back) ∙ sym c.in-Some.ensures.value)
