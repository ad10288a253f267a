use Rattle.std.proofs.Common.{◌≡◌, ◌∙◌, take, ap, sym, subst, Some, None}
use Rattle.java_lexer.specs.declared.element.Element.TheVariants as element
use Rattle.java_lexer.specs.Spelling.{is_number_byte}
use Rattle.java_lexer.specs.Reading.{Stands, number_of}
use Rattle.java_lexer.proofs.Fronts.{run_of, number_found, bad_number}
use Rattle.java_lexer.proofs.element.number.Goals as goal

pub returns-in_default-clause-refused : goal.returns-in_default-clause-refused
returns-in_default-clause-refused c =
    let text = c.args.text.now in
    let run = c.split_at.ensures.front ∙ ap (λ n. take n text) c.run_len-len.ensures.value in
    let none : number_of (run_of is_number_byte text) ≡ None = ap number_of (sym run) ∙ sym c.in_default.ensures in
    bad_number text c.requires none

pub returns-clause-found : goal.returns-clause-found
returns-clause-found c =
    let text = c.args.text.now in
    let run = c.split_at.ensures.front ∙ ap (λ n. take n text) c.run_len-len.ensures.value in
    let found : number_of (run_of is_number_byte text) ≡ Some c.in-Some.kind = ap number_of (sym run) ∙ sym c.in-Some.ensures in
    subst (λ len. Stands (element.Token c.in-Some.kind) len text) (sym c.run_len-len.ensures.value) (number_found text c.in-Some.kind c.requires found)
