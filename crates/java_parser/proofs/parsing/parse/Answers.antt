use Rattle.std.proofs.Common.{inl, inr, ap, Ok, Err}
use Rattle.java_parser.proofs.Parsed.{is_only, is_memory, is_start, same_error}
use Rattle.java_parser.proofs.ClassLaws.{is_found}
use Rattle.java_parser.proofs.parsing.parse.Goals as goal

pub returns-in-Ok-clause-found : goal.returns-in-Ok-clause-found
returns-in-Ok-clause-found c =
    let read = rw c.as_slice.ensures at c.in-Ok.ensures in
    is_found c.args.tokens.now.list c.in-Ok.class read

pub returns-in-Ok-clause-only : goal.returns-in-Ok-clause-only
returns-in-Ok-clause-only c = λ tree e placed low.
    let read = rw c.as_slice.ensures at c.in-Ok.ensures in
    inl (ap (λ x. Ok x) (is_only c.args.tokens.now.list c.in-Ok.class tree read e placed low))

pub returns-in-Err-clause-only : goal.returns-in-Err-clause-only
returns-in-Err-clause-only c = λ tree e placed low.
    let failed = rw c.as_slice.ensures at c.in-Err.ensures in
    inr (rw c.error_of.ensures (ap (λ x. Err x) (is_memory c.in-Err.refusal c.args.tokens.now.list tree failed e placed low)))

pub returns-in-Err-clause-place : goal.returns-in-Err-clause-place
returns-in-Err-clause-place c = λ place e.
    let same = rw c.error_of.ensures at e in
    is_start c.in-Err.refusal place (same_error _ _ same)
