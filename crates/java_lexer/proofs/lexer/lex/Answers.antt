use Rattle.std.proofs.Common.{◌≡◌, ◌⊎◌, ◌∙◌, inl, inr, sym, subst, arith}
use Rattle.std.proofs.lemmas.Bool.{eqb-true}
use Rattle.std.proofs.lemmas.List.{nil_from_length}
use Rattle.java_lexer.specs.Places.{first_place}
use Rattle.java_lexer.specs.Spelling.{Reads, stops, Refuses}
use Rattle.java_lexer.specs.declared.lexer.LexError.TheVariants.{Memory}
use Rattle.java_lexer.proofs.Steps.{read_more, read_all, refused_at}
use Rattle.java_lexer.proofs.Laws.{one_spelling, spelled_or_refused, one_refusal}
use Rattle.java_lexer.proofs.lexer.lex.Goals as goal

pub loop-rest-init : goal.loop-rest-init
loop-rest-init c = record {
  reads = subst (λ list. Reads first_place c.args.bytes.now list first_place c.args.bytes.now) (sym c.new-list.ensures) (stops first_place c.args.bytes.now);
  line = omega arith;
  column = omega arith;
}

pub loop-rest-preserved : goal.loop-rest-preserved
loop-rest-preserved c =
    record {
      reads = read_more first_place c.args.bytes.now c.loop-rest.list c.add.new.list c.loop-rest.place c.place_past-place.result c.loop-rest.rest.now c.split_at.result.0.now c.split_at.result.1.now
          c.in-Ok.front.0 c.in-Ok.front.1 c.loop-rest.invariant.reads c.in-Ok.ensures.found c.split_at.ensures.front c.split_at.ensures.back c.place_past-place.ensures.value c.in_ok-add.ensures;
      line = omega arith;
      column = omega arith;
    }

pub returns-in-Err-clause-refused : goal.returns-in-Err-clause-refused
returns-in-Err-clause-refused c =
    refused_at first_place c.args.bytes.now c.loop-rest.list c.loop-rest.place c.loop-rest.rest.now c.in-Err.fault c.error_at.result c.loop-rest.invariant.reads c.in-Err.ensures.refused c.error_at.ensures

pub returns-in-Err-clause-only : goal.returns-in-Err-clause-only
returns-in-Err-clause-only c = λ tokens end spells.
    let own : (c.error_at.result ≡ Memory) ⊎ Refuses first_place c.args.bytes.now c.error_at.result =
    refused_at first_place c.args.bytes.now c.loop-rest.list c.loop-rest.place c.loop-rest.rest.now c.in-Err.fault c.error_at.result c.loop-rest.invariant.reads c.in-Err.ensures.refused c.error_at.ensures in
    elim own [ inl memory ↦ memory | inr refuses ↦ absurd (spelled_or_refused first_place c.args.bytes.now tokens end c.error_at.result spells refuses) ]

pub returns-in-Err-clause-only_refused : goal.returns-in-Err-clause-only_refused
returns-in-Err-clause-only_refused c = λ error refuses.
    let own : (c.error_at.result ≡ Memory) ⊎ Refuses first_place c.args.bytes.now c.error_at.result =
    refused_at first_place c.args.bytes.now c.loop-rest.list c.loop-rest.place c.loop-rest.rest.now c.in-Err.fault c.error_at.result c.loop-rest.invariant.reads c.in-Err.ensures.refused c.error_at.ensures in
    elim own [ inl memory ↦ inl memory | inr found ↦ inr (one_refusal first_place c.args.bytes.now c.error_at.result error found refuses) ]

pub returns-clause-only : goal.returns-clause-only
returns-clause-only c = λ tokens end spells.
    let none = nil_from_length c.loop-rest.rest.now (eqb-true _ 0 (sym c.is_empty.ensures ∙ c.loop-rest-test.false)) in
    let own = read_all first_place c.args.bytes.now c.loop-rest.list c.loop-rest.place c.loop-rest.rest.now c.loop-rest.invariant.reads none in
    one_spelling first_place c.args.bytes.now c.loop-rest.list tokens c.loop-rest.place end own spells

pub returns-clause-only_refused : goal.returns-clause-only_refused
returns-clause-only_refused c = λ error refuses.
    let none = nil_from_length c.loop-rest.rest.now (eqb-true _ 0 (sym c.is_empty.ensures ∙ c.loop-rest-test.false)) in
    let own = read_all first_place c.args.bytes.now c.loop-rest.list c.loop-rest.place c.loop-rest.rest.now c.loop-rest.invariant.reads none in
    spelled_or_refused first_place c.args.bytes.now c.loop-rest.list c.loop-rest.place error own refuses
