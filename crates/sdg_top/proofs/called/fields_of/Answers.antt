use Rattle.std.proofs.Common.{◌≡◌, ◌<◌, ◌≤◌, ◌∷◌, [], ◌+◌, ◌++◌, List, length, ap, sym, subst, ◌∙◌, take, map, arith}
use Rattle.std.proofs.lemmas.List.{length-append}
use Rattle.access_blocks.specs.Programs.{fields_in}
use Rattle.run_text.specs.declared.field.Field.{Field as NamedField}
use Rattle.sdg_top.specs.Entrances.{named_field}
use Rattle.sdg_top.proofs.Entering.{NamedSoFar, field_named, all_named, full_named, none_named}
use Rattle.sdg_top.proofs.called.fields_of.Goals as goal
use Rattle.sdg_top.proofs.called.fields_of.Goals.{else-loop-member-test, then-loop-member-test+in-Field+then-len-ge-MOST_MEMBERS}

pub loop-member-init : goal.loop-member-init
loop-member-init c = none_named c.as_slice-member-items.result.now c.new-fields.result.items c.new-fields.ensures.items

pub loop-member-preserved : goal.loop-member-preserved
loop-member-preserved c =
    let ms = c.as_slice-member-items.result.now in
    let i = c.loop-member.member-index in
    let old = c.loop-member.fields.items in
    let few : length old < 65536 = omega (arith, c.if-len-ge-MOST_MEMBERS.false, c.len.ensures) in
    let named = ap (λ (f : NamedField). old ++ f ∷ []) c.in_ok-named_field.ensures in
    let pushed = c.in_ok-push.ensures.items ∙ named in
    let all = field_named ms i c.member-item.result c.in-Field.field old c.loop-member-test.true c.member-item.is c.in-Field.is few c.loop-member.invariant.all in
    let more = length-append old (named_field c.in-Field.field ∷ []) in
    subst (λ fs. NamedSoFar ms (i + 1) fs) (sym pushed) (record { all = all; few = omega (arith, more, few) })

pub returns-clause-are : goal.returns-clause-are
returns-clause-are c =
    let ms = c.as_slice-member-items.result.now in
    let i = c.loop-member.member-index in
    let fields = c.loop-member.fields.items in
    let members = ap (λ all. map named_field (take 65536 (fields_in all))) c.as_slice-member-items.ensures in
    elim c.loop-member-test.branch [
      | else-loop-member-test w ↦ all_named ms i fields w.loop-member-test.false c.loop-member.invariant.all ∙ members
      | then-loop-member-test+in-Field+then-len-ge-MOST_MEMBERS w ↦ full_named ms i fields (let n = w.len.ensures in let full = w.if-len-ge-MOST_MEMBERS.true in omega (arith, n, full)) c.loop-member.invariant.all ∙ members
    ]
