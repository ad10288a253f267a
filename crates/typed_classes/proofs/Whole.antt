-- A class that breaks no rule is typed.
use Rattle.std.proofs.Common.{◌≡◌, List, ◌++◌, Some, None, refl, sym, ap, subst, ◌∙◌}
use Rattle.std.specs.List.{range_with_len}
use Rattle.java_tree.specs.declared.tree.Class.{Class}
use Rattle.java_tree.specs.declared.tree.Method.{Method}
use Rattle.access_blocks.specs.declared.body.Holder.{Holder}
use Rattle.access_blocks.specs.declared.scope.Scope.{Scope}
use Rattle.access_blocks.specs.Cursors.{Cursor}
use Rattle.access_blocks.specs.Marks.{with_marks}
use Rattle.access_blocks.specs.Programs.{scope_of, body_of}
use Rattle.body_code.specs.declared.callee.Callee.{Callee}
use Rattle.body_code.specs.Checking.{Standing, surroundings, checked_list, at_start, known_parameters}
use Rattle.body_code.specs.ClassCode.{callees_of}
use Rattle.marked_bodies.specs.Laws.{MarkedBodiesStayTyped}
use Rattle.accepted_classes.specs.Classes.{IsSpelled, IsQuiet, HasTypedStatements, AreTypedStatements}
use Rattle.accepted_classes.proofs.Joining.{typed}
use Rattle.typed_bodies.specs.Bodies.{BreaksNoRule, resolved_of, bare_of, IsTypedBare}
use Rattle.walked_bodies.specs.Walked.{BodiesAreWalked}
use Rattle.ending_bodies.specs.Laws.{BodiesComplete}
use Rattle.typed_classes.specs.Laws.{HeadersAreBare, BodiesAreTyped, AcceptedClassesAreTyped}
use Rattle.typed_classes.proofs.Bodies.{bodies_typed}
use Rattle.walked_bodies.proofs.Words.{the_same}

-- Marks keep the body of a method typed.
with_marks_typed : MarkedBodiesStayTyped → (scope : Scope) (fields : List Holder) (methods : List Callee) (m : Method) (c : Cursor) → IsTypedBare fields methods m (bare_of scope m c)
    → HasTypedStatements fields methods m (body_of scope m c).it
with_marks_typed stays scope fields methods m c bare =
    let b = bare_of scope m c in
    let s = stays (surroundings fields methods m b) b.statements (at_start b) refl refl bare.statements in
    let start : Standing → Type 0 = λ st. checked_list (surroundings fields methods m b) (with_marks b.statements) None st ≡ Some s.after in
    record {
      after = s.after;
      checked =
          subst start
          (ap (λ early. record { known = known_parameters b.kind b.arity ++ early; field = None; gathered = None }) (sym (s.early (range_with_len 0 b.arity)))) s.checked;
      blocks = s.blocks;
      returns = λ completes. bare.returns (sym s.completes ∙ completes);
    }

statements_typed : MarkedBodiesStayTyped → BodiesAreTyped → (class : Class) → IsSpelled class → BreaksNoRule class → AreTypedStatements class
statements_typed stays bodies class spelled keeps n m b at_m at_b =
    let t = bodies class spelled keeps n m at_m in
    subst (HasTypedStatements (resolved_of class).fields (callees_of class (resolved_of class)) m) (the_same (sym t.is ∙ at_b))
    (with_marks_typed stays (scope_of class) (resolved_of class).fields (callees_of class (resolved_of class)) m t.before t.bare)

pub accepted_typed : BodiesAreWalked → HeadersAreBare → BodiesComplete → MarkedBodiesStayTyped → AcceptedClassesAreTyped
accepted_typed walked headers complete stays class spelled keeps =
    let quiet : IsQuiet class = record { types = keeps.types; annotations = keeps.annotations } in
    typed class spelled quiet (statements_typed stays (bodies_typed walked headers complete) class spelled keeps)
