-- The bodies of a class that breaks no rule are read in step with both walks, and their statements are typed before marks stand in them.
use Rattle.std.proofs.Common.{◌≡◌, ℕ, zero, suc, ◌+◌, List, [], ◌∷◌, ◌++◌, map, drop, slice_get, Some, refl, ap, subst, ◌∙◌, arith}
use Rattle.java_tree.specs.declared.tree.Class.{Class}
use Rattle.java_tree.specs.declared.tree.Method.{Method}
use Rattle.java_types.specs.Check.{env_of, start, whole}
use Rattle.java_types.specs.Check as types
use Rattle.java_types.specs.Members.{Membering, head_walk}
use Rattle.annotations.specs.declared.walk.Walk.{Walk as MarkingWalk}
use Rattle.annotations.specs.Check as annotations
use Rattle.annotations.specs.Members as marking
use Rattle.access_blocks.specs.declared.body.Body.{Body}
use Rattle.access_blocks.specs.declared.scope.Scope.{Scope}
use Rattle.access_blocks.specs.Cursors.{Cursor}
use Rattle.access_blocks.specs.Programs.{methods_in, scope_of, body_of}
use Rattle.access_blocks.specs.Programs as programs
use Rattle.accepted_classes.specs.Classes.{IsQuiet}
use Rattle.accepted_classes.proofs.Whole.{bodies_from, bodies_are}
use Rattle.typed_bodies.specs.Bodies.{BreaksNoRule, annotated_of, resolved_of}
use Rattle.typed_statements.specs.Laws.{StatementsGo}
use Rattle.walked_bodies.specs.Begun.{names_of, marks_of, cursor_before, before}
use Rattle.walked_bodies.proofs.Chain.{AreThere, AreWalked, InStep, members_in_step}
use Rattle.walked_bodies.proofs.MarksPass as marks
use Rattle.walked_bodies.specs.Walked.{IsWalked}
use Rattle.walked_bodies.proofs.TypesPass as passing

-- ---- bodies by number

body_before : (scope : Scope) (ms : List Method) (c : Cursor) (n : ℕ) (m : Method) → slice_get ms n ≡ Some m
    → slice_get (bodies_from scope c ms) n ≡ Some (body_of scope m (cursor_before scope ms c n)).it
body_before scope [] c n m is = absurd (cc)
body_before scope (k ∷ ms) c zero m is = ap (λ x. Some (body_of scope x c).it) (the_same is)
  where
    the_same : {A : Type 0} {x y : A} → Some x ≡ Some y → x ≡ y
    the_same e = cc
body_before scope (k ∷ ms) c (suc n) m is = body_before scope ms (body_of scope k c).cursor n m is

pub body_at : (class : Class) (n : ℕ) (m : Method) → slice_get (methods_in class.members) n ≡ Some m → slice_get (resolved_of class).methods n ≡ Some (body_of (scope_of class) m (before class n)).it
body_at class n m is =
    ap (λ (bs : List Body). slice_get bs n) (bodies_are class) ∙ body_before (scope_of class) (methods_in class.members) (programs.start (annotated_of class)) n m is

-- Each of these methods, which are those of the class from some number on, is a body of it.
are_there : (class : Class) (ms : List Method) (from : ℕ) (c : Cursor)
    → ((i : ℕ) (m : Method) → slice_get ms i ≡ Some m → slice_get (methods_in class.members) (from + i) ≡ Some m)
    → ((i : ℕ) (m : Method) → slice_get ms i ≡ Some m → slice_get (resolved_of class).methods (from + i) ≡ Some (body_of (scope_of class) m (cursor_before (scope_of class) ms c i)).it)
    → AreThere class c ms
are_there class [] from c methods bodies = tt
are_there class (m ∷ ms) from c methods bodies = (
  record { number = from + 0; method = methods 0 m refl; body = bodies 0 m refl },
  are_there class ms (from + 1) (body_of (scope_of class) m c).cursor
      (λ i k is. let at : from + suc i ≡ from + 1 + i = omega arith in subst (λ j. slice_get (methods_in class.members) j ≡ Some k) at (methods (suc i) k is))
      (λ i k is. let at : from + suc i ≡ from + 1 + i = omega arith in subst (λ j. slice_get (resolved_of class).methods j ≡ Some (body_of (scope_of class) k (cursor_before (scope_of class) ms (body_of (scope_of class) m c).cursor i)).it) at (bodies (suc i) k is)),
)

walked_at : (class : Class) (ms : List Method) (c : Cursor) (n : ℕ) (m : Method) → AreWalked class c ms → slice_get ms n ≡ Some m → IsWalked class m (cursor_before (scope_of class) ms c n)
walked_at class [] c n m all is = absurd (cc)
walked_at class (k ∷ ms) c zero m all is = subst (λ x. IsWalked class x c) (the_same is) all.0
  where
    the_same : {A : Type 0} {x y : A} → Some x ≡ Some y → x ≡ y
    the_same e = cc
walked_at class (k ∷ ms) c (suc n) m all is = walked_at class ms (body_of (scope_of class) k c).cursor n m all.1 is

-- ---- the class

none_mapped : {A B : Type 0} (f : A → B) (xs : List A) → map f xs ≡ [] → xs ≡ []
none_mapped f [] h = refl
none_mapped f (x ∷ xs) h = absurd (cc)

abbrev first_members : Class → Membering
first_members class = record { seen = record { fields = []; methods = [] }; walk = head_walk (env_of class) class start }

abbrev first_marks : Class → MarkingWalk
first_marks class = marking.past_head (marks_of class) class annotations.start

module _ (go : StatementsGo) (class : Class) (keeps : BreaksNoRule class) where
  quiet : IsQuiet class
  quiet = record { types = keeps.types; annotations = keeps.annotations }

  there : AreThere class (programs.start (annotated_of class)) (methods_in class.members)
  there =
      are_there class (methods_in class.members) 0 (programs.start (annotated_of class))
      (λ i m is. let at : i ≡ 0 + i = omega arith in subst (λ j. slice_get (methods_in class.members) j ≡ Some m) at is)
      (λ i m is. let at : i ≡ 0 + i = omega arith in subst (λ j. slice_get (resolved_of class).methods j ≡ Some (body_of (scope_of class) m (before class i)).it) at (body_at class i m is))

  in_step : InStep class (first_members class).walk (whole class) (first_marks class) (annotations.whole class (names_of class)) (programs.start (annotated_of class)) (methods_in class.members)
  unfolding types.whole annotations.whole
  in_step =
      members_in_step class go quiet class.members (first_members class) (first_marks class) (programs.start (annotated_of class)) there (none_mapped (types.refused_at class.places) (whole class).findings keeps.types)
      (none_mapped (annotations.refused_at class.places) (annotations.whole class (names_of class)).findings keeps.annotations)
      (marks.head_keeps (marks_of class) class annotations.start).awaited

  walked : AreWalked class (programs.start (annotated_of class)) (methods_in class.members)
  walked =
      let types_kept = passing.head_keeps (env_of class) class start in
      let marks_kept = marks.head_keeps (marks_of class) class annotations.start in
      let names : names_of class ≡ in_step.added.names = in_step.added.to_names ∙ ap (λ ns. ns ++ in_step.added.names) types_kept.names in
      let s = in_step.reads (in_step.added.to_types ∙ ap (λ ts. ts ++ in_step.added.types) types_kept.types) names
      (ap (λ i. drop i (names_of class)) marks_kept.used) in
      s.walked (s.to_sites ∙ ap (λ ss. ss ++ s.sites) marks_kept.sites)

  pub body_walked : (n : ℕ) (m : Method) → slice_get (methods_in class.members) n ≡ Some m → IsWalked class m (before class n)
  body_walked n m is = walked_at class (methods_in class.members) (programs.start (annotated_of class)) n m walked is
