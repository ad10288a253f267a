-- A class in which the rules on types find nothing: its names, and what its bodies call.
use Rattle.std.proofs.Common.{◌≡◌, ℕ, zero, suc, ◌+◌, true, false, List, [], ◌∷◌, ◌++◌, length, map, fold, slice_get, Option, Some, None, refl, sym, ap, subst, ◌∙◌, append_assoc, append-nil, arith}
use Rattle.java_tree.specs.declared.tree.QualifiedName.{QualifiedName}
use Rattle.java_tree.specs.declared.tree.Import.{Import}
use Rattle.java_tree.specs.declared.tree.Class.{Class}
use Rattle.java_tree.specs.declared.tree.Method.{Method}
use Rattle.java_tree.specs.declared.types.Declaration.{Declaration}
use Rattle.java_tree.specs.Kinds.{kind_of}
use Rattle.java_tree.specs.Words.{is_reserved}
use Rattle.java_types.specs.declared.calls.Call.{Call}
use Rattle.java_types.specs.declared.walk.Env.{Env}
use Rattle.java_types.specs.declared.walk.Walk.{Walk}
use Rattle.java_types.specs.Calls.{reaches}
use Rattle.java_types.specs.Members.{Membering, member_walk, past_qualified, past_package, past_import, head_walk}
use Rattle.java_types.specs.Check.{env_of, start, whole, findings_of, refused_at}
use Rattle.java_types.proofs.Reaching.{reaches_transitive}
use Rattle.access_blocks.specs.declared.body.Body.{Body}
use Rattle.access_blocks.specs.declared.scope.Scope.{Scope}
use Rattle.access_blocks.specs.Cursors.{Cursor, read}
use Rattle.access_blocks.specs.Programs.{param_variable, methods_in, in_method, body_of, with_method, scope_of, bodies_of}
use Rattle.access_blocks.specs.Programs as programs
use Rattle.body_code.specs.Checking.{CallsMethod, Direct, Through, in_all, called_in}
use Rattle.accepted_classes.specs.Classes.{annotated_of, resolved_of}
use Rattle.accepted_classes.proofs.Calls.{each_has, CallsInAll}
use Rattle.accepted_classes.proofs.Steps.{Extends, IsKnown, IsCall, IsAcyclic, Still, here, after, noted_still, past_still, past_if_still}
use Rattle.accepted_classes.proofs.Cycles.{call_reaches, reaches_itself, acyclic_nil}
use Rattle.accepted_classes.proofs.MarkedCalls.{marks_call}
use Rattle.accepted_classes.proofs.Naming.{AreNew}
use Rattle.accepted_classes.proofs.MethodsGo.{fold_still, body_reading}
use Rattle.accepted_classes.proofs.MembersGo.{method_names, AreSound, members_sound, methods_numbered, env_known, known_there}
use Rattle.accepted_classes.proofs.BodiesCall.{IsBodyRead, AreBodiesRead, MembersTold, members_told}

-- ---- up to the first member

qualified_still : (env : Env) (q : QualifiedName) (w : Walk) → Still w (past_qualified env q w)
unfolding past_qualified
qualified_still env q w = after (past_still env 1 w) (after (past_still env (length q.others) _) (past_still env (length q.others) _))

package_still : (env : Env) (q : Option QualifiedName) (w : Walk) → Still w (past_package env q w)
package_still env None w = here w
package_still env (Some q) w = after (past_still env 2 w) (qualified_still env q _)

import_still : (env : Env) (w : Walk) (i : Import) → Still w (past_import env w i)
unfolding past_import
import_still env w i = after (past_still env 2 w) (after (past_if_still env i.is_static 1 _) (after (qualified_still env i.name _) (past_if_still env i.is_on_demand 2 _)))

head_still : (env : Env) (c : Class) (w : Walk) → Still w (head_walk env c w)
unfolding head_walk
head_still env c w =
    after (noted_still (is_reserved c.name) 0 2 w)
    (after (package_still env c.package _) (after (fold_still (past_import env) (import_still env) c.imports _) (after (past_still env (length c.modifiers) _) (past_still env 3 _))))

-- ---- the walk over the whole class

none_mapped : {A B : Type 0} (f : A → B) (xs : List A) → map f xs ≡ [] → xs ≡ []
none_mapped f [] h = refl
none_mapped f (x ∷ xs) h = absurd (cc)

abbrev first_members : Class → Membering
first_members c = record { seen = record { fields = []; methods = [] }; walk = head_walk (env_of c) c start }

whole_quiet : (c : Class) → findings_of c ≡ [] → (fold (member_walk (env_of c)) (first_members c) c.members).walk.findings ≡ []
unfolding whole
whole_quiet c q = none_mapped (refused_at c.places) (whole c).findings q

pub class_sound : (c : Class) → findings_of c ≡ [] → AreSound (first_members c) c.members
class_sound c q = members_sound (env_of c) c.members (first_members c) (whole_quiet c q)

module _ (c : Class) (q : findings_of c ≡ []) where
  new_methods : AreNew [] 256 (method_names c.members)
  new_methods = (class_sound c q).methods

  pub known : IsKnown (env_of c)
  known = env_known (env_of c) c.members (methods_numbered c.members [] new_methods) new_methods (class_sound c q).declared

  told : (calls : List Call) (scope : Scope) → MembersTold calls scope (head_walk (env_of c) c start) (whole c) 0 (methods_in c.members)
  unfolding whole
  told calls scope =
      members_told calls scope (env_of c) known c.members (first_members c) 0
      (known_there (env_of c) c.members (methods_numbered c.members [] new_methods) new_methods (class_sound c q).declared) (whole_quiet c q)

  pub acyclic : IsAcyclic (whole c).calls
  acyclic = (told [] (scope_of c)).acyclic (subst IsAcyclic (sym (head_still (env_of c) c start).calls) acyclic_nil)

  pub bodies_read : AreBodiesRead (whole c).calls (scope_of c) 0 (programs.start (annotated_of c)) (methods_in c.members)
  bodies_read =
      let t = told (whole c).calls (scope_of c) in
      t.reads (λ from to is. is) (programs.start (annotated_of c)) []
      (t.names ∙ (ap (λ (ns : List Declaration). ns ++ t.added) (head_still (env_of c) c start).names ∙ sym (append-nil t.added)))

-- ---- bodies by number

module _ (scope : Scope) where
  abbrev pub bodies_from : Cursor → List Method → List Body
  bodies_from c [] = []
  bodies_from c (m ∷ ms) = (body_of scope m c).it ∷ bodies_from (body_of scope m c).cursor ms

  pub bodies_folded : (ms : List Method) (c : Cursor) (first : List Body) → (fold (with_method scope) (read first c) ms).it ≡ first ++ bodies_from c ms
  bodies_folded [] c first = sym (append-nil first)
  bodies_folded (m ∷ ms) c first =
      let b = body_of scope m c in
      bodies_folded ms b.cursor (first ++ b.it ∷ []) ∙ append_assoc first (b.it ∷ []) (bodies_from b.cursor ms)

  pub as_many_bodies : (ms : List Method) (c : Cursor) → length (bodies_from c ms) ≡ length ms
  as_many_bodies [] c = refl
  as_many_bodies (m ∷ ms) c = ap suc (as_many_bodies ms (body_of scope m c).cursor)

-- the body of a method of some number
pub record IsBodyOf (calls : List Call) (n : ℕ) (m : Method) (b : Body) : Type 0 where
  pub kind : b.kind ≡ kind_of m
  pub arity : b.arity ≡ length m.params
  pub variables : Extends (map param_variable m.params) b.variables
  pub noted : CallsInAll (λ to. IsCall calls n to) b.statements

-- which method a body is of
pub record HasBody (calls : List Call) (n : ℕ) (ms : List Method) (i : ℕ) (b : Body) : Type 0 where
  pub method : Method
  pub at : slice_get ms i ≡ Some method
  pub is : IsBodyOf calls (n + i) method b

the_same : {A : Type 0} {x y : A} → Some x ≡ Some y → x ≡ y
the_same e = cc

body_is : (calls : List Call) (scope : Scope) (n : ℕ) (m : Method) (c : Cursor) → IsBodyRead calls scope n m c → IsBodyOf calls n m (body_of scope m c).it
body_is calls scope n m c r = record {
  kind = refl;
  arity = refl;
  variables = r.variables;
  noted = marks_call (λ to. IsCall calls n to) (body_reading scope m (in_method m c)).it r.calls_noted;
}

pub body_at : (calls : List Call) (scope : Scope) (n : ℕ) (ms : List Method) (c : Cursor) (i : ℕ) (b : Body) → AreBodiesRead calls scope n c ms → slice_get (bodies_from scope c ms) i ≡ Some b → HasBody calls n ms i b
body_at calls scope n [] c i b all is = absurd (cc)
body_at calls scope n (m ∷ ms) c zero b all is =
    let at : n ≡ n + 0 = omega arith in
    record { method = m; at = refl; is = subst (λ (k : ℕ). IsBodyOf calls k m b) at (subst (IsBodyOf calls n m) (the_same is) (body_is calls scope n m c all.0)) }
body_at calls scope n (m ∷ ms) c (suc i) b all is =
    let at : n + 1 + i ≡ n + suc i = omega arith in
    let r = body_at calls scope (n + 1) ms (body_of scope m c).cursor i b all.1 is in
    record { method = r.method; at = r.at; is = subst (λ (k : ℕ). IsBodyOf calls k r.method b) at r.is }

module _ (c : Class) where
  pub bodies_are : bodies_of (annotated_of c) ≡ bodies_from (scope_of c) (programs.start (annotated_of c)) (methods_in c.members)
  bodies_are = bodies_folded (scope_of c) (methods_in c.members) (programs.start (annotated_of c)) []

  pub has_body : findings_of c ≡ [] → (n : ℕ) (b : Body) → slice_get (resolved_of c).methods n ≡ Some b → HasBody (whole c).calls 0 (methods_in c.members) n b
  has_body q n b is =
      body_at (whole c).calls (scope_of c) 0 (methods_in c.members) (programs.start (annotated_of c)) n b (bodies_read c q)
      (ap (λ (bs : List Body). slice_get bs n) (sym bodies_are) ∙ is)

-- ---- no cycle

-- the first call of a path, from whose callee the rest goes on
record Path (calls : List Call) (from to : ℕ) : Type 0 where
  via : ℕ
  first : IsCall calls from via
  rest : reaches calls via to ≡ true

module _ (c : Class) (q : findings_of c ≡ []) where
  path : {from to : ℕ} → CallsMethod (resolved_of c).methods from to → Path (whole c).calls from to
  path (Direct from to b at is) =
      let body = has_body c q from b at in
      let same : 0 + from ≡ from = omega arith in
      let one = each_has (λ n. IsCall (whole c).calls (0 + from) n) to (in_all (map called_in b.statements)) body.is.noted is in
      let first : IsCall (whole c).calls from to = subst (λ (n : ℕ). IsCall (whole c).calls n to) same one in
      record { via = to; first = first; rest = reaches_itself (whole c).calls to }
  path (Through from via to one more) =
      let a = path one in
      let b = path more in
      record {
        via = a.via;
        first = a.first;
        rest = reaches_transitive (whole c).calls a.via via to a.rest (reaches_transitive (whole c).calls via b.via to (call_reaches (whole c).calls via b.via b.first) b.rest);
      }

  pub no_cycle : (n : ℕ) → CallsMethod (resolved_of c).methods n n → ⊥
  no_cycle n calls =
      let p = path calls in
      let a : reaches (whole c).calls p.via n ≡ false = acyclic c q n p.via p.first in
      let b : reaches (whole c).calls p.via n ≡ true = p.rest in
      cc
