-- Each call of a body of a class in which the rules on types find nothing is one that they note, and no callee reaches its caller.
use Rattle.std.proofs.Common.{◌≡◌, ℕ, zero, suc, ◌+◌, ◌<◌, List, [], ◌∷◌, ◌++◌, map, fold, slice_get, Some, refl, sym, ap, subst, ◌∙◌, append_assoc, append-nil, arith}
use Rattle.std.proofs.lemmas.List.Elements.{Contains-append_left}
use Rattle.java_tree.specs.declared.tree.Member.{Member}
use Rattle.java_tree.specs.declared.tree.Member.TheVariants as member
use Rattle.java_tree.specs.declared.tree.Method.{Method}
use Rattle.java_tree.specs.declared.types.Declaration.{Declaration}
use Rattle.java_types.specs.declared.calls.Call.{Call}
use Rattle.java_types.specs.declared.walk.Env.{Env}
use Rattle.java_types.specs.declared.walk.Walk.{Walk}
use Rattle.java_types.specs.Names.{entry_of}
use Rattle.java_types.specs.Walks.{most_fields, most_methods}
use Rattle.java_types.specs.Members.{named_member, number_in, Membering, member_walk}
use Rattle.access_blocks.specs.declared.scope.Scope.{Scope}
use Rattle.access_blocks.specs.Cursors.{Cursor}
use Rattle.access_blocks.specs.Programs.{methods_in, in_method, body_of, param_variable}
use Rattle.accepted_classes.proofs.Calls.{CallsInAll}
use Rattle.accepted_classes.proofs.Steps.{Extends, IsKnown, IsCall, IsAcyclic, Still, Told, after}
use Rattle.accepted_classes.proofs.MethodsGo.{named_still, field_still, called_from, body_reading, method_goes}
use Rattle.accepted_classes.proofs.MembersGo.{signature, members_sound}

-- what is read of the body of a method of some number, before marks
pub record IsBodyRead (calls : List Call) (scope : Scope) (n : ℕ) (m : Method) (c : Cursor) : Type 0 where
  pub calls_noted : CallsInAll (λ to. IsCall calls n to) (body_reading scope m (in_method m c)).it
  pub variables : Extends (map param_variable m.params) (body_reading scope m (in_method m c)).cursor.variables

abbrev pub AreBodiesRead : List Call → Scope → ℕ → Cursor → List Method → Type 0
AreBodiesRead calls scope n c [] = Unit {0}
AreBodiesRead calls scope n c (m ∷ ms) = IsBodyRead calls scope n m c × AreBodiesRead calls scope (n + 1) (body_of scope m c).cursor ms

pub record MembersTold (calls : List Call) (scope : Scope) (w v : Walk) (n : ℕ) (ms : List Method) : Type 0 where
  pub added : List Declaration
  pub names : v.names ≡ w.names ++ added
  pub more : List Call
  pub noted : v.calls ≡ w.calls ++ more
  pub acyclic : IsAcyclic w.calls → IsAcyclic v.calls
  pub reads : ((from to : ℕ) → IsCall v.calls from to → IsCall calls from to) → (c : Cursor) (rest : List Declaration) → c.names ≡ added ++ rest → AreBodiesRead calls scope n c ms

module _ (calls : List Call) (scope : Scope) (env : Env) (known : IsKnown env) where
  behind_field : {w u v : Walk} (n : ℕ) (ms : List Method) → Still w u → MembersTold calls scope u v n ms → MembersTold calls scope w v n ms
  behind_field n ms s t = record {
    added = t.added;
    names = t.names ∙ ap (λ (ns : List Declaration). ns ++ t.added) s.names;
    more = t.more;
    noted = t.noted ∙ ap (λ (cs : List Call). cs ++ t.more) s.calls;
    acyclic = λ a. t.acyclic (subst IsAcyclic (sym s.calls) a);
    reads = t.reads;
  }

  behind_method : {w u v : Walk} (n : ℕ) (m : Method) (ms : List Method) → number_in (entry_of m.name env.methods) ≡ n
      → Told (λ to. IsCall calls n to) (called_from env m w) u (body_reading scope m) (CallsInAll (λ to. IsCall calls n to)) → MembersTold calls scope u v (n + 1) ms → MembersTold calls scope w v n (m ∷ ms)
  behind_method {w = w} {u = u} {v = v} n m ms number one more = record {
    added = one.added ++ more.added;
    names = more.names ∙ (ap (λ (ns : List Declaration). ns ++ more.added) one.names ∙ append_assoc w.names one.added more.added);
    more = one.more ++ more.more;
    noted = more.noted ∙ (ap (λ (cs : List Call). cs ++ more.more) one.calls ∙ append_assoc w.calls one.more more.more);
    acyclic = λ a. more.acyclic (one.acyclic a);
    reads = λ all c rest is.
        let caller = number_in (entry_of m.name env.methods) in
        let r = one.reads
        (λ to call. subst (λ (k : ℕ). IsCall calls k to) number (all caller to (subst (λ (cs : List Call). IsCall cs caller to) (sym more.noted) (Contains-append_left u.calls more.more _ call))))
        (in_method m c) (more.added ++ rest) (is ∙ append_assoc one.added more.added rest) in
        (record { calls_noted = r.tells; variables = r.grows }, more.reads all (body_of scope m c).cursor rest r.behind);
  }

  pub members_told : (ms : List Member) (b : Membering) (n : ℕ) → ((i : ℕ) (m : Method) → slice_get (methods_in ms) i ≡ Some m → entry_of m.name env.methods ≡ Some (signature (n + i) m))
      → (fold (member_walk env) b ms).walk.findings ≡ [] → MembersTold calls scope b.walk (fold (member_walk env) b ms).walk n (methods_in ms)
  members_told [] b n there q = record {
    added = [];
    names = sym (append-nil b.walk.names);
    more = [];
    noted = sym (append-nil b.walk.calls);
    acyclic = λ a. a;
    reads = λ all c rest is. tt;
  }
  members_told (member.Field f ∷ ms) b n there q =
      let named = named_member f.name most_fields b.walk.at b.seen.fields b.walk in
      behind_field n (methods_in ms) (after (named_still f.name most_fields b.walk.at b.seen.fields b.walk) (field_still env f b.walk.at named.walk))
      (members_told ms (member_walk env b (member.Field f)) n there q)
  members_told (member.Method m ∷ ms) b n there q =
      let named = named_member m.name most_methods b.walk.at b.seen.methods b.walk in
      let next = member_walk env b (member.Method m) in
      let is : entry_of m.name env.methods ≡ Some (signature (n + 0) m) = there zero m refl in
      let at : n + 0 ≡ n = omega arith in
      let number : number_in (entry_of m.name env.methods) ≡ n = ap number_in is ∙ at in
      let few : number_in (entry_of m.name env.methods) < 256 = subst (λ (k : ℕ). k < 256) (sym (ap number_in is)) (known.few m.name (signature (n + 0) m) is) in
      let one = (method_goes (λ to. IsCall calls n to) env scope m named.walk).told known few (members_sound env ms next q).back in
      behind_field n (m ∷ methods_in ms) (named_still m.name most_methods b.walk.at b.seen.methods b.walk)
      (behind_method n m (methods_in ms) number one
      (members_told ms next (n + 1)
      (λ i k at_i. let j : n + suc i ≡ n + 1 + i = omega arith in subst (λ (x : ℕ). entry_of k.name env.methods ≡ Some (signature x k)) j (there (suc i) k at_i)) q))
