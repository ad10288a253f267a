-- Walks of the rules on types and readings, one after another: a walk adds the calls of the methods that are read.
use Rattle.std.proofs.Common.{◌≡◌, ℕ, ◌<◌, Bool, true, false, nat_eq, nat_lt, List, [], ◌∷◌, ◌++◌, length, drop, slice_get, Contains, Option, Some, None, if◌then◌else◌, refl, sym, ap, subst, ◌∙◌, append_assoc, append-nil}
use Rattle.std.proofs.lemmas.List.Elements.{Contains-append_left}
use Rattle.java_tree.specs.declared.types.ValueType.{ValueType}
use Rattle.java_tree.specs.declared.types.ExprType.{ExprType}
use Rattle.java_tree.specs.declared.types.Declaration.{Declaration}
use Rattle.java_tree.specs.declared.types.Declaration.TheVariants as declaration
use Rattle.java_types.specs.declared.calls.Call.{Call}
use Rattle.java_types.specs.declared.walk.Env.{Env}
use Rattle.java_types.specs.declared.walk.Signature.{Signature}
use Rattle.java_types.specs.declared.walk.Variable.{Variable}
use Rattle.java_types.specs.declared.walk.Walk.{Walk}
use Rattle.java_types.specs.Calls.{reaches}
use Rattle.java_types.specs.Names.{entry_of}
use Rattle.java_types.specs.Walks.{Typing, past, past_if, noted, opened, closed, left, used_as, named, used, variable, call}
use Rattle.java_types.specs.Expressions.{past_none}
use Rattle.access_blocks.specs.Cursors.{Cursor, Read, read, name_here, behind_name}

-- each method that the rules know has a sound declaration, and a number below the most that there may be
pub record IsKnown (env : Env) : Type 0 where
  pub sound : (name : List ℕ) (s : Signature) → entry_of name env.methods ≡ Some s → s.is_sound ≡ true
  pub few : (name : List ℕ) (s : Signature) → entry_of name env.methods ≡ Some s → s.number < 256

abbrev pub IsCall : List Call → ℕ → ℕ → Type 0
IsCall calls from to = Contains calls (call from to)

-- no callee reaches its caller
abbrev pub IsAcyclic : List Call → Type 0
IsAcyclic calls = (from to : ℕ) → IsCall calls from to → reaches calls to from ≡ false

-- ---- steps of the walk that add no name and no call

pub record Still (w v : Walk) : Type 0 where
  pub back : v.findings ≡ [] → w.findings ≡ []
  pub names : v.names ≡ w.names
  pub caller : v.caller ≡ w.caller
  pub calls : v.calls ≡ w.calls

pub here : (w : Walk) → Still w w
here w = record { back = λ q. q; names = refl; caller = refl; calls = refl }

pub after : {w u v : Walk} → Still w u → Still u v → Still w v
after s t = record { back = λ q. s.back (t.back q); names = t.names ∙ s.names; caller = t.caller ∙ s.caller; calls = t.calls ∙ s.calls }

pub some_left : {A : Type 0} (xs : List A) (x : A) → xs ++ x ∷ [] ≡ [] → ⊥
some_left [] x e = cc
some_left (y ∷ xs) x e = cc

pub noted_still : (broken : Bool) (token rule : ℕ) (w : Walk) → Still w (noted broken token rule w)
unfolding noted
noted_still true token rule w = record { back = λ q. absurd (some_left w.findings _ q); names = refl; caller = refl; calls = refl }
noted_still false token rule w = here w

-- what is not noted is not broken
pub not_noted : (broken : Bool) (token rule : ℕ) (w : Walk) → (noted broken token rule w).findings ≡ [] → broken ≡ false
unfolding noted
not_noted true token rule w q = absurd (some_left w.findings _ q)
not_noted false token rule w q = refl

pub past_still : (env : Env) (n : ℕ) (w : Walk) → Still w (past env n w)
unfolding past
past_still env n w = record { back = λ q. q; names = refl; caller = refl; calls = refl }

pub past_if_still : (env : Env) (test : Bool) (n : ℕ) (w : Walk) → Still w (past_if env test n w)
past_if_still env true n w = past_still env n w
past_if_still env false n w = here w

pub past_none_still : {A : Type 0} (env : Env) (xs : List A) (w : Walk) → Still w (past_none env xs w)
past_none_still env xs w = past_if_still env (nat_eq (length xs) 0) 1 w

pub opened_still : (w : Walk) → Still w (opened w)
unfolding opened
opened_still w = record { back = λ q. q; names = refl; caller = refl; calls = refl }

pub still_either : {w : Walk} (b : Bool) (x y : Walk) → Still w x → Still w y → Still w (if b then x else y)
still_either true x y s t = s
still_either false x y s t = t

pub closed_still : (slot : ℕ) (t : ExprType) (w : Walk) → Still w (closed slot t w)
unfolding closed
closed_still slot t w = still_either (nat_lt slot (length w.types)) _ w (record { back = λ q. q; names = refl; caller = refl; calls = refl }) (here w)

pub left_still : (outer : ℕ) (w : Walk) → Still w (left outer w)
unfolding left
left_still outer w = record { back = λ q. q; names = refl; caller = refl; calls = refl }

pub used_still : (at : ℕ) (t : Typing) → Still t.walk (used at t).walk
unfolding used
used_still at t = noted_still _ at 7 t.walk

-- ---- readings

-- a list of variables, and more
pub record Extends (xs ys : List ValueType) : Type 0 where
  pub more : List ValueType
  pub is : ys ≡ xs ++ more

pub unchanged : (xs : List ValueType) → Extends xs xs
unchanged xs = record { more = []; is = sym (append-nil xs) }

pub further : {xs ys zs : List ValueType} → Extends xs ys → Extends ys zs → Extends xs zs
further {xs = xs} a b = record { more = a.more ++ b.more; is = b.is ∙ (ap (λ (vs : List ValueType). vs ++ b.more) a.is ∙ append_assoc xs a.more b.more) }

-- What is read is told, and the reading goes on before these names.
pub record IsRead {A : Type 0} (c : Cursor) (rest : List Declaration) (r : Read A) (Tells : A → Type 0) : Type 0 where
  pub behind : r.cursor.names ≡ rest
  pub grows : Extends c.variables r.cursor.variables
  pub tells : Tells r.it

-- What a walk adds, and what is read of it, where each method that is called by the walk's caller has the property.
pub record Told (P : ℕ → Type 0) {A : Type 0} (w v : Walk) (reading : Cursor → Read A) (Tells : A → Type 0) : Type 0 where
  pub added : List Declaration
  pub names : v.names ≡ w.names ++ added
  pub more : List Call
  pub calls : v.calls ≡ w.calls ++ more
  pub acyclic : IsAcyclic w.calls → IsAcyclic v.calls
  pub reads : ((m : ℕ) → IsCall v.calls w.caller m → P m) → (c : Cursor) (rest : List Declaration) → c.names ≡ added ++ rest → IsRead c rest (reading c) Tells

pub record Goes (P : ℕ → Type 0) {A : Type 0} (env : Env) (w v : Walk) (reading : Cursor → Read A) (Tells : A → Type 0) : Type 0 where
  pub back : v.findings ≡ [] → w.findings ≡ []
  pub caller : v.caller ≡ w.caller
  pub told : IsKnown env → w.caller < 256 → v.findings ≡ [] → Told P w v reading Tells

behind_first : {X : Type 0} {xs : List X} {x : X} {more : List X} → xs ≡ x ∷ more → drop 1 xs ≡ more
behind_first e = ap (λ ys. drop 1 ys) e

at_first : {X : Type 0} {xs : List X} {x : X} {more : List X} → xs ≡ x ∷ more → slice_get xs 0 ≡ Some x
at_first e = ap (λ ys. slice_get ys 0) e

module _ (P : ℕ → Type 0) {env : Env} where
  -- nothing is read
  pub unread : {A : Type 0} (w : Walk) (reading : Cursor → Read A) (Tells : A → Type 0)
      → ((c : Cursor) → (reading c).cursor.names ≡ c.names) → ((c : Cursor) → Extends c.variables (reading c).cursor.variables) → ((c : Cursor) → Tells (reading c).it)
      → Goes P env w w reading Tells
  unread w reading Tells same grows tells = record {
    back = λ q. q;
    caller = refl;
    told = λ known few q. record {
      added = [];
      names = sym (append-nil w.names);
      more = [];
      calls = sym (append-nil w.calls);
      acyclic = λ a. a;
      reads = λ all c rest is. record { behind = same c ∙ is; grows = grows c; tells = tells c };
    };
  }

  pub before : {A : Type 0} {w u v : Walk} {reading : Cursor → Read A} {Tells : A → Type 0} → Still w u → Goes P env u v reading Tells → Goes P env w v reading Tells
  before {w = w} {u = u} {v = v} s g = record {
    back = λ q. s.back (g.back q);
    caller = g.caller ∙ s.caller;
    told = λ known few q.
        let t = g.told known (subst (λ n. n < 256) (sym s.caller) few) q in
        record {
          added = t.added;
          names = t.names ∙ ap (λ (ns : List Declaration). ns ++ t.added) s.names;
          more = t.more;
          calls = t.calls ∙ ap (λ (cs : List Call). cs ++ t.more) s.calls;
          acyclic = λ a. t.acyclic (subst IsAcyclic (sym s.calls) a);
          reads = λ all. t.reads (λ m is. all m (subst (λ (n : ℕ). IsCall v.calls n m) s.caller is));
        };
  }

  pub behind : {A : Type 0} {w u v : Walk} {reading : Cursor → Read A} {Tells : A → Type 0} → Goes P env w u reading Tells → Still u v → Goes P env w v reading Tells
  behind {w = w} {u = u} {v = v} g s = record {
    back = λ q. g.back (s.back q);
    caller = s.caller ∙ g.caller;
    told = λ known few q.
        let t = g.told known few (s.back q) in
        record {
          added = t.added;
          names = s.names ∙ t.names;
          more = t.more;
          calls = s.calls ∙ t.calls;
          acyclic = λ a. subst IsAcyclic (sym s.calls) (t.acyclic a);
          reads = λ all. t.reads (λ m is. all m (subst (λ (cs : List Call). IsCall cs w.caller m) (sym s.calls) is));
        };
  }

  -- something is made of what is read, from a cursor that stands before the same names
  pub made : {A B : Type 0} {w v : Walk} {reading : Cursor → Read A} {First : A → Type 0} (Tells : B → Type 0) (g : Cursor → Cursor) (f : Cursor → A → B)
      → ((c : Cursor) → (g c).names ≡ c.names) → ((c : Cursor) → Extends c.variables (g c).variables) → ((c : Cursor) (a : A) → First a → Tells (f c a))
      → Goes P env w v reading First → Goes P env w v (λ c. read (f c (reading (g c)).it) (reading (g c)).cursor) Tells
  made Tells g f same grows tells part = record {
    back = part.back;
    caller = part.caller;
    told = λ known few q.
        let t = part.told known few q in
        record {
          added = t.added;
          names = t.names;
          more = t.more;
          calls = t.calls;
          acyclic = t.acyclic;
          reads = λ all c rest is.
              let r = t.reads all (g c) rest (same c ∙ is) in
              record { behind = r.behind; grows = further (grows c) r.grows; tells = tells c _ r.tells };
        };
  }

  -- something is made of what two readings read, one after the other
  pub in_turn : {A B C : Type 0} {w u v : Walk} {first : Cursor → Read A} {second : Cursor → Read B} {First : A → Type 0} {Second : B → Type 0} (Tells : C → Type 0)
      (g : Cursor → Cursor) (f : Cursor → A → B → C)
      → ((c : Cursor) → (g c).names ≡ c.names) → ((c : Cursor) → Extends c.variables (g c).variables) → ((c : Cursor) (a : A) (b : B) → First a → Second b → Tells (f c a b))
      → Goes P env w u first First → Goes P env u v second Second
      → Goes P env w v (λ c. read (f c (first (g c)).it (second (first (g c)).cursor).it) (second (first (g c)).cursor).cursor) Tells
  in_turn {w = w} {u = u} {v = v} Tells g f same grows tells one two = record {
    back = λ q. one.back (two.back q);
    caller = two.caller ∙ one.caller;
    told = λ known few q.
        let a = one.told known few (two.back q) in
        let b = two.told known (subst (λ n. n < 256) (sym one.caller) few) q in
        record {
          added = a.added ++ b.added;
          names = b.names ∙ (ap (λ (ns : List Declaration). ns ++ b.added) a.names ∙ append_assoc w.names a.added b.added);
          more = a.more ++ b.more;
          calls = b.calls ∙ (ap (λ (cs : List Call). cs ++ b.more) a.calls ∙ append_assoc w.calls a.more b.more);
          acyclic = λ h. b.acyclic (a.acyclic h);
          reads = λ all c rest is.
              let r = a.reads (λ m call. all m (subst (λ (cs : List Call). IsCall cs w.caller m) (sym b.calls) (Contains-append_left u.calls b.more _ call))) (g c) (b.added ++ rest)
              (same c ∙ (is ∙ append_assoc a.added b.added rest)) in
              let s = b.reads (λ m call. all m (subst (λ (n : ℕ). IsCall v.calls n m) one.caller call)) _ rest r.behind in
              record { behind = s.behind; grows = further (grows c) (further r.grows s.grows); tells = tells c _ _ r.tells s.tells };
        };
  }

  -- ---- names

  -- a name, and a reading that may depend on what it stands for
  pub name_first : {A : Type 0} {w u v : Walk} (d : Declaration) (reading : Option Declaration → Cursor → Read A) (Tells : A → Type 0)
      → (u.findings ≡ [] → w.findings ≡ []) → u.names ≡ w.names ++ d ∷ [] → u.caller ≡ w.caller → u.calls ≡ w.calls
      → Goes P env u v (reading (Some d)) Tells → Goes P env w v (λ c. reading (name_here c) (behind_name c)) Tells
  name_first {w = w} {u = u} {v = v} d reading Tells quiet adds same_caller same_calls g = record {
    back = λ q. quiet (g.back q);
    caller = g.caller ∙ same_caller;
    told = λ known few q.
        let t = g.told known (subst (λ n. n < 256) (sym same_caller) few) q in
        record {
          added = d ∷ t.added;
          names = t.names ∙ (ap (λ (ns : List Declaration). ns ++ t.added) adds ∙ append_assoc w.names (d ∷ []) t.added);
          more = t.more;
          calls = t.calls ∙ ap (λ (cs : List Call). cs ++ t.more) same_calls;
          acyclic = λ a. t.acyclic (subst IsAcyclic (sym same_calls) a);
          reads = λ all c rest is.
              let r = t.reads (λ m call. all m (subst (λ (n : ℕ). IsCall v.calls n m) same_caller call)) (behind_name c) rest (behind_first is) in
              let s : IsRead c rest (reading (Some d) (behind_name c)) Tells = record { behind = r.behind; grows = r.grows; tells = r.tells } in
              subst (λ (o : Option Declaration). IsRead c rest (reading o (behind_name c)) Tells) (sym (at_first is)) s;
        };
  }

  named_by : {A : Type 0} {w v : Walk} (at : ℕ) (o : Option Variable) (reading : Option Declaration → Cursor → Read A) (Tells : A → Type 0)
      → ((d : Declaration) → Goes P env (used_as at (past env 1 w) o).walk v (reading (Some d)) Tells) → Goes P env w v (λ c. reading (name_here c) (behind_name c)) Tells
  unfolding past
  named_by {w = w} at None reading Tells each =
      let g = each (declaration.Field 0) in
      let n = noted_still true at 3 (past env 1 w) in
      let not : (noted true at 3 (past env 1 w)).findings ≡ [] → ⊥ = λ q. (let e : true ≡ false = not_noted true at 3 (past env 1 w) q in cc) in
      record { back = λ q. absurd (not (g.back q)); caller = g.caller ∙ n.caller; told = λ known few q. absurd (not (g.back q)) }
  named_by {w = w} at (Some x) reading Tells each = name_first x.declaration reading Tells (λ q. q) refl refl refl (each x.declaration)

  pub named_goes : {A : Type 0} {w v : Walk} (name : List ℕ) (reading : Option Declaration → Cursor → Read A) (Tells : A → Type 0)
      → ((d : Declaration) → Goes P env (named env name w).walk v (reading (Some d)) Tells) → Goes P env w v (λ c. reading (name_here c) (behind_name c)) Tells
  unfolding named
  named_goes {w = w} name reading Tells each = named_by w.at (variable env w name) reading Tells each
