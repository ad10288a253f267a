-- Walks and readings one after another.
use Rattle.std.proofs.Common.{◌≡◌, ℕ, Bool, true, false, List, [], ◌∷◌, ◌++◌, length, nat_lt, slice_set, slice_get, drop, unwrap_or, Some, if◌then◌else◌, refl, sym, ap, subst, ◌∙◌, append_assoc, arith}
use Rattle.std.proofs.lemmas.List.{append-nil, length-append}
use Rattle.std.proofs.lemmas.Bool.Decides.{nat_tests}
use Rattle.std.proofs.Math.Seq.{set-append_seam}
use Rattle.java_tree.specs.declared.types.ExprType.{ExprType}
use Rattle.java_tree.specs.declared.types.ExprType.TheVariants.{Unknown}
use Rattle.java_tree.specs.declared.types.Declaration.{Declaration}
use Rattle.java_types.specs.declared.walk.Env.{Env}
use Rattle.java_types.specs.declared.walk.Walk.{Walk}
use Rattle.java_types.specs.Walks.{past, past_if, noted, opened, closed}
use Rattle.access_blocks.specs.Cursors.{Cursor, Read, read, type_here, behind_type, name_here, behind_name}
use Rattle.typed_bodies.specs.Reading.{Place, Adds, Stands, Reads, InStep, Follows}

-- ---- walks

abbrev pub adds_none : (w : Walk) → w.findings ≡ [] → Adds w w
adds_none w quiet = record {
  types = [];
  names = [];
  no_findings = quiet;
  to_types = sym (append-nil w.types);
  to_names = sym (append-nil w.names);
  same_variables = refl;
  same_locals = refl;
}

abbrev pub adds_both : {w u v : Walk} → Adds w u → Adds u v → Adds w v
adds_both {w = w} a b = record {
  types = a.types ++ b.types;
  names = a.names ++ b.names;
  no_findings = a.no_findings;
  to_types = b.to_types ∙ (ap (λ ts. ts ++ b.types) a.to_types ∙ append_assoc w.types a.types b.types);
  to_names = b.to_names ∙ (ap (λ ns. ns ++ b.names) a.to_names ∙ append_assoc w.names a.names b.names);
  same_variables = b.same_variables ∙ a.same_variables;
  same_locals = b.same_locals ∙ a.same_locals;
}

module _ {w v : Walk} (env : Env) (n : ℕ) where
  pub adds_past : Adds w v → Adds w (past env n v)
  unfolding past
  adds_past a = record {
    types = a.types;
    names = a.names;
    no_findings = a.no_findings;
    to_types = a.to_types;
    to_names = a.to_names;
    same_variables = a.same_variables;
    same_locals = a.same_locals;
  }

  pub past_adds : Adds (past env n w) v → Adds w v
  unfolding past
  past_adds a = record {
    types = a.types;
    names = a.names;
    no_findings = a.no_findings;
    to_types = a.to_types;
    to_names = a.to_names;
    same_variables = a.same_variables;
    same_locals = a.same_locals;
  }

pub past_quiet : (env : Env) (n : ℕ) (w : Walk) → (past env n w).findings ≡ [] → w.findings ≡ []
unfolding past
past_quiet env n w quiet = quiet

pub past_if_quiet : (env : Env) (test : Bool) (n : ℕ) (w : Walk) → (past_if env test n w).findings ≡ [] → w.findings ≡ []
past_if_quiet env true n w quiet = past_quiet env n w quiet
past_if_quiet env false n w quiet = quiet

some_left : {A : Type 0} (xs : List A) (x : A) → xs ++ x ∷ [] ≡ [] → ⊥
some_left [] x e = cc
some_left (y ∷ xs) x e = cc

-- nothing was noted
pub record Unbroken (broken : Bool) (token rule : ℕ) (w : Walk) : Type 0 where
  pub holds : broken ≡ false
  pub same : noted broken token rule w ≡ w
  pub quiet : w.findings ≡ []

pub unbroken : (broken : Bool) (token rule : ℕ) (w : Walk) → (noted broken token rule w).findings ≡ [] → Unbroken broken token rule w
unfolding noted
unbroken true token rule w quiet = absurd (some_left w.findings _ quiet)
unbroken false token rule w quiet = record { holds = refl; same = refl; quiet = quiet }

-- ---- readings

module _ {A : Type 0} {w v : Walk} (p : Place) {reading : Cursor → Read A} {Fits : List Declaration → A → Type 0} where
  pub follows_past : (env : Env) (n : ℕ) → Follows p w v reading Fits → Follows p w (past env n v) reading Fits
  unfolding adds_past
  follows_past env n f = record { added = adds_past env n f.added; in_step = f.in_step }

  pub follows_past_if : (env : Env) (test : Bool) (n : ℕ) → Follows p w v reading Fits → Follows p w (past_if env test n v) reading Fits
  follows_past_if env true n f = follows_past env n f
  follows_past_if env false n f = f

  pub past_follows : (env : Env) (n : ℕ) → Follows p (past env n w) v reading Fits → Follows p w v reading Fits
  unfolding past past_adds
  past_follows env n f = record { added = past_adds env n f.added; in_step = f.in_step }

  pub past_if_follows : (env : Env) (test : Bool) (n : ℕ) → Follows p (past_if env test n w) v reading Fits → Follows p w v reading Fits
  past_if_follows env true n f = past_follows env n f
  past_if_follows env false n f = f

  pub follows_noted : {broken : Bool} {token rule : ℕ} → Unbroken broken token rule v → Follows p w v reading Fits → Follows p w (noted broken token rule v) reading Fits
  follows_noted u f = subst (λ (end : Walk). Follows p w end reading Fits) (sym u.same) f

  pub noted_follows : {broken : Bool} {token rule : ℕ} → Unbroken broken token rule w → Follows p (noted broken token rule w) v reading Fits → Follows p w v reading Fits
  noted_follows u f = subst (λ (start : Walk). Follows p start v reading Fits) u.same f

-- what is made of what is read
pub then_made : {A B : Type 0} {w v : Walk} (p : Place) {reading : Cursor → Read A} {Fits : List Declaration → A → Type 0} (f : A → B) (Made : List Declaration → B → Type 0)
    → ((names : List Declaration) (a : A) → Fits names a → Made names (f a))
    → Follows p w v reading Fits → Follows p w v (λ c. read (f (reading c).it) (reading c).cursor) Made
then_made p f Made made part = record {
  added = part.added;
  in_step = λ known c types names stands. let r = part.in_step known c types names stands in record { behind = r.behind; fits = made _ _ r.fits };
}

pub regrouped : (p : Place) {c : Cursor} (t u : List ExprType) (n k : List Declaration) (types : List ExprType) (names : List Declaration)
    → Stands p c ((t ++ u) ++ types) ((n ++ k) ++ names) → Stands p c (t ++ (u ++ types)) (n ++ (k ++ names))
regrouped p t u n k types names s = record {
  are_types = s.are_types ∙ append_assoc t u _;
  are_names = s.are_names ∙ append_assoc n k _;
  are_variables = s.are_variables;
  are_locals = s.are_locals;
}

-- one reading after another, which may depend on what the first one read
pub in_step_both : {A B : Type 0} {w u v : Walk} (p : Place) (a : Adds w u) (b : Adds u v) {first : Cursor → Read A} {second : A → Cursor → Read B}
    (First : List Declaration → A → Type 0) (Second : A → List Declaration → B → Type 0) (Both : List Declaration → B → Type 0)
    → ((x : A) (y : B) → First a.names x → Second x b.names y → Both (a.names ++ b.names) y)
    → InStep p a first First → ((x : A) → InStep p b (second x) (Second x))
    → InStep p (adds_both a b) (λ c. second (first c).it (first c).cursor) Both
in_step_both p a b {first = first} First Second Both both one two known c types names stands =
    let r = one known c (b.types ++ types) (b.names ++ names) (regrouped p a.types b.types a.names b.names types names stands) in
    let s = two (first c).it (a.same_variables ∙ known) (first c).cursor types names r.behind in
    record { behind = s.behind; fits = both _ _ r.fits s.fits }

-- something is made of what two readings read, one after the other
pub follows_two : {A B C : Type 0} {w u v : Walk} (p : Place) {first : Cursor → Read A} {second : Cursor → Read B} (First : List Declaration → A → Type 0) (Second : List Declaration → B → Type 0)
    (f : A → B → C) (Made : List Declaration → C → Type 0)
    → ((names more : List Declaration) (a : A) (b : B) → First names a → Second more b → Made (names ++ more) (f a b))
    → Follows p w u first First → Follows p u v second Second
    → Follows p w v (λ c. read (f (first c).it (second (first c).cursor).it) (second (first c).cursor).cursor) Made
follows_two p First Second f Made made one two = record {
  added = adds_both one.added two.added;
  in_step = λ known c types names stands.
      let r = one.in_step known c (two.added.types ++ types) (two.added.names ++ names) (regrouped p one.added.types two.added.types one.added.names two.added.names types names stands) in
      let s = two.in_step (one.added.same_variables ∙ known) _ types names r.behind in
      record { behind = s.behind; fits = made _ _ _ _ r.fits s.fits };
}

-- ---- names and types

pub at_first : {A : Type 0} {xs : List A} {x : A} {more : List A} → xs ≡ x ∷ more → slice_get xs 0 ≡ Some x
at_first {x = x} {more = more} e = ap (λ ys. slice_get ys 0) e

pub behind_first : {A : Type 0} {xs : List A} {x : A} {more : List A} → xs ≡ x ∷ more → drop 1 xs ≡ more
behind_first e = ap (λ ys. drop 1 ys) e

pub type_stands : (p : Place) {c : Cursor} {t : ExprType} {types : List ExprType} {names : List Declaration} → Stands p c (t ∷ types) names → type_here c ≡ t
type_stands p s = ap (λ d. unwrap_or d Unknown) (at_first s.are_types)

pub type_passed : (p : Place) {c : Cursor} {t : ExprType} {types : List ExprType} {names : List Declaration} → Stands p c (t ∷ types) names → Stands p (behind_type c) types names
type_passed p s = record { are_types = behind_first s.are_types; are_names = s.are_names; are_variables = s.are_variables; are_locals = s.are_locals }

pub name_stands : (p : Place) {c : Cursor} {d : Declaration} {types : List ExprType} {names : List Declaration} → Stands p c types (d ∷ names) → name_here c ≡ Some d
name_stands p s = at_first s.are_names

pub name_passed : (p : Place) {c : Cursor} {d : Declaration} {types : List ExprType} {names : List Declaration} → Stands p c types (d ∷ names) → Stands p (behind_name c) types names
name_passed p s = record { are_types = s.are_types; are_names = behind_first s.are_names; are_variables = s.are_variables; are_locals = s.are_locals }

-- ---- an expression, whose type stands before those of its parts

closed_is : (b : Bool) (w v : Walk) → b ≡ true → (if b then v else w) ≡ v
closed_is true w v e = refl
closed_is false w v e = absurd (cc)

slot_there : {A : Type 0} (xs : List A) (x : A) (ys : List A) → nat_lt (length xs) (length (xs ++ x ∷ ys)) ≡ true
slot_there xs x ys = simp length-append (grind (arith, nat_tests))

opened_types : (w : Walk) {v : Walk} (a : Adds (opened w) v) → v.types ≡ w.types ++ Unknown ∷ a.types
unfolding opened
opened_types w a = a.to_types ∙ append_assoc w.types (Unknown ∷ []) a.types

abbrev with_type : Walk → Walk → ExprType → Walk
with_type w v t = record v { types = slice_set v.types (length w.types) t }

module _ {A : Type 0} (p : Place) (w : Walk) {v : Walk} (t : ExprType) (reading : ExprType → Cursor → Read A) (Fits : List Declaration → A → Type 0) where
  adds_typed : Adds (opened w) v → Adds w (with_type w v t)
  unfolding opened
  adds_typed a = record {
    types = t ∷ a.types;
    names = a.names;
    no_findings = a.no_findings;
    to_types = ap (λ (ts : List ExprType). slice_set ts (length w.types) t) (opened_types w a) ∙ set-append_seam w.types Unknown a.types t;
    to_names = a.to_names;
    same_variables = a.same_variables;
    same_locals = a.same_locals;
  }

  is_typed : Adds (opened w) v → closed (length w.types) t v ≡ (with_type w v t)
  unfolding closed
  is_typed a =
      let there : nat_lt (length w.types) (length v.types) ≡ true = ap (λ (ts : List ExprType). nat_lt (length w.types) (length ts)) (opened_types w a) ∙ slot_there w.types Unknown a.types in
      closed_is (nat_lt (length w.types) (length v.types)) v (with_type w v t) there

  follows_with_type : Follows p (opened w) v (reading t) Fits → Follows p w (with_type w v t) (λ c. reading (type_here c) (behind_type c)) Fits
  unfolding opened adds_typed
  follows_with_type part = record {
    added = adds_typed part.added;
    in_step = λ known c types names stands.
        let r = part.in_step known (behind_type c) types names (type_passed p stands) in
        subst (λ (found : ExprType). Reads p (reading found (behind_type c)) types names (Fits part.added.names)) (sym (type_stands p stands)) r;
  }

  pub follows_typed : Follows p (opened w) v (reading t) Fits → Follows p w (closed (length w.types) t v) (λ c. reading (type_here c) (behind_type c)) Fits
  follows_typed part = subst (λ (end : Walk). Follows p w end (λ c. reading (type_here c) (behind_type c)) Fits) (sym (is_typed part.added)) (follows_with_type part)
