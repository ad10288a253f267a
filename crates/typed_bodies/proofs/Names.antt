-- A name that the walk passes, and that is read.
use Rattle.std.proofs.Common.{◌≡◌, ℕ, true, false, List, [], ◌∷◌, ◌++◌, length, Option, Some, None, refl, sym, ap, subst, ◌∙◌, append_assoc}
use Rattle.java_tree.specs.declared.types.ExprType.{ExprType}
use Rattle.java_tree.specs.declared.types.Declaration.{Declaration}
use Rattle.java_tree.specs.declared.types.Declaration.TheVariants as declaration
use Rattle.java_types.specs.declared.walk.Env.{Env}
use Rattle.java_types.specs.declared.walk.Variable.{Variable}
use Rattle.java_types.specs.declared.walk.Walk.{Walk}
use Rattle.java_types.specs.Names.{entry_of}
use Rattle.java_types.specs.Walks.{Typing, past, variable, used_as, named, first_of}
use Rattle.access_blocks.specs.Cursors.{Cursor, Read, name_here, behind_name, variable_of}
use Rattle.typed_bodies.specs.Reading.{Place, Adds, Reads, Follows, cursor_at, known_as}
use Rattle.typed_bodies.proofs.Steps.{unbroken, name_stands, name_passed}

-- the walk adds this name alone
pub record AddsName (w v : Walk) (d : Declaration) : Type 0 where
  pub no_findings : w.findings ≡ []
  pub same_types : v.types ≡ w.types
  pub to_names : v.names ≡ w.names ++ d ∷ []
  pub same_variables : v.variables ≡ w.variables
  pub same_locals : v.locals ≡ w.locals

-- a name of a variable with this type
pub record Names (env : Env) (name : List ℕ) (w : Walk) (t : Typing) : Type 0 where
  pub it : Variable
  pub is : variable env w name ≡ Some it
  pub adds : AddsName w t.walk it.declaration
  pub found : t.found ≡ it.found

names_by : (env : Env) (name : List ℕ) (w : Walk) (at : ℕ) (o : Option Variable) → variable env w name ≡ o → (used_as at (past env 1 w) o).walk.findings ≡ [] → Names env name w (used_as at (past env 1 w) o)
unfolding past
names_by env name w at None is quiet = absurd (let u = unbroken true at 3 (past env 1 w) quiet in let h : true ≡ false = u.holds in cc)
names_by env name w at (Some v) is quiet = record {
  it = v;
  is = is;
  adds = record { no_findings = quiet; same_types = refl; to_names = refl; same_variables = refl; same_locals = refl };
  found = refl;
}

pub names : (env : Env) (name : List ℕ) (w : Walk) → (named env name w).walk.findings ≡ [] → Names env name w (named env name w)
unfolding named
names env name w quiet = names_by env name w w.at (variable env w name) refl quiet

-- what is known of it at the place
pub known_there : (p : Place) (name : List ℕ) (w : Walk) {v : Variable} → w.variables ≡ p.known → variable p.env w name ≡ Some v → known_as p name ≡ Some v
unfolding variable
known_there p name w known is = ap (λ (vs : List (List ℕ × Variable)). first_of (entry_of name vs) (entry_of name p.env.fields)) (sym known) ∙ is

pub variable_by : (d : Option Declaration) (c k : Cursor) → c.variables ≡ k.variables → c.locals ≡ k.locals → variable_of c d ≡ variable_of k d
variable_by (Some (declaration.Parameter m)) c k e f = refl
variable_by (Some (declaration.Local m)) c k e f =
    ap (λ (vs : List _). variable_of (record { names = []; types = []; sites = []; variables = vs; locals = c.locals }) (Some (declaration.Local m))) e
    ∙ ap (λ (ls : List ℕ). variable_of (record { names = []; types = []; sites = []; variables = k.variables; locals = ls }) (Some (declaration.Local m))) f
variable_by d c k e f = ap (λ (vs : List _). length vs) e

-- ---- a reading behind a name

module _ {A : Type 0} {w u v : Walk} (p : Place) (d : Declaration) (reading : Option Declaration → Cursor → Read A) (Fits Named : List Declaration → A → Type 0) where
  adds_named : AddsName w u d → Adds u v → Adds w v
  adds_named n a = record {
    types = a.types;
    names = d ∷ a.names;
    no_findings = n.no_findings;
    to_types = a.to_types ∙ ap (λ (ts : List ExprType). ts ++ a.types) n.same_types;
    to_names = a.to_names ∙ (ap (λ (ns : List Declaration). ns ++ a.names) n.to_names ∙ append_assoc w.names (d ∷ []) a.names);
    same_variables = a.same_variables ∙ n.same_variables;
    same_locals = a.same_locals ∙ n.same_locals;
  }

  pub named_first : AddsName w u d → (w.variables ≡ p.known → (ns : List Declaration) (a : A) → Fits ns a → Named (d ∷ ns) a)
      → Follows p u v (reading (Some d)) Fits → Follows p w v (λ c. reading (name_here c) (behind_name c)) Named
  unfolding adds_named
  named_first n made f = record {
    added = adds_named n f.added;
    in_step = λ known c types names stands.
        let r = f.in_step (n.same_variables ∙ known) (behind_name c) types names (name_passed p stands) in
        let s : Reads p (reading (Some d) (behind_name c)) types names (Named (d ∷ f.added.names)) = record { behind = r.behind; fits = made known _ _ r.fits } in
        subst (λ (o : Option Declaration). Reads p (reading o (behind_name c)) types names (Named (d ∷ f.added.names))) (sym (name_stands p stands)) s;
  }

-- a reading that begins with the variable that a name stands for
pub with_variable : {A : Type 0} {w v : Walk} (p : Place) (d : Declaration) (reading : ℕ → Cursor → Read A) (Fits : List Declaration → A → Type 0)
    → Follows p w v (reading (variable_of (cursor_at p) (Some d))) Fits → Follows p w v (λ c. reading (variable_of c (Some d)) c) Fits
with_variable p d reading Fits f = record {
  added = f.added;
  in_step = λ known c types names stands.
      subst (λ (n : ℕ). Reads p (reading n c) types names (Fits f.added.names)) (sym (variable_by (Some d) c (cursor_at p) stands.are_variables stands.are_locals))
      (f.in_step known c types names stands);
}
