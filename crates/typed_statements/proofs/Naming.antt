-- A name of a variable that may be assigned: it is a local with a variable, or a parameter, and has a type.
use Rattle.std.proofs.Common.{◌≡◌, ℕ, zero, suc, ◌<◌, Bool, true, false, not, ◌&&◌, if◌then◌else◌, List, [], ◌∷◌, ◌++◌, length, is_some, slice_get, Option, Some, None, refl, sym, ap, subst, ◌∙◌, append_assoc, arith}
use Rattle.sdg_base.specs.declared.value_type.ValueType.{ValueType as SignatureType}
use Rattle.sdg_base.specs.declared.value_type.ValueType.TheVariants as type
use Rattle.java_tree.specs.declared.types.ValueType.{ValueType}
use Rattle.java_tree.specs.declared.types.ValueType.TheVariants as value
use Rattle.java_tree.specs.declared.types.ExprType.{ExprType}
use Rattle.java_tree.specs.declared.types.ExprType.TheVariants as types
use Rattle.java_tree.specs.declared.types.Declaration.{Declaration}
use Rattle.java_tree.specs.declared.types.Declaration.TheVariants as declaration
use Rattle.java_types.specs.declared.walk.Env.{Env}
use Rattle.java_types.specs.declared.walk.Variable.{Variable}
use Rattle.java_types.specs.declared.walk.Walk.{Walk}
use Rattle.java_types.specs.Simples.{Target, target, target_of, is_of_method, is_collection}
use Rattle.java_types.specs.Walks.{named, past, variable}
use Rattle.access_blocks.specs.declared.body.Expression.TheVariants as x
use Rattle.access_blocks.specs.Cursors.{variable_of}
use Rattle.body_code.specs.Typing.{Context, one_type, variable_type_in}
use Rattle.typed_bodies.specs.Expressions.{is_field}
use Rattle.typed_bodies.specs.PartLaws.{IsVariable}
use Rattle.typed_bodies.specs.Reading.{Adds, IsOfType, cursor_at, known_as, is_method, is_plain}
use Rattle.typed_bodies.proofs.Conversions.{variable_is}
use Rattle.typed_bodies.proofs.Names.{AddsName, names}
use Rattle.typed_bodies.proofs.Steps.{unbroken}
use Rattle.typed_statements.specs.Points.{Setting, Point, place_at, Agree}

-- ---- the walk of the rules on types

-- the target of an assignment
pub record Assignable (env : Env) (name : List ℕ) (w : Walk) (t : Target) : Type 0 where
  pub it : Variable
  pub is : variable env w name ≡ Some it
  pub adds : AddsName w t.walk it.declaration
  pub found : t.variable ≡ Some it
  pub of_method : is_of_method it.declaration ≡ true
  pub no_collection : is_collection it.found ≡ false

pub not_false : (b : Bool) → not b ≡ false → b ≡ true
not_false true e = refl
not_false false e = absurd (cc)

record MayBe (v : Variable) : Type 0 where
  found : target_of (Some v) ≡ Some v
  of_method : is_of_method v.declaration ≡ true
  no_collection : is_collection v.found ≡ false

may_be : (v : Variable) → is_some (target_of (Some v)) ≡ true → MayBe v
may_be v = by (is_of_method v.declaration) (is_collection v.found) refl refl
  where
    by : (b c : Bool) → is_of_method v.declaration ≡ b → is_collection v.found ≡ c → is_some (if b && not c then Some v else None) ≡ true → MayBe v
    by true false is_b is_c e = record { found = ap (λ b. if b && not (is_collection v.found) then Some v else None) is_b ∙ ap (λ c. if not c then Some v else None) is_c; of_method = is_b; no_collection = is_c }
    by true true is_b is_c e = absurd (cc)
    by false c is_b is_c e = absurd (cc)

pub target_quiet : (env : Env) (at : ℕ) (name : List ℕ) (w : Walk) → (target env at name w).walk.findings ≡ [] → Assignable env name w (target env at name w)
unfolding target
target_quiet env at name w quiet =
    let u = unbroken (not (is_some (target_of (variable env w name)))) at 9 (named env name w).walk quiet in
    let n = names env name w u.quiet in
    let m = may_be n.it (ap (λ o. is_some (target_of o)) (sym n.is) ∙ not_false _ u.holds) in
    record {
      it = n.it;
      is = n.is;
      adds = subst (λ (v : Walk). AddsName w v n.it.declaration) (sym u.same) n.adds;
      found = ap target_of n.is ∙ m.found;
      of_method = m.of_method;
      no_collection = m.no_collection;
    }

abbrev pub name_adds : {w u v : Walk} {d : Declaration} → AddsName w u d → Adds u v → Adds w v
name_adds {w = w} {d = d} n a = record {
  types = a.types;
  names = d ∷ a.names;
  no_findings = n.no_findings;
  to_types = a.to_types ∙ ap (λ (ts : List ExprType). ts ++ a.types) n.same_types;
  to_names = a.to_names ∙ (ap (λ (ns : List Declaration). ns ++ a.names) n.to_names ∙ append_assoc w.names (d ∷ []) a.names);
  same_variables = a.same_variables ∙ n.same_variables;
  same_locals = a.same_locals ∙ n.same_locals;
}

pub name_past : (env : Env) (n : ℕ) {w u : Walk} {d : Declaration} → AddsName w u d → AddsName w (past env n u) d
unfolding past
name_past env n a = record { no_findings = a.no_findings; same_types = a.same_types; to_names = a.to_names; same_variables = a.same_variables; same_locals = a.same_locals }

pub no_field : (d : Declaration) → is_of_method d ≡ true → is_field d ≡ false
no_field (declaration.Field n) e = absurd (cc)
no_field (declaration.Method n) e = absurd (cc)
no_field (declaration.Parameter n) e = refl
no_field (declaration.Local n) e = refl

pub no_method : (d : Declaration) → is_of_method d ≡ true → is_method d ≡ false
no_method (declaration.Field n) e = absurd (cc)
no_method (declaration.Method n) e = absurd (cc)
no_method (declaration.Parameter n) e = refl
no_method (declaration.Local n) e = refl

-- ---- its type

one_not_void : (o : Option ValueType) → one_type o ≡ Some type.Void → ⊥
one_not_void None e = absurd (cc)
one_not_void (Some value.Int) e = absurd (cc)
one_not_void (Some value.Long) e = absurd (cc)
one_not_void (Some value.Boolean) e = absurd (cc)
one_not_void (Some value.Vector) e = absurd (cc)

not_void_in : (members : Option SignatureType) (variables : List ValueType) (v : ℕ) → variable_type_in members variables v ≡ Some type.Void → ⊥
not_void_in None variables v e = one_not_void (slice_get variables v) e
not_void_in (Some t) variables zero e = absurd (cc)
not_void_in (Some t) variables (suc v) e = one_not_void (slice_get variables (suc v)) e

value_found : (c : Context) (found : ExprType) (v : ℕ) → IsOfType c found (x.Variable v) → is_collection found ≡ false → (t : ValueType) × (found ≡ types.Value t)
value_found c types.Unknown v typed e = absurd typed
value_found c types.Void v typed e = absurd (not_void_in c.members c.variables v (sym (variable_is c v) ∙ typed))
value_found c (types.Value t) v typed e = (t, refl)
value_found c (types.Collection t) v typed e = absurd (cc)
value_found c (types.State class) v typed e = absurd typed

get_below : {A : Type 0} (xs : List A) (n : ℕ) (a : A) → slice_get xs n ≡ Some a → n < length xs
get_below [] zero a e = absurd (cc)
get_below [] (suc n) a e = absurd (cc)
get_below (x ∷ xs) zero a e = grind (arith)
get_below (x ∷ xs) (suc n) a e = up n (length xs) (get_below xs n a e)
  where
    up : (n m : ℕ) → n < m → suc n < suc m
    up n m less = grind (arith)

-- a variable so far with this type
pub record IsAssignable (k : Setting) (at : Point) (it : Variable) (v : ℕ) : Type 0 where
  pub type : ValueType
  pub found : it.found ≡ types.Value type
  pub is : IsVariable (place_at k at) v type
  pub below : v < length at.cursor.variables

pub assignable_variable : (k : Setting) (at : Point) → Agree k (place_at k at) → (name : List ℕ) (it : Variable) → known_as (place_at k at) name ≡ Some it → is_plain (place_at k at) it.declaration ≡ true
    → is_collection it.found ≡ false → IsAssignable k at it (variable_of (cursor_at (place_at k at)) (Some it.declaration))
assignable_variable k at g name it is plain no_collection =
    let p = place_at k at in
    let v = variable_of (cursor_at p) (Some it.declaration) in
    let typed = g.sound.variables name it is plain in
    let t = value_found p.context it.found v typed no_collection in
    let so_far = g.of_type name it t.0 is plain t.1 in
    record {
      type = t.0;
      found = t.1;
      is = record {
        in_scope = record { name = name; it = it; is = is; plain = plain; number = refl };
        so_far = so_far;
        typed = sym (variable_is p.context v) ∙ subst (λ (f : ExprType). IsOfType p.context f (x.Variable v)) t.1 typed;
      };
      below = get_below at.cursor.variables v t.0 so_far;
    }
