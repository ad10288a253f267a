-- The names in scope where a body begins are those of its parameters, which are variables of the body.
use Rattle.std.proofs.Common.{◌≡◌, ℕ, zero, suc, List, [], ◌∷◌, ◌++◌, map, slice_get, option_map, Some, sym, ap, ◌∙◌, arith}
use Rattle.std.proofs.lemmas.Option.{slice_get-map, slice_get_within}
use Rattle.java_tree.specs.declared.method_kinds.MethodKind.{MethodKind}
use Rattle.java_tree.specs.declared.method_kinds.MethodKind.TheVariants.{Entry, Helper, Merge}
use Rattle.java_tree.specs.declared.tree.Class.{Class}
use Rattle.java_tree.specs.declared.tree.Method.{Method}
use Rattle.java_tree.specs.declared.tree.Param.{Param}
use Rattle.java_tree.specs.declared.types.ExprType.{ExprType}
use Rattle.java_tree.specs.declared.types.ExprType.TheVariants.{Value, Collection}
use Rattle.java_tree.specs.declared.types.ValueType.{ValueType}
use Rattle.java_types.specs.declared.walk.Variable.{Variable}
use Rattle.java_types.specs.declared.walk.Walk.{Walk}
use Rattle.java_types.specs.Declarations.{param_type}
use Rattle.java_types.specs.Names.{entry_of}
use Rattle.access_blocks.specs.declared.body.Body.{Body}
use Rattle.access_blocks.specs.Programs.{methods_in, param_variable}
use Rattle.accepted_classes.specs.Beginning.{at_body, known_by, IsKnownParameter}
use Rattle.accepted_classes.specs.Classes.{resolved_of, IsQuiet, AreKnownAs}
use Rattle.accepted_classes.proofs.Entering.{in_scope}
use Rattle.accepted_classes.proofs.Joining.{parameters}

the_same : {A : Type 0} {x y : A} → Some x ≡ Some y → x ≡ y
the_same e = cc

module _ (ps : List Param) (i : ℕ) (p : Param) (at : slice_get ps i ≡ Some p) where
  mapped_there : {A : Type 0} (of : Param → A) → Some (of p) ≡ slice_get (map of ps) i
  mapped_there of = sym (slice_get-map of ps i ∙ ap (option_map of) at)

  values_known : map param_type ps ≡ map (λ p. Value (param_variable p)) ps → param_type p ≡ Value (param_variable p)
  values_known is = the_same (mapped_there param_type ∙ (ap (λ (ts : List ExprType). slice_get ts i) is ∙ sym (mapped_there (λ p. Value (param_variable p)))))

  only_first : {A : Type 0} (x y : A) → Some x ≡ slice_get (y ∷ []) i → x ≡ y
  only_first x y is = by i is
    where
      by : (j : ℕ) → Some x ≡ slice_get (y ∷ []) j → x ≡ y
      by zero e = the_same e
      by (suc j) e = absurd (cc)

  known_at : (kind : MethodKind) → AreKnownAs kind ps → param_type p ≡ known_by kind (param_variable p)
  known_at Entry is = values_known is
  known_at Helper is = values_known is
  known_at Merge is =
      let item = only_first (param_variable p) is.0 (mapped_there param_variable ∙ ap (λ (ts : List ValueType). slice_get ts i) is.2) in
      only_first (param_type p) (Collection is.0) (mapped_there param_type ∙ ap (λ (ts : List ExprType). slice_get ts i) is.1) ∙ ap Collection (sym item)

first_ones : {A : Type 0} (xs more : List A) (i : ℕ) (x : A) → slice_get xs i ≡ Some x → slice_get (xs ++ more) i ≡ Some x
first_ones [] more i x is = absurd (cc)
first_ones (y ∷ xs) more zero x is = is
first_ones (y ∷ xs) more (suc i) x is = first_ones xs more i x is

pub parameters_in_scope : (class : Class) → IsQuiet class → (n : ℕ) (m : Method) (b : Body) → slice_get (methods_in class.members) n ≡ Some m → slice_get (resolved_of class).methods n ≡ Some b
    → (w : Walk) (name : List ℕ) (v : Variable) → entry_of name (at_body class m w).variables ≡ Some v → IsKnownParameter b v
parameters_in_scope class quiet n m b is_method is_body w name v is =
    let has = parameters class quiet n m b is_method is_body in
    let o = in_scope class m w name v is in
    let within = slice_get_within m.params o.number o.param o.at in
    let arity = has.arity in
    record {
      number = o.number;
      is_parameter = ap (λ (x : Variable). x.declaration) o.is;
      within = omega (arith, within, arity);
      type = param_variable o.param;
      has_type =
          ap (λ (ts : List ValueType). slice_get ts o.number) has.variables
          ∙ first_ones (map param_variable m.params) has.others o.number (param_variable o.param) (sym (mapped_there m.params o.number o.param o.at param_variable));
      found = ap (λ (x : Variable). x.found) o.is ∙ known_at m.params o.number o.param o.at b.kind has.known;
    }
