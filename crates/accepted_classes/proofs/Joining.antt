-- An accepted class is typed where the statements of its bodies are.
use Rattle.std.proofs.Common.{List, length, ◌≤◌, map, ◌+◌, ◌++◌, length-append, arith, ◌≡◌, ℕ, slice_get, Some, refl, sym, ◌∙◌, ap, subst}
use Rattle.java_tree.specs.declared.method_kinds.MethodKind.{MethodKind}
use Rattle.java_tree.specs.declared.tree.Class.{Class}
use Rattle.java_tree.specs.declared.tree.Method.{Method}
use Rattle.java_tree.specs.Kinds.{kind_of}
use Rattle.access_blocks.specs.declared.body.Body.{Body}
use Rattle.body_code.specs.Checking.{IsOne, IsTyped}
use Rattle.accepted_classes.specs.Classes.{resolved_of, IsSpelled, IsQuiet, AreKnownAs, HasParameters, AreTypedStatements}
use Rattle.accepted_classes.proofs.Words.{spelled_identifiers}
use Rattle.accepted_classes.proofs.Counts.{as_many_fields, as_many_methods, are_named}
use Rattle.accepted_classes.proofs.Whole.{has_body, no_cycle}
use Rattle.java_tree.specs.declared.types.ValueType.{ValueType}
use Rattle.java_types.proofs.Lists.{length_map}
use Rattle.access_blocks.specs.Programs.{methods_in, param_variable}
use Rattle.accepted_classes.proofs.Steps.{Extends}
use Rattle.accepted_classes.proofs.Parameters.{params_known, as_many_as}

the_same : {A : Type 0} {x y : A} → Some x ≡ Some y → x ≡ y
the_same e = cc

below : (n k : ℕ) (ys xs : List ValueType) → n ≡ k → length xs ≡ k → Extends xs ys → n ≤ length ys
below n k ys xs same long e =
    let both : length (xs ++ e.more) ≡ length xs + length e.more = length-append xs e.more in
    let all : length ys ≡ length (xs ++ e.more) = ap (λ (vs : List ValueType). length vs) e.is in
    omega (arith, same, long, both, all)

pub parameters : (class : Class) → IsQuiet class → (n : ℕ) (m : Method) (b : Body) → slice_get (methods_in class.members) n ≡ Some m → slice_get (resolved_of class).methods n ≡ Some b → HasParameters m b
parameters class quiet n m b is_method is_body =
    let h = has_body class quiet.types n b is_body in
    let same : h.method ≡ m = the_same (sym h.at ∙ is_method) in
    let kind : b.kind ≡ kind_of m = h.is.kind ∙ ap kind_of same in
    let arity : b.arity ≡ length m.params = h.is.arity ∙ ap (λ (x : Method). length x.params) same in
    let variables : Extends (map param_variable m.params) b.variables = subst (λ (x : Method). Extends (map param_variable x.params) b.variables) same h.is.variables in
    let known : AreKnownAs b.kind m.params = subst (λ (k : MethodKind). AreKnownAs k m.params) (sym kind) (params_known class quiet n m is_method) in
    record {
      kind = kind;
      arity = arity;
      others = variables.more;
      variables = variables.is;
      are_variables = below b.arity (length (map param_variable m.params)) b.variables (map param_variable m.params) (arity ∙ sym (length_map param_variable m.params)) refl variables;
      one = subst (λ (k : ℕ). IsOne b.kind k) (sym arity) (as_many_as b.kind m.params known);
      known = known;
    }

pub typed : (class : Class) → IsSpelled class → IsQuiet class → AreTypedStatements class → IsTyped class (resolved_of class)
typed class spelled quiet statements = record {
  names = are_named class quiet.types (spelled_identifiers class spelled);
  same_fields = as_many_fields class;
  same_methods = as_many_methods class;
  bodies = λ n m b is_method is_body.
      let p = parameters class quiet n m b is_method is_body in
      let t = statements n m b is_method is_body in
      record { arity = p.are_variables; one = p.one; after = t.after; checked = t.checked; blocks = t.blocks; returns = t.returns };
  no_cycle = no_cycle class quiet.types;
}
