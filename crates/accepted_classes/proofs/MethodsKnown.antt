-- What the rules know of methods: each as names and callers know it.
use Rattle.std.proofs.Common.{◌≡◌, ℕ, zero, suc, ◌+◌, ◌<◌, List, [], ◌∷◌, ◌++◌, length, map, slice_get, option_map, Some, refl, sym, ap, ap₂, subst, ◌∙◌, arith}
use Rattle.std.proofs.lemmas.Option.{slice_get-map, slice_get_within}
use Rattle.sdg_base.specs.declared.value_type.ValueType.{ValueType as SignatureType}
use Rattle.java_tree.specs.declared.tree.Class.{Class}
use Rattle.java_tree.specs.declared.tree.Method.{Method}
use Rattle.java_tree.specs.declared.tree.Param.{Param}
use Rattle.java_tree.specs.declared.method_kinds.MethodKind.{MethodKind}
use Rattle.java_tree.specs.declared.method_kinds.MethodKind.TheVariants.{Helper, Merge}
use Rattle.java_tree.specs.declared.types.ValueType.{ValueType}
use Rattle.java_tree.specs.declared.types.ExprType.{ExprType}
use Rattle.java_tree.specs.declared.types.ExprType.TheVariants.{Value, Collection}
use Rattle.java_tree.specs.Kinds.{kind_of}
use Rattle.java_types.specs.declared.walk.Signature.{Signature}
use Rattle.java_types.specs.Check.{env_of}
use Rattle.java_types.specs.Declarations as declarations
use Rattle.java_types.specs.Declarations.{Methods}
use Rattle.java_types.specs.Names.{entry_of}
use Rattle.access_blocks.specs.declared.body.Body.{Body}
use Rattle.access_blocks.specs.ResolvingStatements.{declared_type}
use Rattle.access_blocks.specs.Programs.{methods_in, header_of, param_variable, is_merge, scope_of}
use Rattle.access_blocks.specs.Resolving.{wanted_by}
use Rattle.body_code.specs.ClassCode.{callee, callees, callees_of, taken_types}
use Rattle.body_code.specs.Typing.{type_by}
use Rattle.accepted_classes.specs.Classes.{resolved_of, IsQuiet}
use Rattle.accepted_classes.specs.Known.{IsKnownMethod}
use Rattle.accepted_classes.proofs.Steps.{Extends}
use Rattle.accepted_classes.proofs.Naming.{Name, entry_from}
use Rattle.accepted_classes.proofs.MembersGo.{numbered, numbered_from, methods_numbered}
use Rattle.accepted_classes.proofs.Whole.{class_sound, known, has_body}
use Rattle.accepted_classes.proofs.Counts.{as_many_methods}
use Rattle.annotations.specs.Environment.{env_of as marking_env_of, methods_of}
use Rattle.java_tree.specs.declared.types.Declaration.{Declaration}
use Rattle.java_types.proofs.Lists.{length_map}
use Rattle.accepted_classes.specs.Classes.{AreKnownAs}
use Rattle.accepted_classes.proofs.Parameters.{wanted_is, result_is, params_are, params_known}
use Rattle.accepted_classes.proofs.Marked.{marked_methods}

the_same : {A : Type 0} {x y : A} → Some x ≡ Some y → x ≡ y
the_same e = cc

-- ---- callees

taken_first : (xs more : List ValueType) → taken_types (length xs) (xs ++ more) ≡ map type_by xs
taken_first [] more = refl
taken_first (x ∷ xs) more = ap (λ (ts : List SignatureType). type_by x ∷ ts) (taken_first xs more)

wanted_all : (ps : List Param) → map wanted_by (map type_by (map param_variable ps)) ≡ map (λ p. Value (param_variable p)) ps
wanted_all [] = refl
wanted_all (p ∷ ps) = ap₂ (λ (t : ExprType) (ts : List ExprType). t ∷ ts) (wanted_is (declared_type p.type_name)) (wanted_all ps)

body_there : (bs : List Body) (i : ℕ) → i < length bs → (b : Body) × (slice_get bs i ≡ Some b)
body_there [] i lt = absurd (omega arith)
body_there (b ∷ bs) zero lt = (b, refl)
body_there (b ∷ bs) (suc i) lt = body_there bs i (omega arith)

callee_there : (ms : List Method) (bs : List Body) (i : ℕ) (m : Method) (b : Body) → slice_get ms i ≡ Some m → slice_get bs i ≡ Some b → slice_get (callees ms bs) i ≡ Some (callee m b)
callee_there [] bs i m b h k = absurd (cc)
callee_there (n ∷ ms) [] i m b h k = absurd (cc)
callee_there (n ∷ ms) (d ∷ bs) zero m b h k = ap₂ (λ (x : Method) (y : Body). Some (callee x y)) (the_same h) (the_same k)
callee_there (n ∷ ms) (d ∷ bs) (suc i) m b h k = callee_there ms bs i m b h k

-- what a callee of these parameters takes, by its kind
takes_values : (ps : List Param) (takes : List SignatureType) → takes ≡ map type_by (map param_variable ps) → AreKnownAs Helper ps → map declarations.param_type ps ≡ map wanted_by takes
takes_values ps takes is known = known ∙ (sym (wanted_all ps) ∙ ap (map wanted_by) (sym is))

takes_collection : (ps : List Param) (takes : List SignatureType) → takes ≡ map type_by (map param_variable ps) → AreKnownAs Merge ps
    → (item : ValueType) × (map declarations.param_type ps ≡ Collection item ∷ []) × (takes ≡ type_by item ∷ [])
takes_collection ps takes is known = (known.0, known.1, is ∙ ap (map type_by) known.2)

pub method_known : (c : Class) → IsQuiet c → (names : List Declaration) (name : Name) (s : Signature) → entry_of name (env_of c).methods ≡ Some s
    → IsKnownMethod (scope_of c) (callees_of c (resolved_of c)) (marking_env_of c names) s
method_known c quiet names name s is =
    let sound = class_sound c quiet.types in
    let all : (env_of c).methods ≡ numbered 0 (methods_in c.members) = methods_numbered c.members [] sound.methods in
    let e = entry_from (env_of c).methods name s is in
    let i = e.0 in
    let o = numbered_from 0 (methods_in c.members) i e.1 s (ap (λ (es : Methods). slice_get es i) (sym all) ∙ e.2) in
    let m = o.method in
    let d = sound.declared i m o.at in
    let at : 0 + i ≡ i = omega arith in
    let number : s.number ≡ i = ap (λ (x : Signature). x.number) o.is ∙ at in
    let within : i < length (methods_in c.members) = slice_get_within (methods_in c.members) i m o.at in
    let lt : i < length (resolved_of c).methods = omega (arith, within, as_many_methods c) in
    let b = body_there (resolved_of c).methods i lt in
    let body = has_body c quiet.types i b.0 b.1 in
    let same : body.method ≡ m = the_same (sym body.at ∙ o.at) in
    let kind : b.0.kind ≡ kind_of m = body.is.kind ∙ ap kind_of same in
    let of_params = params_known c quiet i m o.at in
    let params : s.params ≡ map declarations.param_type m.params = ap (λ (x : Signature). x.params) o.is in
    let of_kind : s.kind ≡ kind_of m = ap (λ (x : Signature). x.kind) o.is in
    let variables : Extends (map param_variable m.params) b.0.variables = subst (λ (x : Method). Extends (map param_variable x.params) b.0.variables) same body.is.variables in
    let arity : b.0.arity ≡ length (map param_variable m.params) = body.is.arity ∙ (ap (λ (x : Method). length x.params) same ∙ sym (length_map param_variable m.params)) in
    let taken : taken_types b.0.arity b.0.variables ≡ map type_by (map param_variable m.params) =
    ap₂ taken_types arity variables.is ∙ taken_first (map param_variable m.params) variables.more in
    record {
      is_sound = (known c quiet.types).sound name s is;
      header = header_of m;
      is_header = ap (slice_get (map header_of (methods_in c.members))) number ∙ (slice_get-map header_of (methods_in c.members) i ∙ ap (option_map header_of) o.at);
      header_params = params_are m.params d.sound.params ∙ sym params;
      header_merges = ap is_merge (sym of_kind);
      callee = callee m b.0;
      is_callee = ap (slice_get (callees_of c (resolved_of c))) number ∙ callee_there (methods_in c.members) (resolved_of c).methods i m b.0 o.at b.1;
      kind = kind ∙ sym of_kind;
      takes = λ helper. params ∙ takes_values m.params _ taken (subst (λ (k : MethodKind). AreKnownAs k m.params) (sym of_kind ∙ helper) of_params);
      merged = λ merge.
          let one = takes_collection m.params _ taken (subst (λ (k : MethodKind). AreKnownAs k m.params) (sym of_kind ∙ merge) of_params) in
          (one.0, params ∙ one.1, one.2);
      gives = ap (λ (x : Signature). x.result) o.is ∙ result_is m.result d.sound.result;
      marked = ap (slice_get (methods_of c)) number ∙ (marked_methods c i m o.at ∙ ap (λ (k : MethodKind). Some k) (sym of_kind));
    }
