-- Where the body of a method begins, what both kinds of rules know agrees with what names are resolved to.
use Rattle.std.proofs.Common.{◌≡◌, ℕ, ◌<◌, true, List, [], ◌∷◌, length, map, drop, slice_get, unwrap_or, Option, Some, None, sym, ap, subst, ◌∙◌, arith}
use Rattle.java_tree.specs.declared.tree.Class.{Class}
use Rattle.java_tree.specs.declared.tree.Method.{Method}
use Rattle.java_tree.specs.declared.method_kinds.MethodKind.{MethodKind}
use Rattle.java_tree.specs.declared.method_kinds.MethodKind.TheVariants.{Entry, Helper, Merge}
use Rattle.java_tree.specs.declared.types.Declaration.{Declaration}
use Rattle.java_tree.specs.declared.types.Declaration.TheVariants as declaration
use Rattle.java_tree.specs.declared.types.ExprType.{ExprType}
use Rattle.java_tree.specs.declared.types.ExprType.TheVariants.{Value, State}
use Rattle.java_tree.specs.declared.types.ValueType.{ValueType}
use Rattle.java_tree.specs.Kinds.{kind_of}
use Rattle.java_types.proofs.Lists.{length_map}
use Rattle.java_types.specs.declared.walk.Signature.{Signature}
use Rattle.java_types.specs.declared.walk.Variable.{Variable}
use Rattle.java_types.specs.declared.walk.Walk.{Walk}
use Rattle.java_types.specs.Check.{env_of}
use Rattle.java_types.specs.Names.{entry_of}
use Rattle.java_types.specs.Walks.{first_of}
use Rattle.annotations.specs.declared.walk.Walk.{Walk as MarkingWalk}
use Rattle.annotations.specs.Walks.{kind_at}
use Rattle.access_blocks.specs.declared.body.Body.{Body}
use Rattle.access_blocks.specs.declared.body.Expression.TheVariants as x
use Rattle.access_blocks.specs.Cursors.{Cursor, variable_of}
use Rattle.access_blocks.specs.Resolving.{class_at}
use Rattle.access_blocks.specs.Programs.{methods_in, scope_of, param_variable, in_method, body_of}
use Rattle.body_code.specs.ClassCode.{callees_of, members_of, first_type}
use Rattle.body_code.specs.declared.callee.Callee.{Callee}
use Rattle.sdg_base.specs.declared.value_type.ValueType.{ValueType as SignatureType}
use Rattle.body_code.specs.Checking.{IsOne}
use Rattle.body_code.specs.Typing.{type_by, one_type}
use Rattle.accepted_classes.specs.Beginning.{at_body, at_marked_body, IsKnownParameter, known_by}
use Rattle.accepted_classes.specs.Classes.{resolved_of, IsQuiet, HasParameters}
use Rattle.accepted_classes.specs.Known.{IsKnownField}
use Rattle.accepted_classes.proofs.Entering.{no_locals}
use Rattle.accepted_classes.proofs.FieldsKnown.{field_known}
use Rattle.accepted_classes.proofs.InScope.{parameters_in_scope}
use Rattle.accepted_classes.proofs.Joining.{parameters}
use Rattle.accepted_classes.proofs.Marked.{merging_same}
use Rattle.accepted_classes.proofs.MarkedEntering.{no_marks}
use Rattle.accepted_classes.proofs.MethodsKnown.{method_known}
use Rattle.typed_bodies.proofs.Conversions.{variable_is}
use Rattle.typed_bodies.specs.Reading.{Place, IsOfType, IsOneMethod, IsSound, cursor_at, known_as, is_plain, is_method}
use Rattle.typed_statements.specs.Points.{Setting, Point, point, place_at, IsHeld, Agree, IsPoint, IsSoundSomewhere}
use Rattle.walked_bodies.specs.Begun.{names_of, marks_of, setting}
use Rattle.walked_bodies.proofs.Words.{entry_same, partial_same, merges_same, there_left, the_same}

-- ---- a parameter's type

-- the parameter of a merge method
first_is : (vs : List ValueType) (number : ℕ) (t : ValueType) → number < 1 → slice_get vs number ≡ Some t → first_type vs ≡ Some (type_by t)
first_is [] number t lt is = absurd (cc)
first_is (v ∷ vs) number t lt is =
    let zeroth : number ≡ 0 = omega (arith, lt) in
    ap (λ (s : ValueType). Some (type_by s)) (the_same (ap (slice_get (v ∷ vs)) (sym zeroth) ∙ is))

-- A parameter of a body is of the type that the rules find.
of_found : (callees : List Callee) (kind : MethodKind) (vs : List ValueType) (arity number : ℕ) (t : ValueType)
    → IsOne kind arity → number < arity → slice_get vs number ≡ Some t → IsOfType (record { variables = vs; methods = callees; members = members_of kind vs }) (known_by kind t) (x.Variable number)
of_found callees Entry vs arity number t one within is = variable_is (record { variables = vs; methods = callees; members = None }) number ∙ ap one_type is
of_found callees Helper vs arity number t one within is = variable_is (record { variables = vs; methods = callees; members = None }) number ∙ ap one_type is
of_found callees Merge vs arity number t one within is = first_is vs number t (omega (arith, one, within)) is

-- Only a merge method has a collection, which is all that it takes.
takes_one : (kind : MethodKind) (vs : List ValueType) (arity : ℕ) (t : SignatureType) → IsOne kind arity → members_of kind vs ≡ Some t → arity ≡ 1
takes_one Entry vs arity t one is = absurd (cc)
takes_one Helper vs arity t one is = absurd (cc)
takes_one Merge vs arity t one is = one

value_known : (kind : MethodKind) (t s : ValueType) → known_by kind t ≡ Value s → t ≡ s
value_known Entry t s e = cc
value_known Helper t s e = cc
value_known Merge t s e = absurd (cc)

-- ---- names

by_scope : {P : Type 0} (here field : Option Variable) (v : Variable) → first_of here field ≡ Some v → (here ≡ Some v → P) → (field ≡ Some v → P) → P
by_scope None field v is a b = b is
by_scope (Some u) field v is a b = a is

field_number : (a b : ℕ) → declaration.Field a ≡ declaration.Field b → a ≡ b
field_number a b e = cc

pub field_not_plain : (p : Place) (d : Declaration) (n : ℕ) → d ≡ declaration.Field n → is_plain p d ≡ true → ⊥
field_not_plain p d n is plain = absurd (cc)
  where
    not_plain : is_plain p (declaration.Field n) ≡ true
    not_plain = ap (is_plain p) (sym is) ∙ plain

-- a class, a method of it, and its body
module _ (class : Class) (quiet : IsQuiet class) (n : ℕ) (m : Method) (c : Cursor) (at_m : slice_get (methods_in class.members) n ≡ Some m)
    (at_b : slice_get (resolved_of class).methods n ≡ Some (body_of (scope_of class) m c).it) (w : Walk) (u : MarkingWalk) where
  abbrev k : Setting
  k = setting class m c

  abbrev pub beginning : Point
  beginning = point (at_body class m w) (at_marked_body class (names_of class) m u) (in_method m c)

  abbrev p : Place
  p = place_at k beginning

  abbrev b : Body
  b = (body_of (scope_of class) m c).it

  pub takes : HasParameters m b
  takes = parameters class quiet n m b at_m at_b

  -- What a name in scope is: a parameter, or a field.
  pub known : {P : Type 0} (name : List ℕ) (v : Variable) → known_as p name ≡ Some v
      → (IsKnownParameter b v → P) → (IsKnownField (scope_of class) (resolved_of class).fields (marks_of class) v → P) → P
  known name v is a f =
      by_scope (entry_of name (at_body class m w).variables) (entry_of name (env_of class).fields) v is
      (λ here. a (parameters_in_scope class quiet n m b at_m at_b w name v here)) (λ there. f (field_known class quiet.types (names_of class) name v there))

  parameter_typed : (v : Variable) → IsKnownParameter b v → IsOfType p.context v.found (x.Variable (variable_of (cursor_at p) (Some v.declaration)))
  parameter_typed v q =
      subst (λ (d : Declaration). IsOfType p.context v.found (x.Variable (variable_of (cursor_at p) (Some d)))) (sym q.is_parameter)
      (subst (λ (t : ExprType). IsOfType p.context t (x.Variable q.number)) (sym q.found)
      (of_found (callees_of class (resolved_of class)) b.kind b.variables b.arity q.number q.type takes.one q.within q.has_type))

  one_method : (name : List ℕ) (s : Signature) → entry_of name (env_of class).methods ≡ Some s → IsOneMethod p s
  one_method name s is =
      let q = method_known class quiet (names_of class) name s is in
      record {
        is_sound = q.is_sound;
        header = q.header;
        is_header = q.is_header;
        header_params = q.header_params;
        header_merges = q.header_merges;
        callee = q.callee;
        is_callee = q.is_callee;
        kind = q.kind;
        takes = q.takes;
        merged = q.merged;
        gives = q.gives;
      }

  sound : IsSound p
  sound = record {
    variables = λ name v is plain. known name v is (parameter_typed v) (λ f. absurd (field_not_plain p v.declaration f.number f.is_field plain));
    fields = λ name v field is d.
        known name v is (λ q. absurd (cc)) (λ f. f.found ∙ ap (λ (i : ℕ). State (class_at p.scope i)) (field_number f.number field (sym f.is_field ∙ d)));
    no_methods = λ name v is. known name v is (λ q. ap is_method q.is_parameter) (λ f. ap is_method f.is_field);
    methods = one_method;
    merging = λ i. merges_same (slice_get (scope_of class).methods i) ∙ merging_same class (names_of class) i;
  }

  field_held : (v : Variable) (field : ℕ) → v.declaration ≡ declaration.Field field → IsKnownField (scope_of class) (resolved_of class).fields (marks_of class) v → IsHeld k field
  field_held v field d f =
      subst (IsHeld k) (field_number f.number field (sym f.is_field ∙ d))
      (record {
        holder = f.holder;
        is = f.is_holder;
        of_class = f.class;
        is_partial = f.kind ∙ partial_same (kind_at (marks_of class) f.number);
        marked = ap (λ o. unwrap_or o None) f.marked;
      })

  in_variables : (number : ℕ) (t : ValueType) → number < b.arity → slice_get b.variables number ≡ Some t → slice_get (map param_variable m.params) number ≡ Some t
  in_variables number t within is =
      let as_many = length_map param_variable m.params in
      let arity = takes.arity in
      there_left (map param_variable m.params) takes.others number t (omega (arith, within, as_many, arity)) (ap (λ vs. slice_get vs number) (sym takes.variables) ∙ is)

  of_type : (v : Variable) (t : ValueType) → v.found ≡ Value t → IsKnownParameter b v → slice_get p.variables (variable_of (cursor_at p) (Some v.declaration)) ≡ Some t
  of_type v t found q =
      ap (λ (d : Declaration). slice_get p.variables (variable_of (cursor_at p) (Some d))) q.is_parameter
      ∙ (in_variables q.number q.type q.within q.has_type ∙ ap (λ s. Some s) (value_known b.kind q.type t (sym q.found ∙ found)))

  agree : Agree k p
  agree = record {
    sound = sound;
    held = λ name v field is d. known name v is (λ q. absurd (cc)) (field_held v field d);
    of_type = λ name v t is plain found. known name v is (of_type v t found) (λ f. absurd (field_not_plain p v.declaration f.number f.is_field plain));
    in_range = λ name v i is d. known name v is (λ q. absurd (cc)) (λ f. absurd (cc));
    has_collection = λ t is.
        let one = takes_one b.kind b.variables b.arity t takes.one is in
        let arity = takes.arity in
        let as_many = length_map param_variable m.params in
        omega (arith, one, arity, as_many);
  }

  -- What is known of names is sound where the body begins.
  pub sound_somewhere : IsSoundSomewhere k
  sound_somewhere = record { point = beginning; sound = sound }

  -- The walks stand where the body begins.
  pub begins : drop u.used (names_of class) ≡ c.names → IsPoint k beginning
  begins names =
      let marks = no_marks class (names_of class) m u in
      record {
        agree = agree;
        same_locals = ap length (no_locals class m w).locals;
        same_marks = ap length marks.locals;
        in_entry = marks.in_entry ∙ entry_same (kind_of m);
        names = ap (λ i. drop i (names_of class)) marks.used ∙ names;
      }
