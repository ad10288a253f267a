-- What the rules know of fields: each by its number, with its class and its kind.
use Rattle.std.proofs.Common.{◌≡◌, ℕ, zero, suc, ◌+◌, ◌<◌, ◌≤◌, Bool, true, false, not, ◌||◌, nat_le, List, [], ◌∷◌, ◌++◌, length, fold, slice_get, unwrap_or, option_map, Option, Some, None, is_some, if◌then◌else◌, refl, sym, ap, subst, ◌∙◌, append_assoc, append-nil, length-append, arith}
use Rattle.std.specs.Str.{bytes_eq}
use Rattle.std.proofs.lemmas.Bool.Decides.{nat_tests}
use Rattle.std.proofs.lemmas.Option.{slice_get-map, slice_get_within}
use Rattle.sdg_base.specs.declared.store.ClassName.{ClassName}
use Rattle.sdg_base.specs.declared.store.ClassName.TheVariants.{Table}
use Rattle.java_tree.specs.declared.tree.Class.{Class}
use Rattle.java_tree.specs.declared.tree.Field.{Field}
use Rattle.java_tree.specs.declared.tree.Member.{Member}
use Rattle.java_tree.specs.declared.tree.Member.TheVariants as member
use Rattle.java_tree.specs.declared.types.ExprType.{ExprType}
use Rattle.java_tree.specs.declared.types.ExprType.TheVariants.{Unknown, State}
use Rattle.java_tree.specs.declared.types.Declaration.TheVariants as declaration
use Rattle.java_tree.specs.Words.{is_reserved, state_class}
use Rattle.java_types.specs.declared.walk.Variable.{Variable}
use Rattle.java_types.specs.Check.{env_of, findings_of}
use Rattle.java_types.specs.Declarations.{Fields, with_field, field_type, state_or_none}
use Rattle.java_types.specs.Names.{entry_of}
use Rattle.java_types.specs.Walks.{most_fields}
use Rattle.java_types.proofs.Lists.{length_map}
use Rattle.access_blocks.specs.Programs.{fields_in, class_of, is_partial, scope_of}
use Rattle.access_blocks.specs.Resolving.{class_at}
use Rattle.accepted_classes.specs.Known.{IsKnownField}
use Rattle.accepted_classes.proofs.Naming.{Name, AreNew, names_in, with_new, names_push, few_names, entry_from}
use Rattle.accepted_classes.proofs.MembersGo.{field_names}
use Rattle.java_tree.specs.declared.types.Declaration.{Declaration}
use Rattle.annotations.specs.declared.site.FieldKind.{FieldKind}
use Rattle.annotations.specs.declared.site.FieldKind.TheVariants.{Partial}
use Rattle.annotations.specs.Environment.{env_of as marking_env_of}
use Rattle.annotations.specs.Kinds.{kind_of_field}
use Rattle.accepted_classes.specs.Classes.{resolved_of}
use Rattle.accepted_classes.proofs.Marked.{marked_fields, kinds_at, holder_of, held_at}
use Rattle.accepted_classes.proofs.Whole.{class_sound}

abbrev known_as : ℕ → Field → Variable
known_as n f = record { declaration = declaration.Field n; found = field_type n f }

abbrev numbered : ℕ → List Field → Fields
numbered n [] = []
numbered n (f ∷ fs) = (f.name, known_as n f) ∷ numbered (n + 1) fs

fields_numbered : (ms : List Member) (known : Fields) → AreNew (names_in known) 64 (field_names ms) → fold with_field known ms ≡ known ++ numbered (length known) (fields_in ms)
fields_numbered [] known new = sym (append-nil known)
fields_numbered (member.Method m ∷ ms) known new = fields_numbered ms known new
fields_numbered (member.Field f ∷ ms) known new =
    let v = known_as (length known) f in
    let one : with_field known (member.Field f) ≡ known ++ (f.name, v) ∷ [] = with_new f.name v known new.0 in
    let Goal : Fields → Type 0 = λ now. fold with_field now ms ≡ known ++ (f.name, v) ∷ numbered (length known + 1) (fields_in ms) in
    let more = fields_numbered ms (known ++ (f.name, v) ∷ []) (subst (λ (seen : List Name). AreNew seen 64 (field_names ms)) (sym (names_push known f.name v)) new.2) in
    subst Goal (sym one)
    (more ∙ (ap (λ (n : ℕ). (known ++ (f.name, v) ∷ []) ++ numbered n (fields_in ms)) (length-append known ((f.name, v) ∷ [])) ∙ append_assoc known ((f.name, v) ∷ []) (numbered (length known + 1) (fields_in ms))))

-- which field an entry is of
record IsOf (n : ℕ) (fs : List Field) (i : ℕ) (v : Variable) : Type 0 where
  field : Field
  at : slice_get fs i ≡ Some field
  is : v ≡ known_as (n + i) field

the_same : {A : Type 0} {x y : A} → Some x ≡ Some y → x ≡ y
the_same e = cc

numbered_from : (n : ℕ) (fs : List Field) (i : ℕ) (name : Name) (v : Variable) → slice_get (numbered n fs) i ≡ Some (name, v) → IsOf n fs i v
numbered_from n [] i name v is = absurd (cc)
numbered_from n (f ∷ fs) zero name v is =
    let at : n ≡ n + 0 = omega arith in
    record { field = f; at = refl; is = sym (ap (λ (e : Name × Variable). e.1) (the_same is)) ∙ ap (λ (j : ℕ). known_as j f) at }
numbered_from n (f ∷ fs) (suc i) name v is =
    let at : n + 1 + i ≡ n + suc i = omega arith in
    let r = numbered_from (n + 1) fs i name v is in
    record { field = r.field; at = r.at; is = r.is ∙ ap (λ (j : ℕ). known_as j r.field) at }

found_by : (reserved over made : Bool) (t : ExprType) → reserved ≡ false → over ≡ false → made ≡ true → (if reserved || (over || not made) then Unknown else t) ≡ t
found_by true over made t a b c = absurd (cc)
found_by false true made t a b c = absurd (cc)
found_by false false true t a b c = refl
found_by false false false t a b c = absurd (cc)

below_most : (n : ℕ) → n < 64 → nat_le most_fields n ≡ false
below_most n lt = grind (arith, nat_tests)

state_is : (o : Option ClassName) → is_some o ≡ true → state_or_none o ≡ State (unwrap_or o Table)
state_is None h = absurd (cc)
state_is (Some c) h = refl

class_there : (c : Class) (i : ℕ) (f : Field) → slice_get (fields_in c.members) i ≡ Some f → class_of f ≡ class_at (scope_of c) i
class_there c i f is = sym (ap (λ (o : Option ClassName). unwrap_or o Table) (slice_get-map class_of (fields_in c.members) i ∙ ap (option_map class_of) is))

some_class : (o : Option ClassName) → is_some o ≡ true → o ≡ Some (unwrap_or o Table)
some_class None h = absurd (cc)
some_class (Some c) h = refl

pub field_known : (c : Class) → findings_of c ≡ [] → (names : List Declaration) (name : Name) (v : Variable) → entry_of name (env_of c).fields ≡ Some v
    → IsKnownField (scope_of c) (resolved_of c).fields (marking_env_of c names) v
field_known c q names name v is =
    let sound = class_sound c q in
    let known : (env_of c).fields ≡ numbered 0 (fields_in c.members) = fields_numbered c.members [] sound.fields in
    let e = entry_from (env_of c).fields name v is in
    let o = numbered_from 0 (fields_in c.members) e.0 e.1 v (ap (λ (es : Fields). slice_get es e.0) (sym known) ∙ e.2) in
    let d = sound.declared_fields e.0 o.field o.at in
    let few : 0 + length (field_names c.members) ≤ 64 = few_names [] 64 (field_names c.members) (omega arith) sound.fields in
    let as_many : length (field_names c.members) ≡ length (fields_in c.members) = length_map (λ f. f.name) (fields_in c.members) in
    let within = slice_get_within (fields_in c.members) e.0 o.field o.at in
    let lt : 0 + e.0 < 64 = omega (arith, few, as_many, within) in
    let at : 0 + e.0 ≡ e.0 = omega arith in
    let there = class_there c e.0 o.field o.at in
    record {
      number = e.0;
      is_field = ap (λ (x : Variable). x.declaration) o.is ∙ ap declaration.Field at;
      found =
          ap (λ (x : Variable). x.found) o.is
          ∙ (found_by (is_reserved o.field.name) (nat_le most_fields (0 + e.0)) (bytes_eq o.field.type_name o.field.maker) (state_or_none (state_class o.field.type_name)) d.plain (below_most (0 + e.0) lt) d.sound.made
          ∙ (state_is (state_class o.field.type_name) d.sound.class ∙ ap State there));
      holder = holder_of (class_of o.field) (kind_of_field o.field);
      is_holder = held_at c e.0 o.field o.at;
      class = there;
      kind = ap (λ (k : Option FieldKind). is_partial (unwrap_or k Partial)) (sym (kinds_at c e.0 o.field o.at));
      marked = marked_fields c e.0 o.field o.at ∙ (ap (λ (k : Option ClassName). Some k) (some_class (state_class o.field.type_name) d.sound.class) ∙ ap (λ (k : ClassName). Some (Some k)) there);
    }
