-- How many fields and methods a class and its program have, and how they are named.
use Rattle.std.proofs.Common.{◌≡◌, suc, ◌+◌, ◌≤◌, List, [], ◌∷◌, length, map, refl, sym, ap, ◌∙◌, arith}
use Rattle.sdg_base.specs.declared.store.ClassName.{ClassName}
use Rattle.java_tree.specs.declared.tree.Class.{Class}
use Rattle.java_types.specs.Check.{findings_of}
use Rattle.java_types.proofs.Lists.{length_map}
use Rattle.annotations.specs.declared.site.FieldKind.{FieldKind}
use Rattle.annotations.specs.Kinds.{kind_of_field, kinds_of}
use Rattle.access_blocks.specs.declared.body.Body.{Body}
use Rattle.access_blocks.specs.Programs.{fields_in, methods_in, holders, class_of, scope_of}
use Rattle.access_blocks.specs.Programs as programs
use Rattle.body_code.specs.Checking.{AreNamed}
use Rattle.accepted_classes.specs.Classes.{annotated_of, resolved_of, HasIdentifiers}
use Rattle.accepted_classes.proofs.Naming.{few_names, distinct_names}
use Rattle.accepted_classes.proofs.MembersGo.{field_names, method_names}
use Rattle.accepted_classes.proofs.Marked.{kinds_kept}
use Rattle.accepted_classes.proofs.Whole.{class_sound, bodies_are, as_many_bodies}

as_many_holders : (cs : List ClassName) (ks : List FieldKind) → length ks ≡ length cs → length cs ≡ length (holders cs ks)
as_many_holders [] ks same = refl
as_many_holders (c ∷ cs) [] same = absurd (omega arith)
as_many_holders (c ∷ cs) (k ∷ ks) same = ap suc (as_many_holders cs ks (omega arith))

pub as_many_fields : (c : Class) → length (fields_in c.members) ≡ length (resolved_of c).fields
as_many_fields c =
    let classes = map class_of (fields_in c.members) in
    let mapped : length classes ≡ length (fields_in c.members) = length_map class_of (fields_in c.members) in
    let kinds : length (kinds_of c) ≡ length (fields_in c.members) = ap (λ (ks : List FieldKind). length ks) (kinds_kept c) ∙ length_map kind_of_field (fields_in c.members) in
    sym mapped ∙ as_many_holders classes (kinds_of c) (omega (arith, mapped, kinds))

pub as_many_methods : (c : Class) → length (methods_in c.members) ≡ length (resolved_of c).methods
as_many_methods c =
    sym (ap (λ (bs : List Body). length bs) (bodies_are c) ∙ as_many_bodies (scope_of c) (methods_in c.members) (programs.start (annotated_of c)))

pub are_named : (c : Class) → findings_of c ≡ [] → HasIdentifiers c → AreNamed c
are_named c q ids =
    let sound = class_sound c q in
    let fields : 0 + length (field_names c.members) ≤ 64 = few_names [] 64 (field_names c.members) (omega arith) sound.fields in
    let methods : 0 + length (method_names c.members) ≤ 256 = few_names [] 256 (method_names c.members) (omega arith) sound.methods in
    let of_fields : length (field_names c.members) ≡ length (fields_in c.members) = length_map (λ f. f.name) (fields_in c.members) in
    let of_methods : length (method_names c.members) ≡ length (methods_in c.members) = length_map (λ m. m.name) (methods_in c.members) in
    record {
      few_fields = omega (arith, fields, of_fields);
      few_methods = omega (arith, methods, of_methods);
      field_names = record { each = ids.fields; distinct = distinct_names [] 64 (field_names c.members) sound.fields };
      method_names = record { each = ids.methods; distinct = distinct_names [] 256 (method_names c.members) sound.methods };
    }
