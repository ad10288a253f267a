-- Each field of a typed class is in its graph, of the same class, and is the only one of its name.
use Rattle.std.proofs.Common.{◌≡◌, refl, sym, ap, subst, ◌∙◌, ℕ, zero, suc, arith, Bool, true, false, cond, List, [], ◌∷◌, map, length, Some, slice_get}
use Rattle.std.specs.Str.{bytes_eq}
use Rattle.std.proofs.lemmas.Slice.Eq.{bytes_eq-Decides}
use Rattle.java_tree.specs.declared.tree.Class.{Class}
use Rattle.java_tree.specs.declared.tree.Field.{Field}
use Rattle.flat_code.specs.declared.graph.GraphField.{GraphField}
use Rattle.flat_code.specs.Types.{field_named}
use Rattle.flat_code.specs.Verified.{AreDistinct}
use Rattle.access_blocks.specs.declared.body.Holder.{Holder}
use Rattle.access_blocks.specs.declared.body.Program.{Program}
use Rattle.access_blocks.specs.Programs.{fields_in}
use Rattle.body_code.specs.ClassCode.{graph_field, graph_fields, fields_of}
use Rattle.body_code.specs.Checking.{IsTyped}
use Rattle.code_meaning.specs.Running.{FieldAgrees}
use Rattle.code_meaning.proofs.Lists.{none_some, some_is}

field_at : (fs : List Field) (hs : List Holder) (n : ℕ) (h : Holder) → length fs ≡ length hs → slice_get hs n ≡ Some h → (f : Field) × (slice_get (graph_fields fs hs) n ≡ Some (graph_field f h))
field_at fs [] n h same e = absurd (none_some h e)
field_at [] (x ∷ hs) n h same e = absurd (omega (arith, same))
field_at (f ∷ fs) (x ∷ hs) zero h same e = (f, ap (λ (y : Holder). Some (graph_field f y)) (some_is x h e))
field_at (f ∷ fs) (x ∷ hs) (suc n) h same e = field_at fs hs n h (omega (arith, same)) e

names_same : (fs : List Field) (hs : List Holder) → length fs ≡ length hs → map (λ (field : GraphField). field.name) (graph_fields fs hs) ≡ map (λ (f : Field). f.name) fs
names_same [] [] same = refl
names_same [] (x ∷ hs) same = absurd (omega (arith, same))
names_same (f ∷ fs) [] same = absurd (omega (arith, same))
names_same (f ∷ fs) (x ∷ hs) same = ap (λ (ns : List (List ℕ)). f.name ∷ ns) (names_same fs hs (omega (arith, same)))

name_at : (fields : List GraphField) (n : ℕ) (field : GraphField) → slice_get fields n ≡ Some field → slice_get (map (λ (f : GraphField). f.name) fields) n ≡ Some field.name
name_at [] n field e = absurd (none_some field e)
name_at (x ∷ fields) zero field e = ap Some (ap (λ (f : GraphField). f.name) (some_is x field e))
name_at (x ∷ fields) (suc n) field e = name_at fields n field e

later_distinct : (name : List ℕ) (names : List (List ℕ)) → AreDistinct (name ∷ names) → AreDistinct names
later_distinct name names h i j x e f = let k = h (suc i) (suc j) x e f in omega (arith, k)

-- the first field of the name of a field is that field
named_is : (fields : List GraphField) (n : ℕ) (field : GraphField) → AreDistinct (map (λ (f : GraphField). f.name) fields) → slice_get fields n ≡ Some field → field_named field.name fields ≡ Some field
named_is [] n field h e = absurd (none_some field e)
named_is (x ∷ fields) zero field h e =
    let same = some_is x field e in
    let named : bytes_eq field.name x.name ≡ true = (bytes_eq-Decides field.name x.name).1 (ap (λ (f : GraphField). f.name) (sym same)) in
    ap (λ (b : Bool). cond b (Some x) (field_named field.name fields)) named ∙ ap Some same
named_is (x ∷ fields) (suc n) field h e = by (bytes_eq field.name x.name) refl (named_is fields n field (later_distinct x.name (map (λ (f : GraphField). f.name) fields) h) e)
  where
    by : (b : Bool) → bytes_eq field.name x.name ≡ b → field_named field.name fields ≡ Some field → cond b (Some x) (field_named field.name fields) ≡ Some field
    by false is rest = rest
    by true is rest = absurd (let same = (bytes_eq-Decides field.name x.name).0 is in let k = h zero (suc n) field.name (ap Some (sym same)) (name_at fields n field e) in omega (arith, k))

pub fields_named : (class : Class) (program : Program) → IsTyped class program → (field : ℕ) (h : Holder) → slice_get program.fields field ≡ Some h → FieldAgrees (fields_of class program) field h
fields_named class program typed field h is =
    let k = field_at (fields_in class.members) program.fields field h typed.same_fields is in
    let distinct : AreDistinct (map (λ (f : GraphField). f.name) (fields_of class program)) = subst (λ (ns : List (List ℕ)). AreDistinct ns) (sym (names_same (fields_in class.members) program.fields typed.same_fields)) typed.names.field_names.distinct in
    record { named = graph_field k.0 h; is_named = k.1; same_class = refl; only = named_is (fields_of class program) field (graph_field k.0 h) distinct k.1 }
