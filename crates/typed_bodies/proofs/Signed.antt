-- Calls of the methods of vectors and of fields, by what their signatures take and give.
use Rattle.std.proofs.Common.{◌≡◌, ℕ, Bool, true, false, List, [], ◌∷◌, Option, Some, None, codes, if◌then◌else◌, refl, sym, ap, subst, ◌∙◌}
use Rattle.std.specs.Str.{bytes_eq}
use Rattle.sdg_base.specs.declared.store.ClassName.{ClassName}
use Rattle.sdg_base.specs.declared.store.ClassName.TheVariants as class_name
use Rattle.sdg_base.specs.declared.value_type.ValueType.{ValueType as SignatureType}
use Rattle.sdg_base.specs.declared.value_type.ValueType.TheVariants as type
use Rattle.sdg_base.specs.Signatures.{Signature, keyed, unkeyed, methods_of, state_method, vector_method}
use Rattle.sdg_base.specs.Signatures as signatures
use Rattle.state_classes.specs.declared.method.Method.{Method}
use Rattle.state_classes.specs.Methods.{method_text, method_named, signature}
use Rattle.state_classes.specs.Methods as methods
use Rattle.java_tree.specs.declared.types.ExprType.{ExprType}
use Rattle.java_tree.specs.declared.types.ExprType.TheVariants.{Value}
use Rattle.java_types.specs.Fits.{is_void}
use Rattle.access_blocks.specs.declared.body.Choice.{Choice}
use Rattle.access_blocks.specs.declared.body.Expression.{Expression}
use Rattle.access_blocks.specs.declared.body.Expression.TheVariants as x
use Rattle.access_blocks.specs.declared.resolved.Invoked.{Invoked}
use Rattle.access_blocks.specs.declared.resolved.Invoked.TheVariants as invoked
use Rattle.access_blocks.specs.Resolving.{wanted_by, class_at, argument, vector_call, member_call, accessed}
use Rattle.body_code.specs.Typing.{Context, type_of, types_of, with_type, variable_type, where_type, and_then}
use Rattle.typed_bodies.specs.Reading.{Place, IsOfType}
use Rattle.typed_bodies.specs.Expressions.{IsInvoked, is_access}
use Rattle.typed_bodies.proofs.Conversions.{vector_size_is, vector_element_is, gathered_size_is, gathered_element_is}

-- the arguments and the answer are those of a signature, which is there
pub record IsAnswered (c : Context) (o : Option Signature) (found : ExprType) (args : List Expression) : Type 0 where
  pub it : Signature
  pub is : o ≡ Some it
  pub takes : types_of c args ≡ Some it.arguments
  pub gives : found ≡ wanted_by it.result

same_some : {A : Type 0} {x y : A} → Some x ≡ Some y → x ≡ y
same_some e = cc

-- ---- arguments by their number

typed_both : (a : Option SignatureType) (b : Option (List SignatureType)) (t : SignatureType) (ts : List SignatureType) → with_type a b ≡ Some (t ∷ ts) → a ≡ Some t × b ≡ Some ts
typed_both None None t ts e = absurd (cc)
typed_both None (Some us) t ts e = absurd (cc)
typed_both (Some s) None t ts e = absurd (cc)
typed_both (Some s) (Some us) t ts e = ((cc), (cc))

pub first_typed : (c : Context) (args : List Expression) (t : SignatureType) (ts : List SignatureType) → types_of c args ≡ Some (t ∷ ts) → type_of c (argument args 0) ≡ Some t
first_typed c [] t ts e = absurd (cc)
first_typed c (a ∷ args) t ts e = (typed_both (type_of c a) (types_of c args) t ts e).0

second_typed : (c : Context) (args : List Expression) (t u : SignatureType) (ts : List SignatureType) → types_of c args ≡ Some (t ∷ u ∷ ts) → type_of c (argument args 1) ≡ Some u
second_typed c [] t u ts e = absurd (cc)
second_typed c (a ∷ args) t u ts e = first_typed c args u ts (typed_both (type_of c a) (types_of c args) t (u ∷ ts) e).1

-- ---- vectors

abbrev vector_signature : Bool → Bool → Bool → Option Signature
vector_signature size get set =
    if size then Some (unkeyed [] type.Int) else (if get then Some (unkeyed (type.Int ∷ []) type.Long) else (if set then Some (unkeyed (type.Int ∷ type.Long ∷ []) type.Void) else None))

abbrev vector_invoked : ℕ → Bool → Bool → Bool → List Expression → Invoked
vector_invoked v size get set args =
    if size then invoked.Value (x.VectorSize v) else (if get then invoked.Value (x.VectorElement v (argument args 0)) else (if set then invoked.Sets v (argument args 0) (argument args 1) else invoked.Value x.Nothing))

vector_by : (p : Place) (v : ℕ) (size get set : Bool) (found : ExprType) (args : List Expression) → variable_type p.context v ≡ Some type.Vector
    → IsAnswered p.context (vector_signature size get set) found args → IsInvoked p found (vector_invoked v size get set args)
vector_by p v true get set found args vector a =
    let it : unkeyed [] type.Int ≡ a.it = same_some a.is in
    let found_is : found ≡ Value _ = a.gives ∙ ap (λ (s : Signature). wanted_by s.result) (sym it) in
    subst (λ (t : ExprType). IsOfType p.context t (x.VectorSize v)) (sym found_is) (vector_size_is p.context v ∙ ap (λ o. where_type o type.Vector type.Int) vector)
vector_by p v false true set found args vector a =
    let it : unkeyed (type.Int ∷ []) type.Long ≡ a.it = same_some a.is in
    let found_is : found ≡ Value _ = a.gives ∙ ap (λ (s : Signature). wanted_by s.result) (sym it) in
    let takes : types_of p.context args ≡ Some (type.Int ∷ []) = a.takes ∙ ap (λ (s : Signature). Some s.arguments) (sym it) in
    subst (λ (t : ExprType). IsOfType p.context t (x.VectorElement v (argument args 0))) (sym found_is)
    (vector_element_is p.context v (argument args 0)
    ∙ (ap (λ o. and_then (where_type o type.Vector type.Long) (where_type (type_of p.context (argument args 0)) type.Int type.Long)) vector
    ∙ ap (λ o. where_type o type.Int type.Long) (first_typed p.context args type.Int [] takes)))
vector_by p v false false true found args vector a =
    let it : unkeyed (type.Int ∷ type.Long ∷ []) type.Void ≡ a.it = same_some a.is in
    let takes : types_of p.context args ≡ Some (type.Int ∷ type.Long ∷ []) = a.takes ∙ ap (λ (s : Signature). Some s.arguments) (sym it) in
    record {
      is_void = a.gives ∙ ap (λ (s : Signature). wanted_by s.result) (sym it);
      is_vector = vector;
      is_index = first_typed p.context args type.Int (type.Long ∷ []) takes;
      is_value = second_typed p.context args type.Int type.Long [] takes;
    }
vector_by p v false false false found args vector a = let h = a.is in absurd (cc)

pub vector_typed : (p : Place) (v : ℕ) (name : List ℕ) (found : ExprType) (args : List Expression) → variable_type p.context v ≡ Some type.Vector
    → IsAnswered p.context (vector_method name) found args → IsInvoked p found (vector_call v name args)
vector_typed p v name found args vector a = vector_by p v (bytes_eq name (codes "size")) (bytes_eq name (codes "get")) (bytes_eq name (codes "set")) found args vector a

no_access_by : (v : ℕ) (size get set : Bool) (args : List Expression) → is_access (vector_invoked v size get set args) ≡ false
no_access_by v true get set args = refl
no_access_by v false true set args = refl
no_access_by v false false true args = refl
no_access_by v false false false args = refl

pub no_access_vector : (v : ℕ) (name : List ℕ) (args : List Expression) → is_access (vector_call v name args) ≡ false
no_access_vector v name args = no_access_by v (bytes_eq name (codes "size")) (bytes_eq name (codes "get")) (bytes_eq name (codes "set")) args

-- ---- members of a collection of vectors

abbrev member_invoked : Expression → Bool → Bool → List Expression → Invoked
member_invoked at size get args =
    if size then invoked.Value (x.GatheredSize at) else (if get then invoked.Value (x.GatheredElement at (argument args 0)) else invoked.Value x.Nothing)

member_by : (p : Place) (at : Expression) (size get set : Bool) (found : ExprType) (args : List Expression) → p.context.members ≡ Some type.Vector
    → type_of p.context at ≡ Some type.Int → is_void found ≡ false
    → IsAnswered p.context (vector_signature size get set) found args → IsInvoked p found (member_invoked at size get args)
member_by p at true get set found args members index read a =
    let it : unkeyed [] type.Int ≡ a.it = same_some a.is in
    let found_is : found ≡ Value _ = a.gives ∙ ap (λ (s : Signature). wanted_by s.result) (sym it) in
    subst (λ (t : ExprType). IsOfType p.context t (x.GatheredSize at)) (sym found_is)
    (gathered_size_is p.context at
    ∙ (ap (λ o. and_then (where_type o type.Int type.Int) (where_type p.context.members type.Vector type.Int)) index ∙ ap (λ o. where_type o type.Vector type.Int) members))
member_by p at false true set found args members index read a =
    let it : unkeyed (type.Int ∷ []) type.Long ≡ a.it = same_some a.is in
    let found_is : found ≡ Value _ = a.gives ∙ ap (λ (s : Signature). wanted_by s.result) (sym it) in
    let takes : types_of p.context args ≡ Some (type.Int ∷ []) = a.takes ∙ ap (λ (s : Signature). Some s.arguments) (sym it) in
    subst (λ (t : ExprType). IsOfType p.context t (x.GatheredElement at (argument args 0))) (sym found_is)
    (gathered_element_is p.context at (argument args 0)
    ∙ (ap (λ o. and_then (where_type o type.Int type.Int) (and_then (where_type p.context.members type.Vector type.Long) (where_type (type_of p.context (argument args 0)) type.Int type.Long))) index
    ∙ (ap (λ o. and_then (where_type o type.Vector type.Long) (where_type (type_of p.context (argument args 0)) type.Int type.Long)) members
    ∙ ap (λ o. where_type o type.Int type.Long) (first_typed p.context args type.Int [] takes))))
member_by p at false false true found args members index read a =
    let it : unkeyed (type.Int ∷ type.Long ∷ []) type.Void ≡ a.it = same_some a.is in
    let is : true ≡ false = sym (ap is_void (a.gives ∙ ap (λ (s : Signature). wanted_by s.result) (sym it))) ∙ read in
    absurd (cc)
member_by p at false false false found args members index read a = let h = a.is in absurd (cc)

pub member_typed : (p : Place) (at : Expression) (name : List ℕ) (found : ExprType) (args : List Expression) → p.context.members ≡ Some type.Vector
    → type_of p.context at ≡ Some type.Int → is_void found ≡ false
    → IsAnswered p.context (vector_method name) found args → IsInvoked p found (member_call at name args)
member_typed p at name found args members index read a = member_by p at (bytes_eq name (codes "size")) (bytes_eq name (codes "get")) (bytes_eq name (codes "set")) found args members index read a

no_access_member_by : (at : Expression) (size get : Bool) (args : List Expression) → is_access (member_invoked at size get args) ≡ false
no_access_member_by at true get args = refl
no_access_member_by at false true args = refl
no_access_member_by at false false args = refl

pub no_access_member : (at : Expression) (name : List ℕ) (args : List Expression) → is_access (member_call at name args) ≡ false
no_access_member at name args = no_access_member_by at (bytes_eq name (codes "size")) (bytes_eq name (codes "get")) args

-- ---- fields

-- methods and signatures of the same names, in the same order
abbrev Paired : ClassName → List Method → List (List ℕ × Signature) → Type 0
Paired class [] [] = Unit {0}
Paired class (m ∷ ms) (e ∷ es) = (method_text m ≡ e.0) × (signature class m ≡ Some e.1) × Paired class ms es
Paired class _ _ = ⊥

record NamedAs (class : ClassName) (o : Option Method) (sig : Signature) : Type 0 where
  it : Method
  is : o ≡ Some it
  of_class : signature class it ≡ Some sig

either_named : (class : ClassName) (b : Bool) (m : Method) (e : Signature) (ms : Option Method) (es : Option Signature) (sig : Signature) → signature class m ≡ Some e
    → (es ≡ Some sig → NamedAs class ms sig) → (if b then Some e else es) ≡ Some sig → NamedAs class (if b then Some m else ms) sig
either_named class true m e ms es sig of_class more is = record { it = m; is = refl; of_class = of_class ∙ is }
either_named class false m e ms es sig of_class more is = more is

both_named : (class : ClassName) (ms : List Method) (es : List (List ℕ × Signature)) → Paired class ms es → (name : List ℕ) (sig : Signature)
    → signatures.named name es ≡ Some sig → NamedAs class (methods.named name ms) sig
both_named class [] [] pairs name sig is = absurd (cc)
both_named class [] (e ∷ es) pairs name sig is = absurd pairs
both_named class (m ∷ ms) [] pairs name sig is = absurd pairs
both_named class (m ∷ ms) (e ∷ es) pairs name sig is =
    subst (λ (text : List ℕ). NamedAs class (if bytes_eq name text then Some m else methods.named name ms) sig) (sym pairs.0)
    (either_named class (bytes_eq name e.0) m e.1 (methods.named name ms) (signatures.named name es) sig pairs.1 (both_named class ms es pairs.2 name sig) is)

paired : (class : ClassName) → Paired class (methods.methods_of class) (methods_of class)
paired class_name.Table = (refl, refl, (refl, refl, (refl, refl, (refl, refl, (refl, refl, (refl, refl, tt))))))
paired class_name.Matrix = (refl, refl, (refl, refl, (refl, refl, (refl, refl, (refl, refl, (refl, refl, tt))))))
paired class_name.Counter = (refl, refl, (refl, refl, (refl, refl, tt)))

-- the method that has the signature of this name
pub named_method : (class : ClassName) (name : List ℕ) (sig : Signature) → state_method class name ≡ Some sig → (m : Method) × (method_named class name ≡ Some m) × (signature class m ≡ Some sig)
named_method class name sig is =
    let m = both_named class (methods.methods_of class) (methods_of class) (paired class) name sig is in
    (m.it, m.is, m.of_class)

pub access_typed : (p : Place) (field : ℕ) (how : Choice) (name : List ℕ) (found : ExprType) (args : List Expression)
    → IsAnswered p.context (state_method (class_at p.scope field) name) found args
    → IsInvoked p found (accessed field how (method_named (class_at p.scope field) name) args)
access_typed p field how name found args a =
    let class : ClassName = class_at p.scope field in
    let m = both_named class (methods.methods_of class) (methods_of class) (paired class) name a.it a.is in
    subst (λ (o : Option Method). IsInvoked p found (accessed field how o args)) (sym m.is)
    (record { of_method = a.it; is = m.of_class; takes = a.takes; gives = a.gives })
