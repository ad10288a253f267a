-- A call answers no collection, and one that answers nothing of a member of a collection writes it.
use Rattle.std.proofs.Common.{◌≡◌, ℕ, Bool, true, false, List, length, Option, Some, None, codes, if◌then◌else◌, refl, ap, subst, ◌∙◌}
use Rattle.std.specs.Str.{bytes_eq}
use Rattle.sdg_base.specs.declared.value_type.ValueType.{ValueType as SignatureType}
use Rattle.sdg_base.specs.declared.value_type.ValueType.TheVariants as type
use Rattle.sdg_base.specs.Signatures.{state_method}
use Rattle.sdg_base.specs.Signatures as signatures
use Rattle.java_tree.specs.declared.types.ValueType.TheVariants as value
use Rattle.java_tree.specs.declared.types.ExprType.{ExprType}
use Rattle.java_tree.specs.declared.types.ExprType.TheVariants.{Unknown, Void, Value, Collection, State}
use Rattle.java_types.specs.declared.methods.Shape.{Shape}
use Rattle.java_types.specs.declared.methods.Params.TheVariants as params
use Rattle.java_types.specs.declared.walk.Env.{Env}
use Rattle.java_types.specs.declared.walk.Signature.{Signature}
use Rattle.java_types.specs.declared.walk.Walk.{Walk}
use Rattle.java_types.specs.Expressions.{Argument, call_of, called_by, callee_of, sound_call, of, own, own_call, own_of}
use Rattle.java_types.specs.Fits.{is_known, is_vector, is_void, unless}
use Rattle.java_types.specs.Methods.{method_of, shape}
use Rattle.java_types.specs.Names.{entry_of}
use Rattle.java_types.specs.Walks.{Typing, past}
use Rattle.java_types.specs.Laws as laws
use Rattle.java_types.proofs.Signatures.{state_agrees, vector_agrees}
use Rattle.access_blocks.specs.Resolving.{wanted_by}
use Rattle.typed_bodies.specs.Reading.{Place, IsSound}
use Rattle.typed_bodies.specs.Marking.{is_state}
use Rattle.typed_bodies.proofs.DottedCalls.{agreed}
use Rattle.typed_bodies.proofs.ValuesGo.{is_collection}

-- ---- no collections

unless_plain : (b : Bool) (t : ExprType) → is_collection t ≡ false → is_collection (unless b t) ≡ false
unless_plain true t e = refl
unless_plain false t e = e

wanted_plain : (t : SignatureType) → is_collection (wanted_by t) ≡ false
wanted_plain type.Int = refl
wanted_plain type.Long = refl
wanted_plain type.Boolean = refl
wanted_plain type.Vector = refl
wanted_plain type.Void = refl

agreed_plain : (m : Option Shape) (o : Option signatures.Signature) (s : Shape) → laws.Agree m o → m ≡ Some s → is_collection s.result ≡ false
agreed_plain m o s agree is =
    let a = agreed s o (subst (λ (m : Option Shape). laws.Agree m o) is agree) in
    ap is_collection a.result ∙ wanted_plain a.it.result

shape_plain : (owner : ExprType) (name : List ℕ) (s : Shape) → method_of owner name ≡ Some s → is_collection s.result ≡ false
shape_plain Unknown name s is = absurd (cc)
shape_plain Void name s is = absurd (cc)
shape_plain (Value value.Int) name s is = absurd (cc)
shape_plain (Value value.Long) name s is = absurd (cc)
shape_plain (Value value.Boolean) name s is = absurd (cc)
shape_plain (Value value.Vector) name s is = agreed_plain (method_of (Value value.Vector) name) (signatures.vector_method name) s (vector_agrees name) is
shape_plain (Collection t) name s is = absurd (cc)
shape_plain (State class) name s is = agreed_plain (method_of (State class) name) (state_method class name) s (state_agrees class name) is

callee_plain : (at name_at count : ℕ) (known : Bool) (w : Walk) (owner : ExprType) (name : List ℕ) (o : Option Shape) → method_of owner name ≡ o
    → is_collection (callee_of at name_at count known w o).shape.result ≡ false
callee_plain at name_at count known w owner name None is = refl
callee_plain at name_at count known w owner name (Some s) is = unless_plain _ s.result (shape_plain owner name s is)

of_plain : (env : Env) (at : ℕ) (owner : ExprType) (name : List ℕ) (count : ℕ) (w : Walk) → is_collection (of env at owner name count w).shape.result ≡ false
unfolding of
of_plain env at owner name count w = callee_plain at (past env 1 w).at count (is_known owner) (past env 1 (past env 1 w)) owner name (method_of owner name) refl

pub dotted_plain : (env : Env) (at : ℕ) (t : Typing) (name : List ℕ) (args : List Argument) → is_collection (call_of env at t name args).found ≡ false
dotted_plain env at t name args = unless_plain _ _ (of_plain env at t.found name (length args) t.walk)

called_plain : (at count : ℕ) (s : Signature) (w : Walk) (is_sound : Bool) → s.is_sound ≡ is_sound → is_collection s.result ≡ false → is_collection (called_by at count s w).found ≡ false
called_plain at count s w true is plain =
    ap (λ b. is_collection (if b then sound_call at count s w else (record { found = Unknown; walk = w })).found) is ∙ unless_plain _ s.result plain
called_plain at count s w false is plain = ap (λ b. is_collection (if b then sound_call at count s w else (record { found = Unknown; walk = w })).found) is

own_of_plain : (p : Place) → IsSound p → (name : List ℕ) (at count : ℕ) (w : Walk) (o : Option Signature) → entry_of name p.env.methods ≡ o → is_collection (own_of at count w o).found ≡ false
own_of_plain p sound name at count w None is = refl
own_of_plain p sound name at count w (Some s) is =
    let m = sound.methods name s is in
    called_plain at count s _ s.is_sound refl (ap is_collection m.gives ∙ wanted_plain m.callee.result)

pub own_plain : (p : Place) → IsSound p → (name : List ℕ) (args : List Argument) (w : Walk) → is_collection (own_call p.env name args w).found ≡ false
unfolding own
own_plain p sound name args w = unless_plain _ _ (own_of_plain p sound name w.at (length args) (past p.env 1 w) (entry_of name p.env.methods) refl)

-- ---- what answers nothing

same_some : {A : Type 0} {x y : A} → Some x ≡ Some y → x ≡ y
same_some e = cc

vector_void : (size get set : Bool) (s : Shape)
    → (if size then shape params.Nothing (Value value.Int) else (if get then shape params.Index (Value value.Long) else (if set then shape params.IndexAndValue Void else None))) ≡ Some s
    → is_void s.result ≡ true → set ≡ true
vector_void true get set s is void = let h = ap (λ (s : Shape). is_void s.result) (same_some is) ∙ void in absurd (cc)
vector_void false true set s is void = let h = ap (λ (s : Shape). is_void s.result) (same_some is) ∙ void in absurd (cc)
vector_void false false true s is void = refl
vector_void false false false s is void = absurd (cc)

-- of what is no field, only a vector has a method that answers nothing
writes_vector : (owner : ExprType) (name : List ℕ) (s : Shape) → is_state owner ≡ false → method_of owner name ≡ Some s → is_void s.result ≡ true → is_vector owner ≡ true × bytes_eq name (codes "set") ≡ true
writes_vector Unknown name s no_state is void = absurd (cc)
writes_vector Void name s no_state is void = absurd (cc)
writes_vector (Value value.Int) name s no_state is void = absurd (cc)
writes_vector (Value value.Long) name s no_state is void = absurd (cc)
writes_vector (Value value.Boolean) name s no_state is void = absurd (cc)
writes_vector (Value value.Vector) name s no_state is void = (refl, vector_void (bytes_eq name (codes "size")) (bytes_eq name (codes "get")) (bytes_eq name (codes "set")) s is void)
writes_vector (Collection t) name s no_state is void = absurd (cc)
writes_vector (State class) name s no_state is void = absurd (cc)

unless_void : (b : Bool) (t : ExprType) → is_void (unless b t) ≡ true → is_void t ≡ true
unless_void true t e = absurd (cc)
unless_void false t e = e

callee_void : (at name_at count : ℕ) (known : Bool) (w : Walk) (owner : ExprType) (name : List ℕ) (o : Option Shape) → is_state owner ≡ false → method_of owner name ≡ o
    → is_void (callee_of at name_at count known w o).shape.result ≡ true → is_vector owner ≡ true × bytes_eq name (codes "set") ≡ true
callee_void at name_at count known w owner name None no_state is void = absurd (cc)
callee_void at name_at count known w owner name (Some s) no_state is void = writes_vector owner name s no_state is (unless_void _ s.result void)

of_void : (env : Env) (at : ℕ) (owner : ExprType) (name : List ℕ) (count : ℕ) (w : Walk) → is_state owner ≡ false → is_void (of env at owner name count w).shape.result ≡ true
    → is_vector owner ≡ true × bytes_eq name (codes "set") ≡ true
unfolding of
of_void env at owner name count w no_state void = callee_void at (past env 1 w).at count (is_known owner) (past env 1 (past env 1 w)) owner name (method_of owner name) no_state refl void

pub dotted_void : (env : Env) (at : ℕ) (t : Typing) (name : List ℕ) (args : List Argument) → is_state t.found ≡ false → is_void (call_of env at t name args).found ≡ true → is_vector t.found ≡ true × bytes_eq name (codes "set") ≡ true
dotted_void env at t name args no_state void = of_void env at t.found name (length args) t.walk no_state (unless_void _ _ void)
