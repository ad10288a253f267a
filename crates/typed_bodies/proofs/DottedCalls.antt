-- Calls of what a name or a member stands for.
use Rattle.std.proofs.Common.{◌≡◌, ℕ, suc, Bool, true, false, not, nat_eq, List, [], ◌∷◌, ◌++◌, length, map, drop, Option, Some, None, refl, sym, ap, subst, ◌∙◌, arith}
use Rattle.std.proofs.lemmas.Bool.Decides.{nat_tests}
use Rattle.sdg_base.specs.declared.value_type.ValueType.{ValueType as SignatureType}
use Rattle.sdg_base.specs.declared.value_type.ValueType.TheVariants as type
use Rattle.sdg_base.specs.Signatures.{Signature}
use Rattle.java_tree.specs.declared.types.ExprType.{ExprType}
use Rattle.java_tree.specs.declared.types.Declaration.{Declaration}
use Rattle.java_types.specs.declared.methods.Shape.{Shape}
use Rattle.java_types.specs.declared.walk.Env.{Env}
use Rattle.java_types.specs.declared.walk.Walk.{Walk}
use Rattle.java_types.specs.Fits.{is_known, unless}
use Rattle.java_types.specs.Methods.{params_of, method_of}
use Rattle.java_types.specs.Laws as laws
use Rattle.java_types.specs.Walks.{Typing, past}
use Rattle.java_types.specs.Expressions.{Argument, Callee, callee_of, of, arguments, call_of}
use Rattle.std.specs.List.{list_all}
use Rattle.java_types.specs.declared.methods.Params.{Params}
use Rattle.java_types.specs.declared.methods.Params.TheVariants as parameters
use Rattle.annotations.specs.declared.position.Position.{Position}
use Rattle.annotations.specs.declared.position.Position.TheVariants.{Inside}
use Rattle.annotations.specs.declared.walk.Walk.{Walk as Marking}
use Rattle.annotations.specs.Expressions as marking
use Rattle.access_blocks.specs.declared.body.Expression.{Expression}
use Rattle.access_blocks.specs.Cursors.{Cursor, Read}
use Rattle.access_blocks.specs.Resolving.{Resolving, wanted_by, argument, params_by, vector_call, vector_step, access_step, accessed, chosen, class_at, of_step}
use Rattle.access_blocks.specs.Resolving as resolving
use Rattle.body_code.specs.Typing.{needs, needs_of_all}
use Rattle.typed_bodies.specs.Marking.{Passes, IsKey}
use Rattle.typed_bodies.specs.Needing.{IsWithin}
use Rattle.typed_bodies.specs.Reading.{Place, Follows, are_plain}
use Rattle.typed_bodies.specs.Expressions.{all_marked}
use Rattle.typed_bodies.proofs.Steps.{unbroken, noted_follows, past_follows}
use Rattle.typed_bodies.proofs.Arguments.{ReadsArgument, arguments_follow}
use Rattle.typed_bodies.proofs.Signed.{IsAnswered}

same_some : {A : Type 0} {x y : A} → Some x ≡ Some y → x ≡ y
same_some e = cc

-- ---- the method behind the dot

record Shaped (owner : ExprType) (name : List ℕ) (count : ℕ) (c : Callee) : Type 0 where
  it : Shape
  is : method_of owner name ≡ Some it
  params : c.shape.params ≡ it.params
  counted : length (params_of it.params) ≡ count
  result : c.shape.result ≡ it.result

counted_is : (n m : ℕ) → not (nat_eq n m) ≡ false → n ≡ m
counted_is n m e = grind (arith, nat_tests)

unless_not : (b : Bool) (t : ExprType) → b ≡ false → unless b t ≡ t
unless_not true t e = absurd (cc)
unless_not false t e = refl

shaped_by : (owner : ExprType) (name : List ℕ) (at name_at count : ℕ) (known : Bool) (w : Walk) (o : Option Shape) → method_of owner name ≡ o
    → (callee_of at name_at count known w o).walk.findings ≡ [] → known ≡ true → Shaped owner name count (callee_of at name_at count known w o)
shaped_by owner name at name_at count known w None is quiet there =
    let u = unbroken known name_at 3 w quiet in let h : true ≡ false = sym there ∙ u.holds in absurd (cc)
shaped_by owner name at name_at count known w (Some s) is quiet there =
    let u = unbroken (not (nat_eq (length (params_of s.params)) count)) at 6 w quiet in
    record { it = s; is = is; params = refl; counted = counted_is _ _ u.holds; result = unless_not _ s.result u.holds }

shaped : (env : Env) (at : ℕ) (owner : ExprType) (name : List ℕ) (count : ℕ) (w : Walk) → (of env at owner name count w).walk.findings ≡ [] → is_known owner ≡ true
    → Shaped owner name count (of env at owner name count w)
unfolding of
shaped env at owner name count w quiet there =
    shaped_by owner name at (past env 1 w).at count (is_known owner) (past env 1 (past env 1 w)) (method_of owner name) refl quiet there

module _ {A : Type 0} (p : Place) (reading : Cursor → Read A) (Fits : List Declaration → A → Type 0) where
  callee_follows : {v : Walk} (at name_at count : ℕ) (known : Bool) (w : Walk) (o : Option Shape) → Follows p (callee_of at name_at count known w o).walk v reading Fits → Follows p w v reading Fits
  callee_follows at name_at count known w None f = noted_follows p (unbroken known name_at 3 w f.added.no_findings) f
  callee_follows at name_at count known w (Some s) f = noted_follows p (unbroken (not (nat_eq (length (params_of s.params)) count)) at 6 w f.added.no_findings) f

  of_follows : {v : Walk} (env : Env) (at : ℕ) (owner : ExprType) (name : List ℕ) (count : ℕ) (w : Walk) → Follows p (of env at owner name count w).walk v reading Fits → Follows p w v reading Fits
  unfolding of
  of_follows env at owner name count w f =
      past_follows p env 1 (past_follows p env 1 (callee_follows at (past env 1 w).at count (is_known owner) (past env 1 (past env 1 w)) (method_of owner name) f))

-- ---- its arguments

type_wanted : (t : SignatureType) → laws.type_of t ≡ wanted_by t
type_wanted type.Int = refl
type_wanted type.Long = refl
type_wanted type.Boolean = refl
type_wanted type.Vector = refl
type_wanted type.Void = refl

types_wanted : (ts : List SignatureType) → map laws.type_of ts ≡ map wanted_by ts
types_wanted [] = refl
types_wanted (t ∷ ts) = ap (λ u. u ∷ map laws.type_of ts) (type_wanted t) ∙ ap (λ us. wanted_by t ∷ us) (types_wanted ts)

length_map : {A B : Type 0} (f : A → B) (xs : List A) → length (map f xs) ≡ length xs
length_map f [] = refl
length_map f (x ∷ xs) = ap suc (length_map f xs)

pub record Agreed (s : Shape) (o : Option Signature) : Type 0 where
  pub it : Signature
  pub is : o ≡ Some it
  pub params : params_of s.params ≡ map wanted_by it.arguments
  pub result : s.result ≡ wanted_by it.result

pub agreed : (s : Shape) (o : Option Signature) → laws.Agree (Some s) o → Agreed s o
agreed s None e = absurd (cc)
agreed s (Some it) e =
    let same : laws.types_of_shape s ≡ laws.types_of_signature it = same_some e in
    record { it = it; is = refl; params = ap (λ (x : List ExprType × ExprType). x.0) same ∙ types_wanted it.arguments; result = ap (λ (x : List ExprType × ExprType). x.1) same ∙ type_wanted it.result }

where_holds : (b : Bool) (t : ExprType) → b ≡ true → unless (not b) t ≡ t
where_holds true t e = refl
where_holds false t e = absurd (cc)

-- what is known of a call behind a dot
pub record Dotted (p : Place) (owner : ExprType) (name : List ℕ) (o : Option Signature) (found : ExprType) (ms : List marking.Argument) (names : List Declaration) (args : List Expression) : Type 0 where
  pub has_method : is_known owner ≡ true → (s : Shape) × (method_of owner name ≡ Some s)
  pub within : are_plain p names ≡ true → IsWithin p (needs_of_all args)
  pub grows : (position : Position) (u : Marking) → (all_marked p.marks position ms u).findings ≡ [] → u.findings ≡ []
  pub inside : is_known owner ≡ true → Passes p (all_marked p.marks Inside ms) false names
  pub key : (u : Marking) (rest : List Declaration) → drop u.used p.marks.names ≡ names ++ rest → IsKey p (marking.first_key ms u) (needs (argument args 0))
  pub answered : are_plain p names ≡ true → is_known owner ≡ true → laws.Agree (method_of owner name) o → IsAnswered p.context o found args

params_known : (ps : Params) → list_all is_known (params_of ps) ≡ true
params_known parameters.Nothing = refl
params_known parameters.Key = refl
params_known parameters.KeyAndValue = refl
params_known parameters.RowColumnAndValue = refl
params_known parameters.RowAndCount = refl
params_known parameters.Vector = refl
params_known parameters.Index = refl
params_known parameters.IndexAndValue = refl

module _ {Arg : Type 0} (p : Place) (pass : Arg → Argument) (reads : Arg → Resolving) (marked : Arg → marking.Argument) (each : (x : Arg) → ReadsArgument p (pass x) (reads x) (marked x)) where
  pub dotted_follows : (at : ℕ) (t : Typing) (name : List ℕ) (args : List Arg) (o : Option Signature) → (call_of p.env at t name (map pass args)).walk.findings ≡ []
      → Follows p t.walk (call_of p.env at t name (map pass args)).walk (resolving.arguments (params_by o) (map reads args))
      (Dotted p t.found name o (call_of p.env at t name (map pass args)).found (map marked args))
  dotted_follows at t name args o quiet =
      let count = length (map pass args) in
      let c = of p.env at t.found name count t.walk in
      let end = arguments p.env (params_of c.shape.params) (map pass args) c.walk in
      let passed = arguments_follow p p.env (params_of c.shape.params) (params_by o) pass reads marked each args c.walk quiet in
      let in_shape = shaped p.env at t.found name count t.walk passed.added.no_findings in
      of_follows p _ _ p.env at t.found name count t.walk (record {
        added = passed.added;
        in_step = λ known cursor types names stands.
            let r = passed.in_step known cursor types names stands in
            record {
              behind = r.behind;
              fits = record {
                has_method = λ there. let s = in_shape there in (s.it, s.is);
                within = r.fits.within;
                grows = r.fits.grows;
                inside = λ there.
                    let s = in_shape there in
                    r.fits.inside (params_known c.shape.params) (ap (λ (ps : Params). length (params_of ps)) s.params ∙ (s.counted ∙ length_map pass args));
                key = r.fits.key;
                answered = λ plain there agree.
                    let s = in_shape there in
                    let a = agreed s.it o (subst (λ (m : Option Shape). laws.Agree m o) s.is agree) in
                    let wanted : params_of c.shape.params ≡ map wanted_by a.it.arguments = ap params_of s.params ∙ a.params in
                    let to : params_by o ≡ map wanted_by a.it.arguments = ap params_by a.is in
                    let as_many : length a.it.arguments ≡ length args =
                    sym (length_map wanted_by a.it.arguments) ∙ (ap (λ (ts : List ExprType). length ts) (sym a.params) ∙ (s.counted ∙ length_map pass args)) in
                    record {
                      it = a.it;
                      is = a.is;
                      takes = r.fits.typed plain a.it.arguments wanted to as_many;
                      gives = where_holds end.holds c.shape.result (r.fits.fits plain) ∙ (s.result ∙ a.result);
                    };
              };
            };
      })
