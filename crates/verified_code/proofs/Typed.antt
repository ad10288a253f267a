-- The types that expressions have are those that their instructions take and give.
use Rattle.std.proofs.Common.{◌≡◌, refl, sym, ap, subst, ◌∙◌, Bool, true, false, cond, ◌&&◌, List, [], ◌∷◌, Option, Some, None}
use Rattle.std.proofs.lemmas.Bool.{false≢true}
use Rattle.sdg_base.specs.declared.operator.BinOp.{BinOp}
use Rattle.sdg_base.specs.declared.operator.BinOp.TheVariants as bin
use Rattle.sdg_base.specs.declared.operator.UnOp.{UnOp}
use Rattle.sdg_base.specs.declared.operator.UnOp.TheVariants as un
use Rattle.sdg_base.specs.declared.store.ClassName.{ClassName}
use Rattle.sdg_base.specs.declared.store.ClassName.TheVariants as class_name
use Rattle.sdg_base.specs.declared.val.Num.{Num}
use Rattle.sdg_base.specs.declared.val.Num.TheVariants as num
use Rattle.sdg_base.specs.declared.value_type.ValueType.{ValueType}
use Rattle.sdg_base.specs.declared.value_type.ValueType.TheVariants as type
use Rattle.sdg_base.specs.Signatures.{Signature}
use Rattle.sdg_base.specs.Types.{binary_type, unary_type, number_type}
use Rattle.state_classes.specs.declared.method.Method.{Method}
use Rattle.state_classes.specs.declared.method.Method.TheVariants as method
use Rattle.state_classes.specs.Methods.{signature}
use Rattle.flat_code.specs.declared.graph.Graph.{Graph}
use Rattle.flat_code.specs.declared.graph.GraphMethod.{GraphMethod}
use Rattle.flat_code.specs.declared.graph.Instr.TheVariants as instr
use Rattle.flat_code.specs.Types.{same_type, same_types}
use Rattle.flat_code.specs.Verified.{Stack, off, without, on_top, pushing, types_after}
use Rattle.body_code.specs.Typing.{where_type, cast_type, alike}
use Rattle.body_code.specs.ExpressionCode.{operand_of}

pub none_some : {A : Type 0} → (x : A) → None ≡ Some x → ⊥
none_some x e = cc

pub some_is : {A : Type 0} → (x y : A) → Some x ≡ Some y → x ≡ y
some_is x y e = cc

pub same_is : (s t : ValueType) → same_type s t ≡ true → s ≡ t
same_is type.Int type.Int e = refl
same_is type.Long type.Long e = refl
same_is type.Boolean type.Boolean e = refl
same_is type.Vector type.Vector e = refl
same_is type.Void type.Void e = refl
same_is _ _ e = absurd (false≢true e)

pub same_refl : (t : ValueType) → same_type t t ≡ true
same_refl type.Int = refl
same_refl type.Long = refl
same_refl type.Boolean = refl
same_refl type.Vector = refl
same_refl type.Void = refl

pub same_are : (ss ts : List ValueType) → same_types ss ts ≡ true → ss ≡ ts
same_are [] [] e = refl
same_are (s ∷ ss) (t ∷ ts) e = by (same_type s t) refl (same_are ss ts) e
  where
    by : (b : Bool) → same_type s t ≡ b → (same_types ss ts ≡ true → ss ≡ ts) → cond b (same_types ss ts) false ≡ true → (s ∷ ss) ≡ (t ∷ ts)
    by true is more e = let h = same_is s t is in let k = more e in cc
    by false is more e = absurd (false≢true e)
same_are [] (t ∷ ts) e = absurd (false≢true e)
same_are (s ∷ ss) [] e = absurd (false≢true e)

-- ---- operators

pub operates : (graph : Graph) (m : GraphMethod) (op : BinOp) (a b u : ValueType) (s : Stack) → binary_type op a b ≡ Some u → types_after graph m (instr.Bin op (operand_of (Some a))) (on_top b (on_top a s)) ≡ Some (on_top u s)
operates graph m bin.Mul type.Int type.Int u s e = ap (λ o. pushing o (Some s)) e
operates graph m bin.Mul type.Long type.Long u s e = ap (λ o. pushing o (Some s)) e
operates graph m bin.Div type.Int type.Int u s e = ap (λ o. pushing o (Some s)) e
operates graph m bin.Div type.Long type.Long u s e = ap (λ o. pushing o (Some s)) e
operates graph m bin.Rem type.Int type.Int u s e = ap (λ o. pushing o (Some s)) e
operates graph m bin.Rem type.Long type.Long u s e = ap (λ o. pushing o (Some s)) e
operates graph m bin.Add type.Int type.Int u s e = ap (λ o. pushing o (Some s)) e
operates graph m bin.Add type.Long type.Long u s e = ap (λ o. pushing o (Some s)) e
operates graph m bin.Sub type.Int type.Int u s e = ap (λ o. pushing o (Some s)) e
operates graph m bin.Sub type.Long type.Long u s e = ap (λ o. pushing o (Some s)) e
operates graph m bin.Shl type.Int type.Int u s e = ap (λ o. pushing o (Some s)) e
operates graph m bin.Shl type.Long type.Int u s e = ap (λ o. pushing o (Some s)) e
operates graph m bin.Shr type.Int type.Int u s e = ap (λ o. pushing o (Some s)) e
operates graph m bin.Shr type.Long type.Int u s e = ap (λ o. pushing o (Some s)) e
operates graph m bin.UShr type.Int type.Int u s e = ap (λ o. pushing o (Some s)) e
operates graph m bin.UShr type.Long type.Int u s e = ap (λ o. pushing o (Some s)) e
operates graph m bin.Lt type.Int type.Int u s e = ap (λ o. pushing o (Some s)) e
operates graph m bin.Lt type.Long type.Long u s e = ap (λ o. pushing o (Some s)) e
operates graph m bin.Le type.Int type.Int u s e = ap (λ o. pushing o (Some s)) e
operates graph m bin.Le type.Long type.Long u s e = ap (λ o. pushing o (Some s)) e
operates graph m bin.Gt type.Int type.Int u s e = ap (λ o. pushing o (Some s)) e
operates graph m bin.Gt type.Long type.Long u s e = ap (λ o. pushing o (Some s)) e
operates graph m bin.Ge type.Int type.Int u s e = ap (λ o. pushing o (Some s)) e
operates graph m bin.Ge type.Long type.Long u s e = ap (λ o. pushing o (Some s)) e
operates graph m bin.Eq type.Boolean type.Boolean u s e = ap (λ o. pushing o (Some s)) e
operates graph m bin.Eq type.Int type.Int u s e = ap (λ o. pushing o (Some s)) e
operates graph m bin.Eq type.Long type.Long u s e = ap (λ o. pushing o (Some s)) e
operates graph m bin.Ne type.Boolean type.Boolean u s e = ap (λ o. pushing o (Some s)) e
operates graph m bin.Ne type.Int type.Int u s e = ap (λ o. pushing o (Some s)) e
operates graph m bin.Ne type.Long type.Long u s e = ap (λ o. pushing o (Some s)) e
operates graph m bin.And type.Boolean type.Boolean u s e = ap (λ o. pushing o (Some s)) e
operates graph m bin.And type.Int type.Int u s e = ap (λ o. pushing o (Some s)) e
operates graph m bin.And type.Long type.Long u s e = ap (λ o. pushing o (Some s)) e
operates graph m bin.Xor type.Boolean type.Boolean u s e = ap (λ o. pushing o (Some s)) e
operates graph m bin.Xor type.Int type.Int u s e = ap (λ o. pushing o (Some s)) e
operates graph m bin.Xor type.Long type.Long u s e = ap (λ o. pushing o (Some s)) e
operates graph m bin.Or type.Boolean type.Boolean u s e = ap (λ o. pushing o (Some s)) e
operates graph m bin.Or type.Int type.Int u s e = ap (λ o. pushing o (Some s)) e
operates graph m bin.Or type.Long type.Long u s e = ap (λ o. pushing o (Some s)) e
operates graph m bin.AndAlso type.Boolean type.Boolean u s e = ap (λ o. pushing o (Some s)) e
operates graph m bin.OrElse type.Boolean type.Boolean u s e = ap (λ o. pushing o (Some s)) e
operates graph m bin.Mul _ _ u s e = absurd (none_some u e)
operates graph m bin.Div _ _ u s e = absurd (none_some u e)
operates graph m bin.Rem _ _ u s e = absurd (none_some u e)
operates graph m bin.Add _ _ u s e = absurd (none_some u e)
operates graph m bin.Sub _ _ u s e = absurd (none_some u e)
operates graph m bin.Shl _ _ u s e = absurd (none_some u e)
operates graph m bin.Shr _ _ u s e = absurd (none_some u e)
operates graph m bin.UShr _ _ u s e = absurd (none_some u e)
operates graph m bin.Lt _ _ u s e = absurd (none_some u e)
operates graph m bin.Le _ _ u s e = absurd (none_some u e)
operates graph m bin.Gt _ _ u s e = absurd (none_some u e)
operates graph m bin.Ge _ _ u s e = absurd (none_some u e)
operates graph m bin.Eq _ _ u s e = absurd (none_some u e)
operates graph m bin.Ne _ _ u s e = absurd (none_some u e)
operates graph m bin.And _ _ u s e = absurd (none_some u e)
operates graph m bin.Xor _ _ u s e = absurd (none_some u e)
operates graph m bin.Or _ _ u s e = absurd (none_some u e)
operates graph m bin.AndAlso _ _ u s e = absurd (none_some u e)
operates graph m bin.OrElse _ _ u s e = absurd (none_some u e)

pub and_also : (a b u : ValueType) → binary_type bin.AndAlso a b ≡ Some u → (a ≡ type.Boolean) × (b ≡ type.Boolean) × (u ≡ type.Boolean)
and_also type.Boolean type.Boolean u e = (refl, refl, sym (some_is type.Boolean u e))
and_also _ _ u e = absurd (none_some u e)

pub unary_after : (graph : Graph) (m : GraphMethod) (op : UnOp) (a u : ValueType) (s : Stack) → unary_type op a ≡ Some u → types_after graph m (instr.Un op) (on_top a s) ≡ Some (on_top u s)
unary_after graph m op type.Int u s e = ap (λ o. pushing o (Some s)) e
unary_after graph m op type.Long u s e = ap (λ o. pushing o (Some s)) e
unary_after graph m op type.Boolean u s e = ap (λ o. pushing o (Some s)) e
unary_after graph m op type.Vector u s e = ap (λ o. pushing o (Some s)) e
unary_after graph m un.Plus type.Void u s e = absurd (none_some u e)
unary_after graph m un.Minus type.Void u s e = absurd (none_some u e)
unary_after graph m un.Complement type.Void u s e = absurd (none_some u e)
unary_after graph m un.Not type.Void u s e = absurd (none_some u e)

pub plus_same : (a u : ValueType) → number_type a ≡ Some u → a ≡ u
plus_same type.Int u e = some_is type.Int u e
plus_same type.Long u e = some_is type.Long u e
plus_same type.Boolean u e = absurd (none_some u e)
plus_same type.Vector u e = absurd (none_some u e)
plus_same type.Void u e = absurd (none_some u e)

pub casts : (graph : Graph) (m : GraphMethod) (to : Num) (a : ValueType) (u : ValueType) (s : Stack) → cast_type to (Some a) ≡ Some u → types_after graph m (instr.Cast to) (on_top a s) ≡ Some (on_top u s)
casts graph m num.Int type.Int u s e = ap (λ o. pushing o (Some s)) e
casts graph m num.Int type.Long u s e = ap (λ o. pushing o (Some s)) e
casts graph m num.Long type.Int u s e = ap (λ o. pushing o (Some s)) e
casts graph m num.Long type.Long u s e = ap (λ o. pushing o (Some s)) e
casts graph m to type.Boolean u s e = absurd (none_some u e)
casts graph m to type.Vector u s e = absurd (none_some u e)
casts graph m to type.Void u s e = absurd (none_some u e)

-- ---- what has a type

pub where_is : (found : Option ValueType) (s t u : ValueType) → where_type found s t ≡ Some u → (found ≡ Some s) × (t ≡ u)
where_is None s t u e = absurd (none_some u e)
where_is (Some f) s t u e = by (same_type f s) refl e
  where
    by : (b : Bool) → same_type f s ≡ b → cond b (Some t) None ≡ Some u → (Some f ≡ Some s) × (t ≡ u)
    by true is e = (ap Some (same_is f s is), some_is t u e)
    by false is e = absurd (none_some u e)

pub alike_is : (a b u : ValueType) → alike a b ≡ Some u → (a ≡ u) × (b ≡ u)
alike_is a b u e = by (same_type a b) refl e
  where
    by : (c : Bool) → same_type a b ≡ c → cond c (Some a) None ≡ Some u → (a ≡ u) × (b ≡ u)
    by true is e = (some_is a u e, sym (same_is a b is) ∙ some_is a u e)
    by false is e = absurd (none_some u e)

pub called_is : (params : List ValueType) (result : ValueType) (args : List ValueType) (u : ValueType) → cond (same_types args params) (Some result) None ≡ Some u → (args ≡ params) × (result ≡ u)
called_is params result args u e = by (same_types args params) refl e
  where
    by : (b : Bool) → same_types args params ≡ b → cond b (Some result) None ≡ Some u → (args ≡ params) × (result ≡ u)
    by true is e = (same_are args params is, some_is result u e)
    by false is e = absurd (none_some u e)

-- ---- several values

abbrev pub is_value : ValueType → Bool
is_value type.Void = false
is_value _ = true

abbrev pub are_values : List ValueType → Bool
are_values [] = true
are_values (t ∷ ts) = is_value t && are_values ts

-- values that are pushed one after the other
abbrev pub pushed : List ValueType → Stack → Stack
pushed [] s = s
pushed (t ∷ ts) s = pushed ts (on_top t s)

pub and_left : (a b : Bool) → (a && b) ≡ true → a ≡ true
and_left true b e = refl
and_left false b e = absurd (false≢true e)

pub and_right : (a b : Bool) → (a && b) ≡ true → b ≡ true
and_right true b e = e
and_right false b e = absurd (false≢true e)

pub on_top_is : (t : ValueType) (s : Stack) → is_value t ≡ true → on_top t s ≡ t ∷ s
on_top_is type.Int s e = refl
on_top_is type.Long s e = refl
on_top_is type.Boolean s e = refl
on_top_is type.Vector s e = refl
on_top_is type.Void s e = absurd (false≢true e)

pub one_off : (t : ValueType) (s : Stack) → is_value t ≡ true → off t (Some (on_top t s)) ≡ Some s
one_off type.Int s e = refl
one_off type.Long s e = refl
one_off type.Boolean s e = refl
one_off type.Vector s e = refl
one_off type.Void s e = absurd (false≢true e)

pub without_pushed : (ts : List ValueType) (s : Stack) → are_values ts ≡ true → without ts (pushed ts s) ≡ Some s
without_pushed [] s e = refl
without_pushed (t ∷ ts) s e =
    ap (off t) (without_pushed ts (on_top t s) (and_right (is_value t) (are_values ts) e)) ∙ one_off t s (and_left (is_value t) (are_values ts) e)

abbrev pub arguments_in : Option Signature → Bool
arguments_in None = true
arguments_in (Some sig) = are_values sig.arguments

arguments_are : (class : ClassName) (m : Method) → arguments_in (signature class m) ≡ true
arguments_are class_name.Table method.Get = refl
arguments_are class_name.Table method.Has = refl
arguments_are class_name.Table method.Put = refl
arguments_are class_name.Table method.Add = refl
arguments_are class_name.Table method.Remove = refl
arguments_are class_name.Table method.Size = refl
arguments_are class_name.Table method.GetElement = refl
arguments_are class_name.Table method.SetElement = refl
arguments_are class_name.Table method.AddElement = refl
arguments_are class_name.Table method.GetRow = refl
arguments_are class_name.Table method.Multiply = refl
arguments_are class_name.Table method.Set = refl
arguments_are class_name.Matrix method.Get = refl
arguments_are class_name.Matrix method.Has = refl
arguments_are class_name.Matrix method.Put = refl
arguments_are class_name.Matrix method.Add = refl
arguments_are class_name.Matrix method.Remove = refl
arguments_are class_name.Matrix method.Size = refl
arguments_are class_name.Matrix method.GetElement = refl
arguments_are class_name.Matrix method.SetElement = refl
arguments_are class_name.Matrix method.AddElement = refl
arguments_are class_name.Matrix method.GetRow = refl
arguments_are class_name.Matrix method.Multiply = refl
arguments_are class_name.Matrix method.Set = refl
arguments_are class_name.Counter method.Get = refl
arguments_are class_name.Counter method.Has = refl
arguments_are class_name.Counter method.Put = refl
arguments_are class_name.Counter method.Add = refl
arguments_are class_name.Counter method.Remove = refl
arguments_are class_name.Counter method.Size = refl
arguments_are class_name.Counter method.GetElement = refl
arguments_are class_name.Counter method.SetElement = refl
arguments_are class_name.Counter method.AddElement = refl
arguments_are class_name.Counter method.GetRow = refl
arguments_are class_name.Counter method.Multiply = refl
arguments_are class_name.Counter method.Set = refl

pub arguments_values : (class : ClassName) (m : Method) (sig : Signature) → signature class m ≡ Some sig → are_values sig.arguments ≡ true
arguments_values class m sig e = subst (λ (o : Option Signature). arguments_in o ≡ true) e (arguments_are class m)
