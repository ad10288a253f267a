-- What types off a stack say of the values on it.
use Rattle.std.proofs.Common.{◌≡◌, ◌≢◌, refl, sym, ap, ◌∙◌, ℕ, zero, suc, ◌+◌, Bool, true, false, cond, List, [], ◌∷◌, ◌++◌, map, length, Option, Some, None}
use Rattle.std.specs.List.{range_with_len}
use Rattle.sdg_base.specs.declared.val.Val.{Val}
use Rattle.sdg_base.specs.declared.value_type.ValueType.{ValueType}
use Rattle.sdg_base.specs.declared.value_type.ValueType.TheVariants as type
use Rattle.sdg_base.specs.Types.{type_of}
use Rattle.flat_code.specs.declared.graph.GraphMethod.{GraphMethod}
use Rattle.flat_code.specs.declared.graph.VarType.{VarType}
use Rattle.flat_code.specs.declared.graph.VarType.TheVariants as var
use Rattle.flat_code.specs.Types.{same_type, type_by, type_of_variable}
use Rattle.flat_code.specs.Machine.{arguments, with_last}
use Rattle.flat_code.specs.Fits.{is_type, has_types}
use Rattle.flat_code.specs.Verified.{Stack, off, without, on_top, pushing, types_of_variables, with_first_type}
use Rattle.graph_safety.proofs.Values.{same_is, is_same}
use Rattle.graph_safety.proofs.Lists.{none_some, some_is, and_true}

-- ---- void and other types

pub type_by_value : (t : VarType) → type_by t ≢ type.Void
type_by_value var.Int e = absurd (cc)
type_by_value var.Long e = absurd (cc)
type_by_value var.Boolean e = absurd (cc)
type_by_value var.Vector e = absurd (cc)

pub on_top_is : (t : ValueType) (stack : Stack) → t ≢ type.Void → on_top t stack ≡ t ∷ stack
on_top_is type.Void stack h = absurd (h refl)
on_top_is _ stack h = refl

pub on_top_by : (t : VarType) (stack : Stack) → on_top (type_by t) stack ≡ type_by t ∷ stack
on_top_by t stack = on_top_is (type_by t) stack (type_by_value t)

-- ---- types off a stack

pub off_is : (t : ValueType) (o : Option Stack) (stack : Stack) → off t o ≡ Some stack → o ≡ Some (t ∷ stack)
off_is t None stack e = absurd (none_some stack e)
off_is t (Some []) stack e = absurd (none_some stack e)
off_is t (Some (s ∷ ss)) stack e = by (same_type s t) refl e
  where
    by : (b : Bool) → same_type s t ≡ b → cond b (Some ss) None ≡ Some stack → Some (s ∷ ss) ≡ Some (t ∷ stack)
    by true is e = let h = same_is s t is in cc
    by false is e = absurd (none_some stack e)

pub one_off : (t : ValueType) (types stack : Stack) → without (t ∷ []) types ≡ Some stack → types ≡ t ∷ stack
one_off t types stack e = some_is types (t ∷ stack) (off_is t (Some types) stack e)

pub two_off : (s t : ValueType) (types stack : Stack) → without (s ∷ t ∷ []) types ≡ Some stack → types ≡ t ∷ s ∷ stack
two_off s t types stack e = one_off t types (s ∷ stack) (off_is s (without (t ∷ []) types) stack e)

-- a value that was pushed, or none
pub record Pushed (t : Option ValueType) (o : Option Stack) (after : Stack) : Type 0 where
  pub of : ValueType
  pub is_type : t ≡ Some of
  pub stack : Stack
  pub is_stack : o ≡ Some stack
  pub top : on_top of stack ≡ after

pub pushing_is : (t : Option ValueType) (o : Option Stack) (after : Stack) → pushing t o ≡ Some after → Pushed t o after
pushing_is None o after e = absurd (none_some after e)
pushing_is (Some t) None after e = absurd (none_some after e)
pushing_is (Some t) (Some stack) after e = record { of = t; is_type = refl; stack = stack; is_stack = refl; top = some_is (on_top t stack) after e }

-- ---- values off a stack

pub record One (t : ValueType) (types : Stack) (vs : List Val) : Type 0 where
  pub v : Val
  pub rest : List Val
  pub is : vs ≡ v ∷ rest
  pub of : type_of v ≡ t
  pub left : map type_of rest ≡ types

pub one_of : (t : ValueType) (types : Stack) (vs : List Val) → map type_of vs ≡ t ∷ types → One t types vs
one_of t types [] e = absurd (cc)
one_of t types (v ∷ vs) e = record { v = v; rest = vs; is = refl; of = cc; left = cc }

abbrev pub two : List Val → List Val → List Val × List Val
two a b = (a, b)

pub record Taken (ts : List ValueType) (vs : List Val) (types : Stack) : Type 0 where
  pub args : List Val
  pub rest : List Val
  pub is : arguments (length ts) vs ≡ Some (two args rest)
  pub of : map type_of args ≡ ts
  pub left : map type_of rest ≡ types

pair_parts : (a b c d : List Val) → Some (two a b) ≡ Some (two c d) → (a ≡ c) × (b ≡ d)
pair_parts a b c d e = let h = some_is (two a b) (two c d) e in (ap {B = List Val} (λ (p : List Val × List Val). p.0) h, ap {B = List Val} (λ (p : List Val × List Val). p.1) h)

last_more : (v y : Val) (xs left : List Val) (o p : Option (List Val × List Val))
    → ((ys : List Val) → o ≡ Some (two ys (y ∷ left)) → p ≡ Some (two (y ∷ ys) left))
    → with_last v o ≡ Some (two xs (y ∷ left)) → with_last v p ≡ Some (two (y ∷ xs) left)
last_more v y xs left None p h e = absurd (none_some (two xs (y ∷ left)) e)
last_more v y xs left (Some taken) p h e =
    let parts = pair_parts (taken.0 ++ v ∷ []) taken.1 xs (y ∷ left) e in
    let rest : Some taken ≡ Some (two taken.0 (y ∷ left)) = ap (λ (l : List Val). Some (two taken.0 l)) parts.1 in
    ap (λ (q : Option (List Val × List Val)). with_last v q) (h taken.0 rest) ∙ ap (λ (l : List Val). Some (two (y ∷ l) left)) parts.0

arguments_more : (n : ℕ) (stack xs : List Val) (y : Val) (left : List Val) → arguments n stack ≡ Some (two xs (y ∷ left)) → arguments (suc n) stack ≡ Some (two (y ∷ xs) left)
arguments_more zero [] xs y left e = let h = (pair_parts [] [] xs (y ∷ left) e).1 in absurd (cc)
arguments_more zero (v ∷ stack) xs y left e =
    let parts = pair_parts [] (v ∷ stack) xs (y ∷ left) e in
    let h : v ≡ y = let k = parts.1 in cc in
    let l : stack ≡ left = let k = parts.1 in cc in
    ap (λ (x : Val). Some (two (x ∷ []) stack)) h ∙ ap (λ (r : List Val). Some (two (y ∷ []) r)) l ∙ ap (λ (r : List Val). Some (two (y ∷ r) left)) parts.0
arguments_more (suc n) [] xs y left e = absurd (none_some (two xs (y ∷ left)) e)
arguments_more (suc n) (v ∷ stack) xs y left e = last_more v y xs left (arguments n stack) (arguments (suc n) stack) (λ ys. arguments_more n stack ys y left) e

taken_more : (t : ValueType) (ts : List ValueType) (vs : List Val) (types : Stack) → Taken ts vs (t ∷ types) → Taken (t ∷ ts) vs types
taken_more t ts vs types k =
    let top = one_of t types k.rest k.left in
    record {
      args = top.v ∷ k.args;
      rest = top.rest;
      is = arguments_more (length ts) vs k.args top.v top.rest (k.is ∙ ap (λ (l : List Val). Some (two k.args l)) top.is);
      of = ap (λ u. u ∷ map type_of k.args) top.of ∙ ap (λ us. t ∷ us) k.of;
      left = top.left;
    }

pub taken_of : (ts : List ValueType) (vs : List Val) (types : Stack) → without ts (map type_of vs) ≡ Some types → Taken ts vs types
taken_of [] vs types e = record { args = []; rest = vs; is = refl; of = refl; left = some_is (map type_of vs) types e }
taken_of (t ∷ ts) vs types e = taken_more t ts vs types (taken_of ts vs (t ∷ types) (off_is t (without ts (map type_of vs)) types e))

-- ---- the types of variables

first_type : (o : Option ValueType) (p : Option (List ValueType)) (ts : List ValueType) → with_first_type o p ≡ Some ts
    → (t : ValueType) × (us : List ValueType) × (o ≡ Some t) × (p ≡ Some us) × (ts ≡ t ∷ us)
first_type (Some t) (Some us) ts e = (t, us, refl, refl, sym (some_is (t ∷ us) ts e))
first_type (Some t) None ts e = absurd (none_some ts e)
first_type None p ts e = absurd (none_some ts e)

pub types_length : (m : GraphMethod) (ns : List ℕ) (ts : List ValueType) → types_of_variables m ns ≡ Some ts → length ts ≡ length ns
types_length m [] ts e = ap length (sym (some_is {A = List ValueType} [] ts e))
types_length m (n ∷ ns) ts e =
    let k = first_type (type_of_variable m n) (types_of_variables m ns) ts e in
    ap length k.4 ∙ ap suc (types_length m ns k.1 k.3)

pub range_length : (a n : ℕ) → length (range_with_len a n) ≡ n
range_length a zero = refl
range_length a (suc n) = ap suc (range_length (a + 1) n)

type_is : (o : Option ValueType) (t : ValueType) (v : Val) → o ≡ Some t → type_of v ≡ t → is_type o v ≡ true
type_is o t v e h = ap (λ p. is_type p v) e ∙ is_same (type_of v) t h

pub values_have : (m : GraphMethod) (ns : List ℕ) (ts : List ValueType) (vs : List Val) → types_of_variables m ns ≡ Some ts → map type_of vs ≡ ts → has_types m ns vs ≡ true
values_have m [] ts [] e h = refl
values_have m [] ts (v ∷ vs) e h = let k = some_is {A = List ValueType} [] ts e in absurd (cc)
values_have m (n ∷ ns) ts [] e h =
    let k = (first_type (type_of_variable m n) (types_of_variables m ns) ts e).4 in absurd (cc)
values_have m (n ∷ ns) ts (v ∷ vs) e h =
    let k = first_type (type_of_variable m n) (types_of_variables m ns) ts e in
    let both : type_of v ∷ map type_of vs ≡ k.0 ∷ k.1 = h ∙ k.4 in
    and_true (is_type (type_of_variable m n) v) (has_types m ns vs) (type_is (type_of_variable m n) k.0 v k.2 (cc)) (values_have m ns k.1 vs k.3 (cc))
