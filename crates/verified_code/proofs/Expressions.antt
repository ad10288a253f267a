-- The code of a typed expression pushes a value of its type, and reads what is known.
use Rattle.std.proofs.Common.{◌≡◌, refl, sym, ap, subst, ◌∙◌, ℕ, suc, ◌+◌, arith, Bool, true, false, List, [], ◌∷◌, ◌++◌, map, length, length-append, Option, Some, None, slice_get, ◌⊎◌, inl, inr}
use Rattle.std.proofs.lemmas.Bool.{false≢true}
use Rattle.sdg_base.specs.declared.operator.BinOp.{BinOp}
use Rattle.sdg_base.specs.declared.operator.BinOp.TheVariants as bin
use Rattle.sdg_base.specs.declared.operator.UnOp.{UnOp}
use Rattle.sdg_base.specs.declared.operator.UnOp.TheVariants as un
use Rattle.sdg_base.specs.declared.val.Num.{Num}
use Rattle.sdg_base.specs.declared.value_type.ValueType.{ValueType}
use Rattle.sdg_base.specs.declared.value_type.ValueType.TheVariants as type
use Rattle.sdg_base.specs.Types.{binary_type, unary_type}
use Rattle.java_tree.specs.declared.method_kinds.MethodKind.{MethodKind}
use Rattle.java_tree.specs.declared.method_kinds.MethodKind.TheVariants as source_kind
use Rattle.flat_code.specs.declared.graph.GraphMethod.{GraphMethod}
use Rattle.flat_code.specs.declared.graph.Instr.{Instr}
use Rattle.flat_code.specs.declared.graph.Instr.TheVariants as instr
use Rattle.flat_code.specs.Types.{result_by, type_of_variable, members_of_variable}
use Rattle.flat_code.specs.Fits.{parameters}
use Rattle.flat_code.specs.Ways.{IsIn, next_of, reads}
use Rattle.flat_code.specs.Verified.{Stack, on_top, with_result, pushing, if_type, if_members, types_of_variables, without_all, called_type, merged_type, is_of_entry}
use Rattle.access_blocks.specs.declared.body.Expression.{Expression, roll-Expression}
use Rattle.access_blocks.specs.declared.body.Expression.TheOpen.{Expression-F}
use Rattle.access_blocks.specs.declared.body.Expression.TheOpen as e
use Rattle.access_blocks.specs.declared.body.Expression.TheFolds.{fold-roll-Expression, ind-Expression, map-Expression}
use Rattle.body_code.specs.declared.callee.Callee.{Callee}
use Rattle.body_code.specs.Typing.{Context, Needs, needs, needs_of_all, type_of, types_of, type_step, needs_step, variable_type, where_type, of_one, of_two, cast_type, chosen_type, and_then, with_type, all_types, called_by, merged_by, variable_alone, alike}
use Rattle.body_code.specs.Typing as typing
use Rattle.body_code.specs.Codes.{Code, plain, followed_by}
use Rattle.body_code.specs.Codes as codes
use Rattle.body_code.specs.ExpressionCode.{Lowered, lowered, lowered_step, code_of, behind, either, unary, binary, operand_of}
use Rattle.body_code.specs.ClassCode.{graph_kind}
use Rattle.body_code.specs.Checking.{Surroundings, Standing, has_key, takes_gathered}
use Rattle.verified_code.proofs.Labels.{Label, label, Setting, Knows, MayRead, IsKnown, IsCollection, Own, Takes, OfKind, Plainly, Made}
use Rattle.verified_code.proofs.Making.{only_one, in_none, Follows, one, none, both, within, if_else, turned, turning}
use Rattle.verified_code.proofs.Making as making
use Rattle.verified_code.proofs.Typed.{none_some, some_is, operates, and_also, unary_after, plus_same, casts, where_is, alike_is, called_is, is_value, are_values, pushed, without_pushed, and_left}
use Rattle.verified_code.proofs.Needed.{IsMet, met_left, met_right, one_known}

-- a method of the graph is as its callers know it
pub record Meets (s : Setting) (n : ℕ) (c : Callee) : Type 0 where
  pub of : GraphMethod
  pub is_method : slice_get s.graph.methods n ≡ Some of
  pub kind : of.kind ≡ graph_kind c.kind
  pub result : result_by of.result ≡ c.result
  pub values : are_values c.params ≡ true
  pub helper : c.kind ≡ source_kind.Helper → types_of_variables of (parameters of) ≡ Some c.params

-- the method and the class have what its body's expressions stand in
pub record Fitting (s : Setting) : Type 0 where
  pub variables : (v : ℕ) (t : ValueType) → variable_type s.around.context v ≡ Some t → type_of_variable s.of v ≡ Some t
  pub values : (v : ℕ) (t : ValueType) → variable_type s.around.context v ≡ Some t → is_value t ≡ true
  pub members : (t : ValueType) → s.around.context.members ≡ Some t → members_of_variable s.of 0 ≡ Some t
  pub member_values : (t : ValueType) → s.around.context.members ≡ Some t → is_value t ≡ true
  pub merging : (t : ValueType) → s.around.context.members ≡ Some t → s.around.kind ≡ source_kind.Merge
  pub methods : (n : ℕ) (c : Callee) → slice_get s.around.context.methods n ≡ Some c → Meets s n c

-- Only entry methods come to a block, or to what was gathered.
abbrev pub Proper : Setting → Standing → Type 0
Proper s st = (s.around.kind ≡ source_kind.Entry) ⊎ ((st.field ≡ None) × (st.gathered ≡ None))

abbrev pub Anywhere : (ℕ → Label) → Type 0
Anywhere lab = Unit {0}

pub record Coded (s : Setting) (code : Code) (T : Option ValueType) (n : Needs) : Type 0 where
  pub long : (at : ℕ) → length (code.from at) ≡ code.size
  pub made : (st : Standing) → Proper s st → IsMet s.around st n → (t : ValueType) → T ≡ Some t → (at : ℕ) (stack : Stack) (r : ℕ)
      → Made s Anywhere at (code.from at) st stack (label st (on_top t stack) r)

pub record Lowers (s : Setting) (l : Lowered) (T : Option ValueType) (n : Needs) : Type 0 where
  pub type : l.type ≡ T
  pub coded : Coded s l.code T n

-- ---- what has a type

one_is : (f : ValueType → Option ValueType) (o : Option ValueType) (u : ValueType) → of_one f o ≡ Some u → (a : ValueType) × (o ≡ Some a) × (f a ≡ Some u)
one_is f None u e = absurd (none_some u e)
one_is f (Some a) u e = (a, refl, e)

two_are : (f : ValueType → ValueType → Option ValueType) (o p : Option ValueType) (u : ValueType) → of_two f o p ≡ Some u → (a : ValueType) × (b : ValueType) × (o ≡ Some a) × (p ≡ Some b) × (f a b ≡ Some u)
two_are f None p u e = absurd (none_some u e)
two_are f (Some a) None u e = absurd (none_some u e)
two_are f (Some a) (Some b) u e = (a, b, refl, refl, e)

cast_is : (to : Num) (o : Option ValueType) (u : ValueType) → cast_type to o ≡ Some u → (a : ValueType) × (o ≡ Some a) × (cast_type to (Some a) ≡ Some u)
cast_is to None u e = absurd (none_some u e)
cast_is to (Some a) u e = (a, refl, e)

chosen_is : (o a b : Option ValueType) (u : ValueType) → chosen_type o a b ≡ Some u → (o ≡ Some type.Boolean) × (a ≡ Some u) × (b ≡ Some u)
chosen_is None a b u e = absurd (none_some u e)
chosen_is (Some type.Boolean) a b u e =
    let k = two_are alike a b u e in
    let same = alike_is k.0 k.1 u k.4 in
    (refl, k.2 ∙ ap Some same.0, k.3 ∙ ap Some same.1)
chosen_is (Some type.Int) a b u e = absurd (none_some u e)
chosen_is (Some type.Long) a b u e = absurd (none_some u e)
chosen_is (Some type.Vector) a b u e = absurd (none_some u e)
chosen_is (Some type.Void) a b u e = absurd (none_some u e)

and_is : (o p : Option ValueType) (u : ValueType) → and_then o p ≡ Some u → (a : ValueType) × (o ≡ Some a) × (p ≡ Some u)
and_is None p u e = absurd (none_some u e)
and_is (Some a) p u e = (a, refl, e)

pub with_is : (o : Option ValueType) (p : Option (List ValueType)) (us : List ValueType) → with_type o p ≡ Some us → (t : ValueType) × (ts : List ValueType) × (o ≡ Some t) × (p ≡ Some ts) × (t ∷ ts ≡ us)
with_is None p us e = absurd (none_some us e)
with_is (Some t) None us e = absurd (none_some us e)
with_is (Some t) (Some ts) us e = (t, ts, refl, refl, some_is (t ∷ ts) us e)

pub record CallOf (c : Option Callee) (args : Option (List ValueType)) (u : ValueType) : Type 0 where
  pub of : Callee
  pub is : c ≡ Some of
  pub helper : of.kind ≡ source_kind.Helper
  pub takes : args ≡ Some of.params
  pub gives : of.result ≡ u

called_by_is : (k : MethodKind) (params args : List ValueType) (result u : ValueType) → called_by k params result args ≡ Some u → (k ≡ source_kind.Helper) × (args ≡ params) × (result ≡ u)
called_by_is source_kind.Helper params args result u e = let h = called_is params result args u e in (refl, h.0, h.1)
called_by_is source_kind.Entry params args result u e = absurd (none_some u e)
called_by_is source_kind.Merge params args result u e = absurd (none_some u e)

call_is : (c : Option Callee) (args : Option (List ValueType)) (u : ValueType) → typing.called_type c args ≡ Some u → CallOf c args u
call_is None args u e = absurd (none_some u e)
call_is (Some c) None u e = absurd (none_some u e)
call_is (Some c) (Some ts) u e =
    let h = called_by_is c.kind c.params ts c.result u e in
    record { of = c; is = refl; helper = h.0; takes = ap Some h.1; gives = h.2 }

pub record MergeOf (c : Option Callee) (u : ValueType) : Type 0 where
  pub of : Callee
  pub is : c ≡ Some of
  pub merge : of.kind ≡ source_kind.Merge
  pub gives : of.result ≡ u

merged_by_is : (k : MethodKind) (result u : ValueType) → merged_by k result ≡ Some u → (k ≡ source_kind.Merge) × (result ≡ u)
merged_by_is source_kind.Merge result u e = (refl, some_is result u e)
merged_by_is source_kind.Entry result u e = absurd (none_some u e)
merged_by_is source_kind.Helper result u e = absurd (none_some u e)

merge_is : (c : Option Callee) (u : ValueType) → typing.merged_type c ≡ Some u → MergeOf c u
merge_is None u e = absurd (none_some u e)
merge_is (Some c) u e = let h = merged_by_is c.kind c.result u e in record { of = c; is = refl; merge = h.0; gives = h.1 }

no_field_no_key : (around : Surroundings) (field : Option ℕ) → field ≡ None → has_key around field ≡ true → ⊥
no_field_no_key around None e h = false≢true h
no_field_no_key around (Some f) e h = none_some f (sym e)

none_gathered : (around : Surroundings) (gathered : Option ValueType) (n : ℕ) → gathered ≡ None → takes_gathered around gathered n ≡ true → ⊥
none_gathered around None n e h = false≢true h
none_gathered around (Some t) n e h = none_some t (sym e)

module _ (s : Setting) (fit : Fitting s) where
  -- ---- one instruction

  -- an instruction that leaves what is known as it was
  simple : (at : ℕ) (i : Instr) (st : Standing) (stack after : Stack) (r : ℕ) → next_of at i ≡ suc at ∷ [] → Takes s i stack after → ((v : ℕ) → IsIn v (reads i) → MayRead s st v) → OfKind s i
      → ((lab : ℕ → Label) → lab at ≡ label st stack (suc r) → Own s lab at i) → Made s Anywhere at (i ∷ []) st stack (label st after r)
  simple at i st stack after r straight takes may_read kind own =
      one s Anywhere at i st stack (label st after r) straight
      (record { falls = omega arith; knows = λ v h. inl h; may_read = may_read; stays = λ next h. record { field = inr refl; gathered = inr refl; visit = refl }; takes = takes; kind = kind })
      own

  plainly : (lab : ℕ → Label) (at : ℕ) (st : Standing) (stack : Stack) (r : ℕ) → lab at ≡ label st stack r → (lab at).visit ≡ None
  plainly lab at st stack r is = ap (λ (l : Label). l.visit) is

  reads_nothing : (st : Standing) (v : ℕ) → IsIn v [] → MayRead s st v
  reads_nothing st v h = absurd (in_none v h)

  reads_one : (st : Standing) (w : ℕ) → Knows st w → (v : ℕ) → IsIn v (w ∷ []) → MayRead s st v
  reads_one st w known v h = subst (λ (n : ℕ). MayRead s st n) (sym (only_one v w h)) (IsKnown known)

  reads_members : (st : Standing) (t : ValueType) → s.around.context.members ≡ Some t → (v : ℕ) → IsIn v (0 ∷ []) → MayRead s st v
  reads_members st t is v h = IsCollection t is (only_one v 0 h)

  -- an instruction on what code has pushed
  on : (at k : ℕ) (code : List Instr) (i : Instr) (st : Standing) (stack middle after : Stack) (r : ℕ) → k ≡ at + length code → ((q : ℕ) → Made s Anywhere at code st stack (label st middle q))
      → Made s Anywhere k (i ∷ []) st middle (label st after r) → Made s Anywhere at (code ++ i ∷ []) st stack (label st after r)
  on at k code i st stack middle after r place front back = both s Anywhere at k code (i ∷ []) st st stack middle (label st after r) place back (front back.rank)

  two : (at k : ℕ) (xs ys : List Instr) (st : Standing) (stack middle after : Stack) (r : ℕ) → k ≡ at + length xs → ((q : ℕ) → Made s Anywhere at xs st stack (label st middle q))
      → Made s Anywhere k ys st middle (label st after r) → Made s Anywhere at (xs ++ ys) st stack (label st after r)
  two at k xs ys st stack middle after r place front back = both s Anywhere at k xs ys st st stack middle (label st after r) place back (front back.rank)

  pub behind_place : (code : Code) → ((at : ℕ) → length (code.from at) ≡ code.size) → (at : ℕ) → at + code.size ≡ at + length (code.from at)
  behind_place code long at = let e = long at in omega (arith, e)

  pub long_behind : (a : Code) (i : Instr) → ((at : ℕ) → length (a.from at) ≡ a.size) → (at : ℕ) → length ((behind a i).from at) ≡ (behind a i).size
  long_behind a i long at = let e = long at in let many = length-append (a.from at) (i ∷ []) in omega (arith, e, many)

  pub long_both : (a b : Code) → ((at : ℕ) → length (a.from at) ≡ a.size) → ((at : ℕ) → length (b.from at) ≡ b.size) → (at : ℕ) → length ((followed_by a b).from at) ≡ (followed_by a b).size
  long_both a b long_a long_b at = let e = long_a at in let f = long_b (at + a.size) in let many = length-append (a.from at) (b.from (at + a.size)) in omega (arith, e, f, many)

  -- ---- several

  abbrev pub AllCoded : List Code → List (Option ValueType) → List Needs → Type 0
  AllCoded [] [] [] = Unit {0}
  AllCoded (c ∷ cs) (t ∷ ts) (n ∷ ns) = Coded s c t n × AllCoded cs ts ns
  AllCoded _ _ _ = ⊥

  pub all_long : (cs : List Code) (ts : List (Option ValueType)) (ns : List Needs) → AllCoded cs ts ns → (at : ℕ) → length ((codes.all_of cs).from at) ≡ (codes.all_of cs).size
  all_long [] [] [] h at = refl
  all_long (c ∷ cs) (t ∷ ts) (n ∷ ns) h at = long_both c (codes.all_of cs) h.0.long (all_long cs ts ns h.1) at
  all_long [] [] (n ∷ ns) h at = absurd h
  all_long [] (t ∷ ts) ns h at = absurd h
  all_long (c ∷ cs) [] ns h at = absurd h
  all_long (c ∷ cs) (t ∷ ts) [] h at = absurd h

  pub all_made : (cs : List Code) (ts : List (Option ValueType)) (ns : List Needs) → AllCoded cs ts ns → (st : Standing) → Proper s st → IsMet s.around st (typing.all_of ns) → (us : List ValueType) → all_types ts ≡ Some us
      → (at : ℕ) (stack : Stack) (r : ℕ) → Made s Anywhere at ((codes.all_of cs).from at) st stack (label st (pushed us stack) r)
  all_made [] [] [] h st proper met us is at stack r = subst (λ (vs : List ValueType). Made s Anywhere at [] st stack (label st (pushed vs stack) r)) (some_is {A = List ValueType} [] us is) (none s Anywhere at st stack r)
  all_made (c ∷ cs) (t ∷ ts) (n ∷ ns) h st proper met us is at stack r =
      let k = with_is t (all_types ts) us is in
      let rest = all_made cs ts ns h.1 st proper (met_right s.around st n (typing.all_of ns) met) k.1 k.3 (at + c.size) (on_top k.0 stack) r in
      subst (λ (vs : List ValueType). Made s Anywhere at ((codes.all_of (c ∷ cs)).from at) st stack (label st (pushed vs stack) r)) k.4
      (two at (at + c.size) (c.from at) ((codes.all_of cs).from (at + c.size)) st stack (on_top k.0 stack) (pushed k.1 (on_top k.0 stack)) r (behind_place c h.0.long at)
      (λ q. h.0.made st proper (met_left s.around st n (typing.all_of ns) met) k.0 k.2 at stack q) rest)
  all_made [] [] (n ∷ ns) h st proper met us is at stack r = absurd h
  all_made [] (t ∷ ts) ns h st proper met us is at stack r = absurd h
  all_made (c ∷ cs) [] ns h st proper met us is at stack r = absurd h
  all_made (c ∷ cs) (t ∷ ts) [] h st proper met us is at stack r = absurd h

  -- ---- what an expression gives

  giving : (at : ℕ) (code : List Instr) (st : Standing) (stack : Stack) (r : ℕ) (u t : ValueType) → u ≡ t → Made s Anywhere at code st stack (label st (on_top u stack) r) → Made s Anywhere at code st stack (label st (on_top t stack) r)
  giving at code st stack r u t e h = subst (λ (w : ValueType). Made s Anywhere at code st stack (label st (on_top w stack) r)) e h

  constant : (i : Instr) (u : ValueType) (n : Needs) → ((at : ℕ) → next_of at i ≡ suc at ∷ []) → ((stack : Stack) → Takes s i stack (on_top u stack)) → ((v : ℕ) → IsIn v (reads i) → ⊥) → OfKind s i
      → ((lab : ℕ → Label) (at : ℕ) → (lab at).visit ≡ None → Own s lab at i) → Coded s (plain (i ∷ [])) (Some u) n
  constant i u n straight takes nothing kind own = record {
    long = λ at. refl;
    made = λ st proper met t is at stack r. giving at (i ∷ []) st stack r u t (some_is u t is)
        (simple at i st stack (on_top u stack) r (straight at) (takes stack) (λ v h. absurd (nothing v h)) kind (λ lab here. own lab at (plainly lab at st stack (suc r) here)));
  }

  -- an instruction on the value of an operand
  operand : (code : Code) (T U : Option ValueType) (n : Needs) (i : Instr) → Coded s code T n → ((at : ℕ) → next_of at i ≡ suc at ∷ [])
      → ((t : ValueType) → U ≡ Some t → (a : ValueType) × (T ≡ Some a) × ((stack : Stack) → Takes s i (on_top a stack) (on_top t stack)))
      → ((st : Standing) → IsMet s.around st n → (v : ℕ) → IsIn v (reads i) → MayRead s st v) → ((t : ValueType) → U ≡ Some t → OfKind s i) → ((lab : ℕ → Label) (at : ℕ) → (lab at).visit ≡ None → Own s lab at i)
      → Coded s (behind code i) U n
  operand code T U n i a straight typed may_read kind own = record {
    long = long_behind code i a.long;
    made = λ st proper met t is at stack r.
        (let k = typed t is in
        on at (at + code.size) (code.from at) i st stack (on_top k.0 stack) (on_top t stack) r (behind_place code a.long at) (λ q. a.made st proper met k.0 k.1 at stack q)
        (simple (at + code.size) i st (on_top k.0 stack) (on_top t stack) r (straight (at + code.size)) (k.2 stack) (may_read st met) (kind t is) (λ lab here. own lab (at + code.size) (plainly lab (at + code.size) st (on_top k.0 stack) (suc r) here))));
  }

  unary_coded : (op : UnOp) (code : Code) (T : Option ValueType) (n : Needs) → Coded s code T n → Coded s (unary op code) (of_one (unary_type op) T) n
  unary_coded un.Plus code T n a = record {
    long = a.long;
    made = λ st proper met t is at stack r. (let k = one_is (unary_type un.Plus) T t is in giving at (code.from at) st stack r k.0 t (plus_same k.0 t k.2) (a.made st proper met k.0 k.1 at stack r));
  }
  unary_coded un.Minus code T n a =
      operand code T (of_one (unary_type un.Minus) T) n (instr.Un un.Minus) a (λ at. refl) (λ t is. (let k = one_is (unary_type un.Minus) T t is in (k.0, k.1, λ stack. unary_after s.graph s.of un.Minus k.0 t stack k.2)))
      (λ st met v h. absurd (in_none v h)) (λ t is. making.plain s (instr.Un un.Minus) refl refl) (λ lab at p. p)
  unary_coded un.Complement code T n a =
      operand code T (of_one (unary_type un.Complement) T) n (instr.Un un.Complement) a (λ at. refl) (λ t is. (let k = one_is (unary_type un.Complement) T t is in (k.0, k.1, λ stack. unary_after s.graph s.of un.Complement k.0 t stack k.2)))
      (λ st met v h. absurd (in_none v h)) (λ t is. making.plain s (instr.Un un.Complement) refl refl) (λ lab at p. p)
  unary_coded un.Not code T n a =
      operand code T (of_one (unary_type un.Not) T) n (instr.Un un.Not) a (λ at. refl) (λ t is. (let k = one_is (unary_type un.Not) T t is in (k.0, k.1, λ stack. unary_after s.graph s.of un.Not k.0 t stack k.2)))
      (λ st met v h. absurd (in_none v h)) (λ t is. making.plain s (instr.Un un.Not) refl refl) (λ lab at p. p)

  -- ---- one of two

  pub either_long : (x y : Code) → ((at : ℕ) → length (x.from at) ≡ x.size) → ((at : ℕ) → length (y.from at) ≡ y.size) → (at : ℕ) → length ((either x y).from at) ≡ (either x y).size
  either_long x y long_x long_y at =
      let e = long_x (at + 1) in
      let f = long_y (at + x.size + 2) in
      let many = length-append (x.from (at + 1)) (instr.Jump (at + x.size + y.size + 2) ∷ y.from (at + x.size + 2)) in
      omega (arith, e, f, many)

  either_made : (x y : Code) → ((at : ℕ) → length (x.from at) ≡ x.size) → ((at : ℕ) → length (y.from at) ≡ y.size) → (st : Standing) (stack left : Stack)
      → ((at q : ℕ) → Made s Anywhere at (x.from at) st stack (label st left q)) → ((at q : ℕ) → Made s Anywhere at (y.from at) st stack (label st left q))
      → (k r : ℕ) → Made s Anywhere k ((either x y).from k) st (type.Boolean ∷ stack) (label st left r)
  either_made x y long_x long_y st stack left first second k r =
      let e = long_x (k + 1) in
      let f = long_y (k + x.size + 2) in
      if_else s Anywhere k (k + 1) (k + x.size + 2) (k + x.size + y.size + 2) (x.from (k + 1)) (y.from (k + x.size + 2)) st st stack left r (omega arith) (omega (arith, e)) (omega (arith, f))
      (first (k + 1) (suc r)) (second (k + x.size + 2) r)

  pub false_code : Code
  false_code = plain (instr.Bool false ∷ [])

  boolean_made : (b : Bool) (st : Standing) (stack : Stack) (at q : ℕ) → Made s Anywhere at ((plain (instr.Bool b ∷ [])).from at) st stack (label st (type.Boolean ∷ stack) q)
  boolean_made b st stack at q = simple at (instr.Bool b) st stack (type.Boolean ∷ stack) q refl refl (reads_nothing st) (making.plain s (instr.Bool b) refl refl) (λ lab here. plainly lab at st stack (suc q) here)

  condition : (test x y : Code) (T : Option ValueType) (n : Needs) → Coded s test T n → T ≡ Some type.Boolean → ((at : ℕ) → length (x.from at) ≡ x.size) → ((at : ℕ) → length (y.from at) ≡ y.size)
      → (st : Standing) (stack left : Stack) → Proper s st → IsMet s.around st n → ((at q : ℕ) → Made s Anywhere at (x.from at) st stack (label st left q)) → ((at q : ℕ) → Made s Anywhere at (y.from at) st stack (label st left q))
      → (at r : ℕ) → Made s Anywhere at ((followed_by test (either x y)).from at) st stack (label st left r)
  condition test x y T n a is long_x long_y st stack left proper met first second at r =
      two at (at + test.size) (test.from at) ((either x y).from (at + test.size)) st stack (type.Boolean ∷ stack) left r (behind_place test a.long at)
      (λ q. a.made st proper met type.Boolean is at stack q) (either_made x y long_x long_y st stack left first second (at + test.size) r)

  -- ---- two operands

  abbrev TwoCoded : BinOp → Lowered → Lowered → Option ValueType → Option ValueType → Needs → Needs → Type 0
  TwoCoded op a b T U m n = Coded s (binary op a b) (of_two (binary_type op) T U) (typing.both m n)

  operated : (op : BinOp) (a b : Lowered) (T U : Option ValueType) (m n : Needs) → Lowers s a T m → Lowers s b U n → Coded s (behind (followed_by a.code b.code) (instr.Bin op (operand_of a.type))) (of_two (binary_type op) T U) (typing.both m n)
  operated op a b T U m n h k = record {
    long = long_behind (followed_by a.code b.code) (instr.Bin op (operand_of a.type)) (long_both a.code b.code h.coded.long k.coded.long);
    made = λ st proper met t is at stack r.
        (let w = two_are (binary_type op) T U t is in
        let i = instr.Bin op (operand_of a.type) in
        let front = followed_by a.code b.code in
        let place = at + front.size in
        let takes : Takes s i (on_top w.1 (on_top w.0 stack)) (on_top t stack) =
        subst (λ (o : Option ValueType). Takes s (instr.Bin op (operand_of o)) (on_top w.1 (on_top w.0 stack)) (on_top t stack)) (sym (h.type ∙ w.2)) (operates s.graph s.of op w.0 w.1 t stack w.4) in
        on at place (front.from at) i st stack (on_top w.1 (on_top w.0 stack)) (on_top t stack) r (behind_place front (long_both a.code b.code h.coded.long k.coded.long) at)
        (λ q. two at (at + a.code.size) (a.code.from at) (b.code.from (at + a.code.size)) st stack (on_top w.0 stack) (on_top w.1 (on_top w.0 stack)) q (behind_place a.code h.coded.long at)
        (λ p. h.coded.made st proper (met_left s.around st m n met) w.0 w.2 at stack p)
        (k.coded.made st proper (met_right s.around st m n met) w.1 w.3 (at + a.code.size) (on_top w.0 stack) q))
        (simple place i st (on_top w.1 (on_top w.0 stack)) (on_top t stack) r refl takes (reads_nothing st) (making.plain s i refl refl) (λ lab here. plainly lab place st (on_top w.1 (on_top w.0 stack)) (suc r) here)));
  }

  binary_coded : (op : BinOp) (a b : Lowered) (T U : Option ValueType) (m n : Needs) → Lowers s a T m → Lowers s b U n → TwoCoded op a b T U m n
  binary_coded bin.AndAlso a b T U m n h k = record {
    long = long_both a.code (either b.code (plain (instr.Bool false ∷ []))) h.coded.long (either_long b.code (plain (instr.Bool false ∷ [])) k.coded.long (λ at. refl));
    made = λ st proper met t is at stack r.
        (let w = two_are (binary_type bin.AndAlso) T U t is in
        let c = and_also w.0 w.1 t w.4 in
        let second : U ≡ Some type.Boolean = w.3 ∙ ap Some c.1 in
        giving at ((binary bin.AndAlso a b).from at) st stack r type.Boolean t (sym c.2)
        (condition a.code b.code (plain (instr.Bool false ∷ [])) T m h.coded (w.2 ∙ ap Some c.0) k.coded.long (λ p. refl) st stack (type.Boolean ∷ stack) proper (met_left s.around st m n met)
        (λ p q. k.coded.made st proper (met_right s.around st m n met) type.Boolean second p stack q) (boolean_made false st stack) at r));
  }
  binary_coded bin.OrElse a b T U m n h k = record {
    long = long_both a.code (either (plain (instr.Bool true ∷ [])) b.code) h.coded.long (either_long (plain (instr.Bool true ∷ [])) b.code (λ at. refl) k.coded.long);
    made = λ st proper met t is at stack r.
        (let w = two_are (binary_type bin.OrElse) T U t is in
        let c = and_also w.0 w.1 t w.4 in
        let second : U ≡ Some type.Boolean = w.3 ∙ ap Some c.1 in
        giving at ((binary bin.OrElse a b).from at) st stack r type.Boolean t (sym c.2)
        (condition a.code (plain (instr.Bool true ∷ [])) b.code T m h.coded (w.2 ∙ ap Some c.0) (λ p. refl) k.coded.long st stack (type.Boolean ∷ stack) proper (met_left s.around st m n met)
        (boolean_made true st stack) (λ p q. k.coded.made st proper (met_right s.around st m n met) type.Boolean second p stack q) at r));
  }
  binary_coded op a b T U m n h k = operated op a b T U m n h k

  -- ---- calls

  called_takes : (n : ℕ) (c : Callee) (t : ValueType) (stack : Stack) → Meets s n c → c.kind ≡ source_kind.Helper → c.result ≡ t → Takes s (instr.Call n) (pushed c.params stack) (on_top t stack)
  called_takes n c t stack m helper gives =
      let result : result_by m.of.result ≡ t = m.result ∙ gives in
      ap (λ o. called_type o (pushed c.params stack)) m.is_method
      ∙ ap (λ o. with_result (result_by m.of.result) (without_all o (pushed c.params stack))) (m.helper helper)
      ∙ ap (λ o. with_result (result_by m.of.result) o) (without_pushed c.params stack m.values)
      ∙ ap (λ w. Some (on_top w stack)) result

  call_coded : (n : ℕ) (cs : List Code) (ts : List (Option ValueType)) (ns : List Needs) → AllCoded cs ts ns
      → Coded s (followed_by (codes.all_of cs) (plain (instr.Turn ∷ instr.Call n ∷ []))) (typing.called_type (slice_get s.around.context.methods n) (all_types ts)) (typing.all_of ns)
  call_coded n cs ts ns h = record {
    long = long_both (codes.all_of cs) (plain (instr.Turn ∷ instr.Call n ∷ [])) (all_long cs ts ns h) (λ at. refl);
    made = λ st proper met t is at stack r.
        (let c = call_is (slice_get s.around.context.methods n) (all_types ts) t is in
        let m = fit.methods n c.of c.is in
        let all = codes.all_of cs in
        let place = at + all.size in
        let top = pushed c.of.params stack in
        two at place (all.from at) (instr.Turn ∷ instr.Call n ∷ []) st stack top (on_top t stack) r (behind_place all (all_long cs ts ns h) at)
        (λ q. all_made cs ts ns h st proper met c.of.params c.takes at stack q)
        (turned s Anywhere place (instr.Call n) st top (label st (on_top t stack) r) refl
        (record {
          falls = omega arith;
          knows = λ v k. inl k;
          may_read = λ v k. absurd (in_none v k);
          stays = λ next k. record { field = inr refl; gathered = inr refl; visit = refl };
          takes = called_takes n c.of t stack m c.helper c.gives;
          kind = making.plain s (instr.Call n) refl refl;
        })
        (λ lab here behind. record {
          helps = record { of = m.of; is_method = m.is_method; is_kind = m.kind ∙ ap graph_kind c.helper };
          plain = ap (λ (l : Label). l.visit) here;
          turned = ap (λ (l : Label). l.behind) here;
        })));
  }

  merge_coded : (n : ℕ) → Coded s (plain (instr.Turn ∷ instr.Merge n ∷ [])) (typing.merged_type (slice_get s.around.context.methods n)) (typing.merge_alone n)
  merge_coded n = record {
    long = λ at. refl;
    made = λ st proper met t is at stack r.
        (let c = merge_is (slice_get s.around.context.methods n) t is in
        let m = fit.methods n c.of c.is in
        let gathered : takes_gathered s.around st.gathered n ≡ true = and_left (takes_gathered s.around st.gathered n) true met.merges in
        turned s Anywhere at (instr.Merge n) st stack (label st (on_top t stack) r) refl
        (record {
          falls = omega arith;
          knows = λ v k. inl k;
          may_read = λ v k. absurd (in_none v k);
          stays = λ next k. record { field = inr refl; gathered = inr refl; visit = refl };
          takes = ap (λ o. merged_type o stack) m.is_method ∙ ap (λ w. Some (on_top w stack)) (m.result ∙ c.gives);
          kind = record {
            entry = λ k. elim proper [ inl entry ↦ entry | inr none ↦ absurd (none_gathered s.around st.gathered n none.1 gathered) ];
            merge = λ k. absurd (false≢true k);
          };
        })
        (λ lab here behind. record {
          gathered = subst (λ (l : Label). takes_gathered s.around l.standing.gathered n ≡ true) (sym here) gathered;
          merges = record { of = m.of; is_method = m.is_method; is_kind = m.kind ∙ ap graph_kind c.merge };
          plain = ap (λ (l : Label). l.visit) here;
          turned = ap (λ (l : Label). l.behind) here;
        }));
  }

  -- ---- all expressions

  abbrev c : Context
  c = s.around.context

  abbrev Good : Expression → Type 0
  Good x = Lowers s (lowered c x) (type_of c x) (needs x)

  abbrev Part : Type 0
  Part = (x : Expression) × Good x

  abbrev bare : Expression-F Part → Expression-F Expression
  bare = map-Expression Part Expression (λ p. p.0)

  abbrev bares : List Part → List Expression
  bares ps = map (λ (p : Part). p.0) ps

  parts_coded : (ps : List Part) → AllCoded (map (λ (l : Lowered). l.code) (map (lowered c) (bares ps))) (map (type_of c) (bares ps)) (map needs (bares ps))
  parts_coded [] = tt
  parts_coded (p ∷ ps) = (p.1.coded, parts_coded ps)

  parts_types : (ps : List Part) → map (λ (l : Lowered). l.type) (map (lowered c) (bares ps)) ≡ map (type_of c) (bares ps)
  parts_types [] = refl
  parts_types (p ∷ ps) =
      ap (λ (o : Option ValueType). o ∷ map (λ (l : Lowered). l.type) (map (lowered c) (bares ps))) p.1.type ∙ ap (λ (os : List (Option ValueType)). type_of c p.0 ∷ os) (parts_types ps)

  variable_code : (i : Instr) (v : ℕ) (U : Option ValueType) → ((at : ℕ) → next_of at i ≡ suc at ∷ []) → ((t : ValueType) → U ≡ Some t → (stack : Stack) → Takes s i stack (on_top t stack)) → reads i ≡ v ∷ [] → OfKind s i
      → ((lab : ℕ → Label) (at : ℕ) → (lab at).visit ≡ None → Own s lab at i) → Coded s (plain (i ∷ [])) U (variable_alone v)
  variable_code i v U straight takes reading kind own = record {
    long = λ at. refl;
    made = λ st proper met t is at stack r.
        simple at i st stack (on_top t stack) r (straight at) (takes t is stack)
        (λ w h. reads_one st v (one_known s.around st v (variable_alone v) met refl) w (subst (λ (ns : List ℕ). IsIn w ns) reading h)) kind (λ lab here. own lab at (plainly lab at st stack (suc r) here));
  }

  key_coded : Coded s (plain (instr.Key ∷ [])) (Some type.Long) typing.key_alone
  key_coded = record {
    long = λ at. refl;
    made = λ st proper met t is at stack r.
        (let keyed : has_key s.around st.field ≡ true = met.key in
        giving at (instr.Key ∷ []) st stack r type.Long t (some_is type.Long t is)
        (simple at instr.Key st stack (type.Long ∷ stack) r refl refl (reads_nothing st)
        (record {
          entry = λ k. elim proper [ inl entry ↦ entry | inr none ↦ absurd (no_field_no_key s.around st.field none.0 keyed) ];
          merge = λ k. absurd (false≢true k);
        })
        (λ lab here. record {
          keyed = subst (λ (l : Label). has_key s.around l.standing.field ≡ true) (sym here) keyed;
          plain = plainly lab at st stack (suc r) here;
        })));
  }

  members_kind : (i : Instr) (t : ValueType) → c.members ≡ Some t → is_of_entry i ≡ false → OfKind s i
  members_kind i t is e = record { entry = λ h. absurd (false≢true (sym e ∙ h)); merge = λ h. fit.merging t is }

  length_coded : Coded s (plain (instr.CollectionLength 0 ∷ [])) (and_then c.members (Some type.Int)) typing.nothing
  length_coded = record {
    long = λ at. refl;
    made = λ st proper met t is at stack r.
        (let k = and_is c.members (Some type.Int) t is in
        giving at (instr.CollectionLength 0 ∷ []) st stack r type.Int t (some_is type.Int t k.2)
        (simple at (instr.CollectionLength 0) st stack (type.Int ∷ stack) r refl (ap (λ o. if_members o (Some (type.Int ∷ stack))) (fit.members k.0 k.1))
        (reads_members st k.0 k.1) (members_kind (instr.CollectionLength 0) k.0 k.1 refl) (λ lab here. plainly lab at st stack (suc r) here)));
  }

  gathered_coded : (code : Code) (T : Option ValueType) (n : Needs) → Coded s code T n → Coded s (behind code (instr.CollectionItem 0)) (and_then (where_type T type.Int type.Int) c.members) n
  gathered_coded code T n a = record {
    long = long_behind code (instr.CollectionItem 0) a.long;
    made = λ st proper met t is at stack r.
        (let k = and_is (where_type T type.Int type.Int) c.members t is in
        let index = (where_is T type.Int type.Int k.0 k.1).0 in
        let place = at + code.size in
        on at place (code.from at) (instr.CollectionItem 0) st stack (type.Int ∷ stack) (on_top t stack) r (behind_place code a.long at) (λ q. a.made st proper met type.Int index at stack q)
        (simple place (instr.CollectionItem 0) st (type.Int ∷ stack) (on_top t stack) r refl (ap (λ o. pushing o (Some stack)) (fit.members t k.2))
        (reads_members st t k.2) (members_kind (instr.CollectionItem 0) t k.2 refl) (λ lab here. plainly lab place st (type.Int ∷ stack) (suc r) here)));
  }

  gathered_size_coded : (code : Code) (T : Option ValueType) (n : Needs) → Coded s code T n → Coded s (behind code (instr.CollectionSize 0)) (and_then (where_type T type.Int type.Int) (where_type c.members type.Vector type.Int)) n
  gathered_size_coded code T n a = record {
    long = long_behind code (instr.CollectionSize 0) a.long;
    made = λ st proper met t is at stack r.
        (let k = and_is (where_type T type.Int type.Int) (where_type c.members type.Vector type.Int) t is in
        let index = (where_is T type.Int type.Int k.0 k.1).0 in
        let vector = where_is c.members type.Vector type.Int t k.2 in
        let place = at + code.size in
        giving at ((behind code (instr.CollectionSize 0)).from at) st stack r type.Int t vector.1
        (on at place (code.from at) (instr.CollectionSize 0) st stack (type.Int ∷ stack) (type.Int ∷ stack) r (behind_place code a.long at) (λ q. a.made st proper met type.Int index at stack q)
        (simple place (instr.CollectionSize 0) st (type.Int ∷ stack) (type.Int ∷ stack) r refl (ap (λ o. if_type o type.Vector (Some (type.Int ∷ stack))) (fit.members type.Vector vector.0))
        (reads_members st type.Vector vector.0) (members_kind (instr.CollectionSize 0) type.Vector vector.0 refl) (λ lab here. plainly lab place st (type.Int ∷ stack) (suc r) here))));
  }

  gathered_element_coded : (at_code index : Code) (T U : Option ValueType) (m n : Needs) → Coded s at_code T m → Coded s index U n
      → Coded s (behind (followed_by (behind at_code (instr.CollectionCheck 0)) index) (instr.CollectionGet 0))
      (and_then (where_type T type.Int type.Int) (and_then (where_type c.members type.Vector type.Long) (where_type U type.Int type.Long))) (typing.both m n)
  gathered_element_coded at_code index T U m n a b =
      let checked = behind at_code (instr.CollectionCheck 0) in
      let front = followed_by checked index in
      let long_checked = long_behind at_code (instr.CollectionCheck 0) a.long in
      let long_front = long_both checked index long_checked b.long in
      record {
        long = long_behind front (instr.CollectionGet 0) long_front;
        made = λ st proper met t is at stack r.
            (let k = and_is (where_type T type.Int type.Int) (and_then (where_type c.members type.Vector type.Long) (where_type U type.Int type.Long)) t is in
            let l = and_is (where_type c.members type.Vector type.Long) (where_type U type.Int type.Long) t k.2 in
            let first = (where_is T type.Int type.Int k.0 k.1).0 in
            let vector = (where_is c.members type.Vector type.Long l.0 l.1).0 in
            let second = where_is U type.Int type.Long t l.2 in
            let place = at + at_code.size in
            let after = at + checked.size in
            let end = at + front.size in
            let one_int = type.Int ∷ stack in
            let two_ints = type.Int ∷ type.Int ∷ stack in
            giving at ((behind front (instr.CollectionGet 0)).from at) st stack r type.Long t second.1
            (on at end (front.from at) (instr.CollectionGet 0) st stack two_ints (type.Long ∷ stack) r (behind_place front long_front at)
            (λ q. two at after (checked.from at) (index.from after) st stack one_int two_ints q (behind_place checked long_checked at)
            (λ p. on at place (at_code.from at) (instr.CollectionCheck 0) st stack one_int one_int p (behind_place at_code a.long at)
            (λ o. a.made st proper (met_left s.around st m n met) type.Int first at stack o)
            (simple place (instr.CollectionCheck 0) st one_int one_int p refl (ap (λ o. if_members o (Some one_int)) (fit.members type.Vector vector))
            (reads_members st type.Vector vector) (members_kind (instr.CollectionCheck 0) type.Vector vector refl) (λ lab here. plainly lab place st one_int (suc p) here)))
            (b.made st proper (met_right s.around st m n met) type.Int second.0 after one_int q))
            (simple end (instr.CollectionGet 0) st two_ints (type.Long ∷ stack) r refl (ap (λ o. if_type o type.Vector (Some (type.Long ∷ stack))) (fit.members type.Vector vector))
            (reads_members st type.Vector vector) (members_kind (instr.CollectionGet 0) type.Vector vector refl) (λ lab here. plainly lab end st two_ints (suc r) here))));
      }

  vector_element_coded : (v : ℕ) (code : Code) (T : Option ValueType) (n : Needs) → Coded s code T n
      → Coded s (behind code (instr.VectorGet v)) (and_then (where_type (variable_type c v) type.Vector type.Long) (where_type T type.Int type.Long)) (typing.both n (variable_alone v))
  vector_element_coded v code T n a = record {
    long = long_behind code (instr.VectorGet v) a.long;
    made = λ st proper met t is at stack r.
        (let k = and_is (where_type (variable_type c v) type.Vector type.Long) (where_type T type.Int type.Long) t is in
        let vector = (where_is (variable_type c v) type.Vector type.Long k.0 k.1).0 in
        let index = where_is T type.Int type.Long t k.2 in
        let place = at + code.size in
        giving at ((behind code (instr.VectorGet v)).from at) st stack r type.Long t index.1
        (on at place (code.from at) (instr.VectorGet v) st stack (type.Int ∷ stack) (type.Long ∷ stack) r (behind_place code a.long at) (λ q. a.made st proper (met_left s.around st n (variable_alone v) met) type.Int index.0 at stack q)
        (simple place (instr.VectorGet v) st (type.Int ∷ stack) (type.Long ∷ stack) r refl (ap (λ o. if_type o type.Vector (Some (type.Long ∷ stack))) (fit.variables v type.Vector vector))
        (reads_one st v (one_known s.around st v (variable_alone v) (met_right s.around st n (variable_alone v) met) refl)) (making.plain s (instr.VectorGet v) refl refl) (λ lab here. plainly lab place st (type.Int ∷ stack) (suc r) here))));
  }

  chosen_coded : (test a b : Code) (T U V : Option ValueType) (m n o : Needs) → Coded s test T m → Coded s a U n → Coded s b V o → Coded s (followed_by test (either a b)) (chosen_type T U V) (typing.both m (typing.both n o))
  chosen_coded test a b T U V m n o h k l = record {
    long = long_both test (either a b) h.long (either_long a b k.long l.long);
    made = λ st proper met t is at stack r.
        (let w = chosen_is T U V t is in
        let rest = met_right s.around st m (typing.both n o) met in
        condition test a b T m h w.0 k.long l.long st stack (on_top t stack) proper (met_left s.around st m (typing.both n o) met)
        (λ p q. k.made st proper (met_left s.around st n o rest) t w.1 p stack q) (λ p q. l.made st proper (met_right s.around st n o rest) t w.2 p stack q) at r);
  }

  layer : (y : Expression-F Part) → Lowers s (lowered_step c (map-Expression Expression Lowered (lowered c) (bare y))) (type_step c (map-Expression Expression (Option ValueType) (type_of c) (bare y))) (needs_step (map-Expression Expression Needs needs (bare y)))
  layer e.Nothing = record { type = refl; coded = record { long = λ at. refl; made = λ st proper met t is at stack r. absurd (none_some t is) } }
  layer (e.Int n) = record { type = refl; coded = constant (instr.Int n) type.Int typing.nothing (λ at. refl) (λ stack. refl) in_none (making.plain s (instr.Int n) refl refl) (λ lab at p. p) }
  layer (e.Long n) = record { type = refl; coded = constant (instr.Long n) type.Long typing.nothing (λ at. refl) (λ stack. refl) in_none (making.plain s (instr.Long n) refl refl) (λ lab at p. p) }
  layer (e.Bool b) = record { type = refl; coded = constant (instr.Bool b) type.Boolean typing.nothing (λ at. refl) (λ stack. refl) in_none (making.plain s (instr.Bool b) refl refl) (λ lab at p. p) }
  layer (e.Variable v) = record {
    type = refl;
    coded = variable_code (instr.Load v) v (variable_type c v) (λ at. refl) (λ t is stack. ap (λ o. pushing o (Some stack)) (fit.variables v t is)) refl (making.plain s (instr.Load v) refl refl) (λ lab at p. Plainly p);
  }
  layer e.CarriedKey = record { type = refl; coded = key_coded }
  layer (e.Unary op a) = record { type = ap (of_one (unary_type op)) a.1.type; coded = unary_coded op (lowered c a.0).code (type_of c a.0) (needs a.0) a.1.coded }
  layer (e.Binary op a b) = record {
    type = ap (λ o. of_two (binary_type op) o (lowered c b.0).type) a.1.type ∙ ap (λ o. of_two (binary_type op) (type_of c a.0) o) b.1.type;
    coded = binary_coded op (lowered c a.0) (lowered c b.0) (type_of c a.0) (type_of c b.0) (needs a.0) (needs b.0) a.1 b.1;
  }
  layer (e.Cast to a) = record {
    type = ap (cast_type to) a.1.type;
    coded = operand (lowered c a.0).code (type_of c a.0) (cast_type to (type_of c a.0)) (needs a.0) (instr.Cast to) a.1.coded (λ at. refl)
        (λ t is. (let k = cast_is to (type_of c a.0) t is in (k.0, k.1, λ stack. casts s.graph s.of to k.0 t stack k.2)))
        (λ st met v h. absurd (in_none v h)) (λ t is. making.plain s (instr.Cast to) refl refl) (λ lab at p. p);
  }
  layer (e.Conditional test a b) = record {
    type = ap (λ o. chosen_type o (lowered c a.0).type (lowered c b.0).type) test.1.type ∙ ap (λ o. chosen_type (type_of c test.0) o (lowered c b.0).type) a.1.type ∙ ap (λ o. chosen_type (type_of c test.0) (type_of c a.0) o) b.1.type;
    coded = chosen_coded (lowered c test.0).code (lowered c a.0).code (lowered c b.0).code (type_of c test.0) (type_of c a.0) (type_of c b.0) (needs test.0) (needs a.0) (needs b.0) test.1.coded a.1.coded b.1.coded;
  }
  layer (e.NewVector n) = record {
    type = ap (λ o. where_type o type.Int type.Vector) n.1.type;
    coded = operand (lowered c n.0).code (type_of c n.0) (where_type (type_of c n.0) type.Int type.Vector) (needs n.0) instr.NewVector n.1.coded (λ at. refl)
        (λ t is. (let k = where_is (type_of c n.0) type.Int type.Vector t is in (type.Int, k.0, λ stack. ap (λ w. Some (on_top w stack)) k.1)))
        (λ st met v h. absurd (in_none v h)) (λ t is. making.plain s instr.NewVector refl refl) (λ lab at p. p);
  }
  layer (e.VectorSize v) = record {
    type = refl;
    coded = variable_code (instr.VectorSize v) v (where_type (variable_type c v) type.Vector type.Int) (λ at. refl)
        (λ t is stack. (let k = where_is (variable_type c v) type.Vector type.Int t is in ap (λ o. if_type o type.Vector (Some (type.Int ∷ stack))) (fit.variables v type.Vector k.0) ∙ ap (λ w. Some (on_top w stack)) k.1))
        refl (making.plain s (instr.VectorSize v) refl refl) (λ lab at p. p);
  }
  layer (e.VectorElement v at) = record {
    type = ap (λ o. and_then (where_type (variable_type c v) type.Vector type.Long) (where_type o type.Int type.Long)) at.1.type;
    coded = vector_element_coded v (lowered c at.0).code (type_of c at.0) (needs at.0) at.1.coded;
  }
  layer e.GatheredLength = record { type = refl; coded = length_coded }
  layer (e.Gathered at) = record {
    type = ap (λ o. and_then (where_type o type.Int type.Int) c.members) at.1.type;
    coded = gathered_coded (lowered c at.0).code (type_of c at.0) (needs at.0) at.1.coded;
  }
  layer (e.GatheredSize at) = record {
    type = ap (λ o. and_then (where_type o type.Int type.Int) (where_type c.members type.Vector type.Int)) at.1.type;
    coded = gathered_size_coded (lowered c at.0).code (type_of c at.0) (needs at.0) at.1.coded;
  }
  layer (e.GatheredElement at index) = record {
    type = ap (λ o. and_then (where_type o type.Int type.Int) (and_then (where_type c.members type.Vector type.Long) (where_type (lowered c index.0).type type.Int type.Long))) at.1.type
        ∙ ap (λ o. and_then (where_type (type_of c at.0) type.Int type.Int) (and_then (where_type c.members type.Vector type.Long) (where_type o type.Int type.Long))) index.1.type;
    coded = gathered_element_coded (lowered c at.0).code (lowered c index.0).code (type_of c at.0) (type_of c index.0) (needs at.0) (needs index.0) at.1.coded index.1.coded;
  }
  layer (e.Call m args) = record {
    type = ap (λ os. typing.called_type (slice_get c.methods m) (all_types os)) (parts_types args);
    coded = call_coded m (map (λ (l : Lowered). l.code) (map (lowered c) (bares args))) (map (type_of c) (bares args)) (map needs (bares args)) (parts_coded args);
  }
  layer (e.Merge m) = record { type = refl; coded = merge_coded m }

  made_good : (x : Expression-F Expression) (y : Expression-F Part) → bare y ≡ x → Good (roll-Expression x)
  made_good x y is =
      let low = fold-roll-Expression Lowered (lowered_step c) x in
      let typed = fold-roll-Expression (Option ValueType) (type_step c) x in
      let need = fold-roll-Expression Needs needs_step x in
      let P : Expression-F Expression → Type 0 = λ z. Lowers s (lowered_step c (map-Expression Expression Lowered (lowered c) z)) (type_step c (map-Expression Expression (Option ValueType) (type_of c) z)) (needs_step (map-Expression Expression Needs needs z)) in
      let all : P x = subst P is (layer y) in
      subst (λ (l : Lowered). Lowers s l (type_of c (roll-Expression x)) (needs (roll-Expression x))) (sym low)
      (subst (λ (o : Option ValueType). Lowers s (lowered_step c (map-Expression Expression Lowered (lowered c) x)) o (needs (roll-Expression x))) (sym typed)
      (subst (λ (n : Needs). Lowers s (lowered_step c (map-Expression Expression Lowered (lowered c) x)) (type_step c (map-Expression Expression (Option ValueType) (type_of c) x)) n) (sym need) all))

  pub expressions : (x : Expression) → Lowers s (lowered c x) (type_of c x) (needs x)
  expressions = ind-Expression Good made_good

  pub several : (xs : List Expression) → AllCoded (map (code_of c) xs) (map (type_of c) xs) (map needs xs)
  several [] = tt
  several (x ∷ xs) = ((expressions x).coded, several xs)
