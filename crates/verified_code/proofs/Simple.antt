-- The labels of statements without statements inside.
use Rattle.std.proofs.Common.{◌≡◌, refl, sym, ap, subst, ◌∙◌, ℕ, suc, ◌+◌, ◌≤◌, arith, Bool, true, false, cond, ◌&&◌, List, [], ◌∷◌, ◌++◌, map, length, Option, Some, None, slice_get, ◌⊎◌, inl, inr}
use Rattle.std.specs.Prelude.{not, ◌||◌, nat_eq}
use Rattle.std.specs.List.{list_all}
use Rattle.std.proofs.lemmas.Bool.{false≢true, eqb-true, eq-eqb}
use Rattle.sdg_base.specs.declared.value_type.ValueType.{ValueType}
use Rattle.sdg_base.specs.declared.value_type.ValueType.TheVariants as type
use Rattle.sdg_base.specs.Signatures.{Signature}
use Rattle.state_classes.specs.declared.method.Method.{Method}
use Rattle.java_tree.specs.declared.method_kinds.MethodKind.TheVariants as source_kind
use Rattle.flat_code.specs.declared.graph.Instr.{Instr}
use Rattle.flat_code.specs.declared.graph.Instr.TheVariants as instr
use Rattle.flat_code.specs.declared.graph.VarType.{VarType}
use Rattle.flat_code.specs.declared.graph.VarType.TheVariants as var
use Rattle.flat_code.specs.Types.{result_by, type_by, type_of_variable, same_type, signature_at}
use Rattle.flat_code.specs.Verified.{Stack, on_top, with_result, if_type, stored_type, accessed_type, returned_type, nothing_returned}
use Rattle.access_blocks.specs.declared.body.Access.{Access}
use Rattle.access_blocks.specs.declared.body.Expression.{Expression}
use Rattle.access_blocks.specs.declared.body.Target.{Target}
use Rattle.access_blocks.specs.declared.body.Target.TheVariants as target
use Rattle.body_code.specs.Early.{is_in}
use Rattle.body_code.specs.Typing.{Context, needs, needs_of_all, type_of, types_of, variable_type}
use Rattle.body_code.specs.Codes.{plain, followed_by}
use Rattle.body_code.specs.ExpressionCode.{code_of, codes_of, behind}
use Rattle.body_code.specs.StatementCode.{Place, Exits, Piece, Scope, of_code, name_in, field_name, popped, dropped, returned, jump_to, result_of}
use Rattle.body_code.specs.StatementCode as code
use Rattle.body_code.specs.Checking.{Surroundings, Standing, Around, Checking, if_so, with_known, are_met, are_known, covers, same_number, same_value, is_none, is_type, are_types, takes, takes_all, is_void, is_result, to_variable, assigned, set_element, has_type, evaluated, targeted, is_access, access, jumping, returning, is_partitioned}
use Rattle.body_code.specs.Checking as checking
use Rattle.verified_code.proofs.Labels.{Anything, Label, label, Setting, Knows, MayRead, IsKnown, Eases, same_eases, InBlock, Made}
use Rattle.verified_code.proofs.Making.{only_one, in_none, Follows, right_by, one, last, none, both, within}
use Rattle.verified_code.proofs.Making as making
use Rattle.verified_code.proofs.Typed.{none_some, some_is, same_is, same_are, is_value, are_values, pushed, without_pushed, one_off, and_left, and_right}
use Rattle.verified_code.proofs.Needed.{IsMet, is_met}
use Rattle.verified_code.proofs.Firsts.{Placed}
use Rattle.verified_code.proofs.Expressions.{Fitting, Proper, Anywhere, expressions, several, all_long, all_made, long_behind, long_both, behind_place}

-- the fields of the class are those that the body's accesses name, and the method's result is that of the body
pub record FieldMeets (s : Setting) (field : ℕ) (m : Method) (sig : Signature) : Type 0 where
  pub of_code : code.signature_of (record { fields = s.graph.fields; context = s.around.context }) field m ≡ Some sig
  pub of_graph : signature_at s.graph.fields (name_in (slice_get s.graph.fields field)) m ≡ Some sig
  pub values : are_values sig.arguments ≡ true

pub record Whole (s : Setting) : Type 0 where
  pub fit : Fitting s
  pub fields : (field : ℕ) (m : Method) (sig : Signature) → checking.signature_of s.around field m ≡ Some sig → FieldMeets s field m sig
  pub result : result_by s.of.result ≡ s.around.result

abbrev pub scope : Setting → Scope
scope s = record { fields = s.graph.fields; context = s.around.context }

-- where `break` and `continue` go
abbrev pub Leads : Around → Exits → ℕ → (ℕ → Label) → Type 0
Leads None to r lab = Unit {0}
Leads (Some need) to r lab = Eases (label need [] r) (lab to.break_to) × Eases (label need [] r) (lab to.continue_to)

-- the variables that are added for the arguments of gathering accesses
abbrev pub Carries : Setting → List VarType → ℕ → Type 0
Carries s carried v = (k : ℕ) (t : VarType) → slice_get carried k ≡ Some t → type_of_variable s.of (v + k) ≡ Some (type_by t)

pub record Pieced (s : Setting) (piece : Piece) (check : Checking) : Type 0 where
  pub long : (p : Place) (to : Exits) → length (piece.from p to) ≡ piece.size
  pub proper : (exits : Around) (st after : Standing) → Proper s st → check exits st ≡ Some after → Proper s after
  pub grows : (exits : Around) (st after : Standing) → check exits st ≡ Some after → (v : ℕ) → Knows st v → Knows after v
  pub made : (exits : Around) (st after : Standing) → Proper s st → check exits st ≡ Some after → (p : Place) (to : Exits) (least r : ℕ) → least ≤ r → Carries s piece.carried p.variable → Placed s p.at (piece.from p to)
      → Made s (Leads exits to least) p.at (piece.from p to) st [] (label after [] r)

-- ---- tests that hold

pub so_is : (b : Bool) (st after : Standing) → if_so b st ≡ Some after → (b ≡ true) × (st ≡ after)
so_is true st after e = (refl, some_is st after e)
so_is false st after e = absurd (none_some after e)

pub type_is : (o : Option ValueType) (t : ValueType) → is_type o t ≡ true → o ≡ Some t
type_is None t e = absurd (false≢true e)
type_is (Some u) t e = ap Some (same_is u t e)

pub types_are : (o : Option (List ValueType)) (ts : List ValueType) → are_types o ts ≡ true → o ≡ Some ts
types_are None ts e = absurd (false≢true e)
types_are (Some us) ts e = ap Some (same_are us ts e)

pub nat_is : (a b : ℕ) → nat_eq a b ≡ true → a ≡ b
nat_is a b e = eqb-true a b e

pub number_is : (a b : Option ℕ) → same_number a b ≡ true → a ≡ b
number_is None None e = refl
number_is (Some a) (Some b) e = ap Some (nat_is a b e)
number_is None (Some b) e = absurd (false≢true e)
number_is (Some a) None e = absurd (false≢true e)

pub value_is : (a b : Option ValueType) → same_value a b ≡ true → a ≡ b
value_is None None e = refl
value_is (Some a) (Some b) e = ap Some (same_is a b e)
value_is None (Some b) e = absurd (false≢true e)
value_is (Some a) None e = absurd (false≢true e)

pub or_is : (a b : Bool) → (a || b) ≡ true → (a ≡ true) ⊎ (b ≡ true)
or_is true b e = inl refl
or_is false b e = inr e

pub none_is : {A : Type 0} (o : Option A) → is_none o ≡ true → o ≡ None
none_is None e = refl
none_is (Some a) e = absurd (false≢true e)

known_of : (vs known : List ℕ) (v : ℕ) → list_all (λ w. is_in w known) vs ≡ true → is_in v vs ≡ true → is_in v known ≡ true
known_of [] known v all h = absurd (false≢true h)
known_of (w ∷ vs) known v all h =
    elim (or_is (nat_eq v w) (is_in v vs) h) [
      | inl e ↦ subst (λ (n : ℕ). is_in n known ≡ true) (sym (nat_is v w e)) (and_left (is_in w known) (list_all (λ w. is_in w known) vs) all)
      | inr later ↦ known_of vs known v (and_right (is_in w known) (list_all (λ w. is_in w known) vs) all) later
    ]

either_of : {A : Type 0} (a b : Option A) (is_same : Bool) → (is_same ≡ true → a ≡ b) → (is_none b || is_same) ≡ true → (b ≡ None) ⊎ (b ≡ a)
either_of a b is_same from e = elim (or_is (is_none b) is_same e) [ inl none ↦ inl (none_is b none) | inr same ↦ inr (sym (from same)) ]

-- what covers another one
pub record Covers (st need : Standing) : Type 0 where
  pub known : (v : ℕ) → Knows need v → Knows st v
  pub field : (need.field ≡ None) ⊎ (need.field ≡ st.field)
  pub gathered : (need.gathered ≡ None) ⊎ (need.gathered ≡ st.gathered)

pub covers_is : (st need : Standing) → covers st need ≡ true → Covers st need
covers_is st need e =
    let field = is_none need.field || same_number st.field need.field in
    let gathered = is_none need.gathered || same_value st.gathered need.gathered in
    let rest = and_right (are_known st need.known) (field && gathered) e in
    record {
      known = λ v h. known_of need.known st.known v (and_left (are_known st need.known) (field && gathered) e) h;
      field = either_of st.field need.field (same_number st.field need.field) (number_is st.field need.field) (and_left field gathered rest);
      gathered = either_of st.gathered need.gathered (same_value st.gathered need.gathered) (value_is st.gathered need.gathered) (and_right field gathered rest);
    }

pub covered : (st need : Standing) (stack : Stack) (few many : ℕ) → few ≤ many → Covers st need → Eases (label st stack many) (label need stack few)
covered st need stack few many less h = record { stack = refl; known = h.known; stays = record { field = h.field; gathered = h.gathered; visit = refl }; behind = refl; rank = less }

pub known_more : (v w : ℕ) (st : Standing) → Knows (with_known w st) v → Knows st v ⊎ (v ≡ w)
known_more v w st h = elim (or_is (nat_eq v w) (is_in v st.known) h) [ inl e ↦ inr (nat_is v w e) | inr k ↦ inl k ]

or_right : (a b : Bool) → b ≡ true → (a || b) ≡ true
or_right true b e = refl
or_right false b e = e

pub still_known : (v w : ℕ) (st : Standing) → Knows st v → Knows (with_known w st) v
still_known v w st h = or_right (nat_eq v w) (is_in v st.known) h

eq_refl : (v : ℕ) → nat_eq v v ≡ true
eq_refl v = eq-eqb v v refl

or_left : (a b : Bool) → a ≡ true → (a || b) ≡ true
or_left true b e = refl
or_left false b e = absurd (false≢true e)

pub now_known : (v : ℕ) (st : Standing) → Knows (with_known v st) v
now_known v st = or_left (nat_eq v v) (is_in v st.known) (eq_refl v)

-- ---- results

not_void : (t : ValueType) → not (is_void t) ≡ true → is_value t ≡ true
not_void type.Int e = refl
not_void type.Long e = refl
not_void type.Boolean e = refl
not_void type.Vector e = refl
not_void type.Void e = e

return_takes : (o : Option VarType) (t : ValueType) → result_by o ≡ t → is_value t ≡ true → returned_type o (on_top t []) ≡ Some []
return_takes None t e h = absurd (false≢true (subst (λ (w : ValueType). is_value w ≡ true) (sym e) h))
return_takes (Some var.Int) t e h = subst (λ (w : ValueType). returned_type (Some var.Int) (on_top w []) ≡ Some []) e refl
return_takes (Some var.Long) t e h = subst (λ (w : ValueType). returned_type (Some var.Long) (on_top w []) ≡ Some []) e refl
return_takes (Some var.Boolean) t e h = subst (λ (w : ValueType). returned_type (Some var.Boolean) (on_top w []) ≡ Some []) e refl
return_takes (Some var.Vector) t e h = subst (λ (w : ValueType). returned_type (Some var.Vector) (on_top w []) ≡ Some []) e refl

pub void_takes : (o : Option VarType) (t : ValueType) → result_by o ≡ t → is_void t ≡ true → nothing_returned o [] ≡ Some []
void_takes None t e h = refl
void_takes (Some var.Int) t e h = absurd (false≢true (subst (λ (w : ValueType). is_void w ≡ true) (sym e) h))
void_takes (Some var.Long) t e h = absurd (false≢true (subst (λ (w : ValueType). is_void w ≡ true) (sym e) h))
void_takes (Some var.Boolean) t e h = absurd (false≢true (subst (λ (w : ValueType). is_void w ≡ true) (sym e) h))
void_takes (Some var.Vector) t e h = absurd (false≢true (subst (λ (w : ValueType). is_void w ≡ true) (sym e) h))

pub record TypedBy (c : Surroundings) (st : Standing) (x : Expression) (t : ValueType) : Type 0 where
  pub met : IsMet c st (needs x)
  pub typed : type_of c.context x ≡ Some t

pub takes_is : (around : Surroundings) (st : Standing) (x : Expression) (t : ValueType) → takes around st x t ≡ true → TypedBy around st x t
takes_is around st x t e = record {
  met = is_met around st (needs x) (and_left (are_met around st (needs x)) (is_type (type_of around.context x) t) e);
  typed = type_is (type_of around.context x) t (and_right (are_met around st (needs x)) (is_type (type_of around.context x) t) e);
}

module _ (s : Setting) (w : Whole s) where
  abbrev c : Context
  c = s.around.context

  visits_not : (lab : ℕ → Label) (at : ℕ) (st : Standing) (stack : Stack) (r : ℕ) → lab at ≡ label st stack r → (lab at).visit ≡ None
  visits_not lab at st stack r is = ap (λ (l : Label). l.visit) is

  pub value_made : (x : Expression) (t : ValueType) (st : Standing) → Proper s st → TypedBy s.around st x t → (at : ℕ) (stack : Stack) (r : ℕ) → Made s Anywhere at ((code_of c x).from at) st stack (label st (on_top t stack) r)
  value_made x t st proper h at stack r = (expressions s w.fit x).coded.made st proper h.met t h.typed at stack r

  pub value_long : (x : Expression) (at : ℕ) → length ((code_of c x).from at) ≡ (code_of c x).size
  value_long x = (expressions s w.fit x).coded.long

  pub anywhere : (Out : (ℕ → Label) → Type 0) (at : ℕ) (is : List Instr) (st : Standing) (stack : Stack) (e : Label) → Made s Anywhere at is st stack e → Made s Out at is st stack e
  anywhere Out at is st stack e h = within s Anywhere Out at is st stack e (λ lab out. tt) h

  -- ---- what is done with a value

  pub store_made : (at v : ℕ) (t : ValueType) (st : Standing) (r : ℕ) → variable_type c v ≡ Some t → Made s Anywhere at (instr.Store v ∷ []) st (on_top t []) (label (with_known v st) [] r)
  store_made at v t st r is =
      one s Anywhere at (instr.Store v) st (on_top t []) (label (with_known v st) [] r) refl
      (record {
        falls = omega arith;
        knows = λ u h. elim (known_more u v st h) [ inl k ↦ inl k | inr e ↦ inr (ap Some (sym e)) ];
        may_read = λ u h. absurd (in_none u h);
        stays = λ next h. record { field = inr refl; gathered = inr refl; visit = refl };
        takes = ap (λ o. stored_type o (on_top t [])) (w.fit.variables v t is) ∙ one_off t [] (w.fit.values v t is);
        kind = making.plain s (instr.Store v) refl refl;
      })
      (λ lab here. visits_not lab at st (on_top t []) (suc r) here)

  pop_made : (at : ℕ) (t : ValueType) (st : Standing) (r : ℕ) → Made s Anywhere at (instr.Pop ∷ []) st (t ∷ []) (label st [] r)
  pop_made at t st r =
      one s Anywhere at instr.Pop st (t ∷ []) (label st [] r) refl
      (record { falls = omega arith; knows = λ u h. inl h; may_read = λ u h. absurd (in_none u h); stays = λ next h. record { field = inr refl; gathered = inr refl; visit = refl }; takes = refl; kind = making.plain s instr.Pop refl refl })
      (λ lab here. visits_not lab at st (t ∷ []) (suc r) here)

  popped_made : (at : ℕ) (t : ValueType) (st : Standing) (r : ℕ) → Made s Anywhere at (popped t) st (on_top t []) (label st [] r)
  popped_made at type.Void st r = none s Anywhere at st [] r
  popped_made at type.Int st r = pop_made at type.Int st r
  popped_made at type.Long st r = pop_made at type.Long st r
  popped_made at type.Boolean st r = pop_made at type.Boolean st r
  popped_made at type.Vector st r = pop_made at type.Vector st r

  return_made : (at : ℕ) (t : ValueType) (st : Standing) (r : ℕ) → t ≡ s.around.result → not (is_void t) ≡ true → Made s Anywhere at (instr.Return ∷ []) st (on_top t []) (label st [] r)
  return_made at t st r is value =
      last s Anywhere at instr.Return st (on_top t []) [] (label st [] r) refl (return_takes s.of.result t (w.result ∙ sym is) (not_void t value)) (λ v h. absurd (in_none v h)) (making.plain s instr.Return refl refl)
      (λ lab here. visits_not lab at st (on_top t []) (suc r) here)

  result_is : (t : ValueType) → is_result s.around t ≡ true → (t ≡ s.around.result) × (not (is_void t) ≡ true)
  result_is t e = (same_is t s.around.result (and_left (same_type t s.around.result) (not (is_void t)) e), and_right (same_type t s.around.result) (not (is_void t)) e)

  targeted_made : (to : Target) (t : ValueType) (st after : Standing) → targeted s.around to t st ≡ Some after → (at r : ℕ) → Made s Anywhere at (code.targeted to t) st (on_top t []) (label after [] r)
  targeted_made target.Dropped t st after e at r = subst (λ (x : Standing). Made s Anywhere at (popped t) st (on_top t []) (label x [] r)) (some_is st after e) (popped_made at t st r)
  targeted_made (target.Variable v) t st after e at r =
      let k = so_is (is_type (variable_type c v) t) (with_known v st) after e in
      subst (λ (x : Standing). Made s Anywhere at (instr.Store v ∷ []) st (on_top t []) (label x [] r)) k.1 (store_made at v t st r (type_is (variable_type c v) t k.0))
  targeted_made target.Returned t st after e at r =
      let k = so_is (is_result s.around t) st after e in
      let h = result_is t k.0 in
      subst (λ (x : Standing). Made s Anywhere at (instr.Return ∷ []) st (on_top t []) (label x [] r)) k.1 (return_made at t st r h.0 h.1)

  pub same_standing : (after st : Standing) → st ≡ after → Proper s st → Proper s after
  same_standing after st e h = subst (λ (x : Standing). Proper s x) e h

  pub same_known : (after st : Standing) → st ≡ after → (v : ℕ) → Knows st v → Knows after v
  same_known after st e v h = subst (λ (x : Standing). Knows x v) e h

  targeted_proper : (to : Target) (t : ValueType) (st after : Standing) → targeted s.around to t st ≡ Some after → Proper s st → Proper s after
  targeted_proper target.Dropped t st after e h = same_standing after st (some_is st after e) h
  targeted_proper (target.Variable v) t st after e h = same_standing after (with_known v st) (so_is (is_type (variable_type c v) t) (with_known v st) after e).1 h
  targeted_proper target.Returned t st after e h = same_standing after st (so_is (is_result s.around t) st after e).1 h

  targeted_grows : (to : Target) (t : ValueType) (st after : Standing) → targeted s.around to t st ≡ Some after → (v : ℕ) → Knows st v → Knows after v
  targeted_grows target.Dropped t st after e v h = same_known after st (some_is st after e) v h
  targeted_grows (target.Variable u) t st after e v h = same_known after (with_known u st) (so_is (is_type (variable_type c u) t) (with_known u st) after e).1 v (still_known v u st h)
  targeted_grows target.Returned t st after e v h = same_known after st (so_is (is_result s.around t) st after e).1 v h

  -- ---- statements

  abbrev Done : Piece → Checking → Type 0
  Done = Pieced s

  one_more : (Out : (ℕ → Label) → Type 0) (at k : ℕ) (xs ys : List Instr) (st after : Standing) (stack middle : Stack) (r : ℕ) → k ≡ at + length xs → ((q : ℕ) → Made s Anywhere at xs st stack (label st middle q))
      → Made s Anywhere k ys st middle (label after [] r) → Made s Out at (xs ++ ys) st stack (label after [] r)
  one_more Out at k xs ys st after stack middle r place front back =
      anywhere Out at (xs ++ ys) st stack (label after [] r) (both s Anywhere at k xs ys st st stack middle (label after [] r) place back (front back.rank))

  pub record IsAssigned (v : ℕ) (o : Option ValueType) (met : Bool) (st after : Standing) : Type 0 where
    pub t : ValueType
    pub typed : o ≡ Some t
    pub is_met : met ≡ true
    pub variable : variable_type c v ≡ Some t
    pub after_is : with_known v st ≡ after

  pub assigned_is : (v : ℕ) (o : Option ValueType) (met : Bool) (st after : Standing) → assigned s.around v o met st ≡ Some after → IsAssigned v o met st after
  assigned_is v None met st after e = absurd (none_some after e)
  assigned_is v (Some t) false st after e = absurd (none_some after e)
  assigned_is v (Some t) true st after e =
      let k = so_is (is_type (variable_type c v) t) (with_known v st) after e in
      record { t = t; typed = refl; is_met = refl; variable = type_is (variable_type c v) t k.0; after_is = k.1 }

  pub assign_done : (v : ℕ) (x : Expression) → Done (of_code (behind (code_of c x) (instr.Store v))) (λ exits st. assigned s.around v (type_of c x) (are_met s.around st (needs x)) st)
  assign_done v x = record {
    long = λ p to. long_behind s w.fit (code_of c x) (instr.Store v) (value_long x) p.at;
    proper = λ exits st after proper e. same_standing after (with_known v st) (assigned_is v (type_of c x) (are_met s.around st (needs x)) st after e).after_is proper;
    grows = λ exits st after e u h. same_known after (with_known v st) (assigned_is v (type_of c x) (are_met s.around st (needs x)) st after e).after_is u (still_known u v st h);
    made = λ exits st after proper e p to least r less carries placed.
        (let k = assigned_is v (type_of c x) (are_met s.around st (needs x)) st after e in
        let typed : TypedBy s.around st x k.t = record { met = is_met s.around st (needs x) k.is_met; typed = k.typed } in
        let place = p.at + (code_of c x).size in
        subst (λ (z : Standing). Made s (Leads exits to least) p.at ((behind (code_of c x) (instr.Store v)).from p.at) st [] (label z [] r)) k.after_is
        (one_more (Leads exits to least) p.at place ((code_of c x).from p.at) (instr.Store v ∷ []) st (with_known v st) [] (on_top k.t []) r (behind_place s w.fit (code_of c x) (value_long x) p.at)
        (λ q. value_made x k.t st proper typed p.at [] q) (store_made place v k.t st r k.variable)));
  }

  pub record IsSet (v : ℕ) (at x : Expression) (st after : Standing) : Type 0 where
    pub vector : variable_type c v ≡ Some type.Vector
    pub known : Knows st v
    pub index : TypedBy s.around st at type.Int
    pub value : TypedBy s.around st x type.Long
    pub after_is : st ≡ after

  set_is : (v : ℕ) (at x : Expression) (st after : Standing) → set_element s.around v at x st ≡ Some after → IsSet v at x st after
  set_is v at x st after e =
      let a = is_type (variable_type c v) type.Vector in
      let b = is_in v st.known in
      let d = takes s.around st at type.Int in
      let f = takes s.around st x type.Long in
      let k = so_is (a && (b && (d && f))) st after e in
      let rest = and_right a (b && (d && f)) k.0 in
      let last = and_right b (d && f) rest in
      record {
        vector = type_is (variable_type c v) type.Vector (and_left a (b && (d && f)) k.0);
        known = and_left b (d && f) rest;
        index = takes_is s.around st at type.Int (and_left d f last);
        value = takes_is s.around st x type.Long (and_right d f last);
        after_is = k.1;
      }

  pub set_done : (v : ℕ) (at x : Expression) → Done (of_code (behind (followed_by (code_of c at) (code_of c x)) (instr.VectorSet v))) (λ exits st. set_element s.around v at x st)
  set_done v at x =
      let front = followed_by (code_of c at) (code_of c x) in
      let long_front = long_both s w.fit (code_of c at) (code_of c x) (value_long at) (value_long x) in
      record {
        long = λ p to. long_behind s w.fit front (instr.VectorSet v) long_front p.at;
        proper = λ exits st after proper e. same_standing after st (set_is v at x st after e).after_is proper;
        grows = λ exits st after e u h. same_known after st (set_is v at x st after e).after_is u h;
        made = λ exits st after proper e p to least r less carries placed.
            (let k = set_is v at x st after e in
            let place = p.at + (code_of c at).size in
            let end = p.at + front.size in
            let both_values = type.Long ∷ type.Int ∷ [] in
            subst (λ (z : Standing). Made s (Leads exits to least) p.at ((behind front (instr.VectorSet v)).from p.at) st [] (label z [] r)) k.after_is
            (one_more (Leads exits to least) p.at end (front.from p.at) (instr.VectorSet v ∷ []) st st [] both_values r (behind_place s w.fit front long_front p.at)
            (λ q. both s Anywhere p.at place ((code_of c at).from p.at) ((code_of c x).from place) st st [] (type.Int ∷ []) (label st both_values q) (behind_place s w.fit (code_of c at) (value_long at) p.at)
            (value_made x type.Long st proper k.value place (type.Int ∷ []) q) (value_made at type.Int st proper k.index p.at [] (value_made x type.Long st proper k.value place (type.Int ∷ []) q).rank))
            (one s Anywhere end (instr.VectorSet v) st both_values (label st [] r) refl
            (record {
              falls = omega arith;
              knows = λ u h. inl h;
              may_read = λ u h. subst (λ (n : ℕ). MayRead s st n) (sym (only_one u v h)) (IsKnown k.known);
              stays = λ next h. record { field = inr refl; gathered = inr refl; visit = refl };
              takes = ap (λ o. if_type o type.Vector (Some [])) (w.fit.variables v type.Vector k.vector);
              kind = making.plain s (instr.VectorSet v) refl refl;
            })
            (λ lab here. visits_not lab end st both_values (suc r) here))));
      }

  pub record IsEvaluated (x : Expression) (st after : Standing) : Type 0 where
    pub t : ValueType
    pub typed : TypedBy s.around st x t
    pub after_is : st ≡ after

  some_type : (o : Option ValueType) → has_type o ≡ true → (t : ValueType) × (o ≡ Some t)
  some_type None e = absurd (false≢true e)
  some_type (Some t) e = (t, refl)

  evaluated_is : (x : Expression) (st after : Standing) → evaluated s.around x st ≡ Some after → IsEvaluated x st after
  evaluated_is x st after e =
      let a = are_met s.around st (needs x) in
      let b = has_type (type_of c x) in
      let k = so_is (a && b) st after e in
      let t = some_type (type_of c x) (and_right a b k.0) in
      record { t = t.0; typed = record { met = is_met s.around st (needs x) (and_left a b k.0); typed = t.1 }; after_is = k.1 }

  pub evaluate_done : (x : Expression) → Done (of_code (followed_by (code_of c x) (plain (dropped (type_of c x))))) (λ exits st. evaluated s.around x st)
  evaluate_done x = record {
    long = λ p to. long_both s w.fit (code_of c x) (plain (dropped (type_of c x))) (value_long x) (λ at. refl) p.at;
    proper = λ exits st after proper e. same_standing after st (evaluated_is x st after e).after_is proper;
    grows = λ exits st after e u h. same_known after st (evaluated_is x st after e).after_is u h;
    made = λ exits st after proper e p to least r less carries placed.
        (let k = evaluated_is x st after e in
        let place = p.at + (code_of c x).size in
        subst (λ (z : Standing). Made s (Leads exits to least) p.at ((code_of c x).from p.at ++ dropped (type_of c x)) st [] (label z [] r)) k.after_is
        (one_more (Leads exits to least) p.at place ((code_of c x).from p.at) (dropped (type_of c x)) st st [] (on_top k.t []) r (behind_place s w.fit (code_of c x) (value_long x) p.at)
        (λ q. value_made x k.t st proper k.typed p.at [] q)
        (subst (λ (o : Option ValueType). Made s Anywhere place (dropped o) st (on_top k.t []) (label st [] r)) (sym k.typed.typed) (popped_made place k.t st r))));
  }

  -- ---- accesses

  pub record IsAccessed (a : Access) (o : Option Signature) (st after : Standing) : Type 0 where
    pub sig : Signature
    pub is : o ≡ Some sig
    pub field : st.field ≡ Some a.field
    pub met : IsMet s.around st (needs_of_all a.args)
    pub typed : types_of c a.args ≡ Some sig.arguments
    pub after_is : targeted s.around a.target sig.result st ≡ Some after

  pub accessed_is : (a : Access) (o : Option Signature) (st after : Standing) → access s.around a o st ≡ Some after → IsAccessed a o st after
  accessed_is a None st after e = absurd (none_some after e)
  accessed_is a (Some sig) st after e = by (is_access s.around a sig st) refl e
    where
      by : (b : Bool) → is_access s.around a sig st ≡ b → cond b (targeted s.around a.target sig.result st) None ≡ Some after → IsAccessed a (Some sig) st after
      by false is e = absurd (none_some after e)
      by true is e =
          let f = same_number st.field (Some a.field) in
          let keyed = sig.keyed || not (is_partitioned (slice_get s.around.fields a.field)) in
          let args = takes_all s.around st a.args sig.arguments in
          let rest = and_right keyed args (and_right f (keyed && args) is) in
          let needed = are_met s.around st (needs_of_all a.args) in
          let typed = are_types (types_of c a.args) sig.arguments in
          record {
            sig = sig;
            is = refl;
            field = number_is st.field (Some a.field) (and_left f (keyed && args) is);
            met = is_met s.around st (needs_of_all a.args) (and_left needed typed rest);
            typed = types_are (types_of c a.args) sig.arguments (and_right needed typed rest);
            after_is = e;
          }

  pub values_long : (xs : List Expression) (at : ℕ) → length ((codes_of c xs).from at) ≡ (codes_of c xs).size
  values_long xs = all_long s w.fit (map (code_of c) xs) (map (type_of c) xs) (map needs xs) (several s w.fit xs)

  pub values_made : (xs : List Expression) (ts : List ValueType) (st : Standing) → Proper s st → IsMet s.around st (needs_of_all xs) → types_of c xs ≡ Some ts → (at : ℕ) (stack : Stack) (r : ℕ)
      → Made s Anywhere at ((codes_of c xs).from at) st stack (label st (pushed ts stack) r)
  values_made xs ts st proper met typed at stack r = all_made s w.fit (map (code_of c) xs) (map (type_of c) xs) (map needs xs) (several s w.fit xs) st proper met ts typed at stack r

  entry_of : (st : Standing) (f : ℕ) → Proper s st → st.field ≡ Some f → s.around.kind ≡ source_kind.Entry
  entry_of st f (inl entry) e = entry
  entry_of st f (inr nothing) e = absurd (none_some f (sym nothing.0 ∙ e))

  access_made : (a : Access) (st after : Standing) → Proper s st → IsAccessed a (checking.signature_of s.around a.field a.method) st after → (at r : ℕ) → Made s Anywhere at ((code.access (scope s) a).from at) st [] (label after [] r)
  access_made a st after proper k at r =
      let meets = w.fields a.field a.method k.sig k.is in
      let args = codes_of c a.args in
      let place = at + args.size in
      let name = name_in (slice_get s.graph.fields a.field) in
      let top = pushed k.sig.arguments [] in
      let result = result_of (code.signature_of (scope s) a.field a.method) in
      let same : k.sig.result ≡ result = sym (ap result_of meets.of_code) in
      let end = targeted_made a.target k.sig.result st after k.after_is (suc place) r in
      let behind = subst (λ (t : ValueType). Made s Anywhere (suc place) (code.targeted a.target t) st (on_top k.sig.result []) (label after [] r)) same end in
      let accessing = one s Anywhere place (instr.Access name a.method) st top (label st (on_top k.sig.result []) behind.rank) refl
      (record {
        falls = omega arith;
        knows = λ u h. inl h;
        may_read = λ u h. absurd (in_none u h);
        stays = λ next h. record { field = inr refl; gathered = inr refl; visit = refl };
        takes = ap (λ o. accessed_type o top) meets.of_graph ∙ ap (λ o. with_result k.sig.result o) (without_pushed k.sig.arguments [] meets.values);
        kind = record { entry = λ h. entry_of st a.field proper k.field; merge = λ h. absurd (false≢true h) };
      })
      (λ lab here. InBlock a.field (visits_not lab place st top (suc behind.rank) here) (ap (λ (l : Label). l.standing.field) here ∙ k.field) refl) in
      let rest = both s Anywhere place (suc place) (instr.Access name a.method ∷ []) (code.targeted a.target result) st st top (on_top k.sig.result []) (label after [] r) (omega arith) behind accessing in
      both s Anywhere at place (args.from at) (instr.Access name a.method ∷ code.targeted a.target result) st st [] top (label after [] r) (behind_place s w.fit args (values_long a.args) at) rest
      (values_made a.args k.sig.arguments st proper k.met k.typed at [] rest.rank)

  pub access_done : (a : Access) → Done (of_code (code.access (scope s) a)) (λ exits st. access s.around a (checking.signature_of s.around a.field a.method) st)
  access_done a = record {
    long = λ p to. long_both s w.fit (codes_of c a.args) (plain (instr.Access (field_name (scope s) a.field) a.method ∷ code.targeted a.target (result_of (code.signature_of (scope s) a.field a.method)))) (values_long a.args) (λ at. refl) p.at;
    proper = λ exits st after proper e. (let k = accessed_is a (checking.signature_of s.around a.field a.method) st after e in targeted_proper a.target k.sig.result st after k.after_is proper);
    grows = λ exits st after e u h. (let k = accessed_is a (checking.signature_of s.around a.field a.method) st after e in targeted_grows a.target k.sig.result st after k.after_is u h);
    made = λ exits st after proper e p to least r less carries placed.
        anywhere (Leads exits to least) p.at ((code.access (scope s) a).from p.at) st [] (label after [] r) (access_made a st after proper (accessed_is a (checking.signature_of s.around a.field a.method) st after e) p.at r);
  }

  -- ---- jumps

  jumps_is : (exits : Around) (st after : Standing) → jumping exits st ≡ Some after → (need : Standing) × (exits ≡ Some need) × (covers st need ≡ true) × (st ≡ after)
  jumps_is None st after e = absurd (none_some after e)
  jumps_is (Some need) st after e = let k = so_is (covers st need) st after e in (need, refl, k.0, k.1)

  jump_made : (Out : (ℕ → Label) → Type 0) (at to : ℕ) (st need : Standing) (least r : ℕ) → least ≤ r → Covers st need → ((lab : ℕ → Label) → Out lab → Eases (label need [] least) (lab to)) → Made s Out at (instr.Jump to ∷ []) st [] (label st [] r)
  jump_made Out at to st need least r less h leads = record {
    rank = suc r;
    above = omega arith;
    labels = label st [] (suc r) ∷ [];
    long = refl;
    begins = same_eases st [] (suc r) (suc r) (omega arith);
    good = λ lab end end_is agrees eases out.
        (let here : end ≡ suc at = omega (arith, end_is) in (
          right_by s lab at (instr.Jump to) (label st [] (suc r)) (label need [] least) agrees.0
              (record {
                falls = omega (arith, less);
                knows = λ v k. inl (h.known v k);
                may_read = λ v k. absurd (in_none v k);
                stays = λ next k. record { field = h.field; gathered = h.gathered; visit = refl };
                takes = refl;
                kind = making.plain s (instr.Jump to) refl refl;
              })
              (λ next k. subst (λ (n : ℕ). Eases (label need [] least) (lab n)) (sym (only_one next to k)) (leads lab out))
              (visits_not lab at st [] (suc r) agrees.0) (subst (λ (n : ℕ). (lab n).behind ≡ Anything) here eases.behind),
          tt,
        ));
  }

  pub jump_done : (exit : Exits → ℕ) → ((need : Standing) (to : Exits) (least : ℕ) (lab : ℕ → Label) → Leads (Some need) to least lab → Eases (label need [] least) (lab (exit to))) → Done (jump_to exit) jumping
  jump_done exit leads = record {
    long = λ p to. refl;
    proper = λ exits st after proper e. same_standing after st (jumps_is exits st after e).3 proper;
    grows = λ exits st after e u h. same_known after st (jumps_is exits st after e).3 u h;
    made = λ exits st after proper e p to least r less carries placed.
        (let k = jumps_is exits st after e in
        subst (λ (z : Standing). Made s (Leads exits to least) p.at (instr.Jump (exit to) ∷ []) st [] (label z [] r)) k.3
        (jump_made (Leads exits to least) p.at (exit to) st k.0 least r less (covers_is st k.0 k.2)
        (λ lab out. leads k.0 to least lab (subst (λ (o : Around). Leads o to least lab) k.1 out))));
  }

  -- ---- returns

  void_made : (at : ℕ) (st : Standing) (r : ℕ) → is_void s.around.result ≡ true → Made s Anywhere at (instr.ReturnVoid ∷ []) st [] (label st [] r)
  void_made at st r is =
      last s Anywhere at instr.ReturnVoid st [] [] (label st [] r) refl (void_takes s.of.result s.around.result w.result is) (λ v h. absurd (in_none v h)) (making.plain s instr.ReturnVoid refl refl)
      (λ lab here. visits_not lab at st [] (suc r) here)

  pub return_done : (x : Option Expression) → Done (of_code (returned c x)) (λ exits st. returning s.around x st)
  return_done None = record {
    long = λ p to. refl;
    proper = λ exits st after proper e. same_standing after st (so_is (is_void s.around.result) st after e).1 proper;
    grows = λ exits st after e u h. same_known after st (so_is (is_void s.around.result) st after e).1 u h;
    made = λ exits st after proper e p to least r less carries placed.
        (let k = so_is (is_void s.around.result) st after e in
        subst (λ (z : Standing). Made s (Leads exits to least) p.at (instr.ReturnVoid ∷ []) st [] (label z [] r)) k.1
        (anywhere (Leads exits to least) p.at (instr.ReturnVoid ∷ []) st [] (label st [] r) (void_made p.at st r k.0)));
  }
  return_done (Some x) =
      let test : Standing → Bool = λ st. takes s.around st x s.around.result && not (is_void s.around.result) in
      record {
        long = λ p to. long_behind s w.fit (code_of c x) instr.Return (value_long x) p.at;
        proper = λ exits st after proper e. same_standing after st (so_is (test st) st after e).1 proper;
        grows = λ exits st after e u h. same_known after st (so_is (test st) st after e).1 u h;
        made = λ exits st after proper e p to least r less carries placed.
            (let k = so_is (test st) st after e in
            let typed = takes_is s.around st x s.around.result (and_left (takes s.around st x s.around.result) (not (is_void s.around.result)) k.0) in
            let value = and_right (takes s.around st x s.around.result) (not (is_void s.around.result)) k.0 in
            let place = p.at + (code_of c x).size in
            subst (λ (z : Standing). Made s (Leads exits to least) p.at ((behind (code_of c x) instr.Return).from p.at) st [] (label z [] r)) k.1
            (one_more (Leads exits to least) p.at place ((code_of c x).from p.at) (instr.Return ∷ []) st st [] (on_top s.around.result []) r (behind_place s w.fit (code_of c x) (value_long x) p.at)
            (λ q. value_made x s.around.result st proper typed p.at [] q) (return_made place s.around.result st r refl value)));
      }
