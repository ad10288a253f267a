-- Expressions, where their parts are followed.
use Rattle.std.proofs.Common.{◌≡◌, ℕ, Bool, true, false, not, ◌&&◌, ◌||◌, List, [], ◌∷◌, ◌++◌, Option, Some, codes, if◌then◌else◌, refl, sym, ap, ap₂, subst, ◌∙◌}
use Rattle.std.specs.Str.{bytes_eq}
use Rattle.sdg_base.specs.declared.operator.BinOp.{BinOp}
use Rattle.sdg_base.specs.declared.operator.UnOp.{UnOp}
use Rattle.sdg_base.specs.declared.operator.UnOp.TheVariants as un
use Rattle.sdg_base.specs.declared.val.Num.{Num}
use Rattle.sdg_base.specs.declared.value_type.ValueType.TheVariants as type
use Rattle.java_tree.specs.declared.types.ValueType.TheVariants as value
use Rattle.java_tree.specs.declared.types.ExprType.{ExprType}
use Rattle.java_tree.specs.declared.types.ExprType.TheVariants.{Unknown, Void, Value, Collection, State}
use Rattle.java_tree.specs.declared.types.Declaration.{Declaration}
use Rattle.java_tree.specs.declared.types.Declaration.TheVariants as declaration
use Rattle.java_tree.specs.Words.{is_type, is_vector_name}
use Rattle.java_types.specs.declared.expressions.Operand.{Operand}
use Rattle.java_types.specs.declared.fits.Sort.{Sort}
use Rattle.java_types.specs.declared.fits.Sort.TheVariants as sort
use Rattle.java_types.specs.declared.walk.Variable.{Variable}
use Rattle.java_types.specs.declared.walk.Walk.{Walk}
use Rattle.java_types.specs.Fits.{is_known, is_void, is_minus, fits, with_part, unless, may_be_number, may_be_boolean, may_have_length, sort_of, is_operand, are_vectors_compared, misfits_behind, given_by, outcome, choice, takes, type_of_num, made_type, literal}
use Rattle.java_types.specs.Walks.{Tested, past, noted, named, used}
use Rattle.java_types.specs.Expressions.{Reading, Calling, clash, operated, chosen, unary, cast, number, made, sized, member, conditional, binary, behind_operator, behind_type, in_parentheses, made_of, item, called_value}
use Rattle.java_tree.specs.declared.tree.CallForm.TheOpen as e
use Rattle.annotations.specs.declared.site.Key.{Key}
use Rattle.annotations.specs.Accesses.{variable_key}
use Rattle.annotations.specs.Expressions as marking
use Rattle.access_blocks.specs.declared.body.Expression.{Expression}
use Rattle.access_blocks.specs.declared.body.Expression.TheVariants as x
use Rattle.access_blocks.specs.declared.resolved.Invoked.{Invoked}
use Rattle.access_blocks.specs.declared.resolved.Invoked.TheVariants as invoked
use Rattle.access_blocks.specs.declared.resolved.Resolved.{Resolved}
use Rattle.access_blocks.specs.Cursors.{Cursor, Read, read, name_here, behind_name, variable_of}
use Rattle.access_blocks.specs.Resolving.{Resolving, resolved, taken}
use Rattle.access_blocks.specs.Resolving as resolving
use Rattle.body_code.specs.Typing.{needs, type_of, where_type, and_then}
use Rattle.typed_bodies.specs.Reading.{Place, IsSound, Follows, IsOfType, cursor_at, known_as, is_plain, are_plain}
use Rattle.typed_bodies.specs.Expressions.{IsFound, IsCall, IsInvoked, is_access, is_field, begins_plainly}
use Rattle.typed_bodies.proofs.Steps.{unbroken, adds_none, noted_follows, follows_noted, past_follows, follows_past, past_quiet, then_made, follows_two}
use Rattle.typed_bodies.proofs.Conversions.{int_is, long_is, bool_is, new_vector_is, gathered_length_is, gathered_is, operated_typed, chosen_typed, negated_typed, cast_typed, taken_typed}
use Rattle.typed_bodies.proofs.Arguments.{known_typed, plain_both, begins_with}
use Rattle.typed_bodies.proofs.Needing.{within_operated, within_chosen, within_negated, within_converted, within_vector, within_literal, within_bool, within_variable, within_gathered_length, within_gathered_at, within_expression_in, needs_literal, needs_variable}
use Rattle.typed_bodies.specs.Marking.{Passes, IsMarked, IsKey, is_state}
use Rattle.typed_bodies.proofs.Marking.{coming_is, marked, passes_none, passes_past, past_passes, passes_both, passes_as, passes_name}
use Rattle.typed_bodies.proofs.Marks.{marked_name, marked_call}
use Rattle.typed_bodies.proofs.Names.{names, known_there, named_first, with_variable}
use Rattle.typed_bodies.proofs.Members.{ReadsPart, IsItem, item_follows, no_state_int}

not_false : (b : Bool) → not b ≡ false → b ≡ true
not_false true e = refl
not_false false e = absurd (cc)

where_fits : (b : Bool) (t : ExprType) → b ≡ false → unless b t ≡ t
where_fits true t e = absurd (cc)
where_fits false t e = refl

with_parts : (broken : Bool) (part whole : ExprType) → broken ≡ false → is_known part ≡ true → with_part broken part whole ≡ whole
with_parts broken part whole e f = ap (λ b. if b || not (is_known part) then Unknown else whole) e ∙ ap (λ b. if not b then Unknown else whole) f

-- an expression of the type that was found
abbrev Typed : Place → ExprType → Expression → Type 0
Typed p t a = IsOfType p.context t a

retyped : (p : Place) {t u : ExprType} (a : Expression) → t ≡ u → Typed p u a → Typed p t a
retyped p a e typed = subst (λ (t : ExprType). IsOfType p.context t a) (sym e) typed

found_typed : (p : Place) {found : ExprType} {m : marking.Reading} {names : List Declaration} (r : Resolved) → IsFound p found m names r → are_plain p names ≡ true → Typed p r.found r.expression
found_typed p r is plain = retyped p r.expression is.same (is.typed plain)

-- ---- operands that go together

pub record Goes (s : Sort) (a b : ExprType) (t : Tested) (w : Walk) : Type 0 where
  pub no_vectors : are_vectors_compared s a b ≡ false
  pub first : not (is_operand s a) ≡ false
  pub second : misfits_behind s a b ≡ false
  pub holds : t.holds ≡ false
  pub same : t.walk ≡ w
  pub quiet : w.findings ≡ []

neither : (a b : Bool) → a ≡ false → b ≡ false → (a || b) ≡ false
neither true b e f = e
neither false b e f = f

abbrev clash_by : Bool → Sort → ℕ → Operand → Operand → Walk → Tested
clash_by true s at a b w = record { holds = true; walk = noted true at 7 w }
clash_by false s at a b w = record {
  holds = not (is_operand s a.found) || misfits_behind s a.found b.found;
  walk = noted (misfits_behind s a.found b.found) b.at 7 (noted (not (is_operand s a.found)) a.at 7 w);
}

clash_is : (vectors : Bool) (s : Sort) (at : ℕ) (a b : Operand) (w : Walk) → (if vectors then clash_by true s at a b w else clash_by false s at a b w) ≡ clash_by vectors s at a b w
clash_is true s at a b w = refl
clash_is false s at a b w = refl

outcome_is : (holds : Bool) (s : Sort) (a b : ExprType) → holds ≡ false → is_known a ≡ true → is_known b ≡ true → outcome holds s a b ≡ given_by s a b
outcome_is holds s a b e f g =
    ap (λ h. if h || (not (is_known a) || not (is_known b)) then Unknown else given_by s a b) e
    ∙ (ap (λ k. if not k || not (is_known b) then Unknown else given_by s a b) f ∙ ap (λ k. if not k then Unknown else given_by s a b) g)

choice_is : (holds : Bool) (t a b : ExprType) → holds ≡ false → is_known t ≡ true → is_known a ≡ true → is_known b ≡ true → choice holds t a b ≡ given_by sort.Bitwise a b
choice_is holds t a b e d f g =
    ap (λ h. if h || (not (is_known t) || (not (is_known a) || not (is_known b))) then Unknown else given_by sort.Bitwise a b) e
    ∙ (ap (λ k. if not k || (not (is_known a) || not (is_known b)) then Unknown else given_by sort.Bitwise a b) d
    ∙ (ap (λ k. if not k || not (is_known b) then Unknown else given_by sort.Bitwise a b) f ∙ ap (λ k. if not k then Unknown else given_by sort.Bitwise a b) g))

pub boolean_alone : (p : Place) (found : ExprType) (a : Expression) → Typed p found a → not (may_be_boolean found) ≡ false → type_of p.context a ≡ Some type.Boolean
boolean_alone p Unknown a typed fit = absurd typed
boolean_alone p (Value value.Boolean) a typed fit = typed
boolean_alone p (State class) a typed fit = absurd typed
boolean_alone p found a typed fit = absurd (cc)

goes_by : (vectors : Bool) (s : Sort) (at : ℕ) (a b : Operand) (w : Walk) → are_vectors_compared s a.found b.found ≡ vectors
    → (clash_by vectors s at a b w).walk.findings ≡ [] → Goes s a.found b.found (clash_by vectors s at a b w) w
goes_by true s at a b w is quiet = let u = unbroken true at 7 w quiet in let h : true ≡ false = u.holds in absurd (cc)
goes_by false s at a b w is quiet =
    let second = unbroken (misfits_behind s a.found b.found) b.at 7 (noted (not (is_operand s a.found)) a.at 7 w) quiet in
    let first = unbroken (not (is_operand s a.found)) a.at 7 w second.quiet in
    record {
      no_vectors = is;
      first = first.holds;
      second = second.holds;
      holds = neither _ _ first.holds second.holds;
      same = second.same ∙ first.same;
      quiet = first.quiet;
    }

pub goes : (s : Sort) (at : ℕ) (a b : Operand) (w : Walk) → (clash s at a b w).walk.findings ≡ [] → Goes s a.found b.found (clash s at a b w) w
unfolding clash
goes s at a b w quiet =
    let is = clash_is (are_vectors_compared s a.found b.found) s at a b w in
    subst (λ (t : Tested). t.walk.findings ≡ [] → Goes s a.found b.found t w) (sym is) (goes_by (are_vectors_compared s a.found b.found) s at a b w refl) quiet

follows_to : {A : Type 0} {w u v : Walk} (p : Place) {reading : Cursor → Read A} {Fits : List Declaration → A → Type 0} → v ≡ u → Follows p w u reading Fits → Follows p w v reading Fits
follows_to {w = w} p {reading = reading} {Fits = Fits} e f = subst (λ (end : Walk). Follows p w end reading Fits) (sym e) f

-- ---- each form of expression

-- what is found of a binary expression is of its type
operated_made : (p : Place) (op : BinOp) (fa fb : ExprType) (holds : Bool) {m n : marking.Reading} (names more : List Declaration) (a b : Resolved)
    → are_vectors_compared (sort_of op) fa fb ≡ false → not (is_operand (sort_of op) fa) ≡ false → misfits_behind (sort_of op) fa fb ≡ false → holds ≡ false
    → IsFound p fa m names a → IsFound p fb n more b → are_plain p (names ++ more) ≡ true
    → Typed p (outcome holds (sort_of op) fa fb) (resolving.operated op a b)
operated_made p op fa fb holds names more a b vectors one two unheld is_a is_b plain =
    let plains = plain_both p names more plain in
    let ta : Typed p a.found a.expression = found_typed p a is_a plains.0 in
    let tb : Typed p b.found b.expression = found_typed p b is_b plains.1 in
    let s = sort_of op in
    let swap = λ (f : ExprType → ExprType → Bool). ap₂ f is_a.same is_b.same in
    let typed = operated_typed p.context op a b ta tb (swap (λ x y. are_vectors_compared s x y) ∙ vectors) (swap (λ x y. not (is_operand s x)) ∙ one) (swap (λ x y. misfits_behind s x y) ∙ two) in
    let ka : is_known fa ≡ true = known_typed p.context fa a.expression (is_a.typed plains.0) in
    let kb : is_known fb ≡ true = known_typed p.context fb b.expression (is_b.typed plains.1) in
    retyped p (resolving.operated op a b) (outcome_is holds s fa fb unheld ka kb ∙ sym (ap₂ (λ x y. given_by s x y) is_a.same is_b.same)) typed

chosen_made : (p : Place) (ft fa fb : ExprType) (holds : Bool) {m n k : marking.Reading} (names more others : List Declaration) (t a b : Resolved)
    → not (may_be_boolean ft) ≡ false → not (is_operand sort.Equality fa) ≡ false → misfits_behind sort.Equality fa fb ≡ false → holds ≡ false
    → IsFound p ft m names t → IsFound p fa n more a → IsFound p fb k others b → are_plain p ((names ++ more) ++ others) ≡ true
    → Typed p (choice holds ft fa fb) (resolving.chosen_between (choice holds ft fa fb) t a b)
chosen_made p ft fa fb holds names more others t a b test one two unheld is_t is_a is_b plain =
    let outer = plain_both p (names ++ more) others plain in
    let plains = plain_both p names more outer.0 in
    let ta : Typed p a.found a.expression = found_typed p a is_a plains.1 in
    let tb : Typed p b.found b.expression = found_typed p b is_b outer.1 in
    let truth : type_of p.context t.expression ≡ Some type.Boolean = boolean_alone p ft t.expression (is_t.typed plains.0) test in
    let swap = λ (f : ExprType → ExprType → Bool). ap₂ f is_a.same is_b.same in
    let typed = chosen_typed p.context t a b truth ta tb (swap (λ x y. not (is_operand sort.Equality x)) ∙ one) (swap (λ x y. misfits_behind sort.Equality x y) ∙ two) in
    let kt : is_known ft ≡ true = known_typed p.context ft t.expression (is_t.typed plains.0) in
    let ka : is_known fa ≡ true = known_typed p.context fa a.expression (is_a.typed plains.1) in
    let kb : is_known fb ≡ true = known_typed p.context fb b.expression (is_b.typed outer.1) in
    let is : choice holds ft fa fb ≡ given_by sort.Bitwise a.found b.found = choice_is holds ft fa fb unheld kt ka kb ∙ sym (ap₂ (λ x y. given_by sort.Bitwise x y) is_a.same is_b.same) in
    subst (λ (u : ExprType). Typed p u (resolving.chosen_between u t a b)) (sym is) typed

record Both (p : Place) (first_found second_found : ExprType) (m n : marking.Reading) (all : List Declaration) (x : Resolved × Resolved) : Type 0 where
  names : List Declaration
  more : List Declaration
  are : all ≡ names ++ more
  first : IsFound p first_found m names x.0
  second : IsFound p second_found n more x.1

vector_made : (declared vector : Bool) → not declared ≡ false → (declared && not vector) ≡ false → vector ≡ true
vector_made true true e f = refl
vector_made true false e f = absurd (cc)
vector_made false vector e f = absurd (cc)

literal_typed : (p : Place) (digits : ℕ) (long : Bool) → Typed p (literal long) (resolving.literal digits long)
literal_typed p digits true = long_is p.context _
literal_typed p digits false = int_is p.context _

both_hold : (a b : Bool) → (a && b) ≡ true → a ≡ true × b ≡ true
both_hold true true e = (refl, refl)
both_hold true false e = absurd (cc)
both_hold false b e = absurd (cc)

not_both : (a b : Bool) → b ≡ false → (a && b) ≡ false
not_both true b e = e
not_both false b e = refl

length_typed : (p : Place) (found : ExprType) (name : List ℕ) (a : Expression) → not (may_have_length found name) ≡ false → Typed p found a
    → Typed p (with_part (not (may_have_length found name)) found (Value value.Int)) x.GatheredLength
length_typed p Unknown name a fit typed = absurd typed
length_typed p Void name a fit typed = absurd (cc)
length_typed p (Value t) name a fit typed = absurd (cc)
length_typed p (Collection t) name a fit typed =
    retyped p x.GatheredLength (with_parts (not (bytes_eq name (codes "length"))) (Collection t) (Value value.Int) fit refl)
    (gathered_length_is p.context ∙ ap (λ o. and_then o (Some type.Int)) typed)
length_typed p (State class) name a fit typed = absurd typed

gathered_typed : (p : Place) (found : ExprType) (r : Resolved) → IsItem p found r → Typed p found (resolving.gathered_at r)
gathered_typed p found r i =
    retyped p (resolving.gathered_at r) i.is
    (gathered_is p.context (taken (Value value.Int) r) ∙ (ap (λ o. and_then (where_type o type.Int type.Int) p.context.members) i.index ∙ i.members))

begins_first : (p : Place) (first : Declaration) (others names : List Declaration) → names ≡ first ∷ others → are_plain p names ≡ true → begins_plainly p names ≡ true
begins_first p first others names are plain =
    subst (λ (ns : List Declaration). begins_plainly p ns ≡ true) (sym are) (begins_with p first others (subst (λ (ns : List Declaration). are_plain p ns ≡ true) are plain))

-- a call that gives a value and reaches no state is an expression
value_alone : (p : Place) (found : ExprType) (i : Invoked) → is_void found ≡ false → is_access i ≡ false → IsInvoked p found i → Typed p found (resolving.expression_in i)
value_alone p found (invoked.Value a) void access is = is
value_alone p found (invoked.Sets v at b) void access is = let h : true ≡ false = sym (ap is_void is.is_void) ∙ void in absurd (cc)
value_alone p found (invoked.Accesses a) void access is = absurd (cc)

-- a call that is followed
abbrev pub ReadsCall : Place → Bool → Calling → resolving.Calling → marking.Calling → Type 0
ReadsCall p of_member call s m = (w : Walk) → (call w).walk.findings ≡ [] → Follows p w (call w).walk s (IsCall p of_member (call w).found m)

-- ---- no field goes where a value is taken

no_state_operand : (s : Sort) (t : ExprType) → not (is_operand s t) ≡ false → is_state t ≡ false
no_state_operand sort.Arithmetic (State class) e = absurd (cc)
no_state_operand sort.Shift (State class) e = absurd (cc)
no_state_operand sort.Comparison (State class) e = absurd (cc)
no_state_operand sort.Equality (State class) e = absurd (cc)
no_state_operand sort.Bitwise (State class) e = absurd (cc)
no_state_operand sort.Logical (State class) e = absurd (cc)
no_state_operand s Unknown e = refl
no_state_operand s Void e = refl
no_state_operand s (Value t) e = refl
no_state_operand s (Collection t) e = refl

pub no_state_second : (s : Sort) (a b : ExprType) → misfits_behind s a b ≡ false → is_state b ≡ false
no_state_second s a b e = no_state_operand s b (first_false (not (is_operand s b)) _ e)
  where
    first_false : (x y : Bool) → (x || y) ≡ false → x ≡ false
    first_false true y e = e
    first_false false y e = refl

no_state_truth : (t : ExprType) → not (may_be_boolean t) ≡ false → is_state t ≡ false
no_state_truth (State class) e = absurd (cc)
no_state_truth Unknown e = refl
no_state_truth Void e = refl
no_state_truth (Value t) e = refl
no_state_truth (Collection t) e = refl

no_state_number : (t : ExprType) → not (may_be_number t) ≡ false → is_state t ≡ false
no_state_number (State class) e = absurd (cc)
no_state_number Unknown e = refl
no_state_number Void e = refl
no_state_number (Value t) e = refl
no_state_number (Collection t) e = refl

no_state_taken : (op : UnOp) (t : ExprType) → not (takes op t) ≡ false → is_state t ≡ false
no_state_taken un.Plus t e = no_state_number t e
no_state_taken un.Minus t e = no_state_number t e
no_state_taken un.Complement t e = no_state_number t e
no_state_taken un.Not t e = no_state_truth t e

no_state_length : (t : ExprType) (name : List ℕ) → not (may_have_length t name) ≡ false → is_state t ≡ false
no_state_length (State class) name e = absurd (cc)
no_state_length Unknown name e = refl
no_state_length Void name e = refl
no_state_length (Value t) name e = refl
no_state_length (Collection t) name e = refl

-- what was read is this, and no name
abbrev Read_is : Resolved → List Declaration → Resolved → Type 0
Read_is r ns s = (s ≡ r) × (ns ≡ [])

abbrev marks_key : Option Declaration → Key
marks_key o = variable_key o

-- what isn't of the type of a field is no field
no_field : (p : Place) (sound : IsSound p) (name : List ℕ) (it : Variable) → known_as p name ≡ Some it → is_state it.found ≡ false → is_field it.declaration ≡ false
no_field p sound name it is free = by it.declaration refl
  where
    by : (d : Declaration) → it.declaration ≡ d → is_field d ≡ false
    by (declaration.Field n) e = let state = sound.fields name it n is e in let h : true ≡ false = ap is_state (sym state) ∙ free in absurd (cc)
    by (declaration.Method n) e = refl
    by (declaration.Parameter n) e = refl
    by (declaration.Local n) e = refl

module _ (p : Place) where
  pub binary_follows : (op : BinOp) (left right : Reading) (a b : Resolving) (m n : marking.Reading) → ReadsPart p left a m → ReadsPart p right b n → (w : Walk)
      → (binary p.env op left right w).walk.findings ≡ []
      → Follows p w (binary p.env op left right w).walk (resolving.binary op a b (binary p.env op left right w).found) (IsFound p (binary p.env op left right w).found (marking.expr_step p.marks (e.Binary op m n)))
  unfolding operated
  binary_follows op left right a b m n reads_left reads_right w quiet =
      let l = left false w in
      let between = past p.env 1 l.walk in
      let r = right false between in
      let t = clash (sort_of op) w.at (record { found = l.found; at = w.at }) (record { found = r.found; at = between.at }) r.walk in
      let g = goes (sort_of op) w.at (record { found = l.found; at = w.at }) (record { found = r.found; at = between.at }) r.walk quiet in
      let two = reads_right false between g.quiet in
      let one = reads_left false w (past_quiet p.env 1 l.walk two.added.no_findings) in
      let whole = outcome t.holds (sort_of op) l.found r.found in
      follows_to p g.same
      (follows_two p (IsFound p l.found m) (IsFound p r.found n) (λ x y. resolved (resolving.operated op x y) whole) (IsFound p whole (marking.expr_step p.marks (e.Binary op m n)))
      (λ names more x y is_x is_y. record {
        same = refl;
        typed = λ plain. operated_made p op l.found r.found t.holds names more x y g.no_vectors g.first g.second g.holds is_x is_y plain;
        marked = marked p whole (passes_both p (is_state whole) (no_state_operand (sort_of op) l.found g.first) (no_state_second (sort_of op) l.found r.found g.second)
            (passes_past p 1 is_x.marked.inside) is_y.marked.inside);
        key = λ u rest at. tt;
        within = λ plain. let plains = plain_both p names more plain in within_operated p op x y (is_x.within plains.0) (is_y.within plains.1);
      })
      one (past_follows p p.env 1 two))

  pub conditional_follows : (test first second : Reading) (t a b : Resolving) (m n k : marking.Reading) → ReadsPart p test t m → ReadsPart p first a n → ReadsPart p second b k → (w : Walk)
      → (conditional p.env test first second w).walk.findings ≡ []
      → Follows p w (conditional p.env test first second w).walk (resolving.conditional t a b (conditional p.env test first second w).found) (IsFound p (conditional p.env test first second w).found (marking.expr_step p.marks (e.Conditional m n k)))
  unfolding chosen
  conditional_follows test first second t a b m n k reads_test reads_first reads_second w quiet =
      let q = test false w in
      let w1 = past p.env 1 q.walk in
      let l = first false w1 in
      let w2 = past p.env 1 l.walk in
      let r = second false w2 in
      let untested = not (may_be_boolean q.found) in
      let c = clash sort.Equality w.at (record { found = l.found; at = w1.at }) (record { found = r.found; at = w2.at }) (noted untested w.at 7 r.walk) in
      let g = goes sort.Equality w.at (record { found = l.found; at = w1.at }) (record { found = r.found; at = w2.at }) (noted untested w.at 7 r.walk) quiet in
      let u = unbroken untested w.at 7 r.walk g.quiet in
      let three = reads_second false w2 u.quiet in
      let two = reads_first false w1 (past_quiet p.env 1 l.walk three.added.no_findings) in
      let one = reads_test false w (past_quiet p.env 1 q.walk two.added.no_findings) in
      let whole = choice (untested || c.holds) q.found l.found r.found in
      follows_to p g.same (follows_noted p u
      (follows_two p (λ names (x : Resolved × Resolved). Both p q.found l.found m n names x) (IsFound p r.found k)
      (λ (x : Resolved × Resolved) z. resolved (resolving.chosen_between whole x.0 x.1 z) whole) (IsFound p whole (marking.expr_step p.marks (e.Conditional m n k)))
      (λ names others x z both is_z. record {
        same = refl;
        typed = λ plain. chosen_made p q.found l.found r.found (untested || c.holds) both.names both.more others x.0 x.1 z u.holds g.first g.second (neither _ _ u.holds g.holds) both.first both.second is_z
            (subst (λ (ns : List Declaration). are_plain p (ns ++ others) ≡ true) both.are plain);
        marked = marked p whole (subst (λ (ns : List Declaration). Passes p (λ u. marking.parts p.marks (e.Conditional m n k) u) (is_state whole) (ns ++ others)) (sym both.are)
            (passes_both p (is_state whole) refl (no_state_second sort.Equality l.found r.found g.second)
            (passes_past p 1 (passes_both p false (no_state_truth q.found u.holds) (no_state_operand sort.Equality l.found g.first) (passes_past p 1 both.first.marked.inside) both.second.marked.inside))
            is_z.marked.inside));
        key = λ u rest at. tt;
        within = λ plain.
            let outer = plain_both p (both.names ++ both.more) others (subst (λ (ns : List Declaration). are_plain p (ns ++ others) ≡ true) both.are plain) in
            let plains = plain_both p both.names both.more outer.0 in
            within_chosen p whole x.0 x.1 z (both.first.within plains.0) (both.second.within plains.1) (is_z.within outer.1);
      })
      (follows_two p (IsFound p q.found m) (IsFound p l.found n) (λ x y. (x, y)) (λ names (x : Resolved × Resolved). Both p q.found l.found m n names x)
      (λ names more x y is_x is_y. record { names = names; more = more; are = refl; first = is_x; second = is_y })
      one (past_follows p p.env 1 two))
      (past_follows p p.env 1 three)))

  pub unary_follows : (op : UnOp) (part : Reading) (a : Resolving) (m : marking.Reading) → ReadsPart p part a m → (w : Walk) → (behind_operator p.env op part w).walk.findings ≡ []
      → Follows p w (behind_operator p.env op part w).walk (resolving.from a (resolving.negated op) (behind_operator p.env op part w).found) (IsFound p (behind_operator p.env op part w).found (marking.expr_step p.marks (e.Unary op m)))
  unfolding unary
  unary_follows op part a m reads w quiet =
      let w1 = past p.env 1 w in
      let t = part (is_minus op) w1 in
      let u = unbroken (not (takes op t.found)) w1.at 7 t.walk quiet in
      let whole = unless (not (takes op t.found)) t.found in
      past_follows p p.env 1 (follows_noted p u
      (then_made p (λ r. resolved (resolving.negated op r) whole) (IsFound p whole (marking.expr_step p.marks (e.Unary op m)))
      (λ names r is. record {
        same = refl;
        typed = λ plain. retyped p (resolving.negated op r) (where_fits _ t.found u.holds ∙ sym is.same)
            (negated_typed p.context op r (found_typed p r is plain) (ap (λ (f : ExprType). not (takes op f)) is.same ∙ u.holds));
        within = λ plain. within_negated p op r (is.within plain);
        marked = marked p whole (passes_as p (λ no. no_state_taken op t.found u.holds) (past_passes p 1 is.marked.inside));
        key = λ u rest at. tt;
      })
      (reads (is_minus op) w1 u.quiet)))

  pub cast_follows : (to : Num) (part : Reading) (a : Resolving) (m : marking.Reading) → ReadsPart p part a m → (w : Walk) → (behind_type p.env to part w).walk.findings ≡ []
      → Follows p w (behind_type p.env to part w).walk (resolving.from a (taken (resolving.number_type to)) (behind_type p.env to part w).found) (IsFound p (behind_type p.env to part w).found (marking.expr_step p.marks (e.Cast to m)))
  unfolding cast
  cast_follows to part a m reads w quiet =
      let w1 = past p.env 3 w in
      let t = part false w1 in
      let u = unbroken (not (may_be_number t.found)) w1.at 7 t.walk quiet in
      let whole = with_part (not (may_be_number t.found)) t.found (type_of_num to) in
      past_follows p p.env 3 (follows_noted p u
      (then_made p (λ r. resolved (taken (resolving.number_type to) r) whole) (IsFound p whole (marking.expr_step p.marks (e.Cast to m)))
      (λ names r is. record {
        same = refl;
        typed = λ plain. retyped p (taken (resolving.number_type to) r) (with_parts _ t.found (type_of_num to) u.holds (known_typed p.context t.found r.expression (is.typed plain)))
            (cast_typed p.context to r.found r.expression (found_typed p r is plain) (ap (λ (f : ExprType). not (may_be_number f)) is.same ∙ u.holds));
        within = λ plain. within_converted p (resolving.number_type to) r.found r.expression (is.within plain);
        marked = marked p whole (passes_as p (λ no. no_state_number t.found u.holds) (past_passes p 3 is.marked.inside));
        key = λ u rest at. tt;
      })
      (reads false w1 u.quiet)))

  pub paren_follows : (part : Reading) (a : Resolving) (m : marking.Reading) → ReadsPart p part a m → (w : Walk) → (in_parentheses p.env part w).walk.findings ≡ []
      → Follows p w (in_parentheses p.env part w).walk (resolving.from a (λ r. r.expression) (in_parentheses p.env part w).found) (IsFound p (in_parentheses p.env part w).found (marking.expr_step p.marks (e.Paren m)))
  paren_follows part a m reads w quiet =
      let t = part false (past p.env 1 w) in
      past_follows p p.env 1 (follows_past p p.env 1
      (then_made p (λ r. resolved r.expression t.found) (IsFound p t.found (marking.expr_step p.marks (e.Paren m)))
      (λ names r is. record { same = refl; typed = is.typed; within = is.within; marked = marked p t.found (passes_past p 1 (past_passes p 1 is.marked.inside)); key = is.key })
      (reads false (past p.env 1 w) (past_quiet p.env 1 t.walk quiet))))

  pub new_follows : (name : List ℕ) (part : Reading) (a : Resolving) (m : marking.Reading) → ReadsPart p part a m → (w : Walk) → (made_of p.env name part w).walk.findings ≡ []
      → Follows p w (made_of p.env name part w).walk (resolving.from a resolving.vector_of (made_of p.env name part w).found) (IsFound p (made_of p.env name part w).found (marking.expr_step p.marks (e.New name m)))
  unfolding made sized
  new_follows name part a m reads w quiet =
      let declared = is_type p.env.class_name name in
      let behind = past p.env 1 w in
      let n1 = noted (not declared) behind.at 3 behind in
      let n2 = noted (declared && not (is_vector_name name)) w.at 6 n1 in
      let w1 = past p.env 2 n2 in
      let t = part false w1 in
      let u = unbroken (not (fits (Value value.Int) t.found)) w1.at 7 (past p.env 1 t.walk) quiet in
      let f = reads false w1 (past_quiet p.env 1 t.walk u.quiet) in
      let six = unbroken (declared && not (is_vector_name name)) w.at 6 n1 (past_quiet p.env 2 n2 f.added.no_findings) in
      let three = unbroken (not declared) behind.at 3 behind six.quiet in
      let whole = with_part (not (fits (Value value.Int) t.found)) t.found (made_type (is_vector_name name)) in
      follows_noted p u (follows_past p p.env 1 (past_follows p p.env 1 (noted_follows p three (noted_follows p six (past_follows p p.env 2
      (then_made p (λ r. resolved (resolving.vector_of r) whole) (IsFound p whole (marking.expr_step p.marks (e.New name m)))
      (λ names r is. record {
        same = refl;
        typed = λ plain.
            let typed : Typed p r.found r.expression = found_typed p r is plain in
            let index : type_of p.context (taken (Value value.Int) r) ≡ Some type.Int =
            taken_typed p.context value.Int r.found r.expression typed (ap (λ (f : ExprType). fits (Value value.Int) f) is.same ∙ not_false _ u.holds) in
            let vector : is_vector_name name ≡ true = vector_made declared (is_vector_name name) three.holds six.holds in
            retyped p (resolving.vector_of r)
            (with_parts _ t.found (made_type (is_vector_name name)) u.holds (known_typed p.context t.found r.expression (is.typed plain)) ∙ ap made_type vector)
            (new_vector_is p.context (taken (Value value.Int) r) ∙ ap (λ o. where_type o type.Int type.Vector) index);
        within = λ plain. within_vector p r (is.within plain);
        marked = marked p whole (passes_as p (λ no. no_state_int t.found u.holds) (passes_past p 1 (past_passes p 3 is.marked.inside)));
        key = λ u rest at. tt;
      })
      f))))))

  pub number_follows : (broken decimal long : Bool) (digits : ℕ) (w : Walk) → (number p.env broken long w).walk.findings ≡ []
      → Follows p w (number p.env broken long w).walk (λ c. read (resolving.number digits decimal long (number p.env broken long w).found) c) (IsFound p (number p.env broken long w).found (marking.expr_step p.marks (e.Number digits decimal long)))
  unfolding number
  number_follows broken decimal long digits w quiet =
      let u = unbroken broken w.at 1 w (past_quiet p.env 1 _ quiet) in
      follows_past p p.env 1 (follows_noted p u (record {
        added = adds_none w u.quiet;
        in_step = λ known c types names stands. record {
          behind = stands;
          fits = record {
            same = refl;
            typed = λ plain. retyped p (resolving.literal digits long) (where_fits broken (literal long) u.holds) (literal_typed p digits long);
            within = λ plain. within_literal p digits long;
            marked = marked p _ (passes_past p 1 (passes_none p _));
            key = λ u rest at. needs_literal p digits long;
          };
        };
      }))

  pub truth_follows : (b : Bool) (w : Walk) → (past p.env 1 w).findings ≡ []
      → Follows p w (past p.env 1 w) (λ c. read (resolved (x.Bool b) (Value value.Boolean)) c) (IsFound p (Value value.Boolean) (marking.expr_step p.marks (e.Bool b)))
  truth_follows b w quiet =
      follows_past p p.env 1 (record {
        added = adds_none w (past_quiet p.env 1 w quiet);
        in_step = λ known c types names stands. record { behind = stands; fits = record { same = refl; typed = λ plain. bool_is p.context b; within = λ plain. within_bool p b; marked = marked p (Value value.Boolean) (passes_past p 1 (passes_none p false)); key = λ u rest at. tt } };
      })

  nothing_read : {A : Type 0} (a : A) (Fits : List Declaration → A → Type 0) (w : Walk) → w.findings ≡ [] → Fits [] a → Follows p w w (λ c. read a c) Fits
  nothing_read a Fits w quiet fits = record { added = adds_none w quiet; in_step = λ known c types names stands. record { behind = stands; fits = fits } }

  module _ (sound : IsSound p) where
    pub name_follows : (name : List ℕ) (w : Walk) → (named p.env name w).walk.findings ≡ []
        → Follows p w (named p.env name w).walk (λ c. read (resolved (x.Variable (variable_of c (name_here c))) (named p.env name w).found) (behind_name c)) (IsFound p (named p.env name w).found (marking.expr_step p.marks (e.Name name)))
    name_follows name w quiet =
        let t = named p.env name w in
        let n = names p.env name w quiet in
        let d = n.it.declaration in
        let r = resolved (x.Variable (variable_of (cursor_at p) (Some d))) t.found in
        named_first p d (λ o c. read (resolved (x.Variable (variable_of c o)) t.found) c) (Read_is r) (IsFound p t.found (marking.expr_step p.marks (e.Name name))) n.adds
        (λ known ns s is. subst (λ (s : Resolved). IsFound p t.found (marking.expr_step p.marks (e.Name name)) (d ∷ ns) s) (sym is.0) (record {
          same = refl;
          typed = λ plain. retyped p (x.Variable (variable_of (cursor_at p) (Some d))) n.found
              (sound.variables name n.it (known_there p name w known n.is) (both_hold (is_plain p d) (are_plain p ns) plain).0);
          within = λ plain. within_variable p (variable_of (cursor_at p) (Some d))
              (record { name = name; it = n.it; is = known_there p name w known n.is; plain = (both_hold (is_plain p d) (are_plain p ns) plain).0; number = refl });
          marked = subst (λ (ns : List Declaration). IsMarked p (marking.expr_step p.marks (e.Name name)).walk t.found (d ∷ ns)) (sym is.1)
              (marked_name p t.found name n.it (known_there p name w known n.is) n.found (sound.no_methods name n.it (known_there p name w known n.is))
              (λ no. no_field p sound name n.it (known_there p name w known n.is) (ap is_state (sym n.found) ∙ no)));
          key = λ u rest at.
              subst (λ (o : Option Declaration). IsKey p (marks_key o) (needs (x.Variable (variable_of (cursor_at p) (Some d))))) (sym (coming_is p.marks u d (ns ++ rest) at))
              (needs_variable p (variable_of (cursor_at p) (Some d)));
        }))
        (with_variable p d (λ v c. read (resolved (x.Variable v) t.found) c) (Read_is r) (nothing_read r (Read_is r) t.walk quiet (refl, refl)))

    pub length_follows : (object name : List ℕ) (w : Walk) → (member p.env object name w).walk.findings ≡ []
        → Follows p w (member p.env object name w).walk (λ c. read (resolved x.GatheredLength (member p.env object name w).found) (behind_name c)) (IsFound p (member p.env object name w).found (marking.expr_step p.marks (e.Member object name)))
    unfolding member
    length_follows object name w quiet =
        let t = named p.env object w in
        let behind = past p.env 1 t.walk in
        let broken = not (may_have_length t.found name) in
        let u = unbroken broken behind.at 3 behind (past_quiet p.env 1 _ quiet) in
        let n = names p.env object w (past_quiet p.env 1 t.walk u.quiet) in
        let d = n.it.declaration in
        let whole = with_part broken t.found (Value value.Int) in
        follows_past p p.env 1 (follows_noted p u (follows_past p p.env 1
        (named_first p d (λ o c. read (resolved x.GatheredLength whole) c) (Read_is (resolved x.GatheredLength whole)) (IsFound p whole (marking.expr_step p.marks (e.Member object name))) n.adds
        (λ known ns s is. subst (λ (s : Resolved). IsFound p whole (marking.expr_step p.marks (e.Member object name)) (d ∷ ns) s) (sym is.0) (record {
          same = refl;
          typed = λ plain. length_typed p t.found name (x.Variable (variable_of (cursor_at p) (Some d))) u.holds (retyped p (x.Variable (variable_of (cursor_at p) (Some d))) n.found
              (sound.variables object n.it (known_there p object w known n.is) (both_hold (is_plain p d) (are_plain p ns) plain).0));
          within = λ plain. within_gathered_length p;
          marked = subst (λ (ns : List Declaration). IsMarked p (marking.expr_step p.marks (e.Member object name)).walk whole (d ∷ ns)) (sym is.1)
              (marked p whole (passes_past p 2 (passes_name p (is_state whole) d (sound.no_methods object n.it (known_there p object w known n.is))
              (λ no. no_field p sound object n.it (known_there p object w known n.is) (ap is_state (sym n.found) ∙ no_state_length t.found name u.holds)))));
          key = λ u rest at. tt;
        }))
        (nothing_read (resolved x.GatheredLength whole) (Read_is (resolved x.GatheredLength whole)) t.walk (past_quiet p.env 1 t.walk u.quiet) (refl, refl)))))

    pub index_follows : (name : List ℕ) (part : Reading) (a : Resolving) (m : marking.Reading) → ReadsPart p part a m → (w : Walk) → (item p.env name part w).walk.findings ≡ []
        → Follows p w (item p.env name part w).walk (λ c. resolving.from a resolving.gathered_at (item p.env name part w).found (behind_name c)) (IsFound p (item p.env name part w).found (marking.expr_step p.marks (e.Index name m)))
    index_follows name part a m reads w quiet =
        let whole = (item p.env name part w).found in
        then_made p (λ r. resolved (resolving.gathered_at r) whole) (IsFound p whole (marking.expr_step p.marks (e.Index name m)))
        (λ ns r found. record {
          same = refl;
          typed = λ plain. gathered_typed p whole r (found.typed (begins_first p found.first found.others ns found.are plain));
          marked = marked p whole (passes_as p (λ no. refl) (passes_past p 1 found.marked));
          key = λ u rest at. tt;
          within = λ plain. within_gathered_at p r (found.within (begins_first p found.first found.others ns found.are plain));
        })
        (item_follows p sound name part a m reads w quiet)

  pub call_follows : (of_member : Bool) (call : Calling) (s : resolving.Calling) (m : marking.Calling) → ReadsCall p of_member call s m → (w : Walk) → (called_value call w).walk.findings ≡ []
      → Follows p w (called_value call w).walk (λ c. read (resolved (resolving.expression_in (s c).it) (called_value call w).found) (s c).cursor) (IsFound p (called_value call w).found (marking.expr_step p.marks (e.Call m)))
  unfolding used
  call_follows of_member call s m reads w quiet =
      let t = call w in
      let u = unbroken (is_void t.found) w.at 7 t.walk quiet in
      let whole = unless (is_void t.found) t.found in
      follows_noted p u
      (then_made p (λ i. resolved (resolving.expression_in i) whole) (IsFound p whole (marking.expr_step p.marks (e.Call m)))
      (λ ns i is. record {
        same = refl;
        typed = λ plain. retyped p (resolving.expression_in i) (where_fits _ t.found u.holds)
            (value_alone p t.found i u.holds (is.no_access plain) (is.typed (not_both of_member (is_void t.found) u.holds) (is.begins plain)));
        within = λ plain. within_expression_in p i (is.within (is.begins plain));
        marked = marked_call p whole m is.grows is.no_global is.inside;
        key = λ u rest at. tt;
      })
      (reads w u.quiet))
