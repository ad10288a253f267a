-- Members of a collection, and calls of their methods.
use Rattle.std.proofs.Common.{◌≡◌, ℕ, Bool, true, false, not, ◌&&◌, ◌||◌, List, [], ◌∷◌, ◌++◌, map, Option, Some, None, if◌then◌else◌, refl, sym, ap, subst, ◌∙◌}
use Rattle.sdg_base.specs.declared.value_type.ValueType.TheVariants as type
use Rattle.sdg_base.specs.Signatures.{vector_method}
use Rattle.java_tree.specs.declared.types.ValueType.{ValueType}
use Rattle.java_tree.specs.declared.types.ValueType.TheVariants as value
use Rattle.java_tree.specs.declared.types.ExprType.{ExprType}
use Rattle.java_tree.specs.declared.types.ExprType.TheVariants.{Unknown, Void, Value, Collection, State}
use Rattle.java_tree.specs.declared.types.Declaration.{Declaration}
use Rattle.java_tree.specs.declared.types.Declaration.TheVariants as declaration
use Rattle.java_types.specs.declared.methods.Shape.{Shape}
use Rattle.java_types.specs.declared.walk.Walk.{Walk}
use Rattle.java_types.specs.Fits.{is_known, is_void, fits, with_part, item_type, may_be_collection}
use Rattle.java_types.specs.Laws as laws
use Rattle.java_types.specs.Methods.{method_of}
use Rattle.java_types.specs.Walks.{Typing, past, named, variable}
use Rattle.java_types.specs.Expressions.{Reading, Argument, indexed, sized, item, call_of}
use Rattle.java_types.proofs.Signatures.{vector_agrees}
use Rattle.java_tree.specs.declared.tree.CallForm.TheOpen as e
use Rattle.annotations.specs.Walks as marks
use Rattle.annotations.specs.Expressions as marking
use Rattle.access_blocks.specs.declared.body.Expression.{Expression}
use Rattle.access_blocks.specs.declared.resolved.Resolved.{Resolved}
use Rattle.access_blocks.specs.Cursors.{read, behind_name}
use Rattle.access_blocks.specs.Resolving.{Resolving, taken, member_call, member_step}
use Rattle.body_code.specs.Typing.{type_of, type_by, needs}
use Rattle.typed_bodies.specs.Reading.{Place, IsSound, Follows, IsOfType, is_plain, are_plain}
use Rattle.typed_bodies.specs.Marking.{Begins, Passes, is_state}
use Rattle.typed_bodies.specs.Wholes.{IsWhole}
use Rattle.typed_bodies.proofs.WholeCalls.{plainly}
use Rattle.annotations.specs.declared.position.Position.{Position}
use Rattle.annotations.specs.declared.position.Position.TheVariants.{Inside}
use Rattle.annotations.specs.Positions.{is_whole}
use Rattle.annotations.specs.declared.walk.Walk.{Walk as Marking}
use Rattle.access_blocks.specs.declared.resolved.Invoked.{Invoked}
use Rattle.typed_bodies.proofs.Marking.{passes_name, passes_past, passes_both}
use Rattle.typed_bodies.proofs.Marks.{member_grows, member_no_global, member_inside}
use Rattle.typed_bodies.specs.Needing.{IsWithin, IsWithinCall}
use Rattle.typed_bodies.specs.Expressions.{IsFound, IsCall, IsInvoked, is_field, begins_plainly, all_marked}
use Rattle.typed_bodies.proofs.Steps.{unbroken, noted_follows, follows_noted, past_follows, follows_past, past_quiet, then_made, in_step_both, adds_both}
use Rattle.typed_bodies.proofs.Conversions.{taken_typed}
use Rattle.typed_bodies.proofs.Arguments.{ReadsArgument, known_typed, plain_both, begins_with}
use Rattle.typed_bodies.proofs.Names.{names, known_there, named_first}
use Rattle.typed_bodies.proofs.Needing.{within_converted, within_member_call}
use Rattle.typed_bodies.proofs.Signed.{member_typed, no_access_member}
use Rattle.typed_bodies.proofs.DottedCalls.{Dotted, dotted_follows}

-- an expression that is followed, and found of the type that the rules say
abbrev pub ReadsPart : Place → Reading → Resolving → marking.Reading → Type 0
ReadsPart p part reading m = (negated : Bool) (w : Walk) → (part negated w).walk.findings ≡ [] → Follows p w (part negated w).walk reading (IsFound p (part negated w).found m)

both_hold : (a b : Bool) → (a && b) ≡ true → a ≡ true × b ≡ true
both_hold true true e = (refl, refl)
both_hold true false e = absurd (cc)
both_hold false b e = absurd (cc)

not_false : (b : Bool) → not b ≡ false → b ≡ true
not_false true e = refl
not_false false e = absurd (cc)

-- a member of a collection, and its index
pub record IsItem (p : Place) (found : ExprType) (r : Resolved) : Type 0 where
  pub of : ValueType
  pub is : found ≡ Value of
  pub members : p.context.members ≡ Some (type_by of)
  pub index : type_of p.context (taken (Value value.Int) r) ≡ Some type.Int

pub record ItemFound (p : Place) (found : ExprType) (m : marking.Reading) (names : List Declaration) (r : Resolved) : Type 0 where
  pub first : Declaration
  pub others : List Declaration
  pub are : names ≡ first ∷ others
  pub typed : begins_plainly p names ≡ true → IsItem p found r
  pub within : begins_plainly p names ≡ true → IsWithin p (needs r.expression)
  pub marked : Passes p (λ u. marking.inside m (marks.past p.marks 1 (marks.named p.marks u))) false names

record IsCollection (p : Place) (found : ExprType) : Type 0 where
  of : ValueType
  is : found ≡ Collection of
  members : p.context.members ≡ Some (type_by of)

collection_alone : (p : Place) (found : ExprType) (a : Expression) → IsOfType p.context found a → not (may_be_collection found) ≡ false → IsCollection p found
collection_alone p Unknown a typed fit = absurd typed
collection_alone p Void a typed fit = absurd (cc)
collection_alone p (Value t) a typed fit = absurd (cc)
collection_alone p (Collection t) a typed fit = record { of = t; is = refl; members = typed }
collection_alone p (State class) a typed fit = absurd typed

-- what a collection's name stands for
named_collection : (p : Place) (sound : IsSound p) (name : List ℕ) (w : Walk) (d : Declaration) (found : ExprType) → variable p.env w name ≡ Some (record { declaration = d; found = found })
    → w.variables ≡ p.known → not (may_be_collection found) ≡ false → (is_field d || is_plain p d) ≡ true → IsCollection p found
named_collection p sound name w (declaration.Field f) found is known fit plain =
    let state = sound.fields name _ f (known_there p name w known is) refl in
    let h : true ≡ false = ap (λ (t : ExprType). not (may_be_collection t)) (sym state) ∙ fit in
    absurd (cc)
named_collection p sound name w (declaration.Method m) found is known fit plain = collection_alone p found _ (sound.variables name _ (known_there p name w known is) plain) fit
named_collection p sound name w (declaration.Parameter m) found is known fit plain = collection_alone p found _ (sound.variables name _ (known_there p name w known is) plain) fit
named_collection p sound name w (declaration.Local m) found is known fit plain = collection_alone p found _ (sound.variables name _ (known_there p name w known is) plain) fit

with_parts : (broken : Bool) (part whole : ExprType) → broken ≡ false → is_known part ≡ true → with_part broken part whole ≡ whole
with_parts broken part whole e f = ap (λ b. if b || not (is_known part) then Unknown else whole) e ∙ ap (λ b. if not b then Unknown else whole) f

item_made : (p : Place) (sound : IsSound p) (name : List ℕ) (w : Walk) (d : Declaration) (variable_found found at : ExprType) {m : marking.Reading} (names : List Declaration) (r : Resolved)
    → variable p.env w name ≡ Some (record { declaration = d; found = variable_found }) → found ≡ variable_found → w.variables ≡ p.known
    → not (may_be_collection found) ≡ false → not (fits (Value value.Int) at) ≡ false → IsFound p at m names r → begins_plainly p (d ∷ names) ≡ true
    → IsItem p (with_part (not (fits (Value value.Int) at)) at (item_type found)) r
item_made p sound name w d variable_found found at names r is same known fit index_fit found_at plain =
    let plains = both_hold (is_field d || is_plain p d) (are_plain p names) plain in
    let c = named_collection p sound name w d variable_found is known (ap (λ (u : ExprType). not (may_be_collection u)) (sym same) ∙ fit) plains.0 in
    let typed : IsOfType p.context at r.expression = found_at.typed plains.1 in
    let found_is : found ≡ Collection c.of = same ∙ c.is in
    let whole : with_part (not (fits (Value value.Int) at)) at (item_type found) ≡ item_type found =
    with_parts (not (fits (Value value.Int) at)) at (item_type found) index_fit (known_typed p.context at r.expression typed) in
    record {
      of = c.of;
      is = whole ∙ ap item_type found_is;
      members = c.members;
      index = taken_typed p.context value.Int r.found r.expression (subst (λ (u : ExprType). IsOfType p.context u r.expression) (sym found_at.same) typed)
          (ap (λ (u : ExprType). fits (Value value.Int) u) found_at.same ∙ not_false _ index_fit);
    }

-- a field is no collection
no_field : (p : Place) (sound : IsSound p) (name : List ℕ) (w : Walk) (d : Declaration) (found : ExprType) → variable p.env w name ≡ Some (record { declaration = d; found = found })
    → w.variables ≡ p.known → not (may_be_collection found) ≡ false → is_field d ≡ false
no_field p sound name w (declaration.Field f) found is known fit =
    let state = sound.fields name _ f (known_there p name w known is) refl in
    let h : true ≡ false = ap (λ (t : ExprType). not (may_be_collection t)) (sym state) ∙ fit in
    absurd (cc)
no_field p sound name w (declaration.Method m) found is known fit = refl
no_field p sound name w (declaration.Parameter m) found is known fit = refl
no_field p sound name w (declaration.Local m) found is known fit = refl

pub no_state_int : (t : ExprType) → not (fits (Value value.Int) t) ≡ false → is_state t ≡ false
no_state_int (State class) e = absurd (cc)
no_state_int Unknown e = refl
no_state_int Void e = refl
no_state_int (Value t) e = refl
no_state_int (Collection t) e = refl

pub item_follows : (p : Place) (sound : IsSound p) (name : List ℕ) (part : Reading) (reading : Resolving) (m : marking.Reading) → ReadsPart p part reading m → (w : Walk)
    → (item p.env name part w).walk.findings ≡ [] → Follows p w (item p.env name part w).walk (λ c. reading (behind_name c)) (ItemFound p (item p.env name part w).found m)
unfolding indexed sized
item_follows p sound name part reading m reads w quiet =
    let t = named p.env name w in
    let i : Typing = indexed p.env name w in
    let a = part false i.walk in
    let misfit = unbroken (not (fits (Value value.Int) a.found)) i.walk.at 7 (past p.env 1 a.walk) quiet in
    let f = reads false i.walk (past_quiet p.env 1 a.walk misfit.quiet) in
    let member = unbroken (not (may_be_collection t.found)) w.at 7 (past p.env 1 t.walk) f.added.no_findings in
    let n = names p.env name w (past_quiet p.env 1 t.walk member.quiet) in
    follows_noted p misfit (follows_past p p.env 1
    (named_first p n.it.declaration (λ o. reading) (IsFound p a.found m) (ItemFound p (item p.env name part w).found m) n.adds
    (λ known names r is. record { first = n.it.declaration; others = names; are = refl; typed = λ plain. item_made p sound name w n.it.declaration n.it.found t.found a.found names r n.is n.found known member.holds misfit.holds is plain; within = λ plain. is.within (both_hold (is_field n.it.declaration || is_plain p n.it.declaration) (are_plain p names) plain).1; marked = passes_both p false refl (no_state_int a.found misfit.holds) (passes_past p 1 (passes_name p false n.it.declaration (sound.no_methods name n.it (known_there p name w known n.is)) (λ no. no_field p sound name w n.it.declaration n.it.found n.is known (ap (λ (u : ExprType). not (may_be_collection u)) (sym n.found) ∙ member.holds)))) is.marked.inside })
    (past_follows p p.env 1 (noted_follows p member f))))

-- ---- a call of a member's method

vector_item : (of : ValueType) (name : List ℕ) (s : Shape) → method_of (Value of) name ≡ Some s → of ≡ value.Vector
vector_item value.Int name s is = absurd (cc)
vector_item value.Long name s is = absurd (cc)
vector_item value.Boolean name s is = absurd (cc)
vector_item value.Vector name s is = refl

plain_split : (p : Place) (first : Declaration) (others more names : List Declaration) → names ≡ first ∷ others → begins_plainly p (names ++ more) ≡ true
    → begins_plainly p names ≡ true × are_plain p more ≡ true
plain_split p first others more names are plain =
    let here : ((is_field first || is_plain p first) && are_plain p (others ++ more)) ≡ true = subst (λ (ns : List Declaration). begins_plainly p (ns ++ more) ≡ true) are plain in
    let parts = both_hold (is_field first || is_plain p first) (are_plain p (others ++ more)) here in
    let rest = plain_both p others more parts.1 in
    let begins : ((is_field first || is_plain p first) && are_plain p others) ≡ true = ap (λ b. b && are_plain p others) parts.0 ∙ rest.0 in
    (subst (λ (ns : List Declaration). begins_plainly p ns ≡ true) (sym are) begins, rest.1)

begins_again : (p : Place) (first : Declaration) (others more names : List Declaration) → names ≡ first ∷ others → are_plain p (names ++ more) ≡ true → begins_plainly p (names ++ more) ≡ true
begins_again p first others more names are plain =
    subst (λ (ns : List Declaration). begins_plainly p (ns ++ more) ≡ true) (sym are)
    (begins_with p first (others ++ more) (subst (λ (ns : List Declaration). are_plain p (ns ++ more) ≡ true) are plain))

member_made : (p : Place) (owner : ExprType) (name : List ℕ) (found : ExprType) {m : marking.Reading} {ms : List marking.Argument} (names more : List Declaration) (r : Resolved) (args : List Expression)
    → ItemFound p owner m names r → Dotted p owner name (vector_method name) found ms more args → is_void found ≡ false → begins_plainly p (names ++ more) ≡ true
    → IsInvoked p found (member_call (taken (Value value.Int) r) name args)
member_made p owner name found names more r args item dotted read plain =
    let split = plain_split p item.first item.others more names item.are plain in
    let i = item.typed split.0 in
    let there : is_known owner ≡ true = ap is_known i.is in
    let shape = dotted.has_method there in
    let vector : i.of ≡ value.Vector = vector_item i.of name shape.0 (subst (λ (t : ExprType). method_of t name ≡ Some shape.0) i.is shape.1) in
    let is : owner ≡ Value value.Vector = i.is ∙ ap (λ (t : ValueType). Value t) vector in
    let agree : laws.Agree (method_of owner name) (vector_method name) = subst (λ (t : ExprType). laws.Agree (method_of t name) (vector_method name)) (sym is) (vector_agrees name) in
    member_typed p (taken (Value value.Int) r) name found args (i.members ∙ ap (λ (t : ValueType). Some (type_by t)) vector) i.index read (dotted.answered split.1 there agree)

-- a call of a member's method is nothing more as a whole
member_whole : (p : Place) (ms : List marking.Argument) (grow : (position : Position) (u : Marking) → (all_marked p.marks position ms u).findings ≡ [] → u.findings ≡ []) (at : marking.Reading) {names more : List Declaration}
    → Passes p (λ u. marking.inside at (marks.past p.marks 1 (marks.named p.marks u))) false names → (are_plain p names ≡ true → Passes p (all_marked p.marks Inside ms) false more)
    → (object name : List ℕ) (found : ExprType) (i : Invoked) (position : Position) (global : Option ℕ) → is_whole position ≡ true → (u : Marking) (rest : List Declaration)
    → Begins p (marking.call_step p.marks (e.OfMember object at name ms) position global) (names ++ more) u rest
    → IsWhole p position global found i (names ++ more) rest u (marking.call_step p.marks (e.OfMember object at name ms) position global u)
member_whole p ms grow at item a object name found i position (Some token) is u rest b = absurd (member_no_global p ms grow at item object name position token u b.quiet)
member_whole p ms grow at {names = names} {more = more} item a object name found i position None is u rest b =
    plainly p position found i (names ++ more) rest (marking.call_step p.marks (e.OfMember object at name ms) position None) u (member_inside p ms grow at item a object name)
    (record { agrees = b.agrees; before = b.before; quiet = b.quiet })

-- where names are plain they begin plainly
begins_once : (p : Place) (first : Declaration) (others names : List Declaration) → names ≡ first ∷ others → are_plain p names ≡ true → begins_plainly p names ≡ true
begins_once p first others names are plain =
    subst (λ (ns : List Declaration). begins_plainly p ns ≡ true) (sym are) (begins_with p first others (subst (λ (ns : List Declaration). are_plain p ns ≡ true) are plain))

module _ {Arg : Type 0} (p : Place) (sound : IsSound p) (pass : Arg → Argument) (reads : Arg → Resolving) (marked : Arg → marking.Argument)
    (each : (x : Arg) → ReadsArgument p (pass x) (reads x) (marked x)) where
  pub of_member_follows : (object : List ℕ) (part : Reading) (reading : Resolving) (m : marking.Reading) → ReadsPart p part reading m → (name : List ℕ) (args : List Arg) (w : Walk)
      → (call_of p.env w.at (item p.env object part w) name (map pass args)).walk.findings ≡ []
      → Follows p w (call_of p.env w.at (item p.env object part w) name (map pass args)).walk (λ c. member_step reading name (map reads args) (behind_name c))
      (IsCall p true (call_of p.env w.at (item p.env object part w) name (map pass args)).found (marking.call_step p.marks (e.OfMember object m name (map marked args))))
  of_member_follows object part reading m read_part name args w quiet =
      let t : Typing = item p.env object part w in
      let end : Typing = call_of p.env w.at t name (map pass args) in
      let ms = map marked args in
      let marks_of = marking.call_step p.marks (e.OfMember object m name (map marked args)) in
      let d = dotted_follows p pass reads marked each w.at t name args (vector_method name) quiet in
      let i = item_follows p sound object part reading m read_part w d.added.no_findings in
      then_made p (λ (x : Resolved × List Expression). member_call (taken (Value value.Int) x.0) name x.1) (IsCall p true end.found marks_of)
      (λ names x made. made)
      (record {
        added = adds_both i.added d.added;
        in_step = in_step_both p i.added d.added (ItemFound p t.found m) (λ r names (x : Resolved × List Expression). (x.0 ≡ r) × Dotted p t.found name (vector_method name) end.found ms names x.1)
            (λ names (x : Resolved × List Expression). IsCall p true end.found marks_of names (member_call (taken (Value value.Int) x.0) name x.1))
            (λ r x found dotted. record {
              typed = λ read plain. subst (λ (y : Resolved). IsInvoked p end.found (member_call (taken (Value value.Int) y) name x.1)) (sym dotted.0)
                  (member_made p t.found name end.found i.added.names d.added.names r x.1 found dotted.1 read plain);
              grows = member_grows p ms dotted.1.grows m found.marked object name;
              no_global = member_no_global p ms dotted.1.grows m found.marked object name Inside;
              whole = member_whole p ms dotted.1.grows m found.marked
                  (λ plain. dotted.1.inside (ap is_known (found.typed (begins_once p found.first found.others i.added.names found.are plain)).is)) object name end.found _;
              inside = member_inside p ms dotted.1.grows m found.marked
                  (λ plain. dotted.1.inside (ap is_known (found.typed (begins_once p found.first found.others i.added.names found.are plain)).is)) object name;
              within = λ plain.
                  let split = plain_split p found.first found.others d.added.names i.added.names found.are plain in
                  subst (λ (y : Resolved). IsWithinCall p (member_call (taken (Value value.Int) y) name x.1)) (sym dotted.0)
                  (within_member_call p (taken (Value value.Int) r) name x.1 (within_converted p (Value value.Int) r.found r.expression (found.within split.0)) (dotted.1.within split.1));
              begins = λ plain. begins_again p found.first found.others d.added.names i.added.names found.are plain;
              no_access = λ plain. no_access_member (taken (Value value.Int) x.0) name x.1;
            })
            i.in_step
            (λ r known c types names stands.
            let out = d.in_step known c types names stands in
            record { behind = out.behind; fits = (refl, out.fits) });
      })
