-- Calls of the methods of the class.
use Rattle.std.proofs.Common.{◌≡◌, ℕ, suc, Bool, true, false, not, ◌&&◌, ◌||◌, nat_eq, nat_le, List, [], ◌∷◌, ◌++◌, length, map, slice_get, Option, Some, None, if◌then◌else◌, refl, sym, ap, subst, ◌∙◌, inr, arith}
use Rattle.std.proofs.lemmas.Bool.Decides.{nat_tests}
use Rattle.sdg_base.specs.declared.value_type.ValueType.{ValueType as SignatureType}
use Rattle.sdg_base.specs.declared.value_type.ValueType.TheVariants as type
use Rattle.java_tree.specs.declared.method_kinds.MethodKind.{MethodKind}
use Rattle.java_tree.specs.declared.method_kinds.MethodKind.TheVariants.{Entry, Helper, Merge}
use Rattle.java_tree.specs.declared.types.ExprType.{ExprType}
use Rattle.java_tree.specs.declared.types.ExprType.TheVariants.{Unknown}
use Rattle.java_tree.specs.declared.types.Declaration.{Declaration}
use Rattle.java_tree.specs.declared.types.Declaration.TheVariants as declaration
use Rattle.java_types.specs.declared.walk.Env.{Env}
use Rattle.java_types.specs.declared.walk.Signature.{Signature}
use Rattle.java_types.specs.declared.walk.Walk.{Walk}
use Rattle.std.specs.List.{list_all}
use Rattle.java_types.specs.Fits.{is_known, unless, may_be_passed}
use Rattle.java_types.specs.Names.{entry_of}
use Rattle.java_types.specs.Walks.{Typing, Tested, past, noted, called, most_methods}
use Rattle.java_types.specs.Expressions.{Argument, param_at, is_entry, refused_call, sound_call, called_by, own_of, own, params_in, own_params, arguments, answered, own_call}
use Rattle.java_tree.specs.declared.tree.CallForm.TheOpen as e
use Rattle.annotations.specs.declared.position.Position.{Position}
use Rattle.annotations.specs.declared.position.Position.TheVariants.{Inside}
use Rattle.annotations.specs.Walks as marks
use Rattle.annotations.specs.Expressions as marking
use Rattle.access_blocks.specs.declared.body.Expression.{Expression}
use Rattle.access_blocks.specs.declared.body.Expression.TheVariants as x
use Rattle.access_blocks.specs.declared.resolved.Invoked.{Invoked}
use Rattle.access_blocks.specs.declared.resolved.Invoked.TheVariants as invoked
use Rattle.access_blocks.specs.declared.scope.Header.{Header}
use Rattle.access_blocks.specs.Cursors.{name_here, behind_name}
use Rattle.access_blocks.specs.Programs.{is_merge}
use Rattle.access_blocks.specs.Resolving.{Resolving, wanted_by, own_step}
use Rattle.access_blocks.specs.Resolving as resolving
use Rattle.flat_code.specs.Types.{same_type, same_types}
use Rattle.body_code.specs.Typing as typing
use Rattle.body_code.specs.Typing.{types_of, called_type}
use Rattle.typed_bodies.specs.Reading.{Place, IsSound, IsOneMethod, Follows, IsOfType, merges, are_plain}
use Rattle.typed_bodies.specs.Needing.{IsWithinCall}
use Rattle.typed_bodies.specs.Expressions.{IsCall, IsInvoked, ArePassed, is_access}
use Rattle.typed_bodies.proofs.Steps.{unbroken, then_made}
use Rattle.typed_bodies.proofs.Conversions.{call_is, as_signed}
use Rattle.typed_bodies.proofs.Arguments.{ReadsArgument, arguments_follow, begins_with, known_wanted}
use Rattle.typed_bodies.specs.Marking.{Begins, Passes}
use Rattle.typed_bodies.proofs.Marks.{own_grows, own_no_global, own_inside, merge_refused}
use Rattle.typed_bodies.specs.Wholes.{IsWhole}
use Rattle.typed_bodies.proofs.WholeCalls.{plainly, merge_whole}
use Rattle.annotations.specs.declared.walk.Walk.{Walk as Marking}
use Rattle.typed_bodies.proofs.Needing.{within_call}
use Rattle.typed_bodies.proofs.Names.{AddsName, named_first}

-- ---- the head of a call

record Head (s : Signature) (count : ℕ) (w : Walk) (t : Typing) : Type 0 where
  adds : AddsName w t.walk (declaration.Method s.number)
  counted : length s.params ≡ count
  no_entry : is_entry s.kind ≡ false
  found : t.found ≡ s.result

-- the walk goes on as it was, but for the calls that are known
record SameButCalls (w v : Walk) : Type 0 where
  types : v.types ≡ w.types
  names : v.names ≡ w.names
  variables : v.variables ≡ w.variables
  locals : v.locals ≡ w.locals
  findings : v.findings ≡ w.findings

called_if : (b : Bool) (w : Walk) (x : Tested) → SameButCalls w x.walk → SameButCalls w (if b then (record { holds = false; walk = w }) else x).walk
called_if true w x same = record { types = refl; names = refl; variables = refl; locals = refl; findings = refl }
called_if false w x same = same

called_same : (callee : ℕ) (w : Walk) → SameButCalls w (called callee w).walk
unfolding called
called_same callee w = called_if (nat_le most_methods w.caller || nat_le most_methods callee) w _ (record { types = refl; names = refl; variables = refl; locals = refl; findings = refl })

refused_by : (b : Bool) (w : Walk) (x : Tested) → SameButCalls w x.walk → (if b then (record { holds = true; walk = w }) else x).holds ≡ false
    → b ≡ false × SameButCalls w (if b then (record { holds = true; walk = w }) else x).walk
refused_by true w x same e = absurd (cc)
refused_by false w x same e = (refl, same)

none_of : (a b : Bool) (t : ExprType) → a ≡ false → b ≡ false → unless (a || b) t ≡ t
none_of true b t e f = absurd (cc)
none_of false true t e f = absurd (cc)
none_of false false t e f = refl

counted_is : (n m : ℕ) → not (nat_eq n m) ≡ false → n ≡ m
counted_is n m e = grind (arith, nat_tests)

sound_head : (env : Env) (at count : ℕ) (s : Signature) (w : Walk)
    → (sound_call at count s (record (past env 1 w) { names = (past env 1 w).names ++ declaration.Method s.number ∷ [] })).walk.findings ≡ []
    → Head s count w (sound_call at count s (record (past env 1 w) { names = (past env 1 w).names ++ declaration.Method s.number ∷ [] }))
unfolding past
sound_head env at count s w quiet =
    let v : Walk = record (past env 1 w) { names = (past env 1 w).names ++ declaration.Method s.number ∷ [] } in
    let r : Tested = refused_call s v in
    let outer = unbroken (not (nat_eq (length s.params) count)) at 6 (noted r.holds at 13 r.walk) quiet in
    let inner = unbroken r.holds at 13 r.walk outer.quiet in
    let refused = refused_by (is_entry s.kind) v (called s.number v) (called_same s.number v) inner.holds in
    let same = refused.1 in
    let end : noted (not (nat_eq (length s.params) count)) at 6 (noted r.holds at 13 r.walk) ≡ r.walk = outer.same ∙ inner.same in
    record {
      adds = record {
        no_findings = sym same.findings ∙ inner.quiet;
        same_types = ap (λ (u : Walk). u.types) end ∙ same.types;
        to_names = ap (λ (u : Walk). u.names) end ∙ same.names;
        same_variables = ap (λ (u : Walk). u.variables) end ∙ same.variables;
        same_locals = ap (λ (u : Walk). u.locals) end ∙ same.locals;
      };
      counted = counted_is _ _ outer.holds;
      no_entry = refused.0;
      found = none_of _ _ s.result inner.holds outer.holds;
    }

-- ---- the whole call

length_map : {A B : Type 0} (f : A → B) (xs : List A) → length (map f xs) ≡ length xs
length_map f [] = refl
length_map f (x ∷ xs) = ap suc (length_map f xs)

same_itself : (t : SignatureType) → same_type t t ≡ true
same_itself type.Int = refl
same_itself type.Long = refl
same_itself type.Boolean = refl
same_itself type.Vector = refl
same_itself type.Void = refl

same_all : (ts : List SignatureType) → same_types ts ts ≡ true
same_all [] = refl
same_all (t ∷ ts) = ap (λ b. if b then same_types ts ts else false) (same_itself t) ∙ same_all ts

helper_is : (k : MethodKind) → is_entry k ≡ false → is_merge k ≡ false → k ≡ Helper
helper_is Entry e f = absurd (cc)
helper_is Helper e f = refl
helper_is Merge e f = absurd (cc)

helped : (k : MethodKind) (params : List SignatureType) (result : SignatureType) → k ≡ Helper → typing.called_by k params result params ≡ Some result
helped Entry params result e = absurd (cc)
helped Helper params result e = ap (λ b. if b then Some result else None) (same_all params)
helped Merge params result e = absurd (cc)

not_true : (b : Bool) → not b ≡ true → b ≡ false
not_true true e = absurd (cc)
not_true false e = refl

both_hold : (a b : Bool) → (a && b) ≡ true → a ≡ true × b ≡ true
both_hold true true e = (refl, refl)
both_hold true false e = absurd (cc)
both_hold false b e = absurd (cc)

where_holds : (b : Bool) (t : ExprType) → b ≡ true → unless (not b) t ≡ t
where_holds true t e = refl
where_holds false t e = absurd (cc)

if_true : {A : Type 0} (b : Bool) (x y : A) → b ≡ true → (if b then x else y) ≡ x
if_true true x y e = refl
if_true false x y e = absurd (cc)

if_false : {A : Type 0} (b : Bool) (x y : A) → b ≡ false → (if b then x else y) ≡ y
if_false true x y e = absurd (cc)
if_false false x y e = refl

-- what is resolved of the call is one of the method, where it is no merge method
invoked_typed : (p : Place) (s : Signature) (count : ℕ) (m : IsOneMethod p s) (fit : Bool) (args : List Expression) (ms : List marking.Argument) (names : List Declaration)
    → is_entry s.kind ≡ false → length s.params ≡ count
    → ArePassed p count fit s.params (resolving.params_of (slice_get p.scope.methods s.number)) ms names args
    → merges (slice_get p.scope.methods s.number) ≡ false → are_plain p names ≡ true
    → resolving.own_call s.number (slice_get p.scope.methods s.number) args ≡ invoked.Value (x.Call s.number args) × IsOfType p.context (unless (not fit) s.result) (x.Call s.number args)
invoked_typed p s count m fit args ms names no_entry counted passed no_merge plain =
    let no_header : m.header.is_merge ≡ false = ap merges (sym m.is_header) ∙ no_merge in
    let value : resolving.own_call s.number (slice_get p.scope.methods s.number) args ≡ invoked.Value (x.Call s.number args) =
    ap (λ h. resolving.own_call s.number h args) m.is_header ∙ if_false m.header.is_merge _ _ no_header in
    let helper : s.kind ≡ Helper = helper_is s.kind no_entry (sym m.header_merges ∙ no_header) in
    let takes : s.params ≡ map wanted_by m.callee.params = m.takes helper in
    let to_header : resolving.params_of (slice_get p.scope.methods s.number) ≡ map wanted_by m.callee.params = ap resolving.params_of m.is_header ∙ (m.header_params ∙ takes) in
    let as_many : length m.callee.params ≡ count = sym (length_map wanted_by m.callee.params) ∙ (ap (λ (ts : List ExprType). length ts) (sym takes) ∙ counted) in
    let typed : types_of p.context args ≡ Some m.callee.params = passed.typed plain m.callee.params takes to_header as_many in
    let is : typing.type_of p.context (x.Call s.number args) ≡ Some m.callee.result =
    call_is p.context s.number args
    ∙ (ap (λ o. called_type o (types_of p.context args)) m.is_callee ∙ (ap (λ o. called_type (Some m.callee) o) typed ∙ helped m.callee.kind m.callee.params m.callee.result (m.kind ∙ helper))) in
    let found : unless (not fit) s.result ≡ wanted_by m.callee.result = where_holds fit s.result (passed.fits plain) ∙ m.gives in
    (value, subst (λ (t : ExprType). IsOfType p.context t (x.Call s.number args)) (sym found) (as_signed p.context m.callee.result (x.Call s.number args) is))

no_access_either : (b : Bool) (n : ℕ) (args : List Expression) → is_access (if b then invoked.Value (x.Merge n) else invoked.Value (x.Call n args)) ≡ false
no_access_either true n args = refl
no_access_either false n args = refl

pub no_access_own : (n : ℕ) (h : Option Header) (args : List Expression) → is_access (resolving.own_call n h args) ≡ false
no_access_own n None args = refl
no_access_own n (Some h) args = no_access_either h.is_merge n args

-- what is marked of the call
module _ (p : Place) (sound : IsSound p) (s : Signature) (count : ℕ) (m : IsOneMethod p s) (fit : Bool) (out : List Expression) (ms : List marking.Argument) (names : List Declaration) (params : List ExprType)
    (no_entry : is_entry s.kind ≡ false) (counted : length s.params ≡ count) (as_many : length ms ≡ count) (same : params ≡ s.params)
    (passed : ArePassed p count fit params (resolving.params_of (slice_get p.scope.methods s.number)) ms names out) where
  helper_passes : (position : Position) → marks.is_merge (slice_get p.marks.methods s.number) ≡ false → Passes p (marking.own_call p.marks position None ms) false (declaration.Method s.number ∷ names)
  helper_passes position is =
      let no_merge : merges (slice_get p.scope.methods s.number) ≡ false = sound.merging s.number ∙ is in
      let no_header : m.header.is_merge ≡ false = ap merges (sym m.is_header) ∙ no_merge in
      let helper : s.kind ≡ Helper = helper_is s.kind no_entry (sym m.header_merges ∙ no_header) in
      let wanted : params ≡ map wanted_by m.callee.params = same ∙ m.takes helper in
      own_inside p ms passed.grows position s.number names is no_merge
      (passed.inside (ap (λ (ts : List ExprType). list_all is_known ts) wanted ∙ known_wanted m.callee.params) (ap (λ (ts : List ExprType). length ts) same ∙ counted))

  inside_by : (merge : Bool) → marks.is_merge (slice_get p.marks.methods s.number) ≡ merge → Passes p (marking.own_call p.marks Inside None ms) false (declaration.Method s.number ∷ names)
  inside_by true is = merge_refused p ms passed.grows s.number names is (λ one at u rest b. (passed.merged (sym as_many ∙ one) at false u rest b).merges.may)
  inside_by false is = helper_passes Inside is

  merge_kind : (k : MethodKind) → is_merge k ≡ true → k ≡ Merge
  merge_kind Entry e = absurd (cc)
  merge_kind Helper e = absurd (cc)
  merge_kind Merge e = refl

  abbrev invoked_here : Invoked
  invoked_here = resolving.own_call s.number (slice_get p.scope.methods s.number) out

  whole_by : (merge : Bool) → marks.is_merge (slice_get p.marks.methods s.number) ≡ merge → (t : ExprType) → (fit ≡ true → t ≡ s.result) → (position : Position) (global : Option ℕ) (u : Marking) (rest : List Declaration)
      → Begins p (marking.own_call p.marks position global ms) (declaration.Method s.number ∷ names) u rest
      → IsWhole p position global t invoked_here (declaration.Method s.number ∷ names) rest u (marking.own_call p.marks position global ms u)
  whole_by merge is t gives position (Some at) u rest b = absurd (own_no_global p ms passed.grows position at u b.quiet)
  whole_by false is t gives position None u rest b =
      plainly p position t invoked_here (declaration.Method s.number ∷ names) rest (marking.own_call p.marks position None ms) u (helper_passes position is) b
  whole_by true is t gives position None u rest b =
      let merge : merges (slice_get p.scope.methods s.number) ≡ true = sound.merging s.number ∙ is in
      let header : m.header.is_merge ≡ true = ap merges (sym m.is_header) ∙ merge in
      let kind = merge_kind s.kind (sym m.header_merges ∙ header) in
      let value : invoked_here ≡ invoked.Value (x.Merge s.number) = ap (λ h. resolving.own_call s.number h out) m.is_header ∙ if_true m.header.is_merge _ _ header in
      inr (inr (merge_whole p ms passed.grows s m names invoked_here t fit kind is value gives
      (λ one at merging u rest b.
      let o = passed.merged (sym as_many ∙ one) at merging u rest b in
      record { given = o.given; merges = o.merges; may = ap (λ (ts : List ExprType). may_be_passed (param_at ts 0) o.given) (sym same) ∙ o.may; holds = o.holds })
      position u rest b))

module _ {Arg : Type 0} (p : Place) (sound : IsSound p) (pass : Arg → Argument) (reads : Arg → Resolving) (marked : Arg → marking.Argument)
    (each : (x : Arg) → ReadsArgument p (pass x) (reads x) (marked x)) where
  abbrev Called : ExprType → List ℕ → List Arg → List Declaration → Invoked → Type 0
  Called found name args names i = IsCall p false found (marking.call_step p.marks (e.Own name (map marked args))) names i

  own_sound : (name : List ℕ) (w : Walk) (s : Signature) (m : IsOneMethod p s) (t : Typing) (params : List ExprType) (args : List Arg) → Head s (length args) w t → params ≡ s.params
      → (arguments p.env params (map pass args) t.walk).walk.findings ≡ []
      → Follows p w (arguments p.env params (map pass args) t.walk).walk (λ c. own_step p.scope (map reads args) (name_here c) (behind_name c))
      (Called (answered t.found (arguments p.env params (map pass args) t.walk)).found name args)
  own_sound name w s m t params args head same quiet =
      let h : Option Header = slice_get p.scope.methods s.number in
      let fit : Bool = (arguments p.env params (map pass args) t.walk).holds in
      let passed = arguments_follow p p.env params (resolving.params_of h) pass reads marked each args t.walk quiet in
      named_first p (declaration.Method s.number) (own_step p.scope (map reads args)) (λ names i. Called (unless (not fit) t.found) name args (declaration.Method s.number ∷ names) i)
      (Called (unless (not fit) t.found) name args) head.adds (λ known names i is. is)
      (then_made p (resolving.own_call s.number h) (λ names i. Called (unless (not fit) t.found) name args (declaration.Method s.number ∷ names) i)
      (λ names out are. record {
        typed = λ read plain.
            let plains = both_hold (not (merges h)) (are_plain p names) plain in
            let made = invoked_typed p s (length args) m fit out (map marked args) names head.no_entry head.counted
            (subst (λ (ps : List ExprType). ArePassed p (length args) fit ps (resolving.params_of h) (map marked args) names out) same are) (not_true _ plains.0) plains.1 in
            subst (λ (i : Invoked). IsInvoked p (unless (not fit) t.found) i) (sym made.0)
            (subst (λ (f : ExprType). IsOfType p.context (unless (not fit) f) (x.Call s.number out)) (sym head.found) made.1);
        grows = own_grows p (map marked args) are.grows;
        no_global = own_no_global p (map marked args) are.grows Inside;
        inside = inside_by p sound s (length args) m fit out (map marked args) names params head.no_entry head.counted (length_map marked args) same are (marks.is_merge (slice_get p.marks.methods s.number)) refl;
        whole = λ position global is_whole u rest b.
            whole_by p sound s (length args) m fit out (map marked args) names params head.no_entry head.counted (length_map marked args) same are (marks.is_merge (slice_get p.marks.methods s.number)) refl
            (unless (not fit) t.found) (λ fits. where_holds fit t.found fits ∙ head.found) position global u rest b;
        within = λ plain.
            let plains = both_hold (not (merges h)) (are_plain p names) plain in
            let made = invoked_typed p s (length args) m fit out (map marked args) names head.no_entry head.counted
            (subst (λ (ps : List ExprType). ArePassed p (length args) fit ps (resolving.params_of h) (map marked args) names out) same are) (not_true _ plains.0) plains.1 in
            subst (λ (i : Invoked). IsWithinCall p i) (sym made.0) (within_call p s.number out (are.within plains.1));
        begins = λ plain. begins_with p (declaration.Method s.number) names plain;
        no_access = λ plain. no_access_own s.number h out;
      })
      passed)

  own_known : (name : List ℕ) (args : List Arg) (at count : ℕ) (w : Walk) (o : Option Signature) → entry_of name p.env.methods ≡ o → count ≡ length args
      → (arguments p.env (params_in o) (map pass args) (own_of at count (past p.env 1 w) o).walk).walk.findings ≡ []
      → Follows p w (arguments p.env (params_in o) (map pass args) (own_of at count (past p.env 1 w) o).walk).walk (λ c. own_step p.scope (map reads args) (name_here c) (behind_name c))
      (Called (answered (own_of at count (past p.env 1 w) o).found (arguments p.env (params_in o) (map pass args) (own_of at count (past p.env 1 w) o).walk)).found name args)
  own_known name args at count w None is as_many quiet =
      let passed = arguments_follow p p.env [] [] pass reads marked each args (noted true at 3 (past p.env 1 w)) quiet in
      let u = unbroken true at 3 (past p.env 1 w) passed.added.no_findings in
      let h : true ≡ false = u.holds in
      absurd (cc)
  own_known name args at count w (Some s) is as_many quiet =
      let m = sound.methods name s is in
      let v : Walk = record (past p.env 1 w) { names = (past p.env 1 w).names ++ declaration.Method s.number ∷ [] } in
      let t : Typing = sound_call at count s v in
      let called_is : called_by at count s v ≡ t = if_true s.is_sound t (record { found = Unknown; walk = v }) m.is_sound in
      let params_is : params_in (Some s) ≡ s.params = if_true s.is_sound s.params [] m.is_sound in
      let G : Typing → Type 0 = λ (t : Typing). (arguments p.env (params_in (Some s)) (map pass args) t.walk).walk.findings ≡ []
      → Follows p w (arguments p.env (params_in (Some s)) (map pass args) t.walk).walk (λ c. own_step p.scope (map reads args) (name_here c) (behind_name c))
      (Called (answered t.found (arguments p.env (params_in (Some s)) (map pass args) t.walk)).found name args) in
      subst G (sym called_is)
      (λ quiet.
      let passed = arguments_follow p p.env (params_in (Some s)) [] pass reads marked each args t.walk quiet in
      let head : Head s count w t = sound_head p.env at count s w passed.added.no_findings in
      own_sound name w s m t (params_in (Some s)) args (subst (λ (n : ℕ). Head s n w t) as_many head) params_is quiet)
      quiet

  -- a call of a method of the class is followed where its arguments are
  pub own_follows : (name : List ℕ) (args : List Arg) (w : Walk) → (own_call p.env name (map pass args) w).walk.findings ≡ []
      → Follows p w (own_call p.env name (map pass args) w).walk (λ c. own_step p.scope (map reads args) (name_here c) (behind_name c))
      (Called (own_call p.env name (map pass args) w).found name args)
  unfolding own own_params
  own_follows name args w quiet = own_known name args w.at (length (map pass args)) w (entry_of name p.env.methods) refl (length_map pass args) quiet
