-- Arguments: one after another, each as its parameter wants it.
use Rattle.std.proofs.Common.{◌≡◌, ℕ, zero, suc, ◌+◌, ◌<◌, drop, ◌&&◌, ◌||◌, Bool, true, false, not, nat_eq, List, [], ◌∷◌, ◌++◌, length, map, fold, slice_get, unwrap_or, option_map, Option, Some, None, refl, sym, ap, subst, ◌∙◌, append_assoc, arith}
use Rattle.std.specs.List.{list_all}
use Rattle.std.proofs.lemmas.List.{append-nil, length-append}
use Rattle.std.proofs.lemmas.List.Folds.{list_all-append}
use Rattle.std.proofs.lemmas.Option.{slice_get-map, unwrap_or-slice_get}
use Rattle.sdg_base.specs.declared.value_type.ValueType.{ValueType as SignatureType}
use Rattle.sdg_base.specs.declared.value_type.ValueType.TheVariants as type
use Rattle.java_tree.specs.declared.types.ValueType.TheVariants as value
use Rattle.java_tree.specs.declared.types.ExprType.{ExprType}
use Rattle.java_tree.specs.declared.types.ExprType.TheVariants.{Unknown, Void, Value, Collection, State}
use Rattle.java_tree.specs.declared.types.Declaration.{Declaration}
use Rattle.java_types.specs.declared.walk.Env.{Env}
use Rattle.java_types.specs.declared.walk.Given.{Given}
use Rattle.java_types.specs.declared.walk.Walk.{Walk}
use Rattle.java_types.specs.Fits.{is_known, fits, may_be_passed}
use Rattle.java_types.specs.Walks.{past}
use Rattle.java_types.specs.Expressions.{Argument, Argued, passed, argument, argued, all_argued, past_none, param_at}
use Rattle.java_types.specs.Expressions as walk
use Rattle.annotations.specs.declared.position.Position.{Position}
use Rattle.annotations.specs.declared.position.Position.TheVariants.{Inside, Merged}
use Rattle.annotations.specs.declared.walk.Walk.{Walk as Marking}
use Rattle.annotations.specs.Walks as marks
use Rattle.annotations.specs.Expressions as marking
use Rattle.access_blocks.specs.declared.body.Expression.{Expression}
use Rattle.access_blocks.specs.declared.resolved.Resolved.{Resolved}
use Rattle.access_blocks.specs.Cursors.{Cursor, Read, read}
use Rattle.access_blocks.specs.Resolving.{Resolving, taken, argument as argument_at, wanted_by}
use Rattle.access_blocks.specs.Resolving as resolving
use Rattle.body_code.specs.Typing.{Context, type_of, types_of, with_type, Needs, needs, needs_of_all}
use Rattle.typed_bodies.specs.Needing.{IsWithin}
use Rattle.typed_bodies.specs.Reading.{Place, Adds, InStep, Follows, IsOfType, is_plain, are_plain}
use Rattle.typed_bodies.specs.Expressions.{IsFound, ArePassed, is_field, begins_plainly, as_reading, all_marked, MergesOne}
use Rattle.typed_bodies.specs.Marking.{Begins, Passes, Merges, IsMarked, IsKey, is_state}
use Rattle.typed_bodies.proofs.Steps.{adds_none, adds_both, in_step_both, past_follows, follows_past, follows_past_if, past_if_quiet, follows_noted, unbroken, past_quiet}
use Rattle.typed_bodies.proofs.Conversions.{passed_typed}
use Rattle.typed_bodies.proofs.Needing.{within_nothing, within_more, within_converted, needs_converted}
use Rattle.typed_bodies.proofs.Marking.{passes_none, passes_both, past_passes, past_grows}

-- ---- lists

-- each has the type that is wanted there
abbrev Typed : Context → List SignatureType → List Expression → Type 0
Typed c ts args = (i : ℕ) (a : Expression) (t : SignatureType) → slice_get args i ≡ Some a → slice_get ts i ≡ Some t → type_of c a ≡ Some t

same_some : {A : Type 0} {x y : A} → Some x ≡ Some y → x ≡ y
same_some e = cc

at_end : (P : ℕ → Expression → Type 0) (args : List Expression) (last : Expression) → ((i : ℕ) (a : Expression) → slice_get args i ≡ Some a → P i a) → P (length args) last
    → (i : ℕ) (a : Expression) → slice_get (args ++ last ∷ []) i ≡ Some a → P i a
at_end P [] last each end zero a is = subst (P 0) (same_some is) end
at_end P [] last each end (suc i) a is = absurd (cc)
at_end P (x ∷ args) last each end zero a is = each zero a is
at_end P (x ∷ args) last each end (suc i) a is = at_end (λ j. P (suc j)) args last (λ j. each (suc j)) end i a is

all_typed : (c : Context) (ts : List SignatureType) (args : List Expression) → length ts ≡ length args → Typed c ts args → types_of c args ≡ Some ts
all_typed c [] [] same each = refl
all_typed c [] (a ∷ args) same each = absurd (omega arith)
all_typed c (t ∷ ts) [] same each = absurd (omega arith)
all_typed c (t ∷ ts) (a ∷ args) same each =
    ap (λ s. with_type s (types_of c args)) (each zero a t refl refl) ∙ ap (with_type (Some t)) (all_typed c ts args (omega arith) (λ i. each (suc i)))

wanted_there : (o : Option SignatureType) (t : SignatureType) → o ≡ Some t → unwrap_or (option_map wanted_by o) Unknown ≡ wanted_by t
wanted_there None t is = absurd (cc)
wanted_there (Some s) t is = ap wanted_by (same_some is)

param_here : (ts : List SignatureType) (i : ℕ) (t : SignatureType) → slice_get ts i ≡ Some t → param_at (map wanted_by ts) i ≡ wanted_by t
param_here ts i t is = ap (λ o. unwrap_or o Unknown) (slice_get-map wanted_by ts i) ∙ wanted_there (slice_get ts i) t is

param_same : (params : List ExprType) (i : ℕ) → resolving.param_at params i ≡ param_at params i
param_same params i = sym (unwrap_or-slice_get params i Unknown)

both_true : (a b : Bool) → (a && b) ≡ true → a ≡ true × b ≡ true
both_true true true e = (refl, refl)
both_true true false e = absurd (cc)
both_true false b e = absurd (cc)

either_begins : (a b d : Bool) → (b && d) ≡ true → ((a || b) && d) ≡ true
either_begins true true d e = e
either_begins true false d e = absurd (cc)
either_begins false b d e = e

pub plain_both : (p : Place) (a b : List Declaration) → are_plain p (a ++ b) ≡ true → are_plain p a ≡ true × are_plain p b ≡ true
plain_both p a b e = both_true (are_plain p a) (are_plain p b) (sym (list_all-append (is_plain p) a b) ∙ e)

-- what is plain from its first name on begins so
pub begins_with : (p : Place) (d : Declaration) (names : List Declaration) → are_plain p (d ∷ names) ≡ true → begins_plainly p (d ∷ names) ≡ true
begins_with p d names plain = either_begins (is_field d) (is_plain p d) (are_plain p names) plain

passed_fits : (t : SignatureType) (given : Given) → may_be_passed (wanted_by t) given ≡ true → fits (wanted_by t) given.found ≡ true
passed_fits type.Int given e = e
passed_fits type.Long given e = e
passed_fits type.Boolean given e = e
passed_fits type.Vector given e = e
passed_fits type.Void given e = e

not_false : (b : Bool) → not b ≡ false → b ≡ true
not_false true e = refl
not_false false e = absurd (cc)

more_count : (n : ℕ) (before : List Expression) (last : Expression) → n ≡ length before → n + 1 ≡ length (before ++ last ∷ [])
more_count n before last e = simp length-append (omega arith)

pub known_typed : (c : Context) (found : ExprType) (a : Expression) → IsOfType c found a → is_known found ≡ true
known_typed c Unknown a typed = absurd typed
known_typed c Void a typed = refl
known_typed c (Value t) a typed = refl
known_typed c (Collection t) a typed = refl
known_typed c (State class) a typed = absurd typed

all_true : (a b d : Bool) → a ≡ true → b ≡ true → d ≡ true → (a && (b && d)) ≡ true
all_true true true true e f g = refl
all_true true true false e f g = absurd (cc)
all_true true false d e f g = absurd (cc)
all_true false b d e f g = absurd (cc)

-- ---- one argument

abbrev pub ReadsArgument : Place → Argument → Resolving → marking.Argument → Type 0
ReadsArgument p part reading m = (w : Walk) → (part w).walk.findings ≡ [] → Follows p w (part w).walk reading (IsFound p (part w).given.found (as_reading m))

record PassesOne (p : Place) (env : Env) (wanted : ExprType) (part : Argument) (reading : Resolving) (m : marking.Argument) (w : Walk) : Type 0 where
  followed : Follows p w (argument env wanted part w).walk reading (IsFound p (part (past env 1 w)).given.found (as_reading m))
  fit : may_be_passed wanted (part (past env 1 w)).given ≡ true

passes_one : (p : Place) (env : Env) (wanted : ExprType) (part : Argument) (reading : Resolving) (m : marking.Argument) → ReadsArgument p part reading m → (w : Walk)
    → (argument env wanted part w).walk.findings ≡ [] → PassesOne p env wanted part reading m w
unfolding passed
passes_one p env wanted part reading m reads w quiet =
    let g = part (past env 1 w) in
    let u = unbroken (not (may_be_passed wanted g.given)) (past env 1 w).at 7 g.walk quiet in
    record { followed = past_follows p env 1 (follows_noted p u (reads (past env 1 w) u.quiet)); fit = not_false _ u.holds }

-- the first of several begins where they all do
begins_first_of : (p : Place) (names more : List Declaration) (u : Marking) (rest : List Declaration) (first : Marking → Marking) {walk : Marking → Marking}
    → Begins p walk (names ++ more) u rest → (first (marks.past p.marks 1 u)).findings ≡ [] → Begins p first names (marks.past p.marks 1 u) (more ++ rest)
unfolding marks.past
begins_first_of p names more u rest first b quiet = record { agrees = b.agrees; before = b.before ∙ append_assoc names more rest; quiet = quiet }

pub begins_past : (p : Place) (n : ℕ) {first : Marking → Marking} {names : List Declaration} {u : Marking} {rest : List Declaration}
    → Begins p (λ v. first (marks.past p.marks n v)) names u rest → Begins p first names (marks.past p.marks n u) rest
unfolding marks.past
begins_past p n b = record { agrees = b.agrees; before = b.before; quiet = b.quiet }

pub merges_past : (p : Place) (n : ℕ) {merging : Bool} (found : ExprType) {names rest : List Declaration} (u : Marking) {v : Marking} → Merges p merging found names rest (marks.past p.marks n u) v → Merges p merging found names rest u v
unfolding marks.past
merges_past p n found u m = record {
  may = m.may;
  local = m.local;
  token = m.token;
  name = m.name;
  it = m.it;
  is = m.is;
  declared = m.declared;
  of = m.of;
  alone = m.alone;
  waits = m.waits;
  met = m.met;
  in_entry = m.in_entry;
  in_header = m.in_header;
  locals = m.locals;
  sites = m.sites;
  behind = m.behind;
}

-- ---- all arguments

-- no field goes where a known type is wanted
no_state : (wanted : ExprType) (is_global : Bool) (found : ExprType) → is_known wanted ≡ true → may_be_passed wanted (record { is_global = is_global; found = found }) ≡ true → is_state found ≡ false
no_state Unknown g (State class) known fit = absurd (cc)
no_state Void g (State class) known fit = absurd (cc)
no_state (Value value.Int) g (State class) known fit = absurd (cc)
no_state (Value value.Long) g (State class) known fit = absurd (cc)
no_state (Value value.Boolean) g (State class) known fit = absurd (cc)
no_state (Value value.Vector) g (State class) known fit = absurd (cc)
no_state (Collection item) true (State class) known fit = absurd (cc)
no_state (Collection item) false (State class) known fit = absurd (cc)
no_state (State owner) g (State class) known fit = absurd (cc)
no_state wanted g Unknown known fit = refl
no_state wanted g Void known fit = refl
no_state wanted g (Value t) known fit = refl
no_state wanted g (Collection t) known fit = refl

wanted_known : (t : SignatureType) → is_known (wanted_by t) ≡ true
wanted_known type.Int = refl
wanted_known type.Long = refl
wanted_known type.Boolean = refl
wanted_known type.Vector = refl
wanted_known type.Void = refl

pub known_wanted : (ts : List SignatureType) → list_all is_known (map wanted_by ts) ≡ true
known_wanted [] = refl
known_wanted (t ∷ ts) = ap (λ b. b && list_all is_known (map wanted_by ts)) (wanted_known t) ∙ known_wanted ts

known_each : (wanted : List ExprType) → list_all is_known wanted ≡ true → (i : ℕ) → i < length wanted → is_known (param_at wanted i) ≡ true
known_each [] all i less = absurd (omega arith)
known_each (t ∷ wanted) all zero less = (both_true (is_known t) (list_all is_known wanted) all).0
known_each (t ∷ wanted) all (suc i) less = known_each wanted (both_true (is_known t) (list_all is_known wanted) all).1 i (omega arith)

module _ {Arg : Type 0} (p : Place) (env : Env) (wanted params : List ExprType) (pass : Arg → Argument) (reads : Arg → Resolving) (marked : Arg → marking.Argument)
    (each : (x : Arg) → ReadsArgument p (pass x) (reads x) (marked x)) where
  abbrev all_marks : Position → List Arg → Marking → Marking
  all_marks position args u = all_marked p.marks position (map marked args) u

  abbrev walked : List Arg → Argued → Argued
  walked args a = fold (argued env wanted) a (map pass args)

  abbrev reading : List Arg → List Expression → Cursor → Read (List Expression)
  reading args before c = fold (resolving.argued params) (read before c) (map reads args)

  fit_before : (args : List Arg) (a : Argued) → (walked args a).fit ≡ true → a.fit ≡ true
  fit_before [] a e = e
  fit_before (x ∷ args) a e = (both_true a.fit _ (fit_before args (argued env wanted a (pass x)) e)).0

  fit_is : (a : Argued) (x : Arg) → (argued env wanted a (pass x)).fit ≡ (a.fit && (may_be_passed (param_at wanted a.count) (pass x (past env 1 a.walk)).given && is_known (pass x (past env 1 a.walk)).given.found))
  unfolding passed
  fit_is a x = refl

  one_merged : (x : Arg) (given : Given) (t : ExprType) (start : Bool) (a : Argued) (names more : List Declaration) (args : List Arg) (at : ℕ) (merging : Bool) (u : Marking) (others : List Declaration)
      → length args ≡ 0 → more ≡ [] → IsMarked p (as_reading (marked x)).walk given.found names → may_be_passed t given ≡ true
      → a.fit ≡ (start && (may_be_passed t given && is_known given.found))
      → Begins p (all_marks (Merged at merging) (x ∷ args)) (names ++ more) u others → MergesOne p merging t start (walked args a).fit (names ++ more) others u (all_marks (Merged at merging) (x ∷ args) u)
  one_merged x given t start a names more (y ∷ args) at merging u others none no_more is fit before b = absurd (omega arith)
  one_merged x given t start a names (d ∷ more) [] at merging u others none no_more is fit before b = absurd (cc)
  one_merged x given t start a names [] [] at merging u others none no_more is fit before b =
      let P : List Declaration → Type 0 = λ ns. Begins p (all_marks (Merged at merging) (x ∷ [])) ns u others → MergesOne p merging t start a.fit ns others u (all_marks (Merged at merging) (x ∷ []) u) in
      subst P (sym (append-nil names)) (λ b. record {
        given = given;
        merges = merges_past p 1 given.found u (is.merged at merging None (marks.past p.marks 1 u) others (begins_past p 1 b));
        may = fit;
        holds = λ s k. before ∙ all_true start (may_be_passed t given) (is_known given.found) s fit k;
      }) b

  record FitBehind (args : List Arg) (a : Argued) (before : List Expression) (names : List Declaration) (out : List Expression) : Type 0 where
    all : length out ≡ length before + length args
    fits : a.fit ≡ true → are_plain p names ≡ true → (walked args a).fit ≡ true
    within : are_plain p names ≡ true → IsWithin p (needs_of_all before) → IsWithin p (needs_of_all out)
    grows : (position : Position) (u : Marking) → (all_marks position args u).findings ≡ [] → u.findings ≡ []
    inside : ((i : ℕ) → i < a.count + length args → is_known (param_at wanted i) ≡ true) → Passes p (all_marks Inside args) false names
    merged : length args ≡ 1 → (at : ℕ) (merging : Bool) (u : Marking) (rest : List Declaration) → Begins p (all_marks (Merged at merging) args) names u rest
        → MergesOne p merging (param_at wanted a.count) a.fit (walked args a).fit names rest u (all_marks (Merged at merging) args u)
    none : length args ≡ 0 → names ≡ []
    first : (y : Expression) (ys : List Expression) → before ≡ y ∷ ys → argument_at out 0 ≡ y
    key : before ≡ [] → (u : Marking) (rest : List Declaration) → drop u.used p.marks.names ≡ names ++ rest → IsKey p (marking.first_key (map marked args) u) (needs (argument_at out 0))
    typed : (walked args a).fit ≡ true → are_plain p names ≡ true → (ts : List SignatureType) → wanted ≡ map wanted_by ts → params ≡ map wanted_by ts
        → Typed p.context ts before → Typed p.context ts out

  record Behind (args : List Arg) (a : Argued) : Type 0 where
    added : Adds a.walk (walked args a).walk
    in_step : (before : List Expression) → a.count ≡ length before → InStep p added (reading args before) (FitBehind args a before)

  -- one more, where the others before it are typed
  one_more : (x : Arg) (a : Argued) (before : List Expression) (names : List Declaration) (r : Resolved) (ts : List SignatureType)
      → wanted ≡ map wanted_by ts → params ≡ map wanted_by ts → a.count ≡ length before
      → (argued env wanted a (pass x)).fit ≡ true
      → PassesOne p env (param_at wanted a.count) (pass x) (reads x) (marked x) a.walk
      → IsFound p (pass x (past env 1 a.walk)).given.found (as_reading (marked x)) names r → are_plain p names ≡ true
      → Typed p.context ts before → Typed p.context ts (before ++ taken (resolving.param_at params (length before)) r ∷ [])
  one_more x a before names r ts from to count fit one found plain typed i y t is of =
      at_end (λ j z. slice_get ts j ≡ Some t → type_of p.context z ≡ Some t) before (taken (resolving.param_at params (length before)) r)
      (λ j z is of. typed j z t is of)
      (λ of.
      let here : param_at wanted a.count ≡ wanted_by t = ap (λ k. param_at wanted k) count ∙ (ap (λ ps. param_at ps (length before)) from ∙ param_here ts (length before) t of) in
      let there : resolving.param_at params (length before) ≡ wanted_by t = param_same params (length before) ∙ (ap (λ ps. param_at ps (length before)) to ∙ param_here ts (length before) t of) in
      let given = (pass x (past env 1 a.walk)).given in
      let fits_it : fits (wanted_by t) given.found ≡ true = passed_fits t given (subst (λ (u : ExprType). may_be_passed u given ≡ true) here one.fit) in
      let is_typed : IsOfType p.context r.found r.expression = subst (λ (u : ExprType). IsOfType p.context u r.expression) (sym found.same) (found.typed plain) in
      let is_fit : fits (wanted_by t) r.found ≡ true = ap (λ u. fits (wanted_by t) u) found.same ∙ fits_it in
      ap (λ u. type_of p.context (taken u r)) there ∙ passed_typed p.context t r.found r.expression is_typed is_fit)
      i y is of

  next_fit : (x : Arg) (a : Argued) {names : List Declaration} {r : Resolved} → a.fit ≡ true → PassesOne p env (param_at wanted a.count) (pass x) (reads x) (marked x) a.walk
      → IsFound p (pass x (past env 1 a.walk)).given.found (as_reading (marked x)) names r → are_plain p names ≡ true → (argued env wanted a (pass x)).fit ≡ true
  unfolding passed
  next_fit x a fit one found plain = all_true _ _ _ fit one.fit (known_typed p.context _ _ (found.typed plain))

  behind : (args : List Arg) (a : Argued) → (walked args a).walk.findings ≡ [] → Behind args a
  behind [] a quiet = record {
    added = adds_none a.walk quiet;
    in_step = λ before count known c types names stands. record {
      behind = stands;
      fits = record {
        all = omega arith;
        fits = λ fit plain. fit;
        within = λ plain w. w;
        grows = λ position u quiet. quiet;
        inside = λ known. passes_none p false;
        merged = λ one. absurd (omega arith);
        none = λ e. refl;
        first = λ y ys is. ap (λ (es : List Expression). argument_at es 0) is;
        key = λ is u rest at. tt;
        typed = λ fit plain ts from to typed. typed;
      };
    };
  }
  behind (x ∷ args) a quiet =
      let next : Argued = argued env wanted a (pass x) in
      let later = behind args next quiet in
      let one = passes_one p env (param_at wanted a.count) (pass x) (reads x) (marked x) (each x) a.walk later.added.no_findings in
      record {
        added = adds_both one.followed.added later.added;
        in_step = λ before count.
            in_step_both p one.followed.added later.added (IsFound p (pass x (past env 1 a.walk)).given.found (as_reading (marked x)))
            (λ r. FitBehind args next (before ++ taken (resolving.param_at params (length before)) r ∷ []))
            (FitBehind (x ∷ args) a before)
            (λ r out found rest. record {
              all = rest.all ∙ (simp length-append (omega arith));
              fits = λ fit plain.
                  let plains = plain_both p one.followed.added.names later.added.names plain in
                  rest.fits (next_fit x a fit one found plains.0) plains.1;
              within = λ plain w.
                  let plains = plain_both p one.followed.added.names later.added.names plain in
                  rest.within plains.1 (within_more p before (taken (resolving.param_at params (length before)) r) w
                  (within_converted p (resolving.param_at params (length before)) r.found r.expression (found.within plains.0)));
              grows = λ position u quiet. past_grows p.marks 1 u (found.marked.grows position None (marks.past p.marks 1 u) (rest.grows position _ quiet));
              inside = λ known.
                  let given = (pass x (past env 1 a.walk)).given in
                  let state = no_state (param_at wanted a.count) given.is_global given.found (known a.count (omega arith)) one.fit in
                  passes_both p false state refl (past_passes p 1 found.marked.inside) (rest.inside (λ i less. known i (omega arith)));
              none = λ e. absurd (omega arith);
              merged = λ is at merging u others b.
                  one_merged x (pass x (past env 1 a.walk)).given (param_at wanted a.count) a.fit next one.followed.added.names later.added.names args at merging u others
                  (omega arith) (rest.none (omega arith)) found.marked one.fit (fit_is a x) b;
              first = λ y ys is. rest.first y (ys ++ taken (resolving.param_at params (length before)) r ∷ []) (ap (λ (es : List Expression). es ++ taken (resolving.param_at params (length before)) r ∷ []) is);
              key = λ is u others at.
                  let t = taken (resolving.param_at params (length before)) r in
                  let first : argument_at out 0 ≡ t = rest.first t [] (ap (λ (es : List Expression). es ++ t ∷ []) is) in
                  let same : needs (argument_at out 0) ≡ needs r.expression = ap needs first ∙ needs_converted p (resolving.param_at params (length before)) r.found r.expression in
                  subst (λ (n : Needs). IsKey p ((marked x).key u) n) (sym same) (found.key u (later.added.names ++ others) (at ∙ append_assoc one.followed.added.names later.added.names others));
              typed = λ fit plain ts from to typed.
                  let plains = plain_both p one.followed.added.names later.added.names plain in
                  rest.typed fit plains.1 ts from to
                  (one_more x a before one.followed.added.names r ts from to count (fit_before args next fit) one found plains.0 typed);
            })
            one.followed.in_step
            (λ r. later.in_step (before ++ taken (resolving.param_at params (length before)) r ∷ []) (more_count a.count before _ count));
      }

  pub arguments_follow : (args : List Arg) (w : Walk) → (walk.arguments env wanted (map pass args) w).walk.findings ≡ []
      → Follows p w (walk.arguments env wanted (map pass args) w).walk (resolving.arguments params (map reads args))
      (ArePassed p (length args) (walk.arguments env wanted (map pass args) w).holds wanted params (map marked args))
  arguments_follow args w quiet =
      let start : Argued = record { count = 0; fit = true; walk = w } in
      let end : Argued = walked args start in
      let b = behind args start (past_if_quiet env _ 1 end.walk (past_quiet env 1 _ quiet)) in
      follows_past p env 1 (follows_past_if p env (nat_eq (length (map pass args)) 0) 1 (record {
        added = b.added;
        in_step = λ known c types names stands.
            let r = b.in_step [] refl known c types names stands in
            record {
              behind = r.behind;
              fits = record {
                all = r.fits.all ∙ omega arith;
                fits = λ plain. r.fits.fits refl plain;
                within = λ plain. r.fits.within plain (within_nothing p);
                grows = r.fits.grows;
                inside = λ known as_many. r.fits.inside (λ i less. known_each wanted known i (omega arith));
                merged = r.fits.merged;
                key = λ u rest at. r.fits.key refl u rest at;
                typed = λ plain ts from to same. all_typed p.context ts _ (same ∙ sym (r.fits.all ∙ omega arith)) (r.fits.typed (r.fits.fits refl plain) plain ts from to (λ i y t is of. absurd (cc)));
              };
            };
      }))
