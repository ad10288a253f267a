-- Calls of methods of what a name stands for: of a vector in a variable, and of a field.
use Rattle.std.proofs.Common.{◌≡◌, ℕ, Bool, true, false, ◌&&◌, ◌||◌, List, [], ◌∷◌, ◌++◌, map, drop, Option, Some, None, refl, sym, ap, subst, ◌∙◌, inl, inr}
use Rattle.sdg_base.specs.declared.value_type.ValueType.TheVariants as type
use Rattle.sdg_base.specs.Signatures.{state_method, vector_method}
use Rattle.state_classes.specs.Methods.{method_named}
use Rattle.java_tree.specs.declared.types.ValueType.TheVariants as value
use Rattle.java_tree.specs.declared.types.ExprType.{ExprType}
use Rattle.java_tree.specs.declared.types.ExprType.TheVariants.{Unknown, Void, Value, Collection, State}
use Rattle.java_tree.specs.declared.types.Declaration.{Declaration}
use Rattle.java_tree.specs.declared.types.Declaration.TheVariants as declaration
use Rattle.java_types.specs.declared.methods.Shape.{Shape}
use Rattle.java_types.specs.declared.walk.Walk.{Walk}
use Rattle.java_types.specs.Fits.{is_known}
use Rattle.java_types.specs.Methods.{method_of}
use Rattle.java_types.specs.Laws as laws
use Rattle.java_types.specs.Walks.{Typing, named, variable}
use Rattle.java_types.specs.Expressions.{Argument, call_of}
use Rattle.java_types.proofs.Signatures.{state_agrees, vector_agrees}
use Rattle.java_tree.specs.declared.tree.CallForm.TheOpen as e
use Rattle.annotations.specs.declared.position.Position.{Position}
use Rattle.annotations.specs.declared.position.Position.TheVariants.{Inside}
use Rattle.annotations.specs.declared.walk.Walk.{Walk as Marking}
use Rattle.annotations.specs.Expressions as marking
use Rattle.access_blocks.specs.declared.body.Expression.{Expression}
use Rattle.access_blocks.specs.declared.body.Expression.TheVariants as x
use Rattle.access_blocks.specs.declared.resolved.Invoked.{Invoked}
use Rattle.access_blocks.specs.declared.resolved.Invoked.TheVariants as invoked
use Rattle.access_blocks.specs.Cursors.{name_here, behind_name, behind_site, site_here, variable_of}
use Rattle.access_blocks.specs.Resolving.{Resolving, vector_call, vector_step, access_step, accessed, argument, chosen, class_at, of_step}
use Rattle.body_code.specs.Typing.{Context, type_of, needs, needs_of_all}
use Rattle.typed_bodies.specs.Reading.{Place, IsSound, Follows, IsOfType, cursor_at, is_method, is_plain, are_plain}
use Rattle.typed_bodies.specs.Needing.{InScope, IsWithin, IsWithinCall}
use Rattle.typed_bodies.specs.Marking.{Begins, Passes, IsKey}
use Rattle.typed_bodies.specs.Expressions.{IsCall, IsInvoked, is_access, is_field, all_marked}
use Rattle.typed_bodies.proofs.Marks.{of_grows, of_no_global, of_inside, of_field, of_anywhere, of_global}
use Rattle.typed_bodies.specs.Wholes.{AccessOf, IsWhole}
use Rattle.typed_bodies.proofs.WholeCalls.{plainly, field_whole}
use Rattle.access_blocks.specs.declared.body.Access.{Access}
use Rattle.access_blocks.specs.declared.body.Choice.{Choice}
use Rattle.access_blocks.specs.declared.body.Target.TheVariants.{Dropped}
use Rattle.state_classes.specs.declared.method.Method.{Method}
use Rattle.typed_bodies.proofs.Steps.{then_made}
use Rattle.typed_bodies.proofs.Conversions.{variable_is}
use Rattle.typed_bodies.proofs.Arguments.{ReadsArgument, known_typed, begins_with}
use Rattle.typed_bodies.proofs.Names.{AddsName, names, known_there, named_first, with_variable}
use Rattle.typed_bodies.proofs.Needing.{within_vector_call, within_accessed}
use Rattle.typed_bodies.proofs.Signed.{IsAnswered, named_method, vector_typed, no_access_vector, access_typed}
use Rattle.typed_bodies.proofs.DottedCalls.{dotted_follows}

both_hold : (a b : Bool) → (a && b) ≡ true → a ≡ true × b ≡ true
both_hold true true e = (refl, refl)
both_hold true false e = absurd (cc)
both_hold false b e = absurd (cc)

abbrev args_in : Invoked → List Expression
args_in (invoked.Value a) = []
args_in (invoked.Sets v at b) = []
args_in (invoked.Accesses a) = a.args

accessed_args : (field : ℕ) (how : Choice) (o : Option Method) (args : List Expression) (a : Access) → accessed field how o args ≡ invoked.Accesses a → args ≡ a.args
accessed_args field how None args a is = absurd (cc)
accessed_args field how (Some m) args a is = ap args_in is

-- what is answered of a field's method is an access by it
access_of : (p : Place) (field : ℕ) (how : Choice) (name : List ℕ) (found : ExprType) (args : List Expression)
    → IsAnswered p.context (state_method (class_at p.scope field) name) found args → IsWithin p (needs_of_all args)
    → AccessOf p field name found (accessed field how (method_named (class_at p.scope field) name) args)
access_of p field how name found args a within =
    let m = named_method (class_at p.scope field) name a.it a.is in
    record {
      access = record { target = Dropped; field = field; choice = how; method = m.0; args = args };
      is = ap (λ (o : Option Method). accessed field how o args) m.1;
      of_field = refl;
      of_method = a.it;
      signed = m.2;
      named = a.is;
      takes = a.takes;
      gives = a.gives;
      within = within;
    }

-- What has methods and a value is a vector.
pub vector_alone : (c : Context) (owner : ExprType) (name : List ℕ) (a : Expression) (s : Shape) → IsOfType c owner a → method_of owner name ≡ Some s → owner ≡ Value value.Vector
vector_alone c Unknown name a s typed is = absurd typed
vector_alone c Void name a s typed is = absurd (cc)
vector_alone c (Value value.Int) name a s typed is = absurd (cc)
vector_alone c (Value value.Long) name a s typed is = absurd (cc)
vector_alone c (Value value.Boolean) name a s typed is = absurd (cc)
vector_alone c (Value value.Vector) name a s typed is = refl
vector_alone c (Collection t) name a s typed is = absurd (cc)
vector_alone c (State class) name a s typed is = absurd typed

-- a call of a method of the vector in a variable
record OnVector (p : Place) (owner : ExprType) (v : ℕ) (found : ExprType) (ms : List marking.Argument) (names : List Declaration) (i : Invoked) : Type 0 where
  grows : (position : Position) (u : Marking) → (all_marked p.marks position ms u).findings ≡ [] → u.findings ≡ []
  inside : IsOfType p.context owner (x.Variable v) → Passes p (all_marked p.marks Inside ms) false names
  typed : are_plain p names ≡ true → IsOfType p.context owner (x.Variable v) → IsInvoked p found i
  within : are_plain p names ≡ true → InScope p v → IsWithinCall p i
  no_access : is_access i ≡ false

-- a call of a method of a field
record OnField (p : Place) (owner : ExprType) (field : ℕ) (name : List ℕ) (found : ExprType) (ms : List marking.Argument) (names : List Declaration) (i : Invoked) : Type 0 where
  inside : owner ≡ State (class_at p.scope field) → Passes p (all_marked p.marks Inside ms) false names
  reached : are_plain p names ≡ true → owner ≡ State (class_at p.scope field) → AccessOf p field name found i
  key : (u : Marking) (rest : List Declaration) → drop u.used p.marks.names ≡ names ++ rest → (a : Access) → i ≡ invoked.Accesses a → IsKey p (marking.first_key ms u) (needs (argument a.args 0))
  grows : (position : Position) (u : Marking) → (all_marked p.marks position ms u).findings ≡ [] → u.findings ≡ []
  typed : are_plain p names ≡ true → owner ≡ State (class_at p.scope field) → IsInvoked p found i
  within : are_plain p names ≡ true → IsWithinCall p i

module _ {Arg : Type 0} (p : Place) (sound : IsSound p) (pass : Arg → Argument) (reads : Arg → Resolving) (marked : Arg → marking.Argument)
    (each : (x : Arg) → ReadsArgument p (pass x) (reads x) (marked x))
    (at : ℕ) (t : Typing) (name : List ℕ) (args : List Arg) (quiet : (call_of p.env at t name (map pass args)).walk.findings ≡ []) where
  abbrev marks : List marking.Argument
  marks = map marked args

  -- the call that begins with this name
  abbrev CallOf : List ℕ → ExprType → List Declaration → Invoked → Type 0
  CallOf object found names i = IsCall p false found (marking.call_step p.marks (e.Of object name marks)) names i

  abbrev end : Typing
  end = call_of p.env at t name (map pass args)

  on_vector : (v : ℕ) → Follows p t.walk end.walk (vector_step v name (map reads args)) (OnVector p t.found v end.found marks)
  on_vector v =
      then_made p (vector_call v name) (OnVector p t.found v end.found marks)
      (λ names out d. record {
        typed = λ plain typed.
            let there = known_typed p.context t.found (x.Variable v) typed in
            let shape = d.has_method there in
            let vector = vector_alone p.context t.found name (x.Variable v) shape.0 typed shape.1 in
            let agree : laws.Agree (method_of t.found name) (vector_method name) = subst (λ (o : ExprType). laws.Agree (method_of o name) (vector_method name)) (sym vector) (vector_agrees name) in
            let is : type_of p.context (x.Variable v) ≡ Some type.Vector = subst (λ (o : ExprType). IsOfType p.context o (x.Variable v)) vector typed in
            vector_typed p v name end.found out (sym (variable_is p.context v) ∙ is) (d.answered plain there agree);
        grows = d.grows;
        inside = λ typed. d.inside (known_typed p.context t.found (x.Variable v) typed);
        within = λ plain s. within_vector_call p v name out s (d.within plain);
        no_access = no_access_vector v name out;
      })
      (dotted_follows p pass reads marked each at t name args (vector_method name) quiet)

  on_field : (field : ℕ) → Follows p t.walk end.walk (access_step p.scope field name (map reads args)) (OnField p t.found field name end.found marks)
  on_field field =
      let class = class_at p.scope field in
      let f = dotted_follows p pass reads marked each at t name args (state_method class name) quiet in
      record {
        added = f.added;
        in_step = λ known c types names stands.
            let r = f.in_step known (behind_site c) types names (record { are_types = stands.are_types; are_names = stands.are_names; are_variables = stands.are_variables; are_locals = stands.are_locals }) in
            record {
              behind = r.behind;
              fits = record {
                typed = λ plain state.
                    let there : is_known t.found ≡ true = ap is_known state in
                    let agree : laws.Agree (method_of t.found name) (state_method class name) =
                    subst (λ (o : ExprType). laws.Agree (method_of o name) (state_method class name)) (sym state) (state_agrees class name) in
                    access_typed p field (chosen c (site_here c)) name end.found _ (r.fits.answered plain there agree);
                grows = r.fits.grows;
                inside = λ state. r.fits.inside (ap is_known state);
                key = λ u rest at a is.
                    let same = accessed_args field (chosen c (site_here c)) (method_named class name) _ a is in
                    subst (λ (es : List Expression). IsKey p (marking.first_key marks u) (needs (argument es 0))) same (r.fits.key u rest at);
                reached = λ plain state.
                    let there : is_known t.found ≡ true = ap is_known state in
                    let agree : laws.Agree (method_of t.found name) (state_method class name) =
                    subst (λ (o : ExprType). laws.Agree (method_of o name) (state_method class name)) (sym state) (state_agrees class name) in
                    access_of p field (chosen c (site_here c)) name end.found _ (r.fits.answered plain there agree) (r.fits.within plain);
                within = λ plain. within_accessed p field (chosen c (site_here c)) (method_named class name) _ (r.fits.within plain);
              };
            };
      }

  whole_variable : (object : List ℕ) (d : Declaration) (names : List Declaration) (i : Invoked) → is_field d ≡ false → is_method d ≡ false
      → ((position : Position) (u : Marking) → (all_marked p.marks position marks u).findings ≡ [] → u.findings ≡ [])
      → (is_plain p d ≡ true → Passes p (all_marked p.marks Inside marks) false names)
      → (position : Position) (global : Option ℕ) (u : Marking) (rest : List Declaration) → Begins p (marking.call_step p.marks (e.Of object name marks) position global) (d ∷ names) u rest
      → IsWhole p position global end.found i (d ∷ names) rest u (marking.call_step p.marks (e.Of object name marks) position global u)
  whole_variable object d names i no_field no_method grow a position (Some at) u rest b = absurd (of_global p marks grow object name d names no_field position at u rest b)
  whole_variable object d names i no_field no_method grow a position None u rest b =
      plainly p position end.found i (d ∷ names) rest (marking.call_step p.marks (e.Of object name marks) position None) u (of_anywhere p marks grow object name d names no_field no_method a position) b

  on_variable : (w : Walk) (object : List ℕ) (d : Declaration) (found : ExprType) → variable p.env w object ≡ Some (record { declaration = d; found = found }) → t.found ≡ found
      → is_field d ≡ false → w.variables ≡ p.known → (names : List Declaration) (i : Invoked)
      → OnVector p t.found (variable_of (cursor_at p) (Some d)) end.found marks names i → CallOf object end.found (d ∷ names) i
  on_variable w object d found is same no_field known names i on = record {
    typed = λ read plain.
        let plains = both_hold (is_field d || is_plain p d) (are_plain p names) plain in
        let plain_name : is_plain p d ≡ true = ap (λ b. b || is_plain p d) (sym no_field) ∙ plains.0 in
        on.typed plains.1 (subst (λ (u : ExprType). IsOfType p.context u (x.Variable (variable_of (cursor_at p) (Some d)))) (sym same) (sound.variables object _ (known_there p object w known is) plain_name));
    grows = of_grows p marks on.grows object name;
    no_global = of_no_global p marks on.grows object name;
    whole = λ position global is_whole u rest b. whole_variable object d names i no_field (sound.no_methods object _ (known_there p object w known is)) on.grows
        (λ plain_name. on.inside (subst (λ (u : ExprType). IsOfType p.context u (x.Variable (variable_of (cursor_at p) (Some d)))) (sym same) (sound.variables object _ (known_there p object w known is) plain_name)))
        position global u rest b;
    inside = of_inside p marks on.grows object name d names no_field (sound.no_methods object _ (known_there p object w known is))
        (λ plain_name. on.inside (subst (λ (u : ExprType). IsOfType p.context u (x.Variable (variable_of (cursor_at p) (Some d)))) (sym same) (sound.variables object _ (known_there p object w known is) plain_name)));
    within = λ plain.
        let plains = both_hold (is_field d || is_plain p d) (are_plain p names) plain in
        let plain_name : is_plain p d ≡ true = ap (λ b. b || is_plain p d) (sym no_field) ∙ plains.0 in
        on.within plains.1 (record { name = object; it = record { declaration = d; found = found }; is = known_there p object w known is; plain = plain_name; number = refl });
    begins = λ plain. begins_with p d names plain;
    no_access = λ plain. on.no_access;
  }

  -- behind the name of what it is a method of
  behind_name_of : (w : Walk) (object : List ℕ) (d : Declaration) (found : ExprType) → variable p.env w object ≡ Some (record { declaration = d; found = found }) → t.found ≡ found
      → AddsName w t.walk d → Follows p w end.walk (λ c. of_step p.scope name (map reads args) (name_here c) (behind_name c)) (CallOf object end.found)
  behind_name_of w object (declaration.Field field) found is same adds =
      named_first p (declaration.Field field) (of_step p.scope name (map reads args)) (OnField p t.found field name end.found marks) (CallOf object end.found) adds
      (λ known names i on. record {
        typed = λ read plain. on.typed plain (same ∙ sound.fields object _ field (known_there p object w known is) refl);
        grows = of_grows p marks on.grows object name;
        no_global = of_no_global p marks on.grows object name;
        inside = of_field p marks on.grows object name field names;
        whole = λ position global is_whole u rest b.
            inr (inl (field_whole p marks on.grows object name field names end.found i _ (known_there p object w known is) refl
            (λ plain. on.reached plain (same ∙ sound.fields object _ field (known_there p object w known is) refl))
            (on.inside (same ∙ sound.fields object _ field (known_there p object w known is) refl)) on.key position global u rest b));
        within = λ plain. on.within plain;
        begins = λ plain. absurd (let h : false ≡ true = plain in cc);
        no_access = λ plain. absurd (let h : false ≡ true = plain in cc);
      })
      (on_field field)
  behind_name_of w object (declaration.Method m) found is same adds =
      named_first p (declaration.Method m) (of_step p.scope name (map reads args)) (OnVector p t.found (variable_of (cursor_at p) (Some (declaration.Method m))) end.found marks) (CallOf object end.found) adds
      (on_variable w object (declaration.Method m) found is same refl)
      (with_variable p (declaration.Method m) (λ v. vector_step v name (map reads args)) (OnVector p t.found (variable_of (cursor_at p) (Some (declaration.Method m))) end.found marks) (on_vector (variable_of (cursor_at p) (Some (declaration.Method m)))))
  behind_name_of w object (declaration.Parameter m) found is same adds =
      named_first p (declaration.Parameter m) (of_step p.scope name (map reads args)) (OnVector p t.found (variable_of (cursor_at p) (Some (declaration.Parameter m))) end.found marks) (CallOf object end.found) adds
      (on_variable w object (declaration.Parameter m) found is same refl)
      (with_variable p (declaration.Parameter m) (λ v. vector_step v name (map reads args)) (OnVector p t.found (variable_of (cursor_at p) (Some (declaration.Parameter m))) end.found marks) (on_vector (variable_of (cursor_at p) (Some (declaration.Parameter m)))))
  behind_name_of w object (declaration.Local m) found is same adds =
      named_first p (declaration.Local m) (of_step p.scope name (map reads args)) (OnVector p t.found (variable_of (cursor_at p) (Some (declaration.Local m))) end.found marks) (CallOf object end.found) adds
      (on_variable w object (declaration.Local m) found is same refl)
      (with_variable p (declaration.Local m) (λ v. vector_step v name (map reads args)) (OnVector p t.found (variable_of (cursor_at p) (Some (declaration.Local m))) end.found marks) (on_vector (variable_of (cursor_at p) (Some (declaration.Local m)))))

module _ {Arg : Type 0} (p : Place) (sound : IsSound p) (pass : Arg → Argument) (reads : Arg → Resolving) (marked : Arg → marking.Argument)
    (each : (x : Arg) → ReadsArgument p (pass x) (reads x) (marked x)) where
  -- a call of a method of what a name stands for is followed where its arguments are
  pub of_name_follows : (object name : List ℕ) (args : List Arg) (w : Walk) → (call_of p.env w.at (named p.env object w) name (map pass args)).walk.findings ≡ []
      → Follows p w (call_of p.env w.at (named p.env object w) name (map pass args)).walk (λ c. of_step p.scope name (map reads args) (name_here c) (behind_name c))
      (IsCall p false (call_of p.env w.at (named p.env object w) name (map pass args)).found (marking.call_step p.marks (e.Of object name (map marked args))))
  of_name_follows object name args w quiet =
      let t = named p.env object w in
      let n = names p.env object w (dotted_follows p pass reads marked each w.at t name args None quiet).added.no_findings in
      behind_name_of p sound pass reads marked each w.at t name args quiet w object n.it.declaration n.it.found n.is n.found n.adds
