-- A method goes, and where the rules find nothing in it its declaration is sound.
use Rattle.std.proofs.Common.{◌≡◌, ℕ, suc, ◌<◌, Bool, true, false, not, ◌&&◌, ◌||◌, nat_le, List, [], ◌∷◌, ◌++◌, length, map, fold, Option, Some, None, is_some, if◌then◌else◌, refl, sym, ap, ◌∙◌, arith}
use Rattle.std.specs.List.{list_any}
use Rattle.std.proofs.lemmas.Bool.Decides.{nat_tests}
use Rattle.java_tree.specs.declared.tree.Field.{Field}
use Rattle.java_tree.specs.declared.tree.FieldModifier.{FieldModifier}
use Rattle.java_tree.specs.declared.tree.FieldModifier.TheVariants as field_modifier
use Rattle.java_tree.specs.declared.tree.Method.{Method}
use Rattle.java_tree.specs.declared.tree.Param.{Param}
use Rattle.java_tree.specs.declared.tree.ResultType.{ResultType}
use Rattle.java_tree.specs.declared.tree.ResultType.TheVariants as result_types
use Rattle.java_tree.specs.declared.tree.TypeName.{TypeName}
use Rattle.java_tree.specs.declared.types.ValueType.{ValueType}
use Rattle.java_tree.specs.declared.types.ExprType.{ExprType}
use Rattle.java_types.specs.declared.walk.Env.{Env}
use Rattle.java_types.specs.declared.walk.Walk.{Walk}
use Rattle.java_types.specs.Fits.{is_known}
use Rattle.java_types.specs.Names.{entry_of}
use Rattle.java_types.specs.Walks.{past, noted}
use Rattle.java_types.specs.Simples.{typed_name, declared_type, value_or_none}
use Rattle.java_types.specs.Declarations.{result_type, param_type, collection_of}
use Rattle.java_types.specs.Members.{named_member, past_field_modifier, field_walk, param_walk, Counted, counted, params_walk, result_walk, number_in, entered, method_walk}
use Rattle.std.specs.Str.{bytes_eq}
use Rattle.java_tree.specs.Words.{is_reserved, state_class, value_type}
use Rattle.access_blocks.specs.declared.scope.Scope.{Scope}
use Rattle.access_blocks.specs.declared.body.Statement.{Statement}
use Rattle.access_blocks.specs.Cursors.{Cursor, Read}
use Rattle.access_blocks.specs.ResolvingStatements.{list_of, item_of}
use Rattle.access_blocks.specs.Programs as programs
use Rattle.accepted_classes.proofs.Calls.{CallsInAll}
use Rattle.accepted_classes.proofs.Steps.{Still, here, after, noted_still, not_noted, past_still, past_if_still, past_none_still, Goes, before}
use Rattle.accepted_classes.proofs.Simples.{typed_name_still, declared_still}
use Rattle.accepted_classes.proofs.Statements.{body_goes}
use Rattle.accepted_classes.proofs.Naming.{Name, is_named, names_in, is_entry, with_new, names_push}

not_false : (b : Bool) → not b ≡ false → b ≡ true
not_false true h = refl
not_false false h = absurd (cc)

either_false : (a b : Bool) → (a || b) ≡ false → (a ≡ false) × (b ≡ false)
either_false true b h = absurd (cc)
either_false false b h = (refl, h)

-- ---- names of members

pub record IsNew (name : Name) (most at : ℕ) (seen : List (Name × Unit {0})) (w : Walk) : Type 0 where
  pub back : w.findings ≡ []
  pub new : is_named name (names_in seen) ≡ false
  pub room : length (names_in seen) < most
  pub plain : is_reserved name ≡ false
  pub more : names_in (named_member name most at seen w).seen ≡ names_in seen ++ name ∷ []

as_many : {T : Type 0} (es : List (Name × T)) → length (names_in es) ≡ length es
as_many [] = refl
as_many (e ∷ es) = ap suc (as_many es)

room_by : (twice : Bool) (most n : ℕ) → twice ≡ false → (not twice && nat_le most n) ≡ false → n < most
room_by true most n h k = absurd (cc)
room_by false most n h k = grind (arith, nat_tests)

pub named_new : (name : Name) (most at : ℕ) (seen : List (Name × Unit {0})) (w : Walk) → (named_member name most at seen w).walk.findings ≡ [] → IsNew name most at seen w
unfolding named_member
named_new name most at seen w q =
    let twice = is_some (entry_of name seen) in
    let inner = noted (twice || is_reserved name) at 2 w in
    let full = not_noted (not twice && nat_le most (length seen)) at 14 inner q in
    let back = (noted_still (not twice && nat_le most (length seen)) at 14 inner).back q in
    let two = either_false twice (is_reserved name) (not_noted (twice || is_reserved name) at 2 w back) in
    let new : is_named name (names_in seen) ≡ false = sym (is_entry name seen) ∙ two.0 in
    let room : length seen < most = room_by twice most (length seen) two.0 full in
    record {
      back = (noted_still (twice || is_reserved name) at 2 w).back back;
      new = new;
      room = omega (arith, as_many seen, room);
      plain = two.1;
      more = ap names_in (with_new name tt seen new) ∙ names_push seen name tt;
    }

pub named_still : (name : Name) (most at : ℕ) (seen : List (Name × Unit {0})) (w : Walk) → Still w (named_member name most at seen w).walk
unfolding named_member
named_still name most at seen w = after (noted_still _ at 2 w) (noted_still _ at 14 _)

-- ---- fields

field_modifier_still : (env : Env) (w : Walk) (m : FieldModifier) → Still w (past_field_modifier env w m)
field_modifier_still env w field_modifier.Partitioned = past_still env 2 w
field_modifier_still env w field_modifier.Partial = past_still env 2 w
field_modifier_still env w field_modifier.Public = past_still env 1 w
field_modifier_still env w field_modifier.Private = past_still env 1 w

pub fold_still : {A : Type 0} (step : Walk → A → Walk) → ((w : Walk) (x : A) → Still w (step w x)) → (xs : List A) (w : Walk) → Still w (fold step w xs)
fold_still step each [] w = here w
fold_still step each (x ∷ xs) w = after (each w x) (fold_still step each xs (step w x))

pub field_still : (env : Env) (f : Field) (at : ℕ) (w : Walk) → Still w (field_walk env f at w)
unfolding field_walk
field_still env f at w =
    after (noted_still _ at 4 w)
    (after (fold_still (past_field_modifier env) (field_modifier_still env) f.modifiers _)
    (after (noted_still _ _ 3 _) (after (past_still env 4 _) (after (noted_still _ _ 3 _) (past_still env 4 _)))))

-- what is found of a field that breaks no rule
pub record IsSoundField (f : Field) : Type 0 where
  pub class : is_some (state_class f.type_name) ≡ true
  pub made : bytes_eq f.type_name f.maker ≡ true

pub field_sound : (env : Env) (f : Field) (at : ℕ) (w : Walk) → (field_walk env f at w).findings ≡ [] → IsSoundField f
unfolding field_walk
field_sound env f at w q =
    let rest =
    after (fold_still (past_field_modifier env) (field_modifier_still env) f.modifiers (noted (not (is_some (state_class f.type_name)) || not (bytes_eq f.type_name f.maker)) at 4 w))
    (after (noted_still _ _ 3 _) (after (past_still env 4 _) (after (noted_still _ _ 3 _) (past_still env 4 _)))) in
    let two = either_false (not (is_some (state_class f.type_name))) (not (bytes_eq f.type_name f.maker))
    (not_noted (not (is_some (state_class f.type_name)) || not (bytes_eq f.type_name f.maker)) at 4 w (rest.back q)) in
    record { class = not_false (is_some (state_class f.type_name)) two.0; made = not_false (bytes_eq f.type_name f.maker) two.1 }

-- ---- methods

param_still : (env : Env) (number : ℕ) (p : Param) (w : Walk) → Still w (param_walk env number p w)
unfolding param_walk
param_still env number p w =
    after (past_still env 1 w)
    (after (past_if_still env p.is_collection 2 _) (after (typed_name_still env _ p.type_name _) (after (past_if_still env p.is_array 2 _) (declared_still env _ p.name _ _))))

typed_known : (env : Env) (at : ℕ) (name : TypeName) (w : Walk) → (typed_name env at name w).walk.findings ≡ [] → is_known (declared_type name) ≡ true
unfolding typed_name
typed_known env at name w q = not_false (is_known (declared_type name)) (not_noted (not (is_known (declared_type name))) at 5 _ ((past_still env 1 _).back q))

param_known_by : (is_array : Bool) (t : ExprType) → is_known (collection_of t) ≡ is_known t → is_known t ≡ true → is_known (if is_array then collection_of t else t) ≡ true
param_known_by true t same h = same ∙ h
param_known_by false t same h = h

value_known : (o : Option ValueType) → is_known (collection_of (value_or_none o)) ≡ is_known (value_or_none o)
value_known None = refl
value_known (Some t) = refl

param_known : (env : Env) (number : ℕ) (p : Param) (w : Walk) → (param_walk env number p w).findings ≡ [] → is_known (param_type p) ≡ true
unfolding param_walk
param_known env number p w q =
    let known = typed_known env _ p.type_name _ ((past_if_still env p.is_array 2 _).back ((declared_still env _ p.name _ _).back q)) in
    param_known_by p.is_array (declared_type p.type_name) (value_known (value_type p.type_name)) known

result_still : (env : Env) (r : ResultType) (w : Walk) → Still w (result_walk env r w)
result_still env result_types.Void w = past_still env 1 w
result_still env (result_types.Type name) w = typed_name_still env w.at name w

result_known : (env : Env) (r : ResultType) (w : Walk) → (result_walk env r w).findings ≡ [] → is_known (result_type r) ≡ true
result_known env result_types.Void w q = refl
result_known env (result_types.Type name) w q = typed_known env w.at name w q

-- what is found of parameters that break no rule
record AreParams (env : Env) (c : Counted) (all : List Param) : Type 0 where
  still : Still c.walk (fold (counted env) c all).walk
  known : (fold (counted env) c all).walk.findings ≡ [] → list_any (λ p. not (is_known (param_type p))) all ≡ false

or_false : (a b : Bool) → a ≡ true → b ≡ false → (not a || b) ≡ false
or_false true b h k = k
or_false false b h k = absurd (cc)

are_params : (env : Env) (c : Counted) (all : List Param) → AreParams env c all
are_params env c [] = record { still = here c.walk; known = λ q. refl }
are_params env c (p ∷ all) =
    let rest = are_params env (counted env c p) all in
    record {
      still = after (param_still env c.count p c.walk) rest.still;
      known = λ q. or_false (is_known (param_type p)) (list_any (λ p. not (is_known (param_type p))) all) (param_known env c.count p c.walk (rest.still.back q)) (rest.known q);
    }

params_still : (env : Env) (all : List Param) (w : Walk) → Still w (params_walk env all w)
unfolding params_walk
params_still env all w = after (are_params env (record { count = 0; walk = w }) all).still (after (past_none_still env all _) (past_still env 1 _))

params_known : (env : Env) (all : List Param) (w : Walk) → (params_walk env all w).findings ≡ [] → list_any (λ p. not (is_known (param_type p))) all ≡ false
unfolding params_walk
params_known env all w q = (are_params env (record { count = 0; walk = w }) all).known ((past_none_still env all _).back ((past_still env 1 _).back q))

-- the walk where a method's parameters begin, but for what is in scope there
abbrev pub called_from : Env → Method → Walk → Walk
called_from env m w = record w { caller = number_in (entry_of m.name env.methods) }

entered_still : (env : Env) (m : Method) (w v : Walk) → Still w v → Still (called_from env m w) (entered env m.name v)
unfolding entered
entered_still env m w v s = record { back = s.back; names = s.names; caller = refl; calls = s.calls }

head_still : (env : Env) (m : Method) (w : Walk) → Still w (past env 1 (result_walk env m.result (past env (length m.modifiers) w)))
head_still env m w = after (past_still env (length m.modifiers) w) (after (result_still env m.result _) (past_still env 1 _))

-- the statements of a method, before marks
abbrev pub body_reading : Scope → Method → Cursor → Read (List Statement)
body_reading scope m = list_of (map (item_of scope (programs.result_type m.result)) m.body)

module _ (P : ℕ → Type 0) (env : Env) (scope : Scope) where
  pub method_goes : (m : Method) (w : Walk) → Goes P env (called_from env m w) (method_walk env m w) (body_reading scope m) (CallsInAll P)
  unfolding method_walk
  method_goes m w =
      let w1 = past env 1 (result_walk env m.result (past env (length m.modifiers) w)) in
      before P (after (entered_still env m w w1 (head_still env m w)) (params_still env m.params (entered env m.name w1)))
      (body_goes P env scope (programs.result_type m.result) m.body _ (params_walk env m.params (entered env m.name w1)))

-- what is found of a method that breaks no rule
pub record IsSoundMethod (m : Method) : Type 0 where
  pub result : is_known (result_type m.result) ≡ true
  pub params : list_any (λ p. not (is_known (param_type p))) m.params ≡ false

pub method_sound : (env : Env) (m : Method) (w : Walk) → (method_walk env m w).findings ≡ [] → IsSoundMethod m
unfolding method_walk entered
method_sound env m w q =
    let w1 = result_walk env m.result (past env (length m.modifiers) w) in
    let w2 = entered env m.name (past env 1 w1) in
    let none : Scope = record { fields = []; methods = [] } in
    let in_body = (body_goes (λ n. Unit {0}) env none (programs.result_type m.result) m.body _ (params_walk env m.params w2)).back q in
    record {
      result = result_known env m.result _ ((past_still env 1 w1).back ((params_still env m.params w2).back in_body));
      params = params_known env m.params w2 in_body;
    }
