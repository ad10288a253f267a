-- The walk of the rules on annotations only adds findings: over members. So in a class in which they find nothing, a collection is the
-- one parameter of its method, and an array, and each parameter that is an array is a collection.
use Rattle.std.proofs.Common.{◌≡◌, ℕ, zero, suc, Bool, true, false, not, ◌&&◌, ◌||◌, List, [], ◌∷◌, length, map, fold, slice_get, Some, refl, subst}
use Rattle.std.specs.List.{list_any}
use Rattle.java_tree.specs.declared.tree.Class.{Class}
use Rattle.java_tree.specs.declared.tree.Member.{Member}
use Rattle.java_tree.specs.declared.tree.Member.TheVariants as member
use Rattle.java_tree.specs.declared.tree.Field.{Field}
use Rattle.java_tree.specs.declared.tree.FieldModifier.{FieldModifier}
use Rattle.java_tree.specs.declared.tree.Method.{Method}
use Rattle.java_tree.specs.declared.tree.Param.{Param}
use Rattle.java_tree.specs.declared.types.Declaration.{Declaration}
use Rattle.java_tree.specs.Kinds.{kind_of}
use Rattle.annotations.specs.declared.site.FieldKind.{FieldKind}
use Rattle.annotations.specs.declared.site.FieldKind.TheVariants.{Partitioned, Partial}
use Rattle.annotations.specs.declared.walk.Env.{Env}
use Rattle.annotations.specs.declared.walk.Walk.{Walk}
use Rattle.annotations.specs.Kinds.{kind_of_field}
use Rattle.annotations.specs.Walks.{past, noted}
use Rattle.annotations.specs.Statements.{item_walk}
use Rattle.annotations.specs.Members.{is_annotation, past_modifier, met, field_walk, param_walk, params_walk, entered, is_entry, is_ill_collected, method_walk, member_walk}
use Rattle.annotations.specs.Environment.{env_of}
use Rattle.annotations.specs.Check.{whole, broken, refused_at}
use Rattle.access_blocks.specs.Programs.{methods_in}
use Rattle.accepted_classes.proofs.RuledExpressions.{Back, here, after, noted_back, not_noted, past_back, past_if_back, past_none_back, fold_back}
use Rattle.accepted_classes.proofs.RuledStatements.{block_back, item_back}

modifier_back : (env : Env) (w : Walk) (m : FieldModifier) → Back w (past_modifier env w m)
modifier_back env w m = after (past_if_back env (is_annotation m) 1 w) (past_back env 1 _)

met_back : (kind : FieldKind) (w : Walk) → Back w (met kind w)
met_back Partitioned w = here w
met_back Partial w = record { back = λ q. q }

field_back : (env : Env) (f : Field) (w : Walk) → Back w (field_walk env f w)
unfolding field_walk
field_back env f w =
    after (met_back (kind_of_field f) w)
    (after (noted_back _ w.at 1 _) (after (noted_back _ w.at 2 _) (after (fold_back (past_modifier env) (modifier_back env) f.modifiers _) (past_back env 8 _))))

param_back : (env : Env) (w : Walk) (p : Param) → Back w (param_walk env w p)
unfolding param_walk
param_back env w p =
    let n = noted_back (p.is_array && not p.is_collection) (past env 1 w).at 11 (past env 1 w) in
    after (past_back env 1 w) (after (record { back = n.back }) (after (past_if_back env p.is_collection 2 _) (after (past_if_back env p.is_array 2 _) (past_back env 2 _))))

param_collected : (env : Env) (w : Walk) (p : Param) → (param_walk env w p).findings ≡ [] → (p.is_array && not p.is_collection) ≡ false
unfolding param_walk
param_collected env w p q =
    let n = noted (p.is_array && not p.is_collection) (past env 1 w).at 11 (past env 1 w) in
    let rest = after (past_if_back env p.is_collection 2 _) (after (past_if_back env p.is_array 2 _) (past_back env 2 _)) in
    not_noted (p.is_array && not p.is_collection) (past env 1 w).at 11 (past env 1 w) (rest.back q)

params_back : (env : Env) (all : List Param) (w : Walk) → Back w (params_walk env all w)
unfolding params_walk
params_back env all w = after (fold_back (param_walk env) (param_back env) all w) (after (past_none_back env all _) (past_back env 1 _))

params_collected : (env : Env) (all : List Param) (w : Walk) → (fold (param_walk env) w all).findings ≡ [] → list_any (λ p. p.is_array && not p.is_collection) all ≡ false
params_collected env [] w q = refl
params_collected env (p ∷ ps) w q =
    neither (p.is_array && not p.is_collection) (list_any (λ p. p.is_array && not p.is_collection) ps)
    (param_collected env w p ((fold_back (param_walk env) (param_back env) ps (param_walk env w p)).back q)) (params_collected env ps (param_walk env w p) q)
  where
    neither : (a b : Bool) → a ≡ false → b ≡ false → (a || b) ≡ false
    neither true b e f = absurd (cc)
    neither false b e f = f

-- behind the parameters
behind_params : (env : Env) (all : List Param) (w : Walk) → Back (fold (param_walk env) w all) (params_walk env all w)
unfolding params_walk
behind_params env all w = after (past_none_back env all _) (past_back env 1 _)

entered_back : (entry : Bool) (w : Walk) → Back w (entered entry w)
unfolding entered
entered_back entry w = record { back = λ q. q }

-- behind the first rule on a method
behind_collected : (env : Env) (m : Method) (w : Walk) → Back (noted (is_ill_collected m.params) w.at 11 w) (method_walk env m w)
unfolding method_walk
behind_collected env m w =
    after (entered_back (is_entry (kind_of m)) _)
    (after (past_back env (length m.modifiers) _) (after (past_back env 2 _) (after (params_back env m.params _) (block_back env (item_walk env) (item_back env) m.body _))))

method_back : (env : Env) (m : Method) (w : Walk) → Back w (method_walk env m w)
method_back env m w = after (noted_back (is_ill_collected m.params) w.at 11 w) (behind_collected env m w)

well_collected : (env : Env) (m : Method) (w : Walk) → (method_walk env m w).findings ≡ [] → is_ill_collected m.params ≡ false
well_collected env m w q = not_noted (is_ill_collected m.params) w.at 11 w ((behind_collected env m w).back q)

arrays_in : (env : Env) (m : Method) (w : Walk) → (method_walk env m w).findings ≡ [] → list_any (λ p. p.is_array && not p.is_collection) m.params ≡ false
unfolding method_walk
arrays_in env m w q =
    params_collected env m.params _ ((after (behind_params env m.params _) (block_back env (item_walk env) (item_back env) m.body _)).back q)

member_back : (env : Env) (w : Walk) (m : Member) → Back w (member_walk env w m)
member_back env w (member.Field f) = field_back env f w
member_back env w (member.Method m) = method_back env m w

the_same : {A : Type 0} {x y : A} → Some x ≡ Some y → x ≡ y
the_same e = cc

first_or : {P : Method → Type 0} (m : Method) (ms : List Method) → P m → ((i : ℕ) (n : Method) → slice_get ms i ≡ Some n → P n) → (i : ℕ) (n : Method) → slice_get (m ∷ ms) i ≡ Some n → P n
first_or {P = P} m ms first rest zero n is = subst P (the_same is) first
first_or m ms first rest (suc i) n is = rest i n is

-- What each method meets in whose walk nothing is found, all methods of members meet in whose walk nothing is found.
methods_meet : {P : Method → Type 0} (env : Env) → ((m : Method) (w : Walk) → (method_walk env m w).findings ≡ [] → P m)
    → (ms : List Member) (w : Walk) → (fold (member_walk env) w ms).findings ≡ [] → (i : ℕ) (m : Method) → slice_get (methods_in ms) i ≡ Some m → P m
methods_meet env each [] w q i m is = absurd (cc)
methods_meet {P = P} env each (member.Field f ∷ ms) w q i m is = methods_meet {P = P} env each ms (field_walk env f w) q i m is
methods_meet {P = P} env each (member.Method m ∷ ms) w q i n is =
    first_or {P = P} m (methods_in ms) (each m w ((fold_back (member_walk env) (member_back env) ms (method_walk env m w)).back q)) (methods_meet {P = P} env each ms (method_walk env m w) q) i n is

none_mapped : {A B : Type 0} (f : A → B) (xs : List A) → map f xs ≡ [] → xs ≡ []
none_mapped f [] h = refl
none_mapped f (x ∷ xs) h = absurd (cc)

class_meets : {P : Method → Type 0} (c : Class) (names : List Declaration) → ((m : Method) (w : Walk) → (method_walk (env_of c names) m w).findings ≡ [] → P m)
    → broken c names ≡ [] → (i : ℕ) (m : Method) → slice_get (methods_in c.members) i ≡ Some m → P m
unfolding whole
class_meets {P = P} c names each q = methods_meet {P = P} (env_of c names) each c.members _ (none_mapped (refused_at c.places) (whole c names).findings q)

-- what is collected is one array, and each array is collected
pub well_collected_in : (c : Class) (names : List Declaration) → broken c names ≡ [] → (i : ℕ) (m : Method) → slice_get (methods_in c.members) i ≡ Some m → is_ill_collected m.params ≡ false
well_collected_in c names = class_meets {P = λ m. is_ill_collected m.params ≡ false} c names (well_collected (env_of c names))

pub arrays_collected : (c : Class) (names : List Declaration) → broken c names ≡ [] → (i : ℕ) (m : Method) → slice_get (methods_in c.members) i ≡ Some m
    → list_any (λ p. p.is_array && not p.is_collection) m.params ≡ false
arrays_collected c names = class_meets {P = λ m. list_any (λ p. p.is_array && not p.is_collection) m.params ≡ false} c names (arrays_in (env_of c names))
