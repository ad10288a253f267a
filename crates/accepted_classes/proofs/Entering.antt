-- Where the body of a method begins, the rules on types know its parameters, and no local.
use Rattle.std.proofs.Common.{◌≡◌, ℕ, suc, ◌+◌, ◌||◌, Bool, true, false, nat_eq, List, [], ◌∷◌, ◌++◌, length, fold, slice_get, Option, Some, is_some, if◌then◌else◌, refl, sym, ap, subst, ◌∙◌, arith}
use Rattle.std.specs.Str.{bytes_eq}
use Rattle.java_tree.specs.declared.tree.Method.{Method}
use Rattle.java_tree.specs.declared.tree.Class.{Class}
use Rattle.java_tree.specs.declared.tree.Param.{Param}
use Rattle.java_tree.specs.declared.tree.TypeName.{TypeName}
use Rattle.java_tree.specs.declared.types.Declaration.TheVariants as declaration
use Rattle.java_tree.specs.Words.{is_reserved}
use Rattle.java_types.specs.declared.walk.Env.{Env}
use Rattle.java_types.specs.declared.walk.Variable.{Variable}
use Rattle.java_types.specs.declared.walk.Walk.{Walk}
use Rattle.java_types.specs.Check.{env_of}
use Rattle.java_types.specs.Declarations.{param_type}
use Rattle.java_types.specs.Members.{param_walk, Counted, counted, params_walk, entered}
use Rattle.java_types.specs.Names.{entry_of, with_entry}
use Rattle.java_types.specs.Simples.{typed_name, declared}
use Rattle.java_types.specs.Walks.{past, past_if, noted}
use Rattle.accepted_classes.specs.Beginning.{at_body, HasNoLocals}
use Rattle.accepted_classes.proofs.Naming.{Name}

-- ---- steps that keep what is known

record Kept (w v : Walk) : Type 0 where
  locals : v.locals ≡ w.locals
  types : v.types ≡ w.types
  names : v.names ≡ w.names

-- and the variables too
record KeptWhole (w v : Walk) : Type 0 where
  kept : Kept w v
  variables : v.variables ≡ w.variables

same : (w : Walk) → Kept w w
same w = record { locals = refl; types = refl; names = refl }

whole : (w : Walk) → KeptWhole w w
whole w = record { kept = same w; variables = refl }

both : {w u v : Walk} → Kept w u → Kept u v → Kept w v
both s t = record { locals = t.locals ∙ s.locals; types = t.types ∙ s.types; names = t.names ∙ s.names }

both_whole : {w u v : Walk} → KeptWhole w u → KeptWhole u v → KeptWhole w v
both_whole s t = record { kept = both s.kept t.kept; variables = t.variables ∙ s.variables }

past_kept : (env : Env) (n : ℕ) (w : Walk) → KeptWhole w (past env n w)
unfolding past
past_kept env n w = record { kept = record { locals = refl; types = refl; names = refl }; variables = refl }

past_if_kept : (env : Env) (test : Bool) (n : ℕ) (w : Walk) → KeptWhole w (past_if env test n w)
past_if_kept env true n w = past_kept env n w
past_if_kept env false n w = whole w

noted_kept : (broken : Bool) (token rule : ℕ) (w : Walk) → KeptWhole w (noted broken token rule w)
unfolding noted
noted_kept true token rule w = record { kept = record { locals = refl; types = refl; names = refl }; variables = refl }
noted_kept false token rule w = whole w

typed_name_kept : (env : Env) (at : ℕ) (name : TypeName) (w : Walk) → KeptWhole w (typed_name env at name w).walk
unfolding typed_name
typed_name_kept env at name w = both_whole (noted_kept _ w.at 3 w) (both_whole (noted_kept _ at 5 _) (past_kept env 1 _))

-- ---- entries

abbrev Entries : Type 0
Entries = List (Name × Variable)

module _ (P : Variable → Type 0) where
  abbrev pub EachIs : Entries → Type 0
  EachIs [] = Unit {0}
  EachIs (e ∷ es) = P e.1 × EachIs es

  each_push : (es : Entries) (name : Name) (v : Variable) → EachIs es → P v → EachIs (es ++ (name, v) ∷ [])
  each_push [] name v all one = (one, tt)
  each_push (e ∷ es) name v all one = (all.0, each_push es name v all.1 one)

  each_by : (known : Bool) (es more : Entries) → EachIs es → EachIs more → EachIs (if known then es else more)
  each_by true es more a b = a
  each_by false es more a b = b

  each_with : (es : Entries) (name : Name) (v : Variable) → EachIs es → P v → EachIs (with_entry name v es)
  each_with es name v all one = each_by (is_some (entry_of name es)) es (es ++ (name, v) ∷ []) all (each_push es name v all one)

  found_by : (here : Bool) (u v : Variable) (rest : Option Variable) → P u → (rest ≡ Some v → P v) → (if here then Some u else rest) ≡ Some v → P v
  found_by true u v rest one others is = subst P (the_same is) one
    where
      the_same : {x y : Variable} → Some x ≡ Some y → x ≡ y
      the_same e = cc
  found_by false u v rest one others is = others is

  pub each_found : (es : Entries) (name : Name) (v : Variable) → EachIs es → entry_of name es ≡ Some v → P v
  each_found [] name v all is = absurd (cc)
  each_found (e ∷ es) name v all is = found_by (bytes_eq name e.0) e.1 v (entry_of name es) all.0 (each_found es name v all.1) is

-- ---- parameters

-- one of these parameters, by its number
pub record IsOneOf (all : List Param) (v : Variable) : Type 0 where
  pub number : ℕ
  pub param : Param
  pub at : slice_get all number ≡ Some param
  pub is : v ≡ record { declaration = declaration.Parameter number; found = param_type param }

declared_kept : (env : Env) (at : ℕ) (name : Name) (v : Variable) (w : Walk) → Kept w (declared env at name v w)
unfolding declared
declared_kept env at name v w =
    let n = noted_kept (is_some (entry_of name w.variables) || is_reserved name) at 2 w in
    both n.kept (both (record { locals = refl; types = refl; names = refl }) (past_kept env 1 _).kept)

declared_each : (P : Variable → Type 0) (env : Env) (at : ℕ) (name : Name) (v : Variable) (w : Walk) → EachIs P w.variables → P v → EachIs P (declared env at name v w).variables
unfolding declared
declared_each P env at name v w all one =
    let n = noted_kept (is_some (entry_of name w.variables) || is_reserved name) at 2 w in
    subst (EachIs P) (sym (past_kept env 1 _).variables) (each_with P (noted (is_some (entry_of name w.variables) || is_reserved name) at 2 w).variables name v (subst (EachIs P) (sym n.variables) all) one)

module _ (env : Env) (number : ℕ) (p : Param) (w : Walk) where
  before_name : KeptWhole w (past_if env p.is_array 2 (typed_name env (past env 1 w).at p.type_name (past_if env p.is_collection 2 (past env 1 w))).walk)
  before_name =
      both_whole (past_kept env 1 w) (both_whole (past_if_kept env p.is_collection 2 (past env 1 w)) (both_whole (typed_name_kept env (past env 1 w).at p.type_name _) (past_if_kept env p.is_array 2 _)))

  param_kept : Kept w (param_walk env number p w)
  unfolding param_walk
  param_kept = both before_name.kept (declared_kept env (past env 1 w).at p.name _ _)

  param_each : (P : Variable → Type 0) → EachIs P w.variables → P (record { declaration = declaration.Parameter number; found = param_type p }) → EachIs P (param_walk env number p w).variables
  unfolding param_walk
  param_each P all one = declared_each P env (past env 1 w).at p.name _ _ (subst (EachIs P) (sym before_name.variables) all) one

all_kept : (env : Env) (rest : List Param) (c : Counted) → Kept c.walk (fold (counted env) c rest).walk
all_kept env [] c = same c.walk
all_kept env (p ∷ rest) c = both (param_kept env c.count p c.walk) (all_kept env rest (counted env c p))

each_counted : (env : Env) (all rest : List Param) (c : Counted) → ((i : ℕ) (p : Param) → slice_get rest i ≡ Some p → slice_get all (c.count + i) ≡ Some p)
    → EachIs (IsOneOf all) c.walk.variables → EachIs (IsOneOf all) (fold (counted env) c rest).walk.variables
each_counted env all [] c there known = known
each_counted env all (p ∷ rest) c there known =
    let zeroth : c.count + 0 ≡ c.count = omega arith in
    let one : IsOneOf all (record { declaration = declaration.Parameter c.count; found = param_type p }) =
    record { number = c.count; param = p; at = ap (slice_get all) (sym zeroth) ∙ there 0 p refl; is = refl } in
    each_counted env all rest (counted env c p)
    (λ i q is. let next : c.count + 1 + i ≡ c.count + suc i = omega arith in ap (slice_get all) next ∙ there (suc i) q is) (param_each env c.count p c.walk (IsOneOf all) known one)

module _ (c : Class) (m : Method) (w : Walk) where
  abbrev start : Counted
  start = record { count = 0; walk = entered (env_of c) m.name w }

  ends : KeptWhole (fold (counted (env_of c)) start m.params).walk (at_body c m w)
  unfolding params_walk
  ends = both_whole (past_if_kept (env_of c) (nat_eq (length m.params) 0) 1 _) (past_kept (env_of c) 1 _)

  pub no_locals : HasNoLocals w (at_body c m w)
  unfolding entered
  no_locals =
      let k = both (all_kept (env_of c) m.params start) ends.kept in
      record { locals = k.locals; types = k.types; names = k.names }

  each_at_body : EachIs (IsOneOf m.params) (at_body c m w).variables
  unfolding entered
  each_at_body = subst (EachIs (IsOneOf m.params)) (sym ends.variables) (each_counted (env_of c) m.params m.params start (λ i p is. let at : 0 + i ≡ i = omega arith in ap (slice_get m.params) at ∙ is) tt)

  pub in_scope : (name : Name) (v : Variable) → entry_of name (at_body c m w).variables ≡ Some v → IsOneOf m.params v
  in_scope name v is = each_found (IsOneOf m.params) (at_body c m w).variables name v each_at_body is
