-- A local is declared: what each walk knows behind its name.
use Rattle.std.proofs.Common.{◌≡◌, ℕ, Bool, true, false, not, ◌||◌, List, [], ◌∷◌, ◌++◌, length, is_some, unwrap_or, if◌then◌else◌, Option, Some, None, refl, ap, subst, ◌∙◌}
use Rattle.java_tree.specs.Words.{is_declared, is_reserved, value_type}
use Rattle.java_tree.specs.declared.tree.Local.{Local}
use Rattle.java_tree.specs.declared.tree.TypeName.{TypeName}
use Rattle.java_tree.specs.declared.types.ValueType.{ValueType}
use Rattle.java_tree.specs.declared.types.ValueType.TheVariants.{Int}
use Rattle.java_tree.specs.declared.types.ExprType.{ExprType}
use Rattle.java_tree.specs.declared.types.ExprType.TheVariants.{Value}
use Rattle.java_tree.specs.declared.types.Declaration.TheVariants as declaration
use Rattle.java_types.specs.declared.walk.Env.{Env}
use Rattle.java_types.specs.declared.walk.Variable.{Variable}
use Rattle.java_types.specs.declared.walk.Walk.{Walk}
use Rattle.java_types.specs.Fits.{is_known}
use Rattle.java_types.specs.Names.{entry_of, with_entry}
use Rattle.java_types.specs.Walks.{past, past_if}
use Rattle.java_types.specs.Simples.{declared, declared_local, declared_type, typed_name, value_or_none}
use Rattle.annotations.specs.declared.walk.Env.{Env as MarkingEnv}
use Rattle.annotations.specs.declared.walk.Walk.{Walk as MarkingWalk}
use Rattle.annotations.specs.Walks as marking
use Rattle.annotations.specs.Simples as marking_simples
use Rattle.access_blocks.specs.ResolvingStatements.{declared_type as resolved_type}
use Rattle.typed_statements.proofs.Going.{Still, still}
use Rattle.typed_statements.proofs.Steps.{past_still, noted_still, not_noted}

pub still_both : {w v y : Walk} → Still w v → Still v y → Still w y
still_both a b = record {
  back = λ q. a.back (b.back q);
  types = b.types ∙ a.types;
  names = b.names ∙ a.names;
  variables = b.variables ∙ a.variables;
  locals = b.locals ∙ a.locals;
}

pub past_if_still : (env : Env) (test : Bool) (n : ℕ) (w : Walk) → Still w (past_if env test n w)
past_if_still env true n w = past_still env n w
past_if_still env false n w = still w

-- ---- the walk of the rules on types

-- a local of a type, by its name
abbrev pub new_local : Walk → ExprType → Variable
new_local w t = record { declaration = declaration.Local (length w.locals); found = t }

-- Its name comes into scope, where no local or parameter has it.
pub record Declares (name : List ℕ) (t : ExprType) (w v : Walk) : Type 0 where
  pub quiet : w.findings ≡ []
  pub types : v.types ≡ w.types
  pub names : v.names ≡ w.names
  pub variables : v.variables ≡ w.variables ++ (name, new_local w t) ∷ []
  pub locals : v.locals ≡ w.locals ++ t ∷ []

first_false : (b c : Bool) → (b || c) ≡ false → b ≡ false
first_false true c e = e
first_false false c e = refl

-- what is declared where nothing is found has a new name
declared_new : (env : Env) (at : ℕ) (name : List ℕ) (v : Variable) (w : Walk) → (declared env at name v w).findings ≡ [] → is_some (entry_of name w.variables) ≡ false
unfolding declared past
declared_new env at name v w quiet = first_false _ (is_reserved name) (not_noted (is_some (entry_of name w.variables) || is_reserved name) at 2 w quiet)

added_name : (name : List ℕ) (v : Variable) (es : List (List ℕ × Variable)) → is_some (entry_of name es) ≡ false → with_entry name v es ≡ es ++ (name, v) ∷ []
added_name name v es e = ap (λ (b : Bool). if b then es else es ++ (name, v) ∷ []) e

-- all but the variables
record Names (name : List ℕ) (v : Variable) (w z : Walk) : Type 0 where
  quiet : w.findings ≡ []
  types : z.types ≡ w.types
  names : z.names ≡ w.names
  variables : z.variables ≡ w.variables ++ (name, v) ∷ []
  locals : z.locals ≡ w.locals

declared_names : (env : Env) (at : ℕ) (name : List ℕ) (v : Variable) (w : Walk) → (declared env at name v w).findings ≡ [] → Names name v w (declared env at name v w)
unfolding declared past
declared_names env at name v w quiet =
    let s = noted_still (is_some (entry_of name w.variables) || is_reserved name) at 2 w in
    record {
      quiet = s.back quiet;
      types = s.types;
      names = s.names;
      variables = ap (λ es. with_entry name v es) s.variables ∙ added_name name v w.variables (declared_new env at name v w quiet);
      locals = s.locals;
    }

local_declares : (env : Env) (at : ℕ) (name : List ℕ) (t : ExprType) (w : Walk) → (declared_local env at name t w).findings ≡ [] → Declares name t w (declared_local env at name t w)
unfolding declared_local
local_declares env at name t w quiet =
    let n = declared_names env at name (new_local w t) (record w { locals = w.locals ++ t ∷ [] }) quiet in
    record { quiet = n.quiet; types = n.types; names = n.names; variables = n.variables; locals = n.locals }

type_still : (env : Env) (at : ℕ) (name : TypeName) (w : Walk) → Still w (typed_name env at name w).walk
unfolding typed_name
type_still env at name w =
    still_both (noted_still (not (is_declared env.class_name name)) w.at 3 w) (still_both (noted_still (not (is_known (declared_type name))) at 5 _) (past_still env 1 _))

type_known : (env : Env) (at : ℕ) (name : TypeName) (w : Walk) → (typed_name env at name w).walk.findings ≡ [] → not (is_known (declared_type name)) ≡ false
unfolding typed_name past
type_known env at name w quiet = not_noted (not (is_known (declared_type name))) at 5 _ quiet

known_value : (o : Option ValueType) → not (is_known (value_or_none o)) ≡ false → (t : ValueType) × (o ≡ Some t)
known_value None e = absurd (cc)
known_value (Some t) e = (t, refl)

declares_behind : {name : List ℕ} {t : ExprType} {w v y : Walk} → Still w v → Declares name t v y → Declares name t w y
declares_behind {name = name} {t = t} {w = w} s d = record {
  quiet = s.back d.quiet;
  types = d.types ∙ s.types;
  names = d.names ∙ s.names;
  variables = d.variables ∙ (cc);
  locals = d.locals ∙ ap (λ ts. ts ++ t ∷ []) s.locals;
}

-- up to what follows the name
abbrev pub named_walk : Env → Local → Walk → Walk
named_walk env l w =
    let t = typed_name env w.at l.type_name (past_if env l.is_partial 2 w) in
    declared_local env w.at l.name t.found t.walk

found_type : (env : Env) (at : ℕ) (name : TypeName) (w : Walk) → (typed_name env at name w).found ≡ declared_type name
unfolding typed_name
found_type env at name w = refl

pub walk_declares : (env : Env) (l : Local) (w : Walk) → (named_walk env l w).findings ≡ [] → Declares l.name (declared_type l.type_name) w (named_walk env l w)
walk_declares env l w quiet =
    let v = past_if env l.is_partial 2 w in
    let t = typed_name env w.at l.type_name v in
    let d = local_declares env w.at l.name t.found t.walk quiet in
    subst (λ (f : ExprType). Declares l.name f w (named_walk env l w)) (found_type env w.at l.type_name v)
    (declares_behind (still_both (past_if_still env l.is_partial 2 w) (type_still env w.at l.type_name v)) d)

pub walk_types : (env : Env) (l : Local) (w : Walk) → (named_walk env l w).findings ≡ [] → (t : ValueType) × (value_type l.type_name ≡ Some t)
walk_types env l w quiet =
    let v = past_if env l.is_partial 2 w in
    let t = typed_name env w.at l.type_name v in
    let d = local_declares env w.at l.name t.found t.walk quiet in
    known_value (value_type l.type_name) (type_known env w.at l.type_name v d.quiet)

value_agrees : (o : Option ValueType) (t : ValueType) → o ≡ Some t → value_or_none o ≡ Value (unwrap_or o Int)
value_agrees None t e = absurd (cc)
value_agrees (Some s) t e = refl

-- the type that is found is that which its variable gets
pub type_agrees : (env : Env) (l : Local) (w : Walk) → (named_walk env l w).findings ≡ [] → declared_type l.type_name ≡ Value (resolved_type l.type_name)
type_agrees env l w quiet = let t = walk_types env l w quiet in value_agrees (value_type l.type_name) t.0 t.1

pub found_agrees : (env : Env) (l : Local) (w : Walk) → (named_walk env l w).findings ≡ [] → (typed_name env w.at l.type_name (past_if env l.is_partial 2 w)).found ≡ Value (resolved_type l.type_name)
found_agrees env l w quiet = found_type env w.at l.type_name (past_if env l.is_partial 2 w) ∙ type_agrees env l w quiet

pub walk_declares_value : (env : Env) (l : Local) (w : Walk) → (named_walk env l w).findings ≡ [] → Declares l.name (Value (resolved_type l.type_name)) w (named_walk env l w)
walk_declares_value env l w quiet = subst (λ (t : ExprType). Declares l.name t w (named_walk env l w)) (type_agrees env l w quiet) (walk_declares env l w quiet)

-- ---- the walk of the rules on annotations

-- one more local, which is `@Partial` or not
pub record Adds (is_partial : Bool) (u x : MarkingWalk) : Type 0 where
  pub findings : x.findings ≡ u.findings
  pub used : x.used ≡ u.used
  pub in_entry : x.in_entry ≡ u.in_entry
  pub at : ℕ
  pub locals : x.locals ≡ u.locals ++ marking.token_if is_partial at ∷ []
  pub awaited : x.awaited ≡ u.awaited
  pub sites : x.sites ≡ u.sites

pub walk_adds : (env : MarkingEnv) (is_partial : Bool) (at : ℕ) (u : MarkingWalk) → Adds is_partial u (marking_simples.declared env is_partial at u)
unfolding marking_simples.declared marking.past
walk_adds env true at u = record { findings = refl; used = refl; in_entry = refl; at = at; locals = refl; awaited = refl; sites = refl }
walk_adds env false at u = record { findings = refl; used = refl; in_entry = refl; at = at; locals = refl; awaited = refl; sites = refl }
