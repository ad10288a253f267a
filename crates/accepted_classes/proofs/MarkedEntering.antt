-- Where the body of a method begins, the rules on annotations know no local, and they have passed no name and no access.
use Rattle.std.proofs.Common.{◌≡◌, ℕ, Bool, true, false, nat_eq, List, [], ◌∷◌, length, fold, refl, ◌∙◌}
use Rattle.java_tree.specs.declared.tree.Class.{Class}
use Rattle.java_tree.specs.declared.tree.Method.{Method}
use Rattle.java_tree.specs.declared.tree.Param.{Param}
use Rattle.java_tree.specs.declared.types.Declaration.{Declaration}
use Rattle.annotations.specs.declared.walk.Env.{Env}
use Rattle.annotations.specs.declared.walk.Walk.{Walk}
use Rattle.annotations.specs.Environment.{env_of}
use Rattle.annotations.specs.Members.{param_walk, params_walk, entered}
use Rattle.annotations.specs.Walks.{past, past_if, noted}
use Rattle.accepted_classes.specs.Beginning.{at_marked_body, HasNoMarks}

record Kept (w v : Walk) : Type 0 where
  locals : v.locals ≡ w.locals
  in_entry : v.in_entry ≡ w.in_entry
  in_header : v.in_header ≡ w.in_header
  used : v.used ≡ w.used
  awaited : v.awaited ≡ w.awaited
  sites : v.sites ≡ w.sites

same : (w : Walk) → Kept w w
same w = record { locals = refl; in_entry = refl; in_header = refl; used = refl; awaited = refl; sites = refl }

both : {w u v : Walk} → Kept w u → Kept u v → Kept w v
both s t = record {
  locals = t.locals ∙ s.locals;
  in_entry = t.in_entry ∙ s.in_entry;
  in_header = t.in_header ∙ s.in_header;
  used = t.used ∙ s.used;
  awaited = t.awaited ∙ s.awaited;
  sites = t.sites ∙ s.sites;
}

past_kept : (env : Env) (n : ℕ) (w : Walk) → Kept w (past env n w)
unfolding past
past_kept env n w = record { locals = refl; in_entry = refl; in_header = refl; used = refl; awaited = refl; sites = refl }

past_if_kept : (env : Env) (test : Bool) (n : ℕ) (w : Walk) → Kept w (past_if env test n w)
past_if_kept env true n w = past_kept env n w
past_if_kept env false n w = same w

noted_kept : (broken : Bool) (token rule : ℕ) (w : Walk) → Kept w (noted broken token rule w)
unfolding noted
noted_kept true token rule w = record { locals = refl; in_entry = refl; in_header = refl; used = refl; awaited = refl; sites = refl }
noted_kept false token rule w = same w

param_kept : (env : Env) (w : Walk) (p : Param) → Kept w (param_walk env w p)
unfolding param_walk
param_kept env w p =
    both (past_kept env 1 w)
    (both (noted_kept _ (past env 1 w).at 11 (past env 1 w))
    (both (record { locals = refl; in_entry = refl; in_header = refl; used = refl; awaited = refl; sites = refl })
    (both (past_if_kept env p.is_collection 2 _) (both (past_if_kept env p.is_array 2 _) (past_kept env 2 _)))))

all_kept : (env : Env) (ps : List Param) (w : Walk) → Kept w (fold (param_walk env) w ps)
all_kept env [] w = same w
all_kept env (p ∷ ps) w = both (param_kept env w p) (all_kept env ps (param_walk env w p))

pub no_marks : (c : Class) (names : List Declaration) (m : Method) (u : Walk) → HasNoMarks m u (at_marked_body c names m u)
unfolding params_walk entered
no_marks c names m u =
    let env = env_of c names in
    let k = both (all_kept env m.params (entered _ u)) (both (past_if_kept env (nat_eq (length m.params) 0) 1 _) (past_kept env 1 _)) in
    record { locals = k.locals; in_entry = k.in_entry; in_header = k.in_header; used = k.used; awaited = k.awaited; sites = k.sites }
