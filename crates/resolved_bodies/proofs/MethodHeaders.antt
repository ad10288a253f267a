-- No access stands in the header of a loop of what a method is resolved to where the rules on annotations find nothing in it.
use Rattle.std.proofs.Common.{◌≡◌, ℕ, Bool, true, not, ◌&&◌, List, [], ◌∷◌, ◌++◌, length, map, fold, nat_eq, refl, sym, ap, subst, ◌∙◌}
use Rattle.java_tree.specs.declared.tree.BlockItem.{BlockItem}
use Rattle.java_tree.specs.declared.tree.Method.{Method}
use Rattle.java_tree.specs.declared.tree.Param.{Param}
use Rattle.java_tree.specs.Kinds.{kind_of}
use Rattle.java_tree.specs.declared.types.ExprType.{ExprType}
use Rattle.annotations.specs.declared.walk.Env.{Env}
use Rattle.annotations.specs.declared.walk.Walk.{Walk}
use Rattle.annotations.specs.Walks.{past, past_if, past_none, noted}
use Rattle.annotations.specs.Statements.{in_block, item_walk}
use Rattle.annotations.specs.Members.{param_walk, params_walk, method_walk, is_entry, entered, is_ill_collected}
use Rattle.access_blocks.specs.declared.scope.Scope.{Scope}
use Rattle.access_blocks.specs.Cursors.{Cursor, Read}
use Rattle.access_blocks.specs.ResolvingStatements.{list_of, item_of}
use Rattle.access_blocks.specs.Programs.{result_type, in_method}
use Rattle.resolved_bodies.specs.Together.{AreTogether, Goes}
use Rattle.typed_bodies.specs.Bodies.{statements_of}
use Rattle.resolved_bodies.specs.Laws.{KeepsHeaders}
use Rattle.resolved_bodies.proofs.Going.{here, further, going_past, going_past_if, going_noted}
use Rattle.resolved_bodies.proofs.StatementsGo.{AllRun, block_runs, item_runs, behind_more}

pub map_id : {A : Type 0} (xs : List A) → map (λ (x : A). x) xs ≡ xs
map_id [] = refl
map_id (x ∷ xs) = ap (λ ys. x ∷ ys) (map_id xs)

module _ (env : Env) where
  going_param : (p : Param) (w : Walk) (c : Cursor) → Goes env w (param_walk env w p) c c
  unfolding param_walk
  going_param p w c =
      let b = past env 1 w in
      let g = further env (going_past env 1 w c) (going_noted env (p.is_array && not p.is_collection) b.at 11 b c) in
      let u = record (noted (p.is_array && not p.is_collection) b.at 11 b) { collections = (noted (p.is_array && not p.is_collection) b.at 11 b).collections ++ p.is_array ∷ [] } in
      let h = further env (going_past_if env p.is_collection 2 u c) (further env (going_past_if env p.is_array 2 _ c) (going_past env 2 _ c)) in
      record { grows = λ q. g.grows (h.grows q); stays = h.stays ∙ g.stays; together = λ t. h.together (g.together t) }

  each_param : (all : List Param) (w : Walk) (c : Cursor) → Goes env w (fold (param_walk env) w all) c c
  each_param [] w c = here env w c
  each_param (p ∷ all) w c = further env (going_param p w c) (each_param all _ c)

  going_params : (all : List Param) (w : Walk) (c : Cursor) → Goes env w (params_walk env all w) c c
  unfolding params_walk
  going_params all w c = further env (each_param all w c) (further env (going_past_if env (nat_eq (length all) 0) 1 _ c) (going_past env 1 _ c))

  -- What the findings and the names are is as before where a method begins.
  record Begins (w v : Walk) (c : Cursor) : Type 0 where
    grows : v.findings ≡ [] → w.findings ≡ []
    together : AreTogether env w c → AreTogether env v c

  abbrev begun : Method → Walk → Walk
  begun m w = entered (is_entry (kind_of m)) (noted (is_ill_collected m.params) w.at 11 w)

  begins : (m : Method) (w : Walk) (c : Cursor) → Begins w (begun m w) c
  unfolding entered
  begins m w c = let n = going_noted env (is_ill_collected m.params) w.at 11 w c in record { grows = n.grows; together = n.together }

  abbrev head : Method → Walk → Walk
  head m w = params_walk env m.params (past env 2 (past env (length m.modifiers) (begun m w)))

  going_head : (m : Method) (w : Walk) (c : Cursor) → Goes env (begun m w) (head m w) c c
  going_head m w c = further env (going_past env (length m.modifiers) _ c) (further env (going_past env 2 _ c) (going_params m.params _ c))

  module _ (scope : Scope) (m : Method) where
    abbrev wanted : ExprType
    wanted = result_type m.result

    body_runs : (w : Walk) (c : Cursor) → AllRun env scope wanted w (in_block env (map (item_walk env) m.body) w) c (list_of (map (item_of scope wanted) m.body) c)
    body_runs w c =
        let P : List BlockItem → Type 0 = λ is. AllRun env scope wanted w (in_block env (map (item_walk env) is) w) c (list_of (map (item_of scope wanted) is) c) in
        subst P (map_id m.body) (block_runs env scope wanted (item_walk env) (item_of scope wanted) (λ (i : BlockItem). i) (item_runs env scope wanted) m.body w c)

    pub headers_kept : (w : Walk) (c : Cursor) → AreTogether env w c → (method_walk env m w).findings ≡ [] → KeepsHeaders env scope m w c
    unfolding method_walk
    headers_kept w c together quiet =
        let b = begins m w c in
        let g = going_head m w c in
        let a = body_runs (head m w) (in_method m c) in
        let t : AreTogether env (head m w) (in_method m c) = g.together (b.together together) in
        record { headers = a.right t quiet; before = b.grows (g.grows (a.grows quiet)); behind = a.together t }
