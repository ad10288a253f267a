-- From `for` to the closing parenthesis no access is read where the rules on annotations find nothing.
use Rattle.std.proofs.Common.{◌≡◌, ℕ, Bool, true, false, List, [], ◌∷◌, map, Option, Some, None, refl, ◌∙◌}
use Rattle.java_tree.specs.declared.tree.Expr.{Expr}
use Rattle.java_tree.specs.declared.tree.ForHeader.{ForHeader}
use Rattle.java_tree.specs.declared.tree.ForInit.{ForInit}
use Rattle.java_tree.specs.declared.tree.ForInit.TheVariants as for_init
use Rattle.java_tree.specs.declared.tree.Simple.{Simple}
use Rattle.annotations.specs.declared.position.Position.TheVariants.{Inside}
use Rattle.annotations.specs.declared.walk.Env.{Env}
use Rattle.annotations.specs.declared.walk.Walk.{Walk}
use Rattle.annotations.specs.Walks.{past, unmerged}
use Rattle.annotations.specs.Simples.{simples}
use Rattle.annotations.specs.Statements.{init_walk, test_walk, header_walk}
use Rattle.access_blocks.specs.declared.body.Expression.{Expression}
use Rattle.access_blocks.specs.declared.body.Statement.{Statement}
use Rattle.access_blocks.specs.declared.body.Statement.TheOpen as s
use Rattle.access_blocks.specs.declared.body.Statement.TheVariants as statement
use Rattle.access_blocks.specs.declared.scope.Scope.{Scope}
use Rattle.access_blocks.specs.Cursors.{Cursor, Read, read}
use Rattle.access_blocks.specs.ResolvingStatements.{nothing, local, condition, init_of, update_of}
use Rattle.resolved_bodies.specs.Together.{AreTogether, Goes}
use Rattle.resolved_bodies.proofs.Going.{here, further, going_past, going_unmerged}
use Rattle.resolved_bodies.proofs.ExpressionsGo.{expression_goes}
use Rattle.resolved_bodies.proofs.Heading.{HasNone, HaveNone, none_as}
use Rattle.resolved_bodies.proofs.SimplesGo.{Lists, stated_behind, local_states, list_one, list_then, simples_listed}

-- what does nothing is no access
pub none_in_nothing : HaveNone (nothing ∷ [])
none_in_nothing = both (none_as (s.Block []) (statement.rolls-Block []) refl)
  where
    both : HasNone nothing → HaveNone (nothing ∷ [])
    both e = cc

module _ (env : Env) (scope : Scope) where
  -- A part of the header is read where the walk goes on, and there is no access in it.
  record Heads (w v : Walk) (c : Cursor) (r : Read (List Statement)) : Type 0 where
    goes : Goes env w v c r.cursor
    none : AreTogether env w c → v.findings ≡ [] → w.in_header ≡ true → HaveNone r.it

  of_list : {w v u : Walk} {c : Cursor} {r : Read (List Statement)} → Goes env w v c c → Lists env scope v u (read [] c) r → Heads w u c r
  of_list g a = record {
    goes = further env g a.goes;
    none = λ together quiet in_header. a.none (g.together together) quiet (g.stays ∙ in_header) refl;
  }

  init_heads : (i : ForInit) (w : Walk) (c : Cursor) → Heads w (init_walk env i w) c (init_of scope i c)
  init_heads for_init.Nothing w c = record { goes = going_past env 1 w c; none = λ t q h. refl }
  init_heads (for_init.Local l) w c =
      of_list (going_past env 1 w c) (list_then env scope (list_one env scope (read [] c) (local scope l) (local_states env scope l (past env 1 w) c)) (going_unmerged env _ _))
  init_heads (for_init.Simples all) w c = of_list (here env w c) (simples_listed env scope all w (read [] c))

  update_heads : (all : List Simple) (w : Walk) (c : Cursor) → Heads w (simples env all w) c (update_of scope all c)
  update_heads [] w c = let a = simples_listed env scope [] w (read [] c) in record { goes = a.goes; none = λ t q h. none_in_nothing }
  update_heads (x ∷ all) w c = of_list (here env w c) (simples_listed env scope (x ∷ all) w (read [] c))

  test_goes : (test : Option Expr) (w : Walk) (c : Cursor) → Goes env w (test_walk env test w) c (condition scope test c).cursor
  test_goes None w c = here env w c
  test_goes (Some x) w c = expression_goes env scope x Inside None w c

  -- the readings of a header one after the other
  abbrev start : ForHeader → Cursor → Read (List Statement)
  start h c = init_of scope h.init c

  abbrev test : ForHeader → Cursor → Read (Option Expression)
  test h c = condition scope h.test (start h c).cursor

  abbrev pub update : ForHeader → Cursor → Read (List Statement)
  update h c = update_of scope h.update (test h c).cursor

  pub record HasNoAccess (h : ForHeader) (w v : Walk) (c : Cursor) : Type 0 where
    pub grows : v.findings ≡ [] → w.findings ≡ []
    pub together : AreTogether env w c → AreTogether env v (update h c).cursor
    pub start_none : AreTogether env w c → v.findings ≡ [] → HaveNone (init_of scope h.init c).it
    pub update_none : AreTogether env w c → v.findings ≡ [] → HaveNone (update h c).it

  pub header_has_none : (h : ForHeader) (w : Walk) (c : Cursor) → HasNoAccess h w (header_walk env h w) c
  unfolding header_walk
  header_has_none h w c =
      let in_it = record w { in_header = true } in
      let p = going_past env 1 in_it c in
      let i = init_heads h.init (past env 1 in_it) c in
      let t = further env (going_past env 1 (init_walk env h.init (past env 1 in_it)) (start h c).cursor) (test_goes h.test _ (start h c).cursor) in
      let u = update_heads h.update (test_walk env h.test (past env 1 (init_walk env h.init (past env 1 in_it)))) (test h c).cursor in
      let e = going_past env 1 (simples env h.update (test_walk env h.test (past env 1 (init_walk env h.init (past env 1 in_it))))) (update h c).cursor in
      let before = further env p i.goes in
      let to_update = further env before t in
      let all = further env to_update (further env u.goes e) in
      record {
        grows = all.grows;
        together = all.together;
        start_none = λ together quiet. i.none (p.together together) (t.grows (u.goes.grows (e.grows quiet))) p.stays;
        update_none = λ together quiet. u.none (to_update.together together) (e.grows quiet) to_update.stays;
      }
