-- What is put behind `@Global` is put before it.
use Rattle.std.proofs.Common.{◌≡◌, ℕ, Bool, true, false, ◌&&◌, List, ◌++◌, Option, refl, ap, ◌∙◌}
use Rattle.java_tree.specs.declared.types.ExprType.{ExprType}
use Rattle.java_tree.specs.declared.types.Declaration.{Declaration}
use Rattle.java_types.specs.Fits.{is_void}
use Rattle.annotations.specs.declared.site.Site.{Site}
use Rattle.annotations.specs.declared.walk.Walk.{Walk}
use Rattle.annotations.specs.Walks.{past, past_if, token_if}
use Rattle.annotations.specs.Expressions as marking
use Rattle.access_blocks.specs.declared.body.Statement.{Statement}
use Rattle.access_blocks.specs.declared.body.Target.{Target}
use Rattle.access_blocks.specs.declared.resolved.Invoked.{Invoked}
use Rattle.access_blocks.specs.Cursors.{Cursor, Read}
use Rattle.body_code.specs.Checking.{Surroundings, Standing}
use Rattle.typed_bodies.specs.Reading.{Place}
use Rattle.typed_bodies.specs.Expressions.{IsCall}
use Rattle.typed_bodies.specs.Marking.{Begins}
use Rattle.typed_bodies.specs.Targets.{IsReady, Leaves, Goes, IsPut}
use Rattle.typed_bodies.proofs.WholesGo.{IsPlainCall}

module _ (p : Place) (around : Surroundings) where
  ready_past : (is_global : Bool) (u : Walk) (st : Standing) (reads : List ℕ) → IsReady p around u st reads → IsReady p around (past_if p.marks is_global 2 u) st reads
  unfolding past
  ready_past true u st reads r = record { known = r.known; waits = r.waits; entry = r.entry }
  ready_past false u st reads r = r

  leaves_past : (is_global : Bool) (u v : Walk) (rest : List Declaration) → Leaves p (past_if p.marks is_global 2 u) v rest → Leaves p u v rest
  unfolding past
  leaves_past true u v rest l = record { in_entry = l.in_entry; in_header = l.in_header; locals = l.locals; behind = l.behind; sites = l.sites; to_sites = l.to_sites }
  leaves_past false u v rest l = l

  same_sites : (is_global : Bool) (u v : Walk) (rest : List Declaration) (l : Leaves p (past_if p.marks is_global 2 u) v rest) → (leaves_past is_global u v rest l).sites ≡ l.sites
  unfolding leaves_past
  same_sites true u v rest l = refl
  same_sites false u v rest l = refl

  goes_past : (is_global : Bool) (to : Target) (wanted : ExprType) (u : Walk) (s : Statement) → Goes p around is_global to wanted (past_if p.marks is_global 2 u) s → Goes p around is_global to wanted u s
  goes_past is_global to wanted u s g = record { reads = g.reads; assigns = g.assigns; brings = g.brings; of_type = g.of_type; runs = λ exits st ready. g.runs exits st (ready_past is_global u st g.reads ready) }

  -- what is put behind `@Global` is put before it; a type may be read first
  pub put_past : (is_global : Bool) (to : Target) (wanted : ExprType) (u v : Walk) (rest : List Declaration) (c k : Cursor) (r : Read Statement) → k.sites ≡ c.sites
      → IsPut p around is_global to wanted (past_if p.marks is_global 2 u) v rest k r → IsPut p around is_global to wanted u v rest c r
  put_past is_global to wanted u v rest c k r same it =
      let sites = same_sites is_global u v rest it.leaves in
      record {
        leaves = leaves_past is_global u v rest it.leaves;
        sites_read = λ more is. it.sites_read more (same ∙ (is ∙ ap (λ (ss : List Site). ss ++ more) sites));
        goes = λ more is. goes_past is_global to wanted u r.it (it.goes more (same ∙ (is ∙ ap (λ (ss : List Site). ss ++ more) sites)));
      }

  pub begins_past : (is_global : Bool) (marked : Option ℕ → Walk → Walk) (names : List Declaration) (u : Walk) (rest : List Declaration)
      → Begins p (λ v. marked (token_if is_global v.at) (past_if p.marks is_global 2 v)) names u rest → Begins p (marked (token_if is_global u.at)) names (past_if p.marks is_global 2 u) rest
  unfolding past
  begins_past true marked names u rest b = record { agrees = b.agrees; before = b.before; quiet = b.quiet }
  begins_past false marked names u rest b = record { agrees = b.agrees; before = b.before; quiet = b.quiet }

-- what is known of a call before the rules on annotations
pub plain_call : (p : Place) (of_member : Bool) (found : ExprType) (m : marking.Calling) (names : List Declaration) (i : Invoked) → IsCall p of_member found m names i → (of_member && is_void found) ≡ false
    → IsPlainCall p found names i
plain_call p of_member found m names i is written = record {
  typed = λ plain. is.typed written (is.begins plain);
  within = λ plain. is.within (is.begins plain);
  no_access = is.no_access;
}
