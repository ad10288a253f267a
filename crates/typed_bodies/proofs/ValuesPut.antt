-- A value that is followed goes to its target.
use Rattle.std.proofs.Common.{◌≡◌, ℕ, Bool, true, List, [], ◌++◌, Option, refl, ◌∙◌}
use Rattle.java_tree.specs.declared.types.ExprType.{ExprType}
use Rattle.java_tree.specs.declared.types.Declaration.{Declaration}
use Rattle.java_types.specs.declared.walk.Walk.{Walk as TypesWalk}
use Rattle.annotations.specs.declared.position.Position.{Position}
use Rattle.annotations.specs.declared.walk.Walk.{Walk}
use Rattle.annotations.specs.Positions.{is_whole}
use Rattle.annotations.specs.Walks.{past_if, token_if}
use Rattle.access_blocks.specs.declared.body.Access.{Access}
use Rattle.access_blocks.specs.declared.body.Statement.{Statement}
use Rattle.access_blocks.specs.declared.body.Target.{Target}
use Rattle.access_blocks.specs.declared.resolved.Invoked.TheVariants as invoked
use Rattle.access_blocks.specs.declared.resolved.Whole.{Whole}
use Rattle.access_blocks.specs.Cursors.{Cursor, Read, read}
use Rattle.access_blocks.specs.ResolvingStatements.{given_to}
use Rattle.body_code.specs.Checking.{Surroundings}
use Rattle.typed_bodies.specs.Reading.{Place, Adds, Stands}
use Rattle.typed_bodies.specs.Marking.{Begins, Marks}
use Rattle.typed_bodies.specs.Wholes.{IsWhole}
use Rattle.typed_bodies.specs.Targets.{StandsIn, IsPut, Puts}
use Rattle.typed_bodies.proofs.Marking.{past_if_grows}
use Rattle.typed_bodies.proofs.Sited.{SitedAccess}
use Rattle.typed_bodies.proofs.SitesRead.{SitesBetween}
use Rattle.typed_bodies.proofs.ValuesGo.{Meets}
use Rattle.typed_bodies.proofs.WholesGo.{IsPlainCall}
use Rattle.typed_bodies.proofs.WholesPut.{whole_put}
use Rattle.typed_bodies.proofs.BehindGlobal.{put_past, begins_past}

-- what a cursor says besides types
pub record Alike (c k : Cursor) : Type 0 where
  pub names : k.names ≡ c.names
  pub sites : k.sites ≡ c.sites
  pub variables : k.variables ≡ c.variables
  pub locals : k.locals ≡ c.locals

-- What is read of a whole between these names, as it stands somewhere.
pub record IsValueRead (p : Place) (found : ExprType) (From : ExprType → Type 0) (m : Marks) (names rest : List Declaration) (c : Cursor) (r : Read Whole) : Type 0 where
  pub start : Cursor
  pub alike : Alike c start
  pub between : SitesBetween start r.cursor
  pub sited : (a : Access) → r.it.invoked ≡ invoked.Accesses a → SitedAccess start r.cursor a
  pub from : From r.it.found
  pub grows : (position : Position) → is_whole position ≡ true → (global : Option ℕ) (u : Walk) → (m position global u).findings ≡ [] → u.findings ≡ []
  pub whole : (position : Position) → is_whole position ≡ true → (global : Option ℕ) (u : Walk) → Begins p (m position global) names u rest
      → (q : Position) × IsWhole p q global found r.it.invoked names rest u (m position global u)
  pub plain : IsPlainCall p found names r.it.invoked

pub record ReadsValue (p : Place) (found : ExprType) (From : ExprType → Type 0) (m : Marks) (w v : TypesWalk) (reading : Cursor → Read Whole) : Type 0 where
  pub added : Adds w v
  pub behind : w.variables ≡ p.known → (c : Cursor) (types : List ExprType) (names : List Declaration) → Stands p c (added.types ++ types) (added.names ++ names) → Stands p (reading c).cursor types names
  pub value : w.variables ≡ p.known → (c : Cursor) (types : List ExprType) (names : List Declaration) → Stands p c (added.types ++ types) (added.names ++ names)
      → IsValueRead p found From m added.names names c (reading c)

-- a cursor that stands there
abbrev standing : Place → List ExprType → List Declaration → Cursor
standing p types names = record { names = names ++ []; types = types ++ []; sites = []; variables = p.variables; locals = p.locals }

-- what is marked of a value, behind `@Global` or not
abbrev pub behind_global : Place → Bool → Marks → Position → Walk → Walk
behind_global p is_global m position u = m position (token_if is_global u.at) (past_if p.marks is_global 2 u)

abbrev pub put_whole : Bool → Target → ExprType → (Cursor → Read Whole) → Cursor → Read Statement
put_whole is_global to wanted reading c = read (given_to is_global to wanted (reading c).it.found (reading c).it.invoked) (reading c).cursor

module _ (p : Place) (around : Surroundings) (stands : StandsIn p around) (is_global : Bool) (to : Target) (wanted found : ExprType) (From : ExprType → Type 0)
    (meets : (from : ExprType) → From from → Meets around is_global to wanted from found) (m : Marks) where
  read_put : (names rest : List Declaration) (c : Cursor) (r : Read Whole) → IsValueRead p found From m names rest c r → c.names ≡ names ++ rest → r.cursor.names ≡ rest
      → c.variables ≡ p.variables → c.locals ≡ p.locals → (position : Position) → is_whole position ≡ true → (u : Walk) → Begins p (behind_global p is_global m position) names u rest
      → IsPut p around is_global to wanted u (behind_global p is_global m position u) rest c (read (given_to is_global to wanted r.it.found r.it.invoked) r.cursor)
  read_put names rest c r is before after variables locals position whole u b =
      let v = past_if p.marks is_global 2 u in
      let begins = begins_past p around is_global (m position) names u rest b in
      let w = is.whole position whole (token_if is_global u.at) v begins in
      put_past p around is_global to wanted u (behind_global p is_global m position u) rest c is.start (read (given_to is_global to wanted r.it.found r.it.invoked) r.cursor) is.alike.sites
      (whole_put p around stands is_global u.at to wanted r.it.found found r.it.invoked names rest w.0 v (behind_global p is_global m position u) is.start r.cursor (record {
        between = is.between;
        sited = is.sited;
        before = is.alike.names ∙ before;
        behind = after;
        variables = is.alike.variables ∙ variables;
        locals = is.alike.locals ∙ locals;
        whole = w.1;
        meets = meets r.it.found is.from;
        plain = is.plain;
      }))

  -- a value that is followed behind `@Global`, or where there is none, goes to its target
  pub value_puts : (w v : TypesWalk) (reading : Cursor → Read Whole) → ReadsValue p found From m w v reading → Puts p around is_global to wanted w v (behind_global p is_global m) (put_whole is_global to wanted reading)
  value_puts w v reading reads = record {
    added = reads.added;
    grows = λ known position whole u quiet.
        let c = standing p reads.added.types reads.added.names in
        let is = reads.value known c [] [] (record { are_types = refl; are_names = refl; are_variables = refl; are_locals = refl }) in
        past_if_grows p.marks is_global 2 u (is.grows position whole (token_if is_global u.at) (past_if p.marks is_global 2 u) quiet);
    behind = λ known c types names stand. let b = reads.behind known c types names stand in record { are_types = b.are_types; are_names = b.are_names; are_variables = b.are_variables; are_locals = b.are_locals };
    put = λ known c types names stand position whole u b.
        read_put reads.added.names names c (reading c) (reads.value known c types names stand) stand.are_names (reads.behind known c types names stand).are_names stand.are_variables stand.are_locals
        position whole u b;
  }
