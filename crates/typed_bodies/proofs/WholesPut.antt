-- A whole that is read between two cursors goes to its target, and the sites that the walk adds are read of it.
use Rattle.std.proofs.Common.{◌≡◌, ℕ, Bool, true, false, not, ◌&&◌, List, [], ◌∷◌, ◌++◌, drop, slice_get, is_some, refl, sym, ap, ap₂, ◌∙◌, inl, inr}
use Rattle.std.proofs.lemmas.List.{append-nil, append_cancel_right}
use Rattle.java_tree.specs.declared.types.ExprType.{ExprType}
use Rattle.java_tree.specs.declared.types.Declaration.{Declaration}
use Rattle.java_tree.specs.declared.types.Declaration.TheVariants as declaration
use Rattle.annotations.specs.declared.position.Position.{Position}
use Rattle.annotations.specs.declared.site.Site.{Site}
use Rattle.annotations.specs.declared.walk.Walk.{Walk}
use Rattle.annotations.specs.Accesses.{reach_of}
use Rattle.annotations.specs.Walks.{kind_at, token_if}
use Rattle.access_blocks.specs.declared.body.Access.{Access}
use Rattle.access_blocks.specs.declared.body.Target.{Target}
use Rattle.access_blocks.specs.declared.resolved.Invoked.{Invoked}
use Rattle.access_blocks.specs.declared.resolved.Invoked.TheVariants as invoked
use Rattle.access_blocks.specs.Cursors.{Cursor, read, behind_name, behind_site}
use Rattle.access_blocks.specs.Resolving.{chosen}
use Rattle.access_blocks.specs.ResolvingStatements.{given_to}
use Rattle.body_code.specs.Checking.{Surroundings}
use Rattle.typed_bodies.specs.Reading.{Place, cursor_at, is_plain, are_plain}
use Rattle.typed_bodies.specs.Expressions.{is_field}
use Rattle.typed_bodies.specs.Wholes.{StaysPlain, Reaches, MergesAll, IsWhole}
use Rattle.typed_bodies.specs.Targets.{StandsIn, IsPut}
use Rattle.typed_bodies.proofs.SitesRead.{SitesBetween, no_fields}
use Rattle.typed_bodies.proofs.Sited.{SitedAccess, chosen_alike}
use Rattle.typed_bodies.proofs.ValuesGo.{Meets}
use Rattle.typed_bodies.proofs.WholesGo.{IsPlainCall, plain_goes, merge_goes, reach_goes}

plain_no_field : (p : Place) (d : Declaration) → is_plain p d ≡ true → not (is_field d) ≡ true
plain_no_field p (declaration.Field n) e = absurd (cc)
plain_no_field p (declaration.Method n) e = refl
plain_no_field p (declaration.Parameter n) e = refl
plain_no_field p (declaration.Local n) e = refl

both_true : (a b : Bool) → (a && b) ≡ true → a ≡ true × b ≡ true
both_true true b e = (refl, e)
both_true false b e = absurd (cc)

pub plain_no_fields : (p : Place) (names : List Declaration) → are_plain p names ≡ true → no_fields names ≡ true
plain_no_fields p [] e = refl
plain_no_fields p (d ∷ names) e =
    let parts = both_true (is_plain p d) (are_plain p names) e in
    ap₂ (λ a b. a && b) (plain_no_field p d parts.0) (plain_no_fields p names parts.1)

-- what is read between two cursors is what stands between them
names_between : (c k : Cursor) (names rest : List Declaration) (b : SitesBetween c k) → c.names ≡ names ++ rest → k.names ≡ rest → b.names ≡ names
names_between c k names rest b before behind = append_cancel_right b.names names rest (ap (λ ns. b.names ++ ns) (sym behind) ∙ (sym b.are ∙ before))

pub sites_stay : (c k : Cursor) (names rest : List Declaration) (b : SitesBetween c k) → c.names ≡ names ++ rest → k.names ≡ rest → no_fields names ≡ true → k.sites ≡ c.sites
sites_stay c k names rest b before behind free = b.same (ap no_fields (names_between c k names rest b before behind) ∙ free)

-- a whole, with what is read of it
pub record ReadsWhole (p : Place) (around : Surroundings) (is_global : Bool) (at : ℕ) (to : Target) (wanted from found : ExprType) (i : Invoked) (names rest : List Declaration) (position : Position) (u v : Walk)
    (c k : Cursor) : Type 0 where
  pub between : SitesBetween c k
  pub sited : (a : Access) → i ≡ invoked.Accesses a → SitedAccess c k a
  pub before : c.names ≡ names ++ rest
  pub behind : k.names ≡ rest
  pub variables : c.variables ≡ p.variables
  pub locals : c.locals ≡ p.locals
  pub whole : IsWhole p position (token_if is_global at) found i names rest u v
  pub meets : Meets around is_global to wanted from found
  pub plain : IsPlainCall p found names i

module _ (p : Place) (around : Surroundings) (stands : StandsIn p around) (is_global : Bool) (at : ℕ) (to : Target) (wanted from found : ExprType) (i : Invoked) (names rest : List Declaration) (position : Position)
    (u v : Walk) (c k : Cursor) (r : ReadsWhole p around is_global at to wanted from found i names rest position u v c k) where
  abbrev Put : Type 0
  Put = IsPut p around is_global to wanted u v rest c (read (given_to is_global to wanted from i) k)

  plain_put : StaysPlain p (token_if is_global at) names rest u v → Put
  plain_put plain = record {
    leaves = record {
      in_entry = plain.passed.stays.in_entry;
      in_header = plain.passed.stays.in_header;
      locals = plain.passed.stays.locals;
      behind = plain.passed.behind;
      sites = [];
      to_sites = plain.passed.stays.sites ∙ sym (append-nil u.sites);
    };
    sites_read = λ more is. sites_stay c k names rest r.between r.before r.behind (plain_no_fields p names plain.plain) ∙ is;
    goes = λ more is. plain_goes p around stands is_global at to wanted from found i names rest u v r.meets r.plain plain;
  }

  merge_no_fields : (all : MergesAll p (token_if is_global at) found i names rest u v) → no_fields names ≡ true
  merge_no_fields all = ap no_fields (all.are ∙ ap (λ ns. declaration.Method all.by.number ∷ ns) all.one.alone)

  merge_put : MergesAll p (token_if is_global at) found i names rest u v → Put
  merge_put all = record {
    leaves = record {
      in_entry = all.one.in_entry;
      in_header = all.one.in_header;
      locals = all.one.locals;
      behind = all.one.behind;
      sites = [];
      to_sites = all.one.sites ∙ sym (append-nil u.sites);
    };
    sites_read = λ more is. sites_stay c k names rest r.between r.before r.behind (merge_no_fields all) ∙ is;
    goes = λ more is. merge_goes p around stands is_global at to wanted from found i names rest u v r.meets all;
  }

  reach_put : Reaches p position (token_if is_global at) found i names rest u v → Put
  reach_put reach =
      let s = r.sited reach.of.access reach.of.is in
      let before : drop 1 c.names ≡ reach.more ++ rest = ap (λ ns. drop 1 ns) (r.before ∙ ap (λ ns. ns ++ rest) reach.are) in
      let site : Site = record { field = reach.field; reach = reach_of (kind_at p.marks reach.field) (is_some (token_if is_global at)) reach.key } in
      record {
        leaves = record {
          in_entry = reach.in_entry;
          in_header = reach.in_header;
          locals = reach.locals;
          behind = reach.behind;
          sites = site ∷ [];
          to_sites = reach.sites;
        };
        sites_read = λ more is.
            sites_stay (behind_site (behind_name c)) k reach.more rest s.between before r.behind (plain_no_fields p reach.more reach.plain) ∙ ap (λ (ss : List Site). drop 1 ss) is;
        goes = λ more is.
            reach_goes p around stands is_global at to wanted from found i names rest position u v r.meets reach (λ a same.
            (r.sited a same).choice
            ∙ (ap (λ o. chosen (behind_name c) o) (ap (λ (ss : List Site). slice_get ss 0) is)
            ∙ chosen_alike (behind_name c) (cursor_at p) r.variables r.locals site.reach));
      }

  put_by : IsWhole p position (token_if is_global at) found i names rest u v → Put
  put_by (inl plain) = plain_put plain
  put_by (inr (inl reach)) = reach_put reach
  put_by (inr (inr all)) = merge_put all

  -- a whole goes to its target
  pub whole_put : Put
  whole_put = put_by r.whole
