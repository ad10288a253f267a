-- A call that stands as a whole is followed.
use Rattle.std.proofs.Common.{◌≡◌, ℕ, true, false, ◌&&◌, List, [], length, Option, refl, sym, ap, subst, ◌∙◌}
use Rattle.java_tree.specs.declared.tree.CallForm.{CallForm}
use Rattle.java_tree.specs.declared.types.ExprType.{ExprType}
use Rattle.java_tree.specs.declared.types.Declaration.{Declaration}
use Rattle.java_types.specs.declared.walk.Walk.{Walk as TypesWalk}
use Rattle.java_types.specs.Expressions.{call_walk}
use Rattle.java_types.specs.Fits.{is_void}
use Rattle.java_types.specs.Walks.{Typing, opened, closed}
use Rattle.annotations.specs.declared.position.Position.{Position}
use Rattle.annotations.specs.declared.walk.Walk.{Walk}
use Rattle.annotations.specs.Positions.{is_whole}
use Rattle.annotations.specs.Expressions as marking
use Rattle.access_blocks.specs.declared.resolved.Invoked.{Invoked}
use Rattle.access_blocks.specs.declared.resolved.Whole.{Whole}
use Rattle.access_blocks.specs.Cursors.{Cursor, Read, read, type_here, behind_type}
use Rattle.access_blocks.specs.Resolving.{call_of}
use Rattle.typed_bodies.specs.Reading.{Place, IsSound, Follows}
use Rattle.typed_bodies.specs.Expressions.{IsCall, is_of_member}
use Rattle.typed_bodies.specs.Marking.{Begins, Marks}
use Rattle.typed_bodies.specs.Wholes.{IsWhole}
use Rattle.typed_bodies.proofs.BehindGlobal.{plain_call}
use Rattle.typed_bodies.proofs.ExpressionsFollow.{call_follows_all}
use Rattle.typed_bodies.proofs.Sited.{call_sited}
use Rattle.typed_bodies.proofs.SitesRead.{call_sites}
use Rattle.typed_bodies.proofs.Steps.{follows_typed, then_made}
use Rattle.typed_bodies.proofs.ValuesPut.{IsValueRead, ReadsValue}

module _ (p : Place) (sound : IsSound p) (call : CallForm) (w : TypesWalk) (shown : ExprType → ExprType) (From : ExprType → Type 0) (m : Marks)
    (m_is : (position : Position) → is_whole position ≡ true → (q : Position) × (is_whole q ≡ true) × ((global : Option ℕ) (u : Walk) → m position global u ≡ marking.call_of p.marks call q global u)) where
  abbrev t : Typing
  t = call_walk p.env call (opened w)

  abbrev shown_call : ExprType → Cursor → Read Whole
  shown_call found c = read (record { invoked = (call_of p.scope call c).it; found = shown found }) (call_of p.scope call c).cursor

  abbrev Fits : List Declaration → Whole → Type 0
  Fits names r = From r.found × IsCall p (is_of_member call) t.found (marking.call_of p.marks call) names r.invoked

  followed : From (shown t.found) → t.walk.findings ≡ [] → Follows p w (closed (length w.types) t.found t.walk) (λ c. shown_call (type_here c) (behind_type c)) Fits
  followed from quiet =
      follows_typed p w t.found shown_call Fits
      (then_made p (λ (i : Invoked). record { invoked = i; found = shown t.found }) Fits (λ names i is. (from, is)) (call_follows_all p sound call (opened w) quiet))

  call_read : (is_of_member call && is_void t.found) ≡ false → (names rest : List Declaration) (c : Cursor) → Fits names (shown_call (type_here c) (behind_type c)).it
      → IsValueRead p t.found From m names rest c (shown_call (type_here c) (behind_type c))
  call_read written names rest c fits =
      let i = (call_of p.scope call (behind_type c)).it in
      record {
        start = behind_type c;
        alike = record { names = refl; sites = refl; variables = refl; locals = refl };
        between = call_sites p.scope call (behind_type c);
        sited = λ a is. call_sited p.scope call (behind_type c) a is;
        from = fits.0;
        grows = λ position whole global u quiet.
            let q = m_is position whole in
            fits.1.grows q.0 global u (ap (λ (v : Walk). v.findings) (sym (q.2 global u)) ∙ quiet);
        whole = λ position whole global u b.
            let q = m_is position whole in
            let begins : Begins p (marking.call_of p.marks call q.0 global) names u rest = record { agrees = b.agrees; before = b.before; quiet = ap (λ (v : Walk). v.findings) (sym (q.2 global u)) ∙ b.quiet } in
            (q.0, subst (λ (v : Walk). IsWhole p q.0 global t.found i names rest u v) (sym (q.2 global u)) (fits.1.whole q.0 global q.1 u rest begins));
        plain = plain_call p (is_of_member call) t.found (marking.call_of p.marks call) names i fits.1 written;
      }

  pub call_reads : From (shown t.found) → t.walk.findings ≡ [] → (is_of_member call && is_void t.found) ≡ false
      → ReadsValue p t.found From m w (closed (length w.types) t.found t.walk) (λ c. shown_call (type_here c) (behind_type c))
  call_reads from quiet written =
      let f = followed from quiet in
      record {
        added = f.added;
        behind = λ known c types names stand. (f.in_step known c types names stand).behind;
        value = λ known c types names stand. call_read written f.added.names names c (f.in_step known c types names stand).fits;
      }
