-- Between the name of a local and the end of its declaration: steps of the walks before its value and behind it.
use Rattle.std.proofs.Common.{◌≡◌, ℕ, Bool, true, false, not, ◌&&◌, [], Some, None, refl, ◌∙◌}
use Rattle.java_tree.specs.declared.tree.Expr.{Expr}
use Rattle.java_tree.specs.declared.tree.Value.{Value, out-Value}
use Rattle.java_tree.specs.declared.types.ExprType.{ExprType}
use Rattle.java_types.specs.Expressions.{Passing}
use Rattle.java_types.specs.Fits.{fits, is_vector}
use Rattle.java_types.specs.Simples.{is_fresh, put}
use Rattle.java_types.specs.Walks.{noted}
use Rattle.annotations.specs.declared.position.Position.TheVariants.{Gathered}
use Rattle.annotations.specs.declared.walk.Walk.{Walk as MarkingWalk}
use Rattle.annotations.specs.Expressions.{value_of}
use Rattle.annotations.specs.Positions.{initialiser_of, is_whole}
use Rattle.annotations.specs.Walks as marking
use Rattle.annotations.specs.Simples.{answers, awaiting, gathers}
use Rattle.typed_bodies.specs.Reading.{Place}
use Rattle.typed_bodies.specs.StayLaws.{PartsStay}
use Rattle.typed_bodies.proofs.Marking.{unmarked}
use Rattle.typed_statements.proofs.Going.{Still, Unmoved, unmoved}
use Rattle.typed_statements.proofs.Steps.{some_left, noted_still, not_noted, unmerged_merges_none}
use Rattle.typed_statements.proofs.Declaring.{still_both}
use Rattle.typed_statements.proofs.NoGlobal.{whole_no_global}
use Rattle.typed_statements.proofs.Naming.{not_false}

and_first : (b c : Bool) → (b && c) ≡ true → b ≡ true
and_first true c e = refl
and_first false c e = absurd (cc)

-- ---- the walk of the rules on types

pub put_still : (wanted : ExprType) (p : Passing) (x : Expr) (at : ℕ) → Still p.walk (put wanted p x at)
unfolding put
put_still wanted p x at = still_both (noted_still (not (fits wanted p.given.found)) at 7 p.walk) (noted_still (is_vector wanted && (is_vector p.given.found && not (is_fresh x))) at 10 _)

pub put_fits : (wanted : ExprType) (p : Passing) (x : Expr) (at : ℕ) → (put wanted p x at).findings ≡ [] → fits wanted p.given.found ≡ true
unfolding put
put_fits wanted p x at quiet =
    let s = noted_still (is_vector wanted && (is_vector p.given.found && not (is_fresh x))) at 10 (noted (not (fits wanted p.given.found)) at 7 p.walk) in
    not_false _ (not_noted (not (fits wanted p.given.found)) at 7 p.walk (s.back quiet))

-- ---- the walk of the rules on annotations

pub noted_quiet : (broken : Bool) (token rule : ℕ) (u : MarkingWalk) → (marking.noted broken token rule u).findings ≡ [] → broken ≡ false × u.findings ≡ []
noted_quiet broken token rule u quiet = let m = unmarked broken token rule u quiet in (m.holds, m.quiet)

pub noted_stays : (broken : Bool) (token rule : ℕ) (u : MarkingWalk) → Unmoved u (marking.noted broken token rule u)
unfolding marking.noted
noted_stays true token rule u = record { back = λ q. absurd (some_left u.findings _ q); used = refl; in_entry = refl; locals = refl; awaited = λ q. refl; sites = refl }
noted_stays false token rule u = unmoved u

-- before the value
pub unmoved_both : {u x z : MarkingWalk} → Unmoved u x → Unmoved x z → Unmoved u z
unmoved_both a b = record {
  back = λ q. a.back (b.back q);
  used = b.used ∙ a.used;
  in_entry = b.in_entry ∙ a.in_entry;
  locals = b.locals ∙ a.locals;
  awaited = λ q. b.awaited q ∙ a.awaited (b.back q);
  sites = b.sites ∙ a.sites;
}

-- Behind the value the local waits where it is `@Partial`, and nothing waits where it is not.
pub record Finishes (is_partial : Bool) (local token : ℕ) (u x : MarkingWalk) : Type 0 where
  pub back : x.findings ≡ [] → u.findings ≡ []
  pub used : x.used ≡ u.used
  pub in_entry : x.in_entry ≡ u.in_entry
  pub locals : x.locals ≡ u.locals
  pub sites : x.sites ≡ u.sites
  pub none : is_partial ≡ false → x.findings ≡ [] → x.awaited ≡ None
  pub waits : is_partial ≡ true → x.awaited ≡ Some (record { local = local; token = token })

pub finishes : (is_partial : Bool) (local token : ℕ) (u : MarkingWalk) → Finishes is_partial local token u (awaiting is_partial local token (marking.unmerged u))
unfolding awaiting
finishes true local token u =
    let m = unmerged_merges_none u in
    record { back = m.moved.back; used = m.moved.used; in_entry = m.moved.in_entry; locals = m.moved.locals; sites = m.moved.sites; none = λ e. absurd (cc); waits = λ e. refl }
finishes false local token u =
    let m = unmerged_merges_none u in
    record { back = m.moved.back; used = m.moved.used; in_entry = m.moved.in_entry; locals = m.moved.locals; sites = m.moved.sites; none = λ e q. m.none q; waits = λ e. absurd (cc) }

pub whole_initialiser : (is_partial : Bool) → is_whole (initialiser_of is_partial) ≡ true
whole_initialiser true = refl
whole_initialiser false = refl

-- The value of a local is gathered exactly where the local is `@Partial`.
pub global_as_partial : PartsStay → (p : Place) (is_partial : Bool) (at : ℕ) (v : Value) (u : MarkingWalk)
    → ((value_of p.marks v).walk (initialiser_of is_partial) (marking.noted (is_partial && not (gathers p.marks u v)) at 7 u)).findings ≡ [] → (out-Value v).is_global ≡ is_partial
global_as_partial stay p false at v u quiet = whole_no_global stay p v (marking.noted false at 7 u) quiet
global_as_partial stay p true at v u quiet =
    let before = stay.found_before_value p v Gathered (marking.noted (true && not (gathers p.marks u v)) at 7 u) quiet in
    and_first (out-Value v).is_global (answers p.marks u (out-Value v).expr) (not_false _ (noted_quiet _ at 7 u before).0)
