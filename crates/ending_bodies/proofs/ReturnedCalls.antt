-- A call that is returned, in which no rule has a finding, sets nothing and is not gathered.
use Rattle.std.proofs.Common.{◌≡◌, ℕ, Bool, true, false, ◌&&◌, List, [], length, is_some, None, refl, sym, ap, subst, ◌∙◌, inl, inr}
use Rattle.java_tree.specs.declared.tree.CallForm.{CallForm}
use Rattle.java_tree.specs.declared.types.ExprType.{ExprType}
use Rattle.java_tree.specs.declared.types.ExprType.TheVariants.{Void}
use Rattle.java_tree.specs.declared.types.Declaration.{Declaration}
use Rattle.java_types.specs.declared.walk.Walk.{Walk}
use Rattle.java_types.specs.Expressions.{typed, call_walk}
use Rattle.java_types.specs.Fits.{is_void, unless}
use Rattle.java_types.specs.Walks.{Typing, noted, opened, used}
use Rattle.annotations.specs.declared.position.Position.TheVariants.{Whole}
use Rattle.annotations.specs.declared.walk.Walk.{Walk as MarkingWalk}
use Rattle.annotations.specs.Walks.{token_if}
use Rattle.annotations.specs.Expressions as marking
use Rattle.access_blocks.specs.declared.resolved.Invoked.{Invoked}
use Rattle.access_blocks.specs.declared.resolved.Invoked.TheVariants as invoked
use Rattle.access_blocks.specs.declared.resolved.Whole.{Whole as Read_whole}
use Rattle.access_blocks.specs.Cursors.{Cursor, Read, read, type_here, behind_type}
use Rattle.access_blocks.specs.Resolving.{call_of}
use Rattle.typed_bodies.specs.Expressions.{IsCall, IsInvoked, is_of_member}
use Rattle.typed_bodies.specs.Marking.{Begins}
use Rattle.typed_bodies.specs.Reading.{Place, IsSound, Follows}
use Rattle.typed_bodies.specs.Wholes.{Reaches, IsWhole}
use Rattle.typed_bodies.proofs.ExpressionsFollow.{call_follows_all, closed_quiet}
use Rattle.typed_bodies.proofs.Steps.{unbroken, follows_typed, then_made}

-- ---- what is invoked

-- behind `@Global` or not
abbrev pub IsReturned : Bool → Invoked → Type 0
IsReturned is_global (invoked.Value a) = Unit {0}
IsReturned is_global (invoked.Sets v at a) = ⊥
IsReturned is_global (invoked.Accesses a) = is_global ≡ false

not_global : (is_global : Bool) (at : ℕ) → (is_some (token_if is_global at) ≡ true → ⊥) → is_global ≡ false
not_global true at none = absurd (none refl)
not_global false at none = refl

no_token : (is_global : Bool) (at : ℕ) → token_if is_global at ≡ None → is_global ≡ false
no_token true at e = absurd (cc)
no_token false at e = refl

has_value : (found : ExprType) → is_void found ≡ false → found ≡ Void → ⊥
has_value found value is = let e : true ≡ false = ap is_void (sym is) ∙ value in absurd (cc)

both_false : (a b : Bool) → b ≡ false → (a && b) ≡ false
both_false true b e = e
both_false false b e = refl

module _ (p : Place) (is_global : Bool) (at : ℕ) (of_member : Bool) (found : ExprType) (value : is_void found ≡ false) (names rest : List Declaration) (u v : MarkingWalk) where
  plain_returned : (i : Invoked) → IsInvoked p found i → is_global ≡ false → IsReturned is_global i
  plain_returned (invoked.Value a) is local = tt
  plain_returned (invoked.Sets v at a) sets local = absurd (has_value found value sets.is_void)
  plain_returned (invoked.Accesses a) is local = local

  reached_returned : (i : Invoked) → Reaches p Whole (token_if is_global at) found i names rest u v → IsReturned is_global i
  reached_returned i r = subst (IsReturned is_global) (sym r.of.is) (not_global is_global at (λ e. (let h = (r.globally e).1 in absurd (cc))))

  whole_returned : (m : marking.Calling) (i : Invoked) → IsCall p of_member found m names i → IsWhole p Whole (token_if is_global at) found i names rest u v → IsReturned is_global i
  whole_returned m i is (inl plain) = plain_returned i (is.typed (both_false of_member (is_void found) value) (is.begins plain.plain)) (no_token is_global at plain.local)
  whole_returned m i is (inr (inl reach)) = reached_returned i reach
  whole_returned m i is (inr (inr all)) = subst (IsReturned is_global) (sym all.is) tt

-- what both kinds of rules find nothing in
pub call_returned : (p : Place) (is_global : Bool) (at : ℕ) (call : CallForm) (found : ExprType) → is_void found ≡ false → (names rest : List Declaration) (u : MarkingWalk) (i : Invoked)
    → IsCall p (is_of_member call) found (marking.call_of p.marks call) names i → Begins p (marking.call_of p.marks call Whole (token_if is_global at)) names u rest → IsReturned is_global i
call_returned p is_global at call found value names rest u i is b =
    let v = marking.call_of p.marks call Whole (token_if is_global at) u in
    whole_returned p is_global at (is_of_member call) found value names rest u v (marking.call_of p.marks call) i is (is.whole Whole (token_if is_global at) refl u rest b)

-- ---- how it is read

-- a call that is used has a value
pub record IsUsed (at : ℕ) (t : Typing) : Type 0 where
  pub same : used at t ≡ t
  pub value : is_void t.found ≡ false
  pub quiet : t.walk.findings ≡ []

used_by : (at : ℕ) (t : Typing) (b : Bool) → is_void t.found ≡ b → (used at t).walk.findings ≡ [] → IsUsed at t
unfolding used noted
used_by at t true is quiet = let u = unbroken (is_void t.found) at 7 t.walk quiet in let h : true ≡ false = sym is ∙ u.holds in absurd (cc)
used_by at t false is quiet =
    let u = unbroken (is_void t.found) at 7 t.walk quiet in
    record { same = ap (λ b. record { found = unless b t.found; walk = noted b at 7 t.walk }) is; value = is; quiet = u.quiet }

pub is_used : (at : ℕ) (t : Typing) → (used at t).walk.findings ≡ [] → IsUsed at t
is_used at t quiet = used_by at t (is_void t.found) refl quiet

-- a call that is a value, as what is read of it
abbrev pub read_call : CallForm → Place → ExprType → Cursor → Read Read_whole
read_call call p found c = read (record { invoked = (call_of p.scope call c).it; found = found }) (call_of p.scope call c).cursor

abbrev pub as_value : Place → CallForm → Walk → Typing
as_value p call w = typed w (used (opened w).at (call_walk p.env call (opened w)))

abbrev pub IsValueCall : Place → CallForm → Walk → List Declaration → Read_whole → Type 0
IsValueCall p call w names r =
    let found = (call_walk p.env call (opened w)).found in
    (is_void found ≡ false) × IsCall p (is_of_member call) found (marking.call_of p.marks call) names r.invoked

pub value_follows : (p : Place) → IsSound p → (call : CallForm) (w : Walk) → (as_value p call w).walk.findings ≡ []
    → Follows p w (as_value p call w).walk (λ c. read_call call p (type_here c) (behind_type c)) (IsValueCall p call w)
value_follows p sound call w quiet =
    let t = call_walk p.env call (opened w) in
    let u = is_used (opened w).at t (closed_quiet (length w.types) _ _ quiet) in
    subst (λ (v : Typing). Follows p w (typed w v).walk (λ c. read_call call p (type_here c) (behind_type c)) (IsValueCall p call w)) (sym u.same)
    (follows_typed p w t.found (read_call call p) (IsValueCall p call w)
    (then_made p (λ (i : Invoked). record { invoked = i; found = t.found }) (IsValueCall p call w) (λ names i is. (u.value, is)) (call_follows_all p sound call (opened w) u.quiet)))
