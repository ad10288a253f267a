-- Where a statement completes normally, and where a `break` leaves the loop around it, the walk of the flow can be there.
use Rattle.std.proofs.Common.{◌≡◌, Bool, true, false, not, ◌||◌, ◌&&◌, List, [], ◌∷◌, map, Some, None, refl, ◌∙◌}
use Rattle.java_tree.specs.declared.tree.ForHeader.{ForHeader}
use Rattle.java_flow.specs.declared.branches.Test.{Test}
use Rattle.java_flow.specs.Points.{Point, behind}
use Rattle.java_flow.specs.Simples.{simples_walk}
use Rattle.java_flow.specs.Statements.{Item, loop_start, if_walk, while_walk, for_walk, behind_update, update_start, when_true, when_false, branch_start, items_walk, block_walk}
use Rattle.body_code.specs.Completing.{Leaving, leaving, completing, breaking, of_second}
use Rattle.ending_bodies.proofs.Passing.{simples_calm, Has, has_before}
use Rattle.ending_bodies.proofs.Grown.{Starting, items_grow, second_grows}

pub record Leaves (l : Leaving) (q : Point) : Type 0 where
  pub completes : l.completes ≡ true → q.is_reachable ≡ true
  pub breaks : l.breaks ≡ true → q.is_left ≡ true

-- wherever it begins, if nothing is found in it
abbrev pub LeavesBy : Leaving → (Point → Point) → Type 0
LeavesBy l walk = (p : Point) → (walk p).findings ≡ [] → Has (walk p).places → Leaves l (walk p)

pub by_either : {C : Type 0} (a b : Bool) → (a || b) ≡ true → (a ≡ true → C) → (b ≡ true → C) → C
by_either true b e f g = f refl
by_either false b e f g = g e

pub left_or : (a b : Bool) → a ≡ true → (a || b) ≡ true
left_or true b e = refl
left_or false b e = absurd (cc)

pub right_or : (a b : Bool) → b ≡ true → (a || b) ≡ true
right_or true b e = refl
right_or false b e = e

pub no_break : {C : Type 0} → false ≡ true → C
no_break e = absurd (cc)

-- ---- lists

module _ {A : Type 0} (item : A → Item) (starts : (x : A) → Starting (item x).walk) where
  abbrev pub AllLeave : List Leaving → List A → Type 0
  AllLeave [] [] = Unit {0}
  AllLeave (l ∷ ls) (x ∷ xs) = LeavesBy l (item x).walk × AllLeave ls xs
  AllLeave ls xs = ⊥

  abbrev end : List A → Point → Point
  end xs p = items_walk (map item xs) p

  -- what is behind the first one is what is behind all, and so it begins nowhere else
  first_leaves : (l : Leaving) (x : A) (xs : List A) → LeavesBy l (item x).walk → (p : Point) → (end (x ∷ xs) p).findings ≡ [] → Has (end (x ∷ xs) p).places → Leaves l ((item x).walk p)
  first_leaves l x xs by p quiet has =
      let g = items_grow item starts xs ((item x).walk p) in
      by p (g.back quiet) (has_before g has)

  second_begins : (x : A) (xs : List A) (p : Point) → (end (x ∷ xs) p).findings ≡ [] → Has (end (x ∷ xs) p).places → p.is_reachable ≡ true
  second_begins x xs p quiet has =
      let g = items_grow item starts xs ((item x).walk p) in
      (starts x p).begins (g.back quiet) (has_before g has)

  items_complete : (ls : List Leaving) (xs : List A) → AllLeave ls xs → (p : Point) → p.is_reachable ≡ true → (end xs p).findings ≡ [] → Has (end xs p).places
      → completing ls ≡ true → (end xs p).is_reachable ≡ true
  items_complete [] [] all p reached quiet has e = reached
  items_complete (l ∷ []) (x ∷ []) all p reached quiet has e = (first_leaves l x [] all.0 p quiet has).completes e
  items_complete (l ∷ k ∷ ls) (x ∷ y ∷ ys) all p reached quiet has e =
      items_complete (k ∷ ls) (y ∷ ys) all.1 ((item x).walk p) (second_begins y ys ((item x).walk p) quiet has) quiet has e
  items_complete [] (x ∷ xs) all p reached quiet has e = absurd all
  items_complete (l ∷ ls) [] all p reached quiet has e = absurd all
  items_complete (l ∷ []) (x ∷ y ∷ ys) all p reached quiet has e = absurd all.1
  items_complete (l ∷ k ∷ ls) (x ∷ []) all p reached quiet has e = absurd all.1

  items_break : (ls : List Leaving) (xs : List A) → AllLeave ls xs → (p : Point) → (end xs p).findings ≡ [] → Has (end xs p).places → breaking ls ≡ true → (end xs p).is_left ≡ true
  items_break [] [] all p quiet has e = no_break e
  items_break (l ∷ ls) (x ∷ xs) all p quiet has e =
      by_either l.breaks (breaking ls) e
      (λ first. (items_grow item starts xs ((item x).walk p)).left ((first_leaves l x xs all.0 p quiet has).breaks first))
      (λ others. items_break ls xs all.1 ((item x).walk p) quiet has others)
  items_break [] (x ∷ xs) all p quiet has e = absurd all
  items_break (l ∷ ls) [] all p quiet has e = absurd all

  pub block_leaves : (ls : List Leaving) (xs : List A) → AllLeave ls xs → (p : Point) → p.is_reachable ≡ true → (block_walk (map item xs) p).findings ≡ [] → Has (block_walk (map item xs) p).places
      → Leaves (leaving (completing ls) (breaking ls)) (block_walk (map item xs) p)
  block_leaves ls xs all p reached quiet has = record {
    completes = λ e. items_complete ls xs all (behind 1 p) reached quiet has e;
    breaks = λ e. items_break ls xs all (behind 1 p) quiet has e;
  }

-- ---- branches

pub if_leaves : (t : Test) (l : Leaving) (first : Point → Point) → LeavesBy l first → (p : Point) → p.is_reachable ≡ true
    → (if_walk t first None p).findings ≡ [] → Has (if_walk t first None p).places → Leaves (of_second l None) (if_walk t first None p)
if_leaves t l first by p reached quiet has =
    let q = first (when_true t p) in
    record { completes = λ e. right_or q.is_reachable p.is_reachable reached; breaks = λ e. (by (when_true t p) quiet has).breaks e }

pub else_leaves : (t : Test) (l k : Leaving) (first second : Point → Point) → Starting second → LeavesBy l first → LeavesBy k second → (p : Point)
    → (if_walk t first (Some second) p).findings ≡ [] → Has (if_walk t first (Some second) p).places → Leaves (of_second l (Some k)) (if_walk t first (Some second) p)
else_leaves t l k first second starts by other p quiet has =
    let q = first (when_true t p) in
    let start = behind 1 (branch_start (when_false t p) q) in
    let g = second_grows t second starts p q in
    let a = by (when_true t p) (g.back quiet) (has_before g has) in
    let b = other start quiet has in
    record {
      completes = λ e. by_either l.completes k.completes e (λ h. right_or (second start).is_reachable q.is_reachable (a.completes h)) (λ h. left_or (second start).is_reachable q.is_reachable (b.completes h));
      breaks = λ e. by_either l.breaks k.breaks e (λ h. g.left (a.breaks h)) (λ h. b.breaks h);
    }

-- ---- loops

-- A loop whose condition is the constant `true` to the walk goes on.
loop_ends : (reached : Bool) (forever goes left breaks : Bool) → reached ≡ true → (forever ≡ true → goes ≡ true) → (breaks ≡ true → left ≡ true)
    → (not goes || breaks) ≡ true → (reached && (not forever || left)) ≡ true
loop_ends true false goes left breaks r f g e = refl
loop_ends true true true left breaks r f g e = g e
loop_ends true true false left breaks r f g e = no_break (f refl)
loop_ends false forever goes left breaks r f g e = no_break r

pub while_leaves : (t : Test) (goes : Bool) (l : Leaving) (body : Point → Point) → (t.is_true ≡ true → goes ≡ true) → LeavesBy l body → (p : Point) → p.is_reachable ≡ true
    → (while_walk t body p).findings ≡ [] → Has (while_walk t body p).places → Leaves (leaving (not goes || l.breaks) false) (while_walk t body p)
while_leaves t goes l body agrees by p reached quiet has =
    let q = body (loop_start t p) in
    record {
      completes = loop_ends p.is_reachable t.is_true goes q.is_left l.breaks reached agrees ((by (loop_start t p) quiet has).breaks);
      breaks = λ e. no_break e;
    }

pub for_leaves : (t : Test) (h : ForHeader) (goes : Bool) (l : Leaving) (body : Point → Point) → (t.is_true ≡ true → goes ≡ true) → LeavesBy l body → (p : Point) → p.is_reachable ≡ true
    → (for_walk t h body p).findings ≡ [] → Has (for_walk t h body p).places → Leaves (leaving (not goes || l.breaks) false) (for_walk t h body p)
for_leaves t h goes l body agrees by p reached quiet has =
    let q = body (loop_start t (behind_update h p)) in
    let u = simples_calm h.update (update_start p.places q) in
    record {
      completes = loop_ends p.is_reachable t.is_true goes (simples_walk h.update (update_start p.places q)).is_left l.breaks reached agrees
          (λ e. u.left ∙ (by (loop_start t (behind_update h p)) (u.back quiet) has).breaks e);
      breaks = λ e. no_break e;
    }
