-- Statements that stand in a list go one after the other.
use Rattle.std.proofs.Common.{◌≡◌, List, [], ◌∷◌, ◌++◌, map, fold, refl, sym, ap, subst, ◌∙◌, append_assoc, append-nil}
use Rattle.java_types.specs.declared.statements.Around.{Around}
use Rattle.java_types.specs.declared.walk.Walk.{Walk}
use Rattle.annotations.specs.declared.walk.Walk.{Walk as MarkingWalk}
use Rattle.access_blocks.specs.declared.body.Statement.{Statement}
use Rattle.access_blocks.specs.Cursors.{Cursor, Read, read}
use Rattle.access_blocks.specs.ResolvingStatements.{Stating, listed, list_of}
use Rattle.body_code.specs.Early.{assigned_in}
use Rattle.marked_bodies.specs.Unmarked.{unmarked, unmarked_list}
use Rattle.typed_statements.specs.Points.{Setting, Point, point, IsPoint}
use Rattle.typed_statements.specs.Checks.{Typed, AllTyped, all_assigned}
use Rattle.typed_statements.specs.Goes.{Grows, Meaning, Behind, Goes}
use Rattle.typed_statements.proofs.Going.{same}
use Rattle.typed_statements.proofs.InTurn.{Way, unread, in_turn}
use Rattle.typed_statements.proofs.Standings.{checks_both, longer}

-- ---- readings that read the same

pub goes_as : {A : Type 0} (k : Setting) {w v : Walk} {u x : MarkingWalk} {first second : Cursor → Read A} (Means : Meaning A) → ((c : Cursor) → first c ≡ second c)
    → Goes k w v u x first Means → Goes k w v u x second Means
goes_as {A = A} k {w = w} {v = v} {u = u} {x = x} {first = first} {second = second} Means is g = record {
  back = g.back;
  grows = λ c. subst (λ (r : Read A). Grows c.variables r.cursor.variables) (is c) (g.grows c);
  passes = λ qv qx.
      let p = g.passes qv qx in
      record {
        added = p.added;
        behind = λ c types names at ts ns all.
            subst (λ (r : Read A). Behind k (point w u c) v x r types names Means) (is c)
            (p.behind c types names at ts ns (subst (λ (r : Read A). Grows r.cursor.variables k.around.context.variables) (sym (is c)) all));
      };
}

-- ---- what is read of a list

abbrev behind_those : List Statement → Read (List Statement) → Read (List Statement)
behind_those first r = read (first ++ r.it) r.cursor

abbrev pub before_those : Stating → List Stating → Cursor → Read (List Statement)
before_those part parts c = read ((part c).it ∷ (list_of parts (part c).cursor).it) (list_of parts (part c).cursor).cursor

listed_all : (parts : List Stating) (first : List Statement) (c : Cursor) → fold listed (read first c) parts ≡ behind_those first (list_of parts c)
listed_all [] first c = ap (λ ss. read ss c) (sym (append-nil first))
listed_all (part ∷ parts) first c =
    let s = (part c).it in
    let d = (part c).cursor in
    listed_all parts (first ++ s ∷ []) d
    ∙ (ap (λ ss. read ss (list_of parts d).cursor) (append_assoc first (s ∷ []) (list_of parts d).it)
    ∙ ap (behind_those first) (sym (listed_all parts (s ∷ []) d)))

pub list_is : (part : Stating) (parts : List Stating) (c : Cursor) → before_those part parts c ≡ list_of (part ∷ parts) c
list_is part parts c = sym (listed_all parts ((part c).it ∷ []) (part c).cursor)

-- ---- lists

-- what the parts mean, and what a list of them means
pub list_means : {A : Type 0} (k : Setting) (One : Meaning Statement) (All : Meaning (List Statement)) (step : Walk → A → Walk) (mark : MarkingWalk → A → MarkingWalk) (reading : A → Stating)
    → ((at : Point) → IsPoint k at → All at at [])
    → ((at mid to : Point) (s : Statement) (ss : List Statement) → Way k at mid → Way k mid to → One at mid s → All mid to ss → All at to (s ∷ ss))
    → ((x : A) (w : Walk) (u : MarkingWalk) → Goes k w (step w x) u (mark u x) (reading x) One)
    → (xs : List A) (w : Walk) (u : MarkingWalk) → Goes k w (fold step w xs) u (fold mark u xs) (list_of (map reading xs)) All
list_means k One All step mark reading none more each [] w u = unread k w u [] none
list_means k One All step mark reading none more each (x ∷ xs) w u =
    goes_as k All (list_is (reading x) (map reading xs))
    (in_turn k (λ (s : Statement) ss. s ∷ ss) more (each x w u) (list_means k One All step mark reading none more each xs (step w x) (mark u x)))

module _ (k : Setting) (a : Around) where
  pub none_typed : (at : Point) → IsPoint k at → AllTyped k a at at []
  none_typed at is = record {
    longer = longer (same at.cursor.variables);
    below = tt;
    checked = λ st exits seen r. record { after = st; is = refl; keeps = λ v e. e; knows = r.knows; waits = r.waits };
  }

  pub one_more : (at mid to : Point) (s : Statement) (ss : List Statement) → Typed k a at mid s → AllTyped k a mid to ss → AllTyped k a at to (s ∷ ss)
  one_more at mid to s ss h t = checks_both k a (unmarked k.around s) (unmarked_list k.around ss) (assigned_in s) (all_assigned ss) h t

  pub list_goes : {A : Type 0} (step : Walk → A → Walk) (mark : MarkingWalk → A → MarkingWalk) (reading : A → Stating)
      → ((x : A) (w : Walk) (u : MarkingWalk) → Goes k w (step w x) u (mark u x) (reading x) (Typed k a))
      → (xs : List A) (w : Walk) (u : MarkingWalk) → Goes k w (fold step w xs) u (fold mark u xs) (list_of (map reading xs)) (AllTyped k a)
  list_goes step mark reading each = list_means k (Typed k a) (AllTyped k a) step mark reading none_typed (λ at mid to s ss p q h t. one_more at mid to s ss h t) each
