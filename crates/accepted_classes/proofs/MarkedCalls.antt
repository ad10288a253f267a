-- Marks call nothing that a body doesn't call without them: their keys are arguments of its accesses.
use Rattle.std.proofs.Common.{◌≡◌, ℕ, Bool, true, false, List, [], ◌∷◌, ◌++◌, map, Option, Some, None, if◌then◌else◌, sym, ap, subst, ◌∙◌}
use Rattle.access_blocks.specs.declared.body.Access.{Access}
use Rattle.access_blocks.specs.declared.body.Choice.{Choice}
use Rattle.access_blocks.specs.declared.body.Choice.TheVariants as choice
use Rattle.access_blocks.specs.declared.body.Expression.{Expression}
use Rattle.access_blocks.specs.declared.body.Expression.TheOpen as e
use Rattle.access_blocks.specs.declared.body.Expression.TheVariants as x
use Rattle.access_blocks.specs.declared.body.Expression.TheFolds.{fold-roll-Expression}
use Rattle.access_blocks.specs.declared.body.Statement.{Statement, roll-Statement, out-Statement, roll-out-Statement}
use Rattle.access_blocks.specs.declared.body.Statement.TheOpen.{Statement-F}
use Rattle.access_blocks.specs.declared.body.Statement.TheOpen as s
use Rattle.access_blocks.specs.declared.body.Statement.TheVariants as statement
use Rattle.access_blocks.specs.declared.body.Statement.TheFolds.{fold-roll-Statement, ind-Statement, map-Statement}
use Rattle.access_blocks.specs.declared.place.Site.{Site}
use Rattle.access_blocks.specs.Marks.{Marking, marking_step, marking_of, with_marks, list_placed, placed, placed_as, unit_of, has_access, is_current, branch, branch_in, whole_list, marked, carrying_in, carrying_access, carried_args, key_of, key_by, key_step, first_of, first_in}
use Rattle.access_blocks.proofs.Markings.{wholes_are}
use Rattle.body_code.specs.Checking.{calling, calling_step, calling_maybe, in_all, called_in, called_step}
use Rattle.accepted_classes.proofs.Calls.{Each, each_both, each_first, each_second, CallsAll, CallsIn, CallsInAll, CallsMaybe, access_calls, block_calls, if_calls, loop_calls}

module _ (P : ℕ → Type 0) where
  abbrev CallsLayer : Statement-F Statement → Type 0
  CallsLayer layer = Each P (called_step (map-Statement Statement (List ℕ) called_in layer))

  in_layer : (layer : Statement-F Statement) → CallsIn P (roll-Statement layer) → CallsLayer layer
  in_layer layer h = subst (Each P) (fold-roll-Statement (List ℕ) called_step layer) h

  of_layer : (layer : Statement-F Statement) → CallsLayer layer → CallsIn P (roll-Statement layer)
  of_layer layer h = subst (Each P) (sym (fold-roll-Statement (List ℕ) called_step layer)) h

  by_out : (st : Statement) → CallsIn P st → CallsLayer (out-Statement st)
  by_out st h = in_layer (out-Statement st) (subst (CallsIn P) (sym (roll-out-Statement st)) h)

  -- ---- keys

  key_calls : (how : Choice) (args : List Expression) → CallsAll P args → CallsMaybe P (key_by how args)
  key_calls choice.Instance args h = tt
  key_calls (choice.Literal n) [] h = tt
  key_calls (choice.Literal n) (a ∷ args) h = each_first P (calling a) (in_all (map calling args)) h
  key_calls (choice.Variable v) [] h = tt
  key_calls (choice.Variable v) (a ∷ args) h = each_first P (calling a) (in_all (map calling args)) h
  key_calls choice.Compound [] h = tt
  key_calls choice.Compound (a ∷ args) h = each_first P (calling a) (in_all (map calling args)) h

  first_calls : (a b : Option Expression) → CallsMaybe P a → CallsMaybe P b → CallsMaybe P (first_of a b)
  first_calls None b h k = k
  first_calls (Some a) b h k = h

  abbrev Keyed : Statement → Type 0
  Keyed st = CallsIn P st → CallsMaybe P (key_of st)

  abbrev Part : Type 0
  Part = (st : Statement) × Keyed st

  abbrev bare : Statement-F Part → Statement-F Statement
  bare = map-Statement Part Statement (λ p. p.0)

  abbrev bares : List Part → List Statement
  bares items = map (λ (p : Part). p.0) items

  keys_call : (items : List Part) → Each P (in_all (map called_in (bares items))) → CallsMaybe P (first_in (map key_of (bares items)))
  keys_call [] h = tt
  keys_call (p ∷ items) h =
      first_calls (key_of p.0) (first_in (map key_of (bares items))) (p.1 (each_first P (called_in p.0) (in_all (map called_in (bares items))) h))
      (keys_call items (each_second P (called_in p.0) (in_all (map called_in (bares items))) h))

  key_layer : (y : Statement-F Part) → CallsLayer (bare y) → CallsMaybe P (key_step (map-Statement Statement (Option Expression) key_of (bare y)))
  key_layer (s.Access a) h = key_calls a.choice a.args h
  key_layer (s.Marked mark body) h = body.1 (each_second P (calling_maybe mark.key) (called_in body.0) h)
  key_layer (s.Opened body) h = body.1 h
  key_layer (s.Block items) h = keys_call items h
  key_layer (s.If test first None) h =
      let rest = each_second P (calling test) (called_in first.0 ++ []) h in
      first_calls (key_of first.0) None (first.1 (each_first P (called_in first.0) [] rest)) tt
  key_layer (s.If test first (Some second)) h =
      let rest = each_second P (calling test) (called_in first.0 ++ called_in second.0) h in
      first_calls (key_of first.0) (key_of second.0) (first.1 (each_first P (called_in first.0) (called_in second.0) rest)) (second.1 (each_second P (called_in first.0) (called_in second.0) rest))
  key_layer (s.Loop start test update body) h =
      let ss = in_all (map called_in (bares start)) in
      let us = in_all (map called_in (bares update)) in
      let bs = called_in body.0 in
      let rest = each_second P (calling_maybe test) (bs ++ us) (each_second P ss (calling_maybe test ++ (bs ++ us)) h) in
      first_calls (first_in (map key_of (bares start))) (first_of (first_in (map key_of (bares update))) (key_of body.0)) (keys_call start (each_first P ss (calling_maybe test ++ (bs ++ us)) h))
      (first_calls (first_in (map key_of (bares update))) (key_of body.0) (keys_call update (each_second P bs us rest)) (body.1 (each_first P bs us rest)))
  key_layer y h = tt

  key_made : (z : Statement-F Statement) (y : Statement-F Part) → bare y ≡ z → Keyed (roll-Statement z)
  key_made z y is h =
      let Q : Statement-F Statement → Type 0 = λ w. CallsLayer w → CallsMaybe P (key_step (map-Statement Statement (Option Expression) key_of w)) in
      let q : Q z = subst Q is (key_layer y) in
      subst (CallsMaybe P) (sym (fold-roll-Statement (Option Expression) key_step z)) (q (in_layer z h))

  key_of_calls : (st : Statement) → Keyed st
  key_of_calls = ind-Statement Keyed key_made

  -- ---- units

  carried_calls : (args : List Expression) → CallsAll P args → CallsAll P (carried_args args)
  carried_calls [] h = tt
  carried_calls (a ∷ args) h =
      let none : calling x.CarriedKey ≡ [] = ap calling (sym x.rolls-CarriedKey) ∙ fold-roll-Expression (List ℕ) calling_step e.CarriedKey in
      each_both P (calling x.CarriedKey) (in_all (map calling args)) (subst (Each P) (sym none) tt) (each_second P (calling a) (in_all (map calling args)) h)

  carrying_calls : (a : Access) (how : Choice) → CallsAll P a.args → CallsAll P (carrying_access a how).args
  carrying_calls a (choice.Literal n) h = h
  carrying_calls a (choice.Variable v) h = h
  carrying_calls a choice.Compound h = carried_calls a.args h
  carrying_calls a choice.Instance h = h

  carried_in : (st : Statement) (layer : Statement-F Statement) → CallsIn P st → CallsLayer layer → CallsIn P (carrying_in st layer)
  carried_in st (s.Access a) h k = access_calls P (carrying_access a a.choice) (carrying_calls a a.choice k)
  carried_in st layer h k = h

  marked_calls : (site : Site) (st : Statement) → CallsIn P st → CallsIn P (marked site st)
  marked_calls site st h =
      let inner = carrying_in st (out-Statement st) in
      let layer : Statement-F Statement = s.Marked (record { field = site.field; key = key_of st }) inner in
      subst (CallsIn P) (statement.rolls-Marked (record { field = site.field; key = key_of st }) inner)
      (of_layer layer (each_both P (calling_maybe (key_of st)) (called_in inner) (key_of_calls st h) (carried_in st (out-Statement st) h (by_out st h))))

  opened_calls : (st : Statement) → CallsIn P st → CallsIn P (statement.Opened st)
  opened_calls st h = subst (CallsIn P) (statement.rolls-Opened st) (of_layer (s.Opened st) h)

  -- ---- markings

  -- What is opened calls no more than the whole.
  abbrev Keeps : Marking → Type 0
  Keeps m = CallsIn P m.whole → CallsIn P m.opened

  abbrev AllKeep : List Marking → Type 0
  AllKeep [] = Unit {0}
  AllKeep (m ∷ ms) = Keeps m × AllKeep ms

  unit_calls : (b : Bool) (site : Site) (st : Statement) → CallsIn P st → CallsIn P (if b then st else marked site st)
  unit_calls true site st h = h
  unit_calls false site st h = marked_calls site st h

  placed_by : (current unit : Option Site) (accesses : Bool) (m : Marking) → Keeps m → CallsIn P m.whole → CallsIn P (placed_as current unit accesses m).statement
  placed_by current (Some site) accesses m k h = unit_calls (is_current current site) site m.whole h
  placed_by current None true m k h = k h
  placed_by current None false m k h = h

  placed_calls : (current : Option Site) (m : Marking) → Keeps m → CallsIn P m.whole → CallsIn P (placed current m).statement
  placed_calls current m k h = placed_by current (unit_of m.whole) (has_access m.whole) m k h

  list_calls : (current : Option Site) (ms : List Marking) → AllKeep ms → CallsInAll P (whole_list ms) → CallsInAll P (list_placed current ms)
  list_calls current [] k h = tt
  list_calls current (m ∷ ms) k h =
      let here = each_first P (called_in m.whole) (in_all (map called_in (whole_list ms))) h in
      let rest = each_second P (called_in m.whole) (in_all (map called_in (whole_list ms))) h in
      each_both P (called_in (placed current m).statement) (in_all (map called_in (list_placed (placed current m).site ms)))
      (placed_calls current m k.0 here) (list_calls (placed current m).site ms k.1 rest)

  either_opened : (b : Bool) (m : Marking) → Keeps m → CallsIn P m.whole → CallsIn P (if b then m.opened else m.whole)
  either_opened true m k h = k h
  either_opened false m k h = h

  branch_by : (layer : Statement-F Statement) (m : Marking) → Keeps m → CallsIn P m.whole → CallsIn P (branch_in layer m)
  branch_by (s.Block items) m k h = either_opened (has_access m.whole) m k h
  branch_by layer m k h = placed_calls None m k h

  branch_calls : (m : Marking) → Keeps m → CallsIn P m.whole → CallsIn P (branch m)
  branch_calls m k h = branch_by (out-Statement m.whole) m k h

  -- ---- each statement

  abbrev KeepsMarked : Statement → Type 0
  KeepsMarked st = Keeps (marking_of st)

  abbrev Kept : Type 0
  Kept = (st : Statement) × KeepsMarked st

  abbrev markings : Statement-F Kept → Statement-F Marking
  markings y = map-Statement Statement Marking marking_of (map-Statement Kept Statement (λ p. p.0) y)

  abbrev marks_of : List Kept → List Marking
  marks_of items = map marking_of (map (λ (p : Kept). p.0) items)

  all_keep : (items : List Kept) → AllKeep (marks_of items)
  all_keep [] = tt
  all_keep (p ∷ items) = (p.1, all_keep items)

  kept_layer : (y : Statement-F Kept) → Keeps (marking_step (markings y))
  kept_layer (s.Block items) h =
      opened_calls (statement.Block (list_placed None (marks_of items)))
      (block_calls P (list_placed None (marks_of items)) (list_calls None (marks_of items) (all_keep items) (in_layer (s.Block (whole_list (marks_of items))) h)))
  kept_layer (s.If test first None) h =
      let f = marking_of first.0 in
      let k = in_layer (s.If test f.whole None) h in
      let rest = each_second P (calling test) (called_in f.whole ++ []) k in
      opened_calls (statement.If test (branch f) None)
      (if_calls P test (branch f) None (each_first P (calling test) (called_in f.whole ++ []) k) (branch_calls f first.1 (each_first P (called_in f.whole) [] rest)) tt)
  kept_layer (s.If test first (Some second)) h =
      let f = marking_of first.0 in
      let g = marking_of second.0 in
      let k = in_layer (s.If test f.whole (Some g.whole)) h in
      let rest = each_second P (calling test) (called_in f.whole ++ called_in g.whole) k in
      opened_calls (statement.If test (branch f) (Some (branch g)))
      (if_calls P test (branch f) (Some (branch g)) (each_first P (calling test) (called_in f.whole ++ called_in g.whole) k)
      (branch_calls f first.1 (each_first P (called_in f.whole) (called_in g.whole) rest)) (branch_calls g second.1 (each_second P (called_in f.whole) (called_in g.whole) rest)))
  kept_layer (s.Loop start test update body) h =
      let ss = whole_list (marks_of start) in
      let us = whole_list (marks_of update) in
      let b = marking_of body.0 in
      let k = in_layer (s.Loop ss test us b.whole) h in
      let rest = each_second P (in_all (map called_in ss)) (calling_maybe test ++ (called_in b.whole ++ in_all (map called_in us))) k in
      let more = each_second P (calling_maybe test) (called_in b.whole ++ in_all (map called_in us)) rest in
      opened_calls (statement.Loop ss test us (branch b))
      (loop_calls P ss test us (branch b) (each_first P (in_all (map called_in ss)) (calling_maybe test ++ (called_in b.whole ++ in_all (map called_in us))) k)
      (each_first P (calling_maybe test) (called_in b.whole ++ in_all (map called_in us)) rest)
      (each_second P (called_in b.whole) (in_all (map called_in us)) more)
      (branch_calls b body.1 (each_first P (called_in b.whole) (in_all (map called_in us)) more)))
  kept_layer y h = h

  kept_made : (z : Statement-F Statement) (y : Statement-F Kept) → map-Statement Kept Statement (λ p. p.0) y ≡ z → KeepsMarked (roll-Statement z)
  kept_made z y is =
      let Q : Statement-F Statement → Type 0 = λ w. Keeps (marking_step (map-Statement Statement Marking marking_of w)) in
      subst Keeps (sym (fold-roll-Statement Marking marking_step z)) (subst Q is (kept_layer y))

  marks_keep : (st : Statement) → KeepsMarked st
  marks_keep = ind-Statement KeepsMarked kept_made

  all_marked : (all : List Statement) → AllKeep (map marking_of all)
  all_marked [] = tt
  all_marked (st ∷ all) = (marks_keep st, all_marked all)

  -- a list with its marks calls what it calls without them
  pub marks_call : (all : List Statement) → CallsInAll P all → CallsInAll P (with_marks all)
  marks_call all h = list_calls None (map marking_of all) (all_marked all) (subst (CallsInAll P) (sym (wholes_are all)) h)
