-- No block begins in a typed helper or merge method.
use mathlib.Core.Path.{transport}
use Rattle.std.proofs.Common.{◌≡◌, ◌≢◌, refl, sym, subst, Bool, true, ◌&&◌, List, [], ◌∷◌, map, Option, Some, None}
use Rattle.std.proofs.lemmas.Bool.{false≢true}
use Rattle.sdg_base.specs.declared.value_type.ValueType.TheVariants as type
use Rattle.sdg_base.specs.Signatures.{Signature}
use Rattle.java_tree.specs.declared.method_kinds.MethodKind.{MethodKind}
use Rattle.java_tree.specs.declared.method_kinds.MethodKind.TheVariants.{Entry, Helper, Merge}
use Rattle.access_blocks.specs.declared.body.Gather.{Gather}
use Rattle.access_blocks.specs.declared.body.Statement.{Statement, roll-Statement}
use Rattle.access_blocks.specs.declared.body.Statement.TheOpen.{Statement-F}
use Rattle.access_blocks.specs.declared.body.Statement.TheOpen as s
use Rattle.access_blocks.specs.declared.body.Statement.TheFolds.{fold-roll-Statement, ind-Statement, map-Statement}
use Rattle.body_code.specs.Checking.{Surroundings, Standing, Around, Checking, is_entry, in_block, outside, met, takes, checked_step, checked, checked_list}
use Rattle.body_code.specs.Checking as checking
use Rattle.code_meaning.specs.Running.{all_plain, plain_step, is_plain}
use Rattle.code_meaning.proofs.Lists.{none_some, both_true, and_true}
use Rattle.code_meaning.proofs.Growing.{next_is, if_so_is, if_then}
use Rattle.code_meaning.proofs.Plain.{met_is, compound_is, opened_is}
use Rattle.code_meaning.proofs.Foreseen.{passing_is}

not_entry : (k : MethodKind) → k ≢ Entry → is_entry k ≡ true → ⊥
not_entry Entry other is = other refl
not_entry Helper other is = false≢true is
not_entry Merge other is = false≢true is

module _ (around : Surroundings) (other : around.kind ≢ Entry) where
  no_gather : (g : Gather) (o : Option Signature) (st end : Standing) → checking.gather around g o st ≡ Some end → ⊥
  no_gather g None st end is = none_some end is
  no_gather g (Some sig) st end is = not_entry around.kind other (both_true (is_entry around.kind) _ (if_so_is _ (checking.gathering sig.result st) end is).0).0

  abbrev IsPlain : Checking → Bool → Type 0
  IsPlain check plain = (loop : Around) (st end : Standing) → check loop st ≡ Some end → plain ≡ true

  abbrev Part : Type 0
  Part = (x : Statement) × IsPlain (checked around x) (is_plain x)

  abbrev bare : Statement-F Part → Statement-F Statement
  bare = map-Statement Part Statement (λ x. x.0)

  abbrev plains : Statement-F Statement → Statement-F Bool
  plains = map-Statement Statement Bool is_plain

  abbrev checks : Statement-F Statement → Statement-F Checking
  checks = map-Statement Statement Checking (checked around)

  list_plain : (xs : List Part) → IsPlain (checked_list around (map (λ (x : Part). x.0) xs)) (all_plain (map is_plain (map (λ (x : Part). x.0) xs)))
  list_plain [] loop st end is = refl
  list_plain (x ∷ xs) loop st end is =
      let k = next_is (checked_list around (map (λ (y : Part). y.0) xs) loop) (checked around x.0 loop st) end is in
      and_true (is_plain x.0) (all_plain (map is_plain (map (λ (y : Part). y.0) xs))) (x.1 loop st k.0 k.1) (list_plain xs loop k.0 end k.2)

  layer_plain : (y : Statement-F Part) → IsPlain (checked_step around (checks (bare y))) (plain_step (plains (bare y)))
  layer_plain (s.Gather g) loop st end is = absurd (no_gather g (checking.signature_of around g.field g.method) st end is)
  layer_plain (s.Marked mark body) loop st end is =
      absurd (not_entry around.kind other (both_true (is_entry around.kind) _ (if_then _ (checked around body.0 loop (in_block mark.field st)) end is).0).0)
  layer_plain (s.Opened body) loop st end is = let k = opened_is st (checked around body.0 loop (outside st)) end is in body.1 loop (outside st) k.0 k.1
  layer_plain (s.Block items) loop st end is = let k = compound_is st (checked_list around (map (λ (x : Part). x.0) items) loop st) end is in list_plain items loop st k.0 k.1
  layer_plain (s.If test first None) loop st end is =
      let l = met_is st (checked around first.0 loop st) (Some st) end (if_then (takes around st test type.Boolean) (met st (checked around first.0 loop st) (Some st)) end is).1 in
      and_true (is_plain first.0) true (first.1 loop st l.0 l.2) refl
  layer_plain (s.If test first (Some second)) loop st end is =
      let l = met_is st (checked around first.0 loop st) (checked around second.0 loop st) end (if_then (takes around st test type.Boolean) (met st (checked around first.0 loop st) (checked around second.0 loop st)) end is).1 in
      and_true (is_plain first.0) (is_plain second.0) (first.1 loop st l.0 l.2) (second.1 loop st l.1 l.3)
  layer_plain (s.Loop start test update body) loop st end is =
      let ss = map (λ (x : Part). x.0) start in
      let us = map (λ (x : Part). x.0) update in
      let n = next_is (checking.passing around st test (map (checked around) us) (checked around body.0)) (checked_list around ss None st) end is in
      let q = passing_is around st n.0 end test (checked_list around us) (checked around body.0) n.2 in
      and_true (all_plain (map is_plain ss)) (is_plain body.0 && all_plain (map is_plain us)) (list_plain start None st n.0 n.1)
      (and_true (is_plain body.0) (all_plain (map is_plain us)) (body.1 (Some n.0) n.0 q.0.0 q.0.1) (list_plain update None n.0 q.1.0 q.1.1))
  layer_plain _ loop st end is = refl

  made_plain : (x : Statement-F Statement) (y : Statement-F Part) → bare y ≡ x → IsPlain (checked around (roll-Statement x)) (is_plain (roll-Statement x))
  made_plain x y is =
      let b = fold-roll-Statement Bool plain_step x in
      let c = fold-roll-Statement Checking (checked_step around) x in
      let P : Statement-F Statement → Type 0 = λ x. IsPlain (checked_step around (checks x)) (plain_step (plains x)) in
      let whole : IsPlain (checked around (roll-Statement x)) (is_plain (roll-Statement x)) ≡ P x = λ i. IsPlain (c i) (b i) in
      transport (sym whole) (subst P is (layer_plain y))

  statement_plain : (x : Statement) → IsPlain (checked around x) (is_plain x)
  statement_plain = ind-Statement (λ x. IsPlain (checked around x) (is_plain x)) made_plain

  pub body_plain : (xs : List Statement) → IsPlain (checked_list around xs) (all_plain (map is_plain xs))
  body_plain [] loop st end is = refl
  body_plain (x ∷ xs) loop st end is =
      let k = next_is (checked_list around xs loop) (checked around x loop st) end is in
      and_true (is_plain x) (all_plain (map is_plain xs)) (statement_plain x loop st k.0 k.1) (body_plain xs loop k.0 end k.2)
