-- The parts of calls that wait, and a map of them that is written at one call.
use Rattle.std.proofs.Common.{◌≡◌, ◌≢◌, ℕ, Bool, true, false, cond, List, [], ◌∷◌, Option, Some, None, unwrap_or, BTreeMap, nat_cmp, is_eq, refl, ap, arith}
use Rattle.std.specs.Prelude.{nat_lt}
use Rattle.std.specs.Map.{lookup}
use Rattle.std.specs.BTreeMap.{is_at, UpdatesBy}
use Rattle.std.proofs.lemmas.Bool.Decides.{nat_tests}
use Rattle.sdg_base.specs.declared.item.Item.{Item}
use Rattle.flat_code.specs.Items.{instance_of, with_part}
use Rattle.graph_cells.specs.Gathered.{Waiting, AllHaveParts, if_any, parts_of}

pub found_parts : (waiting : Waiting) (call : ℕ) (parts : List Item) → lookup (is_at (nat_cmp call)) waiting ≡ Some parts → parts_of waiting call ≡ parts
unfolding parts_of
found_parts waiting call parts e = ap (λ (o : Option (List Item)). unwrap_or o []) e

pub no_parts : (waiting : Waiting) (call : ℕ) → lookup (is_at (nat_cmp call)) waiting ≡ None → parts_of waiting call ≡ []
unfolding parts_of
no_parts waiting call e = ap (λ (o : Option (List Item)). unwrap_or o []) e

pub none_waiting : (call : ℕ) → parts_of [] call ≡ []
unfolding parts_of
none_waiting call = refl

-- ---- none, or some

pub any_found : (o : Option (List Item)) → o ≢ Some [] → o ≡ if_any (unwrap_or o [])
any_found None some = refl
any_found (Some []) some = absurd (some refl)
any_found (Some (part ∷ parts)) some = refl

pub parts_found : (waiting : Waiting) (call : ℕ) → AllHaveParts waiting → lookup (is_at (nat_cmp call)) waiting ≡ if_any (parts_of waiting call)
unfolding parts_of
parts_found waiting call all = any_found (lookup (is_at (nat_cmp call)) waiting) (all call)

pub some_are : (parts found : List Item) → if_any parts ≡ Some found → parts ≡ found
some_are [] found e = cc
some_are (part ∷ parts) found e = cc

pub none_are : (parts : List Item) → if_any parts ≡ None → parts ≡ []
none_are [] e = refl
none_are (part ∷ parts) e = cc

pub with_part_some : (part : Item) (parts : List Item) → with_part part parts ≢ []
with_part_some part [] e = cc
with_part_some part (other ∷ parts) e = by (nat_lt (instance_of part) (instance_of other)) e
  where
    by : (b : Bool) → cond b (part ∷ other ∷ parts) (other ∷ with_part part parts) ≢ []
    by true e = cc
    by false e = cc

-- ---- a map that is written at one call

apart : (call other : ℕ) → other ≢ call → is_eq (nat_cmp call other) ≡ false
apart call other differs = grind (arith, nat_tests)

module _ (call : ℕ) (m n : BTreeMap ℕ (List Item)) (w : Option (List Item)) (h : UpdatesBy nat_cmp (nat_cmp call) m n w) where
  pub written_parts : parts_of n.entries call ≡ unwrap_or w []
  unfolding parts_of
  written_parts = ap (λ (o : Option (List Item)). unwrap_or o []) h.1

  pub other_parts : (other : ℕ) → other ≢ call → parts_of n.entries other ≡ parts_of m.entries other
  unfolding parts_of
  other_parts other differs = ap (λ (o : Option (List Item)). unwrap_or o []) (h.2 other (apart call other differs))
