-- What is behind a simple statement that gathers nothing: no block, and nothing gathered.
use Rattle.std.proofs.Common.{◌≡◌, Bool, true, false, List, [], ◌∷◌, Option, Some, None, if◌then◌else◌, refl, sym, ap, subst, ◌∙◌}
use Rattle.sdg_base.specs.declared.value_type.ValueType.{ValueType}
use Rattle.sdg_base.specs.Signatures.{Signature}
use Rattle.access_blocks.specs.declared.body.Access.{Access}
use Rattle.access_blocks.specs.declared.body.Statement.{Statement, roll-Statement}
use Rattle.access_blocks.specs.declared.body.Statement.TheOpen.{Statement-F}
use Rattle.access_blocks.specs.declared.body.Statement.TheOpen as s
use Rattle.access_blocks.specs.declared.body.Statement.TheFolds.{fold-roll-Statement, map-Statement}
use Rattle.access_blocks.specs.declared.body.Target.{Target}
use Rattle.access_blocks.specs.declared.body.Target.TheVariants as target
use Rattle.body_code.specs.Typing.{variable_type}
use Rattle.body_code.specs.Checking.{Surroundings, Standing, Checking, Around as Exits, outside, with_known, if_so, is_type, is_result, targeted, next, signature_of}
use Rattle.marked_bodies.specs.Unmarked.{and_outside, is_unmarked_access, unmarked_access, unmarked, unmarked_step, unmarked_list}
use Rattle.typed_statements.proofs.Looping.{IsBare}

abbrev pub gathers_none : {C : Type 0} → Statement-F C → Bool
gathers_none (s.Assign v x) = true
gathers_none (s.SetElement v at x) = true
gathers_none (s.Evaluate x) = true
gathers_none (s.Access a) = true
gathers_none (s.Return x) = true
gathers_none _ = false

-- of a statement that is made of a layer
pub record GathersNone (x : Statement) : Type 0 where
  pub layer : Statement-F Statement
  pub is : roll-Statement layer ≡ x
  pub none : gathers_none layer ≡ true

pub data AllGatherNone : List Statement → Type 0 where
  NoMore : AllGatherNone []
  OneMore : (x : Statement) (xs : List Statement) → GathersNone x → AllGatherNone xs → AllGatherNone (x ∷ xs)

some_same : {A : Type 0} {x y : A} → Some x ≡ Some y → x ≡ y
some_same e = cc

is_bare : (st after : Standing) → IsBare st → Some st ≡ Some after → IsBare after
is_bare st after b e = subst IsBare (some_same e) b

outside_bare : (st : Standing) → IsBare (outside st)
outside_bare st = record { no_field = refl; no_gathered = refl }

if_so_bare : (b : Bool) (st after : Standing) → IsBare st → if_so b st ≡ Some after → IsBare after
if_so_bare true st after bare e = is_bare st after bare e
if_so_bare false st after bare e = absurd (cc)

and_outside_bare : (o : Option Standing) (after : Standing) → and_outside o ≡ Some after → IsBare after
and_outside_bare None after e = absurd (cc)
and_outside_bare (Some st) after e = is_bare (outside st) after (outside_bare st) e

when_bare : (b : Bool) (o : Option Standing) (after : Standing) → (o ≡ Some after → IsBare after) → (if b then o else None) ≡ Some after → IsBare after
when_bare true o after h e = h e
when_bare false o after h e = absurd (cc)

-- ---- accesses

targeted_bare : (around : Surroundings) (to : Target) (t : ValueType) (st after : Standing) → IsBare st → targeted around to t st ≡ Some after → IsBare after
targeted_bare around target.Dropped t st after b e = is_bare st after b e
targeted_bare around (target.Variable v) t st after b e = if_so_bare (is_type (variable_type around.context v) t) (with_known v st) after (record { no_field = b.no_field; no_gathered = b.no_gathered }) e
targeted_bare around target.Returned t st after b e = if_so_bare (is_result around t) st after b e

access_bare : (around : Surroundings) (a : Access) (sig : Option Signature) (st after : Standing) → IsBare st → unmarked_access around a sig st ≡ Some after → IsBare after
access_bare around a None st after b e = absurd (cc)
access_bare around a (Some sig) st after b e =
    when_bare (is_unmarked_access around a sig st) (targeted around a.target sig.result st) after (λ q. targeted_bare around a.target sig.result st after b q) e

-- ---- statements

layer_bare : (around : Surroundings) (y : Statement-F Statement) → gathers_none y ≡ true → (exits : Exits) (st after : Standing)
    → unmarked_step around (map-Statement Statement Checking (unmarked around) y) exits st ≡ Some after → IsBare after
layer_bare around (s.Assign v x) none exits st after e = and_outside_bare _ after e
layer_bare around (s.SetElement v at x) none exits st after e = and_outside_bare _ after e
layer_bare around (s.Evaluate x) none exits st after e = and_outside_bare _ after e
layer_bare around (s.Access a) none exits st after e = access_bare around a (signature_of around a.field a.method) (outside st) after (outside_bare st) e
layer_bare around (s.Gather g) none exits st after e = absurd (cc)
layer_bare around (s.Marked mark body) none exits st after e = absurd (cc)
layer_bare around (s.Opened body) none exits st after e = absurd (cc)
layer_bare around (s.Block items) none exits st after e = absurd (cc)
layer_bare around (s.If test first second) none exits st after e = absurd (cc)
layer_bare around (s.Loop start test update body) none exits st after e = absurd (cc)
layer_bare around s.Break none exits st after e = absurd (cc)
layer_bare around s.Continue none exits st after e = absurd (cc)
layer_bare around (s.Return x) none exits st after e = and_outside_bare _ after e

pub statement_bare : (around : Surroundings) (x : Statement) → GathersNone x → (exits : Exits) (st after : Standing) → unmarked around x exits st ≡ Some after → IsBare after
statement_bare around x g exits st after e =
    let is : unmarked around x ≡ unmarked_step around (map-Statement Statement Checking (unmarked around) g.layer) =
    ap (unmarked around) (sym g.is) ∙ fold-roll-Statement Checking (unmarked_step around) g.layer in
    layer_bare around g.layer g.none exits st after (sym (ap (λ (c : Checking). c exits st) is) ∙ e)

-- ---- lists

behind_first : (around : Surroundings) (x : Statement) (xs : List Statement) → GathersNone x → (exits : Exits) (st after : Standing)
    → ((mid : Standing) → IsBare mid → unmarked_list around xs exits mid ≡ Some after → IsBare after) → (o : Option Standing) → unmarked around x exits st ≡ o
    → next (unmarked_list around xs exits) o ≡ Some after → IsBare after
behind_first around x xs one exits st after h None is e = absurd (cc)
behind_first around x xs one exits st after h (Some mid) is e = h mid (statement_bare around x one exits st mid is) e

pub list_bare : (around : Surroundings) (xs : List Statement) → AllGatherNone xs → (exits : Exits) (st after : Standing) → IsBare st → unmarked_list around xs exits st ≡ Some after → IsBare after
list_bare around [] g exits st after b e = is_bare st after b e
list_bare around (x ∷ xs) (OneMore _ _ one more) exits st after b e =
    behind_first around x xs one exits st after (λ mid bare q. list_bare around xs more exits mid after bare q) (unmarked around x exits st) refl e
