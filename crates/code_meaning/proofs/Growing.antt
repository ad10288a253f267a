-- A variable that has a value before a typed statement has one after it.
use Rattle.std.proofs.Common.{◌≡◌, refl, sym, ap, subst, ◌∙◌, ℕ, Bool, true, false, cond, ◌||◌, nat_eq, List, [], ◌∷◌, map, Option, Some, None}
use Rattle.sdg_base.specs.declared.value_type.ValueType.{ValueType}
use Rattle.sdg_base.specs.Signatures.{Signature}
use Rattle.access_blocks.specs.declared.body.Access.{Access}
use Rattle.access_blocks.specs.declared.body.Expression.{Expression}
use Rattle.access_blocks.specs.declared.body.Gather.{Gather}
use Rattle.access_blocks.specs.declared.body.Target.{Target}
use Rattle.access_blocks.specs.declared.body.Target.TheVariants as target
use Rattle.access_blocks.specs.declared.body.Statement.{Statement, roll-Statement}
use Rattle.access_blocks.specs.declared.body.Statement.TheOpen.{Statement-F}
use Rattle.access_blocks.specs.declared.body.Statement.TheOpen as s
use Rattle.access_blocks.specs.declared.body.Statement.TheFolds.{fold-roll-Statement, ind-Statement, map-Statement}
use Rattle.body_code.specs.Early.{is_in}
use Rattle.body_code.specs.Typing.{needs, type_of, variable_type}
use Rattle.body_code.specs.Checking.{Surroundings, Standing, Around, Checking, if_so, with_known, outside, in_block, gathering, after_compound, meet, are_met, is_type, to_variable, assigned, targeted, signature_of, is_access, access, gather, next, in_order, opened, compound, met, otherwise, branching, takes, passing, looping, jumping, returning, checked_step, checked, checked_list}
use Rattle.code_meaning.proofs.Lists.{none_some, some_is}

-- what is known first is known then
abbrev pub Grows : Standing → Standing → Type 0
Grows a b = (v : ℕ) → is_in v a.known ≡ true → is_in v b.known ≡ true

abbrev pub GrowsTo : Standing → Option Standing → Type 0
GrowsTo a o = (b : Standing) → o ≡ Some b → Grows a b

abbrev pub AllGrow : Checking → Type 0
AllGrow check = (loop : Around) (st : Standing) → GrowsTo st (check loop st)

same_grow : (a b : Standing) → a.known ≡ b.known → Grows a b
same_grow a b e v h = ap (is_in v) (sym e) ∙ h

same_to : (a b : Standing) → a.known ≡ b.known → GrowsTo a (Some b)
same_to a b e c is = same_grow a c (e ∙ ap (λ (z : Standing). z.known) (some_is b c is))

pub none_to : (a : Standing) → GrowsTo a None
none_to a b is = absurd (none_some b is)

more_known : (v : ℕ) (st : Standing) → Grows st (with_known v st)
more_known v st w h = by (nat_eq w v)
  where
    by : (b : Bool) → (b || is_in w st.known) ≡ true
    by true = refl
    by false = h

pub if_so_is : (b : Bool) (st end : Standing) → if_so b st ≡ Some end → (b ≡ true) × (st ≡ end)
if_so_is true st end is = (refl, some_is st end is)
if_so_is false st end is = absurd (none_some end is)

pub if_then : {A : Type 0} (b : Bool) (o : Option A) (x : A) → cond b o None ≡ Some x → (b ≡ true) × (o ≡ Some x)
if_then true o x is = (refl, is)
if_then false o x is = absurd (none_some x is)

grows_if : (b : Bool) (a st : Standing) → Grows a st → GrowsTo a (if_so b st)
grows_if b a st h c is = let k = (if_so_is b st c is).1 in subst (Grows a) k h

to_variable_grows : (around : Surroundings) (v : ℕ) (t : ValueType) (st : Standing) → GrowsTo st (to_variable around v t st)
to_variable_grows around v t st = grows_if (is_type (variable_type around.context v) t) st (with_known v st) (more_known v st)

assigned_grows : (around : Surroundings) (v : ℕ) (o : Option ValueType) (b : Bool) (st : Standing) → GrowsTo st (assigned around v o b st)
assigned_grows around v None b st = none_to st
assigned_grows around v (Some t) true st = to_variable_grows around v t st
assigned_grows around v (Some t) false st = none_to st

targeted_grows : (around : Surroundings) (to : Target) (t : ValueType) (st : Standing) → GrowsTo st (targeted around to t st)
targeted_grows around target.Dropped t st = same_to st st refl
targeted_grows around (target.Variable v) t st = to_variable_grows around v t st
targeted_grows around target.Returned t st = grows_if _ st st (λ v h. h)

access_grows : (around : Surroundings) (a : Access) (o : Option Signature) (st : Standing) → GrowsTo st (access around a o st)
access_grows around a None st b is = none_to st b is
access_grows around a (Some sig) st b is = targeted_grows around a.target sig.result st b (if_then (is_access around a sig st) (targeted around a.target sig.result st) b is).1

gather_grows : (around : Surroundings) (g : Gather) (o : Option Signature) (st : Standing) → GrowsTo st (gather around g o st)
gather_grows around g None st = none_to st
gather_grows around g (Some sig) st = grows_if _ st (gathering sig.result st) (λ v h. h)

pub next_is : (f : Standing → Option Standing) (o : Option Standing) (b : Standing) → next f o ≡ Some b → (a : Standing) × (o ≡ Some a) × (f a ≡ Some b)
next_is f None b is = absurd (none_some b is)
next_is f (Some a) b is = (a, refl, is)

pub next_grows : (f : Standing → Option Standing) (a : Standing) (o : Option Standing) → GrowsTo a o → ((c : Standing) → GrowsTo c (f c)) → GrowsTo a (next f o)
next_grows f a o h each b is = let k = next_is f o b is in λ v known. each k.0 b k.2 v (h k.0 k.1 v known)

opened_grows : (st : Standing) (o : Option Standing) → GrowsTo st o → GrowsTo st (opened st o)
opened_grows st None h b is = none_to st b is
opened_grows st (Some end) h b is = same_to st (outside st) refl b is

compound_grows : (st : Standing) (o : Option Standing) → GrowsTo st (compound st o)
compound_grows st None = none_to st
compound_grows st (Some end) = same_to st (after_compound st end) refl

met_grows : (st : Standing) (a b : Option Standing) → GrowsTo st (met st a b)
met_grows st (Some a) (Some b) = same_to st (meet st a b) refl
met_grows st (Some a) None = none_to st
met_grows st None b = none_to st

branching_grows : (around : Surroundings) (test : Expression) (first : Checking) (second : Option Checking) → AllGrow (branching around test first second)
branching_grows around test first second loop st b is = met_grows st (first loop st) (otherwise second loop st) b (if_then (takes around st test _) (met st (first loop st) (otherwise second loop st)) b is).1

looping_grows : (around : Surroundings) (start : List Checking) (test : Option Expression) (update : List Checking) (body : Checking) → AllGrow (looping around start test update body)
looping_grows around start test update body loop st b is =
    let k = next_is (passing around st test update body) (in_order start None st) b is in
    let l = (if_so_is _ (after_compound st k.0) b k.2).1 in
    subst (Grows st) l (λ v h. h)

jumping_grows : (loop : Around) (st : Standing) → GrowsTo st (jumping loop st)
jumping_grows None st = none_to st
jumping_grows (Some need) st = grows_if _ st st (λ v h. h)

returning_grows : (around : Surroundings) (x : Option Expression) (st : Standing) → GrowsTo st (returning around x st)
returning_grows around None st = grows_if _ st st (λ v h. h)
returning_grows around (Some x) st = grows_if _ st st (λ v h. h)

module _ (around : Surroundings) where
  abbrev Part : Type 0
  Part = (x : Statement) × AllGrow (checked around x)

  abbrev bare : Statement-F Part → Statement-F Statement
  bare = map-Statement Part Statement (λ x. x.0)

  abbrev checks : Statement-F Statement → Statement-F Checking
  checks = map-Statement Statement Checking (checked around)

  list_grows : (xs : List Part) → AllGrow (in_order (map (checked around) (map (λ x. x.0) xs)))
  list_grows [] loop st = same_to st st refl
  list_grows (x ∷ xs) loop st = next_grows (in_order (map (checked around) (map (λ (y : Part). y.0) xs)) loop) st (checked around x.0 loop st) (x.1 loop st) (list_grows xs loop)

  layer_grows : (y : Statement-F Part) → AllGrow (checked_step around (checks (bare y)))
  layer_grows (s.Assign v x) loop st = assigned_grows around v (type_of around.context x) (are_met around st (needs x)) st
  layer_grows (s.SetElement v at x) loop st = grows_if _ st st (λ v h. h)
  layer_grows (s.Evaluate x) loop st = grows_if _ st st (λ v h. h)
  layer_grows (s.Access a) loop st = access_grows around a (signature_of around a.field a.method) st
  layer_grows (s.Gather g) loop st = gather_grows around g (signature_of around g.field g.method) st
  layer_grows (s.Marked mark body) loop st = λ b is. body.1 loop (in_block mark.field st) b (if_then _ (checked around body.0 loop (in_block mark.field st)) b is).1
  layer_grows (s.Opened body) loop st = opened_grows st (checked around body.0 loop (outside st)) (body.1 loop (outside st))
  layer_grows (s.Block items) loop st = compound_grows st (in_order (map (checked around) (map (λ (y : Part). y.0) items)) loop st)
  layer_grows (s.If test first None) loop st = branching_grows around test (checked around first.0) None loop st
  layer_grows (s.If test first (Some second)) loop st = branching_grows around test (checked around first.0) (Some (checked around second.0)) loop st
  layer_grows (s.Loop start test update body) loop st =
      looping_grows around (map (checked around) (map (λ (y : Part). y.0) start)) test (map (checked around) (map (λ (y : Part). y.0) update)) (checked around body.0) loop st
  layer_grows s.Break loop st = jumping_grows loop st
  layer_grows s.Continue loop st = jumping_grows loop st
  layer_grows (s.Return x) loop st = returning_grows around x st

  made_grows : (x : Statement-F Statement) (y : Statement-F Part) → bare y ≡ x → AllGrow (checked around (roll-Statement x))
  made_grows x y is =
      let P : Statement-F Statement → Type 0 = λ x. AllGrow (checked_step around (checks x)) in
      subst AllGrow (sym (fold-roll-Statement Checking (checked_step around) x)) (subst P is (layer_grows y))

  pub checked_grows : (x : Statement) → AllGrow (checked around x)
  checked_grows = ind-Statement (λ x. AllGrow (checked around x)) made_grows

  pub list_checked_grows : (xs : List Statement) → AllGrow (checked_list around xs)
  list_checked_grows [] loop st = same_to st st refl
  list_checked_grows (x ∷ xs) loop st = next_grows (checked_list around xs loop) st (checked around x loop st) (checked_grows x loop st) (list_checked_grows xs loop)
