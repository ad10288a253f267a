-- A statement without an access does on other fields what it does on these.
use Rattle.std.proofs.Common.{◌≡◌, ℕ, zero, suc, Bool, true, false, ◌&&◌, if◌then◌else◌, List, [], ◌∷◌, map, Option, Some, None, refl, sym, ap, subst, ◌∙◌}
use Rattle.std.proofs.lemmas.Bool.{false≢true}
use Rattle.sdg_base.specs.declared.val.Val.{Val}
use Rattle.sdg_base.specs.declared.val.Val.TheVariants as val
use Rattle.access_blocks.specs.declared.body.Expression.{Expression}
use Rattle.access_blocks.specs.declared.body.Statement.{Statement, roll-Statement}
use Rattle.access_blocks.specs.declared.body.Statement.TheOpen.{Statement-F}
use Rattle.access_blocks.specs.declared.body.Statement.TheOpen as s
use Rattle.access_blocks.specs.declared.body.Statement.TheFolds.{fold-roll-Statement, ind-Statement, map-Statement}
use Rattle.access_blocks.specs.Expressions.{Calls, Ended, Gives, Ends, is_true, value_of, values_of}
use Rattle.access_blocks.specs.Statements.{Field, Machine, Completion, Normal, Breaks, Continues, Returns, Halts, Completed, completed, normal, Running, seen_by, with_variable, with_value, evaluated, spending, spent, element_set, with_element, variable_in, marked, going_on, after, in_order, tested, looping, after_body, passes, looped, returned, statement_step, meaning, meanings}
use Rattle.marked_bodies.proofs.Facts.{both_true}
use Rattle.quiet_runs.specs.Quiet.{Quieted, bare_in, quieting, quieted, are_bare, on_fields, left_on}

-- It does on other fields what it does on these, and leaves them.
abbrev pub Commutes : Running → Type 0
Commutes run = (m : Machine) (fields : List Field) → run (on_fields fields m) ≡ left_on fields (run m)

-- ---- what comes of something evaluated

valued : {A : Type 0} (e : Ended A) (f : A → Running) → ((a : A) → Commutes (f a)) → Commutes (λ m. with_value e m f)
valued (Gives a turns) f each m fields = each a (record m { turns = turns }) fields
valued (Ends h) f each m fields = refl

spending_commutes : (turns : ℕ) (f : Running) → Commutes f → Commutes (λ m. spending turns m f)
spending_commutes zero f each m fields = refl
spending_commutes (suc left) f each m fields = each (record m { turns = left }) fields

spent_commutes : (f : Running) → Commutes f → Commutes (λ m. spent m f)
spent_commutes f each m fields = spending_commutes m.turns f each m fields

-- ---- control

going_on_commutes : (c : Completion) (f : Running) → Commutes f → Commutes (λ m. going_on c m f)
going_on_commutes Normal f each = each
going_on_commutes Breaks f each = λ m fields. refl
going_on_commutes Continues f each = λ m fields. refl
going_on_commutes (Returns v) f each = λ m fields. refl
going_on_commutes (Halts h) f each = λ m fields. refl

pub after_commutes : (first second : Running) → Commutes first → Commutes second → Commutes (λ m. after (first m) second)
after_commutes first second hf hs m fields = ap (λ (c : Completed). after c second) (hf m fields) ∙ going_on_commutes (first m).completion second hs (first m).machine fields

looping_commutes : (c : Completion) (f : Running) → Commutes f → Commutes (λ m. looping c m f)
looping_commutes Normal f each = each
looping_commutes Continues f each = each
looping_commutes Breaks f each = λ m fields. refl
looping_commutes (Returns v) f each = λ m fields. refl
looping_commutes (Halts h) f each = λ m fields. refl

after_body_commutes : (body rest : Running) → Commutes body → Commutes rest → Commutes (λ m. after_body (body m) rest)
after_body_commutes body rest hb hr m fields = ap (λ (c : Completed). after_body c rest) (hb m fields) ∙ looping_commutes (body m).completion rest hr (body m).machine fields

choose : (b : Bool) (f g : Running) → Commutes f → Commutes g → Commutes (λ m. if b then f m else g m)
choose true f g hf hg = hf
choose false f g hf hg = hg

element_set_commutes : (v : ℕ) (o : Option Val) → Commutes (element_set v o)
element_set_commutes v None m fields = refl
element_set_commutes v (Some vector) m fields = refl

module _ (calls : Calls) where
  evaluated_commutes : (x : Expression) (f : Val → Running) → ((v : Val) → Commutes (f v)) → Commutes (λ m. evaluated calls x m f)
  evaluated_commutes x f each m fields = valued (value_of calls x (seen_by m) m.turns) f each m fields

  all_evaluated_commute : (xs : List Expression) (f : List Val → Running) → ((vs : List Val) → Commutes (f vs)) → Commutes (λ m. with_value (values_of calls xs (seen_by m) m.turns) m f)
  all_evaluated_commute xs f each m fields = valued (values_of calls xs (seen_by m) m.turns) f each m fields

  marked_commutes : (key : Option Expression) (f : Running) → Commutes f → Commutes (λ m. marked calls key m f)
  marked_commutes None f each = spent_commutes f each
  marked_commutes (Some key) f each =
      evaluated_commutes key (λ k n. spent n (λ left. f (record left { key = k }))) (λ k. spent_commutes (λ left. f (record left { key = k })) (λ m fields. each (record m { key = k }) fields))

  tested_commutes : (test : Option Expression) (f : Val → Running) → ((v : Val) → Commutes (f v)) → Commutes (λ m. tested calls test m f)
  tested_commutes None f each = each (val.Bool true)
  tested_commutes (Some x) f each = evaluated_commutes x f each

  passes_commute : (test : Option Expression) (update body : Running) (most : ℕ) → Commutes update → Commutes body → Commutes (passes calls test update body most)
  passes_commute test update body zero hu hb = λ m fields. refl
  passes_commute test update body (suc most) hu hb =
      let rest : Running = passes calls test update body most in
      let rest_commutes : Commutes rest = passes_commute test update body most hu hb in
      let further : Running = λ o. after (update o) rest in
      let pass : Running = λ left. after_body (body left) further in
      tested_commutes test (λ holds n. if is_true holds then spent n pass else normal n) (λ holds.
      choose (is_true holds) (λ n. spent n pass) normal (spent_commutes pass (after_body_commutes body further hb (after_commutes update rest hu rest_commutes))) (λ m fields. refl))

  returned_commutes : (x : Option Expression) → Commutes (returned calls x)
  returned_commutes None = λ m fields. refl
  returned_commutes (Some x) = evaluated_commutes x (λ v n. completed (Returns v) n) (λ v m fields. refl)

  -- ---- statements

  abbrev Part : Type 0
  Part = (x : Statement) × ((quieted x).bare ≡ true → Commutes (meaning calls x))

  abbrev bare : Statement-F Part → Statement-F Statement
  bare = map-Statement Part Statement (λ p. p.0)

  abbrev bares : List Part → List Statement
  bares ps = map (λ (p : Part). p.0) ps

  abbrev meant : Statement-F Statement → Statement-F Running
  meant = map-Statement Statement Running (meaning calls)

  abbrev quiets : Statement-F Statement → Statement-F Quieted
  quiets = map-Statement Statement Quieted quieted

  abbrev all : List Part → Running
  all ps = in_order (map (meaning calls) (bares ps))

  in_order_commutes : (ps : List Part) → are_bare (bares ps) ≡ true → Commutes (all ps)
  in_order_commutes [] h = λ m fields. refl
  in_order_commutes (p ∷ ps) h =
      let both = both_true (quieted p.0).bare (are_bare (bares ps)) h in after_commutes (meaning calls p.0) (all ps) (p.1 both.0) (in_order_commutes ps both.1)

  layer_commutes : (y : Statement-F Part) → bare_in (quiets (bare y)) ≡ true → Commutes (statement_step calls (meant (bare y)))
  layer_commutes (s.Assign v x) h = evaluated_commutes x (λ value n. normal (with_variable v value n)) (λ value m fields. refl)
  layer_commutes (s.SetElement v at x) h =
      evaluated_commutes at (λ i n. evaluated calls x n (λ value o. element_set v (with_element (variable_in o v) i value) o)) (λ i.
      evaluated_commutes x (λ value o. element_set v (with_element (variable_in o v) i value) o) (λ value m fields. element_set_commutes v (with_element (variable_in m v) i value) m fields))
  layer_commutes (s.Evaluate x) h = evaluated_commutes x (λ value n. normal n) (λ value m fields. refl)
  layer_commutes (s.Access a) h = absurd (false≢true h)
  layer_commutes (s.Gather g) h =
      all_evaluated_commute g.args (λ vs n. spent n (λ left. normal (record left { key = val.Unit; gathered = [] })))
      (λ vs. spent_commutes (λ left. normal (record left { key = val.Unit; gathered = [] })) (λ m fields. refl))
  layer_commutes (s.Marked mark body) h = marked_commutes mark.key (meaning calls body.0) (body.1 h)
  layer_commutes (s.Opened body) h = body.1 h
  layer_commutes (s.Block items) h = in_order_commutes items h
  layer_commutes (s.If test first None) h =
      let both = both_true (quieted first.0).bare true h in
      evaluated_commutes test (λ holds n. if is_true holds then meaning calls first.0 n else normal n)
      (λ holds. choose (is_true holds) (meaning calls first.0) normal (first.1 both.0) (λ m fields. refl))
  layer_commutes (s.If test first (Some second)) h =
      let both = both_true (quieted first.0).bare (quieted second.0).bare h in
      evaluated_commutes test (λ holds n. if is_true holds then meaning calls first.0 n else meaning calls second.0 n)
      (λ holds. choose (is_true holds) (meaning calls first.0) (meaning calls second.0) (first.1 both.0) (second.1 both.1))
  layer_commutes (s.Loop start test update body) h =
      let both = both_true (are_bare (bares start)) (are_bare (bares update) && (quieted body.0).bare) h in
      let rest = both_true (are_bare (bares update)) (quieted body.0).bare both.1 in
      after_commutes (all start) (looped calls test (all update) (meaning calls body.0)) (in_order_commutes start both.0)
      (λ m fields. passes_commute test (all update) (meaning calls body.0) (suc m.turns) (in_order_commutes update rest.0) (body.1 rest.1) m fields)
  layer_commutes s.Break h = λ m fields. refl
  layer_commutes s.Continue h = λ m fields. refl
  layer_commutes (s.Return x) h = returned_commutes x

  abbrev Says : Statement → Type 0
  Says x = (quieted x).bare ≡ true → Commutes (meaning calls x)

  made : (x : Statement-F Statement) (y : Statement-F Part) → bare y ≡ x → Says (roll-Statement x)
  made x y is h =
      let P : Statement-F Statement → Type 0 = λ z. bare_in (quiets z) ≡ true → Commutes (statement_step calls (meant z)) in
      let all_of : P x = subst P is (layer_commutes y) in
      let bare_there : bare_in (quiets x) ≡ true = sym (ap (λ (q : Quieted). q.bare) (fold-roll-Statement Quieted quieting x)) ∙ h in
      subst Commutes (sym (fold-roll-Statement Running (statement_step calls) x)) (all_of bare_there)

  pub says : (x : Statement) → Says x
  says = ind-Statement Says made

  pub meanings_commute : (xs : List Statement) → are_bare xs ≡ true → Commutes (meanings calls xs)
  meanings_commute [] h = λ m fields. refl
  meanings_commute (x ∷ xs) h =
      let both = both_true (quieted x).bare (are_bare xs) h in after_commutes (meaning calls x) (meanings calls xs) (says x both.0) (meanings_commute xs both.1)

pub meaning_commutes : (calls : Calls) (st : Statement) → (quieted st).bare ≡ true → (m : Machine) (fields : List Field) → meaning calls st (on_fields fields m) ≡ left_on fields (meaning calls st m)
meaning_commutes calls st h = says calls st h
