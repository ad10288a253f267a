-- What the tasks of a typed class carry, and where they begin.
use Rattle.std.proofs.Common.{◌≡◌, ◌≢◌, refl, sym, ap, subst, ◌∙◌, ℕ, zero, suc, ◌+◌, ◌-◌, ◌<◌, ◌≤◌, arith, Bool, true, false, List, [], ◌∷◌, length, drop, Option, Some, None, slice_get, ◌⊎◌, inl, inr}
use Rattle.std.specs.List.{range_with_len}
use Rattle.state_classes.specs.declared.method.Method.{Method}
use Rattle.java_tree.specs.declared.tree.Class.{Class}
use Rattle.flat_code.specs.declared.graph.Flat.{Flat}
use Rattle.flat_code.specs.declared.graph.Graph.{Graph}
use Rattle.flat_code.specs.declared.graph.GraphField.{GraphField}
use Rattle.flat_code.specs.declared.graph.GraphMethod.{GraphMethod}
use Rattle.flat_code.specs.declared.graph.Instr.{Instr}
use Rattle.flat_code.specs.declared.graph.Instr.TheVariants as instr
use Rattle.flat_code.specs.declared.graph.MethodKind.TheVariants as method_kind
use Rattle.flat_code.specs.declared.graph.Task.{Task}
use Rattle.flat_code.specs.declared.graph.TaskKind.TheVariants as kind
use Rattle.flat_code.specs.Fits.{parameters}
use Rattle.flat_code.specs.Types.{field_named}
use Rattle.flat_code.specs.Ways.{IsIn, IsFirst, IsLater, next_of, needs, writes, variables_of, Reaches, ReachesStart, ReachesNext, IsLive, IsRead, IsReadLater, IsNeeded, NeededHere, NeededLater}
use Rattle.flat_code.specs.Verified.{IsTask, IsMethod, HasCode, HasStart, SpendsBefore, IsOnlyBehind, IsBehindTurn, IsBehindAccess, ReachesCode}
use Rattle.access_blocks.specs.declared.body.Program.{Program}
use Rattle.body_code.specs.ClassCode.{code_of_class, graph_kind}
use Rattle.body_code.specs.Checking.{Standing, IsTyped}
use Rattle.live_vars.specs.Sets.{AreLive, AreLiveSets}
use Rattle.task_cutter.specs.Tasks.{graph_of, first_field, is_visit, cut_kind, kind_by, is_partitioned}
use Rattle.task_cutter.specs.Numbers.{ends, start_number, number_behind, HasEntryCode, AreCutBehind}
use Rattle.verified_code.proofs.Labels.{Behind, Anything, Turning, Accessing, Label, Setting, MayRead, IsKnown, IsCollection, Suits, AtAccess, InBlock, InVisit, AtLoad, Plainly, Visiting, AtCut, ToBlock, ToVisit, Right}
use Rattle.verified_code.proofs.Making.{next_is}
use Rattle.verified_code.proofs.Typed.{none_some, some_is}
use Rattle.verified_code.proofs.Classes.{own, setting}
use Rattle.verified_code.proofs.Bodies.{Labelled, at_first, get_within, below_or}
use Rattle.verified_code.proofs.Bodies as bodies
use Rattle.verified_code.proofs.Clauses.{Lays, lays, first_read}
use Rattle.verified_code.proofs.Cutting.{tasks_are_cut}
use Rattle.verified_code.proofs.Counting.{IsCut, IsPart, ends_at, method_with, entry_count, cut_named, part_named}

-- ---- places behind a turn or an access

module _ (s : Setting) (first : Standing) (code : List Instr) (l : Labelled s first code) where
  pub before_is : (at : ℕ) (b : Behind) → (l.lab at).behind ≡ b → b ≢ Anything → at < length code → (before : ℕ) × (i : Instr) × (at ≡ suc before) × (slice_get code before ≡ Some i) × Suits i b
  before_is zero b e other within = absurd (other (sym e ∙ l.first_is.behind))
  before_is (suc at) b e other within = by (slice_get code at) refl
    where
      by : (o : Option Instr) → slice_get code at ≡ o → (before : ℕ) × (i : Instr) × (suc at ≡ suc before) × (slice_get code before ≡ Some i) × Suits i b
      by (Some i) is = (at, i, refl, is, subst (λ (x : Behind). Suits i x) e (l.right at i is).suits)
      by None is = absurd (let h = there code at (omega (arith, within)) in none_some h.0 (sym is ∙ h.1))
        where
          there : {A : Type 0} (xs : List A) (n : ℕ) → n < length xs → (x : A) × (slice_get xs n ≡ Some x)
          there [] n h = absurd (omega (arith, h))
          there (x ∷ xs) zero h = (x, refl)
          there (x ∷ xs) (suc n) h = there xs n (omega (arith, h))

module _ (s : Setting) (first : Standing) (code : List Instr) (l : Labelled s first code) where
  -- what is live may be read
  pub live_known : (v at : ℕ) → IsLive code v at → MayRead s (l.lab at).standing v
  live_known v at (IsRead a i is h) = (l.right a i is).may_read v h
  live_known v at (IsReadLater a next i is clear goes later) = by (live_known v next later)
    where
      by : MayRead s (l.lab next).standing v → MayRead s (l.lab a).standing v
      by (IsKnown k) = elim ((l.right a i is).knows next goes v k) [ inl known ↦ IsKnown known | inr writing ↦ absurd (clear writing) ]
      by (IsCollection t e z) = IsCollection t e z

turning_turn : (i : Instr) → Suits i Turning → i ≡ instr.Turn
turning_turn i h = h

pub accessing_access : (i : Instr) → Suits i Accessing → (name : List ℕ) × (m : Method) × (i ≡ instr.Access name m)
accessing_access (instr.Access name m) h = (name, m, refl)
accessing_access _ h = absurd h

same_or_above : (v at : ℕ) → at ≤ v → (v ≡ at) ⊎ (at < v)
same_or_above v at least = elim (below_or at v) [ inl less ↦ inr less | inr most ↦ inl (omega (arith, least, most)) ]

range_has : (v at n : ℕ) → at ≤ v → v < at + n → IsIn v (range_with_len at n)
range_has v at zero least less = absurd (omega (arith, least, less))
range_has v at (suc n) least less =
    elim (same_or_above v at least) [
      | inl e ↦ subst (λ (k : ℕ). IsIn v (k ∷ range_with_len (at + 1) n)) e (IsFirst (range_with_len (at + 1) n))
      | inr above ↦ IsLater at (range_with_len (at + 1) n) (range_has v (at + 1) n (omega (arith, above)) (omega (arith, less)))
    ]

no_start_kind : (fields : List GraphField) (name : Option (List ℕ)) (visit : Bool) → cut_kind fields name visit ≢ kind.Start
no_start_kind fields None visit e = by false visit e
  where
    by : (a b : Bool) → kind_by a b ≢ kind.Start
    by true b e = absurd (cc)
    by false true e = absurd (cc)
    by false false e = absurd (cc)
no_start_kind fields (Some name) visit e = by (is_partitioned (field_named name fields)) visit e
  where
    by : (a b : Bool) → kind_by a b ≢ kind.Start
    by true b e = absurd (cc)
    by false true e = absurd (cc)
    by false false e = absurd (cc)

-- ---- the tasks of a class

module _ (class : Class) (program : Program) (live : List (List (List ℕ))) (typed : IsTyped class program) (sets : AreLiveSets (code_of_class class program).methods live) where
  abbrev flat : Flat
  flat = code_of_class class program

  abbrev graph : Graph
  graph = graph_of flat live

  abbrev behinds : AreCutBehind flat graph
  behinds = tasks_are_cut flat live sets

  -- what a task is: the start of a method, or what stands behind a cut or a part
  pub data TaskIs (k : ℕ) (t : Task) : Type 0 where
    Starts : (n : ℕ) (m : GraphMethod) → IsMethod graph n m → k ≡ start_number flat.methods n → t.method ≡ n → t.at ≡ 0 → t.kind ≡ kind.Start → t.vars ≡ parameters m → m.kind ≡ method_kind.Entry → t.field ≡ None → TaskIs k t
    BehindCut : (n at u : ℕ) (m : GraphMethod) → IsMethod graph n m → slice_get m.code at ≡ Some (instr.Cut u) → k ≡ number_behind flat.methods n m at → t.method ≡ n → t.at ≡ suc at → t.kind ≢ kind.Start → AreLive m.code (suc at) t.vars → TaskIs k t
    BehindPart : (n at u : ℕ) (m : GraphMethod) → IsMethod graph n m → slice_get m.code at ≡ Some (instr.Part u) → k ≡ number_behind flat.methods n m at → t.method ≡ n → t.at ≡ suc at → t.kind ≡ kind.Join → AreLive m.code (suc at) t.vars → TaskIs k t

  pub same_task : (k j : ℕ) (t u : Task) → IsTask graph k t → k ≡ j → IsTask graph j u → u ≡ t
  same_task k j t u is e other = some_is u t (sym other ∙ ap (slice_get graph.tasks) (sym e) ∙ is)

  by_cut : (k n at u : ℕ) (m : GraphMethod) (t : Task) → IsTask graph k t → k ≡ number_behind flat.methods n m at → HasEntryCode flat.methods n m at (instr.Cut u) → TaskIs k t
  by_cut k n at u m t is number code =
      let c = behinds.cuts n at u m code in
      let same = same_task k (number_behind flat.methods n m at) t c.of is number c.is_task in
      BehindCut n at u m code.is_method code.is_code number (ap (λ (x : Task). x.method) (sym same) ∙ c.in_method) (ap (λ (x : Task). x.at) (sym same) ∙ c.right_behind)
      (λ e. no_start_kind flat.fields (first_field (drop (suc at) m.code)) (is_visit (drop (suc at) m.code)) (sym c.has_kind ∙ ap (λ (x : Task). x.kind) same ∙ e))
      (subst (λ (x : Task). AreLive m.code (suc at) x.vars) same c.variables)

  by_part : (k n at u : ℕ) (m : GraphMethod) (t : Task) → IsTask graph k t → k ≡ number_behind flat.methods n m at → HasEntryCode flat.methods n m at (instr.Part u) → TaskIs k t
  by_part k n at u m t is number code =
      let c = behinds.parts n at u m code in
      let same = same_task k (number_behind flat.methods n m at) t c.of is number c.is_task in
      BehindPart n at u m code.is_method code.is_code number (ap (λ (x : Task). x.method) (sym same) ∙ c.in_method) (ap (λ (x : Task). x.at) (sym same) ∙ c.right_behind)
      (ap (λ (x : Task). x.kind) (sym same) ∙ c.has_kind) (subst (λ (x : Task). AreLive m.code (suc at) x.vars) same c.variables)

  by_start : (k n : ℕ) (m : GraphMethod) (t : Task) → IsTask graph k t → IsMethod graph n m → m.kind ≡ method_kind.Entry → k ≡ start_number flat.methods n → TaskIs k t
  by_start k n m t is is_m entry number =
      let c = behinds.starts n m is_m entry in
      let same = same_task k (start_number flat.methods n) t c.of is number c.is_task in
      Starts n m is_m number (ap (λ (x : Task). x.method) (sym same) ∙ c.in_method) (ap (λ (x : Task). x.at) (sym same) ∙ c.at_first) (ap (λ (x : Task). x.kind) (sym same) ∙ c.starts) (ap (λ (x : Task). x.vars) (sym same) ∙ c.variables) entry (ap (λ (x : Task). x.field) (sym same) ∙ c.no_field)

  pub task_is : (k : ℕ) (t : Task) → IsTask graph k t → TaskIs k t
  task_is k t is =
      let within = get_within graph.tasks k t is in
      let many = behinds.as_many in
      let w = method_with flat.methods k (omega (arith, within, many)) in
      let entry = entry_count w.m w.m.kind w.j w.few in
      by w.n w.m w.is_method entry.0 w.j entry.1 w.is
    where
      by : (n : ℕ) (m : GraphMethod) → IsMethod graph n m → m.kind ≡ method_kind.Entry → (j : ℕ) → j < suc (ends m.code) → k ≡ start_number flat.methods n + j → TaskIs k t
      by n m is_m entry zero few number = by_start k n m t is is_m entry (omega (arith, number))
      by n m is_m entry (suc e) few number =
          elim (ends_at m.code e (omega (arith, few))) [
            | IsCut at u code same ↦ by_cut k n at u m t is (omega (arith, number, same)) (record { is_method = is_m; is_entry = entry; is_code = code })
            | IsPart at u code same ↦ by_part k n at u m t is (omega (arith, number, same)) (record { is_method = is_m; is_entry = entry; is_code = code })
          ]

  pub starts : (n : ℕ) (m : GraphMethod) → IsMethod graph n m → m.kind ≡ method_kind.Entry → HasStart graph n
  starts n m is entry =
      let c = behinds.starts n m is entry in
      record {
        number = start_number flat.methods n;
        of = c.of;
        is_task = c.is_task;
        is_start = c.starts;
        of_method = c.in_method;
        only = λ k t is_task is_start in_method. (elim (task_is k t is_task) [
          | Starts o x is_x number own_method at_first starting vars entry no_field ↦ number ∙ ap (start_number flat.methods) (sym own_method ∙ in_method)
          | BehindCut o at u x is_x code numbered own_method behind other vars ↦ absurd (other is_start)
          | BehindPart o at u x is_x code numbered own_method behind joins vars ↦ absurd (let e : kind.Join ≡ kind.Start = sym joins ∙ is_start in cc)
        ]);
      }

  -- No task begins right behind anything but a cut or a part.
  abbrev IsEnd : Instr → Type 0
  IsEnd (instr.Cut t) = Unit {0}
  IsEnd (instr.Part t) = Unit {0}
  IsEnd _ = ⊥

  no_task : (n before : ℕ) (m : GraphMethod) (i : Instr) → IsMethod graph n m → slice_get m.code before ≡ Some i → (IsEnd i → ⊥) → (k : ℕ) (t : Task) → IsTask graph k t → t.method ≡ n → t.at ≢ suc before
  no_task n before m i is code plain k t is_task in_method at =
      elim (task_is k t is_task) [
        | Starts o x is_x number own_method at_first starting vars entry no_field ↦ (omega (arith, at, at_first))
        | BehindCut o place u x is_x cut numbered own_method behind other vars ↦
            (let same : m ≡ x = some_is m x (sym is ∙ ap (slice_get graph.methods) (sym in_method ∙ own_method) ∙ is_x) in
            let here : before ≡ place = omega (arith, at, behind) in
            let both : i ≡ instr.Cut u = some_is i (instr.Cut u) (sym code ∙ ap (λ (y : GraphMethod). slice_get y.code before) same ∙ ap (slice_get x.code) here ∙ cut) in
            plain (subst IsEnd (sym both) tt))
        | BehindPart o place u x is_x cut numbered own_method behind joins vars ↦
            (let same : m ≡ x = some_is m x (sym is ∙ ap (slice_get graph.methods) (sym in_method ∙ own_method) ∙ is_x) in
            let here : before ≡ place = omega (arith, at, behind) in
            let both : i ≡ instr.Part u = some_is i (instr.Part u) (sym code ∙ ap (λ (y : GraphMethod). slice_get y.code before) same ∙ ap (slice_get x.code) here ∙ cut) in
            plain (subst IsEnd (sym both) tt))
      ]

  -- ---- behind turns and accesses

  abbrev pub Of : (n : ℕ) (m : GraphMethod) → Type 0
  Of n m = Lays class program graph.tasks typed n m

  pub labels_of : (n : ℕ) (m : GraphMethod) (k : Of n m) → Labelled (setting class program graph.tasks k.m k.b k.task) (at_first k.b) m.code
  labels_of n m k = subst (λ (z : GraphMethod). Labelled (setting class program graph.tasks k.m k.b k.task) (at_first k.b) z.code) k.is k.labels

  spends_behind : (s : Setting) (lab : ℕ → Label) (at : ℕ) (i : Instr) → Right s lab at i → SpendsBefore i → (lab at).behind ≡ Turning
  spends_behind s lab at (instr.Cut t) r h = r.own.turned
  spends_behind s lab at (instr.Call n) r h = r.own.turned
  spends_behind s lab at (instr.Merge n) r h = r.own.turned
  spends_behind s lab at _ r h = absurd h

  pub same_method : (n : ℕ) (m x : GraphMethod) → IsMethod graph n m → IsMethod graph n x → x ≡ m
  same_method n m x e f = some_is x m (sym f ∙ e)

  only_behind : (n at before : ℕ) (m : GraphMethod) (i : Instr) (b : Behind) (is : IsMethod graph n m) (k : Of n m) → ((labels_of n m k).lab at).behind ≡ b → b ≢ Anything → at ≡ suc before → slice_get m.code before ≡ Some i → (IsEnd i → ⊥)
      → IsOnlyBehind graph n at before
  only_behind n at before m i b is k behind other place code plain = record {
    behind = place;
    no_jump = λ o j h jumps.
        (let here : slice_get m.code o ≡ Some j = subst (λ (z : GraphMethod). slice_get z.code o ≡ Some j) (same_method n m h.of is h.is_method) h.is_code in
        other (sym behind ∙ ((labels_of n m k).right o j here).jumps at jumps));
    no_start = λ q t is_task in_method at_place. no_task n before m i is code plain q t is_task in_method (at_place ∙ place);
  }

  pub spends : (n at : ℕ) (i : Instr) → HasCode graph n at i → SpendsBefore i → IsBehindTurn graph n at
  spends n at i h spending =
      let k = lays class program graph.tasks typed n h.of h.is_method in
      let l = labels_of n h.of k in
      let behind = spends_behind (setting class program graph.tasks k.m k.b k.task) l.lab at i (l.right at i h.is_code) spending in
      let no_turn : Turning ≢ Anything = (λ e. cc) in
      let b = before_is (setting class program graph.tasks k.m k.b k.task) (at_first k.b) h.of.code l at Turning behind no_turn (get_within h.of.code at i h.is_code) in
      let turn : slice_get h.of.code b.0 ≡ Some instr.Turn = b.3 ∙ ap Some (turning_turn b.1 b.4) in
      record {
        before = b.0;
        only = only_behind n at b.0 h.of instr.Turn Turning h.is_method k behind no_turn b.2 turn (λ e. e);
        turn = record { of = h.of; is_method = h.is_method; is_code = turn };
      }

  pub accesses : (n at t : ℕ) → HasCode graph n at (instr.Part t) → IsBehindAccess graph n at
  accesses n at t h =
      let k = lays class program graph.tasks typed n h.of h.is_method in
      let l = labels_of n h.of k in
      let behind = (l.right at (instr.Part t) h.is_code).own.behind in
      let no_access : Accessing ≢ Anything = (λ e. cc) in
      let b = before_is (setting class program graph.tasks k.m k.b k.task) (at_first k.b) h.of.code l at Accessing behind no_access (get_within h.of.code at (instr.Part t) h.is_code) in
      let a = accessing_access b.1 b.4 in
      let access : slice_get h.of.code b.0 ≡ Some (instr.Access a.0 a.1) = b.3 ∙ ap Some a.2 in
      record {
        before = b.0;
        only = only_behind n at b.0 h.of (instr.Access a.0 a.1) Accessing h.is_method k behind no_access b.2 access (λ e. e);
        name = a.0;
        of = a.1;
        access = record { of = h.of; is_method = h.is_method; is_code = access };
      }

  -- ---- what is carried

  carried_live : (n at u v : ℕ) (m : GraphMethod) → IsMethod graph n m → slice_get m.code at ≡ Some (instr.Cut u) → IsIn v (variables_of (slice_get graph.tasks u)) → IsLive m.code v (suc at)
  carried_live n at u v m is code h =
      let k = lays class program graph.tasks typed n m is in
      let l = labels_of n m k in
      let entry : m.kind ≡ method_kind.Entry = ap (λ (z : GraphMethod). z.kind) (sym k.is) ∙ ap graph_kind ((l.right at (instr.Cut u) code).kind.entry refl) in
      let c = behinds.cuts n at u m (record { is_method = is; is_entry = entry; is_code = code }) in
      let number = cut_named class program graph.tasks typed n at u m is entry code in
      let its : slice_get graph.tasks u ≡ Some c.of = ap (slice_get graph.tasks) number ∙ c.is_task in
      c.variables.live v (subst (λ (o : Option Task). IsIn v (variables_of o)) its h)

  pub needed_live : (n : ℕ) (m : GraphMethod) → IsMethod graph n m → (v at : ℕ) → IsNeeded graph.tasks m.code v at → IsLive m.code v at
  needed_live n m is v at (NeededHere a i code h) = by i code h
    where
      by : (i : Instr) → slice_get m.code a ≡ Some i → IsIn v (needs graph.tasks i) → IsLive m.code v a
      by (instr.Cut u) code h = IsReadLater a (suc a) (instr.Cut u) code (none_some v) (IsFirst []) (carried_live n a u v m is code h)
      by i code h = IsRead a i code h
  needed_live n m is v at (NeededLater a next i code clear goes later) = IsReadLater a next i code clear (next_is a i next goes) (needed_live n m is v next later)

  pub variables : (q : ℕ) (t : Task) (m : GraphMethod) (v : ℕ) → IsTask graph q t → IsMethod graph t.method m → IsNeeded graph.tasks m.code v t.at → IsIn v t.vars
  variables q t m v is_task is needed =
      let alive = needed_live t.method m is v t.at needed in
      elim (task_is q t is_task) [
        | Starts o x is_x number own_method at_first starting vars entry no_field ↦
            (let same : x ≡ m = same_method t.method m x is (ap (slice_get graph.methods) own_method ∙ is_x) in
            let k = lays class program graph.tasks typed t.method m is in
            let live_first : IsLive m.code v 0 = subst (λ (a : ℕ). IsLive m.code v a) at_first alive in
            let live_own : IsLive (own class program graph.tasks k.m k.b k.task).code v 0 = subst (λ (z : GraphMethod). IsLive z.code v 0) (sym k.is) live_first in
            let known = live_known (setting class program graph.tasks k.m k.b k.task) (bodies.at_first k.b) (own class program graph.tasks k.m k.b k.task).code k.labels v 0 live_own in
            let few : v < m.params = subst (λ (z : GraphMethod). v < z.params) k.is (first_read class program graph.tasks typed k.m k.b k.task v k.body k.labels known) in
            subst (λ (vs : List ℕ). IsIn v vs) (sym (vars ∙ ap parameters same)) (range_has v 0 m.params (omega arith) (omega (arith, few))))
        | BehindCut o at u x is_x code numbered own_method behind other vars ↦
            (let same : x ≡ m = same_method t.method m x is (ap (slice_get graph.methods) own_method ∙ is_x) in
            vars.whole v (subst (λ (z : GraphMethod). IsLive z.code v (suc at)) (sym same) (subst (λ (a : ℕ). IsLive m.code v a) behind alive)))
        | BehindPart o at u x is_x code numbered own_method behind joins vars ↦
            (let same : x ≡ m = same_method t.method m x is (ap (slice_get graph.methods) own_method ∙ is_x) in
            vars.whole v (subst (λ (z : GraphMethod). IsLive z.code v (suc at)) (sym same) (subst (λ (a : ℕ). IsLive m.code v a) behind alive)))
      ]

  -- ---- what a join carries, the visit carried

  visit_keeps : (s : Setting) (lab : ℕ → Label) (at : ℕ) (i : Instr) (part v : ℕ) → Right s lab at i → (lab at).visit ≡ Some part → writes i ≢ Some v
  visit_keeps s lab at (instr.Store u) part v r e w = none_some part (sym r.own ∙ e)
  visit_keeps s lab at _ part v r e w = none_some v w

  back_live : (n : ℕ) (m : GraphMethod) (is : IsMethod graph n m) (k : Of n m) (v part start at : ℕ) → Reaches m.code start at → ((labels_of n m k).lab at).visit ≡ Some part → IsLive m.code v at
      → (((labels_of n m k).lab start).visit ≡ Some part) × IsLive m.code v start
  back_live n m is k v part start at ReachesStart e alive = (e, alive)
  back_live n m is k v part start at (ReachesNext place next i reach code goes) e alive =
      let r = (labels_of n m k).right place i code in
      let here : ((labels_of n m k).lab place).visit ≡ Some part = sym (r.stays next goes).visit ∙ e in
      back_live n m is k v part start place reach here
      (IsReadLater place next i code (visit_keeps (setting class program graph.tasks k.m k.b k.task) (labels_of n m k).lab place i part v r here) (next_is place i next goes) alive)

  pub joins : (q join at : ℕ) (t u : Task) (v : ℕ) → IsTask graph q t → ReachesCode graph t at (instr.Part join) → IsTask graph join u → IsIn v u.vars → IsIn v t.vars
  joins q join at t u v is_task way is_join h =
      let m = way.of in
      let n = t.method in
      let k = lays class program graph.tasks typed n m way.is_method in
      let l = labels_of n m k in
      let r = l.right at (instr.Part join) way.is_code in
      let entry : m.kind ≡ method_kind.Entry = ap (λ (z : GraphMethod). z.kind) (sym k.is) ∙ ap graph_kind (r.kind.entry refl) in
      let c = behinds.parts n at join m (record { is_method = way.is_method; is_entry = entry; is_code = way.is_code }) in
      let number = part_named class program graph.tasks typed n at join m way.is_method entry way.is_code in
      let same : c.of ≡ u = some_is c.of u (sym c.is_task ∙ ap (slice_get graph.tasks) (sym number) ∙ is_join) in
      let alive = c.variables.live v (subst (λ (x : Task). IsIn v x.vars) (sym same) h) in
      let at_part = IsReadLater at (suc at) (instr.Part join) way.is_code (none_some v) (IsFirst []) alive in
      let back = back_live n m way.is_method k v at t.at at way.reaches r.own.visit at_part in
      elim (task_is q t is_task) [
        | Starts o x is_x number own_method at_first starting vars entry no_field ↦
            absurd (let first : (l.lab 0).visit ≡ Some at = subst (λ (a : ℕ). (l.lab a).visit ≡ Some at) at_first back.0 in none_some at (sym l.first_is.stays.visit ∙ first))
        | BehindCut o place x_t x is_x code numbered own_method behind other vars ↦
            (let same_m : x ≡ m = same_method n m x way.is_method (ap (slice_get graph.methods) own_method ∙ is_x) in
            vars.whole v (subst (λ (z : GraphMethod). IsLive z.code v (suc place)) (sym same_m) (subst (λ (a : ℕ). IsLive m.code v a) behind back.1)))
        | BehindPart o place x_t x is_x code numbered own_method behind join_kind vars ↦
            (let same_m : x ≡ m = same_method n m x way.is_method (ap (slice_get graph.methods) own_method ∙ is_x) in
            vars.whole v (subst (λ (z : GraphMethod). IsLive z.code v (suc place)) (sym same_m) (subst (λ (a : ℕ). IsLive m.code v a) behind back.1)))
      ]

  -- ---- one visit for a part

  back_visit : (n : ℕ) (m : GraphMethod) (k : Of n m) (part start at : ℕ) → Reaches m.code start at → ((labels_of n m k).lab at).visit ≡ Some part → ((labels_of n m k).lab start).visit ≡ Some part
  back_visit n m k part start at ReachesStart e = e
  back_visit n m k part start at (ReachesNext place next i reach code goes) e = back_visit n m k part start place reach (sym (((labels_of n m k).right place i code).stays next goes).visit ∙ e)

  -- a visit goes on to the next place, up to its part
  visit_next : (s : Setting) (lab : ℕ → Label) (at : ℕ) (i : Instr) (part : ℕ) → Right s lab at i → (lab at).visit ≡ Some part → at ≢ part → ((lab (suc at)).visit ≡ Some part) × (at < part) × IsIn (suc at) (next_of at i)
  visit_next s lab at (instr.Load v) part r e other = ((r.stays (suc at) (IsFirst [])).visit ∙ e, by r.own, IsFirst [])
    where
      by : AtLoad lab at → at < part
      by (Plainly plain) = absurd (none_some part (sym plain ∙ e))
      by (Visiting q visit less) = (let same = some_is q part (sym visit ∙ e) in omega (arith, same, less))
  visit_next s lab at (instr.Access name m) part r e other = ((r.stays (suc at) (IsFirst [])).visit ∙ e, by r.own, IsFirst [])
    where
      by : AtAccess s lab at name m → at < part
      by (InBlock f plain g h) = absurd (none_some part (sym plain ∙ e))
      by (InVisit f holder sig is p visit g h a b) = (let same = some_is (suc at) part (sym visit ∙ e) in omega (arith, same))
  visit_next s lab at (instr.Part t) part r e other = absurd (other (some_is at part (sym r.own.visit ∙ e)))
  visit_next s lab at (instr.Cut t) part r e other = absurd (none_some part (sym r.own.plain ∙ e))
  visit_next s lab at instr.Key part r e other = absurd (none_some part (sym r.own.plain ∙ e))
  visit_next s lab at (instr.Merge x) part r e other = absurd (none_some part (sym r.own.plain ∙ e))
  visit_next s lab at (instr.Call x) part r e other = absurd (none_some part (sym r.own.plain ∙ e))
  visit_next s lab at _ part r e other = absurd (none_some part (sym r.own ∙ e))

  no_cut_between : (n : ℕ) (m : GraphMethod) (k : Of n m) (part d a place u : ℕ) → place ≡ a + d → ((labels_of n m k).lab a).visit ≡ Some part → a < length m.code → place < part → slice_get m.code place ≡ Some (instr.Cut u) → ⊥
  no_cut_between n m k part zero a place u e visit within below code =
      let here : place ≡ a = omega (arith, e) in
      none_some part (sym ((labels_of n m k).right place (instr.Cut u) code).own.plain ∙ subst (λ (x : ℕ). ((labels_of n m k).lab x).visit ≡ Some part) (sym here) visit)
  no_cut_between n m k part (suc d) a place u e visit within below code =
      let l = labels_of n m k in
      let i = found m.code a within in
      let other : a ≢ part = (λ same. omega (arith, e, below, same)) in
      let next = visit_next (setting class program graph.tasks k.m k.b k.task) l.lab a i.0 part (l.right a i.0 i.1) visit other in
      no_cut_between n m k part d (suc a) place u (omega (arith, e)) next.0 (l.inside a i.0 (suc a) i.1 next.2) below code
    where
      found : {A : Type 0} (xs : List A) (n : ℕ) → n < length xs → (x : A) × (slice_get xs n ≡ Some x)
      found [] n h = absurd (omega (arith, h))
      found (x ∷ xs) zero h = (x, refl)
      found (x ∷ xs) (suc n) h = found xs n (omega (arith, h))

  -- a visit begins before its part
  begins_before : (n : ℕ) (m : GraphMethod) (k : Of n m) (part place u : ℕ) → slice_get m.code place ≡ Some (instr.Cut u) → ((labels_of n m k).lab (suc place)).visit ≡ Some part → suc place < part
  begins_before n m k part place u code e = by ((labels_of n m k).right place (instr.Cut u) code).own.to
    where
      by : AtCut (setting class program graph.tasks k.m k.b k.task) (labels_of n m k).lab place → suc place < part
      by (ToBlock f h is key plain a b first no_visit) = absurd (none_some part (sym plain ∙ e))
      by (ToVisit f q h is p stack visit less a b) = (let same = some_is q part (sym visit ∙ e) in omega (arith, same, less))

  same_cut : (n : ℕ) (m : GraphMethod) (k : Of n m) (part p q u w : ℕ) → slice_get m.code p ≡ Some (instr.Cut u) → slice_get m.code q ≡ Some (instr.Cut w) → ((labels_of n m k).lab (suc p)).visit ≡ Some part → ((labels_of n m k).lab (suc q)).visit ≡ Some part → p < q → ⊥
  same_cut n m k part p q u w cut_p cut_q visit_p visit_q less =
      let below = begins_before n m k part q w cut_q visit_q in
      let within = get_within m.code q (instr.Cut w) cut_q in
      no_cut_between n m k part (q - suc p) (suc p) q w (omega (arith, less)) visit_p (omega (arith, within, less)) (omega (arith, below)) cut_q

  record VisitCut (n : ℕ) (m : GraphMethod) (k : Of n m) (number part at : ℕ) : Type 0 where
    place : ℕ
    names : ℕ
    is_cut : slice_get m.code place ≡ Some (instr.Cut names)
    is : number ≡ number_behind flat.methods n m place
    visit : ((labels_of n m k).lab (suc place)).visit ≡ Some part

  visit_cut : (n : ℕ) (m : GraphMethod) (is : IsMethod graph n m) (k : Of n m) (q part : ℕ) (t : Task) → IsTask graph q t → t.kind ≡ kind.Visit → t.method ≡ n → ((labels_of n m k).lab t.at).visit ≡ Some part → VisitCut n m k q part t.at
  visit_cut n m is k q part t is_task visiting in_method visit =
      elim (task_is q t is_task) [
        | Starts o x is_x number own_method at_first starting vars entry no_field ↦ absurd (let e : kind.Start ≡ kind.Visit = sym starting ∙ visiting in cc)
        | BehindPart o place u x is_x code numbered own_method behind join_kind vars ↦ absurd (let e : kind.Join ≡ kind.Visit = sym join_kind ∙ visiting in cc)
        | BehindCut o place u x is_x code numbered own_method behind other vars ↦
            (let same_n : o ≡ n = sym own_method ∙ in_method in
            let same_m : x ≡ m = same_method n m x is (ap (slice_get graph.methods) (sym same_n) ∙ is_x) in
            record {
              place = place;
              names = u;
              is_cut = ap (λ (z : GraphMethod). slice_get z.code place) (sym same_m) ∙ code;
              is = numbered ∙ ap (λ (j : ℕ). number_behind flat.methods j x place) same_n ∙ ap (λ (z : GraphMethod). number_behind flat.methods n z place) same_m;
              visit = subst (λ (a : ℕ). ((labels_of n m k).lab a).visit ≡ Some part) behind visit;
            })
      ]

  part_task : (t : Task) (at join : ℕ) → ReachesCode graph t at (instr.Part join) → (of : Task) × IsTask graph join of × (of.method ≡ t.method) × (of.at ≡ suc at)
  part_task t at join way =
      let m = way.of in
      let k = lays class program graph.tasks typed t.method m way.is_method in
      let r = (labels_of t.method m k).right at (instr.Part join) way.is_code in
      let entry : m.kind ≡ method_kind.Entry = ap (λ (z : GraphMethod). z.kind) (sym k.is) ∙ ap graph_kind (r.kind.entry refl) in
      let c = behinds.parts t.method at join m (record { is_method = way.is_method; is_entry = entry; is_code = way.is_code }) in
      let number = part_named class program graph.tasks typed t.method at join m way.is_method entry way.is_code in
      (c.of, ap (slice_get graph.tasks) number ∙ c.is_task, c.in_method, c.right_behind)

  pub one_visit_a_part : (q j join : ℕ) (t u : Task) (at other : ℕ) → IsTask graph q t → IsTask graph j u → t.kind ≡ kind.Visit → u.kind ≡ kind.Visit
      → ReachesCode graph t at (instr.Part join) → ReachesCode graph u other (instr.Part join) → q ≡ j
  one_visit_a_part q j join t u at other is_t is_u visit_t visit_u way_t way_u =
      let a = part_task t at join way_t in
      let b = part_task u other join way_u in
      let same : a.0 ≡ b.0 = some_is a.0 b.0 (sym a.1 ∙ b.1) in
      let in_method : u.method ≡ t.method = sym b.2 ∙ ap (λ (x : Task). x.method) (sym same) ∙ a.2 in
      let place : other ≡ at = (let e : suc other ≡ suc at = sym b.3 ∙ ap (λ (x : Task). x.at) (sym same) ∙ a.3 in omega (arith, e)) in
      let n = t.method in
      let m = way_t.of in
      let k = lays class program graph.tasks typed n m way_t.is_method in
      let l = labels_of n m k in
      let same_m : way_u.of ≡ m = same_method n m way_u.of way_t.is_method (ap (slice_get graph.methods) (sym in_method) ∙ way_u.is_method) in
      let at_part = (l.right at (instr.Part join) way_t.is_code).own.visit in
      let first = visit_cut n m way_t.is_method k q at t is_t visit_t refl (back_visit n m k at t.at at way_t.reaches at_part) in
      let reaches : Reaches m.code u.at at = subst (λ (e : ℕ). Reaches m.code u.at e) place (subst (λ (z : GraphMethod). Reaches z.code u.at other) same_m way_u.reaches) in
      let second = visit_cut n m way_t.is_method k j at u is_u visit_u in_method (back_visit n m k at u.at at reaches at_part) in
      let equal : first.place ≡ second.place = elim (below_or first.place second.place) [
        | inl less ↦ absurd (same_cut n m k at first.place second.place first.names second.names first.is_cut second.is_cut first.visit second.visit less)
        | inr most ↦ elim (below_or second.place first.place) [
          | inl less ↦ absurd (same_cut n m k at second.place first.place second.names first.names second.is_cut first.is_cut second.visit first.visit less)
          | inr least ↦ (omega (arith, most, least))
        ]
      ] in
      first.is ∙ ap (number_behind flat.methods n m) equal ∙ sym second.is
