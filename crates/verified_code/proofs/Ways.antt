-- Ways within a task of a labelled body: what holds where the task begins holds on, and a visit goes to its part alone.
use Rattle.std.proofs.Common.{◌≡◌, ◌≢◌, refl, sym, ap, subst, ◌∙◌, ℕ, zero, suc, ◌+◌, ◌<◌, arith, true, List, [], ◌∷◌, length, drop, Option, Some, None, slice_get, ◌⊎◌, inl, inr}
use Rattle.sdg_base.specs.Signatures.{Signature}
use Rattle.sdg_base.specs.declared.value_type.ValueType.{ValueType}
use Rattle.state_classes.specs.declared.method.Method.{Method}
use Rattle.flat_code.specs.declared.graph.Instr.{Instr}
use Rattle.flat_code.specs.declared.graph.Instr.TheVariants as instr
use Rattle.flat_code.specs.Items.{first_part}
use Rattle.flat_code.specs.Types.{signature_at}
use Rattle.flat_code.specs.Ways.{IsIn, IsFirst, next_in_task, Reaches, ReachesStart, ReachesNext}
use Rattle.flat_code.specs.Verified.{on_top}
use Rattle.access_blocks.specs.declared.body.Holder.{Holder}
use Rattle.body_code.specs.StatementCode.{name_in}
use Rattle.body_code.specs.Checking.{Standing}
use Rattle.task_cutter.specs.Tasks.{first_field, is_visit}
use Rattle.verified_code.proofs.Labels.{Accessing, Anything, Setting, AtAccess, InBlock, InVisit, AtLoad, Plainly, Visiting, Right}
use Rattle.verified_code.proofs.Typed.{none_some, some_is}
use Rattle.verified_code.proofs.Bodies.{Labelled, get_within}
use Rattle.verified_code.proofs.Tasks.{before_is, accessing_access}

pub there : {A : Type 0} (xs : List A) (n : ℕ) → n < length xs → (x : A) × (slice_get xs n ≡ Some x)
there [] n h = absurd (omega (arith, h))
there (x ∷ xs) zero h = (x, refl)
there (x ∷ xs) (suc n) h = there xs n (omega (arith, h))

drop_is : {A : Type 0} (xs : List A) (n : ℕ) (x : A) → slice_get xs n ≡ Some x → drop n xs ≡ x ∷ drop (suc n) xs
drop_is [] n x e = absurd (none_some x e)
drop_is (y ∷ xs) zero x e = ap (λ z. z ∷ xs) (some_is y x e)
drop_is (y ∷ xs) (suc n) x e = drop_is xs n x e

reaches_before : (code : List Instr) (at next to : ℕ) (i : Instr) → slice_get code at ≡ Some i → IsIn next (next_in_task at i) → Reaches code next to → Reaches code at to
reaches_before code at next to i is goes ReachesStart = ReachesNext at next i ReachesStart is goes
reaches_before code at next to i is goes (ReachesNext place end j way code_is on) = ReachesNext place end j (reaches_before code at next place i is goes way) code_is on

none_of : {A : Type 0} (o p : Option A) (a : A) → (p ≡ None) ⊎ (p ≡ o) → p ≡ Some a → o ≡ Some a
none_of o p a (inl e) is = absurd (none_some a (sym e ∙ is))
none_of o p a (inr e) is = sym e ∙ is

module _ (s : Setting) (first : Standing) (code : List Instr) (l : Labelled s first code) where
  -- ---- what a task knows, it knew where it began

  pub same_visit : (start at : ℕ) → Reaches code start at → (l.lab start).visit ≡ (l.lab at).visit
  same_visit start at ReachesStart = refl
  same_visit start at (ReachesNext place next i way is goes) = same_visit start place way ∙ sym ((l.right place i is).stays next goes).visit

  pub field_before : (start at field : ℕ) → Reaches code start at → (l.lab at).standing.field ≡ Some field → (l.lab start).standing.field ≡ Some field
  field_before start at field ReachesStart e = e
  field_before start at field (ReachesNext place next i way is goes) e =
      field_before start place field way (none_of (l.lab place).standing.field (l.lab next).standing.field field ((l.right place i is).stays next goes).field e)

  pub gathered_before : (start at : ℕ) (t : ValueType) → Reaches code start at → (l.lab at).standing.gathered ≡ Some t → (l.lab start).standing.gathered ≡ Some t
  gathered_before start at t ReachesStart e = e
  gathered_before start at t (ReachesNext place next i way is goes) e =
      gathered_before start place t way (none_of (l.lab place).standing.gathered (l.lab next).standing.gathered t ((l.right place i is).stays next goes).gathered e)

  -- ---- the access before a part

  pub record PartBehind (at : ℕ) : Type 0 where
    pub before : ℕ
    pub place : at ≡ suc before
    pub name : List ℕ
    pub method : Method
    pub sig : Signature
    pub access : slice_get code before ≡ Some (instr.Access name method)
    pub is_signature : signature_at s.graph.fields name method ≡ Some sig
    pub stack : (l.lab at).stack ≡ on_top sig.result []
    pub gathered : ((l.lab (suc at)).standing.gathered ≡ None) ⊎ ((l.lab (suc at)).standing.gathered ≡ Some sig.result)

  pub part_behind : (at join : ℕ) → slice_get code at ≡ Some (instr.Part join) → PartBehind at
  part_behind at join is =
      let part = (l.right at (instr.Part join) is).own in
      let no_access : Accessing ≢ Anything = (λ e. cc) in
      let b = before_is s first code l at Accessing part.behind no_access (get_within code at (instr.Part join) is) in
      let a = accessing_access b.1 b.4 in
      let access : slice_get code b.0 ≡ Some (instr.Access a.0 a.1) = b.3 ∙ ap Some a.2 in
      let r = l.right b.0 (instr.Access a.0 a.1) access in
      let on : (l.lab (suc b.0)).visit ≡ (l.lab b.0).visit = (r.stays (suc b.0) (IsFirst [])).visit in
      let here : (l.lab b.0).visit ≡ Some at = sym on ∙ subst (λ (n : ℕ). (l.lab n).visit ≡ Some at) b.2 part.visit in
      by b.0 b.2 a.0 a.1 access here r.own
    where
      by : (before : ℕ) → at ≡ suc before → (name : List ℕ) (method : Method) → slice_get code before ≡ Some (instr.Access name method) → (l.lab before).visit ≡ Some at → AtAccess s l.lab before name method → PartBehind at
      by before place name method access visit (InBlock field plain f n) = absurd (none_some at (sym plain ∙ visit))
      by before place name method access visit (InVisit field h sig is_field p v n is_signature stack gathered) = record {
        before = before;
        place = place;
        name = name;
        method = method;
        sig = sig;
        access = access;
        is_signature = is_signature;
        stack = subst (λ (n : ℕ). (l.lab n).stack ≡ on_top sig.result []) (sym place) stack;
        gathered = subst (λ (n : ℕ). ((l.lab (suc n)).standing.gathered ≡ None) ⊎ ((l.lab (suc n)).standing.gathered ≡ Some sig.result)) (sym place) gathered;
      }

  -- ---- the way of a visit: its arguments, the access and the part

  pub record VisitWay (start part : ℕ) : Type 0 where
    pub before : ℕ
    pub place : part ≡ suc before
    pub field : ℕ
    pub holder : Holder
    pub is_field : slice_get s.around.fields field ≡ Some holder
    pub partial : holder.is_partial ≡ true
    pub name : List ℕ
    pub is_name : name ≡ name_in (slice_get s.graph.fields field)
    pub method : Method
    pub access : slice_get code before ≡ Some (instr.Access name method)
    pub join : ℕ
    pub is_part : slice_get code part ≡ Some (instr.Part join)
    pub first_access : first_field (drop start code) ≡ Some name
    pub visits : is_visit (drop start code) ≡ true
    pub first_join : first_part (drop start code) ≡ Some join
    pub reaches : Reaches code start part

  part_there : (at : ℕ) (i : Instr) → Right s l.lab at i → (l.lab at).visit ≡ Some at → (join : ℕ) × (i ≡ instr.Part join)
  part_there at (instr.Part t) r e = (t, refl)
  part_there at (instr.Load v) r e = absurd (by r.own)
    where
      by : AtLoad l.lab at → ⊥
      by (Plainly plain) = none_some at (sym plain ∙ e)
      by (Visiting part visit less) = (let same = some_is part at (sym visit ∙ e) in omega (arith, same, less))
  part_there at (instr.Access name m) r e = absurd (by r.own)
    where
      by : AtAccess s l.lab at name m → ⊥
      by (InBlock field plain f n) = none_some at (sym plain ∙ e)
      by (InVisit field h sig is p visit n g k o) = (let same = some_is (suc at) at (sym visit ∙ e) in omega (arith, same))
  part_there at (instr.Cut t) r e = absurd (none_some at (sym r.own.plain ∙ e))
  part_there at instr.Key r e = absurd (none_some at (sym r.own.plain ∙ e))
  part_there at (instr.Merge x) r e = absurd (none_some at (sym r.own.plain ∙ e))
  part_there at (instr.Call x) r e = absurd (none_some at (sym r.own.plain ∙ e))
  part_there at _ r e = absurd (none_some at (sym r.own ∙ e))

  -- a load before a way
  longer : (start part v : ℕ) → slice_get code start ≡ Some (instr.Load v) → VisitWay (suc start) part → VisitWay start part
  longer start part v is w =
      let here = drop_is code start (instr.Load v) is in
      record {
        before = w.before;
        place = w.place;
        field = w.field;
        holder = w.holder;
        is_field = w.is_field;
        partial = w.partial;
        name = w.name;
        is_name = w.is_name;
        method = w.method;
        access = w.access;
        join = w.join;
        is_part = w.is_part;
        first_access = ap first_field here ∙ w.first_access;
        visits = ap is_visit here ∙ w.visits;
        first_join = ap first_part here ∙ w.first_join;
        reaches = reaches_before code start (suc start) part (instr.Load v) is (IsFirst []) w.reaches;
      }

  -- one instruction of a visit, behind which the way goes on
  visit_step : (start part : ℕ) → start < part → (l.lab start).visit ≡ Some part → ((l.lab (suc start)).visit ≡ Some part → suc start < length code → suc start < part → VisitWay (suc start) part)
      → (i : Instr) → slice_get code start ≡ Some i → Right s l.lab start i → VisitWay start part
  visit_step start part far visit more (instr.Load v) is r = by r.own
    where
      by : AtLoad l.lab start → VisitWay start part
      by (Plainly plain) = absurd (none_some part (sym plain ∙ visit))
      by (Visiting q at_q less) =
          let same = some_is q part (sym at_q ∙ visit) in
          longer start part v is (more ((r.stays (suc start) (IsFirst [])).visit ∙ visit) (l.inside start (instr.Load v) (suc start) is (IsFirst [])) (omega (arith, same, less)))
  visit_step start part far visit more (instr.Access name m) is r = by r.own
    where
      by : AtAccess s l.lab start name m → VisitWay start part
      by (InBlock field plain f n) = absurd (none_some part (sym plain ∙ visit))
      by (InVisit field h sig is_field partial v is_name g k o) =
          let place : part ≡ suc start = some_is part (suc start) (sym visit ∙ v) in
          let i = there code (suc start) (l.inside start (instr.Access name m) (suc start) is (IsFirst [])) in
          let visit_there : (l.lab (suc start)).visit ≡ Some (suc start) = (r.stays (suc start) (IsFirst [])).visit ∙ v in
          let j = part_there (suc start) i.0 (l.right (suc start) i.0 i.1) visit_there in
          let is_part : slice_get code (suc start) ≡ Some (instr.Part j.0) = i.1 ∙ ap Some j.1 in
          let behind : List Instr = drop (suc (suc start)) code in
          let here : drop start code ≡ instr.Access name m ∷ instr.Part j.0 ∷ behind = drop_is code start (instr.Access name m) is ∙ ap (λ (rest : List Instr). instr.Access name m ∷ rest) (drop_is code (suc start) (instr.Part j.0) is_part) in
          record {
            before = start;
            place = place;
            field = field;
            holder = h;
            is_field = is_field;
            partial = partial;
            name = name;
            is_name = is_name;
            method = m;
            access = is;
            join = j.0;
            is_part = subst (λ (n : ℕ). slice_get code n ≡ Some (instr.Part j.0)) (sym place) is_part;
            first_access = ap first_field here;
            visits = ap is_visit here;
            first_join = ap first_part here;
            reaches = subst (λ (n : ℕ). Reaches code start n) (sym place) (ReachesNext start (suc start) (instr.Access name m) ReachesStart is (IsFirst []));
          }
  visit_step start part far visit more (instr.Part t) is r = absurd (let same = some_is start part (sym r.own.visit ∙ visit) in omega (arith, same, far))
  visit_step start part far visit more (instr.Cut t) is r = absurd (none_some part (sym r.own.plain ∙ visit))
  visit_step start part far visit more instr.Key is r = absurd (none_some part (sym r.own.plain ∙ visit))
  visit_step start part far visit more (instr.Merge x) is r = absurd (none_some part (sym r.own.plain ∙ visit))
  visit_step start part far visit more (instr.Call x) is r = absurd (none_some part (sym r.own.plain ∙ visit))
  visit_step start part far visit more _ is r = absurd (none_some part (sym r.own ∙ visit))

  pub visit_way : (d start part : ℕ) → part ≡ start + suc d → (l.lab start).visit ≡ Some part → start < length code → VisitWay start part
  visit_way zero start part far visit within =
      let i = there code start within in
      visit_step start part (omega (arith, far)) visit (λ next inside less. absurd (omega (arith, far, less))) i.0 i.1 (l.right start i.0 i.1)
  visit_way (suc d) start part far visit within =
      let i = there code start within in
      visit_step start part (omega (arith, far)) visit (λ next inside less. visit_way d (suc start) part (omega (arith, far)) next inside) i.0 i.1 (l.right start i.0 i.1)
