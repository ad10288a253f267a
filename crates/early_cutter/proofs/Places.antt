-- Places in code: what lies behind instructions without a cut, behind a cut, and where the code's first access is.
use Rattle.std.proofs.Common.{◌≡◌, refl, ℕ, suc, ◌+◌, List, [], ◌∷◌, ◌++◌, length, drop, Option, Some, None, slice_get, sym, ap, subst, ◌∙◌, arith, append_assoc, Bool, true, false, if◌then◌else◌}
use Rattle.std.specs.List.{range_with_len}
use Rattle.std.proofs.Math.Seq.{drop-append_seam}
use Rattle.std.proofs.lemmas.List.{drop-drop}
use Rattle.std.proofs.lemmas.Option.{some_pair_parts}
use Rattle.sdg_base.specs.declared.val.Num.{Num}
use Rattle.sdg_base.specs.declared.val.Num.TheVariants as num
use Rattle.sdg_base.specs.declared.operator.BinOp.TheVariants as bin
use Rattle.early_forms.specs.declared.straight.Atom.{Atom}
use Rattle.early_forms.specs.declared.straight.Atom.TheVariants.{Literal, Variable}
use Rattle.early_forms.specs.declared.straight.Sum.{Sum}
use Rattle.early_forms.specs.declared.straight.Statement.{Statement}
use Rattle.early_forms.specs.declared.straight.Statement.TheVariants as s
use Rattle.early_forms.specs.declared.straight.Ending.{Ending}
use Rattle.early_forms.specs.declared.straight.Ending.TheVariants as ending
use Rattle.early_source.specs.Sites.{Key, LiteralKey, VariableKey, Compound, same_site}
use Rattle.early_tables.specs.declared.method.Method.TheVariants as method
use Rattle.early_task_code.specs.declared.graph.Graph.{Graph}
use Rattle.early_task_code.specs.declared.graph.Task.{Task}
use Rattle.early_task_code.specs.declared.graph.Instr.{Instr}
use Rattle.early_task_code.specs.declared.graph.Instr.TheVariants as instr
use Rattle.early_plain.specs.Keys.{written_key, written_site}
use Rattle.early_cutter.specs.Points.{Point, number_in, point_after}
use Rattle.early_cutter.specs.Sums.{type_of, promoted, atom_code, cast_code, plus_code, others_code, long_code}
use Rattle.early_cutter.specs.Lowering.{mark_code, argument_code, body_code, point_at_end, task_at_end}
use Rattle.early_cutter.specs.Liveness.{is_live}
use Rattle.early_cutter.specs.Cutting.{first_field, keyed_task, cut_tasks}
use Rattle.early_cutter.specs.Agrees.{CutLeads, CutsLead, Accessed, first_access, key_code, unmarked_statement, unmarked_ending, unmarked_code}
use Rattle.early_cutter.proofs.Lists.{EachPasses, passes_filter}
use Rattle.early_cutter.proofs.Live.{CutCarriesLive, CutsCarryLive}

-- ---- code that computes values

-- neither a cut nor an access
abbrev pub IsPlain : Instr → Type 0
IsPlain (instr.Cut t) = ⊥
IsPlain (instr.Access field m) = ⊥
IsPlain _ = Unit {0}

abbrev pub ArePlain : List Instr → Type 0
ArePlain [] = Unit {0}
ArePlain (i ∷ is) = IsPlain i × ArePlain is

plain_append : (xs ys : List Instr) → ArePlain xs → ArePlain ys → ArePlain (xs ++ ys)
plain_append [] ys h k = k
plain_append (x ∷ xs) ys h k = (h.0, plain_append xs ys h.1 k)

plain_cast : (t u : Num) → ArePlain (cast_code t u)
plain_cast num.Int num.Long = (tt, tt)
plain_cast num.Int num.Int = tt
plain_cast num.Long num.Int = tt
plain_cast num.Long num.Long = tt

plain_atom : (scope : List (List ℕ)) (atom : Atom) → IsPlain (atom_code scope atom)
plain_atom scope (Literal n) = tt
plain_atom scope (Variable name) = tt

plain_others : (scope : List (List ℕ)) (type : Num) (atoms : List Atom) → ArePlain (others_code scope type atoms)
plain_others scope type [] = plain_cast type num.Long
plain_others scope type (atom ∷ atoms) =
    let both = promoted type (type_of atom) in
    let add : List Instr = instr.Bin bin.Add both ∷ [] in
    let right = atom_code scope atom ∷ cast_code (type_of atom) both in
    plain_append (plus_code scope type atom) (others_code scope both atoms)
    (plain_append (cast_code type both ++ right) add (plain_append (cast_code type both) right (plain_cast type both) (plain_atom scope atom, plain_cast (type_of atom) both)) (tt, tt))
    (plain_others scope both atoms)

pub plain_long : (scope : List (List ℕ)) (v : Sum) → ArePlain (long_code scope v)
plain_long scope v = (plain_atom scope v.first, plain_others scope (type_of v.first) v.others)

plain_argument : (scope : List (List ℕ)) (v : Sum) (key : Key) → ArePlain (argument_code key scope v)
plain_argument scope v Compound = (tt, tt)
plain_argument scope v (LiteralKey n) = plain_long scope v
plain_argument scope v (VariableKey name) = plain_long scope v

pub plain_key : (scope : List (List ℕ)) (v : Sum) → ArePlain (key_code scope v)
plain_key scope v = plain_argument scope v (written_key v)

-- ---- the first access

field_past : (i : Instr) (is : List Instr) → IsPlain i → first_field (i ∷ is) ≡ first_field is
field_past (instr.Int n) is plain = refl
field_past (instr.Load v) is plain = refl
field_past (instr.Store v) is plain = refl
field_past instr.Pop is plain = refl
field_past (instr.Bin op type) is plain = refl
field_past (instr.Cast type) is plain = refl
field_past instr.Turn is plain = refl
field_past instr.Key is plain = refl
field_past (instr.Access field m) is plain = absurd plain
field_past (instr.Cut t) is plain = refl
field_past instr.Return is plain = refl
field_past instr.ReturnVoid is plain = refl

field_behind : (xs ys : List Instr) → ArePlain xs → first_field (xs ++ ys) ≡ first_field ys
field_behind [] ys plain = refl
field_behind (x ∷ xs) ys plain = field_past x (xs ++ ys) plain.0 ∙ field_behind xs ys plain.1

same_field : (field name : List ℕ) (key written : Sum) → ◌≡◌ {A = Option Accessed} (Some (field, key)) (Some (name, written)) → field ≡ name
same_field field name key written same = (some_pair_parts field name key written same).0

-- Unmarked code begins with the access to the field.
pub first_field-unmarked : (fields : List (List ℕ)) (p : Point) (ss : List Statement) (end : Ending) (name : List ℕ) (written : Sum)
    → first_access ss end ≡ Some (name, written) → first_field (unmarked_code fields p ss end) ≡ Some (number_in fields name)
first_field-unmarked fields p [] ending.Nothing name written is = absurd (cc)
first_field-unmarked fields p [] (ending.Sum value) name written is = absurd (cc)
first_field-unmarked fields p [] (ending.Get field key) name written is =
    let n = number_in fields field in
    field_behind (key_code p.scope key) (instr.Access n method.Get ∷ instr.Return ∷ []) (plain_key p.scope key)
    ∙ ap (λ x. Some (number_in fields x)) (same_field field name key written is)
first_field-unmarked fields p (s.Set local value ∷ ss) end name written is = absurd (cc)
first_field-unmarked fields p (s.Get local field key ∷ ss) end name written is =
    let n = number_in fields field in
    let access : List Instr = instr.Access n method.Get ∷ instr.Store (length p.scope) ∷ [] in
    let rest = body_code fields (point_after (s.Get local field key) p) ss end in
    ap first_field (append_assoc (key_code p.scope key) access rest)
    ∙ field_behind (key_code p.scope key) (access ++ rest) (plain_key p.scope key)
    ∙ ap (λ x. Some (number_in fields x)) (same_field field name key written is)
first_field-unmarked fields p (s.Put field key value ∷ ss) end name written is =
    let n = number_in fields field in
    let access : List Instr = instr.Access n method.Put ∷ [] in
    let rest = body_code fields (point_after (s.Put field key value) p) ss end in
    ap first_field (append_assoc (key_code p.scope key) (long_code p.scope value ++ access) rest ∙ ap (λ xs. key_code p.scope key ++ xs) (append_assoc (long_code p.scope value) access rest))
    ∙ field_behind (key_code p.scope key) (long_code p.scope value ++ (access ++ rest)) (plain_key p.scope key)
    ∙ field_behind (long_code p.scope value) (access ++ rest) (plain_long p.scope value)
    ∙ ap (λ x. Some (number_in fields x)) (same_field field name key written is)

-- ---- a body as its first mark, if it has one, and what lies behind

abbrev pub first_mark : Point → Option Accessed → List Instr
first_mark p None = []
first_mark p (Some a) = mark_code p a.0 a.1

pub body_split : (fields : List (List ℕ)) (p : Point) (ss : List Statement) (end : Ending)
    → body_code fields p ss end ≡ first_mark p (first_access ss end) ++ unmarked_code fields p ss end
body_split fields p [] ending.Nothing = refl
body_split fields p [] (ending.Sum value) = refl
body_split fields p [] (ending.Get field key) =
    let mark = mark_code p field key in
    let argument = key_code p.scope key in
    let access : List Instr = instr.Access (number_in fields field) method.Get ∷ [] in
    let end : List Instr = instr.Return ∷ [] in
    append_assoc (mark ++ argument) access end ∙ append_assoc mark argument (access ++ end)
body_split fields p (s.Set local value ∷ ss) end = refl
body_split fields p (s.Get local field key ∷ ss) end =
    let mark = mark_code p field key in
    let argument = key_code p.scope key in
    let access : List Instr = instr.Access (number_in fields field) method.Get ∷ [] in
    let store : List Instr = instr.Store (length p.scope) ∷ [] in
    let rest = body_code fields (point_after (s.Get local field key) p) ss end in
    ap (λ xs. xs ++ rest) (append_assoc (mark ++ argument) access store ∙ append_assoc mark argument (access ++ store))
    ∙ append_assoc mark (argument ++ (access ++ store)) rest
body_split fields p (s.Put field key value ∷ ss) end =
    let mark = mark_code p field key in
    let argument = key_code p.scope key in
    let access : List Instr = instr.Access (number_in fields field) method.Put ∷ [] in
    let put = long_code p.scope value in
    let rest = body_code fields (point_after (s.Put field key value) p) ss end in
    ap (λ xs. xs ++ rest) (append_assoc (mark ++ argument) put access ∙ append_assoc mark argument (put ++ access))
    ∙ append_assoc mark (argument ++ (put ++ access)) rest

-- ---- what lies behind

pub drop_behind : (at : ℕ) (whole xs ys : List Instr) → drop at whole ≡ xs ++ ys → drop (at + length xs) whole ≡ ys
drop_behind at whole xs ys is = sym (drop-drop (length xs) at whole) ∙ ap (drop (length xs)) is ∙ drop-append_seam xs ys

pub leads_behind : (graph : Graph) (number vars at : ℕ) (xs ys : List Instr) → CutsLead graph number vars at (xs ++ ys) → CutsLead graph number vars (at + length xs) ys
leads_behind graph number vars at [] ys cuts = let e : at ≡ at + 0 = omega arith in subst (λ n. CutsLead graph number vars n ys) e cuts
leads_behind graph number vars at (x ∷ xs) ys cuts =
    let e : at + 1 + length xs ≡ at + suc (length xs) = omega arith in
    subst (λ n. CutsLead graph number vars n ys) e (leads_behind graph number vars (at + 1) xs ys cuts.1)

-- the task of a cut, and the code behind it
pub leads_at : (graph : Graph) (number vars at t : ℕ) (xs ys : List Instr) → CutsLead graph number vars at (xs ++ instr.Cut t ∷ ys)
    → slice_get graph.tasks t ≡ Some (keyed_task number vars (at + length xs + 1) ys)
leads_at graph number vars at t xs ys cuts = (leads_behind graph number vars at xs (instr.Cut t ∷ ys) cuts).0

carries_here : (graph : Graph) (number vars at : ℕ) (is : List Instr) (i : Instr) → CutLeads graph number vars at is i → CutCarriesLive graph is i
carries_here graph number vars at is (instr.Int n) leads = tt
carries_here graph number vars at is (instr.Load v) leads = tt
carries_here graph number vars at is (instr.Store v) leads = tt
carries_here graph number vars at is instr.Pop leads = tt
carries_here graph number vars at is (instr.Bin op type) leads = tt
carries_here graph number vars at is (instr.Cast type) leads = tt
carries_here graph number vars at is instr.Turn leads = tt
carries_here graph number vars at is instr.Key leads = tt
carries_here graph number vars at is (instr.Access field m) leads = tt
carries_here graph number vars at is (instr.Cut t) leads = λ to there.
    let same : keyed_task number vars at is ≡ to = (let e = sym leads ∙ there in cc) in
    subst (λ (x : Task). EachPasses (is_live is) x.vars) same (passes_filter (is_live is) (range_with_len 0 vars))
carries_here graph number vars at is instr.Return leads = tt
carries_here graph number vars at is instr.ReturnVoid leads = tt

-- cuts that lead to the tasks behind them carry what is live there
pub carries_live : (graph : Graph) (number vars at : ℕ) (code : List Instr) → CutsLead graph number vars at code → CutsCarryLive graph code
carries_live graph number vars at [] cuts = tt
carries_live graph number vars at (i ∷ is) cuts = (carries_here graph number vars (at + 1) is i cuts.0, carries_live graph number vars (at + 1) is cuts.1)

-- ---- cuts in their order

abbrev pub CutIs : ℕ → Instr → Type 0
CutIs next (instr.Cut t) = t ≡ next
CutIs next _ = Unit {0}

abbrev pub after_cut : ℕ → Instr → ℕ
after_cut next (instr.Cut t) = next + 1
after_cut next _ = next

-- the cuts have the numbers from this one on, up to the last
abbrev pub CutsAre : ℕ → List Instr → ℕ → Type 0
CutsAre next [] last = next ≡ last
CutsAre next (i ∷ is) last = CutIs next i × CutsAre (after_cut next i) is last

are_here : (next last : ℕ) (i : Instr) (is : List Instr) → IsPlain i → CutsAre next is last → CutsAre next (i ∷ is) last
are_here next last (instr.Int n) is plain h = (tt, h)
are_here next last (instr.Load v) is plain h = (tt, h)
are_here next last (instr.Store v) is plain h = (tt, h)
are_here next last instr.Pop is plain h = (tt, h)
are_here next last (instr.Bin op type) is plain h = (tt, h)
are_here next last (instr.Cast type) is plain h = (tt, h)
are_here next last instr.Turn is plain h = (tt, h)
are_here next last instr.Key is plain h = (tt, h)
are_here next last (instr.Access field m) is plain h = absurd plain
are_here next last (instr.Cut t) is plain h = absurd plain
are_here next last instr.Return is plain h = (tt, h)
are_here next last instr.ReturnVoid is plain h = (tt, h)

are_behind : (next last : ℕ) (xs ys : List Instr) → ArePlain xs → CutsAre next ys last → CutsAre next (xs ++ ys) last
are_behind next last [] ys plain h = h
are_behind next last (x ∷ xs) ys plain h = are_here next last x (xs ++ ys) plain.0 (are_behind next last xs ys plain.1 h)

are_mark : (p : Point) (last : ℕ) (key : Sum) (ys : List Instr) (b : Bool) → CutsAre (if b then p.task else p.task + 1) ys last
    → CutsAre p.task ((if b then [] else long_code p.scope key ++ (instr.Turn ∷ instr.Cut p.task ∷ [])) ++ ys) last
are_mark p last key ys true h = h
are_mark p last key ys false h =
    let code : List Instr = instr.Turn ∷ instr.Cut p.task ∷ [] in
    subst (λ is. CutsAre p.task is last) (sym (append_assoc (long_code p.scope key) code ys))
    (are_behind p.task last (long_code p.scope key) (code ++ ys) (plain_long p.scope key) (tt, (refl, h)))

are_statement : (fields scope : List (List ℕ)) (next last : ℕ) (st : Statement) (ys : List Instr) → CutsAre next ys last → CutsAre next (unmarked_statement fields scope st ++ ys) last
are_statement fields scope next last (s.Get local field key) ys h =
    let access : List Instr = instr.Access (number_in fields field) method.Get ∷ instr.Store (length scope) ∷ [] in
    subst (λ is. CutsAre next is last) (sym (append_assoc (key_code scope key) access ys)) (are_behind next last (key_code scope key) (access ++ ys) (plain_key scope key) (tt, (tt, h)))
are_statement fields scope next last (s.Set local value) ys h =
    let store : List Instr = instr.Store (length scope) ∷ [] in
    subst (λ is. CutsAre next is last) (sym (append_assoc (long_code scope value) store ys)) (are_behind next last (long_code scope value) (store ++ ys) (plain_long scope value) (tt, h))
are_statement fields scope next last (s.Put field key value) ys h =
    let access : List Instr = instr.Access (number_in fields field) method.Put ∷ [] in
    subst (λ is. CutsAre next is last) (sym (append_assoc (key_code scope key) (long_code scope value ++ access) ys ∙ ap (λ xs. key_code scope key ++ xs) (append_assoc (long_code scope value) access ys)))
    (are_behind next last (key_code scope key) (long_code scope value ++ (access ++ ys)) (plain_key scope key)
    (are_behind next last (long_code scope value) (access ++ ys) (plain_long scope value) (tt, h)))

are_ending : (fields scope : List (List ℕ)) (next : ℕ) (end : Ending) → CutsAre next (unmarked_ending fields scope end) next
are_ending fields scope next ending.Nothing = (tt, refl)
are_ending fields scope next (ending.Get field key) =
    are_behind next next (key_code scope key) (instr.Access (number_in fields field) method.Get ∷ instr.Return ∷ []) (plain_key scope key) (tt, (tt, refl))
are_ending fields scope next (ending.Sum value) = are_behind next next (long_code scope value) (instr.Return ∷ []) (plain_long scope value) (tt, refl)

-- a mark in front of what has its cuts from the next task on
are_marked : (fields : List (List ℕ)) (p : Point) (ss : List Statement) (end : Ending) (last : ℕ) → CutsAre p.task (first_mark p (first_access ss end) ++ unmarked_code fields p ss end) last
    → CutsAre p.task (body_code fields p ss end) last
are_marked fields p ss end last h = subst (λ is. CutsAre p.task is last) (sym (body_split fields p ss end)) h

pub are_body : (fields : List (List ℕ)) (p : Point) (ss : List Statement) (end : Ending)
    → CutsAre p.task (body_code fields p ss end) (task_at_end (point_at_end p ss) end)
are_body fields p [] ending.Nothing = (tt, refl)
are_body fields p [] (ending.Sum value) = are_ending fields p.scope p.task (ending.Sum value)
are_body fields p [] (ending.Get field key) =
    let e = ending.Get field key in
    let last = task_at_end p e in
    are_marked fields p [] e last (are_mark p last key (unmarked_ending fields p.scope e) (same_site p.site (written_site field key)) (are_ending fields p.scope last e))
are_body fields p (s.Set local value ∷ ss) end =
    let st = s.Set local value in
    let next = point_after st p in
    let last = task_at_end (point_at_end next ss) end in
    are_statement fields p.scope p.task last st (body_code fields next ss end) (are_body fields next ss end)
are_body fields p (s.Get local field key ∷ ss) end =
    let st = s.Get local field key in
    let next = point_after st p in
    let last = task_at_end (point_at_end next ss) end in
    are_marked fields p (st ∷ ss) end last
    (are_mark p last key (unmarked_statement fields p.scope st ++ body_code fields next ss end) (same_site p.site (written_site field key))
    (are_statement fields p.scope next.task last st (body_code fields next ss end) (are_body fields next ss end)))
are_body fields p (s.Put field key value ∷ ss) end =
    let st = s.Put field key value in
    let next = point_after st p in
    let last = task_at_end (point_at_end next ss) end in
    are_marked fields p (st ∷ ss) end last
    (are_mark p last key (unmarked_statement fields p.scope st ++ body_code fields next ss end) (same_site p.site (written_site field key))
    (are_statement fields p.scope next.task last st (body_code fields next ss end) (are_body fields next ss end)))

-- as many tasks as the cuts have numbers
tasks_here : (number vars at next last : ℕ) (i : Instr) (is : List Instr) → CutsAre next (i ∷ is) last
    → ((n : ℕ) → CutsAre n is last → n + length (cut_tasks number vars (at + 1) is) ≡ last) → next + length (cut_tasks number vars at (i ∷ is)) ≡ last
tasks_here number vars at next last (instr.Int n) is cuts later = later next cuts.1
tasks_here number vars at next last (instr.Load v) is cuts later = later next cuts.1
tasks_here number vars at next last (instr.Store v) is cuts later = later next cuts.1
tasks_here number vars at next last instr.Pop is cuts later = later next cuts.1
tasks_here number vars at next last (instr.Bin op type) is cuts later = later next cuts.1
tasks_here number vars at next last (instr.Cast type) is cuts later = later next cuts.1
tasks_here number vars at next last instr.Turn is cuts later = later next cuts.1
tasks_here number vars at next last instr.Key is cuts later = later next cuts.1
tasks_here number vars at next last (instr.Access field m) is cuts later = later next cuts.1
tasks_here number vars at next last (instr.Cut t) is cuts later = omega (arith, later (next + 1) cuts.1)
tasks_here number vars at next last instr.Return is cuts later = later next cuts.1
tasks_here number vars at next last instr.ReturnVoid is cuts later = later next cuts.1

pub length-cut_tasks : (number vars at next last : ℕ) (code : List Instr) → CutsAre next code last → next + length (cut_tasks number vars at code) ≡ last
length-cut_tasks number vars at next last [] cuts = omega (arith, cuts)
length-cut_tasks number vars at next last (i ∷ is) cuts = tasks_here number vars at next last i is cuts (λ n cs. length-cut_tasks number vars (at + 1) n last is cs)

-- tasks from this number on, in the order of the cuts
abbrev pub TasksAre : Graph → ℕ → List Task → Type 0
TasksAre graph next ts = (k : ℕ) (t : Task) → slice_get ts k ≡ Some t → slice_get graph.tasks (next + k) ≡ Some t

leads_plain : (graph : Graph) (number vars at next : ℕ) (i : Instr) (is : List Instr) (last : ℕ)
    → TasksAre graph next (cut_tasks number vars at (i ∷ is)) → CutsAre next (i ∷ is) last
    → ((n : ℕ) → TasksAre graph n (cut_tasks number vars (at + 1) is) → CutsAre n is last → CutsLead graph number vars (at + 1) is)
    → CutsLead graph number vars at (i ∷ is)
leads_plain graph number vars at next (instr.Int n) is last tasks cuts later = (tt, later next tasks cuts.1)
leads_plain graph number vars at next (instr.Load v) is last tasks cuts later = (tt, later next tasks cuts.1)
leads_plain graph number vars at next (instr.Store v) is last tasks cuts later = (tt, later next tasks cuts.1)
leads_plain graph number vars at next instr.Pop is last tasks cuts later = (tt, later next tasks cuts.1)
leads_plain graph number vars at next (instr.Bin op type) is last tasks cuts later = (tt, later next tasks cuts.1)
leads_plain graph number vars at next (instr.Cast type) is last tasks cuts later = (tt, later next tasks cuts.1)
leads_plain graph number vars at next instr.Turn is last tasks cuts later = (tt, later next tasks cuts.1)
leads_plain graph number vars at next instr.Key is last tasks cuts later = (tt, later next tasks cuts.1)
leads_plain graph number vars at next (instr.Access field m) is last tasks cuts later = (tt, later next tasks cuts.1)
leads_plain graph number vars at next (instr.Cut t) is last tasks cuts later =
    let e : next + 0 ≡ t = omega (arith, cuts.0) in (
      ap (slice_get graph.tasks) (sym e) ∙ tasks 0 (keyed_task number vars (at + 1) is) refl,
      later (next + 1) (λ k there at_k. (let f : next + suc k ≡ next + 1 + k = omega arith in ap (slice_get graph.tasks) (sym f) ∙ tasks (suc k) there at_k)) cuts.1,
    )
leads_plain graph number vars at next instr.Return is last tasks cuts later = (tt, later next tasks cuts.1)
leads_plain graph number vars at next instr.ReturnVoid is last tasks cuts later = (tt, later next tasks cuts.1)

-- cuts with the numbers of the tasks lead to them
pub leads_from : (graph : Graph) (number vars at next last : ℕ) (code : List Instr) → TasksAre graph next (cut_tasks number vars at code) → CutsAre next code last
    → CutsLead graph number vars at code
leads_from graph number vars at next last [] tasks cuts = tt
leads_from graph number vars at next last (i ∷ is) tasks cuts = leads_plain graph number vars at next i is last tasks cuts (λ n ts cs. leads_from graph number vars (at + 1) n last is ts cs)
