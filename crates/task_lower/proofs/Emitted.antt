-- Pieces behind pieces.
use Rattle.std.proofs.Common.{◌≡◌, ℕ, suc, ◌+◌, List, [], ◌∷◌, ◌++◌, length, map, slice_set, Option, None, Some, refl, sym, ap, subst, ◌∙◌, append_assoc, length-append, arith}
use Rattle.std.proofs.lemmas.List.{append-nil}
use Rattle.flat_code.specs.declared.graph.Instr.{Instr}
use Rattle.flat_code.specs.declared.graph.Instr.TheVariants as instr
use Rattle.flat_code.specs.declared.graph.VariableType.TheVariants.{One}
use Rattle.flat_code.specs.declared.graph.VarType.{VarType}
use Rattle.access_blocks.specs.declared.body.Expression.{Expression}
use Rattle.body_code.specs.Codes.{Code, nothing}
use Rattle.body_code.specs.Typing.{Context}
use Rattle.body_code.specs.ExpressionCode.{code_of}
use Rattle.body_code.specs.StatementCode.{Place, Exits, Piece, moved, behind_piece, of_code, of_instructions, then_piece, in_order, branches, guarded, jumped_over, tested, pass, next_pass, passes, cut}
use Rattle.task_lower.specs.declared.draft.Draft.{Draft}
use Rattle.task_lower.specs.declared.draft.Exit.{Exit}
use Rattle.task_lower.specs.declared.draft.Exit.TheVariants.{Test}
use Rattle.task_lower.specs.declared.draft.Hole.{Hole}
use Rattle.task_lower.specs.Pushing.{Pushes}
use Rattle.task_lower.specs.Drafting.{jump, filled, exit_piece, place_of, Emits}
use Rattle.task_lower.proofs.Pushed.{nothing_pushed, set_at_seam}
use Rattle.task_lower.proofs.Filled.{set_long, filled_long, filled_front, filled_set, filled_more, within_wider, within_both}

map_both : {A B : Type 0} (f : A → B) (xs ys : List A) → map f (xs ++ ys) ≡ map f xs ++ map f ys
map_both f [] ys = refl
map_both f (x ∷ xs) ys = ap (λ rest. f x ∷ rest) (map_both f xs ys)

map_long : {A B : Type 0} (f : A → B) (xs : List A) → length (map f xs) ≡ length xs
map_long f [] = refl
map_long f (x ∷ xs) = ap suc (map_long f xs)

-- A draft to whose code some code was added.
pub code_emitted : (c : Code) (old new : Draft) → Pushes c old.code new.code → new.tasks ≡ old.tasks → new.variables ≡ old.variables → Emits (of_code c) old new []
code_emitted c old new p tasks variables = record {
  is = λ exits. p.is;
  long = p.long;
  within = tt;
  tasks = omega (arith, tasks);
  variables = variables ∙ sym (append-nil old.variables);
}

place_is : (a b a_2 b_2 : ℕ) (c c_2 : ℕ) → a ≡ a_2 → b ≡ b_2 → c ≡ c_2 → (let p : Place = record { at = a; task = b; variable = c } in p) ≡ (let p : Place = record { at = a_2; task = b_2; variable = c_2 } in p)
place_is a b a_2 b_2 c c_2 e f g = cc

-- the place behind what was emitted
pub next_place : (p : Piece) (s0 s1 : Draft) (holes : List Hole) → Emits p s0 s1 holes → place_of s1 ≡ behind_piece (place_of s0) p
next_place p s0 s1 holes e =
    place_is (length s1.code) s1.tasks (length s0.code + p.size) (s0.tasks + p.tasks) (length s1.variables) (length s0.variables + length p.carried)
    e.long e.tasks
    (ap length e.variables ∙ length-append s0.variables (map One p.carried) ∙ ap (λ n. length s0.variables + n) (map_long One p.carried))

pub then_emitted : (a b : Piece) (s0 s1 s2 : Draft) (h g : List Hole) → Emits a s0 s1 h → Emits b s1 s2 g → Emits (then_piece a b) s0 s2 (h ++ g)
then_emitted a b s0 s1 s2 h g p q =
    let l1 = p.long in
    let l2 = q.long in
    let t1 = p.tasks in
    let t2 = q.tasks in
    record {
      is = λ exits.
          filled_more s2.code h g exits
          ∙ ap (λ c. filled c h exits) (q.is exits)
          ∙ filled_front s1.code (b.from (place_of s1) exits) (length s0.code) h exits p.within
          ∙ ap (λ c. c ++ b.from (place_of s1) exits) (p.is exits)
          ∙ ap (λ at. (s0.code ++ a.from (place_of s0) exits) ++ b.from at exits) (next_place a s0 s1 h p)
          ∙ append_assoc s0.code (a.from (place_of s0) exits) (b.from (behind_piece (place_of s0) a) exits);
      long = omega (arith, l1, l2);
      within =
          within_both (length s0.code) (length s2.code) h g
          (within_wider (length s0.code) (length s1.code) (length s0.code) (length s2.code) h (omega arith) (omega (arith, l2)) p.within)
          (within_wider (length s1.code) (length s2.code) (length s0.code) (length s2.code) g (omega (arith, l1)) (omega arith) q.within);
      tasks = omega (arith, t1, t2);
      variables =
          q.variables ∙ ap (λ vs. vs ++ map One b.carried) p.variables ∙ append_assoc s0.variables (map One a.carried) (map One b.carried)
          ∙ ap (λ vs. s0.variables ++ vs) (sym (map_both One a.carried b.carried));
    }

abbrev exits_of : ℕ → ℕ → Exits
exits_of b c = record { break_to = b; continue_to = c }

-- ---- several in order

behind_nothing : (p : Place) → behind_piece p (of_code nothing) ≡ p
behind_nothing p = place_is (p.at + 0) (p.task + 0) p.at p.task (p.variable + 0) p.variable (omega arith) (omega arith) (omega arith)

behind_both : (p : Place) (a b : Piece) → behind_piece (behind_piece p a) b ≡ behind_piece p (then_piece a b)
behind_both p a b =
    place_is (p.at + a.size + b.size) (p.task + a.tasks + b.tasks) (p.at + (a.size + b.size)) (p.task + (a.tasks + b.tasks)) (p.variable + length a.carried + length b.carried)
    (p.variable + length (a.carried ++ b.carried)) (omega arith) (omega arith) (let l = length-append a.carried b.carried in omega (arith, l))

snoc_from : (ps : List Piece) (q : Piece) (p : Place) (exits : Exits) → (in_order (ps ++ q ∷ [])).from p exits ≡ (in_order ps).from p exits ++ q.from (behind_piece p (in_order ps)) exits
snoc_from [] q p exits = append-nil (q.from p exits) ∙ ap (λ at. q.from at exits) (sym (behind_nothing p))
snoc_from (r ∷ ps) q p exits =
    ap (λ is. r.from p exits ++ is) (snoc_from ps q (behind_piece p r) exits)
    ∙ sym (append_assoc (r.from p exits) ((in_order ps).from (behind_piece p r) exits) (q.from (behind_piece (behind_piece p r) (in_order ps)) exits))
    ∙ ap (λ at. (r.from p exits ++ (in_order ps).from (behind_piece p r) exits) ++ q.from at exits) (behind_both p r (in_order ps))

snoc_size : (ps : List Piece) (q : Piece) → (in_order (ps ++ q ∷ [])).size ≡ (in_order ps).size + q.size
snoc_size [] q = omega arith
snoc_size (r ∷ ps) q = let e = snoc_size ps q in omega (arith, e)

snoc_tasks : (ps : List Piece) (q : Piece) → (in_order (ps ++ q ∷ [])).tasks ≡ (in_order ps).tasks + q.tasks
snoc_tasks [] q = omega arith
snoc_tasks (r ∷ ps) q = let e = snoc_tasks ps q in omega (arith, e)

snoc_carried : (ps : List Piece) (q : Piece) → (in_order (ps ++ q ∷ [])).carried ≡ (in_order ps).carried ++ q.carried
snoc_carried [] q = append-nil q.carried
snoc_carried (r ∷ ps) q = ap (λ ts. r.carried ++ ts) (snoc_carried ps q) ∙ sym (append_assoc r.carried (in_order ps).carried q.carried)

pub snoc_emitted : (ps : List Piece) (q : Piece) (s0 s1 s2 : Draft) (h g : List Hole) → Emits (in_order ps) s0 s1 h → Emits q s1 s2 g → Emits (in_order (ps ++ q ∷ [])) s0 s2 (h ++ g)
snoc_emitted ps q s0 s1 s2 h g a b =
    let both = then_emitted (in_order ps) q s0 s1 s2 h g a b in
    let long = both.long in
    let tasks = both.tasks in
    let size = snoc_size ps q in
    let many = snoc_tasks ps q in
    record {
      is = λ exits. both.is exits ∙ ap (λ is. s0.code ++ is) (sym (snoc_from ps q (place_of s0) exits));
      long = omega (arith, long, size);
      within = both.within;
      tasks = omega (arith, tasks, many);
      variables = both.variables ∙ ap (λ (ts : List VarType). s0.variables ++ map One ts) (sym (snoc_carried ps q));
    }

-- ---- a jump before a piece

abbrev jump_before : (Place → Instr) → Piece → Piece
jump_before j body = record { size = body.size + 1; tasks = body.tasks; carried = body.carried; from = λ p exits. j p ∷ body.from (moved 1 p) exits }

jump_before_emitted : (j : Place → Instr) (i : Instr) (body : Piece) (s0 s1 s2 s3 : Draft) (h : List Hole) (at : ℕ)
    → at ≡ length s0.code → s1.code ≡ s0.code ++ i ∷ [] → s1.tasks ≡ s0.tasks → s1.variables ≡ s0.variables
    → Emits body s1 s2 h
    → s3.code ≡ slice_set s2.code at (j (place_of s0)) → s3.tasks ≡ s2.tasks → s3.variables ≡ s2.variables
    → Emits (jump_before j body) s0 s3 h
jump_before_emitted j i body s0 s1 s2 s3 h at is_at code1 tasks1 variables1 b code3 tasks3 variables3 =
    let long1 : length s1.code ≡ length s0.code + 1 = ap length code1 ∙ length-append s0.code (i ∷ []) in
    let long2 = b.long in
    let long3 : length s3.code ≡ length s2.code = ap length code3 ∙ set_long s2.code at (j (place_of s0)) in
    let place1 : place_of s1 ≡ moved 1 (place_of s0) =
    place_is (length s1.code) s1.tasks (length s0.code + 1) s0.tasks (length s1.variables) (length s0.variables) long1 tasks1 (ap length variables1) in
    let tasks2 = b.tasks in
    record {
      is = λ exits.
          ap (λ c. filled c h exits) code3
          ∙ filled_set s2.code at (j (place_of s0)) (length s1.code) (length s2.code) h exits (omega (arith, is_at, long1)) b.within
          ∙ set_at_seam (filled s2.code h exits) s0.code i (body.from (moved 1 (place_of s0)) exits) at (j (place_of s0))
          (b.is exits ∙ ap (λ p. s1.code ++ body.from p exits) place1 ∙ ap (λ c. c ++ body.from (moved 1 (place_of s0)) exits) code1 ∙ append_assoc s0.code (i ∷ []) (body.from (moved 1 (place_of s0)) exits))
          is_at;
      long = omega (arith, long1, long2, long3);
      within = within_wider (length s1.code) (length s2.code) (length s0.code) (length s3.code) h (omega (arith, long1)) (omega (arith, long3)) b.within;
      tasks = omega (arith, tasks1, tasks2, tasks3);
      variables = variables3 ∙ b.variables ∙ ap (λ vs. vs ++ map One body.carried) variables1;
    }

pub guarded_emitted : (over : ℕ) (body : Piece) (s0 s1 s2 s3 : Draft) (h : List Hole) (at : ℕ)
    → at ≡ length s0.code → s1.code ≡ s0.code ++ instr.IfFalse 0 ∷ [] → s1.tasks ≡ s0.tasks → s1.variables ≡ s0.variables
    → Emits body s1 s2 h
    → s3.code ≡ slice_set s2.code at (instr.IfFalse (length s2.code + over)) → s3.tasks ≡ s2.tasks → s3.variables ≡ s2.variables
    → Emits (guarded over body) s0 s3 h
guarded_emitted over body s0 s1 s2 s3 h at is_at code1 tasks1 variables1 b code3 tasks3 variables3 =
    let long1 : length s1.code ≡ length s0.code + 1 = ap length code1 ∙ length-append s0.code (instr.IfFalse 0 ∷ []) in
    let long2 = b.long in
    let target : length s2.code + over ≡ length s0.code + 1 + body.size + over = omega (arith, long1, long2) in
    jump_before_emitted (λ p. instr.IfFalse (p.at + 1 + body.size + over)) (instr.IfFalse 0) body s0 s1 s2 s3 h at is_at code1 tasks1 variables1 b
    (code3 ∙ ap (λ n. slice_set s2.code at (instr.IfFalse n)) target) tasks3 variables3

pub jumped_emitted : (body : Piece) (s0 s1 s2 s3 : Draft) (h : List Hole) (at : ℕ)
    → at ≡ length s0.code → s1.code ≡ s0.code ++ instr.Jump 0 ∷ [] → s1.tasks ≡ s0.tasks → s1.variables ≡ s0.variables
    → Emits body s1 s2 h
    → s3.code ≡ slice_set s2.code at (instr.Jump (length s2.code)) → s3.tasks ≡ s2.tasks → s3.variables ≡ s2.variables
    → Emits (jumped_over body) s0 s3 h
jumped_emitted body s0 s1 s2 s3 h at is_at code1 tasks1 variables1 b code3 tasks3 variables3 =
    let long1 : length s1.code ≡ length s0.code + 1 = ap length code1 ∙ length-append s0.code (instr.Jump 0 ∷ []) in
    let long2 = b.long in
    let target : length s2.code ≡ length s0.code + 1 + body.size = omega (arith, long1, long2) in
    jump_before_emitted (λ p. instr.Jump (p.at + 1 + body.size)) (instr.Jump 0) body s0 s1 s2 s3 h at is_at code1 tasks1 variables1 b
    (code3 ∙ ap (λ n. slice_set s2.code at (instr.Jump n)) target) tasks3 variables3

-- ---- jumps out of a loop, and loops

pub exit_emitted : (exit : Exit) (i : Instr) (s0 s1 : Draft) (at : ℕ) → at ≡ length s0.code → s1.code ≡ s0.code ++ i ∷ [] → s1.tasks ≡ s0.tasks → s1.variables ≡ s0.variables
    → Emits (exit_piece exit) s0 s1 ((let h : Hole = record { at = at; exit = exit } in h) ∷ [])
exit_emitted exit i s0 s1 at is_at code tasks variables =
    let long : length s1.code ≡ length s0.code + 1 = ap length code ∙ length-append s0.code (i ∷ []) in
    record {
      is = λ exits. set_at_seam s1.code s0.code i [] at (jump exit exits) code is_at;
      long = long;
      within = (omega (arith, is_at), omega (arith, is_at, long), tt);
      tasks = omega (arith, tasks);
      variables = variables ∙ sym (append-nil s0.variables);
    }

pub test_emitted : (c : Context) (x : Expression) (s0 s1 s2 : Draft) (holes : List Hole) → Pushes (code_of c x) s0.code s1.code → s1.tasks ≡ s0.tasks → s1.variables ≡ s0.variables
    → Emits (exit_piece Test) s1 s2 holes → Emits (tested c (Some x)) s0 s2 holes
test_emitted c x s0 s1 s2 holes p tasks variables q =
    let both = then_emitted (of_code (code_of c x)) (exit_piece Test) s0 s1 s2 [] holes (code_emitted (code_of c x) s0 s1 p tasks variables) q in
    record { is = both.is; long = both.long; within = both.within; tasks = both.tasks; variables = both.variables }

five_holes : (t b u : List Hole) → (t ++ ([] ++ (b ++ (u ++ ([] ++ []))))) ≡ (t ++ b) ++ u
five_holes t b u = ap (λ (us : List Hole). t ++ (b ++ us)) (append-nil u) ∙ sym (append_assoc t b u)

pub pass_emitted : (c : Context) (test : Option Expression) (update : List Piece) (body : Piece) (again : ℕ) (s0 s1 s2 s3 s4 s5 : Draft) (t b u : List Hole)
    → Emits (tested c test) s0 s1 t → Emits (of_instructions (instr.Turn ∷ [])) s1 s2 [] → Emits body s2 s3 b → Emits (in_order update) s3 s4 u
    → Emits (of_instructions (instr.Jump again ∷ [])) s4 s5 [] → Emits (pass c test update body again) s0 s5 ((t ++ b) ++ u)
pass_emitted c test update body again s0 s1 s2 s3 s4 s5 t b u et en eb eu ej =
    let jumps = instr.Jump again ∷ [] in
    let turns = instr.Turn ∷ [] in
    let none : Emits (in_order []) s5 s5 [] = code_emitted nothing s5 s5 (nothing_pushed s5.code) refl refl in
    let e5 : Emits (in_order (of_instructions jumps ∷ [])) s4 s5 ([] ++ []) = then_emitted (of_instructions jumps) (in_order []) s4 s5 s5 [] [] ej none in
    let e4 : Emits (in_order (in_order update ∷ of_instructions jumps ∷ [])) s3 s5 (u ++ ([] ++ [])) =
    then_emitted (in_order update) (in_order (of_instructions jumps ∷ [])) s3 s4 s5 u ([] ++ []) eu e5 in
    let e3 : Emits (in_order (body ∷ in_order update ∷ of_instructions jumps ∷ [])) s2 s5 (b ++ (u ++ ([] ++ []))) =
    then_emitted body (in_order (in_order update ∷ of_instructions jumps ∷ [])) s2 s3 s5 b (u ++ ([] ++ [])) eb e4 in
    let e2 : Emits (in_order (of_instructions turns ∷ body ∷ in_order update ∷ of_instructions jumps ∷ [])) s1 s5 ([] ++ (b ++ (u ++ ([] ++ [])))) =
    then_emitted (of_instructions turns) (in_order (body ∷ in_order update ∷ of_instructions jumps ∷ [])) s1 s2 s5 [] (b ++ (u ++ ([] ++ []))) en e3 in
    let e1 : Emits (pass c test update body again) s0 s5 (t ++ ([] ++ (b ++ (u ++ ([] ++ []))))) =
    then_emitted (tested c test) (in_order (of_instructions turns ∷ body ∷ in_order update ∷ of_instructions jumps ∷ [])) s0 s1 s5 t ([] ++ (b ++ (u ++ ([] ++ [])))) et e2 in
    let P : List Hole → Type 0 = λ holes. Emits (pass c test update body again) s0 s5 holes in
    subst P (five_holes t b u) e1

pub passes_emitted : (c : Context) (test : Option Expression) (update : List Piece) (body : Piece) (s0 s1 s2 : Draft) (holes : List Hole) (again end next : ℕ)
    → again ≡ length s0.code → Emits (pass c test update body again) s0 s1 holes
    → end ≡ length s1.code → next ≡ next_pass again (again + (tested c test).size + 1 + body.size) update
    → s2.code ≡ filled s1.code holes (exits_of end next) → s2.tasks ≡ s1.tasks → s2.variables ≡ s1.variables
    → Emits (passes c test update body) s0 s2 []
passes_emitted c test update body s0 s1 s2 holes again end next is_again e is_end is_next code tasks variables =
    let at = length s0.code in
    let long = e.long in
    let P : ℕ → Type 0 = λ n. Emits (pass c test update body n) s0 s1 holes in
    let here = subst P is_again e in
    let target : end ≡ at + (pass c test update body 0).size = omega (arith, is_end, long) in
    let on : next ≡ next_pass at (at + (tested c test).size + 1 + body.size) update = is_next ∙ ap (λ n. next_pass n (n + (tested c test).size + 1 + body.size) update) is_again in
    let many = e.tasks in
    record {
      is = λ exits.
          code ∙ here.is (exits_of end next)
          ∙ ap (λ n. s0.code ++ (pass c test update body at).from (place_of s0) (exits_of n next)) target
          ∙ ap (λ n. s0.code ++ (pass c test update body at).from (place_of s0) (exits_of (at + (pass c test update body 0).size) n)) on;
      long = let l = ap length code ∙ filled_long s1.code holes (exits_of end next) in omega (arith, l, is_end, target);
      within = tt;
      tasks = omega (arith, tasks, many);
      variables = variables ∙ e.variables;
    }

-- ---- cuts

pub cut_emitted : (s0 s1 : Draft) → s1.code ≡ s0.code ++ instr.Turn ∷ instr.Cut s0.tasks ∷ [] → s1.tasks ≡ s0.tasks + 1 → s1.variables ≡ s0.variables → Emits cut s0 s1 []
cut_emitted s0 s1 code tasks variables = record {
  is = λ exits. code;
  long = ap length code ∙ length-append s0.code (instr.Turn ∷ instr.Cut s0.tasks ∷ []);
  within = tt;
  tasks = tasks;
  variables = variables ∙ sym (append-nil s0.variables);
}

-- ---- pieces that are put together

assoc_emitted : (a b p : Piece) (s0 s1 : Draft) (h : List Hole) → Emits (then_piece (then_piece a b) p) s0 s1 h → Emits (then_piece a (then_piece b p)) s0 s1 h
assoc_emitted a b p s0 s1 h e =
    let at = place_of s0 in
    let long = e.long in
    let tasks = e.tasks in
    record {
      is = λ exits.
          e.is exits
          ∙ ap (λ is. s0.code ++ is)
          (append_assoc (a.from at exits) (b.from (behind_piece at a) exits) (p.from (behind_piece at (then_piece a b)) exits)
          ∙ ap (λ q. a.from at exits ++ (b.from (behind_piece at a) exits ++ p.from q exits)) (sym (behind_both at a b)));
      long = omega (arith, long);
      within = e.within;
      tasks = omega (arith, tasks);
      variables = e.variables ∙ ap (λ (ts : List VarType). s0.variables ++ map One ts) (append_assoc a.carried b.carried p.carried);
    }

pub marked_emitted : (key body : Piece) (s0 s1 s2 : Draft) (h : List Hole) → Emits (then_piece key cut) s0 s1 [] → Emits body s1 s2 h → Emits (then_piece key (then_piece cut body)) s0 s2 h
marked_emitted key body s0 s1 s2 h a b = assoc_emitted key cut body s0 s2 h (then_emitted (then_piece key cut) body s0 s1 s2 [] h a b)

pub alone_emitted : (test : Code) (first : Piece) (s0 s1 s2 : Draft) (h : List Hole) → Pushes test s0.code s1.code → s1.tasks ≡ s0.tasks → s1.variables ≡ s0.variables → Emits (guarded 0 first) s1 s2 h
    → Emits (branches test first None) s0 s2 h
alone_emitted test first s0 s1 s2 h p tasks variables a = then_emitted (of_code test) (guarded 0 first) s0 s1 s2 [] h (code_emitted test s0 s1 p tasks variables) a

pub else_emitted : (test : Code) (first second : Piece) (s0 s1 s2 s3 : Draft) (h g : List Hole) → Pushes test s0.code s1.code → s1.tasks ≡ s0.tasks → s1.variables ≡ s0.variables → Emits (guarded 1 first) s1 s2 h
    → Emits (jumped_over second) s2 s3 g → Emits (branches test first (Some second)) s0 s3 (h ++ g)
else_emitted test first second s0 s1 s2 s3 h g p tasks variables a b =
    then_emitted (of_code test) (then_piece (guarded 1 first) (jumped_over second)) s0 s1 s3 [] (h ++ g) (code_emitted test s0 s1 p tasks variables)
    (then_emitted (guarded 1 first) (jumped_over second) s1 s2 s3 h g a b)
