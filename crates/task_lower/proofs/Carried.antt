-- Arguments that are carried to the visits.
use Rattle.std.proofs.Common.{◌≡◌, ℕ, suc, ◌+◌, List, [], ◌∷◌, ◌++◌, length, map, refl, sym, ap, subst, ◌∙◌, append_assoc, length-append, arith}
use Rattle.std.proofs.lemmas.List.{append-nil}
use Rattle.std.proofs.lemmas.List.FromFn.{map-range_with_len_more, length-map-range_with_len}
use Rattle.std.specs.List.{range_with_len, flat_map}
use Rattle.sdg_base.specs.declared.value_type.ValueType.{ValueType}
use Rattle.flat_code.specs.declared.graph.Instr.{Instr}
use Rattle.flat_code.specs.declared.graph.Instr.TheVariants as instr
use Rattle.flat_code.specs.declared.graph.VariableType.TheVariants.{One}
use Rattle.access_blocks.specs.declared.body.Expression.{Expression}
use Rattle.access_blocks.specs.declared.body.Gather.{Gather}
use Rattle.body_code.specs.Typing.{Context}
use Rattle.body_code.specs.ExpressionCode.{code_of, behind}
use Rattle.body_code.specs.StatementCode.{Scope, stored_from, stored, visit, field_name, signature_of, arguments_of, var_type, then_piece, cut, gather}
use Rattle.task_lower.specs.declared.draft.Draft.{Draft}
use Rattle.task_lower.specs.Pushing.{Pushes}
use Rattle.task_lower.specs.Drafting.{Emits}
use Rattle.task_lower.proofs.Emitted.{then_emitted}

pub loaded_more : (first n v : ℕ) (s0 s1 s2 : List Instr) → v ≡ first + n → s1 ≡ s0 ++ map instr.Load (range_with_len first n) → s2 ≡ s1 ++ instr.Load v ∷ []
    → s2 ≡ s0 ++ map instr.Load (range_with_len first (n + 1))
loaded_more first n v s0 s1 s2 is_v e f =
    f ∙ ap (λ s. s ++ instr.Load v ∷ []) e ∙ append_assoc s0 (map instr.Load (range_with_len first n)) (instr.Load v ∷ [])
    ∙ ap (λ is. s0 ++ is) (sym (map-range_with_len_more (λ x. instr.Load x) first n v (sym is_v)))

-- ---- arguments that are stored

stored_more_from : (c : Context) (xs : List Expression) (x : Expression) (v at : ℕ)
    → (stored_from c (xs ++ x ∷ []) v).from at ≡ (stored_from c xs v).from at ++ (behind (code_of c x) (instr.Store (v + length xs))).from (at + (stored_from c xs v).size)
stored_more_from c [] x v at =
    append-nil ((behind (code_of c x) (instr.Store v)).from at)
    ∙ ap (λ k. (behind (code_of c x) (instr.Store k)).from at) (let e : v ≡ v + 0 = omega arith in e)
    ∙ ap (λ k. (behind (code_of c x) (instr.Store (v + 0))).from k) (let e : at ≡ at + 0 = omega arith in e)
stored_more_from c (y ∷ xs) x v at =
    let d = behind (code_of c y) (instr.Store v) in
    let e = behind (code_of c x) (instr.Store (v + length (y ∷ xs))) in
    let rest = stored_from c xs (suc v) in
    ap (λ is. d.from at ++ is) (stored_more_from c xs x (suc v) (at + d.size))
    ∙ sym (append_assoc (d.from at) (rest.from (at + d.size)) ((behind (code_of c x) (instr.Store (suc v + length xs))).from (at + d.size + rest.size)))
    ∙ ap (λ k. (d.from at ++ rest.from (at + d.size)) ++ (behind (code_of c x) (instr.Store k)).from (at + d.size + rest.size)) (let f : suc v + length xs ≡ v + length (y ∷ xs) = omega arith in f)
    ∙ ap (λ k. (d.from at ++ rest.from (at + d.size)) ++ e.from k) (let f : at + d.size + rest.size ≡ at + (d.size + rest.size) = omega arith in f)

stored_more_size : (c : Context) (xs : List Expression) (x : Expression) (v : ℕ) → (stored_from c (xs ++ x ∷ []) v).size ≡ (stored_from c xs v).size + ((code_of c x).size + 1)
stored_more_size c [] x v = omega arith
stored_more_size c (y ∷ xs) x v = let e = stored_more_size c xs x (suc v) in omega (arith, e)

pub stored_more : (c : Context) (xs more : List Expression) (x : Expression) (v w : ℕ) (s0 s1 s2 s3 : List Instr) → more ≡ xs ++ x ∷ [] → w ≡ v + length xs
    → Pushes (stored_from c xs v) s0 s1 → Pushes (code_of c x) s1 s2 → s3 ≡ s2 ++ instr.Store w ∷ [] → Pushes (stored_from c more v) s0 s3
stored_more c xs more x v w s0 s1 s2 s3 is_more is_w p q r =
    let P : List Expression → Type 0 = λ ys. Pushes (stored_from c ys v) s0 s3 in
    let l1 = p.long in
    let l2 = q.long in
    let l3 : length s3 ≡ length s2 + 1 = ap length r ∙ length-append s2 (instr.Store w ∷ []) in
    let size = stored_more_size c xs x v in
    let store = λ (k : ℕ). instr.Store k ∷ [] in
    subst P (sym is_more) (record {
      is =
          r ∙ ap (λ k. s2 ++ store k) is_w
          ∙ ap (λ s. s ++ store (v + length xs)) (q.is ∙ ap (λ k. s1 ++ (code_of c x).from k) l1 ∙ ap (λ s. s ++ (code_of c x).from (length s0 + (stored_from c xs v).size)) p.is)
          ∙ append_assoc (s0 ++ (stored_from c xs v).from (length s0)) ((code_of c x).from (length s0 + (stored_from c xs v).size)) (store (v + length xs))
          ∙ append_assoc s0 ((stored_from c xs v).from (length s0)) ((code_of c x).from (length s0 + (stored_from c xs v).size) ++ store (v + length xs))
          ∙ ap (λ is. s0 ++ is) (sym (stored_more_from c xs x v (length s0)));
      long = omega (arith, l1, l2, l3, size);
    })

stored_size : (c : Context) (xs : List Expression) (v w : ℕ) → (stored_from c xs v).size ≡ (stored_from c xs w).size
stored_size c [] v w = refl
stored_size c (x ∷ xs) v w = ap (λ n. (code_of c x).size + 1 + n) (stored_size c xs (suc v) (suc w))

pub stored_emitted : (c : Context) (xs : List Expression) (s0 s1 : Draft) → Pushes (stored_from c xs (length s0.variables)) s0.code s1.code → s1.tasks ≡ s0.tasks → s1.variables ≡ s0.variables → Emits (stored c xs) s0 s1 []
stored_emitted c xs s0 s1 p tasks variables =
    let long = p.long in
    let size = stored_size c xs (length s0.variables) 0 in
    record { is = λ exits. p.is; long = omega (arith, long, size); within = tt; tasks = omega (arith, tasks); variables = variables ∙ sym (append-nil s0.variables) }

-- ---- visits

pub visit_emitted : (scope : Scope) (g : Gather) (s0 s1 : Draft) (loaded accessed : List Instr) (types : List ValueType)
    → loaded ≡ s0.code ++ map instr.Load (range_with_len (length s0.variables) (length g.args)) → accessed ≡ loaded ++ instr.Access (field_name scope g.field) g.method ∷ []
    → s1.code ≡ accessed ++ instr.Part s0.tasks ∷ [] → s1.tasks ≡ s0.tasks + 1 → types ≡ arguments_of (signature_of scope g.field g.method)
    → s1.variables ≡ s0.variables ++ map One (flat_map var_type types) → Emits (visit scope g) s0 s1 []
visit_emitted scope g s0 s1 loaded accessed types is_loaded is_accessed code tasks is_types variables =
    let loads = map instr.Load (range_with_len (length s0.variables) (length g.args)) in
    let access = instr.Access (field_name scope g.field) g.method in
    let part = instr.Part s0.tasks in
    let whole : s1.code ≡ s0.code ++ (loads ++ (access ∷ part ∷ [])) =
    code ∙ ap (λ s. s ++ part ∷ []) (is_accessed ∙ ap (λ s. s ++ access ∷ []) is_loaded)
    ∙ append_assoc (s0.code ++ loads) (access ∷ []) (part ∷ [])
    ∙ append_assoc s0.code loads (access ∷ part ∷ []) in
    record {
      is = λ exits. whole;
      long =
          let l = ap length whole ∙ length-append s0.code (loads ++ (access ∷ part ∷ [])) in
          let m = length-append loads (access ∷ part ∷ []) in
          let n = length-map-range_with_len (λ x. instr.Load x) (length s0.variables) (length g.args) in
          omega (arith, l, m, n);
      within = tt;
      tasks = tasks;
      variables = variables ∙ ap (λ (ts : List ValueType). s0.variables ++ map One (flat_map var_type ts)) is_types;
    }

pub gather_emitted : (scope : Scope) (g : Gather) (s0 s1 s2 s3 : Draft) → Emits (stored scope.context g.args) s0 s1 [] → Emits cut s1 s2 [] → Emits (visit scope g) s2 s3 [] → Emits (gather scope g) s0 s3 []
gather_emitted scope g s0 s1 s2 s3 a b c = then_emitted (stored scope.context g.args) (then_piece cut (visit scope g)) s0 s1 s3 [] [] a (then_emitted cut (visit scope g) s1 s2 s3 [] [] b c)
