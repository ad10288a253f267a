-- The header of a `for`: what reading it takes, and that its tokens are read as it.
use Rattle.std.proofs.Common.{◌≡◌, ℕ, ◌≤◌, true, false, List, [], ◌∷◌, ◌++◌, map, Option, Some, None, Result, Ok, Err, inl, inr, refl, sym, ap, ◌∙◌, append_assoc, arith}
use Rattle.java_tree.specs.declared.token.Kind.TheVariants as k
use Rattle.java_tree.specs.declared.token.Reserved.TheVariants as word
use Rattle.java_tree.specs.declared.tree.Simple.{Simple}
use Rattle.java_tree.specs.declared.tree.ForInit.{ForInit}
use Rattle.java_tree.specs.declared.tree.ForInit.TheVariants as for_init
use Rattle.java_tree.specs.declared.tree.Expr.{Expr}
use Rattle.java_tree.specs.Tokens.{Kinds, in_parentheses, expr_tokens, init_tokens, condition, header_tokens}
use Rattle.java_tree.specs.Placed.{all_of, is_placed_expr, is_placed_option, is_placed_simple, is_placed_init}
use Rattle.java_tree.specs.Heights.{greatest, option_height, expr_height, simple_height, init_height}
use Rattle.java_tree.specs.declared.tree.ForHeader.{ForHeader}
use Rattle.java_parser.specs.Words.{◌>>=◌, Fault, Reading, same_token, begins, after}
use Rattle.java_parser.specs.Members.{comma, semicolon, open_paren, close_paren}
use Rattle.java_parser.specs.Expressions.{expr_at}
use Rattle.java_parser.specs.Simples.{local_ahead, local_at, simples_at}
use Rattle.java_parser.specs.Headers.{init_at, condition_at, update_at, opening_at, closing_at, going_on_at, header_at}
use Rattle.java_parser.proofs.Laws.{bind_ok, chosen, then_is, Takes, Keeps, Again, Any, given, kept, after_takes, after_again, begins_same}
use Rattle.java_parser.proofs.Around.{close_paren_stops}
use Rattle.java_parser.proofs.ExpressionLaws.{expr_takes, expr_keeps, expr_again, expr_not_semicolon}
use Rattle.java_parser.proofs.Ends.{semicolon_ends, paren_ends}
use Rattle.java_parser.proofs.LocalLaws.{local_takes, local_keeps, local_again, local_begins}
use Rattle.java_parser.proofs.SimpleLaws.{SimplesFit, SomeFit, simples_tokens, simples_take, simples_keep, simples_again, simples_begin}

abbrev InitFits : ℕ → ForInit → Type 0
InitFits n i = (is_placed_init i ≡ true) × (init_height i ≤ n)

init_takes : (n : ℕ) → Takes (init_at n) init_tokens
unfolding init_at
init_takes n ks x e =
    elim (chosen (begins semicolon ks) (Ok (for_init.Nothing, ks)) _ (Ok x) e) [
      | inl h ↦ given init_tokens ks (for_init.Nothing, ks) x h.1 refl
      | inr h ↦ elim (chosen (local_ahead ks) _ _ (Ok x) h.1) [
        | inl g ↦ let a = bind_ok (local_at n ks) _ x g.1 in given init_tokens ks (for_init.Local a.0.0, a.0.1) x a.2 (local_takes n ks a.0 a.1)
        | inr g ↦ let a = bind_ok (simples_at n ks) _ x g.1 in given init_tokens ks (for_init.Simples a.0.0, a.0.1) x a.2 (simples_take n ks a.0 a.1)
      ]
    ]

some_fit : (n : ℕ) (xs : List Simple) → SomeFit n xs → InitFits n (for_init.Simples xs)
some_fit n [] p = absurd (omega (arith, p.some))
some_fit n (x ∷ xs) p = p.fit

init_keeps : (n : ℕ) → Keeps (init_at n) (InitFits n)
unfolding init_at
init_keeps n ks x e =
    elim (chosen (begins semicolon ks) (Ok (for_init.Nothing, ks)) _ (Ok x) e) [
      | inl h ↦ kept (InitFits n) (for_init.Nothing, ks) x h.1 (refl, omega arith)
      | inr h ↦ elim (chosen (local_ahead ks) _ _ (Ok x) h.1) [
        | inl g ↦ let a = bind_ok (local_at n ks) _ x g.1 in kept (InitFits n) (for_init.Local a.0.0, a.0.1) x a.2 (local_keeps n ks a.0 a.1)
        | inr g ↦ let a = bind_ok (simples_at n ks) _ x g.1 in kept (InitFits n) (for_init.Simples a.0.0, a.0.1) x a.2 (some_fit n a.0.0 (simples_keep n ks a.0 a.1))
      ]
    ]

semicolon_not_comma : (rest : Kinds) → begins comma (semicolon ∷ rest) ≡ false
unfolding begins same_token
semicolon_not_comma rest = refl

init_again : (n : ℕ) (i : ForInit) (rest : Kinds) → InitFits n i → init_at n (init_tokens i ++ (semicolon ∷ rest)) ≡ Ok (i, semicolon ∷ rest)
unfolding init_at
init_again n for_init.Nothing rest p = rw (begins_same semicolon rest refl) refl
init_again n (for_init.Local l) rest p =
    let b = local_begins l (semicolon ∷ rest) in
    rw (b.not_semicolon, b.is_local) (then_is _ _ (l, semicolon ∷ rest) _ (local_again n l (semicolon ∷ rest) p (semicolon_ends rest)) refl)
init_again n (for_init.Simples []) rest p = absurd cc
init_again n (for_init.Simples (x ∷ xs)) rest p =
    let b = simples_begin x xs (semicolon ∷ rest) in
    rw (b.not_semicolon, b.not_local) (then_is _ _ (x ∷ xs, semicolon ∷ rest) _ (simples_again n x xs semicolon rest p (semicolon_not_comma rest) (semicolon_ends rest)) refl)

abbrev ConditionFits : ℕ → Option Expr → Type 0
ConditionFits n c = (is_placed_option is_placed_expr c ≡ true) × (option_height expr_height c ≤ n)

condition_takes : (n : ℕ) → Takes (condition_at n) condition
unfolding condition_at
condition_takes n ks x e =
    elim (chosen (begins semicolon ks) (Ok (None, ks)) _ (Ok x) e) [
      | inl h ↦ given condition ks (None, ks) x h.1 refl
      | inr h ↦ let a = bind_ok (expr_at n ks) _ x h.1 in given condition ks (Some a.0.0, a.0.1) x a.2 (expr_takes n ks a.0 a.1)
    ]

condition_keeps : (n : ℕ) → Keeps (condition_at n) (ConditionFits n)
unfolding condition_at
condition_keeps n ks x e =
    elim (chosen (begins semicolon ks) (Ok (None, ks)) _ (Ok x) e) [
      | inl h ↦ kept (ConditionFits n) (None, ks) x h.1 (refl, omega arith)
      | inr h ↦ let a = bind_ok (expr_at n ks) _ x h.1 in kept (ConditionFits n) (Some a.0.0, a.0.1) x a.2 (expr_keeps n ks a.0 a.1)
    ]

condition_again : (n : ℕ) (c : Option Expr) (rest : Kinds) → ConditionFits n c → condition_at n (condition c ++ (semicolon ∷ rest)) ≡ Ok (c, semicolon ∷ rest)
unfolding condition_at
condition_again n None rest p = rw (begins_same semicolon rest refl) refl
condition_again n (Some c) rest p =
    let read = expr_again n c (semicolon ∷ rest) p (semicolon_ends rest).ended in
    rw (expr_not_semicolon n (expr_tokens c ++ (semicolon ∷ rest)) (c, semicolon ∷ rest) read) (then_is _ _ (c, semicolon ∷ rest) _ read refl)

update_takes : (n : ℕ) → Takes (update_at n) simples_tokens
unfolding update_at
update_takes n ks x e =
    elim (chosen (begins close_paren ks) (Ok ([], ks)) _ (Ok x) e) [
      | inl h ↦ given simples_tokens ks ([], ks) x h.1 refl
      | inr h ↦ simples_take n ks x h.1
    ]

update_keeps : (n : ℕ) → Keeps (update_at n) (SimplesFit n)
unfolding update_at
update_keeps n ks x e =
    elim (chosen (begins close_paren ks) (Ok ([], ks)) _ (Ok x) e) [
      | inl h ↦ kept (SimplesFit n) ([], ks) x h.1 (refl, omega arith)
      | inr h ↦ (simples_keep n ks x h.1).fit
    ]

update_again : (n : ℕ) (xs : List Simple) (rest : Kinds) → SimplesFit n xs → update_at n (simples_tokens xs ++ (close_paren ∷ rest)) ≡ Ok (xs, close_paren ∷ rest)
unfolding update_at
update_again n [] rest p = rw (begins_same close_paren rest refl) refl
update_again n (x ∷ xs) rest p =
    rw (simples_begin x xs (close_paren ∷ rest)).not_close (simples_again n x xs close_paren rest p (close_paren_stops rest) (paren_ends rest))

-- ---- all of the header

pub record HeaderFits (n : ℕ) (h : ForHeader) : Type 0 where
  pub init_placed : is_placed_init h.init ≡ true
  pub test_placed : is_placed_option is_placed_expr h.test ≡ true
  pub update_placed : all_of is_placed_simple h.update ≡ true
  pub init_low : init_height h.init ≤ n
  pub test_low : option_height expr_height h.test ≤ n
  pub update_low : greatest (map simple_height h.update) ≤ n

abbrev pub for_tokens : ForHeader → Kinds
for_tokens h = k.Reserved word.For ∷ in_parentheses (header_tokens h)

header_form : (init test update rest : Kinds)
    → k.Reserved word.For ∷ open_paren ∷ (init ++ (semicolon ∷ (test ++ (semicolon ∷ (update ++ (close_paren ∷ rest)))))) ≡ (k.Reserved word.For ∷ in_parentheses (init ++ (semicolon ∷ (test ++ (semicolon ∷ update))))) ++ rest
header_form init test update rest = sym (simp append_assoc)

-- the header in one row of steps
abbrev steps : ℕ → Kinds → Reading ForHeader
steps n rest = do
  rest ← after (k.Reserved word.For ∷ open_paren ∷ []) rest
  init ← init_at n rest
  rest ← after (semicolon ∷ []) init.1
  test ← condition_at n rest
  rest ← after (semicolon ∷ []) test.1
  update ← update_at n rest
  rest ← after (close_paren ∷ []) update.1
  Ok (record { init = init.0; test = test.0; update = update.0 }, rest)

-- after a step, the same goes on
under : {A B : Type 0} (r : Result A Fault) (f g : A → Result B Fault) → ((x : A) → f x ≡ g x) → (r >>= f) ≡ (r >>= g)
under (Ok x) f g h = h x
under (Err e) f g h = refl

in_a_row : {A B C : Type 0} (r : Result A Fault) (f : A → Result B Fault) (g : B → Result C Fault) (h : A → Result C Fault) → ((x : A) → (f x >>= g) ≡ h x) → ((r >>= f) >>= g) ≡ (r >>= h)
in_a_row (Ok x) f g h same = same x
in_a_row (Err e) f g h same = refl

step_by_step : (n : ℕ) (ks : Kinds) → header_at n ks ≡ steps n ks
unfolding header_at opening_at going_on_at closing_at
step_by_step n ks =
    in_a_row (after (k.Reserved word.For ∷ open_paren ∷ []) ks) _ _ _ (λ rest.
    in_a_row (init_at n rest) _ _ _ (λ init.
    in_a_row (after (semicolon ∷ []) init.1) _ _ _ (λ rest.
    in_a_row (condition_at n rest) _ _ _ (λ test.
    in_a_row (after (semicolon ∷ []) test.1) _ _ _ (λ rest.
    in_a_row (closing_at n rest) _ _ (λ update. Ok (record { init = init.0; test = test.0; update = update.0 }, update.1)) (λ update. refl)
    ∙ in_a_row (update_at n rest) _ _ _ (λ update.
    in_a_row (after (close_paren ∷ []) update.1) _ _ _ (λ rest. refl)))))))

pub header_takes : (n : ℕ) → Takes (header_at n) for_tokens
header_takes n ks x given_by =
    let e = sym (step_by_step n ks) ∙ given_by in
    let opening = k.Reserved word.For ∷ open_paren ∷ [] in
    let a = bind_ok (after opening ks) _ x e in
    let b = bind_ok (init_at n a.0) _ x a.2 in
    let c = bind_ok (after (semicolon ∷ []) b.0.1) _ x b.2 in
    let d = bind_ok (condition_at n c.0) _ x c.2 in
    let f = bind_ok (after (semicolon ∷ []) d.0.1) _ x d.2 in
    let g = bind_ok (update_at n f.0) _ x f.2 in
    let h = bind_ok (after (close_paren ∷ []) g.0.1) _ x g.2 in
    let tail : b.0.1 ≡ semicolon ∷ (condition d.0.0 ++ (semicolon ∷ (simples_tokens g.0.0 ++ (close_paren ∷ h.0)))) =
    after_takes (semicolon ∷ []) b.0.1 c.0 c.1
    ∙ ap (λ (t : Kinds). semicolon ∷ t) (condition_takes n c.0 d.0 d.1
    ∙ ap (λ (t : Kinds). condition d.0.0 ++ t) (after_takes (semicolon ∷ []) d.0.1 f.0 f.1
    ∙ ap (λ (t : Kinds). semicolon ∷ t) (update_takes n f.0 g.0 g.1
    ∙ ap (λ (t : Kinds). simples_tokens g.0.0 ++ t) (after_takes (close_paren ∷ []) g.0.1 h.0 h.1)))) in
    given for_tokens ks (record { init = b.0.0; test = d.0.0; update = g.0.0 }, h.0) x h.2
    (after_takes opening ks a.0 a.1 ∙ ap (λ (t : Kinds). opening ++ t) (init_takes n a.0 b.0 b.1 ∙ ap (λ (t : Kinds). init_tokens b.0.0 ++ t) tail)
    ∙ header_form (init_tokens b.0.0) (condition d.0.0) (simples_tokens g.0.0) h.0)

pub header_keeps : (n : ℕ) → Keeps (header_at n) (HeaderFits n)
header_keeps n ks x given_by =
    let e = sym (step_by_step n ks) ∙ given_by in
    let a = bind_ok (after (k.Reserved word.For ∷ open_paren ∷ []) ks) _ x e in
    let b = bind_ok (init_at n a.0) _ x a.2 in
    let c = bind_ok (after (semicolon ∷ []) b.0.1) _ x b.2 in
    let d = bind_ok (condition_at n c.0) _ x c.2 in
    let f = bind_ok (after (semicolon ∷ []) d.0.1) _ x d.2 in
    let g = bind_ok (update_at n f.0) _ x f.2 in
    let h = bind_ok (after (close_paren ∷ []) g.0.1) _ x g.2 in
    let init = init_keeps n a.0 b.0 b.1 in
    let test = condition_keeps n c.0 d.0 d.1 in
    let update = update_keeps n f.0 g.0 g.1 in
    kept (HeaderFits n) (record { init = b.0.0; test = d.0.0; update = g.0.0 }, h.0) x h.2
    (record { init_placed = init.0; test_placed = test.0; update_placed = update.0; init_low = init.1; test_low = test.1; update_low = update.1 })

pub header_again : (n : ℕ) → Again (header_at n) for_tokens (HeaderFits n) Any
header_again n h rest p g =
    let opening = k.Reserved word.For ∷ open_paren ∷ [] in
    let last = simples_tokens h.update ++ (close_paren ∷ rest) in
    let middle = condition h.test ++ (semicolon ∷ last) in
    ap (header_at n) (sym (header_form (init_tokens h.init) (condition h.test) (simples_tokens h.update) rest))
    ∙ step_by_step n _
    ∙ then_is _ _ (init_tokens h.init ++ (semicolon ∷ middle)) _ (after_again opening _ refl)
    (then_is _ _ (h.init, semicolon ∷ middle) _ (init_again n h.init middle (p.init_placed, p.init_low))
    (then_is _ _ middle _ (after_again (semicolon ∷ []) middle refl)
    (then_is _ _ (h.test, semicolon ∷ last) _ (condition_again n h.test last (p.test_placed, p.test_low))
    (then_is _ _ last _ (after_again (semicolon ∷ []) last refl)
    (then_is _ _ (h.update, close_paren ∷ rest) _ (update_again n h.update rest (p.update_placed, p.update_low))
    (then_is _ _ rest _ (after_again (close_paren ∷ []) rest refl) refl))))))
