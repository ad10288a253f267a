-- The statements that are expressions: what reading them takes, and that their tokens are read as them.
use Rattle.std.proofs.Common.{◌≡◌, ℕ, zero, suc, ◌≤◌, ◌<◌, true, false, List, [], ◌∷◌, ◌++◌, length, map, codes, Ok, refl, sym, ap, subst, ◌∙◌, append_assoc, arith}
use Rattle.std.specs.List.{flat_map}
use Rattle.java_tree.specs.declared.token.Kind.{Kind}
use Rattle.java_tree.specs.declared.token.Kind.TheVariants as k
use Rattle.java_tree.specs.declared.token.Symbol.{Symbol}
use Rattle.java_tree.specs.declared.token.Symbol.TheVariants as symbol
use Rattle.java_tree.specs.declared.tree.Simple.{Simple}
use Rattle.java_tree.specs.declared.tree.Simple.TheVariants as simple
use Rattle.java_tree.specs.declared.tree.Value.{Value}
use Rattle.java_tree.specs.declared.tree.CallForm.{CallForm, out-CallForm, roll-CallForm, roll-out-CallForm}
use Rattle.java_tree.specs.declared.tree.CallForm.TheOpen.{CallForm-F}
use Rattle.java_tree.specs.declared.tree.CallForm.TheOpen as layer
use Rattle.java_tree.specs.declared.tree.CallForm.TheFolds.{fold-roll-CallForm}
use Rattle.java_tree.specs.declared.tree.Expr.{Expr}
use Rattle.java_tree.specs.Tokens.{Kinds, separated, annotation, assign_symbol, simple_tokens, value_tokens, call_tokens}
use Rattle.java_tree.specs.Placed.{all_of, is_placed_simple}
use Rattle.java_tree.specs.Heights.{call_layer_height, expr_layer_height, value_layer_height, greatest, call_height, simple_height}
use Rattle.java_parser.specs.declared.forms.SimpleForm.{SimpleForm}
use Rattle.java_parser.specs.declared.forms.SimpleForm.TheVariants as form
use Rattle.java_parser.specs.Words.{◌>>=◌, Reading, begins, after, name_at}
use Rattle.java_parser.specs.Members.{comma, annotated}
use Rattle.java_parser.specs.Expressions.{value_at, call_at}
use Rattle.java_parser.specs.Forms.{simple_form}
use Rattle.java_parser.specs.Simples.{inside, named_before, named_behind, simple_of, simple_in, simple_at, other_simple_at, other_simples_at, simples_at}
use Rattle.java_parser.proofs.Laws.{bind_ok, then_is, Takes, Keeps, Again, given, kept, after_takes, after_again, both, name_takes, name_again, many_takes, many_keeps, all_again, separated-map}
use Rattle.java_parser.proofs.Around.{annotated_takes, annotated_again, comma_begins}
use Rattle.java_parser.proofs.ExpressionLaws.{value_takes, value_keeps, value_again, call_takes, call_keeps, call_again}
use Rattle.java_parser.proofs.Ends.{IsEnd, comma_ends, inside_is}
use Rattle.java_parser.proofs.SimpleHeads.{BeginsSimple, form_of, simple_begins}

abbrev pub SimpleFits : ℕ → Simple → Type 0
SimpleFits n x = (is_placed_simple x ≡ true) × (simple_height x ≤ n)

named_before_takes : (s : Symbol) → Takes (named_before s) (λ name. k.Identifier name ∷ k.Symbol s ∷ [])
unfolding named_before
named_before_takes s ks x e =
    let a = bind_ok (name_at ks) _ x e in
    let b = bind_ok (after (k.Symbol s ∷ []) a.0.1) _ x a.2 in
    given (λ (name : List ℕ). k.Identifier name ∷ k.Symbol s ∷ []) ks (a.0.0, b.0) x b.2
    (name_takes ks a.0 a.1 ∙ ap (λ (t : Kinds). k.Identifier a.0.0 ∷ t) (after_takes (k.Symbol s ∷ []) a.0.1 b.0 b.1))

named_before_again : (s : Symbol) (name : List ℕ) (rest : Kinds) → named_before s (k.Identifier name ∷ k.Symbol s ∷ rest) ≡ Ok (name, rest)
unfolding named_before
named_before_again s name rest =
    then_is _ _ (name, k.Symbol s ∷ rest) _ (name_again name (k.Symbol s ∷ rest)) (then_is _ _ rest _ (after_again (k.Symbol s ∷ []) rest refl) refl)

named_behind_takes : (s : Symbol) → Takes (named_behind s) (λ name. k.Symbol s ∷ k.Identifier name ∷ [])
unfolding named_behind
named_behind_takes s ks x e =
    let a = bind_ok (after (k.Symbol s ∷ []) ks) _ x e in
    after_takes (k.Symbol s ∷ []) ks a.0 a.1 ∙ ap (λ (t : Kinds). k.Symbol s ∷ t) (name_takes a.0 x a.2)

named_behind_again : (s : Symbol) (name : List ℕ) (rest : Kinds) → named_behind s (k.Symbol s ∷ k.Identifier name ∷ rest) ≡ Ok (name, rest)
unfolding named_behind
named_behind_again s name rest = then_is _ _ (k.Identifier name ∷ rest) _ (after_again (k.Symbol s ∷ []) _ refl) (name_again name rest)

-- a step up or down
stepped : (made : List ℕ → Simple) (thing_at : Kinds → Reading (List ℕ)) (tokens : List ℕ → Kinds) → Takes thing_at tokens → ((name : List ℕ) → tokens name ≡ simple_tokens (made name))
    → Takes (λ rest. thing_at rest >>= λ name. Ok (made name.0, name.1)) simple_tokens
stepped made thing_at tokens takes same ks x e =
    let a = bind_ok (thing_at ks) _ x e in
    given simple_tokens ks (made a.0.0, a.0.1) x a.2 (takes ks a.0 a.1 ∙ ap (λ (t : Kinds). t ++ a.0.1) (same a.0.0))

stepped_keeps : (n : ℕ) (made : List ℕ → Simple) (thing_at : Kinds → Reading (List ℕ)) → ((name : List ℕ) → SimpleFits (suc n) (made name))
    → Keeps (λ rest. thing_at rest >>= λ name. Ok (made name.0, name.1)) (SimpleFits (suc n))
stepped_keeps n made thing_at fits ks x e =
    let a = bind_ok (thing_at ks) _ x e in
    kept (SimpleFits (suc n)) (made a.0.0, a.0.1) x a.2 (fits a.0.0)

simple_of_takes : (f : SimpleForm) (n : ℕ) → Takes (simple_of f n) simple_tokens
unfolding simple_of
simple_of_takes (form.Assign op) n ks x e =
    let a = bind_ok (named_before (assign_symbol op) ks) _ x e in
    let b = bind_ok (value_at n a.0.1) _ x a.2 in
    given simple_tokens ks (simple.Assign a.0.0 op b.0.0, b.0.1) x b.2
    (named_before_takes (assign_symbol op) ks a.0 a.1 ∙ ap (λ (t : Kinds). k.Identifier a.0.0 ∷ k.Symbol (assign_symbol op) ∷ t) (value_takes n a.0.1 b.0 b.1))
simple_of_takes form.PostIncrement n ks x e = stepped simple.PostIncrement (named_before symbol.PlusPlus) _ (named_before_takes symbol.PlusPlus) (λ name. refl) ks x e
simple_of_takes form.PostDecrement n ks x e = stepped simple.PostDecrement (named_before symbol.MinusMinus) _ (named_before_takes symbol.MinusMinus) (λ name. refl) ks x e
simple_of_takes form.PreIncrement n ks x e = stepped simple.PreIncrement (named_behind symbol.PlusPlus) _ (named_behind_takes symbol.PlusPlus) (λ name. refl) ks x e
simple_of_takes form.PreDecrement n ks x e = stepped simple.PreDecrement (named_behind symbol.MinusMinus) _ (named_behind_takes symbol.MinusMinus) (λ name. refl) ks x e
simple_of_takes form.GlobalCall n ks x e =
    let a = bind_ok (annotated (codes "Global") ks) _ x e in
    let b = bind_ok (call_at n a.0) _ x a.2 in
    given simple_tokens ks (simple.Call true b.0.0, b.0.1) x b.2 (annotated_takes (codes "Global") ks a.0 a.1 ∙ ap (λ (t : Kinds). annotation (codes "Global") ++ t) (call_takes n a.0 b.0 b.1))
simple_of_takes form.Call n ks x e =
    let a = bind_ok (call_at n ks) _ x e in
    given simple_tokens ks (simple.Call false a.0.0, a.0.1) x a.2 (call_takes n ks a.0 a.1)

simple_of_keeps : (f : SimpleForm) (n : ℕ) → Keeps (simple_of f n) (SimpleFits (suc n))
unfolding simple_of
simple_of_keeps (form.Assign op) n ks x e =
    let a = bind_ok (named_before (assign_symbol op) ks) _ x e in
    let b = bind_ok (value_at n a.0.1) _ x a.2 in
    let fits = value_keeps n a.0.1 b.0 b.1 in
    kept (SimpleFits (suc n)) (simple.Assign a.0.0 op b.0.0, b.0.1) x b.2 (fits.0, omega (arith, fits.1))
simple_of_keeps form.PostIncrement n ks x e = stepped_keeps n simple.PostIncrement (named_before symbol.PlusPlus) (λ name. (refl, omega arith)) ks x e
simple_of_keeps form.PostDecrement n ks x e = stepped_keeps n simple.PostDecrement (named_before symbol.MinusMinus) (λ name. (refl, omega arith)) ks x e
simple_of_keeps form.PreIncrement n ks x e = stepped_keeps n simple.PreIncrement (named_behind symbol.PlusPlus) (λ name. (refl, omega arith)) ks x e
simple_of_keeps form.PreDecrement n ks x e = stepped_keeps n simple.PreDecrement (named_behind symbol.MinusMinus) (λ name. (refl, omega arith)) ks x e
simple_of_keeps form.GlobalCall n ks x e =
    let a = bind_ok (annotated (codes "Global") ks) _ x e in
    let b = bind_ok (call_at n a.0) _ x a.2 in
    kept (SimpleFits (suc n)) (simple.Call true b.0.0, b.0.1) x b.2 (call_keeps n a.0 b.0 b.1)
simple_of_keeps form.Call n ks x e =
    let a = bind_ok (call_at n ks) _ x e in
    kept (SimpleFits (suc n)) (simple.Call false a.0.0, a.0.1) x a.2 (call_keeps n ks a.0 a.1)

simple_of_again : (n : ℕ) (x : Simple) (rest : Kinds) → SimpleFits (suc n) x → IsEnd rest → simple_of (form_of x) n (simple_tokens x ++ rest) ≡ Ok (x, rest)
unfolding simple_of
simple_of_again n (simple.Assign name op v) rest p end =
    then_is _ _ (name, value_tokens v ++ rest) _ (named_before_again (assign_symbol op) name (value_tokens v ++ rest))
    (then_is _ _ (v, rest) _ (value_again n v rest (p.0, omega (arith, p.1)) end.ended) refl)
simple_of_again n (simple.PostIncrement name) rest p end = then_is _ _ (name, rest) _ (named_before_again symbol.PlusPlus name rest) refl
simple_of_again n (simple.PostDecrement name) rest p end = then_is _ _ (name, rest) _ (named_before_again symbol.MinusMinus name rest) refl
simple_of_again n (simple.PreIncrement name) rest p end = then_is _ _ (name, rest) _ (named_behind_again symbol.PlusPlus name rest) refl
simple_of_again n (simple.PreDecrement name) rest p end = then_is _ _ (name, rest) _ (named_behind_again symbol.MinusMinus name rest) refl
simple_of_again n (simple.Call true call) rest p end =
    then_is _ _ (call_tokens call ++ rest) _ (annotated_again (codes "Global") (call_tokens call ++ rest)) (then_is _ _ (call, rest) _ (call_again n call rest p tt) refl)
simple_of_again n (simple.Call false call) rest p end = then_is _ _ (call, rest) _ (call_again n call rest p tt) refl

pub simple_in_takes : (n : ℕ) → Takes (simple_in n) simple_tokens
unfolding simple_in
simple_in_takes n ks x e = simple_of_takes (simple_form ks) n ks x e

pub simple_in_keeps : (n : ℕ) → Keeps (simple_in n) (SimpleFits (suc n))
unfolding simple_in
simple_in_keeps n ks x e = simple_of_keeps (simple_form ks) n ks x e

pub simple_in_again : (n : ℕ) → Again (simple_in n) simple_tokens (SimpleFits (suc n)) IsEnd
unfolding simple_in
simple_in_again n x rest p end = ap (λ f. simple_of f n (simple_tokens x ++ rest)) (simple_begins x rest).form_is ∙ simple_of_again n x rest p end

simple_takes : (n : ℕ) → Takes (simple_at n) simple_tokens
unfolding simple_at
simple_takes n ks x e = let m = bind_ok (inside n ks) _ x e in simple_in_takes m.0 ks x m.2

simple_keeps : (n : ℕ) → Keeps (simple_at n) (SimpleFits n)
unfolding simple_at
simple_keeps n ks x e = let m = bind_ok (inside n ks) _ x e in let fits = simple_in_keeps m.0 ks x m.2 in (fits.0, omega (arith, fits.1, inside_is n ks m.0 m.1))

call_layer_is_high : (x : CallForm-F CallForm Expr Value) → 0 < call_height (roll-CallForm x)
call_layer_is_high (layer.Own name args) =
    subst (λ (h : ℕ). 0 < h) (sym (fold-roll-CallForm ℕ ℕ ℕ call_layer_height expr_layer_height value_layer_height (layer.Own name args))) (omega arith)
call_layer_is_high (layer.Of object name args) =
    subst (λ (h : ℕ). 0 < h) (sym (fold-roll-CallForm ℕ ℕ ℕ call_layer_height expr_layer_height value_layer_height (layer.Of object name args))) (omega arith)
call_layer_is_high (layer.OfMember object at name args) =
    subst (λ (h : ℕ). 0 < h) (sym (fold-roll-CallForm ℕ ℕ ℕ call_layer_height expr_layer_height value_layer_height (layer.OfMember object at name args))) (omega arith)

call_is_high : (c : CallForm) → 0 < call_height c
call_is_high c = subst (λ (d : CallForm). 0 < call_height d) (roll-out-CallForm c) (call_layer_is_high (out-CallForm c))

pub simple_is_high : (x : Simple) → 0 < simple_height x
simple_is_high (simple.Assign name op v) = omega arith
simple_is_high (simple.PostIncrement name) = omega arith
simple_is_high (simple.PostDecrement name) = omega arith
simple_is_high (simple.PreIncrement name) = omega arith
simple_is_high (simple.PreDecrement name) = omega arith
simple_is_high (simple.Call is_global call) = call_is_high call

pub simple_again : (n : ℕ) → Again (simple_at n) simple_tokens (SimpleFits n) IsEnd
unfolding simple_at inside
simple_again zero x rest p end = absurd (omega (arith, p.1, simple_is_high x))
simple_again (suc n) x rest p end = simple_in_again n x rest p end

-- ---- several of them

abbrev pub SimplesFit : ℕ → List Simple → Type 0
SimplesFit n xs = (all_of is_placed_simple xs ≡ true) × (greatest (map simple_height xs) ≤ n)

none_fit : (n : ℕ) → SimplesFit n []
none_fit n = (refl, omega arith)

one_more_fits : (n : ℕ) (x : Simple) (xs : List Simple) → SimpleFits n x → SimplesFit n xs → SimplesFit n (x ∷ xs)
one_more_fits n x xs p q = (rw p.0 q.0, omega (arith, p.1, q.1))

each_fits : (n : ℕ) (x : Simple) (xs : List Simple) → SimplesFit n (x ∷ xs) → SimpleFits n x × SimplesFit n xs
each_fits n x xs p = let q = both (is_placed_simple x) (all_of is_placed_simple xs) p.0 in ((q.0, omega (arith, p.1)), (q.1, omega (arith, p.1)))

abbrev other_simple : Simple → Kinds
other_simple x = comma ∷ simple_tokens x

other_simple_takes : (n : ℕ) → Takes (other_simple_at n) other_simple
unfolding other_simple_at
other_simple_takes n ks x e =
    let a = bind_ok (after (comma ∷ []) ks) _ x e in
    after_takes (comma ∷ []) ks a.0 a.1 ∙ ap (λ (t : Kinds). comma ∷ t) (simple_takes n a.0 x a.2)

other_simple_keeps : (n : ℕ) → Keeps (other_simple_at n) (SimpleFits n)
unfolding other_simple_at
other_simple_keeps n ks x e = let a = bind_ok (after (comma ∷ []) ks) _ x e in simple_keeps n a.0 x a.2

other_simple_again : (n : ℕ) → Again (other_simple_at n) other_simple (SimpleFits n) IsEnd
unfolding other_simple_at
other_simple_again n x rest p end = then_is _ _ (simple_tokens x ++ rest) _ (after_again (comma ∷ []) _ refl) (simple_again n x rest p end)

abbrev pub simples_tokens : List Simple → Kinds
simples_tokens xs = separated (map simple_tokens xs)

-- at least one
pub record SomeFit (n : ℕ) (xs : List Simple) : Type 0 where
  pub fit : SimplesFit n xs
  pub some : 0 < length xs

pub simples_take : (n : ℕ) → Takes (simples_at n) simples_tokens
unfolding simples_at other_simples_at
simples_take n ks x e =
    let a = bind_ok (simple_at n ks) _ x e in
    let b = bind_ok _ _ x a.2 in
    let h1 : ks ≡ simple_tokens a.0.0 ++ a.0.1 = simple_takes n ks a.0 a.1 in
    let h2 : a.0.1 ≡ flat_map other_simple b.0.0 ++ b.0.1 = many_takes (begins comma) (other_simple_at n) other_simple (other_simple_takes n) _ a.0.1 b.0 b.1 in
    let h3 = separated-map comma simple_tokens b.0.0 in
    given simples_tokens ks (a.0.0 ∷ b.0.0, b.0.1) x b.2
    (h1 ∙ ap (λ t. simple_tokens a.0.0 ++ t) (h2 ∙ ap (λ t. t ++ b.0.1) (sym h3)) ∙ sym (append_assoc (simple_tokens a.0.0) _ b.0.1))

pub simples_keep : (n : ℕ) → Keeps (simples_at n) (SomeFit n)
unfolding simples_at other_simples_at
simples_keep n ks x e =
    let a = bind_ok (simple_at n ks) _ x e in
    let b = bind_ok _ _ x a.2 in
    let first = simple_keeps n ks a.0 a.1 in
    let others = many_keeps (begins comma) (other_simple_at n) (SimpleFits n) (SimplesFit n) (other_simple_keeps n) (none_fit n) (one_more_fits n) _ a.0.1 b.0 b.1 in
    kept (SomeFit n) (a.0.0 ∷ b.0.0, b.0.1) x b.2 (record { fit = one_more_fits n a.0.0 b.0.0 first others; some = omega arith })

others_end : (xs : List Simple) (stop : Kind) (rest : Kinds) → IsEnd (stop ∷ rest) → IsEnd (flat_map other_simple xs ++ (stop ∷ rest))
others_end [] stop rest end = end
others_end (x ∷ xs) stop rest end = comma_ends ((simple_tokens x ++ flat_map other_simple xs) ++ (stop ∷ rest))

pub simples_again : (n : ℕ) (x : Simple) (xs : List Simple) (stop : Kind) (rest : Kinds) → SimplesFit n (x ∷ xs) → begins comma (stop ∷ rest) ≡ false → IsEnd (stop ∷ rest)
    → simples_at n (simples_tokens (x ∷ xs) ++ (stop ∷ rest)) ≡ Ok (x ∷ xs, stop ∷ rest)
unfolding simples_at other_simples_at
simples_again n x xs stop rest p stops end =
    let others = flat_map other_simple xs ++ (stop ∷ rest) in
    let form : simples_tokens (x ∷ xs) ++ (stop ∷ rest) ≡ simple_tokens x ++ others =
    append_assoc (simple_tokens x) _ (stop ∷ rest) ∙ ap (λ t. simple_tokens x ++ (t ++ (stop ∷ rest))) (separated-map comma simple_tokens xs) in
    let each = each_fits n x xs p in
    ap (simples_at n) form
    ∙ then_is _ _ (x, others) _ (simple_again n x others each.0 (others_end xs stop rest end))
    (then_is _ _ (xs, stop ∷ rest) _
    (all_again (begins comma) (other_simple_at n) other_simple (SimpleFits n) (SimplesFit n) IsEnd (comma_begins simple_tokens) (other_simple_again n) (each_fits n) (λ y t. comma_ends (simple_tokens y ++ t)) stop rest stops end xs each.1) refl)

pub simples_begin : (x : Simple) (xs : List Simple) (rest : Kinds) → BeginsSimple (form_of x) (simples_tokens (x ∷ xs) ++ rest)
simples_begin x xs rest =
    subst (BeginsSimple (form_of x)) (sym (append_assoc (simple_tokens x) (flat_map (λ y. comma ∷ y) (map simple_tokens xs)) rest)) (simple_begins x _)
