-- Blocks, where the statements in them are read as their tokens: what reading them takes, and that their tokens are read
-- as them.
use Rattle.std.proofs.Common.{◌≡◌, ℕ, ◌≤◌, Bool, true, false, ◌&&◌, List, [], ◌∷◌, ◌++◌, map, Ok, inl, inr, refl, sym, ap, subst, ◌∙◌, append_assoc, arith}
use Rattle.std.specs.List.{flat_map}
use Rattle.java_tree.specs.declared.token.Kind.TheVariants as k
use Rattle.java_tree.specs.declared.token.Reserved.TheVariants as word
use Rattle.java_tree.specs.declared.tree.Local.{Local}
use Rattle.java_tree.specs.declared.tree.Simple.{Simple}
use Rattle.java_tree.specs.declared.tree.BlockItem.{BlockItem}
use Rattle.java_tree.specs.declared.tree.BlockItem.TheVariants as item
use Rattle.java_tree.specs.declared.tree.Stmt.{Stmt}
use Rattle.java_tree.specs.Tokens.{Kinds, in_braces, local_tokens, simple_tokens, item_step, statement_step, item_tokens}
use Rattle.java_tree.specs.Placed.{Ending, all_of, item_placed, statement_ending, is_placed_item}
use Rattle.java_tree.specs.Heights.{greatest, item_layer_height, statement_layer_height, item_height}
use Rattle.java_parser.specs.Words.{Reading, same_token, begins, after}
use Rattle.java_parser.specs.Members.{semicolon}
use Rattle.java_parser.specs.Simples.{local_ahead, local_at}
use Rattle.java_parser.specs.Statements.{open_brace, close_brace, else_word, has_more, item_at, items_at, block_at}
use Rattle.java_parser.proofs.Laws.{bind_ok, chosen, then_is, Takes, Keeps, Again, Any, given, kept, after_takes, after_again, both, many_takes, many_keeps, Begins, all_again}
use Rattle.java_parser.proofs.StatementLayers.{of_item, of_statement, local_item, statement_item, EachStatement, statement_cases, item_cases}
use Rattle.java_parser.proofs.StatementLayers as layers
use Rattle.java_parser.proofs.Ends.{semicolon_ends}
use Rattle.java_parser.proofs.LocalLaws.{local_takes, local_keeps, local_again, local_begins}
use Rattle.java_parser.proofs.SimpleHeads.{simple_begins}

abbrev pub statement_tokens : Stmt → Kinds
statement_tokens = of_statement Kinds Kinds item_step statement_step

abbrev pub ending_of : Stmt → Ending
ending_of = of_statement Bool Ending item_placed statement_ending

abbrev pub statement_height : Stmt → ℕ
statement_height = of_statement ℕ ℕ item_layer_height statement_layer_height

pub record Fits (n : ℕ) (s : Stmt) : Type 0 where
  pub placed : (ending_of s).is_placed ≡ true
  pub low : statement_height s ≤ n

-- no `else` follows an open `if`
abbrev pub IsClosed : Stmt → Kinds → Type 0
IsClosed s rest = (ending_of s).is_open ≡ true → begins else_word rest ≡ false

-- the tokens are those of the statement and what follows it
pub record Found (n : ℕ) (ks : Kinds) (s : Stmt) (rest : Kinds) : Type 0 where
  pub tokens : ks ≡ statement_tokens s ++ rest
  pub fits : Fits n s
  pub is_closed : IsClosed s rest

pub record Reads (n : ℕ) (statement : Kinds → Reading Stmt) : Type 0 where
  pub found : (ks : Kinds) (x : Stmt × Kinds) → statement ks ≡ Ok x → Found n ks x.0 x.1
  pub again : (s : Stmt) (rest : Kinds) → Fits n s → IsClosed s rest → statement (statement_tokens s ++ rest) ≡ Ok (s, rest)

pub true_and : (a b : Bool) → a ≡ true → b ≡ true → (a && b) ≡ true
true_and a b p q = rw p q

pub flat : {A : Type 0} (f : A → Kinds) (xs : List A) → flat_map (λ x. x) (map f xs) ≡ flat_map f xs
flat f [] = refl
flat f (x ∷ xs) = ap (λ (t : Kinds). f x ++ t) (flat f xs)

pub all_map : {A : Type 0} (f : A → Bool) (xs : List A) → all_of (λ b. b) (map f xs) ≡ all_of f xs
all_map f [] = refl
all_map f (x ∷ xs) = ap (λ (b : Bool). f x && b) (all_map f xs)

-- ---- items

abbrev pub ItemFits : ℕ → BlockItem → Type 0
ItemFits n i = (is_placed_item i ≡ true) × (item_height i ≤ n)

abbrev pub ItemsFit : ℕ → List BlockItem → Type 0
ItemsFit n is = (all_of is_placed_item is ≡ true) × (greatest (map item_height is) ≤ n)

pub local_item_tokens : (l : Local) → item_tokens (item.Local l) ≡ local_tokens l ++ semicolon ∷ []
local_item_tokens l = local_item Kinds Kinds item_step statement_step l

pub statement_item_tokens : (s : Stmt) → item_tokens (item.Stmt s) ≡ statement_tokens s
statement_item_tokens s = statement_item Kinds Kinds item_step statement_step s

-- what the tokens of a statement begin with
pub record BeginsStatement (ks : Kinds) : Type 0 where
  pub not_local : local_ahead ks ≡ false
  pub goes_on : has_more ks ≡ true
  pub not_else : begins else_word ks ≡ false

pub brace_begins : (rest : Kinds) → BeginsStatement (open_brace ∷ rest)
unfolding local_ahead begins same_token has_more
brace_begins rest = record { not_local = refl; goes_on = refl; not_else = refl }

pub semicolon_begins : (rest : Kinds) → BeginsStatement (semicolon ∷ rest)
unfolding local_ahead begins same_token has_more
semicolon_begins rest = record { not_local = refl; goes_on = refl; not_else = refl }

pub if_begins : (rest : Kinds) → BeginsStatement (k.Reserved word.If ∷ rest)
unfolding local_ahead begins same_token has_more
if_begins rest = record { not_local = refl; goes_on = refl; not_else = refl }

pub while_begins : (rest : Kinds) → BeginsStatement (k.Reserved word.While ∷ rest)
unfolding local_ahead begins same_token has_more
while_begins rest = record { not_local = refl; goes_on = refl; not_else = refl }

pub for_begins : (rest : Kinds) → BeginsStatement (k.Reserved word.For ∷ rest)
unfolding local_ahead begins same_token has_more
for_begins rest = record { not_local = refl; goes_on = refl; not_else = refl }

pub break_begins : (rest : Kinds) → BeginsStatement (k.Reserved word.Break ∷ rest)
unfolding local_ahead begins same_token has_more
break_begins rest = record { not_local = refl; goes_on = refl; not_else = refl }

pub continue_begins : (rest : Kinds) → BeginsStatement (k.Reserved word.Continue ∷ rest)
unfolding local_ahead begins same_token has_more
continue_begins rest = record { not_local = refl; goes_on = refl; not_else = refl }

pub return_begins : (rest : Kinds) → BeginsStatement (k.Reserved word.Return ∷ rest)
unfolding local_ahead begins same_token has_more
return_begins rest = record { not_local = refl; goes_on = refl; not_else = refl }

pub simple_statement_begins : (x : Simple) (rest : Kinds) → BeginsStatement ((simple_tokens x ++ semicolon ∷ []) ++ rest)
simple_statement_begins x rest =
    let b = simple_begins x (semicolon ∷ rest) in
    rw (append_assoc (simple_tokens x) (semicolon ∷ []) rest) (record { not_local = b.not_local; goes_on = b.goes_on; not_else = b.not_else })

pub begins_as : (s : Stmt) (layer rest : Kinds) → statement_tokens s ≡ layer → BeginsStatement (layer ++ rest) → BeginsStatement (statement_tokens s ++ rest)
begins_as s layer rest e h = subst (λ (t : Kinds). BeginsStatement (t ++ rest)) (sym e) h

pub statement_begins : (s : Stmt) (rest : Kinds) → BeginsStatement (statement_tokens s ++ rest)
statement_begins s rest =
    statement_cases (λ x. BeginsStatement (statement_tokens x ++ rest))
    (record {
      block = λ items. begins_as _ _ rest (layers.block Kinds Kinds item_step statement_step items) (brace_begins _);
      empty = begins_as _ _ rest (layers.empty Kinds Kinds item_step statement_step) (semicolon_begins _);
      simple = λ x. begins_as _ _ rest (layers.simple Kinds Kinds item_step statement_step x) (simple_statement_begins x rest);
      if_alone = λ test first. begins_as _ _ rest (layers.if_alone Kinds Kinds item_step statement_step test first) (if_begins _);
      if_else = λ test first second. begins_as _ _ rest (layers.if_else Kinds Kinds item_step statement_step test first second) (if_begins _);
      while_loop = λ test body. begins_as _ _ rest (layers.while_loop Kinds Kinds item_step statement_step test body) (while_begins _);
      for_loop = λ header body. begins_as _ _ rest (layers.for_loop Kinds Kinds item_step statement_step header body) (for_begins _);
      breaking = begins_as _ _ rest (layers.breaking Kinds Kinds item_step statement_step) (break_begins _);
      continuing = begins_as _ _ rest (layers.continuing Kinds Kinds item_step statement_step) (continue_begins _);
      returning = λ v. begins_as _ _ rest (layers.returning Kinds Kinds item_step statement_step v) (return_begins _);
    }) s

-- what the tokens of an item begin with
pub record BeginsItem (ks : Kinds) : Type 0 where
  pub goes_on : has_more ks ≡ true
  pub not_else : begins else_word ks ≡ false

pub local_item_begins : (l : Local) (rest : Kinds) → BeginsItem (item_tokens (item.Local l) ++ rest)
local_item_begins l rest =
    let b = local_begins l (semicolon ∷ rest) in
    let form : item_tokens (item.Local l) ++ rest ≡ local_tokens l ++ (semicolon ∷ rest) = ap (λ (t : Kinds). t ++ rest) (local_item_tokens l) ∙ append_assoc (local_tokens l) (semicolon ∷ []) rest in
    subst BeginsItem (sym form) (record { goes_on = b.goes_on; not_else = b.not_else })

pub statement_item_begins : (s : Stmt) (rest : Kinds) → BeginsItem (item_tokens (item.Stmt s) ++ rest)
statement_item_begins s rest =
    let b = statement_begins s rest in
    subst (λ (t : Kinds). BeginsItem (t ++ rest)) (sym (statement_item_tokens s)) (record { goes_on = b.goes_on; not_else = b.not_else })

pub item_begins : (i : BlockItem) (rest : Kinds) → BeginsItem (item_tokens i ++ rest)
item_begins i rest = item_cases (λ x. BeginsItem (item_tokens x ++ rest)) (λ l. local_item_begins l rest) (λ s. statement_item_begins s rest) i

pub items_begin : Begins has_more item_tokens
unfolding has_more
items_begin = record { on = λ i rest. (item_begins i rest).goes_on; off = refl }

abbrev pub NotElse : Kinds → Type 0
NotElse rest = begins else_word rest ≡ false

module _ (n : ℕ) (statement : Kinds → Reading Stmt) (reads : Reads n statement) where
  pub item_takes : Takes (item_at n statement) item_tokens
  unfolding item_at
  item_takes ks x e =
      elim (chosen (local_ahead ks) _ _ (Ok x) e) [
        | inl h ↦ let a = bind_ok (local_at n ks) _ x h.1 in let b = bind_ok (after (semicolon ∷ []) a.0.1) _ x a.2 in
            given item_tokens ks (item.Local a.0.0, b.0) x b.2
            (local_takes n ks a.0 a.1 ∙ ap (λ (t : Kinds). local_tokens a.0.0 ++ t) (after_takes (semicolon ∷ []) a.0.1 b.0 b.1)
            ∙ sym (ap (λ (t : Kinds). t ++ b.0) (local_item_tokens a.0.0) ∙ append_assoc (local_tokens a.0.0) (semicolon ∷ []) b.0))
        | inr h ↦ let a = bind_ok (statement ks) _ x h.1 in
            given item_tokens ks (item.Stmt a.0.0, a.0.1) x a.2 ((reads.found ks a.0 a.1).tokens ∙ ap (λ (t : Kinds). t ++ a.0.1) (sym (statement_item_tokens a.0.0)))
      ]

  pub item_keeps : Keeps (item_at n statement) (ItemFits n)
  unfolding item_at
  item_keeps ks x e =
      elim (chosen (local_ahead ks) _ _ (Ok x) e) [
        | inl h ↦ let a = bind_ok (local_at n ks) _ x h.1 in let b = bind_ok (after (semicolon ∷ []) a.0.1) _ x a.2 in
            let fits = local_keeps n ks a.0 a.1 in
            kept (ItemFits n) (item.Local a.0.0, b.0) x b.2
            (local_item Bool Ending item_placed statement_ending a.0.0 ∙ fits.0, rw (local_item ℕ ℕ item_layer_height statement_layer_height a.0.0) fits.1)
        | inr h ↦ let a = bind_ok (statement ks) _ x h.1 in
            let fits = (reads.found ks a.0 a.1).fits in
            kept (ItemFits n) (item.Stmt a.0.0, a.0.1) x a.2
            (statement_item Bool Ending item_placed statement_ending a.0.0 ∙ fits.placed, rw (statement_item ℕ ℕ item_layer_height statement_layer_height a.0.0) fits.low)
      ]

  pub local_item_again : (l : Local) (rest : Kinds) → ItemFits n (item.Local l) → item_at n statement (item_tokens (item.Local l) ++ rest) ≡ Ok (item.Local l, rest)
  unfolding item_at
  local_item_again l rest p =
      let form : item_tokens (item.Local l) ++ rest ≡ local_tokens l ++ (semicolon ∷ rest) = ap (λ (t : Kinds). t ++ rest) (local_item_tokens l) ∙ append_assoc (local_tokens l) (semicolon ∷ []) rest in
      let placed = sym (local_item Bool Ending item_placed statement_ending l) ∙ p.0 in
      let low = rw (local_item ℕ ℕ item_layer_height statement_layer_height l) at p.1 in
      ap (item_at n statement) form
      ∙ rw (local_begins l (semicolon ∷ rest)).is_local
      (then_is _ _ (l, semicolon ∷ rest) _ (local_again n l (semicolon ∷ rest) (placed, low) (semicolon_ends rest)) (then_is _ _ rest _ (after_again (semicolon ∷ []) rest refl) refl))

  pub statement_item_again : (s : Stmt) (rest : Kinds) → ItemFits n (item.Stmt s) → NotElse rest → item_at n statement (item_tokens (item.Stmt s) ++ rest) ≡ Ok (item.Stmt s, rest)
  unfolding item_at
  statement_item_again s rest p not_else =
      let placed = sym (statement_item Bool Ending item_placed statement_ending s) ∙ p.0 in
      let low = rw (statement_item ℕ ℕ item_layer_height statement_layer_height s) at p.1 in
      ap (λ (t : Kinds). item_at n statement (t ++ rest)) (statement_item_tokens s)
      ∙ rw (statement_begins s rest).not_local (then_is _ _ (s, rest) _ (reads.again s rest (record { placed = placed; low = low }) (λ o. not_else)) refl)

  pub item_again : Again (item_at n statement) item_tokens (ItemFits n) NotElse
  item_again i rest p not_else =
      item_cases (λ x. ItemFits n x → item_at n statement (item_tokens x ++ rest) ≡ Ok (x, rest)) (λ l q. local_item_again l rest q) (λ s q. statement_item_again s rest q not_else) i p

  -- ---- blocks

  pub block_takes : Takes (block_at n statement) (λ is. in_braces (flat_map item_tokens is))
  unfolding block_at items_at
  block_takes ks x e =
      let a = bind_ok (after (open_brace ∷ []) ks) _ x e in
      let b = bind_ok _ _ x a.2 in
      let c = bind_ok (after (close_brace ∷ []) b.0.1) _ x b.2 in
      let all = λ (is : List BlockItem). flat_map item_tokens is in
      given (λ is. in_braces (all is)) ks (b.0.0, c.0) x c.2
      (after_takes (open_brace ∷ []) ks a.0 a.1 ∙ ap (λ (t : Kinds). open_brace ∷ t) (many_takes has_more (item_at n statement) item_tokens item_takes _ a.0 b.0 b.1
      ∙ ap (λ (t : Kinds). all b.0.0 ++ t) (after_takes (close_brace ∷ []) b.0.1 c.0 c.1) ∙ sym (append_assoc (all b.0.0) (close_brace ∷ []) c.0)))

  pub one_more_fits : (i : BlockItem) (is : List BlockItem) → ItemFits n i → ItemsFit n is → ItemsFit n (i ∷ is)
  one_more_fits i is p q = (true_and (is_placed_item i) (all_of is_placed_item is) p.0 q.0, omega (arith, p.1, q.1))

  pub each_fits : (i : BlockItem) (is : List BlockItem) → ItemsFit n (i ∷ is) → ItemFits n i × ItemsFit n is
  each_fits i is p = let q = both (is_placed_item i) (all_of is_placed_item is) p.0 in ((q.0, omega (arith, p.1)), (q.1, omega (arith, p.1)))

  pub block_keeps : Keeps (block_at n statement) (ItemsFit n)
  unfolding block_at items_at
  block_keeps ks x e =
      let a = bind_ok (after (open_brace ∷ []) ks) _ x e in
      let b = bind_ok _ _ x a.2 in
      let c = bind_ok (after (close_brace ∷ []) b.0.1) _ x b.2 in
      kept (ItemsFit n) (b.0.0, c.0) x c.2 (many_keeps has_more (item_at n statement) (ItemFits n) (ItemsFit n) item_keeps (refl, omega arith) one_more_fits _ a.0 b.0 b.1)

  pub close_stops : (rest : Kinds) → has_more (close_brace ∷ rest) ≡ false
  unfolding has_more same_token
  close_stops rest = refl

  pub close_not_else : (rest : Kinds) → begins else_word (close_brace ∷ rest) ≡ false
  unfolding begins same_token
  close_not_else rest = refl

  pub block_again : Again (block_at n statement) (λ is. in_braces (flat_map item_tokens is)) (ItemsFit n) Any
  unfolding block_at items_at
  block_again is rest p g =
      let all = flat_map item_tokens is in
      ap (λ (t : Kinds). block_at n statement (open_brace ∷ t)) (append_assoc all (close_brace ∷ []) rest)
      ∙ then_is _ _ (all ++ (close_brace ∷ rest)) _ (after_again (open_brace ∷ []) _ refl)
      (then_is _ _ (is, close_brace ∷ rest) _
      (all_again has_more (item_at n statement) item_tokens (ItemFits n) (ItemsFit n) NotElse items_begin item_again each_fits (λ i t. (item_begins i t).not_else) close_brace rest (close_stops rest) (close_not_else rest) is p)
      (then_is _ _ rest _ (after_again (close_brace ∷ []) rest refl) refl))
