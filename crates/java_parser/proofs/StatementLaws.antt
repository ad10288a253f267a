-- The tokens of a statement are read as it, on any number of levels.
use Rattle.std.proofs.Common.{◌≡◌, ℕ, zero, suc, ◌≤◌, ◌<◌, Bool, true, false, not, ◌&&◌, List, [], ◌∷◌, ◌++◌, Option, Some, None, Ok, refl, sym, ap, subst, ◌∙◌, append_assoc, arith}
use Rattle.std.specs.List.{flat_map}
use Rattle.java_tree.specs.declared.token.Kind.TheVariants as k
use Rattle.java_tree.specs.declared.token.Reserved.{Reserved}
use Rattle.java_tree.specs.declared.token.Reserved.TheVariants as word
use Rattle.java_tree.specs.declared.tree.Simple.{Simple}
use Rattle.java_tree.specs.declared.tree.Expr.{Expr}
use Rattle.java_tree.specs.declared.tree.Value.{Value}
use Rattle.java_tree.specs.declared.tree.BlockItem.{BlockItem}
use Rattle.java_tree.specs.declared.tree.Stmt.{Stmt}
use Rattle.java_tree.specs.declared.tree.Stmt.TheVariants as stmt
use Rattle.java_tree.specs.Tokens.{Kinds, in_braces, simple_tokens, returned, item_step, statement_step, item_tokens}
use Rattle.java_tree.specs.Placed.{Ending, all_of, is_placed_expr, is_placed_option, is_placed_simple, is_placed_init, is_placed_header, item_placed, statement_ending, is_placed_item}
use Rattle.java_tree.specs.Heights.{item_layer_height, statement_layer_height}
use Rattle.java_parser.specs.declared.forms.StatementForm.{StatementForm}
use Rattle.java_parser.specs.declared.forms.StatementForm.TheVariants as form
use Rattle.java_tree.specs.declared.tree.ForHeader.{ForHeader}
use Rattle.java_parser.specs.Words.{Reading, begins}
use Rattle.java_parser.specs.Members.{semicolon}
use Rattle.java_parser.specs.Forms.{statement_form}
use Rattle.java_parser.specs.Statements.{open_brace, else_word, otherwise_at, branches_at, if_at, while_at, for_at, after_jump, return_at, simple_statement_at, statement_of, statement_at}
use Rattle.java_parser.proofs.Laws.{then_is, after_again, both, begins_same}
use Rattle.java_parser.proofs.StatementLayers.{of_item, of_statement, local_item, statement_item, EachStatement, statement_cases, item_cases}
use Rattle.java_parser.proofs.StatementLayers as layers
use Rattle.java_parser.proofs.Ends.{semicolon_ends}
use Rattle.java_parser.proofs.SimpleHeads.{simple_begins}
use Rattle.java_parser.proofs.SimpleLaws.{simple_is_high, simple_in_again}
use Rattle.java_parser.proofs.HeaderLaws.{HeaderFits, for_tokens, header_again}
use Rattle.java_parser.proofs.BlockLaws.{Fits, Found, IsClosed, Reads, all_map, block_again, ending_of, flat, statement_height, statement_tokens}
use Rattle.java_parser.proofs.PartLaws.{TestFits, returned_again, test_again, test_tokens}
use Rattle.java_parser.proofs.StatementTakes.{regroup_alone, regroup_else, found_by}

-- what a statement's layer keeps
placed_as : (s : Stmt) (n : ℕ) (ending : Ending) → ending_of s ≡ ending → Fits n s → ending.is_placed ≡ true
placed_as s n ending e fits = ap (λ (z : Ending). z.is_placed) (sym e) ∙ fits.placed

low_as : (s : Stmt) (n height : ℕ) → statement_height s ≡ height → Fits n s → height ≤ n
low_as s n height e fits = subst (λ (h : ℕ). h ≤ n) e fits.low

closed_as : (s : Stmt) (rest : Kinds) (ending : Ending) → ending_of s ≡ ending → IsClosed s rest → ending.is_open ≡ true → begins else_word rest ≡ false
closed_as s rest ending e closed o = closed (ap (λ (z : Ending). z.is_open) e ∙ o)

-- the tokens have this form
abbrev ReadsAgain : ℕ → (Kinds → Reading Stmt) → Stmt → Type 0
ReadsAgain n statement s = (rest : Kinds) → Fits (suc n) s → IsClosed s rest → statement_of (statement_form (statement_tokens s ++ rest)) n statement (statement_tokens s ++ rest) ≡ Ok (s, rest)

again_as : (n : ℕ) (statement : Kinds → Reading Stmt) (s : Stmt) (rest layer : Kinds) (f : StatementForm) → statement_tokens s ≡ layer → statement_form (layer ++ rest) ≡ f → statement_of f n statement (layer ++ rest) ≡ Ok (s, rest)
    → statement_of (statement_form (statement_tokens s ++ rest)) n statement (statement_tokens s ++ rest) ≡ Ok (s, rest)
again_as n statement s rest layer f e is h =
    ap (λ (t : Kinds). statement_of (statement_form (t ++ rest)) n statement (t ++ rest)) e ∙ ap (λ (g : StatementForm). statement_of g n statement (layer ++ rest)) is ∙ h

symbol_is_block : (rest : Kinds) → statement_form (open_brace ∷ rest) ≡ form.Block
unfolding statement_form
symbol_is_block rest = refl

symbol_is_empty : (rest : Kinds) → statement_form (semicolon ∷ rest) ≡ form.Empty
unfolding statement_form
symbol_is_empty rest = refl

if_is : statement_form (k.Reserved word.If ∷ []) ≡ form.If
unfolding statement_form
if_is = refl

while_is : statement_form (k.Reserved word.While ∷ []) ≡ form.While
unfolding statement_form
while_is = refl

for_is : statement_form (k.Reserved word.For ∷ []) ≡ form.For
unfolding statement_form
for_is = refl

break_is : statement_form (k.Reserved word.Break ∷ []) ≡ form.Break
unfolding statement_form
break_is = refl

continue_is : statement_form (k.Reserved word.Continue ∷ []) ≡ form.Continue
unfolding statement_form
continue_is = refl

return_is : statement_form (k.Reserved word.Return ∷ []) ≡ form.Return
unfolding statement_form
return_is = refl

not_closed : (s : Stmt) (rest : Kinds) → not (ending_of s).is_open ≡ true → IsClosed s rest
not_closed s rest h o = absurd (let e = ap not o in cc)

word_is_form : (w : Reserved) (f : StatementForm) (rest : Kinds) → statement_form (k.Reserved w ∷ []) ≡ f → statement_form (k.Reserved w ∷ rest) ≡ f
unfolding statement_form
word_is_form w f rest e = e

module _ (n : ℕ) (statement : Kinds → Reading Stmt) (reads : Reads n statement) where
  again_block : (items : List BlockItem) → ReadsAgain n statement (stmt.Block items)
  unfolding statement_of
  again_block items rest fits closed =
      let st = layers.block Kinds Kinds item_step statement_step items ∙ ap in_braces (flat item_tokens items) in
      let placed = sym (all_map is_placed_item items) ∙ placed_as (stmt.Block items) (suc n) _ (layers.block Bool Ending item_placed statement_ending items) fits in
      let low = low_as (stmt.Block items) (suc n) _ (layers.block ℕ ℕ item_layer_height statement_layer_height items) fits in
      again_as n statement (stmt.Block items) rest (in_braces (flat_map item_tokens items)) form.Block st (symbol_is_block _)
      (then_is _ _ (items, rest) _ (block_again n statement reads items rest (placed, omega (arith, low)) tt) refl)

  again_empty : ReadsAgain n statement stmt.Empty
  unfolding statement_of
  again_empty rest fits closed =
      again_as n statement stmt.Empty rest _ form.Empty (layers.empty Kinds Kinds item_step statement_step) (symbol_is_empty rest) (then_is _ _ rest _ (after_again (semicolon ∷ []) rest refl) refl)

  again_simple : (x : Simple) → ReadsAgain n statement (stmt.Simple x)
  unfolding statement_of simple_statement_at
  again_simple x rest fits closed =
      let placed = placed_as (stmt.Simple x) (suc n) _ (layers.simple Bool Ending item_placed statement_ending x) fits in
      let low = low_as (stmt.Simple x) (suc n) _ (layers.simple ℕ ℕ item_layer_height statement_layer_height x) fits in
      let shape : (simple_tokens x ++ semicolon ∷ []) ++ rest ≡ simple_tokens x ++ (semicolon ∷ rest) = append_assoc (simple_tokens x) (semicolon ∷ []) rest in
      again_as n statement (stmt.Simple x) rest _ form.Simple (layers.simple Kinds Kinds item_step statement_step x) (ap statement_form shape ∙ (simple_begins x (semicolon ∷ rest)).statement_is)
      (ap (simple_statement_at n) shape
      ∙ then_is _ _ (x, semicolon ∷ rest) _ (simple_in_again n x (semicolon ∷ rest) (placed, low) (semicolon_ends rest)) (then_is _ _ rest _ (after_again (semicolon ∷ []) rest refl) refl))

  again_if : (test : Expr) (first : Stmt) (behind rest : Kinds) (second : Option Stmt) → TestFits n test → Fits n first → IsClosed first behind
      → otherwise_at statement behind ≡ Ok (second, rest)
      → if_at n statement (k.Reserved word.If ∷ (test_tokens test ++ (statement_tokens first ++ behind))) ≡ Ok (stmt.If test first second, rest)
  unfolding if_at branches_at
  again_if test first behind rest second test_fits first_fits first_closed other =
      let keyword = k.Reserved word.If in
      then_is _ _ (test_tokens test ++ (statement_tokens first ++ behind)) _ (after_again (keyword ∷ []) _ refl)
      (then_is _ _ (test, statement_tokens first ++ behind) _ (test_again n test (statement_tokens first ++ behind) test_fits tt)
      (then_is _ _ ((first, second), rest) _ (then_is _ _ (first, behind) _ (reads.again first behind first_fits first_closed) (then_is _ _ (second, rest) _ other refl)) refl))

  again_if_alone : (test : Expr) (first : Stmt) → ReadsAgain n statement (stmt.If test first None)
  unfolding statement_of otherwise_at
  again_if_alone test first rest fits closed =
      let s = stmt.If test first None in
      let placed = both (is_placed_expr test) (ending_of first).is_placed (placed_as s (suc n) _ (layers.if_alone Bool Ending item_placed statement_ending test first) fits) in
      let low = low_as s (suc n) _ (layers.if_alone ℕ ℕ item_layer_height statement_layer_height test first) fits in
      let not_else = closed_as s rest _ (layers.if_alone Bool Ending item_placed statement_ending test first) closed refl in
      let shape = regroup_alone (k.Reserved word.If) (test_tokens test) (statement_tokens first) rest in
      again_as n statement s rest _ form.If (layers.if_alone Kinds Kinds item_step statement_step test first) (word_is_form word.If form.If _ if_is)
      (ap (if_at n statement) (sym shape)
      ∙ again_if test first rest rest None (placed.0, omega (arith, low)) (record { placed = placed.1; low = omega (arith, low) }) (λ o. not_else) (rw not_else refl))

  again_if_else : (test : Expr) (first second : Stmt) → ReadsAgain n statement (stmt.If test first (Some second))
  unfolding statement_of otherwise_at
  again_if_else test first second rest fits closed =
      let s = stmt.If test first (Some second) in
      let se = layers.if_else Bool Ending item_placed statement_ending test first second in
      let placed = both (is_placed_expr test) ((ending_of first).is_placed && (not (ending_of first).is_open && (ending_of second).is_placed)) (placed_as s (suc n) _ se fits) in
      let inner = both (ending_of first).is_placed (not (ending_of first).is_open && (ending_of second).is_placed) placed.1 in
      let last = both (not (ending_of first).is_open) (ending_of second).is_placed inner.1 in
      let low = low_as s (suc n) _ (layers.if_else ℕ ℕ item_layer_height statement_layer_height test first second) fits in
      let behind = else_word ∷ (statement_tokens second ++ rest) in
      let shape = regroup_else (k.Reserved word.If) (test_tokens test) (statement_tokens first) else_word (statement_tokens second) rest in
      again_as n statement s rest _ form.If (layers.if_else Kinds Kinds item_step statement_step test first second) (word_is_form word.If form.If _ if_is)
      (ap (if_at n statement) (sym shape)
      ∙ again_if test first behind rest (Some second) (placed.0, omega (arith, low)) (record { placed = inner.0; low = omega (arith, low) }) (not_closed first behind last.0)
      (rw (begins_same else_word (statement_tokens second ++ rest) refl) (then_is _ _ (statement_tokens second ++ rest) _ (after_again (else_word ∷ []) _ refl)
      (then_is _ _ (second, rest) _ (reads.again second rest (record { placed = last.1; low = omega (arith, low) }) (closed_as s rest _ se closed)) refl))))

  again_while : (test : Expr) (body : Stmt) → ReadsAgain n statement (stmt.While test body)
  unfolding statement_of while_at
  again_while test body rest fits closed =
      let s = stmt.While test body in
      let keyword = k.Reserved word.While in
      let se = layers.while_loop Bool Ending item_placed statement_ending test body in
      let placed = both (is_placed_expr test) (ending_of body).is_placed (placed_as s (suc n) _ se fits) in
      let low = low_as s (suc n) _ (layers.while_loop ℕ ℕ item_layer_height statement_layer_height test body) fits in
      let shape : (keyword ∷ (test_tokens test ++ statement_tokens body)) ++ rest ≡ keyword ∷ (test_tokens test ++ (statement_tokens body ++ rest)) =
      ap (λ (t : Kinds). keyword ∷ t) (append_assoc (test_tokens test) (statement_tokens body) rest) in
      again_as n statement s rest _ form.While (layers.while_loop Kinds Kinds item_step statement_step test body) (word_is_form word.While form.While _ while_is)
      (ap (while_at n statement) shape
      ∙ then_is _ _ (test_tokens test ++ (statement_tokens body ++ rest)) _ (after_again (keyword ∷ []) _ refl)
      (then_is _ _ (test, statement_tokens body ++ rest) _ (test_again n test (statement_tokens body ++ rest) (placed.0, omega (arith, low)) tt)
      (then_is _ _ (body, rest) _ (reads.again body rest (record { placed = placed.1; low = omega (arith, low) }) (closed_as s rest _ se closed)) refl)))

  again_for : (h : ForHeader) (body : Stmt) → ReadsAgain n statement (stmt.For h body)
  unfolding statement_of for_at
  again_for h body rest fits closed =
      let s = stmt.For h body in
      let se = layers.for_loop Bool Ending item_placed statement_ending h body in
      let p = both (is_placed_header h) (ending_of body).is_placed (placed_as s (suc n) _ se fits) in
      let q = both (is_placed_init h.init) (is_placed_option is_placed_expr h.test && all_of is_placed_simple h.update) p.0 in
      let r = both (is_placed_option is_placed_expr h.test) (all_of is_placed_simple h.update) q.1 in
      let low = low_as s (suc n) _ (layers.for_loop ℕ ℕ item_layer_height statement_layer_height h body) fits in
      let header_fits : HeaderFits n h = record { init_placed = q.0; test_placed = r.0; update_placed = r.1; init_low = omega (arith, low); test_low = omega (arith, low); update_low = omega (arith, low) } in
      let shape : (for_tokens h ++ statement_tokens body) ++ rest ≡ for_tokens h ++ (statement_tokens body ++ rest) = append_assoc (for_tokens h) (statement_tokens body) rest in
      again_as n statement s rest _ form.For (layers.for_loop Kinds Kinds item_step statement_step h body) (word_is_form word.For form.For _ for_is)
      (ap (for_at n statement) shape
      ∙ then_is _ _ (h, statement_tokens body ++ rest) _ (header_again n h (statement_tokens body ++ rest) header_fits tt)
      (then_is _ _ (body, rest) _ (reads.again body rest (record { placed = p.1; low = omega (arith, low) }) (closed_as s rest _ se closed)) refl))

  again_break : ReadsAgain n statement stmt.Break
  unfolding statement_of after_jump
  again_break rest fits closed =
      again_as n statement stmt.Break rest _ form.Break (layers.breaking Kinds Kinds item_step statement_step) (word_is_form word.Break form.Break _ break_is)
      (then_is _ _ rest _ (after_again (k.Reserved word.Break ∷ semicolon ∷ []) rest refl) refl)

  again_continue : ReadsAgain n statement stmt.Continue
  unfolding statement_of after_jump
  again_continue rest fits closed =
      again_as n statement stmt.Continue rest _ form.Continue (layers.continuing Kinds Kinds item_step statement_step) (word_is_form word.Continue form.Continue _ continue_is)
      (then_is _ _ rest _ (after_again (k.Reserved word.Continue ∷ semicolon ∷ []) rest refl) refl)

  again_return : (v : Option Value) → ReadsAgain n statement (stmt.Return v)
  unfolding statement_of return_at
  again_return v rest fits closed =
      let s = stmt.Return v in
      let keyword = k.Reserved word.Return in
      let placed = placed_as s (suc n) _ (layers.returning Bool Ending item_placed statement_ending v) fits in
      let low = low_as s (suc n) _ (layers.returning ℕ ℕ item_layer_height statement_layer_height v) fits in
      let shape : (keyword ∷ (returned v ++ semicolon ∷ [])) ++ rest ≡ keyword ∷ (returned v ++ (semicolon ∷ rest)) = ap (λ (t : Kinds). keyword ∷ t) (append_assoc (returned v) (semicolon ∷ []) rest) in
      again_as n statement s rest _ form.Return (layers.returning Kinds Kinds item_step statement_step v) (word_is_form word.Return form.Return _ return_is)
      (ap (return_at n) shape
      ∙ then_is _ _ (returned v ++ (semicolon ∷ rest)) _ (after_again (keyword ∷ []) _ refl)
      (then_is _ _ (v, semicolon ∷ rest) _ (returned_again n v rest (placed, omega (arith, low)))
      (then_is _ _ rest _ (after_again (semicolon ∷ []) rest refl) refl)))

  again_each : EachStatement (ReadsAgain n statement)
  again_each = record {
    block = again_block;
    empty = again_empty;
    simple = again_simple;
    if_alone = again_if_alone;
    if_else = again_if_else;
    while_loop = again_while;
    for_loop = again_for;
    breaking = again_break;
    continuing = again_continue;
    returning = again_return;
  }

statement_is_high : (s : Stmt) → 0 < statement_height s
statement_is_high s =
    statement_cases (λ x. 0 < statement_height x)
    (record {
      block = λ items. rw (layers.block ℕ ℕ item_layer_height statement_layer_height items) (omega arith);
      empty = rw (layers.empty ℕ ℕ item_layer_height statement_layer_height) (omega arith);
      simple = λ x. rw (layers.simple ℕ ℕ item_layer_height statement_layer_height x) (simple_is_high x);
      if_alone = λ test first. rw (layers.if_alone ℕ ℕ item_layer_height statement_layer_height test first) (omega arith);
      if_else = λ test first second. rw (layers.if_else ℕ ℕ item_layer_height statement_layer_height test first second) (omega arith);
      while_loop = λ test body. rw (layers.while_loop ℕ ℕ item_layer_height statement_layer_height test body) (omega arith);
      for_loop = λ header body. rw (layers.for_loop ℕ ℕ item_layer_height statement_layer_height header body) (omega arith);
      breaking = rw (layers.breaking ℕ ℕ item_layer_height statement_layer_height) (omega arith);
      continuing = rw (layers.continuing ℕ ℕ item_layer_height statement_layer_height) (omega arith);
      returning = λ v. rw (layers.returning ℕ ℕ item_layer_height statement_layer_height v) (omega arith);
    }) s

none_read : (ks : Kinds) (x : Stmt × Kinds) → statement_at zero ks ≡ Ok x → Found zero ks x.0 x.1
unfolding statement_at
none_read ks x e = absurd cc

none_again : (s : Stmt) (rest : Kinds) → Fits zero s → IsClosed s rest → statement_at zero (statement_tokens s ++ rest) ≡ Ok (s, rest)
none_again s rest fits closed = absurd (omega (arith, fits.low, statement_is_high s))

more_read : (n : ℕ) → Reads n (statement_at n) → Reads (suc n) (statement_at (suc n))
unfolding statement_at
more_read n reads = record {
  found = λ ks x e. found_by n (statement_at n) reads (statement_form ks) ks x e;
  again = λ s rest fits closed. statement_cases (ReadsAgain n (statement_at n)) (again_each n (statement_at n) reads) s rest fits closed;
}

-- statements are read as their tokens, on any number of levels
pub statement_reads : (n : ℕ) → Reads n (statement_at n)
statement_reads zero = record { found = none_read; again = none_again }
statement_reads (suc n) = more_read n (statement_reads n)
