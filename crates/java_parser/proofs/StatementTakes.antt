-- What reading a statement takes.
use Rattle.std.proofs.Common.{◌≡◌, ℕ, suc, ◌≤◌, Bool, true, false, not, List, [], ◌∷◌, ◌++◌, Option, Some, None, Ok, ◌⊎◌, inl, inr, refl, sym, ap, subst, ◌∙◌, append_assoc, arith}
use Rattle.java_tree.specs.declared.token.Kind.{Kind}
use Rattle.java_tree.specs.declared.token.Kind.TheVariants as k
use Rattle.java_tree.specs.declared.token.Reserved.TheVariants as word
use Rattle.java_tree.specs.declared.tree.Expr.{Expr}
use Rattle.java_tree.specs.declared.tree.BlockItem.{BlockItem}
use Rattle.java_tree.specs.declared.tree.Stmt.{Stmt}
use Rattle.java_tree.specs.declared.tree.Stmt.TheVariants as stmt
use Rattle.java_tree.specs.Tokens.{Kinds, in_braces, simple_tokens, returned, item_step, statement_step, item_tokens}
use Rattle.java_tree.specs.Placed.{Ending, is_placed_expr, item_placed, statement_ending, is_placed_item}
use Rattle.java_tree.specs.Heights.{item_layer_height, statement_layer_height}
use Rattle.java_parser.specs.declared.forms.StatementForm.{StatementForm}
use Rattle.java_parser.specs.declared.forms.StatementForm.TheVariants as form
use Rattle.java_parser.specs.Words.{Reading, begins, after}
use Rattle.java_parser.specs.Members.{semicolon}
use Rattle.java_parser.specs.Simples.{simple_in}
use Rattle.java_parser.specs.Headers.{header_at}
use Rattle.java_parser.specs.Statements.{else_word, block_at, test_at, otherwise_at, branches_at, if_at, while_at, for_at, after_jump, returned_at, return_at, simple_statement_at, statement_of}
use Rattle.java_parser.proofs.Laws.{bind_ok, same_Ok, chosen, after_takes}
use Rattle.java_parser.proofs.StatementLayers.{of_item, of_statement, local_item, statement_item, EachStatement, statement_cases, item_cases}
use Rattle.java_parser.proofs.StatementLayers as layers
use Rattle.java_parser.proofs.SimpleLaws.{simple_in_takes, simple_in_keeps}
use Rattle.java_parser.proofs.HeaderLaws.{for_tokens, header_takes, header_keeps}
use Rattle.java_parser.proofs.BlockLaws.{Fits, Found, IsClosed, Reads, all_map, block_keeps, block_takes, ending_of, flat, statement_height, statement_tokens, true_and}
use Rattle.java_parser.proofs.PartLaws.{TestFits, returned_keeps, returned_takes, test_keeps, test_takes, test_tokens}

-- from one layer to the statement
pub found_of : (n : ℕ) (ks : Kinds) (s : Stmt) (rest layer : Kinds) (ending : Ending) (height : ℕ) → statement_tokens s ≡ layer → ending_of s ≡ ending → statement_height s ≡ height
    → ks ≡ layer ++ rest → ending.is_placed ≡ true → height ≤ n → (ending.is_open ≡ true → begins else_word rest ≡ false) → Found n ks s rest
found_of n ks s rest layer ending height st se sh tokens placed low closed = record {
  tokens = tokens ∙ ap (λ (t : Kinds). t ++ rest) (sym st);
  fits = record { placed = ap (λ (z : Ending). z.is_placed) se ∙ placed; low = rw sh low };
  is_closed = λ o. closed (ap (λ (z : Ending). z.is_open) (sym se) ∙ o);
}

pub given_found : (n : ℕ) (ks : Kinds) (y x : Stmt × Kinds) → ◌≡◌ {A = Reading Stmt} (Ok y) (Ok x) → Found n ks y.0 y.1 → Found n ks x.0 x.1
given_found n ks y x e h = subst (λ (z : Stmt × Kinds). Found n ks z.0 z.1) (same_Ok y x e) h

pub closed_lies : (rest : Kinds) → false ≡ true → begins else_word rest ≡ false
closed_lies rest e = absurd cc

pub regroup_alone : (word : Kind) (test first rest : Kinds) → word ∷ (test ++ (first ++ rest)) ≡ (word ∷ (test ++ (first ++ []))) ++ rest
regroup_alone word test first rest = sym (simp append_assoc)

pub regroup_else : (word : Kind) (test first : Kinds) (between : Kind) (second rest : Kinds) → word ∷ (test ++ (first ++ (between ∷ (second ++ rest)))) ≡ (word ∷ (test ++ (first ++ (between ∷ second)))) ++ rest
regroup_else word test first between second rest = sym (simp append_assoc)

pub not_both : (a b : Bool) → (a ≡ true → b ≡ false) → b ≡ true → not a ≡ true
not_both false b f h = refl
not_both true b f h = absurd (let g = f refl in cc)

-- an `if` that an `else` follows is no open one
pub not_open : (s : Stmt) (rest : Kinds) → IsClosed s rest → begins else_word rest ≡ true → not (ending_of s).is_open ≡ true
not_open s rest closed else_follows = not_both (ending_of s).is_open (begins else_word rest) closed else_follows

-- the branch behind an `else`
pub record Branch (n : ℕ) (ks : Kinds) (x : Option Stmt × Kinds) : Type 0 where
  pub body : Stmt
  pub rest : Kinds
  pub follows : begins else_word ks ≡ true
  pub tokens : ks ≡ else_word ∷ (statement_tokens body ++ rest)
  pub fits : Fits n body
  pub is_closed : IsClosed body rest
  pub is : x ≡ (Some body, rest)

module _ (n : ℕ) (statement : Kinds → Reading Stmt) (reads : Reads n statement) where
  pub found_block : (ks : Kinds) (x : List BlockItem × Kinds) → block_at n statement ks ≡ Ok x → Found (suc n) ks (stmt.Block x.0) x.1
  found_block ks x e =
      let fits = block_keeps n statement reads ks x e in
      found_of (suc n) ks (stmt.Block x.0) x.1 _ _ _ (layers.block Kinds Kinds item_step statement_step x.0) (layers.block Bool Ending item_placed statement_ending x.0) (layers.block ℕ ℕ item_layer_height statement_layer_height x.0)
      (block_takes n statement reads ks x e ∙ ap (λ (t : Kinds). in_braces t ++ x.1) (sym (flat item_tokens x.0)))
      (all_map is_placed_item x.0 ∙ fits.0) (omega (arith, fits.1)) (closed_lies x.1)

  pub branch : (ks : Kinds) (x : Option Stmt × Kinds) → otherwise_at statement ks ≡ Ok x → Branch n ks x ⊎ ((begins else_word ks ≡ false) × (x ≡ (None, ks)))
  unfolding otherwise_at
  branch ks x e =
      elim (chosen (begins else_word ks) _ (Ok (None, ks)) (Ok x) e) [
        | inl h ↦ let f = bind_ok (after (else_word ∷ []) ks) _ x h.1 in let g = bind_ok (statement f.0) _ x f.2 in let second = reads.found f.0 g.0 g.1 in
            inl (record {
              body = g.0.0;
              rest = g.0.1;
              follows = h.0;
              tokens = after_takes (else_word ∷ []) ks f.0 f.1 ∙ ap (λ (t : Kinds). else_word ∷ t) second.tokens;
              fits = second.fits;
              is_closed = second.is_closed;
              is = sym (same_Ok (Some g.0.0, g.0.1) x g.2);
            })
        | inr h ↦ inr (h.0, sym (same_Ok (None, ks) x h.1))
      ]

  pub found_else : (ks : Kinds) (test : Expr) (first : Stmt) (behind : Kinds) (x : Option Stmt × Kinds) → ks ≡ k.Reserved word.If ∷ (test_tokens test ++ (statement_tokens first ++ behind)) → TestFits n test → Fits n first → IsClosed first behind
      → Branch n behind x → Found (suc n) ks (stmt.If test first x.0) x.1
  found_else ks test first behind x head test_fits first_fits first_closed second =
      let s = stmt.If test first (Some second.body) in
      let keyword = k.Reserved word.If in
      let whole : Found (suc n) ks s second.rest =
      found_of (suc n) ks s second.rest _ _ _ (layers.if_else Kinds Kinds item_step statement_step test first second.body) (layers.if_else Bool Ending item_placed statement_ending test first second.body) (layers.if_else ℕ ℕ item_layer_height statement_layer_height test first second.body)
      (head ∙ ap (λ (t : Kinds). keyword ∷ (test_tokens test ++ (statement_tokens first ++ t))) second.tokens ∙ regroup_else keyword (test_tokens test) (statement_tokens first) else_word (statement_tokens second.body) second.rest)
      (true_and (is_placed_expr test) _ test_fits.0 (true_and (ending_of first).is_placed _ first_fits.placed (true_and (not (ending_of first).is_open) _ (not_open first behind first_closed second.follows) second.fits.placed)))
      (omega (arith, test_fits.1, first_fits.low, second.fits.low)) second.is_closed in
      subst (λ (z : Option Stmt × Kinds). Found (suc n) ks (stmt.If test first z.0) z.1) (sym second.is) whole

  pub found_alone : (ks : Kinds) (test : Expr) (first : Stmt) (behind : Kinds) → ks ≡ k.Reserved word.If ∷ (test_tokens test ++ (statement_tokens first ++ behind)) → TestFits n test → Fits n first
      → begins else_word behind ≡ false → Found (suc n) ks (stmt.If test first None) behind
  found_alone ks test first behind head test_fits first_fits not_else =
      found_of (suc n) ks (stmt.If test first None) behind _ _ _ (layers.if_alone Kinds Kinds item_step statement_step test first) (layers.if_alone Bool Ending item_placed statement_ending test first) (layers.if_alone ℕ ℕ item_layer_height statement_layer_height test first)
      (head ∙ regroup_alone (k.Reserved word.If) (test_tokens test) (statement_tokens first) behind)
      (true_and (is_placed_expr test) _ test_fits.0 first_fits.placed) (omega (arith, test_fits.1, first_fits.low)) (λ o. not_else)

  pub found_if : (ks : Kinds) (x : Stmt × Kinds) → if_at n statement ks ≡ Ok x → Found (suc n) ks x.0 x.1
  unfolding if_at branches_at
  found_if ks x e =
      let keyword = k.Reserved word.If in
      let a = bind_ok (after (keyword ∷ []) ks) _ x e in
      let b = bind_ok (test_at n a.0) _ x a.2 in
      let f = bind_ok (branches_at statement b.0.1) _ x b.2 in
      let c = bind_ok (statement b.0.1) _ f.0 f.1 in
      let d = bind_ok (otherwise_at statement c.0.1) _ f.0 c.2 in
      let first = reads.found b.0.1 c.0 c.1 in
      let test = test_keeps n a.0 b.0 b.1 in
      let head : ks ≡ keyword ∷ (test_tokens b.0.0 ++ (statement_tokens c.0.0 ++ c.0.1)) =
      after_takes (keyword ∷ []) ks a.0 a.1 ∙ ap (λ (t : Kinds). keyword ∷ t) (test_takes n a.0 b.0 b.1 ∙ ap (λ (t : Kinds). test_tokens b.0.0 ++ t) first.tokens) in
      given_found (suc n) ks (stmt.If b.0.0 c.0.0 d.0.0, d.0.1) x (ap (λ z. Ok (stmt.If b.0.0 z.0.0 z.0.1, z.1)) (same_Ok ((c.0.0, d.0.0), d.0.1) f.0 d.2) ∙ f.2)
      (elim (branch c.0.1 d.0 d.1) [
        | inl second ↦ found_else ks b.0.0 c.0.0 c.0.1 d.0 head test first.fits first.is_closed second
        | inr h ↦ subst (λ (z : Option Stmt × Kinds). Found (suc n) ks (stmt.If b.0.0 c.0.0 z.0) z.1) (sym h.1) (found_alone ks b.0.0 c.0.0 c.0.1 head test first.fits h.0)
      ])

  pub found_while : (ks : Kinds) (x : Stmt × Kinds) → while_at n statement ks ≡ Ok x → Found (suc n) ks x.0 x.1
  unfolding while_at
  found_while ks x e =
      let word = k.Reserved word.While in
      let a = bind_ok (after (word ∷ []) ks) _ x e in
      let b = bind_ok (test_at n a.0) _ x a.2 in
      let c = bind_ok (statement b.0.1) _ x b.2 in
      let test = test_keeps n a.0 b.0 b.1 in
      let body = reads.found b.0.1 c.0 c.1 in
      given_found (suc n) ks (stmt.While b.0.0 c.0.0, c.0.1) x c.2
      (found_of (suc n) ks (stmt.While b.0.0 c.0.0) c.0.1 _ _ _ (layers.while_loop Kinds Kinds item_step statement_step b.0.0 c.0.0) (layers.while_loop Bool Ending item_placed statement_ending b.0.0 c.0.0) (layers.while_loop ℕ ℕ item_layer_height statement_layer_height b.0.0 c.0.0)
      (after_takes (word ∷ []) ks a.0 a.1 ∙ ap (λ (t : Kinds). word ∷ t) (test_takes n a.0 b.0 b.1 ∙ ap (λ (t : Kinds). test_tokens b.0.0 ++ t) body.tokens ∙ sym (append_assoc (test_tokens b.0.0) (statement_tokens c.0.0) c.0.1)))
      (true_and (is_placed_expr b.0.0) _ test.0 body.fits.placed) (omega (arith, test.1, body.fits.low)) body.is_closed)

  pub found_for : (ks : Kinds) (x : Stmt × Kinds) → for_at n statement ks ≡ Ok x → Found (suc n) ks x.0 x.1
  unfolding for_at
  found_for ks x e =
      let a = bind_ok (header_at n ks) _ x e in
      let b = bind_ok (statement a.0.1) _ x a.2 in
      let h = a.0.0 in
      let fits = header_keeps n ks a.0 a.1 in
      let body = reads.found a.0.1 b.0 b.1 in
      given_found (suc n) ks (stmt.For h b.0.0, b.0.1) x b.2
      (found_of (suc n) ks (stmt.For h b.0.0) b.0.1 _ _ _ (layers.for_loop Kinds Kinds item_step statement_step h b.0.0) (layers.for_loop Bool Ending item_placed statement_ending h b.0.0) (layers.for_loop ℕ ℕ item_layer_height statement_layer_height h b.0.0)
      (header_takes n ks a.0 a.1 ∙ ap (λ (t : Kinds). for_tokens h ++ t) body.tokens ∙ sym (append_assoc (for_tokens h) (statement_tokens b.0.0) b.0.1))
      (true_and _ _ (true_and _ _ fits.init_placed (true_and _ _ fits.test_placed fits.update_placed)) body.fits.placed)
      (omega (arith, fits.init_low, fits.test_low, fits.update_low, body.fits.low)) body.is_closed)

  pub found_empty : (ks : Kinds) (x : Stmt × Kinds) → statement_of form.Empty n statement ks ≡ Ok x → Found (suc n) ks x.0 x.1
  unfolding statement_of
  found_empty ks x e =
      let a = bind_ok (after (semicolon ∷ []) ks) _ x e in
      given_found (suc n) ks (stmt.Empty, a.0) x a.2
      (found_of (suc n) ks stmt.Empty a.0 _ _ _ (layers.empty Kinds Kinds item_step statement_step) (layers.empty Bool Ending item_placed statement_ending) (layers.empty ℕ ℕ item_layer_height statement_layer_height)
      (after_takes (semicolon ∷ []) ks a.0 a.1) refl (omega arith) (closed_lies a.0))

  pub found_break : (ks : Kinds) (x : Stmt × Kinds) → statement_of form.Break n statement ks ≡ Ok x → Found (suc n) ks x.0 x.1
  unfolding statement_of after_jump
  found_break ks x e =
      let words = k.Reserved word.Break ∷ semicolon ∷ [] in
      let a = bind_ok (after words ks) _ x e in
      given_found (suc n) ks (stmt.Break, a.0) x a.2
      (found_of (suc n) ks stmt.Break a.0 _ _ _ (layers.breaking Kinds Kinds item_step statement_step) (layers.breaking Bool Ending item_placed statement_ending) (layers.breaking ℕ ℕ item_layer_height statement_layer_height)
      (after_takes words ks a.0 a.1) refl (omega arith) (closed_lies a.0))

  pub found_continue : (ks : Kinds) (x : Stmt × Kinds) → statement_of form.Continue n statement ks ≡ Ok x → Found (suc n) ks x.0 x.1
  unfolding statement_of after_jump
  found_continue ks x e =
      let words = k.Reserved word.Continue ∷ semicolon ∷ [] in
      let a = bind_ok (after words ks) _ x e in
      given_found (suc n) ks (stmt.Continue, a.0) x a.2
      (found_of (suc n) ks stmt.Continue a.0 _ _ _ (layers.continuing Kinds Kinds item_step statement_step) (layers.continuing Bool Ending item_placed statement_ending) (layers.continuing ℕ ℕ item_layer_height statement_layer_height)
      (after_takes words ks a.0 a.1) refl (omega arith) (closed_lies a.0))

  pub found_return : (ks : Kinds) (x : Stmt × Kinds) → return_at n ks ≡ Ok x → Found (suc n) ks x.0 x.1
  unfolding return_at
  found_return ks x e =
      let word = k.Reserved word.Return in
      let a = bind_ok (after (word ∷ []) ks) _ x e in
      let b = bind_ok (returned_at n a.0) _ x a.2 in
      let c = bind_ok (after (semicolon ∷ []) b.0.1) _ x b.2 in
      let fits = returned_keeps n a.0 b.0 b.1 in
      given_found (suc n) ks (stmt.Return b.0.0, c.0) x c.2
      (found_of (suc n) ks (stmt.Return b.0.0) c.0 _ _ _ (layers.returning Kinds Kinds item_step statement_step b.0.0) (layers.returning Bool Ending item_placed statement_ending b.0.0) (layers.returning ℕ ℕ item_layer_height statement_layer_height b.0.0)
      (after_takes (word ∷ []) ks a.0 a.1 ∙ ap (λ (t : Kinds). word ∷ t) (returned_takes n a.0 b.0 b.1 ∙ ap (λ (t : Kinds). returned b.0.0 ++ t) (after_takes (semicolon ∷ []) b.0.1 c.0 c.1)
      ∙ sym (append_assoc (returned b.0.0) (semicolon ∷ []) c.0)))
      fits.0 (omega (arith, fits.1)) (closed_lies c.0))

  pub found_simple : (ks : Kinds) (x : Stmt × Kinds) → simple_statement_at n ks ≡ Ok x → Found (suc n) ks x.0 x.1
  unfolding simple_statement_at
  found_simple ks x e =
      let a = bind_ok (simple_in n ks) _ x e in
      let b = bind_ok (after (semicolon ∷ []) a.0.1) _ x a.2 in
      let fits = simple_in_keeps n ks a.0 a.1 in
      given_found (suc n) ks (stmt.Simple a.0.0, b.0) x b.2
      (found_of (suc n) ks (stmt.Simple a.0.0) b.0 _ _ _ (layers.simple Kinds Kinds item_step statement_step a.0.0) (layers.simple Bool Ending item_placed statement_ending a.0.0) (layers.simple ℕ ℕ item_layer_height statement_layer_height a.0.0)
      (simple_in_takes n ks a.0 a.1 ∙ ap (λ (t : Kinds). simple_tokens a.0.0 ++ t) (after_takes (semicolon ∷ []) a.0.1 b.0 b.1) ∙ sym (append_assoc (simple_tokens a.0.0) (semicolon ∷ []) b.0))
      fits.0 fits.1 (closed_lies b.0))

  pub found_by : (f : StatementForm) (ks : Kinds) (x : Stmt × Kinds) → statement_of f n statement ks ≡ Ok x → Found (suc n) ks x.0 x.1
  unfolding statement_of
  found_by form.Block ks x e = let a = bind_ok (block_at n statement ks) _ x e in given_found (suc n) ks (stmt.Block a.0.0, a.0.1) x a.2 (found_block ks a.0 a.1)
  found_by form.Empty ks x e = found_empty ks x e
  found_by form.If ks x e = found_if ks x e
  found_by form.While ks x e = found_while ks x e
  found_by form.For ks x e = found_for ks x e
  found_by form.Break ks x e = found_break ks x e
  found_by form.Continue ks x e = found_continue ks x e
  found_by form.Return ks x e = found_return ks x e
  found_by form.Simple ks x e = found_simple ks x e
