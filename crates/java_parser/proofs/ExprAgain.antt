-- The tokens of an expression that is well placed and on no more than the levels are read as it, where it ends behind them.
use Rattle.std.proofs.Common.{◌≡◌, ℕ, zero, suc, ◌+◌, ◌-◌, ◌<◌, ◌≤◌, Bool, true, false, not, ◌&&◌, nat_eq, nat_lt, List, [], ◌∷◌, ◌++◌, length, map, codes, Some, Result, Ok, Err, ◌⊎◌, inl, inr, refl, sym, ap, subst, ◌∙◌, append_assoc, arith}
use Rattle.std.proofs.lemmas.List.{length-append}
use Rattle.std.proofs.lemmas.Bool.Decides.{Decides-ltb, Decides-eqb, nat_tests}
use Rattle.std.specs.List.{flat_map}
use Rattle.sdg_base.specs.declared.operator.BinOp.{BinOp}
use Rattle.sdg_base.specs.declared.operator.UnOp.{UnOp}
use Rattle.sdg_base.specs.declared.operator.UnOp.TheVariants as un
use Rattle.sdg_base.specs.declared.val.Num.{Num}
use Rattle.sdg_base.specs.declared.val.Num.TheVariants as num
use Rattle.java_tree.specs.declared.token.Kind.TheVariants as k
use Rattle.java_tree.specs.declared.tree.Expr.{Expr, out-Expr, roll-Expr, roll-out-Expr}
use Rattle.java_tree.specs.declared.tree.Expr.TheVariants as expr
use Rattle.java_tree.specs.declared.tree.Value.{Value, out-Value}
use Rattle.java_tree.specs.declared.tree.CallForm.{CallForm, out-CallForm, roll-CallForm, roll-out-CallForm}
use Rattle.java_tree.specs.declared.tree.CallForm.TheVariants as call
use Rattle.java_tree.specs.declared.tree.CallForm.TheOpen.{CallForm-F, Expr-F}
use Rattle.java_tree.specs.declared.tree.CallForm.TheOpen as layer
use Rattle.java_tree.specs.Levels.{operator_level}
use Rattle.java_tree.specs.Tokens.{Kinds, global, separated, operator_symbol, expr_tokens, value_tokens, call_tokens}
use Rattle.java_tree.specs.Placed.{Standing, standing_of}
use Rattle.java_tree.specs.Heights.{expr_height, call_height}
use Rattle.java_parser.specs.declared.operands.Opening.{Opening}
use Rattle.java_parser.specs.declared.operands.Opening.TheVariants as opening
use Rattle.java_parser.specs.Words.{◌>>=◌, Fault, Reading, same_token, begins}
use Rattle.java_parser.specs.Members.{dot, at_sign, comma, open_paren, close_paren, open_bracket, close_bracket}
use Rattle.java_parser.specs.Expressions.{question, colon, operator_ahead, operator_at, number_type_ahead, opening_of, is_other, begins_expr, follows, tail, valued, all_rows, value_in, other_value_in, other_values_in, values_in, args_in, of_in, own_in, member_in, of_member_in, index_in, named_in, called_in, cast_in, inner_in, paren_in, new_in, prefixed_in, operand_by, operand_in, row_from, row_in, conditional_in, looser_in, extended_in, read_in, read_at}
use Rattle.java_parser.proofs.Laws.{bind_ok, then_is, Begins, after_again, begins_same, name_again, all_again, separated-map}
use Rattle.java_parser.proofs.Around.{optional_again}
use Rattle.java_parser.proofs.TreeHeights.{conditional_height, unary_height, cast_height, number_height, truth_height, paren_height, maker_height, name_height, index_height, member_height, called_height, own_height, of_height, of_member_height, binary_height}
use Rattle.java_parser.proofs.ExprTakes.{no_levels, not_below}
use Rattle.java_parser.proofs.TreeTokens.{args_tokens, conditional_tokens, binary_tokens, unary_tokens, cast_tokens, number_tokens, true_tokens, false_tokens, paren_tokens, maker_tokens, name_tokens, index_tokens, member_tokens, called_tokens, own_tokens, of_tokens, of_member_tokens, valued_tokens}
use Rattle.java_parser.proofs.TreeStandings.{conditional_standing, binary_standing, unary_standing, cast_standing, number_standing, truth_standing, paren_standing, maker_standing, name_standing, index_standing, member_standing, called_standing}
use Rattle.java_parser.proofs.Sound.{Sound, SoundValue, SoundValues, SoundCall}
use Rattle.java_parser.proofs.Follows.{Ends, ends, not_empty, tighter, no_operator_at, operator_found, operator_follows, level_within, not_opened, no_type}
use Rattle.java_parser.proofs.Splits.{in_paren, in_maker, in_index, in_unary, in_cast, in_called, in_conditional, in_own, in_of, in_of_member, expr_of, value_is, in_value, in_values, in_binary}

-- ---- words behind an expression

pub paren_ends : (rest : Kinds) → follows 0 (close_paren ∷ rest) ≡ true
unfolding follows operator_ahead begins same_token
paren_ends rest = refl

bracket_ends : (rest : Kinds) → follows 0 (close_bracket ∷ rest) ≡ true
unfolding follows operator_ahead begins same_token
bracket_ends rest = refl

comma_ends : (rest : Kinds) → follows 0 (comma ∷ rest) ≡ true
unfolding follows operator_ahead begins same_token
comma_ends rest = refl

colon_ends : (rest : Kinds) → follows 0 (colon ∷ rest) ≡ true
unfolding follows operator_ahead begins same_token
colon_ends rest = refl

question_ends : (rest : Kinds) → follows 1 (question ∷ rest) ≡ true
unfolding follows operator_ahead begins same_token
question_ends rest = refl

abbrev Follows : Kinds → Type 0
Follows rest = follows 0 rest ≡ true

same_or_not : (b : Bool) → (b ≡ true) ⊎ (b ≡ false)
same_or_not true = inl refl
same_or_not false = inr refl

differs : (l : ℕ) → l < 10 → nat_eq l 10 ≡ false
differs l lt = grind (arith, nat_tests)

no_question_at : (level : ℕ) (q : Bool) → level ≡ 0 → (nat_eq level 0 && q) ≡ false → q ≡ false
no_question_at level q none h = grind (arith, nat_tests)

regroup : {A B C : Type 0} (r : Result A Fault) (f : A → Result B Fault) (g : B → Result C Fault) → (r >>= λ x. f x >>= g) ≡ ((r >>= f) >>= g)
regroup (Ok x) f g = refl
regroup (Err e) f g = refl

split_by : (l t : ℕ) (b : Bool) → nat_lt (l + t) 11 ≡ b → 11 ≤ suc l + t → (11 ≤ l + t) ⊎ (l + t ≡ 10)
split_by l t true is h = let lt : l + t < 11 = (Decides-ltb (l + t) 11).0 is in inr (omega arith)
split_by l t false is h = inl (not_below (l + t) 11 is)

split_tight : (l t : ℕ) → 11 ≤ suc l + t → (11 ≤ l + t) ⊎ (l + t ≡ 10)
split_tight l t h = split_by l t (nat_lt (l + t) 11) refl h

not_above : (a b : ℕ) → b ≤ a → nat_lt a b ≡ false
not_above a b le = grind (arith, nat_tests)

-- ---- what holds looser than an operand

no_conditional : (test first second : Expr) → 11 ≤ (standing_of (expr.Conditional test first second)).tightness → ⊥
no_conditional test first second h = let s = ap (λ x. x.tightness) (conditional_standing test first second) in omega arith

no_binary : (op : BinOp) (left right : Expr) → 11 ≤ (standing_of (expr.Binary op left right)).tightness → ⊥
no_binary op left right h = let s = ap (λ x. x.tightness) (binary_standing op left right) in let w = level_within op in omega (arith, w.1)

-- what an expression is, by how tightly it holds
pub data Top (x : Expr) : Type 0 where
  Tests : (test first second : Expr) → x ≡ expr.Conditional test first second → Top x
  Operates : (op : BinOp) (left right : Expr) → x ≡ expr.Binary op left right → Top x
  Holds : 11 ≤ (standing_of x).tightness → Top x

holds_by : (x : Expr) (s : Standing) → standing_of x ≡ s → 11 ≤ s.tightness → Top x
holds_by x s e h = Holds (rw e h)

top_layer : (l : Expr-F CallForm Expr Value) → Top (roll-Expr l)
top_layer (layer.Conditional test first second) = Tests test first second (expr.rolls-Conditional test first second)
top_layer (layer.Binary op left right) = Operates op left right (expr.rolls-Binary op left right)
top_layer (layer.Unary op x) = subst Top (sym (expr.rolls-Unary op x)) (holds_by _ _ (unary_standing op x) (omega arith))
top_layer (layer.Cast to x) = subst Top (sym (expr.rolls-Cast to x)) (holds_by _ _ (cast_standing to x) (omega arith))
top_layer (layer.Number digits decimal long) = subst Top (sym (expr.rolls-Number digits decimal long)) (holds_by _ _ (number_standing digits decimal long) (omega arith))
top_layer (layer.Bool value) = subst Top (sym (expr.rolls-Bool value)) (holds_by _ _ (truth_standing value) (omega arith))
top_layer (layer.Paren x) = subst Top (sym (expr.rolls-Paren x)) (holds_by _ _ (paren_standing x) (omega arith))
top_layer (layer.New name x) = subst Top (sym (expr.rolls-New name x)) (holds_by _ _ (maker_standing name x) (omega arith))
top_layer (layer.Name name) = subst Top (sym (expr.rolls-Name name)) (holds_by _ _ (name_standing name) (omega arith))
top_layer (layer.Index name x) = subst Top (sym (expr.rolls-Index name x)) (holds_by _ _ (index_standing name x) (omega arith))
top_layer (layer.Member object name) = subst Top (sym (expr.rolls-Member object name)) (holds_by _ _ (member_standing object name) (omega arith))
top_layer (layer.Call c) = subst Top (sym (expr.rolls-Call c)) (holds_by _ _ (called_standing c) (omega arith))

top_of : (x : Expr) → Top x
top_of x = subst Top (roll-out-Expr x) (top_layer (out-Expr x))

-- what is read again on one level deeper, and what that begins with
pub record Deeper (n : ℕ) (deeper : ℕ → Kinds → Reading Expr) : Type 0 where
  pub again : (looseness : ℕ) (x : Expr) (rest : Kinds) → looseness ≤ 11 → Sound n looseness x → follows (11 - looseness) rest ≡ true → deeper looseness (expr_tokens x ++ rest) ≡ Ok (x, rest)
  pub opens : (looseness : ℕ) (ks : Kinds) (x : Expr × Kinds) → deeper looseness ks ≡ Ok x → begins_expr ks ≡ true

module _ (n : ℕ) (deeper : ℕ → Kinds → Reading Expr) (d : Deeper n deeper) where
  whole : (x : Expr) (rest : Kinds) → Sound n 11 x → Follows rest → deeper all_rows (expr_tokens x ++ rest) ≡ Ok (x, rest)
  whole x rest i f = d.again 11 x rest (omega arith) i f

  opened : (x : Expr) (rest : Kinds) → Sound n 11 x → Follows rest → begins_expr (expr_tokens x ++ rest) ≡ true
  opened x rest i f = d.opens 11 (expr_tokens x ++ rest) (x, rest) (whole x rest i f)

  no_paren : (x : Expr) (rest : Kinds) → Sound n 11 x → Follows rest → begins close_paren (expr_tokens x ++ rest) ≡ false
  unfolding opening_of
  no_paren x rest i f = not_opened close_paren (expr_tokens x ++ rest) (λ t. refl) (opened x rest i f)

  no_at : (x : Expr) (rest : Kinds) → Sound n 11 x → Follows rest → begins at_sign (expr_tokens x ++ rest) ≡ false
  unfolding opening_of
  no_at x rest i f = not_opened at_sign (expr_tokens x ++ rest) (λ t. refl) (opened x rest i f)

  -- ---- values

  valued_again : (is_global : Bool) (x : Expr) (rest : Kinds) → Sound n 11 x → Follows rest → value_in deeper (value_tokens (valued is_global x) ++ rest) ≡ Ok (valued is_global x, rest)
  unfolding value_in
  valued_again is_global x rest i f =
      rw (valued_tokens is_global x, append_assoc (global is_global) (expr_tokens x) rest)
      (then_is _ _ (is_global, expr_tokens x ++ rest) _ (optional_again at_sign (k.Identifier (codes "Global") ∷ []) refl is_global (expr_tokens x ++ rest) (no_at x rest i f))
      (then_is _ _ (x, rest) _ (whole x rest i f) refl))

  pub value_again : (v : Value) (rest : Kinds) → SoundValue n v → Follows rest → value_in deeper (value_tokens v ++ rest) ≡ Ok (v, rest)
  value_again v rest i f =
      let P : Value → Type 0 = λ w. value_in deeper (value_tokens w ++ rest) ≡ Ok (w, rest) in
      subst P (value_is v) (valued_again (out-Value v).is_global (expr_of v) rest (in_value n v i) f)

  value_no_paren : (v : Value) (rest : Kinds) → SoundValue n v → Follows rest → begins close_paren (value_tokens v ++ rest) ≡ false
  unfolding begins same_token
  value_no_paren v rest i f =
      let P : Value → Type 0 = λ w. begins close_paren (value_tokens w ++ rest) ≡ false in
      subst P (value_is v) (rw (valued_tokens (out-Value v).is_global (expr_of v), append_assoc (global (out-Value v).is_global) (expr_tokens (expr_of v)) rest)
      (elim (out-Value v).is_global as (λ b. begins close_paren (global b ++ (expr_tokens (expr_of v) ++ rest)) ≡ false) [
        | true ↦ refl
        | false ↦ no_paren (expr_of v) rest (in_value n v i) f
      ]))

  abbrev other_value_tokens : Value → Kinds
  other_value_tokens v = comma ∷ value_tokens v

  other_value_again : (v : Value) (rest : Kinds) → SoundValue n v → Follows rest → other_value_in deeper (other_value_tokens v ++ rest) ≡ Ok (v, rest)
  unfolding other_value_in
  other_value_again v rest i f = then_is _ _ (value_tokens v ++ rest) _ (after_again (comma ∷ []) (value_tokens v ++ rest) refl) (value_again v rest i f)

  other_value_begins : Begins (begins comma) other_value_tokens
  unfolding begins same_token
  other_value_begins = record { on = λ v rest. refl; off = refl }

  others_follow : (values : List Value) (rest : Kinds) → Follows (flat_map other_value_tokens values ++ (close_paren ∷ rest))
  others_follow [] rest = paren_ends rest
  others_follow (v ∷ values) rest = comma_ends ((value_tokens v ++ flat_map other_value_tokens values) ++ (close_paren ∷ rest))

  comma_stops : (rest : Kinds) → begins comma (close_paren ∷ rest) ≡ false
  unfolding begins same_token
  comma_stops rest = refl

  others_again : (values : List Value) (rest : Kinds) → SoundValues n values → other_values_in deeper (flat_map other_value_tokens values ++ (close_paren ∷ rest)) ≡ Ok (values, close_paren ∷ rest)
  unfolding other_values_in
  others_again values rest i =
      all_again (begins comma) (other_value_in deeper) other_value_tokens (SoundValue n) (SoundValues n) Follows other_value_begins other_value_again (in_values n) (λ v t. comma_ends (value_tokens v ++ t))
      close_paren rest (comma_stops rest) (paren_ends rest) values i

  values_again : (values : List Value) (rest : Kinds) → SoundValues n values → values_in deeper (separated (map value_tokens values) ++ (close_paren ∷ rest)) ≡ Ok (values, close_paren ∷ rest)
  unfolding values_in
  values_again [] rest i = rw (begins_same close_paren rest refl) refl
  values_again (v ∷ values) rest i =
      let p = in_values n v values i in
      let more = flat_map other_value_tokens values ++ (close_paren ∷ rest) in
      let f = others_follow values rest in
      rw (append_assoc (value_tokens v) (flat_map (λ y. comma ∷ y) (map value_tokens values)) (close_paren ∷ rest), separated-map comma value_tokens values, value_no_paren v more p.0 f)
      (then_is _ _ (v, more) _ (value_again v more p.0 f) (then_is _ _ (values, close_paren ∷ rest) _ (others_again values rest p.1) refl))

  pub args_again : (values : List Value) (rest : Kinds) → SoundValues n values → args_in deeper (args_tokens values ++ rest) ≡ Ok (values, rest)
  unfolding args_in args_tokens
  args_again values rest i =
      rw (append_assoc (separated (map value_tokens values)) (close_paren ∷ []) rest)
      (then_is _ _ (separated (map value_tokens values) ++ (close_paren ∷ rest)) _ (after_again (open_paren ∷ []) (separated (map value_tokens values) ++ (close_paren ∷ rest)) refl)
      (then_is _ _ (values, close_paren ∷ rest) _ (values_again values rest i) (then_is _ _ rest _ (after_again (close_paren ∷ []) rest refl) refl)))

  -- ---- behind a name

  begins_args : (values : List Value) (rest : Kinds) → begins open_paren (args_tokens values ++ rest) ≡ true
  unfolding args_tokens begins same_token
  begins_args values rest = refl

  name_alone : (name : List ℕ) (rest : Kinds) → Ends 11 rest → named_in deeper name rest ≡ Ok (expr.Name name, rest)
  unfolding named_in
  name_alone name rest f = rw (f.no_paren, f.no_dot, f.no_bracket) refl

  own_again : (name : List ℕ) (args : List Value) (rest : Kinds) → SoundValues n args → named_in deeper name (args_tokens args ++ rest) ≡ Ok (expr.Call (call.Own name args), rest)
  unfolding named_in own_in
  own_again name args rest i = rw (begins_args args rest) (then_is _ _ (args, rest) _ (args_again args rest i) refl)

  after_dot : (name : List ℕ) (rest : Kinds) → named_in deeper name (dot ∷ rest) ≡ member_in deeper name rest
  unfolding named_in tail begins same_token
  after_dot name rest = refl

  after_bracket : (name : List ℕ) (rest : Kinds) → named_in deeper name (open_bracket ∷ rest) ≡ index_in deeper name rest
  unfolding named_in tail begins same_token
  after_bracket name rest = refl

  member_again : (object name : List ℕ) (rest : Kinds) → Ends 11 rest → named_in deeper object (dot ∷ k.Identifier name ∷ rest) ≡ Ok (expr.Member object name, rest)
  unfolding member_in
  member_again object name rest f = after_dot object (k.Identifier name ∷ rest) ∙ then_is _ _ (name, rest) _ (name_again name rest) (rw f.no_paren refl)

  of_again : (object name : List ℕ) (args : List Value) (rest : Kinds) → SoundValues n args → named_in deeper object (dot ∷ k.Identifier name ∷ (args_tokens args ++ rest)) ≡ Ok (expr.Call (call.Of object name args), rest)
  unfolding member_in of_in
  of_again object name args rest i =
      after_dot object (k.Identifier name ∷ (args_tokens args ++ rest))
      ∙ then_is _ _ (name, args_tokens args ++ rest) _ (name_again name (args_tokens args ++ rest)) (rw (begins_args args rest) (then_is _ _ (args, rest) _ (args_again args rest i) refl))

  index_again : (name : List ℕ) (at : Expr) (rest : Kinds) → Sound n 11 at → Ends 11 rest → named_in deeper name (open_bracket ∷ (expr_tokens at ++ (close_bracket ∷ rest))) ≡ Ok (expr.Index name at, rest)
  unfolding index_in
  index_again name at rest i f =
      after_bracket name (expr_tokens at ++ (close_bracket ∷ rest))
      ∙ then_is _ _ (at, close_bracket ∷ rest) _ (whole at (close_bracket ∷ rest) i (bracket_ends rest))
      (then_is _ _ rest _ (after_again (close_bracket ∷ []) rest refl) (rw f.no_dot refl))

  of_member_again : (object : List ℕ) (at : Expr) (name : List ℕ) (args : List Value) (rest : Kinds) → Sound n 11 at → SoundValues n args
      → named_in deeper object (open_bracket ∷ (expr_tokens at ++ (close_bracket ∷ dot ∷ k.Identifier name ∷ (args_tokens args ++ rest)))) ≡ Ok (expr.Call (call.OfMember object at name args), rest)
  unfolding index_in of_member_in
  of_member_again object at name args rest i j =
      let more = k.Identifier name ∷ (args_tokens args ++ rest) in
      after_bracket object (expr_tokens at ++ (close_bracket ∷ dot ∷ more))
      ∙ then_is _ _ (at, close_bracket ∷ dot ∷ more) _ (whole at (close_bracket ∷ dot ∷ more) i (bracket_ends (dot ∷ more)))
      (then_is _ _ (dot ∷ more) _ (after_again (close_bracket ∷ []) (dot ∷ more) refl)
      (rw (begins_same dot more refl) (then_is _ _ more _ (after_again (dot ∷ []) more refl)
      (then_is _ _ (name, args_tokens args ++ rest) _ (name_again name (args_tokens args ++ rest)) (then_is _ _ (args, rest) _ (args_again args rest j) refl)))))

  behind_name : (name : List ℕ) (rest : Kinds) (y : Reading Expr) → named_in deeper name rest ≡ y → called_in deeper (k.Identifier name ∷ rest) ≡ y
  unfolding called_in
  behind_name name rest y h = then_is _ _ (name, rest) _ (name_again name rest) h

  call_layer_again : (l : CallForm-F CallForm Expr Value) (rest : Kinds) → SoundCall (suc n) (roll-CallForm l) → called_in deeper (call_tokens (roll-CallForm l) ++ rest) ≡ Ok (expr.Call (roll-CallForm l), rest)
  call_layer_again (layer.Own name args) rest i =
      let P : CallForm → Type 0 = λ c. SoundCall (suc n) c → called_in deeper (call_tokens c ++ rest) ≡ Ok (expr.Call c, rest) in
      subst P (sym (call.rolls-Own name args)) (λ j. rw (own_tokens name args) (behind_name name (args_tokens args ++ rest) _ (own_again name args rest (in_own n name args j)))) i
  call_layer_again (layer.Of object name args) rest i =
      let P : CallForm → Type 0 = λ c. SoundCall (suc n) c → called_in deeper (call_tokens c ++ rest) ≡ Ok (expr.Call c, rest) in
      subst P (sym (call.rolls-Of object name args)) (λ j. rw (of_tokens object name args) (behind_name object (dot ∷ k.Identifier name ∷ (args_tokens args ++ rest)) _ (of_again object name args rest (in_of n object name args j)))) i
  call_layer_again (layer.OfMember object at name args) rest i =
      let P : CallForm → Type 0 = λ c. SoundCall (suc n) c → called_in deeper (call_tokens c ++ rest) ≡ Ok (expr.Call c, rest) in
      subst P (sym (call.rolls-OfMember object at name args))
      (λ j.
      let p = in_of_member n object at name args j in
      rw (of_member_tokens object at name args, append_assoc (expr_tokens at) (close_bracket ∷ dot ∷ k.Identifier name ∷ args_tokens args) rest)
      (behind_name object (open_bracket ∷ (expr_tokens at ++ (close_bracket ∷ dot ∷ k.Identifier name ∷ (args_tokens args ++ rest)))) _ (of_member_again object at name args rest p.0 p.1)))
      i

  pub called_again : (c : CallForm) (rest : Kinds) → SoundCall (suc n) c → called_in deeper (call_tokens c ++ rest) ≡ Ok (expr.Call c, rest)
  called_again c rest i =
      let P : CallForm → Type 0 = λ c. SoundCall (suc n) c → called_in deeper (call_tokens c ++ rest) ≡ Ok (expr.Call c, rest) in
      subst P (roll-out-CallForm c) (call_layer_again (out-CallForm c) rest) i

  -- ---- operands

  number_again : (digits : ℕ) (decimal long : Bool) (rest : Kinds) → operand_in deeper (expr_tokens (expr.Number digits decimal long) ++ rest) ≡ Ok (expr.Number digits decimal long, rest)
  unfolding operand_in opening_of tail
  number_again digits decimal long rest = rw (number_tokens digits decimal long) refl

  truth_again : (value : Bool) (rest : Kinds) → operand_in deeper (expr_tokens (expr.Bool value) ++ rest) ≡ Ok (expr.Bool value, rest)
  unfolding operand_in opening_of tail
  truth_again true rest = rw true_tokens refl
  truth_again false rest = rw false_tokens refl

  paren_again : (x : Expr) (rest : Kinds) → Sound n 11 x → operand_in deeper (expr_tokens (expr.Paren x) ++ rest) ≡ Ok (expr.Paren x, rest)
  unfolding operand_in opening_of tail paren_in inner_in
  paren_again x rest i =
      let more = expr_tokens x ++ (close_paren ∷ rest) in
      rw (paren_tokens x, append_assoc (expr_tokens x) (close_paren ∷ []) rest, no_type more (opened x (close_paren ∷ rest) i (paren_ends rest)))
      (then_is _ _ (x, close_paren ∷ rest) _ (whole x (close_paren ∷ rest) i (paren_ends rest)) (then_is _ _ rest _ (after_again (close_paren ∷ []) rest refl) refl))

  cast_again : (to : Num) (x : Expr) (rest : Kinds) → Sound n 0 x → follows 11 rest ≡ true → operand_in deeper (expr_tokens (expr.Cast to x) ++ rest) ≡ Ok (expr.Cast to x, rest)
  unfolding operand_in opening_of tail paren_in number_type_ahead cast_in
  cast_again num.Int x rest i f =
      rw (cast_tokens num.Int x) (then_is _ _ (expr_tokens x ++ rest) _ (after_again (close_paren ∷ []) (expr_tokens x ++ rest) refl) (then_is _ _ (x, rest) _ (d.again 0 x rest (omega arith) i f) refl))
  cast_again num.Long x rest i f =
      rw (cast_tokens num.Long x) (then_is _ _ (expr_tokens x ++ rest) _ (after_again (close_paren ∷ []) (expr_tokens x ++ rest) refl) (then_is _ _ (x, rest) _ (d.again 0 x rest (omega arith) i f) refl))

  maker_again : (name : List ℕ) (x : Expr) (rest : Kinds) → Sound n 11 x → operand_in deeper (expr_tokens (expr.New name x) ++ rest) ≡ Ok (expr.New name x, rest)
  unfolding operand_in opening_of tail new_in
  maker_again name x rest i =
      let more = expr_tokens x ++ (close_paren ∷ rest) in
      rw (maker_tokens name x, append_assoc (expr_tokens x) (close_paren ∷ []) rest)
      (then_is _ _ (name, open_paren ∷ more) _ (name_again name (open_paren ∷ more))
      (then_is _ _ more _ (after_again (open_paren ∷ []) more refl)
      (then_is _ _ (x, close_paren ∷ rest) _ (whole x (close_paren ∷ rest) i (paren_ends rest)) (then_is _ _ rest _ (after_again (close_paren ∷ []) rest refl) refl))))

  prefixed_again : (op : UnOp) (x : Expr) (rest : Kinds) → Sound n 0 x → follows 11 rest ≡ true → prefixed_in deeper op (expr_tokens x ++ rest) ≡ Ok (expr.Unary op x, rest)
  unfolding prefixed_in
  prefixed_again op x rest i f = then_is _ _ (x, rest) _ (d.again 0 x rest (omega arith) i f) refl

  unary_again : (op : UnOp) (x : Expr) (rest : Kinds) → Sound n 0 x → follows 11 rest ≡ true → operand_in deeper (expr_tokens (expr.Unary op x) ++ rest) ≡ Ok (expr.Unary op x, rest)
  unfolding operand_in opening_of tail
  unary_again un.Plus x rest i f = rw (unary_tokens un.Plus x) (prefixed_again un.Plus x rest i f)
  unary_again un.Minus x rest i f = rw (unary_tokens un.Minus x) (prefixed_again un.Minus x rest i f)
  unary_again un.Complement x rest i f = rw (unary_tokens un.Complement x) (prefixed_again un.Complement x rest i f)
  unary_again un.Not x rest i f = rw (unary_tokens un.Not x) (prefixed_again un.Not x rest i f)

  named_operand : (name : List ℕ) (rest : Kinds) → operand_in deeper (k.Identifier name ∷ rest) ≡ called_in deeper (k.Identifier name ∷ rest)
  unfolding operand_in opening_of
  named_operand name rest = refl

  -- a call begins with a name
  call_layer_operand : (l : CallForm-F CallForm Expr Value) (rest : Kinds) → operand_in deeper (call_tokens (roll-CallForm l) ++ rest) ≡ called_in deeper (call_tokens (roll-CallForm l) ++ rest)
  call_layer_operand (layer.Own name args) rest =
      let P : CallForm → Type 0 = λ c. operand_in deeper (call_tokens c ++ rest) ≡ called_in deeper (call_tokens c ++ rest) in
      subst P (sym (call.rolls-Own name args)) (rw (own_tokens name args) (named_operand name (args_tokens args ++ rest)))
  call_layer_operand (layer.Of object name args) rest =
      let P : CallForm → Type 0 = λ c. operand_in deeper (call_tokens c ++ rest) ≡ called_in deeper (call_tokens c ++ rest) in
      subst P (sym (call.rolls-Of object name args)) (rw (of_tokens object name args) (named_operand object (dot ∷ k.Identifier name ∷ (args_tokens args ++ rest))))
  call_layer_operand (layer.OfMember object at name args) rest =
      let P : CallForm → Type 0 = λ c. operand_in deeper (call_tokens c ++ rest) ≡ called_in deeper (call_tokens c ++ rest) in
      subst P (sym (call.rolls-OfMember object at name args))
      (rw (of_member_tokens object at name args) (named_operand object (open_bracket ∷ ((expr_tokens at ++ (close_bracket ∷ dot ∷ k.Identifier name ∷ args_tokens args)) ++ rest))))

  call_operand : (c : CallForm) (rest : Kinds) → SoundCall (suc n) c → operand_in deeper (expr_tokens (expr.Call c) ++ rest) ≡ Ok (expr.Call c, rest)
  call_operand c rest i =
      let P : CallForm → Type 0 = λ c. operand_in deeper (call_tokens c ++ rest) ≡ called_in deeper (call_tokens c ++ rest) in
      rw (called_tokens c) (subst P (roll-out-CallForm c) (call_layer_operand (out-CallForm c) rest) ∙ called_again c rest i)

  -- what holds tighter than every binary operator is read as an operand
  abbrev AsOperand : Kinds → Expr → Type 0
  AsOperand rest y = Sound (suc n) 0 y → operand_in deeper (expr_tokens y ++ rest) ≡ Ok (y, rest)

  operand_layer_again : (l : Expr-F CallForm Expr Value) (rest : Kinds) → follows 11 rest ≡ true → AsOperand rest (roll-Expr l)
  operand_layer_again (layer.Conditional test first second) rest f = subst (AsOperand rest) (sym (expr.rolls-Conditional test first second)) (λ i. absurd (no_conditional test first second (let t = i.tight in omega arith)))
  operand_layer_again (layer.Binary op left right) rest f = subst (AsOperand rest) (sym (expr.rolls-Binary op left right)) (λ i. absurd (no_binary op left right (let t = i.tight in omega arith)))
  operand_layer_again (layer.Unary op x) rest f = subst (AsOperand rest) (sym (expr.rolls-Unary op x)) (λ i. unary_again op x rest (in_unary n 0 op x i) f)
  operand_layer_again (layer.Cast to x) rest f = subst (AsOperand rest) (sym (expr.rolls-Cast to x)) (λ i. cast_again to x rest (in_cast n 0 to x i) f)
  operand_layer_again (layer.Number digits decimal long) rest f = subst (AsOperand rest) (sym (expr.rolls-Number digits decimal long)) (λ i. number_again digits decimal long rest)
  operand_layer_again (layer.Bool value) rest f = subst (AsOperand rest) (sym (expr.rolls-Bool value)) (λ i. truth_again value rest)
  operand_layer_again (layer.Paren x) rest f = subst (AsOperand rest) (sym (expr.rolls-Paren x)) (λ i. paren_again x rest (in_paren n 0 x i))
  operand_layer_again (layer.New name x) rest f = subst (AsOperand rest) (sym (expr.rolls-New name x)) (λ i. maker_again name x rest (in_maker n 0 name x i))
  operand_layer_again (layer.Name name) rest f =
      subst (AsOperand rest) (sym (expr.rolls-Name name)) (λ i. rw (name_tokens name) (named_operand name rest ∙ behind_name name rest _ (name_alone name rest (ends 11 rest f))))
  operand_layer_again (layer.Index name at) rest f =
      subst (AsOperand rest) (sym (expr.rolls-Index name at))
      (λ i.
      rw (index_tokens name at, append_assoc (expr_tokens at) (close_bracket ∷ []) rest)
      (named_operand name (open_bracket ∷ (expr_tokens at ++ (close_bracket ∷ rest))) ∙ behind_name name _ _ (index_again name at rest (in_index n 0 name at i) (ends 11 rest f))))
  operand_layer_again (layer.Member object name) rest f =
      subst (AsOperand rest) (sym (expr.rolls-Member object name))
      (λ i. rw (member_tokens object name) (named_operand object (dot ∷ k.Identifier name ∷ rest) ∙ behind_name object (dot ∷ k.Identifier name ∷ rest) _ (member_again object name rest (ends 11 rest f))))
  operand_layer_again (layer.Call c) rest f = subst (AsOperand rest) (sym (expr.rolls-Call c)) (λ i. call_operand c rest (in_called n 0 c i))

  pub operand_again : (x : Expr) (rest : Kinds) → Sound (suc n) 0 x → follows 11 rest ≡ true → operand_in deeper (expr_tokens x ++ rest) ≡ Ok (x, rest)
  operand_again x rest i f = subst (AsOperand rest) (roll-out-Expr x) (operand_layer_again (out-Expr x) rest f) i

  -- ---- rows and conditionals

  row_ends : (looseness turns : ℕ) (x : Expr) (rest : Kinds) → 0 < turns → follows (10 - looseness) rest ≡ true → row_from deeper n looseness turns x rest ≡ Ok (x, rest)
  unfolding row_from operator_at
  row_ends looseness zero x rest some f = absurd (omega arith)
  row_ends looseness (suc turns) x rest some f = rw (no_operator_at (10 - looseness) (operator_ahead rest) (ends (10 - looseness) rest f).no_operator) refl

  -- one turn, where the operand behind the operator is read
  row_turn : (looseness turns : ℕ) (left : Expr) (op : BinOp) (right : Expr) (behind : Kinds) → operator_level op ≡ 10 - looseness → expr_height left ≤ n → deeper looseness (expr_tokens right ++ behind) ≡ Ok (right, behind)
      → row_from deeper n looseness (suc turns) left (k.Symbol (operator_symbol op) ∷ (expr_tokens right ++ behind)) ≡ row_from deeper n looseness turns (expr.Binary op left right) behind
  unfolding row_from tail
  row_turn looseness turns left op right behind level low here =
      let P : ℕ → Type 0 = λ l. operator_at l (k.Symbol (operator_symbol op) ∷ (expr_tokens right ++ behind)) ≡ Some op in
      rw (subst P level (operator_found op (expr_tokens right ++ behind)), not_above n (expr_height left) low) (then_is _ _ (right, behind) _ here refl)

  no_conditional_in : (x : Expr) (rest : Kinds) → begins question rest ≡ false → conditional_in deeper n x rest ≡ Ok (x, rest)
  unfolding conditional_in
  no_conditional_in x rest h = rw h refl

  row_nothing : (looseness : ℕ) (x : Expr) (rest : Kinds) → follows (10 - looseness) rest ≡ true → row_in deeper n looseness x rest ≡ Ok (x, rest)
  unfolding row_in
  row_nothing looseness x rest f = row_ends looseness (length rest) x rest (not_empty (10 - looseness) rest f) f

  looser_nothing : (looseness : ℕ) (x : Expr) (rest : Kinds) → looseness ≤ 10 → follows (10 - looseness) rest ≡ true → looser_in deeper n looseness x rest ≡ Ok (x, rest)
  unfolding looser_in
  looser_nothing looseness x rest le f =
      elim (same_or_not (nat_eq looseness 10)) [
        | inl here ↦
            let ten : looseness ≡ 10 = (Decides-eqb looseness 10).0 here in
            let q = (ends (10 - looseness) rest f).no_question in
            rw here (no_conditional_in x rest (no_question_at (10 - looseness) (begins question rest) (omega arith) q))
        | inr other ↦ rw other (row_nothing looseness x rest f)
      ]

  read_step : (looseness : ℕ) (ks : Kinds) → read_in deeper n (suc looseness) ks ≡ (read_in deeper n looseness ks >>= λ y. looser_in deeper n looseness y.0 y.1)
  unfolding read_in extended_in
  read_step looseness ks = regroup (operand_in deeper ks) (λ x. extended_in deeper n looseness x.0 x.1) (λ y. looser_in deeper n looseness y.0 y.1)

  -- what is read so at a looseness
  abbrev IsRead : ℕ → Type 0
  IsRead looseness = (x : Expr) (rest : Kinds) → Sound (suc n) looseness x → follows (11 - looseness) rest ≡ true → read_in deeper n looseness (expr_tokens x ++ rest) ≡ Ok (x, rest)

  read_operand : IsRead 0
  unfolding read_in extended_in
  read_operand x rest i f = then_is _ _ (x, rest) _ (operand_again x rest i f) refl

  conditional_read : IsRead 10 → (test first second : Expr) (rest : Kinds) → Sound (suc n) 11 (expr.Conditional test first second) → follows 0 rest ≡ true
      → read_in deeper n 11 (expr_tokens (expr.Conditional test first second) ++ rest) ≡ Ok (expr.Conditional test first second, rest)
  unfolding looser_in conditional_in
  conditional_read before test first second rest i f =
      let p = in_conditional n 11 test first second i in
      let third = colon ∷ (expr_tokens second ++ rest) in
      let behind = question ∷ (expr_tokens first ++ third) in
      rw (conditional_tokens test first second, append_assoc (expr_tokens test) (question ∷ (expr_tokens first ++ (colon ∷ expr_tokens second))) rest, append_assoc (expr_tokens first) (colon ∷ expr_tokens second) rest)
      (read_step 10 (expr_tokens test ++ behind)
      ∙ then_is _ _ (test, behind) _ (before test behind p.0 (question_ends (expr_tokens first ++ third)))
      (rw (begins_same question (expr_tokens first ++ third) refl, not_above n (expr_height test) p.1)
      (then_is _ _ (expr_tokens first ++ third) _ (after_again (question ∷ []) (expr_tokens first ++ third) refl)
      (then_is _ _ (first, third) _ (whole first third p.2 (colon_ends (expr_tokens second ++ rest)))
      (then_is _ _ (expr_tokens second ++ rest) _ (after_again (colon ∷ []) (expr_tokens second ++ rest) refl)
      (then_is _ _ (second, rest) _ (whole second rest p.3 f) refl))))))

  -- Reading an expression that holds at a level at least, with what stands behind it, goes on from it with the operators of the level.
  record RowGoesOn (looseness : ℕ) (x : Expr) (rest : Kinds) : Type 0 where
    turns : ℕ
    enough : length rest ≤ turns
    same : read_in deeper n (suc looseness) (expr_tokens x ++ rest) ≡ row_from deeper n looseness turns x rest

  looser_is_row : (looseness : ℕ) (x : Expr) (rest : Kinds) → looseness < 10 → looser_in deeper n looseness x rest ≡ row_from deeper n looseness (length rest) x rest
  unfolding looser_in row_in
  looser_is_row looseness x rest lt = rw (differs looseness lt) refl

  row_begins : (looseness : ℕ) → looseness < 10 → IsRead looseness → (x : Expr) (rest : Kinds) → Sound (suc n) looseness x → follows (11 - looseness) rest ≡ true → RowGoesOn looseness x rest
  row_begins looseness lt before x rest i f = record {
    turns = length rest;
    enough = omega arith;
    same = read_step looseness (expr_tokens x ++ rest) ∙ then_is _ _ (x, rest) _ (before x rest i f) (looser_is_row looseness x rest lt);
  }

  -- one operator more
  row_adds : (looseness turns : ℕ) (op : BinOp) (left right : Expr) (rest : Kinds) → looseness < 10 → operator_level op ≡ 10 - looseness → expr_height left ≤ n → Sound n looseness right → follows (11 - looseness) rest ≡ true
      → suc (length (expr_tokens right ++ rest)) ≤ turns
      → read_in deeper n (suc looseness) (expr_tokens left ++ (k.Symbol (operator_symbol op) ∷ (expr_tokens right ++ rest))) ≡ row_from deeper n looseness turns left (k.Symbol (operator_symbol op) ∷ (expr_tokens right ++ rest))
      → RowGoesOn looseness (expr.Binary op left right) rest
  row_adds looseness zero op left right rest lt level low i f enough so_far = absurd (omega arith)
  row_adds looseness (suc turns) op left right rest lt level low i f enough so_far = record {
    turns = turns;
    enough = omega (arith, enough, length-append (expr_tokens right) rest);
    same =
        rw (binary_tokens op left right, append_assoc (expr_tokens left) (k.Symbol (operator_symbol op) ∷ expr_tokens right) rest)
        (so_far ∙ row_turn looseness turns left op right rest level low (d.again looseness right rest (omega arith) i f));
  }

  module _ (looseness : ℕ) (before : IsRead looseness) where
    abbrev GoesOn : ℕ → Type 0
    GoesOn bound = (x : Expr) (rest : Kinds) → expr_height x ≤ bound → Sound (suc n) (suc looseness) x → follows (11 - looseness) rest ≡ true → looseness < 10 → RowGoesOn looseness x rest

    row_of_operands : (op : BinOp) (left right : Expr) (rest : Kinds) → Sound (suc n) (suc looseness) (expr.Binary op left right) → looseness + (standing_of (expr.Binary op left right)).tightness ≡ 10
        → follows (11 - looseness) rest ≡ true → looseness < 10 → ((later : Kinds) → Sound (suc n) (suc looseness) left → follows (11 - looseness) later ≡ true → RowGoesOn looseness left later)
        → RowGoesOn looseness (expr.Binary op left right) rest
    row_of_operands op left right rest i tight f lt later =
        let s = ap (λ x. x.tightness) (binary_standing op left right) in
        let p = in_binary n (suc looseness) op left right i in
        let level : operator_level op ≡ 10 - looseness = omega (arith, s, tight) in
        let behind = expr_tokens right ++ rest in
        let next : suc (operator_level op) ≡ 11 - looseness = omega (arith, level) in
        let F : ℕ → Type 0 = λ l. follows l (k.Symbol (operator_symbol op) ∷ behind) ≡ true in
        let first : Sound (suc n) (suc looseness) left = record { placed = p.0; tight = omega (arith, p.1, level); height = omega (arith, p.2) } in
        let second : Sound n looseness right = record { placed = p.3; tight = omega (arith, p.4, level); height = p.5 } in
        let so_far = later (k.Symbol (operator_symbol op) ∷ behind) first (subst F next (operator_follows op behind)) in
        row_adds looseness so_far.turns op left right rest lt level p.2 second f so_far.enough so_far.same

    row_by : (bound : ℕ) (x : Expr) (rest : Kinds) → Top x → ((y : Expr) (later : Kinds) → expr_height y < bound → Sound (suc n) (suc looseness) y → follows (11 - looseness) later ≡ true → RowGoesOn looseness y later)
        → expr_height x ≤ bound → Sound (suc n) (suc looseness) x → looseness + (standing_of x).tightness ≡ 10 → follows (11 - looseness) rest ≡ true → looseness < 10 → RowGoesOn looseness x rest
    row_by bound x rest (Tests test first second e) later low i tight f lt =
        absurd (let s = ap (λ y. (standing_of y).tightness) e ∙ ap (λ x. x.tightness) (conditional_standing test first second) in omega arith)
    row_by bound x rest (Operates op left right e) later low i tight f lt =
        let S : Expr → Type 0 = λ y. Sound (suc n) (suc looseness) y in
        let T : Expr → Type 0 = λ y. looseness + (standing_of y).tightness ≡ 10 in
        let R : Expr → Type 0 = λ y. RowGoesOn looseness y rest in
        let high = ap expr_height e ∙ binary_height op left right in
        subst R (sym e) (row_of_operands op left right rest (subst S e i) (subst T e tight) f lt (λ more j g. later left more (omega (arith, high, low)) j g))
    row_by bound x rest (Holds h) later low i tight f lt = absurd (omega arith)

    row_again : (bound : ℕ) → GoesOn bound
    row_again zero x rest low i f lt =
        elim (split_tight looseness (standing_of x).tightness i.tight) [
          | inl t ↦ row_begins looseness lt before x rest (record { placed = i.placed; tight = t; height = i.height }) f
          | inr t ↦ row_by zero x rest (top_of x) (λ y later less j g. absurd (omega arith)) low i t f lt
        ]
    row_again (suc bound) x rest low i f lt =
        elim (split_tight looseness (standing_of x).tightness i.tight) [
          | inl t ↦ row_begins looseness lt before x rest (record { placed = i.placed; tight = t; height = i.height }) f
          | inr t ↦ row_by (suc bound) x rest (top_of x) (λ y later less j g. row_again bound y later (omega arith) j g lt) low i t f lt
        ]

    -- an expression that holds exactly at the next level
    at_level : (x : Expr) (rest : Kinds) → Top x → looseness ≤ 10 → Sound (suc n) (suc looseness) x → looseness + (standing_of x).tightness ≡ 10 → follows (10 - looseness) rest ≡ true
        → read_in deeper n (suc looseness) (expr_tokens x ++ rest) ≡ Ok (x, rest)
    at_level x rest (Tests test first second e) le i tight f =
        let s = ap (λ y. (standing_of y).tightness) e ∙ ap (λ x. x.tightness) (conditional_standing test first second) in
        let ten : looseness ≡ 10 = omega arith in
        let zeroth : 10 - looseness ≡ 0 = omega arith in
        let F : ℕ → Type 0 = λ l. follows l rest ≡ true in
        let R : ℕ → Type 0 = λ l. IsRead l in
        let S : ℕ → Type 0 = λ l. Sound (suc n) (suc l) x in
        let T : Expr → Type 0 = λ y. Sound (suc n) 11 y in
        let G : ℕ → Type 0 = λ l. read_in deeper n (suc l) (expr_tokens x ++ rest) ≡ Ok (x, rest) in
        let H : Expr → Type 0 = λ y. read_in deeper n 11 (expr_tokens y ++ rest) ≡ Ok (y, rest) in
        subst G (sym ten) (subst H (sym e) (conditional_read (subst R ten before) test first second rest (subst T e (subst S ten i)) (subst F zeroth f)))
    at_level x rest (Operates op left right e) le i tight f =
        let s = ap (λ y. (standing_of y).tightness) e ∙ ap (λ x. x.tightness) (binary_standing op left right) in
        let w = level_within op in
        let row = row_again (expr_height x) x rest (omega arith) i (tighter (10 - looseness) (11 - looseness) rest (omega arith) f) (omega (arith, w.0, s)) in
        let some = not_empty (10 - looseness) rest f in
        row.same ∙ row_ends looseness row.turns x rest (omega (arith, row.enough, some)) f
    at_level x rest (Holds h) le i tight f = absurd (omega arith)

  read_in_again : (looseness : ℕ) → looseness ≤ 11 → IsRead looseness
  read_in_again zero le x rest i f = read_operand x rest i f
  read_in_again (suc looseness) le x rest i f =
      let before = read_in_again looseness (omega arith) in
      let Q : ℕ → Type 0 = λ l. follows l rest ≡ true in
      let same : 11 - suc looseness ≡ 10 - looseness = omega arith in
      let g : follows (10 - looseness) rest ≡ true = subst Q same f in
      elim (split_tight looseness (standing_of x).tightness i.tight) [
        | inl t ↦
            read_step looseness (expr_tokens x ++ rest)
            ∙ then_is _ _ (x, rest) _ (before x rest (record { placed = i.placed; tight = t; height = i.height }) (tighter (10 - looseness) (11 - looseness) rest (omega arith) g))
            (looser_nothing looseness x rest (omega arith) g)
        | inr t ↦ at_level looseness before x rest (top_of x) (omega arith) i t g
      ]

-- ---- on any number of levels

opening_by : (deeper : ℕ → Kinds → Reading Expr) (o : Opening) (ks : Kinds) (x : Expr × Kinds) → operand_by deeper o ks ≡ Ok x → not (is_other o) ≡ true
opening_by deeper opening.Name ks x e = refl
opening_by deeper (opening.Number digits decimal long) ks x e = refl
opening_by deeper (opening.Truth value) ks x e = refl
opening_by deeper opening.New ks x e = refl
opening_by deeper opening.Paren ks x e = refl
opening_by deeper (opening.Unary op) ks x e = refl
opening_by deeper opening.Other ks x e = absurd cc

pub read_opens : (n looseness : ℕ) (ks : Kinds) (x : Expr × Kinds) → read_at n looseness ks ≡ Ok x → begins_expr ks ≡ true
unfolding read_at read_in operand_in begins_expr
read_opens zero looseness ks x e = absurd (no_levels (begins_expr ks) ks x e)
read_opens (suc n) looseness ks x e =
    let a = bind_ok (operand_in (read_at n) ks) _ x e in
    opening_by (read_at n) (opening_of ks) ks a.0 a.1

-- every expression that is well placed has a level
abbrev HasLevel : Expr → Type 0
HasLevel y = (standing_of y).is_placed ≡ true → 0 < expr_height y

call_layer_level : (l : CallForm-F CallForm Expr Value) → 0 < call_height (roll-CallForm l)
call_layer_level (layer.Own name args) = let P : CallForm → Type 0 = λ c. 0 < call_height c in subst P (sym (call.rolls-Own name args)) (let h = own_height name args in omega arith)
call_layer_level (layer.Of object name args) = let P : CallForm → Type 0 = λ c. 0 < call_height c in subst P (sym (call.rolls-Of object name args)) (let h = of_height object name args in omega arith)
call_layer_level (layer.OfMember object at name args) = let P : CallForm → Type 0 = λ c. 0 < call_height c in subst P (sym (call.rolls-OfMember object at name args)) (let h = of_member_height object at name args in omega arith)

call_level : (c : CallForm) → 0 < call_height c
call_level c = let P : CallForm → Type 0 = λ c. 0 < call_height c in subst P (roll-out-CallForm c) (call_layer_level (out-CallForm c))

layer_level : (l : Expr-F CallForm Expr Value) → HasLevel (roll-Expr l)
layer_level (layer.Conditional test first second) = subst HasLevel (sym (expr.rolls-Conditional test first second)) (λ p. let h = conditional_height test first second in omega arith)
layer_level (layer.Binary op left right) = subst HasLevel (sym (expr.rolls-Binary op left right)) (λ p. let h = binary_height op left right in omega arith)
layer_level (layer.Unary op x) = subst HasLevel (sym (expr.rolls-Unary op x)) (λ p. let h = unary_height op x in omega arith)
layer_level (layer.Cast to x) = subst HasLevel (sym (expr.rolls-Cast to x)) (λ p. let h = cast_height to x in omega arith)
layer_level (layer.Number digits decimal long) = subst HasLevel (sym (expr.rolls-Number digits decimal long)) (λ p. let h = number_height digits decimal long in omega arith)
layer_level (layer.Bool value) = subst HasLevel (sym (expr.rolls-Bool value)) (λ p. let h = truth_height value in omega arith)
layer_level (layer.Paren x) = subst HasLevel (sym (expr.rolls-Paren x)) (λ p. let h = paren_height x in omega arith)
layer_level (layer.New name x) = subst HasLevel (sym (expr.rolls-New name x)) (λ p. let h = maker_height name x in omega arith)
layer_level (layer.Name name) = subst HasLevel (sym (expr.rolls-Name name)) (λ p. let h = name_height name in omega arith)
layer_level (layer.Index name x) = subst HasLevel (sym (expr.rolls-Index name x)) (λ p. let h = index_height name x in omega arith)
layer_level (layer.Member object name) = subst HasLevel (sym (expr.rolls-Member object name)) (λ p. let h = member_height object name in omega arith)
layer_level (layer.Call c) = subst HasLevel (sym (expr.rolls-Call c)) (λ p. let h = called_height c in let g = call_level c in omega arith)

no_height : (x : Expr) → (standing_of x).is_placed ≡ true → expr_height x ≤ 0 → ⊥
no_height x placed le = let h : 0 < expr_height x = subst HasLevel (roll-out-Expr x) (layer_level (out-Expr x)) placed in omega arith

pub read_again : (n looseness : ℕ) (x : Expr) (rest : Kinds) → looseness ≤ 11 → Sound n looseness x → follows (11 - looseness) rest ≡ true → read_at n looseness (expr_tokens x ++ rest) ≡ Ok (x, rest)
unfolding read_at
read_again zero looseness x rest le i f = absurd (no_height x i.placed i.height)
read_again (suc n) looseness x rest le i f =
    read_in_again n (read_at n) (record { again = read_again n; opens = read_opens n }) looseness le x rest i f
