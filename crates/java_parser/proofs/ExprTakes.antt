-- Reading an expression takes its tokens, and gives one that is well placed and on no more than the levels.
use Rattle.std.proofs.Common.{◌≡◌, ℕ, zero, suc, ◌-◌, ◌≤◌, Bool, true, false, nat_eq, nat_lt, List, [], ◌∷◌, ◌++◌, length, map, codes, Option, Some, None, Ok, inl, inr, if◌then◌else◌, refl, sym, ap, subst, ◌∙◌, append_assoc, arith}
use Rattle.std.proofs.lemmas.Bool.Decides.{Decides-eqb, nat_tests}
use Rattle.std.specs.List.{flat_map}
use Rattle.sdg_base.specs.declared.operator.BinOp.{BinOp}
use Rattle.sdg_base.specs.declared.operator.BinOp.TheVariants as bin
use Rattle.sdg_base.specs.declared.operator.UnOp.{UnOp}
use Rattle.sdg_base.specs.declared.val.Num.{Num}
use Rattle.sdg_base.specs.declared.val.Num.TheVariants as num
use Rattle.java_tree.specs.declared.token.Kind.{Kind}
use Rattle.java_tree.specs.declared.token.Kind.TheVariants as k
use Rattle.java_tree.specs.declared.token.Reserved.{Reserved}
use Rattle.java_tree.specs.declared.token.Reserved.TheVariants as word
use Rattle.java_tree.specs.declared.token.Symbol.{Symbol}
use Rattle.java_tree.specs.declared.token.Symbol.TheVariants as symbol
use Rattle.java_tree.specs.declared.tree.Expr.{Expr}
use Rattle.java_tree.specs.declared.tree.Expr.TheVariants as expr
use Rattle.java_tree.specs.declared.tree.Value.{Value}
use Rattle.java_tree.specs.declared.tree.CallForm.TheVariants as call
use Rattle.java_tree.specs.Levels.{operator_level}
use Rattle.java_tree.specs.Tokens.{Kinds, global, separated, operator_symbol, unary_symbol, number_type, expr_tokens, value_tokens}
use Rattle.java_tree.specs.Heights.{expr_height}
use Rattle.java_parser.specs.declared.operands.Opening.{Opening}
use Rattle.java_parser.specs.declared.operands.Opening.TheVariants as opening
use Rattle.java_parser.specs.Words.{◌>>=◌, Reading, refused, too_deep, begins, after, name_at}
use Rattle.java_parser.specs.Members.{dot, at_sign, comma, open_paren, close_paren, open_bracket, close_bracket, optional_at}
use Rattle.java_parser.specs.Expressions.{question, colon, binary_of, operator_ahead, of_level, operator_at, number_type_of, number_type_ahead, opening_reserved, opening_symbol, opening_of, begins_expr, tail, when_some, valued, all_rows, value_in, other_value_in, other_values_in, values_in, args_in, of_in, own_in, member_in, of_member_in, index_in, named_in, called_in, cast_in, inner_in, paren_in, new_in, prefixed_in, operand_by, operand_in, row_from, row_in, conditional_in, looser_in, extended_in, read_in, read_at, expr_at, value_at, args_at}
use Rattle.java_parser.proofs.Laws.{bind_ok, same_Ok, chosen, Takes, Keeps, word_is, after_takes, name_takes, many_takes, many_keeps, separated-map}
use Rattle.java_parser.proofs.Around.{optional, optional_takes}
use Rattle.java_parser.proofs.TreeTokens.{args_tokens, conditional_tokens, binary_tokens, unary_tokens, cast_tokens, number_tokens, true_tokens, false_tokens, paren_tokens, maker_tokens, name_tokens, index_tokens, member_tokens, called_tokens, own_tokens, of_tokens, of_member_tokens, valued_tokens}
use Rattle.java_parser.proofs.Sound.{Sound, SoundValue, SoundValues, looser, sound_number, sound_truth, sound_name, sound_member, sound_paren, sound_maker, sound_index, sound_unary, sound_cast, sound_called, sound_own, sound_of, sound_of_member, sound_conditional, sound_valued, sound_none, sound_more, sound_binary}

-- ---- what the first tokens say

binary_is : (s : Symbol) (op : BinOp) → binary_of s ≡ Some op → s ≡ operator_symbol op
binary_is symbol.Star op h = let same : bin.Mul ≡ op = cc in rw (← same) refl
binary_is symbol.Slash op h = let same : bin.Div ≡ op = cc in rw (← same) refl
binary_is symbol.Percent op h = let same : bin.Rem ≡ op = cc in rw (← same) refl
binary_is symbol.Plus op h = let same : bin.Add ≡ op = cc in rw (← same) refl
binary_is symbol.Minus op h = let same : bin.Sub ≡ op = cc in rw (← same) refl
binary_is symbol.ShiftLeft op h = let same : bin.Shl ≡ op = cc in rw (← same) refl
binary_is symbol.ShiftRight op h = let same : bin.Shr ≡ op = cc in rw (← same) refl
binary_is symbol.ShiftRightUnsigned op h = let same : bin.UShr ≡ op = cc in rw (← same) refl
binary_is symbol.Less op h = let same : bin.Lt ≡ op = cc in rw (← same) refl
binary_is symbol.LessEqual op h = let same : bin.Le ≡ op = cc in rw (← same) refl
binary_is symbol.Greater op h = let same : bin.Gt ≡ op = cc in rw (← same) refl
binary_is symbol.GreaterEqual op h = let same : bin.Ge ≡ op = cc in rw (← same) refl
binary_is symbol.EqualEqual op h = let same : bin.Eq ≡ op = cc in rw (← same) refl
binary_is symbol.NotEqual op h = let same : bin.Ne ≡ op = cc in rw (← same) refl
binary_is symbol.Ampersand op h = let same : bin.And ≡ op = cc in rw (← same) refl
binary_is symbol.Caret op h = let same : bin.Xor ≡ op = cc in rw (← same) refl
binary_is symbol.Bar op h = let same : bin.Or ≡ op = cc in rw (← same) refl
binary_is symbol.AndAnd op h = let same : bin.AndAlso ≡ op = cc in rw (← same) refl
binary_is symbol.BarBar op h = let same : bin.OrElse ≡ op = cc in rw (← same) refl
binary_is _ op h = absurd cc

of_level_is : (level : ℕ) (found : Option BinOp) (op : BinOp) → of_level level found ≡ Some op → (found ≡ Some op) × (operator_level op ≡ level)
of_level_is level None op h = absurd cc
of_level_is level (Some x) op h =
    elim (chosen (nat_eq (operator_level x) level) (Some x) None (Some op) h) [
      | inl g ↦ let same : x ≡ op = cc in (g.1, ap operator_level (sym same) ∙ (Decides-eqb (operator_level x) level).0 g.0)
      | inr g ↦ absurd cc
    ]

ahead_is : (ks : Kinds) (op : BinOp) → operator_ahead ks ≡ Some op → ks ≡ k.Symbol (operator_symbol op) ∷ tail ks
unfolding operator_ahead tail
ahead_is [] op h = absurd cc
ahead_is (k.Symbol s ∷ rest) op h = ap (λ (x : Symbol). k.Symbol x ∷ rest) (binary_is s op h)
ahead_is (k.Identifier name ∷ rest) op h = absurd cc
ahead_is (k.Number digits decimal long ∷ rest) op h = absurd cc
ahead_is (k.Reserved w ∷ rest) op h = absurd cc

pub operator_is : (level : ℕ) (ks : Kinds) (op : BinOp) → operator_at level ks ≡ Some op → (ks ≡ k.Symbol (operator_symbol op) ∷ tail ks) × (operator_level op ≡ level)
unfolding operator_at
operator_is level ks op h = let p = of_level_is level (operator_ahead ks) op h in (ahead_is ks op p.0, p.1)

type_word_is : (w : Reserved) (to : Num) → number_type_of w ≡ Some to → k.Reserved w ∷ [] ≡ number_type to
type_word_is word.Int to h = let same : num.Int ≡ to = cc in rw (← same) refl
type_word_is word.Long to h = let same : num.Long ≡ to = cc in rw (← same) refl
type_word_is _ to h = absurd cc

type_is : (ks : Kinds) (to : Num) → number_type_ahead ks ≡ Some to → ks ≡ number_type to ++ tail ks
unfolding number_type_ahead tail
type_is [] to h = absurd cc
type_is (k.Reserved w ∷ rest) to h = ap (λ (t : Kinds). t ++ rest) (type_word_is w to h)
type_is (k.Identifier name ∷ rest) to h = absurd cc
type_is (k.Number digits decimal long ∷ rest) to h = absurd cc
type_is (k.Symbol s ∷ rest) to h = absurd cc

-- the token that each opening has, behind which the rest stands
abbrev opened : Opening → Kinds → Kinds → Type 0
opened opening.Name ks rest = Unit {0}
opened (opening.Number digits decimal long) ks rest = ks ≡ k.Number digits decimal long ∷ rest
opened (opening.Truth true) ks rest = ks ≡ k.Reserved word.True ∷ rest
opened (opening.Truth false) ks rest = ks ≡ k.Reserved word.False ∷ rest
opened opening.New ks rest = ks ≡ k.Reserved word.New ∷ rest
opened opening.Paren ks rest = ks ≡ open_paren ∷ rest
opened (opening.Unary op) ks rest = ks ≡ k.Symbol (unary_symbol op) ∷ rest
opened opening.Other ks rest = Unit {0}

opening_symbol_is : (s : Symbol) (rest : Kinds) → opened (opening_symbol s) (k.Symbol s ∷ rest) rest
opening_symbol_is symbol.OpenParen rest = refl
opening_symbol_is symbol.Plus rest = refl
opening_symbol_is symbol.Minus rest = refl
opening_symbol_is symbol.Tilde rest = refl
opening_symbol_is symbol.Bang rest = refl
opening_symbol_is _ rest = tt

opening_word_is : (w : Reserved) (rest : Kinds) → opened (opening_reserved w) (k.Reserved w ∷ rest) rest
opening_word_is word.True rest = refl
opening_word_is word.False rest = refl
opening_word_is word.New rest = refl
opening_word_is _ rest = tt

opening_is : (ks : Kinds) → opened (opening_of ks) ks (tail ks)
unfolding opening_of tail
opening_is [] = tt
opening_is (k.Identifier name ∷ rest) = tt
opening_is (k.Number digits decimal long ∷ rest) = refl
opening_is (k.Reserved w ∷ rest) = opening_word_is w rest
opening_is (k.Symbol s ∷ rest) = opening_symbol_is s rest

word_ahead : (w : Kind) (ks : Kinds) → begins w ks ≡ true → ks ≡ w ∷ tail ks
unfolding begins tail
word_ahead w [] h = absurd cc
word_ahead w (x ∷ rest) h = ap (λ (y : Kind). y ∷ rest) (word_is x w h)

-- ---- readings that take their tokens

-- what was read of these tokens, behind the tokens of what stood before it
pub record Taken {A : Type 0} (tokens : A → Kinds) (P : A → Type 0) (ks : Kinds) (x : A × Kinds) : Type 0 where
  pub spelled : ks ≡ tokens x.0 ++ x.1
  pub sound : P x.0

taken : {A : Type 0} (tokens : A → Kinds) (P : A → Type 0) (ks : Kinds) (y x : A × Kinds) → ◌≡◌ {A = Reading A} (Ok y) (Ok x) → ks ≡ tokens y.0 ++ y.1 → P y.0 → Taken tokens P ks x
taken tokens P ks y x e h p = subst (λ (z : _ × Kinds). Taken tokens P ks z) (same_Ok y x e) (record { spelled = h; sound = p })

abbrev pub Reads : {A : Type 0} → (Kinds → Reading A) → (A → Kinds) → (A → Type 0) → Type 0
Reads thing_at tokens P = (ks : Kinds) (x : _) → thing_at ks ≡ Ok x → Taken tokens P ks x

pub not_below : (a b : ℕ) → nat_lt a b ≡ false → b ≤ a
not_below a b h = grind (arith, nat_tests)

-- ---- parts, whose expressions are read one level deeper

module _ (n : ℕ) (deeper : ℕ → Kinds → Reading Expr) (reads : (looseness : ℕ) → looseness ≤ 11 → Reads (deeper looseness) expr_tokens (Sound n looseness)) where
  whole : Reads (deeper all_rows) expr_tokens (Sound n 11)
  whole = reads 11 (omega arith)

  pub value_reads : Reads (value_in deeper) value_tokens (SoundValue n)
  unfolding value_in
  value_reads ks x e =
      let a = bind_ok (optional_at at_sign (k.Identifier (codes "Global") ∷ []) ks) _ x e in
      let b = bind_ok (deeper all_rows a.0.1) _ x a.2 in
      let i = whole a.0.1 b.0 b.1 in
      taken value_tokens (SoundValue n) ks (valued a.0.0 b.0.0, b.0.1) x b.2
      (optional_takes at_sign (k.Identifier (codes "Global") ∷ []) ks a.0 a.1
      ∙ ap (λ (t : Kinds). optional at_sign (k.Identifier (codes "Global") ∷ []) a.0.0 ++ t) i.spelled
      ∙ sym (append_assoc (global a.0.0) (expr_tokens b.0.0) b.0.1)
      ∙ ap (λ (t : Kinds). t ++ b.0.1) (sym (valued_tokens a.0.0 b.0.0)))
      (sound_valued n a.0.0 b.0.0 i.sound)

  abbrev other_value_tokens : Value → Kinds
  other_value_tokens v = comma ∷ value_tokens v

  other_value_reads : Reads (other_value_in deeper) other_value_tokens (SoundValue n)
  unfolding other_value_in
  other_value_reads ks x e =
      let a = bind_ok (after (comma ∷ []) ks) _ x e in
      let i = value_reads a.0 x a.2 in
      record { spelled = after_takes (comma ∷ []) ks a.0 a.1 ∙ ap (λ (t : Kinds). comma ∷ t) i.spelled; sound = i.sound }

  other_values_reads : Reads (other_values_in deeper) (flat_map other_value_tokens) (SoundValues n)
  unfolding other_values_in
  other_values_reads ks x e = record {
    spelled = many_takes (begins comma) (other_value_in deeper) other_value_tokens (λ t y h. (other_value_reads t y h).spelled) (length ks) ks x e;
    sound = many_keeps (begins comma) (other_value_in deeper) (SoundValue n) (SoundValues n) (λ t y h. (other_value_reads t y h).sound) (sound_none n) (sound_more n) (length ks) ks x e;
  }

  abbrev values_tokens : List Value → Kinds
  values_tokens values = separated (map value_tokens values)

  values_reads : Reads (values_in deeper) values_tokens (SoundValues n)
  unfolding values_in
  values_reads ks x e =
      elim (chosen (begins close_paren ks) (Ok ([], ks)) _ (Ok x) e) [
        | inl h ↦ taken values_tokens (SoundValues n) ks ([], ks) x h.1 refl (sound_none n)
        | inr h ↦
            let a = bind_ok (value_in deeper ks) _ x h.1 in
            let b = bind_ok (other_values_in deeper a.0.1) _ x a.2 in
            let i = value_reads ks a.0 a.1 in
            let j = other_values_reads a.0.1 b.0 b.1 in
            taken values_tokens (SoundValues n) ks (a.0.0 ∷ b.0.0, b.0.1) x b.2
            (i.spelled ∙ ap (λ (t : Kinds). value_tokens a.0.0 ++ t) (j.spelled ∙ ap (λ (t : Kinds). t ++ b.0.1) (sym (separated-map comma value_tokens b.0.0)))
            ∙ sym (append_assoc (value_tokens a.0.0) (flat_map (λ y. comma ∷ y) (map value_tokens b.0.0)) b.0.1))
            (sound_more n a.0.0 b.0.0 i.sound j.sound)
      ]

  pub args_reads : Reads (args_in deeper) args_tokens (SoundValues n)
  unfolding args_in args_tokens
  args_reads ks x e =
      let a = bind_ok (after (open_paren ∷ []) ks) _ x e in
      let b = bind_ok (values_in deeper a.0) _ x a.2 in
      let c = bind_ok (after (close_paren ∷ []) b.0.1) _ x b.2 in
      let i = values_reads a.0 b.0 b.1 in
      taken args_tokens (SoundValues n) ks (b.0.0, c.0) x c.2
      (after_takes (open_paren ∷ []) ks a.0 a.1
      ∙ ap (λ (t : Kinds). open_paren ∷ t) (i.spelled ∙ ap (λ (t : Kinds). values_tokens b.0.0 ++ t) (after_takes (close_paren ∷ []) b.0.1 c.0 c.1) ∙ sym (append_assoc (values_tokens b.0.0) (close_paren ∷ []) c.0)))
      i.sound

  -- ---- behind a name, whose token stands before

  abbrev After : List ℕ → (Kinds → Reading Expr) → Kinds → Type 0
  After name thing_at front = (ks : Kinds) (x : _) → thing_at ks ≡ Ok x → Taken expr_tokens (Sound (suc n) 0) (k.Identifier name ∷ (front ++ ks)) x

  own_reads : (name : List ℕ) → After name (own_in deeper name) []
  unfolding own_in
  own_reads name ks x e =
      let a = bind_ok (args_in deeper ks) _ x e in
      let i = args_reads ks a.0 a.1 in
      taken expr_tokens (Sound (suc n) 0) (k.Identifier name ∷ ks) (expr.Call (call.Own name a.0.0), a.0.1) x a.2
      (ap (λ (t : Kinds). k.Identifier name ∷ t) i.spelled ∙ ap (λ (t : Kinds). t ++ a.0.1) (sym (called_tokens (call.Own name a.0.0) ∙ own_tokens name a.0.0)))
      (sound_called n (call.Own name a.0.0) (sound_own n name a.0.0 i.sound))

  of_reads : (object name : List ℕ) → After object (of_in deeper object name) (dot ∷ k.Identifier name ∷ [])
  unfolding of_in
  of_reads object name ks x e =
      let a = bind_ok (args_in deeper ks) _ x e in
      let i = args_reads ks a.0 a.1 in
      taken expr_tokens (Sound (suc n) 0) (k.Identifier object ∷ dot ∷ k.Identifier name ∷ ks) (expr.Call (call.Of object name a.0.0), a.0.1) x a.2
      (ap (λ (t : Kinds). k.Identifier object ∷ dot ∷ k.Identifier name ∷ t) i.spelled ∙ ap (λ (t : Kinds). t ++ a.0.1) (sym (called_tokens (call.Of object name a.0.0) ∙ of_tokens object name a.0.0)))
      (sound_called n (call.Of object name a.0.0) (sound_of n object name a.0.0 i.sound))

  member_reads : (object : List ℕ) → After object (member_in deeper object) (dot ∷ [])
  unfolding member_in
  member_reads object ks x e =
      let a = bind_ok (name_at ks) _ x e in
      let front = ap (λ (t : Kinds). k.Identifier object ∷ dot ∷ t) (name_takes ks a.0 a.1) in
      elim (chosen (begins open_paren a.0.1) (of_in deeper object a.0.0 a.0.1) (Ok (expr.Member object a.0.0, a.0.1)) (Ok x) a.2) [
        | inl h ↦ let i = of_reads object a.0.0 a.0.1 x h.1 in record { spelled = front ∙ i.spelled; sound = i.sound }
        | inr h ↦
            taken expr_tokens (Sound (suc n) 0) (k.Identifier object ∷ dot ∷ ks) (expr.Member object a.0.0, a.0.1) x h.1
            (front ∙ ap (λ (t : Kinds). t ++ a.0.1) (sym (member_tokens object a.0.0))) (sound_member n object a.0.0)
      ]

  of_member_reads : (object : List ℕ) (at : Expr) → Sound n 11 at → After object (of_member_in deeper object at) (open_bracket ∷ (expr_tokens at ++ close_bracket ∷ []))
  unfolding of_member_in
  of_member_reads object at sound ks x e =
      let a = bind_ok (after (dot ∷ []) ks) _ x e in
      let b = bind_ok (name_at a.0) _ x a.2 in
      let c = bind_ok (args_in deeper b.0.1) _ x b.2 in
      let i = args_reads b.0.1 c.0 c.1 in
      let made = call.OfMember object at b.0.0 c.0.0 in
      let after_at : ks ≡ dot ∷ k.Identifier b.0.0 ∷ (args_tokens c.0.0 ++ c.0.1) =
      after_takes (dot ∷ []) ks a.0 a.1 ∙ ap (λ (t : Kinds). dot ∷ t) (name_takes a.0 b.0 b.1 ∙ ap (λ (t : Kinds). k.Identifier b.0.0 ∷ t) i.spelled) in
      taken expr_tokens (Sound (suc n) 0) (k.Identifier object ∷ open_bracket ∷ ((expr_tokens at ++ close_bracket ∷ []) ++ ks)) (expr.Call made, c.0.1) x c.2
      (ap (λ (t : Kinds). k.Identifier object ∷ open_bracket ∷ ((expr_tokens at ++ close_bracket ∷ []) ++ t)) after_at
      ∙ rw (called_tokens made, of_member_tokens object at b.0.0 c.0.0) (simp append_assoc))
      (sound_called n made (sound_of_member n object at b.0.0 c.0.0 sound i.sound))

  index_reads : (object : List ℕ) → After object (index_in deeper object) (open_bracket ∷ [])
  unfolding index_in
  index_reads object ks x e =
      let a = bind_ok (deeper all_rows ks) _ x e in
      let b = bind_ok (after (close_bracket ∷ []) a.0.1) _ x a.2 in
      let i = whole ks a.0 a.1 in
      let front : ks ≡ (expr_tokens a.0.0 ++ close_bracket ∷ []) ++ b.0 =
      i.spelled ∙ ap (λ (t : Kinds). expr_tokens a.0.0 ++ t) (after_takes (close_bracket ∷ []) a.0.1 b.0 b.1) ∙ sym (append_assoc (expr_tokens a.0.0) (close_bracket ∷ []) b.0) in
      let all = ap (λ (t : Kinds). k.Identifier object ∷ open_bracket ∷ t) front in
      elim (chosen (begins dot b.0) (of_member_in deeper object a.0.0 b.0) (Ok (expr.Index object a.0.0, b.0)) (Ok x) b.2) [
        | inl h ↦ let j = of_member_reads object a.0.0 i.sound b.0 x h.1 in record { spelled = all ∙ j.spelled; sound = j.sound }
        | inr h ↦
            taken expr_tokens (Sound (suc n) 0) (k.Identifier object ∷ open_bracket ∷ ks) (expr.Index object a.0.0, b.0) x h.1
            (all ∙ ap (λ (t : Kinds). t ++ b.0) (sym (index_tokens object a.0.0))) (sound_index n object a.0.0 i.sound)
      ]

  named_reads : (name : List ℕ) → After name (named_in deeper name) []
  unfolding named_in
  named_reads name ks x e =
      elim (chosen (begins open_paren ks) (own_in deeper name ks) _ (Ok x) e) [
        | inl h ↦ own_reads name ks x h.1
        | inr h ↦ elim (chosen (begins dot ks) (member_in deeper name (tail ks)) _ (Ok x) h.1) [
          | inl g ↦ let i = member_reads name (tail ks) x g.1 in record { spelled = ap (λ (t : Kinds). k.Identifier name ∷ t) (word_ahead dot ks g.0) ∙ i.spelled; sound = i.sound }
          | inr g ↦ elim (chosen (begins open_bracket ks) (index_in deeper name (tail ks)) (Ok (expr.Name name, ks)) (Ok x) g.1) [
            | inl f ↦ let i = index_reads name (tail ks) x f.1 in record { spelled = ap (λ (t : Kinds). k.Identifier name ∷ t) (word_ahead open_bracket ks f.0) ∙ i.spelled; sound = i.sound }
            | inr f ↦
                taken expr_tokens (Sound (suc n) 0) (k.Identifier name ∷ ks) (expr.Name name, ks) x f.1
                (ap (λ (t : Kinds). t ++ ks) (sym (name_tokens name))) (sound_name n name)
          ]
        ]
      ]

  pub called_reads : Reads (called_in deeper) expr_tokens (Sound (suc n) 0)
  unfolding called_in
  called_reads ks x e =
      let a = bind_ok (name_at ks) _ x e in
      let i = named_reads a.0.0 a.0.1 x a.2 in
      record { spelled = name_takes ks a.0 a.1 ∙ i.spelled; sound = i.sound }

  -- ---- operands

  cast_reads : (to : Num) (ks : Kinds) (x : _) → cast_in deeper to ks ≡ Ok x → Taken expr_tokens (Sound (suc n) 0) (open_paren ∷ (number_type to ++ tail ks)) x
  unfolding cast_in
  cast_reads to ks x e =
      let a = bind_ok (after (close_paren ∷ []) (tail ks)) _ x e in
      let b = bind_ok (deeper 0 a.0) _ x a.2 in
      let i = reads 0 (omega arith) a.0 b.0 b.1 in
      taken expr_tokens (Sound (suc n) 0) (open_paren ∷ (number_type to ++ tail ks)) (expr.Cast to b.0.0, b.0.1) x b.2
      (ap (λ (t : Kinds). open_paren ∷ (number_type to ++ t)) (after_takes (close_paren ∷ []) (tail ks) a.0 a.1 ∙ ap (λ (t : Kinds). close_paren ∷ t) i.spelled)
      ∙ rw (cast_tokens to b.0.0) (simp append_assoc))
      (sound_cast n to b.0.0 i.sound)

  inner_reads : (ks : Kinds) (x : _) → inner_in deeper ks ≡ Ok x → Taken expr_tokens (Sound (suc n) 0) (open_paren ∷ ks) x
  unfolding inner_in
  inner_reads ks x e =
      let a = bind_ok (deeper all_rows ks) _ x e in
      let b = bind_ok (after (close_paren ∷ []) a.0.1) _ x a.2 in
      let i = whole ks a.0 a.1 in
      taken expr_tokens (Sound (suc n) 0) (open_paren ∷ ks) (expr.Paren a.0.0, b.0) x b.2
      (ap (λ (t : Kinds). open_paren ∷ t) (i.spelled ∙ ap (λ (t : Kinds). expr_tokens a.0.0 ++ t) (after_takes (close_paren ∷ []) a.0.1 b.0 b.1))
      ∙ rw (paren_tokens a.0.0) (simp append_assoc))
      (sound_paren n a.0.0 i.sound)

  paren_by_reads : (found : Option Num) (ks : Kinds) (x : _) → number_type_ahead ks ≡ found → when_some found (λ to. cast_in deeper to ks) (inner_in deeper ks) ≡ Ok x
      → Taken expr_tokens (Sound (suc n) 0) (open_paren ∷ ks) x
  paren_by_reads None ks x is e = inner_reads ks x e
  paren_by_reads (Some to) ks x is e =
      let i = cast_reads to ks x e in
      record { spelled = ap (λ (t : Kinds). open_paren ∷ t) (type_is ks to is) ∙ i.spelled; sound = i.sound }

  paren_reads : (ks : Kinds) (x : _) → paren_in deeper ks ≡ Ok x → Taken expr_tokens (Sound (suc n) 0) (open_paren ∷ ks) x
  unfolding paren_in
  paren_reads ks x e = paren_by_reads (number_type_ahead ks) ks x refl e

  new_reads : (ks : Kinds) (x : _) → new_in deeper ks ≡ Ok x → Taken expr_tokens (Sound (suc n) 0) (k.Reserved word.New ∷ ks) x
  unfolding new_in
  new_reads ks x e =
      let a = bind_ok (name_at ks) _ x e in
      let b = bind_ok (after (open_paren ∷ []) a.0.1) _ x a.2 in
      let c = bind_ok (deeper all_rows b.0) _ x b.2 in
      let d = bind_ok (after (close_paren ∷ []) c.0.1) _ x c.2 in
      let i = whole b.0 c.0 c.1 in
      taken expr_tokens (Sound (suc n) 0) (k.Reserved word.New ∷ ks) (expr.New a.0.0 c.0.0, d.0) x d.2
      (ap (λ (t : Kinds). k.Reserved word.New ∷ t)
      (name_takes ks a.0 a.1 ∙ ap (λ (t : Kinds). k.Identifier a.0.0 ∷ t) (after_takes (open_paren ∷ []) a.0.1 b.0 b.1
      ∙ ap (λ (t : Kinds). open_paren ∷ t) (i.spelled ∙ ap (λ (t : Kinds). expr_tokens c.0.0 ++ t) (after_takes (close_paren ∷ []) c.0.1 d.0 d.1))))
      ∙ rw (maker_tokens a.0.0 c.0.0) (simp append_assoc))
      (sound_maker n a.0.0 c.0.0 i.sound)

  prefixed_reads : (op : UnOp) (ks : Kinds) (x : _) → prefixed_in deeper op ks ≡ Ok x → Taken expr_tokens (Sound (suc n) 0) (k.Symbol (unary_symbol op) ∷ ks) x
  unfolding prefixed_in
  prefixed_reads op ks x e =
      let a = bind_ok (deeper 0 ks) _ x e in
      let i = reads 0 (omega arith) ks a.0 a.1 in
      taken expr_tokens (Sound (suc n) 0) (k.Symbol (unary_symbol op) ∷ ks) (expr.Unary op a.0.0, a.0.1) x a.2
      (ap (λ (t : Kinds). k.Symbol (unary_symbol op) ∷ t) i.spelled ∙ ap (λ (t : Kinds). t ++ a.0.1) (sym (unary_tokens op a.0.0)))
      (sound_unary n op a.0.0 i.sound)

  before : (ks front : Kinds) (x : Expr × Kinds) → ks ≡ front → Taken expr_tokens (Sound (suc n) 0) front x → Taken expr_tokens (Sound (suc n) 0) ks x
  before ks front x e i = record { spelled = e ∙ i.spelled; sound = i.sound }

  operand_by_reads : (o : Opening) (ks : Kinds) (x : _) → opened o ks (tail ks) → operand_by deeper o ks ≡ Ok x → Taken expr_tokens (Sound (suc n) 0) ks x
  operand_by_reads opening.Name ks x is e = called_reads ks x e
  operand_by_reads (opening.Number digits decimal long) ks x is e =
      taken expr_tokens (Sound (suc n) 0) ks (expr.Number digits decimal long, tail ks) x e (is ∙ ap (λ (t : Kinds). t ++ tail ks) (sym (number_tokens digits decimal long))) (sound_number n digits decimal long)
  operand_by_reads (opening.Truth true) ks x is e =
      taken expr_tokens (Sound (suc n) 0) ks (expr.Bool true, tail ks) x e (is ∙ ap (λ (t : Kinds). t ++ tail ks) (sym true_tokens)) (sound_truth n true)
  operand_by_reads (opening.Truth false) ks x is e =
      taken expr_tokens (Sound (suc n) 0) ks (expr.Bool false, tail ks) x e (is ∙ ap (λ (t : Kinds). t ++ tail ks) (sym false_tokens)) (sound_truth n false)
  operand_by_reads opening.New ks x is e = before ks _ x is (new_reads (tail ks) x e)
  operand_by_reads opening.Paren ks x is e = before ks _ x is (paren_reads (tail ks) x e)
  operand_by_reads (opening.Unary op) ks x is e = before ks _ x is (prefixed_reads op (tail ks) x e)
  operand_by_reads opening.Other ks x is e = absurd cc

  operand_reads : Reads (operand_in deeper) expr_tokens (Sound (suc n) 0)
  unfolding operand_in
  operand_reads ks x e = operand_by_reads (opening_of ks) ks x (opening_is ks) e

  -- ---- rows and conditionals, behind what was read of them

  -- where the turns that are left read so
  row_step_reads : (looseness : ℕ) (left : Expr) (ks : Kinds) (x : Expr × Kinds) (more : Expr → Kinds → Reading Expr) (o : Option BinOp) → looseness ≤ 10 → Sound (suc n) (suc looseness) left
      → ((y : Expr) (rest : Kinds) → Sound (suc n) (suc looseness) y → more y rest ≡ Ok x → Taken expr_tokens (Sound (suc n) (suc looseness)) (expr_tokens y ++ rest) x)
      → operator_at (10 - looseness) ks ≡ o
      → when_some o (λ op. if nat_lt n (expr_height left) then too_deep ks else (deeper looseness (tail ks) >>= λ right. more (expr.Binary op left right.0) right.1)) (Ok (left, ks)) ≡ Ok x
      → Taken expr_tokens (Sound (suc n) (suc looseness)) (expr_tokens left ++ ks) x
  row_step_reads looseness left ks x more None le i later is e = taken expr_tokens (Sound (suc n) (suc looseness)) (expr_tokens left ++ ks) (left, ks) x e refl i
  row_step_reads looseness left ks x more (Some op) le i later is e =
      elim (chosen (nat_lt n (expr_height left)) (too_deep ks) (deeper looseness (tail ks) >>= λ right. more (expr.Binary op left right.0) right.1) (Ok x) e) [
        | inl h ↦ absurd (let wrong = h.1 in cc)
        | inr h ↦
            let a = bind_ok (deeper looseness (tail ks)) _ x h.1 in
            let j = reads looseness (omega arith) (tail ks) a.0 a.1 in
            let at = operator_is (10 - looseness) ks op is in
            let low = not_below n (expr_height left) h.0 in
            let next = later (expr.Binary op left a.0.0) a.0.1 (sound_binary n looseness op left a.0.0 le at.1 i low j.sound) a.2 in
            record {
              spelled =
                  ap (λ (t : Kinds). expr_tokens left ++ t) (at.0 ∙ ap (λ (t : Kinds). k.Symbol (operator_symbol op) ∷ t) j.spelled)
                  ∙ sym (append_assoc (expr_tokens left) (k.Symbol (operator_symbol op) ∷ expr_tokens a.0.0) a.0.1)
                  ∙ ap (λ (t : Kinds). t ++ a.0.1) (sym (binary_tokens op left a.0.0))
                  ∙ next.spelled;
              sound = next.sound;
            }
      ]

  row_from_reads : (looseness turns : ℕ) (left : Expr) (ks : Kinds) (x : _) → looseness ≤ 10 → Sound (suc n) (suc looseness) left
      → row_from deeper n looseness turns left ks ≡ Ok x → Taken expr_tokens (Sound (suc n) (suc looseness)) (expr_tokens left ++ ks) x
  unfolding row_from
  row_from_reads looseness zero left ks x le i e = absurd cc
  row_from_reads looseness (suc turns) left ks x le i e =
      row_step_reads looseness left ks x (λ y rest. row_from deeper n looseness turns y rest) (operator_at (10 - looseness) ks) le i
      (λ y rest sound h. row_from_reads looseness turns y rest x le sound h) refl e

  row_reads : (looseness : ℕ) (first : Expr) (ks : Kinds) (x : _) → looseness ≤ 10 → Sound (suc n) looseness first → row_in deeper n looseness first ks ≡ Ok x
      → Taken expr_tokens (Sound (suc n) (suc looseness)) (expr_tokens first ++ ks) x
  unfolding row_in
  row_reads looseness first ks x le i e = row_from_reads looseness (length ks) first ks x le (looser i) e

  conditional_reads : (test : Expr) (ks : Kinds) (x : _) → Sound (suc n) 10 test → conditional_in deeper n test ks ≡ Ok x → Taken expr_tokens (Sound (suc n) 11) (expr_tokens test ++ ks) x
  unfolding conditional_in
  conditional_reads test ks x i e =
      elim (chosen (begins question ks) _ (Ok (test, ks)) (Ok x) e) [
        | inr h ↦ taken expr_tokens (Sound (suc n) 11) (expr_tokens test ++ ks) (test, ks) x h.1 refl (looser i)
        | inl h ↦ elim (chosen (nat_lt n (expr_height test)) (too_deep ks) _ (Ok x) h.1) [
          | inl g ↦ absurd (let wrong = g.1 in cc)
          | inr g ↦
              let a = bind_ok (after (question ∷ []) ks) _ x g.1 in
              let b = bind_ok (deeper all_rows a.0) _ x a.2 in
              let c = bind_ok (after (colon ∷ []) b.0.1) _ x b.2 in
              let d = bind_ok (deeper all_rows c.0) _ x c.2 in
              let first = whole a.0 b.0 b.1 in
              let second = whole c.0 d.0 d.1 in
              taken expr_tokens (Sound (suc n) 11) (expr_tokens test ++ ks) (expr.Conditional test b.0.0 d.0.0, d.0.1) x d.2
              (ap (λ (t : Kinds). expr_tokens test ++ t)
              (after_takes (question ∷ []) ks a.0 a.1 ∙ ap (λ (t : Kinds). question ∷ t) (first.spelled ∙ ap (λ (t : Kinds). expr_tokens b.0.0 ++ t) (after_takes (colon ∷ []) b.0.1 c.0 c.1 ∙ ap (λ (t : Kinds). colon ∷ t) second.spelled)))
              ∙ rw (conditional_tokens test b.0.0 d.0.0) (simp append_assoc))
              (sound_conditional n test b.0.0 d.0.0 i (not_below n (expr_height test) g.0) first.sound second.sound)
        ]
      ]

  looser_reads : (looseness : ℕ) (y : Expr) (ks : Kinds) (x : _) → looseness ≤ 10 → Sound (suc n) looseness y → looser_in deeper n looseness y ks ≡ Ok x
      → Taken expr_tokens (Sound (suc n) (suc looseness)) (expr_tokens y ++ ks) x
  unfolding looser_in
  looser_reads looseness y ks x le i e =
      elim (chosen (nat_eq looseness 10) (conditional_in deeper n y ks) (row_in deeper n looseness y ks) (Ok x) e) [
        | inl h ↦
            let ten : looseness ≡ 10 = (Decides-eqb looseness 10).0 h.0 in
            let P : ℕ → Type 0 = λ l. Taken expr_tokens (Sound (suc n) (suc l)) (expr_tokens y ++ ks) x in
            let Q : ℕ → Type 0 = λ l. Sound (suc n) l y in
            subst P (sym ten) (conditional_reads y ks x (subst Q ten i) h.1)
        | inr h ↦ row_reads looseness y ks x le i h.1
      ]

  extended_reads : (looseness : ℕ) (y : Expr) (ks : Kinds) (x : _) → looseness ≤ 11 → Sound (suc n) 0 y → extended_in deeper n looseness y ks ≡ Ok x
      → Taken expr_tokens (Sound (suc n) looseness) (expr_tokens y ++ ks) x
  unfolding extended_in
  extended_reads zero y ks x le i e = taken expr_tokens (Sound (suc n) 0) (expr_tokens y ++ ks) (y, ks) x e refl i
  extended_reads (suc looseness) y ks x le i e =
      let a = bind_ok (extended_in deeper n looseness y ks) _ x e in
      let j = extended_reads looseness y ks a.0 (omega arith) i a.1 in
      let l = looser_reads looseness a.0.0 a.0.1 x (omega arith) j.sound a.2 in
      record { spelled = j.spelled ∙ l.spelled; sound = l.sound }

  read_in_reads : (looseness : ℕ) → looseness ≤ 11 → Reads (read_in deeper n looseness) expr_tokens (Sound (suc n) looseness)
  unfolding read_in
  read_in_reads looseness le ks x e =
      let a = bind_ok (operand_in deeper ks) _ x e in
      let i = operand_reads ks a.0 a.1 in
      let j = extended_reads looseness a.0.0 a.0.1 x le i.sound a.2 in
      record { spelled = i.spelled ∙ j.spelled; sound = j.sound }

-- ---- on any number of levels

pub no_levels : (b : Bool) (ks : Kinds) (x : Expr × Kinds) → ◌≡◌ {A = Reading Expr} (if b then too_deep ks else refused ks) (Ok x) → ⊥
no_levels true ks x e = cc
no_levels false ks x e = cc

pub read_takes : (n looseness : ℕ) → looseness ≤ 11 → Reads (read_at n looseness) expr_tokens (Sound n looseness)
unfolding read_at
read_takes zero looseness le ks x e = absurd (no_levels (begins_expr ks) ks x e)
read_takes (suc n) looseness le ks x e = read_in_reads n (read_at n) (read_takes n) looseness le ks x e

pub expr_takes : (n : ℕ) → Takes (expr_at n) expr_tokens
expr_takes n ks x e = (read_takes n 11 (omega arith) ks x e).spelled

pub expr_keeps : (n : ℕ) → Keeps (expr_at n) (Sound n 11)
expr_keeps n ks x e = (read_takes n 11 (omega arith) ks x e).sound

pub value_takes : (n : ℕ) → Takes (value_at n) value_tokens
value_takes n ks x e = (value_reads n (read_at n) (read_takes n) ks x e).spelled

pub value_keeps : (n : ℕ) → Keeps (value_at n) (SoundValue n)
value_keeps n ks x e = (value_reads n (read_at n) (read_takes n) ks x e).sound

pub args_takes : (n : ℕ) → Takes (args_at n) args_tokens
args_takes n ks x e = (args_reads n (read_at n) (read_takes n) ks x e).spelled

pub args_keeps : (n : ℕ) → Keeps (args_at n) (SoundValues n)
args_keeps n ks x e = (args_reads n (read_at n) (read_takes n) ks x e).sound
