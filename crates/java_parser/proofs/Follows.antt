-- What may stand behind an expression.
use Rattle.std.proofs.Common.{◌≡◌, ℕ, suc, ◌<◌, ◌≤◌, Bool, true, false, not, ◌&&◌, nat_eq, [], ◌∷◌, length, Option, Some, None, ◌⊎◌, inl, inr, refl, arith}
use Rattle.std.proofs.lemmas.Bool.Decides.{nat_tests}
use Rattle.sdg_base.specs.declared.operator.BinOp.{BinOp}
use Rattle.sdg_base.specs.declared.operator.BinOp.TheVariants as bin
use Rattle.java_tree.specs.declared.token.Kind.{Kind}
use Rattle.java_tree.specs.declared.token.Kind.TheVariants as k
use Rattle.java_tree.specs.declared.token.Reserved.{Reserved}
use Rattle.java_tree.specs.declared.token.Reserved.TheVariants as word
use Rattle.java_tree.specs.Levels.{operator_level}
use Rattle.java_tree.specs.Tokens.{Kinds, operator_symbol}
use Rattle.java_parser.specs.declared.operands.Opening.TheVariants as opening
use Rattle.java_parser.specs.Words.{same_token, begins}
use Rattle.java_parser.specs.Members.{dot, open_paren, open_bracket}
use Rattle.java_parser.specs.Expressions.{question, operator_ahead, of_level, operator_at, holds_from, follows, opening_of, opening_reserved, is_other, begins_expr, number_type_of, number_type_ahead}
use Rattle.java_parser.proofs.Laws.{both, word_is}

pub record Ends (level : ℕ) (rest : Kinds) : Type 0 where
  pub no_operator : holds_from level (operator_ahead rest) ≡ false
  pub no_question : (nat_eq level 0 && begins question rest) ≡ false
  pub no_paren : begins open_paren rest ≡ false
  pub no_dot : begins dot rest ≡ false
  pub no_bracket : begins open_bracket rest ≡ false

no : (b : Bool) → not b ≡ true → b ≡ false
no true h = absurd cc
no false h = refl

pub ends : (level : ℕ) (rest : Kinds) → follows level rest ≡ true → Ends level rest
unfolding follows
ends level [] h = absurd cc
ends level (x ∷ rest) h =
    let a = both _ _ h in
    let b = both _ _ a.1 in
    let c = both _ _ b.1 in
    let d = both _ _ c.1 in
    record { no_operator = no _ a.0; no_question = no _ b.0; no_paren = no _ c.0; no_dot = no _ d.0; no_bracket = no _ d.1 }

pub not_empty : (level : ℕ) (rest : Kinds) → follows level rest ≡ true → 0 < length rest
unfolding follows
not_empty level [] h = absurd cc
not_empty level (x ∷ rest) h = omega arith

holds_tighter : (a b : ℕ) (o : Option BinOp) → a ≤ b → holds_from a o ≡ false → holds_from b o ≡ false
holds_tighter a b None le h = refl
holds_tighter a b (Some op) le h = grind (arith, nat_tests)

question_tighter : (a b : ℕ) (q : Bool) → a ≤ b → (nat_eq a 0 && q) ≡ false → (nat_eq b 0 && q) ≡ false
question_tighter a b q le h = grind (arith, nat_tests)

pub tighter : (a b : ℕ) (rest : Kinds) → a ≤ b → follows a rest ≡ true → follows b rest ≡ true
unfolding follows
tighter a b [] le h = absurd cc
tighter a b (x ∷ rest) le h =
    let e = ends a (x ∷ rest) h in
    rw (holds_tighter a b (operator_ahead (x ∷ rest)) le e.no_operator, question_tighter a b (begins question (x ∷ rest)) le e.no_question, e.no_paren, e.no_dot, e.no_bracket) refl

pub no_operator_at : (level : ℕ) (o : Option BinOp) → holds_from level o ≡ false → of_level level o ≡ None
no_operator_at level None h = refl
no_operator_at level (Some op) h = let differs : nat_eq (operator_level op) level ≡ false = grind (arith, nat_tests) in rw differs refl

-- ---- operators

pub operator_found : (op : BinOp) (rest : Kinds) → operator_at (operator_level op) (k.Symbol (operator_symbol op) ∷ rest) ≡ Some op
unfolding operator_at operator_ahead
operator_found bin.Mul rest = refl
operator_found bin.Div rest = refl
operator_found bin.Rem rest = refl
operator_found bin.Add rest = refl
operator_found bin.Sub rest = refl
operator_found bin.Shl rest = refl
operator_found bin.Shr rest = refl
operator_found bin.UShr rest = refl
operator_found bin.Lt rest = refl
operator_found bin.Le rest = refl
operator_found bin.Gt rest = refl
operator_found bin.Ge rest = refl
operator_found bin.Eq rest = refl
operator_found bin.Ne rest = refl
operator_found bin.And rest = refl
operator_found bin.Xor rest = refl
operator_found bin.Or rest = refl
operator_found bin.AndAlso rest = refl
operator_found bin.OrElse rest = refl

pub operator_follows : (op : BinOp) (rest : Kinds) → follows (suc (operator_level op)) (k.Symbol (operator_symbol op) ∷ rest) ≡ true
unfolding follows operator_ahead begins same_token
operator_follows bin.Mul rest = refl
operator_follows bin.Div rest = refl
operator_follows bin.Rem rest = refl
operator_follows bin.Add rest = refl
operator_follows bin.Sub rest = refl
operator_follows bin.Shl rest = refl
operator_follows bin.Shr rest = refl
operator_follows bin.UShr rest = refl
operator_follows bin.Lt rest = refl
operator_follows bin.Le rest = refl
operator_follows bin.Gt rest = refl
operator_follows bin.Ge rest = refl
operator_follows bin.Eq rest = refl
operator_follows bin.Ne rest = refl
operator_follows bin.And rest = refl
operator_follows bin.Xor rest = refl
operator_follows bin.Or rest = refl
operator_follows bin.AndAlso rest = refl
operator_follows bin.OrElse rest = refl

pub level_within : (op : BinOp) → (0 < operator_level op) × (operator_level op < 11)
level_within bin.Mul = (omega arith, omega arith)
level_within bin.Div = (omega arith, omega arith)
level_within bin.Rem = (omega arith, omega arith)
level_within bin.Add = (omega arith, omega arith)
level_within bin.Sub = (omega arith, omega arith)
level_within bin.Shl = (omega arith, omega arith)
level_within bin.Shr = (omega arith, omega arith)
level_within bin.UShr = (omega arith, omega arith)
level_within bin.Lt = (omega arith, omega arith)
level_within bin.Le = (omega arith, omega arith)
level_within bin.Gt = (omega arith, omega arith)
level_within bin.Ge = (omega arith, omega arith)
level_within bin.Eq = (omega arith, omega arith)
level_within bin.Ne = (omega arith, omega arith)
level_within bin.And = (omega arith, omega arith)
level_within bin.Xor = (omega arith, omega arith)
level_within bin.Or = (omega arith, omega arith)
level_within bin.AndAlso = (omega arith, omega arith)
level_within bin.OrElse = (omega arith, omega arith)

-- ---- what no expression begins with

same_or_not : (b : Bool) → (b ≡ true) ⊎ (b ≡ false)
same_or_not true = inl refl
same_or_not false = inr refl

pub not_opened : (w : Kind) (ks : Kinds) → ((rest : Kinds) → opening_of (w ∷ rest) ≡ opening.Other) → begins_expr ks ≡ true → begins w ks ≡ false
unfolding begins_expr begins
not_opened w [] other h = refl
not_opened w (x ∷ rest) other h =
    elim (same_or_not (same_token x w)) [
      | inl here ↦ absurd (let opens = other rest in let is : x ≡ w = word_is x w here in let closed : not (is_other (opening_of (x ∷ rest))) ≡ false = rw (is, opens) refl in cc)
      | inr nope ↦ nope
    ]

type_word_other : (w : Reserved) → not (is_other (opening_reserved w)) ≡ true → number_type_of w ≡ None
type_word_other word.Int h = absurd cc
type_word_other word.Long h = absurd cc
type_word_other _ h = refl

pub no_type : (ks : Kinds) → begins_expr ks ≡ true → number_type_ahead ks ≡ None
unfolding begins_expr opening_of number_type_ahead
no_type [] h = refl
no_type (k.Reserved w ∷ rest) h = type_word_other w h
no_type (k.Identifier name ∷ rest) h = refl
no_type (k.Number digits decimal long ∷ rest) h = refl
no_type (k.Symbol s ∷ rest) h = refl
