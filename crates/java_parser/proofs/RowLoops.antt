-- Rows and what goes on behind an operand, as the loops read them.
use Rattle.std.proofs.Common.{◌≡◌, ℕ, zero, suc, ◌-◌, ◌+◌, ◌≤◌, ◌<◌, true, false, nat_lt, List, length, Some, None, Ok, Err, refl, sym, ap, subst, ◌∙◌, arith}
use Rattle.std.proofs.lemmas.List.{length-map}
use Rattle.std.proofs.lemmas.Bool.Decides.{nat_tests}
use Rattle.sdg_base.specs.declared.operator.BinOp.{BinOp}
use Rattle.java_tree.specs.declared.token.Token.{Token}
use Rattle.java_tree.specs.declared.tree.Expr.{Expr}
use Rattle.java_tree.specs.declared.tree.Expr.TheVariants as expr
use Rattle.java_tree.specs.Tokens.{Kinds}
use Rattle.java_tree.specs.Heights.{expr_height}
use Rattle.java_parser.specs.declared.error.Refusal.{Refusal}
use Rattle.java_parser.specs.declared.error.Refusal.TheVariants as refusal
use Rattle.java_parser.specs.Words.{◌>>=◌, Reading, Fails, kinds}
use Rattle.java_parser.specs.Words.Fault.{NoClass, TooDeep}
use Rattle.java_parser.specs.Expressions.{operator_at, tail, row_from, row_in, looser_in, extended_in}
use Rattle.java_parser.proofs.Steps.{goes_on, fails}

module _ (deeper : ℕ → Kinds → Reading Expr) (levels looseness : ℕ) where
  abbrev going_on : ℕ → Expr → Kinds → Reading Expr
  going_on turns left rest = row_from deeper levels looseness turns left rest

  pub row_start : (first : Expr) (tokens : List Token) → going_on (length tokens - 0) first (kinds tokens) ≡ row_in deeper levels looseness first (kinds tokens)
  unfolding row_in
  row_start first tokens =
      let k : length tokens - 0 ≡ length (kinds tokens) = omega (arith, length-map tokens (λ t. t.kind)) in
      ap (λ n. going_on n first (kinds tokens)) k

  pub row_done : (n i : ℕ) (left : Expr) (rest : Kinds) (whole : Reading Expr) → i < n → operator_at (10 - looseness) rest ≡ None → going_on (n - i) left rest ≡ whole → whole ≡ Ok (left, rest)
  unfolding row_from
  row_done n i left rest whole lt none so_far =
      let k : n - i ≡ suc (n - (i + 1)) = omega arith in
      let one : going_on (n - i) left rest ≡ Ok (left, rest) = rw (k, none) refl in
      sym so_far ∙ one

  pub row_deep : (n i : ℕ) (left : Expr) (rest : List Token) (op : BinOp) (whole : Reading Expr) → i < n → operator_at (10 - looseness) (kinds rest) ≡ Some op → levels < expr_height left
      → going_on (n - i) left (kinds rest) ≡ whole → whole ≡ Err (TooDeep (length rest))
  unfolding row_from
  row_deep n i left rest op whole lt some deep so_far =
      let k : n - i ≡ suc (n - (i + 1)) = omega arith in
      let over : nat_lt levels (expr_height left) ≡ true = grind (arith, nat_tests) in
      let one : going_on (n - i) left (kinds rest) ≡ Err (TooDeep (length rest)) = rw (k, some, over) (ap (λ left. Err (TooDeep left)) (length-map rest (λ t. t.kind))) in
      sym so_far ∙ one

  row_one : (n i : ℕ) (left : Expr) (rest : Kinds) (op : BinOp) → i < n → operator_at (10 - looseness) rest ≡ Some op → expr_height left ≤ levels
      → going_on (n - i) left rest ≡ (deeper looseness (tail rest) >>= λ right. going_on (n - (i + 1)) (expr.Binary op left right.0) right.1)
  unfolding row_from
  row_one n i left rest op lt some low =
      let k : n - i ≡ suc (n - (i + 1)) = omega arith in
      let under : nat_lt levels (expr_height left) ≡ false = grind (arith, nat_tests) in
      rw (k, some, under) refl

  pub row_next : (n i : ℕ) (left : Expr) (rest : Kinds) (op : BinOp) (right : Expr) (behind : Kinds) (whole : Reading Expr) → i < n → operator_at (10 - looseness) rest ≡ Some op → expr_height left ≤ levels
      → deeper looseness (tail rest) ≡ Ok (right, behind) → going_on (n - i) left rest ≡ whole → going_on (n - (i + 1)) (expr.Binary op left right) behind ≡ whole
  row_next n i left rest op right behind whole lt some low here so_far =
      goes_on (deeper looseness (tail rest)) (right, behind) (λ x. going_on (n - (i + 1)) (expr.Binary op left x.0) x.1) _ whole (row_one n i left rest op lt some low) here so_far

  pub row_fails : (e : Refusal) (n i : ℕ) (left : Expr) (rest : Kinds) (op : BinOp) (whole : Reading Expr) → i < n → operator_at (10 - looseness) rest ≡ Some op → expr_height left ≤ levels
      → Fails e (deeper looseness (tail rest)) → going_on (n - i) left rest ≡ whole → Fails e whole
  row_fails e n i left rest op whole lt some low here so_far =
      fails e (deeper looseness (tail rest)) (λ x. going_on (n - (i + 1)) (expr.Binary op left x.0) x.1) _ whole (row_one n i left rest op lt some low) here so_far

  pub row_out : (n i : ℕ) (left : Expr) (rest : List Token) (whole : Reading Expr) → n ≤ i → going_on (n - i) left (kinds rest) ≡ whole → whole ≡ Err (NoClass (length rest))
  unfolding row_from
  row_out n i left rest whole le so_far =
      let k : n - i ≡ 0 = omega arith in
      let one : going_on (n - i) left (kinds rest) ≡ Err (NoClass (length rest)) = rw k (ap (λ left. Err (NoClass left)) (length-map rest (λ t. t.kind))) in
      sym so_far ∙ one

module _ (deeper : ℕ → Kinds → Reading Expr) (levels : ℕ) (operand : Expr) (tokens : Kinds) where
  pub extended_start : extended_in deeper levels 0 operand tokens ≡ Ok (operand, tokens)
  unfolding extended_in
  extended_start = refl

  extended_one : (i : ℕ) (x : Expr) (rest : Kinds) → extended_in deeper levels i operand tokens ≡ Ok (x, rest) → extended_in deeper levels (i + 1) operand tokens ≡ looser_in deeper levels i x rest
  unfolding extended_in
  extended_one i x rest so_far = let k : i + 1 ≡ suc i = omega arith in rw (k, so_far) refl

  pub extended_more : (i : ℕ) (x : Expr) (rest : Kinds) (y : Expr × Kinds) → extended_in deeper levels i operand tokens ≡ Ok (x, rest) → looser_in deeper levels i x rest ≡ Ok y → extended_in deeper levels (i + 1) operand tokens ≡ Ok y
  extended_more i x rest y so_far h = extended_one i x rest so_far ∙ h

  still_fails : (e : Refusal) (r : Reading Expr) (f : Expr × Kinds → Reading Expr) → Fails e r → Fails e (r >>= f)
  still_fails refusal.Memory r f h = tt
  still_fails (refusal.NoClass left) r f h = ap (λ (o : Reading Expr). o >>= f) h
  still_fails (refusal.TooDeep left) r f h = ap (λ (o : Reading Expr). o >>= f) h

  fails_later : (e : Refusal) (i more : ℕ) → Fails e (extended_in deeper levels i operand tokens) → Fails e (extended_in deeper levels (more + i) operand tokens)
  unfolding extended_in
  fails_later e i zero h = let k : 0 + i ≡ i = omega arith in rw k h
  fails_later e i (suc more) h =
      let k : suc more + i ≡ suc (more + i) = omega arith in
      rw k (still_fails e (extended_in deeper levels (more + i) operand tokens) (λ y. looser_in deeper levels (more + i) y.0 y.1) (fails_later e i more h))

  pub extended_fails : (e : Refusal) (i looseness : ℕ) (x : Expr) (rest : Kinds) → i < looseness → extended_in deeper levels i operand tokens ≡ Ok (x, rest) → Fails e (looser_in deeper levels i x rest) → Fails e (extended_in deeper levels looseness operand tokens)
  extended_fails e i looseness x rest lt so_far h =
      let P : Reading Expr → Type 0 = λ r. Fails e r in
      let Q : ℕ → Type 0 = λ m. Fails e (extended_in deeper levels m operand tokens) in
      let k : (looseness - (i + 1)) + (i + 1) ≡ looseness = omega arith in
      subst Q k (fails_later e (i + 1) (looseness - (i + 1)) (subst P (sym (extended_one i x rest so_far)) h))
