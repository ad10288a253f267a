-- How many tokens the walk passes at each kind of expression, where it passes those of the parts.
use Rattle.std.proofs.Common.{◌≡◌, ℕ, suc, ◌+◌, ◌≤◌, Bool, true, false, List, [], ◌∷◌, ◌++◌, length, map, Option, None, Some, if◌then◌else◌, refl, sym, subst, ◌∙◌, arith}
use Rattle.std.proofs.lemmas.List.{length-append}
use Rattle.sdg_base.specs.declared.operator.BinOp.{BinOp}
use Rattle.sdg_base.specs.declared.operator.UnOp.{UnOp}
use Rattle.sdg_base.specs.declared.val.Num.{Num}
use Rattle.sdg_base.specs.declared.val.Num.TheVariants as num
use Rattle.java_tree.specs.declared.tree.CallForm.TheOpen.{CallForm-F, Expr-F, Value-F}
use Rattle.java_tree.specs.declared.tree.CallForm.TheOpen as e
use Rattle.java_tree.specs.declared.types.ExprType.{ExprType}
use Rattle.java_tree.specs.declared.types.Declaration.TheVariants as declaration
use Rattle.java_tree.specs.Tokens.{Kinds, global, separated, expr_tokens, value_tokens, call_tokens}
use Rattle.java_tree.specs.Tokens as tokens
use Rattle.java_types.specs.declared.expressions.Operand.{Operand}
use Rattle.java_types.specs.declared.fits.Sort.{Sort}
use Rattle.java_types.specs.declared.methods.Shape.{Shape}
use Rattle.java_types.specs.declared.walk.Env.{Env}
use Rattle.java_types.specs.declared.walk.Given.{Given}
use Rattle.java_types.specs.declared.walk.Signature.{Signature}
use Rattle.java_types.specs.declared.walk.Walk.{Walk}
use Rattle.java_types.specs.Fits.{is_known, are_vectors_compared, sort_of}
use Rattle.java_types.specs.Methods.{method_of}
use Rattle.java_types.specs.Names.{entry_of}
use Rattle.java_types.specs.Walks.{Typing, past, opened}
use Rattle.java_types.specs.Expressions.{Reading, Argument, Calling, Argued, clash, operated, chosen, unary, cast, number, made, sized, indexed, member, passed, refused_call, sound_call, called_by, own_of, own, own_params, callee_of, of, parts, arguments, argued, all_argued, is_entry, item, conditional, binary, behind_operator, behind_type, in_parentheses, made_of, called_value, expr_step, call_step}
use Rattle.java_types.proofs.Lists.{length_map, fold_map}
use Rattle.java_types.proofs.Counting.{Stays, Passed, none, within, over, further, stays, counted, after, here, either, noted_stays, opened_stays, used_stays, called_stays, named_passes, typed_passes, before, all_pass, past_none_passes}

-- ---- rules pass no token

pub clash_stays : (s : Sort) (at : ℕ) (a b : Operand) (w : Walk) → Stays w (clash s at a b w).walk
unfolding clash
clash_stays s at a b w = either (are_vectors_compared s a.found b.found) _ _ (noted_stays true at 7 w) (after (noted_stays _ a.at 7 w) (noted_stays _ b.at 7 _))

pub operated_stays : (op : BinOp) (a b : Operand) (w : Walk) → Stays w (operated op a b w).walk
unfolding operated
operated_stays op a b w = clash_stays (sort_of op) a.at a b w

pub chosen_stays : (test a b : Operand) (w : Walk) → Stays w (chosen test a b w).walk
unfolding chosen
chosen_stays test a b w = after (noted_stays _ test.at 7 w) (clash_stays _ test.at a b _)

pub unary_stays : (op : UnOp) (a : Operand) (w : Walk) → Stays w (unary op a w).walk
unfolding unary
unary_stays op a w = noted_stays _ a.at 7 w

pub cast_stays : (to : Num) (a : Operand) (w : Walk) → Stays w (cast to a w).walk
unfolding cast
cast_stays to a w = noted_stays _ a.at 7 w

pub sized_stays : (whole : ExprType) (a : Operand) (w : Walk) → Stays w (sized whole a w).walk
unfolding sized
sized_stays whole a w = noted_stays _ a.at 7 w

pub passed_stays : (wanted : ExprType) (given : Given) (at : ℕ) (w : Walk) → Stays w (passed wanted given at w).walk
unfolding passed
passed_stays wanted given at w = noted_stays _ at 7 w

pub refused_call_stays : (s : Signature) (w : Walk) → Stays w (refused_call s w).walk
refused_call_stays s w = either (is_entry s.kind) _ _ (here w) (called_stays s.number w)

sound_call_stays : (at count : ℕ) (s : Signature) (w : Walk) → Stays w (sound_call at count s w).walk
sound_call_stays at count s w = after (after (refused_call_stays s w) (noted_stays _ at 13 _)) (noted_stays _ at 6 _)

called_by_stays : (at count : ℕ) (s : Signature) (w : Walk) → Stays w (called_by at count s w).walk
called_by_stays at count s w = choose s.is_sound _ _ (sound_call_stays at count s w) (here w)
  where
    choose : (sound : Bool) (a b : Typing) → Stays w a.walk → Stays w b.walk → Stays w (if sound then a else b).walk
    choose true a b x y = x
    choose false a b x y = y

pub own_of_stays : (at count : ℕ) (w : Walk) (s : Option Signature) → Stays w (own_of at count w s).walk
own_of_stays at count w None = noted_stays true at 3 w
own_of_stays at count w (Some s) =
    let n : Walk = record w { names = w.names ++ declaration.Method s.number ∷ [] } in
    let r = called_by_stays at count s n in
    record { at = r.at }

pub callee_of_stays : (at name_at count : ℕ) (known : Bool) (w : Walk) (s : Option Shape) → Stays w (callee_of at name_at count known w s).walk
callee_of_stays at name_at count known w None = noted_stays known name_at 3 w
callee_of_stays at name_at count known w (Some s) = noted_stays _ at 6 w

-- ---- tokens that stand for themselves

module _ {env : Env} {n : ℕ} {w v : Walk} where
  pub number_passes : (broken long : Bool) → Passed env n w v → Passed env (n + 1) w (number env broken long v).walk
  unfolding number
  number_passes broken long p = over 1 (stays p (noted_stays broken v.at 1 v))

  pub made_passes : (name : List ℕ) → Passed env n w v → Passed env (n + 1 + 2) w (made env name v).walk
  unfolding made
  made_passes name p = over 2 (stays (stays (over 1 p) (noted_stays _ (past env 1 v).at 3 _)) (noted_stays _ v.at 6 _))

  pub indexed_passes : (name : List ℕ) → Passed env n w v → Passed env (n + 1 + 1) w (indexed env name v).walk
  unfolding indexed
  indexed_passes name p = stays (over 1 (named_passes name p)) (noted_stays _ v.at 7 _)

  pub member_passes : (object name : List ℕ) → Passed env n w v → Passed env (n + 1 + 1 + 1) w (member env object name v).walk
  unfolding member
  member_passes object name p = over 1 (stays (over 1 (named_passes object p)) (noted_stays _ _ 3 _))

  pub own_passes : (name : List ℕ) (count : ℕ) → Passed env n w v → Passed env (n + 1) w (own env name count v).walk
  unfolding own
  own_passes name count p = stays (over 1 p) (own_of_stays v.at count (past env 1 v) (entry_of name env.methods))

  pub of_passes : (at : ℕ) (owner : ExprType) (name : List ℕ) (count : ℕ) → Passed env n w v → Passed env (n + 1 + 1) w (of env at owner name count v).walk
  unfolding of
  of_passes at owner name count p = stays (over 1 (over 1 p)) (callee_of_stays at (past env 1 v).at count (is_known owner) (past env 1 (past env 1 v)) (method_of owner name))

-- ---- readings that pass these tokens

abbrev pub Reads : Env → Reading → Kinds → Type 0
Reads env r ks = (negated : Bool) (w : Walk) → w.at ≤ env.limit → Passed env (length ks) w (r negated w).walk

abbrev pub ReadsArgument : Env → Argument → Kinds → Type 0
ReadsArgument env a ks = (w : Walk) → w.at ≤ env.limit → Passed env (length ks) w (a w).walk

abbrev pub ReadsCall : Env → Calling → Kinds → Type 0
ReadsCall env c ks = (w : Walk) → w.at ≤ env.limit → Passed env (length ks) w (c w).walk

pub global_length : (is_global : Bool) → length (global is_global) ≡ (if is_global then 2 else 0)
global_length true = refl
global_length false = refl

pub number_type_length : (to : Num) → length (tokens.number_type to) ≡ 1
number_type_length num.Int = refl
number_type_length num.Long = refl

module _ {env : Env} {n : ℕ} {w v : Walk} where
  pub item_passes : (name : List ℕ) (index : Reading) (ks : Kinds) → Reads env index ks → Passed env n w v → Passed env (n + 3 + length ks) w (item env name index v).walk
  item_passes name index ks reads p =
      let behind = indexed_passes name p in
      counted (stays (over 1 (further behind (reads false _ (within behind)))) (sized_stays _ _ _)) (omega arith)

-- ---- arguments

module _ {A : Type 0} (env : Env) (part : A → Argument) (of_part : A → Kinds) (each : (x : A) → ReadsArgument env (part x) (of_part x)) where
  pub argued_passes : (params : List ExprType) (a : Argued) (x : A) → a.walk.at ≤ env.limit → Passed env (suc (length (of_part x))) a.walk (argued env params a (part x)).walk
  argued_passes params a x h =
      let first = over 1 (none {env = env} a.walk h) in
      counted (stays (further first (each x _ (within first))) (passed_stays _ _ _ _)) (omega arith)

  pub arguments_pass : {n : ℕ} {w v : Walk} (params : List ExprType) (xs : List A) → Passed env n w v
      → Passed env (n + suc (suc (length (separated (map of_part xs))))) w (arguments env params (map part xs) v).walk
  arguments_pass {w = w} {v = v} params xs p =
      let first : Argued = record { count = 0; fit = true; walk = v } in
      let all = all_pass env (λ (a : Argued). a.walk) (λ a x. argued env params a (part x)) of_part (argued_passes params) xs first (within p) in
      let P : Argued → Type 0 = λ a. Passed env (length (before (map of_part xs))) v a.walk in
      let q : P (all_argued env params (map part xs) v) = subst P (sym (fold_map (argued env params) part first xs)) all in
      counted (further p (over 1 (past_none_passes (map part xs) (map of_part xs) (length_map part xs ∙ sym (length_map of_part xs)) q))) (omega arith)

  pub own_call_passes : (name : List ℕ) (xs : List A) → ReadsCall env (call_step env (e.Own name (map part xs))) (tokens.call_step (e.Own name (map of_part xs)))
  own_call_passes name xs w h =
      counted (arguments_pass (own_params env name) xs (own_passes name (length (map part xs)) (none w h))) (simp length-append (omega arith))

  pub of_call_passes : (object name : List ℕ) (xs : List A) → ReadsCall env (call_step env (e.Of object name (map part xs))) (tokens.call_step (e.Of object name (map of_part xs)))
  of_call_passes object name xs w h =
      counted (arguments_pass _ xs (of_passes w.at _ name (length (map part xs)) (named_passes object (none w h)))) (simp length-append (omega arith))

  pub of_member_call_passes : (object : List ℕ) (at : Reading) (in_brackets : Kinds) (name : List ℕ) (xs : List A) → Reads env at in_brackets
      → ReadsCall env (call_step env (e.OfMember object at name (map part xs))) (tokens.call_step (e.OfMember object in_brackets name (map of_part xs)))
  of_member_call_passes object at in_brackets name xs reads w h =
      counted (arguments_pass _ xs (of_passes w.at _ name (length (map part xs)) (item_passes object at in_brackets reads (none w h)))) (simp length-append (omega arith))

-- ---- each kind of expression

module _ {env : Env} where
  pub conditional_passes : (test first second : Reading) (a b c : Kinds) → Reads env test a → Reads env first b → Reads env second c → (w : Walk) → w.at ≤ env.limit
      → Passed env (length a + 1 + length b + 1 + length c) w (conditional env test first second w).walk
  conditional_passes test first second a b c t f s w h =
      let p = over 1 (t false w h) in
      let q = over 1 (further p (f false _ (within p))) in
      stays (further q (s false _ (within q))) (chosen_stays _ _ _ _)

  pub binary_passes : (op : BinOp) (left right : Reading) (a b : Kinds) → Reads env left a → Reads env right b → (w : Walk) → w.at ≤ env.limit
      → Passed env (length a + 1 + length b) w (binary env op left right w).walk
  binary_passes op left right a b l r w h =
      let p = over 1 (l false w h) in
      stays (further p (r false _ (within p))) (operated_stays op _ _ _)

  pub behind_operator_passes : (op : UnOp) (part : Reading) (a : Kinds) → Reads env part a → (w : Walk) → w.at ≤ env.limit → Passed env (suc (length a)) w (behind_operator env op part w).walk
  behind_operator_passes op part a r w h = let p = over 1 (none w h) in counted (stays (further p (r _ _ (within p))) (unary_stays op _ _)) (omega arith)

  pub behind_type_passes : (to : Num) (part : Reading) (a : Kinds) → Reads env part a → (w : Walk) → w.at ≤ env.limit → Passed env (3 + length a) w (behind_type env to part w).walk
  behind_type_passes to part a r w h = let p = over 3 (none w h) in counted (stays (further p (r false _ (within p))) (cast_stays to _ _)) (omega arith)

  pub in_parentheses_passes : (part : Reading) (a : Kinds) → Reads env part a → (w : Walk) → w.at ≤ env.limit → Passed env (2 + length a) w (in_parentheses env part w).walk
  in_parentheses_passes part a r w h = let p = over 1 (none w h) in counted (over 1 (further p (r false _ (within p)))) (omega arith)

  pub made_of_passes : (name : List ℕ) (size : Reading) (a : Kinds) → Reads env size a → (w : Walk) → w.at ≤ env.limit → Passed env (4 + length a) w (made_of env name size w).walk
  made_of_passes name size a r w h =
      let p = made_passes name (none w h) in
      counted (stays (over 1 (further p (r false _ (within p)))) (sized_stays _ _ _)) (omega arith)

  pub called_value_passes : (call : Calling) (a : Kinds) → ReadsCall env call a → (w : Walk) → w.at ≤ env.limit → Passed env (length a) w (called_value call w).walk
  called_value_passes call a r w h = stays (r w h) (used_stays w.at (call w))

  -- The type of an expression stands in its place, and passes no token.
  pub layer_passes : (layer : Expr-F Calling Reading Argument) (ks : Kinds)
      → ((negated : Bool) (w : Walk) → w.at ≤ env.limit → Passed env (length ks) w (parts env layer negated w).walk) → Reads env (expr_step env layer) ks
  layer_passes layer ks each negated w h =
      let s = opened_stays w in
      typed_passes _ (each negated (opened w) (omega (arith, s.at)))
