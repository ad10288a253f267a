-- How many tokens the walk passes at names, arguments and calls, where it passes those of the parts.
use Rattle.std.proofs.Common.{◌≡◌, ℕ, suc, ◌+◌, ◌≤◌, Bool, true, false, not, ◌&&◌, is_some, List, length, map, fold, Option, None, Some, if◌then◌else◌, refl, sym, subst, ◌∙◌, arith}
use Rattle.std.proofs.lemmas.List.{length-append}
use Rattle.sdg_base.specs.declared.val.Num.{Num}
use Rattle.sdg_base.specs.declared.val.Num.TheVariants as num
use Rattle.java_tree.specs.declared.tree.CallForm.TheOpen as e
use Rattle.java_tree.specs.declared.types.Declaration.{Declaration}
use Rattle.java_tree.specs.declared.types.Declaration.TheVariants as declaration
use Rattle.java_tree.specs.Tokens.{Kinds, global, separated}
use Rattle.java_tree.specs.Tokens as tokens
use Rattle.annotations.specs.declared.site.Key.{Key}
use Rattle.annotations.specs.declared.position.Position.{Position}
use Rattle.annotations.specs.declared.position.Position.TheVariants.{Inside}
use Rattle.annotations.specs.declared.walk.Env.{Env}
use Rattle.annotations.specs.declared.walk.Walk.{Walk}
use Rattle.annotations.specs.Positions.{is_for_merge}
use Rattle.annotations.specs.Walks.{past, taken, coming, noted_at, is_merge_method}
use Rattle.annotations.specs.Accesses.{globally, accessed}
use Rattle.annotations.specs.Expressions.{Reading, Argument, Calling, alone, unmerged_name, variable, is_merged, arguments, first_key, argument_position, own_head, access_head, dotted_head, head_of, call_step}
use Rattle.annotations.proofs.Lists.{length_map, fold_map}
use Rattle.annotations.proofs.Counting.{Stays, Passed, none, within, over, further, stays, counted, after, here, noted_stays, noted_at_stays, unfit_stays, sited_stays, taken_passes, named_passes, before, all_pass, past_none_passes}

-- ---- rules pass no token

alone_stays : (position : Position) (g : Option ℕ) (w : Walk) → Stays w (alone position g w)
alone_stays position None w = unfit_stays position w
alone_stays position (Some at) w = here w

globally_stays : (position : Position) (g : Option ℕ) (partitioned : Bool) (w : Walk) → Stays w (globally position g partitioned w)
globally_stays position None partitioned w = here w
globally_stays position (Some at) partitioned w = after (noted_stays partitioned at 4 w) (noted_stays _ at 8 _)

accessed_stays : (env : Env) (field : ℕ) (position : Position) (g : Option ℕ) (name : List ℕ) (w : Walk) → Stays w (accessed env field position g name w)
unfolding accessed
accessed_stays env field position g name w =
    after (after (after (noted_stays _ w.at 3 w) (globally_stays position g _ _)) (noted_stays _ w.at 5 _)) (noted_stays _ w.at 6 _)

-- ---- tokens that stand for themselves

module _ {env : Env} {n : ℕ} {w v : Walk} where
  unmerged_name_passes : (position : Position) (g : Option ℕ) → Passed env n w v → Passed env (n + 1) w (unmerged_name env position g v)
  unfolding unmerged_name
  unmerged_name_passes position g p = named_passes (stays p (after (after (alone_stays position g v) (noted_at_stays g 10 _)) (noted_stays _ v.at 12 _)))

  merged_passes : Passed env n w v → Passed env (n + 1) w (record (taken env v) { awaited = None })
  merged_passes p = stays (taken_passes p) (record { at = refl })

either : {env : Env} {m : ℕ} {w : Walk} (b : Bool) (x y : Walk) → Passed env m w x → Passed env m w y → Passed env m w (if b then x else y)
either true x y p q = p
either false x y p q = q

module _ {env : Env} {n : ℕ} {w v : Walk} where
  pub variable_passes : (position : Position) (g : Option ℕ) → Passed env n w v → Passed env (n + 1) w (variable env position g v)
  unfolding variable
  variable_passes position g p = either (is_merged env position g v) _ _ (merged_passes p) (unmerged_name_passes position g p)

  pub own_head_passes : (count : ℕ) → Passed env n w v → Passed env (n + 1) w (own_head env count v)
  unfolding own_head
  own_head_passes count p = taken_passes (stays p (noted_stays _ v.at 12 v))

  access_head_passes : (field : ℕ) (position : Position) (g : Option ℕ) (name : List ℕ) (key : Walk → Key) → Passed env n w v → Passed env (n + 1 + 2) w (access_head env field position g name key v)
  unfolding access_head
  access_head_passes field position g name key p = over 2 (stays (taken_passes (stays p (accessed_stays env field position g name v))) (sited_stays field _ _))

  dotted_head_passes : (g : Option ℕ) → Passed env n w v → Passed env (n + 1 + 2) w (dotted_head env g v)
  unfolding dotted_head
  dotted_head_passes g p = over 2 (named_passes (stays p (noted_at_stays g 10 v)))

module _ {env : Env} {n : ℕ} {w v : Walk} where
  pub head_passes : (position : Position) (g : Option ℕ) (name : List ℕ) (key : Walk → Key) (d : Option Declaration) → Passed env n w v → Passed env (n + 1 + 2) w (head_of env position g name key d v)
  head_passes position g name key None p = dotted_head_passes g p
  head_passes position g name key (Some (declaration.Field f)) p = access_head_passes f position g name key p
  head_passes position g name key (Some (declaration.Method m)) p = dotted_head_passes g p
  head_passes position g name key (Some (declaration.Parameter m)) p = dotted_head_passes g p
  head_passes position g name key (Some (declaration.Local m)) p = dotted_head_passes g p

-- ---- readings that pass these tokens

abbrev pub Reads : Env → Reading → Kinds → Type 0
Reads env r ks = (position : Position) (g : Option ℕ) (w : Walk) → w.at ≤ env.limit → Passed env (length ks) w (r.walk position g w)

abbrev pub ReadsArgument : Env → Argument → Kinds → Type 0
ReadsArgument env a ks = (position : Position) (w : Walk) → w.at ≤ env.limit → Passed env (length ks) w (a.walk position w)

abbrev pub ReadsCall : Env → Calling → Kinds → Type 0
ReadsCall env c ks = (position : Position) (g : Option ℕ) (w : Walk) → w.at ≤ env.limit → Passed env (length ks) w (c position g w)

pub global_length : (is_global : Bool) → length (global is_global) ≡ (if is_global then 2 else 0)
global_length true = refl
global_length false = refl

pub number_type_length : (to : Num) → length (tokens.number_type to) ≡ 1
number_type_length num.Int = refl
number_type_length num.Long = refl

-- ---- arguments

module _ {A : Type 0} (env : Env) (part : A → Argument) (of_part : A → Kinds) (each : (x : A) → ReadsArgument env (part x) (of_part x)) where
  pub argued_passes : (position : Position) (w : Walk) (x : A) → w.at ≤ env.limit → Passed env (suc (length (of_part x))) w ((part x).walk position (past env 1 w))
  argued_passes position w x h =
      let first = over 1 (none {env = env} w h) in
      counted (further first (each x position _ (within first))) (omega arith)

  pub arguments_pass : {n : ℕ} {w v : Walk} (position : Position) (xs : List A) → Passed env n w v
      → Passed env (n + suc (suc (length (separated (map of_part xs))))) w (arguments env position (map part xs) v)
  arguments_pass {w = w} {v = v} position xs p =
      let all = all_pass env (λ (u : Walk). u) (λ u x. (part x).walk position (past env 1 u)) of_part (argued_passes position) xs v (within p) in
      let P : Walk → Type 0 = λ u. Passed env (length (before (map of_part xs))) v u in
      let q : P (fold (λ (u : Walk) (a : Argument). a.walk position (past env 1 u)) v (map part xs)) =
      subst P (sym (fold_map (λ (u : Walk) (a : Argument). a.walk position (past env 1 u)) part v xs)) all in
      counted (further p (over 1 (past_none_passes (map part xs) (map of_part xs) (length_map part xs ∙ sym (length_map of_part xs)) q))) (omega arith)

  pub own_call_passes : (name : List ℕ) (xs : List A) → ReadsCall env (call_step env (e.Own name (map part xs))) (tokens.call_step (e.Own name (map of_part xs)))
  own_call_passes name xs position g w h =
      let s = stays (none w h) (noted_at_stays g 10 w) in
      counted (arguments_pass (argument_position (is_merge_method env (coming env (noted_at g 10 w))) (noted_at g 10 w).at (is_for_merge position && not (is_some g))) xs (own_head_passes (length (map part xs)) s)) (simp length-append (omega arith))

  pub of_call_passes : (object name : List ℕ) (xs : List A) → ReadsCall env (call_step env (e.Of object name (map part xs))) (tokens.call_step (e.Of object name (map of_part xs)))
  of_call_passes object name xs position g w h =
      counted (arguments_pass Inside xs (head_passes position g name (first_key (map part xs)) (coming env w) (none w h))) (simp length-append (omega arith))

  pub of_member_call_passes : (object : List ℕ) (at : Reading) (in_brackets : Kinds) (name : List ℕ) (xs : List A) → Reads env at in_brackets
      → ReadsCall env (call_step env (e.OfMember object at name (map part xs))) (tokens.call_step (e.OfMember object in_brackets name (map of_part xs)))
  of_member_call_passes object at in_brackets name xs reads position g w h =
      let behind = over 1 (named_passes (stays (none w h) (noted_at_stays g 10 w))) in
      counted (arguments_pass Inside xs (over 3 (further behind (reads Inside None _ (within behind))))) (simp length-append (omega arith))
