-- The walk of the rules on annotations only adds findings: over expressions, values and calls.
use Rattle.std.proofs.Common.{◌≡◌, ℕ, Bool, true, false, nat_eq, List, [], ◌∷◌, ◌++◌, length, map, fold, Option, None, Some, if◌then◌else◌, refl, sym, subst}
use Rattle.java_tree.specs.declared.tree.Expr.{Expr, roll-Expr}
use Rattle.java_tree.specs.declared.tree.Value.{Value, roll-Value}
use Rattle.java_tree.specs.declared.tree.CallForm.{CallForm, roll-CallForm}
use Rattle.java_tree.specs.declared.tree.CallForm.TheOpen.{CallForm-F, Expr-F, Value-F}
use Rattle.java_tree.specs.declared.tree.CallForm.TheOpen as e
use Rattle.java_tree.specs.declared.tree.CallForm.TheFolds.{fold-roll-CallForm, fold-roll-Expr, fold-roll-Value, ind-CallForm, ind-Expr, ind-Value, map-CallForm, map-Expr, map-Value}
use Rattle.java_tree.specs.declared.types.Declaration.{Declaration}
use Rattle.java_tree.specs.declared.types.Declaration.TheVariants as declaration
use Rattle.annotations.specs.declared.site.Key.{Key}
use Rattle.annotations.specs.declared.site.Reach.{Reach}
use Rattle.annotations.specs.declared.position.Position.{Position}
use Rattle.annotations.specs.declared.position.Position.TheVariants.{Inside, Merged, Whole, Statement, Gathered}
use Rattle.annotations.specs.declared.walk.Awaited.{Awaited}
use Rattle.annotations.specs.declared.walk.Env.{Env}
use Rattle.annotations.specs.declared.walk.Walk.{Walk}
use Rattle.annotations.specs.Accesses.{globally, accessed}
use Rattle.annotations.specs.Walks.{past, past_if, past_none, noted, noted_at, taken, coming, partial_at, named, unmerged, unmerged_from, unfit, unexpected, sited}
use Rattle.annotations.specs.Expressions.{Reading, Argument, Calling, inside, alone, unmerged_name, variable, is_merged, arguments, first_key, own_head, access_head, dotted_head, head_of, walk_step, expr_step, value_step, call_step, expr_of, value_of, call_of}
use Rattle.java_types.proofs.Lists.{map_map}

-- Where nothing is found behind a step, nothing was found before it.
pub record Back (w v : Walk) : Type 0 where
  pub back : v.findings ≡ [] → w.findings ≡ []

pub here : (w : Walk) → Back w w
here w = record { back = λ q. q }

pub after : {w u v : Walk} → Back w u → Back u v → Back w v
after s t = record { back = λ q. s.back (t.back q) }

some_left : {A : Type 0} (xs : List A) (x : A) → xs ++ x ∷ [] ≡ [] → ⊥
some_left [] x e = cc
some_left (y ∷ xs) x e = cc

pub noted_back : (broken : Bool) (token rule : ℕ) (w : Walk) → Back w (noted broken token rule w)
unfolding noted
noted_back true token rule w = record { back = λ q. absurd (some_left w.findings _ q) }
noted_back false token rule w = here w

-- what is not noted is not broken
pub not_noted : (broken : Bool) (token rule : ℕ) (w : Walk) → (noted broken token rule w).findings ≡ [] → broken ≡ false
unfolding noted
not_noted true token rule w q = absurd (some_left w.findings _ q)
not_noted false token rule w q = refl

pub past_back : (env : Env) (n : ℕ) (w : Walk) → Back w (past env n w)
unfolding past
past_back env n w = record { back = λ q. q }

pub past_if_back : (env : Env) (test : Bool) (n : ℕ) (w : Walk) → Back w (past_if env test n w)
past_if_back env true n w = past_back env n w
past_if_back env false n w = here w

pub past_none_back : {A : Type 0} (env : Env) (xs : List A) (w : Walk) → Back w (past_none env xs w)
past_none_back env xs w = past_if_back env (nat_eq (length xs) 0) 1 w

pub noted_at_back : (token : Option ℕ) (rule : ℕ) (w : Walk) → Back w (noted_at token rule w)
noted_at_back None rule w = here w
noted_at_back (Some token) rule w = noted_back true token rule w

unmerged_from_back : (a : Option Awaited) (w : Walk) → Back w (unmerged_from a w)
unmerged_from_back None w = here w
unmerged_from_back (Some a) w = let s = noted_back true a.token 9 w in record { back = s.back }

pub unmerged_back : (w : Walk) → Back w (unmerged w)
unfolding unmerged
unmerged_back w = unmerged_from_back w.awaited w

unfit_back : (position : Position) (w : Walk) → Back w (unfit position w)
unfit_back Inside w = here w
unfit_back (Merged call merging) w = noted_back true call 12 w
unfit_back Whole w = here w
unfit_back Statement w = here w
unfit_back Gathered w = here w

unexpected_back : (position : Position) (global : Option ℕ) (w : Walk) → Back w (unexpected position global w)
unexpected_back position global w = after (unfit_back position w) (noted_at_back global 10 _)

sited_back : (field : ℕ) (reach : Reach) (w : Walk) → Back w (sited field reach w)
unfolding sited
sited_back field reach w = record { back = λ q. q }

taken_back : (env : Env) (w : Walk) → Back w (taken env w)
unfolding taken
taken_back env w = after (record { back = λ q. q }) (past_back env 1 _)

pub named_back : (env : Env) (w : Walk) → Back w (named env w)
unfolding named
named_back env w = after (noted_at_back (partial_at w (coming env w)) 9 w) (taken_back env _)

pub fold_back : {A : Type 0} (step : Walk → A → Walk) → ((w : Walk) (x : A) → Back w (step w x)) → (xs : List A) (w : Walk) → Back w (fold step w xs)
fold_back step each [] w = here w
fold_back step each (x ∷ xs) w = after (each w x) (fold_back step each xs (step w x))

-- ---- names and accesses

alone_back : (position : Position) (g : Option ℕ) (w : Walk) → Back w (alone position g w)
alone_back position None w = unfit_back position w
alone_back position (Some at) w = here w

globally_back : (position : Position) (g : Option ℕ) (partitioned : Bool) (w : Walk) → Back w (globally position g partitioned w)
globally_back position None partitioned w = here w
globally_back position (Some at) partitioned w = after (noted_back partitioned at 4 w) (noted_back _ at 8 _)

accessed_back : (env : Env) (field : ℕ) (position : Position) (g : Option ℕ) (name : List ℕ) (w : Walk) → Back w (accessed env field position g name w)
unfolding accessed
accessed_back env field position g name w = after (noted_back _ w.at 3 w) (after (globally_back position g _ _) (after (noted_back _ w.at 5 _) (noted_back _ w.at 6 _)))

unmerged_name_back : (env : Env) (position : Position) (g : Option ℕ) (w : Walk) → Back w (unmerged_name env position g w)
unfolding unmerged_name
unmerged_name_back env position g w = after (alone_back position g w) (after (noted_at_back g 10 _) (after (noted_back _ w.at 12 _) (named_back env _)))

either_back : {w : Walk} (b : Bool) (x y : Walk) → Back w x → Back w y → Back w (if b then x else y)
either_back true x y s t = s
either_back false x y s t = t

merged_back : (env : Env) (w : Walk) → Back w (record (taken env w) { awaited = None })
merged_back env w = let s = taken_back env w in record { back = s.back }

variable_back : (env : Env) (position : Position) (g : Option ℕ) (w : Walk) → Back w (variable env position g w)
unfolding variable
variable_back env position g w = either_back (is_merged env position g w) _ _ (merged_back env w) (unmerged_name_back env position g w)

own_head_back : (env : Env) (count : ℕ) (w : Walk) → Back w (own_head env count w)
unfolding own_head
own_head_back env count w = after (noted_back _ w.at 12 w) (taken_back env _)

access_head_back : (env : Env) (field : ℕ) (position : Position) (g : Option ℕ) (name : List ℕ) (key : Walk → Key) (w : Walk) → Back w (access_head env field position g name key w)
unfolding access_head
access_head_back env field position g name key w = after (accessed_back env field position g name w) (after (taken_back env _) (after (sited_back field _ _) (past_back env 2 _)))

dotted_head_back : (env : Env) (g : Option ℕ) (w : Walk) → Back w (dotted_head env g w)
unfolding dotted_head
dotted_head_back env g w = after (noted_at_back g 10 w) (after (named_back env _) (past_back env 2 _))

head_back : (env : Env) (position : Position) (g : Option ℕ) (name : List ℕ) (key : Walk → Key) (d : Option Declaration) (w : Walk) → Back w (head_of env position g name key d w)
head_back env position g name key None w = dotted_head_back env g w
head_back env position g name key (Some (declaration.Field f)) w = access_head_back env f position g name key w
head_back env position g name key (Some (declaration.Method m)) w = dotted_head_back env g w
head_back env position g name key (Some (declaration.Parameter m)) w = dotted_head_back env g w
head_back env position g name key (Some (declaration.Local m)) w = dotted_head_back env g w

-- ---- readings

abbrev pub ReadsBack : Reading → Type 0
ReadsBack r = (position : Position) (g : Option ℕ) (w : Walk) → Back w (r.walk position g w)

abbrev pub ArgumentBack : Argument → Type 0
ArgumentBack a = (position : Position) (w : Walk) → Back w (a.walk position w)

abbrev pub CallBack : Calling → Type 0
CallBack c = (position : Position) (g : Option ℕ) (w : Walk) → Back w (c position g w)

module _ {A : Type 0} (env : Env) (part : A → Argument) (each : (x : A) → ArgumentBack (part x)) where
  all_back : (position : Position) (xs : List A) (w : Walk) → Back w (fold (λ w a. a.walk position (past env 1 w)) w (map part xs))
  all_back position [] w = here w
  all_back position (x ∷ xs) w = after (after (past_back env 1 w) (each x position (past env 1 w))) (all_back position xs _)

  arguments_back : (position : Position) (xs : List A) (w : Walk) → Back w (arguments env position (map part xs) w)
  arguments_back position xs w = after (all_back position xs w) (after (past_none_back env (map part xs) _) (past_back env 1 _))

  own_back : (name : List ℕ) (xs : List A) → CallBack (call_step env (e.Own name (map part xs)))
  own_back name xs position g w = after (noted_at_back g 10 w) (after (own_head_back env (length (map part xs)) _) (arguments_back _ xs _))

  of_back : (object name : List ℕ) (xs : List A) → CallBack (call_step env (e.Of object name (map part xs)))
  of_back object name xs position g w = after (head_back env position g name (first_key (map part xs)) (coming env w) w) (arguments_back Inside xs _)

  of_member_back : (object : List ℕ) (at : Reading) (name : List ℕ) (xs : List A) → ReadsBack at → CallBack (call_step env (e.OfMember object at name (map part xs)))
  of_member_back object at name xs reads position g w =
      after (noted_at_back g 10 w) (after (named_back env _) (after (past_back env 1 _) (after (reads Inside None _) (after (past_back env 3 _) (arguments_back Inside xs _)))))

module _ (env : Env) where
  abbrev ExpressionBack : Expr → Type 0
  ExpressionBack x = ReadsBack (expr_of env x)

  abbrev ValueBack : Value → Type 0
  ValueBack v = ArgumentBack (value_of env v)

  abbrev CalledBack : CallForm → Type 0
  CalledBack c = CallBack (call_of env c)

  abbrev Call : Type 0
  Call = (c : CallForm) × CalledBack c

  abbrev Part : Type 0
  Part = (x : Expr) × ExpressionBack x

  abbrev Arg : Type 0
  Arg = (v : Value) × ValueBack v

  abbrev walks : Expr-F CallForm Expr Value → Expr-F Calling Reading Argument
  walks = map-Expr CallForm Expr Value Calling Reading Argument (call_of env) (expr_of env) (value_of env)

  abbrev bare : Expr-F Call Part Arg → Expr-F CallForm Expr Value
  bare = map-Expr Call Part Arg CallForm Expr Value (λ c. c.0) (λ x. x.0) (λ v. v.0)

  inside_back : (x : Part) (w : Walk) → Back w (inside (expr_of env x.0) w)
  inside_back x w = x.1 Inside None w

  expr_layer : (y : Expr-F Call Part Arg) (position : Position) (g : Option ℕ) (w : Walk) → Back w (walk_step env (walks (bare y)) position g w)
  expr_layer (e.Conditional test first second) position g w =
      after (unexpected_back position g w) (after (inside_back test _) (after (past_back env 1 _) (after (inside_back first _) (after (past_back env 1 _) (inside_back second _)))))
  expr_layer (e.Binary op left right) position g w = after (unexpected_back position g w) (after (inside_back left _) (after (past_back env 1 _) (inside_back right _)))
  expr_layer (e.Unary op part) position g w = after (unexpected_back position g w) (after (past_back env 1 _) (inside_back part _))
  expr_layer (e.Cast to part) position g w = after (unexpected_back position g w) (after (past_back env 3 _) (inside_back part _))
  expr_layer (e.Number digits decimal long) position g w = after (unexpected_back position g w) (past_back env 1 _)
  expr_layer (e.Bool b) position g w = after (unexpected_back position g w) (past_back env 1 _)
  expr_layer (e.Paren inner) position g w = after (unexpected_back position g w) (after (past_back env 1 _) (after (inside_back inner _) (past_back env 1 _)))
  expr_layer (e.New name size) position g w = after (unexpected_back position g w) (after (past_back env 3 _) (after (inside_back size _) (past_back env 1 _)))
  expr_layer (e.Name name) position g w = variable_back env position g w
  expr_layer (e.Index name at) position g w = after (unexpected_back position g w) (after (named_back env _) (after (past_back env 1 _) (after (inside_back at _) (past_back env 1 _))))
  expr_layer (e.Member object name) position g w = after (unexpected_back position g w) (after (named_back env _) (past_back env 2 _))
  expr_layer (e.Call call) position g w = after (unfit_back position w) (call.1 position g _)

  expr_made : (x : Expr-F CallForm Expr Value) (y : Expr-F Call Part Arg) → bare y ≡ x → ExpressionBack (roll-Expr x)
  expr_made x y is =
      let Q : Expr-F CallForm Expr Value → Type 0 = λ x. ReadsBack (expr_step env (walks x)) in
      subst ReadsBack (sym (fold-roll-Expr Calling Reading Argument (call_step env) (expr_step env) (value_step env) x)) (subst Q is (expr_layer y))

  abbrev walks_value : Value-F CallForm Expr Value → Value-F Calling Reading Argument
  walks_value = map-Value CallForm Expr Value Calling Reading Argument (call_of env) (expr_of env) (value_of env)

  abbrev bare_value : Value-F Call Part Arg → Value-F CallForm Expr Value
  bare_value = map-Value Call Part Arg CallForm Expr Value (λ c. c.0) (λ x. x.0) (λ v. v.0)

  value_layer : (y : Value-F Call Part Arg) → ArgumentBack (value_step env (walks_value (bare_value y)))
  value_layer y position w = after (past_if_back env y.is_global 2 w) (y.expr.1 position _ _)

  value_made : (x : Value-F CallForm Expr Value) (y : Value-F Call Part Arg) → bare_value y ≡ x → ValueBack (roll-Value x)
  value_made x y is =
      let Q : Value-F CallForm Expr Value → Type 0 = λ x. ArgumentBack (value_step env (walks_value x)) in
      subst ArgumentBack (sym (fold-roll-Value Calling Reading Argument (call_step env) (expr_step env) (value_step env) x)) (subst Q is (value_layer y))

  abbrev walks_call : CallForm-F CallForm Expr Value → CallForm-F Calling Reading Argument
  walks_call = map-CallForm CallForm Expr Value Calling Reading Argument (call_of env) (expr_of env) (value_of env)

  abbrev bare_call : CallForm-F Call Part Arg → CallForm-F CallForm Expr Value
  bare_call = map-CallForm Call Part Arg CallForm Expr Value (λ c. c.0) (λ x. x.0) (λ v. v.0)

  abbrev pass : Arg → Argument
  pass v = value_of env v.0

  one_step : (Q : List Argument → Type 0) (args : List Arg) → Q (map pass args) → Q (map (value_of env) (map (λ v. v.0) args))
  one_step Q args p = subst Q (sym (map_map (value_of env) (λ (v : Arg). v.0) args)) p

  call_layer : (y : CallForm-F Call Part Arg) → CallBack (call_step env (walks_call (bare_call y)))
  call_layer (e.Own name args) = one_step (λ parts. CallBack (call_step env (e.Own name parts))) args (own_back env pass (λ v. v.1) name args)
  call_layer (e.Of object name args) = one_step (λ parts. CallBack (call_step env (e.Of object name parts))) args (of_back env pass (λ v. v.1) object name args)
  call_layer (e.OfMember object at name args) =
      one_step (λ parts. CallBack (call_step env (e.OfMember object (expr_of env at.0) name parts))) args (of_member_back env pass (λ v. v.1) object (expr_of env at.0) name args at.1)

  call_made : (x : CallForm-F CallForm Expr Value) (y : CallForm-F Call Part Arg) → bare_call y ≡ x → CalledBack (roll-CallForm x)
  call_made x y is =
      let Q : CallForm-F CallForm Expr Value → Type 0 = λ x. CallBack (call_step env (walks_call x)) in
      subst CallBack (sym (fold-roll-CallForm Calling Reading Argument (call_step env) (expr_step env) (value_step env) x)) (subst Q is (call_layer y))

  pub expression_back : (x : Expr) → ExpressionBack x
  expression_back = ind-Expr CalledBack ExpressionBack ValueBack call_made expr_made value_made

  pub value_back : (v : Value) → ValueBack v
  value_back = ind-Value CalledBack ExpressionBack ValueBack call_made expr_made value_made

  pub call_back : (c : CallForm) → CalledBack c
  call_back = ind-CallForm CalledBack ExpressionBack ValueBack call_made expr_made value_made
