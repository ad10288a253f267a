-- Each kind of expression goes where its parts go: the walk adds the calls of the methods that are read.
use Rattle.std.proofs.Common.{ℕ, Bool, true, false, List, length, Option, if◌then◌else◌, refl}
use Rattle.sdg_base.specs.declared.operator.BinOp.{BinOp}
use Rattle.sdg_base.specs.declared.operator.UnOp.{UnOp}
use Rattle.sdg_base.specs.declared.val.Num.{Num}
use Rattle.java_tree.specs.declared.types.ValueType.TheVariants.{Int}
use Rattle.java_tree.specs.declared.types.ExprType.{ExprType}
use Rattle.java_tree.specs.declared.types.ExprType.TheVariants.{Value}
use Rattle.java_tree.specs.declared.types.Declaration.{Declaration}
use Rattle.java_types.specs.declared.expressions.Operand.{Operand}
use Rattle.java_types.specs.declared.fits.Sort.{Sort}
use Rattle.java_types.specs.declared.walk.Env.{Env}
use Rattle.java_types.specs.declared.walk.Walk.{Walk}
use Rattle.java_types.specs.Fits.{are_vectors_compared, sort_of}
use Rattle.java_types.specs.Walks.{Tested, Typing, past, named, opened}
use Rattle.java_types.specs.Expressions.{Reading, Argument, Calling, clash, operated, chosen, unary, cast, number, made, sized, indexed, member, conditional, binary, behind_operator, behind_type, in_parentheses, made_of, item, called_value, typed}
use Rattle.access_blocks.specs.declared.body.Expression.{Expression}
use Rattle.access_blocks.specs.declared.body.Expression.TheVariants as x
use Rattle.access_blocks.specs.declared.resolved.Invoked.{Invoked}
use Rattle.access_blocks.specs.declared.resolved.Invoked.TheVariants as invoked
use Rattle.access_blocks.specs.declared.resolved.Resolved.{Resolved}
use Rattle.access_blocks.specs.Cursors.{Cursor, Read, read, name_here, behind_name, type_here, variable_of}
use Rattle.access_blocks.specs.Cursors as cursors
use Rattle.access_blocks.specs.Resolving.{Resolving, resolved, taken}
use Rattle.access_blocks.specs.Resolving as resolving
use Rattle.accepted_classes.proofs.Calls.{Calls, CallsAll, nothing_calls, int_calls, long_calls, bool_calls, variable_calls, conditional_calls, new_calls, length_calls, gathered_calls, taken_calls, operated_calls, negated_calls}
use Rattle.accepted_classes.proofs.Steps.{unchanged, Still, here, after, noted_still, past_still, past_if_still, opened_still, closed_still, used_still, still_either, Goes, unread, before, behind, in_turn, named_goes}
use Rattle.accepted_classes.proofs.Steps as steps

-- ---- rules add no name and no call

pub tested_either : {w : Walk} (b : Bool) (x y : Tested) → Still w x.walk → Still w y.walk → Still w (if b then x else y).walk
tested_either true x y s t = s
tested_either false x y s t = t

clash_still : (s : Sort) (at : ℕ) (a b : Operand) (w : Walk) → Still w (clash s at a b w).walk
unfolding clash
clash_still s at a b w = tested_either (are_vectors_compared s a.found b.found) _ _ (noted_still true at 7 w) (after (noted_still _ a.at 7 w) (noted_still _ b.at 7 _))

pub operated_still : (op : BinOp) (a b : Operand) (w : Walk) → Still w (operated op a b w).walk
unfolding operated
operated_still op a b w = clash_still (sort_of op) a.at a b w

chosen_still : (test a b : Operand) (w : Walk) → Still w (chosen test a b w).walk
unfolding chosen
chosen_still test a b w = after (noted_still _ test.at 7 w) (clash_still _ test.at a b _)

unary_still : (op : UnOp) (a : Operand) (w : Walk) → Still w (unary op a w).walk
unfolding unary
unary_still op a w = noted_still _ a.at 7 w

cast_still : (to : Num) (a : Operand) (w : Walk) → Still w (cast to a w).walk
unfolding cast
cast_still to a w = noted_still _ a.at 7 w

sized_still : (whole : ExprType) (a : Operand) (w : Walk) → Still w (sized whole a w).walk
unfolding sized
sized_still whole a w = noted_still _ a.at 7 w

number_still : (env : Env) (broken long : Bool) (w : Walk) → Still w (number env broken long w).walk
unfolding number
number_still env broken long w = after (noted_still broken w.at 1 w) (past_still env 1 _)

made_still : (env : Env) (name : List ℕ) (w : Walk) → Still w (made env name w).walk
unfolding made
made_still env name w = after (past_still env 1 w) (after (noted_still _ (past env 1 w).at 3 _) (after (noted_still _ w.at 6 _) (past_still env 2 _)))

indexed_still : (env : Env) (name : List ℕ) (w : Walk) → Still (named env name w).walk (indexed env name w).walk
unfolding indexed
indexed_still env name w = after (past_still env 1 _) (noted_still _ w.at 7 _)

member_still : (env : Env) (object name : List ℕ) (w : Walk) → Still (named env object w).walk (member env object name w).walk
unfolding member
member_still env object name w = after (past_still env 1 _) (after (noted_still _ _ 3 _) (past_still env 1 _))

-- ---- what is read tells which methods are called

module _ (P : ℕ → Type 0) where
  abbrev pub Tells : Resolved → Type 0
  Tells r = Calls P r.expression

  abbrev pub TellsCall : Invoked → Type 0
  TellsCall (invoked.Value a) = Calls P a
  TellsCall (invoked.Sets v at a) = Calls P at × Calls P a
  TellsCall (invoked.Accesses a) = CallsAll P a.args

  literal_calls : (digits : ℕ) (long : Bool) → Calls P (resolving.literal digits long)
  literal_calls digits true = long_calls P _
  literal_calls digits false = int_calls P _

  expression_tells : (i : Invoked) → TellsCall i → Calls P (resolving.expression_in i)
  expression_tells (invoked.Value a) h = h
  expression_tells (invoked.Sets v at a) h = nothing_calls P
  expression_tells (invoked.Accesses a) h = nothing_calls P

module _ (P : ℕ → Type 0) (env : Env) where
  abbrev pub ReadsPart : Reading → Resolving → Type 0
  ReadsPart part s = (negated : Bool) (w : Walk) → Goes P env w (part negated w).walk s (Tells P)

  abbrev pub ReadsArgument : Argument → Resolving → Type 0
  ReadsArgument part s = (w : Walk) → Goes P env w (part w).walk s (Tells P)

  abbrev pub ReadsCall : Calling → resolving.Calling → Type 0
  ReadsCall call s = (w : Walk) → Goes P env w (call w).walk s (TellsCall P)

  -- a reading of a whole, whose type comes first
  abbrev pub Typed : Walk → Walk → (ExprType → Resolving) → Type 0
  Typed w v reading = Goes P env w v (λ c. reading (type_here c) (cursors.behind_type c)) (Tells P)

  from_goes : {w v : Walk} (s : Resolving) (f : Resolved → Expression) → ((r : Resolved) → (Tells P) r → Calls P (f r)) → Goes P env w v s (Tells P) → Typed w v (resolving.from s f)
  from_goes s f tells part = steps.made P (Tells P) cursors.behind_type (λ c r. resolved (f r) (type_here c)) (λ c. refl) (λ c. unchanged _) (λ c r h. tells r h) part

  -- a name, of which nothing is told
  pub one_name : (name : List ℕ) (w : Walk) → Goes P env w (named env name w).walk (λ c. read tt (behind_name c)) (λ (u : Unit {0}). Unit {0})
  one_name name w =
      named_goes P name (λ (o : Option Declaration) c. read tt c) (λ (u : Unit {0}). Unit {0})
      (λ d. unread P (named env name w).walk (λ c. read tt c) (λ (u : Unit {0}). Unit {0}) (λ c. refl) (λ c. unchanged _) (λ c. tt))

  pub conditional_goes : (test first second : Reading) (t a b : Resolving) → ReadsPart test t → ReadsPart first a → ReadsPart second b → (w : Walk)
      → Typed w (conditional env test first second w).walk (resolving.conditional t a b)
  conditional_goes test first second t a b p q r w =
      let w1 = (test false w).walk in
      let w2 = (first false (past env 1 w1)).walk in
      behind P
      (in_turn P (Tells P) cursors.behind_type (λ c (both : Resolved × Resolved) third. resolved (resolving.chosen_between (type_here c) both.0 both.1 third) (type_here c)) (λ c. refl) (λ c. unchanged _)
      (λ c both third h k. conditional_calls P both.0.expression (taken (type_here c) both.1) (taken (type_here c) third) h.0 (taken_calls P (type_here c) both.1 h.1) (taken_calls P (type_here c) third k))
      (in_turn P (λ (both : Resolved × Resolved). (Tells P) both.0 × (Tells P) both.1) (λ c. c) (λ c one two. (one, two)) (λ c. refl) (λ c. unchanged _) (λ c one two h k. (h, k))
      (p false w) (before P (past_still env 1 w1) (q false (past env 1 w1))))
      (before P (past_still env 1 w2) (r false (past env 1 w2))))
      (chosen_still _ _ _ _)

  pub binary_goes : (op : BinOp) (left right : Reading) (a b : Resolving) → ReadsPart left a → ReadsPart right b → (w : Walk) → Typed w (binary env op left right w).walk (resolving.binary op a b)
  binary_goes op left right a b p q w =
      let w1 = (left false w).walk in
      behind P
      (in_turn P (Tells P) cursors.behind_type (λ c one two. resolved (resolving.operated op one two) (type_here c)) (λ c. refl) (λ c. unchanged _)
      (λ c one two h k. operated_calls P op one two h k)
      (p false w) (before P (past_still env 1 w1) (q false (past env 1 w1))))
      (operated_still op _ _ _)

  pub unary_goes : (op : UnOp) (part : Reading) (a : Resolving) → ReadsPart part a → (w : Walk) → Typed w (behind_operator env op part w).walk (resolving.from a (resolving.negated op))
  unary_goes op part a p w =
      behind P (from_goes a (resolving.negated op) (negated_calls P op) (before P (past_still env 1 w) (p _ (past env 1 w)))) (unary_still op _ _)

  pub cast_goes : (to : Num) (part : Reading) (a : Resolving) → ReadsPart part a → (w : Walk) → Typed w (behind_type env to part w).walk (resolving.from a (taken (resolving.number_type to)))
  cast_goes to part a p w =
      behind P (from_goes a (taken (resolving.number_type to)) (taken_calls P (resolving.number_type to)) (before P (past_still env 3 w) (p false (past env 3 w)))) (cast_still to _ _)

  pub paren_goes : (part : Reading) (a : Resolving) → ReadsPart part a → (w : Walk) → Typed w (in_parentheses env part w).walk (resolving.from a (λ r. r.expression))
  paren_goes part a p w = behind P (from_goes a (λ r. r.expression) (λ r h. h) (before P (past_still env 1 w) (p false (past env 1 w)))) (past_still env 1 _)

  pub new_goes : (name : List ℕ) (part : Reading) (a : Resolving) → ReadsPart part a → (w : Walk) → Typed w (made_of env name part w).walk (resolving.from a resolving.vector_of)
  new_goes name part a p w =
      behind P
      (from_goes a resolving.vector_of (λ r h. new_calls P (taken (Value Int) r) (taken_calls P (Value Int) r h)) (before P (made_still env name w) (p false (made env name w).walk)))
      (after (past_still env 1 _) (sized_still _ _ _))

  pub number_goes : (broken decimal long : Bool) (digits : ℕ) (w : Walk) → Typed w (number env broken long w).walk (λ t c. read (resolving.number digits decimal long t) c)
  number_goes broken decimal long digits w =
      behind P (unread P w (λ c. read (resolving.number digits decimal long (type_here c)) (cursors.behind_type c)) (Tells P) (λ c. refl) (λ c. unchanged _) (λ c. literal_calls P digits long)) (number_still env broken long w)

  pub truth_goes : (b : Bool) (w : Walk) → Typed w (past env 1 w) (λ t c. read (resolved (x.Bool b) t) c)
  truth_goes b w = behind P (unread P w (λ c. read (resolved (x.Bool b) (type_here c)) (cursors.behind_type c)) (Tells P) (λ c. refl) (λ c. unchanged _) (λ c. bool_calls P b)) (past_still env 1 w)

  pub name_goes : (name : List ℕ) (w : Walk) → Typed w (named env name w).walk (λ t c. read (resolved (x.Variable (variable_of c (name_here c))) t) (behind_name c))
  name_goes name w =
      steps.made P (Tells P) cursors.behind_type (λ c u. resolved (x.Variable (variable_of (cursors.behind_type c) (name_here (cursors.behind_type c)))) (type_here c)) (λ c. refl) (λ c. unchanged _)
      (λ c u h. variable_calls P _) (one_name name w)

  pub length_goes : (object name : List ℕ) (w : Walk) → Typed w (member env object name w).walk (λ t c. read (resolved x.GatheredLength t) (behind_name c))
  length_goes object name w =
      behind P
      (steps.made P (Tells P) cursors.behind_type (λ c u. resolved x.GatheredLength (type_here c)) (λ c. refl) (λ c. unchanged _) (λ c u h. length_calls P) (one_name object w))
      (member_still env object name w)

  -- an element of a collection
  pub item_goes : (name : List ℕ) (part : Reading) (a : Resolving) → ReadsPart part a → (w : Walk) → Goes P env w (item env name part w).walk (λ c. a (behind_name c)) (Tells P)
  item_goes name part a p w =
      behind P
      (in_turn P (Tells P) (λ c. c) (λ c (u : Unit {0}) r. r) (λ c. refl) (λ c. unchanged _) (λ c u r h k. k)
      (one_name name w) (before P (indexed_still env name w) (p false (indexed env name w).walk)))
      (after (past_still env 1 _) (sized_still _ _ _))

  pub index_goes : (name : List ℕ) (part : Reading) (a : Resolving) → ReadsPart part a → (w : Walk) → Typed w (item env name part w).walk (λ t c. resolving.from a resolving.gathered_at t (behind_name c))
  index_goes name part a p w =
      steps.made P (Tells P) cursors.behind_type (λ c r. resolved (resolving.gathered_at r) (type_here c)) (λ c. refl) (λ c. unchanged _)
      (λ c r h. gathered_calls P (taken (Value Int) r) (taken_calls P (Value Int) r h)) (item_goes name part a p w)

  pub call_goes : (call : Calling) (s : resolving.Calling) → ReadsCall call s → (w : Walk) → Typed w (called_value call w).walk (λ t c. read (resolved (resolving.expression_in (s c).it) t) (s c).cursor)
  call_goes call s p w =
      behind P
      (steps.made P (Tells P) cursors.behind_type (λ c i. resolved (resolving.expression_in i) (type_here c)) (λ c. refl) (λ c. unchanged _) (λ c i h. expression_tells P i h) (p w))
      (used_still w.at (call w))

  -- the type of an expression stands before those of its parts
  pub typed_goes : (w : Walk) (t : Typing) (reading : ExprType → Resolving) → Typed (opened w) t.walk reading → Typed w (typed w t).walk reading
  typed_goes w t reading part = before P (opened_still w) (behind P part (closed_still (length w.types) t.found t.walk))
