-- Calls of the methods of what stands before a dot go where their arguments go.
use Rattle.std.proofs.Common.{ℕ, Bool, true, false, List, length, map, Option, Some, None, if◌then◌else◌, codes, refl}
use Rattle.std.specs.Str.{bytes_eq}
use Rattle.sdg_base.specs.Signatures.{state_method, vector_method}
use Rattle.java_tree.specs.declared.types.ValueType.TheVariants.{Int}
use Rattle.java_tree.specs.declared.types.ExprType.{ExprType}
use Rattle.java_tree.specs.declared.types.ExprType.TheVariants.{Value}
use Rattle.java_tree.specs.declared.types.Declaration.{Declaration}
use Rattle.java_tree.specs.declared.types.Declaration.TheVariants as declaration
use Rattle.java_types.specs.declared.methods.Shape.{Shape}
use Rattle.java_types.specs.declared.walk.Env.{Env}
use Rattle.java_types.specs.declared.walk.Walk.{Walk}
use Rattle.java_types.specs.Fits.{is_known}
use Rattle.java_types.specs.Methods.{method_of}
use Rattle.java_types.specs.Walks.{past, named}
use Rattle.java_types.specs.Expressions.{Reading, Argument, callee_of, of, arguments, call_of, item}
use Rattle.access_blocks.specs.declared.body.Choice.{Choice}
use Rattle.access_blocks.specs.declared.body.Expression.{Expression}
use Rattle.access_blocks.specs.declared.body.Expression.TheVariants as x
use Rattle.access_blocks.specs.declared.resolved.Invoked.{Invoked}
use Rattle.access_blocks.specs.declared.resolved.Invoked.TheVariants as invoked
use Rattle.access_blocks.specs.declared.scope.Scope.{Scope}
use Rattle.access_blocks.specs.Cursors.{Cursor, name_here, behind_name, behind_site, site_here, variable_of}
use Rattle.access_blocks.specs.Resolving.{Resolving, taken}
use Rattle.access_blocks.specs.Resolving as resolving
use Rattle.state_classes.specs.declared.method.Method.{Method}
use Rattle.state_classes.specs.Methods.{method_named}
use Rattle.accepted_classes.proofs.Calls.{Calls, CallsAll, nothing_calls, size_calls, element_calls, gathered_size_calls, gathered_element_calls, argument_calls, taken_calls}
use Rattle.accepted_classes.proofs.Steps.{unchanged, further, IsKnown, IsCall, IsAcyclic, Still, here, after, noted_still, not_noted, past_still, past_if_still, past_none_still, some_left, IsRead, Told, Goes, unread, before, behind, in_turn, name_first, named_goes}
use Rattle.accepted_classes.proofs.Steps as steps
use Rattle.accepted_classes.proofs.Expressions.{TellsCall, ReadsPart, ReadsArgument, item_goes}
use Rattle.accepted_classes.proofs.Arguments.{arguments_go}

callee_still : (at name_at count : ℕ) (known : Bool) (w : Walk) (s : Option Shape) → Still w (callee_of at name_at count known w s).walk
callee_still at name_at count known w None = noted_still known name_at 3 w
callee_still at name_at count known w (Some s) = noted_still _ at 6 w

of_still : (env : Env) (at : ℕ) (owner : ExprType) (name : List ℕ) (count : ℕ) (w : Walk) → Still w (of env at owner name count w).walk
unfolding of
of_still env at owner name count w =
    after (past_still env 1 w) (after (past_still env 1 _) (callee_still at (past env 1 w).at count (is_known owner) (past env 1 (past env 1 w)) (method_of owner name)))

module _ (P : ℕ → Type 0) where
  invoked_either : (b : Bool) (i j : Invoked) → TellsCall P i → TellsCall P j → TellsCall P (if b then i else j)
  invoked_either true i j h k = h
  invoked_either false i j h k = k

  vector_tells : (v : ℕ) (name : List ℕ) (args : List Expression) → CallsAll P args → TellsCall P (resolving.vector_call v name args)
  vector_tells v name args all =
      let first = resolving.argument args 0 in
      let none = invoked.Value x.Nothing in
      let sets = invoked.Sets v first (resolving.argument args 1) in
      let set = if bytes_eq name (codes "set") then sets else none in
      let got = invoked.Value (x.VectorElement v first) in
      let get = if bytes_eq name (codes "get") then got else set in
      invoked_either (bytes_eq name (codes "size")) (invoked.Value (x.VectorSize v)) get (size_calls P v)
      (invoked_either (bytes_eq name (codes "get")) got set (element_calls P v first (argument_calls P args 0 all))
      (invoked_either (bytes_eq name (codes "set")) sets none (argument_calls P args 0 all, argument_calls P args 1 all) (nothing_calls P)))

  member_tells : (at : Expression) (name : List ℕ) (args : List Expression) → Calls P at → CallsAll P args → TellsCall P (resolving.member_call at name args)
  member_tells at name args here all =
      let first = resolving.argument args 0 in
      let none = invoked.Value x.Nothing in
      let got = invoked.Value (x.GatheredElement at first) in
      let get = if bytes_eq name (codes "get") then got else none in
      invoked_either (bytes_eq name (codes "size")) (invoked.Value (x.GatheredSize at)) get (gathered_size_calls P at here)
      (invoked_either (bytes_eq name (codes "get")) got none (gathered_element_calls P at first here (argument_calls P args 0 all)) (nothing_calls P))

  accessed_tells : (field : ℕ) (how : Choice) (m : Option Method) (args : List Expression) → CallsAll P args → TellsCall P (resolving.accessed field how m args)
  accessed_tells field how None args all = nothing_calls P
  accessed_tells field how (Some m) args all = all

module _ {Arg : Type 0} (P : ℕ → Type 0) (env : Env) (scope : Scope) (pass : Arg → Argument) (reads : Arg → Resolving) (each : (x : Arg) → ReadsArgument P env (pass x) (reads x)) where
  vector_goes : (v : Cursor → ℕ) (name : List ℕ) (params : List ExprType) (args : List Arg) (w : Walk)
      → Goes P env w (arguments env params (map pass args) w).walk (λ c. resolving.vector_step (v c) name (map reads args) c) (TellsCall P)
  vector_goes v name params args w =
      steps.made P (TellsCall P) (λ c. c) (λ c out. resolving.vector_call (v c) name out) (λ c. refl) (λ c. unchanged _) (λ c out all. vector_tells P (v c) name out all)
      (arguments_go P env pass reads each params (resolving.params_by (vector_method name)) args w)

  of_goes_by : (name : List ℕ) (params : List ExprType) (args : List Arg) (w : Walk) (d : Declaration)
      → Goes P env w (arguments env params (map pass args) w).walk (resolving.of_step scope name (map reads args) (Some d)) (TellsCall P)
  of_goes_by name params args w (declaration.Field field) =
      steps.made P (TellsCall P) behind_site (λ c out. resolving.accessed field (resolving.chosen c (site_here c)) (method_named (resolving.class_at scope field) name) out) (λ c. refl) (λ c. unchanged _)
      (λ c out all. accessed_tells P field (resolving.chosen c (site_here c)) (method_named (resolving.class_at scope field) name) out all)
      (arguments_go P env pass reads each params (resolving.params_by (state_method (resolving.class_at scope field) name)) args w)
  of_goes_by name params args w (declaration.Method m) = vector_goes (λ c. variable_of c (Some (declaration.Method m))) name params args w
  of_goes_by name params args w (declaration.Parameter m) = vector_goes (λ c. variable_of c (Some (declaration.Parameter m))) name params args w
  of_goes_by name params args w (declaration.Local m) = vector_goes (λ c. variable_of c (Some (declaration.Local m))) name params args w

  -- a call behind the name of an object
  pub of_goes : (object name : List ℕ) (args : List Arg) (w : Walk)
      → Goes P env w (call_of env w.at (named env object w) name (map pass args)).walk (λ c. resolving.of_step scope name (map reads args) (name_here c) (behind_name c)) (TellsCall P)
  of_goes object name args w =
      let t = named env object w in
      named_goes P object (resolving.of_step scope name (map reads args)) (TellsCall P)
      (λ d. before P (of_still env w.at t.found name (length (map pass args)) t.walk) (of_goes_by name _ args (of env w.at t.found name (length (map pass args)) t.walk).walk d))

  -- a call of a method of a member of a collection
  pub of_member_goes : (object : List ℕ) (at : Reading) (s : Resolving) → ReadsPart P env at s → (name : List ℕ) (args : List Arg) (w : Walk)
      → Goes P env w (call_of env w.at (item env object at w) name (map pass args)).walk (λ c. resolving.member_step s name (map reads args) (behind_name c)) (TellsCall P)
  of_member_goes object at s p name args w =
      let t = item env object at w in
      in_turn P (TellsCall P) (λ c. c) (λ c i out. resolving.member_call (taken (Value Int) i) name out) (λ c. refl) (λ c. unchanged _)
      (λ c i out here all. member_tells P (taken (Value Int) i) name out (taken_calls P (Value Int) i here) all)
      (item_goes P env object at s p w)
      (before P (of_still env w.at t.found name (length (map pass args)) t.walk)
      (arguments_go P env pass reads each _ (resolving.params_by (vector_method name)) args (of env w.at t.found name (length (map pass args)) t.walk).walk))
