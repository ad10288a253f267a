-- Calls of the methods of the class go where their arguments go, and each is one that the walk adds.
use Rattle.std.proofs.Common.{◌≡◌, ℕ, ◌<◌, Bool, true, false, not, ◌||◌, nat_eq, nat_le, List, [], ◌∷◌, ◌++◌, length, map, Option, Some, None, if◌then◌else◌, refl, sym, ap, subst, ◌∙◌, append-nil, arith}
use Rattle.std.proofs.lemmas.List.Elements.{Contains-push}
use Rattle.std.proofs.lemmas.Bool.Decides.{nat_tests}
use Rattle.java_tree.specs.declared.types.ExprType.TheVariants.{Unknown}
use Rattle.java_tree.specs.declared.types.Declaration.TheVariants as declaration
use Rattle.java_types.specs.declared.calls.Call.{Call}
use Rattle.java_types.specs.declared.walk.Env.{Env}
use Rattle.java_types.specs.declared.walk.Signature.{Signature}
use Rattle.java_types.specs.declared.walk.Walk.{Walk}
use Rattle.java_types.specs.Calls.{reaches}
use Rattle.java_types.specs.Names.{entry_of}
use Rattle.java_types.specs.Walks.{Tested, Typing, past, noted, called, call, most_methods}
use Rattle.java_types.specs.Expressions.{Argument, is_entry, refused_call, sound_call, called_by, own_of, own, params_in, own_params, arguments, own_call}
use Rattle.access_blocks.specs.declared.body.Expression.{Expression}
use Rattle.access_blocks.specs.declared.body.Expression.TheVariants as x
use Rattle.access_blocks.specs.declared.resolved.Invoked.TheVariants as invoked
use Rattle.access_blocks.specs.declared.scope.Header.{Header}
use Rattle.access_blocks.specs.declared.scope.Scope.{Scope}
use Rattle.access_blocks.specs.Cursors.{read, name_here, behind_name}
use Rattle.access_blocks.specs.Resolving.{Resolving, taken}
use Rattle.access_blocks.specs.Resolving as resolving
use Rattle.accepted_classes.proofs.Calls.{CallsAll, nothing_calls, call_calls, merge_calls}
use Rattle.accepted_classes.proofs.Steps.{unchanged, IsCall, IsAcyclic, Still, here, after, noted_still, not_noted, Told, Goes, in_turn, name_first}
use Rattle.accepted_classes.proofs.Cycles.{acyclic_push}
use Rattle.accepted_classes.proofs.Expressions.{TellsCall, ReadsArgument}
use Rattle.accepted_classes.proofs.Arguments.{arguments_go}

module _ (callee : ℕ) (w : Walk) where
  abbrev added_call : Walk
  added_call = record w { calls = w.calls ++ call w.caller callee ∷ [] }

  abbrev tested : Bool → Walk → Tested
  tested holds v = record { holds = holds; walk = v }

  abbrev called_so : Tested
  called_so = tested (reaches w.calls callee w.caller) added_call

  called_by_test : (b : Bool) → b ≡ false → (if b then tested false w else called_so) ≡ called_so
  called_by_test true e = absurd (cc)
  called_by_test false e = refl

  below : w.caller < 256 → callee < 256 → (nat_le most_methods w.caller || nat_le most_methods callee) ≡ false
  below few there = grind (arith, nat_tests)

  called_is : w.caller < 256 → callee < 256 → called callee w ≡ called_so
  unfolding called
  called_is few there = called_by_test (nat_le most_methods w.caller || nat_le most_methods callee) (below few there)

-- what a call keeps, whatever it is
record Keeps (w v : Walk) : Type 0 where
  findings : v.findings ≡ w.findings
  caller : v.caller ≡ w.caller

keeps_either : {w : Walk} (b : Bool) (x y : Tested) → Keeps w x.walk → Keeps w y.walk → Keeps w (if b then x else y).walk
keeps_either true x y h k = h
keeps_either false x y h k = k

called_keeps : (callee : ℕ) (w : Walk) → Keeps w (called callee w).walk
unfolding called
called_keeps callee w = keeps_either (nat_le most_methods w.caller || nat_le most_methods callee) _ _ (record { findings = refl; caller = refl }) (record { findings = refl; caller = refl })

refused_keeps : (s : Signature) (w : Walk) → Keeps w (refused_call s w).walk
refused_keeps s w = keeps_either (is_entry s.kind) _ _ (record { findings = refl; caller = refl }) (called_keeps s.number w)

typing_back : (b : Bool) (x y : Typing) (w : Walk) → (x.walk.findings ≡ [] → w.findings ≡ []) → (y.walk.findings ≡ [] → w.findings ≡ []) → (if b then x else y).walk.findings ≡ [] → w.findings ≡ []
typing_back true x y w h k = h
typing_back false x y w h k = k

typing_caller : (b : Bool) (x y : Typing) (n : ℕ) → x.walk.caller ≡ n → y.walk.caller ≡ n → (if b then x else y).walk.caller ≡ n
typing_caller true x y n h k = h
typing_caller false x y n h k = k

module _ (P : ℕ → Type 0) (env : Env) (at count : ℕ) (s : Signature) (w : Walk) where
  abbrev told_walk : Walk
  told_walk = (sound_call at count s w).walk

  abbrev miscounted : Bool
  miscounted = not (nat_eq (length s.params) count)

  sound_still : Still (refused_call s w).walk told_walk
  sound_still = after (noted_still (refused_call s w).holds at 13 (refused_call s w).walk) (noted_still miscounted at 6 (noted (refused_call s w).holds at 13 (refused_call s w).walk))

  sound_back : told_walk.findings ≡ [] → w.findings ≡ []
  sound_back q = sym (refused_keeps s w).findings ∙ sound_still.back q

  refused_by : (b : Bool) → (if b then tested s.number w true w else called s.number w).holds ≡ false → (if b then tested s.number w true w else called s.number w) ≡ called s.number w
  refused_by true e = absurd (cc)
  refused_by false e = refl

  not_refused : told_walk.findings ≡ [] → (refused_call s w).holds ≡ false
  not_refused q =
      not_noted (refused_call s w).holds at 13 (refused_call s w).walk ((noted_still miscounted at 6 (noted (refused_call s w).holds at 13 (refused_call s w).walk)).back q)

  -- the walk with the call, where nothing is found
  record Added : Type 0 where
    same : refused_call s w ≡ called_so s.number w
    closes : reaches w.calls s.number w.caller ≡ false

  adds : w.caller < 256 → s.number < 256 → told_walk.findings ≡ [] → Added
  adds few there q =
      let same = refused_by (is_entry s.kind) (not_refused q) ∙ called_is s.number w few there in
      record { same = same; closes = sym (ap (λ (t : Tested). t.holds) same) ∙ not_refused q }

  sound_goes : w.caller < 256 → s.number < 256 → told_walk.findings ≡ [] → Told P w told_walk (λ c. read tt c) (λ (u : Unit {0}). P s.number)
  sound_goes few there q =
      let a = adds few there q in
      let calls : told_walk.calls ≡ w.calls ++ call w.caller s.number ∷ [] = sound_still.calls ∙ ap (λ (t : Tested). t.walk.calls) a.same in
      record {
        added = [];
        names = sound_still.names ∙ (ap (λ (t : Tested). t.walk.names) a.same ∙ sym (append-nil w.names));
        more = call w.caller s.number ∷ [];
        calls = calls;
        acyclic = λ h. subst IsAcyclic (sym calls) (acyclic_push w.calls w.caller s.number h a.closes);
        reads = λ all c rest is. record {
          behind = is;
          grows = unchanged _;
          tells = all s.number (subst (λ (cs : List Call). IsCall cs w.caller s.number) (sym calls) (Contains-push w.calls (call w.caller s.number)));
        };
      }

  sound_by : (b : Bool) → b ≡ true → (if b then sound_call at count s w else (record { found = Unknown; walk = w })) ≡ sound_call at count s w
  sound_by true e = refl
  sound_by false e = absurd (cc)

  pub call_told : (name : List ℕ) → entry_of name env.methods ≡ Some s → Goes P env w (called_by at count s w).walk (λ c. read tt c) (λ (u : Unit {0}). P s.number)
  call_told name is = record {
    back = typing_back s.is_sound (sound_call at count s w) (record { found = Unknown; walk = w }) w sound_back (λ q. q);
    caller = typing_caller s.is_sound (sound_call at count s w) (record { found = Unknown; walk = w }) w.caller (sound_still.caller ∙ (refused_keeps s w).caller) refl;
    told = λ known few q.
        let same : called_by at count s w ≡ sound_call at count s w = sound_by s.is_sound (known.sound name s is) in
        subst (λ (t : Typing). Told P w t.walk (λ c. read tt c) (λ (u : Unit {0}). P s.number)) (sym same)
        (sound_goes few (known.few name s is) (subst (λ (t : Typing). t.walk.findings ≡ []) same q));
  }

own_call_tells : (P : ℕ → Type 0) (m : ℕ) (h : Option Header) (args : List Expression) → P m → CallsAll P args → TellsCall P (resolving.own_call m h args)
own_call_tells P m None args here all = nothing_calls P
own_call_tells P m (Some h) args here all = either h.is_merge
  where
    either : (b : Bool) → TellsCall P (if b then invoked.Value (x.Merge m) else invoked.Value (x.Call m args))
    either true = merge_calls P m here
    either false = call_calls P m args here all

module _ {Arg : Type 0} (P : ℕ → Type 0) (env : Env) (scope : Scope) (pass : Arg → Argument) (reads : Arg → Resolving) (each : (x : Arg) → ReadsArgument P env (pass x) (reads x)) where
  own_goes_by : (name : List ℕ) (args : List Arg) (at count : ℕ) (w : Walk) (o : Option Signature) → entry_of name env.methods ≡ o
      → Goes P env w (arguments env (params_in o) (map pass args) (own_of at count (past env 1 w) o).walk).walk (λ c. resolving.own_step scope (map reads args) (name_here c) (behind_name c)) (TellsCall P)
  unfolding past
  own_goes_by name args at count w None is =
      let n = noted_still true at 3 (past env 1 w) in
      let g = arguments_go P env pass reads each [] [] args (noted true at 3 (past env 1 w)) in
      let not : (noted true at 3 (past env 1 w)).findings ≡ [] → ⊥ = λ q. (let e : true ≡ false = not_noted true at 3 (past env 1 w) q in cc) in
      record { back = λ q. absurd (not (g.back q)); caller = g.caller ∙ n.caller; told = λ known few q. absurd (not (g.back q)) }
  own_goes_by name args at count w (Some s) is =
      let m : Walk = record (past env 1 w) { names = (past env 1 w).names ++ declaration.Method s.number ∷ [] } in
      let h = resolving.header_at scope (Some (declaration.Method s.number)) in
      name_first P (declaration.Method s.number) (resolving.own_step scope (map reads args)) (TellsCall P) (λ q. q) refl refl refl
      (in_turn P (TellsCall P) (λ c. c) (λ c (u : Unit {0}) out. resolving.own_call s.number h out) (λ c. refl) (λ c. unchanged _)
      (λ c u out here all. own_call_tells P s.number h out here all)
      (call_told P env at count s m name is)
      (arguments_go P env pass reads each (params_in (Some s)) (resolving.params_of h) args (called_by at count s m).walk))

  pub own_goes : (name : List ℕ) (args : List Arg) (w : Walk)
      → Goes P env w (own_call env name (map pass args) w).walk (λ c. resolving.own_step scope (map reads args) (name_here c) (behind_name c)) (TellsCall P)
  unfolding own own_params
  own_goes name args w = own_goes_by name args w.at (length (map pass args)) w (entry_of name env.methods) refl
