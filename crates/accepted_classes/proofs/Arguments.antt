-- Arguments go where their parts go.
use Rattle.std.proofs.Common.{◌≡◌, ℕ, ◌<◌, true, List, [], ◌∷◌, ◌++◌, length, map, fold, refl, sym, ap, subst, ◌∙◌, append_assoc}
use Rattle.std.proofs.lemmas.List.{append_cancel_left}
use Rattle.std.proofs.lemmas.List.Elements.{Contains-append_left}
use Rattle.java_tree.specs.declared.types.ExprType.{ExprType}
use Rattle.java_tree.specs.declared.types.Declaration.{Declaration}
use Rattle.java_types.specs.declared.calls.Call.{Call}
use Rattle.java_types.specs.declared.walk.Env.{Env}
use Rattle.java_types.specs.declared.walk.Given.{Given}
use Rattle.java_types.specs.declared.walk.Walk.{Walk}
use Rattle.java_types.specs.Walks.{past}
use Rattle.java_types.specs.Expressions.{Argument, Argued, passed, argued, arguments}
use Rattle.access_blocks.specs.declared.body.Expression.{Expression}
use Rattle.access_blocks.specs.Cursors.{Cursor, Read, read}
use Rattle.access_blocks.specs.Resolving.{Resolving, taken}
use Rattle.access_blocks.specs.Resolving as resolving
use Rattle.accepted_classes.proofs.Calls.{CallsAll, push_calls, taken_calls}
use Rattle.accepted_classes.proofs.Steps.{unchanged, further, IsKnown, IsCall, IsAcyclic, Still, here, after, noted_still, not_noted, past_still, past_if_still, past_none_still, some_left, IsRead, Told, Goes, unread, before, behind, in_turn, name_first, named_goes}
use Rattle.accepted_classes.proofs.Steps as steps
use Rattle.accepted_classes.proofs.Expressions.{Tells, ReadsArgument}

-- ---- readings one after another, where the second depends on what the first one read

module _ (P : ℕ → Type 0) {env : Env} where
  pub by_first : {A B : Type 0} {w u v : Walk} {first : Cursor → Read A} {second : A → Cursor → Read B} {First : A → Type 0} {Second : A → B → Type 0} (Tells : B → Type 0) (some : A)
      → ((a : A) (b : B) → First a → Second a b → Tells b)
      → Goes P env w u first First → ((a : A) → Goes P env u v (second a) (Second a))
      → Goes P env w v (λ c. second (first c).it (first c).cursor) Tells
  by_first {w = w} {u = u} {v = v} {first = first} Tells some tells one each = record {
    back = λ q. one.back ((each some).back q);
    caller = (each some).caller ∙ one.caller;
    told = λ known few q.
        let a = one.told known few ((each some).back q) in
        let few' : u.caller < 256 = subst (λ n. n < 256) (sym one.caller) few in
        let b = (each some).told known few' q in
        record {
          added = a.added ++ b.added;
          names = b.names ∙ (ap (λ (ns : List Declaration). ns ++ b.added) a.names ∙ append_assoc w.names a.added b.added);
          more = a.more ++ b.more;
          calls = b.calls ∙ (ap (λ (cs : List Call). cs ++ b.more) a.calls ∙ append_assoc w.calls a.more b.more);
          acyclic = λ h. b.acyclic (a.acyclic h);
          reads = λ all c rest is.
              let r = a.reads (λ m call. all m (subst (λ (cs : List Call). IsCall cs w.caller m) (sym b.calls) (Contains-append_left u.calls b.more _ call))) c (b.added ++ rest)
              (is ∙ append_assoc a.added b.added rest) in
              let t = (each (first c).it).told known few' q in
              let same : b.added ≡ t.added = append_cancel_left u.names b.added t.added (sym b.names ∙ t.names) in
              let s = t.reads (λ m call. all m (subst (λ (n : ℕ). IsCall v.calls n m) one.caller call)) (first c).cursor rest (r.behind ∙ ap (λ (ns : List Declaration). ns ++ rest) same) in
              record { behind = s.behind; grows = further r.grows s.grows; tells = tells _ _ r.tells s.tells };
        };
  }

-- ---- arguments

passed_still : (wanted : ExprType) (given : Given) (at : ℕ) (w : Walk) → Still w (passed wanted given at w).walk
unfolding passed
passed_still wanted given at w = noted_still _ at 7 w

module _ {Arg : Type 0} (P : ℕ → Type 0) (env : Env) (pass : Arg → Argument) (reads : Arg → Resolving) (each : (x : Arg) → ReadsArgument P env (pass x) (reads x)) where
  -- behind those that are read already
  all_goes : (params wanted : List ExprType) (xs : List Arg) (a : Argued) (read_first : List Expression)
      → Goes P env a.walk (fold (argued env params) a (map pass xs)).walk (λ c. fold (resolving.argued wanted) (read read_first c) (map reads xs)) (λ out. CallsAll P read_first → CallsAll P out)
  all_goes params wanted [] a read_first = unread P a.walk (λ c. read read_first c) (λ out. CallsAll P read_first → CallsAll P out) (λ c. refl) (λ c. unchanged _) (λ c h. h)
  all_goes params wanted (x ∷ xs) a read_first =
      let t = argued env params a (pass x) in
      by_first P {first = λ c. resolving.argued wanted (read read_first c) (reads x)} {second = λ more c. fold (resolving.argued wanted) (read more c) (map reads xs)}
      {First = λ more. CallsAll P read_first → CallsAll P more} {Second = λ more out. CallsAll P more → CallsAll P out}
      (λ out. CallsAll P read_first → CallsAll P out) [] (λ more out h k first. k (h first))
      (before P (past_still env 1 a.walk)
      (behind P
      (steps.made P (λ more. CallsAll P read_first → CallsAll P more) (λ c. c) (λ c r. read_first ++ taken (resolving.param_at wanted (length read_first)) r ∷ []) (λ c. refl) (λ c. unchanged _)
      (λ c r h first. push_calls P read_first (taken (resolving.param_at wanted (length read_first)) r) first (taken_calls P (resolving.param_at wanted (length read_first)) r h))
      (each x (past env 1 a.walk)))
      (passed_still _ _ _ _)))
      (λ more. all_goes params wanted xs t more)

  pub arguments_go : (params wanted : List ExprType) (xs : List Arg) (w : Walk)
      → Goes P env w (arguments env params (map pass xs) w).walk (resolving.arguments wanted (map reads xs)) (CallsAll P)
  arguments_go params wanted xs w =
      behind P
      (steps.made P (CallsAll P) (λ c. c) (λ c out. out) (λ c. refl) (λ c. unchanged _) (λ c out h. h tt) (all_goes params wanted xs (record { count = 0; fit = true; walk = w }) []))
      (after (past_none_still env (map pass xs) _) (past_still env 1 _))
