use Rattle.std.proofs.Common.{ℕ, List, ◌∷◌, [], sym, subst, arith}
use Rattle.flat_code.specs.Ways.{IsIn, IsFirst}
use Rattle.live_vars.specs.Walks.{IsWalk}
use Rattle.live_vars.proofs.Lists.{in_right, none_of}
use Rattle.live_vars.proofs.Walking.{walk_starts, walk_done}
use Rattle.live_vars.proofs.walk.walk.Goals as goal

pub loop-at-init : goal.loop-at-init
loop-at-init c =
    let P : List ℕ → Type 0 = λ ks. IsWalk c.args.code.now c.args.variable c.args.sets.now.items ks in
    subst P (sym c.in_ok-work.ensures.items) (walk_starts c.args.code.now c.args.variable c.args.sets.now.items c.args.readers.now c.requires.readers c.requires.sets)

pub look_at-requires-clause-within : goal.look_at-requires-clause-within
look_at-requires-clause-within c =
    let at = c.in-Some.at in
    let P : List ℕ → Type 0 = λ ks. IsIn at ks in
    c.loop-at.invariant.within at (subst P (sym c.in-Some.ensures.items) (in_right at c.pop.new.self.items (at ∷ []) (IsFirst [])))

pub returns : goal.returns
returns c =
    let work = c.loop-at.work in
    let none = c.in_default.ensures.cases.0 in
    let long = work.ok.0 in
    walk_done c.args.code.now c.args.variable c.loop-at.sets.items work.items (none_of work.items (omega (arith, none, long))) c.loop-at.invariant
