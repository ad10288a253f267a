-- How many passes a loop may have does not matter, once there are more than turns.
use Rattle.std.proofs.Common.{◌≡◌, ◌≤◌, ◌<◌, ℕ, zero, suc, true, if◌then◌else◌, Option, Some, None, refl, ap, arith}
use Rattle.sdg_base.specs.declared.val.Val.{Val}
use Rattle.sdg_base.specs.declared.val.Val.TheVariants as val
use Rattle.access_blocks.specs.declared.body.Expression.{Expression}
use Rattle.access_blocks.specs.Expressions.{Ended, Gives, Ends, Calls, is_true, value_of}
use Rattle.access_blocks.specs.Statements.{Machine, Completion, Normal, Breaks, Continues, Returns, Halts, Completed, normal, seen_by, with_turns, with_value, spending, spent, Running, going_on, after, tested, looping, after_body, passes}
use Rattle.plain_java.proofs.Turns.{AtMost, CallsFall, value_falls}
use Rattle.plain_java.proofs.Keeping.{Keeps}

valued_same : {A : Type 0} (e : Ended A) (m : Machine) (f g : A → Machine → Completed) → AtMost m.turns e → ((a : A) (n : Machine) → n.turns ≤ m.turns → f a n ≡ g a n)
    → with_value e m f ≡ with_value e m g
valued_same (Gives a left) m f g h same = same a (with_turns left m) h.leaves
valued_same (Ends x) m f g h same = refl

spending_same : (turns : ℕ) (m : Machine) (f g : Running) → ((left : ℕ) → left < turns → f (with_turns left m) ≡ g (with_turns left m)) → spending turns m f ≡ spending turns m g
spending_same zero m f g same = refl
spending_same (suc left) m f g same = same left (omega arith)

going_on_same : (c : Completion) (m : Machine) (f g : Running) → f m ≡ g m → going_on c m f ≡ going_on c m g
going_on_same Normal m f g same = same
going_on_same Breaks m f g same = refl
going_on_same Continues m f g same = refl
going_on_same (Returns v) m f g same = refl
going_on_same (Halts h) m f g same = refl

pub after_same : (c : Completed) (f g : Running) → f c.machine ≡ g c.machine → after c f ≡ after c g
after_same c f g same = going_on_same c.completion c.machine f g same

looping_same : (c : Completion) (m : Machine) (f g : Running) → f m ≡ g m → looping c m f ≡ looping c m g
looping_same Normal m f g same = same
looping_same Breaks m f g same = refl
looping_same Continues m f g same = same
looping_same (Returns v) m f g same = refl
looping_same (Halts h) m f g same = refl

pub after_body_same : (c : Completed) (f g : Running) → f c.machine ≡ g c.machine → after_body c f ≡ after_body c g
after_body_same c f g same = looping_same c.completion c.machine f g same

module _ (calls : Calls) (fall : CallsFall calls) where
  tested_same : (test : Option Expression) (m : Machine) (f g : Val → Machine → Completed) → ((v : Val) (n : Machine) → n.turns ≤ m.turns → f v n ≡ g v n) → tested calls test m f ≡ tested calls test m g
  tested_same None m f g same = same (val.Bool true) m (omega arith)
  tested_same (Some x) m f g same = valued_same (value_of calls x (seen_by m) m.turns) m f g (value_falls calls fall x (seen_by m) m.turns) same

  module _ (test : Option Expression) (update body : Running) (update_keeps : Keeps update) (body_keeps : Keeps body) where
    abbrev next : ℕ → Running
    next most o = after (update o) (passes calls test update body most)

    abbrev pass : ℕ → Val → Machine → Completed
    pass most holds n = if is_true holds then spent n (λ left. after_body (body left) (next most)) else normal n

    pub passes_same : (k j : ℕ) (m : Machine) → m.turns < k → m.turns < j → passes calls test update body k m ≡ passes calls test update body j m
    passes_same zero j m below_k below_j = absurd (omega arith)
    passes_same (suc k) zero m below_k below_j = absurd (omega arith)
    passes_same (suc k) (suc j) m below_k below_j =
        tested_same test m (pass k) (pass j) (λ holds n less.
        ap (λ (c : Completed). if is_true holds then c else normal n)
        (spending_same n.turns n (λ left. after_body (body left) (next k)) (λ left. after_body (body left) (next j)) (λ left l.
        let once = body_keeps (with_turns left n) in
        let then_once = update_keeps (body (with_turns left n)).machine in
        after_body_same (body (with_turns left n)) (next k) (next j)
        (after_same (update (body (with_turns left n)).machine) (passes calls test update body k) (passes calls test update body j)
        (passes_same k j (update (body (with_turns left n)).machine).machine (omega (arith, once.falls, then_once.falls)) (omega (arith, once.falls, then_once.falls)))))))
