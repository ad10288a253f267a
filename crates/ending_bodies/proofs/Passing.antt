-- Declarations and statements only add findings, and leave a loop that was left before; a statement begins where it can be reached.
use Rattle.std.proofs.Common.{◌≡◌, ℕ, Bool, true, false, List, [], ◌∷◌, ◌++◌, Option, Some, None, refl, sym, subst, ◌∙◌}
use Rattle.java_tree.specs.declared.token.Place.{Place}
use Rattle.java_tree.specs.declared.tree.AssignOp.{AssignOp}
use Rattle.java_tree.specs.declared.tree.AssignOp.TheVariants as assign
use Rattle.java_tree.specs.declared.tree.Expr.{Expr}
use Rattle.java_tree.specs.declared.tree.ForInit.{ForInit}
use Rattle.java_tree.specs.declared.tree.ForInit.TheVariants as for_init
use Rattle.java_tree.specs.declared.tree.Local.{Local}
use Rattle.java_tree.specs.declared.tree.Simple.{Simple}
use Rattle.java_tree.specs.declared.tree.Simple.TheVariants as simple
use Rattle.java_tree.specs.declared.tree.Value.{Value}
use Rattle.java_flow.specs.declared.finding.Rule.TheVariants as rule
use Rattle.java_flow.specs.Points.{Point, begun, finding, found_unless}
use Rattle.java_flow.specs.Simples.{initialised, local_walk, target, simple_walk, simples_from, simples_walk}
use Rattle.java_flow.specs.Statements.{init_walk, header_test_walk, returned}
use Rattle.ending_bodies.proofs.Calm.{Calm, here, after, behind_calm, behind_if_calm, found_unless_calm, reading_calm, opening_calm, expr_calm, value_calm, call_calm}

-- ---- declarations and simple statements

initialised_calm : (name : List ℕ) (v : Option Value) (p : Point) → Calm p (initialised name v p)
initialised_calm name None p = here p
initialised_calm name (Some v) p =
    let c = after (behind_calm 1 p) (value_calm v false _) in
    record { back = c.back; reachable = c.reachable; left = c.left; ends = c.ends }

pub local_calm : (l : Local) (p : Point) → Calm p (local_walk l p)
local_calm l p =
    after (behind_if_calm l.is_partial 2 p) (after (behind_calm 2 _) (after (record { back = λ q. q; reachable = refl; left = refl; ends = λ q. q }) (initialised_calm l.name l.value _)))

target_calm : (op : AssignOp) (name : List ℕ) (p : Point) → Calm p (target op name p)
target_calm assign.Assign name p = here p
target_calm assign.Add name p = reading_calm false name p
target_calm assign.Sub name p = reading_calm false name p
target_calm assign.Mul name p = reading_calm false name p
target_calm assign.Div name p = reading_calm false name p
target_calm assign.Rem name p = reading_calm false name p
target_calm assign.And name p = reading_calm false name p
target_calm assign.Or name p = reading_calm false name p
target_calm assign.Xor name p = reading_calm false name p
target_calm assign.Shl name p = reading_calm false name p
target_calm assign.Shr name p = reading_calm false name p
target_calm assign.UShr name p = reading_calm false name p

-- what differs in no more than what is assigned
same_but_assigned : (p q : Point) → q.findings ≡ p.findings → q.is_reachable ≡ p.is_reachable → q.is_left ≡ p.is_left → q.places ≡ p.places → Calm p q
same_but_assigned p q e f g h = record { back = λ none. sym e ∙ none; reachable = f; left = g; ends = λ none. h ∙ none }

pub simple_calm : (x : Simple) (p : Point) → Calm p (simple_walk x p)
simple_calm (simple.Assign name op v) p =
    after (target_calm op name p) (after (behind_calm 2 _) (after (value_calm v false _) (same_but_assigned _ _ refl refl refl refl)))
simple_calm (simple.PostIncrement name) p = after (reading_calm false name p) (after (same_but_assigned _ _ refl refl refl refl) (behind_calm 2 _))
simple_calm (simple.PostDecrement name) p = after (reading_calm false name p) (after (same_but_assigned _ _ refl refl refl refl) (behind_calm 2 _))
simple_calm (simple.PreIncrement name) p = after (behind_calm 1 p) (after (reading_calm false name _) (after (same_but_assigned _ _ refl refl refl refl) (behind_calm 1 _)))
simple_calm (simple.PreDecrement name) p = after (behind_calm 1 p) (after (reading_calm false name _) (after (same_but_assigned _ _ refl refl refl refl) (behind_calm 1 _)))
simple_calm (simple.Call is_global call) p = after (behind_if_calm is_global 2 p) (call_calm call false _)

simples_from_calm : (xs : List Simple) (p : Point) → Calm p (simples_from xs p)
simples_from_calm [] p = here p
simples_from_calm (x ∷ xs) p = after (behind_calm 1 p) (after (simple_calm x _) (simples_from_calm xs _))

pub simples_calm : (xs : List Simple) (p : Point) → Calm p (simples_walk xs p)
simples_calm xs p = after (opening_calm xs p) (simples_from_calm xs _)

pub init_calm : (i : ForInit) (p : Point) → Calm p (init_walk i p)
init_calm for_init.Nothing p = behind_calm 1 p
init_calm (for_init.Local l) p = after (behind_calm 1 p) (local_calm l _)
init_calm (for_init.Simples all) p = simples_calm all p

pub test_calm : (test : Option Expr) (p : Point) → Calm p (header_test_walk test p)
test_calm None p = here p
test_calm (Some x) p = expr_calm x false p

pub returned_calm : (v : Option Value) (p : Point) → Calm p (returned v p)
returned_calm None p = here p
returned_calm (Some v) p = value_calm v false p

-- ---- where a statement begins

pub begun_calm : (p : Point) → Calm p (begun p)
begun_calm p = found_unless_calm p.is_reachable rule.Unreachable p

-- there is a token
abbrev pub Has : List Place → Type 0
Has places = places ≡ [] → ⊥

pub some_finding : (places : List Place) → Has places → finding rule.Unreachable places ≡ [] → ⊥
some_finding [] has e = has refl
some_finding (place ∷ more) has e = cc

pub none_behind : {A : Type 0} (xs ys : List A) → xs ++ ys ≡ [] → ys ≡ []
none_behind [] ys e = e
none_behind (x ∷ xs) ys e = absurd (cc)

-- A statement that begins where nothing is found can be reached.
begins_by : (b : Bool) (p : Point) → p.is_reachable ≡ b → (begun p).findings ≡ [] → Has p.places → b ≡ true
begins_by true p e quiet has = refl
begins_by false p e quiet has = absurd (some_finding p.places has (none_behind p.findings _ (subst (λ (b : Bool). (found_unless b rule.Unreachable p).findings ≡ []) e quiet)))

pub begins : (p : Point) → (begun p).findings ≡ [] → Has p.places → p.is_reachable ≡ true
begins p quiet has = begins_by p.is_reachable p refl quiet has

-- ---- statements

pub record Grows (p q : Point) : Type 0 where
  pub back : q.findings ≡ [] → p.findings ≡ []
  pub left : p.is_left ≡ true → q.is_left ≡ true
  pub ends : p.places ≡ [] → q.places ≡ []

pub grows_by : {p q : Point} → Calm p q → Grows p q
grows_by c = record { back = c.back; left = λ e. c.left ∙ e; ends = c.ends }

pub stays : (p : Point) → Grows p p
stays p = record { back = λ q. q; left = λ q. q; ends = λ q. q }

pub then_grows : {p q r : Point} → Grows p q → Grows q r → Grows p r
then_grows s t = record { back = λ q. s.back (t.back q); left = λ q. t.left (s.left q); ends = λ q. t.ends (s.ends q) }

pub has_before : {p q : Point} → Grows p q → Has q.places → Has p.places
has_before g has none = has (g.ends none)
