-- Where the rules on the flow find nothing in a class whose tokens have places, a method whose end they reach has no result.
use Rattle.std.proofs.Common.{◌≡◌, ℕ, zero, suc, ◌+◌, Bool, true, false, not, ◌||◌, List, [], ◌∷◌, map, length, drop, slice_get, Some, refl, sym, ap, subst, ◌∙◌, arith}
use Rattle.std.proofs.lemmas.List.{length-append}
use Rattle.sdg_base.specs.declared.value_type.ValueType.TheVariants as type
use Rattle.java_tree.specs.declared.token.Place.{Place}
use Rattle.java_tree.specs.declared.tree.Class.{Class}
use Rattle.java_tree.specs.declared.tree.FieldModifier.{FieldModifier}
use Rattle.java_tree.specs.declared.tree.Member.{Member}
use Rattle.java_tree.specs.declared.tree.Member.TheVariants as member
use Rattle.java_tree.specs.declared.tree.Method.{Method}
use Rattle.java_tree.specs.declared.tree.Param.{Param}
use Rattle.java_tree.specs.declared.tree.ResultType.{ResultType}
use Rattle.java_tree.specs.declared.tree.ResultType.TheVariants as result
use Rattle.java_tree.specs.Placed.{IsWellPlaced}
use Rattle.java_flow.specs.declared.finding.Rule.TheVariants as rule
use Rattle.java_flow.specs.Findings.{is_annotation, behind_modifiers, behind_field, behind_params, is_void, body_start, body_end, behind_header, method_walk, member_walk, members_walk, class_walk, findings}
use Rattle.java_flow.specs.Points.{Point, finding, found_unless}
use Rattle.java_flow.specs.Statements.{fresh, item_of, block_walk}
use Rattle.java_flow.proofs.MembersPass.{class_passes}
use Rattle.access_blocks.specs.Programs.{methods_in}
use Rattle.body_code.specs.ClassCode.{result_type}
use Rattle.ending_bodies.proofs.Calm.{Calm, here, after, behind_calm, behind_if_calm, found_unless_calm, opening_calm}
use Rattle.ending_bodies.proofs.Grown.{item_starts, block_grows}
use Rattle.ending_bodies.proofs.Passing.{Has, none_behind}

-- ---- from member to member

-- what stands further on in a class
record Further (p q : Point) : Type 0 where
  back : q.findings ≡ [] → p.findings ≡ []
  ends : p.places ≡ [] → q.places ≡ []

stays : (p : Point) → Further p p
stays p = record { back = λ e. e; ends = λ e. e }

further_by : {p q : Point} → Calm p q → Further p q
further_by c = record { back = c.back; ends = c.ends }

then_further : {p q r : Point} → Further p q → Further q r → Further p r
then_further a b = record { back = λ e. a.back (b.back e); ends = λ e. b.ends (a.ends e) }

has_before : {p q : Point} → Further p q → Has q.places → Has p.places
has_before f has none = has (f.ends none)

modifiers_calm : (ms : List FieldModifier) (p : Point) → Calm p (behind_modifiers ms p)
modifiers_calm [] p = here p
modifiers_calm (m ∷ ms) p = after (behind_if_calm (is_annotation m) 1 p) (after (behind_calm 1 _) (modifiers_calm ms _))

params_calm : (xs : List Param) (p : Point) → Calm p (behind_params xs p)
params_calm [] p = here p
params_calm (x ∷ xs) p = after (behind_if_calm x.is_collection 2 p) (after (behind_if_calm x.is_array 2 _) (after (behind_calm 3 _) (params_calm xs _)))

-- the end of the block of a method, from before the method on
abbrev pub block_end : Method → Point → Point
block_end m p = block_walk (map item_of m.body) (body_start (behind_header m p))

to_block_end : (m : Method) (p : Point) → Further p (block_end m p)
to_block_end m p =
    let head = after (behind_calm (length m.modifiers) p) (after (behind_calm 2 _) (after (opening_calm m.params _) (after (params_calm m.params _) (behind_calm 1 _)))) in
    let body = block_grows item_of item_starts m.body (body_start (behind_header m p)) in
    record { back = λ e. head.back (body.back e); ends = λ e. body.ends (head.ends e) }

to_method_end : (r : ResultType) (p : Point) → Further p (body_end r p)
to_method_end r p = further_by (after (found_unless_calm (is_void r || not p.is_reachable) rule.MissingReturn p) (behind_calm 1 _))

member_further : (m : Member) (p : Point) → Further p (member_walk m p)
member_further (member.Field f) p = further_by (after (modifiers_calm f.modifiers p) (behind_calm 8 _))
member_further (member.Method m) p = then_further (to_block_end m p) (to_method_end m.result (block_end m p))

members_further : (ms : List Member) (p : Point) → Further p (members_walk ms p)
members_further [] p = stays p
members_further (m ∷ ms) p = then_further (member_further m p) (members_further ms (member_walk m p))

-- ---- a method

-- Nothing is found in it, and a token stands behind it.
pub record IsMet (m : Method) : Type 0 where
  pub start : Point
  pub quiet : (method_walk m start).findings ≡ []
  pub has : Has (method_walk m start).places

met_in : (ms : List Member) (n : ℕ) (m : Method) → slice_get (methods_in ms) n ≡ Some m → (p : Point) → (members_walk ms p).findings ≡ [] → Has (members_walk ms p).places → IsMet m
met_in [] n m is p quiet has = absurd (cc)
met_in (member.Field f ∷ ms) n m is p quiet has = met_in ms n m is (behind_field f p) quiet has
met_in (member.Method k ∷ ms) zero m is p quiet has =
    let rest = members_further ms (method_walk k p) in
    subst IsMet (the_same is) (record { start = p; quiet = rest.back quiet; has = has_before rest has })
  where
    the_same : {A : Type 0} {x y : A} → Some x ≡ Some y → x ≡ y
    the_same e = cc
met_in (member.Method k ∷ ms) (suc n) m is p quiet has = met_in ms n m is (method_walk k p) quiet has

one_left : (n : ℕ) (xs : List Place) → length xs ≡ n + 1 → drop n xs ≡ [] → ⊥
one_left zero [] long none = absurd (cc)
one_left zero (x ∷ xs) long none = absurd (cc)
one_left (suc n) [] long none = absurd (omega (arith, long))
one_left (suc n) (x ∷ xs) long none = one_left n xs (omega (arith, long)) none

brace_left : (class : Class) → IsWellPlaced class → Has (class_walk class (fresh class.places)).places
brace_left class placed none =
    let p = class_passes class in
    let long : length class.places ≡ length p.front + 1 = placed.places ∙ (ap length p.tokens ∙ length-append p.front _) in
    one_left (length p.front) class.places long (sym (p.passes (fresh class.places)) ∙ none)

pub method_met : (class : Class) → IsWellPlaced class → findings class ≡ [] → (n : ℕ) (m : Method) → slice_get (methods_in class.members) n ≡ Some m → IsMet m
unfolding findings
method_met class placed quiet n m is = met_in class.members n m is _ quiet (brace_left class placed)

-- ---- its end

reached_by : (b : Bool) (p : Point) → b ≡ true → (found_unless (not b) rule.MissingReturn p).findings ≡ [] → Has p.places → ⊥
reached_by true p e quiet has = missing p.places has (none_behind p.findings _ quiet)
  where
    missing : (places : List Place) → Has places → finding rule.MissingReturn places ≡ [] → ⊥
    missing [] has e = has refl
    missing (place ∷ more) has e = cc
reached_by false p e quiet has = absurd (cc)

-- An end that is reached where nothing is found is that of a method without result.
no_result : (r : ResultType) (p : Point) → p.is_reachable ≡ true → (body_end r p).findings ≡ [] → Has p.places → result_type r ≡ type.Void
no_result result.Void p reached quiet has = refl
no_result (result.Type t) p reached quiet has = absurd (reached_by p.is_reachable p reached quiet has)

pub ends_without_result : (m : Method) (met : IsMet m) → (block_end m met.start).is_reachable ≡ true → result_type m.result ≡ type.Void
ends_without_result m met reached = no_result m.result (block_end m met.start) reached met.quiet (has_before (to_method_end m.result (block_end m met.start)) met.has)

pub block_quiet : (m : Method) (met : IsMet m) → (block_end m met.start).findings ≡ []
block_quiet m met = (to_method_end m.result (block_end m met.start)).back met.quiet

pub block_has : (m : Method) (met : IsMet m) → Has (block_end m met.start).places
block_has m met = has_before (to_method_end m.result (block_end m met.start)) met.has
