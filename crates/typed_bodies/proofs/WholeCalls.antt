-- Calls that are whole values or statements, by what the rules on annotations pass in them.
use Rattle.std.proofs.Common.{◌≡◌, ℕ, Bool, true, false, not, ◌&&◌, ◌||◌, nat_eq, List, [], ◌∷◌, ◌++◌, length, drop, slice_get, unwrap_or, is_some, Option, Some, None, refl, sym, ap, ap₂, subst, ◌∙◌, inl, arith}
use Rattle.std.proofs.lemmas.Bool.Decides.{nat_tests}
use Rattle.java_tree.specs.declared.tree.CallForm.TheOpen as e
use Rattle.java_tree.specs.declared.method_kinds.MethodKind.TheVariants.{Merge}
use Rattle.java_tree.specs.declared.types.ExprType.{ExprType}
use Rattle.java_tree.specs.declared.types.Declaration.{Declaration}
use Rattle.java_tree.specs.declared.types.Declaration.TheVariants as declaration
use Rattle.java_types.specs.declared.walk.Signature.{Signature}
use Rattle.java_types.specs.declared.walk.Variable.{Variable}
use Rattle.java_types.specs.Expressions.{param_at}
use Rattle.annotations.specs.declared.position.Position.{Position}
use Rattle.annotations.specs.declared.position.Position.TheVariants.{Inside, Merged}
use Rattle.annotations.specs.declared.site.Reach.{Reach}
use Rattle.annotations.specs.declared.walk.Env.{Env}
use Rattle.annotations.specs.declared.walk.Walk.{Walk}
use Rattle.annotations.specs.Accesses.{accessed as access_rules, globally, is_partitioned, is_keyed, method_at, reach_of}
use Rattle.annotations.specs.Positions.{is_whole, is_for_global, is_for_merge}
use Rattle.annotations.specs.Walks.{past, past_if, past_none, noted, coming, taken, is_merge, is_merge_method, kind_at, sited}
use Rattle.annotations.specs.Expressions.{Argument, arguments, first_key, argument_position, own_call, access_head, head_of, call_step}
use Rattle.access_blocks.specs.declared.body.Access.{Access}
use Rattle.access_blocks.specs.declared.body.Expression.TheVariants as x
use Rattle.access_blocks.specs.declared.resolved.Invoked.{Invoked}
use Rattle.access_blocks.specs.declared.resolved.Invoked.TheVariants as invoked
use Rattle.access_blocks.specs.Resolving.{argument}
use Rattle.body_code.specs.Typing.{needs}
use Rattle.typed_bodies.specs.Reading.{Place, IsOneMethod, known_as, are_plain}
use Rattle.typed_bodies.specs.Expressions.{MergesOne, all_marked}
use Rattle.typed_bodies.specs.Marking.{Stays, Agrees, Begins, Passes, Merges, IsKey}
use Rattle.typed_bodies.specs.Wholes.{AccessOf, Reaches, MergesAll, IsWhole}
use Rattle.typed_bodies.proofs.Marking.{unmarked, drop_taken, coming_is, stays_all, stays_past, stays_taken, agrees_too, past_grows, past_if_grows}
use Rattle.typed_bodies.proofs.Marks.{own_head_is, arguments_grow, passes_arguments}

-- where the walk passes, nothing is reached
pub plainly : (p : Place) (position : Position) (found : ExprType) (i : Invoked) (names rest : List Declaration) (walk : Walk → Walk) (u : Walk) → Passes p walk false names → Begins p walk names u rest
    → IsWhole p position None found i names rest u (walk u)
plainly p position found i names rest walk u a b = inl (record { passed = a.passed u rest b; plain = a.plain u rest b refl; local = refl })

past_if_stays : (env : Env) (test : Bool) (n : ℕ) (u : Walk) → Stays u (past_if env test n u)
past_if_stays env true n u = stays_past env n (stays_all u)
past_if_stays env false n u = stays_all u

past_used : (env : Env) (n : ℕ) (u : Walk) → (past env n u).used ≡ u.used
unfolding past
past_used env n u = refl

past_if_used : (env : Env) (test : Bool) (n : ℕ) (u : Walk) → (past_if env test n u).used ≡ u.used
past_if_used env true n u = past_used env n u
past_if_used env false n u = refl

not_false : (b : Bool) → not b ≡ false → b ≡ true
not_false true e = refl
not_false false e = absurd (cc)

first_false : (a b : Bool) → (a || b) ≡ false → a ≡ false × b ≡ false
first_false true b e = absurd (cc)
first_false false b e = (refl, e)

agrees_by : (p : Place) (u v : Walk) → v.locals ≡ u.locals → Agrees p u → Agrees p v
agrees_by p u v same f n = ap (λ (ls : List (Option ℕ)). is_some (unwrap_or (slice_get ls n) None)) same ∙ f n

module _ (p : Place) (ms : List Argument) where
  abbrev tail : Walk → Walk
  tail v = past p.marks 1 (past_none p.marks ms v)

  tail_stays : (v : Walk) → Stays v (tail v)
  tail_stays v = stays_past p.marks 1 (past_if_stays p.marks (nat_eq (length ms) 0) 1 v)

  tail_used : (v : Walk) → (tail v).used ≡ v.used
  tail_used v = past_used p.marks 1 _ ∙ past_if_used p.marks (nat_eq (length ms) 0) 1 v

  merges_around : (merging : Bool) (found : ExprType) (names rest : List Declaration) (u v : Walk) → Merges p merging found names rest (taken p.marks u) v → Merges p true found names rest u (tail v)
  merges_around merging found names rest u v m =
      let s = stays_taken p.marks u in
      let t = tail_stays v in
      record {
        may = refl;
        local = m.local;
        token = m.token;
        name = m.name;
        it = m.it;
        is = m.is;
        declared = m.declared;
        of = m.of;
        alone = m.alone;
        waits = sym s.awaited ∙ m.waits;
        met = t.awaited ∙ m.met;
        in_entry = t.in_entry ∙ (m.in_entry ∙ s.in_entry);
        in_header = t.in_header ∙ (m.in_header ∙ s.in_header);
        locals = t.locals ∙ (m.locals ∙ s.locals);
        sites = t.sites ∙ (m.sites ∙ s.sites);
        behind = ap (λ n. drop n p.marks.names) (tail_used v) ∙ m.behind;
      }

  module _ (grow : (position : Position) (u : Walk) → (all_marked p.marks position ms u).findings ≡ [] → u.findings ≡ []) where
    one_alone : (count : ℕ) → (true && not (nat_eq count 1)) ≡ false → count ≡ 1
    one_alone count e = grind (arith, nat_tests)

    tail_grows : (v : Walk) → (tail v).findings ≡ [] → v.findings ≡ []
    tail_grows v quiet = past_if_grows p.marks (nat_eq (length ms) 0) 1 v (past_grows p.marks 1 _ quiet)

    -- a call of a merge method
    pub merge_whole : (s : Signature) (m : IsOneMethod p s) (names : List Declaration) (i : Invoked) (found : ExprType) (fit : Bool) → s.kind ≡ Merge → is_merge (slice_get p.marks.methods s.number) ≡ true
        → i ≡ invoked.Value (x.Merge s.number) → (fit ≡ true → found ≡ s.result)
        → (length ms ≡ 1 → (at : ℕ) (merging : Bool) (u : Walk) (rest : List Declaration) → Begins p (all_marked p.marks (Merged at merging) ms) names u rest
        → MergesOne p merging (param_at s.params 0) true fit names rest u (all_marked p.marks (Merged at merging) ms u))
        → (position : Position) (u : Walk) (rest : List Declaration) → Begins p (own_call p.marks position None ms) (declaration.Method s.number ∷ names) u rest
        → MergesAll p None found i (declaration.Method s.number ∷ names) rest u (own_call p.marks position None ms u)
    merge_whole s m names i found fit kind merge is gives merged position u rest b =
        let there = coming_is p.marks u (declaration.Method s.number) (names ++ rest) b.before in
        let is_one : is_merge_method p.marks (coming p.marks u) ≡ true = ap (λ o. is_merge_method p.marks o) there ∙ merge in
        let head = own_head_is p ms grow (length ms) u (arguments_grow p ms grow _ _ b.quiet) in
        let one = one_alone (length ms) (ap (λ b. b && not (nat_eq (length ms) 1)) (sym is_one) ∙ head.1) in
        let mg : Bool = is_for_merge position && true in
        let W : Walk = all_marked p.marks (Merged u.at mg) ms (taken p.marks u) in
        let same : own_call p.marks position None ms u ≡ tail W = ap₂ (λ b v. arguments p.marks (argument_position b u.at mg) ms v) is_one head.0 in
        let quiet : W.findings ≡ [] = tail_grows W (ap (λ (v : Walk). v.findings) (sym same) ∙ b.quiet) in
        let o = merged one u.at mg (taken p.marks u) rest (record {
          agrees = agrees_too p (stays_taken p.marks u) b.agrees;
          before = drop_taken p.marks u (declaration.Method s.number) (names ++ rest) b.before;
          quiet = quiet;
        }) in
        subst (λ (v : Walk). MergesAll p None found i (declaration.Method s.number ∷ names) rest u v) (sym same) (record {
          by = s;
          method = m;
          merges = kind;
          given = o.given;
          fit = o.may;
          more = names;
          are = refl;
          one = merges_around mg o.given.found names rest u W o.merges;
          is = is;
          gives = λ known. gives (o.holds refl known);
          local = refl;
        })

    -- ---- a call of a method of a field

    record AccessRules (field : ℕ) (position : Position) (global : Option ℕ) (name : List ℕ) (u v : Walk) : Type 0 where
      same : v ≡ u
      entry : u.in_entry ≡ true
      header : u.in_header ≡ false
      keyed : is_partitioned (kind_at p.marks field) ≡ true → is_keyed (method_at p.marks field name) ≡ true
      everywhere : is_some global ≡ true → is_partitioned (kind_at p.marks field) ≡ false × is_for_global position ≡ true

    keyed_if : (partitioned keyed : Bool) → (partitioned && not keyed) ≡ false → partitioned ≡ true → keyed ≡ true
    keyed_if true true e f = refl
    keyed_if true false e f = absurd (cc)
    keyed_if false keyed e f = absurd (cc)

    global_rules : (position : Position) (global : Option ℕ) (b : Bool) (u : Walk) → (globally position global b u).findings ≡ []
        → globally position global b u ≡ u × u.findings ≡ [] × (is_some global ≡ true → b ≡ false × is_for_global position ≡ true)
    global_rules position None b u quiet = (refl, quiet, λ e. absurd (cc))
    global_rules position (Some at) b u quiet =
        let eight = unmarked (not (is_for_global position)) at 8 (noted b at 4 u) quiet in
        let four = unmarked b at 4 u eight.quiet in
        (eight.same ∙ four.same, four.quiet, λ e. (four.holds, not_false _ eight.holds))

    access_rules_hold : (field : ℕ) (position : Position) (global : Option ℕ) (name : List ℕ) (u : Walk) → (access_rules p.marks field position global name u).findings ≡ []
        → AccessRules field position global name u (access_rules p.marks field position global name u)
    unfolding access_rules
    access_rules_hold field position global name u quiet =
        let b = is_partitioned (kind_at p.marks field) in
        let three = noted (b && not (is_keyed (method_at p.marks field name))) u.at 3 u in
        let g = globally position global b three in
        let five = noted (not (is_whole position) || u.in_header) u.at 5 g in
        let six = unmarked (not u.in_entry) u.at 6 five quiet in
        let m5 = unmarked (not (is_whole position) || u.in_header) u.at 5 g six.quiet in
        let mg = global_rules position global b three m5.quiet in
        let m3 = unmarked (b && not (is_keyed (method_at p.marks field name))) u.at 3 u mg.1 in
        record {
          same = six.same ∙ (m5.same ∙ (mg.0 ∙ m3.same));
          entry = not_false _ six.holds;
          header = (first_false _ _ m5.holds).1;
          keyed = keyed_if _ _ m3.holds;
          everywhere = mg.2;
        }

    abbrev reach_at : ℕ → Option ℕ → Walk → Reach
    reach_at field global u = reach_of (kind_at p.marks field) (is_some global) (first_key ms (taken p.marks u))

    abbrev site_noted : ℕ → Option ℕ → Walk → Walk
    site_noted field global u = past p.marks 2 (sited field (reach_at field global u) (taken p.marks u))

    access_quiet : (field : ℕ) (position : Position) (global : Option ℕ) (name : List ℕ) (u : Walk) → (access_head p.marks field position global name (first_key ms) u).findings ≡ []
        → (access_rules p.marks field position global name u).findings ≡ []
    unfolding access_head sited past taken
    access_quiet field position global name u quiet = quiet

    access_same : (field : ℕ) (position : Position) (global : Option ℕ) (name : List ℕ) (u : Walk) → access_rules p.marks field position global name u ≡ u
        → access_head p.marks field position global name (first_key ms) u ≡ site_noted field global u
    unfolding access_head
    access_same field position global name u same =
        ap (λ (v : Walk). past p.marks 2 (sited field (reach_of (kind_at p.marks field) (is_some global) (first_key ms (taken p.marks v))) (taken p.marks v))) same

    record SiteNoted (field : ℕ) (global : Option ℕ) (u v : Walk) : Type 0 where
      in_entry : v.in_entry ≡ u.in_entry
      in_header : v.in_header ≡ u.in_header
      locals : v.locals ≡ u.locals
      awaited : v.awaited ≡ u.awaited
      used : v.used ≡ (taken p.marks u).used
      sites : v.sites ≡ u.sites ++ record { field = field; reach = reach_at field global u } ∷ []

    site_is_noted : (field : ℕ) (global : Option ℕ) (u : Walk) → SiteNoted field global u (site_noted field global u)
    unfolding sited past taken
    site_is_noted field global u = record { in_entry = refl; in_header = refl; locals = refl; awaited = refl; used = refl; sites = refl }

    pub field_whole : (object name : List ℕ) (field : ℕ) (names : List Declaration) (found : ExprType) (i : Invoked) (variable : Variable) → known_as p object ≡ Some variable
        → variable.declaration ≡ declaration.Field field → (are_plain p names ≡ true → AccessOf p field name found i) → Passes p (all_marked p.marks Inside ms) false names
        → ((u : Walk) (rest : List Declaration) → drop u.used p.marks.names ≡ names ++ rest → (a : Access) → i ≡ invoked.Accesses a → IsKey p (first_key ms u) (needs (argument a.args 0)))
        → (position : Position) (global : Option ℕ) (u : Walk) (rest : List Declaration)
        → Begins p (call_step p.marks (e.Of object name ms) position global) (declaration.Field field ∷ names) u rest
        → Reaches p position global found i (declaration.Field field ∷ names) rest u (call_step p.marks (e.Of object name ms) position global u)
    field_whole object name field names found i variable is_object declared of a key position global u rest b =
        let there = coming_is p.marks u (declaration.Field field) (names ++ rest) b.before in
        let to_head : head_of p.marks position global name (first_key ms) (coming p.marks u) u ≡ access_head p.marks field position global name (first_key ms) u =
        ap (λ o. head_of p.marks position global name (first_key ms) o u) there in
        let head_quiet : (access_head p.marks field position global name (first_key ms) u).findings ≡ [] =
        ap (λ (v : Walk). v.findings) (sym to_head) ∙ arguments_grow p ms grow Inside _ b.quiet in
        let r = access_rules_hold field position global name u (access_quiet field position global name u head_quiet) in
        let to_site = to_head ∙ access_same field position global name u r.same in
        let same : call_step p.marks (e.Of object name ms) position global u ≡ arguments p.marks Inside ms (site_noted field global u) = ap (λ v. arguments p.marks Inside ms v) to_site in
        let n = site_is_noted field global u in
        let before : drop (taken p.marks u).used p.marks.names ≡ names ++ rest = drop_taken p.marks u (declaration.Field field) (names ++ rest) b.before in
        let begins : Begins p (arguments p.marks Inside ms) names (site_noted field global u) rest = record {
          agrees = agrees_by p u (site_noted field global u) n.locals b.agrees;
          before = ap (λ k. drop k p.marks.names) n.used ∙ before;
          quiet = ap (λ (v : Walk). v.findings) (sym same) ∙ b.quiet;
        } in
        let after = (passes_arguments p ms a).passed (site_noted field global u) rest begins in
        subst (λ (v : Walk). Reaches p position global found i (declaration.Field field ∷ names) rest u v) (sym same) (record {
          field = field;
          object = object;
          variable = variable;
          is_object = is_object;
          declared = declared;
          of = of ((passes_arguments p ms a).plain (site_noted field global u) rest begins refl);
          method = name;
          more = names;
          are = refl;
          plain = (passes_arguments p ms a).plain (site_noted field global u) rest begins refl;
          entry = r.entry;
          header = r.header;
          keyed = r.keyed;
          globally = r.everywhere;
          key = first_key ms (taken p.marks u);
          is_key = λ access is. key (taken p.marks u) rest before access is;
          sites = after.stays.sites ∙ n.sites;
          in_entry = after.stays.in_entry ∙ n.in_entry;
          in_header = after.stays.in_header ∙ n.in_header;
          locals = after.stays.locals ∙ n.locals;
          awaited = after.stays.awaited ∙ n.awaited;
          behind = after.behind;
        })
