-- What the rules on annotations pass in each form of expression and call.
use Rattle.std.proofs.Common.{◌≡◌, ℕ, Bool, true, false, not, ◌&&◌, nat_eq, List, [], ◌∷◌, ◌++◌, length, drop, slice_get, is_some, Option, Some, None, if◌then◌else◌, refl, sym, ap, ap₂, subst, ◌∙◌, ◌⊎◌, inl, inr, arith}
use Rattle.std.proofs.lemmas.Bool.Decides.{nat_tests}
use Rattle.java_tree.specs.declared.tree.CallForm.TheOpen as e
use Rattle.java_tree.specs.declared.types.ExprType.{ExprType}
use Rattle.java_tree.specs.declared.types.Declaration.{Declaration}
use Rattle.java_tree.specs.declared.types.Declaration.TheVariants as declaration
use Rattle.annotations.specs.declared.position.Position.{Position}
use Rattle.annotations.specs.declared.position.Position.TheVariants.{Inside, Merged}
use Rattle.annotations.specs.declared.site.Key.{Key}
use Rattle.java_types.specs.declared.walk.Variable.{Variable}
use Rattle.annotations.specs.declared.walk.Awaited.{Awaited}
use Rattle.annotations.specs.declared.walk.Walk.{Walk}
use Rattle.annotations.specs.Accesses.{accessed, globally}
use Rattle.annotations.specs.Positions.{is_for_merge}
use Rattle.annotations.specs.Walks.{past, past_if, past_none, noted_at, coming, taken, named, is_collection, unfit, is_merge, is_merge_method, sited}
use Rattle.annotations.specs.Expressions.{Argument, Reading, Calling, is_awaited, is_merged, alone, unmerged_name, variable, inside, arguments, first_key, argument_position, own_head, own_call, access_head, dotted_head, head_of, call_step}
use Rattle.typed_bodies.specs.Reading.{Place, known_as, merges, is_method, is_plain, are_plain}
use Rattle.typed_bodies.specs.Expressions.{is_field, all_marked}
use Rattle.typed_bodies.specs.Marking.{Passed, Begins, Passes, Merges, IsMarked, is_state}
use Rattle.typed_bodies.proofs.Marking.{unmarked, noted_grows, never_quiet, noted_at_grows, past_grows, past_if_grows, taken_grows, named_grows, unfit_grows, drop_taken, coming_is, stays_taken, stays_both, agrees_too, passes_past, passes_then, passes_name}

module _ (p : Place) where
  -- a walk that is another one where names come that are passed
  pub passes_same : {s : Bool} {f g : Walk → Walk} {names : List Declaration} → ((u : Walk) → (f u).findings ≡ [] → u.findings ≡ [])
      → ((u : Walk) (rest : List Declaration) → Begins p f names u rest → f u ≡ g u) → Passes p g s names → Passes p f s names
  passes_same {f = f} {g = g} {names = names} grows same a =
      let begins : (u : Walk) (rest : List Declaration) → Begins p f names u rest → Begins p g names u rest =
      λ u rest b. record { agrees = b.agrees; before = b.before; quiet = ap (λ (v : Walk). v.findings) (sym (same u rest b)) ∙ b.quiet } in
      record {
        grows = grows;
        passed = λ u rest b. subst (λ (v : Walk). Passed p u v rest) (sym (same u rest b)) (a.passed u rest (begins u rest b));
        plain = λ u rest b is. a.plain u rest (begins u rest b) is;
      }

  passes_past_if : {s : Bool} {f : Walk → Walk} {names : List Declaration} (test : Bool) (n : ℕ) → Passes p f s names → Passes p (λ u. past_if p.marks test n (f u)) s names
  passes_past_if true n a = passes_past p n a
  passes_past_if false n a = a

  both_hold : (a b : Bool) → (a && b) ≡ true → a ≡ true × b ≡ true
  both_hold true true e = (refl, refl)
  both_hold true false e = absurd (cc)
  both_hold false b e = absurd (cc)

  -- ---- names

  merged_if : (b : Bool) (v w : Walk) → (if b then (record v { awaited = None }) else w).findings ≡ [] → v.findings ≡ [] ⊎ w.findings ≡ []
  merged_if true v w quiet = inl quiet
  merged_if false v w quiet = inr quiet

  alone_grows : (position : Position) (global : Option ℕ) (u : Walk) → (alone position global u).findings ≡ [] → u.findings ≡ []
  alone_grows position None u quiet = unfit_grows position u quiet
  alone_grows position (Some at) u quiet = quiet

  unmerged_grows : (position : Position) (global : Option ℕ) (u : Walk) → (unmerged_name p.marks position global u).findings ≡ [] → (noted_at global 10 (alone position global u)).findings ≡ []
  unfolding unmerged_name
  unmerged_grows position global u quiet = noted_grows (is_collection u (coming p.marks u)) u.at 12 _ (named_grows p.marks _ quiet)

  pub variable_grows : (position : Position) (global : Option ℕ) (u : Walk) → (variable p.marks position global u).findings ≡ [] → u.findings ≡ []
  unfolding variable
  variable_grows position global u quiet = by (merged_if (is_merged p.marks position global u) (taken p.marks u) (unmerged_name p.marks position global u) quiet)
    where
      by : (taken p.marks u).findings ≡ [] ⊎ (unmerged_name p.marks position global u).findings ≡ [] → u.findings ≡ []
      by (inl q) = taken_grows p.marks u q
      by (inr q) = alone_grows position global u (noted_at_grows global 10 _ (unmerged_grows position global u q))

  alone_refused : (at : ℕ) (merging : Bool) (global : Option ℕ) (u : Walk) → (noted_at global 10 (alone (Merged at merging) global u)).findings ≡ [] → ⊥
  alone_refused at merging None u quiet = never_quiet at 12 u quiet
  alone_refused at merging (Some token) u quiet = never_quiet token 10 u quiet

  -- the walk behind a name that is merged
  record TakesMerged (merging : Bool) (global : Option ℕ) (u v : Walk) : Type 0 where
    is : is_merged p.marks (Merged 0 merging) global u ≡ true
    same : v ≡ record (taken p.marks u) { awaited = None }

  taken_if : (b : Bool) (v w u : Walk) → (if b then v else w) ≡ u → u.findings ≡ [] → (w.findings ≡ [] → ⊥) → b ≡ true × u ≡ v
  taken_if true v w u same quiet never = (refl, sym same)
  taken_if false v w u same quiet never = absurd (never (ap (λ (x : Walk). x.findings) same ∙ quiet))

  name_merged : (at : ℕ) (merging : Bool) (global : Option ℕ) (u : Walk) → (variable p.marks (Merged at merging) global u).findings ≡ []
      → TakesMerged merging global u (variable p.marks (Merged at merging) global u)
  unfolding variable
  name_merged at merging global u quiet =
      let t = taken_if (is_merged p.marks (Merged at merging) global u) (record (taken p.marks u) { awaited = None }) (unmerged_name p.marks (Merged at merging) global u) _ refl quiet
      (λ q. alone_refused at merging global u (unmerged_grows (Merged at merging) global u q)) in
      record { is = t.0; same = t.1 }

  record IsTheAwaited (d : Declaration) (o : Option Awaited) : Type 0 where
    local : ℕ
    token : ℕ
    declared : d ≡ declaration.Local local
    waits : o ≡ Some (record { local = local; token = token })

  nat_is : (n m : ℕ) → nat_eq n m ≡ true → n ≡ m
  nat_is n m e = grind (arith, nat_tests)

  awaited_is : (d : Declaration) (o : Option Awaited) → is_awaited (Some d) o ≡ true → IsTheAwaited d o
  awaited_is (declaration.Field n) o e = absurd (cc)
  awaited_is (declaration.Method n) o e = absurd (cc)
  awaited_is (declaration.Parameter n) o e = absurd (cc)
  awaited_is (declaration.Local n) None e = absurd (cc)
  awaited_is (declaration.Local n) (Some a) e = record { local = a.local; token = a.token; declared = ap (λ k. declaration.Local k) (nat_is n a.local e); waits = refl }

  -- the name of a variable of this type
  record NameOf (d : Declaration) (found : ExprType) : Type 0 where
    name : List ℕ
    it : Variable
    is : known_as p name ≡ Some it
    declared : it.declaration ≡ d
    of : found ≡ it.found

  merges_name : (merging : Bool) (global : Option ℕ) (found : ExprType) (d : Declaration) (u v : Walk) (rest : List Declaration) → NameOf d found
      → drop u.used p.marks.names ≡ d ∷ rest → TakesMerged merging global u v → Merges p merging found (d ∷ []) rest u v
  unfolding taken past
  merges_name merging global found d u v rest n before t =
      let parts = both_hold merging (is_some global && is_awaited (coming p.marks u) u.awaited) t.is in
      let awaited = (both_hold (is_some global) (is_awaited (coming p.marks u) u.awaited) parts.1).1 in
      let a = awaited_is d u.awaited (ap (λ o. is_awaited o u.awaited) (sym (coming_is p.marks u d rest before)) ∙ awaited) in
      record {
        may = parts.0;
        local = a.local;
        token = a.token;
        name = n.name;
        it = n.it;
        is = n.is;
        declared = n.declared ∙ a.declared;
        of = n.of;
        alone = ap (λ (e : Declaration). e ∷ []) a.declared;
        waits = a.waits;
        met = ap (λ (w : Walk). w.awaited) t.same;
        in_entry = ap (λ (w : Walk). w.in_entry) t.same;
        in_header = ap (λ (w : Walk). w.in_header) t.same;
        locals = ap (λ (w : Walk). w.locals) t.same;
        sites = ap (λ (w : Walk). w.sites) t.same;
        behind = ap (λ (w : Walk). drop w.used p.marks.names) t.same ∙ drop_taken p.marks u d rest before;
      }

  name_inside : (u : Walk) → (variable p.marks Inside None u).findings ≡ [] → variable p.marks Inside None u ≡ named p.marks u
  unfolding variable unmerged_name
  name_inside u quiet =
      let m = unmarked (is_collection u (coming p.marks u)) u.at 12 u (named_grows p.marks _ quiet) in
      ap (named p.marks) m.same

  by_variable : (at : ℕ) (u : Walk) → (variable p.marks Inside (Some at) u).findings ≡ [] → (unmerged_name p.marks Inside (Some at) u).findings ≡ []
  unfolding variable
  by_variable at u quiet = quiet

  pub marked_name : (found : ExprType) (name : List ℕ) (it : Variable) → known_as p name ≡ Some it → found ≡ it.found → is_method it.declaration ≡ false
      → (is_state found ≡ false → is_field it.declaration ≡ false) → IsMarked p (λ position global u. variable p.marks position global u) found (it.declaration ∷ [])
  marked_name found name it is of no_method no_field = record {
    grows = variable_grows;
    inside = passes_same (variable_grows Inside None) (λ u rest b. name_inside u b.quiet) (passes_name p (is_state found) it.declaration no_method no_field);
    no_global = λ at u quiet. never_quiet at 10 u (unmerged_grows Inside (Some at) u (by_variable at u quiet));
    merged = λ at merging global u rest b.
        merges_name merging global found it.declaration u _ rest (record { name = name; it = it; is = is; declared = refl; of = of }) b.before (name_merged at merging global u b.quiet);
  }

  -- ---- arguments

  module _ (ms : List Argument) where
    abbrev tail : Walk → Walk
    tail v = past p.marks 1 (past_none p.marks ms v)

    tail_grows : (v : Walk) → (tail v).findings ≡ [] → v.findings ≡ []
    tail_grows v quiet = past_if_grows p.marks (nat_eq (length ms) 0) 1 v (past_grows p.marks 1 _ quiet)

    pub passes_arguments : {s : Bool} {names : List Declaration} → Passes p (all_marked p.marks Inside ms) s names → Passes p (arguments p.marks Inside ms) s names
    passes_arguments a = passes_past p 1 (passes_past_if (nat_eq (length ms) 0) 1 a)

    module _ (grow : (position : Position) (u : Walk) → (all_marked p.marks position ms u).findings ≡ [] → u.findings ≡ []) where
      pub arguments_grow : (position : Position) (u : Walk) → (arguments p.marks position ms u).findings ≡ [] → u.findings ≡ []
      arguments_grow position u quiet = grow position u (tail_grows _ quiet)

      -- ---- calls of methods of the class

      own_head_grows : (count : ℕ) (u : Walk) → (own_head p.marks count u).findings ≡ [] → u.findings ≡ []
      unfolding own_head
      own_head_grows count u quiet = noted_grows _ u.at 12 u (taken_grows p.marks _ quiet)

      pub own_head_is : (count : ℕ) (u : Walk) → (own_head p.marks count u).findings ≡ []
          → own_head p.marks count u ≡ taken p.marks u × (is_merge_method p.marks (coming p.marks u) && not (nat_eq count 1)) ≡ false
      unfolding own_head
      own_head_is count u quiet =
          let m = unmarked (is_merge_method p.marks (coming p.marks u) && not (nat_eq count 1)) u.at 12 u (taken_grows p.marks _ quiet) in
          (ap (taken p.marks) m.same, m.holds)

      pub own_grows : (position : Position) (global : Option ℕ) (u : Walk) → (own_call p.marks position global ms u).findings ≡ [] → u.findings ≡ []
      own_grows position global u quiet = noted_at_grows global 10 u (own_head_grows (length ms) _ (arguments_grow _ _ quiet))

      pub own_no_global : (position : Position) (at : ℕ) (u : Walk) → (own_call p.marks position (Some at) ms u).findings ≡ [] → ⊥
      own_no_global position at u quiet = never_quiet at 10 u (own_head_grows (length ms) _ (arguments_grow _ _ quiet))

      pub own_inside : (position : Position) (n : ℕ) (names : List Declaration) → is_merge (slice_get p.marks.methods n) ≡ false → merges (slice_get p.scope.methods n) ≡ false
          → Passes p (all_marked p.marks Inside ms) false names → Passes p (own_call p.marks position None ms) false (declaration.Method n ∷ names)
      own_inside position n names no_merge no_header a =
          let rest_of = passes_arguments a in
          let same : (u : Walk) (rest : List Declaration) → Begins p (own_call p.marks position None ms) (declaration.Method n ∷ names) u rest
          → own_call p.marks position None ms u ≡ arguments p.marks Inside ms (taken p.marks u) =
          λ u rest b.
          let there = coming_is p.marks u (declaration.Method n) (names ++ rest) b.before in
          let head = own_head_is (length ms) u (arguments_grow _ _ b.quiet) in
          ap₂ (λ b v. arguments p.marks (argument_position b u.at (is_for_merge position && true)) ms v) (ap (λ o. is_merge_method p.marks o) there ∙ no_merge) head.0 in
          let begins : (u : Walk) (rest : List Declaration) → Begins p (own_call p.marks position None ms) (declaration.Method n ∷ names) u rest
          → Begins p (arguments p.marks Inside ms) names (taken p.marks u) rest =
          λ u rest b. record {
            agrees = agrees_too p (stays_taken p.marks u) b.agrees;
            before = drop_taken p.marks u (declaration.Method n) (names ++ rest) b.before;
            quiet = ap (λ (v : Walk). v.findings) (sym (same u rest b)) ∙ b.quiet;
          } in
          record {
            grows = own_grows position None;
            passed = λ u rest b.
                let r = rest_of.passed (taken p.marks u) rest (begins u rest b) in
                subst (λ (v : Walk). Passed p u v rest) (sym (same u rest b)) (record { stays = stays_both (stays_taken p.marks u) r.stays; behind = r.behind });
            plain = λ u rest b is. ap (λ h. not h && are_plain p names) no_header ∙ rest_of.plain (taken p.marks u) rest (begins u rest b) refl;
          }

      one_alone : (count : ℕ) → (true && not (nat_eq count 1)) ≡ false → count ≡ 1
      one_alone count e = grind (arith, nat_tests)

      -- a merge method is called nowhere in a part
      pub merge_refused : (n : ℕ) (names : List Declaration) → is_merge (slice_get p.marks.methods n) ≡ true
          → (length ms ≡ 1 → (at : ℕ) (u : Walk) (rest : List Declaration) → Begins p (all_marked p.marks (Merged at false) ms) names u rest → false ≡ true)
          → Passes p (own_call p.marks Inside None ms) false (declaration.Method n ∷ names)
      merge_refused n names merge refused =
          let no : (u : Walk) (rest : List Declaration) → Begins p (own_call p.marks Inside None ms) (declaration.Method n ∷ names) u rest → ⊥ =
          λ u rest b.
          let there = coming_is p.marks u (declaration.Method n) (names ++ rest) b.before in
          let is : is_merge_method p.marks (coming p.marks u) ≡ true = ap (λ o. is_merge_method p.marks o) there ∙ merge in
          let head = own_head_is (length ms) u (arguments_grow _ _ b.quiet) in
          let one = one_alone (length ms) (ap (λ b. b && not (nat_eq (length ms) 1)) (sym is) ∙ head.1) in
          let quiet : (all_marked p.marks (Merged u.at false) ms (taken p.marks u)).findings ≡ [] =
          ap₂ (λ b v. (all_marked p.marks (argument_position b u.at false) ms v).findings) (sym is) (sym head.0) ∙ tail_grows _ b.quiet in
          let merging : false ≡ true = refused one u.at (taken p.marks u) rest (record {
            agrees = agrees_too p (stays_taken p.marks u) b.agrees;
            before = drop_taken p.marks u (declaration.Method n) (names ++ rest) b.before;
            quiet = quiet;
          }) in
          cc in
          record { grows = own_grows Inside None; passed = λ u rest b. absurd (no u rest b); plain = λ u rest b is. absurd (no u rest b) }

      -- ---- calls of methods of what a name stands for

      globally_grows : (position : Position) (global : Option ℕ) (b : Bool) (u : Walk) → (globally position global b u).findings ≡ [] → u.findings ≡ []
      globally_grows position None b u quiet = quiet
      globally_grows position (Some at) b u quiet = noted_grows b at 4 u (noted_grows _ at 8 _ quiet)

      accessed_grows : (field : ℕ) (position : Position) (global : Option ℕ) (name : List ℕ) (u : Walk) → (accessed p.marks field position global name u).findings ≡ [] → u.findings ≡ []
      unfolding accessed
      accessed_grows field position global name u quiet =
          noted_grows _ u.at 3 u (globally_grows position global _ _ (noted_grows _ u.at 5 _ (noted_grows _ u.at 6 _ quiet)))

      head_grows : (position : Position) (global : Option ℕ) (name : List ℕ) (key : Walk → Key) (o : Option Declaration) (u : Walk) → (head_of p.marks position global name key o u).findings ≡ [] → u.findings ≡ []
      unfolding access_head dotted_head sited past taken
      head_grows position global name key (Some (declaration.Field n)) u quiet = accessed_grows n position global name u quiet
      head_grows position global name key o u quiet = noted_at_grows global 10 u (named_grows p.marks _ quiet)

      pub of_grows : (object name : List ℕ) (position : Position) (global : Option ℕ) (u : Walk) → (call_step p.marks (e.Of object name ms) position global u).findings ≡ [] → u.findings ≡ []
      of_grows object name position global u quiet = head_grows position global name (first_key ms) (coming p.marks u) u (arguments_grow Inside _ quiet)

      inside_refused : (field : ℕ) (name : List ℕ) (u : Walk) → (accessed p.marks field Inside None name u).findings ≡ [] → ⊥
      unfolding accessed
      inside_refused field name u quiet = never_quiet u.at 5 _ (noted_grows _ u.at 6 _ quiet)

      field_refused : (n : ℕ) (name : List ℕ) (key : Walk → Key) (u : Walk) → (access_head p.marks n Inside None name key u).findings ≡ [] → ⊥
      unfolding access_head sited past taken
      field_refused n name key u quiet = inside_refused n name u quiet

      dotted_is : (u : Walk) → dotted_head p.marks None u ≡ past p.marks 2 (named p.marks u)
      unfolding dotted_head
      dotted_is u = refl

      head_is : (d : Declaration) (name : List ℕ) (u : Walk) → is_field d ≡ false → head_of p.marks Inside None name (first_key ms) (Some d) u ≡ past p.marks 2 (named p.marks u)
      head_is (declaration.Field n) name u e = absurd (cc)
      head_is (declaration.Method n) name u e = dotted_is u
      head_is (declaration.Parameter n) name u e = dotted_is u
      head_is (declaration.Local n) name u e = dotted_is u

      no_global_inside : (field at : ℕ) (name : List ℕ) (u : Walk) → (accessed p.marks field Inside (Some at) name u).findings ≡ [] → ⊥
      unfolding accessed
      no_global_inside field at name u quiet = never_quiet u.at 5 _ (noted_grows _ u.at 6 _ quiet)

      head_no_global : (at : ℕ) (name : List ℕ) (key : Walk → Key) (o : Option Declaration) (u : Walk) → (head_of p.marks Inside (Some at) name key o u).findings ≡ [] → ⊥
      unfolding access_head dotted_head sited past taken
      head_no_global at name key (Some (declaration.Field n)) u quiet = no_global_inside n at name u quiet
      head_no_global at name key o u quiet = never_quiet at 10 u (named_grows p.marks _ quiet)

      pub of_no_global : (object name : List ℕ) (at : ℕ) (u : Walk) → (call_step p.marks (e.Of object name ms) Inside (Some at) u).findings ≡ [] → ⊥
      of_no_global object name at u quiet = head_no_global at name (first_key ms) (coming p.marks u) u (arguments_grow Inside _ quiet)

      head_anywhere : (d : Declaration) (name : List ℕ) (position : Position) (u : Walk) → is_field d ≡ false → head_of p.marks position None name (first_key ms) (Some d) u ≡ past p.marks 2 (named p.marks u)
      head_anywhere (declaration.Field n) name position u e = absurd (cc)
      head_anywhere (declaration.Method n) name position u e = dotted_is u
      head_anywhere (declaration.Parameter n) name position u e = dotted_is u
      head_anywhere (declaration.Local n) name position u e = dotted_is u

      pub of_inside : (object name : List ℕ) (d : Declaration) (names : List Declaration) → is_field d ≡ false → is_method d ≡ false
          → (is_plain p d ≡ true → Passes p (all_marked p.marks Inside ms) false names) → Passes p (call_step p.marks (e.Of object name ms) Inside None) false (d ∷ names)
      of_inside object name d names no_field no_method a =
          passes_same (of_grows object name Inside None)
          (λ u rest b.
          let there = coming_is p.marks u d (names ++ rest) b.before in
          ap (λ v. arguments p.marks Inside ms v) (ap (λ o. head_of p.marks Inside None name (first_key ms) o u) there ∙ head_is d name u no_field))
          (passes_then p false refl refl (passes_past p 2 (passes_name p false d no_method (λ is. no_field))) (arguments_grow Inside) (λ plain. passes_arguments (a (both_hold (is_plain p d) true plain).0)))

      -- a call of a method of a variable stays plain anywhere
      pub of_anywhere : (object name : List ℕ) (d : Declaration) (names : List Declaration) → is_field d ≡ false → is_method d ≡ false
          → (is_plain p d ≡ true → Passes p (all_marked p.marks Inside ms) false names) → (position : Position)
          → Passes p (call_step p.marks (e.Of object name ms) position None) false (d ∷ names)
      of_anywhere object name d names no_field no_method a position =
          passes_same (of_grows object name position None)
          (λ u rest b.
          let there = coming_is p.marks u d (names ++ rest) b.before in
          ap (λ v. arguments p.marks Inside ms v) (ap (λ o. head_of p.marks position None name (first_key ms) o u) there ∙ head_anywhere d name position u no_field))
          (passes_then p false refl refl (passes_past p 2 (passes_name p false d no_method (λ is. no_field))) (arguments_grow Inside) (λ plain. passes_arguments (a (both_hold (is_plain p d) true plain).0)))

      dotted_no_global : (at : ℕ) (u : Walk) → (dotted_head p.marks (Some at) u).findings ≡ [] → ⊥
      unfolding dotted_head
      dotted_no_global at u quiet = never_quiet at 10 u (named_grows p.marks _ (past_grows p.marks 2 _ quiet))

      head_global : (d : Declaration) (name : List ℕ) (position : Position) (at : ℕ) (u : Walk) → is_field d ≡ false → (head_of p.marks position (Some at) name (first_key ms) (Some d) u).findings ≡ [] → ⊥
      head_global (declaration.Field n) name position at u e quiet = absurd (cc)
      head_global (declaration.Method n) name position at u e quiet = dotted_no_global at u quiet
      head_global (declaration.Parameter n) name position at u e quiet = dotted_no_global at u quiet
      head_global (declaration.Local n) name position at u e quiet = dotted_no_global at u quiet

      pub of_global : (object name : List ℕ) (d : Declaration) (names : List Declaration) → is_field d ≡ false → (position : Position) (at : ℕ) (u : Walk) (rest : List Declaration)
          → Begins p (call_step p.marks (e.Of object name ms) position (Some at)) (d ∷ names) u rest → ⊥
      of_global object name d names no_field position at u rest b =
          head_global d name position at u no_field
          (subst (λ (o : Option Declaration). (head_of p.marks position (Some at) name (first_key ms) o u).findings ≡ []) (coming_is p.marks u d (names ++ rest) b.before) (arguments_grow Inside _ b.quiet))

      pub of_field : (object name : List ℕ) (n : ℕ) (names : List Declaration) → Passes p (call_step p.marks (e.Of object name ms) Inside None) false (declaration.Field n ∷ names)
      of_field object name n names =
          let no : (u : Walk) (rest : List Declaration) → Begins p (call_step p.marks (e.Of object name ms) Inside None) (declaration.Field n ∷ names) u rest → ⊥ =
          λ u rest b.
          let there = coming_is p.marks u (declaration.Field n) (names ++ rest) b.before in
          field_refused n name (first_key ms) u
          (subst (λ (o : Option Declaration). (head_of p.marks Inside None name (first_key ms) o u).findings ≡ []) there (arguments_grow Inside _ b.quiet)) in
          record { grows = of_grows object name Inside None; passed = λ u rest b. absurd (no u rest b); plain = λ u rest b is. absurd (no u rest b) }

      -- ---- calls of methods of members

      pub member_grows : (at : Reading) {names : List Declaration} → Passes p (λ u. inside at (past p.marks 1 (named p.marks u))) false names → (object name : List ℕ) (position : Position) (global : Option ℕ) (u : Walk)
          → (call_step p.marks (e.OfMember object at name ms) position global u).findings ≡ [] → u.findings ≡ []
      member_grows at item object name position global u quiet = noted_at_grows global 10 u (item.grows _ (past_grows p.marks 3 _ (arguments_grow Inside _ quiet)))

      pub member_no_global : (at : Reading) {names : List Declaration} → Passes p (λ u. inside at (past p.marks 1 (named p.marks u))) false names → (object name : List ℕ) (position : Position) (token : ℕ) (u : Walk)
          → (call_step p.marks (e.OfMember object at name ms) position (Some token) u).findings ≡ [] → ⊥
      member_no_global at item object name position token u quiet = never_quiet token 10 u (item.grows _ (past_grows p.marks 3 _ (arguments_grow Inside _ quiet)))

      pub member_inside : (at : Reading) {names more : List Declaration} → Passes p (λ u. inside at (past p.marks 1 (named p.marks u))) false names
          → (are_plain p names ≡ true → Passes p (all_marked p.marks Inside ms) false more)
          → (object name : List ℕ) → Passes p (call_step p.marks (e.OfMember object at name ms) Inside None) false (names ++ more)
      member_inside at item a object name = passes_then p false refl refl (passes_past p 3 item) (arguments_grow Inside) (λ plain. passes_arguments (a plain))

  -- a call where an expression is wanted
  pub marked_call : {names : List Declaration} (found : ExprType) (call : Calling) → ((position : Position) (global : Option ℕ) (u : Walk) → (call position global u).findings ≡ [] → u.findings ≡ [])
      → ((at : ℕ) (u : Walk) → (call Inside (Some at) u).findings ≡ [] → ⊥)
      → Passes p (call Inside None) false names → IsMarked p (λ position global u. call position global (unfit position u)) found names
  marked_call found call grows no_global a = record {
    grows = λ position global u quiet. unfit_grows position u (grows position global _ quiet);
    inside = record {
      grows = λ u quiet. grows Inside None u quiet;
      passed = λ u rest b. a.passed u rest (record { agrees = b.agrees; before = b.before; quiet = b.quiet });
      plain = λ u rest b is. a.plain u rest (record { agrees = b.agrees; before = b.before; quiet = b.quiet }) refl;
    };
    no_global = λ at u quiet. no_global at u quiet;
    merged = λ at merging global u rest b. absurd (never_quiet at 12 u (grows (Merged at merging) global _ b.quiet));
  }
