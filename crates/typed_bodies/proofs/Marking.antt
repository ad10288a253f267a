-- Walks of the rules on annotations one after another.
use Rattle.std.proofs.Common.{◌≡◌, ℕ, zero, suc, ◌+◌, min, Bool, true, false, not, ◌&&◌, List, [], ◌∷◌, ◌++◌, length, drop, slice_get, unwrap_or, is_some, Option, Some, None, refl, sym, ap, subst, ◌∙◌, append_assoc, arith}
use Rattle.std.proofs.lemmas.List.Folds.{list_all-append}
use Rattle.java_tree.specs.declared.types.ExprType.{ExprType}
use Rattle.java_tree.specs.declared.types.Declaration.{Declaration}
use Rattle.java_tree.specs.declared.types.Declaration.TheVariants as declaration
use Rattle.annotations.specs.declared.position.Position.{Position}
use Rattle.annotations.specs.declared.position.Position.TheVariants.{Inside, Merged, Whole, Statement, Gathered}
use Rattle.annotations.specs.declared.walk.Env.{Env}
use Rattle.annotations.specs.declared.walk.Walk.{Walk}
use Rattle.annotations.specs.Walks.{past, past_if, noted, noted_at, coming, taken, named, partial_at, unfit, unexpected}
use Rattle.typed_bodies.specs.Reading.{Place, is_method, is_plain, are_plain}
use Rattle.typed_bodies.specs.Expressions.{is_field}
use Rattle.typed_bodies.specs.Marking.{Stays, Agrees, Passed, Begins, Passes, IsMarked, is_state}

-- ---- findings

some_left : {A : Type 0} (xs : List A) (x : A) → xs ++ x ∷ [] ≡ [] → ⊥
some_left [] x e = cc
some_left (y ∷ xs) x e = cc

pub record Unmarked (broken : Bool) (token rule : ℕ) (u : Walk) : Type 0 where
  pub holds : broken ≡ false
  pub same : noted broken token rule u ≡ u
  pub quiet : u.findings ≡ []

pub unmarked : (broken : Bool) (token rule : ℕ) (u : Walk) → (noted broken token rule u).findings ≡ [] → Unmarked broken token rule u
unfolding noted
unmarked true token rule u quiet = absurd (some_left u.findings _ quiet)
unmarked false token rule u quiet = record { holds = refl; same = refl; quiet = quiet }

pub noted_grows : (broken : Bool) (token rule : ℕ) (u : Walk) → (noted broken token rule u).findings ≡ [] → u.findings ≡ []
noted_grows broken token rule u quiet = (unmarked broken token rule u quiet).quiet

pub never_quiet : (token rule : ℕ) (u : Walk) → (noted true token rule u).findings ≡ [] → ⊥
never_quiet token rule u quiet = let m = unmarked true token rule u quiet in let h : true ≡ false = m.holds in cc

pub noted_at_grows : (global : Option ℕ) (rule : ℕ) (u : Walk) → (noted_at global rule u).findings ≡ [] → u.findings ≡ []
noted_at_grows None rule u quiet = quiet
noted_at_grows (Some at) rule u quiet = noted_grows true at rule u quiet

pub past_grows : (env : Env) (n : ℕ) (u : Walk) → (past env n u).findings ≡ [] → u.findings ≡ []
unfolding past
past_grows env n u quiet = quiet

pub past_if_grows : (env : Env) (test : Bool) (n : ℕ) (u : Walk) → (past_if env test n u).findings ≡ [] → u.findings ≡ []
past_if_grows env true n u quiet = past_grows env n u quiet
past_if_grows env false n u quiet = quiet

pub taken_grows : (env : Env) (u : Walk) → (taken env u).findings ≡ [] → u.findings ≡ []
unfolding taken past
taken_grows env u quiet = quiet

pub named_grows : (env : Env) (u : Walk) → (named env u).findings ≡ [] → u.findings ≡ []
unfolding named
named_grows env u quiet = noted_at_grows (partial_at u (coming env u)) 9 u (taken_grows env _ quiet)

pub unfit_grows : (position : Position) (u : Walk) → (unfit position u).findings ≡ [] → u.findings ≡ []
unfit_grows Inside u quiet = quiet
unfit_grows (Merged at merging) u quiet = noted_grows true at 12 u quiet
unfit_grows Whole u quiet = quiet
unfit_grows Statement u quiet = quiet
unfit_grows Gathered u quiet = quiet

pub unexpected_grows : (position : Position) (global : Option ℕ) (u : Walk) → (unexpected position global u).findings ≡ [] → u.findings ≡ []
unexpected_grows position global u quiet = unfit_grows position u (noted_at_grows global 10 (unfit position u) quiet)

-- ---- names

none_left : {A : Type 0} (n : ℕ) → drop {A = A} n [] ≡ []
none_left zero = refl
none_left (suc n) = refl

drop_next : {A : Type 0} (xs : List A) (n : ℕ) → drop (min (n + 1) (length xs)) xs ≡ drop 1 (drop n xs)
drop_next {A = A} [] n = none_left (min (n + 1) (length {A = A} [])) ∙ sym (ap (λ (xs : List A). drop 1 xs) (none_left n))
drop_next (x ∷ xs) zero = ap (λ k. drop k (x ∷ xs)) (let e : min (zero + 1) (length (x ∷ xs)) ≡ 1 = omega arith in e)
drop_next (x ∷ xs) (suc n) =
    ap (λ k. drop k (x ∷ xs)) (let e : min (suc n + 1) (length (x ∷ xs)) ≡ suc (min (n + 1) (length xs)) = omega arith in e) ∙ drop_next xs n

pub drop_taken : (env : Env) (u : Walk) (d : Declaration) (rest : List Declaration) → drop u.used env.names ≡ d ∷ rest → drop (taken env u).used env.names ≡ rest
unfolding taken past
drop_taken env u d rest before = drop_next env.names u.used ∙ ap (λ ns. drop 1 ns) before

get_first : {A : Type 0} (xs : List A) (n : ℕ) (x : A) (more : List A) → drop n xs ≡ x ∷ more → slice_get xs n ≡ Some x
get_first [] zero x more e = absurd (cc)
get_first [] (suc n) x more e = absurd (cc)
get_first (y ∷ xs) zero x more e = cc
get_first (y ∷ xs) (suc n) x more e = get_first xs n x more e

pub coming_is : (env : Env) (u : Walk) (d : Declaration) (rest : List Declaration) → drop u.used env.names ≡ d ∷ rest → coming env u ≡ Some d
coming_is env u d rest before = get_first env.names u.used d rest before

pub stays_all : (u : Walk) → Stays u u
stays_all u = record { in_entry = refl; in_header = refl; locals = refl; awaited = refl; sites = refl }

pub stays_both : {u v w : Walk} → Stays u v → Stays v w → Stays u w
stays_both a b = record {
  in_entry = b.in_entry ∙ a.in_entry;
  in_header = b.in_header ∙ a.in_header;
  locals = b.locals ∙ a.locals;
  awaited = b.awaited ∙ a.awaited;
  sites = b.sites ∙ a.sites;
}

pub stays_past : (env : Env) (n : ℕ) {u v : Walk} → Stays u v → Stays u (past env n v)
unfolding past
stays_past env n a = record { in_entry = a.in_entry; in_header = a.in_header; locals = a.locals; awaited = a.awaited; sites = a.sites }

pub stays_taken : (env : Env) (u : Walk) → Stays u (taken env u)
unfolding taken past
stays_taken env u = record { in_entry = refl; in_header = refl; locals = refl; awaited = refl; sites = refl }

pub agrees_too : (p : Place) {u v : Walk} → Stays u v → Agrees p u → Agrees p v
agrees_too p a f n = ap (λ (ls : List (Option ℕ)). is_some (unwrap_or (slice_get ls n) None)) a.locals ∙ f n

-- ---- walks that pass names

module _ (p : Place) where
  pub passes_none : (s : Bool) → Passes p (λ u. u) s []
  passes_none s = record {
    grows = λ u quiet. quiet;
    passed = λ u rest b. record { stays = stays_all u; behind = b.before };
    plain = λ u rest b is. refl;
  }

  pub passes_past : {s : Bool} {f : Walk → Walk} {names : List Declaration} (n : ℕ) → Passes p f s names → Passes p (λ u. past p.marks n (f u)) s names
  unfolding past
  passes_past n a = record {
    grows = λ u quiet. a.grows u quiet;
    passed = λ u rest b.
        let r = a.passed u rest (record { agrees = b.agrees; before = b.before; quiet = b.quiet }) in
        record { stays = record { in_entry = r.stays.in_entry; in_header = r.stays.in_header; locals = r.stays.locals; awaited = r.stays.awaited; sites = r.stays.sites }; behind = r.behind };
    plain = λ u rest b is. a.plain u rest (record { agrees = b.agrees; before = b.before; quiet = b.quiet }) is;
  }

  pub past_passes : {s : Bool} {f : Walk → Walk} {names : List Declaration} (n : ℕ) → Passes p f s names → Passes p (λ u. f (past p.marks n u)) s names
  unfolding past
  past_passes {f = f} n a = record {
    grows = λ u quiet. a.grows (past p.marks n u) quiet;
    passed = λ u rest b.
        let r = a.passed (past p.marks n u) rest (record { agrees = b.agrees; before = b.before; quiet = b.quiet }) in
        record { stays = record { in_entry = r.stays.in_entry; in_header = r.stays.in_header; locals = r.stays.locals; awaited = r.stays.awaited; sites = r.stays.sites }; behind = r.behind };
    plain = λ u rest b is. a.plain (past p.marks n u) rest (record { agrees = b.agrees; before = b.before; quiet = b.quiet }) is;
  }

  pub plain_append : (a b : List Declaration) → are_plain p a ≡ true → are_plain p b ≡ true → are_plain p (a ++ b) ≡ true
  plain_append a b f g = list_all-append (is_plain p) a b ∙ (ap (λ h. h && are_plain p b) f ∙ g)

  pub passes_both : {s t : Bool} (r : Bool) {f g : Walk → Walk} {names more : List Declaration} → s ≡ false → t ≡ false → Passes p f s names → Passes p g t more
      → Passes p (λ u. g (f u)) r (names ++ more)
  passes_both {s = s} {t = t} r {f = f} {g = g} {names = names} {more = more} s_is t_is a b =
      let first : (u : Walk) (rest : List Declaration) → Begins p (λ u. g (f u)) (names ++ more) u rest → Begins p f names u (more ++ rest) =
      λ u rest i. record { agrees = i.agrees; before = i.before ∙ append_assoc names more rest; quiet = b.grows (f u) i.quiet } in
      let second : (u : Walk) (rest : List Declaration) → Begins p (λ u. g (f u)) (names ++ more) u rest → Begins p g more (f u) rest =
      λ u rest i.
      let one = a.passed u (more ++ rest) (first u rest i) in
      record { agrees = agrees_too p one.stays i.agrees; before = one.behind; quiet = i.quiet } in
      record {
        grows = λ u quiet. a.grows u (b.grows (f u) quiet);
        passed = λ u rest i.
            let one = a.passed u (more ++ rest) (first u rest i) in
            let two = b.passed (f u) rest (second u rest i) in
            record { stays = stays_both one.stays two.stays; behind = two.behind };
        plain = λ u rest i is. plain_append names more (a.plain u (more ++ rest) (first u rest i) s_is) (b.plain (f u) rest (second u rest i) t_is);
      }

  -- where the second is known to pass if what the first one passes is plain
  pub passes_then : {s t : Bool} (r : Bool) {f g : Walk → Walk} {names more : List Declaration} → s ≡ false → t ≡ false → Passes p f s names
      → ((u : Walk) → (g u).findings ≡ [] → u.findings ≡ []) → (are_plain p names ≡ true → Passes p g t more) → Passes p (λ u. g (f u)) r (names ++ more)
  passes_then {s = s} {t = t} r {f = f} {g = g} {names = names} {more = more} s_is t_is a grows b =
      let first : (u : Walk) (rest : List Declaration) → Begins p (λ u. g (f u)) (names ++ more) u rest → Begins p f names u (more ++ rest) =
      λ u rest i. record { agrees = i.agrees; before = i.before ∙ append_assoc names more rest; quiet = grows (f u) i.quiet } in
      let whole : (u : Walk) (rest : List Declaration) → Begins p (λ u. g (f u)) (names ++ more) u rest → Passes p (λ u. g (f u)) r (names ++ more) =
      λ u rest i. passes_both r s_is t_is a (b (a.plain u (more ++ rest) (first u rest i) s_is)) in
      record {
        grows = λ u quiet. a.grows u (grows (f u) quiet);
        passed = λ u rest i. (whole u rest i).passed u rest i;
        plain = λ u rest i is. (whole u rest i).plain u rest i is;
      }

  pub passes_as : {s t : Bool} {f : Walk → Walk} {names : List Declaration} → (t ≡ false → s ≡ false) → Passes p f s names → Passes p f t names
  passes_as so a = record { grows = a.grows; passed = a.passed; plain = λ u rest b is. a.plain u rest b (so is) }

  -- a name that is not the one of a `@Partial` local
  free_local : (u : Walk) (n : ℕ) → Agrees p u → (noted_at (unwrap_or (slice_get u.locals n) None) 9 u).findings ≡ [] → is_plain p (declaration.Local n) ≡ true
  free_local u n agrees quiet = ap not (sym (agrees n)) ∙ by (unwrap_or (slice_get u.locals n) None) quiet
    where
      by : (o : Option ℕ) → (noted_at o 9 u).findings ≡ [] → not (is_some o) ≡ true
      by None quiet = refl
      by (Some at) quiet = absurd (never_quiet at 9 u quiet)

  free_name : (u : Walk) (d : Declaration) → Agrees p u → is_field d ≡ false → is_method d ≡ false → (noted_at (partial_at u (Some d)) 9 u).findings ≡ [] → is_plain p d ≡ true
  free_name u (declaration.Field n) agrees f m quiet = absurd (cc)
  free_name u (declaration.Method n) agrees f m quiet = absurd (cc)
  free_name u (declaration.Parameter n) agrees f m quiet = refl
  free_name u (declaration.Local n) agrees f m quiet = free_local u n agrees quiet

  not_partial : (o : Option ℕ) (u : Walk) → (noted_at o 9 u).findings ≡ [] → noted_at o 9 u ≡ u
  not_partial None u quiet = refl
  not_partial (Some at) u quiet = absurd (never_quiet at 9 u quiet)

  pub passes_name : (s : Bool) (d : Declaration) → is_method d ≡ false → (s ≡ false → is_field d ≡ false) → Passes p (named p.marks) s (d ∷ [])
  unfolding named
  passes_name s d no_method no_field = record {
    grows = named_grows p.marks;
    passed = λ u rest b.
        let same = not_partial (partial_at u (coming p.marks u)) u (taken_grows p.marks _ b.quiet) in
        subst (λ (v : Walk). Passed p u (taken p.marks v) rest) (sym same) (record { stays = stays_taken p.marks u; behind = drop_taken p.marks u d rest b.before });
    plain = λ u rest b is.
        let there = coming_is p.marks u d rest b.before in
        let quiet = subst (λ (o : Option Declaration). (noted_at (partial_at u o) 9 u).findings ≡ []) there (taken_grows p.marks _ b.quiet) in
        ap (λ h. h && true) (free_name u d b.agrees (no_field is) no_method quiet);
  }

  -- ---- parts at any position

  never_merged : (at : ℕ) (merging : Bool) (global : Option ℕ) (u : Walk) → (unexpected (Merged at merging) global u).findings ≡ [] → ⊥
  never_merged at merging global u quiet = never_quiet at 12 u (noted_at_grows global 10 (noted true at 12 u) quiet)

  -- what is neither a name nor a call
  pub marked : (found : ExprType) {f : Walk → Walk} {names : List Declaration} → Passes p f (is_state found) names → IsMarked p (λ position global u. f (unexpected position global u)) found names
  marked found {f = f} a = record {
    grows = λ position global u quiet. unexpected_grows position global u (a.grows (unexpected position global u) quiet);
    inside = record {
      grows = a.grows;
      passed = λ u rest b. a.passed u rest (record { agrees = b.agrees; before = b.before; quiet = b.quiet });
      plain = λ u rest b is. a.plain u rest (record { agrees = b.agrees; before = b.before; quiet = b.quiet }) is;
    };
    no_global = λ at u quiet. never_quiet at 10 u (a.grows _ quiet);
    merged = λ at merging global u rest b. absurd (never_merged at merging global u (a.grows (unexpected (Merged at merging) global u) b.quiet));
  }
