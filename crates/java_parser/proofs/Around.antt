-- Package, imports, modifiers, fields, types and parameters: what reading them takes, and that their tokens are read as them.
use Rattle.std.proofs.Common.{◌≡◌, ℕ, Bool, true, false, List, [], ◌∷◌, ◌++◌, map, codes, Option, Some, None, Ok, inl, inr, if◌then◌else◌, refl, sym, ap, ◌∙◌, append_assoc}
use Rattle.std.proofs.lemmas.Option.{same_Some}
use Rattle.std.specs.List.{flat_map}
use Rattle.java_tree.specs.declared.token.Kind.{Kind}
use Rattle.java_tree.specs.declared.token.Kind.TheVariants as k
use Rattle.java_tree.specs.declared.token.Reserved.{Reserved}
use Rattle.java_tree.specs.declared.token.Reserved.TheVariants as word
use Rattle.java_tree.specs.declared.tree.QualifiedName.{QualifiedName}
use Rattle.java_tree.specs.declared.tree.Import.{Import}
use Rattle.java_tree.specs.declared.tree.Modifier.{Modifier}
use Rattle.java_tree.specs.declared.tree.Modifier.TheVariants as modifier
use Rattle.java_tree.specs.declared.tree.FieldModifier.{FieldModifier}
use Rattle.java_tree.specs.declared.tree.FieldModifier.TheVariants as field_modifier
use Rattle.java_tree.specs.declared.tree.TypeName.{TypeName}
use Rattle.java_tree.specs.declared.tree.TypeName.TheVariants as type_name
use Rattle.java_tree.specs.declared.tree.ResultType.TheVariants as result_type
use Rattle.java_tree.specs.declared.tree.Param.{Param}
use Rattle.java_tree.specs.Tokens.{Kinds, separated, annotation, qualified, package_tokens, import_tokens, modifier_tokens, field_modifier_tokens, field_tokens, type_tokens, result_tokens, param_tokens}
use Rattle.java_parser.specs.Words.{same_token, begins, after, name_at}
use Rattle.java_parser.specs.Members.{dot, star, at_sign, assign, comma, semicolon, open_paren, close_paren, open_bracket, close_bracket, behind, optional_at, dotted_at, has_dotted, names_at, qualified_at, package_at, import_at, imports_at, modifier_of, modifier_ahead, has_modifier, first_is, modifier_at, modifiers_at, annotated, is_named, annotation_at, access_of, access_ahead, has_field_modifier, field_modifier_at, field_modifiers_at, field_at, type_of, type_ahead, type_at, result_at, param_at, other_param_at, other_params_at, params_at}
use Rattle.java_parser.proofs.Laws.{bind_ok, same_Ok, chosen, then_is, Takes, Again, Any, given, after_takes, after_again, are_words, both, begins_same, name_takes, name_again, many_takes, Begins, all_again, separated-map}

-- ---- words that may be left out

abbrev pub optional : Kind → Kinds → Bool → Kinds
optional w words is_there = if is_there then w ∷ words else []

pub optional_takes : (w : Kind) (words : Kinds) → Takes (optional_at w words) (optional w words)
unfolding optional_at
optional_takes w words ks x e =
    elim (chosen (begins w ks) _ (Ok (false, ks)) (Ok x) e) [
      | inl h ↦ let a = bind_ok (after (w ∷ []) ks) _ x h.1 in let b = bind_ok (after words a.0) _ x a.2 in
          given (optional w words) ks (true, b.0) x b.2 (after_takes (w ∷ []) ks a.0 a.1 ∙ ap (λ (t : Kinds). w ∷ t) (after_takes words a.0 b.0 b.1))
      | inr h ↦ given (optional w words) ks (false, ks) x h.1 refl
    ]

pub optional_again : (w : Kind) (words : Kinds) → are_words (w ∷ words) ≡ true → (is_there : Bool) (rest : Kinds) → begins w rest ≡ false
    → optional_at w words (optional w words is_there ++ rest) ≡ Ok (is_there, rest)
unfolding optional_at
optional_again w words h true rest other =
    let p = both _ (are_words words) h in
    rw (begins_same w (words ++ rest) p.0) (then_is _ _ (words ++ rest) _ (after_again (w ∷ []) (words ++ rest) (rw p.0 refl)) (then_is _ _ rest _ (after_again words rest p.1) refl))
optional_again w words h false rest other = rw other refl

-- ---- names with dots between them

abbrev dotted : List ℕ → Kinds
dotted name = dot ∷ k.Identifier name ∷ []

dotted_takes : Takes dotted_at dotted
unfolding dotted_at
dotted_takes ks x e =
    let a = bind_ok (after (dot ∷ []) ks) _ x e in
    after_takes (dot ∷ []) ks a.0 a.1 ∙ ap (λ (t : Kinds). dot ∷ t) (name_takes a.0 x a.2)

dotted_again : Again dotted_at dotted Any Any
unfolding dotted_at
dotted_again name rest p g = then_is _ _ (k.Identifier name ∷ rest) _ (after_again (dot ∷ []) _ refl) (name_again name rest)

dotted_begins : (is_import : Bool) → Begins (has_dotted is_import) dotted
unfolding has_dotted behind begins same_token
dotted_begins true = record { on = λ name rest. refl; off = refl }
dotted_begins false = record { on = λ name rest. refl; off = refl }

qualified_takes : (is_import : Bool) → Takes (qualified_at is_import) qualified
unfolding qualified_at names_at
qualified_takes is_import ks x e =
    let a = bind_ok (name_at ks) _ x e in
    let b = bind_ok _ _ x a.2 in
    given qualified ks (record { first = a.0.0; others = b.0.0 }, b.0.1) x b.2
    (name_takes ks a.0 a.1 ∙ ap (λ (t : Kinds). k.Identifier a.0.0 ∷ t) (many_takes (has_dotted is_import) dotted_at dotted dotted_takes _ a.0.1 b.0 b.1))

qualified_again : (is_import : Bool) (q : QualifiedName) (stop : Kind) (rest : Kinds) → has_dotted is_import (stop ∷ rest) ≡ false
    → qualified_at is_import (qualified q ++ (stop ∷ rest)) ≡ Ok (q, stop ∷ rest)
unfolding qualified_at names_at
qualified_again is_import q stop rest stops =
    let others = flat_map dotted q.others ++ (stop ∷ rest) in
    then_is _ _ (q.first, others) _ (name_again q.first others)
    (then_is _ _ (q.others, stop ∷ rest) _
    (all_again (has_dotted is_import) dotted_at dotted Any Any Any (dotted_begins is_import) dotted_again (λ n ns q. (tt, tt)) (λ n t. tt) stop rest stops tt q.others tt) refl)

semicolon_stops : (is_import : Bool) (rest : Kinds) → has_dotted is_import (semicolon ∷ rest) ≡ false
unfolding has_dotted begins same_token
semicolon_stops is_import rest = refl

star_stops : (rest : Kinds) → has_dotted true (dot ∷ star ∷ rest) ≡ false
unfolding has_dotted behind begins same_token
star_stops rest = refl

-- ---- packages and imports

pub package_takes : Takes package_at package_tokens
unfolding package_at
package_takes ks x e =
    let word = k.Reserved word.Package in
    elim (chosen (begins word ks) _ (Ok (None, ks)) (Ok x) e) [
      | inl h ↦ let a = bind_ok (after (word ∷ []) ks) _ x h.1 in let b = bind_ok (qualified_at false a.0) _ x a.2 in let c = bind_ok (after (semicolon ∷ []) b.0.1) _ x b.2 in
          let h1 : ks ≡ word ∷ a.0 = after_takes (word ∷ []) ks a.0 a.1 in
          let h2 : a.0 ≡ qualified b.0.0 ++ b.0.1 = qualified_takes false a.0 b.0 b.1 in
          let h3 : b.0.1 ≡ semicolon ∷ c.0 = after_takes (semicolon ∷ []) b.0.1 c.0 c.1 in
          given package_tokens ks (Some b.0.0, c.0) x c.2 (simp append_assoc (cc))
      | inr h ↦ given package_tokens ks (None, ks) x h.1 refl
    ]

-- the first token behind a package is not its word
pub package_again : (p : Option QualifiedName) (rest : Kinds) → begins (k.Reserved word.Package) rest ≡ false → package_at (package_tokens p ++ rest) ≡ Ok (p, rest)
unfolding package_at
package_again None rest other = rw other refl
package_again (Some q) rest other =
    let word = k.Reserved word.Package in
    let form : package_tokens (Some q) ++ rest ≡ word ∷ (qualified q ++ (semicolon ∷ rest)) = simp append_assoc in
    ap package_at form
    ∙ rw (begins_same word (qualified q ++ (semicolon ∷ rest)) refl)
    (then_is _ _ (qualified q ++ (semicolon ∷ rest)) _ (after_again (word ∷ []) _ refl)
    (then_is _ _ (q, semicolon ∷ rest) _ (qualified_again false q semicolon rest (semicolon_stops false rest))
    (then_is _ _ rest _ (after_again (semicolon ∷ []) rest refl) refl)))

import_takes : Takes import_at import_tokens
unfolding import_at
import_takes ks x e =
    let import = k.Reserved word.Import in
    let static = k.Reserved word.Static in
    let a = bind_ok (after (import ∷ []) ks) _ x e in
    let b = bind_ok (optional_at static [] a.0) _ x a.2 in
    let c = bind_ok (qualified_at true b.0.1) _ x b.2 in
    let d = bind_ok (optional_at dot (star ∷ []) c.0.1) _ x c.2 in
    let f = bind_ok (after (semicolon ∷ []) d.0.1) _ x d.2 in
    let h1 : ks ≡ import ∷ a.0 = after_takes (import ∷ []) ks a.0 a.1 in
    let h2 : a.0 ≡ optional static [] b.0.0 ++ b.0.1 = optional_takes static [] a.0 b.0 b.1 in
    let h3 : b.0.1 ≡ qualified c.0.0 ++ c.0.1 = qualified_takes true b.0.1 c.0 c.1 in
    let h4 : c.0.1 ≡ optional dot (star ∷ []) d.0.0 ++ d.0.1 = optional_takes dot (star ∷ []) c.0.1 d.0 d.1 in
    let h5 : d.0.1 ≡ semicolon ∷ f.0 = after_takes (semicolon ∷ []) d.0.1 f.0 f.1 in
    given import_tokens ks (record { is_static = b.0.0; name = c.0.0; is_on_demand = d.0.0 }, f.0) x f.2 (simp append_assoc (cc))

names_end : (q : QualifiedName) (is_on_demand : Bool) (rest : Kinds)
    → qualified_at true (qualified q ++ (optional dot (star ∷ []) is_on_demand ++ (semicolon ∷ rest))) ≡ Ok (q, optional dot (star ∷ []) is_on_demand ++ (semicolon ∷ rest))
names_end q true rest = qualified_again true q dot (star ∷ semicolon ∷ rest) (star_stops (semicolon ∷ rest))
names_end q false rest = qualified_again true q semicolon rest (semicolon_stops true rest)

name_not_static : (name : List ℕ) (rest : Kinds) → begins (k.Reserved word.Static) (k.Identifier name ∷ rest) ≡ false
unfolding begins same_token
name_not_static name rest = refl

semicolon_not_dot : (rest : Kinds) → begins dot (semicolon ∷ rest) ≡ false
unfolding begins same_token
semicolon_not_dot rest = refl

import_again : Again import_at import_tokens Any Any
unfolding import_at
import_again i rest p g =
    let import = k.Reserved word.Import in
    let static = k.Reserved word.Static in
    let end = optional dot (star ∷ []) i.is_on_demand ++ (semicolon ∷ rest) in
    let form : import_tokens i ++ rest ≡ import ∷ (optional static [] i.is_static ++ (qualified i.name ++ end)) = simp append_assoc in
    ap import_at form
    ∙ then_is _ _ (optional static [] i.is_static ++ (qualified i.name ++ end)) _ (after_again (import ∷ []) _ refl)
    (then_is _ _ (i.is_static, qualified i.name ++ end) _ (optional_again static [] refl i.is_static (qualified i.name ++ end) (name_not_static i.name.first _))
    (then_is _ _ (i.name, end) _ (names_end i.name i.is_on_demand rest)
    (then_is _ _ (i.is_on_demand, semicolon ∷ rest) _ (optional_again dot (star ∷ []) refl i.is_on_demand (semicolon ∷ rest) (semicolon_not_dot rest))
    (then_is _ _ rest _ (after_again (semicolon ∷ []) rest refl) refl))))

import_begins : Begins (begins (k.Reserved word.Import)) import_tokens
unfolding begins same_token
import_begins = record { on = λ i rest. refl; off = refl }

pub imports_take : Takes imports_at (flat_map import_tokens)
unfolding imports_at
imports_take ks x e = many_takes (begins (k.Reserved word.Import)) import_at import_tokens import_takes _ ks x e

pub imports_again : (stop : Kind) (rest : Kinds) → begins (k.Reserved word.Import) (stop ∷ rest) ≡ false → (is : List Import) → imports_at (flat_map import_tokens is ++ (stop ∷ rest)) ≡ Ok (is, stop ∷ rest)
unfolding imports_at
imports_again stop rest stops is =
    all_again (begins (k.Reserved word.Import)) import_at import_tokens Any Any Any import_begins import_again (λ i all q. (tt, tt)) (λ i t. tt) stop rest stops tt is tt

-- ---- modifiers

first_takes : {A : Type 0} (o : Option A) (ks : Kinds) (x : A × Kinds) → first_is o ks ≡ Ok x → (o ≡ Some x.0) × ((y : Kind) × (ks ≡ y ∷ x.1))
unfolding first_is
first_takes None ks x e = absurd cc
first_takes (Some a) [] x e = absurd cc
first_takes (Some a) (y ∷ ks) x e = let same = same_Ok (a, ks) x e in (ap (λ (z : _ × Kinds). Some z.0) same, (y, ap (λ (z : _ × Kinds). y ∷ z.1) same))

modifier_word : (w : Reserved) (m : Modifier) → modifier_of w ≡ Some m → modifier_tokens m ≡ k.Reserved w ∷ []
modifier_word word.Public m e = ap modifier_tokens (sym (same_Some _ m e))
modifier_word word.Private m e = ap modifier_tokens (sym (same_Some _ m e))
modifier_word word.Static m e = ap modifier_tokens (sym (same_Some _ m e))
modifier_word _ m e = absurd cc

-- the tokens are one word and what is left
word_taken : (w : Reserved) (ks rest : Kinds) (tokens : Kinds) (y : Kind) → k.Reserved w ∷ ks ≡ y ∷ rest → tokens ≡ k.Reserved w ∷ [] → k.Reserved w ∷ ks ≡ tokens ++ rest
word_taken w ks rest tokens y e is = let same : ks ≡ rest = cc in ap (λ (t : Kinds). k.Reserved w ∷ t) same ∙ ap (λ (t : Kinds). t ++ rest) (sym is)

modifier_takes : Takes modifier_at modifier_tokens
unfolding modifier_at modifier_ahead first_is
modifier_takes [] x e = absurd cc
modifier_takes (k.Reserved w ∷ rest) x e =
    let a = first_takes (modifier_of w) (k.Reserved w ∷ rest) x e in
    word_taken w rest x.1 (modifier_tokens x.0) a.1.0 a.1.1 (modifier_word w x.0 a.0)
modifier_takes (k.Identifier name ∷ rest) x e = absurd cc
modifier_takes (k.Number n d l ∷ rest) x e = absurd cc
modifier_takes (k.Symbol s ∷ rest) x e = absurd cc

modifier_again : Again modifier_at modifier_tokens Any Any
unfolding modifier_at modifier_ahead first_is
modifier_again modifier.Public rest p g = refl
modifier_again modifier.Private rest p g = refl
modifier_again modifier.Static rest p g = refl

modifier_on : (m : Modifier) (rest : Kinds) → has_modifier (modifier_tokens m ++ rest) ≡ true
unfolding modifier_ahead
modifier_on modifier.Public rest = refl
modifier_on modifier.Private rest = refl
modifier_on modifier.Static rest = refl

modifier_begins : Begins has_modifier modifier_tokens
unfolding modifier_ahead
modifier_begins = record { on = modifier_on; off = refl }

pub modifiers_take : Takes modifiers_at (flat_map modifier_tokens)
unfolding modifiers_at
modifiers_take ks x e = many_takes has_modifier modifier_at modifier_tokens modifier_takes _ ks x e

pub modifiers_again : (stop : Kind) (rest : Kinds) → has_modifier (stop ∷ rest) ≡ false → (ms : List Modifier) → modifiers_at (flat_map modifier_tokens ms ++ (stop ∷ rest)) ≡ Ok (ms, stop ∷ rest)
unfolding modifiers_at
modifiers_again stop rest stops ms =
    all_again has_modifier modifier_at modifier_tokens Any Any Any modifier_begins modifier_again (λ m all q. (tt, tt)) (λ m t. tt) stop rest stops tt ms tt

-- ---- fields

pub annotated_takes : (name : List ℕ) (ks rest : Kinds) → annotated name ks ≡ Ok rest → ks ≡ annotation name ++ rest
unfolding annotated
annotated_takes name ks rest e = after_takes (annotation name) ks rest e

pub annotated_again : (name : List ℕ) (rest : Kinds) → annotated name (annotation name ++ rest) ≡ Ok rest
unfolding annotated
annotated_again name rest = after_again (annotation name) rest refl

annotation_takes : Takes annotation_at field_modifier_tokens
unfolding annotation_at
annotation_takes ks x e =
    elim (chosen (is_named (codes "Partitioned") ks) _ _ (Ok x) e) [
      | inl h ↦ let a = bind_ok (annotated (codes "Partitioned") ks) _ x h.1 in given field_modifier_tokens ks (field_modifier.Partitioned, a.0) x a.2 (annotated_takes (codes "Partitioned") ks a.0 a.1)
      | inr h ↦ let a = bind_ok (annotated (codes "Partial") ks) _ x h.1 in given field_modifier_tokens ks (field_modifier.Partial, a.0) x a.2 (annotated_takes (codes "Partial") ks a.0 a.1)
    ]

access_word : (w : Reserved) (m : FieldModifier) → access_ahead (k.Reserved w ∷ []) ≡ Some m → field_modifier_tokens m ≡ k.Reserved w ∷ []
unfolding access_ahead modifier_ahead access_of
access_word word.Public m e = ap field_modifier_tokens (sym (same_Some _ m e))
access_word word.Private m e = ap field_modifier_tokens (sym (same_Some _ m e))
access_word word.Static m e = absurd cc
access_word _ m e = absurd cc

access_takes : (ks : Kinds) (x : FieldModifier × Kinds) → first_is (access_ahead ks) ks ≡ Ok x → ks ≡ field_modifier_tokens x.0 ++ x.1
unfolding access_ahead modifier_ahead first_is
access_takes [] x e = absurd cc
access_takes (k.Reserved w ∷ rest) x e =
    let a = first_takes (access_ahead (k.Reserved w ∷ [])) (k.Reserved w ∷ rest) x e in
    word_taken w rest x.1 (field_modifier_tokens x.0) a.1.0 a.1.1 (access_word w x.0 a.0)
access_takes (k.Identifier name ∷ rest) x e = absurd cc
access_takes (k.Number n d l ∷ rest) x e = absurd cc
access_takes (k.Symbol s ∷ rest) x e = absurd cc

field_modifier_takes : Takes field_modifier_at field_modifier_tokens
unfolding field_modifier_at
field_modifier_takes ks x e =
    elim (chosen (begins at_sign ks) _ _ (Ok x) e) [
      | inl h ↦ annotation_takes ks x h.1
      | inr h ↦ access_takes ks x h.1
    ]

begins_at : (rest : Kinds) → begins at_sign (at_sign ∷ rest) ≡ true
begins_at rest = begins_same at_sign rest refl

named_again : (name : List ℕ) (rest : Kinds) → is_named name (annotation name ++ rest) ≡ true
unfolding is_named behind
named_again name rest = begins_same (k.Identifier name) rest refl

partial_is_other : (rest : Kinds) → is_named (codes "Partitioned") (annotation (codes "Partial") ++ rest) ≡ false
unfolding is_named behind begins same_token
partial_is_other rest = refl

annotation_again : (name : List ℕ) (rest : Kinds) → field_modifier_at (annotation name ++ rest) ≡ annotation_at (annotation name ++ rest)
unfolding field_modifier_at
annotation_again name rest = rw (begins_at (k.Identifier name ∷ rest)) refl

reserved_not_at : (w : Reserved) (rest : Kinds) → begins at_sign (k.Reserved w ∷ rest) ≡ false
unfolding begins same_token
reserved_not_at w rest = refl

field_modifier_again : Again field_modifier_at field_modifier_tokens Any Any
unfolding annotation_at field_modifier_at access_ahead access_of modifier_ahead first_is
field_modifier_again field_modifier.Partitioned rest p g =
    annotation_again (codes "Partitioned") rest ∙ rw (named_again (codes "Partitioned") rest) (then_is _ _ rest _ (annotated_again (codes "Partitioned") rest) refl)
field_modifier_again field_modifier.Partial rest p g =
    annotation_again (codes "Partial") rest ∙ rw (partial_is_other rest) (then_is _ _ rest _ (annotated_again (codes "Partial") rest) refl)
field_modifier_again field_modifier.Public rest p g = rw (reserved_not_at word.Public rest) refl
field_modifier_again field_modifier.Private rest p g = rw (reserved_not_at word.Private rest) refl

field_modifier_on : (m : FieldModifier) (rest : Kinds) → has_field_modifier (field_modifier_tokens m ++ rest) ≡ true
unfolding has_field_modifier access_ahead access_of modifier_ahead
field_modifier_on field_modifier.Partitioned rest = rw (begins_at (k.Identifier (codes "Partitioned") ∷ rest)) refl
field_modifier_on field_modifier.Partial rest = rw (begins_at (k.Identifier (codes "Partial") ∷ rest)) refl
field_modifier_on field_modifier.Public rest = rw (reserved_not_at word.Public rest) refl
field_modifier_on field_modifier.Private rest = rw (reserved_not_at word.Private rest) refl

field_modifier_begins : Begins has_field_modifier field_modifier_tokens
unfolding has_field_modifier access_ahead modifier_ahead begins
field_modifier_begins = record { on = field_modifier_on; off = refl }

name_stops : (name : List ℕ) (rest : Kinds) → has_field_modifier (k.Identifier name ∷ rest) ≡ false
unfolding has_field_modifier access_ahead modifier_ahead begins same_token
name_stops name rest = refl

pub field_takes : Takes field_at field_tokens
unfolding field_at field_modifiers_at
field_takes ks x e =
    let made = assign ∷ k.Reserved word.New ∷ [] in
    let ends = open_paren ∷ close_paren ∷ semicolon ∷ [] in
    let a = bind_ok _ _ x e in
    let b = bind_ok (name_at a.0.1) _ x a.2 in
    let c = bind_ok (name_at b.0.1) _ x b.2 in
    let d = bind_ok (after made c.0.1) _ x c.2 in
    let f = bind_ok (name_at d.0) _ x d.2 in
    let g = bind_ok (after ends f.0.1) _ x f.2 in
    let h1 : ks ≡ flat_map field_modifier_tokens a.0.0 ++ a.0.1 = many_takes has_field_modifier field_modifier_at field_modifier_tokens field_modifier_takes _ ks a.0 a.1 in
    let h2 : a.0.1 ≡ k.Identifier b.0.0 ∷ b.0.1 = name_takes a.0.1 b.0 b.1 in
    let h3 : b.0.1 ≡ k.Identifier c.0.0 ∷ c.0.1 = name_takes b.0.1 c.0 c.1 in
    let h4 : c.0.1 ≡ assign ∷ k.Reserved word.New ∷ d.0 = after_takes made c.0.1 d.0 d.1 in
    let h5 : d.0 ≡ k.Identifier f.0.0 ∷ f.0.1 = name_takes d.0 f.0 f.1 in
    let h6 : f.0.1 ≡ open_paren ∷ close_paren ∷ semicolon ∷ g.0 = after_takes ends f.0.1 g.0 g.1 in
    let tail : a.0.1 ≡ k.Identifier b.0.0 ∷ k.Identifier c.0.0 ∷ made ++ (k.Identifier f.0.0 ∷ ends ++ g.0) =
    h2 ∙ ap (λ (t : Kinds). k.Identifier b.0.0 ∷ t) (h3 ∙ ap (λ (t : Kinds). k.Identifier c.0.0 ∷ t) (h4 ∙ ap (λ (t : Kinds). made ++ t) (h5 ∙ ap (λ (t : Kinds). k.Identifier f.0.0 ∷ t) h6))) in
    given field_tokens ks (record { modifiers = a.0.0; type_name = b.0.0; name = c.0.0; maker = f.0.0 }, g.0) x g.2
    (h1 ∙ ap (λ (t : Kinds). flat_map field_modifier_tokens a.0.0 ++ t) tail ∙ sym (append_assoc (flat_map field_modifier_tokens a.0.0) _ g.0))

pub field_again : Again field_at field_tokens Any Any
unfolding field_at field_modifiers_at
field_again f rest p g =
    let made = assign ∷ k.Reserved word.New ∷ [] in
    let ends = open_paren ∷ close_paren ∷ semicolon ∷ [] in
    let last = k.Identifier f.maker ∷ (ends ++ rest) in
    let named = k.Identifier f.name ∷ (made ++ last) in
    ap field_at (append_assoc (flat_map field_modifier_tokens f.modifiers) _ rest)
    ∙ then_is _ _ (f.modifiers, k.Identifier f.type_name ∷ named) _
    (all_again has_field_modifier field_modifier_at field_modifier_tokens Any Any Any field_modifier_begins field_modifier_again (λ m all q. (tt, tt)) (λ m t. tt) (k.Identifier f.type_name) named (name_stops f.type_name named) tt f.modifiers tt)
    (then_is _ _ (f.type_name, named) _ (name_again f.type_name named)
    (then_is _ _ (f.name, made ++ last) _ (name_again f.name (made ++ last))
    (then_is _ _ last _ (after_again made last refl)
    (then_is _ _ (f.maker, ends ++ rest) _ (name_again f.maker (ends ++ rest))
    (then_is _ _ rest _ (after_again ends rest refl) refl)))))

-- ---- types and parameters

pub type_word : (w : Reserved) (t : TypeName) → type_of w ≡ Some t → type_tokens t ≡ k.Reserved w ∷ []
type_word word.Int t e = ap type_tokens (sym (same_Some _ t e))
type_word word.Long t e = ap type_tokens (sym (same_Some _ t e))
type_word word.Boolean t e = ap type_tokens (sym (same_Some _ t e))
type_word _ t e = absurd cc

pub type_takes : Takes type_at type_tokens
unfolding type_at type_ahead first_is
type_takes [] x e = absurd cc
type_takes (k.Reserved w ∷ rest) x e =
    let a = first_takes (type_of w) (k.Reserved w ∷ rest) x e in
    word_taken w rest x.1 (type_tokens x.0) a.1.0 a.1.1 (type_word w x.0 a.0)
type_takes (k.Identifier name ∷ rest) x e = given type_tokens _ (type_name.Named name, rest) x e refl
type_takes (k.Number n d l ∷ rest) x e = absurd cc
type_takes (k.Symbol s ∷ rest) x e = absurd cc

pub type_again : Again type_at type_tokens Any Any
unfolding type_at type_ahead first_is
type_again type_name.Int rest p g = refl
type_again type_name.Long rest p g = refl
type_again type_name.Boolean rest p g = refl
type_again (type_name.Named name) rest p g = refl

pub result_takes : Takes result_at result_tokens
unfolding result_at
result_takes ks x e =
    let void = k.Reserved word.Void in
    elim (chosen (begins void ks) _ _ (Ok x) e) [
      | inl h ↦ let a = bind_ok (after (void ∷ []) ks) _ x h.1 in given result_tokens ks (result_type.Void, a.0) x a.2 (after_takes (void ∷ []) ks a.0 a.1)
      | inr h ↦ let a = bind_ok (type_at ks) _ x h.1 in given result_tokens ks (result_type.Type a.0.0, a.0.1) x a.2 (type_takes ks a.0 a.1)
    ]

type_not_void : (t : TypeName) (rest : Kinds) → begins (k.Reserved word.Void) (type_tokens t ++ rest) ≡ false
unfolding begins same_token
type_not_void type_name.Int rest = refl
type_not_void type_name.Long rest = refl
type_not_void type_name.Boolean rest = refl
type_not_void (type_name.Named name) rest = refl

pub result_again : Again result_at result_tokens Any Any
unfolding result_at
result_again result_type.Void rest p g = rw (begins_same (k.Reserved word.Void) rest refl) (then_is _ _ rest _ (after_again (k.Reserved word.Void ∷ []) rest refl) refl)
result_again (result_type.Type t) rest p g = rw (type_not_void t rest) (then_is _ _ (t, rest) _ (type_again t rest tt tt) refl)

abbrev collection : Kinds
collection = k.Identifier (codes "Collection") ∷ []

param_takes : Takes param_at param_tokens
unfolding param_at
param_takes ks x e =
    let a = bind_ok (optional_at at_sign collection ks) _ x e in
    let b = bind_ok (type_at a.0.1) _ x a.2 in
    let c = bind_ok (optional_at open_bracket (close_bracket ∷ []) b.0.1) _ x b.2 in
    let d = bind_ok (name_at c.0.1) _ x c.2 in
    let h1 : ks ≡ optional at_sign collection a.0.0 ++ a.0.1 = optional_takes at_sign collection ks a.0 a.1 in
    let h2 : a.0.1 ≡ type_tokens b.0.0 ++ b.0.1 = type_takes a.0.1 b.0 b.1 in
    let h3 : b.0.1 ≡ optional open_bracket (close_bracket ∷ []) c.0.0 ++ c.0.1 = optional_takes open_bracket (close_bracket ∷ []) b.0.1 c.0 c.1 in
    let h4 : c.0.1 ≡ k.Identifier d.0.0 ∷ d.0.1 = name_takes c.0.1 d.0 d.1 in
    given param_tokens ks (record { is_collection = a.0.0; type_name = b.0.0; is_array = c.0.0; name = d.0.0 }, d.0.1) x d.2 (simp append_assoc (cc))

pub type_not_at : (t : TypeName) (rest : Kinds) → begins at_sign (type_tokens t ++ rest) ≡ false
unfolding begins same_token
type_not_at type_name.Int rest = refl
type_not_at type_name.Long rest = refl
type_not_at type_name.Boolean rest = refl
type_not_at (type_name.Named name) rest = refl

name_not_bracket : (name : List ℕ) (rest : Kinds) → begins open_bracket (k.Identifier name ∷ rest) ≡ false
unfolding begins same_token
name_not_bracket name rest = refl

param_again : Again param_at param_tokens Any Any
unfolding param_at
param_again q rest p g =
    let array = optional open_bracket (close_bracket ∷ []) q.is_array in
    let named = k.Identifier q.name ∷ rest in
    let form : param_tokens q ++ rest ≡ optional at_sign collection q.is_collection ++ (type_tokens q.type_name ++ (array ++ named)) = simp append_assoc in
    ap param_at form
    ∙ then_is _ _ (q.is_collection, type_tokens q.type_name ++ (array ++ named)) _ (optional_again at_sign collection refl q.is_collection _ (type_not_at q.type_name (array ++ named)))
    (then_is _ _ (q.type_name, array ++ named) _ (type_again q.type_name (array ++ named) tt tt)
    (then_is _ _ (q.is_array, named) _ (optional_again open_bracket (close_bracket ∷ []) refl q.is_array named (name_not_bracket q.name rest))
    (then_is _ _ (q.name, rest) _ (name_again q.name rest) refl)))

abbrev other_param : Param → Kinds
other_param q = comma ∷ param_tokens q

other_param_takes : Takes other_param_at other_param
unfolding other_param_at
other_param_takes ks x e =
    let a = bind_ok (after (comma ∷ []) ks) _ x e in
    after_takes (comma ∷ []) ks a.0 a.1 ∙ ap (λ (t : Kinds). comma ∷ t) (param_takes a.0 x a.2)

other_param_again : Again other_param_at other_param Any Any
unfolding other_param_at
other_param_again q rest p g = then_is _ _ (param_tokens q ++ rest) _ (after_again (comma ∷ []) _ refl) (param_again q rest tt tt)

pub comma_begins : {A : Type 0} (tokens : A → Kinds) → Begins (begins comma) (λ x. comma ∷ tokens x)
unfolding begins same_token
comma_begins tokens = record { on = λ x rest. refl; off = refl }

pub close_paren_stops : (rest : Kinds) → begins comma (close_paren ∷ rest) ≡ false
unfolding begins same_token
close_paren_stops rest = refl

type_not_close : (t : TypeName) (rest : Kinds) → begins close_paren (type_tokens t ++ rest) ≡ false
unfolding begins same_token
type_not_close type_name.Int rest = refl
type_not_close type_name.Long rest = refl
type_not_close type_name.Boolean rest = refl
type_not_close (type_name.Named name) rest = refl

at_not_close : (rest : Kinds) → begins close_paren (at_sign ∷ rest) ≡ false
unfolding begins same_token
at_not_close rest = refl

param_not_close : (is_collection : Bool) (t : TypeName) (more rest : Kinds) → begins close_paren ((optional at_sign collection is_collection ++ (type_tokens t ++ more)) ++ rest) ≡ false
param_not_close true t more rest = at_not_close _
param_not_close false t more rest = rw (append_assoc (type_tokens t) more rest) (type_not_close t (more ++ rest))

pub params_take : Takes params_at (λ ps. separated (map param_tokens ps))
unfolding params_at other_params_at
params_take ks x e =
    let tokens = λ (ps : List Param). separated (map param_tokens ps) in
    elim (chosen (begins close_paren ks) (Ok ([], ks)) _ (Ok x) e) [
      | inl h ↦ given tokens ks ([], ks) x h.1 refl
      | inr h ↦ let a = bind_ok (param_at ks) _ x h.1 in let b = bind_ok _ _ x a.2 in
          let h1 : ks ≡ param_tokens a.0.0 ++ a.0.1 = param_takes ks a.0 a.1 in
          let h2 : a.0.1 ≡ flat_map other_param b.0.0 ++ b.0.1 = many_takes (begins comma) other_param_at other_param other_param_takes _ a.0.1 b.0 b.1 in
          let h3 = separated-map comma param_tokens b.0.0 in
          given tokens ks (a.0.0 ∷ b.0.0, b.0.1) x b.2
          (h1 ∙ ap (λ t. param_tokens a.0.0 ++ t) (h2 ∙ ap (λ t. t ++ b.0.1) (sym h3)) ∙ sym (append_assoc (param_tokens a.0.0) _ b.0.1))
    ]

pub params_again : (ps : List Param) (rest : Kinds) → params_at (separated (map param_tokens ps) ++ (close_paren ∷ rest)) ≡ Ok (ps, close_paren ∷ rest)
unfolding params_at other_params_at
params_again [] rest = rw (begins_same close_paren rest refl) refl
params_again (q ∷ ps) rest =
    let others = flat_map other_param ps ++ (close_paren ∷ rest) in
    let form : separated (map param_tokens (q ∷ ps)) ++ (close_paren ∷ rest) ≡ param_tokens q ++ others =
    append_assoc (param_tokens q) _ (close_paren ∷ rest) ∙ ap (λ t. param_tokens q ++ (t ++ (close_paren ∷ rest))) (separated-map comma param_tokens ps) in
    ap params_at form
    ∙ rw (param_not_close q.is_collection q.type_name _ others)
    (then_is _ _ (q, others) _ (param_again q others tt tt)
    (then_is _ _ (ps, close_paren ∷ rest) _
    (all_again (begins comma) other_param_at other_param Any Any Any (comma_begins param_tokens) other_param_again (λ r rs s. (tt, tt)) (λ r t. tt) close_paren rest (close_paren_stops rest) tt ps tt) refl))
