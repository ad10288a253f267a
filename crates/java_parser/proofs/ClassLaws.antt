-- Classes: what reading them takes, and that their tokens are read as them.
use Rattle.std.proofs.Common.{◌≡◌, ℕ, ◌≤◌, false, List, [], ◌∷◌, ◌++◌, length, map, suc, Ok, if◌then◌else◌, refl, sym, ap, subst, ◌∙◌, arith}
use Rattle.std.proofs.lemmas.List.{length-map}
use Rattle.std.specs.List.{flat_map, zip}
use Rattle.java_tree.specs.declared.token.Kind.TheVariants as k
use Rattle.java_tree.specs.declared.token.Reserved.TheVariants as word
use Rattle.java_tree.specs.declared.token.Place.{Place}
use Rattle.java_tree.specs.declared.token.Token.{Token}
use Rattle.java_tree.specs.declared.tree.Class.{Class}
use Rattle.java_tree.specs.declared.tree.Import.{Import}
use Rattle.java_tree.specs.declared.tree.Modifier.{Modifier}
use Rattle.java_tree.specs.declared.tree.Modifier.TheVariants as modifier
use Rattle.java_tree.specs.Tokens.{Kinds, package_tokens, import_tokens, modifier_tokens, member_tokens, kinds_of, token_at, tokens_of}
use Rattle.java_tree.specs.Placed.{IsWellPlaced}
use Rattle.java_tree.specs.Heights.{height, max_levels}
use Rattle.java_parser.specs.Words.{kinds, refused, same_token, begins, after, name_at}
use Rattle.java_parser.specs.Members.{has_modifier, modifier_ahead, package_at, imports_at, modifiers_at}
use Rattle.java_parser.specs.Statements.{open_brace, close_brace, has_more}
use Rattle.java_parser.specs.Classes.{member_at, members_at, is_empty, class_at, body_levels}
use Rattle.java_parser.proofs.Laws.{bind_ok, same_Ok, then_is, Any, after_takes, after_again, name_takes, name_again, many_takes, many_keeps, all_again}
use Rattle.java_parser.proofs.Places.{places_of}
use Rattle.java_parser.proofs.Around.{package_takes, package_again, imports_take, imports_again, modifiers_take, modifiers_again}
use Rattle.java_parser.proofs.MemberLaws.{MemberFits, MembersFit, member_takes, member_keeps, member_again, member_begins, one_more_fits, each_fits, none_fit}

emptied : (c d : Class) (rest : Kinds) → (if is_empty rest then Ok c else refused rest) ≡ Ok d → (rest ≡ []) × (c ≡ d)
emptied c d [] e = (refl, same_Ok c d e)
emptied c d (x ∷ rest) e = absurd cc

class_takes : (n : ℕ) (places : List Place) (ks : Kinds) (c : Class) → class_at n places ks ≡ Ok c → (ks ≡ kinds_of c) × (places ≡ c.places) × MembersFit n c.members
unfolding class_at members_at
class_takes n places ks x e =
    let word = k.Reserved word.Class in
    let a = bind_ok (package_at ks) _ x e in
    let b = bind_ok (imports_at a.0.1) _ x a.2 in
    let c = bind_ok (modifiers_at b.0.1) _ x b.2 in
    let d = bind_ok (after (word ∷ []) c.0.1) _ x c.2 in
    let f = bind_ok (name_at d.0) _ x d.2 in
    let g = bind_ok (after (open_brace ∷ []) f.0.1) _ x f.2 in
    let h = bind_ok _ _ x g.2 in
    let i = bind_ok (after (close_brace ∷ []) h.0.1) _ x h.2 in
    let made : Class = record { «package» = a.0.0; imports = b.0.0; modifiers = c.0.0; name = f.0.0; members = h.0.0; places = places } in
    let end = emptied made x i.0 i.2 in
    let all = flat_map member_tokens h.0.0 in
    let inner : f.0.1 ≡ open_brace ∷ (all ++ close_brace ∷ []) =
    after_takes (open_brace ∷ []) f.0.1 g.0 g.1 ∙ ap (λ (t : Kinds). open_brace ∷ t) (many_takes has_more (member_at n) member_tokens (member_takes n) _ g.0 h.0 h.1
    ∙ ap (λ (t : Kinds). all ++ t) (after_takes (close_brace ∷ []) h.0.1 i.0 i.1 ∙ ap (λ (t : Kinds). close_brace ∷ t) end.0)) in
    let named : c.0.1 ≡ word ∷ k.Identifier f.0.0 ∷ open_brace ∷ (all ++ close_brace ∷ []) =
    after_takes (word ∷ []) c.0.1 d.0 d.1 ∙ ap (λ (t : Kinds). word ∷ t) (name_takes d.0 f.0 f.1 ∙ ap (λ (t : Kinds). k.Identifier f.0.0 ∷ t) inner) in
    let whole : ks ≡ kinds_of made =
    package_takes ks a.0 a.1 ∙ ap (λ (t : Kinds). package_tokens a.0.0 ++ t) (imports_take a.0.1 b.0 b.1
    ∙ ap (λ (t : Kinds). flat_map import_tokens b.0.0 ++ t) (modifiers_take b.0.1 c.0 c.1 ∙ ap (λ (t : Kinds). flat_map modifier_tokens c.0.0 ++ t) named)) in
    let fits = many_keeps has_more (member_at n) (MemberFits n) (MembersFit n) (member_keeps n) (none_fit n) (one_more_fits n) _ g.0 h.0 h.1 in
    subst (λ (z : Class). (ks ≡ kinds_of z) × (places ≡ z.places) × MembersFit n z.members) end.1 (whole, refl, fits)

-- the words before a class are those of no package and no import
modifiers_head : (ms : List Modifier) (rest : Kinds) → begins (k.Reserved word.Package) (flat_map modifier_tokens ms ++ (k.Reserved word.Class ∷ rest)) ≡ false
unfolding begins same_token
modifiers_head [] rest = refl
modifiers_head (modifier.Public ∷ ms) rest = refl
modifiers_head (modifier.Private ∷ ms) rest = refl
modifiers_head (modifier.Static ∷ ms) rest = refl

imports_head : (is : List Import) (ms : List Modifier) (rest : Kinds) → begins (k.Reserved word.Package) (flat_map import_tokens is ++ (flat_map modifier_tokens ms ++ (k.Reserved word.Class ∷ rest))) ≡ false
unfolding begins same_token
imports_head [] ms rest = modifiers_head ms rest
imports_head (i ∷ is) ms rest = refl

class_imports : (is : List Import) (ms : List Modifier) (rest : Kinds)
    → imports_at (flat_map import_tokens is ++ (flat_map modifier_tokens ms ++ (k.Reserved word.Class ∷ rest))) ≡ Ok (is, flat_map modifier_tokens ms ++ (k.Reserved word.Class ∷ rest))
unfolding begins same_token
class_imports is [] rest = imports_again (k.Reserved word.Class) rest refl is
class_imports is (modifier.Public ∷ ms) rest = imports_again (k.Reserved word.Public) _ refl is
class_imports is (modifier.Private ∷ ms) rest = imports_again (k.Reserved word.Private) _ refl is
class_imports is (modifier.Static ∷ ms) rest = imports_again (k.Reserved word.Static) _ refl is

class_stops : (rest : Kinds) → has_modifier (k.Reserved word.Class ∷ rest) ≡ false
unfolding modifier_ahead
class_stops rest = refl

close_stops : (rest : Kinds) → has_more (close_brace ∷ rest) ≡ false
unfolding has_more same_token
close_stops rest = refl

class_again : (n : ℕ) (c : Class) → MembersFit n c.members → class_at n c.places (kinds_of c) ≡ Ok c
unfolding class_at members_at
class_again n c p =
    let word = k.Reserved word.Class in
    let all = flat_map member_tokens c.members in
    let inner = open_brace ∷ (all ++ close_brace ∷ []) in
    let named = k.Identifier c.name ∷ inner in
    let behind_imports = flat_map modifier_tokens c.modifiers ++ (word ∷ named) in
    let behind_package = flat_map import_tokens c.imports ++ behind_imports in
    then_is _ _ (c.package, behind_package) _ (package_again c.package behind_package (imports_head c.imports c.modifiers named))
    (then_is _ _ (c.imports, behind_imports) _ (class_imports c.imports c.modifiers named)
    (then_is _ _ (c.modifiers, word ∷ named) _ (modifiers_again word named (class_stops named) c.modifiers)
    (then_is _ _ named _ (after_again (word ∷ []) named refl)
    (then_is _ _ (c.name, inner) _ (name_again c.name inner)
    (then_is _ _ (all ++ close_brace ∷ []) _ (after_again (open_brace ∷ []) _ refl)
    (then_is _ _ (c.members, close_brace ∷ []) _
    (all_again has_more (member_at n) member_tokens (MemberFits n) (MembersFit n) Any member_begins (member_again n) (each_fits n) (λ m t. tt) close_brace [] (close_stops []) tt c.members p)
    (then_is _ _ [] _ (after_again (close_brace ∷ []) [] refl) refl)))))))

-- ---- tokens, by their kinds and places

zipped : (tokens : List Token) → map token_at (zip (kinds tokens) (places_of tokens)) ≡ tokens
zipped [] = refl
zipped (t ∷ tokens) = ap (λ (more : List Token). t ∷ more) (zipped tokens)

pred : (m n : ℕ) → suc m ≡ suc n → m ≡ n
pred m n e = omega (arith, e)

unzipped : (ks : Kinds) (places : List Place) → length places ≡ length ks → (kinds (map token_at (zip ks places)) ≡ ks) × (places_of (map token_at (zip ks places)) ≡ places)
unzipped [] [] e = (refl, refl)
unzipped [] (p ∷ places) e = absurd (omega arith)
unzipped (x ∷ ks) [] e = absurd (omega arith)
unzipped (x ∷ ks) (p ∷ places) e =
    let more = unzipped ks places (pred (length places) (length ks) e) in
    (ap (λ (t : Kinds). x ∷ t) more.0, ap (λ (t : List Place). p ∷ t) more.1)

same_length : (tokens : List Token) → length (places_of tokens) ≡ length (kinds tokens)
same_length tokens = length-map tokens (λ t. t.place) ∙ sym (length-map tokens (λ t. t.kind))

-- ---- the class that all of the tokens are

pub is_found : (tokens : List Token) (c : Class) → class_at body_levels (places_of tokens) (kinds tokens) ≡ Ok c → (tokens_of c ≡ tokens) × IsWellPlaced c × (height c ≤ max_levels)
is_found tokens c e =
    let p = class_takes body_levels (places_of tokens) (kinds tokens) c e in (
      ap (λ (ks : Kinds). map token_at (zip ks c.places)) (sym p.0) ∙ ap (λ (places : List Place). map token_at (zip (kinds tokens) places)) (sym p.1) ∙ zipped tokens,
      record { members = p.2.0; places = ap (λ (places : List Place). length places) (sym p.1) ∙ same_length tokens ∙ ap (λ (ks : Kinds). length ks) p.0 },
      omega (arith, p.2.1),
    )

pub is_read : (tokens : List Token) (c : Class) → tokens_of c ≡ tokens → IsWellPlaced c → height c ≤ max_levels → class_at body_levels (places_of tokens) (kinds tokens) ≡ Ok c
is_read tokens c e placed low =
    let apart = unzipped (kinds_of c) c.places placed.places in
    let ks : kinds tokens ≡ kinds_of c = ap (λ (ts : List Token). kinds ts) (sym e) ∙ apart.0 in
    let places : places_of tokens ≡ c.places = ap (λ (ts : List Token). places_of ts) (sym e) ∙ apart.1 in
    ap (λ (t : Kinds). class_at body_levels (places_of tokens) t) ks
    ∙ ap (λ (places : List Place). class_at body_levels places (kinds_of c)) places
    ∙ class_again body_levels c (placed.members, omega (arith, low))
