-- The names of a class whose tokens a text spells are identifiers.
use Rattle.std.proofs.Common.{◌≡◌, ℕ, false, List, [], ◌∷◌, ◌++◌, length, map, flat_map, zip, All, refl, arith}
use Rattle.std.specs.Char.{is_ascii_digit}
use Rattle.std.proofs.lemmas.List.Elements.{All-nil, All-cons}
use Rattle.java_tree.specs.declared.token.Kind.{Kind}
use Rattle.java_tree.specs.declared.token.Kind.TheVariants as k
use Rattle.java_tree.specs.declared.token.Place.{Place}
use Rattle.java_tree.specs.declared.token.Symbol.TheVariants as symbol
use Rattle.java_tree.specs.declared.token.Token.{Token}
use Rattle.java_tree.specs.declared.tree.Class.{Class}
use Rattle.java_tree.specs.declared.tree.Field.{Field}
use Rattle.java_tree.specs.declared.tree.Method.{Method}
use Rattle.java_tree.specs.declared.tree.Member.{Member}
use Rattle.java_tree.specs.declared.tree.Member.TheVariants as member
use Rattle.java_tree.specs.Tokens.{Kinds, package_tokens, import_tokens, modifier_tokens, field_modifier_tokens, result_tokens, member_tokens, kinds_of, token_at}
use Rattle.java_lexer.specs.Spelling.{Reads, stops, passes, keeps, IsText, begins}
use Rattle.access_blocks.specs.Programs.{fields_in, methods_in}
use Rattle.flat_code.specs.Verified.{IsIdentifier, begins_with_digit}
use Rattle.accepted_classes.specs.Classes.{HasIdentifiers, IsSpelled}

-- a name is an identifier
abbrev IsWord : Kind → Type 0
IsWord (k.Identifier name) = IsIdentifier name
IsWord kind = Unit {0}

abbrev AreWords : Kinds → Type 0
AreWords [] = Unit {0}
AreWords (kind ∷ kinds) = IsWord kind × AreWords kinds

abbrev AreWordTokens : List Token → Type 0
AreWordTokens [] = Unit {0}
AreWordTokens (t ∷ tokens) = IsWord t.kind × AreWordTokens tokens

-- ---- a text spells words

digit_first : (name : List ℕ) → begins is_ascii_digit name ≡ false → begins_with_digit name ≡ false
digit_first [] h = refl
digit_first (b ∷ name) h = h

text_word : (kind : Kind) (text : List ℕ) → IsText kind text → IsWord kind
text_word (k.Identifier name) text is = record { not_empty = is.0.not_empty; each = is.0.each; first = digit_first name is.0.first }
text_word (k.Number digits decimal long) text is = tt
text_word (k.Reserved w) text is = tt
text_word (k.Symbol s) text is = tt

read_words : {at to : Place} {text left : List ℕ} {tokens : List Token} → Reads at text tokens to left → AreWordTokens tokens
read_words (stops at text) = tt
read_words (passes at to front rest left tokens space more) = read_words more
read_words (keeps at to kind front rest left tokens is more) = (text_word kind front is.text, read_words more)

kinds_words : (kinds : Kinds) (places : List Place) → length places ≡ length kinds → AreWordTokens (map token_at (zip kinds places)) → AreWords kinds
kinds_words [] places same h = tt
kinds_words (kind ∷ kinds) [] same h = absurd (omega arith)
kinds_words (kind ∷ kinds) (p ∷ places) same h = (h.0, kinds_words kinds places (omega arith) h.1)

-- ---- parts of a class

first_words : (xs ys : Kinds) → AreWords (xs ++ ys) → AreWords xs
first_words [] ys h = tt
first_words (x ∷ xs) ys h = (h.0, first_words xs ys h.1)

second_words : (xs ys : Kinds) → AreWords (xs ++ ys) → AreWords ys
second_words [] ys h = h
second_words (x ∷ xs) ys h = second_words xs ys h.1

field_word : (f : Field) → AreWords (member_tokens (member.Field f)) → IsIdentifier f.name
field_word f h = (second_words (flat_map field_modifier_tokens f.modifiers) _ h).1.0

method_word : (m : Method) → AreWords (member_tokens (member.Method m)) → IsIdentifier m.name
method_word m h = (second_words (result_tokens m.result) _ (second_words (flat_map modifier_tokens m.modifiers) _ h)).0

field_words : (ms : List Member) → AreWords (flat_map member_tokens ms) → All IsIdentifier (map (λ f. f.name) (fields_in ms))
field_words [] h = All-nil IsIdentifier
field_words (member.Field f ∷ ms) h =
    All-cons IsIdentifier f.name (map (λ f. f.name) (fields_in ms)) (field_word f (first_words (member_tokens (member.Field f)) (flat_map member_tokens ms) h))
    (field_words ms (second_words (member_tokens (member.Field f)) (flat_map member_tokens ms) h))
field_words (member.Method m ∷ ms) h = field_words ms (second_words (member_tokens (member.Method m)) (flat_map member_tokens ms) h)

method_words : (ms : List Member) → AreWords (flat_map member_tokens ms) → All IsIdentifier (map (λ m. m.name) (methods_in ms))
method_words [] h = All-nil IsIdentifier
method_words (member.Field f ∷ ms) h = method_words ms (second_words (member_tokens (member.Field f)) (flat_map member_tokens ms) h)
method_words (member.Method m ∷ ms) h =
    All-cons IsIdentifier m.name (map (λ m. m.name) (methods_in ms)) (method_word m (first_words (member_tokens (member.Method m)) (flat_map member_tokens ms) h))
    (method_words ms (second_words (member_tokens (member.Method m)) (flat_map member_tokens ms) h))

-- between the braces of the class
inner_words : (c : Class) → AreWords (kinds_of c) → AreWords (flat_map member_tokens c.members)
inner_words c h =
    let members = flat_map member_tokens c.members in
    let head = second_words (flat_map modifier_tokens c.modifiers) _ (second_words (flat_map import_tokens c.imports) _ (second_words (package_tokens c.package) _ h)) in
    first_words members (k.Symbol symbol.CloseBrace ∷ []) head.1.1.1

pub spelled_identifiers : (c : Class) → IsSpelled c → HasIdentifiers c
spelled_identifiers c s =
    let inner = inner_words c (kinds_words (kinds_of c) c.places s.placed.places (read_words s.spelled)) in
    record { fields = field_words c.members inner; methods = method_words c.members inner }
