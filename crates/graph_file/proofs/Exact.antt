-- Values whose compact text is read as them: their texts are UTF-8, their numbers integers of 64 bits, and the members of their objects in order.
use Rattle.std.proofs.Common.{◌≡◌, ℕ, ◌<◌, ◌≤◌, ◌^◌, ◌==◌, suc, pos, negsuc, Bool, true, false, List, [], ◌∷◌, ◌++◌, get_or, Option, Some, option_and_then, decimal, refl, sym, ap, ◌∙◌, subst, arith, append-nil, ne_eqb}
use Rattle.std.specs.Prelude.{⊤}
use Rattle.std.specs.Str.{IsUtf8}
use Rattle.std.proofs.lemmas.Str.{IsUtf8-append, IsUtf8-nil, IsUtf8-from_ascii}
use Rattle.std.proofs.lemmas.Fmt.{IsAscii-decimal, first_decimal}
use Rattle.json.specs.Json as json
use Rattle.json.specs.Token.{Token}
use Rattle.json.specs.Print.{IsNumber, quoted}
use Rattle.json.specs.Tree as tree
use Rattle.json.specs.Tree.{json_tokens, HasNumbers, ItemsHaveNumbers, MembersHaveNumbers}
use Rattle.json.specs.Word.{head, after_number}
use Rattle.json.proofs.Printed.Decimals.{IsNumber-decimal}
use Rattle.json.proofs.Printed.Tokens.{tokens-print}
use Rattle.json.proofs.Printed.Trees.{value-json_tokens, ArePrintable-json_tokens}
use Rattle.json.proofs.Printed.Utf8.{IsUtf8-are_ascii, IsUtf8-boolean, IsUtf8-quoted}
use Rattle.serde_json.specs.Data.{Num, unsigned, negative, float, Data, null, boolean, number, string, array, object, Items, no_items, item, Members, no_members, member, put, depth, items_depth, members_depth}
use Rattle.serde_json.specs.Read.{of_json, of_items, of_members, read, max_depth}
use Rattle.serde_json.specs.Written.{number_text, outline, items_outline, members_outline, compact_text, items_text, members_text, comma_if}
use Rattle.serde_json.proofs.Numbers.{number_of-decimal, number_of-negative}
use Rattle.serde_json.proofs.Texts.{print-outline}

-- the members, put one after another into those that are there
abbrev pub put_all : Members → Members → Members
put_all no_members found = found
put_all (member k d ms) found = put_all ms (put k d found)

abbrev pub IsExactNumber : Num → Type 0
IsExactNumber (unsigned n) = n < 2 ^ 64
IsExactNumber (negative (pos n)) = ⊥
IsExactNumber (negative (negsuc n)) = n < 2 ^ 63
IsExactNumber (float x) = ⊥

abbrev mutual
  pub IsExact : Data → Type 0
  IsExact null = ⊤
  IsExact (boolean b) = ⊤
  IsExact (number n) = IsExactNumber n
  IsExact (string s) = IsUtf8 s
  IsExact (array ds) = AreExact ds
  IsExact (object ms) = (put_all ms no_members ≡ ms) × HasExact ms

  pub AreExact : Items → Type 0
  AreExact no_items = ⊤
  AreExact (item d ds) = IsExact d × AreExact ds

  pub HasExact : Members → Type 0
  HasExact no_members = ⊤
  HasExact (member k d ms) = IsUtf8 k × IsExact d × HasExact ms

-- ---- numbers

not_minus : (ds : List ℕ) → 48 < get_or ds 0 0 → (head ds == 45) ≡ false
not_minus [] h = absurd (omega arith)
not_minus (d ∷ ds) h = ne_eqb d 45 (λ e. omega arith)

IsNumber-minus : (n : ℕ) → 0 < n → n < 2 ^ 64 → IsNumber (45 ∷ decimal n)
unfolding after_number
IsNumber-minus n some h = rw (not_minus (decimal n) (first_decimal n some h)) at (IsNumber-decimal n h)

number_texts : (n : Num) → IsExactNumber n → IsNumber (number_text n)
number_texts (unsigned n) h = IsNumber-decimal n h
number_texts (negative (pos n)) h = absurd h
number_texts (negative (negsuc n)) h = IsNumber-minus (suc n) (omega arith) (omega arith)
number_texts (float x) h = absurd h

number_utf8 : (n : Num) → IsExactNumber n → IsUtf8 (number_text n)
number_utf8 (unsigned n) h = IsUtf8-from_ascii (decimal n) (IsAscii-decimal n h)
number_utf8 (negative (pos n)) h = absurd h
number_utf8 (negative (negsuc n)) h = IsUtf8-append (45 ∷ []) (decimal (suc n)) (IsUtf8-are_ascii (45 ∷ []) refl) (IsUtf8-from_ascii (decimal (suc n)) (IsAscii-decimal (suc n) (omega arith)))
number_utf8 (float x) h = absurd h

number_reads : (n : Num) → IsExactNumber n → of_json (outline (number n)) ≡ Some (number n)
number_reads (unsigned n) h = rw (number_of-decimal n h)
number_reads (negative (pos n)) h = absurd h
number_reads (negative (negsuc n)) h = rw (number_of-negative n h)
number_reads (float x) h = absurd h

-- ---- values

mutual
  has_numbers : (d : Data) → IsExact d → HasNumbers (outline d)
  has_numbers null h = tt
  has_numbers (boolean b) h = tt
  has_numbers (number n) h = number_texts n h
  has_numbers (string s) h = tt
  has_numbers (array ds) h = items_have_numbers ds h
  has_numbers (object ms) h = members_have_numbers ms h.1

  items_have_numbers : (ds : Items) → AreExact ds → ItemsHaveNumbers (items_outline ds)
  items_have_numbers no_items h = tt
  items_have_numbers (item d ds) h = (has_numbers d h.0, items_have_numbers ds h.1)

  members_have_numbers : (ms : Members) → HasExact ms → MembersHaveNumbers (members_outline ms)
  members_have_numbers no_members h = tt
  members_have_numbers (member k d ms) h = (has_numbers d h.1, members_have_numbers ms h.2)

mutual
  of_outline : (d : Data) → IsExact d → of_json (outline d) ≡ Some d
  of_outline null h = refl
  of_outline (boolean b) h = refl
  of_outline (number n) h = number_reads n h
  of_outline (string s) h = refl
  of_outline (array ds) h = rw (of_items_outline ds h)
  of_outline (object ms) h = rw (of_members_outline ms no_members h.1) (ap (λ all. Some (object all)) h.0)

  of_items_outline : (ds : Items) → AreExact ds → of_items (items_outline ds) ≡ Some ds
  of_items_outline no_items h = refl
  of_items_outline (item d ds) h = rw (of_outline d h.0) (rw (of_items_outline ds h.1))

  of_members_outline : (ms found : Members) → HasExact ms → of_members (members_outline ms) found ≡ Some (put_all ms found)
  of_members_outline no_members found h = refl
  of_members_outline (member k d ms) found h = rw (of_outline d h.1) (of_members_outline ms (put k d found) h.2)

mutual
  outline_depth : (d : Data) → tree.depth (outline d) ≡ depth d
  outline_depth null = refl
  outline_depth (boolean b) = refl
  outline_depth (number n) = refl
  outline_depth (string s) = refl
  outline_depth (array ds) = ap suc (items_outline_depth ds)
  outline_depth (object ms) = ap suc (members_outline_depth ms)

  items_outline_depth : (ds : Items) → tree.items_depth (items_outline ds) ≡ items_depth ds
  items_outline_depth no_items = refl
  items_outline_depth (item d ds) = rw (outline_depth d, items_outline_depth ds)

  members_outline_depth : (ms : Members) → tree.members_depth (members_outline ms) ≡ members_depth ms
  members_outline_depth no_members = refl
  members_outline_depth (member k d ms) = rw (outline_depth d, members_outline_depth ms)

-- ---- texts

comma_utf8 : (later : Bool) → IsUtf8 (comma_if later)
comma_utf8 true = IsUtf8-are_ascii (44 ∷ []) refl
comma_utf8 false = IsUtf8-nil

mutual
  pub text_utf8 : (d : Data) → IsExact d → IsUtf8 (compact_text d)
  text_utf8 null h = IsUtf8-are_ascii _ refl
  text_utf8 (boolean b) h = IsUtf8-boolean b
  text_utf8 (number n) h = number_utf8 n h
  text_utf8 (string s) h = IsUtf8-quoted s h
  text_utf8 (array ds) h = IsUtf8-append (91 ∷ []) (items_text false ds) (IsUtf8-are_ascii (91 ∷ []) refl) (items_text_utf8 false ds h)
  text_utf8 (object ms) h = IsUtf8-append (123 ∷ []) (members_text false ms) (IsUtf8-are_ascii (123 ∷ []) refl) (members_text_utf8 false ms h.1)

  items_text_utf8 : (later : Bool) (ds : Items) → AreExact ds → IsUtf8 (items_text later ds)
  items_text_utf8 later no_items h = IsUtf8-are_ascii (93 ∷ []) refl
  items_text_utf8 later (item d ds) h =
      IsUtf8-append (comma_if later) (compact_text d ++ items_text true ds) (comma_utf8 later)
      (IsUtf8-append (compact_text d) (items_text true ds) (text_utf8 d h.0) (items_text_utf8 true ds h.1))

  members_text_utf8 : (later : Bool) (ms : Members) → HasExact ms → IsUtf8 (members_text later ms)
  members_text_utf8 later no_members h = IsUtf8-are_ascii (125 ∷ []) refl
  members_text_utf8 later (member k d ms) h =
      let value = IsUtf8-append (compact_text d) (members_text true ms) (text_utf8 d h.1) (members_text_utf8 true ms h.2) in
      IsUtf8-append (comma_if later) (quoted k ++ 58 ∷ (compact_text d ++ members_text true ms)) (comma_utf8 later)
      (IsUtf8-append (quoted k) (58 ∷ (compact_text d ++ members_text true ms)) (IsUtf8-quoted k h.0)
      (IsUtf8-append (58 ∷ []) (compact_text d ++ members_text true ms) (IsUtf8-are_ascii (58 ∷ []) refl) value))

-- the value of what a grammar reads of the whole text
abbrev whole : Option (json.Json × List Token) → Option Data
whole o = option_and_then of_json (option_and_then (λ p. json.if_last p.0 p.1) o)

pub read_text : (d : Data) → IsExact d → depth d ≤ max_depth → read (compact_text d) ≡ Some d
read_text d h shallow =
    let ts = json_tokens (outline d) in
    let within : tree.depth (outline d) ≤ max_depth = subst (λ n. n ≤ max_depth) (sym (outline_depth d)) shallow in
    let same = tokens-print ts (ArePrintable-json_tokens (outline d) (has_numbers d h)) ∙ sym (append-nil ts) in
    ap read (sym (print-outline d)) ∙ ap (λ us. whole (json.value max_depth us)) same ∙ ap whole (value-json_tokens (outline d) max_depth [] within) ∙ of_outline d h
