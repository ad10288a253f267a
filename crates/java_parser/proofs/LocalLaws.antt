-- Locals: what reading them takes, and that their tokens are read as them.
use Rattle.std.proofs.Common.{◌≡◌, ℕ, zero, suc, ◌≤◌, Bool, true, false, List, [], ◌∷◌, ◌++◌, codes, Option, Some, None, Ok, inl, inr, refl, sym, ap, subst, ◌∙◌, append_assoc, arith}
use Rattle.java_tree.specs.declared.token.Kind.TheVariants as k
use Rattle.java_tree.specs.declared.tree.TypeName.{TypeName}
use Rattle.java_tree.specs.declared.tree.TypeName.TheVariants as type_name
use Rattle.java_tree.specs.declared.tree.Local.{Local}
use Rattle.java_tree.specs.declared.tree.Value.{Value}
use Rattle.java_tree.specs.Tokens.{Kinds, type_tokens, local_tokens, initialiser, value_tokens}
use Rattle.java_tree.specs.Placed.{is_placed_value, is_placed_option, is_placed_local}
use Rattle.java_tree.specs.Heights.{option_height, value_height, local_height}
use Rattle.java_parser.specs.Words.{same_token, begins, after, name_at}
use Rattle.java_parser.specs.Members.{at_sign, assign, semicolon, behind, optional_at, is_named, type_at}
use Rattle.java_parser.specs.Expressions.{value_at}
use Rattle.java_parser.specs.Simples.{inside, begins_name, local_ahead, initialiser_at, local_at}
use Rattle.java_parser.specs.Statements.{else_word, has_more}
use Rattle.java_parser.proofs.Laws.{bind_ok, chosen, then_is, Takes, Keeps, Again, given, kept, after_takes, after_again, begins_same, name_takes, name_again}
use Rattle.java_parser.proofs.Around.{optional, optional_takes, optional_again, type_takes, type_again, type_not_at}
use Rattle.java_parser.proofs.ExpressionLaws.{value_takes, value_keeps, value_again}
use Rattle.java_parser.proofs.Ends.{IsEnd, inside_is}

abbrev pub ValueFits : ℕ → Option Value → Type 0
ValueFits n v = (is_placed_option is_placed_value v ≡ true) × (option_height value_height v ≤ n)

initialiser_takes : (n : ℕ) → Takes (initialiser_at n) initialiser
unfolding initialiser_at
initialiser_takes n ks x e =
    elim (chosen (begins assign ks) _ (Ok (None, ks)) (Ok x) e) [
      | inl h ↦ let a = bind_ok (after (assign ∷ []) ks) _ x h.1 in let b = bind_ok (value_at n a.0) _ x a.2 in
          given initialiser ks (Some b.0.0, b.0.1) x b.2 (after_takes (assign ∷ []) ks a.0 a.1 ∙ ap (λ (t : Kinds). assign ∷ t) (value_takes n a.0 b.0 b.1))
      | inr h ↦ given initialiser ks (None, ks) x h.1 refl
    ]

initialiser_keeps : (n : ℕ) → Keeps (initialiser_at n) (ValueFits n)
unfolding initialiser_at
initialiser_keeps n ks x e =
    elim (chosen (begins assign ks) _ (Ok (None, ks)) (Ok x) e) [
      | inl h ↦ let a = bind_ok (after (assign ∷ []) ks) _ x h.1 in let b = bind_ok (value_at n a.0) _ x a.2 in
          kept (ValueFits n) (Some b.0.0, b.0.1) x b.2 (value_keeps n a.0 b.0 b.1)
      | inr h ↦ kept (ValueFits n) (None, ks) x h.1 (refl, omega arith)
    ]

initialiser_again : (n : ℕ) → Again (initialiser_at n) initialiser (ValueFits n) IsEnd
unfolding initialiser_at
initialiser_again n None rest p end = rw end.not_assign refl
initialiser_again n (Some v) rest p end =
    rw (begins_same assign (value_tokens v ++ rest) refl)
    (then_is _ _ (value_tokens v ++ rest) _ (after_again (assign ∷ []) _ refl) (then_is _ _ (v, rest) _ (value_again n v rest p end.ended) refl))

abbrev pub LocalFits : ℕ → Local → Type 0
LocalFits n l = (is_placed_local l ≡ true) × (local_height l ≤ n)

abbrev partial : Kinds
partial = k.Identifier (codes "Partial") ∷ []

pub local_takes : (n : ℕ) → Takes (local_at n) local_tokens
unfolding local_at
local_takes n ks x e =
    let m = bind_ok (inside n ks) _ x e in
    let a = bind_ok (optional_at at_sign partial ks) _ x m.2 in
    let b = bind_ok (type_at a.0.1) _ x a.2 in
    let c = bind_ok (name_at b.0.1) _ x b.2 in
    let d = bind_ok (initialiser_at m.0 c.0.1) _ x c.2 in
    let h1 : ks ≡ optional at_sign partial a.0.0 ++ a.0.1 = optional_takes at_sign partial ks a.0 a.1 in
    let h2 : a.0.1 ≡ type_tokens b.0.0 ++ b.0.1 = type_takes a.0.1 b.0 b.1 in
    let h3 : b.0.1 ≡ k.Identifier c.0.0 ∷ c.0.1 = name_takes b.0.1 c.0 c.1 in
    let h4 : c.0.1 ≡ initialiser d.0.0 ++ d.0.1 = initialiser_takes m.0 c.0.1 d.0 d.1 in
    given local_tokens ks (record { is_partial = a.0.0; type_name = b.0.0; name = c.0.0; value = d.0.0 }, d.0.1) x d.2 (simp append_assoc (cc))

pub local_keeps : (n : ℕ) → Keeps (local_at n) (LocalFits n)
unfolding local_at
local_keeps n ks x e =
    let m = bind_ok (inside n ks) _ x e in
    let a = bind_ok (optional_at at_sign partial ks) _ x m.2 in
    let b = bind_ok (type_at a.0.1) _ x a.2 in
    let c = bind_ok (name_at b.0.1) _ x b.2 in
    let d = bind_ok (initialiser_at m.0 c.0.1) _ x c.2 in
    let fits = initialiser_keeps m.0 c.0.1 d.0 d.1 in
    let levels = inside_is n ks m.0 m.1 in
    kept (LocalFits n) (record { is_partial = a.0.0; type_name = b.0.0; name = c.0.0; value = d.0.0 }, d.0.1) x d.2 (fits.0, omega (arith, fits.1, levels))

pub local_again : (n : ℕ) → Again (local_at n) local_tokens (LocalFits n) IsEnd
unfolding local_at inside
local_again zero l rest p end = absurd (omega (arith, p.1))
local_again (suc n) l rest p end =
    let value = initialiser l.value ++ rest in
    let form : local_tokens l ++ rest ≡ optional at_sign partial l.is_partial ++ (type_tokens l.type_name ++ (k.Identifier l.name ∷ value)) = simp append_assoc in
    ap (local_at (suc n)) form
    ∙ then_is _ _ (l.is_partial, type_tokens l.type_name ++ (k.Identifier l.name ∷ value)) _ (optional_again at_sign partial refl l.is_partial _ (type_not_at l.type_name (k.Identifier l.name ∷ value)))
    (then_is _ _ (l.type_name, k.Identifier l.name ∷ value) _ (type_again l.type_name (k.Identifier l.name ∷ value) tt tt)
    (then_is _ _ (l.name, value) _ (name_again l.name value)
    (then_is _ _ (l.value, rest) _ (initialiser_again n l.value rest (p.0, omega (arith, p.1)) end) refl)))

-- what the tokens of a local begin with
pub record BeginsLocal (ks : Kinds) : Type 0 where
  pub is_local : local_ahead ks ≡ true
  pub not_semicolon : begins semicolon ks ≡ false
  pub goes_on : has_more ks ≡ true
  pub not_else : begins else_word ks ≡ false

type_begins : (t : TypeName) (name : List ℕ) (rest : Kinds) → BeginsLocal (type_tokens t ++ (k.Identifier name ∷ rest))
unfolding local_ahead begins_name begins same_token has_more
type_begins type_name.Int name rest = record { is_local = refl; not_semicolon = refl; goes_on = refl; not_else = refl }
type_begins type_name.Long name rest = record { is_local = refl; not_semicolon = refl; goes_on = refl; not_else = refl }
type_begins type_name.Boolean name rest = record { is_local = refl; not_semicolon = refl; goes_on = refl; not_else = refl }
type_begins (type_name.Named a) name rest = record { is_local = refl; not_semicolon = refl; goes_on = refl; not_else = refl }

partial_begins : (rest : Kinds) → BeginsLocal (at_sign ∷ partial ++ rest)
unfolding local_ahead is_named behind begins same_token has_more
partial_begins rest = record { is_local = refl; not_semicolon = refl; goes_on = refl; not_else = refl }

head_begins : (is_partial : Bool) (t : TypeName) (name : List ℕ) (rest : Kinds) → BeginsLocal (optional at_sign partial is_partial ++ (type_tokens t ++ (k.Identifier name ∷ rest)))
head_begins true t name rest = partial_begins _
head_begins false t name rest = type_begins t name rest

pub local_begins : (l : Local) (rest : Kinds) → BeginsLocal (local_tokens l ++ rest)
local_begins l rest =
    let form : optional at_sign partial l.is_partial ++ (type_tokens l.type_name ++ (k.Identifier l.name ∷ (initialiser l.value ++ rest))) ≡ local_tokens l ++ rest = sym (simp append_assoc) in
    subst BeginsLocal form (head_begins l.is_partial l.type_name l.name (initialiser l.value ++ rest))
