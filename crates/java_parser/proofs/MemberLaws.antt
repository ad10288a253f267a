-- Methods and members: what reading them takes, and that their tokens are read as them.
use Rattle.std.proofs.Common.{◌≡◌, ℕ, suc, ◌≤◌, true, false, List, [], ◌∷◌, ◌++◌, map, Ok, inl, inr, refl, sym, ap, ◌∙◌, append_assoc, arith}
use Rattle.std.specs.List.{flat_map}
use Rattle.java_tree.specs.declared.token.Kind.{Kind}
use Rattle.java_tree.specs.declared.token.Kind.TheVariants as k
use Rattle.java_tree.specs.declared.token.Reserved.TheVariants as word
use Rattle.java_tree.specs.declared.tree.Modifier.{Modifier}
use Rattle.java_tree.specs.declared.tree.Modifier.TheVariants as modifier
use Rattle.java_tree.specs.declared.tree.FieldModifier.{FieldModifier}
use Rattle.java_tree.specs.declared.tree.FieldModifier.TheVariants as field_modifier
use Rattle.java_tree.specs.declared.tree.TypeName.TheVariants as type_name
use Rattle.java_tree.specs.declared.tree.ResultType.{ResultType}
use Rattle.java_tree.specs.declared.tree.ResultType.TheVariants as result_type
use Rattle.java_tree.specs.declared.tree.Method.{Method}
use Rattle.java_tree.specs.declared.tree.Member.{Member}
use Rattle.java_tree.specs.declared.tree.Member.TheVariants as member
use Rattle.java_tree.specs.Tokens.{Kinds, in_parentheses, in_braces, separated, modifier_tokens, field_modifier_tokens, field_tokens, result_tokens, param_tokens, item_tokens, method_tokens, member_tokens}
use Rattle.java_tree.specs.Placed.{all_of, is_placed_member}
use Rattle.java_tree.specs.Heights.{greatest, member_height}
use Rattle.java_parser.specs.Words.{same_token, begins, after, name_at}
use Rattle.java_parser.specs.Members.{at_sign, assign, open_paren, close_paren, behind, has_modifier, modifier_ahead, access_ahead, access_of, modifiers_at, field_at, result_at, params_at}
use Rattle.java_parser.specs.Simples.{begins_name}
use Rattle.java_parser.specs.Statements.{has_more, block_at, statement_at}
use Rattle.java_parser.specs.Classes.{initialises, declares, field_ahead, method_at, member_at}
use Rattle.java_parser.proofs.Laws.{bind_ok, chosen, then_is, Takes, Keeps, Again, Any, given, kept, after_takes, after_again, both, name_takes, name_again, Begins}
use Rattle.java_parser.proofs.Around.{modifiers_take, modifiers_again, field_takes, field_again, result_takes, result_again, params_take, params_again}
use Rattle.java_parser.proofs.BlockLaws.{ItemsFit, block_takes, block_keeps, block_again}
use Rattle.java_parser.proofs.StatementLaws.{statement_reads}

abbrev pub MethodFits : ℕ → Method → Type 0
MethodFits n m = ItemsFit n m.body

pub method_form : (ms result : Kinds) (name : Kind) (params body rest : Kinds)
    → ms ++ (result ++ (name ∷ open_paren ∷ (params ++ (close_paren ∷ (body ++ rest))))) ≡ (ms ++ (result ++ (name ∷ (in_parentheses params ++ body)))) ++ rest
method_form ms result name params body rest = sym (simp append_assoc)

pub method_takes : (n : ℕ) → Takes (method_at n) method_tokens
unfolding method_at
method_takes n ks x e =
    let a = bind_ok (modifiers_at ks) _ x e in
    let b = bind_ok (result_at a.0.1) _ x a.2 in
    let c = bind_ok (name_at b.0.1) _ x b.2 in
    let d = bind_ok (after (open_paren ∷ []) c.0.1) _ x c.2 in
    let f = bind_ok (params_at d.0) _ x d.2 in
    let g = bind_ok (after (close_paren ∷ []) f.0.1) _ x f.2 in
    let h = bind_ok (block_at n (statement_at n) g.0) _ x g.2 in
    let ms = flat_map modifier_tokens a.0.0 in
    let params = separated (map param_tokens f.0.0) in
    let body = in_braces (flat_map item_tokens h.0.0) in
    let inner : d.0 ≡ params ++ (close_paren ∷ (body ++ h.0.1)) =
    params_take d.0 f.0 f.1 ∙ ap (λ (t : Kinds). params ++ t) (after_takes (close_paren ∷ []) f.0.1 g.0 g.1 ∙ ap (λ (t : Kinds). close_paren ∷ t) (block_takes n (statement_at n) (statement_reads n) g.0 h.0 h.1)) in
    let named : b.0.1 ≡ k.Identifier c.0.0 ∷ open_paren ∷ (params ++ (close_paren ∷ (body ++ h.0.1))) =
    name_takes b.0.1 c.0 c.1 ∙ ap (λ (t : Kinds). k.Identifier c.0.0 ∷ t) (after_takes (open_paren ∷ []) c.0.1 d.0 d.1 ∙ ap (λ (t : Kinds). open_paren ∷ t) inner) in
    given method_tokens ks (record { modifiers = a.0.0; result = b.0.0; name = c.0.0; params = f.0.0; body = h.0.0 }, h.0.1) x h.2
    (modifiers_take ks a.0 a.1 ∙ ap (λ (t : Kinds). ms ++ t) (result_takes a.0.1 b.0 b.1 ∙ ap (λ (t : Kinds). result_tokens b.0.0 ++ t) named)
    ∙ method_form ms (result_tokens b.0.0) (k.Identifier c.0.0) params body h.0.1)

pub method_keeps : (n : ℕ) → Keeps (method_at n) (MethodFits n)
unfolding method_at
method_keeps n ks x e =
    let a = bind_ok (modifiers_at ks) _ x e in
    let b = bind_ok (result_at a.0.1) _ x a.2 in
    let c = bind_ok (name_at b.0.1) _ x b.2 in
    let d = bind_ok (after (open_paren ∷ []) c.0.1) _ x c.2 in
    let f = bind_ok (params_at d.0) _ x d.2 in
    let g = bind_ok (after (close_paren ∷ []) f.0.1) _ x f.2 in
    let h = bind_ok (block_at n (statement_at n) g.0) _ x g.2 in
    kept (MethodFits n) (record { modifiers = a.0.0; result = b.0.0; name = c.0.0; params = f.0.0; body = h.0.0 }, h.0.1) x h.2
    (block_keeps n (statement_at n) (statement_reads n) g.0 h.0 h.1)

-- the one token of a result's type
pub record ResultWord (r : ResultType) : Type 0 where
  pub word : Kind
  pub tokens : result_tokens r ≡ word ∷ []
  pub stops : (rest : Kinds) → has_modifier (word ∷ rest) ≡ false

pub result_word : (r : ResultType) → ResultWord r
unfolding modifier_ahead
result_word result_type.Void = record { word = k.Reserved word.Void; tokens = refl; stops = λ rest. refl }
result_word (result_type.Type type_name.Int) = record { word = k.Reserved word.Int; tokens = refl; stops = λ rest. refl }
result_word (result_type.Type type_name.Long) = record { word = k.Reserved word.Long; tokens = refl; stops = λ rest. refl }
result_word (result_type.Type type_name.Boolean) = record { word = k.Reserved word.Boolean; tokens = refl; stops = λ rest. refl }
result_word (result_type.Type (type_name.Named name)) = record { word = k.Identifier name; tokens = refl; stops = λ rest. refl }

pub method_modifiers : (ms : List Modifier) (r : ResultType) (rest : Kinds) → modifiers_at (flat_map modifier_tokens ms ++ (result_tokens r ++ rest)) ≡ Ok (ms, result_tokens r ++ rest)
method_modifiers ms r rest =
    let w = result_word r in
    rw w.tokens (modifiers_again w.word rest (w.stops rest) ms)

pub method_again : (n : ℕ) → Again (method_at n) method_tokens (MethodFits n) Any
unfolding method_at
method_again n m rest p g =
    let ms = flat_map modifier_tokens m.modifiers in
    let params = separated (map param_tokens m.params) in
    let body = in_braces (flat_map item_tokens m.body) in
    let inside = params ++ (close_paren ∷ (body ++ rest)) in
    let named = k.Identifier m.name ∷ open_paren ∷ inside in
    ap (method_at n) (sym (method_form ms (result_tokens m.result) (k.Identifier m.name) params body rest))
    ∙ then_is _ _ (m.modifiers, result_tokens m.result ++ named) _ (method_modifiers m.modifiers m.result named)
    (then_is _ _ (m.result, named) _ (result_again m.result named tt tt)
    (then_is _ _ (m.name, open_paren ∷ inside) _ (name_again m.name (open_paren ∷ inside))
    (then_is _ _ inside _ (after_again (open_paren ∷ []) inside refl)
    (then_is _ _ (m.params, close_paren ∷ (body ++ rest)) _ (params_again m.params (body ++ rest))
    (then_is _ _ (body ++ rest) _ (after_again (close_paren ∷ []) (body ++ rest) refl)
    (then_is _ _ (m.body, rest) _ (block_again n (statement_at n) (statement_reads n) m.body rest p tt) refl))))))

-- ---- members

abbrev pub MemberFits : ℕ → Member → Type 0
MemberFits n m = (is_placed_member m ≡ true) × (member_height m ≤ suc n)

pub member_takes : (n : ℕ) → Takes (member_at n) member_tokens
unfolding member_at
member_takes n ks x e =
    elim (chosen (field_ahead ks) _ _ (Ok x) e) [
      | inl h ↦ let a = bind_ok (field_at ks) _ x h.1 in given member_tokens ks (member.Field a.0.0, a.0.1) x a.2 (field_takes ks a.0 a.1)
      | inr h ↦ let a = bind_ok (method_at n ks) _ x h.1 in given member_tokens ks (member.Method a.0.0, a.0.1) x a.2 (method_takes n ks a.0 a.1)
    ]

pub member_keeps : (n : ℕ) → Keeps (member_at n) (MemberFits n)
unfolding member_at
member_keeps n ks x e =
    elim (chosen (field_ahead ks) _ _ (Ok x) e) [
      | inl h ↦ let a = bind_ok (field_at ks) _ x h.1 in kept (MemberFits n) (member.Field a.0.0, a.0.1) x a.2 (refl, omega arith)
      | inr h ↦ let a = bind_ok (method_at n ks) _ x h.1 in let fits = method_keeps n ks a.0 a.1 in
          kept (MemberFits n) (member.Method a.0.0, a.0.1) x a.2 (fits.0, omega (arith, fits.1))
    ]

pub public_goes_on : (rest : Kinds) → field_ahead (k.Reserved word.Public ∷ rest) ≡ field_ahead rest
unfolding field_ahead access_ahead modifier_ahead access_of
public_goes_on rest = refl

pub private_goes_on : (rest : Kinds) → field_ahead (k.Reserved word.Private ∷ rest) ≡ field_ahead rest
unfolding field_ahead access_ahead modifier_ahead access_of
private_goes_on rest = refl

pub annotation_declares : (rest : Kinds) → field_ahead (at_sign ∷ rest) ≡ true
unfolding field_ahead access_ahead modifier_ahead declares begins same_token
annotation_declares rest = refl

pub type_declares : (type_name name : List ℕ) (rest : Kinds) → field_ahead (k.Identifier type_name ∷ k.Identifier name ∷ assign ∷ rest) ≡ true
unfolding field_ahead access_ahead modifier_ahead declares initialises begins_name behind begins same_token
type_declares type_name name rest = refl

pub field_is_ahead : (ms : List FieldModifier) (type_name name : List ℕ) (rest : Kinds) → field_ahead (flat_map field_modifier_tokens ms ++ (k.Identifier type_name ∷ k.Identifier name ∷ assign ∷ rest)) ≡ true
field_is_ahead [] type_name name rest = type_declares type_name name rest
field_is_ahead (field_modifier.Partitioned ∷ ms) type_name name rest = annotation_declares _
field_is_ahead (field_modifier.Partial ∷ ms) type_name name rest = annotation_declares _
field_is_ahead (field_modifier.Public ∷ ms) type_name name rest = public_goes_on _ ∙ field_is_ahead ms type_name name rest
field_is_ahead (field_modifier.Private ∷ ms) type_name name rest = private_goes_on _ ∙ field_is_ahead ms type_name name rest

pub static_declares : (rest : Kinds) → field_ahead (k.Reserved word.Static ∷ rest) ≡ false
unfolding field_ahead access_ahead modifier_ahead access_of declares begins_name begins same_token
static_declares rest = refl

pub result_declares : (r : ResultType) (name : List ℕ) (rest : Kinds) → field_ahead (result_tokens r ++ (k.Identifier name ∷ open_paren ∷ rest)) ≡ false
unfolding field_ahead access_ahead modifier_ahead declares initialises begins_name behind begins same_token
result_declares result_type.Void name rest = refl
result_declares (result_type.Type type_name.Int) name rest = refl
result_declares (result_type.Type type_name.Long) name rest = refl
result_declares (result_type.Type type_name.Boolean) name rest = refl
result_declares (result_type.Type (type_name.Named t)) name rest = refl

pub method_is_ahead : (ms : List Modifier) (r : ResultType) (name : List ℕ) (rest : Kinds) → field_ahead (flat_map modifier_tokens ms ++ (result_tokens r ++ (k.Identifier name ∷ open_paren ∷ rest))) ≡ false
method_is_ahead [] r name rest = result_declares r name rest
method_is_ahead (modifier.Public ∷ ms) r name rest = public_goes_on _ ∙ method_is_ahead ms r name rest
method_is_ahead (modifier.Private ∷ ms) r name rest = private_goes_on _ ∙ method_is_ahead ms r name rest
method_is_ahead (modifier.Static ∷ ms) r name rest = static_declares _

pub member_again : (n : ℕ) → Again (member_at n) member_tokens (MemberFits n) Any
unfolding member_at
member_again n (member.Field f) rest p g =
    let ahead : field_ahead (field_tokens f ++ rest) ≡ true = ap field_ahead (append_assoc (flat_map field_modifier_tokens f.modifiers) _ rest) ∙ field_is_ahead f.modifiers f.type_name f.name _ in
    rw ahead (then_is _ _ (f, rest) _ (field_again f rest tt tt) refl)
member_again n (member.Method m) rest p g =
    let params = separated (map param_tokens m.params) in
    let body = in_braces (flat_map item_tokens m.body) in
    let form = method_form (flat_map modifier_tokens m.modifiers) (result_tokens m.result) (k.Identifier m.name) params body rest in
    let ahead : field_ahead (method_tokens m ++ rest) ≡ false = ap field_ahead (sym form) ∙ method_is_ahead m.modifiers m.result m.name _ in
    rw ahead (then_is _ _ (m, rest) _ (method_again n m rest (p.0, omega (arith, p.1)) tt) refl)

-- what the tokens of a member begin with
pub field_begins : (ms : List FieldModifier) (type_name : List ℕ) (rest : Kinds) → has_more (flat_map field_modifier_tokens ms ++ (k.Identifier type_name ∷ rest)) ≡ true
unfolding has_more same_token
field_begins [] type_name rest = refl
field_begins (field_modifier.Partitioned ∷ ms) type_name rest = refl
field_begins (field_modifier.Partial ∷ ms) type_name rest = refl
field_begins (field_modifier.Public ∷ ms) type_name rest = refl
field_begins (field_modifier.Private ∷ ms) type_name rest = refl

pub result_begins : (r : ResultType) (rest : Kinds) → has_more (result_tokens r ++ rest) ≡ true
unfolding has_more same_token
result_begins result_type.Void rest = refl
result_begins (result_type.Type type_name.Int) rest = refl
result_begins (result_type.Type type_name.Long) rest = refl
result_begins (result_type.Type type_name.Boolean) rest = refl
result_begins (result_type.Type (type_name.Named t)) rest = refl

pub method_begins : (ms : List Modifier) (r : ResultType) (rest : Kinds) → has_more (flat_map modifier_tokens ms ++ (result_tokens r ++ rest)) ≡ true
unfolding has_more same_token
method_begins [] r rest = result_begins r rest
method_begins (modifier.Public ∷ ms) r rest = refl
method_begins (modifier.Private ∷ ms) r rest = refl
method_begins (modifier.Static ∷ ms) r rest = refl

pub member_on : (m : Member) (rest : Kinds) → has_more (member_tokens m ++ rest) ≡ true
member_on (member.Field f) rest = ap has_more (append_assoc (flat_map field_modifier_tokens f.modifiers) _ rest) ∙ field_begins f.modifiers f.type_name _
member_on (member.Method m) rest =
    let params = separated (map param_tokens m.params) in
    let body = in_braces (flat_map item_tokens m.body) in
    ap has_more (sym (method_form (flat_map modifier_tokens m.modifiers) (result_tokens m.result) (k.Identifier m.name) params body rest)) ∙ method_begins m.modifiers m.result _

pub member_begins : Begins has_more member_tokens
unfolding has_more
member_begins = record { on = member_on; off = refl }

abbrev pub MembersFit : ℕ → List Member → Type 0
MembersFit n ms = (all_of is_placed_member ms ≡ true) × (greatest (map member_height ms) ≤ suc n)

pub one_more_fits : (n : ℕ) (m : Member) (ms : List Member) → MemberFits n m → MembersFit n ms → MembersFit n (m ∷ ms)
one_more_fits n m ms p q = (rw p.0 q.0, omega (arith, p.1, q.1))

pub each_fits : (n : ℕ) (m : Member) (ms : List Member) → MembersFit n (m ∷ ms) → MemberFits n m × MembersFit n ms
each_fits n m ms p = let q = both (is_placed_member m) (all_of is_placed_member ms) p.0 in ((q.0, omega (arith, p.1)), (q.1, omega (arith, p.1)))

pub none_fit : (n : ℕ) → MembersFit n []
none_fit n = (refl, omega arith)
