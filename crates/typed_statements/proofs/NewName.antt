-- One more name comes into scope, of a local that no other name in scope hides: the others mean what they meant.
use Rattle.std.proofs.Common.{◌≡◌, ℕ, ◌<◌, Bool, true, false, List, [], ◌∷◌, ◌++◌, length, slice_get, if◌then◌else◌, Option, Some, None, refl, sym, ap, subst, ◌∙◌, ◌⊎◌, inl, inr}
use Rattle.std.specs.Str.{bytes_eq}
use Rattle.java_tree.specs.declared.types.ValueType.{ValueType}
use Rattle.java_tree.specs.declared.types.ExprType.{ExprType}
use Rattle.java_tree.specs.declared.types.ExprType.TheVariants.{State, Value}
use Rattle.java_tree.specs.declared.types.Declaration.TheVariants as declaration
use Rattle.java_types.specs.declared.walk.Signature.{Signature}
use Rattle.java_types.specs.declared.walk.Variable.{Variable}
use Rattle.java_types.specs.Names.{entry_of}
use Rattle.java_types.specs.Walks.{first_of}
use Rattle.access_blocks.specs.declared.body.Expression.TheVariants as x
use Rattle.access_blocks.specs.Cursors.{variable_of}
use Rattle.access_blocks.specs.Resolving.{class_at}
use Rattle.body_code.specs.Typing.{type_by, variable_type}
use Rattle.typed_bodies.specs.Reading.{Place, IsSound, IsOneMethod, IsOfType, cursor_at, known_as, is_plain, is_method}
use Rattle.typed_bodies.specs.Needing.{InScope}
use Rattle.typed_bodies.proofs.Conversions.{variable_is}
use Rattle.typed_statements.specs.Points.{Setting, IsHeld, Agree}

-- ---- what a name stands for, with one more name behind the others

entry_more : (other name : List ℕ) (v : Variable) (es : List (List ℕ × Variable)) → entry_of other (es ++ (name, v) ∷ []) ≡ first_of (entry_of other es) (entry_of other ((name, v) ∷ []))
entry_more other name v [] = refl
entry_more other name v (e ∷ es) = by (bytes_eq other e.0) (entry_more other name v es)
  where
    by : (b : Bool) → entry_of other (es ++ (name, v) ∷ []) ≡ first_of (entry_of other es) (entry_of other ((name, v) ∷ []))
        → (if b then Some e.1 else entry_of other (es ++ (name, v) ∷ [])) ≡ first_of (if b then Some e.1 else entry_of other es) (entry_of other ((name, v) ∷ []))
    by true same = refl
    by false same = same

one_of : (before field : Option Variable) (b : Bool) (v it : Variable) → first_of (first_of before (if b then Some v else None)) field ≡ Some it → (first_of before field ≡ Some it) ⊎ (it ≡ v)
one_of (Some u) field b v it is = inl is
one_of None field true v it is = inr (cc)
one_of None field false v it is = inl is

abbrev pub with_name : Place → List ℕ → Variable → Place
with_name p name v = record p { known = p.known ++ (name, v) ∷ [] }

pub known_either : (p : Place) (name : List ℕ) (v : Variable) (other : List ℕ) (it : Variable) → known_as (with_name p name v) other ≡ Some it → (known_as p other ≡ Some it) ⊎ (it ≡ v)
known_either p name v other it is =
    one_of (entry_of other p.known) (entry_of other p.env.fields) (bytes_eq other name) v it (ap (λ o. first_of o (entry_of other p.env.fields)) (sym (entry_more other name v p.known)) ∙ is)

-- ---- a local that has no name there yet

pub record IsLocal (p : Place) (v : Variable) : Type 0 where
  pub local : ℕ
  pub is_local : v.declaration ≡ declaration.Local local
  pub within : local < length p.locals
  pub type : ValueType
  pub found : v.found ≡ Value type
  pub number : ℕ
  pub is_number : is_plain p v.declaration ≡ true → variable_of (cursor_at p) (Some v.declaration) ≡ number
  pub so_far : is_plain p v.declaration ≡ true → slice_get p.variables number ≡ Some type
  pub typed : is_plain p v.declaration ≡ true → variable_type p.context number ≡ Some (type_by type)

module _ (k : Setting) (p : Place) (name : List ℕ) (v : Variable) (g : Agree k p) (n : IsLocal p v) where
  abbrev q : Place
  q = with_name p name v

  one_method : (s : Signature) → IsOneMethod p s → IsOneMethod q s
  one_method s m = record {
    is_sound = m.is_sound;
    header = m.header;
    is_header = m.is_header;
    header_params = m.header_params;
    header_merges = m.header_merges;
    callee = m.callee;
    is_callee = m.is_callee;
    kind = m.kind;
    takes = m.takes;
    merged = m.merged;
    gives = m.gives;
  }

  same_value : (s t : ValueType) → Value s ≡ Value t → s ≡ t
  same_value s t e = cc

  same_local : (i j : ℕ) → declaration.Local i ≡ declaration.Local j → i ≡ j
  same_local i j e = cc

  -- its variable has its type
  own_type : is_plain p v.declaration ≡ true → IsOfType p.context v.found (x.Variable (variable_of (cursor_at p) (Some v.declaration)))
  own_type plain =
      subst (λ (t : ExprType). IsOfType p.context t (x.Variable (variable_of (cursor_at p) (Some v.declaration)))) (sym n.found)
      (variable_is p.context _ ∙ (ap (λ i. variable_type p.context i) (n.is_number plain) ∙ n.typed plain))

  own_slot : (t : ValueType) → is_plain p v.declaration ≡ true → v.found ≡ Value t → slice_get p.variables (variable_of (cursor_at p) (Some v.declaration)) ≡ Some t
  own_slot t plain found =
      ap (λ i. slice_get p.variables i) (n.is_number plain) ∙ (n.so_far plain ∙ ap (λ s. Some s) (same_value n.type t (sym n.found ∙ found)))

  of_either : (P : Variable → Type 0) (other : List ℕ) (it : Variable) → known_as q other ≡ Some it → (known_as p other ≡ Some it → P it) → P v → P it
  of_either P other it is before own = by (known_either p name v other it is)
    where
      by : (known_as p other ≡ Some it) ⊎ (it ≡ v) → P it
      by (inl e) = before e
      by (inr e) = subst P (sym e) own

  no_field : (field : ℕ) → v.declaration ≡ declaration.Field field → ⊥
  no_field field d = never local_field
    where
      local_field : declaration.Local n.local ≡ declaration.Field field
      local_field = sym n.is_local ∙ d

      never : declaration.Local n.local ≡ declaration.Field field → ⊥
      never e = absurd (cc)

  sound_named : IsSound q
  sound_named = record {
    variables = λ other it is plain.
        of_either (λ (u : Variable). is_plain p u.declaration ≡ true → IsOfType p.context u.found (x.Variable (variable_of (cursor_at p) (Some u.declaration)))) other it is
        (λ e. g.sound.variables other it e) own_type plain;
    fields = λ other it field is d.
        of_either (λ (u : Variable). u.declaration ≡ declaration.Field field → u.found ≡ State (class_at p.scope field)) other it is (λ e. g.sound.fields other it field e) (λ e. absurd (no_field field e)) d;
    no_methods = λ other it is. of_either (λ (u : Variable). is_method u.declaration ≡ false) other it is (λ e. g.sound.no_methods other it e) (ap is_method n.is_local);
    methods = λ other s is. one_method s (g.sound.methods other s is);
    merging = g.sound.merging;
  }

  pub agree_named : Agree k q
  agree_named = record {
    sound = sound_named;
    held = λ other it field is d.
        of_either (λ (u : Variable). u.declaration ≡ declaration.Field field → IsHeld k field) other it is (λ e. g.held other it field e) (λ e. absurd (no_field field e)) d;
    of_type = λ other it t is plain found.
        of_either (λ (u : Variable). is_plain p u.declaration ≡ true → u.found ≡ Value t → slice_get p.variables (variable_of (cursor_at p) (Some u.declaration)) ≡ Some t) other it is
        (λ e. g.of_type other it t e) (own_slot t) plain found;
    in_range = λ other it i is d.
        of_either (λ (u : Variable). u.declaration ≡ declaration.Local i → i < length p.locals) other it is (λ e. g.in_range other it i e)
        (λ e. subst (λ j. j < length p.locals) (same_local n.local i (sym n.is_local ∙ e)) n.within) d;
    has_collection = g.has_collection;
  }

  -- which variables are in scope then
  pub scope_either : (i : ℕ) → InScope q i → InScope p i ⊎ ((is_plain p v.declaration ≡ true) × (i ≡ n.number))
  scope_either i s = by (known_either p name v s.name s.it s.is)
    where
      by : (known_as p s.name ≡ Some s.it) ⊎ (s.it ≡ v) → InScope p i ⊎ ((is_plain p v.declaration ≡ true) × (i ≡ n.number))
      by (inl e) = inl (record { name = s.name; it = s.it; is = e; plain = s.plain; number = s.number })
      by (inr e) =
          let plain : is_plain p v.declaration ≡ true = subst (λ (u : Variable). is_plain p u.declaration ≡ true) e s.plain in
          inr (plain, s.number ∙ (ap (λ (u : Variable). variable_of (cursor_at p) (Some u.declaration)) e ∙ n.is_number plain))
