-- Names in a map, as a list of names.
use Rattle.std.proofs.Common.{◌≡◌, ℕ, true, false, cond, List, [], ◌∷◌, ◌++◌, map, Option, Some, None, is_some, if◌then◌else◌, refl, ap}
use Rattle.std.specs.Map.{lookup}
use Rattle.std.specs.Str.{bytes_eq}
use Rattle.java_types.specs.Names.{entry_of, with_entry}

module _ {K T : Type 0} (text : K → List ℕ) where
  abbrev pub viewed : List (K × T) → List (List ℕ × T)
  viewed es = map (λ e. (text e.0, e.1)) es

  pub entry_of-viewed : (name : List ℕ) (es : List (K × T)) → lookup (λ k. bytes_eq name (text k)) es ≡ entry_of name (viewed es)
  entry_of-viewed name [] = refl
  entry_of-viewed name (e ∷ es) = ap (λ r. cond (bytes_eq name (text e.0)) (Some e.1) r) (entry_of-viewed name es)

  pub viewed-push : (es : List (K × T)) (k : K) (t : T) → viewed (es ++ (k, t) ∷ []) ≡ viewed es ++ (text k, t) ∷ []
  viewed-push [] k t = refl
  viewed-push (e ∷ es) k t = ap (λ r. (text e.0, e.1) ∷ r) (viewed-push es k t)

module _ {T : Type 0} (name : List ℕ) (item : T) (entries : List (List ℕ × T)) where
  pub with_entry-known : is_some (entry_of name entries) ≡ true → with_entry name item entries ≡ entries
  with_entry-known known = ap (λ b. if b then entries else entries ++ (name, item) ∷ []) known

  pub with_entry-new : is_some (entry_of name entries) ≡ false → with_entry name item entries ≡ entries ++ (name, item) ∷ []
  with_entry-new new = ap (λ b. if b then entries else entries ++ (name, item) ∷ []) new

pub none_from : {A : Type 0} (o : Option A) → is_some o ≡ false → o ≡ None
none_from None h = refl
none_from (Some x) h = absurd (cc)
