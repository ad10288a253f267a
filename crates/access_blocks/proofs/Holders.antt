-- Fields without a kind.
use Rattle.std.proofs.Common.{◌≡◌, ℕ, ◌≤◌, ◌++◌, List, [], ◌∷◌, length, drop, refl, ap, ◌∙◌}
use Rattle.std.proofs.lemmas.List.{append-nil, drop_all}
use Rattle.sdg_base.specs.declared.store.ClassName.{ClassName}
use Rattle.annotations.specs.declared.site.FieldKind.{FieldKind}
use Rattle.access_blocks.specs.declared.body.Holder.{Holder}
use Rattle.access_blocks.specs.Programs.{holders}

without_kinds : (classes : List ClassName) → holders classes [] ≡ []
without_kinds [] = refl
without_kinds (c ∷ classes) = refl

-- Behind the last kind there are no more.
pub behind_kinds : (all : List Holder) (n : ℕ) (classes : List ClassName) (kinds : List FieldKind) → length kinds ≤ n → all ++ holders (drop n classes) (drop n kinds) ≡ all
behind_kinds all n classes kinds h =
    ap (λ rest. all ++ holders (drop n classes) rest) (drop_all n kinds h) ∙ ap (λ rest. all ++ rest) (without_kinds (drop n classes)) ∙ append-nil all
