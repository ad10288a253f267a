-- The values of one part more.
use Rattle.std.proofs.Common.{◌≡◌, List, [], ◌∷◌, ◌++◌, Option, None, ap, ◌∙◌}
use Rattle.std.specs.List.{filter_map}
use Rattle.std.specs.List.{cons_option}
use Rattle.std.proofs.lemmas.List.{append-nil}
use Rattle.std.proofs.lemmas.List.Elements.{filter_map-append}
use Rattle.sdg_base.specs.declared.val.Outcome.{Outcome}
use Rattle.access_blocks.specs.Source.{value_in}

pub one_more : (parts : List (Option Outcome)) (part : Option Outcome) → filter_map value_in (parts ++ part ∷ []) ≡ filter_map value_in parts ++ filter_map value_in (part ∷ [])
one_more parts part = filter_map-append value_in parts (part ∷ [])

pub none_more : (parts : List (Option Outcome)) (part : Option Outcome) → value_in part ≡ None → filter_map value_in (parts ++ part ∷ []) ≡ filter_map value_in parts
none_more parts part none =
    one_more parts part ∙ ap (λ one. filter_map value_in parts ++ cons_option one []) none ∙ append-nil (filter_map value_in parts)
