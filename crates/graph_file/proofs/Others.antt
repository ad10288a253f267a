-- Lists of other lengths than the form's.
use Rattle.std.proofs.Common.{◌≡◌, ◌≢◌, List, [], ◌∷◌, length, Err, refl}
use Rattle.serde_json.specs.Data.{Data, array}
use Rattle.serde_json.specs.View.{items_view}
use Rattle.serde_json.specs.declared.value.Value.{Value}
use Rattle.flat_code.specs.declared.graph.Instr.{Instr}
use Rattle.graph_file.specs.Found.{Found}
use Rattle.graph_file.specs.Forms.{none, one, bin_form, access_form, field_form}

pub none_else : (i : Instr) (vs : List Value) → length vs ≢ 0 → none (items_view vs) i ≡ Err []
none_else i [] h = absurd (h refl)
none_else i (v ∷ vs) h = refl

pub one_else : {A : Type 0} (form : Data → Found A) (vs : List Value) → length vs ≢ 1 → one form (items_view vs) ≡ Err []
one_else form [] h = refl
one_else form (v ∷ []) h = absurd (h refl)
one_else form (v ∷ w ∷ vs) h = refl

pub bin_else : (vs : List Value) → length vs ≢ 2 → bin_form (items_view vs) ≡ Err []
bin_else [] h = refl
bin_else (v ∷ []) h = refl
bin_else (v ∷ w ∷ []) h = absurd (h refl)
bin_else (v ∷ w ∷ x ∷ vs) h = refl

pub access_else : (vs : List Value) → length vs ≢ 2 → access_form (items_view vs) ≡ Err []
access_else [] h = refl
access_else (v ∷ []) h = refl
access_else (v ∷ w ∷ []) h = absurd (h refl)
access_else (v ∷ w ∷ x ∷ vs) h = refl

pub field_else : (vs : List Value) → length vs ≢ 3 → field_form (array (items_view vs)) ≡ Err []
field_else [] h = refl
field_else (v ∷ []) h = refl
field_else (v ∷ w ∷ []) h = refl
field_else (v ∷ w ∷ x ∷ []) h = absurd (h refl)
field_else (v ∷ w ∷ x ∷ y ∷ vs) h = refl
