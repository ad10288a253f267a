-- What bytes are read as, step by step; what is written of a writable graph is read as it.
use Rattle.std.proofs.Common.{◌≡◌, ◌≢◌, ℕ, List, Bool, true, false, Some, None, Result, Ok, Err, refl, sym, ap, ◌∙◌}
use Rattle.std.specs.Str.{IsUtf8, is_utf8}
use Rattle.std.proofs.lemmas.Str.{IsUtf8-from_is_utf8, is_utf8-from_IsUtf8}
use Rattle.std.proofs.lemmas.Slice.Eq.{bytes_eq-Decides}
use Rattle.serde_json.specs.Data.{Data}
use Rattle.serde_json.specs.Read.{read}
use Rattle.flat_code.specs.declared.graph.Graph.{Graph}
use Rattle.graph_file.specs.Written.{graph_data, graph_text}
use Rattle.graph_file.specs.Writable.{IsWritable}
use Rattle.graph_file.specs.Forms.{graph_form}
use Rattle.graph_file.specs.Found.{Found, Tells}
use Rattle.graph_file.specs.Reading.{json_of, of_graph, of_form, of_json, reading, refusal_of}
use Rattle.graph_file.specs.declared.error.GraphError.{GraphError}
use Rattle.graph_file.specs.declared.error.GraphError.TheVariants.{NotJson, Memory}
use Rattle.graph_file.specs.declared.fault.Fault.{Fault}
use Rattle.graph_file.specs.declared.fault.Fault.TheVariants as fault
use Rattle.graph_file.proofs.Back.{graph_back}
use Rattle.graph_file.proofs.Depths.{graph_depth}
use Rattle.graph_file.proofs.Exact.{text_utf8, read_text}
use Rattle.graph_file.proofs.Exactness.{graph_exact}

json_is : (bytes : List ℕ) (d : Data) → IsUtf8 bytes → read bytes ≡ Some d → json_of bytes ≡ Some d
json_is bytes d utf8 e = rw (is_utf8-from_IsUtf8 bytes utf8) e

pub reading_of_json : (bytes : List ℕ) (d : Data) → IsUtf8 bytes → read bytes ≡ Some d → reading bytes ≡ of_form bytes (graph_form d)
unfolding reading
reading_of_json bytes d utf8 e = ap (of_json bytes) (json_is bytes d utf8 e)

no_json : (bytes : List ℕ) (b : Bool) → is_utf8 bytes ≡ b → (IsUtf8 bytes → read bytes ≡ None) → json_of bytes ≡ None
no_json bytes true e none = rw e (none (IsUtf8-from_is_utf8 bytes e))
no_json bytes false e none = rw e

pub reading_of_none : (bytes : List ℕ) → (IsUtf8 bytes → read bytes ≡ None) → reading bytes ≡ Err NotJson
unfolding reading
reading_of_none bytes none = ap (of_json bytes) (no_json bytes (is_utf8 bytes) refl none)

pub refusal_of_misfit : (bytes : List ℕ) (found : Found Graph) (f : Fault) (r : Result Graph GraphError) → Tells found (Err f) → r ≡ Err (refusal_of f) → r ≢ Err Memory → r ≡ of_form bytes found
refusal_of_misfit bytes found (fault.Misfit path) r e is other = is ∙ sym (ap (of_form bytes) e)
refusal_of_misfit bytes found fault.Memory r e is other = absurd (other is)

graph_same : (bytes : List ℕ) (g : Graph) → bytes ≡ graph_text g → of_graph bytes g ≡ Ok g
graph_same bytes g e = rw ((bytes_eq-Decides bytes (graph_text g)).1 e)

form_back : (bytes : List ℕ) (g : Graph) → IsWritable g → bytes ≡ graph_text g → of_form bytes (graph_form (graph_data g)) ≡ Ok g
form_back bytes g h e = rw (graph_back g h) (graph_same bytes g e)

-- a graph that a file can hold is read of its text
pub reading-graph_text : (g : Graph) → IsWritable g → reading (graph_text g) ≡ Ok g
unfolding graph_text
reading-graph_text g h =
    let d = graph_data g in
    let e = graph_exact g h in
    reading_of_json (graph_text g) d (text_utf8 d e) (read_text d e (graph_depth g)) ∙ form_back (graph_text g) g h refl
