-- What bytes are read as: a graph, where they are exactly its text.
use Rattle.std.specs.Prelude.{ℕ, List, [], if◌then◌else◌, Option, Some, None, Result, Ok, Err}
use Rattle.std.specs.Str.{bytes_eq, is_utf8}
use Rattle.serde_json.specs.Data.{Data}
use Rattle.serde_json.specs.Read.{read}
use Rattle.flat_code.specs.declared.graph.Graph.{Graph}
use Rattle.graph_file.specs.declared.error.GraphError.{GraphError}
use Rattle.graph_file.specs.declared.error.GraphError.TheVariants.{NotJson, NotGraph, Memory}
use Rattle.graph_file.specs.declared.fault.Fault.{Fault}
use Rattle.graph_file.specs.declared.fault.Fault.TheVariants as fault
use Rattle.graph_file.specs.Found.{Found}
use Rattle.graph_file.specs.Forms.{graph_form}
use Rattle.graph_file.specs.Written.{graph_text}

-- the value of a JSON text, which is UTF-8
abbrev pub json_of : List ℕ → Option Data
json_of bytes = if is_utf8 bytes then read bytes else None

abbrev pub of_graph : List ℕ → Graph → Result Graph GraphError
of_graph bytes g = if bytes_eq bytes (graph_text g) then Ok g else Err (NotGraph [])

abbrev pub of_form : List ℕ → Found Graph → Result Graph GraphError
of_form bytes (Err path) = Err (NotGraph path)
of_form bytes (Ok g) = of_graph bytes g

abbrev pub of_json : List ℕ → Option Data → Result Graph GraphError
of_json bytes None = Err NotJson
of_json bytes (Some d) = of_form bytes (graph_form d)

unfoldable pub reading : List ℕ → Result Graph GraphError
reading bytes = of_json bytes (json_of bytes)

-- why a file with a fault in its form is refused
abbrev pub refusal_of : Fault → GraphError
refusal_of (fault.Misfit path) = NotGraph path
refusal_of fault.Memory = Memory
