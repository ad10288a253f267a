-- Lists are read from their front.
use Rattle.std.proofs.Common.{List, ◌++◌, Ok}
use Rattle.graph_file.specs.Found.{Found}

-- the members that were read, before those that are found behind them
abbrev pub joined : {A : Type 0} → List A → List A → Found (List A)
joined done xs = Ok (done ++ xs)
