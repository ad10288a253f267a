use Rattle.std.proofs.Common.{◌≡◌, ◌++◌, map, take, drop}
use Rattle.std.specs.List.{AllZip}
use Rattle.std.specs.Option.{option_copied}
use Rattle.run_text.specs.Lines.{words}
use Rattle.run_text.specs.Parts.{parts_of}
use Rattle.run_text.specs.Values.{Fits, value_text}
use Rattle.run_text.proofs.value.values_of.Given as goal

-- the values so far have the types of the parameters so far, and are written in front of the words to come
abbrev pub invariant-loop-parameter : goal.invariant-loop-parameter
invariant-loop-parameter l = record {
  fit : AllZip Fits (take l.parameter-index l.parameters) l.values;
  told : map value_text l.values ++ parts_of 32 (option_copied l.later) ≡ drop 1 (words l.line);
}
