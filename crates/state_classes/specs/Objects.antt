-- What an object of the program holds.
use Rattle.state_classes.specs.declared.object.Object.{Object}
use Rattle.state_classes.specs.declared.object.Object.TheVariants as object
use Rattle.state_classes.specs.States.{State, OfTable, OfMatrix, OfCounter}

abbrev pub state_of : Object → State
state_of (object.Table entries) = OfTable entries
state_of (object.Matrix entries) = OfMatrix entries
state_of (object.Counter value) = OfCounter value
