use Rattle.java_types.proofs.Signatures.{state_agrees, vector_agrees}
use Rattle.java_types.proofs.laws.methods_have_their_signatures.Goals as goal

pub returns : goal.returns
returns c = record { state = state_agrees; vector = vector_agrees }
