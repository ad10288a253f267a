-- A signature of the program, as the definitions have it.
use Rattle.sdg_base.specs.Signatures as definitions
use Rattle.state_classes.specs.declared.signature.Signature.{Signature}

abbrev pub signature_of : Signature → definitions.Signature
signature_of s = record { arguments = s.arguments.now; result = s.result; keyed = s.keyed }
