use Rattle.typed_bodies.proofs.FindingsStay.{expression_stays, value_stays, call_stays}
use Rattle.typed_bodies.proofs.VariablesStay.{expression_keeps, value_keeps, call_keeps, compound_keeps}
use Rattle.typed_bodies.proofs.law.parts_stay.Goals as goal

pub returns : goal.returns
returns c = record {
  found_before = expression_stays;
  found_before_value = value_stays;
  found_before_call = call_stays;
  expressions_keep = expression_keeps;
  values_keep = value_keeps;
  calls_keep = call_keeps;
  compounds_keep = compound_keeps;
}
