use Rattle.java_flow.proofs.ExpressionsPass.{expr_passes, value_passes, call_passes}
use Rattle.java_flow.proofs.SimplesPass.{local_passes, simple_passes, header_passes}
use Rattle.java_flow.proofs.StatementsPass.{item_passes, statement_passes}
use Rattle.java_flow.proofs.MembersPass.{member_passes, class_passes}
use Rattle.java_flow.proofs.laws.passes_each_token.Goals as goal

pub returns : goal.returns
returns c = record {
  expr = expr_passes;
  value = value_passes;
  call = call_passes;
  local = local_passes;
  simple = simple_passes;
  header = header_passes;
  statement = statement_passes;
  item = item_passes;
  member = member_passes;
  class = class_passes;
}
