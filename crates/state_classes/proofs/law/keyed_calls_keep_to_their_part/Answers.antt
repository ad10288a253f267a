use Rattle.std.specs.Cmp.{int_cmp_total}
use Rattle.std.specs.Ordering.{int_cmp}
use Rattle.state_classes.specs.Entries.{by_row_and_column}
use Rattle.state_classes.proofs.Parts.{others_stay, by_row_and_column_total}
use Rattle.state_classes.specs.Kept.{table_keeps, matrix_keeps}
use Rattle.state_classes.proofs.law.keyed_calls_keep_to_their_part.Goals as goal

pub returns-clause-table : goal.returns-clause-table
returns-clause-table c = table_keeps

pub returns-clause-matrix : goal.returns-clause-matrix
returns-clause-matrix c = matrix_keeps

pub returns-clause-other_keys : goal.returns-clause-other_keys
returns-clause-other_keys c = others_stay int_cmp int_cmp_total

pub returns-clause-other_elements : goal.returns-clause-other_elements
returns-clause-other_elements c = others_stay by_row_and_column by_row_and_column_total
