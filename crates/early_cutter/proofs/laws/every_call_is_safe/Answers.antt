use Rattle.early_plain.specs.Fits.{CallFits}
use Rattle.early_cutter.specs.Agrees.{Agrees}
use Rattle.early_cutter.specs.Cutting.{graph_of}
use Rattle.early_forms.specs.Trees.{class_tree}
use Rattle.agreement.proofs.Safety.{starts_safe}
use Rattle.early_cutter.proofs.Simulates.{simulates}
use Rattle.early_cutter.proofs.laws.every_call_is_safe.Goals as goal

pub returns : goal.returns
returns c = λ class calls slots proper fit.
    starts_safe (class_tree class) (graph_of class) slots (CallFits class) (Agrees class.fields (graph_of class) slots) (simulates class slots proper) calls fit
