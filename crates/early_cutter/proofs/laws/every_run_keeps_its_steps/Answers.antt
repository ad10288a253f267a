use Rattle.early_plain.specs.Fits.{CallFits}
use Rattle.early_cutter.specs.Agrees.{Agrees}
use Rattle.early_cutter.specs.Cutting.{graph_of}
use Rattle.early_cutter.specs.Runs.{setup_of}
use Rattle.early_forms.specs.Trees.{class_tree}
use Rattle.agreement.proofs.Kept.{keeps_its_steps}
use Rattle.agreement.proofs.Safety.{all_fit_by_number}
use Rattle.early_cutter.proofs.Simulates.{simulates}
use Rattle.early_cutter.proofs.laws.every_run_keeps_its_steps.Goals as goal

pub returns : goal.returns
returns c = λ class calls header events proper fit some cells steps.
    keeps_its_steps (setup_of class calls header) (class_tree class) (CallFits class) (Agrees class.fields (graph_of class) header.slots) events some (simulates class header.slots proper) (all_fit_by_number (CallFits class) calls fit) cells steps
