use Rattle.early_plain.specs.Fits.{CallFits}
use Rattle.early_cutter.specs.Agrees.{Agrees}
use Rattle.early_cutter.specs.Cutting.{graph_of}
use Rattle.early_cutter.specs.Runs.{setup_of}
use Rattle.early_forms.specs.Trees.{class_tree}
use Rattle.agreement.proofs.Serials.{serial_runs}
use Rattle.agreement.proofs.Safety.{all_fit_by_number}
use Rattle.early_cutter.proofs.Simulates.{simulates}
use Rattle.early_cutter.proofs.laws.plain_runs_in_turn.Goals as goal

pub returns : goal.returns
returns c = λ class calls header proper fit some steps.
    let r = serial_runs (setup_of class calls header) (class_tree class) (CallFits class) (Agrees class.fields (graph_of class) header.slots) some (simulates class header.slots proper) (all_fit_by_number (CallFits class) calls fit) steps in
    record { serial = r.serial; in_order = r.order }
