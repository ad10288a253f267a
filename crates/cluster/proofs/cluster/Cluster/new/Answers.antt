use Rattle.std.proofs.Common.{◌∷◌, ap, ◌∙◌, refl}
use Rattle.std.specs.List.{flat_map}
use Rattle.sdg_base.specs.declared.port.Port.TheVariants as port
use Rattle.cluster.specs.World.{numbers_from}
use Rattle.cluster.specs.Beginning.{row}
use Rattle.cluster.proofs.Begins.{first_holds}
use Rattle.cluster.proofs.cluster.Cluster.new.Goals as goal

pub returns : goal.returns
returns c =
    first_holds _ (record { graph = c.args.graph.now; calls = c.args.calls; header = c.args.header }) c.requires refl refl
    (c.in_ok-cells.ensures.ports ∙ ap (λ n. port.Front ∷ port.Join ∷ flat_map (row c.args.header.slots) (numbers_from 0 n)) c.len.ensures) c.in_ok-cells.ensures.first c.new.ensures c.new-2.ensures refl refl
