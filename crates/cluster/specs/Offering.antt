-- The lowest offer as the program looks for it, and what a cluster has to be for it.
use Rattle.std.specs.Prelude.{◌≡◌, ◌≢◌, Option, Some, None}
use Rattle.sdg_base.specs.declared.port.Port.{Port}
use Rattle.sdg_base.specs.declared.item.Item.{Item}
use Rattle.early_task_code.specs.declared.graph.Graph.{Graph}
use Rattle.cluster.specs.declared.offer.Offer.{Offer}
use Rattle.cluster.specs.declared.cluster.Cluster.{Cluster}
use Rattle.cluster.specs.History.{Setup}
use Rattle.cluster.specs.World.{World, lower, next_item, next_result, last_step}
use Rattle.cluster.specs.World as world
use Rattle.cluster.specs.Standing.{Holds, IsCellOf, IsSenderOf}

-- an offer of the program
abbrev pub offered : Offer → world.Offer
offered o = record { call = o.call; to = o.to; from = o.from }

-- the lower of the best so far and what may be offered next
abbrev pub lower_of : Option world.Offer → Option world.Offer → Option world.Offer
lower_of best None = best
lower_of best (Some o) = lower best o

-- The cluster stands for some world.
pub record IsLive (cluster : Cluster) : Type 0 where
  pub s : Setup
  pub w : World
  pub holds : Holds cluster s w

-- It does, and one port is a cell of it, and another a cell or the caller.
pub record MayTake (cluster : Cluster) (to from : Port) : Type 0 where
  pub s : Setup
  pub w : World
  pub holds : Holds cluster s w
  pub is_cell : IsCellOf s.graph s.header to
  pub is_sender : IsSenderOf s.graph s.header from

-- It stands for some world in which the item is the next.
pub record Takes (cluster : Cluster) (graph : Graph) (to from : Port) (x : Item) : Type 0 where
  pub s : Setup
  pub w : World
  pub of_graph : s.graph ≡ graph
  pub holds : Holds cluster s w
  pub is_cell : IsCellOf s.graph s.header to
  pub goes_on : w.next_step ≢ last_step
  pub given : next_item s w to from ≡ Some x

-- It does, and a port is a cell of it.
pub record MayCommit (cluster : Cluster) (from : Port) : Type 0 where
  pub s : Setup
  pub w : World
  pub holds : Holds cluster s w
  pub is_cell : IsCellOf s.graph s.header from

-- It stands for some world in which the result is the next.
pub record Commits (cluster : Cluster) (from : Port) (x : Item) : Type 0 where
  pub s : Setup
  pub w : World
  pub holds : Holds cluster s w
  pub is_cell : IsCellOf s.graph s.header from
  pub given : next_result s w from ≡ Some x
