use Rattle.axis.proofs.Distances.{distances_hold_lem}
use Rattle.axis.proofs.theory.distances_hold.Goals as goal

pub returns : goal.returns
returns c = distances_hold_lem
