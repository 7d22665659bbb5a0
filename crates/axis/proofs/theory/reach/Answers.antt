use Rattle.axis.proofs.Distances.{reach_of}
use Rattle.axis.proofs.theory.reach.Goals as goal

pub returns : goal.returns
returns g c = reach_of _ _ (g.met.A.Axis.valid c.args.axis.now) c.args.p c.args.q c.tightest.result c.tightest.ensures
