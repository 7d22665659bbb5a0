use Rattle.moves.proofs.Settled.{Settled}
use Rattle.moves.proofs.sides.place_all.Given as goal

abbrev pub invariant-loop-k : goal.invariant-loop-k
invariant-loop-k g l = Settled (record { time = g.T.Axis.means l.time; platform = g.P.Axis.means l.platform }) l.k l.places
