use Rattle.trials.proofs.Starting.{ready_start}
use Rattle.trials.proofs.board.Board.new.Goals as goal

pub returns-clause-ready : goal.returns-clause-ready
returns-clause-ready g c = ready_start _ _ _ _ _ g.met.T.Axis.roomy g.met.P.Axis.roomy c.requires.fits c.box_count.ensures.count c.box_count.ensures.few c.lay_out.ensures c.requires.trail
