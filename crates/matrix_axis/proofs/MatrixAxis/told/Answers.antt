use Rattle.std.proofs.Common.{rules}
use Rattle.matrix_axis.proofs.Axes.{axis_near, axis_tightest}
use Rattle.matrix_axis.proofs.MatrixAxis.told.Goals as goal

pub returns-clause-near : goal.returns-clause-near
returns-clause-near c = axis_near c.args.self.now c.args.p c.args.q _ c.requires (search rules)

pub returns-clause-tightest : goal.returns-clause-tightest
returns-clause-tightest c = axis_tightest c.args.self.now c.args.p c.args.q _ c.requires (search rules)
