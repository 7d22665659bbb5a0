use Rattle.std.proofs.Common.{arith}
use Rattle.boxes.proofs.Laid.{pair_more}
use Rattle.boxes.proofs.order.lay_row.Goals as goal

pub loop-k-preserved : goal.loop-k-preserved
loop-k-preserved c = pair_more c.loop-k.row c.args.i c.loop-k.k (omega arith) c.loop-k.invariant
