use Rattle.std.proofs.Common.{◌-◌}
use Rattle.boxes.proofs.order.+lay_rows.Given as goal

abbrev pub decreases-lay_rows : goal.decreases-lay_rows
decreases-lay_rows l = l.n - l.i
