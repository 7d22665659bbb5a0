use Rattle.std.proofs.Common.{◌≡◌, map, take}
use Rattle.boxes.specs.Order.{row, untried}
use Rattle.boxes.proofs.order.lay_row.Given as goal

abbrev pub invariant-loop-k : goal.invariant-loop-k
invariant-loop-k l = take l.k l.row ≡ map untried (row l.i l.k)
