use Rattle.std.proofs.Common.{◌≡◌, ℕ, ◌<◌, ◌≤◌}
use Rattle.axis.specs.Meaning.{lines}
use Rattle.axis.specs.Distance.{base}
use Rattle.matrix_axis.specs.Cells.{cell}
use Rattle.matrix_axis.proofs.table.Table.fill.Given as goal

abbrev pub invariant-loop-i : goal.invariant-loop-i
invariant-loop-i l = (i j : ℕ) → i < l.i → j ≤ lines l.ledger → cell l.row-items i j ≡ base l.ledger.lows l.ledger.highs i j
