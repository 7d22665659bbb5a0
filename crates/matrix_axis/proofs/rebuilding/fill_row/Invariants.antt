use Rattle.std.proofs.Common.{◌≡◌, ℕ, ◌<◌}
use Rattle.axis.specs.Distance.{base}
use Rattle.ledger.specs.Lengths.{entry}
use Rattle.matrix_axis.proofs.rebuilding.fill_row.Given as goal

abbrev pub invariant-loop-j : goal.invariant-loop-j
invariant-loop-j l = (k : ℕ) → k < l.j → entry l.length-items k ≡ base l.ledger.lows l.ledger.highs l.i k
