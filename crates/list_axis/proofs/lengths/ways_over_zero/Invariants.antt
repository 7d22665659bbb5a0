use Rattle.std.proofs.Common.{◌≡◌, ℕ, ◌<◌}
use Rattle.axis.specs.Distance.{base}
use Rattle.ledger.specs.Lengths.{entry}
use Rattle.list_axis.proofs.lengths.ways_over_zero.Given as goal

abbrev pub invariant-loop-line : goal.invariant-loop-line
invariant-loop-line l = (k : ℕ) → k < l.line → entry l.way-items k ≡ base l.ledger.lows l.ledger.highs l.start k
