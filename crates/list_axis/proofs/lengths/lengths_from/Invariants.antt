use Rattle.std.proofs.Common.{◌≡◌}
use Rattle.list_axis.specs.Rows.{total}
use Rattle.list_axis.proofs.lengths.lengths_from.Given as goal

abbrev pub invariant-loop : goal.invariant-loop
invariant-loop l = (l.lengths.ledger.now ≡ l.ledger) × (l.lengths.start ≡ l.start)

abbrev pub decreases-loop : goal.decreases-loop
decreases-loop l = total l.lengths.row
