use Rattle.std.proofs.Common.{◌≡◌, ◌≤◌, ◌+◌, length}
use Rattle.held.proofs.held.Held.refill_from.Given as goal

abbrev pub invariant-loop-item : goal.invariant-loop-item
invariant-loop-item g l = record {
  given : l.self ≡ l.yielded;
  few : length l.self + (goal.iterator-loop-item g).remaining l.item-iterator ≤ g.row.MOST;
}
