use Rattle.std.proofs.Common.{take}
use Rattle.list_axis.specs.Rows.{BoundsKept}
use Rattle.list_axis.specs.Passing.{Passed}
use Rattle.list_axis.proofs.lengths.Lengths.pass_bounds.Given as goal

abbrev pub invariant-loop-bound : goal.invariant-loop-bound
invariant-loop-bound l = Passed (λ _. BoundsKept (take l.bound-index l.bound-items)) l.initial.self l.self l.changed
