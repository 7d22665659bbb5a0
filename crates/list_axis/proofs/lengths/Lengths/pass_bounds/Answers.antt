use Rattle.std.proofs.Common.{pos}
use Rattle.axis.specs.declared.model.Bound.{Bound}
use Rattle.list_axis.proofs.Steps.{passed_both, passed_weaker, bounds_more, bound_edge}
use Rattle.list_axis.proofs.lengths.Lengths.pass_bounds.Goals as goal

abbrev blank : Bound
blank = record { p = 0; q = 0; d = pos 0 }

pub relax-changed-requires : goal.relax-changed-requires
relax-changed-requires c = rw c.loop-bound.invariant.ledger (bound_edge c.args.self.now.ledger.now c.args.self.now.standing _ _ blank c.bounds-bound-items.ensures c.loop-bound-test.true)

pub loop-bound-preserved : goal.loop-bound-preserved
loop-bound-preserved c = passed_weaker _ (bounds_more _ _ blank c.loop-bound-test.true) (passed_both _ _ _ c.loop-bound.invariant c.relax-changed.ensures)
