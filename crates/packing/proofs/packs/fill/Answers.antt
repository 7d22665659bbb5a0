use Rattle.std.proofs.Common.{sym, rules}
use Rattle.packing.proofs.Starts.{arranged}
use Rattle.packing.proofs.packs.fill.Goals as goal

pub returns-then-found-clause-answer : goal.returns-then-found-clause-answer
returns-then-found-clause-answer g c =
    let a = arranged _ _ _ _ _ c.new-board.ensures.ready.node.in_order c.if-found.ensures.found in
    rw (sym c.new-board.ensures.axes, sym c.new-board.ensures.sizes) (search rules)
