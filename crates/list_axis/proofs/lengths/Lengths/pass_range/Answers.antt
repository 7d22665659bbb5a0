use Rattle.std.proofs.Common.{subst, arith}
use Rattle.std.proofs.lemmas.Int.{ints}
use Rattle.axis.proofs.Distances.{in_order}
use Rattle.list_axis.specs.Rows.{IsEdge}
use Rattle.list_axis.proofs.Steps.{passed_both, passed_weaker, down_edge, up_edge}
use Rattle.list_axis.proofs.lengths.Lengths.pass_range.Goals as goal

pub relax-down-requires : goal.relax-down-requires
relax-down-requires c =
    let l = c.args.self.now in
    let m = l.ledger.now in
    subst (λ d. IsEdge m (record { p = c.args.line; q = 0; d = d })) (omega (arith, ints)) (down_edge m l.standing c.args.line c.requires.line)

pub relax-up-requires : goal.relax-up-requires
relax-up-requires c =
    let l = c.args.self.now in
    let m = l.ledger.now in
    let o = in_order _ _ l.standing.0.paired l.standing.0.ordered c.args.line c.requires.line in
    rw c.relax-down.ensures.ledger (subst (λ d. IsEdge m (record { p = 0; q = c.args.line; d = d })) (omega (arith, ints)) (up_edge m l.standing c.args.line c.requires.line))

pub returns : goal.returns
returns c =
    let l = c.args.self.now in
    let o = in_order _ _ l.standing.0.paired l.standing.0.ordered c.args.line c.requires.line in
    passed_weaker _ (λ row k. (omega (arith, ints, k.0), omega (arith, ints, k.1))) (passed_both _ _ _ c.relax-down.ensures c.relax-up.ensures)
