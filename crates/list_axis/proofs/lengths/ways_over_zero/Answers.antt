use Rattle.std.proofs.Common.{◌≡◌, ◌+◌, ◌≤◌, length, pos, ◌∙◌, arith}
use Rattle.std.proofs.lemmas.List.{get_or_append_left, length-take-le}
use Rattle.list_axis.proofs.Ends.{base_found}
use Rattle.list_axis.proofs.lengths.ways_over_zero.Goals as goal

pub returns : goal.returns
returns c =
    let some : length c.loop-line.way-items ≡ c.lines.result + 1 = c.loop-line.auto.way-items ∙ length-take-le (c.lines.result + 1) _ (omega (arith, c.lines.ensures.few)) in
    let reached : c.lines.result + 1 ≤ c.loop-line.line = grind (arith, some) in
    base_found c.args.ledger.now c.requires.standing c.args.start c.requires.line _ (λ j h.
    get_or_append_left c.loop-line.way-items _ (pos 0) j (omega (arith, some)) ∙ c.loop-line.invariant j (omega (arith, reached)))
