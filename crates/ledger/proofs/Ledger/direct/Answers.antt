use Rattle.std.proofs.Common.{sym, arith}
use Rattle.std.proofs.lemmas.Int.{ints}
use Rattle.axis.proofs.Tables.{base_self, base_over}
use Rattle.axis.proofs.Distances.{in_order}
use Rattle.ledger.proofs.Ledger.direct.Goals as goal

pub returns-then-i-j : goal.returns-then-i-j
returns-then-i-j c = sym (base_self _ _ c.args.i c.args.j c.if-i-j.true)

pub returns-else-i-j : goal.returns-else-i-j
returns-else-i-j c =
    let m = c.args.self.now in
    let s = c.range.ensures.sound in
    let h = in_order _ _ s.paired s.ordered c.args.i c.requires.0 in
    let o = in_order _ _ s.paired s.ordered c.args.j c.requires.1 in
    let b = base_over m.lows m.highs c.args.i c.args.j c.if-i-j.false in
    omega (arith, ints)
