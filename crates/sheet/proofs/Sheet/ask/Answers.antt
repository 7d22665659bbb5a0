use Rattle.std.proofs.Common.{rules}
use Rattle.sheet.proofs.Holding.{ask_held}
use Rattle.sheet.proofs.Sheet.ask.Goals as goal

pub returns : goal.returns
returns g c =
    let h = ask_held c.args.self.now c.args.letter c.args.p c.args.q c.in_ok-direction.direction c.in_ok-tightest.field-0 c.self.inside.axes c.in_ok-direction.ensures (rw (← c.self.view_is) c.self.invariant.0) c.in_ok-tightest.ensures in
    search rules
