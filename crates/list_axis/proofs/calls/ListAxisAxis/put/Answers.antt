use Rattle.std.proofs.Common.{refl, rules}
use Rattle.ledger.proofs.Open.{put_refused, put_stands, open_put}
use Rattle.list_axis.proofs.calls.ListAxisAxis.put.Goals as goal

pub returns-then-closes_ring : goal.returns-then-closes_ring
returns-then-closes_ring c =
    let a = c.args.self.now in
    (put_refused a.ledger a.standing c.args.bound c.in_ok-admits.ensures (search rules), refl)

pub invariant_of-self : goal.invariant_of-self
invariant_of-self c =
    let a = c.args.self.now in
    let after = c.push.ensures in
    record { standing = (after.sound a.standing.0, open_put a.ledger a.standing c.args.bound c.in_ok-admits.ensures (search rules) _ after.after) }

pub returns : goal.returns
returns c =
    let a = c.args.self.now in
    (put_stands a.ledger a.standing c.args.bound c.in_ok-admits.ensures (search rules), c.push.ensures.after)
