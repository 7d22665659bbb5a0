use Rattle.std.proofs.Common.{sym, refl, subst, rules}
use Rattle.axis.specs.Asks.{Within}
use Rattle.axis.specs.Distance.{mend}
use Rattle.ledger.proofs.Open.{put_refused, put_stands, open_put}
use Rattle.matrix_axis.specs.Cells.{cell, Same, Closed}
use Rattle.matrix_axis.proofs.Axes.{axis_closed}
use Rattle.matrix_axis.proofs.Kept.{kept_put}
use Rattle.matrix_axis.proofs.calls.MatrixAxisAxis.put.Goals as goal

pub returns-then-closes_ring : goal.returns-then-closes_ring
returns-then-closes_ring c =
    let a = c.args.self.now in
    (put_refused a.ledger a.standing c.args.bound c.in_ok-admits.ensures (search rules), refl)

pub mend-requires-clause-within : goal.mend-requires-clause-within
mend-requires-clause-within c =
    let first = c.in_ok-admits.ensures in
    subst (λ n. Within n c.args.bound) (sym c.lines.ensures.value) (first.0, first.1.0)

pub mend-requires-clause-closed : goal.mend-requires-clause-closed
mend-requires-clause-closed c = subst (λ n. Closed n (cell c.args.self.now.table.rows)) (sym c.lines.ensures.value) (axis_closed c.args.self.now)

pub invariant_of-self-2 : goal.invariant_of-self-2
invariant_of-self-2 c =
    let a = c.args.self.now in
    let first = c.in_ok-admits.ensures in
    let after = c.push.ensures in
    record {
      standing = (after.sound a.standing.0, open_put a.ledger a.standing c.args.bound first (search rules) _ after.after);
      kept = kept_put _ _ c.args.bound _ _ after.after first.0 a.kept (subst (λ n. Same n c.mend.new.self.rows (mend (cell a.table.rows) c.args.bound)) c.lines.ensures.value c.mend.ensures);
    }

pub returns : goal.returns
returns c =
    let a = c.args.self.now in
    (put_stands a.ledger a.standing c.args.bound c.in_ok-admits.ensures (search rules), c.push.ensures.after)
