use Rattle.std.proofs.Common.{◌<◌, arith, rules}
use Rattle.boxes.proofs.Laid.{row_length, row_more}
use Rattle.boxes.proofs.order.+lay_rows.Goals as goal

pub split_at_mut-row-requires : goal.split_at_mut-row-requires
split_at_mut-row-requires t c =
    let less : c.args.i < c.args.n = omega arith in
    omega (arith, row_length c.args.i c.args.n less)

pub lay_rows-requires : goal.lay_rows-requires
lay_rows-requires t c =
    let less : c.args.i < c.args.n = omega arith in
    (omega arith, (omega arith, omega (arith, row_length c.args.i c.args.n less)))

pub returns : goal.returns
returns t c = row_more _ _ c.args.i c.args.n (omega arith) (search rules) (search rules) c.lay_rows.ensures
