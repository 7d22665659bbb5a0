use Rattle.std.proofs.Common.{◌≡◌, [], List, take, ap, subst, arith, rules, length-set, ℤ}
use Rattle.std.proofs.ByRecursion.{has_get_or}
use Rattle.stack.specs.Stacks.{contents, memory}
use Rattle.matrix_axis.specs.Cells.{cell}
use Rattle.matrix_axis.proofs.Mends.{Mending, mending_line, mending_more, mending_all}
use Rattle.matrix_axis.proofs.table.Table.mend_rows.Goals as goal

pub bounds-self-i : goal.bounds-self-i
bounds-self-i c = let line = mending_line _ c.args.columns.now _ _ _ _ _ c.loop-line.invariant c.in-Ok.ensures.after.items in omega (arith, c.from-i.ensures)

pub mend_row-requires : goal.mend_row-requires
mend_row-requires c = record {
  line = rw c.from-i.ensures (mending_line _ c.args.columns.now _ _ _ _ _ c.loop-line.invariant c.in-Ok.ensures.after.items);
  columns = λ k h. c.requires.column_within _ (has_get_or c.args.columns.now k 0 h);
}

pub loop-line-preserved : goal.loop-line-preserved
loop-line-preserved c =
    let items = c.in-Ok.ensures.after.items in
    let line = mending_line _ c.args.columns.now _ _ _ _ _ c.loop-line.invariant items in
    mending_more _ _ _ _ _ _ c.from-i.result _ _ _ c.requires (rw c.from-i.ensures items) c.loop-line.invariant (omega (arith, c.from-i.ensures, length-set {A = List ℤ}, c.mend_row.array_long)) c.mend_row.ensures (search rules)

pub returns : goal.returns
returns c =
    let none : contents c.loop-line.rows ≡ [] = ap (λ n. take n (memory c.loop-line.rows)) c.in_default.ensures.after.0 in
    mending_all _ c.args.columns.now _ _ (subst (λ rows. Mending (cell c.args.self.now.rows) c.args.over.now rows c.loop-line.self.rows) none c.loop-line.invariant)
