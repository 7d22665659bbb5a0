use Rattle.stack.specs.Stacks.{contents}
use Rattle.matrix_axis.specs.Cells.{cell}
use Rattle.matrix_axis.proofs.Mends.{Mending}
use Rattle.matrix_axis.proofs.table.Table.mend_rows.Given as goal

abbrev pub invariant-loop-line : goal.invariant-loop-line
invariant-loop-line l = Mending (cell l.initial.self.rows) l.over (contents l.rows) l.self.rows

abbrev pub decreases-loop-line : goal.decreases-loop-line
decreases-loop-line l = l.rows.len
