use Rattle.std.proofs.Common.{take}
use Rattle.axis.specs.Meaning.{lines}
use Rattle.axis.specs.Distance.{base, mended}
use Rattle.matrix_axis.specs.Cells.{Same}
use Rattle.matrix_axis.proofs.table.Table.rebuild.Given as goal

abbrev pub invariant-loop-bound : goal.invariant-loop-bound
invariant-loop-bound l = Same (lines l.ledger) l.self.rows (mended (base l.ledger.lows l.ledger.highs) (take l.bound-index l.ledger.bounds))
