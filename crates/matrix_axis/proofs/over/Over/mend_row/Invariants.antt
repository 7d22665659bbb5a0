use Rattle.std.proofs.Common.{◌≡◌, length, take}
use Rattle.matrix_axis.specs.Mending.{RowMended}
use Rattle.matrix_axis.proofs.over.Over.mend_row.Given as goal

abbrev pub invariant-loop-j : goal.invariant-loop-j
invariant-loop-j l = record { size : length l.row ≡ 13; mended : RowMended l.self l.i (take l.j-index l.columns) l.initial.row l.row }
