use Rattle.std.proofs.Common.{get_or, pos, arith, w16, SFits, rules}
use Rattle.std.proofs.lemmas.Int.{to_z-of_z}
use Rattle.std.proofs.lemmas.List.{take_more}
use Rattle.matrix_axis.proofs.Mends.{row_more}
use Rattle.matrix_axis.proofs.over.Over.mend_row.Goals as goal

pub loop-j-preserved : goal.loop-j-preserved
loop-j-preserved c =
    let columns = c.args.columns.now in
    let k = c.loop-j.j-index in
    let before = c.loop-j.invariant in
    let listed = c.requires.columns k c.loop-j-test.true in
    let way : SFits w16 c.way.result = search rules in
    let was : SFits w16 (get_or c.loop-j.row (get_or columns k 0) (pos 0)) = search rules in
    let min : SFits w16 c.min.result = search rules in
    record {
      size = search rules;
      mended = rw (take_more columns k 0 c.loop-j-test.true) (row_more _ _ _ _ _ _ _ c.way.result (omega arith) before.mended (search rules) (grind (arith, to_z-of_z)));
    }
