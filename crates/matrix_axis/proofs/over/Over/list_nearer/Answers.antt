use Rattle.std.proofs.Common.{◌∙◌, arith}
use Rattle.matrix_axis.proofs.Lines.{listed_more, listed_skip, listed_all}
use Rattle.matrix_axis.proofs.over.Over.list_nearer.Goals as goal
use Rattle.matrix_axis.proofs.over.Over.list_nearer.Goals.{then-is_nearer, else-is_nearer}

pub loop-line-preserved : goal.loop-line-preserved
loop-line-preserved g c =
    let before = c.loop-line.invariant in
    elim c.if-is_nearer.branch [
      | then-is_nearer w ↦ rw w.list-is (record {
        size = w.push.ensures.size ∙ before.size;
        listed = listed_more _ _ _ _ before.listed (w.push.ensures.succeeds (omega arith));
      })
      | else-is_nearer w ↦ rw w.list-is (record {
        size = before.size;
        listed = listed_skip _ _ _ before.listed w.if-is_nearer.ensures;
      })
    ]

pub returns : goal.returns
returns g c = listed_all _ _ _ _ c.loop-line.invariant.listed (omega arith)
