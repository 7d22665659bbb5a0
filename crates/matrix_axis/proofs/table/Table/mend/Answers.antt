use Rattle.std.proofs.Common.{sym, refl, subst, rules}
use Rattle.matrix_axis.specs.Mending.{Pending}
use Rattle.matrix_axis.proofs.Bounds.{reads_pending, reads_mended}
use Rattle.matrix_axis.proofs.Lines.{listed_as}
use Rattle.matrix_axis.proofs.table.Table.mend.Goals as goal

pub mend_rows-requires : goal.mend_rows-requires
mend_rows-requires c =
    subst (Pending _ _ _) (sym c.items.ensures)
    (reads_pending _ c.args.bound _ _ _ c.requires.within c.requires.closed (search rules)
    (listed_as _ _ _ _ c.list_nearer-rows.ensures (λ r h k. search rules))
    (listed_as _ _ _ _ c.list_nearer-columns.ensures (λ r h k. search rules)))

pub returns : goal.returns
returns c = reads_mended _ c.args.bound c.column.result _ c.row.result (search rules) _ _ _ c.requires.few refl c.mend_rows.ensures
