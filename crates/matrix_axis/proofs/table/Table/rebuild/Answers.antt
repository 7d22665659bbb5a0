use Rattle.std.proofs.Common.{◌<◌, length, get_or, pos, sym, subst}
use Rattle.std.proofs.ByRecursion.{has_get_or}
use Rattle.axis.specs.declared.model.Bound.{Bound}
use Rattle.axis.specs.Meaning.{lines}
use Rattle.axis.specs.Asks.{Within}
use Rattle.axis.specs.Distance.{mend}
use Rattle.matrix_axis.specs.Cells.{cell, Same, Closed}
use Rattle.matrix_axis.proofs.Kept.{oldest_closed, oldest_more}
use Rattle.matrix_axis.proofs.table.Table.rebuild.Goals as goal

abbrev none : Bound
none = record { p = 0; q = 0; d = pos 0 }

pub mend-requires-clause-within : goal.mend-requires-clause-within
mend-requires-clause-within c =
    let l = c.args.ledger.now in
    let k = c.loop-bound.bound-index in
    let items = c.bounds-bound-items.ensures in
    let lt : k < length l.bounds = subst (λ bs. k < length bs) items c.loop-bound-test.true in
    subst (λ n. Within n (get_or c.bounds-bound-items.result.now k none)) (sym c.lines-last.ensures.value) (subst (λ bs. Within (lines l) (get_or bs k none)) (sym items) (c.requires.0.within _ (has_get_or l.bounds k none lt)))

pub mend-requires-clause-closed : goal.mend-requires-clause-closed
mend-requires-clause-closed c =
    let l = c.args.ledger.now in
    subst (λ n. Closed n (cell c.loop-bound.self.rows)) (sym c.lines-last.ensures.value) (oldest_closed l c.requires c.loop-bound.bound-index _ c.loop-bound.invariant)

pub loop-bound-preserved : goal.loop-bound-preserved
loop-bound-preserved c =
    let l = c.args.ledger.now in
    let k = c.loop-bound.bound-index in
    let items = c.bounds-bound-items.ensures in
    let lt : k < length l.bounds = subst (λ bs. k < length bs) items c.loop-bound-test.true in
    let old = c.loop-bound.self.rows in
    let new = c.mend.new.self.rows in
    oldest_more l c.requires k none old new lt c.loop-bound.invariant
    (subst (λ bs. Same (lines l) new (mend (cell old) (get_or bs k none))) items (subst (λ n. Same n new (mend (cell old) (get_or c.bounds-bound-items.result.now k none))) c.lines-last.ensures.value c.mend.ensures))
