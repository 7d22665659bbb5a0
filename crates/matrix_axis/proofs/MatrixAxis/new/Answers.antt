use Rattle.std.proofs.Common.{sym, refl, subst}
use Rattle.axis.specs.Distance.{Open}
use Rattle.matrix_axis.proofs.Axes.{kept_new}
use Rattle.matrix_axis.proofs.MatrixAxis.new.Goals as goal

pub invariant_of-result : goal.invariant_of-result
invariant_of-result c =
    let ledger = c.in_ok-ledger.ensures in
    record { standing = (ledger.sound, subst Open (sym ledger.value) refl); kept = kept_new _ _ ledger.value c.new-table.ensures }
