use Rattle.std.proofs.Common.{◌≡◌, false, length}
use Rattle.stack.specs.Stacks.{contents, memory}
use Rattle.matrix_axis.proofs.Lines.{ListedBelow}
use Rattle.matrix_axis.proofs.over.Over.list_nearer.Given as goal

abbrev pub invariant-loop-line : goal.invariant-loop-line
invariant-loop-line g l = record {
  size : length (memory l.list) ≡ 13;
  listed : ListedBelow l.line (λ r. goal.F-post g l.is_nearer r false) (contents l.list);
}
