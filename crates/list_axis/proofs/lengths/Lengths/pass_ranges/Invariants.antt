use Rattle.std.specs.Iterator.Adapters.{zip_first, zip_second}
use Rattle.std.specs.Slice.Iter.{iter_rest}
use Rattle.list_axis.specs.Rows.{RangesKept}
use Rattle.list_axis.specs.Passing.{Passed}
use Rattle.list_axis.proofs.Ahead.{Ahead}
use Rattle.list_axis.proofs.lengths.Lengths.pass_ranges.Given as goal

abbrev pub invariant-loop-line : goal.invariant-loop-line
invariant-loop-line l =
    let line = (zip_first l.line-iterator).start in
    record {
      ahead : Ahead l.initial.self.ledger.now line (iter_rest (zip_second l.line-iterator));
      passed : Passed (λ m. RangesKept m line) l.initial.self l.self l.changed;
    }
