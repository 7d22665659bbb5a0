use Rattle.reader.proofs.Binding.{Entering}
use Rattle.reader.proofs.entries.bind_all.Given as goal

abbrev pub invariant-loop-k : goal.invariant-loop-k
invariant-loop-k g l = Entering l.image l.count l.offset l.fn.sheet l.k l.sheet
