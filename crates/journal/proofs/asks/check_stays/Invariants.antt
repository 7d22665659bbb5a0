use Rattle.journal.proofs.Asked.{Leads}
use Rattle.journal.proofs.asks.check_stays.Given as goal

abbrev pub invariant-loop-k : goal.invariant-loop-k
invariant-loop-k l = Leads l.extents.span l.extents.platform l.stays l.k
