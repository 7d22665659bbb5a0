use Rattle.journal.proofs.Asked.{all_good}
use Rattle.journal.proofs.asks.check_load.Goals as goal

pub invariant_of-result-clause-good : goal.invariant_of-result-clause-good
invariant_of-result-clause-good c = all_good _ _ 1 _ c.in_ok-check_stays.ensures
