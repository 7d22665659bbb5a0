use Rattle.journal.proofs.Entered.{few_parted}
use Rattle.journal.proofs.tables.Entries.pop.Goals as goal

pub invariant_of-self : goal.invariant_of-self
invariant_of-self c = record { few = λ d. few_parted d _ _ _ c.pop.ensures (c.args.self.now.few d) }
