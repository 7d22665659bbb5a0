use Rattle.journal.proofs.Planned.{plans_tell_lem}
use Rattle.journal.proofs.plans.plans_tell.Goals as goal

pub returns : goal.returns
returns c = plans_tell_lem
