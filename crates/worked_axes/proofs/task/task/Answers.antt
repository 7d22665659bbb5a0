use Rattle.std.proofs.Common.{Ok, ap, rules}
use Rattle.worked_axes.proofs.Worked.{times_told}
use Rattle.worked_axes.proofs.task.task.Goals as goal

pub returns-clause-answer : goal.returns-clause-answer
returns-clause-answer g c = ap Ok (times_told _ _ _ _ c.set_up.ensures.after (search rules) (search rules) (search rules))
