use Rattle.std.proofs.Common.{rules}
use Rattle.std.proofs.iter.runs.Consumers.{total_runs}
use Rattle.held.proofs.held.Held.refill_from.Goals as goal

pub returns-clause-runs : goal.returns-clause-runs
returns-clause-runs g c = total_runs _ _ (Unit {0}) _ (c.loop-item.yielded, (λ _. search rules), c.loop-item.invariant.given) tt
