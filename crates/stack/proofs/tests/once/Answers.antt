use Rattle.std.proofs.Common.{set-set, rules}
use Rattle.stack.proofs.tests.once.Goals as goal

pub returns : goal.returns
returns g c = record { answer = search rules; after = search (rules, set-set) }
