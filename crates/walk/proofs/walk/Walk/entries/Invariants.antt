use Rattle.std.proofs.Common.{◌≡◌}
use Rattle.walk.specs.Fields.{entry_asks, after_entry}
use Rattle.walk.proofs.Rows.{Walked}
use Rattle.walk.proofs.walk.Walk.entries.Given as goal

abbrev pub invariant-loop : goal.invariant-loop
invariant-loop l = (l.self.image.now ≡ l.fn.self.image.now) × Walked (entry_asks l.fn.self.image.now) after_entry l.count l.fn.self.at l.counter l.self.at
