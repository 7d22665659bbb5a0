use Rattle.std.proofs.Common.{◌≡◌, ◌-◌, ◌*◌, ◌≤◌}
use Rattle.walk.specs.Fields.{row_end, after_stay}
use Rattle.reader.specs.Located.{stay_offset}
use Rattle.reader.proofs.loads.stay_offset.Given as goal

abbrev pub invariant-loop : goal.invariant-loop
invariant-loop l = (l.at ≤ 256 * l.counter) × ((1 ≤ l.counter) × (row_end (after_stay l.image) (l.number - l.counter) l.at ≡ stay_offset l.image l.number))
