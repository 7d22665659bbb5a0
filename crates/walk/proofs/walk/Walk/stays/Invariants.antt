use Rattle.std.proofs.Common.{◌≡◌, length}
use Rattle.walk.specs.Fields.{stay_asks, after_stay}
use Rattle.walk.proofs.Rows.{Walked}
use Rattle.walk.proofs.Slots.{Read}
use Rattle.walk.proofs.walk.Walk.stays.Given as goal

abbrev pub invariant-loop-slot : goal.invariant-loop-slot
invariant-loop-slot l = (l.self.image.now ≡ l.fn.self.image.now) × (Walked (stay_asks l.fn.self.image.now) (after_stay l.fn.self.image.now) (length l.fn.slots) l.fn.self.at l.slot-index l.self.at × Read l.fn.self.image.now (length l.fn.slots) l.fn.self.at l.slot-items l.slot-index l.self.at)
