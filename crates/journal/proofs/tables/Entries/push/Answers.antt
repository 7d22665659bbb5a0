use Rattle.std.proofs.Common.{arith}
use Rattle.boxes.specs.declared.model.Direction.TheVariants.{Time, Platform}
use Rattle.journal.proofs.Entered.{push_few, push_room}
use Rattle.journal.proofs.tables.Entries.push.Goals as goal

pub push-requires : goal.push-requires
push-requires c = (omega arith, push_room _ c.args.entry (c.args.self.now.few Time) (c.args.self.now.few Platform) c.requires)

pub invariant_of-self : goal.invariant_of-self
invariant_of-self c = record { few = λ d. rw c.push.ensures (push_few d _ c.args.entry (c.args.self.now.few d) c.requires) }
