use Rattle.std.proofs.Common.{◌∙◌, sym}
use Rattle.boxes.proofs.Ordered.{length_order}
use Rattle.boxes.proofs.order.lay_out.Goals as goal

pub lay_rows-requires-clause-room : goal.lay_rows-requires-clause-room
lay_rows-requires-clause-room c = c.requires.room ∙ sym (length_order c.args.n)
