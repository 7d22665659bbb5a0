use Rattle.round_trip.proofs.Copied.{read_same}
use Rattle.round_trip.proofs.copies.read_image.Goals as goal

pub returns-clause-done : goal.returns-clause-done
returns-clause-done g c = (read_same c.args.image.now c.args.from.now c.args.to.now _ c.requires.made c.requires.image _ c.read.ensures).0

pub returns-clause-copied : goal.returns-clause-copied
returns-clause-copied g c = (read_same c.args.image.now c.args.from.now c.args.to.now _ c.requires.made c.requires.image _ c.read.ensures).1
