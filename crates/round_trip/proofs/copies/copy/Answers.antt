use Rattle.round_trip.proofs.Copied.{front}
use Rattle.round_trip.proofs.copies.copy.Goals as goal

pub read_image-requires-clause-image : goal.read_image-requires-clause-image
read_image-requires-clause-image g c = front _ _ _ _ c.in_ok-length.ensures.written
