-- What a reading that is refused tells of the image.
use Rattle.std.proofs.Common.{ℕ, List, Err, inl, inr}
use Rattle.faults.specs.declared.model.ImageFault.{ImageFault}
use Rattle.journal.specs.Journal.{Journal}
use Rattle.reader.specs.Reads.{Refused, Read}

pub refused_image : (bytes : List ℕ) (k k' : Journal) (f : ImageFault) → Read bytes k (Err f) k' → Refused bytes f
refused_image bytes k k' f (inl x) = inl x.0
refused_image bytes k k' f (inr x) = inr x.0
