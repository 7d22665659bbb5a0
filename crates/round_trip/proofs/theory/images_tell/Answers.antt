use Rattle.std.proofs.Common.{◌≡◌, subst}
use Rattle.journal.specs.Journal.{Journal}
use Rattle.image.specs.Bytes.{image_bytes}
use Rattle.journal.specs.Made.{Made}
use Rattle.round_trip.proofs.Accepted.{accepted_image}
use Rattle.round_trip.proofs.Written.{written_accepted}
use Rattle.round_trip.proofs.theory.images_tell.Goals as goal

pub returns : goal.returns
returns c bytes fit k = (
  λ h. subst (λ (j : Journal). Made j × (bytes ≡ image_bytes j)) h.1 (accepted_image bytes fit h.0),
  λ h. written_accepted bytes k h.0 h.1,
)
