-- Which bytes are the image of which sheet.
use Rattle.std.specs.Prelude.{◌≡◌, ℕ, ◌<◌, List}
use Rattle.axis.specs.Theory.{Equally}
use Rattle.journal.specs.Journal.{Journal}
use Rattle.journal.specs.Made.{Made}
use Rattle.image.specs.Bytes.{image_bytes}
use Rattle.walk.specs.Fields.{byte_at}
use Rattle.reader.specs.Entries.{journal_in}
use Rattle.reader.specs.Reads.{Accepted}

abbrev pub Bytes : List ℕ → Type 0
Bytes bytes = (o : ℕ) → byte_at bytes o < 256

-- an image is accepted as a sheet exactly when calls make that sheet and the bytes are what is written of it
abbrev pub ImagesTell : Type 0
ImagesTell = (bytes : List ℕ) → Bytes bytes → (k : Journal) → Equally (Accepted bytes × (journal_in bytes ≡ k)) (Made k × (bytes ≡ image_bytes k))
