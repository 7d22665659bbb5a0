-- What reading an image asks, and what it leaves.
use Rattle.std.specs.Prelude.{◌≡◌, ℕ, zero, suc, ◌+◌, ◌⊎◌, List, [], ◌++◌, Ok, Err, Result}
use Rattle.axis.specs.Questions.{AllYes, FirstNo}
use Rattle.faults.specs.declared.model.ImageFault.{ImageFault}
use Rattle.journal.specs.Journal.{Journal, new}
use Rattle.journal.specs.Steps.{asks, next}
use Rattle.walk.specs.Fields.{Asked, byte_at, after_entry, image_asks, stays_end}
use Rattle.reader.specs.Entries.{bind_at, load_in, loaded_in, journal_in}
use Rattle.reader.specs.Located.{located, load_offset}

-- all that is asked before the first entry is
abbrev pub load_asked : List ℕ → Asked
load_asked bytes = image_asks bytes ++ located (load_offset bytes) (asks new (load_in bytes))

-- n entries from o on, each asked of the journal with those before it, and refused at its first byte
abbrev pub binds_ask : List ℕ → Journal → ℕ → ℕ → Asked
binds_ask bytes k zero o = []
binds_ask bytes k (suc n) o = located (λ f. o) (asks k (bind_at bytes o)) ++ binds_ask bytes (next k (bind_at bytes o)) n (after_entry o)

abbrev pub entries_asked : List ℕ → Asked
entries_asked bytes = binds_ask bytes (loaded_in bytes) (byte_at bytes (stays_end bytes)) (stays_end bytes + 1)

-- the image tells a sheet
abbrev pub Accepted : List ℕ → Type 0
Accepted bytes = AllYes (load_asked bytes) × AllYes (entries_asked bytes)

-- refused before the first entry, and refused at an entry
abbrev pub RefusedWhole : List ℕ → ImageFault → Type 0
RefusedWhole bytes f = FirstNo (load_asked bytes) f

abbrev pub RefusedEntry : List ℕ → ImageFault → Type 0
RefusedEntry bytes f = AllYes (load_asked bytes) × FirstNo (entries_asked bytes) f

abbrev pub Refused : List ℕ → ImageFault → Type 0
Refused bytes f = RefusedWhole bytes f ⊎ RefusedEntry bytes f

-- the sheet is what the image tells; or it is as it was, or as a new one where the image is refused at an entry
abbrev pub Read : List ℕ → Journal → Result Unit ImageFault → Journal → Type 0
Read bytes k (Ok u) k' = Accepted bytes × (k' ≡ journal_in bytes)
Read bytes k (Err f) k' = (RefusedWhole bytes f × (k' ≡ k)) ⊎ (RefusedEntry bytes f × (k' ≡ new))
