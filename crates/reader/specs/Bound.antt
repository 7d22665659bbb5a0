-- What one call of the sheet tells of an image.
use Rattle.std.specs.Prelude.{◌≡◌, ℕ, List, Ok, Err, Result}
use Rattle.axis.specs.Questions.{AllYes, FirstNo}
use Rattle.faults.specs.declared.model.ImageFault.{ImageFault}
use Rattle.faults.specs.declared.model.SheetFault.{SheetFault}
use Rattle.journal.specs.Journal.{Journal, new}
use Rattle.journal.specs.Steps.{Request, asks, next}
use Rattle.reader.specs.Entries.{bound}
use Rattle.reader.specs.Located.{located}
use Rattle.reader.specs.Reads.{binds_ask}

-- all that is asked is answered yes, and the call is made; or this is the first no, and the journal as it was
abbrev pub Called : (SheetFault → ℕ) → Request → Journal → Result Unit ImageFault → Journal → Type 0
Called place c k (Ok u) k' = AllYes (located place (asks k c)) × (k' ≡ next k c)
Called place c k (Err f) k' = FirstNo (located place (asks k c)) f × (k' ≡ k)

-- all that is asked of n entries from o on is answered yes, and they stand; or this is the first no
abbrev pub AllBound : List ℕ → ℕ → ℕ → Journal → Result Unit ImageFault → Journal → Type 0
AllBound bytes n o k (Ok u) k' = AllYes (binds_ask bytes k n o) × (k' ≡ bound bytes k n o)
AllBound bytes n o k (Err f) k' = FirstNo (binds_ask bytes k n o) f

-- the same, and the sheet as a new one where an entry is refused
abbrev pub BoundOrNew : List ℕ → ℕ → ℕ → Journal → Result Unit ImageFault → Journal → Type 0
BoundOrNew bytes n o k (Ok u) k' = AllYes (binds_ask bytes k n o) × (k' ≡ bound bytes k n o)
BoundOrNew bytes n o k (Err f) k' = FirstNo (binds_ask bytes k n o) f × (k' ≡ new)
