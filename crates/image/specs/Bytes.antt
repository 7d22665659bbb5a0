-- The bytes of an image, told from the journal.
use Rattle.std.specs.Prelude.{ℕ, ◌-◌, ◌/◌, ◌%◌, List, [], ◌∷◌, ◌++◌, length, flat_map, ℤ, pos, negsuc, Some, None, Option}
use Rattle.boxes.specs.declared.model.Entry.{Entry}
use Rattle.boxes.specs.Letters.{letter_of}
use Rattle.journal.specs.declared.model.Stay.{Stay}
use Rattle.journal.specs.declared.model.Window.{Window}
use Rattle.journal.specs.Journal.{Journal}

-- a number in two bytes, the high one first
abbrev pub two : ℕ → List ℕ
two n = n / 256 ∷ (n % 256 ∷ [])

-- two's complement in sixteen bits
abbrev pub complement : ℤ → ℕ
complement (pos n) = n
complement (negsuc n) = 65535 - n

abbrev pub window_bytes : Option Window → List ℕ
window_bytes None = []
window_bytes (Some w) = two w.from ++ two w.until

abbrev pub stay_fields : Stay → List ℕ
stay_fields s = two s.circuit ++ (two s.lead ++ (two s.dwell ++ (two s.metres ++ window_bytes s.window)))

-- the first byte counts the others
abbrev pub stay_bytes : Stay → List ℕ
stay_bytes s = length (stay_fields s) ∷ stay_fields s

-- the letter T or P, the two lines and the number
abbrev pub entry_bytes : Entry → List ℕ
entry_bytes e = letter_of e.direction ∷ (e.bound.p ∷ (e.bound.q ∷ two (complement e.bound.d)))

-- how many stays, and each
abbrev pub stays_bytes : List Stay → List ℕ
stays_bytes stays = length stays ∷ flat_map stay_bytes stays

-- entries stand oldest first
abbrev pub entries_bytes : List Entry → List ℕ
entries_bytes entries = length entries ∷ flat_map entry_bytes entries

-- all that the length counts: the version, span and platform, the stays and the entries
abbrev pub body_bytes : Journal → List ℕ
body_bytes k = 1 ∷ (two k.span ++ (two k.platform ++ (stays_bytes k.stays ++ entries_bytes k.entries)))

abbrev pub image_bytes : Journal → List ℕ
image_bytes k = two (length (body_bytes k)) ++ body_bytes k
