-- What the bytes of an image tell of its stays and entries.
use Rattle.std.specs.Prelude.{◌≡◌, ℕ, zero, suc, ◌+◌, ◌*◌, List, [], ◌∷◌, length, take, drop, cond, eqb, Some, None, Option}
use Rattle.journal.specs.declared.model.Stay.{Stay}
use Rattle.journal.specs.declared.model.Window.{Window}
use Rattle.walk.specs.Fields.{byte_at, number_at, after_stay}

-- twelve bytes have a window, eight have none
abbrev pub window_in : List ℕ → Option Window
window_in part = cond (eqb (length part) 12) (Some (record { from = number_at part 8; until = number_at part 10 })) None

-- the stay of these bytes
abbrev pub stay_in : List ℕ → Stay
stay_in part = record { circuit = number_at part 0; lead = number_at part 2; dwell = number_at part 4; metres = number_at part 6; window = window_in part }

-- the bytes that the one at o counts
abbrev pub part_at : List ℕ → ℕ → List ℕ
part_at bytes o = take (byte_at bytes o) (drop (o + 1) bytes)

-- n stays from o on
abbrev pub stays_at : List ℕ → ℕ → ℕ → List Stay
stays_at bytes zero o = []
stays_at bytes (suc n) o = stay_in (part_at bytes o) ∷ stays_at bytes n (after_stay bytes o)

-- the byte at o counts the entries, which end the image
abbrev pub EndsAfter : List ℕ → ℕ → ℕ → Type 0
EndsAfter bytes o n = (n ≡ byte_at bytes o) × (length bytes ≡ o + 1 + 5 * n)
