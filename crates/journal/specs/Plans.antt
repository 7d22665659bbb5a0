-- What a plan is, said of the stays themselves.
use Rattle.std.specs.Prelude.{◌≡◌, ℕ, suc, ◌<◌, length, ℤ, pos, ◌+ℤ◌, ◌≤ℤ◌, slice_index_or}
use Rattle.std.specs.List.{AllByRecursion}
use Rattle.axis.specs.Theory.{Equally}
use Rattle.boxes.specs.Overlaps.{Keeps, Free}
use Rattle.journal.specs.Stays.{lasts, opens, closes, no_stay}
use Rattle.journal.specs.Journal.{Journal, sizes_of}
use Rattle.journal.specs.Asks.{Plan}

-- stay i stands from step x i on and from metre y i on; line 0 is at 0
pub record Kept (k : Journal) (x y : ℕ → ℤ) : Type 0 where
  pub start : (x 0 ≡ pos 0) × (y 0 ≡ pos 0)
  -- no stay begins before its window, and each is gone when it closes
  pub windows : (i : ℕ) → i < length k.stays
      → (pos (opens (slice_index_or k.stays i no_stay).window) ≤ℤ x (suc i)) × ((x (suc i) +ℤ pos (lasts (slice_index_or k.stays i no_stay))) ≤ℤ pos (closes k.span (slice_index_or k.stays i no_stay).window))
  -- each stands on the platform
  pub platform : (i : ℕ) → i < length k.stays
      → (pos 0 ≤ℤ y (suc i)) × ((y (suc i) +ℤ pos (slice_index_or k.stays i no_stay).metres) ≤ℤ pos k.platform)
  -- every entry is kept
  pub entries : AllByRecursion (Keeps x y) k.entries
  -- no two stays hold a common step and a common metre
  pub free : Free (sizes_of k) x y

abbrev pub PlansTell : Type 0
PlansTell = (k : Journal) (x y : ℕ → ℤ) → Equally (Plan k x y) (Kept k x y)
