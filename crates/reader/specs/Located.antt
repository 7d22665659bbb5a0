-- The questions of a sheet's call, each with the byte of the image that its refusal tells.
use Rattle.std.specs.Prelude.{ℕ, ◌-◌, List, [], ◌∷◌}
use Rattle.faults.specs.declared.model.SheetFault.{SheetFault}
use Rattle.faults.specs.declared.model.SheetFault.TheVariants as refuse
use Rattle.faults.specs.declared.model.ImageFault.{ImageFault}
use Rattle.faults.specs.Carried.{in_cause}
use Rattle.journal.specs.Asks.{Asked as SheetAsked}
use Rattle.walk.specs.Fields.{Asked, row_end, after_stay}

abbrev pub fault_at : ℕ → SheetFault → ImageFault
fault_at o f = record { offset = o; cause = in_cause f }

abbrev pub located : (SheetFault → ℕ) → SheetAsked → Asked
located place [] = []
located place (q ∷ qs) = record { asks = q.asks; refusal = fault_at (place q.refusal) q.refusal } ∷ located place qs

-- the byte that counts the others of the stay with this number
abbrev pub stay_offset : List ℕ → ℕ → ℕ
stay_offset bytes number = row_end (after_stay bytes) (number - 1) 8

-- place a load is refused: at the span, at the number of stays, or at a stay; a load has no other refusal
abbrev pub load_offset : List ℕ → SheetFault → ℕ
load_offset bytes refuse.Extents = 3
load_offset bytes refuse.Stays = 7
load_offset bytes (refuse.Circuit n) = stay_offset bytes n
load_offset bytes (refuse.Doors n) = stay_offset bytes n
load_offset bytes (refuse.Length n) = stay_offset bytes n
load_offset bytes (refuse.Window n) = stay_offset bytes n
load_offset bytes refuse.Letter = 0
load_offset bytes refuse.Entries = 0
load_offset bytes refuse.Word = 0
load_offset bytes refuse.Pair = 0
load_offset bytes refuse.NoEntry = 0
load_offset bytes refuse.Places = 0
load_offset bytes refuse.Trials = 0
load_offset bytes refuse.NoPlan = 0
load_offset bytes (refuse.Axis f) = 0
