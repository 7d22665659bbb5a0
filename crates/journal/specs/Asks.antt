-- What each call asks of the journal, in its order; the first question answered no gives the refusal.
use Rattle.std.specs.Prelude.{ℕ, ◌+◌, ◌<◌, ◌≤◌, ◌≢◌, List, [], ◌∷◌, ◌++◌, length, ℤ, Ok, Err, Result}
use Rattle.axis.specs.Meaning.{with_bound, Remains}
use Rattle.axis.specs.Questions.{Question, AllYes, FirstNo}
use Rattle.axis.specs.Asks.{Named, InReach}
use Rattle.axis.specs.declared.model.AxisFault.TheVariants as fault
use Rattle.faults.specs.declared.model.SheetFault.{SheetFault}
use Rattle.faults.specs.declared.model.SheetFault.TheVariants as refuse
use Rattle.boxes.specs.declared.model.Entry.{Entry}
use Rattle.boxes.specs.declared.model.Direction.TheVariants.{Time, Platform}
use Rattle.boxes.specs.Order.{pairs}
use Rattle.boxes.specs.Arranged.{Arrangement}
use Rattle.journal.specs.declared.model.Stay.{Stay}
use Rattle.journal.specs.Stays.{lasts, opens, closes}
use Rattle.journal.specs.Journal.{Journal, bounds_on, axis_of, sizes_of}

abbrev pub Asked : Type 1
Asked = List {1} (Question SheetFault)

-- the questions on the stay of this number
abbrev pub stay_asks : ℕ → ℕ → ℕ → Stay → Asked
stay_asks span platform number s =
    record { asks = (1 ≤ s.circuit) × (s.circuit ≤ 43200); refusal = refuse.Circuit number }
    ∷ record { asks = s.lead + s.dwell ≤ s.circuit; refusal = refuse.Doors number }
    ∷ record { asks = (1 ≤ s.metres) × (s.metres ≤ platform); refusal = refuse.Length number }
    ∷ record { asks = (opens s.window + lasts s ≤ closes span s.window) × (closes span s.window ≤ span); refusal = refuse.Window number }
    ∷ []

-- and on those after it
abbrev pub stays_ask : ℕ → ℕ → ℕ → List Stay → Asked
stays_ask span platform number [] = []
stays_ask span platform number (s ∷ ss) = stay_asks span platform number s ++ stays_ask span platform (number + 1) ss

abbrev pub GoodExtents : ℕ → ℕ → Type 0
GoodExtents span platform = ((1 ≤ span) × (span ≤ 2880)) × ((1 ≤ platform) × (platform ≤ 1000))

abbrev pub extents_asks : ℕ → ℕ → Asked
extents_asks span platform = record { asks = GoodExtents span platform; refusal = refuse.Extents } ∷ []

abbrev pub load_asks : ℕ → ℕ → List Stay → Asked
load_asks span platform ss =
    extents_asks span platform
    ++ record { asks = length ss ≤ 12; refusal = refuse.Stays }
    ∷ stays_ask span platform 1 ss

-- the questions on a bound; an axis holds 90, so that it is never full of 24
abbrev pub entry_asks : Journal → Entry → Asked
entry_asks k e =
    record { asks = length (bounds_on e.direction k.entries) < 24; refusal = refuse.Entries }
    ∷ record { asks = Named (length k.stays) e.bound.p e.bound.q; refusal = refuse.Axis fault.Line }
    ∷ record { asks = InReach e.bound.d; refusal = refuse.Axis fault.Length }
    ∷ record { asks = Remains (with_bound (axis_of e.direction k) e.bound); refusal = refuse.Axis fault.NoPlacement }
    ∷ []

-- two different stays of the sheet
abbrev pub TwoStays : Journal → ℕ → ℕ → Type 0
TwoStays k i j = ((1 ≤ i) × (i ≤ length k.stays)) × ((1 ≤ j) × (j ≤ length k.stays)) × (i ≢ j)

-- a place for every stay that keeps platform, windows and entries, without overlap
abbrev pub Plan : Journal → (ℕ → ℤ) → (ℕ → ℤ) → Type 0
Plan k x y = Arrangement (axis_of Time k) (axis_of Platform k) (sizes_of k) x y

abbrev pub settle_asks : Journal → ℕ → ℕ → Asked
settle_asks k places trials =
    record { asks = length k.stays ≤ places; refusal = refuse.Places }
    ∷ record { asks = pairs (length k.stays) ≤ trials; refusal = refuse.Trials }
    ∷ record { asks = (x : ℕ → ℤ) × ((y : ℕ → ℤ) × Plan k x y); refusal = refuse.NoPlan }
    ∷ []

-- all questions are answered yes, or this is the refusal of the first that is not
abbrev pub Answered : {A : Type 0} → Asked → Result A SheetFault → Type 0
Answered qs (Ok a) = AllYes qs
Answered qs (Err f) = FirstNo qs f
