-- What a ledger means.
use Rattle.std.specs.Prelude.{◌≡◌, ℕ, ◌≤◌, List, [], length, Ok, Err, Result}
use Rattle.axis.specs.Meaning.{Meaning, lines, with_bound}
use Rattle.axis.specs.Questions.{AllYes, FirstNo}
use Rattle.axis.specs.Asks.{Paired, Ordered, Named, AllWithin, first_asks}
use Rattle.axis.specs.Distance.{Open}
use Rattle.axis.specs.declared.model.Bound.{Bound}
use Rattle.axis.specs.declared.model.AxisFault.{AxisFault}
use Rattle.axis.specs.declared.model.AxisFault.TheVariants.{Line, NoBound}
use Rattle.axis.specs.declared.model.Range.{Range}
use Rattle.ledger.specs.Ranges.{every_low, every_high}

-- an axis with these ranges and bounds
abbrev pub meaning : List Range → List Bound → Meaning
meaning ranges bounds = record { lows = every_low ranges; highs = every_high ranges; bounds = bounds }

-- what holds of every ledger at every time
pub record Sound (m : Meaning) : Type 0 where
  pub paired : Paired m.lows m.highs
  pub ordered : Ordered m.lows m.highs
  pub within : AllWithin (lines m) m.bounds
  pub few : length m.bounds ≤ 90

-- besides, no bound closes a ring of negative length, so a placement exists
abbrev pub Standing : Meaning → Type 0
Standing m = Sound m × Open m

-- are both lines there?
abbrev pub Names : Meaning → ℕ → ℕ → Result Unit AxisFault → Type 0
Names m p q (Ok u) = Named (lines m) p q
Names m p q (Err f) = (¬ (Named (lines m) p q)) × (f ≡ Line)

-- all that is asked of a bound before the placements are looked at
abbrev pub Admits : Meaning → Bound → Result Unit AxisFault → Type 0
Admits m b (Ok u) = AllYes (first_asks 90 m b)
Admits m b (Err f) = FirstNo (first_asks 90 m b) f

-- which bound was the newest, and what stands without it
abbrev pub Gone : Meaning → Result Bound AxisFault → Meaning → Type 0
Gone m (Ok b) after = m ≡ with_bound after b
Gone m (Err f) after = (m.bounds ≡ []) × (f ≡ NoBound) × (after ≡ m)
