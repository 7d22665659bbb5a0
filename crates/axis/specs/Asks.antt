-- What each call of an axis asks, in its order, what it answers and what it leaves.
use Rattle.std.specs.Prelude.{◌≡◌, ℕ, ◌<◌, ◌≤◌, List, [], ◌∷◌, ◌++◌, length, ℤ, pos, neg_ℤ, ◌≤ℤ◌, Ok, Err, Result, slice_index_or}
use Rattle.std.specs.List.{ContainsAt}
use Rattle.axis.specs.Questions.{Question, AllYes, FirstNo}
use Rattle.axis.specs.Meaning.{Meaning, with_bound, lines, Remains, Largest, Shortest}
use Rattle.axis.specs.declared.model.Bound.{Bound}
use Rattle.axis.specs.declared.model.AxisFault.{AxisFault}
use Rattle.axis.specs.declared.model.AxisFault.TheVariants.{Lists, Ranges, Line, Length, Full, NoPlacement, NoBound}

-- the number of each refusal
abbrev pub number : AxisFault → ℕ
number Lists = 1
number Ranges = 2
number Line = 3
number Length = 4
number Full = 5
number NoPlacement = 6
number NoBound = 7

-- equally many lows and highs, at most twelve
abbrev pub Paired : List ℤ → List ℤ → Type 0
Paired lows highs = (length lows ≡ length highs) × (length lows ≤ 12)

-- a low is from 0 to 2880, and its high from the low to 2880
abbrev pub InOrder : ℤ → ℤ → Type 0
InOrder l h = (pos 0 ≤ℤ l) × ((l ≤ℤ h) × (h ≤ℤ pos 2880))

abbrev pub Ordered : List ℤ → List ℤ → Type 0
Ordered lows highs = (k : ℕ) → k < length lows → InOrder (slice_index_or lows k (pos 0)) (slice_index_or highs k (pos 0))

-- p and q are lines 0 to n
abbrev pub Named : ℕ → ℕ → ℕ → Type 0
Named n p q = (p ≤ n) × (q ≤ n)

abbrev pub InReach : ℤ → Type 0
InReach d = (neg_ℤ (pos 4000) ≤ℤ d) × (d ≤ℤ pos 4000)

abbrev pub Within : ℕ → Bound → Type 0
Within n b = Named n b.p b.q × InReach b.d

abbrev pub AllWithin : ℕ → List Bound → Type 0
AllWithin n bs = (b : Bound) → ContainsAt bs b → Within n b

-- what holds of every axis at every time
pub record Valid (most : ℕ) (m : Meaning) : Type 0 where
  pub paired : Paired m.lows m.highs
  pub ordered : Ordered m.lows m.highs
  pub within : AllWithin (lines m) m.bounds
  pub few : length m.bounds ≤ most
  pub placed : Remains m

abbrev pub Asked : Type 1
Asked = List {1} (Question AxisFault)

abbrev pub reset_asks : List ℤ → List ℤ → Asked
reset_asks lows highs =
    record { asks = Paired lows highs; refusal = Lists }
    ∷ record { asks = Ordered lows highs; refusal = Ranges }
    ∷ []

-- what an axis can tell of a bound before it looks at the placements
abbrev pub first_asks : ℕ → Meaning → Bound → Asked
first_asks most m b =
    record { asks = Named (lines m) b.p b.q; refusal = Line }
    ∷ record { asks = InReach b.d; refusal = Length }
    ∷ record { asks = length m.bounds < most; refusal = Full }
    ∷ []

abbrev pub put_asks : ℕ → Meaning → Bound → Asked
put_asks most m b = first_asks most m b ++ (record { asks = Remains (with_bound m b); refusal = NoPlacement } ∷ [])

abbrev pub Reset : Meaning → List ℤ → List ℤ → Result Unit AxisFault → Meaning → Type 0
Reset m lows highs (Ok u) after = AllYes (reset_asks lows highs) × (after ≡ record { lows = lows; highs = highs; bounds = [] })
Reset m lows highs (Err f) after = FirstNo (reset_asks lows highs) f × (after ≡ m)

abbrev pub Put : ℕ → Meaning → Bound → Result Unit AxisFault → Meaning → Type 0
Put most m b (Ok u) after = AllYes (put_asks most m b) × (after ≡ with_bound m b)
Put most m b (Err f) after = FirstNo (put_asks most m b) f × (after ≡ m)

abbrev pub Back : Meaning → Result Unit AxisFault → Meaning → Type 0
Back m (Ok u) after = (b : Bound) × (m ≡ with_bound after b)
Back m (Err f) after = (m.bounds ≡ []) × (f ≡ NoBound) × (after ≡ m)

-- the largest difference over all placements is also the length of a shortest walk
pub record Tightest (m : Meaning) (p q : ℕ) (t : ℤ) : Type 0 where
  pub largest : Largest m p q t
  pub shortest : Shortest m p q t

abbrev pub Tight : Meaning → ℕ → ℕ → Result ℤ AxisFault → Type 0
Tight m p q (Ok t) = Named (lines m) p q × Tightest m p q t
Tight m p q (Err f) = (¬ (Named (lines m) p q)) × (f ≡ Line)
