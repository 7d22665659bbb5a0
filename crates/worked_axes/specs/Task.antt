-- The worked task: three lines, their ranges and one bound.
use Rattle.std.specs.Prelude.{ℕ, ◌≤◌, List, [], ◌∷◌, ℤ, pos, neg_ℤ, Ok, Err, Result}
use Rattle.axis.specs.Meaning.{Meaning, lines}
use Rattle.axis.specs.Theory.{EarliestValue, LatestValue}
use Rattle.axis.specs.declared.model.AxisFault.{AxisFault}

-- three stays of 3, 4 and 2 steps in a span of 7, the third with the first two steps for a window; the first is gone when the second comes
abbrev pub worked : Meaning
worked = record {
  lows = pos 0 ∷ pos 0 ∷ pos 0 ∷ [];
  highs = pos 4 ∷ pos 3 ∷ pos 0 ∷ [];
  bounds = record { p = 1; q = 2; d = neg_ℤ (pos 3) } ∷ [];
}

-- the earliest and the latest step of each line
abbrev pub times : List (ℤ × ℤ)
times = (pos 0, pos 0) ∷ (pos 3, pos 3) ∷ (pos 0, pos 0) ∷ []

abbrev pub Spanned : Meaning → ℕ → Result (ℤ × ℤ) AxisFault → Type 0
Spanned m r (Ok x) = EarliestValue m r x.0 × LatestValue m r x.1
Spanned m r (Err f) = ¬ (r ≤ lines m)
