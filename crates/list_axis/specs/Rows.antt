-- A row of lengths from one line: what it holds at any time, what relaxing edges does to it, and what it tells in the end.
use Rattle.std.specs.Prelude.{◌≡◌, ℕ, suc, ◌+◌, ◌-◌, ◌<◌, ◌≤◌, List, [], ◌∷◌, ℤ, pos, negsuc, ◌+ℤ◌, neg_ℤ, ◌≤ℤ◌}
use Rattle.std.specs.List.{ContainsAt}
use Rattle.axis.specs.declared.model.Bound.{Bound}
use Rattle.axis.specs.Meaning.{Meaning, lines, low, high, Edge}
use Rattle.axis.specs.Asks.{Within, Tightest}
use Rattle.axis.specs.Distance.{distance}
use Rattle.ledger.specs.Lengths.{Near, entry}

-- the lengths of ways from line s: none is shorter than the shortest, and line s is at no distance from itself
pub record Found (m : Meaning) (s : ℕ) (row : List ℤ) : Type 0 where
  pub home : entry row s ≤ℤ pos 0
  pub far : (j : ℕ) → j ≤ lines m → distance m s j ≤ℤ entry row j
  pub near : (j : ℕ) → j ≤ lines m → Near (entry row j)

-- an edge from a line to a line, as long as a bound can be
abbrev pub IsEdge : Meaning → Bound → Type 0
IsEdge m b = Edge m b.p b.q b.d × Within (lines m) b

-- the edge shortens no way
abbrev pub Kept : Bound → List ℤ → Type 0
Kept b row = entry row b.q ≤ℤ (entry row b.p +ℤ b.d)

abbrev pub BoundsKept : List Bound → List ℤ → Type 0
BoundsKept bs row = (b : Bound) → ContainsAt bs b → Kept b row

-- the range of line r, as bounds against line 0
abbrev pub highest : Meaning → ℕ → Bound
highest m r = record { p = r; q = 0; d = high m r }

abbrev pub lowest : Meaning → ℕ → Bound
lowest m r = record { p = 0; q = r; d = neg_ℤ (low m r) }

abbrev pub RangeKept : Meaning → ℕ → List ℤ → Type 0
RangeKept m r row = Kept (highest m r) row × Kept (lowest m r) row

-- of the lines below n
abbrev pub RangesKept : Meaning → ℕ → List ℤ → Type 0
RangesKept m n row = (r : ℕ) → r < n → RangeKept m r row

-- no edge shortens a way
abbrev pub EdgesKept : Meaning → List ℤ → Type 0
EdgesKept m row = BoundsKept m.bounds row × RangesKept m (lines m + 1) row

-- how far the lengths can still fall, all together
abbrev pub above : ℤ → ℕ
above (pos n) = 2880 + n
above (negsuc n) = 2880 - suc n

abbrev pub total : List ℤ → ℕ
total [] = 0
total (x ∷ xs) = above x + total xs

-- x is the length from p to q
pub record Length (m : Meaning) (p q : ℕ) (x : ℤ) : Type 0 where
  pub value : x ≡ distance m p q
  pub near : Near x
  pub tightest : Tightest m p q x

-- the row has the lengths from line s
abbrev pub Complete : Meaning → ℕ → List ℤ → Type 0
Complete m s row = (q : ℕ) → q ≤ lines m → Length m s q (entry row q)
