-- What an axis means: lines with ranges, standing bounds, placements, and the walks of its distance graph.
use Rattle.std.specs.Prelude.{◌≡◌, ℕ, ◌≤◌, List, [], ◌∷◌, ◌++◌, length, ℤ, pos, ◌+ℤ◌, ◌-ℤ◌, neg_ℤ, ◌≤ℤ◌, ◌<ℤ◌, slice_index_or}
use Rattle.std.specs.List.{ContainsAt}
use Rattle.axis.specs.declared.model.Bound.{Bound}

-- lines 1 to n, each with a low and a high; the standing bounds, oldest first
pub record Meaning : Type 0 where
  pub lows : List ℤ
  pub highs : List ℤ
  pub bounds : List Bound

-- a new axis has no lines and no bounds
abbrev pub new : Meaning
new = record { lows = []; highs = []; bounds = [] }

abbrev pub with_bound : Meaning → Bound → Meaning
with_bound m b = record { lows = m.lows; highs = m.highs; bounds = m.bounds ++ (b ∷ []) }

abbrev pub lines : Meaning → ℕ
lines m = length m.lows

-- of the numbers of the lines 1 to n, that of line r; line 0 is at 0
abbrev pub at_line : List ℤ → ℕ → ℤ
at_line xs r = slice_index_or (pos 0 ∷ xs) r (pos 0)

abbrev pub low : Meaning → ℕ → ℤ
low m r = at_line m.lows r

abbrev pub high : Meaning → ℕ → ℤ
high m r = at_line m.highs r

-- every line from its low to its high (so line 0 is at 0), and every standing bound kept
pub record Placement (m : Meaning) (v : ℕ → ℤ) : Type 0 where
  pub above : (r : ℕ) → r ≤ lines m → low m r ≤ℤ v r
  pub below : (r : ℕ) → r ≤ lines m → v r ≤ℤ high m r
  pub keeps : (b : Bound) → ContainsAt m.bounds b → (v b.p -ℤ v b.q) ≤ℤ b.d

-- some placement exists
abbrev pub Remains : Meaning → Type 0
Remains m = (v : ℕ → ℤ) × Placement m v

-- t is the largest difference, p less q, over all placements, and some placement has it
pub record Largest (m : Meaning) (p q : ℕ) (t : ℤ) : Type 0 where
  pub most : (v : ℕ → ℤ) → Placement m v → (v p -ℤ v q) ≤ℤ t
  pub had : (v : ℕ → ℤ) × (Placement m v × (v p -ℤ v q ≡ t))

-- v is a placement, and no placement is earlier in any line
pub record Earliest (m : Meaning) (v : ℕ → ℤ) : Type 0 where
  pub placed : Placement m v
  pub least : (w : ℕ → ℤ) → Placement m w → (r : ℕ) → r ≤ lines m → v r ≤ℤ w r

-- the distance graph: an edge of length d for each bound, to 0 of length high, from 0 of length minus low
pub data Edge (m : Meaning) : ℕ → ℕ → ℤ → Type 0 where
  bound : (b : Bound) → ContainsAt m.bounds b → Edge m b.p b.q b.d
  down : (p : ℕ) → p ≤ lines m → Edge m p 0 (high m p)
  up : (q : ℕ) → q ≤ lines m → Edge m 0 q (neg_ℤ (low m q))

-- a walk from line to line along edges, by its length
pub data Walk (m : Meaning) : ℕ → ℕ → ℤ → Type 0 where
  none : (p : ℕ) → p ≤ lines m → Walk m p p (pos 0)
  step : (p r q : ℕ) (d e : ℤ) → Edge m p r d → Walk m r q e → Walk m p q (d +ℤ e)

-- t is the length of some walk from p to q, and no walk is shorter
pub record Shortest (m : Meaning) (p q : ℕ) (t : ℤ) : Type 0 where
  pub walk : Walk m p q t
  pub least : (l : ℤ) → Walk m p q l → t ≤ℤ l

-- a closed walk of negative length
abbrev pub NegativeRing : Meaning → Type 0
NegativeRing m = (p : ℕ) × ((l : ℤ) × (Walk m p p l × (l <ℤ pos 0)))
