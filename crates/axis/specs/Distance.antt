-- The shortest lengths of a distance graph, worked out bound by bound.
use Rattle.std.specs.Prelude.{◌≡◌, ℕ, ◌≤◌, Bool, true, cond, ◌&&◌, List, [], ◌∷◌, ℤ, pos, ◌+ℤ◌, ◌-ℤ◌, ◌≤ℤ◌, ◌==◌, int_le}
use Rattle.std.specs.Int.{int_min}
use Rattle.axis.specs.declared.model.Bound.{Bound}
use Rattle.axis.specs.Meaning.{Meaning, lines, at_line, Edge, Walk}

-- the length from line i to line j
abbrev pub Table : Type 0
Table = ℕ → ℕ → ℤ

-- with no bound every way leads over line 0
unfoldable pub base : List ℤ → List ℤ → Table
base lows highs i j = cond (i == j) (pos 0) (at_line highs i -ℤ at_line lows j)

-- one bound more: as before, or over the bound, whichever is shorter
unfoldable pub mend : Table → Bound → Table
mend t b i j = int_min (t i j) (t i b.p +ℤ (b.d +ℤ t b.q j))

abbrev pub mended : Table → List Bound → Table
mended t [] = t
mended t (b ∷ bs) = mended (mend t b) bs

abbrev pub distance : Meaning → Table
distance m = mended (base m.lows m.highs) m.bounds

-- no bound closes a ring of negative length with those before it
abbrev pub open_from : Table → List Bound → Bool
open_from t [] = true
open_from t (b ∷ bs) = int_le (pos 0) (b.d +ℤ t b.q b.p) && open_from (mend t b) bs

abbrev pub Open : Meaning → Type 0
Open m = open_from (base m.lows m.highs) m.bounds ≡ true

-- the table has the shortest lengths of m: no way round is shorter, no edge is, and each length is that of a walk
pub record Right (m : Meaning) (t : Table) : Type 0 where
  pub self : (i : ℕ) → i ≤ lines m → t i i ≡ pos 0
  pub round : (i j k : ℕ) → i ≤ lines m → j ≤ lines m → k ≤ lines m → t i k ≤ℤ (t i j +ℤ t j k)
  pub tight : (p q : ℕ) (d : ℤ) → Edge m p q d → (p ≤ lines m) × (q ≤ lines m) × (t p q ≤ℤ d)
  pub walk : (i j : ℕ) → i ≤ lines m → j ≤ lines m → Walk m i j (t i j)
