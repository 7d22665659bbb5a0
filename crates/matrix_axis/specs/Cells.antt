-- The table of a matrix axis: thirteen rows of thirteen lengths.
use Rattle.std.specs.Prelude.{◌≡◌, ℕ, ◌≤◌, List, [], ℤ, ◌+ℤ◌, ◌≤ℤ◌, slice_index_or}
use Rattle.axis.specs.Meaning.{Meaning, lines}
use Rattle.axis.specs.Asks.{Named}
use Rattle.ledger.specs.Lengths.{Near, entry}
use Rattle.axis.specs.Distance.{Table, distance}

abbrev pub row_of : List (List ℤ) → ℕ → List ℤ
row_of rows i = slice_index_or rows i []

-- the length from line i to line j
abbrev pub cell : List (List ℤ) → Table
cell rows i j = entry (row_of rows i) j

-- for the lines 0 to n the table is t
abbrev pub Same : ℕ → List (List ℤ) → Table → Type 0
Same n rows t = (i j : ℕ) → Named n i j → cell rows i j ≡ t i j

-- the table has the shortest lengths
abbrev pub Kept : List (List ℤ) → Meaning → Type 0
Kept rows m = Same (lines m) rows (distance m)

-- no way round is shorter, and every length is within the longest span
pub record Closed (n : ℕ) (t : Table) : Type 0 where
  pub round : (i j k : ℕ) → i ≤ n → j ≤ n → k ≤ n → t i k ≤ℤ (t i j +ℤ t j k)
  pub near : (i j : ℕ) → i ≤ n → j ≤ n → Near (t i j)
