-- What mending does to a table, by the ways over a bound.
use Rattle.std.specs.Prelude.{ℕ, ◌≤◌, ◌⊎◌, List, ℤ, ◌+ℤ◌, ◌≤ℤ◌}
use Rattle.std.specs.Int.{int_min}
use Rattle.std.specs.List.{ContainsAt}
use Rattle.axis.specs.Distance.{Table}
use Rattle.ledger.specs.Lengths.{entry}
use Rattle.matrix_axis.specs.Cells.{cell, Same}
use Rattle.matrix_axis.specs.declared.over.Over.{Over}

-- from line i to the bound's start, over it, and on from its end to line j
abbrev pub way : Over → Table
way o i j = entry o.starts i +ℤ (o.d +ℤ entry o.ends j)

-- a row that is not listed has no length to mend, nor has such a column
pub record Pending (t : Table) (o : Over) (rows columns : List ℕ) : Type 0 where
  pub row : (i : ℕ) → i ≤ o.last → ContainsAt rows i ⊎ ((j : ℕ) → j ≤ o.last → t i j ≤ℤ way o i j)
  pub column : (j : ℕ) → j ≤ o.last → ContainsAt columns j ⊎ ((i : ℕ) → i ≤ o.last → t i j ≤ℤ way o i j)
  pub row_within : (i : ℕ) → ContainsAt rows i → i ≤ o.last
  pub column_within : (j : ℕ) → ContainsAt columns j → j ≤ o.last

-- the row of line i is lowered in the listed columns, to the ways over the bound and no farther
pub record RowMended (o : Over) (i : ℕ) (columns : List ℕ) (before after : List ℤ) : Type 0 where
  pub lower : (j : ℕ) → entry after j ≤ℤ entry before j
  pub floor : (j : ℕ) → int_min (entry before j) (way o i j) ≤ℤ entry after j
  pub done : (j : ℕ) → ContainsAt columns j → entry after j ≤ℤ way o i j

-- every length is as before, or over the bound, whichever is shorter
abbrev pub Mended : Over → List (List ℤ) → List (List ℤ) → Type 0
Mended o before after = Same o.last after (λ i j. int_min (cell before i j) (way o i j))
