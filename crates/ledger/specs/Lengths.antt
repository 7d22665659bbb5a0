-- Lengths that lie within the longest span.
use Rattle.std.specs.Prelude.{ℕ, List, ℤ, pos, neg_ℤ, ◌≤ℤ◌, slice_index_or}

abbrev pub Near : ℤ → Type 0
Near x = (neg_ℤ (pos 2880) ≤ℤ x) × (x ≤ℤ pos 2880)

-- the length at a place of a row or a column
abbrev pub entry : List ℤ → ℕ → ℤ
entry row j = slice_index_or row j (pos 0)
