-- The parts of the ways over a bound.
use Rattle.std.specs.Prelude.{ℕ, ◌≤◌, List, ℤ}
use Rattle.axis.specs.Asks.{InReach}
use Rattle.ledger.specs.Lengths.{Near, entry}

-- every part of a way over the bound is short enough that the sum fits 16 bits
pub record Short (n : ℕ) (starts : List ℤ) (d : ℤ) (ends : List ℤ) : Type 0 where
  pub reach : InReach d
  pub to_start : (i : ℕ) → i ≤ n → Near (entry starts i)
  pub from_end : (j : ℕ) → j ≤ n → Near (entry ends j)
