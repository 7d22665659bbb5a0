-- The worklists of a bound.
use Rattle.std.specs.Prelude.{ℕ, ◌≤◌, ◌⊎◌, List}
use Rattle.std.specs.List.{ContainsAt}

-- every line 0 to n is listed or is skipped, and no line past n is listed
pub record Listed (n : ℕ) (Skipped : ℕ → Type 0) (list : List ℕ) : Type 0 where
  pub all : (r : ℕ) → r ≤ n → ContainsAt list r ⊎ Skipped r
  pub within : (r : ℕ) → ContainsAt list r → r ≤ n
