-- Pairs of boxes in the order of trials: (1,2), (1,3) .. (2,3) ..
use Rattle.std.specs.Prelude.{ℕ, zero, suc, ◌+◌, ◌-◌, ◌*◌, ◌/◌, List, [], ◌++◌, map, None}
use Rattle.std.specs.List.{range_with_len}
use Rattle.stack.specs.declared.elements.Trial.{Trial}

pub record Pair : Type 0 where
  pub first : ℕ
  pub second : ℕ

-- how many pairs n boxes make
abbrev pub pairs : ℕ → ℕ
pairs n = n * (n - 1) / 2

-- the pairs of box i with the c boxes after it
abbrev pub row : ℕ → ℕ → List Pair
row i c = map (λ j. record { first = i; second = j }) (range_with_len (i + 1) c)

-- and then those of the boxes after it
abbrev pub pairs_from : ℕ → ℕ → List Pair
pairs_from i zero = []
pairs_from i (suc c) = row i (suc c) ++ pairs_from (i + 1) c

abbrev pub trial_order : ℕ → List Pair
trial_order n = pairs_from 1 (n - 1)

abbrev pub pair_of : Trial → Pair
pair_of t = record { first = t.i; second = t.j }

-- a pair that has no word yet
abbrev pub untried : Pair → Trial
untried p = record { i = p.first; j = p.second; word = None }

-- no pair
abbrev pub no_trial : Trial
no_trial = record { i = 0; j = 0; word = None }
