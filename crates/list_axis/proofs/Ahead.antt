-- The ranges that are still ahead of a pass over them.
use Rattle.std.proofs.Common.{◌≡◌, ℕ, ◌+◌, ◌<◌, ◌≤◌, List, ◌∷◌, length, drop, ℤ, pos, ap, ◌∙◌, arith}
use Rattle.std.proofs.lemmas.List.{length-drop, length-map, drop_more}
use Rattle.axis.specs.declared.model.Range.{Range}
use Rattle.axis.specs.Meaning.{Meaning, lines}
use Rattle.ledger.specs.Ranges.{every_low, every_high}

-- those of the lines from r on
pub record Ahead (m : Meaning) (r : ℕ) (rest : List Range) : Type 0 where
  pub least : every_low rest ≡ drop r (pos 0 ∷ m.lows)
  pub greatest : every_high rest ≡ drop r (pos 0 ∷ m.highs)
  pub few : r ≤ lines m + 1

-- what is left of a list, with the one that comes next at its head
module _ (r : ℕ) (xs ys : List ℤ) (y : ℤ) (e : y ∷ ys ≡ drop r xs) where
  next_below : r < length xs
  next_below = omega (arith, ap (length {A = ℤ}) e, length-drop r xs)

  next_rest : ys ≡ drop (r + 1) xs
  next_rest = ap (drop 1) (e ∙ drop_more xs r (pos 0) next_below)

module _ (m : Meaning) (r : ℕ) (range : Range) (rest : List Range) (a : Ahead m r (range ∷ rest)) where
  pub ahead_more : Ahead m (r + 1) rest
  ahead_more = record {
    least = next_rest r _ (every_low rest) range.low a.least;
    greatest = next_rest r _ (every_high rest) range.high a.greatest;
    few = omega (arith, next_below r _ (every_low rest) range.low a.least);
  }

pub ahead_none : (m : Meaning) (r : ℕ) (rest : List Range) → Ahead m r rest → length rest ≡ 0 → lines m < r
ahead_none m r rest a none = omega (arith, ap (length {A = ℤ}) a.least, length-map rest (λ x. x.low), length-drop r (pos 0 ∷ m.lows))
