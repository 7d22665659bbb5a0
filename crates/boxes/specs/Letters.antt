-- The letters that name the axes.
use Rattle.std.specs.Prelude.{◌≡◌, ℕ, cond, ◌==◌, Some, None, Option, Ok, Err, Result}
use Rattle.boxes.specs.declared.model.Direction.{Direction}
use Rattle.boxes.specs.declared.model.Direction.TheVariants.{Time, Platform}
use Rattle.boxes.specs.declared.letters.NoDirection.{NoDirection}

-- the letters T and P, by their codes
abbrev pub letter_of : Direction → ℕ
letter_of Time = 84
letter_of Platform = 80

abbrev pub direction_of : ℕ → Option Direction
direction_of letter = cond (letter == 84) (Some Time) (cond (letter == 80) (Some Platform) None)

-- the axis that the letter names, or that it names none
abbrev pub Names : ℕ → Result Direction NoDirection → Type 0
Names letter (Ok direction) = direction_of letter ≡ Some direction
Names letter (Err e) = direction_of letter ≡ None
