-- The one question of the writer, whether the buffer is long enough, and what it then leaves.
use Rattle.std.specs.Prelude.{ℕ, List, Result}
use Rattle.page.specs.Fills.{FillsOr}
use Rattle.faults.specs.declared.model.Cause.TheVariants.{Buffer}
use Rattle.faults.specs.declared.model.ImageFault.{ImageFault}

-- the image stands at the front of the buffer, or that is too short, and as it was
abbrev pub Written : List ℕ → List ℕ → List ℕ → Result ℕ ImageFault → Type 0
Written = FillsOr (record { offset = 0; cause = Buffer })
