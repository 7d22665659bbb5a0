-- The one question of the printer, whether the buffer is long enough, and what it then leaves.
use Rattle.std.specs.Prelude.{ℕ, List, Result}
use Rattle.page.specs.Fills.{FillsOr}
use Rattle.text.specs.declared.fault.TextFault.{TextFault}
use Rattle.text.specs.declared.fault.TextFault.TheVariants.{Buffer}

-- the text stands at the front of the buffer, or that is too short, and as it was
abbrev pub Printed : List ℕ → List ℕ → List ℕ → Result ℕ TextFault → Type 0
Printed = FillsOr Buffer
