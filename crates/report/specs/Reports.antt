-- The text that tells what a journal's plans are.
use Rattle.std.specs.Prelude.{◌≡◌, ℕ, ◌⊎◌, List, ℤ, Result}
use Rattle.stack.specs.declared.elements.Trial.{Trial}
use Rattle.boxes.specs.declared.model.Place.{Place}
use Rattle.text.specs.declared.fault.TextFault.{TextFault}
use Rattle.text.specs.Texts.{plan_text, no_plan_text}
use Rattle.text.specs.Prints.{Printed}
use Rattle.journal.specs.Journal.{Journal}
use Rattle.journal.specs.Asks.{Plan}
use Rattle.journal.specs.Steps.{Settled}

-- a plan that is least under its words, or that none exists
abbrev pub Tells : Journal → List ℕ → Type 0
Tells k text =
    ((places : List Place) × ((trials : List Trial) × (Settled k places trials × (text ≡ plan_text places))))
    ⊎ (((x y : ℕ → ℤ) → ¬ (Plan k x y)) × (text ≡ no_plan_text))

-- such a text is printed
abbrev pub Reported : Journal → List ℕ → List ℕ → Result ℕ TextFault → Type 0
Reported k before after r = (text : List ℕ) × (Tells k text × Printed text before after r)
