-- The text that answers an image.
use Rattle.std.specs.Prelude.{◌≡◌, ℕ, ◌⊎◌, List, Result}
use Rattle.faults.specs.declared.model.ImageFault.{ImageFault}
use Rattle.text.specs.declared.fault.TextFault.{TextFault}
use Rattle.text.specs.Texts.{fault_text}
use Rattle.text.specs.Prints.{Printed}
use Rattle.report.specs.Reports.{Tells}
use Rattle.reader.specs.Entries.{journal_in}
use Rattle.journal.specs.Journal.{Journal}
use Rattle.reader.specs.Reads.{Accepted, Refused, Read}

-- the fault where the image is refused; else that its sheet has no plan, or a plan of it that is least under its words
abbrev pub Answers : List ℕ → List ℕ → Type 0
Answers bytes text = ((f : ImageFault) × (Refused bytes f × (text ≡ fault_text f))) ⊎ (Accepted bytes × Tells (journal_in bytes) text)

-- such a text is printed
abbrev pub Answered : List ℕ → List ℕ → List ℕ → Result ℕ TextFault → Type 0
Answered bytes before after r = (text : List ℕ) × (Answers bytes text × Printed text before after r)

-- and the sheet is as a reading leaves it
abbrev pub Leaves : List ℕ → Journal → Journal → Type 0
Leaves bytes k k' = (r : Result Unit ImageFault) × Read bytes k r k'
