-- The number of a refusal and the words for it.
use Rattle.std.specs.Prelude.{ℕ, List, codes}
use Rattle.text.specs.declared.fault.TextFault.{TextFault}
use Rattle.text.specs.declared.fault.TextFault.TheVariants.{Buffer}

abbrev pub number : TextFault → ℕ
number Buffer = 36

abbrev pub words : TextFault → List ℕ
words Buffer = codes "the buffer is too short for the text"
