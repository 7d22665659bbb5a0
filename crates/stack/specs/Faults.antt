-- The number of a refusal and the words for it.
use Rattle.std.specs.Prelude.{ℕ, List, codes}
use Rattle.stack.specs.declared.fault.StackFault.{StackFault}
use Rattle.stack.specs.declared.fault.StackFault.TheVariants.{Full, Empty}

abbrev pub number : StackFault → ℕ
number Full = 41
number Empty = 42

abbrev pub words : StackFault → List ℕ
words Full = codes "no space on the stack"
words Empty = codes "no element on the stack"
