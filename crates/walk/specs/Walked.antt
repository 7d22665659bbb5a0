-- What a stretch of a walk answers.
use Rattle.std.specs.Prelude.{Ok, Err, Result}
use Rattle.axis.specs.Questions.{AllYes, FirstNo}
use Rattle.faults.specs.declared.model.ImageFault.{ImageFault}
use Rattle.walk.specs.Fields.{Asked}

-- all questions are answered yes, or this is the refusal of the first that is not
abbrev pub Answered : {A : Type 0} → Asked → Result A ImageFault → Type 0
Answered qs (Ok a) = AllYes qs
Answered qs (Err f) = FirstNo qs f
