-- What the questions that are left answer is what all of them answer.
use Rattle.std.proofs.Common.{List, ◌++◌, Ok, Err, Result}
use Rattle.axis.specs.Questions.{Question, AllYes, FirstNo}
use Rattle.axis.proofs.Asked.{first_no_append, first_no_after, all_yes_append}
use Rattle.faults.specs.declared.model.ImageFault.{ImageFault}
use Rattle.walk.specs.Fields.{Asked}
use Rattle.walk.specs.Walked.{Answered}

module _ {F : Type 0} where
  pub record Leads (all rest : List {1} (Question F)) : Type 0 where
    pub refused : (f : F) → FirstNo rest f → FirstNo all f
    pub passed : AllYes rest → AllYes all

  pub leads_all : (all : List {1} (Question F)) → Leads all all
  leads_all all = record { refused = λ f h. h; passed = λ h. h }

  module _ (all here later : List {1} (Question F)) (l : Leads all (here ++ later)) where
    pub leads_more : AllYes here → Leads all later
    leads_more y = record {
      refused = λ f h. l.refused f (first_no_after here later f y h);
      passed = λ h. l.passed (all_yes_append here later y h);
    }

    pub leads_refused : (f : F) → FirstNo here f → FirstNo all f
    leads_refused f h = l.refused f (first_no_append here later f h)

-- what comes after questions that are answered yes has the answer
pub answered_after : {A : Type 0} (qs more : Asked) (r : Result A ImageFault) → AllYes qs → Answered more r → Answered (qs ++ more) r
answered_after qs more (Ok a) y h = all_yes_append qs more y h
answered_after qs more (Err f) y h = first_no_after qs more f y h
