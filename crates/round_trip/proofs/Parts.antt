-- The parts of a list of questions that are all answered yes, and a journal with entries more.
use Rattle.std.proofs.Common.{List, [], ◌∷◌, ◌++◌}
use Rattle.axis.specs.Questions.{Question, AllYes}
use Rattle.boxes.specs.declared.model.Entry.{Entry}
use Rattle.journal.specs.Journal.{Journal}

module _ {F : Type 0} where
  pub first_yes : (qs more : List {1} (Question F)) → AllYes (qs ++ more) → AllYes qs
  first_yes [] more y = tt
  first_yes (q ∷ qs) more y = (y.0, first_yes qs more y.1)

  pub later_yes : (qs more : List {1} (Question F)) → AllYes (qs ++ more) → AllYes more
  later_yes [] more y = y
  later_yes (q ∷ qs) more y = later_yes qs more y.1

-- the last of the entries is the newest
abbrev pub with_entries : Journal → List Entry → Journal
with_entries k es = record { span = k.span; platform = k.platform; stays = k.stays; entries = k.entries ++ es }
