use Rattle.std.proofs.Common.{length, refl, rules}
use Rattle.std.proofs.lemmas.List.Recursion.{is_count_by}
use Rattle.journal.specs.Journal.{bounds_on}
use Rattle.journal.proofs.Entered.{on, one_on}
use Rattle.journal.proofs.tables.Entries.count_on.Goals as goal

pub returns : goal.returns
returns c = search (rules, is_count_by (λ es. length (bounds_on c.args.direction es)) (on c.args.direction) refl (one_on c.args.direction))
