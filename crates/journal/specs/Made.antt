-- The journals that calls make.
use Rattle.std.specs.Prelude.{List, [], ◌∷◌, ◌++◌}
use Rattle.axis.specs.Questions.{AllYes}
use Rattle.boxes.specs.declared.model.Entry.{Entry}
use Rattle.journal.specs.Journal.{Journal, loaded, with_entry}
use Rattle.journal.specs.Asks.{Asked, load_asks, entry_asks}

-- the questions on entries, each asked of the journal with those before it
abbrev pub entries_asked : Journal → List Entry → Asked
entries_asked k [] = []
entries_asked k (e ∷ es) = entry_asks k e ++ entries_asked (with_entry k e) es

-- a sheet that a load and binds make, none of which is refused
abbrev pub Made : Journal → Type 0
Made k = AllYes (load_asks k.span k.platform k.stays) × AllYes (entries_asked (loaded k.span k.platform k.stays) k.entries)
