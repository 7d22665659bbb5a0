-- The journal that the tables of a sheet hold, and the ranges of its lines.
use Rattle.std.specs.Prelude.{◌≡◌, ℕ, ◌-◌, List, [], ◌∷◌, ◌++◌, map, length, take, Some, None, Option}
use Rattle.axis.specs.Asks.{Paired, Ordered}
use Rattle.boxes.specs.declared.model.Entry.{Entry}
use Rattle.boxes.specs.declared.model.Direction.{Direction}
use Rattle.journal.specs.declared.model.Stay.{Stay}
use Rattle.journal.specs.declared.tables.Stays.{Stays}
use Rattle.journal.specs.declared.tables.Entries.{Entries}
use Rattle.journal.specs.declared.tables.Ranges.{Ranges}
use Rattle.journal.specs.Journal.{Journal, low_on, high_on}

abbrev pub told : Stays → Entries → Journal
told s e = record { span = s.extents.span; platform = s.extents.platform; stays = s.items; entries = e.items }

-- the newest entry, and those before it
abbrev pub Newest : List Entry → Option Entry → Type 0
Newest es None = es ≡ []
Newest es (Some e) = es ≡ take (length es - 1) es ++ (e ∷ [])

-- the lows and highs of the stays' lines on an axis, as it takes them
pub record Lined (d : Direction) (span platform : ℕ) (stays : List Stay) (r : Ranges) : Type 0 where
  pub lows : r.lows ≡ map (low_on d) stays
  pub highs : r.highs ≡ map (high_on d span platform) stays
  pub paired : Paired r.lows r.highs
  pub ordered : Ordered r.lows r.highs
