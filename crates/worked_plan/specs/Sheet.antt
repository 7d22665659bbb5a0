-- The worked sheet: three stays in seven steps on a hundred metres, and two entries.
use Rattle.std.specs.Prelude.{List, [], ◌∷◌, pos, neg_ℤ, Some, None}
use Rattle.boxes.specs.declared.model.Direction.TheVariants.{Time, Platform}
use Rattle.journal.specs.declared.model.Stay.{Stay}
use Rattle.journal.specs.Journal.{Journal}

abbrev pub worked_stays : List Stay
worked_stays =
    record { circuit = 90; lead = 10; dwell = 60; metres = 60; window = None }
    ∷ record { circuit = 120; lead = 0; dwell = 120; metres = 60; window = None }
    ∷ record { circuit = 60; lead = 0; dwell = 30; metres = 40; window = Some (record { from = 0; until = 2 }) }
    ∷ []

abbrev pub worked_sheet : Journal
worked_sheet = record {
  span = 7;
  platform = 100;
  stays = worked_stays;
  entries =
      record { direction = Time; bound = record { p = 1; q = 2; d = neg_ℤ (pos 3) } }
      ∷ record { direction = Platform; bound = record { p = 1; q = 3; d = neg_ℤ (pos 60) } }
      ∷ [];
}
