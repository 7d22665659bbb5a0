-- Places that are settled one after the other.
use Rattle.std.specs.Prelude.{ℕ, ◌+◌, ◌<◌, List, pos, slice_index_or}
use Rattle.axis.specs.Theory.{EarliestValue}
use Rattle.boxes.specs.declared.model.Place.{Place}
use Rattle.moves.specs.Meanings.{Meanings}

abbrev pub nowhere : Place
nowhere = record { step = 0; metre = 0 }

-- the first k boxes stand at their earliest step and their nearest metre
pub record Settled (m : Meanings) (k : ℕ) (places : List Place) : Type 0 where
  pub steps : (i : ℕ) → i < k → EarliestValue m.time (i + 1) (pos (slice_index_or places i nowhere).step)
  pub metres : (i : ℕ) → i < k → EarliestValue m.platform (i + 1) (pos (slice_index_or places i nowhere).metre)
