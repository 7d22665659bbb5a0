-- What two axes mean, one for steps and one for metres.
use Rattle.axis.specs.Meaning.{Meaning, with_bound}
use Rattle.boxes.specs.declared.model.Direction.{Direction}
use Rattle.boxes.specs.declared.model.Entry.{Entry}
use Rattle.boxes.specs.Overlaps.{in_direction}

pub record Meanings : Type 0 where
  pub time : Meaning
  pub platform : Meaning

-- two axes that lie apart
abbrev pub together : Meaning → Meaning → Meanings
together t p = record { time = t; platform = p }

-- the axis of that direction
abbrev pub along : Direction → Meanings → Meaning
along d m = in_direction m.time m.platform d

-- one bound more, on the axis of its direction
abbrev pub grown : Meanings → Entry → Meanings
grown m e = record {
  time = in_direction (with_bound m.time e.bound) m.time e.direction;
  platform = in_direction m.platform (with_bound m.platform e.bound) e.direction;
}
