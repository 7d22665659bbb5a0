-- What the end of a descent says of the whole.
use Rattle.std.proofs.Common.{◌≡◌, List, map, length, ◌∙◌}
use Rattle.stack.specs.declared.elements.Trial.{Trial}
use Rattle.boxes.specs.declared.model.Size.{Size}
use Rattle.boxes.specs.declared.model.Place.{Place}
use Rattle.boxes.specs.Order.{trial_order, pair_of}
use Rattle.boxes.specs.Arranged.{Arranged}
use Rattle.boxes.proofs.Ordered.{all_words_free}
use Rattle.moves.specs.Meanings.{Meanings}
use Rattle.packing.specs.Descent.{Reached}

pub arranged : (m : Meanings) (sizes : List Size) (ts after : List Trial) (places : List Place) → map pair_of ts ≡ trial_order (length sizes) → Reached m sizes ts after places → Arranged m.time m.platform sizes places after
arranged m sizes ts after places order x = record {
  for_each = x.for_each;
  arrangement = record { timely = x.timely; placed = x.placed; free = all_words_free sizes _ _ after (x.pairs ∙ order) x.words };
  in_order = x.pairs ∙ order;
  words = x.words;
  least = x.least;
}
