-- The ranges of the boxes of a packing, as an axis has them.
use Rattle.std.specs.Prelude.{List, [], map}
use Rattle.axis.specs.Meaning.{Meaning}
use Rattle.boxes.specs.declared.model.Direction.{Direction}
use Rattle.boxes.specs.declared.model.Direction.TheVariants.{Time, Platform}
use Rattle.boxes.specs.Overlaps.{in_direction}
use Rattle.moves.specs.Meanings.{Meanings}
use Rattle.axis.specs.declared.model.Range.{Range}
use Rattle.bench.specs.declared.packings.Ranged.{Ranged}

abbrev pub range_of : Direction → Ranged → Range
range_of d b = in_direction b.steps b.metres d

-- an axis with the ranges in that direction, and no bounds
abbrev pub axis_of : Direction → List Ranged → Meaning
axis_of d bs = record { lows = map (λ b. (range_of d b).low) bs; highs = map (λ b. (range_of d b).high) bs; bounds = [] }

-- the axis of that direction has these ranges and no bounds, and the other is as it was
abbrev pub lined : Direction → List Ranged → Meanings → Meanings
lined Time bs m = record { time = axis_of Time bs; platform = m.platform }
lined Platform bs m = record { time = m.time; platform = axis_of Platform bs }
