-- What it means to decide a packing.
use Rattle.std.specs.Prelude.{ℕ, List, map, ℤ, Ok, Err, Result, vec_items}
use Rattle.axis.specs.Meaning.{Meaning}
use Rattle.boxes.specs.declared.model.Size.{Size}
use Rattle.boxes.specs.declared.model.Direction.TheVariants.{Time, Platform}
use Rattle.boxes.specs.Arranged.{Arrangement, NoArrangement}
use Rattle.bench.specs.declared.packings.Packing.{Packing}
use Rattle.bench.specs.Ranges.{axis_of}

module _ {E : Type 0} where
  abbrev pub Answers : Meaning → Meaning → List Size → Result ℕ E → Type 0
  Answers time platform sizes (Ok tries) = (x : ℕ → ℤ) × ((y : ℕ → ℤ) × Arrangement time platform sizes x y)
  Answers time platform sizes (Err none) = NoArrangement time platform sizes

  -- there is an arrangement within the ranges, or there is none
  abbrev pub Decided : Packing → Result ℕ E → Type 0
  Decided k answer = Answers (axis_of Time (vec_items k.boxes)) (axis_of Platform (vec_items k.boxes)) (map (λ b. b.size) (vec_items k.boxes)) answer
