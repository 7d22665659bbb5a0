-- The lows and the highs of a table of ranges.
use Rattle.std.specs.Prelude.{List, ℤ, map}
use Rattle.axis.specs.declared.model.Range.{Range}

abbrev pub every_low : List Range → List ℤ
every_low rs = map (λ r. r.low) rs

abbrev pub every_high : List Range → List ℤ
every_high rs = map (λ r. r.high) rs
