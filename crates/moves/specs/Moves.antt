-- Bounds put on one of two axes, and what is known of a bound before it is put.
use Rattle.std.specs.Prelude.{◌≡◌, ℕ, List, ℤ, ◌-ℤ◌, ◌≤ℤ◌, Result}
use Rattle.axis.specs.Meaning.{Meaning, Placement}
use Rattle.axis.specs.Asks.{Reset, Put, Back}
use Rattle.axis.specs.declared.model.Bound.{Bound}
use Rattle.axis.specs.declared.model.AxisFault.{AxisFault}
use Rattle.boxes.specs.declared.model.Direction.{Direction}
use Rattle.boxes.specs.declared.model.Direction.TheVariants.{Time, Platform}
use Rattle.moves.specs.Meanings.{Meanings}
use Rattle.moves.specs.declared.moves.Standing.{Standing}
use Rattle.moves.specs.declared.moves.Standing.TheVariants.{Implied, Possible, Impossible}

-- each call goes to the axis of its direction, and the other stays as it is
abbrev pub ResetOn : Direction → Meanings → List ℤ → List ℤ → Result Unit AxisFault → Meanings → Type 0
ResetOn Time m lows highs r m' = Reset m.time lows highs r m'.time × (m'.platform ≡ m.platform)
ResetOn Platform m lows highs r m' = Reset m.platform lows highs r m'.platform × (m'.time ≡ m.time)

abbrev pub PutOn : Direction → ℕ → ℕ → Meanings → Bound → Result Unit AxisFault → Meanings → Type 0
PutOn Time ht hp m b r m' = Put ht m.time b r m'.time × (m'.platform ≡ m.platform)
PutOn Platform ht hp m b r m' = Put hp m.platform b r m'.platform × (m'.time ≡ m.time)

abbrev pub BackOn : Direction → Meanings → Result Unit AxisFault → Meanings → Type 0
BackOn Time m r m' = Back m.time r m'.time × (m'.platform ≡ m.platform)
BackOn Platform m r m' = Back m.platform r m'.platform × (m'.time ≡ m.time)

abbrev pub KeptBy : Bound → (ℕ → ℤ) → Type 0
KeptBy b v = (v b.p -ℤ v b.q) ≤ℤ b.d

-- every placement keeps the bound, or none does
abbrev pub Told : Meaning → Bound → Standing → Type 0
Told m b Implied = (v : ℕ → ℤ) → Placement m v → KeptBy b v
Told m b Possible = Unit {0}
Told m b Impossible = (v : ℕ → ℤ) → Placement m v → ¬ (KeptBy b v)
