-- The ranges of boxes with windows.
use Rattle.std.specs.Prelude.{◌≡◌, ℕ, ◌-◌, min, cond, List, map, ℤ, pos, negsuc, vec_items, nat_le}
use Rattle.bench.specs.declared.packings.Packing.{Packing}
use Rattle.axis.specs.declared.model.Range.{Range}
use Rattle.bench.specs.declared.packings.Ranged.{Ranged}
use Rattle.bench.specs.declared.packings.Stay.{Stay}

-- a step or a metre as an axis has it; past 2880 it is one that every axis refuses
abbrev pub on_axis : ℕ → ℤ
on_axis place = pos (min place 2881)

-- the last place from which the extent still ends by the end, or -1
abbrev pub last_place : ℕ → ℕ → ℤ
last_place end extent = cond (nat_le extent end) (on_axis (end - extent)) (negsuc 0)

abbrev pub window : ℕ → ℕ → ℕ → Range
window first end extent = record { low = on_axis first; high = last_place end extent }

-- a box comes at its first step or later, and is gone in time
abbrev pub timely : Stay → Range
timely s = window s.first s.gone s.size.steps

-- a box begins at metre 0 or farther, and ends on the platform
abbrev pub placed : ℕ → Stay → Range
placed platform s = window 0 platform s.size.metres

abbrev pub ranged : ℕ → Stay → Ranged
ranged platform s = record { size = s.size; steps = timely s; metres = placed platform s }

abbrev pub Packs : ℕ → List Stay → Packing → Type 0
Packs platform stays packing = vec_items packing.boxes ≡ map (ranged platform) stays
