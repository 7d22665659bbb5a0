-- A stay in steps and metres.
use Rattle.std.specs.Prelude.{ℕ, ◌+◌, ◌/◌, ◌≤◌, Some, None, Option}
use Rattle.boxes.specs.declared.model.Size.{Size}
use Rattle.journal.specs.declared.model.Stay.{Stay}
use Rattle.journal.specs.declared.model.Window.{Window}

-- how many steps a stay lasts: a step is thirty seconds, and a begun step counts whole
abbrev pub lasts : Stay → ℕ
lasts s = (s.circuit + 29) / 30

-- the first step at which it may begin
abbrev pub opens : Option Window → ℕ
opens None = 0
opens (Some w) = w.from

-- the step by which it is gone
abbrev pub closes : ℕ → Option Window → ℕ
closes span None = span
closes span (Some w) = w.until

abbrev pub size_of : Stay → Size
size_of s = record { steps = lasts s; metres = s.metres }

-- no stay
abbrev pub no_stay : Stay
no_stay = record { circuit = 0; lead = 0; dwell = 0; metres = 0; window = None }

-- what is asked of a stay on a sheet of this span and platform
pub record GoodStay (span platform : ℕ) (s : Stay) : Type 0 where
  pub circuit : (1 ≤ s.circuit) × (s.circuit ≤ 43200)
  pub doors : s.lead + s.dwell ≤ s.circuit
  pub metres : (1 ≤ s.metres) × (s.metres ≤ platform)
  pub window : (opens s.window + lasts s ≤ closes span s.window) × (closes span s.window ≤ span)
