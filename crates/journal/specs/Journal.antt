-- The journal: what a list of calls has left standing, told from their arguments alone; and its two axes.
use Rattle.std.specs.Prelude.{ℕ, ◌-◌, List, [], ◌∷◌, ◌++◌, map, length, take, ℤ, pos, ◌-ℤ◌}
use Rattle.axis.specs.Meaning.{Meaning}
use Rattle.axis.specs.declared.model.Bound.{Bound}
use Rattle.boxes.specs.declared.model.Size.{Size}
use Rattle.boxes.specs.declared.model.Entry.{Entry}
use Rattle.boxes.specs.declared.model.Direction.{Direction}
use Rattle.boxes.specs.declared.model.Direction.TheVariants.{Time, Platform}
use Rattle.journal.specs.declared.model.Stay.{Stay}
use Rattle.journal.specs.Stays.{lasts, opens, closes, size_of}

-- entries stand oldest first
pub record Journal : Type 0 where
  pub span : ℕ
  pub platform : ℕ
  pub stays : List Stay
  pub entries : List Entry

-- a new sheet
abbrev pub new : Journal
new = record { span = 1; platform = 1; stays = []; entries = [] }

-- a load clears the entries
abbrev pub loaded : ℕ → ℕ → List Stay → Journal
loaded span platform stays = record { span = span; platform = platform; stays = stays; entries = [] }

abbrev pub with_entry : Journal → Entry → Journal
with_entry k e = record { span = k.span; platform = k.platform; stays = k.stays; entries = k.entries ++ (e ∷ []) }

-- the newest entry is struck out
abbrev pub without_newest : Journal → Journal
without_newest k = record { span = k.span; platform = k.platform; stays = k.stays; entries = take (length k.entries - 1) k.entries }

abbrev pub kept : Direction → Direction → Bound → List Bound → List Bound
kept Time Time b bs = b ∷ bs
kept Time Platform b bs = bs
kept Platform Time b bs = bs
kept Platform Platform b bs = b ∷ bs

-- the bounds of one direction, oldest first
abbrev pub bounds_on : Direction → List Entry → List Bound
bounds_on d [] = []
bounds_on d (e ∷ es) = kept d e.direction e.bound (bounds_on d es)

-- in time a stay has its window, along the platform all of it
abbrev pub low_on : Direction → Stay → ℤ
low_on Time s = pos (opens s.window)
low_on Platform s = pos 0

abbrev pub high_on : Direction → ℕ → ℕ → Stay → ℤ
high_on Time span platform s = pos (closes span s.window) -ℤ pos (lasts s)
high_on Platform span platform s = pos platform -ℤ pos s.metres

-- an axis of the journal: the stays' lines, and the entries of its direction as standing bounds
abbrev pub axis_of : Direction → Journal → Meaning
axis_of d k = record {
  lows = map (low_on d) k.stays;
  highs = map (high_on d k.span k.platform) k.stays;
  bounds = bounds_on d k.entries;
}

abbrev pub sizes_of : Journal → List Size
sizes_of k = map size_of k.stays
