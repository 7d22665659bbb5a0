-- What the bytes of an image ask of a sheet: a load, and a bind for each entry.
use Rattle.std.specs.Prelude.{ℕ, zero, suc, ◌+◌, List, cond, ltb, ℤ, pos, ◌-ℤ◌}
use Rattle.journal.specs.Journal.{Journal, loaded}
use Rattle.journal.specs.Steps.{Request, load, bind, next}
use Rattle.walk.specs.Fields.{byte_at, number_at, after_entry, stays_end}
use Rattle.walk.specs.Stays.{stays_at}

-- the number of sixteen bits in two's complement
abbrev pub signed : ℕ → ℤ
signed n = cond (ltb n 32768) (pos n) (pos n -ℤ pos 65536)

-- the letter, the lines p and q, and d
abbrev pub bind_at : List ℕ → ℕ → Request
bind_at bytes o = bind (byte_at bytes o) (record { p = byte_at bytes (o + 1); q = byte_at bytes (o + 2); d = signed (number_at bytes (o + 3)) })

-- the journal after n entries from o on, none of which is refused
abbrev pub bound : List ℕ → Journal → ℕ → ℕ → Journal
bound bytes k zero o = k
bound bytes k (suc n) o = bound bytes (next k (bind_at bytes o)) n (after_entry o)

abbrev pub load_in : List ℕ → Request
load_in bytes = load (number_at bytes 3) (number_at bytes 5) (stays_at bytes (byte_at bytes 7) 8)

-- the journal after the load
abbrev pub loaded_in : List ℕ → Journal
loaded_in bytes = loaded (number_at bytes 3) (number_at bytes 5) (stays_at bytes (byte_at bytes 7) 8)

-- the journal that an image tells
abbrev pub journal_in : List ℕ → Journal
journal_in bytes = bound bytes (loaded_in bytes) (byte_at bytes (stays_end bytes)) (stays_end bytes + 1)
