-- What the fields of an image tell.
use Rattle.std.specs.Prelude.{◌≡◌, ℕ, ◌+◌, ◌*◌, List, length, take}
use Rattle.walk.specs.Fields.{byte_at, number_at, stays_end}
use Rattle.walk.specs.Stays.{stays_at}
use Rattle.walk.specs.declared.model.Fields.{Fields}

-- span and platform, the stays, and where the entries are, each of which is five bytes long
pub record Tells (bytes : List ℕ) (f : Fields) : Type 0 where
  pub span : f.span ≡ number_at bytes 3
  pub platform : f.platform ≡ number_at bytes 5
  pub stays : take f.count f.slots ≡ stays_at bytes (byte_at bytes 7) 8
  pub entries : f.entries ≡ byte_at bytes (stays_end bytes)
  pub offset : f.offset ≡ stays_end bytes + 1
  pub end : length bytes ≡ f.offset + 5 * f.entries
