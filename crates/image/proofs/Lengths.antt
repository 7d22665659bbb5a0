-- How long an image can be.
use Rattle.std.proofs.Common.{◌≡◌, ◌*◌, ◌≤◌, List, [], ◌∷◌, length, flat_map, Some, None, Option, arith, length-append}
use Rattle.boxes.specs.declared.model.Entry.{Entry}
use Rattle.journal.specs.declared.model.Stay.{Stay}
use Rattle.journal.specs.declared.model.Window.{Window}
use Rattle.journal.specs.Journal.{Journal}
use Rattle.image.specs.Bytes.{body_bytes, entry_bytes, entries_bytes, stay_bytes, window_bytes}

window_length : (w : Option Window) → length (window_bytes w) ≤ 4
window_length None = omega arith
window_length (Some w) = omega arith

stays_length : (stays : List Stay) → length (flat_map stay_bytes stays) ≤ 13 * length stays
stays_length [] = omega arith
stays_length (s ∷ stays) =
    let one = window_length s.window in
    let rest = stays_length stays in
    omega (arith, length-append (window_bytes s.window) (flat_map stay_bytes stays))

entries_length : (entries : List Entry) → length (flat_map entry_bytes entries) ≡ 5 * length entries
entries_length [] = omega arith
entries_length (e ∷ entries) = let rest = entries_length entries in omega arith

-- so it fits two bytes
pub body_short : (k : Journal) → length k.stays ≤ 12 → length k.entries ≤ 48 → length (body_bytes k) ≤ 403
body_short k few less =
    let stays = stays_length k.stays in
    let entries = entries_length k.entries in
    omega (arith, length-append (flat_map stay_bytes k.stays) (entries_bytes k.entries))
