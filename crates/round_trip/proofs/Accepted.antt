-- Bytes that are accepted are the image of the sheet that they tell.
use Rattle.std.proofs.Common.{◌≡◌, ℕ, ◌+◌, ◌-◌, ◌≤◌, List, [], ◌∷◌, ◌++◌, length, flat_map, drop, sym, ap, ◌∙◌, subst, arith}
use Rattle.std.proofs.Math.ListN.{drop_of_length-le}
use Rattle.std.proofs.lemmas.List.{append-nil, length-drop}
use Rattle.axis.specs.Questions.{AllYes}
use Rattle.journal.specs.declared.model.Stay.{Stay}
use Rattle.journal.specs.Journal.{Journal}
use Rattle.journal.specs.Asks.{load_asks}
use Rattle.image.specs.Bytes.{two, stay_bytes, entry_bytes, stays_bytes, entries_bytes, body_bytes, image_bytes}
use Rattle.walk.specs.Fields.{byte_at, number_at, image_asks, stays_ask, rest_asks, entries_ask, after_entry, row_end, ends_at, stays_end}
use Rattle.walk.specs.Stays.{stays_at}
use Rattle.reader.specs.Entries.{loaded_in, journal_in}
use Rattle.reader.specs.Located.{load_offset}
use Rattle.reader.specs.Reads.{Accepted}
use Rattle.journal.specs.Made.{Made}
use Rattle.round_trip.specs.Tells.{Bytes}
use Rattle.round_trip.proofs.Holds.{Holds, holds_then, holds_byte, holds_number}
use Rattle.round_trip.proofs.Parts.{first_yes, later_yes, with_entries}
use Rattle.round_trip.proofs.Stays.{stays_hold, stays_count}
use Rattle.round_trip.proofs.Entries.{Entries-read, entries_read, unlocated}

module _ (bytes : List ℕ) (fit : Bytes bytes) (a : Accepted bytes) where
  head : AllYes (image_asks bytes)
  head = first_yes (image_asks bytes) _ a.0

  abbrev stays : List Stay
  stays = stays_at bytes (byte_at bytes 7) 8

  abbrev end : ℕ
  end = stays_end bytes

  abbrev count : ℕ
  count = byte_at bytes end

  abbrev last : ℕ
  last = row_end after_entry count (end + 1)

  rest : AllYes (rest_asks bytes end)
  rest = later_yes (stays_ask bytes (byte_at bytes 7) 8) _ head.1.1.1.1.1

  read : Entries-read bytes fit (loaded_in bytes) (journal_in bytes) count (end + 1) last
  read = entries_read bytes fit count (loaded_in bytes) (end + 1) (first_yes (entries_ask bytes count (end + 1)) _ rest.1) a.1

  abbrev told : Journal
  told = with_entries (loaded_in bytes) read.entries

  stays_stand : Holds bytes 7 (stays_bytes stays) end
  stays_stand = subst (λ (n : ℕ). Holds bytes 7 (n ∷ flat_map stay_bytes stays) end) (sym (stays_count bytes (byte_at bytes 7) 8)) (holds_then bytes 7 8 end (holds_byte bytes 7 head.1.1.1.1.0) (stays_hold bytes fit (byte_at bytes 7) 8 (first_yes (stays_ask bytes (byte_at bytes 7) 8) _ head.1.1.1.1.1)))

  entries_stand : Holds bytes end (entries_bytes read.entries) last
  entries_stand = subst (λ (n : ℕ). Holds bytes end (n ∷ flat_map entry_bytes read.entries) last) (sym read.count) (holds_then bytes end (end + 1) last (holds_byte bytes end rest.0) read.holds)

  body_stands : Holds bytes 2 (body_bytes told) last
  body_stands = subst (λ (n : ℕ). Holds bytes 2 (n ∷ (two told.span ++ (two told.platform ++ (stays_bytes told.stays ++ entries_bytes told.entries)))) last) head.1.0.1
      (holds_then bytes 2 3 last (holds_byte bytes 2 head.1.0.0) (holds_then bytes 3 5 last (holds_number bytes fit 3 head.1.1.0) (holds_then bytes 5 7 last (holds_number bytes fit 5 head.1.1.1.0) (holds_then bytes 7 end last stays_stand entries_stand))))

  whole : last ≡ length bytes
  whole = (later_yes (entries_ask bytes count (end + 1)) (ends_at bytes last ∷ []) rest.1).0

  body : drop 2 bytes ≡ body_bytes told
  body =
      let past : length bytes ≤ last = omega (arith, whole) in
      body_stands.stands ∙ ap (λ l. body_bytes told ++ l) (drop_of_length-le bytes {i = last} past) ∙ append-nil (body_bytes told)

  length_told : number_at bytes 0 ≡ length (body_bytes told)
  length_told =
      let left : length (drop 2 bytes) ≡ length bytes - 2 = length-drop 2 bytes in
      let same : length (drop 2 bytes) ≡ length (body_bytes told) = ap length body in
      let counted : number_at bytes 0 + 2 ≡ length bytes = head.0.1 in
      omega arith

  image : bytes ≡ image_bytes told
  image = (holds_number bytes fit 0 head.0.0).stands ∙ ap (λ l. two (number_at bytes 0) ++ l) body ∙ ap (λ n. two n ++ body_bytes told) length_told

  pub accepted_image : Made (journal_in bytes) × (bytes ≡ image_bytes (journal_in bytes))
  accepted_image = subst (λ (k : Journal). Made k × (bytes ≡ image_bytes k)) (sym read.next) ((unlocated (load_offset bytes) (load_asks (number_at bytes 3) (number_at bytes 5) stays) (later_yes (image_asks bytes) _ a.0), read.yes), image)
