-- The image of a sheet that calls make is accepted, and tells that sheet.
use Rattle.std.proofs.Common.{◌≡◌, ℕ, suc, ◌+◌, ◌≤◌, List, [], ◌∷◌, ◌++◌, length, flat_map, sym, ap, ◌∙◌, subst, arith}
use Rattle.std.proofs.lemmas.List.{append-nil, length-append}
use Rattle.axis.specs.Questions.{AllYes}
use Rattle.axis.proofs.Asked.{all_yes_append}
use Rattle.journal.specs.Journal.{Journal, loaded}
use Rattle.journal.specs.Asks.{load_asks}
use Rattle.image.specs.Bytes.{two, stay_bytes, entry_bytes, stays_bytes, entries_bytes, body_bytes, image_bytes}
use Rattle.walk.specs.Fields.{byte_at, number_at, image_asks, stays_ask, rest_asks, parts_ask, entries_ask, after_stay, after_entry, row_end, ends_at, stays_end}
use Rattle.walk.specs.Stays.{stays_at}
use Rattle.reader.specs.Entries.{loaded_in, journal_in, bound}
use Rattle.reader.specs.Located.{load_offset}
use Rattle.reader.specs.Reads.{Accepted, binds_ask}
use Rattle.reader.proofs.Locating.{located_yes}
use Rattle.journal.specs.Made.{Made}
use Rattle.round_trip.proofs.Starts.{Starts, starts_first, starts_later, byte_read, byte_room, number_read, Stays-read, stays_read}
use Rattle.round_trip.proofs.Bound.{Entries-told, entries_told}

module _ (bytes : List ℕ) (k : Journal) (made : Made k) (e : bytes ≡ image_bytes k) where
  abbrev parts : List ℕ
  parts = stays_bytes k.stays ++ entries_bytes k.entries

  abbrev stays : List ℕ
  stays = flat_map stay_bytes k.stays

  abbrev entries : List ℕ
  entries = flat_map entry_bytes k.entries

  -- where the stays end
  abbrev end : ℕ
  end = 8 + length stays

  at_0 : Starts bytes 0 (two (length (body_bytes k)) ++ body_bytes k)
  at_0 = record { rest = []; stands = e ∙ sym (append-nil (image_bytes k)) }

  at_2 : Starts bytes 2 (body_bytes k)
  at_2 = starts_later bytes 0 (two (length (body_bytes k))) (body_bytes k) at_0

  at_3 : Starts bytes 3 (two k.span ++ (two k.platform ++ parts))
  at_3 = starts_later bytes 2 (1 ∷ []) (two k.span ++ (two k.platform ++ parts)) at_2

  at_5 : Starts bytes 5 (two k.platform ++ parts)
  at_5 = starts_later bytes 3 (two k.span) (two k.platform ++ parts) at_3

  at_7 : Starts bytes 7 (length k.stays ∷ (stays ++ entries_bytes k.entries))
  at_7 = starts_later bytes 5 (two k.platform) parts at_5

  at_8 : Starts bytes 8 (stays ++ entries_bytes k.entries)
  at_8 = starts_later bytes 7 (length k.stays ∷ []) (stays ++ entries_bytes k.entries) at_7

  at_end : Starts bytes end (length k.entries ∷ entries)
  at_end = starts_later bytes 8 stays (entries_bytes k.entries) at_8

  at_entries : Starts bytes (end + 1) entries
  at_entries = starts_later bytes end (length k.entries ∷ []) entries at_end

  read : Stays-read bytes 8 k.stays
  read = stays_read bytes 8 k.stays (starts_first bytes 8 stays (entries_bytes k.entries) at_8)

  told : Entries-told bytes (loaded k.span k.platform k.stays) (end + 1) k.entries
  told = entries_told bytes (loaded k.span k.platform k.stays) (end + 1) k.entries made.1 at_entries

  span : number_at bytes 3 ≡ k.span
  span = number_read bytes 3 k.span (starts_first bytes 3 (two k.span) (two k.platform ++ parts) at_3)

  platform : number_at bytes 5 ≡ k.platform
  platform = number_read bytes 5 k.platform (starts_first bytes 5 (two k.platform) parts at_5)

  how_many : byte_at bytes 7 ≡ length k.stays
  how_many = byte_read bytes 7 (length k.stays) (stays ++ entries_bytes k.entries) at_7

  stays_told : stays_at bytes (byte_at bytes 7) 8 ≡ k.stays
  stays_told = ap (λ n. stays_at bytes n 8) how_many ∙ read.told

  ending : stays_end bytes ≡ end
  ending = ap (λ n. row_end (after_stay bytes) n 8) how_many ∙ read.ends

  entries_many : byte_at bytes end ≡ length k.entries
  entries_many = byte_read bytes end (length k.entries) entries at_end

  loaded_told : loaded_in bytes ≡ loaded k.span k.platform k.stays
  loaded_told = ap (λ s. loaded s (number_at bytes 5) (stays_at bytes (byte_at bytes 7) 8)) span ∙ ap (λ p. loaded k.span p (stays_at bytes (byte_at bytes 7) 8)) platform ∙ ap (loaded k.span k.platform) stays_told

  long : length bytes ≡ end + 1 + length entries
  long =
      let all = ap length e in
      let both : length (stays ++ entries_bytes k.entries) ≡ length stays + suc (length entries) = length-append stays (entries_bytes k.entries) in
      omega arith

  rest_by : AllYes (rest_asks bytes end)
  rest_by = (
    byte_room bytes end (length k.entries) entries at_end,
    subst (λ (n : ℕ). AllYes (entries_ask bytes n (end + 1) ++ ends_at bytes (row_end after_entry n (end + 1)) ∷ [])) (sym entries_many)
        (all_yes_append (entries_ask bytes (length k.entries) (end + 1)) _ told.fields (told.ends ∙ sym long, tt)),
  )

  parts_by : AllYes (parts_ask bytes (byte_at bytes 7) 8)
  parts_by = all_yes_append (stays_ask bytes (byte_at bytes 7) 8) _ (subst (λ (n : ℕ). AllYes (stays_ask bytes n 8)) (sym how_many) read.yes) (subst (λ (p : ℕ). AllYes (rest_asks bytes p)) (sym ending) rest_by)

  image_yes : AllYes (image_asks bytes)
  image_yes =
      let length_told : number_at bytes 0 ≡ length (body_bytes k) = number_read bytes 0 (length (body_bytes k)) (starts_first bytes 0 (two (length (body_bytes k))) (body_bytes k) at_0) in
      let all = ap length e in
      let counted : number_at bytes 0 + 2 ≡ length bytes = omega arith in
      let some : 8 ≤ length bytes = byte_room bytes 7 (length k.stays) (stays ++ entries_bytes k.entries) at_7 in
      let version : byte_at bytes 2 ≡ 1 = byte_read bytes 2 1 (two k.span ++ (two k.platform ++ parts)) at_2 in
      ((omega arith, counted), ((omega arith, version), (omega arith, (omega arith, (some, parts_by)))))

  load_yes : AllYes (load_asks (number_at bytes 3) (number_at bytes 5) (stays_at bytes (byte_at bytes 7) 8))
  load_yes = subst (λ (m : Journal). AllYes (load_asks m.span m.platform m.stays)) (sym loaded_told) made.0

  binds_told : (m : Journal) (n p : ℕ) → m ≡ loaded k.span k.platform k.stays → n ≡ length k.entries → p ≡ end → AllYes (binds_ask bytes m n (p + 1)) × (bound bytes m n (p + 1) ≡ k)
  binds_told m n p a b c = rw (a, b, c) (told.yes, told.told)

  pub written_accepted : Accepted bytes × (journal_in bytes ≡ k)
  written_accepted =
      let b = binds_told (loaded_in bytes) (byte_at bytes (stays_end bytes)) (stays_end bytes) loaded_told (ap (byte_at bytes) ending ∙ entries_many) ending in
      ((all_yes_append (image_asks bytes) _ image_yes (located_yes (load_offset bytes) (load_asks (number_at bytes 3) (number_at bytes 5) (stays_at bytes (byte_at bytes 7) 8)) load_yes), b.0), b.1)
