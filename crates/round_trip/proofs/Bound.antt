-- What is written of entries is read as those entries.
use Rattle.std.proofs.Common.{◌≡◌, ℕ, ◌+◌, ◌-◌, ◌<◌, ◌≤◌, cond, List, [], ◌∷◌, length, flat_map, ℤ, pos, negsuc, ◌-ℤ◌, refl, sym, ap, ◌∙◌, subst, arith}
use Rattle.std.proofs.lemmas.List.{append_assoc, append-nil}
use Rattle.std.proofs.lemmas.Int.{ints}
use Rattle.std.proofs.lemmas.Bool.{lt-ltb, le-ltb}
use Rattle.axis.specs.Questions.{AllYes}
use Rattle.axis.specs.Asks.{InReach}
use Rattle.axis.proofs.Asked.{all_yes_append}
use Rattle.axis.specs.declared.model.Bound.{Bound}
use Rattle.boxes.specs.declared.model.Entry.{Entry}
use Rattle.boxes.specs.declared.model.Direction.{Direction}
use Rattle.boxes.specs.declared.model.Direction.TheVariants.{Time, Platform}
use Rattle.boxes.specs.Letters.{letter_of}
use Rattle.journal.specs.Journal.{Journal, with_entry}
use Rattle.journal.specs.Asks.{Asked as SheetAsked, entry_asks}
use Rattle.journal.specs.Steps.{Request, bind, asks, next}
use Rattle.image.specs.Bytes.{two, entry_bytes, complement}
use Rattle.walk.specs.Fields.{number_at, entry_asks as fields_asks, entries_ask, after_entry, row_end}
use Rattle.reader.specs.Entries.{signed, bind_at, bound}
use Rattle.reader.specs.Located.{located}
use Rattle.reader.specs.Reads.{binds_ask}
use Rattle.reader.proofs.Locating.{located_yes}
use Rattle.journal.specs.Made.{entries_asked}
use Rattle.round_trip.proofs.Parts.{first_yes, later_yes, with_entries}
use Rattle.round_trip.proofs.Starts.{Starts, starts_first, starts_later, byte_read, byte_room, number_read, number_room}

signed_small : (n : ℕ) → n < 32768 → signed n ≡ pos n
signed_small n h = ap (λ b. cond b (pos n) (pos n -ℤ pos 65536)) (lt-ltb n 32768 h)

signed_large : (n : ℕ) → 32768 ≤ n → signed n ≡ pos n -ℤ pos 65536
signed_large n h = ap (λ b. cond b (pos n) (pos n -ℤ pos 65536)) (le-ltb n 32768 h)

signed_complement : (d : ℤ) → InReach d → signed (complement d) ≡ d
signed_complement (pos n) h = signed_small n (omega (arith, ints))
signed_complement (negsuc n) h =
    let few : n < 4000 = omega (arith, ints) in
    let less : pos (65535 - n) -ℤ pos 65536 ≡ negsuc n = omega (arith, ints) in
    signed_large (65535 - n) (omega arith) ∙ less

-- the call that binds the entry
abbrev request_of : Entry → Request
request_of e = bind (letter_of e.direction) e.bound

asks_by : (k : Journal) (d : Direction) (b : Bound) → asks k (request_of (record { direction = d; bound = b })) ≡ entry_asks k (record { direction = d; bound = b })
asks_by k Time b = refl
asks_by k Platform b = refl

next_by : (k : Journal) (d : Direction) (b : Bound) → next k (request_of (record { direction = d; bound = b })) ≡ with_entry k (record { direction = d; bound = b })
next_by k Time b = refl
next_by k Platform b = refl

module _ (bytes : List ℕ) where
  record Entry-told (o : ℕ) (e : Entry) : Type 0 where
    yes : AllYes (fields_asks bytes o)
    told : bind_at bytes o ≡ request_of e

  entry_told : (o : ℕ) (e : Entry) → InReach e.bound.d → Starts bytes o (entry_bytes e) → Entry-told o e
  entry_told o e reach h =
      let l = letter_of e.direction in
      let b = e.bound in
      let n = two (complement b.d) in
      let second = starts_later bytes o (l ∷ []) (b.p ∷ (b.q ∷ n)) h in
      let third = starts_later bytes o (l ∷ (b.p ∷ [])) (b.q ∷ n) h in
      let last = starts_later bytes o (l ∷ (b.p ∷ (b.q ∷ []))) n h in
      let number : number_at bytes (o + 3) ≡ complement b.d = number_read bytes (o + 3) (complement b.d) last in
      record {
        yes = (byte_room bytes o l _ h, (byte_room bytes (o + 1) b.p (b.q ∷ n) second, (byte_room bytes (o + 2) b.q n third, (number_room bytes (o + 3) (complement b.d) last, tt))));
        told = rw (byte_read bytes o l _ h, byte_read bytes (o + 1) b.p (b.q ∷ n) second, byte_read bytes (o + 2) b.q n third, number, signed_complement b.d reach) refl;
      }

  pub record Entries-told (k : Journal) (o : ℕ) (es : List Entry) : Type 0 where
    pub fields : AllYes (entries_ask bytes (length es) o)
    pub yes : AllYes (binds_ask bytes k (length es) o)
    pub told : bound bytes k (length es) o ≡ with_entries k es
    pub ends : row_end after_entry (length es) o ≡ o + length (flat_map entry_bytes es)

  pub entries_told : (k : Journal) (o : ℕ) (es : List Entry) → AllYes (entries_asked k es) → Starts bytes o (flat_map entry_bytes es) → Entries-told k o es
  entries_told k o [] y h = record { fields = tt; yes = tt; told = ap (λ l. record { span = k.span; platform = k.platform; stays = k.stays; entries = l }) (sym (append-nil k.entries)); ends = omega arith }
  entries_told k o (e ∷ es) y h =
      let here = first_yes (entry_asks k e) _ y in
      let first = entry_told o e here.1.1.0 (starts_first bytes o (entry_bytes e) (flat_map entry_bytes es) h) in
      let same : asks k (bind_at bytes o) ≡ entry_asks k e = ap (asks k) first.told ∙ asks_by k e.direction e.bound in
      let onward : next k (bind_at bytes o) ≡ with_entry k e = ap (next k) first.told ∙ next_by k e.direction e.bound in
      let rest = entries_told (with_entry k e) (after_entry o) es (later_yes (entry_asks k e) _ y) (starts_later bytes o (entry_bytes e) (flat_map entry_bytes es) h) in
      record {
        fields = all_yes_append (fields_asks bytes o) (entries_ask bytes (length es) (after_entry o)) first.yes rest.fields;
        yes = all_yes_append (located (λ f. o) (asks k (bind_at bytes o))) (binds_ask bytes (next k (bind_at bytes o)) (length es) (after_entry o))
            (located_yes (λ f. o) (asks k (bind_at bytes o)) (subst (λ (qs : SheetAsked). AllYes qs) (sym same) here))
            (subst (λ (m : Journal). AllYes (binds_ask bytes m (length es) (after_entry o))) (sym onward) rest.yes);
        told = ap (λ (m : Journal). bound bytes m (length es) (after_entry o)) onward ∙ rest.told ∙ ap (λ l. record { span = k.span; platform = k.platform; stays = k.stays; entries = l }) (append_assoc k.entries (e ∷ []) es);
        ends = rest.ends ∙ omega arith;
      }
