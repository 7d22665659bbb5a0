-- The bytes of entries that were bound are those that are written of them.
use Rattle.std.proofs.Common.{◌≡◌, ℕ, zero, suc, ◌+◌, ◌-◌, ◌<◌, Bool, true, false, cond, ltb, ◌==◌, List, [], ◌∷◌, length, flat_map, pos, negsuc, ◌-ℤ◌, Some, None, Option, refl, sym, ap, ◌∙◌, subst, arith}
use Rattle.std.proofs.lemmas.List.{append_assoc, append-nil}
use Rattle.std.proofs.lemmas.Int.{ints}
use Rattle.std.proofs.lemmas.Bool.{eqb-true}
use Rattle.axis.proofs.Asked.{all_yes_append}
use Rattle.axis.specs.Questions.{AllYes}
use Rattle.axis.specs.declared.model.Bound.{Bound}
use Rattle.faults.specs.declared.model.SheetFault.{SheetFault}
use Rattle.boxes.specs.declared.model.Entry.{Entry}
use Rattle.boxes.specs.declared.model.Direction.{Direction}
use Rattle.boxes.specs.declared.model.Direction.TheVariants.{Time, Platform}
use Rattle.boxes.specs.Letters.{letter_of, direction_of}
use Rattle.journal.specs.Journal.{Journal, with_entry}
use Rattle.journal.specs.Asks.{Asked as SheetAsked, entry_asks}
use Rattle.journal.specs.Steps.{asks, next, on_axis, bound_next}
use Rattle.image.specs.Bytes.{two, entry_bytes, complement}
use Rattle.walk.specs.Fields.{byte_at, number_at, entry_asks as fields_asks, entries_ask, after_entry, row_end}
use Rattle.reader.specs.Entries.{signed, bind_at, bound}
use Rattle.reader.specs.Located.{located}
use Rattle.reader.specs.Reads.{binds_ask}
use Rattle.journal.specs.Made.{entries_asked}
use Rattle.round_trip.specs.Tells.{Bytes}
use Rattle.round_trip.proofs.Holds.{Holds, holds_then, holds_byte, holds_number}
use Rattle.round_trip.proofs.Parts.{first_yes, later_yes, with_entries}

pub unlocated : (place : SheetFault → ℕ) (qs : SheetAsked) → AllYes (located place qs) → AllYes qs
unlocated place [] y = tt
unlocated place (q ∷ qs) y = (y.0, unlocated place qs y.1)

abbrev entry_of : Direction → Bound → Entry
entry_of d b = record { direction = d; bound = b }

-- the letter names an axis, and the entry stands on it
record Bound-on (k : Journal) (r : Option Direction) (b : Bound) : Type 0 where
  direction : Direction
  named : r ≡ Some direction
  yes : AllYes (entry_asks k (entry_of direction b))
  next : bound_next k r b ≡ with_entry k (entry_of direction b)

bound_on : (place : SheetFault → ℕ) (k : Journal) (r : Option Direction) (b : Bound) → AllYes (located place (on_axis r (λ d. entry_asks k (entry_of d b)))) → Bound-on k r b
bound_on place k None b y = absurd y.0
bound_on place k (Some d) b y = record { direction = d; named = refl; yes = unlocated place (entry_asks k (entry_of d b)) y; next = refl }

abbrev letter_in : Option Direction → ℕ
letter_in None = 0
letter_in (Some d) = letter_of d

some_letter : (d : Direction) → 0 ≡ letter_of d → ⊥
some_letter Time h = omega arith
some_letter Platform h = omega arith

letter_by : (letter : ℕ) (d : Direction) (t p : Bool) → (letter == 84) ≡ t → (letter == 80) ≡ p → cond t (Some Time) (cond p (Some Platform) None) ≡ Some d → letter_of d ≡ letter
letter_by letter d true p e f h = sym (ap letter_in h) ∙ sym (eqb-true letter 84 e)
letter_by letter d false true e f h = sym (ap letter_in h) ∙ sym (eqb-true letter 80 f)
letter_by letter d false false e f h = absurd (some_letter d (ap letter_in h))

letter_told : (letter : ℕ) (d : Direction) → direction_of letter ≡ Some d → letter_of d ≡ letter
letter_told letter d h = letter_by letter d (letter == 84) (letter == 80) refl refl h

complement_by : (n : ℕ) → n < 65536 → (b : Bool) → ltb n 32768 ≡ b → complement (cond b (pos n) (pos n -ℤ pos 65536)) ≡ n
complement_by n h true e = refl
complement_by n h false e =
    let less : pos n -ℤ pos 65536 ≡ negsuc (65535 - n) = omega (arith, ints) in
    ap complement less ∙ omega arith

complement_signed : (n : ℕ) → n < 65536 → complement (signed n) ≡ n
complement_signed n h = complement_by n h (ltb n 32768) refl

-- an entry that was bound, and its bytes
record Entry-read (bytes : List ℕ) (k after : Journal) (o : ℕ) : Type 0 where
  entry : Entry
  yes : AllYes (entry_asks k entry)
  next : after ≡ with_entry k entry
  holds : Holds bytes o (entry_bytes entry) (after_entry o)

module _ (bytes : List ℕ) (fit : Bytes bytes) where
  abbrev bound_at : ℕ → Bound
  bound_at o = record { p = byte_at bytes (o + 1); q = byte_at bytes (o + 2); d = signed (number_at bytes (o + 3)) }

  ends : (o p q : ℕ) {x : List ℕ} → p ≡ q → Holds bytes o x p → Holds bytes o x q
  ends o p q {x} e h = subst (λ (r : ℕ). Holds bytes o x r) e h

  five : (o : ℕ) → AllYes (fields_asks bytes o) → Holds bytes o (byte_at bytes o ∷ (byte_at bytes (o + 1) ∷ (byte_at bytes (o + 2) ∷ two (number_at bytes (o + 3))))) (after_entry o)
  five o y =
      let last = ends (o + 3) (o + 3 + 2) (after_entry o) (omega arith) (holds_number bytes fit (o + 3) y.1.1.1.0) in
      let third = holds_then bytes (o + 2) (o + 3) (after_entry o) (ends (o + 2) (o + 2 + 1) (o + 3) (omega arith) (holds_byte bytes (o + 2) y.1.1.0)) last in
      let second = holds_then bytes (o + 1) (o + 2) (after_entry o) (ends (o + 1) (o + 1 + 1) (o + 2) (omega arith) (holds_byte bytes (o + 1) y.1.0)) third in
      holds_then bytes o (o + 1) (after_entry o) (holds_byte bytes o y.0) second

  entry_read : (k : Journal) (o : ℕ) → AllYes (fields_asks bytes o) → AllYes (located (λ f. o) (asks k (bind_at bytes o))) → Entry-read bytes k (next k (bind_at bytes o)) o
  entry_read k o y z =
      let b = bound_on (λ f. o) k (direction_of (byte_at bytes o)) (bound_at o) z in
      let high : byte_at bytes (o + 3) < 256 = fit (o + 3) in
      let low : byte_at bytes (o + 3 + 1) < 256 = fit (o + 3 + 1) in
      let letter : letter_of b.direction ≡ byte_at bytes o = letter_told (byte_at bytes o) b.direction b.named in
      let number : complement (signed (number_at bytes (o + 3))) ≡ number_at bytes (o + 3) = complement_signed (number_at bytes (o + 3)) (omega arith) in
      let same : entry_bytes (entry_of b.direction (bound_at o)) ≡ byte_at bytes o ∷ (byte_at bytes (o + 1) ∷ (byte_at bytes (o + 2) ∷ two (number_at bytes (o + 3)))) = ap (λ l. l ∷ (byte_at bytes (o + 1) ∷ (byte_at bytes (o + 2) ∷ two (complement (signed (number_at bytes (o + 3))))))) letter ∙ ap (λ n. byte_at bytes o ∷ (byte_at bytes (o + 1) ∷ (byte_at bytes (o + 2) ∷ two n))) number in
      record {
        entry = entry_of b.direction (bound_at o);
        yes = b.yes;
        next = b.next;
        holds = subst (λ (x : List ℕ). Holds bytes o x (after_entry o)) (sym same) (five o y);
      }

  pub record Entries-read (k after : Journal) (n o p : ℕ) : Type 0 where
    pub entries : List Entry
    pub yes : AllYes (entries_asked k entries)
    pub next : after ≡ with_entries k entries
    pub holds : Holds bytes o (flat_map entry_bytes entries) p
    pub count : length entries ≡ n

  pub entries_read : (n : ℕ) (k : Journal) (o : ℕ) → AllYes (entries_ask bytes n o) → AllYes (binds_ask bytes k n o) → Entries-read k (bound bytes k n o) n o (row_end after_entry n o)
  entries_read zero k o y z = record {
    entries = [];
    yes = tt;
    next = ap (λ es. record { span = k.span; platform = k.platform; stays = k.stays; entries = es }) (sym (append-nil k.entries));
    holds = record { stands = refl };
    count = refl;
  }
  entries_read (suc n) k o y z =
      let first = entry_read k o (first_yes (fields_asks bytes o) _ y) (first_yes (located (λ f. o) (asks k (bind_at bytes o))) _ z) in
      let k' = next k (bind_at bytes o) in
      let rest = entries_read n k' (after_entry o) (later_yes (fields_asks bytes o) _ y) (later_yes (located (λ f. o) (asks k (bind_at bytes o))) _ z) in
      record {
        entries = first.entry ∷ rest.entries;
        yes = all_yes_append (entry_asks k first.entry) _ first.yes (subst (λ (m : Journal). AllYes (entries_asked m rest.entries)) first.next rest.yes);
        next = rest.next ∙ ap (λ (m : Journal). with_entries m rest.entries) first.next ∙ ap (λ es. record { span = k.span; platform = k.platform; stays = k.stays; entries = es }) (append_assoc k.entries (first.entry ∷ []) rest.entries);
        holds = holds_then bytes o (after_entry o) _ first.holds rest.holds;
        count = ap suc rest.count;
      }
