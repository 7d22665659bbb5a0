-- A sheet that calls make, with one entry more and with the newest gone.
use Rattle.std.proofs.Common.{◌≡◌, ◌<◌, ℕ, List, [], ◌∷◌, ◌++◌, length, Some, Ok, sym, ap, ◌∙◌, subst}
use Rattle.std.proofs.lemmas.List.{append-nil, append_assoc, length-map}
use Rattle.axis.specs.Questions.{AllYes}
use Rattle.axis.specs.Meaning.{Meaning, lines, with_bound, Remains}
use Rattle.axis.specs.Asks.{Named, put_asks}
use Rattle.axis.specs.declared.model.Bound.{Bound}
use Rattle.axis.proofs.Asked.{all_yes_append}
use Rattle.boxes.specs.declared.model.Entry.{Entry}
use Rattle.boxes.specs.declared.model.Direction.{Direction}
use Rattle.boxes.specs.declared.model.Direction.TheVariants.{Time, Platform}
use Rattle.moves.specs.Meanings.{Meanings}
use Rattle.moves.specs.Moves.{PutOn}
use Rattle.journal.specs.Journal.{Journal, with_entry, without_newest, loaded, axis_of, low_on, bounds_on}
use Rattle.journal.specs.Asks.{Asked, entry_asks}
use Rattle.journal.specs.Made.{Made, entries_asked}
use Rattle.journal.specs.Tables.{Newest}
use Rattle.sheet.specs.Standing.{axes_of}

first_yes : (qs more : Asked) → AllYes (qs ++ more) → AllYes qs
first_yes [] more y = tt
first_yes (q ∷ qs) more y = (y.0, first_yes qs more y.1)

later_yes : (qs more : Asked) → AllYes (qs ++ more) → AllYes more
later_yes [] more y = y
later_yes (q ∷ qs) more y = later_yes qs more y.1

abbrev with_entries : Journal → List Entry → Journal
with_entries k es = record { span = k.span; platform = k.platform; stays = k.stays; entries = k.entries ++ es }

abbrev holding : Journal → List Entry → Journal
holding k es = record { span = k.span; platform = k.platform; stays = k.stays; entries = es }

asked_more : (k : Journal) (es : List Entry) (e : Entry) → AllYes (entries_asked k es) → AllYes (entry_asks (with_entries k es) e) → AllYes (entries_asked k (es ++ e ∷ []))
asked_more k [] e y h = all_yes_append (entry_asks k e) [] (subst (λ (l : List Entry). AllYes (entry_asks (holding k l) e)) (append-nil k.entries) h) tt
asked_more k (x ∷ es) e y h =
    all_yes_append (entry_asks k x) (entries_asked (with_entry k x) (es ++ e ∷ [])) (first_yes (entry_asks k x) _ y)
    (asked_more (with_entry k x) es e (later_yes (entry_asks k x) _ y) (subst (λ (l : List Entry). AllYes (entry_asks (holding k l) e)) (sym (append_assoc k.entries (x ∷ []) es)) h))

asked_less : (k : Journal) (es more : List Entry) → AllYes (entries_asked k (es ++ more)) → AllYes (entries_asked k es)
asked_less k [] more y = tt
asked_less k (x ∷ es) more y =
    all_yes_append (entry_asks k x) (entries_asked (with_entry k x) es) (first_yes (entry_asks k x) _ y)
    (asked_less (with_entry k x) es more (later_yes (entry_asks k x) _ y))

pub made_more : (k : Journal) (e : Entry) → Made k → AllYes (entry_asks k e) → Made (with_entry k e)
made_more k e m y = (m.0, asked_more (loaded k.span k.platform k.stays) k.entries e m.1 y)

pub made_less : (k : Journal) (e : Entry) → Newest k.entries (Some e) → Made k → Made (without_newest k)
made_less k e newest m = (m.0, asked_less (loaded k.span k.platform k.stays) (without_newest k).entries (e ∷ []) (subst (λ (l : List Entry). AllYes (entries_asked (loaded k.span k.platform k.stays) l)) newest m.1))

asked_by : (d : Direction) (k : Journal) (b : Bound) (most : ℕ) (m : Meaning) → m ≡ axis_of d k → AllYes (put_asks most m b) → length (bounds_on d k.entries) < 24 → AllYes (entry_asks k (record { direction = d; bound = b }))
asked_by d k b most m held y few =
    let named : Named (length k.stays) b.p b.q = subst (λ n. Named n b.p b.q) (ap lines held ∙ length-map k.stays (low_on d)) y.0 in
    (few, (named, (y.1.0, (subst (λ (x : Meaning). Remains (with_bound x b)) held y.1.1.1.0, tt))))

-- what an axis asks of a bound that it takes, and the count, are all that the sheet asks
pub put_asked : (d : Direction) (k : Journal) (b : Bound) (ht hp : ℕ) (m m' : Meanings) → m ≡ axes_of k → PutOn d ht hp m b (Ok tt) m' → length (bounds_on d k.entries) < 24 → AllYes (entry_asks k (record { direction = d; bound = b }))
put_asked Time k b ht hp m m' held put few = asked_by Time k b ht m.time (ap (λ (x : Meanings). x.time) held) put.0.0 few
put_asked Platform k b ht hp m m' held put few = asked_by Platform k b hp m.platform (ap (λ (x : Meanings). x.platform) held) put.0.0 few
