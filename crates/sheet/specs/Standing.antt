-- What the axes of a journal mean, what one entry more asks of it, and what is written into the buffers of a settle.
use Rattle.std.specs.Prelude.{◌≡◌, ◌≢◌, ℕ, ◌≤◌, List, ◌++◌, length, drop, replicate, Ok, Err, Result}
use Rattle.stack.specs.declared.elements.Trial.{Trial}
use Rattle.axis.specs.Questions.{AllYes, FirstNo}
use Rattle.faults.specs.declared.model.SheetFault.{SheetFault}
use Rattle.faults.specs.declared.model.SheetFault.TheVariants as refuse
use Rattle.boxes.specs.declared.model.Place.{Place}
use Rattle.boxes.specs.declared.model.Entry.{Entry}
use Rattle.boxes.specs.declared.model.Direction.TheVariants.{Time, Platform}
use Rattle.boxes.specs.Order.{pairs, no_trial}
use Rattle.moves.specs.Meanings.{Meanings}
use Rattle.journal.specs.Journal.{Journal, with_entry, axis_of}
use Rattle.journal.specs.Asks.{entry_asks}

abbrev pub axes_of : Journal → Meanings
axes_of k = record { time = axis_of Time k; platform = axis_of Platform k }

-- the questions on a bound, and the entry that stands where all are answered yes
abbrev pub Entered : Journal → Entry → Result Unit SheetFault → Journal → Type 0
Entered k e (Ok u) k' = AllYes (entry_asks k e) × (k' ≡ with_entry k e)
Entered k e (Err f) k' = FirstNo (entry_asks k e) f × (k' ≡ k)

-- every record of both buffers that were lent to seek places for n stays: with a plan there was room for all, and later records are as
-- they were; without one the places are as they were, and a blank record stands for each pair; any other refusal leaves both as they were
abbrev pub Written : ℕ → List Place → List Place → List Trial → List Trial → Result Unit SheetFault → Type 0
Written n old new before after (Ok u) = ((n ≤ length old) × (pairs n ≤ length before)) × ((drop n new ≡ drop n old) × (drop (pairs n) after ≡ drop (pairs n) before))
Written n old new before after (Err f) = (f ≡ refuse.NoPlan → (new ≡ old) × (after ≡ replicate (pairs n) no_trial ++ drop (pairs n) before)) × ((f ≢ refuse.NoPlan) → (new ≡ old) × (after ≡ before))
