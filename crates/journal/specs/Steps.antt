-- One call, by what it is given: what it asks of the journal, what it leaves in it, and what a true reply is.
use Rattle.std.specs.Prelude.{◌≡◌, ℕ, ◌<◌, List, [], ◌∷◌, length, ℤ, Some, None, Ok, Err, Option, Result}
use Rattle.stack.specs.declared.elements.Word.{Word}
use Rattle.stack.specs.declared.elements.Trial.{Trial}
use Rattle.stack.specs.Letters.{word_of}
use Rattle.axis.specs.Meaning.{Largest}
use Rattle.axis.specs.Questions.{AllYes, FirstNo}
use Rattle.axis.specs.Asks.{Named}
use Rattle.axis.specs.declared.model.Bound.{Bound}
use Rattle.axis.specs.declared.model.AxisFault.TheVariants as fault
use Rattle.faults.specs.declared.model.SheetFault.{SheetFault}
use Rattle.faults.specs.declared.model.SheetFault.TheVariants as refuse
use Rattle.boxes.specs.declared.model.Place.{Place}
use Rattle.boxes.specs.declared.model.Direction.{Direction}
use Rattle.boxes.specs.declared.model.Direction.TheVariants.{Time, Platform}
use Rattle.boxes.specs.Overlaps.{ruled}
use Rattle.boxes.specs.Letters.{direction_of}
use Rattle.boxes.specs.Arranged.{Arranged}
use Rattle.journal.specs.declared.model.Stay.{Stay}
use Rattle.journal.specs.Journal.{Journal, loaded, with_entry, without_newest, axis_of, sizes_of}
use Rattle.journal.specs.Asks.{Asked, load_asks, entry_asks, settle_asks, TwoStays}

-- a call by its arguments; a buffer by how many records it has
pub data Request : Type 0 where
  load : (span platform : ℕ) (stays : List Stay) → Request
  bind : (letter : ℕ) (b : Bound) → Request
  rule : (i j word : ℕ) → Request
  withdraw : Request
  ask : (letter p q : ℕ) → Request
  settle : (places trials : ℕ) → Request

pub data Reply : Type 0 where
  done : Reply
  refused : (f : SheetFault) → Reply
  difference : (t : ℤ) → Reply
  plan : (places : List Place) (trials : List Trial) → Reply

abbrev pub on_axis : Option Direction → (Direction → Asked) → Asked
on_axis None rest = record { asks = ⊥; refusal = refuse.Letter } ∷ []
on_axis (Some d) rest = rest d

abbrev by_word : Option Word → (Word → Asked) → Asked
by_word None rest = record { asks = ⊥; refusal = refuse.Word } ∷ []
by_word (Some w) rest = rest w

abbrev pub asks : Journal → Request → Asked
asks k (load span platform stays) = load_asks span platform stays
asks k (bind letter b) = on_axis (direction_of letter) (λ d. entry_asks k (record { direction = d; bound = b }))
asks k (rule i j word) = by_word (word_of word) (λ w. record { asks = TwoStays k i j; refusal = refuse.Pair } ∷ entry_asks k (ruled (sizes_of k) i j w))
asks k withdraw = record { asks = 0 < length k.entries; refusal = refuse.NoEntry } ∷ []
asks k (ask letter p q) = on_axis (direction_of letter) (λ d. record { asks = Named (length k.stays) p q; refusal = refuse.Axis fault.Line } ∷ [])
asks k (settle places trials) = settle_asks k places trials

abbrev pub bound_next : Journal → Option Direction → Bound → Journal
bound_next k None b = k
bound_next k (Some d) b = with_entry k (record { direction = d; bound = b })

abbrev ruled_next : Journal → ℕ → ℕ → Option Word → Journal
ruled_next k i j None = k
ruled_next k i j (Some w) = with_entry k (ruled (sizes_of k) i j w)

-- the journal after a call that is not refused
abbrev pub next : Journal → Request → Journal
next k (load span platform stays) = loaded span platform stays
next k (bind letter b) = bound_next k (direction_of letter) b
next k (rule i j word) = ruled_next k i j (word_of word)
next k withdraw = without_newest k
next k (ask letter p q) = k
next k (settle places trials) = k

-- a plan in stay order, a word that holds for each pair in trial order, and no earlier or nearer place under those words
abbrev pub Settled : Journal → List Place → List Trial → Type 0
Settled k places trials = Arranged (axis_of Time k) (axis_of Platform k) (sizes_of k) places trials

-- what a call that is not refused replies
abbrev pub TrueReply : Journal → Request → Reply → Type 0
TrueReply k (load span platform stays) a = a ≡ done
TrueReply k (bind letter b) a = a ≡ done
TrueReply k (rule i j word) a = a ≡ done
TrueReply k withdraw a = a ≡ done
TrueReply k (ask letter p q) a = (d : Direction) × ((direction_of letter ≡ Some d) × ((t : ℤ) × ((a ≡ difference t) × Largest (axis_of d k) p q t)))
TrueReply k (settle m n) a = (places : List Place) × ((trials : List Trial) × ((a ≡ plan places trials) × Settled k places trials))

-- every question yes, a true reply, and the journal moved on
abbrev pub Accepted : Journal → Request → Reply → Journal → Type 0
Accepted k c a k' = AllYes (asks k c) × (TrueReply k c a × (k' ≡ next k c))

-- refused with the first no, and the journal as it was; or accepted
abbrev pub Step : Journal → Request → Reply → Journal → Type 0
Step k c (refused f) k' = FirstNo (asks k c) f × (k' ≡ k)
Step k c done k' = Accepted k c done k'
Step k c (difference t) k' = Accepted k c (difference t) k'
Step k c (plan places trials) k' = Accepted k c (plan places trials) k'

abbrev pub said : Result Unit SheetFault → Reply
said (Ok u) = done
said (Err f) = refused f

abbrev pub measured : Result ℤ SheetFault → Reply
measured (Ok t) = difference t
measured (Err f) = refused f

-- a plan at the front of both buffers
abbrev pub planned : List Place → List Trial → Result Unit SheetFault → Reply
planned places trials (Ok u) = plan places trials
planned places trials (Err f) = refused f
