-- Trials on two axes, some of which have their words: what holds of them, what is known of one word more, and what it does.
use Rattle.std.specs.Prelude.{◌≡◌, ℕ, zero, suc, ◌+◌, ◌<◌, ◌≤◌, Bool, true, false, List, [], ◌∷◌, ◌++◌, map, length, ℤ, is_some, Some, None, Ok, Err, Option, Result, slice_index_or, slice_set}
use Rattle.std.specs.List.{ContainsAt, AllByRecursion}
use Rattle.stack.specs.declared.elements.Word.{Word}
use Rattle.stack.specs.declared.elements.Word.TheVariants.{Before, After, Nearer, Farther}
use Rattle.stack.specs.declared.elements.Trial.{Trial}
use Rattle.stack.specs.declared.fault.StackFault.{StackFault}
use Rattle.axis.specs.declared.model.AxisFault.{AxisFault}
use Rattle.axis.specs.Meaning.{lines, Placement}
use Rattle.boxes.specs.declared.model.Size.{Size}
use Rattle.boxes.specs.declared.model.Entry.{Entry}
use Rattle.boxes.specs.declared.model.Direction.{Direction}
use Rattle.boxes.specs.declared.model.Direction.TheVariants.{Time}
use Rattle.moves.specs.Meanings.{Meanings, along, grown}
use Rattle.moves.specs.Moves.{BackOn}
use Rattle.moves.specs.declared.moves.Standing.{Standing}
use Rattle.moves.specs.declared.moves.Standing.TheVariants.{Implied, Possible, Impossible}
use Rattle.boxes.specs.Overlaps.{Sized, ruled, side, HoldsWord}
use Rattle.boxes.specs.Order.{trial_order, pair_of, no_trial}
use Rattle.boxes.specs.Arranged.{Arrangement}

-- how many trials have no word yet
abbrev pub open_one : Option Word → ℕ
open_one None = 1
open_one (Some w) = 0

abbrev pub open_count : List Trial → ℕ
open_count [] = 0
open_count (t ∷ ts) = open_one t.word + open_count ts

module _ (axes : Meanings) (sizes : List Size) where
  -- the bound of the word stands
  abbrev pub StandsWord : ℕ → ℕ → Option Word → Type 0
  StandsWord i j None = Unit {0}
  StandsWord i j (Some w) = ContainsAt (along (ruled sizes i j w).direction axes).bounds (ruled sizes i j w).bound

  abbrev pub Stands : Trial → Type 0
  Stands t = StandsWord t.i t.j t.word

  -- both axes have a line for each box, and the words found so far stand on them
  pub record Node (trials : List Trial) : Type 0 where
    pub sized : Sized sizes
    pub timed : lines axes.time ≡ length sizes
    pub placed : lines axes.platform ≡ length sizes
    pub in_order : map pair_of trials ≡ trial_order (length sizes)
    pub standing : AllByRecursion Stands trials

  -- no arrangement has the word
  abbrev pub Refuted : ℕ → ℕ → Word → Type 0
  Refuted i j w = (x y : ℕ → ℤ) → Arrangement axes.time axes.platform sizes x y → ¬ (HoldsWord sizes x y w i j)

  -- every two placements have the word
  abbrev pub ImpliedWord : ℕ → ℕ → Option Word → Type 0
  ImpliedWord i j None = Unit {0}
  ImpliedWord i j (Some w) = (x y : ℕ → ℤ) → Placement axes.time x → Placement axes.platform y → HoldsWord sizes x y w i j

  -- what is known of a word
  abbrev pub ToldWord : ℕ → ℕ → Word → Standing → Type 0
  ToldWord i j w Implied = ImpliedWord i j (Some w)
  ToldWord i j w Possible = Unit {0}
  ToldWord i j w Impossible = Refuted i j w

-- there is room for a bound on each axis, and for a record, for every pair that is open
pub record Room (most-time most-platform : ℕ) (axes : Meanings) (used space : ℕ) (trials : List Trial) : Type 0 where
  pub in_time : length axes.time.bounds + open_count trials ≤ most-time
  pub on_platform : length axes.platform.bounds + open_count trials ≤ most-platform
  pub on_trail : used + open_count trials ≤ space

-- of the trials below n, the one picked is open, or all have their words
abbrev pub PickedBelow : ℕ → List Trial → Option ℕ → Type 0
PickedBelow n ts None = (k : ℕ) → k < n → is_some (slice_index_or ts k no_trial).word ≡ true
PickedBelow n ts (Some k) = (k < n) × ((slice_index_or ts k no_trial).word ≡ None)

-- which axis a trial's word speaks of, and time where it has none
abbrev pub noted_side : Option Word → Direction
noted_side None = Time
noted_side (Some w) = side w

-- a record is gone from the trail, and that is the axis of its word; or there was none
abbrev pub NewestOff : List Trial → List Trial → Result Direction StackFault → Type 0
NewestOff old new (Ok d) = (x : Trial) × ((old ≡ new ++ x ∷ []) × (d ≡ noted_side x.word))
NewestOff old new (Err _) = old ≡ []

-- the newest record is gone, and a bound from its axis
abbrev pub TakenBack : List Trial → List Trial → Meanings → Meanings → Bool → Type 0
TakenBack old new m m' true = (x : Trial) × ((old ≡ new ++ x ∷ []) × ((r : Result (Unit {0}) AxisFault) × BackOn (noted_side x.word) m r m'))
TakenBack old new m m' false = old ≡ []

-- trial k with the word
abbrev pub worded : List Trial → ℕ → Word → Trial
worded ts k w = record { i = (slice_index_or ts k no_trial).i; j = (slice_index_or ts k no_trial).j; word = Some w }

-- and with none
abbrev pub unworded : List Trial → ℕ → Trial
unworded ts k = record { i = (slice_index_or ts k no_trial).i; j = (slice_index_or ts k no_trial).j; word = None }

abbrev pub entry_of : List Size → List Trial → ℕ → Word → Entry
entry_of sizes ts k w = ruled sizes (slice_index_or ts k no_trial).i (slice_index_or ts k no_trial).j w

-- the bound of the word stands, its trial is on the trail, and the descent can go on from there
pub record WordPut (most-time most-platform : ℕ) (sizes : List Size) (ts ts' : List Trial) (k : ℕ) (w : Word) (m m' : Meanings) (trail trail' : List Trial) (space : ℕ) : Type 0 where
  pub axes : m' ≡ grown m (entry_of sizes ts k w)
  pub tried : ts' ≡ slice_set ts k (worded ts k w)
  pub noted : trail' ≡ trail ++ worded ts k w ∷ []
  pub node : Node m' sizes ts'
  pub room : Room most-time most-platform m' (length trail') space ts'
  pub falls : open_count ts' + 1 ≡ open_count ts

-- so it is, or nothing has changed and no arrangement has the word
abbrev pub Tried : ℕ → ℕ → List Size → List Trial → List Trial → ℕ → Word → Meanings → Meanings → List Trial → List Trial → ℕ → Bool → Type 0
Tried ht hp sizes ts ts' k w m m' trail trail' space true = WordPut ht hp sizes ts ts' k w m m' trail trail' space
Tried ht hp sizes ts ts' k w m m' trail trail' space false =
    Refuted m sizes (slice_index_or ts k no_trial).i (slice_index_or ts k no_trial).j w
    × (m' ≡ m) × (ts' ≡ ts) × (trail' ≡ trail)

-- the words in the order in which they are tried
abbrev pub nth_word : ℕ → Word
nth_word zero = Before
nth_word (suc zero) = After
nth_word (suc (suc zero)) = Nearer
nth_word (suc (suc (suc n))) = Farther
