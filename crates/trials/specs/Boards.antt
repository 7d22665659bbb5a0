-- A board: boxes of some sizes on two axes, their trials, and the trail of the words put so far.
use Rattle.std.specs.Prelude.{◌≡◌, ℕ, ◌+◌, ◌<◌, ◌≤◌, Bool, true, false, List, [], ◌∷◌, ◌++◌, length, None, Ok, Err, Option, Result, slice_index_or, slice_set}
use Rattle.std.specs.Borrow.{MutBor}
use Rattle.stack.specs.declared.elements.Word.{Word}
use Rattle.stack.specs.declared.elements.Trial.{Trial}
use Rattle.stack.specs.declared.fault.StackFault.{StackFault}
use Rattle.stack.specs.Stacks.{contents, memory}
use Rattle.stack.specs.declared.Stack.{Stack}
use Rattle.axis.specs.declared.model.AxisFault.{AxisFault}
use Rattle.axis.specs.Meaning.{lines, Earliest}
use Rattle.boxes.specs.declared.model.Size.{Size}
use Rattle.boxes.specs.declared.model.Place.{Place}
use Rattle.boxes.specs.declared.order.TheConstants.{MOST_PAIRS}
use Rattle.boxes.specs.Overlaps.{Sized}
use Rattle.boxes.specs.Order.{pairs, no_trial}
use Rattle.boxes.specs.Arranged.{step_of, metre_of}
use Rattle.moves.specs.Meanings.{Meanings, grown}
use Rattle.moves.specs.Moves.{BackOn}
use Rattle.trials.specs.Trials.{open_count, Node, Room, Refuted, ImpliedWord, noted_side, worded, unworded, entry_of}
use Rattle.trials.specs.declared.board.Board.{Board}

-- boxes on axes that have a line for each and at most 24 bounds; a place for each box, and a record for each pair
pub record Fits (axes : Meanings) (sizes : List Size) (places : List Place) (trials : List Trial) : Type 0 where
  pub sized : Sized sizes
  pub timed : lines axes.time ≡ length sizes
  pub placed : lines axes.platform ≡ length sizes
  pub few : (length axes.time.bounds ≤ 24) × (length axes.platform.bounds ≤ 24)
  pub for_each : length places ≡ length sizes
  pub for_pairs : length trials ≡ pairs (length sizes)

-- no words on it yet, and space for twelve boxes
abbrev pub NoWords : Stack Trial → Type 0
NoWords trail = (contents trail ≡ []) × (length (memory trail) ≡ MOST_PAIRS)

module _ {T P : Type 0} where
  -- the board is on these loans
  abbrev pub OnLoan : MutBor Meanings → MutBor (List Place) → MutBor (List Trial) → MutBor (Stack Trial) → Board T P → Type 0
  OnLoan axes places trials trail b = (b.axes.ghost_name ≡ axes.ghost_name) × (b.places.ghost_name ≡ places.ghost_name) × (b.trials.ghost_name ≡ trials.ghost_name) × (b.trail.ghost_name ≡ trail.ghost_name)

  -- trial k is there, and has no word yet
  abbrev pub Open : Board T P → ℕ → Type 0
  Open b k = (k < length b.trials.now) × ((slice_index_or b.trials.now k no_trial).word ≡ None)

  -- no arrangement has the word for trial k
  abbrev pub RefutedAt : Board T P → ℕ → Word → Type 0
  RefutedAt b k w = Refuted b.axes.now b.sizes.now (slice_index_or b.trials.now k no_trial).i (slice_index_or b.trials.now k no_trial).j w

  -- every two placements have it
  abbrev pub ImpliedAt : Board T P → ℕ → Option Word → Type 0
  ImpliedAt b k w = ImpliedWord b.axes.now b.sizes.now (slice_index_or b.trials.now k no_trial).i (slice_index_or b.trials.now k no_trial).j w

  -- at most twelve boxes, a place for each; their words so far stand, and there is room for those to come
  pub record Ready (most-time most-platform : ℕ) (b : Board T P) : Type 0 where
    pub node : Node b.axes.now b.sizes.now b.trials.now
    pub room : Room most-time most-platform b.axes.now (length (contents b.trail.now)) (length (memory b.trail.now)) b.trials.now
    pub few : length b.sizes.now ≤ 12
    pub for_each : length b.places.now ≡ length b.sizes.now

  -- b' has the boxes, the loans and the space for the trail that b has, and its axes, trials, places and trail stand so
  pub record Becomes (b b' : Board T P) (m : Meanings) (ts : List Trial) (ps : List Place) (noted : List Trial) : Type 0 where
    pub axes : b'.axes.now ≡ m
    pub trials : b'.trials.now ≡ ts
    pub places : b'.places.now ≡ ps
    pub trail : contents b'.trail.now ≡ noted
    pub sizes : b'.sizes.now ≡ b.sizes.now
    pub space : length (memory b'.trail.now) ≡ length (memory b.trail.now)
    pub loans : OnLoan b.axes b.places b.trials b.trail b'

  -- nothing has changed
  abbrev pub Unchanged : Board T P → Board T P → Type 0
  Unchanged b b' = Becomes b b' b.axes.now b.trials.now b.places.now (contents b.trail.now)

  -- the bound of the word stands, its trial is on the trail, and the descent can go on from there
  pub record Below (most-time most-platform k : ℕ) (w : Word) (b b' : Board T P) : Type 0 where
    pub put : Becomes b b' (grown b.axes.now (entry_of b.sizes.now b.trials.now k w)) (slice_set b.trials.now k (worded b.trials.now k w)) b.places.now (contents b.trail.now ++ worded b.trials.now k w ∷ [])
    pub ready : Ready most-time most-platform b'
    pub falls : open_count b'.trials.now + 1 ≡ open_count b.trials.now

  -- so it is, or nothing has changed and no arrangement has the word
  abbrev pub Entered : ℕ → ℕ → ℕ → Word → Board T P → Board T P → Bool → Type 0
  Entered ht hp k w b b' true = Below ht hp k w b b'
  Entered ht hp k w b b' false = RefutedAt b k w × Unchanged b b'

  -- a bound has gone from the axis of the newest record, or there was none
  abbrev pub NewestGone : Board T P → Board T P → Result (Unit {0}) StackFault → Type 0
  NewestGone b b' (Ok _) = (x : Trial) × ((contents b.trail.now ≡ contents b'.trail.now ++ x ∷ []) × ((r : Result Unit AxisFault) × BackOn (noted_side x.word) b.axes.now r b'.axes.now))
  NewestGone b b' (Err _) = contents b.trail.now ≡ []

  -- so it is, and nothing else has changed
  pub record BackedUp (b b' : Board T P) (result : Result (Unit {0}) StackFault) : Type 0 where
    pub newest : NewestGone b b' result
    pub rest : Becomes b b' b'.axes.now b.trials.now b.places.now (contents b'.trail.now)

  -- trial k has no word again, and nothing else has changed
  abbrev pub Reopened : ℕ → Board T P → Board T P → Type 0
  Reopened k b b' = Becomes b b' b.axes.now (slice_set b.trials.now k (unworded b.trials.now k)) b.places.now (contents b.trail.now)

  -- each box stands at its earliest step and its nearest metre, and nothing else has changed
  pub record Placed (b b' : Board T P) : Type 0 where
    pub timely : Earliest b.axes.now.time (step_of b'.places.now)
    pub nearest : Earliest b.axes.now.platform (metre_of b'.places.now)
    pub for_each : length b'.places.now ≡ length b.sizes.now
    pub rest : Becomes b b' b.axes.now b.trials.now b'.places.now (contents b.trail.now)
