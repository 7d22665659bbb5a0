-- What a descent from some board answers, and what it leaves as it was.
use Rattle.std.specs.Prelude.{◌≡◌, ℕ, ◌<◌, ◌≤◌, Bool, true, false, List, map, length, ℤ, ◌≤ℤ◌, Some, slice_index_or}
use Rattle.stack.specs.declared.elements.Word.{Word}
use Rattle.stack.specs.declared.elements.Trial.{Trial}
use Rattle.stack.specs.Stacks.{contents}
use Rattle.axis.specs.Meaning.{Placement}
use Rattle.boxes.specs.declared.model.Size.{Size}
use Rattle.boxes.specs.declared.model.Place.{Place}
use Rattle.boxes.specs.Order.{pair_of, no_trial}
use Rattle.boxes.specs.Arranged.{step_of, metre_of, KeepsWords, NoArrangement}
use Rattle.moves.specs.Meanings.{Meanings}
use Rattle.trials.specs.declared.board.Board.{Board}
use Rattle.trials.specs.Boards.{Becomes, Unchanged}

-- places for all boxes, least under the words of all pairs, those that were there among them
pub record Reached (axes : Meanings) (sizes : List Size) (before after : List Trial) (places : List Place) : Type 0 where
  pub kept : (k : ℕ) → k < length before → (w : Word) → (slice_index_or before k no_trial).word ≡ Some w → slice_index_or after k no_trial ≡ slice_index_or before k no_trial
  pub pairs : map pair_of after ≡ map pair_of before
  pub for_each : length places ≡ length sizes
  pub timely : Placement axes.time (step_of places)
  pub placed : Placement axes.platform (metre_of places)
  pub words : KeepsWords sizes (step_of places) (metre_of places) after
  pub least : (x y : ℕ → ℤ) → Placement axes.time x → Placement axes.platform y → KeepsWords sizes x y after
      → (i : ℕ) → i ≤ length sizes → (step_of places i ≤ℤ x i) × (metre_of places i ≤ℤ y i)

module _ {T P : Type 0} where
  -- no arrangement of the boxes on the two axes
  abbrev pub Unarranged : Board T P → Type 0
  Unarranged b = NoArrangement b.axes.now.time b.axes.now.platform b.sizes.now

  -- found, and both axes and the trail are as they were
  pub record Reaches (b b' : Board T P) : Type 0 where
    pub found : Reached b.axes.now b.sizes.now b.trials.now b'.trials.now b'.places.now
    pub rest : Becomes b b' b.axes.now b'.trials.now b'.places.now (contents b.trail.now)

  -- so it is, or nothing has changed and Q holds
  abbrev pub Explored : Type 0 → Board T P → Board T P → Bool → Type 0
  Explored Q b b' true = Reaches b b'
  Explored Q b b' false = Q × Unchanged b b'
