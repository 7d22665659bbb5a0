-- When two boxes overlap, and the words for how they lie.
use Rattle.std.specs.Prelude.{ℕ, ◌-◌, ◌<◌, ◌≤◌, List, length, ℤ, pos, ◌+ℤ◌, ◌-ℤ◌, neg_ℤ, ◌≤ℤ◌, ◌<ℤ◌, slice_index_or}
use Rattle.stack.specs.declared.elements.Word.{Word}
use Rattle.stack.specs.declared.elements.Word.TheVariants.{Before, After, Nearer, Farther}
use Rattle.boxes.specs.declared.model.Size.{Size}
use Rattle.boxes.specs.declared.model.Entry.{Entry}
use Rattle.boxes.specs.declared.model.Direction.{Direction}
use Rattle.boxes.specs.declared.model.Direction.TheVariants.{Time, Platform}

-- what a box of width w holds from x on: the steps, or the metres, from x to x + w - 1
abbrev pub Holds : ℤ → ℕ → ℤ → Type 0
Holds x w s = (x ≤ℤ s) × (s <ℤ (x +ℤ pos w))

abbrev no_size : Size
no_size = record { steps = 0; metres = 0 }

-- a box lasts a step and is a metre long at least, and neither passes the longest span
abbrev pub GoodSize : Size → Type 0
GoodSize s = ((1 ≤ s.steps) × (s.steps ≤ 2880)) × ((1 ≤ s.metres) × (s.metres ≤ 2880))

-- so it is of every box
abbrev pub Sized : List Size → Type 0
Sized sizes = (k : ℕ) → k < length sizes → GoodSize (slice_index_or sizes k no_size)

module _ (sizes : List Size) where
  -- of box i, counted from 1
  abbrev pub wide : ℕ → ℕ
  wide i = (slice_index_or sizes (i - 1) no_size).steps

  abbrev pub long : ℕ → ℕ
  long i = (slice_index_or sizes (i - 1) no_size).metres

  -- the bound that says the word of the boxes i and j, and on which axis
  abbrev pub ruled : ℕ → ℕ → Word → Entry
  ruled i j Before = record { direction = Time; bound = record { p = i; q = j; d = neg_ℤ (pos (wide i)) } }
  ruled i j After = record { direction = Time; bound = record { p = j; q = i; d = neg_ℤ (pos (wide j)) } }
  ruled i j Nearer = record { direction = Platform; bound = record { p = i; q = j; d = neg_ℤ (pos (long i)) } }
  ruled i j Farther = record { direction = Platform; bound = record { p = j; q = i; d = neg_ℤ (pos (long j)) } }

  -- box i stands at the step x i and the metre y i
  module _ (x y : ℕ → ℤ) where
    -- a common step and a common metre
    abbrev pub Overlap : ℕ → ℕ → Type 0
    Overlap i j =
        ((s : ℤ) × (Holds (x i) (wide i) s × Holds (x j) (wide j) s))
        × ((m : ℤ) × (Holds (y i) (long i) m × Holds (y j) (long j) m))

    abbrev pub HoldsWord : Word → ℕ → ℕ → Type 0
    HoldsWord Before i j = (x i +ℤ pos (wide i)) ≤ℤ x j
    HoldsWord After i j = (x j +ℤ pos (wide j)) ≤ℤ x i
    HoldsWord Nearer i j = (y i +ℤ pos (long i)) ≤ℤ y j
    HoldsWord Farther i j = (y j +ℤ pos (long j)) ≤ℤ y i

    -- no two boxes overlap
    abbrev pub Free : Type 0
    Free = (i j : ℕ) → 1 ≤ i → i < j → j ≤ length sizes → ¬ (Overlap i j)

abbrev pub in_direction : {V : Type 0} → V → V → Direction → V
in_direction time platform Time = time
in_direction time platform Platform = platform

-- which axis a word speaks of
abbrev pub side : Word → Direction
side Before = Time
side After = Time
side Nearer = Platform
side Farther = Platform

-- the values of its direction keep the bound
abbrev pub Keeps : (ℕ → ℤ) → (ℕ → ℤ) → Entry → Type 0
Keeps x y e = (in_direction x y e.direction e.bound.p -ℤ in_direction x y e.direction e.bound.q) ≤ℤ e.bound.d

-- two boxes are free of overlap exactly when one of the four words holds
abbrev pub WordsTell : Type 0
WordsTell = (sizes : List Size) → Sized sizes → (x y : ℕ → ℤ) (i j : ℕ) → (1 ≤ i) × (i ≤ length sizes) → (1 ≤ j) × (j ≤ length sizes)
    → (¬ (Overlap sizes x y i j) → (w : Word) × HoldsWord sizes x y w i j) × ((w : Word) → HoldsWord sizes x y w i j → ¬ (Overlap sizes x y i j))
