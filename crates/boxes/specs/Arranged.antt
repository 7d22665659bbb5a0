-- Arrangements of boxes on two axes, and what is answered to whoever asks for one.
use Rattle.std.specs.Prelude.{◌≡◌, ℕ, ◌≤◌, List, map, length, ℤ, pos, ◌≤ℤ◌, Some, None, Option}
use Rattle.std.specs.List.{AllByRecursion}
use Rattle.stack.specs.declared.elements.Word.{Word}
use Rattle.stack.specs.declared.elements.Trial.{Trial}
use Rattle.axis.specs.Meaning.{Meaning, at_line, Placement}
use Rattle.boxes.specs.declared.model.Size.{Size}
use Rattle.boxes.specs.declared.model.Place.{Place}
use Rattle.boxes.specs.Overlaps.{HoldsWord, Free}
use Rattle.boxes.specs.Order.{trial_order, pair_of}

-- line 0 is at 0, and box i, counted from 1, at its place
abbrev pub step_of : List Place → ℕ → ℤ
step_of ps i = at_line (map (λ p. pos p.step) ps) i

abbrev pub metre_of : List Place → ℕ → ℤ
metre_of ps i = at_line (map (λ p. pos p.metre) ps) i

module _ (sizes : List Size) where
  abbrev pub HoldsTrial : (ℕ → ℤ) → (ℕ → ℤ) → ℕ → ℕ → Option Word → Type 0
  HoldsTrial x y i j None = ⊥
  HoldsTrial x y i j (Some w) = HoldsWord sizes x y w i j

  -- every trial has a word that holds
  abbrev pub KeepsWords : (ℕ → ℤ) → (ℕ → ℤ) → List Trial → Type 0
  KeepsWords x y ts = AllByRecursion (λ t. HoldsTrial x y t.i t.j t.word) ts

module _ (time platform : Meaning) (sizes : List Size) where
  -- placements of both axes without overlap
  pub record Arrangement (x y : ℕ → ℤ) : Type 0 where
    pub timely : Placement time x
    pub placed : Placement platform y
    pub free : Free sizes x y

  abbrev pub NoArrangement : Type 0
  NoArrangement = (x y : ℕ → ℤ) → ¬ (Arrangement x y)

  -- an arrangement in the order of the boxes, a word that holds for each pair in the order of trials, and no earlier or nearer place under those words
  pub record Arranged (places : List Place) (trials : List Trial) : Type 0 where
    pub for_each : length places ≡ length sizes
    pub arrangement : Arrangement (step_of places) (metre_of places)
    pub in_order : map pair_of trials ≡ trial_order (length sizes)
    pub words : KeepsWords sizes (step_of places) (metre_of places) trials
    pub least : (x y : ℕ → ℤ) → Placement time x → Placement platform y → KeepsWords sizes x y trials
        → (i : ℕ) → i ≤ length sizes → (step_of places i ≤ℤ x i) × (metre_of places i ≤ℤ y i)
