-- The theory of distances, in one statement on what an axis means.
use Rattle.std.specs.Prelude.{◌≡◌, ℕ, ◌≤◌, ℤ, pos, neg_ℤ, ◌≤ℤ◌, Ok, Err, Result}
use Rattle.axis.specs.declared.model.Bound.{Bound}
use Rattle.axis.specs.declared.model.AxisFault.{AxisFault}
use Rattle.axis.specs.declared.model.AxisFault.TheVariants.{Line}
use Rattle.axis.specs.Meaning.{Meaning, with_bound, lines, Placement, Remains, Largest, Earliest, Shortest, NegativeRing}
use Rattle.axis.specs.Asks.{Valid, Named}
use Rattle.axis.specs.Distance.{distance}

-- each follows from the other
abbrev pub Equally : Type 0 → Type 0 → Type 0
Equally P Q = (P → Q) × (Q → P)

pub record Distances (m : Meaning) : Type 0 where
  -- the largest difference over all placements is the length of a shortest walk, and both are worked out by `distance`
  pub largest : (p q : ℕ) (t : ℤ) → Named (lines m) p q → Equally (Largest m p q t) (t ≡ distance m p q)
  pub shortest : (p q : ℕ) (t : ℤ) → Named (lines m) p q → Equally (Shortest m p q t) (t ≡ distance m p q)
  -- a line is at no distance from itself
  pub itself : (p : ℕ) → p ≤ lines m → distance m p p ≡ pos 0
  -- no placement remains exactly when, with the bound, a closed walk has negative length
  pub refuses : (b : Bound) → Named (lines m) b.p b.q → Equally (¬ (Remains (with_bound m b))) (NegativeRing (with_bound m b))
  -- the largest differences from line 0, negated, are a placement, and the least one in every line at once
  pub earliest : (t : ℕ → ℤ) → ((r : ℕ) → r ≤ lines m → Largest m 0 r (t r)) → Earliest m (λ r. neg_ℤ (t r))

-- it holds of every axis at every time
abbrev pub DistancesHold : Type 0
DistancesHold = (most : ℕ) (m : Meaning) → Valid most m → Distances m

-- the least value of line r over all placements, which some placement has
pub record EarliestValue (m : Meaning) (r : ℕ) (x : ℤ) : Type 0 where
  pub least : (v : ℕ → ℤ) → Placement m v → x ≤ℤ v r
  pub had : (v : ℕ → ℤ) × (Placement m v × (v r ≡ x))

-- and the greatest
pub record LatestValue (m : Meaning) (r : ℕ) (x : ℤ) : Type 0 where
  pub greatest : (v : ℕ → ℤ) → Placement m v → v r ≤ℤ x
  pub had : (v : ℕ → ℤ) × (Placement m v × (v r ≡ x))

abbrev pub EarliestOf : Meaning → ℕ → Result ℤ AxisFault → Type 0
EarliestOf m r (Ok x) = (r ≤ lines m) × EarliestValue m r x
EarliestOf m r (Err f) = (¬ (r ≤ lines m)) × (f ≡ Line)

abbrev pub LatestOf : Meaning → ℕ → Result ℤ AxisFault → Type 0
LatestOf m r (Ok x) = (r ≤ lines m) × LatestValue m r x
LatestOf m r (Err f) = (¬ (r ≤ lines m)) × (f ≡ Line)

-- what the largest difference tells where one of the lines is line 0
pub record Reach (m : Meaning) (p q : ℕ) (t : ℤ) : Type 0 where
  pub named : Named (lines m) p q
  pub near : (neg_ℤ (pos 2880) ≤ℤ t) × (t ≤ℤ pos 2880)
  pub earliest : p ≡ 0 → EarliestValue m q (neg_ℤ t)
  pub latest : q ≡ 0 → LatestValue m p t

abbrev pub ReachOf : Meaning → ℕ → ℕ → Result ℤ AxisFault → Type 0
ReachOf m p q (Ok t) = Reach m p q t
ReachOf m p q (Err f) = (¬ (Named (lines m) p q)) × (f ≡ Line)
