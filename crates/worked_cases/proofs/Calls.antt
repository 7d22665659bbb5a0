-- One call on a journal whose computed lengths are right.
use Rattle.std.proofs.Common.{◌≡◌, ℕ, ◌<◌, length, ℤ, pos, ◌+ℤ◌, ◌≤ℤ◌, ◌<ℤ◌, inl, inr, refl, subst}
use Rattle.axis.specs.declared.model.Bound.{Bound}
use Rattle.axis.specs.Meaning.{lines, Largest}
use Rattle.axis.specs.Asks.{Named, InReach}
use Rattle.axis.specs.Distance.{distance, Right}
use Rattle.axis.proofs.Tables.{right_largest}
use Rattle.axis.proofs.Distances.{right_remains, right_refuses}
use Rattle.boxes.specs.declared.model.Direction.{Direction}
use Rattle.boxes.specs.declared.model.Direction.TheVariants.{Time}
use Rattle.journal.specs.Journal.{Journal, axis_of, bounds_on}
use Rattle.journal.specs.Asks.{entry_asks}
use Rattle.journal.specs.Steps.{Step, ask, difference}
use Rattle.axis.specs.Questions.{AllYes, FirstNo}
use Rattle.faults.specs.declared.model.SheetFault.TheVariants as refuse
use Rattle.axis.specs.declared.model.AxisFault.TheVariants.{NoPlacement}
use Rattle.worked_cases.specs.Cases.{T}

module _ (k : Journal) (d : Direction) where
  abbrev pub Fits : Type 0
  Fits = Right (axis_of d k) (distance (axis_of d k))

  module _ (r : Fits) (b : Bound) (few : length (bounds_on d k.entries) < 24) (named : Named (length k.stays) b.p b.q) (line : Named (lines (axis_of d k)) b.p b.q) (reach : InReach b.d) where
    -- a bound that leaves a placement, and one that leaves none
    pub entry_yes : pos 0 ≤ℤ (b.d +ℤ distance (axis_of d k) b.q b.p) → AllYes (entry_asks k (record { direction = d; bound = b }))
    entry_yes h = (few, (named, (reach, (right_remains (axis_of d k) (distance (axis_of d k)) r b line h, tt))))

    pub entry_no : (b.d +ℤ distance (axis_of d k) b.q b.p) <ℤ pos 0 → FirstNo (entry_asks k (record { direction = d; bound = b })) (refuse.Axis NoPlacement)
    entry_no h = inr (few, inr (named, inr (reach, inl (right_refuses (axis_of d k) (distance (axis_of d k)) r b line h, refl))))

pub ask_told : (k : Journal) (p q : ℕ) (t : ℤ) → Fits k Time → Named (length k.stays) p q → Named (lines (axis_of Time k)) p q → distance (axis_of Time k) p q ≡ t → Step k (ask T p q) (difference t) k
ask_told k p q t r named line e = ((named, tt), ((Time, (refl, (t, (refl, subst (Largest (axis_of Time k) p q) e (right_largest (axis_of Time k) (distance (axis_of Time k)) r p q line.0 line.1))))), refl))
