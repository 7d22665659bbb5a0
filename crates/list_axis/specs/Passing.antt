-- What relaxing some edges does to the lengths from one line.
use Rattle.std.specs.Prelude.{◌≡◌, ◌<◌, Bool, true, false, List, ℤ}
use Rattle.axis.specs.Meaning.{Meaning}
use Rattle.list_axis.specs.Rows.{total}
use Rattle.list_axis.specs.declared.lengths.Lengths.{Lengths}

-- a length fell, or nothing changed, and then K holds
pub record Passed (K : Meaning → List ℤ → Type 0) (before after : Lengths) (changed : Bool) : Type 0 where
  pub ledger : after.ledger.now ≡ before.ledger.now
  pub start : after.start ≡ before.start
  pub fell : changed ≡ true → total after.row < total before.row
  pub still : changed ≡ false → after.row ≡ before.row
  pub kept : changed ≡ false → K before.ledger.now after.row
